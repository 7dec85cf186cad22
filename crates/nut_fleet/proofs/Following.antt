-- A monitor says FSD only once its shutdown has begun.
use Rattle.std.proofs.Common.{◌≡◌, ◌⊎◌, ℕ, suc, ◌≤◌, ◌==◌, not, length, inl, inr, List, [], ◌∷◌, ◌++◌, take, drop, Bool, true, false, Option, Some, None, is_none, is_some, refl, sym, ◌∙◌, ap, subst, arith}
use Rattle.std.specs.Prelude.{if◌then◌else◌}
use Rattle.std.specs.List.{AllByRecursion}
use Rattle.std.proofs.lemmas.Bool.{and_parts, cases_Bool, cases_eq, eqb-true, eq-eqb}
use Rattle.std.proofs.lemmas.Slice.Eq.{bytes_eq-Decides}
use Rattle.std.proofs.lemmas.List.{take-append-drop}
use Rattle.nut_words.specs.Lines.{LineText, lines}
use Rattle.nut_words.specs.Quoting.{Begins}
use Rattle.nut_proto.specs.declared.request.Request.TheVariants as requests
use Rattle.nut_server_spec.specs.Acceptance as server_tests
use Rattle.nut_server_spec.specs.Command.{Asks, command_of}
use Rattle.nut_server_spec.specs.Content.{content, past as server_past}
use Rattle.nut_server_spec.specs.Event as arrivals
use Rattle.nut_server_spec.specs.Event.{Said}
use Rattle.nut_server_spec.specs.Trace as server
use Rattle.nut_server_spec.specs.Trace.{opened}
use Rattle.nut_server_spec.specs.laws.Rights.{AtSome, Gets}
use Rattle.nut_server_spec.proofs.Others.{closed-stays}
use Rattle.nut_monitor_spec.specs.Acceptance as monitor_tests
use Rattle.nut_monitor_spec.specs.Trace as monitor
use Rattle.nut_monitor_spec.specs.declared.LastQuery.{LastQuery}
use Rattle.nut_monitor_spec.specs.declared.Notice.{Notice}
use Rattle.nut_monitor_spec.specs.declared.Phase.TheVariants.{Forcing}
use Rattle.nut_monitor_spec.specs.declared.Query.{Query}
use Rattle.nut_monitor_spec.specs.declared.Query.TheVariants.{Fsd}
use Rattle.nut_monitor_spec.specs.Configuration.{Configuration, Line}
use Rattle.nut_monitor_spec.specs.Decision.{is_early, unless_early}
use Rattle.nut_monitor_spec.specs.Event.{Event, Linked, NoticeTaken}
use Rattle.nut_monitor_spec.specs.Query.{request}
use Rattle.nut_monitor_spec.specs.Trace.{Asked, Entry, asked_in, begun, came, clock, clock_after, entry_of, has_begun, is_any, is_short, joined_queries, or_else, phase, queries, query_put, since_linked, taken, trace}
use Rattle.nut_monitor_spec.proofs.Settled.{entry_is, phase-same}
use Rattle.nut_fleet.specs.Exchange.{Exchange, exchanges, exchanges_after}
use Rattle.nut_fleet.specs.Fleet.{IsSetup, IsSpoken}
use Rattle.nut_fleet.specs.Halting.{FsdsFollowShutdowns}
use Rattle.nut_fleet.specs.Schedule.{Step, IsFront}
use Rattle.nut_fleet.specs.Shown.{query_line}
use Rattle.nut_fleet.specs.World.{Setup, World, Tell, Join, Renew, Meet, address_of, after, all_taken, are_next, for_monitor, has_link, informed, is_linked, is_of_link, is_open, is_unknown, known, line_of, monitor_of, seen, served, world}
use Rattle.nut_fleet.proofs.Deeds.{IsFair, each-deed-open}
use Rattle.nut_fleet.proofs.Entries.{entry-queries}
use Rattle.nut_fleet.proofs.Exchanges.{said-lines}
use Rattle.nut_fleet.proofs.Fronts.{begins-next, lines-begin}
use Rattle.nut_fleet.proofs.Others.{unknown}
use Rattle.nut_fleet.proofs.Replying.{query-command}
use Rattle.nut_fleet.proofs.Server.{is_of, opened-grows, other-exchanges, other-input}
use Rattle.nut_fleet.proofs.Sound.{IsLawful}
use Rattle.nut_fleet.proofs.Steps.{for-other, for-own, given-anew, spoken, zero-closed}
use Rattle.nut_fleet.proofs.Texts.{queries-lines}
use Rattle.nut_fleet.proofs.Turns.{all-map, in_turn}
use Rattle.nut_fleet.proofs.Worlds.{sound}

-- ---- FSD is put only in Forcing

unless-some : (configuration : Configuration) (time : ℕ) (asked : Option Query) (last : Option LastQuery) (query : Query) →
    unless_early configuration time asked last ≡ Some query → asked ≡ Some query
unless-some configuration time None last query is = cc
unless-some configuration time (Some asked) last query is = by (is_early configuration time asked last) is
  where
    by : (b : Bool) → (let o : Option Query = if b then None else Some asked in o) ≡ Some query → Some asked ≡ Some query
    by true is = cc
    by false is = is

forcing-begun : (configuration : Configuration) (past : List Entry) → phase configuration past ≡ Forcing → has_begun configuration past ≡ true
forcing-begun configuration past is = grind arith

put-forcing : (configuration : Configuration) (past : List Entry) (i : ℕ) → query_put configuration past i ≡ Some Fsd → phase configuration past ≡ Forcing
put-forcing configuration past i is = grind (arith, unless-some)

-- ---- a shutdown stays begun

begun-entry : (configuration : Configuration) (past : List Entry) (entry : Entry) → has_begun configuration past ≡ true → has_begun configuration (entry ∷ past) ≡ true
begun-entry configuration past entry is = by (begun configuration past) is
  where
    by : (older : List Entry) → is_any older ≡ true → is_any (or_else older (if is_short configuration (entry ∷ past) then entry ∷ past else [])) ≡ true
    by [] is = cc
    by (e ∷ older) is = refl

put-begun : (configuration : Configuration) (past : List Entry) (event : Event) (i : ℕ) → query_put configuration (came configuration past event ∷ past) i ≡ Some Fsd →
    has_begun configuration (entry_of configuration past event ∷ past) ≡ true
put-begun configuration past event i is = grind (arith, forcing-begun, entry_is, phase-same, put-forcing)

-- each FSD that was put since the link was made was put once the shutdown had begun
queries-begun : (configuration : Configuration) (i : ℕ) (told : List Event) →
    AllByRecursion (λ (a : Asked). a.query ≡ Fsd → has_begun configuration (trace configuration told) ≡ true) (queries i (trace configuration told))
queries-begun configuration i [] = tt
queries-begun configuration i (event ∷ told) =
    let past = trace configuration told in
    let Now = λ (a : Asked). a.query ≡ Fsd → has_begun configuration (entry_of configuration past event ∷ past) ≡ true in
    let older : AllByRecursion (λ (a : Asked). a.query ≡ Fsd → has_begun configuration (entry_of configuration past event ∷ past) ≡ true) (queries i past) =
    all-map (λ (a : Asked). a.query ≡ Fsd → has_begun configuration past ≡ true) Now
    (λ a was is. begun-entry configuration past (entry_of configuration past event) (was is)) (queries i past) (queries-begun configuration i told) in
    subst (AllByRecursion Now) (sym (entry-queries configuration past event i))
    (put (query_put configuration (came configuration past event ∷ past) i) (since_linked [] i event (queries i past))
    (put-begun configuration past event i)
    (since event (queries i past) older))
  where
    put : (o : Option Query) (asked : List Asked) → (o ≡ Some Fsd → has_begun configuration (entry_of configuration (trace configuration told) event ∷ trace configuration told) ≡ true) →
        AllByRecursion (λ (a : Asked). a.query ≡ Fsd → has_begun configuration (entry_of configuration (trace configuration told) event ∷ trace configuration told) ≡ true) asked →
        AllByRecursion (λ (a : Asked). a.query ≡ Fsd → has_begun configuration (entry_of configuration (trace configuration told) event ∷ trace configuration told) ≡ true)
        (asked_in (clock_after event (clock (trace configuration told))) (suc (length (trace configuration told))) o asked)
    put None asked new all = all
    put (Some query) asked new all = ((λ is. new (ap (λ x. Some x) is)), all)

    since : (e : Event) (asked : List Asked) →
        AllByRecursion (λ (a : Asked). a.query ≡ Fsd → has_begun configuration (entry_of configuration (trace configuration told) event ∷ trace configuration told) ≡ true) asked →
        AllByRecursion (λ (a : Asked). a.query ≡ Fsd → has_begun configuration (entry_of configuration (trace configuration told) event ∷ trace configuration told) ≡ true)
        (since_linked [] i e asked)
    since (Linked j) asked all = elim (cases_Bool (j == i)) [ inl new ↦ rw new tt | inr old ↦ rw old all ]
    since e asked all = all

-- ---- lines in turn

module _ {A : Type 0} (text : A → LineText) (P : LineText → Type 0) where
  all-behind : (xs : List LineText) (y : LineText) → AllByRecursion P xs → P y → AllByRecursion P (xs ++ y ∷ [])
  all-behind [] y all last = (last, tt)
  all-behind (x ∷ xs) y all last = (all.0, all-behind xs y all.1 last)

  all-front : (xs ys : List LineText) → AllByRecursion P (xs ++ ys) → AllByRecursion P xs
  all-front [] ys all = tt
  all-front (x ∷ xs) ys all = (all.0, all-front xs ys all.1)

  all-last : (xs : List LineText) (y : LineText) → AllByRecursion P (xs ++ y ∷ []) → P y
  all-last [] y all = all.0
  all-last (x ∷ xs) y all = all-last xs y all.1

  turn-all : (xs : List A) → AllByRecursion (λ x. P (text x)) xs → AllByRecursion P (in_turn text xs)
  turn-all [] all = tt
  turn-all (x ∷ older) all = all-behind (in_turn text older) (text x) (turn-all older all.1) all.0

  all-turn : (xs : List A) → AllByRecursion P (in_turn text xs) → AllByRecursion (λ x. P (text x)) xs
  all-turn [] all = tt
  all-turn (x ∷ older) all = (all-last (in_turn text older) (text x) all, all-turn older (all-front (in_turn text older) (text x ∷ []) all))

fsd-query : (line : Line) (query : Query) (ups : List ℕ) → Asks (request line query) ≡ Asks (requests.Fsd ups) → query ≡ Fsd
fsd-query line query ups is = grind arith

-- a line that asks for FSD was said only once the monitor's shutdown had begun
abbrev IsLate : Configuration → List Entry → LineText → Type 0
IsLate configuration past text = (ups : List ℕ) → command_of text ≡ Asks (requests.Fsd ups) → has_begun configuration past ≡ true

-- the first lines of a text
lines-late : (configuration : Configuration) (past : List Entry) (x y : List ℕ) → Begins x y → AllByRecursion (IsLate configuration past) (lines y) →
    AllByRecursion (IsLate configuration past) (lines x)
lines-late configuration past x y begins all =
    let part = lines-begin x y begins in
    all-front (λ (text : LineText). text) (IsLate configuration past) (lines x) part.0 (subst (AllByRecursion (IsLate configuration past)) part.1 all)

-- what was put into the pipe of a link
sent-late : (setup : Setup) (m i : ℕ) (told : List Event) → IsSpoken (line_of setup m i) →
    AllByRecursion (IsLate (monitor_of setup m) (trace (monitor_of setup m) told)) (lines (monitor.sent (monitor_of setup m) i (trace (monitor_of setup m) told)))
sent-late setup m i told spoken =
    let config = monitor_of setup m in
    let t = trace config told in
    let line = line_of setup m i in
    let asked = queries i t in
    let due = joined_queries line asked in
    let put : AllByRecursion (λ (a : Asked). IsLate config t (query_line line a.query)) asked =
    all-map (λ (a : Asked). a.query ≡ Fsd → has_begun config t ≡ true) (λ (a : Asked). IsLate config t (query_line line a.query))
    (λ a late ups asks. late (fsd-query line a.query ups (sym (query-command line a.query spoken) ∙ asks))) asked (queries-begun config i told) in
    let all : AllByRecursion (IsLate config t) (lines due) =
    subst (AllByRecursion (IsLate config t)) (sym (queries-lines line asked spoken.writable).0) (turn-all (λ (a : Asked). query_line line a.query) (IsLate config t) asked put) in
    lines-late config t (take (taken i t) due) due (drop (taken i t) due, sym (take-append-drop (taken i t) due)) all

-- what was said on a connection, if what came on it is the beginning of such a text
exchanges-late : (setup : Setup) (configuration : Configuration) (past : List Entry) (c : ℕ) (h : List arrivals.Event) (sent : List ℕ) → Begins (arrivals.input c h) sent →
    AllByRecursion (IsLate configuration past) (lines sent) →
    AllByRecursion (λ (x : Exchange). IsLate configuration past x.line) (exchanges c (server_past setup.server h))
exchanges-late setup configuration past c h sent begins all =
    all-turn (λ (x : Exchange). x.line) (IsLate configuration past) (exchanges c (server_past setup.server h))
    (subst (AllByRecursion (IsLate configuration past)) (said-lines setup.server h c) (lines-late configuration past (arrivals.input c h) sent begins all))

-- ---- as the schedule continues

-- what holds of a monitor's past, and stays with each event, stays with each step
module _ (setup : Setup) (m : ℕ) (Q : List Entry → Type 0) (more : (entry : Entry) (past : List Entry) → Q past → Q (entry ∷ past)) where
  taken-keeps : (configuration : Configuration) (notices : List Notice) (told : List Event) → Q (trace configuration told) → Q (trace configuration (all_taken notices told))
  taken-keeps configuration [] told q = q
  taken-keeps configuration (notice ∷ notices) told q =
      taken-keeps configuration notices (NoticeTaken ∷ told) (more (entry_of configuration (trace configuration told) NoticeTaken) (trace configuration told) q)

  informed-keeps : (configuration : Configuration) (told : List Event) (event : Event) → Q (trace configuration told) → Q (trace configuration (informed configuration told event))
  informed-keeps configuration told event q = grind (arith, taken-keeps)

  for-keeps : (k : ℕ) (event : Event) (w : World) → Q (seen setup w m) →
      Q (trace (monitor_of setup m) (for_monitor k (informed (monitor_of setup k) (w.monitor k) event) w.monitor m))
  for-keeps k event w q = grind (arith, w, cases_eq, for-own, informed-keeps, for-other)

  pub step-keeps : (step : Step) (s : List Step) → Q (seen setup (world setup s) m) → Q (seen setup (world setup (step ∷ s)) m)
  step-keeps step s q = grind (arith, each-deed-open, for-keeps)

pub begun-later : (setup : Setup) (m : ℕ) (step : Step) (s : List Step) → has_begun (monitor_of setup m) (seen setup (world setup s) m) ≡ true →
    has_begun (monitor_of setup m) (seen setup (world setup (step ∷ s)) m) ≡ true
begun-later setup m step s is =
    step-keeps setup m (λ past. has_begun (monitor_of setup m) past ≡ true) (λ entry past begun. begun-entry (monitor_of setup m) past entry begun) step s is

shut-none : {A : Type 0} (o : Option A) → is_some o ≡ false → o ≡ None
shut-none o is = grind arith

option-cases : {A : Type 0} (o : Option A) → (o ≡ None) ⊎ (o ≡ None → ⊥)
option-cases None = inl refl
option-cases (Some x) = inr (λ e. cc)

module _ (setup : Setup) (law : IsLawful setup.server) (fine : IsSetup setup) (m i : ℕ) (there : has_link setup m i ≡ true) where
  -- the shutdown of monitor m has begun
  abbrev Begun : World → Type 0
  Begun w = has_begun (monitor_of setup m) (seen setup w m) ≡ true

  -- a line that asks for FSD was said only once it had begun
  abbrev IsLateIn : World → LineText → Type 0
  IsLateIn w text = IsLate (monitor_of setup m) (seen setup w m) text

  late-later : (step : Step) (s : List Step) (texts : List LineText) → AllByRecursion (IsLateIn (world setup s)) texts → AllByRecursion (IsLateIn (world setup (step ∷ s))) texts
  late-later step s texts all =
      all-map (IsLateIn (world setup s)) (IsLateIn (world setup (step ∷ s))) (λ text late ups asks. begun-later setup m step s (late ups asks)) texts all

  -- its monitor gave up connection c of link i, and what came on it is the beginning of what the monitor put into its pipe
  record IsGivenUp (now : World) (c : ℕ) (h : List arrivals.Event) (connection : ℕ → ℕ → ℕ) (given_up : Option (List ℕ)) : Type 0 where
    pub sent : List ℕ
    pub is : given_up ≡ Some sent
    pub begins : Begins (arrivals.input c h) sent
    pub late : AllByRecursion (IsLateIn now) (lines sent)
    pub apart : (k j : ℕ) → has_link setup k j ≡ true → connection k j ≡ c → ⊥
    pub old : c ≤ opened (server_past setup.server h)
    pub some : c ≡ 0 → ⊥

  -- it is closed, and won't be opened again
  abbrev IsClosed : ℕ → List arrivals.Event → Type 0
  IsClosed c h = (server_tests.session_of c (content setup.server h).sessions ≡ None) × (c ≤ opened (server_past setup.server h))

  -- c is the connection of link i, or was it
  abbrev Stands : World → ℕ → World → Type 0
  Stands now c w = (w.connection m i ≡ c) ⊎ (IsClosed c w.server ⊎ IsGivenUp now c w.server w.connection (w.given_up c))

  stays-closed : (c : ℕ) (event : arrivals.Event) (h : List arrivals.Event) → server_tests.IsAccepted setup.server (event ∷ h) → IsClosed c h → IsClosed c (event ∷ h)
  stays-closed c event h accepted closed = grind (arith, c, opened-grows, closed-stays)

  zero-stays : (h : List arrivals.Event) → IsClosed 0 h
  zero-stays h = (zero-closed setup h, omega arith)

  module _ (step : Step) (s : List Step) where
    abbrev w : World
    w = world setup s

    abbrev now : World
    now = world setup (step ∷ s)

    next-accepted : (v : World) → world setup (step ∷ s) ≡ v → server_tests.IsAccepted setup.server v.server
    next-accepted v same = subst (λ x. server_tests.IsAccepted setup.server x.server) same ((sound setup law fine (step ∷ s)).accepted)

    -- ---- a connection that was given up

    module _ (c : ℕ) (g : IsGivenUp (world setup s) c (world setup s).server (world setup s).connection ((world setup s).given_up c)) where
      -- what comes on it is what is on its way
      more : (event : arrivals.Event) → IsFair setup w event → Begins (arrivals.input c (event ∷ w.server)) g.sent
      more event fair = elim (cases_Bool (is_of c event)) [
        | inr other ↦ subst (λ x. Begins x g.sent) (sym (other-input c event w.server other)) g.begins
        | inl own ↦ by event fair own
      ]
        where
          by : (event : arrivals.Event) → IsFair setup w event → is_of c event ≡ true → Begins (arrivals.input c (event ∷ w.server)) g.sent
          by (arrivals.Bytes d piece) (inl link) own = absurd (g.apart link.0 link.1 link.2 (link.3 ∙ eqb-true d c own))
          by (arrivals.Bytes d piece) (inr may) own =
              let same : d ≡ c = eqb-true d c own in
              let next : are_next w d piece (w.given_up d) ≡ true = (and_parts (not (is_of_link setup w d)) (are_next w d piece (w.given_up d)) may).1 in
              let next' : are_next w c piece (Some g.sent) ≡ true = subst (λ o. are_next w c piece o ≡ true) g.is (subst (λ x. are_next w x piece (w.given_up x) ≡ true) same next) in
              let is : piece ≡ take (length piece) (drop (length (arrivals.input c w.server)) g.sent) = (bytes_eq-Decides piece (take (length piece) (drop (length (arrivals.input c w.server)) g.sent))).0 next' in
              rw own (subst (λ p. Begins (arrivals.input c w.server ++ p) g.sent) (sym is) (begins-next (length piece) (arrivals.input c w.server) g.sent g.begins))
          by event fair own = cc

      abbrev After : World → Type 0
      After v = IsGivenUp now c v.server v.connection (v.given_up c)

      -- its links have other connections, also if a link has a new one
      moved : (h : List arrivals.Event) (k j new : ℕ) (given_up : Option (List ℕ)) → (new ≡ c → ⊥) → Begins (arrivals.input c h) g.sent → c ≤ opened (server_past setup.server h) →
          given_up ≡ Some g.sent → IsGivenUp now c h (for_monitor k (for_monitor j new (w.connection k)) w.connection) given_up
      moved h k j new given_up other begins old is = record {
        sent = g.sent;
        is = is;
        begins = begins;
        late = late-later step s (lines g.sent) g.late;
        apart = λ k' j' has same. elim (given-anew w.connection k j new k' j') [
          | inl fresh ↦ other (sym fresh.2 ∙ same)
          | inr before ↦ g.apart k' j' has (sym before.1 ∙ same)
        ];
        old = old;
        some = g.some;
      }

      stays-given : After now
      stays-given =
          each-deed-open setup w After
          (record { sent = g.sent; is = g.is; begins = g.begins; late = late-later step s (lines g.sent) g.late; apart = g.apart; old = g.old; some = g.some })
          (λ event fair. record {
            sent = g.sent;
            is = g.is;
            begins = more event fair;
            late = late-later step s (lines g.sent) g.late;
            apart = g.apart;
            old = let le = opened-grows setup.server event w.server in let before = g.old in omega (arith, le, before);
            some = g.some;
          })
          (λ k event. record { sent = g.sent; is = g.is; begins = g.begins; late = late-later step s (lines g.sent) g.late; apart = g.apart; old = g.old; some = g.some })
          (λ k j shut cut.
          moved (arrivals.Open (address_of k) ∷ w.server) k j (suc (opened (server_past setup.server w.server))) (w.given_up c)
          (λ same. let before = g.old in absurd (omega (arith, same, before))) g.begins
          (let le = opened-grows setup.server (arrivals.Open (address_of k)) w.server in let before = g.old in omega (arith, le, before)) g.is)
          (λ k j has ok.
          moved w.server k j 0 _ (λ same. g.some (sym same)) g.begins g.old
          (for-other (w.connection k j) c (Some (monitor.sent (monitor_of setup k) j (seen setup w k))) w.given_up (λ same. g.apart k j has (sym same)) ∙ g.is))
          (λ k j d has none is.
          moved w.server k j d (w.given_up c)
          (λ same. let never = (unknown setup w d is).kept in let bad = sym never ∙ (ap w.given_up same ∙ g.is) in cc) g.begins g.old g.is)
          step

    -- ---- any connection that is or was that of the link

    stands-next : (c : ℕ) → Stands w c w → Stands now c now
    stands-next c (inr (inr g)) = inr (inr (stays-given c g))
    stands-next c (inr (inl closed)) =
        each-deed-open setup w (λ v. world setup (step ∷ s) ≡ v → Stands now c v) (λ same. inr (inl closed))
        (λ event fair same. inr (inl (stays-closed c event w.server (next-accepted (after setup w (Tell event)) same) closed)))
        (λ k event same. inr (inl closed))
        (λ k j shut cut same. inr (inl (stays-closed c (arrivals.Open (address_of k)) w.server (next-accepted (after setup w (Join k j)) same) closed)))
        (λ k j has ok same. inr (inl closed)) (λ k j d has none is same. inr (inl closed)) step refl
    stands-next c (inl current) =
        each-deed-open setup w (λ v. world setup (step ∷ s) ≡ v → Stands now c v) (λ same. inl current) (λ event fair same. inl current) (λ k event same. inl current)
        on_join on_renew on_meet step refl
      where
        -- another link has a new connection
        elsewhere : (k j new : ℕ) → ((k ≡ m) × (j ≡ i) → ⊥) → for_monitor k (for_monitor j new (w.connection k)) w.connection m i ≡ c
        elsewhere k j new other = elim (given-anew w.connection k j new m i) [
          | inl fresh ↦ absurd (other (sym fresh.0, sym fresh.1))
          | inr before ↦ before.1 ∙ current
        ]

        this : (k j : ℕ) → ((k ≡ m) × (j ≡ i)) ⊎ ((k ≡ m) × (j ≡ i) → ⊥)
        this k j = elim (given-anew w.connection m i 0 k j) [ inl fresh ↦ inl (fresh.0, fresh.1) | inr before ↦ inr before.0 ]

        bound : c ≤ opened (server_past setup.server w.server)
        bound = subst (λ x. x ≤ opened (server_past setup.server w.server)) current ((sound setup law fine s).bound m i)

        on_join : (k j : ℕ) → is_open setup w k j ≡ false → is_linked setup w k j ≡ false → world setup (step ∷ s) ≡ after setup w (Join k j) → Stands now c (after setup w (Join k j))
        on_join k j shut cut same = elim (this k j) [
          | inr other ↦ inl (elsewhere k j (suc (opened (server_past setup.server w.server))) other)
          | inl both ↦
              let here : is_open setup w m i ≡ false = subst (λ y. is_open setup w m y ≡ false) both.1 (subst (λ x. is_open setup w x j ≡ false) both.0 shut) in
              let none : server_tests.session_of c (served setup w).sessions ≡ None =
              subst (λ x. server_tests.session_of x (served setup w).sessions ≡ None) current (shut-none (server_tests.session_of (w.connection m i) (served setup w).sessions) here) in
              inr (inl (stays-closed c (arrivals.Open (address_of k)) w.server (next-accepted (after setup w (Join k j)) same) (none, bound)))
        ]

        -- it is given up if it is still open
        left : (server_tests.session_of c (served setup w).sessions ≡ None → ⊥) → world setup (step ∷ s) ≡ after setup w (Renew m i) → Stands now c (after setup w (Renew m i))
        left up same =
            let s' = sound setup law fine s in
            let some : c ≡ 0 → ⊥ = λ none. up (ap (λ d. server_tests.session_of d (served setup w).sessions) none ∙ zero-closed setup w.server) in
            inr (inr (record {
              sent = monitor.sent (monitor_of setup m) i (seen setup w m);
              is = rw (eq-eqb c (w.connection m i) (sym current)) refl;
              begins = subst (λ d. Begins (arrivals.input d w.server) (monitor.sent (monitor_of setup m) i (seen setup w m))) current (((s'.monitors m).links i there).out);
              late = late-later step s (lines (monitor.sent (monitor_of setup m) i (seen setup w m))) (sent-late setup m i (w.monitor m) (spoken setup m i fine there));
              apart = λ k j has is. elim (given-anew w.connection m i 0 k j) [
                | inl fresh ↦ some (sym is ∙ fresh.2)
                | inr other ↦
                    let before : w.connection k j ≡ c = sym other.1 ∙ is in
                    elim (s'.distinct k j m i has there (before ∙ sym current)) [
                      | inl none ↦ some (sym before ∙ none)
                      | inr equal ↦ other.0 equal
                    ]
              ];
              old = bound;
              some = some;
            }))

        on_renew : (k j : ℕ) → has_link setup k j ≡ true → is_none (monitor_tests.refusal (known setup w k) (Linked j)) ≡ true → world setup (step ∷ s) ≡ after setup w (Renew k j) →
            Stands now c (after setup w (Renew k j))
        on_renew k j has ok same = elim (this k j) [
          | inr other ↦ inl (elsewhere k j 0 other)
          | inl both ↦ elim (option-cases (server_tests.session_of c (served setup w).sessions)) [
            | inl none ↦ inr (inl (none, bound))
            | inr up ↦
                subst (λ x. Stands now c (after setup w (Renew x j))) (sym both.0)
                (subst (λ y. Stands now c (after setup w (Renew m y))) (sym both.1)
                (left up (subst (λ y. world setup (step ∷ s) ≡ after setup w (Renew m y)) both.1 (subst (λ x. world setup (step ∷ s) ≡ after setup w (Renew x j)) both.0 same))))
          ]
        ]

        on_meet : (k j d : ℕ) → has_link setup k j ≡ true → w.connection k j ≡ 0 → is_unknown setup w d ≡ true → world setup (step ∷ s) ≡ after setup w (Meet k j d) →
            Stands now c (after setup w (Meet k j d))
        on_meet k j d has none is same = elim (this k j) [
          | inr other ↦ inl (elsewhere k j d other)
          | inl both ↦
              let is_none : c ≡ 0 = sym current ∙ (ap (λ x. w.connection x i) (sym both.0) ∙ (ap (w.connection k) (sym both.1) ∙ none)) in
              inr (inl (subst (λ x. IsClosed x w.server) (sym is_none) (zero-stays w.server)))
        ]

  stands : (early schedule : List Step) → IsFront early schedule → Stands (world setup schedule) ((world setup early).connection m i) (world setup schedule)
  stands early [] is = inl (ap (λ s. (world setup s).connection m i) (sym is))
  stands early (step ∷ s) (inl is) = inl (ap (λ x. (world setup x).connection m i) (sym is))
  stands early (step ∷ s) (inr is) = stands-next step s ((world setup early).connection m i) (stands early s is)

  -- whoever said FSD on c, the shutdown of monitor m has begun
  abbrev IsQuiet : World → World → ℕ → Type 0
  IsQuiet now w c = AllByRecursion (λ (x : Exchange). (ups : List ℕ) → command_of x.line ≡ Asks (requests.Fsd ups) → Begun now) (exchanges c (server_past setup.server w.server))

  current : (schedule : List Step) → IsQuiet (world setup schedule) (world setup schedule) ((world setup schedule).connection m i)
  current schedule =
      let w = world setup schedule in
      exchanges-late setup (monitor_of setup m) (seen setup w m) (w.connection m i) w.server (monitor.sent (monitor_of setup m) i (seen setup w m))
      (((sound setup law fine schedule).monitors m).links i there).out (sent-late setup m i (w.monitor m) (spoken setup m i fine there))

  quiet : (early schedule : List Step) → IsFront early schedule → IsQuiet (world setup schedule) (world setup schedule) ((world setup early).connection m i)
  quiet early [] is = tt
  quiet early (step ∷ s) (inl is) =
      subst (λ x. IsQuiet (world setup (step ∷ s)) (world setup (step ∷ s)) ((world setup x).connection m i)) (sym is) (current (step ∷ s))
  quiet early (step ∷ s) (inr is) = elim (stands early s is) [
    | inr (inr g) ↦
        let g' = stays-given step s ((world setup early).connection m i) g in
        exchanges-late setup (monitor_of setup m) (seen setup (world setup (step ∷ s)) m) ((world setup early).connection m i) (world setup (step ∷ s)).server g'.sent g'.begins g'.late
    | inr (inl closed) ↦ next (quiet early s is) (λ event own ok same. absurd (refused event own closed.0 ok))
    | inl now ↦
        next (quiet early s is)
        (λ event own ok same.
        subst (λ v. IsQuiet (world setup (step ∷ s)) v c) same
        (subst (IsQuiet (world setup (step ∷ s)) (world setup (step ∷ s))) (ap (λ v. v.connection m i) same ∙ now) (current (step ∷ s))))
  ]
    where
      w : World
      w = world setup s

      c : ℕ
      c = (world setup early).connection m i

      refused : (event : arrivals.Event) → is_of c event ≡ true → server_tests.session_of c (served setup w).sessions ≡ None →
          server_tests.refusal (served setup w) event ≡ None → ⊥
      refused (arrivals.Bytes d piece) own none ok =
          let same : d ≡ c = eqb-true d c own in
          let none' : server_tests.session_of d (served setup w).sessions ≡ None = subst (λ x. server_tests.session_of x (served setup w).sessions ≡ None) (sym same) none in
          let e = ap (server_tests.bytes_refusal piece) none' in cc (e, ok)
      refused event own none ok = cc

      next : IsQuiet w w c →
          ((event : arrivals.Event) → is_of c event ≡ true → server_tests.refusal (served setup w) event ≡ None → world setup (step ∷ s) ≡ after setup w (Tell event) →
          IsQuiet (world setup (step ∷ s)) (after setup w (Tell event)) c) →
          IsQuiet (world setup (step ∷ s)) (world setup (step ∷ s)) c
      next before on_own =
          each-deed-open setup w (λ v. world setup (step ∷ s) ≡ v → IsQuiet (world setup (step ∷ s)) v c) (λ same. older) on_tell (λ k event same. older)
          (λ k j shut cut same. older) (λ k j has ok same. older) (λ k j d has none is same. older) step refl
        where
          older : IsQuiet (world setup (step ∷ s)) w c
          older =
              all-map (λ (x : Exchange). (ups : List ℕ) → command_of x.line ≡ Asks (requests.Fsd ups) → Begun w)
              (λ (x : Exchange). (ups : List ℕ) → command_of x.line ≡ Asks (requests.Fsd ups) → Begun (world setup (step ∷ s)))
              (λ x late ups asks. begun-later setup m step s (late ups asks)) (exchanges c (server_past setup.server w.server)) before

          on_tell : (event : arrivals.Event) → IsFair setup w event → world setup (step ∷ s) ≡ after setup w (Tell event) → IsQuiet (world setup (step ∷ s)) (after setup w (Tell event)) c
          on_tell event fair same = elim (cases_Bool (is_of c event)) [
            | inr other ↦
                subst (AllByRecursion (λ (x : Exchange). (ups : List ℕ) → command_of x.line ≡ Asks (requests.Fsd ups) → Begun (world setup (step ∷ s))))
                (sym (other-exchanges setup.server c event w.server other)) older
            | inl own ↦ on_own event own ((next-accepted step s (after setup w (Tell event)) same).1) same
          ]

-- ---- the law

said-late : (c : ℕ) (ups : List ℕ) (B : Type 0) (t : List server.Entry) → AtSome (λ e before. Gets c (requests.Fsd ups) e.answer e) t →
    AllByRecursion (λ (x : Exchange). (name : List ℕ) → command_of x.line ≡ Asks (requests.Fsd name) → B) (exchanges c t) → B
said-late c ups B [] h all = absurd h
said-late c ups B (e ∷ before) (inl gets) all =
    let all' : AllByRecursion (λ (x : Exchange). (name : List ℕ) → command_of x.line ≡ Asks (requests.Fsd name) → B)
    (record { line = gets.0; answer = e.answer } ∷ exchanges c before) = by e.step gets.1 all in
    all'.0 ups gets.2
  where
    by : (step : arrivals.Step) → step ≡ Said c gets.0 →
        AllByRecursion (λ (x : Exchange). (name : List ℕ) → command_of x.line ≡ Asks (requests.Fsd name) → B) (exchanges_after c step e.answer (exchanges c before)) →
        AllByRecursion (λ (x : Exchange). (name : List ℕ) → command_of x.line ≡ Asks (requests.Fsd name) → B) (record { line = gets.0; answer = e.answer } ∷ exchanges c before)
    by step is all = rw (is, eq-eqb c c refl) at all
said-late c ups B (e ∷ before) (inr older) all = said-late c ups B before older (by e.step all)
  where
    by : (step : arrivals.Step) →
        AllByRecursion (λ (x : Exchange). (name : List ℕ) → command_of x.line ≡ Asks (requests.Fsd name) → B) (exchanges_after c step e.answer (exchanges c before)) →
        AllByRecursion (λ (x : Exchange). (name : List ℕ) → command_of x.line ≡ Asks (requests.Fsd name) → B) (exchanges c before)
    by (Said d line) all = elim (cases_Bool (d == c)) [
      | inl own ↦ let all' : AllByRecursion (λ (x : Exchange). (name : List ℕ) → command_of x.line ≡ Asks (requests.Fsd name) → B)
          (record { line = line; answer = e.answer } ∷ exchanges c before) = rw own at all in all'.1
      | inr other ↦ rw other at all
    ]
    by step all = all

pub fsds-follow : (setup : Setup) → IsLawful setup.server → IsSetup setup → (schedule : List Step) → FsdsFollowShutdowns setup schedule
fsds-follow setup law fine schedule m i early ups there front says =
    let w = world setup schedule in
    said-late ((world setup early).connection m i) ups (has_begun (monitor_of setup m) (seen setup w m) ≡ true) (server_past setup.server w.server) says
    (quiet setup law fine m i there early schedule front)
