-- Who is due, and who is in line.
use Rattle.std.proofs.Common.{◌≡◌, ◌≢◌, ℕ, ◌+◌, ◌<◌, ◌&&◌, ◌||◌, Bool, not, true, false, List, [], ◌∷◌, ◌++◌, refl, sym, ap, subst, ◌∙◌, inl, inr, map, Bor, Option, Some, None, IfSome, arith}
use Rattle.std.specs.Prelude.{nat_eq, nat_lt}
use Rattle.std.specs.Option.{option_map_or}
use Rattle.std.proofs.lemmas.Bool.{cases_eq, eq-eqb, eqb-true, false≢true, or_cases, or_left, or_right, and_parts}
use Rattle.std.proofs.lemmas.List.{map_push}
use Rattle.std.proofs.lemmas.List.Folds.{list_any-append}
use Rattle.mio.specs.Event.{event_token}
use Rattle.mio.specs.declared.event.event.Event.{Event}
use Rattle.mio.specs.declared.token.Token.{Token}
use Rattle.slab.specs.Slab.{ContainsKey, Slab, Updates, get, with_value}
use Rattle.slab.proofs.SlabLemmas.{Updates-with_value}
use Rattle.nut_poll.specs.Queue.{IsTaken, Looks, Queue, all_joined, is_waiting, joined, reported}
use Rattle.nut_poll.specs.declared.link.Heard.{Heard}
use Rattle.nut_poll.specs.declared.link.Heard.TheVariants.{All, Part, Nothing, End}
use Rattle.nut_poll.specs.declared.ready.TheConstants.{SOCKETS_MAX}
use Rattle.nut_poll.specs.inside.TurnLaws.{still_waits}
use Rattle.nut_poll.proofs.QueueLemmas.{all_wait, is_one, joined_waits}
use Rattle.nut_server_sockets.specs.Seats.{KeepsSeats, is_due}
use Rattle.nut_server_sockets.specs.Turns.{IsHeeded}
use Rattle.nut_server_sockets.specs.declared.client.Client.{Client}
use Rattle.nut_server_sockets.specs.declared.sockets.Sockets.{Sockets}
use Rattle.nut_server_sockets.specs.declared.source.TheConstants.{FIXED_MAX}
use Rattle.nut_server_sockets.specs.declared.stall.Stall.{Stall}
use Rattle.nut_server_sockets.specs.inside.Due.{ChangesOnly, HasMore, NoMoreAreDue, is_due_at}
use Rattle.nut_server_sockets.specs.inside.Looking.{HeedsAlso, IsApart, IsNoted, KeepsHeeded, KeepsLine, OnlyQueues, is_in_line}

-- ---- who is due

abbrev due_of : Option Client → Bool
due_of o = option_map_or is_due o false

pub same_due : (old new : Slab Client) → new ≡ old → NoMoreAreDue old new
same_due old new same key = subst (λ sockets. is_due_at sockets key ≡ true → is_due_at old key ≡ true) (sym same) (λ due. due)

pub due_on : (a b c : Slab Client) → NoMoreAreDue a b → NoMoreAreDue b c → NoMoreAreDue a c
due_on a b c first then key due = first key (then key due)

-- one socket has come or gone, or another client has its key, and isn't due unless the one before was
pub due_with : (old new : Slab Client) (key : ℕ) (slot : Option Client) → Updates old new key slot →
    (option_map_or is_due slot false ≡ true → is_due_at old key ≡ true) → NoMoreAreDue old new
due_with old new key slot updates was other due = elim (cases_eq other key) [
  | inl same ↦ subst (λ k. is_due_at old k ≡ true) (sym same)
      (was (subst (λ o. option_map_or is_due o false ≡ true) updates.changed (subst (λ k. is_due_at new k ≡ true) same due)))
  | inr differs ↦ subst (λ o. option_map_or is_due o false ≡ true) (updates.others other differs) due
]

-- another client has its key, and is due if the one before was
pub due_same : (sockets : Slab Client) (key : ℕ) (old new : Client) → get sockets key ≡ Some old → is_due new ≡ is_due old →
    (other : ℕ) → is_due_at (with_value sockets key new) other ≡ is_due_at sockets other
due_same sockets key old new is same other =
    let present : ContainsKey sockets key = rw is refl in
    let updates = Updates-with_value sockets key new present in
    elim (cases_eq other key) [
      | inl here ↦ subst (λ k. is_due_at (with_value sockets key new) k ≡ is_due_at sockets k) (sym here) (ap due_of updates.changed ∙ same ∙ sym (ap due_of is))
      | inr differs ↦ ap due_of (updates.others other differs)
    ]

-- ---- who is in line

pub line_with : (ready new : Queue) (stall : Stall) → Looks [] ready new → KeepsLine ready stall new stall
line_with ready new stall looks n less is = elim (or_cases (is_waiting n ready.waiting) (nat_lt 0 stall.seconds && is_waiting n stall.clients.waiting) is) [
  | inl waits ↦ or_left (is_waiting n new.waiting) _ (still_waits n ready new looks waits)
  | inr held ↦ or_right (is_waiting n new.waiting) _ held
]

-- who waits is in line
pub waits_in_line : (ready : Queue) (stall : Stall) (n : ℕ) → is_waiting n ready.waiting ≡ true → is_in_line ready stall n ≡ true
waits_in_line ready stall n waits = or_left (is_waiting n ready.waiting) _ waits

-- who was queued is in line
pub queued : (ready new : Queue) (stall : Stall) (n m : ℕ) → new ≡ joined m ready → m ≡ n → n < SOCKETS_MAX → is_in_line new stall n ≡ true
queued ready new stall n m is same less =
    waits_in_line new stall n (subst (λ q. is_waiting n q.waiting ≡ true) (sym is) (subst (λ k. is_waiting n (joined k ready).waiting ≡ true) (sym same) (joined_waits n ready less)))

-- all but the one that was taken
pub taken_line : (token : Token) (before after : Queue) (stall : Stall) (n : ℕ) → IsTaken (Some token) before after → token.0 ≢ n →
    is_in_line before stall n ≡ true → is_in_line after stall n ≡ true
taken_line token before after stall n taken other is = elim (or_cases (is_waiting n before.waiting) (nat_lt 0 stall.seconds && is_waiting n stall.clients.waiting) is) [
  | inl waits ↦ elim (or_cases (nat_eq n token.0) (is_waiting n after.waiting) (subst (λ xs. is_waiting n xs ≡ true) taken.0 waits)) [
    | inl same ↦ absurd (other (sym (eqb-true n token.0 same)))
    | inr still ↦ waits_in_line after stall n still
  ]
  | inr held ↦ or_right (is_waiting n after.waiting) _ held
]

pub line_on : (a b c : Queue) (x y z : Stall) → KeepsLine a x b y → KeepsLine b y c z → KeepsLine a x c z
line_on a b c x y z first then n less is = then n less (first n less is)

-- Whoever was put aside is so still.
pub aside_line : (ready : Queue) (old new : Stall) →
    ((n : ℕ) → (nat_lt 0 old.seconds && is_waiting n old.clients.waiting) ≡ true → (nat_lt 0 new.seconds && is_waiting n new.clients.waiting) ≡ true) →
    KeepsLine ready old ready new
aside_line ready old new aside n less is = elim (or_cases (is_waiting n ready.waiting) (nat_lt 0 old.seconds && is_waiting n old.clients.waiting) is) [
  | inl waits ↦ or_left (is_waiting n ready.waiting) _ waits
  | inr held ↦ or_right (is_waiting n ready.waiting) _ (aside n held)
]

-- All that were put aside came to wait.
pub ended_line : (ready new : Queue) (old ended : Stall) → new ≡ all_joined old.clients.waiting ready → Looks [] ready new → KeepsLine ready old new ended
ended_line ready new old ended all came n less is = elim (or_cases (is_waiting n ready.waiting) (nat_lt 0 old.seconds && is_waiting n old.clients.waiting) is) [
  | inl waits ↦ waits_in_line new ended n (still_waits n ready new came waits)
  | inr held ↦ waits_in_line new ended n (subst (λ q. is_waiting n q.waiting ≡ true) (sym all)
      (all_wait old.clients.waiting n ready less (and_parts (nat_lt 0 old.seconds) (is_waiting n old.clients.waiting) held).1))
]

-- ---- who is heeded

pub heeds_with : (old new : Sockets) → NoMoreAreDue old.clients.sockets new.clients.sockets →
    KeepsLine old.rounds.ready old.stall new.rounds.ready new.stall → KeepsHeeded old new
heeds_with old new due line key was less is = line (FIXED_MAX + key) less (was less (due key is))

pub heeds_still : (old new : Sockets) → OnlyQueues old new → KeepsHeeded old new
heeds_still old new same = heeds_with old new (same_due old.clients.sockets new.clients.sockets same.1) same.2

pub apart_line : (old new : Sockets) → IsApart old new → KeepsLine old.rounds.ready old.stall new.rounds.ready new.stall
apart_line old new same n less is = subst (λ stall. is_in_line new.rounds.ready stall n ≡ true) (sym same.2)
    (subst (λ rounds. is_in_line rounds.ready old.stall n ≡ true) (sym same.0) is)

pub heeds_apart : (old new : Sockets) → IsApart old new → KeepsHeeded old new
heeds_apart old new same = heeds_with old new (same_due old.clients.sockets new.clients.sockets (ap (λ k. k.sockets) same.1)) (apart_line old new same)

pub heeded_on : (a b c : Sockets) → KeepsHeeded a b → KeepsHeeded b c → KeepsHeeded a c
heeded_on a b c first then key heeded = then key (first key heeded)

-- The client with this key was queued, and of the others none is due that wasn't.
pub heeds_queued : (old new : Sockets) (one : ℕ) → ((key : ℕ) → Some one ≢ Some key → is_due_at new.clients.sockets key ≡ is_due_at old.clients.sockets key) →
    KeepsLine old.rounds.ready old.stall new.rounds.ready new.stall →
    (FIXED_MAX + one < SOCKETS_MAX → is_in_line new.rounds.ready new.stall (FIXED_MAX + one) ≡ true) → KeepsHeeded old new
heeds_queued old new one due line here key was less is = elim (cases_eq key one) [
  | inl same ↦ subst (λ k. is_in_line new.rounds.ready new.stall (FIXED_MAX + k) ≡ true) (sym same) (here (subst (λ k. FIXED_MAX + k < SOCKETS_MAX) same less))
  | inr differs ↦ line (FIXED_MAX + key) less (was less (sym (due key (λ some. differs (let back : key ≡ one = cc in back))) ∙ is))
]

-- none is due where there is no client
pub none_is_due : (s : Sockets) (key : ℕ) → get s.clients.sockets key ≡ None → IsHeeded s key
none_is_due s key none less is = absurd (false≢true (sym (ap due_of none) ∙ is))

-- ---- what was noted

pub noted_none : (sockets : Slab Client) (token : ℕ) → ((key : ℕ) → token ≢ FIXED_MAX + key) → IsNoted (token ∷ []) sockets sockets
noted_none sockets token other = record {
  seats = λ key. refl;
  more = λ key is. absurd (other key (sym (is_one (FIXED_MAX + key) token is)));
  kept = λ key has. has;
  due = λ key due. inl due;
}

pub noted_one : (old new : Slab Client) (one token : ℕ) → KeepsSeats old new → ChangesOnly one old new → HasMore new one → FIXED_MAX + one ≡ token →
    IsNoted (token ∷ []) old new
noted_one old new one token seats others more is = record {
  seats = seats;
  more = λ key here. subst (HasMore new) (let other = is_one (FIXED_MAX + key) token here in omega (arith, is, other)) more;
  kept = λ key has. elim (cases_eq key one) [
    | inl same ↦ subst (HasMore new) (sym same) more
    | inr differs ↦ subst (λ o. IfSome o (λ k. k.link.has_more ≡ true)) (sym (others key differs)) has
  ];
  due = λ key due. elim (cases_eq key one) [
    | inl same ↦ inr (let here : FIXED_MAX + key ≡ token = omega (arith, same, is) in rw (eq-eqb (FIXED_MAX + key) token here) refl)
    | inr differs ↦ inl (sym (ap due_of (others key differs)) ∙ due)
  ];
}

-- one more event was noted
pub noted_more : (es : List (Bor Event)) (e : Bor Event) (a b c : Slab Client) → IsNoted (reported (map (λ x. x.now) es)) a b →
    IsNoted ((event_token e.now).0 ∷ []) b c → IsNoted (reported (map (λ x. x.now) (es ++ e ∷ []))) a c
noted_more es e a b c first then = record {
  seats = λ key. then.seats key ∙ first.seats key;
  more = λ key here. elim (or_cases (is_waiting (FIXED_MAX + key) (reported (map (λ x. x.now) es))) (is_waiting (FIXED_MAX + key) ((event_token e.now).0 ∷ [])) (sym (both key) ∙ here)) [
    | inl early ↦ then.kept key (first.more key early)
    | inr last ↦ then.more key last
  ];
  kept = λ key has. then.kept key (first.kept key has);
  due = λ key due. elim (then.due key due) [
    | inl before ↦ elim (first.due key before) [
      | inl was ↦ inl was
      | inr early ↦ inr (both key ∙ or_left (is_waiting (FIXED_MAX + key) (reported (map (λ x. x.now) es))) _ early)
    ]
    | inr last ↦ inr (both key ∙ or_right (is_waiting (FIXED_MAX + key) (reported (map (λ x. x.now) es))) _ last)
  ];
}
  where
    is : reported (map (λ x. x.now) (es ++ e ∷ [])) ≡ reported (map (λ x. x.now) es) ++ (event_token e.now).0 ∷ []
    is = ap reported (map_push (λ (x : Bor Event). x.now) es e) ∙ map_push (λ (x : Event). (event_token x).0) (map (λ x. x.now) es) e.now

    both : (key : ℕ) → is_waiting (FIXED_MAX + key) (reported (map (λ x. x.now) (es ++ e ∷ [])))
        ≡ (is_waiting (FIXED_MAX + key) (reported (map (λ x. x.now) es)) || is_waiting (FIXED_MAX + key) ((event_token e.now).0 ∷ []))
    both key = ap (is_waiting (FIXED_MAX + key)) is
        ∙ list_any-append (nat_eq (FIXED_MAX + key)) (reported (map (λ x. x.now) es)) ((event_token e.now).0 ∷ [])

-- those that were reported came to wait
pub heeds_reported : (old new : Sockets) (tokens : List ℕ) (q : Queue) → IsNoted tokens old.clients.sockets new.clients.sockets →
    q ≡ all_joined tokens old.rounds.ready → Looks [] old.rounds.ready q → Looks [] q new.rounds.ready → new.stall ≡ old.stall → KeepsHeeded old new
heeds_reported old new tokens q noted queue came then same key was less is = elim (noted.due key is) [
  | inl before ↦ subst (λ stall. is_in_line new.rounds.ready stall (FIXED_MAX + key) ≡ true) (sym same)
      (line_with q new.rounds.ready old.stall then (FIXED_MAX + key) less (line_with old.rounds.ready q old.stall came (FIXED_MAX + key) less (was less before)))
  | inr among ↦ waits_in_line new.rounds.ready new.stall (FIXED_MAX + key) (still_waits (FIXED_MAX + key) q new.rounds.ready then
      (subst (λ x. is_waiting (FIXED_MAX + key) x.waiting ≡ true) (sym queue) (all_wait tokens (FIXED_MAX + key) old.rounds.ready less among)))
]

-- ---- one look

-- The client with this key isn't due, or it is in line.
pub heeds_one : (old new : Sockets) (one : ℕ) → ChangesOnly one old.clients.sockets new.clients.sockets →
    KeepsLine old.rounds.ready old.stall new.rounds.ready new.stall → IsHeeded new one → HeedsAlso (FIXED_MAX + one) old new
heeds_one old new one others line heeded key was = elim (cases_eq key one) [
  | inl same ↦ subst (IsHeeded new) (sym same) heeded
  | inr differs ↦ λ less is. line (FIXED_MAX + key) less (was (λ same. differs (apart same)) less (sym (ap due_of (others key differs)) ∙ is))
]
  where
    apart : FIXED_MAX + one ≡ FIXED_MAX + key → key ≡ one
    apart same = omega (arith, same)

-- The source that was looked at is another.
pub heeds_other : (token : ℕ) (old new : Sockets) → ((key : ℕ) → token ≢ FIXED_MAX + key) → KeepsHeeded old new → HeedsAlso token old new
heeds_other token old new other keeps key was = keeps key (was (other key))

-- The source with this token was taken out of the queue, and looked at.
pub heeds_taken : (token : Token) (before new : Sockets) (mid : Sockets) → mid.clients.sockets ≡ before.clients.sockets → mid.stall ≡ before.stall →
    IsTaken (Some token) before.rounds.ready mid.rounds.ready → HeedsAlso token.0 mid new → KeepsHeeded before new
heeds_taken token before new mid clients stall taken also key heeded = also key (λ other less is.
    subst (λ x. is_in_line mid.rounds.ready x (FIXED_MAX + key) ≡ true) (sym stall)
    (taken_line token before.rounds.ready mid.rounds.ready before.stall (FIXED_MAX + key) taken other
    (heeded less (subst (λ sockets. is_due_at sockets key ≡ true) clients is))))

-- ---- what was heard

never : (parked more held : Bool) → more ≡ false → held ≡ false → (not parked && (more || held)) ≡ true → ⊥
never true more held _ _ is = false≢true is
never false more held one two is = false≢true (sym (rw (one, two) refl) ∙ is)

pub left_by : (heard : Heard) (parked more held : Bool) → (heard ≢ Part → more ≡ false) → held ≡ false → (not parked && (more || held)) ≡ true → heard ≡ Part
left_by Part parked more held rest none is = refl
left_by All parked more held rest none is = absurd (never parked more held (rest (λ same. absurd (cc))) none is)
left_by Nothing parked more held rest none is = absurd (never parked more held (rest (λ same. absurd (cc))) none is)
left_by End parked more held rest none is = absurd (never parked more held (rest (λ same. absurd (cc))) none is)
