-- Looks in turn, one after the other.
use Rattle.std.proofs.Common.{◌≡◌, ◌≢◌, ◌⊎◌, ℕ, ◌+◌, ◌<◌, true, List, [], ◌∷◌, ◌++◌, refl, sym, ap, subst, ◌∙◌, append_assoc, inl, inr}
use Rattle.std.proofs.lemmas.List.{append-nil}
use Rattle.std.specs.Prelude.{Option, Some, None, IfSome}
use Rattle.nut_poll.specs.Moments.{IsTold}
use Rattle.mio.specs.declared.token.Token.{Token}
use Rattle.nut_poll.specs.Queue.{IsTaken, Looks, Queue, begun}
use Rattle.nut_poll.specs.Turns.{Heeds}
use Rattle.nut_poll.specs.declared.rounds.Rounds.{Rounds}
use Rattle.nut_poll.specs.inside.TurnLaws.{heeds_as_before, heeds_on}
use Rattle.nut_server_loop.specs.declared.types.Next.{Next}
use Rattle.nut_server_loop.specs.declared.types.Next.TheVariants.{Moment, Open, Bytes, Close, DriverUp, DriverBytes, DriverDown, Reload, Again, End}
use Rattle.nut_server_spec.specs.Acceptance.{may_read, session_of}
use Rattle.nut_server_spec.specs.Configuration.{Configuration}
use Rattle.nut_server_spec.specs.Content.{Content}
use Rattle.slab.specs.Slab.{Slab}
use Rattle.nut_server_sockets.specs.declared.client.Client.{Client}
use Rattle.nut_server_sockets.specs.declared.sockets.Sockets.{Sockets}
use Rattle.nut_server_sockets.specs.declared.source.TheConstants.{FIXED_MAX}
use Rattle.nut_server_sockets.specs.Reloads.{IsGiven}
use Rattle.nut_server_sockets.specs.Seats.{HasBesides, IsSilent, KeepsSeats, number_at}
use Rattle.nut_server_sockets.specs.Turns.{moment_of, IsGivenBy, IsOfLast, IsUnasked, LeavesOthers, Comes, ComesInTurn, GoesOn}
use Rattle.nut_server_sockets.specs.Waits.{IsPieceLight}
use Rattle.nut_server_sockets.specs.inside.Looking.{Asks, IsApart, IsLook, KeepsHeeded, KeepsLine, LooksInTurn, OnlyQueues, Stays, WaitsAgain, is_in_line}
use Rattle.nut_server_sockets.proofs.HeedLemmas.{heeds_still, line_on, line_with}
use Rattle.nut_server_sockets.proofs.SeatLemmas.{seats_on}

-- nobody came
pub stays : (a b : Rounds) → b ≡ a → Comes a b
stays a b same = (
  heeds_as_before [] a b ([], ap (λ r. r.ready.waiting) same ∙ sym (append-nil a.ready.waiting)) (ap (λ r. r.events) same),
  ap (λ r. r.seconds) same,
)

-- ---- which source gave this

-- The sockets are those of the same connections as before.
given_before : (old new : Slab Client) (s : Content) (token : ℕ) (n : Next) → KeepsSeats old new → IsGivenBy new s token n → IsGivenBy old s token n
given_before old new s token (Bytes c) keeps (key, is, number) = (key, is, sym (keeps key) ∙ number)
given_before old new s token (Close c) keeps (inl (key, is, number)) = inl (key, is, sym (keeps key) ∙ number)
given_before old new s token (Close c) keeps (inr way) = inr way
given_before old new s token (DriverBytes u) keeps given = given
given_before old new s token (Moment m) keeps given = given
given_before old new s token Open keeps given = given
given_before old new s token (DriverUp u) keeps given = given
given_before old new s token (DriverDown u) keeps given = given
given_before old new s token (Reload c) keeps given = given
given_before old new s token Again keeps given = given
given_before old new s token End keeps given = given

-- and others were looked at before
of_last_before : (old new : Slab Client) (s : Content) (n : Next) (before looked : List ℕ) → KeepsSeats old new → IsOfLast new s n looked → IsOfLast old s n (before ++ looked)
of_last_before old new s n before looked keeps (others, last, is, given) =
    (before ++ others, last, ap (λ xs. before ++ xs) is ∙ sym (append_assoc before others (last ∷ [])), given_before old new s last n keeps given)

no_moment : (sockets : Slab Client) (s : Content) (n : Next) (token : ℕ) → IsGivenBy sockets s token n → moment_of n ≡ None
no_moment sockets s (Moment m) token given = absurd given
no_moment sockets s (Bytes c) token given = refl
no_moment sockets s (DriverBytes u) token given = refl
no_moment sockets s Open token given = refl
no_moment sockets s (Close c) token given = refl
no_moment sockets s (DriverUp u) token given = refl
no_moment sockets s (DriverDown u) token given = refl
no_moment sockets s (Reload c) token given = refl
no_moment sockets s Again token given = refl
no_moment sockets s End token given = refl

-- what the server gets if the reloader was asked: the configuration, or nothing of it
pub some_given : {L : Type 0} (gave : L → Option Configuration → L → Type 0) (old new : L) (config : Configuration) → Asks gave old (Some config) new →
    gave old (Some config) new
some_given gave old new config (inl given) = given
some_given gave old new config (inr none) = let bad : Some config ≡ None = none.0 in cc

pub none_given : {L : Type 0} (gave : L → Option Configuration → L → Type 0) (old new : L) → Asks gave old None new → gave old None new ⊎ (new ≡ old)
none_given gave old new (inl given) = inl given
none_given gave old new (inr none) = inr none.1

-- what a source gives is no configuration
pub not_reloaded : {L : Type 0} (gave : L → Option Configuration → L → Type 0) (old new : L) (sockets : Slab Client) (s : Content) (n : Next) (token : ℕ)
    → IsGivenBy sockets s token n → Asks gave old None new → IsGiven gave old n new
not_reloaded gave old new sockets s (Reload c) token given none = absurd given
not_reloaded gave old new sockets s (Moment m) token given none = none_given gave old new none
not_reloaded gave old new sockets s (Bytes c) token given none = none_given gave old new none
not_reloaded gave old new sockets s (DriverBytes u) token given none = none_given gave old new none
not_reloaded gave old new sockets s Open token given none = none_given gave old new none
not_reloaded gave old new sockets s (Close c) token given none = none_given gave old new none
not_reloaded gave old new sockets s (DriverUp u) token given none = none_given gave old new none
not_reloaded gave old new sockets s (DriverDown u) token given none = none_given gave old new none
not_reloaded gave old new sockets s Again token given none = none_given gave old new none
not_reloaded gave old new sockets s End token given none = none_given gave old new none

-- Neither what came of no source nor what another source than a client gave is a piece of a client.
pub unasked_light : (s : Content) (n : Next) (old : Sockets) (piece : List ℕ) → IsUnasked old s n → IsPieceLight s n piece
unasked_light s (Bytes c) old piece unasked = absurd unasked
unasked_light s n old piece unasked = tt

pub other_light : (sockets : Slab Client) (s : Content) (token : ℕ) (found : Option Next) (piece : List ℕ) → ((key : ℕ) → token ≢ FIXED_MAX + key) →
    IfSome found (λ n. IsGivenBy sockets s token n) → IfSome found (λ n. IsPieceLight s n piece)
other_light sockets s token (Some (Bytes c)) piece other (key, is, number) = absurd (other key is)
other_light sockets s token (Some n) piece other given = tt
other_light sockets s token None piece other given = tt

-- Sources were looked at, and nothing came.
abbrev pub Nothing : Rounds → Rounds → Type 0
Nothing a b = (looked : List ℕ) × Heeds looked a b × (b.seconds.full ≡ a.seconds.full)

pub nothing_yet : (a b : Rounds) → b ≡ a → Nothing a b
nothing_yet a b same = ([], (stays a b same).0, ap (λ r. r.seconds.full) same)

pub nothing_more : (a b c : Rounds) → Nothing a b → Nothing b c → Nothing a c
nothing_more a b c (x, first, told) (y, then, still) = (x ++ y, heeds_on x y a b c first then, still ∙ told)

pub nothing_found : (s : Content) (found : Option Next) (a b : Sockets) → LooksInTurn a s found b → Nothing a.rounds b.rounds
nothing_found s found a b look = (look.looked, look.turns, ap (λ t. t.full) look.still)

pub leaves_on : (n : Next) (a b c : Slab Client) → KeepsSeats a b → LeavesOthers n b c → LeavesOthers n a c
leaves_on (Close d) a b c first then = λ key. elim (then key) [
  | inl same ↦ inl (same ∙ first key)
  | inr (own, none) ↦ inr (sym (first key) ∙ own, none)
]
leaves_on (Moment m) a b c first then = seats_on a b c first then
leaves_on (Bytes d) a b c first then = seats_on a b c first then
leaves_on (DriverBytes u) a b c first then = seats_on a b c first then
leaves_on Open a b c first then = seats_on a b c first then
leaves_on (DriverUp u) a b c first then = seats_on a b c first then
leaves_on (DriverDown u) a b c first then = seats_on a b c first then
leaves_on (Reload k) a b c first then = seats_on a b c first then
leaves_on Again a b c first then = seats_on a b c first then
leaves_on End a b c first then = seats_on a b c first then

-- ---- what comes

-- no connection is left whose socket couldn't be kept
pub unasked_still : (s : Content) (n : Next) (old mid : Sockets) → mid.unkept ≡ None → mid.clients ≡ old.clients → IsUnasked mid s n → IsUnasked old s n
unasked_still s (Close c) old mid none same (inl is) = absurd (let bad : None ≡ Some c = sym none ∙ is in cc)
unasked_still s (Close c) old mid none same (inr (inl way)) = inr (inl way)
unasked_still s (Close c) old mid none same (inr (inr silent)) = inr (inr (subst (λ k. IsSilent s k.second k.sockets c) same silent))
unasked_still s (Bytes c) old mid none same is = is
unasked_still s (DriverBytes u) old mid none same is = is
unasked_still s (Moment m) old mid none same is = is
unasked_still s Open old mid none same is = is
unasked_still s (DriverUp u) old mid none same is = is
unasked_still s (DriverDown u) old mid none same is = is
unasked_still s (Reload c) old mid none same is = is
unasked_still s Again old mid none same is = is
unasked_still s End old mid none same is = is

-- No driver's piece is among what came of no source.
unasked_waits : (s : Content) (n : Next) (a : Sockets) (q : Queue) → IsUnasked a s n → WaitsAgain n q
unasked_waits s n a q unasked u is = absurd (subst (IsUnasked a s) is unasked)

-- this came of no source
pub came_of_none : (s : Content) (n : Next) (a c : Sockets) → IsUnasked a s n → moment_of n ≡ None → Nothing a.rounds c.rounds → ComesInTurn a s n c
came_of_none s n a c unasked untold (looked, looks, still) =
    ((looked, looks, inl unasked), subst (λ m. IsTold m a.rounds.seconds.full c.rounds.seconds.full) (sym untold) still, unasked_waits s n a c.rounds.ready unasked)

-- nothing came, and then a look found this
pub found_in_turn : (s : Content) (n : Next) (a b c : Sockets) → Nothing a.rounds b.rounds → KeepsSeats a.clients.sockets b.clients.sockets → LooksInTurn b s (Some n) c → ComesInTurn a s n c
found_in_turn s n a b c (before, first, told) keeps look = (
  (before ++ look.looked, heeds_on before look.looked a.rounds b.rounds c.rounds first look.turns, inr (of_last_before a.clients.sockets b.clients.sockets s n before look.looked keeps look.of_last)),
  subst (λ m. IsTold m a.rounds.seconds.full c.rounds.seconds.full) (sym (no_moment b.clients.sockets s n look.of_last.1 look.of_last.3)) (ap (λ t. t.full) look.still ∙ told),
  look.again,
)

-- a second was told, and sources came
pub second_in_turn : (s : Content) (m : ℕ) (a c : Sockets) (b w : Rounds) (moment : Option ℕ) → Nothing a.rounds b → Heeds [] b w → IsTold moment b.seconds.full w.seconds.full →
    moment ≡ Some m → Comes w c.rounds → ComesInTurn a s (Moment m) c
second_in_turn s m a c b w moment (looked, first, still) came told one (then, same) =
    let is : IsTold (Some m) b.seconds.full w.seconds.full = subst (λ x. IsTold x b.seconds.full w.seconds.full) one told in
    let full : c.rounds.seconds.full ≡ w.seconds.full = ap (λ t. t.full) same in (
      (looked ++ [], heeds_on looked [] a.rounds b c.rounds first (heeds_on [] [] b w c.rounds came then), inl tt),
      (subst (λ x. x < c.rounds.seconds.full) still (subst (λ x. b.seconds.full < x) (sym full) is.0), is.1 ∙ sym full),
      λ u same. absurd (cc),
    )

-- or none was
pub none_told : (moment : Option ℕ) (a b w : Rounds) → Nothing a b → Heeds [] b w → IsTold moment b.seconds.full w.seconds.full → moment ≡ None → Nothing a w
none_told moment a b w before came told none =
    nothing_more a b w before ([], came, subst (λ x. IsTold x b.seconds.full w.seconds.full) none told)

-- after these looks one more found this
pub found_last : (s : Content) (n : Next) (looked : List ℕ) (token : ℕ) (a b c : Sockets) → Heeds (looked ++ token ∷ []) a.rounds c.rounds → c.rounds.seconds ≡ a.rounds.seconds →
    KeepsSeats a.clients.sockets b.clients.sockets → KeepsHeeded a c → IsLook b s token (Some n) c → LooksInTurn a s (Some n) c
found_last s n looked token a b c turns still keeps heeds look = record {
  may = look.may;
  goes_on = look.goes_on;
  seats = leaves_on n a.clients.sockets b.clients.sockets c.clients.sockets keeps look.seats;
  looked = looked ++ token ∷ [];
  turns = turns;
  still = still;
  of_last = (looked, token, refl, given_before a.clients.sockets b.clients.sockets s token n keeps look.given);
  again = look.again;
  heeds = heeds;
}

-- these looks found nothing
pub found_none : (s : Content) (looked : List ℕ) (a c : Sockets) → Heeds looked a.rounds c.rounds → c.rounds.seconds ≡ a.rounds.seconds →
    KeepsSeats a.clients.sockets c.clients.sockets → KeepsHeeded a c → LooksInTurn a s None c
found_none s looked a c turns still keeps heeds = record {
  may = tt;
  goes_on = tt;
  seats = keeps;
  looked = looked;
  turns = turns;
  still = still;
  of_last = tt;
  again = tt;
  heeds = heeds;
}

-- one more look
pub look_more : (looked : List ℕ) (token : Token) (a b c d : Rounds) → Heeds looked a b → IsTaken (Some token) b.ready c.ready → c.events ≡ b.events →
    Heeds [] c d → Heeds (looked ++ token.0 ∷ []) a d
look_more looked token a b c d before taken same came =
    let here : Heeds (token.0 ∷ []) b c = heeds_as_before (token.0 ∷ []) b c ([], sym taken.0 ∙ sym (append-nil b.ready.waiting)) same in
    heeds_on looked (token.0 ∷ []) a b d before (heeds_on (token.0 ∷ []) [] b c d here came)

-- a round began
pub began : (a b : Rounds) → b.ready ≡ begun a.ready → b.events ≡ a.events → b.seconds ≡ a.seconds → Comes a b
began a b is same still = (heeds_as_before [] a b ([], ap (λ q. q.waiting) is ∙ sym (append-nil a.ready.waiting)) same, still)

-- ---- looks at clients

pub looks_none : (s : Content) (token : ℕ) (a b : Sockets) → KeepsSeats a.clients.sockets b.clients.sockets → Comes a.rounds b.rounds → IsLook a s token None b
looks_none s token a b keeps came = record { may = tt; goes_on = tt; given = tt; seats = keeps; turns = came; again = tt }

pub looks_bytes : (s : Content) (key number : ℕ) (a b : Sockets) → may_read (session_of number s.sessions) ≡ true → number_at b.clients.sockets key ≡ Some number →
    KeepsSeats a.clients.sockets b.clients.sockets → Comes a.rounds b.rounds → IsLook a s (FIXED_MAX + key) (Some (Bytes number)) b
looks_bytes s key number a b may seat keeps came = record {
  may = may;
  goes_on = λ is. absurd (cc);
  given = (key, refl, sym (keeps key) ∙ seat);
  seats = keeps;
  turns = came;
  again = λ u is. absurd (cc);
}

pub looks_end : (s : Content) (key number : ℕ) (a m b : Sockets) → number_at m.clients.sockets key ≡ Some number → KeepsSeats a.clients.sockets m.clients.sockets →
    HasBesides number m.clients.sockets b.clients.sockets → Comes a.rounds b.rounds → IsLook a s (FIXED_MAX + key) (Some (Close number)) b
looks_end s key number a m b seat keeps closed came = record {
  may = tt;
  goes_on = λ is. absurd (cc);
  given = inl (key, refl, sym (keeps key) ∙ seat);
  seats = leaves_on (Close number) a.clients.sockets m.clients.sockets b.clients.sockets keeps closed;
  turns = came;
  again = λ u is. absurd (cc);
}

-- ---- sources came to wait, and nothing else happened

pub queues_by : (a b : Sockets) → Looks [] a.rounds.ready b.rounds.ready → b.rounds.events ≡ a.rounds.events → b.rounds.seconds ≡ a.rounds.seconds →
    b.clients.sockets ≡ a.clients.sockets → KeepsLine b.rounds.ready a.stall b.rounds.ready b.stall → OnlyQueues a b
queues_by a b looks events seconds clients line = (
  (heeds_as_before [] a.rounds b.rounds looks events, seconds),
  clients,
  line_on a.rounds.ready b.rounds.ready b.rounds.ready a.stall a.stall b.stall (line_with a.rounds.ready b.rounds.ready a.stall looks) line,
)

pub queues_apart : (a b : Sockets) → IsApart a b → OnlyQueues a b
queues_apart a b same = queues_by a b ([], ap (λ r. r.ready.waiting) same.0 ∙ sym (append-nil a.rounds.ready.waiting)) (ap (λ r. r.events) same.0) (ap (λ r. r.seconds) same.0)
    (ap (λ k. k.sockets) same.1) (λ n less is. subst (λ x. is_in_line b.rounds.ready x n ≡ true) (sym same.2) is)

pub queues_on : (a b c : Sockets) → OnlyQueues a b → OnlyQueues b c → OnlyQueues a c
queues_on a b c first then = (
  (heeds_on [] [] a.rounds b.rounds c.rounds first.0.0 then.0.0, then.0.1 ∙ first.0.1),
  then.1 ∙ first.1,
  line_on a.rounds.ready b.rounds.ready c.rounds.ready a.stall b.stall c.stall first.2 then.2,
)

-- ---- what goes on

pub goes_stay : (a b : Sockets) → Stays a b → GoesOn a b
goes_stay a b same = (([], (stays a.rounds b.rounds same.0).0), same.1)

pub goes_queue : (a b : Sockets) → OnlyQueues a b → GoesOn a b
goes_queue a b queues = (([], queues.0.0), heeds_still a b queues)

pub goes_look : (s : Content) (found : Option Next) (a b : Sockets) → LooksInTurn a s found b → GoesOn a b
goes_look s found a b look = ((look.looked, look.turns), look.heeds)
