-- For private functions, nothing here has to be believed: what looks at sources find, and what they leave.
use Rattle.std.specs.Prelude.{◌≡◌, ◌≢◌, ◌⊎◌, ℕ, ◌+◌, ◌<◌, ◌&&◌, ◌||◌, nat_lt, Bool, true, List, Option, None, IfSome}
use Rattle.std.specs.Option.{unwrap_or}
use Rattle.nut_conf.specs.declared.limits.TheConstants.{LISTENERS_MAX}
use Rattle.nut_poll.specs.Queue.{Queue, is_waiting}
use Rattle.nut_poll.specs.Turns.{Heeds}
use Rattle.nut_poll.specs.declared.ready.TheConstants.{SOCKETS_MAX}
use Rattle.nut_server_loop.specs.Record.{MayCome}
use Rattle.nut_server_loop.specs.declared.types.Next.{Next}
use Rattle.nut_server_loop.specs.declared.types.Next.TheVariants as next
use Rattle.nut_server_spec.specs.Configuration.{Configuration}
use Rattle.nut_server_spec.specs.Content.{Content}
use Rattle.slab.specs.Slab.{Slab}
use Rattle.nut_server_sockets.specs.Seats.{KeepsSeats}
use Rattle.nut_server_sockets.specs.Turns.{Comes, IsGivenBy, IsHeeded, IsOfLast, LeavesOthers}
use Rattle.nut_server_sockets.specs.declared.client.Client.{Client}
use Rattle.nut_server_sockets.specs.declared.sockets.Sockets.{Sockets}
use Rattle.nut_server_sockets.specs.declared.source.TheConstants.{FIXED_MAX}
use Rattle.nut_server_sockets.specs.declared.stall.Stall.{Stall}
use Rattle.nut_server_sockets.specs.inside.Due.{HasMore, is_due_at}

-- whether the source with this token waits in the queue, or is put aside until drivers were heard
abbrev pub is_in_line : Queue → Stall → ℕ → Bool
is_in_line ready stall n = is_waiting n ready.waiting || (nat_lt 0 stall.seconds && is_waiting n stall.clients.waiting)

-- Each client that was heeded is so still.
abbrev pub KeepsHeeded : Sockets → Sockets → Type 0
KeepsHeeded old new = (key : ℕ) → IsHeeded old key → IsHeeded new key

-- A driver of which a piece was read waits for the next look.
abbrev pub WaitsAgain : Next → Queue → Type 0
WaitsAgain n q = (u : ℕ) → n ≡ next.DriverBytes u → LISTENERS_MAX + u < SOCKETS_MAX → is_waiting (LISTENERS_MAX + u) q.waiting ≡ true

-- What came of a look at the source with this token, if anything did, and what it left of the others.
pub record IsLook (old : Sockets) (s : Content) (token : ℕ) (found : Option Next) (new : Sockets) : Type 0 where
  pub may : IfSome found (λ n. MayCome n s)
  pub goes_on : IfSome found (λ n. n ≢ next.End)
  pub given : IfSome found (λ n. IsGivenBy old.clients.sockets s token n)
  pub seats : LeavesOthers (unwrap_or found next.Again) old.clients.sockets new.clients.sockets
  pub turns : Comes old.rounds new.rounds
  pub again : IfSome found (λ n. WaitsAgain n new.rounds.ready)

-- Sources were looked at in turn until the last of them gave this, or none of them gave anything. The clock wasn't looked at.
pub record LooksInTurn (old : Sockets) (s : Content) (found : Option Next) (new : Sockets) : Type 0 where
  pub may : IfSome found (λ n. MayCome n s)
  pub goes_on : IfSome found (λ n. n ≢ next.End)
  pub seats : LeavesOthers (unwrap_or found next.Again) old.clients.sockets new.clients.sockets
  pub looked : List ℕ
  pub turns : Heeds looked old.rounds new.rounds
  pub still : new.rounds.seconds ≡ old.rounds.seconds
  pub of_last : IfSome found (λ n. IsOfLast old.clients.sockets s n looked)
  pub again : IfSome found (λ n. WaitsAgain n new.rounds.ready)
  pub heeds : KeepsHeeded old new

-- Neither the clients nor who waits were touched.
abbrev pub IsApart : Sockets → Sockets → Type 0
IsApart old new = (new.rounds ≡ old.rounds) × (new.clients ≡ old.clients) × (new.stall ≡ old.stall)

-- Whoever was in line is so still.
abbrev pub KeepsLine : Queue → Stall → Queue → Stall → Type 0
KeepsLine ready stall new_ready new_stall =
    (n : ℕ) → n < SOCKETS_MAX → is_in_line ready stall n ≡ true → is_in_line new_ready new_stall n ≡ true

-- Sources came to wait behind all others, and no client was touched.
abbrev pub OnlyQueues : Sockets → Sockets → Type 0
OnlyQueues old new = Comes old.rounds new.rounds × (new.clients.sockets ≡ old.clients.sockets)
    × KeepsLine old.rounds.ready old.stall new.rounds.ready new.stall

-- Nobody came to wait, and of each client that was heeded this is still so.
abbrev pub Stays : Sockets → Sockets → Type 0
Stays old new = (new.rounds ≡ old.rounds) × KeepsHeeded old new

-- The client with this token needn't have been heeded: it is, if all others were.
abbrev pub HeedsAlso : ℕ → Sockets → Sockets → Type 0
HeedsAlso token old new = (key : ℕ) → (token ≢ FIXED_MAX + key → IsHeeded old key) → IsHeeded new key

-- Events of the sources with these tokens were noted.
pub record IsNoted (tokens : List ℕ) (old new : Slab Client) : Type 0 where
  pub seats : KeepsSeats old new
  pub more : (key : ℕ) → is_waiting (FIXED_MAX + key) tokens ≡ true → HasMore new key
  pub kept : (key : ℕ) → HasMore old key → HasMore new key
  pub due : (key : ℕ) → is_due_at new key ≡ true → (is_due_at old key ≡ true) ⊎ (is_waiting (FIXED_MAX + key) tokens ≡ true)

-- The reloader was asked, and gave just this. Or it wasn't asked, and nothing came.
abbrev pub Asks : {L : Type 0} → (L → Option Configuration → L → Type 0) → L → Option Configuration → L → Type 0
Asks gave old given new = gave old given new ⊎ ((given ≡ None) × (new ≡ old))
