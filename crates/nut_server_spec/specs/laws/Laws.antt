-- What holds of every history of accepted events. Each law here is the contract of a function of the crate.
use Rattle.std.specs.Prelude.{◌≡◌, ℕ, ◌<◌, ◌≤◌, ◌==◌, ◌+◌, false, true, if◌then◌else◌, List, [], ◌∷◌, ◌++◌, length, map, max, take, Bool, Option, Some, None}
use Rattle.nut_queue.specs.declared.limits.TheConstants.{ASKS_MAX}
use Rattle.nut_words.specs.Quoting.{Begins}
use Rattle.nut_words.specs.Cutter.{kept_of}
use Rattle.nut_words.specs.Lines.{rest}
use Rattle.nut_words.specs.declared.limits.TheConstants.{LINE_MAX}
use Rattle.nut_server_spec.specs.Configuration.{Configuration}
use Rattle.nut_server_spec.specs.Device.{Device}
use Rattle.nut_server_spec.specs.Event.{Event, Open, Bytes, Took, Close, WriteFailed, DriverUp, DriverBytes, DriverTook, DriverDown, Reload, input, driver_input, steps}
use Rattle.nut_server_spec.specs.Trace.{numbering, device, due, driver_due, driver_sent, logged_out}
use Rattle.nut_server_spec.specs.Content.{Session, Supply, Content, content, past, sent, session, fresh, numbering_of}
use Rattle.nut_server_spec.specs.Acceptance.{IsAccepted, session_of, waiting_of, supply_of, asks_of}
use Rattle.nut_server_spec.specs.Numbering.{fate_of, is_cleared, is_to_cleared}
use Rattle.std.specs.Option.{option_map_or}
use Rattle.nut_server_spec.specs.declared.limits.TheConstants.{OPENED_MAX}

-- A connection's bytes lead to the same content whether they come as one piece or cut into two.
abbrev pub CutsDoNotMatter : Type 0
CutsDoNotMatter =
    (first : Configuration) (h : List Event) (c : ℕ) (x y : List ℕ) →
    content first (Bytes c (x ++ y) ∷ h) ≡ content first (Bytes c y ∷ Bytes c x ∷ h)

-- A driver's bytes lead to the same content whether they come as one piece or cut into two.
abbrev pub DriverCutsDoNotMatter : Type 0
DriverCutsDoNotMatter =
    (first : Configuration) (h : List Event) (u : ℕ) (x y : List ℕ) →
    content first (DriverBytes u (x ++ y) ∷ h) ≡ content first (DriverBytes u y ∷ DriverBytes u x ∷ h)

-- What happens while one connection or one driver sends: a piece of its bytes comes, or somebody takes n bytes.
pub data Turn : Type 0 where
  Piece : (bytes : List ℕ) → Turn
  Taken : (who : ℕ) (n : ℕ) → Turn

-- the bytes of the pieces, joined
abbrev pub bytes_of : List Turn → List ℕ
bytes_of [] = []
bytes_of (Piece bytes ∷ turns) = bytes_of turns ++ bytes
bytes_of (Taken who n ∷ turns) = bytes_of turns

-- the history h, and after it these turns, the newest first: c sends the pieces, and connections take bytes
abbrev pub sending : ℕ → List Turn → List Event → List Event
sending c [] h = h
sending c (Piece bytes ∷ turns) h = Bytes c bytes ∷ sending c turns h
sending c (Taken d n ∷ turns) h = Took d n ∷ sending c turns h

-- the history h, and after it these turns, the newest first: the driver of u sends the pieces, and drivers take bytes
abbrev pub reporting : ℕ → List Turn → List Event → List Event
reporting u [] h = h
reporting u (Piece bytes ∷ turns) h = DriverBytes u bytes ∷ reporting u turns h
reporting u (Taken v n ∷ turns) h = DriverTook v n ∷ reporting u turns h

-- If two histories have the same steps, connections get the same answers in both, and drivers the same requests.
abbrev pub SameStepsSameAnswers : Type 0
SameStepsSameAnswers =
    (first : Configuration) (g h : List Event) → steps g ≡ steps h →
    ((c : ℕ) → due c (past first g) ≡ due c (past first h)) × ((u : ℕ) → driver_due u (past first g) ≡ driver_due u (past first h))

-- However the bytes of a connection are cut, and whatever connections take between the pieces, the steps are those of
-- all the bytes in one piece. So two ways to cut the same bytes have the same past, with the same answers.
pub record CutsAndWritesDoNotMatter : Type 0 where
  pub one_piece : (h : List Event) (c : ℕ) (turns : List Turn) → steps (sending c turns h) ≡ steps (Bytes c (bytes_of turns) ∷ h)
  pub same_answers :
      (first : Configuration) (h : List Event) (c : ℕ) (turns others : List Turn) → bytes_of turns ≡ bytes_of others →
      past first (sending c turns h) ≡ past first (sending c others h)

-- a UPS without the bytes that wait for its driver
abbrev pub told_of : Device → Device
told_of d = record d { waits = [] }

-- However the bytes of a driver are cut, and whatever drivers take between the pieces, what follows is what follows
-- from all the bytes in one piece: what is known of each UPS, each driver's unfinished line, the requests to each
-- driver and the answers to each connection.
pub record DriverCutsAndWritesDoNotMatter : Type 0 where
  pub same_devices :
      (first : Configuration) (h : List Event) (u : ℕ) (turns : List Turn) (v : ℕ) →
      told_of (device first (past first (reporting u turns h)) v) ≡ told_of (device first (past first (DriverBytes u (bytes_of turns) ∷ h)) v)
  pub same_rest :
      (h : List Event) (u : ℕ) (turns : List Turn) (v : ℕ) → driver_input v (reporting u turns h) ≡ driver_input v (DriverBytes u (bytes_of turns) ∷ h)
  pub same_requests :
      (first : Configuration) (h : List Event) (u : ℕ) (turns : List Turn) (v : ℕ) →
      driver_due v (past first (reporting u turns h)) ≡ driver_due v (past first (DriverBytes u (bytes_of turns) ∷ h))
  pub same_answers :
      (first : Configuration) (h : List Event) (u : ℕ) (turns : List Turn) (c : ℕ) →
      due c (past first (reporting u turns h)) ≡ due c (past first (DriverBytes u (bytes_of turns) ∷ h))

-- A piece of a connection that has logged out gets no answer and sends no request to a driver. It changes only what is
-- kept of the connection's unfinished line.
pub record LogoutIsFinal : Type 0 where
  pub no_answers :
      (first : Configuration) (h : List Event) (c : ℕ) (piece : List ℕ) → logged_out c (past first h) ≡ true →
      (d : ℕ) → due d (past first (Bytes c piece ∷ h)) ≡ due d (past first h)
  pub no_requests :
      (first : Configuration) (h : List Event) (c : ℕ) (piece : List ℕ) → logged_out c (past first h) ≡ true →
      (u : ℕ) → driver_due u (past first (Bytes c piece ∷ h)) ≡ driver_due u (past first h)
  pub same_sessions :
      (first : Configuration) (h : List Event) (c : ℕ) (piece : List ℕ) → logged_out c (past first h) ≡ true →
      (d : ℕ) → session first (Bytes c piece ∷ h) d ≡ record (session first h d) { rest = rest (input d (Bytes c piece ∷ h)) }
  pub same_devices :
      (first : Configuration) (h : List Event) (c : ℕ) (piece : List ℕ) → logged_out c (past first h) ≡ true →
      (u : ℕ) → device first (past first (Bytes c piece ∷ h)) u ≡ device first (past first h) u

-- ---- what is sent

-- the bytes that c took, piece by piece, of those that waited for it
abbrev pub received : Configuration → ℕ → List Event → List ℕ
received first c [] = []
received first c (Took d n ∷ h) = if d == c then received first c h ++ take n (waiting_of c (content first h).sessions) else received first c h
received first c (e ∷ h) = received first c h

-- What a connection was sent is what it took, piece by piece, of the bytes that waited for it.
abbrev pub SentIsReceived : Type 0
SentIsReceived = (first : Configuration) (h : List Event) (c : ℕ) → IsAccepted first h → sent first c h ≡ received first c h

-- What an open connection was sent, followed by what waits for it, is the answers to its lines, joined.
abbrev pub SentAndWaitingIsDue : Type 0
SentAndWaitingIsDue =
    (first : Configuration) (h : List Event) (c : ℕ) (k : Session) → IsAccepted first h →
    session_of c (content first h).sessions ≡ Some k → sent first c h ++ k.waits ≡ due c (past first h)

-- The answers to a connection's lines begin with what it was sent, also after it is closed.
abbrev pub SentIsFrontOfDue : Type 0
SentIsFrontOfDue = (first : Configuration) (h : List Event) (c : ℕ) → IsAccepted first h → Begins (sent first c h) (due c (past first h))

-- the bytes that the driver of u took since it was connected, piece by piece, of those that waited for it
abbrev pub driver_received : Configuration → ℕ → List Event → List ℕ
driver_received first u [] = []
driver_received first u (DriverTook v n ∷ h) =
    if v == u then driver_received first u h ++ take n (asks_of u (content first h).supplies) else driver_received first u h
driver_received first u (DriverUp v ∷ h) = if v == u then [] else driver_received first u h
driver_received first u (Reload configuration ∷ h) =
    if is_cleared (fate_of configuration.upses (numbering first (past first h)) u) then [] else driver_received first u h
driver_received first u (e ∷ h) = driver_received first u h

-- What a driver was sent since it was connected is what it took, piece by piece, of the bytes that waited for it.
abbrev pub DriverSentIsReceived : Type 0
DriverSentIsReceived =
    (first : Configuration) (h : List Event) (u : ℕ) → IsAccepted first h → driver_sent u (past first h) ≡ driver_received first u h

-- What a connected driver was sent, followed by what waits for it, is the requests to it since it was connected,
-- joined.
abbrev pub DriverSentAndWaitingIsDue : Type 0
DriverSentAndWaitingIsDue =
    (first : Configuration) (h : List Event) (u : ℕ) (d : Supply) → IsAccepted first h →
    supply_of u (content first h).supplies ≡ Some d → d.device.connected ≡ true →
    driver_sent u (past first h) ++ d.device.waits ≡ driver_due u (past first h)

-- ---- numbers

-- n is less than each of these numbers
abbrev pub IsBelow : ℕ → List ℕ → Type 0
IsBelow n [] = Unit {0}
IsBelow n (m ∷ ns) = (n < m) × IsBelow n ns

-- each number is less than those after it
abbrev pub IsRising : List ℕ → Type 0
IsRising [] = Unit {0}
IsRising (n ∷ ns) = IsBelow n ns × IsRising ns

-- no number is greater than n
abbrev pub IsUpTo : ℕ → List ℕ → Type 0
IsUpTo n [] = Unit {0}
IsUpTo n (m ∷ ns) = (m ≤ n) × IsUpTo n ns

-- the numbers of the open connections
abbrev pub numbers : Content → List ℕ
numbers s = map (λ k. k.number) s.sessions

-- The numbers of the open connections rise, each is at least 1, and none is greater than the number of connections
-- opened so far.
abbrev pub NumbersRise : Type 0
NumbersRise =
    (first : Configuration) (h : List Event) →
    IsBelow 0 (numbers (content first h)) × IsRising (numbers (content first h)) × IsUpTo (content first h).opened (numbers (content first h))

-- ---- what stays

-- the number of the connection that an event concerns, if it concerns one; an Open concerns the connection that it
-- opens
abbrev pub connection_of : Content → Event → Option ℕ
connection_of s (Open address) = Some (s.opened + 1)
connection_of s (Bytes c piece) = Some c
connection_of s (Took c n) = Some c
connection_of s (Close c) = Some c
connection_of s (WriteFailed c) = Some c
connection_of s e = None

-- the number of the UPS whose driver an event concerns, if it concerns one
abbrev pub driver_of : Event → Option ℕ
driver_of (DriverUp u) = Some u
driver_of (DriverBytes u piece) = Some u
driver_of (DriverTook u n) = Some u
driver_of (DriverDown u) = Some u
driver_of e = None

-- the connection d isn't the one that an event concerns
abbrev pub IsOther : ℕ → Option ℕ → Type 0
IsOther d None = Unit {0}
IsOther d (Some c) = (c == d) ≡ false

-- whether an event closes the connection d besides its own: a reload does so where d is logged in to a UPS that goes
abbrev pub closes : Content → Event → ℕ → Bool
closes s (Reload configuration) d =
    option_map_or (λ k. is_to_cleared (fate_of configuration.upses (numbering_of s)) k.login) (session_of d s.sessions) false
closes s e d = false

-- An accepted event changes no connection except its own and those that it closes.
abbrev pub OthersStay : Type 0
OthersStay =
    (first : Configuration) (h : List Event) (e : Event) (d : ℕ) → IsAccepted first (e ∷ h) → IsOther d (connection_of (content first h) e) →
    closes (content first h) e d ≡ false → session_of d (content first (e ∷ h)).sessions ≡ session_of d (content first h).sessions

-- An accepted event of a driver changes no UPS except its own.
abbrev pub OtherDriversStay : Type 0
OtherDriversStay =
    (first : Configuration) (h : List Event) (e : Event) (u v : ℕ) → IsAccepted first (e ∷ h) → driver_of e ≡ Some v → (v == u) ≡ false →
    supply_of u (content first (e ∷ h)).supplies ≡ supply_of u (content first h).supplies

-- A new connection has said nothing, and nothing waits for it.
abbrev pub OpenedIsFresh : Type 0
OpenedIsFresh =
    (first : Configuration) (h : List Event) (address : List ℕ) → IsAccepted first (Open address ∷ h) →
    session_of (content first (Open address ∷ h)).opened (content first (Open address ∷ h)).sessions
    ≡ Some (fresh (content first (Open address ∷ h)).opened address)

-- If a connection was opened before and isn't open, no accepted event opens it.
abbrev pub ClosedStaysClosed : Type 0
ClosedStaysClosed =
    (first : Configuration) (h : List Event) (e : Event) (d : ℕ) → IsAccepted first (e ∷ h) → d ≤ (content first h).opened →
    session_of d (content first h).sessions ≡ None → session_of d (content first (e ∷ h)).sessions ≡ None

-- ---- bounds

-- no more than ASKS_MAX bytes wait for a driver
abbrev pub IsBoundedSupply : Supply → Type 0
IsBoundedSupply d = length d.device.waits ≤ ASKS_MAX

-- no more than LINE_MAX bytes of an unfinished line are kept
abbrev pub IsBoundedSession : Session → Type 0
IsBoundedSession k = kept_of k.rest ≤ LINE_MAX

-- In every history of accepted events, at most 2,048 bytes of an unfinished line are kept and at most 4,096 bytes wait
-- for a driver.
abbrev pub BoundsHold : Type 0
BoundsHold =
    (first : Configuration) (h : List Event) → IsAccepted first h →
    ((c : ℕ) (k : Session) → session_of c (content first h).sessions ≡ Some k → IsBoundedSession k)
    × ((u : ℕ) (d : Supply) → supply_of u (content first h).supplies ≡ Some d → IsBoundedSupply d)

-- At most so many connections are open, at most 4,294,967,295 were opened, and the number of an open connection is at most
-- the number of connections opened.
pub record HasFewConnections (most : ℕ) (s : Content) : Type 0 where
  pub few : length s.sessions ≤ most
  pub given : s.opened ≤ OPENED_MAX
  pub each : IsUpTo s.opened (numbers s)

-- the greatest number of connections that one of the configurations so far allowed
abbrev pub most_allowed : Configuration → List Event → ℕ
most_allowed first [] = first.most_connections
most_allowed first (Reload configuration ∷ h) = max configuration.most_connections (most_allowed first h)
most_allowed first (e ∷ h) = most_allowed first h

-- In every history of accepted events, at most as many connections are open as one of the configurations so far allowed.
abbrev pub ConnectionsAreFew : Type 0
ConnectionsAreFew = (first : Configuration) (h : List Event) → IsAccepted first h → HasFewConnections (most_allowed first h) (content first h)

-- the history before the newest piece of c, or the empty history if no piece came
abbrev pub before_piece : ℕ → List Event → List Event
before_piece c [] = []
before_piece c (Bytes d piece ∷ h) = if d == c then h else before_piece c h
before_piece c (e ∷ h) = before_piece c h

-- What waits for an open connection is the end of the answers to its newest piece: the answers due are those due before
-- that piece, then some bytes, and then what waits.
abbrev pub WaitsForOnePiece : Type 0
WaitsForOnePiece =
    (first : Configuration) (h : List Event) (c : ℕ) (k : Session) → IsAccepted first h →
    session_of c (content first h).sessions ≡ Some k →
    (gone : List ℕ) × (due c (past first h) ≡ due c (past first (before_piece c h)) ++ gone ++ k.waits)
