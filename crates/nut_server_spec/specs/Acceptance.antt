-- Which events a server refuses, in the order of its tests, and the histories without a refused event.
use Rattle.std.specs.Prelude.{ℕ, zero, suc, ◌≡◌, ◌==◌, nat_lt, nat_le, Bool, true, false, not, ◌&&◌, if◌then◌else◌, List, [], ◌∷◌, length, find, slice_get, Option, Some, None, is_some}
use Rattle.std.specs.List.{list_all}
use Rattle.std.specs.Option.{option_map_or}
use Rattle.nut_words.specs.Bytes.{line_feed}
use Rattle.nut_words.specs.Spelling.{is_bare}
use Rattle.nut_words.specs.Cutter.{kept_of}
use Rattle.nut_words.specs.declared.limits.TheConstants.{PIECE_MAX}
use Rattle.nut_server_spec.specs.declared.Refused.{Refused}
use Rattle.nut_server_spec.specs.declared.Refused.TheVariants.{NoSuchConnection, NotConnected, PieceTooLong, Busy, TooMuchTaken, BadAddress, Full}
use Rattle.nut_server_spec.specs.Configuration.{Configuration}
use Rattle.nut_server_spec.specs.Event.{Event, Moment, Open, Bytes, Took, Close, WriteFailed, DriverUp, DriverBytes, DriverTook, DriverDown, Reload}
use Rattle.nut_server_spec.specs.Content.{Session, Supply, Content, content}
use Rattle.nut_server_spec.specs.Numbering.{is_taken}
use Rattle.nut_server_spec.specs.declared.limits.TheConstants.{ADDRESS_MAX, OPENED_MAX}

-- the session of the connection c, if it is open
abbrev pub session_of : ℕ → List Session → Option Session
session_of c sessions = find (λ k. k.number == c) sessions

-- the UPS with the number u, if there is one
abbrev pub supply_of : ℕ → List Supply → Option Supply
supply_of u supplies = slice_get supplies u

-- 1 to ADDRESS_MAX bytes, each of which may stand in a bare word
abbrev pub is_address : List ℕ → Bool
is_address address = nat_le 1 (length address) && nat_le (length address) ADDRESS_MAX && list_all is_bare address

-- Why a new connection is refused: its address is none; or as many connections are open as the configuration allows, or
-- 4,294,967,295 have been opened.
abbrev pub open_refusal : Content → List ℕ → Option Refused
open_refusal s address =
    if not (is_address address) then Some BadAddress else
    if not (nat_lt (length s.sessions) s.configuration.most_connections && nat_lt s.opened OPENED_MAX) then Some Full else None

-- Why a piece of a connection is refused: the connection isn't open, the piece has more than PIECE_MAX bytes, or bytes
-- wait for the connection.
abbrev pub bytes_refusal : List ℕ → Option Session → Option Refused
bytes_refusal piece None = Some NoSuchConnection
bytes_refusal piece (Some k) =
    if nat_lt PIECE_MAX (length piece) then Some PieceTooLong else
    if nat_lt 0 (length k.waits) then Some Busy else None

-- Why a connection can't take n bytes: it isn't open, or fewer wait for it.
abbrev pub took_refusal : ℕ → Option Session → Option Refused
took_refusal n None = Some NoSuchConnection
took_refusal n (Some k) = if nat_lt (length k.waits) n then Some TooMuchTaken else None

-- Why a connection can't be closed: it isn't open.
abbrev pub close_refusal : Option Session → Option Refused
close_refusal None = Some NoSuchConnection
close_refusal (Some k) = None

-- Why a piece of a driver is refused: there is no such UPS, its driver isn't connected, or the piece has more than
-- PIECE_MAX bytes.
abbrev pub report_refusal : List ℕ → Option Supply → Option Refused
report_refusal piece None = Some NotConnected
report_refusal piece (Some d) =
    if not d.device.connected then Some NotConnected else
    if nat_lt PIECE_MAX (length piece) then Some PieceTooLong else None

-- Why a driver can't take n bytes: there is no such UPS, its driver isn't connected, or fewer bytes wait for it.
abbrev pub drain_refusal : ℕ → Option Supply → Option Refused
drain_refusal n None = Some NotConnected
drain_refusal n (Some d) =
    if not d.device.connected then Some NotConnected else
    if nat_lt (length d.device.waits) n then Some TooMuchTaken else None

-- Why a driver can't be disconnected: there is no such UPS, or its driver isn't connected.
abbrev pub down_refusal : Option Supply → Option Refused
down_refusal None = Some NotConnected
down_refusal (Some d) = if d.device.connected then None else Some NotConnected

-- why the event is refused, apart from a lack of memory: the first test that fails; a moment and a reload are never
-- refused
abbrev pub refusal : Content → Event → Option Refused
refusal s (Moment t) = None
refusal s (Open address) = open_refusal s address
refusal s (Bytes c piece) = bytes_refusal piece (session_of c s.sessions)
refusal s (Took c n) = took_refusal n (session_of c s.sessions)
refusal s (Close c) = close_refusal (session_of c s.sessions)
refusal s (WriteFailed c) = close_refusal (session_of c s.sessions)
refusal s (DriverUp u) = if is_taken u s.numbers then None else Some NotConnected
refusal s (DriverBytes u piece) = report_refusal piece (supply_of u s.supplies)
refusal s (DriverTook u n) = drain_refusal n (supply_of u s.supplies)
refusal s (DriverDown u) = down_refusal (supply_of u s.supplies)
refusal s (Reload configuration) = None

-- No event of the history was refused.
abbrev pub IsAccepted : Configuration → List Event → Type 0
IsAccepted first [] = Unit {0}
IsAccepted first (e ∷ h) = IsAccepted first h × (refusal (content first h) e ≡ None)

-- A server that was made with the configuration `first` and accepted the events h has this content.
abbrev pub Tells : Configuration → List Event → Content → Type 0
Tells first h s = IsAccepted first h × (s ≡ content first h)

-- the bytes of a piece up to its k-th line feed, this included
abbrev pub front : ℕ → List ℕ → List ℕ
front zero piece = []
front (suc k) [] = []
front (suc k) (b ∷ piece) = b ∷ (if b == line_feed then front k piece else front (suc k) piece)

-- the history behind k lines of a piece of c, and behind k lines of a piece of the driver of u
abbrev pub behind : ℕ → List ℕ → ℕ → List Event → List Event
behind c piece zero h = h
behind c piece (suc k) h = Bytes c (front (suc k) piece) ∷ h

abbrev pub behind_report : ℕ → List ℕ → ℕ → List Event → List Event
behind_report u piece zero h = h
behind_report u piece (suc k) h = DriverBytes u (front (suc k) piece) ∷ h

-- how many lines a piece completes: the number of its line feeds
abbrev pub line_feeds : List ℕ → ℕ
line_feeds [] = 0
line_feeds (b ∷ piece) = if b == line_feed then suc (line_feeds piece) else line_feeds piece

-- the bytes that wait for a connection: none if it isn't open
abbrev pub waiting_in : Option Session → List ℕ
waiting_in None = []
waiting_in (Some k) = k.waits

-- the bytes that wait for the connection c: none if it isn't open
abbrev pub waiting_of : ℕ → List Session → List ℕ
waiting_of c sessions = waiting_in (session_of c sessions)

-- whether a connection may be read from: it is open, nothing waits for it, and it hasn't logged out
abbrev pub may_read : Option Session → Bool
may_read None = false
may_read (Some k) = (length k.waits == 0) && not k.logged_out

-- whether a connection is to be closed: it has logged out, and nothing waits for it
abbrev pub leaves : Option Session → Bool
leaves None = false
leaves (Some k) = (length k.waits == 0) && k.logged_out

-- whether a connection is open and its client is logged in to a UPS
abbrev pub has_login : Option Session → Bool
has_login found = option_map_or (λ k. is_some k.login) found false

-- how many bytes of an unfinished line are kept: none if the connection isn't open
abbrev pub kept : Option Session → ℕ
kept found = option_map_or (λ k. kept_of k.rest) found 0

-- the bytes that wait for the driver of the UPS u: none if there is no such UPS
abbrev pub asks_of : ℕ → List Supply → List ℕ
asks_of u supplies = option_map_or (λ d. d.device.waits) (supply_of u supplies) []

-- whether the driver of a UPS is connected: false if there is no such UPS
abbrev pub is_connected : Option Supply → Bool
is_connected None = false
is_connected (Some d) = d.device.connected
