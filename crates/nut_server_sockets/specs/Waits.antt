-- How much waits for a client if each piece of it asks for at most one list.
use Rattle.std.specs.Prelude.{◌≡◌, ℕ, ◌+◌, ◌*◌, ◌<◌, ◌≤◌, Bool, true, false, if◌then◌else◌, List, [], ◌∷◌, ◌++◌, length, Some, IfSome}
use Rattle.nut_words.specs.Lines.{LineText, lines_after, rest}
use Rattle.nut_proto.specs.declared.request.Request.TheVariants as requests
use Rattle.nut_server_loop.specs.declared.types.Next.{Next}
use Rattle.nut_server_loop.specs.declared.types.Next.TheVariants.{Bytes}
use Rattle.nut_server_spec.specs.Configuration.{Configuration}
use Rattle.nut_server_spec.specs.Command.{Command, Asks, command_of}
use Rattle.nut_server_spec.specs.Event.{Event, input}
use Rattle.nut_server_spec.specs.Content.{Content, Session, content}
use Rattle.nut_server_spec.specs.Acceptance.{IsAccepted, session_of}
use Rattle.nut_server_spec.specs.laws.Laws.{before_piece}
use Rattle.nut_server_spec.specs.laws.Limits.{AreWithin}

-- whether a command asks for a list
abbrev pub asks_for_list : Command → Bool
asks_for_list (Asks (requests.List query)) = true
asks_for_list command = false

-- how many of these lines ask for a list
abbrev pub lists_in : List LineText → ℕ
lists_in [] = 0
lists_in (line ∷ lines) = (if asks_for_list (command_of line) then 1 else 0) + lists_in lines

-- A piece of a client isn't empty. Of the lines that it completes, after what the server has of them, at most one asks for a list.
abbrev pub IsPieceLight : Content → Next → List ℕ → Type 0
IsPieceLight s (Bytes c) piece = (0 < length piece) × IfSome (session_of c s.sessions) (λ k. lists_in (lines_after k.rest piece) ≤ 1)
IsPieceLight s n piece = Unit {0}

-- Suppose that the newest piece of a client completed at most one line that asks for a list. Then at most 643,682 bytes wait for
-- the client: one list of at most 578,146 bytes, and 64 KiB of other answers.
abbrev pub OneListWaits : Type 0
OneListWaits =
    (first : Configuration) (h : List Event) → AreWithin first h → IsAccepted first h →
    (c : ℕ) (k : Session) → session_of c (content first h).sessions ≡ Some k →
    (piece : List ℕ) → input c h ≡ input c (before_piece c h) ++ piece →
    lists_in (lines_after (rest (input c (before_piece c h))) piece) ≤ 1 → length k.waits ≤ 578_146 + 64 * 1024
