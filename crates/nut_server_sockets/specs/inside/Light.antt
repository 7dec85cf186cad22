-- For private functions, nothing here has to be believed: how few lines of a piece may be answered by a list, or be reported.
use Rattle.std.specs.Prelude.{ℕ, ◌+◌, ◌==◌, ◌||◌, not, Bool, false, List, [], ◌∷◌, codes, if◌then◌else◌}
use Rattle.std.specs.List.{list_any}
use Rattle.nut_poll.specs.declared.link.Heard.{Heard}
use Rattle.nut_poll.specs.declared.link.Heard.TheVariants.{Nothing, End}
use Rattle.nut_server_loop.specs.declared.types.Next.TheVariants.{Bytes}
use Rattle.nut_server_spec.specs.Content.{Content}
use Rattle.nut_words.specs.Lines.{LineText, Text, TooLong}
use Rattle.nut_server_sockets.specs.Waits.{IsPieceLight}

-- whether the byte ends a line
abbrev pub is_feed : ℕ → Bool
is_feed c = c == 10

-- whether a line that begins with this byte is plain: it is empty, or begins as GET, HELP, NETVER, USERNAME and VER do, in
-- upper or lower case
abbrev pub is_plain : ℕ → Bool
is_plain first = is_feed first || list_any (λ c. first == c) (codes "GgHhNnUuVv")

-- whether a line with this text isn't plain
abbrev pub begins_other : List ℕ → Bool
begins_other [] = false
begins_other (c ∷ text) = not (is_plain c)

-- how many of these lines aren't plain; a line that is too long asks for nothing
abbrev pub others_in : List LineText → ℕ
others_in [] = 0
others_in (Text text ∷ lines) = (if begins_other text then 1 else 0) + others_in lines
others_in (TooLong ∷ lines) = others_in lines

-- What is heard of the connection c is light, if anything is.
abbrev pub IsHeardLight : Heard → Content → ℕ → List ℕ → Type 0
IsHeardLight Nothing s c piece = Unit {0}
IsHeardLight End s c piece = Unit {0}
IsHeardLight heard s c piece = IsPieceLight s (Bytes c) piece
