-- Pieces of which at most one line isn't plain are light.
use Rattle.std.proofs.Common.{◌≡◌, ◌≢◌, ℕ, ◌<◌, ◌≤◌, false, List, length, refl, sym, ap, ◌∙◌, arith, Option, Some, None, IfSome}
use Rattle.std.specs.Prelude.{nat_lt}
use Rattle.std.proofs.lemmas.Bool.Decides.{nat_tests}
use Rattle.nut_poll.specs.declared.link.Heard.{Heard}
use Rattle.nut_poll.specs.declared.link.Heard.TheVariants.{All, Part, Nothing, End}
use Rattle.nut_server_spec.specs.Acceptance.{kept, session_of}
use Rattle.nut_server_spec.specs.Content.{Content, Session}
use Rattle.nut_words.specs.Cutter.{kept_of}
use Rattle.nut_words.specs.Lines.{LineText, lines_after}
use Rattle.nut_server_sockets.specs.Waits.{lists_in}
use Rattle.nut_server_sockets.specs.inside.Light.{IsHeardLight, others_in}
use Rattle.nut_server_sockets.proofs.PlainLines.{lists_are_others}

-- The piece is light after the unfinished line of this connection, if it is open.
abbrev IsLightFor : Content → ℕ → List ℕ → Type 0
IsLightFor s c piece = IfSome (session_of c s.sessions) (λ k. lists_in (lines_after k.rest piece) ≤ 1)

light_for : (s : Content) (c : ℕ) (piece : List ℕ) → ((k : Session) → session_of c s.sessions ≡ Some k → others_in (lines_after k.rest piece) ≤ 1) → IsLightFor s c piece
light_for s c piece few = by (session_of c s.sessions) refl where
  by : (o : Option Session) → session_of c s.sessions ≡ o → IfSome o (λ k. lists_in (lines_after k.rest piece) ≤ 1)
  by None is = tt
  by (Some k) is = omega (arith, few k is, lists_are_others (lines_after k.rest piece))

-- A piece with one line is light, whatever was begun.
pub light_line : (s : Content) (c : ℕ) (piece : List ℕ) → ((line : LineText) → others_in (lines_after line piece) ≤ 1) → IsLightFor s c piece
light_line s c piece one = light_for s c piece (λ k is. one k.rest)

-- A piece is light that was cut by how many bytes the server keeps of a line.
pub light_cut : (s : Content) (c n : ℕ) (piece : List ℕ) → n ≡ kept (session_of c s.sessions) →
    ((line : LineText) → (nat_lt 0 n ≡ false → kept_of line ≡ 0) → others_in (lines_after line piece) ≤ 1) → IsLightFor s c piece
light_cut s c n piece keeps one = light_for s c piece (λ k is. one k.rest (λ none. sym (keeps ∙ ap kept is) ∙ zero_of n none)) where
  zero_of : (n : ℕ) → nat_lt 0 n ≡ false → n ≡ 0
  zero_of n none = grind (arith, nat_tests)

pub heard_light : (heard : Heard) (s : Content) (c : ℕ) (piece : List ℕ) → (heard ≢ Nothing → heard ≢ End → 0 < length piece) → IsLightFor s c piece → IsHeardLight heard s c piece
heard_light All s c piece some light = (some (λ is. cc) (λ is. cc), light)
heard_light Part s c piece some light = (some (λ is. cc) (λ is. cc), light)
heard_light Nothing s c piece some light = tt
heard_light End s c piece some light = tt
