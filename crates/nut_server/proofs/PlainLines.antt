-- What a plain line says.
use Rattle.std.proofs.Common.{◌≡◌, ℕ, false, List, [], ◌∷◌, Some, Ok, Err, ap, refl, sym, ◌∙◌}
use Rattle.std.specs.Prelude.{IsTrue}
use Rattle.nut_words.specs.Cutter.{IsFirstLine}
use Rattle.nut_words.specs.Lines.{LineText, Text}
use Rattle.nut_words.specs.Reader.{spelled}
use Rattle.nut_proto.specs.declared.request.Request.{Request}
use Rattle.nut_proto.specs.declared.refusal.Refusal.TheVariants.{InvalidArgument}
use Rattle.nut_proto.specs.Forms.{meaning}
use Rattle.nut_server_spec.specs.Answer.{answer}
use Rattle.nut_server_spec.specs.Content.{Content, Session}
use Rattle.nut_server_spec.specs.Outcome.{line_takes}
use Rattle.nut_server_spec.specs.machine.Machine.{answer_in, caller_of, scene_of}
use Rattle.nut_server.specs.inside.Effects.{answered_by}
use Rattle.nut_server.specs.inside.Lines.{IsHeard, IsMissed}
use Rattle.nut_server_spec.specs.Command.{Asks, asked, command_in, command_of}

words_say : (words : List (List ℕ)) (request : Request) → meaning words ≡ Ok request → command_in (Ok words) ≡ Asks request
unfolding meaning
words_say [] request is = absurd (let never : Err InvalidArgument ≡ Ok request = is in cc)
words_say (word ∷ words) request is = ap asked is

-- The line asks what its words mean.
pub plain_says : (line : LineText) (text : List ℕ) (request : Request) → line ≡ Text text → (words : List (List ℕ)) × (spelled text ≡ Ok words) × (meaning words ≡ Ok request) → command_of line ≡ Asks request
plain_says line text request is told = ap command_of is ∙ ap command_in told.1 ∙ words_say told.0 request told.2

-- The answer to what a plain line asks is the answer to the line.
pub answers_plain : (c : ℕ) (s new : Content) (line : LineText) (request : Request) (k : Session) → command_of line ≡ Asks request → k.logged_out ≡ false
    → new ≡ answered_by c (Asks request) (answer (scene_of s) (caller_of k) (Asks request)) s → new ≡ answered_by c (command_of line) (answer_in s (command_of line) k) s
answers_plain c s new line request k is awake said =
    let same : answer_in s (command_of line) k ≡ answer (scene_of s) (caller_of k) (Asks request) = rw (awake, is) refl in
    said ∙ sym (ap (λ reply. answered_by c (command_of line) reply s) same ∙ ap (λ command. answered_by c command (answer (scene_of s) (caller_of k) (Asks request)) s) is)

-- A plain line may take memory.
pub takes_plain : (line : LineText) (request : Request) (k : Session) → command_of line ≡ Asks request → k.logged_out ≡ false → IsTrue (line_takes line (Some k))
takes_plain line request k is awake = rw (awake, is) refl

-- ---- a plain line that begins a piece

abbrev pub IsTold : List ℕ → List ℕ → Request → Type 0
IsTold bytes after request =
    (text : List ℕ) × (words : List (List ℕ)) × IsFirstLine text bytes after × (spelled text ≡ Ok words) × (meaning words ≡ Ok request)

pub plain_heard : (c : ℕ) (k : Session) (bytes after : List ℕ) (s new : Content) (request : Request) → IsTold bytes after request → k.rest ≡ Text [] → k.logged_out ≡ false
    → new ≡ answered_by c (Asks request) (answer (scene_of s) (caller_of k) (Asks request)) s → IsHeard c k bytes after s new
plain_heard c k bytes after s new request told start awake said = record {
  text = told.0;
  first = told.2;
  start = start;
  heard = answers_plain c s new (Text told.0) request k (plain_says (Text told.0) told.0 request refl (told.1, told.3, told.4)) awake said;
}

pub plain_missed : (k : Session) (bytes after : List ℕ) (s new : Content) (request : Request) → IsTold bytes after request → k.rest ≡ Text [] → k.logged_out ≡ false
    → new ≡ s → IsMissed k bytes s new
plain_missed k bytes after s new request told start awake same = record {
  text = told.0;
  after = after;
  first = told.2;
  start = start;
  same = same;
  takes = takes_plain (Text told.0) request k (plain_says (Text told.0) told.0 request refl (told.1, told.3, told.4)) awake;
}
