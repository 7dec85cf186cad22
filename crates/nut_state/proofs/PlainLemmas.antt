-- What a plain SETINFO and a plain PONG ask for.
use Rattle.std.proofs.Common.{◌≡◌, ℕ, ◌+◌, true, List, [], ◌∷◌, ◌++◌, Some, length, take, drop, codes, refl, sym, ap, ◌∙◌}
use Rattle.std.specs.Str.{bytes_eq}
use Rattle.std.proofs.lemmas.List.{take-append-drop}
use Rattle.std.proofs.lemmas.Slice.Eq.{bytes_eq-Decides}
use Rattle.nut_words.specs.Quoting.{IsPrintable, quoted, stands_bare}
use Rattle.nut_words.specs.Reader.{read, spelled}
use Rattle.nut_words.proofs.PlainLemmas.{setting_spelled}
use Rattle.nut_state.specs.Change.{asked, heard, pong, set_info}
use Rattle.nut_state.specs.Verb.{verb_of}
use Rattle.nut_state.proofs.HistoryLemmas.{heard_words}

setting_asked : (name value : List ℕ) → asked (codes "SETINFO" ∷ name ∷ value ∷ []) ≡ Some (set_info name value)
unfolding asked verb_of
setting_asked name value = refl

-- The line begins with SETINFO and a blank; a bare word, a blank and a quoted text follow.
pub setting_heard : (line words name behind value : List ℕ)
    → (bytes_eq (take 8 line) (codes "SETINFO ") ≡ true) × (words ≡ drop 8 line) × (length words + 8 ≡ length line)
    → (words ≡ name ++ 32 ∷ behind) × (stands_bare name ≡ true) → (behind ≡ quoted value) × IsPrintable value
    → heard line ≡ Some (set_info name value)
setting_heard line words name behind value begins named told =
    let front : take 8 line ≡ codes "SETINFO " = (bytes_eq-Decides (take 8 line) (codes "SETINFO ")).0 begins.0 in
    let text : line ≡ codes "SETINFO" ++ 32 ∷ (name ++ 32 ∷ quoted value) =
    sym (take-append-drop 8 line) ∙ ap (λ t. t ++ drop 8 line) front
    ∙ ap (λ t. codes "SETINFO " ++ t) (sym begins.1 ∙ named.0 ∙ ap (λ t. name ++ 32 ∷ t) told.0) in
    heard_words line (codes "SETINFO" ∷ name ∷ value ∷ []) (ap spelled text ∙ setting_spelled (codes "SETINFO") name value refl named.1 told.1)
    ∙ setting_asked name value

pub pong_heard : heard (codes "PONG") ≡ Some pong
unfolding heard read asked verb_of
pong_heard = refl
