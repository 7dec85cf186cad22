-- The text that is kept with a variable ends its row.
use Rattle.std.proofs.Common.{◌≡◌, ℕ, ◌+◌, ◌-◌, ◌==◌, List, [], ◌∷◌, ◌++◌, true, length, take, refl, sym, ap, subst, ◌∙◌, arith, append_assoc, length-append}
use Rattle.std.specs.List.{list_all, flat_map}
use Rattle.std.proofs.lemmas.Bool.Decides.{nat_tests}
use Rattle.std.proofs.Math.Seq.{take-append_seam, take-append-add, drop-append-add}
use Rattle.std.proofs.lemmas.Bool.{and_parts}
use Rattle.nut_words.specs.Bytes.{blank, line_feed, quote}
use Rattle.nut_words.specs.Name.{is_name_byte}
use Rattle.nut_words.specs.Quoting.{escaped, stands_bare, word_text}
use Rattle.nut_words.specs.Spelling.{is_bare}
use Rattle.nut_state.specs.Row.{Named, is_unescaped, row_end}
use Rattle.nut_state.specs.Text.{is_name}
use Rattle.nut_state.specs.declared.row_end.RowEnd.TheInside.{Inside}
use Rattle.nut_state.specs.inside.RowInside.{named_in, row_text, Keeps, IsRowEnd}

byte_alone : (c : ℕ) → (length (escaped c) == 1) ≡ true → escaped c ≡ c ∷ []
byte_alone c h = grind (arith, nat_tests)

alone : (value : List ℕ) → is_unescaped value ≡ true → flat_map escaped value ≡ value
alone [] h = refl
alone (c ∷ cs) h =
    let parts = and_parts (length (escaped c) == 1) (is_unescaped cs) h in
    rw (byte_alone c parts.0, alone cs parts.1) refl

name_byte_bare : (c : ℕ) → is_name_byte c ≡ true → is_bare c ≡ true
name_byte_bare c h = grind (arith, nat_tests)

bytes_bare : (name : List ℕ) → list_all is_name_byte name ≡ true → list_all is_bare name ≡ true
bytes_bare [] h = refl
bytes_bare (c ∷ cs) h =
    let parts = and_parts (is_name_byte c) (list_all is_name_byte cs) h in
    rw (name_byte_bare c parts.0, bytes_bare cs parts.1) refl

name_text : (name : List ℕ) → is_name name ≡ true → word_text name ≡ name
name_text name h =
    let bare : list_all is_bare name ≡ true = bytes_bare name (grind arith) in
    let stands : stands_bare name ≡ true = grind (arith, nat_tests, bare) in
    rw stands refl

-- What is kept is the row's end, if nothing in the value is escaped.
pub row_ended : (named : Named) → is_name named.name ≡ true → is_unescaped named.value ≡ true → row_text named ≡ row_end named.name named.value
row_ended named is plain =
    rw (name_text named.name is, alone named.value plain)
    (ap (λ rest. named.name ++ blank ∷ quote ∷ rest) (sym (append_assoc named.value (quote ∷ []) (line_feed ∷ []))))

-- The name and the value are seen in the text that keeps them.
seen : (r : Inside) (named : Named) → r.text.items ≡ row_text named → r.name_len ≡ length named.name → named_in r ≡ named
seen r named text len =
    let behind = blank ∷ quote ∷ (named.value ++ quote ∷ line_feed ∷ []) in
    let count : length (named.name ++ behind) - 2 - (length named.name + 2) ≡ length named.value =
    omega (arith, length-append named.name behind, length-append named.value (quote ∷ line_feed ∷ [])) in
    rw (text, len, take-append_seam named.name behind, count, drop-append-add named.name behind 2, take-append_seam named.value (quote ∷ line_feed ∷ [])) refl

pub kept : (r : Inside) (named : Named) → Keeps r named → IsRowEnd r
kept r named k = subst (Keeps r) (sym (seen r named k.text k.name_len)) k

-- The text after the opening quote is replaced.
pub replaced : (named : Named) (value : List ℕ)
    → (take (length named.name + 2) (row_text named) ++ value) ++ quote ∷ line_feed ∷ [] ≡ row_text (record named { value = value })
replaced named value =
    rw (take-append-add named.name (blank ∷ quote ∷ (named.value ++ quote ∷ line_feed ∷ [])) 2)
    (append_assoc (named.name ++ blank ∷ quote ∷ []) value (quote ∷ line_feed ∷ [])
    ∙ append_assoc named.name (blank ∷ quote ∷ []) (value ++ quote ∷ line_feed ∷ []))
