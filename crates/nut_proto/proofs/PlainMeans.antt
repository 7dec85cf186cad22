-- What the lines of plain queries mean.
use Rattle.std.proofs.Common.{◌≡◌, ◌⊎◌, inl, inr, ℕ, ◌+◌, ◌-◌, ◌≤◌, true, false, List, [], ◌∷◌, ◌++◌, length, take, drop, codes, Option, Some, None, Bor, refl, sym, ap, subst, ◌∙◌, append_assoc, length-append, arith}
use Rattle.std.specs.Prelude.{IfSome, MatchOption}
use Rattle.std.specs.Str.{bytes_eq}
use Rattle.std.proofs.Math.Seq.{drop-append-add, take-append_seam}
use Rattle.std.proofs.lemmas.List.{append-nil, take-append-drop}
use Rattle.std.proofs.lemmas.Slice.Eq.{bytes_eq-Decides}
use Rattle.nut_words.specs.Cutter.{IsFirstLine}
use Rattle.nut_words.specs.Quoting.{IsPrintable, stands_bare, word_text}
use Rattle.nut_words.specs.declared.limits.TheConstants.{LINE_MAX}
use Rattle.nut_words.proofs.PlainLemmas.{bare_printable, bare_text, first_printable}
use Rattle.nut_words.proofs.WrittenLine.{all-append}
use Rattle.nut_proto.specs.declared.request.Request.{Request}
use Rattle.nut_proto.specs.declared.request.Request.TheVariants as requests
use Rattle.nut_proto.specs.declared.request.ListQuery.TheVariants as queries
use Rattle.nut_proto.specs.PlainQueries.{IsTold}
use Rattle.nut_proto.specs.inside.Plain.{AsksFor, IsGetVar}
use Rattle.nut_proto.specs.Lines.{AreWritable, message, message_words}
use Rattle.nut_proto.specs.Requests.{request_parts}
use Rattle.nut_proto.specs.laws.ReadBack.{IsReadable}
use Rattle.nut_proto.proofs.RoundTrip.{requests_are_read}

-- ---- what a line begins with

-- What comes behind the words that a piece begins with.
pub begins_with : (piece words : List ℕ) (found : Option (Bor (List ℕ)))
    → MatchOption found (bytes_eq (take (length words) piece) words ≡ false)
    (λ rest. (bytes_eq (take (length words) piece) words ≡ true) × (rest.now ≡ drop (length words) piece) × (length rest.now + length words ≡ length piece))
    → IfSome found (λ rest. piece ≡ words ++ rest.now)
begins_with piece words None cases = tt
begins_with piece words (Some rest) cases =
    sym (take-append-drop (length words) piece) ∙ ap (λ front. front ++ drop (length words) piece) ((bytes_eq-Decides (take (length words) piece) words).0 cases.0)
    ∙ ap (λ r. words ++ r) (sym cases.1)

-- what the answer to GET VAR begins with
pub get_var_front : (ups piece names rest : List ℕ) → piece ≡ codes "GET VAR " ++ names → names ≡ ups ++ 32 ∷ rest → stands_bare ups ≡ true
    → take (length ups + 9 - 4) (drop 4 piece) ≡ codes "VAR " ++ (word_text ups ++ 32 ∷ [])
get_var_front ups piece names rest begins first bare =
    let count : length ups + 9 - 4 ≡ length (codes "VAR " ++ (ups ++ 32 ∷ [])) = omega (arith, length-append ups (32 ∷ [])) in
    let here : drop 4 piece ≡ (codes "VAR " ++ (ups ++ 32 ∷ [])) ++ rest =
    ap (drop 4) (begins ∙ ap (λ t. codes "GET VAR " ++ t) first) ∙ ap (λ t. codes "VAR " ++ t) (sym (append_assoc ups (32 ∷ []) rest)) in
    ap (λ n. take n (drop 4 piece)) count ∙ ap (take (length (codes "VAR " ++ (ups ++ 32 ∷ [])))) here ∙ take-append_seam (codes "VAR " ++ (ups ++ 32 ∷ [])) rest
    ∙ ap (λ u. codes "VAR " ++ (u ++ 32 ∷ [])) (sym (bare_text ups bare))

-- ---- what a line says

-- A request is written as these bytes and then a bare word.
written : (request : Request) (front word piece after : List ℕ) → message (request_parts request) ≡ front ++ (word_text word ++ [])
    → IsPrintable front → AreWritable (request_parts request) → IsReadable request
    → piece ≡ front ++ (word ++ 10 ∷ after) → stands_bare word ≡ true → length piece ≤ LINE_MAX → IsTold piece after request
written request front word piece after is printable writable readable parted bare fits =
    let text = message (request_parts request) in
    let so : text ≡ front ++ word = is ∙ ap (λ t. front ++ t) (append-nil (word_text word) ∙ bare_text word bare) in
    let here : text ++ 10 ∷ after ≡ piece = ap (λ t. t ++ 10 ∷ after) so ∙ append_assoc front word (10 ∷ after) ∙ sym parted in
    let shows : IsPrintable text = subst IsPrintable (sym so) (all-append front word printable (bare_printable word bare)) in
    let short : length text ≤ LINE_MAX = omega (arith, fits, ap length here, length-append text (10 ∷ after)) in
    let read = requests_are_read request writable readable in
    (text, message_words (request_parts request), subst (λ bytes. IsFirstLine text bytes after) here (first_printable text after shows short), read.0, read.1)

get_printable : IsPrintable (codes "GET")
get_printable = (refl, (refl, (refl, tt)))

var_printable : IsPrintable (codes "VAR")
var_printable = (refl, (refl, (refl, tt)))

pub get_var_told : (ups variable piece names rest after : List ℕ) → piece ≡ codes "GET VAR " ++ names → names ≡ ups ++ 32 ∷ rest → rest ≡ variable ++ 10 ∷ after
    → stands_bare ups ≡ true → stands_bare variable ≡ true → length piece ≤ LINE_MAX → IsTold piece after (requests.GetVar ups variable)
get_var_told ups variable piece names rest after begins first second bare_ups bare fits =
    written (requests.GetVar ups variable) (codes "GET VAR " ++ (ups ++ 32 ∷ [])) variable piece after
    (ap (λ u. codes "GET VAR " ++ (u ++ 32 ∷ (word_text variable ++ []))) (bare_text ups bare_ups) ∙ ap (λ t. codes "GET VAR " ++ t) (sym (append_assoc ups (32 ∷ []) (word_text variable ++ []))))
    (refl, (refl, (refl, (refl, (refl, (refl, (refl, (refl, all-append ups (32 ∷ []) (bare_printable ups bare_ups) (refl, tt)))))))))
    (get_printable, (var_printable, (bare_printable ups bare_ups, (bare_printable variable bare, tt))))
    tt
    (begins ∙ ap (λ t. codes "GET VAR " ++ t) (first ∙ ap (λ t. ups ++ 32 ∷ t) second ∙ sym (append_assoc ups (32 ∷ []) (variable ++ 10 ∷ after))))
    bare fits

-- The words of a GET VAR lie where the beginning of its variable's name tells.
words_at : (ups variable line : List ℕ) (at : ℕ) → AsksFor ups variable line → at ≡ length ups + 9
    → (take (at - 1 - 8) (drop 8 line) ≡ ups) × (take (length line - 1 - at) (drop at line) ≡ variable)
words_at ups variable line at asks place =
    let count : at - 1 - 8 ≡ length ups = omega (arith, place) in
    let behind : drop at line ≡ variable ++ 10 ∷ [] =
    ap (λ n. drop n line) (place ∙ omega arith) ∙ ap (drop (8 + (length ups + 1))) asks.0
    ∙ drop-append-add (codes "GET VAR ") (ups ++ 32 ∷ (variable ++ 10 ∷ [])) (length ups + 1) ∙ drop-append-add ups (32 ∷ (variable ++ 10 ∷ [])) 1 in
    let whole : length line ≡ 8 + (length ups + (1 + (length variable + 1))) = ap length asks.0 ∙ omega (arith, length-append ups (32 ∷ (variable ++ 10 ∷ [])), length-append variable (10 ∷ [])) in (
      ap (λ n. take n (drop 8 line)) count ∙ ap (λ t. take (length ups) (drop 8 t)) asks.0 ∙ take-append_seam ups (32 ∷ (variable ++ 10 ∷ [])),
      ap (λ t. take (length line - 1 - at) t) behind ∙ ap (λ n. take n (variable ++ 10 ∷ [])) (omega (arith, whole, place)) ∙ take-append_seam variable (10 ∷ []),
    )

pub kept_told : (piece kept : List ℕ) (at : ℕ) → (kept ≡ []) ⊎ IsGetVar kept at → piece ≡ kept → (length piece ≡ 0 → ⊥) → length kept ≤ LINE_MAX
    → IsTold piece [] (requests.GetVar (take (at - 1 - 8) (drop 8 piece)) (take (length piece - 1 - at) (drop at piece)))
    × (take (at - 4) (drop 4 piece) ≡ codes "VAR " ++ (word_text (take (at - 1 - 8) (drop 8 piece)) ++ 32 ∷ []))
kept_told piece kept at (inl none) same some short = absurd (some (ap length (same ∙ none)))
kept_told piece kept at (inr (ups, variable, asks, place)) same some short =
    let is = subst (AsksFor ups variable) (sym same) asks in
    let words = words_at ups variable piece at is place in
    let names = ups ++ 32 ∷ (variable ++ 10 ∷ []) in
    rw (words.0, words.1) (
      get_var_told ups variable piece names (variable ++ 10 ∷ []) [] is.0 refl refl is.1 is.2 (subst (λ l. length l ≤ LINE_MAX) (sym same) short),
      ap (λ n. take (n - 4) (drop 4 piece)) place ∙ get_var_front ups piece names (variable ++ 10 ∷ []) is.0 refl is.1,
    )

pub get_ups_desc_told : (ups piece names after : List ℕ) → piece ≡ codes "GET UPSDESC " ++ names → names ≡ ups ++ 10 ∷ after
    → stands_bare ups ≡ true → length piece ≤ LINE_MAX → IsTold piece after (requests.GetUpsDesc ups)
get_ups_desc_told ups piece names after begins first bare fits =
    written (requests.GetUpsDesc ups) (codes "GET UPSDESC ") ups piece after refl
    (refl, (refl, (refl, (refl, (refl, (refl, (refl, (refl, (refl, (refl, (refl, (refl, tt))))))))))))
    (get_printable, ((refl, (refl, (refl, (refl, (refl, (refl, (refl, tt))))))), (bare_printable ups bare, tt)))
    tt (begins ∙ ap (λ t. codes "GET UPSDESC " ++ t) first) bare fits

pub list_var_told : (ups piece names after : List ℕ) → piece ≡ codes "LIST VAR " ++ names → names ≡ ups ++ 10 ∷ after
    → stands_bare ups ≡ true → length piece ≤ LINE_MAX → IsTold piece after (requests.List (queries.Var ups))
list_var_told ups piece names after begins first bare fits =
    written (requests.List (queries.Var ups)) (codes "LIST VAR ") ups piece after refl
    (refl, (refl, (refl, (refl, (refl, (refl, (refl, (refl, (refl, tt)))))))))
    ((refl, (refl, (refl, (refl, tt)))), (var_printable, (bare_printable ups bare, tt)))
    tt (begins ∙ ap (λ t. codes "LIST VAR " ++ t) first) bare fits
