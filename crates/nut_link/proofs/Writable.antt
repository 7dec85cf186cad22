-- Which requests are writable.
use Rattle.std.proofs.Common.{◌≡◌, ℕ, ◌+◌, ◌<◌, ◌≤◌, ◌&&◌, ◌||◌, Bool, true, false, cond, nat_le, List, [], ◌∷◌, ◌++◌, length, map, drop, Result, Ok, Err, refl, sym, ap, ◌∙◌, inl, inr, arith, length-append, leb-true, le-leb, ltb-true, decimal, codes}
use Rattle.std.proofs.lemmas.Bool.{cases_Bool, false≢true}
use Rattle.std.specs.Fmt.{signed_decimal}
use Rattle.std.specs.List.{flat_map, list_all, list_any}
use Rattle.std.specs.Prelude.{◌==◌, OnErr, OnOk}
use Rattle.std.specs.Result.{is_err}
use Rattle.nut_words.specs.Quoting.{escaped, quoted, stands_bare}
use Rattle.nut_words.specs.Spelling.{is_printing}
use Rattle.nut_words.specs.declared.limits.TheConstants.{LINE_MAX}
use Rattle.nut_proto.specs.declared.part.Part.{Part}
use Rattle.nut_proto.specs.declared.part.Part.TheVariants.{Word, Quoted, Number, QuotedNumber, StringOf}
use Rattle.nut_proto.specs.declared.request.Request.{Request}
use Rattle.nut_proto.specs.Lines.{line, message, message_words, part_text, part_word}
use Rattle.nut_proto.specs.Requests.{request_line, request_parts}
use Rattle.nut_link.specs.Asking.{is_writable}
use Rattle.nut_link.specs.Matching.{is_long}
use Rattle.nut_link.specs.declared.limits.TheConstants.{QUERY_MAX}

length-cond : (b : Bool) (c : ℕ) → 1 ≤ length (cond b (92 ∷ c ∷ []) (c ∷ []))
length-cond true c = omega arith
length-cond false c = omega arith

length-escaped : (text : List ℕ) → length text ≤ length (flat_map escaped text)
length-escaped [] = omega arith
length-escaped (c ∷ cs) =
    omega (arith, length-append (escaped c) (flat_map escaped cs), length-cond (c == 34 || c == 92 || c == 35) c, length-escaped cs)

length-quoted : (text : List ℕ) → length text ≤ length (quoted text)
length-quoted text = omega (arith, length-append (flat_map escaped text) (34 ∷ []), length-escaped text)

length-choice : (b : Bool) (word : List ℕ) → length word ≤ length (cond b word (quoted word))
length-choice true word = omega arith
length-choice false word = length-quoted word

-- a word has at most as many bytes as it is written with
length-part : (part : Part) → length (part_word part) ≤ length (part_text part)
length-part (Word word) = length-choice (stands_bare word) word
length-part (Quoted text) = length-quoted text
length-part (Number n) = length-choice (stands_bare (decimal n)) (decimal n)
length-part (QuotedNumber z) = length-quoted (signed_decimal z)
length-part (StringOf n) = length-choice (stands_bare (codes "STRING:" ++ decimal n)) (codes "STRING:" ++ decimal n)

long_in : (parts : List Part) → list_any is_long (map part_word parts) ≡ true → LINE_MAX < length (flat_map (λ part. 32 ∷ part_text part) parts)
long_in [] long = absurd (false≢true long)
long_in (part ∷ parts) long =
    let whole = length-append (32 ∷ part_text part) (flat_map (λ part. 32 ∷ part_text part) parts) in
    elim (cases_Bool (is_long (part_word part))) [
      | inl e ↦ omega (arith, whole, ltb-true LINE_MAX (length (part_word part)) e, length-part part)
      | inr e ↦ omega (arith, whole, long_in parts (sym (ap (λ b. b || list_any is_long (map part_word parts)) e) ∙ long))
    ]

long_behind : (parts : List Part) → list_any is_long (drop 1 (message_words parts)) ≡ true → LINE_MAX < length (message parts)
long_behind [] long = absurd (false≢true long)
long_behind (part ∷ parts) long = omega (arith, length-append (part_text part) (flat_map (λ part. 32 ∷ part_text part) parts), long_in parts long)

not_le : (n : ℕ) → LINE_MAX < n → nat_le n LINE_MAX ≡ false
not_le n more = elim (cases_Bool (nat_le n LINE_MAX)) [ inl e ↦ absurd (omega (arith, more, leb-true n LINE_MAX e)) | inr e ↦ e ]

unwritable : (request : Request) → LINE_MAX < length (message (request_parts request)) → false ≡ is_writable request
unwritable request more = ap (λ b. b && list_all is_printing (message (request_parts request))) (sym (not_le (length (message (request_parts request))) more))

-- a word that an answer repeats is too long
pub unwritable_word : (request : Request) → list_any is_long (drop 1 (message_words (request_parts request))) ≡ true → false ≡ is_writable request
unwritable_word request long = unwritable request (long_behind (request_parts request) long)

-- what holds if a call succeeded holds if it didn't fail
pub when_ok : {T E : Type 0} {P : Type 0} (r : Result T E) → false ≡ is_err r → OnOk r P → P
when_ok (Ok x) is p = p
when_ok (Err e) is p = absurd (cc)

pub when_err : {T E : Type 0} {P : Type 0} (r : Result T E) → true ≡ is_err r → OnErr r P → P
when_err (Ok x) is p = absurd (cc)
when_err (Err e) is p = p

-- a request's line is its message and a line feed
pub line_is : (request : Request) → request_line request ≡ message (request_parts request) ++ 10 ∷ []
unfolding request_line line
line_is request = refl

pub length_line : (request : Request) → length (request_line request) ≡ length (message (request_parts request)) + 1
length_line request = ap length (line_is request) ∙ length-append (message (request_parts request)) (10 ∷ [])

-- the line doesn't fit
pub unwritable_line : (request : Request) (before : List ℕ) → before ≡ [] → QUERY_MAX < length (before ++ request_line request) → false ≡ is_writable request
unwritable_line request before none full =
    unwritable request (omega (arith, full, ap length none, length-append before (request_line request), length_line request))

-- if the line fits, its bytes decide
pub writable_line : (request : Request) (before : List ℕ) → before ≡ [] → length (before ++ request_line request) ≤ QUERY_MAX → list_all is_printing (message (request_parts request)) ≡ is_writable request
writable_line request before none fits =
    ap (λ b. b && list_all is_printing (message (request_parts request)))
    (sym (le-leb (length (message (request_parts request))) LINE_MAX (omega (arith, fits, ap length none, length-append before (request_line request), length_line request))))
