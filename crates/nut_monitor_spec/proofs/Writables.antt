-- Each query of a MONITOR line can be written.
use Rattle.std.proofs.Common.{◌≡◌, ℕ, ◌+◌, ◌*◌, ◌≤◌, nat_le, Bool, true, ◌&&◌, ◌||◌, cond, List, [], ◌∷◌, length, map, refl, ap, ◌∙◌, arith, length-append, leb-true, le-leb, codes}
use Rattle.std.specs.Prelude.{◌==◌}
use Rattle.std.proofs.lemmas.Bool.{and_from, and_parts}
use Rattle.std.proofs.lemmas.List.Folds.{list_all-append}
use Rattle.std.specs.List.{flat_map, list_all, AllByRecursion}
use Rattle.nut_words.specs.Quoting.{IsPrintable, escaped, quoted, stands_bare, word_text}
use Rattle.nut_words.specs.Spelling.{is_printing}
use Rattle.nut_conf.proofs.PrintingWords.{name_printable, text_printable}
use Rattle.nut_conf.specs.Values.{is_text}
use Rattle.nut_conf.specs.declared.monitor.Monitored.{Monitored}
use Rattle.nut_conf.specs.declared.limits.TheConstants.{PASSWORD_MAX, USER_NAME_MAX}
use Rattle.nut_words.specs.Name.{is_name, is_name_byte}
use Rattle.nut_words.specs.declared.limits.TheConstants.{LINE_MAX, UPS_NAME_MAX}
use Rattle.nut_proto.specs.declared.part.Part.TheVariants.{Word}
use Rattle.nut_proto.specs.Lines.{message, part_text}
use Rattle.nut_link.specs.Asking.{is_writable}
use Rattle.nut_monitor_spec.specs.Configuration.{line_of}
use Rattle.nut_monitor_spec.specs.Query.{request}
use Rattle.nut_monitor_spec.specs.declared.Query.{Query}
use Rattle.nut_monitor_spec.specs.declared.Query.TheVariants.{Username, Password, Login, Primary, Status, Fsd, NumLogins}

left_true : (a b : Bool) → (a && b) ≡ true → a ≡ true
left_true a b h = (and_parts a b h).0

right_true : (a b : Bool) → (a && b) ≡ true → b ≡ true
right_true a b h = (and_parts a b h).1

escaped_printing : (b : Bool) (c : ℕ) → is_printing c ≡ true → list_all is_printing (cond b (92 ∷ c ∷ []) (c ∷ [])) ≡ true
escaped_printing b c h = grind arith

escaped_length : (b : Bool) (c : ℕ) → length (cond b (92 ∷ c ∷ []) (c ∷ [])) ≤ 2
escaped_length b c = grind arith

printing : (w : List ℕ) → IsPrintable w → list_all is_printing w ≡ true
printing [] h = refl
printing (c ∷ w) h = and_from (is_printing c) (list_all is_printing w) h.0 (printing w h.1)

escapes_printing : (w : List ℕ) → IsPrintable w → list_all is_printing (flat_map escaped w) ≡ true
escapes_printing [] h = refl
escapes_printing (c ∷ w) h =
    list_all-append is_printing (escaped c) (flat_map escaped w)
    ∙ and_from (list_all is_printing (escaped c)) (list_all is_printing (flat_map escaped w)) (escaped_printing (c == 34 || c == 92 || c == 35) c h.0) (escapes_printing w h.1)

escapes_length : (w : List ℕ) → length (flat_map escaped w) ≤ 2 * length w
escapes_length [] = omega arith
escapes_length (c ∷ w) = omega (arith, length-append (escaped c) (flat_map escaped w), escaped_length (c == 34 || c == 92 || c == 35) c, escapes_length w)

quoted_printing : (w : List ℕ) → IsPrintable w → list_all is_printing (quoted w) ≡ true
quoted_printing w h = list_all-append is_printing (flat_map escaped w) (34 ∷ []) ∙ ap (λ b. b && true) (escapes_printing w h)

chosen_printing : (b : Bool) (w : List ℕ) → IsPrintable w → list_all is_printing (cond b w (quoted w)) ≡ true
chosen_printing b w h = grind (arith, printing, quoted_printing)

chosen_length : (b : Bool) (w : List ℕ) → length (cond b w (quoted w)) ≤ 2 * length w + 2
chosen_length b w = grind (arith, length-append, escapes_length)

abbrev tail : List (List ℕ) → List ℕ
tail ws = flat_map (λ part. 32 ∷ part_text part) (map Word ws)

tail_printing : (ws : List (List ℕ)) → AllByRecursion IsPrintable ws → list_all is_printing (tail ws) ≡ true
tail_printing [] h = refl
tail_printing (w ∷ ws) h =
    list_all-append is_printing (32 ∷ word_text w) (tail ws)
    ∙ and_from (list_all is_printing (word_text w)) (list_all is_printing (tail ws)) (chosen_printing (stands_bare w) w h.0) (tail_printing ws h.1)

-- a bound for the length of words when each is written behind a blank
abbrev room : List (List ℕ) → ℕ
room [] = 0
room (w ∷ ws) = (2 * length w + 3) + room ws

tail_length : (ws : List (List ℕ)) → length (tail ws) ≤ room ws
tail_length [] = omega arith
tail_length (w ∷ ws) = omega (arith, length-append (32 ∷ word_text w) (tail ws), chosen_length (stands_bare w) w, tail_length ws)

message_printing : (w : List ℕ) (ws : List (List ℕ)) → IsPrintable w → AllByRecursion IsPrintable ws → list_all is_printing (message (map Word (w ∷ ws))) ≡ true
message_printing w ws h hs = grind (arith, list_all-append, and_from, chosen_printing, tail_printing)

message_length : (w : List ℕ) (ws : List (List ℕ)) → room (w ∷ ws) ≤ LINE_MAX → length (message (map Word (w ∷ ws))) ≤ LINE_MAX
message_length w ws few = omega (arith, length-append (word_text w) (tail ws), chosen_length (stands_bare w) w, tail_length ws, few)

written : (w : List ℕ) (ws : List (List ℕ)) → IsPrintable w → AllByRecursion IsPrintable ws → room (w ∷ ws) ≤ LINE_MAX
    → (nat_le (length (message (map Word (w ∷ ws)))) LINE_MAX && list_all is_printing (message (map Word (w ∷ ws)))) ≡ true
written w ws h hs few = and_from _ _ (le-leb _ LINE_MAX (message_length w ws few)) (message_printing w ws h hs)

pub name_length : (most : ℕ) (w : List ℕ) → is_name most w ≡ true → length w ≤ most
name_length most w h = leb-true (length w) most (right_true (nat_le 1 (length w)) (nat_le (length w) most) (left_true (nat_le 1 (length w) && nat_le (length w) most) (list_all is_name_byte w) h))

text_length : (least most : ℕ) (w : List ℕ) → is_text least most w ≡ true → length w ≤ most
text_length least most w h = grind (arith, leb-true, right_true, nat_le, left_true)

-- a word of bytes 0x20 to 0x7E is printable
word_printable : (w : List ℕ) → list_all is_printing w ≡ true → IsPrintable w
word_printable [] h = tt
word_printable (c ∷ w) h = (left_true (is_printing c) (list_all is_printing w) h, word_printable w (right_true (is_printing c) (list_all is_printing w) h))

pub query_writable : (m : Monitored) (query : Query) → is_writable (request (line_of m) query) ≡ true
query_writable m Username =
    written (codes "USERNAME") (m.user.bytes.items ∷ []) (word_printable (codes "USERNAME") refl) (name_printable USER_NAME_MAX m.user.bytes.items m.user.named, tt)
    (omega (arith, name_length USER_NAME_MAX m.user.bytes.items m.user.named))
query_writable m Password =
    written (codes "PASSWORD") (m.password.bytes.items ∷ []) (word_printable (codes "PASSWORD") refl) (text_printable 1 PASSWORD_MAX m.password.bytes.items m.password.bounded, tt)
    (omega (arith, text_length 1 PASSWORD_MAX m.password.bytes.items m.password.bounded))
query_writable m Login =
    written (codes "LOGIN") (m.target.ups.bytes.items ∷ []) (word_printable (codes "LOGIN") refl) (name_printable UPS_NAME_MAX m.target.ups.bytes.items m.target.ups.named, tt)
    (omega (arith, name_length UPS_NAME_MAX m.target.ups.bytes.items m.target.ups.named))
query_writable m Primary =
    written (codes "PRIMARY") (m.target.ups.bytes.items ∷ []) (word_printable (codes "PRIMARY") refl) (name_printable UPS_NAME_MAX m.target.ups.bytes.items m.target.ups.named, tt)
    (omega (arith, name_length UPS_NAME_MAX m.target.ups.bytes.items m.target.ups.named))
query_writable m Status =
    written (codes "GET") (codes "VAR" ∷ m.target.ups.bytes.items ∷ codes "ups.status" ∷ []) (word_printable (codes "GET") refl)
    (word_printable (codes "VAR") refl, (name_printable UPS_NAME_MAX m.target.ups.bytes.items m.target.ups.named, (word_printable (codes "ups.status") refl, tt)))
    (omega (arith, name_length UPS_NAME_MAX m.target.ups.bytes.items m.target.ups.named))
query_writable m Fsd =
    written (codes "FSD") (m.target.ups.bytes.items ∷ []) (word_printable (codes "FSD") refl) (name_printable UPS_NAME_MAX m.target.ups.bytes.items m.target.ups.named, tt)
    (omega (arith, name_length UPS_NAME_MAX m.target.ups.bytes.items m.target.ups.named))
query_writable m NumLogins =
    written (codes "GET") (codes "NUMLOGINS" ∷ m.target.ups.bytes.items ∷ []) (word_printable (codes "GET") refl)
    (word_printable (codes "NUMLOGINS") refl, (name_printable UPS_NAME_MAX m.target.ups.bytes.items m.target.ups.named, tt))
    (omega (arith, name_length UPS_NAME_MAX m.target.ups.bytes.items m.target.ups.named))
