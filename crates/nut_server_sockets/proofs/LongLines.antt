-- A line of fewer than eight bytes has a brief answer: one that asks for a text of a driver or of a file is longer.
use Rattle.std.proofs.Common.{◌≡◌, ◌⊎◌, ℕ, ◌+◌, ◌≤◌, true, List, [], ◌∷◌, ◌++◌, length, map, refl, sym, ◌∙◌, ap, arith, inl, inr, Option, Some, None, Result, Ok, Err, codes, length-append}
use Rattle.std.specs.Prelude.{find, max}
use Rattle.std.specs.List.{AllByRecursion, flat_map}
use Rattle.std.specs.Option.{ok_or, option_map}
use Rattle.std.specs.Str.{str_to_ascii_lowercase}
use Rattle.std.proofs.lemmas.Bool.{cases_Bool}
use Rattle.std.proofs.lemmas.List.{length-map}
use Rattle.std.proofs.lemmas.Slice.Eq.{bytes_eq-Decides}
use Rattle.nut_words.specs.Lines.{Text}
use Rattle.nut_words.specs.Reader.{spelled}
use Rattle.nut_words.specs.Spelling.{Item, Part, Spells, Blank, Bare, Quoted, Equals, Comment, Plain, Escaped, byte_of, items_text, part_text, part_words}
use Rattle.nut_words.specs.declared.limits.TheConstants.{WORDS_MAX}
use Rattle.nut_words.specs.declared.words.WordFault.{WordFault}
use Rattle.nut_words.proofs.Sound.{spells_of_read}
use Rattle.nut_proto.specs.declared.request.Request.{Request}
use Rattle.nut_proto.specs.declared.request.Request.TheVariants as requests
use Rattle.nut_proto.specs.declared.refusal.Refusal.TheVariants.{InvalidArgument}
use Rattle.nut_proto.specs.declared.keyword.Command as keyword
use Rattle.nut_proto.specs.declared.keyword.Command.TheVariants as commands
use Rattle.nut_proto.specs.Keywords as keywords
use Rattle.nut_proto.specs.Keywords.{all_commands, command_name, is_named}
use Rattle.nut_proto.specs.Forms.{meaning, meaning_by}
use Rattle.nut_proto.specs.Requests.{Form, about, first_named, get_forms, get_tracking, list_forms, request_by, set_forms}
use Rattle.nut_proto.specs.Rules.{credential_word, number_word, on_or_off, one, optional_word, two}
use Rattle.nut_server_spec.specs.Command.{asked, command_in, command_of}
use Rattle.nut_server_sockets.proofs.BriefAnswers.{most, most_of}
use Rattle.nut_server_sockets.proofs.MadeRequests.{IfMade, Makes, of_about, of_map, of_none, of_one, of_three}

-- ---- how many bytes words take

-- how many bytes words take at least, without what stands between them
abbrev size : List (List ℕ) → ℕ
size [] = 0
size (word ∷ words) = max 1 (length word) + size words

size-append : (words more : List (List ℕ)) → size (words ++ more) ≡ size words + size more
size-append [] more = omega arith
size-append (word ∷ words) more = omega (arith, size-append words more)

items_fit : (items : List Item) → length (map byte_of items) ≤ length (items_text items)
items_fit [] = omega arith
items_fit (Plain c ∷ items) = omega (arith, items_fit items)
items_fit (Escaped c ∷ items) = omega (arith, items_fit items)

part_fits : (part : Part) → size (part_words part) ≤ length (part_text part)
part_fits (Blank c) = omega arith
part_fits (Bare first others) = bare first where
  bare : (item : Item) → size (part_words (Bare item others)) ≤ length (part_text (Bare item others))
  bare (Plain c) = omega (arith, items_fit others)
  bare (Escaped c) = omega (arith, items_fit others)
part_fits (Quoted items) = omega (arith, items_fit items, length-append (items_text items) (34 ∷ []))
part_fits Equals = omega arith
part_fits (Comment text) = omega arith

parts_fit : (parts : List Part) → size (flat_map part_words parts) ≤ length (flat_map part_text parts)
parts_fit [] = omega arith
parts_fit (part ∷ parts) =
    omega (arith, part_fits part, parts_fit parts, size-append (part_words part) (flat_map part_words parts), length-append (part_text part) (flat_map part_text parts))

words_fit : (line : List ℕ) (words : List (List ℕ)) → Spells line words → size words ≤ length line
words_fit line words spells = omega (arith, ap size spells.meant, ap length spells.spelled, parts_fit spells.parts)

-- ---- which words make requests with long answers

abbrev IsCheap : Request → Type 0
IsCheap request = most request ≤ 200

cheap : (command : keyword.Command) → (command ≡ commands.Get → ⊥) → Makes IsCheap (request_by command)
cheap commands.Get other = absurd (other refl)
cheap commands.List other = λ words. of_map IsCheap requests.List (λ query. omega arith) (about list_forms words)
cheap commands.Set other = of_about IsCheap set_forms (of_three IsCheap requests.SetVar (λ x y z. omega arith), (λ words. of_map IsCheap requests.SetTracking (λ on. omega arith) (on_or_off words), tt))
cheap commands.InstCmd other = inst_cmd where
  inst_cmd : Makes IsCheap (request_by commands.InstCmd)
  inst_cmd (ups ∷ command ∷ words) = of_map IsCheap (λ parameter. requests.InstCmd ups command parameter) (λ parameter. omega arith) (optional_word words)
  inst_cmd _ = tt
cheap commands.Username other = λ words. of_map IsCheap requests.Username (λ x. omega arith) (credential_word words)
cheap commands.Password other = λ words. of_map IsCheap requests.Password (λ x. omega arith) (credential_word words)
cheap commands.Login other = of_one IsCheap requests.Login (λ x. omega arith)
cheap commands.Primary other = of_one IsCheap requests.Primary (λ x. omega arith)
cheap commands.Fsd other = of_one IsCheap requests.Fsd (λ x. omega arith)
cheap commands.Logout other = of_none IsCheap requests.Logout (omega arith)
cheap commands.Ver other = of_none IsCheap requests.Ver (omega arith)
cheap commands.NetVer other = of_none IsCheap requests.NetVer (omega arith)
cheap commands.Help other = of_none IsCheap requests.Help (omega arith)
cheap commands.StartTls other = of_none IsCheap requests.StartTls (omega arith)

-- The request, if there is one, has a brief answer, or n is at least 5.
abbrev IsPaid : ℕ → Option Request → Type 0
IsPaid n o = IfMade (λ request. IsCheap request ⊎ (5 ≤ n)) o

paid_on : (m n : ℕ) (o : Option Request) → m ≤ n → IsPaid m o → IsPaid n o
paid_on m n None le is = tt
paid_on m n (Some request) le (inl is) = inl is
paid_on m n (Some request) le (inr is) = inr (omega (arith, le, is))

-- what a form makes whose word has n bytes
abbrev Pays : Form Request → Type 0
Pays form = (words : List (List ℕ)) → IsPaid (length form.0 + size words) (form.1 words)

one_pays : (name : List ℕ) (made : List ℕ → Request) → 4 ≤ length name → Pays (name, one made)
one_pays name made few (x ∷ []) = inr (omega (arith, few))
one_pays name made few _ = tt

two_pays : (name : List ℕ) (made : List ℕ → List ℕ → Request) → 3 ≤ length name → Pays (name, two made)
two_pays name made few (x ∷ y ∷ []) = inr (omega (arith, few))
two_pays name made few _ = tt

tracking_pays : Pays (codes "TRACKING", get_tracking)
tracking_pays [] = inl (omega arith)
tracking_pays (word ∷ words) = by (number_word (word ∷ words)) where
  by : (o : Option ℕ) → IsPaid (8 + size (word ∷ words)) (option_map (λ n. requests.GetTrackingOf n) o)
  by None = tt
  by (Some n) = inl (omega arith)

gets_pay : AllByRecursion Pays get_forms
gets_pay = (
  one_pays (codes "NUMLOGINS") requests.GetNumLogins (omega arith),
  (
    one_pays (codes "UPSDESC") requests.GetUpsDesc (omega arith),
    (
      two_pays (codes "VAR") requests.GetVar (omega arith),
      (
        two_pays (codes "TYPE") requests.GetType (omega arith),
        (
          two_pays (codes "DESC") requests.GetDesc (omega arith),
          (
            two_pays (codes "CMDDESC") requests.GetCmdDesc (omega arith),
            (tracking_pays, tt),
          ),
        ),
      ),
    ),
  ),
)

-- A command word has as many bytes as its name.
named_length : (word name : List ℕ) → is_named word name ≡ true → length word ≡ length name
named_length word name is =
    let same : str_to_ascii_lowercase word ≡ str_to_ascii_lowercase name = (bytes_eq-Decides (str_to_ascii_lowercase word) (str_to_ascii_lowercase name)).0 is in
    sym (length-map word _) ∙ ap length same ∙ length-map name _

get_pays : (words : List (List ℕ)) → IsPaid (size words) (about get_forms words)
get_pays [] = tt
get_pays (word ∷ words) = go get_forms gets_pay where
  go : (forms : List (Form Request)) → AllByRecursion Pays forms → IsPaid (size (word ∷ words)) (first_named forms word words)
  go [] all = tt
  go (form ∷ forms) all =
      elim (cases_Bool (is_named word form.0)) [
        | inl e ↦ rw e (paid_on (length form.0 + size words) (size (word ∷ words)) (form.1 words) (omega (arith, named_length word form.0 e)) (all.0 words))
        | inr e ↦ rw e (go forms all.1)
      ]

found_named : (word : List ℕ) (command : keyword.Command) (cs : List keyword.Command) → find (λ c. is_named word (command_name c)) cs ≡ Some command → is_named word (command_name command) ≡ true
found_named word command [] is = absurd (cc)
found_named word command (c ∷ cs) is =
    elim (cases_Bool (is_named word (command_name c))) [
      | inl e ↦
          let here : Some c ≡ Some command = rw e at is in
          let same : c ≡ command = cc in
          ap (λ x. is_named word (command_name x)) (sym same) ∙ e
      | inr e ↦ found_named word command cs (rw e at is)
    ]

abbrev IsWorth : ℕ → Option Request → Type 0
IsWorth n o = (most_of (asked (ok_or o InvalidArgument)) ≤ 200) ⊎ (8 ≤ n)

worth_cheap : (n : ℕ) (o : Option Request) → IfMade IsCheap o → IsWorth n o
worth_cheap n None is = inl (omega arith)
worth_cheap n (Some request) is = inl is

worth_paid : (n : ℕ) (o : Option Request) → IsPaid n o → IsWorth (3 + n) o
worth_paid n None is = inl (omega arith)
worth_paid n (Some request) (inl is) = inl is
worth_paid n (Some request) (inr is) = inr (omega (arith, is))

worth : (command : keyword.Command) (word : List ℕ) (words : List (List ℕ)) → is_named word (command_name command) ≡ true → IsWorth (size (word ∷ words)) (request_by command words)
worth commands.Get word words named = on (worth_paid (size words) (about get_forms words) (get_pays words)) where
  on : IsWorth (3 + size words) (about get_forms words) → IsWorth (size (word ∷ words)) (about get_forms words)
  on (inl is) = inl is
  on (inr is) = inr (omega (arith, is, named_length word (codes "GET") named))
worth command word words named = worth_cheap (size (word ∷ words)) (request_by command words) (cheap command (λ is. other is) words) where
  other : command ≡ commands.Get → ⊥
  other is = cc

-- The answer is brief, or the words take at least eight bytes.
words_worth : (words : List (List ℕ)) → (most_of (asked (meaning words)) ≤ 200) ⊎ (8 ≤ size words)
unfolding meaning keywords.command_of
words_worth [] = inl (omega arith)
words_worth (word ∷ words) = by (find (λ c. is_named word (command_name c)) all_commands) refl where
  by : (o : Option keyword.Command) → find (λ c. is_named word (command_name c)) all_commands ≡ o → (most_of (asked (meaning_by o words)) ≤ 200) ⊎ (8 ≤ size (word ∷ words))
  by None is = inl (omega arith)
  by (Some command) is = worth command word words (found_named word command all_commands is)

pub short_lines : (bytes : List ℕ) → (most_of (command_of (Text bytes)) ≤ 200) ⊎ (8 ≤ length bytes)
short_lines bytes = by (spelled bytes) refl where
  by : (r : Result (List (List ℕ)) WordFault) → spelled bytes ≡ r → (most_of (command_in r) ≤ 200) ⊎ (8 ≤ length bytes)
  by (Err fault) is = inl (omega arith)
  by (Ok []) is = inl (omega arith)
  by (Ok (word ∷ words)) is = on (words_worth (word ∷ words)) where
    on : (most_of (asked (meaning (word ∷ words))) ≤ 200) ⊎ (8 ≤ size (word ∷ words)) → (most_of (command_in (Ok (word ∷ words))) ≤ 200) ⊎ (8 ≤ length bytes)
    on (inl brief) = inl brief
    on (inr long) = inr (omega (arith, long, words_fit bytes (word ∷ words) (spells_of_read WORDS_MAX bytes (word ∷ words) is)))
