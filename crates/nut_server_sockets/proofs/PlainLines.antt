-- A line that begins as a plain one asks for no list.
use Rattle.std.proofs.Common.{◌≡◌, ℕ, ◌≤◌, Bool, true, false, List, [], ◌∷◌, refl, sym, subst, ◌∙◌, ap, arith, inl, inr, Option, Some, None, Result, Ok, Err, codes}
use Rattle.std.specs.Prelude.{◌==◌, if◌then◌else◌, map, not}
use Rattle.std.specs.List.{AllByRecursion, flat_map, list_any}
use Rattle.std.specs.Option.{ok_or}
use Rattle.std.proofs.lemmas.Bool.{cases_Bool, eqb-true}
use Rattle.std.proofs.lemmas.Bool.Decides.{nat_tests}
use Rattle.nut_words.specs.Lines.{LineText, Text, TooLong}
use Rattle.nut_words.specs.Reader as reader
use Rattle.nut_words.specs.Reader.{spelled}
use Rattle.nut_words.specs.Spelling.{IsLayout, Spells, byte_of, Part, Blank, Bare, Quoted, Equals, Comment, Plain, Escaped, is_bare, part_text, part_words}
use Rattle.nut_words.specs.declared.limits.TheConstants.{WORDS_MAX}
use Rattle.nut_words.specs.declared.words.WordFault.{WordFault}
use Rattle.nut_words.proofs.Sound.{spells_of_read}
use Rattle.nut_proto.specs.declared.request.Request.{Request}
use Rattle.nut_proto.specs.declared.request.Request.TheVariants as requests
use Rattle.nut_proto.specs.declared.refusal.Refusal.TheVariants.{InvalidArgument}
use Rattle.nut_proto.specs.declared.keyword.Command as keyword
use Rattle.nut_proto.specs.declared.keyword.Command.TheVariants as commands
use Rattle.nut_proto.specs.Keywords as keywords
use Rattle.nut_proto.specs.Keywords.{is_named}
use Rattle.nut_proto.specs.Forms.{meaning, meaning_by}
use Rattle.nut_proto.specs.Requests.{get_forms, request_by}
use Rattle.nut_proto.specs.Rules.{credential_word}
use Rattle.nut_server_spec.specs.Command.{Asks, asked, command_in, command_of}
use Rattle.nut_server_sockets.specs.Waits.{asks_for_list, lists_in}
use Rattle.nut_server_sockets.specs.inside.Light.{begins_other, is_plain, others_in}
use Rattle.nut_server_sockets.proofs.MadeRequests.{IfMade, Makes, of_about, of_map, of_none, of_one, of_tracking, of_two}

-- ---- what the words behind GET, HELP, NETVER, USERNAME and VER make

abbrev IsNoList : Request → Type 0
IsNoList request = asks_for_list (Asks request) ≡ false

made_no_list : (o : Option Request) → IfMade IsNoList o → asks_for_list (asked (ok_or o InvalidArgument)) ≡ false
made_no_list None is = refl
made_no_list (Some request) is = is

get_forms_list_nothing : AllByRecursion (λ form. Makes IsNoList form.1) get_forms
get_forms_list_nothing = (
  of_one IsNoList requests.GetNumLogins (λ x. refl),
  (
    of_one IsNoList requests.GetUpsDesc (λ x. refl),
    (
      of_two IsNoList requests.GetVar (λ x y. refl),
      (
        of_two IsNoList requests.GetType (λ x y. refl),
        (
          of_two IsNoList requests.GetDesc (λ x y. refl),
          (
            of_two IsNoList requests.GetCmdDesc (λ x y. refl),
            (of_tracking IsNoList refl (λ n. refl), tt),
          ),
        ),
      ),
    ),
  ),
)

-- what words make whose first names this command or none
abbrev Named : keyword.Command → Type 0
Named command = (b : Bool) (words : List (List ℕ)) → asks_for_list (asked (meaning_by (if b then Some command else None) words)) ≡ false

named : (command : keyword.Command) → Makes IsNoList (request_by command) → Named command
named command makes true words = made_no_list (request_by command words) (makes words)
named command makes false words = refl

get : Named commands.Get
get = named commands.Get (of_about IsNoList get_forms get_forms_list_nothing)

help : Named commands.Help
help = named commands.Help (of_none IsNoList requests.Help refl)

net_ver : Named commands.NetVer
net_ver = named commands.NetVer (of_none IsNoList requests.NetVer refl)

username : Named commands.Username
username = named commands.Username (λ words. of_map IsNoList requests.Username (λ x. refl) (credential_word words))

ver : Named commands.Ver
ver = named commands.Ver (of_none IsNoList requests.Ver refl)

-- A first word that begins so names this command or none.
abbrev BeginsNoList : ℕ → Type 0
BeginsNoList c = (w : List ℕ) (words : List (List ℕ)) → asks_for_list (asked (meaning ((c ∷ w) ∷ words))) ≡ false

letters : AllByRecursion BeginsNoList (codes "GgHhNnUuVv")
unfolding meaning keywords.command_of
letters = (
  λ w words. get (is_named (71 ∷ w) (codes "GET")) words,
  (
    λ w words. get (is_named (103 ∷ w) (codes "GET")) words,
    (
      λ w words. help (is_named (72 ∷ w) (codes "HELP")) words,
      (
        λ w words. help (is_named (104 ∷ w) (codes "HELP")) words,
        (
          λ w words. net_ver (is_named (78 ∷ w) (codes "NETVER")) words,
          (
            λ w words. net_ver (is_named (110 ∷ w) (codes "NETVER")) words,
            (
              λ w words. username (is_named (85 ∷ w) (codes "USERNAME")) words,
              (
                λ w words. username (is_named (117 ∷ w) (codes "USERNAME")) words,
                (
                  λ w words. ver (is_named (86 ∷ w) (codes "VER")) words,
                  (λ w words. ver (is_named (118 ∷ w) (codes "VER")) words, tt),
                ),
              ),
            ),
          ),
        ),
      ),
    ),
  ),
)

-- ---- the first word of a line

-- A line that begins with a letter spells a first word that begins with this letter.
record IsFirst (c : ℕ) (words : List (List ℕ)) : Type 0 where
  more : List ℕ
  others : List (List ℕ)
  are : words ≡ (c ∷ more) ∷ others

first_word : (c : ℕ) (cs : List ℕ) (words : List (List ℕ)) → is_bare c ≡ true → Spells (c ∷ cs) words → IsFirst c words
first_word c cs words bare spells = by spells.parts spells.layout spells.spelled spells.meant where
  by : (parts : List Part) → IsLayout parts → c ∷ cs ≡ flat_map part_text parts → words ≡ flat_map part_words parts → IsFirst c words
  by [] layout spelled meant = absurd (cc)
  by (Blank d ∷ parts) layout spelled meant =
      let same : c ≡ d = cc in
      absurd (grind (arith, nat_tests))
  by (Bare (Plain d) items ∷ parts) layout spelled meant =
      let same : c ≡ d = cc in
      record { more = map byte_of items; others = flat_map part_words parts; are = meant ∙ ap (λ x. (x ∷ map byte_of items) ∷ flat_map part_words parts) (sym same) }
  by (Bare (Escaped d) items ∷ parts) layout spelled meant =
      let same : c ≡ 92 = cc in
      absurd (let bad : false ≡ true = ap is_bare (sym same) ∙ bare in cc)
  by (Quoted items ∷ parts) layout spelled meant =
      let same : c ≡ 34 = cc in
      absurd (let bad : false ≡ true = ap is_bare (sym same) ∙ bare in cc)
  by (Equals ∷ parts) layout spelled meant =
      let same : c ≡ 61 = cc in
      absurd (let bad : false ≡ true = ap is_bare (sym same) ∙ bare in cc)
  by (Comment text ∷ parts) layout spelled meant =
      let same : c ≡ 35 = cc in
      absurd (let bad : false ≡ true = ap is_bare (sym same) ∙ bare in cc)

abbrev AsksNoList : ℕ → Type 0
AsksNoList c = (cs : List ℕ) → asks_for_list (command_of (Text (c ∷ cs))) ≡ false

by_letter : (c : ℕ) → is_bare c ≡ true → BeginsNoList c → AsksNoList c
by_letter c bare begins cs = by (spelled (c ∷ cs)) refl where
  by : (r : Result (List (List ℕ)) WordFault) → spelled (c ∷ cs) ≡ r → asks_for_list (command_in r) ≡ false
  by (Err fault) is = refl
  by (Ok []) is = refl
  by (Ok (word ∷ words)) is =
      let first = first_word c cs (word ∷ words) bare (spells_of_read WORDS_MAX (c ∷ cs) (word ∷ words) is) in
      ap (λ ws. asks_for_list (command_in (Ok ws))) first.are ∙ begins first.more first.others

feed_asks_no_list : AsksNoList 10
unfolding reader.read
feed_asks_no_list cs = refl

empty_asks_no_list : asks_for_list (command_of (Text [])) ≡ false
unfolding reader.read
empty_asks_no_list = refl

letters_ask_no_list : AllByRecursion AsksNoList (codes "GgHhNnUuVv")
letters_ask_no_list = each (codes "GgHhNnUuVv") (refl, (refl, (refl, (refl, (refl, (refl, (refl, (refl, (refl, (refl, tt)))))))))) letters where
  each : (cs : List ℕ) → AllByRecursion (λ c. is_bare c ≡ true) cs → AllByRecursion BeginsNoList cs → AllByRecursion AsksNoList cs
  each [] bare begin = tt
  each (c ∷ cs) bare begin = (by_letter c bare.0 begin.0, each cs bare.1 begin.1)

among : (P : ℕ → Type 0) (cs : List ℕ) → AllByRecursion P cs → (c : ℕ) → list_any (λ d. c == d) cs ≡ true → P c
among P [] all c is = absurd (cc)
among P (d ∷ ds) all c is =
    elim (cases_Bool (c == d)) [
      | inl e ↦ subst P (sym (eqb-true c d e)) all.0
      | inr e ↦ among P ds all.1 c (rw e at is)
    ]

plain_asks_no_list : (c : ℕ) → is_plain c ≡ true → AsksNoList c
plain_asks_no_list c is = among AsksNoList (10 ∷ codes "GgHhNnUuVv") (feed_asks_no_list, letters_ask_no_list) c is

-- ---- lines that aren't plain

-- Only such a line asks for a list.
plain_asks : (text : List ℕ) → begins_other text ≡ false → asks_for_list (command_of (Text text)) ≡ false
plain_asks [] plain = empty_asks_no_list
plain_asks (c ∷ cs) plain = plain_asks_no_list c (first (is_plain c) plain) cs where
  first : (b : Bool) → not b ≡ false → b ≡ true
  first true is = refl
  first false is = absurd (cc)

-- Of some lines, at most those ask for a list.
pub lists_are_others : (lines : List LineText) → lists_in lines ≤ others_in lines
lists_are_others [] = omega arith
lists_are_others (Text text ∷ lines) =
    elim (cases_Bool (begins_other text)) [
      | inl e ↦ rw e (omega (arith, lists_are_others lines, at_most (asks_for_list (command_of (Text text)))))
      | inr e ↦ rw (e, plain_asks text e) (omega (arith, lists_are_others lines))
    ]
  where
    at_most : (b : Bool) → (if b then 1 else 0) ≤ 1
    at_most true = omega arith
    at_most false = omega arith
lists_are_others (TooLong ∷ lines) = omega (arith, lists_are_others lines)
