-- A request that words make is within its own bounds.
use Rattle.std.proofs.Common.{◌≡◌, ℕ, ◌+◌, ◌-◌, ◌*◌, ◌<◌, ◌≤◌, ◌==◌, Bool, true, false, List, [], ◌∷◌, fold, inl, inr, refl, subst, Option, Some, None, Ok, IsTrue, arith, rules}
use Rattle.std.specs.Prelude.{◌&&◌}
use Rattle.std.specs.List.{AllByRecursion, list_all}
use Rattle.std.specs.Char.{is_ascii_digit}
use Rattle.std.specs.Option.{ok_or, option_map}
use Rattle.std.proofs.lemmas.Bool.{cases_Bool}
use Rattle.std.proofs.lemmas.Bool.Decides.{nat_tests}
use Rattle.nut_words.specs.Number.{digits_value, is_natural}
use Rattle.nut_proto.specs.declared.request.Request.{Request}
use Rattle.nut_proto.specs.declared.request.Request.TheVariants as requests
use Rattle.nut_proto.specs.declared.request.ListQuery.{ListQuery}
use Rattle.nut_proto.specs.declared.refusal.Refusal.TheVariants.{InvalidArgument}
use Rattle.nut_proto.specs.declared.keyword.Command.{Command}
use Rattle.nut_proto.specs.declared.keyword.Command.TheVariants as commands
use Rattle.nut_proto.specs.Keywords.{command_of, is_named}
use Rattle.nut_proto.specs.Rules.{none, one, two, three, credential, is_credential, numbered, switched}
use Rattle.nut_proto.specs.Forms.{meaning_by, meaning}
use Rattle.nut_proto.specs.Requests.{Rule, Form, about, first_named, get_forms, get_tracking, inst_cmd, list_forms, request_by, set_forms}
use Rattle.nut_proto.specs.Tracking.{IsTrackingNumber, switch, tracking_number}
use Rattle.nut_proto.specs.laws.ReadBack.{IsReadable, ReadRequestsAreReadable}
use Rattle.nut_proto.proofs.Numbers.{natural_below, natural_parts}

abbrev IsMade : Option Request → Type 0
IsMade None = Unit {0}
IsMade (Some request) = IsReadable request

abbrev MakesReadable : Rule Request → Type 0
MakesReadable rule = (words : List (List ℕ)) → IsMade (rule words)

of_none : (made : Request) → IsReadable made → MakesReadable (none made)
of_none made is [] = is
of_none made is (x ∷ xs) = tt

of_one : (made : List ℕ → Request) → ((x : List ℕ) → IsReadable (made x)) → MakesReadable (one made)
of_one made is (x ∷ []) = is x
of_one made is _ = tt

of_two : (made : List ℕ → List ℕ → Request) → ((x y : List ℕ) → IsReadable (made x y)) → MakesReadable (two made)
of_two made is (x ∷ y ∷ []) = is x y
of_two made is _ = tt

of_three : (made : List ℕ → List ℕ → List ℕ → Request) → ((x y z : List ℕ) → IsReadable (made x y z)) → MakesReadable (three made)
of_three made is (x ∷ y ∷ z ∷ []) = is x y z
of_three made is _ = tt

of_credential : (made : List ℕ → Request) → ((x : List ℕ) → IsTrue (is_credential x) → IsReadable (made x)) → MakesReadable (credential made)
of_credential made is (x ∷ []) = elim (cases_Bool (is_credential x)) [ inl e ↦ (let made_so = is x e in rw e made_so) | inr e ↦ rw e tt ]
of_credential made is _ = tt

of_switched : (made : Bool → Request) → ((on : Bool) → IsReadable (made on)) → MakesReadable (switched made)
of_switched made is (x ∷ []) = by (switch x) where
  by : (o : Option Bool) → IsMade (option_map (λ on. made on) o)
  by None = tt
  by (Some on) = is on
of_switched made is _ = tt

-- ---- numbers

digits_grow : (n : ℕ) (text : List ℕ) → n ≤ fold (λ m digit. 10 * m + (digit - 48)) n text
digits_grow n [] = omega arith
digits_grow n (digit ∷ text) = omega (arith, digits_grow (10 * n + (digit - 48)) text)

first_digit : (digit : ℕ) (rest : Bool) → (is_ascii_digit digit && rest) ≡ true → (digit == 48) ≡ false → 48 < digit
first_digit digit rest all other = grind (arith, nat_tests)

natural_within : (digit : ℕ) (digits : List ℕ) → is_natural (digit ∷ digits) ≡ true → (digit == 48) ≡ false → IsTrackingNumber (digits_value (digit ∷ digits))
natural_within digit digits is other =
    let text : List ℕ = digit ∷ digits in
    let grows : 0 + (digit - 48) ≤ digits_value text = digits_grow (0 + (digit - 48)) digits in
    (omega (arith, grows, first_digit digit (list_all is_ascii_digit digits) (natural_parts text is).1 other), omega (arith, natural_below text is))

number_within : (text : List ℕ) (n : ℕ) → tracking_number text ≡ Some n → IsTrackingNumber n
number_within [] n is = cc
number_within (digit ∷ digits) n is =
    elim (cases_Bool (digit == 48)) [
      | inl e ↦ absurd (let bad : None ≡ Some n = rw e at is in cc)
      | inr e ↦
          elim (cases_Bool (is_natural (digit ∷ digits))) [
            | inl f ↦
                let value : Some (digits_value (digit ∷ digits)) ≡ Some n = rw (e, f) at is in
                let same : digits_value (digit ∷ digits) ≡ n = cc in
                subst IsTrackingNumber same (natural_within digit digits f e)
            | inr f ↦ absurd (let bad : None ≡ Some n = rw (e, f) at is in cc)
          ]
    ]

of_number : MakesReadable (numbered (λ n. requests.GetTrackingOf n))
of_number (x ∷ []) = by (tracking_number x) (λ n is. number_within x n is) where
  by : (o : Option ℕ) → ((n : ℕ) → o ≡ Some n → IsTrackingNumber n) → IsMade (option_map (λ n. requests.GetTrackingOf n) o)
  by None is = tt
  by (Some n) is = is n refl
of_number _ = tt

-- ---- all forms

of_query : (query : Option ListQuery) → IsMade (option_map (λ query. requests.List query) query)
of_query None = tt
of_query (Some query) = tt

of_about : (forms : List (Form Request)) → AllByRecursion (λ form. MakesReadable form.1) forms → MakesReadable (about forms)
of_about forms all [] = tt
of_about forms all (word ∷ words) = go forms all where
  go : (forms : List (Form Request)) → AllByRecursion (λ form. MakesReadable form.1) forms → IsMade (first_named forms word words)
  go [] all = tt
  go (form ∷ forms) all = elim (cases_Bool (is_named word form.0)) [ inl e ↦ rw e (all.0 words) | inr e ↦ rw e (go forms all.1) ]

of_inst_cmd : MakesReadable inst_cmd
of_inst_cmd (ups ∷ command ∷ parameter ∷ word ∷ words) = tt
of_inst_cmd _ = tt

of_get_tracking : MakesReadable get_tracking
of_get_tracking [] = tt
of_get_tracking (word ∷ words) = of_number (word ∷ words)

get_readable : AllByRecursion (λ form. MakesReadable form.1) get_forms
get_readable = search (rules, of_one, of_two, of_get_tracking)

set_readable : AllByRecursion (λ form. MakesReadable form.1) set_forms
set_readable = search (rules, of_three, of_switched)

readable : (command : Command) → MakesReadable (request_by command)
readable commands.Get words = of_about get_forms get_readable words
readable commands.List words = of_query (about list_forms words)
readable commands.Set words = of_about set_forms set_readable words
readable commands.InstCmd words = of_inst_cmd words
readable commands.Username words = of_credential requests.Username (λ x is. is) words
readable commands.Password words = of_credential requests.Password (λ x is. is) words
readable commands.Login words = of_one requests.Login (λ x. tt) words
readable commands.Primary words = of_one requests.Primary (λ x. tt) words
readable commands.Fsd words = of_one requests.Fsd (λ x. tt) words
readable commands.Logout words = of_none requests.Logout tt words
readable commands.Ver words = of_none requests.Ver tt words
readable commands.NetVer words = of_none requests.NetVer tt words
readable commands.Help words = of_none requests.Help tt words
readable commands.StartTls words = of_none requests.StartTls tt words

of_result : (o : Option Request) (request : Request) → IsMade o → ok_or o InvalidArgument ≡ Ok request → IsReadable request
of_result None request is e = cc
of_result (Some r) request is e =
    let same : r ≡ request = cc in
    subst IsReadable same is

of_meaning : (o : Option Command) (words : List (List ℕ)) (request : Request) → meaning_by o words ≡ Ok request → IsReadable request
of_meaning None words request e = cc
of_meaning (Some command) words request e = of_result (request_by command words) request (readable command words) e

pub read_requests_are_readable : ReadRequestsAreReadable
unfolding meaning
read_requests_are_readable [] request e = cc
read_requests_are_readable (word ∷ words) request e = of_meaning (command_of word) words request e
