-- A word that isn't a name is none of the names of a configuration.
use Rattle.std.proofs.Common.{◌≡◌, ℕ, ◌+◌, Bool, true, false, not, List, [], ◌∷◌, length, Option, None, Some, Ok, Err, cond, nat_lt, refl, sym, ap, ◌∙◌, subst, arith}
use Rattle.std.specs.List.{position, position_or_len, prefix_len}
use Rattle.std.specs.Map.{keys_of, lookup}
use Rattle.std.specs.Option.{option_map}
use Rattle.std.specs.Prelude.{slice_get}
use Rattle.std.proofs.lemmas.Option.{slice_get-map}
use Rattle.std.proofs.lemmas.Bool.Decides.{nat_tests}
use Rattle.std.proofs.lemmas.Slice.Eq.{bytes_eq-Decides}
use Rattle.nut_words.specs.Name.{is_name}
use Rattle.nut_conf.specs.Values.{name}
use Rattle.nut_conf.specs.Sections.{is_named, names_in}
use Rattle.nut_conf.specs.declared.text.Name.{Name}
use Rattle.nut_conf.specs.declared.fault.FaultKind.{FaultKind}
use Rattle.std.specs.Str.{bytes_eq}
use Rattle.std.proofs.lemmas.Bool.{false_from_ne_true, le-ltb}
use Rattle.nut_words.specs.declared.limits.TheConstants.{UPS_NAME_MAX}
use Rattle.nut_conf.proofs.SlotLemmas.{length-map}

-- What is a name is read as one.
pub reads_named : (most : ℕ) (bytes : List ℕ) → is_name most bytes ≡ true → name most bytes ≡ Ok bytes
reads_named most bytes h = grind (arith, nat_tests)

-- A word that can't be read as a name isn't any name.
pub is_no_name : (most : ℕ) (bytes : List ℕ) (e : FaultKind) → name most bytes ≡ Err e → (n : Name most) → bytes_eq bytes n.bytes.items ≡ false
is_no_name most bytes e fault n = false_from_ne_true (bytes_eq bytes n.bytes.items) (λ same.
    let is : bytes ≡ n.bytes.items = (bytes_eq-Decides bytes n.bytes.items).0 same in
    let reads : name most bytes ≡ Ok bytes = reads_named most bytes (subst (λ b. is_name most b ≡ true) (sym is) n.named) in
    absurd (cc))

pub is_named-no : (bytes : List ℕ) (e : FaultKind) → name 32 bytes ≡ Err e → (n : Name 32) → is_named bytes n ≡ false
is_named-no bytes e fault n = is_no_name 32 bytes e fault n

no_prefix : {X : Type 0} (p : X → Bool) (xs : List X) → ((x : X) → p x ≡ false) → prefix_len (λ x. not (p x)) xs ≡ length xs
no_prefix p [] none = refl
no_prefix p (x ∷ xs) none = rw (none x) (omega (arith, no_prefix p xs none))

-- A test that no element passes finds no place.
pub position-no : {X : Type 0} (p : X → Bool) (xs : List X) → ((x : X) → p x ≡ false) → position p xs ≡ None
position-no p xs none =
    let below : nat_lt (position_or_len p xs) (length xs) ≡ false = ap (λ n. nat_lt n (length xs)) (no_prefix p xs none) ∙ le-ltb (length xs) (length xs) (omega arith) in
    ap (λ b. cond b (Some (position_or_len p xs)) None) below

-- A test that no key passes finds no value.
pub lookup-no : {K X : Type 0} (test : K → Bool) (es : List (K × X)) → ((k : K) → test k ≡ false) → lookup test es ≡ None
lookup-no test [] none = refl
lookup-no test (e ∷ es) none = rw (none e.0) (lookup-no test es none)

prefix-names : (word : List ℕ) (ns : List (Name UPS_NAME_MAX)) → prefix_len (λ b. not (bytes_eq word b)) (names_in ns) ≡ prefix_len (λ n. not (is_named word n)) ns
prefix-names word [] = refl
prefix-names word (n ∷ ns) = elim (bytes_eq word n.bytes.items) as (λ t. cond (not t) (1 + prefix_len (λ b. not (bytes_eq word b)) (names_in ns)) 0 ≡ cond (not t) (1 + prefix_len (λ m. not (is_named word m)) ns) 0)
    [ true ↦ refl | false ↦ ap (λ k. 1 + k) (prefix-names word ns) ]

-- A name has the same place among the names and among their bytes.
pub position-names : (word : List ℕ) (ns : List (Name UPS_NAME_MAX)) → position (bytes_eq word) (names_in ns) ≡ position (is_named word) ns
position-names word ns =
    ap (λ k. cond (nat_lt k (length (names_in ns))) (Some k) None) (prefix-names word ns)
    ∙ ap (λ l. cond (nat_lt (position_or_len (is_named word) ns) l) (Some (position_or_len (is_named word) ns)) None) (length-map (λ n. n.bytes.items) ns)

-- The name at a place is that of the entry at this place.
pub slice_get-names : {S : Type 0} (es : List (Name UPS_NAME_MAX × S)) (i : ℕ) → slice_get (names_in (keys_of es)) i ≡ option_map (λ e. e.0.bytes.items) (slice_get es i)
slice_get-names {S} es i = slice_get-map (λ n. n.bytes.items) (keys_of es) i ∙ ap (option_map (λ n. n.bytes.items)) (slice_get-map (λ e. e.0) es i) ∙ merged (slice_get es i) where
  merged : (o : Option (Name UPS_NAME_MAX × S)) → option_map (λ n. n.bytes.items) (option_map (λ e. e.0) o) ≡ option_map (λ e. e.0.bytes.items) o
  merged None = refl
  merged (Some e) = refl
