-- How many words follow the command words of a form, and what they make.
use Rattle.std.specs.Prelude.{ℕ, Bool, ◌&&◌, List, [], ◌∷◌, length, Option, Some, None, nat_le, if◌then◌else◌}
use Rattle.std.specs.Option.{option_and, option_and_then, option_map}
use Rattle.nut_words.specs.declared.limits.TheConstants.{CREDENTIAL_MAX}
use Rattle.nut_proto.specs.Tracking.{switch, tracking_number}

-- The words, if there are exactly none, one, two or three of them; else `None`.
abbrev pub no_word : List (List ℕ) → Option (Unit {0})
no_word [] = Some tt
no_word (x ∷ xs) = None

abbrev pub one_word : List (List ℕ) → Option (List ℕ)
one_word [] = None
one_word (x ∷ []) = Some x
one_word (x ∷ y ∷ ys) = None

abbrev pub two_words : List (List ℕ) → Option (List ℕ × List ℕ)
two_words [] = None
two_words (x ∷ []) = None
two_words (x ∷ y ∷ []) = Some (x, y)
two_words (x ∷ y ∷ z ∷ zs) = None

abbrev pub three_words : List (List ℕ) → Option (List ℕ × List ℕ × List ℕ)
three_words [] = None
three_words (x ∷ []) = None
three_words (x ∷ y ∷ []) = None
three_words (x ∷ y ∷ z ∷ []) = Some (x, y, z)
three_words (x ∷ y ∷ z ∷ w ∷ ws) = None

-- The words, if there is at most one of them; else `None`.
abbrev pub optional_word : List (List ℕ) → Option (Option (List ℕ))
optional_word [] = Some None
optional_word (x ∷ []) = Some (Some x)
optional_word (x ∷ y ∷ ys) = None

-- A user name or a password has 1 to CREDENTIAL_MAX bytes.
abbrev pub is_credential : List ℕ → Bool
is_credential x = nat_le 1 (length x) && nat_le (length x) CREDENTIAL_MAX

-- the one word, if it may be a user name or a password
abbrev pub credential_word : List (List ℕ) → Option (List ℕ)
credential_word words = option_and_then (λ x. if is_credential x then Some x else None) (one_word words)

-- the one word, as the number of a tracked request
abbrev pub number_word : List (List ℕ) → Option ℕ
number_word words = option_and_then tracking_number (one_word words)

-- the one word, as ON or OFF
abbrev pub on_or_off : List (List ℕ) → Option Bool
on_or_off words = option_and_then switch (one_word words)

-- What the words make, if there are exactly none, one, two or three of them, or one user name or password, one number
-- of a request, or ON or OFF; else `None`.
abbrev pub none : {A : Type 0} → A → List (List ℕ) → Option A
none made words = option_and (no_word words) (Some made)

abbrev pub one : {A : Type 0} → (List ℕ → A) → List (List ℕ) → Option A
one made words = option_map (λ x. made x) (one_word words)

abbrev pub two : {A : Type 0} → (List ℕ → List ℕ → A) → List (List ℕ) → Option A
two made words = option_map (λ x. made x.0 x.1) (two_words words)

abbrev pub three : {A : Type 0} → (List ℕ → List ℕ → List ℕ → A) → List (List ℕ) → Option A
three made words = option_map (λ x. made x.0 x.1 x.2) (three_words words)

abbrev pub credential : {A : Type 0} → (List ℕ → A) → List (List ℕ) → Option A
credential made words = option_map (λ x. made x) (credential_word words)

abbrev pub numbered : {A : Type 0} → (ℕ → A) → List (List ℕ) → Option A
numbered made words = option_map (λ n. made n) (number_word words)

abbrev pub switched : {A : Type 0} → (Bool → A) → List (List ℕ) → Option A
switched made words = option_map (λ on. made on) (on_or_off words)
