-- The UPSes and users of the configuration are those of the files.
use Rattle.std.proofs.Common.{◌≡◌, ℕ, ◌+◌, ◌≤◌, Bool, true, false, not, cond, ◌||◌, List, [], ◌∷◌, length, map, Option, None, Some, nat_lt, refl, sym, ap, ◌∙◌, arith}
use Rattle.std.specs.List.{find, list_any, position, position_or_len, prefix_len}
use Rattle.std.specs.Map.{keys_of, values_of, lookup}
use Rattle.std.specs.Borrow.{Bor}
use Rattle.std.specs.Option.{option_copied, option_map, option_map_or}
use Rattle.std.specs.Prelude.{slice_get}
use Rattle.std.specs.Str.{bytes_eq}
use Rattle.std.proofs.lemmas.Bool.Decides.{nat_tests}
use Rattle.std.proofs.lemmas.List.Folds.{find_at}
use Rattle.std.proofs.lemmas.Option.{slice_get-map, slice_get_past}
use Rattle.std.proofs.lemmas.Slice.Eq.{bytes_eq-Decides}
use Rattle.std.proofs.lemmas.Bool.{false_from_ne_true}
use Rattle.nut_conf.specs.Sections.{is_named, names_in}
use Rattle.nut_conf.specs.Ups.{shown, driver_of, desc_of}
use Rattle.nut_conf.specs.Users as files
use Rattle.nut_conf.specs.declared.text.Name.{Name}
use Rattle.nut_conf.specs.declared.ups.Ups as the_ups
use Rattle.nut_conf.specs.declared.users.User as the_user
use Rattle.nut_conf.specs.declared.users.Commands.{Commands}
use Rattle.nut_conf.specs.declared.users.Commands.TheVariants as commands
use Rattle.nut_words.specs.declared.limits.TheConstants.{UPS_NAME_MAX}
use Rattle.nut_conf.proofs.NameLookup.{slice_get-names}
use Rattle.nut_conf.proofs.SlotLemmas.{length-map}
use Rattle.nut_server_spec.specs.Configuration.{Ups, number_of_ups, user_named, has_password}
use Rattle.nut_server.specs.Configured.{ups_of, user_of, user_in, command_of}

bytes_eq-symm : (a b : List ℕ) → bytes_eq a b ≡ bytes_eq b a
bytes_eq-symm a b = by_test (bytes_eq a b) refl where
  by_test : (t : Bool) → bytes_eq a b ≡ t → bytes_eq a b ≡ bytes_eq b a
  by_test true h = h ∙ sym ((bytes_eq-Decides b a).1 (sym ((bytes_eq-Decides a b).0 h)))
  by_test false h = h ∙ sym (false_from_ne_true (bytes_eq b a) (λ t.
      let again : bytes_eq a b ≡ true = (bytes_eq-Decides a b).1 (sym ((bytes_eq-Decides b a).0 t)) in
      absurd (cc)))

-- The names of the UPSes are those of the file.
pub shown-names : (es : List (Name UPS_NAME_MAX × the_ups.Ups)) → map (λ u. u.name) (map ups_of (map shown es)) ≡ names_in (keys_of es)
shown-names [] = refl
shown-names (e ∷ es) = ap (λ (ns : List (List ℕ)). e.0.bytes.items ∷ ns) (shown-names es)

prefix-named : (name : List ℕ) (us : List Ups) → prefix_len (λ u. not (bytes_eq u.name name)) us ≡ prefix_len (λ b. not (bytes_eq name b)) (map (λ u. u.name) us)
prefix-named name [] = refl
prefix-named name (u ∷ us) =
    rw (bytes_eq-symm u.name name)
    (elim (bytes_eq name u.name) as (λ t. cond (not t) (1 + prefix_len (λ u. not (bytes_eq u.name name)) us) 0 ≡ cond (not t) (1 + prefix_len (λ b. not (bytes_eq name b)) (map (λ u. u.name) us)) 0)
    [ true ↦ refl | false ↦ ap (λ k. 1 + k) (prefix-named name us) ])

-- The number of a UPS is the place of its name among the names.
pub number-names : (name : List ℕ) (us : List Ups) → position (bytes_eq name) (map (λ u. u.name) us) ≡ number_of_ups name us
number-names name us =
    let place = position_or_len (bytes_eq name) (map (λ u. u.name) us) in
    ap (λ l. cond (nat_lt place l) (Some place) None) (length-map (λ u. u.name) us)
    ∙ ap (λ k. cond (nat_lt k (length us)) (Some k) None) (sym (prefix-named name us))

-- the UPS under a name
pub ups-there : (es : List (Name UPS_NAME_MAX × the_ups.Ups)) (k : ℕ) (n m driver desc : List ℕ) (v : the_ups.Ups)
    → Some n ≡ slice_get (names_in (keys_of es)) k → Some v ≡ slice_get (values_of es) k → m ≡ n → driver ≡ driver_of v → desc ≡ desc_of v
    → Some (record { name = m; driver = driver; description = desc }) ≡ slice_get (map ups_of (map shown es)) k
ups-there es k n m driver desc v named valued is_m is_driver is_desc =
    by_entry (slice_get es k) (named ∙ slice_get-names es k) (valued ∙ slice_get-map (λ e. e.1) es k)
    ∙ sym (slice_get-map ups_of (map shown es) k ∙ ap (option_map ups_of) (slice_get-map shown es k)) where
      by_entry : (o : Option (Name UPS_NAME_MAX × the_ups.Ups)) → Some n ≡ option_map (λ e. e.0.bytes.items) o → Some v ≡ option_map (λ e. e.1) o
          → Some (record { name = m; driver = driver; description = desc }) ≡ option_map ups_of (option_map shown o)
      by_entry None named valued = absurd (cc)
      by_entry (Some e) named valued =
          let is_n : n ≡ e.0.bytes.items = cc in
          let is_v : v ≡ e.1 = cc in
          rw (is_m ∙ is_n, is_driver ∙ ap driver_of is_v, is_desc ∙ ap desc_of is_v) refl

module _ {X : Type 0} (test : X → Bool) (xs : List X) where
  -- The first element that passes the test is the one at the first place that does.
  pub there-found : (k : ℕ) → Some k ≡ position test xs → slice_get xs k ≡ find test xs
  there-found k is = by_test (nat_lt (position_or_len test xs) (length xs)) is ∙ sym (find_at test xs) where
    by_test : (b : Bool) → Some k ≡ cond b (Some (position_or_len test xs)) None → slice_get xs k ≡ slice_get xs (position_or_len test xs)
    by_test true is = let same : k ≡ position_or_len test xs = cc in ap (slice_get xs) same
    by_test false is = absurd (cc)

  -- If there is no such place, no element passes.
  pub none-found : None ≡ position test xs → None ≡ find test xs
  none-found is = sym (find_at test xs ∙ by_test (nat_lt (position_or_len test xs) (length xs)) refl is) where
    by_test : (b : Bool) → nat_lt (position_or_len test xs) (length xs) ≡ b → None ≡ cond b (Some (position_or_len test xs)) None → slice_get xs (position_or_len test xs) ≡ None
    by_test true here is = absurd (cc)
    by_test false here is = slice_get_past xs (position_or_len test xs) (past (position_or_len test xs) (length xs) here) where
      past : (k n : ℕ) → nat_lt k n ≡ false → n ≤ k
      past k n h = grind (arith, nat_tests)

found_first : (name : List ℕ) (e : Name UPS_NAME_MAX × the_user.User) (es : List (Name UPS_NAME_MAX × the_user.User)) (t : Bool) → bytes_eq name e.0.bytes.items ≡ t
    → user_named name (map user_in es) ≡ option_map (user_of name) (lookup (is_named name) es)
    → cond t (Some (user_in e)) (user_named name (map user_in es)) ≡ option_map (user_of name) (cond t (Some e.1) (lookup (is_named name) es))
found_first name e es true h later = ap (λ n. Some (user_of n e.1)) (sym ((bytes_eq-Decides name e.0.bytes.items).0 h))
found_first name e es false h later = later

-- The user with a name is the one under this name in the file.
pub found_user : (name : List ℕ) (es : List (Name UPS_NAME_MAX × the_user.User)) → user_named name (map user_in es) ≡ option_map (user_of name) (lookup (is_named name) es)
found_user name [] = refl
found_user name (e ∷ es) = rw (bytes_eq-symm e.0.bytes.items name) (found_first name e es (bytes_eq name e.0.bytes.items) refl (found_user name es))

-- the user that is lent
pub lent_user : (name : List ℕ) (found : Option (Bor the_user.User)) → option_map (λ u. user_of name u.now) found ≡ option_map (user_of name) (option_copied found)
lent_user name None = refl
lent_user name (Some u) = refl

-- whether a password is that of a user
pub password_kept : (password name : List ℕ) (u : the_user.User) → files.has_password password u ≡ has_password password (user_of name u)
password_kept password name u =
    elim u.password as (λ o. option_map_or (λ t. bytes_eq password t.bytes.items) o false ≡ option_map_or (λ own. bytes_eq password own) (option_map (λ t. t.bytes.items) o) false)
    [ None ↦ refl | Some t ↦ refl ]

-- the commands that a user may give
pub covered : (name : List ℕ) (cs : List Commands) → list_any (files.covers name) cs ≡ list_any (λ allowed. option_map_or (bytes_eq name) allowed true) (map command_of cs)
covered name [] = refl
covered name (commands.All ∷ cs) = refl
covered name (commands.Named n ∷ cs) = ap (λ b. bytes_eq name n.bytes.items || b) (covered name cs)
