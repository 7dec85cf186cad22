-- A description that is put behind others, and one that is looked up.
use Rattle.std.proofs.Common.{◌≡◌, ℕ, Bool, true, false, cond, ◌||◌, List, [], ◌∷◌, ◌++◌, length, map, Some, refl, ap, ◌∙◌}
use Rattle.std.specs.List.{list_any}
use Rattle.std.specs.Map.{keys_of, lookup}
use Rattle.std.specs.Option.{is_some, option_map}
use Rattle.std.specs.Str.{bytes_eq}
use Rattle.std.specs.HashMap.{HashMap}
use Rattle.std.proofs.lemmas.List.{map_push}
use Rattle.std.proofs.lemmas.Map.Made.{is_some-lookup}
use Rattle.indexmap.specs.IndexMap.{get, insert_entry}
use Rattle.indexmap.proofs.CallerLemmas.{insert_entry-new}
use Rattle.nut_words.specs.declared.limits.TheConstants.{NAME_MAX}
use Rattle.nut_conf.specs.declared.limits.TheConstants.{DESCRIPTION_MAX}
use Rattle.nut_conf.specs.Settings.{Setting, Description}
use Rattle.nut_conf.specs.Descriptions.{described, row_of, same_described}
use Rattle.nut_conf.specs.declared.text.Name.{Name}
use Rattle.nut_conf.specs.declared.text.Text.{Text}
use Rattle.nut_conf.proofs.SlotLemmas.{length-map}
use Rattle.nut_conf.proofs.SectionLemmas.{none-from_not_some}

abbrev pub same_key : Name NAME_MAX → Name NAME_MAX → Bool
same_key a b = bytes_eq a.bytes.items b.bytes.items

abbrev pub set_in : List (Name NAME_MAX × Text 0 DESCRIPTION_MAX) → List Setting
set_in es = map described (map row_of es)

any-described : (es : List (Name NAME_MAX × Text 0 DESCRIPTION_MAX)) (k : Name NAME_MAX) (t : List ℕ) → list_any (same_key k) (keys_of es) ≡ list_any (same_described (Description k.bytes.items t)) (set_in es)
any-described [] k t = refl
any-described (e ∷ es) k t = ap (λ b. bytes_eq k.bytes.items e.0.bytes.items || b) (any-described es k t)

-- a name is in the map where a line has set it
pub any-is : {H : Type 0} (m : HashMap (Name NAME_MAX) (Text 0 DESCRIPTION_MAX) H) (k : Name NAME_MAX) (t : List ℕ)
    → is_some (get same_key m k) ≡ list_any (same_described (Description k.bytes.items t)) (set_in m.entries)
any-is m k t = is_some-lookup (same_key k) m.entries ∙ any-described m.entries k t

-- a new name goes last
pub set-insert : {H : Type 0} (m : HashMap (Name NAME_MAX) (Text 0 DESCRIPTION_MAX) H) (k : Name NAME_MAX) (t : Text 0 DESCRIPTION_MAX) → is_some (get same_key m k) ≡ false
    → (es : List (Name NAME_MAX × Text 0 DESCRIPTION_MAX)) → es ≡ insert_entry same_key m.entries k t → set_in es ≡ set_in m.entries ++ Description k.bytes.items t.bytes.items ∷ []
set-insert m k t new es is = ap set_in (is ∙ insert_entry-new same_key m k t (none-from_not_some _ new)) ∙ ap (map described) (map_push row_of m.entries (k, t)) ∙ map_push described (map row_of m.entries) (row_of (k, t))

pub length-set : (es : List (Name NAME_MAX × Text 0 DESCRIPTION_MAX)) → length (set_in es) ≡ length es
length-set es = length-map described (map row_of es) ∙ length-map row_of es

-- what is looked up among the rows is the text of the entry
pub lookup-rows : (word : List ℕ) (es : List (Name NAME_MAX × Text 0 DESCRIPTION_MAX))
    → lookup (bytes_eq word) (map row_of es) ≡ option_map (λ t. t.bytes.items) (lookup (λ n. bytes_eq word n.bytes.items) es)
lookup-rows word [] = refl
lookup-rows word (e ∷ es) =
    let later = lookup-rows word es in
    elim (bytes_eq word e.0.bytes.items) as (λ b. cond b (Some e.1.bytes.items) (lookup (bytes_eq word) (map row_of es))
    ≡ option_map (λ t. t.bytes.items) (cond b (Some e.1) (lookup (λ n. bytes_eq word n.bytes.items) es)))
    [ true ↦ refl | false ↦ later ]
