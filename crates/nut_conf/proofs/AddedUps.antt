-- A UPS that is added after others.
use Rattle.std.proofs.Common.{◌≡◌, ℕ, ◌<◌, ◌≤◌, true, false, not, ◌||◌, List, [], ◌∷◌, ◌++◌, length, map, codes, Result, Ok, Err, nat_le, if◌then◌else◌, refl, ap, ◌∙◌, arith}
use Rattle.std.specs.Prelude.{OnOk}
use Rattle.std.specs.List.{list_any, list_all}
use Rattle.std.specs.Map.{keys_of}
use Rattle.std.specs.Option.{is_some}
use Rattle.std.specs.Str.{bytes_eq}
use Rattle.std.specs.HashMap.{HashMap}
use Rattle.std.proofs.lemmas.Bool.{lt-leb}
use Rattle.std.proofs.lemmas.Bool.Decides.{nat_tests}
use Rattle.std.proofs.lemmas.List.{map_push}
use Rattle.std.proofs.lemmas.Map.Made.{is_some-lookup}
use Rattle.indexmap.specs.IndexMap.{get, insert_entry}
use Rattle.indexmap.proofs.CallerLemmas.{insert_entry-new}
use Rattle.nut_words.specs.Spelling.{is_printing}
use Rattle.nut_words.specs.declared.limits.TheConstants.{UPS_NAME_MAX}
use Rattle.nut_conf.specs.Faults.{◌>>=◌, Fails, Reads}
use Rattle.nut_conf.specs.Values.{name, text}
use Rattle.nut_conf.specs.Sections.{AllHold}
use Rattle.nut_conf.specs.Rows.{RowsHold}
use Rattle.nut_conf.specs.Ups.{Shown, shown, is_shown_as, with_ups, ups_row}
use Rattle.nut_conf.specs.inside.Tables.{same_name}
use Rattle.nut_conf.specs.declared.text.Name.{Name}
use Rattle.nut_conf.specs.declared.text.Text.{Text}
use Rattle.nut_conf.specs.declared.ups.Ups.{Ups}
use Rattle.nut_conf.specs.declared.fault.FaultKind.{FaultKind}
use Rattle.nut_conf.specs.declared.fault.FaultKind.TheVariants.{PastLimit, Repeated, Unreadable}
use Rattle.nut_conf.specs.declared.fault.FaultKind.TheVariants as kinds
use Rattle.nut_conf.proofs.DraftLemmas.{Ok-equal}
use Rattle.nut_conf.proofs.SectionLemmas.{none-from_not_some}
use Rattle.nut_conf.specs.declared.limits.TheConstants.{DESCRIPTION_MAX, UPSES_MAX}

-- A text that isn't too long is read as it is.
pub text-short : (bytes : List ℕ) → length bytes ≤ DESCRIPTION_MAX → text 0 DESCRIPTION_MAX bytes ≡ Ok bytes
text-short bytes short = grind (arith, nat_tests)

-- a configuration of no lines has no UPS
pub no-shown : (es : List (Name UPS_NAME_MAX × Ups)) → AllHold (RowsHold ups_row) es [] → map shown es ≡ []
no-shown [] all = refl
no-shown (e ∷ es) all = absurd all

any-shown : (es : List (Name UPS_NAME_MAX × Ups)) (k : Name UPS_NAME_MAX) → list_any (same_name k) (keys_of es) ≡ list_any (is_shown_as k.bytes.items) (map shown es)
any-shown [] k = refl
any-shown (e ∷ es) k = ap (λ b. bytes_eq k.bytes.items e.0.bytes.items || b) (any-shown es k)

module _ {H : Type 0} (m : HashMap (Name UPS_NAME_MAX) Ups H) (k : Name UPS_NAME_MAX) (new : is_some (get same_name m k) ≡ false) where
  -- A new UPS comes last.
  pub shown-insert : (es : List (Name UPS_NAME_MAX × Ups)) (u : Ups) → es ≡ insert_entry same_name m.entries k u → map shown es ≡ map shown m.entries ++ shown (k, u) ∷ []
  shown-insert es u is = ap (map shown) (is ∙ insert_entry-new same_name m k u (none-from_not_some _ new)) ∙ map_push shown m.entries (k, u)

-- A name is a key of the map if, and only if, a UPS has it.
pub any-is : {H : Type 0} (m : HashMap (Name UPS_NAME_MAX) Ups H) (k : Name UPS_NAME_MAX) → is_some (get same_name m k) ≡ list_any (is_shown_as k.bytes.items) (map shown m.entries)
any-is m k = is_some-lookup (same_name k) m.entries ∙ any-shown m.entries k

module _ (before : List Shown) (bytes n desc d : List ℕ) (named : name UPS_NAME_MAX bytes ≡ Ok n) (described : text 0 DESCRIPTION_MAX desc ≡ Ok d) (room : length before < UPSES_MAX) where
  tested : List ℕ → List ℕ → Result (List Shown) FaultKind
  tested n d =
      if nat_le UPSES_MAX (length before) then Err PastLimit
      else if list_any (is_shown_as n) before then Err Repeated
      else if not (list_all is_printing d) then Err Unreadable
      else Ok (before ++ record { name = n; driver = codes "dummy-ups"; port = []; description = d } ∷ [])

  with_ups-tested : with_ups before bytes desc ≡ tested n d
  unfolding tested
  with_ups-tested = ap (λ r. r >>= (λ n. text 0 DESCRIPTION_MAX desc >>= (λ d. tested n d))) named ∙ ap (λ r. r >>= (λ d. tested n d)) described

  pub with_ups-repeated : list_any (is_shown_as n) before ≡ true → with_ups before bytes desc ≡ Err Repeated
  unfolding tested
  with_ups-repeated there = with_ups-tested ∙ rw (lt-leb UPSES_MAX (length before) room, there) refl

  pub with_ups-unreadable : list_any (is_shown_as n) before ≡ false → list_all is_printing d ≡ false → with_ups before bytes desc ≡ Err Unreadable
  unfolding tested
  with_ups-unreadable new bad = with_ups-tested ∙ rw (lt-leb UPSES_MAX (length before) room, new, bad) refl

  pub with_ups-ok : list_any (is_shown_as n) before ≡ false → list_all is_printing d ≡ true
      → with_ups before bytes desc ≡ Ok (before ++ record { name = n; driver = codes "dummy-ups"; port = []; description = d } ∷ [])
  unfolding tested
  with_ups-ok new good = with_ups-tested ∙ rw (lt-leb UPSES_MAX (length before) room, new, good) refl

-- If a text is read as it is, what is made of the text is made of its bytes.
pub reads-made : (make : List ℕ → List Shown) (reading : Result (List Shown) FaultKind) (d : List ℕ) (r : Result (Text 0 DESCRIPTION_MAX) FaultKind)
    → Reads (λ t. t.bytes.items) r (Ok d) → reading ≡ Ok (make d) → Reads (λ t. make t.bytes.items) r reading
reads-made make reading d (Ok t) same is = is ∙ ap (λ e. Ok (make e)) (Ok-equal d t.bytes.items same)
reads-made make reading d (Err e) same is = absurd (cc)

pub on-ok : {X E P : Type 0} (r : Result X E) → P → OnOk r P
on-ok (Ok x) p = p
on-ok (Err e) p = tt

pub fails-with : {Y : Type 0} (e : FaultKind) (r : Result Y FaultKind) → r ≡ Err e → Fails e r
fails-with kinds.Memory r h = tt
fails-with _ r h = h
