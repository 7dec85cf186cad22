-- However bytes are cut into pieces, they lead to the same content.
use Rattle.std.proofs.Common.{arith}
use Rattle.std.proofs.Common.{◌≡◌, ℕ, List, [], ◌∷◌, ◌++◌, refl, append_assoc, append-nil}
use Rattle.std.proofs.lemmas.Bool.{cases_Bool, eq-eqb}
use Rattle.nut_words.specs.Lines.{LineText}
use Rattle.nut_server_spec.specs.Configuration.{Configuration}
use Rattle.nut_server_spec.specs.Event.{Event, Bytes, DriverBytes, Step, Said, Reported, input, taken, driver_input, steps, with_lines, with_reports}
use Rattle.nut_server_spec.specs.Content.{content}
use Rattle.nut_server_spec.specs.laws.Laws.{CutsDoNotMatter, DriverCutsDoNotMatter}
use Rattle.nut_server_spec.proofs.LineLaws.{brought_none, brought-append}
use Rattle.nut_server_spec.proofs.Law.{content_from, rests_of, takes_of, reports_of}

-- If two histories have the same steps, inputs and amounts taken, they have the same content.
pub same-content : (first : Configuration) (h g : List Event) → steps h ≡ steps g → ((d : ℕ) → input d h ≡ input d g) → ((d : ℕ) → taken d h ≡ taken d g)
    → ((u : ℕ) → driver_input u h ≡ driver_input u g) → content first h ≡ content first g
same-content first h g s i t r = grind (arith, content_from, rests_of, takes_of, reports_of)

pub with_lines-append : (c : ℕ) (xs ys : List LineText) (s : List Step) → with_lines c (xs ++ ys) s ≡ with_lines c ys (with_lines c xs s)
with_lines-append c [] ys s = refl
with_lines-append c (x ∷ xs) ys s = with_lines-append c xs ys (Said c x ∷ s)

pub with_reports-append : (u : ℕ) (xs ys : List LineText) (s : List Step) → with_reports u (xs ++ ys) s ≡ with_reports u ys (with_reports u xs s)
with_reports-append u [] ys s = refl
with_reports-append u (x ∷ xs) ys s = with_reports-append u xs ys (Reported u x ∷ s)

-- for the bytes of a connection
pub cut-law : CutsDoNotMatter
cut-law first h c x y = grind (arith, same-content, brought-append, with_lines-append, eq-eqb, cases_Bool, append_assoc)

pub law-no_bytes : (first : Configuration) (h : List Event) (c : ℕ) → content first (Bytes c [] ∷ h) ≡ content first h
law-no_bytes first h c = grind (arith, same-content, brought_none, cases_Bool, append-nil)

-- for the bytes of a driver
pub driver_cut-law : DriverCutsDoNotMatter
driver_cut-law first h u x y = grind (arith, same-content, brought-append, with_reports-append, eq-eqb, cases_Bool, append_assoc)

pub law-no_report : (first : Configuration) (h : List Event) (u : ℕ) → content first (DriverBytes u [] ∷ h) ≡ content first h
law-no_report first h u = grind (arith, same-content, brought_none, cases_Bool, append-nil)
