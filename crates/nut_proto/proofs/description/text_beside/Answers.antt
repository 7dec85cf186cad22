use Rattle.std.proofs.Common.{◌≡◌, List, ℕ, Bor, [], ◌∷◌, map, inl, inr, refl, ap, ◌∙◌}
use Rattle.std.specs.Prelude.{find}
use Rattle.std.specs.Option.{option_map}
use Rattle.std.specs.Str.{bytes_eq}
use Rattle.std.proofs.lemmas.Bool.{cases_Bool}
use Rattle.nut_proto.specs.Descriptions.{beside}
use Rattle.nut_proto.proofs.description.text_beside.Goals as goal

abbrev Row : Type 0
Row = Bor (List ℕ) × Bor (List ℕ)

-- the first row with the name has the text that is looked up
found : (name : List ℕ) (rows : List Row) → option_map (λ row. row.1.now) (find (λ row. bytes_eq name row.0.now) rows) ≡ beside name (map (λ row. (row.0.now, row.1.now)) rows)
found name [] = refl
found name (row ∷ rows) = elim (cases_Bool (bytes_eq name row.0.now)) [ inl e ↦ rw e refl | inr e ↦ rw e (found name rows) ]

pub returns-in-Some : goal.returns-in-Some
returns-in-Some c = ap (option_map (λ (row : Row). row.1.now)) c.in-Some.ensures ∙ found c.args.name.now c.args.table.now

pub returns-in-None : goal.returns-in-None
returns-in-None c = ap (option_map (λ (row : Row). row.1.now)) c.in-None.ensures ∙ found c.args.name.now c.args.table.now
