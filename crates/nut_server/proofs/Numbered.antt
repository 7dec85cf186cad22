-- A UPS that has a number has a place.
use Rattle.std.proofs.Common.{◌≡◌, ℕ, ◌<◌, true, eqb, List, [], ◌∷◌, length, arith, inl, inr}
use Rattle.std.specs.List.{AllByRecursion}
use Rattle.std.proofs.lemmas.Bool.{cases_Bool, eqb-true}
use Rattle.std.proofs.lemmas.List.{length-map}
use Rattle.nut_server_spec.specs.Content.{Content, Supply, numbering_of}
use Rattle.nut_server_spec.specs.Numbering.{is_taken}
use Rattle.nut_server_spec.specs.machine.Machine.{scene_of}
use Rattle.nut_server_spec.proofs.Numbering.{number_below}
use Rattle.nut_server.specs.inside.Decisions.{AreThere}

-- a number that is taken is the number of a place
pub taken_placed : (m u : ℕ) (ns : List ℕ) → AllByRecursion (λ n. n < m) ns → is_taken u ns ≡ true → u < m
taken_placed m u [] all taken = absurd (cc)
taken_placed m u (n ∷ ns) all taken =
    elim (cases_Bool (eqb n u)) [
      | inl e ↦ omega (arith, eqb-true n u e, all.0)
      | inr e ↦ taken_placed m u ns all.1 (rw e at taken)
    ]

-- each UPS that a request names has its place
pub are_there : (s : Content) → AllByRecursion (λ n. n < length s.supplies) s.numbers → AreThere (scene_of s)
are_there s placed name u is = omega (arith, number_below (length s.supplies) (numbering_of s) name u placed is, length-map s.supplies (λ (d : Supply). d.device))
