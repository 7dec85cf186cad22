-- How a query advances behind the beginning of its list.
use Rattle.std.proofs.Common.{◌≡◌, ℕ, ◌==◌, true, List, length, Option, Some, None, Result, Ok, Err, if◌then◌else◌, refl, ap, ◌∙◌, inl, inr}
use Rattle.nut_proto.specs.declared.answer.Answer.{Answer}
use Rattle.nut_link.specs.declared.fault.LinkFault.{LinkFault}
use Rattle.nut_link.specs.declared.fault.LinkFault.TheVariants.{OutOfOrder}
use Rattle.nut_link.specs.declared.outcome.Outcome.{Outcome}
use Rattle.nut_link.specs.Asking.{Asked}
use Rattle.nut_link.specs.inside.Parts.{Advances, Gives}
use Rattle.nut_link.specs.Link.{progress_of}
use Rattle.nut_link.specs.Matching.{next, progress}

progress_next : (query : Asked) (rows : List (List (List ℕ))) (answer : Answer) → query.rows ≡ Some rows → (length query.waits == 0) ≡ true → progress_of query answer ≡ next query.expected.kind query.expected.heading rows answer
progress_next query rows answer some none =
    ap (λ b. if b then progress query.expected query.rows answer else Err OutOfOrder) none ∙ ap (λ o. progress query.expected o answer) some

-- What the list gives, the query gives.
pub advances_next : (query : Asked) (rows left : List (List (List ℕ))) (answer : Answer) (result : Result (Option Outcome) LinkFault) → query.rows ≡ Some rows → (length query.waits == 0) ≡ true
    → Gives (next query.expected.kind query.expected.heading rows answer) answer result left → Advances query answer result (record query { rows = Some left })
advances_next query rows left answer (Ok None) some none gives = (left, progress_next query rows answer some none ∙ gives, refl)
advances_next query rows left answer (Ok (Some outcome)) some none gives = progress_next query rows answer some none ∙ gives
advances_next query rows left answer (Err fault) some none gives = elim gives [
  | inl comes ↦ inl (progress_next query rows answer some none ∙ comes)
  | inr lacks ↦ inr lacks
]
