use Rattle.std.proofs.Common.{◌≡◌, ◌+◌, ◌==◌, ◌∷◌, ◌++◌, [], Some, take, true, false, sym, ap, ◌∙◌, arith}
use Rattle.std.proofs.lemmas.List.{take_more}
use Rattle.std.proofs.lemmas.Bool.{eq-eqb, ne_eqb}
use Rattle.nut_dummy.specs.Script.{Step}
use Rattle.nut_dummy.specs.Due.{newest}
use Rattle.nut_dummy.proofs.DueLemmas.{newest_same, newest_new}
use Rattle.nut_dummy.proofs.variable.at_start.Goals as goal
use Rattle.nut_dummy.proofs.variable.at_start.Goals.{then-step-eq0, else-step-eq0}

pub loop-step-preserved : goal.loop-step-preserved
loop-step-preserved c =
    let i = c.loop-step.step-index in
    let steps = take i c.args.steps.now in
    let step = c.step-item.result in
    let test = λ (s : Step). s.at == 0 in
    let more : take (i + 1) c.args.steps.now ≡ steps ++ step ∷ [] = take_more c.args.steps.now i step (omega (arith, c.loop-step-test.true)) ∙ ap (λ s. steps ++ s ∷ []) (sym c.step-item.is) in
    let at : c.step.inside.at ≡ step.at = ap (λ (s : Step). s.at) c.step.view_is in
    elim c.if-step-eq0.branch [
      | then-step-eq0 w ↦
          let passes : test step ≡ true = eq-eqb step.at 0 (sym at ∙ w.if-step-eq0.true) in
          w.found-is ∙ ap Some (w.new.ensures ∙ w.as_bytes.ensures.value ∙ ap (λ (s : Step). s.value) c.step.view_is) ∙ sym (ap (newest test) more ∙ newest_new test steps step passes)
      | else-step-eq0 w ↦
          let fails : test step ≡ false = ne_eqb step.at 0 (λ h. w.if-step-eq0.false (at ∙ h)) in
          w.found-is ∙ c.loop-step.invariant ∙ sym (ap (newest test) more ∙ newest_same test steps step fails)
    ]
