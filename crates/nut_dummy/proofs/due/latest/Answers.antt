use Rattle.std.proofs.Common.{◌≡◌, ℕ, ◌+◌, ◌<◌, ◌∷◌, ◌++◌, [], List, take, Some, Option, sym, ap, ◌∙◌, subst, arith, take_all}
use Rattle.std.specs.Prelude.{option_map}
use Rattle.std.proofs.lemmas.List.{take_more}
use Rattle.nut_dummy.specs.Script.{Step}
use Rattle.nut_dummy.proofs.DueLemmas.{Known, known_none, known_new, known_old, latest_known, no_round}
use Rattle.nut_dummy.proofs.due.latest.Goals as goal
use Rattle.nut_dummy.proofs.due.latest.Goals.{in-Some+then-best_round-k, in-Some+else-best_round-k, in_default}

pub returns-then-round-eq0 : goal.returns-then-round-eq0
returns-then-round-eq0 c = sym (no_round c.args.round c.args.after c.args.until c.args.steps.now c.if-round-eq0.true)

pub loop-step-preserved : goal.loop-step-preserved
loop-step-preserved c =
    let round = c.args.round in
    let after = c.args.after in
    let until = c.args.until in
    let i = c.loop-step.step-index in
    let steps = take i c.args.steps.now in
    let step = c.step-item.result in
    let inv = c.loop-step.invariant in
    let b = c.loop-step.best_round in
    let best = option_map (λ t. t.now) c.loop-step.best in
    let known : Known round after until steps b best = (inv.best, inv.later, inv.reached, inv.only) in
    let positive : 0 < round = omega (arith, c.if-round-eq0.false) in
    let more : take (i + 1) c.args.steps.now ≡ steps ++ step ∷ [] = take_more c.args.steps.now i step (omega (arith, c.loop-step-test.true)) ∙ ap (λ s. steps ++ s ∷ []) (sym c.step-item.is) in
    let at : c.step.inside.at ≡ step.at = ap (λ (s : Step). s.at) c.step.view_is in
    let B = c.match-last_round.best_round in
    let BEST = option_map (λ t. t.now) c.match-last_round.best in
    let now_known : Known round after until (steps ++ step ∷ []) B BEST =
    elim c.match-last_round.branch [
      | in-Some+then-best_round-k w ↦
          let is : BEST ≡ Some step.value = ap (option_map (λ t. t.now)) w.best-is ∙ ap (λ (s : Step). Some s.value) c.step.view_is in
          let said = rw at at w.in-Some.ensures in
          subst (λ (x : Option (List ℕ)). Known round after until (steps ++ step ∷ []) B x) (sym is)
          (subst (λ (x : ℕ). Known round after until (steps ++ step ∷ []) x (Some step.value)) (sym w.best_round-is)
          (known_new round after until steps b best known step w.in-Some.k positive said.0 said.1 said.2 w.if-best_round-k.true))
      | in-Some+else-best_round-k w ↦
          let said = rw at at w.in-Some.ensures in
          subst (λ (x : Option (List ℕ)). Known round after until (steps ++ step ∷ []) B x) (sym (ap (option_map (λ t. t.now)) w.best-is))
          (subst (λ (x : ℕ). Known round after until (steps ++ step ∷ []) x best) (sym w.best_round-is)
          (known_old round after until steps b best known step w.in-Some.k positive said.0 said.1 said.2 w.if-best_round-k.false))
      | in_default w ↦
          let said = rw at at w.in_default.ensures in
          subst (λ (x : Option (List ℕ)). Known round after until (steps ++ step ∷ []) B x) (sym (ap (option_map (λ t. t.now)) w.best-is))
          (subst (λ (x : ℕ). Known round after until (steps ++ step ∷ []) x best) (sym w.best_round-is)
          (known_none round after until steps b best known step said))
    ] in
    let all : Known round after until (take (i + 1) c.args.steps.now) B BEST = subst (λ s. Known round after until s B BEST) (sym more) now_known in
    record { best = all.0; later = all.1; reached = all.2; only = all.3 }

pub returns : goal.returns
returns c =
    let inv = c.loop-step.invariant in
    let all : take c.loop-step.step-index c.args.steps.now ≡ c.args.steps.now = take_all c.loop-step.step-index c.args.steps.now (omega (arith, c.loop-step-test.false)) in
    let known : Known c.args.round c.args.after c.args.until (take c.loop-step.step-index c.args.steps.now) c.loop-step.best_round (option_map (λ t. t.now) c.loop-step.best) = (inv.best, inv.later, inv.reached, inv.only) in
    latest_known c.args.round c.args.after c.args.until c.args.steps.now c.loop-step.best_round (option_map (λ t. t.now) c.loop-step.best) (omega (arith, c.if-round-eq0.false))
    (subst (λ s. Known c.args.round c.args.after c.args.until s c.loop-step.best_round (option_map (λ t. t.now) c.loop-step.best)) all known)
