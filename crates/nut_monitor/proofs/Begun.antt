-- The lines of a monitor that was told nothing are those of the empty history.
use Rattle.std.proofs.Common.{◌≡◌, ℕ, suc, List, [], ◌∷◌, map, refl, ap, ◌∙◌}
use Rattle.nut_monitor_spec.specs.Configuration.{Line, Configuration}
use Rattle.nut_monitor_spec.specs.Content.{Watch, content, watch, for_each_line}
use Rattle.nut_monitor.specs.inside.Inside.{unwatched}

all_unwatched : (f : ℕ → Watch) → ((i : ℕ) → unwatched ≡ f i) → (lines : List Line) → map (λ line. unwatched) lines ≡ for_each_line f lines
all_unwatched f each [] = refl
all_unwatched f each (line ∷ lines) =
    ap (λ w. w ∷ map (λ other. unwatched) lines) (each 0) ∙ ap (λ ws. f 0 ∷ ws) (all_unwatched (λ i. f (suc i)) (λ i. each (suc i)) lines)

pub begins : (configuration : Configuration) → map (λ line. unwatched) configuration.lines ≡ (content configuration []).watches
begins configuration = all_unwatched (watch configuration []) (λ i. refl) configuration.lines
