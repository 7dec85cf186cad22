-- The log of what a monitor tells.
use Rattle.std.proofs.Common.{◌≡◌, ◌++◌, ℕ, List, [], ◌∷◌, map, None, is_none, sym, ◌∙◌, ap}
use Rattle.std.specs.Prelude.{if◌then◌else◌}
use Rattle.std.proofs.lemmas.List.{map-append, append_assoc}
use Rattle.nut_monitor_spec.specs.declared.Phase.{Phase}
use Rattle.nut_monitor_spec.specs.Event.{Event}
use Rattle.nut_monitor_spec.specs.Content.{Content, phase_of}
use Rattle.nut_monitor_spec.specs.Acceptance.{refusal}
use Rattle.nut_monitor_spec.specs.machine.Machine.{advance}
use Rattle.nut_fleet.specs.World.{Inform, Skip}
use Rattle.nut_fleet.specs.Log.{News, Logged, logged, turned, Noticed, Moved}
use Rattle.nut_play.specs.machine.Next.{inform_by, told_news}

logged-append : (k : ℕ) (xs ys : List News) → logged k (xs ++ ys) ≡ logged k xs ++ logged k ys
logged-append k xs ys = map-append (λ n. let l : Logged = record { step = k; news = n } in l) xs ys

pub turned-log : (m k : ℕ) (s : Content) (e : Event) (before later : Phase) (first then_log last : List Logged) → refusal s e ≡ None →
    last ≡ then_log ++ logged k (Moved m later ∷ []) → then_log ≡ first ++ logged k (map (Noticed m) (advance s e).notices) →
    before ≡ phase_of s → later ≡ phase_of (advance s e) → turned m before later ≡ Moved m later ∷ [] →
    last ≡ first ++ logged k (told_news (inform_by m s e) s)
turned-log m k s e before later first then_log last ok one two was is moved =
    one ∙ ap (λ x. x ++ logged k (Moved m later ∷ [])) two
    ∙ append_assoc first (logged k (map (Noticed m) (advance s e).notices)) (logged k (Moved m later ∷ []))
    ∙ ap (λ x. first ++ x)
    (sym (logged-append k (map (Noticed m) (advance s e).notices) (Moved m later ∷ []))
    ∙ ap (λ x. logged k (map (Noticed m) (advance s e).notices ++ x)) (sym moved ∙ ap (λ p. turned m p later) was ∙ ap (turned m (phase_of s)) is)
    ∙ sym (ap (λ b. logged k (told_news (if b then Inform m e else Skip) s)) (ap is_none ok)))
