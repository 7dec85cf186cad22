-- At which steps memory may be lacking.
use Rattle.std.proofs.Common.{◌≡◌, ◌<◌, ◌++◌, ℕ, Bool, true, false, inl, inr, List, [], ◌∷◌, length, map, Option, Some, None, is_none, Result, Ok, Err, OnErr, sym, ◌∙◌, ap, subst, arith}
use Rattle.std.specs.Prelude.{if◌then◌else◌}
use Rattle.nut_server_spec.specs.Event as arrivals
use Rattle.nut_server_spec.specs.Content as server
use Rattle.nut_server_spec.specs.Acceptance as server_tests
use Rattle.nut_monitor_spec.specs.declared.Notice.{Notice}
use Rattle.nut_monitor_spec.specs.declared.Phase.{Phase}
use Rattle.nut_monitor_spec.specs.Event as events
use Rattle.nut_monitor_spec.specs.Content as knowledge
use Rattle.nut_monitor_spec.specs.Content.{phase_of}
use Rattle.nut_monitor_spec.specs.Acceptance as monitor_tests
use Rattle.nut_monitor_spec.specs.Outcome.{MayLack}
use Rattle.nut_monitor_spec.specs.machine.Machine.{advance}
use Rattle.nut_fleet.specs.World.{Skip, Inform, moved, Rest}
use Rattle.nut_fleet.specs.Log.{News, Noticed, Moved, turned}
use Rattle.nut_fleet.specs.machine.Going.{heard_news}
use Rattle.nut_play.specs.machine.Next.{inform_by, told_news}
use Rattle.nut_play.specs.machine.Lacking.{MonitorLacks}

pub on-any-err : {T E : Type 0} (P : Type 0) (r : Result T E) → P → OnErr r P
on-any-err P (Ok x) p = tt
on-any-err P (Err e) p = p

pub on-err : {T E : Type 0} (P Q : Type 0) (r : Result T E) → (P → Q) → OnErr r P → OnErr r Q
on-err P Q (Ok x) f p = p
on-err P Q (Err e) f p = f p

-- ---- what a monitor is told

told-front : (m : ℕ) (notices : List Notice) (more : List News) → 0 < length notices → 0 < length (map (Noticed m) notices ++ more)
told-front m [] more lt = absurd (omega arith)
told-front m (notice ∷ notices) more lt = omega arith

told-end : (xs : List News) (y : News) → 0 < length (xs ++ y ∷ [])
told-end [] y = omega arith
told-end (x ∷ xs) y = omega arith

module _ (m : ℕ) (s : knowledge.Content) (e : events.Event) (ok : monitor_tests.refusal s e ≡ None) where
  informs : inform_by m s e ≡ Inform m e
  informs = ap (λ o. if is_none o then Inform m e else Skip) ok

  heard-lacks : 0 < length (heard_news m s e) → MonitorLacks m s (inform_by m s e)
  heard-lacks told = subst (MonitorLacks m s) (sym informs) (inr told)

  pub notices-lack : 0 < length (advance s e).notices → MonitorLacks m s (inform_by m s e)
  notices-lack some = heard-lacks (told-front m (advance s e).notices (turned m (phase_of s) (phase_of (advance s e))) some)

  pub phase-lacks : (before later : Phase) → before ≡ phase_of s → later ≡ phase_of (advance s e) → turned m before later ≡ Moved m later ∷ [] →
      MonitorLacks m s (inform_by m s e)
  phase-lacks before later was is moved =
      heard-lacks
      (subst (λ x. 0 < length (map (Noticed m) (advance s e).notices ++ x)) (sym moved ∙ ap (λ p. turned m p later) was ∙ ap (turned m (phase_of s)) is)
      (told-end (map (Noticed m) (advance s e).notices) (Moved m later)))

-- A link that is made takes no memory, apart from the log.
pub linked-lacks : (m : ℕ) (s : knowledge.Content) (i : ℕ) → MonitorLacks m s (inform_by m s (events.Linked i)) →
    0 < length (told_news (inform_by m s (events.Linked i)) s)
linked-lacks m s i = by (is_none (monitor_tests.refusal s (events.Linked i)))
  where
    none : (link : Option ℕ) (k : ℕ) → MayLack s link k (events.Linked i) → ⊥
    none None k may = may
    none (Some j) k may = may

    by : (b : Bool) → MonitorLacks m s (if b then Inform m (events.Linked i) else Skip) → 0 < length (told_news (if b then Inform m (events.Linked i) else Skip) s)
    by true (inl core) = absurd (none core.1 core.2 core.3)
    by false (inl core) = absurd core
    by _ (inr told) = told
