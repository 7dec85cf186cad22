-- What a world over memory did, if all of it was watched.
use Rattle.std.proofs.Common.{◌≡◌, ◌⊎◌, true, List, [], ◌++◌, map, Result, Ok, Err, None, IfOk, OnOk, sym, ◌∙◌, ap, append-nil}
use Rattle.nut_monitor_spec.specs.declared.Phase.{Phase}
use Rattle.nut_monitor_spec.specs.Configuration.{Configuration}
use Rattle.nut_monitor_spec.specs.Content.{Content}
use Rattle.nut_monitor_spec.specs.Decision.{is_halted}
use Rattle.nut_monitor_loop.specs.Memory.{MemoryState, event_of, given_in, GoesOn}
use Rattle.nut_monitor_loop.specs.Record.{Entry}
use Rattle.nut_monitor_loop.specs.Watched.{entries_of, handed, Watched}
use Rattle.nut_monitor_loop.specs.WatchedAll.{WatchedAll}

pub all_watched : {E : Type 0} (r : Result Phase E) (first : Configuration) (old new : MemoryState) (s : Content) → old.log ≡ []
    → OnOk r (Watched first (GoesOn old new) s None) → OnOk r (s.notices ≡ []) → IfOk r (λ phase. (is_halted phase ≡ true) ⊎ (new.left ≡ []))
    → IfOk r (λ phase. WatchedAll first old new s phase)
all_watched (Err _) first old new s blank watched told ends = tt
all_watched (Ok phase) first old new s blank watched told ends =
    let entries : List Entry = entries_of watched.steps in
    let same : new.log ≡ entries = watched.did.grown ∙ ap (λ l. entries ++ l) blank ∙ append-nil entries in
    record {
      steps = watched.steps;
      tells = same;
      told = watched.told;
      holds = watched.holds;
      sent_is = watched.sent_is;
      notices_are = ap handed same ∙ sym (append-nil (handed entries)) ∙ ap (λ ns. handed entries ++ ns) (sym told) ∙ watched.notices_are;
      each = watched.did.each ∙ ap (λ l. given_in l ++ map event_of new.left) (sym same);
      ends = ends;
    }
