-- What a world over memory and its machine become by calls after calls.
use Rattle.std.specs.Prelude.{◌≡◌, ◌++◌, List, [], Option}
use Rattle.std.proofs.Common.{◌∙◌, append-nil, sym, subst}
use Rattle.nut_conf.specs.declared.upsmon.MonConfig.{MonConfig}
use Rattle.nut_monitor_loop.specs.Record.{Entry}
use Rattle.nut_monitor_loop.specs.Memory.{GoesOn, MemoryState}
use Rattle.nut_monitor_loop.specs.Watched.{handed}
use Rattle.nut_monitor_loop.specs.inside.MemoryLaws.{goes_on_twice}
use Rattle.nut_monitor_spec.specs.declared.Notice.{Notice}
use Rattle.nut_monitor_sockets.specs.Handing.{StandFor, all}
use Rattle.nut_monitor_sockets.specs.inside.HandingLaws.{handed-append}
use Rattle.nut_upsmon.specs.declared.beginning.Beginning.{Beginning}
use Rattle.nut_upsmon.specs.Acts.{Act}
use Rattle.nut_upsmon.specs.inside.Telling.{Tells, tells_on}

-- notices that are all handed on stand for themselves, if none is held back
pub all_handed : (given : List Notice) → StandFor (given ++ []) given
all_handed given = subst (λ handed. StandFor handed given) (sym (append-nil given)) all

pub same_twice : {X : Type 0} (a b c : X) → b ≡ a → c ≡ b → c ≡ a
same_twice a b c first second = second ∙ first

pub remembers_on : (config : MonConfig) (a b c : MemoryState) (acts acts' acts'' : Option (List Act)) (n n' n'' : Option Beginning) (xs ys : List Entry)
    → GoesOn a b xs × Tells config acts n acts' n' (handed xs) → GoesOn b c ys × Tells config acts' n' acts'' n'' (handed ys)
    → GoesOn a c (ys ++ xs) × Tells config acts n acts'' n'' (handed (ys ++ xs))
remembers_on config a b c acts acts' acts'' n n' n'' xs ys first second = (
  goes_on_twice a b c xs ys first.0 second.0,
  subst (λ given. Tells config acts n acts'' n'' given) (sym (handed-append xs ys))
      (tells_on config acts acts' acts'' n n' n'' (handed xs) (handed ys) first.1 second.1),
)
