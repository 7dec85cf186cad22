-- What the parts of the loop need and what they leave unchanged.
use Rattle.std.specs.Prelude.{◌≡◌, ◌≢◌, ◌+◌, ◌-◌, ◌^◌, ◌<◌, ℕ, Bool, true, List, length, Option, None, Result, OnOk, OnErr, is_ok, if◌then◌else◌}
use Rattle.nut_conf.specs.declared.upsmon.MonConfig.{MonConfig}
use Rattle.nut_monitor_spec.specs.Content.{Watch, Content}
use Rattle.nut_monitor.specs.Monitors.{MonitorValue}
use Rattle.nut_io.specs.declared.types.Written.{Written}
use Rattle.nut_io.specs.declared.types.Written.TheVariants.{Took, Later, Failed}
use Rattle.nut_monitor_loop.specs.Record.{Entry, waiting_of, IsSettled}
use Rattle.nut_monitor_loop.specs.Watched.{Since, Watched}

-- Before a part of the loop: the monitor's content follows from what the world did, no link has to be closed, and one more
-- fault can be counted.
pub record Ready {W : Type 0} (faults : W → ℕ) (Did : MonConfig → W → W → List Entry → Type 0) (since : Since W) (world : W)
    (monitor : MonitorValue) : Type 0 where
  pub few : faults world < 2 ^ 64 - 1
  pub watched : Watched since.first (Did since.config since.start world) monitor.content None
  pub config : monitor.config ≡ since.config

-- After a part of the loop, which began with the world `before`: the monitor's content follows from what the world did. If the
-- part returned no error, no link has to be closed, and no call of the world returned a fault; else one did.
pub record Goes {W R E : Type 0} (faults : W → ℕ) (Did : MonConfig → W → W → List Entry → Type 0) (since : Since W) (before : W)
    (result : Result R E) (world : W) (monitor : MonitorValue) : Type 0 where
  pub ok : OnOk result (Watched since.first (Did since.config since.start world) monitor.content None)
  pub err : OnErr result ((owed : Option ℕ) × Watched since.first (Did since.config since.start world) monitor.content owed)
  pub counted : faults world ≡ (if is_ok result then faults before else faults before + 1)
  pub config : monitor.config ≡ since.config

-- There are as many links as before, what waits on a link other than i is the same, and the same notices wait.
pub record OnlyAt (i : ℕ) (old new : Content) : Type 0 where
  pub as_many : length new.watches ≡ length old.watches
  pub others : (j : ℕ) → j ≢ i → waiting_of j new.watches ≡ waiting_of j old.watches
  pub notices : new.notices ≡ old.notices

-- links that were late are still late
abbrev pub StaysLate : (ℕ → Bool) → (ℕ → Bool) → Type 0
StaysLate old new = (j : ℕ) → old j ≡ true → new j ≡ true

-- the same links are late
abbrev pub KeepsLate : (ℕ → Bool) → (ℕ → Bool) → Type 0
KeepsLate old new = (j : ℕ) → new j ≡ old j

-- fewer bytes wait on link i if some were taken
abbrev pub Less : Written → ℕ → List Watch → List Watch → Type 0
Less (Took n) i old new = length (waiting_of i new) < length (waiting_of i old)
Less written i old new = Unit {0}

-- a link on which a write was late is settled: it is late
abbrev pub Settles : Written → (ℕ → Bool) → List Watch → ℕ → Type 0
Settles Later late watches i = IsSettled late watches i
Settles written late watches i = Unit {0}

-- no other link changes, and no notice comes, if the write didn't fail
abbrev pub Unbroken : Written → ℕ → Content → Content → Type 0
Unbroken Failed i old new = Unit {0}
Unbroken written i old new = OnlyAt i old new
