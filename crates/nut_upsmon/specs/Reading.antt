-- What upsmon read of its folder.
use Rattle.std.specs.Prelude.{ℕ, List, codes, Option}
use Rattle.std.specs.Path.{path_join}
use Rattle.nut_conf.specs.Upsmon.{UpsmonHolds, upsmon_reading}
use Rattle.nut_conf.specs.declared.upsmon.MonConfig.{MonConfig}
use Rattle.nut_program.specs.Reading.{WasRead}

-- a folder, and the files that were read, the newest first, as `telling` has them
pub record Readings : Type 0 where
  pub folder : List ℕ
  pub files : Option (List (List ℕ × Option (List ℕ)))

-- upsmon.conf in this folder was read last, and this is the configuration that its bytes mean.
abbrev pub WasReadLast : Readings → MonConfig → Type 0
WasReadLast r config = (before : Option (List (List ℕ × Option (List ℕ))))
    × WasRead upsmon_reading UpsmonHolds (path_join r.folder (codes "upsmon.conf")) before config r.files
