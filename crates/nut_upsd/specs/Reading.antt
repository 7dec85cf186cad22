-- What upsd reads of a folder.
use Rattle.std.specs.Prelude.{◌≡◌, ℕ, List, codes, Option, None, IfSome, IfNone}
use Rattle.std.specs.Path.{path_join}
use Rattle.nut_conf.specs.Descriptions.{DescriptionsHold, descriptions_fault}
use Rattle.nut_conf.specs.Files.{read_file}
use Rattle.nut_conf.specs.Ups.{UpsConfHolds, ups_fault}
use Rattle.nut_conf.specs.Upsd.{UpsdHolds, upsd_fault}
use Rattle.nut_conf.specs.Users.{UsersConfHolds, users_fault}
use Rattle.nut_program.specs.Reading.{WasRead, telling}
use Rattle.nut_server.specs.Configured.{configuration_of}
use Rattle.nut_server_spec.specs.Configuration.{Configuration}
use Rattle.nut_upsd.specs.declared.configuration.Settings.{Settings}

-- Each file of a folder was read once, in this order, and the settings are what their bytes mean; cmdvartab may not be there.
abbrev pub WereRead : List ℕ → Option (List (List ℕ × Option (List ℕ))) → Settings → Option (List (List ℕ × Option (List ℕ))) → Type 0
WereRead folder before s after = (a b c : Option (List (List ℕ × Option (List ℕ))))
    × WasRead (read_file ups_fault) UpsConfHolds (path_join folder (codes "ups.conf")) before s.ups a
    × WasRead (read_file users_fault) UsersConfHolds (path_join folder (codes "upsd.users")) a s.users b
    × WasRead (read_file upsd_fault) UpsdHolds (path_join folder (codes "upsd.conf")) b s.upsd c
    × IfSome s.descriptions (λ d. WasRead (read_file descriptions_fault) DescriptionsHold (path_join folder (codes "cmdvartab")) c d after)
    × IfNone s.descriptions (after ≡ telling (path_join folder (codes "cmdvartab")) None c)

-- Each file of a folder was read once, and this is the configuration that their bytes mean.
abbrev pub IsRead : List ℕ → Option (List (List ℕ × Option (List ℕ))) → Configuration → Option (List (List ℕ × Option (List ℕ))) → Type 0
IsRead folder before c after = (s : Settings) × WereRead folder before s after × (c ≡ configuration_of s.ups s.users s.upsd s.descriptions)
