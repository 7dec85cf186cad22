use Rattle.std.proofs.Common.{◌≡◌, subst}
use Rattle.nut_upsd.specs.Reading.{IsRead}
use Rattle.nut_upsd.proofs.folder.FolderReloader.look.Goals.{in-Some, in_default}
use Rattle.nut_upsd.proofs.folder.FolderReloader.look.Goals as goal

pub returns-in-Ok : goal.returns-in-Ok
returns-in-Ok g c =
    elim c.match-self.branch [
      | in-Some w ↦
          subst (λ s. (c.read_again.new.self.folder ≡ s.folder) × (c.read_again.new.self.endpoints ≡ s.endpoints)
          × IsRead s.folder.now (g.F.ConfFiles.told s.files.now) c.in-Ok.config.value (g.F.ConfFiles.told c.read_again.new.self.files.now)) w.self-is
          (c.in-Ok.ensures.stays.0, c.in-Ok.ensures.stays.1, c.in-Ok.ensures.read)
      | in_default w ↦
          subst (λ s. (c.read_again.new.self.folder ≡ s.folder) × (c.read_again.new.self.endpoints ≡ s.endpoints)
          × IsRead s.folder.now (g.F.ConfFiles.told s.files.now) c.in-Ok.config.value (g.F.ConfFiles.told c.read_again.new.self.files.now)) w.self-is
          (c.in-Ok.ensures.stays.0, c.in-Ok.ensures.stays.1, c.in-Ok.ensures.read)
    ]
