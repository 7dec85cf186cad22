use Rattle.std.proofs.Common.{◌++◌, ◌∷◌, [], map, ap, sym, subst, ◌∙◌, if◌then◌else◌}
use Rattle.nut_conf.specs.declared.notice.Notice.TheVariants.{Commbad, Commok}
use Rattle.nut_monitor_sockets.specs.Handing.{StandFor, back, lost}
use Rattle.nut_monitor_sockets.proofs.Held.{absent, held_more, is_notice, of_notice, released}
use Rattle.nut_monitor_sockets.proofs.held_losses.HeldLosses.holds.Goals as goal

pub returns-in-Commbad-clause-held : goal.returns-in-Commbad-clause-held
returns-in-Commbad-clause-held c = λ held.
    let lines = c.args.self.now.lines.items in
    held_more c.args.notice c.in-Some.line lines c.hold.new.self.lines.items (is_notice c.args.notice Commbad c.in-Some.line c.in-Commbad.is c.in-Some.is)
    (c.hold.ensures.kept ∙ ap (λ b. if b then lines ++ c.in-Some.line ∷ [] else lines) held)

pub returns-in-Some-place_of-clause-held : goal.returns-in-Some-place_of-clause-held
returns-in-Some-place_of-clause-held c = λ held.
    let lines = c.args.self.now.lines.items in
    let line = c.in-Some.line in
    subst (λ n. StandFor (map lost c.remove.new.self.items) (map lost lines ++ n ∷ [])) (sym (is_notice c.args.notice Commok line c.in-Commok.is c.in-Some.is))
    (subst (λ l. StandFor (map lost l) (map lost lines ++ back line ∷ [])) (sym c.remove.ensures.items)
    (released line c.in-Some-place_of.place lines (sym c.in-Some-place_of.is ∙ c.place_of.ensures.place)))

pub returns-in-None-clause-told : goal.returns-in-None-clause-told
returns-in-None-clause-told c = λ told. (
  λ i. c.args.self.now.lines.items,
  of_notice c.args.notice c.in-Some.line c.args.self.now.lines.items c.in-Some.is
      (absent c.in-Some.line c.args.self.now.lines.items (sym c.in-None.is ∙ c.place_of.ensures.place)),
)
