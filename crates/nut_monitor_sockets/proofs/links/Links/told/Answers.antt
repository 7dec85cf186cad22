use Rattle.std.proofs.Common.{◌≡◌, ◌∙◌, ap}
use Rattle.nut_monitor_sockets.specs.declared.links.Links.{Links}
use Rattle.nut_monitor_sockets.proofs.InTurn.{still}
use Rattle.nut_monitor_sockets.proofs.links.Links.told.Goals.{in-Some-Some+then-note_answer, in_default, in_default-via-in-Some+in-None-1, in_default-via-in-None-1, in_default-via-in-Some-Some+else-note_answer}
use Rattle.nut_monitor_sockets.proofs.links.Links.told.Goals as goal

pub returns-then-not-linked : goal.returns-then-not-linked
returns-then-not-linked c =
    let same : c.match-get_mut.self.rounds ≡ c.args.self.now.rounds =
    elim c.match-get_mut.branch [
      | in-Some-Some+then-note_answer w ↦ ap (λ (s : Links). s.rounds) w.self-is
      | in_default w ↦ ap (λ (s : Links). s.rounds) w.self-is ∙ elim w.in_default.branch [
        | in_default-via-in-Some+in-None-1 w' ↦ ap (λ (s : Links). s.rounds) w'.self-is
        | in_default-via-in-None-1 w' ↦ ap (λ (s : Links). s.rounds) w'.self-is
        | in_default-via-in-Some-Some+else-note_answer w' ↦ ap (λ (s : Links). s.rounds) w'.self-is
      ]
    ]
    in
    still c.args.self.now.rounds c.end.new.self.rounds (c.end.ensures.turns ∙ same)

pub returns-else-end_silent : goal.returns-else-end_silent
returns-else-end_silent c =
    let same : c.match-get_mut.self.rounds ≡ c.args.self.now.rounds =
    elim c.match-get_mut.branch [
      | in-Some-Some+then-note_answer w ↦ ap (λ (s : Links). s.rounds) w.self-is
      | in_default w ↦ ap (λ (s : Links). s.rounds) w.self-is ∙ elim w.in_default.branch [
        | in_default-via-in-Some+in-None-1 w' ↦ ap (λ (s : Links). s.rounds) w'.self-is
        | in_default-via-in-None-1 w' ↦ ap (λ (s : Links). s.rounds) w'.self-is
        | in_default-via-in-Some-Some+else-note_answer w' ↦ ap (λ (s : Links). s.rounds) w'.self-is
      ]
    ]
    in
    still c.args.self.now.rounds c.end_silent.new.self.rounds (c.end_silent.ensures.turns ∙ same)
