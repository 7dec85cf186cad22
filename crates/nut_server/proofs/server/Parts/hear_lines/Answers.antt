use Rattle.std.proofs.Common.{◌≡◌, ◌<◌, [], ap, refl, subst, sym, ◌∙◌, rules}
use Rattle.nut_words.specs.Hearing.{StopsAt}
use Rattle.nut_words.specs.Lines.{Text, lines_after}
use Rattle.nut_server_spec.specs.Acceptance.{line_feeds}
use Rattle.nut_server_spec.specs.Content.{Content}
use Rattle.nut_server_spec.specs.machine.MachineOutcome.{RunsOut, content_lost}
use Rattle.nut_server_spec.specs.machine.Machine.{with_rest, with_sessions, without}
use Rattle.nut_server.specs.inside.Lines.{line_heard_by}
use Rattle.nut_server.specs.inside.Place.{Stands}
use Rattle.nut_server.specs.contracts.server.Parts.{the_view}
use Rattle.nut_server.proofs.Arrives.{orderly_without}
use Rattle.nut_server.proofs.Heard.{HearerStopped, client_stopped, cutter_out, has_told, hears_client, server_stopped, stands_updated}
use Rattle.nut_server.proofs.Pieces.{heard_whole}
use Rattle.nut_server.proofs.server.Parts.hear_lines.Goals as goal

pub hear_lines-done-requires-clause-goes_on : goal.hear_lines-done-requires-clause-goes_on
hear_lines-done-requires-clause-goes_on c =
    let s = the_view c.self.inside in
    let there = subst (λ (x : Content). Stands c.args.c x.sessions c.args.at) (sym c.self.view_is) c.requires in
    stands_updated c.args.c (with_rest (Text [])) s.sessions c.take_cutter-cutter.new.self c.args.at (λ k. refl) (c.take_cutter-cutter.ensures.left c.args.c there) there

pub put_cutter-requires-clause-within : goal.put_cutter-requires-clause-within
put_cutter-requires-clause-within c =
    let h = c.hear_lines-done in
    let told = has_told (lines_after c.take_cutter-cutter.result c.args.piece.now) _ h.new.hearer (rw c.in-Ok.is at h.ensures.heard) in
    let same = told.server in
    let view : the_view c.self-2.inside ≡ h.new.hearer.server.now = search rules in
    (subst (λ (x : Content). Stands c.args.c x.sessions c.args.at) (sym view) (told.place (rw c.in-Ok.is at h.ensures.goes_on))).within

pub invariant_of-self-in-Err : goal.invariant_of-self-in-Err
invariant_of-self-in-Err c = orderly_without c.args.c c.self-2.inside c.remove.new.self c.remove.ensures c.self-2.invariant

pub returns-in-Ok-clause-ok : goal.returns-in-Ok-clause-ok
returns-in-Ok-clause-ok c =
    let n = c.args.c in
    let s = the_view c.self.inside in
    let out = c.take_cutter-cutter in
    let first = subst (λ (x : Content). Stands n x.sessions c.args.at) (sym c.self.view_is) c.requires in
    let began = cutter_out n c.args.at s c.args.self.now out.result out.new.self first c.self.view_is out.ensures.taken (out.ensures.left n first) in
    let h = c.hear_lines-done in
    let told = has_told (lines_after out.result c.args.piece.now) _ h.new.hearer (rw c.in-Ok.is at h.ensures.heard) in
    let same = told.server in
    let view : the_view c.self-2.inside ≡ h.new.hearer.server.now = search rules in
    let there = subst (λ (x : Content). Stands n x.sessions c.args.at) (sym view) (told.place (rw c.in-Ok.is at h.ensures.goes_on)) in
    ap (λ sessions. with_sessions sessions (the_view c.self-2.inside)) (c.put_cutter.ensures.items n there)
    ∙ heard_whole (hears_client n) out.ensures.rest.0 c.args.piece.now out.result h.new.cutter (with_sessions out.new.self s) c.args.self.now (the_view c.self-2.inside) out.ensures.rest.1 began.0
    (rw c.in-Ok.is at h.ensures.rest) (view ∙ told.content)

-- where it stopped
stopped : (c : goal.After-remove) → (the_view c.self-2.inside ≡ c.hear_lines-done.new.hearer.server.now) × (c.hear_lines-done.result.0 < line_feeds c.args.piece.now)
    × (with_sessions (without c.args.c c.hear_lines-done.new.hearer.server.now.sessions) c.hear_lines-done.new.hearer.server.now ≡ content_lost c.args.c c.args.piece.now c.hear_lines-done.result.0 c.args.self.now)
    × RunsOut c.args.c c.args.piece.now c.hear_lines-done.result.0 c.args.self.now
stopped c =
    let n = c.args.c in
    let s = the_view c.self.inside in
    let out = c.take_cutter-cutter in
    let first = subst (λ (x : Content). Stands n x.sessions c.args.at) (sym c.self.view_is) c.requires in
    let began = cutter_out n c.args.at s c.args.self.now out.result out.new.self first c.self.view_is out.ensures.taken (out.ensures.left n first) in
    let h = c.hear_lines-done in
    let at : StopsAt line_heard_by (HearerStopped h.new.hearer) (lines_after out.result c.args.piece.now) _ h.result.0 = rw c.in-Err.is at h.ensures.stops in
    let same = (has_told at.earlier _ h.new.hearer at.stops.1.0).server in
    let view : the_view c.self-2.inside ≡ h.new.hearer.server.now = search rules in
    let lost = client_stopped n out.ensures.rest.0 c.args.piece.now out.result (with_sessions out.new.self s) c.args.self.now h.new.hearer.server.now h.result.0 out.ensures.rest.1 began.0 began.1 (server_stopped _ h.new.hearer _ h.result.0 at) in
    (view, lost.0, lost.1, lost.2)

pub returns-in-Err-clause-lost : goal.returns-in-Err-clause-lost
returns-in-Err-clause-lost c =
    ap (λ sessions. with_sessions sessions (the_view c.self-2.inside)) c.remove.ensures
    ∙ ap (λ (x : Content). with_sessions (without c.args.c x.sessions) x) (stopped c).0
    ∙ (stopped c).2

pub returns-in-Err-clause-few : goal.returns-in-Err-clause-few
returns-in-Err-clause-few c = (stopped c).1

pub returns-in-Err-clause-memory : goal.returns-in-Err-clause-memory
returns-in-Err-clause-memory c = (stopped c).3
