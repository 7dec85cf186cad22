use Rattle.std.proofs.Common.{◌≡◌, ap, sym, ◌∙◌}
use Rattle.nut_proto.specs.PlainQueries.{request_of, ups_of}
use Rattle.nut_server_spec.specs.Answer.{Line, answer, on_variable, var_row}
use Rattle.nut_server_spec.specs.Command.{Asks}
use Rattle.nut_server_spec.specs.Configuration.{number_of_ups}
use Rattle.nut_server.proofs.PlainAnswers.{from_found, only_text}
use Rattle.nut_server.proofs.plain.write_answer.Goals as goal

pub returns-in-GetVar : goal.returns-in-GetVar
returns-in-GetVar c = λ caller.
    let ups = c.in-GetVar.ups.now in
    let found : c.args.place ≡ number_of_ups ups c.args.scene.now.configuration.upses = c.requires.found ∙ ap (λ q. number_of_ups (ups_of q) c.args.scene.now.configuration.upses) c.in-GetVar.is in
    only_text c.put_value.result c.clear.new.self.items c.put_value.new.out.items _ _ c.clear.ensures.items
    (from_found c.args.scene.now ups c.device_at.result (λ d. on_variable c.in-GetVar.variable.now d (λ v. Line (var_row ups d v))) (c.device_at.ensures ups found)
    ∙ sym (ap (λ q. answer c.args.scene.now caller (Asks (request_of q))) c.in-GetVar.is))
    c.put_value.ensures
