use Rattle.std.proofs.Common.{sym, ap, ◌∙◌}
use Rattle.std.specs.Option.{option_map}
use Rattle.nut_server.specs.Configured.{user_of}
use Rattle.nut_server.proofs.FromFiles.{found_user, lent_user}
use Rattle.nut_server.proofs.config.Config.find_user.Goals as goal

pub returns : goal.returns
returns c = rw (← c.self.view_is) (
    let name = c.args.name.now in
    lent_user name c.find.result ∙ ap (option_map (user_of name)) c.find.ensures ∙ sym (found_user name c.self.inside.users.users.by_name.entries))
