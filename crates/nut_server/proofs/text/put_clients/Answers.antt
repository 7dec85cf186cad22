use Rattle.std.proofs.Common.{sym, ◌∙◌, ap}
use Rattle.nut_server.specs.inside.Rows.{client_text}
use Rattle.nut_server.proofs.RowTexts.{row_behind, client_shown, client_hidden}
use Rattle.nut_server.proofs.text.put_clients.Goals.{then-is_logged_in+in_ok-put_client, else-is_logged_in}
use Rattle.nut_server.proofs.text.put_clients.Goals as goal

pub loop-index-preserved : goal.loop-index-preserved
loop-index-preserved c =
    let ups = c.args.ups.now in
    let k = c.at-client.result.now in
    elim c.if-is_logged_in.branch [
      | then-is_logged_in+in_ok-put_client w ↦
          row_behind (client_text ups c.args.u) c.args.connections.now c.loop-index.index k _ _ _ c.at-client.ensures c.loop-index.invariant
          (rw (client_shown ups c.args.u k (sym c.is_logged_in.ensures ∙ w.if-is_logged_in.true)) (ap (λ o. o.items) w.out-is ∙ w.in_ok-put_client.ensures))
      | else-is_logged_in w ↦
          row_behind (client_text ups c.args.u) c.args.connections.now c.loop-index.index k _ _ _ c.at-client.ensures c.loop-index.invariant
          (ap (λ o. o.items) w.out-is ∙ client_hidden ups c.args.u k _ (sym c.is_logged_in.ensures ∙ w.if-is_logged_in.false))
    ]
