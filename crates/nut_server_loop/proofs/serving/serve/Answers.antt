use Rattle.nut_server_loop.proofs.Starts.{none_withheld, nobody_leaves_yet, offered_at_start}
use Rattle.nut_server_loop.proofs.serving.serve.Goals as goal

pub go_on-requires : goal.go_on-requires
go_on-requires g c = λ _ within. (
  within.0,
  (
    within.1,
    (
      c.requires.few,
      (
        offered_at_start _ _ _ c.requires.fresh c.requires.blank,
        (g.met.W.World.reached_self _, (none_withheld _ _ _ c.requires.fresh, nobody_leaves_yet _ _ c.requires.fresh)),
      ),
    ),
  ),
)
