use Rattle.std.proofs.Common.{List, [], ◌∷◌, ◌++◌, map, sym, append-nil}
use Rattle.nut_monitor_spec.specs.declared.Notice.{Notice}
use Rattle.nut_monitor_sockets.specs.Handing.{StandFor, all, lost}
use Rattle.nut_monitor_sockets.proofs.Held.{told_before}
use Rattle.nut_monitor_sockets.proofs.held_losses.HeldLosses.tell.Goals.{in-Shutdown, in_default}
use Rattle.nut_monitor_sockets.proofs.held_losses.HeldLosses.tell.Goals as goal

pub returns : goal.returns
returns g c =
    let config = c.args.monitor.now.config in
    let herald = c.args.herald.now in
    let notice = c.args.notice in
    let lines = c.args.self.now.lines.items in
    let free = c.holds.ensures.told c.if-holds.false in
    let before : (told : List Notice) × g.H.Herald.told config herald c.match-notice.herald told
    × StandFor ((told ++ notice ∷ []) ++ map lost c.match-notice.self.lines.items) (map lost lines ++ notice ∷ []) =
    elim c.match-notice.branch [
      | in-Shutdown w ↦ (
        map lost lines,
        rw (w.herald-is, sym free.0) w.tell_all.ensures.told,
        rw (w.self-is, w.tell_all.ensures.none, append-nil (map lost lines ++ notice ∷ [])) all,
      )
      | in_default w ↦ (
        [],
        rw (w.herald-is) (g.met.H.Herald.told_self config herald),
        rw (w.self-is, free.0) (told_before notice lines w.in_default.not-Shutdown free.1),
      )
    ]
    in
    (before.0 ++ notice ∷ [], g.met.H.Herald.told_on config herald c.match-notice.herald c.announce.new.self before.0 (notice ∷ []) before.1 c.announce.ensures, before.2)
