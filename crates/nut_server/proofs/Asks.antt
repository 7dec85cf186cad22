-- The requests to a driver that never vary.
use Rattle.std.proofs.Common.{◌≡◌, refl}
use Rattle.std.specs.Prelude.{codes}
use Rattle.nut_proto.specs.declared.driver_ask.DriverAsk.TheVariants.{Ping, DumpAll}
use Rattle.nut_proto.specs.Lines.{line}
use Rattle.nut_proto.specs.DriverAsks.{ask_line}

pub dump_all_is : ask_line DumpAll ≡ codes "DUMPALL\n"
unfolding ask_line line
dump_all_is = refl

pub ping_is : ask_line Ping ≡ codes "PING\n"
unfolding ask_line line
ping_is = refl
