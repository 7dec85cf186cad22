use Rattle.std.proofs.Common.{◌≡◌, [], map, drop}
use Rattle.nut_conf.specs.Ups.{shown_in}
use Rattle.nut_upsd.specs.UpsOption.{ups_options}
use Rattle.nut_upsd.proofs.ups_option.read_ups_options.Given as goal

abbrev pub invariant-loop-value : goal.invariant-loop-value
invariant-loop-value l = ups_options [] (map (λ v. v.now) l.values) ≡ ups_options (shown_in l.ups) (map (λ v. v.now) (drop l.value-index l.values))
