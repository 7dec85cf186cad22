-- The power values of a configuration and those of its file.
use Rattle.std.proofs.Common.{◌≡◌, ℕ, ◌+◌, List, [], ◌∷◌, map, nat_lt, cond, Ok, Err, refl, sym, ap, ◌∙◌}
use Rattle.std.specs.Prelude.{sum_by, fold}
use Rattle.std.proofs.lemmas.Bool.{cond_both}
use Rattle.nut_conf.specs.Values.{Words}
use Rattle.nut_conf.specs.Rows.{number_set}
use Rattle.nut_conf.specs.Settings.{Number}
use Rattle.nut_conf.specs.Upsmon.{UpsmonHolds, monitor_setting, power_of, power, number_or, min_supplies, supplied}
use Rattle.nut_conf.specs.declared.fault.FaultKind.TheVariants.{PastLimit}
use Rattle.nut_conf.specs.declared.upsmon.MonConfig.{MonConfig}
use Rattle.nut_conf.specs.declared.monitor.Monitored.{Monitored}
use Rattle.nut_conf.specs.declared.text.NumberOr.{NumberOr}
use Rattle.nut_conf.specs.declared.upsmon.UpsmonDirective.TheVariants as directives

sum-from : (n : ℕ) (ms : List Monitored) → fold (λ a s. a + power_of s) n (map monitor_setting ms) ≡ fold (λ a m. a + m.power.value) n ms
sum-from n [] = refl
sum-from n (m ∷ ms) = sum-from (n + m.power.value) ms

sum_by-monitors : (ms : List Monitored) → sum_by power_of (map monitor_setting ms) ≡ sum_by (λ m. m.power.value) ms
sum_by-monitors ms = sum-from 0 ms

-- The number of a configuration is the one that is set, or the default.
number_or-set : {least most default : ℕ} (n : NumberOr least most default) → number_or default (number_set n) ≡ n.value
number_or-set {default = default} n =
    cond_both n.is_set (Number n.value ∷ []) [] (λ ds. number_or default ds ≡ n.value) (λ _. refl) (λ is. sym (n.unset is))

-- The power values of the file suffice if those of the configuration do.
pub supplied-conf : (c : MonConfig) (lines : List Words) → UpsmonHolds c lines
    → supplied lines ≡ cond (nat_lt (sum_by (λ m. m.power.value) c.monitors.lines.items) c.min_supplies.value) (Err (0, PastLimit)) (Ok lines)
supplied-conf c lines holds =
    let sums : power lines ≡ sum_by (λ m. m.power.value) c.monitors.lines.items = ap (sum_by power_of) (sym (holds directives.Monitor)) ∙ sum_by-monitors c.monitors.lines.items in
    let least : min_supplies lines ≡ c.min_supplies.value = ap (number_or 1) (sym (holds directives.MinSupplies)) ∙ number_or-set c.min_supplies in
    ap (λ p. cond (nat_lt p (min_supplies lines)) (Err (0, PastLimit)) (Ok lines)) sums
    ∙ ap (λ n. cond (nat_lt (sum_by (λ m. m.power.value) c.monitors.lines.items) n) (Err (0, PastLimit)) (Ok lines)) least
