use Rattle.std.proofs.Common.{◌+◌, ◌≤◌, length, arith}
use Rattle.nut_words.proofs.PlainLemmas.{more_bare}
use Rattle.nut_words.proofs.plain.bare_len.Goals as goal

pub returns-then-run-lt-LANES-clause-bare : goal.returns-then-run-lt-LANES-clause-bare
returns-then-run-lt-LANES-clause-bare c =
    more_bare c.args.bytes.now c.loop-len.len c.bare_run-run.result (omega (arith, c.bare_run-run.ensures.0)) c.bare_run-run.ensures.1 c.loop-len.invariant.bare

pub loop-len-preserved : goal.loop-len-preserved
loop-len-preserved c =
    let within : c.loop-len.len + c.bare_run-run.result ≤ length c.args.bytes.now = omega (arith, c.bare_run-run.ensures.0) in
    record { within = within; bare = more_bare c.args.bytes.now c.loop-len.len c.bare_run-run.result within c.bare_run-run.ensures.1 c.loop-len.invariant.bare }
