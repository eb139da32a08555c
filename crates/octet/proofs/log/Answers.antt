-- `octet::log` meets its contract: each entry is its place among the powers of 2, a test that antt computes. Assumes nothing.
use Rattle.std.proofs.Common.{rules, ◌<◌}
use Rattle.octet.specs.Octet.{add, times, product, rest, mul}
use Rattle.octet.specs.Powers.{powers}
use Rattle.octet.proofs.Tables.{inverts, undoes, logs_at}
use Rattle.octet.proofs.log.Goals as goal
use Rattle.octet.proofs.log.Reads as reads
use Rattle.octet.proofs.log.Lts as lts

pub returns : goal.returns
unfolding inverts undoes powers mul rest product times add
returns c =
    let h : c.args.a < 256 = search rules in
    logs_at ((lts.m5 reads.Pre reads.Post c.before.before c.result-1.given).1.1.0.now) tt c.args.a c.requires h
