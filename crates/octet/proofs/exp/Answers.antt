-- `octet::exp` meets its contract: the table starts with 1 and each entry is twice the one before, a test that antt computes. Assumes nothing.
use Rattle.octet.specs.Octet.{add, times, product, rest, mul}
use Rattle.octet.proofs.Tables.{rises, doubles, rises-at}
use Rattle.octet.proofs.exp.Goals as goal
use Rattle.octet.proofs.exp.Reads as reads
use Rattle.octet.proofs.exp.Lts as lts

pub returns : goal.returns
unfolding rises doubles mul rest product times add
returns c = rises-at ((lts.m4 reads.Pre reads.Post c.before.before c.result-1.given).1.1.0.now) tt c.args.i c.requires
