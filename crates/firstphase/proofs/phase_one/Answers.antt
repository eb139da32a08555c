use Rattle.std.proofs.Common.{refl, arith}
use Rattle.tally.specs.Book.{book_of}
use Rattle.stepping.specs.Turns.{as_shape}
use Rattle.firstphase.specs.Same.{whole}
use Rattle.firstphase.specs.Begins.{opens, opened_standing, opened_degrees}
use Rattle.firstphase.proofs.phase_one.Goals as goal

pub start-singles-requires : goal.start-singles-requires
start-singles-requires c = opens c.requires.given c.requires.lent

pub overflow_sub-first : goal.overflow_sub-first
overflow_sub-first c = omega (arith, c.requires.given.fit.cols_fit)

pub steps-requires : goal.steps-requires
steps-requires c =
    record {
      given = c.requires.given;
      standing = opened_standing c.requires.given c.start-singles.ensures.opened;
      deg_len = (c.start-singles.ensures.opened.measured, opened_degrees c.requires.given c.start-singles.ensures.opened, omega (arith, c.requires.lent.sized, c.start-singles.auto.sizes));
      i_value = (refl, c.requires.lent.octets, c.requires.fair);
    }

pub returns-clause-outcome : goal.returns-clause-outcome
returns-clause-outcome c = whole (as_shape c.args.z) c.args.bits.now c.args.octets.now (book_of c.args.journal.now) c.steps.new.c c.steps.new.d (book_of c.steps.new.journal) c.steps.result c.requires.given c.steps.ensures.outcome
