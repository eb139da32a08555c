-- Phase one's state before its first step.
--   Lent, opens        the slices fit a system
--   opened_standing    what the opening leaves is the definition's phase after no step
--   opened_degrees     and its degrees are the definition's
-- Assumes nothing.
use Rattle.std.specs.Prelude.{◌≡◌, refl, List, ℕ, ◌+◌, ◌-◌, ◌*◌, ◌≤◌, length}
use Rattle.std.proofs.Common.{sym, ap, subst, ◌∙◌, arith}
use Rattle.loops.specs.Loop.{for_none}
use Rattle.loops.specs.Entry.{entry_at}
use Rattle.rule.specs.Rule.{State}
use Rattle.phases.specs.System.{Shape}
use Rattle.phases.specs.Matrix.{length-range}
use Rattle.phases.specs.One.{Phase, degree, begin, step}
use Rattle.phases.proofs.Walk.{begin_walked}
use Rattle.grid.specs.Grid.{bit}
use Rattle.figures.specs.Told.{told}
use Rattle.opening.specs.Opened.{Opens, Opened, opened_figure, begins}
use Rattle.stepping.specs.Stands.{Given, Stands, Standing}

-- the lengths of the lent slices
pub record Lent (z : Shape) (octs c d ones deg s labels sizes : ℕ) : Type 0 where
  pub wide : c ≡ z.n
  pub tall : d ≡ z.m
  pub figured : ones ≡ z.m
  pub measured : deg ≡ z.m
  pub single : s ≡ z.m
  pub labelled : labels ≡ z.n
  pub sized : z.n + z.n + 1 ≤ sizes
  pub octets : z.h * z.n ≤ octs

pub opens : {z : Shape} {bits : List ℕ} {octs c d ones deg s labels sizes : ℕ} → Given z bits → Lent z octs c d ones deg s labels sizes → Opens z (length bits) c d ones deg s labels sizes
opens g l = record {
  matrix = g.size;
  rows_fit = g.fit.rows_fit;
  cols_fit = g.fit.cols_fit;
  wide = l.wide;
  tall = l.tall;
  figured = l.figured;
  measured = l.measured;
  single = l.single;
  labelled = l.labelled;
  sized = omega (arith, l.sized);
}

module _ {z : Shape} {bits c d fig deg s labels : List ℕ} {n next : ℕ} (g : Given z bits) (o : Opened z bits c d fig deg s labels n next) where
  at-begin : Stands z bits (begin (entry_at z.n bits) z) c d fig s labels 0 (z.n - z.w) n next
  at-begin = record {
    walked = begin_walked z (entry_at z.n bits) g.fit;
    cols = o.cols;
    rows = o.rows;
    wide = o.wide;
    tall = o.tall;
    i_is = refl;
    u_is = sym (length-range z.w (z.n - z.w));
    figures = record {
      low = λ y m. (opened_figure g.fit.rows_fit o y m).0;
      is = λ y m. (opened_figure g.fit.rows_fit o y m).1;
    };
    long = o.figures.long;
    sound = o.sound;
    list = o.singles ∙ ap (λ (t : State). t.singles) (begins z bits);
    marks = o.marks ∙ ap (λ (t : State). t.marks) (begins z bits);
    ready = o.ready;
    labelled = o.labelled;
    few = o.few;
  }

  pub opened_standing : Standing z bits c d fig s labels 0 (z.n - z.w) n next
  opened_standing = subst (λ (p : Phase). Stands z bits p c d fig s labels 0 (z.n - z.w) n next) (sym (for_none 0 (λ _. step (entry_at z.n bits) z) (begin (entry_at z.n bits) z))) at-begin

  pub opened_degrees : (x : ℕ) → told deg x ≡ degree (entry_at z.n bits) z x
  unfolding bit
  opened_degrees x = o.degrees x
