-- `solve_tested` meets its contract. Assumes nothing.
use Rattle.tested.specs.Settle.{settling_is, ended_is}
use Rattle.tested.proofs.solve_tested.Goals as goal

pub settle-requires : goal.settle-requires
settle-requires c = settling_is _ _ _ c.requires.posed (λ i. (c.shared_slice_known-1.given i).fits) (λ i. (c.shared_slice_known-2-1.given i).fits) _ _ _ c.requires.slabbed _ _ _ _ _ _ _ _ c.work_out-a.ensures.worked c.work_out-a.auto.list

pub returns-clause-is : goal.returns-clause-is
returns-clause-is c = ended_is _ _ _ c.requires.posed (λ i. (c.shared_slice_known-1.given i).fits) (λ i. (c.shared_slice_known-2-1.given i).fits) _ _ _ c.requires.slabbed _ _ _ _ _ _ _ _ c.work_out-a.ensures.worked c.work_out-a.auto.list _ _ c.settle.ensures
