use mathlib.Core.Path.{refl}
use Rattle.loops.specs.Part.{part}
use Rattle.stepping.specs.Stands.{u_fits, bounds, x_figured, x_in, x_fits, ones_is, ones-some, part_under, cut-room, u_next, i_next, bounds_now, due_then, stands_next}
use Rattle.stepping.specs.Turns.{stepped_on}
use native.Mathlib.Omega.{arith}
use borrow.Author.Rules.{rules}
use Rattle.stepping.proofs.step.Goals as goal

pub overflow_sub-e : goal.overflow_sub-e
overflow_sub-e c =
    let p = c.requires in
    omega (arith, u_fits p.given p.standing)

pub ones_of-r-requires : goal.ones_of-r-requires
ones_of-r-requires c =
    let p = c.requires in
    x_figured p.given p.standing _ p.i_value

pub places-requires : goal.places-requires
places-requires c =
    let p = c.requires in
    let o = c.ones_of-r.ensures in
    ((bounds p.given p.standing).0, (bounds p.given p.standing).1, (bounds p.given p.standing).2, (bounds p.given p.standing).3, x_in p.given p.standing _ p.i_value, x_fits p.given p.standing _ p.i_value, ones-some p.given p.standing _ p.i_value o, ones_is p.given p.standing _ p.i_value o, part_under p.given p.standing _ p.i_value)

pub overflow_sub-k : goal.overflow_sub-k
overflow_sub-k c =
    let p = c.requires in
    omega (arith, (bounds p.given p.standing).0)

pub overflow_sub-k-2 : goal.overflow_sub-k-2
overflow_sub-k-2 c =
    let p = c.requires in
    let o = c.ones_of-r.ensures in
    omega (arith, ones-some p.given p.standing _ p.i_value o)

pub overflow_sub-k-3 : goal.overflow_sub-k-3
overflow_sub-k-3 c =
    let p = c.requires in
    let o = c.ones_of-r.ensures in
    omega (arith, cut-room p.given p.standing _ p.i_value o)

pub offset_bounds-c-i : goal.offset_bounds-c-i
offset_bounds-c-i c =
    let p = c.requires in
    let o = c.ones_of-r.ensures in
    let h = bounds_now p.given p.standing _ p.i_value o c.places.ensures.0 c.places.ensures.1 c.places.ensures.2 in search rules

pub slice_bounds-figures-count : goal.slice_bounds-figures-count
slice_bounds-figures-count c =
    let p = c.requires in
    omega (arith, (bounds p.given p.standing).0)

pub slice_bounds-figures-start : goal.slice_bounds-figures-start
slice_bounds-figures-start c =
    let p = c.requires in
    omega (arith, (bounds p.given p.standing).0)

pub offset_bounds-d-i : goal.offset_bounds-d-i
offset_bounds-d-i c =
    let p = c.requires in
    let o = c.ones_of-r.ensures in
    let h = bounds_now p.given p.standing _ p.i_value o c.places.ensures.0 c.places.ensures.1 c.places.ensures.2 in search rules

pub slice_bounds-figures-count-2 : goal.slice_bounds-figures-count-2
slice_bounds-figures-count-2 c =
    let p = c.requires in
    omega (arith, (bounds p.given p.standing).2)

pub slice_bounds-figures-start-2 : goal.slice_bounds-figures-start-2
slice_bounds-figures-start-2 c =
    let p = c.requires in
    omega (arith, (bounds p.given p.standing).2)

pub figures-requires : goal.figures-requires
unfolding part
figures-requires c =
    let p = c.requires in
    let o = c.ones_of-r.ensures in
    due_then p.given p.standing _ p.i_value o c.places.ensures.0 c.places.ensures.1 c.places.ensures.2

pub overflow_add-result : goal.overflow_add-result
overflow_add-result c =
    let p = c.requires in
    let o = c.ones_of-r.ensures in
    omega (arith, i_next p.given p.standing _ p.i_value o)

pub overflow_sub-result : goal.overflow_sub-result
overflow_sub-result c =
    let p = c.requires in
    let o = c.ones_of-r.ensures in
    omega (arith, ones-some p.given p.standing _ p.i_value o)

pub overflow_add-result-2 : goal.overflow_add-result-2
overflow_add-result-2 c =
    let p = c.requires in
    let o = c.ones_of-r.ensures in
    omega (arith, u_next p.given p.standing _ p.i_value o)

pub returns-clause-stepped : goal.returns-clause-stepped
unfolding part
returns-clause-stepped c =
    let p = c.requires in
    let o = c.ones_of-r.ensures in
    (refl, stepped_on _ _ _ _ p.i_value (stands_next p.given p.standing _ p.i_value o c.places.ensures.0 c.places.ensures.1 c.places.ensures.2 c.figures.ensures.shrunk))
