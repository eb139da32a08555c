-- `rows::read_line` meets its contract: each kind of line is a case of the definition. Assumes nothing.
use Rattle.std.proofs.Common.{ap, sym, ◌∙◌, rules}
use Rattle.systems.specs.Text.{strip_is}
use Rattle.systems.specs.Lined.{bits_word, octets_word, slab_word, buffers, go_on, line_bits, line_octets, line_slab, line_go, line_other}
use Rattle.systems.proofs.rows.read_line.Goals as goal

pub returns-in_err-read_bits : goal.returns-in_err-read_bits
returns-in_err-read_bits c =
    let a = c.args in
    let b = buffers a.bits.now a.octets.now a.slab.now in
    line_bits a.line.now a.s b (sym (strip_is bits_word _) ∙ c.in-Some.ensures.cases.0) c.in-Some.ensures.cases.1 c.read_bits.ensures (c.from_residual.ensures ∙ sym (ap go_on c.in_err-read_bits.was))

pub returns-in-Some : goal.returns-in-Some
returns-in-Some c =
    let a = c.args in
    let b = buffers a.bits.now a.octets.now a.slab.now in
    line_bits a.line.now a.s b (sym (strip_is bits_word _) ∙ c.in-Some.ensures.cases.0) c.in-Some.ensures.cases.1 c.read_bits.ensures (sym (ap go_on c.in_ok-read_bits.was))

pub returns-in_err-read_octets : goal.returns-in_err-read_octets
returns-in_err-read_octets c =
    let a = c.args in
    let b = buffers a.bits.now a.octets.now a.slab.now in
    line_octets a.line.now a.s b (sym (strip_is bits_word _) ∙ c.in_default.ensures.cases) (sym (strip_is octets_word _) ∙ c.in-Some-strip_prefix.ensures.cases.0) c.in-Some-strip_prefix.ensures.cases.1 c.read_octets.ensures (c.from_residual-in_err-read_octets.ensures ∙ sym (ap go_on c.in_err-read_octets.was))

pub returns-in-Some-strip_prefix : goal.returns-in-Some-strip_prefix
returns-in-Some-strip_prefix c =
    let a = c.args in
    let b = buffers a.bits.now a.octets.now a.slab.now in
    line_octets a.line.now a.s b (sym (strip_is bits_word _) ∙ c.in_default.ensures.cases) (sym (strip_is octets_word _) ∙ c.in-Some-strip_prefix.ensures.cases.0) c.in-Some-strip_prefix.ensures.cases.1 c.read_octets.ensures (sym (ap go_on c.in_ok-read_octets.was))

pub returns-in_err-read_slab : goal.returns-in_err-read_slab
returns-in_err-read_slab c =
    let a = c.args in
    let b = buffers a.bits.now a.octets.now a.slab.now in
    line_slab a.line.now a.s b (sym (strip_is bits_word _) ∙ c.in_default.ensures.cases) (sym (strip_is octets_word _) ∙ c.in_default-strip_prefix.ensures.cases) (sym (strip_is slab_word _) ∙ c.in-Some-strip_prefix-2.ensures.cases.0) c.in-Some-strip_prefix-2.ensures.cases.1 c.read_slab.ensures (c.from_residual-in_err-read_slab.ensures ∙ sym (ap go_on c.in_err-read_slab.was))

pub returns-in-Some-strip_prefix-2 : goal.returns-in-Some-strip_prefix-2
returns-in-Some-strip_prefix-2 c =
    let a = c.args in
    let b = buffers a.bits.now a.octets.now a.slab.now in
    line_slab a.line.now a.s b (sym (strip_is bits_word _) ∙ c.in_default.ensures.cases) (sym (strip_is octets_word _) ∙ c.in_default-strip_prefix.ensures.cases) (sym (strip_is slab_word _) ∙ c.in-Some-strip_prefix-2.ensures.cases.0) c.in-Some-strip_prefix-2.ensures.cases.1 c.read_slab.ensures (sym (ap go_on c.in_ok-read_slab.was))

pub returns-then-eq : goal.returns-then-eq
returns-then-eq c =
    let a = c.args in
    let b = buffers a.bits.now a.octets.now a.slab.now in
    line_go a.line.now a.s b (sym (strip_is bits_word _) ∙ c.in_default.ensures.cases) (sym (strip_is octets_word _) ∙ c.in_default-strip_prefix.ensures.cases) (sym (strip_is slab_word _) ∙ c.in_default-strip_prefix-2.ensures.cases) (search rules)

pub returns : goal.returns
returns c =
    let a = c.args in
    let b = buffers a.bits.now a.octets.now a.slab.now in
    line_other a.line.now a.s b (sym (strip_is bits_word _) ∙ c.in_default.ensures.cases) (sym (strip_is octets_word _) ∙ c.in_default-strip_prefix.ensures.cases) (sym (strip_is slab_word _) ∙ c.in_default-strip_prefix-2.ensures.cases) (search rules)
