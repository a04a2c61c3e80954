use Rattle.un_press.proofs.Searching.{crosses_then, crosses_else}
use Rattle.un_press.proofs.carrier.crosses.Goals as goal

pub returns-then-defined : goal.returns-then-defined
returns-then-defined c = crosses_then c.args.m.now c.args.s.now c.args.x c.args.t c.requires.model c.requires.extended c.requires.fit
    c.requires.options c.requires.solution c.is_defined-defined.result c.is_read-read.result
    (rw c.as_slice-values.ensures at c.is_defined-defined.ensures) (rw c.as_slice-values.ensures at c.is_read-read.ensures)
    c.if-defined.true

pub returns-else-defined : goal.returns-else-defined
returns-else-defined c = crosses_else c.args.m.now c.args.s.now c.args.x c.args.t c.requires.model c.requires.extended c.requires.fit
    c.requires.options c.requires.solution c.is_defined-defined.result (rw c.as_slice-values.ensures at c.is_defined-defined.ensures)
    c.if-defined.false
