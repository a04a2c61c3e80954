use Rattle.std.proofs.Common.{◌-◌, arith}
use Rattle.std.specs.Prelude.{slice_index}
use Rattle.un_bound.proofs.Nexts.{first_after}
use Rattle.un_bound.proofs.settle.raise_by.Goals as goal

pub next_in-requires-clause-first : goal.next_in-requires-clause-first
next_in-requires-clause-first c =
    let b = c.args.b.now in
    let t = c.args.arc.to.0 - b.first in
    first_after b.store.now.sets b.end b.ops.now b.vars.now t (slice_index c.args.cycles.now t) c.max-at.result c.requires.known.long
    (omega arith) (c.requires.chosen t (omega arith)) (omega (arith, c.max-at.ensures, c.from.ensures))
