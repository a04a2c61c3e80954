use Rattle.std.proofs.Common.{arith}
use Rattle.un_domains.specs.NotedLaws.{ends_of_none, ends_of_some}
use Rattle.un_domains.proofs.ends.ends_of.Goals as goal

pub returns-then-bounds : goal.returns-then-bounds
returns-then-bounds c = ends_of_none c.args.shape.now c.args.words.now c.requires.laid c.requires.domain c.bounds_at-bounds.result.lo
    c.bounds_at-bounds.result.end c.bounds_at-bounds.ensures.lo c.bounds_at-bounds.ensures.end c.if-bounds.true

pub returns : goal.returns
returns c = ends_of_some c.args.shape.now c.args.words.now c.requires.laid c.requires.domain c.bounds_at-bounds.result.lo
    c.bounds_at-bounds.result.end c.bounds_at-bounds.ensures.lo c.bounds_at-bounds.ensures.end c.value_at.result c.value_at-2.result
    c.if-bounds.false c.value_at.ensures c.value_at-2.ensures (omega arith) (omega arith)
