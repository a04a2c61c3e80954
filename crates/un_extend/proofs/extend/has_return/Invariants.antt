use Rattle.std.proofs.Common.{◌≡◌, drop}
use Rattle.un_extend.specs.Returns.{returns_by}
use Rattle.un_extend.proofs.extend.has_return.Given as goal

abbrev pub invariant-loop-op : goal.invariant-loop-op
invariant-loop-op l = returns_by (drop l.op-index l.ops) ≡ returns_by l.ops
