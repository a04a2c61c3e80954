-- the rounds so far left no set empty, and the box comes to what the leaf's comes to
use Rattle.std.proofs.Common.{◌≡◌}
use Rattle.un_domains.specs.Sets.{NoneEmpty, total}
use Rattle.un_logs.specs.Goods.{Writes}
use Rattle.un_logs.specs.Stuck.{IsStuck}
use Rattle.un_logs.proofs.leaf.write_leaf.Given as goal

abbrev pub invariant-loop-text : goal.invariant-loop-text
invariant-loop-text l = record {
  full : NoneEmpty l.cuts.sets;
  writes : Writes l.r l.fn.cuts.sets l.cuts.sets l.fn.text.items l.text.items;
  forth : IsStuck l.r.rules l.r.m.now l.r.limit l.fn.cuts.sets → IsStuck l.r.rules l.r.m.now l.r.limit l.cuts.sets;
  back : IsStuck l.r.rules l.r.m.now l.r.limit l.cuts.sets → IsStuck l.r.rules l.r.m.now l.r.limit l.fn.cuts.sets;
  marked : l.cuts.marked ≡ l.fn.cuts.marked;
}

abbrev pub decreases-loop-text : goal.decreases-loop-text
decreases-loop-text l = total l.cuts.sets
