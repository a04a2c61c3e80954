use Rattle.std.proofs.Common.{ℕ, ◌+◌, ◌*◌, ◌≤◌, drop}
use Rattle.un_ir.specs.declared.function.TheConstants.{FREQUENCY}
use Rattle.un_bound.specs.declared.lengths.TheConstants.{ROOM}
use Rattle.un_bound.specs.Arcs.{AllLeadOn}
use Rattle.un_bound.specs.Plain.{IsPlainSum}
use Rattle.un_bound.proofs.plain.sum_of.Given as goal

abbrev pub invariant-loop-k : goal.invariant-loop-k
invariant-loop-k l = record {
  plain : (rest : ℕ) → IsPlainSum l.first (drop l.k l.m.ext.blocks) (drop l.k l.m.arcs) rest
      → IsPlainSum 0 l.m.ext.blocks l.m.arcs (l.sum + rest);
  lead : AllLeadOn l.first (drop l.k l.m.ext.blocks) (drop l.k l.m.arcs);
  first : l.first ≤ ROOM * l.k;
  sum : l.sum ≤ (FREQUENCY * (256 * ROOM)) * l.k;
}
