use Rattle.std.proofs.Common.{get_or}
use Rattle.std.proofs.lemmas.List.{get_or_default}
use Rattle.un_model.specs.declared.model.Arc.{Arc}
use Rattle.un_bound.proofs.Earliest.{start_plain, start_small, plain_step, plain_small}
use Rattle.un_bound.proofs.lengths.raise.Goals as goal

no_arc : Arc
no_arc = record { from = record { 0 = 0 }; to = record { 0 = 0 }; gap = 0 }

pub loop-arc-init : goal.loop-arc-init
loop-arc-init c = record {
  small = start_small c.args.ops.now c.args.cycles.now c.requires.long c.requires.start;
  earliest = start_plain c.args.first c.args.ops.now c.args.arcs.now c.args.cycles.now c.requires.long c.requires.start;
}

pub loop-arc-preserved : goal.loop-arc-preserved
unfolding no_arc
loop-arc-preserved c =
    let i = c.loop-arc.arc-index in
    let a = get_or c.args.arcs.now c.loop-arc.arc-index no_arc in
    let is = λ (d : Arc). get_or_default c.args.arcs.now c.loop-arc.arc-index d no_arc c.loop-arc-test.true in
    record {
      small = plain_small c.args.first c.args.ops.now c.args.arcs.now c.requires.arcs i c.loop-arc.cycles a c.loop-arc-test.true is
          c.loop-arc.invariant.small c.max.result c.max.ensures;
      earliest = plain_step c.args.first c.args.ops.now c.args.arcs.now c.requires.arcs i c.loop-arc.cycles a c.loop-arc-test.true is
          c.loop-arc.invariant.earliest c.max.result c.max.ensures;
    }
