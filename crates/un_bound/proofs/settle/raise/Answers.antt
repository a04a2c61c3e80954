use Rattle.std.proofs.Common.{get_or}
use Rattle.std.proofs.lemmas.List.{get_or_default}
use Rattle.un_model.specs.declared.model.Arc.{Arc}
use Rattle.un_bound.specs.Choices.{InSets}
use Rattle.un_bound.proofs.Nexts.{raised, none_raised}
use Rattle.un_bound.proofs.settle.raise.Goals as goal

no_arc : Arc
no_arc = record { from = record { 0 = 0 }; to = record { 0 = 0 }; gap = 0 }

pub returns-then-not-raise_by : goal.returns-then-not-raise_by
unfolding no_arc
returns-then-not-raise_by c =
    let b = c.args.b.now in
    let i = c.loop-arc.arc-index in
    let a = get_or c.args.arcs.now c.loop-arc.arc-index no_arc in
    let is = λ (d : Arc). get_or_default c.args.arcs.now c.loop-arc.arc-index d no_arc c.loop-arc-test.true in
    none_raised (InSets b.store.now.sets b.end b.ops.now b.vars.now) b.first b.ops.now c.args.arcs.now c.requires.arcs i
    c.loop-arc.cycles a c.loop-arc-test.true is c.loop-arc.invariant c.raise_by.new.cycles c.if-not-raise_by.ensures

pub loop-arc-preserved : goal.loop-arc-preserved
unfolding no_arc
loop-arc-preserved c =
    let b = c.args.b.now in
    let i = c.loop-arc.arc-index in
    let a = get_or c.args.arcs.now c.loop-arc.arc-index no_arc in
    let is = λ (d : Arc). get_or_default c.args.arcs.now c.loop-arc.arc-index d no_arc c.loop-arc-test.true in
    raised (InSets b.store.now.sets b.end b.ops.now b.vars.now) b.first b.ops.now c.args.arcs.now c.requires.arcs i
    c.loop-arc.cycles a c.loop-arc-test.true is c.loop-arc.invariant c.raise_by.new.cycles c.if-not-raise_by.ensures
