use Rattle.std.proofs.Common.{length, arith}
use Rattle.un_bound.specs.Choices.{InSets}
use Rattle.un_bound.proofs.Nexts.{started}
use Rattle.un_bound.proofs.Stops.{none_started, none_settled, stops}
use Rattle.un_bound.proofs.settle.least_stop_by.Goals as goal

pub raise-requires-clause-start : goal.raise-requires-clause-start
raise-requires-clause-start c =
    let b = c.args.b.now in
    started (InSets b.store.now.sets b.end b.ops.now b.vars.now) b.first b.ops.now c.args.arcs.now c.start.new.cycles (omega arith)
    c.if-not-start.ensures

pub returns-then-not-start : goal.returns-then-not-start
returns-then-not-start c =
    let b = c.args.b.now in
    none_started b.store.now.sets (length b.store.now.sets) b.first b.end b.ops.now b.vars.now c.args.arcs.now c.requires.known
    c.if-not-start.ensures

pub returns-then-not-raise : goal.returns-then-not-raise
returns-then-not-raise c =
    let b = c.args.b.now in
    none_settled b.store.now.sets (length b.store.now.sets) b.first b.end b.ops.now b.vars.now c.args.arcs.now c.requires.known
    c.if-not-raise.ensures

pub returns : goal.returns
returns c =
    let b = c.args.b.now in
    stops b.store.now.sets (length b.store.now.sets) b.first b.end b.ops.now b.vars.now c.args.arcs.now c.requires.known c.requires.arcs
    c.raise.new.cycles c.if-not-raise.ensures c.least_end.result c.least_end.ensures c.find_end.result c.find_end.ensures
