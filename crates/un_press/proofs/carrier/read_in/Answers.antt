use Rattle.std.proofs.Common.{sym, ◌∙◌, arith}
use Rattle.un_press.specs.Searches.{is_there}
use Rattle.un_press.proofs.Loops.{read_here, read_later, read_nowhere}
use Rattle.un_press.proofs.carrier.read_in.Goals as goal

pub loop-k-preserved : goal.loop-k-preserved
loop-k-preserved c =
    sym (read_later (is_there c.args.m.now c.args.values.now c.args.sought.value c.args.sought.by)
    c.args.values.now c.args.t c.value-end.result c.loop-k.k
    c.args.block.now.ops c.args.vars.now.ops c.get-op.result.now c.get-op_vars.result.now c.get-op.ensures c.get-op_vars.ensures
    (sym c.read_by.ensures ∙ c.in_default.is)) ∙ c.loop-k.invariant

pub returns-in-Some : goal.returns-in-Some
returns-in-Some c =
    rw (← c.value-end.ensures)
    (sym (read_here (is_there c.args.m.now c.args.values.now c.args.sought.value c.args.sought.by)
    c.args.values.now c.args.t c.value-end.result c.loop-k.k
    c.args.block.now.ops c.args.vars.now.ops c.get-op.result.now c.get-op_vars.result.now c.in-Some.y c.get-op.ensures
    c.get-op_vars.ensures (sym c.read_by.ensures ∙ c.in-Some.is)) ∙ c.loop-k.invariant)

pub returns : goal.returns
returns c =
    rw (← c.value-end.ensures)
    (sym (read_nowhere (is_there c.args.m.now c.args.values.now c.args.sought.value c.args.sought.by)
    c.args.values.now c.args.t c.value-end.result c.loop-k.k
    c.args.block.now.ops c.args.vars.now.ops (omega arith)) ∙ c.loop-k.invariant)
