use Rattle.std.proofs.Common.{◌∙◌, ℕ, ap, arith}
use Rattle.un_ir.specs.declared.extended.Operand.{Operand}
use Rattle.un_model.specs.Emission.{temp_register}
use Rattle.un_model.specs.Schedules.{choice_of}
use Rattle.un_model.proofs.Steps.{places_more, places_all}
use Rattle.un_emit.proofs.registers.operand_registers.Goals as goal

pub loop-j-preserved : goal.loop-j-preserved
loop-j-preserved c =
    let m = c.args.m.now in
    let values = c.args.values.now in
    places_more (λ (j : ℕ) (operand : Operand). temp_register m values (choice_of values c.args.vars.now j operand)) c.loop-j.j c.loop-j.j
    c.args.op.now.operands c.get.result.now c.loop-j.regs _ c.push.new.self c.register.result c.loop-j.invariant c.get.ensures
    (c.register.ensures ∙ ap (temp_register m values) c.choice-x.ensures) c.in_ok-push.ensures.ok

pub returns : goal.returns
returns c =
    let m = c.args.m.now in
    let values = c.args.values.now in
    places_all (λ (j : ℕ) (operand : Operand). temp_register m values (choice_of values c.args.vars.now j operand)) c.loop-j.j c.loop-j.j
    c.args.op.now.operands c.loop-j.regs _ c.loop-j.invariant (omega arith)
