use Rattle.std.proofs.Common.{◌+◌, length, refl}
use Rattle.un_lssa.proofs.Operands.{returned, falls, jumps, branches}
use Rattle.un_lssa.proofs.ops.out_operands.Goals as goal

pub returns-in-Ret : goal.returns-in-Ret
returns-in-Ret c =
    let a = c.args in
    returned a.t.now a.current.now a.first 0 a.live_out.now a.registers.now a.term c.in-Ret.value c.returned_operands.result c.in-Ret.is
    (c.returned_operands.ensures a.live_out.now)

pub returns-in-Fall : goal.returns-in-Fall
returns-in-Fall c =
    let a = c.args in
    falls a.t.now a.current.now a.first (length a.registers.now + 1) a.live_out.now a.registers.now a.term c.next_operands.result
    c.requires.kept refl c.in-Fall.is c.next_operands.ensures

pub returns-in-Jump : goal.returns-in-Jump
returns-in-Jump c =
    let a = c.args in
    jumps a.t.now a.current.now a.first (length a.registers.now + 1) a.live_out.now a.registers.now a.term c.next_operands-in-Jump.result _
    c.requires.kept refl c.in-Jump.is c.next_operands-in-Jump.ensures

pub returns-in-Branch : goal.returns-in-Branch
returns-in-Branch c =
    let a = c.args in
    branches a.t.now a.current.now a.first (length a.registers.now + 1) a.live_out.now a.registers.now a.term
    c.next_operands-in-Branch.result c.in-Branch.pred c.in-Branch.sense c.in-Branch.to c.requires.kept refl c.in-Branch.is c.next_operands-in-Branch.ensures
