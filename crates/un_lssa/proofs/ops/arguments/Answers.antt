use Rattle.std.proofs.Common.{◌≡◌, List, sym, subst, drop, get_or, ◌+◌, ◌++◌}
use Rattle.un_ir.specs.declared.extended.Operand.{Operand}
use Rattle.un_ir.specs.LinearOf.{reads, argument_operands, name_operand}
use Rattle.un_lssa.specs.Making.{home_at}
use Rattle.un_lssa.proofs.Operands.{arguments_more}
use Rattle.un_lssa.proofs.ops.arguments.Goals as goal

pub loop-j-preserved : goal.loop-j-preserved
loop-j-preserved c =
    let l = c.loop-j in
    let names = c.args.names.now in
    let current = c.args.current.now in
    let registers = c.args.t.now.args in
    let name = get_or names l.j (record { 0 = 0 }) in
    let operand : reads c.current_temp-n.result c.home_at.result ≡ name_operand current (home_at registers l.j) name =
    cc (c.current_temp-n.ensures, c.home_at.ensures) in
    let next = arguments_more l.operands current registers names l.j (record { 0 = 0 }) (argument_operands current registers names)
    (reads c.current_temp-n.result c.home_at.result) c.loop-j-test.true l.invariant operand in
    subst (λ (xs : List Operand). xs ++ argument_operands current (drop (l.j + 1) registers) (drop (l.j + 1) names) ≡ argument_operands
    current registers names) (sym c.in_ok-push_read.ensures) next
