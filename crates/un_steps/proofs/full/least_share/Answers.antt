use Rattle.std.proofs.Common.{◌∙◌, arith}
use Rattle.un_steps.specs.Found.{operation_of}
use Rattle.un_steps.specs.Rules.{share_with}
use Rattle.un_steps.specs.Words.{instrs}
use Rattle.un_steps.proofs.Shares.{the_least}
use Rattle.un_steps.proofs.full.least_share.Goals as goal

pub returns-clause-value : goal.returns-clause-value
returns-clause-value c =
    let p = operation_of c.args.p.now in
    c.unwrap_or.ensures ∙ the_least (share_with c.args.m.now c.args.r p) (instrs c.args.s.now.sets p) c.loop-i.i c.loop-i.known
    (λ i h. let a = c.instr_end-end.ensures.above i h in let t = c.loop-i-test.false in omega (arith, a, t)) c.loop-i.invariant.least
