use Rattle.std.proofs.Common.{◌≤◌, List, subst, arith}
use Rattle.std.specs.Prelude.{All}
use Rattle.un_ir.specs.declared.extended.ExtBlock.{ExtBlock}
use Rattle.tests_model.proofs.relaxed.relaxed_on.Goals as goal

pub relax_bound-requires-clause-room : goal.relax_bound-requires-clause-room
relax_bound-requires-clause-room c =
    let all = subst (λ (bs : List ExtBlock). All (λ (b : ExtBlock). b.horizon ≤ c.horizon-last.result) bs) c.as_slice.ensures
    c.horizon-last.ensures in
    λ k d lt. record {
      fixed = omega (arith, c.in_ok-scratch.ensures.fixed, c.len.ensures);
      cycles = omega (arith, c.in_ok-scratch.ensures.cycles, all k d lt);
    }
