use Rattle.std.proofs.Common.{◌≡◌, drop}
use Rattle.std.specs.Prelude.{slice_get}
use Rattle.std.specs.List.{flat_map}
use Rattle.un_base.specs.declared.ids.TempId.{TempId}
use Rattle.un_domains.specs.Sets.{has}
use Rattle.un_steps.specs.Words.{result_vars, reg_numbers}
use Rattle.un_steps.specs.Found.{operation_of}
use Rattle.un_steps.proofs.operation.is_result.Given as goal

abbrev pub invariant-loop-j : goal.invariant-loop-j
invariant-loop-j l = has (flat_map (λ (x : TempId). reg_numbers (slice_get l.m.temps x.0)) (drop l.j l.p.op.now.results)) l.v.0 ≡ has
    (result_vars l.m (operation_of l.p)) l.v.0
