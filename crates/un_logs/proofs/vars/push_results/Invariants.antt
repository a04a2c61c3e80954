-- the registers of the results before are there
use Rattle.std.proofs.Common.{◌≡◌, ◌++◌, map, take}
use Rattle.std.specs.Prelude.{slice_get}
use Rattle.std.specs.List.{flat_map}
use Rattle.un_base.specs.declared.ids.TempId.{TempId}
use Rattle.un_steps.specs.Words.{number_of, reg_numbers}
use Rattle.un_logs.proofs.vars.push_results.Given as goal

abbrev pub invariant-loop-j : goal.invariant-loop-j
invariant-loop-j l = map number_of l.vars.items
    ≡ map number_of l.fn.vars.items ++ flat_map (λ (x : TempId). reg_numbers (slice_get l.m.temps x.0)) (take l.j l.p.op.now.results)
