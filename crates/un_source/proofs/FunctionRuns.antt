-- The blocks of every function can run.
use Rattle.std.proofs.Common.{◌<◌, ◌^◌, length, get_or, arith}
use Rattle.std.proofs.Math.Bridge.{le_prop}
use Rattle.std.proofs.Math.Logic.{∥∥₁_elim}
use Rattle.std.proofs.lemmas.Option.{slice_get-get_or}
use Rattle.un_ir.specs.declared.function.Function.{Function}
use Rattle.un_ir.specs.WellFormed.{IsWellFormed}
use Rattle.un_ir.proofs.FunctionFacts.{entry_there, leads_inside, shifts, calls_one}
use Rattle.un_source.specs.States.{CanRunBlocks}

few_blocks : (f : Function) → length f.blocks < 2 ^ 32
few_blocks f =
    ∥∥₁_elim f.well_formed le_prop (λ (w : IsWellFormed f.name f.params f.names f.blocks). let few = w.few_blocks in omega (arith, few))

pub can_run_function : (f : Function) → CanRunBlocks f.blocks
can_run_function f = record {
  entry = entry_there f;
  few = few_blocks f;
  leads = λ b block c at has. (leads_inside f b block c at has).1;
  ops = λ b block at k d below.
      let here = slice_get-get_or block.ops k d below in
      record { shift = shifts f b k block (get_or block.ops k d) at here; callee = calls_one f b k block (get_or block.ops k d) at here };
}
