use Rattle.std.proofs.Common.{sym, subst}
use Rattle.un_source.specs.States.{CanRunBlocks}
use Rattle.un_source.proofs.FunctionRuns.{can_run_function}
use Rattle.un_source.proofs.run.run_with.Goals as goal

pub run_blocks-requires : goal.run_blocks-requires
run_blocks-requires c = subst CanRunBlocks (sym c.as_slice-blocks.ensures) (can_run_function c.args.f.now)
