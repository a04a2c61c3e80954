use Rattle.un_model.specs.Homes.{is_operands_mark, is_results_mark}
use Rattle.un_model.proofs.HomeMarks.{adds_twice}
use Rattle.un_model.proofs.homes.add_op.Goals as goal

pub returns : goal.returns
returns c =
    adds_twice (is_operands_mark c.args.op.now) (is_results_mark c.args.e.now c.args.is_entry c.args.live_in.now c.args.op.now)
    c.args.homes.now c.add_operands.new.homes c.add_results.new.homes c.in_ok-add_operands.ensures c.in_ok-add_results.ensures
