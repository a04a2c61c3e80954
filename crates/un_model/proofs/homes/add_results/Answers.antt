use Rattle.un_model.specs.Homes.{is_result_mark}
use Rattle.un_model.proofs.Steps.{any_from_more}
use Rattle.un_model.proofs.homes.add_results.Goals as goal

pub loop-j-preserved : goal.loop-j-preserved
loop-j-preserved c = λ x i lt.
    let step = rw (c.gives_truth_at-truth.ensures, c.result_home-home.ensures) at c.in_ok-add_result.ensures x i lt in
    any_from_more (is_result_mark c.args.e.now c.args.is_entry c.args.live_in.now c.args.op.now x i) c.loop-j.j c.args.op.now.results
    c.get.result.now _ _ _ c.get.ensures (c.loop-j.invariant x i lt) step
