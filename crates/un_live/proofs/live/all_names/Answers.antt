use Rattle.std.proofs.Common.{arith}
use Rattle.std.proofs.lemmas.List.FromFn.{map-range_with_len_more}
use Rattle.un_live.specs.Marks.{names_from}
use Rattle.un_live.proofs.live.all_names.Goals as goal

pub loop-b-preserved : goal.loop-b-preserved
loop-b-preserved c =
    let e = map-range_with_len_more (names_from 0 c.args.columns.now) 0 c.loop-b.b c.loop-b.b (omega arith) in
    cc (c.in_ok-push_names.ensures)
