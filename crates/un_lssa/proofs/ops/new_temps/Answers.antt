use Rattle.std.proofs.Common.{◌+◌, refl}
use Rattle.std.proofs.lemmas.List.FromFn.{map-range_with_len_more}
use Rattle.un_ir.specs.Extended.{temp}
use Rattle.un_lssa.proofs.ops.new_temps.Goals as goal

pub loop-k-preserved : goal.loop-k-preserved
loop-k-preserved c =
    let e = map-range_with_len_more temp c.args.n c.loop-k.k (c.args.n + c.loop-k.k) refl in
    cc (c.in_ok-push.ensures.ok)
