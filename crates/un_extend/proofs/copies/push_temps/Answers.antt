use Rattle.std.proofs.Common.{◌+◌, ◌∷◌, [], map, refl, append_assoc}
use Rattle.std.specs.List.{range_with_len}
use Rattle.std.proofs.lemmas.List.FromFn.{map-range_with_len_more}
use Rattle.un_ir.specs.Extended.{temp}
use Rattle.un_extend.proofs.copies.push_temps.Goals as goal

pub loop-k-preserved : goal.loop-k-preserved
loop-k-preserved c =
    let e = map-range_with_len_more temp c.args.first c.loop-k.k (c.args.first + c.loop-k.k) refl in
    let a = append_assoc c.args.temps.now (map temp (range_with_len c.args.first c.loop-k.k)) (temp (c.args.first + c.loop-k.k) ∷ []) in
    cc (c.in_ok-push.ensures.ok, c.in_ok-later.ensures.later)
