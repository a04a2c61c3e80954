use Rattle.std.proofs.Common.{◌+◌, ◌∷◌, [], ℕ, None, map, refl, append_assoc}
use Rattle.std.specs.List.{range_with_len}
use Rattle.std.proofs.lemmas.List.FromFn.{map-range_with_len_more}
use Rattle.un_ir.specs.LinearOf.{reads}
use Rattle.un_lssa.proofs.ops.push_saved.Goals as goal

pub loop-k-preserved : goal.loop-k-preserved
loop-k-preserved c =
    let e = map-range_with_len_more (λ (n : ℕ). reads n None) c.args.first c.loop-k.k (c.args.first + c.loop-k.k) refl in
    let a = append_assoc c.args.operands.now (map (λ (n : ℕ). reads n None) (range_with_len c.args.first c.loop-k.k))
    (reads (c.args.first + c.loop-k.k) None ∷ []) in
    cc (c.in_ok-push_read.ensures)
