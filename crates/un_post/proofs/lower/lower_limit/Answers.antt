use Rattle.std.proofs.Common.{ℕ, ◌≡◌, ◌+◌, Some, sym, subst}
use Rattle.std.specs.Prelude.{slice_get}
use Rattle.un_post.proofs.Lowering.{lowering}
use Rattle.un_post.proofs.lower.lower_limit.Goals as goal

pub returns : goal.returns
returns c most le asks tight place =
    let ps = c.args.props.now in
    let made = c.in_ok-counted.ensures in
    lowering c.args.m.now c.args.limit most le ps c.in_ok-cost.cost c.in_ok-cost.ensures asks tight c.in_ok-counted.counted made.one
    (λ more rows high r at is. made.several more rows high r (subst (λ (k : ℕ). slice_get ps (k + 1) ≡ Some r) (sym place) at) is)
