use Rattle.std.proofs.Common.{ℕ, sym, subst}
use Rattle.un_certificate.specs.Bounds.{IsLeastOpen, IsLowestUnder}
use Rattle.un_certificate.proofs.Lowest.{lowest_none, lowest_some}
use Rattle.un_certificate.proofs.bound.lowest_under.Goals as goal

pub returns-in-Some : goal.returns-in-Some
returns-in-Some c m ps h =
    subst (λ (n : ℕ). IsLowestUnder m c.args.cost ps n) (sym c.min.ensures)
    (lowest_some m c.args.cost c.in-Some.low ps (subst (IsLeastOpen m ps) c.in-Some.is h))

pub returns-in-None : goal.returns-in-None
returns-in-None c m ps h = lowest_none m c.args.cost ps (subst (IsLeastOpen m ps) c.in-None.is h)
