use Rattle.std.proofs.Common.{subst}
use Rattle.un_search.specs.Roots.{IsRooted}
use Rattle.un_search.proofs.RootLemmas.{root_live}
use Rattle.un_search.proofs.start.least_ends.Goals as goal

pub ends_in-requires : goal.ends_in-requires
ends_in-requires c =
    let root = subst (IsRooted c.args.m.now 18446744073709551615) c.in-Some.is c.in_ok-first_root.ensures in
    record { live = root_live c.args.m.now _ c.in-Some.root.stores root.0.at }
