use Rattle.std.proofs.Common.{◌+◌, ◌*◌, length, sym, subst, arith}
use Rattle.un_bound.specs.Timings.{IsLeastLength}
use Rattle.un_bound.proofs.Placed.{plain_length, small_end}
use Rattle.un_bound.proofs.lengths.length_by.Goals as goal

pub returns-clause-least : goal.returns-clause-least
returns-clause-least c =
    subst (IsLeastLength c.args.first c.args.ops.now c.args.arcs.now) (sym c.saturating_sub.ensures)
    (plain_length c.args.first c.args.ops.now c.args.arcs.now c.raise.new.cycles c.least_end.result c.requires.arcs
    c.raise.ensures.earliest c.least_end.ensures)

pub returns-clause-few : goal.returns-clause-few
returns-clause-few c =
    let most = c.least_end.ensures.least (2 + 255 * length c.args.ops.now)
    (small_end c.args.ops.now c.raise.new.cycles c.raise.ensures.small) in
    omega (arith, most)
