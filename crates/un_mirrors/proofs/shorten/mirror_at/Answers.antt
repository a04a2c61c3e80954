use Rattle.std.proofs.Common.{◌≡◌, subst, All, arith}
use Rattle.un_domains.specs.declared.side.Side.TheVariants.{AtMost}
use Rattle.un_model.specs.Boxes.{root_of}
use Rattle.un_tree.specs.declared.node.Decision.{Decision}
use Rattle.un_base.proofs.Cuts.{if_none}
use Rattle.un_walk.proofs.StandLemmas.{marks_long}
use Rattle.un_mirrors.specs.Shortened.{IsNearestRight}
use Rattle.un_mirrors.proofs.NearestLemmas.{none_nearest}
use Rattle.un_mirrors.proofs.Neighbours.{nearest_inside, nearest_low, nearest_some, nearest_there, no_neighbours}
use Rattle.un_mirrors.proofs.shorten.mirror_at.Goals as goal

pub returns-in_err-depth-clause-none : goal.returns-in_err-depth-clause-none
returns-in_err-depth-clause-none c = if_none c.from_residual.result (λ a on. none_nearest c.args.stand.now.path.items on.0
    (subst (All (λ (d : Decision). d.side ≡ AtMost)) c.as_slice.ensures.value c.in_err-depth.ensures.none) on.1)

pub min-value-requires-clause-there : goal.min-value-requires-clause-there
min-value-requires-clause-there c = nearest_there c.args.m.now c.args.stand.now c.requires.at c.in_ok-depth.depth c.index.result.now
    (subst (λ ds. IsNearestRight ds c.in_ok-depth.depth) c.as_slice.ensures.value c.in_ok-depth.ensures.some) c.index.ensures

pub min-value-requires-clause-some : goal.min-value-requires-clause-some
min-value-requires-clause-some c = nearest_some c.args.m.now c.args.stand.now c.requires.at c.in_ok-depth.depth c.index.result.now
    (subst (λ ds. IsNearestRight ds c.in_ok-depth.depth) c.as_slice.ensures.value c.in_ok-depth.ensures.some) c.index.ensures

pub overflow_sub-a : goal.overflow_sub-a
overflow_sub-a c =
    let low = nearest_low c.args.m.now c.args.stand.now c.requires.at c.in_ok-depth.depth c.index.result.now
    (subst (λ ds. IsNearestRight ds c.in_ok-depth.depth) c.as_slice.ensures.value c.in_ok-depth.ensures.some) c.index.ensures in
    omega (arith, low, c.min-value.ensures)

pub overflow_cast-depth : goal.overflow_cast-depth
overflow_cast-depth c =
    let inside = nearest_inside c.args.stand.now.path.items c.in_ok-depth.depth
    (subst (λ ds. IsNearestRight ds c.in_ok-depth.depth) c.as_slice.ensures.value c.in_ok-depth.ensures.some) in
    omega (arith, inside, marks_long (root_of c.args.m.now) c.args.stand.now c.requires.at, c.facts.ensures.marks)

pub returns-then-is_mirror : goal.returns-then-is_mirror
returns-then-is_mirror c =
    let inside = nearest_inside c.args.stand.now.path.items c.in_ok-depth.depth
    (subst (λ ds. IsNearestRight ds c.in_ok-depth.depth) c.as_slice.ensures.value c.in_ok-depth.ensures.some) in
    record {
      some = c.is_mirror.ensures.0 c.if-is_mirror.true;
      none = tt;
      fits = (
        omega arith,
        omega arith,
        omega (arith, inside, marks_long (root_of c.args.m.now) c.args.stand.now c.requires.at, c.facts.ensures.marks),
      );
    }

pub returns-else-is_mirror : goal.returns-else-is_mirror
returns-else-is_mirror c = record {
  some = tt;
  none = no_neighbours c.args.m.now c.args.stand.now c.requires.at c.in_ok-depth.depth c.index.result.now
      (subst (λ ds. IsNearestRight ds c.in_ok-depth.depth) c.as_slice.ensures.value c.in_ok-depth.ensures.some) c.index.ensures
      c.min-value.result c.min-value.ensures (λ is. let yes = c.is_mirror.ensures.1 is in let no = c.if-is_mirror.false in cc (yes, no));
  fits = tt;
}
