use Rattle.std.proofs.Common.{subst}
use Rattle.std.proofs.lemmas.List.Elements.{All-more}
use Rattle.un_rooms.specs.Reach.{IsBetween}
use Rattle.un_sites.specs.declared.sites.Spot.{Spot}
use Rattle.un_rooms.proofs.span.span_of.Goals as goal

pub loop-p-preserved : goal.loop-p-preserved
loop-p-preserved c =
    All-more (λ (p : Spot). IsBetween c.with_number-span.result.low c.with_number-span.result.past p.op) c.args.spots.now c.loop-p.p-index
    c.p-item.result c.loop-p-test.true (λ k d lt. c.with_number-span.ensures.kept _ (c.loop-p.invariant k d lt))
    (subst (λ (p : Spot). IsBetween c.with_number-span.result.low c.with_number-span.result.past p.op) c.p-item.is
    c.with_number-span.ensures.it)
