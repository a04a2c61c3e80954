use Rattle.std.proofs.Common.{ap, max, map, ◌∙◌, ◌+◌}
use Rattle.std.specs.Prelude.{get_or}
use Rattle.std.proofs.lemmas.Option.{slice_get-get_or}
use Rattle.un_isa.specs.declared.packet_counts.Resource.{Resource}
use Rattle.un_isa.specs.declared.packet_counts.Resource.TheVariants.{Instructions}
use Rattle.un_sites.specs.Shares.{own_share, spills_share, reloads_share, cycles_for}
use Rattle.un_sites.specs.Sites.{place_of}
use Rattle.un_rooms.proofs.Greatest.{greatest_more, greater_is}
use Rattle.un_rooms.proofs.shares.cycles_over.Goals as goal

pub loop-r-preserved : goal.loop-r-preserved
loop-r-preserved c =
    let ps = map place_of c.args.spots.now in
    let f = λ (r : Resource). cycles_for r (own_share c.args.t.now ps r + (spills_share c.args.t.now c.args.asked.spills r
    + reloads_share c.args.t.now c.args.leaves c.args.asked.reloads r)) in
    let r = get_or c.args.resources.now c.loop-r.r-index Instructions in
    let there = slice_get-get_or c.args.resources.now c.loop-r.r-index Instructions c.loop-r-test.true in
    let greatest = c.max-most.ensures ∙ greater_is c.loop-r.most c.in_ok-cycles.cycles in
    greatest_more f c.loop-r.r-index c.loop-r.most c.max-most.result _ c.args.resources.now r c.loop-r.invariant there
    (greatest ∙ ap (max c.loop-r.most) c.in_ok-cycles.ensures)
