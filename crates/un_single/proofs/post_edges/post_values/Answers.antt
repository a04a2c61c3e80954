use Rattle.std.proofs.Common.{arith}
use Rattle.std.proofs.lemmas.Option.{slice_get-get_or}
use Rattle.un_model.specs.Congruences.{live_in_temps}
use Rattle.un_sites.specs.Postings.{congruence}
use Rattle.un_sites.specs.Sites.{place_in, definers_in}
use Rattle.un_single.proofs.Edges.{place_added}
use Rattle.un_single.proofs.post_edges.post_values.Goals as goal

pub loop-j-preserved : goal.loop-j-preserved
loop-j-preserved c =
    let temps = c.live_in_temps-temps.result.now in
    let is = slice_get-get_or temps c.loop-j.j (record { 0 = 0 }) (omega (arith, c.loop-j-test.true, c.loop-j.auto.j-end)) in
    place_added (congruence (definers_in c.args.sites.now) (place_in c.args.out.now) c.args.a.now c.args.b.now) c.loop-j.j
    (live_in_temps c.args.b.now.ops) _ c.loop-j.props _ c.post_value.new.props c.loop-j.invariant
    (rw c.live_in_temps-temps.ensures at is) (rw c.live_in_temps-temps.ensures at c.in_ok-post_value.ensures)
