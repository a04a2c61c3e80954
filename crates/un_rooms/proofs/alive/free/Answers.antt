use Rattle.std.proofs.Common.{◌∙◌, Bool, List, [], ◌∷◌, ap, map, subst, sym}
use Rattle.std.specs.Prelude.{◌||◌, ◌&&◌, not}
use Rattle.un_ir.specs.Kinds.{is_source}
use Rattle.un_ir.specs.Linear.{is_in}
use Rattle.un_rooms.specs.Reach.{Marks, leading}
use Rattle.un_sites.specs.Crossings.{is_free}
use Rattle.un_sites.specs.Sites.{place_of}
use Rattle.un_rooms.proofs.CallWalks.{filter_alike}
use Rattle.un_rooms.proofs.Marking.{reached_is_leading}
use Rattle.un_rooms.proofs.alive.free.Goals as goal

pub returns : goal.returns
returns c =
    let arcs = c.args.arcs.now in
    let o = c.args.o.now in
    let marks = subst (λ (ms : List Bool). Marks c.args.reach.low ms (leading arcs (o.op ∷ []))) (sym c.as_slice.ensures.value)
    c.in_ok-marks.ensures in
    c.in_ok-found.ensures ∙ filter_alike _ (is_free arcs (place_of o)) (map place_of c.args.spots.now)
    (λ p. ap (λ (b : Bool). is_source p.it.kind && not (is_in p.it.kind || b)) (marks p.op ∙ sym (reached_is_leading arcs p.op o.op)))
