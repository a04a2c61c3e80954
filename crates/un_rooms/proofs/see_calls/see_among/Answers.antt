use Rattle.std.proofs.Common.{◌∙◌, map}
use Rattle.std.specs.Prelude.{filter}
use Rattle.un_sites.specs.Rooms.{is_behind, users_of}
use Rattle.un_sites.specs.Sites.{place_of}
use Rattle.un_rooms.proofs.Gathering.{gathered_long}
use Rattle.un_rooms.proofs.Seeing.{long_as}
use Rattle.un_rooms.proofs.see_calls.see_among.Goals as goal

pub returns-clause-sees : goal.returns-clause-sees
returns-clause-sees c =
    let ps = map place_of c.args.spots.now in
    c.in_ok-site.ensures.sees ps c.args.span.first
    (gathered_long c.args.span.first c.args.span.count (users_of (filter (is_behind c.args.arcs.now (place_of c.args.call.now)) ps)) _
    c.in_ok-users.ensures)

pub returns-clause-long : goal.returns-clause-long
returns-clause-long c =
    c.in_ok-site.ensures.long
    ∙ long_as c.args.span.first c.args.span.count
    (users_of (filter (is_behind c.args.arcs.now (place_of c.args.call.now)) (map place_of c.args.spots.now))) _ c.in_ok-users.ensures
