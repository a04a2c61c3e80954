use Rattle.std.proofs.Common.{◌∙◌, ap, map, List}
use Rattle.un_rooms.specs.Gathered.{gathered}
use Rattle.un_sites.specs.Places.{Place}
use Rattle.un_sites.specs.Rooms.{users_of}
use Rattle.un_sites.specs.Sites.{place_of}
use Rattle.un_sites.specs.declared.sites.Spot.{Spot}
use Rattle.un_rooms.proofs.see_calls.users_behind.Goals as goal

pub returns : goal.returns
returns c =
    c.in_ok-users.ensures
    ∙ ap (λ (spots : List Spot). gathered c.args.span.first c.args.span.count (users_of (map place_of spots))) c.as_slice.ensures
    ∙ ap (λ (qs : List Place). gathered c.args.span.first c.args.span.count (users_of qs)) c.in_ok-later.ensures
