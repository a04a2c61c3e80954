use Rattle.std.proofs.Common.{◌∙◌, sym, ap, map}
use Rattle.un_sites.specs.Rooms.{users_of, temp_at}
use Rattle.un_sites.specs.Sites.{place_of, definers_in}
use Rattle.un_rooms.proofs.Gathering.{span_among, gathered_long}
use Rattle.un_rooms.proofs.post_aparts.temps_at.Goals as goal

pub with_users-requires : goal.with_users-requires
with_users-requires c =
    span_among c.span_of-span.result.first c.span_of-span.result.count (users_of (map place_of c.args.spots.now)) _ _ _
    c.in_ok-lists.ensures (c.as_slice.ensures ∙ sym c.as_slice-2.ensures) c.span_of-span.ensures

pub returns : goal.returns
returns c =
    c.in_ok-made.ensures (users_of (map place_of c.args.spots.now))
    (gathered_long c.span_of-span.result.first c.span_of-span.result.count (users_of (map place_of c.args.spots.now)) _
    c.in_ok-lists.ensures)
    ∙ ap (map (temp_at (definers_in c.args.sites.now) (map place_of c.args.spots.now))) (c.as_slice-2.ensures ∙ c.in_ok-temps.ensures)
