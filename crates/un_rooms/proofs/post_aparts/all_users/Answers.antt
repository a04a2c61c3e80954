use Rattle.std.proofs.Common.{map, ◌∙◌}
use Rattle.un_sites.specs.Rooms.{users_of}
use Rattle.un_sites.specs.Sites.{place_of}
use Rattle.un_rooms.proofs.Gathering.{gathers_first}
use Rattle.un_rooms.proofs.post_aparts.all_users.Goals as goal

pub returns : goal.returns
returns c =
    c.from_vec.ensures ∙ gathers_first c.args.first c.args.count (users_of (map place_of c.args.spots.now)) _ _ c.in_ok-lists.ensures
    c.in_ok-add_places.ensures
