use Rattle.std.proofs.Common.{ap, map}
use Rattle.std.specs.Option.{option_map}
use Rattle.un_sites.specs.Sites.{place_of}
use Rattle.un_rooms.proofs.CallWalks.{between_is}
use Rattle.un_rooms.proofs.call_waits.between.Goals as goal

pub returns : goal.returns
returns c =
    between_is c.args.arcs.now (place_of c.args.call.now) (place_of c.in-Some.d) (option_map place_of c.args.next)
    (map place_of c.args.spots.now) (map place_of c.in_ok-found.found) (map place_of c.as_slice.result.now)
    (map place_of c.in_ok-rest-in-Some.rest) (ap (option_map place_of) c.in-Some.is) c.in_ok-found.ensures
    (ap (map place_of) c.as_slice.ensures) c.in_ok-rest-in-Some.ensures
