use Rattle.std.proofs.Common.{map}
use Rattle.un_sites.specs.Sites.{place_of}
use Rattle.un_rooms.proofs.After.{after_is}
use Rattle.un_rooms.proofs.alive.after.Goals as goal

pub returns : goal.returns
returns c =
    after_is c.args.reach.low c.in_ok-marks.marks.items c.as_slice.result.now c.as_slice-2.result.now c.args.arcs.now c.args.o.now
    c.args.spots.now c.any_follows-with_terminator.result (map place_of c.in_ok-found.found) c.as_slice.ensures.value
    c.as_slice-2.ensures.value c.in_ok-marks.ensures c.any_follows-with_terminator.ensures c.in_ok-found.ensures
