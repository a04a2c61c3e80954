use Rattle.std.proofs.Common.{◌∙◌, ◌+◌, Bool, List, filter, ap}
use Rattle.std.specs.List.{list_any, range_with_len}
use Rattle.un_isa.specs.declared.reg.TheConstants.{FIRST_SLOT, SLOTS}
use Rattle.un_rooms.specs.Marked.{is_marked}
use Rattle.un_sites.specs.Pressures.{may_have, room_of}
use Rattle.un_sites.specs.Sites.{definers_in}
use Rattle.un_rooms.proofs.Marks.{filter_range}
use Rattle.un_rooms.proofs.room.room_of.Goals as goal

pub returns : goal.returns
unfolding room_of
returns c =
    c.in_ok-room.ensures ∙ ap (λ (ms : List Bool). filter (is_marked ms) (range_with_len 0 (FIRST_SLOT + SLOTS))) c.as_slice.ensures.value
    ∙ filter_range (is_marked c.in_ok-marks.marks.items) (λ r. list_any (may_have c.args.domains.now r) (definers_in c.args.sites.now))
    0 (FIRST_SLOT + SLOTS) c.in_ok-marks.ensures
