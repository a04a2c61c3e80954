use Rattle.std.proofs.Common.{ℕ, ◌∙◌, Bool, List, filter, length, ap, sym}
use Rattle.std.specs.List.{list_any, range_with_len}
use Rattle.un_isa.specs.declared.reg.TheConstants.{FIRST_SLOT, SLOTS}
use Rattle.un_rooms.specs.Marked.{is_marked}
use Rattle.un_sites.specs.Pressures.{may_have, room_of}
use Rattle.un_sites.specs.Sites.{definers_in}
use Rattle.un_rooms.proofs.Marks.{filter_range, below_range}
use Rattle.un_rooms.proofs.room.registers_of.Goals as goal

pub returns : goal.returns
unfolding room_of
returns c =
    let may = λ (r : ℕ). list_any (may_have c.args.domains.now r) (definers_in c.args.sites.now) in
    c.marked_registers.ensures
    ∙ (ap (λ (ms : List Bool). length (filter (is_marked ms) (range_with_len 0 FIRST_SLOT))) c.as_slice.ensures.value
    ∙ ap (λ (rs : List ℕ). length rs)
    (filter_range (is_marked c.in_ok-marks.marks.items) may 0 FIRST_SLOT c.in_ok-marks.ensures
    ∙ sym (below_range may FIRST_SLOT SLOTS)))
