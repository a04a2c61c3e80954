use Rattle.std.proofs.Common.{Bool, List, ℕ, ◌≡◌, ◌<◌, ◌≤◌, ◌+◌, ◌∙◌, ◌&&◌, true, false, length, slice_index, ap, sym, subst, arith}
use Rattle.std.specs.List.{list_all}
use Rattle.un_isa.specs.PacketCounts.{resources}
use Rattle.un_prop.specs.AmongLaws.{has_among}
use Rattle.un_slots.specs.Crowds.{all_below}
use Rattle.un_length.specs.declared.block.Task.{Task}
use Rattle.un_length.specs.Windows.{earliest, latest}
use Rattle.un_length.specs.Rooms.{in_order, end_fits}
use Rattle.un_length.specs.RoomLaws.{room_off, room_on}
use Rattle.un_length.specs.CountingLaws.{all_fit_ended, in_order_each}
use Rattle.un_length.specs.Mixed.{mixed_room}
use Rattle.un_length.specs.MixedLaws.{fit_same, mixed_ended}
use Rattle.un_length.specs.LengthLaws.{latest_within}
use Rattle.un_length.proofs.room.have_room.Goals as goal

pub max-greatest-requires-clause-there : goal.max-greatest-requires-clause-there
max-greatest-requires-clause-there c = has_among c.args.w.now.vars.now c.args.block.now.end c.args.w.now.store.now.sets
    c.requires.vars.of_end c.requires.known

pub max-greatest-requires-clause-some : goal.max-greatest-requires-clause-some
max-greatest-requires-clause-some c = c.requires.live c.args.block.now.end.0
    (has_among c.args.w.now.vars.now c.args.block.now.end c.args.w.now.store.now.sets c.requires.vars.of_end c.requires.known)

pub returns-then-not-in_order : goal.returns-then-not-in_order
returns-then-not-in_order c =
    let b = c.args.block.now in
    let s = c.args.w.now.store.now.sets in
    let early = slice_index c.find_earliest.new.early in
    let late = slice_index c.find_latest.new.late in
    let same = fit_same b.ops b.horizon (earliest b.ops b.arcs s) (latest b.ops b.arcs b.end s) early late
    (λ i lt. sym (c.find_earliest.ensures i lt)) (λ i lt. sym (c.find_latest.ensures i lt)) in
    let off = subst (λ (ts : List Task). in_order ts early late ≡ false) c.as_slice-ops.ensures
    (sym c.in_order.ensures ∙ c.if-not-in_order.true) in
    sym (same ∙ ap (λ (r : Bool). r && mixed_room b.ops b.horizon early late) (room_off b.ops b.horizon early late off))

pub returns-then-not-all_fit : goal.returns-then-not-all_fit
returns-then-not-all_fit c =
    let b = c.args.block.now in
    let s = c.args.w.now.store.now.sets in
    let early = slice_index c.find_earliest.new.early in
    let late = slice_index c.find_latest.new.late in
    let same = fit_same b.ops b.horizon (earliest b.ops b.arcs s) (latest b.ops b.arcs b.end s) early late
    (λ i lt. sym (c.find_earliest.ensures i lt)) (λ i lt. sym (c.find_latest.ensures i lt)) in
    let end = c.max-greatest.result + 1 in
    let on : in_order b.ops early late ≡ true = subst (λ (ts : List Task). in_order ts early late ≡ true) c.as_slice-ops.ensures
    (sym c.in_order.ensures ∙ c.if-not-in_order.false) in
    let sooner : (i : ℕ) → i < length b.ops → late i < end = λ i lt. (
    let is = c.find_latest.ensures i lt in
    let within = latest_within b.ops b.arcs b.end s i in
    omega (arith, is, within, c.max-greatest.ensures)) in
    let le : end ≤ b.horizon = omega (arith, c.requires.near, c.max-greatest.ensures) in
    let room = ap (λ (ts : List Task). list_all (λ r. all_below (end_fits r ts early late) end) resources) c.as_slice-ops.ensures
    ∙ (all_fit_ended b.ops early late end b.horizon on sooner le ∙ sym (room_on b.ops b.horizon early late on)) in
    let off = sym room ∙ (sym c.all_fit.ensures ∙ c.if-not-all_fit.true) in
    sym (same ∙ ap (λ (r : Bool). r && mixed_room b.ops b.horizon early late) off)

pub returns : goal.returns
returns c =
    let b = c.args.block.now in
    let s = c.args.w.now.store.now.sets in
    let early = slice_index c.find_earliest.new.early in
    let late = slice_index c.find_latest.new.late in
    let same = fit_same b.ops b.horizon (earliest b.ops b.arcs s) (latest b.ops b.arcs b.end s) early late
    (λ i lt. sym (c.find_earliest.ensures i lt)) (λ i lt. sym (c.find_latest.ensures i lt)) in
    let end = c.max-greatest.result + 1 in
    let on : in_order b.ops early late ≡ true = subst (λ (ts : List Task). in_order ts early late ≡ true) c.as_slice-ops.ensures
    (sym c.in_order.ensures ∙ c.if-not-in_order.false) in
    let sooner : (i : ℕ) → i < length b.ops → late i < end = λ i lt. (
    let is = c.find_latest.ensures i lt in
    let within = latest_within b.ops b.arcs b.end s i in
    omega (arith, is, within, c.max-greatest.ensures)) in
    let le : end ≤ b.horizon = omega (arith, c.requires.near, c.max-greatest.ensures) in
    let room = ap (λ (ts : List Task). list_all (λ r. all_below (end_fits r ts early late) end) resources) c.as_slice-ops.ensures
    ∙ (all_fit_ended b.ops early late end b.horizon on sooner le ∙ sym (room_on b.ops b.horizon early late on)) in
    let fits = sym room ∙ (sym c.all_fit.ensures ∙ c.if-not-all_fit.false) in
    let mixed = ap (λ (ts : List Task). mixed_room ts end early late) c.as_slice-ops.ensures
    ∙ mixed_ended b.ops early late (in_order_each b.ops early late on) end b.horizon sooner le in
    c.mixed_room.ensures ∙ (mixed ∙ sym (same ∙ ap (λ (r : Bool). r && mixed_room b.ops b.horizon early late) fits))
