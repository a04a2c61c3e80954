use Rattle.std.proofs.Common.{Bool, List, ℕ, ◌≡◌, ◌<◌, ◌≤◌, ◌+◌, ◌∙◌, ◌&&◌, true, false, length, slice_index, ap, sym, subst, arith}
use Rattle.std.specs.List.{list_all}
use Rattle.un_isa.specs.PacketCounts.{resources}
use Rattle.un_slots.specs.Crowds.{all_below}
use Rattle.un_length.specs.declared.block.Task.{Task}
use Rattle.un_length.specs.Rooms.{in_order, end_fits}
use Rattle.un_length.specs.RoomLaws.{room_off, room_on}
use Rattle.un_length.specs.CountingLaws.{all_fit_ended, in_order_each}
use Rattle.un_length.specs.Mixed.{mixed_room}
use Rattle.un_length.specs.MixedLaws.{fit_same, mixed_ended}
use Rattle.un_least.specs.Least.{earliest_of, latest_of}
use Rattle.un_least.specs.LeastLaws.{latest_of_within}
use Rattle.un_least.proofs.least.has_room_before.Goals as goal

pub returns-then-not-in_order : goal.returns-then-not-in_order
returns-then-not-in_order c =
    let b = c.args.block.now in
    let early = slice_index c.args.early.now in
    let late = slice_index c.find_tails.new.late in
    let end = c.args.end + 1 in
    let same = fit_same b.ops b.horizon (earliest_of b.ops b.arcs) (latest_of b.ops b.arcs c.args.end) early late
    (λ i lt. sym (c.requires.early i lt)) (λ i lt. sym (c.find_tails.ensures i lt)) in
    let off = subst (λ (ts : List Task). in_order ts early late ≡ false) c.as_slice-ops.ensures
    (sym c.in_order.ensures ∙ c.if-not-in_order.true) in
    sym (same ∙ ap (λ (r : Bool). r && mixed_room b.ops b.horizon early late) (room_off b.ops b.horizon early late off))

pub returns-then-not-all_fit : goal.returns-then-not-all_fit
returns-then-not-all_fit c =
    let b = c.args.block.now in
    let early = slice_index c.args.early.now in
    let late = slice_index c.find_tails.new.late in
    let end = c.args.end + 1 in
    let same = fit_same b.ops b.horizon (earliest_of b.ops b.arcs) (latest_of b.ops b.arcs c.args.end) early late
    (λ i lt. sym (c.requires.early i lt)) (λ i lt. sym (c.find_tails.ensures i lt)) in
    let on : in_order b.ops early late ≡ true = subst (λ (ts : List Task). in_order ts early late ≡ true) c.as_slice-ops.ensures
    (sym c.in_order.ensures ∙ c.if-not-in_order.false) in
    let sooner : (i : ℕ) → i < length b.ops → late i < end = λ i lt. (
    let is = c.find_tails.ensures i lt in
    let within = latest_of_within b.ops b.arcs c.args.end i in
    omega (arith, is, within)) in
    let le : end ≤ b.horizon = omega (arith, c.requires.near) in
    let room = ap (λ (ts : List Task). list_all (λ r. all_below (end_fits r ts early late) end) resources) c.as_slice-ops.ensures
    ∙ (all_fit_ended b.ops early late end b.horizon on sooner le ∙ sym (room_on b.ops b.horizon early late on)) in
    let off = sym room ∙ (sym c.all_fit.ensures ∙ c.if-not-all_fit.true) in
    sym (same ∙ ap (λ (r : Bool). r && mixed_room b.ops b.horizon early late) off)

pub returns : goal.returns
returns c =
    let b = c.args.block.now in
    let early = slice_index c.args.early.now in
    let late = slice_index c.find_tails.new.late in
    let end = c.args.end + 1 in
    let same = fit_same b.ops b.horizon (earliest_of b.ops b.arcs) (latest_of b.ops b.arcs c.args.end) early late
    (λ i lt. sym (c.requires.early i lt)) (λ i lt. sym (c.find_tails.ensures i lt)) in
    let on : in_order b.ops early late ≡ true = subst (λ (ts : List Task). in_order ts early late ≡ true) c.as_slice-ops.ensures
    (sym c.in_order.ensures ∙ c.if-not-in_order.false) in
    let sooner : (i : ℕ) → i < length b.ops → late i < end = λ i lt. (
    let is = c.find_tails.ensures i lt in
    let within = latest_of_within b.ops b.arcs c.args.end i in
    omega (arith, is, within)) in
    let le : end ≤ b.horizon = omega (arith, c.requires.near) in
    let room = ap (λ (ts : List Task). list_all (λ r. all_below (end_fits r ts early late) end) resources) c.as_slice-ops.ensures
    ∙ (all_fit_ended b.ops early late end b.horizon on sooner le ∙ sym (room_on b.ops b.horizon early late on)) in
    let fits = sym room ∙ (sym c.all_fit.ensures ∙ c.if-not-all_fit.false) in
    let mixed = ap (λ (ts : List Task). mixed_room ts end early late) c.as_slice-ops.ensures
    ∙ mixed_ended b.ops early late (in_order_each b.ops early late on) end b.horizon sooner le in
    c.mixed_room.ensures ∙ (mixed ∙ sym (same ∙ ap (λ (r : Bool). r && mixed_room b.ops b.horizon early late) fits))
