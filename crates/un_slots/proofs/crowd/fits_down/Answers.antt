use Rattle.std.proofs.Common.{ℕ, ◌≡◌, ◌<◌, ◌≤◌, ◌+◌, ◌-◌, ◌*◌, slice_index, nat_le, sym, subst, arith, inl, inr}
use Rattle.std.proofs.lemmas.Bool.{cases_lt}
use Rattle.un_slots.specs.Counts.{sum_from}
use Rattle.un_slots.specs.CrowdLaws.{each_below, le_true}
use Rattle.un_slots.specs.CountLaws.{not_below, more_false, down_step, room_step, room_for_all}
use Rattle.un_slots.proofs.crowd.fits_down.Goals as goal

pub returns-then-crowd-room : goal.returns-then-crowd-room
returns-then-crowd-room c =
    let f = slice_index c.args.cycles.now in
    let high = c.args.high in
    let at = c.loop-c.c in
    let inv = c.loop-c.invariant in
    let down = down_step f high at c.loop-c-test.true inv.within in
    let room = room_step c.args.places high at c.loop-c-test.true inv.within in
    let more : c.args.places * (high + 1 - (at - 1)) < sum_from f (at - 1) (high + 1 - (at - 1)) =
    omega (arith, down, room, inv.crowd, inv.room, c.from-crowd.ensures, c.from-room.ensures, c.if-crowd-room.true) in
    not_below (λ low. nat_le (sum_from f low (high + 1 - low)) (c.args.places * (high + 1 - low))) (high + 1) (at - 1)
    (omega (arith, inv.within, c.loop-c-test.true))
    (more_false (sum_from f (at - 1) (high + 1 - (at - 1))) (c.args.places * (high + 1 - (at - 1))) more)

pub returns-then-room-total : goal.returns-then-room-total
returns-then-room-total c =
    let f = slice_index c.args.cycles.now in
    let high = c.args.high in
    let at = c.loop-c.c in
    let inv = c.loop-c.invariant in
    let down = down_step f high at c.loop-c-test.true inv.within in
    let room = room_step c.args.places high at c.loop-c-test.true inv.within in
    sym (each_below (λ low. nat_le (sum_from f low (high + 1 - low)) (c.args.places * (high + 1 - low))) (high + 1)
    (λ low lt. le_true (sum_from f low (high + 1 - low)) (c.args.places * (high + 1 - low)) (elim (cases_lt low at) [
      | inl less ↦ room_for_all f c.args.places (high + 1) low (at - 1) c.args.total c.requires.whole
          (omega (arith, room, inv.room, c.from-room.ensures, c.if-room-total.true))
          (omega (arith, less)) (omega (arith, inv.within))
      | inr more ↦ inv.passed low more lt
    ])))

pub loop-c-preserved : goal.loop-c-preserved
loop-c-preserved c =
    let f = slice_index c.args.cycles.now in
    let high = c.args.high in
    let at = c.loop-c.c in
    let inv = c.loop-c.invariant in
    let down = down_step f high at c.loop-c-test.true inv.within in
    let room = room_step c.args.places high at c.loop-c-test.true inv.within in
    let entry = c.type_inv.cycles (at - 1) in
    record {
      within = omega (arith, inv.within);
      crowd = omega (arith, down, inv.crowd, c.from-crowd.ensures);
      room = omega (arith, room, inv.room, c.from-room.ensures);
      small = omega (arith, inv.small, inv.within, c.loop-c-test.true, c.from-crowd.ensures, entry);
      few = omega (arith, inv.few, inv.within, c.loop-c-test.true, c.from-room.ensures, c.ranges.places);
      passed = λ low le lt. elim (cases_lt low at) [
        | inl less ↦ (
            let is : at - 1 ≡ low = omega (arith, le, less) in
            let fit : sum_from f (at - 1) (high + 1 - (at - 1)) ≤ c.args.places * (high + 1 - (at - 1)) =
            omega (arith, down, room, inv.crowd, inv.room, c.from-crowd.ensures, c.from-room.ensures, c.if-crowd-room.false) in
            subst (λ (k : ℕ). sum_from f k (high + 1 - k) ≤ c.args.places * (high + 1 - k)) is fit)
        | inr more ↦ inv.passed low more lt
      ];
    }

pub returns : goal.returns
returns c =
    let f = slice_index c.args.cycles.now in
    let high = c.args.high in
    sym (each_below (λ low. nat_le (sum_from f low (high + 1 - low)) (c.args.places * (high + 1 - low))) (high + 1)
    (λ low lt. le_true (sum_from f low (high + 1 - low)) (c.args.places * (high + 1 - low))
    (c.loop-c.invariant.passed low (omega (arith, c.loop-c-test.false)) lt)))
