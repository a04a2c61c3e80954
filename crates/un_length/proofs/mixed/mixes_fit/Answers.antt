use Rattle.std.proofs.Common.{ℕ, suc, ◌≡◌, ◌+◌, ◌||◌, ◌∙◌, Bool, true, false}
use Rattle.std.proofs.Common.{if◌then◌else◌, length, nat_eq, nat_lt, slice_index, refl, sym, ap, subst, arith}
use Rattle.std.proofs.lemmas.Bool.Decides.{nat_tests}
use Rattle.un_isa.specs.declared.packet_counts.Resource.TheVariants.{Instructions}
use Rattle.un_slots.specs.Counts.{sum_from}
use Rattle.un_slots.specs.Crowds.{all_below}
use Rattle.un_slots.specs.CountLaws.{not_below}
use Rattle.un_length.specs.Sums.{count_below}
use Rattle.un_length.specs.SumLaws.{count_few, none_counted}
use Rattle.un_length.specs.Counting.{ends_at, ended, starts}
use Rattle.un_length.specs.CountingLaws.{none_started, none_ended, starts_more, ended_more, in_order_each}
use Rattle.un_length.specs.Mixed.{AreMixed, lost_at, mixed_end_fits}
use Rattle.un_length.specs.MixedLaws.{from_last, lost_most, lost_few, lost_or_none, quiet_mixed, whole_mixed, fits_mixed, mixed_step}
use Rattle.un_length.proofs.Steps.{below_next, right_of}
use Rattle.un_length.proofs.mixed.mixes_fit.Goals as goal

pub loop-high-init : goal.loop-high-init
loop-high-init c =
    let t = c.args.t.now in
    let early = slice_index t.early.now in
    let late = slice_index t.late.now in
    record {
      counts = λ k. (
          let none = c.requires.none k in
          let started = none_started Instructions t.ops.now early late k in
          let first : nat_lt k 0 ≡ false = grind (arith, nat_tests) in
          let lost = ap (λ (b : Bool). if b then lost_at t.ops.now early late k else 0) first in
          omega (arith, none, started, lost));
      total = (let none = none_ended Instructions t.ops.now early late in omega (arith, none));
      passed = refl;
    }

pub add_ending-many-requires-clause-small : goal.add_ending-many-requires-clause-small
add_ending-many-requires-clause-small c k =
    let t = c.args.t.now in
    let early = slice_index t.early.now in
    let late = slice_index t.late.now in
    let high = c.loop-high.high in
    let more = starts_more Instructions t.ops.now early late high k in
    let few = count_few (starts Instructions t.ops.now early late (high + 1) k) (length t.ops.now) in
    let lost = lost_or_none t.ops.now early late k (nat_lt k high) in
    let so_far = c.loop-high.invariant.counts k in
    omega (arith, more, few, lost, so_far, t.few)

pub lose-requires-clause-small : goal.lose-requires-clause-small
lose-requires-clause-small c =
    let t = c.args.t.now in
    let early = slice_index t.early.now in
    let late = slice_index t.late.now in
    let high = c.loop-high.high in
    let more = starts_more Instructions t.ops.now early late high high in
    let few = count_few (starts Instructions t.ops.now early late (high + 1) high) (length t.ops.now) in
    let same : nat_lt high high ≡ false = grind (arith, nat_tests) in
    let none = ap (λ (b : Bool). if b then lost_at t.ops.now early late high else 0) same in
    let most = lost_most t.ops.now early late high in
    let so_far = c.loop-high.invariant.counts high in
    let here = c.add_ending-many.ensures.counts high in
    omega (arith, more, few, none, most, so_far, here, t.few, c.lost_at-lost.ensures)

pub overflow_add-total-in-loop-high : goal.overflow_add-total-in-loop-high
overflow_add-total-in-loop-high c =
    let t = c.args.t.now in
    let early = slice_index t.early.now in
    let late = slice_index t.late.now in
    let high = c.loop-high.high in
    let ends = count_few (ended Instructions t.ops.now late high) (length t.ops.now) in
    let lost = lost_few t.ops.now early late high in
    let many = count_few (ends_at Instructions t.ops.now late high) (length t.ops.now) in
    let most = lost_most t.ops.now early late high in
    omega (
      arith,
      ends,
      lost,
      many,
      most,
      t.few,
      c.ranges.end,
      c.loop-high-test.true,
      c.loop-high.invariant.total,
      c.add_ending-many.ensures.many,
      c.lost_at-lost.ensures,
      c.from.ensures,
      c.from-in-loop-high.ensures,
    )

pub overflow_add-many : goal.overflow_add-many
overflow_add-many c =
    let t = c.args.t.now in
    let many = count_few (ends_at Instructions t.ops.now (slice_index t.late.now) c.loop-high.high) (length t.ops.now) in
    let most = lost_most t.ops.now (slice_index t.early.now) (slice_index t.late.now) c.loop-high.high in
    omega (arith, many, most, t.few, c.add_ending-many.ensures.many, c.lost_at-lost.ensures)

pub has_room-requires-clause-whole : goal.has_room-requires-clause-whole
has_room-requires-clause-whole c =
    let t = c.args.t.now in
    let ops = t.ops.now in
    let early = slice_index t.early.now in
    let late = slice_index t.late.now in
    let high = c.loop-high.high in
    let counts : AreMixed ops early late (high + 1) c.lose.new.counts = mixed_step ops early late high c.loop-high.counts
    c.add_ending-many.new.counts c.lose.new.counts c.loop-high.invariant.counts c.add_ending-many.ensures.counts (λ k. c.lose.ensures k
    ∙ ap (λ (n : ℕ). slice_index c.add_ending-many.new.counts k + (if nat_eq high k then n else 0)) c.lost_at-lost.ensures) in
    let whole = whole_mixed ops early late (in_order_each ops early late c.requires.ordered) high c.lose.new.counts counts in
    let more = ended_more Instructions ops early late high in
    let next : high + 1 ≡ suc high = omega arith in
    let last = ap (sum_from (lost_at ops early late) 0) next ∙ from_last (lost_at ops early late) 0 high in
    let at : 0 + high ≡ high = omega arith in
    let here = ap (lost_at ops early late) at in
    omega (
      arith,
      whole,
      more,
      last,
      here,
      c.loop-high.invariant.total,
      c.add_ending-many.ensures.many,
      c.lost_at-lost.ensures,
      c.from.ensures,
      c.from-in-loop-high.ensures,
    )

pub returns-then-not-has_room : goal.returns-then-not-has_room
returns-then-not-has_room c =
    let t = c.args.t.now in
    let ops = t.ops.now in
    let early = slice_index t.early.now in
    let late = slice_index t.late.now in
    let high = c.loop-high.high in
    let counts : AreMixed ops early late (high + 1) c.lose.new.counts = mixed_step ops early late high c.loop-high.counts
    c.add_ending-many.new.counts c.lose.new.counts c.loop-high.invariant.counts c.add_ending-many.ensures.counts (λ k. c.lose.ensures k
    ∙ ap (λ (n : ℕ). slice_index c.add_ending-many.new.counts k + (if nat_eq high k then n else 0)) c.lost_at-lost.ensures) in
    not_below (mixed_end_fits ops early late) c.args.end high c.loop-high-test.true
    (sym (fits_mixed ops early late (in_order_each ops early late c.requires.ordered) high c.lose.new.counts counts)
    ∙ right_of (nat_eq (c.add_ending-many.result + c.lost_at-lost.result) 0) _ (sym c.has_room.ensures ∙ c.if-not-has_room.true))

pub loop-high-preserved : goal.loop-high-preserved
loop-high-preserved c =
    let t = c.args.t.now in
    let ops = t.ops.now in
    let early = slice_index t.early.now in
    let late = slice_index t.late.now in
    let high = c.loop-high.high in
    let inv = c.loop-high.invariant in
    let many = c.add_ending-many.ensures.many in
    let ordered = in_order_each ops early late c.requires.ordered in
    let counts : AreMixed ops early late (high + 1) c.lose.new.counts = mixed_step ops early late high c.loop-high.counts
    c.add_ending-many.new.counts c.lose.new.counts inv.counts c.add_ending-many.ensures.counts (λ k. c.lose.ensures k
    ∙ ap (λ (n : ℕ). slice_index c.add_ending-many.new.counts k + (if nat_eq high k then n else 0)) c.lost_at-lost.ensures) in
    let zero_many : nat_eq (c.add_ending-many.result + c.lost_at-lost.result) 0 ≡ true
    → count_below (ends_at Instructions ops late high) (length ops) ≡ 0 =
    λ e. (let none : c.add_ending-many.result + c.lost_at-lost.result ≡ 0 = grind (arith, nat_tests, e) in omega (arith, none, many)) in
    let fit : mixed_end_fits ops early late high ≡ true = known_fit (nat_eq (c.add_ending-many.result + c.lost_at-lost.result) 0) refl
    (sym c.has_room.ensures ∙ c.if-not-has_room.false)
    (λ e. quiet_mixed ops early late ordered high inv.passed
    (none_counted (ends_at Instructions ops late high) (length ops) (zero_many e)))
    (λ e. sym (fits_mixed ops early late ordered high c.lose.new.counts counts) ∙ e) in
    record {
      counts = counts;
      total = (
          let more = ended_more Instructions ops early late high in
          let next : high + 1 ≡ suc high = omega arith in
          let last = ap (sum_from (lost_at ops early late) 0) next ∙ from_last (lost_at ops early late) 0 high in
          let at : 0 + high ≡ high = omega arith in
          let here = ap (lost_at ops early late) at in
          omega (arith, more, many, last, here, inv.total, c.lost_at-lost.ensures, c.from.ensures, c.from-in-loop-high.ensures));
      passed = below_next (mixed_end_fits ops early late) high inv.passed fit;
    }
  where
    known_fit : {x y : Bool} (b : Bool) → b ≡ b → (b || x) ≡ true → (b ≡ true → y ≡ true) → (x ≡ true → y ≡ true) → y ≡ true
    known_fit true e h f g = f refl
    known_fit false e h f g = g h

pub returns : goal.returns
returns c =
    let t = c.args.t.now in
    let test = mixed_end_fits t.ops.now (slice_index t.early.now) (slice_index t.late.now) in
    let end : c.loop-high.high ≡ c.args.end = omega (arith, c.loop-high-test.false, c.loop-high.auto.high-end) in
    sym (subst (λ (n : ℕ). all_below test n ≡ true) end c.loop-high.invariant.passed)
