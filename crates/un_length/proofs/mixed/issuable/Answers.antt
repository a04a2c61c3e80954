use Rattle.std.proofs.Common.{◌≡◌, ◌&&◌, ℕ, ap, length, slice_index, arith}
use Rattle.un_length.specs.Sums.{as_number, count_below}
use Rattle.un_length.specs.SumLaws.{count_few, one_at_most, sum_part}
use Rattle.un_length.specs.Mixed.{is_of, may_issue}
use Rattle.un_length.proofs.mixed.issuable.Goals as goal

pub overflow_add-many : goal.overflow_add-many
overflow_add-many c =
    let t = c.args.t.now in
    let p = λ (i : ℕ). is_of c.args.sort c.args.r c.args.s t.ops.now i
    && may_issue (slice_index t.early.now) (slice_index t.late.now) c.args.q i in
    let few = count_few p c.loop-i.i in
    let one = one_at_most (p c.loop-i.i) in
    omega (arith, few, one, t.few, c.loop-i-test.true, c.loop-i.invariant, c.one_of-many.ensures)

pub returns-then-many-most-clause-count : goal.returns-then-many-most-clause-count
returns-then-many-most-clause-count c =
    let t = c.args.t.now in
    let p = λ (i : ℕ). is_of c.args.sort c.args.r c.args.s t.ops.now i
    && may_issue (slice_index t.early.now) (slice_index t.late.now) c.args.q i in
    let part = sum_part (λ i. as_number (p i)) (length t.ops.now) c.loop-i.i c.loop-i-test.true in
    omega (arith, part, c.loop-i.invariant, c.if-many-most.true)

pub returns-then-many-most-clause-few : goal.returns-then-many-most-clause-few
returns-then-many-most-clause-few c =
    let t = c.args.t.now in
    let few = count_few (λ (i : ℕ). is_of c.args.sort c.args.r c.args.s t.ops.now i
    && may_issue (slice_index t.early.now) (slice_index t.late.now) c.args.q i) c.loop-i.i in
    omega (arith, few, c.loop-i.invariant, c.if-many-most.true, c.loop-i-test.true)

pub returns-clause-count : goal.returns-clause-count
returns-clause-count c =
    let t = c.args.t.now in
    let p = λ (i : ℕ). is_of c.args.sort c.args.r c.args.s t.ops.now i
    && may_issue (slice_index t.early.now) (slice_index t.late.now) c.args.q i in
    let end : c.loop-i.i ≡ length t.ops.now = omega (arith, c.loop-i-test.false, c.loop-i.auto.i-end) in
    let all = ap (count_below p) end in
    omega (arith, all, c.loop-i.invariant, c.min.ensures)

pub returns-clause-few : goal.returns-clause-few
returns-clause-few c =
    let t = c.args.t.now in
    let few = count_few (λ (i : ℕ). is_of c.args.sort c.args.r c.args.s t.ops.now i
    && may_issue (slice_index t.early.now) (slice_index t.late.now) c.args.q i) c.loop-i.i in
    omega (arith, few, c.loop-i.invariant, c.loop-i.auto.i-end, c.min.ensures)
