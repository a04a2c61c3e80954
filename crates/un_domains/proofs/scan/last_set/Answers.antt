use Rattle.std.proofs.Common.{arith, refl, ◌≡◌, ◌<◌, ◌^◌, ◌+◌, ◌-◌, ◌*◌, ◌/◌, inl, inr}
use Rattle.std.specs.Int.Count.{count_leading_zeros}
use Rattle.std.proofs.lemmas.Bool.{cases_lt}
use Rattle.un_domains.specs.BitLaws.{word_last, word_clear}
use Rattle.un_domains.proofs.scan.last_set.Goals as goal

pub overflow_add-place : goal.overflow_add-place
overflow_add-place c =
    let last = c.loop-at.at - 1 in
    let rest = c.low_bits-rest.result in
    let some : 0 < rest = omega (arith, c.if-rest-ne0.true) in
    let fits : rest < 2 ^ 64 = omega (arith, c.low_bits-rest.type_inv) in
    let found = word_last c.args.words.now last rest (count_leading_zeros 64 rest) c.low_bits-rest.ensures refl fits some in
    omega (arith, found.1, c.loop-at.invariant.high, c.loop-at-test.true)

pub returns-then-rest-ne0-clause-high : goal.returns-then-rest-ne0-clause-high
returns-then-rest-ne0-clause-high c =
    let last = c.loop-at.at - 1 in
    let rest = c.low_bits-rest.result in
    let some : 0 < rest = omega (arith, c.if-rest-ne0.true) in
    let fits : rest < 2 ^ 64 = omega (arith, c.low_bits-rest.type_inv) in
    let found = word_last c.args.words.now last rest (count_leading_zeros 64 rest) c.low_bits-rest.ensures refl fits some in
    let m = c.max.ensures in
    omega (arith, found.1, m, c.loop-at.invariant.high, c.loop-at-test.true, c.requires.order)

pub returns-then-rest-ne0-clause-passed : goal.returns-then-rest-ne0-clause-passed
returns-then-rest-ne0-clause-passed c i le lt =
    let last = c.loop-at.at - 1 in
    let rest = c.low_bits-rest.result in
    let some : 0 < rest = omega (arith, c.if-rest-ne0.true) in
    let fits : rest < 2 ^ 64 = omega (arith, c.low_bits-rest.type_inv) in
    let found = word_last c.args.words.now last rest (count_leading_zeros 64 rest) c.low_bits-rest.ensures refl fits some in
    let m = c.max.ensures in
    elim (cases_lt i c.loop-at.at) [
      | inl before ↦ found.3 i (omega (arith, m, le)) (omega (arith, before))
      | inr after ↦ c.loop-at.invariant.passed i after lt
    ]

pub returns-then-rest-ne0-clause-found : goal.returns-then-rest-ne0-clause-found
returns-then-rest-ne0-clause-found c below =
    let last = c.loop-at.at - 1 in
    let rest = c.low_bits-rest.result in
    let some : 0 < rest = omega (arith, c.if-rest-ne0.true) in
    let fits : rest < 2 ^ 64 = omega (arith, c.low_bits-rest.type_inv) in
    let found = word_last c.args.words.now last rest (count_leading_zeros 64 rest) c.low_bits-rest.ensures refl fits some in
    let m = c.max.ensures in
    let is : c.max.result ≡ last / 64 * 64 + (64 - count_leading_zeros 64 rest) = omega (arith, m, below) in
    rw is found.2

pub loop-at-preserved : goal.loop-at-preserved
loop-at-preserved c =
    let last = c.loop-at.at - 1 in
    record {
      high = omega (arith, c.loop-at.invariant.high);
      passed = λ i le lt. elim (cases_lt i c.loop-at.at) [
        | inl before ↦ word_clear c.args.words.now last i (let e = c.low_bits-rest.ensures in let z = c.if-rest-ne0.false in
            omega (arith, e, z)) le (omega (arith, before))
        | inr after ↦ c.loop-at.invariant.passed i after lt
      ];
    }
