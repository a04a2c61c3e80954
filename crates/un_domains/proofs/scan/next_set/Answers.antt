use Rattle.std.proofs.Common.{arith, refl, ◌≡◌, ◌<◌, ◌^◌, ◌+◌, ◌/◌, ◌%◌, get_or, w64, inl, inr, min}
use Rattle.std.specs.Int.{trailing_zeros}
use Rattle.std.proofs.lemmas.Nat.{trailing_le}
use Rattle.std.proofs.lemmas.Bool.{cases_lt}
use Rattle.un_domains.specs.BitLaws.{word_found, word_passed}
use Rattle.un_domains.proofs.scan.next_set.Goals as goal

pub overflow_add-place : goal.overflow_add-place
overflow_add-place c =
    omega (
      arith,
      trailing_le 64 (get_or c.args.words.now (c.loop-at.at / 64) 0 / 2 ^ (c.loop-at.at % 64)),
      c.loop-at-test.true,
      c.requires.small,
    )

pub returns-then-rest-ne0-clause-passed : goal.returns-then-rest-ne0-clause-passed
returns-then-rest-ne0-clause-passed c i le lt =
    let w = get_or c.args.words.now (c.loop-at.at / 64) 0 in
    let rest = w / 2 ^ (c.loop-at.at % 64) in
    let fits : w < 2 ^ 64 = omega (arith, c.type_inv.words (c.loop-at.at / 64)) in
    let some : 0 < rest = omega (arith, c.if-rest-ne0.true) in
    let found = word_found c.args.words.now c.loop-at.at rest (trailing_zeros w64 rest) refl refl fits some in
    let m : c.min.result ≡ min (c.loop-at.at + trailing_zeros w64 rest) c.args.end = c.min.ensures in
    elim (cases_lt i c.loop-at.at) [
      | inl before ↦ c.loop-at.invariant.passed i le before
      | inr after ↦ found.0 i after (omega (arith, lt, m))
    ]

pub returns-then-rest-ne0-clause-found : goal.returns-then-rest-ne0-clause-found
returns-then-rest-ne0-clause-found c below =
    let w = get_or c.args.words.now (c.loop-at.at / 64) 0 in
    let rest = w / 2 ^ (c.loop-at.at % 64) in
    let fits : w < 2 ^ 64 = omega (arith, c.type_inv.words (c.loop-at.at / 64)) in
    let some : 0 < rest = omega (arith, c.if-rest-ne0.true) in
    let found = word_found c.args.words.now c.loop-at.at rest (trailing_zeros w64 rest) refl refl fits some in
    let m : c.min.result ≡ min (c.loop-at.at + trailing_zeros w64 rest) c.args.end = c.min.ensures in
    let is : c.min.result ≡ c.loop-at.at + trailing_zeros w64 rest = omega (arith, below, m) in
    rw is found.1

pub loop-at-preserved : goal.loop-at-preserved
loop-at-preserved c = record {
  low = omega (arith, c.loop-at.invariant.low);
  passed = λ i le lt. elim (cases_lt i c.loop-at.at) [
    | inl before ↦ c.loop-at.invariant.passed i le before
    | inr after ↦ word_passed c.args.words.now c.loop-at.at i c.if-rest-ne0.false after lt
  ];
}
