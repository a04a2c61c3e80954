use Rattle.std.proofs.Common.{ℕ, ◌≡◌, ◌≤◌, ◌+◌, ◌-◌, ◌*◌, ◌/◌, ◌%◌, ◌^◌, ap, arith, sym, get_or, length, min}
use Rattle.std.specs.Int.Count.{ones}
use Rattle.std.proofs.Math.Nat.{mod-lt}
use Rattle.std.proofs.lemmas.Nat.{ones-le, pow_pos}
use Rattle.un_domains.specs.Bits.{members}
use Rattle.un_domains.specs.CountLaws.{no_members, count_word}
use Rattle.un_domains.proofs.scan.count.Goals as goal

pub loop-at-init : goal.loop-at-init
loop-at-init c = record {
  low = omega arith;
  high = c.requires.order;
  total = sym (no_members c.args.words.now c.args.lo c.args.lo (omega arith));
  small = omega arith;
}

pub loop-at-preserved : goal.loop-at-preserved
loop-at-preserved c =
    let at = c.loop-at.at in
    let next : c.min-next.result ≡ min ((at / 64 + 1) * 64) c.args.end = c.min-next.ensures in
    let w = c.min-next.result - at in
    let there : at + w ≡ c.min-next.result = omega (arith, next, c.loop-at-test.true) in
    let near : at % 64 + w ≤ 64 = omega (arith, next) in
    let x = get_or c.args.words.now (at / 64) 0 / 2 ^ (at % 64) in
    let more = count_word c.args.words.now c.args.lo at w c.loop-at.invariant.low near (omega (arith, there, next, c.requires.within)) in
    let most : ones (x % 2 ^ w) ≤ w = ones-le w (x % 2 ^ w) (mod-lt x (pow_pos w)) in
    let is : ones c.low_bits.result ≡ ones (x % 2 ^ w) = ap ones c.low_bits.ensures in
    record {
      low = omega (arith, there, c.loop-at.invariant.low);
      high = omega (arith, next);
      total = omega (arith, c.loop-at.invariant.total, is, more, ap (λ (n : ℕ). length (members c.args.words.now c.args.lo n)) there);
      small = omega (arith, c.loop-at.invariant.small, is, most, there);
    }
