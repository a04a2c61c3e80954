use Rattle.std.proofs.Common.{ℕ, ◌≡◌, ◌-◌, ◌*◌, ◌%◌, ◌^◌, ◌∙◌, ap, bit_and}
use Rattle.std.proofs.lemmas.Nat.{one_shl, and_mask}
use Rattle.un_domains.proofs.scan.low_bits.Goals as goal

pub returns-then-width-lt-WORD : goal.returns-then-width-lt-WORD
returns-then-width-lt-WORD c =
    let e : 1 * 2 ^ c.args.width % 2 ^ 64 ≡ 2 ^ c.args.width = one_shl c.args.width 64 c.if-width-lt-WORD.true in
    ap (λ (m : ℕ). bit_and c.args.word (m - 1)) e ∙ and_mask c.args.word c.args.width
