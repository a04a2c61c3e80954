use Rattle.std.proofs.Common.{ℕ, List, ◌≡◌, ◌<◌, ◌*◌, ◌/◌, ◌%◌, ◌^◌, arith, ap, sym, subst, ◌∙◌, length, get_or, set, bit_and, w64}
use Rattle.std.specs.Int.{bit_not}
use Rattle.un_domains.specs.BitLaws.{clear_same, clear_other}
use Rattle.un_domains.specs.Shapes.{row_of, IsCleared}
use Rattle.un_domains.specs.ShapeLaws.{row_set, get_row, length-row}
use Rattle.un_domains.proofs.rows.clear.Goals as goal

pub returns-clause-row : goal.returns-clause-row
returns-clause-row c =
    let ws = c.args.words.now.words in
    let at = c.args.at in
    let n = c.args.n in
    let k = c.args.k in
    let row = row_of ws at n in
    let mask = bit_not w64 (1 * 2 ^ (k % 64) % 2 ^ 64) in
    let within : k / 64 < n = omega (arith, c.requires.place) in
    let word : c.get-word.result ≡ get_or row (k / 64) 0 = c.get-word.ensures ∙ sym (get_row ws at n (k / 64) within) in
    let new : row_of c.set.new.self.words at n ≡ set row (k / 64) (bit_and (get_or row (k / 64) 0) mask) =
    ap (λ (us : List ℕ). row_of us at n) c.set.ensures.words
    ∙ (row_set ws at n (k / 64) (bit_and c.get-word.result mask) c.requires.within within
    ∙ ap (λ (w : ℕ). set row (k / 64) (bit_and w mask)) word) in
    let lt : k < 64 * length row = omega (arith, c.requires.place, length-row ws at n c.requires.within) in
    subst (IsCleared k row) (sym new) (record {
      there = clear_same row k lt;
      others = λ j ne. clear_other row k j lt ne;
    })
