use Rattle.std.proofs.Common.{ℕ, List, ◌≡◌, ◌<◌, ◌+◌, ◌*◌, ◌∙◌, arith, ap, sym, subst, get_or, true}
use Rattle.un_domains.specs.Bits.{members, inside, IsTight}
use Rattle.un_domains.specs.BitLaws.{inside_of}
use Rattle.un_domains.specs.Shapes.{row_of}
use Rattle.un_domains.specs.ShapeLaws.{drop_nothing, cleared_cut, inside_code, length-row}
use Rattle.un_domains.specs.declared.cut.Cut.TheVariants.{Changed, Emptied}
use Rattle.un_domains.proofs.rows.drop_place.Goals as goal

pub returns-then-not-has : goal.returns-then-not-has
returns-then-not-has c =
    let ws = c.args.words.now.words in
    let b = c.bounds_at-old in
    let same = inside_code c.args.at c.args.n c.args.k b.result.lo b.result.end c.as_slice-all.result.now c.row.result.now ws
    c.as_slice-all.ensures b.ensures.lo b.ensures.end c.row.ensures in
    drop_nothing c.args.at c.args.n c.args.k c.args.words.now c.requires.tight c.requires.some (sym same ∙ sym c.if-not-has.ensures)

pub returns-then-new : goal.returns-then-new
returns-then-new c =
    let ws = c.args.words.now.words in
    let at = c.args.at in
    let n = c.args.n in
    let b = c.bounds_at-old in
    let t = c.tighten-new in
    let row_is : c.row.result.now ≡ row_of ws at n = c.row.ensures ∙ ap (λ (us : List ℕ). row_of us at n) c.as_slice-all.ensures in
    let row_new : c.row-2.result.now ≡ row_of c.clear.new.words.words at n =
    c.row-2.ensures ∙ ap (λ (us : List ℕ). row_of us at n) c.as_slice.ensures in
    let there = subst (λ (r : List ℕ). inside r b.result.lo b.result.end c.args.k ≡ true) row_is (sym c.if-not-has.ensures) in
    let tight = subst (λ (r : List ℕ). IsTight r t.result.lo t.result.end) row_new t.ensures.tight in
    let left = subst (λ (r : List ℕ). members r t.result.lo t.result.end ≡ members r b.result.lo b.result.end) row_new t.ensures.set in
    let end_is : b.result.end ≡ get_or ws (at + 1) 0 = b.ensures.end ∙ ap (λ (us : List ℕ). get_or us (at + 1) 0) c.as_slice-all.ensures in
    let place : c.args.k < 64 * n = (let high = (inside_of (row_of ws at n) b.result.lo b.result.end c.args.k there).high in
    omega (arith, high, end_is, c.requires.tight.within, length-row ws at n c.requires.within)) in
    cleared_cut at n c.args.k b.result.lo b.result.end t.result.lo t.result.end c.args.words.now c.clear.new.words c.write.new.words Emptied
    c.requires.within place c.requires.tight (b.ensures.lo ∙ ap (λ (us : List ℕ). get_or us at 0) c.as_slice-all.ensures)
    end_is there c.clear.ensures.row c.clear.ensures.outside c.clear.ensures.marked tight t.ensures.within left c.write.ensures.words
    c.write.ensures.marked c.if-new.true

pub returns-else-new : goal.returns-else-new
returns-else-new c =
    let ws = c.args.words.now.words in
    let at = c.args.at in
    let n = c.args.n in
    let b = c.bounds_at-old in
    let t = c.tighten-new in
    let row_is : c.row.result.now ≡ row_of ws at n = c.row.ensures ∙ ap (λ (us : List ℕ). row_of us at n) c.as_slice-all.ensures in
    let row_new : c.row-2.result.now ≡ row_of c.clear.new.words.words at n =
    c.row-2.ensures ∙ ap (λ (us : List ℕ). row_of us at n) c.as_slice.ensures in
    let there = subst (λ (r : List ℕ). inside r b.result.lo b.result.end c.args.k ≡ true) row_is (sym c.if-not-has.ensures) in
    let tight = subst (λ (r : List ℕ). IsTight r t.result.lo t.result.end) row_new t.ensures.tight in
    let left = subst (λ (r : List ℕ). members r t.result.lo t.result.end ≡ members r b.result.lo b.result.end) row_new t.ensures.set in
    let end_is : b.result.end ≡ get_or ws (at + 1) 0 = b.ensures.end ∙ ap (λ (us : List ℕ). get_or us (at + 1) 0) c.as_slice-all.ensures in
    let place : c.args.k < 64 * n = (let high = (inside_of (row_of ws at n) b.result.lo b.result.end c.args.k there).high in
    omega (arith, high, end_is, c.requires.tight.within, length-row ws at n c.requires.within)) in
    cleared_cut at n c.args.k b.result.lo b.result.end t.result.lo t.result.end c.args.words.now c.clear.new.words c.write.new.words Changed
    c.requires.within place c.requires.tight (b.ensures.lo ∙ ap (λ (us : List ℕ). get_or us at 0) c.as_slice-all.ensures)
    end_is there c.clear.ensures.row c.clear.ensures.outside c.clear.ensures.marked tight t.ensures.within left c.write.ensures.words
    c.write.ensures.marked c.if-new.false

pub clear-requires-clause-place : goal.clear-requires-clause-place
clear-requires-clause-place c =
    let ws = c.args.words.now.words in
    let at = c.args.at in
    let n = c.args.n in
    let b = c.bounds_at-old in
    let row_is : c.row.result.now ≡ row_of ws at n = c.row.ensures ∙ ap (λ (us : List ℕ). row_of us at n) c.as_slice-all.ensures in
    let there = subst (λ (r : List ℕ). inside r b.result.lo b.result.end c.args.k ≡ true) row_is (sym c.if-not-has.ensures) in
    let end_is : b.result.end ≡ get_or ws (at + 1) 0 = b.ensures.end ∙ ap (λ (us : List ℕ). get_or us (at + 1) 0) c.as_slice-all.ensures in
    let high = (inside_of (row_of ws at n) b.result.lo b.result.end c.args.k there).high in
    omega (arith, high, end_is, c.requires.tight.within, length-row ws at n c.requires.within)
