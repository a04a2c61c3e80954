use Rattle.std.proofs.Common.{List, [], ◌∷◌, ◌++◌, ◌+◌, ◌*◌, ◌%◌, ◌^◌, bit_or, take, lit≤, sym, ap, subst, ◌∙◌, arith}
use Rattle.std.proofs.lemmas.List.{take_more, take_all}
use Rattle.serde_json.specs.declared.value.Value.{Value}
use Rattle.un_target.proofs.SavedLaws.{IsReadSoFar, read_none, read_one, read_all, not_kept, not_next}
use Rattle.un_target.proofs.Verdicts.{not_so}
use Rattle.un_target.proofs.saved.saved_mask.Goals as goal

pub loop-item-init : goal.loop-item-init
loop-item-init c = record { read = read_none; low = lit≤ tt; high = lit≤ tt }

pub loop-item-preserved : goal.loop-item-preserved
loop-item-preserved c =
    let items = c.args.items.now in
    let i = c.loop-item.item-index in
    let v = c.item-item.result in
    record {
      read = subst (λ (vs : List Value). IsReadSoFar vs (bit_or c.loop-item.mask (1 * 2 ^ c.in-Some.r % 2 ^ 64)) (c.in-Some.r + 1))
          (sym (take_more items i v c.loop-item-test.true ∙ ap (λ (x : Value). take i items ++ x ∷ []) (sym c.item-item.is)))
          (read_one (take i items) v c.loop-item.mask c.loop-item.least c.in-Some.r c.loop-item.invariant.read c.in-Some.ensures.some.0
          c.in-Some.ensures.some.1 c.in-Some.ensures.some.2 c.loop-item.invariant.low);
      low = omega (arith, c.in-Some.ensures.some.1, c.loop-item.invariant.low);
      high = omega (arith, c.in-Some.ensures.some.2);
    }

pub returns-in_default-clause-none : goal.returns-in_default-clause-none
returns-in_default-clause-none c = not_next c.args.items.now c.loop-item.item-index c.item-item.result c.loop-item.mask c.loop-item.least
    c.loop-item-test.true (sym c.item-item.is) c.loop-item.invariant.read c.in_default.ensures.none

pub returns-then-keeps_all-clause-some : goal.returns-then-keeps_all-clause-some
returns-then-keeps_all-clause-some c = read_all c.args.items.now c.loop-item.mask c.loop-item.least
    (subst (λ (vs : List Value). IsReadSoFar vs c.loop-item.mask c.loop-item.least)
    (take_all c.loop-item.item-index c.args.items.now c.loop-item-test.false) c.loop-item.invariant.read)
    (c.keeps_all.ensures.0 c.if-keeps_all.true)

pub returns-else-keeps_all-clause-none : goal.returns-else-keeps_all-clause-none
returns-else-keeps_all-clause-none c = λ other saved. not_so c.keeps_all.ensures c.if-keeps_all.false
    (not_kept c.args.items.now c.loop-item.mask c.loop-item.least other
    (subst (λ (vs : List Value). IsReadSoFar vs c.loop-item.mask c.loop-item.least)
    (take_all c.loop-item.item-index c.args.items.now c.loop-item-test.false) c.loop-item.invariant.read) saved)
