use Rattle.std.proofs.Common.{ℕ, ◌<◌, ◌∙◌, nat_eq, sym, arith, inl, inr}
use Rattle.un_domains.specs.Sets.{set_at, greatest}
use Rattle.un_prop.specs.SomewhereLaws.{any_none, any_whole, any_has, none_next}
use Rattle.un_slots.specs.Slots.{share_at}
use Rattle.un_slots.proofs.takes.some_takes_none.Goals as goal
use Rattle.un_slots.proofs.takes.some_takes_none.Goals.{then-has+else-takes_none, else-has}

pub loop-n-init : goal.loop-n-init
loop-n-init c = any_none (λ m. nat_eq (share_at c.args.r c.args.uses.now m) 0) (set_at c.args.w.now.store.now.sets c.args.v.0)
    c.from-low.result (omega (arith, c.from-low.ensures, c.min.ensures))

pub returns-then-takes_none : goal.returns-then-takes_none
returns-then-takes_none c = sym (any_has (λ m. nat_eq (share_at c.args.r c.args.uses.now m) 0)
    (set_at c.args.w.now.store.now.sets c.args.v.0) c.loop-n.n (sym c.has.ensures ∙ c.if-has.true)
    (sym c.takes_none.ensures ∙ c.if-takes_none.true))

pub loop-n-preserved : goal.loop-n-preserved
loop-n-preserved c = none_next (λ m. nat_eq (share_at c.args.r c.args.uses.now m) 0) (set_at c.args.w.now.store.now.sets c.args.v.0)
    c.loop-n.n c.loop-n.invariant (elim c.if-has.branch [
      | then-has+else-takes_none w ↦ inr (sym w.takes_none.ensures ∙ w.if-takes_none.false)
      | else-has w ↦ inl (sym c.has.ensures ∙ w.if-has.false)
    ])

pub returns : goal.returns
returns c =
    let xs = set_at c.args.w.now.store.now.sets c.args.v.0 in
    let p = λ (m : ℕ). nat_eq (share_at c.args.r c.args.uses.now m) 0 in
    let high : greatest xs < c.loop-n.n = omega (arith, c.loop-n-test.false, c.from-end.ensures, c.max.ensures) in
    sym (sym (any_whole p xs c.loop-n.n high) ∙ c.loop-n.invariant)
