use Rattle.std.proofs.Common.{◌<◌, ◌∙◌, sym, arith, inl, inr}
use Rattle.un_domains.specs.Sets.{set_at, greatest}
use Rattle.un_prop.specs.AmongLaws.{has_among}
use Rattle.un_prop.specs.SomewhereLaws.{any_none, any_whole, any_has, none_next}
use Rattle.un_rect.specs.Operands.{avoids_at}
use Rattle.un_rect.specs.Sides.{side_of}
use Rattle.un_rect.proofs.OperandSteps.{avoid_turned}
use Rattle.un_rect.proofs.operand.may_avoid.Goals as goal
use Rattle.un_rect.proofs.operand.may_avoid.Goals.{then-has+else-avoids_at, else-has}

pub min-requires-clause-there : goal.min-requires-clause-there
min-requires-clause-there c = has_among c.args.w.now.vars.now _ c.args.w.now.store.now.sets c.requires.vars.of_choice c.requires.known

pub min-requires-clause-some : goal.min-requires-clause-some
min-requires-clause-some c = c.requires.live _ (has_among c.args.w.now.vars.now _ c.args.w.now.store.now.sets c.requires.vars.of_choice
    c.requires.known)

pub max-requires-clause-there : goal.max-requires-clause-there
max-requires-clause-there c = has_among c.args.w.now.vars.now _ c.args.w.now.store.now.sets c.requires.vars.of_choice c.requires.known

pub max-requires-clause-some : goal.max-requires-clause-some
max-requires-clause-some c = c.requires.live _ (has_among c.args.w.now.vars.now _ c.args.w.now.store.now.sets c.requires.vars.of_choice
    c.requires.known)

pub has-requires : goal.has-requires
has-requires c = has_among c.args.w.now.vars.now _ c.args.w.now.store.now.sets c.requires.vars.of_choice c.requires.known

pub loop-i-init : goal.loop-i-init
loop-i-init c =
    let s = c.args.w.now.store.now.sets in
    any_none (avoids_at (side_of c.args.o.now) s c.args.r) (set_at s c.args.o.now.choice.0)
    c.from-low.result (omega (arith, c.from-low.ensures, c.min.ensures))

pub returns-then-avoids_at : goal.returns-then-avoids_at
returns-then-avoids_at c =
    let s = c.args.w.now.store.now.sets in
    sym (sym (avoid_turned (side_of c.args.o.now) s c.args.r)
    ∙ any_has (avoids_at (side_of c.args.o.now) s c.args.r) (set_at s c.args.o.now.choice.0)
    c.loop-i.i (sym c.has.ensures ∙ c.if-has.true)
    (sym c.avoids_at.ensures ∙ c.if-avoids_at.true))

pub loop-i-preserved : goal.loop-i-preserved
loop-i-preserved c =
    let s = c.args.w.now.store.now.sets in
    none_next (avoids_at (side_of c.args.o.now) s c.args.r) (set_at s c.args.o.now.choice.0) c.loop-i.i
    c.loop-i.invariant (elim c.if-has.branch [
      | then-has+else-avoids_at w ↦ inr (sym w.avoids_at.ensures ∙ w.if-avoids_at.false)
      | else-has w ↦ inl (sym c.has.ensures ∙ w.if-has.false)
    ])

pub returns : goal.returns
returns c =
    let s = c.args.w.now.store.now.sets in
    let xs = set_at s c.args.o.now.choice.0 in
    let high : greatest xs < c.loop-i.i = omega (arith, c.loop-i-test.false, c.from-end.ensures, c.max.ensures) in
    sym (sym (avoid_turned (side_of c.args.o.now) s c.args.r) ∙ (sym
    (any_whole (avoids_at (side_of c.args.o.now) s c.args.r) xs c.loop-i.i high) ∙ c.loop-i.invariant))
