use Rattle.std.proofs.Common.{◌≡◌, ◌<◌, ◌+◌, ◌&&◌, ◌||◌, ◌∙◌, Bool, true, false, refl, sym, ap, arith}
use Rattle.un_domains.specs.Sets.{set_at, greatest}
use Rattle.un_prop.specs.AmongLaws.{has_among}
use Rattle.un_prop.specs.Somewhere.{any_before}
use Rattle.un_prop.specs.SomewhereLaws.{any_none, any_next, any_whole, any_has}
use Rattle.un_prop.proofs.place.any_place.Goals as goal
use Rattle.un_prop.proofs.place.any_place.Goals.{then-has+else-can_choose, else-has}

pub min-requires-clause-there : goal.min-requires-clause-there
min-requires-clause-there g c = has_among (g.C.Predicate.scope c.args.c.now) c.args.choice c.args.w.now.store.now.sets
    c.requires.of_choice c.requires.known

pub min-requires-clause-some : goal.min-requires-clause-some
min-requires-clause-some g c = c.requires.live c.args.choice.0
    (has_among (g.C.Predicate.scope c.args.c.now) c.args.choice c.args.w.now.store.now.sets c.requires.of_choice c.requires.known)

pub max-requires-clause-there : goal.max-requires-clause-there
max-requires-clause-there g c = has_among (g.C.Predicate.scope c.args.c.now) c.args.choice c.args.w.now.store.now.sets
    c.requires.of_choice c.requires.known

pub max-requires-clause-some : goal.max-requires-clause-some
max-requires-clause-some g c = c.requires.live c.args.choice.0
    (has_among (g.C.Predicate.scope c.args.c.now) c.args.choice c.args.w.now.store.now.sets c.requires.of_choice c.requires.known)

pub has-requires : goal.has-requires
has-requires g c = has_among (g.C.Predicate.scope c.args.c.now) c.args.choice c.args.w.now.store.now.sets c.requires.of_choice
    c.requires.known

pub loop-y-init : goal.loop-y-init
loop-y-init g c =
    let s = c.args.w.now.store.now.sets in
    any_none (g.C.Choice.can c.args.c.now s) (set_at s c.args.choice.0) c.from-low.result (omega (arith, c.from-low.ensures, c.min.ensures))

pub returns-then-can_choose : goal.returns-then-can_choose
returns-then-can_choose g c =
    let s = c.args.w.now.store.now.sets in
    sym (any_has (g.C.Choice.can c.args.c.now s) (set_at s c.args.choice.0) c.loop-y.y (sym c.has.ensures ∙ c.if-has.true)
    (sym c.can_choose.ensures ∙ c.if-can_choose.true))

none : (a b d : Bool) → a ≡ false → (b && d) ≡ false → (a || (b && d)) ≡ false
none a b d h k = ap (λ (x : Bool). x || (b && d)) h ∙ k

absent : (b d : Bool) → b ≡ false → (b && d) ≡ false
absent b d h = ap (λ (x : Bool). x && d) h

refused : (b d : Bool) → d ≡ false → (b && d) ≡ false
refused b d h = ap (λ (x : Bool). b && x) h ∙ either b
  where
    either : (b : Bool) → (b && false) ≡ false
    either false = refl
    either true = refl

pub loop-y-preserved : goal.loop-y-preserved
loop-y-preserved g c =
    let s = c.args.w.now.store.now.sets in
    let p = g.C.Choice.can c.args.c.now s in
    let xs = set_at s c.args.choice.0 in
    let y = c.loop-y.y in
    any_next p xs y ∙ none (any_before p xs y) _ (p y) c.loop-y.invariant (elim c.if-has.branch [
      | then-has+else-can_choose w ↦ refused _ (p y) (sym w.can_choose.ensures ∙ w.if-can_choose.false)
      | else-has w ↦ absent _ (p y) (sym c.has.ensures ∙ w.if-has.false)
    ])

pub returns : goal.returns
returns g c =
    let s = c.args.w.now.store.now.sets in
    let xs = set_at s c.args.choice.0 in
    let high : greatest xs < c.loop-y.y = omega (arith, c.loop-y-test.false, c.from-end.ensures, c.max.ensures) in
    sym (sym (any_whole (g.C.Choice.can c.args.c.now s) xs c.loop-y.y high) ∙ c.loop-y.invariant)
