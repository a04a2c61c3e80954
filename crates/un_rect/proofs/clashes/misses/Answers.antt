use Rattle.std.proofs.Common.{◌≡◌, ◌∙◌, Bool, true, false, not, refl, sym}
use Rattle.un_prop.specs.AmongLaws.{has_among}
use Rattle.un_rect.proofs.ExtentLaws.{many_pass, lost_pass, lost_back}
use Rattle.un_rect.proofs.clashes.misses.Goals as goal

denied : (b : Bool) → not b ≡ true → b ≡ false
denied true e = absurd (cc e)
denied false e = refl

pub is_single-first-requires : goal.is_single-first-requires
is_single-first-requires c = has_among c.args.w.now.vars.now c.args.a.now.reg c.args.w.now.store.now.sets c.requires.of_a.of_reg
    c.requires.known

pub has-requires : goal.has-requires
has-requires c = has_among c.args.w.now.vars.now c.args.a.now.reg c.args.w.now.store.now.sets c.requires.of_a.of_reg c.requires.known

pub returns-then-one : goal.returns-then-one
returns-then-one c = λ gone. lost_back c.args.a.now c.args.b.now c.args.w.now.store.now.sets c.args.w.now.vars.now c.requires.of_a
    c.requires.of_b c.requires.known c.requires.live c.args.reg c.requires.reg (sym c.is_single-first.ensures ∙ c.if-first.false)
    (sym c.has.ensures ∙ denied c.has.result gone)

pub has-requires-then-first-2 : goal.has-requires-then-first-2
has-requires-then-first-2 c = has_among c.args.w.now.vars.now c.args.b.now.reg c.args.w.now.store.now.sets c.requires.of_b.of_reg
    c.requires.known

pub returns-then-first-2 : goal.returns-then-first-2
returns-then-first-2 c = λ gone. lost_pass c.args.a.now c.args.b.now c.args.w.now.store.now.sets c.args.w.now.vars.now c.requires.of_a
    c.requires.of_b c.requires.known c.requires.live c.min.result c.min.ensures (sym c.requires.one ∙ c.if-one.false)
    (sym c.has-then-first-2.ensures ∙ denied c.has-then-first-2.result gone)

pub returns : goal.returns
returns c = λ yes. many_pass c.args.a.now c.args.b.now c.args.w.now.store.now.sets c.args.w.now.vars.now c.requires.of_a
    c.requires.of_b c.requires.known c.requires.live (sym c.is_single-first.ensures ∙ c.if-first-2.false)
    (sym c.requires.one ∙ c.if-one.false)
