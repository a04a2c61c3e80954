use Rattle.std.proofs.Common.{◌≡◌, ◌∙◌, Bool, true, false, not, refl, sym}
use Rattle.un_prop.specs.AmongLaws.{has_among}
use Rattle.un_rect.proofs.ExtentLaws.{no_clash, lost_by_first, lost_by_second}
use Rattle.un_rect.proofs.clashes.passes.Goals as goal

denied : (b : Bool) → not b ≡ true → b ≡ false
denied true e = absurd (cc e)
denied false e = refl

pub returns-then-not-may_clash : goal.returns-then-not-may_clash
returns-then-not-may_clash c = λ yes. no_clash c.args.a.now c.args.b.now c.args.w.now.store.now.sets c.args.w.now.vars.now c.requires.of_a
    c.requires.of_b c.requires.known c.requires.live
    (rw (sym c.requires.first, sym c.requires.second) (sym c.may_clash.ensures ∙ c.if-not-may_clash.true))

pub has-requires : goal.has-requires
has-requires c = has_among c.args.w.now.vars.now c.args.b.now.reg c.args.w.now.store.now.sets c.requires.of_b.of_reg c.requires.known

pub returns-then-not-y : goal.returns-then-not-y
returns-then-not-y c = λ gone. lost_by_second c.args.a.now c.args.b.now c.args.w.now.store.now.sets c.args.w.now.vars.now c.requires.of_a
    c.requires.of_b c.requires.known c.requires.live c.args.x c.args.y c.requires.first c.requires.second
    (sym c.may_clash.ensures ∙ c.if-not-may_clash.false) (denied c.args.y.one c.if-not-y.true)
    (sym c.has.ensures ∙ denied c.has.result gone)

pub has-requires-then-not-x : goal.has-requires-then-not-x
has-requires-then-not-x c = has_among c.args.w.now.vars.now c.args.a.now.reg c.args.w.now.store.now.sets c.requires.of_a.of_reg
    c.requires.known

pub returns-then-not-x : goal.returns-then-not-x
returns-then-not-x c = λ gone. lost_by_first c.args.a.now c.args.b.now c.args.w.now.store.now.sets c.args.w.now.vars.now c.requires.of_a
    c.requires.of_b c.requires.known c.requires.live c.args.x c.args.y c.requires.first c.requires.second
    (sym c.may_clash.ensures ∙ c.if-not-may_clash.false) (denied c.args.x.one c.if-not-x.true)
    (sym c.has-then-not-x.ensures ∙ denied c.has-then-not-x.result gone)
