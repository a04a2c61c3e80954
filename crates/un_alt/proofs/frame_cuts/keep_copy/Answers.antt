use Rattle.std.proofs.Common.{List, true, ◌≡◌, ◌-◌, length}
use Rattle.std.proofs.Common.{ap}
use Rattle.std.proofs.Common.{subst, arith}
use Rattle.un_base.specs.declared.ids.VarId.{VarId}
use Rattle.un_domains.specs.Sets.{Sets}
use Rattle.un_prop.specs.AmongLaws.{has_among}
use Rattle.un_prop.specs.Going.{Stepped}
use Rattle.un_prop.specs.GoingLaws.{stepped_same, stepped_chain}
use Rattle.un_prop.specs.Rounds.{HasVars}
use Rattle.un_prop.specs.When.{when_cut, other_than}
use Rattle.un_ir.specs.declared.extended.TheConstants.{SPILL, RELOAD}
use Rattle.un_alt.specs.FrameCuts.{is_unused, touch_cut}
use Rattle.un_alt.proofs.Orders.{going}
use Rattle.un_alt.proofs.Idle.{copy_idle}
use Rattle.un_alt.proofs.frame_cuts.keep_copy.Goals as goal

pub max-requires-clause-some : goal.max-requires-clause-some
max-requires-clause-some c = c.requires.live (going c.args.before c.if-eq.ensures) c.args.v.0
    (has_among c.args.p.now.vars c.args.v c.args.w.now.store.now.sets c.requires.of_v c.requires.known)

pub max-requires-clause-there : goal.max-requires-clause-there
max-requires-clause-there c = has_among c.args.p.now.vars c.args.v c.args.w.now.store.now.sets c.requires.of_v c.requires.known

pub returns-then-max-lt-SPILL-clause-step : goal.returns-then-max-lt-SPILL-clause-step
returns-then-max-lt-SPILL-clause-step c =
    let p = c.args.p.now in
    let v = c.args.v in
    let s = c.args.w.now.store.now in
    stepped_same c.args.w.now.vars.now (touch_cut p.flag v) s c.args.before (λ live. copy_idle p.vars p.flag s.sets c.requires.known live v
    c.requires.of_v (omega (arith, c.max.ensures, c.if-max-lt-SPILL.true)))

pub drop_when-first-requires-clause-there : goal.drop_when-first-requires-clause-there
drop_when-first-requires-clause-there c = has_among c.args.p.now.vars c.args.v c.args.w.now.store.now.sets c.requires.of_v c.requires.known

-- the variables are still there
still_known : (vs : List VarId) (s t : Sets) → length t ≡ length s → HasVars vs s → HasVars vs t
still_known vs s t long k i d lt = rw long (k i d lt)

pub is_unused-still-requires : goal.is_unused-still-requires
is_unused-still-requires c =
    let p = c.args.p.now in
    let step1 = c.drop_when-first.ensures.step (is_unused p.flag) (λ still. c.is_unused-unused.ensures) in
    still_known p.vars c.args.w.now.store.now.sets c.drop_when-first.new.w.store.now.sets step1.long c.requires.known

pub drop_when-requires-clause-there : goal.drop_when-requires-clause-there
drop_when-requires-clause-there c =
    let p = c.args.p.now in
    let step1 = c.drop_when-first.ensures.step (is_unused p.flag) (λ still. c.is_unused-unused.ensures) in
    has_among p.vars c.args.v c.drop_when-first.new.w.store.now.sets c.requires.of_v
    (still_known p.vars c.args.w.now.store.now.sets c.drop_when-first.new.w.store.now.sets step1.long c.requires.known)

pub drop_when-requires-clause-live : goal.drop_when-requires-clause-live
drop_when-requires-clause-live c =
    let p = c.args.p.now in
    let step1 = c.drop_when-first.ensures.step (is_unused p.flag) (λ still. c.is_unused-unused.ensures) in
    step1.live c.requires.live

pub returns-clause-step : goal.returns-clause-step
returns-clause-step c =
    let p = c.args.p.now in
    let v = c.args.v in
    let mid = c.drop_when-first.new.w.store.now in
    let new = c.drop_when.new.w.store.now in
    let first = c.drop_when-first.result in
    let step1 = c.drop_when-first.ensures.step (is_unused p.flag) (λ still. c.is_unused-unused.ensures) in
    let step2 = subst (λ (us : List VarId). Stepped us (when_cut (is_unused p.flag) (other_than RELOAD) v) mid new first c.drop_when.result)
    (ap (λ r. r.now) c.drop_when-first.ensures.vars)
    (c.drop_when.ensures.step (is_unused p.flag) (λ still. c.is_unused-still.ensures)) in
    stepped_chain c.args.w.now.vars.now (when_cut (is_unused p.flag) (other_than SPILL) v) (when_cut (is_unused p.flag) (other_than
    RELOAD) v)
    c.args.w.now.store.now mid new c.args.before first c.drop_when.result step1 step2
