use Rattle.std.proofs.Common.{true, ◌-◌}
use Rattle.std.proofs.Common.{arith}
use Rattle.un_prop.specs.AmongLaws.{has_among}
use Rattle.un_prop.specs.GoingLaws.{stepped_same}
use Rattle.un_alt.specs.FrameCuts.{is_unused, slot_cut}
use Rattle.un_alt.proofs.Orders.{going}
use Rattle.un_alt.proofs.Idle.{slot_idle}
use Rattle.un_alt.proofs.frame_cuts.keep_value.Goals as goal

pub max-requires-clause-some : goal.max-requires-clause-some
max-requires-clause-some c = c.requires.live (going c.args.before c.if-eq.ensures) c.args.v.0
    (has_among c.args.p.now.vars c.args.v c.args.w.now.store.now.sets c.requires.of_v c.requires.known)

pub max-requires-clause-there : goal.max-requires-clause-there
max-requires-clause-there c = has_among c.args.p.now.vars c.args.v c.args.w.now.store.now.sets c.requires.of_v c.requires.known

pub returns-then-max-lt-FIRST_SLOT-clause-step : goal.returns-then-max-lt-FIRST_SLOT-clause-step
returns-then-max-lt-FIRST_SLOT-clause-step c =
    let p = c.args.p.now in
    let v = c.args.v in
    let s = c.args.w.now.store.now in
    stepped_same c.args.w.now.vars.now (slot_cut p.flag v) s c.args.before (λ live. slot_idle p.vars p.flag s.sets c.requires.known live v
    c.requires.of_v (omega (arith, c.max.ensures, c.if-max-lt-FIRST_SLOT.true)))

pub keep_le_when-requires-clause-there : goal.keep_le_when-requires-clause-there
keep_le_when-requires-clause-there c = has_among c.args.p.now.vars c.args.v c.args.w.now.store.now.sets c.requires.of_v c.requires.known

pub returns-clause-step : goal.returns-clause-step
returns-clause-step c = let p = c.args.p.now in c.keep_le_when.ensures.step (is_unused p.flag) (λ still. c.is_unused-unused.ensures)
