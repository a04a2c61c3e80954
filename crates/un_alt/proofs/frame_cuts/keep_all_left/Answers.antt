use Rattle.std.proofs.Common.{List, true, false, ◌<◌, ◌-◌, ◌∙◌, length, get_or}
use Rattle.std.proofs.Common.{ap, sym}
use Rattle.std.proofs.Common.{subst, arith}
use Rattle.un_prop.specs.Among.{among}
use Rattle.un_prop.specs.AmongLaws.{has_among}
use Rattle.un_prop.specs.EachLaws.{each_next, each_end}
use Rattle.un_prop.specs.Going.{Stepped}
use Rattle.un_prop.specs.GoingLaws.{stepped_same}
use Rattle.un_prop.specs.Rounds.{round}
use Rattle.un_prop.specs.When.{is_only}
use Rattle.un_alt.specs.declared.frame.FrameLeave.{FrameLeave}
use Rattle.un_alt.specs.Frame.{FrameLeaveVars}
use Rattle.un_alt.specs.FrameCuts.{left_cut}
use Rattle.un_alt.proofs.Idle.{leaves_idle}
use Rattle.un_alt.proofs.frame_cuts.keep_all_left.Goals as goal

pub is_only-requires-clause-there : goal.is_only-requires-clause-there
is_only-requires-clause-there c = let p = c.args.p.now in has_among p.vars p.flag c.args.w.now.store.now.sets p.among.of_flag
    c.requires.known

pub returns-then-not-is_only-clause-step : goal.returns-then-not-is_only-clause-step
returns-then-not-is_only-clause-step c =
    let p = c.args.p.now in
    let s = c.args.w.now.store.now in
    stepped_same c.args.w.now.vars.now (round (left_cut p.flag) p.leaves) s c.args.before (λ live. leaves_idle p.vars p.flag s.sets
    c.requires.known live (sym c.is_only.ensures ∙ c.if-not-is_only.true) p.leaves p.among.of_leaves)

pub keep_left-did-requires-clause-of_leave : goal.keep_left-did-requires-clause-of_leave
keep_left-did-requires-clause-of_leave c =
    let p = c.args.p.now in
    let i = c.loop-l.l-index in
    let lent = c.as_slice-leaves.ensures in
    let lt : i < length p.leaves = (let long = ap length lent in omega (arith, c.loop-l-test.true, long)) in
    let d = c.l-item.result in
    let one = subst (λ (us : List FrameLeave). FrameLeaveVars p.vars (get_or us i d)) (sym lent) (p.among.of_leaves i d lt) in
    subst (λ (a : FrameLeave). FrameLeaveVars p.vars a) (sym c.l-item.is) one

pub loop-l-preserved : goal.loop-l-preserved
loop-l-preserved c =
    let p = c.args.p.now in
    let i = c.loop-l.l-index in
    let lent = c.as_slice-leaves.ensures in
    let lt : i < length p.leaves = (let long = ap length lent in omega (arith, c.loop-l-test.true, long)) in
    let d = c.l-item.result in
    let inv = c.loop-l.invariant in
    let did = c.keep_left-did in
    record {
      step = each_next c.args.w.now.vars.now c.loop-l.w.vars.now (left_cut p.flag) p.leaves i d c.args.w.now.store.now
          c.loop-l.w.store.now did.new.w.store.now c.args.before c.loop-l.did did.result (ap (λ r. r.now) inv.vars) lt inv.step
          (subst (λ (us : List FrameLeave). Stepped c.loop-l.w.vars.now ((left_cut p.flag) (get_or us i d)) c.loop-l.w.store.now
          did.new.w.store.now c.loop-l.did did.result) lent (subst (λ (a : FrameLeave). Stepped c.loop-l.w.vars.now ((left_cut p.flag)
          a) c.loop-l.w.store.now
          did.new.w.store.now c.loop-l.did did.result) c.l-item.is did.ensures.step));
      same_reference = did.ensures.same_reference ∙ inv.same_reference;
      vars = did.ensures.vars ∙ inv.vars;
    }

pub returns-clause-step : goal.returns-clause-step
returns-clause-step c =
    let p = c.args.p.now in
    let long = ap length c.as_slice-leaves.ensures in
    each_end c.args.w.now.vars.now (left_cut p.flag) p.leaves c.loop-l.l-index c.args.w.now.store.now c.loop-l.w.store.now
    c.args.before c.loop-l.did (omega (arith, c.loop-l-test.false, long)) c.loop-l.invariant.step
