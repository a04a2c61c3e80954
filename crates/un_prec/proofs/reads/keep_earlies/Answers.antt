use Rattle.std.proofs.Common.{List, ◌≡◌, ◌∙◌, refl, arith, add-one, ap, subst}
use Rattle.un_base.specs.declared.ids.VarId.{VarId}
use Rattle.un_prop.specs.Going.{Stepped}
use Rattle.un_prop.specs.GoingLaws.{stepped_same, stepped_chain}
use Rattle.un_prop.specs.Places.{each_place}
use Rattle.un_prec.specs.Reads.{early_cut}
use Rattle.un_prec.proofs.reads.keep_earlies.Goals as goal

pub loop-i-init : goal.loop-i-init
loop-i-init c =
    let p = c.args.p.now in
    let cut = early_cut p.user p.user_on p.choice p.alts in
    record {
      step = stepped_same c.args.w.now.vars.now (each_place cut 0) c.args.w.now.store.now c.args.before (λ live. refl);
      same_reference = refl;
      vars = refl;
    }

pub keep_early-did-requires-clause-known : goal.keep_early-did-requires-clause-known
keep_early-did-requires-clause-known c = λ k d below. rw c.loop-i.invariant.step.long (c.requires.known k d below)

pub keep_early-did-requires-clause-live : goal.keep_early-did-requires-clause-live
keep_early-did-requires-clause-live c = c.loop-i.invariant.step.live c.requires.live

pub loop-i-preserved : goal.loop-i-preserved
loop-i-preserved c =
    let p = c.args.p.now in
    let cut = early_cut p.user p.user_on p.choice p.alts in
    let i = c.loop-i.i in
    let before = c.loop-i.invariant in
    let one = c.keep_early-did.ensures in
    record {
      step = rw add-one (stepped_chain c.args.w.now.vars.now (each_place cut i) (cut i) c.args.w.now.store.now c.loop-i.w.store.now
          c.keep_early-did.new.w.store.now c.args.before c.loop-i.did c.keep_early-did.result before.step
          (subst (λ (us : List VarId). Stepped us (cut i) c.loop-i.w.store.now c.keep_early-did.new.w.store.now c.loop-i.did
          c.keep_early-did.result) (ap (λ r. r.now) before.vars) one.step));
      same_reference = one.same_reference ∙ before.same_reference;
      vars = one.vars ∙ before.vars;
    }

pub returns-clause-step : goal.returns-clause-step
returns-clause-step c =
    let end : c.loop-i.i ≡ c.args.n = omega (arith, c.loop-i-test.false, c.loop-i.auto.i-end) in
    rw end at c.loop-i.invariant.step
