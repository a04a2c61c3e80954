use Rattle.std.proofs.Common.{◌≡◌, ◌∙◌, refl, arith, add-one}
use Rattle.un_prop.specs.GoingLaws.{stepped_same, stepped_chain}
use Rattle.un_prop.specs.Places.{each_place, place_cut}
use Rattle.un_prop.proofs.place.keep_places.Goals as goal

pub loop-i-init : goal.loop-i-init
loop-i-init g c =
    let cut = place_cut c.args.on c.args.choice (g.C.Choice.can c.args.c.now) in
    record {
      step = stepped_same c.args.w.now.vars.now (each_place cut 0) c.args.w.now.store.now c.args.before (λ live. refl);
      same_reference = refl;
      vars = refl;
    }

pub keep_place-did-requires-clause-known : goal.keep_place-did-requires-clause-known
keep_place-did-requires-clause-known g c = λ k d below. rw c.loop-i.invariant.step.long (c.requires.known k d below)

pub keep_place-did-requires-clause-live : goal.keep_place-did-requires-clause-live
keep_place-did-requires-clause-live g c = c.loop-i.invariant.step.live c.requires.live

pub loop-i-preserved : goal.loop-i-preserved
loop-i-preserved g c =
    let cut = place_cut c.args.on c.args.choice (g.C.Choice.can c.args.c.now) in
    let i = c.loop-i.i in
    let before = c.loop-i.invariant in
    let one = c.keep_place-did.ensures in
    record {
      step = rw add-one (stepped_chain c.args.w.now.vars.now (each_place cut i) (cut i) c.args.w.now.store.now c.loop-i.w.store.now
          c.keep_place-did.new.w.store.now c.args.before c.loop-i.did c.keep_place-did.result before.step (rw before.vars at one.step));
      same_reference = one.same_reference ∙ before.same_reference;
      vars = one.vars ∙ before.vars;
    }

pub returns-clause-step : goal.returns-clause-step
returns-clause-step g c =
    let end : c.loop-i.i ≡ c.args.n = omega (arith, c.loop-i-test.false, c.loop-i.auto.i-end) in
    rw end at c.loop-i.invariant.step
