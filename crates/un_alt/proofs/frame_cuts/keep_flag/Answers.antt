use Rattle.std.proofs.Common.{List, Bool, true, false, ◌≡◌, ◌-◌, ◌∙◌, nat_eq}
use Rattle.std.proofs.Common.{refl, ap, sym}
use Rattle.std.proofs.Common.{subst}
use Rattle.un_base.specs.declared.ids.VarId.{VarId}
use Rattle.un_domains.specs.Sets.{Sets, cut_by}
use Rattle.un_prop.specs.Among.{among}
use Rattle.un_prop.specs.AmongLaws.{has_among}
use Rattle.un_prop.specs.GoingLaws.{stepped_same, stepped_by}
use Rattle.un_prop.specs.LookLaws.{known_of}
use Rattle.un_prop.specs.Rounds.{HasVars}
use Rattle.un_prop.specs.WhenLaws.{when_not, when_so}
use Rattle.un_prop.specs.declared.propagator.Pruned.TheVariants.{Same}
use Rattle.un_alt.specs.FrameCuts.{sure_use, flag_cut}
use Rattle.un_alt.proofs.frame_cuts.keep_flag.Goals as goal

pub sure_use-requires-clause-of_touch : goal.sure_use-requires-clause-of_touch
sure_use-requires-clause-of_touch c =
    let p = c.args.p.now in
    let s = c.args.w.now.store.now in
    subst (λ (us : List VarId). HasVars us s.sets) (sym c.as_slice-touch.ensures)
    (known_of p.vars p.touch s.sets p.among.of_touch c.requires.known)

pub sure_use-requires-clause-of_ins : goal.sure_use-requires-clause-of_ins
sure_use-requires-clause-of_ins c =
    let p = c.args.p.now in
    let s = c.args.w.now.store.now in
    subst (λ (us : List VarId). HasVars us s.sets) (sym c.as_slice-ins.ensures) (known_of p.vars p.ins s.sets p.among.of_ins
    c.requires.known)

-- what was found of the lists that are lent
found : (touch lent_touch ins lent_ins : List VarId) (s : Sets) (r : Bool) → lent_touch ≡ touch → lent_ins ≡ ins
    → r ≡ sure_use lent_touch lent_ins s → sure_use touch ins s ≡ r
found touch lent_touch ins lent_ins s r e f is = sym (is ∙ (ap (λ us. sure_use us lent_ins s) e ∙ ap (λ us. sure_use touch us s) f))

pub keep_eq-requires-clause-there : goal.keep_eq-requires-clause-there
keep_eq-requires-clause-there c = let p = c.args.p.now in has_among p.vars p.flag c.args.w.now.store.now.sets p.among.of_flag
    c.requires.known

pub returns-then-not-sure_use-clause-step : goal.returns-then-not-sure_use-clause-step
returns-then-not-sure_use-clause-step c =
    let p = c.args.p.now in
    let s = c.args.w.now.store.now in
    stepped_same c.args.w.now.vars.now (flag_cut p.flag p.touch p.ins) s Same
    (λ live. when_not (sure_use p.touch p.ins) (λ u y. nat_eq y 1) p.flag s.sets
    (has_among p.vars p.flag s.sets p.among.of_flag c.requires.known) live
    (found p.touch c.as_slice-touch.result.now p.ins c.as_slice-ins.result.now s.sets c.sure_use.result c.as_slice-touch.ensures
    c.as_slice-ins.ensures c.sure_use.ensures ∙ c.if-not-sure_use.true))

pub returns-clause-step : goal.returns-clause-step
returns-clause-step c =
    let p = c.args.p.now in
    let s = c.args.w.now.store.now in
    stepped_by c.args.w.now.vars.now (flag_cut p.flag p.touch p.ins) (cut_by (λ y. nat_eq y 1) p.flag.0) s c.keep_eq.new.w.store.now Same
    c.keep_eq.result
    (λ live. when_so (sure_use p.touch p.ins) (λ u y. nat_eq y 1) (λ y. nat_eq y 1) p.flag s.sets
    (found p.touch c.as_slice-touch.result.now p.ins c.as_slice-ins.result.now s.sets c.sure_use.result c.as_slice-touch.ensures
    c.as_slice-ins.ensures c.sure_use.ensures ∙ c.if-not-sure_use.false) (λ y. refl))
    c.keep_eq.ensures.step
