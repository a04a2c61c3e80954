use Rattle.std.proofs.Common.{List, ◌≡◌, ◌∙◌, length, refl, sym, ap, subst}
use Rattle.un_base.specs.declared.ids.VarId.{VarId}
use Rattle.un_prop.specs.Going.{Stepped}
use Rattle.un_prop.specs.GoingLaws.{stepped_chain}
use Rattle.un_prop.specs.PartLaws.{checked}
use Rattle.un_prop.specs.declared.act.Temp.{Temp}
use Rattle.un_prop.specs.declared.propagator.Pruned.TheVariants.{Same}
use Rattle.un_rect.specs.Apart.{clash_pair, check_pair, bounds_cut, apart_cut, ApartVars}
use Rattle.un_rect.specs.Orders.{order_pair}
use Rattle.un_rect.specs.Pairs.{each_pair}
use Rattle.un_rect.proofs.Rows.{same_ascend, same_known}
use Rattle.un_rect.proofs.apart.Apart.keep_noted.Goals as goal

carried : (vs us : List VarId) (temps xs : List Temp) → us ≡ vs → xs ≡ temps → ApartVars vs temps → ApartVars us xs
carried vs us temps xs e h all = subst (λ (ws : List VarId). ApartVars ws xs) (sym e) (subst (ApartVars vs) (sym h) all)

pub keep_all-first-requires-clause-of_temps : goal.keep_all-first-requires-clause-of_temps
keep_all-first-requires-clause-of_temps c = let p = c.args.self.now in
    carried p.vars c.args.w.now.vars.now p.temps c.as_slice-temps.result.now c.requires.vars c.as_slice-temps.ensures p.among

pub keep_all-second-requires-clause-of_temps : goal.keep_all-second-requires-clause-of_temps
keep_all-second-requires-clause-of_temps c = let p = c.args.self.now in
    carried p.vars c.keep_all-first.new.w.vars.now p.temps c.as_slice-temps.result.now (ap (λ r. r.now) c.keep_all-first.ensures.vars
    ∙ c.requires.vars) c.as_slice-temps.ensures p.among

pub check_all-requires-clause-of_temps : goal.check_all-requires-clause-of_temps
check_all-requires-clause-of_temps c = let p = c.args.self.now in
    carried p.vars c.keep_all-second.new.w.vars.now p.temps c.as_slice-temps.result.now
    (ap (λ r. r.now) (c.keep_all-second.ensures.vars ∙ c.keep_all-first.ensures.vars) ∙ c.requires.vars) c.as_slice-temps.ensures p.among

pub returns-clause-prune : goal.returns-clause-prune
returns-clause-prune c =
    let p = c.args.self.now in
    let old = c.args.w.now.store.now in
    let mid = c.keep_all-first.new.w.store.now in
    let low = c.keep_all-second.new.w.store.now in
    let new = c.check_all.new.w.store.now in
    let did = c.keep_all-first.result in
    let more = c.keep_all-second.result in
    let e = c.as_slice-temps.ensures in
    let xs = c.as_slice-temps.result.now in
    let v1 = ap (λ r. r.now) c.keep_all-first.ensures.vars ∙ c.requires.vars in
    let v2 = ap (λ r. r.now) (c.keep_all-second.ensures.vars ∙ c.keep_all-first.ensures.vars) ∙ c.requires.vars in
    let first = subst (λ (ts : List Temp). Stepped p.vars (each_pair clash_pair ts (length ts)) old mid Same did) e
    (subst (λ (us : List VarId). Stepped us (each_pair clash_pair xs (length xs)) old mid Same did) c.requires.vars
    c.keep_all-first.ensures.step) in
    let second = subst (λ (ts : List Temp). Stepped p.vars (each_pair order_pair ts (length ts)) mid low did more) e
    (subst (λ (us : List VarId). Stepped us (each_pair order_pair xs (length xs)) mid low did more) v1 c.keep_all-second.ensures.step) in
    let third = subst (λ (ts : List Temp). Stepped p.vars (each_pair (check_pair p.vars) ts (length ts)) low new more c.check_all.result) e
    (subst (λ (us : List VarId). Stepped us (each_pair (check_pair us) xs (length xs)) low new more c.check_all.result) v2
    c.check_all.ensures.step) in
    let bounds = stepped_chain p.vars (each_pair clash_pair p.temps (length p.temps)) (each_pair order_pair p.temps (length p.temps)) old
    mid low Same did more first second in
    let all = stepped_chain p.vars (bounds_cut p.temps) (each_pair (check_pair p.vars) p.temps (length p.temps)) old low new Same more
    c.check_all.result bounds third in
    checked p.vars p.vars (apart_cut p.vars p.temps) old new c.check_all.result refl c.requires.live all.goes

pub keep_all-first-requires-clause-known : goal.keep_all-first-requires-clause-known
keep_all-first-requires-clause-known c = same_known c.args.self.now.vars c.args.w.now.vars.now c.args.w.now.store.now.sets
    c.args.w.now.store.now.sets c.requires.vars refl
    c.requires.known

pub keep_all-first-requires-clause-live : goal.keep_all-first-requires-clause-live
keep_all-first-requires-clause-live c = λ still. c.requires.live

pub keep_all-second-requires-clause-known : goal.keep_all-second-requires-clause-known
keep_all-second-requires-clause-known c = same_known c.args.self.now.vars c.keep_all-first.new.w.vars.now c.args.w.now.store.now.sets
    c.keep_all-first.new.w.store.now.sets (ap (λ r. r.now) c.keep_all-first.ensures.vars ∙ c.requires.vars)
    c.keep_all-first.ensures.step.long c.requires.known

pub keep_all-second-requires-clause-live : goal.keep_all-second-requires-clause-live
keep_all-second-requires-clause-live c = c.keep_all-first.ensures.step.live (λ still. c.requires.live)

pub check_all-requires-clause-ascend : goal.check_all-requires-clause-ascend
check_all-requires-clause-ascend c = same_ascend c.args.self.now.vars c.keep_all-second.new.w.vars.now
    (ap (λ r. r.now) (c.keep_all-second.ensures.vars ∙ c.keep_all-first.ensures.vars) ∙ c.requires.vars) c.args.self.now.ascend

pub check_all-requires-clause-known : goal.check_all-requires-clause-known
check_all-requires-clause-known c = same_known c.args.self.now.vars c.keep_all-second.new.w.vars.now c.args.w.now.store.now.sets
    c.keep_all-second.new.w.store.now.sets
    (ap (λ r. r.now) (c.keep_all-second.ensures.vars ∙ c.keep_all-first.ensures.vars) ∙ c.requires.vars)
    (c.keep_all-second.ensures.step.long ∙ c.keep_all-first.ensures.step.long) c.requires.known

pub check_all-requires-clause-live : goal.check_all-requires-clause-live
check_all-requires-clause-live c = c.keep_all-second.ensures.step.live (c.keep_all-first.ensures.step.live (λ still. c.requires.live))
