use Rattle.std.proofs.Common.{List, ◌≡◌, length, ap, sym, subst, ◌∙◌, option_and_then}
use Rattle.std.specs.declared.option.Option.{Option}
use Rattle.un_base.specs.declared.ids.VarId.{VarId}
use Rattle.un_domains.specs.Sets.{Sets}
use Rattle.un_prop.specs.Rounds.{HasVars}
use Rattle.un_prop.specs.Failing.{first_cut}
use Rattle.un_prop.specs.Going.{Stepped}
use Rattle.un_prop.specs.FailLaws.{first_all}
use Rattle.un_prop.specs.GoingLaws.{stepped_chain, stepped_same}
use Rattle.un_prec.specs.Links.{LinkVars, at_cut, both_sure, later_test, earlier_test, apart_test, link_steps}
use Rattle.un_prec.specs.LinkLaws.{apart_unsure, at_same, not_sure}
use Rattle.un_prec.proofs.rules.keep_link.Goals as goal

known_at : (vs us : List VarId) (s t : Sets) → us ≡ vs → length t ≡ length s → HasVars vs s → HasVars us t
known_at vs us s t e long k = subst (λ (ws : List VarId). HasVars ws t) (sym e) (λ i d lt. rw long (k i d lt))

pub returns-then-not-are_sure-clause-step : goal.returns-then-not-are_sure-clause-step
returns-then-not-are_sure-clause-step c =
    let l = c.args.link in
    let vs = c.args.w.now.vars.now in
    let s = c.args.w.now.store.now in
    let off = sym c.if-not-are_sure.ensures in
    let k = c.requires.known in
    stepped_same vs (link_steps vs l) s c.args.before (λ live.
    ap (λ (o : Option Sets). option_and_then (at_cut (earlier_test l) l.from) (option_and_then (at_cut (later_test l) l.to) o))
    (first_all (apart_test l) vs s.sets k live (λ y. apart_unsure l s.sets y off))
    ∙ (ap (option_and_then (at_cut (earlier_test l) l.from)) (at_same vs (later_test l) l.to s.sets c.requires.vars.of_to k live
    (λ y. not_sure (both_sure l s.sets) _ off))
    ∙ at_same vs (earlier_test l) l.from s.sets c.requires.vars.of_from k live (λ y. not_sure (both_sure l s.sets) _ off)))

pub later-second-requires-clause-vars : goal.later-second-requires-clause-vars
later-second-requires-clause-vars c = subst (λ (us : List VarId). LinkVars us c.args.link)
    (sym (ap (λ r. r.now) c.apart-first.ensures.vars)) c.requires.vars

pub later-second-requires-clause-known : goal.later-second-requires-clause-known
later-second-requires-clause-known c = known_at c.args.w.now.vars.now _ c.args.w.now.store.now.sets c.apart-first.new.w.store.now.sets
    (ap (λ r. r.now) c.apart-first.ensures.vars) c.apart-first.ensures.step.long c.requires.known

pub later-second-requires-clause-live : goal.later-second-requires-clause-live
later-second-requires-clause-live c still = c.apart-first.ensures.step.live c.requires.live still

pub earlier-requires-clause-vars : goal.earlier-requires-clause-vars
earlier-requires-clause-vars c = subst (λ (us : List VarId). LinkVars us c.args.link)
    (sym (ap (λ r. r.now) (c.later-second.ensures.vars ∙ c.apart-first.ensures.vars))) c.requires.vars

pub earlier-requires-clause-known : goal.earlier-requires-clause-known
earlier-requires-clause-known c = known_at c.args.w.now.vars.now _ c.args.w.now.store.now.sets c.later-second.new.w.store.now.sets
    (ap (λ r. r.now) (c.later-second.ensures.vars ∙ c.apart-first.ensures.vars))
    (c.later-second.ensures.step.long ∙ c.apart-first.ensures.step.long) c.requires.known

pub earlier-requires-clause-live : goal.earlier-requires-clause-live
earlier-requires-clause-live c still = c.later-second.ensures.step.live (c.apart-first.ensures.step.live c.requires.live) still

pub returns-clause-step : goal.returns-clause-step
returns-clause-step c =
    let l = c.args.link in
    let vs = c.args.w.now.vars.now in
    let s0 = c.args.w.now.store.now in
    let s1 = c.apart-first.new.w.store.now in
    let s2 = c.later-second.new.w.store.now in
    let s3 = c.earlier.new.w.store.now in
    let a = c.apart-first.result in
    let b = c.later-second.result in
    let step2 = subst (λ (us : List VarId). Stepped us (at_cut (later_test l) l.to) s1 s2 a b) (ap (λ r. r.now) c.apart-first.ensures.vars)
    c.later-second.ensures.step in
    let step3 = subst (λ (us : List VarId). Stepped us (at_cut (earlier_test l) l.from) s2 s3 b c.earlier.result)
    (ap (λ r. r.now) (c.later-second.ensures.vars ∙ c.apart-first.ensures.vars)) c.earlier.ensures.step in
    stepped_chain vs (λ s. option_and_then (at_cut (later_test l) l.to) (first_cut (apart_test l) vs s)) (at_cut (earlier_test l) l.from) s0
    s2 s3 c.args.before b c.earlier.result
    (stepped_chain vs (first_cut (apart_test l) vs) (at_cut (later_test l) l.to) s0 s1 s2 c.args.before a b c.apart-first.ensures.step
    step2) step3
