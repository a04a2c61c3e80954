use Rattle.std.proofs.Common.{sym, subst}
use Rattle.std.specs.declared.option.Option.{Option}
use Rattle.un_domains.specs.Sets.{Sets}
use Rattle.un_prop.specs.AmongLaws.{in_list}
use Rattle.un_prop.specs.GoingLaws.{stepped_then}
use Rattle.un_prop.specs.Pruning.{IsPrune}
use Rattle.un_rect.specs.Clobber.{check_call}
use Rattle.un_rect.proofs.Going.{going}
use Rattle.un_rect.proofs.clobber.check.Goals as goal

pub try_all-did-requires-clause-lent : goal.try_all-did-requires-clause-lent
try_all-did-requires-clause-lent c = in_list c.args.p.now.vars.now c.in-Some.v c.in-Some.ensures.0

pub returns-in-Some-clause-step : goal.returns-in-Some-clause-step
returns-in-Some-clause-step c =
    let p = c.args.p.now in
    let vs = c.args.w.now.vars.now in
    let s = c.args.w.now.store.now in
    let did = c.try_all-did in
    let new = did.new.w.store.now in
    let f = check_call p.vars.now p.mask p.temp.now p.call.now in
    let done = subst (λ (o : Option Sets). IsPrune vs o s new did.result) (sym c.in-Some.ensures.1) did.ensures.prune in
    stepped_then vs f s new c.args.before did.result c.joined.result (going c.args.before c.if-eq.ensures) c.joined.ensures
    done.untouched.long
    (λ live. (done.ends, done.untouched))

pub undecided-requires-clause-vars : goal.undecided-requires-clause-vars
undecided-requires-clause-vars c = c.requires.vars

pub undecided-requires-clause-ascend : goal.undecided-requires-clause-ascend
undecided-requires-clause-ascend c = c.requires.ascend

pub undecided-requires-clause-known : goal.undecided-requires-clause-known
undecided-requires-clause-known c = c.requires.known

pub undecided-requires-clause-live : goal.undecided-requires-clause-live
undecided-requires-clause-live c = c.requires.live (going c.args.before c.if-eq.ensures)
