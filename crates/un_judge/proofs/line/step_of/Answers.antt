use Rattle.un_base.proofs.Cuts.{if_none}
use Rattle.un_judge.proofs.Spellings.{no_rule, no_place, no_var, no_first, no_last}
use Rattle.un_judge.proofs.line.step_of.Goals as goal

pub returns-in_err-rule-clause-none : goal.returns-in_err-rule-clause-none
returns-in_err-rule-clause-none c =
    let a = c.in_ok-number.ensures in
    if_none c.from_residual-in_err-rule.result
    (no_rule c.args.rules c.args.text.now c.in_ok-number.number c.in_ok-number.text.now a.small a.some c.in_err-rule.ensures.none)

pub returns-in_err-place-clause-none : goal.returns-in_err-place-clause-none
returns-in_err-place-clause-none c =
    let a = c.in_ok-number.ensures in
    if_none c.from_residual-in_err-place.result
    (no_place c.args.rules c.args.text.now c.in_ok-number.number c.in_ok-number.text.now a.small a.some c.in_err-place.ensures.none)

pub returns-in_err-var-clause-none : goal.returns-in_err-var-clause-none
returns-in_err-var-clause-none c =
    let a = c.in_ok-number.ensures in
    let b = c.in_ok-place.ensures in
    if_none c.from_residual-in_err-var.result
    (no_var c.args.rules c.args.text.now c.in_ok-number.number c.in_ok-number.text.now a.small a.some c.in_ok-place.place
    c.in_ok-place.text.now b.small b.some c.in_err-var.ensures.none)

pub returns-in_err-first-clause-none : goal.returns-in_err-first-clause-none
returns-in_err-first-clause-none c =
    let a = c.in_ok-number.ensures in
    let b = c.in_ok-place.ensures in
    let d = c.in_ok-var.ensures in
    if_none c.from_residual-in_err-first.result
    (no_first c.args.rules c.args.text.now c.in_ok-number.number c.in_ok-number.text.now a.small a.some c.in_ok-place.place
    c.in_ok-place.text.now b.small b.some c.in_ok-var.var c.in_ok-var.text.now d.small d.some c.in_err-first.ensures.none)

pub returns-in_err-last-clause-none : goal.returns-in_err-last-clause-none
returns-in_err-last-clause-none c =
    let a = c.in_ok-number.ensures in
    let b = c.in_ok-place.ensures in
    let d = c.in_ok-var.ensures in
    let f = c.in_ok-first.ensures in
    if_none c.from_residual-in_err-last.result
    (no_last c.args.rules c.args.text.now c.in_ok-number.number c.in_ok-number.text.now a.small a.some c.in_ok-place.place
    c.in_ok-place.text.now b.small b.some c.in_ok-var.var c.in_ok-var.text.now d.small d.some c.in_ok-first.first c.in_ok-first.text.now
    f.small f.some c.in_err-last.ensures.none)
