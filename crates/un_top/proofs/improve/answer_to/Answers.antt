use Rattle.std.proofs.Common.{ℕ, Option, subst}
use Rattle.std.specs.Prelude.{MatchOption}
use Rattle.un_violations.specs.Loose.{IsLoose}
use Rattle.un_top.specs.Improvements.{IsFirstLoose}
use Rattle.un_top.proofs.ImproveLaws.{told_broken, told_improved}
use Rattle.un_top.proofs.improve.answer_to.Goals as goal

pub improved-requires-clause-loose : goal.improved-requires-clause-loose
improved-requires-clause-loose c =
    let m = c.args.m.now in
    let s = c.args.s.now in
    subst (λ (o : Option ℕ). MatchOption o (IsLoose m s) (IsFirstLoose m s)) c.in-None.is c.in_ok-clause.ensures

pub returns-in-Some-clause-answer : goal.returns-in-Some-clause-answer
returns-in-Some-clause-answer c =
    let m = c.args.m.now in
    let s = c.args.s.now in
    told_broken c.args.f.now m c.args.nodes s c.in-Some.clause c.refusal.result
    (subst (λ (o : Option ℕ). MatchOption o (IsLoose m s) (IsFirstLoose m s)) c.in-Some.is c.in_ok-clause.ensures)
    c.refusal.ensures.ends c.refusal.ensures.printed

pub returns-in-None-clause-answer : goal.returns-in-None-clause-answer
returns-in-None-clause-answer c =
    let m = c.args.m.now in
    let s = c.args.s.now in
    told_improved c.args.f.now m c.args.nodes s c.improved.result
    (subst (λ (o : Option ℕ). MatchOption o (IsLoose m s) (IsFirstLoose m s)) c.in-None.is c.in_ok-clause.ensures) c.improved.ensures.found
