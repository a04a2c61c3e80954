use Rattle.std.proofs.Common.{subst}
use Rattle.un_check.specs.Causes.{IsTold, claim_of}
use Rattle.un_isa.specs.Versions.{table_of}
use Rattle.un_problem.specs.Problems.{IsModelOf}
use Rattle.un_top.proofs.StepLaws.{accepted_by}
use Rattle.un_top.proofs.steps.settle.Goals as goal

pub returns-in_ok-m-in-Ok-clause-told : goal.returns-in_ok-m-in-Ok-clause-told
returns-in_ok-m-in-Ok-clause-told c =
    let f = c.args.f.now in
    let r = c.args.r.now in
    let found = c.in_ok-m-in-Ok in
    accepted_by f r found.m
    (subst (λ told. IsTold (table_of r.version) f r.options (claim_of r) told) c.in-Ok.is c.in_ok-cause.ensures.told)
    (subst (λ t. IsModelOf t f r.options found.m) c.table_of.ensures.is found.ensures.gives)
