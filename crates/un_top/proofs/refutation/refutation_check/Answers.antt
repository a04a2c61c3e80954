use Rattle.std.proofs.lemmas.Result.{err_from_is_err_and}
use Rattle.un_isa.specs.Versions.{table_of}
use Rattle.un_isa.specs.declared.table.TheConstants.{LAST}
use Rattle.un_top.proofs.RefuteLaws.{refutation_first, refutation_second, check_is}
use Rattle.un_top.proofs.refutation.refutation_check.Goals as goal

pub returns-in_err-f-clause-refused : goal.returns-in_err-f-clause-refused
returns-in_err-f-clause-refused c = let p = err_from_is_err_and c.from_residual.result c.from_residual.ensures.1 in
    let parts = c.split-parts in
    rw (p.1, p.2) (refutation_first c.args.input.now parts.result.first.now c.in_err-f.field-0.0 parts.ensures.first c.in_err-f.ensures.refused)

pub returns-in_err-out-clause-refused : goal.returns-in_err-out-clause-refused
returns-in_err-out-clause-refused c =
    let p = err_from_is_err_and c.from_residual-in_err-out.result c.from_residual-in_err-out.ensures.1 in
    let parts = c.split-parts in
    rw (p.1, p.2) (refutation_second c.args.input.now parts.result.first.now parts.result.second.now c.in_ok-f.f c.in_err-out.field-0.0
    parts.ensures.first parts.ensures.second c.in_ok-f.ensures.ok c.in_err-out.ensures.refused)

pub returns-clause-ok : goal.returns-clause-ok
returns-clause-ok c =
    let parts = c.split-parts in
    let out = c.in_ok-out.out in
    check_is (table_of LAST) c.args.input.now parts.result.first.now parts.result.second.now c.in_ok-f.f out.status out.text.items
    parts.ensures.first parts.ensures.second c.in_ok-f.ensures.ok c.in_ok-out.ensures.ok
