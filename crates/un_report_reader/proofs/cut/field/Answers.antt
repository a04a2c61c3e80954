use Rattle.std.proofs.Common.{◌++◌, ◌∷◌}
use Rattle.un_base.proofs.Cuts.{if_none}
use Rattle.un_report_reader.proofs.Cuts.{no_field}
use Rattle.un_report_reader.proofs.cut.field.Goals as goal

pub returns-in_err-rest-clause-none : goal.returns-in_err-rest-clause-none
returns-in_err-rest-clause-none c =
    if_none c.from_residual.result (λ word more. c.in_err-rest.ensures.none (word ++ c.args.end ∷ more))

pub returns-in_err-word-clause-none : goal.returns-in_err-word-clause-none
returns-in_err-word-clause-none c =
    if_none c.from_residual-in_err-word.result
    (no_field c.args.text.now c.args.start.now _ c.args.end c.in_ok-rest.ensures.some c.in_err-word.ensures.none)
