use Rattle.std.proofs.lemmas.Result.{err_from_is_err_and}
use Rattle.un_report_reader.specs.FirstBad.{InFunction, InModel, InAnswer}
use Rattle.un_isa.specs.Versions.{IsVersion}
use Rattle.un_report_reader.specs.Limits.{limits_of}
use Rattle.un_report_reader.specs.Lines.{version_text, IsName, function_text, AreSettings, settings_text}
use Rattle.un_report_reader.proofs.PartLaws.{head_read}
use Rattle.un_report_reader.proofs.Through.{in_line, past_line}
use Rattle.un_report_reader.proofs.head.read_head.Goals as goal

pub returns-in_err-name-clause-bad : goal.returns-in_err-name-clause-bad
returns-in_err-name-clause-bad c =
    let p = err_from_is_err_and c.from_residual-in_err-name.result c.from_residual-in_err-name.ensures.1 in
    rw (p.1, p.2) (past_line IsVersion version_text (λ v. InFunction (limits_of v)) c.args.at _ _ c.in_ok-version.ensures.ok _
    (in_line IsName function_text (λ n. InModel (limits_of _)) _ _ c.in_err-name.ensures.bad))

pub returns-in_err-settings-clause-bad : goal.returns-in_err-settings-clause-bad
returns-in_err-settings-clause-bad c =
    let p = err_from_is_err_and c.from_residual-in_err-settings.result c.from_residual-in_err-settings.ensures.1 in
    rw (p.1, p.2) (past_line IsVersion version_text (λ v. InFunction (limits_of v)) c.args.at _ _ c.in_ok-version.ensures.ok _
    (past_line IsName function_text (λ n. InModel (limits_of _)) _ _ _ c.in_ok-name.ensures.ok _
    (in_line (AreSettings (limits_of _)) settings_text (λ s. InAnswer (limits_of _)) _ _ (rw c.limits_of.ensures.is at c.in_err-settings.ensures.bad))))

pub returns-clause-ok : goal.returns-clause-ok
returns-clause-ok c =
    head_read c.args.at _ _ _ _ _ _ c.in_ok-version.ensures.ok c.in_ok-name.ensures.ok (rw c.limits_of.ensures.is at c.in_ok-settings.ensures.ok)
