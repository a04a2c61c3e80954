use Rattle.std.proofs.lemmas.Result.{err_from_is_err_and}
use Rattle.un_commands.proofs.RefuteLaws.{stands_by, stands_not}
use Rattle.un_commands.proofs.StepsLaws.{is_log, is_check_of_log, bad_log, bad_check_of_log}
use Rattle.un_commands.proofs.steps.read_steps.Goals as goal

pub returns-in_err-counts-clause-bad : goal.returns-in_err-counts-clause-bad
returns-in_err-counts-clause-bad c = let p = err_from_is_err_and c.from_residual.result c.from_residual.ensures.1 in
    let words = c.args.words.now in
    let check = stands_by words 1 _ c.word_at.result _ c.word_at.ensures.ok c.is_ok.ensures.value c.if-is_ok.true in
    rw (p.1, p.2) (bad_check_of_log words _ c.requires check c.in_err-counts.ensures.bad)

pub returns-then-is_ok-clause-ok : goal.returns-then-is_ok-clause-ok
returns-then-is_ok-clause-ok c =
    let words = c.args.words.now in
    is_check_of_log words _ c.requires (stands_by words 1 _ c.word_at.result _ c.word_at.ensures.ok c.is_ok.ensures.value c.if-is_ok.true)
    c.in_ok-counts.ensures.ok

pub returns-in_err-counts-2-clause-bad : goal.returns-in_err-counts-2-clause-bad
returns-in_err-counts-2-clause-bad c =
    let p = err_from_is_err_and c.from_residual-in_err-counts-2.result c.from_residual-in_err-counts-2.ensures.1 in
    let words = c.args.words.now in
    let no_check = stands_not words 1 _ c.word_at.result _ c.word_at.ensures.bad c.is_ok.ensures.value c.if-is_ok.false in
    rw (p.1, p.2) (bad_log words _ c.requires no_check c.in_err-counts-2.ensures.bad)

pub returns-clause-ok : goal.returns-clause-ok
returns-clause-ok c = is_log c.args.words.now _ c.requires c.in_ok-counts-2.ensures.ok
