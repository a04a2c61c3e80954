use Rattle.std.proofs.Common.{arith, ◌<◌, length}
use Rattle.std.proofs.lemmas.Option.{slice_get_within}
use Rattle.std.proofs.lemmas.Result.{err_from_is_err_and}
use Rattle.un_commands.proofs.RefuteLaws.{stands_by, stands_not, bad_limit, bad_refute_end}
use Rattle.un_commands.proofs.RunLaws.{two_words}
use Rattle.un_commands.proofs.refute.read_refute.Goals as goal

pub returns-in_err-end_at-clause-bad : goal.returns-in_err-end_at-clause-bad
returns-in_err-end_at-clause-bad c = let p = err_from_is_err_and c.from_residual.result c.from_residual.ensures.1 in
    let words = c.args.words.now in
    let flag = stands_by words 1 _ c.word_at.result _ c.word_at.ensures.ok c.is_ok.ensures.value c.if-is_ok.true in
    let b = c.in_err-end_at.ensures.bad in rw (p.1, p.2, b.0) (bad_refute_end words c.requires flag b.1)

pub returns-then-is_ok-clause-ok : goal.returns-then-is_ok-clause-ok
returns-then-is_ok-clause-ok c =
    let words = c.args.words.now in
    two_words words _ _ c.requires (stands_by words 1 _ c.word_at.result _ c.word_at.ensures.ok c.is_ok.ensures.value c.if-is_ok.true)
    c.in_ok-end_at.ensures.ok

pub returns-in_err-limit-clause-bad : goal.returns-in_err-limit-clause-bad
returns-in_err-limit-clause-bad c =
    let p = err_from_is_err_and c.from_residual-in_err-limit.result c.from_residual-in_err-limit.ensures.1 in
    let words = c.args.words.now in
    let no_flag = stands_not words 1 _ c.word_at.result _ c.word_at.ensures.bad c.is_ok.ensures.value c.if-is_ok.false in
    let b = c.in_err-limit.ensures.bad in rw (p.1, p.2, b.0) (bad_limit words c.requires no_flag b.1)

pub read_settings-requires-clause-within : goal.read_settings-requires-clause-within
read_settings-requires-clause-within c =
    let within : 1 < length c.args.words.now = slice_get_within c.args.words.now 1 _ c.in_ok-limit.ensures.ok.0 in omega arith
