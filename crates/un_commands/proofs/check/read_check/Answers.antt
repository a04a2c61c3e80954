use Rattle.std.proofs.Common.{arith}
use Rattle.std.proofs.lemmas.Result.{err_from_is_err_and}
use Rattle.un_commands.proofs.EndLaws.{bad_check, bad_check_end}
use Rattle.un_commands.proofs.RunLaws.{one_word, two_words}
use Rattle.un_commands.proofs.check.read_check.Goals as goal

pub returns-then-words-eq1-clause-ok : goal.returns-then-words-eq1-clause-ok
returns-then-words-eq1-clause-ok c = one_word c.args.words.now _ c.requires (omega arith)

pub returns-clause-ok : goal.returns-clause-ok
returns-clause-ok c = two_words c.args.words.now _ _ c.requires c.in_ok-word_at.ensures.ok c.in_ok-end_at.ensures.ok

pub returns-in_err-word_at-clause-bad : goal.returns-in_err-word_at-clause-bad
returns-in_err-word_at-clause-bad c = let p = err_from_is_err_and c.from_residual.result c.from_residual.ensures.1 in
    let b = c.in_err-word_at.ensures.bad in rw (p.1, p.2, b.0) (bad_check c.args.words.now c.requires c.if-words-eq1.false b.1)

pub returns-in_err-end_at-clause-bad : goal.returns-in_err-end_at-clause-bad
returns-in_err-end_at-clause-bad c =
    let p = err_from_is_err_and c.from_residual-in_err-end_at.result c.from_residual-in_err-end_at.ensures.1 in
    let b = c.in_err-end_at.ensures.bad in
    rw (p.1, p.2, b.0) (bad_check_end c.args.words.now c.requires c.in_ok-word_at.ensures.ok b.1)
