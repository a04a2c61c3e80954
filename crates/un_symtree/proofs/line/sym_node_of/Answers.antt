use Rattle.std.proofs.Common.{rules, ◌≢◌, codes}
use Rattle.un_base.proofs.Cuts.{if_none}
use Rattle.un_symtree.proofs.SymLines.{line_uncut, line_no_word}
use Rattle.un_symtree.proofs.line.sym_node_of.Goals as goal

pub returns-in_err-word-clause-none : goal.returns-in_err-word-clause-none
returns-in_err-word-clause-none c =
    let other : c.args.line.now ≢ codes "C" = search rules in
    if_none c.from_residual.result (line_uncut c.args.line.now other c.in_err-word.ensures.none)

pub returns-clause-none : goal.returns-clause-none
returns-clause-none c =
    let other : c.args.line.now ≢ codes "C" = search rules in
    let no_branch : c.in_ok-word.word.now ≢ codes "B" = search rules in
    let no_mirror : c.in_ok-word.word.now ≢ codes "M" = search rules in
    line_no_word c.args.line.now c.in_ok-word.word.now c.in_ok-word.numbers.now other c.in_ok-word.ensures.some no_branch no_mirror
