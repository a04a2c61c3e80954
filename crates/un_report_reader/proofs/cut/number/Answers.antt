use Rattle.std.proofs.Common.{rules, ◌≡◌, arith, false}
use Rattle.un_base.proofs.Cuts.{if_none}
use Rattle.un_report_reader.proofs.Cuts.{no_number, no_decimal, not_within}
use Rattle.un_report_reader.proofs.cut.number.Goals as goal

pub returns-in_err-word-clause-none : goal.returns-in_err-word-clause-none
returns-in_err-word-clause-none c =
    if_none c.from_residual.result
    (no_number c.args.text.now c.args.start.now c.args.end c.args.least c.args.most c.in_err-word.ensures.none)

pub returns-in_err-n-clause-none : goal.returns-in_err-n-clause-none
returns-in_err-n-clause-none c =
    if_none c.from_residual-in_err-n.result
    (no_decimal c.args.text.now c.args.start.now c.args.end c.args.least c.args.most _ _ c.requires (omega arith)
    c.in_ok-word.ensures.some c.in_err-n.ensures.none)

pub returns-then-not-within-clause-none : goal.returns-then-not-within-clause-none
returns-then-not-within-clause-none c =
    let no : c.within.result ≡ false = search rules in
    not_within c.args.text.now c.args.start.now c.args.end c.args.least c.args.most c.in_ok-n.n _ _ c.requires (omega arith) (omega arith)
    c.in_ok-word.ensures.some c.in_ok-n.ensures.some (λ w. let yes = c.within.ensures.1 w in cc (yes, no))
