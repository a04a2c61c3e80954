use Rattle.std.proofs.Common.{arith}
use Rattle.std.proofs.lemmas.Result.{err_from_is_err_and}
use Rattle.un_commands.proofs.GenerateLaws.{is_generate, is_generate_alloc, bad_flag, bad_nodes, bad_end}
use Rattle.un_commands.proofs.generate.read_rest.Goals as goal

pub returns-then-words-eq3-clause-ok : goal.returns-then-words-eq3-clause-ok
returns-then-words-eq3-clause-ok c = is_generate c.args.words.now c.args.seed c.args.size c.requires (omega arith)

pub returns-in_err-word_at-clause-bad : goal.returns-in_err-word_at-clause-bad
returns-in_err-word_at-clause-bad c = let p = err_from_is_err_and c.from_residual.result c.from_residual.ensures.1 in let b = c.in_err-word_at.ensures.bad in
    rw (p.1, p.2, b.0) (bad_flag c.args.words.now c.args.seed c.args.size c.requires c.if-words-eq3.false b.1)

pub returns-in_err-nodes-clause-bad : goal.returns-in_err-nodes-clause-bad
returns-in_err-nodes-clause-bad c = let p = err_from_is_err_and c.from_residual-in_err-nodes.result c.from_residual-in_err-nodes.ensures.1 in let b = c.in_err-nodes.ensures.bad in
    rw (p.1, p.2, b.0) (bad_nodes c.args.words.now c.args.seed c.args.size c.requires c.in_ok-word_at.ensures.ok b.1)

pub returns-in_err-end_at-clause-bad : goal.returns-in_err-end_at-clause-bad
returns-in_err-end_at-clause-bad c = let p = err_from_is_err_and c.from_residual-in_err-end_at.result c.from_residual-in_err-end_at.ensures.1 in let b = c.in_err-end_at.ensures.bad in
    rw (p.1, p.2, b.0) (bad_end c.args.words.now c.args.seed c.args.size c.in_ok-nodes.nodes c.requires c.in_ok-word_at.ensures.ok
    c.in_ok-nodes.ensures.ok.0 (c.in_ok-nodes.ensures.ok.1, c.in_ok-nodes.ensures.ok.2) b.1)

pub returns-clause-ok : goal.returns-clause-ok
returns-clause-ok c = is_generate_alloc c.args.words.now c.args.seed c.args.size c.in_ok-nodes.nodes c.requires c.in_ok-word_at.ensures.ok
    c.in_ok-nodes.ensures.ok.0 (c.in_ok-nodes.ensures.ok.1, c.in_ok-nodes.ensures.ok.2) c.in_ok-end_at.ensures.ok
