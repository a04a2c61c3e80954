use Rattle.std.proofs.lemmas.Result.{err_from_is_err_and}
use Rattle.un_commands.proofs.GenerateLaws.{bad_seed, bad_size}
use Rattle.un_commands.proofs.generate.read_generate.Goals as goal

pub returns-in_err-seed-clause-bad : goal.returns-in_err-seed-clause-bad
returns-in_err-seed-clause-bad c = let p = err_from_is_err_and c.from_residual.result c.from_residual.ensures.1 in let b = c.in_err-seed.ensures.bad in
    rw (p.1, p.2, b.0) (bad_seed c.args.words.now c.requires b.1)

pub returns-in_err-size-clause-bad : goal.returns-in_err-size-clause-bad
returns-in_err-size-clause-bad c = let p = err_from_is_err_and c.from_residual-in_err-size.result c.from_residual-in_err-size.ensures.1 in let b = c.in_err-size.ensures.bad in
    rw (p.1, p.2, b.0) (bad_size c.args.words.now c.in_ok-seed.seed c.requires c.in_ok-seed.ensures.ok.1 c.in_ok-seed.ensures.ok.0 b.1)
