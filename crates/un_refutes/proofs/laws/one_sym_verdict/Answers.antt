use Rattle.std.proofs.Common.{Some}
use Rattle.un_refutes.proofs.VerdictLemmas.{verdict_one}
use Rattle.un_refutes.proofs.laws.one_sym_verdict.Goals as goal

pub returns : goal.returns
returns c u v x y = verdict_one c.args.m.now (Some c.args.limit) c.args.t.now.nodes.items u v x y
