use Rattle.un_logs.proofs.VarLaws.{taken_in}
use Rattle.un_logs.proofs.laws.all_vars.Goals as goal

pub returns : goal.returns
returns c = λ rule s o v y h. taken_in c.args.m.now c.args.limit rule s o v y h
