use Rattle.un_isa.specs.Versions.{table_of}
use Rattle.un_check.specs.Causes.{claim_of}
use Rattle.un_check.proofs.CauseLemmas.{answer_told}
use Rattle.un_check.proofs.laws.one_answer.Goals as goal

pub returns : goal.returns
returns c a b x y = answer_told (table_of c.args.r.now.version) c.args.f.now c.args.r.now.options (claim_of c.args.r.now) a b x y
