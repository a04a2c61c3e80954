use Rattle.un_refutation.proofs.RefutationLaws.{refutation_back}
use Rattle.un_refutation.proofs.read.read_refutation.Goals as goal

pub returns-clause-whole : goal.returns-clause-whole
returns-clause-whole c = refutation_back c.args.text.now c.refutation.result c.refutation.ensures.ok c.refutation.ensures.bad
