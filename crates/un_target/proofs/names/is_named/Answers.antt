use Rattle.un_target.proofs.NameLaws.{named_test}
use Rattle.un_target.proofs.names.is_named.Goals as goal

pub returns : goal.returns
returns c = named_test c.op_named.result c.args.text.now c.is_some.result c.is_some.ensures c.op_named.ensures.some c.op_named.ensures.none
