use Rattle.un_target.proofs.NameLaws.{numbered}
use Rattle.un_target.proofs.names.op_at.Goals as goal

pub returns : goal.returns
returns c = numbered c.args.number _ c.requires
