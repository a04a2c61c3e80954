use Rattle.un_joined.proofs.Joining.{is_joined}
use Rattle.un_joined.proofs.laws.joined.Goals as goal

pub returns : goal.returns
returns c = let r = c.requires in is_joined c.args.m.now c.args.s.now r.model r.extended r.fit r.options
