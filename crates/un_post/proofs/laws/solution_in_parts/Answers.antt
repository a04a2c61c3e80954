use Rattle.un_post.proofs.InParts.{in_parts}
use Rattle.un_post.proofs.laws.solution_in_parts.Goals as goal

pub returns : goal.returns
returns c = let r = c.requires in in_parts c.args.m.now c.args.s.now r.model r.extended r.fit r.options r.solution
