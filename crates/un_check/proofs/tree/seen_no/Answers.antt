use Rattle.un_check.proofs.WalkLemmas.{no_seen}
use Rattle.un_check.proofs.tree.seen_no.Goals as goal

pub returns : goal.returns
returns c m limit nodes h = no_seen m limit nodes c.args.verdict c.args.walk.now.outer_nodes h
