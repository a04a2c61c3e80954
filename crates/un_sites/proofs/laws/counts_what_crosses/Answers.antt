use Rattle.un_sites.proofs.Chaining.{all_counted}
use Rattle.un_sites.proofs.laws.counts_what_crosses.Goals as goal

pub returns : goal.returns
returns c b ps call x h = all_counted c.args.m.now c.requires b ps call x h
