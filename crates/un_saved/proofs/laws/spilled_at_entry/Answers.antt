use Rattle.un_saved.proofs.OwedSpills.{model_spills}
use Rattle.un_saved.proofs.laws.spilled_at_entry.Goals as goal

pub returns : goal.returns
returns c b at own = model_spills c.args.m.now c.args.s.now c.requires.model c.requires.extended c.requires.fit
    c.requires.options c.requires.solution b at own
