use Rattle.un_saved.proofs.OwedReloads.{model_reloads}
use Rattle.un_saved.proofs.laws.reloaded_by_end.Goals as goal

pub returns : goal.returns
returns c k b at read = model_reloads c.args.m.now c.args.s.now c.requires.model c.requires.extended c.requires.fit
    c.requires.options c.requires.solution k b at read
