use Rattle.un_saved.proofs.Models.{model_place, model_count}
use Rattle.un_saved.proofs.laws.one_place.Goals as goal

pub returns-clause-place : goal.returns-clause-place
returns-clause-place c boundary joined j lt = model_place c.args.m.now c.args.s.now c.requires.model c.requires.extended c.requires.fit
    c.requires.options c.requires.solution boundary joined j lt

pub returns-clause-count : goal.returns-clause-count
returns-clause-count c boundary joined = model_count c.args.m.now c.args.s.now c.requires.model c.requires.extended c.requires.fit
    c.requires.options c.requires.solution boundary joined
