use Rattle.un_saved.proofs.OwedCalls.{model_calls}
use Rattle.un_saved.proofs.laws.crowded_by_call.Goals as goal

pub returns : goal.returns
returns c k b op at keeps has call = model_calls c.args.m.now c.args.s.now c.requires.model c.requires.extended c.requires.fit
    c.requires.options c.requires.solution k b op at keeps has call
