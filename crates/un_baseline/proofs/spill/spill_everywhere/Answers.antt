use Rattle.std.proofs.Common.{◌≡◌, rules}
use Rattle.un_baseline.specs.SpillEverywhere.{spilled_values}
use Rattle.un_baseline.proofs.Solved.{solution_of_model}
use Rattle.un_baseline.proofs.SpilledCosts.{cost_of_model}
use Rattle.un_baseline.proofs.spill.spill_everywhere.Goals as goal

pub returns-clause-solution : goal.returns-clause-solution
returns-clause-solution c =
    let same : c.push.new.self ≡ spilled_values c.args.m.now.ext = search rules in solution_of_model c.args.m.now c.requires
    c.push.new.self same

pub returns-clause-cost : goal.returns-clause-cost
returns-clause-cost c source =
    let same : c.push.new.self ≡ spilled_values c.args.m.now.ext = search rules in cost_of_model c.args.m.now c.requires
    c.push.new.self same source
