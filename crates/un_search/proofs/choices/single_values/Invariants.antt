-- each variable so far has its value alone
use Rattle.un_search.proofs.RoundLemmas.{HasValues}
use Rattle.un_search.proofs.choices.single_values.Given as goal

abbrev pub invariant-loop-v : goal.invariant-loop-v
invariant-loop-v l = HasValues l.store.sets l.v l.values.items
