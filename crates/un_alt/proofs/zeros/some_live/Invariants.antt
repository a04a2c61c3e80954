-- some of the rest cannot be 0 where some of all cannot
use Rattle.std.proofs.Common.{◌≡◌, drop}
use Rattle.un_alt.specs.Zeros.{some_live}
use Rattle.un_alt.proofs.zeros.some_live.Given as goal

abbrev pub invariant-loop-v : goal.invariant-loop-v
invariant-loop-v l = some_live (drop l.v-index l.vars) l.w.store.now.sets ≡ some_live l.vars l.w.store.now.sets
