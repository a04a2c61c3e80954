-- those so far are known
use Rattle.std.proofs.Common.{ℕ, ◌<◌, get_or}
use Rattle.un_base.specs.declared.ids.VarId.{VarId}
use Rattle.tests_model.proofs.prunes.knows.Given as goal

abbrev pub invariant-loop-v : goal.invariant-loop-v
invariant-loop-v l = (k : ℕ) (d : VarId) → k < l.v-index → (get_or l.vars k d).0 < l.n
