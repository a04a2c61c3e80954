-- the values so far
use Rattle.std.proofs.Common.{ℕ, ◌≡◌, ◌<◌, get_or}
use Rattle.un_base.specs.declared.ids.VarId.{VarId}
use Rattle.un_domains.specs.Sets.{set_at, least}
use Rattle.un_prop.proofs.last.fill.Given as goal

abbrev pub invariant-loop-v : goal.invariant-loop-v
invariant-loop-v l = (k : ℕ) (d : VarId) → k < l.v-index → get_or l.fixed (get_or l.vars k d).0 0 ≡ least
    (set_at l.w.store.now.sets (get_or l.vars k d).0)
