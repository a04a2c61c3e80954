-- the values below y are tried
use Rattle.std.proofs.Common.{ℕ, ◌≡◌, ◌≢◌, ◌||◌, get_or, set, nat_le}
use Rattle.un_domains.specs.Sets.{cut_by}
use Rattle.un_prop.specs.Going.{Stepped}
use Rattle.un_prop.specs.Last.{point}
use Rattle.un_prop.specs.declared.propagator.Pruned.TheVariants.{Same}
use Rattle.un_rect.specs.Apart.{pair_holds}
use Rattle.un_rect.proofs.checks.try_all.Given as goal

abbrev pub invariant-loop-y : goal.invariant-loop-y
invariant-loop-y l = record {
  step : Stepped l.fn.w.vars.now (cut_by (λ z. nat_le l.y z || pair_holds l.a l.b (set (point l.fn.w.store.now.sets) l.v.0 z)) l.v.0)
      l.fn.w.store.now l.w.store.now Same l.did;
  others : (u : ℕ) → u ≢ l.v.0 → get_or l.fixed u 0 ≡ get_or l.fn.fixed u 0;
  same_reference : l.w.store.ghost_name ≡ l.fn.w.store.ghost_name;
  vars : l.w.vars ≡ l.fn.w.vars;
}
