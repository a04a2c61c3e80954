-- the values below y are tried
use Rattle.std.proofs.Common.{◌≡◌, ◌≢◌, ◌||◌, get_or, set, nat_le, All}
use Rattle.un_domains.specs.Sets.{set_at, least, cut_by}
use Rattle.un_prop.specs.Last.{point}
use Rattle.un_prop.specs.Pruning.{IsPrune}
use Rattle.un_prop.proofs.last.try_all.Given as goal

abbrev pub invariant-loop-y : goal.invariant-loop-y
invariant-loop-y g l = record {
  prune : IsPrune l.fn.w.vars.now (cut_by (λ z. nat_le l.y z || g.P.Predicate.holds l.p (set (point l.fn.w.store.now.sets) l.v.0 z)) l.v.0
      l.fn.w.store.now.sets) l.fn.w.store.now l.w.store.now l.did;
  written : All (λ u. u.0 ≢ l.v.0 → get_or l.fixed u.0 0 ≡ least (set_at l.fn.w.store.now.sets u.0)) (g.P.Predicate.scope l.p);
  same_reference : l.w.store.ghost_name ≡ l.fn.w.store.ghost_name;
  vars : l.w.vars ≡ l.fn.w.vars;
}
