-- the rows before place j
use Rattle.std.proofs.Common.{◌≡◌, ◌≢◌, All, get_or}
use Rattle.un_domains.specs.Sets.{set_at, least}
use Rattle.un_prop.specs.Going.{Stepped}
use Rattle.un_prop.specs.declared.propagator.Pruned.TheVariants.{Failed}
use Rattle.un_rect.specs.Apart.{check_pair}
use Rattle.un_rect.specs.Extents.{AreLeft}
use Rattle.un_rect.specs.Pairs.{each_pair}
use Rattle.un_rect.proofs.checks.check_all.Given as goal

abbrev pub invariant-loop-j : goal.invariant-loop-j
invariant-loop-j l = record {
  step : Stepped l.fn.w.vars.now (each_pair (check_pair l.fn.w.vars.now) l.temps l.j) l.fn.w.store.now l.w.store.now l.fn.before l.did;
  written : l.did ≢ Failed → All (λ u. get_or l.fixed u.0 0 ≡ least (set_at l.w.store.now.sets u.0)) l.fn.w.vars.now;
  are : l.did ≢ Failed → AreLeft l.temps l.w.store.now.sets l.left;
  same_reference : l.w.store.ghost_name ≡ l.fn.w.store.ghost_name;
  vars : l.w.vars ≡ l.fn.w.vars;
}
