-- the temporaries before place i
use Rattle.std.proofs.Common.{◌≡◌, ◌≢◌, ◌≤◌, ◌-◌, All, get_or}
use Rattle.un_domains.specs.Sets.{set_at, least}
use Rattle.un_prop.specs.Going.{Stepped}
use Rattle.un_prop.specs.declared.propagator.Pruned.TheVariants.{Same, Failed}
use Rattle.un_rect.specs.Apart.{check_pair}
use Rattle.un_rect.specs.Pairs.{each_before}
use Rattle.un_rect.proofs.checks.check_row.Given as goal

abbrev pub invariant-loop-i : goal.invariant-loop-i
invariant-loop-i l = record {
  within : l.i ≤ l.j;
  step : Stepped l.fn.w.vars.now (each_before (check_pair l.fn.w.vars.now) l.temps l.b l.i) l.fn.w.store.now l.w.store.now Same
      l.did;
  written : l.did ≢ Failed → All (λ u. get_or l.fixed u.0 0 ≡ least (set_at l.w.store.now.sets u.0)) l.fn.w.vars.now;
  same_reference : l.w.store.ghost_name ≡ l.fn.w.store.ghost_name;
  vars : l.w.vars ≡ l.fn.w.vars;
}

abbrev pub decreases-loop-i : goal.decreases-loop-i
decreases-loop-i l = l.j - l.i
