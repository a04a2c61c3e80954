-- the ends below i
use Rattle.std.proofs.Common.{◌≡◌, ◌≢◌, ◌+◌, take}
use Rattle.un_prop.specs.Going.{Stepped}
use Rattle.un_prop.specs.Rounds.{round}
use Rattle.un_prop.specs.declared.propagator.Pruned.TheVariants.{Failed}
use Rattle.un_prec.specs.Below.{least_cost, end_cut}
use Rattle.un_prec.proofs.below.keep_ends.Given as goal

abbrev pub invariant-loop-i : goal.invariant-loop-i
invariant-loop-i l = record {
  step : Stepped l.fn.w.vars.now (round (end_cut l.p.ends l.p.limit) (take l.i l.p.ends)) l.fn.w.store.now l.w.store.now l.fn.before l.did;
  room : l.did ≢ Failed → least_cost l.p.ends l.w.store.now.sets + l.room + 1 ≡ l.p.limit;
  same_reference : l.w.store.ghost_name ≡ l.fn.w.store.ghost_name;
  vars : l.w.vars ≡ l.fn.w.vars;
}
