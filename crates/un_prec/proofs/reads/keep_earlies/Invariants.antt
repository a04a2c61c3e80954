-- the places below i
use Rattle.std.proofs.Common.{◌≡◌}
use Rattle.un_prop.specs.Going.{Stepped}
use Rattle.un_prop.specs.Places.{each_place}
use Rattle.un_prec.specs.Reads.{early_cut}
use Rattle.un_prec.proofs.reads.keep_earlies.Given as goal

abbrev pub invariant-loop-i : goal.invariant-loop-i
invariant-loop-i l = record {
  step : Stepped l.fn.w.vars.now (each_place (early_cut l.p.user l.p.user_on l.p.choice l.p.alts) l.i) l.fn.w.store.now l.w.store.now l.fn.before
      l.did;
  same_reference : l.w.store.ghost_name ≡ l.fn.w.store.ghost_name;
  vars : l.w.vars ≡ l.fn.w.vars;
}
