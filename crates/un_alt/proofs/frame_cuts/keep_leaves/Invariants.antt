-- the entries so far
use Rattle.std.proofs.Common.{◌≡◌, take}
use Rattle.un_prop.specs.Going.{Stepped}
use Rattle.un_prop.specs.Rounds.{round}
use Rattle.un_alt.specs.FrameCuts.{leave_op_cut}
use Rattle.un_alt.proofs.frame_cuts.keep_leaves.Given as goal

abbrev pub invariant-loop-l : goal.invariant-loop-l
invariant-loop-l l = record {
  step : Stepped l.fn.w.vars.now (round (leave_op_cut l.p.flag) (take l.l-index l.p.leaves)) l.fn.w.store.now l.w.store.now l.fn.before
      l.did;
  same_reference : l.w.store.ghost_name ≡ l.fn.w.store.ghost_name;
  vars : l.w.vars ≡ l.fn.w.vars;
}
