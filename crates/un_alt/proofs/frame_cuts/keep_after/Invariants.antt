-- the entries so far
use Rattle.std.proofs.Common.{◌≡◌, take}
use Rattle.un_prop.specs.Going.{Stepped}
use Rattle.un_prop.specs.Rounds.{round}
use Rattle.un_alt.specs.FrameCuts.{entry_cut}
use Rattle.un_alt.proofs.frame_cuts.keep_after.Given as goal

abbrev pub invariant-loop-u : goal.invariant-loop-u
invariant-loop-u l = record {
  step : Stepped l.fn.w.vars.now (round (entry_cut l.p.flag l.fn.enter) (take l.u-index l.p.entry)) l.fn.w.store.now l.w.store.now
      l.fn.before l.did;
  same_reference : l.w.store.ghost_name ≡ l.fn.w.store.ghost_name;
  vars : l.w.vars ≡ l.fn.w.vars;
}
