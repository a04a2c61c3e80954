-- those so far are 0
use Rattle.std.proofs.Common.{◌≡◌, drop}
use Rattle.un_alt.specs.Zeros.{all_zero}
use Rattle.un_alt.proofs.zeros.are_zero.Given as goal

abbrev pub invariant-loop-v : goal.invariant-loop-v
invariant-loop-v l = all_zero (drop l.v-index l.vars) l.fixed ≡ all_zero l.vars l.fixed
