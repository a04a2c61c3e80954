-- some of the rest is within where some of all is
use Rattle.std.proofs.Common.{◌≡◌, drop}
use Rattle.std.specs.List.{list_any}
use Rattle.un_base.specs.declared.ids.VarId.{VarId}
use Rattle.un_domains.specs.Sets.{set_at}
use Rattle.un_alt.specs.FrameCuts.{is_within}
use Rattle.un_alt.proofs.frame_cuts.any_within.Given as goal

abbrev pub invariant-loop-v : goal.invariant-loop-v
invariant-loop-v l = list_any (λ (v : VarId). is_within l.low l.high (set_at l.w.store.now.sets v.0)) (drop l.v-index l.vars)
    ≡ list_any (λ (v : VarId). is_within l.low l.high (set_at l.w.store.now.sets v.0)) l.vars
