use Rattle.std.proofs.Common.{sym, ◌∙◌}
use Rattle.un_prop.specs.LastLaws.{second_open}
use Rattle.un_prop.proofs.last.find_last.Goals as goal

pub returns-then-is_some : goal.returns-then-is_some
returns-then-is_some c =
    second_open c.args.w.now.store.now.sets c.args.vars.now c.loop-v.v-index (record { 0 = 0 }) c.loop-v.found c.loop-v-test.true
    (sym c.is_single.ensures ∙ c.if-not-is_single.true) (sym c.is_some.ensures ∙ c.if-is_some.true) c.loop-v.invariant
