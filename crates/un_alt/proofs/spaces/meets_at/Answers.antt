use Rattle.std.proofs.Common.{◌∙◌, sym, ap}
use Rattle.std.specs.List.{list_any}
use Rattle.un_domains.specs.Sets.{set_at, has}
use Rattle.un_prop.specs.ChoiceLaws.{passes_within, passes_past}
use Rattle.un_alt.proofs.spaces.meets_at.Goals as goal

pub returns-then-n-sets : goal.returns-then-n-sets
returns-then-n-sets c =
    let t = list_any (has (set_at c.args.w.now.store.now.sets c.args.v.0)) in
    let set = c.index-sets-n.result in
    c.meets.ensures ∙ (ap t c.index-sets-n.is ∙ sym (passes_within t c.args.sets.now c.args.n set c.if-n-sets.true))

pub returns-else-n-sets : goal.returns-else-n-sets
returns-else-n-sets c = sym (passes_past (list_any (has (set_at c.args.w.now.store.now.sets c.args.v.0))) c.args.sets.now c.args.n
    c.if-n-sets.false)
