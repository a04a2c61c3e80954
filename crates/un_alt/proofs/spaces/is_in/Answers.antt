use Rattle.std.proofs.Common.{ℕ, List, ◌∙◌, sym, ap}
use Rattle.un_domains.specs.Sets.{has}
use Rattle.un_prop.specs.ChoiceLaws.{passes_within, passes_past}
use Rattle.un_alt.proofs.spaces.is_in.Goals as goal

pub returns-then-i-sets : goal.returns-then-i-sets
returns-then-i-sets c =
    let t = λ (set : List ℕ). has set c.args.n in
    let set = c.index-sets-i.result in
    c.contains.ensures ∙ (ap t c.index-sets-i.is ∙ sym (passes_within t c.args.sets.now c.args.i set c.if-i-sets.true))

pub returns-else-i-sets : goal.returns-else-i-sets
returns-else-i-sets c = sym (passes_past (λ (set : List ℕ). has set c.args.n) c.args.sets.now c.args.i c.if-i-sets.false)
