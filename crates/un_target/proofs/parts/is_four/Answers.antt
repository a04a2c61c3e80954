use Rattle.std.proofs.Common.{List, length, ap}
use Rattle.serde_json.specs.View.{view}
use Rattle.serde_json.specs.declared.value.Value.{Value}
use Rattle.un_target.proofs.EntryLaws.{counts_four}
use Rattle.un_target.proofs.parts.is_four.Goals as goal

pub returns-in-Some : goal.returns-in-Some
returns-in-Some c = counts_four (view c.args.value.now) c.in-Some.items.now.items _ c.in-Some.ensures
    (ap (λ (vs : List Value). length vs) c.as_slice.ensures.value)
