use Rattle.std.proofs.Common.{List, ℕ, refl, subst}
use Rattle.serde_json.specs.View.{items_view}
use Rattle.serde_json.specs.declared.value.Value.{Value}
use Rattle.un_target.specs.Saved.{AreSaved}
use Rattle.un_target.proofs.reading.table.Goals as goal

pub returns-in_default-clause-bad : goal.returns-in_default-clause-bad
returns-in_default-clause-bad c = c.in_default.ensures.none

pub returns-in_default-all_needs-clause-bad : goal.returns-in_default-all_needs-clause-bad
returns-in_default-all_needs-clause-bad c = (c.in-Some.lat, c.in-Some.ensures.some, c.in_default-all_needs.ensures.none)

pub returns-in_default-saved_mask-clause-bad : goal.returns-in_default-saved_mask-clause-bad
returns-in_default-saved_mask-clause-bad c = (
  c.in-Some.lat,
  c.in-Some.ensures.some,
  c.in-Some-all_needs.uses,
  c.in-Some-all_needs.ensures.some,
  subst (λ (vs : List Value). (mask : ℕ) → AreSaved (items_view vs) mask → ⊥) c.deref.ensures.value c.in_default-saved_mask.ensures.none,
)

pub returns-clause-ok : goal.returns-clause-ok
returns-clause-ok c = record {
  latencies = c.in-Some.ensures.some;
  uses = c.in-Some-all_needs.ensures.some;
  saved = subst (λ (vs : List Value). AreSaved (items_view vs) c.in-Some-saved_mask.saved) c.deref.ensures.value
      c.in-Some-saved_mask.ensures.some;
  clobbered = c.clobbered_mask.ensures.bits;
  no_others = c.clobbered_mask.ensures.no_others;
  args = refl;
  result = refl;
  fresh = refl;
}
