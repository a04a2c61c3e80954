-- each so far has known variables
use Rattle.std.proofs.Common.{◌<◌, ◌≤◌, ◌*◌, ◌+◌, ◌/◌, All}
use Rattle.un_kinds.specs.AnyProps.{scope_of, span_of}
use Rattle.un_kinds.specs.declared.any.AnyProp.{AnyProp}
use Rattle.inspect.proofs.chains.all_links.Given as goal

abbrev pub invariant-loop-i : goal.invariant-loop-i
invariant-loop-i l = record {
  among : All (λ (p : AnyProp). All (λ v. v.0 < 5 * (l.links / 4 + 1)) (scope_of p)) l.props.items;
  spans : All (λ (p : AnyProp). span_of p ≤ 0) l.props.items;
}
