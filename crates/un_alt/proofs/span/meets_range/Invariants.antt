-- none so far
use Rattle.std.proofs.Common.{◌≡◌, ◌+◌, ◌-◌}
use Rattle.std.specs.List.{list_any, range_with_len}
use Rattle.un_domains.specs.Sets.{set_at, has}
use Rattle.un_alt.proofs.span.meets_range.Given as goal

abbrev pub invariant-loop-r : goal.invariant-loop-r
invariant-loop-r l = list_any (has (set_at l.w.store.now.sets l.v.0)) (range_with_len l.r (l.first + l.count - l.r))
    ≡ list_any (has (set_at l.w.store.now.sets l.v.0)) (range_with_len l.first l.count)
