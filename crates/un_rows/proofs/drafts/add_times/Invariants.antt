-- those that are added, and as many as are left
use Rattle.std.proofs.Common.{◌≡◌, ◌-◌, ◌++◌, replicate}
use Rattle.un_rows.proofs.drafts.add_times.Given as goal

abbrev pub invariant-loop : goal.invariant-loop
invariant-loop l = l.list ++ replicate (l.fn.many - l.counter) l.one ≡ l.initial.list ++ replicate l.fn.many l.one
