use Rattle.std.proofs.Common.{◌≡◌, ◌++◌, drop}
use Rattle.un_rows.specs.Drafts.{before_calls}
use Rattle.un_rows.proofs.drafts.before_calls.Given as goal

-- those that are added, and those of the rest
abbrev pub invariant-loop-call : goal.invariant-loop-call
invariant-loop-call l = l.arcs ++ before_calls l.n (drop l.call-index l.calls) ≡ before_calls l.n l.calls
