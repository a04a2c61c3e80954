-- those that are added, and those of the rest
use Rattle.std.proofs.Common.{◌≡◌, ◌++◌, drop}
use Rattle.un_rows.specs.Drafts.{call_drafts}
use Rattle.un_rows.proofs.drafts.call_drafts.Given as goal

abbrev pub invariant-loop-call : goal.invariant-loop-call
invariant-loop-call l = l.drafts ++ call_drafts l.t l.basis l.s l.n (drop l.call-index l.calls) ≡ call_drafts l.t l.basis l.s l.n l.calls
