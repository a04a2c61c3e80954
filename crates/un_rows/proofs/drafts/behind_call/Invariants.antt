-- those that are added, and those of the rest
use Rattle.std.proofs.Common.{ℕ, ◌≡◌, ◌+◌, ◌++◌, drop}
use Rattle.un_model.specs.Pairs.{places_from}
use Rattle.un_rows.specs.Drafts.{arc, behind_call}
use Rattle.un_rows.specs.declared.draft.Owed.{Owed}
use Rattle.un_rows.proofs.drafts.behind_call.Given as goal

abbrev pub invariant-loop-i : goal.invariant-loop-i
invariant-loop-i l = l.arcs ++ places_from (λ (i : ℕ) (o : Owed). arc l.call i) (l.n + l.i) (drop l.i l.owed) ≡ behind_call l.call l.n l.owed
