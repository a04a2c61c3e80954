use Rattle.std.proofs.Common.{ℕ, List, [], ◌∷◌, ◌++◌, replicate, ap, ◌∙◌}
use Rattle.un_domains.specs.Sets.{Sets}
use Rattle.std.proofs.lemmas.List.{replicate-append-replicate}
use Rattle.un_prop.proofs.readers.empty_rows.Goals as goal

pub loop-preserved : goal.loop-preserved
loop-preserved c =
    c.in_ok-push.ensures.items ∙ (ap (λ (xs : Sets). xs ++ c.in_ok-row.row ∷ []) c.loop.invariant
    ∙ (ap (λ (x : List ℕ). replicate c.loop.counter [] ++ x ∷ []) c.in_ok-row.ensures ∙ replicate-append-replicate c.loop.counter 1 []))
