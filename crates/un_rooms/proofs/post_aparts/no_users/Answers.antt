use Rattle.std.proofs.Common.{◌∙◌, List, [], ◌∷◌, ◌++◌, replicate, ap}
use Rattle.std.proofs.lemmas.List.{replicate-append-replicate}
use Rattle.un_prop.specs.declared.act.UserOf.{UserOf}
use Rattle.un_rooms.proofs.post_aparts.no_users.Goals as goal

pub loop-preserved : goal.loop-preserved
loop-preserved c =
    c.in_ok-push.ensures.ok ∙ ap (λ (xs : List (List UserOf)). xs ++ c.new.result ∷ []) c.loop.invariant ∙ ap
    (λ (x : List UserOf). replicate c.loop.counter [] ++ x ∷ []) c.new.ensures ∙ replicate-append-replicate c.loop.counter 1 []
