use Rattle.std.proofs.Common.{◌∙◌, List, [], ◌∷◌, ◌++◌, replicate, ap}
use Rattle.std.proofs.lemmas.List.{replicate-append-replicate}
use Rattle.un_isa.specs.declared.instr.Instr.{Instr}
use Rattle.un_emit.proofs.packets.idle_cycles.Goals as goal

pub loop-preserved : goal.loop-preserved
loop-preserved c =
    c.in_ok-push.ensures.items ∙ ap (λ (xs : List (List Instr)). xs ++ c.new.result ∷ []) c.loop.invariant ∙ ap
    (λ (x : List Instr). replicate c.loop.counter [] ++ x ∷ []) c.new.ensures ∙ replicate-append-replicate c.loop.counter 1 []
