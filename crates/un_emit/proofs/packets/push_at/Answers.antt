use Rattle.std.proofs.Common.{[], ◌∷◌, inl, inr, arith}
use Rattle.un_emit.proofs.BodyLists.{pushed, unpushed}
use Rattle.un_emit.proofs.packets.push_at.Goals as goal
use Rattle.un_emit.proofs.packets.push_at.Goals.{else-place-ge1-via-then-place-ge1+else-place-len, else-place-ge1-via-else-place-ge1}

pub returns-in_ok-push : goal.returns-in_ok-push
returns-in_ok-push c = λ f n e.
    pushed f c.args.c (c.args.i ∷ []) n c.args.cycles.now.items e c.index_mut.result.now c.push.new.self (omega arith) (omega arith)
    c.index_mut.ensures.value c.in_ok-push.ensures.ok

pub returns-else-place-ge1 : goal.returns-else-place-ge1
returns-else-place-ge1 c = λ f n e.
    unpushed f c.args.c (c.args.i ∷ []) n c.args.cycles.now.items e
    (elim c.else-place-ge1.branch [
      | else-place-ge1-via-then-place-ge1+else-place-len w ↦ inr (omega arith)
      | else-place-ge1-via-else-place-ge1 w ↦ inl (omega arith)
    ])
