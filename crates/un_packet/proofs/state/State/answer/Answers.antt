use Rattle.std.proofs.Common.{◌≡◌, ◌+◌, ◌++◌, List, [], ◌∷◌, length, drop, ap, sym, subst, refl, ◌∙◌, arith}
use Rattle.un_isa.specs.declared.table.Table.{Table}
use Rattle.un_isa.specs.declared.start.Reply.{Reply}
use Rattle.un_isa.specs.declared.outcome.CallRecord.{CallRecord}
use Rattle.un_isa.specs.Memories.{set_words}
use Rattle.un_packet.specs.Cycles.{IsReadyBy}
use Rattle.un_packet.specs.Step.{PacketState, answered, each_from, replied, call_ready}
use Rattle.un_packet.proofs.Cycles.{ready_by_call}
use Rattle.un_packet.proofs.Found.{next_of}
use Rattle.un_packet.proofs.Lengths.{length-set_words}
use Rattle.un_packet.proofs.state.State.answer.Goals as goal

-- the state after a reply, told part by part
told : (t : Table) (call : CallRecord) (reply : Reply) (rest : List Reply) (s u : PacketState)
    → u.regs ≡ each_from (replied t reply) 0 s.regs → u.memory ≡ set_words reply.changed s.memory → u.frame ≡ s.frame
    → u.frame_start ≡ s.frame_start → u.calls ≡ s.calls ++ call ∷ [] → u.replies ≡ rest → u.cycle ≡ s.cycle
    → u.ready ≡ each_from (call_ready t s.cycle) 0 s.ready → u ≡ answered t call reply rest s
told t call reply rest s u a b c d e f g h = rw (a, b, c, d, e, f, g, h) refl

pub invariant_of-self : goal.invariant_of-self
invariant_of-self c = (
  λ r. subst (IsReadyBy (c.self.inside.cycle + 2)) (sym c.wait_for_call.ensures)
      (ready_by_call c.args.t.now c.self.inside.cycle c.self.inside.ready c.requires.fit c.self.invariant.0) r,
  omega (arith, c.if-prove.false, c.len-replies.ensures),
  omega (arith, c.in-Ok.ensures.len, c.in-Ok.ensures.capacity, c.self.invariant.2),
)

pub returns-clause-answered : goal.returns-clause-answered
returns-clause-answered c reply rest e =
    let left : drop c.self.inside.answered c.self.inside.replies ≡ reply ∷ rest = ap (λ (s : PacketState). s.replies) c.self.view_is ∙ e in
    let following = next_of c.self.inside.replies c.self.inside.answered reply c.get-reply.result.now rest left c.get-reply.ensures in
    told c.args.t.now c.args.call reply rest c.args.self.now _
    (c.take_reply.ensures ∙ rw (following.0, ← c.self.view_is) refl)
    (c.set_all.ensures ∙ rw (c.as_slice.ensures, following.0, ← c.self.view_is) refl)
    (rw (← c.self.view_is) refl)
    (rw (← c.self.view_is) refl)
    (c.in-Ok.ensures.items ∙ rw (← c.self.view_is) refl)
    following.1
    (rw (← c.self.view_is) refl)
    (c.wait_for_call.ensures ∙ rw (← c.self.view_is) refl)

pub returns-clause-words : goal.returns-clause-words
returns-clause-words c = ap length c.set_all.ensures ∙ length-set_words c.as_slice.result.now c.self.inside.memory
    ∙ ap (λ (s : PacketState). length s.memory) c.self.view_is
