use Rattle.std.proofs.Common.{ℕ, ◌≡◌, [], replicate, subst, refl, ◌∙◌, sym, arith}
use Rattle.std.specs.List.{each_same}
use Rattle.un_isa.specs.declared.reg.TheConstants.{FIRST_SLOT, REGISTERS}
use Rattle.un_isa.specs.declared.start.Start.{Start}
use Rattle.un_packet.specs.Cycles.{IsReadyBy}
use Rattle.un_packet.specs.Step.{PacketState}
use Rattle.un_packet.specs.Run.{first_state}
use Rattle.un_packet.proofs.Cycles.{none_waits}
use Rattle.un_packet.proofs.state.State.first.Goals as goal

-- a state that is told part by part
told : (size : ℕ) (start : Start) (u : PacketState) → u.regs ≡ start.regs → u.memory ≡ start.memory
    → u.frame ≡ (first_state size start).frame → u.frame_start ≡ (first_state size start).frame_start → u.calls ≡ []
    → u.replies ≡ start.replies → u.cycle ≡ 0 → u.ready ≡ replicate REGISTERS 0 → u ≡ first_state size start
told size start u a b c d e f g h = rw (a, b, c, d, e, f, g, h) refl

pub invariant_of-result : goal.invariant_of-result
invariant_of-result c = (
  subst (IsReadyBy 2) (sym c.read_at_once.ensures) (none_waits 2 FIRST_SLOT),
  omega arith,
  omega (arith, c.in_ok-calls.ensures.len, c.in_ok-calls.ensures.exact, c.len.ensures),
)

pub returns : goal.returns
returns c =
    told c.args.c.now.frame c.args.start.now _ refl c.in_ok-memory.ensures.cases
    (c.from_vec.ensures ∙ c.in_ok-words.ensures.items_if_clones_equal (λ y e. e))
    (c.saturating_sub.ensures ∙ rw c.at.ensures refl)
    c.in_ok-calls.ensures.items
    (each_same _ _ c.in_ok-replies.ensures.cases)
    refl
    c.read_at_once.ensures
