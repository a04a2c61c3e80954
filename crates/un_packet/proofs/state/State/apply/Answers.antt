use Rattle.std.proofs.Common.{◌+◌, ap, sym, subst, arith, length, ◌∙◌}
use Rattle.un_packet.specs.Cycles.{IsReadyBy}
use Rattle.un_packet.specs.Step.{PacketState}
use Rattle.un_packet.proofs.Cycles.{soon, still_ready}
use Rattle.un_packet.proofs.Lengths.{length-memory}
use Rattle.un_packet.proofs.state.State.apply.Goals as goal

-- the registers can be read soon, by the invariant
abbrev IsReady : PacketState → Type 0
IsReady s = IsReadyBy (s.cycle + 2) s.ready

pub ready_after-ready-requires-clause-room : goal.ready_after-ready-requires-clause-room
ready_after-ready-requires-clause-room c =
    let facts = soon c.args.self.now c.args.packet.now (subst IsReady c.self.view_is c.self.invariant.0) in
    omega (arith, facts.soon, c.issue_cycle-cycle.ensures, c.requires.counter)

pub invariant_of-self : goal.invariant_of-self
invariant_of-self c = (
  λ r.
      let ready = still_ready c.args.t.now c.args.self.now c.args.packet.now c.requires.fit
      (subst IsReady c.self.view_is c.self.invariant.0) r in
      rw (c.ready_after-ready.ensures, c.issue_cycle-cycle.ensures) ready,
  c.self.invariant.1,
  c.self.invariant.2,
)

pub returns-clause-counter : goal.returns-clause-counter
returns-clause-counter c =
    let facts = soon c.args.self.now c.args.packet.now (subst IsReady c.self.view_is c.self.invariant.0) in
    omega (arith, facts.soon, c.issue_cycle-cycle.ensures)

pub returns-clause-words : goal.returns-clause-words
returns-clause-words c =
    ap length (c.store_all.ensures c.args.self.now (ap (λ (s : PacketState). s.regs) (sym c.self.view_is)))
    ∙ length-memory c.args.self.now c.args.packet.now c.self.inside.memory
    ∙ ap (λ (s : PacketState). length s.memory) c.self.view_is
