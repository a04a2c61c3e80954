use Rattle.std.proofs.Common.{◌≡◌, ◌<◌, List, [], ◌∷◌, length, Some, find, ap, refl, ◌∙◌, arith, length-drop}
use Rattle.un_isa.specs.declared.table.Table.{Table}
use Rattle.un_isa.specs.declared.start.Reply.{Reply}
use Rattle.un_isa.specs.declared.instr.Instr.{Instr}
use Rattle.un_isa.specs.declared.outcome.CallRecord.{CallRecord}
use Rattle.un_isa.specs.Does.{is_return}
use Rattle.un_packet.specs.declared.pass.Passed.{Passed}
use Rattle.un_packet.specs.declared.pass.Transfer.{Transfer}
use Rattle.un_packet.specs.Passes.{IsPassed, led}
use Rattle.un_packet.specs.Step.{PacketState, after, answered, issue_cycle, leads, record_of, with_call}
use Rattle.un_packet.proofs.state.State.complete_call.Goals as goal

module _ (t : Table) (i : Instr) (s mid new : PacketState) (is : List Instr) (call : CallRecord) (transfer : Transfer)
    (passed : Passed) where
  called : (rs : List Reply) → s.replies ≡ rs → call ≡ record_of s i → mid ≡ after t (issue_cycle s is) s is
      → ((reply : Reply) (rest : List Reply) → mid.replies ≡ reply ∷ rest → new ≡ answered t call reply rest mid)
      → ((u : PacketState) → leads (find (λ (j : Instr). is_return j.op) is) s is u ≡ led transfer u) → 0 < length rs
      → IsPassed (led transfer new) passed new → IsPassed (with_call t (Some i) rs s is) passed new
  called [] e record_is middle reply leads_to some h = absurd (omega (arith, some))
  called (r ∷ rest) e record_is middle reply leads_to some h =
      let replies : mid.replies ≡ r ∷ rest = ap (λ (u : PacketState). u.replies) middle ∙ e in
      let same : new ≡ answered t (record_of s i) r rest (after t (issue_cycle s is) s is) = reply r rest replies
      ∙ rw (record_is, middle) refl in
      rw (← same) (rw (leads_to new) h)

pub returns-clause-step : goal.returns-clause-step
returns-clause-step c i e =
    let left = length-drop c.self.inside.answered c.self.inside.replies in
    called c.args.t.now i c.args.self.now c.apply.new.self c.answer.new.self c.args.packet.now c.args.call c.transfer-transfer.result
    c.arrive.result c.args.self.now.replies refl e c.apply.ensures.after c.answer.ensures.answered c.transfer-transfer.ensures
    (let long = ap (λ (u : PacketState). length u.replies) c.self.view_is in omega (arith, long, left, c.if-self-len.false, c.len.ensures))
    c.arrive.ensures.passed
