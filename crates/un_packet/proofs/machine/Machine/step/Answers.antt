use Rattle.std.proofs.Common.{◌≡◌, List, length, ap, sym, subst, refl, ◌∙◌, arith}
use Rattle.std.proofs.lemmas.Option.{slice_get_within}
use Rattle.un_isa.specs.declared.instr.Instr.{Instr}
use Rattle.un_packet.specs.declared.code.Packet.{Packet}
use Rattle.un_packet.specs.declared.code.CodeBlock.{CodeBlock}
use Rattle.un_packet.specs.Outcomes.{IsNext}
use Rattle.un_packet.specs.Runnable.{AreRunnable}
use Rattle.un_packet.specs.Machine.{MachineState}
use Rattle.un_packet.specs.Step.{packet_step}
use Rattle.un_packet.proofs.Rules.{few_blocks, runs}
use Rattle.un_packet.proofs.Steps.{at_block, at_packet, empty_told, one_step, went_step, jumped_step, stopped_step}
use Rattle.un_packet.proofs.machine.Machine.step.Goals as goal

pub overflow_add-block : goal.overflow_add-block
overflow_add-block c =
    let code = c.args.c.now in
    let old = c.args.self.now in
    let b = c.index-blocks-block.result in
    let at = at_block code _ old c.as_slice-blocks.result.now b c.self.view_is c.requires.place c.as_slice-blocks.ensures
    c.index-blocks-block.is in
    let below = slice_get_within code.blocks old.block b at in
    let few = few_blocks code.frame code.blocks code.rules in
    let block = ap (λ (m : MachineState). m.block) c.self.view_is in
    omega (arith, below, few, block)

pub returns-then-place-packets-clause-step : goal.returns-then-place-packets-clause-step
returns-then-place-packets-clause-step c =
    let code = c.args.c.now in
    let old = c.args.self.now in
    let b = c.index-blocks-block.result in
    let at = at_block code _ old c.as_slice-blocks.result.now b c.self.view_is c.requires.place c.as_slice-blocks.ensures
    c.index-blocks-block.is in
    empty_told code _ old c.leave.new.self c.leave.result b _ c.as_slice-packets.result.now c.self.view_is c.index-blocks-block.is at
    c.as_slice-packets.ensures c.if-place-packets.true
    c.leave.ensures.left c.leave.ensures.new

pub run_packet-requires-clause-runnable : goal.run_packet-requires-clause-runnable
run_packet-requires-clause-runnable c =
    let code = c.args.c.now in
    let old = c.args.self.now in
    let b = c.index-blocks-block.result in
    let at = at_block code _ old c.as_slice-blocks.result.now b c.self.view_is c.requires.place c.as_slice-blocks.ensures
    c.index-blocks-block.is in
    let p = c.index-packets-place.result in
    let inside = at_packet b _ c.as_slice-packets.result.now _ old p c.self.view_is c.index-blocks-block.is c.as_slice-packets.ensures
    c.if-place-packets.false c.index-packets-place.is in
    let instrs = c.as_slice.ensures ∙ ap (λ (x : Packet). x.instrs) (sym c.index-packets-place.is) in
    subst AreRunnable (sym instrs) (runs code.frame code.blocks code.rules old.block old.place b p at
    (slice_get_within code.blocks old.block b at) inside)

pub go_on-requires-clause-block : goal.go_on-requires-clause-block
go_on-requires-clause-block c =
    let code = c.args.c.now in
    let old = c.args.self.now in
    let b = c.index-blocks-block.result in
    let at = at_block code _ old c.as_slice-blocks.result.now b c.self.view_is c.requires.place c.as_slice-blocks.ensures
    c.index-blocks-block.is in
    let below = slice_get_within code.blocks old.block b at in
    let few = few_blocks code.frame code.blocks code.rules in
    let same = ap (λ (m : MachineState). m.block) c.in-Went.ensures.stands in
    omega (arith, below, few, same)

pub label_place-requires : goal.label_place-requires
label_place-requires c =
    let code = c.args.c.now in
    let few = few_blocks code.frame code.blocks code.rules in
    let same = ap length c.as_slice-blocks.ensures in
    omega (arith, few, same)

pub returns-in-Went-clause-step : goal.returns-in-Went-clause-step
returns-in-Went-clause-step c =
    let code = c.args.c.now in
    let old = c.args.self.now in
    let b = c.index-blocks-block.result in
    let at = at_block code _ old c.as_slice-blocks.result.now b c.self.view_is c.requires.place c.as_slice-blocks.ensures
    c.index-blocks-block.is in
    let p = c.index-packets-place.result in
    let inside = at_packet b _ c.as_slice-packets.result.now _ old p c.self.view_is c.index-blocks-block.is c.as_slice-packets.ensures
    c.if-place-packets.false c.index-packets-place.is in
    let instrs = c.as_slice.ensures ∙ ap (λ (x : Packet). x.instrs) (sym c.index-packets-place.is) in
    let step = ap (λ (is : List Instr). packet_step old.table is old.state) (sym instrs) ∙ c.in-Went.ensures.passed in
    let all : c.as_slice-packets.result.now ≡ b.packets = c.as_slice-packets.ensures
    ∙ ap (λ (x : CodeBlock). x.packets) (sym c.index-blocks-block.is) in
    one_step code old c.go_on.new.self c.go_on.result b p at inside (
    went_step code.blocks (length b.packets) old c.run_packet.new.self c.go_on.new.self c.go_on.result
    (packet_step old.table p.instrs old.state) step c.in-Went.ensures.stands
    (subst (λ (ps : List Packet). IsNext (length ps) c.run_packet.new.self c.go_on.new.self c.go_on.result) all c.go_on.ensures))

pub returns-in-Jumped-clause-step : goal.returns-in-Jumped-clause-step
returns-in-Jumped-clause-step c =
    let code = c.args.c.now in
    let old = c.args.self.now in
    let b = c.index-blocks-block.result in
    let at = at_block code _ old c.as_slice-blocks.result.now b c.self.view_is c.requires.place c.as_slice-blocks.ensures
    c.index-blocks-block.is in
    let p = c.index-packets-place.result in
    let inside = at_packet b _ c.as_slice-packets.result.now _ old p c.self.view_is c.index-blocks-block.is c.as_slice-packets.ensures
    c.if-place-packets.false c.index-packets-place.is in
    let instrs = c.as_slice.ensures ∙ ap (λ (x : Packet). x.instrs) (sym c.index-packets-place.is) in
    let step = ap (λ (is : List Instr). packet_step old.table is old.state) (sym instrs) ∙ c.in-Jumped.ensures.passed in
    one_step code old c.leave-in-Jumped.new.self c.leave-in-Jumped.result b p at inside (
    jumped_step code.blocks (length b.packets) old c.run_packet.new.self c.leave-in-Jumped.new.self c.leave-in-Jumped.result
    (packet_step old.table p.instrs old.state) c.in-Jumped.label c.label_place.result step
    c.in-Jumped.ensures.stands (c.label_place.ensures ∙ rw c.as_slice-blocks.ensures refl) c.leave-in-Jumped.ensures.left
    c.leave-in-Jumped.ensures.new)

pub returns-in-Stopped-clause-step : goal.returns-in-Stopped-clause-step
returns-in-Stopped-clause-step c =
    let code = c.args.c.now in
    let old = c.args.self.now in
    let b = c.index-blocks-block.result in
    let at = at_block code _ old c.as_slice-blocks.result.now b c.self.view_is c.requires.place c.as_slice-blocks.ensures
    c.index-blocks-block.is in
    let p = c.index-packets-place.result in
    let inside = at_packet b _ c.as_slice-packets.result.now _ old p c.self.view_is c.index-blocks-block.is c.as_slice-packets.ensures
    c.if-place-packets.false c.index-packets-place.is in
    let instrs = c.as_slice.ensures ∙ ap (λ (x : Packet). x.instrs) (sym c.index-packets-place.is) in
    one_step code old c.run_packet.new.self _ b p at inside (
    stopped_step code.blocks (length b.packets) old c.run_packet.new.self c.in-Stopped.end (packet_step old.table p.instrs old.state)
    (rw (← instrs) (c.in-Stopped.ensures.passed code.blocks)) c.in-Stopped.ensures.stands)
