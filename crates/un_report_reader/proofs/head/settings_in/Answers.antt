use Rattle.un_base.proofs.Cuts.{if_none}
use Rattle.un_report_reader.proofs.PartLaws.{no_word, no_regs_word, no_slots, no_nodes}
use Rattle.un_report_reader.proofs.head.settings_in.Goals as goal

pub returns-in_err-word-clause-none : goal.returns-in_err-word-clause-none
returns-in_err-word-clause-none c = if_none c.from_residual.result (no_word c.args.limits c.args.text.now c.in_err-word.ensures.none)

pub returns-in_err-regs-clause-none : goal.returns-in_err-regs-clause-none
returns-in_err-regs-clause-none c =
    if_none c.from_residual-in_err-regs.result
    (no_regs_word c.args.limits c.args.text.now c.in_ok-word.word.now c.in_ok-word.rest.now c.in_ok-word.ensures.some c.in_err-regs.ensures.none)

pub returns-in_err-slots-clause-none : goal.returns-in_err-slots-clause-none
returns-in_err-slots-clause-none c =
    if_none c.from_residual-in_err-slots.result
    (no_slots c.args.limits c.args.text.now c.in_ok-word.word.now c.in_ok-word.rest.now c.in_ok-word.ensures.some c.in_err-slots.ensures.none)

pub returns-in_err-nodes-clause-none : goal.returns-in_err-nodes-clause-none
returns-in_err-nodes-clause-none c =
    if_none c.from_residual-in_err-nodes.result
    (no_nodes c.args.limits c.requires c.args.text.now c.in_ok-word.word.now c.in_ok-word.rest.now c.in_ok-slots.slots c.in_ok-slots.rest.now
    c.in_ok-word.ensures.some c.in_ok-slots.ensures.some c.in_err-nodes.ensures.none)
