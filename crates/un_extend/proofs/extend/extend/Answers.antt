use Rattle.std.proofs.Common.{◌≡◌, ◌∙◌, [], true, List, ap}
use Rattle.un_ir.specs.declared.function.Kind.{Kind}
use Rattle.un_ir.specs.declared.extended.ExtBlock.{ExtBlock}
use Rattle.un_ir.specs.ExtendOf.{extended_blocks}
use Rattle.un_ir.specs.Linear.{linear_run}
use Rattle.un_extend.proofs.Choices.{made_choices, made_operations}
use Rattle.un_extend.proofs.ExtendLinear.{made_kept}
use Rattle.un_extend.proofs.RunFits.{extend_runs}
use Rattle.un_extend.proofs.extend.extend.Goals as goal

pub returns-clause-runs : goal.returns-clause-runs
returns-clause-runs c = λ linear start n.
    let l = c.args.l.now in
    let made : c.in_ok-blocks.blocks ≡ extended_blocks l.names true [] 0 l.blocks =
    c.in_ok-blocks.ensures
    ∙ ap (λ (names : List Kind). extended_blocks names true [] 0 c.as_slice-3.result.now) c.as_slice-2.ensures
    ∙ ap (extended_blocks l.names true [] 0) c.as_slice-3.ensures in
    ap (λ (blocks : List ExtBlock). linear_run l.table blocks start n) made ∙ extend_runs l start n linear

pub returns-clause-kept : goal.returns-clause-kept
returns-clause-kept c = λ lin.
    let l = c.args.l.now in
    made_kept l lin c.in_ok-names.names c.in_ok-blocks.blocks (c.in_ok-names.ensures ∙ c.as_slice.ensures)
    (c.in_ok-blocks.ensures ∙ ap (λ (ns : List Kind). extended_blocks ns true [] 0 c.as_slice-3.result.now) c.as_slice-2.ensures
    ∙ ap (extended_blocks l.names true [] 0) c.as_slice-3.ensures)

pub returns-clause-choices : goal.returns-clause-choices
returns-clause-choices c = λ lin.
    let l = c.args.l.now in
    made_choices l lin c.in_ok-names.names c.in_ok-blocks.blocks (c.in_ok-names.ensures ∙ c.as_slice.ensures)
    (c.in_ok-blocks.ensures ∙ ap (λ (ns : List Kind). extended_blocks ns true [] 0 c.as_slice-3.result.now) c.as_slice-2.ensures
    ∙ ap (extended_blocks l.names true [] 0) c.as_slice-3.ensures)

pub returns-clause-operations : goal.returns-clause-operations
returns-clause-operations c = λ lin.
    let l = c.args.l.now in
    made_operations l lin c.in_ok-names.names c.in_ok-blocks.blocks
    (c.in_ok-blocks.ensures ∙ ap (λ (ns : List Kind). extended_blocks ns true [] 0 c.as_slice-3.result.now) c.as_slice-2.ensures
    ∙ ap (extended_blocks l.names true [] 0) c.as_slice-3.ensures)
