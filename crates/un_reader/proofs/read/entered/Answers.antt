-- The parts are a function's, or a name is live at the entry's start.
use Rattle.std.proofs.Common.{arith, ◌+◌, ◌<◌, List, length, sym, subst}
use Rattle.un_ir.specs.declared.function.Block.{Block}
use Rattle.un_faults.specs.declared.fault.Fault.TheVariants.{LiveAtEntry}
use Rattle.un_words.specs.Tokens.{Spelled}
use Rattle.un_faults.specs.Before.{labels_of, names_of}
use Rattle.un_reader.specs.Functions.{blocks_of}
use Rattle.un_reader.specs.Read.{IsTextFault}
use Rattle.un_reader.proofs.CheckLaws.{told}
use Rattle.un_reader.proofs.ReadLaws.{kept_lines, few_blocks}
use Rattle.un_reader.proofs.PartLaws.{parts_of, entry_fault, parts_well_formed, is_read}
use Rattle.un_reader.proofs.read.entered.Goals as goal

pub has_live-requires-clause-names : goal.has_live-requires-clause-names
has_live-requires-clause-names c =
    let kept = kept_lines c.args.lines.now c.requires.text in
    let few : length (names_of c.args.lines.now) < 4294967296 = omega (arith, kept.few) in
    subst (λ (ns : List Spelled). length ns < 4294967296) (sym c.requires.parts.names) few

pub has_live-requires-clause-blocks : goal.has_live-requires-clause-blocks
has_live-requires-clause-blocks c =
    let lines = c.args.lines.now in
    let few : length (blocks_of (names_of lines) (labels_of lines) lines) < 4294967296 =
    omega (arith, few_blocks (names_of lines) (labels_of lines) lines, c.requires.count) in
    subst (λ (bs : List Block). length bs < 4294967296) (sym c.requires.parts.blocks) few

pub returns-then-branch-clause-fault : goal.returns-then-branch-clause-fault
returns-then-branch-clause-fault c = λ text of.
    let live = c.in_ok-has_live.ensures.yes c.if-branch.true in
    told (IsTextFault text) (c.entry_place.result + 1) LiveAtEntry c.fault_of.result c.fault_of.ensures
    (entry_fault text c.args.lines.now _ _ _ _ c.entry_place.result of
    (parts_of text c.args.lines.now _ _ _ _ of c.requires.good c.requires.parts) c.entry_place.ensures.place live.0 live.1)

pub whole-requires : goal.whole-requires
whole-requires c =
    let text = c.requires.text.0 in
    parts_well_formed text _ _ _ _
    (parts_of text c.args.lines.now _ _ _ _ c.requires.text.1 c.requires.good c.requires.parts)
    (c.in_ok-has_live.ensures.no c.if-branch.false)

pub returns-clause-read : goal.returns-clause-read
returns-clause-read c = λ text of.
    is_read text _ _ _ _ c.args.lines.now c.whole.result of
    (parts_of text c.args.lines.now _ _ _ _ of c.requires.good c.requires.parts)
    (c.in_ok-has_live.ensures.no c.if-branch.false)
    c.whole.ensures.name c.whole.ensures.params c.whole.ensures.names c.whole.ensures.blocks
