-- One more instruction, the last one, and a part that spells none.
use Rattle.std.proofs.Common.{◌≡◌, take, List, Some, None, sym, ap, ◌∙◌, arith}
use Rattle.un_isa.specs.declared.instr.Instr.{Instr}
use Rattle.un_listing.specs.ListingWords.{words_of}
use Rattle.un_listing.specs.Recognized.{instr_of}
use Rattle.un_listing_reader.specs.PacketWords.{parts_of, instrs_in}
use Rattle.un_listing_reader.proofs.PartCuts.{one_more, the_last, no_instr}
use Rattle.un_listing_reader.proofs.packet.read_instrs.Goals as goal

pub returns-in-None : goal.returns-in-None
returns-in-None c =
    let read : instr_of (words_of (take c.part_end-end.result c.parts.rest.now)) ≡ None = sym c.in_ok-instr.ensures ∙ c.in-None.is in
    sym (no_instr (instrs_in (parts_of c.args.text.now)) c.parts.found c.parts.rest.now
    c.part_end-end.result c.parts.invariant c.part_end-end.ensures.place read)

pub returns-then-end-rest : goal.returns-then-end-rest
returns-then-end-rest c =
    let read : instr_of (words_of (take c.part_end-end.result c.parts.rest.now)) ≡ Some c.in-Some.instr =
    sym c.in_ok-instr.ensures ∙ c.in-Some.is in
    let e = the_last (instrs_in (parts_of c.args.text.now)) c.parts.found c.parts.rest.now
    c.part_end-end.result c.parts.invariant c.part_end-end.ensures.place c.in-Some.instr (omega arith) read in
    ap (λ (is : List Instr). Some is) c.in_ok-push-in-Some.ensures.ok ∙ sym e

pub parts-preserved : goal.parts-preserved
parts-preserved c =
    let read : instr_of (words_of (take c.part_end-end.result c.parts.rest.now)) ≡ Some c.in-Some.instr =
    sym c.in_ok-instr.ensures ∙ c.in-Some.is in
    let e = one_more (instrs_in (parts_of c.args.text.now)) c.parts.found c.parts.rest.now
    c.part_end-end.result c.parts.invariant c.part_end-end.ensures.place c.in-Some.instr (omega arith) read in
    rw (c.in_ok-push-in-Some.ensures.ok, c.behind-rest.ensures) e
