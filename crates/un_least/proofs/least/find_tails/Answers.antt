use Rattle.std.proofs.Common.{List, All, ◌∙◌, ap, length, slice_index, subst, sym, arith}
use Rattle.un_length.specs.declared.block.Precedence.{Precedence}
use Rattle.un_length.specs.declared.block.Task.{Task}
use Rattle.un_length.specs.Places.{at_place, Leads}
use Rattle.un_length.specs.Windows.{lowered}
use Rattle.un_length.specs.WindowLaws.{lowered_same}
use Rattle.un_least.specs.Least.{tail_cycle}
use Rattle.std.proofs.lemmas.List.Elements.{recursion_from_All}
use Rattle.un_length.proofs.Steps.{leads_more}
use Rattle.un_least.proofs.least.find_tails.Goals as goal

pub lower_all-requires : goal.lower_all-requires
lower_all-requires c = subst (All (Leads (length c.write_tails.new.late))) (sym c.as_slice-2.ensures)
    (leads_more (length c.args.block.now.ops) (length c.write_tails.new.late) c.args.block.now.arcs (omega (arith, c.requires.room))
    c.args.block.now.within)

pub returns : goal.returns
returns c i lt =
    let b = c.args.block.now in
    let f = tail_cycle c.args.end in
    c.lower_all.ensures i ∙ (ap (λ (bs : List Precedence). lowered bs (slice_index c.write_tails.new.late) i) c.as_slice-2.ensures
    ∙ lowered_same (length b.ops) b.arcs (slice_index c.write_tails.new.late) (at_place f b.ops) (recursion_from_All _ _ b.within)
    (λ k less. c.write_tails.ensures k (omega (arith, less, ap (length {A = Task}) c.as_slice.ensures))
    ∙ ap (λ (ts : List Task). at_place f ts k) c.as_slice.ensures) i lt)
