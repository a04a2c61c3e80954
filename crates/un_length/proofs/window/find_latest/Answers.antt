use Rattle.std.proofs.Common.{List, All, ◌∙◌, ap, length, slice_index, subst, sym, arith}
use Rattle.un_length.specs.declared.block.Precedence.{Precedence}
use Rattle.un_length.specs.declared.block.Task.{Task}
use Rattle.un_length.specs.Blocks.{TaskVars}
use Rattle.un_length.specs.Places.{at_place, Leads}
use Rattle.un_length.specs.Windows.{lowered, last_cycle}
use Rattle.un_length.specs.WindowLaws.{lowered_same}
use Rattle.std.proofs.lemmas.List.Elements.{recursion_from_All}
use Rattle.un_length.proofs.Steps.{leads_more}
use Rattle.un_length.proofs.window.find_latest.Goals as goal

pub write_lasts-requires-clause-vars : goal.write_lasts-requires-clause-vars
write_lasts-requires-clause-vars c = subst (TaskVars c.args.w.now.vars.now) (sym c.as_slice.ensures) c.requires.vars.of_ops

pub write_lasts-requires-clause-of_end : goal.write_lasts-requires-clause-of_end
write_lasts-requires-clause-of_end c = c.requires.vars.of_end

pub lower_all-requires : goal.lower_all-requires
lower_all-requires c = subst (All (Leads (length c.write_lasts.new.late))) (sym c.as_slice-2.ensures)
    (leads_more (length c.args.block.now.ops) (length c.write_lasts.new.late) c.args.block.now.arcs (omega (arith, c.requires.room))
    c.args.block.now.within)

pub returns : goal.returns
returns c i lt =
    let b = c.args.block.now in
    let f = last_cycle b.end c.args.w.now.store.now.sets in
    c.lower_all.ensures i ∙ (ap (λ (bs : List Precedence). lowered bs (slice_index c.write_lasts.new.late) i) c.as_slice-2.ensures
    ∙ lowered_same (length b.ops) b.arcs (slice_index c.write_lasts.new.late) (at_place f b.ops) (recursion_from_All _ _ b.within)
    (λ k less. c.write_lasts.ensures k (omega (arith, less, ap (length {A = Task}) c.as_slice.ensures))
    ∙ ap (λ (ts : List Task). at_place f ts k) c.as_slice.ensures) i lt)
