use Rattle.std.proofs.Common.{List, All, ◌∙◌, ap, length, slice_index, subst, sym, arith}
use Rattle.un_length.specs.declared.block.Precedence.{Precedence}
use Rattle.un_length.specs.declared.block.Task.{Task}
use Rattle.un_length.specs.Places.{at_place, Leads}
use Rattle.un_length.specs.Windows.{raised}
use Rattle.un_length.specs.WindowLaws.{raised_same}
use Rattle.un_least.specs.Least.{head_cycle}
use Rattle.std.proofs.lemmas.List.Elements.{recursion_from_All}
use Rattle.un_length.proofs.Steps.{leads_more}
use Rattle.un_least.proofs.least.find_heads.Goals as goal

pub raise_all-requires : goal.raise_all-requires
raise_all-requires c = subst (All (Leads (length c.write_heads.new.early))) (sym c.as_slice-2.ensures)
    (leads_more (length c.args.block.now.ops) (length c.write_heads.new.early) c.args.block.now.arcs (omega (arith, c.requires.room))
    c.args.block.now.within)

pub returns : goal.returns
returns c i lt =
    let b = c.args.block.now in
    let f = head_cycle in
    c.raise_all.ensures i ∙ (ap (λ (bs : List Precedence). raised bs (slice_index c.write_heads.new.early) i) c.as_slice-2.ensures
    ∙ raised_same (length b.ops) b.arcs (slice_index c.write_heads.new.early) (at_place f b.ops) (recursion_from_All _ _ b.within)
    (λ k less. c.write_heads.ensures k (omega (arith, less, ap (length {A = Task}) c.as_slice.ensures))
    ∙ ap (λ (ts : List Task). at_place f ts k) c.as_slice.ensures) i lt)
