use Rattle.std.proofs.Common.{Bool, List, length, ap, ◌∙◌}
use Rattle.un_ir.specs.Live.{targets_of}
use Rattle.un_lssa.specs.Making.{marked_at}
use Rattle.un_lssa.proofs.Marks.{at_length, marks_live}
use Rattle.un_lssa.proofs.names.live_by_marks.Goals as goal

pub marked_names-requires : goal.marked_names-requires
marked_names-requires c =
    let a = c.args in
    let same = at_length a.live.now.at_start a.marks.now (targets_of a.b a.term.now) in
    rw (ap length c.mark_next.ensures ∙ same) c.requires.names

pub returns : goal.returns
returns c =
    let a = c.args in
    let lists = a.live.now.at_start in
    let marked = ap (λ (marks : List Bool). marked_at lists marks (targets_of a.b a.term.now)) c.requires.fresh in
    let live = marks_live lists (length a.marks.now) a.b a.term.now c.mark_next.new.marks (c.mark_next.ensures ∙ marked) in
    rw live at c.marked_names.ensures
