use Rattle.std.proofs.Common.{◌∙◌, subst, sym, ap, arith}
use Rattle.un_domains.specs.Cuts.{Contents}
use Rattle.un_domains.specs.Sets.{NoneEmpty}
use Rattle.un_domains.specs.NotedLaws.{whole_mark}
use Rattle.un_domains.proofs.store.Store.mark.Goals as goal

pub invariant_of-self-else-is_err : goal.invariant_of-self-else-is_err
invariant_of-self-else-is_err c =
    let a = c.self.inside in
    let live = subst NoneEmpty (sym (ap (λ (s : Contents). s.sets) c.self.view_is)) c.requires in
    let no = sym c.is_err.ensures.value ∙ c.if-is_err.false in
    whole_mark a.shapes.items a.words c.mark-2.new.self a.noted c.mark.new.self c.mark-2.result c.self.invariant c.mark-2.ensures.ok
    c.mark-2.ensures.words c.mark-2.ensures.err no c.in_ok-mark.ensures.ok c.in_ok-mark.ensures.words live
    (omega (arith, c.if-marks-ge-MOST_MARKS.false, c.marks.ensures))
