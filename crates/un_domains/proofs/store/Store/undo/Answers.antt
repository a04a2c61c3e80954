use Rattle.std.proofs.Common.{arith, ap, length}
use Rattle.std.proofs.lemmas.List.{length-map}
use Rattle.un_domains.specs.Cuts.{Contents}
use Rattle.un_domains.specs.ShapeLaws.{undo_store}
use Rattle.un_domains.specs.Shapes.{sets_of}
use Rattle.un_domains.specs.NotedLaws.{whole_undo}
use Rattle.un_domains.proofs.store.Store.undo.Goals as goal

pub undo-requires-2 : goal.undo-requires-2
undo-requires-2 c =
    let a = c.self.inside in
    omega (
      arith,
      c.requires,
      ap (λ (s : Contents). length s.marked) c.self.view_is,
      length-map a.words.marked (sets_of a.shapes.items),
      c.self.invariant.noted.deep,
    )

pub invariant_of-self : goal.invariant_of-self
invariant_of-self c = let a = c.self.inside in
    whole_undo a.shapes.items a.words c.undo.new.self a.noted c.undo-2.new.self c.self.invariant c.undo.ensures c.undo-2.ensures

pub returns-clause-live : goal.returns-clause-live
returns-clause-live c =
    let a = c.self.inside in (undo_store a.shapes.items a.words c.undo.new.self c.undo.ensures c.self.invariant.store).1
