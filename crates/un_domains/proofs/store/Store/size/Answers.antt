use Rattle.std.proofs.Common.{◌<◌, arith, ap, length}
use Rattle.std.proofs.lemmas.List.{length-map}
use Rattle.un_domains.specs.Cuts.{Contents}
use Rattle.un_domains.specs.Shapes.{set_of}
use Rattle.un_domains.specs.ShapeLaws.{size_is}
use Rattle.un_domains.proofs.store.Store.size.Goals as goal

pub overflow_cast-result : goal.overflow_cast-result
overflow_cast-result c =
    let a = c.self.inside in
    let h = c.index-shape.result.now in
    let sets = ap (λ (s : Contents). s.sets) c.self.view_is in
    let below : c.args.v.0 < length a.shapes.items =
    omega (arith, c.requires, ap length sets, length-map a.shapes.items (set_of a.words.words)) in
    let is = size_is a.shapes.items a.words.words a.words.marked c.self.invariant.store c.args.v.0 h below c.index-shape.ensures
    c.args.self.now.sets sets c.as_slice.result.now c.count_at.result c.as_slice.ensures c.count_at.ensures in
    omega (arith, is.1)

pub returns : goal.returns
returns c =
    let a = c.self.inside in
    let h = c.index-shape.result.now in
    let sets = ap (λ (s : Contents). s.sets) c.self.view_is in
    let below : c.args.v.0 < length a.shapes.items =
    omega (arith, c.requires, ap length sets, length-map a.shapes.items (set_of a.words.words)) in
    (size_is a.shapes.items a.words.words a.words.marked c.self.invariant.store c.args.v.0 h below c.index-shape.ensures c.args.self.now.sets
    sets c.as_slice.result.now c.count_at.result c.as_slice.ensures c.count_at.ensures).0
