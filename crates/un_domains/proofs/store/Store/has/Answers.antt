use Rattle.std.proofs.Common.{◌<◌, arith, ap, sym, inl, inr, length, ◌∙◌}
use Rattle.std.proofs.lemmas.List.{length-map}
use Rattle.un_domains.specs.Cuts.{Contents}
use Rattle.un_domains.specs.Shapes.{set_of}
use Rattle.un_domains.specs.NotedLaws.{ends_there, ends_are, outside_ends, end_has}
use Rattle.un_domains.specs.ShapeLaws.{domain_at, has_in}
use Rattle.un_domains.proofs.store.Store.has.Goals as goal

pub returns : goal.returns
returns c =
    let a = c.self.inside in
    let h = c.index-shape.result.now in
    let sets = ap (λ (s : Contents). s.sets) c.self.view_is in
    let below : c.args.v.0 < length a.shapes.items =
    omega (arith, c.requires, ap length sets, length-map a.shapes.items (set_of a.words.words)) in
    c.has.ensures ∙ has_in a.shapes.items a.words.words a.words.marked c.self.invariant.store c.args.v.0 h below c.index-shape.ensures
    c.args.self.now.sets sets
    c.as_slice-words.result.now c.as_slice-words.ensures c.bounds_at.result.lo c.bounds_at.result.end c.bounds_at.ensures.lo
    c.bounds_at.ensures.end
    c.row.result.now c.args.x c.place_of-k.result c.row.ensures c.place_of-k.ensures.agree

pub returns-then-x-least : goal.returns-then-x-least
returns-then-x-least c =
    let a = c.self.inside in
    let sets = ap (λ (s : Contents). s.sets) c.self.view_is in
    let ends = ends_are a.shapes.items a.words a.noted c.self.invariant c.args.self.now.sets sets c.args.v.0 c.requires in
    sym (outside_ends _ _ _ c.args.x ends (inl (omega (arith, c.ends_at-least.ensures.least, c.if-x-least.true))))

pub returns-then-greatest-x : goal.returns-then-greatest-x
returns-then-greatest-x c =
    let a = c.self.inside in
    let sets = ap (λ (s : Contents). s.sets) c.self.view_is in
    let ends = ends_are a.shapes.items a.words a.noted c.self.invariant c.args.self.now.sets sets c.args.v.0 c.requires in
    sym (outside_ends _ _ _ c.args.x ends (inr (omega (arith, c.ends_at-least.ensures.greatest, c.if-greatest-x.true))))

pub ends_at-least-requires : goal.ends_at-least-requires
ends_at-least-requires c =
    let a = c.self.inside in
    let sets = ap (λ (s : Contents). s.sets) c.self.view_is in
    ends_there a.shapes.items a.words a.noted c.self.invariant c.args.self.now.sets sets c.args.v.0 c.requires

pub place_of-k-requires : goal.place_of-k-requires
place_of-k-requires c =
    let a = c.self.inside in
    let h = c.index-shape.result.now in
    let sets = ap (λ (s : Contents). s.sets) c.self.view_is in
    let below : c.args.v.0 < length a.shapes.items =
    omega (arith, c.requires, ap length sets, length-map a.shapes.items (set_of a.words.words)) in
    (domain_at a.shapes.items a.words.words a.words.marked c.self.invariant.store c.args.v.0 h below c.index-shape.ensures).rises

pub returns-then-least-x : goal.returns-then-least-x
returns-then-least-x c =
    let a = c.self.inside in
    let sets = ap (λ (s : Contents). s.sets) c.self.view_is in
    let ends = ends_are a.shapes.items a.words a.noted c.self.invariant c.args.self.now.sets sets c.args.v.0 c.requires in
    let is = c.ends_at-least.ensures in
    sym (end_has _ _ _ c.args.x ends (omega (arith, is.least, c.if-x-least.false)) (omega (arith, is.greatest, c.if-greatest-x.false))
    (inl (omega (arith, is.least, c.if-least-x.true))))

pub returns-then-x-greatest : goal.returns-then-x-greatest
returns-then-x-greatest c =
    let a = c.self.inside in
    let sets = ap (λ (s : Contents). s.sets) c.self.view_is in
    let ends = ends_are a.shapes.items a.words a.noted c.self.invariant c.args.self.now.sets sets c.args.v.0 c.requires in
    let is = c.ends_at-least.ensures in
    sym (end_has _ _ _ c.args.x ends (omega (arith, is.least, c.if-x-least.false)) (omega (arith, is.greatest, c.if-greatest-x.false))
    (inr (omega (arith, is.greatest, c.if-x-greatest.true))))
