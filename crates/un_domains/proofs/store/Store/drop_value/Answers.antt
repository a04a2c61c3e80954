use Rattle.std.proofs.Common.{inl, inr, ◌<◌, arith, ap, subst, length, map, nat_eq, not}
use Rattle.std.proofs.lemmas.List.{length-map}
use Rattle.un_domains.specs.Cuts.{Contents, IsCut}
use Rattle.un_domains.specs.Shapes.{set_of, sets_of}
use Rattle.un_domains.specs.NotedLaws.{ends_there, ends_are, same_drop, laid_after, whole_after}
use Rattle.un_domains.specs.ShapeLaws.{laid_at, domain_at, cut_is, places_some}
use Rattle.un_domains.proofs.store.Store.drop_value.Goals as goal

pub drop_place-cut-requires-clause-some : goal.drop_place-cut-requires-clause-some
drop_place-cut-requires-clause-some c =
    let a = c.self.inside in
    let h = c.index-shape.result.now in
    let sets = ap (λ (s : Contents). s.sets) c.self.view_is in
    let below : c.args.v.0 < length a.shapes.items =
    omega (arith, c.requires.there, ap length sets, length-map a.shapes.items (set_of a.words.words)) in
    places_some a.shapes.items a.words.words a.words.marked c.self.invariant.store c.args.v.0 h below c.index-shape.ensures c.args.self.now.sets
    sets c.requires.some

pub note-requires-clause-there : goal.note-requires-clause-there
note-requires-clause-there c =
    let a = c.self.inside in
    let sets = ap (λ (s : Contents). s.sets) c.self.view_is in
    ends_there a.shapes.items a.words a.noted c.self.invariant _ sets c.args.v.0 c.requires.there

pub note-requires-clause-laid : goal.note-requires-clause-laid
note-requires-clause-laid c =
    let a = c.self.inside in
    let h = c.index-shape.result.now in
    let below : c.args.v.0 < length a.shapes.items =
    omega (arith, c.requires.there, ap (λ (s : Contents). length s.sets) c.self.view_is, length-map a.shapes.items (set_of a.words.words)) in
    laid_after a.shapes.items a.words c.drop_place-cut.new.words a.noted c.self.invariant c.args.v.0 h below c.index-shape.ensures
    (λ i. not (nat_eq i c.place_of-k.result)) (λ y. not (nat_eq y c.args.x)) c.drop_place-cut.result (λ i lt. ap not (c.place_of-k.ensures.agree i lt)) c.drop_place-cut.ensures
    c.as_slice.result.now c.as_slice.ensures

pub note-requires-clause-domain : goal.note-requires-clause-domain
note-requires-clause-domain c =
    let a = c.self.inside in
    let h = c.index-shape.result.now in
    let below : c.args.v.0 < length a.shapes.items =
    omega (arith, c.requires.there, ap (λ (s : Contents). length s.sets) c.self.view_is, length-map a.shapes.items (set_of a.words.words)) in
    domain_at a.shapes.items a.words.words a.words.marked c.self.invariant.store c.args.v.0 h below c.index-shape.ensures

pub invariant_of-self : goal.invariant_of-self
invariant_of-self c =
    let a = c.self.inside in
    let h = c.index-shape.result.now in
    let below : c.args.v.0 < length a.shapes.items =
    omega (arith, c.requires.there, ap (λ (s : Contents). length s.sets) c.self.view_is, length-map a.shapes.items (set_of a.words.words)) in
    whole_after a.shapes.items a.words c.drop_place-cut.new.words a.noted c.self.invariant c.args.v.0 h below c.index-shape.ensures
    (λ i. not (nat_eq i c.place_of-k.result)) (λ y. not (nat_eq y c.args.x)) c.drop_place-cut.result (λ i lt. ap not (c.place_of-k.ensures.agree i lt)) c.drop_place-cut.ensures
    c.note.new.noted c.as_slice.result.now c.as_slice.ensures c.note.ensures

pub returns : goal.returns
returns c =
    let a = c.self.inside in
    let h = c.index-shape.result.now in
    let sets = ap (λ (s : Contents). s.sets) c.self.view_is in
    let below : c.args.v.0 < length a.shapes.items =
    omega (arith, c.requires.there, ap length sets, length-map a.shapes.items (set_of a.words.words)) in
    let cut = cut_is a.shapes.items a.words.words c.drop_place-cut.new.words.words a.words.marked c.drop_place-cut.new.words.marked
    c.self.invariant.store c.args.v.0 h below c.index-shape.ensures
    (λ i. not (nat_eq i c.place_of-k.result)) (λ y. not (nat_eq y c.args.x)) c.drop_place-cut.result
    (λ i lt. ap not (c.place_of-k.ensures.agree i lt)) c.drop_place-cut.ensures in
    subst (λ (s : Contents). IsCut (λ y. not (nat_eq y c.args.x)) c.args.v.0 s
    (record {
      sets = sets_of a.shapes.items c.drop_place-cut.new.words.words;
      marked =
          map (sets_of a.shapes.items) c.drop_place-cut.new.words.marked;
    }) c.drop_place-cut.result) c.self.view_is cut

pub index-shape-requires : goal.index-shape-requires
index-shape-requires c =
    let a = c.self.inside in
    omega (
      arith,
      c.requires.there,
      ap (λ (s : Contents). length s.sets) c.self.view_is,
      length-map a.shapes.items (set_of a.words.words),
      a.shapes.ok.0,
    )

pub place_of-k-requires : goal.place_of-k-requires
place_of-k-requires c =
    let a = c.self.inside in
    let h = c.index-shape.result.now in
    let below : c.args.v.0 < length a.shapes.items =
    omega (
      arith,
      c.requires.there,
      ap length (ap (λ (s : Contents). s.sets) c.self.view_is),
      length-map a.shapes.items (set_of a.words.words),
    ) in
    (domain_at a.shapes.items a.words.words a.words.marked c.self.invariant.store c.args.v.0 h below c.index-shape.ensures).rises

pub drop_place-cut-requires-clause-small : goal.drop_place-cut-requires-clause-small
drop_place-cut-requires-clause-small c =
    let a = c.self.inside in
    let h = c.index-shape.result.now in
    let below : c.args.v.0 < length a.shapes.items =
    omega (
      arith,
      c.requires.there,
      ap length (ap (λ (s : Contents). s.sets) c.self.view_is),
      length-map a.shapes.items (set_of a.words.words),
    ) in
    let laid = laid_at a.shapes.items a.words.words a.words.marked c.self.invariant.store c.args.v.0 h below c.index-shape.ensures in
    omega (arith, laid.small)

pub drop_place-cut-requires-clause-tight : goal.drop_place-cut-requires-clause-tight
drop_place-cut-requires-clause-tight c =
    let a = c.self.inside in
    let h = c.index-shape.result.now in
    let below : c.args.v.0 < length a.shapes.items =
    omega (
      arith,
      c.requires.there,
      ap length (ap (λ (s : Contents). s.sets) c.self.view_is),
      length-map a.shapes.items (set_of a.words.words),
    ) in
    (laid_at a.shapes.items a.words.words a.words.marked c.self.invariant.store c.args.v.0 h below c.index-shape.ensures).tight

pub drop_place-cut-requires-clause-within : goal.drop_place-cut-requires-clause-within
drop_place-cut-requires-clause-within c =
    let a = c.self.inside in
    let h = c.index-shape.result.now in
    let below : c.args.v.0 < length a.shapes.items =
    omega (
      arith,
      c.requires.there,
      ap length (ap (λ (s : Contents). s.sets) c.self.view_is),
      length-map a.shapes.items (set_of a.words.words),
    ) in
    (laid_at a.shapes.items a.words.words a.words.marked c.self.invariant.store c.args.v.0 h below c.index-shape.ensures).within

pub ends_at-least-requires : goal.ends_at-least-requires
ends_at-least-requires c =
    let a = c.self.inside in
    let sets = ap (λ (s : Contents). s.sets) c.self.view_is in
    ends_there a.shapes.items a.words a.noted c.self.invariant c.args.self.now.sets sets c.args.v.0 c.requires.there

pub returns-then-x-least : goal.returns-then-x-least
returns-then-x-least c =
    let a = c.self.inside in
    let sets = ap (λ (s : Contents). s.sets) c.self.view_is in
    let ends = ends_are a.shapes.items a.words a.noted c.self.invariant c.args.self.now.sets sets c.args.v.0 c.requires.there in
    let e = c.ends_at-least.ensures in
    same_drop c.args.v.0 c.args.self.now c.requires.there _ _ c.args.x ends c.requires.some (inl (omega (arith, c.if-x-least.true, e.least)))

pub returns-then-greatest-x : goal.returns-then-greatest-x
returns-then-greatest-x c =
    let a = c.self.inside in
    let sets = ap (λ (s : Contents). s.sets) c.self.view_is in
    let ends = ends_are a.shapes.items a.words a.noted c.self.invariant c.args.self.now.sets sets c.args.v.0 c.requires.there in
    let e = c.ends_at-least.ensures in
    same_drop c.args.v.0 c.args.self.now c.requires.there _ _ c.args.x ends c.requires.some (inr (omega (arith, c.if-greatest-x.true, e.greatest)))
