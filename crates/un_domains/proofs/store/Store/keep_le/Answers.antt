use Rattle.std.proofs.Common.{◌<◌, arith, ap, subst, length, map, nat_le, nat_lt}
use Rattle.std.proofs.lemmas.List.{length-map}
use Rattle.un_domains.specs.Cuts.{Contents, IsCut}
use Rattle.un_domains.specs.Shapes.{set_of, sets_of}
use Rattle.un_domains.specs.NotedLaws.{ends_there, ends_are, same_le, laid_after, whole_after}
use Rattle.un_domains.specs.ShapeLaws.{laid_at, domain_at, cut_is}
use Rattle.un_domains.proofs.store.Store.keep_le.Goals as goal

pub note-requires-clause-there : goal.note-requires-clause-there
note-requires-clause-there c =
    let a = c.self.inside in
    let sets = ap (λ (s : Contents). s.sets) c.self.view_is in
    ends_there a.shapes.items a.words a.noted c.self.invariant _ sets c.args.v.0 c.requires

pub note-requires-clause-laid : goal.note-requires-clause-laid
note-requires-clause-laid c =
    let a = c.self.inside in
    let h = c.index-shape.result.now in
    let below : c.args.v.0 < length a.shapes.items =
    omega (arith, c.requires, ap (λ (s : Contents). length s.sets) c.self.view_is, length-map a.shapes.items (set_of a.words.words)) in
    laid_after a.shapes.items a.words c.keep_before-cut.new.words a.noted c.self.invariant c.args.v.0 h below c.index-shape.ensures
    (λ i. nat_lt i c.places_to-k.result) (λ y. nat_le y c.args.x) c.keep_before-cut.result c.places_to-k.ensures.agree c.keep_before-cut.ensures
    c.as_slice.result.now c.as_slice.ensures

pub note-requires-clause-domain : goal.note-requires-clause-domain
note-requires-clause-domain c =
    let a = c.self.inside in
    let h = c.index-shape.result.now in
    let below : c.args.v.0 < length a.shapes.items =
    omega (arith, c.requires, ap (λ (s : Contents). length s.sets) c.self.view_is, length-map a.shapes.items (set_of a.words.words)) in
    domain_at a.shapes.items a.words.words a.words.marked c.self.invariant.store c.args.v.0 h below c.index-shape.ensures

pub invariant_of-self : goal.invariant_of-self
invariant_of-self c =
    let a = c.self.inside in
    let h = c.index-shape.result.now in
    let below : c.args.v.0 < length a.shapes.items =
    omega (arith, c.requires, ap (λ (s : Contents). length s.sets) c.self.view_is, length-map a.shapes.items (set_of a.words.words)) in
    whole_after a.shapes.items a.words c.keep_before-cut.new.words a.noted c.self.invariant c.args.v.0 h below c.index-shape.ensures
    (λ i. nat_lt i c.places_to-k.result) (λ y. nat_le y c.args.x) c.keep_before-cut.result c.places_to-k.ensures.agree c.keep_before-cut.ensures
    c.note.new.noted c.as_slice.result.now c.as_slice.ensures c.note.ensures

pub returns : goal.returns
returns c =
    let a = c.self.inside in
    let h = c.index-shape.result.now in
    let below : c.args.v.0 < length a.shapes.items =
    omega (arith, c.requires, ap (λ (s : Contents). length s.sets) c.self.view_is, length-map a.shapes.items (set_of a.words.words)) in
    let cut = cut_is a.shapes.items a.words.words c.keep_before-cut.new.words.words a.words.marked c.keep_before-cut.new.words.marked
    c.self.invariant.store c.args.v.0 h below c.index-shape.ensures
    (λ i. nat_lt i c.places_to-k.result) (λ y. nat_le y c.args.x) c.keep_before-cut.result c.places_to-k.ensures.agree c.keep_before-cut.ensures in
    subst (λ (s : Contents). IsCut (λ y. nat_le y c.args.x) c.args.v.0 s
    (record {
      sets = sets_of a.shapes.items c.keep_before-cut.new.words.words;
      marked =
          map (sets_of a.shapes.items) c.keep_before-cut.new.words.marked;
    }) c.keep_before-cut.result) c.self.view_is cut

pub index-shape-requires : goal.index-shape-requires
index-shape-requires c =
    let a = c.self.inside in
    omega (
      arith,
      c.requires,
      ap (λ (s : Contents). length s.sets) c.self.view_is,
      length-map a.shapes.items (set_of a.words.words),
      a.shapes.ok.0,
    )

pub places_to-k-requires : goal.places_to-k-requires
places_to-k-requires c =
    let a = c.self.inside in
    let h = c.index-shape.result.now in
    let below : c.args.v.0 < length a.shapes.items =
    omega (arith, c.requires, ap (λ (s : Contents). length s.sets) c.self.view_is, length-map a.shapes.items (set_of a.words.words)) in
    (domain_at a.shapes.items a.words.words a.words.marked c.self.invariant.store c.args.v.0 h below c.index-shape.ensures).rises

pub keep_before-cut-requires-clause-small : goal.keep_before-cut-requires-clause-small
keep_before-cut-requires-clause-small c =
    let a = c.self.inside in
    let h = c.index-shape.result.now in
    let below : c.args.v.0 < length a.shapes.items =
    omega (arith, c.requires, ap (λ (s : Contents). length s.sets) c.self.view_is, length-map a.shapes.items (set_of a.words.words)) in
    let laid = laid_at a.shapes.items a.words.words a.words.marked c.self.invariant.store c.args.v.0 h below c.index-shape.ensures in
    omega (arith, laid.small)

pub keep_before-cut-requires-clause-tight : goal.keep_before-cut-requires-clause-tight
keep_before-cut-requires-clause-tight c =
    let a = c.self.inside in
    let h = c.index-shape.result.now in
    let below : c.args.v.0 < length a.shapes.items =
    omega (arith, c.requires, ap (λ (s : Contents). length s.sets) c.self.view_is, length-map a.shapes.items (set_of a.words.words)) in
    (laid_at a.shapes.items a.words.words a.words.marked c.self.invariant.store c.args.v.0 h below c.index-shape.ensures).tight

pub keep_before-cut-requires-clause-within : goal.keep_before-cut-requires-clause-within
keep_before-cut-requires-clause-within c =
    let a = c.self.inside in
    let h = c.index-shape.result.now in
    let below : c.args.v.0 < length a.shapes.items =
    omega (arith, c.requires, ap (λ (s : Contents). length s.sets) c.self.view_is, length-map a.shapes.items (set_of a.words.words)) in
    (laid_at a.shapes.items a.words.words a.words.marked c.self.invariant.store c.args.v.0 h below c.index-shape.ensures).within

pub ends_at-least-requires : goal.ends_at-least-requires
ends_at-least-requires c =
    let a = c.self.inside in
    let sets = ap (λ (s : Contents). s.sets) c.self.view_is in
    ends_there a.shapes.items a.words a.noted c.self.invariant c.args.self.now.sets sets c.args.v.0 c.requires

pub returns-then-greatest-x : goal.returns-then-greatest-x
returns-then-greatest-x c =
    let a = c.self.inside in
    let sets = ap (λ (s : Contents). s.sets) c.self.view_is in
    let ends = ends_are a.shapes.items a.words a.noted c.self.invariant c.args.self.now.sets sets c.args.v.0 c.requires in
    let e = c.ends_at-least.ensures in
    same_le c.args.v.0 c.args.self.now c.requires _ _ c.args.x ends (omega (arith, c.if-least-greatest.true, e.least, e.greatest)) (omega (arith, c.if-greatest-x.true, e.greatest))
