use Rattle.std.proofs.Common.{◌∙◌, arith, ap}
use Rattle.un_domains.specs.Cuts.{Contents}
use Rattle.un_domains.specs.NotedLaws.{ends_there, ends_are}
use Rattle.un_domains.proofs.store.Store.min.Goals as goal

pub ends_at-least-requires : goal.ends_at-least-requires
ends_at-least-requires c =
    let a = c.self.inside in
    let sets = ap (λ (s : Contents). s.sets) c.self.view_is in
    ends_there a.shapes.items a.words a.noted c.self.invariant c.args.self.now.sets sets c.args.v.0 c.requires.there

pub overflow_cast-result : goal.overflow_cast-result
overflow_cast-result c =
    let a = c.self.inside in
    let sets = ap (λ (s : Contents). s.sets) c.self.view_is in
    let ends = ends_are a.shapes.items a.words a.noted c.self.invariant c.args.self.now.sets sets c.args.v.0 c.requires.there in
    omega (arith, ends.small.0, c.ends_at-least.ensures.least)

pub returns : goal.returns
returns c =
    let a = c.self.inside in
    let sets = ap (λ (s : Contents). s.sets) c.self.view_is in
    let ends = ends_are a.shapes.items a.words a.noted c.self.invariant c.args.self.now.sets sets c.args.v.0 c.requires.there in
    c.ends_at-least.ensures.least ∙ (ends.some c.requires.some).0
