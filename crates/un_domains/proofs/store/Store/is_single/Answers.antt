use Rattle.std.proofs.Common.{ℕ, ◌∙◌, nat_eq, ap}
use Rattle.un_domains.specs.Cuts.{Contents}
use Rattle.un_domains.specs.NotedLaws.{ends_there, single_by_ends}
use Rattle.un_domains.proofs.store.Store.is_single.Goals as goal

pub ends_at-least-requires : goal.ends_at-least-requires
ends_at-least-requires c =
    let a = c.self.inside in
    let sets = ap (λ (s : Contents). s.sets) c.self.view_is in
    ends_there a.shapes.items a.words a.noted c.self.invariant c.args.self.now.sets sets c.args.v.0 c.requires

pub returns : goal.returns
returns c =
    let a = c.self.inside in
    let sets = ap (λ (s : Contents). s.sets) c.self.view_is in
    let ends = c.ends_at-least.ensures in
    ap (λ (n : ℕ). nat_eq n c.ends_at-least.result.1) ends.least
    ∙ (ap (nat_eq _) ends.greatest
    ∙ single_by_ends a.shapes.items a.words a.noted c.self.invariant c.args.self.now.sets sets c.args.v.0 c.requires)
