use Rattle.std.proofs.Common.{ℕ, [], ap, sym, ◌∙◌}
use Rattle.std.specs.declared.option.Option.{Option}
use Rattle.un_base.specs.declared.ids.VarId.{VarId}
use Rattle.un_domains.specs.Sets.{Sets}
use Rattle.un_model.specs.Boxes.{root_of}
use Rattle.un_tree.specs.Waits.{Whole, after}
use Rattle.un_walk.specs.Routes.{paths_after}
use Rattle.un_walk.specs.Turns.{paths_behind, waits}
use Rattle.un_walk.proofs.RouteLemmas.{after_by}
use Rattle.un_judge.specs.Walks.{blocks_of}
use Rattle.un_judge.proofs.Walkings.{splits_by}
use Rattle.un_judge.proofs.judge.advance.Goals as goal

pub step-requires-clause-strict : goal.step-requires-clause-strict
step-requires-clause-strict c = splits_by c.args.node c.args.stand.now.cuts.sets c.branch_of.result c.branch_of.ensures c.requires.strict

pub returns-clause-waits : goal.returns-clause-waits
returns-clause-waits c =
    let root = root_of c.args.r.now.m.now in
    let path = c.args.stand.now.path.items in
    let at = c.requires.at in
    ap (λ (b : Sets). after (blocks_of c.args.r.now) c.args.node (Whole b) (waits root path)) at.sets
    ∙ after_by (blocks_of c.args.r.now) root c.args.node path c.step.new.stand.path.items c.in_ok-more.more c.requires.plain
    (ap (λ (b : Option (VarId × ℕ)). paths_after b path (paths_behind [] path)) (sym c.branch_of.ensures) ∙ c.in_ok-more.ensures.waits)
