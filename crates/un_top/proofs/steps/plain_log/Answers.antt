use Rattle.std.proofs.Common.{ap, subst}
use Rattle.std.specs.Result.{IfErr}
use Rattle.un_logs.specs.Stuck.{IsFirstStuck}
use Rattle.un_top.proofs.StepLaws.{log_made, log_stuck}
use Rattle.un_top.proofs.RightTrees.{right_plain, right_sides, right_whole}
use Rattle.un_top.proofs.steps.plain_log.Goals as goal

pub log_tree-requires-clause-whole : goal.log_tree-requires-clause-whole
log_tree-requires-clause-whole c = right_whole c.args.f.now.name c.args.m.now c.args.r.now c.requires.right

pub log_tree-requires-clause-plain : goal.log_tree-requires-clause-plain
log_tree-requires-clause-plain c = right_plain c.args.f.now.name c.args.m.now c.args.r.now c.requires.right c.requires.plain

pub log_tree-requires-clause-strict : goal.log_tree-requires-clause-strict
log_tree-requires-clause-strict c = right_sides c.args.f.now.name c.args.m.now c.args.r.now c.requires.right

pub returns-in-Ok-Ok-clause-log : goal.returns-in-Ok-Ok-clause-log
returns-in-Ok-Ok-clause-log c =
    let told = c.in-Ok-Ok in
    log_made c.args.counts c.args.m.now c.args.r.now c.limit_of.result c.rules_by.result c.limit_of.ensures c.rules_by.ensures
    (λ text. text.items) told.field-0 told.text c.done.result.text.items told.field-0-is told.ensures.log told.ensures.exactly
    (ap (λ text. text.items) c.done.ensures.text) c.requires.plain

pub returns-in-Ok-Err-clause-refused : goal.returns-in-Ok-Err-clause-refused
returns-in-Ok-Err-clause-refused c =
    let told = c.in-Ok-Err in
    log_stuck c.args.counts c.args.m.now c.args.r.now c.limit_of.result c.rules_by.result c.limit_of.ensures c.rules_by.ensures told.node
    c.requires.plain
    (subst (λ t. IfErr t (IsFirstStuck c.rules_by.result c.args.m.now c.limit_of.result c.args.r.now.tree.nodes.items)) told.field-0-is
    told.ensures.stuck)
