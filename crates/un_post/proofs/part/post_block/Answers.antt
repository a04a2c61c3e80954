-- What is posted for one block, as the clauses of `post_block` say it.
use Rattle.std.proofs.Common.{◌∙◌}
use Rattle.un_kinds.specs.FixingLaws.{fix_is}
use Rattle.un_post.proofs.PartExact.{part_exact}
use Rattle.un_post.proofs.PartReady.{part_reads, part_grounded, part_spans, part_fails}
use Rattle.un_post.proofs.Ready.{posted_live}
use Rattle.un_post.proofs.part.post_block.Goals as goal

pub returns-clause-exact : goal.returns-clause-exact
returns-clause-exact c =
    let e = c.in_ok-posted.ensures in
    let r = c.requires in
    part_exact c.args.m.now c.args.b.0 c.args.limit _ c.in_ok-posted.posted.props.items r.model r.extended r.fit r.options r.block e.sets
    (e.asks ∙ c.in_ok-listed.ensures)

pub returns-clause-live : goal.returns-clause-live
returns-clause-live c =
    let e = c.in_ok-posted.ensures in
    let r = c.requires in
    posted_live c.args.m.now _ r.model r.extended r.fit r.options e.sets

pub returns-clause-reads : goal.returns-clause-reads
returns-clause-reads c =
    let e = c.in_ok-posted.ensures in
    let r = c.requires in
    part_reads c.args.m.now c.args.b.0 c.args.limit _ c.in_ok-posted.posted.props.items r.model r.extended e.sets
    (e.asks ∙ c.in_ok-listed.ensures) e.tight

pub returns-clause-grounded : goal.returns-clause-grounded
returns-clause-grounded c =
    let e = c.in_ok-posted.ensures in
    let r = c.requires in
    part_grounded c.args.m.now c.args.b.0 c.args.limit _ c.in_ok-posted.posted.props.items r.model r.extended e.sets
    (e.asks ∙ c.in_ok-listed.ensures) e.tight

pub returns-clause-spans : goal.returns-clause-spans
returns-clause-spans c =
    let e = c.in_ok-posted.ensures in
    let r = c.requires in
    part_spans c.args.m.now c.args.b.0 c.args.limit _ c.in_ok-posted.posted.props.items r.model r.extended e.sets
    (e.asks ∙ c.in_ok-listed.ensures) e.tight c.in_ok-posted.posted.horizon e.horizon

pub returns-clause-fixed : goal.returns-clause-fixed
returns-clause-fixed c box =
    let e = c.in_ok-posted.ensures in
    fix_is c.in_ok-posted.posted.props.items _ (e.asks ∙ c.in_ok-listed.ensures) e.tight box

pub returns-clause-fails : goal.returns-clause-fails
returns-clause-fails c =
    let e = c.in_ok-posted.ensures in
    let r = c.requires in
    part_fails c.args.m.now c.args.b.0 c.args.limit _ c.in_ok-posted.posted.props.items r.model r.extended e.sets
    (e.asks ∙ c.in_ok-listed.ensures) e.tight r.fit r.options r.block
