-- What is posted, as the clauses of `post` say it.
use Rattle.std.proofs.Common.{◌∙◌}
use Rattle.un_kinds.specs.FixingLaws.{fix_is}
use Rattle.un_post.proofs.ExactProps.{exact_props}
use Rattle.un_post.proofs.Ready.{posted_reads, posted_live, posted_grounded, posted_spans, posted_fails, posted_overfull}
use Rattle.un_post.proofs.post.post.Goals as goal

pub returns-clause-exact : goal.returns-clause-exact
returns-clause-exact c =
    let e = c.in_ok-posted.ensures in
    let r = c.requires in
    exact_props c.args.m.now c.args.limit _ c.in_ok-posted.posted.props.items r.model r.extended r.fit r.options e.sets
    (e.asks ∙ c.in_ok-listed.ensures.asks)

pub returns-clause-live : goal.returns-clause-live
returns-clause-live c =
    let e = c.in_ok-posted.ensures in
    let r = c.requires in
    posted_live c.args.m.now _ r.model r.extended r.fit r.options e.sets

pub returns-clause-reads : goal.returns-clause-reads
returns-clause-reads c =
    let e = c.in_ok-posted.ensures in
    let r = c.requires in
    posted_reads c.args.m.now c.args.limit _ c.in_ok-posted.posted.props.items r.model r.extended r.fit r.options e.sets
    (e.asks ∙ c.in_ok-listed.ensures.asks) e.tight

pub returns-clause-grounded : goal.returns-clause-grounded
returns-clause-grounded c =
    let e = c.in_ok-posted.ensures in
    let r = c.requires in
    posted_grounded c.args.m.now c.args.limit _ c.in_ok-posted.posted.props.items r.model r.extended r.fit r.options e.sets
    (e.asks ∙ c.in_ok-listed.ensures.asks) e.tight

pub returns-clause-spans : goal.returns-clause-spans
returns-clause-spans c =
    let e = c.in_ok-posted.ensures in
    let r = c.requires in
    posted_spans c.args.m.now c.args.limit _ c.in_ok-posted.posted.props.items c.in_ok-posted.posted.horizon e.horizon
    r.model r.extended r.fit r.options e.sets (e.asks ∙ c.in_ok-listed.ensures.asks) e.tight

pub returns-clause-fails : goal.returns-clause-fails
returns-clause-fails c =
    let e = c.in_ok-posted.ensures in
    let r = c.requires in
    posted_fails c.args.m.now c.args.limit _ c.in_ok-posted.posted.props.items r.model r.extended r.fit r.options e.sets
    (e.asks ∙ c.in_ok-listed.ensures.asks) e.tight

pub returns-clause-overfull : goal.returns-clause-overfull
returns-clause-overfull c =
    let e = c.in_ok-posted.ensures in
    let r = c.requires in
    posted_overfull c.args.m.now c.args.limit _ c.in_ok-posted.posted.props.items r.model r.extended r.fit r.options e.sets
    (e.asks ∙ c.in_ok-listed.ensures.asks) e.tight

pub returns-clause-fixed : goal.returns-clause-fixed
returns-clause-fixed c box =
    let e = c.in_ok-posted.ensures in
    fix_is c.in_ok-posted.posted.props.items _ (e.asks ∙ c.in_ok-listed.ensures.asks) e.tight box
