-- What is posted and what the rounds leave of it are as the clauses of posting say.
use Rattle.std.proofs.Common.{ap, subst, ◌∙◌}
use Rattle.un_domains.specs.Cuts.{Contents}
use Rattle.un_domains.specs.Sets.{NoneEmpty}
use Rattle.un_engine.specs.Engines.{State}
use Rattle.un_kinds.specs.declared.any.AnyProp.{AnyProp}
use Rattle.un_certificate.proofs.Posting.{are_posted}
use Rattle.un_search.proofs.AttemptLemmas.{engine_at, first_are, first_end, lost_root}
use Rattle.un_search.proofs.root.begin.Goals as goal

pub returns-in-None : goal.returns-in-None
returns-in-None c =
    let m = c.args.m.now in
    let p = c.in_ok-posted.posted in
    let e = c.in_ok-posted.ensures in
    record {
      posted = record { props = p.props.items; are = are_posted m c.args.limit p.props.items c.requires.postable e.asks e.tight };
      full = subst NoneEmpty e.sets e.live;
      fails = lost_root m c.args.limit p.store.sets p.props.items _ e.sets e.fixed c.in_ok-new.ensures c.in-None.is;
    }

pub returns-in_ok-stores-in-Some : goal.returns-in_ok-stores-in-Some
returns-in_ok-stores-in-Some c =
    let m = c.args.m.now in
    let p = c.in_ok-posted.posted in
    let e = c.in_ok-posted.ensures in
    let r = c.in_ok-stores-in-Some in
    let ready = c.requires.postable in
    let at = engine_at p.props.items p.store.sets c.in_ok-new.field-0 c.in-Some.engine c.in_ok-new.ensures c.in-Some.is in (
      record {
        postable = ready;
        stores = first_are m c.args.limit p.props.items p.store.sets c.in-Some.engine r.stores.engine e.sets at r.ensures.engine p.horizon
            c.in_ok-cuts.cuts r.stores.cuts r.stores.scratch ready.model ready.extended ready.fit
            (are_posted m c.args.limit p.props.items ready e.asks e.tight) c.in_ok-cuts.ensures.sets r.ensures.cuts r.ensures.room e.horizon;
        full = subst NoneEmpty e.sets e.live;
        cuts = ap (λ (k : Contents). k.sets) r.ensures.cuts ∙ (c.in_ok-cuts.ensures.sets ∙ e.sets);
        unmarked = ap (λ (k : Contents). k.marked) r.ensures.cuts ∙ c.in_ok-cuts.ensures.marked;
        ends = first_end m c.args.limit p.props.items p.store.sets c.in-Some.engine r.stores.engine e.sets at r.ensures.engine e.fixed;
        fresh = ap (λ (k : State AnyProp). k.store.marked) r.ensures.engine ∙ at.fresh;
      },
      e.limited,
    )
