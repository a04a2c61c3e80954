use Rattle.std.proofs.Common.{subst, sym}
use Rattle.un_domains.specs.Cuts.{Contents}
use Rattle.un_domains.specs.Sets.{NoneEmpty}
use Rattle.un_search.proofs.AttemptLemmas.{engine_at}
use Rattle.inspect.proofs.rounds.put_lines_left.Goals as goal

pub put_all_left-requires : goal.put_all_left-requires
put_all_left-requires c =
    let at = engine_at c.args.posted.props.items c.decide_all.new.store.sets c.in_ok-engine.field-0 c.in-Some.engine
    c.in_ok-engine.ensures c.in-Some.is in
    subst (λ (s : Contents). NoneEmpty s.sets) (sym c.store-in-Some.ensures) at.live
