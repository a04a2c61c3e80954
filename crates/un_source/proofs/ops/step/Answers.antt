use Rattle.un_source.specs.States.{state_of}
use Rattle.un_source.proofs.Steps.{load_step, store_step, other_step}
use Rattle.un_source.proofs.ops.step.Goals as goal

pub returns-in-Load : goal.returns-in-Load
returns-in-Load c =
    load_step c.args.o.now (state_of c.args.replies.now c.args.s.now) (state_of c.args.replies.now c.load.new.s) c.load.result c.in-Load.is
    (c.load.ensures c.args.replies.now)

pub returns-in-Store : goal.returns-in-Store
returns-in-Store c =
    store_step c.args.o.now (state_of c.args.replies.now c.args.s.now) (state_of c.args.replies.now c.store.new.s) c.store.result
    c.in-Store.is (c.store.ensures c.args.replies.now)

pub returns-in_default : goal.returns-in_default
returns-in_default c =
    other_step c.args.o.now (state_of c.args.replies.now c.args.s.now) c.as_slice.result.now c.assign.new.values c.computed-v.result
    c.in_default.not-Load c.in_default.not-Store c.in_default.not-Call c.as_slice.ensures c.computed-v.ensures c.assign.ensures
