use Rattle.std.proofs.Common.{List, ◌≡◌, ◌+◌, ◌-◌, ◌^◌, min, arith, subst}
use Rattle.un_prop.specs.AmongLaws.{has_among}
use Rattle.un_counted.specs.declared.counted.LeastEnd.{LeastEnd}
use Rattle.un_counted.specs.Counted.{lowest, cost_of}
use Rattle.un_counted.proofs.Past.{drop_all}
use Rattle.un_counted.proofs.counted.cost_in.Goals as goal

pub min-requires-clause-there : goal.min-requires-clause-there
min-requires-clause-there c = has_among c.args.w.now.vars.now _ c.args.w.now.store.now.sets
    (c.requires.vars c.loop-e.e-index (record { end = record { 0 = 0 }; freq = 0; least = 0 }) c.loop-e-test.true) c.requires.known

pub min-requires-clause-some : goal.min-requires-clause-some
min-requires-clause-some c = c.requires.live _ (has_among c.args.w.now.vars.now _ c.args.w.now.store.now.sets
    (c.requires.vars c.loop-e.e-index (record { end = record { 0 = 0 }; freq = 0; least = 0 }) c.loop-e-test.true) c.requires.known)

pub returns : goal.returns
returns c =
    let es = c.args.row.now in
    let f = lowest c.args.w.now.store.now.sets in
    let none = drop_all es c.loop-e.e-index (omega (arith, c.loop-e-test.false)) in
    let end : min (c.loop-e.total + 0) (2 ^ 64 - 1) ≡ min (cost_of es f) (2 ^ 64 - 1) =
    subst (λ (us : List LeastEnd). min (c.loop-e.total + cost_of us f) (2 ^ 64 - 1) ≡ min (cost_of es f) (2 ^ 64 - 1)) none
    c.loop-e.invariant.so_far in
    omega (arith, end, c.loop-e.invariant.small)
