use Rattle.std.proofs.Common.{ℕ, List, ◌≡◌, ◌+◌, ◌∙◌, length, arith, sym, ap, subst}
use Rattle.std.proofs.Common.{Some, ◌++◌, take, drop, length-take-le, length-append, length-drop}
use Rattle.std.specs.declared.option.Option.{Option}
use Rattle.un_base.specs.declared.ids.VarId.{VarId}
use Rattle.un_domains.specs.Sets.{Sets}
use Rattle.un_prop.specs.Last.{last_of, last_cut, last_cut_at}
use Rattle.un_prop.specs.GoingLaws.{goes_then}
use Rattle.un_prop.specs.Going.{Goes}
use Rattle.un_prop.specs.LastLaws.{last_single}
use Rattle.un_prop.specs.Pruning.{IsPrune}
use Rattle.un_prop.specs.declared.propagator.Pruned.{Pruned}
use Rattle.un_prop.proofs.last.check_last.Goals as goal

pub try_all-did-requires-clause-lent : goal.try_all-did-requires-clause-lent
try_all-did-requires-clause-lent g c =
    let vs = g.P.Predicate.scope c.args.p.now in
    let s = c.args.w.now.store.now.sets in
    let is : last_of vs s ≡ Some c.in-Some.v = ap (λ (us : List VarId). last_of us s) (sym c.reads.ensures) ∙ sym c.in-Some.ensures in
    (last_single vs s c.in-Some.v is).0

pub returns-in-Some-clause-goes : goal.returns-in-Some-clause-goes
returns-in-Some-clause-goes g c =
    let P = g.P.Predicate in
    let p = c.args.p.now in
    let vs = c.args.w.now.vars.now in
    let s = c.args.w.now.store.now in
    let new = c.try_all-did.new.w.store.now in
    let v = c.in-Some.v in
    let is : last_of (P.scope p) s.sets ≡ Some v = ap (λ (us : List VarId). last_of us s.sets) (sym c.reads.ensures)
    ∙ sym c.in-Some.ensures in
    let cut = λ (u : Sets). last_cut (P.scope p) (P.holds p) u in
    subst (λ (a : Pruned). Goes vs cut s new c.args.before a) (sym c.joined.ensures)
    (goes_then vs cut s new c.args.before c.try_all-did.result (λ e. let h = rw e at c.if-eq.ensures in cc h)
    (λ live. let done = subst (λ (o : Option Sets). IsPrune vs o s new c.try_all-did.result) (sym (ap (last_cut_at (P.holds p) s.sets) is))
    c.try_all-did.ensures.prune in (done.ends, done.untouched)))

pub try_all-did-requires-clause-written : goal.try_all-did-requires-clause-written
try_all-did-requires-clause-written g c = rw c.reads-in-Some.ensures at c.fill.ensures

-- a front that is written over is as long as before
same_length : (n : ℕ) (xs ys : List ℕ) → length ys ≡ n → length xs ≡ length ys → length (take n (xs ++ drop (length xs) ys)) ≡ length ys
same_length n xs ys whole same = length-take-le n (xs ++ drop (length xs) ys)
    (omega (arith, length-append xs (drop (length xs) ys), length-drop (length xs) ys)) ∙ sym whole

pub returns-in-Some-clause-fixed : goal.returns-in-Some-clause-fixed
returns-in-Some-clause-fixed g c =
    let lent = c.as_mut_slice-fixed.ensures in
    same_length c.args.scratch.now.fixed.len c.try_all-did.new.fixed c.args.scratch.now.fixed.items (sym (ap length lent.value) ∙ lent.len)
    (c.try_all-did.auto.fixed ∙ c.fill.auto.fixed ∙ ap length lent.value)
