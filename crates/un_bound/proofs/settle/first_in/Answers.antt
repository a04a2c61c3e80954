use Rattle.std.proofs.Common.{◌≡◌, ℕ, Some, get_or, length, sym, subst, arith}
use Rattle.std.specs.Prelude.{slice_get}
use Rattle.std.proofs.lemmas.Option.{slice_get-get_or}
use Rattle.un_bound.specs.Choices.{IsNext, InSets}
use Rattle.un_bound.proofs.Nexts.{var_known, next_chosen, next_free}
use Rattle.un_bound.proofs.settle.first_in.Goals as goal

pub next-requires-clause-there : goal.next-requires-clause-there
next-requires-clause-there c =
    let b = c.args.b.now in
    let op = get_or b.ops.now c.args.i c.index-b-i.result in
    let v = get_or b.vars.now c.args.i c.index-b-i-2.result in
    let p : slice_get b.ops.now c.args.i ≡ Some op = slice_get-get_or b.ops.now c.args.i c.index-b-i.result c.requires.there in
    let q : slice_get b.vars.now c.args.i ≡ Some v = slice_get-get_or b.vars.now c.args.i c.index-b-i-2.result
    (omega (arith, c.requires.there, c.requires.known.long)) in
    var_known (length b.store.now.sets) b.end op.kind v c.in-Some.v c.requires.known.stop (c.requires.known.each c.args.i op v p q)
    (sym c.in-Some.ensures)

pub returns-in-None : goal.returns-in-None
returns-in-None c =
    let b = c.args.b.now in
    let op = get_or b.ops.now c.args.i c.index-b-i.result in
    let v = get_or b.vars.now c.args.i c.index-b-i-2.result in
    let p : slice_get b.ops.now c.args.i ≡ Some op = slice_get-get_or b.ops.now c.args.i c.index-b-i.result c.requires.there in
    let q : slice_get b.vars.now c.args.i ≡ Some v = slice_get-get_or b.vars.now c.args.i c.index-b-i-2.result
    (omega (arith, c.requires.there, c.requires.known.long)) in
    subst (λ (n : ℕ). IsNext (InSets b.store.now.sets b.end b.ops.now b.vars.now c.args.i) 0 (Some n)) (sym c.first_cycle-at.ensures)
    (next_free b.store.now.sets b.end b.ops.now b.vars.now c.args.i op v p q (sym c.in-None.ensures))

pub returns-in-Some : goal.returns-in-Some
returns-in-Some c =
    let b = c.args.b.now in
    let op = get_or b.ops.now c.args.i c.index-b-i.result in
    let v = get_or b.vars.now c.args.i c.index-b-i-2.result in
    let p : slice_get b.ops.now c.args.i ≡ Some op = slice_get-get_or b.ops.now c.args.i c.index-b-i.result c.requires.there in
    let q : slice_get b.vars.now c.args.i ≡ Some v = slice_get-get_or b.vars.now c.args.i c.index-b-i-2.result
    (omega (arith, c.requires.there, c.requires.known.long)) in
    next_chosen b.store.now.sets b.end b.ops.now b.vars.now c.args.i op v c.in-Some.v c.from.result 0 c.next.result p q
    (sym c.in-Some.ensures) (omega (arith, c.from.ensures, c.first_cycle-at.ensures))
    (λ n may ge. omega (arith, (may op v p q).0, c.from.ensures, c.first_cycle-at.ensures)) (omega arith) c.next.ensures
