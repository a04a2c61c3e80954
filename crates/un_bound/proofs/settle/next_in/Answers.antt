use Rattle.std.proofs.Common.{◌≡◌, ◌≤◌, Some, get_or, length, sym, arith}
use Rattle.std.specs.Prelude.{slice_get}
use Rattle.std.proofs.lemmas.Option.{slice_get-get_or}
use Rattle.un_ir.specs.declared.extended.ExtOp.{ExtOp}
use Rattle.un_bound.specs.Arcs.{MayWait}
use Rattle.un_bound.specs.Lengths.{first_cycle}
use Rattle.un_bound.proofs.Placed.{from_some}
use Rattle.un_bound.proofs.Nexts.{var_known, has_var, next_chosen}
use Rattle.un_bound.proofs.settle.next_in.Goals as goal

pub next-requires-clause-there : goal.next-requires-clause-there
next-requires-clause-there c =
    let b = c.args.b.now in
    let op = get_or b.ops.now c.args.i c.index-b-i.result in
    let v = get_or b.vars.now c.args.i c.index-b-i-2.result in
    let p : slice_get b.ops.now c.args.i ≡ Some op = slice_get-get_or b.ops.now c.args.i c.index-b-i.result c.requires.there in
    let q : slice_get b.vars.now c.args.i ≡ Some v = slice_get-get_or b.vars.now c.args.i c.index-b-i-2.result
    (omega (arith, c.requires.there, c.requires.known.long)) in
    var_known (length b.store.now.sets) b.end op.kind v c.in-Some.v c.requires.known.stop (c.requires.known.each c.args.i op v p q)
    (sym c.in-Some.ensures)

pub returns-in-None : goal.returns-in-None
returns-in-None c =
    let b = c.args.b.now in
    let op = get_or b.ops.now c.args.i c.index-b-i.result in
    let v = get_or b.vars.now c.args.i c.index-b-i-2.result in
    let p : slice_get b.ops.now c.args.i ≡ Some op = slice_get-get_or b.ops.now c.args.i c.index-b-i.result c.requires.there in
    let q : slice_get b.vars.now c.args.i ≡ Some v = slice_get-get_or b.vars.now c.args.i c.index-b-i-2.result
    (omega (arith, c.requires.there, c.requires.known.long)) in
    λ n may le. has_var (length b.store.now.sets) b.end op.kind v
    (from_some (λ (o : ExtOp). MayWait o.kind) b.ops.now c.args.i op p c.requires.waits)
    (c.requires.known.each c.args.i op v p q) (sym c.in-None.ensures)

pub returns-in-Some : goal.returns-in-Some
returns-in-Some c =
    let b = c.args.b.now in
    let op = get_or b.ops.now c.args.i c.index-b-i.result in
    let v = get_or b.vars.now c.args.i c.index-b-i-2.result in
    let p : slice_get b.ops.now c.args.i ≡ Some op = slice_get-get_or b.ops.now c.args.i c.index-b-i.result c.requires.there in
    let q : slice_get b.vars.now c.args.i ≡ Some v = slice_get-get_or b.vars.now c.args.i c.index-b-i-2.result
    (omega (arith, c.requires.there, c.requires.known.long)) in
    next_chosen b.store.now.sets b.end b.ops.now b.vars.now c.args.i op v c.in-Some.v c.args.at c.args.at c.next.result p q
    (sym c.in-Some.ensures) (from_some (λ (o : ExtOp). first_cycle o.kind ≤ c.args.at) b.ops.now c.args.i op p c.requires.first)
    (λ n may ge. ge) (omega arith) c.next.ensures
