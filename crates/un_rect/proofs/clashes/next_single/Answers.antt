use Rattle.std.proofs.Common.{◌<◌, length, sym, subst, arith}
use Rattle.un_prop.specs.AmongLaws.{has_among}
use Rattle.un_prop.specs.declared.act.Temp.{Temp}
use Rattle.un_rect.specs.Spans.{TempVars}
use Rattle.un_rect.proofs.clashes.next_single.Goals as goal

pub misses-requires-clause-of_a : goal.misses-requires-clause-of_a
misses-requires-clause-of_a c =
    let lt : c.loop-i.i < length c.args.temps.now = omega (arith, c.loop-i-test.true, c.loop-i.auto.i-end, c.requires.there) in
    subst (λ (a : Temp). TempVars c.args.w.now.vars.now a) (sym c.index-temps-i.is)
    (c.requires.of_temps c.loop-i.i c.index-temps-i.result lt)

pub misses-requires-clause-of_b : goal.misses-requires-clause-of_b
misses-requires-clause-of_b c = subst (λ (a : Temp). TempVars c.args.w.now.vars.now a) (sym c.index-temps-j.is)
    (c.requires.of_temps c.args.j c.index-temps-j.result c.requires.there)

pub is_single-one-requires : goal.is_single-one-requires
is_single-one-requires c =
    let b = c.index-temps-j.result in
    let of_b = subst (λ (a : Temp). TempVars c.args.w.now.vars.now a) (sym c.index-temps-j.is)
    (c.requires.of_temps c.args.j b c.requires.there) in
    has_among c.args.w.now.vars.now b.reg c.args.w.now.store.now.sets of_b.of_reg c.requires.known

pub min-reg-requires-clause-there : goal.min-reg-requires-clause-there
min-reg-requires-clause-there c =
    let b = c.index-temps-j.result in
    let of_b = subst (λ (a : Temp). TempVars c.args.w.now.vars.now a) (sym c.index-temps-j.is)
    (c.requires.of_temps c.args.j b c.requires.there) in
    has_among c.args.w.now.vars.now b.reg c.args.w.now.store.now.sets of_b.of_reg c.requires.known

pub min-reg-requires-clause-some : goal.min-reg-requires-clause-some
min-reg-requires-clause-some c =
    let b = c.index-temps-j.result in
    let of_b = subst (λ (a : Temp). TempVars c.args.w.now.vars.now a) (sym c.index-temps-j.is)
    (c.requires.of_temps c.args.j b c.requires.there) in
    c.requires.live b.reg.0 (has_among c.args.w.now.vars.now b.reg c.args.w.now.store.now.sets of_b.of_reg c.requires.known)
