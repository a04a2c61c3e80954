use Rattle.std.proofs.Common.{◌∙◌, sym, ap, subst}
use Rattle.un_rect.specs.Clobber.{CallVars, is_read_behind}
use Rattle.un_rect.specs.declared.clobber.ClobberCall.{ClobberCall}
use Rattle.un_rect.proofs.Anys.{any_drop, any_on}
use Rattle.un_rect.proofs.clobber.any_read_behind.Goals as goal

pub is_read_behind-requires-clause-of_call : goal.is_read_behind-requires-clause-of_call
is_read_behind-requires-clause-of_call c = subst (λ (d : ClobberCall). CallVars c.args.w.now.vars.now d) (sym c.c-item.is)
    (c.requires.of_calls c.loop-c.c-index c.c-item.result c.loop-c-test.true)

pub is_read_behind-requires-clause-known : goal.is_read_behind-requires-clause-known
is_read_behind-requires-clause-known c = c.requires.known

pub is_read_behind-requires-clause-live : goal.is_read_behind-requires-clause-live
is_read_behind-requires-clause-live c = c.requires.live

pub returns-then-is_read_behind : goal.returns-then-is_read_behind
returns-then-is_read_behind c =
    let s = c.args.w.now.store.now.sets in
    let item = c.c-item.result in
    sym (any_drop (λ (d : ClobberCall). is_read_behind d s) c.args.calls.now c.loop-c.c-index item c.loop-c-test.true
    (ap (λ (d : ClobberCall). is_read_behind d s) (sym c.c-item.is) ∙ (sym c.is_read_behind.ensures ∙ c.if-is_read_behind.true)))
    ∙ c.loop-c.invariant

pub loop-c-preserved : goal.loop-c-preserved
loop-c-preserved c =
    let s = c.args.w.now.store.now.sets in
    let item = c.c-item.result in
    any_on (λ (d : ClobberCall). is_read_behind d s) c.args.calls.now c.loop-c.c-index item c.loop-c-test.true
    (ap (λ (d : ClobberCall). is_read_behind d s) (sym c.c-item.is) ∙ (sym c.is_read_behind.ensures ∙ c.if-is_read_behind.false))
    c.loop-c.invariant
