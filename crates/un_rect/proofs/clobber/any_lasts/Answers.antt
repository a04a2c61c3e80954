use Rattle.std.proofs.Common.{Bool, ◌||◌, ◌∙◌, sym, ap}
use Rattle.std.specs.List.{list_any}
use Rattle.un_rect.specs.Clobber.{covers, is_read_behind}
use Rattle.un_rect.specs.declared.clobber.ClobberCall.{ClobberCall}
use Rattle.un_rect.proofs.Anys.{any_either}
use Rattle.un_rect.proofs.clobber.any_lasts.Goals as goal

pub returns-then-any_covers : goal.returns-then-any_covers
returns-then-any_covers c =
    let s = c.args.w.now.store.now.sets in
    let a = c.args.a.now in
    let calls = c.args.calls.now in
    sym (any_either (λ (d : ClobberCall). covers a d s) (λ (d : ClobberCall). is_read_behind d s) calls
    ∙ ap (λ (b : Bool). b || list_any (λ (d : ClobberCall). is_read_behind d s) calls) (sym c.any_covers.ensures ∙ c.if-any_covers.true))

pub returns : goal.returns
returns c =
    let s = c.args.w.now.store.now.sets in
    let a = c.args.a.now in
    let calls = c.args.calls.now in
    sym (any_either (λ (d : ClobberCall). covers a d s) (λ (d : ClobberCall). is_read_behind d s) calls
    ∙ (ap (λ (b : Bool). b || list_any (λ (d : ClobberCall). is_read_behind d s) calls) (sym c.any_covers.ensures ∙ c.if-any_covers.false)
    ∙ sym c.any_read_behind.ensures))
