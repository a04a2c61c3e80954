use Rattle.std.proofs.Common.{◌≡◌, ℕ, Bool, ◌&&◌, ◌∙◌, nat_le, nat_lt, sym, ap, subst}
use Rattle.un_domains.specs.Sets.{Sets, set_at, least, greatest}
use Rattle.un_prop.specs.Acts.{at_vars}
use Rattle.un_prop.specs.LookLaws.{known_of}
use Rattle.un_prop.specs.Looks.{at_set}
use Rattle.un_prop.specs.declared.act.Temp.{Temp}
use Rattle.un_rect.specs.Clobber.{CallVars, covers}
use Rattle.un_rect.specs.Spans.{greatest_start, least_end}
use Rattle.un_rect.specs.declared.clobber.ClobberCall.{ClobberCall}
use Rattle.un_rect.proofs.Anys.{any_drop, any_on}
use Rattle.un_rect.proofs.clobber.any_covers.Goals as goal

-- from a greatest start and a least end that were asked before
by_times : (a : Temp) (d : ClobberCall) (s : Sets) (start end : ℕ) (b : Bool) → start ≡ greatest (at_set a.at s) → end ≡ least_end a s
    → b ≡ (nat_le start (least (set_at s d.at.0)) && nat_lt (greatest (set_at s d.at.0)) end) → covers a d s ≡ b
by_times a d s start end b is_start is_end e = sym (e
    ∙ (ap (λ (n : ℕ). nat_le n (least (set_at s d.at.0)) && nat_lt (greatest (set_at s d.at.0)) end) is_start
    ∙ ap (λ (n : ℕ). nat_le (greatest_start a s) (least (set_at s d.at.0)) && nat_lt (greatest (set_at s d.at.0)) n) is_end))

pub greatest_time-start-requires-clause-known : goal.greatest_time-start-requires-clause-known
greatest_time-start-requires-clause-known c = known_of c.args.w.now.vars.now (at_vars c.args.a.now.at) c.args.w.now.store.now.sets
    c.requires.of_temp.of_at c.requires.known

pub is_within-requires-clause-of_call : goal.is_within-requires-clause-of_call
is_within-requires-clause-of_call c = subst (λ (d : ClobberCall). CallVars c.args.w.now.vars.now d) (sym c.c-item.is)
    (c.requires.of_calls c.loop-c.c-index c.c-item.result c.loop-c-test.true)

pub is_within-requires-clause-known : goal.is_within-requires-clause-known
is_within-requires-clause-known c = c.requires.known

pub is_within-requires-clause-live : goal.is_within-requires-clause-live
is_within-requires-clause-live c = c.requires.live

pub returns-then-is_within : goal.returns-then-is_within
returns-then-is_within c =
    let s = c.args.w.now.store.now.sets in
    let a = c.args.a.now in
    let item = c.c-item.result in
    sym (any_drop (λ (d : ClobberCall). covers a d s) c.args.calls.now c.loop-c.c-index item c.loop-c-test.true
    (ap (λ (d : ClobberCall). covers a d s) (sym c.c-item.is)
    ∙ (by_times a item s c.greatest_time-start.result c.least_end-end.result c.is_within.result c.greatest_time-start.ensures
    c.least_end-end.ensures c.is_within.ensures ∙ c.if-is_within.true)))
    ∙ c.loop-c.invariant

pub loop-c-preserved : goal.loop-c-preserved
loop-c-preserved c =
    let s = c.args.w.now.store.now.sets in
    let a = c.args.a.now in
    let item = c.c-item.result in
    any_on (λ (d : ClobberCall). covers a d s) c.args.calls.now c.loop-c.c-index item c.loop-c-test.true
    (ap (λ (d : ClobberCall). covers a d s) (sym c.c-item.is)
    ∙ (by_times a item s c.greatest_time-start.result c.least_end-end.result c.is_within.result c.greatest_time-start.ensures
    c.least_end-end.ensures c.is_within.ensures ∙ c.if-is_within.false))
    c.loop-c.invariant
