use Rattle.std.proofs.Common.{◌<◌, ◌∙◌, sym, ap, arith}
use Rattle.un_domains.specs.Sets.{set_at, greatest}
use Rattle.un_prop.specs.AmongLaws.{has_among}
use Rattle.un_prop.specs.Choices.{passes_at}
use Rattle.un_prop.specs.Somewhere.{is_by}
use Rattle.un_prop.specs.SomewhereLaws.{any_none, any_whole, next_there, next_absent}
use Rattle.un_prec.specs.Reads.{may_be_late}
use Rattle.un_prec.proofs.reads.first_read.Goals as goal
use Rattle.un_prec.proofs.reads.first_read.Goals.{then-has, else-has}

pub min-requires-clause-there : goal.min-requires-clause-there
min-requires-clause-there c = has_among c.args.w.now.vars.now c.args.choice c.args.w.now.store.now.sets c.requires.choice c.requires.known

pub min-requires-clause-some : goal.min-requires-clause-some
min-requires-clause-some c = c.requires.live c.args.choice.0
    (has_among c.args.w.now.vars.now c.args.choice c.args.w.now.store.now.sets c.requires.choice c.requires.known)

pub max-requires-clause-there : goal.max-requires-clause-there
max-requires-clause-there c = has_among c.args.w.now.vars.now c.args.choice c.args.w.now.store.now.sets c.requires.choice c.requires.known

pub max-requires-clause-some : goal.max-requires-clause-some
max-requires-clause-some c = c.requires.live c.args.choice.0
    (has_among c.args.w.now.vars.now c.args.choice c.args.w.now.store.now.sets c.requires.choice c.requires.known)

pub has-requires : goal.has-requires
has-requires c = has_among c.args.w.now.vars.now c.args.choice c.args.w.now.store.now.sets c.requires.choice c.requires.known

pub loop-i-init : goal.loop-i-init
loop-i-init c t =
    let s = c.args.w.now.store.now.sets in
    sym (any_none (passes_at (may_be_late s t) c.args.alts.now) (set_at s c.args.choice.0) c.from-low.result
    (omega (arith, c.from-low.ensures, c.min.ensures)))

pub loop-i-preserved : goal.loop-i-preserved
loop-i-preserved c t =
    let s = c.args.w.now.store.now.sets in
    let p = passes_at (may_be_late s t) c.args.alts.now in
    let xs = set_at s c.args.choice.0 in
    let i = c.loop-i.i in
    elim c.if-has.branch [
      | then-has w ↦ next_there p xs i _ (is_by c.loop-i.first t) (is_by w.first_at-next.result t) (sym c.has.ensures ∙ w.if-has.true)
          (ap (λ f. is_by f t) w.first-is ∙ w.sooner-first.ensures t) (c.loop-i.invariant t) (w.first_at-next.ensures t)
      | else-has w ↦ next_absent p xs i _ (sym c.has.ensures ∙ w.if-has.false) (ap (λ f. is_by f t) w.first-is ∙ c.loop-i.invariant t)
    ]

pub returns : goal.returns
returns c t =
    let s = c.args.w.now.store.now.sets in
    let xs = set_at s c.args.choice.0 in
    let high : greatest xs < c.loop-i.i = omega (arith, c.loop-i-test.false, c.from-end.ensures, c.max.ensures) in
    c.loop-i.invariant t ∙ any_whole (passes_at (may_be_late s t) c.args.alts.now) xs c.loop-i.i high
