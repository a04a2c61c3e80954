use Rattle.std.proofs.Common.{ℕ, ◌≡◌, ◌≢◌, true, set, arith, subst}
use Rattle.un_prop.specs.AmongLaws.{has_among}
use Rattle.un_prop.specs.Last.{point}
use Rattle.un_rect.specs.Apart.{pair_holds}
use Rattle.un_rect.proofs.CheckSteps.{first_parted, second_parted}
use Rattle.un_rect.proofs.checks.try_some.Goals as goal

pub try_other-requires-clause-apart : goal.try_other-requires-clause-apart
try_other-requires-clause-apart c y other =
    let vs = c.args.w.now.vars.now in
    let s = c.args.w.now.store.now.sets in
    let a = c.args.a.now in
    let b = c.args.b.now in
    let ne : a.reg.0 ≢ b.reg.0 = omega (arith, c.if-a-b.false) in
    let is : a.reg.0 ≡ c.args.v.0 = omega (arith, c.if-v-a.true) in
    subst (λ (n : ℕ). pair_holds a b (set (point s) n y) ≡ true) is
    (first_parted a b s y (has_among vs a.reg s c.requires.of_a.of_reg c.requires.known)
    (has_among vs b.reg s c.requires.of_b.of_reg c.requires.known) ne other)

pub try_other-requires-then-v-b-clause-apart : goal.try_other-requires-then-v-b-clause-apart
try_other-requires-then-v-b-clause-apart c y other =
    let vs = c.args.w.now.vars.now in
    let s = c.args.w.now.store.now.sets in
    let a = c.args.a.now in
    let b = c.args.b.now in
    let ne : a.reg.0 ≢ b.reg.0 = omega (arith, c.if-a-b.false) in
    let is : b.reg.0 ≡ c.args.v.0 = omega (arith, c.if-v-b.true) in
    subst (λ (n : ℕ). pair_holds a b (set (point s) n y) ≡ true) is
    (second_parted a b s y (has_among vs a.reg s c.requires.of_a.of_reg c.requires.known)
    (has_among vs b.reg s c.requires.of_b.of_reg c.requires.known) ne other)
