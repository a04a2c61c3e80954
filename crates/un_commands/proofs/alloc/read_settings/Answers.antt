use Rattle.std.proofs.Common.{rules, arith, ◌+◌, take, sym, subst}
use Rattle.std.proofs.lemmas.Grind.{common_steps}
use Rattle.std.proofs.lemmas.Option.{gets}
use Rattle.std.proofs.lemmas.Result.{err_from_is_err_and}
use Rattle.un_commands.specs.declared.setting.Given.{Given}
use Rattle.un_commands.specs.Places.{StandsAt}
use Rattle.un_commands.proofs.AllocLaws.{SoFar, place_small, so_far_more, so_far_asked, none_asked, bad_setting}
use Rattle.un_commands.proofs.alloc.read_settings.Goals as goal

pub read_setting-requires-clause-flag : goal.read_setting-requires-clause-flag
read_setting-requires-clause-flag c = first_of (search rules, grind (arith, common_steps, gets))

pub read_setting-requires-clause-small : goal.read_setting-requires-clause-small
read_setting-requires-clause-small c =
    let l = c.loop-flag in
    let words = c.args.words.now in
    omega (arith, place_small (take c.args.from words) c.args.takes c.requires.opened words l.place l.given l.table l.invariant)

pub returns-in_err-setting-clause-bad : goal.returns-in_err-setting-clause-bad
returns-in_err-setting-clause-bad c = let p = err_from_is_err_and c.from_residual.result c.from_residual.ensures.1 in
    let l = c.loop-flag in
    let words = c.args.words.now in
    let flag = c.in-Some.flag.now in
    let stands : StandsAt words l.place flag = first_of (search rules, grind (arith, common_steps, gets)) in
    rw (p.1, p.2) (bad_setting (take c.args.from words) c.args.takes c.requires.opened words l.place l.given l.table flag _
    l.invariant stands (none_asked words l.place c.args.takes l.table flag _ stands c.asks_table.ensures c.if-asks_table.false)
    c.in_err-setting.ensures.bad)

pub overflow_add-place : goal.overflow_add-place
overflow_add-place c =
    let l = c.loop-flag in
    let words = c.args.words.now in
    omega (arith, place_small (take c.args.from words) c.args.takes c.requires.opened words l.place l.given l.table l.invariant)

pub overflow_add-place-in-Some : goal.overflow_add-place-in-Some
overflow_add-place-in-Some c =
    let l = c.loop-flag in
    let words = c.args.words.now in
    omega (arith, place_small (take c.args.from words) c.args.takes c.requires.opened words l.place l.given l.table l.invariant)

pub loop-flag-preserved-then-asks_table : goal.loop-flag-preserved-then-asks_table
loop-flag-preserved-then-asks_table c =
    let l = c.loop-flag in
    let words = c.args.words.now in
    let flag = c.in-Some.flag.now in
    let stands : StandsAt words l.place flag = first_of (search rules, grind (arith, common_steps, gets)) in
    so_far_asked (take c.args.from words) c.args.takes words l.place l.given l.table flag l.invariant stands
    (c.asks_table.ensures.0 c.if-asks_table.true)

pub loop-flag-preserved : goal.loop-flag-preserved
loop-flag-preserved c =
    let l = c.loop-flag in
    let words = c.args.words.now in
    let opening = take c.args.from words in
    subst (λ (g : Given). SoFar opening c.args.takes words (l.place + 2) g l.table) (sym c.with-given.ensures)
    (so_far_more opening c.args.takes words l.place l.given l.table c.in_ok-setting.setting l.invariant c.in_ok-setting.ensures.ok)
