use Rattle.std.proofs.Common.{rules, arith, Err, ◌≡◌, None, Some}
use Rattle.std.specs.List.{slice_get}
use Rattle.std.proofs.lemmas.Grind.{common_steps}
use Rattle.std.proofs.lemmas.Option.{gets}
use Rattle.un_commands.proofs.CommandLaws.{exactly, ranged, bad_at, bad_first}
use Rattle.un_commands.proofs.EndLaws.{not_first, none_first}
use Rattle.un_commands.proofs.line.read_command.Goals as goal

pub returns-then-is-clause-exactly : goal.returns-then-is-clause-exactly
returns-then-is-clause-exactly c = exactly c.args.words.now c.read_alloc.result c.read_alloc.ensures.ok c.read_alloc.ensures.bad

pub returns-then-is-clause-ranged : goal.returns-then-is-clause-ranged
returns-then-is-clause-ranged c = ranged c.args.words.now c.read_alloc.result c.read_alloc.ensures.ok

pub returns-then-is-2-clause-exactly : goal.returns-then-is-2-clause-exactly
returns-then-is-2-clause-exactly c = exactly c.args.words.now c.read_run.result c.read_run.ensures.ok c.read_run.ensures.bad

pub returns-then-is-3-clause-exactly : goal.returns-then-is-3-clause-exactly
returns-then-is-3-clause-exactly c = exactly c.args.words.now c.read_check.result c.read_check.ensures.ok c.read_check.ensures.bad

pub returns-then-is-4-clause-exactly : goal.returns-then-is-4-clause-exactly
returns-then-is-4-clause-exactly c = exactly c.args.words.now c.read_generate.result c.read_generate.ensures.ok c.read_generate.ensures.bad

pub returns-then-is-5-clause-exactly : goal.returns-then-is-5-clause-exactly
returns-then-is-5-clause-exactly c = exactly c.args.words.now c.read_improve.result c.read_improve.ensures.ok c.read_improve.ensures.bad

pub returns-then-is-5-clause-ranged : goal.returns-then-is-5-clause-ranged
returns-then-is-5-clause-ranged c = ranged c.args.words.now c.read_improve.result c.read_improve.ensures.ok

pub returns-then-is-6-clause-exactly : goal.returns-then-is-6-clause-exactly
returns-then-is-6-clause-exactly c = exactly c.args.words.now c.read_refute.result c.read_refute.ensures.ok c.read_refute.ensures.bad

pub returns-then-is-6-clause-ranged : goal.returns-then-is-6-clause-ranged
returns-then-is-6-clause-ranged c = ranged c.args.words.now c.read_refute.result c.read_refute.ensures.ok

pub returns-then-is-7-clause-exactly : goal.returns-then-is-7-clause-exactly
returns-then-is-7-clause-exactly c = exactly c.args.words.now c.read_steps.result c.read_steps.ensures.ok c.read_steps.ensures.bad

pub returns-in_default-clause-bad : goal.returns-in_default-clause-bad
returns-in_default-clause-bad c =
    let words = c.args.words.now in
    let none : slice_get words 0 ≡ None = first_of (search rules, grind (arith, common_steps, gets)) in
    bad_at words (Err 0) (bad_first words (none_first words _ none) (none_first words _ none) (none_first words _ none) (none_first words _ none)
    (none_first words _ none) (none_first words _ none) (none_first words _ none))

pub returns-else-is-7-clause-bad : goal.returns-else-is-7-clause-bad
returns-else-is-7-clause-bad c =
    let words = c.args.words.now in
    let first = c.in-Some.first.now in
    let here : slice_get words 0 ≡ Some first = first_of (search rules, grind (arith, common_steps, gets)) in
    bad_at words (Err 0) (bad_first words (not_first words first _ _ here c.is.ensures c.if-is.false)
    (not_first words first _ _ here c.is-else-is.ensures c.if-is-2.false)
    (not_first words first _ _ here c.is-else-is-2.ensures c.if-is-3.false)
    (not_first words first _ _ here c.is-else-is-3.ensures c.if-is-4.false)
    (not_first words first _ _ here c.is-else-is-4.ensures c.if-is-5.false)
    (not_first words first _ _ here c.is-else-is-5.ensures c.if-is-6.false)
    (not_first words first _ _ here c.is-else-is-6.ensures c.if-is-7.false))
