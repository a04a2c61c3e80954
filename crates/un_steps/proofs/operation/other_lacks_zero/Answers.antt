use Rattle.std.proofs.Common.{◌++◌, sym, ◌∙◌, map}
use Rattle.std.specs.List.{list_any}
use Rattle.std.specs.Option.{option_to_list}
use Rattle.un_steps.specs.Found.{operation_of}
use Rattle.un_steps.specs.Rules.{lacks_zero}
use Rattle.un_steps.specs.Words.{number_of, result_vars}
use Rattle.un_steps.proofs.Finding.{any_parts, first_hit, second_hit, third_hit}
use Rattle.un_steps.proofs.operation.other_lacks_zero.Goals as goal

pub returns-then-lacks_zero : goal.returns-then-lacks_zero
returns-then-lacks_zero c =
    let v = c.args.p.now.vars.now in
    let xs = map number_of (option_to_list v.cycle) in
    let ys = map number_of v.choices in
    let zs = result_vars c.args.m.now (operation_of c.args.p.now) in
    let t = (lacks_zero c.args.s.now.sets) in
    let whole = any_parts t xs ys zs in
    first_hit (list_any t xs) (list_any t ys) (list_any t zs) (list_any t (xs ++ (ys ++ zs))) whole
    (sym c.lacks_zero.ensures ∙ c.if-lacks_zero.true)

pub returns-then-choice_lacks_zero : goal.returns-then-choice_lacks_zero
returns-then-choice_lacks_zero c =
    let v = c.args.p.now.vars.now in
    let xs = map number_of (option_to_list v.cycle) in
    let ys = map number_of v.choices in
    let zs = result_vars c.args.m.now (operation_of c.args.p.now) in
    let t = (lacks_zero c.args.s.now.sets) in
    let whole = any_parts t xs ys zs in
    let told = rw c.as_slice.ensures at c.choice_lacks_zero.ensures in
    second_hit (list_any t xs) (list_any t ys) (list_any t zs) (list_any t (xs ++ (ys ++ zs))) whole
    (sym c.lacks_zero.ensures ∙ c.if-lacks_zero.false) (sym told ∙ c.if-choice_lacks_zero.true)

pub returns : goal.returns
returns c =
    let v = c.args.p.now.vars.now in
    let xs = map number_of (option_to_list v.cycle) in
    let ys = map number_of v.choices in
    let zs = result_vars c.args.m.now (operation_of c.args.p.now) in
    let t = (lacks_zero c.args.s.now.sets) in
    let whole = any_parts t xs ys zs in
    let told = rw c.as_slice.ensures at c.choice_lacks_zero.ensures in
    c.result_lacks_zero.ensures ∙ third_hit (list_any t xs) (list_any t ys) (list_any t zs) (list_any t (xs ++ (ys ++ zs))) whole
    (sym c.lacks_zero.ensures ∙ c.if-lacks_zero.false) (sym told ∙ c.if-choice_lacks_zero.false)
