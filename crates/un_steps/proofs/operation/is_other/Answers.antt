use Rattle.std.proofs.Common.{◌++◌, sym, ◌∙◌, map, nat_eq}
use Rattle.std.specs.List.{list_any}
use Rattle.std.specs.Option.{option_to_list}
use Rattle.un_steps.specs.Found.{operation_of}
use Rattle.un_steps.specs.Words.{number_of, result_vars}
use Rattle.un_steps.proofs.Finding.{any_parts, first_hit, second_hit, third_hit}
use Rattle.un_steps.proofs.operation.is_other.Goals as goal

pub returns-then-is_number : goal.returns-then-is_number
returns-then-is_number c =
    let v = c.args.p.now.vars.now in
    let xs = map number_of (option_to_list v.cycle) in
    let ys = map number_of v.choices in
    let zs = result_vars c.args.m.now (operation_of c.args.p.now) in
    let t = (nat_eq c.args.v.0) in
    let whole = any_parts t xs ys zs in
    first_hit (list_any t xs) (list_any t ys) (list_any t zs) (list_any t (xs ++ (ys ++ zs))) whole
    (sym c.is_number.ensures ∙ c.if-is_number.true)

pub returns-then-is_choice : goal.returns-then-is_choice
returns-then-is_choice c =
    let v = c.args.p.now.vars.now in
    let xs = map number_of (option_to_list v.cycle) in
    let ys = map number_of v.choices in
    let zs = result_vars c.args.m.now (operation_of c.args.p.now) in
    let t = (nat_eq c.args.v.0) in
    let whole = any_parts t xs ys zs in
    let told = rw c.as_slice.ensures at c.is_choice.ensures in
    second_hit (list_any t xs) (list_any t ys) (list_any t zs) (list_any t (xs ++ (ys ++ zs))) whole
    (sym c.is_number.ensures ∙ c.if-is_number.false) (sym told ∙ c.if-is_choice.true)

pub returns : goal.returns
returns c =
    let v = c.args.p.now.vars.now in
    let xs = map number_of (option_to_list v.cycle) in
    let ys = map number_of v.choices in
    let zs = result_vars c.args.m.now (operation_of c.args.p.now) in
    let t = (nat_eq c.args.v.0) in
    let whole = any_parts t xs ys zs in
    let told = rw c.as_slice.ensures at c.is_choice.ensures in
    c.is_result.ensures ∙ third_hit (list_any t xs) (list_any t ys) (list_any t zs) (list_any t (xs ++ (ys ++ zs))) whole
    (sym c.is_number.ensures ∙ c.if-is_number.false) (sym told ∙ c.if-is_choice.false)
