use Rattle.std.proofs.Common.{◌++◌, ◌∙◌, codes, map, get_or, ap, refl, append_assoc}
use Rattle.std.specs.List.{flat_map}
use Rattle.un_ir.specs.Text.{name_text}
use Rattle.un_ir.proofs.TextLoops.{text_step}
use Rattle.un_ir.proofs.print.put_more_names.Goals as goal

pub loop-name-preserved : goal.loop-name-preserved
loop-name-preserved c =
    let names = c.args.names.now in
    let name = get_or c.args.list.now c.loop-name.name-index (record { 0 = 0 }) in
    let more = c.in_ok-put_name.ensures ∙ ap (λ out. out ++ name_text names name) c.in_ok-put_comma.ensures
    ∙ append_assoc _ (codes ", ") (name_text names name) in
    text_step (λ list. flat_map (λ x. codes ", " ++ x) (map (name_text names) list)) (λ n. codes ", " ++ name_text names n) (λ n list. refl)
    _ _ _ c.args.list.now c.loop-name.name-index (record { 0 = 0 }) name c.loop-name-test.true refl more c.loop-name.invariant
