use Rattle.std.proofs.Common.{arith}
use Rattle.std.proofs.lemmas.Grind.{common_steps}
use Rattle.un_ir.specs.Text.{name_text}
use Rattle.un_ir.proofs.Commas.{spaced-map}
use Rattle.un_ir.proofs.print.put_names.Goals as goal

pub returns-in_ok-put_first-in-len1-up : goal.returns-in_ok-put_first-in-len1-up
returns-in_ok-put_first-in-len1-up c =
    grind (arith, common_steps, spaced-map (name_text c.args.names.now) c.args.list.now (record { 0 = 0 }) c.in-len1-up.len_at_least)
