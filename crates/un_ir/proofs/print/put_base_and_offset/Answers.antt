use Rattle.std.proofs.Common.{arith}
use Rattle.std.proofs.lemmas.Grind.{common_steps}
use Rattle.un_ir.specs.Text.{name_text, literal_text}
use Rattle.un_ir.proofs.Commas.{spaced-map-offset}
use Rattle.un_ir.proofs.print.put_base_and_offset.Goals as goal

pub returns-in_ok-put_next_literal-in-len1-up : goal.returns-in_ok-put_next_literal-in-len1-up
returns-in_ok-put_next_literal-in-len1-up c =
    grind (
      arith,
      common_steps,
      spaced-map-offset (name_text c.args.names.now) c.args.list.now (record { 0 = 0 })
          (literal_text c.args.o.now) c.in-len1-up.len_at_least,
    )
