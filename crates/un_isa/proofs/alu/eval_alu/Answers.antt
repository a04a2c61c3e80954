use Rattle.std.proofs.Common.{rules, w32}
use Rattle.std.proofs.lemmas.Int.{to_z-of_z}
use Rattle.un_isa.proofs.Shifts.{literal_shift}
use Rattle.un_isa.proofs.alu.eval_alu.Goals as goal

pub value-requires : goal.value-requires
value-requires c =
    rw (to_z-of_z w32 c.args.imm (search rules)) (literal_shift c.args.op c.args.imm c.requires.literal)
