use Rattle.std.proofs.Common.{ℕ, zero, suc, ◌+◌, ◌<◌, List, [], ◌∷◌, length, get_or, sym, subst, All, arith}
use Rattle.un_isa.specs.declared.reg.Reg.{Reg}
use Rattle.un_ir.specs.declared.extended.Operand.{Operand}
use Rattle.un_model.specs.Emission.{temp_register}
use Rattle.un_model.specs.Pairs.{places_from}
use Rattle.un_model.specs.Schedules.{choice_of}
use Rattle.un_emit.specs.Bounds.{IsPlace}
use Rattle.un_emit.proofs.instructions.emitted.Goals as goal

each_place : {A : Type 0} (f : ℕ → A → Reg) (i : ℕ) (xs : List A) → ((j : ℕ) (x : A) → IsPlace (f j x)) → (k : ℕ) (d : Reg)
    → k < length (places_from f i xs) → IsPlace (get_or (places_from f i xs) k d)
each_place f i [] h k d lt = absurd (omega arith)
each_place f i (x ∷ xs) h zero d lt = h i x
each_place f i (x ∷ xs) h (suc k) d lt = each_place f (i + 1) xs h k d (omega arith)

pub instr-requires-clause-operands : goal.instr-requires-clause-operands
instr-requires-clause-operands c =
    subst (All IsPlace) (sym c.in_ok-srcs.ensures)
    (each_place (λ (j : ℕ) (operand : Operand). temp_register c.args.m.now c.args.values.now
    (choice_of c.args.values.now c.args.vars.now j operand)) 0 c.args.op.now.operands (λ j x. c.requires.frame.places _))
