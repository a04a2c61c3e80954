-- What calls separate in a small block: a call that gives a value, a truth value that a jump reads, a call with arguments, the end.
use Rattle.std.proofs.Common.{◌≡◌, ℕ, List, [], ◌∷◌, Some, None, true, pos, refl}
use Rattle.un_base.specs.declared.ids.TempId.{TempId}
use Rattle.un_isa.specs.Hexagon.{HEXAGON}
use Rattle.un_isa.specs.Versions.{FRESH}
use Rattle.un_isa.specs.declared.op.Op.{Op}
use Rattle.un_isa.specs.declared.op.Op.TheVariants.{Call, CmpEqi, Mux}
use Rattle.un_ir.specs.declared.function.Term.TheVariants.{Branch}
use Rattle.un_ir.specs.declared.extended.ExtKind.{ExtKind}
use Rattle.un_ir.specs.declared.extended.ExtKind.TheVariants.{Out, Body, End}
use Rattle.un_ir.specs.declared.extended.Operand.{Operand}
use Rattle.un_model.specs.Arcs.{arc}
use Rattle.un_model.specs.Variables.{var_at}
use Rattle.un_prop.specs.declared.act.Act.TheVariants.{Always}
use Rattle.un_prop.specs.declared.act.At.TheVariants.{Var}
use Rattle.un_sites.specs.CallBefores.{call_befores_by}
use Rattle.un_kinds.specs.Constraints.{Constraint, Before}
use Rattle.un_sites.specs.Places.{Place}

abbrev source : Op → ExtKind
source op = Body (record { op = op; dst = None; srcs = []; imm = pos 0; callee = None })

abbrev temp : ℕ → TempId
temp n = record { 0 = n }

-- an operand that reads a temporary anywhere, and at a register
abbrev anywhere : ℕ → Operand
anywhere n = record { alts = temp n ∷ []; home = None }

abbrev at : ℕ → ℕ → Operand
at r n = record { alts = temp n ∷ []; home = Some (record { 0 = r }) }

-- operation n, which has its cycle in variable n, of a block with its end in variable 9
abbrev place : ℕ → ExtKind → List Operand → List TempId → Place
place n kind operands results = record {
  block = 0;
  end = var_at 9;
  op = n;
  it = record { kind = kind; operands = operands; results = results };
  vars = record { instr = None; cycle = Some (var_at n); choices = [] };
}

-- the call gives temporary 7
abbrev first_call : Place
first_call = place 1 (source Call) [] (temp 7 ∷ [])

abbrev waits : ℕ → ℕ → ℕ → Constraint
waits c u gap = Before (Var (var_at c)) Always (Var (var_at u)) Always gap

-- a choice by a truth value, which the call reaches by an arc, and a jump, which ends the block
truths : call_befores_by HEXAGON (arc 1 2 1 ∷ [])
    (first_call ∷ place 2 (source Mux) (anywhere 3 ∷ anywhere 7 ∷ anywhere 7 ∷ []) (temp 8 ∷ []) ∷
    place 3 (End (Branch (record { 0 = 0 }) true (record { 0 = 0 }))) (anywhere 3 ∷ []) [] ∷ []) ≡ waits 1 2 2 ∷ waits 1 3 2 ∷ []
truths = refl

-- a comparison, and a jump that reads this temporary: it may test fresh what a comparison of its block gives, and waits for all else
abbrev jump : ℕ → List Constraint
jump n = call_befores_by FRESH (arc 1 2 1 ∷ []) (first_call ∷ place 2 (source CmpEqi) (anywhere 7 ∷ []) (temp 8 ∷ []) ∷
    place 3 (End (Branch (record { 0 = 0 }) true (record { 0 = 0 }))) (anywhere n ∷ []) [] ∷ [])

fresh_jump : jump 8 ≡ waits 1 3 1 ∷ []
fresh_jump = refl

other_jump : jump 3 ≡ waits 1 3 2 ∷ []
other_jump = refl

-- no truth value is read, or what reads it is not behind the call for sure
no_truths : call_befores_by HEXAGON (arc 1 2 1 ∷ []) (first_call ∷ place 2 (source CmpEqi) (anywhere 7 ∷ []) (temp 8 ∷ []) ∷
    place 4 (source Mux) (anywhere 8 ∷ anywhere 7 ∷ anywhere 7 ∷ []) (temp 9 ∷ []) ∷ []) ≡ []
no_truths = refl

-- a call whose argument is what the call before gives, in its register, and one that has it in another one; the end of a block that
-- hands it back, and one that hands back something else
abbrev calls : List Operand → List Operand → List Constraint
calls xs ys = call_befores_by HEXAGON (arc 1 2 1 ∷ []) (first_call ∷ place 2 (source Call) xs (temp 8 ∷ []) ∷ place 3 Out ys [] ∷ [])

own_results : calls (at 0 7 ∷ []) (at 0 8 ∷ at 16 4 ∷ []) ≡ []
own_results = refl

other_results : calls (at 0 5 ∷ at 1 7 ∷ []) (at 0 7 ∷ at 16 4 ∷ []) ≡ waits 1 2 2 ∷ waits 2 9 2 ∷ []
other_results = refl

-- five arguments are more than a packet writes
five_arguments : calls (at 0 2 ∷ at 1 3 ∷ at 2 4 ∷ at 3 5 ∷ at 4 6 ∷ []) (at 0 8 ∷ []) ≡ waits 1 2 3 ∷ []
five_arguments = refl

four_arguments : calls (at 0 7 ∷ at 1 3 ∷ at 2 4 ∷ at 3 5 ∷ at 4 6 ∷ []) (at 0 8 ∷ []) ≡ waits 1 2 2 ∷ []
four_arguments = refl
