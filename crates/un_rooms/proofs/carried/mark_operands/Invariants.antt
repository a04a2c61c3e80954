use Rattle.std.proofs.Common.{ℕ, ◌≡◌, ◌||◌, drop}
use Rattle.std.specs.Prelude.{◌==◌, ◌&&◌}
use Rattle.std.specs.List.{list_any}
use Rattle.un_ir.specs.Linear.{first_of}
use Rattle.un_ir.specs.declared.extended.Operand.{Operand}
use Rattle.un_rooms.specs.Marked.{is_marked}
use Rattle.un_sites.specs.Crossings.{is_asked}
use Rattle.un_rooms.proofs.carried.mark_operands.Given as goal

-- those of the operands behind remain
abbrev pub invariant-loop-x : goal.invariant-loop-x
invariant-loop-x l = (n : ℕ)
    → (is_marked l.marks.items n || list_any (λ (x : Operand). first_of x.alts == n && is_asked l.in_register l.kind x) (drop l.x-index l.operands))
    ≡ (is_marked l.initial.marks.items n || list_any (λ (x : Operand). first_of x.alts == n && is_asked l.in_register l.kind x) l.operands)
