-- Under options that a model may have, a copy's registers are those of the value that it carries: register 0, which an inactive
-- copy has, is assignable.
use Rattle.std.proofs.Common.{◌≡◌, ℕ, Bool, true, Option, Some, None, List, ◌∷◌, refl, ap, arith}
use Rattle.std.proofs.lemmas.Bool.Decides.{nat_tests}
use Rattle.un_base.specs.declared.ids.TempId.{TempId}
use Rattle.un_ir.specs.declared.extended.ExtBlock.{ExtBlock}
use Rattle.un_ir.specs.declared.extended.Ext.{Ext}
use Rattle.un_domains.specs.declared.domain.Domain.TheVariants.{Set}
use Rattle.un_model.specs.declared.model.Options.{Options}
use Rattle.un_model.specs.Options.{AreOptions, IsCountOfRegisters}
use Rattle.un_model.specs.Registers.{is_assignable, general_registers, value_registers, is_home, is_truth, predicate_registers, slots_of}
use Rattle.un_model.specs.Registers.{begins_with_zero, with_zero}
use Rattle.un_model.specs.Variables.{copy_registers}
use Rattle.std.specs.Prelude.{IfSome, filter, if◌then◌else◌, ◌||◌, ◌++◌, []}
use Rattle.std.specs.List.{range_with_len}

zero_assignable : (regs : Option ℕ) → IfSome regs IsCountOfRegisters → is_assignable regs 0 ≡ true
zero_assignable None h = refl
zero_assignable (Some n) h = grind (arith, nat_tests, h.0)

head_kept : (p : ℕ → Bool) (xs ys zs : List ℕ) → p 0 ≡ true → begins_with_zero (filter p (0 ∷ xs) ++ ys ++ zs) ≡ true
head_kept p xs ys zs h = rw h refl

begins : (e : Ext) (regs : Option ℕ) (slots : ℕ) (is_entry : Bool) (block : ExtBlock) (x : TempId) → is_assignable regs 0 ≡ true
    → begins_with_zero (value_registers e regs slots is_entry block x) ≡ true
unfolding general_registers
begins e regs slots is_entry block x h =
    head_kept (λ (r : ℕ). is_assignable regs r || is_home e.table is_entry block x r) (range_with_len 1 31)
    (if is_truth e.names block x then predicate_registers else []) (slots_of slots)
    (ap (λ (b : Bool). b || is_home e.table is_entry block x 0) h)

with_zero_same : (registers : List ℕ) → begins_with_zero registers ≡ true → with_zero registers ≡ registers
with_zero_same registers h = rw h refl

pub copies_reach : (e : Ext) (o : Options) (is_entry : Bool) (block : ExtBlock) (y : TempId) → AreOptions o
    → copy_registers e o is_entry block y ≡ Set (value_registers e o.regs o.slots is_entry block y)
copies_reach e o is_entry block y h =
    ap (λ (rs : List ℕ). Set rs) (with_zero_same (value_registers e o.regs o.slots is_entry block y)
    (begins e o.regs o.slots is_entry block y (zero_assignable o.regs h.regs)))
