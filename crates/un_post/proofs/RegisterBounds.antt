-- The registers of results: none is past the last slot, and what the source defines has registers of its space.
use Rattle.std.proofs.Common.{ℕ, ◌≡◌, ◌+◌, ◌<◌, ◌≤◌, Bool, true, false, List, [], ◌∷◌, map, refl, arith}
use Rattle.std.specs.Prelude.{Option, Some, None, slice_get, if◌then◌else◌}
use Rattle.std.specs.Option.{option_to_list}
use Rattle.un_base.specs.declared.ids.TempId.{TempId}
use Rattle.un_isa.specs.Facts.{is_source, result_space}
use Rattle.un_isa.specs.Fit.{IsFit}
use Rattle.un_isa.specs.declared.op.Op.{Op}
use Rattle.un_isa.specs.declared.op.Op.TheVariants.{Imm, Call, Spill}
use Rattle.un_isa.specs.declared.reg.Reg.{Reg}
use Rattle.un_isa.specs.declared.reg.Space.{Space}
use Rattle.un_isa.specs.declared.reg.Space.TheVariants.{R, P, M}
use Rattle.un_isa.specs.declared.reg.TheConstants.{FIRST_SLOT, REGISTERS}
use Rattle.un_ir.specs.declared.extended.ExtKind.{ExtKind}
use Rattle.un_ir.specs.declared.extended.ExtKind.TheVariants.{In, Out, Body, End, Copy, Enter, Leave}
use Rattle.un_ir.specs.declared.extended.ExtBlock.{ExtBlock}
use Rattle.un_ir.specs.declared.extended.Ext.{Ext}
use Rattle.un_domains.specs.declared.domain.Domain.TheVariants.{Set}
use Rattle.un_model.specs.declared.model.Options.{Options}
use Rattle.un_model.specs.Instructions.{result_space_in, gives_truth, is_predicate_space}
use Rattle.un_model.specs.Registers.{start_home, general_registers, value_registers, predicate_registers, with_zero}
use Rattle.un_model.specs.Solutions.{InDomain, InSpace}
use Rattle.un_model.specs.Variables.{register_domain, source_domain}
use Rattle.un_lists.proofs.Lists.{Each, each_member}
use Rattle.un_model.proofs.Operations.{contains_member}
use Rattle.un_root.proofs.RegisterBounds.{Below, HomeBelow, start_below, result_below, general_below, predicates_below, values_below}
use Rattle.un_root.proofs.RegisterBounds.{zero_below, below_more}
use Rattle.un_post.proofs.SpaceSets.{general, predicate}

homes_below : (home : Option Reg) → HomeBelow home → Below 32 (map (λ (r : Reg). r.0) (option_to_list home))
homes_below None h = tt
homes_below (Some r) h = (h, tt)

in_set : (Q : ℕ → Type 0) (vs : List ℕ) (v : ℕ) → Each Q vs → InDomain v (Set vs) → Q v
in_set Q vs v h d = each_member Q vs v h (contains_member vs v d)

sources_below : (e : Ext) (o : Options) (ie : Bool) (block : ExtBlock) (op : Op) (x : TempId) (v : ℕ) → IsFit e.table
    → InDomain v (source_domain e o ie block op x) → v < REGISTERS
sources_below e o ie block Call x v fit d = let k = in_set (λ r. r < 32) ((e.table).result ∷ []) v (result_below e.table fit, tt) d in
    omega arith
sources_below e o ie block op x v fit d = in_set (λ r. r < REGISTERS)
    (if gives_truth op then predicate_registers else general_registers e o.regs
    ie block x) v (go (gives_truth op)) d
  where
    go : (b : Bool) → Below REGISTERS (if b then predicate_registers else general_registers e o.regs ie block x)
    go true = predicates_below
    go false = below_more 32 REGISTERS (general_registers e o.regs ie block x) (omega arith) (general_below e o ie block x)

-- a register of a result is at most the last slot
pub register_below : (e : Ext) (o : Options) (ie : Bool) (block : ExtBlock) (kind : ExtKind) (j : ℕ) (x y : TempId) (v : ℕ) → IsFit e.table
    → InDomain v (register_domain e o ie block kind j x y) → v < FIRST_SLOT + o.slots
register_below e o true block In j x y v fit d =
    let home = start_home e.table true block.live_in j (slice_get block.live_in j) in
    let k = in_set (λ r. r < 32) (map (λ (r : Reg). r.0) (option_to_list home)) v
    (homes_below home (start_below e.table true block.live_in j (slice_get block.live_in j) fit)) d in omega arith
register_below e o false block In j x y v fit d = in_set (λ r. r < FIRST_SLOT + o.slots) (value_registers e o.regs o.slots false block x) v
    (values_below e o false block x) d
register_below e o ie block (Body so) j x y v fit d = let k = sources_below e o ie block so.op x v fit d in omega arith
register_below e o ie block (Copy node) j x y v fit d =
    in_set (λ r. r < FIRST_SLOT + o.slots) (with_zero (value_registers e o.regs o.slots ie block y)) v
    (zero_below (FIRST_SLOT + o.slots) (value_registers e o.regs o.slots ie block y) (omega arith) (values_below e o ie block y)) d
register_below e o ie block Out j x y v fit d = let n = contains_member [] v d in elim n [ ]
register_below e o ie block (End term) j x y v fit d = let n = contains_member [] v d in elim n [ ]
register_below e o ie block Enter j x y v fit d = let n = contains_member [] v d in elim n [ ]
register_below e o ie block Leave j x y v fit d = let n = contains_member [] v d in elim n [ ]

-- ---- results of the source

-- no operation gives a slot
not_memory : (op : Op) → result_space op ≡ Some M → ⊥
not_memory Imm h = absurd (cc h)
not_memory op h = absurd (cc h)

-- a value is in a space that its domain was made for
fits : (e : Ext) (o : Options) (ie : Bool) (block : ExtBlock) (x : TempId) (v : ℕ) (space : Option Space) → (space ≡ Some M → ⊥)
    → InDomain v (Set (if is_predicate_space space then predicate_registers else general_registers e o.regs ie block x)) → InSpace v space
fits e o ie block x v None n d = tt
fits e o ie block x v (Some R) n d = let lt = in_set (λ r. r < 32) (general_registers e o.regs ie block x) v (general_below e o ie block x)
    d in (general v).1 (omega arith, omega arith)
fits e o ie block x v (Some P) n d =
    let k = in_set (λ r. (32 ≤ r) × (r < REGISTERS)) predicate_registers v
    ((omega arith, omega arith), ((omega arith, omega arith), ((omega arith, omega arith), ((omega arith, omega arith), tt)))) d in
    let lo = k.0 in let hi = k.1 in (predicate v).1 (omega arith, omega arith)
fits e o ie block x v (Some M) n d = absurd (n refl)

-- what an operation of the source gives is in its space
pub given_in_space : (e : Ext) (o : Options) (ie : Bool) (block : ExtBlock) (op : Op) (x : TempId) (v : ℕ) → IsFit e.table
    → is_source op ≡ true
    → InDomain v (source_domain e o ie block op x) → InSpace v (result_space_in op)
given_in_space e o ie block Call x v fit s d = let lt = in_set (λ r. r < 32) ((e.table).result ∷ []) v (result_below e.table fit, tt) d in
    (general v).1 (omega arith, omega arith)
given_in_space e o ie block Spill x v fit s d = absurd (cc s)
given_in_space e o ie block op x v fit s d = fits e o ie block x v (result_space op) (not_memory op) d
