-- What is posted of what calls separate. A call leaves nothing in the registers that it clobbers but its own result, so an
-- operation behind it that reads such a register waits for an instruction that writes the register after the call.
use Rattle.std.specs.Prelude.{ℕ, ◌+◌, ◌==◌, nat_lt, Bool, false, not, ◌&&◌, ◌||◌, List, [], ◌∷◌, Option, Some, None, map}
use Rattle.std.specs.Prelude.{filter, slice_get, if◌then◌else◌}
use Rattle.std.specs.List.{list_any}
use Rattle.un_base.specs.declared.ids.TempId.{TempId}
use Rattle.un_isa.specs.Does.{is_compare}
use Rattle.un_isa.specs.Tables.{in_mask}
use Rattle.un_isa.specs.declared.packet_counts.TheConstants.{PACKET}
use Rattle.un_isa.specs.declared.reg.Reg.{Reg}
use Rattle.un_isa.specs.declared.table.Table.{Table}
use Rattle.un_ir.specs.Linear.{first_of}
use Rattle.un_ir.specs.declared.extended.ExtKind.{ExtKind}
use Rattle.un_ir.specs.declared.extended.ExtKind.TheVariants.{Body}
use Rattle.un_ir.specs.declared.extended.Operand.{Operand}
use Rattle.un_ir.specs.declared.extended.ExtBlock.{ExtBlock}
use Rattle.un_model.specs.declared.model.Arc.{Arc}
use Rattle.un_model.specs.declared.model.Model.{Model}
use Rattle.un_model.specs.declared.model.BlockVars.{BlockVars}
use Rattle.un_ir.specs.Kinds.{is_mandatory, is_call_kind}
use Rattle.un_model.specs.Instructions.{instruction_of, space_read, is_predicate_space}
use Rattle.un_model.specs.Solutions.{least_wait}
use Rattle.un_model.specs.Pairs.{any_from, places_from, joined, over_blocks}
use Rattle.un_model.specs.Variables.{count_if}
use Rattle.un_prop.specs.declared.act.Act.TheVariants.{Always}
use Rattle.un_kinds.specs.Constraints.{Constraint, Before}
use Rattle.un_sites.specs.Places.{Place, time_of, block_places}
use Rattle.un_sites.specs.Postings.{with_kind}
use Rattle.un_sites.specs.Rooms.{arcs_or, is_behind}

-- ---- an operand

-- a home that calls clobber
abbrev pub is_clobbered_home : ℕ → Option Reg → Bool
is_clobbered_home clobbered None = false
is_clobbered_home clobbered (Some r) = in_mask clobbered r.0

-- an operand is in a register that calls clobber, whichever it is: a predicate register, or its home
abbrev pub reads_clobbered : ℕ → ExtKind → ℕ → Operand → Bool
reads_clobbered clobbered kind j x = is_predicate_space (space_read (instruction_of kind 0) j) || is_clobbered_home clobbered x.home

abbrev pub is_home : ℕ → Option Reg → Bool
is_home reg None = false
is_home reg (Some r) = r.0 == reg

-- it reads what a call gives, in the register in which the call gives it
abbrev pub reads_reply : ℕ → Place → Operand → Bool
reads_reply reg c x = list_any (λ (y : TempId). y.0 == first_of x.alts) c.it.results && is_home reg x.home

-- what it reads has to be written after a call
abbrev pub reads_anew : Table → Place → ExtKind → ℕ → Operand → Bool
reads_anew t c kind j x = reads_clobbered t.clobbered kind j x && not (reads_reply t.result c x)

-- ---- an operation behind a call

-- an operation that every solution issues has such an operand
abbrev pub waits_anew : Table → Place → Place → Bool
waits_anew t c u = is_mandatory u.it.kind && any_from (reads_anew t c u.it.kind) 0 u.it.operands

-- how many places, counted from i, pass
abbrev pub count_from : {A : Type 0} → (ℕ → A → Bool) → ℕ → List A → ℕ
count_from p i [] = 0
count_from p i (x ∷ xs) = count_if (p i x) + count_from p (i + 1) xs

-- how many of its operands are such
abbrev pub anew_count : Table → Place → Place → ℕ
anew_count t c u = count_from (reads_anew t c u.it.kind) 0 u.it.operands

-- ---- what writes such an operand

abbrev pub is_comparison : ExtKind → Bool
is_comparison (Body o) = is_compare o.op
is_comparison _ = false

-- an operation is a comparison that gives what an operand reads
abbrev pub compares : Operand → Place → Bool
compares x p = is_comparison p.it.kind && list_any (λ (y : TempId). y.0 == first_of x.alts) p.it.results

-- an operand reads what a comparison among these operations gives
abbrev pub reads_compared : List Place → ℕ → Operand → Bool
reads_compared ps j x = list_any (compares x) ps

-- how long an operation waits for what writes its operands, at least: only what a comparison of its block gives may be tested fresh
abbrev pub own_wait : Table → List Place → Place → ℕ
own_wait t ps u = if any_from (reads_compared ps) 0 u.it.operands then least_wait t (instruction_of u.it.kind 0) else 1

-- What writes such an operand is at least one cycle after the call, and as long before the operation as that waits at least. The
-- arguments of a call are in different registers, so where more of them have to be written than a packet has places, another cycle lies
-- between.
abbrev pub anew_gap : Table → List Place → Place → Place → ℕ
anew_gap t ps c u = if is_call_kind u.it.kind && nat_lt PACKET (anew_count t c u) then 3 else 1 + own_wait t ps u

abbrev pub anew_after : Table → List Place → Place → Place → List Constraint
anew_after t ps c u = if waits_anew t c u then Before (time_of c) Always (time_of u) Always (anew_gap t ps c u) ∷ [] else []

-- behind a call, but not behind the next one: what is behind that waits for more
abbrev pub is_between : List Arc → Place → Option Place → Place → Bool
is_between arcs c None u = is_behind arcs c u
is_between arcs c (Some d) u = is_behind arcs c u && not (is_behind arcs d u)

abbrev pub of_call : Table → List Arc → List Place → Option Place → Place → List Constraint
of_call t arcs ps next c = joined (map (anew_after t ps c) (filter (is_between arcs c next) ps))

-- the call at place i among these
abbrev pub of_call_at : Table → List Arc → List Place → List Place → ℕ → Place → List Constraint
of_call_at t arcs ps calls i c = of_call t arcs ps (slice_get calls (i + 1)) c

-- one call of a block after another
abbrev pub of_calls : Table → List Arc → List Place → List Place → List Constraint
of_calls t arcs ps calls = joined (places_from (of_call_at t arcs ps calls) 0 calls)

abbrev pub call_befores_by : Table → List Arc → List Place → List Constraint
call_befores_by t arcs ps = of_calls t arcs ps (with_kind is_call_kind ps)

abbrev pub call_befores_in : Table → List (List Arc) → ℕ → ℕ → ExtBlock → BlockVars → List Constraint
call_befores_in t arcs b n block vars = call_befores_by t (arcs_or (slice_get arcs b)) (block_places b n block vars)

-- ---- all of a model

abbrev pub call_befores_of : Model → List Constraint
call_befores_of m = over_blocks (call_befores_in m.ext.table m.arcs) 0 0 m.ext.blocks m.blocks
