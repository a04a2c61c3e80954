-- What is posted of the registers, the calls and the packets of each block, and of each two operands of an operation.
use Rattle.std.specs.Prelude.{ℕ, ◌+◌, ◌==◌, Bool, not, ◌&&◌, ◌||◌, fold, List, [], ◌∷◌, ◌++◌, Option, Some, None, map, filter}
use Rattle.std.specs.Prelude.{slice_get, if◌then◌else◌, nat_lt}
use Rattle.un_base.specs.declared.ids.TempId.{TempId}
use Rattle.un_base.specs.declared.ids.VarId.{VarId}
use Rattle.un_isa.specs.declared.op.Op.{Op}
use Rattle.un_isa.specs.declared.table.Table.{Table}
use Rattle.un_ir.specs.Linear.{first_of, is_in}
use Rattle.un_domains.specs.Sets.{has}
use Rattle.un_ir.specs.declared.extended.ExtKind.{ExtKind}
use Rattle.un_ir.specs.declared.extended.ExtKind.TheVariants.{Body}
use Rattle.un_ir.specs.declared.extended.Operand.{Operand}
use Rattle.un_ir.specs.declared.extended.ExtBlock.{ExtBlock}
use Rattle.un_model.specs.declared.model.Arc.{Arc}
use Rattle.un_model.specs.declared.model.Model.{Model}
use Rattle.un_model.specs.declared.model.BlockVars.{BlockVars}
use Rattle.un_model.specs.Instructions.{needs_by, space_read}
use Rattle.un_model.specs.Pairs.{places_from, joined, over_blocks}
use Rattle.un_prop.specs.declared.act.Temp.{Temp}
use Rattle.un_prop.specs.declared.act.UserOf.{UserOf}
use Rattle.un_rect.specs.Operands.{Side}
use Rattle.un_rect.specs.declared.clobber.ClobberCall.{ClobberCall}
use Rattle.un_slots.specs.declared.item.Item.{Item}
use Rattle.un_sites.specs.Places.{Place, Definer, act_of, time_of, by_number, block_places, definers_of, definer_or, definers_at}
use Rattle.un_ir.specs.Kinds.{ends_block, is_call_kind, issues_kind}
use Rattle.un_sites.specs.Postings.{over_places, registers_in, registers_of, cycle_var, with_kind}
use Rattle.un_kinds.specs.Constraints.{Constraint, Apart, Clobber, Operands, PerCycle}

-- ---- users

-- the operand with this choice reads temporary t where it chooses the place where t stands
abbrev pub user_if : TempId → Place → Option VarId → ℕ → TempId → List UserOf
user_if t p choice i y = if y.0 == t.0 then record { on = act_of p; at = time_of p; choice = choice; value = i } ∷ [] else []

-- the users of t of an operand at place j of an operation, of an operation, and of several
abbrev pub operand_users : TempId → Place → ℕ → Operand → List UserOf
operand_users t p j operand = joined (places_from (user_if t p (slice_get p.vars.choices j)) 0 operand.alts)

abbrev pub place_users : TempId → Place → List UserOf
place_users t p = joined (places_from (operand_users t p) 0 p.it.operands)

abbrev pub users_of : List Place → TempId → List UserOf
users_of ps t = joined (map (place_users t) ps)

-- ---- temporaries

-- a temporary with the definer that it has, used by these operations
abbrev pub temp_by : List Place → TempId → Definer → Temp
temp_by ps t d = record { on = act_of d.place; at = time_of d.place; reg = d.reg; users = users_of ps t }

abbrev pub temp_at : List Definer → List Place → TempId → Temp
temp_at ds ps t = temp_by ps t (definer_or (slice_get ds t.0))

-- the temporaries that these operations define, in order
abbrev pub temps_in : List Place → List TempId
temps_in ps = joined (map (λ (p : Place). p.it.results) ps)

-- one block after another: no two of its temporaries share a register in a cycle
abbrev pub apart_in : List Definer → ℕ → ℕ → ExtBlock → BlockVars → List Constraint
apart_in ds b n block vars = let ps : List Place = block_places b n block vars in Apart (map (temp_at ds ps) (temps_in ps)) ∷ []

abbrev pub aparts_of : Model → List Constraint
aparts_of m = over_blocks (apart_in (definers_of m)) 0 0 m.ext.blocks m.blocks

-- ---- calls

-- an arc leads on from what is reached
abbrev pub led_by : List ℕ → Arc → List ℕ
led_by reached a = if has reached a.from.0 then a.to.0 ∷ reached else reached

-- the operations that operation n reaches by arcs, which stand by rising ends, and itself
abbrev pub reached : List Arc → ℕ → List ℕ
reached arcs n = fold led_by (n ∷ []) arcs

-- an arc with a gap leads from what is reached to what waits, and each arc on from that
abbrev pub waits_by : List ℕ → List ℕ → Arc → List ℕ
waits_by reached late a = if has late a.from.0 || (nat_lt 0 a.gap && has reached a.from.0) then a.to.0 ∷ late else late

-- the operations that issue after operation n, whatever the cycles: it reaches them by arcs of which one has a gap
abbrev pub waiting : List Arc → ℕ → List ℕ
waiting arcs n = fold (waits_by (reached arcs n)) [] arcs

-- a temporary is defined before a call, whatever the cycles: at the block's start, or by what reaches the call
abbrev pub is_before : List Arc → Place → Place → Bool
is_before arcs definer call = is_in definer.it.kind || has (reached arcs definer.op) call.op

-- an operation is behind a call, whatever the cycles: what ends the block, and what the call reaches
abbrev pub is_behind : List Arc → Place → Place → Bool
is_behind arcs call p = ends_block p.it.kind || (not (p.op == call.op) && has (reached arcs call.op) p.op)

abbrev pub call_at : List Arc → List Place → TempId → Place → Place → ClobberCall
call_at arcs ps t definer call = record {
  at = cycle_var call;
  before = is_before arcs definer call;
  behind = users_of (filter (is_behind arcs call) ps) t;
}

-- the calls among these operations, but the one of which the temporary is the result
abbrev pub calls_but : ℕ → List Place → List Place
calls_but n ps = filter (λ (p : Place). is_call_kind p.it.kind && not (p.op == n)) ps

-- the calls of a temporary's block spare it
abbrev pub spared_by : ℕ → List Arc → List Place → TempId → Definer → Constraint
spared_by clobbered arcs ps t d = Clobber clobbered (temp_by ps t d) (map (call_at arcs ps t d.place) (calls_but d.place.op ps))

abbrev pub spared_at : ℕ → List Arc → List Definer → List Place → TempId → Constraint
spared_at clobbered arcs ds ps t = spared_by clobbered arcs ps t (definer_or (slice_get ds t.0))

abbrev pub arcs_or : Option (List Arc) → List Arc
arcs_or None = []
arcs_or (Some arcs) = arcs

abbrev pub spared_in : ℕ → List (List Arc) → List Definer → ℕ → ℕ → ExtBlock → BlockVars → List Constraint
spared_in clobbered arcs ds b n block vars =
    let ps : List Place = block_places b n block vars in map (spared_at clobbered (arcs_or (slice_get arcs b)) ds ps) (temps_in ps)

abbrev pub clobbers_of : Model → List Constraint
clobbers_of m = over_blocks (spared_in m.ext.table.clobbered m.arcs (definers_of m)) 0 0 m.ext.blocks m.blocks

-- ---- packets

abbrev pub item_of : Table → Place → Item
item_of t p = record { on = act_of p; at = cycle_var p; uses = by_number (needs_by t) p.it.kind }

-- the packets of a block have room for what its operations issue
abbrev pub packets_in : Table → ℕ → ℕ → ExtBlock → BlockVars → List Constraint
packets_in t b n block vars = PerCycle (map (item_of t) (with_kind issues_kind (block_places b n block vars))) block.horizon ∷ []

abbrev pub packets_of : Model → List Constraint
packets_of m = over_blocks (packets_in m.ext.table) 0 0 m.ext.blocks m.blocks

-- ---- two operands of one operation

-- what f gives of each two of a list, with their places, counted from i
abbrev pub each_two : {A B : Type 0} → (ℕ → A → ℕ → A → List B) → ℕ → List A → List B
each_two f i [] = []
each_two f i (x ∷ xs) = joined (places_from (f i x) (i + 1) xs) ++ each_two f (i + 1) xs

-- the operand at place j of an instruction, with the registers of the space that is asked for
abbrev pub operand_side : ℕ → List Definer → Op → ℕ → VarId → Operand → Side
operand_side k ds instr j choice operand = record {
  choice = choice;
  regs = registers_of (definers_at ds operand.alts);
  allowed = registers_in k (space_read (Some instr) j);
}

-- two operands of the source's operations
abbrev pub two_by : ℕ → List Definer → ExtKind → ℕ → Operand → Option VarId → ℕ → Operand → Option VarId → List Constraint
two_by k ds (Body o) i a (Some c) j b (Some d) = Operands (operand_side k ds o.op i c a) (operand_side k ds o.op j d b) ∷ []
two_by k ds kind i a c j b d = []

-- they read one value where their first alternatives are the same
abbrev pub one_value : Operand → Operand → Bool
one_value a b = first_of a.alts == first_of b.alts

-- two operands that read different values have different registers
abbrev pub two_at : ℕ → List Definer → Place → ℕ → Operand → ℕ → Operand → List Constraint
two_at k ds p i a j b =
    if one_value a b then [] else two_by k ds p.it.kind i a (slice_get p.vars.choices i) j b (slice_get p.vars.choices j)

abbrev pub twos_in : ℕ → List Definer → Place → List Constraint
twos_in k ds p = each_two (two_at k ds p) 0 p.it.operands

abbrev pub twos_of : Model → List Constraint
twos_of m = over_places (twos_in m.options.slots (definers_of m)) m

-- ---- all of these

abbrev pub rooms_of : Model → List Constraint
rooms_of m = aparts_of m ++ (clobbers_of m ++ (packets_of m ++ twos_of m))
