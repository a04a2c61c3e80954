-- Saved values in slots over several blocks. A block that is neither the entry nor returns has no copies of the saved values: each stays
-- where it is from the block's start to its end. A call in it keeps fewer registers than there are such values, so in every solution one
-- of them is in a slot all along. A block from which an edge leads there hands that value over in the slot, and one to which an edge
-- leads from there takes it in the slot. Where such a block keeps its saved values in their places too, it has that one in the slot all
-- along, and so on; the entry, in which no value begins in a slot, spills it, and a block that reads all saved values in registers
-- reloads it.
use Rattle.std.specs.Prelude.{ℕ, zero, suc, ◌==◌, nat_lt, Bool, true, false, ◌&&◌, if◌then◌else◌, List, [], ◌∷◌, map, fold, drop, length}
use Rattle.std.specs.Prelude.{slice_index_or, slice_set}
use Rattle.std.specs.List.{list_any, list_all}
use Rattle.un_base.specs.declared.ids.TempId.{TempId}
use Rattle.un_isa.specs.Registers.{callee_saved}
use Rattle.un_ir.specs.Extended.{one_if}
use Rattle.un_ir.specs.Kinds.{is_call_kind}
use Rattle.un_ir.specs.Linear.{first_of, is_out}
use Rattle.un_ir.specs.Live.{targets_of}
use Rattle.un_ir.specs.declared.extended.ExtBlock.{ExtBlock}
use Rattle.un_ir.specs.declared.extended.ExtOp.{ExtOp}
use Rattle.un_ir.specs.declared.extended.Operand.{Operand}
use Rattle.un_model.specs.Congruences.{term_of, live_in_temps}
use Rattle.un_model.specs.Pairs.{joined, places_from}
use Rattle.un_model.specs.declared.model.Model.{Model}
use Rattle.un_sites.specs.Crossings.{reads_value}
use Rattle.un_sites.specs.Places.{Place}
use Rattle.un_sites.specs.declared.edges.Accesses.{Accesses}
use Rattle.un_sites.specs.declared.edges.Edge.{Edge}

-- ---- edges

abbrev pub edge : ℕ → ℕ → Edge
edge k l = record { from = k; to = l }

-- the edges that leave block k
abbrev pub edges_from : ℕ → ExtBlock → List Edge
edges_from k a = map (edge k) (targets_of k (term_of a.ops))

-- those of all blocks
abbrev pub edges_between : List ExtBlock → List Edge
edges_between blocks = joined (places_from edges_from 0 blocks)

-- ---- the saved values of a block

-- those that it takes, behind the values of its names
abbrev pub saved_in : ExtBlock → List TempId
saved_in b = drop (length b.live_in) (live_in_temps b.ops)

-- what a block's end reads
abbrev pub end_operands : List ExtOp → List Operand
end_operands [] = []
end_operands (op ∷ ops) = if is_out op.kind then op.operands else end_operands ops

-- those that it hands over
abbrev pub saved_out : ExtBlock → List Operand
saved_out b = drop (length b.live_out) (end_operands b.ops)

-- an operand reads this temporary, and may choose no other
abbrev pub reads_alone : TempId → Operand → Bool
reads_alone t x = length x.alts == 1 && first_of x.alts == t.0

-- operands read these temporaries alone, one after another
abbrev pub read_alone : List TempId → List Operand → Bool
read_alone [] xs = true
read_alone (t ∷ ts) [] = false
read_alone (t ∷ ts) (x ∷ xs) = reads_alone t x && read_alone ts xs

-- a block hands its saved values over where it takes them
abbrev pub keeps_places : ExtBlock → Bool
keeps_places b = read_alone (saved_in b) (saved_out b)

abbrev pub has_call : ExtBlock → Bool
has_call b = list_any (λ (op : ExtOp). is_call_kind op.kind) b.ops

-- and a call in it keeps only so many registers, which are fewer: one of them is in a slot
abbrev pub is_crowded : ℕ → ExtBlock → Bool
is_crowded kept b = has_call b && (nat_lt kept (length (saved_in b)) && keeps_places b)

-- ---- all blocks

abbrev pub is_marked : List Bool → ℕ → Bool
is_marked marks k = slice_index_or marks k false

-- block l is marked where block k is, if it keeps its saved values in their places
abbrev pub marked_from : List Bool → ℕ → ℕ → List Bool → List Bool
marked_from keeping k l marks = if is_marked marks k && is_marked keeping l then slice_set marks l true else marks

-- an edge carries a mark on, and back
abbrev pub marked_over : List Bool → List Bool → Edge → List Bool
marked_over keeping marks e = marked_from keeping e.to e.from (marked_from keeping e.from e.to marks)

-- so do all edges, again and again
abbrev pub marked_after : ℕ → List Bool → List Edge → List Bool → List Bool
marked_after zero keeping edges marks = marks
marked_after (suc n) keeping edges marks = marked_after n keeping edges (fold (marked_over keeping) marks edges)

-- whether each block has a saved value in a slot: by a call in it, or by one in a block to which edges join it over others that keep their
-- saved values in their places
abbrev pub crowded_in : ℕ → List ExtBlock → List Bool
crowded_in kept blocks =
    marked_after (length blocks) (map keeps_places blocks) (edges_between blocks) (map (is_crowded kept) blocks)

abbrev pub crowded_of : Model → List Bool
crowded_of m = crowded_in (length (callee_saved m.ext.table)) m.ext.blocks

-- an edge leads from block k to one that is marked, or from one that is to block k
abbrev pub leads_there : List Bool → List Edge → ℕ → Bool
leads_there marks edges k = list_any (λ (e : Edge). e.from == k && is_marked marks e.to) edges

abbrev pub comes_from : List Bool → List Edge → ℕ → Bool
comes_from marks edges k = list_any (λ (e : Edge). e.to == k && is_marked marks e.from) edges

-- a block with these operations reads each saved value that it takes in a register
abbrev pub reads_saved : ExtBlock → List Place → Bool
reads_saved b ps = list_all (λ (t : TempId). list_any (reads_value true t.0) ps) (saved_in b)

-- what block k, which is b, owes for these blocks
abbrev pub owed_by : List Bool → List Edge → ℕ → ExtBlock → List Place → Accesses
owed_by crowded edges k b ps = record {
  spills = one_if (k == 0 && leads_there crowded edges k);
  reloads = one_if (comes_from crowded edges k && reads_saved b ps);
}
