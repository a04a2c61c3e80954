-- What is posted of the length of a block: what it issues in every solution has room before its end, in the order that is known of it.
use Rattle.std.specs.Prelude.{ℕ, suc, ◌+◌, ◌/◌, ◌==◌, nat_lt, max, Bool, false, ◌&&◌, ◌||◌, if◌then◌else◌, List, [], ◌∷◌, length}
use Rattle.std.specs.Prelude.{map, filter, fold}
use Rattle.un_base.specs.declared.ids.VarId.{VarId}
use Rattle.un_isa.specs.Tables.{latency_of}
use Rattle.un_isa.specs.declared.op.Op.TheVariants.{Reload}
use Rattle.un_isa.specs.declared.table.Table.{Table}
use Rattle.un_ir.specs.declared.extended.ExtKind.{ExtKind}
use Rattle.un_ir.specs.declared.extended.ExtKind.TheVariants.{Out}
use Rattle.un_ir.specs.Kinds.{is_source, is_call_kind, is_mandatory, ends_block}
use Rattle.un_ir.specs.Linear.{is_out}
use Rattle.un_model.specs.Arcs.{own_instr}
use Rattle.un_model.specs.Instructions.{needs_by}
use Rattle.un_model.specs.Pairs.{joined}
use Rattle.un_model.specs.Variables.{var_at}
use Rattle.un_model.specs.declared.model.Arc.{Arc}
use Rattle.un_prop.specs.declared.act.Act.TheVariants.{Always}
use Rattle.un_prop.specs.declared.act.At.{At}
use Rattle.un_prop.specs.declared.act.At.TheVariants.{Const, Var}
use Rattle.un_length.specs.declared.block.Precedence.{Precedence}
use Rattle.un_length.specs.declared.block.Task.{Task}
use Rattle.un_kinds.specs.Constraints.{Constraint, Before, Length}
use Rattle.un_sites.specs.Crossings.{is_after, spills_at, reloads_at}
use Rattle.un_sites.specs.Places.{Place, time_of}
use Rattle.un_sites.specs.Postings.{with_kind}
use Rattle.un_sites.specs.Rooms.{is_before, is_behind, temps_in}
use Rattle.un_sites.specs.Shares.{has_leave, cycles_with}
use Rattle.un_sites.specs.declared.edges.Accesses.{Accesses}

-- ---- what a block issues

-- an operation of the source, a terminator that is issued, or the block's end
abbrev pub is_task : ExtKind → Bool
is_task kind = is_source kind || ends_block kind

-- all but the end issue before it
abbrev pub tail_of : ExtKind → ℕ
tail_of Out = 0
tail_of _ = 1

-- the variable of a time
abbrev pub var_in : At → VarId
var_in (Const n) = var_at 0
var_in (Var v) = v

-- A block has more values than registers.
abbrev pub is_full : ℕ → List Place → Bool
is_full room ps = nat_lt room (length (temps_in (with_kind is_mandatory ps)))

-- A call asks for Spills and Reloads, and in a block that has more values than registers each operation of the source.
abbrev pub is_asking : ℕ → List Place → Place → Bool
is_asking room ps p = is_call_kind p.it.kind || (is_source p.it.kind && is_full room ps)

-- It issues by no earlier cycle than its Spills have room for, of which there is one a cycle, from the one after the frame's Enter on.
abbrev pub head_by : ℕ → ℕ
head_by spills = if spills == 0 then 0 else spills + 1

-- Between it and the end its Reloads have room, of which there are two a cycle, and what they give is ready by the end.
abbrev pub tail_by : ℕ → ℕ → ℕ
tail_by latency reloads = if reloads == 0 then 1 else latency + (reloads + 1) / 2

-- What has issued by its cycle, itself among it, and its Spills issue by then.
abbrev pub cycles_by : Table → ℕ → Bool → List Arc → List Place → Place → ℕ
cycles_by t room is_entry arcs ps o =
    cycles_with t (filter (λ (d : Place). is_before arcs d o) ps) false (spills_at t room is_entry arcs ps o) 0

-- what is behind a call, and what is after another operation
abbrev pub later_than : List Arc → List Place → Place → List Place
later_than arcs ps o = if is_call_kind o.it.kind then filter (is_behind arcs o) ps else filter (is_after arcs ps o) ps

-- That and its Reloads issue between it and the end.
abbrev pub cycles_after : Table → ℕ → List Arc → List Place → Place → ℕ
cycles_after t room arcs ps o = cycles_with t (later_than arcs ps o) (has_leave ps) 0 (reloads_at t room arcs ps o)

-- the greatest of what is owed and of what those that ask for something ask for
abbrev pub most_of : ℕ → (Place → ℕ) → ℕ → List Place → ℕ
most_of owed f room ps = fold max owed (map (λ (p : Place). if is_asking room ps p then f p else 0) ps)

-- All that a block issues is before its end, with the most Spills and the most Reloads that one of its operations asks for, or with those
-- that it owes for its neighbours.
abbrev pub cycles_in : Table → ℕ → Bool → Accesses → List Arc → List Place → ℕ
cycles_in t room is_entry owed arcs ps = cycles_with t ps (has_leave ps)
    (most_of owed.spills (spills_at t room is_entry arcs ps) room ps) (most_of owed.reloads (reloads_at t room arcs ps) room ps)

-- By the end the Spills that a block owes are behind Enter, and what its Reloads give is ready.
abbrev pub owed_head : Table → Accesses → ℕ
owed_head t owed = max (head_by owed.spills + 1) (tail_by (latency_of t Reload) owed.reloads)

abbrev pub end_head : Table → ℕ → Bool → Accesses → List Arc → List Place → ℕ
end_head t room is_entry owed arcs ps = max (cycles_in t room is_entry owed arcs ps + 1) (owed_head t owed)

abbrev pub asked_head : Table → ℕ → Bool → List Arc → List Place → Place → ℕ
asked_head t room is_entry arcs ps o = max (head_by (spills_at t room is_entry arcs ps o)) (cycles_by t room is_entry arcs ps o)

abbrev pub asked_tail : Table → ℕ → List Arc → List Place → Place → ℕ
asked_tail t room arcs ps o = max (tail_by (latency_of t Reload) (reloads_at t room arcs ps o)) (cycles_after t room arcs ps o + 1)

abbrev pub head_of : Table → ℕ → Bool → Accesses → List Arc → List Place → Place → ℕ
head_of t room is_entry owed arcs ps p =
    if is_out p.it.kind then end_head t room is_entry owed arcs ps
    else (if is_asking room ps p then asked_head t room is_entry arcs ps p else 0)

abbrev pub tail_in : Table → ℕ → List Arc → List Place → Place → ℕ
tail_in t room arcs ps p = if is_asking room ps p then asked_tail t room arcs ps p else tail_of p.it.kind

-- the end takes the place of an instruction in its own cycle, where nothing else is
abbrev pub task_of : Table → ℕ → Bool → Accesses → List Arc → List Place → Place → Task
task_of t room is_entry owed arcs ps p = record {
  at = var_in (time_of p);
  head = head_of t room is_entry owed arcs ps p;
  tail = tail_in t room arcs ps p;
  needs = needs_by t (own_instr p.it);
}

abbrev pub tasks_in : Table → ℕ → Bool → Accesses → List Arc → List Place → List Task
tasks_in t room is_entry owed arcs ps = map (task_of t room is_entry owed arcs ps) (with_kind is_task ps)

-- ---- their order

-- the place of the first one with a variable; where none has it, how many there are
abbrev pub task_place : List Task → VarId → ℕ
task_place [] v = 0
task_place (t ∷ ts) v = if t.at.0 == v.0 then 0 else suc (task_place ts v)

-- a precedence between two of n places
abbrev pub precedence_at : ℕ → ℕ → ℕ → ℕ → List Precedence
precedence_at n i j gap = if nat_lt i n && nat_lt j n then record { from = i; to = j; gap = gap } ∷ [] else []

-- one by variables is one between the places that have them
abbrev pub precedence_by : List Task → Constraint → List Precedence
precedence_by ops (Before (Var a) Always (Var b) Always gap) = precedence_at (length ops) (task_place ops a) (task_place ops b) gap
precedence_by ops _ = []

abbrev pub precedences_by : List Task → List Constraint → List Precedence
precedences_by ops befores = joined (map (precedence_by ops) befores)

-- ---- a block

-- these operations have room before this end, in this order
abbrev pub length_by : Table → ℕ → Bool → Accesses → List Arc → List Constraint → VarId → ℕ → List Place → Constraint
length_by t room is_entry owed arcs befores end horizon ps =
    let ops : List Task = tasks_in t room is_entry owed arcs ps in Length ops (precedences_by ops befores) end horizon
