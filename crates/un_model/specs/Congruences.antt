-- The congruences of a solution: what a block hands over stands in the same register where the next block takes it.
use Rattle.std.specs.Prelude.{ℕ, ◌≡◌, ◌==◌, ◌&&◌, Bool, List, [], ◌∷◌, Option, Some, None, is_none, filter, slice_get, if◌then◌else◌}
use Rattle.std.specs.Prelude.{Contains}
use Rattle.std.specs.Option.{option_map}
use Rattle.un_base.specs.declared.ids.TempId.{TempId}
use Rattle.un_ir.specs.Linear.{is_in, place_over}
use Rattle.un_ir.specs.Live.{targets_of}
use Rattle.un_ir.specs.declared.function.Term.{Term}
use Rattle.un_ir.specs.declared.function.Term.TheVariants.{Fall}
use Rattle.un_ir.specs.declared.extended.ExtBlock.{ExtBlock}
use Rattle.un_ir.specs.declared.extended.ExtKind.{ExtKind}
use Rattle.un_ir.specs.declared.extended.ExtKind.TheVariants.{End}
use Rattle.un_ir.specs.declared.extended.ExtOp.{ExtOp}
use Rattle.un_model.specs.declared.schedule.LiveRange.{LiveRange}
use Rattle.un_model.specs.declared.schedule.Read.{Read}
use Rattle.un_model.specs.declared.schedule.Schedule.{Schedule}

-- ---- edges

abbrev pub term_or : ExtKind → Term → Term
term_or (End term) later = term
term_or _ later = later

-- the terminator of a block with these operations, which falls through where there is none
abbrev pub term_of : List ExtOp → Term
term_of [] = Fall
term_of (op ∷ ops) = term_or op.kind (term_of ops)

-- ---- what goes over an edge

abbrev pub results_of_start : ExtKind → List TempId → List TempId → List TempId
results_of_start kind results later = if is_in kind then results else later

-- the live-in temporaries of a block, those of its `in`: the names that are live, then the saved values
abbrev pub live_in_temps : List ExtOp → List TempId
live_in_temps [] = []
live_in_temps (op ∷ ops) = results_of_start op.kind op.results (live_in_temps ops)

-- the reads of `out` of block b: of the operations with operands it alone issues no instruction
abbrev pub is_live_out : ℕ → Read → Bool
is_live_out b r = r.block.0 == b && is_none r.instr

-- what block b hands over: the names that are live, then the saved values
abbrev pub live_out_reads : ℕ → List Read → List Read
live_out_reads b reads = filter (is_live_out b) reads

-- ---- registers

abbrev pub register_of : List LiveRange → TempId → Option ℕ
register_of ranges x = option_map (λ (h : LiveRange). h.reg) (slice_get ranges x.0)

abbrev pub register_read : List LiveRange → Option Read → Option ℕ
register_read ranges None = None
register_read ranges (Some r) = register_of ranges r.temp

-- the value that block b takes at place j has one register where block a, number k, hands it over and where b takes it
abbrev pub IsCongruent : Schedule → ℕ → ExtBlock → ExtBlock → ℕ → TempId → Type 0
IsCongruent t k a b j x = register_read t.ranges (slice_get (live_out_reads k t.reads) (place_over a b j)) ≡ register_of t.ranges x

-- all values that block b takes are congruent with what block a, number k, hands over
unfoldable pub HandsOver : Schedule → ℕ → ExtBlock → ExtBlock → Type 0
HandsOver t k a b = (j : ℕ) (x : TempId) → slice_get (live_in_temps b.ops) j ≡ Some x → IsCongruent t k a b j x

-- block a, number k, hands its values over to each block to which it may lead
unfoldable pub HandsOn : List ExtBlock → Schedule → ℕ → ExtBlock → Type 0
HandsOn blocks t k a = (l : ℕ) (b : ExtBlock) → Contains (targets_of k (term_of a.ops)) l → slice_get blocks l ≡ Some b → HandsOver t k a b

abbrev pub KeepsCongruences : List ExtBlock → Schedule → Type 0
KeepsCongruences blocks t = (k : ℕ) (a : ExtBlock) → slice_get blocks k ≡ Some a → HandsOn blocks t k a
