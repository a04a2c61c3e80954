-- What is posted for three small functions, written down by hand from the descriptions of models and of propagators: which variables
-- each propagator speaks of, in order.
use Rattle.std.specs.Prelude.{ℕ, ◌≡◌, Bool, true, false, List, [], ◌∷◌, ◌++◌, Option, Some, None, codes, map, pos, slice_get}
use Rattle.std.specs.List.{range_with_len}
use Rattle.std.proofs.Common.{refl}
use Rattle.un_base.specs.declared.ids.VarId.{VarId}
use Rattle.un_isa.specs.declared.op.Op.{Op}
use Rattle.un_isa.specs.declared.reg.Reg.{Reg}
use Rattle.un_isa.specs.declared.table.Needs.{Needs}
use Rattle.un_isa.specs.Hexagon.{HEXAGON}
use Rattle.un_ir.specs.Kinds.{is_call_kind}
use Rattle.un_isa.specs.Registers.{callee_saved}
use Rattle.un_ir.specs.declared.function.Kind.TheVariants.{General}
use Rattle.un_ir.specs.declared.extended.NodeCopy.TheVariants.{D}
use Rattle.un_ir.specs.declared.function.Term.TheVariants.{Ret}
use Rattle.un_ir.specs.declared.extended.ExtKind.TheVariants.{In, Out, End, Copy}
use Rattle.un_ir.specs.declared.extended.ExtBlock.{ExtBlock}
use Rattle.un_ir.specs.declared.extended.ExtOp.{ExtOp}
use Rattle.un_model.specs.declared.model.Model.{Model}
use Rattle.un_model.specs.Registers.{general_registers}
use Rattle.un_model.specs.Variables.{model_of}
use Rattle.un_prop.specs.declared.act.Act.{Act}
use Rattle.un_prop.specs.declared.act.Act.TheVariants.{Always, Var}
use Rattle.un_prop.specs.declared.act.At.{At}
use Rattle.un_prop.specs.declared.act.At.TheVariants.{Const, Var as Time}
use Rattle.un_prop.specs.declared.act.Temp.{Temp}
use Rattle.un_prop.specs.declared.act.UserOf.{UserOf}
use Rattle.un_prec.specs.declared.reads.ReadAlt.{ReadAlt}
use Rattle.un_prec.specs.declared.below.Weighted.{Weighted}
use Rattle.un_alt.specs.declared.frame.FrameOp.{FrameOp}
use Rattle.un_alt.specs.declared.frame.FrameUse.{FrameUse}
use Rattle.un_alt.specs.declared.frame.FrameLeave.{FrameLeave}
use Rattle.un_rect.specs.Operands.{Side}
use Rattle.un_rect.specs.declared.clobber.ClobberCall.{ClobberCall}
use Rattle.un_slots.specs.declared.item.Item.{Item}
use Rattle.un_kinds.specs.Constraints.{Before, Reads, Inside, Last, Below, Chosen, Zeros, Spaces, Same, Home, Frame}
use Rattle.un_length.specs.declared.block.Precedence.{Precedence}
use Rattle.un_length.specs.declared.block.Task.{Task}
use Rattle.un_kinds.specs.Constraints.{Apart, Clobber, Operands, PerCycle, Length, Live, Across}
use Rattle.un_press.specs.declared.live.Span.{Span}
use Rattle.un_sites.specs.Postings.{postings_of, with_kind}
use Rattle.un_sites.specs.Pressures.{pressures_of, room_of}
use Rattle.un_sites.specs.Befores.{befores_of, lengths_of}
use Rattle.un_sites.specs.Crossings as crosses
use Rattle.un_sites.specs.Places.{places_of}
use Rattle.un_sites.specs.Rooms.{arcs_or, aparts_of, clobbers_of, packets_of, twos_of}
use Rattle.tests_top.proofs.WorkedModel.{model, names, reads, op, source}

-- ---- variables, times, activities

abbrev v : ℕ → VarId
v n = record { 0 = n }

abbrev vs : List ℕ → List VarId
vs ns = map v ns

abbrev on : ℕ → Act
on n = Var (v n)

abbrev at : ℕ → At
at n = Time (v n)

-- ---- spaces: of the registers r0 to r31, p0 to p3 and one slot

abbrev general : List ℕ
general = range_with_len 0 32

abbrev truth : List ℕ
truth = 32 ∷ 33 ∷ 34 ∷ 35 ∷ []

abbrev slot : List ℕ
slot = 36 ∷ []

abbrev any : List ℕ
any = range_with_len 0 37

-- of a word that an instruction of the source reads
abbrev words : List (List ℕ)
words = general ∷ general ∷ []

-- of what a copy reads and gives: where it is inactive, a Mov, a Spill, a Reload, a P2R, an R2P
abbrev copied : List (List ℕ)
copied = any ∷ general ∷ general ∷ slot ∷ truth ∷ general ∷ []

abbrev given : List (List ℕ)
given = any ∷ general ∷ slot ∷ general ∷ general ∷ truth ∷ []

-- latencies of a start, of a copy, and of instructions with latency 1 and 2
abbrev ones : List ℕ
ones = 1 ∷ 1 ∷ []

abbrev twos : List ℕ
twos = 2 ∷ 2 ∷ []

abbrev copy_latencies : List ℕ
copy_latencies = 1 ∷ 1 ∷ 1 ∷ 2 ∷ 1 ∷ 1 ∷ []

abbrev alt : At → Act → List ℕ → ReadAlt
alt t a gaps = record { at = t; on = a; gaps = gaps }

-- ---- the worked function of two blocks: each operation, the frame and a limit

worked_postings : postings_of model (Some 20) ≡
    -- the copy of the parameter
    Zeros (v 2) (vs (3 ∷ 4 ∷ []))
    ∷ Inside (v 3) (on 2) (v 15)
    ∷ Before (Const 0) Always (at 3) (on 2) 1
    ∷ Spaces (on 2) None (vs (0 ∷ [])) copied
    ∷ Spaces (on 2) None (vs (4 ∷ [])) given
    -- Enter
    ∷ Zeros (v 5) (vs (6 ∷ []))
    ∷ Inside (v 6) (on 5) (v 15)
    -- the load, which reads the parameter or its copy
    ∷ Inside (v 7) Always (v 15)
    ∷ Chosen Always (v 8) (Always ∷ on 2 ∷ [])
    ∷ Reads (at 7) Always (v 8) (alt (Const 0) Always ones ∷ alt (at 3) (on 2) copy_latencies ∷ [])
    ∷ Spaces Always (Some (v 8)) (vs (0 ∷ 4 ∷ [])) words
    -- Leave
    ∷ Zeros (v 10) (vs (11 ∷ []))
    ∷ Inside (v 11) (on 10) (v 15)
    -- the return
    ∷ Last (v 12) (v 15)
    ∷ Chosen Always (v 13) (Always ∷ [])
    ∷ Reads (at 12) Always (v 13) (alt (Const 0) Always ones ∷ [])
    ∷ Spaces Always (Some (v 13)) (vs (1 ∷ [])) words
    -- what the entry's end hands over, in r5
    ∷ Chosen Always (v 14) (Always ∷ on 2 ∷ [])
    ∷ Reads (at 15) Always (v 14) (alt (at 7) Always twos ∷ alt (at 3) (on 2) copy_latencies ∷ [])
    ∷ Home (Some (v 14)) (vs (9 ∷ 4 ∷ [])) 5
    -- the copy of the truth value
    ∷ Zeros (v 18) (vs (19 ∷ 20 ∷ []))
    ∷ Inside (v 19) (on 18) (v 25)
    ∷ Before (Const 0) Always (at 19) (on 18) 1
    ∷ Spaces (on 18) None (vs (16 ∷ [])) copied
    ∷ Spaces (on 18) None (vs (20 ∷ [])) given
    -- the comparison, the call
    ∷ Inside (v 21) Always (v 25)
    ∷ Inside (v 23) Always (v 25)
    -- the frame: the copies, the values at starts, Enter, what comes after it, and Leave after the copy
    ∷ (let enter : FrameOp = record { instr = v 5; at = v 6 } in
    let leave : FrameOp = record { instr = v 10; at = v 11 } in
    let copy : FrameUse = record { instr = on 2; least = 2; most = 3; at = v 3 } in
    let left : FrameUse = record { instr = on 10; least = 1; most = 1; at = v 11 } in
    let end : FrameLeave = record { leave = leave; copies = copy ∷ []; calls = [] } in
    Frame true (v 26) (vs (2 ∷ 18 ∷ [])) (vs (0 ∷ 1 ∷ 16 ∷ 17 ∷ [])) (Some enter) (copy ∷ left ∷ []) (end ∷ []))
    -- the cost: ten times the entry's end, and the other one
    ∷ (let often : Weighted = record { end = v 15; freq = 10 } in
    let once : Weighted = record { end = v 25; freq = 1 } in
    Below (often ∷ once ∷ []) 20) ∷ []
worked_postings = refl

-- the start before the load and the return, the load before the end
worked_befores : befores_of model ≡
    Before (Const 0) Always (at 7) Always 1
    ∷ Before (Const 0) Always (at 12) Always 1
    ∷ Before (at 7) Always (at 15) Always 2 ∷ []
worked_befores = refl

-- ---- temporaries, with their users

abbrev user : Act → At → Option VarId → ℕ → UserOf
user a t choice n = record { on = a; at = t; choice = choice; value = n }

abbrev temp : Act → At → ℕ → List UserOf → Temp
temp a t r users = record { on = a; at = t; reg = v r; users = users }

abbrev parameter : Temp
parameter = temp Always (Const 0) 0 (user (on 2) (at 3) None 0 ∷ user Always (at 7) (Some (v 8)) 0 ∷ [])

abbrev saved : Temp
saved = temp Always (Const 0) 1 (user Always (at 12) (Some (v 13)) 0 ∷ [])

abbrev copy_of_parameter : Temp
copy_of_parameter = temp (on 2) (at 3) 4 (user Always (at 7) (Some (v 8)) 1 ∷ user Always (at 15) (Some (v 14)) 1 ∷ [])

abbrev loaded : Temp
loaded = temp Always (at 7) 9 (user Always (at 15) (Some (v 14)) 0 ∷ [])

abbrev truth_value : Temp
truth_value = temp Always (Const 0) 16 (user (on 18) (at 19) None 0 ∷ [])

worked_aparts : aparts_of model ≡
    Apart (parameter ∷ saved ∷ copy_of_parameter ∷ loaded ∷ [])
    ∷ Apart (truth_value ∷ temp Always (Const 0) 17 [] ∷ temp (on 18) (at 19) 20 [] ∷ temp Always (at 21) 22 [] ∷
    temp Always (at 23) 24 [] ∷ []) ∷ []
worked_aparts = refl

-- ---- calls: r0 to r15, r28, r31 and p0 to p3 are not kept

abbrev lost : ℕ
lost = 66840494079

abbrev call : ℕ → Bool → List UserOf → ClobberCall
call n before behind = record { at = v n; before = before; behind = behind }

-- the entry has no call; what is there at the start is there before the call, and a call spares its own result
worked_clobbers : clobbers_of model ≡
    Clobber lost parameter []
    ∷ Clobber lost saved []
    ∷ Clobber lost copy_of_parameter []
    ∷ Clobber lost loaded []
    ∷ Clobber lost truth_value (call 23 true [] ∷ [])
    ∷ Clobber lost (temp Always (Const 0) 17 []) (call 23 true [] ∷ [])
    ∷ Clobber lost (temp (on 18) (at 19) 20 []) (call 23 false [] ∷ [])
    ∷ Clobber lost (temp Always (at 21) 22 []) (call 23 false [] ∷ [])
    ∷ Clobber lost (temp Always (at 23) 24 []) [] ∷ []
worked_clobbers = refl

-- ---- packets

abbrev needs : ℕ → ℕ → ℕ → ℕ → Needs
needs mem store xc control = record { mem = mem; store = store; xc = xc; control = control }

abbrev none : Needs
none = needs 0 0 0 0

abbrev item : Act → ℕ → List Needs → Item
item a n uses = record { on = a; at = v n; uses = uses }

-- of a copy: where it is inactive, a Mov, a Spill, a Reload, a P2R, an R2P
abbrev copy_needs : List Needs
copy_needs = none ∷ none ∷ needs 1 1 0 0 ∷ needs 1 0 0 0 ∷ needs 0 0 1 0 ∷ needs 0 0 1 0 ∷ []

abbrev free : List Needs
free = none ∷ none ∷ []

abbrev frame_needs : List Needs
frame_needs = none ∷ none ∷ none ∷ none ∷ none ∷ none ∷ []

abbrev loads : List Needs
loads = needs 1 0 0 0 ∷ needs 1 0 0 0 ∷ []

abbrev transfers : List Needs
transfers = needs 0 0 1 1 ∷ needs 0 0 1 1 ∷ []

worked_packets : packets_of model ≡
    PerCycle (item (on 2) 3 copy_needs ∷ item (on 5) 6 frame_needs ∷ item Always 7 loads ∷ item (on 10) 11 frame_needs ∷
    item Always 12 transfers ∷ []) 8
    ∷ PerCycle (item (on 18) 19 copy_needs ∷ item Always 21 free ∷ item Always 23 transfers ∷ []) 4 ∷ []
worked_packets = refl

worked_twos : twos_of model ≡ []
worked_twos = refl

-- an operation that every solution issues, so long before the end, and a precedence between the places of two
abbrev task : ℕ → ℕ → Needs → Task
task n tail uses = record { at = v n; head = 0; tail = tail; needs = uses }

abbrev call_task : ℕ → ℕ → ℕ → Task
call_task n head tail = record { at = v n; head = head; tail = tail; needs = needs 0 0 1 1 }

-- the end, which has so many cycles before it
abbrev end_task : ℕ → ℕ → Task
end_task n head = record { at = v n; head = head; tail = 0; needs = none }

abbrev after : ℕ → ℕ → ℕ → Precedence
after from to gap = record { from = from; to = to; gap = gap }

-- ---- a sum of two names that goes over an edge, to where it is read twice

-- temporaries 0 and 1 are the names, 2 their sum, 3 its copy
abbrev sum_block : ExtBlock
sum_block = record {
  freq = 3;
  label = codes "a";
  live_in = names (0 ∷ 1 ∷ []);
  live_out = names (2 ∷ []);
  ops =
      op In [] (0 ∷ 1 ∷ [])
      ∷ op (source Op.Add (pos 0)) (reads (0 ∷ []) None ∷ reads (1 ∷ []) None ∷ []) (2 ∷ [])
      ∷ op (Copy D) (reads (2 ∷ []) None ∷ []) (3 ∷ [])
      ∷ op Out (reads (2 ∷ 3 ∷ []) None ∷ []) [] ∷ [];
  horizon = 10;
}

-- temporary 4 is the sum, 5 what is made of it
abbrev twice_block : ExtBlock
twice_block = record {
  freq = 1;
  label = codes "b";
  live_in = names (2 ∷ []);
  live_out = [];
  ops =
      op In [] (4 ∷ [])
      ∷ op (source Op.And (pos 0)) (reads (4 ∷ []) None ∷ reads (4 ∷ []) None ∷ []) (5 ∷ [])
      ∷ op Out [] [] ∷ [];
  horizon = 8;
}

abbrev summing : Model
summing =
    model_of (record { table = HEXAGON; names = General ∷ General ∷ General ∷ []; blocks = sum_block ∷ twice_block ∷ [] })
    (record { regs = None; slots = 1 })

sum_postings : postings_of summing None ≡
    -- the sum
    Inside (v 2) Always (v 10)
    ∷ Chosen Always (v 3) (Always ∷ [])
    ∷ Reads (at 2) Always (v 3) (alt (Const 0) Always ones ∷ [])
    ∷ Spaces Always (Some (v 3)) (vs (0 ∷ [])) words
    ∷ Chosen Always (v 4) (Always ∷ [])
    ∷ Reads (at 2) Always (v 4) (alt (Const 0) Always ones ∷ [])
    ∷ Spaces Always (Some (v 4)) (vs (1 ∷ [])) words
    -- its copy
    ∷ Zeros (v 6) (vs (7 ∷ 8 ∷ []))
    ∷ Inside (v 7) (on 6) (v 10)
    ∷ Before (at 2) Always (at 7) (on 6) 1
    ∷ Spaces (on 6) None (vs (5 ∷ [])) copied
    ∷ Spaces (on 6) None (vs (8 ∷ [])) given
    -- what the block's end hands over
    ∷ Chosen Always (v 9) (Always ∷ on 6 ∷ [])
    ∷ Reads (at 10) Always (v 9) (alt (at 2) Always ones ∷ alt (at 7) (on 6) copy_latencies ∷ [])
    -- both reads of the sum
    ∷ Inside (v 12) Always (v 16)
    ∷ Chosen Always (v 13) (Always ∷ [])
    ∷ Reads (at 12) Always (v 13) (alt (Const 0) Always ones ∷ [])
    ∷ Spaces Always (Some (v 13)) (vs (11 ∷ [])) words
    ∷ Chosen Always (v 14) (Always ∷ [])
    ∷ Reads (at 12) Always (v 14) (alt (Const 0) Always ones ∷ [])
    ∷ Spaces Always (Some (v 14)) (vs (11 ∷ [])) words
    -- the edge
    ∷ Same (v 9) (vs (5 ∷ 8 ∷ [])) (v 11) ∷ []
sum_postings = refl

sum_befores : befores_of summing ≡
    Before (Const 0) Always (at 2) Always 1 ∷ Before (at 2) Always (at 10) Always 1 ∷ Before (Const 0) Always (at 12) Always 1 ∷ []
sum_befores = refl

-- the sum before the end of its block, in a packet of its own; what waits for the start is no precedence of these
sum_lengths : lengths_of summing ≡
    Length (task 2 1 none ∷ end_task 10 2 ∷ []) (after 0 1 1 ∷ []) (v 10) 10
    ∷ Length (task 12 1 none ∷ end_task 16 2 ∷ []) [] (v 16) 8 ∷ []
unfolding room_of general_registers
sum_lengths = refl

-- one propagator for the two names; none for the sum beside itself
sum_twos : twos_of summing ≡
    (let first : Side = record { choice = v 3; regs = vs (0 ∷ []); allowed = general } in
    let second : Side = record { choice = v 4; regs = vs (1 ∷ []); allowed = general } in Operands first second ∷ [])
sum_twos = refl

sum_aparts : aparts_of summing ≡
    Apart (temp Always (Const 0) 0 (user Always (at 2) (Some (v 3)) 0 ∷ []) ∷
    temp Always (Const 0) 1 (user Always (at 2) (Some (v 4)) 0 ∷ []) ∷
    temp Always (at 2) 5 (user (on 6) (at 7) None 0 ∷ user Always (at 10) (Some (v 9)) 0 ∷ []) ∷
    temp (on 6) (at 7) 8 (user Always (at 10) (Some (v 9)) 1 ∷ []) ∷ [])
    ∷ Apart (temp Always (Const 0) 11 (user Always (at 12) (Some (v 13)) 0 ∷ user Always (at 12) (Some (v 14)) 0 ∷ []) ∷
    temp Always (at 12) 15 [] ∷ []) ∷ []
sum_aparts = refl

-- ---- a load, a call and a store in one block

-- temporary 0 is the address, 1 the loaded word, 2 the call's result
abbrev call_block : ExtBlock
call_block = record {
  freq = 1;
  label = codes "c";
  live_in = names (0 ∷ []);
  live_out = names (1 ∷ []);
  ops =
      op In [] (0 ∷ [])
      ∷ op (source Op.Load (pos 0)) (reads (0 ∷ []) None ∷ []) (1 ∷ [])
      ∷ op (source Op.Call (pos 0)) [] (2 ∷ [])
      ∷ op (source Op.Store (pos 0)) (reads (0 ∷ []) None ∷ reads (1 ∷ []) None ∷ []) []
      ∷ op Out (reads (2 ∷ []) None ∷ []) [] ∷ [];
  horizon = 12;
}

abbrev calling : Model
calling =
    model_of (record { table = HEXAGON; names = General ∷ General ∷ []; blocks = call_block ∷ [] })
    (record { regs = None; slots = 1 })

-- by data and by memory: the load before the call, both before the store
call_befores : befores_of calling ≡
    Before (Const 0) Always (at 1) Always 1
    ∷ Before (at 1) Always (at 4) Always 1
    ∷ Before (Const 0) Always (at 6) Always 1
    ∷ Before (at 1) Always (at 6) Always 2
    ∷ Before (at 4) Always (at 6) Always 1
    ∷ Before (at 4) Always (at 10) Always 1 ∷ []
call_befores = refl

-- the address and the word are there before the call, by the start and by the order of memory, and the store reads them behind it
call_clobbers : clobbers_of calling ≡
    Clobber lost (temp Always (Const 0) 0 (user Always (at 1) (Some (v 2)) 0 ∷ user Always (at 6) (Some (v 7)) 0 ∷ []))
    (call 4 true (user Always (at 6) (Some (v 7)) 0 ∷ []) ∷ [])
    ∷ Clobber lost (temp Always (at 1) 3 (user Always (at 6) (Some (v 8)) 0 ∷ []))
    (call 4 true (user Always (at 6) (Some (v 8)) 0 ∷ []) ∷ [])
    ∷ Clobber lost (temp Always (at 4) 5 (user Always (at 10) (Some (v 9)) 0 ∷ [])) [] ∷ []
call_clobbers = refl

-- the load, the call, the store and the end; the call's result stands where the call gives it, and nothing else waits for the call. The
-- call has room in a packet with the load, the store in one behind it, and all three in one before the end.
call_lengths : lengths_of calling ≡
    Length (task 1 1 (needs 1 0 0 0) ∷ call_task 4 1 2 ∷ task 6 1 (needs 1 1 0 0) ∷ end_task 10 2 ∷ [])
    (after 0 1 1 ∷ after 0 2 2 ∷ after 1 2 1 ∷ after 1 3 1 ∷ []) (v 10) 12 ∷ []
unfolding callee_saved room_of general_registers
call_lengths = refl

abbrev span : At → List At → Span
span def uses = record { def = def; uses = uses }

-- ---- thirteen values across a call, of which it keeps twelve

abbrev numbers : List ℕ
numbers = range_with_len 0 13

-- the end reads each of them in a register
abbrev r16 : Option Reg
r16 = Some (record { 0 = 16 })

abbrev across_block : ExtBlock
across_block = record {
  freq = 1;
  label = codes "d";
  live_in = names numbers;
  live_out = names numbers;
  ops =
      op In [] numbers
      ∷ op (source Op.Call (pos 0)) [] (13 ∷ [])
      ∷ op Out (map (λ (k : ℕ). reads (k ∷ []) r16) numbers) [] ∷ [];
  horizon = 8;
}

abbrev crossing : Model
crossing =
    model_of (record { table = HEXAGON; names = map (λ (k : ℕ). General) numbers; blocks = across_block ∷ [] })
    (record { regs = None; slots = 1 })

-- one is spilled behind Enter, so the call is in cycle 2 at the earliest; and reloaded after the call, two cycles before the end
crossing_lengths : lengths_of crossing ≡
    Length (call_task 13 2 3 ∷ end_task 28 2 ∷ []) [] (v 28) 8 ∷ []
unfolding callee_saved room_of general_registers
crossing_lengths = refl

-- they are there from the start to the end, and nothing reads the call's result; the domains are the homes r0 to r5, of which the call
-- keeps none
crossing_pressures : pressures_of crossing ≡
    Live (map (λ (k : ℕ). span (Const 0) (at 28 ∷ [])) numbers ++ span (at 13) [] ∷ []) 6 8 ∷ Across (v 13) 13 0 ∷ []
unfolding callee_saved room_of
crossing_pressures = refl

-- ---- an entry before a block that has no copies of thirteen saved values

abbrev saving_block : List ExtOp → ExtBlock
saving_block call = record {
  freq = 1;
  label = codes "s";
  live_in = [];
  live_out = [];
  ops = op In [] numbers ∷ (call ++ op Out (map (λ (k : ℕ). reads (k ∷ []) None) numbers) [] ∷ []);
  horizon = 8;
}

abbrev empty_block : ExtBlock
empty_block = record {
  freq = 1;
  label = codes "f";
  live_in = [];
  live_out = [];
  ops = op In [] [] ∷ op Out [] [] ∷ [];
  horizon = 6;
}

abbrev saving : List ExtOp → Model
saving call =
    model_of (record { table = HEXAGON; names = []; blocks = empty_block ∷ saving_block call ∷ [] }) (record { regs = None; slots = 1 })

-- the call keeps twelve of them: the entry hands one over in a slot, behind Enter and a Spill
saving_lengths : lengths_of (saving (op (source Op.Call (pos 0)) [] (13 ∷ []) ∷ [])) ≡
    Length (end_task 0 3 ∷ []) [] (v 0) 6 ∷ Length (call_task 14 1 1 ∷ end_task 29 2 ∷ []) [] (v 29) 8 ∷ []
unfolding callee_saved room_of general_registers
saving_lengths = refl

-- without a call it owes nothing
kept_lengths : lengths_of (saving []) ≡ Length (end_task 0 1 ∷ []) [] (v 0) 6 ∷ Length (end_task 27 1 ∷ []) [] (v 27) 8 ∷ []
unfolding callee_saved room_of general_registers
kept_lengths = refl

-- ---- more values than registers in the cycle of an operation that is no call

-- three names in the three registers that there are, a word that is loaded and one that is stored, and an end that reads some of the four
abbrev pressed_block : List ℕ → ExtBlock
pressed_block read = record {
  freq = 1;
  label = codes "p";
  live_in = names (0 ∷ 1 ∷ 2 ∷ []);
  live_out = names read;
  ops =
      op In [] (0 ∷ 1 ∷ 2 ∷ [])
      ∷ op (source Op.Load (pos 0)) (reads (0 ∷ []) None ∷ []) (3 ∷ [])
      ∷ op (source Op.Store (pos 0)) (reads (0 ∷ []) None ∷ reads (1 ∷ []) None ∷ []) []
      ∷ op Out (map (λ (k : ℕ). reads (k ∷ []) None) read) [] ∷ [];
  horizon = 12;
}

abbrev pressed : List ℕ → Model
pressed read =
    model_of (record { table = HEXAGON; names = General ∷ General ∷ General ∷ General ∷ []; blocks = pressed_block read ∷ [] })
    (record { regs = Some 3; slots = 1 })

-- an operation of the source, by which so many cycles are filled, and so many from it on
abbrev asking_task : ℕ → ℕ → ℕ → Needs → Task
asking_task n head tail uses = record { at = v n; head = head; tail = tail; needs = uses }

-- all four are read at the end: in the cycle of the load, which gives one of them, and in that of the store one is in a slot, so both
-- are behind Enter and a Spill, in cycle 2 at the earliest; the end reads slots too, so it asks for no Reload
pressed_lengths : lengths_of (pressed (0 ∷ 1 ∷ 2 ∷ 3 ∷ [])) ≡
    Length (asking_task 3 2 1 (needs 1 0 0 0) ∷ asking_task 6 2 1 (needs 1 1 0 0) ∷ end_task 13 3 ∷ [])
    (after 0 1 0 ∷ after 0 2 2 ∷ []) (v 13) 12 ∷ []
unfolding callee_saved room_of general_registers
pressed_lengths = refl

-- three are: what the store alone reads has its register until then, and is there no more where the load's result is
eased_lengths : lengths_of (pressed (0 ∷ 2 ∷ 3 ∷ [])) ≡
    Length (asking_task 3 1 1 (needs 1 0 0 0) ∷ asking_task 6 1 1 (needs 1 1 0 0) ∷ end_task 12 2 ∷ [])
    (after 0 1 0 ∷ after 0 2 2 ∷ []) (v 12) 12 ∷ []
unfolding callee_saved room_of general_registers
eased_lengths = refl

-- what the return reads is there until the last cycle, which is behind the load where the use of what it gives is: with the two that the
-- end reads and the load's result these are four in the load's cycle, and two in that of the use, which nothing reads
abbrev returning_block : ExtBlock
returning_block = record {
  freq = 1;
  label = codes "r";
  live_in = names (0 ∷ 1 ∷ 2 ∷ []);
  live_out = names (0 ∷ 2 ∷ []);
  ops =
      op In [] (0 ∷ 1 ∷ 2 ∷ [])
      ∷ op (source Op.Load (pos 0)) (reads (0 ∷ []) None ∷ []) (3 ∷ [])
      ∷ op (source Op.And (pos 0)) (reads (3 ∷ []) None ∷ reads (3 ∷ []) None ∷ []) (4 ∷ [])
      ∷ op (End (Ret None)) (reads (1 ∷ []) None ∷ []) []
      ∷ op Out (reads (0 ∷ []) None ∷ reads (2 ∷ []) None ∷ []) [] ∷ [];
  horizon = 12;
}

returning_lengths : lengths_of (model_of
    (record { table = HEXAGON; names = General ∷ General ∷ General ∷ []; blocks = returning_block ∷ [] })
    (record { regs = Some 3; slots = 1 })) ≡
    Length (asking_task 3 2 2 (needs 1 0 0 0) ∷ asking_task 6 1 1 none ∷ task 10 1 (needs 0 0 1 1) ∷ end_task 14 3 ∷ [])
    (after 0 1 2 ∷ []) (v 14) 12 ∷ []
unfolding callee_saved room_of general_registers
returning_lengths = refl

-- ---- what crosses a call whether it is read before it or behind it

-- a sum of two names that is read at the end, and a call that waits for nothing
abbrev handing_block : ExtBlock
handing_block = record {
  freq = 1;
  label = codes "h";
  live_in = names (0 ∷ 1 ∷ []);
  live_out = names (2 ∷ []);
  ops =
      op In [] (0 ∷ 1 ∷ [])
      ∷ op (source Op.Add (pos 0)) (reads (0 ∷ []) None ∷ reads (1 ∷ []) None ∷ []) (2 ∷ [])
      ∷ op (source Op.Call (pos 0)) [] (3 ∷ [])
      ∷ op Out (reads (2 ∷ []) None ∷ []) [] ∷ [];
  horizon = 10;
}

abbrev handing : Model
handing =
    model_of (record { table = HEXAGON; names = map (λ (k : ℕ). General) (range_with_len 0 3); blocks = handing_block ∷ [] })
    (record { regs = None; slots = 1 })

-- the sum may be made before the call, and then crosses it, or behind it, and then its first operand does: so that one counts
handed_over : map (crosses.crossing false (arcs_or (slice_get handing.arcs 0)) (places_of handing))
    (with_kind is_call_kind (places_of handing)) ≡ (record { 0 = 0 } ∷ []) ∷ []
handed_over = refl
