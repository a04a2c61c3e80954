-- Runs of functions that were worked out by hand: loops, predicates, memory, calls, traps.
use Rattle.std.specs.Prelude.{ℕ, ℤ, pos, negsuc, ◌≡◌, true, false, List, [], ◌∷◌, Option, Some, None, codes, map}
use Rattle.std.proofs.Common.{refl}
use Rattle.un_base.specs.declared.ids.NameId.{NameId}
use Rattle.un_isa.specs.declared.op.Op.{Op}
use Rattle.un_isa.specs.declared.op.Op.TheVariants.{Imm, Add, Addi, Mux, CmpEq, CmpGti, Mpyi, Load, Store, Call}
use Rattle.un_isa.specs.declared.outcome.CallRecord.{CallRecord}
use Rattle.un_isa.specs.declared.start.Reply.{Reply}
use Rattle.un_ir.specs.declared.function.SrcOp.{SrcOp}
use Rattle.un_ir.specs.declared.function.Term.{Term}
use Rattle.un_ir.specs.declared.function.Term.TheVariants.{Fall, Jump, Branch, Ret}
use Rattle.un_ir.specs.declared.function.Block.{Block}
use Rattle.un_ir.specs.Source.{SourceRun, SourceState, SourceStop, Returned, Trapped, Waiting, Running, enter}

-- ---- functions and starts in few words

abbrev name : ℕ → NameId
name n = record { 0 = n }

-- an operation of names by their numbers
abbrev op : Op → Option ℕ → List ℕ → ℤ → SrcOp
op o None srcs imm = record { op = o; dst = None; srcs = map name srcs; imm = imm; callee = None }
op o (Some d) srcs imm = record { op = o; dst = Some (name d); srcs = map name srcs; imm = imm; callee = None }

-- a call of h
abbrev call_h : Option NameId → List ℕ → SrcOp
call_h dst srcs = record { op = Call; dst = dst; srcs = map name srcs; imm = pos 0; callee = Some (codes "h") }

abbrev block : List ℕ → List SrcOp → Term → Block
block label ops term = record { label = label; freq = 1; ops = ops; term = term }

abbrev state : List ℕ → List (ℕ × ℕ) → List Reply → SourceState
state values memory replies = record { values = values; memory = memory; calls = []; replies = replies }

abbrev seen : List ℕ → List (ℕ × ℕ) → CallRecord
seen args memory = record { name = codes "h"; args = args; memory = memory }

abbrev reply : ℕ → List (ℕ × ℕ) → Reply
reply result changed = record { result = result; changed = changed; junk = [] }

-- what a run that enters at most n blocks comes to: its stop, the memory and the calls
abbrev told : SourceRun → SourceStop × List (ℕ × ℕ) × List CallRecord
told run = (run.stop, run.state.memory, run.state.calls)

-- ---- a loop over two arrays: %x %y %n, then %s %u %v %m and the predicate $c

abbrev dot_product : List Block
dot_product =
    block (codes "entry") (op Imm (Some 3) [] (pos 0) ∷ []) Fall
    ∷ block (codes "loop")
    (op Load (Some 4) (0 ∷ []) (pos 0)
    ∷ op Load (Some 5) (1 ∷ []) (pos 0)
    ∷ op Mpyi (Some 6) (4 ∷ 5 ∷ []) (pos 0)
    ∷ op Add (Some 3) (3 ∷ 6 ∷ []) (pos 0)
    ∷ op Addi (Some 0) (0 ∷ []) (pos 4)
    ∷ op Addi (Some 1) (1 ∷ []) (pos 4)
    ∷ op Addi (Some 2) (2 ∷ []) (negsuc 0)
    ∷ op CmpGti (Some 7) (2 ∷ []) (pos 0) ∷ [])
    (Branch (name 7) true (record { 0 = 1 }))
    ∷ block (codes "exit") [] (Ret (Some (name 3)))
    ∷ []

abbrev vectors : List (ℕ × ℕ)
vectors = (256, 3) ∷ (260, 4) ∷ (272, 5) ∷ (276, 6) ∷ []

abbrev dot_start : SourceState
dot_start = state (256 ∷ 272 ∷ 2 ∷ 0 ∷ 0 ∷ 0 ∷ 0 ∷ 0 ∷ []) vectors []

dot_product_ends : told (enter dot_product 10 0 dot_start) ≡ (Returned (Some 39), vectors, [])
dot_product_ends = refl

-- the loop is the second block that would be entered, and the exit the fourth
dot_product_goes_on : told (enter dot_product 1 0 dot_start) ≡ (Running 1, vectors, [])
dot_product_goes_on = refl

dot_product_leaves : told (enter dot_product 3 0 dot_start) ≡ (Running 2, vectors, [])
dot_product_leaves = refl

-- ---- a call: its record has the arguments and the memory before it, its reply the result and words of memory

abbrev sum_after_call : List Block
sum_after_call =
    block (codes "e")
    (op Store None (0 ∷ 1 ∷ []) (pos 4) ∷ call_h (Some (name 2)) (1 ∷ 0 ∷ []) ∷ op Add (Some 3) (2 ∷ 1 ∷ []) (pos 0) ∷ [])
    (Ret (Some (name 3)))
    ∷ []

abbrev call_memory : List (ℕ × ℕ)
call_memory = (8, 1) ∷ (12, 2) ∷ []

abbrev at_call : List (ℕ × ℕ)
at_call = (8, 1) ∷ (12, 5) ∷ []

call_returns : told (enter sum_after_call 5 0 (state (8 ∷ 5 ∷ 0 ∷ 0 ∷ []) call_memory (reply 7 ((8, 6) ∷ []) ∷ [])))
    ≡ (Returned (Some 12), (8, 6) ∷ (12, 5) ∷ [], seen (5 ∷ 8 ∷ []) at_call ∷ [])
call_returns = refl

-- without a reply the run waits, and the record is not among the calls
call_waits : told (enter sum_after_call 5 0 (state (8 ∷ 5 ∷ 0 ∷ 0 ∷ []) call_memory [])) ≡
    (Waiting (seen (5 ∷ 8 ∷ []) at_call), at_call, [])
call_waits = refl

-- ---- a load and a store that trap keep the memory before them

abbrev loads_and_stores : List Block
loads_and_stores =
    block (codes "e")
    (op Load (Some 2) (0 ∷ []) (pos 0) ∷ op Store None (0 ∷ 1 ∷ []) (pos 0) ∷ op Load (Some 3) (1 ∷ []) (pos 0) ∷
    op Store None (1 ∷ 0 ∷ []) (pos 4) ∷ [])
    (Ret (Some (name 2)))
    ∷ []

-- 258 is no address of a word
load_traps : told (enter loads_and_stores 5 0 (state (256 ∷ 258 ∷ 0 ∷ 0 ∷ []) ((256, 17) ∷ []) [])) ≡ (Trapped, (256, 258) ∷ [], [])
load_traps = refl

abbrev load_alone : List Block
load_alone = block (codes "e") (op Load (Some 1) (0 ∷ []) (pos 0) ∷ []) (Ret (Some (name 1))) ∷ []

-- nothing behind this load could trap in its place; a load of a word that is there returns it
load_of_no_word_traps : told (enter load_alone 5 0 (state (260 ∷ 0 ∷ []) ((256, 17) ∷ []) [])) ≡ (Trapped, (256, 17) ∷ [], [])
load_of_no_word_traps = refl

load_of_a_word_returns : told (enter load_alone 5 0 (state (256 ∷ 0 ∷ []) ((256, 17) ∷ []) [])) ≡ (Returned (Some 17), (256, 17) ∷ [], [])
load_of_a_word_returns = refl

-- there is a word at 256 and none at 260
store_traps : told (enter loads_and_stores 5 0 (state (256 ∷ 256 ∷ 0 ∷ 0 ∷ []) ((256, 17) ∷ []) [])) ≡ (Trapped, (256, 256) ∷ [], [])
store_traps = refl

-- ---- predicates and jumps: %a %b, then $p and %r

abbrev chooses : List Block
chooses =
    block (codes "e") (op CmpEq (Some 2) (0 ∷ 1 ∷ []) (pos 0) ∷ []) (Branch (name 2) false (record { 0 = 2 }))
    ∷ block (codes "same") (op Imm (Some 3) [] (pos 40) ∷ []) (Jump (record { 0 = 3 }))
    ∷ block (codes "other") (op Mux (Some 3) (2 ∷ 0 ∷ 1 ∷ []) (pos 0) ∷ []) Fall
    ∷ block (codes "end") (op Addi (Some 3) (3 ∷ []) (pos 1) ∷ []) (Ret (Some (name 3)))
    ∷ []

where_false : told (enter chooses 9 0 (state (5 ∷ 9 ∷ 0 ∷ 0 ∷ []) [] [])) ≡ (Returned (Some 10), [], [])
where_false = refl

where_true : told (enter chooses 9 0 (state (5 ∷ 5 ∷ 0 ∷ 0 ∷ []) [] [])) ≡ (Returned (Some 41), [], [])
where_true = refl

-- the block that would be entered is the one that the jump leads to
jumps_over : told (enter chooses 2 0 (state (5 ∷ 5 ∷ 0 ∷ 0 ∷ []) [] [])) ≡ (Running 3, [], [])
jumps_over = refl
