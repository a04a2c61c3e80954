-- The table of the processor, entry by entry, as written down from its description.
use Rattle.std.specs.Prelude.{ℕ, ◌≡◌, Bool, true, false, List, [], ◌∷◌, ◌++◌, map, filter, codes, replicate, Option, Some, None, slice_get}
use Rattle.std.specs.List.{range_with_len}
use Rattle.std.proofs.Common.{refl}
use Rattle.un_isa.specs.declared.op.Op.{Op}
use Rattle.un_isa.specs.declared.op.TheConstants.{OPERATIONS}
use Rattle.un_isa.specs.declared.op.Op.TheVariants.{Mov, Mux, CmpEq, CmpGt, CmpGtu, CmpEqi, CmpGti, Load, Store, Call, Jump, JumpIf, JumpIfNot, Jumpr}
use Rattle.un_isa.specs.declared.op.Op.TheVariants.{Spill, Reload, P2R, R2P, Enter, Leave, Nop, JumpIfNew, JumpIfNotNew}
use Rattle.un_isa.specs.declared.packet_counts.TheConstants.{PACKET, MEM_PLACES, STORE_PLACES, XC_PLACES, CONTROL_PLACES}
use Rattle.un_isa.specs.declared.reg.Space.TheVariants.{R, P, M}
use Rattle.un_isa.specs.declared.table.Needs.{Needs}
use Rattle.un_isa.specs.Does.{is_call, is_return, is_jump, is_transfer, is_leaving, is_control, is_copy, writes_memory, is_word_access}
use Rattle.un_isa.specs.Does.{moves_stack, is_nop, is_branch, is_new, is_compare}
use Rattle.un_isa.specs.Facts.{all_ops, source_name, printed_name}
use Rattle.un_isa.specs.Hexagon.{HEXAGON}
use Rattle.un_isa.specs.Registers.{space_of, callee_saved, saved_registers}
use Rattle.un_isa.specs.RegSets.{members}
use Rattle.un_isa.specs.Starts.{is_junk_from, are_predicates}
use Rattle.un_isa.specs.declared.table.Table.{Table}
use Rattle.un_isa.specs.Tables.{number_of, latency_of, gap_by}

-- by the number of the operation
numbers : map number_of all_ops ≡ range_with_len 0 OPERATIONS
numbers = refl

latencies : map (latency_of HEXAGON) all_ops ≡
    1 ∷ 1 ∷ 1 ∷ 1 ∷ 1 ∷ 1 ∷ 1 ∷ 1 ∷ 1 ∷ 1 ∷ 1 ∷ 1 ∷ 1 ∷ 1 ∷ 1 ∷ 1 ∷ 2 ∷
    1 ∷ 1 ∷ 1 ∷ 2 ∷ 1 ∷ 1 ∷ 1 ∷ 1 ∷ 1 ∷ 1 ∷ 1 ∷ 2 ∷ 1 ∷ 1 ∷ 1 ∷ 1 ∷ 1 ∷ 1 ∷ 1 ∷ []
latencies = refl

-- accesses to memory, stores, products and transfers together, transfers
abbrev counts_of : Option Needs → List ℕ
counts_of None = []
counts_of (Some n) = n.mem ∷ n.store ∷ n.xc ∷ n.control ∷ []

abbrev alu : List ℕ
alu = 0 ∷ 0 ∷ 0 ∷ 0 ∷ []

abbrev xtype : List ℕ
xtype = 0 ∷ 0 ∷ 1 ∷ 0 ∷ []

abbrev load : List ℕ
load = 1 ∷ 0 ∷ 0 ∷ 0 ∷ []

abbrev store : List ℕ
store = 1 ∷ 1 ∷ 0 ∷ 0 ∷ []

abbrev control : List ℕ
control = 0 ∷ 0 ∷ 1 ∷ 1 ∷ []

needs : map (λ (op : Op). counts_of (slice_get HEXAGON.uses (number_of op))) all_ops ≡
    alu ∷ alu ∷ alu ∷ alu ∷ alu ∷ alu ∷ alu ∷ alu ∷ alu ∷ alu ∷ alu ∷ alu ∷
    alu ∷ alu ∷ alu ∷ alu ∷ xtype ∷ xtype ∷ xtype ∷ xtype ∷ load ∷ store ∷ control ∷ control ∷
    control ∷ control ∷ control ∷ store ∷ load ∷ xtype ∷ xtype ∷ alu ∷ alu ∷ alu ∷ control ∷ control ∷ []
needs = refl

counts : PACKET ∷ MEM_PLACES ∷ STORE_PLACES ∷ XC_PLACES ∷ CONTROL_PLACES ∷ [] ≡ 4 ∷ 2 ∷ 1 ∷ 2 ∷ 1 ∷ []
counts = refl

clobbered : members HEXAGON.clobbered ≡
    0 ∷ 1 ∷ 2 ∷ 3 ∷ 4 ∷ 5 ∷ 6 ∷ 7 ∷ 8 ∷ 9 ∷ 10 ∷ 11 ∷ 12 ∷ 13 ∷ 14 ∷ 15 ∷ 28 ∷ 31 ∷ 32 ∷ 33 ∷ 34 ∷ 35 ∷ []
clobbered = refl

saved : callee_saved HEXAGON ≡ 16 ∷ 17 ∷ 18 ∷ 19 ∷ 20 ∷ 21 ∷ 22 ∷ 23 ∷ 24 ∷ 25 ∷ 26 ∷ 27 ∷ []
unfolding callee_saved
saved = refl

kept_with_link : saved_registers HEXAGON ≡ 16 ∷ 17 ∷ 18 ∷ 19 ∷ 20 ∷ 21 ∷ 22 ∷ 23 ∷ 24 ∷ 25 ∷ 26 ∷ 27 ∷ 31 ∷ []
unfolding callee_saved
kept_with_link = refl

convention : HEXAGON.args ++ HEXAGON.result ∷ [] ≡ 0 ∷ 1 ∷ 2 ∷ 3 ∷ 4 ∷ 5 ∷ 0 ∷ []
convention = refl

spaces : map space_of (0 ∷ 31 ∷ 32 ∷ 35 ∷ 36 ∷ 99 ∷ []) ≡ R ∷ R ∷ P ∷ P ∷ M ∷ M ∷ []
spaces = refl

-- junk in one register alone: it may stand in each clobbered register but r0
abbrev junk_in : ℕ → Bool
junk_in r = is_junk_from 0 (replicate r 0 ++ 7 ∷ [])

junk : filter junk_in (range_with_len 0 36) ≡
    1 ∷ 2 ∷ 3 ∷ 4 ∷ 5 ∷ 6 ∷ 7 ∷ 8 ∷ 9 ∷ 10 ∷ 11 ∷ 12 ∷ 13 ∷ 14 ∷ 15 ∷ 28 ∷ 31 ∷ 32 ∷ 33 ∷ 34 ∷ 35 ∷ []
junk = refl

predicates : are_predicates (replicate 32 9 ++ 0 ∷ 1 ∷ 1 ∷ 0 ∷ []) ≡ true
predicates = refl

no_predicates : are_predicates (replicate 35 0 ++ 2 ∷ []) ≡ false
no_predicates = refl

source_names : map source_name all_ops ≡
    codes "imm" ∷ codes "mov" ∷ codes "add" ∷ codes "sub" ∷ codes "and" ∷ codes "or" ∷ codes "xor" ∷
    codes "addi" ∷ codes "andi" ∷ codes "ori" ∷ codes "mux" ∷ codes "cmpeq" ∷ codes "cmpgt" ∷ codes "cmpgtu" ∷
    codes "cmpeqi" ∷ codes "cmpgti" ∷ codes "mpyi" ∷ codes "asl" ∷ codes "asr" ∷ codes "lsr" ∷ codes "load" ∷
    codes "store" ∷ codes "call" ∷ [] ∷ [] ∷ [] ∷ [] ∷ [] ∷
    [] ∷ [] ∷ [] ∷ [] ∷ [] ∷ [] ∷ [] ∷ [] ∷ []
source_names = refl

printed_names : map printed_name all_ops ≡
    [] ∷ [] ∷ codes "add" ∷ codes "sub" ∷ codes "and" ∷ codes "or" ∷ codes "xor" ∷
    codes "add" ∷ codes "and" ∷ codes "or" ∷ codes "mux" ∷ codes "cmp.eq" ∷ codes "cmp.gt" ∷ codes "cmp.gtu" ∷
    codes "cmp.eq" ∷ codes "cmp.gt" ∷ codes "mpyi" ∷ codes "asl" ∷ codes "asr" ∷ codes "lsr" ∷ codes "memw" ∷
    codes "memw" ∷ codes "call" ∷ codes "jump" ∷ codes "jump" ∷ codes "jump" ∷ codes "jumpr" ∷ codes "memw" ∷
    codes "memw" ∷ [] ∷ [] ∷ codes "add" ∷ codes "add" ∷ codes "nop" ∷
    codes "jump" ∷ codes "jump" ∷ []
printed_names = refl

-- ---- what operations do

transfers : filter is_transfer all_ops ≡ Jump ∷ JumpIf ∷ JumpIfNot ∷ Jumpr ∷ JumpIfNew ∷ JumpIfNotNew ∷ []
transfers = refl

jumps : filter is_jump all_ops ≡ Jump ∷ JumpIf ∷ JumpIfNot ∷ JumpIfNew ∷ JumpIfNotNew ∷ []
jumps = refl

branches : filter is_branch all_ops ≡ JumpIf ∷ JumpIfNot ∷ []
branches = refl

new_branches : filter is_new all_ops ≡ JumpIfNew ∷ JumpIfNotNew ∷ []
new_branches = refl

compares : filter is_compare all_ops ≡ CmpEq ∷ CmpGt ∷ CmpGtu ∷ CmpEqi ∷ CmpGti ∷ []
compares = refl

returns : filter is_return all_ops ≡ Jumpr ∷ []
returns = refl

leaving : filter is_leaving all_ops ≡ Jump ∷ Jumpr ∷ []
leaving = refl

controls : filter is_control all_ops ≡ filter is_call all_ops ++ filter is_transfer all_ops
controls = refl

called : filter is_call all_ops ≡ Call ∷ []
called = refl

copies : filter is_copy all_ops ≡ Mov ∷ Spill ∷ Reload ∷ P2R ∷ R2P ∷ []
copies = refl

writers : filter writes_memory all_ops ≡ Store ∷ Spill ∷ []
writers = refl

accesses : filter is_word_access all_ops ≡ Load ∷ Store ∷ Spill ∷ Reload ∷ []
accesses = refl

frames : filter moves_stack all_ops ++ filter is_nop all_ops ≡ Enter ∷ Leave ∷ Nop ∷ []
frames = refl

-- ---- gaps

-- a table where jumps may test what compares of their packets write
abbrev fresh_table : Table
fresh_table = record HEXAGON { fresh = true }

abbrev gaps_of : Table → Op → List ℕ
gaps_of t user = map (λ (op : Op). gap_by t op user) (CmpEq ∷ CmpGt ∷ CmpGtu ∷ CmpEqi ∷ CmpGti ∷ R2P ∷ Load ∷ [])

fresh_gaps : map (gaps_of fresh_table) (JumpIf ∷ JumpIfNot ∷ JumpIfNew ∷ JumpIfNotNew ∷ Jumpr ∷ Mux ∷ P2R ∷ []) ≡
    (0 ∷ 0 ∷ 0 ∷ 0 ∷ 0 ∷ 1 ∷ 2 ∷ []) ∷ (0 ∷ 0 ∷ 0 ∷ 0 ∷ 0 ∷ 1 ∷ 2 ∷ []) ∷ replicate 5 (1 ∷ 1 ∷ 1 ∷ 1 ∷ 1 ∷ 1 ∷ 2 ∷ [])
fresh_gaps = refl

gaps : map (gaps_of HEXAGON) (JumpIf ∷ JumpIfNot ∷ JumpIfNew ∷ JumpIfNotNew ∷ Jumpr ∷ Mux ∷ P2R ∷ []) ≡
    replicate 7 (1 ∷ 1 ∷ 1 ∷ 1 ∷ 1 ∷ 1 ∷ 2 ∷ [])
gaps = refl
