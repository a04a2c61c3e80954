-- The words that are read off what an operation does.
use Rattle.std.specs.Prelude.{Bool, true, false, ◌||◌}
use Rattle.un_isa.specs.declared.op.Op.{Op}
use Rattle.un_isa.specs.declared.does.Does.{Does}
use Rattle.un_isa.specs.declared.does.Does.TheVariants.{Compares, Moves, Loads, Stores, Spills, Reloads, Calls, Jumps, Returns}
use Rattle.un_isa.specs.declared.does.Does.TheVariants.{OpensFrame, ClosesFrame, Rests}
use Rattle.un_isa.specs.declared.does.When.{When}
use Rattle.un_isa.specs.declared.does.When.TheVariants.{Always, IfTrue, IfFalse, IfNewTrue, IfNewFalse}
use Rattle.un_isa.specs.Facts.{does_of}

abbrev pub calls : Does → Bool
calls Calls = true
calls _ = false

abbrev pub jumps : Does → Bool
jumps (Jumps when) = true
jumps _ = false

-- by a predicate as it was before the packet
abbrev pub tests_old : When → Bool
tests_old IfTrue = true
tests_old IfFalse = true
tests_old _ = false

-- by a predicate as a compare of the packet writes it
abbrev pub tests_new : When → Bool
tests_new IfNewTrue = true
tests_new IfNewFalse = true
tests_new _ = false

abbrev pub branches : Does → Bool
branches (Jumps when) = tests_old when
branches _ = false

abbrev pub branches_new : Does → Bool
branches_new (Jumps when) = tests_new when
branches_new _ = false

abbrev pub compares : Does → Bool
compares Compares = true
compares _ = false

abbrev pub returns : Does → Bool
returns Returns = true
returns _ = false

abbrev pub leaves_always : Does → Bool
leaves_always (Jumps Always) = true
leaves_always Returns = true
leaves_always _ = false

abbrev pub copies : Does → Bool
copies Moves = true
copies Spills = true
copies Reloads = true
copies _ = false

abbrev pub writes : Does → Bool
writes Stores = true
writes Spills = true
writes _ = false

abbrev pub accesses : Does → Bool
accesses Loads = true
accesses Stores = true
accesses Spills = true
accesses Reloads = true
accesses _ = false

abbrev pub shifts : Does → Bool
shifts OpensFrame = true
shifts ClosesFrame = true
shifts _ = false

abbrev pub rests : Does → Bool
rests Rests = true
rests _ = false

abbrev pub is_call : Op → Bool
is_call op = calls (does_of op)

abbrev pub is_return : Op → Bool
is_return op = returns (does_of op)

-- a jump to a label
abbrev pub is_jump : Op → Bool
is_jump op = jumps (does_of op)

-- a jump that tests a predicate of an earlier packet
abbrev pub is_branch : Op → Bool
is_branch op = branches (does_of op)

-- a jump that tests the predicate that a compare of its own packet writes
abbrev pub is_new : Op → Bool
is_new op = branches_new (does_of op)

-- an operation that compares, and gives a predicate
abbrev pub is_compare : Op → Bool
is_compare op = compares (does_of op)

-- an instruction that leaves its block
abbrev pub is_transfer : Op → Bool
is_transfer op = is_jump op || is_return op

-- one that leaves it always
abbrev pub is_leaving : Op → Bool
is_leaving op = leaves_always (does_of op)

-- one that goes elsewhere: it leaves its block, or calls
abbrev pub is_control : Op → Bool
is_control op = is_call op || is_transfer op

-- one that gives its result the value that it reads
abbrev pub is_copy : Op → Bool
is_copy op = copies (does_of op)

-- one that writes memory or the frame
abbrev pub writes_memory : Op → Bool
writes_memory op = writes (does_of op)

-- one that reads or writes a word of memory or of the frame
abbrev pub is_word_access : Op → Bool
is_word_access op = accesses (does_of op)

-- one that moves the stack pointer
abbrev pub moves_stack : Op → Bool
moves_stack op = shifts (does_of op)

abbrev pub is_nop : Op → Bool
is_nop op = rests (does_of op)
