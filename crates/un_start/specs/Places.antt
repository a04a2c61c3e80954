-- Which line of a start may stand where: by itself, behind the line before it, and by what the lines before it give.
use Rattle.std.specs.Prelude.{ℕ, ◌%◌, ◌||◌, ◌&&◌, Bool, true, false, nat_eq, nat_lt, nat_le, List, [], ◌∷◌, Option, Some}
use Rattle.std.specs.Prelude.{None, length, replicate, slice_set}
use Rattle.std.specs.List.{fold, filter_map, list_any}
use Rattle.un_isa.specs.Starts.{is_clobbered}
use Rattle.un_isa.specs.declared.reg.TheConstants.{GENERALS, REGISTERS}
use Rattle.un_isa.specs.declared.start.Reply.{Reply as ReplyValue}
use Rattle.un_start.specs.declared.line.Line.{Line}
use Rattle.un_start.specs.declared.line.Line.TheVariants.{Reg, Mem, Reply, Set, Junk, Blocks}
use Rattle.un_start.specs.declared.place.TheConstants.{WORDS, REPLIES, MOST_BLOCKS}

-- ---- what lines give

-- all registers 0, but for those that have a line: the number that stands there
abbrev pub with_register : List ℕ → Line → List ℕ
with_register regs (Reg r n) = slice_set regs r n
with_register regs _ = regs

abbrev pub registers_in : List Line → List ℕ
registers_in ls = fold with_register (replicate REGISTERS 0) ls

-- the words of memory, by their addresses
abbrev pub word_on : Line → Option (ℕ × ℕ)
word_on (Mem a w) = Some (a, w)
word_on _ = None

abbrev pub words_in : List Line → List (ℕ × ℕ)
words_in ls = filter_map word_on ls

-- the lines of a reply, behind its first: those up to the next reply
abbrev pub own_lines : List Line → List Line
own_lines [] = []
own_lines (Reply n ∷ ls) = []
own_lines (l ∷ ls) = l ∷ own_lines ls

abbrev pub change_on : Line → Option (ℕ × ℕ)
change_on (Set a w) = Some (a, w)
change_on _ = None

-- what is left in registers: 0, but for those that have a line
abbrev pub with_junk : List ℕ → Line → List ℕ
with_junk junk (Junk r n) = slice_set junk r n
with_junk junk _ = junk

-- a reply with this result and these lines of its own
abbrev pub reply_of : ℕ → List Line → ReplyValue
reply_of n own = record { result = n; changed = filter_map change_on own; junk = fold with_junk (replicate REGISTERS 0) own }

abbrev pub replies_in : List Line → List ReplyValue
replies_in [] = []
replies_in (Reply n ∷ ls) = reply_of n (own_lines ls) ∷ replies_in ls
replies_in (l ∷ ls) = replies_in ls

abbrev pub last_of : List Line → Option Line
last_of [] = None
last_of (l ∷ []) = Some l
last_of (l ∷ m ∷ ls) = last_of (m ∷ ls)

-- ---- which line may stand

-- a predicate holds 0 or 1
abbrev pub holds : ℕ → ℕ → Bool
holds r n = nat_lt r GENERALS || nat_lt n 2

-- a call leaves junk in what it clobbers, but in r0 its result
abbrev pub takes_junk : ℕ → Bool
takes_junk r = nat_lt 0 r && nat_lt r REGISTERS && is_clobbered r

-- a line that may stand somewhere: its register is there, and takes its number; its address is one of a word
abbrev pub is_good : Line → Bool
is_good (Reg r n) = nat_lt r REGISTERS && holds r n
is_good (Mem a w) = nat_eq (a % 4) 0
is_good (Reply n) = true
is_good (Set a w) = true
is_good (Junk r n) = takes_junk r && holds r n
is_good (Blocks n) = nat_le n MOST_BLOCKS

-- a line may stand directly behind another one, or first: registers come first, then words of memory, then replies, each with its changes
-- and then its junk, and last the number of blocks. Numbers of registers and addresses rise.
abbrev pub follows : Line → Option Line → Bool
follows (Reg r n) None = true
follows (Reg r n) (Some (Reg q m)) = nat_lt q r
follows (Reg r n) _ = false
follows (Mem a w) None = true
follows (Mem a w) (Some (Reg q m)) = true
follows (Mem a w) (Some (Mem b v)) = nat_lt b a
follows (Mem a w) _ = false
follows (Set a w) (Some (Reply m)) = true
follows (Set a w) (Some (Set b v)) = nat_lt b a
follows (Set a w) _ = false
follows (Junk r n) (Some (Reply m)) = true
follows (Junk r n) (Some (Set b v)) = true
follows (Junk r n) (Some (Junk q m)) = nat_lt q r
follows (Junk r n) _ = false
follows _ (Some (Blocks m)) = false
follows _ _ = true

-- there is a word at the address
abbrev pub has_word : List (ℕ × ℕ) → ℕ → Bool
has_word words a = list_any (λ (w : ℕ × ℕ). nat_eq w.0 a) words

-- there are not too many words and replies, and a call changes words of the memory
abbrev pub has_room : Line → List (ℕ × ℕ) → ℕ → Bool
has_room (Mem a w) words replies = nat_lt (length words) WORDS
has_room (Reply n) words replies = nat_lt replies REPLIES
has_room (Set a w) words replies = has_word words a
has_room _ words replies = true

-- by the line before, the words and the number of replies so far
abbrev pub fits_in : Line → Option Line → List (ℕ × ℕ) → ℕ → Bool
fits_in l last words replies = is_good l && follows l last && has_room l words replies

-- the line may stand behind these lines
abbrev pub is_next : List Line → Line → Bool
is_next before l = fits_in l (last_of before) (words_in before) (length (replies_in before))
