-- What the operations read, write and take as a literal, and memory, replies and starts: values written down from the
-- description of the processor and of starts.
use Rattle.std.specs.Prelude.{ℕ, pos, negsuc, ◌≡◌, true, false, List, [], ◌∷◌, ◌++◌, map, replicate, Option, Some, None}
use Rattle.std.proofs.Common.{refl}
use Rattle.un_isa.specs.declared.facts.Range.{Range}
use Rattle.un_isa.specs.declared.facts.Range.TheVariants.{Signed16, Signed10, Unsigned5, Offset, FrameOffset}
use Rattle.un_isa.specs.declared.op.Op.TheVariants.{Add, Call}
use Rattle.un_isa.specs.declared.reg.Space.{Space}
use Rattle.un_isa.specs.declared.reg.Space.TheVariants.{R, P}
use Rattle.un_isa.specs.declared.start.Reply.{Reply}
use Rattle.un_isa.specs.Facts.{all_ops, operand_spaces, operand_space, result_space, literal_range}
use Rattle.un_isa.specs.Memories.{is_memory, word_at, set_word, set_words}
use Rattle.un_isa.specs.Starts.{is_reply, is_start}
use Rattle.un_isa.specs.Words.{address_of}

-- ---- operations, in their order

abbrev none : List Space
none = []

abbrev one : List Space
one = R ∷ []

abbrev two : List Space
two = R ∷ R ∷ []

operands : map operand_spaces all_ops ≡
    none ∷ one ∷ two ∷ two ∷ two ∷ two ∷ two ∷ one ∷ one ∷ one ∷ (P ∷ R ∷ R ∷ []) ∷ two ∷
    two ∷ two ∷ one ∷ one ∷ two ∷ one ∷ one ∷ one ∷ one ∷ two ∷ none ∷ none ∷
    (P ∷ []) ∷ (P ∷ []) ∷ one ∷ one ∷ none ∷ (P ∷ []) ∷ one ∷ none ∷ none ∷ none ∷
    (P ∷ []) ∷ (P ∷ []) ∷ []
operands = refl

arguments : operand_space Call 5 ∷ operand_space Add 1 ∷ operand_space Add 2 ∷ [] ≡ Some R ∷ Some R ∷ None ∷ []
arguments = refl

abbrev word : Option Space
word = Some R

abbrev truth : Option Space
truth = Some P

results : map result_space all_ops ≡
    word ∷ word ∷ word ∷ word ∷ word ∷ word ∷ word ∷ word ∷ word ∷ word ∷ word ∷ truth ∷
    truth ∷ truth ∷ truth ∷ truth ∷ word ∷ word ∷ word ∷ word ∷ word ∷ None ∷ word ∷ None ∷
    None ∷ None ∷ None ∷ None ∷ word ∷ word ∷ truth ∷ None ∷ None ∷ None ∷ None ∷ None ∷ []
results = refl

abbrev s16 : Option Range
s16 = Some Signed16

abbrev s10 : Option Range
s10 = Some Signed10

abbrev u5 : Option Range
u5 = Some Unsigned5

literals : map literal_range all_ops ≡
    s16 ∷ None ∷ None ∷ None ∷ None ∷ None ∷ None ∷ s16 ∷ s10 ∷ s10 ∷ None ∷ None ∷
    None ∷ None ∷ s10 ∷ s10 ∷ None ∷ u5 ∷ u5 ∷ u5 ∷ Some Offset ∷ Some Offset ∷ None ∷ None ∷
    None ∷ None ∷ None ∷ Some FrameOffset ∷ Some FrameOffset ∷ None ∷ None ∷ None ∷ None ∷ None ∷
    None ∷ None ∷ []
literals = refl

-- ---- addresses and memory

-- they wrap at 32 bits, on both sides
addresses : address_of 256 (negsuc 3) ∷ address_of 4294967292 (pos 8) ∷ address_of 0 (negsuc 3) ∷ [] ≡ 252 ∷ 4 ∷ 4294967292 ∷ []
addresses = refl

-- addresses rise and are multiples of 4
memories : is_memory [] ∷ is_memory ((0, 9) ∷ (4, 9) ∷ []) ∷ is_memory ((4, 9) ∷ (4, 9) ∷ [])
    ∷ is_memory ((8, 9) ∷ (4, 9) ∷ []) ∷ is_memory ((2, 9) ∷ []) ∷ []
    ≡ true ∷ true ∷ false ∷ false ∷ false ∷ []
memories = refl

abbrev words : List (ℕ × ℕ)
words = (8, 1) ∷ (12, 2) ∷ []

reads : word_at 12 words ∷ word_at 10 words ∷ word_at 16 words ∷ [] ≡ Some 2 ∷ None ∷ None ∷ []
reads = refl

writes : set_word 12 7 words ≡ (8, 1) ∷ (12, 7) ∷ []
writes = refl

-- no word is added
writes_nothing : set_word 16 7 words ≡ words
writes_nothing = refl

changes : set_words ((8, 3) ∷ (12, 4) ∷ []) words ≡ (8, 3) ∷ (12, 4) ∷ []
changes = refl

-- ---- replies and starts

abbrev reply : List (ℕ × ℕ) → List ℕ → Reply
reply changed junk = record { result = 5; changed = changed; junk = junk }

abbrev quiet : List ℕ
quiet = replicate 36 0

-- it changes words of this memory alone, in rising order; r1 and p3 may have junk, r16 may not, and p3 is 0 or 1
replies : is_reply words (reply ((12, 3) ∷ []) quiet) ∷ is_reply words (reply ((16, 3) ∷ []) quiet)
    ∷ is_reply words (reply ((12, 3) ∷ (8, 3) ∷ []) quiet) ∷ is_reply words (reply [] (0 ∷ 77 ∷ replicate 33 0 ++ 1 ∷ []))
    ∷ is_reply words (reply [] (replicate 16 0 ++ 77 ∷ replicate 19 0)) ∷ is_reply words (reply [] (replicate 35 0 ++ 2 ∷ [])) ∷ []
    ≡ true ∷ false ∷ false ∷ true ∷ false ∷ false ∷ []
replies = refl

-- a start has predicates, a memory and replies
starts : is_start quiet words (reply [] quiet ∷ []) ∷ is_start (replicate 35 0 ++ 2 ∷ []) words [] ∷ is_start quiet ((2, 1) ∷ []) []
    ∷ is_start quiet words (reply [] quiet ∷ reply ((16, 3) ∷ []) quiet ∷ []) ∷ []
    ≡ true ∷ false ∷ false ∷ false ∷ []
starts = refl
