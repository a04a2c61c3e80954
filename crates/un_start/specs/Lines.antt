-- The lines of a text of a start. Each has one spelling.
use Rattle.std.specs.Prelude.{ℕ, ◌≡◌, ◌<◌, ◌^◌, List, ◌∷◌, ◌++◌, ◌≢◌, codes, decimal, map}
use Rattle.un_base.specs.Lines.{joined_lines}
use Rattle.un_start.specs.declared.line.Line.{Line}
use Rattle.un_start.specs.declared.line.Line.TheVariants.{Reg, Mem, Reply, Set, Junk, Blocks}
use Rattle.un_start.specs.declared.word.Word.{Word}
use Rattle.un_start.specs.declared.word.Word.TheVariants as WordOf

-- the first word of a line, by its kind
abbrev pub word_text : Word → List ℕ
word_text WordOf.Reg = codes "reg"
word_text WordOf.Mem = codes "mem"
word_text WordOf.Reply = codes "reply"
word_text WordOf.Set = codes "set"
word_text WordOf.Junk = codes "junk"
word_text WordOf.Blocks = codes "blocks"

abbrev pub word_of : Line → Word
word_of (Reg r n) = WordOf.Reg
word_of (Mem a w) = WordOf.Mem
word_of (Reply n) = WordOf.Reply
word_of (Set a w) = WordOf.Set
word_of (Junk r n) = WordOf.Junk
word_of (Blocks n) = WordOf.Blocks

abbrev pub two_numbers : ℕ → ℕ → List ℕ
two_numbers m n = decimal m ++ (codes " " ++ decimal n)

-- the numbers of a line
abbrev pub numbers_text : Line → List ℕ
numbers_text (Reg r n) = two_numbers r n
numbers_text (Mem a w) = two_numbers a w
numbers_text (Reply n) = decimal n
numbers_text (Set a w) = two_numbers a w
numbers_text (Junk r n) = two_numbers r n
numbers_text (Blocks n) = decimal n

-- a line without its line feed
abbrev pub line_text : Line → List ℕ
line_text l = word_text (word_of l) ++ (codes " " ++ numbers_text l)

-- the lines, each with its line feed
abbrev pub lines_text : List Line → List ℕ
lines_text ls = joined_lines (map line_text ls)

abbrev pub AreWords : ℕ → ℕ → Type 0
AreWords m n = (m < 2 ^ 32) × (n < 2 ^ 32)

-- the numbers of a line are numbers of 32 bits
abbrev pub Fits : Line → Type 0
Fits (Reg r n) = AreWords r n
Fits (Mem a w) = AreWords a w
Fits (Reply n) = n < 2 ^ 32
Fits (Set a w) = AreWords a w
Fits (Junk r n) = AreWords r n
Fits (Blocks n) = n < 2 ^ 32

-- the text begins with this line, and goes on so
pub record BeginsWith (text : List ℕ) (l : Line) (rest : List ℕ) : Type 0 where
  pub fits : Fits l
  pub whole : text ≡ line_text l ++ 10 ∷ rest

-- the text begins with no line
abbrev pub BeginsNoLine : List ℕ → Type 0
BeginsNoLine text = (l : Line) (rest : List ℕ) → Fits l → text ≢ line_text l ++ 10 ∷ rest
