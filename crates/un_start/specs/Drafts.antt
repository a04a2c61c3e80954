-- What lines come to, one after another.
use Rattle.std.specs.Prelude.{ℕ, ◌≡◌, List, [], ◌∷◌, ◌++◌, Option, Some, None, length}
use Rattle.std.specs.Option.{option_to_list}
use Rattle.un_isa.specs.declared.start.Reply.{Reply as ReplyValue}
use Rattle.un_start.specs.declared.line.Line.{Line}
use Rattle.un_start.specs.declared.line.Line.TheVariants.{Reply, Set, Junk, Blocks}
use Rattle.un_start.specs.declared.draft.Draft.{Draft}
use Rattle.un_start.specs.Lines.{line_text, lines_text}
use Rattle.un_start.specs.Places.{last_of, registers_in, words_in, replies_in, reply_of, change_on, with_junk}
use Rattle.un_start.specs.StartTexts.{MayStand, AllStand, BeginsNoNext}

-- the draft is what these lines give
pub record IsDraftOf (d : Draft) (ls : List Line) : Type 0 where
  pub last : d.last ≡ last_of ls
  pub count : d.count ≡ length ls
  pub regs : d.regs ≡ registers_in ls
  pub words : d.words.items ≡ words_in ls
  pub replies : d.replies.items ≡ replies_in ls

-- the list with another last item
abbrev pub with_last : {X : Type 0} → (X → X) → List X → List X
with_last f [] = []
with_last f (x ∷ []) = f x ∷ []
with_last f (x ∷ y ∷ xs) = x ∷ with_last f (y ∷ xs)

-- a reply with one line more of its own
abbrev pub with_own : Line → ReplyValue → ReplyValue
with_own l r = record r { changed = r.changed ++ option_to_list (change_on l); junk = with_junk r.junk l }

-- replies behind one line more
abbrev pub with_line : List ReplyValue → Line → List ReplyValue
with_line rs (Reply n) = rs ++ reply_of n [] ∷ []
with_line rs (Set a w) = with_last (with_own (Set a w)) rs
with_line rs (Junk r n) = with_last (with_own (Junk r n)) rs
with_line rs _ = rs

-- the first line of a text, taken to what these lines gave: it may stand there, and the draft is what they and it give
pub record IsTaken (ls : List Line) (text rest : List ℕ) (d : Draft) : Type 0 where
  pub line : Line
  pub stands : MayStand ls line
  pub whole : text ≡ line_text line ++ 10 ∷ rest
  pub draft : IsDraftOf d (ls ++ line ∷ [])

-- the lines that are taken of a text, up to the first that may not stand where it stands
pub record IsReadTo (text rest : List ℕ) (d : Draft) : Type 0 where
  pub lines : List Line
  pub stand : AllStand lines
  pub whole : text ≡ lines_text lines ++ rest
  pub draft : IsDraftOf d lines
  pub bad : BeginsNoNext lines rest

-- the number of blocks that a line tells
abbrev pub count_in : Option Line → Option ℕ
count_in (Some (Blocks n)) = Some n
count_in _ = None

-- the same of the last line, where no text is left behind it
abbrev pub ending : Option Line → List ℕ → Option ℕ
ending last [] = count_in last
ending last (b ∷ bs) = None
