-- Texts and lines with two faults, worked out by hand: which of the two is told.
use Rattle.std.specs.Prelude.{ℕ, ◌≡◌, false, List, [], ◌∷◌, Some, None, codes, map}
use Rattle.std.specs.List.{range_with_len}
use Rattle.std.proofs.Common.{refl}
use Rattle.un_isa.specs.declared.op.Op.TheVariants.{Imm}
use Rattle.un_faults.specs.declared.before.Before.{Before}
use Rattle.un_faults.specs.declared.fault.Fault.TheVariants.{TooMany, WideLiteral, FallsOff, UnknownLabel, JumpToEntry, MixedResult}
use Rattle.un_faults.specs.LineFaults.{shaped_fault}
use Rattle.un_words.specs.Shapes.{line_of}
use Rattle.un_faults.specs.TextFaults.{shape_fault}
use Rattle.un_faults.specs.Vocabulary.{General, Line, Block, Operation, Spelled}

-- ---- lines, behind 120 names and 64 labels of one letter each

abbrev letters : List (List ℕ)
letters = map (λ (n : ℕ). n ∷ []) (range_with_len 65 120)

abbrev full : Before
full = record {
  name = Some (codes "f");
  labels = map (λ (n : ℕ). n ∷ []) (range_with_len 65 64);
  names = map (λ (name : List ℕ). let spelled : Spelled = (name, General) in spelled) letters;
  ops = 40;
  ended = false;
}

-- an Imm of this number to a name that is new, or not
abbrev imm : List ℕ → ℕ → Line
imm name n = Operation (record {
  op = Imm;
  dst = Some (name, General);
  srcs = [];
  imm = record { negative = false; size = n };
  callee = None;
})

a_name_too_many : shaped_fault full (Some (imm (codes "new") 4)) ≡ Some TooMany
a_name_too_many = refl

known_name : shaped_fault full (Some (imm (codes "A") 4)) ≡ None
known_name = refl

many_before_wide : shaped_fault full (Some (imm (codes "new") 40000)) ≡ Some TooMany
many_before_wide = refl

wide : shaped_fault full (Some (imm (codes "A") 40000)) ≡ Some WideLiteral
wide = refl

-- a 65th block, with a frequency of 0 and a label that stands twice
many_before_frequency_and_label : shaped_fault full (Some (Block (codes "A") (record { negative = false; size = 0 }))) ≡ Some TooMany
many_before_frequency_and_label = refl

-- ---- texts

abbrev falls_off : List (List ℕ)
falls_off = codes "func f" ∷ codes "block e freq 1" ∷ codes "jump y" ∷ codes "block x freq 1" ∷ []

falls_before_unknown : shape_fault (map line_of falls_off) ≡ Some (4, FallsOff)
falls_before_unknown = refl

abbrev entry_and_unknown : List (List ℕ)
entry_and_unknown = codes "func f" ∷ codes "block e freq 1" ∷ codes "jump e" ∷ codes "block x freq 1" ∷ codes "jump y" ∷ []

unknown_before_entry : shape_fault (map line_of entry_and_unknown) ≡ Some (5, UnknownLabel)
unknown_before_entry = refl

-- the second return, of another form than the first, stands before the jump to the entry
abbrev mixed_and_entry : List (List ℕ)
mixed_and_entry =
    codes "func f %a" ∷ codes "block e freq 1" ∷ codes "ret" ∷ codes "block x freq 1" ∷ codes "ret %a"
    ∷ codes "block y freq 1" ∷ codes "jump e" ∷ []

entry_before_mixed : shape_fault (map line_of mixed_and_entry) ≡ Some (7, JumpToEntry)
entry_before_mixed = refl

abbrev two_returns : List (List ℕ)
two_returns = codes "func f %a" ∷ codes "block e freq 1" ∷ codes "ret" ∷ codes "block x freq 1" ∷ codes "ret %a" ∷ []

mixed : shape_fault (map line_of two_returns) ≡ Some (5, MixedResult)
mixed = refl
