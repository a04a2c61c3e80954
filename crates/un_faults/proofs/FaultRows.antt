-- Faults of lines that were worked out by hand: what each rule refuses, and which of two faults of one line is told.
use Rattle.std.specs.Prelude.{ℕ, ◌≡◌, List, [], ◌∷◌, Some, None, codes}
use Rattle.std.proofs.Common.{refl}
use Rattle.un_faults.specs.declared.fault.Fault.TheVariants.{BadLine, KindClash, TooMany, WideLiteral, BadFreq, DupLabel, NoBlock, AfterEnd}
use Rattle.un_faults.specs.LineFaults.{fault_at}

-- the lines of a function that begins, and one more
abbrev begun : List ℕ → List (List ℕ)
begun line = codes "func f" ∷ codes "block e freq 1" ∷ line ∷ []

largest_literal : fault_at (begun (codes "%a = imm #32767")) 2 ≡ None
largest_literal = refl

wide_literal : fault_at (begun (codes "%a = imm #32768")) 2 ≡ Some WideLiteral
wide_literal = refl

odd_offset : fault_at (begun (codes "%a = load %a, #2")) 2 ≡ Some WideLiteral
odd_offset = refl

clash_before_wide : fault_at (begun (codes "$p = imm #40000")) 2 ≡ Some KindClash
clash_before_wide = refl

clash_before_many : fault_at (codes "func f %a %b %c %d %e %f $g" ∷ []) 0 ≡ Some KindClash
clash_before_many = refl

many_parameters : fault_at (codes "func f %a %b %c %d %e %f %g" ∷ []) 0 ≡ Some TooMany
many_parameters = refl

wide_before_block : fault_at (codes "func f" ∷ codes "%a = imm #40000" ∷ []) 1 ≡ Some WideLiteral
wide_before_block = refl

before_block : fault_at (codes "func f" ∷ codes "%a = imm #4" ∷ []) 1 ≡ Some NoBlock
before_block = refl

no_frequency : fault_at (codes "func f" ∷ codes "block e freq 0" ∷ []) 1 ≡ Some BadFreq
no_frequency = refl

frequency_before_label : fault_at (codes "func f" ∷ codes "block e freq 1" ∷ codes "ret" ∷ codes "block e freq 0" ∷ []) 3 ≡ Some BadFreq
frequency_before_label = refl

same_label : fault_at (codes "func f" ∷ codes "block e freq 1" ∷ codes "ret" ∷ codes "block e freq 1" ∷ []) 3 ≡ Some DupLabel
same_label = refl

after_end : fault_at (codes "func f" ∷ codes "block e freq 1" ∷ codes "ret" ∷ codes "ret" ∷ []) 3 ≡ Some AfterEnd
after_end = refl

no_shape : fault_at (begun (codes "%a = imm 4")) 2 ≡ Some BadLine
no_shape = refl
