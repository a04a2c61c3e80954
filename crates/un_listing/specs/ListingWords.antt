-- The words of an instruction's text: the longest parts of letters, digits and the bytes `_`, `.`, `#`, `-` and `!`.
use Rattle.std.specs.Prelude.{ℕ, ℤ, pos, Bool, true, false, not, ◌||◌, ◌&&◌, ◌==◌, ◌+◌, ◌-◌, nat_eq, nat_lt, nat_le, List, [], ◌∷◌, Option, Some, None}
use Rattle.std.specs.Prelude.{codes, length, take, map, filter, if◌then◌else◌}
use Rattle.std.specs.List.{slice_split, ends_with}
use Rattle.std.specs.Option.{option_and_then, option_map_or}
use Rattle.un_base.specs.Names.{is_name, is_rest}
use Rattle.un_isa.specs.declared.reg.TheConstants.{GENERALS, PREDICATES}
use Rattle.un_isa.specs.declared.reg.Reg.{Reg}
use Rattle.un_words.specs.declared.token.Number.{Number}
use Rattle.un_words.specs.Tokens.{number_of}
use Rattle.un_packet.specs.CodeRules.{minus}
use Rattle.un_listing.specs.declared.word.Word.{Word}
use Rattle.un_listing.specs.declared.word.Word.TheVariants.{Named, Literal, Negated, NegatedFresh, Other}

-- ---- the readings of a word

abbrev pub name_of : List ℕ → Option (List ℕ)
name_of bytes = if is_name bytes then Some bytes else None

-- one of so many registers, the first of which has the number base
abbrev pub register_in : ℕ → ℕ → Number → Option Reg
register_in base count n = if not n.negative && nat_lt n.size count then Some (record { 0 = base + n.size }) else None

-- `r` or `p` and a number
abbrev pub reg_of : List ℕ → Option Reg
reg_of [] = None
reg_of (b ∷ bs) =
    if b == 114 then option_and_then (register_in 0 GENERALS) (number_of bs)
    else (if b == 112 then option_and_then (register_in GENERALS PREDICATES) (number_of bs)
    else None)

-- a register with `.new` behind it
abbrev pub fresh_of : List ℕ → Option Reg
fresh_of bytes = if ends_with nat_eq bytes (codes ".new") then reg_of (take (length bytes - 4) bytes) else None

abbrev pub signed : Bool → ℕ → ℤ
signed true n = minus n
signed false n = pos n

-- numbers that are too large for every literal are left out
abbrev pub small : Number → Option ℤ
small n = if nat_le n.size 65535 then Some (signed n.negative n.size) else None

abbrev pub literal_of : List ℕ → Option ℤ
literal_of bytes = option_and_then small (number_of bytes)

-- what the word is by a reading of it, or else Other
abbrev pub word_by : {A : Type 0} → (A → Word) → Option A → Word
word_by make read = option_map_or make read Other

-- what stands behind `!`
abbrev pub negated_of : List ℕ → Word
negated_of bytes = option_map_or Negated (reg_of bytes) (word_by NegatedFresh (fresh_of bytes))

-- a number behind `#`, a register behind `!`, or a name
abbrev pub word_of : List ℕ → Word
word_of [] = Other
word_of (b ∷ bs) =
    if b == 35 then word_by Literal (literal_of bs)
    else (if b == 33 then negated_of bs
    else word_by Named (name_of (b ∷ bs)))

-- ---- the words of a text

-- a byte that is in no word
abbrev pub is_between : ℕ → Bool
is_between b = not (is_rest b || b == 35 || b == 45 || b == 33)

abbrev pub is_some_text : List ℕ → Bool
is_some_text [] = false
is_some_text (b ∷ bs) = true

-- the word that the bytes are, if there are any
abbrev pub spelled : List ℕ → List Word
spelled bytes = if is_some_text bytes then word_of bytes ∷ [] else []

abbrev pub words_of : List ℕ → List Word
words_of text = map word_of (filter is_some_text (slice_split is_between text))
