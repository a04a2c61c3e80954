-- Memory as a list of (address, word).
use Rattle.std.specs.Prelude.{ℕ, ◌≡◌, ◌<◌, ◌≤◌, ◌+◌, ◌%◌, length, slice_index_or, Bool, true, ◌&&◌, nat_eq, nat_le, List, [], ◌∷◌, Option}
use Rattle.std.specs.Prelude.{Some, None, if◌then◌else◌}

-- each address is a multiple of 4, and they rise from `low` on
abbrev pub is_memory_from : ℕ → List (ℕ × ℕ) → Bool
is_memory_from low [] = true
is_memory_from low (w ∷ ws) = nat_le low w.0 && nat_eq (w.0 % 4) 0 && is_memory_from (w.0 + 1) ws

abbrev pub is_memory : List (ℕ × ℕ) → Bool
is_memory words = is_memory_from 0 words

-- the word at an address, where there is one
abbrev pub word_at : ℕ → List (ℕ × ℕ) → Option ℕ
word_at a [] = None
word_at a (w ∷ ws) = if nat_eq w.0 a then Some w.1 else word_at a ws

-- the memory with another word at an address of it
abbrev pub set_word : ℕ → ℕ → List (ℕ × ℕ) → List (ℕ × ℕ)
set_word a v [] = []
set_word a v (w ∷ ws) = if nat_eq w.0 a then (a, v) ∷ ws else w ∷ set_word a v ws

-- the memory with other words at addresses of it
abbrev pub set_words : List (ℕ × ℕ) → List (ℕ × ℕ) → List (ℕ × ℕ)
set_words [] memory = memory
set_words (c ∷ cs) memory = set_words cs (set_word c.0 c.1 memory)

-- the address of the word at place i
abbrev pub address_at : List (ℕ × ℕ) → ℕ → ℕ
address_at words i = let word = slice_index_or words i (0, 0) in word.0

-- the address is that of the word at place i
pub record IsAddressAt (words : List (ℕ × ℕ)) (a i : ℕ) : Type 0 where
  pub in_range : i < length words
  pub address : address_at words i ≡ a

-- no word has the address: those before place i are lower, and those from it on are higher
pub record IsGapAt (words : List (ℕ × ℕ)) (a i : ℕ) : Type 0 where
  pub in_range : i ≤ length words
  pub lower_before : (j : ℕ) → j < i → address_at words j < a
  pub higher_after : (j : ℕ) → i ≤ j → j < length words → a < address_at words j
