-- What is found in a memory, and what a write does to it.
use Rattle.std.proofs.Common.{◌≡◌, ℕ, zero, suc, ◌+◌, ◌<◌, ◌≤◌, ◌≢◌, ◌%◌, Bool, true, false, nat_eq, List, [], ◌∷◌, length, get_or, set}
use Rattle.std.proofs.Common.{Some, None, Result, Ok, Err, IfOk, IfErr, refl, sym, ap, arith}
use Rattle.std.specs.List.Sorted.{IsSearchInRange, IsBinarySearchResult, IsNonDecreasingBy}
use Rattle.std.specs.Ordering.{nat_cmp, ordering_index}
use Rattle.std.proofs.lemmas.Cmp.{ranked}
use Rattle.std.proofs.lemmas.List.Sorted.{IsNonDecreasingBy-from_default}
use Rattle.std.proofs.lemmas.Bool.Decides.{nat_tests}
use Rattle.un_isa.specs.Memories.{is_memory, is_memory_from, word_at, set_word, address_at, IsAddressAt, IsGapAt}

-- what holds of the first word and of the rest
record IsHead (low : ℕ) (w : ℕ × ℕ) (ws : List (ℕ × ℕ)) : Type 0 where
  above : low ≤ w.0
  aligned : w.0 % 4 ≡ 0
  rest : is_memory_from (w.0 + 1) ws ≡ true

head_of : (low : ℕ) (w : ℕ × ℕ) (ws : List (ℕ × ℕ)) → is_memory_from low (w ∷ ws) ≡ true → IsHead low w ws
head_of low w ws h = record { above = grind (arith, nat_tests); aligned = grind (arith, nat_tests); rest = grind (arith, nat_tests) }

-- every address is at least the lowest allowed
above_low : (low : ℕ) (ws : List (ℕ × ℕ)) → is_memory_from low ws ≡ true → (i : ℕ) → i < length ws → low ≤ address_at ws i
above_low low [] h i less = absurd (omega arith)
above_low low (w ∷ ws) h zero less = (head_of low w ws h).above
above_low low (w ∷ ws) h (suc i) less =
    let head = head_of low w ws h in
    let later = above_low (w.0 + 1) ws head.rest i (omega arith) in omega (arith, head.above, later)

-- the addresses rise
abbrev IsRising : List (ℕ × ℕ) → Type 0
IsRising ws = (i j : ℕ) → i < j → j < length ws → address_at ws i < address_at ws j

rising : (low : ℕ) (ws : List (ℕ × ℕ)) → is_memory_from low ws ≡ true → IsRising ws
rising low [] h i j less short = absurd (omega arith)
rising low (w ∷ ws) h i zero less short = absurd (omega arith)
rising low (w ∷ ws) h zero (suc j) less short = omega (arith, above_low (w.0 + 1) ws (head_of low w ws h).rest j (omega arith))
rising low (w ∷ ws) h (suc i) (suc j) less short = rising (w.0 + 1) ws (head_of low w ws h).rest i j (omega arith) (omega arith)

module _ (l : List (ℕ × ℕ)) (sorted : IsRising l) (k : ℕ) where
  -- the comparisons with k rise along the list, as a binary search asks
  comparisons_rise : IsNonDecreasingBy (λ word. ordering_index (nat_cmp word.0 k)) l
  comparisons_rise = IsNonDecreasingBy-from_default (λ word. ordering_index (nat_cmp word.0 k)) l (0, 0) (λ i j le in_range.
      let keys_rise : address_at l i ≤ address_at l j = grind (arith, sorted i j, λ (same : i ≡ j). ap (address_at l) same) in
      grind (arith, nat_tests))

  -- a binary search by address ends at the address, or at the gap for it
  searched_sorted : (r : Result ℕ ℕ) → IsSearchInRange r (length l) → IsBinarySearchResult (λ word. nat_cmp word.0 k) l r
      → record { found : IfOk r (IsAddressAt l k); absent : IfErr r (IsGapAt l k) }
  searched_sorted (Ok at) in_range equal = record {
    found = record { in_range = in_range; address = ranked _ k _ (sym (equal (0, 0))) };
    absent = tt;
  }
  searched_sorted (Err at) in_range parted = record {
    found = tt;
    absent = record {
      in_range = in_range;
      lower_before = λ j lt. ranked _ k _ (sym ((parted comparisons_rise).0 j (0, 0) (omega arith) lt));
      higher_after = λ j le lt. ranked _ k _ (sym ((parted comparisons_rise).1 j (0, 0) le lt));
    };
  }

pub searched : (l : List (ℕ × ℕ)) → is_memory l ≡ true → (k : ℕ) (r : Result ℕ ℕ) → IsSearchInRange r (length l)
    → IsBinarySearchResult (λ word. nat_cmp word.0 k) l r → record { found : IfOk r (IsAddressAt l k); absent : IfErr r (IsGapAt l k) }
searched l h k r in_range found = searched_sorted l (rising 0 l h) k r in_range found

-- no word before place i has the address
abbrev NoneBefore : List (ℕ × ℕ) → ℕ → ℕ → Type 0
NoneBefore ws a i = (j : ℕ) → j < i → address_at ws j ≢ a

none_in_tail : (w : ℕ × ℕ) (ws : List (ℕ × ℕ)) (a i : ℕ) → NoneBefore (w ∷ ws) a (suc i) → NoneBefore ws a i
none_in_tail w ws a i none j less = none (suc j) (omega arith)

at_in_tail : (w : ℕ × ℕ) (ws : List (ℕ × ℕ)) (a i : ℕ) → IsAddressAt (w ∷ ws) a (suc i) → IsAddressAt ws a i
at_in_tail w ws a i at = record { in_range = omega (arith, at.in_range); address = at.address }

-- an address that no word has
absent : (ws : List (ℕ × ℕ)) (a : ℕ) → NoneBefore ws a (length ws) → word_at a ws ≡ None
absent [] a none = refl
absent (w ∷ ws) a none = grind (arith, nat_tests, none 0 (omega arith), absent ws a (none_in_tail w ws a _ none))

kept : (ws : List (ℕ × ℕ)) (a v : ℕ) → NoneBefore ws a (length ws) → set_word a v ws ≡ ws
kept [] a v none = refl
kept (w ∷ ws) a v none = grind (arith, nat_tests, none 0 (omega arith), kept ws a v (none_in_tail w ws a _ none))

-- the first word that has the address
present : (ws : List (ℕ × ℕ)) (a i : ℕ) → IsAddressAt ws a i → NoneBefore ws a i → word_at a ws ≡ Some (get_or ws i (0, 0)).1
present [] a i at none = absurd (omega (arith, at.in_range))
present (w ∷ ws) a zero at none = grind (arith, nat_tests, at.address)
present (w ∷ ws) a (suc i) at none = grind (
  arith,
  nat_tests,
  none 0 (omega arith),
  present ws a i (at_in_tail w ws a i at) (none_in_tail w ws a i none),
)

put : (ws : List (ℕ × ℕ)) (a v i : ℕ) → IsAddressAt ws a i → NoneBefore ws a i → set_word a v ws ≡ set ws i (a, v)
put [] a v i at none = absurd (omega (arith, at.in_range))
put (w ∷ ws) a v zero at none = grind (arith, nat_tests, at.address)
put (w ∷ ws) a v (suc i) at none = grind (
  arith,
  nat_tests,
  none 0 (omega arith),
  put ws a v i (at_in_tail w ws a i at) (none_in_tail w ws a i none),
)

before : (ws : List (ℕ × ℕ)) → is_memory ws ≡ true → (a i : ℕ) → IsAddressAt ws a i → NoneBefore ws a i
before ws h a i at j less same = omega (arith, rising 0 ws h j i less at.in_range, at.address)

in_gap : (ws : List (ℕ × ℕ)) (a i : ℕ) → IsGapAt ws a i → NoneBefore ws a (length ws)
in_gap ws a i gap j less same = grind (arith, gap.lower_before j, gap.higher_after j)

pub word_found : (ws : List (ℕ × ℕ)) → is_memory ws ≡ true → (a i : ℕ) → IsAddressAt ws a i → word_at a ws ≡ Some (get_or ws i (0, 0)).1
word_found ws h a i at = present ws a i at (before ws h a i at)

pub word_absent : (ws : List (ℕ × ℕ)) (a i : ℕ) → IsGapAt ws a i → word_at a ws ≡ None
word_absent ws a i gap = absent ws a (in_gap ws a i gap)

pub word_put : (ws : List (ℕ × ℕ)) → is_memory ws ≡ true → (a v i : ℕ) → IsAddressAt ws a i → set_word a v ws ≡ set ws i (a, v)
word_put ws h a v i at = put ws a v i at (before ws h a i at)

pub word_kept : (ws : List (ℕ × ℕ)) (a v i : ℕ) → IsGapAt ws a i → set_word a v ws ≡ ws
word_kept ws a v i gap = kept ws a v (in_gap ws a i gap)

-- a write keeps the addresses
kept_by : (a v low : ℕ) (w : ℕ × ℕ) (ws : List (ℕ × ℕ)) → is_memory_from (w.0 + 1) (set_word a v ws) ≡ is_memory_from (w.0 + 1) ws
    → (b : Bool) → nat_eq w.0 a ≡ b → is_memory_from low (set_word a v (w ∷ ws)) ≡ is_memory_from low (w ∷ ws)
kept_by a v low w ws more true e = let same : w.0 ≡ a = grind (arith, nat_tests) in rw e (rw same refl)
kept_by a v low w ws more false e = rw e (rw more refl)

still_from : (a v low : ℕ) (ws : List (ℕ × ℕ)) → is_memory_from low (set_word a v ws) ≡ is_memory_from low ws
still_from a v low [] = refl
still_from a v low (w ∷ ws) = kept_by a v low w ws (still_from a v (w.0 + 1) ws) (nat_eq w.0 a) refl

pub still_memory : (a v : ℕ) (ws : List (ℕ × ℕ)) → is_memory (set_word a v ws) ≡ is_memory ws
still_memory a v ws = still_from a v 0 ws
