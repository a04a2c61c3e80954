-- What the needs of instructions come to, and what lists of registers are by the tests on them.
use Rattle.std.proofs.Common.{◌≡◌, ◌≢◌, ◌↔◌, IsTrue, ℕ, suc, zero, ◌+◌, ◌<◌, ◌≤◌, ◌==◌, ◌||◌, not, Bool, true, false, List, [], ◌∷◌, map}
use Rattle.std.proofs.Common.{length, get_or, take, sum_by, refl, sym, ap, ◌∙◌, arith, ne_eqb, eq-eqb, true≢false}
use Rattle.std.specs.List.{AllPairs, list_any, range_with_len}
use Rattle.std.proofs.lemmas.Bool.{and_parts, eqb-true}
use Rattle.std.proofs.lemmas.List.{length-map, get_or-map, take_more_same, take_all}
use Rattle.std.proofs.lemmas.List.Sums.{sum_by-cons}
use Rattle.un_isa.specs.declared.reg.Reg.{Reg}
use Rattle.un_isa.specs.declared.instr.Instr.{Instr}
use Rattle.un_isa.specs.declared.reg.Space.{Space}
use Rattle.un_isa.specs.Registers.{space_of}
use Rattle.un_isa.specs.PacketCounts.{share_of}
use Rattle.un_isa.specs.declared.packet_counts.Resource.{Resource}
use Rattle.un_packet.specs.CodeRules.{needs_of, number}
use Rattle.un_listing_reader.specs.Needed.{counts_from, is_distinct}

pub totals_fit : (resource : Resource) (instrs : List Instr)
    → sum_by (share_of resource) (map needs_of instrs) ≡ sum_by (λ (i : Instr). share_of resource (needs_of i)) instrs
totals_fit resource [] = refl
totals_fit resource (i ∷ is) =
    sum_by-cons (share_of resource) (needs_of i) (map needs_of is)
    ∙ ap (λ n. share_of resource (needs_of i) + n) (totals_fit resource is)
    ∙ sym (sum_by-cons (λ (i : Instr). share_of resource (needs_of i)) i is)

-- a test that passes exactly where P holds
decided : (b : Bool) (P : Type 0) → (b ≡ true → P) → (P → b ≡ true) → IsTrue b ↔ P
decided true P f g = (λ h. f refl, λ p. refl)
decided false P f g = (λ h. absurd (cc h), λ p. g p)

-- ---- registers in order

counts_true : (k : ℕ) (rs : List Reg) → counts_from k rs ≡ true → map number rs ≡ range_with_len k (length rs)
counts_true k [] h = refl
counts_true k (r ∷ rs) h =
    let p = and_parts (r.0 == k) (counts_from (k + 1) rs) h in
    let first : r.0 ≡ k = eqb-true r.0 k p.0 in
    let rest = counts_true (k + 1) rs p.1 in
    cc

counts_back : (k : ℕ) (rs : List Reg) → map number rs ≡ range_with_len k (length rs) → counts_from k rs ≡ true
counts_back k [] e = refl
counts_back k (r ∷ rs) e =
    let first : r.0 ≡ k = cc e in
    let rest : map number rs ≡ range_with_len (k + 1) (length rs) = cc e in
    rw (eq-eqb r.0 k first, counts_back (k + 1) rs rest) refl

pub counts_decides : (rs : List Reg) → IsTrue (counts_from 0 rs) ↔ (map number rs ≡ range_with_len 0 (length rs))
counts_decides rs = decided (counts_from 0 rs) _ (counts_true 0 rs) (counts_back 0 rs)

-- ---- registers in spaces

abbrev pub spaces : List Reg → List Space
spaces rs = map (λ r. space_of r.0) rs

module _ (rs : List Reg) (ss : List Space) where
  -- the space of the register at a place, where they lie in these spaces
  pub space_at : (i : ℕ) (d : Reg) (e : Space) → i < length rs → spaces rs ≡ ss → space_of (get_or rs i d).0 ≡ get_or ss i e
  space_at i d e below same =
      sym (get_or-map (λ (r : Reg). space_of r.0) rs i d e below) ∙ ap (λ (ts : List Space). get_or ts i e) same

  pub one_more : (i : ℕ) (d : Reg) (e : Space) → length rs ≡ length ss → i < length rs → space_of (get_or rs i d).0 ≡ get_or ss i e
      → take i (spaces rs) ≡ take i ss → take (i + 1) (spaces rs) ≡ take (i + 1) ss
  one_more i d e long below here so_far =
      take_more_same (spaces rs) ss i e (omega (arith, length-map rs (λ (r : Reg). space_of r.0))) (omega arith) so_far
      (get_or-map (λ (r : Reg). space_of r.0) rs i d e below ∙ here)

  pub all_of_them : (i : ℕ) → length rs ≡ length ss → length rs ≤ i → take i (spaces rs) ≡ take i ss → spaces rs ≡ ss
  all_of_them i long past so_far =
      sym (take_all i (spaces rs) (omega (arith, length-map rs (λ (r : Reg). space_of r.0)))) ∙ so_far ∙ take_all i ss (omega arith)

  pub other_length : length rs ≢ length ss → spaces rs ≡ ss → ⊥
  other_length other same = other (sym (length-map rs (λ (r : Reg). space_of r.0)) ∙ ap length same)

-- ---- numbers that are apart

none_same : (n : ℕ) (ns : List ℕ) → list_any (λ m. m == n) ns ≡ false → (k d : ℕ) → k < length ns → n ≢ get_or ns k d
none_same n [] h k d below e = absurd (omega arith)
none_same n (m ∷ ms) h zero d below e = by (m == n) refl h
  where
    by : (v : Bool) → (m == n) ≡ v → (v || list_any (λ m. m == n) ms) ≡ false → ⊥
    by true f g = cc g
    by false f g = true≢false (sym (eq-eqb m n (sym e)) ∙ f)
none_same n (m ∷ ms) h (suc k) d below e = by (m == n) h (λ g. none_same n ms g k d (omega arith) e)
  where
    by : (v : Bool) → (v || list_any (λ m. m == n) ms) ≡ false → (list_any (λ m. m == n) ms ≡ false → ⊥) → ⊥
    by true g more = cc g
    by false g more = more g

distinct_true : (ns : List ℕ) → is_distinct ns ≡ true → AllPairs (λ (a b : ℕ). a ≢ b) ns
distinct_true [] h i j d below inside = absurd (omega arith)
distinct_true (n ∷ ns) h i zero d below inside = absurd (omega arith)
distinct_true (n ∷ ns) h zero (suc j) d below inside =
    let p = and_parts (not (list_any (λ m. m == n) ns)) (is_distinct ns) h in
    none_same n ns (by (list_any (λ m. m == n) ns) p.0) j d (omega arith)
  where
    by : (v : Bool) → not v ≡ true → v ≡ false
    by true e = absurd (cc e)
    by false e = refl
distinct_true (n ∷ ns) h (suc i) (suc j) d below inside =
    let p = and_parts (not (list_any (λ m. m == n) ns)) (is_distinct ns) h in
    distinct_true ns p.1 i j d (omega arith) (omega arith)

some_same : (n : ℕ) (ns : List ℕ) → ((k d : ℕ) → k < length ns → n ≢ get_or ns k d) → list_any (λ m. m == n) ns ≡ false
some_same n [] h = refl
some_same n (m ∷ ms) h =
    let other : (m == n) ≡ false = ne_eqb m n (λ e. h 0 0 (omega arith) (sym e)) in
    rw (other, some_same n ms (λ k d below. h (suc k) d (omega arith))) refl

distinct_back : (ns : List ℕ) → AllPairs (λ (a b : ℕ). a ≢ b) ns → is_distinct ns ≡ true
distinct_back [] h = refl
distinct_back (n ∷ ns) h =
    rw (
      some_same n ns (λ k d below. h zero (suc k) d (omega arith) (omega arith)),
      distinct_back ns
          (λ i j d below inside. h (suc i) (suc j) d (omega arith) (omega arith)),
    ) refl

pub distinct_decides : (ns : List ℕ) → IsTrue (is_distinct ns) ↔ AllPairs (λ (a b : ℕ). a ≢ b) ns
distinct_decides ns = decided (is_distinct ns) _ (distinct_true ns) (distinct_back ns)
