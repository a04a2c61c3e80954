-- Places that wait, as flags and as a list.
use Rattle.std.proofs.Common.{ℕ, ◌≡◌, ◌≢◌, ◌<◌, ◌+◌, Bool, true, false, cond, List, [], ◌∷◌, ◌++◌, length, set, nat_eq, refl, sym, ap}
use Rattle.std.proofs.Common.{◌∙◌, subst, arith}
use Rattle.std.proofs.Common.{inl, inr}
use Rattle.std.specs.List.{sum_by, count_by}
use Rattle.std.proofs.lemmas.Bool.{cases_lt}
use Rattle.std.proofs.lemmas.Bool.Decides.{nat_tests}
use Rattle.std.proofs.lemmas.List.{get_or-set_same, get_or-set_other, get_or_past, length-set, length_push}
use Rattle.std.proofs.lemmas.List.Sums.{sum_by-cons, sum_by-set}
use Rattle.un_domains.specs.SetLaws.{same_or_not}
use Rattle.un_prop.specs.Queues.{waits, flag, Grows, IsQueue}
use Rattle.un_prop.proofs.RunLaws.{flags-le}

-- whether x is i, as a number
abbrev pub at : ℕ → ℕ → ℕ
at i x = cond (nat_eq x i) 1 0

at_same : (i : ℕ) → at i i ≡ 1
at_same i = let e : nat_eq i i ≡ true = grind (arith, nat_tests) in ap (λ (b : Bool). cond b 1 0) e

at_other : (i x : ℕ) → i ≢ x → at i x ≡ 0
at_other i x ne = let e : nat_eq x i ≡ false = grind (arith, nat_tests, ne) in ap (λ (b : Bool). cond b 1 0) e

flag_up : (b : Bool) → 0 < flag b → b ≡ true
flag_up true lt = cc
flag_up false lt = absurd (omega (arith, lt))

waits_within : (ws : List Bool) (i : ℕ) → waits ws i ≡ true → i < length ws
waits_within ws i is = elim (cases_lt i (length ws)) [
  | inl lt ↦ lt
  | inr le ↦ absurd (let off : waits ws i ≡ false = get_or_past ws i false le in cc (off, is))
]

module _ (ws : List Bool) (i : ℕ) where
  -- a flag more or less
  flags_up : i < length ws → waits ws i ≡ false → sum_by flag (set ws i true) ≡ sum_by flag ws + 1
  flags_up lt off =
      let one = sum_by-set flag ws i true false lt in
      let sums = subst (λ (b : Bool). sum_by flag (set ws i true) + flag b ≡ sum_by flag ws + 1) off one in
      omega (arith, sums)

  flags_down : i < length ws → waits ws i ≡ true → sum_by flag (set ws i false) + 1 ≡ sum_by flag ws
  flags_down lt on =
      let one = sum_by-set flag ws i false false lt in
      let sums = subst (λ (b : Bool). sum_by flag (set ws i false) + flag b ≡ sum_by flag ws + 0) on one in
      omega (arith, sums)

  flag_set : (b : Bool) → i < length ws → (j : ℕ) → i ≡ j → flag (waits (set ws i b) j) ≡ flag b
  flag_set b lt j e = ap flag (subst (λ (k : ℕ). waits (set ws i b) k ≡ b) e (get_or-set_same ws i b false lt))

  flag_kept : (b : Bool) (j : ℕ) → j ≢ i → flag (waits (set ws i b) j) ≡ flag (waits ws j)
  flag_kept b j ne = ap flag (get_or-set_other ws i j b false ne)

  -- what a list counts of one place more at its end
  count_last : (ps : List ℕ) (j : ℕ) → count_by (λ x. nat_eq x j) (ps ++ i ∷ []) ≡ count_by (λ x. nat_eq x j) ps + at j i
  count_last [] j = omega (arith, sum_by-cons (at j) i [])
  count_last (p ∷ ps) j = omega (arith, count_last ps j, sum_by-cons (at j) p (ps ++ i ∷ []), sum_by-cons (at j) p ps)

  count_first : (ps : List ℕ) (j : ℕ) → count_by (λ x. nat_eq x j) (i ∷ ps) ≡ at j i + count_by (λ x. nat_eq x j) ps
  count_first ps j = sum_by-cons (at j) i ps

  module _ (n : ℕ) (ls : List ℕ) (size : ℕ) (hs : List ℕ) (size' : ℕ) where
    -- there is room for one that does not wait
    pub queue_space : IsQueue ws n ls size hs size' → i < length ws → waits ws i ≡ false → (length ls < size) × (length hs < size')
    queue_space h lt off =
        let more = flags_up lt off in
        let most = flags-le (set ws i true) in
        let long = length-set ws i true in
        (omega (arith, more, most, long, h.long, h.room), omega (arith, more, most, long, h.long, h.heavy_room))

    -- one that waits as well
    pub queue_light : IsQueue ws n ls size hs size' → i < length ws → waits ws i ≡ false
        → IsQueue (set ws i true) n (ls ++ i ∷ []) size hs size'
    queue_light h lt off = record {
      weighed = omega (arith, h.weighed, length-set ws i true);
      once = λ j. elim (same_or_not j i) [
        | inl e ↦ (let one = h.once j in let last = count_last ls j in let up = flag_set true lt j (sym e) in
            let here : at j i ≡ 1 = subst (λ (k : ℕ). at k i ≡ 1) (sym e) (at_same i) in
            let was : flag (waits ws j) ≡ 0 = ap flag (subst (λ (k : ℕ). waits ws k ≡ false) (sym e) off) in
            omega (arith, one, last, up, here, was))
        | inr ne ↦ (let one = h.once j in let last = count_last ls j in let same = flag_kept true j ne in
            omega (arith, one, last, same, at_other j i ne))
      ];
      long = omega (arith, length_push ls i, flags_up lt off, h.long);
      room = omega (arith, length-set ws i true, h.room);
      heavy_room = omega (arith, length-set ws i true, h.heavy_room);
    }

    pub queue_heavy : IsQueue ws n ls size hs size' → i < length ws → waits ws i ≡ false
        → IsQueue (set ws i true) n ls size (hs ++ i ∷ []) size'
    queue_heavy h lt off = record {
      weighed = omega (arith, h.weighed, length-set ws i true);
      once = λ j. elim (same_or_not j i) [
        | inl e ↦ (let one = h.once j in let last = count_last hs j in let up = flag_set true lt j (sym e) in
            let here : at j i ≡ 1 = subst (λ (k : ℕ). at k i ≡ 1) (sym e) (at_same i) in
            let was : flag (waits ws j) ≡ 0 = ap flag (subst (λ (k : ℕ). waits ws k ≡ false) (sym e) off) in
            omega (arith, one, last, up, here, was))
        | inr ne ↦ (let one = h.once j in let last = count_last hs j in let same = flag_kept true j ne in
            omega (arith, one, last, same, at_other j i ne))
      ];
      long = omega (arith, length_push hs i, flags_up lt off, h.long);
      room = omega (arith, length-set ws i true, h.room);
      heavy_room = omega (arith, length-set ws i true, h.heavy_room);
    }

    -- the first of the light ones is taken
    module _ (h : IsQueue ws n (i ∷ ls) size hs size') where
      pub light_waits : (i < length ws) × (waits ws i ≡ true)
      light_waits =
          let on = flag_up (waits ws i) (omega (arith, h.once i, count_first ls i, at_same i)) in
          (waits_within ws i on, on)

      pub light_taken : IsQueue (set ws i false) n ls size hs size'
      light_taken = record {
        weighed = omega (arith, h.weighed, length-set ws i false);
        once = λ j. elim (same_or_not j i) [
          | inl e ↦ (let one = h.once j in let first = count_first ls j in let down = flag_set false light_waits.0 j (sym e) in
              let here : at j i ≡ 1 = subst (λ (k : ℕ). at k i ≡ 1) (sym e) (at_same i) in
              let was : flag (waits ws j) ≡ 1 = ap flag (subst (λ (k : ℕ). waits ws k ≡ true) (sym e) light_waits.1) in
              omega (arith, one, first, down, here, was))
          | inr ne ↦ (let one = h.once j in let first = count_first ls j in let same = flag_kept false j ne in
              omega (arith, one, first, same, at_other j i ne))
        ];
        long = omega (arith, flags_down light_waits.0 light_waits.1, h.long);
        room = omega (arith, length-set ws i false, h.room);
        heavy_room = omega (arith, length-set ws i false, h.heavy_room);
      }

    -- the first of the heavy ones is taken
    module _ (h : IsQueue ws n ls size (i ∷ hs) size') where
      pub heavy_waits : (i < length ws) × (waits ws i ≡ true)
      heavy_waits =
          let on = flag_up (waits ws i) (omega (arith, h.once i, count_first hs i, at_same i)) in
          (waits_within ws i on, on)

      pub heavy_taken : IsQueue (set ws i false) n ls size hs size'
      heavy_taken = record {
        weighed = omega (arith, h.weighed, length-set ws i false);
        once = λ j. elim (same_or_not j i) [
          | inl e ↦ (let one = h.once j in let first = count_first hs j in let down = flag_set false heavy_waits.0 j (sym e) in
              let here : at j i ≡ 1 = subst (λ (k : ℕ). at k i ≡ 1) (sym e) (at_same i) in
              let was : flag (waits ws j) ≡ 1 = ap flag (subst (λ (k : ℕ). waits ws k ≡ true) (sym e) heavy_waits.1) in
              omega (arith, one, first, down, here, was))
          | inr ne ↦ (let one = h.once j in let first = count_first hs j in let same = flag_kept false j ne in
              omega (arith, one, first, same, at_other j i ne))
        ];
        long = omega (arith, flags_down heavy_waits.0 heavy_waits.1, h.long);
        room = omega (arith, length-set ws i false, h.room);
        heavy_room = omega (arith, length-set ws i false, h.heavy_room);
      }

-- where no place is left, none waits
pub none_waits : (ws : List Bool) (n size size' : ℕ) → IsQueue ws n [] size [] size' → (i : ℕ) → waits ws i ≡ false
none_waits ws n size size' h i = by (waits ws i) (h.once i)
  where
    by : (b : Bool) → 0 ≡ flag b → b ≡ false
    by true e = absurd (omega (arith, e))
    by false e = refl

-- one that was taken waits again
pub raised_again : (ws ws1 ws2 : List Bool) (i : ℕ) → i < length ws → ws1 ≡ set ws i false → ws2 ≡ set ws1 i true
    → (length ws2 ≡ length ws) × Grows ws ws2
raised_again ws ws1 ws2 i lt taken raised =
    let long1 : length ws1 ≡ length ws = ap length taken ∙ length-set ws i false in (
      ap length raised ∙ (length-set ws1 i true ∙ long1),
      λ j on. subst (λ (xs : List Bool). waits xs j ≡ true) (sym raised) (elim (same_or_not j i) [
        | inl e ↦ subst (λ (k : ℕ). waits (set ws1 i true) k ≡ true) (sym e) (get_or-set_same ws1 i true false (omega (arith, lt, long1)))
        | inr ne ↦ get_or-set_other ws1 i j true false ne ∙ (ap (λ (xs : List Bool). waits xs j) taken
            ∙ (get_or-set_other ws i j false false ne ∙ on))
      ]),
    )
