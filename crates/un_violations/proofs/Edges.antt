-- What goes over an edge, found by loops.
use Rattle.std.proofs.Common.{◌≡◌, ◌↔◌, ℕ, ◌<◌, Bool, true, false, IsTrue, List, [], ◌∷◌, length}
use Rattle.std.proofs.Common.{get_or, refl, sym, ap, ◌∙◌, subst}
use Rattle.std.specs.Prelude.{◌==◌, ◌&&◌, is_none}
use Rattle.std.specs.List.{filter}
use Rattle.std.proofs.lemmas.Option.{slice_get_within, get_or_from_slice_get, slice_get-get_or}
use Rattle.un_ir.specs.declared.extended.ExtBlock.{ExtBlock}
use Rattle.un_model.specs.declared.schedule.LiveRange.{LiveRange}
use Rattle.un_model.specs.declared.schedule.Read.{Read}
use Rattle.un_model.specs.declared.schedule.Schedule.{Schedule}
use Rattle.un_violations.specs.Orders.{HandsAll, AllHandOn}
use Rattle.un_model.specs.Congruences.{live_out_reads, HandsOver, HandsOn}
use Rattle.un_model.specs.Congruences.{KeepsCongruences}

-- two tests, one after the other
both_filters : {A : Type 0} (p q : A → Bool) (xs : List A) → filter p (filter q xs) ≡ filter (λ (x : A). p x && q x) xs
both_filters p q [] = refl
both_filters {A} p q (x ∷ xs) = by (both_filters p q xs) (p x) (q x) refl refl
  where
    by : filter p (filter q xs) ≡ filter (λ (y : A). p y && q y) xs → (a b : Bool) → p x ≡ a → q x ≡ b
        → filter p (filter q (x ∷ xs)) ≡ filter (λ (y : A). p y && q y) (x ∷ xs)
    by rest true true e f = rw (f, e) (ap (λ (ys : List A). x ∷ ys) rest)
    by rest false true e f = rw (f, e) rest
    by rest true false e f = rw (f, e) rest
    by rest false false e f = rw (f, e) rest

handed_are : (k : ℕ) (reads : List Read)
    → filter (λ (r : Read). r.block.0 == k) (filter (λ (r : Read). is_none r.instr) reads) ≡ live_out_reads k reads
handed_are k reads = both_filters (λ (r : Read). r.block.0 == k) (λ (r : Read). is_none r.instr) reads

hands_on : (blocks : List ExtBlock) (t : Schedule) (k : ℕ) (a : ExtBlock)
    → HandsAll blocks t.ranges (live_out_reads k t.reads) k a ↔ HandsOn blocks t k a
unfolding HandsOn HandsOver
hands_on blocks t k a = (λ h. h, λ h. h)

pub hand_on_told : (blocks : List ExtBlock) (t : Schedule) (ends : List Read) (b : Bool)
    → ends ≡ filter (λ (r : Read). is_none r.instr) t.reads → IsTrue b ↔ AllHandOn blocks t.ranges ends
    → IsTrue b ↔ KeepsCongruences blocks t
hand_on_told blocks t ends b e told = (λ y. keeps (told.0 y), λ all. told.1 (hands all))
  where
    handed : (k : ℕ) → filter (λ (r : Read). r.block.0 == k) ends ≡ live_out_reads k t.reads
    handed k = ap (filter (λ (r : Read). r.block.0 == k)) e ∙ handed_are k t.reads

    keeps : AllHandOn blocks t.ranges ends → KeepsCongruences blocks t
    keeps h k a at =
        let lt = slice_get_within blocks k a at in
        let here : HandsAll blocks t.ranges (filter (λ (r : Read). r.block.0 == k) ends) k a = subst
        (λ (x : ExtBlock). HandsAll blocks t.ranges (filter (λ (r : Read). r.block.0 == k) ends) k x)
        (get_or_from_slice_get blocks k a a at) (h k a lt) in
        (hands_on blocks t k a).0 (subst (λ (rs : List Read). HandsAll blocks t.ranges rs k a) (handed k) here)

    hands : KeepsCongruences blocks t → AllHandOn blocks t.ranges ends
    hands h k a lt =
        let x = get_or blocks k a in
        subst (λ (rs : List Read). HandsAll blocks t.ranges rs k x) (sym (handed k))
        ((hands_on blocks t k x).1 (h k x (slice_get-get_or blocks k a lt)))

pub not_on : (blocks : List ExtBlock) (ranges : List LiveRange) (ends handed slice : List Read) (k : ℕ) (x : ExtBlock) (t : Bool)
    → k < length blocks → x ≡ get_or blocks k x → handed ≡ filter (λ (r : Read). r.block.0 == k) ends → slice ≡ handed
    → IsTrue t ↔ HandsAll blocks ranges slice k x → t ≡ false → IsTrue false ↔ AllHandOn blocks ranges ends
not_on blocks ranges ends handed slice k x t lt at h s told e = (
  λ no. absurd (cc no),
  λ all.
      let here : HandsAll blocks ranges (filter (λ (r : Read). r.block.0 == k) ends) k x = subst
      (λ (y : ExtBlock). HandsAll blocks ranges (filter (λ (r : Read). r.block.0 == k) ends) k y) (sym at) (all k x lt) in
      let y : t ≡ true = told.1 (subst (λ (rs : List Read). HandsAll blocks ranges rs k x) (sym (s ∙ h)) here) in
      absurd (cc (y, e)),
)
