-- What the operations of a block take together in an interval of cycles has room in its packets.
use Rattle.std.proofs.Common.{ℕ, zero, suc, ◌≡◌, ◌≤◌, ◌+◌, ◌*◌, Bool, true, false, List, [], ◌∷◌, map, inl, inr, refl, ap, ◌∙◌, arith}
use Rattle.std.specs.Prelude.{◌&&◌, ◌==◌, nat_le, nat_lt, nat_eq, sum_by, if◌then◌else◌}
use Rattle.std.proofs.lemmas.Bool.{cases_lt}
use Rattle.std.proofs.lemmas.Bool.Decides.{nat_tests}
use Rattle.std.proofs.lemmas.List.Sums.{sum_by-cons}
use Rattle.un_isa.specs.PacketCounts.{places_of}
use Rattle.un_isa.specs.declared.packet_counts.Resource.{Resource}
use Rattle.un_isa.specs.declared.table.Table.{Table}
use Rattle.un_ir.specs.declared.extended.Ext.{Ext}
use Rattle.un_model.specs.declared.model.Options.{Options}
use Rattle.un_model.specs.declared.schedule.Issue.{Issue}
use Rattle.un_model.specs.Schedules.{issues_of}
use Rattle.un_model.specs.Solutions.{share_of, issues_at, taken, HasRoom}
use Rattle.un_model.specs.Variables.{model_of}
use Rattle.un_lists.proofs.Lists.{Member}
use Rattle.un_model.proofs.Placed.{Placed, issue_at, issues_are}
use Rattle.un_model.proofs.PlacedSchedules.{all}
use Rattle.un_model.proofs.Readings.{Solved}

-- ---- sums

pub sum_mapped : {A B : Type 0} (f : B → ℕ) (g : A → B) (xs : List A) → sum_by f (map g xs) ≡ sum_by (λ x. f (g x)) xs
sum_mapped f g [] = refl
sum_mapped f g (x ∷ xs) =
    let a = sum_by-cons f (g x) (map g xs) in
    let b = sum_by-cons (λ y. f (g y)) x xs in
    let rest = sum_mapped f g xs in
    omega (arith, a, b, rest)

-- what is no more of each is no more together
pub sum_less : {A : Type 0} (f g : A → ℕ) (xs : List A) → ((x : A) → Member x xs → f x ≤ g x) → sum_by f xs ≤ sum_by g xs
sum_less f g [] h = omega arith
sum_less f g (x ∷ xs) h =
    let a = sum_by-cons f x xs in
    let b = sum_by-cons g x xs in
    let here = h x (inl refl) in
    let rest = sum_less f g xs (λ y m. h y (inr m)) in
    omega (arith, a, b, here, rest)

sum_added : {A : Type 0} (f g k : A → ℕ) (xs : List A) → ((x : A) → k x ≡ f x + g x) → sum_by k xs ≡ sum_by f xs + sum_by g xs
sum_added f g k [] h = refl
sum_added f g k (x ∷ xs) h =
    let a = sum_by-cons f x xs in
    let b = sum_by-cons g x xs in
    let c = sum_by-cons k x xs in
    let here = h x in
    let rest = sum_added f g k xs h in
    omega (arith, a, b, c, here, rest)

sum_none : {A : Type 0} (f : A → ℕ) (xs : List A) → ((x : A) → f x ≡ 0) → sum_by f xs ≡ 0
sum_none f [] h = refl
sum_none f (x ∷ xs) h =
    let a = sum_by-cons f x xs in
    let here = h x in
    let rest = sum_none f xs h in
    omega (arith, a, here, rest)

-- ---- one operation

-- in an interval of n cycles, or in the cycle behind it
apart_or_last : (here : Bool) (lo n c share : ℕ)
    → (if here && (nat_le lo c && nat_lt c (lo + suc n)) then share else 0) ≡
    (if here && (nat_le lo c && nat_lt c (lo + n)) then share else 0) + (if here && (c == (lo + n)) then share else 0)
apart_or_last false lo n c share = refl
apart_or_last true lo n c share = elim (cases_lt c lo) [
  | inl before ↦ (
      let a : nat_le lo c ≡ false = grind (arith, nat_tests, before) in
      let b : nat_eq c (lo + n) ≡ false = grind (arith, nat_tests, before) in
      rw (a, b) refl)
  | inr from ↦ elim (cases_lt c (lo + n)) [
    | inl within ↦ (
        let a : nat_le lo c ≡ true = grind (arith, nat_tests, from) in
        let b : nat_lt c (lo + suc n) ≡ true = grind (arith, nat_tests, within) in
        let d : nat_lt c (lo + n) ≡ true = grind (arith, nat_tests, within) in
        let f : nat_eq c (lo + n) ≡ false = grind (arith, nat_tests, within) in
        rw (a, b, d, f) (omega arith))
    | inr past ↦ elim (cases_lt (lo + n) c) [
      | inl later ↦ (
          let b : nat_lt c (lo + suc n) ≡ false = grind (arith, nat_tests, later) in
          let d : nat_lt c (lo + n) ≡ false = grind (arith, nat_tests, later) in
          let f : nat_eq c (lo + n) ≡ false = grind (arith, nat_tests, later) in
          let a : nat_le lo c ≡ true = grind (arith, nat_tests, from) in
          rw (a, b, d, f) refl)
      | inr least ↦ (
          let a : nat_le lo c ≡ true = grind (arith, nat_tests, from) in
          let b : nat_lt c (lo + suc n) ≡ true = grind (arith, nat_tests, least) in
          let d : nat_lt c (lo + n) ≡ false = grind (arith, nat_tests, past) in
          let f : nat_eq c (lo + n) ≡ true = grind (arith, nat_tests, past, least) in
          rw (a, b, d, f) (omega arith))
    ]
  ]
]

no_cycles : (here : Bool) (lo c share : ℕ) → (if here && (nat_le lo c && nat_lt c (lo + 0)) then share else 0) ≡ 0
no_cycles false lo c share = refl
no_cycles true lo c share = elim (cases_lt c lo) [
  | inl before ↦ (let a : nat_le lo c ≡ false = grind (arith, nat_tests, before) in rw a refl)
  | inr from ↦ (
      let a : nat_le lo c ≡ true = grind (arith, nat_tests, from) in
      let b : nat_lt c (lo + 0) ≡ false = grind (arith, nat_tests, from) in
      rw (a, b) refl)
]

fits_one : (t : Table) (issues : List Issue) (b c : ℕ) (r : Resource) → HasRoom t issues b c → taken t r issues b c ≤ places_of r
unfolding HasRoom
fits_one t issues b c r room = room r

module _ (e : Ext) (o : Options) (x : List ℕ) (h : Solved e o x) where
  abbrev issued_at : Resource → ℕ → ℕ → Placed → ℕ
  issued_at r b c q = if issues_at b c (issue_at x q) then share_of e.table r (issue_at x q).instr else 0

  -- what an operation of block b takes of a resource in the n cycles from `lo` on
  abbrev pub issued_in : Resource → ℕ → ℕ → ℕ → Placed → ℕ
  issued_in r b lo n q =
      if (q.block == b) && (nat_le lo (issue_at x q).cycle && nat_lt (issue_at x q).cycle (lo + n))
      then share_of e.table r (issue_at x q).instr else 0

  one_cycle : (r : Resource) (b c : ℕ) → sum_by (issued_at r b c) (all e o x) ≤ places_of r
  one_cycle r b c =
      let schedule = h.schedule in
      let packets = schedule.packets in
      let issues = issues_of (model_of e o) x in
      let le = fits_one e.table issues b c r (packets b c) in
      let f : Issue → ℕ = λ i. if issues_at b c i then share_of e.table r i.instr else 0 in
      let is : taken e.table r issues b c ≡ sum_by (issued_at r b c) (all e o x) =
      ap (sum_by f) (issues_are x 0 0 0 e.blocks) ∙ sum_mapped f (issue_at x) (all e o x) in
      omega (arith, le, is)

  -- together no more than their packets have
  pub interval_fits : (r : Resource) (b lo n : ℕ) → sum_by (issued_in r b lo n) (all e o x) ≤ n * places_of r
  interval_fits r b lo zero =
      let none = sum_none (issued_in r b lo 0) (all e o x) (λ q. no_cycles (q.block == b) lo (issue_at x q).cycle
      (share_of e.table r (issue_at x q).instr)) in
      omega (arith, none)
  interval_fits r b lo (suc n) =
      let rest = interval_fits r b lo n in
      let last = one_cycle r b (lo + n) in
      let parts = sum_added (issued_in r b lo n) (issued_at r b (lo + n)) (issued_in r b lo (suc n)) (all e o x)
      (λ q. apart_or_last (q.block == b) lo n (issue_at x q).cycle (share_of e.table r (issue_at x q).instr)) in
      let more : suc n * places_of r ≡ n * places_of r + places_of r = grind arith in
      omega (arith, rest, last, parts, more)
