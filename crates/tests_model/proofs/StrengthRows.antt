-- Stores that keep and that break each row of the table of strength, worked out by hand.
use Rattle.std.specs.Prelude.{ℕ, zero, suc, ◌≡◌, ◌+◌, ◌<◌, ◌≤◌, ◌⊎◌, Bool, true, false, ◌||◌, nat_eq, List, [], ◌∷◌, Some, None}
use Rattle.std.specs.Prelude.{map, slice_get}
use Rattle.std.proofs.Common.{refl, sym, ap, ◌∙◌, arith, subst, lit<, lit≤, inl, inr}
use Rattle.std.proofs.lemmas.Bool.{eqb-true}
use Rattle.un_base.specs.declared.ids.VarId.{VarId}
use Rattle.un_domains.specs.Sets.{Sets, set_at, has, least}
use Rattle.un_isa.specs.declared.packet_counts.Resource.{Resource}
use Rattle.un_isa.specs.declared.packet_counts.Resource.TheVariants.{Instructions, Memory, Stores, MultiplyOrControl, Control}
use Rattle.un_isa.specs.PacketCounts.{places_of}
use Rattle.un_isa.specs.Tables.{in_mask}
use Rattle.un_prop.specs.Looks.{act_set, at_set}
use Rattle.un_prop.specs.Parts.{Part}
use Rattle.un_prop.specs.declared.act.Act.{Act}
use Rattle.un_prop.specs.declared.act.Act.TheVariants.{Always, Var as ActVar}
use Rattle.un_prop.specs.declared.act.At.TheVariants.{Const, Var}
use Rattle.un_prop.specs.declared.act.Temp.{Temp}
use Rattle.un_prec.specs.declared.below.Weighted.{Weighted}
use Rattle.un_prec.specs.declared.reads.ReadAlt.{ReadAlt}
use Rattle.un_rect.specs.declared.clobber.ClobberCall.{ClobberCall}
use Rattle.un_slots.specs.declared.item.Item.{Item}
use Rattle.un_slots.specs.Loads.{load, others}
use Rattle.un_slots.specs.Slots.{share_at}
use Rattle.un_kinds.specs.Constraints.{Constraint, Before, Reads, Inside, Last, Below, Zeros, Apart, Clobber, PerCycle}
use Rattle.un_kinds.specs.Table.{Row, PartsOf}

abbrev var : ℕ → VarId
var n = record { 0 = n }

-- a set has what it is made of alone
one_only : (a x : ℕ) → has (a ∷ []) x ≡ true → x ≡ a
one_only a x h = by (nat_eq x a) refl h
  where
    by : (v : Bool) → nat_eq x a ≡ v → (v || false) ≡ true → x ≡ a
    by true e k = eqb-true x a e
    by false e k = absurd (cc k)

two_only : (a b x : ℕ) → has (a ∷ b ∷ []) x ≡ true → (x ≡ a) ⊎ (x ≡ b)
two_only a b x h = by (nat_eq x a) refl h
  where
    by : (v : Bool) → nat_eq x a ≡ v → (v || has (b ∷ []) x) ≡ true → (x ≡ a) ⊎ (x ≡ b)
    by true e k = inl (eqb-true x a e)
    by false e k = inr (one_only b x k)

-- ---- Before: the second is at least two cycles after the first, where both are sure

abbrev two_apart : Act → Constraint
two_apart on = Before (Var (var 0)) Always (Var (var 1)) on 2

before_kept : Row (two_apart Always) ((3 ∷ 4 ∷ []) ∷ (5 ∷ 6 ∷ []) ∷ [])
before_kept = λ first second. lit≤ tt

before_broken : Row (two_apart Always) ((3 ∷ 4 ∷ []) ∷ (4 ∷ 6 ∷ []) ∷ []) → ⊥
before_broken h = let k : 5 ≤ 4 = h refl refl in omega (arith, k)

-- an operation that may be inactive is not sure
before_unsure : Row (two_apart (ActVar (var 2))) ((3 ∷ 4 ∷ []) ∷ (4 ∷ 6 ∷ []) ∷ (0 ∷ 1 ∷ []) ∷ [])
before_unsure = λ first second. absurd (cc second)

-- ---- Reads: variable 0 is the user's cycle, 1 the choice, 2 the definer's cycle; the gap of the definer's one number is 2

abbrev definer : ReadAlt
definer = record { at = Var (var 2); on = Always; gaps = 0 ∷ 2 ∷ [] }

abbrev waits : Constraint
waits = Reads (Var (var 0)) Always (var 1) (definer ∷ [])

abbrev early : Sets
early = (4 ∷ 5 ∷ []) ∷ (0 ∷ []) ∷ (2 ∷ 3 ∷ []) ∷ []

reads_kept : Row waits early
reads_kept sure zero a fixed at =
    let is : definer ≡ a = let both : Some definer ≡ Some a = at in cc both in
    subst (λ (x : ReadAlt). (n : ℕ) × (g : ℕ) × (has (act_set x.on early) n ≡ true) × (slice_get x.gaps n ≡ Some g)
    × (least (at_set x.at early) + g ≤ 4)) is (1, 2, refl, refl, lit≤ tt)
reads_kept sure (suc i) a fixed at = absurd (let k : 0 ≡ suc i = cc fixed in omega (arith, k))

reads_broken : Row waits ((3 ∷ 5 ∷ []) ∷ (0 ∷ []) ∷ (2 ∷ 3 ∷ []) ∷ []) → ⊥
reads_broken h =
    let k = h refl 0 definer refl refl in
    let n = one_only 1 k.0 k.2 in
    let both : Some 2 ≡ Some k.1 = ap (slice_get (0 ∷ 2 ∷ [])) (sym n) ∙ k.3 in
    let g : 2 ≡ k.1 = cc both in
    let late = k.4 in
    omega (arith, g, late)

-- where the choice has two values left, the row asks for nothing
reads_open : Row waits ((3 ∷ 5 ∷ []) ∷ (0 ∷ 1 ∷ []) ∷ (2 ∷ 3 ∷ []) ∷ [])
reads_open = λ sure i a fixed at. absurd (cc fixed)

-- ---- Inside: from cycle 1 to before the end

abbrev inside : Constraint
inside = Inside (var 0) Always (var 1)

inside_kept : Row inside ((1 ∷ 2 ∷ []) ∷ (2 ∷ 4 ∷ []) ∷ [])
inside_kept = λ sure. (lit≤ tt, lit≤ tt)

inside_at_start : Row inside ((0 ∷ 2 ∷ []) ∷ (2 ∷ 4 ∷ []) ∷ []) → ⊥
inside_at_start h = let k : 1 ≤ 0 = (h refl).0 in omega (arith, k)

inside_at_end : Row inside ((2 ∷ 3 ∷ []) ∷ (2 ∷ 4 ∷ []) ∷ []) → ⊥
inside_at_end h = let k : 3 ≤ 2 = (h refl).1 in omega (arith, k)

-- ---- Last: in the cycle before the end

last_kept : Row (Last (var 0) (var 1)) ((2 ∷ 3 ∷ []) ∷ (3 ∷ 4 ∷ []) ∷ [])
last_kept = refl

last_early : Row (Last (var 0) (var 1)) ((2 ∷ 3 ∷ []) ∷ (4 ∷ []) ∷ []) → ⊥
last_early h = let k : 4 ≡ 3 = h in omega (arith, k)

last_at_end : Row (Last (var 0) (var 1)) ((3 ∷ []) ∷ (3 ∷ 4 ∷ []) ∷ []) → ⊥
last_at_end h = let k : 3 ≡ 4 = h in omega (arith, k)

-- ---- Below: 10 times two cycles and 1 times four are 24

abbrev blocks : List Weighted
blocks = record { end = var 0; freq = 10 } ∷ record { end = var 1; freq = 1 } ∷ []

below_kept : Row (Below blocks 25) ((3 ∷ 9 ∷ []) ∷ (5 ∷ []) ∷ [])
below_kept = lit< tt

below_broken : Row (Below blocks 24) ((3 ∷ 9 ∷ []) ∷ (5 ∷ []) ∷ []) → ⊥
below_broken h = let k : 24 < 24 = h in omega (arith, k)

-- ---- Zeros: variable 0 is the instruction

abbrev idle : Constraint
idle = Zeros (var 0) (var 1 ∷ var 2 ∷ [])

zeros_kept : Row idle ((0 ∷ 1 ∷ []) ∷ (0 ∷ 3 ∷ []) ∷ (0 ∷ 5 ∷ []) ∷ [])
zeros_kept = record { idle = λ off. absurd (cc off); active = λ live. absurd (cc live) }

zeros_idle : Row idle ((0 ∷ []) ∷ (0 ∷ 3 ∷ []) ∷ (0 ∷ []) ∷ []) → ⊥
zeros_idle h = let k : 3 ≡ 0 = h.idle refl 0 (var 0) (lit< tt) 3 refl in omega (arith, k)

zeros_active : Row idle ((0 ∷ 1 ∷ []) ∷ (3 ∷ 4 ∷ []) ∷ (0 ∷ []) ∷ []) → ⊥
zeros_active h = let k : false ≡ true = h.active refl in cc k

-- ---- Apart: a temporary from one cycle to before another

abbrev temp : ℕ → ℕ → ℕ → Temp
temp from to reg = record {
  on = Always;
  at = Const from;
  reg = var reg;
  users = record { on = Always; at = Const to; choice = None; value = 0 } ∷ [];
}

abbrev crossing : Constraint
crossing = Apart (temp 1 5 0 ∷ temp 3 7 1 ∷ [])

apart_broken : Row crossing ((8 ∷ []) ∷ (8 ∷ 9 ∷ []) ∷ []) → ⊥
apart_broken h =
    let k : true ≡ false = h 0 1 3 8 (temp 1 5 0) (λ e. omega (arith, e)) (lit< tt) (lit< tt) (refl, lit≤ tt, lit< tt)
    (refl, lit≤ tt, lit< tt) refl in
    cc k

apart_kept : Row crossing ((8 ∷ []) ∷ (9 ∷ []) ∷ [])
apart_kept zero zero t r d apart i j a b one = absurd (apart refl)
apart_kept zero (suc zero) t r d apart i j a b one = let k : 8 ≡ r = cc one in subst (λ (x : ℕ). has (9 ∷ []) x ≡ false) k refl
apart_kept (suc zero) zero t r d apart i j a b one = let k : 9 ≡ r = cc one in subst (λ (x : ℕ). has (8 ∷ []) x ≡ false) k refl
apart_kept (suc zero) (suc zero) t r d apart i j a b one = absurd (apart refl)
apart_kept zero (suc (suc n)) t r d apart i j a b one = absurd (omega (arith, j))
apart_kept (suc zero) (suc (suc n)) t r d apart i j a b one = absurd (omega (arith, j))
apart_kept (suc (suc n)) m t r d apart i j a b one = absurd (omega (arith, i))

-- one that ends where the other starts may have its register
apart_after : Row (Apart (temp 1 3 0 ∷ temp 3 7 1 ∷ [])) ((8 ∷ []) ∷ (8 ∷ []) ∷ [])
apart_after zero zero t r d apart i j a b one = absurd (apart refl)
apart_after zero (suc zero) t r d apart i j a b one = absurd (let x = a.2 in let y = b.1 in omega (arith, x, y))
apart_after (suc zero) zero t r d apart i j a b one = absurd (let x = b.2 in let y = a.1 in omega (arith, x, y))
apart_after (suc zero) (suc zero) t r d apart i j a b one = absurd (apart refl)
apart_after zero (suc (suc n)) t r d apart i j a b one = absurd (omega (arith, j))
apart_after (suc zero) (suc (suc n)) t r d apart i j a b one = absurd (omega (arith, j))
apart_after (suc (suc n)) m t r d apart i j a b one = absurd (omega (arith, i))

-- ---- Clobber: a call whose cycle is variable 1 writes register 3; the temporary is there from cycle 1 to before cycle 5

abbrev call : ClobberCall
call = record { at = var 1; before = false; behind = [] }

abbrev spared : Constraint
spared = Clobber 8 (temp 1 5 0) (call ∷ [])

clobber_broken : Row spared ((3 ∷ 20 ∷ []) ∷ (2 ∷ []) ∷ []) → ⊥
clobber_broken h = let k : true ≡ false = h 0 2 3 call (lit< tt) refl (refl, lit≤ tt, lit< tt) refl in cc k

clobber_kept : Row spared ((20 ∷ 21 ∷ []) ∷ (2 ∷ []) ∷ [])
clobber_kept i t r d below one there left = elim (two_only 20 21 r left) [
  | inl e ↦ subst (λ (x : ℕ). in_mask 8 x ≡ false) (sym e) refl
  | inr e ↦ subst (λ (x : ℕ). in_mask 8 x ≡ false) (sym e) refl
]

-- a call in the cycle in which the temporary ends spares it
clobber_after : Row spared ((3 ∷ []) ∷ (5 ∷ []) ∷ [])
clobber_after zero t r d below one there left = absurd (let k : 5 ≡ t = cc one in let e = there.2 in omega (arith, k, e))
clobber_after (suc i) t r d below one there left = absurd (omega (arith, below))

-- ---- PerCycle: two stores, of which a packet has one

abbrev store : ℕ → Item
store n = record {
  on = Always;
  at = var n;
  uses = record { mem = 0; store = 0; xc = 0; control = 0 } ∷ record { mem = 1; store = 1; xc = 0; control = 0 } ∷ [];
}

abbrev stores : Constraint
stores = PerCycle (store 0 ∷ store 1 ∷ []) 9

slots_broken : Row stores ((4 ∷ []) ∷ (4 ∷ 5 ∷ []) ∷ []) → ⊥
slots_broken h =
    let k = h 1 (store 1) refl refl 4 refl in
    let room : 1 + share_at Stores (store 1).uses k.0 ≤ 1 = k.2 Stores in
    let full : 2 ≤ 1 = subst (λ (n : ℕ). 1 + share_at Stores (store 1).uses n ≤ 1) (one_only 1 k.0 k.1) room in
    omega (arith, full)

abbrev packed : Sets
packed = (4 ∷ []) ∷ (5 ∷ 6 ∷ []) ∷ []

abbrev HasPlace : ℕ → Item → ℕ → Type 0
HasPlace k i c = (n : ℕ) × (has (act_set i.on packed) n ≡ true)
    × ((r : Resource) → load r (others k (store 0 ∷ store 1 ∷ [])) packed c + share_at r i.uses n ≤ places_of r)

first_place : HasPlace 0 (store 0) 4
first_place = (1, refl, by)
  where
    by : (r : Resource) → load r (store 1 ∷ []) packed 4 + share_at r (store 0).uses 1 ≤ places_of r
    by Instructions = lit≤ tt
    by Memory = lit≤ tt
    by Stores = lit≤ tt
    by MultiplyOrControl = lit≤ tt
    by Control = lit≤ tt

second_place : HasPlace 1 (store 1) 5 × HasPlace 1 (store 1) 6
second_place = ((1, refl, by), (1, refl, next))
  where
    by : (r : Resource) → load r (store 0 ∷ []) packed 5 + share_at r (store 1).uses 1 ≤ places_of r
    by Instructions = lit≤ tt
    by Memory = lit≤ tt
    by Stores = lit≤ tt
    by MultiplyOrControl = lit≤ tt
    by Control = lit≤ tt

    next : (r : Resource) → load r (store 0 ∷ []) packed 6 + share_at r (store 1).uses 1 ≤ places_of r
    next Instructions = lit≤ tt
    next Memory = lit≤ tt
    next Stores = lit≤ tt
    next MultiplyOrControl = lit≤ tt
    next Control = lit≤ tt

slots_kept : Row stores packed
slots_kept zero i at sure c left =
    let is : store 0 ≡ i = let both : Some (store 0) ≡ Some i = at in cc both in
    let c_is = one_only 4 c (subst (λ (x : Item). has (set_at packed x.at.0) c ≡ true) (sym is) left) in
    subst (λ (x : Item). HasPlace 0 x c) is (subst (HasPlace 0 (store 0)) (sym c_is) first_place)
slots_kept (suc zero) i at sure c left =
    let is : store 1 ≡ i = let both : Some (store 1) ≡ Some i = at in cc both in
    let c_is = two_only 5 6 c (subst (λ (x : Item). has (set_at packed x.at.0) c ≡ true) (sym is) left) in
    subst (λ (x : Item). HasPlace 1 x c) is (elim c_is [
      | inl e ↦ subst (HasPlace 1 (store 1)) (sym e) second_place.0
      | inr e ↦ subst (HasPlace 1 (store 1)) (sym e) second_place.1
    ])
slots_kept (suc (suc k)) i at sure c left = absurd (cc at)

-- ---- parts: one for each two temporaries, one for each call, and the whole of what has no parts

abbrev vars_of : List Part → List (List VarId)
vars_of parts = map (λ (part : Part). part.vars) parts

apart_has_pairs : vars_of (PartsOf (var 0 ∷ var 1 ∷ var 2 ∷ []) (Apart (temp 1 5 0 ∷ temp 3 7 1 ∷ temp 0 2 2 ∷ [])))
    ≡ (var 0 ∷ var 1 ∷ []) ∷ (var 0 ∷ var 2 ∷ []) ∷ (var 1 ∷ var 2 ∷ []) ∷ []
apart_has_pairs = refl

clobber_has_calls : vars_of (PartsOf (var 0 ∷ var 1 ∷ var 2 ∷ [])
    (Clobber 8 (temp 1 5 0) (call ∷ record { at = var 2; before = false; behind = [] } ∷ [])))
    ≡ (var 0 ∷ var 1 ∷ []) ∷ (var 0 ∷ var 2 ∷ []) ∷ []
clobber_has_calls = refl

inside_is_whole : vars_of (PartsOf (var 0 ∷ var 1 ∷ []) inside) ≡ (var 0 ∷ var 1 ∷ []) ∷ []
inside_is_whole = refl
