-- The operations of a block that issue in an interval of cycles, named one by one or by a test, have room in it.
use Rattle.std.proofs.Common.{ℕ, zero, suc, ◌≡◌, ◌<◌, ◌≤◌, ◌+◌, ◌*◌, Bool, true, false, List, [], ◌∷◌, ◌++◌, length, filter}
use Rattle.std.proofs.Common.{inl, inr, refl, ap, ◌∙◌, subst, arith, eq-eqb, max}
use Rattle.std.specs.Prelude.{Option, ◌&&◌, ◌==◌, nat_le, nat_lt, sum_by, fold, if◌then◌else◌}
use Rattle.std.proofs.lemmas.Bool.{cases_lt}
use Rattle.std.proofs.lemmas.List.Sums.{sum_by-cons, sum_by-append}
use Rattle.un_isa.specs.PacketCounts.{places_of as room_of}
use Rattle.un_isa.specs.declared.op.Op.{Op}
use Rattle.un_isa.specs.declared.packet_counts.Resource.{Resource}
use Rattle.un_isa.specs.declared.packet_counts.Resource.TheVariants.{Instructions, Memory, Stores, MultiplyOrControl, Control}
use Rattle.un_isa.specs.declared.table.Table.{Table}
use Rattle.un_ir.specs.declared.extended.Ext.{Ext}
use Rattle.un_model.specs.declared.model.Options.{Options}
use Rattle.un_model.specs.Solutions.{share_of}
use Rattle.un_lists.proofs.Lists.{Each, Member, each_of, each_member, each_more, each_join}
use Rattle.un_model.proofs.Placed.{Placed, issue_at}
use Rattle.un_model.proofs.PlacedSchedules.{all}
use Rattle.un_model.proofs.Readings.{Solved}
use Rattle.un_press.proofs.Counting.{Differ}
use Rattle.un_press.proofs.Descent.{cycle_at}
use Rattle.un_press.proofs.Intervals.{takes_in, interval_beside}
use Rattle.un_press.proofs.Spilling.{Several, lt_true, le_true}
use Rattle.un_sites.specs.Places.{Place}
use Rattle.un_sites.specs.Shares.{own_share, spills_share, reloads_share, cycles_for, cycles_with}

-- ---- cycles

fewest : (r : Resource) (n cycles : ℕ) → n ≤ cycles * room_of r → cycles_for r n ≤ cycles
fewest Instructions n cycles le = omega (arith, le)
fewest Memory n cycles le = omega (arith, le)
fewest Stores n cycles le = omega (arith, le)
fewest MultiplyOrControl n cycles le = omega (arith, le)
fewest Control n cycles le = omega (arith, le)

-- cycles that have room for so much of each resource are no fewer than those that are asked for
pub enough : (t : Table) (ps : List Place) (leaves : Bool) (spills reloads cycles : ℕ)
    → ((r : Resource) → own_share t ps r + (spills_share t spills r + reloads_share t leaves reloads r) ≤ cycles * room_of r)
    → cycles_with t ps leaves spills reloads ≤ cycles
enough t ps leaves spills reloads cycles fits =
    let all = λ (r : Resource). own_share t ps r + (spills_share t spills r + reloads_share t leaves reloads r) in
    let a = fewest Instructions (all Instructions) cycles (fits Instructions) in
    let b = fewest Memory (all Memory) cycles (fits Memory) in
    let c = fewest Stores (all Stores) cycles (fits Stores) in
    let d = fewest MultiplyOrControl (all MultiplyOrControl) cycles (fits MultiplyOrControl) in
    let e = fewest Control (all Control) cycles (fits Control) in
    omega (arith, a, b, c, d, e)

-- ---- lists

max_is : (P : ℕ → Type 0) (a b : ℕ) → P a → P b → P (max a b)
max_is P a b pa pb = elim (cases_lt a b) [
  | inl lt ↦ (let is : b ≡ max a b = omega (arith, lt) in subst P is pb)
  | inr ge ↦ (let is : a ≡ max a b = omega (arith, ge) in subst P is pa)
]

-- what holds of each holds of the greatest
pub greatest_is : (P : ℕ → Type 0) (a : ℕ) (ns : List ℕ) → P a → Each P ns → P (fold max a ns)
greatest_is P a [] pa each = pa
greatest_is P a (n ∷ ns) pa each = greatest_is P (max a n) ns (max_is P a n pa each.0) each.1

differ_join : {X : Type 0} (xs ys : List X) → Differ xs → Differ ys → ((x y : X) → Member x xs → Member y ys → x ≡ y → ⊥)
    → Differ (xs ++ ys)
differ_join [] ys a b apart = b
differ_join (x ∷ xs) ys a b apart = (
  each_join (λ y. x ≡ y → ⊥) xs ys a.0 (each_of (λ y. x ≡ y → ⊥) ys (λ y m. apart x y (inl refl) m)),
  differ_join xs ys a.1 b (λ u v mu mv. apart u v (inr mu) mv),
)

-- n items with as much each have n times that
sum_least : {X : Type 0} (f : X → ℕ) (n k : ℕ) (xs : List X) → n ≤ length xs → Each (λ x. k ≤ f x) xs → n * k ≤ sum_by f xs
sum_least f zero k xs le each = omega arith
sum_least f (suc n) k [] le each = absurd (omega (arith, le))
sum_least f (suc n) k (x ∷ xs) le each =
    let cons = sum_by-cons f x xs in
    let here = each.0 in
    let rest = sum_least f n k xs (omega (arith, le)) each.1 in
    let more : suc n * k ≡ n * k + k = grind arith in
    omega (arith, cons, here, rest, more)

-- those that pass have no more than the whole, where each that passes has no more
pub sum_passing : {X : Type 0} (early : X → Bool) (f g : X → ℕ) (xs : List X) → Each (λ x. early x ≡ true → f x ≤ g x) xs
    → sum_by f (filter early xs) ≤ sum_by g xs
sum_passing early f g [] each = omega arith
sum_passing early f g (x ∷ xs) each = by (sum_passing early f g xs each.1) (early x) refl
  where
    by : sum_by f (filter early xs) ≤ sum_by g xs → (b : Bool) → early x ≡ b → sum_by f (filter early (x ∷ xs)) ≤ sum_by g (x ∷ xs)
    by rest true is =
        let here = each.0 is in
        let a = sum_by-cons g x xs in
        let c = sum_by-cons f x (filter early xs) in
        let same : filter early (x ∷ xs) ≡ x ∷ filter early xs = rw is refl in
        let sums = ap (sum_by f) same in
        omega (arith, rest, here, a, c, sums)
    by rest false is =
        let a = sum_by-cons g x xs in
        let same : filter early (x ∷ xs) ≡ filter early xs = rw is refl in
        let sums = ap (sum_by f) same in
        omega (arith, rest, a, sums)

-- what passes has what it counts for in the whole
pub sum_filter : {X : Type 0} (f : X → ℕ) (test : X → Bool) (xs : List X)
    → sum_by (λ x. if test x then f x else 0) xs ≡ sum_by f (filter test xs)
sum_filter f test [] = refl
sum_filter f test (x ∷ xs) = by (sum_filter f test xs) (test x) refl
  where
    by : sum_by (λ x. if test x then f x else 0) xs ≡ sum_by f (filter test xs) → (b : Bool) → test x ≡ b
        → sum_by (λ x. if test x then f x else 0) (x ∷ xs) ≡ sum_by f (filter test (x ∷ xs))
    by rest true is =
        let a = sum_by-cons (λ x. if test x then f x else 0) x xs in
        let own : (if test x then f x else 0) ≡ f x = rw is refl in
        let c = sum_by-cons f x (filter test xs) in
        let same : filter test (x ∷ xs) ≡ x ∷ filter test xs = rw is refl in
        let sums = ap (sum_by f) same in
        omega (arith, rest, a, own, c, sums)
    by rest false is =
        let a = sum_by-cons (λ x. if test x then f x else 0) x xs in
        let own : (if test x then f x else 0) ≡ 0 = rw is refl in
        let same : filter test (x ∷ xs) ≡ filter test xs = rw is refl in
        let sums = ap (sum_by f) same in
        omega (arith, rest, a, own, sums)

pub filter_whole : {X : Type 0} (xs : List X) → filter (λ x. true) xs ≡ xs
filter_whole [] = refl
filter_whole (x ∷ xs) = ap (λ ys. x ∷ ys) (filter_whole xs)

module _ (e : Ext) (o : Options) (x : List ℕ) (h : Solved e o x) where
  -- ---- several operations

  pub none_of : (P : Placed → Type 0) → Several e o x h P 0
  none_of P = record { listed = []; differ = tt; each = tt; many = omega arith }

  pub several_or_none : (P : Placed → Type 0) (n : ℕ) → (0 < n → Several e o x h P n) → Several e o x h P n
  several_or_none P zero some = none_of P
  several_or_none P (suc n) some = some (omega arith)

  pub several_more : (P Q : Placed → Type 0) (n : ℕ) → ((p : Placed) → P p → Q p) → Several e o x h P n → Several e o x h Q n
  several_more P Q n more s = record { listed = s.listed; differ = s.differ; each = each_more P Q s.listed more s.each; many = s.many }

  pub first_of_several : (P : Placed → Type 0) (n : ℕ) → 0 < n → Several e o x h P n → (p : Placed) × P p
  first_of_several P n some s = by s.listed s.each s.many
    where
      by : (ps : List Placed) → Each P ps → n ≤ length ps → (p : Placed) × P p
      by [] each many = absurd (omega (arith, some, many))
      by (p ∷ ps) each many = (p, each.0)

  -- ---- what issues in an interval of cycles, beside what passes a test

  module _ (b lo n : ℕ) (test : Placed → Bool) where
    abbrev pub takes : Resource → Placed → ℕ
    takes r q = takes_in e o x h r b lo n q

    -- it issues there
    abbrev pub IsThere : Placed → Type 0
    IsThere q = (lo ≤ cycle_at e o x h q) × (cycle_at e o x h q < lo + n)

    pub takes_is : (r : Resource) (q : Placed) → q.block ≡ b → IsThere q → takes r q ≡ share_of e.table r (issue_at x q).instr
    takes_is r q block there =
        let here : (q.block == b) ≡ true = eq-eqb q.block b block in
        let from = le_true lo (cycle_at e o x h q) there.0 in
        let to = lt_true (cycle_at e o x h q) (lo + n) there.1 in
        ap (λ (s : Bool). if s && (nat_le lo (cycle_at e o x h q) && nat_lt (cycle_at e o x h q) (lo + n))
        then share_of e.table r (issue_at x q).instr else 0) here
        ∙ ap (λ (s : Bool). if s && nat_lt (cycle_at e o x h q) (lo + n) then share_of e.table r (issue_at x q).instr else 0) from
        ∙ ap (λ (s : Bool). if s then share_of e.table r (issue_at x q).instr else 0) to

    -- an operation that does not pass, with an instruction that has its tag between these
    pub record Other (tag : Option Op → ℕ) (from to : ℕ) (q : Placed) : Type 0 where
      pub member : Member q (all e o x)
      pub passes : test q ≡ false
      pub block : q.block ≡ b
      pub there : IsThere q
      pub least : from ≤ tag (issue_at x q).instr
      pub greatest : tag (issue_at x q).instr < to

    -- several of these that take so much
    pub record Beside (tag : Option Op → ℕ) (from to : ℕ) (need : Resource → ℕ) : Type 0 where
      pub listed : List Placed
      pub differ : Differ listed
      pub each : Each (Other tag from to) listed
      pub takes_all : (r : Resource) → need r ≤ sum_by (takes r) listed

    pub beside_none : (tag : Option Op → ℕ) (from to : ℕ) (need : Resource → ℕ) → ((r : Resource) → need r ≡ 0) → Beside tag from to need
    beside_none tag from to need zeros =
        record { listed = []; differ = tt; each = tt; takes_all = λ r. (let z = zeros r in omega (arith, z)) }

    pub beside_one : (tag : Option Op → ℕ) (from to : ℕ) (q : Placed) (need : Resource → ℕ) → Other tag from to q
        → ((r : Resource) → need r ≡ share_of e.table r (issue_at x q).instr) → Beside tag from to need
    beside_one tag from to q need other is = record {
      listed = q ∷ [];
      differ = (tt, tt);
      each = (other, tt);
      takes_all = λ r. (
          let cons = sum_by-cons (takes r) q [] in
          let own = takes_is r q other.block other.there in
          let same = is r in
          omega (arith, cons, own, same));
    }

    pub beside_several : (tag : Option Op → ℕ) (from to count : ℕ) (instr : Option Op) (P : Placed → Type 0)
        → ((q : Placed) → P q → Other tag from to q) → ((q : Placed) → P q → (issue_at x q).instr ≡ instr)
        → Several e o x h P count → Beside tag from to (λ r. count * share_of e.table r instr)
    beside_several tag from to count instr P other is s = record {
      listed = s.listed;
      differ = s.differ;
      each = each_more P (Other tag from to) s.listed other s.each;
      takes_all = λ r. sum_least (takes r) count (share_of e.table r instr) s.listed s.many
          (each_more P (λ q. share_of e.table r instr ≤ takes r q) s.listed (λ q p.
          let there = other q p in
          let own = takes_is r q there.block there.there in
          let same = ap (share_of e.table r) (is q p) in
          omega (arith, own, same)) s.each);
    }

    wider : (tag : Option Op → ℕ) (from to low high : ℕ) → low ≤ from → to ≤ high → (q : Placed) → Other tag from to q
        → Other tag low high q
    wider tag from to low high below above q p = let least = p.least in let greatest = p.greatest in record {
      member = p.member;
      passes = p.passes;
      block = p.block;
      there = p.there;
      least = omega (arith, below, least);
      greatest = omega (arith, above, greatest);
    }

    pub beside_both : (tag : Option Op → ℕ) (from mid to : ℕ) (f g need : Resource → ℕ) → from ≤ mid → mid ≤ to
        → ((r : Resource) → need r ≡ f r + g r) → Beside tag from mid f → Beside tag mid to g → Beside tag from to need
    beside_both tag from mid to f g need below above is s u = record {
      listed = s.listed ++ u.listed;
      differ = differ_join s.listed u.listed s.differ u.differ (λ p q mp mq same.
          let a = each_member (Other tag from mid) s.listed p s.each mp in
          let c = each_member (Other tag mid to) u.listed q u.each mq in
          let less = a.greatest in
          let more = c.least in
          let one : tag (issue_at x p).instr ≡ tag (issue_at x q).instr = ap (λ z. tag (issue_at x z).instr) same in
          absurd (omega (arith, less, more, one)));
      each = each_join (Other tag from to) s.listed u.listed
          (each_more (Other tag from mid) (Other tag from to) s.listed (wider tag from mid from to (omega arith) above) s.each)
          (each_more (Other tag mid to) (Other tag from to) u.listed (wider tag mid to from to below (omega arith)) u.each);
      takes_all = λ r. (
          let parts = sum_by-append (takes r) s.listed u.listed in
          let a = s.takes_all r in
          let c = u.takes_all r in
          let same = is r in
          omega (arith, parts, a, c, same));
    }

    -- they have room with what passes
    pub beside_fits : (tag : Option Op → ℕ) (from to : ℕ) (need : Resource → ℕ) → Beside tag from to need → (r : Resource)
        → sum_by (takes r) (filter test (all e o x)) + need r ≤ n * room_of r
    beside_fits tag from to need s r =
        let le = interval_beside e o x h r b lo n test s.listed s.differ
        (each_more (Other tag from to) (λ q. Member q (all e o x) × (test q ≡ false)) s.listed (λ q p. (p.member, p.passes)) s.each) in
        let takes_so = s.takes_all r in
        omega (arith, le, takes_so)
