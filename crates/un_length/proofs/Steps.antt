-- Steps of the code on its lists.
use Rattle.std.proofs.Common.{ℕ, zero, suc, ◌≡◌, ◌≢◌, ◌<◌, ◌≤◌, ◌+◌, ◌-◌, ◌^◌, ◌∙◌, Bool, true, false, if◌then◌else◌, List, [], ◌∷◌, drop, length}
use Rattle.std.proofs.Common.{get_or, set, max, min, nat_eq, nat_lt, ◌||◌, All, refl, sym, ap, subst, arith, below_more}
use Rattle.std.proofs.lemmas.Bool.Decides.{nat_tests}
use Rattle.std.proofs.lemmas.List.{get_or-map, get_or-set_same, get_or-set_other, drop_all}
use Rattle.std.proofs.Math.Seq.{drop-cons}
use Rattle.un_base.specs.declared.ids.VarId.{VarId}
use Rattle.un_domains.specs.Sets.{Sets}
use Rattle.un_prop.specs.AmongLaws.{has_among}
use Rattle.un_prop.specs.LastLaws.{Ascend}
use Rattle.un_prop.specs.Rounds.{HasVars}
use Rattle.un_length.specs.declared.block.Task.{Task}
use Rattle.un_length.specs.declared.block.Precedence.{Precedence}
use Rattle.un_length.specs.Places.{at_place, Leads}
use Rattle.un_length.specs.Windows.{raise, raised, lower, lowered}
use Rattle.un_length.specs.WindowLaws.{raised_less, lower_less}
use Rattle.un_length.specs.Blocks.{TaskVars}
use Rattle.un_length.specs.Sums.{as_number, count_below}
use Rattle.un_length.specs.Rooms.{takes}
use Rattle.un_length.specs.Counting.{ends_at}
use Rattle.un_isa.specs.declared.packet_counts.Resource.{Resource}
use Rattle.un_isa.specs.PacketCounts.{share_of}
use Rattle.un_prop.specs.LookLaws.{both, firsts}
use Rattle.un_slots.specs.Crowds.{all_below}

-- what stands at no place
abbrev pub no_task : Task
no_task = record { at = record { 0 = 0 }; head = 0; tail = 0; needs = record { mem = 0; store = 0; xc = 0; control = 0 } }

abbrev pub no_arc : Precedence
no_arc = record { from = 0; to = 0; gap = 0 }

-- the number of the operation at a place within the list
pub place_is : (f : Task → ℕ) (ops : List Task) (i : ℕ) → i < length ops → at_place f ops i ≡ f (get_or ops i no_task)
place_is f ops i lt = get_or-map f ops i no_task 0 lt

pub place_past : (f : Task → ℕ) (ops : List Task) (i : ℕ) → length ops ≤ i → at_place f ops i ≡ 0
place_past f [] i le = refl
place_past f (t ∷ ts) zero le = absurd (omega (arith, le))
place_past f (t ∷ ts) (suc i) le = place_past f ts i (omega (arith, le))

-- one number more is written
pub one_written : (g : ℕ → ℕ) (xs : List ℕ) (i y : ℕ) → i < length xs → y ≡ g i → ((k : ℕ) → k < i → get_or xs k 0 ≡ g k)
    → (k : ℕ) → k < i + 1 → get_or (set xs i y) k 0 ≡ g k
one_written g xs i y within is before = below_more (λ k. get_or (set xs i y) k 0 ≡ g k) i
    (λ k lt. get_or-set_other xs i k y 0 (λ e. omega (arith, lt, e)) ∙ before k lt) (get_or-set_same xs i y 0 within ∙ is)

-- a written number by its place
pub set_by : (xs : List ℕ) (p v : ℕ) → p < length xs → (i : ℕ)
    → get_or (set xs p v) i 0 ≡ (if nat_eq i p then v else get_or xs i 0)
set_by xs p v within i = by (nat_eq i p) refl
  where
    by : (b : Bool) → nat_eq i p ≡ b → get_or (set xs p v) i 0 ≡ (if b then v else get_or xs i 0)
    by true e = (let is : i ≡ p = grind (arith, nat_tests, e) in ap (λ (k : ℕ). get_or (set xs p v) k 0) is ∙ get_or-set_same xs p v 0 within)
    by false e = (let ne : i ≢ p = grind (arith, nat_tests, e) in get_or-set_other xs p i v 0 ne)

same_if : (b : Bool) (v w u : ℕ) → (b ≡ true → v ≡ w) → (if b then v else u) ≡ (if b then w else u)
same_if true v w u h = h refl
same_if false v w u h = refl

pub raise_set : (a : Precedence) (xs : List ℕ) (v : ℕ) → a.to < length xs
    → v ≡ max (get_or xs a.to 0) (min (get_or xs a.from 0 + a.gap) (2 ^ 32 - 1))
    → (i : ℕ) → get_or (set xs a.to v) i 0 ≡ raise a (λ k. get_or xs k 0) i
raise_set a xs v within is i = set_by xs a.to v within i
    ∙ same_if (nat_eq i a.to) v (max (get_or xs i 0) (min (get_or xs a.from 0 + a.gap) (2 ^ 32 - 1))) (get_or xs i 0)
    (λ e. (let at : i ≡ a.to = grind (arith, nat_tests, e) in
    is ∙ ap (λ (k : ℕ). max (get_or xs k 0) (min (get_or xs a.from 0 + a.gap) (2 ^ 32 - 1))) (sym at)))

pub lower_set : (a : Precedence) (xs : List ℕ) (v : ℕ) → a.from < length xs → v ≡ min (get_or xs a.from 0) (get_or xs a.to 0 - a.gap)
    → (i : ℕ) → get_or (set xs a.from v) i 0 ≡ lower a (λ k. get_or xs k 0) i
lower_set a xs v within is i = set_by xs a.from v within i
    ∙ same_if (nat_eq i a.from) v (min (get_or xs i 0) (get_or xs a.to 0 - a.gap)) (get_or xs i 0)
    (λ e. (let at : i ≡ a.from = grind (arith, nat_tests, e) in
    is ∙ ap (λ (k : ℕ). min (get_or xs k 0) (get_or xs a.to 0 - a.gap)) (sym at)))

-- Precedences by their places

pub arc_leads : (arcs : List Precedence) (n m i : ℕ) → All (Leads n) arcs → m ≡ n → i < length arcs → Leads m (get_or arcs i no_arc)
arc_leads arcs n m i all same lt = subst (λ (k : ℕ). Leads k (get_or arcs i no_arc)) (sym same) (all i no_arc lt)

pub leads_more : (n m : ℕ) (arcs : List Precedence) → n ≤ m → All (Leads n) arcs → All (Leads m) arcs
leads_more n m arcs le all i d lt = (
    let leads = all i d lt in
    let from = leads.of_from in
    let to = leads.of_to in
    record { of_from = omega (arith, from, le); of_to = omega (arith, to, le) })

raised_alike : (arcs : List Precedence) (f g : ℕ → ℕ) → ((k : ℕ) → f k ≡ g k) → (k : ℕ) → raised arcs f k ≡ raised arcs g k
raised_alike arcs f g same k = (
    let up = raised_less arcs f g (λ i. (let e = same i in omega (arith, e))) k in
    let down = raised_less arcs g f (λ i. (let e = same i in omega (arith, e))) k in
    omega (arith, up, down))

-- one precedence more
pub raised_step : (arcs : List Precedence) (i : ℕ) (f g : ℕ → ℕ) → i < length arcs
    → ((k : ℕ) → g k ≡ raise (get_or arcs i no_arc) f k)
    → (k : ℕ) → raised (drop (i + 1) arcs) g k ≡ raised (drop i arcs) f k
raised_step arcs i f g lt new k =
    let next : i + 1 ≡ suc i = omega arith in
    ap (λ (n : ℕ). raised (drop n arcs) g k) next ∙ (raised_alike (drop (suc i) arcs) g (raise (get_or arcs i no_arc) f) new k
    ∙ sym (ap (λ (bs : List Precedence). raised bs f k) (drop-cons arcs i no_arc lt)))

pub raised_end : (arcs : List Precedence) (i : ℕ) (f : ℕ → ℕ) → length arcs ≤ i → (k : ℕ) → raised (drop i arcs) f k ≡ f k
raised_end arcs i f le k = ap (λ (bs : List Precedence). raised bs f k) (drop_all i arcs le)

pub lowered_none : (arcs : List Precedence) (j : ℕ) (f : ℕ → ℕ) → length arcs ≤ j → (k : ℕ) → f k ≡ lowered (drop j arcs) f k
lowered_none arcs j f le k = sym (ap (λ (bs : List Precedence). lowered bs f k) (drop_all j arcs le))

pub lowered_step : (arcs : List Precedence) (j : ℕ) (f g h : ℕ → ℕ) → 0 < j → j ≤ length arcs
    → ((k : ℕ) → g k ≡ lowered (drop j arcs) f k) → ((k : ℕ) → h k ≡ lower (get_or arcs (j - 1) no_arc) g k)
    → (k : ℕ) → h k ≡ lowered (drop (j - 1) arcs) f k
lowered_step arcs j f g h some within old new k =
    let a = get_or arcs (j - 1) no_arc in
    let next : suc (j - 1) ≡ j = omega (arith, some) in
    let head : drop (j - 1) arcs ≡ a ∷ drop j arcs = drop-cons arcs (j - 1) no_arc (omega (arith, some, within))
    ∙ ap (λ (n : ℕ). a ∷ drop n arcs) next in
    let up = lower_less a g (lowered (drop j arcs) f) (λ i. (let e = old i in omega (arith, e))) k in
    let down = lower_less a (lowered (drop j arcs) f) g (λ i. (let e = old i in omega (arith, e))) k in
    let same : lower a g k ≡ lower a (lowered (drop j arcs) f) k = omega (arith, up, down) in
    new k ∙ (same ∙ sym (ap (λ (bs : List Precedence). lowered bs f k) head))

-- Variables

-- the variable of the operation at a place
pub op_there : (vs : List VarId) (ops : List Task) (i : ℕ) (s : Sets) → TaskVars vs ops → i < length ops → HasVars vs s
    → (get_or ops i no_task).at.0 < length s
op_there vs ops i s all lt known = has_among vs (get_or ops i no_task).at s (all i no_task lt) known

place_least : (vs : List VarId) → Ascend vs → (i : ℕ) (d : VarId) → i < length vs → i ≤ (get_or vs i d).0
place_least vs h zero d lt = omega arith
place_least vs h (suc i) d lt = (
    let less = h i (suc i) d (omega arith) lt in
    let rest = place_least vs h i d (omega (arith, lt)) in
    omega (arith, less, rest))

-- a store has at least as many variables as a rising list of them
pub vars_long : (vs : List VarId) (s : Sets) → Ascend vs → HasVars vs s → length vs ≤ length s
vars_long [] s h known = omega arith
vars_long (v ∷ vs) s h known = (
    let last = place_least (v ∷ vs) h (length vs) v (omega arith) in
    let below = known (length vs) v (omega arith) in
    omega (arith, last, below))

-- Counts

pub count_next : (p : ℕ → Bool) (i : ℕ) → count_below p (i + 1) ≡ count_below p i + as_number (p i)
count_next p i = (let next : i + 1 ≡ suc i = omega arith in ap (count_below p) next)

pub takes_is : (r : Resource) (ops : List Task) (i : ℕ) → i < length ops
    → takes r ops i ≡ nat_lt 0 (share_of r (get_or ops i no_task).needs)
takes_is r ops i lt = ap (nat_lt 0) (place_is (λ t. share_of r t.needs) ops i lt)

pub below_next : (p : ℕ → Bool) (i : ℕ) → all_below p i ≡ true → p i ≡ true → all_below p (i + 1) ≡ true
below_next p i h k = (let next : suc i ≡ i + 1 = omega arith in subst (λ (n : ℕ). all_below p n ≡ true) next (both (all_below p i) (p i) h k))

pub last_end : (r : Resource) (ops : List Task) (late : ℕ → ℕ) (high i : ℕ) → ends_at r ops late high i ≡ true → late i ≡ high
last_end r ops late high i e = (let two = (firsts (takes r ops i) (nat_eq (late i) high) e).1 in grind (arith, nat_tests, two))

pub right_of : (a b : Bool) → (a || b) ≡ false → b ≡ false
right_of true b e = absurd (cc e)
right_of false b e = e
