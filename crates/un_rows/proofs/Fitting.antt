-- A block whose own operations have room, and in which the instructions of a draft issue besides, each when it is asked to, ends no sooner
-- than the least end that they leave together.
use Rattle.std.proofs.Common.{ℕ, suc, ◌≡◌, ◌<◌, ◌≤◌, ◌+◌, Bool, true, false, List, [], ◌∷◌, ◌++◌, length, map, max, min, All}
use Rattle.std.proofs.Common.{refl, sym, ap, ◌∙◌, subst, arith}
use Rattle.std.specs.Prelude.{Some, fold, nat_eq, slice_index, sum_by, if◌then◌else◌}
use Rattle.std.specs.List.{AllByRecursion, range_with_len}
use Rattle.std.proofs.lemmas.List.{get_or_append_left, get_or-append-add, map-append, length-map}
use Rattle.std.proofs.lemmas.List.Elements.{recursion_from_All, All-from_recursion}
use Rattle.std.proofs.lemmas.List.FromFn.{get_or-map-range_with_len, length-map-range_with_len}
use Rattle.std.proofs.lemmas.List.Sums.{sum_by-cons, sum_by-append}
use Rattle.un_base.specs.declared.ids.VarId.{VarId}
use Rattle.un_isa.specs.PacketCounts.{places_of, share_of}
use Rattle.un_isa.specs.declared.packet_counts.Resource.{Resource}
use Rattle.un_isa.specs.declared.table.Table.{Table}
use Rattle.un_model.specs.Instructions.{needs_by}
use Rattle.un_model.specs.Variables.{var_at}
use Rattle.un_length.specs.Blocks.{cycle_of, taken_by, taken, FitsBlock}
use Rattle.un_length.specs.Places.{at_place, Leads}
use Rattle.un_length.specs.declared.block.Precedence.{Precedence}
use Rattle.un_length.specs.declared.block.Task.{Task}
use Rattle.un_least.specs.Least.{least_end_of}
use Rattle.un_least.specs.LeastLaws.{least_is_no_later}
use Rattle.un_rows.specs.Drafts.{owed_task, owed_tasks, past_all, drafted_ops, is_within, within, drafted_arcs}
use Rattle.un_rows.specs.Kept.{AreKept, owed_taken, IsKeptBy}
use Rattle.un_rows.specs.declared.draft.Draft.{Draft}
use Rattle.un_rows.specs.declared.draft.Owed.{Owed}

-- ---- numbers of variables

fold_past : (ns : List ℕ) (a : ℕ) → a ≤ fold max a ns
fold_past [] a = omega arith
fold_past (n ∷ ns) a = let le = fold_past ns (max a n) in omega (arith, le)

abbrev IsBelow : ℕ → Task → Type 0
IsBelow n t = t.at.0 < n

all_below : (ops : List Task) (a : ℕ) → AllByRecursion (IsBelow (fold max a (map (λ (t : Task). t.at.0 + 1) ops))) ops
all_below [] a = tt
all_below (t ∷ ts) a =
    let le = fold_past (map (λ (u : Task). u.at.0 + 1) ts) (max a (t.at.0 + 1)) in
    (omega (arith, le), all_below ts (max a (t.at.0 + 1)))

each_more : {X : Type 0} (P Q : X → Type 0) (xs : List X) → ((x : X) → P x → Q x) → AllByRecursion P xs → AllByRecursion Q xs
each_more P Q [] more h = tt
each_more P Q (x ∷ xs) more h = (more x h.0, each_more P Q xs more h.1)

each_join : {X : Type 0} (P : X → Type 0) (xs ys : List X) → AllByRecursion P xs → AllByRecursion P ys → AllByRecursion P (xs ++ ys)
each_join P [] ys h k = k
each_join P (x ∷ xs) ys h k = (h.0, each_join P xs ys h.1 k)

each_within : (P : Precedence → Type 0) (n : ℕ) (arcs : List Precedence) → AllByRecursion P arcs → AllByRecursion P (within n arcs)
each_within P n [] h = tt
each_within P n (a ∷ arcs) h = by (is_within n a) (each_within P n arcs h.1)
  where
    by : (b : Bool) → AllByRecursion P (within n arcs) → AllByRecursion P (if b then a ∷ within n arcs else within n arcs)
    by true rest = (h.0, rest)
    by false rest = rest

same_map : {A B : Type 0} (f g : A → B) (xs : List A) → AllByRecursion (λ (x : A). f x ≡ g x) xs → map f xs ≡ map g xs
same_map f g [] h = refl
same_map {A} {B} f g (x ∷ xs) h = ap (λ (y : B). y ∷ map f xs) h.0 ∙ ap (λ (ys : List B). g x ∷ ys) (same_map f g xs h.1)

same_sum : {A : Type 0} (f g : A → ℕ) (xs : List A) → AllByRecursion (λ (x : A). f x ≡ g x) xs → sum_by f xs ≡ sum_by g xs
same_sum f g [] h = refl
same_sum f g (x ∷ xs) h =
    let a = sum_by-cons f x xs in
    let b = sum_by-cons g x xs in
    let here = h.0 in
    let rest = same_sum f g xs h.1 in
    omega (arith, a, b, here, rest)

module _ (t : Table) (ops : List Task) (arcs : List Precedence) (d : Draft) (x : List ℕ) (close : VarId) (cs : List ℕ)
    (fits : FitsBlock ops arcs close x) (lead : All (Leads (length ops)) arcs) (issued : All (λ (u : Task). min u.tail 1 ≤ cycle_of x u) ops)
    (kept : AreKept (slice_index x close.0) d.owed cs) where
  abbrev end : ℕ
  end = slice_index x close.0

  abbrev past : ℕ
  past = past_all ops

  -- the solution's values for the block's own operations, then the cycles of the draft's, then the end
  abbrev front : List ℕ
  front = map (slice_index x) (range_with_len 0 past)

  abbrev values : List ℕ
  values = front ++ (cs ++ end ∷ [])

  front_long : length front ≡ past
  front_long = length-map-range_with_len (slice_index x) 0 past

  abbrev IsOwn : Task → Type 0
  IsOwn u = cycle_of values u ≡ cycle_of x u

  own_one : (u : Task) → IsBelow past u → IsOwn u
  own_one u lt =
      let same : 0 + u.at.0 ≡ u.at.0 = omega arith in
      let long = front_long in
      get_or_append_left front (cs ++ end ∷ []) 0 u.at.0 (omega (arith, lt, long))
      ∙ get_or-map-range_with_len (slice_index x) 0 past u.at.0 u.at.0 0 lt same

  own_each : AllByRecursion IsOwn ops
  own_each = each_more (IsBelow past) IsOwn ops own_one (all_below ops 0)

  behind : (i : ℕ) → slice_index values (past + i) ≡ slice_index (cs ++ end ∷ []) i
  behind i = let same : past + i ≡ length front + i = ap (λ (n : ℕ). n + i) (sym front_long) in
      ap (slice_index values) same ∙ get_or-append-add front (cs ++ end ∷ []) i 0

  abbrev last : VarId
  last = var_at (past + length cs)

  at_end : slice_index values last.0 ≡ end
  at_end =
      let same : length cs ≡ length cs + 0 = omega arith in
      behind (length cs) ∙ ap (slice_index (cs ++ end ∷ [])) same ∙ get_or-append-add cs (end ∷ []) 0 0

  -- ---- the draft's operations

  abbrev IsThere : ℕ → List ℕ → Type 0
  IsThere n ks = (i : ℕ) → i < length ks → slice_index values (n + i) ≡ slice_index ks i

  there_all : IsThere past cs
  there_all i lt = behind i ∙ get_or_append_left cs (end ∷ []) 0 i lt

  there_first : (n k : ℕ) (ks : List ℕ) → IsThere n (k ∷ ks) → slice_index values n ≡ k
  there_first n k ks at = let same : n ≡ n + 0 = omega arith in ap (slice_index values) same ∙ at 0 (omega arith)

  there_rest : (n k : ℕ) (ks : List ℕ) → IsThere n (k ∷ ks) → IsThere (n + 1) ks
  there_rest n k ks at i lt = let same : n + 1 + i ≡ n + suc i = omega arith in ap (slice_index values) same ∙ at (suc i) (omega (arith, lt))

  abbrev IsBegun : Task → Type 0
  IsBegun u = u.head ≤ cycle_of values u

  abbrev IsEnded : Task → Type 0
  IsEnded u = cycle_of values u + u.tail ≤ end

  abbrev IsIssued : Task → Type 0
  IsIssued u = min u.tail 1 ≤ cycle_of values u

  begun_owed : (n : ℕ) (os : List Owed) (ks : List ℕ) → IsThere n ks → AreKept end os ks → AllByRecursion IsBegun (owed_tasks t n os)
  begun_owed n [] ks at k = tt
  begun_owed n (o ∷ os) [] at k = absurd k
  begun_owed n (o ∷ os) (c ∷ ks) at k =
      let here = there_first n c ks at in
      let le = k.1 in
      (omega (arith, here, le), begun_owed (n + 1) os ks (there_rest n c ks at) k.3)

  ended_owed : (n : ℕ) (os : List Owed) (ks : List ℕ) → IsThere n ks → AreKept end os ks → AllByRecursion IsEnded (owed_tasks t n os)
  ended_owed n [] ks at k = tt
  ended_owed n (o ∷ os) [] at k = absurd k
  ended_owed n (o ∷ os) (c ∷ ks) at k =
      let here = there_first n c ks at in
      let le = k.2 in
      (omega (arith, here, le), ended_owed (n + 1) os ks (there_rest n c ks at) k.3)

  issued_owed : (n : ℕ) (os : List Owed) (ks : List ℕ) → IsThere n ks → AreKept end os ks → AllByRecursion IsIssued (owed_tasks t n os)
  issued_owed n [] ks at k = tt
  issued_owed n (o ∷ os) [] at k = absurd k
  issued_owed n (o ∷ os) (c ∷ ks) at k =
      let here = there_first n c ks at in
      let le = k.0 in
      (omega (arith, here, le), issued_owed (n + 1) os ks (there_rest n c ks at) k.3)

  cycles_owed : (n : ℕ) (os : List Owed) (ks : List ℕ) → IsThere n ks → AreKept end os ks → map (cycle_of values) (owed_tasks t n os) ≡ ks
  cycles_owed n [] [] at k = refl
  cycles_owed n [] (c ∷ ks) at k = absurd k
  cycles_owed n (o ∷ os) [] at k = absurd k
  cycles_owed n (o ∷ os) (c ∷ ks) at k =
      ap (λ (v : ℕ). v ∷ map (cycle_of values) (owed_tasks t (n + 1) os)) (there_first n c ks at)
      ∙ ap (λ (vs : List ℕ). c ∷ vs) (cycles_owed (n + 1) os ks (there_rest n c ks at) k.3)

  taken_owed : (r : Resource) (cycle n : ℕ) (os : List Owed) (ks : List ℕ) → IsThere n ks → AreKept end os ks
      → taken r (owed_tasks t n os) values cycle ≡ owed_taken t r os ks cycle
  taken_owed r cycle n [] [] at k = refl
  taken_owed r cycle n [] (c ∷ ks) at k = absurd k
  taken_owed r cycle n (o ∷ os) [] at k = absurd k
  taken_owed r cycle n (o ∷ os) (c ∷ ks) at k =
      let one = ap (λ (v : ℕ). if nat_eq v cycle then share_of r (needs_by t (Some o.op)) else 0) (there_first n c ks at) in
      let cons = sum_by-cons (taken_by r cycle values) (owed_task t n o) (owed_tasks t (n + 1) os) in
      let rest = taken_owed r cycle (n + 1) os ks (there_rest n c ks at) k.3 in
      omega (arith, one, cons, rest)

  -- ---- all of them

  abbrev all : List Task
  all = drafted_ops t ops d

  -- the cycles of all, in their order
  abbrev pub cycles_with : List ℕ
  cycles_with = map (cycle_of x) ops ++ cs

  cycles_are : map (cycle_of values) all ≡ cycles_with
  cycles_are =
      map-append (cycle_of values) ops (owed_tasks t past d.owed)
      ∙ ap (λ (vs : List ℕ). vs ++ map (cycle_of values) (owed_tasks t past d.owed)) (same_map (cycle_of values) (cycle_of x) ops own_each)
      ∙ ap (λ (vs : List ℕ). map (cycle_of x) ops ++ vs) (cycles_owed past d.owed cs there_all kept)

  abbrev IsOrdered : Precedence → Type 0
  IsOrdered a = at_place (cycle_of values) all a.from + a.gap ≤ at_place (cycle_of values) all a.to

  ordered_one : (a : Precedence) → IsKeptBy cycles_with a → IsOrdered a
  ordered_one a h = subst (λ (vs : List ℕ). slice_index vs a.from + a.gap ≤ slice_index vs a.to) (sym cycles_are) h

  own_ordered : AllByRecursion (IsKeptBy cycles_with) arcs
  own_ordered = both arcs (recursion_from_All _ _ lead) (recursion_from_All _ _ fits.ordered)
    where
      both : (bs : List Precedence) → AllByRecursion (Leads (length ops)) bs
          → AllByRecursion (λ (a : Precedence). at_place (cycle_of x) ops a.from + a.gap ≤ at_place (cycle_of x) ops a.to) bs
          → AllByRecursion (IsKeptBy cycles_with) bs
      both [] l h = tt
      both (a ∷ bs) l h =
          let leads = l.0 in
          let from_in = leads.of_from in
          let to_in = leads.of_to in
          let long = length-map ops (cycle_of x) in
          let from = get_or_append_left (map (cycle_of x) ops) cs 0 a.from (omega (arith, from_in, long)) in
          let to = get_or_append_left (map (cycle_of x) ops) cs 0 a.to (omega (arith, to_in, long)) in
          let le = h.0 in
          (omega (arith, from, to, le), both bs l.1 h.1)

  module _ (ahead : AllByRecursion (IsKeptBy cycles_with) d.front) (after : AllByRecursion (IsKeptBy cycles_with) d.back)
      (room : (r : Resource) (c : ℕ) → taken r ops x c + owed_taken t r d.owed cs c ≤ places_of r) where
    abbrev count : ℕ
    count = length all

    arcs_ordered : AllByRecursion IsOrdered (drafted_arcs count arcs d)
    arcs_ordered = each_more (IsKeptBy cycles_with) IsOrdered (drafted_arcs count arcs d) ordered_one
        (each_join (IsKeptBy cycles_with) (within count d.front) (within count arcs ++ within count d.back)
        (each_within (IsKeptBy cycles_with) count d.front ahead)
        (each_join (IsKeptBy cycles_with) (within count arcs) (within count d.back) (each_within (IsKeptBy cycles_with) count arcs own_ordered)
        (each_within (IsKeptBy cycles_with) count d.back after)))

    begun_own : AllByRecursion IsBegun ops
    begun_own = two ops own_each (recursion_from_All _ _ fits.begun)
      where
        two : (us : List Task) → AllByRecursion IsOwn us → AllByRecursion (λ (u : Task). u.head ≤ cycle_of x u) us → AllByRecursion IsBegun us
        two [] o h = tt
        two (u ∷ us) o h = ((let same = o.0 in let le = h.0 in omega (arith, same, le)), two us o.1 h.1)

    ended_own : AllByRecursion IsEnded ops
    ended_own = two ops own_each (recursion_from_All _ _ fits.ended)
      where
        two : (us : List Task) → AllByRecursion IsOwn us → AllByRecursion (λ (u : Task). cycle_of x u + u.tail ≤ end) us
            → AllByRecursion IsEnded us
        two [] o h = tt
        two (u ∷ us) o h = ((let same = o.0 in let le = h.0 in omega (arith, same, le)), two us o.1 h.1)

    issued_own : AllByRecursion IsIssued ops
    issued_own = two ops own_each (recursion_from_All _ _ issued)
      where
        two : (us : List Task) → AllByRecursion IsOwn us → AllByRecursion (λ (u : Task). min u.tail 1 ≤ cycle_of x u) us
            → AllByRecursion IsIssued us
        two [] o h = tt
        two (u ∷ us) o h = ((let same = o.0 in let le = h.0 in omega (arith, same, le)), two us o.1 h.1)

    own_taken : (r : Resource) (c : ℕ) → taken r ops values c ≡ taken r ops x c
    own_taken r c = same_sum (taken_by r c values) (taken_by r c x) ops
        (each_more IsOwn (λ (u : Task). taken_by r c values u ≡ taken_by r c x u) ops
        (λ u same. ap (λ (v : ℕ). if nat_eq v c then share_of r u.needs else 0) same) own_each)

    abbrev IsEndedBy : Task → Type 0
    IsEndedBy u = cycle_of values u + u.tail ≤ slice_index values last.0

    pub all_fit : FitsBlock all (drafted_arcs count arcs d) last values
    all_fit = record {
      ordered = All-from_recursion _ _ arcs_ordered;
      begun = All-from_recursion _ _ (each_join IsBegun ops (owed_tasks t past d.owed) begun_own
          (begun_owed past d.owed cs there_all kept));
      ended = All-from_recursion _ _ (each_more IsEnded IsEndedBy all (λ u le. let e = at_end in omega (arith, le, e))
          (each_join IsEnded ops (owed_tasks t past d.owed) ended_own (ended_owed past d.owed cs there_all kept)));
      room = λ r c. (
          let parts = sum_by-append (taken_by r c values) ops (owed_tasks t past d.owed) in
          let own = own_taken r c in
          let more = taken_owed r c past d.owed cs there_all kept in
          let le = room r c in
          omega (arith, parts, own, more, le));
    }

    -- so the least end is no later than the block's
    pub drafted_no_later : (horizon from : ℕ) → from ≤ end
        → least_end_of all (drafted_arcs count arcs d) horizon from ≤ end
    drafted_no_later horizon from le =
        let e = at_end in
        let late = least_is_no_later all (drafted_arcs count arcs d) last horizon values all_fit
        (All-from_recursion _ _ (each_join IsIssued ops (owed_tasks t past d.owed) issued_own (issued_owed past d.owed cs there_all kept)))
        from (omega (arith, le, e)) in
        omega (arith, late, e)
