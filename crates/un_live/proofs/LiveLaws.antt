-- Marking the blocks at whose start a name is live: what is marked is live, and what is live is marked in the end.
use Rattle.std.proofs.Common.{◌≡◌, ◌≢◌, ℕ, zero, suc, ◌+◌, ◌-◌, ◌<◌, ◌≤◌, ◌||◌, ◌⊎◌, inl, inr, Bool, true, false, nat_eq, List, [], ◌∷◌}
use Rattle.std.proofs.Common.{Option, Some, None, map, length, drop, set, replicate, slice_get, get_or, Contains, if◌then◌else◌, refl, sym}
use Rattle.std.proofs.Common.{ap, add-one, ◌∙◌, arith, subst}
use Rattle.std.specs.Option.{option_map_or}
use Rattle.std.proofs.lemmas.Bool.{eqb-true}
use Rattle.std.proofs.lemmas.Option.{slice_get_past, slice_get-get_or}
use Rattle.std.proofs.lemmas.List.{length-set, length-replicate, get_or-replicate, get_or-set_same, get_or-set_other}
use Rattle.un_base.specs.declared.ids.NameId.{NameId}
use Rattle.un_ir.specs.declared.function.SrcOp.{SrcOp}
use Rattle.un_ir.specs.declared.function.Term.{Term}
use Rattle.un_ir.specs.declared.function.Term.TheVariants.{Fall, Jump, Branch, Ret}
use Rattle.un_ir.specs.declared.function.Block.{Block}
use Rattle.un_ir.specs.Live.{IsLive, used, kept, read_by_term, read_by, read_at, targets_of, assigned_by, assigned_at, next_by, next_of}
use Rattle.un_live.specs.declared.meeting.Meeting.{Meeting}
use Rattle.un_live.specs.declared.meeting.Meeting.TheVariants.{Read, Assigned, Neither}
use Rattle.un_live.specs.Tables.{reads, assigns, meeting, meet, met, noted, noted_all, noted_dst, noted_ops, noted_term, table_of}
use Rattle.un_live.specs.Marks.{marked, leads, live_by, lives, lives_at, AreSound, AreClosed, unmarked, name_of, IsColumn}

-- ---- names in a list

same_id : (m n : NameId) → nat_eq m.0 n.0 ≡ true → m ≡ n
same_id m n e = ap (λ (x : ℕ). (let r : NameId = record { 0 = x } in r)) (eqb-true m.0 n.0 e)

own_id : (n : NameId) → nat_eq n.0 n.0 ≡ true
own_id n = grind arith

or_cases : (a b : Bool) → (a || b) ≡ true → (a ≡ true) ⊎ (b ≡ true)
or_cases true b h = inl refl
or_cases false b h = inr h

pub reads-Contains : (name : NameId) (names : List NameId) → reads name names ≡ true → Contains names name
reads-Contains name [] h = absurd (cc h)
reads-Contains name (n ∷ names) h = elim (or_cases (nat_eq n.0 name.0) (reads name names) h) [
  | inl here ↦ (0, omega arith, same_id n name here)
  | inr later ↦ (λ (found : Contains names name). (let r : Contains (n ∷ names) name = (suc found.0, omega (arith, found.1), found.2) in r))
      (reads-Contains name names later)
]

pub Contains-reads : (name : NameId) (names : List NameId) → Contains names name → reads name names ≡ true
Contains-reads name [] (k, below, is) = absurd (omega arith)
Contains-reads name (n ∷ names) (zero, below, is) = rw (is, own_id name) refl
Contains-reads name (n ∷ names) (suc k, below, is) = or_true (nat_eq n.0 name.0) (reads name names)
    (Contains-reads name names (k, omega arith, is))
  where
    or_true : (a b : Bool) → b ≡ true → (a || b) ≡ true
    or_true true b h = refl
    or_true false b h = h

-- ---- places of a list

-- what stands at a place
record Standing {X : Type 0} (xs : List X) (k : ℕ) : Type 0 where
  item : X
  got : slice_get xs k ≡ Some item
  front : drop k xs ≡ item ∷ drop (suc k) xs

abbrev AtPlace : {X : Type 0} → List X → ℕ → Type 0
AtPlace xs k = ((slice_get xs k ≡ None) × (drop k xs ≡ [])) ⊎ Standing xs k

at_place : {X : Type 0} (xs : List X) (k : ℕ) → k ≤ length xs → AtPlace xs k
at_place [] zero h = inl (refl, refl)
at_place [] (suc k) h = absurd (omega arith)
at_place (x ∷ xs) zero h = inr (record { item = x; got = refl; front = refl })
at_place (x ∷ xs) (suc k) h = elim (at_place xs k (omega arith)) [
  | inl e ↦ inl e
  | inr s ↦ inr (record { item = s.item; got = s.got; front = s.front })
]

got_within : {X : Type 0} (xs : List X) (k : ℕ) (x : X) → slice_get xs k ≡ Some x → k + 1 ≤ length xs
got_within [] k x e = absurd (cc e)
got_within (y ∷ ys) zero x e = omega arith
got_within (y ∷ ys) (suc k) x e = let r = got_within ys k x e in omega (arith, r)

-- ---- places of a block

same_some : {X : Type 0} (x y : X) → Some x ≡ Some y → x ≡ y
same_some x y e = cc e

pair_first : (xs : List ℕ) (c l : ℕ) → Contains {X = ℕ × ℕ} (map (λ (n : ℕ). (n, 0)) xs) (c, l) → Contains xs c × (l ≡ 0)
pair_first [] c l (k, below, is) = absurd (omega arith)
pair_first (x ∷ xs) c l (zero, below, is) = ((0, omega arith, ap (λ (p : ℕ × ℕ). p.0) is), sym (ap (λ (p : ℕ × ℕ). p.1) is))
pair_first (x ∷ xs) c l (suc k, below, is) =
    (λ (r : Contains xs c × (l ≡ 0)). (let t : Contains (x ∷ xs) c × (l ≡ 0) = ((suc r.0.0, omega (arith, r.0.1), r.0.2), r.1) in t))
    (pair_first xs c l (k, omega arith, is))

pair_place : (xs : List ℕ) (c : ℕ) → Contains xs c → Contains {X = ℕ × ℕ} (map (λ (n : ℕ). (n, 0)) xs) (c, 0)
pair_place [] c (k, below, is) = absurd (omega arith)
pair_place (x ∷ xs) c (zero, below, is) = (0, omega arith, ap (λ (n : ℕ). (n, 0)) is)
pair_place (x ∷ xs) c (suc k, below, is) =
    (λ (r : Contains {X = ℕ × ℕ} (map (λ (n : ℕ). (n, 0)) xs) (c, 0)).
    (let t : Contains {X = ℕ × ℕ} (map (λ (n : ℕ). (n, 0)) (x ∷ xs)) (c, 0) = (suc r.0, omega (arith, r.1), r.2) in t))
    (pair_place xs c (k, omega arith, is))

only : {X : Type 0} (x y : X) → Contains (x ∷ []) y → x ≡ y
only x y (zero, below, is) = is
only x y (suc k, below, is) = absurd (omega arith)

-- ---- marks

leads_target : (marks : List Bool) (b : ℕ) (term : Term) → leads marks b term ≡ true
    → (c : ℕ) × Contains (targets_of b term) c × (marked marks c ≡ true)
leads_target marks b Fall h = (b + 1, (0, omega arith, refl), h)
leads_target marks b (Jump to) h = (to.0, (0, omega arith, refl), h)
leads_target marks b (Branch pred sense to) h = elim (or_cases (marked marks (b + 1)) (marked marks to.0) h) [
  | inl next ↦ (b + 1, (0, omega arith, refl), next)
  | inr other ↦ (to.0, (1, omega arith, refl), other)
]
leads_target marks b (Ret value) h = absurd (cc h)

or_left : (a b : Bool) → a ≡ true → (a || b) ≡ true
or_left true b h = refl
or_left false b h = absurd (cc h)

or_right : (a b : Bool) → b ≡ true → (a || b) ≡ true
or_right true b h = refl
or_right false b h = h

target_leads : (marks : List Bool) (b : ℕ) (term : Term) (c : ℕ) → Contains (targets_of b term) c → marked marks c ≡ true
    → leads marks b term ≡ true
target_leads marks b Fall c has h = rw (only (b + 1) c has) h
target_leads marks b (Jump to) c has h = rw (only to.0 c has) h
target_leads marks b (Branch pred sense to) c (zero, below, is) h = or_left (marked marks (b + 1)) (marked marks to.0) (rw is h)
target_leads marks b (Branch pred sense to) c (suc zero, below, is) h = or_right (marked marks (b + 1)) (marked marks to.0) (rw is h)
target_leads marks b (Branch pred sense to) c (suc (suc k), below, is) h = absurd (omega arith)
target_leads marks b (Ret value) c (k, below, is) h = absurd (omega arith)

-- ---- what is live is found

-- what a block does first decides
decided : (v : Bool) (m : Meeting) (l : Bool) → (v ≡ false → live_by m l ≡ true) → live_by (if v then Read else m) l ≡ true
decided true m l h = refl
decided false m l h = h refl

unassigned : (name : NameId) (dst : Option NameId) → dst ≢ Some name → assigns name dst ≡ false
unassigned name None other = refl
unassigned name (Some n) other = by (nat_eq n.0 name.0) refl
  where
    by : (v : Bool) → nat_eq n.0 name.0 ≡ v → v ≡ false
    by true e = absurd (other (ap Some (same_id n name e)))
    by false e = refl

live_block : (blocks : List Block) (name : NameId) (b k : ℕ) → IsLive blocks name b k → (block : Block) × (slice_get blocks b ≡ Some block)
live_block blocks name b k (used b2 k2 block g h has) = (block, g)
live_block blocks name b k (kept b2 k2 block c l g h na nx live) = (block, g)

-- by the marks, the name is live at a place of a block
abbrev Meets : NameId → List Bool → ℕ → ℕ → Block → Type 0
Meets name marks b k block = live_by (meeting name (drop k block.ops) block.term) (leads marks b block.term) ≡ true

read_meets : (name : NameId) (marks : List Bool) (b k : ℕ) (block : Block) → k ≤ length block.ops → Contains (read_at block k) name
    → Meets name marks b k block
read_meets name marks b k block h has = elim (at_place block.ops k h) [
  | inl (none, empty) ↦
      let term : Contains (read_by_term block.term) name = subst (λ (o : Option SrcOp). Contains (read_by o block.term) name) none has in
      rw (empty, Contains-reads name (read_by_term block.term) term) refl
  | inr s ↦
      let srcs : Contains s.item.srcs name = subst (λ (o : Option SrcOp). Contains (read_by o block.term) name) s.got has in
      rw (s.front, Contains-reads name s.item.srcs srcs) refl
]

kept_meets : (blocks : List Block) (name : NameId) (marks : List Bool) → AreClosed blocks name marks
    → (b k : ℕ) (block : Block) → slice_get blocks b ≡ Some block → k ≤ length block.ops → assigned_at block k ≢ Some name
    → (c l : ℕ) → Contains {X = ℕ × ℕ} (next_of b k block) (c, l) → (next : Block) → slice_get blocks c ≡ Some next
    → ((other : Block) → slice_get blocks c ≡ Some other → Meets name marks c l other)
    → Meets name marks b k block
kept_meets blocks name marks closed b k block is h na c l nx next there ih = elim (at_place block.ops k h) [
  | inl (none, empty) ↦
      let places : Contains {X = ℕ × ℕ} (map (λ (n : ℕ). (n, 0)) (targets_of b block.term)) (c, l) =
      subst (λ (o : Option SrcOp). Contains {X = ℕ × ℕ} (next_by b k o block.term) (c, l)) none nx in
      let has = pair_first (targets_of b block.term) c l places in
      let start : Meets name marks c 0 next = subst (λ (n : ℕ). Meets name marks c n next) has.1 (ih next there) in
      let live : lives_at blocks name marks c ≡ true = rw there start in
      let led : leads marks b block.term ≡ true = target_leads marks b block.term c has.0 (closed c live) in
      rw (empty, led) (decided (reads name (read_by_term block.term)) Neither true (λ no. refl))
  | inr s ↦
      let place : Contains {X = ℕ × ℕ} ((b, k + 1) ∷ []) (c, l) =
      subst (λ (o : Option SrcOp). Contains {X = ℕ × ℕ} (next_by b k o block.term) (c, l)) s.got nx in
      let same : ◌≡◌ {A = ℕ × ℕ} (b, k + 1) (c, l) = only {X = ℕ × ℕ} (b, k + 1) (c, l) place in
      let dst : s.item.dst ≢ Some name = subst (λ (o : Option SrcOp). assigned_by o ≢ Some name) s.got na in
      let after : Meets name marks b (k + 1) block = subst (λ (p : ℕ × ℕ). (other : Block) → slice_get blocks p.0 ≡ Some other
      → Meets name marks p.0 p.1 other) (sym same) ih block is in
      let later : Meets name marks b (suc k) block = rw add-one at after in
      rw s.front (decided (reads name s.item.srcs) _ (leads marks b block.term) (λ no. rw (unassigned name s.item.dst dst) later))
]

live_meets : (blocks : List Block) (name : NameId) (marks : List Bool) → AreClosed blocks name marks
    → (b k : ℕ) → IsLive blocks name b k → (block : Block) → slice_get blocks b ≡ Some block → Meets name marks b k block
live_meets blocks name marks closed b k (used b2 k2 own g h has) block is =
    let e : own ≡ block = same_some own block (sym g ∙ is) in
    read_meets name marks b2 k2 block (subst (λ (x : Block). k2 ≤ length x.ops) e h)
    (subst (λ (x : Block). Contains (read_at x k2) name) e has)
live_meets blocks name marks closed b k (kept b2 k2 own c l g h na nx live) block is =
    let e : own ≡ block = same_some own block (sym g ∙ is) in
    let next = live_block blocks name c l live in
    kept_meets blocks name marks closed b2 k2 block is (subst (λ (x : Block). k2 ≤ length x.ops) e h)
    (subst (λ (x : Block). assigned_at x k2 ≢ Some name) e na)
    c l (subst (λ (x : Block). Contains {X = ℕ × ℕ} (next_of b2 k2 x) (c, l)) e nx) next.0 next.1
    (live_meets blocks name marks closed c l live)

-- where no block is left to be marked, each block at whose start the name is live is marked
pub live_marked : (blocks : List Block) (name : NameId) (marks : List Bool) → AreClosed blocks name marks → (b : ℕ)
    → IsLive blocks name b 0 → marked marks b ≡ true
live_marked blocks name marks closed b live =
    let block = live_block blocks name b 0 live in
    let meets : Meets name marks b 0 block.0 = live_meets blocks name marks closed b 0 live block.0 block.1 in
    let here : lives_at blocks name marks b ≡ true = rw block.1 meets in
    closed b here

pub is_column : (blocks : List Block) (name : NameId) (marks : List Bool) → length marks ≡ length blocks → AreSound blocks name marks
    → AreClosed blocks name marks → IsColumn blocks name marks
is_column blocks name marks long sound closed = record { long = long; exact = λ b. (sound b, live_marked blocks name marks closed b) }

-- ---- what is marked is live

meets_live : (blocks : List Block) (name : NameId) (b : ℕ) (block : Block) → slice_get blocks b ≡ Some block → (l : Bool)
    → (l ≡ true → (c : ℕ) × Contains (targets_of b block.term) c × IsLive blocks name c 0)
    → (os : List SrcOp) (k : ℕ) → drop k block.ops ≡ os → k ≤ length block.ops → live_by (meeting name os block.term) l ≡ true
    → IsLive blocks name b k
meets_live blocks name b block is l out [] k drops h hyp = elim (at_place block.ops k h) [
  | inl (none, empty) ↦ by none (reads name (read_by_term block.term)) refl hyp
  | inr s ↦ absurd (cc (sym s.front ∙ drops))
]
  where
    by : slice_get block.ops k ≡ None → (v : Bool) → reads name (read_by_term block.term) ≡ v
        → live_by (if v then Read else Neither) l ≡ true → IsLive blocks name b k
    by none true e hyp = used b k block is h (subst (λ (o : Option SrcOp). Contains (read_by o block.term) name) (sym none)
        (reads-Contains name (read_by_term block.term) e))
    by none false e hyp =
        let t = out hyp in
        kept b k block t.0 0 is h
        (subst (λ (o : Option SrcOp). assigned_by o ≢ Some name) (sym none) (λ e. cc e))
        (subst (λ (o : Option SrcOp). Contains {X = ℕ × ℕ} (next_by b k o block.term) (t.0, 0)) (sym none)
        (pair_place (targets_of b block.term) t.0 t.1))
        t.2
meets_live blocks name b block is l out (o ∷ os) k drops h hyp = elim (at_place block.ops k h) [
  | inl (none, empty) ↦ absurd (cc (sym empty ∙ drops))
  | inr s ↦
      let e : s.item ∷ drop (suc k) block.ops ≡ o ∷ os = sym s.front ∙ drops in
      let same : s.item ≡ o = cc e in
      let rest : drop (suc k) block.ops ≡ os = cc e in
      let got : slice_get block.ops k ≡ Some o = s.got ∙ ap Some same in
      let later : drop (k + 1) block.ops ≡ os = rw add-one rest in
      let bound : k + 1 ≤ length block.ops = got_within block.ops k o got in
      by got bound (meets_live blocks name b block is l out os (k + 1) later bound) (reads name o.srcs) refl (assigns name o.dst) refl hyp
]
  where
    by : slice_get block.ops k ≡ Some o → k + 1 ≤ length block.ops
        → (live_by (meeting name os block.term) l ≡ true → IsLive blocks name b (k + 1))
        → (v : Bool) → reads name o.srcs ≡ v → (w : Bool) → assigns name o.dst ≡ w
        → live_by (if v then Read else (if w then Assigned else meeting name os block.term)) l ≡ true → IsLive blocks name b k
    by got bound later true e w f hyp = used b k block is h (subst (λ (x : Option SrcOp). Contains (read_by x block.term) name) (sym got)
        (reads-Contains name o.srcs e))
    by got bound later false e true f hyp = absurd (cc hyp)
    by got bound later false e false f hyp =
        kept b k block b (k + 1) is h
        (subst (λ (x : Option SrcOp). assigned_by x ≢ Some name) (sym got) (λ d. not_assigned d))
        (subst (λ (x : Option SrcOp). Contains {X = ℕ × ℕ} (next_by b k x block.term) (b, k + 1)) (sym got) (0, omega arith, refl))
        (later hyp)
      where
        not_assigned : o.dst ≡ Some name → ⊥
        not_assigned d = let yes : assigns name o.dst ≡ true = rw d (own_id name) in cc (sym f ∙ yes)

block_live : (blocks : List Block) (name : NameId) (marks : List Bool) → AreSound blocks name marks → (b : ℕ)
    → lives_at blocks name marks b ≡ true → IsLive blocks name b 0
block_live blocks name marks sound b h = by (slice_get blocks b) refl h
  where
    by : (o : Option Block) → slice_get blocks b ≡ o → option_map_or (lives name marks b) o false ≡ true → IsLive blocks name b 0
    by None e hyp = absurd (cc hyp)
    by (Some block) e hyp =
        meets_live blocks name b block e (leads marks b block.term)
        (λ led. let t = leads_target marks b block.term led in (t.0, t.1, sound t.0 t.2))
        block.ops 0 refl (omega arith) hyp

marked_set : (marks : List Bool) (b c : ℕ) → marked (set marks b true) c ≡ true → (c ≡ b) ⊎ (marked marks c ≡ true)
marked_set [] b c h = absurd (cc h)
marked_set (m ∷ marks) zero zero h = inl refl
marked_set (m ∷ marks) zero (suc c) h = inr h
marked_set (m ∷ marks) (suc b) zero h = inr h
marked_set (m ∷ marks) (suc b) (suc c) h = elim (marked_set marks b c h) [ inl e ↦ inl (ap suc e) | inr e ↦ inr e ]

pub sound_step : (blocks : List Block) (name : NameId) (marks : List Bool) (b : ℕ) → AreSound blocks name marks
    → lives_at blocks name marks b ≡ true → AreSound blocks name (set marks b true)
sound_step blocks name marks b sound lives c h = elim (marked_set marks b c h) [
  | inl e ↦ rw e (block_live blocks name marks sound b lives)
  | inr e ↦ sound c e
]

-- ---- how many blocks are not marked

pub fewer_unmarked : (marks : List Bool) (b : ℕ) → b < length marks → marked marks b ≡ false → unmarked (set marks b true) < unmarked marks
fewer_unmarked [] b h un = absurd (omega arith)
fewer_unmarked (m ∷ marks) zero h un = rw un (omega arith)
fewer_unmarked (true ∷ marks) (suc b) h un = fewer_unmarked marks b (omega arith) un
fewer_unmarked (false ∷ marks) (suc b) h un = let r = fewer_unmarked marks b (omega arith) un in omega (arith, r)

pub none_marked : (blocks : List Block) (name : NameId) (n : ℕ) → AreSound blocks name (replicate n false)
none_marked blocks name n b h = absurd (cc (sym (no n b) ∙ h))
  where
    no : (n b : ℕ) → marked (replicate n false) b ≡ false
    no zero b = refl
    no (suc n) zero = refl
    no (suc n) (suc b) = no n b

-- ---- tables

meet_neither : (m : Meeting) → meet m Neither ≡ m
meet_neither Read = refl
meet_neither Assigned = refl
meet_neither Neither = refl

meet_assoc : (k l m : Meeting) → meet (meet k l) m ≡ meet k (meet l m)
meet_assoc Read l m = refl
meet_assoc Assigned l m = refl
meet_assoc Neither l m = refl

noted_length : (table : List Meeting) (name : NameId) (m : Meeting) → length (noted table name m) ≡ length table
noted_length table name m = length-set table name.0 _

noted_all_length : (table : List Meeting) (names : List NameId) (m : Meeting) → length (noted_all table names m) ≡ length table
noted_all_length table [] m = refl
noted_all_length table (name ∷ names) m = noted_all_length (noted table name m) names m ∙ noted_length table name m

noted_dst_length : (table : List Meeting) (dst : Option NameId) → length (noted_dst table dst) ≡ length table
noted_dst_length table None = refl
noted_dst_length table (Some name) = noted_length table name Assigned

abbrev if_so : Bool → Meeting → Meeting
if_so v m = if v then m else Neither

noted_met : (table : List Meeting) (name : NameId) (m : Meeting) (i : ℕ) → i < length table
    → met (noted table name m) i ≡ meet (met table i) (if_so (nat_eq name.0 i) m)
noted_met table name m i h = by (nat_eq name.0 i) refl
  where
    by : (v : Bool) → nat_eq name.0 i ≡ v → met (noted table name m) i ≡ meet (met table i) (if_so v m)
    by true e = let same : name.0 ≡ i = eqb-true name.0 i e in
        rw same (get_or-set_same table i (meet (met table i) m) Neither h)
    by false e = let other : i ≢ name.0 = λ same. (let yes : nat_eq name.0 i ≡ true = rw same (grind arith) in cc (sym e ∙ yes)) in
        get_or-set_other table name.0 i (meet (met table name.0) m) Neither other ∙ sym (meet_neither (met table i))

meet_twice : (v w : Bool) (k m : Meeting) → meet (meet k (if_so v m)) (if_so w m) ≡ meet k (if_so (v || w) m)
meet_twice true true Read m = refl
meet_twice true true Assigned m = refl
meet_twice true true Neither Read = refl
meet_twice true true Neither Assigned = refl
meet_twice true true Neither Neither = refl
meet_twice true false k m = meet_neither (meet k m)
meet_twice false w k m = ap (λ (x : Meeting). meet x (if_so w m)) (meet_neither k)

noted_all_met : (table : List Meeting) (names : List NameId) (m : Meeting) (i : ℕ) → i < length table
    → met (noted_all table names m) i ≡ meet (met table i) (if_so (reads (name_of i) names) m)
noted_all_met table [] m i h = sym (meet_neither (met table i))
noted_all_met table (name ∷ names) m i h =
    let below : i < length (noted table name m) = rw (noted_length table name m) h in
    noted_all_met (noted table name m) names m i below
    ∙ ap (λ (x : Meeting). meet x (if_so (reads (name_of i) names) m)) (noted_met table name m i h)
    ∙ meet_twice (nat_eq name.0 i) (reads (name_of i) names) (met table i) m

noted_dst_met : (table : List Meeting) (dst : Option NameId) (i : ℕ) → i < length table
    → met (noted_dst table dst) i ≡ meet (met table i) (if_so (assigns (name_of i) dst) Assigned)
noted_dst_met table None i h = sym (meet_neither (met table i))
noted_dst_met table (Some name) i h = noted_met table name Assigned i h

meet_op : (v w : Bool) (k m : Meeting)
    → meet (meet (meet k (if_so v Read)) (if_so w Assigned)) m ≡ meet k (if v then Read else (if w then Assigned else m))
meet_op true w Read m = refl
meet_op true w Assigned m = refl
meet_op true w Neither m = refl
meet_op false true Read m = refl
meet_op false true Assigned m = refl
meet_op false true Neither m = refl
meet_op false false Read m = refl
meet_op false false Assigned m = refl
meet_op false false Neither m = refl

block_met : (table : List Meeting) (os : List SrcOp) (term : Term) (i : ℕ) → i < length table
    → met (noted_term (noted_ops table os) term) i ≡ meet (met table i) (meeting (name_of i) os term)
block_met table [] term i h = noted_all_met table (read_by_term term) Read i h
block_met table (o ∷ os) term i h =
    let after = noted_dst (noted_all table o.srcs Read) o.dst in
    let long : length after ≡ length table = noted_dst_length (noted_all table o.srcs Read) o.dst ∙ noted_all_length table o.srcs Read in
    let inner : i < length (noted_all table o.srcs Read) = rw (noted_all_length table o.srcs Read) h in
    let below : i < length after = rw long h in
    let v = reads (name_of i) o.srcs in
    let w = assigns (name_of i) o.dst in
    let here : met after i ≡ meet (meet (met table i) (if_so v Read)) (if_so w Assigned) =
    noted_dst_met (noted_all table o.srcs Read) o.dst i inner
    ∙ ap (λ (x : Meeting). meet x (if_so w Assigned)) (noted_all_met table o.srcs Read i h) in
    block_met after os term i below
    ∙ ap (λ (x : Meeting). meet x (meeting (name_of i) os term)) here
    ∙ meet_op v w (met table i) (meeting (name_of i) os term)

pub table_met : (names : ℕ) (block : Block) (i : ℕ) → i < names → met (table_of names block) i ≡ meeting (name_of i) block.ops block.term
table_met names block i h =
    let long : i < length (replicate names Neither) = rw (length-replicate names Neither) h in
    let none : met (replicate names Neither) i ≡ Neither = get_or-replicate names i Neither Neither h in
    block_met (replicate names Neither) block.ops block.term i long ∙ rw none refl

-- lists of tables
abbrev pub List2 : Type 0
List2 = List (List Meeting)

map_got : {X Y : Type 0} (f : X → Y) (xs : List X) (b : ℕ) (x : X) (y : Y) → slice_get xs b ≡ Some x → slice_get (map f xs) b ≡ Some y
    → f x ≡ y
map_got f [] b x y e g = absurd (cc e)
map_got f (a ∷ xs) zero x y e g = cc
map_got f (a ∷ xs) (suc b) x y e g = map_got f xs b x y e g

-- the table of block b says whether the name is live at its start
pub lives_by_table : (blocks : List Block) (name names b : ℕ) (d : Block) (table : List Meeting) (marks : List Bool) → name < names
    → b < length blocks → slice_get (map (table_of names) blocks) b ≡ Some table
    → lives_at blocks (name_of name) marks b ≡ live_by (met table name) (let block = get_or blocks b d in leads marks b block.term)
lives_by_table blocks name names b d table marks h below got =
    let block = get_or blocks b d in
    let here : slice_get blocks b ≡ Some block = slice_get-get_or blocks b d below in
    let same : table_of names block ≡ table = map_got (table_of names) blocks b block table here got in
    let m : met table name ≡ meeting (name_of name) block.ops block.term = ap (λ (t : List Meeting). met t name) (sym same)
    ∙ table_met names block name h in
    rw (here, m) refl

-- ---- a pass over the blocks

abbrev pub ClosedFrom : List Block → NameId → List Bool → ℕ → Type 0
ClosedFrom blocks name marks rest = (b : ℕ) → rest ≤ b → lives_at blocks name marks b ≡ true → marked marks b ≡ true

-- none of the blocks past the last is to be marked
pub closed_past : (blocks : List Block) (name : NameId) (marks : List Bool) → ClosedFrom blocks name marks (length blocks)
closed_past blocks name marks b past h = let none : slice_get blocks b ≡ None = slice_get_past blocks b past in
    absurd (cc (sym (rw none at h)))

pub closed_more : (blocks : List Block) (name : NameId) (marks : List Bool) (b rest : ℕ) → rest ≡ b + 1 → ClosedFrom blocks name marks rest
    → (lives_at blocks name marks b ≡ true → marked marks b ≡ true) → ClosedFrom blocks name marks b
closed_more blocks name marks b rest one closed here c from h = by (nat_eq b c) refl
  where
    by : (v : Bool) → nat_eq b c ≡ v → marked marks c ≡ true
    by true e = let same : b ≡ c = eqb-true b c e in subst (λ (k : ℕ). lives_at blocks name marks k ≡ true → marked marks k ≡ true) same
        here h
    by false e = let other : b ≢ c = λ same. (let yes : nat_eq b c ≡ true = rw same (grind arith) in cc (sym e ∙ yes)) in
        closed c (omega arith) h

-- A pass that has come down to block `rest` from the marks `first`: what is marked is live, and where nothing was marked yet
-- none of the blocks from there on is left to be marked.
pub record IsPass (blocks : List Block) (name : NameId) (first marks : List Bool) (changed : Bool) (rest : ℕ) : Type 0 where
  pub within : rest ≤ length blocks
  pub long : length marks ≡ length blocks
  pub sound : AreSound blocks name marks
  pub fewer : unmarked marks ≤ unmarked first
  pub yes : changed ≡ true → unmarked marks < unmarked first
  pub closed : changed ≡ false → ClosedFrom blocks name marks rest

pub pass_start : (blocks : List Block) (name : NameId) (marks : List Bool) → length marks ≡ length blocks → AreSound blocks name marks
    → IsPass blocks name marks marks false (length blocks)
pass_start blocks name marks long sound = record {
  within = omega arith;
  long = long;
  sound = sound;
  fewer = omega arith;
  yes = λ e. absurd (cc e);
  closed = λ e. closed_past blocks name marks;
}

pub pass_marked : (blocks : List Block) (name : NameId) (first marks : List Bool) (changed : Bool) (rest : ℕ)
    → IsPass blocks name first marks changed rest → 0 < rest
    → marked marks (rest - 1) ≡ false → lives_at blocks name marks (rest - 1) ≡ true
    → IsPass blocks name first (set marks (rest - 1) true) true (rest - 1)
pass_marked blocks name first marks changed rest p more un lives =
    let within = p.within in
    let long = p.long in
    let below : rest - 1 < length marks = omega arith in
    let falls = fewer_unmarked marks (rest - 1) below un in
    let fewer = p.fewer in
    record {
      within = omega arith;
      long = length-set marks (rest - 1) true ∙ p.long;
      sound = sound_step blocks name marks (rest - 1) p.sound lives;
      fewer = omega arith;
      yes = λ e. omega (arith, falls, fewer);
      closed = λ e. absurd (cc e);
    }

pub pass_same : (blocks : List Block) (name : NameId) (first marks : List Bool) (changed : Bool) (rest : ℕ)
    → IsPass blocks name first marks changed rest → 0 < rest
    → (lives_at blocks name marks (rest - 1) ≡ true → marked marks (rest - 1) ≡ true) → IsPass blocks name first marks changed (rest - 1)
pass_same blocks name first marks changed rest p more here =
    let within = p.within in
    let one : rest ≡ (rest - 1) + 1 = omega arith in
    record {
      within = omega arith;
      long = p.long;
      sound = p.sound;
      fewer = p.fewer;
      yes = p.yes;
      closed = λ e. closed_more blocks name marks (rest - 1) rest one (p.closed e) here;
    }

pub pass_end : (blocks : List Block) (name : NameId) (first marks : List Bool) (rest : ℕ) → IsPass blocks name first marks false rest
    → rest ≤ 0 → AreClosed blocks name marks
pass_end blocks name first marks rest p none b = p.closed refl b (omega arith)
