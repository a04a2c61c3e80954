-- What a block hands over: the reads of its end are the operands of its last operation, in order.
use Rattle.std.proofs.Common.{ℕ, zero, suc, ◌≡◌, ◌+◌, ◌^◌, Bool, true, false, cond, List, [], ◌∷◌, ◌++◌, map, filter, inl, refl, sym, ap, ◌∙◌}
use Rattle.std.proofs.Common.{subst, arith, append_assoc}
use Rattle.std.specs.Prelude.{Option, Some, None, slice_get, is_none, is_some, ◌||◌, ◌&&◌, nat_eq, if◌then◌else◌}
use Rattle.std.specs.List.{AllZip}
use Rattle.std.proofs.lemmas.Bool.Decides.{nat_tests}
use Rattle.un_base.specs.declared.ids.TempId.{TempId}
use Rattle.un_isa.specs.declared.op.Op.{Op}
use Rattle.un_ir.specs.declared.extended.ExtKind.{ExtKind}
use Rattle.un_ir.specs.declared.extended.ExtKind.TheVariants.{In, Out, Body, End, Copy, Enter, Leave}
use Rattle.un_ir.specs.declared.extended.Operand.{Operand}
use Rattle.un_ir.specs.declared.extended.ExtBlock.{ExtBlock}
use Rattle.un_ir.specs.declared.extended.Ext.{Ext}
use Rattle.un_ir.specs.Linear.{is_out}
use Rattle.un_ir.specs.Extended.{IsExtended, IsGoodExtBlock, IsGoodOperand, wants_of}
use Rattle.un_model.specs.declared.model.Options.{Options}
use Rattle.un_model.specs.declared.schedule.Read.{Read}
use Rattle.un_model.specs.Congruences.{is_live_out, live_out_reads}
use Rattle.un_model.specs.Instructions.{instruction_of}
use Rattle.un_model.specs.Pairs.{places_from, joined}
use Rattle.un_ir.specs.Kinds.{is_delimiter}
use Rattle.un_model.specs.Schedules.{reads_of, read_of, value_by}
use Rattle.un_model.specs.Variables.{model_of}
use Rattle.un_lists.proofs.Lists.{Each, Member, each_of, each_member, map-append, member_append_left, member_append_right, member_at}
use Rattle.un_model.proofs.OpDomains.{get_places}
use Rattle.un_model.proofs.Placed.{Placed, vars_of, issue_at, reads_at, reads_are, Region, region_placed}
use Rattle.un_model.proofs.PlacedSchedules.{all, member_joined}
use Rattle.un_lists.proofs.Lists.{member_map}
use Rattle.un_model.proofs.Operations.{GoodPlaced, all_good}
use Rattle.un_model.proofs.Readings.{all_member}
use Rattle.un_model.proofs.Regions.{regions, placed_regions, region_is, of_region, Ended, ended, last_of, front_of, region_parts}
use Rattle.un_model.proofs.Regions.{front_stays}

-- ---- filters

pub filter_append : {A : Type 0} (t : A → Bool) (xs ys : List A) → filter t (xs ++ ys) ≡ filter t xs ++ filter t ys
filter_append t [] ys = refl
filter_append t (x ∷ xs) ys =
    let k = filter_append t xs ys in
    elim (t x) as (λ b. cond b (x ∷ filter t (xs ++ ys)) (filter t (xs ++ ys)) ≡ cond b (x ∷ filter t xs) (filter t xs) ++ filter t ys)
    [ true ↦ ap (λ zs. x ∷ zs) k | false ↦ k ]

filter_none : {A B : Type 0} (t : B → Bool) (f : ℕ → A → B) (i : ℕ) (xs : List A) → ((n : ℕ) (x : A) → t (f n x) ≡ false)
    → filter t (places_from f i xs) ≡ []
filter_none t f i [] h = refl
filter_none t f i (x ∷ xs) h = ap (λ b. cond b (f i x ∷ filter t (places_from f (i + 1) xs)) (filter t (places_from f (i + 1) xs))) (h i x)
    ∙ filter_none t f (i + 1) xs h

filter_all : {A B : Type 0} (t : B → Bool) (f : ℕ → A → B) (i : ℕ) (xs : List A) → ((n : ℕ) (x : A) → t (f n x) ≡ true)
    → filter t (places_from f i xs) ≡ places_from f i xs
filter_all t f i [] h = refl
filter_all t f i (x ∷ xs) h =
    ap (λ b. cond b (f i x ∷ filter t (places_from f (i + 1) xs)) (filter t (places_from f (i + 1) xs))) (h i x)
    ∙ ap (λ ys. f i x ∷ ys) (filter_all t f (i + 1) xs h)

pub filter_joined : {A B : Type 0} (t : B → Bool) (f : A → List B) (xs : List A) → Each (λ x. filter t (f x) ≡ []) xs
    → filter t (joined (map f xs)) ≡ []
filter_joined t f [] h = refl
filter_joined t f (x ∷ xs) h = filter_append t (f x) (joined (map f xs)) ∙ ap (λ ys. ys ++ filter t (joined (map f xs))) h.0
    ∙ filter_joined t f xs h.1

append_nil : {A : Type 0} (xs : List A) → xs ++ [] ≡ xs
append_nil [] = refl
append_nil (x ∷ xs) = ap (λ ys. x ∷ ys) (append_nil xs)

filter_each : {A B : Type 0} (t : B → Bool) (f : A → List B) (xs : List A)
    → ((i : ℕ) (x : A) → slice_get xs i ≡ Some x → filter t (f x) ≡ [])
    → filter t (joined (map f xs)) ≡ []
filter_each t f [] h = refl
filter_each t f (x ∷ xs) h =
    filter_append t (f x) (joined (map f xs)) ∙ ap (λ ys. ys ++ filter t (joined (map f xs))) (h zero x refl)
    ∙ filter_each t f xs (λ i y e. h (suc i) y e)

-- where the lists of all but one give nothing
pub filter_one : {A B : Type 0} (t : B → Bool) (f : A → List B) (xs : List A) (k : ℕ) (x : A) → slice_get xs k ≡ Some x
    → ((i : ℕ) (y : A) → slice_get xs i ≡ Some y → (i ≡ k → ⊥) → filter t (f y) ≡ []) → filter t (joined (map f xs)) ≡ filter t (f x)
filter_one t f [] k x at h = absurd (cc at)
filter_one t f (y ∷ ys) zero x at h =
    let same : y ≡ x = cc at in
    filter_append t (f y) (joined (map f ys))
    ∙ ap (λ zs. filter t (f y) ++ zs) (filter_each t f ys (λ i z e. h (suc i) z e (λ n. absurd (omega arith))))
    ∙ append_nil (filter t (f y)) ∙ ap (λ z. filter t (f z)) same
filter_one t f (y ∷ ys) (suc k) x at h =
    filter_append t (f y) (joined (map f ys)) ∙ ap (λ zs. zs ++ filter t (joined (map f ys))) (h zero y refl (λ n. absurd (omega arith)))
    ∙ filter_one t f ys k x at (λ i z e n. h (suc i) z e (λ m. n (omega arith)))

joined-append : {A : Type 0} (xs ys : List (List A)) → joined (xs ++ ys) ≡ joined xs ++ joined ys
joined-append [] ys = refl
joined-append (x ∷ xs) ys = ap (λ zs. x ++ zs) (joined-append xs ys) ∙ sym (append_assoc x (joined xs) (joined ys))

joined_twice : {A B C : Type 0} (g : B → List C) (f : A → List B) (xs : List A)
    → joined (map g (joined (map f xs))) ≡ joined (map (λ x. joined (map g (f x))) xs)
joined_twice g f [] = refl
joined_twice g f (x ∷ xs) =
    ap joined (map-append g (f x) (joined (map f xs))) ∙ joined-append (map g (f x)) (map g (joined (map f xs)))
    ∙ ap (λ zs. joined (map g (f x)) ++ zs) (joined_twice g f xs)

module _ (e : Ext) (o : Options) (x : List ℕ) (extended : IsExtended e) where
  abbrev pub all_regions : List Region
  all_regions = regions 0 0 0 e.blocks

  abbrev region_reads : Region → List Read
  region_reads r = joined (map (reads_at x) (region_placed r))

  -- an operation of a region is an operation
  pub region_member : (k : ℕ) (r : Region) (q : Placed) → slice_get all_regions k ≡ Some r → Member q (region_placed r)
      → Member q (all e o x)
  region_member k r q at m =
      subst (Member q) (sym (placed_regions 0 0 0 e.blocks)) (member_joined (map region_placed all_regions) (region_placed r) q
      (member_map region_placed all_regions r (member_at all_regions k r at)) m)

  pub region_good : (k : ℕ) (r : Region) → slice_get all_regions k ≡ Some r → IsGoodExtBlock e.table e.names e.blocks r.owner
  region_good k r at =
      let g = extended.good in
      all_member (IsGoodExtBlock e.table e.names e.blocks) e.blocks r.owner g.each
      (member_at e.blocks k r.owner (region_is 0 0 0 e.blocks k r at).0)

  pub region_end : (k : ℕ) (r : Region) → slice_get all_regions k ≡ Some r → Ended r
  region_end k r at = ended e.table e.names e.blocks r (region_good k r at)

  pub last_member : (k : ℕ) (r : Region) (at : slice_get all_regions k ≡ Some r) → Member (last_of r (region_end k r at)) (all e o x)
  last_member k r at =
      let en = region_end k r at in
      region_member k r (last_of r en) at (subst (Member (last_of r en)) (sym (region_parts r en))
      (member_append_right (front_of r en) (last_of r en ∷ []) (last_of r en) (inl refl)))

  -- ---- reads that are not of a block's end

  -- of another block
  elsewhere : (k : ℕ) (q : Placed) → (q.block ≡ k → ⊥) → filter (is_live_out k) (reads_at x q) ≡ []
  elsewhere k q n = by (issue_at x q).active
    where
      other : nat_eq q.block k ≡ false
      other = go (nat_eq q.block k) refl
        where
          go : (b : Bool) → nat_eq q.block k ≡ b → b ≡ false
          go true h = absurd (n (grind (arith, nat_tests, h)))
          go false h = refl

      by : (b : Bool) → filter (is_live_out k) (if b then places_from (read_of x (issue_at x q) (vars_of q)) 0 q.op.operands else []) ≡ []
      by false = refl
      by true = filter_none (is_live_out k) (read_of x (issue_at x q) (vars_of q)) 0 q.op.operands
          (λ j y. ap (λ (b : Bool). b && is_none (issue_at x q).instr) other)

  -- of another operation
  within : (k : ℕ) (q : Placed) → Member q (all e o x) → is_out q.op.kind ≡ false → filter (is_live_out k) (reads_at x q) ≡ []
  within k q m stays = by q.op.kind refl stays
    where
      and_false : (b c : Bool) → c ≡ false → (b && c) ≡ false
      and_false true c h = h
      and_false false c h = refl

      none_of : (i : Option Op) → is_some i ≡ true → is_none i ≡ false
      none_of None h = absurd (cc h)
      none_of (Some op) h = refl

      by_active : (b : Bool) → (b ≡ true → is_some (issue_at x q).instr ≡ true)
          → filter (is_live_out k) (if b then places_from (read_of x (issue_at x q) (vars_of q)) 0 q.op.operands else []) ≡ []
      by_active false h = refl
      by_active true h = filter_none (is_live_out k) (read_of x (issue_at x q) (vars_of q)) 0 q.op.operands
          (λ j y. and_false (nat_eq q.block k) (is_none (issue_at x q).instr) (none_of (issue_at x q).instr (h refl)))

      issues : (kind : ExtKind) → q.op.kind ≡ kind → is_delimiter kind ≡ false → filter (is_live_out k) (reads_at x q) ≡ []
      issues kind h inner = by_active (issue_at x q).active (λ act. sym
          (ap (λ (b : Bool). b || is_some (issue_at x q).instr) (ap is_delimiter h ∙ inner)) ∙ act)

      empty : (before : List TempId) (xs : List Operand) → AllZip (IsGoodOperand e.names e.blocks before) xs [] → xs ≡ []
      empty before [] z = refl
      empty before (y ∷ ys) z = absurd z

      by : (kind : ExtKind) → q.op.kind ≡ kind → is_out kind ≡ false → filter (is_live_out k) (reads_at x q) ≡ []
      by In h s =
          let g = each_member (GoodPlaced e (2 ^ 24) extended.good) (all e o x) q (all_good e (2 ^ 24) extended.good) m in
          let keeps = g.keeps in
          let none = empty g.before q.op.operands (subst (λ (c : ExtKind). AllZip (IsGoodOperand e.names e.blocks g.before) q.op.operands
          (wants_of e.table e.names e.blocks q.owner c q.op)) h keeps.operands) in
          nothing (issue_at x q).active none
        where
          nothing : (b : Bool) → q.op.operands ≡ [] → filter (is_live_out k)
              (if b then places_from (read_of x (issue_at x q) (vars_of q)) 0 q.op.operands else []) ≡ []
          nothing false n = refl
          nothing true n = ap (λ xs. filter (is_live_out k) (places_from (read_of x (issue_at x q) (vars_of q)) 0 xs)) n
      by Out h s = absurd (cc s)
      by (Body so) h s = issues (Body so) h refl
      by (End term) h s = issues (End term) h refl
      by (Copy node) h s = issues (Copy node) h refl
      by Enter h s = issues Enter h refl
      by Leave h s = issues Leave h refl

  -- ---- the reads of a block's end

  module _ (k : ℕ) (r : Region) (at : slice_get all_regions k ≡ Some r) where
    abbrev pub the_end : Placed
    the_end = last_of r (region_end k r at)

    the_block : r.block ≡ k
    the_block = let at_is = (region_is 0 0 0 e.blocks k r at).1 in omega arith

    own : filter (is_live_out k) (reads_at x the_end) ≡ places_from (read_of x (issue_at x the_end) (vars_of the_end)) 0
        (let q = the_end in q.op.operands)
    own =
        let q = last_of r (region_end k r at) in
        let en = region_end k r at in
        let v = vars_of q in
        let active : (issue_at x q).active ≡ true = ap (λ (c : ExtKind). is_delimiter c || is_some (instruction_of c (value_by x v.instr)))
        en.is_end in
        let none : (issue_at x q).instr ≡ None = ap (λ (c : ExtKind). instruction_of c (value_by x v.instr)) en.is_end in
        let here : nat_eq r.block k ≡ true = let h = the_block in grind (arith, nat_tests, h) in
        ap (λ (b : Bool). filter (is_live_out k) (if b then places_from (read_of x (issue_at x q) v) 0 q.op.operands else [])) active
        ∙ filter_all (is_live_out k) (read_of x (issue_at x q) v) 0 q.op.operands
        (λ j y. ap (λ (b : Bool). b && is_none (issue_at x q).instr) here ∙ ap is_none none)

    pub end_reads : live_out_reads k (reads_of (model_of e o) x) ≡ places_from (read_of x (issue_at x the_end) (vars_of the_end)) 0
        (let q = the_end in q.op.operands)
    end_reads =
        let en = region_end k r at in
        let t = is_live_out k in
        let front = front_of r en in
        let q = last_of r en in
        let rd = reads_at x in
        let own_block : ExtBlock = r.owner in
        ap (filter t) (reads_are x 0 0 0 e.blocks ∙ ap (λ ps. joined (map rd ps)) (placed_regions 0 0 0 e.blocks)
        ∙ joined_twice rd region_placed all_regions)
        ∙ filter_one t region_reads all_regions k r at (λ i s e1 ne. filter_joined t rd (region_placed s)
        (each_of (λ p. filter t (rd p) ≡ []) (region_placed s) (λ p m.
        elsewhere k p (λ z. let a = of_region s p m in let b = (region_is 0 0 0 e.blocks i s e1).1 in ne (omega arith)))))
        ∙ ap (λ ps. filter t (joined (map rd ps))) (region_parts r en)
        ∙ ap (filter t) (ap joined (map-append rd front (q ∷ [])) ∙ joined-append (map rd front) (rd q ∷ []))
        ∙ filter_append t (joined (map rd front)) (rd q ++ [])
        ∙ ap (λ zs. zs ++ filter t (rd q ++ [])) (filter_joined t rd front (each_of (λ p. filter t (rd p) ≡ []) front (λ p m.
        within k p (region_member k r p at (subst (Member p) (sym (region_parts r en)) (member_append_left front (q ∷ []) p m)))
        (each_member (λ (p : Placed). is_out p.op.kind ≡ false) front p
        (front_stays r.block r.owner _ r.number r.first en.front en.inner) m))))
        ∙ ap (filter t) (append_nil (rd q)) ∙ own

    -- the read of the operand at place i
    pub end_read : (i : ℕ) (operand : Operand) → (let q = the_end in slice_get q.op.operands i ≡ Some operand)
        → slice_get (live_out_reads k (reads_of (model_of e o) x)) i ≡ Some (read_of x (issue_at x the_end) (vars_of the_end) i operand)
    end_read i operand h =
        ap (λ rs. slice_get rs i) end_reads
        ∙ get_places e o x (read_of x (issue_at x the_end) (vars_of the_end)) (let q = the_end in q.op.operands) 0 i i operand (omega arith)
        h
