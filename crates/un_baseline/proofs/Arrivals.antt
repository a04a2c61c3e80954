-- The operands of an operation are reloaded into registers, and the operation reads them there.
use Rattle.std.proofs.Common.{◌≡◌, ◌≢◌, ℕ, zero, suc, ◌+◌, ◌<◌, ◌≤◌, ◌⊎◌, ⊎_elim, inl, inr, Bool, true, false, List, [], ◌∷◌, ◌++◌, length}
use Rattle.std.proofs.Common.{map, Option, Some, None, refl, sym, ap, subst, ◌∙◌, append_assoc, arith}
use Rattle.std.specs.Prelude.{nat_lt, if◌then◌else◌, slice_get, slice_index, IfSome, All}
use Rattle.std.proofs.lemmas.Bool.Decides.{nat_tests}
use Rattle.std.proofs.lemmas.List.Elements.{All-nil, All-cons}
use Rattle.un_base.specs.declared.ids.TempId.{TempId}
use Rattle.un_isa.specs.declared.op.Op.{Op}
use Rattle.un_isa.specs.declared.op.Op.TheVariants.{Reload, R2P}
use Rattle.un_isa.specs.declared.reg.TheConstants.{GENERALS, FIRST_SLOT}
use Rattle.un_isa.specs.declared.reg.Reg.{Reg}
use Rattle.un_isa.specs.declared.reg.Space.TheVariants.{R, P, M}
use Rattle.un_isa.specs.Fit.{IsFit}
use Rattle.un_isa.specs.Registers.{space_of}
use Rattle.un_isa.specs.Tables.{latency_of}
use Rattle.un_ir.specs.declared.function.Kind.{Kind}
use Rattle.un_ir.specs.declared.function.Kind.TheVariants.{General, Pred}
use Rattle.un_ir.specs.declared.extended.NodeCopy.{NodeCopy}
use Rattle.un_ir.specs.declared.extended.NodeCopy.TheVariants.{U, U2}
use Rattle.un_ir.specs.declared.extended.Operand.{Operand}
use Rattle.un_ir.specs.declared.extended.ExtOp.{ExtOp}
use Rattle.un_ir.specs.declared.extended.ExtBlock.{ExtBlock}
use Rattle.un_ir.specs.declared.extended.Ext.{Ext}
use Rattle.un_ir.specs.declared.extended.Growth.{Growth}
use Rattle.un_ir.specs.declared.extended.Value.{Value}
use Rattle.un_ir.specs.declared.extended.Sort.{Sort}
use Rattle.un_ir.specs.declared.extended.TheConstants.{RELOAD, TO_PREDICATE}
use Rattle.un_ir.specs.Extended.{temp}
use Rattle.un_ir.specs.Linear.{first_of}
use Rattle.un_ir.specs.ExtendOf.{copy_op, copy_count, with_operand_by, with_operand, with_operands, new_operands, chosen_from}
use Rattle.un_model.specs.declared.schedule.Issue.{Issue}
use Rattle.un_model.specs.declared.schedule.Read.{Read}
use Rattle.un_model.specs.Instructions.{space_read}
use Rattle.un_model.specs.Pairs.{places_from}
use Rattle.un_model.specs.Schedules.{chosen}
use Rattle.un_model.specs.Solutions.{InSpace}
use Rattle.un_baseline.specs.declared.plan.Purpose.TheVariants.{Operands}
use Rattle.un_baseline.specs.declared.plan.Setting.{Setting}
use Rattle.un_baseline.specs.declared.plan.Progress.{Progress}
use Rattle.un_baseline.specs.declared.plan.TheConstants.{PREDICATE}
use Rattle.un_baseline.specs.Plans.{Step, planned_read}
use Rattle.un_baseline.specs.SpillEverywhere.{purpose_at, last_place, kept_place, operand_place, copies_of}
use Rattle.un_baseline.proofs.Carried.{Carries, carries_operand, chosen_last, arrived_general, arrived_pred}
use Rattle.un_baseline.proofs.Grown.{copy_ops, operand_ops_by, operand_ops, operands_ops, operand_next_by}
use Rattle.un_baseline.proofs.Sound.{Seen, GoodRead}
use Rattle.un_baseline.proofs.Standing.{Stands, Front, good_read}
use Rattle.un_baseline.proofs.Walk.{Good, Moved, moving_copy}

-- ---- spaces

pub general_space : (r : ℕ) → r < GENERALS → space_of r ≡ R
general_space r lt = by (nat_lt r GENERALS) refl
  where
    by : (t : Bool) → nat_lt r GENERALS ≡ t → (if t then R else if nat_lt r FIRST_SLOT then P else M) ≡ R
    by true e = refl
    by false e = absurd (let ge : GENERALS ≤ r = grind (arith, nat_tests) in omega arith)

pub slot_space : (r : ℕ) → FIRST_SLOT ≤ r → space_of r ≡ M
slot_space r le = by (nat_lt r GENERALS) (nat_lt r FIRST_SLOT) refl refl
  where
    by : (t u : Bool) → nat_lt r GENERALS ≡ t → nat_lt r FIRST_SLOT ≡ u → (if t then R else if u then P else M) ≡ M
    by true u e f = absurd (let lt : r < GENERALS = grind (arith, nat_tests) in omega arith)
    by false true e f = absurd (let lt : r < FIRST_SLOT = grind (arith, nat_tests) in omega arith)
    by false false e f = refl

abbrev pub sort_by : Kind → Sort
sort_by kind = record { kind = kind; copied = true }

module _ (c : ℕ) (H : Seen → List Read → Type 0) (b end : ℕ) (e : Ext) (block : ExtBlock) (s : Setting) (fit : IsFit e.table) where
  abbrev G : ℕ → Progress → Seen → List ExtOp → Type 0
  G = Good c H b end e block s fit

  -- a value of this kind is kept in a slot
  pub record Kept (g : Growth) (seen : Seen) (x : ℕ) (kind : Kind) : Type 0 where
    pub own : List TempId
    pub carries : Carries g x own (sort_by kind)
    pub size : length own ≡ 1 + copies_of kind
    pub room : ℕ
    pub slot : FIRST_SLOT ≤ room
    pub stands : Stands c b (chosen own (kept_place s own)).0 room seen

  pub kept_later : (g g' : Growth) (seen seen' : Seen) (x : ℕ) (kind : Kind) → ((own : List TempId) (sort : Sort) → Carries g x own sort
      → Carries g' x own sort)
      → ((k r : ℕ) → FIRST_SLOT ≤ r → Stands c b k r seen → Stands c b k r seen') → Kept g seen x kind → Kept g' seen' x kind
  kept_later g g' seen seen' x kind f stands h = record {
    own = h.own;
    carries = f h.own (sort_by kind) h.carries;
    size = h.size;
    room = h.room;
    slot = h.slot;
    stands = stands (chosen h.own (kept_place s h.own)).0 h.room h.slot h.stands;
  }

  -- ---- one operand

  -- the copies of an operand that reads a value of this kind
  pub ops_of : (x : Operand) (g : Growth) (own : List TempId) (kind : Kind) → Carries g (first_of x.alts) own (sort_by kind)
      → operand_ops x g ≡ copy_ops U U2 kind true own g.next
  ops_of x g own kind h =
      ap (λ (v : Option Value). operand_ops_by v g.next) h.at
      ∙ ap (λ (t : Sort). copy_ops U U2 t.kind t.copied h.value.own g.next) h.is_sort
      ∙ ap (λ (xs : List TempId). copy_ops U U2 kind true xs g.next) h.is_own

  pub next_of : (x : Operand) (g : Growth) (own : List TempId) (kind : Kind) → Carries g (first_of x.alts) own (sort_by kind)
      → (with_operand x g).next ≡ g.next + copy_count (sort_by kind)
  next_of x g own kind h =
      ap (λ (v : Option Value). (with_operand_by' x v g)) h.at ∙ operand_next_by (first_of x.alts) h.value g
      ∙ ap (λ (t : Sort). g.next + copy_count t) h.is_sort
    where
      with_operand_by' : Operand → Option Value → Growth → ℕ
      with_operand_by' y v g = (with_operand_by (first_of y.alts) v g).next

  -- a word is reloaded
  general_arrives : (n : ℕ) (p : Progress) (seen : Seen) (g : Growth) (x : Operand) (rest : List ExtOp)
      → Kept g seen (first_of x.alts) General
      → p.operands < 32 → Front c b p.cycle seen → purpose_at s.term rest ≡ Operands
      → ((seen' : Seen) → Moved c H b end p.operands (p.cycle + latency_of e.table Reload) seen seen'
      → G (n + 1) (record {
        cycle = p.cycle + latency_of e.table Reload;
        values = p.values;
        operands = p.operands + 1;
        definer = p.definer;
      }) seen' rest)
      → G n p seen (operand_ops x g ++ rest)
  general_arrives n p seen g x rest kept low front for go =
      subst (λ (os : List ExtOp). G n p seen (os ++ rest)) (sym (ops_of x g kept.own General kept.carries))
      (moving_copy c H b end e block s fit n p seen U kept.own g.next rest Operands RELOAD (kept_place s kept.own) p.operands Reload
      (chosen kept.own (kept_place s kept.own)).0 kept.room for refl refl (λ z. cc z) refl refl kept.stands front
      (slot_space kept.room kept.slot)
      (general_space p.operands low) go)

  -- a truth value is reloaded and moved to a predicate
  pred_arrives : (n : ℕ) (p : Progress) (seen : Seen) (g : Growth) (x : Operand) (rest : List ExtOp) → Kept g seen (first_of x.alts) Pred
      → p.operands < 32 → Front c b p.cycle seen → length seen.made ≡ g.next → purpose_at s.term rest ≡ Operands
      → ((mid seen' : Seen) → Moved c H b end p.operands (p.cycle + latency_of e.table Reload) seen mid
      → Moved c H b end PREDICATE (p.cycle + latency_of e.table Reload + latency_of e.table R2P) mid seen'
      → G (n + 1 + 1) (record {
        cycle = p.cycle + latency_of e.table Reload + latency_of e.table R2P;
        values = p.values;
        operands = p.operands + 1;
        definer = p.definer;
      }) seen' rest)
      → G n p seen (operand_ops x g ++ rest)
  pred_arrives n p seen g x rest kept low front size for go =
      let alts = kept.own ++ temp g.next ∷ [] in
      let next : Progress = record {
        cycle = p.cycle + latency_of e.table Reload;
        values = p.values;
        operands = p.operands + 1;
        definer = p.definer;
      } in
      subst (λ (os : List ExtOp). G n p seen (os ++ rest)) (sym (ops_of x g kept.own Pred kept.carries))
      (moving_copy c H b end e block s fit n p seen U kept.own g.next (copy_op U2 alts (g.next + 1) ∷ rest) Operands RELOAD
      (kept_place s kept.own) p.operands Reload
      (chosen kept.own (kept_place s kept.own)).0 kept.room for refl refl (λ z. cc z) refl refl kept.stands front
      (slot_space kept.room kept.slot)
      (general_space p.operands low)
      (λ mid moved.
      moving_copy c H b end e block s fit (n + 1) next mid U2 alts (g.next + 1) rest Operands TO_PREDICATE (last_place alts) PREDICATE R2P
      (length seen.made) p.operands for refl refl (λ z. cc z) refl (ap (λ (y : TempId). y.0) (chosen_last kept.own (temp g.next))
      ∙ sym size)
      moved.new moved.front (general_space p.operands low) refl
      (λ seen' moved'. go mid seen' moved moved')))

  -- ---- words, one after another

  -- operands choose temporaries that stand in these registers
  abbrev pub AreArrived : List ℕ → List Operand → Seen → Type 0
  AreArrived [] [] seen = Unit {0}
  AreArrived [] (y ∷ ys) seen = ⊥
  AreArrived (r ∷ rs) [] seen = ⊥
  AreArrived (r ∷ rs) (y ∷ ys) seen = Stands c b (chosen y.alts (last_place y.alts)).0 r seen × AreArrived rs ys seen

  -- registers from r(j) on
  abbrev pub rooms_from : ℕ → List Operand → List ℕ
  rooms_from j [] = []
  rooms_from j (x ∷ xs) = j ∷ rooms_from (j + 1) xs

  abbrev pub AreKept : Growth → Seen → List Operand → Type 0
  AreKept g seen [] = Unit {0}
  AreKept g seen (x ∷ xs) = Kept g seen (first_of x.alts) General × AreKept g seen xs

  kept_all_later : (g g' : Growth) (seen seen' : Seen) (xs : List Operand) → ((x : ℕ) (own : List TempId) (sort : Sort)
      → Carries g x own sort → Carries g' x own sort)
      → ((k r : ℕ) → FIRST_SLOT ≤ r → Stands c b k r seen → Stands c b k r seen') → AreKept g seen xs → AreKept g' seen' xs
  kept_all_later g g' seen seen' [] f stands h = tt
  kept_all_later g g' seen seen' (x ∷ xs) f stands h = (
    kept_later g g' seen seen' (first_of x.alts) General (f (first_of x.alts)) stands h.0,
    kept_all_later g g' seen seen' xs f stands
        h.1,
  )

  -- what the copies of operands leave: the operands in registers, and all else but low registers as it was
  pub record Arrived (low : ℕ) (rooms : List ℕ) (ys : List Operand) (next now : ℕ) (seen seen' : Seen) : Type 0 where
    pub arrived : AreArrived rooms ys seen'
    pub longer : length seen'.made ≡ next
    pub front : Front c b now seen'
    pub stands : (k r : ℕ) → (r < low) ⊎ (6 ≤ r) → Stands c b k r seen → Stands c b k r seen'

  arrived_later : (rooms : List ℕ) (ys : List Operand) (seen seen' : Seen) → All
      (λ (r : ℕ). (k : ℕ) → Stands c b k r seen → Stands c b k r seen') rooms
      → AreArrived rooms ys seen → AreArrived rooms ys seen'
  arrived_later [] [] seen seen' f h = tt
  arrived_later [] (y ∷ ys) seen seen' f h = absurd h
  arrived_later (r ∷ rs) [] seen seen' f h = absurd h
  arrived_later (r ∷ rs) (y ∷ ys) seen seen' f h = (
    f 0 r (omega arith) (chosen y.alts (last_place y.alts)).0 h.0,
    arrived_later rs ys
        seen seen' (λ k d lt. f (suc k) d (omega arith)) h.1,
  )

  copies_purpose : (first second : NodeCopy) (kind : Kind) (copied : Bool) (alts : List TempId) (k : ℕ) (rest : List ExtOp)
      → purpose_at s.term (copy_ops first second kind copied alts k ++ rest) ≡ purpose_at s.term rest
  copies_purpose first second kind false alts k rest = refl
  copies_purpose first second General true alts k rest = refl
  copies_purpose first second Pred true alts k rest = refl

  operand_purpose : (v : Option Value) (k : ℕ) (rest : List ExtOp) → purpose_at s.term (operand_ops_by v k ++ rest) ≡ purpose_at s.term rest
  operand_purpose None k rest = refl
  operand_purpose (Some v) k rest = copies_purpose U U2 v.sort.kind v.sort.copied v.own k rest

  -- copies of operands are for what follows
  pub operands_purpose : (xs : List Operand) (g : Growth) (rest : List ExtOp) → purpose_at s.term (operands_ops xs g ++ rest)
      ≡ purpose_at s.term rest
  operands_purpose [] g rest = refl
  operands_purpose (x ∷ xs) g rest =
      ap (purpose_at s.term) (append_assoc (operand_ops x g) (operands_ops xs (with_operand x g)) rest)
      ∙ operand_purpose (slice_get g.values (first_of x.alts)) g.next (operands_ops xs (with_operand x g) ++ rest)
      ∙ operands_purpose xs (with_operand x g) rest

  words_arrive : (xs : List Operand) (n : ℕ) (p : Progress) (seen : Seen) (g : Growth) (rest : List ExtOp) → AreKept g seen xs
      → p.operands + length xs ≤ 6 → Front c b p.cycle seen → length seen.made ≡ g.next → purpose_at s.term rest ≡ Operands
      → ((m : ℕ) (p' : Progress) (seen' : Seen) → p.cycle ≤ p'.cycle
      → Arrived p.operands (rooms_from p.operands xs) (new_operands xs g) (with_operands xs g).next p'.cycle seen seen'
      → G m p' seen' rest)
      → G n p seen (operands_ops xs g ++ rest)
  words_arrive [] n p seen g rest kept few front size for go =
      go n p seen (omega arith) (record { arrived = tt; longer = size; front = front; stands = λ k r h st. st })
  words_arrive (x ∷ xs) n p seen g rest kept few front size for go =
      let g' = with_operand x g in
      let j = p.operands in
      let p' : Progress = record {
        cycle = p.cycle + latency_of e.table Reload;
        values = p.values;
        operands = p.operands + 1;
        definer = p.definer;
      } in
      let y = chosen_from x g' in
      let more = operands_ops xs g' ++ rest in
      subst (G n p seen) (sym (append_assoc (operand_ops x g) (operands_ops xs g') rest))
      (general_arrives n p seen g x more kept.0 (omega arith) front (operands_purpose xs g' rest ∙ for)
      (λ mid moved.
      let size' : length mid.made ≡ g'.next = moved.longer ∙ ap (λ (k : ℕ). k + 1) size
      ∙ sym (next_of x g kept.0.own General kept.0.carries) in
      words_arrive xs (n + 1) p' mid g' rest
      (kept_all_later g g' seen mid xs (λ v own sort h. carries_operand x g v own sort h)
      (λ k r le st. moved.stands k r (λ z. omega arith) st) kept.1)
      (omega arith) moved.front size' for
      (λ m q seen' le a. go m q seen' (omega arith) (record {
        arrived = (
          subst (λ (k : ℕ). Stands c b k j seen') (size ∙ ap (λ (z : TempId). z.0) (sym (arrived_general x g kept.0.own kept.0.carries)))
              (a.stands (length seen.made) j (inl (omega arith)) moved.new),
          a.arrived,
        );
        longer = a.longer;
        front = a.front;
        stands = λ k r low st. a.stands k r (⊎_elim (λ (lt : r < j). inl (omega arith)) (λ (ge : 6 ≤ r). inr ge) low)
            (moved.stands k r (⊎_elim (λ (lt : r < j) (z : r ≡ j). omega arith) (λ (ge : 6 ≤ r) (z : r ≡ j). omega arith) low) st);
      }))))

  -- ---- the operands of an operation

  -- words, or a truth value and words, that are kept in slots, and the registers into which they are reloaded
  pub data AreReady (g : Growth) (seen : Seen) : List Operand → List ℕ → Type 0 where
    words : {xs : List Operand} → AreKept g seen xs → AreReady g seen xs (rooms_from 0 xs)
    truth : {x : Operand} {xs : List Operand} → Kept g seen (first_of x.alts) Pred → AreKept g seen xs
        → AreReady g seen (x ∷ xs) (PREDICATE ∷ rooms_from 1 xs)

  pub record Operated (rooms : List ℕ) (ys : List Operand) (next now : ℕ) (seen seen' : Seen) : Type 0 where
    pub arrived : AreArrived rooms ys seen'
    pub longer : length seen'.made ≡ next
    pub front : Front c b now seen'
    pub stands : (k r : ℕ) → 6 ≤ r → r ≢ PREDICATE → Stands c b k r seen → Stands c b k r seen'

  pub operands_arrive : (xs : List Operand) (rooms : List ℕ) (n : ℕ) (p : Progress) (seen : Seen) (g : Growth) (rest : List ExtOp)
      → AreReady g seen xs rooms → p.operands ≡ 0 → length xs ≤ 6 → Front c b p.cycle seen → length seen.made ≡ g.next
      → purpose_at s.term rest ≡ Operands
      → ((m : ℕ) (p' : Progress) (seen' : Seen) → p.cycle ≤ p'.cycle
      → Operated rooms (new_operands xs g) (with_operands xs g).next p'.cycle seen seen' → G m p' seen' rest)
      → G n p seen (operands_ops xs g ++ rest)
  operands_arrive xs rooms n p seen g rest (words kept) none few front size for go =
      words_arrive xs n p seen g rest kept (omega arith) front size for
      (λ m q seen' le a. go m q seen' le (record {
        arrived = subst (λ (j : ℕ). AreArrived (rooms_from j xs) (new_operands xs g) seen') none a.arrived;
        longer = a.longer;
        front = a.front;
        stands = λ k r ge ne st. a.stands k r (inr ge) st;
      }))
  operands_arrive (x ∷ xs) rooms n p seen g rest (truth kept more_kept) none few front size for go =
      let g' = with_operand x g in
      let more = operands_ops xs g' ++ rest in
      let now = p.cycle + latency_of e.table Reload + latency_of e.table R2P in
      let p' : Progress = record { cycle = now; values = p.values; operands = p.operands + 1; definer = p.definer } in
      subst (G n p seen) (sym (append_assoc (operand_ops x g) (operands_ops xs g') rest))
      (pred_arrives n p seen g x more kept (omega arith) front size (operands_purpose xs g' rest ∙ for)
      (λ mid seen1 moved moved'.
      let size' : length seen1.made ≡ g'.next =
      (let next = next_of x g kept.own Pred kept.carries in let l = moved.longer in let l' = moved'.longer in omega arith) in
      let keep : (k r : ℕ) → 6 ≤ r → r ≢ PREDICATE → Stands c b k r seen → Stands c b k r seen1 =
      λ k r ge ne st. moved'.stands k r ne (moved.stands k r (λ z. omega arith) st) in
      words_arrive xs (n + 1 + 1) p' seen1 g' rest
      (kept_all_later g g' seen seen1 xs (λ v own sort h. carries_operand x g v own sort h)
      (λ k r le st. keep k r (omega arith) (λ z. omega arith) st) more_kept)
      (omega arith) moved'.front size' for
      (λ m q seen' le a. go m q seen' (omega arith) (record {
        arrived = (
          subst (λ (k : ℕ). Stands c b k PREDICATE seen') (moved.longer ∙ ap (λ (k : ℕ). k + 1) size
              ∙ ap (λ (z : TempId). z.0) (sym (arrived_pred x g kept.own kept.carries)))
              (a.stands (length mid.made) PREDICATE (inr (omega arith)) moved'.new),
          subst (λ (j : ℕ). AreArrived (rooms_from j xs) (new_operands xs g') seen') (ap (λ (j : ℕ). j + 1) none) a.arrived,
        );
        longer = a.longer;
        front = a.front;
        stands = λ k r ge ne st. a.stands k r (inr ge) (keep k r ge ne st);
      }))))

  -- ---- the operation reads them

  -- an operation may read its operands in these registers
  abbrev pub AreFor : Op → ℕ → List ℕ → List Operand → Type 0
  AreFor o j [] [] = Unit {0}
  AreFor o j [] (y ∷ ys) = ⊥
  AreFor o j (r ∷ rs) [] = ⊥
  AreFor o j (r ∷ rs) (y ∷ ys) = InSpace r (space_read (Some o) j) × IfSome y.home (λ (h : Reg). r ≡ h.0) × AreFor o (j + 1) rs ys

  pub reads_good : (i : Issue) (st : Step) (o : Op) (seen : Seen) → i.block.0 ≡ b → i.instr ≡ Some o
      → (rooms : List ℕ) (ys : List Operand) (j : ℕ)
      → ((m : ℕ) (y : Operand) → slice_get ys m ≡ Some y → slice_index st.choices (j + m) ≡ operand_place y)
      → AreArrived rooms ys seen → AreFor o j rooms ys → All (GoodRead c seen) (places_from (planned_read i st) j ys)
  reads_good i st o seen block instr [] [] j places arrived for = All-nil (GoodRead c seen)
  reads_good i st o seen block instr [] (y ∷ ys) j places arrived for = absurd for
  reads_good i st o seen block instr (r ∷ rs) [] j places arrived for = absurd for
  reads_good i st o seen block instr (r ∷ rs) (y ∷ ys) j places arrived for =
      let q = planned_read i st j y in
      let at : j ≡ j + 0 = omega arith in
      let place : slice_index st.choices j ≡ operand_place y = ap (slice_index st.choices) at ∙ places 0 y refl in
      All-cons (GoodRead c seen) q (places_from (planned_read i st) (j + 1) ys)
      (good_read c b (chosen y.alts (last_place y.alts)).0 r seen arrived.0 q (ap (λ (n : ℕ). (chosen y.alts n).0) place) block
      (subst (λ (x : Option Op). InSpace r (space_read x j)) (sym instr) for.0) for.1)
      (reads_good i st o seen block instr rs ys (j + 1)
      (λ m z got. let n : j + 1 + m ≡ j + suc m = omega arith in ap (slice_index st.choices) n ∙ places (suc m) z got) arrived.1 for.2)

  pub reads_timed : (i : Issue) (st : Step) (j : ℕ) (ys : List Operand) → All (λ (q : Read). q.cycle ≡ i.cycle)
      (places_from (planned_read i st) j ys)
  reads_timed i st j [] = All-nil (λ (q : Read). q.cycle ≡ i.cycle)
  reads_timed i st j (y ∷ ys) = All-cons (λ (q : Read). q.cycle ≡ i.cycle) (planned_read i st j y)
      (places_from (planned_read i st) (j + 1) ys) refl (reads_timed i st (j + 1) ys)

  pub last_places : (ys : List Operand) (m : ℕ) (y : Operand) → slice_get ys m ≡ Some y → slice_index (map operand_place ys) m
      ≡ operand_place y
  last_places [] m y got = absurd (cc got)
  last_places (z ∷ ys) zero y got = let same : z ≡ y = cc got in ap operand_place same
  last_places (z ∷ ys) (suc m) y got = last_places ys m y got
