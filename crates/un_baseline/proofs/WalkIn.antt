-- The steps of a block of the plan lie in their domains: those of copies, one after another.
use Rattle.std.proofs.Common.{◌≡◌, ℕ, ◌+◌, ◌<◌, ◌≤◌, Bool, true, false, List, [], ◌∷◌, ◌++◌, length, Option, Some, None, refl, sym, ap}
use Rattle.std.proofs.Common.{subst, ◌∙◌, append_assoc, arith}
use Rattle.std.specs.Prelude.{All, slice_get, unwrap_or}
use Rattle.un_base.specs.declared.ids.NameId.{NameId}
use Rattle.un_base.specs.declared.ids.TempId.{TempId}
use Rattle.un_ir.specs.declared.function.Kind.{Kind}
use Rattle.un_ir.specs.declared.function.Kind.TheVariants.{General, Pred}
use Rattle.un_ir.specs.declared.extended.NodeCopy.TheVariants.{D, D2, U, U2}
use Rattle.un_ir.specs.declared.extended.ExtKind.TheVariants.{Copy}
use Rattle.un_ir.specs.declared.extended.Operand.{Operand}
use Rattle.un_ir.specs.declared.extended.ExtOp.{ExtOp}
use Rattle.un_ir.specs.declared.extended.ExtBlock.{ExtBlock}
use Rattle.un_ir.specs.declared.extended.Ext.{Ext}
use Rattle.un_ir.specs.declared.extended.Growth.{Growth}
use Rattle.un_ir.specs.declared.extended.Sort.{Sort}
use Rattle.un_ir.specs.declared.extended.Value.{Value}
use Rattle.un_ir.specs.Extended.{temp, name_kind}
use Rattle.un_ir.specs.Linear.{first_of}
use Rattle.un_ir.specs.ExtendOf.{copy_op, with_value, with_operand}
use Rattle.un_model.specs.declared.model.Options.{Options}
use Rattle.un_model.specs.Registers.{is_truth}
use Rattle.un_baseline.specs.declared.plan.Purpose.{Purpose}
use Rattle.un_baseline.specs.declared.plan.Purpose.TheVariants.{Operands, Link, Returned, Unread}
use Rattle.un_baseline.specs.declared.plan.Definer.{Definer}
use Rattle.un_baseline.specs.declared.plan.Definer.TheVariants.{Assigns}
use Rattle.un_baseline.specs.declared.plan.Setting.{Setting}
use Rattle.un_baseline.specs.declared.plan.Progress.{Progress}
use Rattle.un_baseline.specs.RoomyOptions.{AreRoomy}
use Rattle.un_baseline.specs.SpillEverywhere.{purpose_at, first_copy, second_copy, operand_copy, truth_copy, step_of, progress_of, steps_of}
use Rattle.un_baseline.specs.SpillEverywhere.{setting_of}
use Rattle.un_baseline.proofs.Each.{EachStep}
use Rattle.un_baseline.proofs.Grown.{copy_ops, value_ops, values_ops, operand_ops_by, operand_ops, operands_ops}
use Rattle.un_baseline.proofs.InDomains.{StepIn}
use Rattle.un_baseline.proofs.CopiesIn.{value_read, copy_in, DefinerOk, first_in, second_in, OperandOk, operand_in, truth_in}
use Rattle.un_baseline.proofs.ValuesOk.{ValueOk}

module _ (e : Ext) (o : Options) (roomy : AreRoomy e o) (entry : Bool) (block : ExtBlock)
    (live : All (λ (x : NameId). x.0 < length e.names) block.live_in) where
  abbrev s : Setting
  s = setting_of e entry block

  -- the steps of these operations lie in their domains
  abbrev pub Good : Progress → List ExtOp → Type 0
  Good p [] = Unit {0}
  Good p (op ∷ ops) =
      let purpose = purpose_at s.term (op ∷ ops) in
      StepIn e o entry block op (step_of e block s p purpose op op.kind) × Good (progress_of e block s p purpose op op.kind) ops

  pub good_each : (n : ℕ) (p : Progress) (ops : List ExtOp) → Good p ops
      → EachStep (λ m. StepIn e o entry block) n ops (steps_of e block s p ops)
  good_each n p [] h = tt
  good_each n p (op ∷ ops) h =
      let purpose = purpose_at s.term (op ∷ ops) in (h.0, good_each (n + 1) (progress_of e block s p purpose op op.kind) ops h.1)

  -- ---- copies of operands

  -- operands of which so many are reloaded before, for this purpose
  pub record Ready (purpose : Purpose) (k : ℕ) (v : Value) : Type 0 where
    pub ok : ValueOk e block s.placed v
    pub operand : OperandOk e o roomy entry block purpose k (temp ok.first)

  fewer : (purpose : Purpose) (j k : ℕ) (y : TempId) → j ≤ k → OperandOk e o roomy entry block purpose k y
      → OperandOk e o roomy entry block purpose j y
  fewer Operands j k y le h = omega arith
  fewer Link j k y le h = h
  fewer Returned j k y le h = tt
  fewer Unread j k y le h = tt

  reads_first : (own : List TempId) (y n : ℕ) (more : List TempId) → own ≡ temp y ∷ more
      → value_read e o roomy entry block own n ≡ temp y
  reads_first own y n more is = ap (λ (xs : List TempId). unwrap_or (slice_get xs 0) (temp n)) is

  reads_first_of : (own : List TempId) (y n m : ℕ) (more : List TempId) → own ≡ temp y ∷ more
      → value_read e o roomy entry block (own ++ temp m ∷ []) n ≡ temp y
  reads_first_of own y n m more is = ap (λ (xs : List TempId). unwrap_or (slice_get (xs ++ temp m ∷ []) 0) (temp n)) is

  reads_good : (kind : Kind) (copied : Bool) (own : List TempId) (y : ℕ) (more : List TempId) (n k : ℕ) (p : Progress) (tail : List ExtOp)
      → own ≡ temp y ∷ more → OperandOk e o roomy entry block (purpose_at s.term tail) k (temp y)
      → (kind ≡ Pred → is_truth e.names block (temp y) ≡ true) → p.operands ≤ k
      → ((q : Progress) → q.operands ≤ k + 1 → Good q tail) → Good p (copy_ops U U2 kind copied own n ++ tail)
  reads_good kind false own y more n k p tail is ok truth le rest = rest p (omega arith)
  reads_good General true own y more n k p tail is ok truth le rest =
      let purpose = purpose_at s.term tail in
      let m = operand_copy e.table s p own purpose in
      let same = sym (reads_first own y n more is) in (
        copy_in e o roomy entry block U own n m.cycle m (operand_in e o roomy entry block s p own n purpose
            (subst (OperandOk e o roomy entry block purpose p.operands) same (fewer purpose p.operands k (temp y) le ok))),
        rest (progress_of e block s p purpose (copy_op U own n) (Copy U)) (omega arith),
      )
  reads_good Pred true own y more n k p tail is ok truth le rest =
      let purpose = purpose_at s.term tail in
      let m = operand_copy e.table s p own purpose in
      let same = sym (reads_first own y n more is) in
      let q = progress_of e block s p purpose (copy_op U own n) (Copy U) in
      let alts = own ++ temp n ∷ [] in
      let m' = truth_copy q alts purpose in
      let same' = sym (reads_first_of own y (n + 1) n more is) in (
        copy_in e o roomy entry block U own n m.cycle m (operand_in e o roomy entry block s p own n purpose
            (subst (OperandOk e o roomy entry block purpose p.operands) same (fewer purpose p.operands k (temp y) le ok))),
        (
          copy_in e o roomy entry block U2 alts (n + 1) m'.cycle m' (truth_in e o roomy entry block q alts (n + 1) purpose
              (λ for. subst (λ (x : TempId). is_truth e.names block x ≡ true) same' (truth refl))),
          rest (progress_of e block s q purpose (copy_op U2 alts (n + 1)) (Copy U2)) (omega arith),
        ),
      )

  operand_good : (v : Option Value) (n k : ℕ) (p : Progress) (tail : List ExtOp)
      → ((w : Value) → v ≡ Some w → Ready (purpose_at s.term tail) k w) → p.operands ≤ k
      → ((q : Progress) → q.operands ≤ k + 1 → Good q tail) → Good p (operand_ops_by v n ++ tail)
  operand_good None n k p tail ready le rest = rest p (omega arith)
  operand_good (Some v) n k p tail ready le rest =
      let r = ready v refl in
      reads_good v.sort.kind v.sort.copied v.own r.ok.first r.ok.more n k p tail r.ok.own r.operand r.ok.truth le rest

  -- copies are for what follows
  copies_for : (kind : Kind) (copied : Bool) (own : List TempId) (n : ℕ) (tail : List ExtOp)
      → purpose_at s.term (copy_ops U U2 kind copied own n ++ tail) ≡ purpose_at s.term tail
  copies_for kind false own n tail = refl
  copies_for General true own n tail = refl
  copies_for Pred true own n tail = refl

  operand_for : (v : Option Value) (n : ℕ) (tail : List ExtOp) → purpose_at s.term (operand_ops_by v n ++ tail) ≡ purpose_at s.term tail
  operand_for None n tail = refl
  operand_for (Some v) n tail = copies_for v.sort.kind v.sort.copied v.own n tail

  operands_for : (xs : List Operand) (g : Growth) (tail : List ExtOp) → purpose_at s.term (operands_ops xs g ++ tail) ≡ purpose_at s.term
      tail
  operands_for [] g tail = refl
  operands_for (x ∷ xs) g tail =
      ap (purpose_at s.term) (append_assoc (operand_ops x g) (operands_ops xs (with_operand x g)) tail)
      ∙ operand_for (slice_get g.values (first_of x.alts)) g.next (operands_ops xs (with_operand x g) ++ tail)
      ∙ operands_for xs (with_operand x g) tail

  abbrev pub AreReady : Purpose → ℕ → List Operand → Growth → Type 0
  AreReady purpose k [] g = Unit {0}
  AreReady purpose k (x ∷ xs) g =
      ((v : Value) → slice_get g.values (first_of x.alts) ≡ Some v → Ready purpose k v) × AreReady purpose (k + 1) xs (with_operand x g)

  pub operands_good : (xs : List Operand) (g : Growth) (k : ℕ) (p : Progress) (tail : List ExtOp) → AreReady (purpose_at s.term tail) k xs g
      → p.operands ≤ k → ((q : Progress) → Good q tail) → Good p (operands_ops xs g ++ tail)
  operands_good [] g k p tail ready le rest = rest p
  operands_good (x ∷ xs) g k p tail ready le rest =
      let more = operands_ops xs (with_operand x g) in
      subst (Good p) (sym (append_assoc (operand_ops x g) more tail))
      (operand_good (slice_get g.values (first_of x.alts)) g.next k p (more ++ tail)
      (λ w is. subst (λ (purpose : Purpose). Ready purpose k w) (sym (operands_for xs (with_operand x g) tail)) (ready.0 w is)) le
      (λ q le'. operands_good xs (with_operand x g) (k + 1) q tail ready.1 le' rest))

  -- ---- copies of values

  -- a truth value where its name is one
  abbrev pub AreTruths : Definer → ℕ → List Sort → Type 0
  AreTruths d n [] = Unit {0}
  AreTruths d n (sort ∷ sorts) =
      ((name : NameId) → d ≡ Assigns name → name_kind e.names name ≡ Pred
      → is_truth e.names block (temp n) ≡ true) × AreTruths d (n + 1) sorts

  value_good : (kind : Kind) (copied : Bool) (n m : ℕ) (p : Progress) (tail : List ExtOp) → DefinerOk e o roomy entry block p.definer
      → ((name : NameId) → p.definer ≡ Assigns name → name_kind e.names name ≡ Pred → is_truth e.names block (temp n) ≡ true)
      → ((q : Progress) → q.definer ≡ p.definer → q.operands ≡ p.operands → Good q tail)
      → Good p (copy_ops D D2 kind copied (temp n ∷ []) m ++ tail)
  value_good kind false n m p tail ok truth rest = rest p refl refl
  value_good General true n m p tail ok truth rest =
      let alts = temp n ∷ [] in
      let purpose = purpose_at s.term tail in
      let mv = first_copy e.names block.live_in s p p.definer in (
        copy_in e o roomy entry block D alts m mv.cycle mv (first_in e o roomy entry block s refl live p alts m p.definer ok truth),
        rest (progress_of e block s p purpose (copy_op D alts m) (Copy D)) refl refl,
      )
  value_good Pred true n m p tail ok truth rest =
      let alts = temp n ∷ [] in
      let purpose = purpose_at s.term tail in
      let mv = first_copy e.names block.live_in s p p.definer in
      let q = progress_of e block s p purpose (copy_op D alts m) (Copy D) in
      let alts' = alts ++ temp m ∷ [] in
      let mv' = second_copy q alts' p.definer in (
        copy_in e o roomy entry block D alts m mv.cycle mv (first_in e o roomy entry block s refl live p alts m p.definer ok truth),
        (
          copy_in e o roomy entry block D2 alts' (m + 1) mv'.cycle mv' (second_in e o roomy entry block q alts' (m + 1) p.definer ok),
          rest (progress_of e block s q purpose (copy_op D2 alts' (m + 1)) (Copy D2)) refl refl,
        ),
      )

  pub values_good : (n : ℕ) (sorts : List Sort) (g : Growth) (p : Progress) (tail : List ExtOp) → DefinerOk e o roomy entry block p.definer
      → AreTruths p.definer n sorts → ((q : Progress) → q.operands ≡ p.operands → Good q tail)
      → Good p (values_ops n sorts g ++ tail)
  values_good n [] g p tail ok truths rest = rest p refl
  values_good n (sort ∷ sorts) g p tail ok truths rest =
      let more = values_ops (n + 1) sorts (with_value n sort g) in
      subst (Good p) (sym (append_assoc (value_ops n sort g) more tail))
      (value_good sort.kind sort.copied n g.next p (more ++ tail) ok truths.0
      (λ q d k. values_good (n + 1) sorts (with_value n sort g) q tail (subst (DefinerOk e o roomy entry block) (sym d) ok)
      (subst (λ (x : Definer). AreTruths x (n + 1) sorts) (sym d) truths.1) (λ r j. rest r (j ∙ k))))
