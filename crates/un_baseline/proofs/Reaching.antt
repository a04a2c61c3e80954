-- How far the plan of a block comes: the cycles that copies take.
use Rattle.std.proofs.Common.{◌≡◌, ℕ, ◌+◌, Bool, true, false, List, [], ◌∷◌, ◌++◌, Option, Some, None, refl, sym, ap, subst, ◌∙◌}
use Rattle.std.proofs.Common.{append_assoc, arith}
use Rattle.std.specs.Prelude.{slice_get, sum_by}
use Rattle.std.proofs.lemmas.List.Sums.{sum_by-cons}
use Rattle.un_base.specs.declared.ids.NameId.{NameId}
use Rattle.un_base.specs.declared.ids.TempId.{TempId}
use Rattle.un_isa.specs.Tables.{latency_of}
use Rattle.un_isa.specs.declared.op.Op.TheVariants.{Spill, Reload, P2R, R2P}
use Rattle.un_isa.specs.declared.table.Table.{Table}
use Rattle.un_ir.specs.declared.function.Kind.{Kind}
use Rattle.un_ir.specs.declared.function.Kind.TheVariants.{General, Pred}
use Rattle.un_ir.specs.declared.extended.NodeCopy.TheVariants.{D, D2, U, U2}
use Rattle.un_ir.specs.declared.extended.ExtKind.TheVariants.{Copy}
use Rattle.un_ir.specs.declared.extended.Operand.{Operand}
use Rattle.un_ir.specs.declared.extended.ExtOp.{ExtOp}
use Rattle.un_ir.specs.declared.extended.ExtBlock.{ExtBlock}
use Rattle.un_ir.specs.declared.extended.Ext.{Ext}
use Rattle.un_ir.specs.declared.extended.Growth.{Growth}
use Rattle.un_ir.specs.declared.extended.Value.{Value}
use Rattle.un_ir.specs.Extended.{temp, name_kind}
use Rattle.un_ir.specs.Linear.{first_of}
use Rattle.un_ir.specs.ExtendOf.{copy_op, with_operand}
use Rattle.un_baseline.specs.declared.plan.Purpose.{Purpose}
use Rattle.un_baseline.specs.declared.plan.Purpose.TheVariants.{Operands}
use Rattle.un_baseline.specs.declared.plan.Definer.{Definer}
use Rattle.un_baseline.specs.declared.plan.Definer.TheVariants.{Assigns}
use Rattle.un_baseline.specs.declared.plan.Setting.{Setting}
use Rattle.un_baseline.specs.declared.plan.Progress.{Progress}
use Rattle.un_baseline.specs.SpilledCost.{operand_packets, result_packets}
use Rattle.un_baseline.specs.SpillEverywhere.{purpose_at, kept_by_kind, first_copy, second_copy, after_move, progress_of, progress_after}
use Rattle.un_baseline.proofs.Grown.{copy_ops, operand_ops_by, operand_ops, operands_ops}

module _ (e : Ext) (block : ExtBlock) (s : Setting) where
  abbrev pub Reach : Progress → List ExtOp → ℕ → Type 0
  Reach p ops fin = (progress_after e block s p ops).cycle ≡ fin

  abbrev t : Table
  t = e.table

  -- ---- operands

  reads_reach : (kind : Kind) (own : List TempId) (n : ℕ) (p : Progress) (tail : List ExtOp) (fin : ℕ) → purpose_at s.term tail ≡ Operands
      → ((q : Progress) → q.cycle ≡ p.cycle + operand_packets t kind → Reach q tail fin)
      → Reach p (copy_ops U U2 kind true own n ++ tail) fin
  reads_reach General own n p tail fin for rest =
      let step : Purpose → Progress = λ x. progress_of e block s p x (copy_op U own n) (Copy U) in
      rest (step (purpose_at s.term tail)) (ap (λ (x : Purpose). (step x).cycle) for)
  reads_reach Pred own n p tail fin for rest =
      let alts = own ++ temp n ∷ [] in
      let step : Purpose → Progress = λ x. progress_of e block s p x (copy_op U own n) (Copy U) in
      let next : Purpose → Progress = λ x. progress_of e block s (step x) x (copy_op U2 alts (n + 1)) (Copy U2) in
      let sum : p.cycle + latency_of t Reload + latency_of t R2P ≡ p.cycle + (latency_of t Reload + latency_of t R2P) = omega arith in
      rest (next (purpose_at s.term tail)) (ap (λ (x : Purpose). (next x).cycle) for ∙ sum)

  -- a value of this kind that has copies
  pub record Copied (kind : Kind) (v : Option Value) : Type 0 where
    pub value : Value
    pub is : v ≡ Some value
    pub kind_is : value.sort.kind ≡ kind
    pub copied : value.sort.copied ≡ true

  operand_reach : (kind : Kind) (v : Option Value) (n : ℕ) (p : Progress) (tail : List ExtOp) (fin : ℕ) → Copied kind v
      → purpose_at s.term tail ≡ Operands → ((q : Progress) → q.cycle ≡ p.cycle + operand_packets t kind → Reach q tail fin)
      → Reach p (operand_ops_by v n ++ tail) fin
  operand_reach kind v n p tail fin c for rest =
      subst (λ (x : Option Value). Reach p (operand_ops_by x n ++ tail) fin) (sym c.is)
      (subst (λ (k : Kind). Reach p (copy_ops U U2 k c.value.sort.copied c.value.own n ++ tail) fin) (sym c.kind_is)
      (subst (λ (b : Bool). Reach p (copy_ops U U2 kind b c.value.own n ++ tail) fin) (sym c.copied)
      (reads_reach kind c.value.own n p tail fin for rest)))

  copies_for : (kind : Kind) (copied : Bool) (own : List TempId) (n : ℕ) (tail : List ExtOp)
      → purpose_at s.term (copy_ops U U2 kind copied own n ++ tail) ≡ purpose_at s.term tail
  copies_for kind false own n tail = refl
  copies_for General true own n tail = refl
  copies_for Pred true own n tail = refl

  operand_for : (v : Option Value) (n : ℕ) (tail : List ExtOp) → purpose_at s.term (operand_ops_by v n ++ tail) ≡ purpose_at s.term tail
  operand_for None n tail = refl
  operand_for (Some v) n tail = copies_for v.sort.kind v.sort.copied v.own n tail

  pub operands_for : (xs : List Operand) (g : Growth) (tail : List ExtOp)
      → purpose_at s.term (operands_ops xs g ++ tail) ≡ purpose_at s.term tail
  operands_for [] g tail = refl
  operands_for (x ∷ xs) g tail =
      ap (purpose_at s.term) (append_assoc (operand_ops x g) (operands_ops xs (with_operand x g)) tail)
      ∙ operand_for (slice_get g.values (first_of x.alts)) g.next (operands_ops xs (with_operand x g) ++ tail)
      ∙ operands_for xs (with_operand x g) tail

  -- operands of these kinds
  abbrev pub AreCopied : List Operand → List Kind → Growth → Type 0
  AreCopied [] [] g = Unit {0}
  AreCopied [] (kind ∷ kinds) g = ⊥
  AreCopied (x ∷ xs) [] g = ⊥
  AreCopied (x ∷ xs) (kind ∷ kinds) g = Copied kind (slice_get g.values (first_of x.alts)) × AreCopied xs kinds (with_operand x g)

  pub operands_reach : (xs : List Operand) (kinds : List Kind) (g : Growth) (p : Progress) (tail : List ExtOp) (fin : ℕ)
      → AreCopied xs kinds g
      → purpose_at s.term tail ≡ Operands → ((q : Progress) → q.cycle ≡ p.cycle + sum_by (operand_packets t) kinds → Reach q tail fin)
      → Reach p (operands_ops xs g ++ tail) fin
  operands_reach [] [] g p tail fin h for rest = rest p (omega arith)
  operands_reach [] (kind ∷ kinds) g p tail fin h for rest = absurd h
  operands_reach (x ∷ xs) [] g p tail fin h for rest = absurd h
  operands_reach (x ∷ xs) (kind ∷ kinds) g p tail fin h for rest =
      let more = operands_ops xs (with_operand x g) in
      let split = sum_by-cons (operand_packets t) kind kinds in
      subst (λ (ops : List ExtOp). Reach p ops fin) (sym (append_assoc (operand_ops x g) more tail))
      (operand_reach kind (slice_get g.values (first_of x.alts)) g.next p (more ++ tail) fin h.0 (operands_for xs (with_operand x g) tail
      ∙ for)
      (λ q at. operands_reach xs kinds (with_operand x g) q tail fin h.1 for (λ r there. rest r (omega arith))))

  -- ---- a result

  pub result_reach : (kind : Kind) (name : NameId) (n m : ℕ) (p : Progress) (tail : List ExtOp) (fin : ℕ) → p.definer ≡ Assigns name
      → name_kind e.names name ≡ kind → ((q : Progress) → q.cycle ≡ p.cycle + result_packets t kind → Reach q tail fin)
      → Reach p (copy_ops D D2 kind true (temp n ∷ []) m ++ tail) fin
  result_reach General name n m p tail fin is kind rest =
      rest (progress_of e block s p (purpose_at s.term tail) (copy_op D (temp n ∷ []) m) (Copy D))
      (ap (λ (d : Definer). after_move t p.cycle (first_copy e.names block.live_in s p d)) is
      ∙ ap (λ (k : Kind). after_move t p.cycle (kept_by_kind k name p.cycle)) kind)
  result_reach Pred name n m p tail fin is kind rest =
      let purpose = purpose_at s.term tail in
      let alts = (temp n ∷ []) ++ temp m ∷ [] in
      let q = progress_of e block s p purpose (copy_op D (temp n ∷ []) m) (Copy D) in
      let first : q.cycle ≡ p.cycle + latency_of t P2R = ap (λ (d : Definer). after_move t p.cycle (first_copy e.names block.live_in s p
      d)) is
      ∙ ap (λ (k : Kind). after_move t p.cycle (kept_by_kind k name p.cycle)) kind in
      let r = progress_of e block s q purpose (copy_op D2 alts (m + 1)) (Copy D2) in
      let second : r.cycle ≡ q.cycle + latency_of t Spill = ap (λ (d : Definer). after_move t q.cycle (second_copy q alts d)) is in
      rest r (omega arith)
