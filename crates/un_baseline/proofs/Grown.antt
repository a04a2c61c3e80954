-- The operations that `extend` adds for each operation of a linear function, as lists.
use Rattle.std.proofs.Common.{◌≡◌, ℕ, ◌+◌, Bool, true, false, List, [], ◌∷◌, ◌++◌, length, Option, Some, None, refl, sym, ap, ◌∙◌}
use Rattle.std.proofs.Common.{append_assoc, arith}
use Rattle.std.specs.Prelude.{slice_get, if◌then◌else◌}
use Rattle.un_base.specs.declared.ids.NameId.{NameId}
use Rattle.un_base.specs.declared.ids.TempId.{TempId}
use Rattle.un_ir.specs.declared.function.Kind.{Kind}
use Rattle.un_ir.specs.declared.function.Kind.TheVariants.{General, Pred}
use Rattle.un_ir.specs.declared.function.SrcOp.{SrcOp}
use Rattle.un_ir.specs.declared.extended.NodeCopy.{NodeCopy}
use Rattle.un_ir.specs.declared.extended.NodeCopy.TheVariants.{D, D2, U, U2}
use Rattle.un_ir.specs.declared.extended.ExtKind.{ExtKind}
use Rattle.un_ir.specs.declared.extended.ExtKind.TheVariants.{In, Out, Body, End, Copy, Enter, Leave}
use Rattle.un_ir.specs.declared.extended.Operand.{Operand}
use Rattle.un_ir.specs.declared.extended.ExtOp.{ExtOp}
use Rattle.un_ir.specs.declared.extended.Growth.{Growth}
use Rattle.un_ir.specs.declared.extended.Value.{Value}
use Rattle.un_ir.specs.declared.extended.Sort.{Sort}
use Rattle.un_ir.specs.Extended.{temp, is_return}
use Rattle.un_ir.specs.Linear.{first_of}
use Rattle.un_ir.specs.ExtendOf.{copy_op, frame_op, with_op, with_copies, copy_count_by, copy_count, new_temps, with_value, with_values}
use Rattle.un_ir.specs.ExtendOf.{with_operand_by, with_operand, with_operands, new_operands, sorts_of, with_results, with_leave, with_enter}
use Rattle.un_ir.specs.ExtendOf.{with_extended, with_all_extended}
use Rattle.un_baseline.proofs.Items.{append_nil}

-- ---- copies

abbrev pub copy_ops : NodeCopy → NodeCopy → Kind → Bool → List TempId → ℕ → List ExtOp
copy_ops first second kind false alts n = []
copy_ops first second General true alts n = copy_op first alts n ∷ []
copy_ops first second Pred true alts n = copy_op first alts n ∷ copy_op second (alts ++ temp n ∷ []) (n + 1) ∷ []

copies_ops : (first second : NodeCopy) (kind : Kind) (copied : Bool) (alts : List TempId) (g : Growth)
    → (with_copies first second kind copied alts g).ops ≡ g.ops ++ copy_ops first second kind copied alts g.next
copies_ops first second kind false alts g = sym (append_nil g.ops)
copies_ops first second General true alts g = refl
copies_ops first second Pred true alts g = append_assoc g.ops (copy_op first alts g.next ∷ [])
    (copy_op second (alts ++ temp g.next ∷ []) (g.next + 1) ∷ [])

copies_next : (first second : NodeCopy) (kind : Kind) (copied : Bool) (alts : List TempId) (g : Growth)
    → (with_copies first second kind copied alts g).next ≡ g.next + copy_count_by kind copied
copies_next first second kind false alts g = omega arith
copies_next first second General true alts g = refl
copies_next first second Pred true alts g = omega arith

-- ---- values

abbrev pub value_ops : ℕ → Sort → Growth → List ExtOp
value_ops n sort g = copy_ops D D2 sort.kind sort.copied (temp n ∷ []) g.next

abbrev pub values_ops : ℕ → List Sort → Growth → List ExtOp
values_ops n [] g = []
values_ops n (sort ∷ sorts) g = value_ops n sort g ++ values_ops (n + 1) sorts (with_value n sort g)

pub value_next : (n : ℕ) (sort : Sort) (g : Growth) → (with_value n sort g).next ≡ g.next + copy_count sort
value_next n sort g = copies_next D D2 sort.kind sort.copied (temp n ∷ []) g

values_add : (n : ℕ) (sorts : List Sort) (g : Growth) → (with_values n sorts g).ops ≡ g.ops ++ values_ops n sorts g
values_add n [] g = sym (append_nil g.ops)
values_add n (sort ∷ sorts) g =
    let more = values_ops (n + 1) sorts (with_value n sort g) in
    values_add (n + 1) sorts (with_value n sort g)
    ∙ ap (λ (os : List ExtOp). os ++ more) (copies_ops D D2 sort.kind sort.copied (temp n ∷ []) g)
    ∙ append_assoc g.ops (value_ops n sort g) more

-- ---- operands

abbrev pub operand_ops_by : Option Value → ℕ → List ExtOp
operand_ops_by None n = []
operand_ops_by (Some v) n = copy_ops U U2 v.sort.kind v.sort.copied v.own n

abbrev pub operand_ops : Operand → Growth → List ExtOp
operand_ops x g = operand_ops_by (slice_get g.values (first_of x.alts)) g.next

abbrev pub operands_ops : List Operand → Growth → List ExtOp
operands_ops [] g = []
operands_ops (x ∷ xs) g = operand_ops x g ++ operands_ops xs (with_operand x g)

operand_add_by : (x : ℕ) (v : Option Value) (g : Growth) → (with_operand_by x v g).ops ≡ g.ops ++ operand_ops_by v g.next
operand_add_by x None g = sym (append_nil g.ops)
operand_add_by x (Some v) g = copies_ops U U2 v.sort.kind v.sort.copied v.own g

pub operand_next_by : (x : ℕ) (v : Value) (g : Growth) → (with_operand_by x (Some v) g).next ≡ g.next + copy_count v.sort
operand_next_by x v g = copies_next U U2 v.sort.kind v.sort.copied v.own g

operands_add : (xs : List Operand) (g : Growth) → (with_operands xs g).ops ≡ g.ops ++ operands_ops xs g
operands_add [] g = sym (append_nil g.ops)
operands_add (x ∷ xs) g =
    let more = operands_ops xs (with_operand x g) in
    operands_add xs (with_operand x g)
    ∙ ap (λ (os : List ExtOp). os ++ more) (operand_add_by (first_of x.alts) (slice_get g.values (first_of x.alts)) g)
    ∙ append_assoc g.ops (operand_ops x g) more

-- ---- operations

abbrev pub leave_ops : ExtKind → List ExtOp
leave_ops (End term) = if is_return term then frame_op Leave ∷ [] else []
leave_ops _ = []

abbrev pub enter_ops : Bool → ExtKind → List ExtOp
enter_ops true In = frame_op Enter ∷ []
enter_ops _ _ = []

leave_by : (b : Bool) (g : Growth) → (if b then with_op g (frame_op Leave) else g).ops ≡ g.ops ++ (if b then frame_op Leave ∷ [] else [])
leave_by true g = refl
leave_by false g = sym (append_nil g.ops)

leave_add : (kind : ExtKind) (g : Growth) → (with_leave kind g).ops ≡ g.ops ++ leave_ops kind
leave_add (End term) g = leave_by (is_return term) g
leave_add In g = sym (append_nil g.ops)
leave_add Out g = sym (append_nil g.ops)
leave_add (Body o) g = sym (append_nil g.ops)
leave_add (Copy node) g = sym (append_nil g.ops)
leave_add Enter g = sym (append_nil g.ops)
leave_add Leave g = sym (append_nil g.ops)

enter_add : (entry : Bool) (kind : ExtKind) (g : Growth) → (with_enter entry kind g).ops ≡ g.ops ++ enter_ops entry kind
enter_add true In g = refl
enter_add true Out g = sym (append_nil g.ops)
enter_add true (Body o) g = sym (append_nil g.ops)
enter_add true (End term) g = sym (append_nil g.ops)
enter_add true (Copy node) g = sym (append_nil g.ops)
enter_add true Enter g = sym (append_nil g.ops)
enter_add true Leave g = sym (append_nil g.ops)
enter_add false kind g = sym (append_nil g.ops)

-- only a block's start has Enter behind it
pub enter_none : (entry : Bool) (kind : ExtKind) → (kind ≡ In → ⊥) → enter_ops entry kind ≡ []
enter_none true In h = absurd (h refl)
enter_none true Out h = refl
enter_none true (Body o) h = refl
enter_none true (End term) h = refl
enter_none true (Copy node) h = refl
enter_none true Enter h = refl
enter_none true Leave h = refl
enter_none false kind h = refl

pub enter_same : (entry : Bool) (o : SrcOp) (g : Growth) → with_enter entry (Body o) g ≡ g
enter_same true o g = refl
enter_same false o g = refl

module _ (names : List Kind) (live_in : List NameId) (entry saved : Bool) where
  -- behind its operands' copies, an operation with its results
  abbrev pub made_op : ExtOp → Growth → ExtOp
  made_op op before = record {
    kind = op.kind;
    operands = new_operands op.operands before;
    results = new_temps
        (with_operands op.operands before) (length op.results);
  }

  abbrev pub behind_op : ExtOp → Growth → Growth
  behind_op op before = with_results op.kind (new_operands op.operands before) (length op.results) (with_operands op.operands before)

  abbrev pub extended_ops : ExtOp → Growth → List ExtOp
  extended_ops op g =
      let before = with_leave op.kind g in
      leave_ops op.kind ++ (operands_ops op.operands before ++ (made_op op before
      ∷ (values_ops (with_operands op.operands before).next (sorts_of names live_in saved op.kind (length op.results))
      (behind_op op before) ++ enter_ops entry op.kind)))

  abbrev pub all_ops : List ExtOp → Growth → List ExtOp
  all_ops [] g = []
  all_ops (op ∷ ops) g = extended_ops op g ++ all_ops ops (with_extended names live_in entry saved op g)

  extended_add : (op : ExtOp) (g : Growth) → (with_extended names live_in entry saved op g).ops ≡ g.ops ++ extended_ops op g
  extended_add op g =
      let before = with_leave op.kind g in
      let read = with_operands op.operands before in
      let here = behind_op op before in
      let sorts = sorts_of names live_in saved op.kind (length op.results) in
      let ds = values_ops read.next sorts here in
      let es = enter_ops entry op.kind in
      let made = made_op op before in
      let us = operands_ops op.operands before in
      enter_add entry op.kind (with_values read.next sorts here)
      ∙ ap (λ (os : List ExtOp). os ++ es) (values_add read.next sorts here
      ∙ ap (λ (os : List ExtOp). (os ++ made ∷ []) ++ ds) (operands_add op.operands before
      ∙ ap (λ (os : List ExtOp). os ++ us) (leave_add op.kind g)))
      ∙ append_assoc (((g.ops ++ leave_ops op.kind) ++ us) ++ made ∷ []) ds es
      ∙ append_assoc ((g.ops ++ leave_ops op.kind) ++ us) (made ∷ []) (ds ++ es)
      ∙ append_assoc (g.ops ++ leave_ops op.kind) us (made ∷ (ds ++ es))
      ∙ append_assoc g.ops (leave_ops op.kind) (us ++ (made ∷ (ds ++ es)))

  -- what an extension adds to the operations so far
  pub all_add : (ops : List ExtOp) (g : Growth) → (with_all_extended names live_in entry saved ops g).ops ≡ g.ops ++ all_ops ops g
  all_add [] g = sym (append_nil g.ops)
  all_add (op ∷ ops) g =
      let more = all_ops ops (with_extended names live_in entry saved op g) in
      all_add ops (with_extended names live_in entry saved op g)
      ∙ ap (λ (os : List ExtOp). os ++ more) (extended_add op g)
      ∙ append_assoc g.ops (extended_ops op g) more
