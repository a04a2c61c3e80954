-- A block of an extended function ends as the block of the source does.
use Rattle.std.proofs.Common.{◌≡◌, ℕ, ◌+◌, Bool, true, false, List, [], ◌∷◌, ◌++◌, length, Option, Some, None, refl, ap, ◌∙◌, append_assoc}
use Rattle.std.specs.Prelude.{slice_get, if◌then◌else◌}
use Rattle.un_base.specs.declared.ids.NameId.{NameId}
use Rattle.un_base.specs.declared.ids.TempId.{TempId}
use Rattle.un_isa.specs.declared.table.Table.{Table}
use Rattle.un_ir.specs.declared.function.Kind.{Kind}
use Rattle.un_ir.specs.declared.function.Kind.TheVariants.{General, Pred}
use Rattle.un_ir.specs.declared.function.SrcOp.{SrcOp}
use Rattle.un_ir.specs.declared.function.Term.{Term}
use Rattle.un_ir.specs.declared.function.Term.TheVariants.{Fall, Jump, Branch, Ret}
use Rattle.un_ir.specs.declared.extended.NodeCopy.{NodeCopy}
use Rattle.un_ir.specs.declared.extended.NodeCopy.TheVariants.{D, D2, U, U2}
use Rattle.un_ir.specs.declared.extended.ExtKind.{ExtKind}
use Rattle.un_ir.specs.declared.extended.ExtKind.TheVariants.{In, Out, Body, End, Copy, Enter, Leave}
use Rattle.un_ir.specs.declared.extended.Operand.{Operand}
use Rattle.un_ir.specs.declared.extended.ExtOp.{ExtOp}
use Rattle.un_ir.specs.declared.extended.Growth.{Growth}
use Rattle.un_ir.specs.declared.extended.Sort.{Sort}
use Rattle.un_ir.specs.declared.extended.Value.{Value}
use Rattle.un_ir.specs.Extended.{temp, is_return}
use Rattle.un_ir.specs.Linear.{first_of}
use Rattle.un_ir.specs.LinearOf.{body_ops, assigned, past, end_ops}
use Rattle.un_ir.specs.ExtendOf.{frame_op, with_value, with_operand, with_operands, with_leave, sorts_of, with_extended}
use Rattle.un_model.specs.Congruences.{term_or, term_of}
use Rattle.un_baseline.proofs.Grown.{copy_ops, value_ops, values_ops, operand_ops_by, operand_ops, operands_ops, leave_ops, enter_ops}
use Rattle.un_baseline.proofs.Grown.{made_op, behind_op, extended_ops, all_ops}

-- ---- what no terminator is among

copies_skip : (first second : NodeCopy) (kind : Kind) (copied : Bool) (alts : List TempId) (n : ℕ) (more : List ExtOp)
    → term_of (copy_ops first second kind copied alts n ++ more) ≡ term_of more
copies_skip first second kind false alts n more = refl
copies_skip first second General true alts n more = refl
copies_skip first second Pred true alts n more = refl

values_skip : (n : ℕ) (sorts : List Sort) (g : Growth) (more : List ExtOp) → term_of (values_ops n sorts g ++ more) ≡ term_of more
values_skip n [] g more = refl
values_skip n (sort ∷ sorts) g more =
    let rest = values_ops (n + 1) sorts (with_value n sort g) in
    ap term_of (append_assoc (value_ops n sort g) rest more)
    ∙ copies_skip D D2 sort.kind sort.copied (temp n ∷ []) g.next (rest ++ more)
    ∙ values_skip (n + 1) sorts (with_value n sort g) more

operand_skip : (v : Option Value) (n : ℕ) (more : List ExtOp) → term_of (operand_ops_by v n ++ more) ≡ term_of more
operand_skip None n more = refl
operand_skip (Some v) n more = copies_skip U U2 v.sort.kind v.sort.copied v.own n more

operands_skip : (xs : List Operand) (g : Growth) (more : List ExtOp) → term_of (operands_ops xs g ++ more) ≡ term_of more
operands_skip [] g more = refl
operands_skip (x ∷ xs) g more =
    let rest = operands_ops xs (with_operand x g) in
    ap term_of (append_assoc (operand_ops x g) rest more)
    ∙ operand_skip (slice_get g.values (first_of x.alts)) g.next (rest ++ more)
    ∙ operands_skip xs (with_operand x g) more

leave_by : (b : Bool) (more : List ExtOp) → term_of ((if b then frame_op Leave ∷ [] else []) ++ more) ≡ term_of more
leave_by true more = refl
leave_by false more = refl

leave_skip : (kind : ExtKind) (more : List ExtOp) → term_of (leave_ops kind ++ more) ≡ term_of more
leave_skip (End term) more = leave_by (is_return term) more
leave_skip In more = refl
leave_skip Out more = refl
leave_skip (Body o) more = refl
leave_skip (Copy node) more = refl
leave_skip Enter more = refl
leave_skip Leave more = refl

enter_skip : (entry : Bool) (kind : ExtKind) (more : List ExtOp) → term_of (enter_ops entry kind ++ more) ≡ term_of more
enter_skip true In more = refl
enter_skip true Out more = refl
enter_skip true (Body o) more = refl
enter_skip true (End term) more = refl
enter_skip true (Copy node) more = refl
enter_skip true Enter more = refl
enter_skip true Leave more = refl
enter_skip false kind more = refl

-- ---- what an extension keeps

module _ (names : List Kind) (live_in : List NameId) (entry saved : Bool) where
  op_term : (op : ExtOp) (g : Growth) (more : List ExtOp)
      → term_of (extended_ops names live_in entry saved op g ++ more) ≡ term_or op.kind (term_of more)
  op_term op g more =
      let before = with_leave op.kind g in
      let us = operands_ops op.operands before in
      let made = made_op names live_in entry saved op before in
      let ds = values_ops (with_operands op.operands before).next (sorts_of names live_in saved op.kind (length op.results))
      (behind_op names live_in entry saved op before) in
      let es = enter_ops entry op.kind in
      ap term_of (append_assoc (leave_ops op.kind) (us ++ (made ∷ (ds ++ es))) more)
      ∙ leave_skip op.kind ((us ++ (made ∷ (ds ++ es))) ++ more)
      ∙ ap term_of (append_assoc us (made ∷ (ds ++ es)) more)
      ∙ operands_skip op.operands before (made ∷ ((ds ++ es) ++ more))
      ∙ ap (term_or op.kind) (ap term_of (append_assoc ds es more)
      ∙ values_skip (with_operands op.operands before).next (sorts_of names live_in saved op.kind (length op.results))
      (behind_op names live_in entry saved op before) (es ++ more)
      ∙ enter_skip entry op.kind more)

  pub all_term : (ops : List ExtOp) (g : Growth) → term_of (all_ops names live_in entry saved ops g) ≡ term_of ops
  all_term [] g = refl
  all_term (op ∷ ops) g =
      let next = with_extended names live_in entry saved op g in
      op_term op g (all_ops names live_in entry saved ops next) ∙ ap (term_or op.kind) (all_term ops next)

-- ---- the linear function's

bodies_term : (t : Table) (current : List ℕ) (n : ℕ) (srcs : List SrcOp) (more : List ExtOp)
    → term_of (body_ops t current n srcs ++ more) ≡ term_of more
bodies_term t current n [] more = refl
bodies_term t current n (src ∷ srcs) more = bodies_term t (assigned current src.dst n) (past src.dst n) srcs more

ends_term : (current : List ℕ) (link : ℕ) (term : Term) (out : ExtOp) → out.kind ≡ Out
    → term_of (end_ops current link term ++ out ∷ []) ≡ term
ends_term current link Fall out is = ap (λ (k : ExtKind). term_or k Fall) is
ends_term current link (Jump to) out is = refl
ends_term current link (Branch pred sense to) out is = refl
ends_term current link (Ret value) out is = refl

pub lin_term : (t : Table) (current after : List ℕ) (n link : ℕ) (srcs : List SrcOp) (term : Term) (out : ExtOp) → out.kind ≡ Out
    → term_of (body_ops t current n srcs ++ (end_ops after link term ++ out ∷ [])) ≡ term
lin_term t current after n link srcs term out is =
    bodies_term t current n srcs (end_ops after link term ++ out ∷ []) ∙ ends_term after link term out is
