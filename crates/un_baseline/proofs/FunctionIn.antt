-- All values of the plan that spills every name of a function lie in their domains.
use Rattle.std.proofs.Common.{◌≡◌, ◌≢◌, ⊎_elim, ℕ, zero, suc, ◌+◌, ◌<◌, ◌≤◌, Bool, true, false, List, [], ◌∷◌, ◌++◌, length, length-set}
use Rattle.std.proofs.Common.{map, take, replicate, Option, Some, None, All, Contains, refl, ap, subst, ◌∙◌, arith}
use Rattle.std.specs.Prelude.{slice_get}
use Rattle.std.specs.List.{AllZip, range_with_len}
use Rattle.std.specs.Option.{option_map, option_to_list}
use Rattle.std.proofs.Math.Logic.{∥∥₁_elim}
use Rattle.std.proofs.lemmas.Bool.{cases_lt}
use Rattle.std.proofs.lemmas.List.{length-append}
use Rattle.std.proofs.lemmas.List.Elements.{All-head}
use Rattle.std.proofs.lemmas.Option.{slice_get_within}
use Rattle.un_base.specs.declared.ids.NameId.{NameId}
use Rattle.un_base.specs.declared.ids.TempId.{TempId}
use Rattle.un_isa.specs.Facts.{Operands as OperandSpaces, Fixed, Arguments, facts_of, result_space}
use Rattle.un_isa.specs.declared.reg.Space.{Space}
use Rattle.un_isa.specs.declared.table.Table.{Table}
use Rattle.un_ir.specs.declared.function.Kind.{Kind}
use Rattle.un_ir.specs.declared.function.Kind.TheVariants.{General, Pred}
use Rattle.un_ir.specs.declared.function.SrcOp.{SrcOp}
use Rattle.un_ir.specs.declared.function.Term.{Term}
use Rattle.un_ir.specs.declared.function.Term.TheVariants.{Fall, Jump, Branch, Ret}
use Rattle.un_ir.specs.declared.function.Block.{Block}
use Rattle.un_ir.specs.declared.function.Function.{Function}
use Rattle.un_ir.specs.declared.extended.ExtKind.{ExtKind}
use Rattle.un_ir.specs.declared.extended.ExtKind.TheVariants.{In, Out, Body, End, Copy, Enter, Leave}
use Rattle.un_ir.specs.declared.extended.Operand.{Operand}
use Rattle.un_ir.specs.declared.extended.ExtOp.{ExtOp}
use Rattle.un_ir.specs.declared.extended.ExtBlock.{ExtBlock}
use Rattle.un_ir.specs.declared.extended.Ext.{Ext}
use Rattle.un_ir.specs.declared.extended.Growth.{Growth}
use Rattle.un_ir.specs.declared.extended.Sort.{Sort}
use Rattle.un_ir.specs.declared.extended.Value.{Value}
use Rattle.un_ir.specs.Extended.{temp, name_kind, results_of, Want, wants_of, IsGoodOperand, IsGoodExtBlock}
use Rattle.un_ir.specs.ExtendOf.{sorts_of, value_of, with_leave, with_enter, with_value, with_values, with_operand_by, with_operand}
use Rattle.un_ir.specs.ExtendOf.{with_operands, new_operands, with_results, with_extended, with_all_extended}
use Rattle.un_ir.specs.Linear.{first_of}
use Rattle.un_ir.specs.LinearOf.{reads as reads_of, name_operand, body_op, body_ops, assigned, past, past_all, end_ops, kind_of_pair}
use Rattle.un_ir.specs.Names.{kind_of}
use Rattle.un_ir.specs.WellFormed.{Names, IsAssigned, IsGoodOp, IsGoodBlock, IsWellFormed, kind_given, result_kind}
use Rattle.un_ir.proofs.NameBounds.{at_all}
use Rattle.un_model.specs.declared.model.Options.{Options}
use Rattle.un_baseline.proofs.SpillSteps.{EachOp}
use Rattle.un_baseline.proofs.Definers.{definer_of}
use Rattle.un_baseline.proofs.OutsIn.{ReadsFrom}
use Rattle.un_baseline.proofs.Sources.{kind_named}

-- ---- names that operations of the source assign

assigned_kind : (names : Names) (operands : OperandSpaces) (space : Option Space) (name : NameId)
    → IsAssigned names operands space (Some name)
    → kind_of names name ≡ Some (kind_given space)
assigned_kind names operands None name h = absurd (cc h)
assigned_kind names (Fixed spaces) (Some space) name h = h
assigned_kind names Arguments (Some space) name h = h

kind_within : (names : Names) (name : NameId) (kind : Kind) → kind_of names name ≡ Some kind → name.0 < length names
kind_within names name kind h = by (slice_get names name.0) refl h
  where
    by : (x : Option (List ℕ × Kind)) → slice_get names name.0 ≡ x → option_map (λ (n : List ℕ × Kind). n.1) x ≡ Some kind
        → name.0 < length names
    by None at e = absurd (cc e)
    by (Some n) at e = slice_get_within names name.0 n at

kind_stable : (a b : Kind) → ((a ≢ b) → ⊥) → a ≡ b
kind_stable General General h = refl
kind_stable Pred Pred h = refl
kind_stable General Pred h = absurd (h (λ e. cc e))
kind_stable Pred General h = absurd (h (λ e. cc e))

less_stable : (a b : ℕ) → ((a < b → ⊥) → ⊥) → a < b
less_stable a b h = ⊎_elim (λ (lt : a < b). lt) (λ (ge : b ≤ a). absurd (h (λ lt. omega arith))) (cases_lt a b)

-- a name that an operation assigns is one of the function's, of the result's kind
pub record AssignsWell (f : Function) (src : SrcOp) : Type 0 where
  pub within : (name : NameId) → src.dst ≡ Some name → name.0 < length f.names
  pub kind : (name : NameId) → src.dst ≡ Some name → name_kind (map kind_of_pair f.names) name ≡ result_kind src.op

module _ (f : Function) (b k : ℕ) (block : Block) (src : SrcOp) (at : slice_get f.blocks b ≡ Some block) (here : slice_get block.ops k ≡
    Some src) where
  kind_is : IsWellFormed f.name f.params f.names f.blocks → (name : NameId) → src.dst ≡ Some name
      → kind_of f.names name ≡ Some (result_kind src.op)
  kind_is w name dst =
      let g = at_all (IsGoodBlock f.names) f.blocks b block w.good_blocks at in
      let good = at_all (IsGoodOp f.names) block.ops k src g.ops here in
      assigned_kind f.names (facts_of src.op).operands (result_space src.op) name (subst (IsAssigned f.names (facts_of src.op).operands
      (result_space
      src.op)) dst good.assigns)

  pub assigns_well : AssignsWell f src
  assigns_well = record {
    within = λ name dst. less_stable name.0 (length f.names) (λ not. ∥∥₁_elim f.well_formed (λ (x y : ⊥). absurd x)
        (λ (w : IsWellFormed f.name f.params f.names f.blocks). not (kind_within f.names name (result_kind src.op) (kind_is w name dst))));
    kind = λ name dst. kind_stable (name_kind (map kind_of_pair f.names) name) (result_kind src.op) (λ not. ∥∥₁_elim f.well_formed
        (λ (x y : ⊥). absurd x) (λ (w : IsWellFormed f.name f.params f.names f.blocks). not (kind_named f.names name (result_kind src.op)
        (kind_is w name dst))));
  }

-- ---- how many values there are

operand_count : (x : ℕ) (v : Option Value) (g : Growth) → length (with_operand_by x v g).values ≡ length g.values
operand_count x None g = refl
operand_count x (Some v) g = length-set g.values x _

pub operands_count : (xs : List Operand) (g : Growth) → length (with_operands xs g).values ≡ length g.values
operands_count [] g = refl
operands_count (x ∷ xs) g = operands_count xs (with_operand x g) ∙ operand_count (first_of x.alts) (slice_get g.values (first_of x.alts)) g

values_count : (n : ℕ) (sorts : List Sort) (g : Growth) → length (with_values n sorts g).values ≡ length g.values + length sorts
values_count n [] g = omega arith
values_count n (sort ∷ sorts) g =
    let rest = values_count (n + 1) sorts (with_value n sort g) in
    let l = length-append g.values (value_of n sort g ∷ []) in
    omega arith

leave_count : (kind : ExtKind) (g : Growth) → length (with_leave kind g).values ≡ length g.values
leave_count In g = refl
leave_count Out g = refl
leave_count (Body src) g = refl
leave_count (End Fall) g = refl
leave_count (End (Jump to)) g = refl
leave_count (End (Branch pred sense to)) g = refl
leave_count (End (Ret value)) g = refl
leave_count (Copy node) g = refl
leave_count Enter g = refl
leave_count Leave g = refl

enter_count : (entry : Bool) (kind : ExtKind) (g : Growth) → length (with_enter entry kind g).values ≡ length g.values
enter_count true In g = refl
enter_count true Out g = refl
enter_count true (Body src) g = refl
enter_count true (End term) g = refl
enter_count true (Copy node) g = refl
enter_count true Enter g = refl
enter_count true Leave g = refl
enter_count false kind g = refl

module _ (names : List Kind) (live_in : List NameId) (entry saved : Bool) where
  pub op_count : (op : ExtOp) (g : Growth) → length (with_extended names live_in entry saved op g).values ≡ length g.values + length
      (sorts_of names
      live_in saved op.kind (length op.results))
  op_count op g =
      let before = with_leave op.kind g in
      let read = with_operands op.operands before in
      let sorts = sorts_of names live_in saved op.kind (length op.results) in
      let here = with_results op.kind (new_operands op.operands before) (length op.results) read in
      let a = leave_count op.kind g in
      let b = operands_count op.operands before in
      let c = values_count read.next sorts here in
      let d = enter_count entry op.kind (with_values read.next sorts here) in
      omega arith

  grown_all : List ExtOp → Growth → ℕ
  grown_all ops g = length (with_all_extended names live_in entry saved ops g).values

  pub dst_count : (dst : Option NameId) (first n : ℕ) (sort : Sort) → n + length (replicate (length (map (λ (name : NameId). temp first)
      (option_to_list dst))) sort) ≡ past dst n
  dst_count None first n sort = omega arith
  dst_count (Some name) first n sort = omega arith

  pub bodies_count : (t : Table) (srcs : List SrcOp) (current : List ℕ) (first : ℕ) (rest : List ExtOp) (g : Growth) (n : ℕ)
      → length g.values ≡ n
      → ((h : Growth) → length h.values ≡ past_all n srcs → length (with_all_extended names live_in entry saved rest h).values ≡ past_all
      n srcs)
      → length (with_all_extended names live_in entry saved (body_ops t current first srcs ++ rest) g).values ≡ past_all n srcs
  bodies_count t [] current first rest g n size go = go g size
  bodies_count t (src ∷ srcs) current first rest g n size go =
      let op = body_op t current first src in
      let here = op_count op g in
      let dst = dst_count src.dst first n (record { kind = result_kind src.op; copied = true }) in
      bodies_count t srcs (assigned current src.dst first) (past src.dst first) rest (with_extended names live_in entry saved op g) (past
      src.dst n)
      (omega arith) go

  out_count : (out : ExtOp) (g : Growth) → out.kind ≡ Out → length (with_extended names live_in entry saved out g).values ≡ length g.values
  out_count out g is =
      let a = op_count out g in
      let z : length (sorts_of names live_in saved out.kind (length out.results)) ≡ 0 = ap (λ (k : ExtKind). length (sorts_of names
      live_in saved k
      (length out.results))) is in
      omega arith

  end_count : (term : Term) (xs : List Operand) (g : Growth) → length (with_extended names live_in entry saved (record {
    kind = End term;
    operands = xs;
    results = [];
  }) g).values
      ≡ length g.values
  end_count term xs g = let a = op_count (record { kind = End term; operands = xs; results = [] }) g in omega arith

  pub ends_count : (term : Term) (current : List ℕ) (link : ℕ) (out : ExtOp) (g : Growth) → out.kind ≡ Out
      → length (with_all_extended names live_in entry saved (end_ops current link term ++ out ∷ []) g).values ≡ length g.values
  ends_count Fall current link out g is = out_count out g is
  ends_count (Jump to) current link out g is =
      out_count out (with_extended names live_in entry saved (record { kind = End (Jump to); operands = []; results = [] }) g) is ∙
      end_count (Jump to) [] g
  ends_count (Branch pred sense to) current link out g is =
      let xs = name_operand current None pred ∷ [] in
      out_count out (with_extended names live_in entry saved (record { kind = End (Branch pred sense to); operands = xs; results = [] })
      g) is
      ∙ end_count (Branch pred sense to) xs g
  ends_count (Ret value) current link out g is =
      let xs = reads_of link None ∷ [] in
      out_count out (with_extended names live_in entry saved (record { kind = End (Ret value); operands = xs; results = [] }) g) is
      ∙ end_count (Ret value) xs g

-- ---- what a linear block reads is its own

abbrev pub LowResults : ℕ → ExtOp → Type 0
LowResults n op = (m : ℕ) (y : TempId) → slice_get op.results m ≡ Some y → n ≤ y.0

pub row_low : (n c : ℕ) (m : ℕ) (y : TempId) → slice_get (map temp (range_with_len n c)) m ≡ Some y → n ≤ y.0
row_low n zero m y at = absurd (cc at)
row_low n (suc c) zero y at = let e : temp n ≡ y = cc at in let z = ap (λ (x : TempId). x.0) e in omega arith
row_low n (suc c) (suc m) y at = let r = row_low (n + 1) c m y at in omega arith

pub bodies_low : (t : Table) (n : ℕ) (srcs : List SrcOp) (current : List ℕ) (first : ℕ) → n ≤ first
    → EachOp (LowResults n) (body_ops t current first srcs)
bodies_low t n [] current first le = tt
bodies_low t n (src ∷ srcs) current first le =
    let le' = past_more src.dst in (
      by src.dst,
      bodies_low t n srcs (assigned current src.dst first) (past src.dst first) (omega arith),
    )
  where
    past_more : (dst : Option NameId) → first ≤ past dst first
    past_more None = omega arith
    past_more (Some name) = omega arith

    by : (dst : Option NameId) (m : ℕ) (y : TempId) → slice_get (map (λ (name : NameId). temp first) (option_to_list dst)) m ≡ Some y
        → n ≤ y.0
    by None m y at = absurd (cc at)
    by (Some name) zero y at = let e : temp first ≡ y = cc at in let z = ap (λ (x : TempId). x.0) e in omega arith
    by (Some name) (suc m) y at = absurd (cc at)

pub ends_low : (n : ℕ) (term : Term) (current : List ℕ) (link : ℕ) → EachOp (LowResults n) (end_ops current link term)
ends_low n Fall current link = tt
ends_low n (Jump to) current link = ((λ m y at. absurd (cc at)), tt)
ends_low n (Branch pred sense to) current link = ((λ m y at. absurd (cc at)), tt)
ends_low n (Ret value) current link = ((λ m y at. absurd (cc at)), tt)

each_get : (Q : ExtOp → Type 0) (ops : List ExtOp) (k : ℕ) (op : ExtOp) → EachOp Q ops → slice_get ops k ≡ Some op → Q op
each_get Q [] k op h at = absurd (cc at)
each_get Q (o ∷ ops) zero op h at = let e : o ≡ op = cc at in subst Q e h.0
each_get Q (o ∷ ops) (suc k) op h at = each_get Q ops k op h.1 at

each_place : (Q : ExtOp → Type 0) (ops : List ExtOp) → ((k : ℕ) (op : ExtOp) → slice_get ops k ≡ Some op → Q op) → EachOp Q ops
each_place Q [] h = tt
each_place Q (op ∷ ops) h = (h 0 op refl, each_place Q ops (λ k o at. h (suc k) o at))

module _ (t : Table) (names : List Kind) (blocks : List ExtBlock) (lin : ExtBlock) (good : IsGoodExtBlock t names blocks lin) (n : ℕ)
    (low : EachOp (LowResults n) lin.ops) where
  module _ (e : Ext) (o : Options) (entry : Bool) (block : ExtBlock) where
    reads_by : (k : ℕ) (xs : List Operand) (ws : List Want) → AllZip (IsGoodOperand names blocks (results_of (take k lin.ops))) xs ws
        → ReadsFrom e o entry block n xs
    reads_by k [] ws h = tt
    reads_by k (x ∷ xs) [] h = absurd h
    reads_by k (x ∷ xs) (w ∷ ws) h = (by x.alts refl (h.0).chooses, reads_by k xs ws h.1)
      where
        by : (alts : List TempId) → x.alts ≡ alts → 0 < length x.alts → n ≤ first_of x.alts
        by [] is some = absurd (let z : length x.alts ≡ 0 = ap (λ (ys : List TempId). length ys) is in omega arith)
        by (y ∷ ys) is some =
            let known = subst (All (Contains (results_of (take k lin.ops)))) is (h.0).known in
            let d = definer_of lin.ops k y (All-head (Contains (results_of (take k lin.ops))) y ys known) in
            let l = each_get (LowResults n) lin.ops d.place d.op low d.at d.result y d.is in
            let z : first_of x.alts ≡ y.0 = ap first_of is in
            omega arith

    pub reads_own : EachOp (λ (op : ExtOp). ReadsFrom e o entry block n op.operands) lin.ops
    reads_own = each_place (λ (op : ExtOp). ReadsFrom e o entry block n op.operands) lin.ops (λ k op at.
        reads_by k op.operands (wants_of t names blocks lin op.kind op) (good.ops k op at).operands)
