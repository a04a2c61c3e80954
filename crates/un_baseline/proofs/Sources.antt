-- The operations of a source have their operands in slots, and may read them in the registers into which they are reloaded.
use Rattle.std.proofs.Common.{◌≡◌, ◌≢◌, ℕ, zero, suc, ◌+◌, ◌≤◌, Bool, true, false, List, [], ◌∷◌, length, map, Option, Some, None, refl}
use Rattle.std.proofs.Common.{sym, ap, subst, ◌∙◌, arith}
use Rattle.std.specs.Prelude.{slice_get, slice_index, unwrap_or, if◌then◌else◌, IfSome, All, Contains}
use Rattle.std.specs.List.{range_with_len}
use Rattle.std.specs.Option.{option_map}
use Rattle.un_base.specs.declared.ids.NameId.{NameId}
use Rattle.un_isa.specs.Facts.{Operands as OperandSpaces, Fixed, Arguments, facts_of, is_source, operand_space, result_space, space_in}
use Rattle.un_isa.specs.Fit.{IsFit}
use Rattle.un_isa.specs.declared.op.Op.{Op}
use Rattle.un_isa.specs.declared.op.Op.TheVariants.{Imm, Mov, Add, Sub, And, Or, Xor, Addi, Andi, Ori, Mux, CmpEq, CmpGt, CmpGtu, CmpEqi}
use Rattle.un_isa.specs.declared.op.Op.TheVariants.{CmpGti, Mpyi, Asl, Asr, Lsr, Load, Store, Call, Spill, Reload}
use Rattle.un_isa.specs.declared.reg.Space.{Space}
use Rattle.un_isa.specs.declared.reg.Space.TheVariants.{R, P, M}
use Rattle.un_isa.specs.declared.table.Table.{Table}
use Rattle.un_ir.specs.declared.function.Kind.{Kind}
use Rattle.un_ir.specs.declared.function.Kind.TheVariants.{General, Pred}
use Rattle.un_ir.specs.declared.function.SrcOp.{SrcOp}
use Rattle.un_ir.specs.declared.extended.Operand.{Operand}
use Rattle.un_ir.specs.declared.extended.ExtBlock.{ExtBlock}
use Rattle.un_ir.specs.declared.extended.Ext.{Ext}
use Rattle.un_ir.specs.declared.extended.Growth.{Growth}
use Rattle.un_ir.specs.Extended.{at_register, name_kind}
use Rattle.un_ir.specs.ExtendOf.{with_operand, new_operands}
use Rattle.un_ir.specs.LinearOf.{kind_of_pair, name_operand, argument_operands, source_operands}
use Rattle.un_ir.specs.Names.{kind_of}
use Rattle.un_ir.specs.WellFormed.{Names, IsOfKind, IsGoodOp, AreRead, IsAssigned, kind_in, kind_given}
use Rattle.un_model.specs.declared.schedule.Read.{Read}
use Rattle.un_model.specs.Instructions.{operand_space_in, result_space_in, space_read, space_given, is_predicate_space}
use Rattle.un_model.specs.Solutions.{InSpace}
use Rattle.un_baseline.specs.declared.plan.Setting.{Setting}
use Rattle.un_baseline.specs.declared.plan.TheConstants.{PREDICATE}
use Rattle.un_baseline.proofs.Sound.{Seen}
use Rattle.un_baseline.proofs.Arrivals.{Kept, AreKept, AreFor, AreReady, words, truth, rooms_from, general_space}
use Rattle.un_baseline.proofs.Bodies.{IsReadyOp, body_register}

-- ---- kinds

slice_map : {A B : Type 0} (f : A → B) (xs : List A) (k : ℕ) → slice_get (map f xs) k ≡ option_map f (slice_get xs k)
slice_map f [] k = refl
slice_map f (x ∷ xs) zero = refl
slice_map f (x ∷ xs) (suc k) = slice_map f xs k

pub kind_named : (names : Names) (name : NameId) (kind : Kind) → kind_of names name ≡ Some kind → name_kind (map kind_of_pair names) name
    ≡ kind
kind_named names name kind h = ap (λ (o : Option Kind). unwrap_or o General) (slice_map kind_of_pair names name.0)
    ∙ by (slice_get names name.0) h
  where
    by : (o : Option (List ℕ × Kind)) → option_map (λ (n : List ℕ × Kind). n.1) o ≡ Some kind
        → unwrap_or (option_map kind_of_pair o) General ≡ kind
    by None e = absurd (cc e)
    by (Some n) e = cc e

-- ---- which operands operations have

data IsShape : OperandSpaces → Type 0 where
  no_operand : IsShape (Fixed [])
  one_word : IsShape (Fixed (R ∷ []))
  two_words : IsShape (Fixed (R ∷ R ∷ []))
  truth_and_words : IsShape (Fixed (P ∷ R ∷ R ∷ []))

shape_of : (op : Op) → is_source op ≡ true → op ≢ Call → IsShape (facts_of op).operands
shape_of Imm h ne = no_operand
shape_of Mov h ne = one_word
shape_of Add h ne = two_words
shape_of Sub h ne = two_words
shape_of And h ne = two_words
shape_of Or h ne = two_words
shape_of Xor h ne = two_words
shape_of Addi h ne = one_word
shape_of Andi h ne = one_word
shape_of Ori h ne = one_word
shape_of Mux h ne = truth_and_words
shape_of CmpEq h ne = two_words
shape_of CmpGt h ne = two_words
shape_of CmpGtu h ne = two_words
shape_of CmpEqi h ne = one_word
shape_of CmpGti h ne = one_word
shape_of Mpyi h ne = two_words
shape_of Asl h ne = one_word
shape_of Asr h ne = one_word
shape_of Lsr h ne = one_word
shape_of Load h ne = one_word
shape_of Store h ne = two_words
shape_of Call h ne = absurd (ne refl)
shape_of _ h ne = absurd (cc h)

source_space : (op : Op) (j : ℕ) → is_source op ≡ true → operand_space_in op j ≡ operand_space op j
source_space Reload j h = absurd (cc h)
source_space _ j h = refl

source_result : (op : Op) → is_source op ≡ true → result_space_in op ≡ result_space op
source_result Spill h = absurd (cc h)
source_result _ h = refl

abbrev is_slot : Option Space → Bool
is_slot (Some M) = true
is_slot _ = false

no_slot : (op : Op) → is_slot (result_space op) ≡ false
no_slot Imm = refl
no_slot _ = refl

register_fits : (space : Option Space) → is_slot space ≡ false → InSpace (if is_predicate_space space then PREDICATE else 0) space
register_fits None h = tt
register_fits (Some R) h = refl
register_fits (Some P) h = refl
register_fits (Some M) h = absurd (cc h)

others_read : (t : Table) (current : List ℕ) (op : Op) (srcs : List NameId) → op ≢ Call → source_operands t current op srcs
    ≡ map (name_operand current None) srcs
others_read t current Call srcs ne = absurd (ne refl)
others_read t current _ srcs ne = refl

call_by : (op : Op) → is_source op ≡ true → (facts_of op).operands ≡ Arguments → op ≡ Call
call_by Call h e = refl
call_by _ h e = absurd (cc e)

-- ---- names by their kinds

one_of : (names : Names) (srcs : List NameId) (a : Kind) → map (kind_of names) srcs ≡ Some a ∷ []
    → (x : NameId) × (srcs ≡ x ∷ []) × (kind_of names x ≡ Some a)
one_of names [] a h = absurd (cc h)
one_of names (x ∷ []) a h = (x, refl, (let e : kind_of names x ≡ Some a = cc h in e))
one_of names (x ∷ (y ∷ srcs)) a h = absurd (cc h)

two_of : (names : Names) (srcs : List NameId) (a b : Kind) → map (kind_of names) srcs ≡ Some a ∷ Some b ∷ []
    → (x y : NameId) × (srcs ≡ x ∷ y ∷ []) × (kind_of names x ≡ Some a) × (kind_of names y ≡ Some b)
two_of names [] a b h = absurd (cc h)
two_of names (x ∷ []) a b h = absurd (cc h)
two_of names (x ∷ y ∷ []) a b h = (
  x,
  y,
  refl,
  (let e : kind_of names x ≡ Some a = cc h in e),
  (let e : kind_of names y ≡ Some b = cc h in e),
)
two_of names (x ∷ (y ∷ (z ∷ srcs))) a b h = absurd (cc h)

three_of : (names : Names) (srcs : List NameId) (a b d : Kind) → map (kind_of names) srcs ≡ Some a ∷ Some b ∷ Some d ∷ []
    → (x y z : NameId) × (srcs ≡ x ∷ y ∷ z ∷ []) × (kind_of names x ≡ Some a) × (kind_of names y ≡ Some b) × (kind_of names z ≡ Some d)
three_of names [] a b d h = absurd (cc h)
three_of names (x ∷ []) a b d h = absurd (cc h)
three_of names (x ∷ y ∷ []) a b d h = absurd (cc h)
three_of names (x ∷ y ∷ z ∷ []) a b d h = (
  x,
  y,
  z,
  refl,
  (let e : kind_of names x ≡ Some a = cc h in e),
  (let e : kind_of names y ≡ Some b = cc h in e),
  (let e : kind_of names z ≡ Some d = cc h in e),
)
three_of names (x ∷ (y ∷ (z ∷ (w ∷ srcs)))) a b d h = absurd (cc h)

module _ (c : ℕ) (H : Seen → List Read → Type 0) (b end : ℕ) (e : Ext) (block : ExtBlock) (s : Setting) (fit : IsFit e.table)
    (names : Names) (current : List ℕ) (g : Growth) (seen : Seen) (o : SrcOp) (good : IsGoodOp names o)
    (same_names : e.names ≡ map kind_of_pair names)
    (kept : (name : NameId) (kind : Kind) → Contains o.srcs name → kind_of names name ≡ Some kind
    → Kept c H b end e block s fit g seen (slice_index current name.0) kind) where
  abbrev Ready : List Operand → Type 0
  Ready xs = IsReadyOp c H b end e block s fit o xs g seen

  -- ---- the result

  dst_kind : (operands : OperandSpaces) (space : Option Space) (dst : Option NameId) → IsAssigned names operands space dst
      → IfSome dst (λ (name : NameId). name_kind e.names name ≡ kind_given space)
  dst_kind operands space None h = tt
  dst_kind operands None (Some name) h = absurd (cc h)
  dst_kind (Fixed spaces) (Some space) (Some name) h = ap (λ (ks : List Kind). name_kind ks name) same_names
      ∙ kind_named names name (kind_in space) h
  dst_kind Arguments (Some space) (Some name) h = ap (λ (ks : List Kind). name_kind ks name) same_names
      ∙ kind_named names name (kind_in space) h

  given_to : (dst : Option NameId) → IfSome dst (λ (name : NameId). InSpace (body_register c H b end e block s fit o.op)
      (space_given (Some o.op)))
  given_to None = tt
  given_to (Some name) = subst (λ (space : Option Space). InSpace (body_register c H b end e block s fit o.op) space)
      (sym (source_result o.op good.op))
      (register_fits (result_space o.op) (no_slot o.op))

  made_ready : (xs : List Operand) (rooms : List ℕ) → AreReady c H b end e block s fit g seen xs rooms → length xs ≤ 6
      → AreFor c H b end e block s fit o.op 0 rooms (new_operands xs g) → Ready xs
  made_ready xs rooms ready few for = record {
    rooms = rooms;
    ready = ready;
    few = few;
    for = for;
    kind = dst_kind (facts_of o.op).operands (result_space o.op) o.dst good.assigns;
    given = given_to o.dst;
  }

  -- ---- arguments

  arguments_kept : (n j : ℕ) (srcs : List NameId) → ((name : NameId) → Contains srcs name → Contains o.srcs name)
      → All (IsOfKind names General) srcs
      → AreKept c H b end e block s fit g seen (argument_operands current (range_with_len j n) srcs)
  arguments_kept zero j [] sub kinds = tt
  arguments_kept (suc n) j [] sub kinds = tt
  arguments_kept zero j (name ∷ srcs) sub kinds = (
    kept name General (sub name (0, omega arith, refl)) (kinds 0 name (omega arith)),
    arguments_kept zero j srcs (λ x has. sub x (suc has.0, (let lt = has.1 in omega arith), has.2))
        (λ k d lt. kinds (suc k) d (omega arith)),
  )
  arguments_kept (suc n) j (name ∷ srcs) sub kinds = (
    kept name General (sub name (0, omega arith, refl)) (kinds 0 name (omega arith)),
    arguments_kept n (j + 1) srcs (λ x has. sub x (suc has.0, (let lt = has.1 in omega arith), has.2))
        (λ k d lt. kinds (suc k) d (omega arith)),
  )

  arguments_size : (registers : List ℕ) (srcs : List NameId) → length (argument_operands current registers srcs) ≡ length srcs
  arguments_size registers [] = refl
  arguments_size [] (name ∷ srcs) = ap suc (arguments_size [] srcs)
  arguments_size (r ∷ rs) (name ∷ srcs) = ap suc (arguments_size rs srcs)

  arguments_for : (n j : ℕ) (srcs : List NameId) (g' : Growth) → j + length srcs ≤ 6 → o.op ≡ Call
      → (let xs = argument_operands current (range_with_len j n) srcs in AreFor c H b end e block s fit o.op j
      (rooms_from c H b end e block s fit j xs) (new_operands xs g'))
  arguments_for zero j [] g' few call = tt
  arguments_for (suc n) j [] g' few call = tt
  arguments_for zero j (name ∷ srcs) g' few call = (
    subst (λ (op : Op). InSpace j (space_read (Some op) j)) (sym call) (general_space j (omega arith)),
    tt,
    arguments_for zero (j + 1) srcs (with_operand (name_operand current None name) g') (omega arith) call,
  )
  arguments_for (suc n) j (name ∷ srcs) g' few call = (
    subst (λ (op : Op). InSpace j (space_read (Some op) j)) (sym call) (general_space j (omega arith)),
    refl,
    arguments_for n (j + 1) srcs (with_operand (name_operand current (at_register j) name) g') (omega arith) call,
  )

  -- ---- other operands

  abbrev operand_of : NameId → Operand
  operand_of name = name_operand current None name

  space_at : (operands : OperandSpaces) (j r : ℕ) → (facts_of o.op).operands ≡ operands → InSpace r (space_in operands j)
      → InSpace r (space_read (Some o.op) j)
  space_at operands j r is h =
      subst (λ (space : Option Space). InSpace r space) (sym (source_space o.op j good.op ∙ ap (λ (x : OperandSpaces). space_in x j) is)) h

  ready_of : (operands : OperandSpaces) → (facts_of o.op).operands ≡ operands → IsShape operands → AreRead names operands o.srcs
      → Ready (map operand_of o.srcs)
  ready_of operands is no_operand read =
      subst (λ (xs : List NameId). Ready (map operand_of xs)) (sym (none_of o.srcs read)) (made_ready [] [] (words tt) (omega arith) tt)
    where
      none_of : (srcs : List NameId) → map (kind_of names) srcs ≡ [] → srcs ≡ []
      none_of [] h = refl
      none_of (x ∷ srcs) h = absurd (cc h)
  ready_of operands is one_word read =
      let f = one_of names o.srcs General read in
      let x = f.0 in
      let has : Contains o.srcs x = subst (λ (xs : List NameId). Contains xs x) (sym f.1) (0, omega arith, refl) in
      subst (λ (xs : List NameId). Ready (map operand_of xs)) (sym f.1)
      (made_ready (operand_of x ∷ []) (0 ∷ []) (words (kept x General has f.2, tt)) (omega arith)
      (space_at (Fixed (R ∷ [])) 0 0 is refl, tt, tt))
  ready_of operands is two_words read =
      let f = two_of names o.srcs General General read in
      let x = f.0 in
      let y = f.1 in
      let has : Contains o.srcs x = subst (λ (xs : List NameId). Contains xs x) (sym f.2) (0, omega arith, refl) in
      let has' : Contains o.srcs y = subst (λ (xs : List NameId). Contains xs y) (sym f.2) (1, omega arith, refl) in
      subst (λ (xs : List NameId). Ready (map operand_of xs)) (sym f.2)
      (made_ready (operand_of x ∷ operand_of y ∷ []) (0 ∷ 1 ∷ []) (words (kept x General has f.3, (kept y General has' f.4, tt)))
      (omega arith)
      (space_at (Fixed (R ∷ R ∷ [])) 0 0 is refl, tt, (space_at (Fixed (R ∷ R ∷ [])) 1 1 is refl, tt, tt)))
  ready_of operands is truth_and_words read =
      let f = three_of names o.srcs Pred General General read in
      let x = f.0 in
      let y = f.1 in
      let z = f.2 in
      let has : Contains o.srcs x = subst (λ (xs : List NameId). Contains xs x) (sym f.3) (0, omega arith, refl) in
      let has' : Contains o.srcs y = subst (λ (xs : List NameId). Contains xs y) (sym f.3) (1, omega arith, refl) in
      let has'' : Contains o.srcs z = subst (λ (xs : List NameId). Contains xs z) (sym f.3) (2, omega arith, refl) in
      subst (λ (xs : List NameId). Ready (map operand_of xs)) (sym f.3)
      (made_ready (operand_of x ∷ operand_of y ∷ operand_of z ∷ []) (PREDICATE ∷ 1 ∷ 2 ∷ [])
      (truth (kept x Pred has f.4) (kept y General has' f.5, (kept z General has'' f.6, tt))) (omega arith) (
        space_at (Fixed (P ∷ R ∷ R ∷ [])) 0 PREDICATE is refl,
        tt,
        (
          space_at (Fixed (P ∷ R ∷ R ∷ [])) 1 1 is refl,
          tt,
          (space_at (Fixed (P ∷ R ∷ R ∷ [])) 2 2 is refl, tt, tt),
        ),
      ))

  ready_by : (operands : OperandSpaces) → (facts_of o.op).operands ≡ operands → AreRead names operands o.srcs
      → Ready (source_operands e.table current o.op o.srcs)
  ready_by (Fixed spaces) is read =
      let ne : o.op ≢ Call = λ call. (let f : Fixed spaces ≡ Arguments = sym is ∙ ap (λ (op : Op). (facts_of op).operands) call in cc f) in
      subst Ready (sym (others_read e.table current o.op o.srcs ne)) (ready_of (Fixed spaces) is
      (subst IsShape is (shape_of o.op good.op ne)) read)
  ready_by Arguments is read =
      let call = call_by o.op good.op is in
      let xs = argument_operands current (range_with_len 0 6) o.srcs in
      let size = arguments_size (range_with_len 0 6) o.srcs in
      let few = read.1 in
      let same : source_operands e.table current o.op o.srcs ≡ xs =
      ap (λ (op : Op). source_operands e.table current op o.srcs) call ∙ ap (λ (rs : List ℕ). argument_operands current rs o.srcs)
      fit.args in
      subst Ready (sym same) (made_ready xs (rooms_from c H b end e block s fit 0 xs)
      (words (arguments_kept 6 0 o.srcs (λ x has. has) read.0)) (omega arith)
      (arguments_for 6 0 o.srcs g (omega arith) call))

  -- an operation of a text is ready
  pub ready_op : Ready (source_operands e.table current o.op o.srcs)
  ready_op = ready_by (facts_of o.op).operands refl good.reads
