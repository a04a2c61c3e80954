-- What a block's end chooses lies in its domains.
use Rattle.std.proofs.Common.{◌≡◌, ◌⊎◌, inl, inr, ⊎_elim, ℕ, zero, suc, ◌+◌, ◌-◌, ◌<◌, ◌≤◌, Bool, true, false, List, [], ◌∷◌, ◌++◌, length}
use Rattle.std.proofs.Common.{map, Option, Some, None, refl, sym, ap, subst, ◌∙◌, arith}
use Rattle.std.specs.Prelude.{◌==◌, nat_lt, if◌then◌else◌, IfSome, slice_get}
use Rattle.std.specs.List.{AllZip}
use Rattle.std.specs.Option.{option_map}
use Rattle.std.proofs.lemmas.Bool.Decides.{nat_tests}
use Rattle.std.proofs.lemmas.List.{length-append}
use Rattle.std.proofs.lemmas.Option.{slice_get-map}
use Rattle.un_base.specs.declared.ids.NameId.{NameId}
use Rattle.un_base.specs.declared.ids.TempId.{TempId}
use Rattle.un_isa.specs.Registers.{saved_registers}
use Rattle.un_ir.specs.declared.function.Kind.{Kind}
use Rattle.un_ir.specs.declared.function.Kind.TheVariants.{General, Pred}
use Rattle.un_ir.specs.declared.function.Term.{Term}
use Rattle.un_ir.specs.declared.function.Term.TheVariants.{Fall, Jump, Branch, Ret}
use Rattle.un_ir.specs.declared.extended.ExtKind.{ExtKind}
use Rattle.un_ir.specs.declared.extended.ExtKind.TheVariants.{In, Out, Body, End, Copy, Enter, Leave}
use Rattle.un_ir.specs.declared.extended.Operand.{Operand}
use Rattle.un_ir.specs.declared.extended.ExtOp.{ExtOp}
use Rattle.un_ir.specs.declared.extended.ExtBlock.{ExtBlock}
use Rattle.un_ir.specs.declared.extended.Ext.{Ext}
use Rattle.un_ir.specs.declared.extended.Growth.{Growth}
use Rattle.un_ir.specs.declared.extended.Sort.{Sort}
use Rattle.un_ir.specs.declared.extended.Value.{Value}
use Rattle.un_ir.specs.Extended.{temp, name_kind, kind_of_temp, Want, anywhere, wants_of_out, IsGoodOperand}
use Rattle.un_ir.specs.Linear.{first_of, ending_of, ending_or}
use Rattle.un_ir.specs.ExtendOf.{copy_count, copy_count_by, alternatives, with_operand, new_operands}
use Rattle.un_ir.proofs.GoodOps.{got_left}
use Rattle.un_model.specs.declared.model.Options.{Options}
use Rattle.un_model.specs.Congruences.{term_of, term_or}
use Rattle.un_baseline.specs.declared.plan.Purpose.{Purpose}
use Rattle.un_baseline.specs.declared.plan.Setting.{Setting}
use Rattle.un_baseline.specs.declared.plan.Progress.{Progress}
use Rattle.un_baseline.specs.SpillEverywhere.{last_place, is_placed, copies_of, handed_place, out_place, step_of, setting_of}
use Rattle.un_baseline.proofs.InDomains.{StepIn}
use Rattle.un_baseline.proofs.OpsIn.{placed_choices}
use Rattle.un_baseline.proofs.ValuesOk.{ValueOk, ValuesOk, values_operand}

-- ---- lists

pub zip_both : {A B : Type 0} (Q : A → B → Type 0) (xs : List A) (ys : List B) (j : ℕ) (x : A) (y : B) → AllZip Q xs ys
    → slice_get xs j ≡ Some x
    → slice_get ys j ≡ Some y → Q x y
zip_both Q [] ys j x y h at there = absurd (cc at)
zip_both Q (a ∷ xs) [] j x y h at there = absurd h
zip_both {A} {B} Q (a ∷ xs) (b ∷ ys) zero x y h at there =
    let e : a ≡ x = cc at in
    let f : b ≡ y = cc there in
    subst (λ (z : A). Q z y) e (subst (λ (z : B). Q a z) f h.0)
zip_both Q (a ∷ xs) (b ∷ ys) (suc j) x y h at there = zip_both Q xs ys j x y h.1 at there

pub zip_some : {A B : Type 0} (Q : A → B → Type 0) (P : A → Type 0) (xs : List A) (ys : List B) (j : ℕ) (x : A) → ((a : A) (b : B)
    → Q a b → P a)
    → AllZip Q xs ys → slice_get xs j ≡ Some x → P x
zip_some Q P [] ys j x f h at = absurd (cc at)
zip_some Q P (a ∷ xs) [] j x f h at = absurd h
zip_some Q P (a ∷ xs) (b ∷ ys) zero x f h at = let e : a ≡ x = cc at in subst P e (f a b h.0)
zip_some Q P (a ∷ xs) (b ∷ ys) (suc j) x f h at = zip_some Q P xs ys j x f h.1 at

-- ---- terminators

term_same_by : (kind : ExtKind) (operands : List Operand) (ops : List ExtOp) → (ending_of ops).term ≡ term_of ops
    → (ending_or kind operands (ending_of ops)).term ≡ term_or kind (term_of ops)
term_same_by (End term) operands ops h = refl
term_same_by In operands ops h = h
term_same_by Out operands ops h = h
term_same_by (Body o) operands ops h = h
term_same_by (Copy node) operands ops h = h
term_same_by Enter operands ops h = h
term_same_by Leave operands ops h = h

pub term_same : (ops : List ExtOp) → (ending_of ops).term ≡ term_of ops
term_same [] = refl
term_same (op ∷ ops) = term_same_by op.kind op.operands ops (term_same ops)

-- ---- alternatives

module _ (e : Ext) (o : Options) (entry : Bool) (block : ExtBlock) where
  abbrev s : Setting
  s = setting_of e entry block

  -- an operand may choose its value and the value's own copies
  pub record OperandHas (y : Operand) : Type 0 where
    pub sort : Sort
    pub size : 1 + copy_count sort ≤ length y.alts
    pub kind : kind_of_temp e.names e.blocks (temp (first_of y.alts)) ≡ Some sort.kind
    pub copied : sort.copied ≡ false → first_of y.alts < s.placed

  has_by : (v : Value) (y : Operand) → y.alts ≡ v.all → ValueOk e block s.placed v → OperandHas y
  has_by v y is h =
      let whole : y.alts ≡ (temp h.first ∷ h.more) ++ h.rest = is ∙ h.all ∙ ap (λ (xs : List TempId). xs ++ h.rest) h.own in
      let first : first_of y.alts ≡ h.first = ap first_of whole in
      let long : length y.alts ≡ length (v.own ++ h.rest) = ap (λ (xs : List TempId). length xs) (is ∙ h.all) in
      let size = h.size in
      let both = length-append v.own h.rest in
      record {
        sort = v.sort;
        size = omega arith;
        kind = ap (λ (k : ℕ). kind_of_temp e.names e.blocks (temp k)) first ∙ h.kind;
        copied = λ not. let lt = h.copied not in omega arith;
      }

  -- an operand has alternatives where its value is known
  abbrev pub MayHave : Operand → Type 0
  MayHave y = (y.alts ≡ []) ⊎ OperandHas y

  may_have : (v : Option Value) (y : Operand) → y.alts ≡ alternatives v → ((w : Value) → v ≡ Some w → ValueOk e block s.placed w)
      → MayHave y
  may_have None y is ok = inl is
  may_have (Some v) y is ok = inr (has_by v y is (ok v refl))

  abbrev pub ReadsFrom : ℕ → List Operand → Type 0
  ReadsFrom from [] = Unit {0}
  ReadsFrom from (x ∷ xs) = (from ≤ first_of x.alts) × ReadsFrom from xs

  pub news_have : (from : ℕ) (xs : List Operand) (g : Growth) → ValuesOk e block s.placed from g → ReadsFrom from xs
      → (j : ℕ) (y : Operand) → slice_get (new_operands xs g) j ≡ Some y → MayHave y
  news_have from [] g ok reads j y at = absurd (cc at)
  news_have from (x ∷ xs) g ok reads zero y at =
      let next = with_operand x g in
      let ok' = values_operand e block s.placed from x g ok in
      let same : record { alts = alternatives (slice_get next.values (first_of x.alts)); home = x.home } ≡ y = cc at in
      may_have (slice_get next.values (first_of x.alts)) y (ap (λ (z : Operand). z.alts) (sym same)) (λ w is. ok'.at (first_of x.alts) w
      reads.0 is)
  news_have from (x ∷ xs) g ok reads (suc j) y at =
      news_have from xs (with_operand x g) (values_operand e block s.placed from x g ok) reads.1 j y at

  -- ---- places

  copies_same : (kind : Kind) (copied : Bool) → copied ≡ true → copy_count_by kind copied ≡ copies_of kind
  copies_same General true h = refl
  copies_same Pred true h = refl
  copies_same kind false h = absurd (cc h)

  is_copied : (y : Operand) (h : OperandHas y) (v : Bool) → h.sort.copied ≡ v → is_placed s y.alts ≡ false → v ≡ true
  is_copied y h true is not = refl
  is_copied y h false is not =
      let lt = h.copied is in
      let z : nat_lt (first_of y.alts) s.placed ≡ true = grind (arith, nat_tests) in
      absurd (let f = sym not ∙ z in cc f)

  copies_there : (y : Operand) (h : OperandHas y) → is_placed s y.alts ≡ false → 1 + copies_of h.sort.kind ≤ length y.alts
  copies_there y h not =
      let same = copies_same h.sort.kind h.sort.copied (is_copied y h h.sort.copied refl not) in
      let size = h.size in
      omega arith

  one_copy : (kind : Kind) → 1 ≤ copies_of kind
  one_copy General = omega arith
  one_copy Pred = omega arith

  handed_in : (count j : ℕ) (y : Operand) (h : OperandHas y) (name : Option NameId)
      → IfSome name (λ (n : NameId). h.sort.kind ≡ name_kind e.names n)
      → handed_place e.names s count j y name ≤ length y.alts - 1
  handed_in count j y h (Some name) kind = by (is_placed s y.alts) refl
    where
      by : (b : Bool) → is_placed s y.alts ≡ b → (if b then 0 else copies_of (name_kind e.names name)) ≤ length y.alts - 1
      by true is = omega arith
      by false is =
          let n = copies_there y h is in
          let same : copies_of h.sort.kind ≡ copies_of (name_kind e.names name) = ap copies_of kind in
          omega arith
  handed_in count j y h None kind = by (is_placed s y.alts) refl (j + 1 == count)
    where
      by : (b : Bool) → is_placed s y.alts ≡ b → (c : Bool) → (if b then 0 else if c then 1 else 0) ≤ length y.alts - 1
      by true is c = omega arith
      by false is true =
          let n = copies_there y h is in
          let one = one_copy h.sort.kind in
          omega arith
      by false is false = omega arith

  module _ (ys : List Operand) (before : List TempId)
      (has : (j : ℕ) (y : Operand) → slice_get ys j ≡ Some y → MayHave y)
      (good : AllZip (IsGoodOperand e.names e.blocks before) ys (wants_of_out e.table e.names block.live_out s.term)) where
    surely : (j : ℕ) (y : Operand) → slice_get ys j ≡ Some y → OperandHas y
    surely j y at =
        ⊎_elim (λ (none : y.alts ≡ []).
        let some = zip_some (IsGoodOperand e.names e.blocks before) (λ (z : Operand). 0 < length z.alts) ys (wants_of_out e.table e.names
        block.live_out s.term) j y (λ a b g. g.chooses) good at in
        let empty : length y.alts ≡ 0 = ap (λ (xs : List TempId). length xs) none in
        absurd (omega arith))
        (λ (h : OperandHas y). h) (has j y at)

    -- what goes on has the kind of its name
    named_by : (wants : List Want) → AllZip (IsGoodOperand e.names e.blocks before) ys wants
        → ((j : ℕ) (n : NameId) → slice_get block.live_out j ≡ Some n → slice_get wants j ≡ Some (anywhere (name_kind e.names n)))
        → (j : ℕ) (y : Operand) (h : OperandHas y) → slice_get ys j ≡ Some y → (name : Option NameId) → slice_get block.live_out j ≡ name
        → IfSome name (λ (n : NameId). h.sort.kind ≡ name_kind e.names n)
    named_by wants zip at_wants j y h at None is = tt
    named_by wants zip at_wants j y h at (Some n) is =
        let g = zip_both (IsGoodOperand e.names e.blocks before) ys wants j y (anywhere (name_kind e.names n)) zip at (at_wants j n is) in
        let same : Some h.sort.kind ≡ Some (name_kind e.names n) = sym h.kind ∙ g.kind in
        cc same

    wants_named : (j : ℕ) (n : NameId) → slice_get block.live_out j ≡ Some n
        → slice_get (map (λ (name : NameId). anywhere (name_kind e.names name)) block.live_out ++ map (λ (r : ℕ). anywhere General)
        (saved_registers e.table)) j
        ≡ Some (anywhere (name_kind e.names n))
    wants_named j n is =
        got_left (map (λ (name : NameId). anywhere (name_kind e.names name)) block.live_out) (map (λ (r : ℕ). anywhere General)
        (saved_registers e.table)) j
        (anywhere (name_kind e.names n))
        (slice_get-map (λ (name : NameId). anywhere (name_kind e.names name)) block.live_out j ∙ ap (option_map (λ (name : NameId). anywhere
        (name_kind e.names name))) is)

    place_in : (term : Term) → s.term ≡ term → (count j : ℕ) (y : Operand) → slice_get ys j ≡ Some y
        → out_place e.names block.live_out s count term j y ≤ length y.alts - 1
    place_in (Ret (Some name)) is count j y at = by (j == 0)
      where
        by : (b : Bool) → (if b then last_place y.alts else 0) ≤ length y.alts - 1
        by true = omega arith
        by false = omega arith
    place_in (Ret None) is count j y at = omega arith
    place_in Fall is count j y at =
        let h = surely j y at in
        let zip = subst (λ (t : Term). AllZip (IsGoodOperand e.names e.blocks before) ys (wants_of_out e.table e.names block.live_out t))
        is good in
        handed_in count j y h (slice_get block.live_out j) (named_by (wants_of_out e.table e.names block.live_out Fall) zip wants_named j
        y h at
        (slice_get block.live_out j) refl)
    place_in (Jump to) is count j y at =
        let h = surely j y at in
        let zip = subst (λ (t : Term). AllZip (IsGoodOperand e.names e.blocks before) ys (wants_of_out e.table e.names block.live_out t))
        is good in
        handed_in count j y h (slice_get block.live_out j) (named_by (wants_of_out e.table e.names block.live_out (Jump to)) zip
        wants_named j y h at
        (slice_get block.live_out j) refl)
    place_in (Branch pred sense to) is count j y at =
        let h = surely j y at in
        let zip = subst (λ (t : Term). AllZip (IsGoodOperand e.names e.blocks before) ys (wants_of_out e.table e.names block.live_out t))
        is good in
        handed_in count j y h (slice_get block.live_out j) (named_by (wants_of_out e.table e.names block.live_out (Branch pred sense to))
        zip
        wants_named j y h at (slice_get block.live_out j) refl)

    pub out_in : (p : Progress) (purpose : Purpose) → (let op : ExtOp = record { kind = Out; operands = ys; results = [] } in
        StepIn e o entry block op (step_of e block s p purpose op Out))
    out_in p purpose = record {
      instr = tt;
      choices = placed_choices (out_place e.names block.live_out s (length ys) s.term) 0 ys (λ j y at.
          let z : j ≡ 0 + j = omega arith in
          subst (λ (k : ℕ). out_place e.names block.live_out s (length ys) s.term k y ≤ length y.alts - 1) z
          (place_in s.term refl (length ys) j y at));
      registers = tt;
    }
