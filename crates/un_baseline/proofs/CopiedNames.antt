-- The values of names have copies.
use Rattle.std.proofs.Common.{◌≡◌, ◌⊎◌, inl, inr, ⊎_elim, ℕ, zero, suc, ◌+◌, ◌<◌, ◌≤◌, Bool, true, List, [], ◌∷◌, ◌++◌, length, map}
use Rattle.std.proofs.Common.{replicate, Option, Some, None, refl, sym, ap, subst, ◌∙◌, arith}
use Rattle.std.specs.Prelude.{slice_get, slice_set, slice_index}
use Rattle.std.specs.List.{AllZip}
use Rattle.std.proofs.lemmas.Option.{slice_get_within}
use Rattle.un_base.specs.declared.ids.NameId.{NameId}
use Rattle.un_base.specs.declared.ids.TempId.{TempId}
use Rattle.un_ir.specs.declared.function.Kind.{Kind}
use Rattle.un_ir.specs.declared.extended.Operand.{Operand}
use Rattle.un_ir.specs.declared.extended.ExtBlock.{ExtBlock}
use Rattle.un_ir.specs.declared.extended.Ext.{Ext}
use Rattle.un_ir.specs.declared.extended.Growth.{Growth}
use Rattle.un_ir.specs.declared.extended.Sort.{Sort}
use Rattle.un_ir.specs.declared.extended.Value.{Value}
use Rattle.un_ir.specs.Extended.{temp, kind_of_temp, Want, IsGoodOperand}
use Rattle.un_ir.specs.Linear.{first_of}
use Rattle.un_ir.specs.LinearOf.{assigned, first_temps}
use Rattle.un_ir.specs.ExtendOf.{copy_count, new_temps, alternatives, value_of, with_value, with_values, with_operand_by, with_operand}
use Rattle.un_ir.specs.ExtendOf.{with_operands, new_operands}
use Rattle.un_model.specs.declared.model.Options.{Options}
use Rattle.un_baseline.specs.declared.plan.Setting.{Setting}
use Rattle.un_baseline.specs.SpillEverywhere.{setting_of}
use Rattle.un_baseline.proofs.OutsIn.{ReadsFrom}
use Rattle.un_baseline.proofs.Reaching.{Copied, AreCopied}
use Rattle.un_baseline.proofs.ValuesOk.{ValuesOk, push_cases, set_cases, values_operand}

-- value i, where it is one of those from n on, has copies
abbrev pub CopiedAt : ℕ → Growth → ℕ → Type 0
CopiedAt n g i = n ≤ i → (v : Value) → slice_get g.values i ≡ Some v → v.sort.copied ≡ true

copied_by : (n i x : ℕ) (o : Option Value) (g : Growth) → slice_get g.values x ≡ o → CopiedAt n g i → CopiedAt n (with_operand_by x o g) i
copied_by n i x None g at h le w is = h le w is
copied_by n i x (Some v) g at h le w is =
    ⊎_elim (λ (a : (i ≡ x) × (record v { all = v.all ++ new_temps g (copy_count v.sort) } ≡ w)).
    ap (λ (u : Value). u.sort.copied) (sym a.1) ∙ h le v (ap (slice_get g.values) a.0 ∙ at))
    (λ (a : slice_get g.values i ≡ Some w). h le w a)
    (set_cases g.values x (record v { all = v.all ++ new_temps g (copy_count v.sort) }) i w is)

pub copied_operand : (n i : ℕ) (x : Operand) (g : Growth) → CopiedAt n g i → CopiedAt n (with_operand x g) i
copied_operand n i x g h = copied_by n i (first_of x.alts) (slice_get g.values (first_of x.alts)) g refl h

pub copied_operands : (n i : ℕ) (xs : List Operand) (g : Growth) → CopiedAt n g i → CopiedAt n (with_operands xs g) i
copied_operands n i [] g h = h
copied_operands n i (x ∷ xs) g h = copied_operands n i xs (with_operand x g) (copied_operand n i x g h)

pub copied_value : (n i m : ℕ) (sort : Sort) (g : Growth) → sort.copied ≡ true → CopiedAt n g i → CopiedAt n (with_value m sort g) i
copied_value n i m sort g copied h le w is =
    ⊎_elim (λ (a : slice_get g.values i ≡ Some w). h le w a)
    (λ (a : (i ≡ length g.values) × (value_of m sort g ≡ w)). ap (λ (u : Value). u.sort.copied) (sym a.1) ∙ copied)
    (push_cases g.values (value_of m sort g) i w is)

pub copied_row : (n i m count : ℕ) (sort : Sort) (g : Growth) → sort.copied ≡ true → CopiedAt n g i
    → CopiedAt n (with_values m (replicate count sort) g) i
copied_row n i m zero sort g copied h = h
copied_row n i m (suc count) sort g copied h = copied_row n i (m + 1) count sort (with_value m sort g) copied (copied_value n i m sort g
    copied h)

-- no value is there yet
pub copied_past : (n i : ℕ) (g : Growth) → length g.values ≤ i → CopiedAt n g i
copied_past n i g past le v is = absurd (let lt = slice_get_within g.values i v is in omega arith)

-- ---- the temporaries of names

pub record NamesCopied (n : ℕ) (current : List ℕ) (g : Growth) : Type 0 where
  pub at : (k : ℕ) → CopiedAt n g (slice_index current k)

set_index : (xs : List ℕ) (m y k : ℕ) → (slice_index (slice_set xs m y) k ≡ y) ⊎ (slice_index (slice_set xs m y) k ≡ slice_index xs k)
set_index [] m y k = inr refl
set_index (x ∷ xs) zero y zero = inl refl
set_index (x ∷ xs) zero y (suc k) = inr refl
set_index (x ∷ xs) (suc m) y zero = inr refl
set_index (x ∷ xs) (suc m) y (suc k) = set_index xs m y k

pub names_assigned : (n : ℕ) (current : List ℕ) (dst : Option NameId) (first : ℕ) (g : Growth) → NamesCopied n current g
    → CopiedAt n g first
    → NamesCopied n (assigned current dst first) g
names_assigned n current None first g h here = h
names_assigned n current (Some name) first g h here = record {
  at = λ k. ⊎_elim (λ (e : slice_index (slice_set current name.0 first) k ≡ first). subst (CopiedAt n g) (sym e) here)
      (λ (e : slice_index (slice_set current name.0 first) k ≡ slice_index current k). subst (CopiedAt n g) (sym e) (h.at k))
      (set_index current name.0 first k);
}

pub names_first : (n : ℕ) (current : List ℕ) (m : ℕ) (live_in : List NameId) (g : Growth) → NamesCopied n current g
    → ((j : ℕ) → j < length live_in → CopiedAt n g (m + j)) → NamesCopied n (first_temps current m live_in) g
names_first n current m [] g h each = h
names_first n current m (name ∷ live_in) g h each =
    let z : m + 0 ≡ m = omega arith in
    names_first n (assigned current (Some name) m) (m + 1) live_in g (names_assigned n current (Some name) m g h (subst (CopiedAt n g) z
    (each 0
    (omega arith))))
    (λ j lt. let q : m + suc j ≡ m + 1 + j = omega arith in subst (CopiedAt n g) q (each (suc j) (omega arith)))

zeros_index : (count k : ℕ) → slice_index (replicate count 0) k ≡ 0
zeros_index zero k = refl
zeros_index (suc count) zero = refl
zeros_index (suc count) (suc k) = zeros_index count k

pub names_none : (n count : ℕ) (g : Growth) → CopiedAt n g 0 → NamesCopied n (replicate count 0) g
names_none n count g h = record { at = λ k. subst (CopiedAt n g) (sym (zeros_index count k)) h }

-- ---- operands

abbrev pub kinds_wanted : List Want → List Kind
kinds_wanted ws = map (λ (w : Want). w.kind) ws

module _ (e : Ext) (o : Options) (entry : Bool) (block : ExtBlock) where
  abbrev s : Setting
  s = setting_of e entry block

  copied_here : (before : List TempId) (x : Operand) (g : Growth) (w : Want) (n : ℕ) → ValuesOk e block s.placed n g → n ≤ first_of x.alts
      → CopiedAt n g (first_of x.alts)
      → IsGoodOperand e.names e.blocks before (record {
        alts = alternatives (slice_get (with_operand x g).values (first_of x.alts));
        home
            = x.home;
      }) w
      → (v : Option Value) → slice_get g.values (first_of x.alts) ≡ v → (u : Option Value)
      → slice_get (with_operand x g).values (first_of x.alts) ≡ u → Copied e block s w.kind v
  copied_here before x g w n ok le copied good v at None now =
      absurd (let c = good.chooses in let z : length (alternatives (slice_get (with_operand x g).values (first_of x.alts))) ≡ 0 =
      ap (λ (y : Option Value). length (alternatives y)) now in omega arith)
  copied_here before x g w n ok le copied good None at (Some u) now =
      let same : with_operand x g ≡ g = ap (λ (y : Option Value). with_operand_by (first_of x.alts) y g) at in
      let z : None ≡ Some u = sym at ∙ ap (λ (h : Growth). slice_get h.values (first_of x.alts)) (sym same) ∙ now in
      absurd (cc z)
  copied_here before x g w n ok le copied good (Some v) at (Some u) now =
      let next = values_operand e block s.placed n x g ok in
      let here = ok.at (first_of x.alts) v le at in
      let after = next.at (first_of x.alts) u le now in
      let alts : alternatives (slice_get (with_operand x g).values (first_of x.alts)) ≡ (temp after.first ∷ after.more) ++ after.rest =
      ap alternatives now ∙ after.all ∙ ap (λ (xs : List TempId). xs ++ after.rest) after.own in
      let first : first_of (alternatives (slice_get (with_operand x g).values (first_of x.alts))) ≡ after.first = ap first_of alts in
      let kinds : Some u.sort.kind ≡ Some w.kind = sym after.kind ∙ ap (λ (k : ℕ). kind_of_temp e.names e.blocks (temp k)) (sym first) ∙
      good.kind in
      let sorts : u.sort ≡ v.sort = sort_kept v u at now in
      record {
        value = v;
        is = refl;
        kind_is = ap (λ (t : Sort). t.kind) (sym sorts) ∙ (let k : u.sort.kind ≡ w.kind = cc kinds in k);
        copied = copied le v at;
      }
    where
      sort_kept : (v u : Value) → slice_get g.values (first_of x.alts) ≡ Some v
          → slice_get (with_operand x g).values (first_of x.alts) ≡ Some u
          → u.sort ≡ v.sort
      sort_kept v u at now =
          let new : Value = record v { all = v.all ++ new_temps g (copy_count v.sort) } in
          let there : slice_get (slice_set g.values (first_of x.alts) new) (first_of x.alts) ≡ Some u =
          ap (λ (y : Option Value). slice_get (with_operand_by (first_of x.alts) y g).values (first_of x.alts)) (sym at) ∙ now in
          ⊎_elim (λ (a : (first_of x.alts ≡ first_of x.alts) × (new ≡ u)). ap (λ (t : Value). t.sort) (sym a.1))
          (λ (a : slice_get g.values (first_of x.alts) ≡ Some u). let same : Some v ≡ Some u = sym at ∙ a in
          let is : v ≡ u = cc same in ap (λ (t : Value). t.sort) (sym is))
          (set_cases g.values (first_of x.alts) new (first_of x.alts) u there)

  pub operands_copied : (before : List TempId) (n : ℕ) (xs : List Operand) (ws : List Want) (g : Growth) → ValuesOk e block s.placed n g
      → ReadsFrom e o entry block n xs → ((j : ℕ) (x : Operand) → slice_get xs j ≡ Some x → CopiedAt n g (first_of x.alts))
      → AllZip (IsGoodOperand e.names e.blocks before) (new_operands xs g) ws → AreCopied e block s xs (kinds_wanted ws) g
  operands_copied before n [] [] g ok reads copied zip = tt
  operands_copied before n [] (w ∷ ws) g ok reads copied zip = absurd zip
  operands_copied before n (x ∷ xs) [] g ok reads copied zip = absurd zip
  operands_copied before n (x ∷ xs) (w ∷ ws) g ok reads copied zip = (
    copied_here before x g w n ok reads.0 (copied 0 x refl) zip.0 (slice_get g.values (first_of x.alts)) refl (slice_get (with_operand x
        g).values
        (first_of x.alts)) refl,
    operands_copied before n xs ws (with_operand x g) (values_operand e block s.placed n x g ok) reads.1
        (λ j y at. copied_operand n (first_of y.alts) x g (copied (suc j) y at)) zip.1,
  )
