-- What is known of the values of a block while its extended function grows.
use Rattle.std.proofs.Common.{◌≡◌, ◌⊎◌, inl, inr, ⊎_elim, ℕ, zero, suc, ◌+◌, ◌<◌, ◌≤◌, true, false, List, [], ◌∷◌, ◌++◌, length, set}
use Rattle.std.proofs.Common.{Option, Some, None, refl, sym, ap, subst, ◌∙◌, append_assoc, append-nil, arith}
use Rattle.std.specs.Prelude.{slice_get}
use Rattle.std.proofs.lemmas.List.FromFn.{length-map-range_with_len}
use Rattle.un_base.specs.declared.ids.TempId.{TempId}
use Rattle.un_ir.specs.declared.function.Kind.TheVariants.{Pred}
use Rattle.un_ir.specs.declared.extended.Operand.{Operand}
use Rattle.un_ir.specs.declared.extended.ExtBlock.{ExtBlock}
use Rattle.un_ir.specs.declared.extended.Ext.{Ext}
use Rattle.un_ir.specs.declared.extended.Growth.{Growth}
use Rattle.un_ir.specs.declared.extended.Sort.{Sort}
use Rattle.un_ir.specs.declared.extended.Value.{Value}
use Rattle.un_ir.specs.Extended.{temp, kind_of_temp}
use Rattle.un_ir.specs.Linear.{first_of}
use Rattle.un_ir.specs.ExtendOf.{copy_count, new_temps, own_temps, value_of, with_value, with_values, with_operand_by, with_operand}
use Rattle.un_ir.specs.ExtendOf.{with_operands}
use Rattle.un_model.specs.Registers.{is_truth}

pub push_cases : {A : Type 0} (xs : List A) (x : A) (k : ℕ) (w : A) → slice_get (xs ++ x ∷ []) k ≡ Some w
    → (slice_get xs k ≡ Some w) ⊎ ((k ≡ length xs) × (x ≡ w))
push_cases [] x zero w h = inr (refl, (let e : x ≡ w = cc h in e))
push_cases [] x (suc k) w h = absurd (cc h)
push_cases (y ∷ xs) x zero w h = inl h
push_cases (y ∷ xs) x (suc k) w h = ⊎_elim (λ (a : slice_get xs k ≡ Some w). inl a) (λ (a : (k ≡ length xs) × (x ≡ w)). inr (
  ap suc a.0,
  a.1,
))
    (push_cases xs x k w h)

pub set_cases : {A : Type 0} (xs : List A) (i : ℕ) (y : A) (k : ℕ) (w : A) → slice_get (set xs i y) k ≡ Some w
    → ((k ≡ i) × (y ≡ w)) ⊎ (slice_get xs k ≡ Some w)
set_cases [] i y k w h = absurd (cc h)
set_cases (x ∷ xs) zero y zero w h = inl (refl, (let e : y ≡ w = cc h in e))
set_cases (x ∷ xs) zero y (suc k) w h = inr h
set_cases (x ∷ xs) (suc i) y zero w h = inr h
set_cases (x ∷ xs) (suc i) y (suc k) w h = ⊎_elim (λ (a : (k ≡ i) × (y ≡ w)). inl (ap suc a.0, a.1)) (λ (a : slice_get xs k ≡ Some w).
    inr a)
    (set_cases xs i y k w h)

module _ (e : Ext) (block : ExtBlock) (placed : ℕ) where
  -- a value of the block: its own temporaries stand in front of all that carry it, and its sort is that of its first one
  pub record ValueOk (v : Value) : Type 0 where
    pub first : ℕ
    pub more : List TempId
    pub own : v.own ≡ temp first ∷ more
    pub rest : List TempId
    pub all : v.all ≡ v.own ++ rest
    pub size : length v.own ≡ 1 + copy_count v.sort
    pub kind : kind_of_temp e.names e.blocks (temp first) ≡ Some v.sort.kind
    pub truth : v.sort.kind ≡ Pred → is_truth e.names block (temp first) ≡ true
    pub copied : v.sort.copied ≡ false → first < placed

  -- those with numbers from `from` on are the block's
  pub record ValuesOk (from : ℕ) (g : Growth) : Type 0 where
    pub at : (i : ℕ) (v : Value) → from ≤ i → slice_get g.values i ≡ Some v → ValueOk v

  pub values_same : (from : ℕ) (g g' : Growth) → g'.values ≡ g.values → ValuesOk from g → ValuesOk from g'
  values_same from g g' same h = record { at = λ i v le is. h.at i v le (ap (λ (vs : List Value). slice_get vs i) (sym same) ∙ is) }

  more_read : (v : Value) (ys : List TempId) → ValueOk v → ValueOk (record v { all = v.all ++ ys })
  more_read v ys h = record {
    first = h.first;
    more = h.more;
    own = h.own;
    rest = h.rest ++ ys;
    all = ap (λ (xs : List TempId). xs ++ ys) h.all ∙ append_assoc v.own h.rest ys;
    size = h.size;
    kind = h.kind;
    truth = h.truth;
    copied = h.copied;
  }

  read_by : (from x : ℕ) (o : Option Value) (g : Growth) → slice_get g.values x ≡ o → ValuesOk from g
      → ValuesOk from (with_operand_by x o g)
  read_by from x None g at h = h
  read_by from x (Some v) g at h =
      let ys = new_temps g (copy_count v.sort) in
      let new : Value = record v { all = v.all ++ ys } in
      record {
        at = λ i w le is.
            ⊎_elim (λ (a : (i ≡ x) × (new ≡ w)). subst ValueOk a.1 (more_read v ys (h.at i v le (ap (slice_get g.values) a.0 ∙ at))))
            (λ (a : slice_get g.values i ≡ Some w). h.at i w le a)
            (set_cases g.values x new i w is);
      }

  pub values_operand : (from : ℕ) (x : Operand) (g : Growth) → ValuesOk from g → ValuesOk from (with_operand x g)
  values_operand from x g h = read_by from (first_of x.alts) (slice_get g.values (first_of x.alts)) g refl h

  pub values_operands : (from : ℕ) (xs : List Operand) (g : Growth) → ValuesOk from g → ValuesOk from (with_operands xs g)
  values_operands from [] g h = h
  values_operands from (x ∷ xs) g h = values_operands from xs (with_operand x g) (values_operand from x g h)

  -- a new value of this sort, with temporary n
  pub record SortOk (n : ℕ) (sort : Sort) : Type 0 where
    pub kind : kind_of_temp e.names e.blocks (temp n) ≡ Some sort.kind
    pub truth : sort.kind ≡ Pred → is_truth e.names block (temp n) ≡ true
    pub copied : sort.copied ≡ false → n < placed

  new_ok : (n : ℕ) (sort : Sort) (g : Growth) → SortOk n sort → ValueOk (value_of n sort g)
  new_ok n sort g h = record {
    first = n;
    more = new_temps g (copy_count sort);
    own = refl;
    rest = [];
    all = sym (append-nil (own_temps n sort g));
    size = (let l = length-map-range_with_len temp g.next (copy_count sort) in omega arith);
    kind = h.kind;
    truth = h.truth;
    copied = h.copied;
  }

  values_one : (from n : ℕ) (sort : Sort) (g : Growth) → SortOk n sort → ValuesOk from g → ValuesOk from (with_value n sort g)
  values_one from n sort g new h = record {
    at = λ i w le is.
        ⊎_elim (λ (a : slice_get g.values i ≡ Some w). h.at i w le a)
        (λ (a : (i ≡ length g.values) × (value_of n sort g ≡ w)). subst ValueOk a.1 (new_ok n sort g new))
        (push_cases g.values (value_of n sort g) i w is);
  }

  abbrev pub SortsOk : ℕ → List Sort → Type 0
  SortsOk n [] = Unit {0}
  SortsOk n (sort ∷ sorts) = SortOk n sort × SortsOk (n + 1) sorts

  pub values_new : (from n : ℕ) (sorts : List Sort) (g : Growth) → SortsOk n sorts → ValuesOk from g → ValuesOk from (with_values n sorts g)
  values_new from n [] g new h = h
  values_new from n (sort ∷ sorts) g new h = values_new from (n + 1) sorts (with_value n sort g) new.1 (values_one from n sort g new.0 h)
