-- What a growth knows of a value: its own temporaries, and which alternatives operands have that read it.
use Rattle.std.proofs.Common.{◌≡◌, ◌≢◌, ℕ, zero, suc, ◌+◌, ◌-◌, ◌<◌, ◌≤◌, nat_eq, Bool, true, false, List, [], ◌∷◌, ◌++◌, length, set}
use Rattle.std.proofs.Common.{Option, Some, None, refl, sym, ap, ◌∙◌, append_assoc, length-set, arith}
use Rattle.std.specs.Prelude.{slice_get, slice_set, unwrap_or}
use Rattle.std.proofs.lemmas.Bool.{eqb-true}
use Rattle.std.proofs.lemmas.List.{length-append}
use Rattle.std.proofs.lemmas.Option.{slice_get_within}
use Rattle.un_base.specs.declared.ids.TempId.{TempId}
use Rattle.un_ir.specs.declared.function.Kind.TheVariants.{General, Pred}
use Rattle.un_ir.specs.declared.extended.Operand.{Operand}
use Rattle.un_ir.specs.declared.extended.Growth.{Growth}
use Rattle.un_ir.specs.declared.extended.Value.{Value}
use Rattle.un_ir.specs.declared.extended.Sort.{Sort}
use Rattle.un_ir.specs.Extended.{temp}
use Rattle.un_ir.specs.Linear.{first_of}
use Rattle.un_ir.specs.ExtendOf.{copy_count, new_temps, own_temps, value_of, with_value, with_values, with_operand_by, with_operand}
use Rattle.un_ir.specs.ExtendOf.{with_operands, alternatives, chosen_from}
use Rattle.un_model.specs.Schedules.{chosen}
use Rattle.un_baseline.specs.SpillEverywhere.{last_place}
use Rattle.un_baseline.proofs.Grown.{operand_next_by}
use Rattle.un_baseline.proofs.Items.{get_left, there_last, there_left, append_nil}

set_same : {X : Type 0} (xs : List X) (i : ℕ) (y : X) → i < length xs → slice_get (set xs i y) i ≡ Some y
set_same [] i y h = absurd (omega arith)
set_same (x ∷ xs) zero y h = refl
set_same (x ∷ xs) (suc i) y h = set_same xs i y (omega arith)

set_other : {X : Type 0} (xs : List X) (i : ℕ) (y : X) (k : ℕ) → k ≢ i → slice_get (set xs i y) k ≡ slice_get xs k
set_other [] i y k ne = refl
set_other (x ∷ xs) zero y zero ne = absurd (ne refl)
set_other (x ∷ xs) zero y (suc k) ne = refl
set_other (x ∷ xs) (suc i) y zero ne = refl
set_other (x ∷ xs) (suc i) y (suc k) ne = set_other xs i y k (λ e. ne (ap suc e))

-- value x has these temporaries of its own, in front of all that carry it
pub record Carries (g : Growth) (x : ℕ) (own : List TempId) (sort : Sort) : Type 0 where
  pub value : Value
  pub at : slice_get g.values x ≡ Some value
  pub is_own : value.own ≡ own
  pub is_sort : value.sort ≡ sort
  pub more : List TempId
  pub all : value.all ≡ own ++ more

pub carries_same : (g g' : Growth) (x : ℕ) (own : List TempId) (sort : Sort) → g'.values ≡ g.values → Carries g x own sort
    → Carries g' x own sort
carries_same g g' x own sort same h = record {
  value = h.value;
  at = ap (λ (vs : List Value). slice_get vs x) same ∙ h.at;
  is_own = h.is_own;
  is_sort = h.is_sort;
  more = h.more;
  all = h.all;
}

pub carries_value : (n : ℕ) (sort' : Sort) (g : Growth) (x : ℕ) (own : List TempId) (sort : Sort) → Carries g x own sort
    → Carries (with_value n sort' g) x own sort
carries_value n sort' g x own sort h = record {
  value = h.value;
  at = get_left g.values (value_of n sort' g ∷ []) x h.value h.at;
  is_own = h.is_own;
  is_sort = h.is_sort;
  more = h.more;
  all = h.all;
}

pub carries_values : (n : ℕ) (sorts : List Sort) (g : Growth) (x : ℕ) (own : List TempId) (sort : Sort) → Carries g x own sort
    → Carries (with_values n sorts g) x own sort
carries_values n [] g x own sort h = h
carries_values n (sort' ∷ sorts) g x own sort h = carries_values (n + 1) sorts (with_value n sort' g) x own sort
    (carries_value n sort' g x own sort h)

pub carries_new : (n : ℕ) (sort : Sort) (g : Growth) → Carries (with_value n sort g) (length g.values) (own_temps n sort g) sort
carries_new n sort g = record {
  value = value_of n sort g;
  at = there_last g.values (value_of n sort g);
  is_own = refl;
  is_sort = refl;
  more = [];
  all = sym (append_nil (own_temps n sort g));
}

carries_by : (y : ℕ) (v : Option Value) (g : Growth) (x : ℕ) (own : List TempId) (sort : Sort) → slice_get g.values y ≡ v
    → Carries g x own sort
    → Carries (with_operand_by y v g) x own sort
carries_by y None g x own sort e h = h
carries_by y (Some v) g x own sort e h = by (nat_eq x y) refl
  where
    new : Value
    new = record v { all = v.all ++ new_temps g (copy_count v.sort) }

    by : (t : Bool) → nat_eq x y ≡ t → Carries (with_operand_by y (Some v) g) x own sort
    by true t =
        let same : x ≡ y = eqb-true x y t in
        let is : h.value ≡ v = (let f : Some h.value ≡ Some v = sym h.at ∙ ap (slice_get g.values) same ∙ e in cc f) in
        record {
          value = new;
          at = ap (slice_get (slice_set g.values y new)) same ∙ set_same g.values y new (slice_get_within g.values y v e);
          is_own = ap (λ (u : Value). u.own) (sym is) ∙ h.is_own;
          is_sort = ap (λ (u : Value). u.sort) (sym is) ∙ h.is_sort;
          more = h.more ++ new_temps g (copy_count v.sort);
          all = ap (λ (xs : List TempId). xs ++ new_temps g (copy_count v.sort)) (ap (λ (u : Value). u.all) (sym is) ∙ h.all)
              ∙ append_assoc own h.more (new_temps g (copy_count v.sort));
        }
    by false t =
        let other : x ≢ y = λ same. (let yes : nat_eq x y ≡ true = rw same (grind arith) in cc (sym t ∙ yes)) in
        record {
          value = h.value;
          at = set_other g.values y new x other ∙ h.at;
          is_own = h.is_own;
          is_sort = h.is_sort;
          more = h.more;
          all = h.all;
        }

pub carries_operand : (y : Operand) (g : Growth) (x : ℕ) (own : List TempId) (sort : Sort) → Carries g x own sort
    → Carries (with_operand y g) x own sort
carries_operand y g x own sort h = carries_by (first_of y.alts) (slice_get g.values (first_of y.alts)) g x own sort refl h

pub carries_operands : (ys : List Operand) (g : Growth) (x : ℕ) (own : List TempId) (sort : Sort) → Carries g x own sort
    → Carries (with_operands ys g) x own sort
carries_operands [] g x own sort h = h
carries_operands (y ∷ ys) g x own sort h = carries_operands ys (with_operand y g) x own sort (carries_operand y g x own sort h)

-- operands add no values, and temporaries come behind those that are
pub record Onward (g g' : Growth) : Type 0 where
  pub values : length g'.values ≡ length g.values
  pub next : g.next ≤ g'.next

onward_by : (y : ℕ) (v : Option Value) (g : Growth) → Onward g (with_operand_by y v g)
onward_by y None g = record { values = refl; next = omega arith }
onward_by y (Some v) g = record { values = length-set g.values y _; next = let n = operand_next_by y v g in omega arith }

pub operands_onward : (ys : List Operand) (g : Growth) → Onward g (with_operands ys g)
operands_onward [] g = record { values = refl; next = omega arith }
operands_onward (y ∷ ys) g =
    let here = onward_by (first_of y.alts) (slice_get g.values (first_of y.alts)) g in
    let rest = operands_onward ys (with_operand y g) in
    record { values = rest.values ∙ here.values; next = (let a = here.next in let b = rest.next in omega arith) }

-- ---- alternatives

pub chosen_last : (xs : List TempId) (y : TempId) → chosen (xs ++ y ∷ []) (last_place (xs ++ y ∷ [])) ≡ y
chosen_last xs y =
    let n : length (xs ++ y ∷ []) - 1 ≡ length xs = (let l = length-append xs (y ∷ []) in omega arith) in
    ap (chosen (xs ++ y ∷ [])) n ∙ ap (λ (o : Option TempId). unwrap_or o (record { 0 = 0 })) (there_last xs y)

chosen_left : (xs ys : List TempId) (i : ℕ) → i < length xs → chosen (xs ++ ys) i ≡ chosen xs i
chosen_left xs ys i lt = ap (λ (o : Option TempId). unwrap_or o (record { 0 = 0 })) (there_left xs ys i lt)

-- an operand may choose the value's own temporaries at their places
pub chosen_own : (y : Operand) (g : Growth) (own : List TempId) (sort : Sort) (i : ℕ) → Carries g (first_of y.alts) own sort
    → i < length own
    → chosen (chosen_from y (with_operand y g)).alts i ≡ chosen own i
chosen_own y g own sort i h lt =
    let k = carries_operand y g (first_of y.alts) own sort h in
    ap (λ (v : Option Value). chosen (alternatives v) i) k.at ∙ ap (λ (xs : List TempId). chosen xs i) k.all ∙ chosen_left own k.more i lt

-- those that an operand may choose end with its copies
alts_end : (y : Operand) (g : Growth) (own : List TempId) (sort : Sort) (h : Carries g (first_of y.alts) own sort)
    → (chosen_from y (with_operand y g)).alts ≡ h.value.all ++ new_temps g (copy_count sort)
alts_end y g own sort h =
    let x = first_of y.alts in
    let new : Value = record h.value { all = h.value.all ++ new_temps g (copy_count h.value.sort) } in
    ap (λ (v : Option Value). alternatives (slice_get (with_operand_by x v g).values x)) h.at
    ∙ ap alternatives (set_same g.values x new (slice_get_within g.values x h.value h.at))
    ∙ ap (λ (s : Sort). h.value.all ++ new_temps g (copy_count s)) h.is_sort

pub arrived_general : (y : Operand) (g : Growth) (own : List TempId) → Carries g (first_of y.alts) own
    (record { kind = General; copied = true })
    → (let alts = (chosen_from y (with_operand y g)).alts in chosen alts (last_place alts)) ≡ temp g.next
arrived_general y g own h =
    ap (λ (alts : List TempId). chosen alts (last_place alts)) (alts_end y g own (record { kind = General; copied = true }) h)
    ∙ chosen_last h.value.all (temp g.next)

pub arrived_pred : (y : Operand) (g : Growth) (own : List TempId) → Carries g (first_of y.alts) own (record { kind = Pred; copied = true })
    → (let alts = (chosen_from y (with_operand y g)).alts in chosen alts (last_place alts)) ≡ temp (g.next + 1)
arrived_pred y g own h =
    ap (λ (alts : List TempId). chosen alts (last_place alts)) (alts_end y g own (record { kind = Pred; copied = true }) h
    ∙ sym (append_assoc h.value.all (temp g.next ∷ []) (temp (g.next + 1) ∷ [])))
    ∙ chosen_last (h.value.all ++ temp g.next ∷ []) (temp (g.next + 1))
