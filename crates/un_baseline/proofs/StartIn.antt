-- The start of a block makes values that are known, and lies in its domains.
use Rattle.std.proofs.Common.{◌≡◌, ℕ, zero, suc, ◌+◌, ◌-◌, ◌<◌, ◌≤◌, Bool, true, false, List, [], ◌∷◌, ◌++◌, length, map, replicate, Option}
use Rattle.std.proofs.Common.{Some, None, All, Contains, refl, sym, ap, subst, ◌∙◌, append_assoc, arith}
use Rattle.std.specs.Prelude.{if◌then◌else◌, slice_get, unwrap_or}
use Rattle.std.specs.List.{range_with_len}
use Rattle.std.specs.Option.{option_map}
use Rattle.std.proofs.lemmas.List.{length-append, length-map, length-replicate}
use Rattle.std.proofs.lemmas.List.FromFn.{length-map-range_with_len}
use Rattle.std.proofs.lemmas.Option.{slice_get_within}
use Rattle.un_base.specs.declared.ids.NameId.{NameId}
use Rattle.un_base.specs.declared.ids.TempId.{TempId}
use Rattle.un_isa.specs.Fit.{IsFit}
use Rattle.un_isa.specs.Registers.{callee_saved, saved_registers}
use Rattle.un_isa.specs.declared.reg.TheConstants.{LINK}
use Rattle.un_ir.specs.declared.function.Kind.{Kind}
use Rattle.un_ir.specs.declared.function.Kind.TheVariants.{General, Pred}
use Rattle.un_ir.specs.declared.extended.ExtKind.TheVariants.{In, Enter}
use Rattle.un_ir.specs.declared.extended.ExtOp.{ExtOp}
use Rattle.un_ir.specs.declared.extended.ExtBlock.{ExtBlock}
use Rattle.un_ir.specs.declared.extended.Ext.{Ext}
use Rattle.un_ir.specs.declared.extended.Growth.{Growth}
use Rattle.un_ir.specs.declared.extended.Sort.{Sort}
use Rattle.un_ir.specs.declared.extended.Value.{Value}
use Rattle.un_ir.specs.Extended.{temp, name_kind, in_kinds, IsExtended}
use Rattle.un_ir.specs.ExtendOf.{frame_op, sort_of_name, sorts_of, with_results, with_value, with_values, with_enter, with_extended}
use Rattle.un_ir.specs.ExtendOf.{value_of}
use Rattle.un_model.specs.declared.model.Options.{Options}
use Rattle.un_model.specs.Congruences.{live_in_temps}
use Rattle.un_model.specs.Registers.{is_pred, is_pred_name, is_home, reg_at, start_home}
use Rattle.un_baseline.specs.declared.plan.Definer.{Definer}
use Rattle.un_baseline.specs.declared.plan.Definer.TheVariants.{Start, Assigns, Other}
use Rattle.un_baseline.specs.declared.plan.Setting.{Setting}
use Rattle.un_baseline.specs.declared.plan.Progress.{Progress}
use Rattle.un_baseline.specs.RoomyOptions.{AreRoomy}
use Rattle.un_baseline.specs.SpillEverywhere.{first_number, purpose_at, progress_of, setting_of}
use Rattle.un_baseline.proofs.Grown.{values_ops, enter_ops, extended_ops}
use Rattle.un_baseline.proofs.OpsIn.{enter_in, start_in, start_home_in}
use Rattle.un_baseline.proofs.ValueKinds.{kind_defined}
use Rattle.un_baseline.proofs.ValuesOk.{ValuesOk, values_same, SortsOk, values_new}
use Rattle.un_baseline.proofs.WalkIn.{AreTruths, values_good}
use Rattle.un_baseline.proofs.BlockIn.{row_is, live, starts, sorts_at, truth_there, place_of, Walk, Inside}

-- ---- sorts of values at a block's start

abbrev pub saved_sort : Bool → Sort
saved_sort saved = record { kind = General; copied = saved }

abbrev start_sorts : List Kind → List NameId → Bool → ℕ → List Sort
start_sorts names live_in saved count = map (sort_of_name names) live_in ++ replicate count (saved_sort saved)

replicate_kind : (n m : ℕ) (x sort : Sort) → slice_get (replicate n x) m ≡ Some sort → sort ≡ x
replicate_kind zero m x sort at = absurd (cc at)
replicate_kind (suc n) zero x sort at = let e : x ≡ sort = cc at in sym e
replicate_kind (suc n) (suc m) x sort at = replicate_kind n m x sort at

kinds_at : (names : List Kind) (live_in : List NameId) (saved : Bool) (count m : ℕ) (sort : Sort)
    → slice_get (start_sorts names live_in saved count) m ≡ Some sort
    → slice_get (map (name_kind names) live_in ++ replicate count General) m ≡ Some sort.kind
kinds_at names [] saved zero m sort at = absurd (cc at)
kinds_at names [] saved (suc count) zero sort at = let e : saved_sort saved ≡ sort = cc at in ap (λ (t : Sort). Some t.kind) e
kinds_at names [] saved (suc count) (suc m) sort at = kinds_at names [] saved count m sort at
kinds_at names (name ∷ live_in) saved count zero sort at = let e : sort_of_name names name ≡ sort = cc at in ap (λ (t : Sort). Some
    t.kind) e
kinds_at names (name ∷ live_in) saved count (suc m) sort at = kinds_at names live_in saved count m sort at

pred_named : (kind : Option Kind) → unwrap_or kind General ≡ Pred → is_pred kind ≡ true
pred_named None h = absurd (cc h)
pred_named (Some General) h = absurd (cc h)
pred_named (Some Pred) h = refl

truth_at : (names : List Kind) (live_in : List NameId) (saved : Bool) (count m : ℕ) (sort : Sort)
    → slice_get (start_sorts names live_in saved count) m ≡ Some sort → sort.kind ≡ Pred → is_pred_name names (slice_get live_in m) ≡ true
truth_at names [] saved count m sort at pred =
    let e = replicate_kind count m (saved_sort saved) sort at in
    let z : General ≡ Pred = sym (ap (λ (t : Sort). t.kind) e) ∙ pred in
    absurd (cc z)
truth_at names (name ∷ live_in) saved count zero sort at pred =
    let e : sort_of_name names name ≡ sort = cc at in
    pred_named (slice_get names name.0) (ap (λ (t : Sort). t.kind) e ∙ pred)
truth_at names (name ∷ live_in) saved count (suc m) sort at pred = truth_at names live_in saved count m sort at pred

copied_at : (names : List Kind) (live_in : List NameId) (saved : Bool) (count m : ℕ) (sort : Sort)
    → slice_get (start_sorts names live_in saved count) m ≡ Some sort → sort.copied ≡ false → saved ≡ false
copied_at names [] saved count m sort at not = sym (ap (λ (t : Sort). t.copied) (replicate_kind count m (saved_sort saved) sort at)) ∙ not
copied_at names (name ∷ live_in) saved count zero sort at not =
    let e : sort_of_name names name ≡ sort = cc at in
    let z : true ≡ false = ap (λ (t : Sort). t.copied) e ∙ not in
    absurd (cc z)
copied_at names (name ∷ live_in) saved count (suc m) sort at not = copied_at names live_in saved count m sort at not

-- ---- the link register's value

got_there : {A : Type 0} (xs ys : List A) (i : ℕ) (x : A) → i < length xs → slice_get (xs ++ ys) i ≡ Some x → slice_get xs i ≡ Some x
got_there [] ys i x lt at = absurd (omega arith)
got_there (a ∷ xs) ys zero x lt at = at
got_there (a ∷ xs) ys (suc i) x lt at = got_there xs ys i x (omega arith) at

got_last : {A : Type 0} (xs : List A) (y x : A) → slice_get (xs ++ y ∷ []) (length xs) ≡ Some x → y ≡ x
got_last [] y x at = cc at
got_last (a ∷ xs) y x at = got_last xs y x at

-- value i has temporary n as its first one
pub record Begins (i n : ℕ) (g : Growth) : Type 0 where
  pub within : i < length g.values
  pub first : (v : Value) → slice_get g.values i ≡ Some v → (more : List TempId) × (v.own ≡ temp n ∷ more)

begins_value : (i n m : ℕ) (sort : Sort) (g : Growth) → Begins i n g → Begins i n (with_value m sort g)
begins_value i n m sort g h = record {
  within = let l = length-append g.values (value_of m sort g ∷ []) in let lt = h.within in omega arith;
  first = λ v at. h.first v (got_there g.values (value_of m sort g ∷ []) i v h.within at);
}

pub begins_values : (i n m : ℕ) (sorts : List Sort) (g : Growth) → Begins i n g → Begins i n (with_values m sorts g)
begins_values i n m [] g h = h
begins_values i n m (sort ∷ sorts) g h = begins_values i n (m + 1) sorts (with_value m sort g) (begins_value i n m sort g h)

-- so the values at a block's start do
new_begins : (j n : ℕ) (sorts : List Sort) (g : Growth) → j < length sorts → Begins (length g.values + j) (n + j) (with_values n sorts g)
new_begins j n [] g lt = absurd (omega arith)
new_begins zero n (sort ∷ sorts) g lt =
    let v = value_of n sort g in
    let l = length-append g.values (v ∷ []) in
    let i : length g.values ≡ length g.values + 0 = omega arith in
    let m : n ≡ n + 0 = omega arith in
    begins_values (length g.values + 0) (n + 0) (n + 1) sorts (with_value n sort g)
    (subst (λ (k : ℕ). Begins k (n + 0) (with_value n sort g)) i (subst (λ (k : ℕ). Begins (length g.values) k (with_value n sort g)) m
    (record {
      within = omega arith;
      first = λ w at. (_, ap (λ (u : Value). u.own) (sym (got_last g.values v w at)));
    })))
new_begins (suc j) n (sort ∷ sorts) g lt =
    let l = length-append g.values (value_of n sort g ∷ []) in
    let i : length (g.values ++ value_of n sort g ∷ []) + j ≡ length g.values + suc j = omega arith in
    let m : n + 1 + j ≡ n + suc j = omega arith in
    subst (λ (k : ℕ). Begins k (n + suc j) (with_values (n + 1) sorts (with_value n sort g))) i
    (subst (λ (k : ℕ). Begins (length (g.values ++ value_of n sort g ∷ []) + j) k (with_values (n + 1) sorts (with_value n sort g))) m
    (new_begins j (n + 1) sorts (with_value n sort g) (omega arith)))

module _ (e : Ext) (o : Options) (roomy : AreRoomy e o) (fit : IsFit e.table) (extended : IsExtended e) (b : ℕ) (entry : Bool) (block :
    ExtBlock)
    (at_b : slice_get e.blocks b ≡ Some block) where
  abbrev s : Setting
  s = setting_of e entry block

  abbrev live_names : All (λ (x : NameId). x.0 < length e.names) block.live_in
  live_names = live e o roomy fit extended b entry block at_b

  module _ (g : Growth) (saved : Bool) (results : List TempId) (size : length results ≡ length block.live_in + length (saved_registers
      e.table))
      (begins : live_in_temps block.ops ≡ map temp (range_with_len g.next (length results))) (is_saved : entry ≡ true → saved ≡ true) where
    abbrev count : ℕ
    count = length results

    abbrev made : ExtOp
    made = record { kind = In; operands = []; results = map temp (range_with_len g.next count) }

    abbrev here : Growth
    here = with_results In [] count g

    abbrev sorts : List Sort
    sorts = sorts_of e.names block.live_in saved In count

    sorts_size : length sorts ≡ count
    sorts_size =
        let rest = replicate (count - length block.live_in) (saved_sort saved) in
        let a = length-append (map (sort_of_name e.names) block.live_in) rest in
        let c = length-map block.live_in (sort_of_name e.names) in
        let d = length-replicate (count - length block.live_in) (saved_sort saved) in
        omega arith

    is_placed_by : (first : Bool) → entry ≡ first → saved ≡ false → (m : ℕ) → m < count → g.next + m < s.placed
    is_placed_by true is not m lt = let z : true ≡ false = sym (is_saved is) ∙ not in absurd (cc z)
    is_placed_by false is not m lt =
        let placed : s.placed ≡ first_number (live_in_temps block.ops) + length (live_in_temps block.ops) =
        ap (λ (v : Bool). if v then 0 else first_number (live_in_temps block.ops) + length (live_in_temps block.ops)) is in
        let values : first_number (live_in_temps block.ops) + length (live_in_temps block.ops) ≡ g.next + count =
        ap (λ (xs : List TempId). first_number xs + length xs) begins ∙ row_sum g.next count lt in
        omega arith
      where
        row_sum : (n c : ℕ) → m < c → first_number (map temp (range_with_len n c)) + length (map temp (range_with_len n c)) ≡ n + c
        row_sum n zero l = absurd (omega arith)
        row_sum n (suc c) l = let k = length-map-range_with_len temp n (suc c) in omega arith

    start_sorts_ok : Contains block.ops made → SortsOk e block s.placed g.next sorts
    start_sorts_ok among = sorts_at e o roomy fit extended b entry block at_b g.next sorts (λ m sort at.
        let lt = slice_get_within sorts m sort at in
        let total = sorts_size in
        let there = row_is g.next count m (omega arith) in
        let long = length-map-range_with_len temp g.next count in
        let kinds = kind_defined e.names e.blocks extended.good.numbered (starts e o roomy fit extended b entry block at_b) b among.0 m
        block made
        (temp (g.next + m)) at_b (place_of e o roomy fit extended b entry block at_b made among) there refl
        ∙ ap (λ (c : ℕ). slice_get (in_kinds e.names block.live_in c) m) long
        ∙ kinds_at e.names block.live_in saved (count - length block.live_in) m sort at in
        record {
          kind = kinds;
          truth = λ is. truth_there e o roomy fit extended b entry block at_b made m (temp (g.next + m)) among there
              (truth_at e.names block.live_in saved (count - length block.live_in) m sort at is);
          copied = λ not. is_placed_by entry refl (copied_at e.names block.live_in saved (count - length block.live_in) m sort at not) m
              (omega arith);
        })

    abbrev op : ExtOp
    op = record { kind = In; operands = []; results = results }

    abbrev list : List ExtOp
    list = extended_ops e.names block.live_in entry saved op g

    start_whole : (tail : List ExtOp) → list ++ tail ≡ made ∷ (values_ops g.next sorts here ++ (enter_ops entry In ++ tail))
    start_whole tail = ap (λ (zs : List ExtOp). made ∷ zs) (append_assoc (values_ops g.next sorts here) (enter_ops entry In) tail)

    pub start_among : (tail : List ExtOp) → Inside e o roomy fit extended b entry block at_b (list ++ tail) → Contains block.ops made
    start_among tail inside = inside made (subst (λ (zs : List ExtOp). Contains zs made) (sym (start_whole tail)) (0, omega arith, refl))

    enter_values : (first : Bool) (h : Growth) (from : ℕ) → ValuesOk e block s.placed from h
        → ValuesOk e block s.placed from (with_enter first In h)
    enter_values true h from ok = values_same e block s.placed from h (with_enter true In h) refl ok
    enter_values false h from ok = ok

    pub start_values : (from : ℕ) → ValuesOk e block s.placed from g → Contains block.ops made
        → ValuesOk e block s.placed from (with_extended e.names block.live_in entry saved op g)
    start_values from ok among =
        enter_values entry (with_values g.next sorts here) from
        (values_new e block s.placed from g.next sorts here (start_sorts_ok among) (values_same e block s.placed from g here refl ok))

    enter_begins : (first : Bool) (i n : ℕ) (h : Growth) → Begins i n h → Begins i n (with_enter first In h)
    enter_begins true i n h k = record { within = k.within; first = k.first }
    enter_begins false i n h k = k

    pub link_begins : Begins (length g.values + (length block.live_in + length (callee_saved e.table)))
        (g.next + (length block.live_in + length (callee_saved e.table))) (with_extended e.names block.live_in entry saved op g)
    link_begins =
        let total = sorts_size in
        let l = length-append (callee_saved e.table) (LINK ∷ []) in
        enter_begins entry (length g.values + (length block.live_in + length (callee_saved e.table)))
        (g.next + (length block.live_in + length (callee_saved e.table))) (with_values g.next sorts here)
        (new_begins (length block.live_in + length (callee_saved e.table)) g.next sorts here (omega arith))

    start_free : (d : Definer) (n : ℕ) (ts : List Sort) → ((name : NameId) → d ≡ Assigns name → ⊥)
        → AreTruths e o roomy entry block live_names d n ts
    start_free d n [] never = tt
    start_free d n (t ∷ ts) never = ((λ name is pred. absurd (never name is)), start_free d (n + 1) ts never)

    never_assigns : (first : Bool) (name : NameId) → (if first then Start else Other) ≡ Assigns name → ⊥
    never_assigns true name h = cc h
    never_assigns false name h = cc h

    made_size : length (map temp (range_with_len g.next count)) ≡ length block.live_in + length (saved_registers e.table)
    made_size = length-map-range_with_len temp g.next count ∙ size

    -- the link register's value has its home
    pub link_home : Contains block.ops made
        → is_home e.table entry block (temp (g.next + (length block.live_in + length (callee_saved e.table)))) LINK ≡ true
    link_home among =
        let j = length block.live_in + length (callee_saved e.table) in
        let l = length-append (callee_saved e.table) (LINK ∷ []) in
        let there = row_is g.next count j (omega arith) in
        let none : slice_get block.live_in j ≡ None = past block.live_in j (omega arith) in
        let place : j - length block.live_in ≡ length (callee_saved e.table) = omega arith in
        start_home_in e o roomy fit entry block (map temp (range_with_len g.next count)) live_names made_size among j LINK (temp (g.next
        + j)) there
        (ap (start_home e.table entry block.live_in j) none
        ∙ ap (λ (k : ℕ). option_map reg_at (slice_get (saved_registers e.table) k)) place
        ∙ ap (option_map reg_at) (last_saved (callee_saved e.table)))
      where
        past : (xs : List NameId) (k : ℕ) → length xs ≤ k → slice_get xs k ≡ None
        past [] k le = refl
        past (x ∷ xs) zero le = absurd (omega arith)
        past (x ∷ xs) (suc k) le = past xs k (omega arith)

        last_saved : (xs : List ℕ) → slice_get (xs ++ LINK ∷ []) (length xs) ≡ Some LINK
        last_saved [] = refl
        last_saved (x ∷ xs) = last_saved xs

    enter_good : (first : Bool) (q : Progress) (tail : List ExtOp)
        → ((r : Progress) → r.operands ≡ 0 → Walk e o roomy fit extended b entry block at_b r tail) → q.operands ≡ 0
        → Walk e o roomy fit extended b entry block at_b q (enter_ops first In ++ tail)
    enter_good true q tail rest none =
        let purpose = purpose_at s.term (frame_op Enter ∷ tail) in
        (enter_in e o roomy fit entry block q purpose, rest (progress_of e block s q purpose (frame_op Enter) Enter) refl)
    enter_good false q tail rest none = rest q none

    pub start_good : (tail : List ExtOp) (p : Progress) → Inside e o roomy fit extended b entry block at_b (list ++ tail)
        → ((r : Progress) → r.operands ≡ 0 → Walk e o roomy fit extended b entry block at_b r tail)
        → Walk e o roomy fit extended b entry block at_b p (list ++ tail)
    start_good tail p inside rest =
        let among = start_among tail inside in
        let ds = values_ops g.next sorts here in
        let more = enter_ops entry In ++ tail in
        let purpose = purpose_at s.term (made ∷ (ds ++ more)) in
        let next = progress_of e block s p purpose made In in
        subst (Walk e o roomy fit extended b entry block at_b p) (sym (start_whole tail)) (
          start_in e o roomy fit entry block (map temp (range_with_len g.next count)) live_names made_size among p purpose,
          values_good e o roomy entry block live_names g.next sorts here next more
              (record { named = λ name is. absurd (never_assigns entry name is) })
              (start_free next.definer g.next sorts (never_assigns entry))
              (λ q none. enter_good entry q tail rest none),
        )
