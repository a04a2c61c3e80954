-- What an extended block keeps while it grows: each operation is good, and each value has its temporaries, which carry it.
use Rattle.std.proofs.Common.{◌≡◌, ◌⊎◌, inl, inr, ℕ, zero, suc, ◌+◌, ◌-◌, ◌<◌, ◌≤◌, ◌++◌, Bool, true, false, if◌then◌else◌, List, [], ◌∷◌}
use Rattle.std.proofs.Common.{Option, Some, None, unwrap_or, map, length, set, get_or, slice_get, replicate, All, AllPairs, Contains, refl}
use Rattle.std.proofs.Common.{sym, ap, ◌∙◌, arith, subst, append_assoc, append-nil, length-set}
use Rattle.std.specs.List.{flat_map, AllZip}
use Rattle.std.specs.Option.{option_map}
use Rattle.std.proofs.lemmas.Grind.{flat_map-append}
use Rattle.std.proofs.lemmas.List.{length-append, length-map, length-replicate, length_push, map-append}
use Rattle.std.proofs.lemmas.List.Elements.{All-nil, All-cons, All-push, All-head, All-tail}
use Rattle.std.proofs.lemmas.List.Quantifiers.{all_pairs_push}
use Rattle.std.proofs.lemmas.List.FromFn.{length-map-range_with_len, get_or-map-range_with_len}
use Rattle.std.proofs.lemmas.Option.{slice_get_within, slice_get-get_or, slice_get-map}
use Rattle.un_base.specs.declared.ids.NameId.{NameId}
use Rattle.un_base.specs.declared.ids.TempId.{TempId}
use Rattle.un_isa.specs.Registers.{saved_registers}
use Rattle.un_isa.specs.declared.reg.Reg.{Reg}
use Rattle.un_isa.specs.declared.table.Table.{Table}
use Rattle.un_ir.specs.declared.function.Kind.{Kind}
use Rattle.un_ir.specs.declared.function.Kind.TheVariants.{General, Pred}
use Rattle.un_ir.specs.declared.function.Term.{Term}
use Rattle.un_ir.specs.declared.extended.NodeCopy.{NodeCopy}
use Rattle.un_ir.specs.declared.extended.NodeCopy.TheVariants.{D, D2, U, U2}
use Rattle.un_ir.specs.declared.extended.ExtKind.{ExtKind}
use Rattle.un_ir.specs.declared.extended.ExtKind.TheVariants.{In, Out, Body, End, Copy, Enter, Leave}
use Rattle.un_ir.specs.declared.extended.Operand.{Operand}
use Rattle.un_ir.specs.declared.extended.ExtOp.{ExtOp}
use Rattle.un_ir.specs.declared.extended.ExtBlock.{ExtBlock}
use Rattle.un_ir.specs.declared.extended.Growth.{Growth}
use Rattle.un_ir.specs.declared.extended.Sort.{Sort}
use Rattle.un_ir.specs.declared.extended.Value.{Value}
use Rattle.un_ir.specs.Extended.{temp, name_kind, is_return, is_linear_kind, wants_of, wants_of_out, result_count, IsPlainOp, carried}
use Rattle.un_ir.specs.Extended.{carried_by, all_carried, all_kinds, defined_kinds, kind_of_temp, results_of, Want, IsGoodKind}
use Rattle.un_ir.specs.Extended.{IsGoodOperand, IsGoodExtOp}
use Rattle.un_ir.specs.ExtendOf.{frame_op, with_op, with_leave, with_enter, with_results, with_extended, with_all_extended, sorts_of}
use Rattle.un_ir.specs.ExtendOf.{sort_of_name, copy_op, with_copy, copy_count_by, copy_count, with_copies, new_temps, own_temps, value_of}
use Rattle.un_ir.specs.ExtendOf.{with_value, with_values, with_operand_by, with_operand, alternatives, chosen_from, with_operands}
use Rattle.un_ir.specs.ExtendOf.{new_operands}
use Rattle.un_ir.specs.Linear.{first_of, ending_of}
use Rattle.un_ir.specs.WellFormed.{result_kind}
use Rattle.un_ir.proofs.GoodOps.{got_left, got_right, temps, Numbers, numbers_append, numbers_has, AreGoodOps}
use Rattle.un_ir.proofs.GoodOps.{good_append, results_append}

-- ---- lists

regroup : {X : Type 0} (a b c d : List X) → (a ++ (b ++ c)) ++ d ≡ (a ++ b) ++ (c ++ d)
regroup {X} a b c d = ap (λ (zs : List X). zs ++ d) (sym (append_assoc a b c)) ∙ append_assoc (a ++ b) c d

-- what stands behind a front
place : {X : Type 0} (front a b more all : List X) (n j : ℕ) (x : X) → all ≡ (front ++ (a ++ (b ++ []))) ++ more
    → length front + length a ≡ n
    → slice_get b j ≡ Some x → slice_get all (n + j) ≡ Some x
place {X} front a b more all n j x is long got =
    let l : n ≡ length (front ++ a) = sym long ∙ sym (length-append front a) in
    ap (λ (k : ℕ). slice_get all (k + j)) l ∙ ap (λ (zs : List X). slice_get zs (length (front ++ a) + j))
    (is ∙ regroup front a (b ++ []) more)
    ∙ got_right (front ++ a) ((b ++ []) ++ more) j ∙ got_left (b ++ []) more j x (got_left b [] j x got)

pub push_cases : {X : Type 0} (xs : List X) (x : X) (k : ℕ) (w : X) → slice_get (xs ++ x ∷ []) k ≡ Some w
    → (slice_get xs k ≡ Some w) ⊎ ((k ≡ length xs) × (x ≡ w))
push_cases [] x zero w h = inr (refl, (let e : x ≡ w = cc h in e))
push_cases [] x (suc k) w h = absurd (cc h)
push_cases (y ∷ xs) x zero w h = inl h
push_cases (y ∷ xs) x (suc k) w h = elim (push_cases xs x k w h) [ inl a ↦ inl a | inr a ↦ inr (ap suc a.0, a.1) ]

pub set_cases : {X : Type 0} (xs : List X) (i : ℕ) (y : X) (k : ℕ) (w : X) → slice_get (set xs i y) k ≡ Some w
    → ((k ≡ i) × (y ≡ w)) ⊎ (slice_get xs k ≡ Some w)
set_cases [] i y k w h = absurd (cc h)
set_cases (x ∷ xs) zero y zero w h = inl (refl, (let e : y ≡ w = cc h in e))
set_cases (x ∷ xs) zero y (suc k) w h = inr h
set_cases (x ∷ xs) (suc i) y zero w h = inr h
set_cases (x ∷ xs) (suc i) y (suc k) w h = elim (set_cases xs i y k w h) [ inl a ↦ inl (ap suc a.0, a.1) | inr a ↦ inr a ]

pub set_same : {X : Type 0} (xs : List X) (i : ℕ) (y : X) → i < length xs → slice_get (set xs i y) i ≡ Some y
set_same [] i y h = absurd (omega arith)
set_same (x ∷ xs) zero y h = refl
set_same (x ∷ xs) (suc i) y h = set_same xs i y (omega arith)

-- temporaries in a row are within its bounds
numbers_bounds : (n m : ℕ) (xs : List TempId) (x : ℕ) → Numbers n xs m → Contains xs (temp x) → (n ≤ x) × (x < m)
numbers_bounds n m xs x a has = by (subst (λ (zs : List TempId). Contains zs (temp x)) a.are has)
  where
    by : Contains (temps n a.count) (temp x) → (n ≤ x) × (x < m)
    by (j, below, is) =
        let l = length-map-range_with_len temp n a.count in
        let r = a.reach in
        let e : n + j ≡ x = ap (λ (y : TempId). y.0) (sym (get_or-map-range_with_len temp n a.count j (n + j) (temp x)
        (omega (arith, l, below)) refl) ∙ is) in
        (omega (arith, e), omega (arith, e, l, r, below))

-- numbers of one list after another
pub record Split (n : ℕ) (xs ys : List TempId) (m : ℕ) : Type 0 where
  pub front : Numbers n xs (n + length xs)
  pub back : Numbers (n + length xs) ys m

pub numbers_split : (n m : ℕ) (xs ys : List TempId) → Numbers n (xs ++ ys) m → Split n xs ys m
numbers_split n m [] ys a =
    let z : n ≡ n + 0 = omega arith in
    record { front = record { count = 0; are = refl; reach = refl }; back = subst (λ (k : ℕ). Numbers k ys m) z a }
numbers_split n m (x ∷ xs) ys a = by (λ b. numbers_split (n + 1) m xs ys b) a.count a.are a.reach
  where
    by : (Numbers (n + 1) (xs ++ ys) m → Split (n + 1) xs ys m) → (count : ℕ) → (x ∷ xs) ++ ys ≡ temps n count → n + count ≡ m
        → Split n (x ∷ xs) ys m
    by ih zero e r = absurd (cc e)
    by ih (suc count) e r =
        let first : x ≡ temp n = cc e in
        let others : xs ++ ys ≡ temps (n + 1) count = cc e in
        let s = ih (record { count = count; are = others; reach = omega (arith, r) }) in
        let z : (n + 1) + length xs ≡ n + suc (length xs) = omega arith in
        record {
          front = numbers_append n (n + 1) (n + suc (length xs)) (x ∷ []) xs
              (record { count = 1; are = ap (λ (y : TempId). y ∷ []) first; reach = refl })
              (subst (λ (k : ℕ). Numbers (n + 1) xs k) z s.front);
          back = subst (λ (k : ℕ). Numbers k ys m) z s.back;
        }

first_append : (xs ys : List TempId) → 0 < length xs → first_of (xs ++ ys) ≡ first_of xs
first_append [] ys h = absurd (omega arith)
first_append (x ∷ xs) ys h = refl

-- ---- a block that grows

module _ (t : Table) (names : List Kind) (old new : List ExtBlock) (owner : ExtBlock) (start low : ℕ)
    (cfront : List TempId) (kfront : List Kind) (clong : length cfront ≡ start) (klong : length kfront ≡ start) where
  abbrev carried_of : List ExtOp → List TempId
  carried_of ops = flat_map (λ (op : ExtOp). carried_by op.kind op) ops

  abbrev kinds_of : List ExtOp → List Kind
  kinds_of ops = flat_map (λ (op : ExtOp). defined_kinds names owner op.kind op) ops

  -- the function has these operations in this block, and maybe more
  pub record Fits (ops : List ExtOp) : Type 0 where
    pub cmore : List TempId
    pub kmore : List Kind
    pub carries : all_carried new ≡ (cfront ++ carried_of ops) ++ cmore
    pub kinds : all_kinds names new ≡ (kfront ++ kinds_of ops) ++ kmore

  pub fits_less : (xs ys : List ExtOp) → Fits (xs ++ ys) → Fits xs
  fits_less xs ys h = record {
    cmore = carried_of ys ++ h.cmore;
    kmore = kinds_of ys ++ h.kmore;
    carries = h.carries ∙ ap (λ (zs : List TempId). (cfront ++ zs) ++ h.cmore)
        (flat_map-append (λ (op : ExtOp). carried_by op.kind op) xs ys)
        ∙ regroup cfront (carried_of xs) (carried_of ys) h.cmore;
    kinds = h.kinds ∙ ap (λ (zs : List Kind). (kfront ++ zs) ++ h.kmore)
        (flat_map-append (λ (op : ExtOp). defined_kinds names owner op.kind op) xs ys)
        ∙ regroup kfront (kinds_of xs) (kinds_of ys) h.kmore;
  }

  -- temporaries below n that carry the value of temporary x, which is the first of them
  pub record Alts (n x : ℕ) (ys : List TempId) : Type 0 where
    pub chooses : 0 < length ys
    pub first : first_of ys ≡ x
    pub rising : AllPairs (λ (y z : TempId). y.0 < z.0) ys
    pub bounds : All (λ (y : TempId). (start ≤ y.0) × (y.0 < n)) ys
    pub one : All (λ (y : TempId). carried new y ≡ temp x) ys

  alts_more : (n m x : ℕ) (ys : List TempId) → n ≤ m → Alts n x ys → Alts m x ys
  alts_more n m x ys h a = record {
    chooses = a.chooses;
    first = a.first;
    rising = a.rising;
    bounds = λ k d below. (let b = a.bounds k d below in let up = b.1 in (b.0, omega (arith, up, h)));
    one = a.one;
  }

  alts_push : (n x : ℕ) (ys : List TempId) → start ≤ n → carried new (temp n) ≡ temp x → Alts n x ys → Alts (n + 1) x (ys ++ temp n ∷ [])
  alts_push n x ys h is a =
      let c = a.chooses in
      let more = alts_more n (n + 1) x ys (omega arith) a in
      record {
        chooses = (let l = length_push ys (temp n) in omega (arith, l));
        first = first_append ys (temp n ∷ []) a.chooses ∙ a.first;
        rising = all_pairs_push (λ (y z : TempId). y.0 < z.0) ys (temp n) a.rising (λ k d below. (a.bounds k d below).1);
        bounds = All-push (λ (y : TempId). (start ≤ y.0) × (y.0 < n + 1)) ys (temp n) more.bounds (h, omega arith);
        one = All-push (λ (y : TempId). carried new y ≡ temp x) ys (temp n) a.one is;
      }

  alts_row : (n x count : ℕ) (ys : List TempId) → start ≤ n → ((j : ℕ) → j < count → carried new (temp (n + j)) ≡ temp x) → Alts n x ys
      → Alts (n + count) x (ys ++ temps n count)
  alts_row n x zero ys h is a =
      let z : n ≡ n + 0 = omega arith in
      subst (λ (k : ℕ). Alts k x (ys ++ [])) z (subst (λ (zs : List TempId). Alts n x zs) (sym (append-nil ys)) a)
  alts_row n x (suc count) ys h is a =
      let z : n + 0 ≡ n = omega arith in
      let first : carried new (temp n) ≡ temp x = ap (λ (k : ℕ). carried new (temp k)) (sym z) ∙ is 0 (omega arith) in
      let r = alts_row (n + 1) x count (ys ++ temp n ∷ []) (omega (arith, h))
      (λ j below. ap (λ (k : ℕ). carried new (temp k)) (let q : (n + 1) + j ≡ n + suc j = omega arith in q) ∙ is (suc j) (omega arith))
      (alts_push n x ys h first a) in
      let q : (n + 1) + count ≡ n + suc count = omega arith in
      subst (λ (k : ℕ). Alts k x (ys ++ temps n (suc count))) q (subst (λ (zs : List TempId). Alts ((n + 1) + count) x zs)
      (append_assoc ys (temp n ∷ []) (temps (n + 1) count)) r)

  alts_alone : (n m : ℕ) → start ≤ n → n < m → carried new (temp n) ≡ temp n → Alts m n (temp n ∷ [])
  alts_alone n m low high is = record {
    chooses = omega arith;
    first = refl;
    rising = λ i j d lt below. absurd (omega arith);
    bounds = All-cons (λ (y : TempId). (start ≤ y.0) × (y.0 < m)) (temp n) [] (low, high)
        (All-nil (λ (y : TempId). (start ≤ y.0) × (y.0 < m)));
    one = All-cons (λ (y : TempId). carried new y ≡ temp n) (temp n) [] is (All-nil (λ (y : TempId). carried new y ≡ temp n));
  }

  -- the value with this number in the linear function
  pub record IsValue (n i : ℕ) (v : Value) : Type 0 where
    pub x : ℕ
    pub all : Alts n x v.all
    pub own : Alts n x v.own
    pub kind : kind_of_temp names new (temp x) ≡ Some (let sort = v.sort in sort.kind)
    pub was : kind_of_temp names old (temp i) ≡ Some (let sort = v.sort in sort.kind)

  value_more : (n m i : ℕ) (v : Value) → n ≤ m → IsValue n i v → IsValue m i v
  value_more n m i v h a = record {
    x = a.x;
    all = alts_more n m a.x v.all h a.all;
    own = alts_more n m a.x v.own h a.own;
    kind = a.kind;
    was = a.was;
  }

  pub record Facts (g : Growth) : Type 0 where
    pub numbers : Numbers start (results_of g.ops) g.next
    pub clength : start + length (carried_of g.ops) ≡ g.next
    pub klength : start + length (kinds_of g.ops) ≡ g.next
    pub good : AreGoodOps t names new owner [] g.ops
    pub vals : (i : ℕ) (v : Value) → slice_get g.values i ≡ Some v → low ≤ i → IsValue g.next i v

  start_below : (g : Growth) → Facts g → start ≤ g.next
  start_below g f = let c = f.clength in omega (arith, c)

  -- ---- one more operation

  abbrev pushed : Growth → ExtOp → ℕ → Growth
  pushed g op count = record { ops = g.ops ++ op ∷ []; values = g.values; next = g.next + count }

  pub add_op : (g : Growth) (op : ExtOp) (count : ℕ) → Facts g → IsGoodExtOp t names new owner (results_of g.ops) op
      → op.results ≡ temps g.next count
      → length (carried_by op.kind op) ≡ count → length (defined_kinds names owner op.kind op) ≡ count → Facts (pushed g op count)
  add_op g op count f good is c k = record {
    numbers = (let n = numbers_append start g.next (g.next + count) (results_of g.ops) op.results f.numbers
        (record { count = count; are = is; reach = refl }) in
        record {
          count = n.count;
          are = results_append g.ops (op ∷ [])
              ∙ ap (λ (zs : List TempId). results_of g.ops ++ zs) (append-nil op.results) ∙ n.are;
          reach = n.reach;
        });
    clength = (let a = ap (λ (zs : List TempId). length zs) (flat_map-append (λ (op : ExtOp). carried_by op.kind op) g.ops (op ∷ [])) in
        let b = length-append (carried_of g.ops) (carried_by op.kind op ++ []) in
        let d = ap (λ (zs : List TempId). length zs) (append-nil (carried_by op.kind op)) in
        let e = f.clength in omega (arith, a, b, c, d, e));
    klength = (let a = ap (λ (zs : List Kind). length zs) (flat_map-append (λ (op : ExtOp). defined_kinds names owner op.kind op) g.ops
        (op ∷ [])) in
        let b = length-append (kinds_of g.ops) (defined_kinds names owner op.kind op ++ []) in
        let d = ap (λ (zs : List Kind). length zs) (append-nil (defined_kinds names owner op.kind op)) in
        let e = f.klength in omega (arith, a, b, k, d, e));
    good = good_append t names new owner [] g.ops (op ∷ []) f.good (good, tt);
    vals = λ i v got h. value_more g.next (g.next + count) i v (omega arith) (f.vals i v got h);
  }

  pub carried_new : (g : Growth) (op : ExtOp) → Facts g → Fits (g.ops ++ op ∷ []) → (j : ℕ) (y : TempId)
      → slice_get (carried_by op.kind op) j ≡ Some y
      → carried new (temp (g.next + j)) ≡ y
  carried_new g op f h j y got =
      let e = f.clength in
      let is = h.carries ∙ ap (λ (zs : List TempId). (cfront ++ zs) ++ h.cmore)
      (flat_map-append (λ (op : ExtOp). carried_by op.kind op) g.ops (op ∷ [])) in
      ap (λ (o : Option TempId). unwrap_or o (temp (g.next + j)))
      (place cfront (carried_of g.ops) (carried_by op.kind op) h.cmore (all_carried new) g.next j y is (omega (arith, e, clong)) got)

  pub kind_new : (g : Growth) (op : ExtOp) → Facts g → Fits (g.ops ++ op ∷ []) → (j : ℕ) (kind : Kind)
      → slice_get (defined_kinds names owner op.kind op) j ≡ Some kind
      → slice_get (all_kinds names new) (g.next + j) ≡ Some kind
  kind_new g op f h j kind got =
      let e = f.klength in
      let is = h.kinds ∙ ap (λ (zs : List Kind). (kfront ++ zs) ++ h.kmore)
      (flat_map-append (λ (op : ExtOp). defined_kinds names owner op.kind op) g.ops (op ∷ [])) in
      place kfront (kinds_of g.ops) (defined_kinds names owner op.kind op) h.kmore (all_kinds names new) g.next j kind is
      (omega (arith, e, klong)) got

  pub good_alts : (before : List TempId) (n x : ℕ) (ys : List TempId) (home : Option Reg) (kind : Kind) → Numbers start before n
      → Alts n x ys
      → kind_of_temp names new (temp x) ≡ Some kind
      → IsGoodOperand names new before (record { alts = ys; home = home }) (record { kind = kind; home = home })
  good_alts before n x ys home kind numbers a is = record {
    chooses = a.chooses;
    rising = a.rising;
    known = λ k d below. (let b = a.bounds k d below in let y = get_or ys k d in numbers_has start n before y.0 numbers b.0 b.1);
    one_value = λ k d below. a.one k d below ∙ ap temp (sym a.first);
    kind = ap (λ (k : ℕ). kind_of_temp names new (temp k)) a.first ∙ is;
    home = refl;
  }

  -- ---- copies

  copy_step : (node : NodeCopy) (ys : List TempId) (g : Growth) (x : ℕ) (kind : Kind) → IsGoodKind (Copy node) (copy_op node ys g.next)
      → Facts g → Alts g.next x ys → kind_of_temp names new (temp x) ≡ Some kind → Facts (with_copy node ys g)
  copy_step node ys g x kind good f a is =
      let at : kind_of_temp names new (temp (first_of ys)) ≡ Some kind = ap (λ (k : ℕ). kind_of_temp names new (temp k)) a.first ∙ is in
      let same : unwrap_or (kind_of_temp names new (temp (first_of ys))) General ≡ kind =
      ap (λ (o : Option Kind). unwrap_or o General) at in
      add_op g (copy_op node ys g.next) 1 f
      (record {
        kind = good;
        operands = (
          good_alts (results_of g.ops) g.next x ys None (unwrap_or (kind_of_temp names new (temp (first_of ys))) General)
              f.numbers a (is ∙ ap Some (sym same)),
          tt,
        );
        results = refl;
      }) refl refl refl

  copy_carried : (node : NodeCopy) (ys : List TempId) (g : Growth) (x : ℕ) → Facts g → Fits (g.ops ++ copy_op node ys g.next ∷ [])
      → first_of ys ≡ x
      → carried new (temp g.next) ≡ temp x
  copy_carried node ys g x f h is =
      let z : g.next ≡ g.next + 0 = omega arith in
      ap (λ (k : ℕ). carried new (temp k)) z ∙ carried_new g (copy_op node ys g.next) f h 0 (temp (first_of ys)) refl ∙ ap temp is

  pub record Copies (g grown : Growth) (x count : ℕ) : Type 0 where
    pub facts : Facts grown
    pub next : grown.next ≡ g.next + count
    pub each : (j : ℕ) → j < count → carried new (temp (g.next + j)) ≡ temp x
    pub same : grown.values ≡ g.values

  copies_grow : (first second : NodeCopy) (kind : Kind) (copied : Bool) (ys : List TempId) (g : Growth)
      → Fits (let grown = with_copies first second kind copied ys g in grown.ops) → Fits g.ops
  copies_grow first second kind false ys g h = h
  copies_grow first second General true ys g h = fits_less g.ops (copy_op first ys g.next ∷ []) h
  copies_grow first second Pred true ys g h =
      fits_less g.ops (copy_op first ys g.next ∷ []) (fits_less (g.ops ++ copy_op first ys g.next ∷ [])
      (copy_op second (ys ++ temp g.next ∷ []) (g.next + 1) ∷ []) h)

  copies_step : (first second : NodeCopy) (kind : Kind) (copied : Bool) (ys : List TempId) (g : Growth) (x : ℕ) (own : Kind)
      → IsGoodKind (Copy first) (copy_op first ys g.next) → ((zs : List TempId) (n : ℕ) → IsGoodKind (Copy second) (copy_op second zs n))
      → Fits (let grown = with_copies first second kind copied ys g in grown.ops) → Facts g → Alts g.next x ys
      → kind_of_temp names new (temp x) ≡ Some own
      → Copies g (with_copies first second kind copied ys g) x (copy_count_by kind copied)
  copies_step first second kind false ys g x own one two h f a is =
      record { facts = f; next = omega arith; each = λ j below. absurd (omega arith); same = refl }
  copies_step first second General true ys g x own one two h f a is = record {
    facts = copy_step first ys g x own one f a is;
    next = refl;
    each = λ j below. (let z : g.next + j ≡ g.next = omega (arith, below) in ap (λ (k : ℕ). carried new (temp k)) z
        ∙ copy_carried first ys g x f h a.first);
    same = refl;
  }
  copies_step first second Pred true ys g x own one two h f a is =
      let h1 = fits_less (g.ops ++ copy_op first ys g.next ∷ []) (copy_op second (ys ++ temp g.next ∷ []) (g.next + 1) ∷ []) h in
      let f1 = copy_step first ys g x own one f a is in
      let c1 = copy_carried first ys g x f h1 a.first in
      let a1 = alts_push g.next x ys (start_below g f) c1 a in
      let c2 = copy_carried second (ys ++ temp g.next ∷ []) (with_copy first ys g) x f1 h a1.first in
      record {
        facts = copy_step second (ys ++ temp g.next ∷ []) (with_copy first ys g) x own (two (ys ++ temp g.next ∷ []) (g.next + 1)) f1 a1 is;
        next = omega arith;
        each = λ j below. each c1 c2 j below;
        same = refl;
      }
    where
      each : carried new (temp g.next) ≡ temp x → carried new (temp (g.next + 1)) ≡ temp x → (j : ℕ) → j < 2
          → carried new (temp (g.next + j)) ≡ temp x
      each c1 c2 zero below = let z : g.next + 0 ≡ g.next = omega arith in ap (λ (k : ℕ). carried new (temp k)) z ∙ c1
      each c1 c2 (suc zero) below = c2
      each c1 c2 (suc (suc j)) below = absurd (omega arith)

  -- ---- values

  value_grow : (n : ℕ) (sort : Sort) (g : Growth) → Fits (let grown = with_value n sort g in grown.ops) → Fits g.ops
  value_grow n sort g h = copies_grow D D2 sort.kind sort.copied (temp n ∷ []) g h

  value_step : (n : ℕ) (sort : Sort) (g : Growth) → Fits (let grown = with_value n sort g in grown.ops) → Facts g → start ≤ n → n < g.next
      → carried new (temp n) ≡ temp n → kind_of_temp names new (temp n) ≡ Some sort.kind
      → kind_of_temp names old (temp (length g.values)) ≡ Some sort.kind
      → Facts (with_value n sort g)
  value_step n sort g h f below above is kind was =
      let a = alts_alone n g.next below above is in
      let c = copies_step D D2 sort.kind sort.copied (temp n ∷ []) g n sort.kind
      (All-cons (λ (x : Operand). length x.alts ≡ 1) _ [] refl (All-nil (λ (x : Operand). length x.alts ≡ 1)))
      (λ zs m. tt) h f a kind in
      let facts = c.facts in
      let e = c.next in
      let all : Alts (g.next + copy_count sort) n (own_temps n sort g) =
      alts_row g.next n (copy_count sort) (temp n ∷ []) (start_below g f) c.each a in
      let v : IsValue (let grown = with_value n sort g in grown.next) (length g.values) (value_of n sort g) =
      subst (λ (k : ℕ). IsValue k (length g.values) (value_of n sort g)) (sym e)
      (record { x = n; all = all; own = all; kind = kind; was = was }) in
      record {
        numbers = facts.numbers;
        clength = facts.clength;
        klength = facts.klength;
        good = facts.good;
        vals = λ i w got low. elim (push_cases g.values (value_of n sort g) i w got) [
          | inl at ↦ facts.vals i w (ap (λ (vs : List Value). slice_get vs i) c.same ∙ at) low
          | inr at ↦ subst (λ (k : ℕ). IsValue (let grown = with_value n sort g in grown.next) k w) (sym at.0)
              (subst (IsValue (let grown = with_value n sort g in grown.next) (length g.values)) at.1 v)
        ];
      }

  values_grow : (n : ℕ) (sorts : List Sort) (g : Growth) → Fits (let grown = with_values n sorts g in grown.ops) → Fits g.ops
  values_grow n [] g h = h
  values_grow n (sort ∷ sorts) g h = value_grow n sort g (values_grow (n + 1) sorts (with_value n sort g) h)

  value_next : (n : ℕ) (sort : Sort) (g : Growth) → g.next ≤ (let grown = with_value n sort g in grown.next)
  value_next n sort g = by sort.kind sort.copied
    where
      by : (kind : Kind) (copied : Bool) → g.next ≤ (let grown = with_copies D D2 kind copied (temp n ∷ []) g in grown.next)
      by kind false = omega arith
      by General true = omega arith
      by Pred true = omega arith

  value_count : (n : ℕ) (sort : Sort) (g : Growth) → length (let grown = with_value n sort g in grown.values) ≡ length g.values + 1
  value_count n sort g = length_push g.values (value_of n sort g)

  -- a new value with its number
  pub record IsNew (n i : ℕ) (sort : Sort) : Type 0 where
    pub itself : carried new (temp n) ≡ temp n
    pub kind : kind_of_temp names new (temp n) ≡ Some sort.kind
    pub was : kind_of_temp names old (temp i) ≡ Some sort.kind

  pub values_step : (n : ℕ) (sorts : List Sort) (g : Growth) → Fits (let grown = with_values n sorts g in grown.ops) → Facts g → start ≤ n
      → n + length sorts ≤ g.next
      → ((j : ℕ) (sort : Sort) → slice_get sorts j ≡ Some sort → IsNew (n + j) (length g.values + j) sort) → Facts (with_values n sorts g)
  values_step n [] g h f below above each = f
  values_step n (sort ∷ sorts) g h f below above each =
      let one = each 0 sort refl in
      let z : n + 0 ≡ n = omega arith in
      let y : length g.values + 0 ≡ length g.values = omega arith in
      let up = value_next n sort g in
      let k = value_count n sort g in
      let itself : carried new (temp n) ≡ temp n = ap (λ (m : ℕ). carried new (temp m)) (sym z) ∙ one.itself ∙ ap temp z in
      let kind : kind_of_temp names new (temp n) ≡ Some sort.kind = ap (λ (m : ℕ). kind_of_temp names new (temp m)) (sym z) ∙ one.kind in
      let was : kind_of_temp names old (temp (length g.values)) ≡ Some sort.kind = ap (λ (m : ℕ). kind_of_temp names old (temp m)) (sym y)
      ∙ one.was in
      values_step (n + 1) sorts (with_value n sort g) h
      (value_step n sort g (values_grow (n + 1) sorts (with_value n sort g) h) f below (omega (arith, above)) itself kind was)
      (omega (arith, below)) (omega (arith, above, up))
      (λ j other got. (let e = each (suc j) other got in
      let a : n + suc j ≡ (n + 1) + j = omega arith in
      let b : length g.values + suc j ≡ length (let grown = with_value n sort g in grown.values) + j = omega (arith, k) in
      subst (λ (i : ℕ). IsNew ((n + 1) + j) i other) b (subst (λ (m : ℕ). IsNew m (length g.values + suc j) other) a e)))

  -- ---- operands

  -- what an operand of the linear function reads, where so many values are known
  pub record ReadsOld (count : ℕ) (x : Operand) (want : Want) : Type 0 where
    pub above : low ≤ first_of x.alts
    pub below : first_of x.alts < count
    pub kind : kind_of_temp names old (temp (first_of x.alts)) ≡ Some want.kind
    pub home : x.home ≡ want.home

  by_grow : (i : ℕ) (o : Option Value) (g : Growth) → Fits (let grown = with_operand_by i o g in grown.ops) → Fits g.ops
  by_grow i None g h = h
  by_grow i (Some v) g h = copies_grow U U2 (let sort = v.sort in sort.kind) (let sort = v.sort in sort.copied) v.own g h

  operands_grow : (xs : List Operand) (g : Growth) → Fits (let grown = with_operands xs g in grown.ops) → Fits g.ops
  operands_grow [] g h = h
  operands_grow (x ∷ xs) g h = by_grow (first_of x.alts) (slice_get g.values (first_of x.alts)) g (operands_grow xs (with_operand x g) h)

  pub record Read (g grown : Growth) (i : ℕ) (kind : Kind) : Type 0 where
    pub facts : Facts grown
    pub x : ℕ
    pub alts : Alts grown.next x (alternatives (slice_get grown.values i))
    pub kind_is : kind_of_temp names new (temp x) ≡ Some kind
    pub next : g.next ≤ grown.next
    pub count : length grown.values ≡ length g.values

  read_by : (i : ℕ) (o : Option Value) (g : Growth) (kind : Kind) → slice_get g.values i ≡ o
      → Fits (let grown = with_operand_by i o g in grown.ops)
      → Facts g → low ≤ i → i < length g.values → kind_of_temp names old (temp i) ≡ Some kind → Read g (with_operand_by i o g) i kind
  read_by i None g kind at h f above below was = absurd (let e = sym at ∙ got in cc e)
    where
      v : Value
      v = get_or g.values i (record { own = []; all = []; sort = record { kind = General; copied = false } })

      got : slice_get g.values i ≡ Some v
      got = slice_get-get_or g.values i (record { own = []; all = []; sort = record { kind = General; copied = false } }) below
  read_by i (Some v) g kind at h f above below was =
      let sort = v.sort in
      let value = f.vals i v at above in
      let same : sort.kind ≡ kind = let e : Some sort.kind ≡ Some kind = sym value.was ∙ was in cc e in
      let c = copies_step U U2 sort.kind sort.copied v.own g value.x sort.kind tt (λ zs m. tt) h f value.own value.kind in
      let facts = c.facts in
      let e = c.next in
      let next : ℕ = (let grown = with_operand_by i (Some v) g in grown.next) in
      let longer : Value = record v { all = v.all ++ new_temps g (copy_count sort) } in
      let all : Alts next value.x (v.all ++ new_temps g (copy_count sort)) =
      subst (λ (k : ℕ). Alts k value.x (v.all ++ new_temps g (copy_count sort))) (sym e)
      (alts_row g.next value.x (copy_count sort) v.all (start_below g f) c.each value.all) in
      let own : Alts next value.x v.own = alts_more g.next next value.x v.own (omega (arith, e)) value.own in
      let now : slice_get (set g.values i longer) i ≡ Some longer = set_same g.values i longer below in
      record {
        facts = record {
          numbers = facts.numbers;
          clength = facts.clength;
          klength = facts.klength;
          good = facts.good;
          vals = λ j w got up. elim (set_cases g.values i longer j w got) [
            | inl is ↦ subst (λ (k : ℕ). IsValue next k w) (sym is.0)
                (subst (IsValue next i) is.1 (record { x = value.x; all = all; own = own; kind = value.kind; was = value.was }))
            | inr is ↦ facts.vals j w (ap (λ (vs : List Value). slice_get vs j) c.same ∙ is) up
          ];
        };
        x = value.x;
        alts = subst (λ (o : Option Value). Alts next value.x (alternatives o)) (sym now) all;
        kind_is = value.kind ∙ ap Some same;
        next = omega (arith, e);
        count = length-set g.values i longer;
      }

  pub record AllRead (g grown : Growth) (ys : List Operand) (ws : List Want) : Type 0 where
    pub facts : Facts grown
    pub next : g.next ≤ grown.next
    pub count : length grown.values ≡ length g.values
    pub good : (before : List TempId) → Numbers start before grown.next → AllZip (IsGoodOperand names new before) ys ws

  pub operands_step : (xs : List Operand) (ws : List Want) (g : Growth) → Fits (let grown = with_operands xs g in grown.ops) → Facts g
      → AllZip (ReadsOld (length g.values)) xs ws → AllRead g (with_operands xs g) (new_operands xs g) ws
  operands_step [] [] g h f r = record { facts = f; next = omega arith; count = refl; good = λ before numbers. tt }
  operands_step [] (w ∷ ws) g h f r = absurd r
  operands_step (x ∷ xs) [] g h f r = absurd r
  operands_step (x ∷ xs) (w ∷ ws) g h f r =
      let o = r.0 in
      let i = first_of x.alts in
      let one = read_by i (slice_get g.values i) g w.kind refl (operands_grow xs (with_operand x g) h) f o.above o.below o.kind in
      let rest = operands_step xs ws (with_operand x g) h one.facts (subst (λ (k : ℕ). AllZip (ReadsOld k) xs ws) (sym one.count) r.1) in
      let up = one.next in
      let more = rest.next in
      let top = (let grown = with_operands (x ∷ xs) g in grown.next) in
      record {
        facts = rest.facts;
        next = omega (arith, up, more);
        count = rest.count ∙ one.count;
        good = λ before numbers. (
          subst (λ (home : Option Reg). IsGoodOperand names new before (chosen_from x (with_operand x g))
              (record { kind = w.kind; home = home })) o.home
              (good_alts before top one.x (alternatives (slice_get (let grown = with_operand x g in grown.values) i)) x.home w.kind numbers
              (alts_more (let grown = with_operand x g in grown.next) top one.x _ more one.alts) one.kind_is),
          rest.good before numbers,
        );
      }

  -- ---- Leave and Enter

  add_frame : (kind : ExtKind) (g : Growth) → IsGoodExtOp t names new owner (results_of g.ops) (frame_op kind)
      → carried_by kind (frame_op kind) ≡ []
      → defined_kinds names owner kind (frame_op kind) ≡ [] → Facts g → Facts (with_op g (frame_op kind))
  add_frame kind g good c k f =
      let z : g.next + 0 ≡ g.next = omega arith in
      subst (λ (n : ℕ). Facts (record { ops = g.ops ++ frame_op kind ∷ []; values = g.values; next = n })) z
      (add_op g (frame_op kind) 0 f good refl (ap (λ (xs : List TempId). length xs) c) (ap (λ (xs : List Kind). length xs) k))

  leave_step : (kind : ExtKind) (g : Growth) → Facts g → Facts (with_leave kind g)
  leave_step (End term) g f = by (is_return term)
    where
      by : (v : Bool) → Facts (if v then with_op g (frame_op Leave) else g)
      by true = add_frame Leave g (record { kind = tt; operands = tt; results = refl }) refl refl f
      by false = f
  leave_step _ g f = f

  leave_values : (kind : ExtKind) (g : Growth) → (let grown = with_leave kind g in grown.values) ≡ g.values
  leave_values (End term) g = by (is_return term)
    where
      by : (v : Bool) → (let grown = if v then with_op g (frame_op Leave) else g in grown.values) ≡ g.values
      by true = refl
      by false = refl
  leave_values _ g = refl

  leave_grow : (kind : ExtKind) (g : Growth) → Fits (let grown = with_leave kind g in grown.ops) → Fits g.ops
  leave_grow (End term) g = by (is_return term)
    where
      by : (v : Bool) → Fits (let grown = if v then with_op g (frame_op Leave) else g in grown.ops) → Fits g.ops
      by true h = fits_less g.ops (frame_op Leave ∷ []) h
      by false h = h
  leave_grow _ g = λ h. h

  enter_step : (is_entry : Bool) (kind : ExtKind) (g : Growth) → Facts g → Facts (with_enter is_entry kind g)
  enter_step true In g f = add_frame Enter g (record { kind = tt; operands = tt; results = refl }) refl refl f
  enter_step _ _ g f = f

  enter_values : (is_entry : Bool) (kind : ExtKind) (g : Growth) → (let grown = with_enter is_entry kind g in grown.values) ≡ g.values
  enter_values true In g = refl
  enter_values _ _ g = refl

  enter_grow : (is_entry : Bool) (kind : ExtKind) (g : Growth) → Fits (let grown = with_enter is_entry kind g in grown.ops) → Fits g.ops
  enter_grow true In g = λ h. fits_less g.ops (frame_op Enter ∷ []) h
  enter_grow _ _ g = λ h. h

  values_count : (n : ℕ) (sorts : List Sort) (g : Growth) → length (let grown = with_values n sorts g in grown.values) ≡ length g.values +
      length sorts
  values_count n [] g = omega arith
  values_count n (sort ∷ sorts) g = let a = values_count (n + 1) sorts (with_value n sort g) in let b = value_count n sort g in
      omega (arith, a, b)

  -- ---- an operation with its copies

  module _ (was : ExtBlock) (same_in : owner.live_in ≡ was.live_in) (same_out : owner.live_out ≡ was.live_out)
      (same_end : (let a = ending_of owner.ops in a.term) ≡ (let b = ending_of was.ops in b.term))
      (alone : (x : ℕ) → carried old (temp x) ≡ temp x) where
    wants_kept : (kind : ExtKind) (a b : ExtOp) → is_linear_kind kind ≡ true
        → wants_of t names old was kind a ≡ wants_of t names new owner kind b
    wants_kept In a b h = refl
    wants_kept Out a b h =
        ap (λ (term : Term). wants_of_out t names was.live_out term) (sym same_end)
        ∙ ap (λ (xs : List NameId). wants_of_out t names xs (let e = ending_of owner.ops in e.term)) (sym same_out)
    wants_kept (Body o) a b h = refl
    wants_kept (End term) a b h = refl
    wants_kept (Copy node) a b h = absurd (cc h)
    wants_kept Enter a b h = absurd (cc h)
    wants_kept Leave a b h = absurd (cc h)

    kind_kept : (kind : ExtKind) (a b : ExtOp) → is_linear_kind kind ≡ true → IsGoodKind kind a → IsGoodKind kind b
    kind_kept (Body o) a b h g = g
    kind_kept (Copy node) a b h g = absurd (cc h)
    kind_kept _ a b h g = tt

    count_kept : (kind : ExtKind) → result_count t was kind ≡ result_count t owner kind
    count_kept In = ap (λ (xs : List NameId). length xs + length (saved_registers t)) (sym same_in)
    count_kept (Body o) = refl
    count_kept (Copy node) = refl
    count_kept _ = refl

    carried_plain : (kind : ExtKind) (op : ExtOp) → is_linear_kind kind ≡ true → carried_by kind op ≡ op.results
    carried_plain (Copy node) op h = absurd (cc h)
    carried_plain _ op h = refl

    same_kinds : (n : ℕ) (sort : Sort) → map (λ (s : Sort). s.kind) (replicate n sort) ≡ replicate n sort.kind
    same_kinds zero sort = refl
    same_kinds (suc n) sort = ap (λ (ks : List Kind). sort.kind ∷ ks) (same_kinds n sort)

    name_kinds : (live_in : List NameId) → map (λ (s : Sort). s.kind) (map (sort_of_name names) live_in) ≡ map (name_kind names) live_in
    name_kinds [] = refl
    name_kinds (name ∷ live_in) = ap (λ (ks : List Kind). name_kind names name ∷ ks) (name_kinds live_in)

    result_kinds : (ys : List TempId) (kind : Kind) (copied : Bool)
        → map (λ (s : Sort). s.kind) (replicate (length ys) (record { kind = kind; copied = copied })) ≡ map (λ (y : TempId). kind) ys
    result_kinds [] kind copied = refl
    result_kinds (y ∷ ys) kind copied = ap (λ (ks : List Kind). kind ∷ ks) (result_kinds ys kind copied)

    no_kinds : (ys : List TempId) → length ys ≡ 0 → [] ≡ map (λ (y : TempId). General) ys
    no_kinds [] h = refl
    no_kinds (y ∷ ys) h = absurd (omega (arith, h))

    -- the kinds of the values that an operation defines are those of their sorts
    sorts_kinds : (block : ExtBlock) (saved : Bool) (kind : ExtKind) (op : ExtOp) → is_linear_kind kind ≡ true
        → length op.results ≡ result_count t block kind
        → map (λ (s : Sort). s.kind) (sorts_of names block.live_in saved kind (length op.results)) ≡ defined_kinds names block kind op
    sorts_kinds block saved In op h c =
        map-append (λ (s : Sort). s.kind) (map (sort_of_name names) block.live_in)
        (replicate (length op.results - length block.live_in) (record { kind = General; copied = saved }))
        ∙ ap (λ (ks : List Kind). ks ++ map (λ (s : Sort). s.kind)
        (replicate (length op.results - length block.live_in) (record { kind = General; copied = saved }))) (name_kinds block.live_in)
        ∙ ap (λ (ks : List Kind). map (name_kind names) block.live_in ++ ks)
        (same_kinds (length op.results - length block.live_in) (record { kind = General; copied = saved }))
    sorts_kinds block saved (Body o) op h c = result_kinds op.results (result_kind o.op) true
    sorts_kinds block saved Out op h c = no_kinds op.results c
    sorts_kinds block saved (End term) op h c = no_kinds op.results c
    sorts_kinds block saved (Copy node) op h c = absurd (cc h)
    sorts_kinds block saved Enter op h c = absurd (cc h)
    sorts_kinds block saved Leave op h c = absurd (cc h)

    kinds_length : (block : ExtBlock) (kind : ExtKind) (op : ExtOp) → length op.results ≡ result_count t block kind
        → length (defined_kinds names block kind op) ≡ length op.results
    kinds_length block In op c =
        let a = length-append (map (name_kind names) block.live_in) (replicate (length op.results - length block.live_in) General) in
        let b = length-map block.live_in (name_kind names) in
        let d = length-replicate (length op.results - length block.live_in) General in
        omega (arith, a, b, d, c)
    kinds_length block (Body o) op c = length-map op.results (λ (y : TempId). result_kind o.op)
    kinds_length block _ op c = length-map op.results (λ (y : TempId). General)

    first_known : (before : List TempId) (ys : List TempId) → 0 < length ys → All (Contains before) ys
        → Contains before (temp (first_of ys))
    first_known before [] h all = absurd (omega arith)
    first_known before (y ∷ ys) h all = All-head (Contains before) y ys all

    reads_old : (before : List TempId) (i : ℕ) (xs : List Operand) (ws : List Want) → Numbers low before i
        → AllZip (IsGoodOperand names old before) xs ws
        → AllZip (ReadsOld i) xs ws
    reads_old before i [] [] numbers h = tt
    reads_old before i [] (w ∷ ws) numbers h = absurd h
    reads_old before i (x ∷ xs) [] numbers h = absurd h
    reads_old before i (x ∷ xs) (w ∷ ws) numbers h =
        let g = h.0 in
        let b = numbers_bounds low i before (first_of x.alts) numbers (first_known before x.alts g.chooses g.known) in
        (record { above = b.0; below = b.1; kind = g.kind; home = g.home }, reads_old before i xs ws numbers h.1)

    is_new : (read : Growth) (count : ℕ) (made : ExtOp) → made.results ≡ new_temps read count → Facts read → Fits (read.ops ++ made ∷ [])
        → carried_by made.kind made ≡ made.results → (j : ℕ) (sort : Sort) (i : ℕ)
        → j < count → slice_get (defined_kinds names owner made.kind made) j ≡ Some sort.kind
        → slice_get (all_kinds names old) i ≡ Some sort.kind
        → IsNew (read.next + j) i sort
    is_new read count made are f h same j sort i inside kind was =
        let l = length-map-range_with_len temp read.next count in
        let got : slice_get (carried_by made.kind made) j ≡ Some (temp (read.next + j)) =
        ap (λ (xs : List TempId). slice_get xs j) (same ∙ are)
        ∙ slice_get-get_or (new_temps read count) j (temp (read.next + j)) (omega (arith, l, inside))
        ∙ ap Some (get_or-map-range_with_len temp read.next count j (read.next + j) (temp (read.next + j)) inside refl) in
        let itself = carried_new read made f h j (temp (read.next + j)) got in
        record {
          itself = itself;
          kind = ap (λ (v : TempId). slice_get (all_kinds names new) v.0) itself ∙ kind_new read made f h j sort.kind kind;
          was = ap (λ (v : TempId). slice_get (all_kinds names old) v.0) (alone i) ∙ was;
        }

    pub record Grown (g grown : Growth) (count : ℕ) : Type 0 where
      pub facts : Facts grown
      pub values : length grown.values ≡ length g.values + count

    pub extended_grow : (is_entry saved : Bool) (op : ExtOp) (g : Growth)
        → Fits (let grown = with_extended names was.live_in is_entry saved op g in grown.ops) → Fits g.ops
    extended_grow is_entry saved op g h =
        let before = with_leave op.kind g in
        let read = with_operands op.operands before in
        let count = length op.results in
        let made : ExtOp = record { kind = op.kind; operands = new_operands op.operands before; results = new_temps read count } in
        let here = with_results op.kind (new_operands op.operands before) count read in
        let sorts = sorts_of names was.live_in saved op.kind count in
        leave_grow op.kind g (operands_grow op.operands before (fits_less read.ops (made ∷ [])
        (values_grow read.next sorts here (enter_grow is_entry op.kind (with_values read.next sorts here) h))))

    pub extended_step : (is_entry saved : Bool) (op : ExtOp) (g : Growth) (seen : List TempId) (front more : List Kind) → IsPlainOp op
        → IsGoodExtOp t names old was seen op → Numbers low seen (length g.values)
        → all_kinds names old ≡ front ++ (defined_kinds names was op.kind op ++ more) → length front ≡ length g.values
        → Fits (let grown = with_extended names was.live_in is_entry saved op g in grown.ops) → Facts g
        → Grown g (with_extended names was.live_in is_entry saved op g) (length op.results)
    extended_step is_entry saved op g seen front more plain good seen_numbers is long h f =
        let before = with_leave op.kind g in
        let read = with_operands op.operands before in
        let count = length op.results in
        let made : ExtOp = record { kind = op.kind; operands = new_operands op.operands before; results = new_temps read count } in
        let here = with_results op.kind (new_operands op.operands before) count read in
        let sorts = sorts_of names was.live_in saved op.kind count in
        let all = with_values read.next sorts here in
        let h1 = enter_grow is_entry op.kind all h in
        let h2 = values_grow read.next sorts here h1 in
        let h3 = fits_less read.ops (made ∷ []) h2 in
        let v0 : length before.values ≡ length g.values = ap (λ (vs : List Value). length vs) (leave_values op.kind g) in
        let wants = wants_of t names old was op.kind op in
        let r = operands_step op.operands wants before h3 (leave_step op.kind g f)
        (subst (λ (k : ℕ). AllZip (ReadsOld k) op.operands wants) (sym v0)
        (reads_old seen (length g.values) op.operands wants seen_numbers good.operands)) in
        let f1 = r.facts in
        let width : length (new_temps read count) ≡ count = length-map-range_with_len temp read.next count in
        let c0 : length op.results ≡ result_count t was op.kind = good.results in
        let c1 : length (new_temps read count) ≡ result_count t owner op.kind = width ∙ c0 ∙ count_kept op.kind in
        let made_good : IsGoodExtOp t names new owner (results_of read.ops) made = record {
          kind = kind_kept op.kind op made plain.kind good.kind;
          operands = subst (λ (ws : List Want). AllZip (IsGoodOperand names new (results_of read.ops)) (new_operands op.operands before) ws)
              (wants_kept op.kind op made plain.kind)
              (r.good (results_of read.ops) f1.numbers);
          results = c1;
        } in
        let f2 : Facts here = add_op read made count f1 made_good refl
        (ap (λ (xs : List TempId). length xs) (carried_plain op.kind made plain.kind) ∙ width)
        (kinds_length owner op.kind made c1 ∙ width) in
        let ks0 : map (λ (s : Sort). s.kind) sorts ≡ defined_kinds names was op.kind op = sorts_kinds was saved op.kind op plain.kind c0 in
        let ks1 : map (λ (s : Sort). s.kind) sorts ≡ defined_kinds names owner op.kind made =
        ap (λ (xs : List NameId). map (λ (s : Sort). s.kind) (sorts_of names xs saved op.kind count)) (sym same_in)
        ∙ ap (λ (k : ℕ). map (λ (s : Sort). s.kind) (sorts_of names owner.live_in saved op.kind k)) (sym width)
        ∙ sorts_kinds owner saved op.kind made plain.kind c1 in
        let total : length sorts ≡ count =
        sym (length-map sorts (λ (s : Sort). s.kind)) ∙ ap (λ (ks : List Kind). length ks) ks0 ∙ kinds_length was op.kind op c0 in
        let v1 : length here.values ≡ length g.values = r.count ∙ v0 in
        let low_ok = start_below read f1 in
        let f3 : Facts all = values_step read.next sorts here h1 f2 low_ok (omega (arith, total))
        (λ j sort got. is_new read count made refl f1 h2 (carried_plain op.kind made plain.kind) j sort (length here.values + j)
        (let b = slice_get_within sorts j sort got in omega (arith, b, total))
        (sym (ap (λ (ks : List Kind). slice_get ks j) ks1) ∙ slice_get-map (λ (s : Sort). s.kind) sorts j
        ∙ ap (option_map (λ (s : Sort). s.kind)) got)
        (ap (λ (k : ℕ). slice_get (all_kinds names old) (k + j)) (v1 ∙ sym long)
        ∙ ap (λ (ks : List Kind). slice_get ks (length front + j)) is
        ∙ got_right front (defined_kinds names was op.kind op ++ more) j
        ∙ got_left (defined_kinds names was op.kind op) more j sort.kind
        (sym (ap (λ (ks : List Kind). slice_get ks j) ks0) ∙ slice_get-map (λ (s : Sort). s.kind) sorts j
        ∙ ap (option_map (λ (s : Sort). s.kind)) got))) in
        let v2 = values_count read.next sorts here in
        let v3 : length (let grown = with_enter is_entry op.kind all in grown.values) ≡ length all.values =
        ap (λ (vs : List Value). length vs) (enter_values is_entry op.kind all) in
        record { facts = enter_step is_entry op.kind all f3; values = omega (arith, v1, v2, v3, total) }

    -- ---- all operations of a block

    abbrev was_kinds : List ExtOp → List Kind
    was_kinds ops = flat_map (λ (op : ExtOp). defined_kinds names was op.kind op) ops

    all_grow : (is_entry saved : Bool) (ops : List ExtOp) (g : Growth)
        → Fits (let grown = with_all_extended names was.live_in is_entry saved ops g in grown.ops) → Fits g.ops
    all_grow is_entry saved [] g h = h
    all_grow is_entry saved (op ∷ ops) g h = extended_grow is_entry saved op g
        (all_grow is_entry saved ops (with_extended names was.live_in is_entry saved op g) h)

    pub all_step : (is_entry saved : Bool) (ops : List ExtOp) (g : Growth) (seen : List TempId) (front more : List Kind) (m : ℕ)
        → All IsPlainOp ops
        → AreGoodOps t names old was seen ops → Numbers low seen (length g.values) → Numbers (length g.values) (results_of ops) m
        → all_kinds names old ≡ front ++ (was_kinds ops ++ more) → length front ≡ length g.values
        → Fits (let grown = with_all_extended names was.live_in is_entry saved ops g in grown.ops) → Facts g
        → Grown g (with_all_extended names was.live_in is_entry saved ops g) (length (results_of ops))
    all_step is_entry saved [] g seen front more m plain good seen_numbers numbers is long h f = record { facts = f; values = omega arith }
    all_step is_entry saved (op ∷ ops) g seen front more m plain good seen_numbers numbers is long h f =
        let next = with_extended names was.live_in is_entry saved op g in
        let here = defined_kinds names was op.kind op in
        let apart : all_kinds names old ≡ front ++ (here ++ (was_kinds ops ++ more)) = is
        ∙ ap (λ (ks : List Kind). front ++ ks) (append_assoc here (was_kinds ops) more) in
        let joined : all_kinds names old ≡ (front ++ here) ++ (was_kinds ops ++ more) = apart
        ∙ sym (append_assoc front here (was_kinds ops ++ more)) in
        let one_good = good.0 in
        let one = extended_step is_entry saved op g seen front (was_kinds ops ++ more) (All-head IsPlainOp op ops plain) one_good
        seen_numbers apart long
        (all_grow is_entry saved ops next h) f in
        let split = numbers_split (length g.values) m op.results (results_of ops) numbers in
        let width = kinds_length was op.kind op one_good.results in
        let l = length-append front here in
        let v = one.values in
        let rest = all_step is_entry saved ops next (seen ++ op.results) (front ++ here) more m (All-tail IsPlainOp op ops plain) good.1
        (subst (λ (k : ℕ). Numbers low (seen ++ op.results) k) (sym v)
        (numbers_append low (length g.values) (length g.values + length op.results) seen op.results seen_numbers split.front))
        (subst (λ (k : ℕ). Numbers k (results_of ops) m) (sym v) split.back) joined (omega (arith, l, width, long, v)) h one.facts in
        let w = rest.values in
        let q = length-append op.results (results_of ops) in
        record { facts = rest.facts; values = omega (arith, v, w, q) }
