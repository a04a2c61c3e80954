-- What the copies of a block that grows may read: their value and its own copies, and the second copy of an operand the first besides.
use Rattle.std.proofs.Common.{◌≡◌, ℕ, zero, suc, ◌+◌, ◌-◌, ◌<◌, ◌≤◌, ◌==◌, ◌++◌, not, Bool, true, false, cond, if◌then◌else◌, List, [], ◌∷◌}
use Rattle.std.proofs.Common.{Option, Some, None, map, length, drop, take, replicate, slice_get, refl, sym, ap, ◌∙◌, arith, subst}
use Rattle.std.proofs.Common.{append_assoc, append-nil, inl, inr}
use Rattle.std.specs.List.{filter}
use Rattle.std.proofs.lemmas.List.{length-append, length-map, length-replicate, length_push}
use Rattle.std.proofs.lemmas.List.Elements.{filter-append}
use Rattle.std.proofs.lemmas.Option.{slice_get_within}
use Rattle.un_base.specs.declared.ids.NameId.{NameId}
use Rattle.un_base.specs.declared.ids.TempId.{TempId}
use Rattle.un_ir.specs.declared.function.Kind.{Kind}
use Rattle.un_ir.specs.declared.function.Kind.TheVariants.{General, Pred}
use Rattle.un_ir.specs.declared.extended.NodeCopy.{NodeCopy}
use Rattle.un_ir.specs.declared.extended.NodeCopy.TheVariants.{D, D2, U, U2}
use Rattle.un_ir.specs.declared.extended.ExtKind.{ExtKind}
use Rattle.un_ir.specs.declared.extended.ExtKind.TheVariants.{In, Out, Body, End, Copy, Enter, Leave}
use Rattle.un_ir.specs.declared.extended.Operand.{Operand}
use Rattle.un_ir.specs.declared.extended.ExtOp.{ExtOp}
use Rattle.un_ir.specs.declared.extended.Growth.{Growth}
use Rattle.un_ir.specs.declared.extended.Sort.{Sort}
use Rattle.un_ir.specs.declared.extended.Value.{Value}
use Rattle.un_ir.specs.Extended.{temp, results_of, is_return}
use Rattle.un_ir.specs.ExtendOf.{frame_op, with_op, with_leave, with_enter, with_extended, with_all_extended, sort_of_name, sorts_of}
use Rattle.un_ir.specs.ExtendOf.{copy_op, copy_count_by, copy_count, with_copies, new_temps, value_of, with_value, with_values}
use Rattle.un_ir.specs.ExtendOf.{with_operand_by, with_operand, with_operands, new_operands, with_results}
use Rattle.un_ir.specs.Linear.{first_of}
use Rattle.un_extend.specs.Choices.{is_use, but_uses, read_besides}
use Rattle.un_extend.proofs.ChoiceMarks.{less_not, more_not, same_self, mine, at, at_push, at_none, copies_next}
use Rattle.un_extend.proofs.ChoiceSteps.{op_of, in_op, fresh, only_low, only_high, only_here}
use Rattle.un_extend.proofs.ExtendKept.{push_cases, set_cases}
use Rattle.un_extend.proofs.RunGrowth.{AreWithin, Begins, Defines, FitsOps}
use Rattle.un_extend.proofs.RunTails.{temps}

-- ---- lists

drop_last : {X : Type 0} (xs : List X) (x : X) → drop (length (xs ++ x ∷ []) - 1) (xs ++ x ∷ []) ≡ x ∷ []
drop_last {X} xs x = let l = length_push xs x in let z : length (xs ++ x ∷ []) - 1 ≡ length xs = omega (arith, l) in
    ap (λ n. drop n (xs ++ x ∷ [])) z ∙ all xs
  where
    all : (ys : List X) → drop (length ys) (ys ++ x ∷ []) ≡ x ∷ []
    all [] = refl
    all (y ∷ ys) = all ys

own_push : (xs : List ExtOp) (op : ExtOp) → is_use op.kind ≡ false → but_uses (xs ++ op ∷ []) ≡ but_uses xs ++ op ∷ []
own_push xs op h = filter-append (λ (o : ExtOp). not (is_use o.kind)) xs (op ∷ [])
    ∙ ap (λ (v : Bool). but_uses xs ++ cond (not v) (op ∷ []) []) h

use_push : (xs : List ExtOp) (op : ExtOp) → is_use op.kind ≡ true → but_uses (xs ++ op ∷ []) ≡ but_uses xs
use_push xs op h = filter-append (λ (o : ExtOp). not (is_use o.kind)) xs (op ∷ [])
    ∙ ap (λ (v : Bool). but_uses xs ++ cond (not v) (op ∷ []) []) h ∙ append-nil (but_uses xs)

-- ---- copies read their own

abbrev pub ReadsOwn : List ExtOp → ExtOp → Type 0
ReadsOwn before op = (node : NodeCopy) (x : Operand) → op.kind ≡ Copy node → slice_get op.operands 0 ≡ Some x
    → x.alts ≡ at (first_of x.alts) (but_uses before) ++ read_besides node before

abbrev pub AllRead : List ExtOp → List ExtOp → Type 0
AllRead before [] = Unit {0}
AllRead before (op ∷ ops) = ReadsOwn before op × AllRead (before ++ op ∷ []) ops

read_append : (before xs ys : List ExtOp) → AllRead before xs → AllRead (before ++ xs) ys → AllRead before (xs ++ ys)
read_append before [] ys h k = subst (λ (zs : List ExtOp). AllRead zs ys) (append-nil before) k
read_append before (x ∷ xs) ys h k = (
  h.0,
  read_append (before ++ x ∷ []) xs ys h.1 (subst (λ (zs : List ExtOp). AllRead zs ys) (sym (append_assoc before (x ∷ []) xs)) k),
)

pub read_push : (xs : List ExtOp) (op : ExtOp) → AllRead [] xs → ReadsOwn xs op → AllRead [] (xs ++ op ∷ [])
read_push xs op h k = read_append [] xs (op ∷ []) h (k, tt)

pub read_at : (before ops : List ExtOp) (k : ℕ) (op : ExtOp) → AllRead before ops → slice_get ops k ≡ Some op
    → ReadsOwn (before ++ take k ops) op
read_at before [] k op a h = absurd (cc h)
read_at before (o ∷ ops) zero op a h =
    let q : o ≡ op = cc h in subst (λ (xs : List ExtOp). ReadsOwn xs op) (sym (append-nil before)) (subst (ReadsOwn before) q a.0)
read_at before (o ∷ ops) (suc k) op a h =
    subst (λ (xs : List ExtOp). ReadsOwn xs op) (append_assoc before (o ∷ []) (take k ops)) (read_at (before ++ o ∷ []) ops k op a.1 h)

reads_copy : (node : NodeCopy) (ys : List TempId) (n : ℕ) (before : List ExtOp)
    → ys ≡ at (first_of ys) (but_uses before) ++ read_besides node before → ReadsOwn before (copy_op node ys n)
reads_copy node ys n before h other x is got =
    let a : node ≡ other = cc is in
    let own : Operand = record { alts = ys; home = None } in
    let c : own ≡ x = cc got in
    subst (λ (k : NodeCopy). x.alts ≡ at (first_of x.alts) (but_uses before) ++ read_besides k before) a
    (subst (λ (z : Operand). z.alts ≡ at (first_of z.alts) (but_uses before) ++ read_besides node before) c h)

-- ---- the copies of a value

record OwnCopies (n : ℕ) (g h : Growth) (count : ℕ) : Type 0 where
  reads : AllRead [] h.ops
  same : at n (but_uses h.ops) ≡ at n (but_uses g.ops) ++ new_temps g count
  other : (x : ℕ) → (n == x) ≡ false → at x (but_uses h.ops) ≡ at x (but_uses g.ops)

-- one more copy that is the value's own
one_own : (node : NodeCopy) (n m x : ℕ) (rest : List TempId) (xs : List ExtOp) → is_use (Copy node) ≡ false
    → at x (but_uses (xs ++ copy_op node (temp n ∷ rest) m ∷ [])) ≡ at x (but_uses xs) ++ (if n == x then temp m ∷ [] else [])
one_own node n m x rest xs h =
    ap (at x) (own_push xs (copy_op node (temp n ∷ rest) m) h) ∙ at_push x (but_uses xs) (copy_op node (temp n ∷ rest) m)
    ∙ ap (λ (ys : List TempId). at x (but_uses xs) ++ ys) (by (n == x))
  where
    by : (v : Bool) → cond v (temp m ∷ []) [] ≡ (if v then temp m ∷ [] else [])
    by true = refl
    by false = refl

own_same : (node : NodeCopy) (n m : ℕ) (rest : List TempId) (xs : List ExtOp) → is_use (Copy node) ≡ false
    → at n (but_uses (xs ++ copy_op node (temp n ∷ rest) m ∷ [])) ≡ at n (but_uses xs) ++ temp m ∷ []
own_same node n m rest xs h =
    one_own node n m n rest xs h ∙ ap (λ (v : Bool). at n (but_uses xs) ++ (if v then temp m ∷ [] else [])) (same_self n)

own_other : (node : NodeCopy) (n m x : ℕ) (rest : List TempId) (xs : List ExtOp) → is_use (Copy node) ≡ false → (n == x) ≡ false
    → at x (but_uses (xs ++ copy_op node (temp n ∷ rest) m ∷ [])) ≡ at x (but_uses xs)
own_other node n m x rest xs h k =
    one_own node n m x rest xs h ∙ ap (λ (v : Bool). at x (but_uses xs) ++ (if v then temp m ∷ [] else [])) k
    ∙ append-nil (at x (but_uses xs))

own_copies : (kind : Kind) (copied : Bool) (n : ℕ) (g : Growth) → at n (but_uses g.ops) ≡ temp n ∷ [] → AllRead [] g.ops
    → OwnCopies n g (with_copies D D2 kind copied (temp n ∷ []) g) (copy_count_by kind copied)
own_copies General false n g alone a = record { reads = a; same = sym (append-nil (at n (but_uses g.ops))); other = λ x h. refl }
own_copies Pred false n g alone a = record { reads = a; same = sym (append-nil (at n (but_uses g.ops))); other = λ x h. refl }
own_copies General true n g alone a = record {
  reads = read_push g.ops (copy_op D (temp n ∷ []) g.next) a (reads_copy D (temp n ∷ []) g.next g.ops
      (sym (ap (λ (ys : List TempId). ys ++ []) alone)));
  same = own_same D n g.next [] g.ops refl;
  other = λ x h. own_other D n g.next x [] g.ops refl h;
}
own_copies Pred true n g alone a =
    let first = copy_op D (temp n ∷ []) g.next in
    let second = copy_op D2 (temp n ∷ temp g.next ∷ []) (g.next + 1) in
    let one = own_same D n g.next [] g.ops refl in
    record {
      reads = read_push (g.ops ++ first ∷ []) second (read_push g.ops first a (reads_copy D (temp n ∷ []) g.next g.ops
          (sym (ap (λ (ys : List TempId). ys ++ []) alone))))
          (reads_copy D2 (temp n ∷ temp g.next ∷ []) (g.next + 1) (g.ops ++ first ∷ [])
          (sym (ap (λ (ys : List TempId). ys ++ []) (one ∙ ap (λ (ys : List TempId). ys ++ temp g.next ∷ []) alone))));
      same = own_same D2 n (g.next + 1) (temp g.next ∷ []) (g.ops ++ first ∷ []) refl
          ∙ ap (λ (ys : List TempId). ys ++ temp (g.next + 1) ∷ []) one
          ∙ append_assoc (at n (but_uses g.ops)) (temp g.next ∷ []) (temp (g.next + 1) ∷ []);
      other = λ x h. own_other D2 n (g.next + 1) x (temp g.next ∷ []) (g.ops ++ first ∷ []) refl h ∙ own_other D n g.next x [] g.ops refl h;
    }

-- ---- the copies of an operand

record UseCopies (g h : Growth) : Type 0 where
  reads : AllRead [] h.ops
  same : but_uses h.ops ≡ but_uses g.ops

use_copies : (kind : Kind) (copied : Bool) (f : ℕ) (rest : List TempId) (g : Growth) → temp f ∷ rest ≡ at f (but_uses g.ops)
    → AllRead [] g.ops → UseCopies g (with_copies U U2 kind copied (temp f ∷ rest) g)
use_copies General false f rest g is a = record { reads = a; same = refl }
use_copies Pred false f rest g is a = record { reads = a; same = refl }
use_copies General true f rest g is a = record {
  reads = read_push g.ops (copy_op U (temp f ∷ rest) g.next) a (reads_copy U (temp f ∷ rest) g.next g.ops (is ∙ sym (append-nil _)));
  same = use_push g.ops (copy_op U (temp f ∷ rest) g.next) refl;
}
use_copies Pred true f rest g is a =
    let first = copy_op U (temp f ∷ rest) g.next in
    let ys = (temp f ∷ rest) ++ temp g.next ∷ [] in
    let second = copy_op U2 ys (g.next + 1) in
    let one = use_push g.ops first refl in
    let last : results_of (drop (length (g.ops ++ first ∷ []) - 1) (g.ops ++ first ∷ [])) ≡ temp g.next ∷ [] =
    ap results_of (drop_last g.ops first) in
    record {
      reads = read_push (g.ops ++ first ∷ []) second
          (read_push g.ops first a (reads_copy U (temp f ∷ rest) g.next g.ops (is ∙ sym (append-nil _))))
          (reads_copy U2 ys (g.next + 1) (g.ops ++ first ∷ [])
          (ap (λ (zs : List TempId). zs ++ temp g.next ∷ []) (is ∙ sym (ap (at f) one))
          ∙ ap (λ (zs : List TempId). at f (but_uses (g.ops ++ first ∷ [])) ++ zs) (sym last)));
      same = use_push (g.ops ++ first ∷ []) second refl ∙ one;
    }

-- ---- values

module _ (low : ℕ) where
  pub record Owns (n m : ℕ) (g : Growth) : Type 0 where
    pub known : (i : ℕ) (v : Value) → slice_get g.values i ≡ Some v → low ≤ i
        → Begins (first_of v.own) v.own × (v.own ≡ at (first_of v.own) (but_uses g.ops)) × (first_of v.own < n)
    pub waiting : (x : ℕ) → n ≤ x → x < m → at x (but_uses g.ops) ≡ temp x ∷ []
    pub fresh : (x : ℕ) → m ≤ x → at x (but_uses g.ops) ≡ []
    pub reads : AllRead [] g.ops
    pub top : m ≤ g.next

  -- operations that define no value
  owns_idle : (n : ℕ) (g h : Growth) → h.values ≡ g.values → ((x : ℕ) → at x (but_uses h.ops) ≡ at x (but_uses g.ops)) → g.next ≡ h.next
      → AllRead [] h.ops → Owns n n g → Owns n n h
  owns_idle n g h vs is up reads a = record {
    known = λ i v got from. (let k = a.known i v (ap (λ (ws : List Value). slice_get ws i) (sym vs) ∙ got) from in
        (k.0, k.1 ∙ sym (is (first_of v.own)), k.2));
    waiting = λ x from to. absurd (omega (arith, from, to));
    fresh = λ x from. is x ∙ a.fresh x from;
    reads = reads;
    top = (let t = a.top in omega (arith, t, up));
  }

  owns_frame : (n : ℕ) (kind : ExtKind) (g : Growth) → is_use kind ≡ false → ((node : NodeCopy) → kind ≡ Copy node → ⊥)
      → ((x : ℕ) → mine x kind (frame_op kind) ≡ []) → Owns n n g → Owns n n (with_op g (frame_op kind))
  owns_frame n kind g used uncopied none a = owns_idle n g (with_op g (frame_op kind)) refl
      (λ x. ap (at x) (own_push g.ops (frame_op kind) used) ∙ at_none x (but_uses g.ops) (frame_op kind) (none x)) refl
      (read_push g.ops (frame_op kind) a.reads (λ node x is got. absurd (uncopied node is))) a

  owns_value : (n m : ℕ) (sort : Sort) (g : Growth) → n < m → Owns n m g → Owns (n + 1) m (with_value n sort g)
  owns_value n m sort g lt a =
      let h = with_value n sort g in
      let new = value_of n sort g in
      let alone = a.waiting n (omega arith) lt in
      let c = own_copies sort.kind sort.copied n g alone a.reads in
      let own : new.own ≡ at n (but_uses h.ops) =
      sym (c.same ∙ ap (λ (ys : List TempId). ys ++ new_temps g (copy_count sort)) alone) in
      record {
        known = λ i v got from. elim (push_cases g.values new i v got) [
          | inl old ↦ (let k = a.known i v old from in let l = k.2 in
              (k.0, k.1 ∙ sym (c.other (first_of v.own) (more_not n (first_of v.own) l)), omega (arith, l)))
          | inr last ↦ subst (λ (w : Value). Begins (first_of w.own) w.own × (w.own ≡ at (first_of w.own) (but_uses h.ops))
              × (first_of w.own < n + 1)) last.1 ((new_temps g (copy_count sort), refl), own, omega arith)
        ];
        waiting = λ x from to. c.other x (less_not n x (omega (arith, from))) ∙ a.waiting x (omega (arith, from)) to;
        fresh = λ x from. c.other x (less_not n x (omega (arith, lt, from))) ∙ a.fresh x from;
        reads = c.reads;
        top = (let t = a.top in let u = copies_next D D2 sort.kind sort.copied (temp n ∷ []) g in omega (arith, t, u));
      }

  owns_values : (sorts : List Sort) (n m : ℕ) (g : Growth) → n + length sorts ≡ m → Owns n m g → Owns m m (with_values n sorts g)
  owns_values [] n m g reach a = let z : n ≡ m = omega (arith, reach) in subst (λ (k : ℕ). Owns k m g) z a
  owns_values (sort ∷ sorts) n m g reach a =
      owns_values sorts (n + 1) m (with_value n sort g) (omega (arith, reach)) (owns_value n m sort g (omega (arith, reach)) a)

  owns_operand : (n i : ℕ) (o : Option Value) (g : Growth) → slice_get g.values i ≡ o → low ≤ i → Owns n n g
      → Owns n n (with_operand_by i o g)
  owns_operand n i None g at_i from a = a
  owns_operand n i (Some v) g at_i from a =
      let k = a.known i v at_i from in
      let sort = v.sort in
      let h = with_copies U U2 sort.kind sort.copied v.own g in
      let own = k.0 in
      let c : UseCopies g h = subst (λ (ys : List TempId). UseCopies g (with_copies U U2 sort.kind sort.copied ys g)) (sym own.1)
      (use_copies sort.kind sort.copied (first_of v.own) own.0 g (sym own.1 ∙ k.1) a.reads) in
      let longer : Value = record v { all = v.all ++ new_temps g (copy_count v.sort) } in
      record {
        known = λ j w got up. elim (set_cases g.values i longer j w got) [
          | inl is ↦ subst (λ (u : Value). Begins (first_of u.own) u.own × (u.own ≡ at (first_of u.own) (but_uses h.ops))
              × (first_of u.own < n)) is.1 (own, k.1 ∙ ap (at (first_of v.own)) (sym c.same), k.2)
          | inr old ↦ (let q = a.known j w old up in (q.0, q.1 ∙ ap (at (first_of w.own)) (sym c.same), q.2))
        ];
        waiting = λ x up to. absurd (omega (arith, up, to));
        fresh = λ x up. ap (at x) c.same ∙ a.fresh x up;
        reads = c.reads;
        top = (let t = a.top in let u = copies_next U U2 sort.kind sort.copied v.own g in omega (arith, t, u));
      }

  owns_operands : (xs : List Operand) (n m : ℕ) (g : Growth) → AreWithin low m xs → Owns n n g → Owns n n (with_operands xs g)
  owns_operands [] n m g within a = a
  owns_operands (x ∷ xs) n m g within a =
      let i = first_of x.alts in
      owns_operands xs n m (with_operand x g) within.2 (owns_operand n i (slice_get g.values i) g refl within.0 a)

  owns_results : (n count : ℕ) (kind : ExtKind) (ys : List Operand) (g : Growth) → is_use kind ≡ false
      → ((node : NodeCopy) → kind ≡ Copy node → ⊥)
      → ((x : ℕ) (op : ExtOp) → mine x kind op ≡ filter (λ (y : TempId). y.0 == x) op.results)
      → Owns n n g → Owns g.next (g.next + count) (with_results kind ys count g)
  owns_results n count kind ys g used uncopied own a =
      let made : ExtOp = record { kind = kind; operands = ys; results = new_temps g count } in
      let here = with_results kind ys count g in
      let up = a.top in
      let more : (x : ℕ) → at x (but_uses here.ops) ≡ at x (but_uses g.ops) ++ filter (λ (y : TempId). y.0 == x) (temps g.next count) =
      λ x. ap (at x) (own_push g.ops made used) ∙ at_push x (but_uses g.ops) made
      ∙ ap (λ (zs : List TempId). at x (but_uses g.ops) ++ zs) (own x made) in
      record {
        known = λ i v got from. (let k = a.known i v got from in let l = k.2 in (
          k.0,
          k.1 ∙ sym (more (first_of v.own) ∙ ap (λ (zs : List TempId). at (first_of v.own) (but_uses g.ops) ++ zs)
              (only_low (first_of v.own) g.next count (omega (arith, l, up))) ∙ append-nil (at (first_of v.own) (but_uses g.ops))),
          omega (arith, l, up),
        ));
        waiting = λ x from to. more x
            ∙ ap (λ (zs : List TempId). at x (but_uses g.ops) ++ zs) (only_here x g.next count from to)
            ∙ ap (λ (zs : List TempId). zs ++ temp x ∷ []) (a.fresh x (omega (arith, from, up)));
        fresh = λ x from. more x
            ∙ ap (λ (zs : List TempId). at x (but_uses g.ops) ++ zs) (only_high x g.next count from)
            ∙ append-nil (at x (but_uses g.ops)) ∙ a.fresh x (omega (arith, from, up));
        reads = read_push g.ops made a.reads (λ node x is got. absurd (uncopied node is));
        top = omega arith;
      }

  -- ---- operations

  module _ (names : List Kind) (live_in : List NameId) (is_entry saved : Bool) where
    abbrev grow : ExtOp → Growth → Growth
    grow op g = with_extended names live_in is_entry saved op g

    abbrev Owned : Growth → Type 0
    Owned g = (n : ℕ) × Owns n n g

    owns_leave : (kind : ExtKind) (n : ℕ) (g : Growth) → Owns n n g → Owns n n (with_leave kind g)
    owns_leave (End term) n g a = by (is_return term)
      where
        by : (v : Bool) → Owns n n (if v then with_op g (frame_op Leave) else g)
        by true = owns_frame n Leave g refl (λ node is. cc is) (λ x. refl) a
        by false = a
    owns_leave _ n g a = a

    owns_enter : (v : Bool) (kind : ExtKind) (n : ℕ) (g : Growth) → Owns n n g → Owns n n (with_enter v kind g)
    owns_enter true In n g a = owns_frame n Enter g refl (λ node is. cc is) (λ x. refl) a
    owns_enter true _ n g a = a
    owns_enter false _ n g a = a

    owns_op : (op : ExtOp) (g : Growth) (m : ℕ) → is_use op.kind ≡ false → ((node : NodeCopy) → op.kind ≡ Copy node → ⊥)
        → ((x : ℕ) (o : ExtOp) → mine x op.kind o ≡ filter (λ (y : TempId). y.0 == x) o.results)
        → AreWithin low m op.operands → length (sorts_of names live_in saved op.kind (length op.results)) ≡ length op.results
        → Owned g → Owned (grow op g)
    owns_op op g m used uncopied own within long a =
        let before = with_leave op.kind g in
        let read = with_operands op.operands before in
        let count = length op.results in
        let ys = new_operands op.operands before in
        let here = with_results op.kind ys count read in
        let a1 = owns_operands op.operands a.0 m before within (owns_leave op.kind a.0 g a.1) in
        let a2 = owns_results a.0 count op.kind ys read used uncopied own a1 in
        let sorts = sorts_of names live_in saved op.kind count in
        let a3 = owns_values sorts read.next (read.next + count) here (ap (λ (k : ℕ). read.next + k) long) a2 in
        (read.next + count, owns_enter is_entry op.kind (read.next + count) (with_values read.next sorts here) a3)

    owns_kind : (kind : ExtKind) (xs : List Operand) (rs : List TempId) (g : Growth) (m : ℕ) → AreWithin low m xs → Defines kind (length rs)
        → Owned g → Owned (grow (op_of kind xs rs) g)
    owns_kind (Body o) xs rs g m within few a =
        owns_op (op_of (Body o) xs rs) g m refl (λ node is. cc is) (λ x o. refl) within (length-replicate (length rs) _) a
    owns_kind (End term) xs [] g m within few a =
        owns_op (op_of (End term) xs []) g m refl (λ node is. cc is) (λ x o. refl) within refl a
    owns_kind (End term) xs (r ∷ rs) g m within few a = absurd (omega (arith, few))
    owns_kind Out xs [] g m within few a = owns_op (op_of Out xs []) g m refl (λ node is. cc is) (λ x o. refl) within refl a
    owns_kind Out xs (r ∷ rs) g m within few a = absurd (omega (arith, few))
    owns_kind _ xs rs g m within few a = absurd few

    owns_all : (ops : List ExtOp) (g : Growth) (m : ℕ) → FitsOps low m ops → Owned g
        → Owned (with_all_extended names live_in is_entry saved ops g)
    owns_all [] g m fits a = a
    owns_all (op ∷ ops) g m fits a =
        let f = fits.0 in
        owns_all ops (grow op g) (m + length op.results) fits.1 (owns_kind op.kind op.operands op.results g m f.read f.count a)

    -- a block extended
    pub all_read : (rs : List TempId) (ops : List ExtOp) (start : ℕ) (values : List Value) → length live_in ≤ length rs
        → length values ≡ low → FitsOps low (low + length rs) ops
        → AllRead [] (let h = with_all_extended names live_in is_entry saved (in_op rs ∷ ops) (fresh start values) in h.ops)
    all_read rs ops start values named long fits =
        let none : Owns start start (fresh start values) = record {
          known = λ i v got from. absurd (let l = slice_get_within values i v got in omega (arith, l, long, from));
          waiting = λ x from to. absurd (omega (arith, from, to));
          fresh = λ x from. refl;
          reads = tt;
          top = omega arith;
        } in
        let other : Sort = record { kind = General; copied = saved } in
        let a = length-append (map (sort_of_name names) live_in) (replicate (length rs - length live_in) other) in
        let c = length-map live_in (sort_of_name names) in
        let d = length-replicate (length rs - length live_in) other in
        let first = owns_op (in_op rs) (fresh start values) low refl (λ node is. cc is) (λ x o. refl) tt (omega (arith, a, c, d, named))
        (start, none) in
        let all = owns_all ops (grow (in_op rs) (fresh start values)) (low + length rs) fits first in
        let last = all.1 in
        last.reads
