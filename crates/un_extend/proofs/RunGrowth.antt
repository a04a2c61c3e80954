-- A block's operations extended: the first temporary of each value stays the same, and the copies are read by no operand.
use Rattle.std.proofs.Common.{◌≡◌, ℕ, zero, suc, ◌+◌, ◌-◌, ◌<◌, ◌≤◌, ◌++◌, Bool, true, false, List, [], ◌∷◌, Option, Some, None, map}
use Rattle.std.proofs.Common.{length, replicate, get_or, slice_get, slice_set, if◌then◌else◌, refl, sym, ap, ◌∙◌, arith, subst}
use Rattle.std.proofs.Common.{append_assoc, append-nil}
use Rattle.std.specs.List.{range_with_len, AllZip}
use Rattle.std.proofs.lemmas.List.{length-append, length-replicate, length-map}
use Rattle.std.proofs.lemmas.List.FromFn.{length-range_with_len}
use Rattle.un_base.specs.declared.ids.NameId.{NameId}
use Rattle.un_base.specs.declared.ids.TempId.{TempId}
use Rattle.un_ir.specs.declared.function.Kind.{Kind}
use Rattle.un_ir.specs.declared.function.Kind.TheVariants.{General, Pred}
use Rattle.un_ir.specs.declared.extended.NodeCopy.{NodeCopy}
use Rattle.un_ir.specs.declared.extended.NodeCopy.TheVariants.{D, D2, U, U2}
use Rattle.un_ir.specs.declared.extended.ExtKind.{ExtKind}
use Rattle.un_ir.specs.declared.extended.ExtKind.TheVariants.{In, Out, Body, End, Enter, Leave}
use Rattle.un_ir.specs.declared.extended.Operand.{Operand}
use Rattle.un_ir.specs.declared.extended.ExtOp.{ExtOp}
use Rattle.un_ir.specs.declared.extended.Sort.{Sort}
use Rattle.un_ir.specs.declared.extended.Value.{Value}
use Rattle.un_ir.specs.declared.extended.Growth.{Growth}
use Rattle.un_ir.specs.Extended.{temp, is_return, results_of}
use Rattle.un_ir.specs.ExtendOf.{copy_op, frame_op, with_op, with_copy, with_copies, copy_count, new_temps, with_value, with_values}
use Rattle.un_ir.specs.ExtendOf.{with_operand_by, with_operand, alternatives, with_operands, new_operands, sort_of_name, sorts_of}
use Rattle.un_ir.specs.ExtendOf.{with_results, with_leave, with_enter, with_extended, with_all_extended}
use Rattle.un_ir.specs.Linear.{first_of}
use Rattle.un_extend.proofs.RunTails.{Reads, Tail, tail_done, tail_copy, tail_enter, tail_leave, op_with, bare_op, tail_body, tail_end}
use Rattle.un_extend.proofs.RunTails.{tail_out}

-- ---- the first temporaries of values

abbrev pub Begins : ℕ → List TempId → Type 0
Begins f xs = (rest : List TempId) × (xs ≡ temp f ∷ rest)

abbrev pub HasFirst : Value → ℕ → Type 0
HasFirst v f = Begins f v.all

-- the values have these first temporaries
abbrev pub Knows : List Value → List ℕ → Type 0
Knows values firsts = AllZip HasFirst values firsts

knows_got : (values : List Value) (firsts : List ℕ) (x : ℕ) (v : Value) → Knows values firsts → slice_get values x ≡ Some v
    → Begins (get_or firsts x 0) v.all
knows_got [] firsts x v h e = absurd (cc e)
knows_got (w ∷ values) [] x v h e = absurd h
knows_got (w ∷ values) (f ∷ firsts) zero v h e = let same : w ≡ v = cc e in subst (λ (u : Value). Begins f u.all) same h.0
knows_got (w ∷ values) (f ∷ firsts) (suc x) v h e = knows_got values firsts x v h.1 e

knows_set : (values : List Value) (firsts : List ℕ) (x : ℕ) (v : Value) → Knows values firsts → Begins (get_or firsts x 0) v.all
    → Knows (slice_set values x v) firsts
knows_set [] [] x v h b = h
knows_set [] (f ∷ firsts) x v h b = absurd h
knows_set (w ∷ values) [] x v h b = absurd h
knows_set (w ∷ values) (f ∷ firsts) zero v h b = (b, h.1)
knows_set (w ∷ values) (f ∷ firsts) (suc x) v h b = (h.0, knows_set values firsts x v h.1 b)

knows_push : (values : List Value) (firsts : List ℕ) (v : Value) (f : ℕ) → Knows values firsts → Begins f v.all
    → Knows (values ++ v ∷ []) (firsts ++ f ∷ [])
knows_push [] [] v f h b = (b, tt)
knows_push [] (g ∷ firsts) v f h b = absurd h
knows_push (w ∷ values) [] v f h b = absurd h
knows_push (w ∷ values) (g ∷ firsts) v f h b = (h.0, knows_push values firsts v f h.1 b)

alternatives_first : (values : List Value) (firsts : List ℕ) (x : ℕ) → Knows values firsts → x < length firsts
    → first_of (alternatives (slice_get values x)) ≡ get_or firsts x 0
alternatives_first [] [] x h below = absurd (omega arith)
alternatives_first [] (f ∷ firsts) x h below = absurd h
alternatives_first (w ∷ values) [] x h below = absurd h
alternatives_first (w ∷ values) (f ∷ firsts) zero h below = let b = h.0 in ap first_of b.1
alternatives_first (w ∷ values) (f ∷ firsts) (suc x) h below = alternatives_first values firsts x h.1 (omega arith)

begins_more : (f : ℕ) (xs more : List TempId) → Begins f xs → Begins f (xs ++ more)
begins_more f xs more b = (b.0 ++ more, ap (λ (ys : List TempId). ys ++ more) b.1)

knows_operand_by : (x : ℕ) (o : Option Value) (g : Growth) (firsts : List ℕ) → slice_get g.values x ≡ o → Knows g.values firsts
    → (let h = with_operand_by x o g in Knows h.values firsts)
knows_operand_by x None g firsts e k = k
knows_operand_by x (Some v) g firsts e k =
    knows_set g.values firsts x (record v { all = v.all ++ new_temps g (copy_count v.sort) }) k
    (begins_more (get_or firsts x 0) v.all (new_temps g (copy_count v.sort)) (knows_got g.values firsts x v k e))

knows_operand : (x : Operand) (g : Growth) (firsts : List ℕ) → Knows g.values firsts → (let h = with_operand x g in Knows h.values firsts)
knows_operand x g firsts k = knows_operand_by (first_of x.alts) (slice_get g.values (first_of x.alts)) g firsts refl k

knows_operands : (xs : List Operand) (g : Growth) (firsts : List ℕ) → Knows g.values firsts
    → (let h = with_operands xs g in Knows h.values firsts)
knows_operands [] g firsts k = k
knows_operands (x ∷ xs) g firsts k = knows_operands xs (with_operand x g) firsts (knows_operand x g firsts k)

knows_values : (n : ℕ) (sorts : List Sort) (g : Growth) (firsts : List ℕ) → Knows g.values firsts
    → (let h = with_values n sorts g in Knows h.values (firsts ++ range_with_len n (length sorts)))
knows_values n [] g firsts k = subst (Knows g.values) (sym (append-nil firsts)) k
knows_values n (sort ∷ sorts) g firsts k =
    let h = with_values (n + 1) sorts (with_value n sort g) in
    subst (Knows h.values) (append_assoc firsts (n ∷ []) (range_with_len (n + 1) (length sorts)))
    (knows_values (n + 1) sorts (with_value n sort g) (firsts ++ n ∷ [])
    (knows_push g.values firsts _ n k (new_temps g (copy_count sort), refl)))

knows_leave : (kind : ExtKind) (g : Growth) (firsts : List ℕ) → Knows g.values firsts → (let h = with_leave kind g in Knows h.values firsts)
knows_leave (End term) g firsts k = by (is_return term)
  where
    by : (b : Bool) → (let h = if b then with_op g (frame_op Leave) else g in Knows h.values firsts)
    by true = k
    by false = k
knows_leave _ g firsts k = k

knows_enter : (b : Bool) (kind : ExtKind) (g : Growth) (firsts : List ℕ) → Knows g.values firsts
    → (let h = with_enter b kind g in Knows h.values firsts)
knows_enter true In g firsts k = k
knows_enter true _ g firsts k = k
knows_enter false kind g firsts k = k

-- ---- what the operations read and define

-- operands read values from `base` on, below m
abbrev pub AreWithin : ℕ → ℕ → List Operand → Type 0
AreWithin base m [] = Unit {0}
AreWithin base m (x ∷ xs) = (base ≤ first_of x.alts) × (first_of x.alts < m) × AreWithin base m xs

-- how many values an operation behind a block's start defines
abbrev pub Defines : ExtKind → ℕ → Type 0
Defines (Body o) c = c ≤ 1
Defines (End term) c = c ≡ 0
Defines Out c = c ≡ 0
Defines _ c = ⊥

pub record FitsOp (base m : ℕ) (op : ExtOp) : Type 0 where
  pub read : AreWithin base m op.operands
  pub results : op.results ≡ map temp (range_with_len m (length op.results))
  pub count : Defines op.kind (length op.results)

abbrev pub FitsOps : ℕ → ℕ → List ExtOp → Type 0
FitsOps base m [] = Unit {0}
FitsOps base m (op ∷ ops) = FitsOp base m op × FitsOps base (m + length op.results) ops

reads_operands : (base : ℕ) (firsts : List ℕ) (xs : List Operand) (g : Growth) → Knows g.values firsts → AreWithin base (length firsts) xs
    → AllZip (Reads base firsts) xs (new_operands xs g)
reads_operands base firsts [] g k h = tt
reads_operands base firsts (x ∷ xs) g k h =
    let later = with_operand x g in
    let known = knows_operand x g firsts k in
    ((h.0, h.1, alternatives_first later.values firsts (first_of x.alts) known h.1), reads_operands base firsts xs later known h.2)

module _ (base : ℕ) where
  -- ---- growth that the linear function has nothing of

  pub record Idle (g h : Growth) : Type 0 where
    pub added : List ExtOp
    pub ops : h.ops ≡ g.ops ++ added
    pub tail : (firsts : List ℕ) (rest made : List ExtOp) → Tail base firsts h.next rest made → Tail base firsts g.next rest (added ++ made)

  idle_none : (g : Growth) → Idle g g
  idle_none g = record { added = []; ops = sym (append-nil g.ops); tail = λ firsts rest made t. t }

  idle_then : (f g h : Growth) → Idle f g → Idle g h → Idle f h
  idle_then f g h s t = record {
    added = s.added ++ t.added;
    ops = t.ops ∙ ap (λ (xs : List ExtOp). xs ++ t.added) s.ops ∙ append_assoc f.ops s.added t.added;
    tail = λ firsts rest made k. subst (Tail base firsts f.next rest) (sym (append_assoc s.added t.added made))
        (s.tail firsts rest (t.added ++ made) (t.tail firsts rest made k));
  }

  idle_copy : (node : NodeCopy) (alts : List TempId) (g : Growth) → Idle g (with_copy node alts g)
  idle_copy node alts g = record {
    added = copy_op node alts g.next ∷ [];
    ops = refl;
    tail = λ firsts rest made t. tail_copy base firsts g.next rest made node alts t;
  }

  idle_copies : (first second : NodeCopy) (kind : Kind) (copied : Bool) (alts : List TempId) (g : Growth)
      → Idle g (with_copies first second kind copied alts g)
  idle_copies first second General false alts g = idle_none g
  idle_copies first second Pred false alts g = idle_none g
  idle_copies first second General true alts g = idle_copy first alts g
  idle_copies first second Pred true alts g =
      idle_then g (with_copy first alts g) _ (idle_copy first alts g) (idle_copy second (alts ++ temp g.next ∷ []) (with_copy first alts g))

  idle_operand_by : (x : ℕ) (o : Option Value) (g : Growth) → Idle g (with_operand_by x o g)
  idle_operand_by x None g = idle_none g
  idle_operand_by x (Some v) g =
      let s = idle_copies U U2 v.sort.kind v.sort.copied v.own g in record { added = s.added; ops = s.ops; tail = s.tail }

  idle_operands : (xs : List Operand) (g : Growth) → Idle g (with_operands xs g)
  idle_operands [] g = idle_none g
  idle_operands (x ∷ xs) g =
      let k = first_of x.alts in
      idle_then g (with_operand x g) _ (idle_operand_by k (slice_get g.values k) g) (idle_operands xs (with_operand x g))

  idle_value : (n : ℕ) (sort : Sort) (g : Growth) → Idle g (with_value n sort g)
  idle_value n sort g =
      let s = idle_copies D D2 sort.kind sort.copied (temp n ∷ []) g in record { added = s.added; ops = s.ops; tail = s.tail }

  idle_values : (n : ℕ) (sorts : List Sort) (g : Growth) → Idle g (with_values n sorts g)
  idle_values n [] g = idle_none g
  idle_values n (sort ∷ sorts) g =
      idle_then g (with_value n sort g) _ (idle_value n sort g) (idle_values (n + 1) sorts (with_value n sort g))

  idle_leave : (kind : ExtKind) (g : Growth) → Idle g (with_leave kind g)
  idle_leave (End term) g = by (is_return term)
    where
      by : (b : Bool) → Idle g (if b then with_op g (frame_op Leave) else g)
      by true = record { added = frame_op Leave ∷ []; ops = refl; tail = λ firsts rest made t. tail_leave base firsts g.next rest made t }
      by false = idle_none g
  idle_leave _ g = idle_none g

  idle_enter : (b : Bool) (kind : ExtKind) (g : Growth) → Idle g (with_enter b kind g)
  idle_enter true In g = record {
    added = frame_op Enter ∷ [];
    ops = refl;
    tail = λ firsts rest made t. tail_enter base firsts g.next rest made t;
  }
  idle_enter true _ g = idle_none g
  idle_enter false kind g = idle_none g

  -- ---- one operation

  pub record OpStep (firsts : List ℕ) (g : Growth) (op : ExtOp) (h : Growth) : Type 0 where
    pub added : List ExtOp
    pub ops : h.ops ≡ g.ops ++ added
    pub last : List ℕ
    pub long : length last ≡ length firsts + length op.results
    pub tail : (rest made : List ExtOp) → Tail base last h.next rest made → Tail base firsts g.next (op ∷ rest) (added ++ made)
    pub knows : Knows h.values last

  -- an operation among copies
  around : (firsts last : List ℕ) (g read here h : Growth) (op new : ExtOp) → Idle g read → here.ops ≡ read.ops ++ new ∷ [] → Idle here h
      → length last ≡ length firsts + length op.results
      → ((rest made : List ExtOp) → Tail base last here.next rest made → Tail base firsts read.next (op ∷ rest) (new ∷ made))
      → Knows h.values last → OpStep firsts g op h
  around firsts last g read here h op new before own after long core knows = record {
    added = before.added ++ new ∷ after.added;
    ops = after.ops ∙ ap (λ (xs : List ExtOp). xs ++ after.added) own ∙ append_assoc read.ops (new ∷ []) after.added
        ∙ ap (λ (xs : List ExtOp). xs ++ new ∷ after.added) before.ops ∙ append_assoc g.ops before.added (new ∷ after.added);
    last = last;
    long = long;
    tail = λ rest made t. subst (Tail base firsts g.next (op ∷ rest)) (sym (append_assoc before.added (new ∷ after.added) made))
        (before.tail firsts (op ∷ rest) (new ∷ (after.added ++ made)) (core rest (after.added ++ made) (after.tail last rest made t)));
    knows = knows;
  }

  module _ (names : List Kind) (live_in : List NameId) (is_entry saved : Bool) where
    abbrev extended : ExtOp → Growth → Growth
    extended op g = with_extended names live_in is_entry saved op g

    abbrev op_of : ExtKind → List Operand → List TempId → ExtOp
    op_of kind xs results = record { kind = kind; operands = xs; results = results }

    op_step : (kind : ExtKind) (xs : List Operand) (results : List TempId) (g : Growth) (firsts : List ℕ)
        → AreWithin base (length firsts) xs
        → results ≡ map temp (range_with_len (length firsts) (length results)) → Defines kind (length results) → Knows g.values firsts
        → OpStep firsts g (op_of kind xs results) (extended (op_of kind xs results) g)
    op_step (Body o) xs results g firsts within numbered few k =
        let c = length results in
        let read = with_operands xs g in
        let ys = new_operands xs g in
        let own = op_with base (Body o) ys read.next c in
        let here = with_results (Body o) ys c read in
        let sorts = sorts_of names live_in saved (Body o) c in
        let valued = with_values read.next sorts here in
        let last = firsts ++ range_with_len read.next c in
        let many : length sorts ≡ c = length-replicate c _ in
        let known : Knows valued.values last = subst (λ (n : ℕ). Knows valued.values (firsts ++ range_with_len read.next n)) many
        (knows_values read.next sorts here firsts (knows_operands xs g firsts k)) in
        around firsts last g read here (with_enter is_entry (Body o) valued) _ own
        (idle_operands xs g) refl (idle_then here valued _ (idle_values read.next sorts here) (idle_enter is_entry (Body o) valued))
        (length-append firsts (range_with_len read.next c) ∙ ap (λ (n : ℕ). length firsts + n) (length-range_with_len read.next c))
        (λ rest made t. subst (λ (rs : List TempId). Tail base firsts read.next (op_of (Body o) xs rs ∷ rest) (own ∷ made)) (sym numbered)
        (tail_body base firsts read.next (length firsts) c rest made o xs ys refl few (reads_operands base firsts xs g k within) t))
        (knows_enter is_entry (Body o) valued last known)
    op_step (End term) xs [] g firsts within numbered few k =
        let before = with_leave (End term) g in
        let known = knows_leave (End term) g firsts k in
        let read = with_operands xs before in
        let ys = new_operands xs before in
        let here = with_results (End term) ys 0 read in
        let z : read.next + 0 ≡ read.next = omega arith in
        around firsts firsts g read here (with_enter is_entry (End term) here) _ (bare_op base (End term) ys)
        (idle_then g before read (idle_leave (End term) g) (idle_operands xs before)) refl (idle_enter is_entry (End term) here)
        (omega arith)
        (λ rest made t. tail_end base firsts read.next rest made term xs ys (reads_operands base firsts xs before known within)
        (subst (λ (n : ℕ). Tail base firsts n rest made) z t))
        (knows_enter is_entry (End term) here firsts (knows_operands xs before firsts known))
    op_step (End term) xs (r ∷ rs) g firsts within numbered few k = absurd (omega (arith, few))
    op_step Out xs [] g firsts within numbered few k =
        let read = with_operands xs g in
        let ys = new_operands xs g in
        let here = with_results Out ys 0 read in
        let z : read.next + 0 ≡ read.next = omega arith in
        around firsts firsts g read here (with_enter is_entry Out here) _ (bare_op base Out ys)
        (idle_operands xs g) refl (idle_enter is_entry Out here)
        (omega arith)
        (λ rest made t. tail_out base firsts read.next rest made xs ys (reads_operands base firsts xs g k within)
        (subst (λ (n : ℕ). Tail base firsts n rest made) z t))
        (knows_enter is_entry Out here firsts (knows_operands xs g firsts k))
    op_step Out xs (r ∷ rs) g firsts within numbered few k = absurd (omega (arith, few))
    op_step _ xs results g firsts within numbered few k = absurd few

    -- ---- operations

    pub record OpsStep (firsts : List ℕ) (g : Growth) (ops : List ExtOp) (h : Growth) : Type 0 where
      pub added : List ExtOp
      pub made : h.ops ≡ g.ops ++ added
      pub last : List ℕ
      pub long : length last ≡ length firsts + length (results_of ops)
      pub tail : Tail base firsts g.next ops added
      pub knows : Knows h.values last

    pub ops_step : (ops : List ExtOp) (g : Growth) (m : ℕ) (firsts : List ℕ) → m ≡ length firsts → FitsOps base m ops
        → Knows g.values firsts → OpsStep firsts g ops (with_all_extended names live_in is_entry saved ops g)
    ops_step [] g m firsts e h k = record {
      added = [];
      made = sym (append-nil g.ops);
      last = firsts;
      long = omega arith;
      tail = tail_done base firsts g.next;
      knows = k;
    }
    ops_step (op ∷ ops) g m firsts e h k =
        let f = h.0 in
        let s = op_step op.kind op.operands op.results g firsts (subst (λ (n : ℕ). AreWithin base n op.operands) e f.read)
        (f.results ∙ ap (λ (n : ℕ). map temp (range_with_len n (length op.results))) e) f.count k in
        let g2 = extended op g in
        let longer : m + length op.results ≡ length s.last = ap (λ (n : ℕ). n + length op.results) e ∙ sym s.long in
        let r = ops_step ops g2 (m + length op.results) s.last longer h.1 s.knows in
        record {
          added = s.added ++ r.added;
          made = r.made ∙ ap (λ (xs : List ExtOp). xs ++ r.added) s.ops ∙ append_assoc g.ops s.added r.added;
          last = r.last;
          long = let a = r.long in let b = s.long in let c = length-append op.results (results_of ops) in omega (arith, a, b, c);
          tail = s.tail ops r.added r.tail;
          knows = r.knows;
        }

    -- ---- a block's start

    sorts_count : (count : ℕ) → length live_in ≤ count → length (sorts_of names live_in saved In count) ≡ count
    sorts_count count h =
        let sort : Sort = record { kind = General; copied = saved } in
        let a = length-append (map (sort_of_name names) live_in) (replicate (count - length live_in) sort) in
        let b = length-map live_in (sort_of_name names) in
        let c = length-replicate (count - length live_in) sort in
        omega (arith, a, b, c, h)

    -- the first operation, which reads nothing, and whose results are the values at the block's start
    pub record StartStep (firsts : List ℕ) (values : List Value) (next count : ℕ) (h : Growth) : Type 0 where
      pub added : List ExtOp
      pub ops : h.ops ≡ record { kind = In; operands = []; results = map temp (range_with_len next count) } ∷ added
      pub tail : (rest made : List ExtOp) → Tail base (firsts ++ range_with_len next count) h.next rest made
          → Tail base (firsts ++ range_with_len next count) (next + count) rest (added ++ made)
      pub knows : Knows h.values (firsts ++ range_with_len next count)

    pub start_step : (firsts : List ℕ) (values : List Value) (next : ℕ) (results : List TempId) → length live_in ≤ length results
        → Knows values firsts
        → StartStep firsts values next (length results)
        (extended (record { kind = In; operands = []; results = results }) (record { ops = []; values = values; next = next }))
    start_step firsts values next results enough k =
        let count = length results in
        let g : Growth = record { ops = []; values = values; next = next } in
        let here = with_results In [] count g in
        let sorts = sorts_of names live_in saved In count in
        let valued = with_values next sorts here in
        let last = firsts ++ range_with_len next count in
        let idle = idle_then here valued _ (idle_values next sorts here) (idle_enter is_entry In valued) in
        let known : Knows valued.values last =
        subst (λ (n : ℕ). Knows valued.values (firsts ++ range_with_len next n)) (sorts_count count enough)
        (knows_values next sorts here firsts k) in
        record {
          added = idle.added;
          ops = idle.ops;
          tail = λ rest made t. idle.tail last rest made t;
          knows = knows_enter is_entry In valued last known;
        }
