-- The parts of an extended block: its copies, Enter and Leave stand around the operations of the linear block.
use Rattle.std.proofs.Common.{◌≡◌, ℕ, ◌+◌, ◌++◌, Bool, true, false, if◌then◌else◌, List, [], ◌∷◌, Option, Some}
use Rattle.std.proofs.Common.{None, length, slice_get, All, refl, sym, ap, ◌∙◌, arith, subst, append_assoc, append-nil}
use Rattle.std.specs.Option.{option_to_list}
use Rattle.std.proofs.lemmas.List.Elements.{All-nil, All-cons, All-head, All-tail, All-append, All-weaker}
use Rattle.un_base.specs.declared.ids.NameId.{NameId}
use Rattle.un_base.specs.declared.ids.TempId.{TempId}
use Rattle.un_ir.specs.declared.function.Kind.{Kind}
use Rattle.un_ir.specs.declared.function.Kind.TheVariants.{General, Pred}
use Rattle.un_ir.specs.declared.function.Term.{Term}
use Rattle.un_ir.specs.declared.extended.NodeCopy.{NodeCopy}
use Rattle.un_ir.specs.declared.extended.NodeCopy.TheVariants.{D, D2, U, U2}
use Rattle.un_ir.specs.declared.extended.ExtKind.{ExtKind}
use Rattle.un_ir.specs.declared.extended.ExtKind.TheVariants.{In, Out, Body, End, Copy, Enter, Leave}
use Rattle.un_ir.specs.declared.extended.Operand.{Operand}
use Rattle.un_ir.specs.declared.extended.ExtOp.{ExtOp}
use Rattle.un_ir.specs.declared.extended.Growth.{Growth}
use Rattle.un_ir.specs.declared.extended.Sort.{Sort}
use Rattle.un_ir.specs.declared.extended.Value.{Value}
use Rattle.un_ir.specs.Extended.{temp, AllAre, is_copy, is_end, is_enter, is_leave, is_inner, is_return, is_linear_kind, IsPlainOp, Parts}
use Rattle.un_ir.specs.Extended.{IsMadeOf, one_if}
use Rattle.un_ir.specs.Linear.{is_in, is_out, first_of, ending_of, ending_or, Ending}
use Rattle.un_ir.specs.ExtendOf.{frame_op, with_op, with_leave, with_enter, with_results, with_extended, with_all_extended, sorts_of}
use Rattle.un_ir.specs.ExtendOf.{copy_op, with_copies, new_temps, with_value, with_values, with_operand_by, with_operand}
use Rattle.un_ir.specs.ExtendOf.{with_operands, new_operands}

abbrev pub count : (ExtKind → Bool) → List ExtOp → ℕ
count test [] = 0
count test (op ∷ ops) = one_if (test op.kind) + count test ops

pub count_append : (test : ExtKind → Bool) (xs ys : List ExtOp) → count test (xs ++ ys) ≡ count test xs + count test ys
count_append test [] ys = omega arith
count_append test (x ∷ xs) ys = let r = count_append test xs ys in omega (arith, r)

-- some operations are added, of these kinds, with so many Enter and Leave
pub record Adds (test : ExtKind → Bool) (enters leaves : ℕ) (xs ys : List ExtOp) : Type 0 where
  pub more : List ExtOp
  pub is : ys ≡ xs ++ more
  pub all : AllAre test more
  pub enter : count is_enter more ≡ enters
  pub leave : count is_leave more ≡ leaves

adds_none : (test : ExtKind → Bool) (xs : List ExtOp) → Adds test 0 0 xs xs
adds_none test xs = record {
  more = [];
  is = sym (append-nil xs);
  all = All-nil (λ (op : ExtOp). test op.kind ≡ true);
  enter = refl;
  leave =
      refl;
}

pub adds_then : (test : ExtKind → Bool) (a b c d : ℕ) (xs ys zs : List ExtOp) → Adds test a b xs ys → Adds test c d ys zs
    → Adds test (a + c) (b + d) xs zs
adds_then test a b c d xs ys zs p q = record {
  more = p.more ++ q.more;
  is = q.is ∙ ap (λ (ws : List ExtOp). ws ++ q.more) p.is ∙ append_assoc xs p.more q.more;
  all = All-append (λ (op : ExtOp). test op.kind ≡ true) p.more q.more p.all q.all;
  enter = (let e = count_append is_enter p.more q.more in let f = p.enter in let g = q.enter in omega (arith, e, f, g));
  leave = (let e = count_append is_leave p.more q.more in let f = p.leave in let g = q.leave in omega (arith, e, f, g));
}

adds_one : (test : ExtKind → Bool) (xs : List ExtOp) (op : ExtOp) → test op.kind ≡ true
    → Adds test (one_if (is_enter op.kind)) (one_if (is_leave op.kind)) xs (xs ++ op ∷ [])
adds_one test xs op h = record {
  more = op ∷ [];
  is = refl;
  all = All-cons (λ (op : ExtOp). test op.kind ≡ true) op [] h (All-nil (λ (op : ExtOp). test op.kind ≡ true));
  enter = omega arith;
  leave = omega arith;
}

adds_wider : (test other : ExtKind → Bool) (a b : ℕ) (xs ys : List ExtOp) → ((kind : ExtKind) → test kind ≡ true → other kind ≡ true)
    → Adds test a b xs ys
    → Adds other a b xs ys
adds_wider test other a b xs ys h p = record {
  more = p.more;
  is = p.is;
  all = All-weaker (λ (op : ExtOp). test op.kind ≡ true) (λ (op : ExtOp). other op.kind ≡ true) (λ op k. h op.kind k) p.more p.all;
  enter = p.enter;
  leave = p.leave;
}

copy_inner : (kind : ExtKind) → is_copy kind ≡ true → is_inner kind ≡ true
copy_inner (Copy node) h = refl
copy_inner In h = absurd (cc h)
copy_inner Out h = absurd (cc h)
copy_inner (Body o) h = absurd (cc h)
copy_inner (End term) h = absurd (cc h)
copy_inner Enter h = absurd (cc h)
copy_inner Leave h = absurd (cc h)

abbrev Copied : Growth → Growth → Type 0
Copied g grown = Adds is_copy 0 0 g.ops grown.ops

copies_add : (first second : NodeCopy) (kind : Kind) (copied : Bool) (ys : List TempId) (g : Growth)
    → Copied g (with_copies first second kind copied ys g)
copies_add first second kind false ys g = adds_none is_copy g.ops
copies_add first second General true ys g = adds_one is_copy g.ops (copy_op first ys g.next) refl
copies_add first second Pred true ys g =
    adds_then is_copy 0 0 0 0 g.ops (g.ops ++ copy_op first ys g.next ∷ []) _ (adds_one is_copy g.ops (copy_op first ys g.next) refl)
    (adds_one is_copy (g.ops ++ copy_op first ys g.next ∷ []) (copy_op second (ys ++ temp g.next ∷ []) (g.next + 1)) refl)

pub values_add : (n : ℕ) (sorts : List Sort) (g : Growth) → Copied g (with_values n sorts g)
values_add n [] g = adds_none is_copy g.ops
values_add n (sort ∷ sorts) g =
    adds_then is_copy 0 0 0 0 g.ops (let grown = with_value n sort g in grown.ops) (let grown = with_values n (sort ∷ sorts) g in grown.ops)
    (copies_add D D2 sort.kind sort.copied (temp n ∷ []) g) (values_add (n + 1) sorts (with_value n sort g))

by_add : (i : ℕ) (o : Option Value) (g : Growth) → Copied g (with_operand_by i o g)
by_add i None g = adds_none is_copy g.ops
by_add i (Some v) g = copies_add U U2 (let sort = v.sort in sort.kind) (let sort = v.sort in sort.copied) v.own g

pub operands_add : (xs : List Operand) (g : Growth) → Copied g (with_operands xs g)
operands_add [] g = adds_none is_copy g.ops
operands_add (x ∷ xs) g =
    adds_then is_copy 0 0 0 0 g.ops (let grown = with_operand x g in grown.ops) (let grown = with_operands (x ∷ xs) g in grown.ops)
    (by_add (first_of x.alts) (slice_get g.values (first_of x.alts)) g) (operands_add xs (with_operand x g))

pub enter_same : (is_entry : Bool) (kind : ExtKind) (g : Growth) → is_in kind ≡ false → with_enter is_entry kind g ≡ g
enter_same true In g h = absurd (cc h)
enter_same _ _ g h = refl

-- ---- the operations of a linear block

module _ (names : List Kind) (live_in : List NameId) (is_entry saved : Bool) where
  abbrev grows : ExtOp → Growth → Growth
  grows op g = with_extended names live_in is_entry saved op g

  abbrev Inner : ℕ → ℕ → Growth → Growth → Type 0
  Inner enters leaves g grown = Adds is_inner enters leaves g.ops grown.ops

  inner_add : (kind : ExtKind) (operands : List Operand) (results : List TempId) (g : Growth) → is_inner kind ≡ true
      → is_linear_kind kind ≡ true
      → Inner 0 0 g (grows (record { kind = kind; operands = operands; results = results }) g)
  inner_add (Body o) operands results g h k =
      let read = with_operands operands g in
      let here = with_results (Body o) (new_operands operands g) (length results) read in
      let all = with_values read.next (sorts_of names live_in saved (Body o) (length results)) here in
      subst (λ (grown : Growth). Adds is_inner 0 0 g.ops grown.ops) (sym (enter_same is_entry (Body o) all refl))
      (adds_then is_inner 0 0 0 0 g.ops read.ops all.ops (adds_wider is_copy is_inner 0 0 g.ops read.ops copy_inner
      (operands_add operands g))
      (adds_then is_inner 0 0 0 0 read.ops here.ops all.ops
      (adds_one is_inner read.ops (record { kind = Body o; operands = new_operands operands g; results = new_temps read (length results) })
      refl)
      (adds_wider is_copy is_inner 0 0 here.ops all.ops copy_inner
      (values_add read.next (sorts_of names live_in saved (Body o) (length results)) here))))
  inner_add In operands results g h k = absurd (cc h)
  inner_add Out operands results g h k = absurd (cc h)
  inner_add (End term) operands results g h k = absurd (cc h)
  inner_add (Copy node) operands results g h k = absurd (cc k)
  inner_add Enter operands results g h k = absurd (cc k)
  inner_add Leave operands results g h k = absurd (cc k)

  pub all_inner_add : (ops : List ExtOp) (g : Growth) → AllAre is_inner ops → All IsPlainOp ops
      → Inner 0 0 g (with_all_extended names live_in is_entry saved ops g)
  all_inner_add [] g h k = adds_none is_inner g.ops
  all_inner_add (op ∷ ops) g h k =
      let p = All-head IsPlainOp op ops k in
      adds_then is_inner 0 0 0 0 g.ops (let grown = grows op g in grown.ops)
      (let grown = with_all_extended names live_in is_entry saved (op ∷ ops) g in grown.ops)
      (inner_add op.kind op.operands op.results g (All-head (λ (op : ExtOp). is_inner op.kind ≡ true) op ops h) p.kind)
      (all_inner_add ops (grows op g) (All-tail (λ (op : ExtOp). is_inner op.kind ≡ true) op ops h) (All-tail IsPlainOp op ops k))

  -- the block's start
  pub record Begun (results : List TempId) (g grown : Growth) : Type 0 where
    pub first : ExtOp
    pub is_first : is_in first.kind ≡ true
    pub later : Adds is_inner (one_if is_entry) 0 (g.ops ++ first ∷ []) grown.ops

  pub start_add : (kind : ExtKind) (operands : List Operand) (results : List TempId) (g : Growth) → is_in kind ≡ true → operands ≡ []
      → Begun results g (grows (record { kind = kind; operands = operands; results = results }) g)
  start_add In (x ∷ operands) results g h e = absurd (cc e)
  start_add In [] results g h e =
      let made : ExtOp = record { kind = In; operands = []; results = new_temps g (length results) } in
      let here = with_results In [] (length results) g in
      let all = with_values g.next (sorts_of names live_in saved In (length results)) here in
      record {
        first = made;
        is_first = refl;
        later = (let a = adds_then is_inner 0 0 (one_if is_entry) 0 here.ops all.ops (let grown = with_enter is_entry In all in grown.ops)
            (adds_wider is_copy is_inner 0 0 here.ops all.ops copy_inner
            (values_add g.next (sorts_of names live_in saved In (length results)) here)) (by is_entry all) in
            record { more = a.more; is = a.is; all = a.all; enter = (let e = a.enter in omega (arith, e)); leave = a.leave });
      }
    where
      by : (v : Bool) (all : Growth) → Adds is_inner (one_if v) 0 all.ops (let grown = with_enter v In all in grown.ops)
      by true all = adds_one is_inner all.ops (frame_op Enter) refl
      by false all = adds_none is_inner all.ops
  start_add Out operands results g h e = absurd (cc h)
  start_add (Body o) operands results g h e = absurd (cc h)
  start_add (End term) operands results g h e = absurd (cc h)
  start_add (Copy node) operands results g h e = absurd (cc h)
  start_add Enter operands results g h e = absurd (cc h)
  start_add Leave operands results g h e = absurd (cc h)

  -- the terminator, behind its copies and Leave
  pub record Ended (term : Term) (g grown : Growth) : Type 0 where
    pub front : List ExtOp
    pub before : Adds is_inner 0 (one_if (is_return term)) g.ops front
    pub last : ExtOp
    pub is_last : last.kind ≡ End term
    pub whole : grown.ops ≡ front ++ last ∷ []

  pub end_add : (term : Term) (operands : List Operand) (results : List TempId) (g : Growth)
      → Ended term g (grows (record { kind = End term; operands = operands; results = results }) g)
  end_add term operands results g =
      let before = with_leave (End term) g in
      let read = with_operands operands before in
      record {
        front = read.ops;
        before = (let a = adds_then is_inner 0 (one_if (is_return term)) 0 0 g.ops before.ops read.ops (by (is_return term))
            (adds_wider is_copy is_inner 0 0 before.ops read.ops copy_inner (operands_add operands before)) in
            record { more = a.more; is = a.is; all = a.all; enter = a.enter; leave = (let e = a.leave in omega (arith, e)) });
        last = record { kind = End term; operands = new_operands operands before; results = new_temps read (length results) };
        is_last = refl;
        whole = ap (λ (grown : Growth). grown.ops) (enter_same is_entry (End term)
            (with_results (End term) (new_operands operands before) (length results) read) refl);
      }
    where
      by : (v : Bool) → Adds is_inner 0 (one_if v) g.ops (let grown = if v then with_op g (frame_op Leave) else g in grown.ops)
      by true = adds_one is_inner g.ops (frame_op Leave) refl
      by false = adds_none is_inner g.ops

  -- what the block's end reads, behind its copies
  pub record Closed (g grown : Growth) : Type 0 where
    pub front : List ExtOp
    pub before : Adds is_copy 0 0 g.ops front
    pub last : ExtOp
    pub is_last : is_out last.kind ≡ true
    pub whole : grown.ops ≡ front ++ last ∷ []

  pub out_add : (kind : ExtKind) (operands : List Operand) (results : List TempId) (g : Growth) → is_out kind ≡ true
      → Closed g (grows (record { kind = kind; operands = operands; results = results }) g)
  out_add Out operands results g h =
      let read = with_operands operands g in
      record {
        front = read.ops;
        before = operands_add operands g;
        last = record { kind = Out; operands = new_operands operands g; results = new_temps read (length results) };
        is_last = refl;
        whole = ap (λ (grown : Growth). grown.ops) (enter_same is_entry Out
            (with_results Out (new_operands operands g) (length results) read) refl);
      }
  out_add In operands results g h = absurd (cc h)
  out_add (Body o) operands results g h = absurd (cc h)
  out_add (End term) operands results g h = absurd (cc h)
  out_add (Copy node) operands results g h = absurd (cc h)
  out_add Enter operands results g h = absurd (cc h)
  out_add Leave operands results g h = absurd (cc h)

-- ---- the end of a list of parts

passes_end : (kind : ExtKind) (operands : List Operand) (later : Ending) → is_end kind ≡ false → ending_or kind operands later ≡ later
passes_end (End term) operands later h = absurd (cc h)
passes_end _ operands later h = refl

no_end : (test : ExtKind → Bool) → ((kind : ExtKind) → test kind ≡ true → is_end kind ≡ false) → (xs ys : List ExtOp) → AllAre test xs
    → ending_of (xs ++ ys) ≡ ending_of ys
no_end test h [] ys all = refl
no_end test h (x ∷ xs) ys all =
    passes_end x.kind x.operands (ending_of (xs ++ ys)) (h x.kind (All-head (λ (op : ExtOp). test op.kind ≡ true) x xs all))
    ∙ no_end test h xs ys (All-tail (λ (op : ExtOp). test op.kind ≡ true) x xs all)

inner_on : (kind : ExtKind) → is_inner kind ≡ true → is_end kind ≡ false
inner_on (End term) h = absurd (cc h)
inner_on _ h = refl

copy_on : (kind : ExtKind) → is_copy kind ≡ true → is_end kind ≡ false
copy_on (End term) h = absurd (cc h)
copy_on _ h = refl

in_on : (kind : ExtKind) → is_in kind ≡ true → is_end kind ≡ false
in_on (End term) h = absurd (cc h)
in_on _ h = refl

pub out_on : (kind : ExtKind) → is_out kind ≡ true → is_end kind ≡ false
out_on (End term) h = absurd (cc h)
out_on _ h = refl

pub end_term : (kind : ExtKind) → is_end kind ≡ true → (term : Term) × (kind ≡ End term)
end_term (End term) h = (term, refl)
end_term In h = absurd (cc h)
end_term Out h = absurd (cc h)
end_term (Body o) h = absurd (cc h)
end_term (Copy node) h = absurd (cc h)
end_term Enter h = absurd (cc h)
end_term Leave h = absurd (cc h)

pub parts_end : (ops : List ExtOp) (p : Parts) → IsMadeOf ops p → ending_of ops ≡ ending_of (option_to_list p.ending ++ p.out ∷ [])
parts_end ops p m =
    let out_list = p.late ++ p.out ∷ [] in
    let tail : ending_of out_list ≡ ending_of (p.out ∷ []) = no_end is_copy copy_on p.late (p.out ∷ []) m.late in
    ap ending_of m.whole
    ∙ passes_end (let s = p.start in s.kind) (let s = p.start in s.operands) _ (in_on (let s = p.start in s.kind) m.start)
    ∙ no_end is_inner inner_on p.inner (option_to_list p.ending ++ out_list) m.inner
    ∙ by p.ending tail
  where
    by : (o : Option ExtOp) → ending_of (p.late ++ p.out ∷ []) ≡ ending_of (p.out ∷ [])
        → ending_of (option_to_list o ++ (p.late ++ p.out ∷ [])) ≡ ending_of (option_to_list o ++ p.out ∷ [])
    by None e = e
    by (Some op) e = ap (ending_or op.kind op.operands) e
