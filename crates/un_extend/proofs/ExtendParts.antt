-- An extended block has the parts of a block, with Enter and Leave once where they are to be, and the terminator of the linear one.
use Rattle.std.proofs.Common.{◌≡◌, ℕ, ◌+◌, ◌++◌, Bool, true, false, List, [], ◌∷◌, Option, Some, None, All}
use Rattle.std.proofs.Common.{refl, sym, ap, ◌∙◌, arith, subst, append_assoc, append-nil}
use Rattle.std.specs.Option.{option_to_list}
use Rattle.std.proofs.lemmas.List.Elements.{All-nil, All-cons, All-head, All-tail, All-append}
use Rattle.std.proofs.lemmas.List.{get_or_append_left, length-append}
use Rattle.un_base.specs.declared.ids.NameId.{NameId}
use Rattle.un_ir.specs.declared.function.Kind.{Kind}
use Rattle.un_ir.specs.declared.function.Term.{Term}
use Rattle.un_ir.specs.declared.function.Term.TheVariants.{Fall}
use Rattle.un_ir.specs.declared.extended.ExtKind.{ExtKind}
use Rattle.un_ir.specs.declared.extended.ExtKind.TheVariants.{In, Out, Body, End, Copy, Enter, Leave}
use Rattle.un_ir.specs.declared.extended.ExtOp.{ExtOp}
use Rattle.un_ir.specs.declared.extended.Growth.{Growth}
use Rattle.un_ir.specs.declared.extended.Value.{Value}
use Rattle.un_ir.specs.Extended.{AllAre, is_copy, is_end, is_enter, is_leave, is_inner, is_return, is_linear_kind, IsPlainOp, Parts}
use Rattle.un_ir.specs.Extended.{IsMadeOf, one_if}
use Rattle.un_ir.specs.Linear.{is_in, is_out, ending_of, ending_or, Ending}
use Rattle.un_ir.specs.ExtendOf.{with_extended, with_all_extended}
use Rattle.un_extend.proofs.ExtendShape.{count, count_append, Adds, Ended, start_add, end_add, out_add, all_inner_add}
use Rattle.un_extend.proofs.ExtendShape.{parts_end, end_term}

all_left : {X : Type 0} (P : X → Type 0) (xs ys : List X) → All P (xs ++ ys) → All P xs
all_left P xs ys all k d h = subst P (get_or_append_left xs ys d k h) (all k d (let l = length-append xs ys in omega (arith, l, h)))

all_right : {X : Type 0} (P : X → Type 0) (xs ys : List X) → All P (xs ++ ys) → All P ys
all_right P [] ys all = all
all_right P (x ∷ xs) ys all = all_right P xs ys (All-tail P x (xs ++ ys) all)

late_none : (xs : List ExtOp) → AllAre is_copy xs → All IsPlainOp xs → xs ≡ []
late_none [] c p = refl
late_none (x ∷ xs) c p = let h = All-head IsPlainOp x xs p in absurd
    (by x.kind (All-head (λ (op : ExtOp). is_copy op.kind ≡ true) x xs c) h.kind)
  where
    by : (kind : ExtKind) → is_copy kind ≡ true → is_linear_kind kind ≡ true → ⊥
    by (Copy node) a b = cc b
    by In a b = cc a
    by Out a b = cc a
    by (Body o) a b = cc a
    by (End term) a b = cc a
    by Enter a b = cc a
    by Leave a b = cc a

pub in_is : (kind : ExtKind) → is_in kind ≡ true → kind ≡ In
in_is In h = refl
in_is Out h = absurd (cc h)
in_is (Body o) h = absurd (cc h)
in_is (End term) h = absurd (cc h)
in_is (Copy node) h = absurd (cc h)
in_is Enter h = absurd (cc h)
in_is Leave h = absurd (cc h)

out_is : (kind : ExtKind) → is_out kind ≡ true → kind ≡ Out
out_is Out h = refl
out_is In h = absurd (cc h)
out_is (Body o) h = absurd (cc h)
out_is (End term) h = absurd (cc h)
out_is (Copy node) h = absurd (cc h)
out_is Enter h = absurd (cc h)
out_is Leave h = absurd (cc h)

count_one : (test : ExtKind → Bool) (op : ExtOp) (kind : ExtKind) → op.kind ≡ kind → test kind ≡ false → count test (op ∷ []) ≡ 0
count_one test op kind is off = ap (λ (k : ExtKind). one_if (test k) + 0) is ∙ ap (λ (v : Bool). one_if v + 0) off

module _ (names : List Kind) (live_in : List NameId) (is_entry saved : Bool) where
  abbrev all : List ExtOp → Growth → Growth
  all ops g = with_all_extended names live_in is_entry saved ops g

  all_then : (xs ys : List ExtOp) (g : Growth) → all (xs ++ ys) g ≡ all ys (all xs g)
  all_then [] ys g = refl
  all_then (x ∷ xs) ys g = all_then xs ys (with_extended names live_in is_entry saved x g)

  record EndPart (o : Option ExtOp) (term : Term) (g grown : Growth) : Type 0 where
    front : List ExtOp
    before : Adds is_inner 0 (one_if (is_return term)) g.ops front
    ending : Option ExtOp
    are_ends : AllAre is_end (option_to_list ending)
    whole : grown.ops ≡ front ++ option_to_list ending
    term_was : (out : ExtOp) → is_out out.kind ≡ true → (let e = ending_of (option_to_list o ++ out ∷ []) in e.term) ≡ term
    term_is : (out : ExtOp) → is_out out.kind ≡ true → (let e = ending_of (option_to_list ending ++ out ∷ []) in e.term) ≡ term
    enters : count is_enter (option_to_list ending) ≡ 0
    leaves : count is_leave (option_to_list ending) ≡ 0

  fall_term : (out : ExtOp) → is_out out.kind ≡ true → (let e = ending_of (out ∷ []) in e.term) ≡ Fall
  fall_term out h = ap (λ (k : ExtKind). (let e = ending_or k out.operands (record { term = Fall; operands = [] }) in e.term))
      (out_is out.kind h)

  own_term : (op out : ExtOp) (term : Term) → op.kind ≡ End term → (let e = ending_of (op ∷ out ∷ []) in e.term) ≡ term
  own_term op out term is = ap (λ (k : ExtKind). (let e = ending_or k op.operands (ending_of (out ∷ [])) in e.term)) is

  end_part : (o : Option ExtOp) (g : Growth) → AllAre is_end (option_to_list o) → (term : Term)
      × EndPart o term g (all (option_to_list o) g)
  end_part None g h = (
    Fall,
    record {
      front = g.ops;
      before = record {
        more = [];
        is = sym (append-nil g.ops);
        all = All-nil (λ (op : ExtOp). is_inner op.kind ≡ true);
        enter = refl;
        leave = refl;
      };
      ending = None;
      are_ends = h;
      whole = sym (append-nil g.ops);
      term_was = fall_term;
      term_is = fall_term;
      enters = refl;
      leaves = refl;
    },
  )
  end_part (Some op) g h =
      let k = end_term op.kind (All-head (λ (op : ExtOp). is_end op.kind ≡ true) op [] h) in
      let e : Ended names live_in is_entry saved k.0 g (with_extended names live_in is_entry saved op g) =
      subst (λ (kind : ExtKind). Ended names live_in is_entry saved k.0 g
      (with_extended names live_in is_entry saved (record { kind = kind; operands = op.operands; results = op.results }) g)) (sym k.1)
      (end_add names live_in is_entry saved k.0 op.operands op.results g) in (
        k.0,
        record {
          front = e.front;
          before = e.before;
          ending = Some e.last;
          are_ends = All-cons (λ (op : ExtOp). is_end op.kind ≡ true) e.last [] (ap is_end e.is_last)
              (All-nil (λ (op : ExtOp). is_end op.kind ≡ true));
          whole = e.whole;
          term_was = λ out q. own_term op out k.0 k.1;
          term_is = λ out q. own_term e.last out k.0 e.is_last;
          enters = count_one is_enter e.last (End k.0) e.is_last refl;
          leaves = count_one is_leave e.last (End k.0) e.is_last refl;
        },
      )

  pub record Shaped (ops was : List ExtOp) : Type 0 where
    pub parts : Parts
    pub made : IsMadeOf ops parts
    pub ends : (let e = ending_of ops in e.term) ≡ (let e = ending_of was in e.term)
    pub enters : count is_enter ops ≡ one_if is_entry
    pub leaves : count is_leave ops ≡ one_if (let e = ending_of was in is_return e.term)

  join : (x : ExtOp) (a b c d e f : List ExtOp) → ((((x ∷ a) ++ b) ++ c) ++ d) ++ (e ++ f) ≡ x ∷ ((a ++ (b ++ c)) ++ (d ++ (e ++ f)))
  join x a b c d e f =
      append_assoc (((x ∷ a) ++ b) ++ c) d (e ++ f)
      ∙ ap (λ (xs : List ExtOp). xs ++ (d ++ (e ++ f))) (append_assoc (x ∷ a) b c)

  pub shaped : (was : List ExtOp) (p : Parts) (values : List Value) (next : ℕ) → IsMadeOf was p → All IsPlainOp was
      → (let s = p.start in s.operands) ≡ []
      → Shaped (let grown = all was (record { ops = []; values = values; next = next }) in grown.ops) was
  shaped was p values next m plain none =
      let g0 : Growth = record { ops = []; values = values; next = next } in
      let first = p.start in
      let out = p.out in
      let ends = option_to_list p.ending in
      let all_plain : All IsPlainOp (first ∷ (p.inner ++ (ends ++ (p.late ++ out ∷ [])))) =
      subst (λ (xs : List ExtOp). All IsPlainOp xs) m.whole plain in
      let behind = All-tail IsPlainOp first (p.inner ++ (ends ++ (p.late ++ out ∷ []))) all_plain in
      let inner_plain = all_left IsPlainOp p.inner (ends ++ (p.late ++ out ∷ [])) behind in
      let late_plain = all_left IsPlainOp p.late (out ∷ []) (all_right IsPlainOp ends (p.late ++ out ∷ [])
      (all_right IsPlainOp p.inner (ends ++ (p.late ++ out ∷ [])) behind)) in
      let no_late = late_none p.late m.late late_plain in
      let g1 = with_extended names live_in is_entry saved first g0 in
      let g2 = all p.inner g1 in
      let g3 = all ends g2 in
      let g4 = with_extended names live_in is_entry saved out g3 in
      let same : all was g0 ≡ g4 =
      ap (λ (xs : List ExtOp). all xs g0) (m.whole ∙ ap (λ (late : List ExtOp). first ∷ (p.inner ++ (ends ++ (late ++ out ∷ [])))) no_late)
      ∙ all_then p.inner (ends ++ out ∷ []) g1 ∙ all_then ends (out ∷ []) g2 in
      let s = start_add names live_in is_entry saved first.kind first.operands first.results g0 m.start none in
      let a = s.later in
      let b = all_inner_add names live_in is_entry saved p.inner g1 m.inner inner_plain in
      let ep = end_part p.ending g2 m.ending in
      let term = ep.0 in
      let e = ep.1 in
      let c = e.before in
      let o = out_add names live_in is_entry saved out.kind out.operands out.results g3 m.out in
      let d = o.before in
      let whole : (let grown = all was g0 in grown.ops) ≡ s.first ∷
      ((a.more ++ (b.more ++ c.more)) ++ (option_to_list e.ending ++ (d.more ++ o.last ∷ []))) =
      ap (λ (g : Growth). g.ops) same ∙ o.whole ∙ ap (λ (xs : List ExtOp). xs ++ o.last ∷ []) d.is
      ∙ append_assoc g3.ops d.more (o.last ∷ [])
      ∙ ap (λ (xs : List ExtOp). xs ++ (d.more ++ o.last ∷ [])) (e.whole
      ∙ ap (λ (xs : List ExtOp). xs ++ option_to_list e.ending)
      (c.is ∙ ap (λ (xs : List ExtOp). xs ++ c.more) (b.is ∙ ap (λ (xs : List ExtOp). xs ++ b.more) a.is)))
      ∙ join s.first a.more b.more c.more (option_to_list e.ending) d.more (o.last ∷ []) in
      let q : Parts = record { start = s.first; inner = a.more ++ (b.more ++ c.more); ending = e.ending; late = d.more; out = o.last } in
      let made : IsMadeOf (let grown = all was g0 in grown.ops) q = record {
        whole = whole;
        start = s.is_first;
        inner = All-append (λ (op : ExtOp). is_inner op.kind ≡ true) a.more (b.more ++ c.more) a.all
            (All-append (λ (op : ExtOp). is_inner op.kind ≡ true) b.more c.more b.all c.all);
        ending = e.are_ends;
        late = d.all;
        out = o.is_last;
      } in
      let was_term : (let x = ending_of was in x.term) ≡ term = ap (λ (x : Ending). x.term) (parts_end was p m) ∙ e.term_was out m.out in
      record {
        parts = q;
        made = made;
        ends = ap (λ (x : Ending). x.term) (parts_end _ q made) ∙ e.term_is o.last o.is_last ∙ sym was_term;
        enters = total is_enter s.first a.more b.more c.more (option_to_list e.ending) d.more (o.last ∷ []) _ whole
            (count_one is_enter s.first In (in_is (let x = s.first in x.kind) s.is_first) refl)
            (count_one is_enter o.last Out (out_is (let x = o.last in x.kind) o.is_last) refl)
            b.enter c.enter e.enters d.enter ∙ a.enter;
        leaves = total_late is_leave s.first a.more b.more c.more (option_to_list e.ending) d.more (o.last ∷ []) _ whole
            (count_one is_leave s.first In (in_is (let x = s.first in x.kind) s.is_first) refl)
            (count_one is_leave o.last Out (out_is (let x = o.last in x.kind) o.is_last) refl)
            a.leave b.leave e.leaves d.leave ∙ c.leave ∙ ap (λ (x : Term). one_if (is_return x)) (sym was_term);
      }
    where
      sums : (test : ExtKind → Bool) (x : ExtOp) (a b c d e f : List ExtOp) (ops : List ExtOp)
          → ops ≡ x ∷ ((a ++ (b ++ c)) ++ (d ++ (e ++ f)))
          → count test ops ≡ count test (x ∷ []) + count test a + count test b + count test c + count test d + count test e + count test f
      sums test x a b c d e f ops is =
          let s = ap (count test) is in
          let h = count_append test (a ++ (b ++ c)) (d ++ (e ++ f)) in
          let i = count_append test a (b ++ c) in
          let j = count_append test b c in
          let k = count_append test d (e ++ f) in
          let l = count_append test e f in
          omega (arith, s, h, i, j, k, l)

      total : (test : ExtKind → Bool) (x : ExtOp) (a b c d e f : List ExtOp) (ops : List ExtOp)
          → ops ≡ x ∷ ((a ++ (b ++ c)) ++ (d ++ (e ++ f)))
          → count test (x ∷ []) ≡ 0 → count test f ≡ 0 → count test b ≡ 0 → count test c ≡ 0 → count test d ≡ 0 → count test e ≡ 0
          → count test ops ≡ count test a
      total test x a b c d e f ops is h i j k l m = let s = sums test x a b c d e f ops is in omega (arith, s, h, i, j, k, l, m)

      total_late : (test : ExtKind → Bool) (x : ExtOp) (a b c d e f : List ExtOp) (ops : List ExtOp)
          → ops ≡ x ∷ ((a ++ (b ++ c)) ++ (d ++ (e ++ f)))
          → count test (x ∷ []) ≡ 0 → count test f ≡ 0 → count test a ≡ 0 → count test b ≡ 0 → count test d ≡ 0 → count test e ≡ 0
          → count test ops ≡ count test c
      total_late test x a b c d e f ops is h i j k l m = let s = sums test x a b c d e f ops is in omega (arith, s, h, i, j, k, l, m)
