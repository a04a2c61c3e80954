-- What a block of an extended function takes over at its start and hands over at its end, by the parts of its operations.
use Rattle.std.proofs.Common.{◌≡◌, Bool, true, false, List, [], ◌∷◌, ◌++◌, ◌⊎◌, inl, inr, ⊎_elim, refl, sym, ap, ◌∙◌, subst, arith}
use Rattle.std.proofs.Common.{append_assoc}
use Rattle.std.specs.Prelude.{Option, Some, None, if◌then◌else◌}
use Rattle.std.specs.Option.{option_to_list}
use Rattle.un_ir.specs.declared.function.Term.{Term}
use Rattle.un_ir.specs.declared.function.Term.TheVariants.{Fall}
use Rattle.un_ir.specs.declared.extended.ExtKind.{ExtKind}
use Rattle.un_ir.specs.declared.extended.ExtKind.TheVariants.{In, Out, Body, End, Copy, Enter, Leave}
use Rattle.un_ir.specs.declared.extended.ExtOp.{ExtOp}
use Rattle.un_ir.specs.Linear.{is_in, is_out, in_temps, out_operands, ending_of, ending_or}
use Rattle.un_ir.specs.Extended.{Parts, IsMadeOf, AllAre, is_inner, is_end, is_copy}
use Rattle.un_model.specs.Congruences.{live_in_temps, results_of_start}
use Rattle.un_lists.proofs.Lists.{Each, Member, each_member, each_all, each_join, each_more, member_append_right}

-- ---- kinds apart

inner_not : (k : ExtKind) → is_inner k ≡ true → (is_in k ≡ false) × (is_out k ≡ false) × (is_end k ≡ false)
inner_not In h = absurd (cc h)
inner_not Out h = absurd (cc h)
inner_not (End term) h = absurd (cc h)
inner_not (Body so) h = (refl, refl, refl)
inner_not (Copy node) h = (refl, refl, refl)
inner_not Enter h = (refl, refl, refl)
inner_not Leave h = (refl, refl, refl)

end_not : (k : ExtKind) → is_end k ≡ true → (is_in k ≡ false) × (is_out k ≡ false)
end_not (End term) h = (refl, refl)
end_not In h = absurd (cc h)
end_not Out h = absurd (cc h)
end_not (Body so) h = absurd (cc h)
end_not (Copy node) h = absurd (cc h)
end_not Enter h = absurd (cc h)
end_not Leave h = absurd (cc h)

copy_not : (k : ExtKind) → is_copy k ≡ true → (is_in k ≡ false) × (is_out k ≡ false) × (is_end k ≡ false)
copy_not (Copy node) h = (refl, refl, refl)
copy_not In h = absurd (cc h)
copy_not Out h = absurd (cc h)
copy_not (End term) h = absurd (cc h)
copy_not (Body so) h = absurd (cc h)
copy_not Enter h = absurd (cc h)
copy_not Leave h = absurd (cc h)

pub in_not : (k : ExtKind) → is_in k ≡ true → (is_out k ≡ false) × (is_end k ≡ false)
in_not In h = (refl, refl)
in_not _ h = absurd (cc h)

out_not : (k : ExtKind) → is_out k ≡ true → (is_in k ≡ false) × (is_end k ≡ false)
out_not Out h = (refl, refl)
out_not _ h = absurd (cc h)

-- ---- the first operation and the last

abbrev pub middle : Parts → List ExtOp
middle p = p.inner ++ (option_to_list p.ending ++ p.late)

abbrev regroup : Parts → List ExtOp
regroup p = p.start ∷ (middle p ++ p.out ∷ [])

pub regrouped : (ops : List ExtOp) (p : Parts) → IsMadeOf ops p → ops ≡ p.start ∷ (middle p ++ p.out ∷ [])
regrouped ops p h =
    h.whole ∙ ap (λ xs. p.start ∷ (p.inner ++ xs)) (sym (append_assoc (option_to_list p.ending) p.late (p.out ∷ [])))
    ∙ ap (λ xs. p.start ∷ xs) (sym (append_assoc p.inner (option_to_list p.ending ++ p.late) (p.out ∷ [])))

abbrev pub Neither : ExtOp → Type 0
Neither op = (is_in op.kind ≡ false) × (is_out op.kind ≡ false)

pub middle_neither : (ops : List ExtOp) (p : Parts) → IsMadeOf ops p → Each Neither (middle p)
middle_neither ops p h =
    each_join Neither p.inner (option_to_list p.ending ++ p.late)
    (each_more (λ (op : ExtOp). is_inner op.kind ≡ true) Neither p.inner (λ op q. let z = inner_not op.kind q in (z.0, z.1))
    (each_all (λ (op : ExtOp). is_inner op.kind ≡ true) p.inner h.inner))
    (each_join Neither (option_to_list p.ending) p.late (each_more (λ (op : ExtOp). is_end op.kind ≡ true) Neither (option_to_list p.ending)
    (λ op q. end_not op.kind q) (each_all (λ (op : ExtOp). is_end op.kind ≡ true) (option_to_list p.ending) h.ending))
    (each_more (λ (op : ExtOp). is_copy op.kind ≡ true) Neither p.late (λ op q. let z = copy_not op.kind q in (z.0, z.1))
    (each_all (λ (op : ExtOp). is_copy op.kind ≡ true) p.late h.late)))

none_in : (ops : List ExtOp) (xs : List ExtOp) → Each (λ (op : ExtOp). is_in op.kind ≡ false) ops → in_temps (ops ++ xs) ≡ in_temps xs
none_in [] xs h = refl
none_in (op ∷ ops) xs h = ap (λ (b : Bool). (if b then op.results else []) ++ in_temps (ops ++ xs)) h.0 ∙ none_in ops xs h.1

none_out : (ops : List ExtOp) (xs : List ExtOp) → Each (λ (op : ExtOp). is_out op.kind ≡ false) ops
    → out_operands (ops ++ xs) ≡ out_operands xs
none_out [] xs h = refl
none_out (op ∷ ops) xs h = ap (λ (b : Bool). (if b then op.operands else []) ++ out_operands (ops ++ xs)) h.0 ∙ none_out ops xs h.1

append_nil : {A : Type 0} (xs : List A) → xs ++ [] ≡ xs
append_nil [] = refl
append_nil (x ∷ xs) = ap (λ ys. x ∷ ys) (append_nil xs)

-- the values at a block's start are the results of its first operation
pub starts : (ops : List ExtOp) (p : Parts) → IsMadeOf ops p → in_temps ops ≡ (let s = p.start in s.results)
starts ops p h =
    let n = middle_neither ops p h in
    let o = p.out in
    let last : is_in o.kind ≡ false = (out_not o.kind h.out).0 in
    ap in_temps (regrouped ops p h)
    ∙ ap (λ (b : Bool). (if b then (let s = p.start in s.results) else []) ++ in_temps (middle p ++ p.out ∷ [])) h.start
    ∙ ap (λ xs. (let s = p.start in s.results) ++ xs) (none_in (middle p) (p.out ∷ [])
    (each_more Neither (λ (op : ExtOp). is_in op.kind ≡ false) (middle p) (λ op z. z.0) n)
    ∙ ap (λ (b : Bool). (if b then o.results else []) ++ []) last)
    ∙ append_nil (let s = p.start in s.results)

-- what a block's end reads are the operands of its last operation
pub finishes : (ops : List ExtOp) (p : Parts) → IsMadeOf ops p → out_operands ops ≡ (let o = p.out in o.operands)
finishes ops p h =
    let n = middle_neither ops p h in
    let o = p.out in
    let s = p.start in
    let first : is_out s.kind ≡ false = (in_not s.kind h.start).0 in
    ap out_operands (regrouped ops p h)
    ∙ ap (λ (b : Bool). (if b then s.operands else []) ++ out_operands (middle p ++ p.out ∷ [])) first
    ∙ none_out (middle p) (p.out ∷ []) (each_more Neither (λ (op : ExtOp). is_out op.kind ≡ false) (middle p) (λ op z. z.1) n)
    ∙ ap (λ (b : Bool). (if b then o.operands else []) ++ []) h.out ∙ append_nil o.operands

-- the first operation alone is a block's start, the last alone its end
pub only_in : (ops : List ExtOp) (p : Parts) (op : ExtOp) → IsMadeOf ops p → Member op ops → is_in op.kind ≡ true → op ≡ p.start
only_in ops p op h m q = go (subst (Member op) (regrouped ops p h) m)
  where
    part : (xs ys : List ExtOp) → Member op (xs ++ ys) → Member op xs ⊎ Member op ys
    part [] ys m = inr m
    part (z ∷ zs) ys (inl e) = inl (inl e)
    part (z ∷ zs) ys (inr m) = ⊎_elim (λ (k : Member op zs). inl (inr k)) (λ (k : Member op ys). inr k) (part zs ys m)

    go : Member op (p.start ∷ (middle p ++ p.out ∷ [])) → op ≡ p.start
    go (inl e) = sym e
    go (inr n) = ⊎_elim
        (λ (k : Member op (middle p)). let z = each_member Neither (middle p) op (middle_neither ops p h) k in let y : true ≡ false = sym q
        ∙ z.0 in absurd (cc y))
        (λ (k : Member op (p.out ∷ [])). last k) (part (middle p) (p.out ∷ []) n)
      where
        last : Member op (p.out ∷ []) → op ≡ p.start
        last (inl e) = let o = p.out in let y : true ≡ false = sym q ∙ ap (λ (x : ExtOp). is_in x.kind) (sym e)
            ∙ (out_not o.kind h.out).0 in absurd (cc y)
        last (inr e) = elim e [ ]

pub only_out : (ops : List ExtOp) (p : Parts) (op : ExtOp) → IsMadeOf ops p → Member op ops → is_out op.kind ≡ true → op ≡ p.out
only_out ops p op h m q = go (subst (Member op) (regrouped ops p h) m)
  where
    part : (xs ys : List ExtOp) → Member op (xs ++ ys) → Member op xs ⊎ Member op ys
    part [] ys m = inr m
    part (z ∷ zs) ys (inl e) = inl (inl e)
    part (z ∷ zs) ys (inr m) = ⊎_elim (λ (k : Member op zs). inl (inr k)) (λ (k : Member op ys). inr k) (part zs ys m)

    go : Member op (p.start ∷ (middle p ++ p.out ∷ [])) → op ≡ p.out
    go (inl e) = let s = p.start in let y : true ≡ false = sym q ∙ ap (λ (x : ExtOp). is_out x.kind) (sym e)
        ∙ (in_not s.kind h.start).0 in absurd (cc y)
    go (inr n) = ⊎_elim
        (λ (k : Member op (middle p)). let z = each_member Neither (middle p) op (middle_neither ops p h) k in let y : true ≡ false = sym q
        ∙ z.1 in absurd (cc y))
        (λ (k : Member op (p.out ∷ [])). last k) (part (middle p) (p.out ∷ []) n)
      where
        last : Member op (p.out ∷ []) → op ≡ p.out
        last (inl e) = sym e
        last (inr e) = elim e [ ]

pub start_in : (ops : List ExtOp) (p : Parts) → IsMadeOf ops p → Member p.start ops
start_in ops p h = subst (Member p.start) (sym h.whole) (inl refl)

pub out_in : (ops : List ExtOp) (p : Parts) → IsMadeOf ops p → Member p.out ops
out_in ops p h = subst (Member p.out) (sym (regrouped ops p h)) (inr (member_append_right (middle p) (p.out ∷ []) p.out (inl refl)))

-- the model's list of the temporaries at a block's start is the run's
pub live_in_is : (ops : List ExtOp) (p : Parts) → IsMadeOf ops p → live_in_temps ops ≡ (let s = p.start in s.results)
live_in_is ops p h = ap live_in_temps h.whole ∙ go (let s = p.start in s.kind) h.start
  where
    go : (k : ExtKind) → is_in k ≡ true → results_of_start k (let s = p.start in s.results)
        (live_in_temps (p.inner ++ (option_to_list p.ending ++ (p.late ++ p.out ∷ [])))) ≡ (let s = p.start in s.results)
    go In q = refl
    go _ q = absurd (cc q)

-- ---- the terminator

abbrev NotEnd : ExtOp → Type 0
NotEnd op = is_end op.kind ≡ false

skip_end : (ops xs : List ExtOp) → Each NotEnd ops → ending_of (ops ++ xs) ≡ ending_of xs
skip_end [] xs h = refl
skip_end (op ∷ ops) xs h = go op.kind h.0 ∙ skip_end ops xs h.1
  where
    go : (k : ExtKind) → is_end k ≡ false → ending_or k op.operands (ending_of (ops ++ xs)) ≡ ending_of (ops ++ xs)
    go (End term) q = absurd (cc q)
    go In q = refl
    go Out q = refl
    go (Body so) q = refl
    go (Copy node) q = refl
    go Enter q = refl
    go Leave q = refl

-- the operation that ends a block, and that there is none else
pub data EndsBy (ops : List ExtOp) : Type 0 where
  falls : ending_of ops ≡ record { term = Fall; operands = [] } → Each NotEnd ops → EndsBy ops
  ends : (op : ExtOp) (term : Term) → op.kind ≡ End term → Member op ops → ending_of ops ≡ record { term = term; operands = op.operands }
      → ((x : ExtOp) → Member x ops → is_end x.kind ≡ true → x ≡ op) → EndsBy ops

pub ends_by : (ops : List ExtOp) (p : Parts) → IsMadeOf ops p → EndsBy ops
ends_by ops p h = subst EndsBy (sym h.whole) (go p.ending h.ending)
  where
    before : Each NotEnd (p.start ∷ p.inner)
    before = let s = p.start in (
      (in_not s.kind h.start).1,
      each_more (λ (op : ExtOp). is_inner op.kind ≡ true) NotEnd p.inner
          (λ op q. let z = inner_not op.kind q in z.2) (each_all (λ (op : ExtOp). is_inner op.kind ≡ true) p.inner h.inner),
    )

    after : Each NotEnd (p.late ++ p.out ∷ [])
    after = let o = p.out in each_join NotEnd p.late (p.out ∷ [])
        (each_more (λ (op : ExtOp). is_copy op.kind ≡ true) NotEnd p.late (λ op q. let z = copy_not op.kind q in z.2)
        (each_all (λ (op : ExtOp). is_copy op.kind ≡ true) p.late h.late)) ((out_not o.kind h.out).1, tt)

    none_after : ending_of (p.late ++ p.out ∷ []) ≡ record { term = Fall; operands = [] }
    none_after = ap ending_of (sym (append_nil (p.late ++ p.out ∷ []))) ∙ skip_end (p.late ++ p.out ∷ []) [] after

    part : (xs ys : List ExtOp) (x : ExtOp) → Member x (xs ++ ys) → Member x xs ⊎ Member x ys
    part [] ys x m = inr m
    part (z ∷ zs) ys x (inl e) = inl (inl e)
    part (z ∷ zs) ys x (inr m) = ⊎_elim (λ (k : Member x zs). inl (inr k)) (λ (k : Member x ys). inr k) (part zs ys x m)

    not_end : (xs : List ExtOp) (x : ExtOp) → Each NotEnd xs → Member x xs → is_end x.kind ≡ true → ⊥
    not_end xs x f m q = let z : true ≡ false = sym q ∙ each_member NotEnd xs x f m in absurd (cc z)

    go : (o : Option ExtOp) → AllAre is_end (option_to_list o) → EndsBy
        (p.start ∷ (p.inner ++ (option_to_list o ++ (p.late ++ p.out ∷ []))))
    go None f = falls (skip_end (p.start ∷ p.inner) (p.late ++ p.out ∷ []) before ∙ none_after)
        (each_join NotEnd (p.start ∷ p.inner) (p.late ++ p.out ∷ []) before after)
    go (Some op) f = by_kind op.kind refl (f 0 op (omega arith))
      where
        by_kind : (k : ExtKind) → op.kind ≡ k → is_end k ≡ true → EndsBy (p.start ∷ (p.inner ++ (op ∷ (p.late ++ p.out ∷ []))))
        by_kind (End term) q t = ends op term q (member_append_right (p.start ∷ p.inner) (op ∷ (p.late ++ p.out ∷ [])) op (inl refl))
            (skip_end (p.start ∷ p.inner) (op ∷ (p.late ++ p.out ∷ [])) before
            ∙ ap (λ (k : ExtKind). ending_or k op.operands (ending_of (p.late ++ p.out ∷ []))) q)
            (λ x m e. ⊎_elim (λ (k : Member x (p.start ∷ p.inner)). absurd (not_end (p.start ∷ p.inner) x before k e))
            (λ (k : Member x (op ∷ (p.late ++ p.out ∷ []))). last x e k) (part (p.start ∷ p.inner) (op ∷ (p.late ++ p.out ∷ [])) x m))
          where
            last : (x : ExtOp) → is_end x.kind ≡ true → Member x (op ∷ (p.late ++ p.out ∷ [])) → x ≡ op
            last x e (inl s) = sym s
            last x e (inr m) = absurd (not_end (p.late ++ p.out ∷ []) x after m e)
        by_kind In q t = absurd (cc t)
        by_kind Out q t = absurd (cc t)
        by_kind (Body so) q t = absurd (cc t)
        by_kind (Copy node) q t = absurd (cc t)
        by_kind Enter q t = absurd (cc t)
        by_kind Leave q t = absurd (cc t)
