-- The rest of a block and of the block extended run alike, where the first temporaries of the values so far have the values.
use Rattle.std.proofs.Common.{◌≡◌, ℕ, zero, suc, ◌+◌, ◌<◌, ◌≤◌, ◌⊎◌, inl, inr, ◌++◌, Bool, true, false, nat_eq, List, [], ◌∷◌, Some, None}
use Rattle.std.proofs.Common.{map, length, get_or, if◌then◌else◌, refl, sym, ap, ◌∙◌, arith, subst, append_assoc, append-nil}
use Rattle.std.specs.List.{range_with_len, AllZip}
use Rattle.std.proofs.lemmas.Bool.{eqb-true}
use Rattle.std.proofs.lemmas.List.{map-append, length-append, get_or_append_left, get_or_push, length_push}
use Rattle.un_base.specs.declared.ids.TempId.{TempId}
use Rattle.un_ir.specs.declared.function.SrcOp.{SrcOp}
use Rattle.un_ir.specs.declared.function.Term.{Term}
use Rattle.un_ir.specs.declared.extended.NodeCopy.{NodeCopy}
use Rattle.un_ir.specs.declared.extended.ExtKind.{ExtKind}
use Rattle.un_ir.specs.declared.extended.ExtKind.TheVariants.{Out, Body, End, Enter, Leave}
use Rattle.un_ir.specs.declared.extended.Operand.{Operand}
use Rattle.un_ir.specs.declared.extended.ExtOp.{ExtOp}
use Rattle.un_ir.specs.Extended.{temp}
use Rattle.un_ir.specs.ExtendOf.{copy_op, frame_op}
use Rattle.un_ir.specs.Linear.{Values, World, LinearState, LinearStop, LinearEnd, Effect, Gives, Stops, Ending, first_of, value_of, defined}
use Rattle.un_ir.specs.Linear.{defined_all, effect_of, after_effect, then_ops, ops_run, in_temps, out_operands, ending_of}

abbrev pub temps : ℕ → ℕ → List TempId
temps n c = map temp (range_with_len n c)

abbrev pub holding : Values → World → LinearState
holding v w = record { values = v; world = w }

abbrev pub stopped : LinearStop → Values → World → LinearEnd
stopped stop v w = record { stop = Some stop; state = holding v w }

abbrev pub passed : Values → World → LinearEnd
passed v w = record { stop = None; state = holding v w }

-- each value from `base` on has in its first temporary what it has in the linear run
abbrev pub Stays : ℕ → List ℕ → Values → Values → Type 0
Stays base firsts v u = (x : ℕ) → base ≤ x → x < length firsts → v (get_or firsts x 0) ≡ u x

-- and those temporaries are below n
pub record Agree (base : ℕ) (firsts : List ℕ) (n : ℕ) (v u : Values) : Type 0 where
  pub same : Stays base firsts v u
  pub below : (x : ℕ) → base ≤ x → x < length firsts → get_or firsts x 0 < n

-- an operand, and the one whose first alternative is the first temporary of the value that it reads
abbrev pub Reads : ℕ → List ℕ → Operand → Operand → Type 0
Reads base firsts x y = (base ≤ first_of x.alts) × (first_of x.alts < length firsts) × (first_of y.alts ≡ get_or firsts (first_of x.alts) 0)

-- what the end reads has the same values
pub record AlikeEnds (xs ys : List Operand) (p q : Ending) (v u : Values) : Type 0 where
  pub handed : map (value_of v) ys ≡ map (value_of u) xs
  pub term : q.term ≡ p.term
  pub read : map (value_of v) q.operands ≡ map (value_of u) p.operands

-- the extended run of operations, and the linear one
pub data Ends (base : ℕ) (firsts : List ℕ) (xs ys : List Operand) (p q : Ending) : LinearEnd → LinearEnd → Type 0 where
  stops : (stop : LinearStop) (w : World) (v u : Values)
      → Ends base firsts xs ys p q (stopped stop v w) (stopped stop u w)
  goes : (w : World) (v u : Values) → Stays base firsts v u → AlikeEnds xs ys p q v u
      → Ends base firsts xs ys p q (passed v w) (passed u w)

-- the rest of a block, and what it is made: neither takes over values
pub record Tail (base : ℕ) (firsts : List ℕ) (n : ℕ) (ops made : List ExtOp) : Type 0 where
  pub run : (v u : Values) (w : World) → Agree base firsts n v u
      → Ends base firsts (out_operands ops) (out_operands made) (ending_of ops) (ending_of made)
      (ops_run made (holding v w)) (ops_run ops (holding u w))
  pub in_ops : in_temps ops ≡ []
  pub in_made : in_temps made ≡ []

-- ---- values

pub new_value : (v : Values) (n x : ℕ) → defined v (temp n) x n ≡ x
new_value v n x = let e : nat_eq n n ≡ true = grind arith in rw e refl

pub old_value : (v : Values) (n x y : ℕ) → y < n → defined v (temp n) x y ≡ v y
old_value v n x y h = by (nat_eq y n) refl
  where
    by : (b : Bool) → nat_eq y n ≡ b → (if b then x else v y) ≡ v y
    by true e = let same : y ≡ n = eqb-true y n e in absurd (omega (arith, same))
    by false e = refl

none_defined : (v : Values) (xs : List TempId) → defined_all v xs [] ≡ v
none_defined v [] = refl
none_defined v (x ∷ xs) = refl

split : (x n : ℕ) → x < n + 1 → (x < n) ⊎ (x ≡ n)
split zero zero h = inr refl
split zero (suc n) h = inl (omega arith)
split (suc x) zero h = absurd (omega arith)
split (suc x) (suc n) h = elim (split x n (omega arith)) [ inl l ↦ inl (omega arith) | inr e ↦ inr (ap suc e) ]

module _ (base : ℕ) where
  stays_less : (firsts more : List ℕ) (v u : Values) → Stays base (firsts ++ more) v u → Stays base firsts v u
  stays_less firsts more v u h x low below =
      let l = length-append firsts more in
      ap v (sym (get_or_append_left firsts more 0 x below)) ∙ h x low (omega (arith, below, l))

  -- one more value
  agree_push : (firsts : List ℕ) (n : ℕ) (v u v2 u2 : Values) → Agree base firsts n v u
      → ((y : ℕ) → y < n → v2 y ≡ v y) → ((y : ℕ) → y < length firsts → u2 y ≡ u y) → v2 n ≡ u2 (length firsts)
      → Agree base (firsts ++ n ∷ []) (n + 1) v2 u2
  agree_push firsts n v u v2 u2 a old_v old_u new = record {
    same = λ x low h. same x low (split x (length firsts) (let l = length_push firsts n in omega (arith, l, h)));
    below = λ x low h. below x low (split x (length firsts) (let l = length_push firsts n in omega (arith, l, h)));
  }
    where
      left : (x : ℕ) → x < length firsts → get_or (firsts ++ n ∷ []) x 0 ≡ get_or firsts x 0
      left x h = get_or_append_left firsts (n ∷ []) 0 x h

      last : (x : ℕ) → x ≡ length firsts → get_or (firsts ++ n ∷ []) x 0 ≡ n
      last x e = get_or_push firsts n 0 x (sym e)

      same : (x : ℕ) → base ≤ x → (x < length firsts) ⊎ (x ≡ length firsts) → v2 (get_or (firsts ++ n ∷ []) x 0) ≡ u2 x
      same x low (inl h) = ap v2 (left x h) ∙ old_v (get_or firsts x 0) (a.below x low h) ∙ a.same x low h ∙ sym (old_u x h)
      same x low (inr e) = ap v2 (last x e) ∙ new ∙ ap u2 (sym e)

      below : (x : ℕ) → base ≤ x → (x < length firsts) ⊎ (x ≡ length firsts) → get_or (firsts ++ n ∷ []) x 0 < n + 1
      below x low (inl h) = let e = left x h in let l = a.below x low h in omega (arith, e, l)
      below x low (inr e) = let q = last x e in omega (arith, q)

  -- values of consecutive temporaries: those that are given no value are to agree already
  pub agree_all : (c : ℕ) (vs : List ℕ) (firsts : List ℕ) (n m : ℕ) (v u : Values) → Agree base firsts n v u → m ≡ length firsts
      → ((j : ℕ) → length vs ≤ j → j < c → v (n + j) ≡ u (m + j))
      → Agree base (firsts ++ range_with_len n c) (n + c) (defined_all v (temps n c) vs) (defined_all u (temps m c) vs)
  agree_all zero vs firsts n m v u a e h =
      let z : n ≡ n + 0 = omega arith in
      subst (λ (xs : List ℕ). Agree base xs (n + 0) v u) (sym (append-nil firsts)) (subst (λ (k : ℕ). Agree base firsts k v u) z a)
  agree_all (suc c) [] firsts n m v u a e h =
      let z : n + 0 ≡ n = omega arith in
      let y : m + 0 ≡ m = omega arith in
      let first : v n ≡ u (length firsts) = ap v (sym z) ∙ h 0 (omega arith) (omega arith) ∙ ap u (y ∙ e) in
      let pushed = agree_push firsts n v u v u a (λ y below. refl) (λ y below. refl) first in
      let longer : m + 1 ≡ length (firsts ++ n ∷ []) = let l = length_push firsts n in omega (arith, l, e) in
      let rest = agree_all c [] (firsts ++ n ∷ []) (n + 1) (m + 1) v u pushed longer
      (λ j low below. ap v (let q : (n + 1) + j ≡ n + suc j = omega arith in q) ∙ h (suc j) (omega arith) (omega arith)
      ∙ ap u (let q : m + suc j ≡ (m + 1) + j = omega arith in q)) in
      let last : (n + 1) + c ≡ n + suc c = omega arith in
      let whole = append_assoc firsts (n ∷ []) (range_with_len (n + 1) c) in
      let all = (firsts ++ n ∷ []) ++ range_with_len (n + 1) c in
      let bare =
      subst (λ (f : Values). Agree base all ((n + 1) + c) f (defined_all u (temps (m + 1) c) [])) (none_defined v (temps (n + 1) c)) rest in
      let barer = subst (λ (f : Values). Agree base all ((n + 1) + c) v f) (none_defined u (temps (m + 1) c)) bare in
      subst (λ (xs : List ℕ). Agree base xs (n + suc c) v u) whole
      (subst (λ (k : ℕ). Agree base all k v u) last barer)
  agree_all (suc c) (x ∷ vs) firsts n m v u a e h =
      let first : defined v (temp n) x n ≡ defined u (temp m) x (length firsts) =
      new_value v n x ∙ sym (new_value u m x) ∙ ap (defined u (temp m) x) e in
      let pushed = agree_push firsts n v u (defined v (temp n) x) (defined u (temp m) x) a (λ y below. old_value v n x y below)
      (λ y below. old_value u m x y (omega (arith, e, below))) first in
      let longer : m + 1 ≡ length (firsts ++ n ∷ []) = let l = length_push firsts n in omega (arith, l, e) in
      let rest = agree_all c vs (firsts ++ n ∷ []) (n + 1) (m + 1) (defined v (temp n) x) (defined u (temp m) x) pushed longer
      (λ j low below. later_v j ∙ ap v (let q : (n + 1) + j ≡ n + suc j = omega arith in q) ∙ h (suc j) (omega arith) (omega arith)
      ∙ ap u (let q : m + suc j ≡ (m + 1) + j = omega arith in q) ∙ sym (later_u j)) in
      let last : (n + 1) + c ≡ n + suc c = omega arith in
      let whole = append_assoc firsts (n ∷ []) (range_with_len (n + 1) c) in
      let v2 = defined_all (defined v (temp n) x) (temps (n + 1) c) vs in
      let u2 = defined_all (defined u (temp m) x) (temps (m + 1) c) vs in
      subst (λ (xs : List ℕ). Agree base xs (n + suc c) v2 u2) whole
      (subst (λ (k : ℕ). Agree base ((firsts ++ n ∷ []) ++ range_with_len (n + 1) c) k v2 u2) last rest)
    where
      above : (f : Values) (k j : ℕ) → defined f (temp k) x ((k + 1) + j) ≡ f ((k + 1) + j)
      above f k j = by (nat_eq ((k + 1) + j) k) refl
        where
          by : (b : Bool) → nat_eq ((k + 1) + j) k ≡ b → (if b then x else f ((k + 1) + j)) ≡ f ((k + 1) + j)
          by true e = let same : (k + 1) + j ≡ k = eqb-true ((k + 1) + j) k e in absurd (omega (arith, same))
          by false e = refl

      later_v : (j : ℕ) → defined v (temp n) x ((n + 1) + j) ≡ v ((n + 1) + j)
      later_v j = above v n j

      later_u : (j : ℕ) → defined u (temp m) x ((m + 1) + j) ≡ u ((m + 1) + j)
      later_u j = above u m j

  pub reads_same : (firsts : List ℕ) (v u : Values) (xs ys : List Operand) → Stays base firsts v u → AllZip (Reads base firsts) xs ys
      → map (value_of v) ys ≡ map (value_of u) xs
  reads_same firsts v u [] [] s h = refl
  reads_same firsts v u [] (y ∷ ys) s h = absurd h
  reads_same firsts v u (x ∷ xs) [] s h = absurd h
  reads_same firsts v u (x ∷ xs) (y ∷ ys) s h =
      let r = h.0 in
      let first : value_of v y ≡ value_of u x = ap v r.2 ∙ s (first_of x.alts) r.0 r.1 in
      let rest = reads_same firsts v u xs ys s h.1 in
      rw (first, rest) refl

  ends_less : (firsts more : List ℕ) (xs ys : List Operand) (p q : Ending) (e l : LinearEnd) → Ends base (firsts ++ more) xs ys p q e l
      → Ends base firsts xs ys p q e l
  ends_less firsts more xs ys p q e l (stops stop w v u) = stops stop w v u
  ends_less firsts more xs ys p q e l (goes w v u s a) = goes w v u (stays_less firsts more v u s) a

  -- ---- one operation before the rest

  pub tail_done : (firsts : List ℕ) (n : ℕ) → Tail base firsts n [] []
  tail_done firsts n = record {
    run = λ v u w a. goes w v u a.same (record { handed = refl; term = refl; read = refl });
    in_ops = refl;
    in_made = refl;
  }

  pub tail_copy : (firsts : List ℕ) (n : ℕ) (ops made : List ExtOp) (node : NodeCopy) (alts : List TempId)
      → Tail base firsts (n + 1) ops made
      → Tail base firsts n ops (copy_op node alts n ∷ made)
  tail_copy firsts n ops made node alts t = record {
    run = λ v u w a. t.run (defined v (temp n) (v (first_of alts))) u w (more v u (v (first_of alts)) a);
    in_ops = t.in_ops;
    in_made = t.in_made;
  }
    where
      more : (v u : Values) (x : ℕ) → Agree base firsts n v u → Agree base firsts (n + 1) (defined v (temp n) x) u
      more v u x a = record {
        same = λ y low h. old_value v n x (get_or firsts y 0) (a.below y low h) ∙ a.same y low h;
        below = λ y low h. (let l = a.below y low h in omega (arith, l));
      }

  pub tail_enter : (firsts : List ℕ) (n : ℕ) (ops made : List ExtOp) → Tail base firsts n ops made
      → Tail base firsts n ops (frame_op Enter ∷ made)
  tail_enter firsts n ops made t = record { run = t.run; in_ops = t.in_ops; in_made = t.in_made }

  pub tail_leave : (firsts : List ℕ) (n : ℕ) (ops made : List ExtOp) → Tail base firsts n ops made
      → Tail base firsts n ops (frame_op Leave ∷ made)
  tail_leave firsts n ops made t = record { run = t.run; in_ops = t.in_ops; in_made = t.in_made }

  -- an operation that has these operands and results
  abbrev pub op_with : ExtKind → List Operand → ℕ → ℕ → ExtOp
  op_with kind xs n c = record { kind = kind; operands = xs; results = temps n c }

  pub tail_body : (firsts : List ℕ) (n m c : ℕ) (ops made : List ExtOp) (o : SrcOp) (xs ys : List Operand) → m ≡ length firsts → c ≤ 1
      → AllZip (Reads base firsts) xs ys
      → Tail base (firsts ++ range_with_len n c) (n + c) ops made
      → Tail base firsts n (op_with (Body o) xs m c ∷ ops) (op_with (Body o) ys n c ∷ made)
  tail_body firsts n m c ops made o xs ys e few reads t = record {
    run = λ v u w a. subst (λ (vs : List ℕ). Ends base firsts (out_operands ops) (out_operands made) (ending_of ops) (ending_of made)
        (then_ops (after_effect (temps n c) (holding v w) (effect_of o vs w)) (holding v w) (ops_run made))
        (ops_run (op_with (Body o) xs m c ∷ ops) (holding u w)))
        (sym (reads_same firsts v u xs ys a.same reads)) (by v u w a (effect_of o (map (value_of u) xs) w));
    in_ops = t.in_ops;
    in_made = t.in_made;
  }
    where
      by : (v u : Values) (w : World) → Agree base firsts n v u → (r : Effect)
          → Ends base firsts (out_operands ops) (out_operands made) (ending_of ops) (ending_of made)
          (then_ops (after_effect (temps n c) (holding v w) r) (holding v w) (ops_run made))
          (then_ops (after_effect (temps m c) (holding u w) r) (holding u w) (ops_run ops))
      by v u w a (Gives x w2) = ends_less firsts (range_with_len n c) _ _ _ _ _ _
          (t.run (defined_all v (temps n c) (x ∷ [])) (defined_all u (temps m c) (x ∷ [])) w2
          (agree_all c (x ∷ []) firsts n m v u a e (λ j low below. absurd (omega arith))))
      by v u w a (Stops stop) = stops stop w v u

  -- an operation without a result
  abbrev pub bare_op : ExtKind → List Operand → ExtOp
  bare_op kind xs = record { kind = kind; operands = xs; results = [] }

  pub tail_end : (firsts : List ℕ) (n : ℕ) (ops made : List ExtOp) (term : Term) (xs ys : List Operand) → AllZip (Reads base firsts) xs ys
      → Tail base firsts n ops made
      → Tail base firsts n (bare_op (End term) xs ∷ ops) (bare_op (End term) ys ∷ made)
  tail_end firsts n ops made term xs ys reads t = record {
    run = λ v u w a. by _ _ (t.run v u w a);
    in_ops = t.in_ops;
    in_made = t.in_made;
  }
    where
      by : (e l : LinearEnd) → Ends base firsts (out_operands ops) (out_operands made) (ending_of ops) (ending_of made) e l
          → Ends base firsts (out_operands ops) (out_operands made)
          (record { term = term; operands = xs }) (record { term = term; operands = ys }) e l
      by e l (stops stop w v u) = stops stop w v u
      by e l (goes w v u s a) = goes w v u s (record { handed = a.handed; term = refl; read = reads_same firsts v u xs ys s reads })

  pub tail_out : (firsts : List ℕ) (n : ℕ) (ops made : List ExtOp) (xs ys : List Operand) → AllZip (Reads base firsts) xs ys
      → Tail base firsts n ops made
      → Tail base firsts n (bare_op Out xs ∷ ops) (bare_op Out ys ∷ made)
  tail_out firsts n ops made xs ys reads t = record {
    run = λ v u w a. by _ _ (t.run v u w a);
    in_ops = t.in_ops;
    in_made = t.in_made;
  }
    where
      by : (e l : LinearEnd) → Ends base firsts (out_operands ops) (out_operands made) (ending_of ops) (ending_of made) e l
          → Ends base firsts (xs ++ out_operands ops) (ys ++ out_operands made) (ending_of ops) (ending_of made) e l
      by e l (stops stop w v u) = stops stop w v u
      by e l (goes w v u s a) = goes w v u s (record {
        handed = map-append (value_of v) ys (out_operands made)
            ∙ ap (λ (vs : List ℕ). vs ++ map (value_of v) (out_operands made)) (reads_same firsts v u xs ys s reads)
            ∙ ap (λ (vs : List ℕ). map (value_of u) xs ++ vs) a.handed
            ∙ sym (map-append (value_of u) xs (out_operands ops));
        term = a.term;
        read = a.read;
      })
