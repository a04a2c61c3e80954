-- The values of a block that grows: each may choose all that carries it, and grows with each copy of it.
use Rattle.std.proofs.Common.{◌≡◌, inl, inr, ℕ, zero, suc, ◌+◌, ◌<◌, ◌≤◌, ◌==◌, ◌++◌, Bool, true, false, cond, List, [], ◌∷◌, Option, Some}
use Rattle.std.proofs.Common.{map, set, slice_get, refl, sym, ap, ◌∙◌, arith, subst, append_assoc, append-nil}
use Rattle.std.specs.List.{flat_map, filter}
use Rattle.std.proofs.lemmas.Bool.{eqb-true}
use Rattle.std.proofs.lemmas.Grind.{flat_map-append}
use Rattle.std.proofs.lemmas.List.{length_push, map-append}
use Rattle.std.proofs.lemmas.Option.{slice_get_within}
use Rattle.un_base.specs.declared.ids.TempId.{TempId}
use Rattle.un_ir.specs.declared.function.Kind.{Kind}
use Rattle.un_ir.specs.declared.function.Kind.TheVariants.{General, Pred}
use Rattle.un_ir.specs.declared.extended.NodeCopy.{NodeCopy}
use Rattle.un_ir.specs.declared.extended.NodeCopy.TheVariants.{D, D2, U, U2}
use Rattle.un_ir.specs.declared.extended.ExtKind.{ExtKind}
use Rattle.un_ir.specs.declared.extended.ExtOp.{ExtOp}
use Rattle.un_ir.specs.declared.extended.ExtBlock.{ExtBlock}
use Rattle.un_ir.specs.declared.extended.Ext.{Ext}
use Rattle.un_ir.specs.declared.extended.Growth.{Growth}
use Rattle.un_ir.specs.declared.extended.Sort.{Sort}
use Rattle.un_ir.specs.declared.extended.Value.{Value}
use Rattle.un_ir.specs.Extended.{temp, kind_of_temp}
use Rattle.un_ir.specs.ExtendOf.{copy_op, copy_count_by, copy_count, with_copies, new_temps, value_of, with_value}
use Rattle.un_ir.specs.ExtendOf.{with_operand_by}
use Rattle.un_ir.specs.Linear.{first_of}
use Rattle.un_extend.specs.Choices.{copies_by, copies_of, has_copies, Shape, shape, shapes_in, copy_of}
use Rattle.un_extend.proofs.ChoiceLinks.{value_by}
use Rattle.un_extend.proofs.ExtendKept.{push_cases, set_cases, set_same}
use Rattle.un_extend.proofs.RunGrowth.{Begins}

-- ---- numbers

pub same_self : (n : ℕ) → (n == n) ≡ true
same_self n = grind arith

pub less_not : (m n : ℕ) → m < n → (m == n) ≡ false
less_not m n h = by (m == n) refl
  where
    by : (v : Bool) → (m == n) ≡ v → v ≡ false
    by true e = let s : m ≡ n = eqb-true m n e in absurd (omega (arith, s, h))
    by false e = refl

pub more_not : (m n : ℕ) → n < m → (m == n) ≡ false
more_not m n h = by (m == n) refl
  where
    by : (v : Bool) → (m == n) ≡ v → v ≡ false
    by true e = let s : m ≡ n = eqb-true m n e in absurd (omega (arith, s, h))
    by false e = refl

pub data Order (m n : ℕ) : Type 0 where
  below : m < n → Order m n
  equal : m ≡ n → Order m n
  above : n < m → Order m n

pub order : (m n : ℕ) → Order m n
order zero zero = equal refl
order zero (suc n) = below (omega arith)
order (suc m) zero = above (omega arith)
order (suc m) (suc n) = elim (order m n) [
  | below h ↦ below (omega (arith, h))
  | equal h ↦ equal (ap suc h)
  | above h ↦ above (omega (arith, h))
]

-- ---- the temporaries that carry value x, among those that operations define

abbrev pub mine : ℕ → ExtKind → ExtOp → List TempId
mine x kind op = filter (λ (y : TempId). (let v = value_by kind op y in v.0) == x) op.results

abbrev pub at : ℕ → List ExtOp → List TempId
at x ops = flat_map (λ (op : ExtOp). mine x op.kind op) ops

pub at_append : (x : ℕ) (xs ys : List ExtOp) → at x (xs ++ ys) ≡ at x xs ++ at x ys
at_append x xs ys = flat_map-append (λ (op : ExtOp). mine x op.kind op) xs ys

pub at_push : (x : ℕ) (xs : List ExtOp) (op : ExtOp) → at x (xs ++ op ∷ []) ≡ at x xs ++ mine x op.kind op
at_push x xs op = at_append x xs (op ∷ []) ∙ ap (λ (ys : List TempId). at x xs ++ ys) (append-nil (mine x op.kind op))

-- operations that define nothing that carries x
pub at_none : (x : ℕ) (xs : List ExtOp) (op : ExtOp) → mine x op.kind op ≡ [] → at x (xs ++ op ∷ []) ≡ at x xs
at_none x xs op h = at_push x xs op ∙ ap (λ (ys : List TempId). at x xs ++ ys) h ∙ append-nil (at x xs)

-- ---- copies

-- operations are added, copies of these sorts
pub record Added (g h : Growth) (zs : List Shape) : Type 0 where
  pub more : List ExtOp
  pub is : h.ops ≡ g.ops ++ more
  pub shapes : shapes_in more ≡ zs

pub added_none : (g : Growth) → Added g g []
added_none g = record { more = []; is = sym (append-nil g.ops); shapes = refl }

pub added_then : (f g h : Growth) (ys zs : List Shape) → Added f g ys → Added g h zs → Added f h (ys ++ zs)
added_then f g h ys zs a b = record {
  more = a.more ++ b.more;
  is = b.is ∙ ap (λ (xs : List ExtOp). xs ++ b.more) a.is ∙ append_assoc f.ops a.more b.more;
  shapes = map-append shape a.more b.more ∙ ap (λ (ks : List Shape). ks ++ shapes_in b.more) a.shapes
      ∙ ap (λ (ks : List Shape). ys ++ ks) b.shapes;
}

pub copies_added : (first second : NodeCopy) (kind : Kind) (copied : Bool) (f : ℕ) (rest : List TempId) (g : Growth)
    → Added g (with_copies first second kind copied (temp f ∷ rest) g) (map (copy_of (temp f)) (copies_by first second (Some kind) copied))
copies_added first second General false f rest g = added_none g
copies_added first second Pred false f rest g = added_none g
copies_added first second General true f rest g =
    record { more = copy_op first (temp f ∷ rest) g.next ∷ []; is = refl; shapes = refl }
copies_added first second Pred true f rest g =
    let one = copy_op first (temp f ∷ rest) g.next in
    let two = copy_op second ((temp f ∷ rest) ++ temp g.next ∷ []) (g.next + 1) in
    record { more = one ∷ two ∷ []; is = append_assoc g.ops (one ∷ []) (two ∷ []); shapes = refl }

pub copies_next : (first second : NodeCopy) (kind : Kind) (copied : Bool) (ys : List TempId) (g : Growth)
    → g.next ≤ (let h = with_copies first second kind copied ys g in h.next)
copies_next first second General false ys g = omega arith
copies_next first second Pred false ys g = omega arith
copies_next first second General true ys g = omega arith
copies_next first second Pred true ys g = omega arith

-- a copy carries the value of the first that it may read
one_same : (node : NodeCopy) (f n : ℕ) (rest : List TempId) (xs : List ExtOp)
    → at f (xs ++ copy_op node (temp f ∷ rest) n ∷ []) ≡ at f xs ++ temp n ∷ []
one_same node f n rest xs =
    at_push f xs (copy_op node (temp f ∷ rest) n)
    ∙ ap (λ (v : Bool). at f xs ++ cond v (temp n ∷ []) []) (same_self f)

one_else : (node : NodeCopy) (f n x : ℕ) (rest : List TempId) (xs : List ExtOp) → (f == x) ≡ false
    → at x (xs ++ copy_op node (temp f ∷ rest) n ∷ []) ≡ at x xs
one_else node f n x rest xs h =
    at_none x xs (copy_op node (temp f ∷ rest) n) (ap (λ (v : Bool). cond v (temp n ∷ []) []) h)

copies_same : (first second : NodeCopy) (kind : Kind) (copied : Bool) (f : ℕ) (rest : List TempId) (g : Growth)
    → at f (let h = with_copies first second kind copied (temp f ∷ rest) g in h.ops) ≡ at f g.ops ++ new_temps g (copy_count_by kind copied)
copies_same first second General false f rest g = sym (append-nil (at f g.ops))
copies_same first second Pred false f rest g = sym (append-nil (at f g.ops))
copies_same first second General true f rest g = one_same first f g.next rest g.ops
copies_same first second Pred true f rest g =
    one_same second f (g.next + 1) (rest ++ temp g.next ∷ []) (g.ops ++ copy_op first (temp f ∷ rest) g.next ∷ [])
    ∙ ap (λ (ys : List TempId). ys ++ temp (g.next + 1) ∷ []) (one_same first f g.next rest g.ops)
    ∙ append_assoc (at f g.ops) (temp g.next ∷ []) (temp (g.next + 1) ∷ [])

copies_else : (first second : NodeCopy) (kind : Kind) (copied : Bool) (f x : ℕ) (rest : List TempId) (g : Growth) → (f == x) ≡ false
    → at x (let h = with_copies first second kind copied (temp f ∷ rest) g in h.ops) ≡ at x g.ops
copies_else first second General false f x rest g h = refl
copies_else first second Pred false f x rest g h = refl
copies_else first second General true f x rest g h = one_else first f g.next x rest g.ops h
copies_else first second Pred true f x rest g h =
    one_else second f (g.next + 1) x (rest ++ temp g.next ∷ []) (g.ops ++ copy_op first (temp f ∷ rest) g.next ∷ []) h
    ∙ one_else first f g.next x rest g.ops h

copies_values : (first second : NodeCopy) (kind : Kind) (copied : Bool) (ys : List TempId) (g : Growth)
    → (let h = with_copies first second kind copied ys g in h.values) ≡ g.values
copies_values first second General false ys g = refl
copies_values first second Pred false ys g = refl
copies_values first second General true ys g = refl
copies_values first second Pred true ys g = refl

-- ---- values

module _ (e : Ext) (b : ℕ) (owner : ExtBlock) (low : ℕ) where
  -- value x is of this sort, and has copies as the block has it
  pub record Fact (x : ℕ) (sort : Sort) : Type 0 where
    pub kind : kind_of_temp e.names e.blocks (temp x) ≡ Some sort.kind
    pub copied : has_copies b owner (temp x) ≡ sort.copied

  pub fact_copies : (first second : NodeCopy) (x : ℕ) (sort : Sort) → Fact x sort
      → copies_of first second e b owner (temp x) ≡ copies_by first second (Some sort.kind) sort.copied
  fact_copies first second x sort f =
      ap (λ (k : Option Kind). copies_by first second k (has_copies b owner (temp x))) f.kind
      ∙ ap (copies_by first second (Some sort.kind)) f.copied

  -- a value whose first temporary is below n may choose all that carries it
  pub record Known (n : ℕ) (ops : List ExtOp) (v : Value) : Type 0 where
    pub own : Begins (first_of v.own) v.own
    pub head : Begins (first_of v.own) v.all
    pub all : v.all ≡ at (first_of v.own) ops
    pub below : first_of v.own < n
    pub fact : Fact (first_of v.own) v.sort

  -- the values below n are known, and nothing but a temporary itself carries those from n to before m, which are to become values
  pub record Marks (n m : ℕ) (g : Growth) : Type 0 where
    pub known : (i : ℕ) (v : Value) → slice_get g.values i ≡ Some v → low ≤ i → Known n g.ops v
    pub rising : (i j : ℕ) (v w : Value) → slice_get g.values i ≡ Some v → slice_get g.values j ≡ Some w → low ≤ i → i < j
        → first_of v.own < first_of w.own
    pub waiting : (x : ℕ) → n ≤ x → x < m → at x g.ops ≡ temp x ∷ []
    pub fresh : (x : ℕ) → m ≤ x → at x g.ops ≡ []
    pub top : m ≤ g.next

  pub known_at : (n m : ℕ) (xs ys : List ExtOp) (v : Value) → n ≤ m → at (first_of v.own) ys ≡ at (first_of v.own) xs → Known n xs v
      → Known m ys v
  known_at n m xs ys v h is k = record {
    own = k.own;
    head = k.head;
    all = k.all ∙ sym is;
    below = (let l = k.below in omega (arith, l, h));
    fact = k.fact;
  }

  -- operations that define no value of this block
  pub marks_idle : (n : ℕ) (g h : Growth) → h.values ≡ g.values → ((x : ℕ) → at x h.ops ≡ at x g.ops) → g.next ≡ h.next → Marks n n g
      → Marks n n h
  marks_idle n g h vs is up a = record {
    known = λ i v got from. known_at n n g.ops h.ops v (omega arith) (is (first_of v.own))
        (a.known i v (ap (λ (ws : List Value). slice_get ws i) (sym vs) ∙ got) from);
    rising = λ i j v w got_i got_j from lt. a.rising i j v w (ap (λ (ws : List Value). slice_get ws i) (sym vs) ∙ got_i)
        (ap (λ (ws : List Value). slice_get ws j) (sym vs) ∙ got_j) from lt;
    waiting = λ x from to. is x ∙ a.waiting x from to;
    fresh = λ x from. is x ∙ a.fresh x from;
    top = (let t = a.top in omega (arith, t, up));
  }

  -- ---- one more value

  value_known : (n m : ℕ) (sort : Sort) (g : Growth) → n < m → Fact n sort → Marks n m g
      → Known (n + 1) (let h = with_value n sort g in h.ops) (value_of n sort g)
  value_known n m sort g lt f a = record {
    own = (new_temps g (copy_count sort), refl);
    head = (new_temps g (copy_count sort), refl);
    all = sym (copies_same D D2 sort.kind sort.copied n [] g
        ∙ ap (λ (ys : List TempId). ys ++ new_temps g (copy_count sort)) (a.waiting n (omega arith) lt));
    below = omega arith;
    fact = f;
  }

  pub marks_value : (n m : ℕ) (sort : Sort) (g : Growth) → n < m → Fact n sort → Marks n m g → Marks (n + 1) m (with_value n sort g)
  marks_value n m sort g lt f a =
      let h = with_value n sort g in
      let new = value_of n sort g in
      let else_at : (x : ℕ) → (n == x) ≡ false → at x h.ops ≡ at x g.ops = λ x ne. copies_else D D2 sort.kind sort.copied n x [] g ne in
      record {
        known = λ i v got from. elim (push_cases g.values new i v got) [
          | inl old ↦ (let k = a.known i v old from in
              known_at n (n + 1) g.ops h.ops v (omega arith) (else_at (first_of v.own) (more_not n (first_of v.own) k.below)) k)
          | inr last ↦ subst (Known (n + 1) h.ops) last.1 (value_known n m sort g lt f a)
        ];
        rising = λ i j v w got_i got_j from up. elim (push_cases g.values new i v got_i) [
          | inl old_i ↦ elim (push_cases g.values new j w got_j) [
            | inl old_j ↦ a.rising i j v w old_i old_j from up
            | inr last ↦ (let k = a.known i v old_i from in let l = k.below in
                subst (λ (u : Value). first_of v.own < first_of u.own) last.1 l)
          ]
          | inr last ↦ absurd (let c = slice_get_within (g.values ++ new ∷ []) j w got_j in let d = length_push g.values new in
              let s = last.0 in omega (arith, c, d, s, up))
        ];
        waiting = λ x from to. else_at x (less_not n x (omega (arith, from))) ∙ a.waiting x (omega (arith, from)) to;
        fresh = λ x from. else_at x (less_not n x (omega (arith, lt, from))) ∙ a.fresh x from;
        top = (let t = a.top in let u = copies_next D D2 sort.kind sort.copied (temp n ∷ []) g in omega (arith, t, u));
      }

  -- ---- one more operand

  abbrev pub longer : Growth → Value → Value
  longer g v = record v { all = v.all ++ new_temps g (copy_count v.sort) }

  at_same : (v : Value) (g : Growth) → Begins (first_of v.own) v.own
      → at (first_of v.own) (let h = with_copies U U2 v.sort.kind v.sort.copied v.own g in h.ops)
      ≡ at (first_of v.own) g.ops ++ new_temps g (copy_count v.sort)
  at_same v g own = subst (λ (ys : List TempId). at (first_of v.own) (let h = with_copies U U2 v.sort.kind v.sort.copied ys g in h.ops)
      ≡ at (first_of v.own) g.ops ++ new_temps g (copy_count v.sort)) (sym own.1)
      (copies_same U U2 v.sort.kind v.sort.copied (first_of v.own) own.0 g)

  at_else : (v : Value) (g : Growth) (x : ℕ) → Begins (first_of v.own) v.own → (first_of v.own == x) ≡ false
      → at x (let h = with_copies U U2 v.sort.kind v.sort.copied v.own g in h.ops) ≡ at x g.ops
  at_else v g x own ne = subst (λ (ys : List TempId). at x (let h = with_copies U U2 v.sort.kind v.sort.copied ys g in h.ops) ≡ at x g.ops)
      (sym own.1) (copies_else U U2 v.sort.kind v.sort.copied (first_of v.own) x own.0 g ne)

  pub longer_known : (n : ℕ) (v : Value) (g : Growth) → Known n g.ops v
      → Known n (let h = with_copies U U2 v.sort.kind v.sort.copied v.own g in h.ops) (longer g v)
  longer_known n v g k = record {
    own = k.own;
    head = (let h = k.head in let new = new_temps g (copy_count v.sort) in (h.0 ++ new, ap (λ (ys : List TempId). ys ++ new) h.1));
    all = ap (λ (ys : List TempId). ys ++ new_temps g (copy_count v.sort)) k.all ∙ sym (at_same v g k.own);
    below = k.below;
    fact = k.fact;
  }

  -- an operand leaves each value its own temporaries
  record Was (values : List Value) (j : ℕ) (w : Value) : Type 0 where
    old : Value
    got : slice_get values j ≡ Some old
    same : first_of old.own ≡ first_of w.own

  was : (g : Growth) (i : ℕ) (v : Value) (j : ℕ) (w : Value) → slice_get g.values i ≡ Some v
      → slice_get (set g.values i (longer g v)) j ≡ Some w → Was g.values j w
  was g i v j w at_i got = elim (set_cases g.values i (longer g v) j w got) [
    | inl is ↦ record {
      old = v;
      got = ap (slice_get g.values) is.0 ∙ at_i;
      same = ap (λ (u : Value). first_of u.own) is.1;
    }
    | inr is ↦ record { old = w; got = is; same = refl }
  ]

  pub marks_operand : (n i : ℕ) (v : Value) (g : Growth) → slice_get g.values i ≡ Some v → low ≤ i → Marks n n g
      → Marks n n (with_operand_by i (Some v) g)
  marks_operand n i v g at_i from a =
      let k = a.known i v at_i from in
      let f = first_of v.own in
      let h = with_copies U U2 v.sort.kind v.sort.copied v.own g in
      record {
        known = λ j w got up. elim (order i j) [
          | below lt ↦ other j w got up (λ old. less_not f (first_of w.own) (a.rising i j v w at_i old from lt)) (λ e. omega (arith, e, lt))
          | equal e ↦ same j w got e
          | above lt ↦ other j w got up (λ old. more_not f (first_of w.own) (a.rising j i w v old at_i up lt)) (λ e. omega (arith, e, lt))
        ];
        rising = λ j l u w got_u got_w up lt. (let p = was g i v j u at_i got_u in let q = was g i v l w at_i got_w in
            let r = a.rising j l p.old q.old p.got q.got up lt in let s = p.same in let t = q.same in omega (arith, r, s, t));
        waiting = λ x up down. absurd (omega (arith, up, down));
        fresh = λ x up. at_else v g x k.own (let l = k.below in less_not f x (omega (arith, l, up))) ∙ a.fresh x up;
        top = (let t = a.top in let u = copies_next U U2 v.sort.kind v.sort.copied v.own g in omega (arith, t, u));
      }
    where
      other : (j : ℕ) (w : Value) → slice_get (set g.values i (longer g v)) j ≡ Some w → low ≤ j
          → (slice_get g.values j ≡ Some w → (first_of v.own == first_of w.own) ≡ false) → (i ≡ j → ⊥)
          → Known n (let h = with_copies U U2 v.sort.kind v.sort.copied v.own g in h.ops) w
      other j w got up ne apart = elim (set_cases g.values i (longer g v) j w got) [
        | inl is ↦ absurd (apart (sym is.0))
        | inr old ↦ (let k = a.known i v at_i from in
            known_at n n g.ops (let h = with_copies U U2 v.sort.kind v.sort.copied v.own g in h.ops) w (omega arith)
            (at_else v g (first_of w.own) k.own (ne old)) (a.known j w old up))
      ]

      same : (j : ℕ) (w : Value) → slice_get (set g.values i (longer g v)) j ≡ Some w → i ≡ j
          → Known n (let h = with_copies U U2 v.sort.kind v.sort.copied v.own g in h.ops) w
      same j w got e =
          let h = with_copies U U2 v.sort.kind v.sort.copied v.own g in
          let now = set_same g.values i (longer g v) (slice_get_within g.values i v at_i) in
          let both : Some (longer g v) ≡ Some w = sym now ∙ ap (slice_get (set g.values i (longer g v))) e ∙ got in
          let is : longer g v ≡ w = cc both in
          subst (Known n h.ops) is (longer_known n v g (a.known i v at_i from))
