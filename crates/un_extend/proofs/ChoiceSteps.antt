-- An operation extended: its copies around it, and what its operands may choose.
use Rattle.std.proofs.Common.{◌≡◌, ℕ, zero, suc, ◌+◌, ◌<◌, ◌≤◌, ◌==◌, ◌++◌, Bool, true, false, cond, List, [], ◌∷◌, Option, Some}
use Rattle.std.proofs.Common.{None, map, length, drop, slice_get, refl, sym, ap, ◌∙◌, arith, subst, append_assoc}
use Rattle.std.proofs.Common.{append-nil, length-set}
use Rattle.std.specs.List.{flat_map, filter}
use Rattle.std.proofs.lemmas.Grind.{flat_map-append}
use Rattle.std.proofs.lemmas.List.{length-append, length-map, length_push, map-append}
use Rattle.std.proofs.lemmas.List.Elements.{filter-append}
use Rattle.std.proofs.lemmas.Option.{slice_get-get_or}
use Rattle.un_base.specs.declared.ids.TempId.{TempId}
use Rattle.un_ir.specs.declared.function.Kind.TheVariants.{General}
use Rattle.un_ir.specs.declared.extended.NodeCopy.{NodeCopy}
use Rattle.un_ir.specs.declared.extended.NodeCopy.TheVariants.{D, D2, U, U2}
use Rattle.un_ir.specs.declared.extended.ExtKind.{ExtKind}
use Rattle.un_ir.specs.declared.extended.ExtKind.TheVariants.{In, Copy}
use Rattle.un_ir.specs.declared.extended.Operand.{Operand}
use Rattle.un_ir.specs.declared.extended.ExtOp.{ExtOp}
use Rattle.un_ir.specs.declared.extended.ExtBlock.{ExtBlock}
use Rattle.un_ir.specs.declared.extended.Ext.{Ext}
use Rattle.un_ir.specs.declared.extended.Growth.{Growth}
use Rattle.un_ir.specs.declared.extended.Sort.{Sort}
use Rattle.un_ir.specs.declared.extended.Value.{Value}
use Rattle.un_ir.specs.Extended.{temp}
use Rattle.un_ir.specs.ExtendOf.{with_copies, with_values, with_value, with_operand_by, with_operand, with_operands, new_operands}
use Rattle.un_ir.specs.ExtendOf.{new_temps, alternatives, chosen_from, with_results, value_of}
use Rattle.un_ir.specs.Kinds.{is_mandatory}
use Rattle.un_ir.specs.Linear.{first_of}
use Rattle.un_extend.specs.Choices.{copies_by, copies_of, value_copies, operand_copies, leaves_by, enters_by}
use Rattle.un_extend.specs.Choices.{with_its_copies, mandatory_in, Shape, copied_by, shape, shapes_in, no_copy, copy_of}
use Rattle.un_extend.specs.Choices.{value_shapes, operand_shapes}
use Rattle.un_extend.proofs.ChoiceMarks.{same_self, less_not, more_not, below, equal, above, order, mine, at, at_push, Added, added_none}
use Rattle.un_extend.proofs.ChoiceMarks.{added_then, copies_added}
use Rattle.un_extend.proofs.ChoiceMarks.{Fact, fact_copies, Marks, known_at, marks_value, marks_operand, longer, longer_known}
use Rattle.un_extend.proofs.ExtendKept.{set_same}
use Rattle.un_extend.proofs.RunGrowth.{AreWithin}
use Rattle.un_extend.proofs.RunTails.{temps}

-- ---- lists

abbrev pub AllOptional : List Shape → Type 0
AllOptional [] = Unit {0}
AllOptional (k ∷ ks) = (is_mandatory k.kind ≡ false) × AllOptional ks

pub optional_append : (xs ys : List Shape) → AllOptional xs → AllOptional ys → AllOptional (xs ++ ys)
optional_append [] ys h k = k
optional_append (x ∷ xs) ys h k = (h.0, optional_append xs ys h.1 k)

copies_optional : (y : TempId) (zs : List NodeCopy) → AllOptional (map (copy_of y) zs)
copies_optional y [] = tt
copies_optional y (z ∷ zs) = (refl, copies_optional y zs)

none_mandatory : (xs : List ExtOp) → AllOptional (shapes_in xs) → mandatory_in xs ≡ []
none_mandatory [] h = refl
none_mandatory (x ∷ xs) h =
    ap (λ (v : Bool). cond v (x ∷ mandatory_in xs) (mandatory_in xs)) h.0 ∙ none_mandatory xs h.1

-- a mandatory operation is no copy
mandatory_shape : (kind : ExtKind) (op : ExtOp) → is_mandatory kind ≡ true → copied_by kind op ≡ None
mandatory_shape (Copy node) op h = absurd (cc h)
mandatory_shape _ op h = refl

pub only_low : (x s c : ℕ) → x < s → filter (λ (y : TempId). y.0 == x) (temps s c) ≡ []
only_low x s zero h = refl
only_low x s (suc c) h =
    let rest = filter (λ (y : TempId). y.0 == x) (temps (s + 1) c) in
    ap (λ (v : Bool). cond v (temp s ∷ rest) rest) (more_not s x h) ∙ only_low x (s + 1) c (omega (arith, h))

pub only_high : (x s c : ℕ) → s + c ≤ x → filter (λ (y : TempId). y.0 == x) (temps s c) ≡ []
only_high x s zero h = refl
only_high x s (suc c) h =
    let rest = filter (λ (y : TempId). y.0 == x) (temps (s + 1) c) in
    ap (λ (v : Bool). cond v (temp s ∷ rest) rest) (less_not s x (omega (arith, h))) ∙ only_high x (s + 1) c (omega (arith, h))

pub only_here : (x s c : ℕ) → s ≤ x → x < s + c → filter (λ (y : TempId). y.0 == x) (temps s c) ≡ temp x ∷ []
only_here x s zero h k = absurd (omega (arith, h, k))
only_here x s (suc c) h k = elim (order s x) [
  | below lt ↦ ap (λ (v : Bool). cond v (temp s ∷ rest) rest) (less_not s x lt)
      ∙ only_here x (s + 1) c (omega (arith, lt)) (omega (arith, k))
  | equal q ↦ ap (λ (v : Bool). cond v (temp s ∷ rest) rest) (ap (λ (m : ℕ). m == x) q ∙ same_self x)
      ∙ ap (λ (ys : List TempId). temp s ∷ ys) (only_low x (s + 1) c (omega (arith, q)))
      ∙ ap (λ (m : ℕ). temp m ∷ []) q
  | above lt ↦ absurd (omega (arith, lt, h))
]
  where
    rest : List TempId
    rest = filter (λ (y : TempId). y.0 == x) (temps (s + 1) c)

abbrev pub op_of : ExtKind → List Operand → List TempId → ExtOp
op_of kind xs results = record { kind = kind; operands = xs; results = results }

abbrev pub fresh : ℕ → List Value → Growth
fresh start values = record { ops = []; values = values; next = start }

abbrev pub in_op : List TempId → ExtOp
in_op rs = op_of In [] rs

-- ---- operations one after another

module _ (e : Ext) (b : ℕ) (owner : ExtBlock) where
  -- operand x, behind which these stand, may choose all that carries its value in the part of what is before that ends before their copies
  pub record Chosen (before : List ExtOp) (later : List Operand) (x : Operand) : Type 0 where
    pub front : List ExtOp
    pub rest : List ExtOp
    pub is : before ≡ front ++ rest
    pub long : length rest ≡ length (flat_map (operand_copies e b owner) later)
    pub alts : x.alts ≡ at (first_of x.alts) front

  abbrev pub AreChosen : List ExtOp → List Operand → Type 0
  AreChosen before xs = (j : ℕ) (x : Operand) → slice_get xs j ≡ Some x → Chosen before (drop (j + 1) xs) x

  abbrev pub AllChosen : List ExtOp → List ExtOp → Type 0
  AllChosen before [] = Unit {0}
  AllChosen before (op ∷ ops) = (is_mandatory op.kind ≡ true → AreChosen before op.operands) × AllChosen (before ++ op ∷ []) ops

  abbrev pub KindsAre : List ExtOp → Type 0
  KindsAre ops = shapes_in ops ≡ flat_map (with_its_copies e b owner) (mandatory_in ops)

  chosen_append : (before xs ys : List ExtOp) → AllChosen before xs → AllChosen (before ++ xs) ys → AllChosen before (xs ++ ys)
  chosen_append before [] ys h k = subst (λ (zs : List ExtOp). AllChosen zs ys) (append-nil before) k
  chosen_append before (x ∷ xs) ys h k = (
    h.0,
    chosen_append (before ++ x ∷ []) xs ys h.1 (subst (λ (zs : List ExtOp). AllChosen zs ys) (sym (append_assoc before (x ∷ []) xs)) k),
  )

  operands_optional : (xs : List Operand) → AllOptional (flat_map (operand_shapes e b owner) xs)
  operands_optional [] = tt
  operands_optional (x ∷ xs) = optional_append (operand_shapes e b owner x) (flat_map (operand_shapes e b owner) xs)
      (copies_optional (temp (first_of x.alts)) (operand_copies e b owner x)) (operands_optional xs)

  values_optional : (ys : List TempId) → AllOptional (flat_map (value_shapes e b owner) ys)
  values_optional [] = tt
  values_optional (y ∷ ys) = optional_append (value_shapes e b owner y) (flat_map (value_shapes e b owner) ys)
      (copies_optional y (value_copies e b owner y)) (values_optional ys)

  -- there are as many operations as copies
  operands_long : (xs : List Operand) (more : List ExtOp) → shapes_in more ≡ flat_map (operand_shapes e b owner) xs
      → length more ≡ length (flat_map (operand_copies e b owner) xs)
  operands_long xs more h = sym (length-map more shape) ∙ ap (λ (ks : List Shape). length ks) h ∙ by xs
    where
      by : (ys : List Operand) → length (flat_map (operand_shapes e b owner) ys) ≡ length (flat_map (operand_copies e b owner) ys)
      by [] = refl
      by (y ∷ ys) =
          let a = length-append (operand_shapes e b owner y) (flat_map (operand_shapes e b owner) ys) in
          let c = length-append (operand_copies e b owner y) (flat_map (operand_copies e b owner) ys) in
          let d = length-map (operand_copies e b owner y) (copy_of (temp (first_of y.alts))) in
          let r = by ys in
          omega (arith, a, c, d, r)

  chosen_none : (before xs : List ExtOp) → AllOptional (shapes_in xs) → AllChosen before xs
  chosen_none before [] h = tt
  chosen_none before (x ∷ xs) h = ((λ is. absurd (let f = sym h.0 ∙ is in cc f)), chosen_none (before ++ x ∷ []) xs h.1)

  -- a mandatory operation between its copies
  pub record Piece (g h : Growth) : Type 0 where
    pub front : List ExtOp
    pub made : ExtOp
    pub back : List ExtOp
    pub is : h.ops ≡ (g.ops ++ front) ++ made ∷ back
    pub before : shapes_in front ≡ leaves_by made.kind ++ flat_map (operand_shapes e b owner) made.operands
    pub behind : shapes_in back ≡ flat_map (value_shapes e b owner) made.results ++ enters_by (b == 0) made.kind
    pub leaves : AllOptional (leaves_by made.kind)
    pub enters : AllOptional (enters_by (b == 0) made.kind)
    pub stays : is_mandatory made.kind ≡ true
    pub chosen : AreChosen (g.ops ++ front) made.operands

  pub piece_chosen : (g h : Growth) → Piece g h → AllChosen [] g.ops → AllChosen [] h.ops
  piece_chosen g h p a =
      let made = p.made in
      let front = subst AllOptional (sym p.before) (optional_append _ _ p.leaves (operands_optional made.operands)) in
      let back = subst AllOptional (sym p.behind) (optional_append _ _ (values_optional made.results) p.enters) in
      subst (AllChosen []) (sym p.is) (chosen_append [] (g.ops ++ p.front) (p.made ∷ p.back)
      (chosen_append [] g.ops p.front a (chosen_none g.ops p.front front))
      ((λ is. p.chosen), chosen_none ((g.ops ++ p.front) ++ p.made ∷ []) p.back back))

  pub piece_kinds : (g h : Growth) → Piece g h → KindsAre g.ops → KindsAre h.ops
  piece_kinds g h p k =
      let made = p.made in
      let front = subst AllOptional (sym p.before) (optional_append _ _ p.leaves (operands_optional made.operands)) in
      let back = subst AllOptional (sym p.behind) (optional_append _ _ (values_optional made.results) p.enters) in
      let whole = with_its_copies e b owner in
      let itself : shape made ≡ no_copy made.kind =
      ap (λ (y : Option TempId). (let s : Shape = record { kind = made.kind; copies = y } in s)) (mandatory_shape made.kind made p.stays) in
      let left : shapes_in h.ops ≡ shapes_in g.ops ++ whole made =
      ap shapes_in p.is
      ∙ map-append shape (g.ops ++ p.front) (made ∷ p.back)
      ∙ ap (λ (ks : List Shape). ks ++ shape made ∷ shapes_in p.back) (map-append shape g.ops p.front)
      ∙ append_assoc (shapes_in g.ops) (shapes_in p.front) (shape made ∷ shapes_in p.back)
      ∙ ap (λ (s : Shape). shapes_in g.ops ++ (shapes_in p.front ++ s ∷ shapes_in p.back)) itself
      ∙ ap (λ (ks : List Shape). shapes_in g.ops ++ (ks ++ no_copy made.kind ∷ shapes_in p.back)) p.before
      ∙ ap (λ (ks : List Shape). shapes_in g.ops ++ ((leaves_by made.kind ++ flat_map (operand_shapes e b owner) made.operands)
      ++ no_copy made.kind ∷ ks)) p.behind
      ∙ ap (λ (ks : List Shape). shapes_in g.ops ++ ks)
      (append_assoc (leaves_by made.kind) (flat_map (operand_shapes e b owner) made.operands) _) in
      let one : mandatory_in (made ∷ p.back) ≡ made ∷ [] =
      ap (λ (v : Bool). cond v (made ∷ mandatory_in p.back) (mandatory_in p.back)) p.stays
      ∙ ap (λ (xs : List ExtOp). made ∷ xs) (none_mandatory p.back back) in
      let right : mandatory_in h.ops ≡ mandatory_in g.ops ++ made ∷ [] =
      ap mandatory_in p.is
      ∙ filter-append (λ (op : ExtOp). is_mandatory op.kind) (g.ops ++ p.front) (made ∷ p.back)
      ∙ ap (λ (xs : List ExtOp). xs ++ mandatory_in (made ∷ p.back)) (filter-append (λ (op : ExtOp). is_mandatory op.kind) g.ops p.front
      ∙ ap (λ (xs : List ExtOp). mandatory_in g.ops ++ xs) (none_mandatory p.front front) ∙ append-nil (mandatory_in g.ops))
      ∙ ap (λ (xs : List ExtOp). mandatory_in g.ops ++ xs) one in
      left ∙ ap (λ (ks : List Shape). ks ++ whole made) k
      ∙ ap (λ (ks : List Shape). flat_map whole (mandatory_in g.ops) ++ ks) (sym (append-nil (whole made)))
      ∙ sym (flat_map-append whole (mandatory_in g.ops) (made ∷ [])) ∙ ap (flat_map whole) (sym right)

  -- ---- operands

  module _ (low : ℕ) where
    abbrev pub InBlock : ℕ → ℕ → Growth → Type 0
    InBlock n m g = Marks e b owner low n m g

    pub record Read (n : ℕ) (g h : Growth) (ys : List Operand) : Type 0 where
      pub marks : InBlock n n h
      pub added : Added g h (flat_map (operand_shapes e b owner) ys)
      pub chosen : AreChosen h.ops ys
      pub same : length h.values ≡ length g.values

    -- the copies of an operand that reads value f
    abbrev uses : ℕ → List Shape
    uses f = map (copy_of (temp f)) (copies_of U U2 e b owner (temp f))

    record One (n i : ℕ) (g h : Growth) : Type 0 where
      marks : InBlock n n h
      all : alternatives (slice_get h.values i) ≡ at (first_of (alternatives (slice_get h.values i))) h.ops
      added : Added g h (uses (first_of (alternatives (slice_get h.values i))))
      same : length h.values ≡ length g.values

    one_step : (n i : ℕ) (o : Option Value) (g : Growth) → slice_get g.values i ≡ o → low ≤ i → i < length g.values → InBlock n n g
        → One n i g (with_operand_by i o g)
    one_step n i None g at_i from inside a = absurd (let f = sym at_i ∙ slice_get-get_or g.values i none inside in cc f)
      where
        none : Value
        none = record { own = []; all = []; sort = record { kind = General; copied = false } }
    one_step n i (Some v) g at_i from inside a =
        let sort = v.sort in
        let h = with_operand_by i (Some v) g in
        let new = longer e b owner low g v in
        let k = a.known i v at_i from in
        let l = longer_known e b owner low n v g k in
        let first : first_of new.all ≡ first_of v.own = let s = l.head in ap first_of s.1 in
        let now : slice_get h.values i ≡ Some new = set_same g.values i new inside in
        let own = k.own in
        let f = first_of v.own in
        let as_asked : map (copy_of (temp f)) (copies_by U U2 (Some sort.kind) sort.copied) ≡ uses (first_of new.all) =
        ap (map (copy_of (temp f))) (sym (fact_copies e b owner low U U2 f sort k.fact)) ∙ ap uses (sym first) in
        let c : Added g h (map (copy_of (temp f)) (copies_by U U2 (Some sort.kind) sort.copied)) =
        (let d = subst (λ (ys : List TempId). Added g (with_copies U U2 sort.kind sort.copied ys g)
        (map (copy_of (temp f)) (copies_by U U2 (Some sort.kind) sort.copied))) (sym own.1)
        (copies_added U U2 sort.kind sort.copied f own.0 g) in record { more = d.more; is = d.is; shapes = d.shapes }) in
        record {
          marks = marks_operand e b owner low n i v g at_i from a;
          all = subst (λ (o : Option Value). alternatives o ≡ at (first_of (alternatives o)) h.ops) (sym now)
              (l.all ∙ ap (λ (m : ℕ). at m h.ops) (sym first));
          added = subst (λ (o : Option Value). Added g h (uses (first_of (alternatives o)))) (sym now)
              (record { more = c.more; is = c.is; shapes = c.shapes ∙ as_asked });
          same = length-set g.values i new;
        }

    pub operands_step : (xs : List Operand) (n : ℕ) (g : Growth) → AreWithin low (length g.values) xs → InBlock n n g
        → Read n g (with_operands xs g) (new_operands xs g)
    operands_step [] n g within a = record {
      marks = a;
      added = added_none g;
      chosen = λ j x got. absurd (cc got);
      same = refl;
    }
    operands_step (x ∷ xs) n g within a =
        let i = first_of x.alts in
        let h1 = with_operand x g in
        let h = with_operands xs h1 in
        let y = chosen_from x h1 in
        let ys = new_operands xs h1 in
        let one = one_step n i (slice_get g.values i) g refl within.0 within.1 a in
        let rest = operands_step xs n h1 (subst (λ (m : ℕ). AreWithin low m xs) (sym one.same) within.2) one.marks in
        let later = rest.added in
        let first : Chosen h.ops ys y = record {
          front = h1.ops;
          rest = later.more;
          is = later.is;
          long = operands_long ys later.more later.shapes;
          alts = one.all;
        } in
        record {
          marks = rest.marks;
          added = added_then g h1 h (operand_shapes e b owner y) (flat_map (operand_shapes e b owner) ys) one.added later;
          chosen = by h y ys first rest.chosen;
          same = rest.same ∙ one.same;
        }
      where
        by : (h : Growth) (y : Operand) (ys : List Operand) → Chosen h.ops ys y → AreChosen h.ops ys → AreChosen h.ops (y ∷ ys)
        by h y ys first later zero z got = let q : y ≡ z = cc got in subst (Chosen h.ops ys) q first
        by h y ys first later (suc j) z got =
            let q : suc (j + 1) ≡ suc j + 1 = omega arith in
            subst (λ (m : ℕ). Chosen h.ops (drop m (y ∷ ys)) z) q (later j z got)

    -- ---- values

    pub record Valued (n m : ℕ) (g h : Growth) (count : ℕ) : Type 0 where
      pub marks : InBlock m m h
      pub added : Added g h (flat_map (value_shapes e b owner) (temps n count))
      pub many : length h.values ≡ length g.values + count

    pub values_step : (sorts : List Sort) (n m : ℕ) (g : Growth) → n + length sorts ≡ m → InBlock n m g
        → ((j : ℕ) (sort : Sort) → slice_get sorts j ≡ Some sort → Fact e b owner low (n + j) sort)
        → Valued n m g (with_values n sorts g) (length sorts)
    values_step [] n m g reach a each =
        let z : n ≡ m = omega (arith, reach) in
        record { marks = subst (λ (k : ℕ). InBlock k m g) z a; added = added_none g; many = omega arith }
    values_step (sort ∷ sorts) n m g reach a each =
        let z : n + 0 ≡ n = omega arith in
        let fact = subst (λ (k : ℕ). Fact e b owner low k sort) z (each 0 sort refl) in
        let h1 = with_value n sort g in
        let c = copies_added D D2 sort.kind sort.copied n [] g in
        let one : Added g h1 (value_shapes e b owner (temp n)) = record {
          more = c.more;
          is = c.is;
          shapes = c.shapes ∙ ap (map (copy_of (temp n))) (sym (fact_copies e b owner low D D2 n sort fact));
        } in
        let r = values_step sorts (n + 1) m h1 (omega (arith, reach)) (marks_value e b owner low n m sort g (omega (arith, reach)) fact a)
        (λ j other got. (let q : n + suc j ≡ (n + 1) + j = omega arith in
        subst (λ (k : ℕ). Fact e b owner low k other) q (each (suc j) other got))) in
        let l = length_push g.values (value_of n sort g) in
        let w = r.many in
        record {
          marks = r.marks;
          added = added_then g h1 (with_values (n + 1) sorts h1) (value_shapes e b owner (temp n))
              (flat_map (value_shapes e b owner) (temps (n + 1) (length sorts))) one r.added;
          many = omega (arith, l, w);
        }

    -- ---- results

    -- an operation that defines new values
    pub results_step : (n count : ℕ) (kind : ExtKind) (ys : List Operand) (g : Growth) → InBlock n n g
        → ((x : ℕ) (op : ExtOp) → mine x kind op ≡ filter (λ (y : TempId). y.0 == x) op.results)
        → InBlock g.next (g.next + count) (with_results kind ys count g)
    results_step n count kind ys g a own =
        let made : ExtOp = record { kind = kind; operands = ys; results = new_temps g count } in
        let here = with_results kind ys count g in
        let up = a.top in
        let more : (x : ℕ) → at x here.ops ≡ at x g.ops ++ filter (λ (y : TempId). y.0 == x) (temps g.next count) =
        λ x. at_push x g.ops made ∙ ap (λ (zs : List TempId). at x g.ops ++ zs) (own x made) in
        let less : (x : ℕ) → x < g.next → at x here.ops ≡ at x g.ops =
        λ x lt. more x ∙ ap (λ (zs : List TempId). at x g.ops ++ zs) (only_low x g.next count lt) ∙ append-nil (at x g.ops) in
        record {
          known = λ i v got from. (let k = a.known i v got from in let l = k.below in
              known_at e b owner low n g.next g.ops here.ops v up (less (first_of v.own) (omega (arith, l, up))) k);
          rising = a.rising;
          waiting = λ x from to. more x
              ∙ ap (λ (zs : List TempId). at x g.ops ++ zs) (only_here x g.next count from to)
              ∙ ap (λ (zs : List TempId). zs ++ temp x ∷ []) (a.fresh x (omega (arith, from, up)));
          fresh = λ x from. more x
              ∙ ap (λ (zs : List TempId). at x g.ops ++ zs) (only_high x g.next count from) ∙ append-nil (at x g.ops)
              ∙ a.fresh x (omega (arith, from, up));
          top = omega arith;
        }
