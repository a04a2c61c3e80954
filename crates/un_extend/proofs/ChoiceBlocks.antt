-- A block extended is its mandatory operations with their copies, and they may choose all that they could.
use Rattle.std.proofs.Common.{◌≡◌, ℕ, zero, suc, ◌+◌, ◌-◌, ◌<◌, ◌≤◌, ◌==◌, ◌||◌, ◌++◌, not, Bool, true, false, cond, if◌then◌else◌, List}
use Rattle.std.proofs.Common.{[]}
use Rattle.std.proofs.Common.{◌∷◌, Some, map, length, drop, take, replicate, slice_get, refl, sym, ap, ◌∙◌, arith, subst}
use Rattle.std.proofs.Common.{append_assoc, append-nil, ◌⊎◌, inl, inr}
use Rattle.std.specs.List.{flat_map, filter, list_any}
use Rattle.std.specs.Option.{option_map}
use Rattle.std.proofs.lemmas.List.{length-append, length-map, length-replicate, length-take-le, take-append-drop, map-append}
use Rattle.std.proofs.lemmas.List.Elements.{filter-append}
use Rattle.std.proofs.lemmas.List.FromFn.{length-map-range_with_len}
use Rattle.std.proofs.lemmas.Option.{slice_get-map, slice_get_within}
use Rattle.un_base.specs.declared.ids.TempId.{TempId}
use Rattle.un_ir.specs.declared.function.Kind.TheVariants.{General}
use Rattle.un_ir.specs.declared.function.SrcOp.{SrcOp}
use Rattle.un_ir.specs.declared.extended.ExtKind.{ExtKind}
use Rattle.un_ir.specs.declared.extended.ExtKind.TheVariants.{In, Out, Body, End, Enter, Leave}
use Rattle.un_ir.specs.declared.extended.Operand.{Operand}
use Rattle.un_ir.specs.declared.extended.ExtOp.{ExtOp}
use Rattle.un_ir.specs.declared.extended.ExtBlock.{ExtBlock}
use Rattle.un_ir.specs.declared.extended.Ext.{Ext}
use Rattle.un_ir.specs.declared.extended.Growth.{Growth}
use Rattle.un_ir.specs.declared.extended.Sort.{Sort}
use Rattle.un_ir.specs.declared.extended.Value.{Value}
use Rattle.un_ir.specs.Extended.{temp, all_kinds, defined_kinds, name_kind, carried, results_of, is_return, returns}
use Rattle.un_ir.specs.ExtendOf.{frame_op, with_op, with_leave, with_enter, with_results, with_values, with_operands, new_operands}
use Rattle.un_ir.specs.ExtendOf.{new_temps}
use Rattle.un_ir.specs.ExtendOf.{sort_of_name, sorts_of, with_extended, with_all_extended}
use Rattle.un_ir.specs.Kinds.{is_mandatory}
use Rattle.un_ir.specs.Linear.{first_of, in_temps}
use Rattle.un_ir.specs.WellFormed.{result_kind}
use Rattle.un_ir.proofs.GoodOps.{got_left, got_right}
use Rattle.un_extend.specs.Choices.{is_saved, has_copies, operand_copies, leaves_by, enters_by, carriers}
use Rattle.un_extend.specs.Choices.{is_use, read_besides, IsWholeBlock, Shape, shape, shapes_in, no_copy, value_shapes}
use Rattle.un_extend.proofs.ChoiceLinks.{value_by, Linked}
use Rattle.un_extend.proofs.ChoiceMarks.{less_not, more_not, below, equal, above, order, same_self, mine, at, at_none}
use Rattle.un_extend.proofs.ChoiceMarks.{Fact, marks_idle}
use Rattle.un_extend.proofs.ChoiceReads.{AllRead, read_at}
use Rattle.un_extend.proofs.ChoiceSteps.{op_of, in_op, fresh, AllOptional, AreChosen, AllChosen, KindsAre, Piece, piece_chosen}
use Rattle.un_extend.proofs.ChoiceSteps.{piece_kinds, InBlock, operands_step, values_step, results_step}
use Rattle.un_extend.proofs.ExtendShape.{values_add, operands_add}
use Rattle.un_extend.proofs.RunGrowth.{AreWithin, Defines, FitsOps}
use Rattle.un_extend.proofs.RunTails.{temps}

-- ---- lists

or_true : (v : Bool) → (v || true) ≡ true
or_true true = refl
or_true false = refl

or_false : (v : Bool) → (v || false) ≡ v
or_false true = refl
or_false false = refl

replicate_got : {X : Type 0} (n : ℕ) (a : X) (j : ℕ) (x : X) → slice_get (replicate n a) j ≡ Some x → (a ≡ x) × (j < n)
replicate_got zero a j x h = absurd (cc h)
replicate_got (suc n) a zero x h = ((let e : a ≡ x = cc h in e), omega arith)
replicate_got (suc n) a (suc j) x h = let r = replicate_got n a j x h in (r.0, (let l = r.1 in omega (arith, l)))

replicate_at : {X : Type 0} (n : ℕ) (a : X) (j : ℕ) → j < n → slice_get (replicate n a) j ≡ Some a
replicate_at zero a j h = absurd (omega (arith, h))
replicate_at (suc n) a zero h = refl
replicate_at (suc n) a (suc j) h = replicate_at n a j (omega (arith, h))

map_got : {X Y : Type 0} (f : X → Y) (xs : List X) (j : ℕ) (y : Y) → slice_get (map f xs) j ≡ Some y
    → (x : X) × (slice_get xs j ≡ Some x) × (f x ≡ y)
map_got f [] j y h = absurd (cc h)
map_got f (x ∷ xs) zero y h = (x, refl, (let e : f x ≡ y = cc h in e))
map_got f (x ∷ xs) (suc j) y h = map_got f xs j y h

temps_slice : (n count j : ℕ) → j < count → slice_get (temps n count) j ≡ Some (temp (n + j))
temps_slice n zero j h = absurd (omega (arith, h))
temps_slice n (suc count) zero h = ap (λ (k : ℕ). Some (temp k)) (let z : n ≡ n + 0 = omega arith in z)
temps_slice n (suc count) (suc j) h =
    temps_slice (n + 1) count j (omega (arith, h)) ∙ ap (λ (k : ℕ). Some (temp k)) (let z : (n + 1) + j ≡ n + suc j = omega arith in z)

take_front : {X : Type 0} (xs ys : List X) → take (length xs) (xs ++ ys) ≡ xs
take_front [] ys = refl
take_front (x ∷ xs) ys = ap (λ zs. x ∷ zs) (take_front xs ys)

filter_same : {X : Type 0} (p q : X → Bool) (xs : List X) → ((j : ℕ) (x : X) → slice_get xs j ≡ Some x → p x ≡ q x)
    → filter p xs ≡ filter q xs
filter_same p q [] h = refl
filter_same p q (x ∷ xs) h =
    ap (λ v. cond v (x ∷ filter p xs) (filter p xs)) (h 0 x refl)
    ∙ ap (λ ys. cond (q x) (x ∷ ys) ys) (filter_same p q xs (λ j y got. h (suc j) y got))

-- ---- saved values are a row

abbrev has : ℕ → List TempId → Bool
has x ys = list_any (λ (z : TempId). z.0 == x) ys

has_low : (x k s c : ℕ) → x < s + k → has x (drop k (temps s c)) ≡ false
has_low x zero s zero h = refl
has_low x zero s (suc c) h =
    ap (λ (v : Bool). v || has x (temps (s + 1) c)) (more_not s x (omega (arith, h))) ∙ has_low x zero (s + 1) c (omega (arith, h))
has_low x (suc k) s zero h = refl
has_low x (suc k) s (suc c) h = has_low x k (s + 1) c (omega (arith, h))

has_high : (x k s c : ℕ) → s + c ≤ x → has x (drop k (temps s c)) ≡ false
has_high x zero s zero h = refl
has_high x zero s (suc c) h =
    ap (λ (v : Bool). v || has x (temps (s + 1) c)) (less_not s x (omega (arith, h))) ∙ has_high x zero (s + 1) c (omega (arith, h))
has_high x (suc k) s zero h = refl
has_high x (suc k) s (suc c) h = has_high x k (s + 1) c (omega (arith, h))

has_here : (x k s c : ℕ) → s + k ≤ x → x < s + c → has x (drop k (temps s c)) ≡ true
has_here x zero s zero h l = absurd (omega (arith, h, l))
has_here x zero s (suc c) h l = elim (order s x) [
  | below lt ↦ ap (λ (v : Bool). v || has x (temps (s + 1) c)) (less_not s x lt)
      ∙ has_here x zero (s + 1) c (omega (arith, lt)) (omega (arith, l))
  | equal q ↦ ap (λ (v : Bool). v || has x (temps (s + 1) c)) (ap (λ (m : ℕ). m == x) q ∙ same_self x)
  | above lt ↦ absurd (omega (arith, h, lt))
]
has_here x (suc k) s zero h l = absurd (omega (arith, h, l))
has_here x (suc k) s (suc c) h l = has_here x k (s + 1) c (omega (arith, h)) (omega (arith, l))

-- ---- Leave and Enter

record Frames (g h : Growth) (ks : List Shape) : Type 0 where
  more : List ExtOp
  is : h.ops ≡ g.ops ++ more
  shapes : shapes_in more ≡ ks
  optional : AllOptional ks
  values : h.values ≡ g.values
  next : g.next ≡ h.next
  carries : (x : ℕ) → at x h.ops ≡ at x g.ops

frames_none : (g : Growth) → Frames g g []
frames_none g = record {
  more = [];
  is = sym (append-nil g.ops);
  shapes = refl;
  optional = tt;
  values = refl;
  next = refl;
  carries = λ x. refl;
}

leave_frames : (kind : ExtKind) (g : Growth) → Frames g (with_leave kind g) (leaves_by kind)
leave_frames (End term) g = by (is_return term)
  where
    by : (v : Bool) → Frames g (if v then with_op g (frame_op Leave) else g) (if v then no_copy Leave ∷ [] else [])
    by true = record {
      more = frame_op Leave ∷ [];
      is = refl;
      shapes = refl;
      optional = (refl, tt);
      values = refl;
      next = refl;
      carries = λ x. at_none x g.ops (frame_op Leave) refl;
    }
    by false = frames_none g
leave_frames _ g = frames_none g

enter_frames : (v : Bool) (kind : ExtKind) (g : Growth) → Frames g (with_enter v kind g) (enters_by v kind)
enter_frames true In g = record {
  more = frame_op Enter ∷ [];
  is = refl;
  shapes = refl;
  optional = (refl, tt);
  values = refl;
  next = refl;
  carries = λ x. at_none x g.ops (frame_op Enter) refl;
}
enter_frames true _ g = frames_none g
enter_frames false _ g = frames_none g

-- ---- a block

module _ (e : Ext) (b : ℕ) (owner : ExtBlock) where
  abbrev pub saved : Bool
  saved = (b == 0 || returns owner)

  abbrev grow : ExtOp → Growth → Growth
  grow op g = with_extended e.names owner.live_in (b == 0) saved op g

  abbrev pub grow_all : List ExtOp → Growth → Growth
  grow_all ops g = with_all_extended e.names owner.live_in (b == 0) saved ops g

  abbrev Within : List ExtOp → Type 0
  Within xs = (rest : List ExtOp) × (owner.ops ≡ xs ++ rest)

  within_less : (xs more ys : List ExtOp) → ys ≡ xs ++ more → Within ys → Within xs
  within_less xs more ys is w =
      (more ++ w.0, w.1 ∙ ap (λ (zs : List ExtOp). zs ++ w.0) is ∙ append_assoc xs more w.0)

  abbrev sorts : ExtKind → ℕ → List Sort
  sorts kind count = sorts_of e.names owner.live_in saved kind count

  -- the growth before the operation itself, and behind the copies of its results
  abbrev read : ExtOp → Growth → Growth
  read op g = with_operands op.operands (with_leave op.kind g)

  abbrev made_of : ExtOp → Growth → ExtOp
  made_of op g =
      let r = read op g in
      record { kind = op.kind; operands = new_operands op.operands (with_leave op.kind g); results = new_temps r (length op.results) }

  abbrev here : ExtOp → Growth → Growth
  here op g = with_results op.kind (new_operands op.operands (with_leave op.kind g)) (length op.results) (read op g)

  abbrev valued : ExtOp → Growth → Growth
  valued op g = let r = read op g in with_values r.next (sorts op.kind (length op.results)) (here op g)

  here_within : (op : ExtOp) (g : Growth) → Within (let h = grow op g in h.ops) → Within (let h = here op g in h.ops)
  here_within op g w =
      let f = enter_frames (b == 0) op.kind (valued op g) in
      let r = read op g in
      let v = values_add r.next (sorts op.kind (length op.results)) (here op g) in
      within_less _ v.more _ v.is (within_less _ f.more _ f.is w)

  start_within : (op : ExtOp) (g : Growth) → Within (let h = grow op g in h.ops) → Within g.ops
  start_within op g w =
      let f = leave_frames op.kind g in
      let o = operands_add op.operands (with_leave op.kind g) in
      within_less g.ops f.more _ f.is (within_less _ o.more _ o.is
      (within_less (let r = read op g in r.ops) (made_of op g ∷ []) _ refl (here_within op g w)))

  all_within : (ops : List ExtOp) (g : Growth) → Within (let h = grow_all ops g in h.ops) → Within g.ops
  all_within [] g w = w
  all_within (op ∷ ops) g w = start_within op g (all_within ops (grow op g) w)

  -- the first operation of the block extended
  pub first_made : (rs : List TempId) (ops : List ExtOp) (start : ℕ) (values : List Value)
      → owner.ops ≡ (let h = grow_all (in_op rs ∷ ops) (fresh start values) in h.ops)
      → slice_get owner.ops 0 ≡ Some (in_op (temps start (length rs)))
  first_made rs ops start values is =
      let g = grow (in_op rs) (fresh start values) in
      let h = grow_all ops g in
      let w = here_within (in_op rs) (fresh start values) (all_within ops g ([], is ∙ sym (append-nil h.ops))) in
      ap (λ (xs : List ExtOp). slice_get xs 0) w.1

  module _ (low start many : ℕ) (ins : in_temps owner.ops ≡ temps start many) (link : Linked e owner) where
    -- ---- values

    fact_at : (op : ExtOp) (g : Growth) → Within (let h = grow op g in h.ops) → ((o : ExtOp) (y : TempId) → value_by op.kind o y ≡ y)
        → (j : ℕ) (sort : Sort) → j < length op.results
        → slice_get (defined_kinds e.names owner op.kind (made_of op g)) j ≡ Some sort.kind
        → (let r = read op g in has_copies b owner (temp (r.next + j)) ≡ sort.copied)
        → (let r = read op g in Fact e b owner low (r.next + j) sort)
    fact_at op g w own j sort lt got copied =
        let r = read op g in
        let made = made_of op g in
        let k = length r.ops in
        let in_block = here_within op g w in
        let z : k ≡ k + 0 = omega arith in
        let is_there : slice_get owner.ops k ≡ Some made =
        ap (λ (xs : List ExtOp). slice_get xs k) in_block.1
        ∙ got_left (r.ops ++ made ∷ []) in_block.0 k made (ap (slice_get (r.ops ++ made ∷ [])) z ∙ got_right r.ops (made ∷ []) 0) in
        let y = temp (r.next + j) in
        let mine_j : slice_get made.results j ≡ Some y = temps_slice r.next (length op.results) j lt in
        let value : carried e.blocks y ≡ y = link.value k made is_there j y mine_j ∙ own made y in
        record {
          kind = ap (λ (v : TempId). slice_get (all_kinds e.names e.blocks) v.0) value ∙ link.kind k made is_there j y mine_j sort.kind got;
          copied = copied;
        }

    own_copies : (x : ℕ) → is_saved owner (temp x) ≡ false → has_copies b owner (temp x) ≡ true
    own_copies x h = ap (λ (v : Bool). saved || not v) h ∙ or_true saved

    saved_copies : (x : ℕ) → is_saved owner (temp x) ≡ true → has_copies b owner (temp x) ≡ saved
    saved_copies x h = ap (λ (v : Bool). saved || not v) h ∙ or_false saved

    is_saved_by : (x : ℕ) → is_saved owner (temp x) ≡ has x (drop (length owner.live_in) (temps start many))
    is_saved_by x = ap (λ (ys : List TempId). has x (drop (length owner.live_in) ys)) ins

    -- ---- one operation

    record Step (g h : Growth) (n end more : ℕ) : Type 0 where
      top : ℕ
      reach : top ≡ end
      marks : InBlock e b owner low top top h
      up : n ≤ top
      count : length h.values ≡ length g.values + more
      piece : Piece e b owner g h

    op_step : (op : ExtOp) (g : Growth) (n : ℕ) → is_mandatory op.kind ≡ true
        → ((x : ℕ) (o : ExtOp) → mine x op.kind o ≡ filter (λ (y : TempId). y.0 == x) o.results)
        → AreWithin low (length g.values) op.operands → length (sorts op.kind (length op.results)) ≡ length op.results
        → ((j : ℕ) (sort : Sort) → slice_get (sorts op.kind (length op.results)) j ≡ Some sort
        → (let r = read op g in Fact e b owner low (r.next + j) sort))
        → InBlock e b owner low n n g → Step g (grow op g) n (let r = read op g in r.next + length op.results) (length op.results)
    op_step op g n stays own within long facts a =
        let f = leave_frames op.kind g in
        let before = with_leave op.kind g in
        let r = read op g in
        let h = grow op g in
        let count = length op.results in
        let a1 = marks_idle e b owner low n g before f.values f.carries f.next a in
        let o = operands_step e b owner low op.operands n before
        (subst (λ (vs : List Value). AreWithin low (length vs) op.operands) (sym f.values) within) a1 in
        let a2 = results_step e b owner low n count op.kind (new_operands op.operands before) r o.marks own in
        let v = values_step e b owner low (sorts op.kind count) r.next (r.next + count) (here op g)
        (ap (λ (k : ℕ). r.next + k) long) a2 facts in
        let q = enter_frames (b == 0) op.kind (valued op g) in
        let marks2 = o.marks in
        let up = marks2.top in
        let s0 = ap (λ (vs : List Value). length vs) f.values in
        let s1 = o.same in
        let s2 = v.many in
        let s3 = ap (λ (vs : List Value). length vs) q.values in
        let added = o.added in
        let later = v.added in
        let made = made_of op g in
        let front_is : r.ops ≡ g.ops ++ (f.more ++ added.more) =
        added.is ∙ ap (λ (xs : List ExtOp). xs ++ added.more) f.is ∙ append_assoc g.ops f.more added.more in
        record {
          top = r.next + count;
          reach = refl;
          marks = marks_idle e b owner low (r.next + count) (valued op g) h q.values q.carries q.next v.marks;
          up = omega (arith, up);
          count = omega (arith, s0, s1, s2, s3, long);
          piece = record {
            front = f.more ++ added.more;
            made = made;
            back = later.more ++ q.more;
            is = q.is ∙ ap (λ (xs : List ExtOp). xs ++ q.more) later.is ∙ append_assoc (r.ops ++ made ∷ []) later.more q.more
                ∙ append_assoc r.ops (made ∷ []) (later.more ++ q.more)
                ∙ ap (λ (xs : List ExtOp). xs ++ made ∷ (later.more ++ q.more)) front_is;
            before = map-append shape f.more added.more
                ∙ ap (λ (ks : List Shape). ks ++ shapes_in added.more) f.shapes
                ∙ ap (λ (ks : List Shape). leaves_by op.kind ++ ks) added.shapes;
            behind = map-append shape later.more q.more
                ∙ ap (λ (ks : List Shape). ks ++ shapes_in q.more) (later.shapes
                ∙ ap (λ (k : ℕ). flat_map (value_shapes e b owner) (temps r.next k)) long)
                ∙ ap (λ (ks : List Shape). flat_map (value_shapes e b owner) made.results ++ ks) q.shapes;
            leaves = f.optional;
            enters = q.optional;
            stays = stays;
            chosen = subst (λ (xs : List ExtOp). AreChosen e b owner xs made.operands) front_is o.chosen;
          };
        }

    -- ---- all operations

    record Whole (m : ℕ) (g : Growth) : Type 0 where
      n : ℕ
      marks : InBlock e b owner low n n g
      after : start + many ≤ n
      count : length g.values ≡ m
      kinds : KindsAre e b owner g.ops
      chosen : AllChosen e b owner [] g.ops

    then_whole : (g h : Growth) (m n end more : ℕ) → start + many ≤ n → length g.values ≡ m → KindsAre e b owner g.ops
        → AllChosen e b owner [] g.ops → Step g h n end more → Whole (m + more) h
    then_whole g h m n end more after count kinds chosen s = record {
      n = s.top;
      marks = s.marks;
      after = (let u = s.up in omega (arith, after, u));
      count = (let c = s.count in omega (arith, c, count));
      kinds = piece_kinds e b owner g h s.piece kinds;
      chosen = piece_chosen e b owner g h s.piece chosen;
    }

    body_facts : (o : SrcOp) (xs : List Operand) (rs : List TempId) (g : Growth) (n : ℕ) → start + many ≤ n
        → (let r = with_operands xs g in n ≤ r.next) → Within (let h = grow (op_of (Body o) xs rs) g in h.ops)
        → (j : ℕ) (sort : Sort) → slice_get (sorts (Body o) (length rs)) j ≡ Some sort
        → (let r = with_operands xs g in Fact e b owner low (r.next + j) sort)
    body_facts o xs rs g n after up w j sort got =
        let op = op_of (Body o) xs rs in
        let r = with_operands xs g in
        let one : Sort = record { kind = result_kind o.op; copied = true } in
        let c = replicate_got (length rs) one j sort got in
        let x = r.next + j in
        subst (Fact e b owner low x) c.0 (fact_at op g w (λ o y. refl) j one c.1
        (slice_get-map (λ (y : TempId). result_kind o.op) (new_temps r (length rs)) j
        ∙ ap (option_map (λ (y : TempId). result_kind o.op)) (temps_slice r.next (length rs) j c.1))
        (own_copies x (is_saved_by x ∙ has_high x (length owner.live_in) start many (omega (arith, after, up)))))

    op_whole : (kind : ExtKind) (xs : List Operand) (rs : List TempId) (g : Growth) (m : ℕ) → AreWithin low m xs → Defines kind (length rs)
        → Within (let h = grow (op_of kind xs rs) g in h.ops) → Whole m g → Whole (m + length rs) (grow (op_of kind xs rs) g)
    op_whole (Body o) xs rs g m within few w a =
        let c = a.count in
        let mine_within = subst (λ (k : ℕ). AreWithin low k xs) (sym c) within in
        let read_marks = (let q = operands_step e b owner low xs a.n g mine_within a.marks in q.marks) in
        then_whole g _ m a.n _ (length rs) a.after c a.kinds a.chosen
        (op_step (op_of (Body o) xs rs) g a.n refl (λ x o. refl) mine_within (length-replicate (length rs) _)
        (body_facts o xs rs g a.n a.after read_marks.top w) a.marks)
    op_whole (End term) xs [] g m within few w a =
        let c = a.count in
        then_whole g _ m a.n _ 0 a.after c a.kinds a.chosen
        (op_step (op_of (End term) xs []) g a.n refl (λ x o. refl) (subst (λ (k : ℕ). AreWithin low k xs) (sym c) within) refl
        (λ j sort got. absurd (cc got)) a.marks)
    op_whole (End term) xs (r ∷ rs) g m within few w a = absurd (omega (arith, few))
    op_whole Out xs [] g m within few w a =
        let c = a.count in
        then_whole g _ m a.n _ 0 a.after c a.kinds a.chosen
        (op_step (op_of Out xs []) g a.n refl (λ x o. refl) (subst (λ (k : ℕ). AreWithin low k xs) (sym c) within) refl
        (λ j sort got. absurd (cc got)) a.marks)
    op_whole Out xs (r ∷ rs) g m within few w a = absurd (omega (arith, few))
    op_whole _ xs rs g m within few w a = absurd few

    all_whole : (ops : List ExtOp) (g : Growth) (m : ℕ) → FitsOps low m ops → Within (let h = grow_all ops g in h.ops) → Whole m g
        → Whole (m + length (results_of ops)) (grow_all ops g)
    all_whole [] g m fits w a = let z : m ≡ m + 0 = omega arith in subst (λ (k : ℕ). Whole k g) z a
    all_whole (op ∷ ops) g m fits w a =
        let f = fits.0 in
        let one = op_whole op.kind op.operands op.results g m f.read f.count (all_within ops (grow op g) w) a in
        let r = all_whole ops (grow op g) (m + length op.results) fits.1 w one in
        let l = length-append op.results (results_of ops) in
        let z : (m + length op.results) + length (results_of ops) ≡ m + length (results_of (op ∷ ops)) = omega (arith, l) in
        subst (λ (k : ℕ). Whole k (grow_all (op ∷ ops) g)) z r

    -- ---- a block's start

    split_got : {X : Type 0} (xs ys : List X) (j : ℕ) (y : X) → slice_get (xs ++ ys) j ≡ Some y
        → (slice_get xs j ≡ Some y) ⊎ ((i : ℕ) × (j ≡ length xs + i) × (slice_get ys i ≡ Some y))
    split_got [] ys j y h = inr (j, (let z : j ≡ 0 + j = omega arith in z), h)
    split_got (x ∷ xs) ys zero y h = inl h
    split_got (x ∷ xs) ys (suc j) y h = elim (split_got xs ys j y h) [
      | inl a ↦ inl a
      | inr a ↦ inr (a.0, (let z = a.1 in omega (arith, z)), a.2)
    ]

    in_facts : (rs : List TempId) (values : List Value) → length rs ≡ many → length owner.live_in ≤ many
        → Within (let h = grow (in_op rs) (fresh start values) in h.ops)
        → (j : ℕ) (sort : Sort) → slice_get (sorts In (length rs)) j ≡ Some sort → Fact e b owner low (start + j) sort
    in_facts rs values count named w j sort got =
        let names = map (sort_of_name e.names) owner.live_in in
        let more = length rs - length owner.live_in in
        let other : Sort = record { kind = General; copied = saved } in
        let results = new_temps (fresh start values) (length rs) in
        let kinds = map (name_kind e.names) owner.live_in in
        let long = length-map-range_with_len temp start (length rs) in
        let by_name = length-map owner.live_in (sort_of_name e.names) in
        let by_kind = length-map owner.live_in (name_kind e.names) in
        let x = start + j in
        elim (split_got names (replicate more other) j sort got) [
          | inl at_j ↦ (let a = map_got (sort_of_name e.names) owner.live_in j sort at_j in
              let inside = slice_get_within owner.live_in j a.0 a.1 in
              subst (Fact e b owner low x) a.2 (fact_at (in_op rs) (fresh start values) w (λ o y. refl) j (sort_of_name e.names a.0)
              (omega (arith, inside, count, named))
              (got_left kinds (replicate (length results - length owner.live_in) General) j (name_kind e.names a.0)
              (slice_get-map (name_kind e.names) owner.live_in j ∙ ap (option_map (name_kind e.names)) a.1))
              (own_copies x (is_saved_by x ∙ has_low x (length owner.live_in) start many (omega (arith, inside))))))
          | inr at_i ↦ (let i = at_i.0 in let is = at_i.1 in
              let c = replicate_got more other i sort at_i.2 in let inside = c.1 in
              let z : j ≡ length kinds + i = omega (arith, is, by_name, by_kind) in
              subst (Fact e b owner low x) c.0 (fact_at (in_op rs) (fresh start values) w (λ o y. refl) j other
              (omega (arith, is, inside, by_name, count, named))
              (ap (slice_get (kinds ++ replicate (length results - length owner.live_in) General)) z
              ∙ got_right kinds (replicate (length results - length owner.live_in) General) i
              ∙ replicate_at (length results - length owner.live_in) General i (omega (arith, inside, long)))
              (saved_copies x (is_saved_by x ∙ has_here x (length owner.live_in) start many
              (omega (arith, is, by_name)) (omega (arith, is, inside, by_name, count, named))))))
        ]

    start_whole : (rs : List TempId) (values : List Value) → length rs ≡ many → length owner.live_in ≤ many → length values ≡ low
        → Within (let h = grow (in_op rs) (fresh start values) in h.ops)
        → Whole (low + length rs) (grow (in_op rs) (fresh start values))
    start_whole rs values count named long w =
        let g = fresh start values in
        let none : InBlock e b owner low start start g = record {
          known = λ i v got from. absurd (let l = slice_get_within values i v got in omega (arith, l, long, from));
          rising = λ i j v u got_i got_j from lt. absurd (let l = slice_get_within values i v got_i in omega (arith, l, long, from));
          waiting = λ x from to. absurd (omega (arith, from, to));
          fresh = λ x from. refl;
          top = omega arith;
        } in
        let a = length-append (map (sort_of_name e.names) owner.live_in)
        (replicate (length rs - length owner.live_in) (let s : Sort = record { kind = General; copied = saved } in s)) in
        let c = length-map owner.live_in (sort_of_name e.names) in
        let d = length-replicate (length rs - length owner.live_in) (let s : Sort = record { kind = General; copied = saved } in s) in
        let s = op_step (in_op rs) g start refl (λ x o. refl) tt (omega (arith, a, c, d, count, named))
        (in_facts rs values count named w) none in
        let is_top = s.reach in
        record {
          n = s.top;
          marks = s.marks;
          after = omega (arith, is_top, count);
          count = (let k = s.count in omega (arith, k, long));
          kinds = piece_kinds e b owner g _ s.piece refl;
          chosen = piece_chosen e b owner g _ s.piece tt;
        }

    -- ---- the whole block

    -- what an operation defines carries what it is known to carry
    own_carriers : (x : ℕ) (done : List ExtOp) (op : ExtOp) (tail : List ExtOp) → owner.ops ≡ done ++ op ∷ tail
        → carriers e x op.results ≡ mine x op.kind op
    own_carriers x done op tail is =
        let k = length done in
        let z : k ≡ k + 0 = omega arith in
        let is_there : slice_get owner.ops k ≡ Some op =
        ap (λ (xs : List ExtOp). slice_get xs k) is ∙ ap (slice_get (done ++ op ∷ tail)) z ∙ got_right done (op ∷ tail) 0 in
        filter_same (λ (y : TempId). (let v = carried e.blocks y in v.0) == x) (λ (y : TempId). (let v = value_by op.kind op y in v.0) == x)
        op.results (λ j y got. ap (λ (v : TempId). v.0 == x) (link.value k op is_there j y got))

    carriers_at : (keep : ExtKind → Bool) (x : ℕ) (done front more : List ExtOp) → owner.ops ≡ done ++ (front ++ more)
        → carriers e x (results_of (filter (λ (op : ExtOp). keep op.kind) front)) ≡ at x (filter (λ (op : ExtOp). keep op.kind) front)
    carriers_at keep x done [] more is = refl
    carriers_at keep x done (op ∷ front) more is =
        by (keep op.kind) (carriers_at keep x (done ++ op ∷ []) front more (is ∙ sym (append_assoc done (op ∷ []) (front ++ more))))
      where
        rest : List ExtOp
        rest = filter (λ (o : ExtOp). keep o.kind) front

        by : (v : Bool) → carriers e x (results_of rest) ≡ at x rest
            → carriers e x (results_of (cond v (op ∷ rest) rest)) ≡ at x (cond v (op ∷ rest) rest)
        by true ih =
            filter-append (λ (y : TempId). (let v = carried e.blocks y in v.0) == x) op.results (results_of rest)
            ∙ ap (λ (ys : List TempId). ys ++ carriers e x (results_of rest)) (own_carriers x done op (front ++ more) is)
            ∙ ap (λ (ys : List TempId). mine x op.kind op ++ ys) ih
        by false ih = ih

    all_carriers : (x : ℕ) (front more : List ExtOp) → owner.ops ≡ front ++ more → carriers e x (results_of front) ≡ at x front
    all_carriers x front more is =
        let all = whole_kept front in
        ap (λ (xs : List ExtOp). carriers e x (results_of xs)) (sym all) ∙ carriers_at (λ kind. true) x [] front more is ∙ ap (at x) all
      where
        whole_kept : (xs : List ExtOp) → filter (λ (op : ExtOp). true) xs ≡ xs
        whole_kept [] = refl
        whole_kept (op ∷ xs) = ap (λ (ys : List ExtOp). op ∷ ys) (whole_kept xs)

    chosen_at : (before ops : List ExtOp) (k : ℕ) (op : ExtOp) → AllChosen e b owner before ops → slice_get ops k ≡ Some op
        → is_mandatory op.kind ≡ true → AreChosen e b owner (before ++ take k ops) op.operands
    chosen_at before [] k op a h m = absurd (cc h)
    chosen_at before (o ∷ ops) zero op a h m =
        let q : o ≡ op = cc h in
        let c = a.0 (ap (λ (x : ExtOp). is_mandatory x.kind) q ∙ m) in
        subst (λ (xs : List ExtOp). AreChosen e b owner xs op.operands) (sym (append-nil before))
        (subst (λ (x : ExtOp). AreChosen e b owner before x.operands) q c)
    chosen_at before (o ∷ ops) (suc k) op a h m =
        subst (λ (xs : List ExtOp). AreChosen e b owner xs op.operands) (append_assoc before (o ∷ []) (take k ops))
        (chosen_at (before ++ o ∷ []) ops k op a.1 h m)

    whole_block : (g : Growth) (m : ℕ) → owner.ops ≡ g.ops → AllRead [] owner.ops → Whole m g → IsWholeBlock e b owner
    whole_block g m is reads w =
        let chosen = subst (AllChosen e b owner []) (sym is) w.chosen in
        record {
          copies = subst (KindsAre e b owner) (sym is) w.kinds;
          choices = λ k op got stays j x at_j. (
              let c = chosen_at [] owner.ops k op chosen got stays j x at_j in
              let later = drop (j + 1) op.operands in
              let front = c.front in
              let rest = c.rest in
              let cut = take-append-drop k owner.ops in
              let inside = slice_get_within owner.ops k op got in
              let width = length-take-le k owner.ops (omega (arith, inside)) in
              let whole : owner.ops ≡ front ++ (rest ++ drop k owner.ops) =
              sym cut ∙ ap (λ (xs : List ExtOp). xs ++ drop k owner.ops) c.is ∙ append_assoc front rest (drop k owner.ops) in
              let l1 = ap (λ (xs : List ExtOp). length xs) c.is in
              let l2 = length-append front rest in
              let l3 = c.long in
              let size : k - length (flat_map (operand_copies e b owner) later) ≡ length front = omega (arith, l1, l2, l3, width) in
              let taken : take (k - length (flat_map (operand_copies e b owner) later)) owner.ops ≡ front =
              ap (λ (n : ℕ). take n owner.ops) size ∙ ap (take (length front)) whole ∙ take_front front (rest ++ drop k owner.ops) in
              c.alts ∙ sym (all_carriers (first_of x.alts) front (rest ++ drop k owner.ops) whole)
              ∙ ap (λ (xs : List ExtOp). carriers e (first_of x.alts) (results_of xs)) (sym taken)
              );
          reads = λ k op node x got is_copy at_x. (
              let before = take k owner.ops in
              let r = read_at [] owner.ops k op reads got node x is_copy at_x in
              let cut = sym (take-append-drop k owner.ops) in
              r ∙ ap (λ (ys : List TempId). ys ++ read_besides node before)
              (sym (carriers_at (λ kind. not (is_use kind)) (first_of x.alts) [] before (drop k owner.ops) cut))
              );
        }

    pub grown_whole : (rs : List TempId) (ops : List ExtOp) (values : List Value) → length rs ≡ many → length owner.live_in ≤ many
        → length values ≡ low → FitsOps low (low + length rs) ops
        → owner.ops ≡ (let h = grow_all (in_op rs ∷ ops) (fresh start values) in h.ops) → AllRead [] owner.ops
        → IsWholeBlock e b owner
        × ((let h = grow_all (in_op rs ∷ ops) (fresh start values) in length h.values) ≡ (low + length rs) + length (results_of ops))
    grown_whole rs ops values count named long fits is reads =
        let g = grow (in_op rs) (fresh start values) in
        let h = grow_all ops g in
        let all : Within h.ops = ([], is ∙ sym (append-nil h.ops)) in
        let w = all_whole ops g (low + length rs) fits all (start_whole rs values count named long (all_within ops g all)) in
        (whole_block h _ is reads w, w.count)
