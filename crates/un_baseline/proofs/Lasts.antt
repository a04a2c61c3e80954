-- The end of a block is its last operation, and what it reads is all that a block hands over.
use Rattle.std.proofs.Common.{◌≡◌, ◌≢◌, ℕ, suc, ◌+◌, ◌||◌, ◌&&◌, Bool, true, false, List, [], ◌∷◌, ◌++◌, length, filter, Option, Some, None}
use Rattle.std.proofs.Common.{refl, sym, ap, subst, ◌∙◌, append_assoc, arith}
use Rattle.std.specs.Prelude.{◌==◌, is_some, is_none, if◌then◌else◌, slice_get, All}
use Rattle.std.proofs.lemmas.Bool.Decides.{nat_tests}
use Rattle.std.proofs.lemmas.List.Elements.{All-nil, All-cons}
use Rattle.un_base.specs.declared.ids.NameId.{NameId}
use Rattle.un_base.specs.declared.ids.TempId.{TempId}
use Rattle.un_isa.specs.declared.op.Op.{Op}
use Rattle.un_isa.specs.declared.table.Table.{Table}
use Rattle.un_ir.specs.declared.function.Kind.{Kind}
use Rattle.un_ir.specs.declared.function.Kind.TheVariants.{General, Pred}
use Rattle.un_ir.specs.declared.function.SrcOp.{SrcOp}
use Rattle.un_ir.specs.declared.function.Term.{Term}
use Rattle.un_ir.specs.declared.function.Term.TheVariants.{Fall, Jump, Branch, Ret}
use Rattle.un_ir.specs.declared.extended.NodeCopy.{NodeCopy}
use Rattle.un_ir.specs.declared.extended.NodeCopy.TheVariants.{D, D2, U, U2}
use Rattle.un_ir.specs.declared.extended.ExtKind.{ExtKind}
use Rattle.un_ir.specs.declared.extended.ExtKind.TheVariants.{In, Out, Body, End, Copy, Enter, Leave}
use Rattle.un_ir.specs.declared.extended.Operand.{Operand}
use Rattle.un_ir.specs.declared.extended.ExtOp.{ExtOp}
use Rattle.un_ir.specs.declared.extended.Growth.{Growth}
use Rattle.un_ir.specs.declared.extended.Value.{Value}
use Rattle.un_ir.specs.declared.extended.Sort.{Sort}
use Rattle.un_ir.specs.Extended.{temp, is_return}
use Rattle.un_ir.specs.Linear.{first_of}
use Rattle.un_ir.specs.ExtendOf.{frame_op, with_value, with_operand, with_operands, new_operands, sorts_of, with_leave, with_extended}
use Rattle.un_ir.specs.LinearOf.{assigned, past, reads, name_operand, body_op, body_ops, end_ops, out_op}
use Rattle.un_model.specs.Congruences.{is_live_out}
use Rattle.un_model.specs.declared.schedule.Issue.{Issue}
use Rattle.un_model.specs.declared.schedule.Read.{Read}
use Rattle.un_model.specs.declared.schedule.LiveRange.{LiveRange}
use Rattle.un_model.specs.Instructions.{instruction_of}
use Rattle.un_model.specs.Pairs.{places_from, pairs_from, joined}
use Rattle.un_ir.specs.Kinds.{is_delimiter}
use Rattle.un_baseline.specs.Plans.{Step, planned_issue, planned_read, planned_reads_by}
use Rattle.un_baseline.proofs.Grown.{copy_ops, value_ops, values_ops, operand_ops_by, operand_ops, operands_ops, leave_ops, enter_ops}
use Rattle.un_baseline.proofs.Grown.{made_op, behind_op, extended_ops, all_ops}
use Rattle.un_baseline.proofs.Sound.{Seen, after}
use Rattle.un_baseline.proofs.Walk.{AreGoodSteps, Wanted, with_step, seen_after}
use Rattle.un_baseline.proofs.Items.{get_left}

-- an operation that is no block's end, and reads nothing where it is a block's start
pub record IsInside (op : ExtOp) : Type 0 where
  pub not_out : op.kind ≢ Out
  pub start : op.kind ≡ In → op.operands ≡ []

pub data EndsOut : List ExtOp → Type 0 where
  ends : {op : ExtOp} → op.kind ≡ Out → EndsOut (op ∷ [])
  goes_on : {op : ExtOp} {ops : List ExtOp} → IsInside op → EndsOut ops → EndsOut (op ∷ ops)

other_inside : (op : ExtOp) → op.kind ≢ Out → op.kind ≢ In → IsInside op
other_inside op a d = record { not_out = a; start = λ is. absurd (d is) }

module _ (names : List Kind) (live_in : List NameId) (entry saved : Bool) where
  ends_copies : (first second : NodeCopy) (kind : Kind) (copied : Bool) (alts : List TempId) (n : ℕ) (rest : List ExtOp) → EndsOut rest
      → EndsOut (copy_ops first second kind copied alts n ++ rest)
  ends_copies first second kind false alts n rest h = h
  ends_copies first second General true alts n rest h = goes_on (record { not_out = λ z. cc; start = λ z. cc }) h
  ends_copies first second Pred true alts n rest h = goes_on (record { not_out = λ z. cc; start = λ z. cc })
      (goes_on (record { not_out = λ z. cc; start = λ z. cc }) h)

  ends_values : (m : ℕ) (sorts : List Sort) (g : Growth) (rest : List ExtOp) → EndsOut rest → EndsOut (values_ops m sorts g ++ rest)
  ends_values m [] g rest h = h
  ends_values m (t ∷ sorts) g rest h =
      let g' = with_value m t g in
      subst EndsOut (sym (append_assoc (value_ops m t g) (values_ops (m + 1) sorts g') rest))
      (ends_copies D D2 t.kind t.copied (temp m ∷ []) g.next (values_ops (m + 1) sorts g' ++ rest) (ends_values (m + 1) sorts g' rest h))

  ends_operand : (v : Option Value) (n : ℕ) (rest : List ExtOp) → EndsOut rest → EndsOut (operand_ops_by v n ++ rest)
  ends_operand None n rest h = h
  ends_operand (Some v) n rest h = ends_copies U U2 v.sort.kind v.sort.copied v.own n rest h

  ends_operands : (xs : List Operand) (g : Growth) (rest : List ExtOp) → EndsOut rest → EndsOut (operands_ops xs g ++ rest)
  ends_operands [] g rest h = h
  ends_operands (x ∷ xs) g rest h =
      let g' = with_operand x g in
      subst EndsOut (sym (append_assoc (operand_ops x g) (operands_ops xs g') rest))
      (ends_operand (slice_get g.values (first_of x.alts)) g.next (operands_ops xs g' ++ rest) (ends_operands xs g' rest h))

  ends_enter : (t : Bool) (kind : ExtKind) (rest : List ExtOp) → EndsOut rest → EndsOut (enter_ops t kind ++ rest)
  ends_enter true In rest h = goes_on (record { not_out = λ z. cc; start = λ z. cc }) h
  ends_enter true Out rest h = h
  ends_enter true (Body o) rest h = h
  ends_enter true (End term) rest h = h
  ends_enter true (Copy node) rest h = h
  ends_enter true Enter rest h = h
  ends_enter true Leave rest h = h
  ends_enter false kind rest h = h

  ends_past : (kind : ExtKind) (m : ℕ) (xs : List Operand) (g here : Growth) (sorts : List Sort) (made : ExtOp) (rest : List ExtOp)
      → IsInside made → EndsOut rest
      → EndsOut ((operands_ops xs g ++ (made ∷ (values_ops m sorts here ++ enter_ops entry kind))) ++ rest)
  ends_past kind m xs g here sorts made rest inside h =
      subst EndsOut (sym (append_assoc (operands_ops xs g) (made ∷ (values_ops m sorts here ++ enter_ops entry kind)) rest))
      (ends_operands xs g (made ∷ ((values_ops m sorts here ++ enter_ops entry kind) ++ rest))
      (goes_on inside (subst EndsOut (sym (append_assoc (values_ops m sorts here) (enter_ops entry kind) rest))
      (ends_values m sorts here (enter_ops entry kind ++ rest) (ends_enter entry kind rest h)))))

  pub ends_bodies : (t : Table) (current : List ℕ) (first : ℕ) (os : List SrcOp) (tail : List ExtOp) (g : Growth)
      → ((g' : Growth) → EndsOut (all_ops names live_in entry saved tail g')) → EndsOut
      (all_ops names live_in entry saved (body_ops t current first os ++ tail) g)
  ends_bodies t current first [] tail g h = h g
  ends_bodies t current first (o ∷ os) tail g h =
      let op = body_op t current first o in
      let read = with_operands op.operands g in
      let g' = with_extended names live_in entry saved op g in
      ends_past (Body o) read.next op.operands g (behind_op names live_in entry saved op g)
      (sorts_of names live_in saved (Body o) (length op.results))
      (made_op names live_in entry saved op g) (all_ops names live_in entry saved
      (body_ops t (assigned current o.dst first) (past o.dst first) os ++ tail) g')
      (record { not_out = λ z. cc; start = λ z. cc }) (ends_bodies t (assigned current o.dst first) (past o.dst first) os tail g' h)

  pub ends_start : (results : List TempId) (g : Growth) (rest : List ExtOp) → EndsOut rest
      → EndsOut (extended_ops names live_in entry saved (record { kind = In; operands = []; results = results }) g ++ rest)
  ends_start results g rest h =
      let start : ExtOp = record { kind = In; operands = []; results = results } in
      ends_past In g.next [] g (behind_op names live_in entry saved start g) (sorts_of names live_in saved In (length start.results))
      (made_op names live_in entry saved start g) rest
      (record { not_out = λ z. cc; start = λ z. refl }) h

  ends_out : (xs : List Operand) (g : Growth) → EndsOut (all_ops names live_in entry saved
      (record { kind = Out; operands = xs; results = [] } ∷ []) g)
  ends_out xs g = by entry
    where
      by : (t : Bool) → EndsOut (all_ops names live_in t saved (record { kind = Out; operands = xs; results = [] } ∷ []) g)
      by true = subst EndsOut (sym (append_assoc (operands_ops xs g) (record { kind = Out; operands = new_operands xs g; results = [] } ∷
          []) []))
          (ends_operands xs g (record { kind = Out; operands = new_operands xs g; results = [] } ∷ []) (ends refl))
      by false = subst EndsOut (sym (append_assoc (operands_ops xs g) (record { kind = Out; operands = new_operands xs g; results = [] } ∷
          []) []))
          (ends_operands xs g (record { kind = Out; operands = new_operands xs g; results = [] } ∷ []) (ends refl))

  ends_leave : (t : Bool) (rest : List ExtOp) → EndsOut rest → EndsOut ((if t then frame_op Leave ∷ [] else []) ++ rest)
  ends_leave true rest h = goes_on (record { not_out = λ z. cc; start = λ z. cc }) h
  ends_leave false rest h = h

  ends_end : (term : Term) (xs : List Operand) (rest : List ExtOp) (g : Growth) → ((g' : Growth)
      → EndsOut (all_ops names live_in entry saved rest g'))
      → EndsOut (all_ops names live_in entry saved (record { kind = End term; operands = xs; results = [] } ∷ rest) g)
  ends_end term xs rest g h =
      let op : ExtOp = record { kind = End term; operands = xs; results = [] } in
      let before = with_leave (End term) g in
      let read = with_operands xs before in
      let more = operands_ops xs before ++ (made_op names live_in entry saved op before ∷
      (values_ops read.next [] (behind_op names live_in entry saved op before) ++ enter_ops entry (End term))) in
      let behind = all_ops names live_in entry saved rest (with_extended names live_in entry saved op g) in
      subst EndsOut (sym (append_assoc (leave_ops (End term)) more behind))
      (ends_leave (is_return term) (more ++ behind)
      (ends_past (End term) read.next xs before (behind_op names live_in entry saved op before) []
      (made_op names live_in entry saved op before) behind
      (record { not_out = λ z. cc; start = λ z. cc }) (h (with_extended names live_in entry saved op g))))

  pub ends_tail : (t : Table) (after : List ℕ) (link kept : ℕ) (live_out : List NameId) (term : Term) (g : Growth)
      → EndsOut (all_ops names live_in entry saved (end_ops after link term ++ out_op t after kept live_out term ∷ []) g)
  ends_tail t after link kept live_out Fall g = let out = out_op t after kept live_out Fall in ends_out out.operands g
  ends_tail t after link kept live_out (Jump to) g = let out = out_op t after kept live_out (Jump to) in ends_end (Jump to) []
      (out ∷ []) g (λ g'. ends_out out.operands g')
  ends_tail t after link kept live_out (Branch pred sense to) g =
      let out = out_op t after kept live_out (Branch pred sense to) in ends_end (Branch pred sense to) (name_operand after None pred ∷ [])
      (out ∷ []) g (λ g'. ends_out out.operands g')
  ends_tail t after link kept live_out (Ret value) g = let out = out_op t after kept live_out (Ret value) in ends_end (Ret value)
      (reads link None ∷ []) (out ∷ []) g (λ g'. ends_out out.operands g')

-- ---- what passes

pub filter_parts : {A : Type 0} (p : A → Bool) (xs ys : List A) → filter p (xs ++ ys) ≡ filter p xs ++ filter p ys
filter_parts p [] ys = refl
filter_parts {A} p (x ∷ xs) ys = by (p x) (filter_parts p xs ys)
  where
    by : (t : Bool) → filter p (xs ++ ys) ≡ filter p xs ++ filter p ys
        → (if t then x ∷ filter p (xs ++ ys) else filter p (xs ++ ys)) ≡ (if t then x ∷ filter p xs else filter p xs) ++ filter p ys
    by true h = ap (λ (zs : List A). x ∷ zs) h
    by false h = h

pub filter_none : {A : Type 0} (p : A → Bool) (xs : List A) → All (λ (x : A). p x ≡ false) xs → filter p xs ≡ []
filter_none p [] h = refl
filter_none p (x ∷ xs) h = rw (h 0 x (omega arith)) (filter_none p xs (λ k d lt. h (suc k) d (omega arith)))

pub filter_whole : {A : Type 0} (p : A → Bool) (xs : List A) → All (λ (x : A). p x ≡ true) xs → filter p xs ≡ xs
filter_whole p [] h = refl
filter_whole {A} p (x ∷ xs) h = rw (h 0 x (omega arith)) (ap (λ (ys : List A). x ∷ ys)
    (filter_whole p xs (λ k d lt. h (suc k) d (omega arith))))

all_places : {A B : Type 0} (P : B → Type 0) (f : ℕ → A → B) (j : ℕ) (xs : List A) → ((k : ℕ) (x : A) → P (f k x))
    → All P (places_from f j xs)
all_places P f j [] h = All-nil P
all_places P f j (x ∷ xs) h = All-cons P (f j x) (places_from f (j + 1) xs) (h j x) (all_places P f (j + 1) xs h)

and_false : (x : Bool) → (x && false) ≡ false
and_false true = refl
and_false false = refl

module _ (c : ℕ) (H : Seen → List Read → Type 0) (b end : ℕ) where
  abbrev reads_by : ℕ → List ExtOp → List Step → List Read
  reads_by n ops steps = joined (pairs_from (λ (k : ℕ) (op : ExtOp) (s : Step). planned_reads_by (planned_issue b end k op s) op s) n ops
      steps)

  -- what issues an instruction hands nothing over
  instr_none : (i : Issue) (s : Step) (xs : List Operand) (active : Bool) → is_none i.instr ≡ false
      → All (λ (q : Read). is_live_out b q ≡ false) (if active then places_from (planned_read i s) 0 xs else [])
  instr_none i s xs true h = all_places (λ (q : Read). is_live_out b q ≡ false) (planned_read i s) 0 xs
      (λ k x. ap (λ (t : Bool). (i.block.0 == b) && t) h ∙ and_false (i.block.0 == b))
  instr_none i s xs false h = All-nil (λ (q : Read). is_live_out b q ≡ false)

  by_instr : (i : Issue) (s : Step) (xs : List Operand) (instr : Option Op) → i.instr ≡ instr
      → All (λ (q : Read). is_live_out b q ≡ false) (if is_some instr then places_from (planned_read i s) 0 xs else [])
  by_instr i s xs None is = All-nil (λ (q : Read). is_live_out b q ≡ false)
  by_instr i s xs (Some o) is = instr_none i s xs true (ap (λ (x : Option Op). is_none x) is)

  inside_none : (n : ℕ) (op : ExtOp) (s : Step) (kind : ExtKind) → op.kind ≡ kind → IsInside op
      → All (λ (q : Read). is_live_out b q ≡ false) (planned_reads_by (planned_issue b end n op s) op s)
  inside_none n op s In is inside =
      let i = planned_issue b end n op s in
      subst (λ (xs : List Operand). All (λ (q : Read). is_live_out b q ≡ false) (if i.active then places_from
      (planned_read i s) 0 xs else [])) (sym (inside.start is)) (empty i.active)
    where
      empty : (t : Bool) → All (λ (q : Read). is_live_out b q ≡ false) (if t then [] else [])
      empty true = All-nil (λ (q : Read). is_live_out b q ≡ false)
      empty false = All-nil (λ (q : Read). is_live_out b q ≡ false)
  inside_none n op s Out is inside = absurd (inside.not_out is)
  inside_none n op s (Body o) is inside =
      let i = planned_issue b end n op s in
      subst (λ (t : Bool). All (λ (q : Read). is_live_out b q ≡ false) (if t then places_from (planned_read i s) 0 op.operands else []))
      (ap (λ (k : ExtKind). is_delimiter k || is_some (instruction_of k s.instr)) (sym is))
      (by_instr i s op.operands (instruction_of (Body o) s.instr) (ap (λ (k : ExtKind). instruction_of k s.instr) is))
  inside_none n op s (End term) is inside =
      let i = planned_issue b end n op s in
      subst (λ (t : Bool). All (λ (q : Read). is_live_out b q ≡ false) (if t then places_from (planned_read i s) 0 op.operands else []))
      (ap (λ (k : ExtKind). is_delimiter k || is_some (instruction_of k s.instr)) (sym is))
      (by_instr i s op.operands (instruction_of (End term) s.instr) (ap (λ (k : ExtKind). instruction_of k s.instr) is))
  inside_none n op s (Copy node) is inside =
      let i = planned_issue b end n op s in
      subst (λ (t : Bool). All (λ (q : Read). is_live_out b q ≡ false) (if t then places_from (planned_read i s) 0 op.operands else []))
      (ap (λ (k : ExtKind). is_delimiter k || is_some (instruction_of k s.instr)) (sym is))
      (by_instr i s op.operands (instruction_of (Copy node) s.instr) (ap (λ (k : ExtKind). instruction_of k s.instr) is))
  inside_none n op s Enter is inside =
      let i = planned_issue b end n op s in
      subst (λ (t : Bool). All (λ (q : Read). is_live_out b q ≡ false) (if t then places_from (planned_read i s) 0 op.operands else []))
      (ap (λ (k : ExtKind). is_delimiter k || is_some (instruction_of k s.instr)) (sym is))
      (by_instr i s op.operands (instruction_of Enter s.instr) (ap (λ (k : ExtKind). instruction_of k s.instr) is))
  inside_none n op s Leave is inside =
      let i = planned_issue b end n op s in
      subst (λ (t : Bool). All (λ (q : Read). is_live_out b q ≡ false) (if t then places_from (planned_read i s) 0 op.operands else []))
      (ap (λ (k : ExtKind). is_delimiter k || is_some (instruction_of k s.instr)) (sym is))
      (by_instr i s op.operands (instruction_of Leave s.instr) (ap (λ (k : ExtKind). instruction_of k s.instr) is))

  -- what the end reads is handed over
  out_whole : (n : ℕ) (op : ExtOp) (s : Step) → op.kind ≡ Out → All (λ (q : Read). is_live_out b q ≡ true)
      (planned_reads_by (planned_issue b end n op s) op s)
  out_whole n op s is = by (planned_issue b end n op s).active
    where
      same : (x : ℕ) → (x == x) ≡ true
      same x = grind (arith, nat_tests)

      by : (t : Bool) → All (λ (q : Read). is_live_out b q ≡ true) (if t then places_from
          (planned_read (planned_issue b end n op s) s) 0 op.operands else [])
      by true = all_places (λ (q : Read). is_live_out b q ≡ true) (planned_read (planned_issue b end n op s) s) 0 op.operands
          (λ k x. ap (λ (t : Bool). t && is_none (instruction_of op.kind s.instr)) (same b)
          ∙ ap (λ (k : ExtKind). is_none (instruction_of k s.instr)) is)
      by false = All-nil (λ (q : Read). is_live_out b q ≡ true)

  -- what holds of the reads of a block's end when they are made
  pub record HandedAt (n : ℕ) (seen : Seen) (ops : List ExtOp) (steps : List Step) : Type 0 where
    pub mid : Seen
    pub holds : H mid (filter (is_live_out b) (reads_by n ops steps))
    pub later : (k : ℕ) (m : LiveRange) → slice_get mid.made k ≡ Some m → slice_get (seen_after c H b end n seen ops steps).made k ≡ Some m

  made_later : (n : ℕ) (seen : Seen) (ops : List ExtOp) (steps : List Step) (k : ℕ) (m : LiveRange) → slice_get seen.made k ≡ Some m
      → slice_get (seen_after c H b end n seen ops steps).made k ≡ Some m
  made_later n seen [] steps k m h = h
  made_later n seen (op ∷ ops) [] k m h = h
  made_later n seen (op ∷ ops) (s ∷ steps) k m h =
      let seen' = with_step c H b end seen n op s in
      made_later (n + 1) seen' ops steps k m (get_left seen.made _ k m h)

  nil_behind : (xs : List Read) → xs ++ [] ≡ xs
  nil_behind [] = refl
  nil_behind (x ∷ xs) = ap (λ (ys : List Read). x ∷ ys) (nil_behind xs)

  pub handed_at : (n : ℕ) (seen : Seen) (ops : List ExtOp) (steps : List Step) → EndsOut ops → AreGoodSteps c H b end n seen ops steps
      → HandedAt n seen ops steps
  handed_at n seen [] steps h good = elim h [ ]
  handed_at n seen (op ∷ ops) [] h good = absurd good
  handed_at n seen (op ∷ []) (s ∷ steps) (ends is) good =
      let rs = planned_reads_by (planned_issue b end n op s) op s in
      record {
        mid = seen;
        holds = subst (H seen) (sym (ap (filter (is_live_out b)) (nil_behind rs) ∙ filter_whole (is_live_out b) rs (out_whole n op s is)))
            (wanted op.kind is good.0.1);
        later = λ k m got. made_later n seen (op ∷ []) (s ∷ steps) k m got;
      }
    where
      wanted : (kind : ExtKind) → kind ≡ Out → Wanted c H b end kind seen (planned_reads_by (planned_issue b end n op s) op s)
          → H seen (planned_reads_by (planned_issue b end n op s) op s)
      wanted kind is w = subst (λ (k : ExtKind). Wanted c H b end k seen (planned_reads_by (planned_issue b end n op s) op s)) is w
  handed_at n seen (op ∷ ops) (s ∷ steps) (goes_on inside h) good =
      let rs = planned_reads_by (planned_issue b end n op s) op s in
      let rest = handed_at (n + 1) (with_step c H b end seen n op s) ops steps h good.1 in
      let none = filter_none (is_live_out b) rs (inside_none n op s op.kind refl inside) in
      record {
        mid = rest.mid;
        holds = subst (H rest.mid) (sym (filter_parts (is_live_out b) rs (reads_by (n + 1) ops steps)
            ∙ ap (λ (xs : List Read). xs ++ filter (is_live_out b) (reads_by (n + 1) ops steps)) none)) rest.holds;
        later = rest.later;
      }
