-- Every block of an extended function is laid out in order.
use Rattle.std.proofs.Common.{◌≡◌, ◌≢◌, ℕ, Bool, true, false, List, [], ◌∷◌, ◌++◌, Option, None, refl, sym, ap, subst, ◌∙◌, append_assoc}
use Rattle.std.specs.Prelude.{slice_get}
use Rattle.un_base.specs.declared.ids.NameId.{NameId}
use Rattle.un_isa.specs.declared.op.Op.TheVariants.{Enter as EnterOp}
use Rattle.un_isa.specs.declared.table.Table.{Table}
use Rattle.un_ir.specs.declared.function.Kind.{Kind}
use Rattle.un_ir.specs.declared.function.SrcOp.{SrcOp}
use Rattle.un_ir.specs.declared.function.Term.{Term}
use Rattle.un_ir.specs.declared.function.Term.TheVariants.{Fall, Jump, Branch, Ret}
use Rattle.un_ir.specs.declared.extended.ExtKind.{ExtKind}
use Rattle.un_ir.specs.declared.extended.ExtKind.TheVariants.{In, Out, Body, End, Copy, Enter, Leave}
use Rattle.un_ir.specs.declared.extended.Operand.{Operand}
use Rattle.un_ir.specs.declared.extended.ExtOp.{ExtOp}
use Rattle.un_ir.specs.declared.extended.ExtBlock.{ExtBlock}
use Rattle.un_ir.specs.declared.extended.Growth.{Growth}
use Rattle.un_ir.specs.declared.extended.Value.{Value}
use Rattle.un_ir.specs.Linear.{first_of}
use Rattle.un_ir.specs.LinearOf.{reads, name_operand, body_ops, in_op, end_ops, out_op}
use Rattle.un_ir.specs.ExtendOf.{frame_op, with_op, with_operand, with_operands, new_operands, with_results, with_extended}
use Rattle.un_ir.specs.ExtendOf.{with_all_extended, new_temps}
use Rattle.un_model.specs.Congruences.{term_or, term_of}
use Rattle.un_baseline.specs.declared.plan.Purpose.TheVariants.{Unread}
use Rattle.un_baseline.specs.SpillEverywhere.{purpose_of_out, block_end}
use Rattle.un_baseline.proofs.SpillSteps.{EachOp}
use Rattle.un_baseline.proofs.Fronts.{IsCalm, IsEnter, IsFrontKind, EntersOnce, AreFront}
use Rattle.un_baseline.proofs.Layouts.{GoesOn, IsLaidOut, onward, back, each_weaker}
use Rattle.un_baseline.proofs.Tails.{AreForLink}
use Rattle.un_baseline.proofs.Shapes.{Adds, AddsSome, IsReadingOp, IsEarly, IsOnward, EarlyOp, OnwardOp, EachSource, each_append, some_then}
use Rattle.un_baseline.proofs.Shapes.{adds_then, middle, middle_adds, early_middle, onward_middle, bodies_add, operand_adds, early_onward}
use Rattle.un_baseline.proofs.Shapes.{early_reading_by, operands_add, link_reads}

-- ---- fronts

early_front_kind : (entry : Bool) (kind : ExtKind) → IsEarly kind → IsFrontKind entry kind
early_front_kind entry In h = tt
early_front_kind entry Out h = absurd h
early_front_kind entry (Body o) h = h
early_front_kind entry (End term) h = absurd h
early_front_kind entry (Copy node) h = tt
early_front_kind entry Enter h = absurd h
early_front_kind entry Leave h = absurd h

early_once : (kind : ExtKind) (ops : List ExtOp) → IsEarly kind → EntersOnce kind ops
early_once In ops h = tt
early_once Out ops h = tt
early_once (Body o) ops h = tt
early_once (End term) ops h = tt
early_once (Copy node) ops h = tt
early_once Enter ops h = absurd h
early_once Leave ops h = tt

early_front : (entry : Bool) (xs ys : List ExtOp) → EachOp EarlyOp xs → AreFront entry ys → AreFront entry (xs ++ ys)
early_front entry [] ys h front = front
early_front entry (x ∷ xs) ys h front = (
  early_front_kind entry x.kind h.0,
  (
    early_once x.kind
        (xs ++ ys) h.0,
    early_front entry xs ys h.1 front,
  ),
)

early_no_enter : (kind : ExtKind) → IsEarly kind → IsEnter kind → ⊥
early_no_enter In h is = is
early_no_enter Out h is = is
early_no_enter (Body o) h is = is
early_no_enter (End term) h is = is
early_no_enter (Copy node) h is = is
early_no_enter Enter h is = h
early_no_enter Leave h is = is

early_no_out : (kind : ExtKind) → IsEarly kind → kind ≢ Out
early_no_out In h is = cc is
early_no_out Out h is = absurd h
early_no_out (Body o) h is = cc is
early_no_out (End term) h is = absurd h
early_no_out (Copy node) h is = cc is
early_no_out Enter h is = absurd h
early_no_out Leave h is = absurd h

early_term : (kind : ExtKind) (later : Term) → IsEarly kind → term_or kind later ≡ later
early_term In later h = refl
early_term Out later h = absurd h
early_term (Body o) later h = refl
early_term (End term) later h = absurd h
early_term (Copy node) later h = refl
early_term Enter later h = absurd h
early_term Leave later h = absurd h

early_skip : (xs more : List ExtOp) → EachOp EarlyOp xs → term_of (xs ++ more) ≡ term_of more
early_skip [] more h = refl
early_skip (x ∷ xs) more h = early_term x.kind (term_of (xs ++ more)) h.0 ∙ early_skip xs more h.1

-- what stands before a block's end
pub record IsFore (entry : Bool) (front : List ExtOp) : Type 0 where
  pub are : AreFront entry front
  pub no_out : EachOp (λ (o : ExtOp). o.kind ≢ Out) front
  pub skip : (more : List ExtOp) → term_of (front ++ more) ≡ term_of more

fore_early : (entry : Bool) (xs : List ExtOp) → EachOp EarlyOp xs → IsFore entry xs
fore_early entry xs h = record {
  are = subst (AreFront entry) (append-nil xs) (early_front entry xs [] h tt);
  no_out = each_weaker EarlyOp (λ (o : ExtOp). o.kind ≢ Out) (λ o e. early_no_out o.kind e) xs h;
  skip = λ more. early_skip xs more h;
}
  where
    append-nil : (ys : List ExtOp) → ys ++ [] ≡ ys
    append-nil [] = refl
    append-nil (y ∷ ys) = ap (λ (zs : List ExtOp). y ∷ zs) (append-nil ys)

fore_enter : (xs ys : List ExtOp) → EachOp EarlyOp xs → EachOp EarlyOp ys → IsFore true (xs ++ frame_op Enter ∷ ys)
fore_enter xs ys h k = record {
  are = early_front true xs (frame_op Enter ∷ ys) h (
    refl,
    (
      each_weaker EarlyOp (λ (o : ExtOp). IsEnter o.kind
          → ⊥) (λ o e. early_no_enter o.kind e) ys k,
      (fore_early true ys k).are,
    ),
  );
  no_out = each_append (λ (o : ExtOp). o.kind ≢ Out) xs (frame_op Enter ∷ ys) (each_weaker EarlyOp (λ (o : ExtOp). o.kind ≢ Out)
      (λ o e. early_no_out o.kind e) xs h)
      ((λ e. cc e), each_weaker EarlyOp (λ (o : ExtOp). o.kind ≢ Out) (λ o e. early_no_out o.kind e) ys k);
  skip = λ more. ap term_of (append_assoc xs (frame_op Enter ∷ ys) more) ∙ early_skip xs (frame_op Enter ∷ (ys ++ more)) h
      ∙ early_skip ys more k;
}

-- ---- fronts that go on

onward_no_enter : (kind : ExtKind) → IsOnward kind → IsEnter kind → ⊥
onward_no_enter In h is = is
onward_no_enter Out h is = is
onward_no_enter (Body o) h is = is
onward_no_enter (End term) h is = is
onward_no_enter (Copy node) h is = is
onward_no_enter Enter h is = cc h
onward_no_enter Leave h is = is

onward_front_kind : (entry : Bool) (kind : ExtKind) → IsOnward kind → IsFrontKind entry kind
onward_front_kind entry In h = tt
onward_front_kind entry Out h = tt
onward_front_kind entry (Body o) h = h
onward_front_kind entry (End Fall) h = absurd h
onward_front_kind entry (End (Jump to)) h = tt
onward_front_kind entry (End (Branch pred sense to)) h = tt
onward_front_kind entry (End (Ret value)) h = absurd h
onward_front_kind entry (Copy node) h = tt
onward_front_kind entry Enter h = absurd (cc h)
onward_front_kind entry Leave h = absurd h

onward_once : (kind : ExtKind) (ops : List ExtOp) → IsOnward kind → EntersOnce kind ops
onward_once In ops h = tt
onward_once Out ops h = tt
onward_once (Body o) ops h = tt
onward_once (End term) ops h = tt
onward_once (Copy node) ops h = tt
onward_once Enter ops h = absurd (cc h)
onward_once Leave ops h = tt

once_more : (kind : ExtKind) (xs ys : List ExtOp) → EntersOnce kind xs → EachOp OnwardOp ys → EntersOnce kind (xs ++ ys)
once_more In xs ys h k = tt
once_more Out xs ys h k = tt
once_more (Body o) xs ys h k = tt
once_more (End term) xs ys h k = tt
once_more (Copy node) xs ys h k = tt
once_more Enter xs ys h k = each_append (λ (o : ExtOp). IsEnter o.kind
    → ⊥) xs ys h (each_weaker OnwardOp (λ (o : ExtOp). IsEnter o.kind → ⊥) (λ o e. onward_no_enter o.kind e) ys k)
once_more Leave xs ys h k = tt

front_onward : (entry : Bool) (xs ys : List ExtOp) → AreFront entry xs → EachOp OnwardOp ys → AreFront entry (xs ++ ys)
front_onward entry [] [] front h = tt
front_onward entry [] (y ∷ ys) front h = (onward_front_kind entry y.kind h.0, (onward_once y.kind ys h.0, front_onward entry [] ys tt h.1))
front_onward entry (x ∷ xs) ys front h = (front.0, (once_more x.kind xs ys front.1.0 h, front_onward entry xs ys front.1.1 h))

-- a terminator that does not return
abbrev pub GoesBy : Term → Type 0
GoesBy (Ret value) = ⊥
GoesBy _ = Unit {0}

goes_or : (entry : Bool) (kind : ExtKind) (later : Term) → IsFrontKind entry kind → GoesBy later → GoesBy (term_or kind later)
goes_or entry In later h k = k
goes_or entry Out later h k = k
goes_or entry (Body o) later h k = k
goes_or entry (End Fall) later h k = absurd h
goes_or entry (End (Jump to)) later h k = tt
goes_or entry (End (Branch pred sense to)) later h k = tt
goes_or entry (End (Ret value)) later h k = absurd h
goes_or entry (Copy node) later h k = k
goes_or entry Enter later h k = k
goes_or entry Leave later h k = absurd h

pub goes_by : (entry : Bool) (ops : List ExtOp) → AreFront entry ops → GoesBy (term_of ops)
goes_by entry [] h = tt
goes_by entry (op ∷ ops) h = goes_or entry op.kind (term_of ops) h.0 (goes_by entry ops h.1.1)

calm_by : (term : Term) → GoesBy term → IsCalm (purpose_of_out term)
calm_by Fall h = tt
calm_by (Jump to) h = tt
calm_by (Branch pred sense to) h = tt
calm_by (Ret value) h = absurd h

pub unread_out : (term : Term) → GoesBy term → purpose_of_out term ≡ Unread
unread_out Fall h = refl
unread_out (Jump to) h = refl
unread_out (Branch pred sense to) h = refl
unread_out (Ret value) h = absurd h

ends_by : (term : Term) → GoesBy term → (now : ℕ) (t : Table) → block_end t term now ≡ now
ends_by Fall h now t = refl
ends_by (Jump to) h now t = refl
ends_by (Branch pred sense to) h now t = refl
ends_by (Ret value) h now t = absurd h

goes_on : (entry : Bool) (block : ExtBlock) → AreFront entry block.ops → GoesOn entry block
goes_on entry block front = record {
  front = front;
  calm = calm_by (term_of block.ops) (goes_by entry block.ops front);
  ends = ends_by (term_of block.ops) (goes_by entry block.ops front);
}

-- ---- a block from its start to its last operation of the source

module _ (names : List Kind) (live_in : List NameId) (saved : Bool) where
  pub record Begins (entry : Bool) (g : Growth) : Type 0 where
    pub front : List ExtOp
    pub ops : g.ops ≡ front
    pub fore : IsFore entry front

  abbrev pub begun : Bool → Table → List ℕ → ℕ → ℕ → ℕ → List SrcOp → List Value → ℕ → Growth
  begun entry t current n count first os values next =
      with_all_extended names live_in entry saved (body_ops t current first os) (with_extended names live_in entry saved
      (in_op n count) (record { ops = []; values = values; next = next }))

  pub begins : (entry : Bool) (t : Table) (current : List ℕ) (n count first : ℕ) (os : List SrcOp) (values : List Value) (next : ℕ)
      → EachSource (λ (o : SrcOp). o.op ≢ EnterOp) os
      → Begins entry (begun entry t current n count first os values next)
  begins true t current n count first os values next h =
      let g0 : Growth = record { ops = []; values = values; next = next } in
      let start = middle names live_in saved (in_op n count) g0 in
      let m = early_middle g0 start In tt (middle_adds names live_in saved (in_op n count) g0) in
      let opened = with_op start (frame_op Enter) in
      let b = bodies_add names live_in true saved t current first os opened h in
      record {
        front = m.more ++ frame_op Enter ∷ b.more;
        ops = b.adds.ops ∙ ap (λ (xs : List ExtOp). (xs ++ frame_op Enter ∷ []) ++ b.more) m.adds.ops
            ∙ append_assoc m.more (frame_op Enter ∷ []) b.more;
        fore = fore_enter m.more b.more m.each b.each;
      }
  begins false t current n count first os values next h =
      let g0 : Growth = record { ops = []; values = values; next = next } in
      let start = middle names live_in saved (in_op n count) g0 in
      let m = early_middle g0 start In tt (middle_adds names live_in saved (in_op n count) g0) in
      let b = bodies_add names live_in false saved t current first os start h in
      record {
        front = m.more ++ b.more;
        ops = b.adds.ops ∙ ap (λ (xs : List ExtOp). xs ++ b.more) m.adds.ops;
        fore = fore_early false (m.more ++ b.more) (each_append EarlyOp m.more b.more m.each b.each);
      }

  -- ---- the end of a block

  pub record AddsOut (g g' : Growth) : Type 0 where
    pub late : List ExtOp
    pub out : ExtOp
    pub adds : Adds g g' (late ++ out ∷ [])
    pub reading : EachOp IsReadingOp late
    pub is : out.kind ≡ Out

  out_adds : (entry : Bool) (t : Table) (current : List ℕ) (first : ℕ) (live_out : List NameId) (term : Term) (g : Growth)
      → AddsOut g (with_extended names live_in entry saved (out_op t current first live_out term) g)
  out_adds entry t current first live_out term g = by entry
    where
      by : (entry' : Bool) → AddsOut g (with_extended names live_in entry' saved (out_op t current first live_out term) g)
      by true =
          let op = out_op t current first live_out term in
          let read = with_operands op.operands g in
          let us = operands_add op.operands g in
          record {
            late = us.more;
            out = record { kind = Out; operands = new_operands op.operands g; results = new_temps read 0 };
            adds = adds_then g read (with_results Out (new_operands op.operands g) 0 read) us.more
                (record { kind = Out; operands = new_operands op.operands g; results = new_temps read 0 } ∷ []) us.adds
                (record { ops = refl });
            reading = us.each;
            is = refl;
          }
      by false =
          let op = out_op t current first live_out term in
          let read = with_operands op.operands g in
          let us = operands_add op.operands g in
          record {
            late = us.more;
            out = record { kind = Out; operands = new_operands op.operands g; results = new_temps read 0 };
            adds = adds_then g read (with_results Out (new_operands op.operands g) 0 read) us.more
                (record { kind = Out; operands = new_operands op.operands g; results = new_temps read 0 } ∷ []) us.adds
                (record { ops = refl });
            reading = us.each;
            is = refl;
          }

  out_onward : (g g' : Growth) → AddsOut g g' → AddsSome g g' OnwardOp
  out_onward g g' h = record {
    more = h.late ++ h.out ∷ [];
    adds = h.adds;
    each = each_append OnwardOp h.late (h.out ∷ []) (each_weaker IsReadingOp OnwardOp (λ op r. early_onward op.kind
        (early_reading_by op.kind r)) h.late h.reading) (subst IsOnward (sym h.is) tt, tt);
  }

  abbrev end_of : Term → List Operand → ExtOp
  end_of term operands = record { kind = End term; operands = operands; results = [] }

  -- a jump
  jump_adds : (entry : Bool) (term : Term) (operands : List Operand) (g : Growth) → GoesBy term → IsOnward (End term)
      → AddsSome g (with_extended names live_in entry saved (end_of term operands) g) OnwardOp
  jump_adds entry Fall operands g goes on = absurd on
  jump_adds true (Jump to) operands g goes on = onward_middle g (middle names live_in saved (end_of (Jump to) operands) g) (End
      (Jump to)) on (middle_adds names live_in saved (end_of (Jump to) operands) g)
  jump_adds false (Jump to) operands g goes on = onward_middle g (middle names live_in saved (end_of (Jump to) operands) g) (End
      (Jump to)) on (middle_adds names live_in saved (end_of (Jump to) operands) g)
  jump_adds true (Branch pred sense to) operands g goes on =
      onward_middle g (middle names live_in saved (end_of (Branch pred sense to) operands) g) (End (Branch pred sense to)) on
      (middle_adds names live_in saved (end_of (Branch pred sense to) operands) g)
  jump_adds false (Branch pred sense to) operands g goes on =
      onward_middle g (middle names live_in saved (end_of (Branch pred sense to) operands) g) (End (Branch pred sense to)) on
      (middle_adds names live_in saved (end_of (Branch pred sense to) operands) g)
  jump_adds entry (Ret value) operands g goes on = absurd goes

  -- a return
  pub record AddsReturn (value : Option NameId) (g g' : Growth) : Type 0 where
    pub us : List ExtOp
    pub op : ExtOp
    pub adds : Adds g g' (frame_op Leave ∷ (us ++ op ∷ []))
    pub link : AreForLink us
    pub is : op.kind ≡ End (Ret value)

  return_adds : (entry : Bool) (value : Option NameId) (x : Operand) (g : Growth)
      → AddsReturn value g (with_extended names live_in entry saved (end_of (Ret value) (x ∷ [])) g)
  return_adds entry value x g = by entry
    where
      by : (entry' : Bool) → AddsReturn value g (with_extended names live_in entry' saved (end_of (Ret value) (x ∷ [])) g)
      by true =
          let before = with_op g (frame_op Leave) in
          let read = with_operand x before in
          let us = operand_adds (first_of x.alts) (slice_get before.values (first_of x.alts)) before in
          let made : ExtOp = record { kind = End (Ret value); operands = new_operands (x ∷ []) before; results = new_temps read 0 } in
          record {
            us = us.0;
            op = made;
            adds = record {
              ops = ap (λ (xs : List ExtOp). xs ++ made ∷ []) us.1.ops
                  ∙ append_assoc (g.ops ++ frame_op Leave ∷ []) us.0 (made ∷ [])
                  ∙ append_assoc g.ops (frame_op Leave ∷ []) (us.0 ++ made ∷ []);
            };
            link = us.2;
            is = refl;
          }
      by false =
          let before = with_op g (frame_op Leave) in
          let read = with_operand x before in
          let us = operand_adds (first_of x.alts) (slice_get before.values (first_of x.alts)) before in
          let made : ExtOp = record { kind = End (Ret value); operands = new_operands (x ∷ []) before; results = new_temps read 0 } in
          record {
            us = us.0;
            op = made;
            adds = record {
              ops = ap (λ (xs : List ExtOp). xs ++ made ∷ []) us.1.ops
                  ∙ append_assoc (g.ops ++ frame_op Leave ∷ []) us.0 (made ∷ [])
                  ∙ append_assoc g.ops (frame_op Leave ∷ []) (us.0 ++ made ∷ []);
            };
            link = us.2;
            is = refl;
          }

  -- ---- whole blocks

  laid_onward : (entry : Bool) (block : ExtBlock) (g g' : Growth) → block.ops ≡ g'.ops → Begins entry g → AddsSome g g' OnwardOp
      → IsLaidOut entry block
  laid_onward entry block g g' same h k =
      let whole : block.ops ≡ h.front ++ k.more = same ∙ k.adds.ops ∙ ap (λ (xs : List ExtOp). xs ++ k.more) h.ops in
      onward (goes_on entry block (subst (AreFront entry) (sym whole) (front_onward entry h.front k.more h.fore.are k.each)))

  link_early : (us : List ExtOp) → EachOp IsReadingOp us → EachOp EarlyOp us
  link_early us h = each_weaker IsReadingOp EarlyOp (λ op r. early_reading_by op.kind r) us h

  laid_back : (entry : Bool) (value : Option NameId) (block : ExtBlock) (g g' g'' : Growth) → block.ops ≡ g''.ops → Begins entry g
      → AddsReturn value g g' → AddsOut g' g'' → IsLaidOut entry block
  laid_back entry value block g g' g'' same h r o =
      let tail = o.late ++ o.out ∷ [] in
      let whole : block.ops ≡ h.front ++ (frame_op Leave ∷ (r.us ++ (r.op ∷ tail))) =
      same ∙ o.adds.ops ∙ ap (λ (xs : List ExtOp). xs ++ tail) (r.adds.ops
      ∙ ap (λ (xs : List ExtOp). xs ++ (frame_op Leave ∷ (r.us ++ r.op ∷ []))) h.ops)
      ∙ append_assoc h.front (frame_op Leave ∷ (r.us ++ r.op ∷ [])) tail
      ∙ ap (λ (xs : List ExtOp). h.front ++ (frame_op Leave ∷ xs)) (append_assoc r.us (r.op ∷ []) tail) in
      let term : term_of block.ops ≡ Ret value =
      ap term_of whole ∙ h.fore.skip (frame_op Leave ∷ (r.us ++ (r.op ∷ tail)))
      ∙ early_skip r.us (r.op ∷ tail) (link_early r.us (link_reads r.us r.link))
      ∙ ap (λ (k : ExtKind). term_or k (term_of tail)) r.is in
      back (record {
        value = value;
        front = h.front;
        leave = frame_op Leave;
        us = r.us;
        op = r.op;
        late = o.late;
        out = o.out;
        whole = whole;
        term = term;
        is_front = h.fore.are;
        no_out = h.fore.no_out;
        is_leave = refl;
        for_link = r.link;
        is_return = r.is;
        is_late = o.reading;
        is_out = o.is;
      })

  pub ended : (entry : Bool) (t : Table) (current : List ℕ) (link first : ℕ) (live_out : List NameId) (term : Term) (block : ExtBlock)
      (g : Growth)
      → block.ops ≡ (with_all_extended names live_in entry saved
      (end_ops current link term ++ out_op t current first live_out term ∷ []) g).ops → Begins entry g → IsLaidOut entry block
  ended entry t current link first live_out Fall block g same h =
      let g' = with_extended names live_in entry saved (out_op t current first live_out Fall) g in
      laid_onward entry block g g' same h (out_onward g g' (out_adds entry t current first live_out Fall g))
  ended entry t current link first live_out (Jump to) block g same h =
      let g' = with_extended names live_in entry saved (end_of (Jump to) []) g in
      let g'' = with_extended names live_in entry saved (out_op t current first live_out (Jump to)) g' in
      laid_onward entry block g g'' same h (some_then OnwardOp g g' g'' (jump_adds entry (Jump to) [] g tt tt) (out_onward g' g''
      (out_adds entry t current first live_out (Jump to) g')))
  ended entry t current link first live_out (Branch pred sense to) block g same h =
      let operands = name_operand current None pred ∷ [] in
      let g' = with_extended names live_in entry saved (end_of (Branch pred sense to) operands) g in
      let g'' = with_extended names live_in entry saved (out_op t current first live_out (Branch pred sense to)) g' in
      laid_onward entry block g g'' same h (some_then OnwardOp g g' g'' (jump_adds entry (Branch pred sense to) operands g tt tt)
      (out_onward g' g'' (out_adds entry t current first live_out (Branch pred sense to) g')))
  ended entry t current link first live_out (Ret value) block g same h =
      let x = reads link None in
      let g' = with_extended names live_in entry saved (end_of (Ret value) (x ∷ [])) g in
      let g'' = with_extended names live_in entry saved (out_op t current first live_out (Ret value)) g' in
      laid_back entry value block g g' g'' same h (return_adds entry value x g) (out_adds entry t current first live_out (Ret value) g')
