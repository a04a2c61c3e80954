-- The blocks of an extended function are laid out in order.
use Rattle.std.proofs.Common.{◌≡◌, ◌≢◌, ℕ, ◌+◌, Bool, true, false, List, [], ◌∷◌, ◌++◌, length, Option, Some, None, refl, sym, ap, subst}
use Rattle.std.proofs.Common.{◌∙◌, append_assoc}
use Rattle.std.specs.Prelude.{slice_get}
use Rattle.un_base.specs.declared.ids.NameId.{NameId}
use Rattle.un_base.specs.declared.ids.TempId.{TempId}
use Rattle.un_isa.specs.declared.op.Op.TheVariants.{Enter as EnterOp}
use Rattle.un_isa.specs.declared.table.Table.{Table}
use Rattle.un_ir.specs.LinearOf.{assigned, past, body_op, body_ops}
use Rattle.un_baseline.proofs.Layouts.{each_weaker}
use Rattle.un_ir.specs.declared.function.Kind.{Kind}
use Rattle.un_ir.specs.declared.function.Kind.TheVariants.{General, Pred}
use Rattle.un_ir.specs.declared.function.SrcOp.{SrcOp}
use Rattle.un_ir.specs.declared.extended.NodeCopy.{NodeCopy}
use Rattle.un_ir.specs.declared.extended.NodeCopy.TheVariants.{D, D2, U, U2}
use Rattle.un_ir.specs.declared.extended.ExtKind.{ExtKind}
use Rattle.un_ir.specs.declared.extended.ExtKind.TheVariants.{In, Out, Body, End, Copy, Enter, Leave}
use Rattle.un_ir.specs.declared.extended.Operand.{Operand}
use Rattle.un_ir.specs.declared.extended.ExtOp.{ExtOp}
use Rattle.un_ir.specs.Linear.{first_of}
use Rattle.un_ir.specs.ExtendOf.{copy_op, with_copies, with_value, with_values, with_operand_by, with_operand, with_operands, new_operands}
use Rattle.un_ir.specs.ExtendOf.{sorts_of, with_results, with_extended, with_all_extended, new_temps}
use Rattle.un_ir.specs.declared.extended.Growth.{Growth}
use Rattle.un_ir.specs.declared.extended.Value.{Value}
use Rattle.un_ir.specs.declared.extended.Sort.{Sort}
use Rattle.un_baseline.proofs.SpillSteps.{EachOp}
use Rattle.un_baseline.proofs.Fronts.{IsFrontKind}
use Rattle.un_baseline.proofs.Tails.{IsReading, first_one, second_one, AreForLink, without, one_copy, two_copies}

-- ---- what functions add

-- the operations that are added to a growth
pub record Adds (g g' : Growth) (more : List ExtOp) : Type 0 where
  pub ops : g'.ops ≡ g.ops ++ more

pub adds_nothing : (g : Growth) → Adds g g []
adds_nothing g = record { ops = sym (append-nil g.ops) }
  where
    append-nil : (xs : List ExtOp) → xs ++ [] ≡ xs
    append-nil [] = refl
    append-nil (x ∷ xs) = ap (λ (ys : List ExtOp). x ∷ ys) (append-nil xs)

pub adds_then : (g g' g'' : Growth) (xs ys : List ExtOp) → Adds g g' xs → Adds g' g'' ys → Adds g g'' (xs ++ ys)
adds_then g g' g'' xs ys h k = record { ops = k.ops ∙ ap (λ (os : List ExtOp). os ++ ys) h.ops ∙ append_assoc g.ops xs ys }

-- some operations, all of which pass
pub record AddsSome (g g' : Growth) (Q : ExtOp → Type 0) : Type 0 where
  pub more : List ExtOp
  pub adds : Adds g g' more
  pub each : EachOp Q more

pub each_append : (Q : ExtOp → Type 0) (xs ys : List ExtOp) → EachOp Q xs → EachOp Q ys → EachOp Q (xs ++ ys)
each_append Q [] ys h k = k
each_append Q (x ∷ xs) ys h k = (h.0, each_append Q xs ys h.1 k)

pub some_none : (Q : ExtOp → Type 0) (g : Growth) → AddsSome g g Q
some_none Q g = record { more = []; adds = adds_nothing g; each = tt }

pub some_then : (Q : ExtOp → Type 0) (g g' g'' : Growth) → AddsSome g g' Q → AddsSome g' g'' Q → AddsSome g g'' Q
some_then Q g g' g'' h k = record {
  more = h.more ++ k.more;
  adds = adds_then g g' g'' h.more k.more h.adds k.adds;
  each = each_append Q
      h.more k.more h.each k.each;
}

-- ---- copies

abbrev pub IsValueCopy : ExtOp → Type 0
IsValueCopy op = (node : NodeCopy) × (op.kind ≡ Copy node)

abbrev pub IsReadingOp : ExtOp → Type 0
IsReadingOp op = IsReading op.kind

value_copies : (kind : Kind) (copied : Bool) (alts : List TempId) (g : Growth)
    → AddsSome g (with_copies D D2 kind copied alts g) IsValueCopy
value_copies kind false alts g = some_none IsValueCopy g
value_copies General true alts g = record { more = copy_op D alts g.next ∷ []; adds = record { ops = refl }; each = ((D, refl), tt) }
value_copies Pred true alts g = record {
  more = copy_op D alts g.next ∷ copy_op D2 _ _ ∷ [];
  adds = record { ops = append_assoc g.ops (copy_op D alts g.next ∷ []) (copy_op D2 _ _ ∷ []) };
  each = ((D, refl), ((D2, refl), tt));
}

operand_copies : (kind : Kind) (copied : Bool) (alts : List TempId) (g : Growth)
    → (more : List ExtOp) × Adds g (with_copies U U2 kind copied alts g) more × AreForLink more
operand_copies kind false alts g = ([], adds_nothing g, without)
operand_copies General true alts g = (copy_op U alts g.next ∷ [], record { ops = refl }, one_copy refl)
operand_copies Pred true alts g = (
  copy_op U alts g.next ∷ copy_op U2 _ _ ∷ [],
  record {
    ops = append_assoc g.ops
        (copy_op U alts g.next ∷ []) (copy_op U2 _ _ ∷ []);
  },
  two_copies refl refl,
)

pub values_add : (n : ℕ) (sorts : List Sort) (g : Growth) → AddsSome g (with_values n sorts g) IsValueCopy
values_add n [] g = some_none IsValueCopy g
values_add n (sort ∷ sorts) g =
    let here = value_copies sort.kind sort.copied _ g in
    some_then IsValueCopy g (with_value n sort g) (with_values (n + 1) sorts (with_value n sort g))
    (record { more = here.more; adds = record { ops = here.adds.ops }; each = here.each })
    (values_add (n + 1) sorts (with_value n sort g))

pub operand_adds : (x : ℕ) (v : Option Value) (g : Growth) → (more : List ExtOp) × Adds g (with_operand_by x v g) more × AreForLink more
operand_adds x None g = ([], adds_nothing g, without)
operand_adds x (Some v) g = let here = operand_copies v.sort.kind v.sort.copied v.own g in (here.0, record { ops = here.1.ops }, here.2)

pub link_reads : (us : List ExtOp) → AreForLink us → EachOp IsReadingOp us
link_reads [] without = tt
link_reads (u ∷ []) (one_copy k) = (first_one k, tt)
link_reads (u ∷ v ∷ []) (two_copies k l) = (first_one k, (second_one l, tt))
link_reads (u ∷ (v ∷ (x ∷ more))) h = elim h [ ]

pub operands_add : (xs : List Operand) (g : Growth) → AddsSome g (with_operands xs g) IsReadingOp
operands_add [] g = some_none IsReadingOp g
operands_add (x ∷ xs) g =
    let here = operand_adds (first_of x.alts) (slice_get g.values (first_of x.alts)) g in
    some_then IsReadingOp g (with_operand x g) (with_operands xs (with_operand x g))
    (record { more = here.0; adds = here.1; each = link_reads here.0 here.2 })
    (operands_add xs (with_operand x g))

-- ---- kinds

-- the values at a block's start, operations of the source and copies
abbrev pub IsEarly : ExtKind → Type 0
IsEarly In = Unit {0}
IsEarly (Body o) = o.op ≢ EnterOp
IsEarly (Copy node) = Unit {0}
IsEarly _ = ⊥

-- besides, jumps and a block's end
abbrev pub IsOnward : ExtKind → Type 0
IsOnward kind = IsFrontKind false kind

early_copy : (op : ExtOp) → IsValueCopy op → IsEarly op.kind
early_copy op h = subst IsEarly (sym h.1) tt

pub early_reading_by : (kind : ExtKind) → IsReading kind → IsEarly kind
early_reading_by kind (first_one h) = subst IsEarly (sym h) tt
early_reading_by kind (second_one h) = subst IsEarly (sym h) tt

pub early_onward : (kind : ExtKind) → IsEarly kind → IsOnward kind
early_onward In h = tt
early_onward Out h = absurd h
early_onward (Body o) h = h
early_onward (End term) h = absurd h
early_onward (Copy node) h = tt
early_onward Enter h = absurd h
early_onward Leave h = absurd h

some_weaker : (Q R : ExtOp → Type 0) → ((op : ExtOp) → Q op → R op) → (g g' : Growth) → AddsSome g g' Q → AddsSome g g' R
some_weaker Q R f g g' h = record { more = h.more; adds = h.adds; each = each_weaker Q R f h.more h.each }

-- ---- one operation of the linear function

abbrev pub EarlyOp : ExtOp → Type 0
EarlyOp op = IsEarly op.kind

abbrev pub OnwardOp : ExtOp → Type 0
OnwardOp op = IsOnward op.kind

-- the copies of its operands, itself, the copies of its results
pub record AddsOp (g g' : Growth) (kind : ExtKind) : Type 0 where
  pub us : List ExtOp
  pub op : ExtOp
  pub ds : List ExtOp
  pub adds : Adds g g' (us ++ op ∷ ds)
  pub reading : EachOp IsReadingOp us
  pub is : op.kind ≡ kind
  pub copies : EachOp IsValueCopy ds

-- without Leave and Enter
abbrev pub middle : List Kind → List NameId → Bool → ExtOp → Growth → Growth
middle names live_in saved op g =
    let read = with_operands op.operands g in
    let count = length op.results in
    with_values read.next (sorts_of names live_in saved op.kind count) (with_results op.kind (new_operands op.operands g) count read)

pub middle_adds : (names : List Kind) (live_in : List NameId) (saved : Bool) (op : ExtOp) (g : Growth)
    → AddsOp g (middle names live_in saved op g) op.kind
middle_adds names live_in saved op g =
    let read = with_operands op.operands g in
    let count = length op.results in
    let made : ExtOp = record { kind = op.kind; operands = new_operands op.operands g; results = new_temps read count } in
    let here = with_results op.kind (new_operands op.operands g) count read in
    let us = operands_add op.operands g in
    let ds = values_add read.next (sorts_of names live_in saved op.kind count) here in
    let last = with_values read.next (sorts_of names live_in saved op.kind count) here in
    record {
      us = us.more;
      op = made;
      ds = ds.more;
      adds = adds_then g read last us.more (made ∷ ds.more) us.adds (record {
        ops = ds.adds.ops
            ∙ append_assoc read.ops (made ∷ []) ds.more;
      });
      reading = us.each;
      is = refl;
      copies = ds.each;
    }

pub early_middle : (g g' : Growth) (kind : ExtKind) → IsEarly kind → AddsOp g g' kind → AddsSome g g' EarlyOp
early_middle g g' kind early h = record {
  more = h.us ++ h.op ∷ h.ds;
  adds = h.adds;
  each = each_append EarlyOp h.us (h.op ∷ h.ds) (each_weaker IsReadingOp EarlyOp (λ op r. early_reading_by op.kind r) h.us h.reading)
      (subst IsEarly (sym h.is) early, each_weaker IsValueCopy EarlyOp early_copy h.ds h.copies);
}

pub onward_middle : (g g' : Growth) (kind : ExtKind) → IsOnward kind → AddsOp g g' kind → AddsSome g g' OnwardOp
onward_middle g g' kind on h = record {
  more = h.us ++ h.op ∷ h.ds;
  adds = h.adds;
  each = each_append OnwardOp h.us (h.op ∷ h.ds) (each_weaker IsReadingOp OnwardOp (λ op r. early_onward op.kind
      (early_reading_by op.kind r)) h.us h.reading)
      (subst IsOnward (sym h.is) on, each_weaker IsValueCopy OnwardOp (λ op c. early_onward op.kind (early_copy op c)) h.ds h.copies);
}

-- ---- the operations of a block

abbrev pub EachSource : (SrcOp → Type 0) → List SrcOp → Type 0
EachSource Q [] = Unit {0}
EachSource Q (o ∷ os) = Q o × EachSource Q os

pub bodies_add : (names : List Kind) (live_in : List NameId) (entry saved : Bool) (t : Table) (current : List ℕ) (n : ℕ)
    (os : List SrcOp) (g : Growth) → EachSource (λ (o : SrcOp). o.op ≢ EnterOp) os
    → AddsSome g (with_all_extended names live_in entry saved (body_ops t current n os) g) EarlyOp
bodies_add names live_in entry saved t current n [] g h = some_none EarlyOp g
bodies_add names live_in entry saved t current n (o ∷ os) g h =
    let next = with_extended names live_in entry saved (body_op t current n o) g in
    some_then EarlyOp g next (with_all_extended names live_in entry saved (body_ops t (assigned current o.dst n) (past o.dst n) os) next)
    (body_by entry)
    (bodies_add names live_in entry saved t (assigned current o.dst n) (past o.dst n) os next h.1)
  where
    body_by : (entry' : Bool) → AddsSome g (with_extended names live_in entry' saved (body_op t current n o) g) EarlyOp
    body_by true = early_middle g (middle names live_in saved (body_op t current n o) g) (Body o) h.0 (middle_adds names live_in saved
        (body_op t current n o) g)
    body_by false = early_middle g (middle names live_in saved (body_op t current n o) g) (Body o) h.0 (middle_adds names live_in saved
        (body_op t current n o) g)

pub all_extended-append : (names : List Kind) (live_in : List NameId) (entry saved : Bool) (xs ys : List ExtOp) (g : Growth)
    → with_all_extended names live_in entry saved (xs ++ ys) g ≡ with_all_extended names live_in entry saved ys
    (with_all_extended names live_in entry saved xs g)
all_extended-append names live_in entry saved [] ys g = refl
all_extended-append names live_in entry saved (x ∷ xs) ys g = all_extended-append names live_in entry saved xs ys
    (with_extended names live_in entry saved x g)
