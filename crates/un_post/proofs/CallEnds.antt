-- What ends a block issues after its calls, where its operations stand in their places and its packets have room.
use Rattle.std.proofs.Common.{ℕ, ◌≡◌, ◌+◌, ◌<◌, ◌≤◌, Bool, true, false, List, [], ◌∷◌, inl, inr, refl, sym, ap, ◌∙◌, subst, arith, eq-eqb}
use Rattle.std.specs.Prelude.{Option, Some, IfSome, ◌&&◌, ◌==◌, nat_eq, slice_index, sum_by, if◌then◌else◌}
use Rattle.std.proofs.lemmas.Bool.Decides.{nat_tests}
use Rattle.std.proofs.lemmas.List.Sums.{sum_by-cons}
use Rattle.un_base.specs.declared.ids.VarId.{VarId}
use Rattle.un_isa.specs.declared.op.Op.{Op}
use Rattle.un_isa.specs.declared.op.Op.TheVariants.{Call}
use Rattle.un_isa.specs.declared.packet_counts.Resource.TheVariants.{Control}
use Rattle.un_isa.specs.PacketCounts.{places_of}
use Rattle.un_isa.specs.Does.{is_transfer, is_control}
use Rattle.un_isa.proofs.DoesLaws.{transfer_control}
use Rattle.un_ir.specs.declared.function.Term.{Term}
use Rattle.un_ir.specs.declared.function.Term.TheVariants.{Fall, Jump, Branch, Ret}
use Rattle.un_ir.specs.declared.extended.ExtKind.{ExtKind}
use Rattle.un_ir.specs.declared.extended.ExtKind.TheVariants.{In, Out, Body, End, Copy, Enter, Leave}
use Rattle.un_ir.specs.declared.extended.Ext.{Ext}
use Rattle.un_ir.specs.Kinds.{is_call_kind, ends_block}
use Rattle.un_model.specs.declared.model.Options.{Options}
use Rattle.un_model.specs.Instructions.{instruction_of, needs_by, transfer_of}
use Rattle.un_model.specs.Schedules.{value_by, cycle_by}
use Rattle.un_model.specs.Solutions.{share_of, IsPlaced, IsPlacedAs, IsLast}
use Rattle.un_model.proofs.Transfers.{control_need}
use Rattle.un_lists.proofs.Lists.{Member}
use Rattle.un_model.proofs.Placed.{Placed, Region, region_placed, vars_of, issue_at}
use Rattle.un_model.proofs.Regions.{of_region}
use Rattle.un_post.proofs.Blocks.{region_close}
use Rattle.un_post.proofs.Facts.{Given}
use Rattle.un_post.proofs.Packets.{share}
use Rattle.un_post.proofs.Spared.{call_instr}

less : (a b : ℕ) → a ≤ b → (a ≡ b → ⊥) → a + 1 ≤ b
less a b le apart = by (nat_eq a b) refl
  where
    by : (t : Bool) → nat_eq a b ≡ t → a + 1 ≤ b
    by true e = absurd (apart (grind (arith, nat_tests, e)))
    by false e = grind (arith, nat_tests, e, le)

-- ---- control transfers

sum_here : (f : Placed → ℕ) (ps : List Placed) (a : Placed) → Member a ps → f a ≤ sum_by f ps
sum_here f [] a m = elim m [ ]
sum_here f (p ∷ ps) a (inl e) = let cons = sum_by-cons f p ps in let same : f p ≡ f a = ap f e in omega arith
sum_here f (p ∷ ps) a (inr m) = let cons = sum_by-cons f p ps in let le = sum_here f ps a m in omega arith

sum_two : (f : Placed → ℕ) (ps : List Placed) (a b : Placed) → Member a ps → Member b ps → (a ≡ b → ⊥) → f a + f b ≤ sum_by f ps
sum_two f [] a b m n apart = elim m [ ]
sum_two f (p ∷ ps) a b (inl e) (inl g) apart = absurd (apart (sym e ∙ g))
sum_two f (p ∷ ps) a b (inl e) (inr n) apart =
    let cons = sum_by-cons f p ps in let same : f p ≡ f a = ap f e in let le = sum_here f ps b n in omega arith
sum_two f (p ∷ ps) a b (inr m) (inl g) apart =
    let cons = sum_by-cons f p ps in let same : f p ≡ f b = ap f g in let le = sum_here f ps a m in omega arith
sum_two f (p ∷ ps) a b (inr m) (inr n) apart =
    let cons = sum_by-cons f p ps in let le = sum_two f ps a b m n apart in omega arith

-- ---- one block

module _ (e : Ext) (o : Options) (x : List ℕ) (given : Given e o x) (r : Region)
    (placed : (q : Placed) → Member q (region_placed r) → IsPlaced (issue_at x q))
    (room : (c : ℕ) → sum_by (share e o x given Control r.block c) (region_placed r) ≤ places_of Control) where
  -- a call issues before its block's end
  pub inside : (c : Placed) → Member c (region_placed r) → is_call_kind c.op.kind ≡ true → (issue_at x c).cycle < (issue_at x c).end
  inside c mc call =
      let v = vars_of c in
      let instr = call_instr c.op.kind (value_by x v.instr) call in
      let there = subst (λ (i : Option Op). IfSome i (IsPlacedAs (issue_at x c).cycle (issue_at x c).end)) instr (placed c mc) in
      there.0.1

  -- a transfer takes the last cycle
  pub transfer_last : (q : Placed) → Member q (region_placed r) → (op : Op) → (issue_at x q).instr ≡ Some op → is_transfer op ≡ true
      → (issue_at x q).cycle + 1 ≡ (issue_at x q).end
  transfer_last q mq op instr transfer =
      let there = subst (λ (i : Option Op). IfSome i (IsPlacedAs (issue_at x q).cycle (issue_at x q).end)) instr (placed q mq) in
      subst (IsLast (issue_at x q).cycle (issue_at x q).end) transfer there.1

  -- a transfer issues after a call: a packet has room for one of both
  transfer_after : (c q : Placed) → Member c (region_placed r) → Member q (region_placed r) → is_call_kind c.op.kind ≡ true
      → (op : Op) → (issue_at x q).instr ≡ Some op → is_transfer op ≡ true → is_call_kind q.op.kind ≡ false
      → (issue_at x c).cycle + 1 ≤ (issue_at x q).cycle
  transfer_after c q mc mq call op instr transfer other = by (nat_eq (issue_at x c).cycle (issue_at x q).cycle) refl
    where
      same_end : (issue_at x c).end ≡ (issue_at x q).end
      same_end = ap (λ (v : VarId). slice_index x v.0) (sym (region_close r c mc) ∙ region_close r q mq)

      crowded : (issue_at x c).cycle ≡ (issue_at x q).cycle → ⊥
      crowded same =
          let v = vars_of c in
          let f = share e o x given Control r.block (issue_at x q).cycle in
          let fits = room (issue_at x q).cycle in
          let two = sum_two f (region_placed r) c q mc mq (λ is.
          (let z : is_call_kind c.op.kind ≡ is_call_kind q.op.kind = ap (λ (p : Placed). is_call_kind p.op.kind) is in
          let y : true ≡ false = sym call ∙ z ∙ other in cc y)) in
          let one = takes_control c Call (call_instr c.op.kind (value_by x v.instr) call) refl mc same in
          let more = takes_control q op instr (transfer_control op transfer) mq refl in
          omega arith
        where
          takes_control : (p : Placed) (op : Op) → (issue_at x p).instr ≡ Some op → is_control op ≡ true
              → Member p (region_placed r)
              → (issue_at x p).cycle ≡ (issue_at x q).cycle → 1 ≤ share e o x given Control r.block (issue_at x q).cycle p
          takes_control p op instr class mp same =
              let n = (issue_at x q).cycle in
              let here : (p.block == r.block) ≡ true = eq-eqb p.block r.block (of_region r p mp) in
              let now : ((issue_at x p).cycle == n) ≡ true = eq-eqb (issue_at x p).cycle n same in
              let need = control_need e.table given.fit op class in
              let is : share e o x given Control r.block n p ≡ (needs_by e.table (Some op)).control =
              ap (λ (b : Bool). if b && ((issue_at x p).cycle == n) then share_of e.table Control (issue_at x p).instr else 0) here
              ∙ ap (λ (b : Bool). if b then share_of e.table Control (issue_at x p).instr else 0) now
              ∙ ap (share_of e.table Control) instr in
              omega arith

      by : (t : Bool) → nat_eq (issue_at x c).cycle (issue_at x q).cycle ≡ t → (issue_at x c).cycle + 1 ≤ (issue_at x q).cycle
      by true e = absurd (crowded (let is : (issue_at x c).cycle ≡ (issue_at x q).cycle = grind (arith, nat_tests, e) in is))
      by false e =
          let lt = inside c mc call in
          let a = transfer_last q mq op instr transfer in
          let b = same_end in
          let apart : (issue_at x c).cycle ≡ (issue_at x q).cycle
          → ⊥ = λ s. (let t : nat_eq (issue_at x c).cycle (issue_at x q).cycle ≡ true = grind (arith, nat_tests, s) in
          let z : true ≡ false = sym t ∙ e in cc z) in
          less (issue_at x c).cycle (issue_at x q).cycle (omega arith) apart

  -- what ends a block issues after its calls
  pub end_after : (c q : Placed) → Member c (region_placed r) → Member q (region_placed r) → is_call_kind c.op.kind ≡ true
      → ends_block q.op.kind ≡ true → (issue_at x c).cycle + 1 ≤ (issue_at x q).cycle
  end_after c q mc mq call ends = by q.op.kind refl ends
    where
      transfer : (term : Term) (op : Op) → q.op.kind ≡ End term → transfer_of term ≡ Some op → is_transfer op ≡ true
          → (issue_at x c).cycle + 1 ≤ (issue_at x q).cycle
      transfer term op k t is =
          let v = vars_of q in
          let instr : (issue_at x q).instr ≡ Some op = ap (λ (k : ExtKind). instruction_of k (value_by x v.instr)) k ∙ t in
          transfer_after c q mc mq call op instr is (ap is_call_kind k)

      by : (kind : ExtKind) → q.op.kind ≡ kind → ends_block kind ≡ true → (issue_at x c).cycle + 1 ≤ (issue_at x q).cycle
      by Out k h =
          let v = vars_of q in
          let z : (issue_at x q).cycle ≡ (issue_at x q).end = ap (λ (k : ExtKind). cycle_by x (issue_at x q).end k v) k in
          let lt = inside c mc call in
          let same : (issue_at x c).end ≡ (issue_at x q).end = ap (λ (v : VarId). slice_index x v.0)
          (sym (region_close r c mc) ∙ region_close r q mq) in
          omega arith
      by (End Fall) k h = absurd (cc h)
      by (End (Jump to)) k h = transfer (Jump to) _ k refl refl
      by (End (Branch pred true to)) k h = transfer (Branch pred true to) _ k refl refl
      by (End (Branch pred false to)) k h = transfer (Branch pred false to) _ k refl refl
      by (End (Ret value)) k h = transfer (Ret value) _ k refl refl
      by In k h = absurd (cc h)
      by (Body so) k h = absurd (cc h)
      by (Copy node) k h = absurd (cc h)
      by Enter k h = absurd (cc h)
      by Leave k h = absurd (cc h)
