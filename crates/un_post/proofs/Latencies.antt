-- Where operands choose active temporaries, instructions issue in their blocks and wait for what they read exactly where the
-- constraints of places and latencies are met.
use Rattle.std.proofs.Common.{ℕ, zero, suc, ◌≡◌, ◌↔◌, ◌+◌, ◌-◌, ◌≤◌, Bool, true, false, List, [], ◌∷◌, length, map, refl, sym, ap, ◌∙◌}
use Rattle.std.proofs.Common.{subst, arith, All}
use Rattle.std.proofs.lemmas.List.{length-map}
use Rattle.std.specs.Prelude.{Option, Some, None, IfSome, slice_get, slice_index, not, ◌||◌, ◌&&◌, nat_eq, nat_le, is_some, if◌then◌else◌}
use Rattle.std.specs.Option.{option_map}
use Rattle.un_base.specs.declared.ids.TempId.{TempId}
use Rattle.un_base.specs.declared.ids.VarId.{VarId}
use Rattle.un_isa.specs.declared.op.Op.{Op}
use Rattle.un_isa.specs.declared.op.Op.TheVariants.{Enter as EnterOp, Leave as LeaveOp}
use Rattle.un_isa.specs.Does.{is_transfer}
use Rattle.un_isa.proofs.DoesLaws.{source_stays, copy_stays}
use Rattle.un_ir.specs.declared.function.Term.TheVariants.{Fall, Jump, Branch, Ret}
use Rattle.un_ir.specs.declared.extended.NodeCopy.TheVariants.{D, D2, U, U2}
use Rattle.un_ir.specs.declared.extended.ExtKind.{ExtKind}
use Rattle.un_ir.specs.declared.extended.ExtKind.TheVariants.{In, Out, Body, End, Copy, Enter, Leave}
use Rattle.un_ir.specs.declared.extended.Operand.{Operand}
use Rattle.un_ir.specs.declared.extended.Ext.{Ext}
use Rattle.un_ir.specs.Extended.{IsGoodKind, IsSourceOp}
use Rattle.un_domains.specs.declared.domain.Domain.TheVariants.{Range}
use Rattle.un_model.specs.declared.model.Options.{Options}
use Rattle.un_model.specs.declared.schedule.Read.{Read}
use Rattle.un_model.specs.Arcs.{own_instr}
use Rattle.un_model.proofs.Gaps.{gap_own}
use Rattle.un_model.specs.Instructions.{instruction_of, copy_of}
use Rattle.un_model.proofs.Transfers.{copy_copies}
use Rattle.un_ir.specs.Kinds.{is_delimiter, is_optional, has_choices}
use Rattle.un_model.specs.Schedules.{schedule_of, read_of, value_by, cycle_by}
use Rattle.un_model.specs.Solutions.{KeepsChoices, KeepsLatencies, IsLive, IsPlaced, IsPlacedAs, IsLast, LeavesGap, latency_gap}
use Rattle.un_model.specs.Variables.{model_of, has_cycle, var_at, var_if, cycle_place, choice_place, own_horizon}
use Rattle.un_model.specs.Variables.{cycle_domain}
use Rattle.un_lists.proofs.Lists.{Member, each_member, each_of, member_at, slice_get-map}
use Rattle.un_model.proofs.Placed.{Placed, Spot, vars_of, end_of, issue_at}
use Rattle.un_model.proofs.OpDomains.{in_entry}
use Rattle.un_model.proofs.PlacedSchedules.{all, spot_range, the_ranges}
use Rattle.un_prop.specs.Acts.{act_number, is_active, at_value}
use Rattle.un_prop.specs.Choices.{passes_at}
use Rattle.un_prec.specs.Reads.{is_late}
use Rattle.un_alt.specs.Registers.{place_of as chosen_place}
use Rattle.un_kinds.specs.Constraints.{Constraint, AllMet, Reads, Inside, Last}
use Rattle.un_sites.specs.Places.{act_by, act_of, time_of, definers_of, definers_at, definer_or, asked}
use Rattle.un_sites.specs.Postings.{over_places, over_operands, issue_by, issues_in, waits_of, waits_by, gaps_of, read_alt, lone_read}
use Rattle.un_post.proofs.Choices.{value_kind, value_active, lone_value}
use Rattle.un_post.proofs.Cycles.{cycle_sits}
use Rattle.un_post.proofs.Meeting.{Met, passes_get, where_on}
use Rattle.un_post.proofs.Placing.{place_of, definer_at}
use Rattle.un_post.proofs.Facts.{Given, Reading, falls, good_op, all_member, in_domains, acts, numbers, times, definer_is}
use Rattle.un_post.proofs.Facts.{definer_acts, definer_times, choice_var, no_choice, reading, read_range, read_definer, reader_goes}
use Rattle.un_post.proofs.Tests.{iff_then, iff_back, both, met_one, eq_iff, le_iff, and_iff}
use Rattle.un_post.proofs.Whole.{operands_each, read_each, issues_each, posted_each}

-- ---- places in a block

frame_stays : (made op : Op) (b : Bool) → (if b then None else Some made) ≡ Some op → is_transfer made ≡ false → is_transfer op ≡ false
frame_stays made op true h f = absurd (cc h)
frame_stays made op false h f = let same : made ≡ op = cc h in ap is_transfer (sym same) ∙ f

-- within its block
inside_iff : (b : Bool) (i : Option Op) (c end : ℕ) → b ≡ is_some i → ((op : Op) → i ≡ Some op → is_transfer op ≡ false)
    → IfSome i (IsPlacedAs c end) ↔ (((not (true && b) || nat_le (0 + 1) c) && (not (b && true) || nat_le (c + 1) end)) ≡ true)
inside_iff true None c end h stays = absurd (cc h)
inside_iff false None c end h stays = (λ p. refl, λ t. tt)
inside_iff false (Some op) c end h stays = absurd (cc h)
inside_iff true (Some op) c end h stays = (
  λ p. let w = p.0 in let lo = w.0 in let hi = w.1 in (and_iff (nat_le (0 + 1) c) (nat_le (c + 1) end)).0
      ((le_iff (0 + 1) c).0 (omega arith), (le_iff (c + 1) end).0 (omega arith)),
  λ t. let a = (and_iff (nat_le (0 + 1) c) (nat_le (c + 1) end)).1 t in
      let lo = (le_iff (0 + 1) c).1 a.0 in let hi = (le_iff (c + 1) end).1 a.1 in
      ((omega arith, omega arith), subst (IsLast c end) (sym (stays op refl)) tt),
)

-- in its last cycle
last_iff : (i : Option Op) (op : Op) (c end : ℕ) → i ≡ Some op → is_transfer op ≡ true → 1 ≤ c
    → IfSome i (IsPlacedAs c end) ↔ (nat_eq end (c + 1) ≡ true)
last_iff None op c end h t le = absurd (cc h)
last_iff (Some made) op c end h t le =
    let same : made ≡ op = cc h in
    let is : is_transfer made ≡ true = ap is_transfer same ∙ t in (
      λ p. let l = subst (IsLast c end) is p.1 in (eq_iff end (c + 1)).0 (sym l),
      λ k. let s = (eq_iff end (c + 1)).1 k in ((omega arith, omega arith), subst (IsLast c end) (sym is) (sym s)),
    )

-- ---- lists of one

single : {A : Type 0} (xs : List A) (a : A) → length xs ≡ 1 → slice_get xs 0 ≡ Some a → xs ≡ a ∷ []
single [] a n e = absurd (cc)
single (b ∷ []) a n e = let same : b ≡ a = cc e in ap (λ c. c ∷ []) same
single (b ∷ c ∷ xs) a n e = absurd (omega arith)

index_get : (xs : List ℕ) (k a : ℕ) → slice_get xs k ≡ Some a → slice_index xs k ≡ a
index_get [] k a e = absurd (cc e)
index_get (b ∷ xs) zero a e = let same : b ≡ a = cc e in same
index_get (b ∷ xs) (suc k) a e = index_get xs k a e

-- an operand without a choice is that of a first copy, and has one alternative
lone : (kind : ExtKind) (xs : List Operand) (results : List TempId) → has_choices kind ≡ false
    → IsGoodKind kind (record { kind = kind; operands = xs; results = results }) → All (λ (y : Operand). length y.alts ≡ 1) xs
lone (Copy D) xs results c h = h
lone (Copy D2) xs results c h = absurd (cc c)
lone (Copy U) xs results c h = absurd (cc c)
lone (Copy U2) xs results c h = absurd (cc c)
lone In xs results c h = absurd (cc c)
lone Out xs results c h = absurd (cc c)
lone (Body so) xs results c h = absurd (cc c)
lone (End term) xs results c h = absurd (cc c)
lone Enter xs results c h = absurd (cc c)
lone Leave xs results c h = absurd (cc c)

module _ (e : Ext) (o : Options) (x : List ℕ) (given : Given e o x) where
  -- ---- places in a block

  -- what is posted, were it of this kind
  abbrev placed_by : Placed → ExtKind → List Constraint
  placed_by q c = issue_by c (act_of (place_of q)) q.close (var_if (has_cycle c) (q.first + cycle_place q.op))

  pub placed_at : (q : Placed) → Member q (all e o x) → IsPlaced (issue_at x q) ↔ Met x (issues_in (place_of q))
  placed_at q m = by q.op.kind refl
    where
      instr_is : (kind : ExtKind) → q.op.kind ≡ kind → (let v = vars_of q in
          (issue_at x q).instr ≡ instruction_of kind (value_by x v.instr))
      instr_is kind h = let v = vars_of q in ap (λ (c : ExtKind). instruction_of c (value_by x v.instr)) h

      none : (issue_at x q).instr ≡ None → placed_by q q.op.kind ≡ [] → IsPlaced (issue_at x q) ↔ Met x (placed_by q q.op.kind)
      none i posted = (
        λ h. subst (Met x) (sym posted) tt,
        λ h. subst (λ (i : Option Op). IfSome i (IsPlacedAs (issue_at x q).cycle (issue_at x q).end)) (sym i) tt,
      )

      -- what issues anywhere within its block
      within : (kind : ExtKind) → q.op.kind ≡ kind → is_delimiter kind ≡ false → falls kind ≡ false
          → placed_by q kind ≡ Inside (var_at (q.first + cycle_place q.op)) (act_of (place_of q)) q.close ∷ []
          → (issue_at x q).cycle ≡ slice_index x (q.first + cycle_place q.op)
          → ((op : Op) → (issue_at x q).instr ≡ Some op → is_transfer op ≡ false)
          → IsPlaced (issue_at x q) ↔ Met x (placed_by q q.op.kind)
      within kind h inner goes made cycle stays =
          let at = q.first + cycle_place q.op in
          let posted : placed_by q q.op.kind ≡ Inside (var_at at) (act_of (place_of q)) q.close ∷ [] = ap (λ (c : ExtKind). placed_by q c) h
          ∙ made in
          let active : (issue_at x q).active ≡ is_some (issue_at x q).instr =
          ap (λ (b : Bool). b || is_some (issue_at x q).instr) (ap is_delimiter h ∙ inner) in
          let end = end_of x q in
          let tests = λ (b : Bool). λ (c : ℕ). (not (true && b) || nat_le (0 + 1) c) && (not (b && true) || nat_le (c + 1) end) in
          let one = met_one x (Inside (var_at at) (act_of (place_of q)) q.close) (tests (issue_at x q).active (issue_at x q).cycle)
          (ap (λ (b : Bool). tests b (slice_index x at)) (acts e o x given q m (ap falls h ∙ goes))
          ∙ ap (tests (issue_at x q).active) (sym cycle)) in
          let whole = iff_then (inside_iff (issue_at x q).active (issue_at x q).instr (issue_at x q).cycle end active stays) one in (
            λ p. subst (Met x) (sym posted) (whole.0 p),
            λ t. whole.1 (subst (Met x) posted t),
          )

      -- what ends its block
      final : (kind : ExtKind) (op : Op) → q.op.kind ≡ kind → instruction_of kind 0 ≡ Some op → is_transfer op ≡ true
          → is_optional kind ≡ false
          → placed_by q kind ≡ Last (var_at (q.first + cycle_place q.op)) q.close ∷ []
          → (issue_at x q).cycle ≡ slice_index x (q.first + cycle_place q.op)
          → cycle_domain (own_horizon q.owner) kind ≡ Some (Range 1 (own_horizon q.owner - 1))
          → IsPlaced (issue_at x q) ↔ Met x (placed_by q q.op.kind)
      final kind op h made t fixed here cycle domain =
          let at = q.first + cycle_place q.op in
          let posted : placed_by q q.op.kind ≡ Last (var_at at) q.close ∷ [] = ap (λ (c : ExtKind). placed_by q c) h ∙ here in
          let sits = cycle_sits e o x (in_entry e o x q) q (Range 1 (own_horizon q.owner - 1)) (in_domains e o x given q m)
          (ap (cycle_domain (own_horizon q.owner)) h ∙ domain) in
          let lo = sits.0 in
          let instr : (issue_at x q).instr ≡ Some op = instr_is kind h
          ∙ ap (instruction_of kind) (ap (λ (b : Bool). value_by x (var_if b q.first)) (ap is_optional h ∙ fixed)) ∙ made in
          let one = met_one x (Last (var_at at) q.close) (nat_eq (end_of x q) ((issue_at x q).cycle + 1))
          (ap (λ (c : ℕ). nat_eq (end_of x q) (c + 1)) (sym cycle)) in
          let whole = iff_then (last_iff (issue_at x q).instr op (issue_at x q).cycle (end_of x q) instr t (omega arith)) one in (
            λ p. subst (Met x) (sym posted) (whole.0 p),
            λ k. whole.1 (subst (Met x) posted k),
          )

      cycle_is : (kind : ExtKind) → q.op.kind ≡ kind → (let v = vars_of q in cycle_by x (end_of x q) kind v ≡ value_by x v.cycle)
          → has_cycle kind ≡ true
          → (issue_at x q).cycle ≡ slice_index x (q.first + cycle_place q.op)
      cycle_is kind h own timed =
          let v = vars_of q in
          ap (λ (c : ExtKind). cycle_by x (end_of x q) c v) h ∙ own
          ∙ ap (λ (b : Bool). value_by x (var_if b (q.first + cycle_place q.op))) (ap has_cycle h ∙ timed)

      by : (kind : ExtKind) → q.op.kind ≡ kind → IsPlaced (issue_at x q) ↔ Met x (placed_by q q.op.kind)
      by In h = none (instr_is In h) (ap (λ (c : ExtKind). placed_by q c) h)
      by Out h = none (instr_is Out h) (ap (λ (c : ExtKind). placed_by q c) h)
      by (End Fall) h = none (instr_is (End Fall) h) (ap (λ (c : ExtKind). placed_by q c) h)
      by (End (Jump to)) h = final (End (Jump to)) _ h refl refl refl refl (cycle_is (End (Jump to)) h refl refl) refl
      by (End (Branch pred true to)) h = final (End (Branch pred true to)) _ h refl refl refl refl
          (cycle_is (End (Branch pred true to)) h refl refl) refl
      by (End (Branch pred false to)) h = final (End (Branch pred false to)) _ h refl refl refl refl
          (cycle_is (End (Branch pred false to)) h refl refl) refl
      by (End (Ret value)) h = final (End (Ret value)) _ h refl refl refl refl (cycle_is (End (Ret value)) h refl refl) refl
      by (Body so) h = within (Body so) h refl refl refl (cycle_is (Body so) h refl refl) (λ op i.
          let g = good_op e o x given q m in
          let keeps = g.keeps in
          let source : IsSourceOp so = subst (λ (c : ExtKind). IsGoodKind c q.op) h keeps.kind in
          let made : Some so.op ≡ Some op = sym (instr_is (Body so) h) ∙ i in
          let same : so.op ≡ op = cc made in
          ap is_transfer (sym same) ∙ source_stays so.op source.op)
      by (Copy node) h = within (Copy node) h refl refl refl (cycle_is (Copy node) h refl refl) (λ op i.
          let v = vars_of q in
          let number : value_by x v.instr ≡ slice_index x q.first = ap (λ (b : Bool). value_by x (var_if b q.first)) (ap is_optional h) in
          copy_stays op (copy_copies (slice_index x q.first) op (ap copy_of (sym number) ∙ sym (instr_is (Copy node) h) ∙ i)))
      by Enter h = within Enter h refl refl refl (cycle_is Enter h refl refl)
          (λ op i. let v = vars_of q in frame_stays EnterOp op (nat_eq (value_by x v.instr) 0) (sym (instr_is Enter h) ∙ i) refl)
      by Leave h = within Leave h refl refl refl (cycle_is Leave h refl refl)
          (λ op i. let v = vars_of q in frame_stays LeaveOp op (nat_eq (value_by x v.instr) 0) (sym (instr_is Leave h) ∙ i) refl)

  -- ---- waits

  -- of an operand that chooses what is there
  module _ (q : Placed) (j : ℕ) (operand : Operand) (m : Member q (all e o x)) (at : slice_get q.op.operands j ≡ Some operand)
      (live : (issue_at x q).active ≡ true
      → IsLive (slice_get (the_ranges e o x) (read_of x (issue_at x q) (vars_of q) j operand).temp.0)) where
    -- how long an operation waits for a result
    abbrev waited : Placed → Spot → ℕ
    waited q s = latency_gap e.table (spot_range e o x s).instr (own_instr q.op)

    pub waits_at : ((issue_at x q).active ≡ true → LeavesGap (latency_gap e.table) (read_of x (issue_at x q) (vars_of q) j operand)
        (slice_get (the_ranges e o x) (read_of x (issue_at x q) (vars_of q) j operand).temp.0))
        ↔ Met x (waits_of e.table (asked (definers_of (model_of e o)) (place_of q) j operand))
    waits_at = let r = reading e o x given q j operand m at in by r (has_choices q.op.kind) refl
      where
        -- whichever instruction it is
        any : (i : Option Op) → latency_gap e.table i (issue_at x q).instr ≡ latency_gap e.table i (own_instr q.op)
        any i = gap_own e.table i q.op.kind (value_by x (vars_of q).instr) 0

        -- late enough, where the operation is active
        late : (r : Reading e o x given q j operand)
            → ((issue_at x q).active ≡ true → LeavesGap (latency_gap e.table) (read_of x (issue_at x q) (vars_of q) j operand)
            (slice_get (the_ranges e o x) (read_of x (issue_at x q) (vars_of q) j operand).temp.0))
            ↔ ((not (issue_at x q).active || nat_le ((spot_range e o x r.spot).from + waited q r.spot)
            (issue_at x q).cycle) ≡ true)
        late r =
            let h = spot_range e o x r.spot in
            let read = read_of x (issue_at x q) (vars_of q) j operand in
            let found = read_range e o x given q j operand r in
            iff_then (
              λ f act. subst (λ (n : ℕ). h.from + n ≤ (issue_at x q).cycle) (any h.instr)
                  (subst (LeavesGap (latency_gap e.table) read) found (f act) (subst IsLive found (live act))),
              λ f act. subst (LeavesGap (latency_gap e.table) read) (sym found)
                  (λ on. subst (λ (n : ℕ). h.from + n ≤ (issue_at x q).cycle) (sym (any h.instr)) (f act)),
            ) (where_on (issue_at x q).active (nat_le (h.from + waited q r.spot) (issue_at x q).cycle)
            (h.from + waited q r.spot ≤ (issue_at x q).cycle)
            (le_iff (h.from + waited q r.spot) (issue_at x q).cycle))

        by : (r : Reading e o x given q j operand) (b : Bool) → has_choices q.op.kind ≡ b
            → ((issue_at x q).active ≡ true → LeavesGap (latency_gap e.table) (read_of x (issue_at x q) (vars_of q) j operand)
            (slice_get (the_ranges e o x) (read_of x (issue_at x q) (vars_of q) j operand).temp.0))
            ↔ Met x (waits_by e.table (place_of q) (slice_get (vars_of q).choices j)
            (definers_at (definers_of (model_of e o)) operand.alts))
        by r true c =
            let ds = definers_at (definers_of (model_of e o)) operand.alts in
            let v = var_at (q.first + choice_place q.op + j) in
            let d = definer_at r.spot in
            let h = spot_range e o x r.spot in
            let user = time_of (place_of q) in
            let reads = map (read_alt e.table (place_of q)) ds in
            let here : slice_get ds (slice_index x v.0) ≡ Some d =
            ap (λ (w : Option VarId). slice_get ds (chosen_place w x)) (sym (choice_var e o x given q j operand at c))
            ∙ read_definer e o x given q j operand r in
            let gap : is_late (at_value user x) x (read_alt e.table (place_of q) d) ≡ nat_le
            (at_value (time_of d.place) x + waited q r.spot) (at_value user x) =
            passes_get (λ (g : ℕ). nat_le (at_value (time_of d.place) x + g) (at_value user x)) (gaps_of e.table (place_of q) d)
            (act_number (act_of d.place) x) (waited q r.spot)
            (numbers e o x given (λ (i : Option Op). latency_gap e.table i (own_instr q.op)) r.spot.definer
            (definer_is e o x given r.spot r.member).0) in
            let passes : passes_at (is_late (at_value user x) x) reads (slice_index x v.0) ≡ nat_le (h.from + waited q r.spot)
            (issue_at x q).cycle =
            passes_get (is_late (at_value user x) x) reads (slice_index x v.0) (read_alt e.table (place_of q) d)
            (slice_get-map (read_alt e.table (place_of q)) ds (slice_index x v.0) ∙ ap (option_map (read_alt e.table (place_of q))) here)
            ∙ gap ∙ ap (λ (t : ℕ). nat_le (t + waited q r.spot) (at_value user x)) (definer_times e o x given r.spot)
            ∙ ap (nat_le (h.from + waited q r.spot)) (times e o x given q) in
            let one = met_one x (Reads user (act_of (place_of q)) v reads)
            (not (issue_at x q).active || nat_le (h.from + waited q r.spot) (issue_at x q).cycle)
            (ap (λ (b : Bool). not b || passes_at (is_late (at_value user x) x) reads (slice_index x v.0))
            (acts e o x given q m (reader_goes e o x given q j operand r)) ∙ ap (λ (b : Bool). not (issue_at x q).active || b) passes)
            in
            let whole = iff_then (late r) one in (
              λ f. subst (λ (w : Option VarId). Met x (waits_by e.table (place_of q) w ds)) (sym (choice_var e o x given q j operand at c))
                  (whole.0 f),
              λ k. whole.1 (subst (λ (w : Option VarId). Met x (waits_by e.table (place_of q) w ds))
                  (choice_var e o x given q j operand at c) k),
            )
        by r false c =
            let ds = definers_at (definers_of (model_of e o)) operand.alts in
            let d = definer_at r.spot in
            let h = spot_range e o x r.spot in
            let g = good_op e o x given q m in
            let keeps = g.keeps in
            let one_alt : length operand.alts ≡ 1 = all_member (λ (y : Operand). length y.alts ≡ 1) q.op.operands operand
            (lone q.op.kind q.op.operands q.op.results c keeps.kind) (member_at q.op.operands j operand at) in
            let here : slice_get ds 0 ≡ Some d = ap (λ (w : Option VarId). slice_get ds (chosen_place w x))
            (sym (no_choice e o x given q j c)) ∙ read_definer e o x given q j operand r in
            let just : ds ≡ d ∷ [] = single ds d (length-map operand.alts
            (λ (y : TempId). definer_or (slice_get (definers_of (model_of e o)) y.0)) ∙ one_alt) here in
            let own = lone_value e o x given q j operand r c in
            let fixed = value_kind e o x given r.spot r.member own in
            let first : slice_get (gaps_of e.table (place_of q) d) 1 ≡ Some (waited q r.spot) =
            ap (λ (b : Bool). slice_get (gaps_of e.table (place_of q) d) (act_number (act_by (var_if b r.spot.definer.first)) x))
            (sym fixed)
            ∙ numbers e o x given (λ (i : Option Op). latency_gap e.table i (own_instr q.op)) r.spot.definer
            (definer_is e o x given r.spot r.member).0 in
            let gap : slice_index (gaps_of e.table (place_of q) d) 1 ≡ waited q r.spot =
            index_get (gaps_of e.table (place_of q) d) 1 (waited q r.spot) first in
            let on : is_active (act_of d.place) x ≡ true = definer_acts e o x given r.spot r.member
            ∙ value_active e o x given r.spot r.member own in
            let user : is_active (act_of (place_of q)) x ≡ (issue_at x q).active =
            acts e o x given q m (reader_goes e o x given q j operand r) in
            let one = met_one x (lone_read e.table (place_of q) d)
            (not (issue_at x q).active || nat_le (h.from + waited q r.spot) (issue_at x q).cycle)
            (ap (λ (b : Bool). not (b && is_active (act_of (place_of q)) x) ||
            nat_le (at_value (time_of d.place) x + slice_index (gaps_of e.table (place_of q) d) 1) (at_value (time_of (place_of q)) x)) on
            ∙ ap (λ (b : Bool). not b || nat_le (at_value (time_of d.place) x + slice_index (gaps_of e.table (place_of q) d) 1)
            (at_value (time_of (place_of q)) x)) user
            ∙ ap (λ (n : ℕ). not (issue_at x q).active || nat_le (at_value (time_of d.place) x + n) (at_value (time_of (place_of q)) x)) gap
            ∙ ap (λ (n : ℕ). not (issue_at x q).active || nat_le (n + waited q r.spot) (at_value (time_of (place_of q)) x))
            (definer_times e o x given r.spot)
            ∙ ap (λ (n : ℕ). not (issue_at x q).active || nat_le (h.from + waited q r.spot) n) (times e o x given q)) in
            let whole = iff_then (late r) one in
            let posted : waits_by e.table (place_of q) (slice_get (vars_of q).choices j) ds ≡ lone_read e.table (place_of q) d ∷ [] =
            ap (λ (w : Option VarId). waits_by e.table (place_of q) w ds) (no_choice e o x given q j c)
            ∙ ap (map (lone_read e.table (place_of q))) just in (
              λ f. subst (Met x) (sym posted) (whole.0 f),
              λ k. whole.1 (subst (Met x) posted k),
            )

  pub latencies : KeepsChoices (schedule_of (model_of e o) x) → KeepsLatencies (latency_gap e.table) (schedule_of (model_of e o) x)
      ↔ (AllMet (over_places issues_in (model_of e o)) x × AllMet (over_operands (waits_of e.table) (model_of e o)) x)
  latencies chosen = both
      (iff_then (issues_each e o x given IsPlaced) (iff_then (
        λ h. each_of _ (all e o x) (λ q m. (placed_at q m).0 (each_member _ (all e o x) q h m)),
        λ h. each_of _ (all e o x) (λ q m. (placed_at q m).1 (each_member _ (all e o x) q h m)),
      ) (iff_back (posted_each e o x given issues_in))))
      (operands_each e o x given (λ (r : Read). LeavesGap (latency_gap e.table) r (slice_get (the_ranges e o x) r.temp.0))
      (waits_of e.table)
      (λ q j operand m at. waits_at q j operand m at
      (read_each e o x given (λ (r : Read). IsLive (slice_get (the_ranges e o x) r.temp.0)) chosen q j operand m at)))
