-- Every operand of an active operation chooses an active temporary exactly where the constraints of choices are met.
use Rattle.std.proofs.Common.{ℕ, ◌≡◌, ◌↔◌, ◌+◌, ◌<◌, Bool, true, false, List, [], ◌∷◌, length, map, inl, refl, sym, ap, ◌∙◌, subst, arith}
use Rattle.std.specs.Prelude.{Option, Some, slice_get, slice_index, unwrap_or, not, ◌||◌}
use Rattle.std.specs.List.{AllZip}
use Rattle.std.specs.Option.{option_map}
use Rattle.un_base.specs.declared.ids.TempId.{TempId}
use Rattle.un_base.specs.declared.ids.VarId.{VarId}
use Rattle.un_ir.specs.declared.extended.NodeCopy.{NodeCopy}
use Rattle.un_ir.specs.declared.extended.ExtKind.{ExtKind}
use Rattle.un_ir.specs.declared.extended.ExtKind.TheVariants.{In, Out, Body, End, Copy, Enter, Leave}
use Rattle.un_ir.specs.declared.extended.Operand.{Operand}
use Rattle.un_ir.specs.declared.extended.Ext.{Ext}
use Rattle.un_ir.specs.Linear.{first_of}
use Rattle.un_ir.specs.Extended.{carried, first_read, temp, wants_of, result_count, IsGoodOperand}
use Rattle.un_model.specs.declared.model.Options.{Options}
use Rattle.un_model.specs.declared.schedule.Read.{Read}
use Rattle.un_model.specs.Schedules.{schedule_of, read_of, value_by}
use Rattle.un_model.specs.Solutions.{KeepsChoices, IsLive}
use Rattle.un_ir.specs.Kinds.{is_optional, has_choices}
use Rattle.un_model.specs.Variables.{model_of, var_at, var_if, choice_place}
use Rattle.un_lists.proofs.Lists.{Member, member_at, slice_get-map}
use Rattle.un_model.proofs.Placed.{Placed, vars_of, issue_at, Spot}
use Rattle.un_model.proofs.PlacedSchedules.{spots, spot_range, the_ranges, spot_here, one_spot}
use Rattle.un_model.proofs.TempKinds.{carried_at, spot_carried, carried_are}
use Rattle.un_prop.specs.Acts.{is_active}
use Rattle.un_prop.specs.Choices.{passes_at}
use Rattle.un_prop.specs.declared.act.Act.{Act}
use Rattle.un_alt.specs.Registers.{place_of as chosen_place}
use Rattle.un_kinds.specs.Constraints.{AllMet, Chosen}
use Rattle.un_sites.specs.Places.{Definer, act_by, act_of, definers_of, definers_at}
use Rattle.un_sites.specs.Postings.{over_operands, chosen_of, chosen_by}
use Rattle.un_post.proofs.Meeting.{Met, passes_get, where_on}
use Rattle.un_post.proofs.Placing.{place_of, definer_at}
use Rattle.un_post.proofs.Facts.{Given, Reading, numbered, good_op, all_member, acts, definer_is, definer_acts, definer_counts, choice_var}
use Rattle.un_post.proofs.Facts.{no_choice, reading, read_range, read_definer, reader_goes, alternative}
use Rattle.un_post.proofs.Tests.{iff_then, met_one}
use Rattle.un_post.proofs.Whole.{Agrees, operands_each}

module _ (e : Ext) (o : Options) (x : List ℕ) (given : Given e o x) where
  -- ---- the operand of the first copy of a value

  -- what a result carries
  pub carried_is : (s : Spot) → Member s (spots e o x) → carried e.blocks s.temp ≡ spot_carried s
  carried_is s m = ap (λ (t : Option TempId). unwrap_or t s.temp) (
      ap (λ xs. slice_get xs s.temp.0) (sym (carried_are 0 0 0 e.blocks)) ∙ slice_get-map spot_carried (spots e o x) s.temp.0
      ∙ ap (option_map spot_carried) (spot_here e o x (numbered e o x given) s m))

  -- a copy reads an earlier result, and not its own
  not_own : (s : Spot) (node : NodeCopy) → Member s (spots e o x) → (let q = s.definer in q.op.kind ≡ Copy node)
      → (let q = s.definer in first_read q.op.operands ≡ s.temp) → ⊥
  not_own s node m k own = let q = s.definer in let g = good_op e o x given q (definer_is e o x given s m).0 in let z = g.keeps in
      by q.op.operands refl z.operands
    where
      by : (xs : List Operand) → (let q = s.definer in q.op.operands ≡ xs)
          → (let q = s.definer in let g = good_op e o x given q (definer_is e o x given s m).0 in
          AllZip (IsGoodOperand e.names e.blocks g.before) q.op.operands (wants_of e.table e.names e.blocks q.owner q.op.kind q.op)) → ⊥
      by [] h z =
          let q = s.definer in let g = good_op e o x given q (definer_is e o x given s m).0 in
          let a = subst (λ (xs : List Operand). AllZip (IsGoodOperand e.names e.blocks g.before) xs
          (wants_of e.table e.names e.blocks q.owner q.op.kind q.op)) h z in
          subst (λ (c : ExtKind). AllZip (IsGoodOperand e.names e.blocks g.before) [] (wants_of e.table e.names e.blocks q.owner c q.op)) k
          a
      by (operand ∷ more) h z =
          let q = s.definer in
          let at : slice_get q.op.operands 0 ≡ Some operand = ap (λ (xs : List Operand). slice_get xs 0) h in
          let mq = (definer_is e o x given s m).0 in
          let r = reading e o x given q 0 operand mq at in
          let f = r.fits in
          let first : temp (first_of operand.alts) ≡ s.temp = sym (ap first_read h) ∙ own in
          let u = alternative e o x given q 0 operand mq at (temp (first_of operand.alts)) (first_in operand.alts f.chooses) in
          let one = one_spot e o x (numbered e o x given) u.0 s u.1 m (ap (λ (t : TempId). t.0) (u.2 ∙ first)) in
          let less = u.4 in
          let same : u.0.definer.number ≡ s.definer.number = ap (λ (t : Spot). t.definer.number) one in
          absurd (omega arith)
        where
          first_in : (alts : List TempId) → 0 < length alts → Member (temp (first_of alts)) alts
          first_in [] lt = absurd (omega arith)
          first_in (y ∷ ys) lt = inl refl

  -- what carries itself is defined by the source
  pub value_kind : (s : Spot) → Member s (spots e o x) → carried e.blocks s.temp ≡ s.temp
      → (let q = s.definer in is_optional q.op.kind ≡ false)
  value_kind s m own = let q = s.definer in by q.op.kind refl
    where
      none : (kind : ExtKind) → (let q = s.definer in q.op.kind ≡ kind) → (let q = s.definer in result_count e.table q.owner kind ≡ 0) → ⊥
      none kind k z =
          let q = s.definer in
          let c = definer_counts e o x given s m in
          let n : result_count e.table q.owner q.op.kind ≡ 0 = ap (result_count e.table q.owner) k ∙ z in
          absurd (omega arith)

      by : (kind : ExtKind) → (let q = s.definer in q.op.kind ≡ kind) → is_optional kind ≡ false
      by (Copy node) k =
          let reads : first_read s.definer.op.operands ≡ s.temp = sym (ap (λ (c : ExtKind). carried_at c s) k) ∙ sym (carried_is s m)
          ∙ own in
          absurd (not_own s node m k reads)
      by Enter k = absurd (none Enter k refl)
      by Leave k = absurd (none Leave k refl)
      by In k = refl
      by Out k = refl
      by (Body so) k = refl
      by (End term) k = refl

  -- and always active
  pub value_active : (s : Spot) → Member s (spots e o x) → carried e.blocks s.temp ≡ s.temp → (spot_range e o x s).active ≡ true
  value_active s m own =
      let q = s.definer in
      sym (definer_acts e o x given s m) ∙ ap (λ (t : Bool). is_active (act_by (var_if t q.first)) x) (value_kind s m own)

  -- the value that an operand without a choice reads carries itself
  pub lone_value : (q : Placed) (j : ℕ) (operand : Operand) (r : Reading e o x given q j operand) → has_choices q.op.kind ≡ false
      → carried e.blocks r.spot.temp ≡ r.spot.temp
  lone_value q j operand r c =
      let f = r.fits in
      let at : slice_get operand.alts 0 ≡ Some r.spot.temp = ap (λ (v : Option VarId). slice_get operand.alts (value_by x v))
      (sym (no_choice e o x given q j c)) ∙ r.at in
      let value = all_member (λ (y : TempId). carried e.blocks y ≡ temp (first_of operand.alts)) operand.alts r.spot.temp f.one_value
      (member_at operand.alts 0 r.spot.temp at) in
      value ∙ first operand.alts r.spot.temp at
    where
      first : (alts : List TempId) (y : TempId) → slice_get alts 0 ≡ Some y → temp (first_of alts) ≡ y
      first [] y h = absurd (cc h)
      first (z ∷ zs) y h = let same : z ≡ y = cc h in same

  -- ---- operands

  pub agree : Agrees e o x given (λ (r : Read). IsLive (slice_get (the_ranges e o x) r.temp.0)) chosen_of
  agree q j operand m at = let r = reading e o x given q j operand m at in by r (has_choices q.op.kind) refl
    where
      live : (r : Reading e o x given q j operand) → IsLive (slice_get (the_ranges e o x)
          (read_of x (issue_at x q) (vars_of q) j operand).temp.0) ↔ ((spot_range e o x r.spot).active ≡ true)
      live r = (
        λ h. subst IsLive (read_range e o x given q j operand r) h,
        λ h. subst IsLive (sym (read_range e o x given q j operand r)) h,
      )

      by : (r : Reading e o x given q j operand) (b : Bool) → has_choices q.op.kind ≡ b
          → ((issue_at x q).active ≡ true → IsLive (slice_get (the_ranges e o x) (read_of x (issue_at x q) (vars_of q) j operand).temp.0))
          ↔ Met x (chosen_by (act_of (place_of q)) (slice_get (vars_of q).choices j)
          (definers_at (definers_of (model_of e o)) operand.alts))
      by r false c = (
        λ f. subst (λ (v : Option VarId). Met x (chosen_by (act_of (place_of q)) v (definers_at (definers_of (model_of e o)) operand.alts)))
            (sym (no_choice e o x given q j c)) tt,
        λ h act. (live r).1 (value_active r.spot r.member (lone_value q j operand r c)),
      )
      by r true c =
          let ds = definers_at (definers_of (model_of e o)) operand.alts in
          let v = var_at (q.first + choice_place q.op + j) in
          let acts_of = map (λ (d : Definer). act_of d.place) ds in
          let here : slice_get ds (slice_index x v.0) ≡ Some (definer_at r.spot) =
          ap (λ (w : Option VarId). slice_get ds (chosen_place w x)) (sym (choice_var e o x given q j operand at c))
          ∙ read_definer e o x given q j operand r in
          let passes : passes_at (λ (a : Act). is_active a x) acts_of (slice_index x v.0) ≡ (spot_range e o x r.spot).active =
          passes_get (λ (a : Act). is_active a x) acts_of (slice_index x v.0) _
          (slice_get-map (λ (d : Definer). act_of d.place) ds (slice_index x v.0)
          ∙ ap (option_map (λ (d : Definer). act_of d.place)) here) ∙ definer_acts e o x given r.spot r.member in
          let user : is_active (act_of (place_of q)) x ≡ (issue_at x q).active =
          acts e o x given q m (reader_goes e o x given q j operand r) in
          let one = met_one x (Chosen (act_of (place_of q)) v acts_of) (not (issue_at x q).active || (spot_range e o x r.spot).active)
          (ap (λ (b : Bool). not b || passes_at (λ (a : Act). is_active a x) acts_of (slice_index x v.0)) user
          ∙ ap (λ (b : Bool). not (issue_at x q).active || b) passes) in
          let whole = iff_then (where_on (issue_at x q).active (spot_range e o x r.spot).active _ (live r)) one in (
            λ f. subst (λ (w : Option VarId). Met x (chosen_by (act_of (place_of q)) w ds)) (sym (choice_var e o x given q j operand at c))
                (whole.0 f),
            λ h. whole.1 (subst (λ (w : Option VarId). Met x (chosen_by (act_of (place_of q)) w ds))
                (choice_var e o x given q j operand at c) h),
          )

  pub choices : KeepsChoices (schedule_of (model_of e o) x) ↔ AllMet (over_operands chosen_of (model_of e o)) x
  choices = operands_each e o x given (λ (r : Read). IsLive (slice_get (the_ranges e o x) r.temp.0)) chosen_of agree
