-- Operands and results lie in the spaces of the instructions exactly where the constraints of spaces are met.
use Rattle.std.proofs.Common.{ℕ, ◌≡◌, ◌↔◌, ◌+◌, ◌<◌, Bool, true, false, List, [], ◌∷◌, map, refl, sym, ap, ◌∙◌, subst, arith}
use Rattle.std.specs.Prelude.{Option, Some, None, slice_get, slice_index, not, ◌||◌, is_some}
use Rattle.un_base.specs.declared.ids.TempId.{TempId}
use Rattle.un_base.specs.declared.ids.VarId.{VarId}
use Rattle.un_isa.specs.declared.op.Op.{Op}
use Rattle.un_isa.specs.declared.reg.TheConstants.{FIRST_SLOT}
use Rattle.un_ir.specs.Linear.{is_out}
use Rattle.un_ir.specs.declared.extended.NodeCopy.{NodeCopy}
use Rattle.un_ir.specs.declared.function.SrcOp.{SrcOp}
use Rattle.un_ir.specs.declared.extended.ExtKind.{ExtKind}
use Rattle.un_ir.specs.declared.extended.ExtKind.TheVariants.{In, Out, Body, End, Copy, Enter, Leave}
use Rattle.un_ir.specs.declared.extended.Ext.{Ext}
use Rattle.un_ir.specs.Extended.{IsGoodKind, IsSourceOp, result_count}
use Rattle.un_domains.specs.Sets.{has}
use Rattle.un_model.specs.declared.model.Options.{Options}
use Rattle.un_model.specs.declared.schedule.Read.{Read}
use Rattle.un_model.specs.Instructions.{instruction_of, space_read, space_given}
use Rattle.un_ir.specs.Kinds.{is_delimiter}
use Rattle.un_model.specs.Schedules.{schedule_of, read_of, value_by}
use Rattle.un_model.specs.Solutions.{KeepsSpaces, InDomain, InSpace, ReadsInSpace, IsGivenInSpace}
use Rattle.un_model.specs.Variables.{model_of, register_domain, register_place, carried}
use Rattle.un_lists.proofs.Lists.{Member, length_get, each_member, each_of, each_map, each_of_map}
use Rattle.un_model.proofs.OpDomains.{in_entry, register_sits}
use Rattle.un_model.proofs.Placed.{Placed, vars_of, issue_at, Spot, spot}
use Rattle.un_model.proofs.PlacedSchedules.{all, spots, spot_range, the_ranges}
use Rattle.un_prop.specs.Acts.{act_number}
use Rattle.un_prop.specs.Choices.{passes_at}
use Rattle.un_prop.specs.declared.act.Act.{Act}
use Rattle.un_alt.specs.Registers.{chosen_value, some_passes}
use Rattle.un_kinds.specs.Constraints.{Constraint, meets, AllMet, Spaces}
use Rattle.un_sites.specs.Places.{act_of, asked, definers_of, definers_at, registers_at}
use Rattle.un_sites.specs.Postings.{over_places, over_operands, registers_in, operand_sets, result_sets, spaces_of, space_by, results_in}
use Rattle.un_sites.specs.Postings.{result_by, registers_of}
use Rattle.un_post.proofs.Meeting.{Met, passes_get, where_on}
use Rattle.un_post.proofs.Placing.{place_of, definer_at}
use Rattle.un_post.proofs.Facts.{Given, Reading, falls, good_op, in_domains, acts, numbers, definer_is, reading, read_range, read_register}
use Rattle.un_post.proofs.Facts.{reader_goes}
use Rattle.un_post.proofs.RegisterBounds.{register_below, given_in_space}
use Rattle.un_post.proofs.SpaceSets.{in_space}
use Rattle.un_post.proofs.Tests.{iff_then, iff_back, both, met_one, same_test}
use Rattle.un_post.proofs.Whole.{Agrees, spot_in, operands_each, ranges_each, spots_each, registers_each, posted_each}

-- a block's end alone may have its operands in any space
asks : (k : ℕ) (kind : ExtKind) (on : Act) (j : ℕ) (choice : Option VarId) (regs : List VarId) → is_out kind ≡ false
    → space_by k kind on j choice regs ≡ Spaces on choice regs (operand_sets k kind j) ∷ []
asks k Out on j choice regs h = absurd (cc h)
asks k In on j choice regs h = refl
asks k (Body so) on j choice regs h = refl
asks k (End term) on j choice regs h = refl
asks k (Copy node) on j choice regs h = refl
asks k Enter on j choice regs h = refl
asks k Leave on j choice regs h = refl

asks_none : (k : ℕ) (kind : ExtKind) (on : Act) (j : ℕ) (choice : Option VarId) (regs : List VarId) → is_out kind ≡ true
    → space_by k kind on j choice regs ≡ []
asks_none k Out on j choice regs h = refl
asks_none k In on j choice regs h = absurd (cc h)
asks_none k (Body so) on j choice regs h = absurd (cc h)
asks_none k (End term) on j choice regs h = absurd (cc h)
asks_none k (Copy node) on j choice regs h = absurd (cc h)
asks_none k Enter on j choice regs h = absurd (cc h)
asks_none k Leave on j choice regs h = absurd (cc h)

issues_none : (kind : ExtKind) (n : ℕ) → is_out kind ≡ true → instruction_of kind n ≡ None
issues_none Out n h = refl
issues_none In n h = absurd (cc h)
issues_none (Body so) n h = absurd (cc h)
issues_none (End term) n h = absurd (cc h)
issues_none (Copy node) n h = absurd (cc h)
issues_none Enter n h = absurd (cc h)
issues_none Leave n h = absurd (cc h)

-- an inactive copy asks for no space
given_iff : (reg : ℕ) (i : Option Op) (b : Bool) → b ≡ is_some i → InSpace reg (space_given i) ↔ (b ≡ true → InSpace reg (space_given i))
given_iff reg None b h = (λ s t. s, λ f. tt)
given_iff reg (Some op) b h = (λ s t. s, λ f. f h)

module _ (e : Ext) (o : Options) (x : List ℕ) (given : Given e o x) where
  -- no register is past the last slot
  pub bound : (s : Spot) → Member s (spots e o x) → (spot_range e o x s).reg < FIRST_SLOT + o.slots
  bound s m =
      let d = definer_is e o x given s m in
      let q = s.definer in
      register_below e o (in_entry e o x q) q.owner q.op.kind s.place s.temp (carried q.op s.temp)
      (slice_index x (q.first + register_place q.op + s.place)) given.fit
      (register_sits e o x (in_entry e o x q) q s.place s.temp (in_domains e o x given q d.0) d.1)

  -- a constraint of spaces, where its operation has these sets by its numbers and this register is chosen
  spaces_met : (q : Placed) (f : Option Op → List ℕ) (choice : Option VarId) (regs : List VarId) (reg : ℕ) → Member q (all e o x)
      → falls q.op.kind ≡ false
      → (sets : List (List ℕ)) → slice_get sets (act_number (act_of (place_of q)) x) ≡ Some (f (issue_at x q).instr)
      → chosen_value choice regs x ≡ Some reg
      → meets (Spaces (act_of (place_of q)) choice regs sets) x ≡ (not (issue_at x q).active || has (f (issue_at x q).instr) reg)
  spaces_met q f choice regs reg m goes sets at value =
      let on = act_of (place_of q) in
      let inside = passes_get (λ (set : List ℕ). has set reg) sets (act_number on x) (f (issue_at x q).instr) at in
      let found : some_passes (λ r. passes_at (λ (set : List ℕ). has set r) sets (act_number on x)) (chosen_value choice regs x) ≡ has
      (f (issue_at x q).instr) reg =
      ap (some_passes (λ r. passes_at (λ (set : List ℕ). has set r) sets (act_number on x))) value ∙ inside in
      ap (λ (b : Bool). not b || some_passes (λ r. passes_at (λ (set : List ℕ). has set r) sets (act_number on x))
      (chosen_value choice regs x)) (acts e o x given q m goes)
      ∙ ap (λ (b : Bool). not (issue_at x q).active || b) found

  -- ---- operands

  pub agree : Agrees e o x given (λ (r : Read). ReadsInSpace r (slice_get (the_ranges e o x) r.temp.0)) (spaces_of o.slots)
  agree q j operand m at = let r = reading e o x given q j operand m at in by r (is_out q.op.kind) refl
    where
      in_reach : (r : Reading e o x given q j operand) → ReadsInSpace (read_of x (issue_at x q) (vars_of q) j operand)
          (slice_get (the_ranges e o x) (read_of x (issue_at x q) (vars_of q) j operand).temp.0)
          ↔ InSpace (spot_range e o x r.spot).reg (space_read (issue_at x q).instr j)
      in_reach r = (
        λ h. subst (ReadsInSpace (read_of x (issue_at x q) (vars_of q) j operand)) (read_range e o x given q j operand r) h,
        λ h. subst (ReadsInSpace (read_of x (issue_at x q) (vars_of q) j operand)) (sym (read_range e o x given q j operand r)) h,
      )

      by : (r : Reading e o x given q j operand) (b : Bool) → is_out q.op.kind ≡ b
          → ((issue_at x q).active ≡ true → ReadsInSpace (read_of x (issue_at x q) (vars_of q) j operand)
          (slice_get (the_ranges e o x) (read_of x (issue_at x q) (vars_of q) j operand).temp.0))
          ↔ Met x (spaces_of o.slots (asked (definers_of (model_of e o)) (place_of q) j operand))
      by r true out =
          let v = vars_of q in
          let none : (issue_at x q).instr ≡ None = issues_none q.op.kind (value_by x v.instr) out in (
            λ f. subst (Met x) (sym (asks_none o.slots q.op.kind (act_of (place_of q)) j (slice_get v.choices j)
                (registers_of (definers_at (definers_of (model_of e o)) operand.alts)) out)) tt,
            λ h act. (in_reach r).1 (subst (λ (i : Option Op). InSpace (spot_range e o x r.spot).reg (space_read i j)) (sym none) tt),
          )
      by r false out =
          let v = vars_of q in
          let regs = registers_of (definers_at (definers_of (model_of e o)) operand.alts) in
          let choice = slice_get v.choices j in
          let reg = (spot_range e o x r.spot).reg in
          let sets = operand_sets o.slots q.op.kind j in
          let f = λ (i : Option Op). registers_in o.slots (space_read i j) in
          let posted = asks o.slots q.op.kind (act_of (place_of q)) j choice regs out in
          let one = met_one x (Spaces (act_of (place_of q)) choice regs sets)
          (not (issue_at x q).active || has (f (issue_at x q).instr) reg)
          (spaces_met q f choice regs reg m (reader_goes e o x given q j operand r) sets (numbers e o x given f q m)
          (read_register e o x given q j operand r)) in
          let inside = iff_then (in_reach r) (in_space reg o.slots (space_read (issue_at x q).instr j) (bound r.spot r.member)) in
          let whole = iff_then (where_on (issue_at x q).active (has (f (issue_at x q).instr) reg) _ inside) one in (
            λ h. subst (Met x) (sym posted) (whole.0 h),
            λ h. whole.1 (subst (Met x) posted h),
          )

  -- ---- results

  pub results_by : (q : Placed) → Member q (all e o x) → ((k : ℕ) (y : TempId) → slice_get q.op.results k ≡ Some y
      → IsGivenInSpace (spot_range e o x (spot q k y))) ↔ Met x (results_in o.slots (definers_of (model_of e o)) (place_of q))
  results_by q m = by q.op.kind refl
    where
      instr_is : (kind : ExtKind) → q.op.kind ≡ kind → (let v = vars_of q in
          (issue_at x q).instr ≡ instruction_of kind (value_by x v.instr))
      instr_is kind h = let v = vars_of q in ap (λ (c : ExtKind). instruction_of c (value_by x v.instr)) h

      -- results of which the space is known
      known : (kind : ExtKind) → q.op.kind ≡ kind → result_by o.slots kind (act_of (place_of q))
          (registers_at (definers_of (model_of e o)) q.op.results) ≡ []
          → ((k : ℕ) (y : TempId) → slice_get q.op.results k ≡ Some y → IsGivenInSpace (spot_range e o x (spot q k y)))
          → ((k : ℕ) (y : TempId) → slice_get q.op.results k ≡ Some y → IsGivenInSpace (spot_range e o x (spot q k y))) ↔ Met x
          (results_in o.slots (definers_of (model_of e o)) (place_of q))
      known kind h none given_so = (
        λ f. subst (Met x) (sym (ap (λ (c : ExtKind). result_by o.slots c (act_of (place_of q))
            (registers_at (definers_of (model_of e o)) q.op.results)) h ∙ none)) tt,
        λ t. given_so,
      )

      without : (kind : ExtKind) → q.op.kind ≡ kind → result_count e.table q.owner kind ≡ 0 → (k : ℕ) (y : TempId)
          → slice_get q.op.results k ≡ Some y → IsGivenInSpace (spot_range e o x (spot q k y))
      without kind h z k y at =
          let g = good_op e o x given q m in
          let keeps = g.keeps in
          let n = keeps.results in
          let c : result_count e.table q.owner q.op.kind ≡ 0 = ap (result_count e.table q.owner) h ∙ z in
          let lt = length_get q.op.results k y at in
          absurd (omega arith)

      of_source : (so : SrcOp) → q.op.kind ≡ Body so → (k : ℕ) (y : TempId) → slice_get q.op.results k ≡ Some y
          → IsGivenInSpace (spot_range e o x (spot q k y))
      of_source so h k y at =
          let reg = slice_index x (q.first + register_place q.op + k) in
          let g = good_op e o x given q m in
          let keeps = g.keeps in
          let source : IsSourceOp so = subst (λ (c : ExtKind). IsGoodKind c q.op) h keeps.kind in
          let sits = subst (λ (c : ExtKind). InDomain reg (register_domain e o (in_entry e o x q) q.owner c k y (carried q.op y))) h
          (register_sits e o x (in_entry e o x q) q k y (in_domains e o x given q m) at) in
          subst (λ (i : Option Op). InSpace reg (space_given i)) (sym (instr_is (Body so) h))
          (given_in_space e o (in_entry e o x q) q.owner so.op y reg given.fit source.op sits)

      of_start : q.op.kind ≡ In → (k : ℕ) (y : TempId) → slice_get q.op.results k ≡ Some y → IsGivenInSpace (spot_range e o x (spot q k y))
      of_start h k y at = subst (λ (i : Option Op). InSpace (slice_index x (q.first + register_place q.op + k)) (space_given i))
          (sym (instr_is In h)) tt

      -- a copy's result
      copied : (node : NodeCopy) → q.op.kind ≡ Copy node → (k : ℕ) (y : TempId) → slice_get q.op.results k ≡ Some y
          → IsGivenInSpace (spot_range e o x (spot q k y)) ↔ (meets
          (Spaces (act_of (place_of q)) None ((definer_at (spot q k y)).reg ∷ []) (result_sets o.slots (Copy node))) x ≡ true)
      copied node h k y at =
          let s = spot q k y in
          let reg = (spot_range e o x s).reg in
          let f = λ (i : Option Op). registers_in o.slots (space_given i) in
          let goes : falls q.op.kind ≡ false = ap falls h in
          let number : slice_get (result_sets o.slots (Copy node)) (act_number (act_of (place_of q)) x) ≡ Some (f (issue_at x q).instr) =
          ap (λ (c : ExtKind). slice_get (result_sets o.slots c) (act_number (act_of (place_of q)) x)) (sym h)
          ∙ numbers e o x given f q m in
          let met = spaces_met q f None ((definer_at s).reg ∷ []) reg m goes (result_sets o.slots (Copy node)) number refl in
          let active : (issue_at x q).active ≡ is_some (issue_at x q).instr =
          ap (λ (b : Bool). b || is_some (issue_at x q).instr) (ap is_delimiter h) in
          let inside = in_space reg o.slots (space_given (issue_at x q).instr) (bound s (spot_in e o x given q k y m at)) in
          iff_then (given_iff reg (issue_at x q).instr (issue_at x q).active active)
          (iff_then (where_on (issue_at x q).active (has (f (issue_at x q).instr) reg) _ inside) (same_test _ _ (sym met)))

      by : (kind : ExtKind) → q.op.kind ≡ kind → ((k : ℕ) (y : TempId) → slice_get q.op.results k ≡ Some y
          → IsGivenInSpace (spot_range e o x (spot q k y))) ↔ Met x (results_in o.slots (definers_of (model_of e o)) (place_of q))
      by (Copy node) h =
          let made = λ (v : VarId). Spaces (act_of (place_of q)) None (v ∷ []) (result_sets o.slots (Copy node)) in
          let vs = registers_at (definers_of (model_of e o)) q.op.results in
          let posted : results_in o.slots (definers_of (model_of e o)) (place_of q) ≡ map made vs =
          ap (λ (c : ExtKind). result_by o.slots c (act_of (place_of q)) vs) h in
          let each = registers_each e o x given (λ (v : VarId). meets (made v) x ≡ true) q m in (
            λ f. subst (Met x) (sym posted) (each_map (λ (c : Constraint). meets c x ≡ true) made vs
                (each.1 (λ k y at. (copied node h k y at).0 (f k y at)))),
            λ t k y at. (copied node h k y at).1 (each.0 (each_of_map (λ (c : Constraint). meets c x ≡ true) made vs
                (subst (Met x) posted t)) k y at),
          )
      by (Body so) h = known (Body so) h refl (of_source so h)
      by In h = known In h refl (of_start h)
      by Out h = known Out h refl (without Out h refl)
      by (End term) h = known (End term) h refl (without (End term) h refl)
      by Enter h = known Enter h refl (without Enter h refl)
      by Leave h = known Leave h refl (without Leave h refl)

  pub spaces : KeepsSpaces (schedule_of (model_of e o) x)
      ↔ (AllMet (over_operands (spaces_of o.slots) (model_of e o)) x
      × AllMet (over_places (results_in o.slots (definers_of (model_of e o))) (model_of e o)) x)
  spaces = both
      (operands_each e o x given (λ (r : Read). ReadsInSpace r (slice_get (the_ranges e o x) r.temp.0)) (spaces_of o.slots) agree)
      (iff_then (ranges_each e o x given IsGivenInSpace) (iff_then (spots_each e o x given (λ s. IsGivenInSpace (spot_range e o x s)))
      (iff_then (
        λ h. each_of (λ q. Met x (results_in o.slots (definers_of (model_of e o)) (place_of q))) (all e o x)
            (λ q m. (results_by q m).0 (each_member _ (all e o x) q h m)),
        λ h. each_of _ (all e o x) (λ q m. (results_by q m).1 (each_member _ (all e o x) q h m)),
      ) (iff_back (posted_each e o x given (results_in o.slots (definers_of (model_of e o))))))))
