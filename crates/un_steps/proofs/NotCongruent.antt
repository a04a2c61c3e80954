-- What a block hands over shares a register with what each next block takes in its place.
use Rattle.std.proofs.Common.{ℕ, ◌≡◌, Bool, true, false, List, [], ◌∷◌, ◌⊎◌, inl, inr, refl, sym, ap, ◌∙◌, subst}
use Rattle.std.proofs.Common.{arith, Contains}
use Rattle.std.specs.Prelude.{Option, Some, None, slice_get, slice_index}
use Rattle.std.specs.Option.{option_map}
use Rattle.un_base.specs.declared.ids.TempId.{TempId}
use Rattle.un_ir.specs.declared.extended.Ext.{Ext}
use Rattle.un_ir.specs.declared.extended.ExtBlock.{ExtBlock}
use Rattle.un_ir.specs.declared.extended.Operand.{Operand}
use Rattle.un_ir.specs.Kinds.{is_optional}
use Rattle.un_ir.specs.Linear.{is_out, place_over}
use Rattle.un_ir.specs.Live.{targets_of}
use Rattle.un_domains.specs.Sets.{Sets, has, IsIn}
use Rattle.un_model.specs.declared.model.Options.{Options}
use Rattle.un_model.specs.declared.schedule.LiveRange.{LiveRange}
use Rattle.un_model.specs.Congruences.{term_of, live_in_temps, live_out_reads, register_of, register_read, HandsOver, HandsOn}
use Rattle.un_model.specs.Schedules.{reads_of, read_of}
use Rattle.un_model.specs.Variables.{model_of, var_if}
use Rattle.un_lists.proofs.Lists.{Member, place_of as position_of, each_member}
use Rattle.un_model.proofs.Placed.{Placed, vars_of, issue_at, Spot, Region, region_placed}
use Rattle.un_model.proofs.PlacedSchedules.{all, spots, the_ranges, range_get, active_spot, joined_member, split_member}
use Rattle.un_model.proofs.Readings.{Solved, numbered}
use Rattle.un_steps.specs.Rules.{IsNotCongruent, HasSuccessor, IsTakenElsewhere, ShareNone}
use Rattle.un_steps.specs.Words.{alternative, IsNeverZero, regs}
use Rattle.un_steps.proofs.Boxes.{some_of}
use Rattle.un_steps.proofs.Choosing.{chosen, register_in, register_left}
use Rattle.un_model.proofs.RegionEnds.{all_regions, region_end, the_end, end_read}
use Rattle.un_steps.proofs.Grounds.{sure_active}
use Rattle.un_steps.proofs.Placing.{operation_of}
use Rattle.un_model.proofs.Regions.{region_is, of_region, placed_regions, last_of, front_of, region_parts, front_stays, Ended, out_is}

module _ (e : Ext) (o : Options) (x : List ℕ) (h : Solved e o x) (s : Sets) (inside : IsIn x s) where
  -- the region at whose end an operation stands
  record AtEnd (q : Placed) : Type 0 where
    pub place : ℕ
    pub region : Region
    pub listed : slice_get (all_regions e o x h.extended) place ≡ Some region
    pub number : q.block ≡ place
    pub is : the_end e o x h.extended place region listed ≡ q
    pub owner : slice_get e.blocks place ≡ Some q.owner

  at_end : (q : Placed) → Member q (all e o x) → is_out q.op.kind ≡ true → AtEnd q
  at_end q m out =
      let regs = all_regions e o x h.extended in
      let r = joined_member region_placed regs q (subst (Member q) (placed_regions 0 0 0 e.blocks) m) in
      let k = position_of regs r.0 r.1 in
      let en = region_end e o x h.extended k.0 r.0 k.2 in
      let is = region_is 0 0 0 e.blocks k.0 r.0 k.2 in
      let block = of_region r.0 q r.2 in
      let num = is.1 in
      let last = last r.0 en (split_member (front_of r.0 en) (last_of r.0 en ∷ []) q (subst (Member q) (region_parts r.0 en) r.2)) in
      record {
        place = k.0;
        region = r.0;
        listed = k.2;
        number = omega (arith, block, num);
        is = last;
        owner = subst (λ (p : Placed). slice_get e.blocks k.0 ≡ Some p.owner) last is.0;
      }
    where
      last : (r : Region) (en : Ended r) → Member q (front_of r en) ⊎ Member q (last_of r en ∷ []) → last_of r en ≡ q
      last r en (inl front) =
          let stays = each_member (λ (p : Placed). is_out p.op.kind ≡ false) (front_of r en) q
          (front_stays r.block r.owner _ r.number r.first en.front en.inner) front in
          absurd (cc (sym stays ∙ out))
      last r en (inr (inl same)) = same
      last r en (inr (inr none)) = elim none [ ]

  out_active : (q : Placed) → Member q (all e o x) → is_out q.op.kind ≡ true → (issue_at x q).active ≡ true
  out_active q m out = sure_active e o x h s inside q m
      (subst (λ (b : Bool). IsNeverZero s (var_if b q.first)) (sym (ap is_optional (out_is q.op.kind out))) tt)

  -- the register of what is handed over at the place of an alternative is that of what is taken there
  hands_on : (q : Placed) (l j : ℕ) (b : ExtBlock) (z : TempId) → Member q (all e o x) → is_out q.op.kind ≡ true
      → Contains (targets_of q.block (term_of q.owner.ops)) l → slice_get e.blocks l ≡ Some b → slice_get (live_in_temps b.ops) j ≡ Some z
      → (i : ℕ) (operand : Operand) (t : TempId) → place_over q.owner b j ≡ i → slice_get q.op.operands i ≡ Some operand
      → (let r = read_of x (issue_at x q) (vars_of q) i operand in r.temp) ≡ t
      → register_of (the_ranges e o x) t ≡ register_of (the_ranges e o x) z
  unfolding HandsOn HandsOver
  hands_on q l j b z m out to at taken i operand t over there reads =
      let en = at_end q m out in
      let sch = h.schedule in
      let congruent = sch.congruences en.place q.owner en.owner l b (subst (λ (k : ℕ). Contains (targets_of k (term_of q.owner.ops)) l) en.number to)
      at j z taken in
      let ranges = the_ranges e o x in
      let handed : slice_get (live_out_reads en.place (reads_of (model_of e o) x)) i ≡ Some (read_of x (issue_at x q) (vars_of q) i operand) =
      subst (λ (p : Placed). slice_get p.op.operands i ≡ Some operand → slice_get (live_out_reads en.place (reads_of (model_of e o) x)) i ≡ Some
      (read_of x (issue_at x p) (vars_of p) i operand)) en.is (end_read e o x h.extended en.place en.region en.listed i operand) there in
      let left : register_read ranges (slice_get (live_out_reads en.place (reads_of (model_of e o) x)) (place_over q.owner b j)) ≡ register_of
      ranges t = ap (λ (n : ℕ). register_read ranges (slice_get (live_out_reads en.place (reads_of (model_of e o) x)) n)) over
      ∙ ap (register_read ranges) handed ∙ ap (register_of ranges) reads in
      sym left ∙ congruent

  -- what has the register of a result that is left to another shares it
  shared : (u : Spot) (t z : TempId) → Member u (spots e o x) → u.temp ≡ t → register_of (the_ranges e o x) t ≡ register_of (the_ranges e o x) z
      → has (regs (model_of e o) s z) (register_in x u) ≡ true
  shared u t z mu is same = by (slice_get (the_ranges e o x) z.0) refl
      (ap (λ (y : TempId). register_of (the_ranges e o x) y) is ∙ same)
    where
      own : register_of (the_ranges e o x) u.temp ≡ Some (register_in x u)
      own = ap (option_map (λ (r : LiveRange). r.reg)) (range_get e o x (numbered e o x h) u mu)

      by : (g : Option LiveRange) → slice_get (the_ranges e o x) z.0 ≡ g
          → register_of (the_ranges e o x) u.temp ≡ register_of (the_ranges e o x) z → has (regs (model_of e o) s z) (register_in x u) ≡ true
      by None f k = absurd (cc (sym own ∙ k ∙ ap (option_map (λ (r : LiveRange). r.reg)) f))
      by (Some g) f k =
          let w = active_spot e o x (numbered e o x h) z.0 g f in
          let temps : w.0.temp ≡ z = ap (λ (n : ℕ). let y : TempId = record { 0 = n } in y) w.2 in
          let one : Some (register_in x u) ≡ Some g.reg = sym own ∙ k ∙ ap (option_map (λ (r : LiveRange). r.reg)) f in
          let reg : register_in x u ≡ g.reg = cc one in
          let known : register_in x w.0 ≡ g.reg = ap (λ (r : LiveRange). r.reg) w.3 in
          subst (λ (y : TempId). has (regs (model_of e o) s y) (register_in x u) ≡ true) temps
          (subst (λ (n : ℕ). has (regs (model_of e o) s w.0.temp) n ≡ true) (known ∙ sym reg) (register_left e o x h s inside w.0 w.1))

  pub not_congruent : (q : Placed) (v y : ℕ) → Member q (all e o x) → IsNotCongruent (model_of e o) s (operation_of q) v y
      → slice_index x v ≡ y → ⊥
  not_congruent q v y m (out, goes) is =
      let model = model_of e o in
      let p = operation_of q in
      let a = some_of (alternative p v y) (HasSuccessor model s p) goes in
      let c = chosen e o x h s inside q v y a.0 m (out_active q m out) a.1 is in
      let to = a.2 in
      let b = some_of (slice_get e.blocks to.0) (λ (b : ExtBlock). (j : ℕ) × IsTakenElsewhere model s p a.0 b j) to.2 in
      let j = b.2 in
      let z = some_of (slice_get (live_in_temps b.0.ops) j.0) (ShareNone model s a.0.temp) (j.1).1 in
      let same = hands_on q to.0 j.0 b.0 z.0 m out to.1 b.1 z.1 a.0.at a.0.operand a.0.temp (j.1).0 c.operand c.read in
      z.2 (register_in x c.spot) c.register (shared c.spot a.0.temp z.0 c.member c.temp same)
