-- What is of the part of each block is a solution, where some block uses the frame if the flag is set.
use Rattle.std.proofs.Common.{ℕ, ◌≡◌, ◌↔◌, ◌<◌, Bool, true, false, List, [], length, map, sym, subst, arith}
use Rattle.std.specs.Prelude.{Some, slice_get, if◌then◌else◌}
use Rattle.un_isa.specs.Fit.{IsFit}
use Rattle.un_ir.specs.Extended.{IsExtended}
use Rattle.un_ir.specs.declared.extended.Ext.{Ext}
use Rattle.un_ir.specs.declared.extended.Operand.{Operand}
use Rattle.un_model.specs.declared.model.Model.{Model}
use Rattle.un_model.specs.declared.model.Options.{Options}
use Rattle.un_model.specs.declared.model.Solution.{Solution}
use Rattle.un_model.specs.declared.schedule.Read.{Read}
use Rattle.un_model.specs.declared.schedule.Schedule.{Schedule}
use Rattle.un_model.specs.Cost.{value_of}
use Rattle.un_model.specs.Options.{AreOptions}
use Rattle.un_model.specs.Pairs.{places_from}
use Rattle.un_model.specs.Schedules.{schedule_of, reads_of, read_of}
use Rattle.un_model.specs.Solutions.{IsSchedule, IsSolution, IsIdleAtZero, IsZeroRange, IsLive, ReadsInSpace, IsGivenInSpace, IsPlaced}
use Rattle.un_model.specs.Solutions.{LeavesGap, ReadsHome, uses_frame, memory_distance, latency_gap}
use Rattle.un_model.specs.Variables.{IsModel, model_of}
use Rattle.un_lists.proofs.Lists.{Each, Member, each_of, each_all, place_of as position_of, length_get}
use Rattle.un_model.proofs.Placed.{Placed, Region, region_placed, vars_of, issue_at, reads_at, reads_are}
use Rattle.un_model.proofs.PlacedSchedules.{all, spots, spot_range, the_ranges}
use Rattle.un_model.proofs.RegionEnds.{all_regions}
use Rattle.un_model.proofs.Regions.{regions, region_is, of_region}
use Rattle.un_root.proofs.Eaches.{each_places}
use Rattle.un_post.specs.Parts.{only_in, IsPartOf}
use Rattle.un_post.proofs.Blocks.{blocks, region_of}
use Rattle.un_post.proofs.Facts.{Given, definer_is}
use Rattle.un_post.proofs.InParts.{in_parts}
use Rattle.un_post.proofs.Meeting.{joined_each}
use Rattle.un_post.proofs.PartItems.{read_here}
use Rattle.un_post.proofs.Whole.{issues_each, ranges_each}
use Rattle.un_joined.specs.Joined.{AreJoined}
use Rattle.un_joined.proofs.Blocked.{IsBlocked, SeesRead, issue_block, range_block, read_block, issues_whole, ranges_whole, reads_whole}
use Rattle.un_joined.proofs.Blocked.{pairs_whole, shares_whole, spared_whole, packets_whole, frame_whole}

-- ---- the blocks of a model

module _ (e : Ext) (o : Options) (x : List ℕ) (given : Given e o x) where
  abbrev whole : Schedule
  whole = schedule_of (model_of e o) x

  -- the block of an operation
  home : (q : Placed) → Member q (all e o x) → (r : Region) × (slice_get (all_regions e o x given.extended) r.block ≡ Some r)
      × (Member q (region_placed r)) × (r.block < length e.blocks)
  home q m =
      let f = region_of e o x q m in
      let r = f.0 in
      let i = position_of (blocks e o x) r f.1 in
      let is = region_is 0 0 0 e.blocks i.0 r i.2 in
      let number = is.1 in
      let below = length_get e.blocks i.0 r.owner is.0 in
      let same : r.block ≡ i.0 = omega (arith, number) in
      (r, subst (λ (n : ℕ). slice_get (regions 0 0 0 e.blocks) n ≡ Some r) (sym same) i.2, f.2, omega (arith, same, below))

  block_below : (q : Placed) → Member q (all e o x) → q.block < length e.blocks
  block_below q m =
      let h = home q m in
      let same = of_region h.0 q h.2 in
      let lt = h.3 in
      omega (arith, same, lt)

  -- all reads, by operands
  each_read : (P : Read → Type 0) → ((q : Placed) (j : ℕ) (operand : Operand) → Member q (all e o x) → slice_get q.op.operands j ≡ Some operand
      → P (read_of x (issue_at x q) (vars_of q) j operand)) → Each P (reads_of (model_of e o) x)
  each_read P f = subst (Each P) (sym (reads_are x 0 0 0 e.blocks)) (joined_each P (reads_at x) (all e o x)
      (each_of (λ q. Each P (reads_at x q)) (all e o x) (λ q m. by q (issue_at x q).active
      (each_places P (read_of x (issue_at x q) (vars_of q)) q.op.operands (λ j operand there. f q j operand m there)))))
    where
      by : (q : Placed) (b : Bool) → Each P (places_from (read_of x (issue_at x q) (vars_of q)) 0 q.op.operands)
          → Each P (if b then places_from (read_of x (issue_at x q) (vars_of q)) 0 q.op.operands else [])
      by q true h = h
      by q false h = tt

  sees : (q : Placed) (j : ℕ) (operand : Operand) → Member q (all e o x) → slice_get q.op.operands j ≡ Some operand
      → SeesRead (the_ranges e o x) (read_of x (issue_at x q) (vars_of q) j operand)
  sees q j operand m there =
      let h = home q m in
      let n = (read_of x (issue_at x q) (vars_of q) j operand).temp.0 in
      subst (λ (k : ℕ). slice_get (map (only_in k) (the_ranges e o x)) n ≡ slice_get (the_ranges e o x) n) (sym (of_region h.0 q h.2))
      (read_here e o x given h.0 h.1 q j operand h.2 there)

  blocked : IsBlocked (length e.blocks) (schedule_of (model_of e o) x)
  blocked = record {
    issues = each_all _ _ ((issues_each e o x given (λ i. issue_block i < length e.blocks)).1
        (each_of (λ q. issue_block (issue_at x q) < length e.blocks) (all e o x) block_below));
    ranges = each_all _ _ ((ranges_each e o x given (λ h. range_block h < length e.blocks)).1
        (each_of (λ s. range_block (spot_range e o x s) < length e.blocks) (spots e o x)
        (λ s m. block_below s.definer (definer_is e o x given s m).0)));
    reads = each_read (λ v. read_block v < length e.blocks) (λ q j operand m there. block_below q m);
    there = each_read (SeesRead (the_ranges e o x)) sees;
  }

  from_parts : ((k : ℕ) → k < length e.blocks → IsPartOf (model_of e o) k x)
      → (value_of x (model_of e o).flag ≡ 1 → uses_frame (schedule_of (model_of e o) x) ≡ true)
      → IsSchedule (latency_gap e.table) (model_of e o).domains (model_of e o) x (schedule_of (model_of e o) x)
  from_parts parts needed =
      let n = length e.blocks in
      let table = e.table in record {
        in_domains = given.domains;
        zeros = (
          issues_whole n whole blocked IsIdleAtZero (λ k lt. let p = parts k lt in let c = p.zeros in c.0),
          ranges_whole n whole blocked IsZeroRange (λ k lt. let p = parts k lt in let c = p.zeros in c.1),
        );
        choices = reads_whole n whole blocked (λ v g. IsLive g) (λ k lt. let p = parts k lt in p.choices);
        spaces = (
          reads_whole n whole blocked ReadsInSpace (λ k lt. let p = parts k lt in let c = p.spaces in c.0),
          ranges_whole n whole blocked IsGivenInSpace (λ k lt. let p = parts k lt in let c = p.spaces in c.1),
        );
        latencies = (
          issues_whole n whole blocked IsPlaced (λ k lt. let p = parts k lt in let c = p.latencies in c.0),
          reads_whole n whole blocked (LeavesGap (latency_gap e.table)) (λ k lt. let p = parts k lt in let c = p.latencies in c.1),
        );
        memory = pairs_whole n whole blocked memory_distance (λ k lt. let p = parts k lt in p.memory);
        registers = (
          shares_whole n whole blocked (λ k lt. let p = parts k lt in let c = p.registers in c.0),
          spared_whole n whole blocked table.clobbered (λ k lt. let p = parts k lt in let c = p.registers in c.1),
        );
        packets = packets_whole n whole blocked e.table (λ k lt. let p = parts k lt in p.packets);
        homes = reads_whole n whole blocked ReadsHome (λ k lt. let p = parts k lt in p.homes);
        congruences = λ k a at. let p = parts k (length_get e.blocks k a at) in p.congruences a at;
        frame = frame_whole n whole blocked (value_of x (model_of e o).flag) (λ k lt. let p = parts k lt in p.frame) needed;
      }

-- ---- a solution

-- the values are in the domains, since a function has a block
pub is_joined : (m : Model) (s : Solution) → IsModel m → IsExtended m.ext → IsFit m.ext.table → AreOptions m.options
    → IsSolution m s ↔ AreJoined m s
is_joined m s model extended fit options = (
  λ h. let p = in_parts m s model extended fit options h in let f = h.frame in record { parts = p.parts; needed = f.needed },
  λ h.
      let parts : (k : ℕ) → k < length m.ext.blocks → IsPartOf (model_of m.ext m.options) k s.values =
      λ k lt. subst (λ (w : Model). IsPartOf w k s.values) model (h.parts k lt) in
      let good = extended.good in
      let first = parts 0 good.entry in
      let given : Given m.ext m.options s.values =
      record { extended = extended; fit = fit; options = options; domains = first.in_domains } in
      subst (λ (w : Model). IsSchedule (latency_gap m.ext.table) w.domains w s.values (schedule_of w s.values)) (sym model)
      (from_parts m.ext m.options s.values given parts
      (subst (λ (w : Model). value_of s.values w.flag ≡ 1 → uses_frame (schedule_of w s.values) ≡ true) model h.needed)),
)
