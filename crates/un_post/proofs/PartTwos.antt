-- Each assignment of the part of a block meets what is posted of two operands of its operations: what an operation reads is there by the
-- clauses of the block alone.
use Rattle.std.proofs.Common.{ℕ, ◌≡◌, ◌≤◌, Bool, true, List, [], ◌∷◌, map, max, inl, inr, refl, ap, ◌∙◌, subst, arith, eq-eqb}
use Rattle.std.specs.Prelude.{Some, fold, slice_get, ◌==◌, if◌then◌else◌}
use Rattle.un_base.specs.declared.ids.TempId.{TempId}
use Rattle.un_ir.specs.declared.extended.Ext.{Ext}
use Rattle.un_ir.specs.declared.extended.Operand.{Operand}
use Rattle.un_model.specs.declared.model.Options.{Options}
use Rattle.un_model.specs.declared.schedule.Read.{Read}
use Rattle.un_model.specs.declared.schedule.Schedule.{Schedule}
use Rattle.un_model.specs.Pairs.{joined}
use Rattle.un_model.specs.Schedules.{cycle_for, last_read, read_of, schedule_of}
use Rattle.un_model.specs.Solutions.{IsLive, KeepsChoices, KeepsLatencies, KeepsRegisters, KeepsSpaces, LeavesGap, ReadsInSpace, latency_gap}
use Rattle.un_model.specs.Variables.{model_of}
use Rattle.un_lists.proofs.Lists.{Member, each_of, pairwise_two}
use Rattle.un_model.proofs.Placed.{Placed, Region, region_placed, vars_of, issue_at}
use Rattle.un_model.proofs.PlacedSchedules.{spot_range, the_reads, has_read}
use Rattle.un_model.proofs.RegionEnds.{all_regions}
use Rattle.un_model.proofs.Regions.{of_region}
use Rattle.un_sites.specs.Places.{definers_of}
use Rattle.un_sites.specs.Rooms.{twos_in}
use Rattle.un_post.specs.Parts.{block_schedule}
use Rattle.un_post.proofs.BlockTemps.{region_spots}
use Rattle.un_post.proofs.Blocks.{region_places}
use Rattle.un_post.proofs.Facts.{Given, Reading, read_range, read_temp}
use Rattle.un_post.proofs.Meeting.{Met}
use Rattle.un_post.proofs.NoSharing.{Share}
use Rattle.un_post.proofs.PartItems.{own_in, own_ranges, posted_here, read_here, reads_here, spot_own}
use Rattle.un_post.proofs.PartRooms.{shares}
use Rattle.un_post.proofs.Placing.{place_of}
use Rattle.un_post.proofs.TwoOperands.{IsKept, IsThere, twos_of_one}

-- ---- last reads

fold_grows : (t : ℕ) (rs : List Read) (a : ℕ) → a ≤ fold (λ (a : ℕ) (r : Read). max a (cycle_for t r)) a rs
fold_grows t [] a = omega arith
fold_grows t (r ∷ rs) a = let k = fold_grows t rs (max a (cycle_for t r)) in omega (arith, k)

fold_reads : (t : ℕ) (rs : List Read) (a : ℕ) (r : Read) → Member r rs
    → cycle_for t r ≤ fold (λ (a : ℕ) (r : Read). max a (cycle_for t r)) a rs
fold_reads t [] a r m = elim m [ ]
fold_reads t (q ∷ qs) a r (inl e) =
    let k = fold_grows t qs (max a (cycle_for t q)) in
    let s : cycle_for t q ≡ cycle_for t r = ap (cycle_for t) e in omega (arith, k, s)
fold_reads t (q ∷ qs) a r (inr m) = fold_reads t qs (max a (cycle_for t q)) r m

-- no user comes behind the last
read_before : (rs : List Read) (r : Read) → Member r rs → r.cycle ≤ last_read rs r.temp.0
read_before rs r m =
    let upper = fold_reads r.temp.0 rs 0 r m in
    let e : (r.temp.0 == r.temp.0) ≡ true = eq-eqb r.temp.0 r.temp.0 refl in
    let own : cycle_for r.temp.0 r ≡ r.cycle = ap (λ (b : Bool). if b then r.cycle else 0) e in omega (arith, upper, own)

module _ (e : Ext) (o : Options) (x : List ℕ) (given : Given e o x) (r : Region)
    (at : slice_get (all_regions e o x given.extended) r.block ≡ Some r) where
  abbrev part : Schedule
  part = block_schedule r.block (schedule_of (model_of e o) x)

  module _ (choices : KeepsChoices part) (spaces : KeepsSpaces part) (latencies : KeepsLatencies (latency_gap e.table) part)
      (registers : (let t = e.table in KeepsRegisters t.clobbered part)) (q : Placed) (mq : Member q (region_placed r)) where
    there : (j : ℕ) (operand : Operand) (rd : Reading e o x given q j operand) → slice_get q.op.operands j ≡ Some operand
        → (issue_at x q).active ≡ true → IsThere e o x given q j rd.spot
    there j operand rd here act =
        let d = read_of x (issue_at x q) (vars_of q) j operand in
        let ranges = own_ranges e o x given r at in
        let found : slice_get ranges d.temp.0 ≡ Some (spot_range e o x rd.spot) =
        read_here e o x given r at q j operand mq here ∙ read_range e o x given q j operand rd in
        let live = (reads_here e o x given r at (λ (v : Read). IsLive (slice_get ranges v.temp.0))).0 choices q j operand mq here act in
        let space = (reads_here e o x given r at (λ (v : Read). ReadsInSpace v (slice_get ranges v.temp.0))).0 spaces.0 q j operand mq here
        act in
        let gap = (reads_here e o x given r at (λ (v : Read). LeavesGap (latency_gap e.table) v (slice_get ranges v.temp.0))).0 latencies.1
        q j operand mq here act in
        let active = subst IsLive found live in
        let before = read_before (the_reads e o x) d (has_read e o x q j operand (own_in e o x given r at q mq) act here) in
        let same : last_read (the_reads e o x) d.temp.0 ≡ last_read (the_reads e o x) rd.spot.temp.0 =
        ap (λ (t : TempId). last_read (the_reads e o x) t.0) (read_temp e o x given q j operand rd) in
        record {
          active = active;
          space = subst (ReadsInSpace d) found space;
          ready = subst (LeavesGap (latency_gap e.table) d) found gap active;
          last = omega (arith, before, same);
        }

    kept : IsKept e o x given q
    kept = record {
      there = there;
      shares = λ s u ms mu bs bu.
          (let same = of_region r q mq in
          pairwise_two (Share e o x given) (region_spots r) s u ((shares e o x given r at).0 registers.0)
          (spot_own e o x given r at s ms (bs ∙ same)) (spot_own e o x given r at u mu (bu ∙ same)));
    }

  pub twos_met : KeepsChoices part → KeepsSpaces part → KeepsLatencies (latency_gap e.table) part
      → (let t = e.table in KeepsRegisters t.clobbered part)
      → Met x (joined (map (twos_in o.slots (definers_of (model_of e o))) (region_places r)))
  twos_met choices spaces latencies registers =
      let ds = definers_of (model_of e o) in
      (posted_here e o x given r at (twos_in o.slots ds)).1 (each_of (λ q. Met x (twos_in o.slots ds (place_of q))) (region_placed r)
      (λ q mq. twos_of_one e o x given q (own_in e o x given r at q mq) (kept choices spaces latencies registers q mq)))
