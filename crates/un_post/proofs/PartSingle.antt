-- What is posted for the operations of one block is met exactly where the clauses of its part hold that speak of single operations.
use Rattle.std.proofs.Common.{ℕ, ◌≡◌, ◌↔◌, List, ◌++◌, map, inr, refl, subst}
use Rattle.std.specs.Prelude.{Some, slice_get}
use Rattle.un_ir.specs.declared.extended.Ext.{Ext}
use Rattle.un_model.specs.declared.model.Options.{Options}
use Rattle.un_model.specs.declared.schedule.Schedule.{Schedule}
use Rattle.un_model.specs.Pairs.{joined}
use Rattle.un_model.specs.Schedules.{schedule_of}
use Rattle.un_model.specs.Solutions.{KeepsZeros, KeepsChoices, KeepsSpaces, KeepsLatencies, KeepsHomes, IsIdleAtZero, IsZeroRange}
use Rattle.un_model.specs.Solutions.{IsLive, ReadsInSpace, IsGivenInSpace, IsPlaced, LeavesGap, ReadsHome, latency_gap}
use Rattle.un_model.specs.Variables.{model_of}
use Rattle.un_lists.proofs.Lists.{each_of, each_member}
use Rattle.un_model.proofs.Placed.{Region, region_placed}
use Rattle.un_model.proofs.PlacedSchedules.{spot_range}
use Rattle.un_model.proofs.RegionEnds.{all_regions}
use Rattle.un_kinds.specs.Constraints.{Constraint}
use Rattle.un_sites.specs.Places.{Place, Definer, Asked, definers_of, asked_by}
use Rattle.un_sites.specs.Postings.{of_place, of_operand, zeros_of, issues_in, chosen_of, waits_of, spaces_of, homes_of, results_in}
use Rattle.un_post.specs.Parts.{block_schedule}
use Rattle.un_post.proofs.Blocks.{region_places}
use Rattle.un_post.proofs.Choices.{agree as choices_agree}
use Rattle.un_post.proofs.Facts.{Given}
use Rattle.un_post.proofs.Homes.{agree as homes_agree}
use Rattle.un_post.proofs.Latencies.{placed_at, waits_at}
use Rattle.un_post.proofs.Meeting.{Met, each_joined, joined_each}
use Rattle.un_post.proofs.OfPlaces.{KeepsSingly}
use Rattle.un_post.proofs.PartItems.{own_in, issues_here, ranges_here, results_here, reads_here, read_here, own_ranges, posted_here}
use Rattle.un_post.proofs.PartItems.{of_operands, operands_here}
use Rattle.un_post.proofs.Spaces.{agree as spaces_agree, results_by}
use Rattle.un_post.proofs.Tests.{iff_then, iff_back, both}
use Rattle.un_post.proofs.Whole.{met_append}
use Rattle.un_post.proofs.Zeros.{zeros_at}

-- ---- two kinds of what is posted

pub joined_both : {A : Type 0} (x : List ℕ) (f g : A → List Constraint) (xs : List A)
    → Met x (joined (map (λ a. f a ++ g a) xs)) ↔ (Met x (joined (map f xs)) × Met x (joined (map g xs)))
joined_both x f g xs = (
  λ h. let each = each_joined _ (λ a. f a ++ g a) xs h in (
    joined_each _ f xs (each_of (λ a. Met x (f a)) xs (λ a m.
        ((met_append x (f a) (g a)).0 (each_member (λ a. Met x (f a ++ g a)) xs a each m)).0)),
    joined_each _ g xs (each_of (λ a. Met x (g a)) xs (λ a m.
        ((met_append x (f a) (g a)).0 (each_member (λ a. Met x (f a ++ g a)) xs a each m)).1)),
  ),
  λ h. let a = each_joined _ f xs h.0 in let b = each_joined _ g xs h.1 in
      joined_each _ (λ a. f a ++ g a) xs (each_of (λ a. Met x (f a ++ g a)) xs (λ y m. (met_append x (f y) (g y)).1
      (each_member (λ a. Met x (f a)) xs y a m, each_member (λ a. Met x (g a)) xs y b m))),
)

pub joined_alike : {A : Type 0} (x : List ℕ) (f g : A → List Constraint) (xs : List A) → ((a : A) → Met x (f a) ↔ Met x (g a))
    → Met x (joined (map f xs)) ↔ Met x (joined (map g xs))
joined_alike x f g xs same = (
  λ h. let each = each_joined _ f xs h in
      joined_each _ g xs (each_of (λ a. Met x (g a)) xs (λ a m. (same a).0 (each_member (λ a. Met x (f a)) xs a each m))),
  λ h. let each = each_joined _ g xs h in
      joined_each _ f xs (each_of (λ a. Met x (f a)) xs (λ a m. (same a).1 (each_member (λ a. Met x (g a)) xs a each m))),
)

module _ (e : Ext) (o : Options) (x : List ℕ) (given : Given e o x) (r : Region)
    (at : slice_get (all_regions e o x given.extended) r.block ≡ Some r) where
  abbrev part : Schedule
  part = block_schedule r.block (schedule_of (model_of e o) x)

  abbrev ds : List Definer
  ds = definers_of (model_of e o)

  abbrev MetHere : (Place → List Constraint) → Type 0
  MetHere f = Met x (joined (map f (region_places r)))

  abbrev MetOperands : (Asked → List Constraint) → Type 0
  MetOperands f = MetHere (of_operands e o x given r at f)

  -- ---- clause by clause

  zeros : KeepsZeros part ↔ MetHere (zeros_of ds)
  zeros =
      let i = issues_here e o x given r at IsIdleAtZero in
      let g = ranges_here e o x given r at IsZeroRange (λ h. inr refl) in
      let s = results_here e o x given r at (λ s. IsZeroRange (spot_range e o x s)) in
      let p = posted_here e o x given r at (zeros_of ds) in
      let qs = region_placed r in (
        λ h.
            let a = i.0 h.0 in
            let b = s.0 (g.0 h.1) in
            p.1 (each_of _ qs (λ q m. (zeros_at e o x given q (own_in e o x given r at q m)).0
            (each_member _ qs q a m, each_member _ qs q b m))),
        λ h.
            let c = p.0 h in (
              i.1 (each_of _ qs (λ q m. ((zeros_at e o x given q (own_in e o x given r at q m)).1 (each_member _ qs q c m)).0)),
              g.1 (s.1 (each_of _ qs (λ q m. ((zeros_at e o x given q (own_in e o x given r at q m)).1 (each_member _ qs q c m)).1))),
            ),
      )

  choices : KeepsChoices part ↔ MetOperands chosen_of
  choices = operands_here e o x given r at (λ v h. IsLive h) chosen_of
      (λ q j operand m there. choices_agree e o x given q j operand (own_in e o x given r at q m) there)

  spaces : KeepsSpaces part ↔ (MetOperands (spaces_of o.slots) × MetHere (results_in o.slots ds))
  spaces =
      let g = ranges_here e o x given r at IsGivenInSpace (λ h. tt) in
      let s = results_here e o x given r at (λ s. IsGivenInSpace (spot_range e o x s)) in
      let p = posted_here e o x given r at (results_in o.slots ds) in
      let qs = region_placed r in
      both (operands_here e o x given r at ReadsInSpace (spaces_of o.slots)
      (λ q j operand m there. spaces_agree e o x given q j operand (own_in e o x given r at q m) there)) (
        λ h.
            let a = s.0 (g.0 h) in
            p.1 (each_of _ qs (λ q m. (results_by e o x given q (own_in e o x given r at q m)).0 (each_member _ qs q a m))),
        λ h.
            let c = p.0 h in
            g.1 (s.1 (each_of _ qs (λ q m. (results_by e o x given q (own_in e o x given r at q m)).1 (each_member _ qs q c m)))),
      )

  latencies : KeepsChoices part → KeepsLatencies (latency_gap e.table) part ↔ (MetHere issues_in × MetOperands (waits_of e.table))
  latencies chosen =
      let i = issues_here e o x given r at IsPlaced in
      let p = posted_here e o x given r at issues_in in
      let live = (reads_here e o x given r at (λ v. IsLive (slice_get (own_ranges e o x given r at) v.temp.0))).0 chosen in
      let qs = region_placed r in
      both (
        λ h. let a = i.0 h in p.1 (each_of _ qs (λ q m. (placed_at e o x given q (own_in e o x given r at q m)).0 (each_member _ qs q a m))),
        λ h. let c = p.0 h in i.1 (each_of _ qs (λ q m. (placed_at e o x given q (own_in e o x given r at q m)).1 (each_member _ qs q c m))),
      ) (operands_here e o x given r at (LeavesGap (latency_gap e.table)) (waits_of e.table) (λ q j operand m there.
      waits_at e o x given q j operand (own_in e o x given r at q m) there (λ act.
      subst IsLive (read_here e o x given r at q j operand m there) (live q j operand m there act))))

  homes : KeepsHomes part ↔ MetOperands homes_of
  homes = operands_here e o x given r at ReadsHome homes_of
      (λ q j operand m there. homes_agree e o x given q j operand (own_in e o x given r at q m) there)

  -- ---- all of an operation

  -- what is posted of operands, by two kinds
  operands_both : (f g : Asked → List Constraint) → MetOperands (λ a. f a ++ g a) ↔ (MetOperands f × MetOperands g)
  operands_both f g =
      let own = of_operands e o x given r at in
      iff_then (joined_alike x (own (λ a. f a ++ g a)) (λ p. own f p ++ own g p) (region_places r) (λ p.
      iff_then (joined_both x f g (asked_by ds p)) (iff_back (met_append x (own f p) (own g p)))))
      (joined_both x (own f) (own g) (region_places r))

  operands : MetOperands (of_operand e.table o.slots) ↔ (MetOperands chosen_of × MetOperands (waits_of e.table)
      × MetOperands (spaces_of o.slots) × MetOperands homes_of)
  operands =
      let a = operands_both chosen_of (λ (u : Asked). waits_of e.table u ++ (spaces_of o.slots u ++ homes_of u)) in
      let b = operands_both (waits_of e.table) (λ (u : Asked). spaces_of o.slots u ++ homes_of u) in
      let c = operands_both (spaces_of o.slots) homes_of in (
        λ h. let p = a.0 h in let q = b.0 p.1 in let s = c.0 q.1 in (p.0, q.0, s.0, s.1),
        λ h. a.1 (h.0, b.1 (h.1, c.1 (h.2, h.3))),
      )

  pub singly : KeepsSingly e part ↔ MetHere (of_place e.table o.slots ds)
  singly =
      let own = of_operands e o x given r at (of_operand e.table o.slots) in
      let ps = region_places r in
      let a = joined_both x (zeros_of ds) (λ (p : Place). issues_in p ++ (own p ++ results_in o.slots ds p)) ps in
      let b = joined_both x issues_in (λ (p : Place). own p ++ results_in o.slots ds p) ps in
      let c = joined_both x own (results_in o.slots ds) ps in (
        λ h.
            let lat = (latencies h.choices).0 h.latencies in
            let sp = spaces.0 h.spaces in
            a.1 (zeros.0 h.zeros, b.1 (lat.0, c.1 (operands.1 (choices.0 h.choices, lat.1, sp.0, homes.0 h.homes), sp.1))),
        λ h.
            let p = a.0 h in let q = b.0 p.1 in let s = c.0 q.1 in
            let u = operands.0 s.0 in
            let chosen = choices.1 u.0 in
            record {
              zeros = zeros.1 p.0;
              choices = chosen;
              spaces = spaces.1 (u.2, s.1);
              latencies = (latencies chosen).1 (q.0, u.1);
              homes =
                  homes.1 u.3;
            },
      )
