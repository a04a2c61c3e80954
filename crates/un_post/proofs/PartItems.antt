-- The issues, the reads and the live ranges of one block of a model, and what is posted for its operations.
use Rattle.std.proofs.Common.{ℕ, ◌≡◌, ◌↔◌, Bool, true, false, List, [], ◌∷◌, map, filter, refl, sym, ap, ◌∙◌, subst, arith, All}
use Rattle.std.proofs.Common.{eq-eqb}
use Rattle.std.specs.Prelude.{Option, Some, slice_get, ◌==◌, if◌then◌else◌}
use Rattle.std.specs.Option.{option_map}
use Rattle.std.proofs.lemmas.Bool.Decides.{nat_tests}
use Rattle.un_base.specs.declared.ids.TempId.{TempId}
use Rattle.un_ir.specs.declared.extended.Operand.{Operand}
use Rattle.un_ir.specs.declared.extended.Ext.{Ext}
use Rattle.un_model.specs.declared.model.Options.{Options}
use Rattle.un_model.specs.declared.schedule.Issue.{Issue}
use Rattle.un_model.specs.declared.schedule.Read.{Read}
use Rattle.un_model.specs.declared.schedule.LiveRange.{LiveRange}
use Rattle.un_model.specs.Pairs.{places_from, joined}
use Rattle.un_model.specs.Schedules.{issues_of, reads_of, read_of}
use Rattle.un_model.specs.Variables.{model_of}
use Rattle.un_lists.proofs.Lists.{Each, Member, each_member, each_all, each_of, each_map, each_of_map, member_at, member_filter}
use Rattle.un_lists.proofs.Lists.{member_of_filter, slice_get-map}
use Rattle.un_model.proofs.Placed.{Placed, Region, region_placed, vars_of, issue_at, issues_are, reads_at, reads_are, Spot, spot, spots_of}
use Rattle.un_model.proofs.PlacedSchedules.{all, spots, spot_range, the_ranges, joined_member}
use Rattle.un_model.proofs.RegionEnds.{all_regions, filter_one}
use Rattle.un_model.proofs.Regions.{placed_regions, of_region, region_is}
use Rattle.un_kinds.specs.Constraints.{Constraint}
use Rattle.un_sites.specs.Places.{Place, Definer, Asked, definers_of, asked, asked_by}
use Rattle.un_root.proofs.Eaches.{all_each, each_places}
use Rattle.un_post.specs.Parts.{absent, only_in}
use Rattle.un_post.proofs.BlockTemps.{region_spots, spots_by_blocks, spot_all, spot_block}
use Rattle.un_post.proofs.Blocks.{blocks, region_places, in_all, one_region, stands_in}
use Rattle.un_post.proofs.Facts.{Given, reading, read_range}
use Rattle.un_post.proofs.Meeting.{each_joined, joined_each, places_each, Met}
use Rattle.un_post.proofs.Placing.{place_of}
use Rattle.un_post.proofs.Whole.{ranges_each, read_each}

-- ---- lists

pub each_kept : {X : Type 0} (P : X → Type 0) (t : X → Bool) (xs : List X) → Each P (filter t xs) ↔ Each (λ x. t x ≡ true → P x) xs
each_kept P t xs = (
  λ h. each_of (λ x. t x ≡ true → P x) xs (λ x m e. each_member P (filter t xs) x h (member_filter t xs x m e)),
  λ h. each_of P (filter t xs) (λ x m. let f = member_of_filter t xs x m in each_member (λ x. t x ≡ true → P x) xs x h f.0 f.1),
)

pub filter_mapped : {X Y : Type 0} (t : Y → Bool) (f : X → Y) (xs : List X) → filter t (map f xs) ≡ map f (filter (λ x. t (f x)) xs)
filter_mapped t f [] = refl
filter_mapped t f (x ∷ xs) = by (t (f x)) refl (filter_mapped t f xs)
  where
    by : (b : Bool) → t (f x) ≡ b → filter t (map f xs) ≡ map f (filter (λ x. t (f x)) xs)
        → filter t (f x ∷ map f xs) ≡ map f (filter (λ x. t (f x)) (x ∷ xs))
    by true e h = ap (λ (b : Bool). if b then f x ∷ filter t (map f xs) else filter t (map f xs)) e ∙ ap (λ ys. f x ∷ ys) h
        ∙ sym (ap (λ (b : Bool). map f (if b then x ∷ filter (λ x. t (f x)) xs else filter (λ x. t (f x)) xs)) e)
    by false e h = ap (λ (b : Bool). if b then f x ∷ filter t (map f xs) else filter t (map f xs)) e ∙ h
        ∙ sym (ap (λ (b : Bool). map f (if b then x ∷ filter (λ x. t (f x)) xs else filter (λ x. t (f x)) xs)) e)

pub all_pass : {X : Type 0} (t : X → Bool) (xs : List X) → Each (λ x. t x ≡ true) xs → filter t xs ≡ xs
all_pass t [] h = refl
all_pass t (x ∷ xs) h = ap (λ (b : Bool). if b then x ∷ filter t xs else filter t xs) h.0 ∙ ap (λ ys. x ∷ ys) (all_pass t xs h.1)

pub none_pass : {X : Type 0} (t : X → Bool) (xs : List X) → Each (λ x. t x ≡ false) xs → filter t xs ≡ []
none_pass t [] h = refl
none_pass t (x ∷ xs) h = ap (λ (b : Bool). if b then x ∷ filter t xs else filter t xs) h.0 ∙ none_pass t xs h.1

pub equal_of : (a b : ℕ) → (a == b) ≡ true → a ≡ b
equal_of a b e = grind (arith, nat_tests, e)

pub unequal_of : (a b : ℕ) → (a ≡ b → ⊥) → (a == b) ≡ false
unequal_of a b other = by (a == b) refl
  where
    by : (t : Bool) → (a == b) ≡ t → (a == b) ≡ false
    by false e = e
    by true e = absurd (other (equal_of a b e))

-- ---- one block

module _ (e : Ext) (o : Options) (x : List ℕ) (given : Given e o x) (r : Region)
    (at : slice_get (all_regions e o x given.extended) r.block ≡ Some r) where
  pub here : Member r (blocks e o x)
  here = member_at (blocks e o x) r.block r at

  pub own_block : (q : Placed) → Member q (region_placed r) → (q.block == r.block) ≡ true
  own_block q m = eq-eqb q.block r.block (of_region r q m)

  pub own_in : (q : Placed) → Member q (region_placed r) → Member q (all e o x)
  own_in q m = in_all e o x r q here m

  pub own_of : (q : Placed) → Member q (all e o x) → (q.block == r.block) ≡ true → Member q (region_placed r)
  own_of q m same = stands_in e o x r q here m (equal_of q.block r.block same)

  -- ---- issues

  own_placed : filter (λ (q : Placed). q.block == r.block) (all e o x) ≡ region_placed r
  own_placed =
      let t = λ (q : Placed). q.block == r.block in
      ap (filter t) (placed_regions 0 0 0 e.blocks)
      ∙ filter_one t region_placed (blocks e o x) r.block r at (λ i s there other. none_pass t (region_placed s)
      (each_of (λ q. t q ≡ false) (region_placed s) (λ q m. unequal_of q.block r.block (λ same.
      let a = of_region s q m in
      let b = (region_is 0 0 0 e.blocks i s there).1 in
      other (omega (arith, a, b, same))))))
      ∙ all_pass t (region_placed r) (each_of (λ q. t q ≡ true) (region_placed r) own_block)

  -- the issues of the block
  pub own_issues : filter (λ (i : Issue). i.block.0 == r.block) (issues_of (model_of e o) x) ≡ map (issue_at x) (region_placed r)
  own_issues =
      let t = λ (i : Issue). i.block.0 == r.block in
      ap (filter t) (issues_are x 0 0 0 e.blocks) ∙ filter_mapped t (issue_at x) (all e o x) ∙ ap (map (issue_at x)) own_placed

  pub issues_here : (P : Issue → Type 0) → All P (filter (λ (i : Issue). i.block.0 == r.block) (issues_of (model_of e o) x))
      ↔ Each (λ q. P (issue_at x q)) (region_placed r)
  issues_here P = (
    λ h. each_of_map P (issue_at x) (region_placed r) (subst (Each P) own_issues (each_all P _ h)),
    λ h. subst (All P) (sym own_issues) (all_each P (map (issue_at x) (region_placed r)) (each_map P (issue_at x) (region_placed r) h)),
  )

  -- ---- live ranges

  -- a temporary of the block is as it is
  pub own_range : (s : Spot) → (let q = s.definer in q.block ≡ r.block) → only_in r.block (spot_range e o x s) ≡ spot_range e o x s
  own_range s same = let q = s.definer in
      ap (λ (b : Bool). if b then spot_range e o x s else absent (spot_range e o x s)) (eq-eqb q.block r.block same)

  pub spot_own : (s : Spot) → Member s (spots e o x) → (let q = s.definer in q.block ≡ r.block) → Member s (region_spots r)
  spot_own s m same =
      let f = joined_member region_spots (blocks e o x) s (subst (Member s) (spots_by_blocks e o x) m) in
      subst (λ t. Member s (region_spots t)) (one_region e o x f.0 r f.1 here (sym (spot_block e o x f.0 s f.2) ∙ same)) f.2

  abbrev pub own_ranges : List LiveRange
  own_ranges = map (only_in r.block) (the_ranges e o x)

  pub ranges_here : (P : LiveRange → Type 0) → ((h : LiveRange) → P (absent h))
      → All P own_ranges ↔ Each (λ s. P (spot_range e o x s)) (region_spots r)
  ranges_here P none = (
    λ h.
        let each = (ranges_each e o x given (λ g. P (only_in r.block g))).0 (all_each (λ g. P (only_in r.block g)) (the_ranges e o x)
        (each_of_map P (only_in r.block) (the_ranges e o x) (each_all P own_ranges h))) in
        each_of (λ s. P (spot_range e o x s)) (region_spots r) (λ s m. subst P (own_range s (spot_block e o x r s m))
        (each_member (λ s. P (only_in r.block (spot_range e o x s))) (spots e o x) s each (spot_all e o x r s here m))),
    λ h.
        let each = (ranges_each e o x given (λ g. P (only_in r.block g))).1
        (each_of (λ s. P (only_in r.block (spot_range e o x s))) (spots e o x) (λ s m. by s m (let q = s.definer in q.block == r.block) refl h))
        in
        all_each P own_ranges (each_map P (only_in r.block) (the_ranges e o x)
        (each_all (λ g. P (only_in r.block g)) (the_ranges e o x) each)),
  )
    where
      by : (s : Spot) → Member s (spots e o x) → (b : Bool) → (let q = s.definer in (q.block == r.block) ≡ b)
          → Each (λ s. P (spot_range e o x s)) (region_spots r) → P (only_in r.block (spot_range e o x s))
      by s m true is h =
          let q = s.definer in
          let same = equal_of q.block r.block is in
          subst P (sym (own_range s same)) (each_member (λ s. P (spot_range e o x s)) (region_spots r) s h (spot_own s m same))
      by s m false is h =
          let h' = spot_range e o x s in
          subst P (sym (ap (λ (b : Bool). if b then h' else absent h') is)) (none h')

  -- results by their definers
  pub results_here : (P : Spot → Type 0) → Each P (region_spots r)
      ↔ Each (λ q. (k : ℕ) (y : TempId) → slice_get q.op.results k ≡ Some y → P (spot q k y)) (region_placed r)
  results_here P = (
    λ h. let each = each_joined P spots_of (region_placed r) h in
        each_of (λ q. (k : ℕ) (y : TempId) → slice_get q.op.results k ≡ Some y → P (spot q k y)) (region_placed r)
        (λ q m. places_each P (spot q) q.op.results (each_member (λ q. Each P (spots_of q)) (region_placed r) q each m)),
    λ h. joined_each P spots_of (region_placed r) (each_of (λ q. Each P (spots_of q)) (region_placed r)
        (λ q m. each_places P (spot q) q.op.results (each_member (λ q. (k : ℕ) (y : TempId) → slice_get q.op.results k ≡ Some y
        → P (spot q k y)) (region_placed r) q h m))),
  )

  -- ---- reads

  abbrev pub own_reads : List Read
  own_reads = filter (λ (v : Read). v.block.0 == r.block) (reads_of (model_of e o) x)

  -- all reads of the function, by operands
  each_read : (P : Read → Type 0) → ((q : Placed) (j : ℕ) (operand : Operand) → Member q (all e o x) → slice_get q.op.operands j ≡ Some operand
      → (issue_at x q).active ≡ true → P (read_of x (issue_at x q) (vars_of q) j operand)) → All P (reads_of (model_of e o) x)
  each_read P f = subst (All P) (sym (reads_are x 0 0 0 e.blocks)) (all_each P _ (joined_each P (reads_at x) (all e o x)
      (each_of (λ q. Each P (reads_at x q)) (all e o x) (λ q m. by q (issue_at x q).active (λ act.
      each_places P (read_of x (issue_at x q) (vars_of q)) q.op.operands (λ j operand there. f q j operand m there act))))))
    where
      by : (q : Placed) (b : Bool) → (b ≡ true → Each P (places_from (read_of x (issue_at x q) (vars_of q)) 0 q.op.operands))
          → Each P (if b then places_from (read_of x (issue_at x q) (vars_of q)) 0 q.op.operands else [])
      by q true h = h refl
      by q false h = tt

  abbrev ReadsHere : (Read → Type 0) → Type 0
  ReadsHere P = (q : Placed) (j : ℕ) (operand : Operand) → Member q (region_placed r) → slice_get q.op.operands j ≡ Some operand
      → (issue_at x q).active ≡ true → P (read_of x (issue_at x q) (vars_of q) j operand)

  pub reads_here : (P : Read → Type 0) → All P own_reads ↔ ReadsHere P
  reads_here P =
      let t = λ (v : Read). v.block.0 == r.block in
      let reads = reads_of (model_of e o) x in
      let Q : Read → Type 0 = λ v. t v ≡ true → P v in
      let kept = each_kept P t reads in (
        λ h q j operand m there act. read_each e o x given Q (all_each Q reads (kept.0 (each_all P own_reads h))) q j operand (own_in q m)
            there act (own_block q m),
        λ f. all_each P own_reads (kept.1 (each_all Q reads (each_read Q (λ q j operand m there act same.
            f q j operand (own_of q m same) there act)))),
      )

  -- what is read in the block is there
  pub read_here : (q : Placed) (j : ℕ) (operand : Operand) → Member q (region_placed r) → slice_get q.op.operands j ≡ Some operand
      → slice_get own_ranges (read_of x (issue_at x q) (vars_of q) j operand).temp.0
      ≡ slice_get (the_ranges e o x) (read_of x (issue_at x q) (vars_of q) j operand).temp.0
  read_here q j operand m there =
      let d = reading e o x given q j operand (own_in q m) there in
      let n = (read_of x (issue_at x q) (vars_of q) j operand).temp.0 in
      let found : slice_get (the_ranges e o x) n ≡ Some (spot_range e o x d.spot) = read_range e o x given q j operand d in
      slice_get-map (only_in r.block) (the_ranges e o x) n ∙ ap (option_map (only_in r.block)) found
      ∙ ap (λ (h : LiveRange). Some h) (own_range d.spot (d.block ∙ of_region r q m)) ∙ sym found

  -- ---- what is posted for its operations

  pub posted_here : (f : Place → List Constraint) → Met x (joined (map f (region_places r))) ↔ Each (λ q. Met x (f (place_of q))) (region_placed r)
  posted_here f = (
    λ h. each_of_map (λ p. Met x (f p)) place_of (region_placed r) (each_joined _ f (region_places r) h),
    λ h. joined_each _ f (region_places r) (each_map (λ p. Met x (f p)) place_of (region_placed r) h),
  )

  abbrev ds : List Definer
  ds = definers_of (model_of e o)

  -- one operand after another
  abbrev pub of_operands : (Asked → List Constraint) → Place → List Constraint
  of_operands f p = joined (map f (asked_by (definers_of (model_of e o)) p))

  -- a clause on reads is what is posted of operands, where it is so of each operand of the block
  abbrev pub AgreesHere : (Read → Option LiveRange → Type 0) → (Asked → List Constraint) → Type 0
  AgreesHere P f = (q : Placed) (j : ℕ) (operand : Operand) → Member q (region_placed r) → slice_get q.op.operands j ≡ Some operand
      → ((issue_at x q).active ≡ true → P (read_of x (issue_at x q) (vars_of q) j operand)
      (slice_get (the_ranges e o x) (read_of x (issue_at x q) (vars_of q) j operand).temp.0))
      ↔ Met x (f (asked (definers_of (model_of e o)) (place_of q) j operand))

  pub operands_here : (P : Read → Option LiveRange → Type 0) (f : Asked → List Constraint) → AgreesHere P f
      → All (λ (v : Read). P v (slice_get own_ranges v.temp.0)) own_reads ↔ Met x (joined (map (of_operands f) (region_places r)))
  operands_here P f agree =
      let Q : Read → Type 0 = λ v. P v (slice_get own_ranges v.temp.0) in
      let reads = reads_here Q in
      let posted = posted_here (of_operands f) in (
        λ h. posted.1 (each_of (λ q. Met x (of_operands f (place_of q))) (region_placed r) (λ q m.
            joined_each _ f (asked_by ds (place_of q)) (each_places (λ a. Met x (f a)) (asked ds (place_of q)) q.op.operands
            (λ j operand there. (agree q j operand m there).0 (λ act. subst (P (read_of x (issue_at x q) (vars_of q) j operand))
            (read_here q j operand m there) (reads.0 h q j operand m there act)))))),
        λ h. reads.1 (λ q j operand m there act. subst (P (read_of x (issue_at x q) (vars_of q) j operand))
            (sym (read_here q j operand m there)) ((agree q j operand m there).1
            (places_each (λ a. Met x (f a)) (asked ds (place_of q)) q.op.operands (each_joined _ f (asked_by ds (place_of q))
            (each_member (λ q. Met x (of_operands f (place_of q))) (region_placed r) q (posted.0 h) m)) j operand there) act)),
      )
