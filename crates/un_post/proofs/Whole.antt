-- What holds of all issues, reads and live ranges of a schedule, and what is posted for all operations, by single operations,
-- operands and results.
use Rattle.std.proofs.Common.{ℕ, zero, suc, ◌≡◌, ◌+◌, ◌↔◌, Bool, true, false, List, [], ◌∷◌, ◌++◌, length, map, refl, sym, ap, ◌∙◌, subst}
use Rattle.std.proofs.Common.{arith, All}
use Rattle.std.proofs.lemmas.List.{length-map}
use Rattle.std.specs.Prelude.{Some, slice_get, if◌then◌else◌}
use Rattle.std.specs.Option.{option_map}
use Rattle.un_base.specs.declared.ids.TempId.{TempId}
use Rattle.un_base.specs.declared.ids.VarId.{VarId}
use Rattle.un_ir.specs.declared.extended.Operand.{Operand}
use Rattle.un_ir.specs.declared.extended.Ext.{Ext}
use Rattle.un_model.specs.declared.model.Options.{Options}
use Rattle.un_model.specs.declared.schedule.Issue.{Issue}
use Rattle.un_model.specs.declared.schedule.Read.{Read}
use Rattle.un_model.specs.declared.schedule.LiveRange.{LiveRange}
use Rattle.un_model.specs.Pairs.{places_from, joined}
use Rattle.un_model.specs.Schedules.{issues_of, reads_of, read_of, range_of}
use Rattle.un_model.specs.Variables.{model_of}
use Rattle.un_lists.proofs.Lists.{Each, Member, each_member, each_all, each_of, each_more, each_map, each_of_map, each_append, each_join}
use Rattle.un_lists.proofs.Lists.{member_map, member_at, place_of as position_of, slice_get-map, get_below}
use Rattle.un_model.proofs.Placed.{Placed, vars_of, issue_at, reads_at, Spot, spot, spots_of, temp_vars, issues_are, reads_are, temps_are}
use Rattle.un_model.proofs.PlacedSchedules.{all, spots, spot_range, the_ranges, each_issue, active_spot, spot_here, member_joined}
use Rattle.un_model.proofs.PlacedSchedules.{member_places}
use Rattle.un_kinds.specs.Constraints.{Constraint, AllMet}
use Rattle.un_sites.specs.Places.{Place, Definer, Asked, places_of, definers_of, definers_at, definer_or, registers_at, asked, asked_by}
use Rattle.un_sites.specs.Postings.{over_places, over_operands}
use Rattle.un_root.proofs.Eaches.{all_each, each_places}
use Rattle.un_post.proofs.Meeting.{each_joined, joined_each, places_each, Met, met_all, all_met}
use Rattle.un_post.proofs.Placing.{place_of, definer_at, places_are, definer_among}
use Rattle.un_post.proofs.Facts.{Given, numbered}

-- ---- lists

length-places : {X Y : Type 0} (f : ℕ → X → Y) (i : ℕ) (xs : List X) → length (places_from f i xs) ≡ length xs
length-places f i [] = refl
length-places f i (x ∷ xs) = ap suc (length-places f (i + 1) xs)

same_entries : {X : Type 0} (xs ys : List X) → length xs ≡ length ys → ((k : ℕ) (y : X) → slice_get ys k ≡ Some y → slice_get xs k ≡ Some y)
    → ys ≡ xs
same_entries [] [] n h = refl
same_entries [] (y ∷ ys) n h = absurd (omega arith)
same_entries (x ∷ xs) [] n h = absurd (omega arith)
same_entries (x ∷ xs) (y ∷ ys) n h =
    let first = h zero y refl in
    let here : y ≡ x = cc first in
    let rest = same_entries xs ys (omega arith) (λ k z e. h (suc k) z e) in
    ap (λ z. z ∷ ys) here ∙ ap (λ zs. x ∷ zs) rest

pub met_append : (x : List ℕ) (cs ds : List Constraint) → Met x (cs ++ ds) ↔ (Met x cs × Met x ds)
met_append x cs ds = (λ h. each_append _ cs ds h, λ h. each_join _ cs ds h.0 h.1)

module _ (e : Ext) (o : Options) (x : List ℕ) (given : Given e o x) where
  -- ---- issues

  pub issues_each : (P : Issue → Type 0) → All P (issues_of (model_of e o) x) ↔ Each (λ q. P (issue_at x q)) (all e o x)
  issues_each P = (
    λ h. each_issue e o x P h,
    λ h. subst (All P) (sym (issues_are x 0 0 0 e.blocks)) (all_each P (map (issue_at x) (all e o x))
        (each_map P (issue_at x) (all e o x) h)),
  )

  -- ---- live ranges

  pub ranges_are : the_ranges e o x ≡ map (spot_range e o x) (spots e o x)
  ranges_are = same_entries (map (spot_range e o x) (spots e o x)) (the_ranges e o x) long (λ k h q.
      let s = active_spot e o x (numbered e o x given) k h q in
      slice_get-map (spot_range e o x) (spots e o x) k
      ∙ ap (option_map (spot_range e o x)) (ap (slice_get (spots e o x)) (sym s.2) ∙ spot_here e o x (numbered e o x given) s.0 s.1)
      ∙ ap (λ (r : LiveRange). Some r) s.3)
    where
      long : length (map (spot_range e o x) (spots e o x)) ≡ length (the_ranges e o x)
      long = length-map (spots e o x) (spot_range e o x) ∙ sym
          (length-places (range_of x (issues_of (model_of e o) x) (reads_of (model_of e o) x)) 0 (model_of e o).temps
          ∙ ap length (temps_are 0 0 0 e.blocks) ∙ length-map (spots e o x) temp_vars)

  pub ranges_each : (P : LiveRange → Type 0) → All P (the_ranges e o x) ↔ Each (λ s. P (spot_range e o x s)) (spots e o x)
  ranges_each P = (
    λ h. each_of_map P (spot_range e o x) (spots e o x) (subst (Each P) ranges_are (each_all P (the_ranges e o x) h)),
    λ h. subst (All P) (sym ranges_are) (all_each P (map (spot_range e o x) (spots e o x)) (each_map P (spot_range e o x) (spots e o x) h)),
  )

  -- results by their definers
  pub spots_each : (P : Spot → Type 0) → Each P (spots e o x) ↔ Each
      (λ q. (k : ℕ) (y : TempId) → slice_get q.op.results k ≡ Some y → P (spot q k y)) (all e o x)
  spots_each P = (
    λ h. each_more (λ q. Each P (spots_of q)) (λ q. (k : ℕ) (y : TempId) → slice_get q.op.results k ≡ Some y → P (spot q k y)) (all e o x)
        (λ q g. places_each P (spot q) q.op.results g) (each_joined P spots_of (all e o x) h),
    λ h. joined_each P spots_of (all e o x)
        (each_more (λ q. (k : ℕ) (y : TempId) → slice_get q.op.results k ≡ Some y → P (spot q k y)) (λ q. Each P (spots_of q)) (all e o x)
        (λ q g. each_places P (spot q) q.op.results g) h),
  )

  pub spot_in : (q : Placed) (k : ℕ) (y : TempId) → Member q (all e o x) → slice_get q.op.results k ≡ Some y
      → Member (spot q k y) (spots e o x)
  spot_in q k y m at = member_joined (map spots_of (all e o x)) (spots_of q) (spot q k y) (member_map spots_of (all e o x) q m)
      (member_places (spot q) q.op.results 0 k k y (omega arith) at)

  -- the variables of the registers of an operation's results
  pub result_register : (q : Placed) (k : ℕ) (y : TempId) → Member q (all e o x) → slice_get q.op.results k ≡ Some y
      → slice_get (registers_at (definers_of (model_of e o)) q.op.results) k ≡ Some (definer_at (spot q k y)).reg
  result_register q k y m at =
      slice_get-map (λ (d : Definer). d.reg) (definers_at (definers_of (model_of e o)) q.op.results) k
      ∙ ap (option_map (λ (d : Definer). d.reg)) (definer_among e o x (numbered e o x given) (spot q k y) q.op.results k
      (spot_in q k y m at) m at)

  pub registers_each : (P : VarId → Type 0) (q : Placed) → Member q (all e o x)
      → Each P (registers_at (definers_of (model_of e o)) q.op.results) ↔
      ((k : ℕ) (y : TempId) → slice_get q.op.results k ≡ Some y → P (definer_at (spot q k y)).reg)
  registers_each P q m = (
    λ h k y at. each_member P (registers_at ds q.op.results) (definer_at (spot q k y)).reg h
        (member_at (registers_at ds q.op.results) k (definer_at (spot q k y)).reg (result_register q k y m at)),
    λ h. each_of P (registers_at ds q.op.results) (λ v n.
        let r = position_of (registers_at ds q.op.results) v n in
        let lt = r.1 in
        let l1 = length-map (definers_at ds q.op.results) (λ (d : Definer). d.reg) in
        let l2 = length-map q.op.results (λ (y : TempId). definer_or (slice_get ds y.0)) in
        let y = get_below q.op.results r.0 (omega arith) in
        let same : Some (definer_at (spot q r.0 y.0)).reg ≡ Some v = sym (result_register q r.0 y.0 m y.1) ∙ r.2 in
        subst P (cc same) (h r.0 y.0 y.1)),
  )
    where
      ds : List Definer
      ds = definers_of (model_of e o)

  -- ---- what is posted

  pub posted_each : (f : Place → List Constraint) → AllMet (over_places f (model_of e o)) x ↔ Each (λ q. Met x (f (place_of q))) (all e o x)
  posted_each f = (
    λ h. each_of_map (λ p. Met x (f p)) place_of (all e o x)
        (subst (Each (λ p. Met x (f p))) (places_are 0 0 0 e.blocks) (each_joined _ f (places_of (model_of e o)) (met_all x _ h))),
    λ h. all_met x _ (joined_each _ f (places_of (model_of e o))
        (subst (Each (λ p. Met x (f p))) (sym (places_are 0 0 0 e.blocks)) (each_map (λ p. Met x (f p)) place_of (all e o x) h))),
  )

  pub places_append : (f g : Place → List Constraint)
      → AllMet (over_places (λ p. f p ++ g p) (model_of e o)) x ↔
      (AllMet (over_places f (model_of e o)) x × AllMet (over_places g (model_of e o)) x)
  places_append f g = (
    λ h. let r = (posted_each (λ p. f p ++ g p)).0 h in (
      (posted_each f).1 (each_more _ _ (all e o x) (λ q k. ((met_append x (f (place_of q)) (g (place_of q))).0 k).0) r),
      (posted_each g).1 (each_more _ _ (all e o x) (λ q k. ((met_append x (f (place_of q)) (g (place_of q))).0 k).1) r),
    ),
    λ h. (posted_each (λ p. f p ++ g p)).1 (each_of _ (all e o x) (λ q m. (met_append x (f (place_of q)) (g (place_of q))).1
        (each_member _ (all e o x) q ((posted_each f).0 h.0) m, each_member _ (all e o x) q ((posted_each g).0 h.1) m))),
  )

  -- ---- reads

  -- a clause on reads is what is posted of operands, where it is so of each operand
  abbrev pub Agrees : (Read → Type 0) → (Asked → List Constraint) → Type 0
  Agrees P f = (q : Placed) (j : ℕ) (operand : Operand) → Member q (all e o x) → slice_get q.op.operands j ≡ Some operand
      → ((issue_at x q).active ≡ true → P (read_of x (issue_at x q) (vars_of q) j operand)) ↔ Met x
      (f (asked (definers_of (model_of e o)) (place_of q) j operand))

  pub operands_each : (P : Read → Type 0) (f : Asked → List Constraint) → Agrees P f
      → All P (reads_of (model_of e o) x) ↔ AllMet (over_operands f (model_of e o)) x
  operands_each P f agrees = (
    λ h. let r = each_joined P (reads_at x) (all e o x) (each_all P _ (subst (All P) (reads_are x 0 0 0 e.blocks) h)) in
        (posted_each _).1 (each_of _ (all e o x) (λ q m. joined_each _ f (asked_by ds (place_of q))
        (each_places (λ a. Met x (f a)) (asked ds (place_of q)) q.op.operands (λ j operand at.
        (agrees q j operand m at).0 (λ act. places_each P (read_of x (issue_at x q) (vars_of q)) q.op.operands
        (active_reads q act (each_member _ (all e o x) q r m)) j operand at))))),
    λ h. let r = (posted_each (λ p. joined (map f (asked_by ds p)))).0 h in
        subst (All P) (sym (reads_are x 0 0 0 e.blocks)) (all_each P _
        (joined_each P (reads_at x) (all e o x) (each_of _ (all e o x) (λ q m.
        by_active q (issue_at x q).active (λ act. each_places P (read_of x (issue_at x q) (vars_of q)) q.op.operands (λ j operand at.
        (agrees q j operand m at).1 (places_each (λ a. Met x (f a)) (asked ds (place_of q)) q.op.operands
        (each_joined _ f (asked_by ds (place_of q)) (each_member _ (all e o x) q r m)) j operand at) act)))))),
  )
    where
      ds : List Definer
      ds = definers_of (model_of e o)

      active_reads : (q : Placed) → (issue_at x q).active ≡ true → Each P (reads_at x q)
          → Each P (places_from (read_of x (issue_at x q) (vars_of q)) 0 q.op.operands)
      active_reads q act h = subst (λ (b : Bool). Each P (if b then places_from (read_of x (issue_at x q) (vars_of q)) 0 q.op.operands
          else [])) act h

      by_active : (q : Placed) (b : Bool) → (b ≡ true → Each P (places_from (read_of x (issue_at x q) (vars_of q)) 0 q.op.operands))
          → Each P (if b then places_from (read_of x (issue_at x q) (vars_of q)) 0 q.op.operands else [])
      by_active q true h = h refl
      by_active q false h = tt

  pub operands_append : (f g : Asked → List Constraint)
      → AllMet (over_operands (λ a. f a ++ g a) (model_of e o)) x ↔
      (AllMet (over_operands f (model_of e o)) x × AllMet (over_operands g (model_of e o)) x)
  operands_append f g = (
    λ h. let r = (posted_each (λ p. joined (map (λ a. f a ++ g a) (asked_by ds p)))).0 h in (
      (posted_each _).1 (each_more _ _ (all e o x) (λ q k. joined_each _ f (asked_by ds (place_of q))
          (each_more _ _ (asked_by ds (place_of q)) (λ a c. ((met_append x (f a) (g a)).0 c).0)
          (each_joined _ (λ a. f a ++ g a) (asked_by ds (place_of q)) k))) r),
      (posted_each _).1 (each_more _ _ (all e o x) (λ q k. joined_each _ g (asked_by ds (place_of q))
          (each_more _ _ (asked_by ds (place_of q)) (λ a c. ((met_append x (f a) (g a)).0 c).1)
          (each_joined _ (λ a. f a ++ g a) (asked_by ds (place_of q)) k))) r),
    ),
    λ h. let r = (posted_each (λ p. joined (map f (asked_by ds p)))).0 h.0 in let s =
        (posted_each (λ p. joined (map g (asked_by ds p)))).0 h.1 in
        (posted_each _).1 (each_of _ (all e o x) (λ q m. joined_each _ (λ a. f a ++ g a) (asked_by ds (place_of q))
        (each_of _ (asked_by ds (place_of q)) (λ a n. (met_append x (f a) (g a)).1 (
          each_member _ (asked_by ds (place_of q)) a (each_joined _ f (asked_by ds (place_of q)) (each_member _ (all e o x) q r m)) n,
          each_member _ (asked_by ds (place_of q)) a (each_joined _ g (asked_by ds (place_of q)) (each_member _ (all e o x) q s m)) n,
        ))))),
  )
    where
      ds : List Definer
      ds = definers_of (model_of e o)

  -- a clause on reads, of one operand
  pub read_each : (P : Read → Type 0) → All P (reads_of (model_of e o) x) → (q : Placed) (j : ℕ) (operand : Operand) → Member q (all e o x)
      → slice_get q.op.operands j ≡ Some operand → (issue_at x q).active ≡ true → P (read_of x (issue_at x q) (vars_of q) j operand)
  read_each P h q j operand m at act =
      let r = each_joined P (reads_at x) (all e o x) (each_all P _ (subst (All P) (reads_are x 0 0 0 e.blocks) h)) in
      let here = each_member (λ q. Each P (reads_at x q)) (all e o x) q r m in
      places_each P (read_of x (issue_at x q) (vars_of q)) q.op.operands
      (subst (λ (b : Bool). Each P (if b then places_from (read_of x (issue_at x q) (vars_of q)) 0 q.op.operands else [])) act here) j
      operand at
