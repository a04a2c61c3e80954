-- What the clauses of a solution say of each operation, of each operand and of each temporary.
use Rattle.std.proofs.Common.{ℕ, zero, suc, ◌≡◌, ◌<◌, ◌≤◌, ◌+◌, ◌-◌, max, Bool, true, false, List, [], ◌∷◌, ◌++◌, length, map, ◌⊎◌, inl}
use Rattle.std.proofs.Common.{inr, ⊎_elim, refl, sym, ap, ◌∙◌, subst, arith, All, AllPairs}
use Rattle.std.specs.Prelude.{Option, Some, None, slice_get, slice_index_or, ◌==◌, fold, if◌then◌else◌}
use Rattle.std.specs.List.{range_with_len}
use Rattle.std.specs.Option.{option_map}
use Rattle.std.proofs.lemmas.Bool.{eq-eqb}
use Rattle.un_base.specs.declared.ids.TempId.{TempId}
use Rattle.un_ir.specs.declared.extended.Operand.{Operand}
use Rattle.un_ir.specs.declared.extended.Ext.{Ext}
use Rattle.un_ir.specs.Extended.{all_results, temp}
use Rattle.un_model.specs.declared.model.Options.{Options}
use Rattle.un_model.specs.declared.model.Model.{Model}
use Rattle.un_model.specs.declared.schedule.Issue.{Issue}
use Rattle.un_model.specs.declared.schedule.Read.{Read}
use Rattle.un_model.specs.declared.schedule.LiveRange.{LiveRange}
use Rattle.un_model.specs.Cost.{value_of}
use Rattle.un_model.specs.Instructions.{space_read, space_given}
use Rattle.un_model.specs.Pairs.{places_from, joined}
use Rattle.un_model.specs.Schedules.{issues_of, reads_of, read_of, range_by, range_of, ranges_of, last_read, cycle_for, schedule_of}
use Rattle.un_model.specs.Solutions.{IsSchedule, IsLive, InSpace, ReadsInSpace, LeavesGap, latency_gap, HasHome, ReadsHome, IsGivenInSpace}
use Rattle.un_model.specs.Variables.{model_of, var_at, register_place}
use Rattle.un_lists.proofs.Lists.{Each, Pairwise, Member, each_member, each_all, each_of_map, pairwise_all, pairwise_of_map, member_map}
use Rattle.un_lists.proofs.Lists.{member_append_left, member_append_right, place_of, member_at, slice_get-map, get_below, index_get}
use Rattle.un_lists.proofs.Lists.{length_get}
use Rattle.un_model.proofs.Placed.{Placed, blocks_placed, vars_of, issue_at, reads_at, Spot, spot, spots_of, all_spots, temp_vars}
use Rattle.un_model.proofs.Placed.{issues_are, reads_are, temps_are, results_are, all_count, at_number}
use Rattle.un_model.proofs.OpDomains.{get_places}

-- ---- joined lists

pub member_joined : {A : Type 0} (xss : List (List A)) (xs : List A) (x : A) → Member xs xss → Member x xs → Member x (joined xss)
member_joined [] xs x m n = elim m [ ]
member_joined (ys ∷ yss) xs x (inl e) n = member_append_left ys (joined yss) x (subst (Member x) (sym e) n)
member_joined (ys ∷ yss) xs x (inr m) n = member_append_right ys (joined yss) x (member_joined yss xs x m n)

pub split_member : {A : Type 0} (xs ys : List A) (x : A) → Member x (xs ++ ys) → Member x xs ⊎ Member x ys
split_member [] ys x m = inr m
split_member (z ∷ zs) ys x (inl e) = inl (inl e)
split_member (z ∷ zs) ys x (inr m) = ⊎_elim (λ (k : Member x zs). inl (inr k)) (λ (k : Member x ys). inr k) (split_member zs ys x m)

pub joined_member : {A B : Type 0} (f : A → List B) (xs : List A) (y : B) → Member y (joined (map f xs)) → (x : A) × (Member x xs)
    × (Member y (f x))
joined_member f [] y m = elim m [ ]
joined_member f (x ∷ xs) y m = ⊎_elim (λ (k : Member y (f x)). (x, inl refl, k))
    (λ (k : Member y (joined (map f xs))). let r = joined_member f xs y k in (r.0, inr r.1, r.2))
    (split_member (f x) (joined (map f xs)) y m)

pub member_places : {A B : Type 0} (f : ℕ → A → B) (xs : List A) (i k n : ℕ) (x : A) → n ≡ i + k → slice_get xs k ≡ Some x
    → Member (f n x) (places_from f i xs)
member_places f [] i k n x m q = absurd (cc q)
member_places f (y ∷ ys) i zero n x m q = let same : y ≡ x = cc q in let place : i ≡ n = omega arith in
    inl (ap (f i) same ∙ ap (λ j. f j x) place)
member_places f (y ∷ ys) i (suc k) n x m q = inr (member_places f ys (i + 1) k n x (omega arith) q)

pub places_member : {A B : Type 0} (f : ℕ → A → B) (i : ℕ) (xs : List A) (y : B) → Member y (places_from f i xs) → (k : ℕ) × (x : A)
    × (slice_get xs k ≡ Some x) × (f (i + k) x ≡ y)
places_member f i [] y m = elim m [ ]
places_member f i (x ∷ xs) y (inl e) = let z : i + 0 ≡ i = omega arith in (0, x, refl, ap (λ j. f j x) z ∙ e)
places_member f i (x ∷ xs) y (inr m) = let r = places_member f (i + 1) xs y m in let z : i + suc r.0 ≡ i + 1 + r.0 = omega arith in
    (suc r.0, r.1, r.2, ap (λ j. f j r.1) z ∙ r.3)

pub get_range : (a n k : ℕ) → k < n → slice_get (range_with_len a n) k ≡ Some (a + k)
get_range a zero k lt = absurd (omega arith)
get_range a (suc n) zero lt = ap Some (omega arith)
get_range a (suc n) (suc k) lt = get_range (a + 1) n k (omega arith) ∙ ap Some (omega arith)

-- ---- last reads

fold_grows : (t : ℕ) (rs : List Read) (a : ℕ) → a ≤ fold (λ (a : ℕ) (r : Read). max a (cycle_for t r)) a rs
fold_grows t [] a = omega arith
fold_grows t (r ∷ rs) a = let k = fold_grows t rs (max a (cycle_for t r)) in omega arith

fold_reads : (t : ℕ) (rs : List Read) (a : ℕ) (r : Read) → Member r rs
    → cycle_for t r ≤ fold (λ (a : ℕ) (r : Read). max a (cycle_for t r)) a rs
fold_reads t [] a r m = elim m [ ]
fold_reads t (q ∷ qs) a r (inl e) =
    let k = fold_grows t qs (max a (cycle_for t q)) in
    let s : cycle_for t q ≡ cycle_for t r = ap (cycle_for t) e in omega arith
fold_reads t (q ∷ qs) a r (inr m) = fold_reads t qs (max a (cycle_for t q)) r m

own_cycle : (r : Read) → cycle_for r.temp.0 r ≡ r.cycle
own_cycle r = let e : (r.temp.0 == r.temp.0) ≡ true = eq-eqb r.temp.0 r.temp.0 refl in ap (λ (b : Bool). if b then r.cycle else 0) e

abbrev pub idle_range : LiveRange
idle_range = record { block = record { 0 = 0 }; op = record { 0 = 0 }; instr = None; active = false; reg = 0; from = 0; last = 0 }

module _ (e : Ext) (o : Options) (values : List ℕ) where
  abbrev pub all : List Placed
  all = blocks_placed 0 0 0 e.blocks

  abbrev pub spots : List Spot
  spots = all_spots (blocks_placed 0 0 0 e.blocks)

  abbrev pub model : Model
  model = model_of e o

  abbrev pub the_reads : List Read
  the_reads = reads_of (model_of e o) values

  abbrev pub the_ranges : List LiveRange
  the_ranges = ranges_of values (issues_of (model_of e o) values) (reads_of (model_of e o) values) (model_of e o).temps

  -- the live range of temporary k
  abbrev pub range_at : ℕ → LiveRange
  range_at k = slice_index_or the_ranges k idle_range

  -- that of a result
  abbrev pub spot_range : Spot → LiveRange
  spot_range s = record {
    block = (issue_at values s.definer).block;
    op = record { 0 = s.definer.number };
    instr = (issue_at values s.definer).instr;
    active = (issue_at values s.definer).active;
    reg = value_of values (var_at (s.definer.first + register_place s.definer.op + s.place));
    from = (issue_at values s.definer).cycle;
    last = max (issue_at values s.definer).cycle (last_read the_reads s.temp.0 - 1);
  }

  pub issue_here : (p : Placed) → Member p all → slice_get (issues_of (model_of e o) values) p.number ≡ Some (issue_at values p)
  issue_here p m =
      ap (λ is. slice_get is p.number) (issues_are values 0 0 0 e.blocks)
      ∙ slice_get-map (issue_at values) all p.number ∙ ap (option_map (issue_at values))
      (at_number 0 all p p.number (all_count 0 0 0 e.blocks) m (omega arith))

  -- a read of an active operation
  pub has_read : (p : Placed) (j : ℕ) (x : Operand) → Member p all → (issue_at values p).active ≡ true → slice_get p.op.operands j ≡ Some x
      → Member (read_of values (issue_at values p) (vars_of p) j x) the_reads
  has_read p j x m a q =
      let r = read_of values (issue_at values p) (vars_of p) j x in
      let here : Member r (reads_at values p) = subst (λ (b : Bool). Member r
      (if b then places_from (read_of values (issue_at values p) (vars_of p)) 0 p.op.operands else [])) (sym a)
      (member_places (read_of values (issue_at values p) (vars_of p)) p.op.operands 0 j j x (omega arith) q) in
      subst (Member r) (sym (reads_are values 0 0 0 e.blocks)) (member_joined (map (reads_at values) all) (reads_at values p) r
      (member_map (reads_at values) all p m) here)

  module _ (numbered : all_results e.blocks ≡ map temp (range_with_len 0 (length (all_results e.blocks)))) where
    pub spot_temp : (k : ℕ) (s : Spot) → slice_get spots k ≡ Some s → s.temp ≡ temp k
    spot_temp k s q =
        let f : slice_get (all_results e.blocks) k ≡ Some s.temp = ap (λ xs. slice_get xs k) (sym (results_are 0 0 0 e.blocks))
        ∙ slice_get-map (λ (s : Spot). s.temp) spots k ∙ ap (option_map (λ (s : Spot). s.temp)) q in
        let lt = length_get (all_results e.blocks) k s.temp f in
        let g : slice_get (all_results e.blocks) k ≡ Some (temp k) =
        ap (λ xs. slice_get xs k) numbered ∙ slice_get-map temp (range_with_len 0 (length (all_results e.blocks))) k
        ∙ ap (option_map temp) (get_range 0 (length (all_results e.blocks)) k lt) ∙ ap (λ n. Some (temp n)) (omega arith) in
        let h : Some s.temp ≡ Some (temp k) = sym f ∙ g in
        cc h

    -- a result stands at the place of its number
    pub spot_here : (s : Spot) → Member s spots → slice_get spots s.temp.0 ≡ Some s
    spot_here s m =
        let r = place_of spots s m in
        let k : s.temp.0 ≡ r.0 = ap (λ (x : TempId). x.0) (spot_temp r.0 s r.2) in
        ap (slice_get spots) k ∙ r.2

    -- two results with one number are one
    pub one_spot : (s u : Spot) → Member s spots → Member u spots → s.temp.0 ≡ u.temp.0 → s ≡ u
    one_spot s u m n q = let k : Some s ≡ Some u = sym (spot_here s m) ∙ ap (slice_get spots) q ∙ spot_here u n in cc k

    pub definer_in : (s : Spot) → Member s spots → Member s.definer all
    definer_in s m =
        let r = joined_member spots_of all s m in
        let q = places_member (spot r.0) 0 r.0.op.results s r.2 in
        subst (λ p. Member p all) (ap (λ (s : Spot). s.definer) q.3) r.1

    pub range_get : (s : Spot) → Member s spots → slice_get the_ranges s.temp.0 ≡ Some (spot_range s)
    range_get s m =
        let k = s.temp.0 in
        let vars : slice_get (model_of e o).temps k ≡ Some (temp_vars s) = ap (λ xs. slice_get xs k) (temps_are 0 0 0 e.blocks)
        ∙ slice_get-map temp_vars spots k ∙ ap (option_map temp_vars) (spot_here s m) in
        get_places e o values (range_of values (issues_of (model_of e o) values) the_reads) (model_of e o).temps 0 k k (temp_vars s)
        (omega arith) vars
        ∙ ap (λ (i : Option Issue). Some (range_by values (temp_vars s) (last_read the_reads k) i)) (issue_here s.definer (definer_in s m))

    pub range_here : (s : Spot) → Member s spots → range_at s.temp.0 ≡ spot_range s
    range_here s m = index_get the_ranges s.temp.0 idle_range (spot_range s) (range_get s m)

    -- what is active is a result
    pub active_spot : (k : ℕ) (h : LiveRange) → slice_get the_ranges k ≡ Some h → (s : Spot) × (Member s spots) × (s.temp.0 ≡ k)
        × (spot_range s ≡ h)
    active_spot k h q =
        let n = length_get the_ranges k h q in
        let long : length the_ranges ≡ length spots = length-places_from (range_of values (issues_of (model_of e o) values) the_reads) 0
        (model_of e o).temps ∙ ap length (temps_are 0 0 0 e.blocks) ∙ length-mapped temp_vars spots in
        let r = get_below spots k (omega arith) in
        let m = member_at spots k r.0 r.1 in
        let t : r.0.temp.0 ≡ k = ap (λ (x : TempId). x.0) (spot_temp k r.0 r.1) in
        let g : Some (spot_range r.0) ≡ Some h = sym (range_get r.0 m) ∙ ap (slice_get the_ranges) t ∙ q in
        (r.0, m, t, cc g)
      where
        length-places_from : {A B : Type 0} (f : ℕ → A → B) (i : ℕ) (xs : List A) → length (places_from f i xs) ≡ length xs
        length-places_from f i [] = refl
        length-places_from f i (x ∷ xs) = ap suc (length-places_from f (i + 1) xs)

        length-mapped : {A B : Type 0} (f : A → B) (xs : List A) → length (map f xs) ≡ length xs
        length-mapped f [] = refl
        length-mapped f (x ∷ xs) = ap suc (length-mapped f xs)

    -- what is known of a read: its temporary is a result, which is active, ready and there, in its space and at its home
    pub record IsGoodRead (r : Read) : Type 0 where
      pub result : Spot
      pub member : Member result spots
      pub is : result.temp.0 ≡ r.temp.0
      pub active : (spot_range result).active ≡ true
      pub space : InSpace (spot_range result).reg (space_read r.instr r.operand)
      pub ready : (spot_range result).from + latency_gap e.table (spot_range result).instr r.instr ≤ r.cycle
      pub home : HasHome r.home (spot_range result)
      pub last : r.cycle ≤ (spot_range result).last + 1

    pub good_read : (r : Read) → IsSchedule (latency_gap e.table) (model_of e o).domains (model_of e o) values
        (schedule_of (model_of e o) values) → Member r the_reads → IsGoodRead r
    good_read r h m = go (slice_get the_ranges r.temp.0) refl (each_member (λ (r : Read). IsLive (slice_get the_ranges r.temp.0)) the_reads
        r (each_all (λ (r : Read). IsLive (slice_get the_ranges r.temp.0)) the_reads h.choices) m)
      where
        go : (x : Option LiveRange) → slice_get the_ranges r.temp.0 ≡ x → IsLive x → IsGoodRead r
        go None q live = absurd live
        go (Some g) q live =
            let s = active_spot r.temp.0 g q in
            let spaces = h.spaces in
            let lats = h.latencies in
            let back : (P : LiveRange → Type 0) → P g → P (spot_range s.0) = λ P x. subst P (sym s.3) x in
            let space = subst (λ (y : Option LiveRange). ReadsInSpace r y) q
            (each_member (λ (r : Read). ReadsInSpace r (slice_get the_ranges r.temp.0)) the_reads r
            (each_all (λ (r : Read). ReadsInSpace r (slice_get the_ranges r.temp.0)) the_reads spaces.0) m) in
            let gap = subst (λ (y : Option LiveRange). LeavesGap (latency_gap e.table) r y) q
            (each_member (λ (r : Read). LeavesGap (latency_gap e.table) r (slice_get the_ranges r.temp.0)) the_reads r
            (each_all (λ (r : Read). LeavesGap (latency_gap e.table) r (slice_get the_ranges r.temp.0)) the_reads lats.1) m) in
            let home = subst (λ (y : Option LiveRange). ReadsHome r y) q
            (each_member (λ (r : Read). ReadsHome r (slice_get the_ranges r.temp.0)) the_reads r
            (each_all (λ (r : Read). ReadsHome r (slice_get the_ranges r.temp.0)) the_reads h.homes) m) in
            let upper = fold_reads s.0.temp.0 the_reads 0 r m in
            let own : cycle_for s.0.temp.0 r ≡ r.cycle = ap (λ n. cycle_for n r) s.2 ∙ own_cycle r in
            record {
              result = s.0;
              member = s.1;
              is = s.2;
              active = back (λ (x : LiveRange). x.active ≡ true) live;
              space = back (λ (x : LiveRange). InSpace x.reg (space_read r.instr r.operand)) space;
              ready = back (λ (x : LiveRange). x.from + latency_gap e.table x.instr r.instr ≤ r.cycle) (gap live);
              home = back (λ (x : LiveRange). HasHome r.home x) home;
              last = omega arith;
            }

    -- a result that is given lies in its instruction's space
    pub given_space : (s : Spot) → Member s spots → IsSchedule (latency_gap e.table) (model_of e o).domains (model_of e o) values
        (schedule_of (model_of e o) values) → InSpace (spot_range s).reg (space_given (spot_range s).instr)
    given_space s m h =
        let spaces = h.spaces in
        each_member IsGivenInSpace the_ranges (spot_range s) (each_all IsGivenInSpace the_ranges spaces.1)
        (member_at the_ranges s.temp.0 (spot_range s) (range_get s m))

  -- what holds of all issues holds of all operations
  pub each_issue : (P : Issue → Type 0) → All P (issues_of (model_of e o) values) → Each (λ p. P (issue_at values p)) all
  each_issue P h = each_of_map P (issue_at values) all (subst (Each P) (issues_are values 0 0 0 e.blocks)
      (each_all P (issues_of (model_of e o) values) h))

  pub pairwise_issues : (R : Issue → Issue → Type 0) → AllPairs R (issues_of (model_of e o) values)
      → Pairwise (λ p q. R (issue_at values p) (issue_at values q)) all
  pairwise_issues R h = pairwise_of_map R (issue_at values) all (subst (Pairwise R) (issues_are values 0 0 0 e.blocks)
      (pairwise_all R (issues_of (model_of e o) values) h))
