-- Which values are kept over an operation in a solution: those that cross a call, and those that are there in another operation's cycle
-- and are read after it. It issues behind their Spills and before their Reloads.
use Rattle.std.proofs.Common.{ℕ, zero, suc, ◌≡◌, ◌<◌, ◌≤◌, ◌+◌, ◌-◌, ◌/◌, Bool, true}
use Rattle.std.proofs.Common.{false, cond, List, [], ◌∷◌, ◌++◌, length, map, filter, inl, inr}
use Rattle.std.proofs.Common.{◌⊎◌, refl, sym, ap, ◌∙◌, subst, arith, eq-eqb}
use Rattle.std.specs.Prelude.{Option, Some, None, not, nat_lt, ◌&&◌, ◌||◌, ◌==◌, slice_get, slice_index, is_some, if◌then◌else◌}
use Rattle.std.specs.List.{list_any, range_with_len}
use Rattle.std.proofs.lemmas.Bool.{eqb-true, cases_lt}
use Rattle.std.proofs.lemmas.Bool.Decides.{nat_tests}
use Rattle.std.proofs.lemmas.List.Elements.{filter-append}
use Rattle.un_base.specs.declared.ids.TempId.{TempId}
use Rattle.un_base.specs.declared.ids.VarId.{VarId}
use Rattle.un_isa.specs.Registers.{callee_saved}
use Rattle.un_isa.specs.Tables.{latency_of}
use Rattle.un_isa.specs.declared.op.Op.TheVariants.{Reload}
use Rattle.un_isa.specs.declared.reg.Reg.{Reg}
use Rattle.un_isa.specs.declared.reg.TheConstants.{FIRST_SLOT}
use Rattle.un_ir.specs.declared.function.Term.{Term}
use Rattle.un_ir.specs.declared.function.Term.TheVariants.{Fall, Jump, Branch, Ret}
use Rattle.un_ir.specs.Extended.{temp, all_results, wants_of}
use Rattle.un_ir.specs.Kinds.{is_call_kind, is_delimiter, is_mandatory, is_source}
use Rattle.un_ir.specs.Linear.{first_of}
use Rattle.un_ir.specs.declared.extended.ExtKind.{ExtKind}
use Rattle.un_ir.specs.declared.extended.ExtKind.TheVariants.{In, Out, Body, End, Copy, Enter, Leave}
use Rattle.un_ir.specs.declared.extended.Operand.{Operand}
use Rattle.un_ir.specs.declared.extended.Ext.{Ext}
use Rattle.un_model.specs.declared.model.Arc.{Arc}
use Rattle.un_model.specs.declared.model.Options.{Options}
use Rattle.un_model.specs.declared.schedule.Issue.{Issue}
use Rattle.un_model.specs.Instructions.{instruction_of}
use Rattle.un_model.specs.Pairs.{joined, places_from}
use Rattle.un_model.specs.Schedules.{schedule_of, issues_of, value_by}
use Rattle.un_model.specs.Solutions.{IsSchedule, latency_gap}
use Rattle.un_model.specs.Variables.{model_of, arcs_of}
use Rattle.un_lists.proofs.Lists.{Each, Pairwise, Member, each_of, each_member, pairwise_more, member_append_right}
use Rattle.un_lists.proofs.Lists.{each_map, member_map_of, member_filter, member_of_filter, any_of, place_of as position_of}
use Rattle.un_lists.proofs.Lists.{pairwise_of_map, pairwise_map, pairwise_filter, pairwise_append_left, pairwise_append_right, member_map}
use Rattle.un_model.proofs.Placed.{Placed, Region, region_placed, vars_of, issue_at}
use Rattle.un_model.proofs.Placed.{Spot, spot, spots_of, all_spots, issues_are, results_are}
use Rattle.un_model.proofs.PlacedSchedules.{all, spots, one_spot, member_joined, member_places}
use Rattle.un_model.proofs.Readings.{Solved}
use Rattle.un_press.specs.Accesses.{Spills, Reloads}
use Rattle.un_press.proofs.Counting.{Differ, length_mapped}
use Rattle.un_press.proofs.Crossings.{Crossing, HasRegister, call_keeps, reg_of, spot_in, spot_member, spot_block}
use Rattle.un_press.proofs.Descent.{cycle_at, Reader}
use Rattle.un_press.proofs.Kept.{saved_cover, entry_starts}
use Rattle.un_press.proofs.Premises.{source_needs, end_needs, home_needs}
use Rattle.un_press.proofs.Reloading.{NeedsRegister, Wanted, ReloadedAfter, reload_copies, must_reload}
use Rattle.un_press.proofs.Spilling.{Saved, Several, SpilledBy, spill_copies, must_spill}
use Rattle.un_sites.specs.Lengths.{is_full, is_asking, head_by, tail_by}
use Rattle.un_sites.specs.Places.{Place, definers_of}
use Rattle.un_sites.specs.Pressures.{block_room, registers_among}
use Rattle.un_sites.specs.Rooms.{arcs_or, is_before, is_behind, temps_in}
use Rattle.un_sites.specs.Crossings.{is_register_home, is_asked, reads_value, is_ahead, is_loose, is_carried, handed, crossing, is_crossing}
use Rattle.un_sites.specs.Crossings.{is_free, is_after, alive, kept_over, kept_at, spills_at, reloads_at}
use Rattle.un_sites.proofs.Carrying.{GivesOthers, GiveNone, IsEarlyOrLate, Carrying, carrying}
use Rattle.un_post.proofs.Blocks.{blocks, region_places, in_all, stands_in, region_close}
use Rattle.un_post.proofs.BlockTemps.{region_spots, definer_in, spot_all, spots_by_blocks, results_are as temps_are}
use Rattle.un_post.proofs.CallOrder.{ordered, issued_by, issued_after}
use Rattle.un_post.proofs.Facts.{Given, numbered, reading}
use Rattle.un_post.proofs.Filling.{none_of, several_or_none, several_more}
use Rattle.un_post.proofs.OneEnter.{filter_map}
use Rattle.un_post.proofs.Placing.{place_of}
use Rattle.un_post.proofs.RoomOfBlocks.{has_room}
use Rattle.un_model.proofs.Regions.{of_region}
use Rattle.un_post.proofs.Spared.{Ordered}
use Rattle.un_post.proofs.Tests.{and_iff}
use Rattle.un_post.proofs.AccessRooms.{spills_fit, reloads_fit}

-- ---- lists

above : (lo a n : ℕ) → lo < a → Each (λ (y : TempId). temp lo ≡ y → ⊥) (map temp (range_with_len a n))
above lo a zero lt = tt
above lo a (suc n) lt =
    (λ h. (let z : lo ≡ a = ap (λ (t : TempId). t.0) h in absurd (omega (arith, z, lt))), above lo (a + 1) n (omega (arith, lt)))

-- numbers that rise are different
range_differs : (a n : ℕ) → Pairwise (λ (x y : TempId). x ≡ y → ⊥) (map temp (range_with_len a n))
range_differs a zero = tt
range_differs a (suc n) = (above a (a + 1) n (omega arith), range_differs (a + 1) n)

pub pairwise_part : {X : Type 0} (R : X → X → Type 0) (xss : List (List X)) (xs : List X) → Pairwise R (joined xss)
    → Member xs xss → Pairwise R xs
pairwise_part R [] xs h m = elim m [ ]
pairwise_part R (ys ∷ yss) xs h (inl e) = subst (Pairwise R) e (pairwise_append_left R ys (joined yss) h)
pairwise_part R (ys ∷ yss) xs h (inr m) = pairwise_part R yss xs (pairwise_append_right R ys (joined yss) h) m

module _ (f : Placed → Bool) where
  abbrev pub by_definer : Spot → Bool
  by_definer s = f s.definer

  own_yes : (q : Placed) (k : ℕ) (ts : List TempId) → f q ≡ true → filter by_definer (places_from (spot q) k ts) ≡ places_from (spot q) k ts
  own_yes q k [] t = refl
  own_yes q k (y ∷ ys) t =
      let rest = filter by_definer (places_from (spot q) (k + 1) ys) in
      ap (λ (b : Bool). cond b (spot q k y ∷ rest) rest) t ∙ ap (λ zs. spot q k y ∷ zs) (own_yes q (k + 1) ys t)

  own_no : (q : Placed) (k : ℕ) (ts : List TempId) → f q ≡ false → filter by_definer (places_from (spot q) k ts) ≡ []
  own_no q k [] t = refl
  own_no q k (y ∷ ys) t =
      let rest = filter by_definer (places_from (spot q) (k + 1) ys) in
      ap (λ (b : Bool). cond b (spot q k y ∷ rest) rest) t ∙ own_no q (k + 1) ys t

  -- the results of some operations are those of which the definer is one of them
  pub spots_filter : (qs : List Placed) → all_spots (filter f qs) ≡ filter by_definer (all_spots qs)
  spots_filter [] = refl
  spots_filter (q ∷ qs) = by (f q) refl (spots_filter qs)
    where
      by : (b : Bool) → f q ≡ b → all_spots (filter f qs) ≡ filter by_definer (all_spots qs)
          → all_spots (cond b (q ∷ filter f qs) (filter f qs)) ≡ filter by_definer (all_spots (q ∷ qs))
      by true t rest =
          ap (λ ss. spots_of q ++ ss) rest ∙ ap (λ ss. ss ++ filter by_definer (all_spots qs)) (sym (own_yes q 0 q.op.results t))
          ∙ sym (filter-append by_definer (spots_of q) (all_spots qs))
      by false t rest =
          rest ∙ ap (λ ss. ss ++ filter by_definer (all_spots qs)) (sym (own_no q 0 q.op.results t))
          ∙ sym (filter-append by_definer (spots_of q) (all_spots qs))

pub some_home : (home : Option Reg) → is_register_home home ≡ true → is_some home ≡ true
some_home None h = absurd (cc h)
some_home (Some r) h = refl

pub not_same : (a b : ℕ) → not (a == b) ≡ true → a ≡ b → ⊥
not_same a b h same = let z : false ≡ true = sym (ap not (eq-eqb a b same)) ∙ h in cc z

or_right : (a b : Bool) → a ≡ false → (a || b) ≡ true → b ≡ true
or_right true b e h = absurd (cc e)
or_right false b e h = h

both_ways : (a : Bool) → a ≡ true → not a ≡ true → ⊥
both_ways true h k = absurd (cc k)
both_ways false h k = absurd (cc h)

source_mandatory : (kind : ExtKind) → is_source kind ≡ true → is_mandatory kind ≡ true
source_mandatory (Body so) h = refl
source_mandatory In h = absurd (cc h)
source_mandatory Out h = absurd (cc h)
source_mandatory (End term) h = absurd (cc h)
source_mandatory (Copy node) h = absurd (cc h)
source_mandatory Enter h = absurd (cc h)
source_mandatory Leave h = absurd (cc h)

call_source : (kind : ExtKind) → is_call_kind kind ≡ true → is_source kind ≡ true
call_source (Body so) h = refl
call_source In h = absurd (cc h)
call_source Out h = absurd (cc h)
call_source (End term) h = absurd (cc h)
call_source (Copy node) h = absurd (cc h)
call_source Enter h = absurd (cc h)
call_source Leave h = absurd (cc h)

-- what asks for Spills or Reloads is an operation of the source
pub asking_source : (room : ℕ) (ps : List Place) (p : Place) → is_asking room ps p ≡ true → is_source p.it.kind ≡ true
asking_source room ps p h = by (is_call_kind p.it.kind) refl h
  where
    by : (t : Bool) → is_call_kind p.it.kind ≡ t → (t || (is_source p.it.kind && is_full room ps)) ≡ true → is_source p.it.kind ≡ true
    by true call h = call_source p.it.kind call
    by false call h = ((and_iff (is_source p.it.kind) (is_full room ps)).1 h).0

-- what an operation of the source reads is in a register
source_asked : (b : Bool) (kind : ExtKind) (y : Operand) → is_source kind ≡ true → is_asked b kind y ≡ true
source_asked true (Body so) y h = refl
source_asked false (Body so) y h = refl
source_asked b In y h = absurd (cc h)
source_asked b Out y h = absurd (cc h)
source_asked b (End term) y h = absurd (cc h)
source_asked b (Copy node) y h = absurd (cc h)
source_asked b Enter y h = absurd (cc h)
source_asked b Leave y h = absurd (cc h)

-- of two parts of a list of which each two are related, an element of the first is to one of the second
pairwise_cross : {X : Type 0} (R : X → X → Type 0) (xs ys : List X) (a b : X) → Pairwise R (xs ++ ys) → Member a xs → Member b ys → R a b
pairwise_cross R [] ys a b h m n = elim m [ ]
pairwise_cross R (x ∷ xs) ys a b h (inl e) n =
    subst (λ z. R z b) e (each_member (R x) (xs ++ ys) b h.0 (member_append_right xs ys b n))
pairwise_cross R (x ∷ xs) ys a b h (inr m) n = pairwise_cross R xs ys a b h.1 m n

abbrev pub OtherTemp : Spot → Spot → Type 0
OtherTemp s u = s.temp ≡ u.temp → ⊥

-- operations of which all results are different give different ones
gives_others : (qs : List Placed) → Pairwise OtherTemp (all_spots qs) → Pairwise (λ p q. GivesOthers (place_of p) (place_of q)) qs
gives_others [] h = tt
gives_others (q ∷ qs) h = (
  each_of (λ p. GivesOthers (place_of q) (place_of p)) qs (λ p m t u mt mu same.
      let j = position_of q.op.results t mt in
      let k = position_of p.op.results u mu in
      pairwise_cross OtherTemp (spots_of q) (all_spots qs) (spot q j.0 t) (spot p k.0 u) h
      (member_places (spot q) q.op.results 0 j.0 j.0 t (omega arith) j.2)
      (member_joined (map spots_of qs) (spots_of p) (spot p k.0 u) (member_map spots_of qs p m)
      (member_places (spot p) p.op.results 0 k.0 k.0 u (omega arith) k.2)) (ap temp same)),
  gives_others qs (pairwise_append_right OtherTemp (spots_of q) (all_spots qs) h),
)

-- ---- margins

some_of : (n : ℕ) → (n == 0) ≡ false → 0 < n
some_of n h = let ne : n ≡ 0 → ⊥ = λ z. (let w : true ≡ false = sym (eq-eqb n 0 z) ∙ h in cc w) in omega (arith, ne)

head_le : (n t : ℕ) → (0 < n → n + 1 ≤ t) → head_by n ≤ t
head_le n t h = by (n == 0) refl
  where
    by : (b : Bool) → (n == 0) ≡ b → (if b then 0 else n + 1) ≤ t
    by true e = omega arith
    by false e = h (some_of n e)

tail_le : (latency n t end : ℕ) → t + 1 ≤ end → (0 < n → n ≤ (end - latency - t) + (end - latency - t)) → t + tail_by latency n ≤ end
tail_le latency n t end inside h = by (n == 0) refl
  where
    by : (b : Bool) → (n == 0) ≡ b → t + (if b then 1 else latency + (n + 1) / 2) ≤ end
    by true e = inside
    by false e = let some = some_of n e in let le = h some in omega (arith, some, le)

module _ (e : Ext) (o : Options) (x : List ℕ) (given : Given e o x)
    (schedule : IsSchedule (latency_gap e.table) (model_of e o).domains (model_of e o) x (schedule_of (model_of e o) x)) where
  abbrev solved : Solved e o x
  solved = record { extended = given.extended; fit = given.fit; options = given.options; schedule = schedule }

  abbrev pub Other : Spot → Spot → Type 0
  Other s u = OtherTemp s u

  -- all results are different
  pub different : Pairwise Other (spots e o x)
  different = pairwise_of_map (λ (a b : TempId). a ≡ b → ⊥) (λ (s : Spot). s.temp) (spots e o x)
      (subst (Pairwise (λ (a b : TempId). a ≡ b → ⊥)) (sym (results_are 0 0 0 e.blocks ∙ numbered e o x given))
      (range_differs 0 (length (all_results e.blocks))))

  -- a mandatory operation that reads is active: a Fall reads nothing
  pub reads_active : (q : Placed) (j : ℕ) (y : Operand) → Member q (all e o x) → is_mandatory q.op.kind ≡ true
      → slice_get q.op.operands j ≡ Some y → (issue_at x q).active ≡ true
  reads_active q j y m mandatory at = by q.op.kind refl mandatory
    where
      active : ExtKind → Bool
      active k = is_delimiter k || is_some (instruction_of k (let v = vars_of q in value_by x v.instr))

      ends : (term : Term) → q.op.kind ≡ End term → active (End term) ≡ true
      ends Fall f =
          let w = reading e o x given q j y m at in
          let none = subst (λ (k : ExtKind). slice_get (wants_of e.table e.names e.blocks q.owner k q.op) j ≡ Some w.want) f w.wants in
          absurd (cc none)
      ends (Jump to) f = refl
      ends (Branch pred true to) f = refl
      ends (Branch pred false to) f = refl
      ends (Ret value) f = refl

      by : (k : ExtKind) → q.op.kind ≡ k → is_mandatory k ≡ true → (issue_at x q).active ≡ true
      by In f t = ap active f
      by Out f t = ap active f
      by (Body so) f t = ap active f
      by (End term) f t = ap active f ∙ ends term f
      by (Copy node) f t = absurd (cc t)
      by Enter f t = absurd (cc t)
      by Leave f t = absurd (cc t)

  -- What tests of the operations of a block say of the cycle of operation c: these have issued by then, these issue later, and these
  -- others of the source do either. What a call gives is not there in its own cycle.
  pub record Sides (r : Region) (c : Placed) (early late loose : Place → Bool) : Type 0 where
    pub by : (d : Placed) → Member d (region_placed r) → early (place_of d) ≡ true → (issue_at x d).cycle ≤ (issue_at x c).cycle
    pub other : (d : Placed) → Member d (region_placed r) → early (place_of d) ≡ true → is_call_kind c.op.kind ≡ true
        → d.number ≡ c.number → ⊥
    pub after : (q : Placed) → Member q (region_placed r) → late (place_of q) ≡ true → (issue_at x c).cycle + 1 ≤ (issue_at x q).cycle
    pub source : (q : Placed) → loose (place_of q) ≡ true → is_source q.op.kind ≡ true
    pub apart : (q : Placed) → loose (place_of q) ≡ true → is_call_kind c.op.kind ≡ true → q.number ≡ c.number → ⊥
    pub rest : (q : Placed) → loose (place_of q) ≡ true → early (place_of q) ≡ true → ⊥

  -- such tests, with the registers in which what is kept over operation c may be
  pub record Keeping (r : Region) (c : Placed) : Type 0 where
    pub early : Place → Bool
    pub late : Place → Bool
    pub loose : Place → Bool
    pub sides : Sides r c early late loose
    pub kept : List ℕ
    pub has : HasRegister e o x solved c kept

  module _ (r : Region) (mr : Member r (blocks e o x)) (c : Placed) (mc : Member c (region_placed r)) (keep : Keeping r c) where
    abbrev sides : Sides r c keep.early keep.late keep.loose
    sides = keep.sides

    abbrev ahead : Placed → Bool
    ahead q = keep.early (place_of q)

    abbrev behind : List Place
    behind = filter keep.late (region_places r)

    all_c : Member c (all e o x)
    all_c = in_all e o x r c mr mc

    spot_in_region : (q : Placed) (k : ℕ) (t : TempId) → Member q (region_placed r) → slice_get q.op.results k ≡ Some t
        → Member (spot q k t) (region_spots r)
    spot_in_region q k t m at = member_joined (map spots_of (region_placed r)) (spots_of q) (spot q k t)
        (member_map spots_of (region_placed r) q m) (member_places (spot q) q.op.results 0 k k t (omega arith) at)

    abbrev loose : Placed → Bool
    loose q = keep.loose (place_of q)

    abbrev free : List Place
    free = filter keep.loose (region_places r)

    -- ---- the values

    abbrev crosses : Bool → ℕ → Bool
    crosses b n = is_carried b behind (handed b behind free) n

    abbrev pub crossing_spots : Bool → List Spot
    crossing_spots b = filter (λ (s : Spot). crosses b s.temp.0) (filter (by_definer ahead) (region_spots r))

    abbrev pub over : Bool → List TempId
    over b = filter (is_crossing b behind free) (temps_in (filter keep.early (region_places r)))

    values_are : (b : Bool) → over b ≡ map (λ (s : Spot). s.temp) (crossing_spots b)
    values_are b =
        ap (λ ps. filter (is_crossing b behind free) (temps_in ps)) (filter_map keep.early place_of (region_placed r))
        ∙ ap (filter (is_crossing b behind free)) (temps_are (filter ahead (region_placed r)))
        ∙ ap (λ ss. filter (is_crossing b behind free) (map (λ (s : Spot). s.temp) ss)) (spots_filter ahead (region_placed r))
        ∙ filter_map (is_crossing b behind free) (λ (s : Spot). s.temp) (filter (by_definer ahead) (region_spots r))

    region_differs : Pairwise Other (region_spots r)
    region_differs = pairwise_part Other (map region_spots (blocks e o x)) (region_spots r)
        (subst (Pairwise Other) (spots_by_blocks e o x) different) (member_map region_spots (blocks e o x) r mr)

    spots_differ : (b : Bool) → Pairwise Other (crossing_spots b)
    spots_differ b = pairwise_filter Other (λ (s : Spot). crosses b s.temp.0) (filter (by_definer ahead) (region_spots r))
        (pairwise_filter Other (by_definer ahead) (region_spots r) region_differs)

    -- ---- what is there, and what is read

    -- a value that is there in the operation's cycle, and no call's result in its own
    pub record There (n : ℕ) : Type 0 where
      own : Spot
      member : Member own (region_spots r)
      is : own.temp ≡ temp n
      early : cycle_at e o x solved own.definer ≤ cycle_at e o x solved c
      other : is_call_kind c.op.kind ≡ true → own.definer.number ≡ c.number → ⊥

    -- what reads a value after the operation's cycle
    pub record After (b : Bool) (n : ℕ) : Type 0 where
      user : Placed
      of_block : Member user (region_placed r)
      late : cycle_at e o x solved c < cycle_at e o x solved user
      mandatory : is_mandatory user.op.kind ≡ true
      place : ℕ
      operand : Operand
      at : slice_get user.op.operands place ≡ Some operand
      reads : first_of operand.alts ≡ n
      asked : is_asked b user.op.kind operand ≡ true

    -- what has issued by then is there
    there_ahead : (s : Spot) → Member s (region_spots r) → ahead s.definer ≡ true → There s.temp.0
    there_ahead s m t =
        let md = definer_in (region_placed r) s m in
        record {
          own = s;
          member = m;
          is = refl;
          early = sides.by s.definer md t;
          other = sides.other s.definer md t;
        }

    -- what issues later reads later
    pub after_behind : (b : Bool) (n : ℕ) → list_any (reads_value b n) behind ≡ true → After b n
    after_behind b n h =
        let read = any_of (reads_value b n) behind h in
        let of_behind = member_of_filter keep.late (region_places r) read.0 read.1 in
        let q = member_map_of place_of (region_placed r) read.0 of_behind.0 in
        let after : keep.late (place_of q.0) ≡ true = ap keep.late q.2 ∙ of_behind.1 in
        let told : reads_value b n (place_of q.0) ≡ true = ap (reads_value b n) q.2 ∙ read.2 in
        let test = λ (y : Operand). first_of y.alts == n && is_asked b q.0.op.kind y in
        let two = (and_iff (is_mandatory q.0.op.kind) (list_any test q.0.op.operands)).1 told in
        let y = any_of test q.0.op.operands two.1 in
        let both = (and_iff (first_of y.0.alts == n) (is_asked b q.0.op.kind y.0)).1 y.2 in
        let k = position_of q.0.op.operands y.0 y.1 in
        let le = sides.after q.0 q.1 after in
        record {
          user = q.0;
          of_block = q.1;
          late = omega (arith, le);
          mandatory = two.0;
          place = k.0;
          operand = y.0;
          at = k.2;
          reads = eqb-true (first_of y.0.alts) n both.0;
          asked = both.1;
        }

    -- ---- operations between

    abbrev between : List Placed
    between = filter loose (region_placed r)

    free_are : free ≡ map place_of between
    free_are = filter_map keep.loose place_of (region_placed r)

    -- an operation between issues by that cycle or after it
    early_or_late : (b : Bool) (q : Placed) → Member q between → IsEarlyOrLate b behind There (After b) (after_behind b) (place_of q)
    early_or_late b q m = by (cases_lt (cycle_at e o x solved c) (cycle_at e o x solved q))
      where
        in_block : Member q (region_placed r)
        in_block = (member_of_filter loose (region_placed r) q m).0

        is : loose q ≡ true
        is = (member_of_filter loose (region_placed r) q m).1

        source : is_source q.op.kind ≡ true
        source = sides.source q is

        by : (cycle_at e o x solved c < cycle_at e o x solved q) ⊎ (cycle_at e o x solved q ≤ cycle_at e o x solved c)
            → IsEarlyOrLate b behind There (After b) (after_behind b) (place_of q)
        by (inl lt) = inr (λ k y at. record {
          user = q;
          of_block = in_block;
          late = lt;
          mandatory = source_mandatory q.op.kind source;
          place = k;
          operand = y;
          at = at;
          reads = refl;
          asked = source_asked b q.op.kind y source;
        })
        by (inr le) = inl (λ t mt. (
            let k = position_of q.op.results t mt in
            record {
              own = spot q k.0 t;
              member = spot_in_region q k.0 t in_block k.2;
              is = refl;
              early = le;
              other = sides.apart q is;
            }))

    each_early_or_late : (b : Bool) → Each (IsEarlyOrLate b behind There (After b) (after_behind b)) free
    each_early_or_late b = subst (λ ps. Each (IsEarlyOrLate b behind There (After b) (after_behind b)) ps) (sym free_are)
        (each_map (IsEarlyOrLate b behind There (After b) (after_behind b)) place_of between
        (each_of (λ q. IsEarlyOrLate b behind There (After b) (after_behind b) (place_of q)) between (early_or_late b)))

    give_others : Pairwise GivesOthers free
    give_others = subst (λ ps. Pairwise GivesOthers ps) (sym free_are)
        (pairwise_map GivesOthers place_of between (gives_others between
        (subst (Pairwise Other) (sym (spots_filter loose (region_placed r)))
        (pairwise_filter Other (by_definer loose) (region_spots r) region_differs))))

    pub carried : (b : Bool) → Carrying b behind There (After b) (after_behind b) free
    carried b = carrying b behind There (After b) (after_behind b) free (each_early_or_late b) give_others

    -- what has issued by then is given by none of them
    none_gives : (s : Spot) → Member s (region_spots r) → ahead s.definer ≡ true → GiveNone free s.temp.0
    none_gives s m t = subst (λ ps. GiveNone ps s.temp.0) (sym free_are)
        (each_map (λ (p : Place). (u : TempId) → Member u p.it.results → u.0 ≡ s.temp.0 → ⊥) place_of between
        (each_of (λ (q : Placed). (u : TempId) → Member u q.op.results → u.0 ≡ s.temp.0 → ⊥) between (λ q mq u mu same.
        let found = member_of_filter loose (region_placed r) q mq in
        let k = position_of q.op.results u mu in
        let one = one_spot e o x (numbered e o x given) (spot q k.0 u) s (spot_all e o x r (spot q k.0 u) mr
        (spot_in_region q k.0 u found.0 k.2)) (spot_all e o x r s mr m) same in
        sides.rest q found.1 (ap (λ (v : Spot). ahead v.definer) one ∙ t))))

    -- ---- what the values that are kept come to

    abbrev pub last : Bool → Spot → TempId
    last b s = temp ((carried b).last s.temp.0)

    record Found (b : Bool) (s : Spot) : Type 0 where
      member : Member s (region_spots r)
      crosses_on : crosses b s.temp.0 ≡ true
      before : ahead s.definer ≡ true

    found : (b : Bool) (s : Spot) → Member s (crossing_spots b) → Found b s
    found b s m =
        let outer = member_of_filter (λ (s : Spot). crosses b s.temp.0) (filter (by_definer ahead) (region_spots r)) s m in
        let inner = member_of_filter (by_definer ahead) (region_spots r) s outer.0 in
        record { member = inner.0; crosses_on = outer.1; before = inner.1 }

    abbrev pub across : Bool → List TempId
    across b = map (last b) (crossing_spots b)

    pub values_many : (b : Bool) → length (across b) ≡ length (over b)
    values_many b =
        let k = length_mapped (last b) (crossing_spots b) in
        let l = length_mapped (λ (s : Spot). s.temp) (crossing_spots b) in
        let is = ap length (values_are b) in
        omega (arith, k, l, is)

    pub values_differ : (b : Bool) → Differ (across b)
    values_differ b = pairwise_map (λ x y. x ≡ y → ⊥) (last b) (crossing_spots b)
        (pairwise_more Other (λ s u. last b s ≡ last b u → ⊥) (crossing_spots b) (λ s u ms mu ne same.
        let f = found b s ms in
        let g = found b u mu in
        let one : s.temp.0 ≡ u.temp.0 = (carried b).apart s.temp.0 u.temp.0 f.crosses_on g.crosses_on (none_gives s f.member f.before)
        (none_gives u g.member g.before) (ap (λ (t : TempId). t.0) same) in
        ne (ap temp one)) (spots_differ b))

    -- a value that is kept, and one of its readers
    pub record Crosses (b : Bool) (v : TempId) : Type 0 where
      of_value : There v.0
      user : After b v.0

    pub crossed_by : (b : Bool) (v : TempId) → Member v (across b) → Crosses b v
    crossed_by b v m =
        let s = member_map_of (last b) (crossing_spots b) v m in
        let f = found b s.0 s.1 in
        let both = (carried b).there (s.0).temp.0 f.crosses_on (there_ahead s.0 f.member f.before) in
        subst (Crosses b) s.2 (record { of_value = both.0; user = both.1 })

    module _ (b : Bool) (v : TempId) (k : Crosses b v) where
      abbrev pub after : After b v.0
      after = k.user

      abbrev pub reader : Reader e o x solved v (cycle_at e o x solved c)
      reader = let q = after in record {
        user = q.user;
        member = in_all e o x r q.user mr q.of_block;
        active = reads_active q.user q.place q.operand (in_all e o x r q.user mr q.of_block) q.mandatory q.at;
        place = q.place;
        operand = q.operand;
        at = q.at;
        value = ap temp q.reads;
        after = q.late;
      }

      abbrev pub crossed : Crossing e o x solved c v
      crossed =
          let w = k.of_value in
          record {
            own = w.own;
            member = spot_all e o x r w.own mr w.member;
            is = w.is;
            early = w.early;
            other = w.other;
            reader = reader;
            block = (let q = after in of_region r q.user q.of_block ∙ sym (of_region r c mc));
          }

      wants : b ≡ true → NeedsRegister e o x solved v (cycle_at e o x solved c) reader
      wants is = let q = after in by q.user.op.kind refl q.mandatory (ap (λ (t : Bool). is_asked t q.user.op.kind q.operand) (sym is) ∙ q.asked)
        where
          home : (let q = after in is_register_home q.operand.home ≡ true) → NeedsRegister e o x solved v (cycle_at e o x solved c) reader
          home h = let q = after in home_needs e o x solved v (cycle_at e o x solved c) reader (some_home q.operand.home h)

          by : (kind : ExtKind) → (let q = after in q.user.op.kind ≡ kind) → is_mandatory kind ≡ true
              → (let q = after in is_asked true kind q.operand ≡ true)
              → NeedsRegister e o x solved v (cycle_at e o x solved c) reader
          by (Body so) f t h = source_needs e o x solved v (cycle_at e o x solved c) reader so f
          by (End term) f t h = end_needs e o x solved v (cycle_at e o x solved c) reader term f
          by In f t h = home h
          by Out f t h = home h
          by (Copy node) f t h = absurd (cc t)
          by Enter f t h = absurd (cc t)
          by Leave f t h = absurd (cc t)

    -- ---- Spills

    saved : r.block ≡ 0 → Each (Saved e o x solved c) (across false)
    saved entry = each_of (Saved e o x solved c) (across false) (λ v m.
        let k = crossed_by false v m in
        let w = k.of_value in
        record {
          crossing = crossed false v k;
          starts = λ start. entry_starts e o x solved w.own (spot_all e o x r w.own mr w.member)
              (of_region r (w.own).definer (definer_in (region_placed r) w.own w.member) ∙ entry) start;
        })

    -- those that are owed by the operation's cycle
    spillers : (n : ℕ) → r.block ≡ 0 → n + length keep.kept ≤ length (over false)
        → Several e o x solved (SpilledBy e o x solved c) n
    spillers n entry few =
        let many = values_many false in
        spill_copies e o x solved c keep.kept keep.has (across false) (saved entry)
        (values_differ false) n (omega (arith, few, many))

    pub owed_spills : Several e o x solved (λ p. SpilledBy e o x solved c p × (r.block ≡ 0))
        (if r.block == 0 then length (over false) - length keep.kept else 0)
    owed_spills = by (r.block == 0) refl
      where
        by : (b : Bool) → (r.block == 0) ≡ b
            → Several e o x solved (λ p. SpilledBy e o x solved c p × (r.block ≡ 0))
            (if b then length (over false) - length keep.kept else 0)
        by false entry = none_of e o x solved (λ p. SpilledBy e o x solved c p × (r.block ≡ 0))
        by true entry =
            let n = length (over false) - length keep.kept in
            let block = eqb-true r.block 0 entry in
            several_or_none e o x solved (λ p. SpilledBy e o x solved c p × (r.block ≡ 0)) n (λ some.
            several_more e o x solved (SpilledBy e o x solved c) (λ p. SpilledBy e o x solved c p × (r.block ≡ 0)) n (λ p h. (h, block))
            (spillers n block (omega (arith, some))))

    spilled : (n : ℕ) → r.block ≡ 0 → n + length keep.kept ≤ length (over false)
        → n ≤ (issue_at x c).cycle - 1
    spilled n entry few =
        let many = values_many false in
        let block : c.block ≡ 0 = of_region r c mc ∙ entry in
        spills_fit e o x given schedule (cycle_at e o x solved c) n
        (subst (λ (b : ℕ). Spills (model_of e o) (record { values = x }) b (cycle_at e o x solved c) n) block
        (must_spill e o x solved c keep.kept keep.has (across false) (saved entry)
        (values_differ false) n (omega (arith, few, many))))

    -- ---- Reloads

    ends : Each (λ (i : Issue). i.block.0 ≡ r.block → i.end ≡ (issue_at x c).end) (issues_of (model_of e o) x)
    ends = subst (Each (λ (i : Issue). i.block.0 ≡ r.block → i.end ≡ (issue_at x c).end)) (sym (issues_are x 0 0 0 e.blocks))
        (each_map (λ (i : Issue). i.block.0 ≡ r.block → i.end ≡ (issue_at x c).end) (issue_at x) (all e o x)
        (each_of (λ (q : Placed). q.block ≡ r.block → (issue_at x q).end ≡ (issue_at x c).end) (all e o x) (λ q m same.
        ap (λ (v : VarId). slice_index x v.0) (sym (region_close r q (stands_in e o x r q mr m same)) ∙ region_close r c mc))))

    pub wanted : Each (Wanted e o x solved c) (across true)
    wanted = each_of (Wanted e o x solved c) (across true) (λ v m.
        let k = crossed_by true v m in
        record { crossing = crossed true v k; needs = wants true v k refl })

    -- those that are owed after it
    pub owed_reloads : Several e o x solved (ReloadedAfter e o x solved c) (length (over true) - length keep.kept)
    owed_reloads =
        let n = length (over true) - length keep.kept in
        let many = values_many true in
        several_or_none e o x solved (ReloadedAfter e o x solved c) n (λ some.
        reload_copies e o x solved c keep.kept keep.has (across true) wanted
        (values_differ true) n (omega (arith, some, many)))

    reloaded : (n : ℕ) → n + length keep.kept ≤ length (over true)
        → n ≤ ((issue_at x c).end - latency_of e.table Reload - (issue_at x c).cycle)
        + ((issue_at x c).end - latency_of e.table Reload - (issue_at x c).cycle)
    reloaded n few =
        let many = values_many true in
        reloads_fit e o x given schedule r.block (cycle_at e o x solved c) (issue_at x c).end n ends
        (subst (λ (b : ℕ). Reloads (model_of e o) (record { values = x }) b (cycle_at e o x solved c) n) (of_region r c mc)
        (must_reload e o x solved c keep.kept keep.has (across true) wanted
        (values_differ true) n (omega (arith, few, many))))

    -- ---- its cycle

    -- it issues behind its Spills
    pub behind_spills : head_by (if r.block == 0 then length (over false) - length keep.kept else 0) ≤ (issue_at x c).cycle
    behind_spills = by (r.block == 0) refl
      where
        by : (b : Bool) → (r.block == 0) ≡ b
            → head_by (if b then length (over false) - length keep.kept else 0)
            ≤ (issue_at x c).cycle
        by false entry = omega arith
        by true entry =
            let n = length (over false) - length keep.kept in
            head_le n (issue_at x c).cycle (λ some.
            let le = spilled n (eqb-true r.block 0 entry) (omega (arith, some)) in
            omega (arith, le, some))

    -- and before its Reloads
    pub before_reloads : (issue_at x c).cycle + 1 ≤ (issue_at x c).end → (issue_at x c).cycle
        + tail_by (latency_of e.table Reload) (length (over true) - length keep.kept) ≤ (issue_at x c).end
    before_reloads inside =
        let n = length (over true) - length keep.kept in
        tail_le (latency_of e.table Reload) n (issue_at x c).cycle (issue_at x c).end inside (λ some. reloaded n (omega (arith, some)))

  -- ---- calls, and other operations

  module _ (r : Region) (mr : Member r (blocks e o x)) where
    abbrev arcs : List Arc
    arcs = arcs_or (slice_get (arcs_of e) r.block)

    abbrev ps : List Place
    ps = region_places r

    pub call_sides : (c : Placed) → Member c (region_placed r) → is_call_kind c.op.kind ≡ true
        → Sides r c (is_ahead arcs (place_of c)) (is_behind arcs (place_of c)) (is_loose arcs (place_of c))
    call_sides c mc call = record {
      by = λ d md t. order.before d c md mc call ((and_iff (not (d.number == c.number)) _).1 t).1;
      other = λ d md t is. not_same d.number c.number ((and_iff (not (d.number == c.number)) _).1 t).0;
      after = λ q mq t. order.behind c q mc mq call t;
      source = λ q t. ((and_iff (is_source q.op.kind) _).1 t).0;
      apart = λ q t is. not_same q.number c.number
          ((and_iff (not (q.number == c.number)) (not (is_ahead arcs (place_of c) (place_of q)))).1
          ((and_iff (is_source q.op.kind) _).1 t).1).0;
      rest = λ q t early. both_ways (is_ahead arcs (place_of c) (place_of q)) early
          ((and_iff (not (q.number == c.number)) (not (is_ahead arcs (place_of c) (place_of q)))).1
          ((and_iff (is_source q.op.kind) _).1 t).1).1;
    }
      where
        order : Ordered x r arcs
        order = ordered e o x given schedule r mr

    -- a call keeps what crosses it
    abbrev pub call_keeping : (c : Placed) → Member c (region_placed r) → is_call_kind c.op.kind ≡ true → Keeping r c
    call_keeping c mc call = record {
      early = is_ahead arcs (place_of c);
      late = is_behind arcs (place_of c);
      loose = is_loose arcs (place_of c);
      sides = call_sides c mc call;
      kept = callee_saved e.table;
      has = call_keeps e o x solved c (in_all e o x r c mr mc) call (callee_saved e.table) (saved_cover e o x solved c);
    }

    -- the registers of the block
    abbrev pub registers : List ℕ
    registers = registers_among (block_room (model_of e o).domains (definers_of (model_of e o)) ps)

    pub own_sides : (c : Placed) → Member c (region_placed r) → is_source c.op.kind ≡ true → is_call_kind c.op.kind ≡ false
        → Sides r c (λ (d : Place). is_before arcs d (place_of c)) (is_after arcs ps (place_of c)) (is_free arcs (place_of c))
    own_sides c mc source other = record {
      by = λ d md t. issued_by e o x given schedule r mr d c md mc t;
      other = λ d md t is. no_call is;
      after = λ q mq t. issued_after e o x given schedule r mr c q mc mq source t;
      source = λ q t. ((and_iff (is_source q.op.kind) _).1 t).0;
      apart = λ q t is. no_call is;
      rest = λ q t early. both_ways (is_before arcs (place_of q) (place_of c)) early ((and_iff (is_source q.op.kind) _).1 t).1;
    }
      where
        no_call : {A : Type 0} → is_call_kind c.op.kind ≡ true → A
        no_call is = let z : true ≡ false = sym is ∙ other in absurd (cc z)

    -- what carries a value in the block has one of its registers, or a slot
    pub own_registers : (c : Placed) → Member c (region_placed r) → HasRegister e o x solved c registers
    own_registers c mc k low =
        let s = spot_in e o x solved c k in
        let lt : nat_lt (reg_of e o x solved s) FIRST_SLOT ≡ true = grind (arith, nat_tests, low) in
        member_filter (λ (n : ℕ). nat_lt n FIRST_SLOT) (block_room (model_of e o).domains (definers_of (model_of e o)) ps)
        (reg_of e o x solved s)
        (has_room e o x given schedule r mr s (spot_member e o x solved c k) (spot_block e o x solved c k ∙ of_region r c mc)) lt

    -- what is there in another operation's cycle and is read after it is in the block's registers
    abbrev pub own_keeping : (c : Placed) → Member c (region_placed r) → is_source c.op.kind ≡ true → is_call_kind c.op.kind ≡ false
        → Keeping r c
    own_keeping c mc source other = record {
      early = λ (d : Place). is_before arcs d (place_of c);
      late = is_after arcs ps (place_of c);
      loose = is_free arcs (place_of c);
      sides = own_sides c mc source other;
      kept = registers;
      has = own_registers c mc;
    }

    module _ (c : Placed) (mc : Member c (region_placed r)) (source : is_source c.op.kind ≡ true) where
      -- what holds of a call's values, and of another operation's, holds of those that are kept over it
      by_kind : (P : (Bool → List TempId) → ℕ → Type 0)
          → (is_call_kind c.op.kind ≡ true → P (λ b. crossing b arcs ps (place_of c)) (length (callee_saved e.table)))
          → (is_call_kind c.op.kind ≡ false → P (λ b. alive b arcs ps (place_of c)) (length registers))
          → P (λ b. kept_over b arcs ps (place_of c)) (kept_at e.table (length registers) (place_of c))
      by_kind P call other = by (is_call_kind c.op.kind) refl
        where
          by : (t : Bool) → is_call_kind c.op.kind ≡ t
              → P (λ b. if t then crossing b arcs ps (place_of c) else alive b arcs ps (place_of c))
              (if t then length (callee_saved e.table) else length registers)
          by true k = call k
          by false k = other k

      pub spills_owed : Several e o x solved (λ p. SpilledBy e o x solved c p × (r.block ≡ 0))
          (spills_at e.table (length registers) (r.block == 0) arcs ps (place_of c))
      spills_owed = by_kind (λ over n. Several e o x solved (λ p. SpilledBy e o x solved c p × (r.block ≡ 0))
          (if r.block == 0 then length (over false) - n else 0))
          (λ k. owed_spills r mr c mc (call_keeping c mc k)) (λ k. owed_spills r mr c mc (own_keeping c mc source k))

      pub reloads_owed : Several e o x solved (ReloadedAfter e o x solved c)
          (reloads_at e.table (length registers) arcs ps (place_of c))
      reloads_owed = by_kind (λ over n. Several e o x solved (ReloadedAfter e o x solved c) (length (over true) - n))
          (λ k. owed_reloads r mr c mc (call_keeping c mc k)) (λ k. owed_reloads r mr c mc (own_keeping c mc source k))

      pub heads : head_by (spills_at e.table (length registers) (r.block == 0) arcs ps (place_of c)) ≤ (issue_at x c).cycle
      heads = by_kind (λ over n. head_by (if r.block == 0 then length (over false) - n else 0) ≤ (issue_at x c).cycle)
          (λ k. behind_spills r mr c mc (call_keeping c mc k)) (λ k. behind_spills r mr c mc (own_keeping c mc source k))

      pub tails : (issue_at x c).cycle + 1 ≤ (issue_at x c).end → (issue_at x c).cycle
          + tail_by (latency_of e.table Reload) (reloads_at e.table (length registers) arcs ps (place_of c)) ≤ (issue_at x c).end
      tails inside = by_kind (λ over n. (issue_at x c).cycle
          + tail_by (latency_of e.table Reload) (length (over true) - n) ≤ (issue_at x c).end)
          (λ k. before_reloads r mr c mc (call_keeping c mc k) inside)
          (λ k. before_reloads r mr c mc (own_keeping c mc source k) inside)
