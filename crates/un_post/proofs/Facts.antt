-- What an assignment within the domains says of each operation, of each result and of each operand: the propagators' words for
-- its activity, its time and its register are those of the schedule.
use Rattle.std.proofs.Common.{ℕ, zero, suc, ◌≡◌, ◌<◌, ◌≤◌, ◌+◌, ◌^◌, Bool, true, false, List, [], ◌∷◌, length, map, refl, sym, ap, ◌∙◌}
use Rattle.std.proofs.Common.{subst, arith, All, Contains}
use Rattle.std.specs.Prelude.{Option, Some, None, slice_get, slice_index, not, ◌||◌, nat_eq, is_some, unwrap_or, if◌then◌else◌}
use Rattle.std.specs.List.{range_with_len, AllZip}
use Rattle.std.specs.Option.{option_map}
use Rattle.un_base.specs.declared.ids.TempId.{TempId}
use Rattle.un_base.specs.declared.ids.VarId.{VarId}
use Rattle.un_isa.specs.Fit.{IsFit}
use Rattle.un_isa.specs.declared.op.Op.{Op}
use Rattle.un_ir.specs.declared.function.Term.TheVariants.{Fall, Jump, Branch, Ret}
use Rattle.un_ir.specs.declared.extended.ExtKind.{ExtKind}
use Rattle.un_ir.specs.declared.extended.ExtKind.TheVariants.{In, Out, Body, End, Copy, Enter, Leave}
use Rattle.un_ir.specs.declared.extended.Operand.{Operand}
use Rattle.un_ir.specs.declared.extended.Ext.{Ext}
use Rattle.un_ir.specs.Extended.{IsExtended, AreGoodBlocks, all_results, temp, IsGoodOperand, Want, wants_of, result_count}
use Rattle.un_model.specs.declared.model.Options.{Options}
use Rattle.un_model.specs.Instructions.{instruction_of, copy_of}
use Rattle.un_model.specs.Options.{AreOptions}
use Rattle.un_ir.specs.Kinds.{is_delimiter, is_optional, has_choices}
use Rattle.un_model.specs.Schedules.{choice_of, value_by, cycle_by}
use Rattle.un_model.specs.Solutions.{InDomain, KeepsDomains}
use Rattle.un_model.specs.Variables.{model_of, var_at, var_if, has_cycle, choice_place, chosen_operands}
use Rattle.un_model.specs.Variables.{domains_of, own_horizon, instr_domain, copy_domain, carries_truth}
use Rattle.un_lists.proofs.Lists.{Member, each_member, each_all, member_at, get_below, slice_get-map, length_get}
use Rattle.un_model.proofs.Placed.{Placed, vars_of, issue_at, Spot, spot, spots_of}
use Rattle.un_model.proofs.OpDomains.{InDomains, in_entry, keeps_sits, sits_left, all_sit, choice_sits, instr_sits}
use Rattle.un_model.proofs.Operations.{GoodPlaced, all_good}
use Rattle.un_model.proofs.PlacedSchedules.{all, spots, spot_range, the_ranges, range_get, joined_member, places_member, get_range}
use Rattle.un_prop.specs.Acts.{act_number, is_active, at_value}
use Rattle.un_alt.specs.Registers.{place_of as chosen_place, chosen_value}
use Rattle.un_sites.specs.Places.{Definer, act_by, act_of, time_by, time_of, by_number, definers_of, definers_at}
use Rattle.un_sites.specs.Postings.{registers_of}
use Rattle.un_post.proofs.Meeting.{value_get}
use Rattle.un_post.proofs.Placing.{place_of, definer_at, definer_among}

-- the model of an extended function, and an assignment within its domains
pub record Given (e : Ext) (o : Options) (x : List ℕ) : Type 0 where
  pub extended : IsExtended e
  pub fit : IsFit e.table
  pub options : AreOptions o
  pub domains : KeepsDomains (domains_of own_horizon e o) x

-- a terminator that falls through, which issues nothing
abbrev pub falls : ExtKind → Bool
falls (End Fall) = true
falls _ = false

-- ---- by kinds

copy_acts : (n : ℕ) → n ≤ 5 → not (nat_eq n 0) ≡ is_some (copy_of n)
copy_acts zero le = refl
copy_acts (suc zero) le = refl
copy_acts (suc (suc zero)) le = refl
copy_acts (suc (suc (suc zero))) le = refl
copy_acts (suc (suc (suc (suc zero)))) le = refl
copy_acts (suc (suc (suc (suc (suc zero))))) le = refl
copy_acts (suc (suc (suc (suc (suc (suc n)))))) le = absurd (omega arith)

frame_acts : (op : Op) (b : Bool) → not b ≡ is_some (if b then None else Some op)
frame_acts op true = refl
frame_acts op false = refl

acts_by : (kind : ExtKind) (v : ℕ) (x : List ℕ) → falls kind ≡ false → (is_optional kind ≡ true → slice_index x v ≤ 5)
    → is_active (act_by (var_if (is_optional kind) v)) x ≡ (is_delimiter kind ||
    is_some (instruction_of kind (value_by x (var_if (is_optional kind) v))))
acts_by In v x f le = refl
acts_by Out v x f le = refl
acts_by (Body so) v x f le = refl
acts_by (End Fall) v x f le = absurd (cc f)
acts_by (End (Jump to)) v x f le = refl
acts_by (End (Branch pred true to)) v x f le = refl
acts_by (End (Branch pred false to)) v x f le = refl
acts_by (End (Ret value)) v x f le = refl
acts_by (Copy node) v x f le = copy_acts (slice_index x v) (le refl)
acts_by Enter v x f le = frame_acts _ (nat_eq (slice_index x v) 0)
acts_by Leave v x f le = frame_acts _ (nat_eq (slice_index x v) 0)

number_of : {A : Type 0} (f : ℕ → A) (n : ℕ) → n ≤ 5 → slice_get (map f (range_with_len 0 6)) n ≡ Some (f n)
number_of f n le =
    let z : 0 + n ≡ n = omega arith in
    slice_get-map f (range_with_len 0 6) n ∙ ap (option_map f) (get_range 0 6 n (omega arith)) ∙ ap (λ k. Some (f k)) z

numbered_by : {A : Type 0} (f : Option Op → A) (kind : ExtKind) (v : ℕ) (x : List ℕ) → (is_optional kind ≡ true → slice_index x v ≤ 5)
    → slice_get (by_number f kind) (act_number (act_by (var_if (is_optional kind) v)) x) ≡ Some
    (f (instruction_of kind (value_by x (var_if (is_optional kind) v))))
numbered_by f In v x le = refl
numbered_by f Out v x le = refl
numbered_by f (Body so) v x le = refl
numbered_by f (End term) v x le = refl
numbered_by f (Copy node) v x le = number_of (λ n. f (instruction_of (Copy node) n)) (slice_index x v) (le refl)
numbered_by f Enter v x le = number_of (λ n. f (instruction_of Enter n)) (slice_index x v) (le refl)
numbered_by f Leave v x le = number_of (λ n. f (instruction_of Leave n)) (slice_index x v) (le refl)

times_by : (kind : ExtKind) (end : VarId) (v : ℕ) (x : List ℕ) (instr : Option VarId) (choices : List VarId)
    → at_value (time_by end kind (var_if (has_cycle kind) v)) x ≡ cycle_by x (slice_index x end.0) kind
    (record { instr = instr; cycle = var_if (has_cycle kind) v; choices = choices })
times_by In end v x instr choices = refl
times_by Out end v x instr choices = refl
times_by (Body so) end v x instr choices = refl
times_by (End term) end v x instr choices = refl
times_by (Copy node) end v x instr choices = refl
times_by Enter end v x instr choices = refl
times_by Leave end v x instr choices = refl

placed_choice : (c : Option VarId) (x : List ℕ) → chosen_place c x ≡ value_by x c
placed_choice None x = refl
placed_choice (Some v) x = refl

pub zip_get : {X Y : Type 0} (R : X → Y → Type 0) (xs : List X) (ys : List Y) (j : ℕ) (a : X) → AllZip R xs ys → slice_get xs j ≡ Some a
    → (b : Y) × (slice_get ys j ≡ Some b) × R a b
zip_get R [] [] j a h e = absurd (cc e)
zip_get R [] (y ∷ ys) j a h e = absurd h
zip_get R (z ∷ zs) [] j a h e = absurd h
zip_get R (z ∷ zs) (y ∷ ys) zero a h e = let same : z ≡ a = cc e in (y, refl, subst (λ w. R w y) same h.0)
zip_get R (z ∷ zs) (y ∷ ys) (suc j) a h e = zip_get R zs ys j a h.1 e

pub all_member : {X : Type 0} (P : X → Type 0) (xs : List X) (a : X) → All P xs → Member a xs → P a
all_member P xs a h m = each_member P xs a (each_all P xs h) m

module _ (e : Ext) (o : Options) (x : List ℕ) (given : Given e o x) where
  pub good : AreGoodBlocks e.table e.names e.blocks (2 ^ 24)
  good = let g = given.extended in g.good

  pub numbered : all_results e.blocks ≡ map temp (range_with_len 0 (length (all_results e.blocks)))
  numbered = let g = good in g.numbered

  pub good_op : (q : Placed) → Member q (all e o x) → GoodPlaced e (2 ^ 24) good q
  good_op q m = each_member (GoodPlaced e (2 ^ 24) good) (all e o x) q (all_good e (2 ^ 24) good) m

  pub in_domains : (q : Placed) → Member q (all e o x) → InDomains e o x (in_entry e o x q) q
  in_domains q m =
      each_member (λ p. InDomains e o x (in_entry e o x p) p) (all e o x) q
      (all_sit e o x true 0 0 0 e.blocks refl (sits_left x _ _ 0 (keeps_sits x (domains_of own_horizon e o) given.domains))) m

  -- ---- operations

  -- the number of an optional operation's instruction
  pub instr_bound : (q : Placed) → Member q (all e o x) → is_optional q.op.kind ≡ true → slice_index x q.first ≤ 5
  instr_bound q m opt = by q.op.kind refl opt
    where
      truth : Bool
      truth = carries_truth e q.owner q.op q.op.results

      few : (b : Bool) (v : ℕ) → InDomain v (copy_domain b) → v ≤ 5
      few false v d = let hi = d.1 in omega arith
      few true v d = let hi = d.1 in omega arith

      by : (kind : ExtKind) → q.op.kind ≡ kind → is_optional kind ≡ true → slice_index x q.first ≤ 5
      by (Copy node) k t = few truth (slice_index x q.first) (instr_sits e o x (in_entry e o x q) q (copy_domain truth) (in_domains q m)
          (ap (instr_domain truth) k))
      by Enter k t = let d = instr_sits e o x (in_entry e o x q) q _ (in_domains q m) (ap (instr_domain truth) k) in let hi = d.1 in
          omega arith
      by Leave k t = let d = instr_sits e o x (in_entry e o x q) q _ (in_domains q m) (ap (instr_domain truth) k) in let hi = d.1 in
          omega arith
      by In k t = absurd (cc t)
      by Out k t = absurd (cc t)
      by (Body so) k t = absurd (cc t)
      by (End term) k t = absurd (cc t)

  -- it is active where its issue is
  pub acts : (q : Placed) → Member q (all e o x) → falls q.op.kind ≡ false → is_active (act_of (place_of q)) x ≡ (issue_at x q).active
  acts q m f = acts_by q.op.kind q.first x f (instr_bound q m)

  -- what there is for its number is that of its instruction
  pub numbers : {A : Type 0} (f : Option Op → A) (q : Placed) → Member q (all e o x)
      → slice_get (by_number f q.op.kind) (act_number (act_of (place_of q)) x) ≡ Some (f (issue_at x q).instr)
  numbers f q m = numbered_by f q.op.kind q.first x (instr_bound q m)

  -- its time is its cycle
  pub times : (q : Placed) → at_value (time_of (place_of q)) x ≡ (issue_at x q).cycle
  times q = let v = vars_of q in times_by q.op.kind q.close _ x v.instr v.choices

  -- ---- results

  -- the definer of a result is an operation, and has it at its place
  pub definer_is : (s : Spot) → Member s (spots e o x) → Member s.definer (all e o x)
      × (let q = s.definer in slice_get q.op.results s.place ≡ Some s.temp)
  definer_is s m =
      let r = joined_member spots_of (all e o x) s m in
      let u = places_member (spot r.0) 0 r.0.op.results s r.2 in
      let z : 0 + u.0 ≡ u.0 = omega arith in
      let same : spot r.0 u.0 u.1 ≡ s = ap (λ k. spot r.0 k u.1) (sym z) ∙ u.3 in
      subst (λ (t : Spot). Member t.definer (all e o x) × (let q = t.definer in slice_get q.op.results t.place ≡ Some t.temp)) same
      (r.1, u.2)

  pub definer_counts : (s : Spot) → Member s (spots e o x) → let q = s.definer in 0 < result_count e.table q.owner q.op.kind
  definer_counts s m =
      let d = definer_is s m in
      let q = s.definer in
      let g = good_op q d.0 in
      let k = g.keeps in
      let n = k.results in
      let lt = length_get q.op.results s.place s.temp d.1 in
      omega arith

  pub definer_goes : (s : Spot) → Member s (spots e o x) → (let q = s.definer in falls q.op.kind ≡ false)
  definer_goes s m = let q = s.definer in by q.op.kind refl
    where
      by : (kind : ExtKind) → (let q = s.definer in q.op.kind ≡ kind) → falls kind ≡ false
      by (End term) k =
          let q = s.definer in
          let c = definer_counts s m in
          let z : result_count e.table q.owner q.op.kind ≡ 0 = ap (result_count e.table q.owner) k in
          absurd (omega arith)
      by In k = refl
      by Out k = refl
      by (Body so) k = refl
      by (Copy node) k = refl
      by Enter k = refl
      by Leave k = refl

  -- its definer is active, issues and has its register as its live range says
  pub definer_acts : (s : Spot) → Member s (spots e o x) → (let d = definer_at s in
      is_active (act_of d.place) x ≡ (spot_range e o x s).active)
  definer_acts s m = acts s.definer (definer_is s m).0 (definer_goes s m)

  pub definer_times : (s : Spot) → (let d = definer_at s in at_value (time_of d.place) x ≡ (spot_range e o x s).from)
  definer_times s = times s.definer

  -- ---- operands

  -- the operand at place j of an operation: what it wants, and which result it chooses
  pub record Reading (q : Placed) (j : ℕ) (operand : Operand) : Type 0 where
    pub want : Want
    pub wants : slice_get (wants_of e.table e.names e.blocks q.owner q.op.kind q.op) j ≡ Some want
    pub before : List TempId
    pub fits : IsGoodOperand e.names e.blocks before operand want
    pub spot : Spot
    pub member : Member spot (spots e o x)
    pub at : slice_get operand.alts (value_by x (slice_get (vars_of q).choices j)) ≡ Some spot.temp
    pub block : spot.definer.block ≡ q.block
    pub earlier : spot.definer.number < q.number

  -- the variable of its choice
  pub choice_var : (q : Placed) (j : ℕ) (operand : Operand) → slice_get q.op.operands j ≡ Some operand → has_choices q.op.kind ≡ true
      → slice_get (vars_of q).choices j ≡ Some (var_at (q.first + choice_place q.op + j))
  choice_var q j operand at c =
      let ops : chosen_operands q.op ≡ q.op.operands = ap (λ (b : Bool). if b then q.op.operands else []) c in
      let n = length_get q.op.operands j operand at in
      let l : length (chosen_operands q.op) ≡ length q.op.operands = ap length ops in
      slice_get-map var_at (range_with_len (q.first + choice_place q.op) (length (chosen_operands q.op))) j
      ∙ ap (option_map var_at) (get_range (q.first + choice_place q.op) (length (chosen_operands q.op)) j (omega arith))

  pub no_choice : (q : Placed) (j : ℕ) → has_choices q.op.kind ≡ false → slice_get (vars_of q).choices j ≡ None
  no_choice q j c =
      let ops : chosen_operands q.op ≡ [] = ap (λ (b : Bool). if b then q.op.operands else []) c in
      ap (λ n. slice_get (map var_at (range_with_len (q.first + choice_place q.op) n)) j) (ap length ops)

  choice_below : (q : Placed) (j : ℕ) (operand : Operand) → Member q (all e o x) → slice_get q.op.operands j ≡ Some operand
      → 0 < length operand.alts
      → value_by x (slice_get (vars_of q).choices j) < length operand.alts
  choice_below q j operand m at pos = by (has_choices q.op.kind) refl
    where
      by : (b : Bool) → has_choices q.op.kind ≡ b → value_by x (slice_get (vars_of q).choices j) < length operand.alts
      by true c =
          let ops : chosen_operands q.op ≡ q.op.operands = ap (λ (b : Bool). if b then q.op.operands else []) c in
          let d = choice_sits e o x (in_entry e o x q) q j operand (in_domains q m) (ap (λ xs. slice_get xs j) ops ∙ at) in
          let v : value_by x (slice_get (vars_of q).choices j) ≡ slice_index x (q.first + choice_place q.op + j) =
          ap (value_by x) (choice_var q j operand at c) in
          let hi = d.1 in
          omega arith
      by false c =
          let v : value_by x (slice_get (vars_of q).choices j) ≡ 0 = ap (value_by x) (no_choice q j c) in
          omega arith

  pub reading : (q : Placed) (j : ℕ) (operand : Operand) → Member q (all e o x) → slice_get q.op.operands j ≡ Some operand
      → Reading q j operand
  reading q j operand m at =
      let g = good_op q m in
      let k = g.keeps in
      let z = zip_get (IsGoodOperand e.names e.blocks g.before) q.op.operands (wants_of e.table e.names e.blocks q.owner q.op.kind q.op) j
      operand k.operands at in
      let fits : IsGoodOperand e.names e.blocks g.before operand z.0 = z.2 in
      let c = value_by x (slice_get (vars_of q).choices j) in
      let y = get_below operand.alts c (choice_below q j operand m at fits.chooses) in
      let s = g.local y.0 (all_member (Contains g.before) operand.alts y.0 fits.known (member_at operand.alts c y.0 y.1)) in
      record {
        want = z.0;
        wants = z.1;
        before = g.before;
        fits = fits;
        spot = s.0;
        member = s.1;
        at = y.1 ∙ ap (λ (t : TempId). Some t) (sym s.2);
        block = s.3;
        earlier = s.4;
      }

  module _ (q : Placed) (j : ℕ) (operand : Operand) (r : Reading q j operand) where
    -- the temporary that is read
    pub read_temp : choice_of x (vars_of q) j operand ≡ r.spot.temp
    read_temp = ap (λ (y : Option TempId). unwrap_or y (record { 0 = 0 })) r.at

    pub read_range : slice_get (the_ranges e o x) (choice_of x (vars_of q) j operand).0 ≡ Some (spot_range e o x r.spot)
    read_range = ap (λ (t : TempId). slice_get (the_ranges e o x) t.0) read_temp ∙ range_get e o x numbered r.spot r.member

    -- the definer that stands at the chosen place
    pub read_definer : slice_get (definers_at (definers_of (model_of e o)) operand.alts) (chosen_place (slice_get (vars_of q).choices j) x)
        ≡ Some (definer_at r.spot)
    read_definer =
        ap (slice_get (definers_at (definers_of (model_of e o)) operand.alts)) (placed_choice (slice_get (vars_of q).choices j) x)
        ∙ definer_among e o x numbered r.spot operand.alts (value_by x (slice_get (vars_of q).choices j)) r.member
        (definer_is r.spot r.member).0 r.at

    -- the value of the register at the chosen place is that of its live range
    pub read_register : chosen_value (slice_get (vars_of q).choices j)
        (registers_of (definers_at (definers_of (model_of e o)) operand.alts)) x ≡ Some (spot_range e o x r.spot).reg
    read_register =
        let alts = definers_at (definers_of (model_of e o)) operand.alts in
        let c = chosen_place (slice_get (vars_of q).choices j) x in
        value_get (registers_of alts) c (definer_at r.spot).reg x
        (slice_get-map (λ (d : Definer). d.reg) alts c ∙ ap (option_map (λ (d : Definer). d.reg)) read_definer)

    -- an operand's operation issues, where it does not fall through
    pub reader_goes : falls q.op.kind ≡ false
    reader_goes = by q.op.kind refl
      where
        by : (kind : ExtKind) → q.op.kind ≡ kind → falls kind ≡ false
        by (End Fall) k = let z : Some r.want ≡ None = sym r.wants
            ∙ ap (λ (c : ExtKind). slice_get (wants_of e.table e.names e.blocks q.owner c q.op) j) k in absurd (cc z)
        by (End (Jump to)) k = refl
        by (End (Branch pred sense to)) k = refl
        by (End (Ret value)) k = refl
        by In k = refl
        by Out k = refl
        by (Body so) k = refl
        by (Copy node) k = refl
        by Enter k = refl
        by Leave k = refl

  -- each alternative of an operand is a result of an earlier operation of the block
  pub alternative : (q : Placed) (j : ℕ) (operand : Operand) → Member q (all e o x) → slice_get q.op.operands j ≡ Some operand
      → (y : TempId) → Member y operand.alts
      → (s : Spot) × (Member s (spots e o x)) × (s.temp ≡ y) × (s.definer.block ≡ q.block) × (s.definer.number < q.number)
  alternative q j operand m at y n =
      let g = good_op q m in
      let k = g.keeps in
      let z = zip_get (IsGoodOperand e.names e.blocks g.before) q.op.operands (wants_of e.table e.names e.blocks q.owner q.op.kind q.op) j
      operand k.operands at in
      let fits : IsGoodOperand e.names e.blocks g.before operand z.0 = z.2 in
      g.local y (all_member (Contains g.before) operand.alts y fits.known n)
