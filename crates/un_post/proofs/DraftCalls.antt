-- The places of a block's calls among the operations of its length, and copies that issue a draft.
use Rattle.std.proofs.Common.{ℕ, zero, suc, ◌≡◌, ◌+◌, ◌<◌, ◌≤◌, Bool, true, false, List, [], ◌∷◌, length, map, inl, inr, refl, sym, ap, ◌∙◌}
use Rattle.std.proofs.Common.{arith, eq-eqb}
use Rattle.std.specs.Prelude.{◌==◌, replicate, slice_index, if◌then◌else◌}
use Rattle.std.proofs.lemmas.Bool.Decides.{nat_tests}
use Rattle.std.proofs.lemmas.List.{get_or_append_left, get_or-append-add, length-map}
use Rattle.un_base.specs.declared.ids.VarId.{VarId}
use Rattle.un_ir.specs.declared.extended.ExtKind.{ExtKind}
use Rattle.un_ir.specs.declared.extended.ExtKind.TheVariants.{In, Out, Body, End, Copy, Enter, Leave}
use Rattle.un_ir.specs.declared.extended.Ext.{Ext}
use Rattle.un_ir.specs.Extended.{is_copy}
use Rattle.un_model.specs.declared.model.Options.{Options}
use Rattle.un_model.specs.Schedules.{schedule_of}
use Rattle.un_model.specs.Solutions.{IsSchedule, latency_gap}
use Rattle.un_model.specs.Variables.{model_of}
use Rattle.un_lists.proofs.Lists.{Each, Member, member_map, member_filter}
use Rattle.un_model.proofs.Placed.{Placed, Region, region_placed, issue_at}
use Rattle.un_model.proofs.PlacedSchedules.{all}
use Rattle.un_press.proofs.Counting.{Differ}
use Rattle.un_length.specs.Blocks.{cycle_of}
use Rattle.un_length.specs.declared.block.Task.{Task}
use Rattle.un_sites.specs.Lengths.{is_task, task_place, var_in}
use Rattle.un_sites.specs.Places.{Place, time_of}
use Rattle.un_post.proofs.Blocks.{blocks, region_places, stands_in}
use Rattle.un_post.proofs.Facts.{Given}
use Rattle.un_post.proofs.Placing.{place_of}
use Rattle.un_rows.specs.declared.draft.Owed.{Owed}
use Rattle.un_post.proofs.RoomBeside.{ops, cycle_is, task, IsBeside}
use Rattle.un_post.proofs.Drafted.{cycles, end, Issues, AllIssue, all_cycles}

-- ---- places

-- an operation's variable has a place
place_within : (us : List Task) (u : Task) → Member u us → task_place us u.at < length us
place_within [] u m = elim m [ ]
place_within (t ∷ ts) u m = by (λ n. place_within ts u n) (t.at.0 == u.at.0) refl m
  where
    by : (Member u ts → task_place ts u.at < length ts) → (b : Bool) → (t.at.0 == u.at.0) ≡ b → Member u (t ∷ ts)
        → (if b then 0 else suc (task_place ts u.at)) < length (t ∷ ts)
    by rest true e m = omega arith
    by rest false e (inl same) = let one : (t.at.0 == u.at.0) ≡ true = eq-eqb t.at.0 u.at.0 (ap (λ (v : Task). v.at.0) same) in
        let z : true ≡ false = sym one ∙ e in absurd (cc z)
    by rest false e (inr m) = let lt = rest m in omega (arith, lt)

-- and there stands its value
value_there : (x : List ℕ) (us : List Task) (v : VarId) → task_place us v < length us
    → slice_index (map (cycle_of x) us) (task_place us v) ≡ slice_index x v.0
value_there x [] v lt = absurd (omega (arith, lt))
value_there x (t ∷ ts) v lt = by (λ le. value_there x ts v le) (t.at.0 == v.0) refl lt
  where
    by : (task_place ts v < length ts → slice_index (map (cycle_of x) ts) (task_place ts v) ≡ slice_index x v.0) → (b : Bool)
        → (t.at.0 == v.0) ≡ b → (if b then 0 else suc (task_place ts v)) < length (t ∷ ts)
        → slice_index (map (cycle_of x) (t ∷ ts)) (if b then 0 else suc (task_place ts v)) ≡ slice_index x v.0
    by rest true e lt = let same : t.at.0 ≡ v.0 = grind (arith, nat_tests, e) in ap (slice_index x) same
    by rest false e lt = rest (omega (arith, lt))

-- ---- by kinds

pub copy_other : (kind : ExtKind) → is_copy kind ≡ true → is_task kind ≡ false
copy_other (Copy node) h = refl
copy_other In h = absurd (cc h)
copy_other Out h = absurd (cc h)
copy_other (Body so) h = absurd (cc h)
copy_other (End term) h = absurd (cc h)
copy_other Enter h = absurd (cc h)
copy_other Leave h = absurd (cc h)

-- ---- the first of several

pub firsts : {A : Type 0} → ℕ → List A → List A
firsts zero xs = []
firsts (suc n) [] = []
firsts (suc n) (x ∷ xs) = x ∷ firsts n xs

pub each_first : {A : Type 0} (P : A → Type 0) (n : ℕ) (xs : List A) → Each P xs → Each P (firsts n xs)
unfolding firsts
each_first P zero xs h = tt
each_first P (suc n) [] h = tt
each_first P (suc n) (x ∷ xs) h = (h.0, each_first P n xs h.1)

pub differ_first : {A : Type 0} (n : ℕ) (xs : List A) → Differ xs → Differ (firsts n xs)
unfolding firsts
differ_first zero xs h = tt
differ_first (suc n) [] h = tt
differ_first {A} (suc n) (x ∷ xs) h = (each_first (λ (y : A). x ≡ y → ⊥) n xs h.0, differ_first n xs h.1)

module _ (e : Ext) (o : Options) (x : List ℕ) (given : Given e o x)
    (schedule : IsSchedule (latency_gap e.table) (model_of e o).domains (model_of e o) x (schedule_of (model_of e o) x))
    (r : Region) (mr : Member r (blocks e o x)) where
  abbrev own : List Task
  own = ops e o x given schedule r mr

  -- the place of an operation of the length has its cycle
  pub at_place_of : (ps : List Placed) (q : Placed) → Member q (region_placed r) → is_task q.op.kind ≡ true
      → slice_index (all_cycles e o x given schedule r mr ps) (task_place own (var_in (time_of (place_of q)))) ≡ (issue_at x q).cycle
  at_place_of ps q mq t =
      let u = task e o x given schedule r mr q in
      let mu : Member u own = member_map _ _ _ (member_filter (λ (p : Place). is_task p.it.kind) (region_places r) (place_of q)
      (member_map place_of (region_placed r) q mq) t) in
      let lt = place_within own u mu in
      let long = length-map own (cycle_of x) in
      get_or_append_left (map (cycle_of x) own) (cycles e o x given schedule r mr ps) 0 (task_place own u.at) (omega (arith, lt, long))
      ∙ value_there x own u.at lt ∙ cycle_is e o x given schedule r mr q t

  -- behind them stand those of a draft
  pub behind_own : (ps : List Placed) (i : ℕ)
      → slice_index (all_cycles e o x given schedule r mr ps) (length own + i) ≡ slice_index (cycles e o x given schedule r mr ps) i
  behind_own ps i =
      let same : length own + i ≡ length (map (cycle_of x) own) + i = ap (λ (n : ℕ). n + i) (sym (length-map own (cycle_of x))) in
      ap (slice_index (all_cycles e o x given schedule r mr ps)) same
      ∙ get_or-append-add (map (cycle_of x) own) (cycles e o x given schedule r mr ps) i 0

  -- an operation of the block that its length does not speak of
  pub beside_of : (p : Placed) → Member p (all e o x) → p.block ≡ r.block → is_task p.op.kind ≡ false
      → (issue_at x p).cycle < end e o x given schedule r mr → IsBeside e o x given schedule r mr p
  beside_of p m block other before = record { member = stands_in e o x r p mr m block; other = other; before = before }

  -- several that issue the same
  pub same_issue : (u : Owed) (n : ℕ) (ps : List Placed) → n ≤ length ps → Each (Issues e o x given schedule r mr u) ps
      → AllIssue e o x given schedule r mr (replicate n u) (firsts n ps)
  unfolding firsts
  same_issue u zero ps le each = tt
  same_issue u (suc n) [] le each = absurd (omega (arith, le))
  same_issue u (suc n) (p ∷ ps) le each = (each.0, same_issue u n ps (omega (arith, le)) each.1)
