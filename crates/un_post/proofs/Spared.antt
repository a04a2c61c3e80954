-- Calls find the clobbered registers free exactly where the constraints of calls are met, whose words on what is before and behind a
-- call hold where the cycles keep the arcs.
use Rattle.std.proofs.Common.{ℕ, ◌≡◌, ◌↔◌, ◌+◌, ◌<◌, ◌≤◌, Bool, true, false, List, [], ◌∷◌, map, filter, refl, sym}
use Rattle.std.proofs.Common.{ap, ◌∙◌, subst, arith, All, eq-eqb}
use Rattle.std.specs.Prelude.{Option, Some, None, not, ◌&&◌, ◌||◌, ◌==◌, nat_le, nat_lt, slice_get, slice_index, if◌then◌else◌}
use Rattle.std.specs.List.{list_any}
use Rattle.std.proofs.lemmas.Bool.Decides.{nat_tests}
use Rattle.un_base.specs.declared.ids.VarId.{VarId}
use Rattle.un_isa.specs.Tables.{in_mask}
use Rattle.un_isa.specs.declared.op.Op.{Op}
use Rattle.un_isa.specs.declared.op.Op.TheVariants.{Call, Mov, Spill, Reload, P2R, R2P, Enter as EnterOp, Leave as LeaveOp}
use Rattle.un_isa.specs.Does.{is_call}
use Rattle.un_isa.proofs.DoesLaws.{call_is}
use Rattle.un_ir.specs.declared.function.Term.TheVariants.{Fall, Jump, Branch, Ret}
use Rattle.un_ir.specs.declared.extended.ExtKind.{ExtKind}
use Rattle.un_ir.specs.declared.extended.ExtKind.TheVariants.{In, Out, Body, End, Copy, Enter, Leave}
use Rattle.un_ir.specs.declared.extended.Ext.{Ext}
use Rattle.un_model.specs.declared.model.Arc.{Arc}
use Rattle.un_model.specs.declared.model.Options.{Options}
use Rattle.un_model.specs.declared.schedule.Issue.{Issue}
use Rattle.un_model.specs.declared.schedule.LiveRange.{LiveRange}
use Rattle.un_model.specs.Instructions.{instruction_of}
use Rattle.un_model.specs.Schedules.{issues_of, value_by, cycle_by}
use Rattle.un_model.specs.Solutions.{SparesRange, IsSpared}
use Rattle.un_model.specs.Variables.{model_of, has_cycle, var_if}
use Rattle.un_lists.proofs.Lists.{Each, Member, each_of, each_member, each_map, each_of_map, member_map, member_map_of, member_filter}
use Rattle.un_lists.proofs.Lists.{member_of_filter, any_of}
use Rattle.un_model.proofs.Placed.{Placed, Region, region_placed, vars_of, issue_at, Spot}
use Rattle.un_model.proofs.PlacedSchedules.{all, spot_range, the_ranges}
use Rattle.un_prop.specs.declared.act.Temp.{Temp}
use Rattle.un_prop.specs.declared.act.UserOf.{UserOf}
use Rattle.un_prop.specs.Acts.{is_active, is_user, at_value}
use Rattle.un_rect.specs.Clobber.{spares, clobber_holds}
use Rattle.un_rect.specs.Spans.{starts, ends, use_time}
use Rattle.un_rect.specs.declared.clobber.ClobberCall.{ClobberCall}
use Rattle.un_kinds.specs.Constraints.{Constraint, meets, AllMet, Clobber}
use Rattle.un_sites.specs.Places.{Place, Definer, definers_of, definer_or}
use Rattle.un_ir.specs.Kinds.{is_call_kind}
use Rattle.un_sites.specs.Postings.{cycle_var, var_or}
use Rattle.un_sites.specs.Rooms.{temps_in, users_of, is_before, is_behind, call_at, calls_but, arcs_or, spared_by, spared_at}
use Rattle.un_sites.specs.Rooms.{spared_in, clobbers_of}
use Rattle.un_post.proofs.Blocks.{blocks, region_places, region_vars, map_twice, places_in, regions_met, in_all, stands_in}
use Rattle.un_post.proofs.BlockTemps.{region_spots, definer_in, temp_of, results_are, spots_in_blocks, spot_all, spot_block, on_is}
use Rattle.un_post.proofs.BlockTemps.{start_is, end_is}
use Rattle.un_post.proofs.Facts.{Given, numbered, times, definer_is}
use Rattle.un_post.proofs.Meeting.{Met}
use Rattle.un_post.proofs.NoSharing.{all_pass}
use Rattle.un_post.proofs.Placing.{place_of, definer_here}
use Rattle.un_model.proofs.Regions.{of_region}
use Rattle.un_post.proofs.Tests.{and_iff}
use Rattle.un_post.proofs.Users.{user_at, user_also, users_in, user_reads}
use Rattle.un_post.proofs.Whole.{issues_each, ranges_each}

-- ---- calls

some_op : (a b : Op) → Some a ≡ Some b → a ≡ b
some_op a b h = cc h

no_copy : (a b c d e : Bool) → (if a then Some Mov else (if b then Some Spill else (if c then Some Reload else (if d then Some P2R else
    (if e then Some R2P else None))))) ≡ Some Call → ⊥
no_copy true b c d e h = cc h
no_copy false true c d e h = cc h
no_copy false false true d e h = cc h
no_copy false false false true e h = cc h
no_copy false false false false true h = cc h
no_copy false false false false false h = cc h

no_frame : (op : Op) (b : Bool) → (op ≡ Call → ⊥) → (if b then None else Some op) ≡ Some Call → ⊥
no_frame op true n h = cc h
no_frame op false n h = n (some_op op Call h)

-- a call is what issues a Call
call_kind : (kind : ExtKind) (n : ℕ) → instruction_of kind n ≡ Some Call → is_call_kind kind ≡ true
call_kind In n h = absurd (cc h)
call_kind Out n h = absurd (cc h)
call_kind (Body so) n h = ap is_call (some_op so.op Call h)
call_kind (End Fall) n h = absurd (cc h)
call_kind (End (Jump to)) n h = absurd (cc h)
call_kind (End (Branch pred true to)) n h = absurd (cc h)
call_kind (End (Branch pred false to)) n h = absurd (cc h)
call_kind (End (Ret value)) n h = absurd (cc h)
call_kind (Copy node) n h = absurd (no_copy (n == 1) (n == 2) (n == 3) (n == 4) (n == 5) h)
call_kind Enter n h = absurd (no_frame EnterOp (n == 0) (λ z. cc z) h)
call_kind Leave n h = absurd (no_frame LeaveOp (n == 0) (λ z. cc z) h)

pub call_instr : (kind : ExtKind) (n : ℕ) → is_call_kind kind ≡ true → instruction_of kind n ≡ Some Call
call_instr (Body so) n h = ap (λ (op : Op). Some op) (call_is so.op h)
call_instr In n h = absurd (cc h)
call_instr Out n h = absurd (cc h)
call_instr (End term) n h = absurd (cc h)
call_instr (Copy node) n h = absurd (cc h)
call_instr Enter n h = absurd (cc h)
call_instr Leave n h = absurd (cc h)

call_timed : (kind : ExtKind) → is_call_kind kind ≡ true → has_cycle kind ≡ true
call_timed (Body so) h = refl
call_timed In h = absurd (cc h)
call_timed Out h = absurd (cc h)
call_timed (End term) h = absurd (cc h)
call_timed (Copy node) h = absurd (cc h)
call_timed Enter h = absurd (cc h)
call_timed Leave h = absurd (cc h)

-- the variable of a cycle has the cycle
cycle_by_kind : (kind : ExtKind) (v end : ℕ) (x : List ℕ) (instr : Option VarId) (choices : List VarId) → has_cycle kind ≡ true
    → slice_index x (var_or (var_if (has_cycle kind) v)).0 ≡ cycle_by x end kind
    (record { instr = instr; cycle = var_if (has_cycle kind) v; choices = choices })
cycle_by_kind In v end x instr choices h = absurd (cc h)
cycle_by_kind Out v end x instr choices h = absurd (cc h)
cycle_by_kind (Body so) v end x instr choices h = refl
cycle_by_kind (End term) v end x instr choices h = refl
cycle_by_kind (Copy node) v end x instr choices h = refl
cycle_by_kind Enter v end x instr choices h = refl
cycle_by_kind Leave v end x instr choices h = refl

pub cycle_is : (q : Placed) (x : List ℕ) → has_cycle q.op.kind ≡ true → slice_index x (cycle_var (place_of q)).0 ≡ (issue_at x q).cycle
cycle_is q x h = let v = vars_of q in cycle_by_kind q.op.kind _ _ x v.instr v.choices h

-- ---- one call

spares_iff : (p q : Bool) (at from last : ℕ) → (p ≡ true → q ≡ true → (from ≤ at) × (at ≤ last) → ⊥)
    ↔ ((not (p && q) || ((nat_lt at from || nat_le (last + 1) at) && true)) ≡ true)
spares_iff false q at from last = (λ h. refl, λ h p. absurd (cc p))
spares_iff true false at from last = (λ h. refl, λ h p q. absurd (cc q))
spares_iff true true at from last = by (nat_lt at from) (nat_le (last + 1) at) refl refl
  where
    by : (u v : Bool) → nat_lt at from ≡ u → nat_le (last + 1) at ≡ v
        → (true ≡ true → true ≡ true → (from ≤ at) × (at ≤ last) → ⊥) ↔ ((not (true && true) || ((u || v) && true)) ≡ true)
    by true v f g = (λ h. refl, λ h p q c. let lo = c.0 in let lt : at < from = grind (arith, nat_tests, f) in absurd (omega arith))
    by false true f g = (λ h. refl, λ h p q c. let hi = c.1 in let lt : last + 1 ≤ at = grind (arith, nat_tests, g) in absurd (omega arith))
    by false false f g = (
      λ h. absurd (
          let lo : from ≤ at = grind (arith, nat_tests, f) in
          let hi : at < last + 1 = grind (arith, nat_tests, g) in
          h refl refl (omega arith, omega arith)),
      λ h. absurd (cc h),
    )

-- a call of which nothing is known beforehand
abbrev plain : VarId → ClobberCall
plain at = record { at = at; before = false; behind = [] }

to_plain : (mask : ℕ) (t : Temp) (c : ClobberCall) (x : List ℕ) → spares mask t c x ≡ true → spares mask t (plain c.at) x ≡ true
to_plain mask t c x h = go (not (is_active t.on x && in_mask mask (slice_index x t.reg.0)))
    (nat_lt (slice_index x c.at.0) (starts t x) || nat_le (ends t x) (slice_index x c.at.0))
    (not (c.before && list_any (λ (u : UserOf). is_user u x) c.behind)) h
  where
    go : (a b d : Bool) → (a || (b && d)) ≡ true → (a || (b && true)) ≡ true
    go true b d h = refl
    go false true d h = refl
    go false false d h = absurd (cc h)

-- and of which it is known which users are behind it
from_plain : (mask : ℕ) (t : Temp) (c : ClobberCall) (x : List ℕ) → spares mask t (plain c.at) x ≡ true
    → (is_active t.on x ≡ true → in_mask mask (slice_index x t.reg.0) ≡ true → c.before ≡ true
    → list_any (λ (u : UserOf). is_user u x) c.behind ≡ true → ⊥)
    → spares mask t c x ≡ true
from_plain mask t c x h none = go (is_active t.on x) (in_mask mask (slice_index x t.reg.0))
    (nat_lt (slice_index x c.at.0) (starts t x) || nat_le (ends t x) (slice_index x c.at.0))
    c.before (list_any (λ (u : UserOf). is_user u x) c.behind) h none
  where
    go : (p q b f g : Bool) → (not (p && q) || (b && true)) ≡ true → (p ≡ true → q ≡ true → f ≡ true → g ≡ true → ⊥)
        → (not (p && q) || (b && not (f && g))) ≡ true
    go false q b f g h n = refl
    go true false b f g h n = refl
    go true true false f g h n = absurd (cc h)
    go true true true false g h n = refl
    go true true true true false h n = refl
    go true true true true true h n = absurd (n refl refl refl refl)

differs : (a b : ℕ) → (not (a == b) ≡ true → ⊥) → a ≡ b
differs a b h = by (a == b) refl
  where
    by : (t : Bool) → (a == b) ≡ t → a ≡ b
    by true e = grind (arith, nat_tests, e)
    by false e = absurd (h (ap not e))

module _ (clobbered : ℕ) (i : Issue) (h : LiveRange) where
  spares_range : (i.instr ≡ Some Call → (let a = i.block in let b = h.block in a.0 ≡ b.0) → (let a = i.op in let b = h.op in a.0 ≡ b.0 → ⊥)
      → h.active ≡ true → in_mask clobbered h.reg ≡ true → (h.from ≤ i.cycle) × (i.cycle ≤ h.last) → ⊥) → SparesRange clobbered i h
  unfolding SparesRange
  spares_range f call act block mask occupies = let a = i.op in let b = h.op in
      differs a.0 b.0 (λ t. f call block (λ same. let z : (a.0 == b.0) ≡ true = eq-eqb a.0 b.0 same in let w : not (a.0 == b.0) ≡ false =
      ap not z in let y : true ≡ false = sym t ∙ w in cc y) act mask occupies)

  pub range_spared : SparesRange clobbered i h → i.instr ≡ Some Call → (let a = i.block in let b = h.block in a.0 ≡ b.0)
      → (let a = i.op in let b = h.op in a.0 ≡ b.0 → ⊥)
      → h.active ≡ true → in_mask clobbered h.reg ≡ true → (h.from ≤ i.cycle) × (i.cycle ≤ h.last) → ⊥
  unfolding SparesRange
  range_spared s call block other act mask occupies = other (s call act block mask occupies)

pub is_spared : (clobbered : ℕ) (issues : List Issue) (h : LiveRange)
    → All (λ (i : Issue). SparesRange clobbered i h) issues ↔ IsSpared clobbered issues h
unfolding IsSpared
is_spared clobbered issues h = (λ k. k, λ k. k)

user_time : (u : UserOf) (x : List ℕ) → is_user u x ≡ true → use_time x u ≡ at_value u.at x
user_time u x h = ap (λ (b : Bool). if b then at_value u.at x else 0) h

user_cycle : (u v : UserOf) (x : List ℕ) → u ≡ v → at_value u.at x ≡ at_value v.at x
user_cycle u v x h = ap (λ (u : UserOf). at_value u.at x) h

-- operations that are kept, by their places
filter_map : {X Y : Type 0} (t : Y → Bool) (f : X → Y) (xs : List X) → filter t (map f xs) ≡ map f (filter (λ x. t (f x)) xs)
filter_map t f [] = refl
filter_map t f (x ∷ xs) = by (t (f x)) refl (filter_map t f xs)
  where
    by : (b : Bool) → t (f x) ≡ b → filter t (map f xs) ≡ map f (filter (λ x. t (f x)) xs)
        → filter t (f x ∷ map f xs) ≡ map f (filter (λ x. t (f x)) (x ∷ xs))
    by true e h = ap (λ (b : Bool). if b then f x ∷ filter t (map f xs) else filter t (map f xs)) e ∙ ap (λ ys. f x ∷ ys) h
        ∙ sym (ap (λ (b : Bool). map f (if b then x ∷ filter (λ x. t (f x)) xs else filter (λ x. t (f x)) xs)) e)
    by false e h = ap (λ (b : Bool). if b then f x ∷ filter t (map f xs) else filter t (map f xs)) e ∙ h
        ∙ sym (ap (λ (b : Bool). map f (if b then x ∷ filter (λ x. t (f x)) xs else filter (λ x. t (f x)) xs)) e)

-- what the arcs of a block say of the cycles of its operations
pub record Ordered (x : List ℕ) (r : Region) (arcs : List Arc) : Type 0 where
  pub before : (d c : Placed) → Member d (region_placed r) → Member c (region_placed r) → is_call_kind c.op.kind ≡ true
      → is_before arcs (place_of d) (place_of c) ≡ true → (issue_at x d).cycle ≤ (issue_at x c).cycle
  pub behind : (c q : Placed) → Member c (region_placed r) → Member q (region_placed r) → is_call_kind c.op.kind ≡ true
      → is_behind arcs (place_of c) (place_of q) ≡ true → (issue_at x c).cycle + 1 ≤ (issue_at x q).cycle

module _ (e : Ext) (o : Options) (x : List ℕ) (given : Given e o x) (clobbered : ℕ) where
  abbrev pub Spares : Spot → Type 0
  Spares s = IsSpared clobbered (issues_of (model_of e o) x) (spot_range e o x s)

  module _ (r : Region) (s : Spot) (mr : Member r (blocks e o x)) (ms : Member s (region_spots r)) (arcs : List Arc) where
    abbrev calls : List Place
    calls = let q = s.definer in calls_but q.number (region_places r)

    abbrev call : Place → ClobberCall
    call c = call_at arcs (region_places r) s.temp (place_of s.definer) c

    -- a call of the block
    one : (q : Placed) → is_call_kind q.op.kind ≡ true
        → ((spot_range e o x s).active ≡ true → in_mask clobbered (spot_range e o x s).reg ≡ true
        → ((spot_range e o x s).from ≤ (issue_at x q).cycle) × ((issue_at x q).cycle ≤ (spot_range e o x s).last) → ⊥)
        ↔ (spares clobbered (temp_of r s) (plain (cycle_var (place_of q))) x ≡ true)
    one q call =
        let h = spot_range e o x s in
        let t = temp_of r s in
        let i = issue_at x q in
        let test = λ (p : Bool) (at from end : ℕ). not (p && in_mask clobbered h.reg) || ((nat_lt at from || nat_le end at) && true) in
        let at = slice_index x (cycle_var (place_of q)).0 in
        let is : spares clobbered t (plain (cycle_var (place_of q))) x ≡ test h.active i.cycle h.from (h.last + 1) =
        ap (λ p. test p at (starts t x) (ends t x)) (on_is e o x given r s mr ms)
        ∙ ap (λ n. test h.active n (starts t x) (ends t x)) (cycle_is q x (call_timed q.op.kind call))
        ∙ ap (λ n. test h.active i.cycle n (ends t x)) (start_is e o x given r s mr ms)
        ∙ ap (λ n. test h.active i.cycle h.from n) (end_is e o x given r s mr ms) in
        let iff = spares_iff h.active (in_mask clobbered h.reg) i.cycle h.from h.last in
        (λ f. is ∙ iff.0 f, λ m. iff.1 (sym is ∙ m))

    -- a user behind a call reads after it, and what is defined before the call is there in the call's cycle
    no_user : Ordered x r arcs → (q : Placed) → Member q (region_placed r) → is_call_kind q.op.kind ≡ true
        → (((spot_range e o x s).from ≤ (issue_at x q).cycle) × ((issue_at x q).cycle ≤ (spot_range e o x s).last) → ⊥)
        → (let c = call (place_of q) in c.before ≡ true → list_any (λ (u : UserOf). is_user u x) c.behind ≡ true → ⊥)
    no_user ordered q mq kind apart before some =
        let d = s.definer in
        let here = filter (λ (p : Placed). is_behind arcs (place_of q) (place_of p)) (region_placed r) in
        let u = any_of (λ (u : UserOf). is_user u x) (users_of (filter (is_behind arcs (place_of q)) (region_places r)) s.temp) some in
        let mu : Member u.0 (users_of (map place_of here) s.temp) =
        subst (λ ps. Member u.0 (users_of ps s.temp)) (filter_map (is_behind arcs (place_of q)) place_of (region_placed r)) u.1 in
        let p = users_in here s.temp u.0 mu in
        let f = member_of_filter (λ (p : Placed). is_behind arcs (place_of q) (place_of p)) (region_placed r) p.user p.member in
        let after = ordered.behind q p.user mq f.0 kind f.1 in
        let full = user_also here (region_placed r) s.temp u.0 p f.0 in
        let le = user_reads e o x given r s mr (spot_all e o x r s mr ms) (spot_block e o x r s ms) u.0 full in
        let at = u.0.at in
        let time : use_time x u.0 ≡ at_value at x = user_time u.0 x u.2 in
        let cycle = user_cycle (user_at p.user p.at p.place) u.0 x p.is in
        let own = times e o x given p.user in
        let from = ordered.before d q (definer_in (region_placed r) s ms) mq kind before in
        apart (from, omega arith)

    spared_here : Ordered x r arcs → Spares s → clobber_holds clobbered (temp_of r s) (map call calls) x ≡ true
    spared_here ordered h =
        let each = (issues_each e o x given (λ (i : Issue). SparesRange clobbered i (spot_range e o x s))).0
        ((is_spared clobbered (issues_of (model_of e o) x) (spot_range e o x s)).1 h) in
        (all_pass (λ c. spares clobbered (temp_of r s) c x) (map call calls)).0 (each_of _ (map call calls) (λ c mc.
        let d = s.definer in
        let t = temp_of r s in
        let p = member_map_of call calls c mc in
        let f = member_of_filter (λ (p : Place). is_call_kind p.it.kind && not (p.op == d.number)) (region_places r) p.0 p.1 in
        let q = member_map_of place_of (region_placed r) p.0 f.0 in
        let pass : (let k = q.0.op in (is_call_kind k.kind && not (q.0.number == d.number)) ≡ true) =
        ap (λ (p : Place). is_call_kind p.it.kind && not (p.op == d.number)) q.2 ∙ f.1 in
        let two = (and_iff (is_call_kind q.0.op.kind) (not (q.0.number == d.number))).1 pass in
        let v = vars_of q.0 in
        let block : q.0.block ≡ d.block = of_region r q.0 q.1 ∙ sym (spot_block e o x r s ms) in
        let other : q.0.number ≡ d.number → ⊥ = λ same. (let z : not (q.0.number == d.number) ≡ false =
        ap not (eq-eqb q.0.number d.number same) in let y : true ≡ false = sym two.1 ∙ z in cc y) in
        let k = each_member _ (all e o x) q.0 each (in_all e o x r q.0 mr q.1) in
        let apart = range_spared clobbered (issue_at x q.0) (spot_range e o x s) k (call_instr q.0.op.kind (value_by x v.instr) two.0) block
        other in
        let holds = (one q.0 two.0).0 apart in
        let here = from_plain clobbered t (call (place_of q.0)) x holds (λ on mask before some.
        no_user ordered q.0 q.1 two.0 (apart (sym (on_is e o x given r s mr ms) ∙ on) mask) before some) in
        subst (λ c. spares clobbered t c x ≡ true) (ap call q.2 ∙ p.2) here))

    here_spared : clobber_holds clobbered (temp_of r s) (map call calls) x ≡ true → Spares s
    here_spared h =
        let each = (all_pass (λ c. spares clobbered (temp_of r s) c x) (map call calls)).1 h in
        (is_spared clobbered (issues_of (model_of e o) x) (spot_range e o x s)).0
        ((issues_each e o x given (λ (i : Issue). SparesRange clobbered i (spot_range e o x s))).1
        (each_of _ (all e o x) (λ q mq. spares_range clobbered (issue_at x q) (spot_range e o x s) (λ call_is block other.
        let d = s.definer in
        let v = vars_of q in
        let kind = call_kind q.op.kind (value_by x v.instr) call_is in
        let here = stands_in e o x r q mr mq (block ∙ spot_block e o x r s ms) in
        let off : (q.number == d.number) ≡ false = unequal q.number d.number other in
        let pass = (and_iff (is_call_kind q.op.kind) (not (q.number == d.number))).0 (kind, ap not off) in
        let mc : Member (call (place_of q)) (map call calls) = member_map call calls (place_of q)
        (member_filter (λ (p : Place). is_call_kind p.it.kind && not (p.op == d.number)) (region_places r) (place_of q)
        (member_map place_of (region_placed r) q here) pass) in
        (one q kind).1 (to_plain clobbered (temp_of r s) (call (place_of q)) x
        (each_member _ (map call calls) (call (place_of q)) each mc))))))
      where
        unequal : (a b : ℕ) → (a ≡ b → ⊥) → (a == b) ≡ false
        unequal a b h = by (a == b) refl
          where
            by : (t : Bool) → (a == b) ≡ t → t ≡ false
            by false e = refl
            by true e = absurd (h (grind (arith, nat_tests, e)))

    -- what is posted of it
    posted_is : spared_at clobbered arcs (definers_of (model_of e o)) (region_places r) s.temp ≡ Clobber clobbered (temp_of r s)
        (map call calls)
    posted_is =
        let m = spot_all e o x r s mr ms in
        ap (λ (d : Option Definer). spared_by clobbered arcs (region_places r) s.temp (definer_or d))
        (definer_here e o x (numbered e o x given) s m (definer_is e o x given s m).0)

  module _ (arcs : List (List Arc)) (r : Region) (mr : Member r (blocks e o x)) where
    abbrev own : List Arc
    own = arcs_or (slice_get arcs r.block)

    abbrev posted_at : Spot → Constraint
    posted_at s = spared_at clobbered own (definers_of (model_of e o)) (region_places r) s.temp

    posted : spared_in clobbered arcs (definers_of (model_of e o)) r.block r.number r.owner (region_vars r) ≡ map posted_at (region_spots r)
    posted =
        let ds = definers_of (model_of e o) in
        ap (λ (qs : List Place). map (spared_at clobbered own ds qs) (temps_in qs)) (places_in r)
        ∙ ap (map (spared_at clobbered own ds (region_places r))) (results_are (region_placed r))
        ∙ map_twice (spared_at clobbered own ds (region_places r)) (λ (s : Spot). s.temp) (region_spots r)

    pub block_met : Ordered x r own → Each Spares (region_spots r) → Met x
        (spared_in clobbered arcs (definers_of (model_of e o)) r.block r.number r.owner (region_vars r))
    block_met ordered h =
        let P = λ (c : Constraint). meets c x ≡ true in
        subst (Met x) (sym posted) (each_map P posted_at (region_spots r) (each_of _ (region_spots r) (λ s m.
        subst P (sym (posted_is r s mr m own)) (spared_here r s mr m own ordered (each_member Spares (region_spots r) s h m)))))

    pub met_block : Met x (spared_in clobbered arcs (definers_of (model_of e o)) r.block r.number r.owner (region_vars r))
        → Each Spares (region_spots r)
    met_block h =
        let P = λ (c : Constraint). meets c x ≡ true in
        let each = each_of_map P posted_at (region_spots r) (subst (Met x) posted h) in
        each_of Spares (region_spots r) (λ s m. here_spared r s mr m own
        (subst P (posted_is r s mr m own) (each_member _ (region_spots r) s each m)))

module _ (e : Ext) (o : Options) (x : List ℕ) (given : Given e o x) where
  abbrev pub mask : ℕ
  mask = let t = e.table in t.clobbered

  abbrev pub AreSpared : Type 0
  AreSpared = All (IsSpared mask (issues_of (model_of e o) x)) (the_ranges e o x)

  -- calls that meet what is posted spare the temporaries
  pub met_spared : AllMet (clobbers_of (model_of e o)) x → AreSpared
  met_spared h =
      let ranges = ranges_each e o x given (IsSpared mask (issues_of (model_of e o) x)) in
      let split = spots_in_blocks e o x (λ s. IsSpared mask (issues_of (model_of e o) x) (spot_range e o x s)) in
      let b = (regions_met e o x (spared_in mask (model_of e o).arcs (definers_of (model_of e o)))).0 h in
      ranges.1 (split.1 (each_of _ (blocks e o x) (λ r m. met_block e o x given mask (model_of e o).arcs r m
      (each_member _ (blocks e o x) r b m))))

  -- and calls that spare them meet it, where the cycles keep the arcs
  pub spared : ((r : Region) → Member r (blocks e o x) → Ordered x r (arcs_or (slice_get (model_of e o).arcs r.block)))
      → AreSpared ↔ AllMet (clobbers_of (model_of e o)) x
  spared ordered = (
    λ h.
        let ranges = ranges_each e o x given (IsSpared mask (issues_of (model_of e o) x)) in
        let split = spots_in_blocks e o x (λ s. IsSpared mask (issues_of (model_of e o) x) (spot_range e o x s)) in
        let b = split.0 (ranges.0 h) in
        (regions_met e o x (spared_in mask (model_of e o).arcs (definers_of (model_of e o)))).1 (each_of _ (blocks e o x) (λ r m.
        block_met e o x given mask (model_of e o).arcs r m (ordered r m) (each_member _ (blocks e o x) r b m))),
    met_spared,
  )
