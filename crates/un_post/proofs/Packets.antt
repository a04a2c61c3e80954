-- The packets of all blocks have room exactly where the constraints of each block's packets are met.
use Rattle.std.proofs.Common.{ℕ, zero, suc, ◌≡◌, ◌↔◌, ◌+◌, ◌-◌, ◌<◌, ◌≤◌, Bool, true, false, List, [], ◌∷◌, ◌++◌, length, map, inl}
use Rattle.std.proofs.Common.{inr, refl, sym, ap, ◌∙◌, subst, arith, eq-eqb}
use Rattle.std.specs.Prelude.{Option, Some, None, ◌&&◌, ◌||◌, ◌==◌, nat_eq, slice_get, slice_index, sum_by, is_some}
use Rattle.std.specs.Prelude.{if◌then◌else◌}
use Rattle.std.proofs.lemmas.Bool.Decides.{nat_tests}
use Rattle.std.proofs.lemmas.List.Sums.{sum_by-cons, sum_by-append}
use Rattle.un_isa.specs.declared.op.Op.{Op}
use Rattle.un_domains.specs.declared.domain.Domain.TheVariants.{Range}
use Rattle.un_isa.specs.declared.table.Needs.{Needs}
use Rattle.un_isa.specs.declared.table.Table.{Table}
use Rattle.un_ir.specs.declared.function.Term.TheVariants.{Fall, Jump, Branch, Ret}
use Rattle.un_ir.specs.declared.extended.ExtKind.{ExtKind}
use Rattle.un_ir.specs.declared.extended.ExtKind.TheVariants.{In, Out, Body, End, Copy, Enter, Leave}
use Rattle.un_ir.specs.declared.extended.ExtBlock.{ExtBlock}
use Rattle.un_ir.specs.declared.extended.Ext.{Ext}
use Rattle.un_model.specs.declared.model.Options.{Options}
use Rattle.un_model.specs.declared.schedule.Issue.{Issue}
use Rattle.un_isa.specs.declared.packet_counts.Resource.{Resource}
use Rattle.un_model.specs.Instructions.{instruction_of, needs_by}
use Rattle.un_model.specs.Pairs.{joined}
use Rattle.un_ir.specs.Kinds.{is_delimiter, issues_kind}
use Rattle.un_model.specs.Schedules.{schedule_of, issues_of, value_by}
use Rattle.un_model.specs.Solutions.{KeepsPackets, HasRoom, Fits, share_of, issues_at, taken}
use Rattle.un_isa.specs.PacketCounts.{places_of, share_of as need_of}
use Rattle.un_model.specs.Variables.{model_of, has_cycle, var_if, cycle_place, cycle_domain, own_horizon}
use Rattle.un_lists.proofs.Lists.{Pairwise, Member, each_of, each_member, member_map_of, member_of_filter, length_get}
use Rattle.un_model.proofs.OpDomains.{in_entry}
use Rattle.un_model.proofs.Placed.{Placed, Region, region_placed, vars_of, issue_at, issues_are}
use Rattle.un_model.proofs.PlacedSchedules.{all}
use Rattle.un_prop.specs.Acts.{act_number, is_active}
use Rattle.un_slots.specs.declared.item.Item.{Item}
use Rattle.un_slots.specs.Slots.{share_at, taken_by, taken as taken_in}
use Rattle.un_slots.specs.SlotLaws.{holds_fits, fits_holds}
use Rattle.un_kinds.specs.Constraints.{AllMet, PerCycle}
use Rattle.un_sites.specs.Places.{Place, act_of, by_number}
use Rattle.un_sites.specs.Postings.{cycle_var, var_or, with_kind}
use Rattle.un_sites.specs.Rooms.{item_of, packets_in, packets_of}
use Rattle.un_post.proofs.Blocks.{region_owner, blocks, region_places, region_vars, places_in, regions_met, in_all, rising}
use Rattle.un_post.proofs.Cycles.{cycle_sits}
use Rattle.un_post.proofs.Facts.{Given, falls, good_op, in_domains, acts, numbers}
use Rattle.un_root.proofs.Eaches.{all_each}
use Rattle.un_post.proofs.Meeting.{Met}
use Rattle.un_post.proofs.Placing.{place_of}
use Rattle.un_model.proofs.Regions.{placed_regions, of_region}
use Rattle.un_post.proofs.Spared.{cycle_is}

-- ---- resources

-- what issues nothing takes nothing
none_taken : (t : Table) (r : Resource) → share_of t r None ≡ 0
none_taken t r = refl

some_taken : (t : Table) (r : Resource) (op : Op) → need_of r (needs_by t (Some op)) ≡ share_of t r (Some op)
some_taken t r op = refl

share_get : (r : Resource) (us : List Needs) (n : ℕ) (u : Needs) → slice_get us n ≡ Some u → share_at r us n ≡ need_of r u
share_get r [] n u e = absurd (cc e)
share_get r (v ∷ us) zero u e = let same : v ≡ u = cc e in ap (need_of r) same
share_get r (v ∷ us) (suc n) u e = share_get r us n u e

-- ---- kinds

issues_none : (kind : ExtKind) (n : ℕ) → issues_kind kind ≡ false → instruction_of kind n ≡ None
issues_none In n h = refl
issues_none Out n h = refl
issues_none (End Fall) n h = refl
issues_none (End (Jump to)) n h = absurd (cc h)
issues_none (End (Branch pred sense to)) n h = absurd (cc h)
issues_none (End (Ret value)) n h = absurd (cc h)
issues_none (Body so) n h = absurd (cc h)
issues_none (Copy node) n h = absurd (cc h)
issues_none Enter n h = absurd (cc h)
issues_none Leave n h = absurd (cc h)

issues_some : (kind : ExtKind) → issues_kind kind ≡ true → (has_cycle kind ≡ true) × (falls kind ≡ false) × (is_delimiter kind ≡ false)
issues_some In h = absurd (cc h)
issues_some Out h = absurd (cc h)
issues_some (End Fall) h = absurd (cc h)
issues_some (End (Jump to)) h = (refl, refl, refl)
issues_some (End (Branch pred sense to)) h = (refl, refl, refl)
issues_some (End (Ret value)) h = (refl, refl, refl)
issues_some (Body so) h = (refl, refl, refl)
issues_some (Copy node) h = (refl, refl, refl)
issues_some Enter h = (refl, refl, refl)
issues_some Leave h = (refl, refl, refl)

-- ---- sums

sum_none : {X : Type 0} (f : X → ℕ) (xs : List X) → ((x : X) → Member x xs → f x ≡ 0) → sum_by f xs ≡ 0
sum_none f [] h = refl
sum_none f (x ∷ xs) h =
    let cons = sum_by-cons f x xs in
    let here = h x (inl refl) in
    let rest = sum_none f xs (λ y m. h y (inr m)) in
    omega arith

pub sum_map : {X Y : Type 0} (f : Y → ℕ) (g : X → Y) (xs : List X) → sum_by f (map g xs) ≡ sum_by (λ x. f (g x)) xs
sum_map f g [] = refl
sum_map f g (x ∷ xs) = sum_by-cons f (g x) (map g xs) ∙ ap (λ n. f (g x) + n) (sum_map f g xs) ∙ sym (sum_by-cons (λ x. f (g x)) x xs)

pub sum_part : {X Y : Type 0} (f : Y → ℕ) (g : X → List Y) (xs : List X) (x : X) → Member x xs
    → sum_by f (g x) ≤ sum_by f (joined (map g xs))
sum_part f g [] x m = elim m [ ]
sum_part f g (y ∷ ys) x (inl e) =
    let a = sum_by-append f (g y) (joined (map g ys)) in
    let same : sum_by f (g y) ≡ sum_by f (g x) = ap (λ z. sum_by f (g z)) e in omega arith
sum_part f g (y ∷ ys) x (inr m) =
    let a = sum_by-append f (g y) (joined (map g ys)) in
    let le = sum_part f g ys x m in omega arith

-- a sum over blocks, of which those with the number b alone count
sum_one : (f : Placed → ℕ) (b n : ℕ) (rs : List Region) → Pairwise (λ (r s : Region). r.block < s.block) rs
    → ((r : Region) → Member r rs → (r.block ≡ b → ⊥) → sum_by f (region_placed r) ≡ 0)
    → ((r : Region) → Member r rs → r.block ≡ b → sum_by f (region_placed r) ≤ n) → sum_by f (joined (map region_placed rs)) ≤ n
sum_one f b n [] rise none one = omega arith
sum_one f b n (r ∷ rs) rise none one = by (r.block == b) refl (sum_one f b n rs rise.1 (λ s m. none s (inr m)) (λ s m. one s (inr m)))
  where
    split : sum_by f (region_placed r ++ joined (map region_placed rs)) ≡ sum_by f (region_placed r) + sum_by f
        (joined (map region_placed rs))
    split = sum_by-append f (region_placed r) (joined (map region_placed rs))

    rest_none : (ss : List Region) → ((s : Region) → Member s ss → sum_by f (region_placed s) ≡ 0)
        → sum_by f (joined (map region_placed ss)) ≡ 0
    rest_none [] h = refl
    rest_none (s ∷ ss) h =
        let a = sum_by-append f (region_placed s) (joined (map region_placed ss)) in
        let here = h s (inl refl) in
        let more = rest_none ss (λ t m. h t (inr m)) in omega arith

    by : (t : Bool) → (r.block == b) ≡ t → sum_by f (joined (map region_placed rs)) ≤ n
        → sum_by f (region_placed r ++ joined (map region_placed rs)) ≤ n
    by true e later =
        let same : r.block ≡ b = grind (arith, nat_tests, e) in
        let rest = rest_none rs (λ s m. none s (inr m) (λ equal. let lt = each_member (λ (s : Region). r.block < s.block) rs s rise.0 m in
        absurd (omega arith))) in
        let here = one r (inl refl) same in
        let whole = split in
        omega arith
    by false e later =
        let zero_here = none r (inl refl) (λ same. (let t : (r.block == b) ≡ true = eq-eqb r.block b same in let z : true ≡ false = sym t
        ∙ e in cc z)) in
        let whole = split in
        omega arith

pub no_room : (t : Table) (issues : List Issue) (b c : ℕ) → ((resource : Resource) → Fits t issues b c resource) ↔ HasRoom t issues b c
unfolding HasRoom
no_room t issues b c = (λ h. h, λ h. h)

module _ (e : Ext) (o : Options) (x : List ℕ) (given : Given e o x) where
  -- what an operation takes in cycle c, where it is of block b
  abbrev pub share : Resource → ℕ → ℕ → Placed → ℕ
  share resource b c q = if issues_at b c (issue_at x q) then share_of e.table resource (issue_at x q).instr else 0

  -- an operation as an item
  one_taken : (resource : Resource) (b c : ℕ) (q : Placed) → Member q (all e o x) → q.block ≡ b → issues_kind q.op.kind ≡ true
      → taken_by resource c x (item_of e.table (place_of q)) ≡ share resource b c q
  one_taken resource b c q m block kind =
      let known = issues_some q.op.kind kind in
      let i = issue_at x q in
      let on = act_of (place_of q) in
      let at = slice_index x (cycle_var (place_of q)).0 in
      let u = share_at resource (by_number (needs_by e.table) q.op.kind) (act_number on x) in
      let here : (q.block == b) ≡ true = eq-eqb q.block b block in
      let act : i.active ≡ is_some i.instr = ap (λ d. d || is_some i.instr) known.2 in
      ap (λ a. if a && nat_eq at c then u else 0) (acts e o x given q m known.1 ∙ act)
      ∙ ap (λ n. if is_some i.instr && nat_eq n c then u else 0) (cycle_is q x known.0)
      ∙ ap (λ n. if is_some i.instr && nat_eq i.cycle c then n else 0)
      (share_get resource _ (act_number on x) _ (numbers e o x given (needs_by e.table) q m))
      ∙ by i.instr (nat_eq i.cycle c)
      ∙ ap (λ a. if a && nat_eq i.cycle c then share_of e.table resource i.instr else 0) (sym here)
    where
      by : (instr : Option Op) (b : Bool) → (if is_some instr && b then need_of resource (needs_by e.table instr) else 0) ≡
          (if true && b then share_of e.table resource instr else 0)
      by None true = sym (none_taken e.table resource)
      by None false = refl
      by (Some op) true = some_taken e.table resource op
      by (Some op) false = refl

  not_taken : (resource : Resource) (b c : ℕ) (q : Placed) → issues_kind q.op.kind ≡ false → share resource b c q ≡ 0
  not_taken resource b c q kind =
      let v = vars_of q in
      let none : (issue_at x q).instr ≡ None = issues_none q.op.kind (value_by x v.instr) kind in
      ap (λ i. if issues_at b c (issue_at x q) then share_of e.table resource i else 0) none
      ∙ ap (λ n. if issues_at b c (issue_at x q) then n else 0) (none_taken e.table resource) ∙ same (issues_at b c (issue_at x q)) 0
    where
      same : (t : Bool) (n : ℕ) → (if t then n else n) ≡ n
      same true n = refl
      same false n = refl

  -- the items of a block take what its operations take
  all_taken : (resource : Resource) (b c : ℕ) (qs : List Placed) → ((q : Placed) → Member q qs → (Member q (all e o x)) × (q.block ≡ b))
      → taken_in resource (map (item_of e.table) (with_kind issues_kind (map place_of qs))) x c ≡ sum_by (share resource b c) qs
  all_taken resource b c [] h = refl
  all_taken resource b c (q ∷ qs) h = by (all_taken resource b c qs (λ p m. h p (inr m))) (issues_kind q.op.kind) refl
    where
      rest : List Item
      rest = map (item_of e.table) (with_kind issues_kind (map place_of qs))

      by : taken_in resource rest x c ≡ sum_by (share resource b c) qs → (t : Bool) → issues_kind q.op.kind ≡ t
          → taken_in resource (map (item_of e.table) (with_kind issues_kind (map place_of (q ∷ qs)))) x c ≡ sum_by
          (share resource b c) (q ∷ qs)
      by more true k =
          let here = h q (inl refl) in
          ap (λ (t : Bool). taken_in resource (map (item_of e.table)
          (if t then place_of q ∷ with_kind issues_kind (map place_of qs) else with_kind issues_kind (map place_of qs))) x c) k
          ∙ sum_by-cons (taken_by resource c x) (item_of e.table (place_of q)) rest
          ∙ ap (λ n. n + taken_in resource rest x c) (one_taken resource b c q here.0 here.1 k)
          ∙ ap (λ n. share resource b c q + n) more ∙ sym (sum_by-cons (share resource b c) q qs)
      by more false k =
          let zero_here = not_taken resource b c q k in
          let cons = sum_by-cons (share resource b c) q qs in
          let next : sum_by (share resource b c) qs ≡ sum_by (share resource b c) (q ∷ qs) = omega arith in
          ap (λ (t : Bool). taken_in resource (map (item_of e.table)
          (if t then place_of q ∷ with_kind issues_kind (map place_of qs) else with_kind issues_kind (map place_of qs))) x c) k
          ∙ more ∙ next

  abbrev items : Region → List Item
  items r = map (item_of e.table) (with_kind issues_kind (region_places r))

  region_taken : (resource : Resource) (r : Region) (c : ℕ) → Member r (blocks e o x)
      → taken_in resource (items r) x c ≡ sum_by (share resource r.block c) (region_placed r)
  region_taken resource r c m = all_taken resource r.block c (region_placed r) (λ q n. (in_all e o x r q m n, of_region r q n))

  -- what all operations take in a cycle of a block
  pub whole_taken : (resource : Resource) (b c : ℕ) → taken e.table resource (issues_of (model_of e o) x) b c ≡ sum_by (share resource b c)
      (joined (map region_placed (blocks e o x)))
  whole_taken resource b c =
      ap (λ is. taken e.table resource is b c) (issues_are x 0 0 0 e.blocks) ∙ sum_map _ (issue_at x) (all e o x)
      ∙ ap (sum_by (share resource b c)) (placed_regions 0 0 0 e.blocks)

  pub elsewhere : (resource : Resource) (b c : ℕ) (r : Region) → (r.block ≡ b → ⊥) → sum_by (share resource b c) (region_placed r) ≡ 0
  elsewhere resource b c r other = sum_none (share resource b c) (region_placed r) (λ q m.
      let block = of_region r q m in
      let off : (q.block == b) ≡ false = unequal q.block b (λ same. other (sym block ∙ same)) in
      ap (λ (t : Bool). if t && nat_eq (issue_at x q).cycle c then share_of e.table resource (issue_at x q).instr else 0) off)
    where
      unequal : (a b : ℕ) → (a ≡ b → ⊥) → (a == b) ≡ false
      unequal a b h = by (a == b) refl
        where
          by : (t : Bool) → (a == b) ≡ t → t ≡ false
          by false e = refl
          by true e = absurd (h (grind (arith, nat_tests, e)))

  -- an operation issues before the horizon of its block
  early : (q : Placed) → Member q (all e o x) → has_cycle q.op.kind ≡ true
      → (let owner = q.owner in slice_index x (cycle_var (place_of q)).0 < owner.horizon)
  early q m timed = by q.op.kind refl timed
    where
      below : (kind : ExtKind) (lo : ℕ) → q.op.kind ≡ kind → cycle_domain (own_horizon q.owner) kind ≡ Some
          (Range lo (own_horizon q.owner - 1)) → has_cycle kind ≡ true
          → (let owner = q.owner in slice_index x (cycle_var (place_of q)).0 < owner.horizon)
      below kind lo k d h =
          let owner = q.owner in
          let sits = cycle_sits e o x (in_entry e o x q) q (Range lo (own_horizon q.owner - 1)) (in_domains e o x given q m)
          (ap (cycle_domain (own_horizon q.owner)) k ∙ d) in
          let hi = sits.1 in
          let g = good_op e o x given q m in
          let b = g.block in
          let long = b.horizon in
          let var : slice_index x (cycle_var (place_of q)).0 ≡ slice_index x (q.first + cycle_place q.op) =
          ap (λ (t : Bool). slice_index x (var_or (var_if t (q.first + cycle_place q.op))).0) timed in
          omega arith

      by : (kind : ExtKind) → q.op.kind ≡ kind → has_cycle kind ≡ true
          → (let owner = q.owner in slice_index x (cycle_var (place_of q)).0 < owner.horizon)
      by In k h = absurd (cc h)
      by Out k h = absurd (cc h)
      by (Body so) k h = below (Body so) 1 k refl h
      by (End term) k h = below (End term) 1 k refl h
      by (Copy node) k h = below (Copy node) 0 k refl h
      by Enter k h = below Enter 0 k refl h
      by Leave k h = below Leave 0 k refl h

  -- an item of a block is an operation of it
  item_place : (r : Region) (i : Item) → Member i (items r) → (q : Placed) × (Member q (region_placed r)) × (issues_kind q.op.kind ≡ true)
      × (item_of e.table (place_of q) ≡ i)
  item_place r i m =
      let a = member_map_of (item_of e.table) (with_kind issues_kind (region_places r)) i m in
      let f = member_of_filter (λ (p : Place). issues_kind p.it.kind) (region_places r) a.0 a.1 in
      let q = member_map_of place_of (region_placed r) a.0 f.0 in
      (q.0, q.1, ap (λ (p : Place). issues_kind p.it.kind) q.2 ∙ f.1, ap (item_of e.table) q.2 ∙ a.2)

  pub of_block : (r : Region) → Member r (blocks e o x)
      → ((resource : Resource) (c : ℕ) → sum_by (share resource r.block c) (region_placed r) ≤ places_of resource)
      ↔ Met x (packets_in e.table r.block r.number r.owner (region_vars r))
  of_block r mr =
      let owner = r.owner in
      let posted : packets_in e.table r.block r.number r.owner (region_vars r) ≡ PerCycle (items r) owner.horizon ∷ [] =
      ap (λ (ps : List Place). PerCycle (map (item_of e.table) (with_kind issues_kind ps)) owner.horizon ∷ []) (places_in r) in (
        λ h. subst (Met x) (sym posted) (
          fits_holds (items r) owner.horizon x (record {
            room = λ resource c.
                let same = region_taken resource r c mr in
                let le = h resource c in
                omega arith;
            early = all_each _ (items r) (each_of _ (items r) (λ i m.
                let q = item_place r i m in
                let mq = in_all e o x r q.0 mr q.1 in
                let lt = early q.0 mq (issues_some q.0.op.kind q.2).0 in
                let owns : q.0.owner ≡ r.owner = (region_owner r q.0 q.1) in
                subst (λ (i : Item). is_active i.on x ≡ true → slice_index x i.at.0 < owner.horizon) q.3
                (λ on. subst (λ (b : ExtBlock). slice_index x (cycle_var (place_of q.0)).0 < b.horizon) owns lt)));
            known = all_each _ (items r) (each_of _ (items r) (λ i m.
                let q = item_place r i m in
                let mq = in_all e o x r q.0 mr q.1 in
                let at = numbers e o x given (needs_by e.table) q.0 mq in
                subst (λ (i : Item). is_active i.on x ≡ true → act_number i.on x < length i.uses) q.3
                (λ on. length_get (by_number (needs_by e.table) q.0.op.kind) (act_number (act_of (place_of q.0)) x) _ at)));
          }),
          tt,
        ),
        λ h resource c.
            let f = holds_fits (items r) owner.horizon x (subst (Met x) posted h).0 in
            let le = f.room resource c in
            let same = region_taken resource r c mr in
            omega arith,
      )

  pub packets : KeepsPackets e.table (schedule_of (model_of e o) x) ↔ AllMet (packets_of (model_of e o)) x
  packets =
      let met = regions_met e o x (packets_in e.table) in (
        λ h. met.1 (each_of _ (blocks e o x) (λ r m. (of_block r m).0 (λ resource c.
            let le = (no_room e.table (issues_of (model_of e o) x) r.block c).1 (h r.block c) resource in
            let whole = whole_taken resource r.block c in
            let part = sum_part (share resource r.block c) region_placed (blocks e o x) r m in
            omega arith))),
        λ h b c. (no_room e.table (issues_of (model_of e o) x) b c).0 (λ resource.
            let each = met.0 h in
            let whole = whole_taken resource b c in
            let le = sum_one (share resource b c) b (places_of resource) (blocks e o x) (rising 0 0 0 e.blocks)
            (λ r m other. elsewhere resource b c r other)
            (λ r m same. subst (λ n. sum_by (share resource n c) (region_placed r) ≤ places_of resource) same
            ((of_block r m).1 (each_member _ (blocks e o x) r each m) resource c)) in
            omega arith),
      )
