-- Where Enter and every Leave are active, what uses the frame is in order exactly where the tests of that order pass.
use Rattle.std.proofs.Common.{ℕ, ◌≡◌, ◌↔◌, ◌+◌, ◌<◌, ◌≤◌, Bool, true, false, List, [], ◌∷◌, map, inl, inr, refl, sym, ap, ◌∙◌, subst, arith}
use Rattle.std.specs.Prelude.{Option, Some, IfSome, slice_get, slice_index, not, ◌||◌, ◌==◌, nat_le, nat_lt}
use Rattle.std.specs.List.{list_all}
use Rattle.std.proofs.lemmas.Bool.Decides.{nat_tests}
use Rattle.un_base.specs.declared.ids.VarId.{VarId}
use Rattle.un_ir.specs.declared.extended.ExtKind.{ExtKind}
use Rattle.un_ir.specs.declared.extended.ExtKind.TheVariants.{In, Out}
use Rattle.un_ir.specs.declared.extended.ExtBlock.{ExtBlock}
use Rattle.un_ir.specs.declared.extended.Ext.{Ext}
use Rattle.un_ir.specs.Extended.{is_copy, is_enter, is_leave}
use Rattle.un_model.specs.declared.model.Options.{Options}
use Rattle.un_model.specs.Pairs.{over_blocks}
use Rattle.un_ir.specs.Kinds.{is_delimiter, is_call_kind}
use Rattle.un_model.specs.Solutions.{Precedes, frame_distance}
use Rattle.un_model.specs.Variables.{model_of, var_at, ops_count, block_vars, blocks_vars}
use Rattle.un_lists.proofs.Lists.{Each, Member, each_of, each_member, each_append, each_join, each_map, each_of_map, member_filter}
use Rattle.un_lists.proofs.Lists.{member_of_filter, member_map, member_map_of, member_at, place_of as position_of}
use Rattle.un_model.proofs.Placed.{Placed, issue_at, Region, region_placed}
use Rattle.un_model.proofs.PlacedSchedules.{all, joined_member}
use Rattle.un_alt.specs.declared.frame.FrameUse.{FrameUse}
use Rattle.un_alt.specs.declared.frame.FrameLeave.{FrameLeave}
use Rattle.un_alt.specs.Frame.{counts, is_after, is_until, is_left, in_order}
use Rattle.un_sites.specs.Places.{Place, places_of, block_places}
use Rattle.un_sites.specs.Postings.{with_kind, in_entry, cycle_var, frame_op, copy_use, single_use, uses_of, leave_of}
use Rattle.un_sites.specs.Postings.{leaves_in}
use Rattle.un_model.proofs.RegionEnds.{all_regions, region_member}
use Rattle.un_post.proofs.Facts.{Given}
use Rattle.un_post.proofs.FrameOrder.{all_iff, late_iff, soon_iff, tag_of, kind_fits, enter_tag, leave_tag, call_tag, copy_counts}
use Rattle.un_post.proofs.FrameOrder.{call_counts, leave_counts, cycle_is}
use Rattle.un_post.proofs.FrameTags.{Tag, Enters, Touches, Calls, Leaves, Quiet, gap_of, tagged, is_touch, touch_is}
use Rattle.un_post.proofs.Meeting.{each_joined, joined_each}
use Rattle.un_post.proofs.OneEnter.{OneEnter, enters}
use Rattle.un_post.proofs.Placing.{place_of, places_are, placed_places}
use Rattle.un_model.proofs.Regions.{region_is, over_regions, of_region, placed_regions}
use Rattle.un_post.proofs.Tests.{and_iff, lt_iff}

pub copy_inner : (k : ExtKind) → is_copy k ≡ true → is_delimiter k ≡ false
copy_inner In h = absurd (cc h)
copy_inner Out h = absurd (cc h)
copy_inner k h = refl

pub call_inner : (k : ExtKind) → is_call_kind k ≡ true → is_delimiter k ≡ false
call_inner In h = absurd (cc h)
call_inner Out h = absurd (cc h)
call_inner k h = refl

pub enter_inner : (k : ExtKind) → is_enter k ≡ true → is_delimiter k ≡ false
enter_inner In h = absurd (cc h)
enter_inner Out h = absurd (cc h)
enter_inner k h = refl

pub leave_inner : (k : ExtKind) → is_leave k ≡ true → is_delimiter k ≡ false
leave_inner In h = absurd (cc h)
leave_inner Out h = absurd (cc h)
leave_inner k h = refl

module _ (e : Ext) (o : Options) (x : List ℕ) (given : Given e o x) where
  -- ---- operations by kinds

  pub kinds_at_entry : (Q : Place → Type 0) (t : ExtKind → Bool) → Each Q (with_kind t (in_entry (places_of (model_of e o))))
      ↔ ((q : Placed) → Member q (all e o x) → q.block ≡ 0 → t q.op.kind ≡ true → Q (place_of q))
  kinds_at_entry Q t = (
    λ h q m b k.
        let inside = subst (Member (place_of q)) (sym (places_are 0 0 0 e.blocks)) (member_map place_of (all e o x) q m) in
        let first : (q.block == 0) ≡ true = grind (arith, nat_tests, b) in
        each_member Q (with_kind t (in_entry (places_of (model_of e o)))) (place_of q) h
        (member_filter (λ (p : Place). t p.it.kind) (in_entry (places_of (model_of e o))) (place_of q)
        (member_filter (λ (p : Place). p.block == 0) (places_of (model_of e o)) (place_of q) inside first) k),
    λ h. each_of Q (with_kind t (in_entry (places_of (model_of e o)))) (λ p n.
        let a = member_of_filter (λ (p : Place). t p.it.kind) (in_entry (places_of (model_of e o))) p n in
        let b = member_of_filter (λ (p : Place). p.block == 0) (places_of (model_of e o)) p a.0 in
        let c = member_map_of place_of (all e o x) p (subst (Member p) (places_are 0 0 0 e.blocks) b.0) in
        let first : (c.0.block == 0) ≡ true = ap (λ (p : Place). p.block == 0) c.2 ∙ b.1 in
        let zero_block : c.0.block ≡ 0 = grind (arith, nat_tests, first) in
        subst Q c.2 (h c.0 c.1 zero_block (ap (λ (p : Place). t p.it.kind) c.2 ∙ a.1))),
  )

  pub kinds_of : (Q : Place → Type 0) (t : ExtKind → Bool) (qs : List Placed) → Each Q (with_kind t (map place_of qs))
      ↔ ((q : Placed) → Member q qs → t q.op.kind ≡ true → Q (place_of q))
  kinds_of Q t qs = (
    λ h q m k. each_member Q (with_kind t (map place_of qs)) (place_of q) h
        (member_filter (λ (p : Place). t p.it.kind) (map place_of qs) (place_of q) (member_map place_of qs q m) k),
    λ h. each_of Q (with_kind t (map place_of qs)) (λ p n.
        let a = member_of_filter (λ (p : Place). t p.it.kind) (map place_of qs) p n in
        let c = member_map_of place_of qs p a.0 in
        subst Q c.2 (h c.0 c.1 (ap (λ (p : Place). t p.it.kind) c.2 ∙ a.1))),
  )

  -- the block of an operation
  pub record InRegion (q : Placed) : Type 0 where
    pub number : ℕ
    pub region : Region
    pub at : slice_get (all_regions e o x given.extended) number ≡ Some region
    pub inside : Member q (region_placed region)
    pub is : q.block ≡ number

  in_region : (q : Placed) → Member q (all e o x) → InRegion q
  in_region q m =
      let r = joined_member region_placed (all_regions e o x given.extended) q (subst (Member q) (placed_regions 0 0 0 e.blocks) m) in
      let i = position_of (all_regions e o x given.extended) r.0 r.1 in
      let b = of_region r.0 q r.2 in
      let n = (region_is 0 0 0 e.blocks i.0 r.0 i.2).1 in
      record { number = i.0; region = r.0; at = i.2; inside = r.2; is = omega arith }

  -- operations of one block are in one region
  together : (l q : Placed) (h : InRegion l) → Member q (all e o x) → q.block ≡ l.block → Member q (region_placed h.region)
  together l q h m b =
      let k = in_region q m in
      let n : k.number ≡ h.number = sym k.is ∙ b ∙ h.is in
      let same : Some k.region ≡ Some h.region = sym k.at ∙ ap (slice_get (all_regions e o x given.extended)) n ∙ h.at in
      subst (λ (r : Region). Member q (region_placed r)) (cc same) k.inside

  abbrev pub leaves_of : List FrameLeave
  leaves_of = over_blocks leaves_in 0 0 e.blocks (blocks_vars 0 e.blocks)

  abbrev leaves_at : Region → List FrameLeave
  leaves_at r = leaves_in r.block r.number r.owner (block_vars r.first r.owner)

  places_at : (r : Region) → block_places r.block r.number r.owner (block_vars r.first r.owner) ≡ map place_of (region_placed r)
  places_at r = let own : ExtBlock = r.owner in placed_places r.block own (var_at (r.first + ops_count own.ops)) r.number r.first own.ops

  pub leaves_each : (Q : FrameLeave → Type 0) → Each Q leaves_of
      ↔ ((l : Placed) (h : InRegion l) → is_leave l.op.kind ≡ true → Q (leave_of (map place_of (region_placed h.region)) (place_of l)))
  leaves_each Q = (
    λ h l hl k.
        let r = hl.region in
        let here = each_member _ (all_regions e o x given.extended) r (each_joined Q leaves_at (all_regions e o x given.extended)
        (subst (Each Q) (over_regions leaves_in 0 0 0 e.blocks) h)) (member_at (all_regions e o x given.extended) hl.number r hl.at) in
        let listed = subst (λ (ps : List Place). Each Q (map (leave_of ps) (with_kind is_leave ps))) (places_at r) here in
        let ps = map place_of (region_placed r) in
        (kinds_of (λ p. Q (leave_of ps p)) is_leave (region_placed r)).0 (each_of_map Q (leave_of ps) (with_kind is_leave ps) listed) l
        hl.inside k,
    λ h. subst (Each Q) (sym (over_regions leaves_in 0 0 0 e.blocks))
        (joined_each Q leaves_at (all_regions e o x given.extended) (each_of _ (all_regions e o x given.extended) (λ r n.
        let i = position_of (all_regions e o x given.extended) r n in
        let ps = map place_of (region_placed r) in
        subst (λ (ps : List Place). Each Q (map (leave_of ps) (with_kind is_leave ps))) (sym (places_at r))
        (each_map Q (leave_of ps) (with_kind is_leave ps)
        ((kinds_of (λ p. Q (leave_of ps p)) is_leave (region_placed r)).1 (λ l m k.
        let b = of_region r l m in
        let nb = (region_is 0 0 0 e.blocks i.0 r i.2).1 in
        h l (record { number = i.0; region = r; at = i.2; inside = m; is = omega arith }) k)))))),
  )

  -- each operation has a in_region
  pub leaves_all : (Q : Placed → Type 0) → ((l : Placed) (h : InRegion l) → is_leave l.op.kind ≡ true → Q l)
      ↔ ((l : Placed) → Member l (all e o x) → is_leave l.op.kind ≡ true → Q l)
  leaves_all Q = (λ f l m k. f l (in_region l m) k, λ f l h k. f l (region_member e o x given.extended h.number h.region l h.at h.inside) k)

  -- ---- the order

  abbrev pub cycle : Placed → ℕ
  cycle q = (issue_at x q).cycle

  pub record Ordered (enter : Placed) : Type 0 where
    pub after_touch : (q : Placed) → Member q (all e o x) → q.block ≡ 0 → tag_of e o x given q ≡ Touches → cycle enter < cycle q
    pub after_call : (q : Placed) → Member q (all e o x) → q.block ≡ 0 → is_call_kind q.op.kind ≡ true → cycle enter < cycle q
    pub after_leave : (q : Placed) → Member q (all e o x) → q.block ≡ 0 → is_leave q.op.kind ≡ true → cycle enter < cycle q
    pub before_touch : (l q : Placed) → Member l (all e o x) → Member q (all e o x) → is_leave l.op.kind ≡ true → q.block ≡ l.block
        → tag_of e o x given q ≡ Touches → cycle q ≤ cycle l
    pub before_call : (l q : Placed) → Member l (all e o x) → Member q (all e o x) → is_leave l.op.kind ≡ true → q.block ≡ l.block
        → is_call_kind q.op.kind ≡ true → cycle q < cycle l

  abbrev pub Pair : Placed → Placed → Type 0
  Pair p q = Precedes frame_distance (issue_at x p) (issue_at x q)

  pub pair_in : (p q : Placed) (s t : Tag) → Pair p q → p.block ≡ q.block → tag_of e o x given p ≡ s → tag_of e o x given q ≡ t
      → IfSome (gap_of s t) (λ n. cycle p + n ≤ cycle q)
  unfolding Precedes
  pair_in p q s t h b hs ht =
      subst (λ (d : Option ℕ). IfSome d (λ n. cycle p + n ≤ cycle q))
      (tagged (issue_at x p).instr (issue_at x q).instr ∙ ap (λ u. gap_of u (tag_of e o x given q)) hs ∙ ap (gap_of s) ht) (h b)

  pub pair_of : (p q : Placed) → (p.block ≡ q.block → IfSome (gap_of (tag_of e o x given p) (tag_of e o x given q))
      (λ n. cycle p + n ≤ cycle q)) → Pair p q
  unfolding Precedes
  pair_of p q f b = subst (λ (d : Option ℕ). IfSome d (λ n. cycle p + n ≤ cycle q)) (sym (tagged (issue_at x p).instr (issue_at x q).instr))
      (f b)

  module _ (one : OneEnter e o x given) (on_enter : (issue_at x one.enter).active ≡ true)
      (on_leaves : (l : Placed) → Member l (all e o x) → is_leave l.op.kind ≡ true → (issue_at x l).active ≡ true) where
    only : (p : Placed) → Member p (all e o x) → is_enter p.op.kind ≡ true → one.enter ≡ p
    only p m k = alone (subst (Member p) one.alone (member_filter enters (all e o x) p m k))
      where
        alone : Member p (one.enter ∷ []) → one.enter ≡ p
        alone (inl h) = h
        alone (inr n) = elim n [ ]

    pub ordered : Each (λ p. Each (λ q. Pair p q) (all e o x)) (all e o x) ↔ Ordered one.enter
    ordered = (
      λ h.
          let pair = λ (p q : Placed) (m : Member p (all e o x)) (n : Member q (all e o x)). each_member _ (all e o x) q
          (each_member _ (all e o x) p h m) n in
          let from = enter_tag e o x given one.enter one.is on_enter in
          let start = one.block in
          record {
            after_touch = λ q m b t. let z = pair_in one.enter q Enters Touches (pair one.enter q one.member m) (start ∙ sym b) from t in
                omega arith;
            after_call = λ q m b k. let z = pair_in one.enter q Enters Calls (pair one.enter q one.member m) (start ∙ sym b) from
                (call_tag e o x given q k) in omega arith;
            after_leave = λ q m b k. let z = pair_in one.enter q Enters Leaves (pair one.enter q one.member m) (start ∙ sym b) from
                (leave_tag e o x given q k (on_leaves q m k)) in omega arith;
            before_touch = λ l q m n k b t. let z = pair_in q l Touches Leaves (pair q l n m) b t
                (leave_tag e o x given l k (on_leaves l m k)) in omega arith;
            before_call = λ l q m n k b c. let z = pair_in q l Calls Leaves (pair q l n m) b (call_tag e o x given q c)
                (leave_tag e o x given l k (on_leaves l m k)) in omega arith;
          },
      λ r. each_of _ (all e o x) (λ p m. each_of _ (all e o x) (λ q n. pair_of p q
          (λ b. go r p q m n b (tag_of e o x given p) (tag_of e o x given q) refl refl))),
    )
      where
        from_enter : (p q : Placed) → Member p (all e o x) → is_enter p.op.kind ≡ true → p.block ≡ q.block → (q.block ≡ 0)
            × (cycle one.enter ≡ cycle p)
        from_enter p q m k b =
            let same = only p m k in
            let bp : one.enter.block ≡ p.block = ap (λ (z : Placed). z.block) same in
            let start = one.block in
            (sym b ∙ sym bp ∙ start, ap (λ (z : Placed). cycle z) same)

        go : Ordered one.enter → (p q : Placed) → Member p (all e o x) → Member q (all e o x) → p.block ≡ q.block → (s t : Tag)
            → tag_of e o x given p ≡ s → tag_of e o x given q ≡ t
            → IfSome (gap_of s t) (λ n. cycle p + n ≤ cycle q)
        go r p q m n b Enters Touches hs ht = let f = from_enter p q m (kind_fits e o x given p Enters m hs) b in let lt =
            r.after_touch q n f.0 ht in let z = f.1 in omega arith
        go r p q m n b Enters Calls hs ht = let f = from_enter p q m (kind_fits e o x given p Enters m hs) b in let lt =
            r.after_call q n f.0 (kind_fits e o x given q Calls n ht) in let z = f.1 in omega arith
        go r p q m n b Enters Leaves hs ht = let f = from_enter p q m (kind_fits e o x given p Enters m hs) b in let lt =
            r.after_leave q n f.0 (kind_fits e o x given q Leaves n ht) in let z = f.1 in omega arith
        go r p q m n b Enters Enters hs ht = tt
        go r p q m n b Enters Quiet hs ht = tt
        go r p q m n b Touches Leaves hs ht = let le = r.before_touch q p n m (kind_fits e o x given q Leaves n ht) b hs in omega arith
        go r p q m n b Touches t hs ht = tt
        go r p q m n b Calls Leaves hs ht = let lt = r.before_call q p n m (kind_fits e o x given q Leaves n ht) b
            (kind_fits e o x given p Calls m hs) in omega arith
        go r p q m n b Calls t hs ht = tt
        go r p q m n b Leaves t hs ht = tt
        go r p q m n b Quiet t hs ht = tt

    -- ---- the tests

    abbrev start : ℕ
    start = slice_index x (cycle_var (place_of one.enter)).0

    start_is : start ≡ cycle one.enter
    start_is = cycle_is e o x given one.enter (enter_inner one.enter.op.kind one.is)

    after_is : (q : Placed) (u : FrameUse) (b : Bool) → counts x u ≡ b → slice_index x u.at.0 ≡ cycle q
        → is_after start x u ≡ (not b || nat_lt (cycle one.enter) (cycle q))
    after_is q u b hb hc =
        ap (λ (c : Bool). not c || nat_lt start (slice_index x u.at.0)) hb
        ∙ ap (λ (n : ℕ). not b || nat_lt n (slice_index x u.at.0)) start_is
        ∙ ap (λ (n : ℕ). not b || nat_lt (cycle one.enter) n) hc

    until_is : (l q : Placed) (u : FrameUse) (b : Bool) → counts x u ≡ b → slice_index x u.at.0 ≡ cycle q
        → slice_index x (cycle_var (place_of l)).0 ≡ cycle l
        → is_until (slice_index x (cycle_var (place_of l)).0) x u ≡ (not b || nat_le (cycle q) (cycle l))
    until_is l q u b hb hc hl =
        ap (λ (c : Bool). not c || nat_le (slice_index x u.at.0) (slice_index x (cycle_var (place_of l)).0)) hb
        ∙ ap (λ (n : ℕ). not b || nat_le n (slice_index x (cycle_var (place_of l)).0)) hc ∙ ap (λ (n : ℕ). not b || nat_le (cycle q) n) hl

    copy_after : (q : Placed) → Member q (all e o x) → is_copy q.op.kind ≡ true
        → is_after start x (copy_use (place_of q)) ≡ (not (is_touch (tag_of e o x given q)) || nat_lt (cycle one.enter) (cycle q))
    copy_after q m k = after_is q (copy_use (place_of q)) (is_touch (tag_of e o x given q)) (copy_counts e o x given q m k)
        (cycle_is e o x given q (copy_inner q.op.kind k))

    call_after : (q : Placed) → is_call_kind q.op.kind ≡ true → is_after start x (single_use (place_of q)) ≡
        (not true || nat_lt (cycle one.enter) (cycle q))
    call_after q k = after_is q (single_use (place_of q)) true (call_counts e o x given q k)
        (cycle_is e o x given q (call_inner q.op.kind k))

    leave_after : (q : Placed) → Member q (all e o x) → is_leave q.op.kind ≡ true
        → is_after start x (single_use (place_of q)) ≡ (not true || nat_lt (cycle one.enter) (cycle q))
    leave_after q m k = after_is q (single_use (place_of q)) true (leave_counts e o x given q m k (on_leaves q m k))
        (cycle_is e o x given q (leave_inner q.op.kind k))

    copy_until : (l q : Placed) → is_leave l.op.kind ≡ true → Member q (all e o x) → is_copy q.op.kind ≡ true
        → is_until (slice_index x (cycle_var (place_of l)).0) x (copy_use (place_of q)) ≡
        (not (is_touch (tag_of e o x given q)) || nat_le (cycle q) (cycle l))
    copy_until l q kl m k = until_is l q (copy_use (place_of q)) (is_touch (tag_of e o x given q)) (copy_counts e o x given q m k)
        (cycle_is e o x given q (copy_inner q.op.kind k)) (cycle_is e o x given l (leave_inner l.op.kind kl))

    call_until : (l q : Placed) → is_leave l.op.kind ≡ true → is_call_kind q.op.kind ≡ true
        → nat_lt (slice_index x (cycle_var (place_of q)).0) (slice_index x (cycle_var (place_of l)).0) ≡ nat_lt (cycle q) (cycle l)
    call_until l q kl k =
        ap (λ (n : ℕ). nat_lt n (slice_index x (cycle_var (place_of l)).0)) (cycle_is e o x given q (call_inner q.op.kind k))
        ∙ ap (nat_lt (cycle q)) (cycle_is e o x given l (leave_inner l.op.kind kl))

    abbrev entry : List Place
    entry = in_entry (places_of (model_of e o))

    abbrev Passes : FrameUse → Type 0
    Passes u = is_after start x u ≡ true

    pub tests : Ordered one.enter ↔ (in_order (Some (frame_op (place_of one.enter))) (uses_of (in_entry (places_of (model_of e o)))) leaves_of x ≡
        true)
    tests = (
      λ r. (and_iff (list_all (is_after start x) (uses_of entry)) (list_all (is_left x) leaves_of)).0 (
        (all_iff (is_after start x) (uses_of entry)).0 (each_join Passes (map copy_use (with_kind is_copy entry)) _
            (each_map Passes copy_use (with_kind is_copy entry) ((kinds_at_entry (λ p. Passes (copy_use p)) is_copy).1 (λ q m b k.
            copy_after q m k ∙ (late_iff (is_touch (tag_of e o x given q)) (cycle one.enter) (cycle q)).0
            (λ t. r.after_touch q m b (touch_is (tag_of e o x given q) t)))))
            (each_join Passes (map single_use (with_kind is_call_kind entry)) (map single_use (with_kind is_leave entry))
            (each_map Passes single_use (with_kind is_call_kind entry)
            ((kinds_at_entry (λ p. Passes (single_use p)) is_call_kind).1 (λ q m b k.
            call_after q k ∙ (late_iff true (cycle one.enter) (cycle q)).0 (λ t. r.after_call q m b k))))
            (each_map Passes single_use (with_kind is_leave entry) ((kinds_at_entry (λ p. Passes (single_use p)) is_leave).1 (λ q m b k.
            leave_after q m k ∙ (late_iff true (cycle one.enter) (cycle q)).0 (λ t. r.after_leave q m b k)))))),
        (all_iff (is_left x) leaves_of).0 ((leaves_each (λ f. is_left x f ≡ true)).1 (λ l h k. left r l h k)),
      ),
      λ t.
          let a = (and_iff (list_all (is_after start x) (uses_of entry)) (list_all (is_left x) leaves_of)).1 t in
          let uses = each_append Passes (map copy_use (with_kind is_copy entry)) _ ((all_iff (is_after start x) (uses_of entry)).1 a.0) in
          let rest = each_append Passes (map single_use (with_kind is_call_kind entry)) (map single_use (with_kind is_leave entry)) uses.1
          in
          let copies = (kinds_at_entry (λ p. Passes (copy_use p)) is_copy).0 (each_of_map Passes copy_use (with_kind is_copy entry) uses.0)
          in
          let calls = (kinds_at_entry (λ p. Passes (single_use p)) is_call_kind).0
          (each_of_map Passes single_use (with_kind is_call_kind entry) rest.0) in
          let leaves = (kinds_at_entry (λ p. Passes (single_use p)) is_leave).0
          (each_of_map Passes single_use (with_kind is_leave entry) rest.1) in
          let lefts = (leaves_each (λ f. is_left x f ≡ true)).0 ((all_iff (is_left x) leaves_of).1 a.1) in
          record {
            after_touch = λ q m b h.
                let k = kind_fits e o x given q Touches m h in
                (late_iff (is_touch (tag_of e o x given q)) (cycle one.enter) (cycle q)).1 (sym (copy_after q m k) ∙ copies q m b k)
                (ap is_touch h);
            after_call = λ q m b k. (late_iff true (cycle one.enter) (cycle q)).1 (sym (call_after q k) ∙ calls q m b k) refl;
            after_leave = λ q m b k. (late_iff true (cycle one.enter) (cycle q)).1 (sym (leave_after q m k) ∙ leaves q m b k) refl;
            before_touch = λ l q m n k b h.
                let c = kind_fits e o x given q Touches n h in
                let at = in_region l m in
                let p = parts l at (lefts l at k) in
                (soon_iff (is_touch (tag_of e o x given q)) (cycle l) (cycle q)).1
                (sym (copy_until l q k n c) ∙ p.0 q (together l q at n b) c) (ap is_touch h);
            before_call = λ l q m n k b c.
                let at = in_region l m in
                let p = parts l at (lefts l at k) in
                (lt_iff (cycle q) (cycle l)).1 (sym (call_until l q k c) ∙ p.1 q (together l q at n b) c);
          },
    )
      where
        -- the test of a Leave, by the operations of its block
        parts : (l : Placed) (h : InRegion l) → is_left x (leave_of (map place_of (region_placed h.region)) (place_of l)) ≡ true
            → ((q : Placed) → Member q (region_placed h.region) → is_copy q.op.kind ≡ true
            → is_until (slice_index x (cycle_var (place_of l)).0) x (copy_use (place_of q)) ≡ true)
            × ((q : Placed) → Member q (region_placed h.region) → is_call_kind q.op.kind ≡ true
            → nat_lt (slice_index x (cycle_var (place_of q)).0) (slice_index x (cycle_var (place_of l)).0) ≡ true)
        parts l h t =
            let ps = map place_of (region_placed h.region) in
            let end = slice_index x (cycle_var (place_of l)).0 in
            let before = λ (v : VarId). nat_lt (slice_index x v.0) end in
            let a = (and_iff (list_all (is_until end x) (map copy_use (with_kind is_copy ps)))
            (list_all before (map cycle_var (with_kind is_call_kind ps)))).1 t in (
              (kinds_of (λ p. is_until end x (copy_use p) ≡ true) is_copy (region_placed h.region)).0
                  (each_of_map _ copy_use (with_kind is_copy ps) ((all_iff (is_until end x) (map copy_use (with_kind is_copy ps))).1 a.0)),
              (kinds_of (λ p. before (cycle_var p) ≡ true) is_call_kind (region_placed h.region)).0
                  (each_of_map _ cycle_var (with_kind is_call_kind ps)
                  ((all_iff before (map cycle_var (with_kind is_call_kind ps))).1 a.1)),
            )

        left : Ordered one.enter → (l : Placed) (h : InRegion l) → is_leave l.op.kind ≡ true
            → is_left x (leave_of (map place_of (region_placed h.region)) (place_of l)) ≡ true
        left r l h k =
            let ps = map place_of (region_placed h.region) in
            let end = slice_index x (cycle_var (place_of l)).0 in
            let before = λ (v : VarId). nat_lt (slice_index x v.0) end in
            let m = region_member e o x given.extended h.number h.region l h.at h.inside in
            let block = of_region h.region l h.inside in
            (and_iff (list_all (is_until end x) (map copy_use (with_kind is_copy ps)))
            (list_all before (map cycle_var (with_kind is_call_kind ps)))).0 (
              (all_iff (is_until end x) (map copy_use (with_kind is_copy ps))).0
                  (each_map _ copy_use (with_kind is_copy ps) ((kinds_of (λ p. is_until end x (copy_use p) ≡ true) is_copy
                  (region_placed h.region)).1 (λ q n c.
                  let mq = region_member e o x given.extended h.number h.region q h.at n in
                  copy_until l q k mq c ∙ (soon_iff (is_touch (tag_of e o x given q)) (cycle l) (cycle q)).0
                  (λ t. r.before_touch l q m mq k (of_region h.region q n ∙ sym block) (touch_is (tag_of e o x given q) t))))),
              (all_iff before (map cycle_var (with_kind is_call_kind ps))).0
                  (each_map _ cycle_var (with_kind is_call_kind ps)
                  ((kinds_of (λ p. before (cycle_var p) ≡ true) is_call_kind (region_placed h.region)).1 (λ q n c.
                  let mq = region_member e o x given.extended h.number h.region q h.at n in
                  call_until l q k c ∙ (lt_iff (cycle q) (cycle l)).0 (r.before_call l q m mq k (of_region h.region q n ∙ sym block) c)))),
            )
