-- The propagators of a lower limit, in the places of those of a higher one.
use Rattle.std.proofs.Common.{ℕ, ◌≡◌, ◌<◌, ◌≤◌, ◌+◌, ◌++◌, Bool, true, false, List, [], ◌∷◌, None, Some, All, length, map, get_or, set}
use Rattle.std.proofs.Common.{refl, sym, ap, ◌∙◌, subst, arith, append_assoc}
use Rattle.std.specs.Prelude.{Option, IsSomeAnd, Result, Ok, Err, IfOk, nat_lt, slice_get, if◌then◌else◌}
use Rattle.std.proofs.lemmas.Bool.Decides.{nat_tests}
use Rattle.std.proofs.lemmas.List.{get_or_at, get_or-map, length-append, length-map, map-set}
use Rattle.std.proofs.lemmas.List.Elements.{All-set}
use Rattle.un_base.specs.declared.ids.VarId.{VarId}
use Rattle.un_base.specs.declared.memory_error.NoMemory.{NoMemory}
use Rattle.un_domains.specs.Sets.{Sets, NoneEmpty}
use Rattle.un_model.specs.declared.model.Model.{Model}
use Rattle.un_model.specs.Pairs.{over_blocks}
use Rattle.un_lists.proofs.Lists.{get_below, index_get}
use Rattle.un_prop.specs.Rounds.{HasVars}
use Rattle.un_prec.specs.declared.below.Weighted.{Weighted}
use Rattle.un_prec.proofs.Looser.{stays_below_more}
use Rattle.un_counted.specs.declared.counted.LeastEnd.{LeastEnd}
use Rattle.un_counted.proofs.Looser.{stays_counted_more}
use Rattle.un_kinds.specs.AnyProps.{constraint_of, scope_of, span_of}
use Rattle.un_kinds.specs.Constraints.{Constraint, Below, Counted}
use Rattle.un_kinds.specs.Cuts.{cut_with}
use Rattle.un_kinds.specs.Fixing.{rising, cut_for}
use Rattle.un_kinds.specs.FixingLaws.{rising_among, rising_ascends, scope_is, cut_is}
use Rattle.un_kinds.specs.Scopes.{IsScope, IsTight, Makes, vars_of}
use Rattle.un_kinds.specs.declared.any.AnyProp.{AnyProp}
use Rattle.un_kinds.proofs.Scoped.{below_vars, counted_vars}
use Rattle.un_sites.specs.Befores.{befores_of, lengths_of}
use Rattle.un_sites.specs.Places.{definers_of, places_of}
use Rattle.un_sites.specs.Postings.{edges_of, ends_by, frame_of, of_place, over_places, postings_of}
use Rattle.un_sites.specs.Pressures.{pressures_of}
use Rattle.un_sites.specs.Rooms.{rooms_of}
use Rattle.un_post.specs.Listed.{counts_of, all_postings_of, posted_rows}
use Rattle.un_post.specs.Lowered.{IsLowering, IsTighter, cost_below, limit_place}
use Rattle.un_post.proofs.Reading.{cycles_of}
use Rattle.un_post.proofs.Ready.{span_is}

-- ---- what one leaves as it is, the other does

record IsLooser (c d : Constraint) : Type 0 where
  same : vars_of c ≡ vars_of d
  none : cycles_of c ≡ 0
  stays : (vs : List VarId) → IsScope vs (vars_of c) → (s : Sets) → HasVars vs s → NoneEmpty s → cut_with c vs s ≡ Some s
      → cut_with d vs s ≡ Some s

looser_cost : (es : List Weighted) (low high : ℕ) → low ≤ high → IsLooser (Below es low) (Below es high)
looser_cost es low high le = record {
  same = refl;
  none = refl;
  stays = λ vs scope s known full e. stays_below_more vs es low high le (below_vars vs es scope) scope.rises s known full e;
}

looser_rows : (rows : List (List LeastEnd)) (low high : ℕ) → low ≤ high → IsLooser (Counted rows low) (Counted rows high)
looser_rows rows low high le = record {
  same = refl;
  none = refl;
  stays = λ vs scope s known full e. stays_counted_more vs rows low high le (counted_vars vs rows scope) scope.rises s known full e;
}

-- ---- one that asks for it, in the place of one that asks for the other

set_behind : (xs ys : List Constraint) (b c : Constraint) → set (xs ++ b ∷ ys) (length xs) c ≡ xs ++ c ∷ ys
set_behind [] ys b c = refl
set_behind (x ∷ xs) ys b c = ap (λ (cs : List Constraint). x ∷ cs) (set_behind xs ys b c)

module _ (xs ys : List Constraint) (c d : Constraint) (looser : IsLooser c d) (at : ℕ) (is : at ≡ length xs) (ps : List AnyProp)
    (p : AnyProp) (made : Makes c p) (asks : map constraint_of ps ≡ xs ++ d ∷ ys) (tight : All IsTight ps) where
  abbrev q : AnyProp
  q = get_or ps at p

  place : at < length ps
  place =
      let long = length-map ps constraint_of in
      let same = ap length asks in
      let sum = length-append xs (d ∷ ys) in
      omega (arith, long, same, sum, is)

  own : IsTight q
  own = tight at p place

  old : constraint_of q ≡ d
  old = sym (get_or-map constraint_of ps at p d place)
      ∙ (ap (λ (cs : List Constraint). get_or cs at d) asks ∙ get_or_at xs d ys d at (sym is))

  new : map constraint_of (set ps at p) ≡ xs ++ c ∷ ys
  new = map-set constraint_of ps at p
      ∙ (ap (λ (cs : List Constraint). set cs at (constraint_of p)) asks
      ∙ (ap (λ (k : ℕ). set (xs ++ d ∷ ys) k (constraint_of p)) is
      ∙ (set_behind xs ys d (constraint_of p) ∙ ap (λ (b : Constraint). xs ++ b ∷ ys) made.asks)))

  all_tight : All IsTight (set ps at p)
  all_tight = All-set IsTight ps at p made.tight tight

  abbrev vs : List VarId
  vs = rising (vars_of c)

  scoped : IsScope vs (vars_of c)
  scoped = record { rises = rising_ascends (vars_of c); same = rising_among (vars_of c) }

  own_scope : scope_of p ≡ vs
  own_scope = scope_is p made.tight ∙ ap (λ (b : Constraint). rising (vars_of b)) made.asks

  old_scope : vs ≡ scope_of q
  old_scope = ap rising looser.same ∙ sym (scope_is q own ∙ ap (λ (b : Constraint). rising (vars_of b)) old)

  tighter : IsTighter ps at p
  tighter = record {
    there = place;
    scope = own_scope ∙ old_scope;
    span = (let a : span_of p ≡ 0 = span_is p ∙ (ap cycles_of made.asks ∙ looser.none) in omega (arith, a));
    stricter = λ s full known e.
        (let here : cut_with c vs s ≡ Some s = sym (ap (λ (b : Constraint). cut_for b s) made.asks) ∙ (sym (cut_is p made.tight s) ∙ e) in
        let stays = looser.stays vs scoped s (subst (λ (us : List VarId). HasVars us s) own_scope known) full here in
        cut_is q own s ∙ (ap (λ (b : Constraint). cut_for b s) old
        ∙ subst (λ (us : List VarId). cut_with d us s ≡ Some s) (ap rising looser.same) stays));
  }

-- ---- the list

last_split : (fs rest : List Constraint) (b : Constraint) → (fs ++ b ∷ []) ++ rest ≡ (fs ++ []) ++ b ∷ rest
last_split [] rest b = refl
last_split (f ∷ fs) rest b = ap (λ (cs : List Constraint). f ∷ cs) (last_split fs rest b)

two_split : (es fs rest : List Constraint) (b : Constraint) → (es ++ (fs ++ b ∷ [])) ++ rest ≡ (es ++ (fs ++ [])) ++ b ∷ rest
two_split [] fs rest b = last_split fs rest b
two_split (e ∷ es) fs rest b = ap (λ (cs : List Constraint). e ∷ cs) (two_split es fs rest b)

three_split : (ds es fs rest : List Constraint) (b : Constraint) → (ds ++ (es ++ (fs ++ b ∷ []))) ++ rest
    ≡ (ds ++ (es ++ (fs ++ []))) ++ b ∷ rest
three_split [] es fs rest b = two_split es fs rest b
three_split (d ∷ ds) es fs rest b = ap (λ (cs : List Constraint). d ∷ cs) (three_split ds es fs rest b)

module _ (m : Model) where
  abbrev others : List Constraint
  others = befores_of m ++ (rooms_of m ++ (lengths_of m ++ pressures_of m))

  abbrev first : List Constraint
  first = postings_of m None

  split : (limit : ℕ) → all_postings_of m (Some limit) ≡ first ++ cost_below m limit ∷ (counts_of m (Some limit) ++ others)
  split limit = let ds = definers_of m in
      three_split (over_places (of_place m.ext.table m.options.slots ds) m)
      (over_blocks (edges_of m.ext.blocks ds) 0 0 m.ext.blocks m.blocks) (frame_of m ds (places_of m))
      (counts_of m (Some limit) ++ others) (cost_below m limit)

  abbrev rows_at : Bool → ℕ → List Constraint
  rows_at b limit = if b then Counted (posted_rows m) limit ∷ [] else []

  module _ (low high : ℕ) (le : low ≤ high) (ps : List AnyProp) (p : AnyProp) (made : Makes (cost_below m low) p)
      (asks : map constraint_of ps ≡ all_postings_of m (Some high)) (tight : All IsTight ps) where
    abbrev at : ℕ
    at = limit_place m

    cost_looser : IsLooser (cost_below m low) (cost_below m high)
    cost_looser = looser_cost (ends_by m.ext.blocks m.blocks) low high le

    abbrev behind : List Constraint
    behind = counts_of m (Some high) ++ others

    with_cost : IsTighter ps at p
    with_cost = tighter first behind (cost_below m low) (cost_below m high) cost_looser at refl ps p made (asks ∙ split high) tight

    abbrev qs : List AnyProp
    qs = set ps at p

    qs_tight : All IsTight qs
    qs_tight = all_tight first behind (cost_below m low) (cost_below m high) cost_looser at refl ps p made (asks ∙ split high) tight

    qs_asks : map constraint_of qs ≡ first ++ cost_below m low ∷ behind
    qs_asks = new first behind (cost_below m low) (cost_below m high) cost_looser at refl ps p made (asks ∙ split high) tight

    -- of one block
    lower_one : nat_lt 1 (length m.ext.blocks) ≡ false → IsLowering m low ps (record { cost = p; counted = None })
    lower_one one =
        let same : counts_of m (Some high) ≡ counts_of m (Some low) =
        ap (λ (b : Bool). rows_at b high) one ∙ sym (ap (λ (b : Bool). rows_at b low) one) in
        record {
          tighter = record { cost = with_cost; counted = tt };
          asks = qs_asks ∙ (ap (λ (cs : List Constraint). first ++ cost_below m low ∷ (cs ++ others)) same ∙ sym (split low));
          tight = qs_tight;
        }

    -- of several
    module _ (several : nat_lt 1 (length m.ext.blocks) ≡ true) where
      abbrev front : ℕ → List Constraint
      front limit = first ++ cost_below m limit ∷ []

      front_long : (limit : ℕ) → at + 1 ≡ length (front limit)
      front_long limit = let sum = length-append first (cost_below m limit ∷ []) in omega (arith, sum)

      rows_there : (cs : List Constraint) (l limit : ℕ) → cs ≡ first ++ cost_below m l ∷ (counts_of m (Some limit) ++ others)
          → cs ≡ front l ++ Counted (posted_rows m) limit ∷ others
      rows_there cs l limit is = is
          ∙ (ap (λ (b : Bool). first ++ cost_below m l ∷ (rows_at b limit ++ others)) several
          ∙ sym (append_assoc first (cost_below m l ∷ []) (Counted (posted_rows m) limit ∷ others)))

      rows_looser : IsLooser (Counted (posted_rows m) low) (Counted (posted_rows m) high)
      rows_looser = looser_rows (posted_rows m) low high le

      there : map constraint_of qs ≡ front low ++ Counted (posted_rows m) high ∷ others
      there = rows_there (map constraint_of qs) low high qs_asks

      lower_more : (r : AnyProp) → Makes (Counted (posted_rows m) low) r → IsLowering m low ps (record { cost = p; counted = Some r })
      lower_more r rows = record {
        tighter = record {
          cost = with_cost;
          counted = tighter (front low) others (Counted (posted_rows m) low) (Counted (posted_rows m) high) rows_looser (at + 1) (front_long low)
              qs r rows there qs_tight;
        };
        asks = new (front low) others (Counted (posted_rows m) low) (Counted (posted_rows m) high) rows_looser (at + 1) (front_long low) qs r rows
            there qs_tight ∙ sym (rows_there (all_postings_of m (Some low)) low low (split low));
        tight = all_tight (front low) others (Counted (posted_rows m) low) (Counted (posted_rows m) high) rows_looser (at + 1) (front_long low) qs r
            rows there qs_tight;
      }

      -- what stands behind the cost's
      rows_stand : (r : AnyProp) × (slice_get ps (at + 1) ≡ Some r) × (constraint_of r ≡ Counted (posted_rows m) high)
      rows_stand =
          let d : Constraint = Counted (posted_rows m) high in
          let own = rows_there (map constraint_of ps) high high (asks ∙ split high) in
          let long = length-map ps constraint_of in
          let same = ap length own in
          let sum = length-append (front high) (d ∷ others) in
          let at_long = front_long high in
          let lt : at + 1 < length ps = omega (arith, long, same, sum, at_long) in
          let r = get_below ps (at + 1) lt in (
            r.0,
            r.1,
            ap constraint_of (sym (index_get ps (at + 1) r.0 r.0 r.1))
                ∙ (sym (get_or-map constraint_of ps (at + 1) r.0 d lt)
                ∙ (ap (λ (cs : List Constraint). get_or cs (at + 1) d) own ∙ get_or_at (front high) d others d (at + 1) (sym at_long))),
          )

    -- with what is made of what stands there
    pub lowering : (c : Option AnyProp) → (length m.ext.blocks ≤ 1 → c ≡ None)
        → (1 < length m.ext.blocks → (rows : List (List LeastEnd)) (limit : ℕ) (r : AnyProp) → slice_get ps (at + 1) ≡ Some r
        → constraint_of r ≡ Counted rows limit → IsSomeAnd c (Makes (Counted rows low)))
        → IsLowering m low ps (record { cost = p; counted = c })
    lowering c one more = by (nat_lt 1 (length m.ext.blocks)) refl
      where
        found : (o : Option AnyProp) → nat_lt 1 (length m.ext.blocks) ≡ true → IsSomeAnd o (Makes (Counted (posted_rows m) low))
            → IsLowering m low ps (record { cost = p; counted = o })
        found None is h = absurd h
        found (Some r) is h = lower_more is r h

        by : (b : Bool) → nat_lt 1 (length m.ext.blocks) ≡ b → IsLowering m low ps (record { cost = p; counted = c })
        by false is = subst (λ (o : Option AnyProp). IsLowering m low ps (record { cost = p; counted = o }))
            (sym (one (grind (arith, nat_tests, is)))) (lower_one is)
        by true is =
            let r = rows_stand is in
            found c is (more (grind (arith, nat_tests, is)) (posted_rows m) high r.0 r.1 r.2)

-- ---- what stands in a place

-- what is made of the one that stands there is made of each that does
pub of_there : (A : Type 0) (limit k : ℕ) (ps : List AnyProp) (q : AnyProp) (result : Result (Option AnyProp) NoMemory) → q ≡ get_or ps k q
    → IfOk result (λ r. (rows : List (List LeastEnd)) (high : ℕ) → constraint_of q ≡ Counted rows high → IsSomeAnd r (Makes (Counted rows limit)))
    → IfOk result (λ r. A → (rows : List (List LeastEnd)) (high : ℕ) (p : AnyProp) → slice_get ps k ≡ Some p
    → constraint_of p ≡ Counted rows high → IsSomeAnd r (Makes (Counted rows limit)))
of_there A limit k ps q (Err e) here h = tt
of_there A limit k ps q (Ok r) here h = λ a rows high p at is.
    let same : q ≡ p = here ∙ index_get ps k q p at in h rows high (ap constraint_of same ∙ is)
