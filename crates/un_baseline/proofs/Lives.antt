-- Which names are live at the bounds of blocks.
use Rattle.std.proofs.Common.{◌≡◌, ℕ, zero, suc, ◌<◌, Bool, true, false, nat_eq, List, [], ◌∷◌, Option, Some, None}
use Rattle.std.proofs.Common.{map, filter, length, slice_get, Contains, if◌then◌else◌, refl, sym, ap, subst, ◌∙◌, arith}
use Rattle.std.specs.Prelude.{◌==◌}
use Rattle.std.specs.List.{range_with_len, list_any, position_or_len}
use Rattle.std.proofs.Math.Numerals.{one-add}
use Rattle.std.proofs.lemmas.Bool.{eqb-true}
use Rattle.std.proofs.lemmas.Option.{slice_get_past, slice_get_within, get_or_from_slice_get}
use Rattle.std.proofs.lemmas.List.Elements.{Contains-get_or}
use Rattle.un_base.specs.declared.ids.NameId.{NameId}
use Rattle.un_ir.specs.declared.function.SrcOp.{SrcOp}
use Rattle.un_ir.specs.declared.function.Block.{Block}
use Rattle.un_ir.specs.declared.function.Function.{Function}
use Rattle.un_ir.specs.LinearOf.{AreLive, live_at, live_after, is_among, name_of}
use Rattle.un_ir.specs.Live.{IsLive, used, kept, read_by, read_by_term, next_by, assigned_by, targets_of}
use Rattle.un_ir.proofs.NameBounds.{live_name_small}
use Rattle.un_lssa.proofs.EnterSim.{among_contains, contains_among, any_found, any_true, filter_has}

-- ---- lists

at_map : {A B : Type 0} (f : A → B) (xs : List A) (j : ℕ) (y : B) → slice_get (map f xs) j ≡ Some y
    → (x : A) × (slice_get xs j ≡ Some x) × (f x ≡ y)
at_map f [] j y h = absurd (cc h)
at_map f (x ∷ xs) zero y h = (x, refl, (let e : f x ≡ y = cc h in e))
at_map f (x ∷ xs) (suc j) y h = at_map f xs j y h

filtered : (p : ℕ → Bool) (xs : List ℕ) (j x : ℕ) → slice_get (filter p xs) j ≡ Some x → p x ≡ true
filtered p [] j x h = absurd (cc h)
filtered p (y ∷ xs) j x h = by (p y) refl j h (λ i got. filtered p xs i x got)
  where
    by : (t : Bool) → p y ≡ t → (i : ℕ) → slice_get (if t then y ∷ filter p xs else filter p xs) i ≡ Some x
        → ((i : ℕ) → slice_get (filter p xs) i ≡ Some x → p x ≡ true) → p x ≡ true
    by true e zero h ih = let same : y ≡ x = cc h in ap p (sym same) ∙ e
    by true e (suc i) h ih = ih i h
    by false e i h ih = ih i h

-- the first place of a name
pub place_found : (names : List NameId) (name : NameId) → Contains names name
    → slice_get names (position_or_len (λ (n : NameId). n.0 == name.0) names) ≡ Some name
place_found [] name (k, below, is) = absurd (omega arith)
place_found (m ∷ names) name has = by (nat_eq m.0 name.0) refl has (λ q. place_found names name q)
  where
    same_name : (x y : NameId) → x.0 ≡ y.0 → x ≡ y
    same_name x y h = ap name_of h

    later : Contains (m ∷ names) name → nat_eq m.0 name.0 ≡ false → Contains names name
    later (zero, below, is) e = let yes : nat_eq m.0 name.0 ≡ true = rw is (grind arith) in absurd (cc (sym e ∙ yes))
    later (suc k, below, is) e = (k, omega arith, is)

    by : (t : Bool) → nat_eq m.0 name.0 ≡ t → Contains (m ∷ names) name
        → (Contains names name → slice_get names (position_or_len (λ (n : NameId). n.0 == name.0) names) ≡ Some name)
        → slice_get (m ∷ names) (position_or_len (λ (n : NameId). n.0 == name.0) (m ∷ names)) ≡ Some name
    by true e has ih = rw e (ap (λ (x : NameId). Some x) (same_name m name (eqb-true m.0 name.0 e)))
    by false e has ih = rw (e, one-add) (ih (later has e))

-- ---- names over an edge

module _ (f : Function) (lists : List (List NameId)) (live : AreLive f.blocks lists) (b : ℕ) (source : Block)
    (at : slice_get f.blocks b ≡ Some source) where
  pub live_in : (name : NameId) → IsLive f.blocks name b 0 → Contains (live_at lists b) name
  live_in name l = (live.exact b name).1 l

  pub live_in_small : (i : ℕ) (name : NameId) → slice_get (live_at lists b) i ≡ Some name → name.0 < length f.names
  live_in_small i name got =
      live_name_small f name b 0 ((live.exact b name).0 (subst (Contains (live_at lists b))
      (get_or_from_slice_get (live_at lists b) i name name got)
      (Contains-get_or (live_at lists b) i name (slice_get_within (live_at lists b) i name got))))

  past_ops : slice_get source.ops (length source.ops) ≡ None
  past_ops = slice_get_past source.ops (length source.ops) (omega arith)

  -- what the terminator reads is live before it
  pub live_term : (name : NameId) → Contains (read_by_term source.term) name → IsLive f.blocks name b (length source.ops)
  live_term name has = used b (length source.ops) source at (omega arith) (subst
      (λ (o : Option SrcOp). Contains (read_by o source.term) name) (sym past_ops) has)

  abbrev start_of : ℕ → ℕ × ℕ
  start_of c = (c, 0)

  contains_map : (cs : List ℕ) (l : ℕ) → Contains cs l → Contains {X = ℕ × ℕ} (map start_of cs) (l, 0)
  contains_map [] l (k, below, is) = absurd (omega arith)
  contains_map (c ∷ cs) l (zero, below, is) = (0, omega arith, ap start_of is)
  contains_map (c ∷ cs) l (suc k, below, is) = let r = contains_map cs l (k, omega arith, is) in
      (suc r.0, (let lt = r.1 in omega arith), r.2)

  live_over : (name : NameId) (l : ℕ) → Contains (targets_of b source.term) l → IsLive f.blocks name l 0
      → IsLive f.blocks name b (length source.ops)
  live_over name l to there =
      kept b (length source.ops) source l 0 at (omega arith) (λ same. let e : None ≡ Some name = ap assigned_by (sym past_ops)
      ∙ same in cc e)
      (subst (λ (o : Option SrcOp). Contains (next_by b (length source.ops) o source.term) (l, 0)) (sym past_ops)
      (contains_map (targets_of b source.term) l to)) there

  -- each name that is live behind the block is live at its end
  pub live_out : (m : ℕ) (name : NameId) → slice_get (live_after lists (length f.names) b source.term) m ≡ Some name
      → IsLive f.blocks name b (length source.ops)
  live_out m name got =
      let p = λ (n : ℕ). list_any (λ (c : ℕ). is_among (live_at lists c) n) (targets_of b source.term) in
      let x = at_map name_of (filter p (range_with_len 0 (length f.names))) m name got in
      let found = any_found (λ (c : ℕ). is_among (live_at lists c) x.0) (targets_of b source.term)
      (filtered p (range_with_len 0 (length f.names)) m x.0 x.1) in
      let has = among_contains (live_at lists found.0) x.0 found.2 in
      live_over name found.0 found.1 (subst (λ (y : NameId). IsLive f.blocks y found.0 0) x.2 ((live.exact found.0 (name_of x.0)).0 has))

  -- each name that is live where the block leads is live behind it
  pub out_has : (l : ℕ) → Contains (targets_of b source.term) l → (name : NameId) → Contains (live_at lists l) name
      → Contains (live_after lists (length f.names) b source.term) name
  out_has l to name has =
      let h = live_name_small f name l 0 ((live.exact l name).0 has) in
      filter_has (λ (n : ℕ). list_any (λ (c : ℕ). is_among (live_at lists c) n) (targets_of b source.term)) 0 (length f.names) name.0
      (omega arith) (omega (arith, h))
      (any_true (λ (c : ℕ). is_among (live_at lists c) name.0) (targets_of b source.term) l to (contains_among (live_at lists l) name has))
