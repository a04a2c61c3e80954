-- What is posted for a model is met by exactly its solutions that cost less than the limit.
use Rattle.std.proofs.Common.{ℕ, zero, suc, ◌≡◌, ◌↔◌, ◌+◌, ◌-◌, ◌<◌, ◌++◌, Bool, true, false, List, [], ◌∷◌, length, map, inl, inr}
use Rattle.std.proofs.Common.{refl, sym, ap, subst, arith}
use Rattle.std.specs.Prelude.{Option, Some, None, slice_index, nat_eq, nat_lt, ◌||◌, if◌then◌else◌}
use Rattle.std.specs.List.{list_any}
use Rattle.std.proofs.lemmas.Bool.Decides.{nat_tests}
use Rattle.un_isa.specs.Fit.{IsFit}
use Rattle.un_domains.specs.Domains.{values_of}
use Rattle.un_domains.specs.Sets.{Sets, IsIn, has, set_at}
use Rattle.un_domains.specs.declared.domain.Domain.{Domain}
use Rattle.un_domains.specs.declared.domain.Domain.TheVariants.{Range, Set}
use Rattle.un_ir.specs.declared.extended.Ext.{Ext}
use Rattle.un_ir.specs.Extended.{IsExtended}
use Rattle.un_model.specs.declared.model.Options.{Options}
use Rattle.un_model.specs.declared.model.Model.{Model}
use Rattle.un_model.specs.Options.{AreOptions}
use Rattle.un_model.specs.Solutions.{InDomain, KeepsDomains}
use Rattle.un_model.specs.Variables.{model_of}
use Rattle.un_lists.proofs.Lists.{Member}
use Rattle.un_sites.specs.Befores.{befores_of, lengths_of}
use Rattle.un_kinds.specs.Constraints.{AllMet, Counted}
use Rattle.un_sites.specs.Postings.{postings_of}
use Rattle.un_sites.specs.Pressures.{pressures_of}
use Rattle.un_model.specs.Boxes.{IsCheaper}
use Rattle.un_sites.specs.Rooms.{rooms_of}
use Rattle.un_rows.specs.Rows.{rows_of}
use Rattle.un_post.proofs.Facts.{Given}
use Rattle.un_post.proofs.Lengths.{lengths_met}
use Rattle.un_post.proofs.Meeting.{all_met}
use Rattle.un_post.proofs.Memory.{befores, memory, contains_member, member_contains}
use Rattle.un_post.proofs.Posted.{all_append}
use Rattle.un_post.proofs.Pressed.{pressures_met}
use Rattle.un_post.proofs.Counts.{more_hold}
use Rattle.un_post.proofs.RowMet.{row_met}
use Rattle.un_post.proofs.Solved.{solved_by}
use Rattle.un_post.proofs.SpaceSets.{has_run}
use Rattle.un_post.specs.Listed.{counts_of, all_postings_of, posted_rows, unmet}

-- ---- the counts of saved values

counts_met : (e : Ext) (o : Options) (limit : Option ℕ) (x : List ℕ) → Given e o x
    → IsCheaper (model_of e o) limit (record { values = x }) → AllMet (counts_of (model_of e o) limit) x
counts_met e o None x given h = all_met x [] tt
counts_met e o (Some most) x given h = by (nat_lt 1 (length e.blocks)) refl
  where
    by : (b : Bool) → nat_lt 1 (length e.blocks) ≡ b → AllMet (if b then Counted (posted_rows (model_of e o)) most ∷ [] else []) x
    by false is = all_met x [] tt
    by true is = all_met x (Counted (posted_rows (model_of e o)) most ∷ []) (
      more_hold (rows_of (model_of e o)) (unmet (model_of e o)) most x
          (row_met (model_of e o) (record { values = x }) most refl given.extended given.fit given.options is h.0 h.1),
      tt,
    )

-- ---- of values within the domains

of_given : (e : Ext) (o : Options) (limit : Option ℕ) (x : List ℕ) → Given e o x
    → IsCheaper (model_of e o) limit (record { values = x }) ↔ AllMet (all_postings_of (model_of e o) limit) x
of_given e o limit x given =
    let m : Model = model_of e o in
    let a = all_append x (postings_of m limit) (counts_of m limit ++ (befores_of m ++ (rooms_of m ++ (lengths_of m ++ pressures_of m)))) in
    let k = all_append x (counts_of m limit) (befores_of m ++ (rooms_of m ++ (lengths_of m ++ pressures_of m))) in
    let b = all_append x (befores_of m) (rooms_of m ++ (lengths_of m ++ pressures_of m)) in
    let d = all_append x (rooms_of m) (lengths_of m ++ pressures_of m) in
    let f = all_append x (lengths_of m) (pressures_of m) in
    let solved = solved_by e o limit (record { values = x }) given in (
      λ h.
          let s = h.0 in
          let parts = (solved s.memory).0 h in
          let implied = f.1 (lengths_met e o x given s, pressures_met e o x given s) in
          a.1 (parts.0, k.1 (counts_met e o limit x given h, b.1 (befores e o x given s, d.1 (parts.1, implied)))),
      λ h.
          let u = a.0 h in
          let v = b.0 (k.0 u.1).1 in
          let w = d.0 v.1 in
          (solved (memory e o x given v.0)).1 (u.0, w.0),
    )

pub exact : (e : Ext) (o : Options) (limit : Option ℕ) (x : List ℕ) → IsExtended e → IsFit e.table → AreOptions o
    → KeepsDomains (model_of e o).domains x
    → IsCheaper (model_of e o) limit (record { values = x }) ↔ AllMet (all_postings_of (model_of e o) limit) x
exact e o limit x extended fit options domains =
    of_given e o limit x (record { extended = extended; fit = fit; options = options; domains = domains })

-- ---- of assignments of a store with the domains' values

or_rest : (a b : Bool) → b ≡ true → (a || b) ≡ true
or_rest true b h = refl
or_rest false b h = h

equal_any : (v : ℕ) (xs : List ℕ) → Member v xs → list_any (nat_eq v) xs ≡ true
equal_any v [] m = elim m [ ]
equal_any v (y ∷ ys) (inl e) =
    let t : nat_eq v y ≡ true = grind (arith, nat_tests, e) in ap (λ (b : Bool). b || list_any (nat_eq v) ys) t
equal_any v (y ∷ ys) (inr m) = or_rest (nat_eq v y) (list_any (nat_eq v) ys) (equal_any v ys m)

any_first : (v y : ℕ) (ys : List ℕ) (b : Bool) → nat_eq v y ≡ b → (list_any (nat_eq v) ys ≡ true → Member v ys)
    → (b || list_any (nat_eq v) ys) ≡ true → Member v (y ∷ ys)
any_first v y ys true e rest t = inl (grind (arith, nat_tests, e))
any_first v y ys false e rest t = inr (rest t)

pub any_equal : (v : ℕ) (xs : List ℕ) → list_any (nat_eq v) xs ≡ true → Member v xs
any_equal v [] h = absurd (cc h)
any_equal v (y ∷ ys) h = any_first v y ys (nat_eq v y) refl (λ t. any_equal v ys t) h

-- a value in a domain is one of its values
value_in : (d : Domain) (v : ℕ) → InDomain v d ↔ (has (values_of d) v ≡ true)
value_in (Range lo hi) v =
    let run = has_run lo (hi + 1 - lo) v in (
      λ h. let a = h.0 in let b = h.1 in run.0 (a, omega arith),
      λ h. let r = run.1 h in let a = r.0 in let b = r.1 in (a, omega arith),
    )
value_in (Set values) v = (λ h. equal_any v values (contains_member values v h), λ h. member_contains values v (any_equal v values h))

in_each : (ds : List Domain) (x : List ℕ) → KeepsDomains ds x → (length x ≡ length (map values_of ds))
    × ((v : ℕ) → v < length (map values_of ds) → has (set_at (map values_of ds) v) (slice_index x v) ≡ true)
in_each [] [] h = (refl, λ v lt. absurd (omega arith))
in_each [] (y ∷ ys) h = absurd h
in_each (d ∷ ds) [] h = absurd h
in_each (d ∷ ds) (y ∷ ys) h = let r = in_each ds ys h.1 in let first = (value_in d y).0 h.0 in (ap suc r.0, by first r.1)
  where
    by : has (values_of d) y ≡ true → ((v : ℕ) → v < length (map values_of ds)
        → has (set_at (map values_of ds) v) (slice_index ys v) ≡ true)
        → (v : ℕ) → v < length (map values_of (d ∷ ds)) → has (set_at (map values_of (d ∷ ds)) v) (slice_index (y ∷ ys) v) ≡ true
    by first rest zero lt = first
    by first rest (suc v) lt = rest v (omega arith)

each_in : (ds : List Domain) (x : List ℕ) → length x ≡ length (map values_of ds)
    → ((v : ℕ) → v < length (map values_of ds) → has (set_at (map values_of ds) v) (slice_index x v) ≡ true) → KeepsDomains ds x
each_in [] [] n h = tt
each_in [] (y ∷ ys) n h = absurd (omega arith)
each_in (d ∷ ds) [] n h = absurd (omega arith)
each_in (d ∷ ds) (y ∷ ys) n h = ((value_in d y).1 (h 0 (omega arith)), each_in ds ys (omega arith) (λ v lt. h (suc v) (omega arith)))

pub of_domains : (ds : List Domain) (s : Sets) (x : List ℕ) → s ≡ map values_of ds → IsIn x s ↔ KeepsDomains ds x
of_domains ds s x same = (
  λ h. let k = subst (IsIn x) same h in each_in ds x k.long k.each,
  λ h. let r = in_each ds x h in subst (IsIn x) (sym same) (record { long = r.0; each = r.1 }),
)

-- An assignment of a store with the values of the domains meets all that is posted exactly where it is a solution that costs less
-- than the limit; and each such solution is one of the store.
pub exact_in : (e : Ext) (o : Options) (limit : Option ℕ) (s : Sets) (x : List ℕ) → IsExtended e → IsFit e.table → AreOptions o
    → s ≡ map values_of (model_of e o).domains
    → IsCheaper (model_of e o) limit (record { values = x }) ↔ (IsIn x s × AllMet (all_postings_of (model_of e o) limit) x)
exact_in e o limit s x extended fit options same =
    let own = of_domains (model_of e o).domains s x same in (
      λ h. let solved = h.0 in
          (own.1 solved.in_domains, (exact e o limit x extended fit options solved.in_domains).0 h),
      λ h. (exact e o limit x extended fit options (own.0 h.0)).1 h.1,
    )
