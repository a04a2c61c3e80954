-- The operations of a block that have room before its end, as a loop over the block's finds them.
use Rattle.std.proofs.Common.{ℕ, ◌≡◌, ◌+◌, max, Bool, true, false, cond, List, [], ◌∷◌, ◌++◌, map, drop, refl, sym, ap, ◌∙◌}
use Rattle.std.proofs.Common.{append_assoc}
use Rattle.std.specs.Prelude.{Option, Some, fold, slice_get, if◌then◌else◌}
use Rattle.std.specs.Option.{option_map}
use Rattle.un_isa.specs.declared.table.Table.{Table}
use Rattle.un_model.specs.declared.model.Arc.{Arc}
use Rattle.un_lists.proofs.Lists.{slice_get-map}
use Rattle.un_length.specs.declared.block.Task.{Task}
use Rattle.un_model.proofs.Steps.{drop_at}
use Rattle.un_rooms.specs.Demands.{demand_of, end_by, task_by}
use Rattle.un_rooms.specs.declared.demands.Demand.{Demand}
use Rattle.un_sites.specs.Crossings.{spills_at}
use Rattle.un_sites.specs.Lengths.{is_task, owed_head, end_head, most_of, task_of}
use Rattle.un_sites.specs.Shares.{has_leave, cycles_with}
use Rattle.un_sites.specs.Places.{Place}
use Rattle.un_sites.specs.Postings.{with_kind}
use Rattle.un_sites.specs.Sites.{place_of}
use Rattle.un_sites.specs.declared.edges.Accesses.{Accesses}
use Rattle.un_sites.specs.declared.sites.Spot.{Spot}

module _ (f : Place → Task) (i : ℕ) (spots : List Spot) (p : Spot) (ops next whole : List Task) where
  abbrev rest : List Place
  rest = with_kind is_task (map place_of (drop (i + 1) spots))

  -- those that are left
  abbrev pub Found : ℕ → List Task → Type 0
  Found k made = made ++ map f (with_kind is_task (map place_of (drop k spots))) ≡ whole

  kept : (b : Bool) → slice_get spots i ≡ Some p → is_task (place_of p).it.kind ≡ b
      → with_kind is_task (map place_of (drop i spots)) ≡ cond b (place_of p ∷ rest) rest
  kept b g t =
      ap (λ (ss : List Spot). with_kind is_task (map place_of ss)) (drop_at spots i p g)
      ∙ ap (λ (d : Bool). cond d (place_of p ∷ rest) rest) t

  pub task_more : (b : Bool) (task : Task) → Found i ops → slice_get spots i ≡ Some p → b ≡ is_task (place_of p).it.kind → b ≡ true
      → task ≡ f (place_of p) → next ≡ ops ++ task ∷ [] → Found (i + 1) next
  task_more b task h g is t made new =
      ap (λ (ts : List Task). ts ++ map f rest) (new ∙ ap (λ (u : Task). ops ++ u ∷ []) made)
      ∙ append_assoc ops (f (place_of p) ∷ []) (map f rest)
      ∙ (ap (λ (qs : List Place). ops ++ map f qs) (sym (kept true g (sym is ∙ t))) ∙ h)

  pub task_same : (b : Bool) → Found i ops → slice_get spots i ≡ Some p → b ≡ is_task (place_of p).it.kind → b ≡ false → next ≡ ops
      → Found (i + 1) next
  task_same b h g is t new =
      ap (λ (ts : List Task). ts ++ map f rest) new
      ∙ (ap (λ (qs : List Place). ops ++ map f qs) (sym (kept false g (sym is ∙ t))) ∙ h)

  nothing_more : (ts : List Task) → ts ++ [] ≡ ts
  nothing_more [] = refl
  nothing_more (u ∷ us) = ap (λ ts. u ∷ ts) (nothing_more us)

  -- an operation more, which is one of them or not
  pub task_next : (made : Task) → Found i ops → slice_get spots i ≡ Some p → made ≡ f (place_of p)
      → next ≡ ops ++ (if is_task (place_of p).it.kind then made ∷ [] else []) → Found (i + 1) next
  task_next made h g is new = by (is_task (place_of p).it.kind) refl
    where
      by : (b : Bool) → is_task (place_of p).it.kind ≡ b → Found (i + 1) next
      by true t = task_more true made h g (sym t) refl is (new ∙ ap (λ (b : Bool). ops ++ (if b then made ∷ [] else [])) t)
      by false t = task_same false h g (sym t) refl (new ∙ ap (λ (b : Bool). ops ++ (if b then made ∷ [] else [])) t ∙ nothing_more ops)

-- what is made of each operation, as a loop makes it
pub mapped_more : {B : Type 0} (f : Place → B) (i : ℕ) (spots : List Spot) (p : Spot) (found next whole : List B) (d : B)
    → found ++ map f (map place_of (drop i spots)) ≡ whole → slice_get spots i ≡ Some p → d ≡ f (place_of p) → next ≡ found ++ d ∷ []
    → next ++ map f (map place_of (drop (i + 1) spots)) ≡ whole
mapped_more {B} f i spots p found next whole d h g made new =
    let rest = map f (map place_of (drop (i + 1) spots)) in
    ap (λ ys. ys ++ rest) (new ∙ ap (λ (u : B). found ++ u ∷ []) made) ∙ append_assoc found (f (place_of p) ∷ []) rest
    ∙ (ap (λ (ss : List Spot). found ++ map f (map place_of ss)) (sym (drop_at spots i p g)) ∙ h)

-- ---- tasks by demands

mapped_twice : {A B C : Type 0} (f : B → C) (g : A → B) (xs : List A) → map f (map g xs) ≡ map (λ x. f (g x)) xs
mapped_twice f g [] = refl
mapped_twice f g (x ∷ xs) = ap (λ ys. f (g x) ∷ ys) (mapped_twice f g xs)

module _ (t : Table) (room : ℕ) (is_entry : Bool) (owed : Accesses) (arcs : List Arc) (ps : List Place) where
  abbrev all : List Demand
  all = map (demand_of t room is_entry arcs ps) ps

  end_is : end_by t owed ps all ≡ end_head t room is_entry owed arcs ps
  end_is =
      ap (λ (ns : List ℕ). max (cycles_with t ps (has_leave ps) (fold max owed.spills ns)
      (fold max owed.reloads (map (λ (d : Demand). d.asked.reloads) all)) + 1) (owed_head t owed))
      (mapped_twice (λ (d : Demand). d.asked.spills) (demand_of t room is_entry arcs ps) ps)
      ∙ ap (λ (ns : List ℕ). max (cycles_with t ps (has_leave ps) (most_of owed.spills (spills_at t room is_entry arcs ps) room ps)
      (fold max owed.reloads ns) + 1) (owed_head t owed))
      (mapped_twice (λ (d : Demand). d.asked.reloads) (demand_of t room is_entry arcs ps) ps)

  pub task_is : (p : Place) (end : ℕ) (demands : List Demand) (d : Demand) → demands ≡ all → end ≡ end_by t owed ps demands
      → d ≡ demand_of t room is_entry arcs ps p → task_by t end p d ≡ task_of t room is_entry owed arcs ps p
  task_is p end demands d are is made =
      ap (task_by t end p) made
      ∙ ap (λ (n : ℕ). task_by t n p (demand_of t room is_entry arcs ps p)) (is ∙ ap (end_by t owed ps) are ∙ end_is)

-- the demand at a place is that of the operation there
pub demand_at : (f : Place → Demand) (i : ℕ) (spots : List Spot) (p : Spot) (demands : List Demand) (d : Demand)
    → demands ≡ map f (map place_of spots) → slice_get spots i ≡ Some p → slice_get demands i ≡ Some d → d ≡ f (place_of p)
demand_at f i spots p demands d are g h =
    let there : Some (f (place_of p)) ≡ slice_get (map f (map place_of spots)) i =
    ap (λ (q : Option Place). option_map f q) (sym (ap (option_map place_of) g)) ∙ ap (option_map f) (sym (slice_get-map place_of spots i))
    ∙ sym (slice_get-map f (map place_of spots) i) in
    let both : Some d ≡ Some (f (place_of p)) = sym h ∙ ap (λ ds. slice_get ds i) are ∙ sym there in
    cc both
