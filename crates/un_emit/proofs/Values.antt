-- The values of a block's temporaries in a run that goes on past an operation that fails: a load that traps and a call without a
-- reply give 0, and what fails changes nothing. Up to the first failure it is the run of the extended function.
use Rattle.std.proofs.Common.{ℕ, ◌≡◌, ◌≢◌, ◌<◌, ◌+◌, Bool, false, List, [], ◌∷◌, map, inl, inr, refl, sym, ap, ◌∙◌, subst, arith}
use Rattle.std.specs.Prelude.{nat_eq, if◌then◌else◌}
use Rattle.std.proofs.lemmas.Bool.{eq-eqb}
use Rattle.un_base.specs.declared.ids.TempId.{TempId}
use Rattle.un_ir.specs.declared.function.SrcOp.{SrcOp}
use Rattle.un_ir.specs.declared.extended.NodeCopy.{NodeCopy}
use Rattle.un_ir.specs.declared.extended.ExtKind.{ExtKind}
use Rattle.un_ir.specs.declared.extended.ExtKind.TheVariants.{In, Out, Body, End, Copy, Enter, Leave}
use Rattle.un_ir.specs.declared.extended.Operand.{Operand}
use Rattle.un_ir.specs.declared.extended.ExtOp.{ExtOp}
use Rattle.un_ir.specs.declared.extended.Ext.{Ext}
use Rattle.un_ir.specs.Linear.{Values, World, Effect, Gives, Stops, LinearState, defined, defined_all, first_of, value_of, effect_of}
use Rattle.un_model.specs.declared.model.Options.{Options}
use Rattle.un_model.specs.Pairs.{places_from}
use Rattle.un_lists.proofs.Lists.{Each, Member, each_of, member_map, place_of}
use Rattle.un_model.proofs.Placed.{Placed, Spot, spot, spots_of, Counts}
use Rattle.un_model.proofs.PlacedSchedules.{all, spots, one_spot, member_joined, member_places}
use Rattle.un_model.proofs.Readings.{Solved, numbered}

-- ---- the run past failures

-- the value that an operation gives, and the world after it
abbrev pub effect_value : Effect → ℕ
effect_value (Gives v w) = v
effect_value (Stops stop) = 0

abbrev pub effect_world : World → Effect → World
effect_world w (Gives v u) = u
effect_world w (Stops stop) = w

abbrev pub total_by : ExtKind → ExtOp → LinearState → LinearState
total_by (Body so) op s =
    let x = effect_of so (map (value_of s.values) op.operands) s.world in
    record { values = defined_all s.values op.results (effect_value x ∷ []); world = effect_world s.world x }
total_by (Copy node) op s = record s { values = defined_all s.values op.results (map (value_of s.values) op.operands) }
total_by _ op s = s

abbrev pub total : List Placed → LinearState → LinearState
total [] s = s
total (p ∷ ps) s = total ps (total_by p.op.kind p.op s)

-- ---- temporaries that are not defined keep their values

defined_other : (values : Values) (x : TempId) (v y : ℕ) → y ≢ x.0 → defined values x v y ≡ values y
defined_other values x v y n = let e : nat_eq y x.0 ≡ false = not_same y x.0 n in ap (λ (b : Bool). if b then v else values y) e
  where
    not_same : (a b : ℕ) → a ≢ b → nat_eq a b ≡ false
    not_same a b d = grind (arith, d)

pub defined_own : (values : Values) (x : TempId) (v : ℕ) → defined values x v x.0 ≡ v
defined_own values x v = let e = eq-eqb x.0 x.0 refl in ap (λ (b : Bool). if b then v else values x.0) e

pub kept_all : (values : Values) (xs : List TempId) (vs : List ℕ) (y : ℕ) → Each (λ (x : TempId). y ≢ x.0) xs
    → defined_all values xs vs y ≡ values y
kept_all values [] vs y h = refl
kept_all values (x ∷ xs) [] y h = refl
kept_all values (x ∷ xs) (v ∷ vs) y h = kept_all (defined values x v) xs vs y h.1 ∙ defined_other values x v y h.0

-- no result of an operation is temporary y
abbrev pub Spares : ℕ → Placed → Type 0
Spares y p = Each (λ (x : TempId). y ≢ x.0) p.op.results

pub kept_by : (kind : ExtKind) (op : ExtOp) (s : LinearState) (y : ℕ) → Each (λ (x : TempId). y ≢ x.0) op.results
    → (total_by kind op s).values y ≡ s.values y
kept_by (Body so) op s y h = kept_all s.values op.results (effect_value (effect_of so (map (value_of s.values) op.operands) s.world) ∷ []) y
    h
kept_by (Copy node) op s y h = kept_all s.values op.results (map (value_of s.values) op.operands) y h
kept_by In op s y h = refl
kept_by Out op s y h = refl
kept_by (End term) op s y h = refl
kept_by Enter op s y h = refl
kept_by Leave op s y h = refl

pub kept : (ps : List Placed) (s : LinearState) (y : ℕ) → Each (Spares y) ps → (total ps s).values y ≡ s.values y
kept [] s y h = refl
kept (p ∷ ps) s y h = kept ps (total_by p.op.kind p.op s) y h.1 ∙ kept_by p.op.kind p.op s y h.0

-- ---- what holds of the values at the end

-- the world after an operation, where temporaries have these values
abbrev pub world_by : Values → ExtKind → ExtOp → World → World
world_by val (Body so) op w = effect_world w (effect_of so (map (value_of val) op.operands) w)
world_by val _ op w = w

pub record Equation (val : Values) (p : Placed) (w : World) : Type 0 where
  pub source : (so : SrcOp) (y : TempId) → p.op.kind ≡ Body so → p.op.results ≡ y ∷ []
      → val y.0 ≡ effect_value (effect_of so (map (value_of val) p.op.operands) w)
  pub copy : (node : NodeCopy) (y : TempId) (x : Operand) → p.op.kind ≡ Copy node → p.op.results ≡ y ∷ [] → p.op.operands ≡ x ∷ []
      → val y.0 ≡ value_of val x

abbrev pub Equations : Values → List Placed → World → Type 0
Equations val [] w = Unit {0}
Equations val (p ∷ ps) w = Equation val p w × Equations val ps (world_by val p.op.kind p.op w)

abbrev pub world_after : Values → List Placed → World → World
world_after val [] w = w
world_after val (p ∷ ps) w = world_after val ps (world_by val p.op.kind p.op w)

module _ (e : Ext) (o : Options) (values : List ℕ) (h : Solved e o values) where
  -- a result of an operation that comes later is another temporary
  spares : (n : ℕ) (ps : List Placed) (s : Spot) → Counts n ps → ((p : Placed) → Member p ps → Member p (all e o values))
      → Member s (spots e o values) → s.definer.number < n → Each (Spares s.temp.0) ps
  spares n [] s c into m lt = tt
  spares n (p ∷ ps) s c into m lt = (
    each_of (λ (x : TempId). s.temp.0 ≢ x.0) p.op.results (λ x mx q.
        let r = place_of p.op.results x mx in
        let u = spot p r.0 x in
        let mu = member_joined (map spots_of (all e o values)) (spots_of p) u (member_map spots_of (all e o values) p (into p (inl refl)))
        (member_places (spot p) p.op.results 0 r.0 r.0 x (omega arith) r.2) in
        let same = one_spot e o values (numbered e o values h) s u m mu q in
        let num : s.definer.number ≡ p.number = ap (λ (z : Spot). z.definer.number) same in
        let here = c.0 in omega arith),
    spares (n + 1) ps s c.1 (λ q mq. into q (inr mq)) m (omega arith),
  )

  module _ (val : Values) where
    -- the values at the end are those of the run from state s over these operations, of which the first has the number n
    pub record Runs (n : ℕ) (ps : List Placed) (s : LinearState) : Type 0 where
      pub counts : Counts n ps
      pub into : (p : Placed) → Member p ps → Member p (all e o values)
      pub end : (x : ℕ) → val x ≡ (total ps s).values x

    pub agrees : (n : ℕ) (ps : List Placed) (s : LinearState) (u : Spot) → Runs n ps s → Member u (spots e o values) → u.definer.number < n
        → val u.temp.0 ≡ s.values u.temp.0
    agrees n ps s u r m lt = r.end u.temp.0 ∙ kept ps s u.temp.0 (spares n ps u r.counts r.into m lt)

    -- the first alternatives of an operation's operands are defined before it
    abbrev pub FirstsBefore : Placed → Type 0
    FirstsBefore p = (x : Operand) → Member x p.op.operands → (u : Spot) × (Member u (spots e o values)) × (u.temp.0 ≡ first_of x.alts)
        × (u.definer.number < p.number)

    pub same_operands : (n : ℕ) (p : Placed) (ps : List Placed) (s : LinearState) → Runs n (p ∷ ps) s → FirstsBefore p
        → map (value_of s.values) p.op.operands ≡ map (value_of val) p.op.operands
    same_operands n p ps s r f = go p.op.operands (λ x m. m)
      where
        num : p.number ≡ n
        num = let c = r.counts in c.0

        go : (xs : List Operand) → ((x : Operand) → Member x xs → Member x p.op.operands)
            → map (value_of s.values) xs ≡ map (value_of val) xs
        go [] i = refl
        go (x ∷ xs) i =
            let u = f x (i x (inl refl)) in
            let lt = u.3 in let a = num in
            let v : s.values (first_of x.alts) ≡ val (first_of x.alts) =
            sym (subst (λ (y : ℕ). val y ≡ s.values y) u.2 (agrees n (p ∷ ps) s u.0 r u.1 (omega arith))) in
            ap (λ y. y ∷ map (value_of s.values) xs) v ∙ ap (λ ys. val (first_of x.alts) ∷ ys) (go xs (λ y m. i y (inr m)))

    pub next : (n : ℕ) (p : Placed) (ps : List Placed) (s : LinearState) → Runs n (p ∷ ps) s → Runs (n + 1) ps (total_by p.op.kind p.op s)
    next n p ps s r = let c = r.counts in record { counts = c.1; into = λ q m. r.into q (inr m); end = r.end }

    -- a result of the operation has at the end what the operation gave
    own_value : (n : ℕ) (p : Placed) (ps : List Placed) (s : LinearState) (y : TempId) → Runs n (p ∷ ps) s → p.op.results ≡ y ∷ []
        → val y.0 ≡ (total_by p.op.kind p.op s).values y.0
    own_value n p ps s y r q =
        let u = spot p 0 y in
        let mu = member_joined (map spots_of (all e o values)) (spots_of p) u (member_map spots_of (all e o values) p (r.into p (inl refl)))
        (subst (λ ys. Member u (places_from (spot p) 0 ys)) (sym q) (inl refl)) in
        let c = r.counts in let here = c.0 in
        agrees (n + 1) ps (total_by p.op.kind p.op s) u (next n p ps s r) mu (omega arith)

    pub world_step : (n : ℕ) (p : Placed) (ps : List Placed) (s : LinearState) → Runs n (p ∷ ps) s → FirstsBefore p
        → (total_by p.op.kind p.op s).world ≡ world_by val p.op.kind p.op s.world
    world_step n p ps s r f = by_kind p.op.kind (same_operands n p ps s r f)
      where
        by_kind : (k : ExtKind) → map (value_of s.values) p.op.operands ≡ map (value_of val) p.op.operands
            → (total_by k p.op s).world ≡ world_by val k p.op s.world
        by_kind (Body so) q = ap (λ xs. effect_world s.world (effect_of so xs s.world)) q
        by_kind (Copy node) q = refl
        by_kind In q = refl
        by_kind Out q = refl
        by_kind (End term) q = refl
        by_kind Enter q = refl
        by_kind Leave q = refl

    equation : (n : ℕ) (p : Placed) (ps : List Placed) (s : LinearState) → Runs n (p ∷ ps) s → FirstsBefore p → Equation val p s.world
    equation n p ps s r f = record {
      source = λ so y k q. own_value n p ps s y r q
          ∙ ap (λ (x : ExtKind). (total_by x p.op s).values y.0) k
          ∙ ap (λ ys. defined_all s.values ys (effect_value (effect_of so (map (value_of s.values) p.op.operands) s.world) ∷ []) y.0) q
          ∙ defined_own s.values y (effect_value (effect_of so (map (value_of s.values) p.op.operands) s.world))
          ∙ ap (λ xs. effect_value (effect_of so xs s.world)) (same_operands n p ps s r f);
      copy = λ node y x k q z. own_value n p ps s y r q
          ∙ ap (λ (t : ExtKind). (total_by t p.op s).values y.0) k
          ∙ ap (λ ys. defined_all s.values ys (map (value_of s.values) p.op.operands) y.0) q
          ∙ ap (λ vs. defined_all s.values (y ∷ []) vs y.0) (same_operands n p ps s r f ∙ ap (map (value_of val)) z)
          ∙ defined_own s.values y (value_of val x);
    }

    -- all operations
    pub equations : (n : ℕ) (ps : List Placed) (s : LinearState) → Runs n ps s → Each FirstsBefore ps → Equations val ps s.world
        × (world_after val ps s.world ≡ (total ps s).world)
    equations n [] s r f = (tt, refl)
    equations n (p ∷ ps) s r f =
        let w = world_step n p ps s r f.0 in
        let rest = equations (n + 1) ps (total_by p.op.kind p.op s) (next n p ps s r) f.1 in
        ((equation n p ps s r f.0, subst (λ (w : World). Equations val ps w) w rest.0), ap (world_after val ps) (sym w) ∙ rest.1)
