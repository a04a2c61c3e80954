-- The tree of an attempt is a certificate.
use Rattle.std.proofs.Common.{ℕ, ◌≡◌, ◌<◌, ◌+◌, List, [], ◌∷◌, Option, None, Some, MatchOption, refl, sym, ap, ◌∙◌, subst, length}
use Rattle.std.specs.Bool.{⊤}
use Rattle.std.specs.List.{AllByRecursion}
use Rattle.std.proofs.lemmas.List.Elements.{recursion_from_All, All-from_recursion}
use Rattle.un_base.specs.declared.ids.VarId.{VarId}
use Rattle.un_domains.specs.Cuts.{Contents}
use Rattle.un_domains.specs.OrderLaws.{Below-refl, Below-trans}
use Rattle.un_domains.specs.Sets.{Sets, NoneEmpty}
use Rattle.un_domains.specs.declared.side.Side.{Side}
use Rattle.un_domains.specs.declared.side.Side.TheVariants.{AtMost, Above}
use Rattle.un_model.specs.declared.model.Model.{Model}
use Rattle.un_bound.specs.Relaxations.{IsLeast}
use Rattle.un_post.specs.Posts.{fix_at, largest_horizon}
use Rattle.un_tree.specs.Boxes.{IsBox, Splits, half}
use Rattle.un_tree.specs.Searched.{HasTwo, IsSearched, IsTree, IsRefutation, IsStopped}
use Rattle.un_tree.specs.Waits.{Waiting, Whole, Begins, Inside, HasSides, visits}
use Rattle.un_tree.specs.declared.node.Node.{Node}
use Rattle.un_tree.specs.declared.node.Node.TheVariants.{Branch, Closed, Open, Split, Part}
use Rattle.un_branching.proofs.BoxLemmas.{half_box}
use Rattle.un_certificate.specs.Certificates.{IsAlive, IsCertificate, IsEmptyUnder}
use Rattle.un_certificate.specs.Joints.{blocks_of, visits_in}
use Rattle.un_model.specs.Boxes.{IsBelow, root_of}
use Rattle.un_domains.specs.Sets.{IsSingle}
use Rattle.un_model.specs.Boxes.{IsCheaper}
use Rattle.un_branching.specs.Searched.{IsTried, IsByRoot as IsByBox}
use Rattle.un_branching.specs.declared.attempt.Tried.{Tried as Answer}
use Rattle.un_branching.specs.declared.attempt.Tried.TheVariants.{Found as Good, Refuted as Gone, Cut as Short}
use Rattle.un_search.specs.declared.attempt.Tried.{Tried}
use Rattle.un_search.specs.declared.attempt.Tried.TheVariants.{Found, Refuted, Cut}
use Rattle.un_search.specs.Answers.{IsRefuted, IsCutOff, IsAnswerOf, IsByRoot, OnFound, OnRefuted, OnCut}
use Rattle.un_certificate.specs.ModelLaws.{posted_empty, posted_keeps}
use Rattle.un_engine.specs.Ends.{IsAt, IsEnd}
use Rattle.un_engine.specs.Engines.{State}
use Rattle.un_kinds.specs.AnyProps.{cut_of}
use Rattle.un_kinds.specs.declared.any.AnyProp.{AnyProp}
use Rattle.un_prop.specs.Rounds.{fix_of}
use Rattle.un_prop.specs.Pruning.{HasRoom}
use Rattle.un_prop.specs.declared.propagator.Scratch.{Scratch}
use Rattle.un_ir.specs.Extended.{IsExtended}
use Rattle.un_isa.specs.Fit.{IsFit}
use Rattle.un_model.specs.Variables.{IsModel}
use Rattle.un_branching.proofs.EndLemmas.{fails}
use Rattle.un_branching.specs.declared.problem.Look.TheVariants.{Failed}
use Rattle.un_certificate.specs.Posted.{ArePosted}
use Rattle.un_search.specs.Stores.{AreStores}

-- the boxes that wait are within the first one, outside of parts
abbrev AllBoxes : Sets → List Waiting → Type 0
AllBoxes root [] = ⊤
AllBoxes root (Whole b ∷ ws) = IsBox root b × AllBoxes root ws
AllBoxes root (Begins k b ∷ ws) = ⊥
AllBoxes root (Inside k number b ∷ ws) = ⊥

pub some_lost : (P : Sets → Type 0) (c : Option Sets) → MatchOption c ⊥ P → c ≡ None → ⊥
some_lost P None h e = h
some_lost P (Some f) h e = cc e

half_inside : (root b : Sets) (v : VarId) (x : ℕ) (side : Side) → IsBox root b → Splits b v x → IsBox root (half b v x side)
half_inside root b v x side i s =
    let h = half_box b b v x side i.1 (Below-refl b) i.1 s in (Below-trans (half b v x side) b root h.0 i.0, h.1)

module _ (m : Model) (limit : Option ℕ) (empty : (b : Sets) → IsBox (root_of m) b → IsEmptyUnder m limit b → fix_at m limit b ≡ None) where
  -- where the rounds do not fail the relaxation has a member
  all_alive : (i : ℕ) (ns : List Node) (ws : List Waiting) → AllBoxes (root_of m) ws
      → AllByRecursion HasSides (visits (blocks_of m) i ns ws)
      → AllByRecursion (IsSearched (fix_at m limit)) (visits (blocks_of m) i ns ws)
      → AllByRecursion (IsAlive m limit) (visits (blocks_of m) i ns ws)
  all_alive i [] ws boxes strict searched = tt
  all_alive i (n ∷ ns) [] boxes strict searched = tt
  all_alive i (n ∷ ns) (Begins k b ∷ ws) boxes strict searched = absurd boxes
  all_alive i (n ∷ ns) (Inside k number b ∷ ws) boxes strict searched = absurd boxes
  all_alive i (Branch v x ∷ ns) (Whole b ∷ ws) boxes strict searched = (
    λ none. some_lost (λ f. Splits f v x) (fix_at m limit b) searched.0 (empty b boxes.0 none),
    all_alive (i + 1) ns (Whole (half b v x AtMost) ∷ Whole (half b v x Above) ∷ ws)
        (half_inside (root_of m) b v x AtMost boxes.0 strict.0, (half_inside (root_of m) b v x Above boxes.0 strict.0, boxes.1))
        strict.1 searched.1,
  )
  all_alive i (Closed ∷ ns) (Whole b ∷ ws) boxes strict searched =
      (tt, all_alive (i + 1) ns ws boxes.1 strict.1 searched.1)
  all_alive i (Open ∷ ns) (Whole b ∷ ws) boxes strict searched = (
    λ none. some_lost HasTwo (fix_at m limit b) searched.0 (empty b boxes.0 none),
    all_alive (i + 1) ns ws boxes.1 strict.1 searched.1,
  )
  all_alive i (Split ∷ ns) (Whole b ∷ ws) boxes strict searched = absurd searched.0
  all_alive i (Part number ∷ ns) (Whole b ∷ ws) boxes strict searched = absurd searched.0

  certified : (t : List Node) → NoneEmpty (root_of m)
      → IsTree (blocks_of m) (root_of m) (fix_at m limit) (IsLeast m) (IsBelow m limit) t → IsCertificate m limit t
  certified t full h = record {
    tree = h;
    alive = All-from_recursion (IsAlive m limit) (visits_in m t)
        (all_alive 0 t (Whole (root_of m) ∷ []) ((Below-refl (root_of m), full), tt)
        (recursion_from_All HasSides (visits_in m t) h.strict)
        (recursion_from_All (IsSearched (fix_at m limit)) (visits_in m t) h.searched));
  }

  pub refuted_by : (n : ℕ) (t : List Node) → NoneEmpty (root_of m)
      → IsRefutation (blocks_of m) (root_of m) (fix_at m limit) (IsLeast m) (IsBelow m limit) n t → IsRefuted m limit n t
  refuted_by n t full h = record { certificate = certified t full h.tree; closed = h.closed; few = h.few }

  pub cut_off_by : (n : ℕ) (t : List Node) (low : ℕ) → NoneEmpty (root_of m)
      → IsStopped (blocks_of m) (root_of m) (fix_at m limit) (IsLeast m) (IsBelow m limit) n t low → IsCutOff m limit n t low
  cut_off_by n t low full h =
      record { certificate = certified t full h.tree; some = h.some; many = h.many; lowest = h.lowest }

-- the tree of a first box on which the rounds fail
pub closed_root : (m : Model) (limit : Option ℕ) (ps : List AnyProp) (n : ℕ) (t : List Node) → ArePosted m limit ps → NoneEmpty (root_of m)
    → fix_at m limit (root_of m) ≡ None → t ≡ Closed ∷ [] → 0 < n → IsRefuted m limit n t
closed_root m limit ps n t h full lost is some =
    refuted_by m limit (posted_empty m limit ps h) n t full
    (fails (root_of m) (fix_at m limit) (IsLeast m) (blocks_of m) (IsBelow m limit) t n Failed (posted_keeps m limit ps h) full refl lost is some)

module _ (m : Model) (limit : Option ℕ) (ps : List AnyProp) (h : ArePosted m limit ps) (full : NoneEmpty (root_of m)) (n : ℕ) where
  empties : (b : Sets) → IsBox (root_of m) b → IsEmptyUnder m limit b → fix_at m limit b ≡ None
  empties = posted_empty m limit ps h

  -- what the search says of its answer
  pub answers : (a : Answer) (r : Tried) → IsAnswerOf a r → IsTried (blocks_of m) (root_of m) (fix_at m limit) (IsLeast m) (IsBelow m limit) n a
      → OnFound (IsCheaper m limit) r × OnRefuted (IsRefuted m limit n) r × OnCut (IsCutOff m limit n) r
  answers (Good x) (Found s) is k = (subst (λ (xs : List ℕ). IsBelow m limit xs) (sym is) k, tt, tt)
  answers (Good x) (Refuted u) is k = absurd is
  answers (Good x) (Cut u low) is k = absurd is
  answers (Gone t) (Found s) is k = absurd is
  answers (Gone t) (Refuted u) is k =
      (tt, subst (IsRefuted m limit n) (sym is) (refuted_by m limit empties n t.nodes.items full k), tt)
  answers (Gone t) (Cut u low) is k = absurd is
  answers (Short t low) (Found s) is k = absurd is
  answers (Short t low) (Refuted u) is k = absurd is
  answers (Short t low) (Cut u own) is k = (
    tt,
    tt,
    subst (λ (ts : List Node). IsCutOff m limit n ts own) (sym is.0)
        (subst (IsCutOff m limit n t.nodes.items) (sym is.1) (cut_off_by m limit empties n t.nodes.items low full k)),
  )

pub by_root : (m : Model) (limit : Option ℕ) (a : Answer) (r : Tried) → IsAnswerOf a r
    → IsByBox (root_of m) (fix_at m limit) (IsLeast m) (IsBelow m limit) a → IsByRoot m limit r
by_root m limit (Good x) (Found s) is k =
    subst (λ (xs : List ℕ). MatchOption (fix_at m limit (root_of m)) ⊥ (IsSingle xs)) (sym is) k
by_root m limit (Good x) (Refuted u) is k = absurd is
by_root m limit (Good x) (Cut u low) is k = absurd is
by_root m limit (Gone t) (Found s) is k = absurd is
by_root m limit (Gone t) (Refuted u) is k = k
by_root m limit (Gone t) (Cut u low) is k = absurd is
by_root m limit (Short t low) (Found s) is k = absurd is
by_root m limit (Short t low) (Refuted u) is k = absurd is
by_root m limit (Short t low) (Cut u own) is k = k

-- the first box has no end where there is no engine
pub lost_root : (m : Model) (limit : Option ℕ) (s : Sets) (ps : List AnyProp) (e : Option (State AnyProp)) → s ≡ root_of m
    → ((box : Sets) → fix_of cut_of ps box ≡ fix_at m limit box) → IsEnd cut_of ps s e → e ≡ None → fix_at m limit (root_of m) ≡ None
lost_root m limit s ps e same fixed end is =
    sym (fixed (root_of m)) ∙ subst (λ (r : Sets). fix_of cut_of ps r ≡ None) same (subst (IsEnd cut_of ps s) is end)

-- an engine at the end of the first box
pub engine_at : (ps : List AnyProp) (s : Sets) (e : Option (State AnyProp)) (k : State AnyProp) → IsEnd cut_of ps s e → e ≡ Some k
    → IsAt cut_of ps s k
engine_at ps s e k end is = subst (IsEnd cut_of ps s) is end

-- stores at the first box
module _ (m : Model) (limit : Option ℕ) (ps : List AnyProp) (s : Sets) (k j : State AnyProp) (same : s ≡ root_of m)
    (at : IsAt cut_of ps s k) (is : j ≡ k) where
  pub first_are : (horizon : ℕ) (box copy : Contents) (scratch : Scratch) → IsModel m → IsExtended m.ext → IsFit m.ext.table
      → ArePosted m limit ps → box.sets ≡ s → copy ≡ box → HasRoom (length box.sets) (horizon + 1) scratch
      → horizon ≡ largest_horizon m.ext.blocks → AreStores m limit j.props j.store.sets copy.sets scratch
  first_are horizon box copy scratch model extended table posted sets copied room largest =
      subst (λ (e : State AnyProp). AreStores m limit e.props e.store.sets copy.sets scratch) (sym is)
      (subst (λ (b : Contents). AreStores m limit k.props k.store.sets b.sets scratch) (sym copied) (record {
        model = model;
        extended = extended;
        table = table;
        posted = subst (ArePosted m limit) (sym at.props) posted;
        ends_long = at.long ∙ ap length same;
        cuts_long = ap length (sets ∙ same);
        room = subst (λ (h : ℕ). HasRoom (length (root_of m)) (h + 1) scratch) largest
            (subst (λ (n : ℕ). HasRoom n (horizon + 1) scratch) (ap length (sets ∙ same)) room);
      }))

  pub first_end : ((box : Sets) → fix_of cut_of ps box ≡ fix_at m limit box) → fix_at m limit (root_of m) ≡ Some j.store.sets
  first_end fixed = sym (fixed (root_of m)) ∙ (subst (λ (r : Sets). fix_of cut_of ps r ≡ Some k.store.sets) same at.fix
      ∙ ap (λ (e : State AnyProp). Some e.store.sets) (sym is))
