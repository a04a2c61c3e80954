-- Where the relaxation of a store has no member under the limit, rounds over the propagators that are posted fail.
use Rattle.std.proofs.Common.{ℕ, ◌≡◌, ◌+◌, List, [], ◌∷◌, length, map, subst}
use Rattle.std.specs.Prelude.{Option, Some, None, IfSome}
use Rattle.std.specs.List.{AllByRecursion}
use Rattle.un_base.specs.declared.ids.VarId.{VarId}
use Rattle.un_isa.specs.Fit.{IsFit}
use Rattle.un_ir.specs.declared.extended.Ext.{Ext}
use Rattle.un_ir.specs.declared.extended.ExtBlock.{ExtBlock}
use Rattle.un_ir.specs.declared.extended.ExtOp.{ExtOp}
use Rattle.un_ir.specs.Extended.{IsExtended}
use Rattle.un_domains.specs.Domains.{values_of}
use Rattle.un_domains.specs.Order.{Below}
use Rattle.un_domains.specs.OrderLaws.{has_below, Below-trans}
use Rattle.un_domains.specs.Sets.{Sets, NoneEmpty}
use Rattle.un_model.specs.declared.model.Arc.{Arc}
use Rattle.un_model.specs.declared.model.BlockVars.{BlockVars}
use Rattle.un_model.specs.declared.model.Options.{Options}
use Rattle.un_model.specs.declared.model.OpVars.{OpVars}
use Rattle.un_model.specs.Options.{AreOptions}
use Rattle.un_model.specs.Variables.{model_of}
use Rattle.un_lists.proofs.Lists.{Each, Member, each_of, each_member, each_map}
use Rattle.un_prop.specs.Fixes.{Known, order_free}
use Rattle.un_prop.specs.Lawful.{Lawful}
use Rattle.un_prop.specs.Rounds.{fix_of}
use Rattle.un_bound.specs.Relaxations.{Times, IsValue, IsRelaxed, AreRelaxed, IsMemberUnder}
use Rattle.un_kinds.specs.Constraints.{Constraint}
use Rattle.un_post.specs.Listed.{all_postings_of}
use Rattle.un_post.specs.Strength.{Strong}
use Rattle.un_root.proofs.Eaches.{all_each}
use Rattle.un_post.proofs.Relaxed.{has_member}

-- ---- what is a member of a smaller store's relaxation is one of a larger store's

module _ (t s : Sets) (below : Below t s) where
  value_more : (c : Option VarId) (n : ℕ) → IfSome c (λ (v : VarId). IsValue t v n) → IfSome c (λ (v : VarId). IsValue s v n)
  value_more None n h = tt
  value_more (Some v) n h = has_below t s v.0 n below h

  pub block_more : (n : ℕ) (end : VarId) (ops : List ExtOp) (vars : List OpVars) (arcs : List Arc) (times : Times)
      → IsRelaxed t n end ops vars arcs times → IsRelaxed s n end ops vars arcs times
  block_more n end ops vars arcs times r = record {
    timing = r.timing;
    stop = has_below t s end.0 times.end below r.stop;
    cycles = λ k op v at here mandatory. value_more v.cycle _ (r.cycles k op v at here mandatory);
  }

  more : (n : ℕ) (blocks : List ExtBlock) (vars : List BlockVars) (arcs : List (List Arc)) (times : List Times)
      → AreRelaxed t n blocks vars arcs times → AreRelaxed s n blocks vars arcs times
  more n [] vars arcs times r = r
  more n (block ∷ blocks) [] arcs times r = r
  more n (block ∷ blocks) (v ∷ vars) [] times r = r
  more n (block ∷ blocks) (v ∷ vars) (here ∷ arcs) [] r = r
  more n (block ∷ blocks) (v ∷ vars) (here ∷ arcs) (u ∷ times) r = (
    block_more n v.end block.ops v.ops here u r.0,
    more (n + length block.ops) blocks vars arcs times r.1,
  )

-- ---- rounds

pub each_stable : {P : Type 0} (Q : P → Type 0) (ps : List P) → AllByRecursion Q ps → Each Q ps
each_stable Q [] h = tt
each_stable Q (p ∷ ps) h = (h.0, each_stable Q ps h.1)

module _ {P : Type 0} (scope : P → List VarId) (cut : P → Sets → Option Sets) (lawful : (p : P) → Lawful (scope p) (cut p))
    (asks : P → Constraint) where
  -- Propagators that ask for what is posted, each strong where it lets a store stay as it is.
  pub rounds_fail : (e : Ext) (o : Options) (limit : Option ℕ) (ps : List P) (s : Sets) → IsExtended e → IsFit e.table → AreOptions o
      → map asks ps ≡ all_postings_of (model_of e o) limit → Known scope cut lawful ps s → NoneEmpty s
      → Below s (map values_of (model_of e o).domains)
      → ((p : P) (t : Sets) → Member p ps → Below t s → NoneEmpty t → cut p t ≡ Some t → Strong t (asks p))
      → ((times : List Times) → IsMemberUnder limit (model_of e o) s times → ⊥)
      → fix_of cut ps s ≡ None
  rounds_fail e o limit ps s extended fit options posted known full inside strength none =
      let m = model_of e o in
      order_free scope cut lawful ps s None known full (λ t below some stable.
      let each = each_stable (λ p. cut p t ≡ Some t) ps stable in
      let strong = each_of (λ p. Strong t (asks p)) ps (λ p n. strength p t n below some (each_member _ ps p each n)) in
      let all = all_each (Strong t) (all_postings_of m limit) (subst (Each (Strong t)) posted (each_map (Strong t) asks ps strong)) in
      let r = has_member e o limit t extended fit options (Below-trans t s (map values_of m.domains) below inside) some all in
      none r.0 (more t s below 0 m.ext.blocks m.blocks m.arcs r.0 r.1.0, r.1.1))
