-- Stores at the first box: as they are posted, after a search, and under a lower limit.
use Rattle.std.proofs.Common.{ℕ, ◌≡◌, ◌≤◌, List, [], length, map, Option, None, Some, All, sym, ap, ◌∙◌, subst, arith}
use Rattle.std.specs.Prelude.{IfSome}
use Rattle.un_domains.specs.OrderLaws.{Below-refl}
use Rattle.un_domains.specs.Sets.{Sets, NoneEmpty}
use Rattle.un_model.specs.declared.model.Model.{Model}
use Rattle.un_prop.specs.Pruning.{IsFix}
use Rattle.un_prop.specs.Rounds.{fix_of}
use Rattle.un_prop.specs.declared.run.Fix.{Fix}
use Rattle.un_prop.specs.declared.run.Fix.TheVariants.{Stable, Failed as Fails}
use Rattle.un_kinds.specs.AnyProps.{constraint_of, cut_of}
use Rattle.un_kinds.specs.Scopes.{IsTight}
use Rattle.un_kinds.specs.declared.any.AnyProp.{AnyProp}
use Rattle.un_post.specs.Listed.{all_postings_of}
use Rattle.un_post.specs.Lowered.{AreTighter, IsLowering, limit_place, with_lower}
use Rattle.un_post.specs.Posts.{ReadsFrom, fix_at}
use Rattle.un_post.specs.declared.lower.Lowered.{Lowered}
use Rattle.un_engine.proofs.EngineLaws.{failed_is, stable_is}
use Rattle.un_engine.specs.Engines.{State}
use Rattle.un_certificate.proofs.Posting.{are_posted}
use Rattle.un_model.specs.Boxes.{root_of}
use Rattle.un_certificate.specs.ModelLaws.{posted_inside}
use Rattle.un_certificate.specs.Posted.{ArePosted}
use Rattle.un_search.specs.Roots.{AreAtRoot, IsLost, IsRoot}
use Rattle.un_search.specs.Stores.{AreStores}
use Rattle.un_search.specs.declared.root.Root.{Root}
use Rattle.un_search.specs.declared.rounds.ModelStores.{ModelStores}

module _ (m : Model) (limit : Option ℕ) where
  -- each propagator reads what is there
  pub root_reads : (s : ModelStores) → AreAtRoot m limit s → All (ReadsFrom s.engine.store.sets) s.engine.props
  root_reads s h i d lt k x below = rw h.stores.ends_long (h.stores.posted.rounds.reads i d lt k x below)

  -- no set is empty there
  pub root_live : (s : ModelStores) → AreAtRoot m limit s → NoneEmpty s.engine.store.sets
  root_live s h = (posted_inside m limit s.engine.props h.stores.posted (root_of m) s.engine.store.sets
      (Below-refl (root_of m), h.full) h.ends).1

-- the same stores
pub root_kept : (m : Model) (r : Root) (s : ModelStores) → IsRoot m r → s ≡ r.stores
    → IsRoot m (record { stores = s; limit = r.limit; limit_at = r.limit_at })
root_kept m r s h same = record { at = subst (AreAtRoot m (Some r.limit)) (sym same) h.at; place = h.place }

-- stores with the same engine and box, in whatever order their variables are split
pub order_kept : (m : Model) (r : Root) (s : ModelStores) → IsRoot m r → s.engine ≡ r.stores.engine → s.cuts ≡ r.stores.cuts
    → s.scratch ≡ r.stores.scratch → IsRoot m (record { stores = s; limit = r.limit; limit_at = r.limit_at })
order_kept m r s h engine cuts scratch = record {
  at = record {
    postable = h.at.postable;
    stores = rw (engine, cuts, scratch) h.at.stores;
    full = h.at.full;
    cuts = rw cuts h.at.cuts;
    unmarked = rw cuts h.at.unmarked;
    ends = rw engine h.at.ends;
    fresh = rw engine h.at.fresh;
  };
  place = h.place;
}

-- a root under a limit is under one that is no lower than a number below it
pub root_above : (m : Model) (r : Option Root) (limit n : ℕ) → IfSome r (λ (k : Root). IsRoot m k × (k.limit ≡ limit)) → n ≤ limit
    → IfSome r (λ (k : Root). IsRoot m k × (n ≤ k.limit))
root_above m None limit n h le = tt
root_above m (Some k) limit n h le = (h.0, (let e = h.1 in omega (arith, e, le)))

-- ---- a lower limit

-- what is said of a list is so of one that is the same
pub by_props : (m : Model) (limit : ℕ) (l : Lowered) (ps qs : List AnyProp) (at : ℕ) → qs ≡ ps
    → ((most : ℕ) → limit ≤ most → map constraint_of qs ≡ all_postings_of m (Some most) → All IsTight qs → at ≡ limit_place m
    → IsLowering m limit qs l)
    → (most : ℕ) → limit ≤ most → map constraint_of ps ≡ all_postings_of m (Some most) → All IsTight ps → at ≡ limit_place m
    → IsLowering m limit ps l
by_props m limit l ps qs at same made most le asks tight place =
    subst (λ (rs : List AnyProp). IsLowering m limit rs l) same
    (made most le (subst (λ (rs : List AnyProp). map constraint_of rs ≡ all_postings_of m (Some most)) (sym same) asks)
    (subst (All IsTight) (sym same) tight) place)

module _ (m : Model) (r : Root) (h : IsRoot m r) (limit : ℕ) (l : Lowered) (low : IsLowering m limit r.stores.engine.props l) where
  abbrev ps : List AnyProp
  ps = r.stores.engine.props

  abbrev qs : List AnyProp
  qs = with_lower ps (limit_place m) l

  posted : ArePosted m (Some limit) qs
  posted = are_posted m (Some limit) qs h.at.postable low.asks low.tight

  pub low_tighter : AreTighter ps r.limit_at l
  low_tighter = subst (λ (k : ℕ). AreTighter ps k l) (sym h.place) low.tighter

  module _ (e : State AnyProp) (fix : Fix) (props : fix ≡ Stable → e.props ≡ with_lower ps r.limit_at l)
      (long : length e.store.sets ≡ length r.stores.engine.store.sets) (fresh : e.store.marked ≡ [])
      (ends : (box : Sets) → NoneEmpty box → length box ≡ length r.stores.engine.store.sets
      → fix_of cut_of ps box ≡ Some r.stores.engine.store.sets → IsFix (fix_of cut_of (with_lower ps r.limit_at l) box) e.store.sets fix) where
    run : IsFix (fix_at m (Some limit) (root_of m)) e.store.sets fix
    run = subst (λ (c : Option Sets). IsFix c e.store.sets fix)
        (ap (λ (k : ℕ). fix_of cut_of (with_lower ps k l) (root_of m)) h.place ∙ posted.rounds.fixed (root_of m))
        (ends (root_of m) h.at.full (sym h.at.stores.ends_long) (h.at.stores.posted.rounds.fixed (root_of m) ∙ h.at.ends))

    pub low_lost : fix ≡ Fails → IsLost m (Some limit)
    low_lost is = record {
      posted = record { props = qs; are = posted };
      full = h.at.full;
      fails = failed_is (fix_at m (Some limit) (root_of m)) e.store.sets
          (subst (IsFix (fix_at m (Some limit) (root_of m)) e.store.sets) is run);
    }

    pub low_root : (s : ModelStores) → s.engine ≡ e → s.cuts ≡ r.stores.cuts → s.scratch ≡ r.stores.scratch → fix ≡ Stable
        → AreAtRoot m (Some limit) s
    low_root s engine cuts scratch is =
        let own : e.props ≡ qs = props is ∙ ap (λ (k : ℕ). with_lower ps k l) h.place in
        let stores : AreStores m (Some limit) e.props e.store.sets r.stores.cuts.sets r.stores.scratch = record {
          model = h.at.stores.model;
          extended = h.at.stores.extended;
          table = h.at.stores.table;
          posted = subst (ArePosted m (Some limit)) (sym own) posted;
          ends_long = long ∙ h.at.stores.ends_long;
          cuts_long = h.at.stores.cuts_long;
          room = h.at.stores.room;
        } in
        record {
          postable = h.at.postable;
          stores = rw (engine, cuts, scratch) stores;
          full = h.at.full;
          cuts = rw cuts h.at.cuts;
          unmarked = rw cuts h.at.unmarked;
          ends = rw engine (stable_is (fix_at m (Some limit) (root_of m)) e.store.sets
              (subst (IsFix (fix_at m (Some limit) (root_of m)) e.store.sets) is run)).0;
          fresh = rw engine fresh;
        }
