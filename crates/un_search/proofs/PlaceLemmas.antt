-- Where a search stands: at an open box, at the first box, and back from a side.
use Rattle.std.proofs.Common.{ℕ, ◌≡◌, ◌≢◌, ◌+◌, List, [], ◌∷◌, ◌++◌, Option, None, Some, IfNone, MatchOption, refl, sym, ap, ◌∙◌, subst, length}
use Rattle.std.specs.Option.{option_to_list}
use Rattle.un_base.specs.declared.ids.VarId.{VarId}
use Rattle.un_domains.specs.OrderLaws.{Below-refl}
use Rattle.un_domains.specs.Cuts.{Contents}
use Rattle.un_domains.specs.Sets.{Sets, NoneEmpty}
use Rattle.un_engine.specs.Engines.{State}
use Rattle.un_kinds.specs.declared.any.AnyProp.{AnyProp}
use Rattle.un_model.specs.Boxes.{root_of}
use Rattle.un_model.specs.declared.model.Model.{Model}
use Rattle.un_post.specs.Posts.{fix_at, largest_horizon}
use Rattle.un_prop.specs.Pruning.{HasRoom}
use Rattle.un_prop.specs.declared.propagator.Scratch.{Scratch}
use Rattle.un_tree.specs.Boxes.{Splits, reached}
use Rattle.un_tree.specs.declared.node.Decision.{Decision}
use Rattle.un_walk.proofs.Paths.{last_once, snoc_some}
use Rattle.un_walk.proofs.StandLemmas.{box_here}
use Rattle.un_walk.specs.Stands.{IsStandAt, ways}
use Rattle.un_branching.proofs.BoxLemmas.{some_of, splits_box}
use Rattle.un_certificate.specs.ModelLaws.{posted_inside}
use Rattle.un_certificate.specs.Posted.{ArePosted}
use Rattle.un_stand.specs.Rooms.{IsAt, IsEndBy, IsEngineAt, Leveled, path_of}
use Rattle.un_stand.specs.declared.room.Room.{Room}
use Rattle.un_stand.specs.declared.rules.Rules.{Rules}
use Rattle.un_stand.proofs.RoomLemmas.{engine_here, lost_none, none_dead, rests_some}
use Rattle.un_search.proofs.AttemptLemmas.{some_lost}
use Rattle.un_search.specs.Roots.{AreAtRoot}
use Rattle.un_search.specs.Stores.{IsPlace}
use Rattle.un_search.specs.declared.rounds.ModelStores.{ModelStores}
use Rattle.un_search.specs.declared.rounds.Place.{Place}

-- at a box on which the rounds do not fail
module _ (m : Model) (limit : Option ℕ) (r : Room) (h : IsAt m limit r) (P : Sets → Type 0)
    (alive : MatchOption (fix_at m limit (reached (root_of m) (path_of r))) ⊥ P) where
  abbrev here : Option Sets
  here = fix_at m limit (reached (root_of m) (path_of r))

  -- there is an engine
  pub some_engine : r.engine ≡ None → ⊥
  some_engine none = some_lost P here alive (lost_none (root_of m) (fix_at m limit) h.props (path_of r) r.engine h.room.ends none)

  module _ (e : State AnyProp) (is : r.engine ≡ Some e) where
    end : here ≡ Some e.store.sets
    end = rests_some (root_of m) (fix_at m limit) h.props (path_of r) r.engine h.room.ends e is
        (none_dead (root_of m) (fix_at m limit) h.props (path_of r) r.engine h.room.ends (some_lost P here alive))

    -- with what they leave
    pub of_end : P e.store.sets
    of_end = subst (λ (c : Option Sets). MatchOption c ⊥ P) end alive

    pub to_end : (Q : Sets → Type 0) → Q e.store.sets → MatchOption (fix_at m limit (reached (root_of m) (path_of r))) ⊥ Q
    to_end Q q = subst (λ (c : Option Sets). MatchOption c ⊥ Q) (sym end) q

    pub end_live : NoneEmpty e.store.sets
    end_live = (posted_inside m limit h.props h.posted (reached (root_of m) (path_of r)) e.store.sets
        (box_here (root_of m) r.stand h.room.stand) end).1

-- the same engine
pub same_engine : (m : Model) (limit : Option ℕ) (r : Room) (e f : State AnyProp) → IsAt m limit r → r.engine ≡ Some e → f ≡ e
    → IsAt m limit (record { stand = r.stand; engine = Some f })
same_engine m limit r e f h is same = record {
  props = h.props;
  posted = h.posted;
  room = record {
    rounds = h.room.rounds;
    stand = h.room.stand;
    ends = subst (IsEndBy (root_of m) (fix_at m limit) h.props (path_of r)) (is ∙ ap (λ (k : State AnyProp). Some k) (sym same))
        h.room.ends;
  };
}

-- what splits what the rounds leave splits the box
pub splits_here : (m : Model) (limit : Option ℕ) (r : Room) → IsAt m limit r → (v : VarId) (x : ℕ)
    → MatchOption (fix_at m limit (reached (root_of m) (path_of r))) ⊥ (λ f. Splits f v x)
    → Splits (reached (root_of m) (path_of r)) v x
splits_here m limit r h v x alive =
    let b = reached (root_of m) (path_of r) in
    let f = some_of (fix_at m limit b) alive in
    let le = posted_inside m limit h.props h.posted b f.0 (box_here (root_of m) r.stand h.room.stand) f.1 in
    splits_box b f.0 v x le.0 le.1 f.2

-- down and up again
pub up_again : (old down new : List Decision) (d : Decision) (r : Option Decision) → down ≡ old ++ d ∷ [] → down ≡ new ++ option_to_list r
    → IfNone r (down ≡ []) → new ≡ old
up_again old down new d None is up none = absurd (snoc_some down old d is none)
up_again old down new d (Some e) is up none = (last_once new old e d (sym up ∙ is)).0

-- ---- the first box

pub leveled_none : (root : Sets) (fix : Sets → Option Sets) (ms : List Sets) (s : Sets) → Leveled root fix root [] ms s
    → (ms ≡ []) × (fix root ≡ Some s)
leveled_none root fix [] s h = (refl, h.1)
leveled_none root fix (m ∷ ms) s h = absurd h

module _ (r : Rules) (s : ModelStores) (h : AreAtRoot r.m.now r.limit s) where
  abbrev root : Sets
  root = root_of r.m.now

  engine_first : IsEngineAt root (fix_at r.m.now r.limit) s.engine.props [] s.engine
  engine_first = record {
    props = refl;
    long = h.stores.ends_long;
    at = subst (λ (ms : List Sets). Leveled root (fix_at r.m.now r.limit) root [] ms s.engine.store.sets) (sym h.fresh)
        ((Below-refl root, h.full), h.ends);
  }

  -- a place there
  pub first_is : (p : Place) → IsStandAt s.cuts.sets p.room.stand → path_of p.room ≡ [] → p.room.engine ≡ Some s.engine
      → p.scratch ≡ s.scratch → IsPlace r p
  first_is p stand path engine scratch = record {
    rules = record {
      model = h.stores.model;
      extended = h.stores.extended;
      table = h.stores.table;
      full = h.full;
      postable = record { props = s.engine.props; are = h.stores.posted };
    };
    at = record {
      props = s.engine.props;
      posted = h.stores.posted;
      room = record {
        rounds = h.stores.posted.rounds;
        stand = subst (λ (b : Sets). IsStandAt b p.room.stand) h.cuts stand;
        ends = subst (IsEndBy root (fix_at r.m.now r.limit) s.engine.props (path_of p.room)) (sym engine) (record {
          live = [];
          dead = [];
          path = path;
          end = engine_first;
          lost = tt;
        });
      };
    };
    scratch = subst (HasRoom (length root) (largest_horizon r.m.now.ext.blocks + 1)) (sym scratch) h.stores.room;
  }

  pub root_rests : fix_at r.m.now r.limit (root_of r.m.now) ≢ None
  root_rests none = let ends = h.ends in cc (ends, none)

  -- and back there, after a search
  pub back_at_root : (t : ModelStores) (room : Room) (scratch : Scratch) → IsAt r.m.now r.limit room
      → HasRoom (length root) (largest_horizon r.m.now.ext.blocks + 1) scratch → path_of room ≡ [] → room.engine ≡ Some t.engine
      → t.cuts ≡ room.stand.cuts → t.scratch ≡ scratch → AreAtRoot r.m.now r.limit t
  back_at_root t room scratch at has path engine cuts same =
      let e : IsEngineAt root (fix_at r.m.now r.limit) at.props [] t.engine =
      subst (λ (ds : List Decision). IsEngineAt root (fix_at r.m.now r.limit) at.props ds t.engine) path
      (engine_here root (fix_at r.m.now r.limit) at.props (path_of room) room.engine at.room.ends t.engine engine
      (subst (λ (ds : List Decision). fix_at r.m.now r.limit (reached root ds) ≢ None) (sym path) root_rests)) in
      let end = leveled_none root (fix_at r.m.now r.limit) t.engine.store.marked t.engine.store.sets e.at in
      let stand : IsStandAt root room.stand = at.room.stand in
      let box : t.cuts.sets ≡ root = ap (λ (k : Contents). k.sets) cuts ∙ (stand.sets ∙ ap (reached root) path) in
      record {
        postable = h.postable;
        stores = record {
          model = h.stores.model;
          extended = h.stores.extended;
          table = h.stores.table;
          posted = subst (ArePosted r.m.now r.limit) (sym e.props) at.posted;
          ends_long = e.long;
          cuts_long = ap length box;
          room = subst (HasRoom (length root) (largest_horizon r.m.now.ext.blocks + 1)) (sym same) has;
        };
        full = h.full;
        cuts = box;
        unmarked = ap (λ (k : Contents). k.marked) cuts ∙ (stand.marked ∙ ap (ways root) path);
        ends = end.1;
        fresh = end.0;
      }
