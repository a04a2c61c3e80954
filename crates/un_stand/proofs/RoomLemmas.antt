-- What the rounds leave on the way down and up.
use Rattle.std.proofs.Common.{ℕ, ◌≡◌, ◌≢◌, ◌<◌, ◌≤◌, ◌+◌, Bool, true, false, List, [], ◌∷◌, ◌++◌, length, None, Some, IfSome}
use Rattle.std.proofs.Common.{refl, sym, ap, subst, ◌∙◌, append_assoc, length-append, option_and_then, cond, filter, nat_eq, arith}
use Rattle.std.proofs.lemmas.Bool.Decides.{nat_tests}
use Rattle.std.proofs.lemmas.List.{append-nil, get_or-set_same, length-set}
use Rattle.std.specs.declared.option.Option.{Option}
use Rattle.un_domains.specs.Sets.{Sets, set_at, kept, cut_by, NoneEmpty}
use Rattle.un_domains.specs.OrderLaws.{Below-refl, Below-trans}
use Rattle.un_engine.specs.Ends.{IsDeeper, IsEnd}
use Rattle.un_engine.specs.Engines.{State}
use Rattle.un_engine.proofs.EngineLaws.{stable_is, failed_is}
use Rattle.un_kinds.specs.AnyProps.{cut_of}
use Rattle.un_kinds.specs.declared.any.AnyProp.{AnyProp}
use Rattle.un_prop.specs.Pruning.{IsFix}
use Rattle.un_prop.specs.declared.run.Fix.TheVariants.{Stable as Rests, Failed as Lost}
use Rattle.un_prop.specs.Rounds.{fix_of}
use Rattle.un_domains.specs.Sides.{side_test}
use Rattle.un_tree.specs.Boxes.{IsBox, Splits, decided, reached}
use Rattle.un_tree.specs.declared.node.Decision.{Decision}
use Rattle.un_certificate.specs.ModelLaws.{rounds_parts, rounds_inside}
use Rattle.un_certificate.specs.Posted.{AreRounds}
use Rattle.un_stand.specs.Engines.{IsDecided, IsLeft, IsSame, IsUndone, side_end}
use Rattle.un_stand.specs.Rooms.{AllLost, Goes, IsEndAt, IsEndBy, IsEngineAt, IsRoom, IsRoomAt, IsRoomOn, Leveled, path_of}
use Rattle.un_stand.proofs.LevelLemmas.{reached-append, leveled_end, leveled_push, leveled_pop, leveled_long}
use Rattle.un_walk.specs.Stands.{IsStandAt}
use Rattle.un_stand.specs.declared.room.Room.{Room}
use Rattle.un_walk.proofs.Paths.{half_box, last_once, not_nil, side_box, snoc_some}
use Rattle.un_walk.proofs.StandLemmas.{box_here as stand_box, marks_long}

-- ---- decisions on whose boxes the rounds fail

lost_snoc : (fix : Sets → Option Sets) (b : Sets) (ds : List Decision) (d : Decision) → AllLost fix b ds
    → fix (decided d (reached b ds)) ≡ None → AllLost fix b (ds ++ d ∷ [])
lost_snoc fix b [] d all one = (one, tt)
lost_snoc fix b (e ∷ ds) d all one = (all.0, lost_snoc fix (decided e b) ds d all.1 one)

lost_init : (fix : Sets → Option Sets) (b : Sets) (ds : List Decision) (d : Decision) → AllLost fix b (ds ++ d ∷ []) → AllLost fix b ds
lost_init fix b [] d all = tt
lost_init fix b (e ∷ ds) d all = (all.0, lost_init fix (decided e b) ds d all.1)

lost_last : (fix : Sets → Option Sets) (b : Sets) (ds : List Decision) → AllLost fix b ds → ds ≢ [] → fix (reached b ds) ≡ None
lost_last fix b [] all some = absurd (some refl)
lost_last fix b (d ∷ []) all some = all.0
lost_last fix b (d ∷ e ∷ ds) all some = lost_last fix (decided d b) (e ∷ ds) all.1 (λ none. cc none)

-- ---- what the rounds leave of the box

at_dead : (fix : Sets → Option Sets) (root : Sets) (live dead : List Decision) → AllLost fix (reached root live) dead → dead ≢ []
    → fix (reached root (live ++ dead)) ≡ None
at_dead fix root live dead lost some =
    ap fix (reached-append root live dead) ∙ lost_last fix (reached root live) dead lost some

dead_or_none : (fix : Sets → Option Sets) (root : Sets) (live dead : List Decision) → live ≡ [] → fix root ≡ None
    → AllLost fix (reached root live) dead → fix (reached root (live ++ dead)) ≡ None
dead_or_none fix root live [] none e lost = ap (λ (ds : List Decision). fix (reached root (ds ++ []))) none ∙ e
dead_or_none fix root live (d ∷ ds) none e lost = at_dead fix root live (d ∷ ds) lost (λ is. cc is)

live_end : (fix : Sets → Option Sets) (root : Sets) (live dead : List Decision) (ms : List Sets) (s : Sets) → Leveled root fix root live ms s
    → dead ≡ [] → fix (reached root (live ++ dead)) ≡ Some s
live_end fix root live dead ms s h none =
    ap (λ (ds : List Decision). fix (reached root (live ++ ds))) none
    ∙ (ap fix (reached-append root live []) ∙ (leveled_end root fix root live ms s h).1)

module _ (root : Sets) (fix : Sets → Option Sets) (ps : List AnyProp) (ds : List Decision) (o : Option (State AnyProp)) (h : IsEndBy root fix ps ds o) where
  pub lost_dead : h.dead ≢ [] → fix (reached root ds) ≡ None
  lost_dead some = ap (λ (xs : List Decision). fix (reached root xs)) h.path
      ∙ at_dead fix root h.live h.dead h.lost some

  pub lost_none : o ≡ None → fix (reached root ds) ≡ None
  lost_none is = let e = subst (IsEndAt root fix ps h.live) is h.end in
      ap (λ (xs : List Decision). fix (reached root xs)) h.path
      ∙ dead_or_none fix root h.live h.dead e.0 e.1 h.lost

  pub rests_some : (e : State AnyProp) → o ≡ Some e → h.dead ≡ [] → fix (reached root ds) ≡ Some e.store.sets
  rests_some e is none = let at = subst (IsEndAt root fix ps h.live) is h.end in
      ap (λ (xs : List Decision). fix (reached root xs)) h.path
      ∙ live_end fix root h.live h.dead e.store.marked e.store.sets at.at none

  -- where the rounds do not fail, they do not on the way
  pub none_dead : fix (reached root ds) ≢ None → h.dead ≡ []
  none_dead rests = by h.dead lost_dead
    where
      by : (dead : List Decision) → (dead ≢ [] → fix (reached root ds) ≡ None) → dead ≡ []
      by [] lost = refl
      by (d ∷ dead) lost = absurd (rests (lost (λ is. cc is)))

-- where the rounds do not fail, the engine has a mark for each decision
pub engine_here : (root : Sets) (fix : Sets → Option Sets) (ps : List AnyProp) (ds : List Decision) (o : Option (State AnyProp)) → IsEndBy root fix ps ds o
    → (e : State AnyProp) → o ≡ Some e → fix (reached root ds) ≢ None → IsEngineAt root fix ps ds e
engine_here root fix ps ds o h e is rests =
    let whole : ds ≡ h.live = h.path ∙ (ap (λ (xs : List Decision). h.live ++ xs) (none_dead root fix ps ds o h rests) ∙ append-nil h.live) in
    subst (λ (xs : List Decision). IsEngineAt root fix ps xs e) (sym whole) (subst (IsEndAt root fix ps h.live) is h.end)

-- and is at what they leave
pub end_here : (root : Sets) (fix : Sets → Option Sets) (ps : List AnyProp) (r : Room) → IsRoomAt root fix ps r → (e : State AnyProp) → r.engine ≡ Some e
    → fix (reached root (path_of r)) ≢ None → fix r.stand.cuts.sets ≡ Some e.store.sets
end_here root fix ps r h e is rests = ap fix h.stand.sets
    ∙ rests_some root fix ps (path_of r) r.engine h.ends e is (none_dead root fix ps (path_of r) r.engine h.ends rests)

-- the marks tell whether the rounds fail
module _ (root : Sets) (fix : Sets → Option Sets) (ps : List AnyProp) (r : Room) (h : IsRoomAt root fix ps r) (e : State AnyProp) (is : r.engine ≡ Some e) where
  marks : length r.stand.cuts.marked ≡ length e.store.marked + length h.ends.dead
  marks =
      let end = subst (IsEndAt root fix ps h.ends.live) is h.ends.end in
      let own = leveled_long root fix root h.ends.live e.store.marked e.store.sets end.at in
      omega (arith, marks_long root r.stand h.stand, ap length h.ends.path, length-append h.ends.live h.ends.dead, own)

  pub fewer_marks : length e.store.marked < length r.stand.cuts.marked → fix (reached root (path_of r)) ≡ None
  fewer_marks lt = lost_dead root fix ps (path_of r) r.engine h.ends (λ none. (omega (arith, lt, marks, ap length none)))

  pub all_marks : length r.stand.cuts.marked ≤ length e.store.marked → fix (reached root (path_of r)) ≢ None
  all_marks le none =
      let no : h.ends.dead ≡ [] = no_dead h.ends.dead (omega (arith, le, marks)) in
      let rests = rests_some root fix ps (path_of r) r.engine h.ends e is no in cc (rests, none)
    where
      no_dead : (ds : List Decision) → length ds ≡ 0 → ds ≡ []
      no_dead [] e = refl
      no_dead (d ∷ ds) e = absurd (omega (arith, e))

-- ---- the engine

-- a step back from a step down
back_same : (a b c : State AnyProp) → IsDeeper a b → IsDeeper c b → IsSame a c
back_same a b c down up =
    let same = last_once c.store.marked a.store.marked c.store.sets a.store.sets (sym up.marked ∙ down.marked) in
    record { props = sym up.props ∙ down.props; sets = same.1; marked = same.0 }

pub decided_stable : (d : Decision) (a b : State AnyProp) → IsDeeper a b
    → ((box : Sets) → NoneEmpty box → length box ≡ length a.store.sets → fix_of cut_of a.props box ≡ Some a.store.sets
    → IsFix (side_end a.props d box) b.store.sets Rests)
    → IsDecided d a b true
decided_stable d a b deeper child = (deeper, λ box full long is. (stable_is (side_end a.props d box) b.store.sets (child box full long is)).0)

pub decided_failed : (d : Decision) (a b c : State AnyProp) → IsDeeper a b → IsDeeper c b
    → ((box : Sets) → NoneEmpty box → length box ≡ length a.store.sets → fix_of cut_of a.props box ≡ Some a.store.sets
    → IsFix (side_end a.props d box) b.store.sets Lost)
    → IsDecided d a c false
decided_failed d a b c deeper back child =
    (back_same a b c deeper back, λ box full long is. failed_is (side_end a.props d box) b.store.sets (child box full long is))

-- a cut that leaves a box with no empty set does not fail
cut_leaves : (q : ℕ → Bool) (v : ℕ) (b : Sets) → v < length b → NoneEmpty (kept q b v) → cut_by q v b ≡ Some (kept q b v)
cut_leaves q v b there full =
    let at : 0 < length (set_at (kept q b v) v) = full v (omega (arith, there, length-set b v (filter q (set_at b v)))) in
    let some : 0 < length (filter q (set_at b v)) =
    subst (λ (xs : List ℕ). 0 < length xs) (get_or-set_same b v (filter q (set_at b v)) [] there) at in
    let some_left : nat_eq (length (filter q (set_at b v))) 0 ≡ false = grind (arith, nat_tests, some) in
    ap (λ (c : Bool). cond c None (Some (kept q b v))) some_left

-- what the rounds leave of a side of the box
side_is : (root : Sets) (fix : Sets → Option Sets) (ps : List AnyProp) (d : Decision) (b : Sets) (c : Option Sets) → AreRounds root fix ps
    → IsBox root b → Splits b d.var d.val → side_end ps d b ≡ c → fix (decided d b) ≡ c
side_is root fix ps d b c rounds i s e =
    let full : NoneEmpty (decided d b) = (side_box root b d d.side i s).1 in
    sym (rounds.fixed (decided d b))
    ∙ (sym (ap (option_and_then (fix_of cut_of ps)) (cut_leaves (side_test d.side d.val) d.var.0 b s.0 full)) ∙ e)

-- ---- down

module _ (root : Sets) (fix : Sets → Option Sets) (ps : List AnyProp) (ds : List Decision) (o : Option (State AnyProp)) (h : IsEndBy root fix ps ds o) (d : Decision) where
  end_lost : fix (decided d (reached root ds)) ≡ None → IsEndBy root fix ps (ds ++ d ∷ []) o
  end_lost none = record {
    live = h.live;
    dead = h.dead ++ d ∷ [];
    path = ap (λ (xs : List Decision). xs ++ d ∷ []) h.path ∙ append_assoc h.live h.dead (d ∷ []);
    end = h.end;
    lost = lost_snoc fix (reached root h.live) h.dead d h.lost
        (subst (λ (b : Sets). fix (decided d b) ≡ None)
        (ap (reached root) h.path ∙ reached-append root h.live h.dead) none);
  }

-- what splits the box of a room splits that of its decisions
pub split_at : (root : Sets) (fix : Sets → Option Sets) (ps : List AnyProp) (r : Room) → IsRoomAt root fix ps r → (d : Decision)
    → Splits r.stand.cuts.sets d.var d.val → Splits (reached root (path_of r)) d.var d.val
split_at root fix ps r h d s = subst (λ (b : Sets). Splits b d.var d.val) h.stand.sets s

module _ (root : Sets) (fix : Sets → Option Sets) (ps : List AnyProp) (r : Room) (h : IsRoomAt root fix ps r)
    (d : Decision) (s : Splits (reached root (path_of r)) d.var d.val) where
  box_here : IsBox root (reached root (path_of r))
  box_here = stand_box root r.stand h.stand

  -- where the rounds fail, they fail on a side
  pub entered_lost : fix (reached root (path_of r)) ≡ None → IsEndBy root fix ps (path_of r ++ d ∷ []) r.engine
  entered_lost none =
      let i = box_here in
      let side = half_box (reached root (path_of r)) d.var d.val d.side i.1 s in
      end_lost root fix ps (path_of r) r.engine h.ends d
      (rounds_parts root fix ps h.rounds (reached root (path_of r)) (decided d (reached root (path_of r))) i
      (Below-trans _ _ _ side.0 i.0, side.1) side.0 none)

  module _ (a : State AnyProp) (at : r.engine ≡ Some a) (rests : fix (reached root (path_of r)) ≢ None) where
    none : h.ends.dead ≡ []
    none = none_dead root fix ps (path_of r) r.engine h.ends rests

    end_a : IsEngineAt root fix ps h.ends.live a
    end_a = subst (IsEndAt root fix ps h.ends.live) at h.ends.end

    here : fix (reached root (path_of r)) ≡ Some a.store.sets
    here = rests_some root fix ps (path_of r) r.engine h.ends a at none

    pub engine_there : d.var.0 < length a.store.sets
    engine_there = let i = box_here in let long = end_a.long in omega (arith, s.0, i.0.long, long)

    pub engine_live : NoneEmpty a.store.sets
    engine_live = (rounds_inside root fix ps h.rounds (reached root (path_of r)) a.store.sets box_here here).1

    -- from the engine's own propagators to these
    side_end_is : (b : Option Sets) → side_end a.props d (reached root (path_of r)) ≡ b → side_end ps d (reached root (path_of r)) ≡ b
    side_end_is b e = subst (λ (qs : List AnyProp). side_end qs d (reached root (path_of r)) ≡ b) end_a.props e

    own_end : fix_of cut_of a.props (reached root (path_of r)) ≡ Some a.store.sets
    own_end = ap (λ (qs : List AnyProp). fix_of cut_of qs (reached root (path_of r))) end_a.props
        ∙ (h.rounds.fixed (reached root (path_of r)) ∙ here)

    all_live : path_of r ≡ h.ends.live
    all_live = h.ends.path ∙ (ap (λ (ds : List Decision). h.ends.live ++ ds) none ∙ append-nil h.ends.live)

    pub entered_by : (b : State AnyProp) (stable : Bool) → IsDecided d a b stable → IsEndBy root fix ps (path_of r ++ d ∷ []) (Some b)
    entered_by b true h' =
        let i = box_here in
        let end = side_is root fix ps d (reached root (path_of r)) (Some b.store.sets) h.rounds i s
        (side_end_is (Some b.store.sets) (h'.1 (reached root (path_of r)) i.1 (i.0.long ∙ sym end_a.long) own_end)) in
        let side = side_box root (reached root (path_of r)) d d.side i s in
        let same : reached root (path_of r) ≡ reached root h.ends.live = ap (reached root) all_live in
        record {
          live = h.ends.live ++ d ∷ [];
          dead = [];
          path = ap (λ (ds : List Decision). ds ++ d ∷ []) all_live ∙ sym (append-nil (h.ends.live ++ d ∷ []));
          end = record {
            props = h'.0.props ∙ end_a.props;
            long = h'.0.long ∙ end_a.long;
            at = subst (λ (ms : List Sets). Leveled root fix root (h.ends.live ++ d ∷ []) ms b.store.sets)
                (sym h'.0.marked) (leveled_push root fix root h.ends.live a.store.marked a.store.sets b.store.sets
                d end_a.at (subst (λ (c : Sets). IsBox root (decided d c)) same side)
                (subst (λ (c : Sets). fix (decided d c) ≡ Some b.store.sets) same end));
          };
          lost = tt;
        }
    entered_by b false h' =
        let i = box_here in
        let end = side_is root fix ps d (reached root (path_of r)) None h.rounds i s
        (side_end_is None (h'.1 (reached root (path_of r)) i.1 (i.0.long ∙ sym end_a.long) own_end)) in
        end_lost root fix ps (path_of r) (Some b) (record {
          live = h.ends.live;
          dead = h.ends.dead;
          path = h.ends.path;
          end = record {
            props = h'.0.props ∙ end_a.props;
            long = ap length h'.0.sets ∙ end_a.long;
            at = subst (λ (ms : List Sets). Leveled root fix root h.ends.live ms b.store.sets)
                (sym h'.0.marked) (subst (Leveled root fix root h.ends.live a.store.marked)
                (sym h'.0.sets) end_a.at);
          };
          lost = h.ends.lost;
        }) d end

-- ---- up

-- an engine has a mark for each decision on the way
engine_marks : (root : Sets) (fix : Sets → Option Sets) (ps : List AnyProp) (ds : List Decision) (e : Option (State AnyProp)) → IsEndAt root fix ps ds e → ds ≢ []
    → IfSome e (λ s. 0 < length s.store.marked)
engine_marks root fix ps ds None end some = tt
engine_marks root fix ps ds (Some a) end some =
    let long = leveled_long root fix root ds a.store.marked a.store.sets end.at in
    let there : 0 < length ds = not_nil ds some in omega (arith, long, there)

last_of : (xs : List Decision) → xs ≢ [] → (ys : List Decision) × (y : Decision) × (xs ≡ ys ++ y ∷ [])
last_of [] some = absurd (some refl)
last_of (x ∷ []) some = ([], x, refl)
last_of (x ∷ z ∷ zs) some =
    let rest = last_of (z ∷ zs) (λ is. cc is) in (x ∷ rest.0, rest.1, ap (λ (ys : List Decision). x ∷ ys) rest.2)

undone_end : (root : Sets) (fix : Sets → Option Sets) (ps : List AnyProp) (ds : List Decision) (d : Decision) (a b : Option (State AnyProp))
    → IsEndAt root fix ps (ds ++ d ∷ []) a → IsUndone a b → IsEndAt root fix ps ds b
undone_end root fix ps ds d None None end u = absurd (snoc_some (ds ++ d ∷ []) ds d refl end.0)
undone_end root fix ps ds d None (Some b) end u = absurd u
undone_end root fix ps ds d (Some a) None end u = absurd u
undone_end root fix ps ds d (Some a) (Some b) end u = record {
  props = sym u.props ∙ end.props;
  long = sym u.long ∙ end.long;
  at = leveled_pop root fix root ds b.store.marked a.store.sets b.store.sets d
      (subst (λ (ms : List Sets). Leveled root fix root (ds ++ d ∷ []) ms a.store.sets) u.marked end.at);
}

module _ (root : Sets) (fix : Sets → Option Sets) (ps : List AnyProp) (old new : List Decision) (d : Decision) (path : old ≡ new ++ d ∷ []) (a : Option (State AnyProp))
    (h : IsEndBy root fix ps old a) where
  live_path : h.dead ≡ [] → h.live ≡ new ++ d ∷ []
  live_path none = sym (append-nil h.live) ∙ (ap (λ (ds : List Decision). h.live ++ ds) (sym none) ∙ (sym h.path ∙ path))

  -- where the rounds do not fail, the last decision has a mark
  pub left_marks : fix (reached root old) ≢ None → IfSome a (λ s. 0 < length s.store.marked)
  left_marks rests =
      engine_marks root fix ps h.live a h.end (snoc_some h.live new d (live_path (none_dead root fix ps old a h rests)))

  -- up from where they do not fail
  up_live : (b : Option (State AnyProp)) → h.dead ≡ [] → IsUndone a b → IsEndBy root fix ps new b
  up_live b none u = record {
    live = new;
    dead = [];
    path = sym (append-nil new);
    end = undone_end root fix ps new d a b (subst (λ (ds : List Decision). IsEndAt root fix ps ds a) (live_path none) h.end) u;
    lost = tt;
  }

  -- up from where they fail
  up_dead : h.dead ≢ [] → IsEndBy root fix ps new a
  up_dead some =
      let last = last_of h.dead some in
      let same = last_once new (h.live ++ last.0) d last.1
      (sym path ∙ (h.path ∙ (ap (λ (ds : List Decision). h.live ++ ds) last.2 ∙ sym (append_assoc h.live last.0 (last.1 ∷ []))))) in
      record {
        live = h.live;
        dead = last.0;
        path = same.0;
        end = h.end;
        lost = lost_init fix (reached root h.live) last.0 last.1
            (subst (AllLost fix (reached root h.live)) last.2 h.lost);
      }

  some_dead : fix (reached root old) ≡ None → h.dead ≢ []
  some_dead lost none = by a refl
    where
      by : (o : Option (State AnyProp)) → a ≡ o → ⊥
      by None is = snoc_some h.live new d (live_path none) (subst (IsEndAt root fix ps h.live) is h.end).0
      by (Some e) is = let rests = rests_some root fix ps old a h e is none in cc (rests, lost)

  -- one decision less
  pub end_up : (b : Option (State AnyProp)) (lost : Bool)
      → (lost ≡ true → fix (reached root old) ≡ None) → (lost ≡ false → fix (reached root old) ≢ None)
      → IsLeft a b lost → IsEndBy root fix ps new b
  end_up b true fails rests same = subst (IsEndBy root fix ps new) (sym same) (up_dead (some_dead (fails refl)))
  end_up b false fails rests undone = up_live b (none_dead root fix ps old a h (rests refl)) undone

-- ---- the first box

module _ (root : Sets) (fix : Sets → Option Sets) (ps : List AnyProp) (full : NoneEmpty root) (rounds : AreRounds root fix ps) where
  first_end : (e : Option (State AnyProp)) → IsEnd cut_of ps root e → IsEndAt root fix ps [] e
  first_end None h = (refl, sym (rounds.fixed root) ∙ h)
  first_end (Some e) h = record {
    props = h.props;
    long = h.long;
    at = subst (λ (ms : List Sets). Leveled root fix root [] ms e.store.sets) (sym h.fresh)
        ((Below-refl root, full), sym (rounds.fixed root) ∙ h.fix);
  }

  pub first_at : (s : Sets) (r : Room) → s ≡ root → IsEnd cut_of ps s r.engine → IsStandAt root r.stand → path_of r ≡ [] → IsRoomAt root fix ps r
  first_at s r is end at path = record {
    rounds = rounds;
    stand = at;
    ends = record {
      live = [];
      dead = [];
      path = path;
      end = first_end r.engine (subst (λ (b : Sets). IsEnd cut_of ps b r.engine) is end);
      lost = tt;
    };
  }

-- ---- rooms from place to place

pub room_goes : (a b : Room) → IsRoom a → Goes a b → IsRoom b
room_goes a b g goes = record { root = g.root; fix = g.fix; props = g.props; at = goes g.root g.fix g.props g.at }

pub room_on : (ds : List Decision) (r : Room) → IsRoomOn ds r → IsRoom r
room_on ds r g = record { root = g.root; fix = g.fix; props = g.props; at = g.at }

pub on_goes : (ds : List Decision) (a b : Room) → IsRoomOn ds a → Goes a b → IsRoomOn ds b
on_goes ds a b g goes =
    record { root = g.root; fix = g.fix; props = g.props; at = goes g.root g.fix g.props g.at; split = g.split }
