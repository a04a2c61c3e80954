-- The operations of a block of the source, one after another: each name that is live has its value in its slot.
use Rattle.std.proofs.Common.{◌≡◌, ◌≢◌, ℕ, suc, ◌+◌, ◌<◌, ◌≤◌, nat_eq, Bool, true, false, List, [], ◌∷◌, ◌++◌, length, map, Option, Some}
use Rattle.std.proofs.Common.{None, refl, sym, ap, subst, ◌∙◌, length-set, arith}
use Rattle.std.specs.Prelude.{slice_get, slice_index, slice_set, if◌then◌else◌, IfSome, Contains}
use Rattle.std.proofs.lemmas.Bool.{eqb-true}
use Rattle.std.proofs.lemmas.List.{get_or-set_same, get_or-set_other}
use Rattle.std.proofs.lemmas.Option.{slice_get_within}
use Rattle.un_base.specs.declared.ids.NameId.{NameId}
use Rattle.un_base.specs.declared.ids.TempId.{TempId}
use Rattle.un_isa.specs.Fit.{IsFit}
use Rattle.un_isa.specs.Registers.{callee_saved}
use Rattle.un_isa.specs.Tables.{in_mask}
use Rattle.un_isa.specs.declared.reg.TheConstants.{FIRST_SLOT}
use Rattle.un_ir.specs.declared.function.Kind.{Kind}
use Rattle.un_ir.specs.declared.function.Kind.TheVariants.{General}
use Rattle.un_ir.specs.declared.function.SrcOp.{SrcOp}
use Rattle.un_ir.specs.declared.function.Block.{Block}
use Rattle.un_ir.specs.declared.function.Function.{Function}
use Rattle.un_ir.specs.declared.extended.ExtOp.{ExtOp}
use Rattle.un_ir.specs.declared.extended.ExtBlock.{ExtBlock}
use Rattle.un_ir.specs.declared.extended.Ext.{Ext}
use Rattle.un_ir.specs.declared.extended.Growth.{Growth}
use Rattle.un_ir.specs.declared.extended.Sort.{Sort}
use Rattle.un_ir.specs.Extended.{name_kind}
use Rattle.un_ir.specs.ExtendOf.{with_extended}
use Rattle.un_ir.specs.LinearOf.{kind_of_pair, assigned, past, source_operands, body_op, body_ops, current_after, past_all}
use Rattle.un_ir.specs.Live.{IsLive, used, kept, read_by, assigned_by, next_by}
use Rattle.un_ir.specs.Names.{kind_of}
use Rattle.un_ir.specs.WellFormed.{IsGoodOp}
use Rattle.un_ir.proofs.NameBounds.{at_all}
use Rattle.un_ir.proofs.SourceFacts.{good_block}
use Rattle.un_model.specs.declared.schedule.Read.{Read}
use Rattle.un_model.specs.Schedules.{chosen}
use Rattle.un_baseline.specs.declared.plan.Setting.{Setting}
use Rattle.un_baseline.specs.declared.plan.Progress.{Progress}
use Rattle.un_baseline.specs.SpillEverywhere.{slot_of, is_placed, kept_place}
use Rattle.un_baseline.proofs.Carried.{Carries}
use Rattle.un_baseline.proofs.Grown.{all_ops}
use Rattle.un_baseline.proofs.Sound.{Seen}
use Rattle.un_baseline.proofs.Standing.{Stands, Front}
use Rattle.un_baseline.proofs.Walk.{Good}
use Rattle.un_baseline.proofs.Arrivals.{Kept}
use Rattle.un_baseline.proofs.Bodies.{Safe, Named, Grew, body_good}
use Rattle.un_baseline.proofs.Sources.{kind_named, ready_op}

module _ (c : ℕ) (H : Seen → List Read → Type 0) (b end : ℕ) (e : Ext) (block : ExtBlock) (s : Setting) (fit : IsFit e.table)
    (free : (r : ℕ) → FIRST_SLOT ≤ r → in_mask c r ≡ false) (f : Function) (source : Block) (at : slice_get f.blocks b ≡ Some source)
    (same_names : e.names ≡ map kind_of_pair f.names) (link_is : s.link ≡ FIRST_SLOT + length e.names) (live_in : List NameId)
    (entry saved : Bool) where
  abbrev G : ℕ → Progress → Seen → List ExtOp → Type 0
  G = Good c H b end e block s fit

  abbrev pub saved_sort : Sort
  saved_sort = record { kind = General; copied = saved }

  -- value x stays in a register that the function keeps
  pub record SavedAt (g : Growth) (seen : Seen) (x r : ℕ) : Type 0 where
    pub own : List TempId
    pub carries : Carries g x own saved_sort
    pub within : 0 < length own
    pub stands : Stands c b (chosen own 0).0 r seen
    pub safe : Safe c H b end e block s fit r
    pub low : r < 31

  -- the link register's value is in its slot
  pub record LinkAt (g : Growth) (seen : Seen) (x : ℕ) : Type 0 where
    pub own : List TempId
    pub carries : Carries g x own saved_sort
    pub place : kept_place s own ≡ (if is_placed s own then 0 else 1)
    pub within : kept_place s own < length own
    pub stands : Stands c b (chosen own (kept_place s own)).0 s.link seen

  -- what holds at place k of the block; the first saved value is `kept0`, the link register's `link0`
  pub record Going (kept0 link0 k : ℕ) (g : Growth) (current : List ℕ) (first : ℕ) (p : Progress) (seen : Seen) : Type 0 where
    pub size : length seen.made ≡ g.next
    pub values : length g.values ≡ first
    pub front : Front c b p.cycle seen
    pub started : 1 ≤ p.cycle
    pub operands : p.operands ≡ 0
    pub placed : s.placed ≤ g.next
    pub whole : length current ≡ length e.names
    pub names : (name : NameId) → IsLive f.blocks name b k → Named c H b end e block s fit g seen (slice_index current name.0) name
    pub saved_at : (j r : ℕ) → slice_get (callee_saved e.table) j ≡ Some r → SavedAt g seen (kept0 + j) r
    pub link : LinkAt g seen link0

  safe_slot : (r : ℕ) → FIRST_SLOT ≤ r → Safe c H b end e block s fit r
  safe_slot r le = record { high = omega arith; other = λ z. omega arith; spared = free r le }

  -- ---- what one operation leaves

  module _ (g g' : Growth) (seen seen' : Seen)
      (carries : (x : ℕ) (own : List TempId) (sort : Sort) → Carries g x own sort → Carries g' x own sort) where
    named_later : (x : ℕ) (name : NameId) → ((k : ℕ) → Stands c b k (slot_of name) seen → Stands c b k (slot_of name) seen')
        → Named c H b end e block s fit g seen x name → Named c H b end e block s fit g' seen' x name
    named_later x name stands h =
        let k = h.kept in
        record {
          kept = record {
            own = k.own;
            carries = carries x k.own _ k.carries;
            size = k.size;
            room = k.room;
            slot = k.slot;
            stands = subst (λ (r : ℕ). Stands c b (chosen k.own (kept_place s k.own)).0 r seen') (sym h.room)
                (stands (chosen k.own (kept_place s k.own)).0 (subst (λ (r : ℕ). Stands c b (chosen k.own (kept_place s k.own)).0 r seen)
                h.room k.stands));
          };
          room = h.room;
        }

    saved_later : (x r : ℕ) → ((k : ℕ) → Safe c H b end e block s fit r → r < 31 → Stands c b k r seen → Stands c b k r seen')
        → SavedAt g seen x r → SavedAt g' seen' x r
    saved_later x r stands h = record {
      own = h.own;
      carries = carries x h.own saved_sort h.carries;
      within = h.within;
      stands = stands (chosen h.own 0).0 h.safe h.low h.stands;
      safe = h.safe;
      low = h.low;
    }

    link_later : (x : ℕ) → ((k : ℕ) → Stands c b k s.link seen → Stands c b k s.link seen') → LinkAt g seen x → LinkAt g' seen' x
    link_later x stands h = record {
      own = h.own;
      carries = carries x h.own saved_sort h.carries;
      place = h.place;
      within = h.within;
      stands = stands (chosen h.own (kept_place s h.own)).0 h.stands;
    }

  -- a name that is live behind an operation and not assigned by it is live before it
  live_before : (k : ℕ) (o : SrcOp) (name : NameId) → slice_get source.ops k ≡ Some o → o.dst ≢ Some name → IsLive f.blocks name b (k + 1)
      → IsLive f.blocks name b k
  live_before k o name here other live =
      let lt = slice_get_within source.ops k o here in
      kept b k source b (k + 1) at (omega arith)
      (λ same. other (ap assigned_by (sym here) ∙ same))
      (subst (λ (x : Option SrcOp). Contains (next_by b k x source.term) (b, k + 1)) (sym here) (0, omega arith, refl)) live

  live_read : (k : ℕ) (o : SrcOp) (name : NameId) → slice_get source.ops k ≡ Some o → Contains o.srcs name → IsLive f.blocks name b k
  live_read k o name here has =
      let lt = slice_get_within source.ops k o here in
      used b k source at (omega arith) (subst (λ (x : Option SrcOp). Contains (read_by x source.term) name) (sym here) has)

  same_name : (x y : NameId) → x.0 ≡ y.0 → x ≡ y
  same_name x y h = ap (λ (n : ℕ). name_at n) h
    where
      name_at : ℕ → NameId
      name_at n = record { 0 = n }

  module _ (kept0 link0 k : ℕ) (o : SrcOp) (here : slice_get source.ops k ≡ Some o) (g g' : Growth) (current : List ℕ) (first : ℕ)
      (p p' : Progress) (seen seen' : Seen)
      (h : Going kept0 link0 k g current first p seen) (le : p.cycle ≤ p'.cycle) (none : p'.operands ≡ 0) where
    module _ (dst : Option NameId) (is : o.dst ≡ dst) (grew : Grew c H b end e block s fit dst g g' p'.cycle seen seen')
        (few : IfSome dst (λ (name : NameId). name.0 < length e.names)) (now : List ℕ) (next : ℕ) (whole : length now ≡ length current)
        (values : length g'.values ≡ next)
        (names : (name : NameId) → IsLive f.blocks name b (k + 1) → Named c H b end e block s fit g' seen' (slice_index now name.0) name)
      where
        not_low : (r : ℕ) → r < 31 → (d : Option NameId) → IfSome d (λ (name : NameId). r ≢ slot_of name)
        not_low r low None = tt
        not_low r low (Some name) = λ z. omega arith

        not_link : (d : Option NameId) → IfSome d (λ (name : NameId). name.0 < length e.names)
            → IfSome d (λ (name : NameId). s.link ≢ slot_of name)
        not_link None small = tt
        not_link (Some name) small = λ z. omega arith

        going_with : Going kept0 link0 (k + 1) g' now next p' seen'
        going_with = record {
          size = grew.size;
          values = values;
          front = grew.front;
          started = (let a = h.started in omega arith);
          operands = none;
          placed = (let a = h.placed in let d = grew.grows in omega arith);
          whole = whole ∙ h.whole;
          names = names;
          saved_at = λ j r got. saved_later g g' seen seen' grew.carries (kept0 + j) r
              (λ n safe low st. grew.stands n r safe (not_low r low dst) st) (h.saved_at j r got);
          link = link_later g g' seen seen' grew.carries link0
              (λ n st. grew.stands n s.link (safe_slot s.link (omega arith)) (not_link dst few) st) h.link;
        }

    old_name : (dst : Option NameId) → o.dst ≡ dst → Grew c H b end e block s fit dst g g' p'.cycle seen seen' → (name : NameId)
        → dst ≢ Some name
        → IfSome dst (λ (d : NameId). slot_of name ≢ slot_of d)
        → IsLive f.blocks name b (k + 1) → Named c H b end e block s fit g' seen' (slice_index current name.0) name
    old_name dst is grew name other apart live =
        named_later g g' seen seen' grew.carries (slice_index current name.0) name
        (λ n st. grew.stands n (slot_of name) (safe_slot (slot_of name) (omega arith)) apart st)
        (h.names name (live_before k o name here (λ same. other (sym is ∙ same)) live))

    going_by : (dst : Option NameId) → o.dst ≡ dst → IfSome dst (λ (name : NameId). name.0 < length e.names)
        → Grew c H b end e block s fit dst g g' p'.cycle seen seen' → Going kept0 link0 (k + 1) g' (assigned current dst first)
        (past dst first) p' seen'
    going_by None is few grew =
        going_with None is grew few current first refl (grew.values ∙ (let v = h.values in omega arith))
        (λ name live. old_name None is grew name (λ z. cc z) tt live)
    going_by (Some d) is few grew =
        going_with (Some d) is grew few (slice_set current d.0 first) (first + 1) (length-set current d.0 first)
        (grew.values ∙ (let v = h.values in omega arith))
        (λ name live. by name live (nat_eq d.0 name.0) refl)
      where
        by : (name : NameId) → IsLive f.blocks name b (k + 1) → (t : Bool) → nat_eq d.0 name.0 ≡ t
            → Named c H b end e block s fit g' seen' (slice_index (slice_set current d.0 first) name.0) name
        by name live true t =
            let same : d.0 ≡ name.0 = eqb-true d.0 name.0 t in
            let whole = h.whole in
            let x : slice_index (slice_set current d.0 first) name.0 ≡ length g.values =
            ap (slice_index (slice_set current d.0 first)) (sym same) ∙ get_or-set_same current d.0 first 0 (omega arith) ∙ sym h.values in
            subst (λ (y : ℕ). Named c H b end e block s fit g' seen' y name) (sym x)
            (subst (λ (y : NameId). Named c H b end e block s fit g' seen' (length g.values) y) (same_name d name same) grew.new)
        by name live false t =
            let ne : d.0 ≢ name.0 = λ same. (let yes : nat_eq d.0 name.0 ≡ true = rw same (grind arith) in cc (sym t ∙ yes)) in
            let x : slice_index (slice_set current d.0 first) name.0 ≡ slice_index current name.0 = get_or-set_other current d.0 name.0
            first 0 (λ z. ne (sym z)) in
            subst (λ (y : ℕ). Named c H b end e block s fit g' seen' y name) (sym x)
            (old_name (Some d) is grew name (λ z. ne (let q : d ≡ name = cc z in ap (λ (y : NameId). y.0) q)) (λ z. ne (omega arith)) live)

  -- ---- all of them

  good_op : (k : ℕ) (o : SrcOp) → slice_get source.ops k ≡ Some o → IsGoodOp f.names o
  good_op k o here = let g = good_block f b source at in at_all (IsGoodOp f.names) source.ops k o g.ops here

  pub kept_as : (g : Growth) (seen : Seen) (x : ℕ) (name : NameId) (kind : Kind) → kind_of f.names name ≡ Some kind
      → Named c H b end e block s fit g seen x name → Kept c H b end e block s fit g seen x kind
  kept_as g seen x name kind is h = subst (Kept c H b end e block s fit g seen x)
      (ap (λ (ks : List Kind). name_kind ks name) same_names ∙ kind_named f.names name kind is) h.kept

  pub bodies_good : (kept0 link0 : ℕ) (os : List SrcOp) (k n : ℕ) (g : Growth) (current : List ℕ) (first : ℕ) (p : Progress) (seen : Seen)
      (tail : List ExtOp)
      → ((m : ℕ) (o : SrcOp) → slice_get os m ≡ Some o → slice_get source.ops (k + m) ≡ Some o) → k + length os ≡ length source.ops
      → ((m : ℕ) (o : SrcOp) → slice_get os m ≡ Some o → IfSome o.dst (λ (name : NameId). name.0 < length e.names))
      → Going kept0 link0 k g current first p seen
      → ((n' : ℕ) (g' : Growth) (p' : Progress) (seen' : Seen) → Going kept0 link0 (length source.ops) g' (current_after current first os)
      (past_all first os) p' seen'
      → G n' p' seen' (all_ops e.names live_in entry saved tail g'))
      → G n p seen (all_ops e.names live_in entry saved (body_ops e.table current first os ++ tail) g)
  bodies_good kept0 link0 [] k n g current first p seen tail sub size few h go =
      let same : k ≡ length source.ops = omega arith in
      go n g p seen (subst (λ (x : ℕ). Going kept0 link0 x g current first p seen) same h)
  bodies_good kept0 link0 (o ∷ os) k n g current first p seen tail sub size few h go =
      let zero_more : k + 0 ≡ k = omega arith in
      let here : slice_get source.ops k ≡ Some o = ap (slice_get source.ops) (sym zero_more) ∙ sub 0 o refl in
      let op = body_op e.table current first o in
      let g' = with_extended e.names live_in entry saved op g in
      let now = assigned current o.dst first in
      let next = past o.dst first in
      let ready = ready_op c H b end e block s fit f.names current g seen o (good_op k o here) same_names
      (λ name kind has is. kept_as g seen (slice_index current name.0) name kind is (h.names name (live_read k o name here has))) in
      body_good c H b end e block s fit live_in entry saved o (source_operands e.table current o.op o.srcs) first n p seen g
      (all_ops e.names live_in entry saved (body_ops e.table now next os ++ tail) g') ready h.placed h.operands h.front h.size
      (λ m p' seen' le none grew.
      bodies_good kept0 link0 os (k + 1) m g' now next p' seen' tail
      (λ j q got. let place : k + 1 + j ≡ k + suc j = omega arith in ap (slice_get source.ops) place ∙ sub (suc j) q got)
      (omega arith) (λ j q got. few (suc j) q got)
      (going_by kept0 link0 k o here g g' current first p p' seen seen' h le none o.dst refl (few 0 o refl) grew) go)
