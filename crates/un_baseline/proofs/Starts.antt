-- The start of a block: its values are there, and in the entry parameters and the link register's value are spilled.
use Rattle.std.proofs.Common.{◌≡◌, ◌≢◌, ℕ, zero, suc, ◌+◌, ◌<◌, ◌≤◌, ◌⊎◌, Bool, true, false, List, [], ◌∷◌, ◌++◌, length, map, replicate}
use Rattle.std.proofs.Common.{get_or, Option, Some, None, refl, sym, ap, subst, ◌∙◌, append_assoc, arith}
use Rattle.std.specs.Prelude.{◌==◌, if◌then◌else◌, slice_get, All, AllPairs}
use Rattle.std.proofs.lemmas.Bool.Decides.{nat_tests}
use Rattle.std.proofs.lemmas.List.{length-append, length-map}
use Rattle.std.proofs.lemmas.List.Elements.{All-append, All-nil, All-cons}
use Rattle.std.proofs.lemmas.List.Kept.{AllPairs-cons}
use Rattle.un_base.specs.declared.ids.NameId.{NameId}
use Rattle.un_base.specs.declared.ids.TempId.{TempId}
use Rattle.un_isa.specs.declared.op.Op.{Op}
use Rattle.un_isa.specs.declared.op.Op.TheVariants.{Call, Spill}
use Rattle.un_isa.specs.declared.reg.TheConstants.{FIRST_SLOT}
use Rattle.un_isa.specs.Fit.{IsFit}
use Rattle.un_isa.specs.Tables.{latency_of}
use Rattle.un_ir.specs.declared.function.Kind.{Kind}
use Rattle.un_ir.specs.declared.function.Kind.TheVariants.{General, Pred}
use Rattle.un_ir.specs.declared.extended.NodeCopy.TheVariants.{D, D2}
use Rattle.un_ir.specs.declared.extended.ExtKind.TheVariants.{In}
use Rattle.un_ir.specs.declared.extended.ExtOp.{ExtOp}
use Rattle.un_ir.specs.declared.extended.ExtBlock.{ExtBlock}
use Rattle.un_ir.specs.declared.extended.Ext.{Ext}
use Rattle.un_ir.specs.declared.extended.Growth.{Growth}
use Rattle.un_ir.specs.declared.extended.Sort.{Sort}
use Rattle.un_ir.specs.declared.extended.TheConstants.{SPILL}
use Rattle.un_ir.specs.Extended.{temp, name_kind}
use Rattle.un_ir.specs.ExtendOf.{copy_op, copy_count, own_temps, value_of, with_value, with_values, sort_of_name}
use Rattle.un_model.specs.declared.schedule.Issue.{Issue}
use Rattle.un_model.specs.declared.schedule.Read.{Read}
use Rattle.un_model.specs.declared.schedule.LiveRange.{LiveRange}
use Rattle.un_ir.proofs.NameBounds.{at_all}
use Rattle.un_model.specs.Instructions.{space_given}
use Rattle.un_model.specs.Pairs.{places_from}
use Rattle.un_model.specs.Solutions.{InSpace}
use Rattle.un_baseline.specs.declared.plan.Definer.TheVariants.{Start, Other}
use Rattle.un_baseline.specs.declared.plan.Setting.{Setting}
use Rattle.un_baseline.specs.declared.plan.Progress.{Progress}
use Rattle.un_baseline.specs.Plans.{Step, planned_issue}
use Rattle.un_baseline.specs.SpillEverywhere.{purpose_at, slot_of, slot_at_start, start_register, spilled_to, first_copy, second_copy}
use Rattle.un_baseline.specs.SpillEverywhere.{no_move, other_progress, steps_of}
use Rattle.un_baseline.proofs.Made.{made_at}
use Rattle.un_baseline.proofs.Carried.{Carries, carries_values, carries_new}
use Rattle.un_baseline.proofs.Grown.{copy_ops, value_ops, values_ops, value_next}
use Rattle.un_baseline.proofs.Sound.{Seen, after, GoodRead, NewOk, StepOk, IsOver, Differ, Avoids}
use Rattle.un_baseline.proofs.Standing.{Stands, Known, Front, IsCalled, known_later}
use Rattle.un_baseline.proofs.Timing.{pairs_nil}
use Rattle.un_baseline.proofs.Walk.{AreGoodSteps, Good, Idle, idle_none, idle_then, past_copy, idle_copy, moving_copy}
use Rattle.un_baseline.proofs.Arrivals.{general_space, slot_space, sort_by}
use Rattle.un_baseline.proofs.Items.{get_right, get_map, there_left, all_map, all_one}

abbrev pub AreApart : List ℕ → Type 0
AreApart rs = AllPairs (λ (x y : ℕ). x ≢ y) rs

module _ (c : ℕ) (H : Seen → List Read → Type 0) (b end : ℕ) (e : Ext) (block : ExtBlock) (s : Setting) (fit : IsFit e.table) where
  abbrev G : ℕ → Progress → Seen → List ExtOp → Type 0
  G = Good c H b end e block s fit

  -- nothing that was done is of this block
  pub record Fresh (seen : Seen) : Type 0 where
    pub made : All (λ (m : LiveRange). m.block.0 ≢ b) seen.made
    pub issues : All (λ (i : Issue). i.block.0 ≢ b) seen.issues
    pub known : Known c b seen

  pub record Started (rs : List ℕ) (now : ℕ) (seen seen' : Seen) : Type 0 where
    pub longer : length seen'.made ≡ length seen.made + length rs
    pub front : Front c b now seen'
    pub stands : (j r : ℕ) → slice_get rs j ≡ Some r → Stands c b (length seen.made + j) r seen'

  module _ (seen : Seen) (i : Issue) (rs : List ℕ) (fresh : Fresh seen) (block_is : i.block.0 ≡ b) (free : i.instr ≡ None)
      (active : i.active ≡ true) (zero_cycle : i.cycle ≡ 0) where
    abbrev ms : List LiveRange
    ms = map (made_at i) rs

    no_call : i.instr ≡ Some Call → ⊥
    no_call call = let f = sym free ∙ call in cc f

    old_range : (k : ℕ) (a : LiveRange) → slice_get seen.made k ≡ Some a → a.block.0 ≡ b → ⊥
    old_range k a there same = at_all (λ (m : LiveRange). m.block.0 ≢ b) seen.made k a fresh.made there same

    pairs_of : (xs : List ℕ) → AreApart xs → AllPairs Differ (map (made_at i) xs)
    pairs_of [] h = pairs_nil Differ
    pairs_of (x ∷ xs) h =
        AllPairs-cons Differ (made_at i x) (map (made_at i) xs) (others xs (λ k d lt. h 0 (suc k) d (omega arith) (omega arith)))
        (pairs_of xs (λ k l d lt within. h (suc k) (suc l) d (omega arith) (omega arith)))
      where
        others : (ys : List ℕ) → All (λ (y : ℕ). x ≢ y) ys → All (Differ (made_at i x)) (map (made_at i) ys)
        others [] h = All-nil (Differ (made_at i x))
        others (y ∷ ys) h = All-cons (Differ (made_at i x)) (made_at i y) (map (made_at i) ys)
            (λ one two block reg. absurd (h 0 y (omega arith) reg)) (others ys (λ k d lt. h (suc k) d (omega arith)))

    start_ok : AreApart rs → StepOk c seen i [] ms
    start_ok apart = record {
      reads = All-nil (GoodRead c seen);
      new = all_map (NewOk c seen i []) (made_at i) rs (λ r. record {
        given = subst (λ (x : Option Op). InSpace r (space_given x)) (sym free) tt;
        over_old = λ k d lt a there one block. absurd (old_range (get_or seen.reads k d).temp.0 a there (block ∙ block_is));
        over_own = All-nil (λ (q : Read). (a : LiveRange) → slice_get seen.made q.temp.0 ≡ Some a → IsOver q a (made_at i r));
        differ = λ k d lt one two block. absurd (fresh.made k d lt (block ∙ block_is));
        avoid = All-append (Avoids (made_at i r)) seen.issues (i ∷ []) (λ k d lt one call block. absurd
            (fresh.issues k d lt (block ∙ block_is)))
            (all_one (Avoids (made_at i r)) i (λ one call block. absurd (no_call call)));
      });
      pairs = pairs_of rs apart;
      calls_old = λ call. absurd (no_call call);
      calls_own = λ call. absurd (no_call call);
      calls_made = λ k d lt one call. absurd (no_call call);
    }

    started : (now : ℕ) → 1 ≤ now → Started rs now seen (after seen i [] ms)
    started now le = record {
      longer = length-append seen.made ms ∙ ap (λ (k : ℕ). length seen.made + k) (length-map rs (made_at i));
      front = record {
        timely = λ r. record {
          reads = All-append (λ (q : Read). (a : LiveRange) → slice_get (seen.made ++ ms) q.temp.0 ≡ Some a → a.block.0 ≡ b → a.reg ≡ r
              → q.cycle ≤ now) seen.reads []
              (λ k d lt a there block reg. let q = get_or seen.reads k d in
              absurd (old_range q.temp.0 a (sym (there_left seen.made ms q.temp.0 (fresh.known.reads k d lt)) ∙ there) block))
              (All-nil (λ (q : Read). (a : LiveRange) → slice_get (seen.made ++ ms) q.temp.0 ≡ Some a → a.block.0 ≡ b → a.reg ≡ r
              → q.cycle ≤ now));
          made = All-append (λ (d : LiveRange). d.active ≡ true → d.block.0 ≡ b → d.reg ≡ r → d.from < now) seen.made ms
              (λ k d lt one block. absurd (fresh.made k d lt block))
              (all_map (λ (d : LiveRange). d.active ≡ true → d.block.0 ≡ b → d.reg ≡ r → d.from < now) (made_at i) rs
              (λ x one block reg. omega arith));
        };
        calls = All-append (IsCalled c b now) seen.issues (i ∷ []) (λ k d lt call block. absurd (fresh.issues k d lt block))
            (all_one (IsCalled c b now) i (λ call block. absurd (no_call call)));
        known = known_later c b seen i [] ms fresh.known (All-nil (λ (q : Read). q.temp.0 < length seen.made));
      };
      stands = λ j r got. record {
        temp = made_at i r;
        there = get_right seen.made ms (length seen.made + j) j refl ∙ get_map (made_at i) rs j r got;
        active = active;
        block = block_is;
        reg = refl;
        latest = All-append (λ (d : LiveRange). d.active ≡ true → d.block.0 ≡ b → d.reg ≡ r → d.from ≤ i.cycle) seen.made ms
            (λ k d lt one block. absurd (fresh.made k d lt block))
            (all_map (λ (d : LiveRange). d.active ≡ true → d.block.0 ≡ b → d.reg ≡ r → d.from ≤ i.cycle) (made_at i) rs
            (λ x one block reg. omega arith));
        called = λ mask. All-append (λ (k : Issue). k.instr ≡ Some Call → k.block.0 ≡ b → (i.op.0 ≡ k.op.0) ⊎ (k.cycle < i.cycle))
            seen.issues (i ∷ [])
            (λ k d lt call block. absurd (fresh.issues k d lt block))
            (all_one (λ (k : Issue). k.instr ≡ Some Call → k.block.0 ≡ b → (i.op.0 ≡ k.op.0) ⊎ (k.cycle < i.cycle)) i
            (λ call block. absurd (no_call call)));
      };
    }

  abbrev pub start_at : ℕ → TempId → ℕ
  start_at j x = start_register e.table s block.live_in j (slice_get block.live_in j)

  pub start_good : (n : ℕ) (p : Progress) (seen : Seen) (results : List TempId) (rest : List ExtOp) (rs : List ℕ)
      → places_from start_at 0 results ≡ rs → AreApart rs → Fresh seen → 1 ≤ p.cycle
      → ((seen' : Seen) → Started rs p.cycle seen seen' → G (n + 1) (other_progress p.cycle (if s.is_entry then Start else Other)) seen'
      rest)
      → G n p seen (record { kind = In; operands = []; results = results } ∷ rest)
  start_good n p seen results rest rs is apart fresh le go =
      let op : ExtOp = record { kind = In; operands = []; results = results } in
      let st : Step = record { instr = 0; cycle = 0; choices = []; registers = places_from start_at 0 results } in
      let i = planned_issue b end n op st in
      subst (λ (xs : List ℕ). (StepOk c seen i [] (map (made_at i) xs) × Unit {0})
      × AreGoodSteps c H b end (n + 1) (after seen i [] (map (made_at i) xs)) rest
      (steps_of e block s (other_progress p.cycle (if s.is_entry then Start else Other)) rest)) (sym is) (
        (start_ok seen i rs fresh refl refl refl refl apart, tt),
        go (after seen i [] (map (made_at i) rs))
            (started seen i rs fresh refl refl refl refl p.cycle le),
      )

  -- ---- the values of a growth

  -- value j of these, with the growth before its copies
  pub record ValueAt (m : ℕ) (sorts : List Sort) (g : Growth) (j : ℕ) (sort : Sort) : Type 0 where
    pub before : Growth
    pub carries : Carries (with_values m sorts g) (length g.values + j) (own_temps (m + j) sort before) sort
    -- where each value before it has so many copies
    pub next : (k : ℕ) → ((i : ℕ) (t : Sort) → slice_get sorts i ≡ Some t → i < j → copy_count t ≡ 1) → k ≡ j → before.next ≡ g.next + k

  pub value_at : (m : ℕ) (sorts : List Sort) (g : Growth) (j : ℕ) (sort : Sort) → slice_get sorts j ≡ Some sort → ValueAt m sorts g j sort
  value_at m [] g j sort got = absurd (cc got)
  value_at m (t ∷ sorts) g zero sort got =
      let same : t ≡ sort = cc got in
      let z : length g.values + 0 ≡ length g.values = omega arith in
      let y : m + 0 ≡ m = omega arith in
      record {
        before = g;
        carries = carries_values (m + 1) sorts (with_value m t g) (length g.values + 0) (own_temps (m + 0) sort g) sort
            (subst (λ (x : ℕ). Carries (with_value m t g) x (own_temps (m + 0) sort g) sort) (sym z)
            (subst (λ (x : ℕ). Carries (with_value m t g) (length g.values) (own_temps x sort g) sort) (sym y)
            (subst (λ (u : Sort). Carries (with_value m u g) (length g.values) (own_temps m sort g) sort) (sym same)
            (carries_new m sort g))));
        next = λ k ones is. omega arith;
      }
  value_at m (t ∷ sorts) g (suc j) sort got =
      let g' = with_value m t g in
      let there = value_at (m + 1) sorts g' j sort got in
      let long : length g'.values ≡ length g.values + 1 = length-append g.values (value_of m t g ∷ []) in
      let x : length g'.values + j ≡ length g.values + suc j = omega arith in
      let y : m + 1 + j ≡ m + suc j = omega arith in
      record {
        before = there.before;
        carries = subst (λ (z : ℕ). Carries (with_values m (t ∷ sorts) g) z (own_temps (m + suc j) sort there.before) sort) x
            (subst (λ (z : ℕ). Carries (with_values m (t ∷ sorts) g) (length g'.values + j) (own_temps z sort there.before) sort) y
            there.carries);
        next = λ k ones is.
            let one = ones 0 t refl (omega arith) in
            let v = value_next m t g in
            let r = there.next j (λ i u at lt. ones (suc i) u at (omega arith)) refl in
            omega arith;
      }

  pub values_size : (m : ℕ) (sorts : List Sort) (g : Growth) → length (with_values m sorts g).values ≡ length g.values + length sorts
  values_size m [] g = omega arith
  values_size m (t ∷ sorts) g =
      let long = length-append g.values (value_of m t g ∷ []) in
      let rest = values_size (m + 1) sorts (with_value m t g) in
      omega arith

  pub values_ops_append : (m next : ℕ) (xs ys : List Sort) (g : Growth) → next ≡ m + length xs
      → values_ops m (xs ++ ys) g ≡ values_ops m xs g ++ values_ops next ys (with_values m xs g)
  values_ops_append m next [] ys g is = let z : m ≡ next = omega arith in ap (λ (k : ℕ). values_ops k ys g) z
  values_ops_append m next (x ∷ xs) ys g is =
      let g' = with_value m x g in
      ap (λ (os : List ExtOp). value_ops m x g ++ os) (values_ops_append (m + 1) next xs ys g' (omega arith))
      ∙ sym (append_assoc (value_ops m x g) (values_ops (m + 1) xs g') (values_ops next ys (with_values (m + 1) xs g')))

  pub values_append : (m next : ℕ) (xs ys : List Sort) (g : Growth) → next ≡ m + length xs
      → with_values m (xs ++ ys) g ≡ with_values next ys (with_values m xs g)
  values_append m next [] ys g is = let z : m ≡ next = omega arith in ap (λ (k : ℕ). with_values k ys g) z
  values_append m next (x ∷ xs) ys g is = values_append (m + 1) next xs ys (with_value m x g) (omega arith)

  -- ---- copies that do nothing

  none_first : (p : Progress) → p.definer ≡ Other → first_copy e.names block.live_in s p p.definer ≡ no_move
  none_first p d = ap (first_copy e.names block.live_in s p) d

  value_rests : (kind : Kind) (copied : Bool) (m k n : ℕ) (p : Progress) (seen : Seen) (rest : List ExtOp) → p.definer ≡ Other
      → ((n' : ℕ) (p' : Progress) (seen' : Seen) → p'.cycle ≡ p.cycle → p'.operands ≡ p.operands → p'.definer ≡ Other
      → Idle c H b end (copy_count (record { kind = kind; copied = copied })) seen seen' → G n' p' seen' rest)
      → G n p seen (copy_ops D D2 kind copied (temp m ∷ []) k ++ rest)
  value_rests kind false m k n p seen rest d go = go n p seen refl refl d (idle_none c H b end seen)
  value_rests General true m k n p seen rest d go =
      idle_copy c H b end e block s fit n p seen D (temp m ∷ []) k rest (purpose_at s.term rest) refl (none_first p d)
      (λ seen' idle. go (n + 1) (past_copy c H b end e block s fit p D) seen' refl refl d idle)
  value_rests Pred true m k n p seen rest d go =
      let alts = (temp m ∷ []) ++ temp k ∷ [] in
      let p' = past_copy c H b end e block s fit p D in
      idle_copy c H b end e block s fit n p seen D (temp m ∷ []) k (copy_op D2 alts (k + 1) ∷ rest) (purpose_at s.term rest) refl
      (none_first p d)
      (λ mid idle. idle_copy c H b end e block s fit (n + 1) p' mid D2 alts (k + 1) rest (purpose_at s.term rest) refl
      (ap (second_copy p' alts) d)
      (λ seen' idle'. go (n + 1 + 1) (past_copy c H b end e block s fit p' D2) seen' refl refl d
      (idle_then c H b end 1 1 seen mid seen' idle idle')))

  pub record Rested (next : ℕ) (seen seen' : Seen) : Type 0 where
    pub size : length seen'.made ≡ next
    pub stands : (k r : ℕ) → Stands c b k r seen → Stands c b k r seen'
    pub front : (now : ℕ) → Front c b now seen → Front c b now seen'

  pub values_rest : (sorts : List Sort) (m n : ℕ) (p : Progress) (seen : Seen) (g : Growth) (rest : List ExtOp) → p.definer ≡ Other
      → length seen.made ≡ g.next
      → ((n' : ℕ) (p' : Progress) (seen' : Seen) → p'.cycle ≡ p.cycle → p'.operands ≡ p.operands
      → Rested (with_values m sorts g).next seen seen' → G n' p' seen' rest)
      → G n p seen (values_ops m sorts g ++ rest)
  values_rest [] m n p seen g rest d size go = go n p seen refl refl (record { size = size; stands = λ k r st. st; front = λ now f. f })
  values_rest (t ∷ sorts) m n p seen g rest d size go =
      let g' = with_value m t g in
      subst (G n p seen) (sym (append_assoc (value_ops m t g) (values_ops (m + 1) sorts g') rest))
      (value_rests t.kind t.copied m g.next n p seen (values_ops (m + 1) sorts g' ++ rest) d
      (λ n' p' mid same ops d' idle.
      values_rest sorts (m + 1) n' p' mid g' rest d' (idle.longer ∙ ap (λ (k : ℕ). k + copy_count t) size ∙ sym (value_next m t g))
      (λ n'' q seen' same' ops' r. go n'' q seen' (same' ∙ same) (ops' ∙ ops) (record {
        size = r.size;
        stands = λ k x st. r.stands k x (idle.stands k x st);
        front = λ now f. r.front now (idle.front now f);
      }))))

  -- ---- the entry

  -- parameters are spilled to their slots
  pub record Spread (ns : List NameId) (g : Growth) (now : ℕ) (seen seen' : Seen) : Type 0 where
    pub front : Front c b now seen'
    pub size : length seen'.made ≡ g.next + length ns
    pub new : (i : ℕ) (name : NameId) → slice_get ns i ≡ Some name → Stands c b (g.next + i) (slot_of name) seen'
    pub others : (k r : ℕ) → ((i : ℕ) (name : NameId) → slice_get ns i ≡ Some name → r ≢ slot_of name) → Stands c b k r seen
        → Stands c b k r seen'

  pub record InLow (k : ℕ) (seen : Seen) : Type 0 where
    pub room : ℕ
    pub low : room < 32
    pub stands : Stands c b k room seen

  pub params_spill : (ns : List NameId) (j m n : ℕ) (p : Progress) (seen : Seen) (g : Growth) (rest : List ExtOp) → p.definer ≡ Start
      → p.values ≡ j
      → ((i : ℕ) (name : NameId) → slice_get ns i ≡ Some name → slice_get block.live_in (j + i) ≡ Some name)
      → ((i : ℕ) (name : NameId) → slice_get ns i ≡ Some name → name_kind e.names name ≡ General)
      → ((i : ℕ) (name : NameId) → slice_get ns i ≡ Some name → InLow (m + i) seen)
      → ((i k : ℕ) (x y : NameId) → i < k → slice_get ns i ≡ Some x → slice_get ns k ≡ Some y → x.0 ≢ y.0)
      → Front c b p.cycle seen → length seen.made ≡ g.next
      → ((n' : ℕ) (p' : Progress) (seen' : Seen) → p.cycle ≤ p'.cycle → p'.definer ≡ Start → p'.values ≡ j + length ns → p'.operands
      ≡ p.operands
      → Spread ns g p'.cycle seen seen' → G n' p' seen' rest)
      → G n p seen (values_ops m (map (sort_of_name e.names) ns) g ++ rest)
  params_spill [] j m n p seen g rest d v there kinds lows apart front size go =
      go n p seen (omega arith) d (omega arith) refl (record {
        front = front;
        size = omega arith;
        new = λ i name got. absurd (cc got);
        others = λ k r other st. st;
      })
  params_spill (name ∷ ns) j m n p seen g rest d v there kinds lows apart front size go =
      let sort = sort_of_name e.names name in
      let g' = with_value m sort g in
      let more = values_ops (m + 1) (map (sort_of_name e.names) ns) g' in
      let is_word = kinds 0 name refl in
      let low = lows 0 name refl in
      let place : m + 0 ≡ m = omega arith in
      let at_j : slice_get block.live_in p.values ≡ Some name = (let z : p.values ≡ j + 0 = omega arith in ap (slice_get block.live_in) z
      ∙ there 0 name refl) in
      let p' : Progress = record {
        cycle = p.cycle + latency_of e.table Spill;
        values = p.values + 1;
        operands = p.operands;
        definer = p.definer;
      } in
      let next : g'.next ≡ g.next + 1 = value_next m sort g ∙ ap (λ (k : Kind). g.next + copy_count (record { kind = k; copied = true }))
      is_word in
      subst (G n p seen) (sym (append_assoc (value_ops m sort g) more rest))
      (subst (λ (k : Kind). G n p seen (copy_ops D D2 k true (temp m ∷ []) g.next ++ (more ++ rest))) (sym is_word)
      (moving_copy c H b end e block s fit n p seen D (temp m ∷ []) g.next (more ++ rest) (purpose_at s.term (more ++ rest)) SPILL 0
      (slot_of name) Spill (m + 0) low.room refl
      (ap (first_copy e.names block.live_in s p) d ∙ ap (λ (o : Option NameId). spilled_to (slot_at_start s p.values o) p.cycle) at_j)
      refl (λ z. cc z) refl (sym place)
      low.stands front (general_space low.room low.low) (slot_space (slot_of name) (omega arith))
      (λ mid moved.
      params_spill ns (j + 1) (m + 1) (n + 1) p' mid g' rest d (omega arith)
      (λ i x got. let z : j + 1 + i ≡ j + suc i = omega arith in ap (slice_get block.live_in) z ∙ there (suc i) x got)
      (λ i x got. kinds (suc i) x got)
      (λ i x got. let l = lows (suc i) x got in let z : m + suc i ≡ m + 1 + i = omega arith in record {
        room = l.room;
        low = l.low;
        stands = moved.stands (m + 1 + i) l.room (λ q. let lt = l.low in omega arith)
            (subst (λ (k : ℕ). Stands c b k l.room seen) z l.stands);
      })
      (λ i k x y lt a a'. apart (suc i) (suc k) x y (omega arith) a a')
      moved.front (moved.longer ∙ ap (λ (k : ℕ). k + 1) size ∙ sym next)
      (λ n' q seen' le d' v' ops sp. go n' q seen' (omega arith) d' (omega arith) ops (record {
        front = sp.front;
        size = (let a = sp.size in omega arith);
        new = new_of seen' mid g' moved.new size next (λ i x got. sp.new i x got)
            (λ k st. sp.others k (slot_of name) (λ i x got z. apart 0 (suc i) name x (omega arith) refl got (omega arith)) st);
        others = λ k r other st. sp.others k r (λ i x got. other (suc i) x got) (moved.stands k r (other 0 name refl) st);
      })))))
    where
      new_of : (seen' mid : Seen) (g' : Growth) → Stands c b (length seen.made) (slot_of name) mid → length seen.made ≡ g.next → g'.next
          ≡ g.next + 1
          → ((i : ℕ) (x : NameId) → slice_get ns i ≡ Some x → Stands c b (g'.next + i) (slot_of x) seen')
          → ((k : ℕ) → Stands c b k (slot_of name) mid → Stands c b k (slot_of name) seen')
          → (i : ℕ) (x : NameId) → slice_get (name ∷ ns) i ≡ Some x → Stands c b (g.next + i) (slot_of x) seen'
      new_of seen' mid g' here size next more keep zero x got =
          let same : name ≡ x = cc got in
          let z : length seen.made ≡ g.next + 0 = omega arith in
          subst (λ (y : NameId). Stands c b (g.next + 0) (slot_of y) seen') same
          (subst (λ (k : ℕ). Stands c b k (slot_of name) seen') z (keep (length seen.made) here))
      new_of seen' mid g' here size next more keep (suc i) x got =
          let z : g'.next + i ≡ g.next + suc i = omega arith in subst (λ (k : ℕ). Stands c b k (slot_of x) seen') z (more i x got)

  -- saved values stay where they are, but for the link register's, which is spilled
  pub record LinkSpilled (cnt : ℕ) (g : Growth) (now : ℕ) (seen seen' : Seen) : Type 0 where
    pub front : Front c b now seen'
    pub size : length seen'.made ≡ g.next + suc cnt
    pub new : Stands c b (g.next + cnt) s.link seen'
    pub others : (k r : ℕ) → r ≢ s.link → Stands c b k r seen → Stands c b k r seen'

  saved_none : (v : ℕ) → v + 1 < s.values → slot_at_start s v None ≡ None
  saved_none v lt = let z : (v + 1 == s.values) ≡ false = grind (arith, nat_tests) in rw z refl

  saved_link : (v : ℕ) → v + 1 ≡ s.values → slot_at_start s v None ≡ Some s.link
  saved_link v is = let z : (v + 1 == s.values) ≡ true = grind (arith, nat_tests) in rw z refl

  pub link_spills : (cnt j m n : ℕ) (p : Progress) (seen : Seen) (g : Growth) (rest : List ExtOp) → p.definer ≡ Start → p.values ≡ j
      → ((i : ℕ) → slice_get block.live_in (j + i) ≡ None) → j + cnt + 1 ≡ s.values → FIRST_SLOT ≤ s.link → InLow (m + cnt) seen
      → Front c b p.cycle seen → length seen.made ≡ g.next
      → ((n' : ℕ) (p' : Progress) (seen' : Seen) → p.cycle ≤ p'.cycle → p'.operands ≡ p.operands → LinkSpilled cnt g p'.cycle seen seen'
      → G n' p' seen' rest)
      → G n p seen (values_ops m (replicate (suc cnt) (sort_by General)) g ++ rest)
  link_spills zero j m n p seen g rest d v none total slot low front size go =
      let place : m + 0 ≡ m = omega arith in
      let at_j : slice_get block.live_in p.values ≡ None = (let z : p.values ≡ j + 0 = omega arith in ap (slice_get block.live_in) z
      ∙ none 0) in
      moving_copy c H b end e block s fit n p seen D (temp m ∷ []) g.next rest (purpose_at s.term rest) SPILL 0 s.link Spill
      (m + 0) low.room refl
      (ap (first_copy e.names block.live_in s p) d ∙ ap (λ (o : Option NameId). spilled_to (slot_at_start s p.values o) p.cycle) at_j
      ∙ ap (λ (o : Option ℕ). spilled_to o p.cycle) (saved_link p.values (omega arith))) refl (λ z. cc z) refl (sym place)
      low.stands front (general_space low.room low.low) (slot_space s.link slot)
      (λ seen' moved. go (n + 1) (record {
        cycle = p.cycle + latency_of e.table Spill;
        values = p.values + 1;
        operands = p.operands;
        definer = p.definer;
      }) seen' (omega arith) refl (record {
        front = moved.front;
        size = moved.longer ∙ ap (λ (k : ℕ). k + 1) size;
        new = subst (λ (k : ℕ). Stands c b k s.link seen') (let z : length seen.made ≡ g.next + 0 = omega arith in z) moved.new;
        others = λ k r other st. moved.stands k r other st;
      }))
  link_spills (suc cnt) j m n p seen g rest d v none total slot low front size go =
      let g' = with_value m (sort_by General) g in
      let more = values_ops (m + 1) (replicate (suc cnt) (sort_by General)) g' in
      let at_j : slice_get block.live_in p.values ≡ None = (let z : p.values ≡ j + 0 = omega arith in ap (slice_get block.live_in) z
      ∙ none 0) in
      let place : m + suc cnt ≡ m + 1 + cnt = omega arith in
      idle_copy c H b end e block s fit n p seen D (temp m ∷ []) g.next (more ++ rest) (purpose_at s.term (more ++ rest)) refl
      (ap (first_copy e.names block.live_in s p) d ∙ ap (λ (o : Option NameId). spilled_to (slot_at_start s p.values o) p.cycle) at_j
      ∙ ap (λ (o : Option ℕ). spilled_to o p.cycle) (saved_none p.values (omega arith)))
      (λ mid idle.
      link_spills cnt (j + 1) (m + 1) (n + 1) (past_copy c H b end e block s fit p D) mid g' rest d (omega arith)
      (λ i. let z : j + 1 + i ≡ j + suc i = omega arith in ap (slice_get block.live_in) z ∙ none (suc i)) (omega arith) slot
      (record {
        room = low.room;
        low = low.low;
        stands = idle.stands (m + 1 + cnt) low.room
            (subst (λ (k : ℕ). Stands c b k low.room seen) place low.stands);
      })
      (idle.front p.cycle front) (idle.longer ∙ ap (λ (k : ℕ). k + 1) size)
      (λ n' q seen' le ops sp. go n' q seen' le ops (record {
        front = sp.front;
        size = (let a = sp.size in omega arith);
        new = subst (λ (k : ℕ). Stands c b k s.link seen') (let z : g.next + 1 + cnt ≡ g.next + suc cnt = omega arith in z) sp.new;
        others = λ k r other st. sp.others k r other (idle.stands k r st);
      })))
