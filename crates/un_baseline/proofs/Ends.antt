-- The end of a block: its terminator, and what it hands over.
use Rattle.std.proofs.Common.{◌≡◌, ◌≢◌, ℕ, suc, ◌+◌, ◌-◌, ◌<◌, ◌≤◌, inl, Bool, true, false, List, [], ◌∷◌, ◌++◌, length, map, Some, None}
use Rattle.std.proofs.Common.{refl, sym, ap, subst, ◌∙◌, append_assoc, arith}
use Rattle.std.specs.Prelude.{◌==◌, nat_lt, if◌then◌else◌, slice_get, slice_index, All}
use Rattle.std.specs.List.{AllZip, range_with_len}
use Rattle.std.proofs.lemmas.Bool.Decides.{nat_tests}
use Rattle.std.proofs.lemmas.List.{length-append, length-map}
use Rattle.std.proofs.lemmas.List.Elements.{All-append, All-nil, All-cons}
use Rattle.std.proofs.lemmas.List.FromFn.{length-range_with_len}
use Rattle.std.proofs.lemmas.Option.{slice_get_past}
use Rattle.un_base.specs.declared.ids.BlockId.{BlockId}
use Rattle.un_base.specs.declared.ids.NameId.{NameId}
use Rattle.un_base.specs.declared.ids.TempId.{TempId}
use Rattle.un_isa.specs.declared.op.Op.{Op}
use Rattle.un_isa.specs.declared.op.Op.TheVariants.{Call, Jump as JumpOp}
use Rattle.un_isa.specs.declared.reg.TheConstants.{LINK, FIRST_SLOT}
use Rattle.un_isa.specs.Fit.{IsFit}
use Rattle.un_isa.specs.Registers.{callee_saved, saved_registers}
use Rattle.un_isa.specs.Tables.{in_mask}
use Rattle.un_ir.specs.declared.function.Kind.TheVariants.{General, Pred}
use Rattle.un_ir.specs.declared.function.Block.{Block}
use Rattle.un_ir.specs.declared.function.Function.{Function}
use Rattle.un_ir.specs.declared.function.Term.{Term}
use Rattle.un_ir.specs.declared.function.Term.TheVariants.{Jump, Branch}
use Rattle.un_ir.specs.declared.extended.ExtKind.TheVariants.{Out, End}
use Rattle.un_ir.specs.declared.extended.Operand.{Operand}
use Rattle.un_ir.specs.declared.extended.ExtOp.{ExtOp}
use Rattle.un_ir.specs.declared.extended.ExtBlock.{ExtBlock}
use Rattle.un_ir.specs.declared.extended.Ext.{Ext}
use Rattle.un_ir.specs.declared.extended.Growth.{Growth}
use Rattle.un_ir.specs.Extended.{name_kind}
use Rattle.un_ir.specs.Linear.{first_of}
use Rattle.un_ir.specs.ExtendOf.{with_operand, with_operands, new_operands, with_results, with_enter}
use Rattle.un_ir.specs.LinearOf.{kind_of_pair, reads, name_operand, kept_operands}
use Rattle.un_ir.specs.Live.{IsLive}
use Rattle.un_ir.specs.Names.{kind_of}
use Rattle.un_model.specs.declared.schedule.Read.{Read}
use Rattle.un_model.specs.Instructions.{space_read, transfer_of}
use Rattle.un_model.specs.Solutions.{InSpace}
use Rattle.un_model.specs.Schedules.{chosen}
use Rattle.un_baseline.specs.declared.plan.Purpose.TheVariants.{Unread}
use Rattle.un_baseline.specs.declared.plan.Definer.TheVariants.{Other}
use Rattle.un_baseline.specs.declared.plan.Setting.{Setting}
use Rattle.un_baseline.specs.declared.plan.Progress.{Progress}
use Rattle.un_baseline.specs.declared.plan.TheConstants.{PREDICATE}
use Rattle.un_baseline.specs.SpillEverywhere.{purpose_of_out, slot_of, is_placed, kept_place, copies_of, out_place, handed_place, after_end}
use Rattle.un_baseline.specs.SpillEverywhere.{other_progress}
use Rattle.un_baseline.proofs.Carried.{carries_same, carries_operands}
use Rattle.un_baseline.proofs.Grown.{operands_ops, enter_ops, all_ops}
use Rattle.un_baseline.proofs.Sound.{Seen}
use Rattle.un_baseline.proofs.Standing.{Stands}
use Rattle.un_baseline.proofs.Walk.{Good}
use Rattle.un_baseline.proofs.Arrivals.{truth, operands_arrive, sort_by}
use Rattle.un_baseline.proofs.Going.{SavedAt, LinkAt, Going, kept_as}
use Rattle.un_baseline.proofs.Outs.{ReadsFrom, AreOut, AreOutReads, operands_rest, out_later, out_reads, out_good}
use Rattle.un_baseline.proofs.Tailing.{transfer_good}
use Rattle.un_baseline.proofs.Items.{all_at, append_nil}

module _ (c : ℕ) (H : Seen → List Read → Type 0) (b end : ℕ) (e : Ext) (block : ExtBlock) (s : Setting) (fit : IsFit e.table)
    (free : (r : ℕ) → FIRST_SLOT ≤ r → in_mask c r ≡ false) (f : Function) (source : Block) (at : slice_get f.blocks b ≡ Some source)
    (same_names : e.names ≡ map kind_of_pair f.names) (link_is : s.link ≡ FIRST_SLOT + length e.names) (live_in : List NameId)
    (entry saved : Bool) where
  abbrev G : ℕ → Progress → Seen → List ExtOp → Type 0
  G = Good c H b end e block s fit

  abbrev Goes : ℕ → ℕ → ℕ → Growth → List ℕ → ℕ → Progress → Seen → Type 0
  Goes = Going c H b end e block s fit free f source at same_names link_is live_in entry saved

  abbrev SavedHere : Growth → Seen → ℕ → ℕ → Type 0
  SavedHere = SavedAt c H b end e block s fit free f source at same_names link_is live_in entry saved

  abbrev LinkHere : Growth → Seen → ℕ → Type 0
  LinkHere = LinkAt c H b end e block s fit free f source at same_names link_is live_in entry saved

  abbrev Outs : Growth → Seen → ℕ → ℕ → List Operand → List ℕ → Type 0
  Outs = AreOut c H b end e block s fit

  -- ---- what is added

  pub out_shape : (xs : List Operand) (g : Growth)
      → all_ops e.names live_in entry saved (record { kind = Out; operands = xs; results = [] } ∷ []) g
      ≡ operands_ops xs g ++ record { kind = Out; operands = new_operands xs g; results = [] } ∷ []
  out_shape xs g = by entry
    where
      by : (t : Bool) → all_ops e.names live_in t saved (record { kind = Out; operands = xs; results = [] } ∷ []) g
          ≡ operands_ops xs g ++ record { kind = Out; operands = new_operands xs g; results = [] } ∷ []
      by true = append_nil (operands_ops xs g ++ record { kind = Out; operands = new_operands xs g; results = [] } ∷ [])
      by false = append_nil (operands_ops xs g ++ record { kind = Out; operands = new_operands xs g; results = [] } ∷ [])

  abbrev pub ended : Term → List Operand → Growth → Growth
  ended term xs g = with_results (End term) (new_operands xs g) 0 (with_operands xs g)

  pub enter_end : (t : Bool) (term : Term) (g : Growth) → with_enter t (End term) g ≡ g
  enter_end true term g = refl
  enter_end false term g = refl

  pub no_enter : (t : Bool) (term : Term) → enter_ops t (End term) ≡ []
  no_enter true term = refl
  no_enter false term = refl

  -- ---- what the end of a block reads: names and saved values

  outs_append : (g : Growth) (seen : Seen) (count j next : ℕ) (xs ys : List Operand) (rs qs : List ℕ) → next ≡ j + length xs
      → Outs g seen count j xs rs → Outs g seen count next ys qs → Outs g seen count j (xs ++ ys) (rs ++ qs)
  outs_append g seen count j next [] ys [] qs is h k = let same : next ≡ j = omega arith in subst
      (λ (n : ℕ). Outs g seen count n ys qs) same k
  outs_append g seen count j next [] ys (r ∷ rs) qs is h k = absurd h
  outs_append g seen count j next (x ∷ xs) ys [] qs is h k = absurd h
  outs_append g seen count j next (x ∷ xs) ys (r ∷ rs) qs is h k = (
    h.0,
    outs_append g seen count (j + 1) next xs ys rs qs
        (omega arith) h.1 k,
  )

  is_placed_by : (y : Operand) (own : List TempId) → first_of y.alts ≡ first_of own → is_placed s y.alts ≡ is_placed s own
  is_placed_by y own h = ap (λ (n : ℕ). nat_lt n s.placed) h

  place_within : (t : Bool) (n k : ℕ) → n ≡ 1 + k → (if t then 0 else n - 1) < n
  place_within true n k e = omega arith
  place_within false n k e = omega arith

  place_size : (t : Bool) (n k : ℕ) → n ≡ 1 + k → (if t then 0 else k) ≡ (if t then 0 else n - 1)
  place_size true n k e = refl
  place_size false n k e = omega arith

  module _ (kept0 link0 k : ℕ) (g : Growth) (current : List ℕ) (first : ℕ) (p : Progress) (seen : Seen)
      (h : Goes kept0 link0 k g current first p seen) where
    -- names
    module _ (count : ℕ) (hands : (j : ℕ) (y : Operand) → out_place e.names block.live_out s count s.term j y
        ≡ handed_place e.names s count j y (slice_get block.live_out j)) where
      names_out : (j : ℕ) (ns : List NameId) → ((m : ℕ) (name : NameId) → slice_get ns m ≡ Some name → slice_get block.live_out (j + m)
          ≡ Some name)
          → ((m : ℕ) (name : NameId) → slice_get ns m ≡ Some name → IsLive f.blocks name b k)
          → Outs g seen count j (map (name_operand current None) ns) (map slot_of ns)
      names_out j [] there live = tt
      names_out j (name ∷ ns) there live =
          let n = h.names name (live 0 name refl) in
          let q = n.kept in
          let at_j : slice_get block.live_out j ≡ Some name = (let z : j ≡ j + 0 = omega arith in ap (slice_get block.live_out) z
          ∙ there 0 name refl) in (
            record {
              own = q.own;
              sort = sort_by (name_kind e.names name);
              carries = q.carries;
              place = kept_place s q.own;
              within = place_within (is_placed s q.own) (length q.own) (copies_of (name_kind e.names name)) q.size;
              stands = subst (λ (r : ℕ). Stands c b (chosen q.own (kept_place s q.own)).0 r seen) n.room q.stands;
              home = tt;
              chooses = λ y same. hands j y ∙ ap (handed_place e.names s count j y) at_j
                  ∙ ap (λ (t : Bool). if t then 0 else copies_of (name_kind e.names name)) (is_placed_by y q.own same)
                  ∙ place_size (is_placed s q.own) (length q.own) (copies_of (name_kind e.names name)) q.size;
            },
            names_out (j + 1) ns (λ m x got. let z : j + 1 + m ≡ j + suc m = omega arith in ap (slice_get block.live_out) z
                ∙ there (suc m) x got)
                (λ m x got. live (suc m) x got),
          )

      -- saved values, and the link register's
      abbrev saved_place : Bool → ℕ → ℕ
      saved_place t j = if t then 0 else if j + 1 == count then 1 else 0

      abbrev placed_or : Bool → ℕ
      placed_or t = if t then 0 else 1

      saved_zero : (t : Bool) (j : ℕ) → j + 1 < count → saved_place t j ≡ 0
      saved_zero true j lt = refl
      saved_zero false j lt = let z : (j + 1 == count) ≡ false = grind (arith, nat_tests) in rw z refl

      link_place : (t : Bool) (j : ℕ) → j + 1 ≡ count → saved_place t j ≡ placed_or t
      link_place true j e' = refl
      link_place false j e' = let z : (j + 1 == count) ≡ true = grind (arith, nat_tests) in rw z refl

      saved_out : (i j : ℕ) (regs : List ℕ) → ((m r : ℕ) → slice_get regs m ≡ Some r → SavedHere g seen (kept0 + (i + m)) r)
          → LinkHere g seen (kept0 + (i + length regs)) → ((m : ℕ) → slice_get block.live_out (j + m) ≡ None) → j + length regs + 1 ≡ count
          → Outs g seen count j (map (λ (n : ℕ). reads n None) (range_with_len (kept0 + i) (suc (length regs)))) (regs ++ s.link ∷ [])
      saved_out i j [] saved_at link none size =
          let z : kept0 + (i + 0) ≡ kept0 + i = omega arith in
          let q = subst (LinkHere g seen) z link in
          let at_j : slice_get block.live_out j ≡ None = (let n : j ≡ j + 0 = omega arith in ap (slice_get block.live_out) n ∙ none 0) in (
            record {
              own = q.own;
              sort = record { kind = General; copied = saved };
              carries = q.carries;
              place = kept_place s q.own;
              within = q.within;
              stands = q.stands;
              home = tt;
              chooses = λ y same. hands j y ∙ ap (handed_place e.names s count j y) at_j
                  ∙ link_place (is_placed s y.alts) j (omega arith)
                  ∙ ap (λ (t : Bool). if t then 0 else 1) (is_placed_by y q.own same) ∙ sym q.place;
            },
            tt,
          )
      saved_out i j (r ∷ regs) saved_at link none size =
          let z : kept0 + (i + 0) ≡ kept0 + i = omega arith in
          let q = subst (λ (x : ℕ). SavedHere g seen x r) z (saved_at 0 r refl) in
          let at_j : slice_get block.live_out j ≡ None = (let n : j ≡ j + 0 = omega arith in ap (slice_get block.live_out) n ∙ none 0) in
          let next : kept0 + (i + 1) ≡ kept0 + i + 1 = omega arith in (
            record {
              own = q.own;
              sort = record { kind = General; copied = saved };
              carries = q.carries;
              place = 0;
              within = q.within;
              stands = q.stands;
              home = tt;
              chooses = λ y same. hands j y ∙ ap (handed_place e.names s count j y) at_j ∙ saved_zero (is_placed s y.alts) j (omega arith);
            },
            subst (λ (x : ℕ). Outs g seen count (j + 1) (map (λ (n : ℕ). reads n None) (range_with_len x (suc (length regs))))
                (regs ++ s.link ∷ [])) next
                (saved_out (i + 1) (j + 1) regs
                (λ m x got. let w : kept0 + (i + suc m) ≡ kept0 + (i + 1 + m) = omega arith in subst (λ (y : ℕ). SavedHere g seen y x) w
                (saved_at (suc m) x got))
                (let w : kept0 + (i + suc (length regs)) ≡ kept0 + (i + 1 + length regs) = omega arith in subst (LinkHere g seen) w link)
                (λ m. let w : j + 1 + m ≡ j + suc m = omega arith in ap (slice_get block.live_out) w ∙ none (suc m))
                (omega arith)),
          )

    -- saved values at a return
    pub kept_out : (count i j : ℕ) (regs : List ℕ) → ((m r : ℕ) → slice_get regs m ≡ Some r → SavedHere g seen (kept0 + (i + m)) r)
        → ((n : ℕ) (y : Operand) → j ≤ n → out_place e.names block.live_out s count s.term n y ≡ 0)
        → Outs g seen count j (kept_operands (kept0 + i) regs) regs
    kept_out count i j [] saved_at zeros = tt
    kept_out count i j (r ∷ regs) saved_at zeros =
        let z : kept0 + (i + 0) ≡ kept0 + i = omega arith in
        let q = subst (λ (x : ℕ). SavedHere g seen x r) z (saved_at 0 r refl) in
        let next : kept0 + (i + 1) ≡ kept0 + i + 1 = omega arith in (
          record {
            own = q.own;
            sort = record { kind = General; copied = saved };
            carries = q.carries;
            place = 0;
            within = q.within;
            stands = q.stands;
            home = refl;
            chooses = λ y same. zeros j y (omega arith);
          },
          subst (λ (x : ℕ). Outs g seen count (j + 1) (kept_operands x regs) regs) next
              (kept_out count (i + 1) (j + 1) regs
              (λ m x got. let w : kept0 + (i + suc m) ≡ kept0 + (i + 1 + m) = omega arith in subst (λ (y : ℕ). SavedHere g seen y x) w
              (saved_at (suc m) x got))
              (λ n y le. zeros n y (omega arith))),
        )

  -- ---- a block that goes on

  pub new_size : (xs : List Operand) (g : Growth) → length (new_operands xs g) ≡ length xs
  new_size [] g = refl
  new_size (x ∷ xs) g = ap suc (new_size xs (with_operand x g))

  abbrev pub OutAsks : List ℕ → Type 0
  OutAsks rs = (seen' : Seen) (qs : List Read) → AllZip (ReadsFrom seen') qs rs → H seen' qs

  pub out_after : (n : ℕ) (p : Progress) (seen : Seen) (g : Growth) (xs : List Operand) (rs : List ℕ) → Outs g seen (length xs) 0 xs rs
      → purpose_of_out s.term ≡ Unread → OutAsks rs → G n p seen (all_ops e.names live_in entry saved
      (record { kind = Out; operands = xs; results = [] } ∷ []) g)
  out_after n p seen g xs rs h quiet wanted =
      subst (G n p seen) (sym (out_shape xs g))
      (operands_rest c H b end e block s fit xs n p seen g (record { kind = Out; operands = new_operands xs g; results = [] } ∷ []) Unread
      quiet (inl refl)
      (λ m p' seen' count same idle. out_good c H b end e block s fit m p' seen' (new_operands xs g) rs
      (subst (λ (z : ℕ). AreOutReads c H b end e block s fit seen' z 0 (new_operands xs g) rs) (sym (new_size xs g))
      (out_reads c H b end e block s fit g seen' (length xs) 0 xs rs
      (out_later c H b end e block s fit g g seen seen' (length xs) 0 xs rs (λ x own sort k. k) (λ i d lt k st. idle.stands k _ st) h)))
      (wanted seen')))

  -- what a block hands over: the slots of names, the registers that stay, the link register's slot
  abbrev pub handed_rooms : List NameId → List ℕ
  handed_rooms ns = map slot_of ns ++ (callee_saved e.table ++ s.link ∷ [])

  abbrev pub IsHigh : ℕ → Type 0
  IsHigh r = (6 ≤ r) × (r ≢ PREDICATE)

  all_map_high : (ns : List NameId) → All IsHigh (map slot_of ns)
  all_map_high [] = All-nil IsHigh
  all_map_high (name ∷ ns) = All-cons IsHigh (slot_of name) (map slot_of ns) (omega arith, λ z. omega arith) (all_map_high ns)

  -- all but low registers stands behind what comes before the end
  abbrev KeepsHigh : Seen → Seen → Type 0
  KeepsHigh seen seen' = (k r : ℕ) → 6 ≤ r → r ≢ PREDICATE → Stands c b k r seen → Stands c b k r seen'

  high_stands : (seen seen' : Seen) (rs : List ℕ) → KeepsHigh seen seen' → All IsHigh rs
      → All (λ (r : ℕ). (k : ℕ) → Stands c b k r seen → Stands c b k r seen') rs
  high_stands seen seen' rs keeps high i d lt k st = let x = high i d lt in keeps k _ x.0 x.1 st

  module _ (kept0 link0 : ℕ) (g : Growth) (current : List ℕ) (first : ℕ) (p : Progress) (seen : Seen)
      (h : Goes kept0 link0 (length source.ops) g current first p seen) (links : link0 ≡ kept0 + length (callee_saved e.table)) where
    rooms_high : (ns : List NameId) → All IsHigh (handed_rooms ns)
    rooms_high ns =
        All-append IsHigh (map slot_of ns) (callee_saved e.table ++ s.link ∷ []) (all_map_high ns)
        (All-append IsHigh (callee_saved e.table) (s.link ∷ [])
        (all_at IsHigh (callee_saved e.table) (λ j r got. let q = h.saved_at j r got in (q.safe.high, q.safe.other)))
        (All-cons IsHigh s.link [] (omega arith, λ z. omega arith) (All-nil IsHigh)))

    abbrev onward_operands : List NameId → List Operand
    onward_operands ns = map (name_operand current None) ns ++ map (λ (n : ℕ). reads n None)
        (range_with_len kept0 (length (saved_registers e.table)))

    saved_size : length (saved_registers e.table) ≡ suc (length (callee_saved e.table))
    saved_size = length-append (callee_saved e.table) (LINK ∷ []) ∙ (let z : length (callee_saved e.table) + 1
        ≡ suc (length (callee_saved e.table)) = omega arith in z)

    past_names : (ns : List NameId) (m : ℕ) → slice_get ns (length ns + m) ≡ None
    past_names ns m = slice_get_past ns (length ns + m) (omega arith)

    map_size : (ns : List NameId) → length (map (name_operand current None) ns) ≡ length ns
    map_size ns = length-map ns (name_operand current None)

    onward_outs : (ns : List NameId) (count : ℕ) → block.live_out ≡ ns → count ≡ length ns + length (saved_registers e.table)
        → ((m : ℕ) (name : NameId) → slice_get ns m ≡ Some name → IsLive f.blocks name b (length source.ops))
        → ((j : ℕ) (y : Operand) → out_place e.names block.live_out s count s.term j y
        ≡ handed_place e.names s count j y (slice_get block.live_out j))
        → Outs g seen count 0 (onward_operands ns) (handed_rooms ns)
    onward_outs ns count is size live hands =
        let n = length (callee_saved e.table) in
        let saved_size' = saved_size in
        outs_append g seen count 0 (length ns) (map (name_operand current None) ns)
        (map (λ (x : ℕ). reads x None) (range_with_len kept0 (length (saved_registers e.table))))
        (map slot_of ns) (callee_saved e.table ++ s.link ∷ []) (let z = map_size ns in omega arith)
        (names_out kept0 link0 (length source.ops) g current first p seen h count hands 0 ns
        (λ m name got. (let z : 0 + m ≡ m = omega arith in ap (slice_get block.live_out) z ∙ ap (λ (xs : List NameId). slice_get xs m) is
        ∙ got)) live)
        (subst (λ (z : ℕ). Outs g seen count (length ns) (map (λ (x : ℕ). reads x None) (range_with_len kept0 z))
        (callee_saved e.table ++ s.link ∷ [])) (sym saved_size)
        (subst (λ (z : ℕ). Outs g seen count (length ns) (map (λ (x : ℕ). reads x None) (range_with_len z (suc n)))
        (callee_saved e.table ++ s.link ∷ [])) (let z : kept0 + 0 ≡ kept0 = omega arith in z)
        (saved_out kept0 link0 (length source.ops) g current first p seen h count hands 0 (length ns) (callee_saved e.table)
        (λ m r got. let z : kept0 + m ≡ kept0 + (0 + m) = omega arith in subst (λ (x : ℕ). SavedHere g seen x r) z (h.saved_at m r got))
        (let z : link0 ≡ kept0 + (0 + n) = omega arith in subst (LinkHere g seen) z h.link)
        (λ m. ap (λ (xs : List NameId). slice_get xs (length ns + m)) is ∙ past_names ns m)
        (omega arith))))

    onward_size : (ns : List NameId) → length (onward_operands ns) ≡ length ns + length (saved_registers e.table)
    onward_size ns =
        length-append (map (name_operand current None) ns) (map (λ (n : ℕ). reads n None)
        (range_with_len kept0 (length (saved_registers e.table))))
        ∙ (let a = map_size ns in
        let d = length-map (range_with_len kept0 (length (saved_registers e.table))) (λ (n : ℕ). reads n None) in
        let l = length-range_with_len kept0 (length (saved_registers e.table)) in omega arith)

    -- ---- terminators

    abbrev out_of : List NameId → ExtOp
    out_of ns = record { kind = Out; operands = onward_operands ns; results = [] }

    abbrev All' : List ExtOp → Growth → List ExtOp
    All' ops x = all_ops e.names live_in entry saved ops x

    abbrev HandsOut : List NameId → Type 0
    HandsOut ns = (count j : ℕ) (y : Operand) → out_place e.names block.live_out s count s.term j y
        ≡ handed_place e.names s count j y (slice_get block.live_out j)

    abbrev AreLiveHere : List NameId → Type 0
    AreLiveHere ns = (m : ℕ) (name : NameId) → slice_get ns m ≡ Some name → IsLive f.blocks name b (length source.ops)

    -- a block that falls through
    pub fall_good : (n : ℕ) (ns : List NameId) → block.live_out ≡ ns → AreLiveHere ns → HandsOut ns → purpose_of_out s.term ≡ Unread
        → OutAsks (handed_rooms ns)
        → G n p seen (All' (out_of ns ∷ []) g)
    fall_good n ns is live hands quiet wanted =
        out_after n p seen g (onward_operands ns) (handed_rooms ns) (onward_outs ns (length (onward_operands ns)) is (onward_size ns) live
        (hands (length (onward_operands ns)))) quiet wanted

    -- the end behind a transfer
    behind_good : (n : ℕ) (q : Progress) (seen' : Seen) (term : Term) (xs : List Operand) (ns : List NameId) → KeepsHigh seen seen'
        → block.live_out ≡ ns → AreLiveHere ns → HandsOut ns → purpose_of_out s.term ≡ Unread → OutAsks (handed_rooms ns)
        → G n q seen' (All' (out_of ns ∷ []) (with_enter entry (End term) (ended term xs g)))
    behind_good n q seen' term xs ns keeps is live hands quiet wanted =
        let rs = handed_rooms ns in
        let ys = onward_operands ns in
        subst (λ (x : Growth). G n q seen' (All' (out_of ns ∷ []) x)) (sym (enter_end entry term (ended term xs g)))
        (out_after n q seen' (ended term xs g) ys rs
        (out_later c H b end e block s fit g (ended term xs g) seen seen' (length ys) 0 ys rs
        (λ x own sort k. carries_same (with_operands xs g) (ended term xs g) x own sort refl (carries_operands xs g x own sort k))
        (high_stands seen seen' rs keeps (rooms_high ns)) (onward_outs ns (length ys) is (onward_size ns) live (hands (length ys)))) quiet
        wanted)

    abbrev end_at : Term → List Operand → ExtOp
    end_at term xs = record { kind = End term; operands = xs; results = [] }

    -- the operations of a jump, and of what follows
    jump_shape : (term : Term) (xs : List Operand) (rest : List ExtOp)
        → (operands_ops xs g ++ (end_at term (new_operands xs g) ∷ enter_ops entry (End term))) ++ rest ≡ operands_ops xs g
        ++ (end_at term (new_operands xs g) ∷ rest)
    jump_shape term xs rest =
        ap (λ (es : List ExtOp). (operands_ops xs g ++ (end_at term (new_operands xs g) ∷ es)) ++ rest) (no_enter entry term)
        ∙ append_assoc (operands_ops xs g) (end_at term (new_operands xs g) ∷ []) rest

    pub jump_good : (n : ℕ) (to : BlockId) (ns : List NameId) → block.live_out ≡ ns → AreLiveHere ns → HandsOut ns → purpose_of_out s.term
        ≡ Unread → OutAsks (handed_rooms ns)
        → G n p seen (All' (end_at (Jump to) [] ∷ out_of ns ∷ []) g)
    jump_good n to ns is live hands quiet wanted =
        let rest = All' (out_of ns ∷ []) (with_enter entry (End (Jump to)) (ended (Jump to) [] g)) in
        subst (G n p seen) (sym (jump_shape (Jump to) [] rest))
        (transfer_good c H b end e block s fit n p seen (Jump to) JumpOp [] rest [] refl (λ z. cc z) tt tt
        (λ seen' passed. behind_good (n + 1) (other_progress (after_end e.table (Jump to) p.cycle) Other) seen' (Jump to) [] ns
        (λ k r high other st. passed.stands k r st) is live hands quiet wanted))

    branch_by : (sense : Bool) (n : ℕ) (pred : NameId) (to : BlockId) (o : Op) (ns : List NameId) → transfer_of (Branch pred sense to)
        ≡ Some o → o ≢ Call
        → InSpace PREDICATE (space_read (Some o) 0) → kind_of f.names pred ≡ Some Pred → IsLive f.blocks pred b (length source.ops)
        → block.live_out ≡ ns → AreLiveHere ns → HandsOut ns → purpose_of_out s.term ≡ Unread → OutAsks (handed_rooms ns)
        → G n p seen (All' (end_at (Branch pred sense to) (name_operand current None pred ∷ []) ∷ out_of ns ∷ []) g)
    branch_by sense n pred to o ns op ne space kind at_pred is live hands quiet wanted =
        let term = Branch pred sense to in
        let x = name_operand current None pred in
        let xs = x ∷ [] in
        let rest = All' (out_of ns ∷ []) (with_enter entry (End term) (ended term xs g)) in
        let k = kept_as c H b end e block s fit free f source at same_names link_is live_in entry saved g seen
        (slice_index current pred.0) pred Pred kind (h.names pred at_pred) in
        subst (G n p seen) (sym (jump_shape term xs rest))
        (operands_arrive c H b end e block s fit xs (PREDICATE ∷ []) n p seen g (end_at term (new_operands xs g) ∷ rest)
        (truth k tt) h.operands (omega arith) h.front h.size refl
        (λ m q mid le a. transfer_good c H b end e block s fit m q mid term o (new_operands xs g) rest (PREDICATE ∷ []) op ne a.arrived
        (space, tt, tt)
        (λ seen' passed. behind_good (m + 1) (other_progress (after_end e.table term q.cycle) Other) seen' term xs ns
        (λ i r high other st. passed.stands i r (a.stands i r high other st)) is live hands quiet wanted)))

    pub branch_good : (sense : Bool) (n : ℕ) (pred : NameId) (to : BlockId) (ns : List NameId) → kind_of f.names pred ≡ Some Pred
        → IsLive f.blocks pred b (length source.ops)
        → block.live_out ≡ ns → AreLiveHere ns → HandsOut ns → purpose_of_out s.term ≡ Unread → OutAsks (handed_rooms ns)
        → G n p seen (All' (end_at (Branch pred sense to) (name_operand current None pred ∷ []) ∷ out_of ns ∷ []) g)
    branch_good true n pred to ns = branch_by true n pred to _ ns refl (λ z. cc z) refl
    branch_good false n pred to ns = branch_by false n pred to _ ns refl (λ z. cc z) refl
