-- The plan of a whole block.
use Rattle.std.proofs.Common.{◌≡◌, ℕ, suc, ◌+◌, ◌<◌, ◌≤◌, ◌||◌, Bool, true, false, List, [], ◌∷◌, ◌++◌, length, map, replicate, Option}
use Rattle.std.proofs.Common.{Some, None, refl, sym, ap, subst, ◌∙◌, arith}
use Rattle.std.specs.Prelude.{slice_get, slice_index, if◌then◌else◌, IfSome, All, Contains}
use Rattle.std.specs.List.{AllZip}
use Rattle.std.proofs.lemmas.List.{length-append, length-map}
use Rattle.std.proofs.lemmas.List.FromFn.{length-map-range_with_len}
use Rattle.std.proofs.lemmas.Option.{slice_get_within, get_or_from_slice_get}
use Rattle.std.proofs.lemmas.List.Elements.{Contains-get_or}
use Rattle.un_base.specs.declared.ids.NameId.{NameId}
use Rattle.un_base.specs.declared.ids.TempId.{TempId}
use Rattle.un_isa.specs.declared.reg.TheConstants.{LINK, FIRST_SLOT}
use Rattle.un_isa.specs.declared.table.Table.{Table}
use Rattle.un_isa.specs.Fit.{IsFit}
use Rattle.un_isa.specs.Registers.{callee_saved, saved_registers}
use Rattle.un_isa.specs.Tables.{in_mask}
use Rattle.un_ir.specs.declared.function.Kind.TheVariants.{General}
use Rattle.un_ir.specs.declared.function.Block.{Block}
use Rattle.un_ir.specs.declared.function.Function.{Function}
use Rattle.un_ir.specs.declared.function.Term.{Term}
use Rattle.un_ir.specs.declared.function.Term.TheVariants.{Fall, Jump, Branch, Ret}
use Rattle.un_ir.specs.declared.extended.ExtKind.TheVariants.{In}
use Rattle.un_ir.specs.declared.extended.ExtOp.{ExtOp}
use Rattle.un_ir.specs.declared.extended.ExtBlock.{ExtBlock}
use Rattle.un_ir.specs.declared.extended.Ext.{Ext}
use Rattle.un_ir.specs.declared.extended.Growth.{Growth}
use Rattle.un_ir.specs.declared.extended.Value.{Value}
use Rattle.un_ir.specs.declared.extended.Operand.{Operand}
use Rattle.un_ir.specs.Extended.{temp, name_kind, is_return, returns}
use Rattle.un_ir.specs.Linear.{Ending, ending_of}
use Rattle.un_ir.specs.ExtendOf.{new_temps, with_extended, grown_block, with_ops, extend_of}
use Rattle.un_ir.specs.LinearOf.{AreLive, live_at, live_after, kind_of_pair, first_temps, current_after, past_all, in_op, body_ops, reads}
use Rattle.un_ir.specs.LinearOf.{name_operand, out_operands_of, end_ops, out_op, linear_block, lin_of}
use Rattle.un_ir.specs.Live.{IsLive, read_by_term}
use Rattle.un_ir.specs.WellFormed.{TestsItsKind}
use Rattle.un_ir.proofs.SourceFacts.{good_block}
use Rattle.un_model.specs.declared.schedule.Read.{Read}
use Rattle.un_model.specs.declared.schedule.LiveRange.{LiveRange}
use Rattle.un_model.specs.Pairs.{places_from}
use Rattle.un_baseline.specs.Plans.{Step, planned_issue}
use Rattle.un_baseline.proofs.Made.{made_at, steps_made}
use Rattle.un_model.specs.Congruences.{term_of, live_in_temps}
use Rattle.un_baseline.specs.declared.plan.Setting.{Setting}
use Rattle.un_baseline.specs.declared.plan.Progress.{Progress}
use Rattle.un_baseline.specs.SpillEverywhere.{purpose_of_out, slot_of, out_place, handed_place, first_number, setting_of, first_progress}
use Rattle.un_baseline.specs.SpillEverywhere.{first_cycle, steps_of}
use Rattle.un_baseline.proofs.Counts.{term_start, term_bodies, term_out, term_jump, term_branch, term_return, ending_bodies}
use Rattle.un_baseline.proofs.Counts.{first_number_of}
use Rattle.un_baseline.proofs.Ends.{fall_good, jump_good, branch_good}
use Rattle.un_baseline.proofs.Going.{Going, bodies_good}
use Rattle.un_baseline.proofs.Grown.{all_add, all_ops, extended_ops}
use Rattle.un_baseline.proofs.Lives.{live_in, live_in_small, live_term, live_out}
use Rattle.un_baseline.proofs.Openings.{rooms_are, IsKept, opens_onward, opens_entry}
use Rattle.un_baseline.proofs.Outs.{ReadsFrom}
use Rattle.un_baseline.proofs.Parameters.{dst_small, entry_low, entry_word}
use Rattle.un_baseline.proofs.Returning.{return_none, return_some}
use Rattle.un_baseline.proofs.Sound.{Seen}
use Rattle.un_baseline.proofs.Starts.{AreApart, Fresh, start_at}
use Rattle.un_baseline.proofs.Walk.{Good}
use Rattle.un_baseline.proofs.Items.{get_left, get_map}

-- the registers in which values of these live names, and the saved values, stand at the bounds of blocks
abbrev pub bound_rooms : Ext → List NameId → List ℕ
bound_rooms e live = map slot_of live ++ (callee_saved e.table ++ (FIRST_SLOT + length e.names) ∷ [])

-- what the end of a block reads that goes on stands in these
abbrev pub Handed : Ext → ExtBlock → Term → Seen → List Read → Type 0
Handed e block (Ret value) seen qs = Unit {0}
Handed e block _ seen qs = AllZip (ReadsFrom seen) qs (bound_rooms e block.live_out)

module _ (f : Function) (lists : List (List NameId)) (t : Table) (fit : IsFit t) (live : AreLive f.blocks lists)
    (free : (r : ℕ) → FIRST_SLOT ≤ r → in_mask t.clobbered r ≡ false)
    (regs_kept : All (IsKept t.clobbered) (callee_saved t)) (regs_apart : AreApart (callee_saved t)) where
  abbrev e : Ext
  e = extend_of (lin_of f lists t)

  abbrev lin_block : ℕ → ℕ → Block → ExtBlock
  lin_block b first source = linear_block t (length f.names) lists b first source

  abbrev grown : Bool → List Value → ℕ → ExtBlock → Growth
  grown entry values next lin = grown_block e.names entry values next lin

  abbrev ext_block : Bool → ℕ → ℕ → List Value → ℕ → Block → ExtBlock
  ext_block entry b first values next source = let lin = lin_block b first source in with_ops lin (grown entry values next lin).ops

  abbrev saved_by : Bool → ExtBlock → Bool
  saved_by entry lin = entry || returns lin

  abbrev regs : List ℕ
  regs = callee_saved t

  module _ (b first : ℕ) (source : Block) (at : slice_get f.blocks b ≡ Some source) (entry : Bool) (values : List Value) (next : ℕ) where
    abbrev lin : ExtBlock
    lin = lin_block b first source

    abbrev block : ExtBlock
    block = ext_block entry b first values next source

    abbrev s : Setting
    s = setting_of e entry block

    abbrev saved : Bool
    saved = saved_by entry lin

    abbrev ns : List NameId
    ns = live_at lists b

    abbrev nout : List NameId
    nout = live_after lists (length f.names) b source.term

    abbrev g0 : Growth
    g0 = record { ops = []; values = values; next = next }

    abbrev kept0 : ℕ
    kept0 = first + length ns

    abbrev link0 : ℕ
    link0 = kept0 + length regs

    abbrev first' : ℕ
    first' = kept0 + length (saved_registers t)

    abbrev current0 : List ℕ
    current0 = first_temps (replicate (length f.names) 0) first ns

    abbrev after : List ℕ
    after = current_after current0 first' source.ops

    abbrev tail : Term → List ExtOp
    tail term = end_ops after link0 term ++ out_op t after kept0 nout term ∷ []

    abbrev start : ExtOp
    start = in_op first (length ns + length (saved_registers t))

    abbrev ops_of : List ExtOp → Growth → List ExtOp
    ops_of ops g = all_ops e.names ns entry saved ops g

    abbrev g1 : Growth
    g1 = with_extended e.names ns entry saved start g0

    abbrev whole : List ExtOp
    whole = extended_ops e.names ns entry saved start g0 ++ ops_of (body_ops t current0 first' source.ops ++ tail source.term) g1

    pub ops_are : block.ops ≡ whole
    ops_are = all_add e.names ns entry saved lin.ops g0

    term_tail : (term : Term) (g : Growth) → term_of (ops_of (tail term) g) ≡ term
    term_tail Fall g = term_out e.names ns entry saved (out_operands_of t after kept0 nout Fall) g
    term_tail (Jump to) g = term_jump e.names ns entry saved to (out_op t after kept0 nout (Jump to) ∷ []) g
    term_tail (Branch pred sense to) g = term_branch e.names ns entry saved pred sense to (name_operand after None pred ∷ [])
        (out_op t after kept0 nout (Branch pred sense to) ∷ []) g
    term_tail (Ret value) g = term_return e.names ns entry saved value (reads link0 None ∷ [])
        (out_op t after kept0 nout (Ret value) ∷ []) g

    pub term_is : term_of block.ops ≡ source.term
    term_is =
        ap term_of ops_are
        ∙ term_start e.names ns entry saved start g0 (ops_of (body_ops t current0 first' source.ops ++ tail source.term) g1) refl refl
        ∙ term_bodies e.names ns entry saved t current0 first' source.ops (tail source.term) g1 source.term (term_tail source.term)

    pub starts : live_in_temps block.ops ≡ new_temps g0 (length start.results)
    starts = ap live_in_temps ops_are

    saved_size : length (saved_registers t) ≡ suc (length regs)
    saved_size = length-append regs (LINK ∷ []) ∙ (let z : length regs + 1 ≡ suc (length regs) = omega arith in z)

    pub start_size : length start.results ≡ length ns + suc (length regs)
    start_size = length-map-range_with_len temp first (length ns + length (saved_registers t)) ∙ ap (λ (k : ℕ). length ns + k) saved_size

    values_are : s.values ≡ length ns + suc (length regs)
    values_are = ap length starts ∙ length-map-range_with_len temp next (length start.results) ∙ start_size

    placed_onward : entry ≡ false → s.placed ≡ next + (length ns + suc (length regs))
    placed_onward not_entry =
        ap (λ (x : Bool). placed_of x) not_entry ∙ ap (λ (xs : List TempId). first_number xs + s.values) starts
        ∙ ap (λ (k : ℕ). k + s.values) (first_number_of next (length start.results) (let z = start_size in omega arith))
        ∙ ap (λ (k : ℕ). next + k) values_are
      where
        placed_of : Bool → ℕ
        placed_of x = if x then 0 else first_number (live_in_temps block.ops) + length (live_in_temps block.ops)

    placed_entry : entry ≡ true → s.placed ≡ 0
    placed_entry in_entry = ap (λ (x : Bool). placed_of x) in_entry
      where
        placed_of : Bool → ℕ
        placed_of x = if x then 0 else first_number (live_in_temps block.ops) + length (live_in_temps block.ops)

    abbrev H : Seen → List Read → Type 0
    H = Handed e block (term_of block.ops)

    asks_by : (term : Term) → source.term ≡ term → (seen : Seen) (qs : List Read) → Handed e block term seen qs → H seen qs
    asks_by term is seen qs h = subst (λ (x : Term). Handed e block x seen qs) (sym (term_is ∙ is)) h

    copied_entry : entry ≡ true → saved ≡ true
    copied_entry in_entry = ap (λ (x : Bool). x || returns lin) in_entry

    or_true : (x y : Bool) → y ≡ true → (x || y) ≡ true
    or_true true y h = refl
    or_true false y h = h

    copied_return : (value : Option NameId) → source.term ≡ Ret value → saved ≡ true
    copied_return value is =
        or_true entry (returns lin)
        (ap (λ (x : Ending). is_return x.term) (ending_bodies t current0 first' source.ops (tail source.term))
        ∙ ap (λ (x : Term). ends_back (tail x)) is)
      where
        ends_back : List ExtOp → Bool
        ends_back ops = let x = ending_of ops in is_return x.term

    link_is : s.link ≡ FIRST_SLOT + length e.names
    link_is = refl

    -- ---- the end

    module _ (end : ℕ) where
      abbrev Goes : ℕ → Growth → List ℕ → ℕ → Progress → Seen → Type 0
      Goes k g current fst p seen = Going t.clobbered H b end e block s fit free f source at refl link_is ns entry saved kept0 link0 k g
          current fst p seen

      abbrev IsGoodFrom : ℕ → Progress → Seen → List ExtOp → Type 0
      IsGoodFrom = Good t.clobbered H b end e block s fit

      live_here : (m : ℕ) (name : NameId) → slice_get nout m ≡ Some name → IsLive f.blocks name b (length source.ops)
      live_here = live_out f lists live b source at

      hands_by : (term : Term) → source.term ≡ term
          → ((count j : ℕ) (y : Operand) → out_place e.names block.live_out s count term j y
          ≡ handed_place e.names s count j y (slice_get block.live_out j))
          → (count j : ℕ) (y : Operand) → out_place e.names block.live_out s count s.term j y
          ≡ handed_place e.names s count j y (slice_get block.live_out j)
      hands_by term is h count j y = ap (λ (x : Term). out_place e.names block.live_out s count x j y) (term_is ∙ is) ∙ h count j y

      tail_good : (term : Term) → source.term ≡ term → (n : ℕ) (g : Growth) (fst : ℕ) (p : Progress) (seen : Seen)
          → Goes (length source.ops) g after fst p seen
          → TestsItsKind f.names term → IsGoodFrom n p seen (ops_of (tail term) g)
      tail_good Fall is n g fst p seen h kind =
          fall_good t.clobbered H b end e block s fit free f source at refl link_is ns entry saved kept0 link0 g after fst p seen h refl n
          nout refl live_here
          (hands_by Fall is (λ count j y. refl)) (ap purpose_of_out (term_is ∙ is)) (λ seen' qs z. asks_by Fall is seen' qs z)
      tail_good (Jump to) is n g fst p seen h kind =
          jump_good t.clobbered H b end e block s fit free f source at refl link_is ns entry saved kept0 link0 g after fst p seen h refl n
          to nout refl live_here
          (hands_by (Jump to) is (λ count j y. refl)) (ap purpose_of_out (term_is ∙ is)) (λ seen' qs z. asks_by (Jump to) is seen' qs z)
      tail_good (Branch pred sense to) is n g fst p seen h kind =
          branch_good t.clobbered H b end e block s fit free f source at refl link_is ns entry saved kept0 link0 g after fst p seen h refl
          sense n pred to nout kind
          (live_term f lists live b source at pred (subst (λ (x : Term). Contains (read_by_term x) pred) (sym is) (0, omega arith, refl)))
          refl live_here
          (hands_by (Branch pred sense to) is (λ count j y. refl)) (ap purpose_of_out (term_is ∙ is))
          (λ seen' qs z. asks_by (Branch pred sense to) is seen' qs z)
      tail_good (Ret None) is n g fst p seen h kind =
          return_none t.clobbered H b end e block s fit free f source at refl link_is ns entry saved kept0 link0 g after fst p seen h
          (copied_return None is)
          (term_is ∙ is) (λ seen' qs z. asks_by (Ret None) is seen' qs tt) n
      tail_good (Ret (Some name)) is n g fst p seen h kind =
          return_some t.clobbered H b end e block s fit free f source at refl link_is ns entry saved kept0 link0 g after fst p seen h
          (copied_return (Some name) is) name
          (term_is ∙ is) kind (live_term f lists live b source at name (subst (λ (x : Term). Contains (read_by_term x) name) (sym is)
          (0, omega arith, refl)))
          (λ seen' qs z. asks_by (Ret (Some name)) is seen' qs tt) n

      -- ---- from the operations of the source on

      dst_kept : (d : Option NameId) → ((name : NameId) → d ≡ Some name → name.0 < length e.names)
          → IfSome d (λ (name : NameId). name.0 < length e.names)
      dst_kept None h = tt
      dst_kept (Some name) h = h name refl

      names_size : length e.names ≡ length f.names
      names_size = length-map f.names kind_of_pair

      ops_good : (n : ℕ) (p : Progress) (seen : Seen) → Goes 0 g1 current0 first' p seen
          → IsGoodFrom n p seen (ops_of (body_ops t current0 first' source.ops ++ tail source.term) g1)
      ops_good n p seen h =
          let names = names_size in
          bodies_good t.clobbered H b end e block s fit free f source at refl link_is ns entry saved kept0 link0 source.ops 0 n g1
          current0 first' p seen (tail source.term)
          (λ m o got. let z : 0 + m ≡ m = omega arith in ap (slice_get source.ops) z ∙ got) (omega arith)
          (λ m o got. dst_kept o.dst (λ name is. let lt = dst_small f b m source o name at got is in omega arith)) h
          (λ n' g' p' seen' h'. tail_good source.term refl n' g' (past_all first' source.ops) p' seen' h'
          (let q = good_block f b source at in q.tests))

      -- ---- all of it

      abbrev Goes0 : ℕ → List ℕ → Progress → Seen → Type 0
      Goes0 fst current p seen = Goes 0 g1 current fst p seen

      goes_from : (p : Progress) (seen : Seen) → Goes0 (first + (length ns + suc (length regs)))
          (first_temps (replicate (length e.names) 0) first ns) p seen
          → Goes0 first' current0 p seen
      goes_from p seen h =
          let x : first + (length ns + suc (length regs)) ≡ first' = (let z = saved_size in omega arith) in
          subst (λ (k : ℕ). Goes0 first' (first_temps (replicate k 0) first ns) p seen) names_size
          (subst (λ (k : ℕ). Goes0 k (first_temps (replicate (length e.names) 0) first ns) p seen) x h)

      live_in_here : (name : NameId) → IsLive f.blocks name b 0 → Contains block.live_in name
      live_in_here = live_in f lists live b source at

      small_here : (i : ℕ) (name : NameId) → slice_get block.live_in i ≡ Some name → name.0 < length e.names
      small_here i name got = let a = live_in_small f lists live b source at i name got in let d = names_size in omega arith

      params_here : (entry ≡ true → b ≡ 0) → entry ≡ true → (i : ℕ) (name : NameId) → slice_get ns i ≡ Some name
          → (name.0 < 6) × (name_kind e.names name ≡ General)
      params_here first_block in_entry i name got =
          let l : IsLive f.blocks name b 0 = (live.exact b name).0 (subst (Contains ns) (get_or_from_slice_get ns i name name got)
          (Contains-get_or ns i name (slice_get_within ns i name got))) in
          let l0 = subst (λ (k : ℕ). IsLive f.blocks name k 0) (first_block in_entry) l in
          (entry_low f name l0, entry_word f name l0)

      pub whole_good : (n : ℕ) (seen : Seen) → (entry ≡ true → b ≡ 0) → length values ≡ first → length seen.made ≡ next
          → Fresh t.clobbered H b end e block s fit seen → IsGoodFrom n (first_progress e entry) seen block.ops
      whole_good n seen first_block long size fresh =
          let p = first_progress e entry in
          let rest = ops_of (body_ops t current0 first' source.ops ++ tail source.term) g1 in
          subst (IsGoodFrom n p seen) (sym ops_are) (by entry refl)
        where
          started : (x : Bool) → 1 ≤ first_cycle t x
          started true = omega arith
          started false = omega arith

          by : (x : Bool) → entry ≡ x → IsGoodFrom n (first_progress e entry) seen whole
          by true is =
              opens_entry t.clobbered H b end e block s fit free f source at refl link_is entry saved regs_kept regs_apart refl values_are
              live_in_here (live.rising b) small_here
              (params_here first_block) first g0 long n (first_progress e entry) seen
              (ops_of (body_ops t current0 first' source.ops ++ tail source.term) g1)
              is (copied_entry is) (placed_entry is) fresh size (started entry) (λ n' p' seen' h. ops_good n' p' seen'
              (goes_from p' seen' h))
          by false is =
              opens_onward t.clobbered H b end e block s fit free f source at refl link_is entry saved regs_kept regs_apart refl
              values_are live_in_here (live.rising b) small_here
              (params_here first_block) first g0 long n (first_progress e entry) seen
              (ops_of (body_ops t current0 first' source.ops ++ tail source.term) g1)
              is (placed_onward is) fresh size (started entry) (λ n' p' seen' h. ops_good n' p' seen' (goes_from p' seen' h))

      -- what the start of a block other than the entry makes
      pub record MadeAt (n j r : ℕ) : Type 0 where
        pub temp : LiveRange
        pub there : slice_get (steps_made b end n block.ops (steps_of e block s (first_progress e entry) block.ops)) j ≡ Some temp
        pub reg : temp.reg ≡ r

      start_rooms_are : (entry ≡ true → b ≡ 0) → entry ≡ false
          → places_from (start_at t.clobbered H b end e block s fit) 0 (new_temps g0 (length start.results)) ≡ bound_rooms e ns
      start_rooms_are first_block not_entry =
          rooms_are t.clobbered H b end e block s fit free f source at refl link_is entry saved regs_kept regs_apart refl values_are
          live_in_here (live.rising b) small_here
          (new_temps g0 (length start.results)) (length-map-range_with_len temp next (length start.results) ∙ start_size)
          ∙ ap (λ (x : Bool). map (λ (name : NameId). if x then slice_index t.args name.0 else slot_of name) ns
          ++ (regs ++ (if x then LINK else s.link) ∷ [])) not_entry

      pub start_made : (entry ≡ true → b ≡ 0) → entry ≡ false → (n j r : ℕ) → slice_get (bound_rooms e ns) j ≡ Some r → MadeAt n j r
      start_made first_block not_entry n j r got =
          let op : ExtOp = record { kind = In; operands = []; results = new_temps g0 (length start.results) } in
          let rs = places_from (start_at t.clobbered H b end e block s fit) 0 op.results in
          let st : Step = record { instr = 0; cycle = 0; choices = []; registers = rs } in
          let i = planned_issue b end n op st in
          let there : slice_get rs j ≡ Some r = ap (λ (xs : List ℕ). slice_get xs j) (start_rooms_are first_block not_entry) ∙ got in
          record {
            temp = made_at i r;
            there = ap (λ (os : List ExtOp). slice_get (steps_made b end n os (steps_of e block s (first_progress e entry) os)) j) ops_are
                ∙ get_left (map (made_at i) rs) _ j (made_at i r) (get_map (made_at i) rs j r there);
            reg = refl;
          }
