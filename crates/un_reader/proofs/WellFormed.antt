-- The parts of lines are well formed exactly where the lines have no fault, and no name is live at the start of the entry.
use Rattle.std.proofs.Common.{◌≡◌, ◌≢◌, ℕ, ◌+◌, ◌<◌, ◌≤◌, ◌==◌, Bool, true, false, List, [], ◌∷◌, Option, Some, None, is_none, unwrap_or}
use Rattle.std.proofs.Common.{map}
use Rattle.std.proofs.Common.{length, slice_get, Contains, cond, if◌then◌else◌, refl, sym, ap, ◌∙◌, arith, subst}
use Rattle.std.specs.List.{AllByRecursion as Each, list_any, flat_map, count_by, position}
use Rattle.std.specs.Option.{option_or, option_to_list}
use Rattle.std.proofs.lemmas.Bool.Decides.{nat_tests}
use Rattle.std.proofs.lemmas.List.{length-map, length-append}
use Rattle.std.proofs.lemmas.List.Sums.{sum_by-cons}
use Rattle.std.proofs.lemmas.List.Elements.{All-from_recursion as Each-All, recursion_from_All as Each-from}
use Rattle.un_faults.specs.Vocabulary.{NameId, Kind, General, SrcOp, SourceBlock, OpLine, TermLine, Line, Func, Block, Operation}
use Rattle.un_faults.specs.Vocabulary.{Terminator}
use Rattle.un_faults.specs.Vocabulary.{Spelled}
use Rattle.un_ir.specs.Live.{IsLive, targets_of, used, kept, read_by_term, read_by, read_at}
use Rattle.un_ir.specs.Names.{names_on_op, names_in_block, appearances, first_appearances}
use Rattle.un_ir.specs.WellFormed.{IsName, IsOfKind, IsGoodBlock, LeadsInside, ReturnAlike, IsWellFormed}
use Rattle.un_ir.specs.declared.function.TheConstants.{OPS}
use Rattle.un_faults.specs.declared.fault.Fault.{Fault}
use Rattle.un_faults.specs.declared.fault.Fault.TheVariants.{NoBlock, FallsOff, UnknownLabel, JumpToEntry, MixedResult}
use Rattle.un_faults.specs.Before.{same_name, names_of, labels_of, name_of, is_operation, before_of}
use Rattle.un_faults.specs.Groups.{Group, grouped}
use Rattle.un_words.specs.LineNames.{names_on}
use Rattle.un_words.specs.Shapes.{line_of}
use Rattle.un_reader.specs.Lines.{HasNoLineFault}
use Rattle.un_faults.specs.TextFaults.{falls_off, jumps_outside, jumps_to_entry, mixed_return, placed, no_block, first_there, shape_fault}
use Rattle.un_reader.specs.Functions.{name_id, op_of, block_of, blocks_of, params_of}
use Rattle.un_live.specs.Tables.{reads}
use Rattle.un_live.proofs.LiveLaws.{reads-Contains, Contains-reads}
use Rattle.un_reader.proofs.ReadLaws.{kept_all}
use Rattle.un_words.proofs.Each.{Each-weaken, Each-both, Each-map, Each-unmap, Each-append, Each-left, Each-right, Each-unflat, Each-at}
use Rattle.un_words.proofs.Each.{Each-in, EachPair, EachPair-AllPairs, EachPair-from, EachPair-map, EachPair-unmap}
use Rattle.un_faults.proofs.FirstNames.{IsPlaced, in_numbered, name_placed, Each-numbered, numbered_apart}
use Rattle.un_reader.proofs.NameNumbers.{numbers_first}
use Rattle.un_words.proofs.TokenFacts.{IfThere, IsSpelled}
use Rattle.un_words.proofs.LineShapes.{IsShaped}
use Rattle.un_reader.proofs.LineTests.{all_shaped, all_keep, all_good}
use Rattle.un_faults.proofs.Rules.{AreApart, IsGoodBefore, IsGoodLine, AreFaultless, lines_faultless, behind_all}
use Rattle.un_reader.proofs.TextLines.{solid, text_lines, group_lines, laid, Each-solid, names_solid, ops_solid, group_labels, EachOf}
use Rattle.un_reader.proofs.TextLines.{from_groups, to_groups, count_groups, text_names, groups_back, text_order}
use Rattle.un_reader.proofs.Fits.{IsKept, IsAsked, IsPlain, AreFit, lines_fit, fit_lines}
use Rattle.un_reader.proofs.Whole.{IsInside, HasTarget, StaysInside, has_target, stays_inside, none_passes, passes_none, last_ends}
use Rattle.un_reader.proofs.Whole.{last_well}
use Rattle.un_reader.proofs.Whole.{well_last, blocks_lead, lead_blocks, AlikeWith, all_alike, alike_all, blocks_alike, alike_blocks}

-- ---- the whole has no fault

or_none : {X : Type 0} (a b : Option X) → option_or a b ≡ None → (a ≡ None) × (b ≡ None)
or_none None b h = (refl, h)
or_none (Some x) b h = absurd (cc h)

unplaced : (fault : Fault) (place : Option ℕ) → placed fault place ≡ None → place ≡ None
unplaced fault None h = refl
unplaced fault (Some k) h = absurd (cc h)

-- no test of the whole finds a fault
pub record IsWhole (lines : List Line) : Type 0 where
  pub blocks : 0 < length (labels_of lines)
  pub ends : falls_off lines ≡ None
  pub outside : position (jumps_outside (labels_of lines)) lines ≡ None
  pub entry : position (jumps_to_entry (labels_of lines)) lines ≡ None
  pub alike : mixed_return lines ≡ None

some_block : (lines : List Line) → no_block lines ≡ None → 0 < length (labels_of lines)
some_block lines h = by (labels_of lines) h
  where
    by : (labels : List (List ℕ))
        → (if length labels == 0 then Some (let r : ℕ × Fault = (length lines + 1, NoBlock) in r) else None) ≡ None → 0 < length labels
    by [] e = absurd (cc e)
    by (label ∷ labels) e = omega arith

is_whole : (lines : List Line) → shape_fault lines ≡ None → IsWhole lines
is_whole lines h =
    let outside = placed UnknownLabel (position (jumps_outside (labels_of lines)) lines) in
    let entry = placed JumpToEntry (position (jumps_to_entry (labels_of lines)) lines) in
    let mixed = placed MixedResult (mixed_return lines) in
    let a = or_none (no_block lines) (first_there (placed FallsOff (falls_off lines) ∷ outside ∷ entry ∷ mixed ∷ [])) h in
    let b = or_none (placed FallsOff (falls_off lines)) (first_there (outside ∷ entry ∷ mixed ∷ [])) a.1 in
    let c = or_none outside (first_there (entry ∷ mixed ∷ [])) b.1 in
    let d = or_none entry (first_there (mixed ∷ [])) c.1 in
    let e = or_none mixed None d.1 in
    record {
      blocks = some_block lines a.0;
      ends = unplaced FallsOff (falls_off lines) b.0;
      outside = unplaced UnknownLabel (position (jumps_outside (labels_of lines)) lines) c.0;
      entry = unplaced JumpToEntry (position (jumps_to_entry (labels_of lines)) lines) d.0;
      alike = unplaced MixedResult (mixed_return lines) e.0;
    }

whole_none : (lines : List Line) → IsWhole lines → shape_fault lines ≡ None
whole_none lines w =
    let some = w.blocks in
    let count : (length (labels_of lines) == 0) ≡ false = grind (arith, nat_tests) in
    let ends = w.ends in
    let outside = w.outside in
    let entry = w.entry in
    let alike = w.alike in
    rw (count, ends, outside, entry, alike) refl

-- ---- live names

-- what holds of the names of a block holds of those that are read there
read_holds : (P : NameId → Type 0) (block : SourceBlock) (k : ℕ) (name : NameId) → Each P (names_in_block block)
    → Contains (read_at block k) name → P name
read_holds P block k name e has = by (slice_get block.ops k) refl has
  where
    by : (o : Option SrcOp) → slice_get block.ops k ≡ o → Contains (read_by o block.term) name → P name
    by None got c = Each-in P (read_by_term block.term) name (Each-right P (flat_map names_on_op block.ops) (read_by_term block.term) e) c
    by (Some o) got c =
        let ops : Each (λ (x : SrcOp). Each P (names_on_op x)) block.ops =
        Each-unflat P names_on_op block.ops (Each-left P (flat_map names_on_op block.ops) (read_by_term block.term) e) in
        let own : Each P (names_on_op o) = Each-at (λ (x : SrcOp). Each P (names_on_op x)) block.ops k o ops got in
        Each-in P o.srcs name (Each-right P (option_to_list o.dst) o.srcs own) c

live_holds : (P : NameId → Type 0) (blocks : List SourceBlock) (name : NameId)
    → Each (λ (block : SourceBlock). Each P (names_in_block block)) blocks → (b k : ℕ) → IsLive blocks name b k → P name
live_holds P blocks name e b k (used b2 k2 block got h has) =
    read_holds P block k2 name (Each-at (λ (x : SourceBlock). Each P (names_in_block x)) blocks b2 block e got) has
live_holds P blocks name e b k (kept b2 k2 block c l got h na nx live) = live_holds P blocks name e c l live

-- ---- names

line_spelled : (line : Line) → IsShaped line → Each IsSpelled (names_on line)
line_spelled (Func name params) s = s.1
line_spelled (Operation o) s = s.spelled
line_spelled (Terminator term) s = s
line_spelled _ s = tt

lines_spelled : (lines : List Line) → Each IsShaped lines → Each IsSpelled (flat_map names_on lines)
lines_spelled [] s = tt
lines_spelled (line ∷ lines) s =
    Each-append IsSpelled (names_on line) (flat_map names_on lines) (line_spelled line s.0) (lines_spelled lines s.1)

-- the names on lines have their places among them
pub all_placed : (lines : List Line) → Each (λ (x : Spelled). IsPlaced (same_name x) x (names_of lines)) (flat_map names_on lines)
all_placed lines =
    Each-weaken (λ (x : Spelled). list_any (same_name x) (names_of lines) ≡ true)
    (λ (x : Spelled). IsPlaced (same_name x) x (names_of lines))
    (λ x h. name_placed (names_of lines) x h) (flat_map names_on lines) (in_numbered [] (flat_map names_on lines))

kept_names : (lines : List Line) → Each (λ (l : Line). Each (IsKept (names_of lines)) (names_on l)) lines
kept_names lines = Each-unflat (IsKept (names_of lines)) names_on lines
    (Each-weaken (λ (x : Spelled). IsPlaced (same_name x) x (names_of lines)) (IsKept (names_of lines)) (λ x p. p.got)
    (flat_map names_on lines) (all_placed lines))

-- ---- blocks

-- as many operations in the blocks as in their lines
block_ops : (names : List Spelled) (labels : List (List ℕ)) (gs : List Group)
    → length (flat_map (λ (b : SourceBlock). b.ops) (map (block_of names labels) gs)) ≡ count_by is_operation (group_lines gs)
block_ops names labels gs = by gs ∙ sym (count_groups gs)
  where
    by : (hs : List Group) → length (flat_map (λ (b : SourceBlock). b.ops) (map (block_of names labels) hs))
        ≡ length (flat_map (λ (g : Group). g.ops) hs)
    by [] = refl
    by (h ∷ hs) =
        let ops = length-map h.ops (op_of names) in
        let there = length-append (map (op_of names) h.ops)
        (flat_map (λ (b : SourceBlock). b.ops) (map (block_of names labels) hs)) in
        let here = length-append h.ops (flat_map (λ (g : Group). g.ops) hs) in
        let later = by hs in
        omega (arith, ops, there, here, later)

count_text : (name : List ℕ) (params : List Spelled) (gs : List Group)
    → count_by is_operation (text_lines name params gs) ≡ count_by is_operation (group_lines gs)
count_text name params gs =
    let here = sum_by-cons (λ (l : Line). cond (is_operation l) 1 0) (Func name params) (group_lines gs) in omega (arith, here)

-- ---- from lines without a fault

module _ (all : List (List ℕ)) (good : HasNoLineFault all) (whole : shape_fault (map line_of all) ≡ None) where
  abbrev lines : List Line
  lines = map line_of all

  abbrev names : List Spelled
  names = names_of lines

  abbrev labels : List (List ℕ)
  labels = labels_of lines

  abbrev groups : List Group
  groups = grouped lines

  abbrev params : List NameId
  params = map (name_id names) (params_of lines)

  abbrev blocks : List SourceBlock
  blocks = blocks_of names labels lines

  abbrev text : List Line
  text = text_lines (unwrap_or (name_of lines) []) (params_of lines) groups

  shaped : Each IsShaped lines
  shaped = all_shaped all good

  last : IsGoodBefore (before_of lines)
  last = all_good all good

  is_of : IsWhole lines
  is_of = is_whole lines whole

  func_there : is_none (name_of lines) ≡ false
  func_there = by (name_of lines) refl
    where
      by : (o : Option (List ℕ)) → name_of lines ≡ o → is_none o ≡ false
      by None e =
          let none = ap length ((kept_all all good).named e) in let some = is_of.blocks in absurd (omega (arith, none, some))
      by (Some name) e = refl

  is_text : solid lines ≡ text
  is_text = laid (before_of []) lines (all_keep all good).order refl refl func_there

  -- what holds of each line holds of each that is not blank
  in_text : (P : Line → Type 0) → Each P lines → Each P text
  in_text P e = subst (Each P) is_text (Each-solid P lines e)

  in_groups : (P : Line → Type 0) → Each P lines → Each (EachOf P) groups
  in_groups P e = from_groups P groups (in_text P e).1

  fit : AreFit names labels (unwrap_or (name_of lines) []) (params_of lines) groups
  fit = lines_fit names labels (unwrap_or (name_of lines) []) (params_of lines) groups (in_text (IsAsked names labels) (asked lines shaped
      (all_keep all good).each (kept_names lines)))
    where
      asked : (ls : List Line) → Each IsShaped ls → Each IsGoodLine ls → Each (λ (l : Line). Each (IsKept names) (names_on l)) ls
          → Each (IsAsked names labels) ls
      asked [] s g k = tt
      asked (l ∷ ls) s g k = (record { shaped = s.0; good = g.0; kept = k.0 }, asked ls s.1 g.1 k.1)

  group_count : length groups ≡ length labels
  group_count = sym (length-map groups (λ (g : Group). g.label)) ∙ ap length (group_labels lines)

  block_count : length blocks ≡ length labels
  block_count = length-map groups (block_of names labels) ∙ group_count

  labels_apart : EachPair (λ (a b : SourceBlock). a.label ≢ b.label) blocks
  labels_apart =
      EachPair-map (λ (a b : SourceBlock). a.label ≢ b.label) (block_of names labels) groups
      (EachPair-unmap (λ (x y : List ℕ). x ≢ y) (λ (g : Group). g.label) groups (subst AreApart (sym (group_labels lines)) last.apart))

  all_leads : (b : ℕ) (block : SourceBlock) → slice_get blocks b ≡ Some block → LeadsInside blocks b block.term
  all_leads b block got =
      let stays = Each-both (λ (l : Line). jumps_outside labels l ≡ false) (λ (l : Line). jumps_to_entry labels l ≡ false) lines
      (none_passes (jumps_outside labels) lines is_of.outside) (none_passes (jumps_to_entry labels) lines is_of.entry) in
      let targets = Each-weaken (EachOf (StaysInside labels)) (λ (g : Group). IfThere (HasTarget labels) g.term) (λ g e. by g.term e.term)
      groups (in_groups (StaysInside labels) stays) in
      let some : groups ≢ [] = λ e. (let count = group_count in let more = is_of.blocks in let none = ap length e in
      omega (arith, count, more, none)) in
      let same = group_count in
      let ends = last_well lines some is_of.ends in
      let inside = blocks_lead names labels 0 groups (omega (arith, same)) targets false ends b block got in
      Each-All (λ (c : ℕ). (0 < c) × (c < length blocks)) (targets_of b block.term)
      (subst (λ (n : ℕ). Each (IsInside n) (targets_of b block.term)) (sym block_count)
      (subst (λ (n : ℕ). Each (IsInside (length labels)) (targets_of n block.term)) (omega arith) inside))
    where
      by : (term : Option TermLine) → IfThere (λ (t : TermLine). StaysInside labels (Terminator t)) term → IfThere (HasTarget labels) term
      by None t = tt
      by (Some term) t = has_target labels term t

  all_returns : EachPair ReturnAlike blocks
  all_returns =
      let a = all_alike lines is_of.alike in
      blocks_alike names labels a.valued groups (Each-weaken (EachOf (AlikeWith a.valued))
      (λ (g : Group). IfThere (λ (t : TermLine). AlikeWith a.valued (Terminator t)) g.term) (λ g e. e.term) groups
      (in_groups (AlikeWith a.valued) a.alike))

  in_order : appearances params blocks ≡ map (name_id names) (flat_map names_on lines)
  in_order =
      text_names names labels (unwrap_or (name_of lines) []) (params_of lines) groups
      ∙ ap (map (name_id names)) (ap (flat_map names_on) (sym is_text) ∙ names_solid lines)

  below_count : Each (λ (n : NameId). n.0 < length names) (appearances params blocks)
  below_count = subst (Each (λ (n : NameId). n.0 < length names)) (sym in_order)
      (Each-map (λ (n : NameId). n.0 < length names) (name_id names) (flat_map names_on lines)
      (Each-weaken (λ (x : Spelled). IsPlaced (same_name x) x names) (λ (x : Spelled). (name_id names x).0 < length names) (λ x p. p.below)
      (flat_map names_on lines) (all_placed lines)))

  live_below : (name : NameId) → IsLive blocks name 0 0 → name.0 < length names
  live_below name live =
      live_holds (λ (n : NameId). n.0 < length names) blocks name
      (Each-unflat (λ (n : NameId). n.0 < length names) names_in_block blocks
      (Each-right (λ (n : NameId). n.0 < length names) params (flat_map names_in_block blocks) below_count)) 0 0 live

  few_block_ops : length (flat_map (λ (b : SourceBlock). b.ops) blocks) ≤ OPS
  few_block_ops =
      let counted = block_ops names labels groups ∙ sym (count_text (unwrap_or (name_of lines) []) (params_of lines) groups)
      ∙ ap (count_by is_operation) (sym is_text) ∙ ops_solid lines in
      let few = last.few_ops in
      omega (arith, counted, few)

  -- what lines without a fault are is well formed, where no name is live at the start of the entry but parameters
  pub well_formed : ((name : NameId) → name.0 < length names → (Contains params name → ⊥) → IsLive blocks name 0 0 → ⊥)
      → IsWellFormed (unwrap_or (name_of lines) []) params names blocks
  well_formed none_live =
      let param = fit.params_good in
      let count = block_count in
      record {
        named = fit.named;
        params_are_words = Each-All (IsOfKind names General) params param.words;
        few_params = let same = length-map (params_of lines) (name_id names) in let few = param.few in omega (arith, same, few);
        distinct_params = EachPair-AllPairs (λ (a b : NameId). a ≢ b) params param.apart;
        all_named =
            Each-All (λ (n : List ℕ × Kind). IsName n.0) names
            (Each-numbered IsSpelled [] (flat_map names_on lines) tt (lines_spelled lines shaped));
        few_names = last.few_names;
        distinct_names = EachPair-AllPairs (λ (a b : List ℕ × Kind). a ≢ b) names (numbered_apart [] (flat_map names_on lines) tt);
        numbered = ap first_appearances in_order ∙ numbers_first (flat_map names_on lines);
        entry = let some = is_of.blocks in omega (arith, count, some);
        few_blocks = let few = last.few_labels in omega (arith, count, few);
        distinct_labels = EachPair-AllPairs (λ (a b : SourceBlock). a.label ≢ b.label) blocks labels_apart;
        good_blocks = Each-All (IsGoodBlock names) blocks (Each-map (IsGoodBlock names) (block_of names labels) groups fit.blocks);
        few_ops = few_block_ops;
        leads = all_leads;
        alike = EachPair-AllPairs ReturnAlike blocks all_returns;
        live = λ name live. by name live (reads name params) refl;
      }
    where
      by : (name : NameId) → IsLive blocks name 0 0 → (v : Bool) → reads name params ≡ v → Contains params name
      by name live true e = reads-Contains name params e
      by name live false e = absurd (none_live name (live_below name live) (λ has. cc (sym e ∙ Contains-reads name params has)) live)

-- ---- to lines without a fault

module _ (name : List ℕ) (params : List Spelled) (gs : List Group) (plain : Each (λ (g : Group). g.freq.negative ≡ false) gs) where
  abbrev written : List Line
  written = text_lines name params gs

  abbrev their_names : List Spelled
  their_names = names_of written

  abbrev their_labels : List (List ℕ)
  their_labels = map (λ (g : Group). g.label) gs

  labels_back : labels_of written ≡ their_labels
  labels_back = sym (group_labels written) ∙ ap (map (λ (g : Group). g.label)) (groups_back gs)

  module _ (w : IsWellFormed name (map (name_id their_names) params) their_names (map (block_of their_names their_labels) gs)) where
    group_number : length gs ≡ length their_labels
    group_number = sym (length-map gs (λ (g : Group). g.label))

    block_number : length (map (block_of their_names their_labels) gs) ≡ length gs
    block_number = length-map gs (block_of their_names their_labels)

    keep_all : Each IsGoodLine written
    keep_all = fit_lines their_names their_labels name params gs (record {
      named = w.named;
      params_good = record {
        words = Each-from (IsOfKind their_names General) (map (name_id their_names) params) w.params_are_words;
        few = let same = length-map params (name_id their_names) in let few = w.few_params in omega (arith, same, few);
        apart = EachPair-from (λ (a b : NameId). a ≢ b) (map (name_id their_names) params) w.distinct_params;
      };
      blocks = Each-unmap (IsGoodBlock their_names) (block_of their_names their_labels) gs
          (Each-from (IsGoodBlock their_names) (map (block_of their_names their_labels) gs) w.good_blocks);
    }) (tt, to_groups IsPlain gs (Each-weaken (λ (g : Group). g.freq.negative ≡ false) (EachOf IsPlain) by gs plain)) (kept_names written)
      where
        ops : (os : List OpLine) → Each (λ (o : OpLine). IsPlain (Operation o)) os
        ops [] = tt
        ops (o ∷ os) = (tt, ops os)

        term : (t : Option TermLine) → IfThere (λ (x : TermLine). IsPlain (Terminator x)) t
        term None = tt
        term (Some t) = tt

        by : (g : Group) → g.freq.negative ≡ false → EachOf IsPlain g
        by g e = record { block = e; ops = ops g.ops; term = term g.term }

    good_last : IsGoodBefore (before_of written)
    good_last = record {
      apart = subst AreApart (sym labels_back) (EachPair-map (λ (a b : List ℕ). a ≢ b) (λ (g : Group). g.label) gs
          (EachPair-unmap (λ (a b : SourceBlock). a.label ≢ b.label) (block_of their_names their_labels) gs
          (EachPair-from (λ (a b : SourceBlock). a.label ≢ b.label) (map (block_of their_names their_labels) gs) w.distinct_labels)));
      few_labels = let same = ap length labels_back in let a = group_number in let b = block_number in let few = w.few_blocks in
          omega (arith, same, a, b, few);
      few_ops = let same = block_ops their_names their_labels gs in let all = count_text name params gs in let few = w.few_ops in
          omega (arith, same, all, few);
      few_names = w.few_names;
    }

    -- no line has a fault
    pub text_faultless : AreFaultless (before_of []) written
    text_faultless = lines_faultless (before_of []) written
        (record { each = keep_all; order = text_order name params gs; last = subst IsGoodBefore (sym (behind_all written)) good_last })

    -- what holds of no line but a terminator, and of none of these
    spared : (P : Line → Type 0) → P (Func name params) → ((label : List ℕ) (freq : _) → P (Block label freq))
        → ((o : OpLine) → P (Operation o))
        → Each (λ (g : Group). IfThere (λ (t : TermLine). P (Terminator t)) g.term) gs → Each P written
    spared P func block op terms = (
      func,
      to_groups P gs (Each-weaken (λ (g : Group). IfThere (λ (t : TermLine). P (Terminator t)) g.term)
          (EachOf P) (λ g t. record { block = block g.label g.freq; ops = ops g.ops; term = t }) gs terms),
    )
      where
        ops : (os : List OpLine) → Each (λ (o : OpLine). P (Operation o)) os
        ops [] = tt
        ops (o ∷ os) = (op o, ops os)

    leads_there : Each (λ (g : Group). IfThere (HasTarget their_labels) g.term) gs × (last_ends gs ≡ true)
    leads_there =
        let both = lead_blocks their_names their_labels 0 gs (let same = group_number in omega (arith, same)) (λ k block got.
        subst (λ (n : ℕ). Each (IsInside (length their_labels)) (targets_of n block.term)) (omega arith)
        (subst (λ (n : ℕ). Each (IsInside n) (targets_of k block.term)) (block_number ∙ group_number)
        (Each-from (λ (c : ℕ). (0 < c) × (c < length (map (block_of their_names their_labels) gs))) (targets_of k block.term)
        (w.leads k block got)))) in
        (both.0, both.1 false (λ none. absurd (let some = w.entry in let same = block_number in omega (arith, some, same, none))))

    stays : Each (StaysInside their_labels) written
    stays = spared (StaysInside their_labels) (refl, refl) (λ l f. (refl, refl)) (λ o. (refl, refl))
        (Each-weaken (λ (g : Group). IfThere (HasTarget their_labels) g.term)
        (λ (g : Group). IfThere (λ (t : TermLine). StaysInside their_labels (Terminator t)) g.term) (λ g. by g.term) gs leads_there.0)
      where
        by : (term : Option TermLine) → IfThere (HasTarget their_labels) term
            → IfThere (λ (t : TermLine). StaysInside their_labels (Terminator t)) term
        by None t = tt
        by (Some term) t = stays_inside their_labels term t

    none_there : (p : List (List ℕ) → Line → Bool) → Each (λ (l : Line). p their_labels l ≡ false) written
        → position (p (labels_of written)) written ≡ None
    none_there p e =
        subst (λ (ls : List (List ℕ)). position (p ls) written ≡ None) (sym labels_back) (passes_none (p their_labels) written e)

    -- and the whole has none
    pub text_whole : shape_fault written ≡ None
    text_whole =
        let a = alike_blocks their_names their_labels gs (EachPair-from ReturnAlike (map (block_of their_names their_labels) gs) w.alike) in
        let ends : last_ends (grouped written) ≡ true = ap last_ends (groups_back gs) ∙ leads_there.1 in
        whole_none written (record {
          blocks = let some = w.entry in let same = ap length labels_back in let a = group_number in let b = block_number in
              omega (arith, some, same, a, b);
          ends = well_last written ends;
          outside = none_there jumps_outside
              (Each-weaken (StaysInside their_labels) (λ (l : Line). jumps_outside their_labels l ≡ false) (λ l s. s.0) written stays);
          entry = none_there jumps_to_entry
              (Each-weaken (StaysInside their_labels) (λ (l : Line). jumps_to_entry their_labels l ≡ false) (λ l s. s.1) written stays);
          alike = alike_all written (record {
            valued = a.valued;
            alike = spared (AlikeWith a.valued) (λ x e. absurd (cc e)) (λ l f x e. absurd (cc e)) (λ o x e. absurd (cc e)) a.alike;
          });
        })
