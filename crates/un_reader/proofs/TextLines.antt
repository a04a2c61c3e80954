-- Lines in order, without the blank ones, are a `func` line and then the lines of each block.
use Rattle.std.proofs.Common.{◌≡◌, ℕ, ◌+◌, ◌++◌, ◌==◌, Bool, true, false, List, [], ◌∷◌, Option, Some, None, is_some, is_none, unwrap_or}
use Rattle.std.proofs.Common.{map, length}
use Rattle.std.proofs.Common.{refl, sym, ap, ◌∙◌, arith, append-nil, append_assoc, cond}
use Rattle.std.specs.List.{AllByRecursion as Each, flat_map, count_by}
use Rattle.std.specs.Option.{option_map, option_to_list}
use Rattle.std.proofs.lemmas.Bool.Decides.{nat_tests}
use Rattle.std.proofs.lemmas.List.{length-append, map-append}
use Rattle.std.proofs.lemmas.List.Sums.{sum_by-cons}
use Rattle.un_faults.specs.Vocabulary.{OpLine, TermLine, Ret, Line, Blank, Func, Block, Operation, Terminator, Spelled}
use Rattle.un_ir.specs.Live.{read_by_term}
use Rattle.un_ir.specs.Names.{names_on_op, names_in_block, appearances}
use Rattle.un_faults.specs.declared.before.Before.{Before}
use Rattle.un_faults.specs.Before.{labels_of, name_of, is_operation, before_of}
use Rattle.un_words.specs.LineNames.{names_on, names_on_term}
use Rattle.un_faults.specs.Groups.{Group, ops_of, term_of, grouped}
use Rattle.un_faults.specs.Noted.{noted}
use Rattle.un_reader.specs.Functions.{name_id, op_of, term_by, block_of, params_of}
use Rattle.un_words.proofs.TokenFacts.{IfThere}
use Rattle.un_faults.proofs.Rules.{IsOpen, AreInOrder, still_named}

-- ---- the lines of blocks

-- operations and a terminator, where there is one, and then other lines
abbrev pub body_lines : List OpLine → Option TermLine → List Line → List Line
body_lines [] None rest = rest
body_lines [] (Some term) rest = Terminator term ∷ rest
body_lines (o ∷ ops) term rest = Operation o ∷ body_lines ops term rest

abbrev pub group_lines : List Group → List Line
group_lines [] = []
group_lines (g ∷ gs) = Block g.label g.freq ∷ body_lines g.ops g.term (group_lines gs)

abbrev pub text_lines : List ℕ → List Spelled → List Group → List Line
text_lines name params gs = Func name params ∷ group_lines gs

-- all but blank lines
abbrev pub solid : List Line → List Line
solid [] = []
solid (Blank ∷ lines) = solid lines
solid (line ∷ lines) = line ∷ solid lines

-- ---- what lines in order are

-- the lines that are left of a block, by whether it has ended, and those of later blocks
abbrev rest_lines : Bool → List Line → List Line
rest_lines true lines = group_lines (grouped lines)
rest_lines false lines = body_lines (ops_of lines) (term_of lines) (group_lines (grouped lines))

still_begun : (labels more : List (List ℕ)) → (length labels == 0) ≡ false → (length (labels ++ more) == 0) ≡ false
still_begun [] more h = absurd (cc h)
still_begun (l ∷ labels) more h = grind (arith, nat_tests)

last_begun : (labels : List (List ℕ)) (label : List ℕ) → (length (labels ++ label ∷ []) == 0) ≡ false
last_begun [] label = grind (arith, nat_tests)
last_begun (l ∷ labels) label = grind (arith, nat_tests)

no_other : {X : Type 0} (o : Option X) → is_some o ≡ false → is_none o ≡ false → ⊥
no_other None h k = cc k
no_other (Some x) h k = cc h

in_block : (b : Before) (lines : List Line) (e : Bool) → b.ended ≡ e → AreInOrder b lines → is_none b.name ≡ false
    → (length b.labels == 0) ≡ false → solid lines ≡ rest_lines e lines
in_block b [] true is order named begun = refl
in_block b [] false is order named begun = refl
in_block b (Blank ∷ lines) true is order named begun =
    in_block (noted b Blank) lines true is order.1 (still_named b Blank named) (still_begun b.labels [] begun)
in_block b (Blank ∷ lines) false is order named begun =
    in_block (noted b Blank) lines false is order.1 (still_named b Blank named) (still_begun b.labels [] begun)
in_block b (Func name params ∷ lines) e is order named begun = absurd (no_other b.name order.0 named)
in_block b (Block label freq ∷ lines) true is order named begun =
    ap (λ (ls : List Line). Block label freq ∷ ls) (in_block (noted b (Block label freq)) lines false refl order.1
    (still_named b (Block label freq) named) (last_begun b.labels label))
in_block b (Block label freq ∷ lines) false is order named begun =
    ap (λ (ls : List Line). Block label freq ∷ ls) (in_block (noted b (Block label freq)) lines false refl order.1
    (still_named b (Block label freq) named) (last_begun b.labels label))
in_block b (Operation o ∷ lines) false is order named begun =
    ap (λ (ls : List Line). Operation o ∷ ls) (in_block (noted b (Operation o)) lines false is order.1
    (still_named b (Operation o) named) (still_begun b.labels [] begun))
in_block b (Terminator term ∷ lines) false is order named begun =
    ap (λ (ls : List Line). Terminator term ∷ ls) (in_block (noted b (Terminator term)) lines true refl order.1
    (still_named b (Terminator term) named) (still_begun b.labels [] begun))
in_block b (_ ∷ lines) true is order named begun = absurd (let unended = order.0.unended in cc)

before_block : (b : Before) (lines : List Line) → AreInOrder b lines → is_none b.name ≡ false → b.labels ≡ []
    → solid lines ≡ group_lines (grouped lines)
before_block b [] order named none = refl
before_block b (Blank ∷ lines) order named none =
    before_block (noted b Blank) lines order.1 (still_named b Blank named) (append-nil b.labels ∙ none)
before_block b (Func name params ∷ lines) order named none = absurd (no_other b.name order.0 named)
before_block b (Block label freq ∷ lines) order named none =
    ap (λ (ls : List Line). Block label freq ∷ ls) (in_block (noted b (Block label freq)) lines false refl order.1
    (still_named b (Block label freq) named) (last_begun b.labels label))
before_block b (_ ∷ lines) order named none = absurd (let begun = order.0.begun in let wrong = rw none at begun in cc wrong)

-- lines in order, with a name
pub laid : (b : Before) (lines : List Line) → AreInOrder b lines → b.name ≡ None → b.labels ≡ [] → is_none (name_of lines) ≡ false
    → solid lines ≡ text_lines (unwrap_or (name_of lines) []) (params_of lines) (grouped lines)
laid b [] order unnamed none named = absurd (cc named)
laid b (Blank ∷ lines) order unnamed none named =
    laid (noted b Blank) lines order.1 (rw unnamed refl) (append-nil b.labels ∙ none) named
laid b (Func name params ∷ lines) order unnamed none named =
    ap (λ (ls : List Line). Func name params ∷ ls)
    (before_block (noted b (Func name params)) lines order.1 (rw unnamed refl) (append-nil b.labels ∙ none))
laid b (Block label freq ∷ lines) order unnamed none named = absurd (let may = order.0 in let wrong = rw unnamed at may in cc wrong)
laid b (_ ∷ lines) order unnamed none named = absurd (let may = order.0.named in let wrong = rw unnamed at may in cc wrong)

-- ---- what blank lines leave

pub Each-solid : (P : Line → Type 0) (lines : List Line) → Each P lines → Each P (solid lines)
Each-solid P [] e = tt
Each-solid P (Blank ∷ lines) e = Each-solid P lines e.1
Each-solid P (_ ∷ lines) e = (e.0, Each-solid P lines e.1)

pub names_solid : (lines : List Line) → flat_map names_on (solid lines) ≡ flat_map names_on lines
names_solid [] = refl
names_solid (Blank ∷ lines) = names_solid lines
names_solid (line ∷ lines) = ap (λ (ns : List Spelled). names_on line ++ ns) (names_solid lines)

pub ops_solid : (lines : List Line) → count_by is_operation (solid lines) ≡ count_by is_operation lines
ops_solid [] = refl
ops_solid (Blank ∷ lines) = ops_solid lines
ops_solid (line ∷ lines) =
    let one : Line → ℕ = λ l. cond (is_operation l) 1 0 in
    let here = sum_by-cons one line (solid lines) in
    let there = sum_by-cons one line lines in
    let later = ops_solid lines in
    cc

-- each block has its label
pub group_labels : (lines : List Line) → map (λ (g : Group). g.label) (grouped lines) ≡ labels_of lines
group_labels [] = refl
group_labels (Block label freq ∷ lines) = ap (λ (ls : List (List ℕ)). label ∷ ls) (group_labels lines)
group_labels (_ ∷ lines) = group_labels lines

-- ---- what the lines of blocks have

-- the lines of a block all do
pub record EachOf (P : Line → Type 0) (g : Group) : Type 0 where
  pub block : P (Block g.label g.freq)
  pub ops : Each (λ (o : OpLine). P (Operation o)) g.ops
  pub term : IfThere (λ (t : TermLine). P (Terminator t)) g.term

module _ (P : Line → Type 0) where
  from_body : (ops : List OpLine) (term : Option TermLine) (rest : List Line) → Each P (body_lines ops term rest)
      → Each (λ (o : OpLine). P (Operation o)) ops × IfThere (λ (t : TermLine). P (Terminator t)) term × Each P rest
  from_body [] None rest e = (tt, tt, e)
  from_body [] (Some term) rest e = (tt, e.0, e.1)
  from_body (o ∷ ops) term rest e = let later = from_body ops term rest e.1 in ((e.0, later.0), later.1, later.2)

  to_body : (ops : List OpLine) (term : Option TermLine) (rest : List Line) → Each (λ (o : OpLine). P (Operation o)) ops
      → IfThere (λ (t : TermLine). P (Terminator t)) term → Each P rest → Each P (body_lines ops term rest)
  to_body [] None rest o t r = r
  to_body [] (Some term) rest o t r = (t, r)
  to_body (op ∷ ops) term rest o t r = (o.0, to_body ops term rest o.1 t r)

  pub from_groups : (gs : List Group) → Each P (group_lines gs) → Each (EachOf P) gs
  from_groups [] e = tt
  from_groups (g ∷ gs) e =
      let b = from_body g.ops g.term (group_lines gs) e.1 in (record { block = e.0; ops = b.0; term = b.1 }, from_groups gs b.2)

  pub to_groups : (gs : List Group) → Each (EachOf P) gs → Each P (group_lines gs)
  to_groups [] e = tt
  to_groups (g ∷ gs) e = (e.0.block, to_body g.ops g.term (group_lines gs) e.0.ops e.0.term (to_groups gs e.1))

count_body : (ops : List OpLine) (term : Option TermLine) (rest : List Line)
    → count_by is_operation (body_lines ops term rest) ≡ length ops + count_by is_operation rest
count_body [] None rest = omega arith
count_body [] (Some term) rest =
    let one : Line → ℕ = λ l. cond (is_operation l) 1 0 in let here = sum_by-cons one (Terminator term) rest in omega (arith, here)
count_body (o ∷ ops) term rest =
    let one : Line → ℕ = λ l. cond (is_operation l) 1 0 in
    let here = sum_by-cons one (Operation o) (body_lines ops term rest) in
    let later = count_body ops term rest in
    omega (arith, here, later)

-- as many operations as there are lines of operations
pub count_groups : (gs : List Group) → count_by is_operation (group_lines gs) ≡ length (flat_map (λ (g : Group). g.ops) gs)
count_groups [] = refl
count_groups (g ∷ gs) =
    let one : Line → ℕ = λ l. cond (is_operation l) 1 0 in
    let here = sum_by-cons one (Block g.label g.freq) (body_lines g.ops g.term (group_lines gs)) in
    let body = count_body g.ops g.term (group_lines gs) in
    let later = count_groups gs in
    let all = length-append g.ops (flat_map (λ (h : Group). h.ops) gs) in
    omega (arith, here, body, later, all)

-- ---- names

-- the names on the lines of a block
abbrev pub names_on_line : OpLine → List Spelled
names_on_line o = option_to_list o.dst ++ o.srcs

abbrev pub names_at_end : Option TermLine → List Spelled
names_at_end None = []
names_at_end (Some term) = names_on_term term

abbrev pub group_names : Group → List Spelled
group_names g = flat_map names_on_line g.ops ++ names_at_end g.term

body_names : (ops : List OpLine) (term : Option TermLine) (rest : List Line)
    → flat_map names_on (body_lines ops term rest) ≡ (flat_map names_on_line ops ++ names_at_end term) ++ flat_map names_on rest
body_names [] None rest = refl
body_names [] (Some term) rest = refl
body_names (o ∷ ops) term rest =
    ap (λ (ns : List Spelled). names_on_line o ++ ns) (body_names ops term rest)
    ∙ sym (append_assoc (names_on_line o) (flat_map names_on_line ops ++ names_at_end term) (flat_map names_on rest))
    ∙ ap (λ (ns : List Spelled). ns ++ flat_map names_on rest)
    (sym (append_assoc (names_on_line o) (flat_map names_on_line ops) (names_at_end term)))

pub names_of_groups : (gs : List Group) → flat_map names_on (group_lines gs) ≡ flat_map group_names gs
names_of_groups [] = refl
names_of_groups (g ∷ gs) =
    body_names g.ops g.term (group_lines gs) ∙ ap (λ (ns : List Spelled). group_names g ++ ns) (names_of_groups gs)

module _ (names : List Spelled) (labels : List (List ℕ)) where
  op_names : (o : OpLine) → names_on_op (op_of names o) ≡ map (name_id names) (names_on_line o)
  op_names o = by o.dst
    where
      by : (dst : Option Spelled)
          → option_to_list (option_map (name_id names) dst) ++ map (name_id names) o.srcs
          ≡ map (name_id names) (option_to_list dst ++ o.srcs)
      by None = refl
      by (Some x) = refl

  ops_names : (ops : List OpLine) → flat_map names_on_op (map (op_of names) ops) ≡ map (name_id names) (flat_map names_on_line ops)
  ops_names [] = refl
  ops_names (o ∷ ops) = rw (op_names o, ops_names ops) (sym (map-append (name_id names) (names_on_line o) (flat_map names_on_line ops)))

  term_names : (term : Option TermLine) → read_by_term (term_by names labels term) ≡ map (name_id names) (names_at_end term)
  term_names (Some (Ret (Some name))) = refl
  term_names _ = refl

  block_names : (g : Group) → names_in_block (block_of names labels g) ≡ map (name_id names) (group_names g)
  block_names g =
      rw (ops_names g.ops, term_names g.term) (sym (map-append (name_id names) (flat_map names_on_line g.ops) (names_at_end g.term)))

  blocks_names : (gs : List Group)
      → flat_map names_in_block (map (block_of names labels) gs) ≡ map (name_id names) (flat_map group_names gs)
  blocks_names [] = refl
  blocks_names (g ∷ gs) = rw (block_names g, blocks_names gs) (sym (map-append (name_id names) (group_names g) (flat_map group_names gs)))

  -- the names of the function are those of the lines, in their order
  pub text_names : (name : List ℕ) (params : List Spelled) (gs : List Group)
      → appearances (map (name_id names) params) (map (block_of names labels) gs)
      ≡ map (name_id names) (flat_map names_on (text_lines name params gs))
  text_names name params gs =
      rw (names_of_groups gs, blocks_names gs) (sym (map-append (name_id names) params (flat_map group_names gs)))

-- ---- lines of blocks, by their blocks

body_back : (ops : List OpLine) (term : Option TermLine) (gs : List Group)
    → (ops_of (body_lines ops term (group_lines gs)) ≡ ops) × (term_of (body_lines ops term (group_lines gs)) ≡ term)
    × (grouped (body_lines ops term (group_lines gs)) ≡ grouped (group_lines gs))
body_back [] None [] = (refl, refl, refl)
body_back [] None (g ∷ gs) = (refl, refl, refl)
body_back [] (Some term) gs = (refl, refl, refl)
body_back (o ∷ ops) term gs =
    let later = body_back ops term gs in (ap (λ (os : List OpLine). o ∷ os) later.0, later.1, later.2)

pub groups_back : (gs : List Group) → grouped (group_lines gs) ≡ gs
groups_back [] = refl
groups_back (g ∷ gs) =
    let b = body_back g.ops g.term gs in
    rw (b.0, b.1, b.2, groups_back gs) refl

-- ---- lines of blocks are in order

module _ (rest : List Line) (later : (c : Before) → is_none c.name ≡ false → AreInOrder c rest) where
  body_order : (b : Before) → IsOpen b → (ops : List OpLine) (term : Option TermLine) → AreInOrder b (body_lines ops term rest)
  body_order b inside [] None = later b inside.named
  body_order b inside [] (Some term) = (inside, later (noted b (Terminator term)) (still_named b (Terminator term) inside.named))
  body_order b inside (o ∷ ops) term = (
    inside,
    body_order (noted b (Operation o)) (record {
      named = still_named b (Operation o) inside.named;
      begun = still_begun b.labels [] inside.begun;
      unended = inside.unended;
    }) ops term,
  )

groups_order : (gs : List Group) (b : Before) → is_none b.name ≡ false → AreInOrder b (group_lines gs)
groups_order [] b named = tt
groups_order (g ∷ gs) b named = (
  named,
  body_order (group_lines gs) (groups_order gs) (noted b (Block g.label g.freq))
      (record { named = still_named b (Block g.label g.freq) named; begun = last_begun b.labels g.label; unended = refl }) g.ops g.term,
)

pub text_order : (name : List ℕ) (params : List Spelled) (gs : List Group) → AreInOrder (before_of []) (text_lines name params gs)
text_order name params gs = (refl, groups_order gs (noted (before_of []) (Func name params)) refl)
