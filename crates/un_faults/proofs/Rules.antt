-- The rules of lines: what each keeps by itself, where it may stand, and what is good behind it. No line has a fault exactly where each
-- keeps its own rules and stands where it may, and what stands behind the last is good.
use Rattle.std.proofs.Common.{◌≡◌, ◌≢◌, ℕ, ◌+◌, ◌≤◌, ◌==◌, ◌++◌, ◌||◌, Bool, true, false, nat_lt, nat_le, List, [], ◌∷◌, Option, Some}
use Rattle.std.proofs.Common.{None, is_some, is_none, length, if◌then◌else◌, refl, sym, ap, ◌∙◌, arith, append-nil, append_assoc}
use Rattle.std.specs.List.{AllByRecursion as Each, list_any, fold}
use Rattle.std.specs.Option.{option_or, option_to_list}
use Rattle.std.specs.Str.{bytes_eq}
use Rattle.std.proofs.lemmas.Bool.{or_parts, false_from_ne_true}
use Rattle.std.proofs.lemmas.Bool.Decides.{nat_tests}
use Rattle.std.proofs.lemmas.List.{length-append}
use Rattle.std.proofs.lemmas.Slice.Eq.{bytes_eq-Decides}
use Rattle.un_faults.specs.Vocabulary.{Line, Blank, Func, Block, Operation, Terminator, Spelled}
use Rattle.un_ir.specs.declared.function.TheConstants.{BLOCKS, OPS, NAMES, PARAMS}
use Rattle.un_faults.specs.declared.before.Before.{Before}
use Rattle.un_faults.specs.declared.fault.Fault.{Fault}
use Rattle.un_faults.specs.Before.{same_name, add_name, numbered, label_on, is_operation, before_of}
use Rattle.un_words.specs.LineNames.{names_on}
use Rattle.un_faults.specs.Named.{IsNamed}
use Rattle.un_faults.specs.Noted.{noted}
use Rattle.un_faults.specs.LineFaults.{has_repeat, is_misplaced, has_clash, is_over_limit, has_too_many, is_wide, has_bad_freq}
use Rattle.un_faults.specs.LineFaults.{repeats_label}
use Rattle.un_faults.specs.LineFaults.{is_before_block, is_after_end, faults_on, first_of}
use Rattle.un_words.proofs.Each.{Each-weaken, Each-none, Each-right, EachPair, EachPair-push, EachPair-left}
use Rattle.un_faults.proofs.BeforeLaws.{before_of_push}

-- ---- the rules

-- the line has a 7th parameter or argument
abbrev pub operands_over : Line → Bool
operands_over (Func name params) = nat_lt PARAMS (length params)
operands_over (Operation o) = nat_lt PARAMS (length o.srcs)
operands_over _ = false

abbrev pub repeats_parameter : Line → Bool
repeats_parameter (Func name params) = has_repeat params
repeats_parameter _ = false

-- what a line keeps by itself
pub record IsGoodLine (line : Line) : Type 0 where
  pub agrees : has_clash line ≡ false
  pub few : operands_over line ≡ false
  pub fits : is_wide line ≡ false
  pub often : has_bad_freq line ≡ false
  pub once : repeats_parameter line ≡ false

-- a block has begun and has not ended
pub record IsOpen (before : Before) : Type 0 where
  pub named : is_none before.name ≡ false
  pub begun : (length before.labels == 0) ≡ false
  pub unended : before.ended ≡ false

abbrev pub MayStand : Before → Line → Type 0
MayStand before Blank = Unit {0}
MayStand before (Func name params) = is_some before.name ≡ false
MayStand before (Block label freq) = is_none before.name ≡ false
MayStand before _ = IsOpen before

-- no two labels are the same
abbrev pub AreApart : List (List ℕ) → Type 0
AreApart labels = EachPair (λ (a b : List ℕ). a ≢ b) labels

-- what stands before a line is within the limits, and no two labels are the same
pub record IsGoodBefore (before : Before) : Type 0 where
  pub apart : AreApart before.labels
  pub few_labels : length before.labels ≤ BLOCKS
  pub few_ops : before.ops ≤ OPS
  pub few_names : length before.names ≤ NAMES

-- ---- from a line without a fault

none_true : (fs : List (Bool × Fault)) → first_of fs ≡ None → Each (λ (f : Bool × Fault). f.0 ≡ false) fs
none_true [] h = tt
none_true ((true, fault) ∷ fs) h = absurd (cc h)
none_true ((false, fault) ∷ fs) h = (refl, none_true fs h)

-- no test finds a fault
record Passes (before : Before) (line : Line) : Type 0 where
  placed : is_misplaced before line ≡ false
  kinds : has_clash line ≡ false
  few : has_too_many before line ≡ false
  literal : is_wide line ≡ false
  freq : has_bad_freq line ≡ false
  label : repeats_label before line ≡ false
  inside : is_before_block before line ≡ false
  unended : is_after_end before line ≡ false

passes : (before : Before) (line : Line) → first_of (faults_on before line) ≡ None → Passes before line
passes before line none =
    let t = none_true (faults_on before line) none in
    record {
      placed = t.0;
      kinds = t.1.0;
      few = t.1.1.0;
      literal = t.1.1.1.0;
      freq = t.1.1.1.1.0;
      label = t.1.1.1.1.1.0;
      inside = t.1.1.1.1.1.1.0;
      unended = t.1.1.1.1.1.1.1.0;
    }

other_label : (label l : List ℕ) → bytes_eq label l ≡ false → l ≢ label
other_label label l differs is = cc (sym differs ∙ (bytes_eq-Decides label l).1 (sym is))

-- behind a line without a label
unlabelled : (before : Before) (line : Line) → label_on line ≡ None → IsGoodBefore before
    → before.ops + (if is_operation line then 1 else 0) ≤ OPS
    → length (numbered before.names (names_on line)) ≤ NAMES → IsGoodBefore (noted before line)
unlabelled before line e good ops names =
    let none : before.labels ++ option_to_list (label_on line) ≡ before.labels = rw e (append-nil before.labels) in
    record { apart = rw none good.apart; few_labels = rw none good.few_labels; few_ops = ops; few_names = names }

module _ (before : Before) (good : IsGoodBefore before) where
  names_few : (line : Line) → has_too_many before line ≡ false → length (numbered before.names (names_on line)) ≤ NAMES
  names_few line h =
      let e : nat_lt NAMES (length (numbered before.names (names_on line))) ≡ false = (or_parts (is_over_limit before line) _ h).1 in
      grind (arith, nat_tests)

  over : (line : Line) → has_too_many before line ≡ false → is_over_limit before line ≡ false
  over line h = (or_parts (is_over_limit before line) _ h).0

  by_tests : (line : Line) → Passes before line
      → IsGoodLine line × MayStand before line × IsGoodBefore (noted before line)
  by_tests Blank p = (
    record { agrees = p.kinds; few = refl; fits = p.literal; often = p.freq; once = refl },
    tt,
    unlabelled before Blank refl good (let few = good.few_ops in omega (arith, few)) (names_few Blank p.few),
  )
  by_tests (Func name params) p =
      let q = or_parts (is_some before.name) (has_repeat params) p.placed in (
        record { agrees = p.kinds; few = over (Func name params) p.few; fits = p.literal; often = p.freq; once = q.1 },
        q.0,
        unlabelled before (Func name params) refl good (let few = good.few_ops in omega (arith, few)) (names_few (Func name params) p.few),
      )
  by_tests (Block text often) p =
      let room : nat_le BLOCKS (length before.labels) ≡ false = over (Block text often) p.few in (
        record { agrees = p.kinds; few = refl; fits = p.literal; often = p.freq; once = refl },
        p.placed,
        record {
          apart = EachPair-push (λ (a b : List ℕ). a ≢ b) before.labels text good.apart
              (Each-weaken (λ (l : List ℕ). bytes_eq text l ≡ false) (λ (l : List ℕ). l ≢ text) (other_label text) before.labels
              (Each-none (bytes_eq text) before.labels p.label));
          few_labels = let count = length-append before.labels (text ∷ []) in grind (arith, nat_tests);
          few_ops = let few = good.few_ops in omega (arith, few);
          few_names = names_few (Block text often) p.few;
        },
      )
  by_tests (Operation o) p =
      let o_over = or_parts (nat_lt PARAMS (length o.srcs)) (nat_le OPS before.ops) (over (Operation o) p.few) in
      let room : nat_le OPS before.ops ≡ false = o_over.1 in (
        record { agrees = p.kinds; few = o_over.0; fits = p.literal; often = p.freq; once = refl },
        record { named = p.placed; begun = p.inside; unended = p.unended },
        unlabelled before (Operation o) refl good (grind (arith, nat_tests)) (names_few (Operation o) p.few),
      )
  by_tests (Terminator term) p = (
    record { agrees = p.kinds; few = refl; fits = p.literal; often = p.freq; once = refl },
    record { named = p.placed; begun = p.inside; unended = p.unended },
    unlabelled before (Terminator term) refl good (let few = good.few_ops in omega (arith, few)) (names_few (Terminator term) p.few),
  )

  pub line_keeps : (line : Line) → first_of (faults_on before line) ≡ None
      → IsGoodLine line × MayStand before line × IsGoodBefore (noted before line)
  line_keeps line h = by_tests line (passes before line h)

-- ---- to a line without a fault

no_fault : (before : Before) (line : Line) → is_misplaced before line ≡ false → has_clash line ≡ false → has_too_many before line ≡ false
    → is_wide line ≡ false
    → has_bad_freq line ≡ false → repeats_label before line ≡ false → is_before_block before line ≡ false → is_after_end before line ≡ false
    → first_of (faults_on before line) ≡ None
no_fault before line a b c d e f g h = rw (a, b, c, d, e, f, g, h) refl

neither : (a b : Bool) → a ≡ false → b ≡ false → (a || b) ≡ false
neither a b e f = rw (e, f) refl

new_label : (front : List (List ℕ)) (label : List ℕ) → AreApart (front ++ label ∷ []) → list_any (bytes_eq label) front ≡ false
new_label [] label apart = refl
new_label (l ∷ front) label (first, later) =
    let last : l ≢ label = (Each-right (λ (x : List ℕ). l ≢ x) front (label ∷ []) first).0 in
    let here : bytes_eq label l ≡ false = false_from_ne_true (bytes_eq label l) (λ e. last (sym ((bytes_eq-Decides label l).0 e))) in
    rw (here, new_label front label later) refl

module _ (before : Before) where
  few : (line : Line) → is_over_limit before line ≡ false → IsGoodBefore (noted before line) → has_too_many before line ≡ false
  few line within good =
      let names : length (numbered before.names (names_on line)) ≤ NAMES = good.few_names in
      let b : nat_lt NAMES (length (numbered before.names (names_on line))) ≡ false = grind (arith, nat_tests) in
      neither (is_over_limit before line) (nat_lt NAMES (length (numbered before.names (names_on line)))) within b

  pub line_faultless : (line : Line) → IsGoodLine line → MayStand before line → IsGoodBefore (noted before line)
      → first_of (faults_on before line) ≡ None
  line_faultless Blank own may good = no_fault before Blank refl own.agrees (few Blank refl good) refl refl refl refl refl
  line_faultless (Func name params) own may good =
      no_fault before (Func name params) (neither (is_some before.name) (has_repeat params) may own.once) own.agrees
      (few (Func name params) own.few good) refl refl refl refl refl
  line_faultless (Block label freq) own may good =
      let count = length-append before.labels (label ∷ []) in
      let most : length (before.labels ++ label ∷ []) ≤ BLOCKS = good.few_labels in
      let room : nat_le BLOCKS (length before.labels) ≡ false = grind (arith, nat_tests) in
      no_fault before (Block label freq) may refl (few (Block label freq) room good) refl own.often
      (new_label before.labels label good.apart) refl refl
  line_faultless (Operation o) own may good =
      let most : before.ops + 1 ≤ OPS = good.few_ops in
      let room : nat_le OPS before.ops ≡ false = grind (arith, nat_tests) in
      no_fault before (Operation o) may.named own.agrees
      (few (Operation o) (neither (nat_lt PARAMS (length o.srcs)) (nat_le OPS before.ops) own.few room) good) own.fits refl refl
      may.begun may.unended
  line_faultless (Terminator term) own may good =
      no_fault before (Terminator term) may.named own.agrees (few (Terminator term) refl good) refl refl refl may.begun may.unended

  -- ---- what is good behind a line was good before it

  more_names : (seen more : List Spelled) → length seen ≤ length (numbered seen more)
  more_names seen [] = omega arith
  more_names seen (name ∷ more) =
      let here = by (list_any (same_name name) seen) in let later = more_names (add_name seen name) more in omega arith
    where
      by : (v : Bool) → length seen ≤ length (if v then seen else seen ++ name ∷ [])
      by true = omega arith
      by false = omega (arith, length-append seen (name ∷ []))

  good_earlier : (line : Line) → IsGoodBefore (noted before line) → IsGoodBefore before
  good_earlier line good = record {
    apart = EachPair-left (λ (a b : List ℕ). a ≢ b) before.labels (option_to_list (label_on line)) good.apart;
    few_labels =
        let all = length-append before.labels (option_to_list (label_on line)) in let most = good.few_labels in omega (arith, all, most);
    few_ops = by (is_operation line) good.few_ops;
    few_names = let more = more_names before.names (names_on line) in let most = good.few_names in omega (arith, more, most);
  }
    where
      by : (v : Bool) → before.ops + (if v then 1 else 0) ≤ OPS → before.ops ≤ OPS
      by true h = omega (arith, h)
      by false h = omega (arith, h)

-- ---- lines

-- no line has a fault, each by what stands before it
abbrev pub AreFaultless : Before → List Line → Type 0
AreFaultless before [] = Unit {0}
AreFaultless before (line ∷ lines) = (first_of (faults_on before line) ≡ None) × AreFaultless (noted before line) lines

abbrev pub AreInOrder : Before → List Line → Type 0
AreInOrder before [] = Unit {0}
AreInOrder before (line ∷ lines) = MayStand before line × AreInOrder (noted before line) lines

-- what stands behind lines
abbrev pub behind : Before → List Line → Before
behind before lines = fold noted before lines

pub record KeepRules (before : Before) (lines : List Line) : Type 0 where
  pub each : Each IsGoodLine lines
  pub order : AreInOrder before lines
  pub last : IsGoodBefore (behind before lines)

pub lines_keep : (before : Before) (lines : List Line) → IsGoodBefore before → AreFaultless before lines → KeepRules before lines
lines_keep before [] good none = record { each = tt; order = tt; last = good }
lines_keep before (line ∷ lines) good (here, none) =
    let k = line_keeps before good line here in
    let later = lines_keep (noted before line) lines k.2 none in
    record { each = (k.0, later.each); order = (k.1, later.order); last = later.last }

all_earlier : (before : Before) (lines : List Line) → IsGoodBefore (behind before lines) → IsGoodBefore before
all_earlier before [] good = good
all_earlier before (line ∷ lines) good = good_earlier before line (all_earlier (noted before line) lines good)

pub lines_faultless : (before : Before) (lines : List Line) → KeepRules before lines → AreFaultless before lines
lines_faultless before [] k = tt
lines_faultless before (line ∷ lines) k = (
  line_faultless before line k.each.0 k.order.0 (all_earlier (noted before line) lines k.last),
  lines_faultless (noted before line) lines (record { each = k.each.1; order = k.order.1; last = k.last }),
)

-- what stands behind lines is what stands before a line that they stand before
behind_front : (front lines : List Line) → behind (before_of front) lines ≡ before_of (front ++ lines)
behind_front front [] = ap before_of (sym (append-nil front))
behind_front front (line ∷ lines) =
    ap (λ (b : Before). behind b lines) (sym (before_of_push front line))
    ∙ behind_front (front ++ line ∷ []) lines ∙ ap before_of (append_assoc front (line ∷ []) lines)

pub behind_all : (lines : List Line) → behind (before_of []) lines ≡ before_of lines
behind_all lines = behind_front [] lines

pub good_start : IsGoodBefore (before_of [])
good_start = record { apart = tt; few_labels = omega arith; few_ops = omega arith; few_names = omega arith }

-- ---- without a `func` line there is no label

still_some : {X : Type 0} (a b : Option X) → is_none a ≡ false → is_none (option_or a b) ≡ false
still_some None b h = absurd (cc h)
still_some (Some x) b h = refl

pub still_named : (before : Before) (line : Line) → is_none before.name ≡ false → is_none (noted before line).name ≡ false
still_named before line h = still_some before.name _ h

no_name : {X : Type 0} (a b : Option X) → option_or a b ≡ None → is_none a ≡ false → ⊥
no_name None b e h = cc h
no_name (Some x) b e h = cc e

pub lines_named : (before : Before) (lines : List Line) → AreInOrder before lines → IsNamed before → IsNamed (behind before lines)
lines_named before [] order named = named
lines_named before (line ∷ lines) (may, later) named = lines_named (noted before line) lines later (by line may)
  where
    none : {X : Type 0} (a b : Option X) → option_or a b ≡ None → a ≡ None
    none None b e = refl
    none (Some x) b e = absurd (cc e)

    by : (line : Line) → MayStand before line → IsNamed (noted before line)
    by (Block label freq) m e = absurd (no_name before.name _ e m)
    by (Func name params) m e = absurd (some before.name e)
      where
        some : (o : Option (List ℕ)) → option_or o (Some name) ≡ None → ⊥
        some None h = cc h
        some (Some x) h = cc h
    by _ m e = append-nil before.labels ∙ named (none before.name _ e)
