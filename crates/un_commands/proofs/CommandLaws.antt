-- What is so of every command: its numbers are in their ranges, its words are of no other, and each in its ranges has words.
use Rattle.std.proofs.Common.{ℕ, ◌≡◌, ◌<◌, ◌≤◌, ◌^◌, inl, inr, List, [], ◌∷◌, ◌++◌, length, drop, Bool, true, false, Option, Some, None, Result, Ok, Err, All, codes, refl, sym, ap, subst, ◌∙◌, arith, lit≤}
use Rattle.std.specs.Fmt.{decimal}
use Rattle.std.specs.List.{flat_map, slice_get}
use Rattle.std.specs.Option.{option_to_list, IfSome, unwrap_or}
use Rattle.std.specs.Result.{IfOk, IfErr}
use Rattle.std.proofs.lemmas.List.{append-nil, length-append}
use Rattle.std.proofs.lemmas.List.Concat.{flat_map-append}
use Rattle.std.proofs.lemmas.List.Elements.{All-nil, All-cons, All-head}
use Rattle.std.proofs.Math.Seq.{drop-append_seam}
use Rattle.un_isa.specs.declared.reg.TheConstants.{SLOTS}
use Rattle.un_model.specs.Options.{IsCountOfRegisters}
use Rattle.un_commands.specs.declared.command.SearchOptions.{SearchOptions}
use Rattle.un_commands.specs.declared.command.TheConstants.{DEFAULT_NODES}
use Rattle.un_commands.specs.declared.command.Command.{Command}
use Rattle.un_commands.specs.declared.command.Command.TheVariants.{Reads, Makes}
use Rattle.un_commands.specs.declared.command.ReadingCommand.TheVariants.{Alloc, Run, RunCode, Check, Improve, AllocTable, CheckTable, RunCodeTable}
use Rattle.un_commands.specs.declared.command.ReadingCommand.TheVariants.{Refute, RefuteCheck, Steps, StepsCheck}
use Rattle.un_commands.specs.declared.command.MakingCommand.TheVariants.{Generate, GenerateAlloc}
use Rattle.un_commands.specs.declared.setting.Setting.{Setting}
use Rattle.un_commands.specs.declared.setting.Setting.TheVariants.{Nodes, Regs, Slots}
use Rattle.un_commands.specs.declared.setting.Given.{Given}
use Rattle.un_commands.specs.Alloc.{alloc_opening, improve_opening, refute_opening, HasSettings, IsRefute, AreSearchOptions}
use Rattle.un_commands.specs.Commands.{IsCommand, IsBadWord, IsRanged}
use Rattle.un_commands.specs.Places.{StandsAt}
use Rattle.un_commands.specs.Settings.{IsCountOfNodes, IsInRange, Part, part_words, settings_in, AsksTable, nodes_in, regs_in, slots_in, Say, over_defaults}
use Rattle.un_commands.specs.Settings.Part.{Sets, Flag}
use Rattle.un_commands.specs.Steps.{steps_words, steps_check_words}
use Rattle.un_commands.proofs.AllocLaws.{line_of}
use Rattle.un_commands.proofs.GenerateLaws.{plain, costed}
use Rattle.un_commands.proofs.Openers.{alloc_of, opens_alloc, opens_run, plain as plain_run, coded, tabled, opens_check, opens_improve, opens_refute, asked, checked, opens_limit, opens_steps, logged, judged, opens_gen, read_at, first_words, IsGen, IsTail, ends, goes}
use Rattle.un_commands.proofs.PartLaws.{begin_with, one_asking}
use Rattle.un_commands.proofs.SettingLaws.{one_saying, all_values}
use Rattle.un_commands.proofs.StepsLaws.{one_log, one_check_of_log, no_check_of_log}
use Rattle.un_commands.proofs.Texts.{some_or_none, one_number, no_number}
use Rattle.un_commands.proofs.WordLaws.{bad_word, command_is_good, bad_word_unique}

each_nodes : (s : Setting) → IsInRange s → All IsCountOfNodes (nodes_in s)
each_nodes (Nodes n) h = All-cons IsCountOfNodes n [] h (All-nil IsCountOfNodes)
each_nodes (Regs n) h = All-nil IsCountOfNodes
each_nodes (Slots k) h = All-nil IsCountOfNodes

each_regs : (s : Setting) → IsInRange s → All IsCountOfRegisters (regs_in s)
each_regs (Nodes n) h = All-nil IsCountOfRegisters
each_regs (Regs n) h = All-cons IsCountOfRegisters n [] h (All-nil IsCountOfRegisters)
each_regs (Slots k) h = All-nil IsCountOfRegisters

abbrev IsCountOfSlots : ℕ → Type 0
IsCountOfSlots k = k ≤ SLOTS

each_slots : (s : Setting) → IsInRange s → All IsCountOfSlots (slots_in s)
each_slots (Nodes n) h = All-nil IsCountOfSlots
each_slots (Regs n) h = All-nil IsCountOfSlots
each_slots (Slots k) h = All-cons IsCountOfSlots k [] h (All-nil IsCountOfSlots)

value_ranged : (f : Setting → List ℕ) (P : ℕ → Type 0) → ((s : Setting) → IsInRange s → All P (f s)) → (ss : List Setting)
    → All IsInRange ss → (n : ℕ) → flat_map f ss ≡ n ∷ [] → P n
value_ranged f P each ss ranged n e = All-head P n [] (subst (All P) e (all_values f P each ss ranged))

nodes_ranged : (ss : List Setting) (o : Option ℕ) → All IsInRange ss → flat_map nodes_in ss ≡ option_to_list o
    → IsCountOfNodes (unwrap_or o DEFAULT_NODES)
nodes_ranged ss None ranged e = (lit≤ tt, lit≤ tt)
nodes_ranged ss (Some n) ranged e = value_ranged nodes_in IsCountOfNodes each_nodes ss ranged n e

regs_ranged : (ss : List Setting) (o : Option ℕ) → All IsInRange ss → flat_map regs_in ss ≡ option_to_list o → IfSome o IsCountOfRegisters
regs_ranged ss None ranged e = tt
regs_ranged ss (Some n) ranged e = value_ranged regs_in IsCountOfRegisters each_regs ss ranged n e

slots_ranged : (ss : List Setting) (o : Option ℕ) → All IsInRange ss → flat_map slots_in ss ≡ option_to_list o
    → IsCountOfSlots (unwrap_or o SLOTS)
slots_ranged ss None ranged e = lit≤ tt
slots_ranged ss (Some k) ranged e = value_ranged slots_in IsCountOfSlots each_slots ss ranged k e

settings_ranged : (ss : List Setting) (given : Given) → All IsInRange ss → Say ss given → AreSearchOptions (over_defaults given)
settings_ranged ss given ranged said = record {
  nodes = nodes_ranged ss given.nodes ranged said.nodes;
  allowed = record {
    regs = regs_ranged ss given.regs ranged said.regs;
    slots = slots_ranged ss given.slots ranged said.slots;
  };
}

options_ranged : (opening words : List (List ℕ)) (table : Bool) (options : SearchOptions) → HasSettings opening words table options
    → AreSearchOptions options
options_ranged opening words table options h =
    subst AreSearchOptions (sym h.chosen) (settings_ranged (settings_in h.parts) h.given h.ranged h.said)

-- the numbers of a command are in their ranges
pub is_ranged : (words : List (List ℕ)) (command : Command) → IsCommand words command → IsRanged command
is_ranged words (Reads (Alloc options)) h = options_ranged alloc_opening words false options h
is_ranged words (Reads Run) h = tt
is_ranged words (Reads RunCode) h = tt
is_ranged words (Reads Check) h = tt
is_ranged words (Reads (Improve options)) h = options_ranged improve_opening words false options h
is_ranged words (Reads (AllocTable options)) h = options_ranged alloc_opening words true options h
is_ranged words (Reads CheckTable) h = tt
is_ranged words (Reads RunCodeTable) h = tt
is_ranged words (Reads (Refute limit options)) h = (h.limit_fits, options_ranged (refute_opening limit) words false options h.settings)
is_ranged words (Reads RefuteCheck) h = tt
is_ranged words (Reads (Steps counts)) h = tt
is_ranged words (Reads (StepsCheck counts)) h = tt
is_ranged words (Makes (Generate seed size)) h = (h.seed_fits, h.size_in)
is_ranged words (Makes (GenerateAlloc seed size nodes)) h = (h.seed_fits, h.size_in, h.nodes_in)

none_more : (more : List Part) → length (flat_map part_words more) ≡ 0 → more ≡ []
none_more [] h = refl
none_more (Sets t ∷ more) h = absurd (omega arith)
none_more (Flag ∷ more) h = absurd (omega arith)

-- words are those of one list of parts
same_parts : (ps qs : List Part) → All IsInRange (settings_in ps) → All IsInRange (settings_in qs)
    → flat_map part_words ps ≡ flat_map part_words qs → qs ≡ ps
same_parts ps qs a b e =
    let before = begin_with ps qs a b (λ j h. ap (λ (ws : List (List ℕ)). slice_get ws j) e) in
    let same : length (flat_map part_words ps) ≡ length (flat_map part_words qs) = ap length e in
    let parted : length (flat_map part_words qs) ≡ length (flat_map part_words ps ++ flat_map part_words before.0) =
    ap length (ap (flat_map part_words) before.1 ∙ flat_map-append part_words ps before.0) in
    let none : length (flat_map part_words before.0) ≡ 0 =
    omega (arith, same, parted, length-append (flat_map part_words ps) (flat_map part_words before.0)) in
    before.1 ∙ (ap (λ (us : List Part). ps ++ us) (none_more before.0 none) ∙ append-nil ps)

one_search : (opening words : List (List ℕ)) (t u : Bool) (o p : SearchOptions) → HasSettings opening words t o
    → HasSettings opening words u p → (t ≡ u) × (o ≡ p)
one_search opening words t u o p a b =
    let texts : flat_map part_words a.parts ≡ flat_map part_words b.parts =
    sym (drop-append_seam opening (flat_map part_words a.parts))
    ∙ (ap (λ (ws : List (List ℕ)). drop (length opening) ws) (sym a.spelled ∙ b.spelled)
    ∙ drop-append_seam opening (flat_map part_words b.parts)) in
    let same : b.parts ≡ a.parts = same_parts a.parts b.parts a.ranged b.ranged texts in (
      one_asking a.parts t u a.tabled (subst (λ (ps : List Part). AsksTable ps u) same b.tabled),
      a.chosen
          ∙ (ap over_defaults (one_saying (settings_in a.parts) a.given b.given a.said
          (subst (λ (ps : List Part). Say (settings_in ps) b.given) same b.said))
          ∙ sym b.chosen),
    )

one_tail : (words : List (List ℕ)) (a b : Command) (seed size seed' size' : ℕ) → seed ≡ seed' → size ≡ size' → IsTail words a seed size
    → IsTail words b seed' size' → a ≡ b
one_tail words a b seed size seed' size' seeds sizes (ends is e) (ends is' e') = cc
one_tail words a b seed size seed' size' seeds sizes (ends is e) (goes n is' e' in_range number end) = absurd (some_or_none words 3 _ e' e)
one_tail words a b seed size seed' size' seeds sizes (goes n is e in_range number end) (ends is' e') = absurd (some_or_none words 3 _ e e')
one_tail words a b seed size seed' size' seeds sizes (goes m is e in_range number end) (goes n is' e' in_range' number' end') =
    let same : m ≡ n = one_number words 4 m n (omega arith) (omega arith) number number' in cc

one_gen : (words : List (List ℕ)) (a b : Command) → IsGen words a → IsGen words b → a ≡ b
one_gen words a b g h = one_tail words a b g.seed g.size h.seed h.size
    (one_number words 1 g.seed h.seed g.seed_fits h.seed_fits g.seed_at h.seed_at)
    (one_number words 2 g.size h.size (omega arith) (omega arith) g.size_at h.size_at) g.tail h.tail

-- with one word, two or three
one_run : (words : List (List ℕ)) → words ≡ codes "run" ∷ [] → words ≡ codes "run" ∷ codes "--code" ∷ [] → ⊥
one_run words a b = some_or_none words 1 (codes "--code") (read_at words _ 1 b) (read_at words _ 1 a)

one_code : (words : List (List ℕ)) → words ≡ codes "run" ∷ codes "--code" ∷ []
    → words ≡ codes "run" ∷ codes "--code" ∷ codes "--table" ∷ [] → ⊥
one_code words a b = some_or_none words 2 (codes "--table") (read_at words _ 2 b) (read_at words _ 2 a)

no_code : (words : List (List ℕ)) → words ≡ codes "run" ∷ [] → words ≡ codes "run" ∷ codes "--code" ∷ codes "--table" ∷ [] → ⊥
no_code words a b = some_or_none words 1 (codes "--code") (read_at words _ 1 b) (read_at words _ 1 a)

one_check : (words : List (List ℕ)) → words ≡ codes "check" ∷ [] → words ≡ codes "check" ∷ codes "--table" ∷ [] → ⊥
one_check words a b = some_or_none words 1 (codes "--table") (read_at words _ 1 b) (read_at words _ 1 a)

one_alloc : (words : List (List ℕ)) (table : Bool) (options : SearchOptions) (b : Command) → HasSettings alloc_opening words table options
    → IsCommand words b → alloc_of table options ≡ b
one_alloc words table options b h k =
    let opened = opens_alloc words b k (read_at words _ 0 h.spelled) in
    let same = one_search alloc_opening words table opened.0 options opened.1 h opened.3 in
    ap (λ (t : Bool). alloc_of t options) same.0 ∙ (ap (λ (o : SearchOptions). alloc_of opened.0 o) same.1 ∙ sym opened.2)

-- words are those of one command at most
pub one_command : (words : List (List ℕ)) (a b : Command) → IsCommand words a → IsCommand words b → a ≡ b
one_command words (Reads (Alloc options)) b h k = one_alloc words false options b h k
one_command words (Reads (AllocTable options)) b h k = one_alloc words true options b h k
one_command words (Reads Run) b h k = elim (opens_run words b k (read_at words _ 0 h)) [
  | plain_run e w ↦ sym e
  | coded e w ↦ absurd (one_run words h w)
  | tabled e w ↦ absurd (no_code words h w)
]
one_command words (Reads RunCode) b h k = elim (opens_run words b k (read_at words _ 0 h)) [
  | plain_run e w ↦ absurd (one_run words w h)
  | coded e w ↦ sym e
  | tabled e w ↦ absurd (one_code words h w)
]
one_command words (Reads RunCodeTable) b h k = elim (opens_run words b k (read_at words _ 0 h)) [
  | plain_run e w ↦ absurd (no_code words w h)
  | coded e w ↦ absurd (one_code words w h)
  | tabled e w ↦ sym e
]
one_command words (Reads Check) b h k = elim (opens_check words b k (read_at words _ 0 h)) [
  | inl alone ↦ sym alone.0
  | inr with_table ↦ absurd (one_check words h with_table.1)
]
one_command words (Reads CheckTable) b h k = elim (opens_check words b k (read_at words _ 0 h)) [
  | inl alone ↦ absurd (one_check words alone.1 h)
  | inr with_table ↦ sym with_table.0
]
one_command words (Reads (Improve options)) b h k = let opened = opens_improve words b k (read_at words _ 0 h.spelled) in
    ap (λ (o : SearchOptions). Reads (Improve o)) (one_search improve_opening words false false options opened.0 h opened.2).1
    ∙ sym opened.1
one_command words (Reads (Refute limit options)) b h k =
    let opened = opens_limit words b limit h.limit_fits k (read_at words _ 0 h.settings.spelled) (read_at words _ 1 h.settings.spelled) in
    ap (λ (o : SearchOptions). Reads (Refute limit o))
    (one_search (refute_opening limit) words false false options opened.0 h.settings opened.2).1
    ∙ sym opened.1
one_command words (Reads RefuteCheck) b h k = elim (opens_refute words b k (read_at words _ 0 h)) [
  | asked limit options e w ↦ absurd (no_number words 1 _ limit w.limit_fits (read_at words _ 1 h) (read_at words _ 1 w.settings.spelled))
  | checked e w ↦ sym e
]
one_command words (Reads (Steps counts)) b h k = elim (opens_steps words b k (read_at words _ 0 h)) [
  | logged other e w ↦ ap (λ (c : Bool). Reads (Steps c)) (one_log words counts other h w) ∙ sym e
  | judged other e w ↦ absurd (no_check_of_log words counts other h w)
]
one_command words (Reads (StepsCheck counts)) b h k = elim (opens_steps words b k (read_at words _ 0 h)) [
  | logged other e w ↦ absurd (no_check_of_log words other counts w h)
  | judged other e w ↦ ap (λ (c : Bool). Reads (StepsCheck c)) (one_check_of_log words counts other h w) ∙ sym e
]
one_command words (Makes (Generate seed size)) b h k = one_gen words (Makes (Generate seed size)) b
    (opens_gen words (Makes (Generate seed size)) h (read_at words _ 0 h.spelled)) (opens_gen words b k (read_at words _ 0 h.spelled))
one_command words (Makes (GenerateAlloc seed size nodes)) b h k = one_gen words (Makes (GenerateAlloc seed size nodes)) b
    (opens_gen words (Makes (GenerateAlloc seed size nodes)) h (read_at words _ 0 h.spelled)) (opens_gen words b k (read_at words _ 0 h.spelled))

-- settings for all options, and behind them the flag where it is asked for
abbrev flags : Bool → List Part
flags true = Flag ∷ []
flags false = []

abbrev all_parts : ℕ → Option ℕ → ℕ → Bool → List Part
all_parts n None k table = Sets (Nodes n) ∷ Sets (Slots k) ∷ flags table
all_parts n (Some r) k table = Sets (Nodes n) ∷ Sets (Regs r) ∷ Sets (Slots k) ∷ flags table

abbrev all_given : ℕ → Option ℕ → ℕ → Given
all_given n r k = record { nodes = Some n; regs = r; slots = Some k }

two_ranged : (n k : ℕ) → IsCountOfNodes n → IsCountOfSlots k → All IsInRange (Nodes n ∷ Slots k ∷ [])
two_ranged n k nodes slots = All-cons IsInRange (Nodes n) (Slots k ∷ []) nodes (All-cons IsInRange (Slots k) [] slots (All-nil IsInRange))

three_ranged : (n r k : ℕ) → IsCountOfNodes n → IsCountOfRegisters r → IsCountOfSlots k → All IsInRange (Nodes n ∷ Regs r ∷ Slots k ∷ [])
three_ranged n r k nodes regs slots = All-cons IsInRange (Nodes n) (Regs r ∷ Slots k ∷ []) nodes
    (All-cons IsInRange (Regs r) (Slots k ∷ []) regs (All-cons IsInRange (Slots k) [] slots (All-nil IsInRange)))

all_ranged : (n : ℕ) (r : Option ℕ) (k : ℕ) (table : Bool) → IsCountOfNodes n → IfSome r IsCountOfRegisters → IsCountOfSlots k
    → All IsInRange (settings_in (all_parts n r k table))
all_ranged n None k true nodes regs slots = two_ranged n k nodes slots
all_ranged n None k false nodes regs slots = two_ranged n k nodes slots
all_ranged n (Some r) k true nodes regs slots = three_ranged n r k nodes regs slots
all_ranged n (Some r) k false nodes regs slots = three_ranged n r k nodes regs slots

all_said : (n : ℕ) (r : Option ℕ) (k : ℕ) (table : Bool) → Say (settings_in (all_parts n r k table)) (all_given n r k)
all_said n None k true = record { nodes = refl; regs = refl; slots = refl }
all_said n None k false = record { nodes = refl; regs = refl; slots = refl }
all_said n (Some r) k true = record { nodes = refl; regs = refl; slots = refl }
all_said n (Some r) k false = record { nodes = refl; regs = refl; slots = refl }

all_asked : (n : ℕ) (r : Option ℕ) (k : ℕ) (table : Bool) → AsksTable (all_parts n r k table) table
all_asked n None k true = refl
all_asked n None k false = refl
all_asked n (Some r) k true = refl
all_asked n (Some r) k false = refl

can_be_asked : (opening : List (List ℕ)) (table : Bool) (options : SearchOptions) → AreSearchOptions options
    → HasSettings opening (line_of opening (all_parts options.nodes options.regs options.slots table)) table options
can_be_asked opening table options h = record {
  parts = all_parts options.nodes options.regs options.slots table;
  given = all_given options.nodes options.regs options.slots;
  spelled = refl;
  ranged = all_ranged options.nodes options.regs options.slots table h.nodes h.allowed.regs h.allowed.slots;
  said = all_said options.nodes options.regs options.slots table;
  tabled = all_asked options.nodes options.regs options.slots table;
  chosen = refl;
}

refuted : (limit : ℕ) (options : SearchOptions) → limit < 2 ^ 64 → AreSearchOptions options
    → IsRefute (line_of (refute_opening limit) (all_parts options.nodes options.regs options.slots false)) limit options
refuted limit options fits h = record { limit_fits = fits; settings = can_be_asked (refute_opening limit) false options h }

-- each command whose numbers are in their ranges has words
pub words_for : (command : Command) → IsRanged command → (words : List (List ℕ)) × IsCommand words command
words_for (Reads (Alloc options)) h =
    (line_of alloc_opening (all_parts options.nodes options.regs options.slots false), can_be_asked alloc_opening false options h)
words_for (Reads (AllocTable options)) h =
    (line_of alloc_opening (all_parts options.nodes options.regs options.slots true), can_be_asked alloc_opening true options h)
words_for (Reads CheckTable) h = (codes "check" ∷ codes "--table" ∷ [], refl)
words_for (Reads RunCodeTable) h = (codes "run" ∷ codes "--code" ∷ codes "--table" ∷ [], refl)
words_for (Reads Run) h = (codes "run" ∷ [], refl)
words_for (Reads RunCode) h = (codes "run" ∷ codes "--code" ∷ [], refl)
words_for (Reads Check) h = (codes "check" ∷ [], refl)
words_for (Reads (Improve options)) h =
    (line_of improve_opening (all_parts options.nodes options.regs options.slots false), can_be_asked improve_opening false options h)
words_for (Reads (Refute limit options)) h = (
  line_of (refute_opening limit) (all_parts options.nodes options.regs options.slots false),
  refuted limit options h.0 h.1,
)
words_for (Reads RefuteCheck) h = (codes "refute" ∷ codes "--check" ∷ [], refl)
words_for (Reads (Steps counts)) h = (steps_words counts, refl)
words_for (Reads (StepsCheck counts)) h = (steps_check_words counts, refl)
words_for (Makes (Generate seed size)) h = (codes "gen" ∷ decimal seed ∷ decimal size ∷ [], plain seed size h.0 h.1)
words_for (Makes (GenerateAlloc seed size nodes)) h = (
  codes "gen" ∷ decimal seed ∷ decimal size ∷ codes "--nodes" ∷ decimal nodes ∷ [],
  costed seed size nodes h.0 h.1 h.2,
)

-- no command begins with another first word
pub bad_first : (words : List (List ℕ)) → ¬ StandsAt words 0 (codes "alloc") → ¬ StandsAt words 0 (codes "run")
    → ¬ StandsAt words 0 (codes "check") → ¬ StandsAt words 0 (codes "gen") → ¬ StandsAt words 0 (codes "improve")
    → ¬ StandsAt words 0 (codes "refute") → ¬ StandsAt words 0 (codes "steps") → IsBadWord words 0
bad_first words alloc run check gen improve refute steps = bad_word words 0 (Reads Run) (codes "run" ∷ []) refl refl
    (λ other others is alike. elim (first_words others other is) [
      | inl e ↦ alloc (alike 0 (omega arith) ∙ e)
      | inr (inl e) ↦ run (alike 0 (omega arith) ∙ e)
      | inr (inr (inl e)) ↦ check (alike 0 (omega arith) ∙ e)
      | inr (inr (inr (inl e))) ↦ gen (alike 0 (omega arith) ∙ e)
      | inr (inr (inr (inr (inl e)))) ↦ improve (alike 0 (omega arith) ∙ e)
      | inr (inr (inr (inr (inr (inl e))))) ↦ refute (alike 0 (omega arith) ∙ e)
      | inr (inr (inr (inr (inr (inr e))))) ↦ steps (alike 0 (omega arith) ∙ e)
    ])

-- an answer that is a command of the words, or the place of their first bad one
pub exactly : (words : List (List ℕ)) (answer : Result Command ℕ) → IfOk answer (IsCommand words) → IfErr answer (IsBadWord words)
    → (place : ℕ) → IsBadWord words place → answer ≡ Err place
exactly words (Ok command) ok bad place h = absurd (command_is_good words command place ok h)
exactly words (Err p) ok bad place h = ap Err (bad_word_unique words p place bad h)

pub bad_at : (words : List (List ℕ)) (answer : Result Command ℕ) → IfErr answer (IsBadWord words) → (place : ℕ) → answer ≡ Err place
    → IsBadWord words place
bad_at words (Ok command) bad place e = absurd (ok_or_err command place e)
  where
    ok_or_err : (command : Command) (place : ℕ) → Ok command ≡ Err place → ⊥
    ok_or_err command place e = cc
bad_at words (Err p) bad place e = let same : p ≡ place = cc in subst (IsBadWord words) same bad

pub ranged : (words : List (List ℕ)) (answer : Result Command ℕ) → IfOk answer (IsCommand words) → IfOk answer IsRanged
ranged words (Ok command) ok = is_ranged words command ok
ranged words (Err p) ok = tt
