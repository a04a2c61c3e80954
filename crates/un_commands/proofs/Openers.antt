-- What the first words of a command say of it.
use Rattle.std.proofs.Common.{ℕ, ◌≡◌, ◌<◌, ◌≤◌, ◌^◌, ◌⊎◌, inl, inr, Bool, true, false, List, [], ◌∷◌, length, take, Some, None, codes, ap, refl, sym, subst, ◌∙◌, arith, lit<}
use Rattle.std.specs.Fmt.{decimal}
use Rattle.std.specs.List.{slice_get}
use Rattle.std.proofs.lemmas.Bool.{true≢false}
use Rattle.un_commands.specs.declared.command.SearchOptions.{SearchOptions}
use Rattle.un_commands.specs.declared.command.Command.{Command}
use Rattle.un_commands.specs.declared.command.Command.TheVariants.{Reads, Makes}
use Rattle.un_commands.specs.declared.command.ReadingCommand.TheVariants.{Alloc, Run, RunCode, Check, Improve, AllocTable, CheckTable, RunCodeTable}
use Rattle.un_commands.specs.declared.command.ReadingCommand.TheVariants.{Refute, RefuteCheck, Steps, StepsCheck}
use Rattle.un_commands.specs.declared.command.MakingCommand.TheVariants.{Generate, GenerateAlloc}
use Rattle.un_commands.specs.Alloc.{alloc_opening, improve_opening, refute_opening, IsOpening, IsImprove, IsRefute, HasSettings}
use Rattle.un_commands.specs.Commands.{IsCommand}
use Rattle.un_commands.specs.Generate.{IsSize}
use Rattle.un_commands.specs.Places.{StandsAt}
use Rattle.un_commands.specs.Settings.{IsCountOfNodes}
use Rattle.un_commands.specs.Steps.{steps_words, steps_check_words}
use Rattle.un_commands.proofs.Firsts.{take_push}
use Rattle.un_commands.proofs.RunLaws.{begins_two}
use Rattle.un_commands.proofs.Texts.{other_first, other_second, one_number, no_number}

pub read_at : (words more : List (List ℕ)) (place : ℕ) → words ≡ more → slice_get words place ≡ slice_get more place
read_at words more place e = ap (λ (ws : List (List ℕ)). slice_get ws place) e

-- the command of `alloc` with its settings, with the flag or without
abbrev pub alloc_of : Bool → SearchOptions → Command
alloc_of true options = Reads (AllocTable options)
alloc_of false options = Reads (Alloc options)

pub opens_alloc : (words : List (List ℕ)) (command : Command) → IsCommand words command → slice_get words 0 ≡ Some (codes "alloc")
    → (table : Bool) × (options : SearchOptions) × (command ≡ alloc_of table options) × HasSettings alloc_opening words table options
opens_alloc words (Reads (Alloc options)) h first = (false, options, refl, h)
opens_alloc words (Reads Run) h first = absurd (other_first 114 97 _ _ _ words (λ e. omega arith) h first)
opens_alloc words (Reads RunCode) h first = absurd (other_first 114 97 _ _ _ words (λ e. omega arith) h first)
opens_alloc words (Reads Check) h first = absurd (other_first 99 97 _ _ _ words (λ e. omega arith) h first)
opens_alloc words (Reads (Improve options)) h first = absurd (other_first 105 97 _ _ _ words (λ e. omega arith) h.spelled first)
opens_alloc words (Reads (AllocTable options)) h first = (true, options, refl, h)
opens_alloc words (Reads CheckTable) h first = absurd (other_first 99 97 _ _ _ words (λ e. omega arith) h first)
opens_alloc words (Reads RunCodeTable) h first = absurd (other_first 114 97 _ _ _ words (λ e. omega arith) h first)
opens_alloc words (Reads (Refute limit options)) h first =
    absurd (other_first 114 97 _ _ _ words (λ e. omega arith) h.settings.spelled first)
opens_alloc words (Reads RefuteCheck) h first = absurd (other_first 114 97 _ _ _ words (λ e. omega arith) h first)
opens_alloc words (Reads (Steps counts)) h first = absurd (other_first 115 97 _ _ _ words (λ e. omega arith) h first)
opens_alloc words (Reads (StepsCheck counts)) h first = absurd (other_first 115 97 _ _ _ words (λ e. omega arith) h first)
opens_alloc words (Makes (Generate seed size)) h first = absurd (other_first 103 97 _ _ _ words (λ e. omega arith) h.spelled first)
opens_alloc words (Makes (GenerateAlloc seed size nodes)) h first =
    absurd (other_first 103 97 _ _ _ words (λ e. omega arith) h.spelled first)

-- the command of `run` with its flags
pub data IsRunning (words : List (List ℕ)) (command : Command) : Type 0 where
  plain : command ≡ Reads Run → words ≡ codes "run" ∷ [] → IsRunning words command
  coded : command ≡ Reads RunCode → words ≡ codes "run" ∷ codes "--code" ∷ [] → IsRunning words command
  tabled : command ≡ Reads RunCodeTable → words ≡ codes "run" ∷ codes "--code" ∷ codes "--table" ∷ [] → IsRunning words command

pub opens_run : (words : List (List ℕ)) (command : Command) → IsCommand words command → slice_get words 0 ≡ Some (codes "run")
    → IsRunning words command
opens_run words (Reads (Alloc options)) h first = absurd (other_first 97 114 _ _ _ words (λ e. omega arith) h.spelled first)
opens_run words (Reads Run) h first = plain refl h
opens_run words (Reads RunCode) h first = coded refl h
opens_run words (Reads Check) h first = absurd (other_first 99 114 _ _ _ words (λ e. omega arith) h first)
opens_run words (Reads (Improve options)) h first = absurd (other_first 105 114 _ _ _ words (λ e. omega arith) h.spelled first)
opens_run words (Reads (AllocTable options)) h first = absurd (other_first 97 114 _ _ _ words (λ e. omega arith) h.spelled first)
opens_run words (Reads CheckTable) h first = absurd (other_first 99 114 _ _ _ words (λ e. omega arith) h first)
opens_run words (Reads RunCodeTable) h first = tabled refl h
opens_run words (Reads (Refute limit options)) h first =
    absurd (other_second 101 117 114 114 _ _ _ words (λ e. omega arith) h.settings.spelled first)
opens_run words (Reads RefuteCheck) h first = absurd (other_second 101 117 114 114 _ _ _ words (λ e. omega arith) h first)
opens_run words (Reads (Steps counts)) h first = absurd (other_first 115 114 _ _ _ words (λ e. omega arith) h first)
opens_run words (Reads (StepsCheck counts)) h first = absurd (other_first 115 114 _ _ _ words (λ e. omega arith) h first)
opens_run words (Makes (Generate seed size)) h first = absurd (other_first 103 114 _ _ _ words (λ e. omega arith) h.spelled first)
opens_run words (Makes (GenerateAlloc seed size nodes)) h first =
    absurd (other_first 103 114 _ _ _ words (λ e. omega arith) h.spelled first)

pub opens_check : (words : List (List ℕ)) (command : Command) → IsCommand words command → slice_get words 0 ≡ Some (codes "check")
    → ((command ≡ Reads Check) × (words ≡ codes "check" ∷ []))
    ⊎ ((command ≡ Reads CheckTable) × (words ≡ codes "check" ∷ codes "--table" ∷ []))
opens_check words (Reads (Alloc options)) h first = absurd (other_first 97 99 _ _ _ words (λ e. omega arith) h.spelled first)
opens_check words (Reads Run) h first = absurd (other_first 114 99 _ _ _ words (λ e. omega arith) h first)
opens_check words (Reads RunCode) h first = absurd (other_first 114 99 _ _ _ words (λ e. omega arith) h first)
opens_check words (Reads Check) h first = inl (refl, h)
opens_check words (Reads (Improve options)) h first = absurd (other_first 105 99 _ _ _ words (λ e. omega arith) h.spelled first)
opens_check words (Reads (AllocTable options)) h first = absurd (other_first 97 99 _ _ _ words (λ e. omega arith) h.spelled first)
opens_check words (Reads CheckTable) h first = inr (refl, h)
opens_check words (Reads RunCodeTable) h first = absurd (other_first 114 99 _ _ _ words (λ e. omega arith) h first)
opens_check words (Reads (Refute limit options)) h first =
    absurd (other_first 114 99 _ _ _ words (λ e. omega arith) h.settings.spelled first)
opens_check words (Reads RefuteCheck) h first = absurd (other_first 114 99 _ _ _ words (λ e. omega arith) h first)
opens_check words (Reads (Steps counts)) h first = absurd (other_first 115 99 _ _ _ words (λ e. omega arith) h first)
opens_check words (Reads (StepsCheck counts)) h first = absurd (other_first 115 99 _ _ _ words (λ e. omega arith) h first)
opens_check words (Makes (Generate seed size)) h first = absurd (other_first 103 99 _ _ _ words (λ e. omega arith) h.spelled first)
opens_check words (Makes (GenerateAlloc seed size nodes)) h first =
    absurd (other_first 103 99 _ _ _ words (λ e. omega arith) h.spelled first)

pub opens_improve : (words : List (List ℕ)) (command : Command) → IsCommand words command → slice_get words 0 ≡ Some (codes "improve")
    → (options : SearchOptions) × (command ≡ Reads (Improve options)) × IsImprove words options
opens_improve words (Reads (Alloc options)) h first = absurd (other_first 97 105 _ _ _ words (λ e. omega arith) h.spelled first)
opens_improve words (Reads Run) h first = absurd (other_first 114 105 _ _ _ words (λ e. omega arith) h first)
opens_improve words (Reads RunCode) h first = absurd (other_first 114 105 _ _ _ words (λ e. omega arith) h first)
opens_improve words (Reads Check) h first = absurd (other_first 99 105 _ _ _ words (λ e. omega arith) h first)
opens_improve words (Reads (Improve options)) h first = (options, refl, h)
opens_improve words (Reads (AllocTable options)) h first = absurd (other_first 97 105 _ _ _ words (λ e. omega arith) h.spelled first)
opens_improve words (Reads CheckTable) h first = absurd (other_first 99 105 _ _ _ words (λ e. omega arith) h first)
opens_improve words (Reads RunCodeTable) h first = absurd (other_first 114 105 _ _ _ words (λ e. omega arith) h first)
opens_improve words (Reads (Refute limit options)) h first =
    absurd (other_first 114 105 _ _ _ words (λ e. omega arith) h.settings.spelled first)
opens_improve words (Reads RefuteCheck) h first = absurd (other_first 114 105 _ _ _ words (λ e. omega arith) h first)
opens_improve words (Reads (Steps counts)) h first = absurd (other_first 115 105 _ _ _ words (λ e. omega arith) h first)
opens_improve words (Reads (StepsCheck counts)) h first = absurd (other_first 115 105 _ _ _ words (λ e. omega arith) h first)
opens_improve words (Makes (Generate seed size)) h first = absurd (other_first 103 105 _ _ _ words (λ e. omega arith) h.spelled first)
opens_improve words (Makes (GenerateAlloc seed size nodes)) h first =
    absurd (other_first 103 105 _ _ _ words (λ e. omega arith) h.spelled first)

-- the command of `refute` with a limit and its settings, or with its flag
pub data IsRefuting (words : List (List ℕ)) (command : Command) : Type 0 where
  asked : (limit : ℕ) → (options : SearchOptions) → command ≡ Reads (Refute limit options) → IsRefute words limit options
      → IsRefuting words command
  checked : command ≡ Reads RefuteCheck → words ≡ codes "refute" ∷ codes "--check" ∷ [] → IsRefuting words command

pub opens_refute : (words : List (List ℕ)) (command : Command) → IsCommand words command → slice_get words 0 ≡ Some (codes "refute")
    → IsRefuting words command
opens_refute words (Reads (Alloc options)) h first = absurd (other_first 97 114 _ _ _ words (λ e. omega arith) h.spelled first)
opens_refute words (Reads Run) h first = absurd (other_second 117 101 114 114 _ _ _ words (λ e. omega arith) h first)
opens_refute words (Reads RunCode) h first = absurd (other_second 117 101 114 114 _ _ _ words (λ e. omega arith) h first)
opens_refute words (Reads Check) h first = absurd (other_first 99 114 _ _ _ words (λ e. omega arith) h first)
opens_refute words (Reads (Improve options)) h first = absurd (other_first 105 114 _ _ _ words (λ e. omega arith) h.spelled first)
opens_refute words (Reads (AllocTable options)) h first = absurd (other_first 97 114 _ _ _ words (λ e. omega arith) h.spelled first)
opens_refute words (Reads CheckTable) h first = absurd (other_first 99 114 _ _ _ words (λ e. omega arith) h first)
opens_refute words (Reads RunCodeTable) h first = absurd (other_second 117 101 114 114 _ _ _ words (λ e. omega arith) h first)
opens_refute words (Reads (Refute limit options)) h first = asked limit options refl h
opens_refute words (Reads RefuteCheck) h first = checked refl h
opens_refute words (Reads (Steps counts)) h first = absurd (other_first 115 114 _ _ _ words (λ e. omega arith) h first)
opens_refute words (Reads (StepsCheck counts)) h first = absurd (other_first 115 114 _ _ _ words (λ e. omega arith) h first)
opens_refute words (Makes (Generate seed size)) h first = absurd (other_first 103 114 _ _ _ words (λ e. omega arith) h.spelled first)
opens_refute words (Makes (GenerateAlloc seed size nodes)) h first =
    absurd (other_first 103 114 _ _ _ words (λ e. omega arith) h.spelled first)

-- where a limit is the second word, it is that of the command
pub opens_limit : (words : List (List ℕ)) (command : Command) (limit : ℕ) → limit < 2 ^ 64 → IsCommand words command
    → slice_get words 0 ≡ Some (codes "refute") → slice_get words 1 ≡ Some (decimal limit)
    → (options : SearchOptions) × (command ≡ Reads (Refute limit options)) × HasSettings (refute_opening limit) words false options
opens_limit words command limit fits h first second = elim (opens_refute words command h first) [
  | asked limit' options is settings ↦ by limit' options is settings
      (one_number words 1 limit' limit settings.limit_fits fits (read_at words _ 1 settings.settings.spelled) second)
  | checked is w ↦ absurd (no_number words 1 _ limit fits (read_at words _ 1 w) second)
]
  where
    by : (limit' : ℕ) (options : SearchOptions) → command ≡ Reads (Refute limit' options) → IsRefute words limit' options → limit' ≡ limit
        → (options : SearchOptions) × (command ≡ Reads (Refute limit options)) × HasSettings (refute_opening limit) words false options
    by limit' options is settings same = (
      options,
      is ∙ ap (λ n. Reads (Refute n options)) same,
      subst (λ n. HasSettings (refute_opening n) words false options) same settings.settings,
    )

-- ---- what stands before settings

pub alloc_opens : (words : List (List ℕ)) → StandsAt words 0 (codes "alloc") → IsOpening (take 1 words) true
alloc_opens words first = inl (take_push 0 words (codes "alloc") first, refl)

pub improve_opens : (words : List (List ℕ)) → StandsAt words 0 (codes "improve") → IsOpening (take 1 words) false
improve_opens words first = inr (inl (take_push 0 words (codes "improve") first, refl))

pub refute_opens : (words : List (List ℕ)) (limit : ℕ) → StandsAt words 0 (codes "refute") → limit < 2 ^ 64
    → StandsAt words 1 (decimal limit) → IsOpening (take 2 words) false
refute_opens words limit first fits second = inr (inr (limit, fits, begins_two words (codes "refute") (decimal limit) first second, refl))

-- two words at most
pub opening_short : (opening : List (List ℕ)) (takes : Bool) → IsOpening opening takes → length opening ≤ 2
opening_short opening takes (inl e) = let same : length opening ≡ 1 = ap length e.0 in omega arith
opening_short opening takes (inr (inl e)) = let same : length opening ≡ 1 = ap length e.0 in omega arith
opening_short opening takes (inr (inr e)) = let same : length opening ≡ 2 = ap length e.2 in omega arith

-- the command of settings behind an opening, with the flag or without
abbrev pub search_of : (opening : List (List ℕ)) (takes : Bool) → IsOpening opening takes → Bool → SearchOptions → Command
search_of opening takes (inl e) table options = alloc_of table options
search_of opening takes (inr (inl e)) table options = Reads (Improve options)
search_of opening takes (inr (inr e)) table options = Reads (Refute e.0 options)

is_alloc : (words : List (List ℕ)) (table : Bool) (options : SearchOptions) → HasSettings alloc_opening words table options
    → IsCommand words (alloc_of table options)
is_alloc words true options h = h
is_alloc words false options h = h

-- settings with the flag are those of the one command, without it those of the other
settings_of : (opening words : List (List ℕ)) (place : ℕ) (t u : Bool) (options : SearchOptions) → take place words ≡ opening
    → HasSettings (take place words) words t options → t ≡ u → HasSettings opening words u options
settings_of opening words place t u options begins h is =
    subst (λ (b : Bool). HasSettings opening words b options) is
    (subst (λ (ws : List (List ℕ)). HasSettings ws words t options) begins h)

pub with_flag : (words : List (List ℕ)) (table : Bool) (options : SearchOptions) → StandsAt words 0 (codes "alloc")
    → HasSettings (take 1 words) words table options → table ≡ true → HasSettings alloc_opening words true options
with_flag words table options first h is =
    settings_of alloc_opening words 1 table true options (take_push 0 words (codes "alloc") first) h is

pub without_flag : (words : List (List ℕ)) (table : Bool) (options : SearchOptions) → StandsAt words 0 (codes "alloc")
    → HasSettings (take 1 words) words table options → table ≡ false → HasSettings alloc_opening words false options
without_flag words table options first h is =
    settings_of alloc_opening words 1 table false options (take_push 0 words (codes "alloc") first) h is

-- what takes no flag has none
pub is_without : (table takes : Bool) → (table ≡ true → takes ≡ true) → takes ≡ false → table ≡ false
is_without true takes may none = sym (may refl) ∙ none
is_without false takes may none = refl

pub improves : (words : List (List ℕ)) (table : Bool) (options : SearchOptions) → StandsAt words 0 (codes "improve")
    → HasSettings (take 1 words) words table options → (table ≡ true → false ≡ true) → HasSettings improve_opening words false options
improves words table options first h may =
    settings_of improve_opening words 1 table false options (take_push 0 words (codes "improve") first) h (is_without table false may refl)

pub refutes : (words : List (List ℕ)) (limit : ℕ) (table : Bool) (options : SearchOptions) → StandsAt words 0 (codes "refute")
    → limit < 2 ^ 64 → StandsAt words 1 (decimal limit) → HasSettings (take 2 words) words table options
    → (table ≡ true → false ≡ true) → IsRefute words limit options
refutes words limit table options first fits second h may = record {
  limit_fits = fits;
  settings = settings_of (refute_opening limit) words 2 table false options
      (begins_two words (codes "refute") (decimal limit) first second) h (is_without table false may refl);
}

pub is_search : (opening : List (List ℕ)) (takes : Bool) (named : IsOpening opening takes) (words : List (List ℕ)) (table : Bool)
    (options : SearchOptions) → (table ≡ true → takes ≡ true) → HasSettings opening words table options
    → IsCommand words (search_of opening takes named table options)
is_search opening takes (inl e) words table options may h =
    is_alloc words table options (subst (λ (ws : List (List ℕ)). HasSettings ws words table options) e.0 h)
is_search opening takes (inr (inl e)) words table options may h =
    subst (λ (ws : List (List ℕ)). HasSettings ws words false options) e.0
    (subst (λ (t : Bool). HasSettings opening words t options) (is_without table takes may e.1) h)
is_search opening takes (inr (inr e)) words table options may h = record {
  limit_fits = e.1;
  settings = subst (λ (ws : List (List ℕ)). HasSettings ws words false options) e.2
      (subst (λ (t : Bool). HasSettings opening words t options) (is_without table takes may e.3) h);
}

-- a command that begins with an opening has settings behind it, and the flag where that may stand
pub record Searches (opening : List (List ℕ)) (takes : Bool) (words : List (List ℕ)) : Type 0 where
  pub table : Bool
  pub options : SearchOptions
  pub may : table ≡ true → takes ≡ true
  pub has : HasSettings opening words table options

-- the words begin with an opening
abbrev pub Opens : List (List ℕ) → List (List ℕ) → Type 0
Opens opening words = (j : ℕ) → j < length opening → slice_get words j ≡ slice_get opening j

-- the word of an opening at a place
word_of : (opening words others : List (List ℕ)) (j : ℕ) → Opens opening words → opening ≡ others → j < length others
    → slice_get words j ≡ slice_get others j
word_of opening words others j opens is within =
    let same : length opening ≡ length others = ap length is in opens j (omega arith) ∙ ap (λ (ws : List (List ℕ)). slice_get ws j) is

pub opens_search : (opening : List (List ℕ)) (takes : Bool) → IsOpening opening takes → (words : List (List ℕ)) (command : Command)
    → IsCommand words command → Opens opening words → Searches opening takes words
opens_search opening takes (inl e) words command h opens =
    let opened = opens_alloc words command h (word_of opening words alloc_opening 0 opens e.0 (lit< tt)) in record {
      table = opened.0;
      options = opened.1;
      may = λ asked. e.1;
      has = subst (λ (ws : List (List ℕ)). HasSettings ws words opened.0 opened.1) (sym e.0) opened.3;
    }
opens_search opening takes (inr (inl e)) words command h opens =
    let opened = opens_improve words command h (word_of opening words improve_opening 0 opens e.0 (lit< tt)) in record {
      table = false;
      options = opened.0;
      may = λ asked. absurd (true≢false (sym asked));
      has = subst (λ (ws : List (List ℕ)). HasSettings ws words false opened.0) (sym e.0) opened.2;
    }
opens_search opening takes (inr (inr e)) words command h opens =
    let opened = opens_limit words command e.0 e.1 h (word_of opening words (refute_opening e.0) 0 opens e.2 (lit< tt))
    (word_of opening words (refute_opening e.0) 1 opens e.2 (lit< tt)) in record {
      table = false;
      options = opened.0;
      may = λ asked. absurd (true≢false (sym asked));
      has = subst (λ (ws : List (List ℕ)). HasSettings ws words false opened.0) (sym e.2) opened.2;
    }

-- the command of `steps`, with the flag `--check` or without
pub data IsStepping (words : List (List ℕ)) (command : Command) : Type 0 where
  logged : (counts : Bool) → command ≡ Reads (Steps counts) → words ≡ steps_words counts → IsStepping words command
  judged : (counts : Bool) → command ≡ Reads (StepsCheck counts) → words ≡ steps_check_words counts → IsStepping words command

pub opens_steps : (words : List (List ℕ)) (command : Command) → IsCommand words command → slice_get words 0 ≡ Some (codes "steps")
    → IsStepping words command
opens_steps words (Reads (Alloc options)) h first = absurd (other_first 97 115 _ _ _ words (λ e. omega arith) h.spelled first)
opens_steps words (Reads Run) h first = absurd (other_first 114 115 _ _ _ words (λ e. omega arith) h first)
opens_steps words (Reads RunCode) h first = absurd (other_first 114 115 _ _ _ words (λ e. omega arith) h first)
opens_steps words (Reads Check) h first = absurd (other_first 99 115 _ _ _ words (λ e. omega arith) h first)
opens_steps words (Reads (Improve options)) h first = absurd (other_first 105 115 _ _ _ words (λ e. omega arith) h.spelled first)
opens_steps words (Reads (AllocTable options)) h first = absurd (other_first 97 115 _ _ _ words (λ e. omega arith) h.spelled first)
opens_steps words (Reads CheckTable) h first = absurd (other_first 99 115 _ _ _ words (λ e. omega arith) h first)
opens_steps words (Reads RunCodeTable) h first = absurd (other_first 114 115 _ _ _ words (λ e. omega arith) h first)
opens_steps words (Reads (Refute limit options)) h first = absurd (other_first 114 115 _ _ _ words (λ e. omega arith) h.settings.spelled first)
opens_steps words (Reads RefuteCheck) h first = absurd (other_first 114 115 _ _ _ words (λ e. omega arith) h first)
opens_steps words (Reads (Steps counts)) h first = logged counts refl h
opens_steps words (Reads (StepsCheck counts)) h first = judged counts refl h
opens_steps words (Makes (Generate seed size)) h first = absurd (other_first 103 115 _ _ _ words (λ e. omega arith) h.spelled first)
opens_steps words (Makes (GenerateAlloc seed size nodes)) h first =
    absurd (other_first 103 115 _ _ _ words (λ e. omega arith) h.spelled first)

-- what stands behind a size: nothing, or a number of nodes
pub data IsTail (words : List (List ℕ)) (command : Command) (seed size : ℕ) : Type 0 where
  ends : command ≡ Makes (Generate seed size) → slice_get words 3 ≡ None → IsTail words command seed size
  goes : (n : ℕ) → command ≡ Makes (GenerateAlloc seed size n) → slice_get words 3 ≡ Some (codes "--nodes") → IsCountOfNodes n
      → slice_get words 4 ≡ Some (decimal n) → slice_get words 5 ≡ None → IsTail words command seed size

-- the words of a command that begins with `gen`
pub record IsGen (words : List (List ℕ)) (command : Command) : Type 0 where
  pub seed : ℕ
  pub size : ℕ
  pub seed_fits : seed < 2 ^ 64
  pub size_in : IsSize size
  pub seed_at : slice_get words 1 ≡ Some (decimal seed)
  pub size_at : slice_get words 2 ≡ Some (decimal size)
  pub tail : IsTail words command seed size

pub opens_gen : (words : List (List ℕ)) (command : Command) → IsCommand words command → slice_get words 0 ≡ Some (codes "gen")
    → IsGen words command
opens_gen words (Reads (Alloc options)) h first = absurd (other_first 97 103 _ _ _ words (λ e. omega arith) h.spelled first)
opens_gen words (Reads Run) h first = absurd (other_first 114 103 _ _ _ words (λ e. omega arith) h first)
opens_gen words (Reads RunCode) h first = absurd (other_first 114 103 _ _ _ words (λ e. omega arith) h first)
opens_gen words (Reads Check) h first = absurd (other_first 99 103 _ _ _ words (λ e. omega arith) h first)
opens_gen words (Reads (Improve options)) h first = absurd (other_first 105 103 _ _ _ words (λ e. omega arith) h.spelled first)
opens_gen words (Reads (AllocTable options)) h first = absurd (other_first 97 103 _ _ _ words (λ e. omega arith) h.spelled first)
opens_gen words (Reads CheckTable) h first = absurd (other_first 99 103 _ _ _ words (λ e. omega arith) h first)
opens_gen words (Reads RunCodeTable) h first = absurd (other_first 114 103 _ _ _ words (λ e. omega arith) h first)
opens_gen words (Reads (Refute limit options)) h first =
    absurd (other_first 114 103 _ _ _ words (λ e. omega arith) h.settings.spelled first)
opens_gen words (Reads RefuteCheck) h first = absurd (other_first 114 103 _ _ _ words (λ e. omega arith) h first)
opens_gen words (Reads (Steps counts)) h first = absurd (other_first 115 103 _ _ _ words (λ e. omega arith) h first)
opens_gen words (Reads (StepsCheck counts)) h first = absurd (other_first 115 103 _ _ _ words (λ e. omega arith) h first)
opens_gen words (Makes (Generate seed size)) h first = record {
  seed = seed;
  size = size;
  seed_fits = h.seed_fits;
  size_in = h.size_in;
  seed_at = read_at words _ 1 h.spelled;
  size_at = read_at words _ 2 h.spelled;
  tail = ends refl (read_at words _ 3 h.spelled);
}
opens_gen words (Makes (GenerateAlloc seed size nodes)) h first = record {
  seed = seed;
  size = size;
  seed_fits = h.seed_fits;
  size_in = h.size_in;
  seed_at = read_at words _ 1 h.spelled;
  size_at = read_at words _ 2 h.spelled;
  tail = goes nodes refl (read_at words _ 3 h.spelled) h.nodes_in (read_at words _ 4 h.spelled) (read_at words _ 5 h.spelled);
}

pub first_words : (words : List (List ℕ)) (command : Command) → IsCommand words command
    → StandsAt words 0 (codes "alloc")
    ⊎ (StandsAt words 0 (codes "run") ⊎ (StandsAt words 0 (codes "check") ⊎ (StandsAt words 0 (codes "gen")
    ⊎ (StandsAt words 0 (codes "improve") ⊎ (StandsAt words 0 (codes "refute") ⊎ StandsAt words 0 (codes "steps"))))))
first_words words (Reads (Alloc options)) h = inl (read_at words _ 0 h.spelled)
first_words words (Reads Run) h = inr (inl (read_at words _ 0 h))
first_words words (Reads RunCode) h = inr (inl (read_at words _ 0 h))
first_words words (Reads Check) h = inr (inr (inl (read_at words _ 0 h)))
first_words words (Reads (Improve options)) h = inr (inr (inr (inr (inl (read_at words _ 0 h.spelled)))))
first_words words (Reads (AllocTable options)) h = inl (read_at words _ 0 h.spelled)
first_words words (Reads CheckTable) h = inr (inr (inl (read_at words _ 0 h)))
first_words words (Reads RunCodeTable) h = inr (inl (read_at words _ 0 h))
first_words words (Reads (Refute limit options)) h = inr (inr (inr (inr (inr (inl (read_at words _ 0 h.settings.spelled))))))
first_words words (Reads RefuteCheck) h = inr (inr (inr (inr (inr (inl (read_at words _ 0 h))))))
first_words words (Reads (Steps counts)) h = inr (inr (inr (inr (inr (inr (read_at words _ 0 h))))))
first_words words (Reads (StepsCheck counts)) h = inr (inr (inr (inr (inr (inr (read_at words _ 0 h))))))
first_words words (Makes (Generate seed size)) h = inr (inr (inr (inl (read_at words _ 0 h.spelled))))
first_words words (Makes (GenerateAlloc seed size nodes)) h = inr (inr (inr (inl (read_at words _ 0 h.spelled))))
