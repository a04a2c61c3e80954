-- The words of `steps`: which they are, and the place of the first bad one.
use Rattle.std.proofs.Common.{ℕ, ◌≡◌, ◌<◌, inl, inr, Bool, true, false, List, length, codes, refl, sym, ◌∙◌, arith}
use Rattle.un_commands.specs.declared.command.Command.TheVariants.{Reads}
use Rattle.un_commands.specs.declared.command.ReadingCommand.TheVariants.{Steps, StepsCheck}
use Rattle.un_commands.specs.Commands.{IsBadWord}
use Rattle.un_commands.specs.Places.{StandsAt}
use Rattle.un_commands.specs.Steps.{steps_words, steps_check_words, EndsWith, IsBadEnd}
use Rattle.un_commands.proofs.Firsts.{take_push}
use Rattle.un_commands.proofs.GenerateLaws.{is_there}
use Rattle.un_commands.proofs.Openers.{opens_steps, logged, judged, read_at}
use Rattle.un_commands.proofs.RunLaws.{one_word, begins_two, two_words, begins_three, three_words}
use Rattle.un_commands.proofs.Texts.{some_or_none, other_fourth}
use Rattle.un_commands.proofs.WordLaws.{bad_word}

-- ---- words are those of one command

pub one_log : (words : List (List ℕ)) (c d : Bool) → words ≡ steps_words c → words ≡ steps_words d → c ≡ d
one_log words true true a b = refl
one_log words true false a b = absurd (some_or_none words 1 _ (read_at words _ 1 a) (read_at words _ 1 b))
one_log words false true a b = absurd (some_or_none words 1 _ (read_at words _ 1 b) (read_at words _ 1 a))
one_log words false false a b = refl

pub one_check_of_log : (words : List (List ℕ)) (c d : Bool) → words ≡ steps_check_words c → words ≡ steps_check_words d → c ≡ d
one_check_of_log words true true a b = refl
one_check_of_log words true false a b = absurd (some_or_none words 2 _ (read_at words _ 2 a) (read_at words _ 2 b))
one_check_of_log words false true a b = absurd (some_or_none words 2 _ (read_at words _ 2 b) (read_at words _ 2 a))
one_check_of_log words false false a b = refl

-- the two flags do not stand at one place
two_flags : (words : List (List ℕ)) (place : ℕ) → StandsAt words place (codes "--counts") → StandsAt words place (codes "--check") → ⊥
two_flags words place counts check = other_fourth words place 111 104 _ _ _ _ _ (λ e. omega arith) counts check

-- words without the flag `--check` are not with it
no_check_behind : (words : List (List ℕ)) (c : Bool) → words ≡ steps_words c → ¬ StandsAt words 1 (codes "--check")
no_check_behind words true a check = two_flags words 1 (read_at words _ 1 a) check
no_check_behind words false a check = some_or_none words 1 _ check (read_at words _ 1 a)

check_behind : (words : List (List ℕ)) (c : Bool) → words ≡ steps_check_words c → StandsAt words 1 (codes "--check")
check_behind words c a = read_at words _ 1 a

pub no_check_of_log : (words : List (List ℕ)) (c d : Bool) → words ≡ steps_words c → words ≡ steps_check_words d → ⊥
no_check_of_log words c d a b = no_check_behind words c a (check_behind words d b)

-- ---- they are of a command

pub is_log : (words : List (List ℕ)) (counts : Bool) → StandsAt words 0 (codes "steps") → EndsWith words 1 counts
    → words ≡ steps_words counts
is_log words true first ends = two_words words _ _ first ends.0 ends.1
is_log words false first ends = one_word words _ first ends

pub is_check_of_log : (words : List (List ℕ)) (counts : Bool) → StandsAt words 0 (codes "steps") → StandsAt words 1 (codes "--check")
    → EndsWith words 2 counts → words ≡ steps_check_words counts
is_check_of_log words true first second ends = three_words words _ _ _ first second ends.0 ends.1
is_check_of_log words false first second ends = two_words words _ _ first second ends

-- ---- or of none

-- neither of the flags behind the first word
no_flag : (words : List (List ℕ)) → StandsAt words 0 (codes "steps") → ¬ StandsAt words 1 (codes "--check") → 1 < length words
    → ¬ StandsAt words 1 (codes "--counts") → IsBadWord words 1
no_flag words first no_check long no_counts = bad_word words 1 (Reads (Steps false)) (steps_words false) refl
    (take_push 0 words (codes "steps") first)
    (λ other others is alike. elim (opens_steps others other is (sym (alike 0 (omega arith)) ∙ first)) [
      | logged true e w ↦ no_counts (alike 1 (omega arith) ∙ read_at others _ 1 w)
      | logged false e w ↦ is_there words 1 long (alike 1 (omega arith) ∙ read_at others _ 1 w)
      | judged c e w ↦ no_check (alike 1 (omega arith) ∙ check_behind others c w)
    ])

-- a word behind the flag `--counts`
log_goes_on : (words : List (List ℕ)) → StandsAt words 0 (codes "steps") → ¬ StandsAt words 1 (codes "--check") → 2 < length words
    → StandsAt words 1 (codes "--counts") → IsBadWord words 2
log_goes_on words first no_check long counts = bad_word words 2 (Reads (Steps true)) (steps_words true) refl
    (begins_two words (codes "steps") (codes "--counts") first counts)
    (λ other others is alike. elim (opens_steps others other is (sym (alike 0 (omega arith)) ∙ first)) [
      | logged true e w ↦ is_there words 2 long (alike 2 (omega arith) ∙ read_at others _ 2 w)
      | logged false e w ↦ some_or_none words 1 _ counts (alike 1 (omega arith) ∙ read_at others _ 1 w)
      | judged c e w ↦ no_check (alike 1 (omega arith) ∙ check_behind others c w)
    ])

-- another word behind the flag `--check`
no_second_flag : (words : List (List ℕ)) → StandsAt words 0 (codes "steps") → StandsAt words 1 (codes "--check") → 2 < length words
    → ¬ StandsAt words 2 (codes "--counts") → IsBadWord words 2
no_second_flag words first check long no_counts = bad_word words 2 (Reads (StepsCheck false)) (steps_check_words false) refl
    (begins_two words (codes "steps") (codes "--check") first check)
    (λ other others is alike. elim (opens_steps others other is (sym (alike 0 (omega arith)) ∙ first)) [
      | logged c e w ↦ no_check_behind others c w (sym (alike 1 (omega arith)) ∙ check)
      | judged true e w ↦ no_counts (alike 2 (omega arith) ∙ read_at others _ 2 w)
      | judged false e w ↦ is_there words 2 long (alike 2 (omega arith) ∙ read_at others _ 2 w)
    ])

-- a word behind both
check_goes_on : (words : List (List ℕ)) → StandsAt words 0 (codes "steps") → StandsAt words 1 (codes "--check") → 3 < length words
    → StandsAt words 2 (codes "--counts") → IsBadWord words 3
check_goes_on words first check long counts = bad_word words 3 (Reads (StepsCheck true)) (steps_check_words true) refl
    (begins_three words (codes "steps") (codes "--check") (codes "--counts") first check counts)
    (λ other others is alike. elim (opens_steps others other is (sym (alike 0 (omega arith)) ∙ first)) [
      | logged c e w ↦ no_check_behind others c w (sym (alike 1 (omega arith)) ∙ check)
      | judged true e w ↦ is_there words 3 long (alike 3 (omega arith) ∙ read_at others _ 3 w)
      | judged false e w ↦ some_or_none words 2 _ counts (alike 2 (omega arith) ∙ read_at others _ 2 w)
    ])

pub bad_log : (words : List (List ℕ)) (bad : ℕ) → StandsAt words 0 (codes "steps") → ¬ StandsAt words 1 (codes "--check")
    → IsBadEnd words 1 bad → IsBadWord words bad
bad_log words bad first no_check (inl h) = rw h.0 (no_flag words first no_check h.1 h.2)
bad_log words bad first no_check (inr h) = rw h.0 (log_goes_on words first no_check h.1 h.2)

pub bad_check_of_log : (words : List (List ℕ)) (bad : ℕ) → StandsAt words 0 (codes "steps") → StandsAt words 1 (codes "--check")
    → IsBadEnd words 2 bad → IsBadWord words bad
bad_check_of_log words bad first check (inl h) = rw h.0 (no_second_flag words first check h.1 h.2)
bad_check_of_log words bad first check (inr h) = rw h.0 (check_goes_on words first check h.1 h.2)
