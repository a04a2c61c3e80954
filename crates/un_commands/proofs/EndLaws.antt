-- Words of `check` and `run` that are too many, or another flag; and a first word that is not a command's.
use Rattle.std.proofs.Common.{ℕ, ◌≡◌, ◌≢◌, ◌+◌, ◌<◌, inl, inr, List, [], ◌∷◌, length, codes, refl, sym, ◌∙◌, arith, Bool, false, Some, None, IsTrue, ◌↔◌}
use Rattle.std.specs.List.{slice_get}
use Rattle.std.proofs.lemmas.Bool.{true≢false}
use Rattle.std.proofs.lemmas.Option.{slice_get_within}
use Rattle.un_commands.specs.declared.command.Command.TheVariants.{Reads}
use Rattle.un_commands.specs.declared.command.ReadingCommand.TheVariants.{Run, RunCode, Check, CheckTable, RunCodeTable}
use Rattle.un_commands.specs.Commands.{IsBadWord}
use Rattle.un_commands.specs.Places.{StandsAt}
use Rattle.un_commands.proofs.Firsts.{take_push}
use Rattle.un_commands.proofs.GenerateLaws.{is_there}
use Rattle.un_commands.proofs.Openers.{opens_run, opens_check, plain, coded, tabled, read_at}
use Rattle.un_commands.proofs.RunLaws.{begins_two, begins_three}
use Rattle.un_commands.proofs.Texts.{some_or_none}
use Rattle.un_commands.proofs.WordLaws.{bad_word}

two : (words : List (List ℕ)) (place : ℕ) → place < length words → length words ≢ place + 1 → place + 1 < length words
two words place some more = omega arith

-- another word than the flag behind `check`
pub bad_check : (words : List (List ℕ)) → StandsAt words 0 (codes "check") → length words ≢ 1 → ¬ StandsAt words 1 (codes "--table")
    → IsBadWord words 1
bad_check words first more none = bad_word words 1 (Reads Check) (codes "check" ∷ []) refl (take_push 0 words (codes "check") first)
    (λ other others is alike. elim (opens_check others other is (sym (alike 0 (omega arith)) ∙ first)) [
      | inl alone ↦ is_there words 1 (two words 0 (slice_get_within words 0 (codes "check") first) more)
          (alike 1 (omega arith) ∙ read_at others _ 1 alone.1)
      | inr with_table ↦ none (alike 1 (omega arith) ∙ read_at others _ 1 with_table.1)
    ])

-- a word behind that
pub bad_check_end : (words : List (List ℕ)) → StandsAt words 0 (codes "check") → StandsAt words 1 (codes "--table") → 2 < length words
    → IsBadWord words 2
bad_check_end words first second long = bad_word words 2 (Reads CheckTable) (codes "check" ∷ codes "--table" ∷ []) refl
    (begins_two words (codes "check") (codes "--table") first second)
    (λ other others is alike. elim (opens_check others other is (sym (alike 0 (omega arith)) ∙ first)) [
      | inl alone ↦ some_or_none words 1 _ second (alike 1 (omega arith) ∙ read_at others _ 1 alone.1)
      | inr with_table ↦ is_there words 2 long (alike 2 (omega arith) ∙ read_at others _ 2 with_table.1)
    ])

-- another word than the flag behind `run`
pub bad_flag : (words : List (List ℕ)) → StandsAt words 0 (codes "run") → length words ≢ 1 → ¬ StandsAt words 1 (codes "--code")
    → IsBadWord words 1
bad_flag words first more none = bad_word words 1 (Reads Run) (codes "run" ∷ []) refl (take_push 0 words (codes "run") first)
    (λ other others is alike. elim (opens_run others other is (sym (alike 0 (omega arith)) ∙ first)) [
      | plain e w ↦ is_there words 1 (two words 0 (slice_get_within words 0 (codes "run") first) more)
          (alike 1 (omega arith) ∙ read_at others _ 1 w)
      | coded e w ↦ none (alike 1 (omega arith) ∙ read_at others _ 1 w)
      | tabled e w ↦ none (alike 1 (omega arith) ∙ read_at others _ 1 w)
    ])

-- another word than the second flag behind the first
pub bad_second : (words : List (List ℕ)) → StandsAt words 0 (codes "run") → StandsAt words 1 (codes "--code") → length words ≢ 2
    → ¬ StandsAt words 2 (codes "--table") → IsBadWord words 2
bad_second words first second more none = bad_word words 2 (Reads RunCode) (codes "run" ∷ codes "--code" ∷ []) refl
    (begins_two words (codes "run") (codes "--code") first second)
    (λ other others is alike. elim (opens_run others other is (sym (alike 0 (omega arith)) ∙ first)) [
      | plain e w ↦ some_or_none words 1 _ second (alike 1 (omega arith) ∙ read_at others _ 1 w)
      | coded e w ↦ is_there words 2 (two words 1 (slice_get_within words 1 (codes "--code") second) more)
          (alike 2 (omega arith) ∙ read_at others _ 2 w)
      | tabled e w ↦ none (alike 2 (omega arith) ∙ read_at others _ 2 w)
    ])

-- a word behind both
pub bad_end : (words : List (List ℕ)) → StandsAt words 0 (codes "run") → StandsAt words 1 (codes "--code")
    → StandsAt words 2 (codes "--table")
    → 3 < length words → IsBadWord words 3
bad_end words first second third long = bad_word words 3 (Reads RunCodeTable) (codes "run" ∷ codes "--code" ∷ codes "--table" ∷ []) refl
    (begins_three words (codes "run") (codes "--code") (codes "--table") first second third)
    (λ other others is alike. elim (opens_run others other is (sym (alike 0 (omega arith)) ∙ first)) [
      | plain e w ↦ some_or_none words 1 _ second (alike 1 (omega arith) ∙ read_at others _ 1 w)
      | coded e w ↦ some_or_none words 2 _ third (alike 2 (omega arith) ∙ read_at others _ 2 w)
      | tabled e w ↦ is_there words 3 long (alike 3 (omega arith) ∙ read_at others _ 3 w)
    ])

-- a first word that is another text
pub not_first : (words : List (List ℕ)) (first text : List ℕ) (b : Bool) → slice_get words 0 ≡ Some first → IsTrue b ↔ (first ≡ text)
    → b ≡ false
    → ¬ StandsAt words 0 text
not_first words first text b here is other stands = let same : first ≡ text = cc in true≢false (sym (is.1 same) ∙ other)

pub none_first : (words : List (List ℕ)) (text : List ℕ) → slice_get words 0 ≡ None → ¬ StandsAt words 0 text
none_first words text none stands = some_or_none words 0 text stands none
