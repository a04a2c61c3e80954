-- The words of `refute`: the place of the first bad one before its settings.
use Rattle.std.proofs.Common.{ℕ, ◌≡◌, ◌<◌, ◌^◌, Bool, true, false, List, [], ◌∷◌, length, Result, Ok, Err, codes, refl, sym, ◌∙◌, arith}
use Rattle.std.specs.Fmt.{decimal}
use Rattle.std.specs.Result.{OnOk, IfErr, is_ok}
use Rattle.std.proofs.lemmas.Bool.{true≢false}
use Rattle.un_commands.specs.declared.command.Command.TheVariants.{Reads}
use Rattle.un_commands.specs.declared.command.ReadingCommand.TheVariants.{RefuteCheck}
use Rattle.un_commands.specs.Commands.{IsBadWord}
use Rattle.un_commands.specs.Places.{StandsAt}
use Rattle.un_commands.proofs.Firsts.{take_push}
use Rattle.un_commands.proofs.GenerateLaws.{is_there}
use Rattle.un_commands.proofs.Openers.{opens_refute, asked, checked, read_at}
use Rattle.un_commands.proofs.RunLaws.{begins_two}
use Rattle.un_commands.proofs.Texts.{no_number}
use Rattle.un_commands.proofs.WordLaws.{bad_word}

-- what an answer says of the word that it was asked of
pub stands_by : (words : List (List ℕ)) (place : ℕ) (text : List ℕ) (answer : Result (Unit {0}) ℕ) (b : Bool)
    → OnOk answer (StandsAt words place text) → b ≡ is_ok answer → b ≡ true → StandsAt words place text
stands_by words place text (Ok u) b h is good = h
stands_by words place text (Err bad) b h is good = absurd (true≢false (sym good ∙ is))

pub stands_not : (words : List (List ℕ)) (place : ℕ) (text : List ℕ) (answer : Result (Unit {0}) ℕ) (b : Bool)
    → IfErr answer (λ bad. (bad ≡ place) × ¬ StandsAt words place text) → b ≡ is_ok answer → b ≡ false → ¬ StandsAt words place text
stands_not words place text (Ok u) b h is other = absurd (true≢false (sym is ∙ other))
stands_not words place text (Err bad) b h is other = h.1

-- neither the flag nor a limit stands behind it
pub bad_limit : (words : List (List ℕ)) → StandsAt words 0 (codes "refute") → ¬ StandsAt words 1 (codes "--check")
    → ((n : ℕ) → n < 2 ^ 64 → ¬ StandsAt words 1 (decimal n)) → IsBadWord words 1
bad_limit words first no_flag no_limit = bad_word words 1 (Reads RefuteCheck) (codes "refute" ∷ codes "--check" ∷ []) refl
    (take_push 0 words (codes "refute") first)
    (λ other others is alike. elim (opens_refute others other is (sym (alike 0 (omega arith)) ∙ first)) [
      | asked limit options e w ↦ no_limit limit w.limit_fits (alike 1 (omega arith) ∙ read_at others _ 1 w.settings.spelled)
      | checked e w ↦ no_flag (alike 1 (omega arith) ∙ read_at others _ 1 w)
    ])

-- a word behind the flag
pub bad_refute_end : (words : List (List ℕ)) → StandsAt words 0 (codes "refute") → StandsAt words 1 (codes "--check") → 2 < length words
    → IsBadWord words 2
bad_refute_end words first second long = bad_word words 2 (Reads RefuteCheck) (codes "refute" ∷ codes "--check" ∷ []) refl
    (begins_two words (codes "refute") (codes "--check") first second)
    (λ other others is alike. elim (opens_refute others other is (sym (alike 0 (omega arith)) ∙ first)) [
      | asked limit options e w ↦
          no_number words 1 _ limit w.limit_fits second (alike 1 (omega arith) ∙ read_at others _ 1 w.settings.spelled)
      | checked e w ↦ is_there words 2 long (alike 2 (omega arith) ∙ read_at others _ 2 w)
    ])
