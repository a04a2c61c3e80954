-- The words of a command, and the place of the first bad one.
use Rattle.std.proofs.Common.{ℕ, ◌≡◌, ◌+◌, ◌<◌, ◌≤◌, List, take, refl}
use Rattle.std.specs.List.{slice_get}
use Rattle.un_commands.specs.declared.command.Command.{Command}
use Rattle.un_commands.specs.Commands.{IsCommand, BeginsCommand, IsBadWord}
use Rattle.un_commands.proofs.Firsts.{begin_alike, first_unique, alike_at}

begins_less : (words : List (List ℕ)) (j k : ℕ) → j ≤ k → BeginsCommand words k → BeginsCommand words j
begins_less words j k h b = record {
  command = b.command;
  spelled = b.spelled;
  is_command = b.is_command;
  begins = begin_alike j k words b.spelled h b.begins;
}

-- a command has no bad word
pub command_is_good : (words : List (List ℕ)) (command : Command) (place : ℕ) → IsCommand words command → IsBadWord words place → ⊥
command_is_good words command place h b = b.bad (record { command = command; spelled = words; is_command = h; begins = refl })

-- there is one first bad word
pub bad_word_unique : (words : List (List ℕ)) (p q : ℕ) → IsBadWord words p → IsBadWord words q → p ≡ q
bad_word_unique words p q a b = first_unique (BeginsCommand words) (begins_less words) p q a.good a.bad b.good b.bad

-- a word is the first bad one where a command begins with those before it, and no command has the same up to it
pub bad_word : (words : List (List ℕ)) (place : ℕ) (command : Command) (spelled : List (List ℕ)) → IsCommand spelled command
    → take place words ≡ take place spelled
    → ((other : Command) (others : List (List ℕ)) → IsCommand others other
    → ((j : ℕ) → j < place + 1 → slice_get words j ≡ slice_get others j) → ⊥)
    → IsBadWord words place
bad_word words place command spelled is_command begins none = record {
  good = record { command = command; spelled = spelled; is_command = is_command; begins = begins };
  bad = λ b. none b.command b.spelled b.is_command (λ j h. alike_at j (place + 1) words b.spelled h b.begins);
}
