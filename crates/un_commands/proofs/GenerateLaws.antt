-- The words of `gen`.
use Rattle.std.proofs.Common.{ℕ, ◌≡◌, ◌≢◌, ◌<◌, ◌≤◌, ◌^◌, List, [], ◌∷◌, ◌++◌, length, take, None, codes, sym, ap, refl, ◌∙◌, arith, lit≤}
use Rattle.std.specs.Fmt.{decimal}
use Rattle.std.specs.List.{slice_get}
use Rattle.std.proofs.lemmas.List.{take_all}
use Rattle.std.proofs.lemmas.Grind.{common_steps}
use Rattle.std.proofs.lemmas.Option.{slice_get_within, gets}
use Rattle.un_commands.specs.declared.command.Command.{Command}
use Rattle.un_commands.specs.declared.command.Command.TheVariants.{Makes}
use Rattle.un_commands.specs.declared.command.MakingCommand.TheVariants.{Generate, GenerateAlloc}
use Rattle.un_commands.specs.declared.command.TheConstants.{MOST_SIZE, MOST_NODES}
use Rattle.un_commands.specs.Commands.{IsBadWord}
use Rattle.un_commands.specs.Generate.{IsSize, IsGenerate, IsGenerateAlloc, AsksFor}
use Rattle.un_commands.specs.Settings.{IsCountOfNodes}
use Rattle.un_commands.specs.Places.{StandsAt, NoNumberAt}
use Rattle.un_commands.proofs.Firsts.{take_push}
use Rattle.un_commands.proofs.Openers.{ends, goes, IsGen, opens_gen}
use Rattle.un_commands.proofs.RunLaws.{begins_two}
use Rattle.un_commands.proofs.Texts.{some_or_none}
use Rattle.un_commands.proofs.WordLaws.{bad_word}

begins_three : (words : List (List ℕ)) (seed size : ℕ) → AsksFor words seed size
    → take 3 words ≡ codes "gen" ∷ decimal seed ∷ decimal size ∷ []
begins_three words seed size h = take_push 2 words (decimal size) h.size_at
    ∙ ap (λ front. front ++ decimal size ∷ []) (begins_two words (codes "gen") (decimal seed) h.gen h.seed_at)

begins_four : (words : List (List ℕ)) (seed size : ℕ) → AsksFor words seed size → StandsAt words 3 (codes "--nodes")
    → take 4 words ≡ codes "gen" ∷ decimal seed ∷ decimal size ∷ codes "--nodes" ∷ []
begins_four words seed size h flag = take_push 3 words (codes "--nodes") flag
    ∙ ap (λ front. front ++ codes "--nodes" ∷ []) (begins_three words seed size h)

begins_five : (words : List (List ℕ)) (seed size nodes : ℕ) → AsksFor words seed size → StandsAt words 3 (codes "--nodes")
    → StandsAt words 4 (decimal nodes)
    → take 5 words ≡ codes "gen" ∷ decimal seed ∷ decimal size ∷ codes "--nodes" ∷ decimal nodes ∷ []
begins_five words seed size nodes h flag number = take_push 4 words (decimal nodes) number
    ∙ ap (λ front. front ++ decimal nodes ∷ []) (begins_four words seed size h flag)

pub is_generate : (words : List (List ℕ)) (seed size : ℕ) → AsksFor words seed size → length words ≤ 3 → IsGenerate words seed size
is_generate words seed size h short = record {
  seed_fits = h.seed_fits;
  size_in = h.size_in;
  spelled = sym (take_all 3 words short) ∙ begins_three words seed size h;
}

pub is_generate_alloc : (words : List (List ℕ)) (seed size nodes : ℕ) → AsksFor words seed size → StandsAt words 3 (codes "--nodes")
    → StandsAt words 4 (decimal nodes) → IsCountOfNodes nodes → length words ≤ 5 → IsGenerateAlloc words seed size nodes
is_generate_alloc words seed size nodes h flag number in_range short = record {
  seed_fits = h.seed_fits;
  size_in = h.size_in;
  nodes_in = in_range;
  spelled = sym (take_all 5 words short) ∙ begins_five words seed size nodes h flag number;
}

pub least_size : IsSize 1
least_size = (lit≤ tt, lit≤ tt)

pub plain : (seed size : ℕ) → seed < 2 ^ 64 → IsSize size → IsGenerate (codes "gen" ∷ decimal seed ∷ decimal size ∷ []) seed size
plain seed size fits size_in = record { seed_fits = fits; size_in = size_in; spelled = refl }

pub least_nodes : IsCountOfNodes 1
least_nodes = (lit≤ tt, lit≤ tt)

pub costed : (seed size nodes : ℕ) → seed < 2 ^ 64 → IsSize size → IsCountOfNodes nodes
    → IsGenerateAlloc (codes "gen" ∷ decimal seed ∷ decimal size ∷ codes "--nodes" ∷ decimal nodes ∷ []) seed size nodes
costed seed size nodes fits size_in in_range = record { seed_fits = fits; size_in = size_in; nodes_in = in_range; spelled = refl }

-- no seed
pub bad_seed : (words : List (List ℕ)) → StandsAt words 0 (codes "gen") → ((n : ℕ) → n < 2 ^ 64 → ¬ StandsAt words 1 (decimal n))
    → IsBadWord words 1
bad_seed words first none = bad_word words 1 (Makes (Generate 0 1)) _ (plain 0 1 (omega arith) least_size) (take_push 0 words (codes "gen") first)
    (λ other others is alike. let gen = opens_gen others other is (sym (alike 0 (omega arith)) ∙ first) in
    none gen.seed gen.seed_fits (alike 1 (omega arith) ∙ gen.seed_at))

-- no size
pub bad_size : (words : List (List ℕ)) (seed : ℕ) → StandsAt words 0 (codes "gen") → seed < 2 ^ 64 → StandsAt words 1 (decimal seed)
    → NoNumberAt words 2 1 MOST_SIZE → IsBadWord words 2
bad_size words seed first fits second none = bad_word words 2 (Makes (Generate seed 1)) _ (plain seed 1 fits least_size)
    (begins_two words (codes "gen") (decimal seed) first second)
    (λ other others is alike. let gen = opens_gen others other is (sym (alike 0 (omega arith)) ∙ first) in
    none gen.size gen.size_in.0 gen.size_in.1 (alike 2 (omega arith) ∙ gen.size_at))

pub is_there : (words : List (List ℕ)) (place : ℕ) → place < length words → slice_get words place ≡ None → ⊥
is_there words place within none = grind (arith, common_steps, gets)

-- another word than the flag behind the size
pub bad_flag : (words : List (List ℕ)) (seed size : ℕ) → AsksFor words seed size → length words ≢ 3
    → ¬ StandsAt words 3 (codes "--nodes") → IsBadWord words 3
bad_flag words seed size h long none = bad_word words 3 (Makes (Generate seed size)) _ (plain seed size h.seed_fits h.size_in)
    (begins_three words seed size h)
    (λ other others is alike. by others other (alike 3 (omega arith)) (opens_gen others other is (sym (alike 0 (omega arith)) ∙ h.gen)))
  where
    three : 2 < length words
    three = slice_get_within words 2 (decimal size) h.size_at

    four : length words ≢ 3 → 2 < length words → 3 < length words
    four ne within = omega arith

    by : (others : List (List ℕ)) (other : Command) → slice_get words 3 ≡ slice_get others 3 → IsGen others other → ⊥
    by others other same gen = elim gen.tail [
      | ends is e ↦ is_there words 3 (four long three) (same ∙ e)
      | goes n is e in_range number end ↦ none (same ∙ e)
    ]

-- no number of nodes
pub bad_nodes : (words : List (List ℕ)) (seed size : ℕ) → AsksFor words seed size → StandsAt words 3 (codes "--nodes")
    → NoNumberAt words 4 1 MOST_NODES → IsBadWord words 4
bad_nodes words seed size h flag none = bad_word words 4 (Makes (GenerateAlloc seed size 1)) _
    (costed seed size 1 h.seed_fits h.size_in least_nodes)
    (begins_four words seed size h flag)
    (λ other others is alike. by others other (alike 3 (omega arith)) (alike 4 (omega arith))
    (opens_gen others other is (sym (alike 0 (omega arith)) ∙ h.gen)))
  where
    by : (others : List (List ℕ)) (other : Command) → slice_get words 3 ≡ slice_get others 3 → slice_get words 4 ≡ slice_get others 4
        → IsGen others other → ⊥
    by others other same next gen = elim gen.tail [
      | ends is e ↦ some_or_none words 3 _ flag (same ∙ e)
      | goes n is e in_range number end ↦ none n in_range.0 in_range.1 (next ∙ number)
    ]

-- a word more
pub bad_end : (words : List (List ℕ)) (seed size nodes : ℕ) → AsksFor words seed size → StandsAt words 3 (codes "--nodes")
    → StandsAt words 4 (decimal nodes) → IsCountOfNodes nodes → 5 < length words → IsBadWord words 5
bad_end words seed size nodes h flag number in_range long = bad_word words 5 (Makes (GenerateAlloc seed size nodes)) _
    (costed seed size nodes h.seed_fits h.size_in in_range)
    (begins_five words seed size nodes h flag number)
    (λ other others is alike. by others other (alike 3 (omega arith)) (alike 5 (omega arith))
    (opens_gen others other is (sym (alike 0 (omega arith)) ∙ h.gen)))
  where
    by : (others : List (List ℕ)) (other : Command) → slice_get words 3 ≡ slice_get others 3 → slice_get words 5 ≡ slice_get others 5
        → IsGen others other → ⊥
    by others other same next gen = elim gen.tail [
      | ends is e ↦ some_or_none words 3 _ flag (same ∙ e)
      | goes n is e in_range' number' end ↦ is_there words 5 long (next ∙ end)
    ]
