-- The first part of a line, cut off.
use Rattle.std.proofs.Common.{◌≡◌, ⊎_elim, ℕ, ◌+◌, ◌<◌, ◌≤◌, List, [], ◌∷◌, ◌++◌, Option, Some, None, refl, sym, ap, ◌∙◌, length, take}
use Rattle.std.proofs.Common.{drop, append_assoc, arith, option_map}
use Rattle.std.specs.List.{position_or_len}
use Rattle.std.specs.Option.{option_and_then}
use Rattle.std.proofs.lemmas.Bool.{cases_lt}
use Rattle.std.proofs.lemmas.List.{take_all}
use Rattle.std.proofs.lemmas.List.Splits.{slice_split_first}
use Rattle.un_isa.specs.declared.instr.Instr.{Instr}
use Rattle.un_listing.specs.ListingWords.{words_of}
use Rattle.un_listing.specs.Recognized.{instr_of}
use Rattle.un_listing_reader.specs.PacketWords.{is_semicolon, parts_of, put_before, instrs_in}
use Rattle.un_listing.proofs.WordCuts.{whole_part}

-- with these before
abbrev behind : List Instr → Option (List Instr) → Option (List Instr)
behind found rest = option_map (λ is. found ++ is) rest

more_behind : (found : List Instr) (i : Instr) (rest : Option (List Instr))
    → behind found (put_before i rest) ≡ behind (found ++ i ∷ []) rest
more_behind found i None = refl
more_behind found i (Some is) = ap (λ (xs : List Instr). Some xs) (sym (append_assoc found (i ∷ []) is))

first_part : (text : List ℕ) (n : ℕ) → n ≡ position_or_len is_semicolon text → n < length text
    → parts_of text ≡ take n text ∷ parts_of (drop (n + 1) text)
first_part text n e h = let parts = slice_split_first is_semicolon text 0 (omega arith) in rw e parts

last_part : (text : List ℕ) (n : ℕ) → n ≡ position_or_len is_semicolon text → length text ≤ n → parts_of text ≡ take n text ∷ []
last_part text n e h =
    let parts = whole_part is_semicolon text (omega arith) in
    let all : take n text ≡ text = take_all n text h in
    rw (all) parts

module _ (whole : Option (List Instr)) (found : List Instr) (text : List ℕ) (n : ℕ)
    (so_far : whole ≡ behind found (instrs_in (parts_of text))) (place : n ≡ position_or_len is_semicolon text) where
  pub one_more : (i : Instr) → n < length text → instr_of (words_of (take n text)) ≡ Some i
      → whole ≡ behind (found ++ i ∷ []) (instrs_in (parts_of (drop (n + 1) text)))
  one_more i h read =
      so_far
      ∙ ap (λ (ps : List (List ℕ)). behind found (instrs_in ps)) (first_part text n place h)
      ∙ ap (λ (o : Option Instr). behind found (option_and_then (λ i. put_before i (instrs_in (parts_of (drop (n + 1) text)))) o)) read
      ∙ more_behind found i (instrs_in (parts_of (drop (n + 1) text)))

  pub the_last : (i : Instr) → length text ≤ n → instr_of (words_of (take n text)) ≡ Some i → whole ≡ Some (found ++ i ∷ [])
  the_last i h read =
      so_far
      ∙ ap (λ (ps : List (List ℕ)). behind found (instrs_in ps)) (last_part text n place h)
      ∙ ap (λ (o : Option Instr). behind found (option_and_then (λ i. put_before i (instrs_in [])) o)) read

  pub no_instr : instr_of (words_of (take n text)) ≡ None → whole ≡ None
  no_instr read = ⊎_elim here past (cases_lt n (length text))
    where
      here : n < length text → whole ≡ None
      here h =
          so_far
          ∙ ap (λ (ps : List (List ℕ)). behind found (instrs_in ps)) (first_part text n place h)
          ∙ ap (λ (o : Option Instr). behind found (option_and_then (λ i. put_before i (instrs_in (parts_of (drop (n + 1) text)))) o)) read

      past : length text ≤ n → whole ≡ None
      past h =
          so_far
          ∙ ap (λ (ps : List (List ℕ)). behind found (instrs_in ps)) (last_part text n place h)
          ∙ ap (λ (o : Option Instr). behind found (option_and_then (λ i. put_before i (instrs_in [])) o)) read
