-- An input, parted line by line.
use Rattle.std.proofs.Common.{◌≡◌, ℕ, ◌-◌, true, false, List, [], ◌∷◌, ◌++◌, length, take, drop, refl, sym, ap, ◌∙◌, arith}
use Rattle.std.proofs.Common.{append_assoc, append-nil}
use Rattle.std.specs.List.{concat}
use Rattle.std.proofs.lemmas.List.{length-append, take-append-drop}
use Rattle.std.proofs.Math.Seq.{take-append_seam}
use Rattle.un_base.specs.Lines.{pieces_of}
use Rattle.un_base.proofs.LineLaws.{concat-pieces_of}
use Rattle.un_runs.specs.Inputs.{is_rule, before_rule, behind_rule, first_part, second_part}

-- no line so far parts the input
pub record SoFar (input rest : List ℕ) : Type 0 where
  pub front : List ℕ
  pub whole : input ≡ front ++ rest
  pub first : first_part input ≡ front ++ before_rule (pieces_of rest)
  pub second : second_part input ≡ behind_rule (pieces_of rest)

pub so_far_none : (input : List ℕ) → SoFar input input
so_far_none input = record { front = []; whole = refl; first = refl; second = refl }

pub so_far_more : (input rest line behind : List ℕ) (n : ℕ) → SoFar input rest → pieces_of rest ≡ take n rest ∷ pieces_of (drop n rest)
    → line ≡ take n rest → behind ≡ drop n rest → is_rule line ≡ false → SoFar input behind
so_far_more input rest line behind n s cut is left none =
    let both : rest ≡ line ++ behind =
    sym (take-append-drop n rest) ∙ (ap (λ (xs : List ℕ). xs ++ drop n rest) (sym is) ∙ ap (λ (xs : List ℕ). line ++ xs) (sym left)) in
    let pieces : pieces_of rest ≡ line ∷ pieces_of behind =
    cut ∙ (ap (λ (xs : List ℕ). xs ∷ pieces_of (drop n rest)) (sym is) ∙ ap (λ (xs : List ℕ). line ∷ pieces_of xs) (sym left)) in
    record {
      front = s.front ++ line;
      whole = s.whole ∙ (ap (λ (xs : List ℕ). s.front ++ xs) both ∙ sym (append_assoc s.front line behind));
      first = s.first ∙ (ap (λ (ps : List (List ℕ)). s.front ++ before_rule ps) pieces
          ∙ (ap (λ (xs : List ℕ). s.front ++ xs) (before_other line (pieces_of behind) none)
          ∙ sym (append_assoc s.front line (before_rule (pieces_of behind)))));
      second = s.second ∙ (ap behind_rule pieces ∙ behind_other line (pieces_of behind) none);
    }
  where
    before_other : (p : List ℕ) (ps : List (List ℕ)) → is_rule p ≡ false → before_rule (p ∷ ps) ≡ p ++ before_rule ps
    before_other p ps e = rw e refl

    behind_other : (p : List ℕ) (ps : List (List ℕ)) → is_rule p ≡ false → behind_rule (p ∷ ps) ≡ behind_rule ps
    behind_other p ps e = rw e refl

-- what stands before the rest of an input
pub front_of : (input front rest : List ℕ) → input ≡ front ++ rest → take (length input - length rest) input ≡ front
front_of input front rest whole =
    let long : length input - length rest ≡ length front =
    (let all = ap length whole in let parts = length-append front rest in omega (arith, all, parts)) in
    ap (λ (n : ℕ). take n input) long ∙ (ap (take (length front)) whole ∙ take-append_seam front rest)

-- the line parts the input
pub parted : (input rest line behind : List ℕ) (n : ℕ) → SoFar input rest → pieces_of rest ≡ take n rest ∷ pieces_of (drop n rest)
    → line ≡ take n rest → behind ≡ drop n rest → is_rule line ≡ true
    → (take (length input - length rest) input ≡ first_part input) × (behind ≡ second_part input)
parted input rest line behind n s cut is left yes' =
    let rule : is_rule (take n rest) ≡ true = ap is_rule (sym is) ∙ yes' in (
      front_of input s.front rest s.whole
          ∙ sym (s.first ∙ (ap (λ (ps : List (List ℕ)). s.front ++ before_rule ps) cut
          ∙ (ap (λ (xs : List ℕ). s.front ++ xs) (before_it (take n rest) (pieces_of (drop n rest)) rule) ∙ append-nil s.front))),
      left ∙ sym (s.second ∙ (ap behind_rule cut ∙ (behind_it (take n rest) (pieces_of (drop n rest)) rule ∙ concat-pieces_of (drop n rest)))),
    )
  where
    before_it : (p : List ℕ) (ps : List (List ℕ)) → is_rule p ≡ true → before_rule (p ∷ ps) ≡ []
    before_it p ps e = rw e refl

    behind_it : (p : List ℕ) (ps : List (List ℕ)) → is_rule p ≡ true → behind_rule (p ∷ ps) ≡ concat ps
    behind_it p ps e = rw e refl

-- no line does
pub whole_input : (input rest : List ℕ) → SoFar input rest → rest ≡ [] → (input ≡ first_part input) × (rest ≡ second_part input)
whole_input input rest s none = (
  s.whole ∙ (ap (λ (xs : List ℕ). s.front ++ xs) none ∙ sym (s.first ∙ ap (λ (xs : List ℕ). s.front ++ before_rule (pieces_of xs)) none)),
  none ∙ sym (s.second ∙ ap (λ (xs : List ℕ). behind_rule (pieces_of xs)) none),
)
