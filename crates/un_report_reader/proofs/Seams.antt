-- The lines of a report before more text.
use Rattle.std.proofs.Common.{◌≡◌, ℕ, List, [], ◌∷◌, ◌++◌, codes, decimal, sym, ap, ◌∙◌, append_assoc}
use Rattle.un_model.specs.declared.model.Options.{Options}
use Rattle.un_report.specs.Reports.{regs_text}
use Rattle.un_report_reader.specs.Lines.{number_text, function_text, settings_text}

pub number_seam : (word : List ℕ) (n : ℕ) (rest : List ℕ) → number_text word n ++ rest ≡ word ++ (decimal n ++ 10 ∷ rest)
number_seam word n rest =
    append_assoc word (decimal n ++ 10 ∷ []) rest ∙ ap (λ (t : List ℕ). word ++ t) (append_assoc (decimal n) (10 ∷ []) rest)

pub function_seam : (name rest : List ℕ) → function_text name ++ rest ≡ codes "function " ++ (name ++ 10 ∷ rest)
function_seam name rest = ap (λ (t : List ℕ). codes "function " ++ t) (append_assoc name (10 ∷ []) rest)

-- the texts of the options and the nodes, each before the next
abbrev pub settings_parts : (Options × ℕ) → List ℕ → List ℕ
settings_parts s rest =
    codes "model regs " ++ (regs_text s.0.regs ++ 32 ∷ (codes "slots " ++ (decimal s.0.slots ++ 32 ∷ (codes "nodes " ++ (decimal s.1
    ++ 10 ∷ rest)))))

-- six parts, each joined to those before it, and more text
six_parts : (a b c d e f rest : List ℕ) → (((((a ++ b) ++ c) ++ d) ++ e) ++ f) ++ rest ≡ a ++ (b ++ (c ++ (d ++ (e ++ (f ++ rest)))))
six_parts a b c d e f rest =
    append_assoc ((((a ++ b) ++ c) ++ d) ++ e) f rest
    ∙ (append_assoc (((a ++ b) ++ c) ++ d) e (f ++ rest)
    ∙ (append_assoc ((a ++ b) ++ c) d (e ++ (f ++ rest))
    ∙ (append_assoc (a ++ b) c (d ++ (e ++ (f ++ rest))) ∙ append_assoc a b (c ++ (d ++ (e ++ (f ++ rest)))))))

pub settings_seam : (s : Options × ℕ) (rest : List ℕ) → settings_text s ++ rest ≡ settings_parts s rest
settings_seam s rest =
    ap (λ (t : List ℕ). codes "model regs " ++ t)
    (six_parts (regs_text s.0.regs) (codes " slots ") (decimal s.0.slots) (codes " nodes ") (decimal s.1) (10 ∷ []) rest)

-- two lines, joined in another way
pub woven : (a w b more : List ℕ) → (((a ++ 10 ∷ w) ++ b) ++ 10 ∷ []) ++ more ≡ (a ++ 10 ∷ []) ++ (w ++ ((b ++ 10 ∷ []) ++ more))
woven a w b more =
    append_assoc ((a ++ 10 ∷ w) ++ b) (10 ∷ []) more
    ∙ (append_assoc (a ++ 10 ∷ w) b (10 ∷ more)
    ∙ (append_assoc a (10 ∷ w) (b ++ 10 ∷ more)
    ∙ sym (append_assoc a (10 ∷ []) (w ++ ((b ++ 10 ∷ []) ++ more))
    ∙ ap (λ (t : List ℕ). a ++ 10 ∷ (w ++ t)) (append_assoc b (10 ∷ []) more))))
