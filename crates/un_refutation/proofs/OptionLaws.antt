-- The line of the options: it is told by its text, and texts that begin with none.
use Rattle.std.proofs.Common.{◌≡◌, ◌≢◌, ℕ, List, ◌∷◌, ◌++◌, Option, IfSome, codes, decimal, sym, ap, ◌∙◌, arith, append_assoc}
use Rattle.un_isa.specs.declared.reg.TheConstants.{SLOTS}
use Rattle.un_model.specs.Options.{IsCountOfRegisters, AreOptions}
use Rattle.un_model.specs.declared.model.Options.{Options}
use Rattle.un_report.specs.Reports.{regs_text}
use Rattle.un_report_reader.proofs.Cuts.{behind_once, number_once, field_once}
use Rattle.un_report_reader.proofs.Once.{Once, regs_free, regs_once}
use Rattle.un_report_reader.proofs.Seams.{number_seam}
use Rattle.un_report_reader.specs.Lines.{number_text}
use Rattle.un_report_reader.specs.Parts.{IsField, IsWithin, IsNumber}
use Rattle.un_base.proofs.Cuts.{cut_once}
use Rattle.un_refutation.specs.Refutations.{options_text}

-- what stands behind the word of the registers
abbrev slots_on : Options → List ℕ → List ℕ
slots_on o rest = codes "slots " ++ (decimal o.slots ++ 10 ∷ rest)

options_seam : (o : Options) (rest : List ℕ) → options_text o ++ rest ≡ codes "model regs " ++ (regs_text o.regs ++ 32 ∷ slots_on o rest)
options_seam o rest =
    ap (λ (t : List ℕ). codes "model regs " ++ t)
    (append_assoc (regs_text o.regs) (number_text (codes " slots ") o.slots) rest
    ∙ ap (λ (t : List ℕ). regs_text o.regs ++ t) (number_seam (codes " slots ") o.slots rest))

abbrev made : Option ℕ → ℕ → Options
made regs slots = record { regs = regs; slots = slots }

pub options_once : Once AreOptions options_text
options_once v w a b gv gw e =
    let few = gv.slots in
    let few' = gw.slots in
    let front = behind_once (codes "model regs ") _ _ (sym (options_seam v a) ∙ (e ∙ options_seam w b)) in
    let regs = cut_once 32 (regs_text v.regs) (regs_text w.regs) _ _ (regs_free v.regs gv.regs) (regs_free w.regs gw.regs) front in
    let slots = number_once (codes "slots ") 10 v.slots w.slots a b (omega arith) (omega (arith, few)) (omega (arith, few')) regs.1 in
    let same = regs_once v.regs w.regs gv.regs gw.regs regs.0 in
    (ap (λ (r : Option ℕ). made r v.slots) same ∙ ap (λ (k : ℕ). made w.regs k) slots.0, slots.1)

-- ---- texts that begin with no options

abbrev NoOptions : List ℕ → Type 0
NoOptions text = (o : Options) (rest : List ℕ) → AreOptions o → text ≢ options_text o ++ rest

abbrev start_text : List ℕ
start_text = codes "model regs "

pub no_word : (text : List ℕ) → ((word rest : List ℕ) → text ≢ start_text ++ (word ++ 32 ∷ rest)) → NoOptions text
no_word text none o rest good e = none (regs_text o.regs) _ (e ∙ options_seam o rest)

first_word : (text word left : List ℕ) → IsField text start_text 32 word left → (o : Options) (rest : List ℕ) → AreOptions o
    → text ≡ options_text o ++ rest → (word ≡ regs_text o.regs) × (left ≡ slots_on o rest)
first_word text word left h o rest good e =
    field_once text start_text 32 word left (regs_text o.regs) (slots_on o rest) h (regs_free o.regs good.regs) (e ∙ options_seam o rest)

pub no_regs_word : (text word left : List ℕ) → IsField text start_text 32 word left
    → ((r : Option ℕ) → IfSome r IsCountOfRegisters → word ≢ regs_text r) → NoOptions text
no_regs_word text word left h none o rest good e = none o.regs good.regs (first_word text word left h o rest good e).0

pub no_slots : (text word left : List ℕ) → IsField text start_text 32 word left
    → ((n : ℕ) (rest : List ℕ) → IsWithin 0 SLOTS n → ¬ IsNumber left (codes "slots ") 10 n rest) → NoOptions text
no_slots text word left h none o rest good e =
    none o.slots rest (omega arith, good.slots) (first_word text word left h o rest good e).1

-- options are read
pub options_here : (text word left rest : List ℕ) (o : Options) → IsField text start_text 32 word left → word ≡ regs_text o.regs
    → IsNumber left (codes "slots ") 10 o.slots rest → text ≡ options_text o ++ rest
options_here text word left rest o h regs slots =
    h.whole ∙ (ap (λ (t : List ℕ). start_text ++ (t ++ 32 ∷ left)) regs
    ∙ (ap (λ (t : List ℕ). start_text ++ (regs_text o.regs ++ 32 ∷ t)) slots ∙ sym (options_seam o rest)))
