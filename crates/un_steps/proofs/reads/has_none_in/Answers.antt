use Rattle.std.proofs.Common.{ℕ, ◌≡◌, ◌↔◌, true, refl, sym, ◌∙◌, subst}
use Rattle.std.specs.Prelude.{Option, IsTrue}
use Rattle.un_domains.specs.Sets.{has}
use Rattle.un_model.specs.declared.model.TempVars.{TempVars}
use Rattle.un_model.specs.Solutions.{InSpace}
use Rattle.un_steps.specs.Words.{regs_by}
use Rattle.un_steps.proofs.reads.has_none_in.Goals as goal

pub returns-in-None : goal.returns-in-None
returns-in-None c = subst (λ (z : Option TempVars). IsTrue true ↔ ((r : ℕ) → has (regs_by c.args.s.now.sets z) r ≡ true → InSpace r c.args.space → ⊥)) (sym c.in-None.is ∙ c.temp_vars.ensures)
    (λ t r h. absurd (cc h), λ all. refl)

pub returns-in-Some : goal.returns-in-Some
returns-in-Some c = subst (λ (z : Option TempVars). IsTrue c.none_left_in.result ↔ ((r : ℕ) → has (regs_by c.args.s.now.sets z) r ≡ true → InSpace r c.args.space → ⊥)) (sym c.in-Some.is ∙ c.temp_vars.ensures)
    c.none_left_in.ensures
