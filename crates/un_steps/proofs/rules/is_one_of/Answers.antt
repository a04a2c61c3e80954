use Rattle.std.proofs.Common.{ℕ, ◌≡◌, ◌↔◌, true, refl, sym, ◌∙◌, subst}
use Rattle.std.specs.Prelude.{Option, IsTrue}
use Rattle.un_domains.specs.Sets.{has}
use Rattle.un_model.specs.declared.model.TempVars.{TempVars}
use Rattle.un_model.specs.Solutions.{InSpace}
use Rattle.un_steps.specs.Words.{regs_by}
use Rattle.un_steps.proofs.rules.is_one_of.Goals as goal

pub returns-in-None : goal.returns-in-None
returns-in-None c = subst (λ (z : Option TempVars). IsTrue true ↔ ((q : ℕ) → has (regs_by c.args.s.now.sets z) q ≡ true → InSpace q c.args.space → c.args.r ≡ q)) (sym c.in-None.is ∙ c.temp_vars.ensures)
    (λ t r h. absurd (cc h), λ all. refl)

pub returns-in-Some : goal.returns-in-Some
returns-in-Some c = subst (λ (z : Option TempVars). IsTrue c.is_one.result ↔ ((q : ℕ) → has (regs_by c.args.s.now.sets z) q ≡ true → InSpace q c.args.space → c.args.r ≡ q)) (sym c.in-Some.is ∙ c.temp_vars.ensures)
    c.is_one.ensures
