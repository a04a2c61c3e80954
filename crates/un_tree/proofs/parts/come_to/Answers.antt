use Rattle.std.proofs.Common.{ℕ, Option, sym, ◌∙◌, subst}
use Rattle.std.specs.Prelude.{IsTrue, MatchOption, ⊤, ◌↔◌}
use Rattle.un_tree.proofs.PartLaws.{come_never, come_free, come_sum}
use Rattle.un_tree.specs.Parts.{ComeTo}
use Rattle.un_tree.proofs.parts.come_to.Goals as goal

pub returns-in-Numbers-None : goal.returns-in-Numbers-None
returns-in-Numbers-None c ps e =
    subst (λ (l : Option ℕ). IsTrue c.in-Numbers-None.free ↔ MatchOption ps ⊤ (ComeTo l)) (sym c.in-Numbers-None.is-1)
    (come_never c.in-Numbers-None.free c.in-Numbers-None.sum-0 ps (sym c.in-Numbers-None.is-0 ∙ e))

pub returns-then-free : goal.returns-then-free
returns-then-free c ps e =
    subst (λ (l : Option ℕ). IsTrue c.in-Numbers-Some.free ↔ MatchOption ps ⊤ (ComeTo l)) (sym c.in-Numbers-Some.is-1)
    (come_free c.in-Numbers-Some.limit c.in-Numbers-Some.free c.in-Numbers-Some.sum ps c.if-free.true (sym c.in-Numbers-Some.is-0 ∙ e))

pub returns-else-free : goal.returns-else-free
returns-else-free c ps e =
    subst (λ (l : Option ℕ). IsTrue c.is_enough.result ↔ MatchOption ps ⊤ (ComeTo l)) (sym c.in-Numbers-Some.is-1)
    (come_sum c.in-Numbers-Some.limit c.in-Numbers-Some.free c.in-Numbers-Some.sum ps c.is_enough.result c.if-free.false
    (sym c.in-Numbers-Some.is-0 ∙ e) c.is_enough.ensures)
