use Rattle.std.proofs.Common.{ℕ, ◌↔◌, ◌*◌, ◌<◌, List, [], subst, sym, arith}
use Rattle.std.specs.Prelude.{IsTrue}
use Rattle.un_isa.specs.PacketCounts.{places_of}
use Rattle.un_domains.specs.Sets.{Sets}
use Rattle.un_model.specs.declared.model.Model.{Model}
use Rattle.un_steps.specs.Rules.{IsFullIn}
use Rattle.un_steps.specs.Words.{Operation}
use Rattle.un_steps.proofs.allowed.is_full_at.Goals as goal

none_full : (m : Model) (s : Sets) (a n : ℕ) → IsFullIn m s [] a n → ⊥
none_full m s a n h = let lt : n * places_of h.0 < 0 = h.1 in omega (arith, lt)

pub returns-in-None : goal.returns-in-None
returns-in-None c = (
  λ t. absurd (cc t),
  λ some. absurd (none_full c.args.m.now c.args.s.now.sets some.0 some.1
      (subst (λ (ps : List Operation). IsFullIn c.args.m.now c.args.s.now.sets ps some.0 some.1) c.in-None.ensures some.2)),
)

pub returns-in-Some : goal.returns-in-Some
returns-in-Some c =
    subst (λ (ps : List Operation). IsTrue c.is_full.result ↔ ((a : ℕ) × (k : ℕ) × IsFullIn c.args.m.now c.args.s.now.sets ps a k))
    (sym c.in-Some.ensures) c.is_full.ensures
