-- Conditions that stay met where less is left.
use Rattle.std.proofs.Common.{ℕ, ◌≡◌, Bool, true, false, not, ◌&&◌, ◌||◌, List, refl, ap, ◌∙◌}
use Rattle.un_base.specs.declared.ids.VarId.{VarId}
use Rattle.un_domains.specs.Sets.{Sets, NoneEmpty}
use Rattle.un_domains.specs.Order.{Below}
use Rattle.un_prop.specs.Rounds.{HasVars}
use Rattle.un_prop.specs.Lawful.{Agree, LawfulTest}
use Rattle.un_prop.specs.LookLaws.{both, firsts, not_true, not_from}

-- a condition of a value and a store that stays met, and reads these variables alone
pub record Inherited (vs : List VarId) (q : Sets → ℕ → Bool) : Type 0 where
  pub stays : (t s : Sets) (y : ℕ) → HasVars vs s → NoneEmpty t → Below t s → q s y ≡ true → q t y ≡ true
  pub local : (s t : Sets) (y : ℕ) → Agree vs s t → q s y ≡ q t y

module _ (vs : List VarId) where
  -- where it is met, a value goes
  pub refused : (q : Sets → ℕ → Bool) → Inherited vs q → LawfulTest vs (λ s y. not (q s y))
  refused q h = record {
    monotone = λ t s y k full le e. not_from (q s y) (λ met. not_true (q t y) e (h.stays t s y k full le met));
    local = λ s t y agree. ap not (h.local s t y agree);
  }

  pub not_inherited : (q : Sets → ℕ → Bool) → LawfulTest vs q → Inherited vs (λ s y. not (q s y))
  not_inherited q h = record {
    stays = λ t s y k full le e. not_from (q t y) (λ met. not_true (q s y) e (h.monotone t s y k full le met));
    local = λ s t y agree. ap not (h.local s t y agree);
  }

  pub always_inherited : (p : ℕ → Bool) → Inherited vs (λ s. p)
  always_inherited p = record { stays = λ t s y k full le e. e; local = λ s t y agree. refl }

  pub both_inherited : (q r : Sets → ℕ → Bool) → Inherited vs q → Inherited vs r → Inherited vs (λ s y. q s y && r s y)
  both_inherited q r h k = record {
    stays = λ t s y kn full le e. let two = firsts (q s y) (r s y) e in both (q t y) (r t y) (h.stays t s y kn full le two.0)
        (k.stays t s y kn full le two.1);
    local = λ s t y agree. ap (λ (b : Bool). b && r s y) (h.local s t y agree) ∙ ap (λ (b : Bool). q t y && b) (k.local s t y agree);
  }

  pub either_inherited : (q r : Sets → ℕ → Bool) → Inherited vs q → Inherited vs r → Inherited vs (λ s y. q s y || r s y)
  either_inherited q r h k = record {
    stays = λ t s y kn full le e. by (q s y) (q t y) (r s y) (r t y) (h.stays t s y kn full le) (k.stays t s y kn full le) e;
    local = λ s t y agree. ap (λ (b : Bool). b || r s y) (h.local s t y agree) ∙ ap (λ (b : Bool). q t y || b) (k.local s t y agree);
  }
    where
      by : (a b c d : Bool) → (a ≡ true → b ≡ true) → (c ≡ true → d ≡ true) → (a || c) ≡ true → (b || d) ≡ true
      by a true c d f g e = refl
      by true false c d f g e = absurd (cc (f refl))
      by false false c d f g e = g e
