-- What turns come to, one after another.
use Rattle.std.proofs.Common.{◌≡◌, List, [], ◌++◌, refl, sym, ap, ◌∙◌, subst, arith}
use Rattle.std.specs.Prelude.{⊤}
use Rattle.un_domains.specs.Sets.{Sets, NoneEmpty, total}
use Rattle.un_judge.specs.declared.leaf.Rules.{Rules}
use Rattle.un_logs.specs.Goods.{Does, Empties, joined}
use Rattle.un_logs.specs.Rounds.{Turns}
use Rattle.un_logs.specs.declared.pass.Pass.{Pass}
use Rattle.un_logs.specs.declared.pass.Pass.TheVariants.{Emptied, Taken, Same}
use Rattle.un_logs.specs.declared.turn.Turn.{Turn}
use Rattle.un_logs.proofs.Turning.{turns_once, turns_within, turns_append, turns_split}
use Rattle.un_logs.proofs.Within.{still_empty}

-- no set is empty yet
abbrev pub GoesOn : Pass → Type 0
GoesOn Emptied = ⊥
GoesOn Taken = ⊤
GoesOn Same = ⊤

module _ (r : Rules) where
  -- turns behind those that leave a set empty do so too
  pub empties_more : (ts us : List Turn) (old : Sets) → Empties r ts old → Empties r (ts ++ us) old
  empties_more ts us old h new turns =
      let parts = turns_split r.m.now r.limit ts us old new turns in
      still_empty parts.0 new (turns_within r.m.now r.limit us parts.0 new parts.2) (h parts.0 parts.1)

  empties_later : (ts us : List Turn) (old box : Sets) → Turns r.m.now r.limit ts old box → Empties r us box → Empties r (ts ++ us) old
  empties_later ts us old box done h new turns =
      let parts = turns_split r.m.now r.limit ts us old new turns in
      let same : parts.0 ≡ box = turns_once r.m.now r.limit ts old parts.0 box parts.1 done in
      h new (subst (λ (s : Sets). Turns r.m.now r.limit us s new) same parts.2)

  abbrev both : (ts us : List Turn) (a b c : Sets) → Turns r.m.now r.limit ts a b → Turns r.m.now r.limit us b c
      → Turns r.m.now r.limit (ts ++ us) a c
  both ts us a b c h k = turns_append r.m.now r.limit ts us a b c h k

  -- others behind them
  pub does_then : (ts us : List Turn) (a b c : Sets) (p q : Pass) → GoesOn p → Does r ts a b p → Does r us b c q
      → Does r (ts ++ us) a c (joined p q)
  does_then ts us a b c Emptied q on h k = absurd on
  does_then ts us a b c Same Emptied on h k = (k.0, empties_later ts us a b h.0 k.1)
  does_then ts us a b c Same Taken on h k =
      let e : total b ≡ total a = ap total h.1 in
      let f = k.fewer in
      record { turns = both ts us a b c h.0 k.turns; full = k.full; fewer = omega (arith, e, f) }
  does_then ts us a b c Same Same on h k = (both ts us a b c h.0 k.0, k.1 ∙ h.1)
  does_then ts us a b c Taken Emptied on h k = (k.0, empties_later ts us a b h.turns k.1)
  does_then ts us a b c Taken Taken on h k =
      let e = h.fewer in
      let f = k.fewer in
      record { turns = both ts us a b c h.turns k.turns; full = k.full; fewer = omega (arith, e, f) }
  does_then ts us a b c Taken Same on h k =
      let e : total c ≡ total b = ap total k.1 in
      let f = h.fewer in
      record {
        turns = both ts us a b c h.turns k.0;
        full = subst NoneEmpty (sym k.1) h.full;
        fewer = omega (arith, e, f);
      }

  -- and what they make of the turns of a longer list
  pub does_next : (ts us all : List Turn) (a b c : Sets) (p q j : Pass) → GoesOn p → Does r ts a b p → Does r us b c q → j ≡ joined p q
      → all ≡ ts ++ us → Does r all a c j
  does_next ts us all a b c p q j on h k is whole =
      subst (λ (xs : List Turn). Does r xs a c j) (sym whole)
      (subst (Does r (ts ++ us) a c) (sym is) (does_then ts us a b c p q on h k))

  -- the box stays without an empty set
  pub does_full : (ts : List Turn) (old new : Sets) (p : Pass) → NoneEmpty old → GoesOn p → Does r ts old new p → NoneEmpty new
  does_full ts old new Emptied full on h = absurd on
  does_full ts old new Taken full on h = h.full
  does_full ts old new Same full on h = subst NoneEmpty (sym h.1) full

  pub does_none : (box : Sets) → Does r [] box box Same
  does_none box = (refl, refl)

  -- where a set is empty, nothing behind counts
  pub does_emptied : (ts us : List Turn) (old new : Sets) (p : Pass) → p ≡ Emptied → Does r ts old new p → Does r (ts ++ us) old new p
  does_emptied ts us old new p is h =
      let e = subst (Does r ts old new) is h in
      subst (Does r (ts ++ us) old new) (sym is) (e.0, empties_more ts us old e.1)

  pub does_ended : (ts us mid behind all : List Turn) (a b c : Sets) (p q j : Pass) → GoesOn p → Does r ts a b p → Does r us b c q
      → j ≡ joined p q → mid ≡ ts ++ us → all ≡ mid ++ behind → j ≡ Emptied → Does r all a c j
  does_ended ts us mid behind all a b c p q j on h k is next whole emptied =
      subst (λ (xs : List Turn). Does r xs a c j) (sym whole)
      (does_emptied mid behind a c j emptied (does_next ts us mid a b c p q j on h k is next))

pub goes_on : (p : Pass) → (p ≡ Emptied → ⊥) → GoesOn p
goes_on Emptied h = h refl
goes_on Taken h = tt
goes_on Same h = tt
