-- Rounds one by one: whether the rules empty a box is told by what a round makes of it.
use Rattle.std.proofs.Common.{ℕ, zero, suc, ◌≡◌, refl, sym, ◌∙◌, subst}
use Rattle.std.specs.Prelude.{Option}
use Rattle.un_domains.specs.Sets.{Sets, NoneEmpty}
use Rattle.un_model.specs.declared.model.Model.{Model}
use Rattle.un_judge.specs.Judged.{HasEmpty}
use Rattle.un_logs.specs.Rounds.{IsRound, Rounds, turns_of}
use Rattle.un_logs.specs.Stuck.{IsStuck}
use Rattle.un_logs.proofs.Turning.{turns_once, rounds_within}
use Rattle.un_logs.proofs.Within.{still_empty, not_both}

module _ (rules : ℕ) (m : Model) (limit : Option ℕ) where
  -- a round that changes nothing of a box without an empty set
  pub stuck_here : (box new : Sets) → NoneEmpty box → IsRound m limit rules box new → new ≡ box → IsStuck rules m limit box
  stuck_here box new full round same = record {
    count = 0;
    end = box;
    reached = refl;
    full = full;
    same = subst (IsRound m limit rules box) same round;
  }

  -- one round more
  pub stuck_before : (old new : Sets) → IsRound m limit rules old new → IsStuck rules m limit new → IsStuck rules m limit old
  stuck_before old new round h = record {
    count = suc h.count;
    end = h.end;
    reached = (new, round, h.reached);
    full = h.full;
    same = h.same;
  }

  -- one round less
  pub stuck_after : (old new : Sets) → IsRound m limit rules old new → IsStuck rules m limit old → IsStuck rules m limit new
  stuck_after old new round h = by h.count h.reached
    where
      by : (n : ℕ) → Rounds m limit rules n old h.end → IsStuck rules m limit new
      by zero is =
          let here : IsRound m limit rules old old = subst (λ (s : Sets). IsRound m limit rules s s) is h.same in
          let same : new ≡ h.end = turns_once m limit (turns_of rules m) old new old round here ∙ sym is in
          subst (IsStuck rules m limit) (sym same) (record {
            count = 0;
            end = h.end;
            reached = refl;
            full = h.full;
            same = h.same;
          })
      by (suc n) r =
          let same : r.0 ≡ new = turns_once m limit (turns_of rules m) old r.0 new r.1 round in
          record {
            count = n;
            end = h.end;
            reached = subst (λ (s : Sets). Rounds m limit rules n s h.end) same r.2;
            full = h.full;
            same = h.same;
          }

  -- where a round leaves an empty set, the rules empty the box
  pub stuck_never : (old : Sets) → ((new : Sets) → IsRound m limit rules old new → HasEmpty new) → IsStuck rules m limit old → ⊥
  stuck_never old empties h = by h.count h.reached
    where
      by : (n : ℕ) → Rounds m limit rules n old h.end → ⊥
      by zero is =
          not_both h.end h.full (empties h.end (subst (λ (s : Sets). IsRound m limit rules s h.end) is h.same))
      by (suc n) r =
          not_both h.end h.full (still_empty r.0 h.end (rounds_within m limit rules n r.0 h.end r.2) (empties r.0 r.1))
