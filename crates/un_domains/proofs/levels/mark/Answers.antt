use Rattle.std.proofs.Common.{ℕ, List, [], ◌∷◌, ◌++◌, ◌≡◌, ◌<◌, ◌≤◌, ◌+◌, ◌^◌, ◌∙◌, ap, refl, arith, length, vec_capacity}
use Rattle.un_domains.specs.declared.levels.Saves.{Saves}
use Rattle.un_domains.specs.LevelLaws.{saves_marked, marked_more, marked_by}
use Rattle.un_domains.proofs.levels.mark.Goals as goal

pub returns-clause-saves : goal.returns-clause-saves
returns-clause-saves c =
    let s = c.stamp_all.new.saves in
    let start : c.len-start.result ≡ length s.entries.items = omega (arith, c.len-start.ensures, ap length c.in_ok-reserve.ensures.items) in
    let starts : c.push.new.self.items ≡ s.starts.items ++ length s.entries.items ∷ [] =
    c.in_ok-push.ensures.items ∙ ap (λ (k : ℕ). s.starts.items ++ k ∷ []) start in
    let room : length s.entries.items + c.args.n ≤ vec_capacity c.reserve.new.self =
    omega (arith, c.in_ok-reserve.ensures.ok, ap length c.in_ok-reserve.ensures.items) in
    let few : length s.starts.items + 1 < 2 ^ 32 =
    omega (arith, c.if-len-ge-MOST_MARKS.false, c.len.ensures, ap (λ v. length v.items) c.in_ok-stamp_all.ensures.starts) in
    saves_marked c.args.n s _ c.in_ok-stamp_all.ensures.saves starts c.in_ok-reserve.ensures.items refl c.in_ok-stamp_all.ensures.long room few

pub returns-clause-ok : goal.returns-clause-ok
returns-clause-ok c ws =
    let s = c.stamp_all.new.saves in
    let start : c.len-start.result ≡ length s.entries.items = omega (arith, c.len-start.ensures, ap length c.in_ok-reserve.ensures.items) in
    let starts : c.push.new.self.items ≡ s.starts.items ++ length s.entries.items ∷ [] =
    c.in_ok-push.ensures.items ∙ ap (λ (k : ℕ). s.starts.items ++ k ∷ []) start in
    let t : Saves = record { stamps = s.stamps; entries = c.reserve.new.self; starts = c.push.new.self } in
    marked_more s t starts c.in_ok-reserve.ensures.items ws
    ∙ ap (λ (m : List (List ℕ)). m ++ ws ∷ [])
    (marked_by c.args.saves.now s (ap (λ v. v.items) c.in_ok-stamp_all.ensures.starts)
    (ap (λ v. v.items) c.in_ok-stamp_all.ensures.entries) ws)
