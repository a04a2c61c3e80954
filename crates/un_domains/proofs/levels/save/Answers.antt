use Rattle.std.proofs.Common.{ℕ, suc, List, [], ◌∷◌, ◌++◌, ◌-◌, ◌≡◌, ◌≢◌, ◌∙◌, sym, subst, arith, length, get_or, set}
use Rattle.std.proofs.lemmas.List.{get_or_default}
use Rattle.un_domains.specs.declared.levels.Saved.{Saved}
use Rattle.un_domains.specs.Levels.{AreLevels, marked_from}
use Rattle.un_domains.specs.LevelLaws.{has_room, levels_saved, marked_saved, marked_kept}
use Rattle.un_domains.proofs.levels.save.Goals as goal

pub returns-then-stamp-depth-clause-marked : goal.returns-then-stamp-depth-clause-marked
returns-then-stamp-depth-clause-marked c ws w is lt =
    let s = c.args.saves.now in
    let d = c.len-depth.result - 1 in
    let deep : length s.starts.items ≡ suc d = omega (arith, c.len-depth.ensures, c.if-depth-eq0.false) in
    let levels = subst (λ (k : ℕ). AreLevels c.args.n k s.starts.items s.entries.items s.stamps.items) deep c.requires.saves.levels in
    let on : get_or s.stamps.items c.args.i 0 ≡ suc d =
    get_or_default s.stamps.items c.args.i 0 c.index-stamp.result.now (omega (arith, c.requires.within, levels.1.flags))
    ∙ (sym c.index-stamp.ensures ∙ (c.if-stamp-depth.true ∙ omega (arith, c.if-depth-eq0.false))) in
    subst (λ (k : ℕ). marked_from k s.starts.items s.entries.items (set ws c.args.i w) ≡ marked_from k s.starts.items s.entries.items ws)
    (sym deep) (marked_kept c.args.n d c.args.i s.starts.items s.entries.items s.stamps.items ws w levels on)

pub unreachable-requires : goal.unreachable-requires
unreachable-requires c =
    let s = c.args.saves.now in
    let d = c.len-depth.result - 1 in
    let deep : length s.starts.items ≡ suc d = omega (arith, c.len-depth.ensures, c.if-depth-eq0.false) in
    let levels = subst (λ (k : ℕ). AreLevels c.args.n k s.starts.items s.entries.items s.stamps.items) deep c.requires.saves.levels in
    let was = get_or_default s.stamps.items c.args.i 0 c.index-stamp.result.now (omega (arith, c.requires.within, levels.1.flags))
    ∙ sym c.index-stamp.ensures in
    let off : get_or s.stamps.items c.args.i 0 ≢ suc d = λ e. c.if-stamp-depth.false (omega (arith, e, was, c.if-depth-eq0.false)) in
    omega (arith, has_room c.args.n d c.args.i s c.requires.saves deep c.requires.within off, c.in-Err.ensures.full)

pub returns-clause-saves : goal.returns-clause-saves
returns-clause-saves c =
    let s = c.args.saves.now in
    let d = c.len-depth.result - 1 in
    let deep : length s.starts.items ≡ suc d = omega (arith, c.len-depth.ensures, c.if-depth-eq0.false) in
    let depth : suc d ≡ c.len-depth.result = omega (arith, c.if-depth-eq0.false) in
    let levels = subst (λ (k : ℕ). AreLevels c.args.n k s.starts.items s.entries.items s.stamps.items) deep c.requires.saves.levels in
    let was = get_or_default s.stamps.items c.args.i 0 c.index-stamp.result.now (omega (arith, c.requires.within, levels.1.flags))
    ∙ sym c.index-stamp.ensures in
    let off : get_or s.stamps.items c.args.i 0 ≢ suc d = λ e. c.if-stamp-depth.false (omega (arith, e, was, c.if-depth-eq0.false)) in
    let e : Saved = record { at = c.args.i; old = c.args.old; stamp = c.index-stamp.result.now } in
    let more = levels_saved c.args.n d s.starts.items s.entries.items s.stamps.items e levels c.requires.within off was in
    record {
      levels = subst (λ (k : ℕ). AreLevels c.args.n k s.starts.items c.push.new.self.items (set s.stamps.items c.args.i c.len-depth.result))
          (sym deep)
          (subst (λ (xs : List Saved). AreLevels c.args.n (suc d) s.starts.items xs (set s.stamps.items c.args.i c.len-depth.result))
          (sym c.in-Ok.ensures.items)
          (subst (λ (k : ℕ). AreLevels c.args.n (suc d) s.starts.items (s.entries.items ++ e ∷ []) (set s.stamps.items c.args.i k)) depth more));
      room = λ k is. omega (arith, c.requires.saves.room k is, c.in-Ok.ensures.capacity);
      deep = c.requires.saves.deep;
    }

pub returns-clause-marked : goal.returns-clause-marked
returns-clause-marked c ws w is lt =
    let s = c.args.saves.now in
    let d = c.len-depth.result - 1 in
    let deep : length s.starts.items ≡ suc d = omega (arith, c.len-depth.ensures, c.if-depth-eq0.false) in
    let levels = subst (λ (k : ℕ). AreLevels c.args.n k s.starts.items s.entries.items s.stamps.items) deep c.requires.saves.levels in
    let e : Saved = record { at = c.args.i; old = c.args.old; stamp = c.index-stamp.result.now } in
    subst (λ (k : ℕ). marked_from k s.starts.items c.push.new.self.items (set ws c.args.i w)
    ≡ marked_from k s.starts.items s.entries.items ws) (sym deep)
    (subst (λ (xs : List Saved). marked_from (suc d) s.starts.items xs (set ws c.args.i w)
    ≡ marked_from (suc d) s.starts.items s.entries.items ws) (sym c.in-Ok.ensures.items)
    (marked_saved c.args.n d s.starts.items s.entries.items s.stamps.items e ws w levels is))
