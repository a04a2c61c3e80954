use Rattle.std.proofs.Common.{ℕ, ◌≡◌, ◌+◌, List, [], ◌∷◌, ◌++◌, drop, map, sym, ap, ◌∙◌, append_assoc}
use Rattle.std.specs.Prelude.{Some, slice_get}
use Rattle.un_model.proofs.Steps.{drop_at}
use Rattle.un_sites.specs.Pressures.{across_by}
use Rattle.un_sites.specs.Sites.{place_of}
use Rattle.un_rooms.proofs.Gathering.{got}
use Rattle.un_rooms.proofs.post_pressures.post_calls.Goals as goal

-- one more of what is made of each
one_more : {A B C : Type 0} (f : B → C) (g : A → B) (i : ℕ) (xs : List A) (x : A) (old next whole : List C)
    → old ++ map f (map g (drop i xs)) ≡ whole → slice_get xs i ≡ Some x → next ≡ old ++ f (g x) ∷ []
    → next ++ map f (map g (drop (i + 1) xs)) ≡ whole
one_more f g i xs x old next whole h at new =
    let rest = map f (map g (drop (i + 1) xs)) in
    ap (λ ys. ys ++ rest) new ∙ append_assoc old (f (g x) ∷ []) rest
    ∙ (ap (λ ys. old ++ map f (map g ys)) (sym (drop_at xs i x at)) ∙ h)

pub loop-call-preserved : goal.loop-call-preserved
loop-call-preserved c =
    one_more (across_by c.args.mask c.args.arcs.now c.args.room.now (map place_of c.args.spots.now)) place_of c.loop-call.call-index
    c.args.calls.now c.call-item.result c.loop-call.props c.post_across.new.props _ c.loop-call.invariant
    (got c.args.calls.now c.loop-call.call-index c.call-item.result c.loop-call-test.true c.call-item.is) c.in_ok-post_across.ensures
