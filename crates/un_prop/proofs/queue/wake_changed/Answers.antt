use Rattle.std.proofs.Common.{◌≡◌, ◌<◌, ◌∙◌, length, get_or, true, refl, arith, subst, sym}
use Rattle.std.proofs.lemmas.List.{get_or-set_other, length-set, get_or_default}
use Rattle.un_base.specs.declared.ids.VarId.{VarId}
use Rattle.un_domains.specs.Sets.{has}
use Rattle.un_prop.specs.Queues.{AllWait}
use Rattle.un_prop.proofs.WakeLaws.{row_at, noted_then, noted_else, woken_then}
use Rattle.un_prop.proofs.queue.wake_changed.Goals as goal
use Rattle.un_prop.proofs.queue.wake_changed.Goals.{then-size-get, else-size-get}

pub wake-requires : goal.wake-requires
wake-requires c i h =
    let at = (get_or c.args.vars.now c.loop-v.v-index (record { 0 = 0 })).0 in
    let there : at < length c.args.table.now = omega (
      arith,
      c.requires.known c.loop-v.v-index (record { 0 = 0 }) c.loop-v-test.true,
      c.requires.table,
    ) in
    let row = row_at c.args.table.now at c.index-table-at.result there c.index-table-at.is in
    let here = c.requires.within at i (subst (λ xs. has xs i ≡ true) (c.as_slice.ensures ∙ row) h) in
    omega (arith, here, c.loop-v.invariant.flags)

pub loop-v-preserved : goal.loop-v-preserved
loop-v-preserved c =
    let k = c.loop-v.v-index in
    let vars = c.args.vars.now in
    let at = (get_or vars k (record { 0 = 0 })).0 in
    let known : at < length c.args.store.now.sets = c.requires.known k (record { 0 = 0 }) c.loop-v-test.true in
    let is : (d : VarId) → (get_or vars k d).0 ≡ at = λ d. (let e = get_or_default vars k d (record { 0 = 0 }) c.loop-v-test.true in
    subst (λ (v : VarId). (get_or vars k d).0 ≡ v.0) e refl) in
    let inv = c.loop-v.invariant in
    let within : at < length c.loop-v.sizes.words = omega (arith, known, inv.long, c.requires.sizes) in
    elim c.if-size-get.branch [
      | then-size-get w ↦ (
          let there : at < length c.args.table.now = omega (arith, known, c.requires.table) in
          let row = row_at c.args.table.now at w.index-table-at.result there w.index-table-at.is in
          let all : AllWait c.args.table.now w.wake.new.waiting at =
          λ i h. w.wake.ensures.there i (subst (λ xs. has xs i ≡ true) (sym (w.as_slice.ensures ∙ row)) h) in
          rw (w.sizes-is, w.waiting-is, w.set.ensures.words) (record {
            long = length-set c.loop-v.sizes.words at _ ∙ inv.long;
            marked = w.set.ensures.marked ∙ inv.marked;
            flags = w.wake.ensures.flags ∙ inv.flags;
            noted = noted_then vars c.args.store.now.sets c.loop-v.sizes.words k at c.count-size.result c.loop-v-test.true is within
                c.count-size.ensures inv.noted;
            others = λ u other. get_or-set_other c.loop-v.sizes.words at u c.count-size.result 0 (other k (record { 0 = 0 })
                c.loop-v-test.true)
                ∙ inv.others u other;
            woken = woken_then c.args.table.now c.args.sizes.now.words c.loop-v.sizes.words c.loop-v.waiting w.wake.new.waiting at
                c.count-size.result
                all w.wake.ensures.grows inv.woken;
            grows = λ i h. w.wake.ensures.grows i (inv.grows i h);
          }))
      | else-size-get w ↦ rw (w.sizes-is, w.waiting-is) (record {
        long = inv.long;
        marked = inv.marked;
        flags = inv.flags;
        noted = noted_else vars c.args.store.now.sets c.loop-v.sizes.words k at c.count-size.result c.loop-v-test.true is within
            c.count-size.ensures inv.noted (w.if-size-get.false ∙ c.get.ensures);
        others = inv.others;
        woken = inv.woken;
        grows = inv.grows;
      })
    ]
