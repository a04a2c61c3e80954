use Rattle.std.proofs.Common.{ℕ, Option, ap, ◌∙◌, arith}
use Rattle.std.specs.Prelude.{slice_get}
use Rattle.un_base.specs.declared.ids.NameId.{NameId}
use Rattle.un_base.specs.declared.ids.TempId.{TempId}
use Rattle.un_model.proofs.Steps.{places_more, places_all}
use Rattle.un_baseline.specs.SpillEverywhere.{start_register}
use Rattle.un_baseline.proofs.spill.push_starts.Goals as goal

pub loop-j-preserved : goal.loop-j-preserved
loop-j-preserved c =
    places_more (λ (j : ℕ) (x : TempId). start_register c.args.t.now c.args.s.now c.args.live_in.now j
    (slice_get c.args.live_in.now j)) c.loop-j.j c.loop-j.j c.args.results.now c.get-x.result.now c.loop-j.values _ c.push.new.self
    c.in_ok-start_register.field-0 c.loop-j.invariant c.get-x.ensures
    (c.in_ok-start_register.ensures ∙ ap (λ
    (n : Option NameId). start_register c.args.t.now c.args.s.now c.args.live_in.now c.loop-j.j n) c.name_at-name.ensures)
    c.in_ok-push.ensures.ok

pub returns : goal.returns
returns c =
    places_all (λ (j : ℕ) (x : TempId). start_register c.args.t.now c.args.s.now c.args.live_in.now j
    (slice_get c.args.live_in.now j)) c.loop-j.j c.loop-j.j c.args.results.now c.loop-j.values _ c.loop-j.invariant (omega arith)
