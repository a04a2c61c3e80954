use Rattle.std.proofs.Common.{◌≡◌, ◌∙◌, ◌<◌, length, get_or, set, ap, refl, arith}
use Rattle.un_model.specs.declared.model.TempVars.{TempVars}
use Rattle.un_symm.specs.Exchanges.{exchanged}
use Rattle.un_symm.proofs.Values.{none_yet, one_more, none_more}
use Rattle.un_symm.proofs.exchange.exchanged_values.Goals as goal
use Rattle.un_symm.proofs.exchange.exchanged_values.Goals.{then-k-len, else-k-len}

pub loop-t-init : goal.loop-t-init
loop-t-init c = c.in_ok-new.ensures ∙ none_yet c.args.a.0 c.args.b.0 c.args.old.now

abbrev no_temp : TempVars
no_temp = record { op = record { 0 = 0 }; value = record { 0 = 0 }; reg = record { 0 = 0 } }

pub loop-t-preserved : goal.loop-t-preserved
loop-t-preserved c =
    let temps = c.args.temps.now in
    let i = c.loop-t.t-index in
    let t = get_or temps i no_temp in
    let a = c.args.a.0 in
    let b = c.args.b.0 in
    let old = c.args.old.now in
    let new = c.loop-t.new in
    elim c.if-k-len.branch [
      | then-k-len w ↦
          let inside : t.reg.0 < length new = omega (arith, w.if-k-len.true, c.len.ensures) in
          let made : w.exchanged.result ≡ exchanged a b (get_or old t.reg.0 0) = w.exchanged.ensures ∙ ap (exchanged a b) w.value.ensures in
          w.new-is ∙ w.set.ensures ∙ ap (set new t.reg.0) made
          ∙ one_more temps i a b t no_temp old c.loop-t-test.true refl new inside c.loop-t.invariant
      | else-k-len w ↦ w.new-is ∙ none_more temps i a b t no_temp old c.loop-t-test.true refl new
          (omega (arith, w.if-k-len.false, c.len.ensures)) c.loop-t.invariant
    ]
