use Rattle.std.proofs.Common.{◌≡◌, ◌∙◌, ap, sym, subst}
use Rattle.un_isa.specs.Fit.{IsFit}
use Rattle.un_ir.specs.declared.extended.Ext.{Ext}
use Rattle.un_ir.specs.Extended.{IsExtended}
use Rattle.un_model.specs.declared.model.Model.{Model}
use Rattle.un_model.specs.Variables.{model_of}
use Rattle.un_simulation.specs.Simulation.{Simulates}
use Rattle.un_emit.specs.Emitted.{start_places}
use Rattle.un_emit.specs.OfSource.{IsOfSource}
use Rattle.un_emit.proofs.OfFunction.{is_extended, is_of_source}
use Rattle.un_emit.proofs.emit.emit.Goals as goal

pub solution_code-requires : goal.solution_code-requires
solution_code-requires c =
    let k = c.requires in
    let m = c.args.m.now in
    let e = c.args.e.now in
    let own : m.ext ≡ e = ap (λ (x : Model). x.ext) k.model in
    let live = k.extended in
    record {
      model = k.model ∙ ap (λ (x : Ext). model_of x m.options) (sym own);
      extended = subst IsExtended (sym own) (is_extended c.args.f.now live.0 e live.1 k.fit live.2);
      fit = subst (λ (x : Ext). IsFit x.table) (sym own) k.fit;
      options = k.options;
      solution = k.solution;
    }

pub returns-clause-simulates : goal.returns-clause-simulates
returns-clause-simulates c =
    let k = c.requires in
    let m = c.args.m.now in
    let f = c.args.f.now in
    let own : m.ext ≡ c.args.e.now = ap (λ (x : Model). x.ext) k.model in
    let live = k.extended in
    let of : IsOfSource f live.0 m.ext = subst (IsOfSource f live.0) (sym own) (is_of_source f live.0 c.args.e.now live.1 k.fit live.2) in
    let right = c.in_ok-code.ensures.right in
    let places = start_places m (let s = c.args.s.now in s.values) in
    subst (λ (x : Ext). Simulates x.table f places c.in_ok-code.code) own (right.simulates f live.0 of)

pub returns-clause-cost : goal.returns-clause-cost
returns-clause-cost c =
    let k = c.requires in
    let m = c.args.m.now in
    let f = c.args.f.now in
    let own : m.ext ≡ c.args.e.now = ap (λ (x : Model). x.ext) k.model in
    let live = k.extended in
    let of : IsOfSource f live.0 m.ext = subst (IsOfSource f live.0) (sym own) (is_of_source f live.0 c.args.e.now live.1 k.fit live.2) in
    let right = c.in_ok-code.ensures.right in
    right.counted f live.0 of
