-- Verdicts on small lists of nodes, of any model under any limit.
use Rattle.std.proofs.Common.{ℕ, ◌≡◌, ◌≢◌, ◌≤◌, List, [], ◌∷◌, ◌++◌, length, None, refl, arith}
use Rattle.std.specs.declared.option.Option.{Option}
use Rattle.std.proofs.lemmas.List.Elements.{All-nil, All-from_recursion}
use Rattle.un_base.specs.declared.ids.VarId.{VarId}
use Rattle.un_isa.specs.declared.reg.Reg.{Reg}
use Rattle.un_model.specs.Boxes.{root_of}
use Rattle.un_model.specs.declared.model.Model.{Model}
use Rattle.un_post.specs.Posts.{fix_at}
use Rattle.un_tree.specs.declared.node.Decision.{Decision}
use Rattle.un_symtree.specs.declared.node.SymNode.TheVariants.{Branch, Closed, Mirror}
use Rattle.un_refutes.specs.SymVerdicts.{IsVerdict, Keeps, routes_of}
use Rattle.un_refutes.specs.declared.verdict.SymVerdict.TheVariants.{Yes, NotStrict, NotClosed, NotMirror, Short}

no_right : (above : List Decision) (at : Decision) (below : List Decision) → [] ≡ above ++ at ∷ below → ⊥
no_right [] at below e = cc e
no_right (d ∷ ds) at below e = cc e

module _ (m : Model) (limit : Option ℕ) where
  -- no node is no tree
  pub nothing_is_short : IsVerdict m limit [] Short
  nothing_is_short = record { torn = λ e. cc e; kept = All-nil (Keeps m limit) }

  -- a leaf alone, on whose box the rounds fail
  pub leaf_is_tree : fix_at m limit (root_of m) ≡ None → IsVerdict m limit (Closed ∷ []) Yes
  leaf_is_tree none = record { whole = refl; kept = All-from_recursion (Keeps m limit) (routes_of (Closed ∷ [])) (none, tt) }

  -- a node behind it is not tried
  pub more_is_short : (a b : Reg) (depth : ℕ) → fix_at m limit (root_of m) ≡ None → IsVerdict m limit (Closed ∷ Mirror a b depth ∷ []) Short
  more_is_short a b depth none = record {
    torn = λ e. e;
    kept = All-from_recursion (Keeps m limit) (routes_of (Closed ∷ Mirror a b depth ∷ [])) (none, tt);
  }

  pub leaf_rests : fix_at m limit (root_of m) ≢ None → IsVerdict m limit (Closed ∷ []) (NotClosed 0)
  leaf_rests rests = record {
    before = [];
    at = record { node = Closed; path = []; place = 0; rest = [] };
    behind = [];
    split = refl;
    kept = All-nil (Keeps m limit);
    breaks = (refl, rests);
  }

  -- a branch on a variable that is not there
  pub no_variable : (v : VarId) (x : ℕ) → length (root_of m) ≤ v.0 → IsVerdict m limit (Branch v x ∷ []) (NotStrict 0)
  no_variable v x past = record {
    before = [];
    at = record { node = Branch v x; path = []; place = 0; rest = [] };
    behind = [];
    split = refl;
    kept = All-nil (Keeps m limit);
    breaks = (refl, λ s. absurd (let there = s.0 in omega (arith, there, past)));
  }

  -- a mirror on no right side
  pub root_mirrors_nothing : (a b : Reg) (depth : ℕ) → IsVerdict m limit (Mirror a b depth ∷ []) (NotMirror 0)
  root_mirrors_nothing a b depth = record {
    before = [];
    at = record { node = Mirror a b depth; path = []; place = 0; rest = [] };
    behind = [];
    split = refl;
    kept = All-nil (Keeps m limit);
    breaks = (refl, λ h. no_right h.above h.at h.below h.split);
  }
