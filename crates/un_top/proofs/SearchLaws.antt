-- From what a search answers to what its report says.
use Rattle.std.proofs.Common.{ℕ, ◌≡◌, ◌≢◌, ◌≤◌, ◌∙◌, List, All, Contains, None, Some, length, sym, subst, arith}
use Rattle.std.specs.declared.option.Option.{Option}
use Rattle.std.specs.Option.{IfSome}
use Rattle.un_outside.specs.declared.status.Status.{Status}
use Rattle.un_isa.specs.declared.table.Table.{Table}
use Rattle.un_ir.specs.ExtendOf.{extend_of}
use Rattle.un_ir.specs.LinearOf.{lin_of}
use Rattle.un_ir.specs.declared.function.Function.{Function}
use Rattle.un_model.specs.declared.model.Model.{Model}
use Rattle.un_model.specs.declared.model.Options.{Options}
use Rattle.un_model.specs.declared.model.Solution.{Solution}
use Rattle.un_model.specs.Cost.{cost_of}
use Rattle.un_model.specs.Solutions.{IsSolution}
use Rattle.un_bound.specs.Plain.{IsPlainBound}
use Rattle.un_compact.proofs.Compaction.{no_cheaper}
use Rattle.un_packet.specs.declared.code.Code.{Code as CodeValue}
use Rattle.un_problem.specs.Problems.{IsExtOf, IsModelOf, IsProblemOf}
use Rattle.un_problem.proofs.ProblemLaws.{table_is}
use Rattle.un_reader.specs.Read.{IsRead}
use Rattle.un_merges.specs.Merges.{HasNoMerge}
use Rattle.un_tree.proofs.PlainLaws.{plain_outer}
use Rattle.un_tree.specs.Waits.{IsOdd, outer_count}
use Rattle.un_tree.specs.declared.node.Node.{Node}
use Rattle.un_tree.specs.declared.node.Node.TheVariants.{Open}
use Rattle.un_certificate.specs.Bounds.{IsBound}
use Rattle.un_certificate.specs.Certificates.{IsCertificate}
use Rattle.un_certificate.specs.Joints.{blocks_of, visits_in}
use Rattle.un_model.specs.Boxes.{root_of}
use Rattle.un_certificate.proofs.Lows.{standing}
use Rattle.un_certificate.proofs.Numbers.{plain_one}
use Rattle.un_check.proofs.SearchLemmas.{model_under, search_not}
use Rattle.un_check.specs.Causes.{limit_of}
use Rattle.un_check.specs.Sound.{IsSoundAnswer, IsSoundFor}
use Rattle.un_report.specs.declared.report.Answered.{Answered}
use Rattle.un_report.specs.declared.report.Answered.TheVariants.{Code, Infeasible, Spent}
use Rattle.un_report.specs.declared.report.Report.{Report}
use Rattle.un_search.specs.Solved.{IsEnded, OnCode, OnInfeasible, OnSpent, OnOther}
use Rattle.un_search.specs.declared.solve.Answer.{Answer}
use Rattle.un_search.specs.declared.solve.Answer.TheVariants.{Code as Solved, Infeasible as Refuted, Spent as Stopped}
use Rattle.un_top.specs.Reports.{IsGoodAnswer, IsCodeWithin, UsesRoom, IsSearchOf, IsSearchText, IsReportOf}
use Rattle.un_top.specs.Searches.{IsStartOf, IsNoWorse, IsAnswerOf, IsReported}

-- the nodes of a search's tree are outer ones
pub all_outer : (m : Model) (limit : Option ℕ) (t : List Node) → IsCertificate m limit t → outer_count (visits_in m t) ≡ length t
all_outer m limit t h = plain_outer (blocks_of m) (root_of m) t h.tree.plain h.tree.whole

-- what a search says of its answer
pub record IsSolved (m : Model) (start : Option Solution) (nodes : ℕ) (a : Answer) : Type 0 where
  pub solution : OnCode (λ s cost bound t. IsSolution m s × (cost ≡ cost_of m s)) a
  pub no_dearer : OnCode (λ s cost bound t. IfSome start (λ x. cost ≤ cost_of m x)) a
  pub tight : 3 ≤ nodes → OnCode (λ s cost bound t. HasNoMerge m s) a
  pub tree : OnCode (λ s cost bound t. IsEnded m (Some cost) nodes t) a
  pub bound : OnCode (λ s cost bound t. IsBound m cost (visits_in m t) bound) a
  pub least : OnCode (λ s cost bound t. (x : Solution) → IsSolution m x → bound ≤ cost_of m x) a
  pub equal : OnCode (λ s cost bound t. All (λ n. n ≢ Open) t → bound ≡ cost) a
  pub started : OnOther (start ≡ None) a
  pub infeasible : OnInfeasible (λ t. IsEnded m None nodes t × All (λ n. n ≢ Open) t) a
  pub none : OnInfeasible (λ t. (x : Solution) → IsSolution m x → ⊥) a
  pub spent : OnSpent (λ t. IsEnded m None nodes t × Contains t Open) a

-- what a report says of its answer and its tree
record Parts (f : Function) (m : Model) (start : Option Solution) (nodes : ℕ) (ans : Answered) (t : List Node) : Type 0 where
  pub few : length t ≤ nodes
  pub used : Contains t Open → IsOdd (length t) nodes
  pub sound : IsSoundAnswer m t ans
  pub searched : IsCertificate m (limit_of ans) t
  pub good : IsGoodAnswer f m nodes t ans
  pub no_worse : IsNoWorse m start ans

moved : (P : ℕ → ℕ → Solution → List Node → Type 0) (c cost b bound : ℕ) (x s : Solution) (u t : List Node) → c ≡ cost → b ≡ bound
    → x ≡ s → u ≡ t → P cost bound s t → P c b x u
moved P c cost b bound x s u t pc pb px pu h =
    subst (λ (n : ℕ). P n b x u) (sym pc) (subst (λ (n : ℕ). P cost n x u) (sym pb)
    (subst (λ (y : Solution). P cost bound y u) (sym px) (subst (λ (v : List Node). P cost bound s v) (sym pu) h)))

-- the bound is no less than the plain one
plain_within : (m : Model) (c bound : ℕ) (t : List Node) → IsBound m c (visits_in m t) bound → (n : ℕ) → IsPlainBound m n
    → n ≤ bound
plain_within m c bound t b n is = let same = plain_one m n b.plain is b.is_plain in let e = b.greatest in omega (arith, same, e)

-- from no solution nothing is worse
from_none : (m : Model) (start : Option Solution) (ans : Answered) → start ≡ None → IsNoWorse m start ans
from_none m start ans e = subst (λ (o : Option Solution). IsNoWorse m o ans) (sym e) tt

no_dearer : (m : Model) (cost bound : ℕ) (code : CodeValue) (s : Solution) (start : Option Solution)
    → IfSome start (λ x. cost ≤ cost_of m x) → IsNoWorse m start (Code cost bound code s)
no_dearer m cost bound code s None h = tt
no_dearer m cost bound code s (Some x) h = h

-- where each name can be kept in a frame slot of its own, an answer that is no worse than that is code that costs no more
pub room_used : (f : Function) (m : Model) (start : Option Solution) (ans : Answered) → IsStartOf f m start → IsNoWorse m start ans
    → (e : IsExtOf m.ext.table f m.ext) → UsesRoom f m e.live ans
room_used f m None ans is h e = λ roomy. absurd (is roomy)
room_used f m (Some s) ans is h e = λ roomy.
    subst (λ (n : ℕ). IsCodeWithin n ans)
    (is.1 (record { function = f; lists = e.live; live = e.are_live; extended = e.is_extended })) h

-- what starts a search is a solution
pub start_is : (f : Function) (m : Model) (start : Option Solution) → IsStartOf f m start → IfSome start (IsSolution m)
start_is f m None is = tt
start_is f m (Some s) is = is.0

-- code that costs no more than what costs no more
pub within_more : (a : Answered) (n most : ℕ) → n ≤ most → IsCodeWithin n a → IsCodeWithin most a
within_more (Code cost bound code s) n most h within = omega (arith, h, within)
within_more Infeasible n most h within = absurd within
within_more Spent n most h within = absurd within

module _ (f : Function) (m : Model) (p : IsProblemOf f m) (nodes : ℕ) (start : Option Solution) where
  parts : (a : Answer) (ans : Answered) (u : List Node) → IsSolved m start nodes a → IsAnswerOf f m a ans u
      → Parts f m start nodes ans u
  parts (Solved s cost bound t) (Code c b code x) u h w =
      moved (λ c b x u. Parts f m start nodes (Code c b code x) u) c cost b bound x s u t.nodes.items w.0 w.1 w.2 w.3 (record {
        few = h.tree.few;
        used = h.tree.used;
        sound = record {
          solution = h.solution.0;
          costs = h.solution.1;
          emitted = w.4.emitted;
          standing = standing m (Some cost) t.nodes.items h.tree.certificate;
          bounded = h.bound;
        };
        searched = h.tree.certificate;
        good = record {
          simulates = w.4.simulates;
          counted = h.solution.1 ∙ sym w.4.counted;
          least = h.least;
          loose = no_cheaper m p.own p.extended p.fit bound h.least;
          plain = plain_within m cost bound t.nodes.items h.bound;
          equal = h.equal;
          tight = h.tight;
        };
        no_worse = no_dearer m cost bound code s start h.no_dearer;
      })
  parts (Solved s cost bound t) Infeasible u h w = absurd w
  parts (Solved s cost bound t) Spent u h w = absurd w
  parts (Refuted t) (Code c b code x) u h w = absurd w
  parts (Refuted t) Infeasible u h w = subst (Parts f m start nodes Infeasible) (sym w) (record {
    few = h.infeasible.0.few;
    used = h.infeasible.0.used;
    sound = record { standing = standing m None t.nodes.items h.infeasible.0.certificate; closed = h.infeasible.1 };
    searched = h.infeasible.0.certificate;
    good = h.none;
    no_worse = from_none m start Infeasible h.started;
  })
  parts (Refuted t) Spent u h w = absurd w
  parts (Stopped t) (Code c b code x) u h w = absurd w
  parts (Stopped t) Infeasible u h w = absurd w
  parts (Stopped t) Spent u h w = subst (Parts f m start nodes Spent) (sym w) (record {
    few = h.spent.0.few;
    used = h.spent.0.used;
    sound = record { standing = standing m None t.nodes.items h.spent.0.certificate; some = h.spent.1 };
    searched = h.spent.0.certificate;
    good = tt;
    no_worse = from_none m start Spent h.started;
  })

  -- the report of a search
  pub search_is : (a : Answer) (r : Report) → IsSolved m start nodes a → IsReported f m nodes a r → IsSearchOf f m nodes r
  search_is a r h w =
      let q = parts a r.answer r.tree.nodes.items h w.answer in
      let sound : IsSoundFor m f r = record {
        named = w.named;
        used = λ some. subst (λ (n : ℕ). IsOdd n r.nodes) (sym (all_outer m (limit_of r.answer) r.tree.nodes.items q.searched))
            (subst (IsOdd (length r.tree.nodes.items)) (sym w.budget) (q.used some));
        answer = q.sound;
      } in
      record {
        versioned = w.versioned;
        chosen = w.chosen;
        budget = w.budget;
        few = q.few;
        sound = sound;
        searched = q.searched;
        accepted = search_not f m r sound q.searched m.ext.table r.options (model_under f m r.options w.chosen p.gives);
        answer = q.good;
      }

  -- is no worse than its start
  pub search_no_worse : (a : Answer) (r : Report) → IsSolved m start nodes a → IsReported f m nodes a r → IsNoWorse m start r.answer
  search_no_worse a r h w = let q = parts a r.answer r.tree.nodes.items h w.answer in q.no_worse

-- the report of a text from that of its function
pub report_is : (t : Table) (f : Function) (o : Options) (m : Model) (nodes : ℕ) (text : List ℕ) (status : Status) (out : List ℕ)
    → IsRead text f → IsModelOf t f o m → ((e : IsExtOf m.ext.table f m.ext) → IsSearchText f m nodes (UsesRoom f m e.live) status out)
    → IsReportOf t o nodes text status out
report_is t f o m nodes text status out read g found = record {
  function = f;
  read = read;
  model = m;
  is_model = g;
  found = found (record {
    live = g.ext.live;
    are_live = g.ext.are_live;
    is_extended = subst (λ (u : Table). m.ext ≡ extend_of (lin_of f g.ext.live u)) (sym (table_is t f m.ext g.ext)) g.ext.is_extended;
  });
}

-- the same for a table and options that are others
pub report_for : (t u : Table) (o p : Options) (nodes : ℕ) (text : List ℕ) (status : Status) (out : List ℕ) → t ≡ u → o ≡ p
    → IsReportOf t o nodes text status out → IsReportOf u p nodes text status out
report_for t u o p nodes text status out e k h =
    subst (λ (w : Table). IsReportOf w p nodes text status out) e (subst (λ (q : Options). IsReportOf t q nodes text status out) k h)
