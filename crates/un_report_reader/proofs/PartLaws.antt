-- Parts of a report that are read, one after another.
use Rattle.std.proofs.Common.{◌≡◌, ◌≢◌, ℕ, ◌+◌, ◌≤◌, inl, inr, List, ◌∷◌, ◌++◌, Option, IfSome, IfOk, IfErr, Result, Ok, Err, codes, decimal, length}
use Rattle.std.proofs.Common.{◌-◌, take, length-append, refl, sym, ap, ◌∙◌, subst, arith, append_assoc}
use Rattle.un_model.specs.declared.model.Options.{Options}
use Rattle.un_packet.specs.declared.code.Code.{Code as CodeValue}
use Rattle.un_model.specs.declared.model.Solution.{Solution}
use Rattle.un_report.specs.Reports.{regs_text, listing_text, numbers_text, solution_text, answer_text}
use Rattle.un_report.specs.declared.report.Answered.{Answered}
use Rattle.un_report.specs.declared.report.Answered.TheVariants.{Code, Infeasible, Spent}
use Rattle.un_commands.specs.declared.command.TheConstants.{MOST_NODES}
use Rattle.un_isa.specs.Versions.{IsVersion}
use Rattle.un_model.specs.Options.{IsCountOfRegisters}
use Rattle.un_report_reader.proofs.Behind.{answer_seam, four_parts, listing_seam, solution_seam}
use Rattle.un_report_reader.proofs.Cuts.{field_once, number_once}
use Rattle.un_report_reader.proofs.Once.{name_free, regs_free}
use Rattle.un_report_reader.proofs.Seams.{function_seam, settings_seam}
use Rattle.un_report_reader.specs.Answers.{AreCosts, costs_lines, two, IsListed, listing_lines, AreValues, solution_lines, kind_of, IsAnswer}
use Rattle.un_report_reader.specs.Answers.{behind_kind, lines_behind, answer_lines, IsCodeRead}
use Rattle.un_report_reader.proofs.Listings.{behind_text, behind_first, behind_enough, listing_counted}
use Rattle.un_report_reader.proofs.TreeLaws.{lines_taken}
use Rattle.std.specs.List.{concat}
use Rattle.un_listing_reader.specs.Reading.{IsFirstBadWithin, IsErrorWithin, IsListingWithin}
use Rattle.un_listing_reader.specs.declared.read.ListingError.{ListingError}
use Rattle.un_listing_reader.specs.declared.read.ListingError.TheVariants as Listing
use Rattle.un_report_reader.specs.Answers.{IsBehindLines, IsErrorFrom}
use Rattle.un_report_reader.specs.Errors.{IsErrorAt, IsRead}
use Rattle.un_report_reader.proofs.Through.{weaker, named, past_line}
use Rattle.un_report_reader.specs.FirstBad.{InVersion, InAnswer, InCost, BehindKind, InNodes, IsBadNode, InCode, IsBadCode, lines_in_code, InListing, InSolution}
use Rattle.un_report_reader.specs.FirstBad.{IsBadSolution, numbers_lines}
use Rattle.un_report_reader.specs.Trees.{AreNodeLines, IsNodesRead, IsTreeRead}
use Rattle.un_report_reader.specs.declared.limits.Limits.{Limits}
use Rattle.un_report_reader.specs.declared.tree.Lines.{Lines}
use Rattle.un_listing.specs.Listing.{code_lines, code_text}
use Rattle.un_report_reader.specs.Heads.{IsHead, head_text, three}
use Rattle.un_report_reader.specs.Limits.{AreSmall, AreFewLines, limits_of}
use Rattle.un_report_reader.specs.Lines.{one, version_text, IsName, function_text, AreSettings, settings_text, IsAny, kind_text}
use Rattle.un_report_reader.specs.Lines.{IsLong, IsShort, cost_text, bound_text, tree_head, listing_head, HasLines, solution_head, AreNumbers}
use Rattle.un_report_reader.specs.Parts.{IsField, IsWithin, IsNumber}
use Rattle.un_report_reader.specs.Readings.{IsErrorOf}
use Rattle.un_report_reader.specs.declared.error.ReportError.{ReportError}
use Rattle.un_report_reader.specs.declared.error.ReportError.TheVariants.{NoMemory, BadReport}
use Rattle.un_report_reader.specs.declared.kind.Kind.{Kind}
use Rattle.un_report_reader.specs.declared.kind.Kind.TheVariants as KindOf
use Rattle.un_report_reader.specs.declared.place.Place.{Place}

-- ---- lines

-- the word that is read in place of a name is the name
pub word_is_name : (text word rest : List ℕ) → IsField text (codes "function ") 10 word rest → (name more : List ℕ) → IsName name
    → text ≡ function_text name ++ more → IsName word
word_is_name text word rest h name more good e =
    subst IsName (sym (field_once text (codes "function ") 10 word rest name more h (name_free name good) (e ∙ function_seam name more)).0) good

-- ---- several parts

two_reads : (text first second mid rest : List ℕ) → text ≡ first ++ mid → mid ≡ second ++ rest → text ≡ (first ++ second) ++ rest
two_reads text first second mid rest e f = e ∙ (ap (λ (t : List ℕ). first ++ t) f ∙ sym (append_assoc first second rest))

pub head_read : (at : Place) (n : ℕ) (second : Place) (name : List ℕ) (third : Place) (s : Options × ℕ) (next : Place)
    → IsRead IsVersion version_text one at n second → IsRead IsName function_text one second name third
    → IsRead (AreSettings (limits_of n)) settings_text one third s next
    → IsRead IsHead head_text three at (n, name, s.0, s.1) next
head_read at n second name third s next v f m =
    let a = v.numbered in
    let b = f.numbered in
    let c = m.numbered in
    record {
      is_good = (v.is_good, f.is_good, m.is_good);
      whole = two_reads at.rest.now (version_text n) (function_text name ++ settings_text s) second.rest.now next.rest.now v.whole
          (two_reads second.rest.now (function_text name) (settings_text s) third.rest.now next.rest.now f.whole m.whole);
      numbered = omega (arith, a, b, c);
    }

pub costs_read : (at : Place) (cost : ℕ) (second : Place) (bound : ℕ) (next : Place) → IsRead IsLong cost_text one at cost second
    → IsRead IsLong bound_text one second bound next → IsRead AreCosts costs_lines two at (cost, bound) next
costs_read at cost second bound next c b =
    let one_way = c.numbered in
    let other = b.numbered in
    record {
      is_good = (c.is_good, b.is_good);
      whole = two_reads at.rest.now (cost_text cost) (bound_text bound) second.rest.now next.rest.now c.whole b.whole;
      numbered = omega (arith, one_way, other);
    }

pub code_read : (l : Limits) (at : Place) (p : ℕ × ℕ) (second : Place) (code : CodeValue) (third : Place) (s : Solution) (next : Place)
    → IsRead AreCosts costs_lines two at p second → IsRead (IsListed l) listing_text listing_lines second code third
    → IsRead AreValues solution_text solution_lines third s.values next → IsCodeRead l at (Code p.0 p.1 code s) next
code_read l at p second code third s next c h v =
    let one_way = c.numbered in
    let other = h.numbered in
    let last = v.numbered in
    record {
      is_code = refl;
      is_read = record {
        is_good = (c.is_good.0, c.is_good.1, h.is_good, v.is_good);
        whole = c.whole
            ∙ (ap (λ (t : List ℕ). (cost_text p.0 ++ bound_text p.1) ++ t)
            (h.whole ∙ ap (λ (t : List ℕ). listing_text code ++ t) v.whole)
            ∙ sym (four_parts (cost_text p.0) (bound_text p.1) (listing_text code) (solution_text s.values) next.rest.now));
        numbered = omega (arith, one_way, other, last);
      };
    }

-- an answer is its kind and what is behind
pub answer_read : (l : Limits) (at : Place) (kind : Kind) (second : Place) (a : Answered) (next : Place) → IsRead IsAny kind_text one at kind second
    → kind_of a ≡ kind → IsRead (IsAnswer l) behind_kind lines_behind second a next → IsRead (IsAnswer l) answer_text answer_lines at a next
answer_read l at kind second a next k is r =
    let one_way = k.numbered in
    let other = r.numbered in
    record {
      is_good = r.is_good;
      whole = k.whole ∙ (ap (λ (x : Kind). kind_text x ++ second.rest.now) (sym is)
          ∙ (ap (λ (t : List ℕ). kind_text (kind_of a) ++ t) r.whole ∙ sym (answer_seam a next.rest.now)));
      numbered = omega (arith, one_way, other);
    }

pub infeasible_read : (l : Limits) (at second : Place) → IsRead IsAny kind_text one at KindOf.Infeasible second
    → IsRead (IsAnswer l) answer_text answer_lines at Infeasible second
infeasible_read l at second k =
    answer_read l at KindOf.Infeasible second Infeasible second k refl (record { is_good = tt; whole = refl; numbered = omega arith })

pub spent_read : (l : Limits) (at second : Place) → IsRead IsAny kind_text one at KindOf.Spent second
    → IsRead (IsAnswer l) answer_text answer_lines at Spent second
spent_read l at second k =
    answer_read l at KindOf.Spent second Spent second k refl (record { is_good = tt; whole = refl; numbered = omega arith })

pub codes_ok : (l : Limits) (at second : Place) (result : Result (Answered × Place) ReportError) → IsRead IsAny kind_text one at KindOf.Code second
    → IfOk result (λ p. IsCodeRead l second p.0 p.1) → IfOk result (λ p. IsRead (IsAnswer l) answer_text answer_lines at p.0 p.1)
codes_ok l at second (Err e) k h = tt
codes_ok l at second (Ok p) k h = answer_read l at KindOf.Code second p.0 p.1 k h.is_code h.is_read

-- ---- errors of a whole text

pub error_at_start : (text : List ℕ) (at : Place) (e : ReportError) → at.rest.now ≡ text → at.lines ≡ 0 → IsErrorAt InVersion at e
    → IsErrorOf text e
error_at_start text at NoMemory same none h = tt
error_at_start text at (BadReport line) same none h =
    let numbered = h.numbered in
    let here : h.line ≡ line = omega (arith, numbered, none) in
    subst (λ (t : List ℕ). InVersion t line) same (subst (λ (n : ℕ). InVersion at.rest.now n) here h.is_bad)

pub codes_bad : (l : Limits) (at second : Place) (result : Result (Answered × Place) ReportError) → IsRead IsAny kind_text one at KindOf.Code second
    → IfErr result (IsErrorAt (InCost l) second) → IfErr result (IsErrorAt (InAnswer l) at)
codes_bad l at second (Ok p) k h = tt
codes_bad l at second (Err e) k h = past_line IsAny kind_text (BehindKind l) at KindOf.Code second k e h

-- ---- the tree

pub own_nodes : (l : Limits) (count : ℕ) (at : Place) (e : ReportError) → IsErrorAt (IsBadNode l count) at e → IsErrorAt (InNodes l count) at e
own_nodes l count at e h = weaker (IsBadNode l count) (InNodes l count) at e (λ line b. inl b) h

pub tree_read : (l : Limits) (at : Place) (count : ℕ) (second : Place) (t : Lines) (next : Place) → IsRead (AreFewLines l) tree_head one at count second
    → t.count ≡ count → IsNodesRead l count second t.text.now next → IsTreeRead l at t next
tree_read l at count second t next c is n =
    let one_way = c.numbered in
    let other = n.numbered in
    record {
      is_good = subst (λ (k : ℕ). AreFewLines l k × AreNodeLines l k t.text.now) (sym is) (c.is_good, n.is_good);
      whole = two_reads at.rest.now (tree_head t.count) t.text.now second.rest.now next.rest.now
          (c.whole ∙ ap (λ (k : ℕ). tree_head k ++ second.rest.now) (sym is)) n.whole;
      numbered = omega (arith, one_way, other, is);
    }

-- ---- the listing

pub own_code : (l : Limits) (count : ℕ) (at : Place) (e : ReportError) → IsErrorAt (IsBadCode l count) at e → IsErrorAt (InCode l count) at e
own_code l count at e h = weaker (IsBadCode l count) (InCode l count) at e (λ line b. inl b) h

pub listing_read : (l : Limits) (at : Place) (count : ℕ) (second : Place) (c : CodeValue) (next : Place) → IsRead IsShort listing_head one at count second
    → IsRead (HasLines l count) code_text (lines_in_code count) second c next → IsRead (IsListed l) listing_text listing_lines at c next
listing_read l at count second c next h r =
    let one_way = h.numbered in
    let other = r.numbered in
    let long = r.is_good.0 in
    record {
      is_good = (subst IsShort (sym r.is_good.0) h.is_good, r.is_good.1);
      whole = h.whole ∙ (ap (λ (k : ℕ). listing_head k ++ second.rest.now) (sym r.is_good.0)
          ∙ (ap (λ (t : List ℕ). listing_head (length (code_lines c)) ++ t) r.whole ∙ sym (listing_seam c next.rest.now)));
      numbered = omega (arith, one_way, other, long);
    }

-- ---- the solution

-- a bad line of the solution is one, whatever is to follow the numbers
pub own_solution : (l : Limits) (at : Place) (e : ReportError) → IsErrorAt IsBadSolution at e → IsErrorAt (InSolution l) at e
own_solution l at e h = weaker IsBadSolution (InSolution l) at e (λ line b. by line b) h
  where
    by : (line : ℕ) → IsBadSolution at.rest.now line → InSolution l at.rest.now line
    by line (inl b) = inl b
    by line (inr b) = inr (record {
      value = b.value;
      rest = b.rest;
      behind = b.behind;
      is_good = b.is_good;
      whole = b.whole;
      is_bad = inl b.is_bad;
      numbered = b.numbered;
    })

pub solution_read : (at : Place) (count : ℕ) (second : Place) (xs : List ℕ) (next : Place)
    → IsRead IsShort solution_head one at count second → IsRead (AreNumbers count) numbers_text numbers_lines second xs next
    → IsRead AreValues solution_text solution_lines at xs next
solution_read at count second xs next h r =
    let one_way = h.numbered in
    let other = r.numbered in
    record {
      is_good = (subst IsShort (sym r.is_good.0) h.is_good, r.is_good.1);
      whole = h.whole ∙ (ap (λ (k : ℕ). solution_head k ++ second.rest.now) (sym r.is_good.0)
          ∙ (ap (λ (t : List ℕ). solution_head (length xs) ++ t) r.whole ∙ sym (solution_seam xs next.rest.now)));
      numbered = omega (arith, one_way, other);
    }

pub listings_ok : (l : Limits) (at : Place) (count : ℕ) (second : Place) (result : Result (CodeValue × Place) ReportError)
    → IsRead IsShort listing_head one at count second → IfOk result (λ p. IsRead (HasLines l count) code_text (lines_in_code count) second p.0 p.1)
    → IfOk result (λ p. IsRead (IsListed l) listing_text listing_lines at p.0 p.1)
listings_ok l at count second (Err e) h ok = tt
listings_ok l at count second (Ok p) h ok = listing_read l at count second p.0 p.1 h ok

pub listings_bad : (l : Limits) (at : Place) (count : ℕ) (second : Place) (result : Result (CodeValue × Place) ReportError)
    → IsRead IsShort listing_head one at count second → IfErr result (IsErrorAt (IsBadCode l count) second)
    → IfErr result (IsErrorAt (InListing l) at)
listings_bad l at count second (Ok p) h bad = tt
listings_bad l at count second (Err e) h bad =
    past_line IsShort listing_head (InCode l) at count second h e (own_code l count second e bad)

-- ---- texts that begin with no kind of answer, and with no settings

pub no_kind : (text : List ℕ) → ((rest : List ℕ) → text ≢ codes "answer code\n" ++ rest)
    → ((rest : List ℕ) → text ≢ codes "answer infeasible\n" ++ rest) → ((rest : List ℕ) → text ≢ codes "answer spent\n" ++ rest)
    → (kind : Kind) (rest : List ℕ) → text ≢ kind_text kind ++ rest
no_kind text f g h KindOf.Code rest e = f rest e
no_kind text f g h KindOf.Infeasible rest e = g rest e
no_kind text f g h KindOf.Spent rest e = h rest e

-- no settings stand at the front
abbrev NoSettings : Limits → List ℕ → Type 0
NoSettings l text = (s : Options × ℕ) (rest : List ℕ) → AreSettings l s → text ≢ settings_text s ++ rest

abbrev start_text : List ℕ
start_text = codes "model regs "

pub no_word : (l : Limits) (text : List ℕ) → ((word rest : List ℕ) → text ≢ start_text ++ (word ++ 32 ∷ rest)) → NoSettings l text
no_word l text none s rest good e = none (regs_text s.0.regs) _ (e ∙ settings_seam s rest)

-- what stands behind the first word, where settings do
abbrev slots_on : (Options × ℕ) → List ℕ → List ℕ
slots_on s rest = codes "slots " ++ (decimal s.0.slots ++ 32 ∷ (codes "nodes " ++ (decimal s.1 ++ 10 ∷ rest)))

first_word : (l : Limits) (text word left : List ℕ) → IsField text start_text 32 word left → (s : Options × ℕ) (rest : List ℕ) → AreSettings l s
    → text ≡ settings_text s ++ rest → (word ≡ regs_text s.0.regs) × (left ≡ slots_on s rest)
first_word l text word left h s rest good e =
    field_once text start_text 32 word left (regs_text s.0.regs) (slots_on s rest) h (regs_free s.0.regs good.0.regs) (e ∙ settings_seam s rest)

pub no_regs_word : (l : Limits) (text word left : List ℕ) → IsField text start_text 32 word left
    → ((r : Option ℕ) → IfSome r IsCountOfRegisters → word ≢ regs_text r) → NoSettings l text
no_regs_word l text word left h none s rest good e = none s.0.regs good.0.regs (first_word l text word left h s rest good e).0

pub no_slots : (l : Limits) (text word left : List ℕ) → IsField text start_text 32 word left
    → ((n : ℕ) (rest : List ℕ) → IsWithin 0 l.slots n → ¬ IsNumber left (codes "slots ") 32 n rest) → NoSettings l text
no_slots l text word left h none s rest good e =
    none s.0.slots _ (omega arith, good.0.slots) (first_word l text word left h s rest good e).1

pub no_nodes : (l : Limits) → AreSmall l → (text word left : List ℕ) (slots : ℕ) (last : List ℕ) → IsField text start_text 32 word left
    → IsWithin 0 l.slots slots × IsNumber left (codes "slots ") 32 slots last
    → ((n : ℕ) (rest : List ℕ) → IsWithin 1 MOST_NODES n → ¬ IsNumber last (codes "nodes ") 10 n rest) → NoSettings l text
no_nodes l small text word left slots last h k none s rest good e =
    let most = small.slots in
    let behind = (number_once (codes "slots ") 32 slots s.0.slots last (codes "nodes " ++ (decimal s.1 ++ 10 ∷ rest)) (omega arith)
    (omega (arith, k.0.1, most)) (omega (arith, good.0.slots, most)) (sym k.1 ∙ (first_word l text word left h s rest good e).1)).1 in
    none s.1 rest good.1 behind

-- ---- the lines of a listing, cut off

pub rest_short : (text : List ℕ) (count : ℕ) (rest : List ℕ) → IsBehindLines text count rest → length rest ≤ length text
rest_short text count rest h =
    let all = ap length (behind_text text count rest h) ∙ length-append (concat h.lines) rest in
    omega (arith, all)

lines_cut : (text : List ℕ) (count : ℕ) (rest : List ℕ) (h : IsBehindLines text count rest)
    → take (length text - length rest) text ≡ concat h.lines
lines_cut text count rest h = lines_taken text (concat h.lines) rest (length text - length rest) (behind_text text count rest h) refl

pub code_here : (l : Limits) (at : Place) (count : ℕ) (rest : List ℕ) (c : CodeValue) (next : Place) → IsBehindLines at.rest.now count rest
    → IsListingWithin l.frame (take (length at.rest.now - length rest) at.rest.now) c → next.rest.now ≡ rest → next.lines ≡ at.lines + count
    → IsRead (HasLines l count) code_text (lines_in_code count) at c next
code_here l at count rest c next h is same lines =
    let listed : concat h.lines ≡ code_text c = sym (lines_cut at.rest.now count rest h) ∙ is.0 in
    record {
      is_good = (listing_counted at.rest.now count rest c h listed, is.1);
      whole = behind_text at.rest.now count rest h ∙ (ap (λ (t : List ℕ). t ++ rest) listed ∙ ap (λ (t : List ℕ). code_text c ++ t) (sym same));
      numbered = lines;
    }

pub refused_at : (l : Limits) (at : Place) (count : ℕ) (rest : List ℕ) (error : ListingError) (e : ReportError) → IsBehindLines at.rest.now count rest
    → IsErrorWithin l.frame (take (length at.rest.now - length rest) at.rest.now) error → IsErrorFrom at error e → IsErrorAt (IsBadCode l count) at e
refused_at l at count rest Listing.NoMemory e h bad is = subst (IsErrorAt (IsBadCode l count) at) (sym is) tt
refused_at l at count rest (Listing.BadListing line) e h bad is =
    named (IsBadCode l count) at line e is (inl (
      behind_enough at.rest.now count rest h,
      subst (λ (t : List ℕ). IsFirstBadWithin l.frame t line) (lines_cut at.rest.now count rest h ∙ sym (behind_first at.rest.now count rest h)) bad,
    ))
