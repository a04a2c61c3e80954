-- Where Enter and every Leave are active, they are in order exactly where the tests of the frame's order pass.
use Rattle.std.proofs.Common.{ℕ, zero, suc, ◌≡◌, ◌↔◌, ◌+◌, ◌<◌, ◌≤◌, Bool, true, false, List, [], ◌∷◌, refl, sym, ap, ◌∙◌, subst, arith}
use Rattle.std.specs.Prelude.{Some, None, slice_index, not, ◌||◌, ◌&&◌, nat_eq, nat_le, nat_lt, is_some, if◌then◌else◌}
use Rattle.std.specs.List.{list_all}
use Rattle.un_isa.specs.declared.op.Op.{Op}
use Rattle.un_isa.specs.declared.op.Op.TheVariants.{Enter as EnterOp, Leave as LeaveOp}
use Rattle.un_isa.proofs.DoesLaws.{call_is}
use Rattle.un_ir.specs.declared.extended.ExtKind.{ExtKind}
use Rattle.un_ir.specs.declared.extended.ExtKind.TheVariants.{In, Out, Body, End, Copy, Enter, Leave}
use Rattle.un_ir.specs.declared.extended.Ext.{Ext}
use Rattle.un_ir.specs.Extended.{is_copy, is_enter, is_leave, IsGoodKind, IsSourceOp}
use Rattle.un_domains.specs.declared.domain.Domain.TheVariants.{Range}
use Rattle.un_model.specs.declared.model.Options.{Options}
use Rattle.un_model.specs.Instructions.{instruction_of, copy_of}
use Rattle.un_ir.specs.Kinds.{is_delimiter, is_optional, is_call_kind}
use Rattle.un_model.specs.Schedules.{value_by}
use Rattle.un_model.specs.Variables.{has_cycle, var_if, cycle_place, carries_truth, instr_domain}
use Rattle.un_lists.proofs.Lists.{Each, Member}
use Rattle.un_model.proofs.OpDomains.{in_entry, instr_sits}
use Rattle.un_model.proofs.Placed.{Placed, vars_of, issue_at}
use Rattle.un_model.proofs.PlacedSchedules.{all}
use Rattle.un_prop.specs.Acts.{act_number, is_active, at_value}
use Rattle.un_alt.specs.Frame.{counts}
use Rattle.un_sites.specs.Places.{act_by, time_by}
use Rattle.un_sites.specs.Postings.{var_or, cycle_var, copy_use, single_use}
use Rattle.un_post.proofs.Facts.{Given, falls, good_op, in_domains, instr_bound, acts, times}
use Rattle.un_post.proofs.FrameTags.{Tag, Enters, Calls, Leaves, tag, Fits, Sound, fits, is_touch, counted}
use Rattle.un_post.proofs.Placing.{place_of}
use Rattle.un_post.proofs.Tests.{iff_then, both, and_iff, lt_iff, le_iff}

pub all_iff : {A : Type 0} (t : A → Bool) (xs : List A) → Each (λ x. t x ≡ true) xs ↔ (list_all t xs ≡ true)
all_iff t [] = (λ h. refl, λ h. tt)
all_iff t (x ∷ xs) = iff_then (both (λ h. h, λ h. h) (all_iff t xs)) (and_iff (t x) (list_all t xs))

frame_on : (op : Op) (b : Bool) → is_some (if b then None else Some op) ≡ true → (if b then None else Some op) ≡ Some op
frame_on op true h = absurd (cc h)
frame_on op false h = refl

-- a use of the frame that counts where a test passes
pub late_iff : (b : Bool) (t c : ℕ) → (b ≡ true → t < c) ↔ ((not b || nat_lt t c) ≡ true)
late_iff true t c = (λ f. (lt_iff t c).0 (f refl), λ h e. (lt_iff t c).1 h)
late_iff false t c = (λ f. refl, λ h e. absurd (cc e))

pub soon_iff : (b : Bool) (t c : ℕ) → (b ≡ true → c ≤ t) ↔ ((not b || nat_le c t) ≡ true)
soon_iff true t c = (λ f. (le_iff c t).0 (f refl), λ h e. (le_iff c t).1 h)
soon_iff false t c = (λ f. refl, λ h e. absurd (cc e))

module _ (e : Ext) (o : Options) (x : List ℕ) (given : Given e o x) where
  abbrev pub tag_of : Placed → Tag
  tag_of q = tag (issue_at x q).instr

  sound : (q : Placed) → Member q (all e o x) → (let v = vars_of q in Sound q.op.kind (value_by x v.instr))
  sound q m = let v = vars_of q in by q.op.kind refl
    where
      number : is_optional q.op.kind ≡ true → (let v = vars_of q in value_by x v.instr ≡ slice_index x q.first)
      number opt = ap (λ (b : Bool). value_by x (var_if b q.first)) opt

      back : (kind : ExtKind) → q.op.kind ≡ kind → (let v = vars_of q in Sound kind (value_by x v.instr))
          → (let v = vars_of q in Sound q.op.kind (value_by x v.instr))
      back kind h s = let v = vars_of q in subst (λ (c : ExtKind). Sound c (value_by x v.instr)) (sym h) s

      by : (kind : ExtKind) → q.op.kind ≡ kind → (let v = vars_of q in Sound q.op.kind (value_by x v.instr))
      by (Body so) h =
          let g = good_op e o x given q m in
          let keeps = g.keeps in
          let source : IsSourceOp so = subst (λ (c : ExtKind). IsGoodKind c q.op) h keeps.kind in
          back (Body so) h source.op
      by (Copy node) h = let opt : is_optional q.op.kind ≡ true = ap is_optional h in let le = instr_bound e o x given q m opt in let n =
          number opt in
          back (Copy node) h (subst (λ n. n ≤ 5) (sym n) le)
      by In h = back In h tt
      by Out h = back Out h tt
      by (End term) h = back (End term) h tt
      by Enter h = back Enter h tt
      by Leave h = back Leave h tt

  -- an operation's kind, by its tag
  pub kind_fits : (q : Placed) (t : Tag) → Member q (all e o x) → tag_of q ≡ t → Fits t q.op.kind
  kind_fits q t m h = let v = vars_of q in subst (λ (s : Tag). Fits s q.op.kind) h (fits q.op.kind (value_by x v.instr) (sound q m))

  -- ---- tags, by kinds

  pub frame_tag : (q : Placed) (op : Op) (t : Tag) (kind : ExtKind) → q.op.kind ≡ kind → is_delimiter kind ≡ false
      → ((n : ℕ) → is_some (instruction_of kind n) ≡ true → instruction_of kind n ≡ Some op) → tag (Some op) ≡ t
      → (issue_at x q).active ≡ true → tag_of q ≡ t
  frame_tag q op t kind h inner made is act =
      let v = vars_of q in
      let n = value_by x v.instr in
      let on : is_some (instruction_of kind n) ≡ true =
      sym (ap (λ (c : ExtKind). is_delimiter c || is_some (instruction_of c n)) h
      ∙ ap (λ (b : Bool). b || is_some (instruction_of kind n)) inner) ∙ act in
      ap (λ (c : ExtKind). tag (instruction_of c n)) h ∙ ap tag (made n on) ∙ is

  pub enter_tag : (q : Placed) → is_enter q.op.kind ≡ true → (issue_at x q).active ≡ true → tag_of q ≡ Enters
  enter_tag q is act = by q.op.kind refl is
    where
      by : (kind : ExtKind) → q.op.kind ≡ kind → is_enter kind ≡ true → tag_of q ≡ Enters
      by Enter h s = frame_tag q EnterOp Enters Enter h refl (λ n. frame_on EnterOp (nat_eq n 0)) refl act
      by In h s = absurd (cc s)
      by Out h s = absurd (cc s)
      by (Body so) h s = absurd (cc s)
      by (End term) h s = absurd (cc s)
      by (Copy node) h s = absurd (cc s)
      by Leave h s = absurd (cc s)

  pub leave_tag : (q : Placed) → is_leave q.op.kind ≡ true → (issue_at x q).active ≡ true → tag_of q ≡ Leaves
  leave_tag q is act = by q.op.kind refl is
    where
      by : (kind : ExtKind) → q.op.kind ≡ kind → is_leave kind ≡ true → tag_of q ≡ Leaves
      by Leave h s = frame_tag q LeaveOp Leaves Leave h refl (λ n. frame_on LeaveOp (nat_eq n 0)) refl act
      by In h s = absurd (cc s)
      by Out h s = absurd (cc s)
      by (Body so) h s = absurd (cc s)
      by (End term) h s = absurd (cc s)
      by (Copy node) h s = absurd (cc s)
      by Enter h s = absurd (cc s)

  pub call_tag : (q : Placed) → is_call_kind q.op.kind ≡ true → tag_of q ≡ Calls
  call_tag q is = by q.op.kind refl is
    where
      by : (kind : ExtKind) → q.op.kind ≡ kind → is_call_kind kind ≡ true → tag_of q ≡ Calls
      by (Body so) h s = let v = vars_of q in ap (λ (c : ExtKind). tag (instruction_of c (value_by x v.instr))) h
          ∙ ap (λ (op : Op). tag (Some op)) (call_is so.op s)
      by In h s = absurd (cc s)
      by Out h s = absurd (cc s)
      by (End term) h s = absurd (cc s)
      by (Copy node) h s = absurd (cc s)
      by Enter h s = absurd (cc s)
      by Leave h s = absurd (cc s)

  -- ---- what counts

  pub copy_counts : (q : Placed) → Member q (all e o x) → is_copy q.op.kind ≡ true → counts x (copy_use (place_of q)) ≡ is_touch (tag_of q)
  copy_counts q m is = by q.op.kind refl is
    where
      by : (kind : ExtKind) → q.op.kind ≡ kind → is_copy kind ≡ true → counts x (copy_use (place_of q)) ≡ is_touch (tag_of q)
      by (Copy node) h s =
          let v = vars_of q in
          let opt : is_optional q.op.kind ≡ true = ap is_optional h in
          let n = slice_index x q.first in
          ap (λ (b : Bool). nat_le 2 (act_number (act_by (var_if b q.first)) x) && nat_le (act_number (act_by (var_if b q.first)) x) 3) opt
          ∙ counted n (instr_bound e o x given q m opt)
          ∙ sym (ap (λ (c : ExtKind). is_touch (tag (instruction_of c (value_by x v.instr)))) h
          ∙ ap (λ (b : Bool). is_touch (tag (copy_of (value_by x (var_if b q.first))))) opt)
      by In h s = absurd (cc s)
      by Out h s = absurd (cc s)
      by (Body so) h s = absurd (cc s)
      by (End term) h s = absurd (cc s)
      by Enter h s = absurd (cc s)
      by Leave h s = absurd (cc s)

  pub call_counts : (q : Placed) → is_call_kind q.op.kind ≡ true → counts x (single_use (place_of q)) ≡ true
  call_counts q is = by q.op.kind refl is
    where
      by : (kind : ExtKind) → q.op.kind ≡ kind → is_call_kind kind ≡ true → counts x (single_use (place_of q)) ≡ true
      by (Body so) h s = ap (λ (c : ExtKind). nat_le 1 (act_number (act_by (var_if (is_optional c) q.first)) x) &&
          nat_le (act_number (act_by (var_if (is_optional c) q.first)) x) 1) h
      by In h s = absurd (cc s)
      by Out h s = absurd (cc s)
      by (End term) h s = absurd (cc s)
      by (Copy node) h s = absurd (cc s)
      by Enter h s = absurd (cc s)
      by Leave h s = absurd (cc s)

  pub leave_counts : (q : Placed) → Member q (all e o x) → is_leave q.op.kind ≡ true → (issue_at x q).active ≡ true
      → counts x (single_use (place_of q)) ≡ true
  leave_counts q m is act = by q.op.kind refl is
    where
      one : (n : ℕ) → n ≤ 1 → not (nat_eq n 0) ≡ true → (nat_le 1 n && nat_le n 1) ≡ true
      one zero le h = absurd (cc h)
      one (suc zero) le h = refl
      one (suc (suc n)) le h = absurd (omega arith)

      by : (kind : ExtKind) → q.op.kind ≡ kind → is_leave kind ≡ true → counts x (single_use (place_of q)) ≡ true
      by Leave h s =
          let opt : is_optional q.op.kind ≡ true = ap is_optional h in
          let d = instr_sits e o x (in_entry e o x q) q (Range 0 1) (in_domains e o x given q m)
          (ap (instr_domain (carries_truth e q.owner q.op q.op.results)) h) in
          let on : not (nat_eq (slice_index x q.first) 0) ≡ true = sym (ap (λ (b : Bool). is_active (act_by (var_if b q.first)) x) opt)
          ∙ acts e o x given q m (ap falls h) ∙ act in
          ap (λ (b : Bool). nat_le 1 (act_number (act_by (var_if b q.first)) x) && nat_le (act_number (act_by (var_if b q.first)) x) 1) opt
          ∙ one (slice_index x q.first) d.1 on
      by In h s = absurd (cc s)
      by Out h s = absurd (cc s)
      by (Body so) h s = absurd (cc s)
      by (End term) h s = absurd (cc s)
      by (Copy node) h s = absurd (cc s)
      by Enter h s = absurd (cc s)

  pub cycle_is : (q : Placed) → is_delimiter q.op.kind ≡ false → slice_index x (cycle_var (place_of q)).0 ≡ (issue_at x q).cycle
  cycle_is q inner = by q.op.kind refl inner
    where
      moved : (kind : ExtKind) → q.op.kind ≡ kind
          → slice_index x (var_or (var_if (has_cycle kind) (q.first + cycle_place q.op))).0 ≡ at_value
          (time_by q.close kind (var_if (has_cycle kind) (q.first + cycle_place q.op))) x
          → slice_index x (cycle_var (place_of q)).0 ≡ (issue_at x q).cycle
      moved kind h same =
          ap (λ (c : ExtKind). slice_index x (var_or (var_if (has_cycle c) (q.first + cycle_place q.op))).0) h ∙ same
          ∙ sym (ap (λ (c : ExtKind). at_value (time_by q.close c (var_if (has_cycle c) (q.first + cycle_place q.op))) x) h)
          ∙ times e o x given q

      by : (kind : ExtKind) → q.op.kind ≡ kind → is_delimiter kind ≡ false → slice_index x (cycle_var (place_of q)).0 ≡ (issue_at x q).cycle
      by In h s = absurd (cc s)
      by Out h s = absurd (cc s)
      by (Body so) h s = moved (Body so) h refl
      by (End term) h s = moved (End term) h refl
      by (Copy node) h s = moved (Copy node) h refl
      by Enter h s = moved Enter h refl
      by Leave h s = moved Leave h refl
