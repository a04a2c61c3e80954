-- Lists of settings: their words, and what they say.
use Rattle.std.proofs.Common.{ℕ, suc, ◌≡◌, ◌+◌, ◌<◌, ◌≤◌, ◌^◌, List, [], ◌∷◌, ◌++◌, length, get_or, Option, Some, None, All, codes, refl, sym, ap, ◌∙◌, arith, lit≤}
use Rattle.std.specs.Fmt.{decimal}
use Rattle.std.specs.List.{flat_map, slice_get}
use Rattle.std.specs.Option.{option_to_list}
use Rattle.std.proofs.lemmas.Bool.{eqb-false}
use Rattle.std.proofs.lemmas.Fmt.{decimal_injective}
use Rattle.std.proofs.lemmas.List.{append-nil}
use Rattle.std.proofs.lemmas.List.Concat.{flat_map-append}
use Rattle.std.proofs.lemmas.List.Elements.{All-nil, All-head, All-tail, All-append}
use Rattle.un_isa.specs.declared.reg.TheConstants.{SLOTS}
use Rattle.un_model.specs.declared.model.TheConstants.{ASSIGNABLE}
use Rattle.un_commands.specs.declared.command.TheConstants.{MOST_NODES}
use Rattle.un_commands.specs.declared.setting.Setting.{Setting}
use Rattle.un_commands.specs.declared.setting.Setting.TheVariants.{Nodes, Regs, Slots}
use Rattle.un_commands.specs.declared.setting.Given.{Given}
use Rattle.un_commands.specs.Settings.{IsInRange, flag_of, number_of, nodes_in, regs_in, slots_in, Say, none_given, with_setting}
use Rattle.un_commands.specs.Places.{StandsAt, NoNumberAt, IsFresh, NoValueAt}

-- numbers in range are small
small : (s : Setting) → IsInRange s → number_of s < 2 ^ 64
small (Nodes n) h = omega arith
small (Regs n) h = omega arith
small (Slots k) h = omega arith

-- a setting is known by its two words
pub same_setting : (s t : Setting) → flag_of s ≡ flag_of t → decimal (number_of s) ≡ decimal (number_of t) → IsInRange s → IsInRange t
    → s ≡ t
same_setting (Nodes m) (Nodes n) flag number a b = ap Nodes (decimal_injective m n (small (Nodes m) a) (small (Nodes n) b) number)
same_setting (Regs m) (Regs n) flag number a b = ap Regs (decimal_injective m n (small (Regs m) a) (small (Regs n) b) number)
same_setting (Slots m) (Slots n) flag number a b = ap Slots (decimal_injective m n (small (Slots m) a) (small (Slots n) b) number)
same_setting (Nodes m) (Regs n) flag number a b = absurd (eqb-false 110 114 refl (ap (λ (w : List ℕ). get_or w 2 0) flag))
same_setting (Nodes m) (Slots n) flag number a b = absurd (eqb-false 110 115 refl (ap (λ (w : List ℕ). get_or w 2 0) flag))
same_setting (Regs m) (Nodes n) flag number a b = absurd (eqb-false 114 110 refl (ap (λ (w : List ℕ). get_or w 2 0) flag))
same_setting (Regs m) (Slots n) flag number a b = absurd (eqb-false 114 115 refl (ap (λ (w : List ℕ). get_or w 2 0) flag))
same_setting (Slots m) (Nodes n) flag number a b = absurd (eqb-false 115 110 refl (ap (λ (w : List ℕ). get_or w 2 0) flag))
same_setting (Slots m) (Regs n) flag number a b = absurd (eqb-false 115 114 refl (ap (λ (w : List ℕ). get_or w 2 0) flag))

pub same_some : (v w : List ℕ) → Some v ≡ Some w → v ≡ w
same_some v w e = cc

pub none_some : (v : List ℕ) → Some v ≡ None → ⊥
none_some v e = cc

-- each setting says one thing
counted : (ss : List Setting) → length (flat_map nodes_in ss) + (length (flat_map regs_in ss) + length (flat_map slots_in ss)) ≡ length ss
counted [] = refl
counted (Nodes n ∷ ss) = let rest = counted ss in omega arith
counted (Regs n ∷ ss) = let rest = counted ss in omega arith
counted (Slots k ∷ ss) = let rest = counted ss in omega arith

one_at_most : (values : List ℕ) (o : Option ℕ) → values ≡ option_to_list o → length values ≤ 1
one_at_most values None e = let same : length values ≡ 0 = ap length e in omega arith
one_at_most values (Some n) e = let same : length values ≡ 1 = ap length e in omega arith

-- at most three stand together
pub few : (ss : List Setting) (given : Given) → Say ss given → length ss ≤ 3
few ss given say = omega (arith, counted ss, one_at_most _ given.nodes say.nodes, one_at_most _ given.regs say.regs, one_at_most _ given.slots say.slots)

pub say_nothing : Say [] none_given
say_nothing = record { nodes = refl; regs = refl; slots = refl }

-- of an option of which nothing was said
put : (f : Setting → List ℕ) (ss : List Setting) (t : Setting) (n : ℕ) (o : Option ℕ) → flat_map f ss ≡ option_to_list o → f t ≡ n ∷ []
    → o ≡ None → flat_map f (ss ++ t ∷ []) ≡ n ∷ []
put f ss t n o e is none = let before : flat_map f ss ≡ [] = e ∙ ap option_to_list none in
    flat_map-append f ss (t ∷ []) ∙ (ap (λ (vs : List ℕ). vs ++ (f t ++ [])) before ∙ ap (λ (vs : List ℕ). vs ++ []) is)

-- of the others
keep : (f : Setting → List ℕ) (ss : List Setting) (t : Setting) (o : Option ℕ) → flat_map f ss ≡ option_to_list o → f t ≡ []
    → flat_map f (ss ++ t ∷ []) ≡ option_to_list o
keep f ss t o e is = flat_map-append f ss (t ∷ []) ∙ (ap (λ (vs : List ℕ). flat_map f ss ++ (vs ++ [])) is ∙ (append-nil (flat_map f ss) ∙ e))

-- a setting more, of an option of which nothing was said
pub say_more : (ss : List Setting) (given : Given) (t : Setting) → Say ss given → IsFresh given t
    → Say (ss ++ t ∷ []) (with_setting given t)
say_more ss given (Nodes n) say fresh = record {
  nodes = put nodes_in ss (Nodes n) n given.nodes say.nodes refl fresh;
  regs = keep regs_in ss (Nodes n) given.regs say.regs refl;
  slots = keep slots_in ss (Nodes n) given.slots say.slots refl;
}
say_more ss given (Regs n) say fresh = record {
  nodes = keep nodes_in ss (Regs n) given.nodes say.nodes refl;
  regs = put regs_in ss (Regs n) n given.regs say.regs refl fresh;
  slots = keep slots_in ss (Regs n) given.slots say.slots refl;
}
say_more ss given (Slots k) say fresh = record {
  nodes = keep nodes_in ss (Slots k) given.nodes say.nodes refl;
  regs = keep regs_in ss (Slots k) given.regs say.regs refl;
  slots = put slots_in ss (Slots k) k given.slots say.slots refl fresh;
}

once : (o whole : Option ℕ) (n : ℕ) (ns : List ℕ) → option_to_list o ++ n ∷ ns ≡ option_to_list whole → o ≡ None
once None whole n ns e = refl
once (Some m) None n ns e = cc
once (Some m) (Some k) n ns e = cc

fresh_in : (f : Setting → List ℕ) (ss : List Setting) (t : Setting) (ts : List Setting) (n : ℕ) (o whole : Option ℕ)
    → flat_map f ss ≡ option_to_list o → flat_map f (ss ++ t ∷ ts) ≡ option_to_list whole → f t ≡ n ∷ [] → o ≡ None
fresh_in f ss t ts n o whole before all is = once o whole n (flat_map f ts)
    (ap (λ (vs : List ℕ). vs ++ n ∷ flat_map f ts) (sym before)
    ∙ (ap (λ (vs : List ℕ). flat_map f ss ++ (vs ++ flat_map f ts)) (sym is) ∙ (sym (flat_map-append f ss (t ∷ ts)) ∙ all)))

-- of the option of a setting that follows nothing was said before
pub is_fresh : (ss : List Setting) (t : Setting) (ts : List Setting) (given whole : Given) → Say ss given → Say (ss ++ t ∷ ts) whole
    → IsFresh given t
is_fresh ss (Nodes n) ts given whole say all = fresh_in nodes_in ss (Nodes n) ts n given.nodes whole.nodes say.nodes all.nodes refl
is_fresh ss (Regs n) ts given whole say all = fresh_in regs_in ss (Regs n) ts n given.regs whole.regs say.regs all.regs refl
is_fresh ss (Slots k) ts given whole say all = fresh_in slots_in ss (Slots k) ts k given.slots whole.slots say.slots all.slots refl

same_option : (o p : Option ℕ) → option_to_list o ≡ option_to_list p → o ≡ p
same_option None None e = refl
same_option None (Some n) e = cc
same_option (Some m) None e = cc
same_option (Some m) (Some n) e = let same : m ≡ n = cc in ap Some same

abbrev made : Option ℕ → Option ℕ → Option ℕ → Given
made n r k = record { nodes = n; regs = r; slots = k }

same_given : (a b : Given) → a.nodes ≡ b.nodes → a.regs ≡ b.regs → a.slots ≡ b.slots → a ≡ b
same_given a b nodes regs slots = ap (λ n. made n a.regs a.slots) nodes
    ∙ (ap (λ r. made b.nodes r a.slots) regs ∙ ap (λ k. made b.nodes b.regs k) slots)

-- settings say one thing
pub one_saying : (ss : List Setting) (a b : Given) → Say ss a → Say ss b → a ≡ b
one_saying ss a b say_a say_b = same_given a b (same_option _ _ (sym say_a.nodes ∙ say_b.nodes))
    (same_option _ _ (sym say_a.regs ∙ say_b.regs)) (same_option _ _ (sym say_a.slots ∙ say_b.slots))

-- what holds of the values of settings in range
pub all_values : (f : Setting → List ℕ) (P : ℕ → Type 0) → ((s : Setting) → IsInRange s → All P (f s)) → (ss : List Setting)
    → All IsInRange ss → All P (flat_map f ss)
all_values f P each [] h = All-nil P
all_values f P each (s ∷ ss) h = All-append P (f s) (flat_map f ss) (each s (All-head IsInRange s ss h))
    (all_values f P each ss (All-tail IsInRange s ss h))

-- the element at a seam, and the next
pub at_seam : (xs ys : List (List ℕ)) (x : List ℕ) → slice_get (xs ++ x ∷ ys) (length xs) ≡ Some x
at_seam [] ys x = refl
at_seam (z ∷ xs) ys x = at_seam xs ys x

pub next_at_seam : (xs ys : List (List ℕ)) (x y : List ℕ) → slice_get (xs ++ x ∷ y ∷ ys) (suc (length xs)) ≡ Some y
next_at_seam [] ys x y = refl
next_at_seam (z ∷ xs) ys x y = next_at_seam xs ys x y

-- what holds of all holds of one in the middle
pub all_middle : (P : Setting → Type 0) (ss : List Setting) (t : Setting) (ts : List Setting) → All P (ss ++ t ∷ ts) → P t
all_middle P [] t ts h = All-head P t ts h
all_middle P (s ∷ ss) t ts h = all_middle P ss t ts (All-tail P s (ss ++ t ∷ ts) h)

-- an option stands at a place and no value of it at the next
pub no_nodes : (words : List (List ℕ)) (place : ℕ) (given : Given) (flag : List ℕ) → StandsAt words place flag → flag ≡ codes "--nodes"
    → given.nodes ≡ None → NoNumberAt words (place + 1) 1 MOST_NODES → NoValueAt words place given
no_nodes words place given flag stands is fresh none = record {
  some = Nodes 1;
  fresh = fresh;
  ranged = (lit≤ tt, lit≤ tt);
  flag = stands ∙ ap Some is;
  none = by;
}
  where
    by : (t : Setting) → flag_of t ≡ codes "--nodes" → IsInRange t → ¬ StandsAt words (place + 1) (decimal (number_of t))
    by (Nodes n) same ranged = none n ranged.0 ranged.1
    by (Regs n) same ranged = absurd (eqb-false 114 110 refl (ap (λ (w : List ℕ). get_or w 2 0) same))
    by (Slots k) same ranged = absurd (eqb-false 115 110 refl (ap (λ (w : List ℕ). get_or w 2 0) same))

pub no_regs : (words : List (List ℕ)) (place : ℕ) (given : Given) (flag : List ℕ) → StandsAt words place flag → flag ≡ codes "--regs"
    → given.regs ≡ None → NoNumberAt words (place + 1) 1 ASSIGNABLE → NoValueAt words place given
no_regs words place given flag stands is fresh none = record {
  some = Regs 1;
  fresh = fresh;
  ranged = (lit≤ tt, lit≤ tt);
  flag = stands ∙ ap Some is;
  none = by;
}
  where
    by : (t : Setting) → flag_of t ≡ codes "--regs" → IsInRange t → ¬ StandsAt words (place + 1) (decimal (number_of t))
    by (Nodes n) same ranged = absurd (eqb-false 110 114 refl (ap (λ (w : List ℕ). get_or w 2 0) same))
    by (Regs n) same ranged = none n ranged.0 ranged.1
    by (Slots k) same ranged = absurd (eqb-false 115 114 refl (ap (λ (w : List ℕ). get_or w 2 0) same))

pub no_slots : (words : List (List ℕ)) (place : ℕ) (given : Given) (flag : List ℕ) → StandsAt words place flag → flag ≡ codes "--slots"
    → given.slots ≡ None → NoNumberAt words (place + 1) 0 SLOTS → NoValueAt words place given
no_slots words place given flag stands is fresh none = record {
  some = Slots 0;
  fresh = fresh;
  ranged = lit≤ tt;
  flag = stands ∙ ap Some is;
  none = by;
}
  where
    by : (t : Setting) → flag_of t ≡ codes "--slots" → IsInRange t → ¬ StandsAt words (place + 1) (decimal (number_of t))
    by (Nodes n) same ranged = absurd (eqb-false 110 115 refl (ap (λ (w : List ℕ). get_or w 2 0) same))
    by (Regs n) same ranged = absurd (eqb-false 114 115 refl (ap (λ (w : List ℕ). get_or w 2 0) same))
    by (Slots k) same ranged = none k (omega arith) ranged
