-- Lines of words, and what they are.
use Rattle.std.proofs.Common.{ℕ, ◌≡◌, ◌+◌, ◌<◌, ◌^◌, inl, inr, true, false, List, [], ◌∷◌, ◌++◌, get_or, take, Some, None, codes, refl, sym, ap, ◌∙◌, arith, lit≤, lit<}
use Rattle.std.specs.Fmt.{decimal}
use Rattle.std.proofs.lemmas.Bool.{eqb-false, true≢false}
use Rattle.std.proofs.lemmas.Fmt.{decimal_digit, decimal_step, decimal_injective}
use Rattle.un_commands.specs.declared.command.Command.TheVariants.{Reads}
use Rattle.un_commands.specs.declared.command.ReadingCommand.TheVariants.{Alloc, RunCode, Check, Improve, AllocTable, CheckTable, RunCodeTable, Refute, RefuteCheck, Steps, StepsCheck}
use Rattle.un_commands.specs.declared.setting.Setting.{Setting}
use Rattle.un_commands.specs.declared.setting.Setting.TheVariants.{Nodes, Regs, Slots}
use Rattle.un_commands.specs.Alloc.{alloc_opening, improve_opening, refute_opening}
use Rattle.un_commands.specs.Commands.{IsCommand, IsBadWord}
use Rattle.un_commands.specs.Places.{StandsAt, IsFresh}
use Rattle.un_commands.specs.Settings.{IsInRange, flag_of, number_of, none_given, with_setting}
use Rattle.un_commands.proofs.AllocLaws.{so_far_none, so_far_more, so_far_flag, has_settings, bad_flag, bad_value}
use Rattle.un_commands.proofs.CommandLaws.{bad_first}
use Rattle.un_commands.proofs.GenerateLaws.{bad_size, bad_nodes}
use Rattle.un_commands.proofs.Openers.{opens_run, plain, coded, tabled, opens_check, read_at}
use Rattle.un_commands.proofs.RefuteLaws.{bad_limit, bad_refute_end}
use Rattle.un_commands.proofs.StepsLaws.{bad_log, bad_check_of_log}
use Rattle.un_commands.proofs.Texts.{no_number}
use Rattle.un_commands.proofs.WordLaws.{bad_word}

digit : (n : ℕ) → n < 10 → (48 + n) ∷ [] ≡ decimal n
digit n h = sym (decimal_digit n h)

sixteen : codes "16" ≡ decimal 16
sixteen = sym (decimal_step 16 (lit≤ tt) (lit< tt) ∙ ap (λ (ds : List ℕ). ds ++ 54 ∷ []) (decimal_digit 1 (lit< tt)))

seventeen : codes "17" ≡ decimal 17
seventeen = sym (decimal_step 17 (lit≤ tt) (lit< tt) ∙ ap (λ (ds : List ℕ). ds ++ 55 ∷ []) (decimal_digit 1 (lit< tt)))

-- a word that writes another number
other_number : (word : List ℕ) (m n : ℕ) → word ≡ decimal m → m < 2 ^ 64 → n < 2 ^ 64 → Some word ≡ Some (decimal n) → m ≡ n
other_number word m n is small_m small_n e = let same : decimal m ≡ decimal n = cc in decimal_injective m n small_m small_n same

-- no words at all
nothing : IsBadWord [] 0
nothing = bad_first [] (λ e. no _ e) (λ e. no _ e) (λ e. no _ e) (λ e. no _ e) (λ e. no _ e) (λ e. no _ e) (λ e. no _ e)
  where
    no : (w : List ℕ) → None ≡ Some w → ⊥
    no w e = cc

third : (v w : List ℕ) → Some v ≡ Some w → get_or v 2 0 ≡ get_or w 2 0
third v w e = let same : v ≡ w = cc in ap (λ (x : List ℕ). get_or x 2 0) same

-- `alloc x`
abbrev unknown : List (List ℕ)
unknown = codes "alloc" ∷ codes "x" ∷ []

no_option : IsBadWord unknown 1
no_option = bad_flag alloc_opening true (inl (refl, refl)) unknown 1 none_given false (codes "x")
    (so_far_none alloc_opening true unknown 1 refl (lit≤ tt)) refl by
    (λ may e. eqb-false 0 116 refl (third (codes "x") (codes "--table") e))
  where
    by : (s : Setting) → IsFresh none_given s → ¬ StandsAt unknown 1 (flag_of s)
    by (Nodes n) fresh e = eqb-false 0 110 refl (third (codes "x") (codes "--nodes") e)
    by (Regs n) fresh e = eqb-false 0 114 refl (third (codes "x") (codes "--regs") e)
    by (Slots k) fresh e = eqb-false 0 115 refl (third (codes "x") (codes "--slots") e)

-- `alloc --nodes 0`
no_nodes : IsBadWord (codes "alloc" ∷ codes "--nodes" ∷ codes "0" ∷ []) 2
no_nodes = bad_value alloc_opening true (inl (refl, refl)) (codes "alloc" ∷ codes "--nodes" ∷ codes "0" ∷ []) 1 none_given false
    (so_far_none alloc_opening true (codes "alloc" ∷ codes "--nodes" ∷ codes "0" ∷ []) 1 refl (lit≤ tt))
    (record { some = Nodes 1; fresh = refl; ranged = (lit≤ tt, lit≤ tt); flag = refl; none = by })
  where
    by : (s : Setting) → flag_of s ≡ codes "--nodes" → IsInRange s
        → ¬ StandsAt (codes "alloc" ∷ codes "--nodes" ∷ codes "0" ∷ []) 2 (decimal (number_of s))
    by (Nodes n) flag ranged e = let zero_nodes : 0 ≡ n = other_number (codes "0") 0 n (digit 0 (lit< tt)) (lit< tt) (omega arith) e in omega arith
    by (Regs n) flag ranged e = eqb-false 114 110 refl (ap (λ (w : List ℕ). get_or w 2 0) flag)
    by (Slots k) flag ranged e = eqb-false 115 110 refl (ap (λ (w : List ℕ). get_or w 2 0) flag)

-- `alloc --regs`
no_registers : IsBadWord (codes "alloc" ∷ codes "--regs" ∷ []) 2
no_registers = bad_value alloc_opening true (inl (refl, refl)) (codes "alloc" ∷ codes "--regs" ∷ []) 1 none_given false
    (so_far_none alloc_opening true (codes "alloc" ∷ codes "--regs" ∷ []) 1 refl (lit≤ tt))
    (record { some = Regs 1; fresh = refl; ranged = (lit≤ tt, lit≤ tt); flag = refl; none = λ s flag ranged e. no _ e })
  where
    no : (w : List ℕ) → None ≡ Some w → ⊥
    no w e = cc

-- `alloc --slots 1 --slots 1`
abbrev twice : List (List ℕ)
twice = codes "alloc" ∷ codes "--slots" ∷ codes "1" ∷ codes "--slots" ∷ codes "1" ∷ []

slots_twice : IsBadWord twice 3
slots_twice = bad_flag alloc_opening true (inl (refl, refl)) twice 3 (with_setting none_given (Slots 1)) false (codes "--slots")
    (so_far_more alloc_opening true twice 1 none_given false (Slots 1) (so_far_none alloc_opening true twice 1 refl (lit≤ tt))
    (record { fresh = refl; flag = refl; number = ap Some (digit 1 (lit< tt)); ranged = lit≤ tt })) refl by
    (λ may e. eqb-false 115 116 refl (third (codes "--slots") (codes "--table") e))
  where
    given : (k : ℕ) → Some k ≡ None → ⊥
    given k e = cc

    by : (s : Setting) → IsFresh (with_setting none_given (Slots 1)) s → ¬ StandsAt twice 3 (flag_of s)
    by (Nodes n) fresh e = eqb-false 115 110 refl (third (codes "--slots") (codes "--nodes") e)
    by (Regs n) fresh e = eqb-false 115 114 refl (third (codes "--slots") (codes "--regs") e)
    by (Slots k) fresh e = given 1 fresh

-- `alloc --table --table`
abbrev two_tables : List (List ℕ)
two_tables = codes "alloc" ∷ codes "--table" ∷ codes "--table" ∷ []

table_twice : IsBadWord two_tables 2
table_twice = bad_flag alloc_opening true (inl (refl, refl)) two_tables 2 none_given true (codes "--table")
    (so_far_flag alloc_opening true two_tables 1 none_given (so_far_none alloc_opening true two_tables 1 refl (lit≤ tt)) refl refl) refl by
    (λ may e. true≢false may.1)
  where
    by : (s : Setting) → IsFresh none_given s → ¬ StandsAt two_tables 2 (flag_of s)
    by (Nodes n) fresh e = eqb-false 116 110 refl (third (codes "--table") (codes "--nodes") e)
    by (Regs n) fresh e = eqb-false 116 114 refl (third (codes "--table") (codes "--regs") e)
    by (Slots k) fresh e = eqb-false 116 115 refl (third (codes "--table") (codes "--slots") e)

-- `improve --table`
abbrev improving_by : List (List ℕ)
improving_by = codes "improve" ∷ codes "--table" ∷ []

no_table : IsBadWord improving_by 1
no_table = bad_flag improve_opening false (inr (inl (refl, refl))) improving_by 1 none_given false (codes "--table")
    (so_far_none improve_opening false improving_by 1 refl (lit≤ tt)) refl by (λ may e. true≢false (sym may.0))
  where
    by : (s : Setting) → IsFresh none_given s → ¬ StandsAt improving_by 1 (flag_of s)
    by (Nodes n) fresh e = eqb-false 116 110 refl (third (codes "--table") (codes "--nodes") e)
    by (Regs n) fresh e = eqb-false 116 114 refl (third (codes "--table") (codes "--regs") e)
    by (Slots k) fresh e = eqb-false 116 115 refl (third (codes "--table") (codes "--slots") e)

-- `alloc --slots 3 --nodes 5`
abbrev both : List (List ℕ)
both = codes "alloc" ∷ codes "--slots" ∷ codes "3" ∷ codes "--nodes" ∷ codes "5" ∷ []

slots_and_nodes : IsCommand both (Reads (Alloc (record { nodes = 5; regs = None; slots = 3 })))
slots_and_nodes = has_settings alloc_opening true both 5 _ false
    (so_far_more alloc_opening true both 3 (with_setting none_given (Slots 3)) false (Nodes 5)
    (so_far_more alloc_opening true both 1 none_given false (Slots 3) (so_far_none alloc_opening true both 1 refl (lit≤ tt))
    (record { fresh = refl; flag = refl; number = ap Some (digit 3 (lit< tt)); ranged = lit≤ tt }))
    (record { fresh = refl; flag = refl; number = ap Some (digit 5 (lit< tt)); ranged = (lit≤ tt, lit≤ tt) })) refl

-- `alloc --slots 3 --table --nodes 5`
abbrev between : List (List ℕ)
between = codes "alloc" ∷ codes "--slots" ∷ codes "3" ∷ codes "--table" ∷ codes "--nodes" ∷ codes "5" ∷ []

table_between : IsCommand between (Reads (AllocTable (record { nodes = 5; regs = None; slots = 3 })))
table_between = has_settings alloc_opening true between 6 _ true
    (so_far_more alloc_opening true between 4 (with_setting none_given (Slots 3)) true (Nodes 5)
    (so_far_flag alloc_opening true between 3 (with_setting none_given (Slots 3))
    (so_far_more alloc_opening true between 1 none_given false (Slots 3) (so_far_none alloc_opening true between 1 refl (lit≤ tt))
    (record { fresh = refl; flag = refl; number = ap Some (digit 3 (lit< tt)); ranged = lit≤ tt })) refl refl)
    (record { fresh = refl; flag = refl; number = ap Some (digit 5 (lit< tt)); ranged = (lit≤ tt, lit≤ tt) })) refl

-- `alloc` alone
alone : IsCommand (codes "alloc" ∷ []) (Reads (Alloc (record { nodes = 2000; regs = None; slots = 256 })))
alone = has_settings alloc_opening true (codes "alloc" ∷ []) 1 none_given false
    (so_far_none alloc_opening true (codes "alloc" ∷ []) 1 refl (lit≤ tt)) refl

-- `improve --regs 5`
abbrev improving : List (List ℕ)
improving = codes "improve" ∷ codes "--regs" ∷ codes "5" ∷ []

improve_with_registers : IsCommand improving (Reads (Improve (record { nodes = 2000; regs = Some 5; slots = 256 })))
improve_with_registers = has_settings improve_opening false improving 3 _ false
    (so_far_more improve_opening false improving 1 none_given false (Regs 5) (so_far_none improve_opening false improving 1 refl (lit≤ tt))
    (record { fresh = refl; flag = refl; number = ap Some (digit 5 (lit< tt)); ranged = (lit≤ tt, lit≤ tt) })) refl

-- `gen 7`
no_size : IsBadWord (codes "gen" ∷ codes "7" ∷ []) 2
no_size = bad_size (codes "gen" ∷ codes "7" ∷ []) 7 refl (lit< tt) (ap Some (digit 7 (lit< tt))) (λ n low high e. no _ e)
  where
    no : (w : List ℕ) → None ≡ Some w → ⊥
    no w e = cc

-- `gen 7 17`
large_size : IsBadWord (codes "gen" ∷ codes "7" ∷ codes "17" ∷ []) 2
large_size = bad_size (codes "gen" ∷ codes "7" ∷ codes "17" ∷ []) 7 refl (lit< tt) (ap Some (digit 7 (lit< tt)))
    (λ n low high e. let same : 17 ≡ n = other_number (codes "17") 17 n seventeen (lit< tt) (omega arith) e in omega arith)

-- `gen 7 16 --nodes`
no_count : IsBadWord (codes "gen" ∷ codes "7" ∷ codes "16" ∷ codes "--nodes" ∷ []) 4
no_count = bad_nodes (codes "gen" ∷ codes "7" ∷ codes "16" ∷ codes "--nodes" ∷ []) 7 16
    (record { gen = refl; seed_at = ap Some (digit 7 (lit< tt)); size_at = ap Some sixteen; seed_fits = lit< tt; size_in = (lit≤ tt, lit≤ tt) })
    refl (λ n low high e. no _ e)
  where
    no : (w : List ℕ) → None ≡ Some w → ⊥
    no w e = cc

-- `run --code x`
word_more : IsBadWord (codes "run" ∷ codes "--code" ∷ codes "x" ∷ []) 2
word_more = bad_word (codes "run" ∷ codes "--code" ∷ codes "x" ∷ []) 2 (Reads RunCode) (codes "run" ∷ codes "--code" ∷ []) refl refl
    (λ other others is alike. elim (opens_run others other is (sym (alike 0 (lit< tt)))) [
      | plain e w ↦ no _ (alike 1 (lit< tt) ∙ read_at others _ 1 w)
      | coded e w ↦ no _ (alike 2 (lit< tt) ∙ read_at others _ 2 w)
      | tabled e w ↦ eqb-false 0 116 refl (third (codes "x") (codes "--table") (alike 2 (lit< tt) ∙ read_at others _ 2 w))
    ])
  where
    no : (w : List ℕ) → Some w ≡ None → ⊥
    no w e = cc

-- `run --code --table`
run_by_table : IsCommand (codes "run" ∷ codes "--code" ∷ codes "--table" ∷ []) (Reads RunCodeTable)
run_by_table = refl

-- `check`
check_alone : IsCommand (codes "check" ∷ []) (Reads Check)
check_alone = refl

-- `check --table`
check_by_table : IsCommand (codes "check" ∷ codes "--table" ∷ []) (Reads CheckTable)
check_by_table = refl

-- `check x`
word_behind_check : IsBadWord (codes "check" ∷ codes "x" ∷ []) 1
word_behind_check = bad_word (codes "check" ∷ codes "x" ∷ []) 1 (Reads Check) (codes "check" ∷ []) refl refl
    (λ other others is alike. elim (opens_check others other is (sym (alike 0 (lit< tt)))) [
      | inl by_version ↦ no _ (alike 1 (lit< tt) ∙ read_at others _ 1 by_version.1)
      | inr by_table ↦ eqb-false 0 116 refl (third (codes "x") (codes "--table") (alike 1 (lit< tt) ∙ read_at others _ 1 by_table.1))
    ])
  where
    no : (w : List ℕ) → Some w ≡ None → ⊥
    no w e = cc

-- `refute 16 --slots 3`
abbrev refuting : List (List ℕ)
refuting = codes "refute" ∷ codes "16" ∷ codes "--slots" ∷ codes "3" ∷ []

begins_refuting : take 2 refuting ≡ refute_opening 16
begins_refuting = ap (λ (w : List ℕ). codes "refute" ∷ w ∷ []) sixteen

refute_with_slots : IsCommand refuting (Reads (Refute 16 (record { nodes = 2000; regs = None; slots = 3 })))
refute_with_slots = record {
  limit_fits = lit< tt;
  settings = has_settings (refute_opening 16) false refuting 4 _ false
      (so_far_more (refute_opening 16) false refuting 2 none_given false (Slots 3)
      (so_far_none (refute_opening 16) false refuting 2 begins_refuting (lit≤ tt))
      (record { fresh = refl; flag = refl; number = ap Some (digit 3 (lit< tt)); ranged = lit≤ tt })) refl;
}

-- `refute --slots 3 16`
abbrev limit_behind : List (List ℕ)
limit_behind = codes "refute" ∷ codes "--slots" ∷ codes "3" ∷ codes "16" ∷ []

limit_is_second : IsBadWord limit_behind 1
limit_is_second = bad_limit limit_behind refl (λ e. eqb-false 115 99 refl (third (codes "--slots") (codes "--check") e))
    (λ n fits e. no_number limit_behind 1 _ n fits refl e)

-- `refute --check`
check_refutation : IsCommand (codes "refute" ∷ codes "--check" ∷ []) (Reads RefuteCheck)
check_refutation = refl

-- `refute --check y`
word_behind_refute_check : IsBadWord (codes "refute" ∷ codes "--check" ∷ codes "y" ∷ []) 2
word_behind_refute_check = bad_refute_end (codes "refute" ∷ codes "--check" ∷ codes "y" ∷ []) refl refl (lit< tt)

-- `steps`
log : IsCommand (codes "steps" ∷ []) (Reads (Steps false))
log = refl

-- `steps --counts`
log_with_counts : IsCommand (codes "steps" ∷ codes "--counts" ∷ []) (Reads (Steps true))
log_with_counts = refl

-- `steps --check`
check_log : IsCommand (codes "steps" ∷ codes "--check" ∷ []) (Reads (StepsCheck false))
check_log = refl

-- `steps --check --counts`
check_log_with_counts : IsCommand (codes "steps" ∷ codes "--check" ∷ codes "--counts" ∷ []) (Reads (StepsCheck true))
check_log_with_counts = refl

-- `steps --counts --check`
abbrev counts_before_check : List (List ℕ)
counts_before_check = codes "steps" ∷ codes "--counts" ∷ codes "--check" ∷ []

check_is_first : IsBadWord counts_before_check 2
check_is_first = bad_log counts_before_check 2 refl (λ e. eqb-false 111 104 refl (fourth (codes "--counts") (codes "--check") e))
    (inr (refl, lit< tt, refl))
  where
    fourth : (v w : List ℕ) → Some v ≡ Some w → get_or v 3 0 ≡ get_or w 3 0
    fourth v w e = let same : v ≡ w = cc in ap (λ (x : List ℕ). get_or x 3 0) same

-- `steps --check --counts --counts`
counts_twice : IsBadWord (codes "steps" ∷ codes "--check" ∷ codes "--counts" ∷ codes "--counts" ∷ []) 3
counts_twice = bad_check_of_log (codes "steps" ∷ codes "--check" ∷ codes "--counts" ∷ codes "--counts" ∷ []) 3 refl refl
    (inr (refl, lit< tt, refl))
