-- Settings with the flag among them: their words, and what they say.
use Rattle.std.proofs.Common.{ℕ, suc, ◌≡◌, ◌+◌, ◌*◌, ◌<◌, ◌≤◌, Bool, true, false, List, [], ◌∷◌, ◌++◌, length, get_or, All, codes, refl, sym, ap, subst, ◌∙◌, arith, cond, count_by, append-nil}
use Rattle.std.specs.List.{flat_map, slice_get}
use Rattle.std.proofs.lemmas.Bool.{eqb-false}
use Rattle.std.proofs.lemmas.List.Concat.{flat_map-append}
use Rattle.std.proofs.lemmas.List.Elements.{All-head, All-tail, All-push}
use Rattle.std.proofs.lemmas.List.Sums.{sum_by-cons, sum_by-append}
use Rattle.un_commands.specs.declared.setting.Setting.{Setting}
use Rattle.un_commands.specs.declared.setting.Setting.TheVariants.{Nodes, Regs, Slots}
use Rattle.un_commands.specs.declared.setting.Given.{Given}
use Rattle.un_commands.specs.Settings.{IsInRange, flag_of, Part, part_words, settings_in, is_flag, AsksTable, Say, with_setting}
use Rattle.un_commands.specs.Settings.Part.{Sets, Flag}
use Rattle.un_commands.specs.Settings.{set_by}
use Rattle.un_commands.specs.Places.{IsFresh}
use Rattle.un_commands.proofs.SettingLaws.{same_setting, same_some, none_some, few, say_more, is_fresh, all_middle}

-- no option is named by the flag's word
pub not_table : (s : Setting) → flag_of s ≡ codes "--table" → ⊥
not_table (Nodes n) e = eqb-false 110 116 refl (ap (λ (w : List ℕ). get_or w 2 0) e)
not_table (Regs n) e = eqb-false 114 116 refl (ap (λ (w : List ℕ). get_or w 2 0) e)
not_table (Slots k) e = eqb-false 115 116 refl (ap (λ (w : List ℕ). get_or w 2 0) e)

-- parts whose words begin with those of others begin with those parts
pub begin_with : (ps others : List Part) → All IsInRange (settings_in ps) → All IsInRange (settings_in others)
    → ((j : ℕ) → j < length (flat_map part_words ps) → slice_get (flat_map part_words ps) j ≡ slice_get (flat_map part_words others) j)
    → (more : List Part) × (others ≡ ps ++ more)
begin_with [] others a b alike = (others, refl)
begin_with (Sets s ∷ ps) [] a b alike = absurd (none_some (flag_of s) (alike 0 (omega arith)))
begin_with (Flag ∷ ps) [] a b alike = absurd (none_some (codes "--table") (alike 0 (omega arith)))
begin_with (Sets s ∷ ps) (Flag ∷ ts) a b alike = absurd (not_table s (same_some _ _ (alike 0 (omega arith))))
begin_with (Flag ∷ ps) (Sets t ∷ ts) a b alike = absurd (not_table t (sym (same_some _ _ (alike 0 (omega arith)))))
begin_with (Flag ∷ ps) (Flag ∷ ts) a b alike =
    let rest = begin_with ps ts a b (λ j h. alike (suc j) (omega arith)) in
    (rest.0, ap (λ (qs : List Part). Flag ∷ qs) rest.1)
begin_with (Sets s ∷ ps) (Sets t ∷ ts) a b alike =
    let same : s ≡ t = same_setting s t (same_some _ _ (alike 0 (omega arith))) (same_some _ _ (alike 1 (omega arith)))
    (All-head IsInRange s (settings_in ps) a) (All-head IsInRange t (settings_in ts) b) in
    let rest = begin_with ps ts (All-tail IsInRange s (settings_in ps) a) (All-tail IsInRange t (settings_in ts) b)
    (λ j h. alike (suc (suc j)) (omega arith)) in
    (rest.0, ap (λ (u : Setting). Sets u ∷ ts) (sym same) ∙ ap (λ (qs : List Part). Sets s ∷ qs) rest.1)

-- ---- how often the flag stands

abbrev stood : Part → ℕ
stood p = cond (is_flag p) 1 0

pub count_sets : (t : Setting) (ps : List Part) → count_by is_flag (Sets t ∷ ps) ≡ count_by is_flag ps
count_sets t ps = let e : count_by is_flag (Sets t ∷ ps) ≡ 0 + count_by is_flag ps = sum_by-cons stood (Sets t) ps in omega arith

pub count_flag : (ps : List Part) → count_by is_flag (Flag ∷ ps) ≡ 1 + count_by is_flag ps
count_flag ps = sum_by-cons stood Flag ps

pub count_more : (ps qs : List Part) → count_by is_flag (ps ++ qs) ≡ count_by is_flag ps + count_by is_flag qs
count_more ps qs = sum_by-append stood ps qs

-- two words for each setting, and one for the flag
pub length_words : (ps : List Part) → length (flat_map part_words ps) ≡ 2 * length (settings_in ps) + count_by is_flag ps
length_words [] = refl
length_words (Sets s ∷ ps) = omega (arith, length_words ps, count_sets s ps)
length_words (Flag ∷ ps) = omega (arith, length_words ps, count_flag ps)

-- the flag stands at most once
once : (ps : List Part) (table : Bool) → AsksTable ps table → count_by is_flag ps ≤ 1
once ps true h = omega arith
once ps false h = omega arith

-- at most seven words
pub few_words : (ps : List Part) (given : Given) (table : Bool) → Say (settings_in ps) given → AsksTable ps table
    → length (flat_map part_words ps) ≤ 7
few_words ps given table said h = omega (arith, length_words ps, few (settings_in ps) given said, once ps table h)

-- ---- with one more

-- the settings, where a setting more stands
settings_more : (ps : List Part) (t : Setting) (ts : List Part) → settings_in (ps ++ Sets t ∷ ts) ≡ settings_in ps ++ t ∷ settings_in ts
settings_more ps t ts = flat_map-append set_by ps (Sets t ∷ ts)

settings_flag : (ps : List Part) → settings_in (ps ++ Flag ∷ []) ≡ settings_in ps
settings_flag ps = flat_map-append set_by ps (Flag ∷ []) ∙ append-nil (settings_in ps)

pub ranged_more : (ps : List Part) (t : Setting) → All IsInRange (settings_in ps) → IsInRange t
    → All IsInRange (settings_in (ps ++ Sets t ∷ []))
ranged_more ps t ranged next = subst (All IsInRange) (sym (settings_more ps t [])) (All-push IsInRange (settings_in ps) t ranged next)

pub said_more : (ps : List Part) (given : Given) (t : Setting) → Say (settings_in ps) given → IsFresh given t
    → Say (settings_in (ps ++ Sets t ∷ [])) (with_setting given t)
said_more ps given t said fresh =
    subst (λ (ss : List Setting). Say ss (with_setting given t)) (sym (settings_more ps t []))
    (say_more (settings_in ps) given t said fresh)

pub tabled_more : (ps : List Part) (t : Setting) (table : Bool) → AsksTable ps table → AsksTable (ps ++ Sets t ∷ []) table
tabled_more ps t table h =
    let none : count_by is_flag (Sets t ∷ []) ≡ 0 = refl in
    let same : count_by is_flag (ps ++ Sets t ∷ []) ≡ count_by is_flag ps = omega (arith, count_more ps (Sets t ∷ []), none) in same ∙ h

pub ranged_flag : (ps : List Part) → All IsInRange (settings_in ps) → All IsInRange (settings_in (ps ++ Flag ∷ []))
ranged_flag ps ranged = subst (All IsInRange) (sym (settings_flag ps)) ranged

pub said_flag : (ps : List Part) (given : Given) → Say (settings_in ps) given → Say (settings_in (ps ++ Flag ∷ [])) given
said_flag ps given said = subst (λ (ss : List Setting). Say ss given) (sym (settings_flag ps)) said

pub tabled_flag : (ps : List Part) → AsksTable ps false → AsksTable (ps ++ Flag ∷ []) true
tabled_flag ps h = let one : count_by is_flag (Flag ∷ []) ≡ 1 = refl in omega (arith, count_more ps (Flag ∷ []), one, h)

-- ---- of what follows

-- of the option of a setting that follows nothing was said before
pub fresh_next : (ps : List Part) (t : Setting) (ts : List Part) (given whole : Given) → Say (settings_in ps) given
    → Say (settings_in (ps ++ Sets t ∷ ts)) whole → IsFresh given t
fresh_next ps t ts given whole said all = is_fresh (settings_in ps) t (settings_in ts) given whole said
    (subst (λ (ss : List Setting). Say ss whole) (settings_more ps t ts) all)

pub ranged_next : (ps : List Part) (t : Setting) (ts : List Part) → All IsInRange (settings_in (ps ++ Sets t ∷ ts)) → IsInRange t
ranged_next ps t ts ranged = all_middle IsInRange (settings_in ps) t (settings_in ts) (subst (All IsInRange) (settings_more ps t ts) ranged)

-- where the flag follows, none stood before
pub flag_next : (ps ts : List Part) (table whole : Bool) → AsksTable ps table → AsksTable (ps ++ Flag ∷ ts) whole
    → (table ≡ false) × (whole ≡ true)
flag_next ps ts false true a b = (refl, refl)
flag_next ps ts true true a b = absurd (omega (arith, count_more ps (Flag ∷ ts), count_flag ts, a, b))
flag_next ps ts true false a b = absurd (omega (arith, count_more ps (Flag ∷ ts), count_flag ts, a, b))
flag_next ps ts false false a b = absurd (omega (arith, count_more ps (Flag ∷ ts), count_flag ts, a, b))

-- it stands or not
pub one_asking : (ps : List Part) (t u : Bool) → AsksTable ps t → AsksTable ps u → t ≡ u
one_asking ps true true a b = refl
one_asking ps false false a b = refl
one_asking ps true false a b = absurd (omega (arith, a, b))
one_asking ps false true a b = absurd (omega (arith, a, b))
