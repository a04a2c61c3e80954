-- The words of the commands that search.
use Rattle.std.proofs.Common.{ℕ, suc, ◌≡◌, ◌+◌, ◌<◌, ◌≤◌, Bool, true, false, IsTrue, ◌↔◌, List, [], ◌∷◌, ◌++◌, length, take, Some, None, All, codes, refl, sym, ap, ◌∙◌, arith, subst, inl, inr}
use Rattle.std.specs.Fmt.{decimal}
use Rattle.std.specs.List.{flat_map, slice_get}
use Rattle.std.proofs.lemmas.Bool.{true≢false}
use Rattle.std.proofs.lemmas.Grind.{common_steps}
use Rattle.std.proofs.lemmas.List.{take_all, append_assoc, append-nil, length-append, length-take-le}
use Rattle.std.proofs.lemmas.List.Concat.{flat_map-append}
use Rattle.std.proofs.lemmas.List.Elements.{All-nil}
use Rattle.std.proofs.lemmas.Option.{slice_get_within, slice_get_past, gets}
use Rattle.std.proofs.Math.Seq.{take-append_seam}
use Rattle.un_commands.specs.declared.command.SearchOptions.{SearchOptions}
use Rattle.un_commands.specs.declared.setting.Setting.{Setting}
use Rattle.un_commands.specs.declared.setting.Given.{Given}
use Rattle.un_commands.specs.Alloc.{IsOpening, HasSettings}
use Rattle.un_commands.specs.Commands.{IsBadWord}
use Rattle.un_commands.specs.Places.{StandsAt, IsNext, NoFlagAt, NoValueAt, MayAsk, IsBadSetting}
use Rattle.un_commands.specs.Settings.{IsInRange, flag_of, number_of, words_of, Part, part_words, settings_in, AsksTable, Say, none_given, with_setting, over_defaults}
use Rattle.un_commands.specs.Settings.Part.{Sets, Flag}
use Rattle.un_commands.proofs.Firsts.{take_push, alike_at, front_at, behind_at}
use Rattle.un_commands.proofs.Openers.{search_of, is_search, opening_short, Opens, opens_search}
use Rattle.un_commands.proofs.PartLaws.{not_table, begin_with, few_words, ranged_more, said_more, tabled_more, ranged_flag, said_flag, tabled_flag, fresh_next, ranged_next, flag_next}
use Rattle.un_commands.proofs.SettingLaws.{say_nothing, at_seam, next_at_seam}
use Rattle.un_commands.proofs.Texts.{some_or_none}
use Rattle.un_commands.proofs.WordLaws.{bad_word}

-- an opening with settings, and the flag among them
abbrev pub line_of : List (List ℕ) → List Part → List (List ℕ)
line_of opening parts = opening ++ flat_map part_words parts

-- the flag does not stand at a place, or may not
abbrev pub NoTableAt : List (List ℕ) → ℕ → Bool → Bool → Type 0
NoTableAt words place takes table = MayAsk takes table → ¬ StandsAt words place (codes "--table")

-- a word that does not ask for a table is not the flag, where that may stand
pub none_asked : (words : List (List ℕ)) (place : ℕ) (takes table : Bool) (flag : List ℕ) (asks : Bool) → StandsAt words place flag
    → IsTrue asks ↔ (MayAsk takes table × (flag ≡ codes "--table")) → asks ≡ false → NoTableAt words place takes table
none_asked words place takes table flag asks stands is other may here =
    let same : flag ≡ codes "--table" = cc in true≢false (sym (is.1 (may, same)) ∙ other)

module _ (opening : List (List ℕ)) (takes : Bool) where
  abbrev line : List Part → List (List ℕ)
  line parts = line_of opening parts

  -- the words before a place are an opening and those of settings that say what is given, and of the flag where a table is asked for
  pub record SoFar (words : List (List ℕ)) (place : ℕ) (given : Given) (table : Bool) : Type 0 where
    pub parts : List Part
    pub ranged : All IsInRange (settings_in parts)
    pub said : Say (settings_in parts) given
    pub tabled : AsksTable parts table
    pub may : table ≡ true → takes ≡ true
    pub begins : take place words ≡ opening ++ flat_map part_words parts
    pub within : place ≤ length words

  -- before the first setting
  pub so_far_none : (words : List (List ℕ)) (place : ℕ) → take place words ≡ opening → place ≤ length words
      → SoFar words place none_given false
  so_far_none words place begins within = record {
    parts = [];
    ranged = All-nil IsInRange;
    said = say_nothing;
    tabled = refl;
    may = λ asked. absurd (true≢false (sym asked));
    begins = begins ∙ sym (append-nil opening);
    within = within;
  }

  -- where the next setting stands
  place_is : (words : List (List ℕ)) (place : ℕ) (given : Given) (table : Bool) (h : SoFar words place given table)
      → length (line h.parts) ≡ place
  place_is words place given table h = ap length (sym h.begins) ∙ length-take-le place words h.within

  -- it is behind the opening
  place_behind : (words : List (List ℕ)) (place : ℕ) (given : Given) (table : Bool) (h : SoFar words place given table)
      → length opening + length (flat_map part_words h.parts) ≡ place
  place_behind words place given table h =
      sym (length-append opening (flat_map part_words h.parts)) ∙ place_is words place given table h

  -- at the tenth word at most
  pub place_small : IsOpening opening takes → (words : List (List ℕ)) (place : ℕ) (given : Given) (table : Bool)
      → SoFar words place given table → place ≤ 9
  place_small named words place given table h =
      let short : length opening ≤ 2 = opening_short opening takes named in
      omega (arith, short, place_behind words place given table h, few_words h.parts given table h.said h.tabled)

  -- the words with parts behind others
  behind : (ps ts : List Part) → line (ps ++ ts) ≡ line ps ++ flat_map part_words ts
  behind ps ts = ap (λ (ws : List (List ℕ)). opening ++ ws) (flat_map-append part_words ps ts)
      ∙ sym (append_assoc opening (flat_map part_words ps) (flat_map part_words ts))

  split : (ps : List Part) (t : Setting) (ts : List Part)
      → line (ps ++ Sets t ∷ ts) ≡ line ps ++ flag_of t ∷ decimal (number_of t) ∷ flat_map part_words ts
  split ps t ts = behind ps (Sets t ∷ ts)

  split_flag : (ps : List Part) (ts : List Part) → line (ps ++ Flag ∷ ts) ≡ line ps ++ codes "--table" ∷ flat_map part_words ts
  split_flag ps ts = behind ps (Flag ∷ ts)

  -- the words with one setting more
  longer : (ps : List Part) (t : Setting) → line (ps ++ Sets t ∷ []) ≡ line ps ++ words_of t
  longer ps t = split ps t []

  -- with the flag
  longer_flag : (ps : List Part) → line (ps ++ Flag ∷ []) ≡ line ps ++ codes "--table" ∷ []
  longer_flag ps = split_flag ps []

  begins_flag : (words : List (List ℕ)) (place : ℕ) (given : Given) (table : Bool) (h : SoFar words place given table) (flag : List ℕ)
      → StandsAt words place flag → take (place + 1) words ≡ line h.parts ++ flag ∷ []
  begins_flag words place given table h flag is = take_push place words flag is ∙ ap (λ (ws : List (List ℕ)). ws ++ flag ∷ []) h.begins

  begins_two : (words : List (List ℕ)) (place : ℕ) (given : Given) (table : Bool) (h : SoFar words place given table) (t : Setting)
      → StandsAt words place (flag_of t) → StandsAt words (place + 1) (decimal (number_of t))
      → take (place + 1 + 1) words ≡ line (h.parts ++ Sets t ∷ [])
  begins_two words place given table h t flag number = take_push (place + 1) words (decimal (number_of t)) number
      ∙ (ap (λ (ws : List (List ℕ)). ws ++ decimal (number_of t) ∷ []) (begins_flag words place given table h (flag_of t) flag)
      ∙ (append_assoc (line h.parts) (flag_of t ∷ []) (decimal (number_of t) ∷ []) ∙ sym (longer h.parts t)))

  two_more : (n : ℕ) → n + 2 ≡ n + 1 + 1
  two_more n = omega arith

  -- one setting more
  pub so_far_more : (words : List (List ℕ)) (place : ℕ) (given : Given) (table : Bool) (t : Setting) → SoFar words place given table
      → IsNext words place given t → SoFar words (place + 2) (with_setting given t) table
  so_far_more words place given table t h next =
      let inside : place + 1 < length words = slice_get_within words (place + 1) _ next.number in record {
        parts = h.parts ++ Sets t ∷ [];
        ranged = ranged_more h.parts t h.ranged next.ranged;
        said = said_more h.parts given t h.said next.fresh;
        tabled = tabled_more h.parts t table h.tabled;
        may = h.may;
        begins = ap (λ n. take n words) (two_more place) ∙ begins_two words place given table h t next.flag next.number;
        within = omega arith;
      }

  -- the flag, where it may stand
  pub so_far_flag : (words : List (List ℕ)) (place : ℕ) (given : Given) → SoFar words place given false → takes ≡ true
      → StandsAt words place (codes "--table") → SoFar words (place + 1) given true
  so_far_flag words place given h may stands =
      let inside : place < length words = slice_get_within words place _ stands in record {
        parts = h.parts ++ Flag ∷ [];
        ranged = ranged_flag h.parts h.ranged;
        said = said_flag h.parts given h.said;
        tabled = tabled_flag h.parts h.tabled;
        may = λ asked. may;
        begins = begins_flag words place given false h (codes "--table") stands ∙ sym (longer_flag h.parts);
        within = omega arith;
      }

  -- a word that asks for a table
  pub so_far_asked : (words : List (List ℕ)) (place : ℕ) (given : Given) (table : Bool) (flag : List ℕ) → SoFar words place given table
      → StandsAt words place flag → MayAsk takes table × (flag ≡ codes "--table") → SoFar words (place + 1) given true
  so_far_asked words place given table flag h stands asked =
      so_far_flag words place given (subst (λ (t : Bool). SoFar words place given t) asked.0.1 h) asked.0.0 (stands ∙ ap Some asked.1)

  -- the settings so far are a command
  so_far : (words : List (List ℕ)) (place : ℕ) (given : Given) (table : Bool) (h : SoFar words place given table)
      → HasSettings opening (line h.parts) table (over_defaults given)
  so_far words place given table h = record {
    parts = h.parts;
    given = given;
    spelled = refl;
    ranged = h.ranged;
    said = h.said;
    tabled = h.tabled;
    chosen = refl;
  }

  -- where no word is left they are the words'
  pub has_settings : (words : List (List ℕ)) (place : ℕ) (given : Given) (table : Bool) → SoFar words place given table
      → slice_get words place ≡ None
      → HasSettings opening words table (over_defaults given)
  has_settings words place given table h none = record {
    parts = h.parts;
    given = given;
    spelled = sym (take_all place words (no_more words place none)) ∙ h.begins;
    ranged = h.ranged;
    said = h.said;
    tabled = h.tabled;
    chosen = refl;
  }
    where
      no_more : (ws : List (List ℕ)) (k : ℕ) → slice_get ws k ≡ None → length ws ≤ k
      no_more ws k e = grind (arith, common_steps, gets)

  -- another command that has the same words before a place has more settings
  record Goes (words : List (List ℕ)) (place : ℕ) (given : Given) (table : Bool) (h : SoFar words place given table)
      (others : List (List ℕ)) (asked : Bool) : Type 0 where
    more : List Part
    whole : Given
    spelled : others ≡ line (h.parts ++ more)
    ranged : All IsInRange (settings_in (h.parts ++ more))
    said : Say (settings_in (h.parts ++ more)) whole
    tabled : AsksTable (h.parts ++ more) asked

  -- the words at places before that
  stands_there : (words : List (List ℕ)) (place : ℕ) (given : Given) (table : Bool) (h : SoFar words place given table) (j : ℕ) → j < place
      → slice_get words j ≡ slice_get (line h.parts) j
  stands_there words place given table h j before = alike_at j place words (line h.parts) before
      (h.begins ∙ sym (take_all place (line h.parts) (let long = place_is words place given table h in omega arith)))

  -- the opening
  so_far_opens : (words : List (List ℕ)) (place : ℕ) (given : Given) (table : Bool) (h : SoFar words place given table) (j : ℕ)
      → j < length opening → (j < place) × (slice_get words j ≡ slice_get opening j)
  so_far_opens words place given table h j within =
      let before : j < place = omega (arith, within, place_behind words place given table h) in (
        before,
        stands_there words place given table h j before ∙ front_at opening (flat_map part_words h.parts) j within,
      )

  opens_as : (words : List (List ℕ)) (place : ℕ) (given : Given) (table : Bool) (h : SoFar words place given table)
      (others : List (List ℕ)) → ((j : ℕ) → j < place → slice_get words j ≡ slice_get others j) → Opens opening others
  opens_as words place given table h others alike j within = let at = so_far_opens words place given table h j within in
      sym (alike j at.0) ∙ at.1

  inner : (words : List (List ℕ)) (place : ℕ) (given : Given) (table : Bool) (h : SoFar words place given table) (ys : List (List ℕ))
      → ((j : ℕ) → j < place → slice_get words j ≡ slice_get (opening ++ ys) j)
      → (j : ℕ) → j < length (flat_map part_words h.parts) → slice_get (flat_map part_words h.parts) j ≡ slice_get ys j
  inner words place given table h ys alike j below =
      let before : length opening + j < place = omega (arith, below, place_behind words place given table h) in
      sym (stands_there words place given table h (length opening + j) before ∙ behind_at opening (flat_map part_words h.parts) j)
      ∙ (alike (length opening + j) before ∙ behind_at opening ys j)

  goes_on : (words : List (List ℕ)) (place : ℕ) (given : Given) (table : Bool) (h : SoFar words place given table) (others : List (List ℕ))
      (asked : Bool) (options : SearchOptions) → HasSettings opening others asked options
      → ((j : ℕ) → j < place → slice_get words j ≡ slice_get others j) → Goes words place given table h others asked
  goes_on words place given table h others asked options is alike =
      let before = begin_with h.parts is.parts h.ranged is.ranged
      (inner words place given table h (flat_map part_words is.parts)
      (λ j below. alike j below ∙ ap (λ (ws : List (List ℕ)). slice_get ws j) is.spelled)) in record {
        more = before.0;
        whole = is.given;
        spelled = is.spelled ∙ ap line before.1;
        ranged = subst (λ (ps : List Part). All IsInRange (settings_in ps)) before.1 is.ranged;
        said = subst (λ (ps : List Part). Say (settings_in ps) is.given) before.1 is.said;
        tabled = subst (λ (ps : List Part). AsksTable ps asked) before.1 is.tabled;
      }

  -- the words behind the settings so far
  ends_there : (words : List (List ℕ)) (place : ℕ) (given : Given) (table : Bool) (h : SoFar words place given table)
      → slice_get (line (h.parts ++ [])) place ≡ None
  ends_there words place given table h = let long = place_is words place given table h in
      slice_get_past (line (h.parts ++ [])) place (omega (arith, ap (λ (ps : List Part). length (line ps)) (append-nil h.parts)))

  flag_there : (words : List (List ℕ)) (place : ℕ) (given : Given) (table : Bool) (h : SoFar words place given table) (t : Setting)
      (ts : List Part)
      → slice_get (line (h.parts ++ Sets t ∷ ts)) place ≡ Some (flag_of t)
  flag_there words place given table h t ts = ap (λ (ws : List (List ℕ)). slice_get ws place) (split h.parts t ts)
      ∙ (ap (λ n. slice_get (line h.parts ++ flag_of t ∷ decimal (number_of t) ∷ flat_map part_words ts) n)
      (sym (place_is words place given table h))
      ∙ at_seam (line h.parts) (decimal (number_of t) ∷ flat_map part_words ts) (flag_of t))

  table_there : (words : List (List ℕ)) (place : ℕ) (given : Given) (table : Bool) (h : SoFar words place given table) (ts : List Part)
      → slice_get (line (h.parts ++ Flag ∷ ts)) place ≡ Some (codes "--table")
  table_there words place given table h ts = ap (λ (ws : List (List ℕ)). slice_get ws place) (split_flag h.parts ts)
      ∙ (ap (λ n. slice_get (line h.parts ++ codes "--table" ∷ flat_map part_words ts) n) (sym (place_is words place given table h))
      ∙ at_seam (line h.parts) (flat_map part_words ts) (codes "--table"))

  number_there : (words : List (List ℕ)) (place : ℕ) (given : Given) (table : Bool) (h : SoFar words place given table) (t : Setting)
      (ts : List Part)
      → slice_get (line (h.parts ++ Sets t ∷ ts)) (place + 1) ≡ Some (decimal (number_of t))
  number_there words place given table h t ts = ap (λ (ws : List (List ℕ)). slice_get ws (place + 1)) (split h.parts t ts)
      ∙ (ap (λ n. slice_get (line h.parts ++ flag_of t ∷ decimal (number_of t) ∷ flat_map part_words ts) n) next_place
      ∙ next_at_seam (line h.parts) (flat_map part_words ts) (flag_of t) (decimal (number_of t)))
    where
      next_place : place + 1 ≡ suc (length (line h.parts))
      next_place = let long = place_is words place given table h in omega arith

  -- neither an option that is not given yet stands at the place nor the flag where it may
  pub bad_flag : IsOpening opening takes → (words : List (List ℕ)) (place : ℕ) (given : Given) (table : Bool) (flag : List ℕ)
      → SoFar words place given table → StandsAt words place flag → NoFlagAt words place given → NoTableAt words place takes table
      → IsBadWord words place
  bad_flag named words place given table flag h stands none no_table =
      bad_word words place (search_of opening takes named table (over_defaults given)) (line h.parts)
      (is_search opening takes named (line h.parts) table (over_defaults given) h.may (so_far words place given table h))
      (h.begins ∙ sym (take_all place (line h.parts) (let long = place_is words place given table h in omega arith)))
      (λ other others is alike. let opened = opens_search opening takes named others other is
      (opens_as words place given table h others (λ j below. alike j (omega arith))) in
      let on = goes_on words place given table h others opened.table opened.options opened.has (λ j below. alike j (omega arith)) in
      by others on.more on.whole opened.table opened.may on.spelled on.said on.tabled (alike place (omega arith)))
    where
      by : (others : List (List ℕ)) (more : List Part) (whole : Given) (asked : Bool) → (asked ≡ true → takes ≡ true)
          → others ≡ line (h.parts ++ more) → Say (settings_in (h.parts ++ more)) whole → AsksTable (h.parts ++ more) asked
          → slice_get words place ≡ slice_get others place → ⊥
      by others [] whole asked may spelled said tabled same = some_or_none words place flag stands
          (same ∙ (ap (λ (ws : List (List ℕ)). slice_get ws place) spelled ∙ ends_there words place given table h))
      by others (Sets t ∷ ts) whole asked may spelled said tabled same = none t (fresh_next h.parts t ts given whole h.said said)
          (same ∙ (ap (λ (ws : List (List ℕ)). slice_get ws place) spelled ∙ flag_there words place given table h t ts))
      by others (Flag ∷ ts) whole asked may spelled said tabled same =
          let next = flag_next h.parts ts table asked h.tabled tabled in
          no_table (may next.1, next.0)
          (same ∙ (ap (λ (ws : List (List ℕ)). slice_get ws place) spelled ∙ table_there words place given table h ts))

  same_flag : (words : List (List ℕ)) (place : ℕ) (v w : List ℕ) → StandsAt words place v → StandsAt words place w → v ≡ w
  same_flag words place v w a b = cc

  -- an option stands there, and no value of it next
  pub bad_value : IsOpening opening takes → (words : List (List ℕ)) (place : ℕ) (given : Given) (table : Bool)
      → SoFar words place given table → NoValueAt words place given → IsBadWord words (place + 1)
  bad_value named words place given table h bad =
      bad_word words (place + 1) (search_of opening takes named table (over_defaults (with_setting given bad.some)))
      (line (h.parts ++ Sets bad.some ∷ []))
      (is_search opening takes named (line (h.parts ++ Sets bad.some ∷ [])) table (over_defaults (with_setting given bad.some)) h.may one_more)
      (begins_flag words place given table h (flag_of bad.some) bad.flag
      ∙ sym (take_push place (line (h.parts ++ Sets bad.some ∷ [])) (flag_of bad.some) (flag_there words place given table h bad.some [])
      ∙ ap (λ (ws : List (List ℕ)). ws ++ flag_of bad.some ∷ []) front))
      (λ other others is alike. let opened = opens_search opening takes named others other is
      (opens_as words place given table h others (λ j below. alike j (omega arith))) in
      let on = goes_on words place given table h others opened.table opened.options opened.has (λ j below. alike j (omega arith)) in
      by others on.more on.spelled on.ranged (alike place (omega arith)) (alike (place + 1) (omega arith)))
    where
      one_more : HasSettings opening (line (h.parts ++ Sets bad.some ∷ [])) table (over_defaults (with_setting given bad.some))
      one_more = record {
        parts = h.parts ++ Sets bad.some ∷ [];
        given = with_setting given bad.some;
        spelled = refl;
        ranged = ranged_more h.parts bad.some h.ranged bad.ranged;
        said = said_more h.parts given bad.some h.said bad.fresh;
        tabled = tabled_more h.parts bad.some table h.tabled;
        chosen = refl;
      }

      front : take place (line (h.parts ++ Sets bad.some ∷ [])) ≡ line h.parts
      front = ap (take place) (split h.parts bad.some [])
          ∙ (ap (λ n. take n (line h.parts ++ words_of bad.some)) (sym (place_is words place given table h))
          ∙ take-append_seam (line h.parts) (words_of bad.some))

      by : (others : List (List ℕ)) (more : List Part) → others ≡ line (h.parts ++ more) → All IsInRange (settings_in (h.parts ++ more))
          → slice_get words place ≡ slice_get others place → slice_get words (place + 1) ≡ slice_get others (place + 1) → ⊥
      by others [] spelled ranged same next = some_or_none words place (flag_of bad.some) bad.flag
          (same ∙ (ap (λ (ws : List (List ℕ)). slice_get ws place) spelled ∙ ends_there words place given table h))
      by others (Flag ∷ ts) spelled ranged same next = not_table bad.some
          (same_flag words place (flag_of bad.some) (codes "--table") bad.flag
          (same ∙ (ap (λ (ws : List (List ℕ)). slice_get ws place) spelled ∙ table_there words place given table h ts)))
      by others (Sets t ∷ ts) spelled ranged same next = bad.none t
          (same_flag words place (flag_of t) (flag_of bad.some)
          (same ∙ (ap (λ (ws : List (List ℕ)). slice_get ws place) spelled ∙ flag_there words place given table h t ts)) bad.flag)
          (ranged_next h.parts t ts ranged)
          (next ∙ (ap (λ (ws : List (List ℕ)). slice_get ws (place + 1)) spelled ∙ number_there words place given table h t ts))

  -- what stands there goes on neither as a setting nor as the flag
  pub bad_setting : IsOpening opening takes → (words : List (List ℕ)) (place : ℕ) (given : Given) (table : Bool) (flag : List ℕ) (bad : ℕ)
      → SoFar words place given table → StandsAt words place flag → NoTableAt words place takes table
      → IsBadSetting words place given bad → IsBadWord words bad
  bad_setting named words place given table flag bad h stands no_table (inl (e, none)) =
      subst (IsBadWord words) (sym e) (bad_flag named words place given table flag h stands none no_table)
  bad_setting named words place given table flag bad h stands no_table (inr (e, none)) =
      subst (IsBadWord words) (sym e) (bad_value named words place given table h none)
