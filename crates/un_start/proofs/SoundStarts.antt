-- What lines give that stand where they may is a start: predicates hold 0 or 1, and addresses rise and are multiples of 4.
use Rattle.std.proofs.Common.{◌≡◌, ℕ, ◌+◌, ◌<◌, ◌&&◌, true, nat_lt, List, [], ◌∷◌, ◌++◌, Option, Some, None, length}
use Rattle.std.proofs.Common.{is_some, refl, sym, ap, ◌∙◌, subst, append-nil, append_assoc, arith}
use Rattle.std.specs.List.{list_all}
use Rattle.std.specs.Option.{option_to_list}
use Rattle.std.proofs.lemmas.Bool.{and_parts, and_from, ltb-true}
use Rattle.std.proofs.lemmas.List.Elements.{All-nil, All-weaker, All-push}
use Rattle.un_isa.specs.Memories.{is_memory, word_at}
use Rattle.un_isa.specs.Starts.{is_clobbered, are_predicates, is_junk_from, is_reply, is_start}
use Rattle.un_isa.specs.declared.reg.TheConstants.{REGISTERS}
use Rattle.un_isa.specs.declared.start.Reply.{Reply as ReplyValue}
use Rattle.un_start.specs.declared.line.Line.{Line}
use Rattle.un_start.specs.declared.line.Line.TheVariants.{Reg, Mem, Reply, Set, Junk, Blocks}
use Rattle.un_start.specs.Places.{with_register, registers_in, word_on, words_in, reply_of, replies_in, last_of, holds, takes_junk, is_good}
use Rattle.un_start.specs.Places.{follows, has_room, is_next}
use Rattle.un_start.specs.StartTexts.{StandBehind, AllStand}
use Rattle.un_start.specs.Drafts.{with_last, with_own, with_line}
use Rattle.un_start.proofs.MemoryLaws.{all_push, all_front, AreBelow, memory_push, there, address_whole, predicates_set, junk_set}
use Rattle.un_start.proofs.ReplyLaws.{last_push, last_with, replies_push, registers_push, words_push}

abbrev Words : Type 0
Words = List (ℕ × ℕ)

-- there is a last reply, of which P holds
record EndsIn (P : ReplyValue → Type 0) (rs : List ReplyValue) : Type 0 where
  pub front : List ReplyValue
  pub final : ReplyValue
  pub whole : rs ≡ front ++ final ∷ []
  pub has : P final

abbrev IsAny : ReplyValue → Type 0
IsAny r = Unit {0}

abbrev IsFresh : ReplyValue → Type 0
IsFresh r = r.changed ≡ []

abbrev IsBelow : ℕ → ReplyValue → Type 0
IsBelow a r = AreBelow a r.changed

-- what the last line says of the words and replies so far
abbrev Place : Option Line → Words → List ReplyValue → Type 0
Place None ws rs = (ws ≡ []) × (rs ≡ [])
Place (Some (Reg r n)) ws rs = (ws ≡ []) × (rs ≡ [])
Place (Some (Mem a w)) ws rs = AreBelow (a + 1) ws × (rs ≡ [])
Place (Some (Reply n)) ws rs = EndsIn IsFresh rs
Place (Some (Set a w)) ws rs = EndsIn (IsBelow (a + 1)) rs
Place (Some (Junk r n)) ws rs = EndsIn IsAny rs
Place (Some (Blocks n)) ws rs = Unit {0}

record IsSound (last : Option Line) (regs : List ℕ) (words : Words) (replies : List ReplyValue) : Type 0 where
  pub predicates : are_predicates regs ≡ true
  pub memory : is_memory words ≡ true
  pub answers : list_all (is_reply words) replies ≡ true
  pub place : Place last words replies

-- ---- by the last line

none_yet : (r n : ℕ) (last : Option Line) (ws : Words) (rs : List ReplyValue) → follows (Reg r n) last ≡ true → Place last ws rs
    → (ws ≡ []) × (rs ≡ [])
none_yet r n None ws rs f p = p
none_yet r n (Some (Reg q m)) ws rs f p = p
none_yet r n (Some k) ws rs f p = absurd (cc f)

below_next : (a b : ℕ) (ws : Words) → nat_lt b a ≡ true → AreBelow (b + 1) ws → AreBelow a ws
below_next a b ws lt h =
    let low : b < a = ltb-true b a lt in
    All-weaker (λ (w : ℕ × ℕ). w.0 < b + 1) (λ (w : ℕ × ℕ). w.0 < a) (λ w less. omega arith) ws h

words_below : (a w : ℕ) (last : Option Line) (ws : Words) (rs : List ReplyValue) → follows (Mem a w) last ≡ true → Place last ws rs
    → AreBelow a ws × (rs ≡ [])
words_below a w None ws rs f p = (subst (AreBelow a) (sym p.0) (All-nil (λ (x : ℕ × ℕ). x.0 < a)), p.1)
words_below a w (Some (Reg q m)) ws rs f p = (subst (AreBelow a) (sym p.0) (All-nil (λ (x : ℕ × ℕ). x.0 < a)), p.1)
words_below a w (Some (Mem b v)) ws rs f p = (below_next a b ws f p.0, p.1)
words_below a w (Some k) ws rs f p = absurd (cc f)

changes_below : (a w : ℕ) (last : Option Line) (ws : Words) (rs : List ReplyValue) → follows (Set a w) last ≡ true → Place last ws rs
    → EndsIn (IsBelow a) rs
changes_below a w (Some (Reply m)) ws rs f p =
    record { front = p.front; final = p.final; whole = p.whole; has = subst (AreBelow a) (sym p.has) (All-nil (λ (x : ℕ × ℕ). x.0 < a)) }
changes_below a w (Some (Set b v)) ws rs f p =
    record { front = p.front; final = p.final; whole = p.whole; has = below_next a b p.final.changed f p.has }
changes_below a w o ws rs f p = absurd (cc f)

reply_there : (r n : ℕ) (last : Option Line) (ws : Words) (rs : List ReplyValue) → follows (Junk r n) last ≡ true → Place last ws rs
    → EndsIn IsAny rs
reply_there r n (Some (Reply m)) ws rs f p = record { front = p.front; final = p.final; whole = p.whole; has = tt }
reply_there r n (Some (Set b v)) ws rs f p = record { front = p.front; final = p.final; whole = p.whole; has = tt }
reply_there r n (Some (Junk q m)) ws rs f p = p
reply_there r n o ws rs f p = absurd (cc f)

-- ---- replies

-- the parts of a reply to a call that runs on these words
record IsGoodReply (words : Words) (r : ReplyValue) : Type 0 where
  pub memory : is_memory r.changed ≡ true
  pub inside : list_all (λ (c : ℕ × ℕ). is_some (word_at c.0 words)) r.changed ≡ true
  pub junk : is_junk_from 0 r.junk ≡ true
  pub predicates : are_predicates r.junk ≡ true

reply_parts : (words : Words) (r : ReplyValue) → is_reply words r ≡ true → IsGoodReply words r
reply_parts words r h =
    let m = is_memory r.changed in
    let i = list_all (λ (c : ℕ × ℕ). is_some (word_at c.0 words)) r.changed in
    let j = is_junk_from 0 r.junk in
    let a = and_parts (m && i && j) (are_predicates r.junk) h in
    let b = and_parts (m && i) j a.0 in
    let d = and_parts m i b.0 in
    record { memory = d.0; inside = d.1; junk = b.1; predicates = a.1 }

reply_from : (words : Words) (r : ReplyValue) → IsGoodReply words r → is_reply words r ≡ true
reply_from words r g =
    let m = is_memory r.changed in
    let i = list_all (λ (c : ℕ × ℕ). is_some (word_at c.0 words)) r.changed in
    let j = is_junk_from 0 r.junk in
    and_from (m && i && j) (are_predicates r.junk) (and_from (m && i) j (and_from m i g.memory g.inside) g.junk) g.predicates

fresh : (words : Words) (n : ℕ) → is_reply words (reply_of n []) ≡ true
fresh words n = refl

-- the last reply with one line more, which keeps it a reply
last_answers : (P : ReplyValue → Type 0) (words : Words) (rs : List ReplyValue) (l : Line) (e : EndsIn P rs)
    → list_all (is_reply words) rs ≡ true → (is_reply words e.final ≡ true → is_reply words (with_own l e.final) ≡ true)
    → list_all (is_reply words) (with_last (with_own l) rs) ≡ true
last_answers P words rs l e h keeps =
    let parts = all_front (is_reply words) e.front e.final (sym (ap (list_all (is_reply words)) e.whole) ∙ h) in
    let same : with_last (with_own l) rs ≡ e.front ++ with_own l e.final ∷ [] =
    ap (with_last (with_own l)) e.whole ∙ last_with (with_own l) e.front e.final in
    ap (list_all (is_reply words)) same ∙ all_push (is_reply words) e.front (with_own l e.final) parts.0 (keeps parts.1)

last_is : (P Q : ReplyValue → Type 0) (rs : List ReplyValue) (l : Line) (e : EndsIn P rs) → Q (with_own l e.final)
    → EndsIn Q (with_last (with_own l) rs)
last_is P Q rs l e q = record {
  front = e.front;
  final = with_own l e.final;
  whole = ap (with_last (with_own l)) e.whole ∙ last_with (with_own l) e.front e.final;
  has = q;
}

changed_reply : (words : Words) (r : ReplyValue) (a w : ℕ) → is_memory words ≡ true → is_some (word_at a words) ≡ true → AreBelow a r.changed
    → is_reply words r ≡ true → is_reply words (with_own (Set a w) r) ≡ true
changed_reply words r a w memory there below h =
    let g = reply_parts words r h in
    reply_from words (with_own (Set a w) r) (record {
      memory = memory_push a w r.changed g.memory below (address_whole a words memory there);
      inside = all_push (λ (c : ℕ × ℕ). is_some (word_at c.0 words)) r.changed (a, w) g.inside there;
      junk = g.junk;
      predicates = g.predicates;
    })

junked_reply : (words : Words) (r : ReplyValue) (q n : ℕ) → takes_junk q ≡ true → holds q n ≡ true
    → is_reply words r ≡ true → is_reply words (with_own (Junk q n) r) ≡ true
junked_reply words r q n takes held h =
    let g = reply_parts words r h in
    let a = and_parts (nat_lt 0 q && nat_lt q REGISTERS) (is_clobbered q) takes in
    let b = and_parts (nat_lt 0 q) (nat_lt q REGISTERS) a.0 in
    reply_from words (with_own (Junk q n) r) (record {
      memory = ap is_memory (append-nil r.changed) ∙ g.memory;
      inside = ap (list_all (λ (c : ℕ × ℕ). is_some (word_at c.0 words))) (append-nil r.changed) ∙ g.inside;
      junk = junk_set q n r.junk g.junk a.1 b.0;
      predicates = predicates_set q n r.junk g.predicates held;
    })

-- ---- one line more

-- without another word
same_words : (last : Option Line) (regs : List ℕ) (words : Words) (rs : List ReplyValue) → IsSound last regs words rs
    → IsSound last regs (words ++ []) rs
same_words last regs words rs s = subst (λ (ws : Words). IsSound last regs ws rs) (sym (append-nil words)) s

sound_next : (last : Option Line) (regs : List ℕ) (words : Words) (rs : List ReplyValue) (l : Line) → IsSound last regs words rs
    → is_good l ≡ true → follows l last ≡ true → has_room l words (length rs) ≡ true
    → IsSound (Some l) (with_register regs l) (words ++ option_to_list (word_on l)) (with_line rs l)
sound_next last regs words rs (Reg r n) s good after room = same_words _ _ words rs (record {
  predicates = predicates_set r n regs s.predicates (and_parts (nat_lt r REGISTERS) (holds r n) good).1;
  memory = s.memory;
  answers = s.answers;
  place = none_yet r n last words rs after s.place;
})
sound_next last regs words rs (Mem a w) s good after room =
    let p = words_below a w last words rs after s.place in
    record {
      predicates = s.predicates;
      memory = memory_push a w words s.memory p.0 good;
      answers = ap (list_all (is_reply (words ++ (a, w) ∷ []))) p.1;
      place = (
        All-push (λ (x : ℕ × ℕ). x.0 < a + 1) words (a, w)
            (All-weaker (λ (x : ℕ × ℕ). x.0 < a) (λ (x : ℕ × ℕ). x.0 < a + 1) (λ x less. omega arith) words p.0) (omega arith),
        p.1,
      );
    }
sound_next last regs words rs (Reply n) s good after room = same_words _ _ words (rs ++ reply_of n [] ∷ []) (record {
  predicates = s.predicates;
  memory = s.memory;
  answers = all_push (is_reply words) rs (reply_of n []) s.answers (fresh words n);
  place = record { front = rs; final = reply_of n []; whole = refl; has = refl };
})
sound_next last regs words rs (Set a w) s good after room =
    let e = changes_below a w last words rs after s.place in
    let inside = sym (there a words) ∙ room in
    same_words _ _ words (with_last (with_own (Set a w)) rs) (record {
      predicates = s.predicates;
      memory = s.memory;
      answers = last_answers (IsBelow a) words rs (Set a w) e s.answers (changed_reply words e.final a w s.memory inside e.has);
      place = last_is (IsBelow a) (IsBelow (a + 1)) rs (Set a w) e
          (All-push (λ (x : ℕ × ℕ). x.0 < a + 1) e.final.changed (a, w)
          (All-weaker (λ (x : ℕ × ℕ). x.0 < a) (λ (x : ℕ × ℕ). x.0 < a + 1) (λ x less. omega arith) e.final.changed e.has) (omega arith));
    })
sound_next last regs words rs (Junk r n) s good after room =
    let e = reply_there r n last words rs after s.place in
    let g = and_parts (takes_junk r) (holds r n) good in
    same_words _ _ words (with_last (with_own (Junk r n)) rs) (record {
      predicates = s.predicates;
      memory = s.memory;
      answers = last_answers IsAny words rs (Junk r n) e s.answers (junked_reply words e.final r n g.0 g.1);
      place = last_is IsAny IsAny rs (Junk r n) e tt;
    })
sound_next last regs words rs (Blocks n) s good after room = same_words _ _ words rs (record {
  predicates = s.predicates;
  memory = s.memory;
  answers = s.answers;
  place = tt;
})

-- ---- all lines

-- what these lines give
abbrev IsSoundBehind : List Line → Type 0
IsSoundBehind ls = IsSound (last_of ls) (registers_in ls) (words_in ls) (replies_in ls)

sound_push : (ls : List Line) (l : Line) → IsSoundBehind ls → is_next ls l ≡ true → IsSoundBehind (ls ++ l ∷ [])
sound_push ls l s next =
    let a = and_parts (is_good l && follows l (last_of ls)) (has_room l (words_in ls) (length (replies_in ls))) next in
    let b = and_parts (is_good l) (follows l (last_of ls)) a.0 in
    let more = sound_next (last_of ls) (registers_in ls) (words_in ls) (replies_in ls) l s b.0 b.1 a.1 in
    let rs = with_line (replies_in ls) l in
    let ws = words_in ls ++ option_to_list (word_on l) in
    subst (λ (qs : List ReplyValue). IsSound (last_of (ls ++ l ∷ [])) (registers_in (ls ++ l ∷ [])) (words_in (ls ++ l ∷ [])) qs)
    (sym (replies_push ls l))
    (subst (λ (vs : Words). IsSound (last_of (ls ++ l ∷ [])) (registers_in (ls ++ l ∷ [])) vs rs) (sym (words_push ls l))
    (subst (λ (regs : List ℕ). IsSound (last_of (ls ++ l ∷ [])) regs ws rs) (sym (registers_push ls l))
    (subst (λ (o : Option Line). IsSound o (with_register (registers_in ls) l) ws rs) (sym (last_push ls l)) more)))

sound_all : (before ls : List Line) → IsSoundBehind before → StandBehind before ls → IsSoundBehind (before ++ ls)
sound_all before [] s stand = subst IsSoundBehind (sym (append-nil before)) s
sound_all before (l ∷ ls) s stand =
    subst IsSoundBehind (append_assoc before (l ∷ []) ls) (sound_all (before ++ l ∷ []) ls (sound_push before l s stand.0.next) stand.1)

none_sound : IsSoundBehind []
none_sound = record { predicates = refl; memory = refl; answers = refl; place = (refl, refl) }

-- lines that stand give a start
pub sound_start : (ls : List Line) → AllStand ls → is_start (registers_in ls) (words_in ls) (replies_in ls) ≡ true
sound_start ls stand =
    let s = sound_all [] ls none_sound stand in
    and_from (are_predicates (registers_in ls) && is_memory (words_in ls)) (list_all (is_reply (words_in ls)) (replies_in ls))
    (and_from (are_predicates (registers_in ls)) (is_memory (words_in ls)) s.predicates s.memory) s.answers
