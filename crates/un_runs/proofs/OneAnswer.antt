-- An input has one answer: one start, one first bad line, and none where its parts are in their grammars.
use Rattle.std.proofs.Common.{◌≡◌, ℕ, inl, inr, true, List, [], sym, ap, ◌∙◌, subst, append-nil, count_by}
use Rattle.un_base.specs.Lines.{is_line_feed}
use Rattle.un_isa.specs.declared.start.Start.{Start}
use Rattle.un_isa.specs.declared.table.Table.{Table}
use Rattle.un_listing_reader.specs.declared.read.ListingError.TheVariants.{NoMemory as NoRoom, BadListing}
use Rattle.un_listing_reader.specs.Reading.{IsListingOf, IsFirstBad as IsBadListing}
use Rattle.un_listing_reader.proofs.CodeBack.{one_code, one_bad, refused}
use Rattle.un_packet.specs.declared.code.Code.{Code}
use Rattle.un_start.specs.StartTexts.{IsStartText}
use Rattle.un_runs.specs.Grammars.{IsSourceInput, AreCodeTexts, IsCodeInput}
use Rattle.un_runs.specs.Inputs.{first_part, second_part}
use Rattle.un_runs.specs.Refusals.{HasNoRoom, IsBadFor, IsBadSourceRun, IsBadRun, IsBadCodeRun}
use Rattle.un_runs.specs.Shown.{has_room, IsSourceRun, IsRunOfListing, IsCodeRun}
use Rattle.un_runs.proofs.StartLaws.{one_front, start_not_bad, one_bad_line, roomy_start}

one_tight : (frame : ℕ) (text : List ℕ) (m n : ℕ) → HasNoRoom frame text m → HasNoRoom frame text n → m ≡ n
one_tight frame text m n b c =
    let same : b.front ≡ c.front =
    one_front b.front c.front b.rest c.rest b.start c.start b.count c.count b.started c.started (sym b.whole ∙ c.whole) in
    b.last ∙ (ap (count_by is_line_feed) same ∙ sym c.last)

one_bad_for : (frame : ℕ) (text : List ℕ) (m n : ℕ) → IsBadFor frame text m → IsBadFor frame text n → m ≡ n
one_bad_for frame text m n (inl b) (inl c) = one_tight frame text m n b c
one_bad_for frame text m n (inl b) (inr c) = absurd (c.0 m b)
one_bad_for frame text m n (inr b) (inl c) = absurd (b.0 n c)
one_bad_for frame text m n (inr b) (inr c) = one_bad_line text m n b.1 c.1

none_bad_for : (frame : ℕ) (text : List ℕ) (s : Start) (n line : ℕ) → IsStartText text s n → has_room frame s.regs ≡ true
    → IsBadFor frame text line → ⊥
none_bad_for frame text s n line h room (inl b) = roomy_start frame text text [] s n (sym (append-nil text)) h room line b
none_bad_for frame text s n line h room (inr b) = start_not_bad text s n line h b.1

-- ---- of inputs

pub one_source_line : (input : List ℕ) (m n : ℕ) → IsBadSourceRun input m → IsBadSourceRun input n → m ≡ n
one_source_line input m n b c = one_bad_line (second_part input) m n b.bad c.bad

pub good_source : (input : List ℕ) (line : ℕ) → IsSourceInput input → IsBadSourceRun input line → ⊥
good_source input line g b = start_not_bad (second_part input) g.start g.count line g.started b.bad

pub source_run_good : (input out : List ℕ) → IsSourceRun input out → IsSourceInput input
source_run_good input out h = record {
  function = h.function;
  read = h.read;
  start = h.run.start;
  count = h.run.count;
  started = h.run.started;
}

-- a listing has no bad line
listing_not_bad : (text : List ℕ) (c : Code) (line : ℕ) → IsListingOf text c → IsBadListing text line → ⊥
listing_not_bad text c line listed bad = let no : BadListing line ≡ NoRoom = refused text (BadListing line) c bad listed in cc no

-- of a listing and a start
pub one_run_line : (listing text : List ℕ) (m n : ℕ) → IsBadRun listing text m → IsBadRun listing text n → m ≡ n
one_run_line listing text m n (inl b) (inl c) = one_bad listing m n b c
one_run_line listing text m n (inl b) (inr c) = absurd (listing_not_bad listing c.code m c.listed b)
one_run_line listing text m n (inr b) (inl c) = absurd (listing_not_bad listing b.code n b.listed c)
one_run_line listing text m n (inr b) (inr c) =
    let same : c.code ≡ b.code = one_code listing c.code b.code c.listed b.listed in
    one_bad_for b.code.frame text m n b.bad (subst (λ (k : Code). IsBadFor k.frame text n) same c.bad)

pub good_texts : (listing text : List ℕ) (line : ℕ) → AreCodeTexts listing text → IsBadRun listing text line → ⊥
good_texts listing text line g (inl b) = listing_not_bad listing g.code line g.listed b
good_texts listing text line g (inr b) =
    let same : b.code ≡ g.code = one_code listing b.code g.code b.listed g.listed in
    none_bad_for g.code.frame text g.start g.count line g.started g.room (subst (λ (k : Code). IsBadFor k.frame text line) same b.bad)

pub run_good : (t : Table) (listing text out : List ℕ) → IsRunOfListing t listing text out → AreCodeTexts listing text
run_good t listing text out h = record {
  code = h.code;
  listed = h.listed;
  start = h.run.start;
  count = h.run.count;
  started = h.run.started;
  room = h.run.room;
}

pub one_code_line : (input : List ℕ) (m n : ℕ) → IsBadCodeRun input m → IsBadCodeRun input n → m ≡ n
one_code_line input = one_run_line (first_part input) (second_part input)

pub good_code : (input : List ℕ) (line : ℕ) → IsCodeInput input → IsBadCodeRun input line → ⊥
good_code input = good_texts (first_part input) (second_part input)

pub code_run_good : (t : Table) (input out : List ℕ) → IsCodeRun t input out → IsCodeInput input
code_run_good t input = run_good t (first_part input) (second_part input)
