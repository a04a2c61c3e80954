-- From where an engine went down stays as it is, down and up.
use Rattle.std.proofs.Common.{◌≡◌, ◌+◌, List, [], ◌∷◌, ◌++◌, length, refl, sym, ap, ◌∙◌, arith}
use Rattle.un_domains.specs.Cuts.{Contents}
use Rattle.un_domains.specs.Sets.{Sets}
use Rattle.un_engine.specs.Ends.{IsDeeper}
use Rattle.un_engine.specs.Engines.{State}
use Rattle.un_kinds.specs.declared.any.AnyProp.{AnyProp}
use Rattle.un_search.specs.Dives.{Base, first_of, base_of}

first_snoc : (ms : List Sets) (s t : Sets) → first_of (ms ++ s ∷ []) t ≡ first_of ms s
first_snoc [] s t = refl
first_snoc (m ∷ ms) s t = refl

abbrev base_by : List AnyProp → Sets → Base
base_by ps s = record { props = ps; sets = s }

pub base_deeper : (a b : State AnyProp) → IsDeeper a b → base_of b ≡ base_of a
base_deeper a b h =
    let e : first_of b.store.marked b.store.sets ≡ first_of a.store.marked a.store.sets =
    ap (λ (ms : List Sets). first_of ms b.store.sets) h.marked ∙ first_snoc a.store.marked a.store.sets b.store.sets in
    ap (λ (ps : List AnyProp). base_by ps (first_of b.store.marked b.store.sets)) h.props ∙ ap (base_by a.props) e

-- down, and up again
pub base_back : (a b c : State AnyProp) → IsDeeper a b → IsDeeper c b → base_of c ≡ base_of a
base_back a b c down up = sym (base_deeper c b up) ∙ base_deeper a b down

-- at the first mark
pub at_base : (e : State AnyProp) (b : Base) → base_of e ≡ b → length e.store.marked ≡ 0
    → (e.props ≡ b.props) × (e.store.sets ≡ b.sets) × (e.store.marked ≡ [])
at_base e b same none = by e.store.marked none (ap (λ (x : Base). x.sets) same)
  where
    by : (ms : List Sets) → length ms ≡ 0 → first_of ms e.store.sets ≡ b.sets → (e.props ≡ b.props) × (e.store.sets ≡ b.sets) × (ms ≡ [])
    by [] z is = (ap (λ (x : Base). x.props) same, is, refl)
    by (m ∷ ms) z is = absurd (omega (arith, z))

abbrev state_by : List AnyProp → Contents → State AnyProp
state_by ps s = record { props = ps; store = s }

abbrev contents_by : Sets → List Sets → Contents
contents_by s ms = record { sets = s; marked = ms }

engine_same : (a b : State AnyProp) → a.props ≡ b.props → a.store.sets ≡ b.store.sets → a.store.marked ≡ b.store.marked → a ≡ b
engine_same a b props sets marked =
    ap (λ (ps : List AnyProp). state_by ps a.store) props
    ∙ (ap (λ (s : Sets). state_by b.props (contents_by s a.store.marked)) sets
    ∙ ap (λ (ms : List Sets). state_by b.props (contents_by b.store.sets ms)) marked)

-- the engine of a dive from no mark, that came back, is as it was
pub dive_back : (e f : State AnyProp) (first last : Base) → e.store.marked ≡ [] → first ≡ base_of e → last ≡ first → f.props ≡ last.props
    → f.store.sets ≡ last.sets → f.store.marked ≡ [] → f ≡ e
dive_back e f first last fresh begun stays props sets none =
    let same = stays ∙ begun in
    engine_same f e (props ∙ ap (λ (b : Base). b.props) same)
    (sets ∙ (ap (λ (b : Base). b.sets) same ∙ ap (λ (ms : List Sets). first_of ms e.store.sets) fresh)) (none ∙ sym fresh)
