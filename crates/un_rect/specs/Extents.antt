-- What a store says of each temporary, noted once for many looks.
use Rattle.std.specs.Prelude.{ℕ, ◌≡◌, ◌<◌, Bool, true, false, cond, not, ◌&&◌, ◌||◌, List}
use Rattle.std.specs.Prelude.{length, nat_eq, nat_le, nat_lt, slice_index_or, None, Some}
use Rattle.std.specs.declared.option.Option.{Option}
use Rattle.un_base.specs.declared.ids.VarId.{VarId}
use Rattle.un_domains.specs.Sets.{Sets, set_at, least}
use Rattle.un_prop.specs.Looks.{sure}
use Rattle.un_prop.specs.declared.act.Temp.{Temp}
use Rattle.un_prop.specs.declared.propagator.Pruned.{Pruned}
use Rattle.un_prop.specs.declared.propagator.Pruned.TheVariants.{Same}
use Rattle.un_rect.specs.Apart.{temp_vars}
use Rattle.un_rect.specs.Checks.{is_off}
use Rattle.un_rect.specs.Opened.{opened_after, is_more}
use Rattle.un_rect.specs.declared.opened.Opened.{Opened}
use Rattle.un_rect.specs.declared.opened.Opened.TheVariants.{Nothing, One, More}
use Rattle.un_rect.specs.Spans.{greatest_start, least_start, least_end, greatest_end, last_reading}
use Rattle.un_rect.specs.declared.extents.Extent.{Extent}
use Rattle.un_rect.specs.declared.left.Left.{Left}

-- it is off, or more than one of its variables are open
abbrev pub is_idle : Temp → Sets → Bool
is_idle a s = is_off a.on s || is_more (opened_after s (temp_vars a) Nothing)

-- the starts, the least end, the last reading and the register of one that is sure
abbrev pub sure_extent : Temp → Sets → Extent
sure_extent a s = record {
  start = greatest_start a s;
  first = least_start a s;
  last = cond (nat_eq (length (set_at s a.reg.0)) 1) (last_reading a.users s) 0;
  reg = least (set_at s a.reg.0);
  end = least_end a s;
  sure = true;
  one = nat_eq (length (set_at s a.reg.0)) 1;
}

abbrev pub unsure_extent : Extent
unsure_extent = record { start = 0; first = 0; last = 0; reg = 0; end = 0; sure = false; one = false }

abbrev pub extent_of : Temp → Sets → Extent
extent_of a s = cond (sure a.on s) (sure_extent a s) unsure_extent

-- which variables are open, more than one where it is off
abbrev pub left_opened : Temp → Sets → Opened
left_opened a s = cond (is_off a.on s) More (opened_after s (temp_vars a) Nothing)

-- what is left to decide: what is open, the register, and the least start and the greatest end, 0 where more than one are open
abbrev pub left_of : Temp → Sets → Left
left_of a s = record {
  opened = left_opened a s;
  reg = least (set_at s a.reg.0);
  one = nat_eq (length (set_at s a.reg.0)) 1;
  first = least_start a s;
  end = cond (is_more (left_opened a s)) 0 (greatest_end a s);
}

-- what is noted of the temporaries
abbrev pub AreNoted : (A : Type 0) → (Temp → Sets → A) → List Temp → Sets → List A → Type 0
AreNoted A of temps s xs = (i : ℕ) (a : Temp) (x : A) → i < length temps → i < length xs
    → slice_index_or xs i x ≡ of (slice_index_or temps i a) s

abbrev pub AreExtents : List Temp → Sets → List Extent → Type 0
AreExtents temps s extents = AreNoted Extent extent_of temps s extents

-- so far: of those before place n
abbrev pub AreExtentsBefore : ℕ → List Temp → Sets → List Extent → Type 0
AreExtentsBefore n temps s extents = (i : ℕ) (a : Temp) (x : Extent) → i < n → i < length temps → i < length extents
    → slice_index_or extents i x ≡ extent_of (slice_index_or temps i a) s

abbrev pub AreLeft : List Temp → Sets → List Left → Type 0
AreLeft temps s left = AreNoted Left left_of temps s left

-- both are sure and overlap, one has one register left, and not both have other ones
abbrev pub may_clash : Extent → Extent → Bool
may_clash x y = (nat_lt y.start x.end && nat_lt x.start y.end) && cond (x.one && y.one) (nat_eq x.reg y.reg) (x.one || y.one)

-- the second starts behind the first and its readings
abbrev pub is_settled : Extent → Extent → Bool
is_settled x y = nat_le x.end y.first && (nat_lt x.start y.start && nat_le x.last y.start)

-- the first comes first, and is not settled before the second
abbrev pub may_lead : Extent → Extent → Bool
may_lead x y = nat_lt x.start y.end && not (is_settled x y)

-- both are sure and have the same one register left, and one of them may still be cut where it comes first
abbrev pub may_order : Extent → Extent → Bool
may_order x y = x.sure && (y.sure && (x.one && (y.one && (nat_eq x.reg y.reg && (may_lead x y || may_lead y x)))))

-- what is open of two
abbrev pub opened_both : Opened → Opened → Opened
opened_both Nothing p = p
opened_both (One u) Nothing = One u
opened_both (One u) (One v) = cond (nat_eq u.0 v.0) (One u) More
opened_both (One u) More = More
opened_both More p = More

-- one ends before the other starts
abbrev pub are_parted : Left → Left → Bool
are_parted x y = nat_le x.end y.first || nat_le y.end x.first

-- what is open of two of which this is left, more than one where they have other registers or one ends before the other starts
abbrev pub left_both : Left → Left → Opened
left_both x y = cond (x.one && (y.one && not (nat_eq x.reg y.reg))) More
    (cond (are_parted x y) More (opened_both x.opened y.opened))

-- the variable to decide, or none where there is nothing to check
abbrev pub var_of : VarId → Opened → Option VarId
var_of r Nothing = Some r
var_of r (One v) = Some v
var_of r More = None

-- nothing changed since, and by what was noted this is open of the temporaries at two places
pub record IsNoted (left : List Left) (did : Pruned) (i j : ℕ) (o : Opened) : Type 0 where
  pub same : did ≡ Same
  pub first : i < length left
  pub second : j < length left
  pub is : (x y : Left) → left_both (slice_index_or left i x) (slice_index_or left j y) ≡ o

-- nothing changed since, and by what was noted the temporaries at two places may not do something
pub record AreSpared {A : Type 0} (may : A → A → Bool) (xs : List A) (did : Pruned) (i j : ℕ) : Type 0 where
  pub same : did ≡ Same
  pub first : i < length xs
  pub second : j < length xs
  pub none : (x y : A) → may (slice_index_or xs i x) (slice_index_or xs j y) ≡ false
