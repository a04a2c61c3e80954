-- The users of a temporary, as propagators name them, are its reads: it ends where its live range does.
use Rattle.std.proofs.Common.{ℕ, ◌≡◌, ◌+◌, ◌≤◌, max, Bool, true, false, List, [], ◌∷◌, length, map, fold}
use Rattle.std.proofs.Common.{inl, inr, refl, sym, ap, ◌∙◌, subst, arith, eq-eqb, All}
use Rattle.std.specs.Prelude.{Option, Some, None, slice_get, slice_index, ◌==◌, ◌&&◌, if◌then◌else◌}
use Rattle.std.proofs.lemmas.Bool.Decides.{nat_tests}
use Rattle.un_base.specs.declared.ids.TempId.{TempId}
use Rattle.un_base.specs.declared.ids.VarId.{VarId}
use Rattle.un_ir.specs.declared.extended.NodeCopy.TheVariants.{D, D2, U, U2}
use Rattle.un_ir.specs.declared.extended.ExtKind.{ExtKind}
use Rattle.un_ir.specs.declared.extended.ExtKind.TheVariants.{In, Out, Body, End, Copy, Enter, Leave}
use Rattle.un_ir.specs.declared.extended.Operand.{Operand}
use Rattle.un_ir.specs.declared.extended.ExtOp.{ExtOp}
use Rattle.un_ir.specs.declared.extended.Ext.{Ext}
use Rattle.un_ir.specs.Extended.{IsGoodKind}
use Rattle.un_model.specs.declared.model.Options.{Options}
use Rattle.un_model.specs.declared.schedule.Read.{Read}
use Rattle.un_model.specs.Pairs.{places_from, joined}
use Rattle.un_model.specs.Schedules.{read_of, value_by, cycle_for, last_read}
use Rattle.un_ir.specs.Kinds.{has_choices}
use Rattle.un_lists.proofs.Lists.{Member, member_map, member_map_of, member_at, length_get}
use Rattle.un_model.proofs.Placed.{Placed, vars_of, issue_at, reads_at, Spot, Region, region_placed, reads_are}
use Rattle.un_model.proofs.PlacedSchedules.{all, spots, spot_range, the_reads, one_spot, member_joined, joined_member, member_places}
use Rattle.un_model.proofs.PlacedSchedules.{places_member, has_read}
use Rattle.un_prop.specs.Acts.{at_value, chooses, is_user, is_active}
use Rattle.un_prop.specs.declared.act.UserOf.{UserOf}
use Rattle.un_rect.specs.Spans.{use_time, last_use, starts, ends}
use Rattle.un_sites.specs.Places.{act_of, time_of}
use Rattle.un_sites.specs.Rooms.{user_if, operand_users, place_users, users_of, temp_by}
use Rattle.un_post.proofs.Facts.{Given, numbered, good_op, all_member, acts, times, definer_times, choice_var, reading}
use Rattle.un_post.proofs.Facts.{read_temp, reader_goes}
use Rattle.un_post.proofs.Placing.{place_of, definer_at}
use Rattle.un_post.proofs.Blocks.{blocks, region_places, in_all, stands_in}

-- ---- largest values

pub use_at : (us : List UserOf) (u : UserOf) (x : List ℕ) → Member u us → use_time x u ≤ last_use us x
use_at [] u x m = elim m [ ]
use_at (v ∷ us) u x (inl e) = let same : use_time x v ≡ use_time x u = ap (use_time x) e in omega arith
use_at (v ∷ us) u x (inr m) = let le = use_at us u x m in omega arith

pub uses_below : (us : List UserOf) (n : ℕ) (x : List ℕ) → ((u : UserOf) → Member u us → use_time x u ≤ n) → last_use us x ≤ n
uses_below [] n x h = omega arith
uses_below (u ∷ us) n x h = let here = h u (inl refl) in let rest = uses_below us n x (λ v m. h v (inr m)) in omega arith

grows : (t : ℕ) (rs : List Read) (a : ℕ) → a ≤ fold (λ (a : ℕ) (r : Read). max a (cycle_for t r)) a rs
grows t [] a = omega arith
grows t (r ∷ rs) a = let k = grows t rs (max a (cycle_for t r)) in omega arith

read_at : (t : ℕ) (rs : List Read) (a : ℕ) (r : Read) → Member r rs
    → cycle_for t r ≤ fold (λ (a : ℕ) (r : Read). max a (cycle_for t r)) a rs
read_at t [] a r m = elim m [ ]
read_at t (s ∷ rs) a r (inl e) =
    let k = grows t rs (max a (cycle_for t s)) in
    let same : cycle_for t s ≡ cycle_for t r = ap (cycle_for t) e in omega arith
read_at t (s ∷ rs) a r (inr m) = read_at t rs (max a (cycle_for t s)) r m

reads_below : (t : ℕ) (rs : List Read) (a n : ℕ) → a ≤ n → ((r : Read) → Member r rs → cycle_for t r ≤ n)
    → fold (λ (a : ℕ) (r : Read). max a (cycle_for t r)) a rs ≤ n
reads_below t [] a n le h = le
reads_below t (r ∷ rs) a n le h = let here = h r (inl refl) in reads_below t rs (max a (cycle_for t r)) n (omega arith) (λ s m. h s (inr m))

-- ---- users by their places

-- the user that an operand is which reads the alternative at place i
abbrev pub user_at : Placed → ℕ → ℕ → UserOf
user_at q j i = record { on = act_of (place_of q); at = time_of (place_of q); choice = slice_get (vars_of q).choices j; value = i }

pub user_in : (ps : List Placed) (t : TempId) (q : Placed) (j i : ℕ) (operand : Operand) (y : TempId) → Member q ps
    → slice_get q.op.operands j ≡ Some operand → slice_get operand.alts i ≡ Some y → y.0 ≡ t.0
    → Member (user_at q j i) (users_of (map place_of ps) t)
user_in ps t q j i operand y m at alt same =
    let p = place_of q in
    let choice = slice_get (vars_of q).choices j in
    let test : (y.0 == t.0) ≡ true = eq-eqb y.0 t.0 same in
    let one : Member (user_at q j i) (user_if t p choice i y) =
    subst (λ (b : Bool). Member (user_at q j i) (if b then user_at q j i ∷ [] else [])) (sym test) (inl refl) in
    let here : Member (user_at q j i) (operand_users t p j operand) =
    member_joined (places_from (user_if t p choice) 0 operand.alts) (user_if t p choice i y) (user_at q j i)
    (member_places (user_if t p choice) operand.alts 0 i i y (omega arith) alt) one in
    let own : Member (user_at q j i) (place_users t p) =
    member_joined (places_from (operand_users t p) 0 q.op.operands) (operand_users t p j operand) (user_at q j i)
    (member_places (operand_users t p) q.op.operands 0 j j operand (omega arith) at) here in
    member_joined (map (place_users t) (map place_of ps)) (place_users t p) (user_at q j i)
    (member_map (place_users t) (map place_of ps) p (member_map place_of ps q m)) own

-- where a user stands
pub record UserPlace (ps : List Placed) (t : TempId) (u : UserOf) : Type 0 where
  pub user : Placed
  pub member : Member user ps
  pub at : ℕ
  pub operand : Operand
  pub stands : slice_get user.op.operands at ≡ Some operand
  pub place : ℕ
  pub alternative : TempId
  pub reads : slice_get operand.alts place ≡ Some alternative
  pub same : alternative.0 ≡ t.0
  pub is : user_at user at place ≡ u

joined_places : {A B : Type 0} (f : ℕ → A → List B) (xs : List A) (y : B) → Member y (joined (places_from f 0 xs))
    → (k : ℕ) × (x : A) × (slice_get xs k ≡ Some x) × (Member y (f k x))
joined_places f xs y m =
    let r = joined_member (λ zs. zs) (places_from f 0 xs) y (subst (λ zss. Member y (joined zss)) (sym (mapped (places_from f 0 xs))) m) in
    let s = places_member f 0 xs r.0 r.1 in
    let z : 0 + s.0 ≡ s.0 = omega arith in
    (s.0, s.1, s.2, subst (Member y) (sym s.3 ∙ ap (λ k. f k s.1) z) r.2)
  where
    mapped : {A : Type 0} (xs : List A) → map (λ z. z) xs ≡ xs
    mapped [] = refl
    mapped (x ∷ xs) = ap (λ ys. x ∷ ys) (mapped xs)

pub users_in : (ps : List Placed) (t : TempId) (u : UserOf) → Member u (users_of (map place_of ps) t) → UserPlace ps t u
users_in ps t u m =
    let a = joined_member (place_users t) (map place_of ps) u m in
    let b = member_map_of place_of ps a.0 a.1 in
    let q = b.0 in
    let own : Member u (place_users t (place_of q)) = subst (λ p. Member u (place_users t p)) (sym b.2) a.2 in
    let c = joined_places (operand_users t (place_of q)) q.op.operands u own in
    let j = c.0 in
    let operand = c.1 in
    let choice = slice_get (vars_of q).choices j in
    let d = joined_places (user_if t (place_of q) choice) operand.alts u c.3 in
    let r = only (d.1.0 == t.0) (user_at q j d.0) d.3 in
    record {
      user = q;
      member = b.1;
      at = j;
      operand = operand;
      stands = c.2;
      place = d.0;
      alternative = d.1;
      reads = d.2;
      same = let test = r.0 in let y = d.1 in grind (arith, nat_tests, test);
      is = r.1;
    }
  where
    only : (b : Bool) (v : UserOf) → Member u (if b then v ∷ [] else []) → (b ≡ true) × (v ≡ u)
    only true v (inl same) = (refl, same)
    only true v (inr m) = elim m [ ]
    only false v m = elim m [ ]

-- it is a user of any operations that have its operation
pub user_also : (qs ps : List Placed) (t : TempId) (u : UserOf) (p : UserPlace qs t u) → Member p.user ps
    → Member u (users_of (map place_of ps) t)
user_also qs ps t u p m =
    subst (λ v. Member v (users_of (map place_of ps) t)) p.is
    (user_in ps t p.user p.at p.place p.operand p.alternative m p.stands p.reads p.same)

-- ---- choices

pub chooses_iff : (c : Option VarId) (i : ℕ) (x : List ℕ) → value_by x c ≡ i → chooses c i x ≡ true
chooses_iff None i x h = refl
chooses_iff (Some v) i x h = eq-eqb (slice_index x v.0) i h

chosen_is : (v : VarId) (i : ℕ) (x : List ℕ) → chooses (Some v) i x ≡ true → slice_index x v.0 ≡ i
chosen_is v i x h = grind (arith, nat_tests, h)

-- what has no choice has one alternative
lone : (kind : ExtKind) (op : ExtOp) → has_choices kind ≡ false → IsGoodKind kind op → All (λ (a : Operand). length a.alts ≡ 1) op.operands
lone (Copy D) op c h = h
lone (Copy D2) op c h = absurd (cc c)
lone (Copy U) op c h = absurd (cc c)
lone (Copy U2) op c h = absurd (cc c)
lone In op c h = absurd (cc c)
lone Out op c h = absurd (cc c)
lone (Body so) op c h = absurd (cc c)
lone (End term) op c h = absurd (cc c)
lone Enter op c h = absurd (cc c)
lone Leave op c h = absurd (cc c)

on_and : (a b : Bool) → (a && b) ≡ true → (a ≡ true) × (b ≡ true)
on_and true b h = (refl, h)
on_and false b h = absurd (cc h)

timed : (b : Bool) (n m : ℕ) → (b ≡ true → n ≤ m) → (if b then n else 0) ≤ m
timed true n m h = h refl
timed false n m h = omega arith

module _ (e : Ext) (o : Options) (x : List ℕ) (given : Given e o x) where
  -- the alternative that a user reads is the one that is chosen
  value_is : (q : Placed) (j i : ℕ) (operand : Operand) (y : TempId) → Member q (all e o x) → slice_get q.op.operands j ≡ Some operand
      → slice_get operand.alts i ≡ Some y → chooses (slice_get (vars_of q).choices j) i x ≡ true
      → value_by x (slice_get (vars_of q).choices j) ≡ i
  value_is q j i operand y m at alt h = by (slice_get (vars_of q).choices j) refl h
    where
      by : (c : Option VarId) → slice_get (vars_of q).choices j ≡ c → chooses c i x ≡ true
          → value_by x (slice_get (vars_of q).choices j) ≡ i
      by (Some v) k t = ap (value_by x) k ∙ chosen_is v i x t
      by None k t = without (has_choices q.op.kind) refl
        where
          without : (b : Bool) → has_choices q.op.kind ≡ b → value_by x (slice_get (vars_of q).choices j) ≡ i
          without false c =
              let g = good_op e o x given q m in
              let keeps = g.keeps in
              let one = all_member (λ (a : Operand). length a.alts ≡ 1) q.op.operands operand (lone q.op.kind q.op c keeps.kind)
              (member_at q.op.operands j operand at) in
              let lt = length_get operand.alts i y alt in
              let none : value_by x (slice_get (vars_of q).choices j) ≡ 0 = ap (value_by x) k in
              omega arith
          without true c = absurd (let z : Some _ ≡ None = sym (choice_var e o x given q j operand at c) ∙ k in cc z)

  module _ (r : Region) (s : Spot) (mr : Member r (blocks e o x)) (ms : Member s (spots e o x))
      (own : (let q = s.definer in q.block ≡ r.block)) where
    abbrev users : List UserOf
    users = users_of (region_places r) s.temp

    read_used : (d : Read) → Member d (the_reads e o x) → cycle_for s.temp.0 d ≤ last_use users x
    read_used d md = timed (d.temp.0 == s.temp.0) d.cycle (last_use users x) (λ test. go test)
      where
        go : (d.temp.0 == s.temp.0) ≡ true → d.cycle ≤ last_use users x
        go test =
            let a = joined_member (reads_at x) (all e o x) d (subst (Member d) (reads_are x 0 0 0 e.blocks) md) in
            at a.0 a.1 (issue_at x a.0).active refl a.2
          where
            at : (q : Placed) → Member q (all e o x) → (b : Bool) → (issue_at x q).active ≡ b
                → Member d (if b then places_from (read_of x (issue_at x q) (vars_of q)) 0 q.op.operands else [])
                → d.cycle ≤ last_use users x
            at q mq false act m = elim m [ ]
            at q mq true act m =
                let v = places_member (read_of x (issue_at x q) (vars_of q)) 0 q.op.operands d m in
                let j = v.0 in
                let z : 0 + j ≡ j = omega arith in
                let is : read_of x (issue_at x q) (vars_of q) j v.1 ≡ d = ap (λ k. read_of x (issue_at x q) (vars_of q) k v.1) (sym z)
                ∙ v.3 in
                let rd = reading e o x given q j v.1 mq v.2 in
                let i = value_by x (slice_get (vars_of q).choices j) in
                let chosen : d.temp ≡ rd.spot.temp = ap (λ (d : Read). d.temp) (sym is) ∙ read_temp e o x given q j v.1 rd in
                let equal : d.temp.0 ≡ s.temp.0 = grind (arith, nat_tests, test) in
                let same : rd.spot.temp.0 ≡ s.temp.0 = ap (λ (t : TempId). t.0) (sym chosen) ∙ equal in
                let one = one_spot e o x (numbered e o x given) rd.spot s rd.member ms same in
                let block : q.block ≡ r.block = sym rd.block ∙ ap (λ (s : Spot). s.definer.block) one ∙ own in
                let u = user_at q j i in
                let le = use_at users u x (user_in (region_placed r) s.temp q j i v.1 rd.spot.temp (stands_in e o x r q mr mq block) v.2
                rd.at same) in
                let on : is_active (act_of (place_of q)) x ≡ true = acts e o x given q mq (reader_goes e o x given q j v.1 rd) ∙ act in
                let uses : is_user u x ≡ true = ap (λ (b : Bool). b && chooses u.choice i x) on ∙ chooses_iff u.choice i x refl in
                let time : use_time x u ≡ (issue_at x q).cycle = ap (λ (b : Bool). if b then at_value u.at x else 0) uses
                ∙ times e o x given q in
                let cycle : (issue_at x q).cycle ≡ d.cycle = ap (λ (d : Read). d.cycle) is in
                omega arith

    pub user_reads : (u : UserOf) → Member u users → use_time x u ≤ last_read (the_reads e o x) s.temp.0
    user_reads u mu = timed (is_user u x) (at_value u.at x) (last_read (the_reads e o x) s.temp.0)
        (λ h. go (users_in (region_placed r) s.temp u mu) h)
      where
        go : UserPlace (region_placed r) s.temp u → is_user u x ≡ true → at_value u.at x ≤ last_read (the_reads e o x) s.temp.0
        go p h =
            let q = p.user in
            let j = p.at in
            let mq = in_all e o x r q mr p.member in
            let rd = reading e o x given q j p.operand mq p.stands in
            let uses : is_user (user_at q j p.place) x ≡ true = ap (λ (u : UserOf). is_user u x) p.is ∙ h in
            let two = on_and (is_active (act_of (place_of q)) x) (chooses (slice_get (vars_of q).choices j) p.place x) uses in
            let value = value_is q j p.place p.operand p.alternative mq p.stands p.reads two.1 in
            let act : (issue_at x q).active ≡ true = sym (acts e o x given q mq (reader_goes e o x given q j p.operand rd)) ∙ two.0 in
            let d = read_of x (issue_at x q) (vars_of q) j p.operand in
            let md = has_read e o x q j p.operand mq act p.stands in
            let alt : Some rd.spot.temp ≡ Some p.alternative = sym rd.at ∙ ap (slice_get (p.operand).alts) value ∙ p.reads in
            let chosen : d.temp ≡ p.alternative = read_temp e o x given q j p.operand rd ∙ cc alt in
            let same : d.temp.0 ≡ s.temp.0 = ap (λ (t : TempId). t.0) chosen ∙ p.same in
            let here : cycle_for s.temp.0 d ≡ d.cycle = ap (λ (b : Bool). if b then d.cycle else 0) (eq-eqb d.temp.0 s.temp.0 same) in
            let le = read_at s.temp.0 (the_reads e o x) 0 d md in
            let time : at_value u.at x ≡ d.cycle = ap (λ (u : UserOf). at_value u.at x) (sym p.is) ∙ times e o x given q in
            omega arith

    pub last_is : last_use users x ≡ last_read (the_reads e o x) s.temp.0
    last_is =
        let a = uses_below users (last_read (the_reads e o x) s.temp.0) x user_reads in
        let b = reads_below s.temp.0 (the_reads e o x) 0 (last_use users x) (omega arith) read_used in
        omega arith

    -- it ends after the last cycle of its live range
    pub ends_is : (let d = definer_at s in ends (temp_by (region_places r) s.temp d) x ≡ (spot_range e o x s).last + 1)
    ends_is =
        let from : starts (temp_by (region_places r) s.temp (definer_at s)) x ≡ (spot_range e o x s).from = definer_times e o x given s in
        let last = last_is in
        omega arith
