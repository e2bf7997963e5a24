-- Boots from flashes that are treated alike: they do the same operations, before each of which the flashes are alike again, and whatever an
-- operation of the one leaves torn, some loss in the same operation of the other leaves.
use Rattle.std.proofs.{Common.{ap, arith, inl, inr, subst, sym, ◌∙◌}, lemmas.Bool.{cases_lt}, lemmas.List.{get_or-replicate, get_or_past}, Math.Nat.{mul-le-mul_right}}
use Rattle.std.specs.Prelude.{Bool, List, Some, [], flat_map, refl, replicate, slice_get, true, ℕ, ◌*◌, ◌++◌, ◌+◌, ◌-◌, ◌<◌, ◌≡◌, ◌≤◌, ◌⊎◌}
use Rattle.mc_boot.proofs.{Courses.{drop_at_place}, Keeps.{Erased, erased_still, place_beyond_data}, Meets.{same_bytes, same_content}}
use Rattle.mc_boot.proofs.{Transfers.{fits_at, there_is}}
use Rattle.mc_boot.specs.{Torn.{IsTorn}, declared.transfer.Transfer.{Transfer}}
use Rattle.mc_boot.specs.Plan.{closing, first_left, from_transfer, steps, trailer_erase, trailer_erases, transfers}
use Rattle.mc_flash.specs.{Flash.{Content, IsSized, apply, byte, bytes_of, sectors_of, size_of}, Geometry.{Geometry, IsLayout, greatest_sectors, in_pieces, trailer_sectors}, declared.op.Op.{Op}}
use Rattle.mc_flash.specs.{declared.op.Op.TheVariants.{Erase}, declared.op.Slot.{Slot}, declared.op.Slot.TheVariants.{Primary, Secondary}}
use Rattle.mc_flash.specs.facts.{Changes.{Changed, changed_sized, erase_changes, sized_is}, Layouts.{data_end, sector_inside, trailer_leaves_one}}
use Rattle.mc_tear.proofs.{AlikeErases.{second_erased}, AlikeFlashes.{Alike, BlankSecond, Held, Tears, held, near, tears_open}, AlikeTransfers.{from_pairs, held_pairs}}
use Rattle.mc_tear.proofs.{Lists.{transfers_pieces}, Midway.{IsUnderWay, Midway, resumed}}
use Rattle.mc_tear.proofs.{Near.{Near, in_sector, nowhere}, NearTorn.{GoesOn, Leaves, before, behind, within}}
use Rattle.mc_tear.proofs.{Pairs.{Pairs}}
use Rattle.mc_tear.proofs.{Whole.{torn_is, whole_is}}
use Rattle.mc_tear.specs.{Cases.{tearing_of}, declared.torn.Erasing.{Erasing}}
use Rattle.mc_trailer.specs.{Tables.{is_good, is_resumed}, Trailer.{entry_place, highest_entry, place, trailer_of}, declared.tables.Rules.{Rules}}
use Rattle.mc_trailer.specs.{declared.trailer.Trailer.{Trailer}}
use Rattle.mc_trailer.specs.facts.{Entries.{same_entry}, Fields.{reads_absent, same_trailer}, Places.{field_ends}, Tables.{asks_none}}
use Rattle.mc_trailer.specs.declared.places.Field.TheVariants as field
use Rattle.mc_tear.specs.declared.torn.Erasing.TheVariants as erasings

-- ---- a swap that is under way

module _ (g : Geometry) (ok : IsLayout g) (n : ℕ) (p : Trailer) (k : ℕ) where
  -- It is by the primary alone.
  pub held_kept : (s u : Content) → IsSized g s → IsSized g u → ((i : ℕ) → byte u Primary i ≡ byte s Primary i) → Held g n p k s → Held g n p k u
  held_kept s u sized_s sized_u each is = record {
    primary = same_trailer g s u Primary ok sized_s sized_u (λ f i inside. each (place g Primary f + i)) ∙ is.primary;
    left = ap (first_left g n) highest ∙ is.left;
    free = λ d from below. same_entry g s u d ok sized_s sized_u below (λ i short. each (entry_place g d + i)) ∙ is.free d from below;
  }
    where
      bytes : u.primary ≡ s.primary
      bytes = same_bytes s u Primary (sized_u.primary ∙ sym sized_s.primary) each

      highest : highest_entry g u ≡ highest_entry g s
      highest = ap (λ (xs : List ℕ). highest_entry g (record { primary = xs; secondary = [] })) bytes

  -- Where the secondary's trailer is 0xff, the next boot goes on with it.
  pub blank_midway : (r : Rules) (s : Content) → IsSized g s → BlankSecond g s → Held g n p k s → Midway r g n p k s
  blank_midway r s sized blank is = record {
    sized = sized;
    primary = is.primary;
    other = asks_none r.profile p (trailer_of g s Secondary) (ap is_good (reads_absent g s Secondary ok sized (λ i short inside.
        blank (place g Secondary field.Magic + i) (let high = place_beyond_data g Secondary field.Magic ok in omega (arith, high))
        (let end = field_ends g Secondary field.Magic ok in omega (arith, end, inside))
        ∙ sym (get_or-replicate 16 i 255 0 inside))));
    left = is.left;
    free = is.free;
  }

module _ (e : Erasing) (r : Rules) (g : Geometry) (ok : IsLayout g) where
  abbrev T : Content → Content → Op → List Op → Type 0
  T = Tears e r g

  abbrev N : Content → Content → Type 0
  N = Near g nowhere

  abbrev l : Geometry
  l = in_pieces r.grain g

  open_ : (s t : Content) (op : Op) (ops more : List Op) → T s t op ops → T s t op (ops ++ more)
  open_ = tears_open e r g

  -- An erase of the secondary leaves the primary.
  spares_first : (i : ℕ) (s u : Content) → IsSized g s → i < trailer_sectors g → apply g (trailer_erase g Secondary i) s ≡ Some u → (j : ℕ) → byte u Primary j ≡ byte s Primary j
  spares_first i s u sized below made j =
      (whole_is g ok s sized (trailer_erase g Secondary i) u (let leaves = trailer_leaves_one g Secondary ok in omega (arith, below, leaves)) made).other Primary j (λ no_. absurd cc)

  sized_on : (i : ℕ) (s u : Content) → IsSized g s → i < trailer_sectors g → apply g (trailer_erase g Secondary i) s ≡ Some u → IsSized g u
  sized_on i s u sized below made =
      changed_sized g s u Secondary ((sectors_of g Secondary - 1 - i) * g.sector) (replicate g.sector 255)
      (whole_is g ok s sized (trailer_erase g Secondary i) u (let leaves = trailer_leaves_one g Secondary ok in omega (arith, below, leaves)) made) sized

  module _ (n : ℕ) (at_most : n ≤ greatest_sectors g) (p : Trailer) (way : IsUnderWay g n p) where
    some_left : 0 < 3 * n
    some_left = let some = way.some in omega (arith, some)

    -- The transfers begin with an erase, which is done.
    goes_first : (k : ℕ) (x : Transfer) (b : Bool) → slice_get (transfers g n) k ≡ Some x → (u : Content) → IsSized g u → GoesOn g (from_transfer l n k b) u
    goes_first k x b there u sized = (
      Erase x.to x.to_sector,
      _,
      ap (λ (ts : List Transfer). flat_map (steps l) ts ++ closing l b) (drop_at_place (transfers l n) k x (ap (λ (ts : List Transfer). slice_get ts k) (transfers_pieces r.grain g n) ∙ there)),
      made.0,
      made.1,
    )
      where
        made : (whole : Content) × (apply g (Erase x.to x.to_sector) u ≡ Some whole) × Changed u whole x.to (x.to_sector * g.sector) (replicate g.sector 255)
        made = erase_changes g u x.to x.to_sector
            (let inside = sector_inside g x.to x.to_sector (fits_at g n k x ok at_most there).inside.to in omega (arith, inside, sized_is g u x.to sized))

    -- The secondary's trailer is erased before them.
    pub erased_pairs : (b : Bool) (s t : Content) → N s t → Held g n p 0 s → Pairs g T N N (trailer_erases g Secondary ++ from_transfer l n 0 b) s t
    erased_pairs b s t is so =
        second_erased e r g ok nowhere (λ i m s t. Held g n p 0 s) (λ i m s t is more. near is) (λ i m s t u v ops more leaves torn_v is. near is)
        (λ i m s t u w is more below at_u at_w. held_kept g ok n p 0 s u is.outer.sized_u (sized_on i s u is.outer.sized_u below at_u) (spares_first i s u is.outer.sized_u below at_u) more)
        (from_transfer l n 0 b) N
        (λ i u w is blank_u blank_w more.
        let there = there_is g n 0 some_left in (
          goes_first 0 there.0 b there.1 u is.outer.sized_u,
          from_pairs e r g ok n at_most p way 0 b u w (omega arith)
              (record { near_ = is; midway = blank_midway g ok n p 0 r u is.outer.sized_u blank_u more; blank = λ _. (blank_u, blank_w) }),
        ))
        s t is so

    -- The same where the first sector of them differs.
    module _ (x : Transfer) (there : slice_get (transfers g n) 0 ≡ Some x) where
      abbrev H : Slot → ℕ → Type 0
      H = in_sector g x.to x.to_sector

      abbrev More : Content → Content → Type 0
      More s t = Held g n p 0 s × (e ≡ erasings.Gentle → BlankSecond g s × BlankSecond g t)

      goes_or : (u : Content) → IsSized g u → Held g n p 0 u → (e ≡ erasings.Gentle → BlankSecond g u) → (is_resumed r.profile g u ≡ true) ⊎ ((e ≡ erasings.Rough) × ◌≡◌ {A = ℕ} 0 0)
      goes_or u sized so blank = by e refl
        where
          by : (a : Erasing) → e ≡ a → (is_resumed r.profile g u ≡ true) ⊎ ((e ≡ erasings.Rough) × ◌≡◌ {A = ℕ} 0 0)
          by erasings.Gentle same = inl (resumed r g ok n at_most p way 0 u (blank_midway g ok n p 0 r u sized (blank same) so))
          by erasings.Rough same = inr (same, refl)

      alike_held : (s t : Content) → Near g H s t → More s t → Alike e r g s t
      alike_held s t is more = held n 0 p x at_most way more.0 there is (goes_or s is.outer.sized_u more.0 (λ gentle. (more.1 gentle).0)) (λ _ gentle. more.1 gentle)

      still_blank : (i : ℕ) (s u : Content) → IsSized g s → i < trailer_sectors g → apply g (trailer_erase g Secondary i) s ≡ Some u → BlankSecond g s → BlankSecond g u
      still_blank i s u sized below made blank j high short =
          erased_still g Secondary i s u j (whole_is g ok s sized (trailer_erase g Secondary i) u (let leaves = trailer_leaves_one g Secondary ok in omega (arith, below, leaves)) made)
          (blank j high short)

      more_on : (i : ℕ) (s t u w : Content) → Near g H s t → More s t → i < trailer_sectors g → apply g (trailer_erase g Secondary i) s ≡ Some u
          → apply g (trailer_erase g Secondary i) t ≡ Some w → More u w
      more_on i s t u w is more below at_u at_w = (
        held_kept g ok n p 0 s u is.outer.sized_u (sized_on i s u is.outer.sized_u below at_u) (spares_first i s u is.outer.sized_u below at_u) more.0,
        λ gentle. let both = more.1 gentle in (still_blank i s u is.outer.sized_u below at_u both.0, still_blank i t w is.outer.sized_v below at_w both.1),
      )

      -- Of a sector that is 0xff a gentle erase is never torn.
      never_torn : (i : ℕ) (t v : Content) → IsSized g t → i < trailer_sectors g → e ≡ erasings.Gentle → BlankSecond g t → IsTorn (tearing_of e) g (trailer_erase g Secondary i) t v → ⊥
      never_torn i t v sized below gentle blank torn_v = never (subst (λ a. IsTorn (tearing_of a) g (trailer_erase g Secondary i) t v) gentle torn_v)
        where
          never : IsTorn (tearing_of erasings.Gentle) g (trailer_erase g Secondary i) t v → ⊥
          never torn_g = torn_g.unfinished (same_content torn_g.whole v (each Primary) (each Secondary))
            where
              ch : Erased g Secondary i t torn_g.whole
              ch = whole_is g ok t sized (trailer_erase g Secondary i) torn_g.whole (let leaves = trailer_leaves_one g Secondary ok in omega (arith, below, leaves)) torn_g.makes

              same : (o : Slot) (j : ℕ) → byte torn_g.whole o j ≡ byte t o j
              same Primary j = ch.other Primary j (λ no_. absurd cc)
              same Secondary j = elim (cases_lt j (data_end g Secondary)) [
                | inl low ↦ ch.before j (let rows : data_end g Secondary ≤ (sectors_of g Secondary - 1 - i) * g.sector = mul-le-mul_right g.sector
                    (let leaves = trailer_leaves_one g Secondary ok in omega (arith, below, leaves)) in omega (arith, low, rows))
                | inr high ↦ elim (cases_lt j (size_of g Secondary)) [
                  | inl short ↦ let was = blank j high short in erased_still g Secondary i t torn_g.whole j ch was ∙ sym was
                  | inr past ↦
                      get_or_past (bytes_of torn_g.whole Secondary) j 0 (omega (arith, past, ch.sizes Secondary, sized_is g t Secondary sized))
                      ∙ sym (get_or_past (bytes_of t Secondary) j 0 (omega (arith, past, sized_is g t Secondary sized)))
                ]
              ]

              each : (o : Slot) → bytes_of v o ≡ bytes_of torn_g.whole o
              each o = same_bytes torn_g.whole v o (torn_g.sizes o ∙ sym (ch.sizes o)) (λ j. torn_g.kept o j (same o j) ∙ sym (same o j))

      -- What a loss leaves of the first has its primary.
      leaves_first : (i : ℕ) (ops : List Op) (s u : Content) → IsSized g s → i < trailer_sectors g → Leaves e g (trailer_erase g Secondary i) ops s u → (j : ℕ) → byte u Primary j ≡ byte s Primary j
      leaves_first i ops s u sized below (before same) j = ap (λ (y : Content). byte y Primary j) same
      leaves_first i ops s u sized below (behind made goes) j = spares_first i s u sized below made j
      leaves_first i ops s u sized below (within reading case made) j =
          ap (λ (y : Content). byte y Primary j) made
          ∙ (torn_is g ok s sized (trailer_erase g Secondary i) (let leaves = trailer_leaves_one g Secondary ok in omega (arith, below, leaves)) e reading).other Primary j (λ no_. absurd cc)

      torn_on : (i : ℕ) (s t u v : Content) (ops : List Op) → i < trailer_sectors g → IsSized g s → IsSized g t → More s t → Leaves e g (trailer_erase g Secondary i) ops s u
          → IsTorn (tearing_of e) g (trailer_erase g Secondary i) t v → Near g H u v → Alike e r g u v
      torn_on i s t u v ops below sized_s sized_t more leaves torn_v is = alike_held u v is (
        held_kept g ok n p 0 s u sized_s is.outer.sized_u (leaves_first i ops s u sized_s below leaves) more.0,
        λ gentle. absurd (never_torn i t v sized_t below gentle (more.1 gentle).1 torn_v),
      )

      pub held_erased_pairs : (b : Bool) (s t : Content) → Near g H s t → More s t → Pairs g T N N (trailer_erases g Secondary ++ from_transfer l n 0 b) s t
      held_erased_pairs b s t is more =
          second_erased e r g ok H (λ i m s t. More s t × IsSized g s × IsSized g t × (i + m ≡ trailer_sectors g)) (λ i m s t is all. alike_held s t is all.0)
          (λ i m s t u v ops all leaves torn_v is. torn_on i s t u v ops (omega (arith, all.3)) all.1 all.2 all.0 leaves torn_v is)
          (λ i m s t u w is all below at_u at_w. (more_on i s t u w is all.0 below at_u at_w, sized_on i s u all.1 below at_u, sized_on i t w all.2 below at_w, omega (arith, all.3)))
          (from_transfer l n 0 b) N
          (λ i u w is blank_u blank_w all. (
            goes_first 0 x b there u is.outer.sized_u,
            held_pairs e r g ok n at_most p way 0 x b u w there some_left is (blank_midway g ok n p 0 r u is.outer.sized_u blank_u all.0.0) (λ _. (blank_u, blank_w)) (alike_held u w is all.0),
          ))
          s t is (more, is.outer.sized_u, is.outer.sized_v, omega arith)
