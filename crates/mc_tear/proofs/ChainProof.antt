-- Losses of power one after another: whatever they leave ends as after cuts and cases.
use Rattle.std.specs.Prelude.{◌&&◌}
use Rattle.mc_boot.specs.declared.image.Images.{Images}
use Rattle.mc_trailer.specs.declared.tables.SwapType.{SwapType}
use Rattle.mc_boot.proofs.Images.{id_parts, size_valid}
use Rattle.mc_image.specs.Valid.{Identity, id_of}
use Rattle.mc_boot.specs.Plan.{image_size, moved_up, number_of, swap_list}
use Rattle.std.proofs.lemmas.Grind.{div_ceil_times}
use Rattle.mc_tear.proofs.{AlikeFlashes.{reopened}, AlikePlans.{reopened_pairs}, Behind.{EndsBefore, HoldsAll, KnownByBytes, Rest, behind_images, next_sector, rest_pair}, Near.{images_plans}, Pairs.{pairs_ends}}
use Rattle.mc_tear.specs.Laws.{IsWhole}
use Rattle.mc_trailer.specs.Tables.{Asks as IsAsked, is_set, reverts_at, table_of}
use Rattle.mc_trailer.specs.{facts.Tables.{asked as asked_rows}}
use Rattle.mc_trailer.specs.declared.trailer.Magic.TheVariants as magics
use Rattle.std.proofs.{Common.{ap, arith, inl, inr, subst, sym, ◌∙◌}, lemmas.Option.{slice_get_within}}
use Rattle.std.specs.Int.{div_ceil}
use Rattle.std.specs.Prelude.{Bool, List, None, Option, Some, [], false, is_none, length, option_and_then, option_map, position, refl, slice_get, suc, take, true, zero, ℕ, ◌*◌, ◌++◌, ◌+◌, ◌<◌, ◌==◌, ◌∷◌, ◌≡◌, ◌≤◌, ◌⊎◌}
use Rattle.mc_boot.proofs.Phases.{starting}
use Rattle.mc_boot.specs.{Life.{is_swap}, Outcome.{applied, at, happening, left_by, ops_of}, Torn.{Loses}, declared.transfer.Transfer.{Transfer}, facts.Lengths.{length-transfers}}
use Rattle.mc_boot.specs.Plan.{Plan, PowerOn, first_left, from_transfer, images_of, plan, power_on, resumed_list, trailer_erases, transfers}
use Rattle.mc_flash.specs.{Flash.{Content, IsSized, apply}, Geometry.{Geometry, IsLayout, greatest_sectors, in_pieces}, declared.op.Op.{Op}, declared.op.Slot.TheVariants.{Primary, Secondary}}
use Rattle.mc_tear.proofs.{Alike.{RunAlike, end_alike, left_u}, AlikeBoots.{erased_pairs, held_erased_pairs}, AlikeFlashes.{Alike, BlankSecond, Held, Tears, begun, held, near}, AlikePlans.{revert_pairs, swap_pairs}, AlikeTransfers.{from_pairs, held_pairs}}
use Rattle.mc_tear.proofs.{Boots.{erases_pieces}, EndsProof.{free_above, parts}, Midway.{IsUnderWay, Midway, list_is}, Near.{Near, Outer, in_sector, near_plans, near_self, nowhere, resumed_alike, resumed_plans}}
use Rattle.mc_tear.proofs.{NearTorn.{Leaves, before, behind, within}, Opening.{Asks, CanBegin, IsClear, asked_kind, not_resumed, plan_of, same_back, same_both}, Pairs.{Pairs, Reached, reached, run_of}, PlanCases.{plan_case}, Same.{SameAt}, Second.{IsData, same_images}}
use Rattle.mc_tear.specs.{Cases.{tearing_of}, Laws.{AsksApart, AsksSafely, CasesLeave, EachChainEnds, EndAlike, ImagesApart, LeavesCase, TearsSafely, says_under_way}, declared.reading.Reading.{Reading}, declared.torn.Erasing.{Erasing}}
use Rattle.mc_trailer.specs.{Tables.{asks_another, is_good, is_resumed, is_unset}, Trailer.{highest_entry, trailer_of}, declared.tables.Rules.{Rules}}
use Rattle.mc_trailer.specs.{declared.trailer.Flag.{Flag}, declared.trailer.Trailer.{Trailer}}
use Rattle.mc_trailer.specs.declared.tables.SwapType.TheVariants as kinds
use Rattle.mc_trailer.specs.declared.trailer.Flag.TheVariants as flags
use Rattle.mc_tear.specs.declared.torn.Erasing.TheVariants as erasings

-- Where an entry is written, a transfer was made.
later : (g : Geometry) (n x k : ℕ) → first_left g n (Some x) ≡ Some k → k ≡ 0 → ⊥
later g n x k left none = by (position (λ t. t.entry == x) (transfers g n)) left
  where
    by : (o : Option ℕ) → option_map (λ i. i + 1) o ≡ Some k → ⊥
    by None is = absurd cc
    by (Some i) is = let same : i + 1 ≡ k = cc in omega (arith, same, none)

first_is : (g : Geometry) (n : ℕ) (x : Transfer) → 0 < n → slice_get (transfers g n) 0 ≡ Some x → x ≡ moved_up n 0
first_is g zero x some there = absurd (omega (arith, some))
first_is g (suc n) x some there = cc

last_part : (a b c d : Bool) → (a && b && c && d) ≡ true → d ≡ true
last_part true true true d is = is
last_part true true false d is = absurd cc
last_part true false c d is = absurd cc
last_part false b c d is = absurd cc

not_both : (f : Flag) → is_set f ≡ true → is_unset f ≡ true → ⊥
not_both flags.Set set unset = absurd cc
not_both flags.Unset set unset = absurd cc
not_both flags.Bad set unset = absurd cc

primary_size : (s : Content) (i : Identity) → id_of s.primary ≡ Some i → i.size ≤ (images_of s).size
unfolding images_of
primary_size s i is =
    let parts = id_parts s.primary i is in
    let size : image_size s.primary ≡ i.size = sym (size_valid s.primary parts.0) ∙ ap (λ (x : Identity). x.size) parts.1 in
    omega (arith, size)

module _ (law : KnownByBytes) (e : Erasing) (r : Rules) (g : Geometry) (ok : IsLayout g) where
  abbrev T : Content → Content → Op → List Op → Type 0
  T = Tears e r g

  abbrev N : Content → Content → Type 0
  N = Near g nowhere

  abbrev l : Geometry
  l = in_pieces r.grain g

  abbrev Boots : Content → Content → Type 0
  Boots u v = Pairs g T (Rest g) (Rest g) (plan (power_on r g u)).list u v

  rests : (ops : List Op) (s t : Content) → Pairs g T N N ops s t → Pairs g T (Rest g) (Rest g) ops s t
  rests = pairs_ends g T N N (Rest g) (Rest g) (λ s t is. inl is) (λ s t is. inl is)

  -- ---- where nothing differs that is read

  module _ (s t : Content) (is : N s t) where
    sized : IsSized g s
    sized = is.outer.sized_u

    goes_on : (resumed : is_resumed r.profile g s ≡ true) (n first : ℕ) (b : Bool) → div_ceil (trailer_of g s Primary).swap_size g.sector ≡ n
        → is_swap (trailer_of g s Primary).swap_info ≡ true → 0 < n
        → n ≤ greatest_sectors g → first_left g n (highest_entry g s) ≡ Some first → Pairs g T N N (resumed_list l n first (is_none (highest_entry g s)) b) s t
    goes_on resumed n first b count info some most left = by (highest_entry g s) refl
      where
        w : (is_good (trailer_of g s Primary).magic ≡ true) × (is_unset (trailer_of g s Primary).copy_done ≡ true)
            × (asks_another r.profile (trailer_of g s Primary) (trailer_of g s Secondary) ≡ false)
        w = parts e r g ok s sized resumed

        way : IsUnderWay g n (trailer_of g s Primary)
        way = record { magic = w.0; copy_done = w.1; info = info; count = count; some = some }

        by : (o : Option ℕ) → highest_entry g s ≡ o → Pairs g T N N (resumed_list l n first (is_none o) b) s t
        by None none =
            let at_first : 0 ≡ first = (let both : Some 0 ≡ Some first = sym (ap (first_left g n) none) ∙ left in cc) in
            let free = free_above e r g ok s sized n most first left in
            subst (λ k. Pairs g T N N (trailer_erases l Secondary ++ from_transfer l n k b) s t) at_first (rw (erases_pieces r.grain g Secondary)
            (erased_pairs e r g ok n most (trailer_of g s Primary) way b s t is
            (subst (λ k. Held g n (trailer_of g s Primary) k s) (sym at_first) (record { primary = refl; left = left; free = free.1 }))))
        by (Some x) highest =
            let free = free_above e r g ok s sized n most first left in
            from_pairs e r g ok n most (trailer_of g s Primary) way first b s t free.0 (record {
              near_ = is;
              midway = record { sized = sized; primary = refl; other = w.2; left = left; free = free.1 };
              blank = λ none. absurd (later g n x first (sym (ap (first_left g n) highest) ∙ left) none);
            })

    pub near_boots : Boots s t
    near_boots = rests (plan (power_on r g s)).list s t
        (plan_case r g s (λ ops. Pairs g T N N ops s t) is goes_on (λ reverts begin. revert_pairs e r g ok s begin sized t is)
        (λ kind flag swaps clear begin magic image_ok.
        swap_pairs e r g ok s begin kind swaps flag clear s t (record { data_ = record { sized_u = sized; sized_v = sized; same = λ o i low. refl }; magic = magic; image_ok = image_ok }) is.outer))

  -- ---- any flashes that are treated alike

  -- They have one plan, and go through it together.
  pub record Ready (u v : Content) : Type 0 where
    pub plans : plan (power_on r g v) ≡ plan (power_on r g u)
    pub boots : Boots u v

  pub ready_self : (s : Content) → IsSized g s → Ready s s
  ready_self s sized = record { plans = refl; boots = near_boots s s (near_self g s sized) }

  -- A swap is under way, its first sector differs, and the boot does not go on with it, since the secondary asks for one.
  module _ (u v : Content) (n : ℕ) (p : Trailer) (x : Transfer) (way : IsUnderWay g n p) (so : Held g n p 0 u) (there : slice_get (transfers g n) 0 ≡ Some x)
      (is : Near g (in_sector g x.to x.to_sector) u v) (rough : e ≡ erasings.Rough) (other : is_resumed r.profile g u ≡ false) (whole : IsWhole g v) where
    near_n : Near g (next_sector g n) u v
    near_n = subst (λ k. Near g (in_sector g Primary k) u v) (omega arith) (subst (λ y. Near g (in_sector g y.to y.to_sector) u v) (first_is g n x way.some there) is)

    count : div_ceil (images_of v).size g.sector ≡ n
    count = whole.count ∙ ap (λ (q : Trailer). div_ceil q.swap_size g.sector) (is.primary ∙ so.primary) ∙ way.count

    ends_n : EndsBefore g n v
    ends_n = record {
      sized = is.outer.sized_v;
      inside = whole.images;
      low = (let size = primary_size v (whole.images Primary).1.0 (whole.images Primary).1.1 in
          let covered = (div_ceil_times (images_of v).size g.sector (let least = ok.least_sector in omega (arith, least))).0 in
          let rows : div_ceil (images_of v).size g.sector * g.sector ≡ n * g.sector = ap (λ (k : ℕ). k * g.sector) count in
          omega (arith, size, covered, rows));
    }

    of_u : HoldsAll g n v u
    of_u o i low out = sym (near_n.outer.data_ o i low out)

    of_v : HoldsAll g n v v
    of_v o i low out = refl

    images_u : images_of u ≡ images_of v
    images_u = behind_images law g ok n v ends_n u is.outer.sized_u of_u

    count_u : n ≡ div_ceil (images_of u).size g.sector
    count_u = sym (ap (λ (y : Images). div_ceil y.size g.sector) images_u ∙ count)

    anew : (kind : SwapType) (flag : Flag) → is_swap (number_of kind) ≡ true → IsClear flag → CanBegin g u → (trailer_of g u Secondary).magic ≡ magics.Good → (trailer_of g u Secondary).image_ok ≡ flag
        → Pairs g T (Rest g) (Rest g) (swap_list r.grain l kind (images_of u).size (div_ceil (images_of u).size g.sector)) u v
    anew kind flag swaps clear begin magic image_ok =
        reopened_pairs e r g ok u begin kind swaps flag clear v (subst (λ k. EndsBefore g k v) count_u ends_n) images_u rough u v
        (record { data_ = record { sized_u = is.outer.sized_u; sized_v = is.outer.sized_u; same = λ o i low. refl }; magic = magic; image_ok = image_ok })
        (subst (λ k. Outer g (next_sector g k) u v) count_u near_n.outer)
        (subst (λ k. HoldsAll g k v u) count_u of_u, subst (λ k. HoldsAll g k v v) count_u of_v)

    not_reverted : table_of r.profile g u ≡ kinds.Revert → ⊥
    not_reverted reverts =
        let rows : IsAsked r.profile (trailer_of g u Primary) (trailer_of g u Secondary) kinds.Revert =
        subst (IsAsked r.profile (trailer_of g u Primary) (trailer_of g u Secondary)) reverts (asked_rows r.profile (trailer_of g u Primary) (trailer_of g u Secondary)) in
        let done = last_part (is_good (trailer_of g u Primary).magic) (reverts_at r.profile (trailer_of g u Secondary).magic) (is_unset (trailer_of g u Primary).image_ok)
        (is_set (trailer_of g u Primary).copy_done) rows in
        not_both p.copy_done (subst (λ (q : Trailer). is_set q.copy_done ≡ true) so.primary done) way.copy_done

    pub anew_ready : Ready u v
    anew_ready = record {
      plans = images_plans g ok (next_sector g n) u v near_n r (sym images_u);
      boots = plan_case r g u (λ ops. Pairs g T (Rest g) (Rest g) ops u v) (inr (record { n = n; ref = v; ends = ends_n; near_ = near_n; of_s = of_u; of_t = of_v }))
          (λ resumed. absurd (let no_ : false ≡ true = sym other ∙ resumed in cc)) (λ reverts begin. absurd (not_reverted reverts)) anew;
    }

  module _ (u v : Content) (n k : ℕ) (p : Trailer) (x : Transfer) (most : n ≤ greatest_sectors g) (way : IsUnderWay g n p) (so : Held g n p k u) (there : slice_get (transfers g n) k ≡ Some x)
      (is : Near g (in_sector g x.to x.to_sector) u v) (goes : (is_resumed r.profile g u ≡ true) ⊎ ((e ≡ erasings.Rough) × (k ≡ 0)))
      (blank : k ≡ 0 → e ≡ erasings.Gentle → BlankSecond g u × BlankSecond g v) where
    -- It goes on.
    module _ (resumed_u : is_resumed r.profile g u ≡ true) where
      midway : Midway r g n p k u
      midway = record {
        sized = is.outer.sized_u;
        primary = so.primary;
        other = subst (λ q. asks_another r.profile q (trailer_of g u Secondary) ≡ false) so.primary (parts e r g ok u is.outer.sized_u resumed_u).2;
        left = so.left;
        free = so.free;
      }

      list : (b : Bool) × ((plan (power_on r g u)).list ≡ resumed_list l n k (is_none (highest_entry g u)) b)
      list = list_is r g ok n most p way k u midway

      below : k < 3 * n
      below = let short = slice_get_within (transfers g n) k x there in omega (arith, short, length-transfers g n)

      by_entry : (o : Option ℕ) → highest_entry g u ≡ o → Pairs g T N N (resumed_list l n k (is_none o) list.0) u v
      by_entry None none =
          let at_first : 0 ≡ k = (let both : Some 0 ≡ Some k = sym (ap (first_left g n) none) ∙ so.left in cc) in
          subst (λ j. Pairs g T N N (trailer_erases l Secondary ++ from_transfer l n j list.0) u v) at_first (rw (erases_pieces r.grain g Secondary)
          (held_erased_pairs e r g ok n most p way x (subst (λ j. slice_get (transfers g n) j ≡ Some x) (sym at_first) there) list.0 u v is
          (subst (λ j. Held g n p j u) (sym at_first) so, λ gentle. blank (sym at_first) gentle)))
      by_entry (Some y) highest =
          held_pairs e r g ok n most p way k x list.0 u v there below is midway (λ none. absurd (later g n y k (sym (ap (first_left g n) highest) ∙ so.left) none))
          (held n k p x most way so there is (inl resumed_u) blank)

      on_ready : Ready u v
      on_ready = record {
        plans = resumed_plans g ok (in_sector g x.to x.to_sector) u v is r (resumed_alike g ok (in_sector g x.to x.to_sector) u v is r ∙ resumed_u);
        boots = subst (λ ops. Pairs g T (Rest g) (Rest g) ops u v) (sym list.1) (rests (resumed_list l n k (is_none (highest_entry g u)) list.0) u v (by_entry (highest_entry g u) refl));
      }

    pub held_ready : AsksSafely e r g v → Ready u v
    held_ready safe = by (is_resumed r.profile g u) refl safe goes
      where
        same_resumed : is_resumed r.profile g v ≡ is_resumed r.profile g u
        same_resumed = resumed_alike g ok (in_sector g x.to x.to_sector) u v is r

        under : says_under_way (trailer_of g v Primary) ≡ true
        under =
            let magic = way.magic in
            let copy_done = way.copy_done in
            let of_p : says_under_way p ≡ true = rw (magic, copy_done) refl in
            ap says_under_way (is.primary ∙ so.primary) ∙ of_p

        by : (b : Bool) → is_resumed r.profile g u ≡ b → AsksSafely e r g v → (is_resumed r.profile g u ≡ true) ⊎ ((e ≡ erasings.Rough) × (k ≡ 0)) → Ready u v
        by true resumed_u safe goes = on_ready resumed_u
        by false other safe (inl resumed_u) = absurd (let no_ : false ≡ true = sym other ∙ resumed_u in cc)
        by false other (inl resumed_v) (inr at_first) = absurd (let no_ : false ≡ true = sym other ∙ sym same_resumed ∙ resumed_v in cc)
        by false other (inr apart) (inr at_first) =
            anew_ready u v n p x way (subst (λ j. Held g n p j u) at_first.1 so) (subst (λ j. slice_get (transfers g n) j ≡ Some x) at_first.1 there) is at_first.0 other (apart.1 at_first.0 under)

  begun_ready : (u v start : Content) (flag : Flag) → CanBegin g start → IsClear flag → Asks g start flag u → Outer g nowhere u v → AsksSafely e r g v → Ready u v
  begun_ready u v start flag begin clear asks outer safe = elim safe [
    | inl resumed_v ↦ absurd (not_resumed r g start begin e ok flag clear u asks v (outer.magic ∙ asks.magic) (outer.image_ok ∙ asks.image_ok) resumed_v)
    | inr apart ↦ record {
      plans = plan_v apart.0 ∙ sym (plan_u apart.0);
      boots = subst (λ ops. Pairs g T (Rest g) (Rest g) ops u v) (sym (ap (λ (q : Plan). q.list) (plan_u apart.0))) (rests _ u v (by flag clear asks));
    }
  ]
    where
      data_v : SameAt g (IsData g) v u
      data_v = record { sized_u = outer.sized_v; sized_v = outer.sized_u; same = λ o i low. sym (outer.data_ o i low (λ e. e)) }

      images_u : ImagesApart g v → images_of u ≡ images_of v
      images_u apart = same_images g v u data_v apart

      images_start : ImagesApart g v → images_of start ≡ images_of v
      images_start apart = same_images g v start (same_both g (IsData g) v u start data_v (same_back g (IsData g) start u asks.data_)) apart

      plan_u : ImagesApart g v → plan (power_on r g u) ≡ starting r.grain g (asked_kind flag) (images_of start).size (div_ceil (images_of start).size g.sector)
      plan_u apart = plan_of r g start begin flag clear u asks.magic asks.image_ok (images_u apart ∙ sym (images_start apart))

      plan_v : ImagesApart g v → plan (power_on r g v) ≡ starting r.grain g (asked_kind flag) (images_of start).size (div_ceil (images_of start).size g.sector)
      plan_v apart = plan_of r g start begin flag clear v (outer.magic ∙ asks.magic) (outer.image_ok ∙ asks.image_ok) (sym (images_start apart))

      by : (h : Flag) → IsClear h → Asks g start h u → Pairs g T N N (starting r.grain g (asked_kind h) (images_of start).size (div_ceil (images_of start).size g.sector)).list u v
      by flags.Set c a = swap_pairs e r g ok start begin kinds.Perm refl flags.Set c u v a outer
      by flags.Unset c a = swap_pairs e r g ok start begin kinds.Test refl flags.Unset c u v a outer
      by flags.Bad c a = absurd c

  reopened_ready : (u v start ref : Content) (flag : Flag) → CanBegin g start → IsClear flag → Asks g start flag u → Outer g (next_sector g (div_ceil (images_of start).size g.sector)) u v
      → EndsBefore g (div_ceil (images_of start).size g.sector) ref → HoldsAll g (div_ceil (images_of start).size g.sector) ref u → HoldsAll g (div_ceil (images_of start).size g.sector) ref v
      → images_of start ≡ images_of ref → e ≡ erasings.Rough → Ready u v
  reopened_ready u v start ref flag begin clear asks outer ends_r of_u of_v images rough = record {
    plans = plan_v ∙ sym plan_u;
    boots = subst (λ ops. Pairs g T (Rest g) (Rest g) ops u v) (sym (ap (λ (q : Plan). q.list) plan_u)) (by flag clear asks);
  }
    where
      images_of_u : images_of u ≡ images_of start
      images_of_u = behind_images law g ok (div_ceil (images_of start).size g.sector) ref ends_r u outer.sized_u of_u ∙ sym images

      images_of_v : images_of v ≡ images_of start
      images_of_v = behind_images law g ok (div_ceil (images_of start).size g.sector) ref ends_r v outer.sized_v of_v ∙ sym images

      plan_u : plan (power_on r g u) ≡ starting r.grain g (asked_kind flag) (images_of start).size (div_ceil (images_of start).size g.sector)
      plan_u = plan_of r g start begin flag clear u asks.magic asks.image_ok images_of_u

      plan_v : plan (power_on r g v) ≡ starting r.grain g (asked_kind flag) (images_of start).size (div_ceil (images_of start).size g.sector)
      plan_v = plan_of r g start begin flag clear v (outer.magic ∙ asks.magic) (outer.image_ok ∙ asks.image_ok) images_of_v

      by : (h : Flag) → IsClear h → Asks g start h u → Pairs g T (Rest g) (Rest g) (starting r.grain g (asked_kind h) (images_of start).size (div_ceil (images_of start).size g.sector)).list u v
      by flags.Set c a = reopened_pairs e r g ok start begin kinds.Perm refl flags.Set c ref ends_r images rough u v a outer (of_u, of_v)
      by flags.Unset c a = reopened_pairs e r g ok start begin kinds.Test refl flags.Unset c ref ends_r images rough u v a outer (of_u, of_v)
      by flags.Bad c a = absurd c

  pub ready : (u v : Content) → Alike e r g u v → AsksSafely e r g v → Ready u v
  ready u v (near is) safe = record { plans = near_plans g ok u v is r (apart safe); boots = near_boots u v is }
    where
      apart : AsksSafely e r g v → AsksApart r g v
      apart (inl resumed) = inl resumed
      apart (inr both) = inr both.0
  ready u v (held n k p x most way so there is goes blank) safe = held_ready u v n k p x most way so there is goes blank safe
  ready u v (begun start flag begin clear asks outer) safe = begun_ready u v start flag begin clear asks outer safe
  ready u v (reopened start ref flag begin clear asks outer ends_r of_u of_v images rough) safe = reopened_ready u v start ref flag begin clear asks outer ends_r of_u of_v images rough

  -- ---- one loss

  one_more : (ops : List Op) (n : ℕ) (op : Op) (s t u : Content) → slice_get ops n ≡ Some op → applied g (take n ops) s ≡ Some t → apply g op t ≡ Some u → applied g (take (suc n) ops) s ≡ Some u
  one_more [] n op s t u next come makes = absurd cc
  one_more (x ∷ ops) zero op s t u next come makes =
      let same : x ≡ op = cc in
      let start : s ≡ t = cc in
      ap (option_and_then (λ y. applied g [] y)) (ap (λ o. apply g o s) same ∙ ap (apply g op) start ∙ makes)
  one_more (x ∷ ops) (suc n) op s t u next come makes = by (apply g x s) refl come (λ y rest. one_more ops n op y t u next rest makes)
    where
      by : (o : Option Content) → apply g x s ≡ o → option_and_then (λ y. applied g (take n ops) y) o ≡ Some t
          → ((y : Content) → applied g (take n ops) y ≡ Some t → applied g (take (suc n) ops) y ≡ Some u)
          → option_and_then (λ y. applied g (take (suc n) ops) y) (apply g x s) ≡ Some u
      by None is none go_on = absurd cc
      by (Some y) is some go_on = ap (option_and_then (λ y. applied g (take (suc n) ops) y)) is ∙ go_on y some

  pub loss : (u v w : Content) (c : ℕ) → Ready u v → Loses (tearing_of e) (power_on r g v) c w → (n : ℕ) × (o : Option Reading) × (t : Content) × LeavesCase e (power_on r g u) n o t × Alike e r g t w
  unfolding ops_of at
  loss u v w c so loses = elim loses.leaves [
    | inl same ↦ (c, None, there.0, (early, it.at_s), subst (Alike e r g there.0) (sym same) it.holds.0)
    | inr torn_w ↦ by (it.holds.1 w torn_w)
  ]
    where
      L : List Op
      L = (plan (power_on r g u)).list

      list_v : happening g (plan (power_on r g v)).list v ≡ happening g L v
      list_v = ap (λ (q : Plan). happening g q.list v) so.plans

      there : (s : Content) × (more : List Op) × Reached g T (Rest g) c loses.op u v s loses.before L more
      there = reached g T (Rest g) (Rest g) L u v so.boots c loses.op loses.before (ap (λ (xs : List Op). slice_get xs c) (sym list_v) ∙ loses.next)
          (ap (λ (xs : List Op). applied g (take c xs) v) (sym list_v) ∙ loses.reached)

      it : Reached g T (Rest g) c loses.op u v there.0 loses.before L there.1
      it = there.2

      early : c < length (happening g L u)
      early = slice_get_within (happening g L u) c loses.op it.next_s

      by : (t : Content) × Leaves e g loses.op there.1 there.0 t × Alike e r g t w → (n : ℕ) × (o : Option Reading) × (t : Content) × LeavesCase e (power_on r g u) n o t × Alike e r g t w
      by (t, before same, alike) = (c, None, t, (early, it.at_s ∙ ap (λ (y : Content). Some y) (sym same)), alike)
      by (t, behind makes goes, alike) = (
        c + 1,
        None,
        t,
        (
          it.then_ t makes goes,
          (let next : suc c ≡ c + 1 = omega arith in
              subst (λ m. applied g (take m (happening g L u)) u ≡ Some t) next (one_more (happening g L u) c loses.op u there.0 t it.next_s it.at_s makes)),
        ),
        alike,
      )
      by (t, within reading case made, alike) = (c, Some reading, t, (loses.op, there.0, it.next_s, it.at_s, case, made), alike)

  -- ---- losses one after another

  ends : (u v z : Content) → Ready u v → left_by (power_on r g v) ≡ Some z → ImagesApart g z → EndAlike (power_on r g v) (power_on r g u)
  ends u v z so left apart = end_alike r g v u (λ a b. Rest g b a) so.plans run (rest_pair law r g ok run.end_v run.end_u run.ends at_end)
    where
      both : RunAlike g (Rest g) (plan (power_on r g u)).list u v
      both = run_of g T (Rest g) (plan (power_on r g u)).list u v so.boots

      run : RunAlike g (λ a b. Rest g b a) (plan (power_on r g v)).list v u
      run = subst (λ (q : Plan). RunAlike g (λ a b. Rest g b a) q.list v u) (sym so.plans)
          (record { happens = sym both.happens; end_u = both.end_v; end_v = both.end_u; left_u = both.left_v; left_v = both.left_u; ends = both.ends })

      at_end : ImagesApart g run.end_u
      at_end =
          let same : Some run.end_u ≡ Some z = sym (left_u r g v u (λ a b. Rest g b a) so.plans run) ∙ left in
          let one : run.end_u ≡ z = cc in rw one apart

  pub chain : (cuts : List ℕ) (u v w z : Content) → Ready u v → TearsSafely e (power_on r g v) cuts w → left_by (power_on r g w) ≡ Some z → ImagesApart g z
      → (losses : List (ℕ × Option Reading)) × (y : Content) × (length losses ≡ length cuts) × CasesLeave e (power_on r g u) losses y × EndAlike (power_on r g w) (power_on r g y)
  chain [] u v w z so tears left apart = (
    [],
    u,
    refl,
    refl,
    subst (λ a. EndAlike (power_on r g a) (power_on r g u)) (sym tears)
        (ends u v z so (ap (λ a. left_by (power_on r g a)) (sym tears) ∙ left) apart),
  )
  chain (c ∷ cuts) u v w z so tears left apart =
      let one = loss u v tears.0 c so tears.1 in
      let rest = chain cuts one.2 tears.0 w z (ready one.2 tears.0 one.4 tears.2) tears.3 left apart in
      ((one.0, one.1) ∷ rest.0, rest.1, ap (λ (n : ℕ). suc n) rest.2, (one.2, one.3, rest.3), rest.4)

pub each_chain_ends : KnownByBytes → EachChainEnds
each_chain_ends law e x cuts v z ok sized tears left apart =
    chain law e x.rules x.geometry ok cuts x.content x.content v z (ready_self law e x.rules x.geometry ok x.content sized) tears left apart
