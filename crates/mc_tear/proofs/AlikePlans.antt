-- Whole boots from flashes that are treated alike, by the cases of their plan.
use Rattle.std.proofs.{Common.{ap, append_assoc, arith, inl, inr, subst, sym, ◌∙◌}, lemmas.Bool.{cases_lt}, lemmas.List.{get_or_past, length-replicate}}
use Rattle.std.specs.{Int.{div_ceil}, List.{AllByRecursion, range_with_len}}
use Rattle.std.specs.Prelude.{List, Some, [], false, map, refl, replicate, slice_get, suc, true, zero, ℕ, ⊤, ◌*◌, ◌++◌, ◌+◌, ◌-◌, ◌<◌, ◌∷◌, ◌≡◌, ◌≤◌}
use Rattle.mc_boot.proofs.{Keeps.{Keeps, place_beyond_data}, Phases.{asked, flag_is, opened}}
use Rattle.mc_boot.proofs.{SwapsKeep.{Made, opening_keeps, preparation_keeps}, Transfers.{entries_none, entries_not}}
use Rattle.mc_boot.specs.{Life.{is_swap}, Torn.{IsTorn}}
use Rattle.mc_boot.specs.Plan.{first_left, from_transfer, images_of, moved_up, number_of, opening_writes, preparation_writes, resumed_list, swap_list, trailer_erase, trailer_erases, transfers}
use Rattle.mc_flash.specs.{Flash.{Content, IsSized, apply, byte, bytes_of, sectors_of, size_of}, Geometry.{Geometry, IsLayout, in_pieces, trailer_bytes, trailer_sectors}, declared.op.Op.{Op}}
use Rattle.mc_flash.specs.{declared.op.Op.TheVariants.{Copy, Erase, Program}, declared.op.Slot.{Slot}, declared.op.Slot.TheVariants.{Primary, Secondary}}
use Rattle.mc_flash.specs.facts.{Changes.{Changed, changed_sized, erase_changes, sized_is}, Layouts.{data_end, sector_inside, trailer_covered, trailer_leaves_one}}
use Rattle.mc_tear.proofs.{Alike.{Does}, AlikeBoots.{erased_pairs, held_erased_pairs}, AlikeErases.{second_erased}, AlikeFlashes.{Alike, BlankSecond, Held, Tears, begun, erase_torn, near, reopened, tears_open, write_torn}}
use Rattle.mc_tear.proofs.{Behind.{EndsBefore, HoldsAll, Rest, next_sector}, Midway.{IsUnderWay}}
use Rattle.mc_tear.proofs.{Boots.{erases_pieces}, EndsProof.{entry_blank, revert_whole, swap_whole, way_made}, Lists.{InTrailer, opening_in, preparation_in}}
use Rattle.mc_tear.proofs.{Near.{Near, Outer, in_sector, nowhere}, NearOps.{Agree, agree, either, near_on, outer_on, same_inside}, NearTorn.{GoesOn, Leaves, before}}
use Rattle.mc_tear.proofs.{Opening.{Asks, CanBegin, IsClear, asks_still, data_kept, same_both, torn_keeps, trailer_keeps}, Pairs.{BothDo, Pairs, Step, StepOn, all_do, both_do, pairs_append, pairs_ends, pairs_kept, pairs_made, pairs_range, pairs_through}}
use Rattle.mc_tear.proofs.{Same.{ChangedBoth, Changes, SameAt, erase_both, program_both}, Second.{IsData}}
use Rattle.mc_tear.specs.{Cases.{tearing_of}, declared.torn.Erasing.{Erasing}}
use Rattle.mc_trailer.specs.{Trailer.{place, trailer_of}, declared.tables.Rules.{Rules}}
use Rattle.mc_trailer.specs.{declared.tables.SwapType.{SwapType}, declared.trailer.Flag.{Flag}, declared.trailer.Trailer.{Trailer}}
use Rattle.mc_trailer.specs.facts.{Entries.{blank_entry}, Fields.{FieldsAre, reads_good, same_trailer, trailer_kept_elsewhere}, Places.{field_ends}}
use Rattle.mc_tear.specs.declared.torn.Erasing.TheVariants as erasings
use Rattle.mc_trailer.specs.declared.places.Field.TheVariants as field
use Rattle.mc_trailer.specs.declared.tables.SwapType.TheVariants as kinds
use Rattle.mc_trailer.specs.declared.trailer.Flag.TheVariants as flags

all_after : {A : Type 0} (P : A → Type 0) (xs ys : List A) → AllByRecursion P (xs ++ ys) → AllByRecursion P ys
all_after P [] ys all = all
all_after P (x ∷ xs) ys all = all_after P xs ys all.1

module _ (e : Erasing) (r : Rules) (g : Geometry) (ok : IsLayout g) where
  abbrev T : Content → Content → Op → List Op → Type 0
  T = Tears e r g

  abbrev N : Content → Content → Type 0
  N = Near g nowhere

  abbrev l : Geometry
  l = in_pieces r.grain g

  open_ : (s t : Content) (op : Op) (ops more : List Op) → T s t op ops → T s t op (ops ++ more)
  open_ = tears_open e r g

  -- The trailers of a slot hold the same bytes.
  abbrev SameTrailer : Slot → Content → Content → Type 0
  SameTrailer o s t = (p : ℕ) → data_end g o ≤ p → p < size_of g o → byte t o p ≡ byte s o p

  same_beyond : (o : Slot) (s t : Content) → IsSized g s → IsSized g t → SameTrailer o s t → (p : ℕ) → data_end g o ≤ p → byte t o p ≡ byte s o p
  same_beyond o s t sized_s sized_t same p high = elim (cases_lt p (size_of g o)) [
    | inl short ↦ same p high short
    | inr past ↦ get_or_past (bytes_of t o) p 0 (omega (arith, past, sized_is g t o sized_t)) ∙ sym (get_or_past (bytes_of s o) p 0 (omega (arith, past, sized_is g s o sized_s)))
  ]

  near_of : (H : Slot → ℕ → Type 0) (s t : Content) → Outer g H s t → SameTrailer Primary s t → Near g H s t
  near_of H s t outer same = record {
    outer = outer;
    primary = same_trailer g s t Primary ok outer.sized_u outer.sized_v (λ f i inside.
        same (place g Primary f + i) (let high = place_beyond_data g Primary f ok in omega (arith, high)) (let end = field_ends g Primary f ok in omega (arith, end, inside)));
    blank = λ i high. inl (same_beyond Primary s t outer.sized_u outer.sized_v same i high);
  }

  same_on : (o : Slot) (s t u w : Content) (slot : Slot) (at : ℕ) (new : List ℕ) → ChangedBoth s t u w slot at new → SameTrailer o s t → SameTrailer o u w
  same_on o s t u w slot at new ch same p high short = elim (either s t u w slot at new ch o p) [ inl is ↦ is | inr both ↦ both.1 ∙ same p high short ∙ sym both.0 ]

  -- ---- the primary's trailer is made anew

  -- The data may have a hole, and J holds of it.
  module _ (start : Content) (begin : CanBegin g start) (flag : Flag) (clear : IsClear flag) (H : Slot → ℕ → Type 0) (J Q : Content → Content → Type 0)
      (alike : (s t : Content) → Asks g start flag s → Outer g H s t → J s t → Alike e r g s t)
      (data_stays : (s t u w : Content) → ((o : Slot) (i : ℕ) → i < data_end g o → byte u o i ≡ byte s o i) → ((o : Slot) (i : ℕ) → i < data_end g o → byte w o i ≡ byte t o i) → J s t → J u w)
      (rest_of : (s t : Content) → Near g H s t → J s t → Q s t) where
    -- What is left torn of it is made anew, too.
    first_tears : (op : Op) → InTrailer g Primary op → (s t : Content) → Asks g start flag s → Outer g H s t → J s t → (ops : List Op) → T s t op ops
    first_tears op inside s t asks outer more ops = (
      alike s t asks outer more,
      λ v torn_v.
          let kept = torn_keeps e g Primary op t v ok outer.sized_v inside torn_v in
          let second = same_trailer g t v Secondary ok kept.sized_u kept.sized_v (λ f i within. kept.same Secondary (place g Secondary f + i) (λ e. absurd cc)) in
          let data_ = data_kept g Primary t v kept in (
            s,
            before refl,
            alike s v asks (record {
              sized_u = outer.sized_u;
              sized_v = kept.sized_v;
              data_ = λ o i low out. data_.same o i low ∙ outer.data_ o i low out;
              magic = ap (λ (x : Trailer). x.magic) second ∙ outer.magic;
              image_ok = ap (λ (x : Trailer). x.image_ok) second ∙ outer.image_ok;
              free = λ k short e255. kept.same Secondary (place g Secondary field.Magic + k) (λ e. absurd cc) ∙ outer.free k short e255;
            }) (data_stays s t s v (λ o i low. refl) (λ o i low. data_.same o i low) more),
          ),
    )

    -- The data is kept.
    data_on : (op : Op) → InTrailer g Primary op → (x y : Content) → IsSized g x → apply g op x ≡ Some y → (o : Slot) (i : ℕ) → i < data_end g o → byte y o i ≡ byte x o i
    data_on op inside x y sized made = (data_kept g Primary x y (trailer_keeps g Primary op x y ok sized inside made)).same

    more_on : (op : Op) → InTrailer g Primary op → (s t u w : Content) → Outer g H s t → apply g op s ≡ Some u → apply g op t ≡ Some w → J s t → J u w
    more_on op inside s t u w outer at_u at_w more = data_stays s t u w (data_on op inside s u outer.sized_u at_u) (data_on op inside t w outer.sized_v at_w) more

    outer_after : (s t u w : Content) (at : ℕ) (new : List ℕ) → ChangedBoth s t u w Primary at new → Outer g H s t → Outer g H u w
    outer_after s t u w at new ch outer =
        let second_u = trailer_kept_elsewhere g s u Primary Secondary at new ok outer.sized_u ch.of_u (λ e. cc) in
        let second_w = trailer_kept_elsewhere g t w Primary Secondary at new ok outer.sized_v ch.of_v (λ e. cc) in
        outer_on g ok H H s t u w Primary at new ch (λ o i low out. inl out) outer
        (ap (λ (x : Trailer). x.magic) second_w ∙ outer.magic ∙ sym (ap (λ (x : Trailer). x.magic) second_u))
        (ap (λ (x : Trailer). x.image_ok) second_w ∙ outer.image_ok ∙ sym (ap (λ (x : Trailer). x.image_ok) second_u))

    record K (i m : ℕ) (s t : Content) : Type 0 where
      count : i + m ≡ trailer_sectors g
      asks : Asks g start flag s
      outer : Outer g H s t
      more : J s t
      same : (p : ℕ) → (sectors_of g Primary - i) * g.sector ≤ p → p < size_of g Primary → byte t Primary p ≡ byte s Primary p

    record I (s t : Content) : Type 0 where
      asks : Asks g start flag s
      near_ : Near g H s t
      more : J s t
      same : SameTrailer Primary s t

    abbrev f : ℕ → Op
    f = trailer_erase g Primary

    erase_step : (ys : List Op) (i m : ℕ) (s t : Content) → K i (suc m) s t → T s t (f i) (map f (range_with_len (i + 1) m) ++ ys) × BothDo g Q (K (i + 1) m) (f i) s t
    erase_step ys i m s t k = (
      first_tears (f i) inside s t k.asks k.outer k.more (map f (range_with_len (i + 1) m) ++ ys),
      all_do g T Q (K (i + 1) m) (f i) s t made.0 made.1 (by (erase_both g (Agree s t) s t (agree g s t k.outer.sized_u k.outer.sized_v) Primary (sectors_of g Primary - 1 - i) inside.2)),
    )
      where
        below : i < trailer_sectors g
        below = let c = k.count in omega (arith, c)

        inside : InTrailer g Primary (f i)
        inside = let leaves = trailer_leaves_one g Primary ok in (refl, omega (arith, below, leaves), omega (arith, below, leaves))

        made : (whole : Content) × (apply g (f i) s ≡ Some whole) × Changed s whole Primary ((sectors_of g Primary - 1 - i) * g.sector) (replicate g.sector 255)
        made = erase_changes g s Primary (sectors_of g Primary - 1 - i)
            (let fits = sector_inside g Primary (sectors_of g Primary - 1 - i) inside.2 in omega (arith, fits, sized_is g s Primary k.outer.sized_u))

        same_next : (u w : Content) → ChangedBoth s t u w Primary ((sectors_of g Primary - 1 - i) * g.sector) (replicate g.sector 255) → (p : ℕ) → (sectors_of g Primary - (i + 1)) * g.sector ≤ p
            → p < size_of g Primary → byte w Primary p ≡ byte u Primary p
        same_next u w ch p from short =
            let wide = length-replicate {A = ℕ} g.sector 255 in
            let here : (sectors_of g Primary - (i + 1)) * g.sector ≡ (sectors_of g Primary - 1 - i) * g.sector = ap (λ n. n * g.sector) (omega arith) in
            let up : sectors_of g Primary - i ≡ sectors_of g Primary - 1 - i + 1 = (let leaves = trailer_leaves_one g Primary ok in omega (arith, below, leaves)) in
            let next_sector : (sectors_of g Primary - i) * g.sector ≡ (sectors_of g Primary - 1 - i) * g.sector + g.sector = ap (λ n. n * g.sector) up ∙ omega arith in
            elim (cases_lt p ((sectors_of g Primary - 1 - i) * g.sector + g.sector)) [
              | inl inside_it ↦ same_inside s t u w Primary ((sectors_of g Primary - 1 - i) * g.sector) (replicate g.sector 255) ch p (omega (arith, here, from)) (omega (arith, wide, inside_it))
              | inr above ↦ elim (either s t u w Primary ((sectors_of g Primary - 1 - i) * g.sector) (replicate g.sector 255) ch Primary p) [
                | inl is ↦ is
                | inr both ↦ both.1 ∙ k.same p (omega (arith, above, next_sector)) short ∙ sym both.0
              ]
            ]

        by : Changes g (f i) s t Primary ((sectors_of g Primary - 1 - i) * g.sector) (replicate g.sector 255) → Does g (K (i + 1) m) (f i) s t
        by (inl none) = inl none
        by (inr (u, w, at_u, at_w, ch)) = inr (
          u,
          w,
          at_u,
          at_w,
          record {
            count = let c = k.count in omega (arith, c);
            asks = asks_still r g start begin e ok flag clear s k.asks (f i) inside u at_u;
            more = more_on (f i) inside s t u w k.outer at_u at_w k.more;
            outer = outer_after s t u w ((sectors_of g Primary - 1 - i) * g.sector) (replicate g.sector 255) ch k.outer;
            same = same_next u w ch;
          },
        )

    first_step : (op : Op) → InTrailer g Primary op → Step g T Q I op
    first_step op inside s t is = (first_tears op inside s t is.asks is.near_.outer is.more, both_do g T Q I op s t (rest_of s t is.near_ is.more) (by op inside))
      where
        after : (op : Op) → InTrailer g Primary op → (at : ℕ) (new : List ℕ) → Changes g op s t Primary at new → Does g I op s t
        after op inside at new (inl none) = inl none
        after op inside at new (inr (u, w, at_u, at_w, ch)) =
            let outer = outer_after s t u w at new ch is.near_.outer in
            let same = same_on Primary s t u w Primary at new ch is.same in
            inr (
              u,
              w,
              at_u,
              at_w,
              record {
                asks = asks_still r g start begin e ok flag clear s is.asks op inside u at_u;
                near_ = near_of H u w outer same;
                more = more_on op inside s t u w
                    is.near_.outer at_u at_w is.more;
                same = same;
              },
            )

        by : (op : Op) → InTrailer g Primary op → Does g I op s t
        by (Erase Primary sector) inside =
            after (Erase Primary sector) inside (sector * g.sector) (replicate g.sector 255)
            (erase_both g (Agree s t) s t (agree g s t is.near_.outer.sized_u is.near_.outer.sized_v) Primary sector inside.2)
        by (Erase Secondary sector) inside = absurd (let no_ : Secondary ≡ Primary = inside.0 in cc)
        by (Program Primary at new) inside =
            after (Program Primary at new) inside at new (program_both g (λ o i. (o ≡ Primary) × (data_end g Primary ≤ i)) s t
            (record {
              sized_u = is.near_.outer.sized_u;
              sized_v = is.near_.outer.sized_v;
              same = λ o i there. rw there.0
                  (same_beyond Primary s t is.near_.outer.sized_u is.near_.outer.sized_v is.same i there.1);
            })
            Primary at new inside.2.inside (λ i short. (refl, omega (arith, inside.1))))
        by (Program Secondary at new) inside = absurd (let no_ : Secondary ≡ Primary = inside.0 in cc)
        by (Copy from at to offset len) inside = absurd inside

    module _ (kind : SwapType) (swaps : is_swap (number_of kind) ≡ true) where
      abbrev size : ℕ
      size = (images_of start).size

      abbrev sectors : ℕ
      sectors = div_ceil size g.sector

      opening_pairs : (s t : Content) → Asks g start flag s → Outer g H s t → J s t
          → Pairs g T Q (λ u w. I u w × Made g Primary (opened g kind size) u) (trailer_erases g Primary ++ opening_writes r.grain g kind size) s t
      opening_pairs s t asks outer more =
          pairs_made g T Q _ (Made g Primary (opened g kind size)) I (trailer_erases g Primary ++ opening_writes r.grain g kind size) s t
          (pairs_range g T Q K f (opening_writes r.grain g kind size) I (erase_step (opening_writes r.grain g kind size))
          (λ i u w k. pairs_kept g T Q I (opening_writes r.grain g kind size) writes u w (begins i u w k))
          0 (trailer_sectors g) s t (record { count = omega arith; asks = asks; outer = outer; more = more; same = none }))
          (opening_keeps r.grain g size ok s outer.sized_u kind)
        where
          writes : AllByRecursion (Step g T Q I) (opening_writes r.grain g kind size)
          writes = all_steps (opening_writes r.grain g kind size) (all_after (InTrailer g Primary) (trailer_erases g Primary) (opening_writes r.grain g kind size) (opening_in g ok r.grain kind size))
            where
              all_steps : (ops : List Op) → AllByRecursion (InTrailer g Primary) ops → AllByRecursion (Step g T Q I) ops
              all_steps [] all = tt
              all_steps (op ∷ ops) all = (first_step op all.0, all_steps ops all.1)

          none : (p : ℕ) → (sectors_of g Primary - 0) * g.sector ≤ p → p < size_of g Primary → byte t Primary p ≡ byte s Primary p
          none p from short =
              let whole : (sectors_of g Primary - 0) * g.sector ≡ sectors_of g Primary * g.sector = ap (λ n. n * g.sector) (omega arith) in
              absurd (omega (arith, whole, from, short))

          begins : (i : ℕ) (u w : Content) → K i 0 u w → I u w
          begins i u w k = record { asks = k.asks; near_ = near_of H u w k.outer same; more = k.more; same = same }
            where
              same : SameTrailer Primary u w
              same p high short =
                  let start_of : (sectors_of g Primary - i) * g.sector ≡ data_end g Primary = ap (λ n. (sectors_of g Primary - n) * g.sector) (let c = k.count in omega (arith, c)) in
                  k.same p (omega (arith, start_of, high)) short

      module _ (cont : (u w : Content) → Near g H u w → J u w → Asks g start flag u → Made g Primary (opened g kind size) u
          → Pairs g T Q Q (trailer_erases l Secondary ++ from_transfer l sectors 0 false) u w) where
        whole_pairs : (s t : Content) → Asks g start flag s → Outer g H s t → J s t → Pairs g T Q Q (swap_list r.grain l kind size sectors) s t
        whole_pairs s t asks outer more = subst (λ ops. Pairs g T Q Q ops s t) (swap_whole e r g ok kind size sectors)
            (pairs_append g T Q open_ (λ u w. I u w × Made g Primary (opened g kind size) u) Q (trailer_erases g Primary ++ opening_writes r.grain g kind size)
            (trailer_erases l Secondary ++ from_transfer l sectors 0 false) s t (opening_pairs s t asks outer more) (λ u w both. cont u w both.0.near_ both.0.more both.0.asks both.1))

  -- What it says then is under way.
  module _ (start : Content) (begin : CanBegin g start) (kind : SwapType) (swaps : is_swap (number_of kind) ≡ true) where
    abbrev size_s : ℕ
    size_s = (images_of start).size

    abbrev sectors_s : ℕ
    sectors_s = div_ceil size_s g.sector

    held_made : (u : Content) → Made g Primary (opened g kind size_s) u → Held g sectors_s (trailer_of g u Primary) 0 u
    held_made u made = record {
      primary = refl;
      left = ap (first_left g sectors_s) (entries_not g sectors_s u ok made.sized (entries_none g sectors_s u (entry_blank e r g ok start begin kind swaps u made)));
      free = λ d from below. blank_entry g u d ok made.sized below (λ i short. entry_blank e r g ok start begin kind swaps u made d i below short);
    }

    module _ (flag : Flag) (clear : IsClear flag) where
      pub swap_pairs : (s t : Content) → Asks g start flag s → Outer g nowhere s t → Pairs g T N N (swap_list r.grain l kind size_s sectors_s) s t
      swap_pairs s t asks outer =
          whole_pairs start begin flag clear nowhere (λ s t. ⊤) N (λ s t asks outer more. begun start flag begin clear asks outer) (λ s t u w one two more. tt) (λ s t is more. is) kind swaps
          (λ u w is more asks made. rw (erases_pieces r.grain g Secondary)
          (erased_pairs e r g ok sectors_s begin.few (trailer_of g u Primary) (way_made e r g ok start begin kind swaps u made) false u w is (held_made u made)))
          s t asks outer tt

      -- The same where the sector behind both images differs.
      module _ (ref : Content) (ends : EndsBefore g sectors_s ref) (images : images_of start ≡ images_of ref) (rough : e ≡ erasings.Rough) where
        abbrev Holds : Content → Content → Type 0
        Holds s t = HoldsAll g sectors_s ref s × HoldsAll g sectors_s ref t

        abbrev Hole : Slot → ℕ → Type 0
        Hole = next_sector g sectors_s

        no_gentle : {A : Type 0} → e ≡ erasings.Gentle → A
        no_gentle gentle = let no_ : erasings.Rough ≡ erasings.Gentle = sym rough ∙ gentle in absurd cc

        goes : (u w : Content) → Near g Hole u w → Made g Primary (opened g kind size_s) u → Pairs g T N N (trailer_erases l Secondary ++ from_transfer l sectors_s 0 false) u w
        goes u w is made = rw (erases_pieces r.grain g Secondary) (by sectors_s refl)
          where
            way : IsUnderWay g sectors_s (trailer_of g u Primary)
            way = way_made e r g ok start begin kind swaps u made

            by : (n : ℕ) → sectors_s ≡ n → Pairs g T N N (trailer_erases g Secondary ++ from_transfer l sectors_s 0 false) u w
            by zero none = absurd (let some = way.some in omega (arith, some, none))
            by (suc m) some = held_erased_pairs e r g ok sectors_s begin.few (trailer_of g u Primary) way (moved_up sectors_s 0)
                (subst (λ k. slice_get (transfers g k) 0 ≡ Some (moved_up k 0)) (sym some) refl) false u w
                (subst (λ k. Near g (in_sector g Primary k) u w) (omega arith) is) (held_made u made, λ gentle. no_gentle gentle)

        pub reopened_pairs : (s t : Content) → Asks g start flag s → Outer g Hole s t → Holds s t → Pairs g T (Rest g) (Rest g) (swap_list r.grain l kind size_s sectors_s) s t
        reopened_pairs s t asks outer holds =
            whole_pairs start begin flag clear Hole Holds (Rest g) (λ s t asks outer more. reopened start ref flag begin clear asks outer ends more.0 more.1 images rough)
            (λ s t u w one two more. (λ o i low out. one o i low ∙ more.0 o i low out, λ o i low out. two o i low ∙ more.1 o i low out))
            (λ s t is more. inr (record { n = sectors_s; ref = ref; ends = ends; near_ = is; of_s = more.0; of_t = more.1 })) kind swaps
            (λ u w is more asks made. pairs_ends g T N N (Rest g) (Rest g) (λ s t near_. inl near_) (λ s t near_. inl near_)
            (trailer_erases l Secondary ++ from_transfer l sectors_s 0 false) u w (goes u w is made))
            s t asks outer holds

  -- ---- a revert

  some_erases : 0 < trailer_sectors g
  some_erases = by (trailer_sectors g) (trailer_covered g ok)
    where
      by : (n : ℕ) → trailer_bytes g ≤ n * g.sector → 0 < n
      by zero most = absurd (omega (arith, most))
      by (suc n) most = omega arith

  -- A swap begins with an erase, which is done.
  swap_goes : (kind : SwapType) (size n : ℕ) (u : Content) → IsSized g u → GoesOn g (swap_list r.grain l kind size n) u
  swap_goes kind size n u sized = rw (erases_pieces r.grain g Primary) (by (trailer_sectors g) refl (opening_writes r.grain l kind size ++ resumed_list l n 0 true false))
    where
      by : (m : ℕ) → trailer_sectors g ≡ m → (rest : List Op) → GoesOn g (map (trailer_erase g Primary) (range_with_len 0 m) ++ rest) u
      by zero is rest = absurd (omega (arith, is, some_erases))
      by (suc m) is rest = (trailer_erase g Primary 0, map (trailer_erase g Primary) (range_with_len 1 m) ++ rest, refl, made.0, made.1)
        where
          below : sectors_of g Primary - 1 - 0 < sectors_of g Primary
          below = let leaves = trailer_leaves_one g Primary ok in omega (arith, leaves)

          made : (whole : Content) × (apply g (trailer_erase g Primary 0) u ≡ Some whole) × Changed u whole Primary ((sectors_of g Primary - 1 - 0) * g.sector) (replicate g.sector 255)
          made = erase_changes g u Primary (sectors_of g Primary - 1 - 0) (let fits = sector_inside g Primary (sectors_of g Primary - 1 - 0) below in omega (arith, fits, sized_is g u Primary sized))

  module _ (start : Content) (begin : CanBegin g start) (sized : IsSized g start) where
    abbrev size_r : ℕ
    size_r = (images_of start).size

    abbrev sectors_r : ℕ
    sectors_r = div_ceil size_r g.sector

    abbrev prepared : List Op
    prepared = preparation_writes r.grain g size_r

    abbrev swaps_r : List Op
    swaps_r = swap_list r.grain l kinds.Revert size_r sectors_r

    abbrev h : ℕ → Op
    h = trailer_erase g Secondary

    abbrev Ready : Content → Type 0
    Ready u = FieldsAre g u Secondary (asked false)

    -- While it is prepared.
    record J (s t : Content) : Type 0 where
      near_ : N s t
      same : SameTrailer Secondary s t
      data_ : SameAt g (IsData g) start s

    write_step : (op : Op) → InTrailer g Secondary op → StepOn g T N J op
    write_step op inside s t is = ((λ ops whole makes goes. (near is.near_, λ v torn_v. let l = torn op inside v torn_v ops whole makes goes in (l.0, l.1, near l.2))), by op inside)
      where
        beyond : (p : ℕ) → data_end g Secondary ≤ p → byte t Secondary p ≡ byte s Secondary p
        beyond = same_beyond Secondary s t is.near_.outer.sized_u is.near_.outer.sized_v is.same

        torn : (op : Op) → InTrailer g Secondary op → (v : Content) → IsTorn (tearing_of e) g op t v → (ops : List Op) (whole : Content) → apply g op s ≡ Some whole → GoesOn g ops whole
            → (u : Content) × Leaves e g op ops s u × N u v
        torn (Erase Secondary sector) inside v torn_v ops whole makes goes = erase_torn e g ok nowhere s t is.near_ sector inside.1 inside.2 v torn_v ops whole makes goes
        torn (Erase Primary sector) inside v torn_v ops whole makes goes = absurd (let no_ : Primary ≡ Secondary = inside.0 in cc)
        torn (Program Secondary at new) inside v torn_v ops whole makes goes = write_torn e g ok nowhere s t is.near_ at new inside beyond v torn_v ops whole makes goes
        torn (Program Primary at new) inside v torn_v ops whole makes goes = absurd (let no_ : Primary ≡ Secondary = inside.0 in cc)
        torn (Copy from at to offset len) inside v torn_v ops whole makes goes = absurd inside

        after : (op : Op) → InTrailer g Secondary op → (at : ℕ) (new : List ℕ) → Changes g op s t Secondary at new → Does g J op s t
        after op inside at new (inl none) = inl none
        after op inside at new (inr (u, w, at_u, at_w, ch)) =
            let same = same_on Secondary s t u w Secondary at new ch is.same in
            let sized_u = changed_sized g s u Secondary at new ch.of_u is.near_.outer.sized_u in
            let sized_w = changed_sized g t w Secondary at new ch.of_v is.near_.outer.sized_v in
            let second : trailer_of g w Secondary ≡ trailer_of g u Secondary = same_trailer g u w Secondary ok sized_u sized_w (λ f i within.
            same (place g Secondary f + i) (let high = place_beyond_data g Secondary f ok in omega (arith, high)) (let end = field_ends g Secondary f ok in omega (arith, end, within))) in
            let first_u = trailer_kept_elsewhere g s u Secondary Primary at new ok is.near_.outer.sized_u ch.of_u (λ e. cc) in
            let first_w = trailer_kept_elsewhere g t w Secondary Primary at new ok is.near_.outer.sized_v ch.of_v (λ e. cc) in
            inr (
              u,
              w,
              at_u,
              at_w,
              record {
                near_ = near_on g ok nowhere nowhere s t u w Secondary at new ch (λ o i low out. inl out) is.near_ (ap (λ (x : Trailer). x.magic) second) (ap (λ (x : Trailer). x.image_ok) second)
                    (first_w ∙ is.near_.primary ∙ sym first_u);
                same = same;
                data_ = same_both g (IsData g) start s u is.data_ (data_kept g Secondary s u (trailer_keeps g Secondary op s u ok is.near_.outer.sized_u inside at_u));
              },
            )

        by : (op : Op) → InTrailer g Secondary op → Does g J op s t
        by (Erase Secondary sector) inside =
            after (Erase Secondary sector) inside (sector * g.sector) (replicate g.sector 255)
            (erase_both g (Agree s t) s t (agree g s t is.near_.outer.sized_u is.near_.outer.sized_v) Secondary sector inside.2)
        by (Erase Primary sector) inside = absurd (let no_ : Primary ≡ Secondary = inside.0 in cc)
        by (Program Secondary at new) inside =
            after (Program Secondary at new) inside at new (program_both g (λ o i. (o ≡ Secondary) × (data_end g Secondary ≤ i)) s t
            (record { sized_u = is.near_.outer.sized_u; sized_v = is.near_.outer.sized_v; same = λ o i there. rw there.0 (beyond i there.1) })
            Secondary at new inside.2.inside (λ i short. (refl, omega (arith, inside.1))))
        by (Program Primary at new) inside = absurd (let no_ : Primary ≡ Secondary = inside.0 in cc)
        by (Copy from at to offset len) inside = absurd inside

    writes_r : AllByRecursion (StepOn g T N J) prepared
    writes_r = all_steps prepared (all_after (InTrailer g Secondary) (trailer_erases g Secondary) prepared (preparation_in g ok r.grain size_r))
      where
        all_steps : (ops : List Op) → AllByRecursion (InTrailer g Secondary) ops → AllByRecursion (StepOn g T N J) ops
        all_steps [] all = tt
        all_steps (op ∷ ops) all = (write_step op all.0, all_steps ops all.1)

    -- After it the secondary asks for the swap.
    prepared_on : (u w : Content) → Ready u → J u w → GoesOn g swaps_r u × Pairs g T N N swaps_r u w
    prepared_on u w ready is = (
      swap_goes kinds.Revert size_r sectors_r u is.near_.outer.sized_u,
      swap_pairs start begin kinds.Revert refl flags.Set tt u w
          (record { data_ = is.data_; magic = reads_good g u Secondary ok is.near_.outer.sized_u (ready field.Magic); image_ok = flag_is g u false ready }) is.near_.outer,
    )

    module _ (P : Content → Type 0) where
      -- What is still to be done, and can be.
      record L (i m : ℕ) (s t : Content) : Type 0 where
        keeps : Keeps g P (map h (range_with_len i m) ++ prepared) s Ready
        data_ : SameAt g (IsData g) start s

      kept : (i m : ℕ) (s t u w : Content) → N s t → L i (suc m) s t → i < trailer_sectors g → apply g (h i) s ≡ Some u → apply g (h i) t ≡ Some w → L (i + 1) m u w
      kept i m s t u w is more below at_u at_w =
          let k = more.keeps in
          let both : Some k.1.0 ≡ Some u = sym k.1.1 ∙ at_u in
          let same : k.1.0 ≡ u = cc in
          let inside : InTrailer g Secondary (h i) = (let leaves = trailer_leaves_one g Secondary ok in (refl, omega (arith, below, leaves), omega (arith, below, leaves))) in
          record {
            keeps = subst (λ x. Keeps g P (map h (range_with_len (i + 1) m) ++ prepared) x Ready) same k.1.2;
            data_ = same_both g (IsData g) start s u more.data_ (data_kept g Secondary s u (trailer_keeps g Secondary (h i) s u ok is.outer.sized_u inside at_u));
          }

      ends : (i : ℕ) (u w : Content) → N u w → BlankSecond g u → BlankSecond g w → L i 0 u w → GoesOn g (prepared ++ swaps_r) u × Pairs g T N N (prepared ++ swaps_r) u w
      ends i u w is blank_u blank_w more =
          let k = more.keeps in (
            (_, _, refl, k.1.0, k.1.1),
            pairs_through g T N P Ready J N prepared swaps_r writes_r u w k
                (record { near_ = is; same = λ p high short. blank_w p high short ∙ sym (blank_u p high short); data_ = more.data_ }) prepared_on,
          )

      erases_r : (s t : Content) → N s t → L 0 (trailer_sectors g) s t → Pairs g T N N (trailer_erases g Secondary ++ (prepared ++ swaps_r)) s t
      erases_r s t is more = second_erased e r g ok nowhere L (λ i m s t is more. near is) (λ i m s t u v ops more leaves torn_v is. near is) kept (prepared ++ swaps_r) N ends s t is more

    pub revert_pairs : (t : Content) → N start t → Pairs g T N N (trailer_erases l Secondary ++ (preparation_writes r.grain l size_r ++ swaps_r)) start t
    revert_pairs t is = subst (λ ops. Pairs g T N N ops start t) (sym (append_assoc (trailer_erases g Secondary) prepared swaps_r) ∙ revert_whole e r g ok size_r sectors_r)
        (erases_r _ start t is (record { keeps = preparation_keeps r.grain g size_r ok start sized; data_ = record { sized_u = sized; sized_v = sized; same = λ o i low. refl } }))
