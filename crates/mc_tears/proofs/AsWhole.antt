-- A torn status entry that is read as written ends as the whole one.
use Rattle.std.proofs.{Common.{add-zero, ap, arith, inl, inr, sym, ◌∙◌}, lemmas.Bool.{cases_lt}, lemmas.List.{get_or-drop}}
use Rattle.std.specs.Prelude.{List, Some, length, option_map, refl, slice_index, take, true, ℕ, ◌*◌, ◌+◌, ◌-◌, ◌<◌, ◌≡◌, ◌≢◌, ◌≤◌}
use Rattle.mc_boot.proofs.{Meets.{which_slot}, TornSwaps.{program_is}}
use Rattle.mc_boot.specs.{Outcome.{report}, Plan.{PowerOn, again, identity_of}, declared.image.ImageId.{ImageId}, facts.Run.{left_defined}}
use Rattle.mc_flash.specs.{Flash.{Content, IsRange, IsSized, apply, byte, bytes_of, put, with_bytes}, Geometry.{Geometry, IsLayout}, declared.op.Op.TheVariants.{Program}}
use Rattle.mc_flash.specs.{declared.op.Slot.{Slot}, declared.op.Slot.TheVariants.{Primary, Secondary}, facts.Changes.{Changed, changed, changed_sized}, facts.Layouts.{data_before_trailer, data_end}}
use Rattle.mc_explore.specs.Boots.{at_cut}
use Rattle.mc_image.specs.{Image.{IsBytes}, Valid.{Identity, id_of}}
use Rattle.mc_tear.specs.{Cases.{put_in}, inner.Room.{Applies}}
use Rattle.mc_flash.specs.{Usage.{Seen}, declared.op.Op.{Op}}
use Rattle.mc_tear.proofs.{Beside.{One, entry}, Boots.{beside_ends}, Inside.{inside_is_apart}}
use Rattle.mc_tear.specs.Laws.{ImagesInside}
use Rattle.mc_tears.proofs.{Ending.{left_is}, EndsSame.{end_same, next_is}}
use Rattle.mc_tears.specs.{Ends.{Ending, end_of, shown_end}, declared.cases.Between.{Between}, declared.end.End.{End}, inner.Standing.{DifferFirst, EndsAfter, LeavesBytes, StandsBefore}}
use Rattle.mc_trailer.specs.{Tables.{is_resumed}, Trailer.{entry_place}, facts.Fields.{trailer_kept, trailer_kept_elsewhere}, facts.Places.{entry_ends, entry_inside}}

abbrev pub SamePrefix : Type 0
SamePrefix = (b c : List ℕ) (i : Identity) → IsBytes b → id_of b ≡ Some i → take i.size c ≡ take i.size b → id_of c ≡ Some i

module _ (law : SamePrefix) (x : PowerOn) (ok : IsLayout x.geometry) (s u : Content) (sized : IsSized x.geometry s) (n : ℕ) (below : n < 3 * x.geometry.max_sectors)
    (new bytes : List ℕ) (range : IsRange x.geometry Primary (entry_place x.geometry n) (length new)) (unit : length new ≤ x.geometry.unit)
    (made : apply x.geometry (Program Primary (entry_place x.geometry n) new) s ≡ Some u) (differ : DifferFirst bytes new) where
  abbrev g : Geometry
  g = x.geometry

  abbrev at : ℕ
  at = entry_place g n

  abbrev v : Content
  v = with_bytes s Primary (put (bytes_of s Primary) at bytes)

  ch_u : Changed s u Primary at new
  ch_u = program_is g s u Primary at new sized range.inside made

  ch_v : Changed s v Primary at bytes
  ch_v = changed s Primary at bytes (let inside = range.inside in let long = differ.long in omega (arith, inside, long, sized.primary))

  abbrev one : One
  one = record { at = at; first = slice_index new 0; second = slice_index bytes 0 }

  later : (k : ℕ) → 0 < k → slice_index bytes k ≡ slice_index new k
  later k some =
      let there : 1 + (k - 1) ≡ k = omega (arith, some) in
      ap (slice_index bytes) (sym there) ∙ sym (get_or-drop 1 bytes (k - 1) 0) ∙ ap (λ (l : List ℕ). slice_index l (k - 1)) differ.rest
      ∙ get_or-drop 1 new (k - 1) 0 ∙ ap (slice_index new) there

  same : (o : Slot) (i : ℕ) → (o ≡ Primary → i ≢ at) → byte v o i ≡ byte u o i
  same o i away = elim (which_slot o Primary) [
    | inr other ↦ ch_v.other o i other ∙ sym (ch_u.other o i other)
    | inl here ↦ rw here (by (away here))
  ]
    where
      by : i ≢ at → byte v Primary i ≡ byte u Primary i
      by differs = elim (cases_lt i at) [
        | inl low ↦ ch_v.before i low ∙ sym (ch_u.before i low)
        | inr from ↦ elim (cases_lt i (at + length bytes)) [
          | inr beyond ↦ ch_v.beyond i beyond ∙ sym (ch_u.beyond i (let long = differ.long in omega (arith, beyond, long)))
          | inl short ↦
              let long = differ.long in
              let there : at + (i - at) ≡ i = omega (arith, from) in
              ap (byte v Primary) (sym there) ∙ ch_v.inside (i - at) (omega (arith, from, short)) ∙ later (i - at) (omega (arith, from, differs))
              ∙ sym (ch_u.inside (i - at) (omega (arith, from, short, long))) ∙ ap (byte u Primary) there
        ]
      ]

  first_byte : (w : Content) (xs : List ℕ) → Changed s w Primary at xs → 0 < length xs → byte w Primary at ≡ slice_index xs 0
  first_byte w xs ch some = ap (byte w Primary) (sym (add-zero at)) ∙ ch.inside 0 some

  resumed_u : is_resumed x.rules.profile g s ≡ true → is_resumed x.rules.profile g u ≡ true
  resumed_u resumed =
      rw (
        trailer_kept g s u Primary at new ok sized ch_u (omega (arith, unit, entry_ends g n ok below)),
        trailer_kept_elsewhere g s u Primary Secondary at new ok sized ch_u (λ e. cc),
      ) resumed

  pub as_whole : is_resumed x.rules.profile g s ≡ true → (end : End) → shown_end end ≡ end_of (again x u) → LeavesBytes (again x u)
      → (p q : ImageId) → end.outcome.primary ≡ Some p → end.outcome.secondary ≡ Some q → p.size ≤ data_end g Primary → q.size ≤ data_end g Secondary
      → end_of (again x v) ≡ shown_end end
  unfolding end_of report
  as_whole resumed end is bytes_so p q first second in_p in_q =
      let left = left_defined (again x u) in
      let at_end = left_is (again x u) left.0 left.1 in
      let some : 0 < length new = (let long = differ.long in let one_more = differ.some in omega (arith, long, one_more)) in
      let sized_z : IsSized g left.0 = rw at_end at bytes_so.sized in
      let names_p = ap (λ (z : Content). id_of z.primary) (sym at_end) ∙ (ap (λ (e : Ending). e.report.primary) (sym is) ∙ ap (option_map identity_of) first) in
      let names_q = ap (λ (z : Content). id_of z.secondary) (sym at_end) ∙ (ap (λ (e : Ending). e.report.secondary) (sym is) ∙ ap (option_map identity_of) second) in
      let inside : ImagesInside g left.0 = elim [
        | Primary ↦ (rw at_end at bytes_so.primary, (identity_of p, names_p, in_p))
        | Secondary ↦ (rw at_end at bytes_so.secondary, (identity_of q, names_q, in_q))
      ] in
      let alike = beside_ends x.rules g ok one
      (record { beyond = omega (arith, entry_inside g n ok below, data_before_trailer g Primary ok); first = differ.second; second = differ.first })
      (entry n below refl) u v left.0
      (inr (record {
        same = record { sized_u = changed_sized g s u Primary at new ch_u sized; sized_v = changed_sized g s v Primary at bytes ch_v sized; same = same };
        first = first_byte u new ch_u some;
        second = first_byte v bytes ch_v differ.some;
      }))
      left.1 (inl (resumed_u resumed)) (inside_is_apart law g left.0 ok sized_z inside) in
      sym (end_same (again x u) (again x v) alike) ∙ sym is

-- The same of an operation that the program meets.
pub entry_ends_as : SamePrefix → (x : PowerOn) (f : Seen) (op : Op) (at : ℕ) (new bytes : List ℕ) (end : End) → IsLayout x.geometry → f.geometry ≡ x.geometry
    → op ≡ Program Primary at new → Applies op f → EndsAfter x op f end → (n : ℕ) → n < 3 * x.geometry.max_sectors → at ≡ entry_place x.geometry n
    → length new ≤ x.geometry.unit → DifferFirst bytes new → is_resumed x.rules.profile x.geometry f.content ≡ true
    → (p q : ImageId) → end.outcome.primary ≡ Some p → end.outcome.secondary ≡ Some q → p.size ≤ data_end x.geometry Primary → q.size ≤ data_end x.geometry Secondary
    → end_of (again x (put_in f.geometry op f.content bytes)) ≡ shown_end end
entry_ends_as law x f op at new bytes end ok layout is_op applies ends n below is_at unit differ resumed p q first second in_p in_q =
    let range : IsRange x.geometry Primary (entry_place x.geometry n) (length new) = rw (layout, is_op, is_at) at applies.can in
    let made : apply x.geometry (Program Primary (entry_place x.geometry n) new) f.content ≡ Some applies.whole = rw (layout, is_op, is_at) at applies.makes in
    let there = ends applies.whole applies.makes in
    rw (layout, is_op, is_at)
    (as_whole law x ok f.content applies.whole (rw layout at applies.sized) n below new bytes range unit made differ resumed end there.0 there.1 p q first second in_p in_q)

-- Where an operation stands between two cuts.
pub ends_after : (x : PowerOn) (b : Between) (f : Seen) → StandsBefore x b f → EndsAfter x b.op f b.after
ends_after x b f s u made =
    let is : u ≡ at_cut x (b.number + 1) = next_is x b.number b.op u s.op (rw (s.layout, s.content) at made) in
    rw is (s.after, s.bytes)
