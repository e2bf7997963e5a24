-- That an upgrade can be dropped: a loss of power within the first erase of the secondary's trailer that spares its magic.
use Rattle.std.proofs.{Common.{ap, arith, inl, inr, subst, sym, ◌∙◌}, Math.Seq.{take-append_seam}, lemmas.Bool.{cases_eq, cases_lt}, lemmas.List.{append_assoc}, lemmas.Nat.Bits.{bit_at_above}}
use Rattle.std.specs.{Int.{bit_at}, Prelude.{List, Some, [], false, length, refl, replicate, slice_get, suc, take, true, zero, ℕ, ◌*◌, ◌++◌, ◌-◌, ◌∷◌, ◌≡◌, ◌≢◌, ◌⊎◌}}
use Rattle.mc_boot.proofs.{AtRest.{AtRest, RestsOrWants, Wants, rests_or_wants}, Courses.{get_beyond, get_mapped, get_prefix, some_trailer}, Images.{ImageLaws}}
use Rattle.mc_boot.proofs.{InPieces.{apply_pieces, fields_pieces, plan_in_pieces, swap_pieces, trailer_pieces}, Keeps.{Keeps, erase_inside, erased_here, field_in_last, keeps_boot, keeps_end}}
use Rattle.mc_boot.proofs.{Meets.{which_slot}, Moving.{data_begin}, Phases.{Asked, Ended, Swap, asked, larger_size, opened}, RestartProof.{Begins, begins_as}}
use Rattle.mc_boot.proofs.{Starts.{count_of, perm_asked, swap_between}, SwapsKeep.{Made}, Tears.{cutting, stands_keeps, stands_pieces}, TornPhases.{Torn, plan_unclear}, TornProof.{from_asked}}
use Rattle.mc_boot.proofs.TornSwaps.{opening_stands}
use Rattle.mc_boot.specs.{Life.{is_at_rest}, Outcome.{applied, at, ops_of}, Plan.{Plan, from_transfer, opening_writes, plan, power_on, resumed_list, swap_list, trailer_erase, trailer_erases}}
use Rattle.mc_boot.specs.{Restart.{image_bytes, perm_flash, start_flash}, Torn.{Drops, DropsLaw, IsTornByBits}}
use Rattle.mc_flash.specs.{Flash.{Content, IsSized, apply, byte, put, sectors_of, with_bytes}, Geometry.{Geometry, IsLayout, in_pieces, trailer_sectors}, declared.op.Op.{Op}}
use Rattle.mc_flash.specs.{declared.op.Slot.{Slot}, declared.op.Slot.TheVariants.{Primary, Secondary}, facts.Changes.{Changed, changed, erase_changes, same_content, sized_is}}
use Rattle.mc_trailer.specs.{Trailer.{magic_bytes, place, trailer_of}, declared.tables.Rules.{Rules}, declared.trailer.Trailer.{Trailer}}
use Rattle.mc_trailer.specs.facts.Fields.{FieldIs, FieldsAre, field_byte, field_kept_beside, fields_same, reads_copy_done, reads_good, reads_image_ok, reads_info, same_field_is, written_field}
use Rattle.mc_trailer.specs.facts.Places.{field_ends}
use Rattle.mc_trailer.specs.declared.places.Field.TheVariants as field
use Rattle.mc_trailer.specs.declared.trailer.Flag.TheVariants as flags
use Rattle.mc_trailer.specs.declared.trailer.Magic.TheVariants as magics
use Rattle.mc_trailer.specs.declared.tables.SwapType.TheVariants as kinds
use Rattle.mc_trailer.specs.declared.tables.Profile.TheVariants as profiles
use Rattle.mc_boot.specs.declared.kind.Kind.TheVariants as starts

-- ---- one bit more of a flag that is set

three : (k : ℕ) → (bit_at 3 k ≡ bit_at 1 k) ⊎ (bit_at 3 k ≡ bit_at 255 k)
three zero = inl refl
three (suc zero) = inr refl
three (suc (suc k)) = inl (bit_at_above 3 2 (suc (suc k)) (omega arith) (omega arith) ∙ sym (bit_at_above 1 2 (suc (suc k)) (omega arith) (omega arith)))

module _ (g : Geometry) (t : Content) (ok : IsLayout g) (sized : IsSized g t) (are : FieldsAre g t Secondary (asked false)) where
  abbrev pub half : Content
  half = with_bytes t Secondary (put t.secondary (place g Secondary field.ImageOk) (3 ∷ []))

  pub ch : Changed t half Secondary (place g Secondary field.ImageOk) (3 ∷ [])
  ch = changed t Secondary (place g Secondary field.ImageOk) (3 ∷ []) (omega (arith, field_ends g Secondary field.ImageOk ok, sized.secondary))

  magic_is : FieldIs g half Secondary field.Magic magic_bytes
  magic_is = same_field_is g t half Secondary field.Magic magic_bytes (field_kept_beside g t half Secondary field.ImageOk field.Magic (3 ∷ []) ok ch (omega arith) (λ e. cc)) (are field.Magic)

  pub good : (trailer_of g half Secondary).magic ≡ magics.Good
  good = reads_good g half Secondary ok (record { primary = ch.sizes Primary ∙ sized.primary; secondary = ch.sizes Secondary ∙ sized.secondary }) magic_is

  pub bad : (trailer_of g half Secondary).image_ok ≡ flags.Bad
  bad = reads_image_ok g half Secondary 3 [] (written_field g t half Secondary field.ImageOk (3 ∷ []) ch)

  whole : (u : Content) × (apply g (trailer_erase g Secondary 0) t ≡ Some u) × Changed t u Secondary ((sectors_of g Secondary - 1 - 0) * g.sector) (replicate g.sector 255)
  whole = erase_changes g t Secondary (sectors_of g Secondary - 1 - 0) (let inside = erase_inside g Secondary 0 ok (some_trailer g ok) in omega (arith, inside, sized_is g t Secondary sized))

  was : byte t Secondary (place g Secondary field.ImageOk) ≡ 1
  was = field_byte g t Secondary field.ImageOk 1 [] (are field.ImageOk)

  now_ : byte half Secondary (place g Secondary field.ImageOk) ≡ 3
  now_ = field_byte g half Secondary field.ImageOk 3 [] (written_field g t half Secondary field.ImageOk (3 ∷ []) ch)

  will : byte whole.0 Secondary (place g Secondary field.ImageOk) ≡ 255
  will =
      let last = field_in_last g Secondary field.ImageOk 0 ok (omega arith) in
      erased_here g Secondary 0 t whole.0 (place g Secondary field.ImageOk) whole.2 (omega (arith, last.0)) (omega (arith, last.1))

  pub torn : IsTornByBits g (trailer_erase g Secondary 0) t half
  torn = record {
    whole = whole.0;
    makes = whole.1;
    each = each;
    sizes = ch.sizes;
    unfinished = differs;
  }
    where
      differs : half ≢ whole.0
      differs same =
          let both : byte half Secondary (place g Secondary field.ImageOk) ≡ byte whole.0 Secondary (place g Secondary field.ImageOk) =
          ap (λ u. byte u Secondary (place g Secondary field.ImageOk)) same in
          omega (arith, now_, will, both)

      there : (k : ℕ) → (bit_at (byte half Secondary (place g Secondary field.ImageOk)) k ≡ bit_at (byte t Secondary (place g Secondary field.ImageOk)) k)
          ⊎ (bit_at (byte half Secondary (place g Secondary field.ImageOk)) k ≡ bit_at (byte whole.0 Secondary (place g Secondary field.ImageOk)) k)
      there k = rw (was, now_, will) (three k)

      each : (o : Slot) (i k : ℕ) → (bit_at (byte half o i) k ≡ bit_at (byte t o i) k) ⊎ (bit_at (byte half o i) k ≡ bit_at (byte whole.0 o i) k)
      each o i k = elim (which_slot o Secondary) [
        | inr other ↦ inl (ap (λ n. bit_at n k) (ch.other o i other))
        | inl same ↦ elim (cases_eq i (place g Secondary field.ImageOk)) [
          | inl here ↦ rw (same, here) (there k)
          | inr away ↦ rw same (inl (ap (λ n. bit_at n k) (beside i away)))
        ]
      ]
        where
          beside : (i : ℕ) → i ≢ place g Secondary field.ImageOk → byte half Secondary i ≡ byte t Secondary i
          beside i away = elim (cases_lt i (place g Secondary field.ImageOk)) [
            | inl low ↦ ch.before i low
            | inr high ↦ ch.beyond i (omega (arith, high, away))
          ]

-- ---- where it occurs

module _ (laws : ImageLaws) (r : Rules) (other : r.profile ≢ profiles.Three) (g : Geometry) (ok : IsLayout g) (s : Content) (rest : AtRest g s)
    (wants : Wants (power_on r g s) kinds.Perm) (are : FieldsAre g s Secondary (asked false)) where
  abbrev G : Geometry
  G = in_pieces r.grain g

  w : Swap G s (larger_size s) (count_of g s)
  w = swap_pieces r.grain g s (larger_size s) (count_of g s) (swap_between g s laws ok rest.sized rest.primary (rest.secondary wants.valid) wants.at_most)

  asks : Asked G s (count_of g s) false s
  asks = record { secondary = fields_pieces r.grain g s Secondary (asked false) are; data_ = data_begin G (count_of g s) s w.sized }

  abbrev first_ops : List Op
  first_ops = trailer_erases G Primary ++ opening_writes r.grain G kinds.Perm (larger_size s)

  abbrev more_ops : List Op
  more_ops = resumed_list G (count_of g s) 0 true false

  -- up to the secondary's trailer
  abbrev Opening : Content → Type 0
  Opening t = Asked G s (count_of g s) false t × Made G Primary (opened G kinds.Perm (larger_size s)) t

  opened_end : (t : Content) × (applied g first_ops s ≡ Some t) × Opening t
  opened_end =
      keeps_end g (Asked G s (count_of g s) false) Opening first_ops s
      (stands_keeps cutting g (Asked G s (count_of g s) false) Opening first_ops s
      (stands_pieces cutting r.grain g (Asked G s (count_of g s) false) Opening first_ops s (opening_stands cutting G s (larger_size s) (count_of g s) w r.grain false kinds.Perm s asks)))

  -- all of it
  ops_are : ops_of (power_on r g s) ≡ first_ops ++ more_ops
  ops_are =
      keeps_boot r g P Q s keeps ∙ ap (λ (p : Plan). p.list) wants.planned
      ∙ sym (append_assoc (trailer_erases G Primary) (opening_writes r.grain G kinds.Perm (larger_size s)) more_ops)
    where
      P : Content → Type 0
      P = Torn cutting (λ t. ⊥) r.profile G s (larger_size s) (count_of g s) false

      Q : Content → Type 0
      Q = Ended G s (larger_size s) (count_of g s) false

      keeps : Keeps g P (plan (power_on r g s)).list s Q
      keeps =
          let E : Plan → Type 0 = λ p. Keeps g P p.list s Q in
          subst E (sym wants.planned)
          (stands_keeps cutting g P Q (swap_list r.grain G kinds.Perm (larger_size s) (count_of g s)) s
          (stands_pieces cutting r.grain g P Q (swap_list r.grain G kinds.Perm (larger_size s) (count_of g s)) s
          (from_asked cutting G s (larger_size s) (count_of g s) w (λ t. ⊥) r.profile false false (λ same. absurd cc) (λ _. refl) kinds.Perm refl r.grain s asks)))

  abbrev t : Content
  t = opened_end.0

  here : Opening t
  here = opened_end.2

  sized : IsSized G t
  sized = here.0.data_.sized

  busy_there : is_at_rest (trailer_of G (half G t w.ok sized here.0.secondary) Primary) ≡ false
  busy_there =
      let v : Content = half G t w.ok sized here.0.secondary in
      let change = ch G t w.ok sized here.0.secondary in
      let fields : FieldsAre G v Primary (opened G kinds.Perm (larger_size s)) =
      fields_same G t v Primary (opened G kinds.Perm (larger_size s)) w.ok (λ i h. change.other Primary i (λ e. cc)) here.1.fields in
      let good_ = reads_good G v Primary w.ok (record { primary = change.sizes Primary ∙ sized.primary; secondary = change.sizes Secondary ∙ sized.secondary }) (fields field.Magic) in
      let unset = reads_copy_done G v Primary 255 (replicate 7 255) (fields field.CopyDone) in
      let info = reads_info G v Primary 3 (replicate (G.unit - 1) 255) (fields field.SwapInfo) in
      rw good_ (rw unset (rw info refl))

  drops_here : Drops (power_on r g s)
  unfolding at
  drops_here =
      let v : Content = half G t w.ok sized here.0.secondary in
      let by_bits = torn G t w.ok sized here.0.secondary in
      let planned = plan_unclear (power_on r G s) v other (good G t w.ok sized here.0.secondary) (bad G t w.ok sized here.0.secondary) in
      record {
        count = length first_ops;
        op = trailer_erase G Secondary 0;
        before = t;
        left = v;
        next = ap (λ (l : List Op). slice_get l (length first_ops)) ops_are
            ∙ get_beyond first_ops more_ops (length first_ops) 0 (omega arith)
            ∙ get_prefix (trailer_erases G Secondary) (from_transfer G (count_of g s) 0 false) 0 (trailer_erase G Secondary 0)
            (get_mapped (trailer_erase G Secondary) 0 (trailer_sectors G) 0 (some_trailer G w.ok));
        reached = ap (λ (l : List Op). applied g (take (length first_ops) l) s) ops_are
            ∙ ap (λ (l : List Op). applied g l s) (take-append_seam first_ops more_ops)
            ∙ opened_end.1;
        torn = record {
          whole = by_bits.whole;
          makes = sym (apply_pieces r.grain g (trailer_erase G Secondary 0) t) ∙ by_bits.makes;
          each = by_bits.each;
          sizes = by_bits.sizes;
          unfinished = by_bits.unfinished;
        };
        idle = ap (λ (p : Plan). p.list) (sym (plan_in_pieces r g v) ∙ planned);
        busy = ap (λ (p : Trailer). is_at_rest p) (sym (trailer_pieces r.grain g v Primary)) ∙ busy_there;
      }

pub drops_law : ImageLaws → DropsLaw
unfolding start_flash
drops_law laws r g a b s other ok at_a at_b start =
    let begins = begins_as laws r g starts.Perm a b s ok at_a at_b start in
    let there : perm_flash g (image_bytes a) (image_bytes b) ≡ s = same_content (perm_flash g (image_bytes a) (image_bytes b)) s start in
    drops_here laws r other g ok s begins.rest (wanted begins (rests_or_wants (power_on r g s) begins.rest.rest)) (rw (← there) (perm_asked g a b laws ok at_b))
  where
    wanted : Begins r g kinds.Perm a b s → RestsOrWants (power_on r g s) → Wants (power_on r g s) kinds.Perm
    wanted begins (inl idle) = absurd (let next = begins.next in let planned = idle.planned in let either = idle.either in grind arith)
    wanted begins (inr (inl wants)) = let e : kinds.Perm ≡ kinds.Test = sym begins.next ∙ ap (λ (p : Plan). p.kind) wants.planned in absurd cc
    wanted begins (inr (inr (inl wants))) = wants
    wanted begins (inr (inr (inr wants))) = let e : kinds.Perm ≡ kinds.Revert = sym begins.next ∙ ap (λ (p : Plan). p.kind) wants.planned in absurd cc
