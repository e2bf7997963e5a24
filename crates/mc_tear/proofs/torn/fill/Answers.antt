use Rattle.std.proofs.Common.{ap, arith, sym, ◌∙◌}
use Rattle.std.proofs.lemmas.List.FromFn.{length-map-range_with_len, map-range_with_len_more}
use Rattle.std.specs.{List.{range_with_len}, Prelude.{List, [], map, ℕ, ◌++◌, ◌∷◌}}
use Rattle.mc_tear.specs.Cases.{torn_byte}
use Rattle.mc_tear.proofs.torn.fill.Goals as goal

pub push_reserved-requires : goal.push_reserved-requires
push_reserved-requires g c = grind (arith, length-map-range_with_len)

pub loop-k-preserved : goal.loop-k-preserved
loop-k-preserved g c =
    let f = g.F.Flash.seen c.args.flash.now in
    let of : ℕ → ℕ = torn_byte c.args.erasing f.geometry c.args.op.now f.content c.args.reading.now in
    let k : ℕ = c.loop-k.k in
    let i = c.loop-k.invariant in
    let e = c.push_reserved.ensures in
    record {
      bytes = e.items ∙ ap (λ (xs : List ℕ). xs ++ c.torn_byte.result ∷ []) i.bytes ∙ ap (λ (b : ℕ). map of (range_with_len 0 k) ++ b ∷ []) c.torn_byte.ensures
          ∙ sym (map-range_with_len_more of 0 k k (omega arith));
      capacity = e.capacity ∙ i.capacity;
    }
