-- Images that end before the trailers depend on none.
use Rattle.std.proofs.{Common.{ap, arith, sym, ◌∙◌}}
use Rattle.std.specs.Prelude.{List, Some, take, ℕ, ◌≡◌}
use Rattle.mc_boot.proofs.Images.{id_parts, same_prefixes, size_valid}
use Rattle.mc_boot.specs.Plan.{image_size}
use Rattle.mc_flash.specs.{Flash.{bytes_of}}
use Rattle.mc_flash.specs.facts.{Changes.{sized_is}, Layouts.{data_before_trailer}}
use Rattle.mc_image.specs.{Image.{IsBytes}, Valid.{Identity, id_of}}
use Rattle.mc_tear.specs.Laws.{InsideIsApart}

size_of_id : (b : List ℕ) (i : Identity) → id_of b ≡ Some i → image_size b ≡ i.size
size_of_id b i is = let parts = id_parts b i is in sym (size_valid b parts.0) ∙ ap (λ (x : Identity). x.size) parts.1

pub inside_is_apart : ((b c : List ℕ) (i : Identity) → IsBytes b → id_of b ≡ Some i → take i.size c ≡ take i.size b → id_of c ≡ Some i) → InsideIsApart
inside_is_apart law g s ok sized inside slot bytes long same =
    let held = inside slot in
    let i = held.1.0 in
    let end = data_before_trailer g slot ok in
    let b = bytes_of s slot in
    let prefix = same_prefixes b bytes i.size (omega (arith, held.1.2, end, sized_is g s slot sized)) (omega (arith, held.1.2, end, sized_is g s slot sized, long))
    (λ k below. same k (omega (arith, below, held.1.2))) in
    let id = law b bytes i held.0 held.1.1 prefix in
    (id ∙ sym held.1.1, size_of_id bytes i id ∙ sym (size_of_id b i held.1.1))
