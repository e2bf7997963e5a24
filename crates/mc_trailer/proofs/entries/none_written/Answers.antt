use Rattle.std.proofs.Common.{◌≡◌, ◌*◌, length, true, sym, ap, subst, ◌∙◌}
use Rattle.mc_flash.specs.{Flash.{is_blank}, Geometry.{Geometry, IsLayout}, declared.op.Slot.TheVariants.{Primary}}
use Rattle.mc_trailer.specs.{Trailer.{bytes_at, entry_place}, facts.Entries.{group_blank}}
use Rattle.mc_trailer.proofs.entries.none_written.Goals as goal

pub returns : goal.returns
returns g c blank e from to =
    let seen = g.F.Flash.seen c.args.flash.now in
    let ok = subst IsLayout c.layout-layout.ensures c.unit.ensures.valid in
    let at = c.entry_place-at.ensures.place ∙ ap (λ (l : Geometry). entry_place l c.args.first) c.layout-layout.ensures in
    let unit = c.unit.ensures.value ∙ ap (λ (l : Geometry). l.unit) c.layout-layout.ensures in
    let none : is_blank (bytes_at seen.content Primary (entry_place seen.geometry c.args.first) (8 * seen.geometry.unit)) ≡ true = cc (at, unit) in
    group_blank seen.geometry seen.content c.args.first 8 e ok (sym (ap length c.read.ensures.value) ∙ c.read.ensures.len) c.requires none from to
