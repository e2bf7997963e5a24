use Rattle.std.proofs.{Common.{◌≡◌, ◌+◌, ◌-◌, ◌*◌, ◌/◌, ◌<◌, ℕ, sym, arith, ◌∙◌}, Math.Nat.{div-lt_iff_lt-mul}}
use Rattle.mc_flash.specs.facts.Usage.{few_sectors}
use Rattle.mc_boot.proofs.Sections.{get_erase, get_transfer}
use Rattle.mc_boot.proofs.section.Section.op.Goals as goal

pub returns-in-Erases-clause-at : goal.returns-in-Erases-clause-at
returns-in-Erases-clause-at c = rw (c.in-Erases.is, c.trailer_erase.ensures.at) (sym (get_erase c.args.course.now.layout c.in-Erases.slot c.args.index (rw c.in-Erases.is at c.requires)))

-- the transfer is one of those that are left
below : (k m w q : ℕ) → w ≡ q + 2 → k < m * (q + 2) → k / w < m
below k m w q is h = (div-lt_iff_lt-mul (omega (arith, is))).1 (rw is h)

pub transfer_at-transfer-requires-clause-below : goal.transfer_at-transfer-requires-clause-below
transfer_at-transfer-requires-clause-below c =
    let low = below c.args.index (3 * c.args.course.now.sectors - c.in-Transfers.first) c.transfer_len-width.result _ c.transfer_len-width.ensures.len (rw c.in-Transfers.is at c.requires) in
    omega (arith, low)

pub overflow_add-first : goal.overflow_add-first
overflow_add-first c =
    let low = below c.args.index (3 * c.args.course.now.sectors - c.in-Transfers.first) c.transfer_len-width.result _ c.transfer_len-width.ensures.len (rw c.in-Transfers.is at c.requires) in
    omega (arith, low, few_sectors c.args.course.now.layout c.transfer_len-width.ensures.valid, c.args.course.now.fits)

pub returns-in-Transfers-clause-at : goal.returns-in-Transfers-clause-at
returns-in-Transfers-clause-at c =
    rw c.in-Transfers.is (sym (get_transfer c.args.course.now.grain c.args.course.now.layout c.args.course.now.sectors c.in-Transfers.first c.args.index c.transfer_len-width.result
    c.transfer_at-transfer.result c.transfer_len-width.ensures.len c.transfer_at-transfer.ensures.at ∙ c.transfer_op.ensures.at))
