use Rattle.std.proofs.Common.{arith, ap, string_bytes}
use Rattle.mc_flash.specs.{Flash.{sectors_of, slot_text}, Geometry.{Geometry}}
use Rattle.mc_trace.specs.Sectors.{sector_words}
use Rattle.mc_trace.proofs.Pictured.{ended, grew}
use Rattle.mc_trace.proofs.sectors.push_slot.Goals as goal

pub loop-sector-preserved : goal.loop-sector-preserved
loop-sector-preserved c =
    let start = c.args.start.now in
    let n = sectors_of start.geometry c.args.slot in
    let end = ap (λ (g : Geometry). sectors_of g c.args.slot) c.layout-layout.ensures.value in
    record {
      written = grew c.args.words start.geometry start.content c.args.slot c.args.bytes.now c.loop-sector.sector n (string_bytes c.loop-sector.text)
          (string_bytes c.push_str-in-loop-sector.new.self) _
          (omega (arith, c.loop-sector-test.true, c.sectors-sector-end.ensures.value, end))
          (cc (c.in_ok-push_str-2.ensures.bytes, c.as_str-in-loop-sector.ensures, c.next_word-word.ensures, c.sector_of-bytes.ensures.value, c.layout-layout.ensures.value))
          c.loop-sector.invariant.written;
    }

pub returns : goal.returns
returns c =
    let start = c.args.start.now in
    let n = sectors_of start.geometry c.args.slot in
    let end = ap (λ (g : Geometry). sectors_of g c.args.slot) c.layout-layout.ensures.value in
    ended c.args.words start.geometry start.content c.args.slot c.args.bytes.now c.loop-sector.sector n (string_bytes c.args.text.now) (slot_text c.args.slot) (string_bytes c.loop-sector.text) _
    (sector_words c.args.words start.geometry start.content c.args.slot c.args.bytes.now 0 n)
    (omega (arith, c.loop-sector-test.false, c.sectors-sector-end.ensures.value, end))
    c.loop-sector.invariant.written c.in_ok-push_str-3.ensures.bytes
