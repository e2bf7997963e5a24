use Rattle.std.proofs.Common.{arith, sym, ap, ◌∙◌, subst, List, ℕ}
use Rattle.mc_image.specs.{Valid.{header_fault}, inner.Judging.{HasHeader}}
use Rattle.mc_image.proofs.JudgeLaws.{header_ends, header_error}
use Rattle.mc_image.proofs.judge.Judge.after_fields.Goals as goal

pub returns-in-Err : goal.returns-in-Err
returns-in-Err c = λ bytes are holds is len. record {
  bytes = are;
  stage = λ more both. header_error bytes more _ (omega (arith, len)) (ap header_fault (sym (c.as_slice.ensures.bytes ∙ is)) ∙ c.in-Err.ensures);
}

pub returns-then-left-gt0 : goal.returns-then-left-gt0
returns-then-left-gt0 c = λ bytes are holds is len.
    let r = c.in-Ok.ensures in
    let has : HasHeader c.in-Ok.header bytes = subst (λ (x : List ℕ). HasHeader c.in-Ok.header x) (c.as_slice.ensures.bytes ∙ is) (record { none = r.0; long = r.1; size = r.2; fields = r.3 }) in
    record { bytes = are; stage = (holds, has, omega (arith, (header_ends c.in-Ok.header bytes has.fields).0, r.2, len), omega arith) }

pub returns-else-left-gt0 : goal.returns-else-left-gt0
returns-else-left-gt0 c = λ bytes are holds is len.
    let r = c.in-Ok.ensures in
    let has : HasHeader c.in-Ok.header bytes = subst (λ (x : List ℕ). HasHeader c.in-Ok.header x) (c.as_slice.ensures.bytes ∙ is) (record { none = r.0; long = r.1; size = r.2; fields = r.3 }) in
    c.after_payload.ensures bytes are holds has (omega (arith, (header_ends c.in-Ok.header bytes has.fields).0, r.2, len))
