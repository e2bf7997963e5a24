use Rattle.std.proofs.{Common.{arith, sym, ap, ◌∙◌, ◌++◌, [], length-append, subst, List, ℕ}, lemmas.List.{append-nil}}
use Rattle.mc_image.specs.Image.{IsBytes}
use Rattle.mc_image.specs.Verdict.{verdict}
use Rattle.mc_image.proofs.JudgeLaws.{fields_short, body_short, header_ends, has_header_more, plain_error, at_stage, no_magic, no_room}
use Rattle.mc_image.proofs.judge.Judge.finish.Goals as goal

pub returns-in-Fields : goal.returns-in-Fields
returns-in-Fields c = λ bytes h. sym (fields_short bytes (at_stage _ c.in-Fields.is h).1)

pub returns-in-Payload : goal.returns-in-Payload
returns-in-Payload c = λ bytes h.
    let s = at_stage _ c.in-Payload.is h in
    let e = header_ends _ bytes s.1.fields in
    sym (body_short bytes s.1.none (omega (arith, e.0, e.1, s.2, s.3)))

pub returns-in-Protected : goal.returns-in-Protected
returns-in-Protected c = λ bytes h.
    let s = at_stage _ c.in-Protected.is h in
    let p = s.2 in
    let has = has_header_more _ p.prefix p.rest p.header in
    let e = header_ends _ (p.prefix ++ p.rest) has.fields in
    let f = header_ends _ p.prefix p.header.fields in
    sym (ap verdict p.split ∙ body_short (p.prefix ++ p.rest) has.none (omega (arith, e.1, f.0, p.len, p.left, s.1, length-append p.prefix p.rest)))

pub returns-in-PlainHead : goal.returns-in-PlainHead
returns-in-PlainHead c = λ bytes h.
    let b = at_stage _ c.in-PlainHead.is h in
    sym (ap verdict b.split ∙ plain_error _ b.body b.sealed b.rest _ (no_magic b.rest b.stands.0))

pub returns-in-Plain : goal.returns-in-Plain
returns-in-Plain c = λ bytes h.
    let s = at_stage _ c.in-Plain.is h in
    let b = s.1 in
    sym (ap verdict b.split ∙ plain_error _ b.body b.sealed b.rest _ (no_room _ _ _ b.rest b.stands s.0))

pub returns-in-Over : goal.returns-in-Over
returns-in-Over c = λ bytes h.
    let same = append-nil bytes in
    sym (ap verdict (sym same) ∙ at_stage _ c.in-Over.is h [] (subst (λ (x : List ℕ). IsBytes x) (sym same) h.bytes))
