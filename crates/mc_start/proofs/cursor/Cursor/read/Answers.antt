use Rattle.std.specs.Prelude.{Ok}
use Rattle.std.proofs.Common.{ap}
use Rattle.mc_start.specs.{Cursor.{start_text}, Start.{schedule_text}, declared.cursor.Cursor.{Cursor}}
use Rattle.mc_start.proofs.Cursors.{field_of, start_of, cursor_is}
use Rattle.mc_start.proofs.cursor.Cursor.read.Goals as goal

pub returns-in_default-read-clause-exact : goal.returns-in_default-read-clause-exact
returns-in_default-read-clause-exact c k ok given =
    let r = c.in-Some.ensures.only k.rules (start_text k.digest k.bound (schedule_text k.schedule)) given in
    c.in_default-read.ensures.only (field_of k.digest k.bound) (schedule_text k.schedule) (start_of k ok) r.1

pub returns-in_default-read-clause-only : goal.returns-in_default-read-clause-only
returns-in_default-read-clause-only c k ok given = absurd (returns-in_default-read-clause-exact c k ok given)

pub returns-in_default-read-2-clause-exact : goal.returns-in_default-read-2-clause-exact
returns-in_default-read-2-clause-exact c k ok given =
    let r = c.in-Some.ensures.only k.rules (start_text k.digest k.bound (schedule_text k.schedule)) given in
    let s = c.in-Some-read.ensures.only (field_of k.digest k.bound) (schedule_text k.schedule) (start_of k ok) r.1 in
    let none = c.in_default-read-2.ensures.only k.schedule ok.schedule s.1 in
    absurd cc

pub returns-in_default-read-2-clause-only : goal.returns-in_default-read-2-clause-only
returns-in_default-read-2-clause-only c k ok given = absurd (returns-in_default-read-2-clause-exact c k ok given)

pub returns-clause-only : goal.returns-clause-only
returns-clause-only c k ok given =
    let r = c.in-Some.ensures.only k.rules (start_text k.digest k.bound (schedule_text k.schedule)) given in
    let s = c.in-Some-read.ensures.only (field_of k.digest k.bound) (schedule_text k.schedule) (start_of k ok) r.1 in
    let cuts = c.in-Ok.ensures.only k.schedule ok.schedule s.1 in
    ap (λ (x : Cursor). Ok x) (cursor_is c.in-Some.rules c.in-Some-read.start c.in-Ok.schedule k r.0 s.0 cuts)
