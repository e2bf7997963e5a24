use Rattle.std.proofs.Common.{inl, inr}
use Rattle.mc_image.proofs.Scans.{found_first, found_further, some_one, some_many}
use Rattle.mc_image.proofs.areas.Found.with.Goals as goal

pub returns-in-Nothing : goal.returns-in-Nothing
returns-in-Nothing c = λ whole begun h filled is. found_first _ whole begun (rw c.in-Nothing.is at h) filled is

pub returns-in-One : goal.returns-in-One
returns-in-One c = λ whole begun h filled is.
    found_further _ whole begun (elim c.in-One.is [ inl f ↦ some_one c.args.self f.0 whole f.1 h | inr f ↦ some_many c.args.self whole f h ]) filled is
