use Rattle.std.proofs.Common.{refl}
use Rattle.mc_image.specs.inner.VersionReading.{version_read}
use Rattle.mc_image.proofs.reading.version_read.Goals as goal

pub returns-in_default : goal.returns-in_default
unfolding version_read
returns-in_default c = rw c.in_default.ensures refl
