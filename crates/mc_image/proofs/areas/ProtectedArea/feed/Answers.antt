use Rattle.mc_image.proofs.Scans.{follows_more}
use Rattle.mc_image.proofs.areas.ProtectedArea.feed.Goals as goal

pub returns : goal.returns
returns c = λ bytes f. follows_more c.args.self c.with.result.0 c.feed-scan.result c.args.piece.now _ c.with.ensures.held c.with.ensures.rest c.feed-scan.ensures bytes f
