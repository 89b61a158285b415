use Rattle.std.proofs.Common.{◌≡◌, ◌++◌, take, map}
use Rattle.amf_iso.specs.Contents.{pairs_of}
use Rattle.amf_show.specs.Shown.{joined}
use Rattle.amf_show.specs.Listing.{shown_pair}
use Rattle.amf_show.proofs.lister.Lister.push_each.Given as goal

abbrev pub invariant-loop-place : goal.invariant-loop-place
invariant-loop-place l = l.out.items ≡ l.fn.out.items ++ joined (map (shown_pair l.self.numbering.now) (pairs_of l.self.graph.now.arena (take l.place l.pairs)))
