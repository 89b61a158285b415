use Rattle.std.proofs.Common.{◌≡◌, ◌++◌, take, map}
use Rattle.amf_iso.specs.Contents.{values_of}
use Rattle.amf_show.specs.Shown.{joined}
use Rattle.amf_show.specs.Listing.{shown_value}
use Rattle.amf_show.proofs.lister.Lister.push_items.Given as goal

abbrev pub invariant-loop-place : goal.invariant-loop-place
invariant-loop-place l = l.out.items ≡ l.fn.out.items ++ joined (map (shown_value l.self.numbering.now) (values_of l.self.graph.now.arena (take l.place l.values)))
