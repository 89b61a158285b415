use Rattle.std.proofs.Common.{◌≡◌, ◌++◌, take}
use Rattle.amf_graph.specs.Views.{flat}
use Rattle.amf_iso.specs.Contents.{values_of}
use Rattle.amf_show.specs.Shown.{joined}
use Rattle.amf_show.specs.Listing.{entries_in}
use Rattle.amf_show.proofs.lister.Lister.push_entries.Given as goal

abbrev pub invariant-loop-place : goal.invariant-loop-place
invariant-loop-place l = l.out.items ≡ l.fn.out.items ++ joined (entries_in l.self.numbering.now (values_of l.self.graph.now.arena (flat (take l.place l.entries))))
