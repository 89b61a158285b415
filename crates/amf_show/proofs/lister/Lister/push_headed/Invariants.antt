use Rattle.std.proofs.Common.{◌≡◌, ◌++◌, take, map}
use Rattle.std.specs.List.{zip}
use Rattle.amf_graph.specs.Arena.{traits_at}
use Rattle.amf_iso.specs.Contents.{values_of}
use Rattle.amf_show.specs.Shown.{joined}
use Rattle.amf_show.specs.Listing.{shown_pair}
use Rattle.amf_show.proofs.lister.Lister.push_headed.Given as goal

abbrev pub invariant-loop-place : goal.invariant-loop-place
invariant-loop-place l = l.out.items ≡ l.fn.out.items ++ joined (map (shown_pair l.self.numbering.now) (zip (take l.place (traits_at l.self.graph.now.arena l.class.traits.0).sealed) (values_of l.self.graph.now.arena (take l.place l.values))))
