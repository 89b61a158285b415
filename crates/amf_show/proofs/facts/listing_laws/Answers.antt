-- The laws of listings hold.
use Rattle.std.proofs.Common.{refl}
use Rattle.amf_graph.proofs.OrderExists.{order_exists}
use Rattle.amf_show.specs.Listing.{shown_graph}
use Rattle.amf_show.proofs.Alike.{one_listing, same_listing}
use Rattle.amf_show.proofs.facts.listing_laws.Goals as goal

pub returns : goal.returns
returns c = record {
  some_listing = λ g w. let o = order_exists g w.there in (shown_graph g o.0, (o.0, o.1, refl));
  one_listing = one_listing;
  same_listing = same_listing;
}
