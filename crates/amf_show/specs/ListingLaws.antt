-- A whole graph has one listing, and isomorphic graphs have the same.
use Rattle.std.specs.Prelude.{◌≡◌, ℕ, List}
use Rattle.amf_graph.specs.Graph.{Graph}
use Rattle.amf_graph.specs.Isomorphic.{Isomorphic}
use Rattle.amf_graph.specs.Reached.{IsWhole}
use Rattle.amf_show.specs.Listing.{IsListing}

pub record ListingLaws : Type 0 where
  pub some_listing : (g : Graph) → IsWhole g → (b : List ℕ) × IsListing g b
  pub one_listing : (g : Graph) (b c : List ℕ) → IsListing g b → IsListing g c → b ≡ c
  pub same_listing : (g h : Graph) (b c : List ℕ) → Isomorphic g h → IsListing g b → IsListing h c → b ≡ c
