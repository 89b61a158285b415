-- The laws of shared objects.
use Rattle.amf_listings.specs.FileLaws.{FileLaws}
use Rattle.amf_listings.proofs.CanonicalFiles.{alone, holder, every, forget, lowered_spelling, lowered_alike}
use Rattle.amf_listings.proofs.LackingFiles.{not_both, lowered_lack, lacks_alike}
use Rattle.amf_listings.proofs.ListedFiles.{one_listing, same_listing}
use Rattle.amf_listings.proofs.SameFileBytes.{same_bytes}

pub file_laws : FileLaws
file_laws = record {
  same_bytes = same_bytes;
  alone = alone;
  holder = holder;
  every = every;
  forget = forget;
  lowered_spelling = lowered_spelling;
  lowered_lack = lowered_lack;
  lowered_alike = lowered_alike;
  not_both = not_both;
  lacks_alike = lacks_alike;
  one_listing = one_listing;
  same_listing = same_listing;
}
