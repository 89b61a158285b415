use Rattle.amf_listings.proofs.FileRows.{file_listing_rows}
use Rattle.amf_listings.proofs.facts.file_listing_rows.Goals as goal

pub returns : goal.returns
returns c = file_listing_rows
