use Rattle.std.proofs.Common.{◌++◌, ap, ◌∙◌}
use Rattle.amf_show.proofs.listing.show.Goals as goal

pub returns-clause-shown : goal.returns-clause-shown
returns-clause-shown c =
    let listing = c.in_ok-listing.listing.items in
    (listing, c.in_ok-listing.ensures.listed, c.in_ok-extend_from_slice.ensures.items ∙ ap (λ w. c.args.out.now.items ++ w) c.deref.ensures.value)
