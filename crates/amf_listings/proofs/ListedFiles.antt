-- A shared object has one listing, and the same shared objects have the same.
use Rattle.std.proofs.Common.{◌≡◌, ℕ, List, ◌++◌, sym, ap, ◌∙◌}
use Rattle.amf_show.proofs.Alike.{one_listing as one_graph_listing, listed_alike}
use Rattle.amf_sol.specs.SharedObject.{Shared}
use Rattle.amf_listings.specs.FileListing.{file_line, IsFileListing}
use Rattle.amf_listings.specs.SameFile.{SameFile}

pub one_listing : (o : Shared) (b c : List ℕ) → IsFileListing o b → IsFileListing o c → b ≡ c
one_listing o b c (l, is, e) (k, also, d) = e ∙ ap (λ w. file_line o.name o.version ++ w) (one_graph_listing o.holder l k is also) ∙ sym d

pub same_listing : (o k : Shared) (b : List ℕ) → SameFile o k → IsFileListing o b → IsFileListing k b
same_listing o k b m (l, is, e) = (l, listed_alike o.holder k.holder l m.holder is, e ∙ ap (λ n. file_line n o.version ++ l) m.name ∙ ap (λ v. file_line k.name v ++ l) m.version)
