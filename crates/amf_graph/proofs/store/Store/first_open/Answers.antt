-- The first node that is open, by its place.
use Rattle.amf_graph.proofs.Opens.{first_open_is}
use Rattle.amf_graph.proofs.store.Store.first_open.Goals as goal

pub returns : goal.returns
returns c = rw (← c.self.view_is) (first_open_is _ _ c.first_open.ensures)
