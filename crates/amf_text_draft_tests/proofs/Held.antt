-- What nodes and classes of a graph name is there.
use Rattle.std.proofs.Common.{◌≡◌, ℕ, ◌<◌, length, get_or, subst}
use Rattle.amf_graph.specs.declared.views.TraitsView.{TraitsView}
use Rattle.amf_graph.specs.Arena.{Arena, StoredTraits, StoredNode, IsFinished, IsNodeIn, IsTraitsIn, no_traits}
use Rattle.amf_graph.specs.Building.{stored_at, no_stored, stored_traits}
use Rattle.amf_graph.specs.Views.{ShowsTraits}
use Rattle.amf_graph.proofs.Alls.{all_at}

pub node_in : (a : Arena) (i : ℕ) (n : StoredNode) → IsFinished a → i < length a.nodes → stored_at a i ≡ n → IsNodeIn a n
node_in a i n f l e = subst (λ (m : StoredNode). IsNodeIn a m) e (all_at (IsNodeIn a) a.nodes i no_stored l f.built.nodes)

pub traits_in : (a : Arena) (t : ℕ) (v : TraitsView) → IsFinished a → t < length a.traits → ShowsTraits (get_or a.traits t no_traits) v → IsTraitsIn a (stored_traits v.class v.dynamic v.sealed.now)
traits_in a t v f l s = subst (λ (w : StoredTraits). IsTraitsIn a w) s (all_at (IsTraitsIn a) a.traits t no_traits l f.built.traits)
