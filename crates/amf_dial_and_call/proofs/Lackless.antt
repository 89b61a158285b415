-- A graph without empty names lacks nothing that its spelling in AMF 3 needs: a caller of `call` can spell what it gives.
use Rattle.std.proofs.Common.{ℕ}
use Rattle.amf_graph.specs.declared.lack.LackKind.{LackKind}
use Rattle.amf_graph.specs.declared.lack.LackKind.TheVariants.{EmptyName, NoForm, LongName, Shared, FarReference, LongFile}
use Rattle.amf_graph.specs.Graph.{Graph, node_at, AllNamed}
use Rattle.amf_graph.specs.Reached.{IsNamed}
use Rattle.amf_graph.proofs.Reaching.{order_reached}
use Rattle.amf3_spelling.specs.Lacks3.{NodeLacks3, IsLack3}

node_lacks_nothing : (g : Graph) (i : ℕ) (kind : LackKind) → AllNamed (node_at g i).names → NodeLacks3 g i kind → ⊥
node_lacks_nothing g i EmptyName named lacks = lacks named
node_lacks_nothing g i NoForm named lacks = lacks
node_lacks_nothing g i LongName named lacks = lacks
node_lacks_nothing g i Shared named lacks = lacks
node_lacks_nothing g i FarReference named lacks = lacks
node_lacks_nothing g i LongFile named lacks = lacks

pub lacks_nothing : (g : Graph) → IsNamed g → (number : ℕ) (kind : LackKind) → IsLack3 g number kind → ⊥
lacks_nothing g named number kind (order, walk, first) =
    let l = first.lacks in
    node_lacks_nothing g l.0 kind (named l.0 ((order_reached g order walk l.0).1 (number, l.1))) l.2
