-- Answers as graphs of their own, made of what came: nothing of builders is in them.
use Rattle.std.specs.Prelude.{ℕ, ◌+◌, List, [], ◌∷◌, ◌++◌, length, map}
use Rattle.amf_graph.specs.Graph.{Value, leaf, node, Node, Graph, node_at}
use Rattle.flex_msgs.specs.declared.reply.Reply.{Reply}
use Rattle.flex_msgs.specs.declared.reply.FaultText.{FaultText}
use Rattle.flex_msgs.specs.Asked.{Told}
use Rattle.flex_msgs.specs.Messages.{acknowledge_nodes, error_nodes, sync_nodes, invalidate_nodes, published_node, delivered_node, other_values}

-- the nodes of a graph, and further ones behind them; the root is the one at this place among these
abbrev pub rooted_behind : ℕ → List Node → (ℕ → List Node) → Graph
rooted_behind last ns more = record { nodes = ns ++ more (length ns); root = node (length ns + last) }

-- an acknowledge whose body is a value of a graph
abbrev pub acknowledge_graph : Reply → Graph → Value → Graph
acknowledge_graph r g body = rooted_behind 1 g.nodes (acknowledge_nodes r body)

abbrev pub error_graph : Reply → FaultText → Graph
error_graph r f = rooted_behind 1 [] (error_nodes r f)

-- the message that is stored: the values of the request, and a node for the message
abbrev pub published_graph : Graph → Told → List ℕ → ℕ → Graph
published_graph g t correlation moment = rooted_behind 0 g.nodes (λ n. published_node t.message t.destination correlation moment t.body t.headers ∷ [])

-- Several graphs as one, each behind those before.

abbrev pub shifted_value : ℕ → Value → Value
shifted_value n (leaf x) = leaf x
shifted_value n (node i) = node (n + i)

abbrev pub shifted_node : ℕ → Node → Node
shifted_node n a = record { head = a.head; names = map (λ p. (p.0, shifted_value n p.1)) a.names; values = map (shifted_value n) a.values }

abbrev pub shifted_nodes : ℕ → List Node → List Node
shifted_nodes n ns = map (shifted_node n) ns

-- nodes, and some values of them
pub record Batch : Type 0 where
  pub nodes : List Node
  pub values : List Value

abbrev pub empty_batch : Batch
empty_batch = record { nodes = []; values = [] }

-- one graph more, and its root behind the values
abbrev pub and_graph : Batch → Graph → Batch
and_graph b g = record { nodes = b.nodes ++ shifted_nodes (length b.nodes) g.nodes; values = b.values ++ shifted_value (length b.nodes) g.root ∷ [] }

abbrev pub batch_of : Batch → List Graph → Batch
batch_of b [] = b
batch_of b (g ∷ gs) = batch_of (and_graph b g) gs

abbrev pub values_at : Graph → Value → List Value
values_at g (node i) = (node_at g i).values
values_at g (leaf x) = []

-- a stored message with a client
abbrev pub delivered_graph : List ℕ → Graph → Graph
delivered_graph client s = rooted_behind 0 s.nodes (λ n. delivered_node client (other_values (values_at s s.root)) ∷ [])

abbrev pub invalidate_graph : Reply → Graph
invalidate_graph r = rooted_behind 1 [] (invalidate_nodes r)

-- a sync whose body is the array of these messages
abbrev pub sync_graph : Reply → List Graph → Graph
sync_graph r gs = let b = batch_of empty_batch gs in rooted_behind 2 b.nodes (sync_nodes r b.values)
