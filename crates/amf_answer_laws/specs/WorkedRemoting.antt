-- Worked facts of calls by RemotingMessages.
use Rattle.std.specs.Prelude.{◌≡◌, ℕ, true, false, List, [], ◌∷◌, codes}
use Rattle.amf_graph.specs.Graph.{Value, Graph, Node, leaf, node, double, object}
use Rattle.amf_graph.specs.Graph as graph
use Rattle.flex_msgs.specs.Answers.{acknowledge_graph}
use Rattle.flex_msgs.specs.Classes.{remoting_class}
use Rattle.flex_msgs.specs.Messages.{text_of, null_value, number_value, items_node}
use Rattle.amf_answer_plan.specs.Causes.{cause, no_form}
use Rattle.amf_answer_plan.specs.Replies.{Answer, in_amf3, failed, nil}
use Rattle.amf_answer_laws.specs.Tried.{Tried}
use Rattle.amf_answer_laws.specs.WorkedClient.{spelled_all, does}
use Rattle.amf_answer_laws.specs.WorkedOrder.{values, words, asks, unspellable, by}

-- a call of an operation, with a body, in front of further nodes
abbrev pub remote : (destination operation : List ℕ) → (body : Value) → List Node → Graph
remote destination operation body more = record {
  nodes = record {
    head = graph.object (record { class = remoting_class; dynamic = false; sealed = codes "destination" ∷ codes "operation" ∷ codes "messageId" ∷ codes "body" ∷ [] });
    names = [];
    values = text_of destination ∷ text_of operation ∷ text_of (codes "m") ∷ body ∷ [];
  } ∷ more;
  root = node 0;
}

abbrev pub answer : Graph → Tried Answer
answer g = by spelled_all (asks g) (9 ∷ []) words []

abbrev pub fails : (destination code text : List ℕ) → Tried Answer
fails destination code text = does [] (failed (values [] destination nil (codes "m") 9) (cause code text))

pub record RemotingRows : Type 0 where
  pub adds : answer (remote (codes "sum") (codes "sum") (node 1) (items_node (number_value 2 ∷ number_value 3 ∷ []) ∷ [])) ≡ does [] (in_amf3 true (acknowledge_graph (values [] (codes "sum") nil (codes "m") 9) (record { nodes = []; root = leaf (double 0x4014000000000000) }) (leaf (double 0x4014000000000000))))
  -- a null body is the array of no arguments
  pub adds_nothing : answer (remote (codes "sum") (codes "sum") null_value []) ≡ does [] (in_amf3 true (acknowledge_graph (values [] (codes "sum") nil (codes "m") 9) (record { nodes = []; root = leaf (double 0) }) (leaf (double 0))))
  -- the answer's body is a value of the graph that came
  pub echoes : answer (remote (codes "echo") (codes "echo") (node 1) (items_node (node 1 ∷ []) ∷ [])) ≡ does [] (in_amf3 true (acknowledge_graph (values [] (codes "echo") nil (codes "m") 9) (remote (codes "echo") (codes "echo") (node 1) (items_node (node 1 ∷ []) ∷ [])) (node 1)))
  -- no list of arguments; this goes before the service's name
  pub no_arguments : answer (remote (codes "nobody") (codes "op") (number_value 1) []) ≡ fails (codes "nobody") (codes "Client.BadMessage") (codes "not a message")
  pub no_service : answer (remote (codes "nobody") (codes "op") null_value []) ≡ fails (codes "nobody") (codes "Client.NoService") (codes "no such service")
  pub no_operation : answer (remote (codes "echo") (codes "other") null_value []) ≡ fails (codes "echo") (codes "Client.NoOperation") (codes "no such operation")
  pub service_fault : answer (remote (codes "echo") (codes "echo") null_value []) ≡ fails (codes "echo") (codes "Service.Fault") (codes "wrong arguments")
  -- a result without a spelling
  pub no_form : by unspellable (asks (remote (codes "sum") (codes "sum") null_value [])) (9 ∷ []) words [] ≡ does [] (failed (values [] (codes "sum") nil (codes "m") 9) no_form)
