-- A request that was viewed: its names are texts that a builder takes, and what is none is answered alike.
use Rattle.std.proofs.Common.{◌≡◌, ◌∙◌, List, Some, None, refl, sym, ap}
use Rattle.amf_graph.specs.declared.value.Value.{Value as Stored}
use Rattle.amf_graph.specs.Arena.{Arena, IsFinished, graph_of, value_content}
use Rattle.amf_graph.specs.Bounds.{IsWithinBounds}
use Rattle.flex_msgs.specs.declared.request.Common.{Common}
use Rattle.flex_msgs.specs.declared.request.Request.{Request}
use Rattle.flex_msgs.specs.declared.request.Request.TheVariants.{Remoting, Command, Async}
use Rattle.flex_msgs.specs.declared.not_a_message.NotAMessage.{NotAMessage}
use Rattle.flex_msgs.specs.declared.not_a_message.NotAMessage.TheVariants.{NotObject, NotServed, WrongKind, Memory}
use Rattle.flex_msgs.specs.Asked.{told, asked, IsCommon, IsRequest, Viewed, request}
use Rattle.flex_msgs.specs.Viewing.{value_view, Refuses}
use Rattle.amf_graph.specs.Graph.{Graph, Value}
use Rattle.amf_packet.specs.Packet.{Body}
use Rattle.amf_service.specs.Registry.{Entry}
use Rattle.amf_answer_plan.specs.Causes.{bad_message}
use Rattle.amf_answer_plan.specs.Flex.{message_of, message_in, viewed_answer, flex}
use Rattle.amf_answer_plan.specs.Replies.{no_context, error}
use Rattle.amf_answer_plan.specs.Kept.{CommonFits, RequestFits}
use Rattle.amf_flex_replies.proofs.ViewedShort.{ShortTold, ShortAsked, request_short}

common_fits : (a : Arena) (c : Common) → IsCommon a c → ShortTold (told a c) → CommonFits c
common_fits a c i s = record {
  message = record { text = i.message; short = s.message };
  destination = record { text = i.destination; short = s.destination };
  client = record { text = i.client; short = s.client };
  ds_id = record { text = i.ds_id; short = s.ds_id };
  subtopic = record { text = i.subtopic; short = s.subtopic };
}

asked_fits : (a : Arena) (r : Request) → IsRequest a r → ShortAsked (asked a r) → RequestFits r
asked_fits a (Remoting c operation) i s = (common_fits a c i.0 s.0, record { text = i.1; short = s.1 })
asked_fits a (Command c operation) i s = common_fits a c i s
asked_fits a (Async c correlation) i s = (common_fits a c i.0 s.0, record { text = i.1; short = s.1 })

pub request_fits : (a : Arena) (root v : Stored) (r : Request) → IsFinished a → IsWithinBounds a → IsRequest a r → value_view (graph_of a root) (value_content a v) ≡ request (asked a r) → RequestFits r
request_fits a root v r fin bounds i e = asked_fits a r i (request_short a root v (asked a r) fin bounds e)

-- whyever it is no message that is served
pub refused_answer : (services : List Entry) (g : Graph) (v : Viewed) (e : NotAMessage) → Refuses v e → (e ≡ Memory → ⊥) → error no_context bad_message ≡ viewed_answer services g v
refused_answer services g v NotObject r never = sym (ap (viewed_answer services g) r)
refused_answer services g v NotServed r never = sym (ap (viewed_answer services g) r)
refused_answer services g v (WrongKind m) r never = sym (ap (viewed_answer services g) r)
refused_answer services g v Memory r never = absurd (never refl)

-- the message of a body, and that it has none
pub flex_is : (services : List Entry) (b : Body) (g : Graph) (v : Value) → message_of b.form b.graph ≡ Some v → b.graph ≡ g → viewed_answer services g (value_view g v) ≡ flex services b
flex_is services b g v found same = sym (ap (message_in services b.graph) found ∙ ap (λ (h : Graph). viewed_answer services h (value_view h v)) same)

pub flex_none : (services : List Entry) (b : Body) → message_of b.form b.graph ≡ None → error no_context bad_message ≡ flex services b
flex_none services b none = sym (ap (message_in services b.graph) none)
