-- What a message that was built says.
use Rattle.std.proofs.Common.{◌≡◌, ℕ, ◌+◌, ◌≤◌, List, [], ◌∷◌, length, refl, sym, ap, subst, arith, inl, inr}
use Rattle.amf_graph.specs.declared.value.Value.{Value as Stored}
use Rattle.amf_graph.specs.declared.value.Value.TheVariants.{Null}
use Rattle.amf_graph.specs.Arena.{Arena, IsBuilt, IsFinished, Names, Completes, graph_of, value_content}
use Rattle.amf_graph.specs.Bounds.{weight}
use Rattle.amf_graph.specs.Building.{no_arena}
use Rattle.amf_graph.specs.Grafting.{Grafted, IsTooMuch}
use Rattle.amf_graph.specs.GraftLaws.{GraftPairs}
use Rattle.amf_graph.specs.Graph.{Graph}
use Rattle.amf_graph.specs.Isomorphic.{StandIn, ValuesMatch, Isomorphic}
use Rattle.amf_graph.specs.Roots.{SameFrom}
use Rattle.amf_graph.specs.Rooted.{RootedArena, content}
use Rattle.amf_graph.proofs.FinishedSmall.{completes_itself}
use Rattle.amf_graph.proofs.Matched.{graft_law}
use Rattle.flex_msgs.specs.declared.reply.Reply.{Reply}
use Rattle.flex_msgs.specs.declared.reply.FaultText.{FaultText}
use Rattle.flex_msgs.specs.declared.request.Common.{Common}
use Rattle.flex_msgs.specs.Asked.{IsCommon, told}
use Rattle.flex_msgs.specs.Answers.{error_graph, acknowledge_graph, published_graph}
use Rattle.flex_msgs.specs.Built.{IsReply, IsShortReply, Errors, Acknowledges, Publishes, HasRoomFor, LacksRoomFor, client_texts}
use Rattle.flex_msgs.specs.Messages.{null_value}
use Rattle.flex_msgs.proofs.AnsweredAlike.{error_law, none_stand}
use Rattle.flex_msgs.proofs.BuiltAlike.{acknowledge_law}
use Rattle.flex_msgs.proofs.PublishedAlike.{completes_earlier, published_law}
use Rattle.flex_msgs.proofs.Rooms.{grew_graft}
use Rattle.amf_answer_plan.proofs.Uses.{texts_used, traits_used, nodes_used}
use Rattle.amf_answer_plan.specs.Replies.{no_nodes}

pub error_built : (r : Reply) (f : FaultText) (old new : Arena) (u : Stored) (g : RootedArena) → Errors r f old new u → IsFinished new → g ≡ record { arena = new; root = u } → Isomorphic (error_graph r f) (content g)
error_built r f old new u g adds fin e = subst (λ (z : RootedArena). Isomorphic (error_graph r f) (content z)) (sym e) (error_law r f old new u adds new (completes_itself new fin))

-- null is the same in every graph
abbrev null_same : (h : Graph) (a : Arena) (b : Stored) → b ≡ Null → SameFrom no_nodes h (null_value ∷ []) (value_content a b ∷ [])
null_same h a b e = record {
  pairs = [];
  left = λ i j k p q. absurd (none_stand i j p);
  right = λ i j k p q. absurd (none_stand i k p);
  within = λ i j p. absurd (none_stand i j p);
  roots = (subst (λ (z : Stored). ValuesMatch (StandIn []) null_value (value_content a z)) (sym e) refl, tt);
  nodes = λ i j p. absurd (none_stand i j p);
}

null_acknowledged : (r : Reply) → r.body ≡ Null → (old new : Arena) (u : Stored) → Acknowledges r old new u → IsFinished new → Isomorphic (acknowledge_graph r no_nodes null_value) (graph_of new u)
null_acknowledged r e old new u adds fin =
    acknowledge_law r old new u adds new (completes_itself new fin) no_nodes null_value (null_same (graph_of new u) new r.body e) (λ i j p. absurd (none_stand i j p))

pub acknowledge_built : (r : Reply) (old new : Arena) (u : Stored) (g : RootedArena) → r.body ≡ Null → Acknowledges r old new u → IsFinished new → g ≡ record { arena = new; root = u } → Isomorphic (acknowledge_graph r no_nodes null_value) (content g)
acknowledge_built r old new u g n adds fin e = subst (λ (z : RootedArena). Isomorphic (acknowledge_graph r no_nodes null_value) (content z)) (sym e) (null_acknowledged r n old new u adds fin)

-- A body that was grafted into an empty builder.

root_of : (a : Arena) (root copy : Stored) (old new : Arena) → IsFinished a → Names a root → IsBuilt old → Grafted a (root ∷ []) old new (copy ∷ []) → (h : Arena) (u : Stored) → Completes new h →
    GraftPairs (graph_of a root) (graph_of h u) (value_content a root ∷ []) (value_content h copy ∷ []) (length old.nodes) (length new.nodes)
root_of a root copy old new fin named built g h u done = graft_law a (root ∷ []) old new (copy ∷ []) fin (named, tt) built g h done root u

pub grafted_built : (r : Reply) (a : Arena) (root : Stored) (old between new : Arena) (u : Stored) (g : RootedArena) → IsFinished a → Names a root → IsBuilt old → Grafted a (root ∷ []) old between (r.body ∷ []) → Acknowledges r between new u → IsFinished new → g ≡ record { arena = new; root = u } →
    Isomorphic (acknowledge_graph r (graph_of a root) (value_content a root)) (content g)
grafted_built r a root old between new u g fin named built graft adds done e =
    let later = completes_itself new done in
    let pairs = root_of a root r.body old between fin named built graft new u (completes_earlier between new new u _ adds later) in
    subst (λ (z : RootedArena). Isomorphic (acknowledge_graph r (graph_of a root) (value_content a root)) (content z)) (sym e)
    (acknowledge_law r between new u adds new later (graph_of a root) (value_content a root) pairs.same (λ i j p. (pairs.new i j p).1))

pub published_built : (a : Arena) (root : Stored) (c : Common) (correlation : List ℕ) (moment : ℕ) (old new : Arena) (u : Stored) (g : RootedArena) → IsFinished a → IsBuilt old → IsCommon a c → Publishes a c correlation moment old new u → IsFinished new → g ≡ record { arena = new; root = u } →
    Isomorphic (published_graph (graph_of a root) (told a c) correlation moment) (content g)
published_built a root c correlation moment old new u g fin built common p done e =
    subst (λ (z : RootedArena). Isomorphic (published_graph (graph_of a root) (told a c) correlation moment) (content z)) (sym e)
    (published_law a root c correlation moment old new u fin built common.body common.headers p new (completes_itself new done))

-- A reply with another body.

pub texts_over : (r : Reply) (b : Stored) → IsReply r → IsReply (record r { body = b })
texts_over r b t = record { client = t.client; destination = t.destination; ds_id = t.ds_id; message = t.message; correlation = t.correlation }

pub short_over : (r : Reply) (b : Stored) → IsShortReply r → IsShortReply (record r { body = b })
short_over r b s = record { client = s.client; destination = s.destination; ds_id = s.ds_id; message = s.message; correlation = s.correlation }

pub null_again : (r : Reply) → r.body ≡ Null → record r { body = Null } ≡ r
null_again r e = ap (λ (b : Stored). record r { body = b }) (sym e)

pub nothing_built : IsBuilt no_arena
nothing_built = record { texts = tt; traits = tt; nodes = tt }

-- Room: what a light graph uses leaves plenty.

client_few : (x : List ℕ) → client_texts x ≤ 1
client_few [] = omega arith
client_few (b ∷ x) = omega arith

pub graft_fits : (a : Arena) (root : Stored) → IsFinished a → Names a root → weight a ≤ 67108864 → IsTooMuch a (root ∷ []) no_arena → ⊥
graft_fits a root fin named light (c, exact, much) =
    let texts = texts_used a (root ∷ []) fin (named, tt) c exact in
    let traits = traits_used a (root ∷ []) fin (named, tt) c exact in
    let nodes = nodes_used a (root ∷ []) fin (named, tt) c exact in
    elim much [ inl l ↦ omega (arith, l, texts, light) | inr m ↦ elim m [ inl l ↦ omega (arith, l, traits, light) | inr l ↦ omega (arith, l, nodes, light) ] ]

pub room_behind : (a : Arena) (root copy : Stored) (between : Arena) (x : List ℕ) → IsFinished a → Names a root → weight a ≤ 67108864 → Grafted a (root ∷ []) no_arena between (copy ∷ []) → HasRoomFor between (15 + client_texts x) 2 2
room_behind a root copy between x fin named light g =
    let c = g.cut in
    let grew = grew_graft a (root ∷ []) no_arena between (copy ∷ []) g in
    let texts = texts_used a (root ∷ []) fin (named, tt) c g.exact in
    let traits = traits_used a (root ∷ []) fin (named, tt) c g.exact in
    let nodes = nodes_used a (root ∷ []) fin (named, tt) c g.exact in
    record {
      texts = omega (arith, grew.texts, texts, light, client_few x);
      traits = omega (arith, grew.traits, traits, light);
      nodes = omega (arith, grew.nodes, nodes, light);
    }

pub publish_fits : (a : Arena) (c : Common) → IsFinished a → IsCommon a c → weight a ≤ 67108864 → LacksRoomFor a (c.body ∷ c.headers ∷ []) no_arena 12 → ⊥
publish_fits a c fin common light (cut, exact, none) =
    let texts = texts_used a (c.body ∷ c.headers ∷ []) fin (common.body, (common.headers, tt)) cut exact in
    let traits = traits_used a (c.body ∷ c.headers ∷ []) fin (common.body, (common.headers, tt)) cut exact in
    let nodes = nodes_used a (c.body ∷ c.headers ∷ []) fin (common.body, (common.headers, tt)) cut exact in
    none (record { texts = omega (arith, texts, light); traits = omega (arith, traits, light); nodes = omega (arith, nodes, light) })
