-- Replies that are made of graphs which are the same but for the numbers of their nodes.
use Rattle.std.proofs.Common.{◌≡◌, ℕ, ◌+◌, Bool, true, false, List, [], ◌∷◌, ◌++◌, Option, Some, None, refl, arith}
use Rattle.std.specs.Prelude.{decimal, if◌then◌else◌}
use Rattle.std.specs.List.{AllZip}
use Rattle.amf_broker.specs.declared.call.Call.{Call}
use Rattle.amf_broker.specs.declared.reply.Delivery.{Delivery}
use Rattle.amf_broker.specs.declared.reply.Reply.{Reply as Told}
use Rattle.amf_broker.specs.declared.reply.Reply.TheVariants.{Client, Subscribed, Batch, Numbered, Again}
use Rattle.amf_graph.specs.Graph.{Value, Graph}
use Rattle.amf_graph.specs.Isomorphic.{ValuesMatch, StandIn, Isomorphic}
use Rattle.amf_graph.specs.Roots.{SameFrom}
use Rattle.flex_msgs.specs.declared.reply.Reply.{Reply}
use Rattle.flex_msgs.specs.declared.reply.FaultText.{FaultText}
use Rattle.flex_msgs.specs.Messages.{client_value, error_nodes, invalidate_nodes, null_value}
use Rattle.flex_msgs.specs.Answers.{acknowledge_graph, error_graph, delivered_graph, invalidate_graph, sync_graph}
use Rattle.amf_packet.specs.Alike.{BodiesMatch}
use Rattle.amf_answer_plan.specs.Batches.{about_poll, invalidates, in_front, delivered, deliveries, synced, sync, batch}
use Rattle.amf_answer_plan.specs.Causes.{no_form, refusal}
use Rattle.amf_answer_plan.specs.Commands.{ask, acknowledge_or, acknowledged, say_subscribed, say_batch, say_connected}
use Rattle.amf_answer_plan.specs.Plan.{Plan, gives, ◌>>=◌}
use Rattle.amf_answer_plan.specs.Replies.{Answer, Context, reply_with, fresh, with_client, failed, if_spelled, answered, error, acknowledge, no_nodes, acknowledge_null}
use Rattle.amf_answer_laws.proofs.Laws.{Laws}
use Rattle.amf_answer_plan.proofs.Wholes.{BehindAlike}
use Rattle.amf_answer_laws.proofs.MatchedPlans.{PlansMatch, then_match}
use Rattle.amf_answer_laws.proofs.RunsAlike.{BothOr}

abbrev pub AnswersMatch : Answer → Answer → Type 0
AnswersMatch a b = (a.well ≡ b.well) × BodiesMatch a.body b.body

abbrev pub Match : Plan Answer → Plan Answer → Type 0
Match = PlansMatch AnswersMatch

pub if_match : {X Y : Type 0} (R : X → Y → Type 0) (b : Bool) (p q : Plan X) (u v : Plan Y) → PlansMatch R p u → PlansMatch R q v → PlansMatch R (if b then p else q) (if b then u else v)
if_match R true p q u v m n = m
if_match R false p q u v m n = n

client_same : (P : ℕ → ℕ → Type 0) (x : List ℕ) → ValuesMatch P (client_value x) (client_value x)
client_same P [] = refl
client_same P (b ∷ x) = refl

pub nothing_same : SameFrom no_nodes no_nodes [] []
nothing_same = record { pairs = []; left = λ i j k p q. absurd (none i j p); right = λ i j k p q. absurd (none i k p); within = λ i j p. absurd (none i j p); roots = tt; nodes = λ i j p. absurd (none i j p) }
  where
    none : (i j : ℕ) → StandIn [] i j → ⊥
    none i j p = let e = p.1 in cc

no_nodes_same : Isomorphic no_nodes no_nodes
unfolding nothing_same
no_nodes_same = record { pairs = []; left = nothing_same.left; right = nothing_same.right; within = nothing_same.within; root = refl; nodes = nothing_same.nodes }

pub zip_behind : {X : Type 0} (R : X → X → Type 0) (xs ys us ws : List X) → AllZip R xs ys → AllZip R us ws → AllZip R (xs ++ us) (ys ++ ws)
zip_behind R [] [] us ws m n = n
zip_behind R [] (y ∷ ys) us ws m n = elim m [ ]
zip_behind R (x ∷ xs) [] us ws m n = elim m [ ]
zip_behind R (x ∷ xs) (y ∷ ys) us ws m n = (m.0, zip_behind R xs ys us ws m.1 n)

module _ (L : Laws) (B : BehindAlike) where
  error_refl : (r : Reply) (f : FaultText) → Isomorphic (error_graph r f) (error_graph r f)
  error_refl r f =
      B no_nodes no_nodes [] [] nothing_same (error_nodes r f 0) (error_nodes r f 0) 1 (omega arith) refl (λ P v at. (
        record { head = refl; names = ((refl, refl), tt); values = tt },
        (record { head = refl; names = tt; values = (refl, (client_same P r.client, (refl, (at 0 (omega arith), (refl, (refl, (refl, (refl, (refl, (refl, (refl, (refl, (refl, tt))))))))))))) }, tt),
      ))

  invalidate_refl : (r : Reply) → Isomorphic (invalidate_graph r) (invalidate_graph r)
  invalidate_refl r =
      B no_nodes no_nodes [] [] nothing_same (invalidate_nodes r 0) (invalidate_nodes r 0) 1 (omega arith) refl (λ P v at. (
        record { head = refl; names = ((refl, refl), tt); values = tt },
        (record { head = refl; names = tt; values = (refl, (client_same P r.client, (refl, (at 0 (omega arith), (refl, (refl, (refl, (refl, (refl, tt))))))))) }, tt),
      ))

  failed_same : (r : Reply) (f : FaultText) → AnswersMatch (failed r f) (failed r f)
  failed_same r f = (refl, record { form = refl; graph = error_refl (record r { client = [] }) f })

  after_fresh : (k : Context) (client : List ℕ) (f g : Reply → Plan Answer) → ((r : Reply) → Match (f r) (g r)) → Match (◌>>=◌ (fresh k client) f) (◌>>=◌ (fresh k client) g)
  after_fresh k client f g m = λ high low at. m (reply_with k client high low at)

  if_spelled_match : (r : Reply) (g h : Graph) → Isomorphic g h → (b : Option (List ℕ)) → AnswersMatch (if_spelled r g b) (if_spelled r h b)
  if_spelled_match r g h i None = failed_same r no_form
  if_spelled_match r g h i (Some b) = (refl, record { form = refl; graph = i })

  answered_match : (r : Reply) (g h : Graph) → Isomorphic g h → Match (answered r g) (answered r h)
  answered_match r g h i = (refl, i, λ b. if_spelled_match r g h i b)

  pub error_same : (k : Context) (f : FaultText) → Match (error k f) (error k f)
  error_same k f = after_fresh k [] (λ r. gives (failed r f)) (λ r. gives (failed r f)) (λ r. failed_same r f)

  pub acknowledge_match : (k : Context) (client : List ℕ) (g h : Graph) (i : Isomorphic g h) (v w : Value) → ValuesMatch (StandIn i.pairs) v w → Match (acknowledge k client g v) (acknowledge k client h w)
  acknowledge_match k client g h i v w m =
      after_fresh k client (λ r. answered r (acknowledge_graph r g v)) (λ r. answered r (acknowledge_graph r h w))
      (λ r. answered_match r (acknowledge_graph r g v) (acknowledge_graph r h w) (L.answers.acknowledge r g h i v w m))

  pub null_same : (k : Context) (client : List ℕ) → Match (acknowledge_null k client) (acknowledge_null k client)
  null_same k client = acknowledge_match k client no_nodes no_nodes no_nodes_same null_value null_value refl

  -- What is said of a reply of the desk.

  pub after_ask : (call : Call) (f g : Told → Plan Answer) → ((r : Told) → Match (f r) (g r)) → Match (◌>>=◌ (ask call) f) (◌>>=◌ (ask call) g)
  after_ask call f g m = λ at. (refl, refl, λ r. m r)

  or_same : (k : Context) (client : List ℕ) (o : Option FaultText) → Match (acknowledge_or k client o) (acknowledge_or k client o)
  or_same k client None = null_same k client
  or_same k client (Some f) = error_same k f

  pub acknowledged_same : (k : Context) (client : List ℕ) (r : Told) → Match (acknowledged k client r) (acknowledged k client r)
  acknowledged_same k client r = or_same k client (refusal r)

  pub subscribed_same : (k : Context) (r : Told) → Match (say_subscribed k r) (say_subscribed k r)
  subscribed_same k (Subscribed id) = null_same k (decimal id)
  subscribed_same k r = acknowledged_same k [] r

  pub connected_same : (k : Context) (r : Told) → Match (say_connected k r) (say_connected k r)
  connected_same k (Client id) = null_same (with_client (decimal id) k) []
  connected_same k r = acknowledged_same k [] r

  -- Batches.

  abbrev Graphs : List Graph → List Graph → Type 0
  Graphs = AllZip Isomorphic

  invalidates_same : (k : Context) (ended : List ℕ) → PlansMatch Graphs (invalidates k ended) (invalidates k ended)
  invalidates_same k [] = tt
  invalidates_same k (sub ∷ ended) = λ high low at.
      let r = reply_with (about_poll k) (decimal sub) high low at in
      then_match Graphs Graphs (invalidates k ended) (invalidates k ended) (λ gs. gives (invalidate_graph r ∷ gs)) (λ gs. gives (invalidate_graph r ∷ gs)) (invalidates_same k ended) (λ x y m. (invalidate_refl r, m))

  front_none : (x y : Option (List Graph)) → BothOr Graphs x y → BothOr Graphs (in_front None x) (in_front None y)
  front_none None None m = tt
  front_none None (Some ys) m = tt
  front_none (Some xs) None m = tt
  front_none (Some xs) (Some ys) m = tt

  front_some : (g h : Graph) → Isomorphic g h → (x y : Option (List Graph)) → BothOr Graphs x y → BothOr Graphs (in_front (Some g) x) (in_front (Some h) y)
  front_some g h i None None m = tt
  front_some g h i None (Some ys) m = absurd m
  front_some g h i (Some xs) None m = absurd m
  front_some g h i (Some xs) (Some ys) m = (i, m)

  deliveries_same : (ds : List Delivery) → PlansMatch (BothOr Graphs) (deliveries ds) (deliveries ds)
  deliveries_same [] = tt
  deliveries_same (d ∷ ds) = (
    refl,
    then_match (BothOr Graphs) (BothOr Graphs) (deliveries ds) (deliveries ds) (λ gs. gives (in_front None gs)) (λ gs. gives (in_front None gs)) (deliveries_same ds) front_none,
    λ g h i.
        let x = delivered_graph (decimal d.sub) g in
        let y = delivered_graph (decimal d.sub) h in
        then_match (BothOr Graphs) (BothOr Graphs) (deliveries ds) (deliveries ds) (λ gs. gives (in_front (Some x) gs)) (λ gs. gives (in_front (Some y) gs)) (deliveries_same ds)
        (front_some x y (L.answers.delivered g h i (decimal d.sub))),
  )

  synced_match : (r : Reply) (gs hs : Option (List Graph)) (ends outs : List Graph) → BothOr Graphs gs hs → Graphs ends outs → Match (synced r gs ends) (synced r hs outs)
  synced_match r None None ends outs m n = failed_same r no_form
  synced_match r None (Some hs) ends outs m n = absurd m
  synced_match r (Some gs) None ends outs m n = absurd m
  synced_match r (Some gs) (Some hs) ends outs m n = answered_match r (sync_graph r (gs ++ ends)) (sync_graph r (hs ++ outs)) (L.answers.sync r (gs ++ ends) (hs ++ outs) (zip_behind Isomorphic gs hs ends outs m n))

  sync_same : (k : Context) (ds : List Delivery) (ended : List ℕ) → Match (sync k ds ended) (sync k ds ended)
  sync_same k ds ended = λ high low at.
      let r = reply_with k [] high low at in
      let next = λ (ends : List Graph). ◌>>=◌ (deliveries ds) (λ gs. synced r gs ends) in
      then_match Graphs AnswersMatch (invalidates k ended) (invalidates k ended) next next (invalidates_same k ended) (λ ends outs n.
      then_match (BothOr Graphs) AnswersMatch (deliveries ds) (deliveries ds) (λ gs. synced r gs ends) (λ gs. synced r gs outs) (deliveries_same ds) (λ gs hs m. synced_match r gs hs ends outs m n))

  batch_same : (k : Context) (ds : List Delivery) (ended : List ℕ) → Match (batch k ds ended) (batch k ds ended)
  batch_same k [] [] = null_same k []
  batch_same k [] (sub ∷ ended) = sync_same k [] (sub ∷ ended)
  batch_same k (d ∷ ds) ended = sync_same k (d ∷ ds) ended

  pub polled_same : (k : Context) (r : Told) → Match (say_batch k r) (say_batch k r)
  polled_same k (Batch ds ended) = batch_same k ds ended
  polled_same k (Numbered number ds ended) = batch_same k ds ended
  polled_same k (Again number ds ended) = batch_same k ds ended
  polled_same k r = acknowledged_same k [] r
