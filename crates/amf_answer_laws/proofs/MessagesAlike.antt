-- Messages that are the same but for the numbers of their nodes are answered alike.
use Rattle.std.proofs.Common.{◌≡◌, ℕ, suc, ◌⊎◌, List, [], ◌∷◌, length, Option, Some, None, refl, sym, ap, ◌∙◌, subst, arith, inl, inr}
use Rattle.std.specs.Prelude.{ℤ, pos, negsuc, ◌==◌, bytes_eq, codes, slice_get, if◌then◌else◌}
use Rattle.std.specs.List.{AllZip}
use Rattle.amf_broker.specs.declared.call.Call.{Call}
use Rattle.amf_broker.specs.declared.call.Call.TheVariants.{Connect, Subscribe, Unsubscribe, Disconnect}
use Rattle.amf_broker.specs.declared.reply.Reply.{Reply as Told}
use Rattle.amf_graph.specs.Graph as graph
use Rattle.amf_graph.specs.Graph.{Leaf, Value, leaf, node, Head, array, Node, Graph, node_at, IsValue, HasTexts, Fits}
use Rattle.amf_graph.specs.ByName.{by_name}
use Rattle.amf_graph.proofs.NameOrder.{by_name_length}
use Rattle.amf_graph.specs.Isomorphic.{ValuesMatch, PairsMatch, NodesMatch, StandIn, Isomorphic}
use Rattle.amf_graph.specs.Reached.{Reached, at_root, inside, Holds, IsReachedValue, IsWhole}
use Rattle.amf0_spelling.specs.declared.form.Form.{Form}
use Rattle.amf0_spelling.specs.declared.form.Form.TheVariants as form
use Rattle.amf_packet.specs.Packet.{Message}
use Rattle.flex_msgs.specs.Asked as asked
use Rattle.flex_msgs.specs.Asked.{Asked, remoting, command, async, Viewed, not_object, not_served, wrong_kind, request}
use Rattle.flex_msgs.specs.declared.reply.FaultText.{FaultText}
use Rattle.flex_msgs.specs.FlexLaws.{ToldMatch, AskedMatch, ViewedMatch}
use Rattle.flex_msgs.specs.Lookup.{pairs_of}
use Rattle.flex_msgs.specs.Messages.{items_node}
use Rattle.flex_msgs.specs.Viewing.{value_view}
use Rattle.amf_service.specs.Meaning.{result, fault, Called, no_service, no_operation, given}
use Rattle.amf_service.specs.Registry.{Entry, called}
use Rattle.amf_service.specs.ServiceLaws.{CalledMatch}
use Rattle.amf_service.specs.Shipped.{unnamed, items_by_kind, items_at, items_of, one_of}
use Rattle.amf_packet.specs.Alike.{MessagesMatch}
use Rattle.amf_answer_plan.specs.Causes as causes
use Rattle.amf_answer_plan.specs.Causes.{bad_message, service_fault, no_form}
use Rattle.amf_answer_plan.specs.Commands as commands
use Rattle.amf_answer_plan.specs.Commands.{client_of, topic_of, poll_call, named_in, say_subscribed, say_connected, acknowledged, publish_spelled}
use Rattle.amf_answer_plan.specs.Flex as flex
use Rattle.amf_answer_plan.specs.Numbers.{number_in}
use Rattle.amf_answer_plan.specs.Packets.{answer_to, null_uri}
use Rattle.amf_answer_plan.specs.Plan.{Plan, gives, ◌>>=◌}
use Rattle.amf_answer_plan.specs.PlainCalls as plain
use Rattle.amf_answer_plan.specs.PlainCalls.{at_last_dot, Target, fault_graph, fault_node}
use Rattle.amf_answer_plan.specs.Remoting as remote
use Rattle.amf_answer_plan.specs.Remoting.{empty_arguments, if_items}
use Rattle.amf_answer_plan.specs.Replies.{Answer, Context, context_of, no_context, error, no_nodes, acknowledge_null}
use Rattle.amf_answer_plan.specs.RespondLaws.{AreLawful}
use Rattle.amf_answer_laws.proofs.Laws.{Laws}
use Rattle.amf_answer_plan.proofs.Wholes.{BehindAlike}
use Rattle.amf_answer_laws.proofs.MatchedPlans.{Equals, PlansMatch, then_match}
use Rattle.amf_answer_laws.proofs.RunsAlike.{BothOr}
use Rattle.amf_answer_laws.proofs.RepliesAlike.{AnswersMatch, Match, if_match, nothing_same, error_same, acknowledge_match, null_same, after_ask, acknowledged_same, subscribed_same, connected_same, polled_same}
use Rattle.amf_answer_plan.proofs.Wholes.{from_value, from_alike, from_whole, array_whole, array_alike}

-- Items of arrays.

zip_length : {X : Type 0} (R : X → X → Type 0) (xs ys : List X) → AllZip R xs ys → length xs ≡ length ys
zip_length R [] [] m = refl
zip_length R [] (y ∷ ys) m = elim m [ ]
zip_length R (x ∷ xs) [] m = elim m [ ]
zip_length R (x ∷ xs) (y ∷ ys) m = ap suc (zip_length R xs ys m.1)

module _ (P : ℕ → ℕ → Type 0) where
  few_names : (a b : Node) → NodesMatch P a b → length a.names ≡ length b.names
  few_names a b m = sym (by_name_length a.names) ∙ zip_length (PairsMatch P) (by_name a.names) (by_name b.names) m.names ∙ by_name_length b.names

  unnamed_match : (ps qs : List (List ℕ × Value)) (vs ws : List Value) → length ps ≡ length qs → AllZip (ValuesMatch P) vs ws → BothOr (AllZip (ValuesMatch P)) (unnamed ps vs) (unnamed qs ws)
  unnamed_match [] [] vs ws l m = m
  unnamed_match [] (q ∷ qs) vs ws l m = absurd (omega arith)
  unnamed_match (p ∷ ps) [] vs ws l m = absurd (omega arith)
  unnamed_match (p ∷ ps) (q ∷ qs) vs ws l m = tt

  kind_items : (d : Head) (a b : Node) → NodesMatch P a b → BothOr (AllZip (ValuesMatch P)) (items_by_kind d a) (items_by_kind d b)
  kind_items array a b m = unnamed_match a.names b.names a.values b.values (few_names a b m) m.values
  kind_items _ a b m = tt

  node_items : (a b : Node) → NodesMatch P a b → BothOr (AllZip (ValuesMatch P)) (items_by_kind a.head a) (items_by_kind b.head b)
  node_items a b m = subst (λ d. BothOr (AllZip (ValuesMatch P)) (items_by_kind a.head a) (items_by_kind d b)) m.head (kind_items a.head a b m)

-- of two graphs the values are in the relation
module _ (g h : Graph) (i : Isomorphic g h) where
  abbrev P : ℕ → ℕ → Type 0
  P = StandIn i.pairs

  items_match : (v w : Value) → ValuesMatch P v w → BothOr (AllZip (ValuesMatch P)) (items_at g v) (items_at h w)
  items_match (leaf x) (leaf y) m = tt
  items_match (leaf x) (node k) m = absurd m
  items_match (node j) (leaf y) m = absurd m
  items_match (node j) (node k) m = node_items P (node_at g j) (node_at h k) (i.nodes j k m)

  one_match : (a b : Option (List Value)) → BothOr (AllZip (ValuesMatch P)) a b → BothOr (ValuesMatch P) (one_of a) (one_of b)
  one_match None None m = tt
  one_match None (Some ws) m = absurd m
  one_match (Some vs) None m = absurd m
  one_match (Some []) (Some []) m = tt
  one_match (Some []) (Some (w ∷ ws)) m = absurd m
  one_match (Some (v ∷ vs)) (Some []) m = absurd m
  one_match (Some (v ∷ [])) (Some (w ∷ [])) m = m.0
  one_match (Some (v ∷ [])) (Some (w ∷ x ∷ ws)) m = absurd m.1
  one_match (Some (v ∷ u ∷ vs)) (Some (w ∷ [])) m = absurd m.1
  one_match (Some (v ∷ u ∷ vs)) (Some (w ∷ x ∷ ws)) m = tt

-- the one item of an array is reached
module _ (g : Graph) where
  unnamed_one : (ps : List (List ℕ × Value)) (vs : List Value) (v : Value) → one_of (unnamed ps vs) ≡ Some v → slice_get vs 0 ≡ Some v
  unnamed_one [] [] v e = absurd cc
  unnamed_one [] (u ∷ []) v e = e
  unnamed_one [] (u ∷ w ∷ vs) v e = absurd cc
  unnamed_one (p ∷ ps) vs v e = absurd cc

  kind_one : (d : Head) (a : Node) (v : Value) → one_of (items_by_kind d a) ≡ Some v → slice_get a.values 0 ≡ Some v
  kind_one array a v e = unnamed_one a.names a.values v e
  kind_one _ a v e = absurd cc

  one_reached : (root v : Value) → g.root ≡ root → one_of (items_at g root) ≡ Some v → IsReachedValue g v
  one_reached (leaf x) v r e = absurd cc
  one_reached (node j) v r e = inr (j, at_root r, inl (0, kind_one (node_at g j).head (node_at g j) v e))

  message_reached : (f : Form) (v : Value) → flex.message_of f g ≡ Some v → IsReachedValue g v
  message_reached form.Call v e = inl (some_is g.root v e)
    where
      some_is : (u v : Value) → Some u ≡ Some v → u ≡ v
      some_is u v e = cc
  message_reached form.Amf3 v e = one_reached g.root v refl e
  message_reached form.Plain v e = one_reached g.root v refl e

-- Arguments are whole and the same.

abbrev AreArguments : Graph → Graph → Type 0
AreArguments g h = IsWhole g × IsWhole h × Isomorphic g h

same_node : (i j : ℕ) → node i ≡ node j → i ≡ j
same_node i j e = cc

holds_none : (v : Value) → Holds (items_node []) v → ⊥
holds_none v (inl h) = let e = h.1 in cc
holds_none v (inr h) = let e = h.2 in cc

only_first : (j : ℕ) → Reached empty_arguments j → j ≡ 0
only_first j (at_root e) = sym (same_node 0 j e)
only_first j (inside k s h) = absurd (holds_none (node j) (subst (λ a. Holds a (node j)) (ap (λ x. node_at empty_arguments x) (only_first k s)) h))

abbrev FitsNode : Node → Type 0
FitsNode a = Fits a.head a.names a.values

empty_value : (v : Value) → IsReachedValue empty_arguments v → IsValue v
empty_value v (inl e) = subst IsValue e tt
empty_value v (inr h) = absurd (holds_none v (subst (λ a. Holds a v) (ap (λ x. node_at empty_arguments x) (only_first h.0 h.1)) h.2))

empty_whole : IsWhole empty_arguments
empty_whole = record {
  there = λ j r. omega (arith, only_first j r);
  values = empty_value;
  texts = λ j r. subst (λ x. HasTexts (node_at empty_arguments x)) (sym (only_first j r)) (record { head = tt; names = tt });
  fits = λ j r. subst (λ x. FitsNode (node_at empty_arguments x)) (sym (only_first j r)) tt;
}

empty_same : BehindAlike → Isomorphic empty_arguments empty_arguments
empty_same B = B no_nodes no_nodes [] [] nothing_same (items_node [] ∷ []) (items_node [] ∷ []) 0 (omega arith) refl (λ P m at. (record { head = refl; names = tt; values = tt }, tt))

module _ (L : Laws) (B : BehindAlike) where
  empty_both : AreArguments empty_arguments empty_arguments
  empty_both = (empty_whole, empty_whole, empty_same B)

  -- Calls by RemotingMessages.

  leaf_arguments : (g h : Graph) (x : Leaf) → BothOr AreArguments (remote.arguments g (leaf x)) (remote.arguments h (leaf x))
  leaf_arguments g h graph.null = empty_both
  leaf_arguments g h _ = tt

  if_items_match : (g h : Graph) (v w : Value) → AreArguments (from_value g v) (from_value h w) → (R : List Value → List Value → Type 0) (a b : Option (List Value)) → BothOr R a b → BothOr AreArguments (if_items g v a) (if_items h w b)
  if_items_match g h v w m R None None n = tt
  if_items_match g h v w m R None (Some ys) n = absurd n
  if_items_match g h v w m R (Some xs) None n = absurd n
  if_items_match g h v w m R (Some xs) (Some ys) n = m

  arguments_match : (g h : Graph) (i : Isomorphic g h) → IsWhole g → IsWhole h → (v w : Value) → ValuesMatch (StandIn i.pairs) v w → (v ≡ leaf graph.null) ⊎ IsReachedValue g v → (w ≡ leaf graph.null) ⊎ IsReachedValue h w → BothOr AreArguments (remote.arguments g v) (remote.arguments h w)
  arguments_match g h i whole_g whole_h (leaf x) (leaf y) m r s = subst (λ z. BothOr AreArguments (remote.arguments g (leaf x)) (remote.arguments h (leaf z))) m (leaf_arguments g h x)
  arguments_match g h i whole_g whole_h (leaf x) (node k) m r s = absurd m
  arguments_match g h i whole_g whole_h (node j) (leaf y) m r s = absurd m
  arguments_match g h i whole_g whole_h (node j) (node k) m r s =
      if_items_match g h (node j) (node k) (from_whole g (node j) (node_reached g j r) whole_g, from_whole h (node k) (node_reached h k s) whole_h, from_alike g h i (node j) (node k) m)
      (AllZip (ValuesMatch (StandIn i.pairs))) (items_at g (node j)) (items_at h (node k)) (items_match g h i (node j) (node k) m)
    where
      node_reached : (g : Graph) (j : ℕ) → (node j ≡ leaf graph.null) ⊎ IsReachedValue g (node j) → IsReachedValue g (node j)
      node_reached g j (inl e) = absurd cc
      node_reached g j (inr r) = r

  outcome_match : (k : Context) (c d : Called) → CalledMatch c d → Match (remote.outcome k c) (remote.outcome k d)
  outcome_match k no_service no_service m = error_same L B k causes.no_service
  outcome_match k no_service no_operation m = absurd cc
  outcome_match k no_service (given y) m = absurd cc
  outcome_match k no_operation no_service m = absurd cc
  outcome_match k no_operation no_operation m = error_same L B k causes.no_operation
  outcome_match k no_operation (given y) m = absurd cc
  outcome_match k (given x) no_service m = absurd cc
  outcome_match k (given x) no_operation m = absurd cc
  outcome_match k (given (fault x)) (given (fault y)) m = subst (λ z. Match (error k (service_fault x)) (error k (service_fault z))) m (error_same L B k (service_fault x))
  outcome_match k (given (fault x)) (given (result h)) m = absurd m
  outcome_match k (given (result g)) (given (fault y)) m = absurd m
  outcome_match k (given (result g)) (given (result h)) m = acknowledge_match L B k [] g h m g.root h.root m.root

  module _ (services : List Entry) (lawful : AreLawful services) where
    call_match : (t : asked.Told) (operation : List ℕ) (a b : Option Graph) → BothOr AreArguments a b → Match (remote.call services t operation a) (remote.call services t operation b)
    call_match t operation None None m = error_same L B (context_of t) bad_message
    call_match t operation None (Some b) m = absurd m
    call_match t operation (Some a) None m = absurd m
    call_match t operation (Some a) (Some b) m =
        outcome_match (context_of t) (called services t.destination operation a) (called services t.destination operation b) (L.services.registry services lawful t.destination operation a b m.0 m.1 m.2)

  -- Commands: of the request u, which is t but for its values.

  abbrev told_with : asked.Told → Value → Value → asked.Told
  told_with t body headers = record t { body = body; headers = headers }

  told_is : (P : ℕ → ℕ → Type 0) (t u : asked.Told) → ToldMatch P t u → told_with t u.body u.headers ≡ u
  told_is P t u m =
      ap (λ (x : List ℕ). told x t.destination t.client t.ds_id t.subtopic) m.message
      ∙ ap (λ (x : List ℕ). told u.message x t.client t.ds_id t.subtopic) m.destination
      ∙ ap (λ (x : List ℕ). told u.message u.destination x t.ds_id t.subtopic) m.client
      ∙ ap (λ (x : List ℕ). told u.message u.destination u.client x t.subtopic) m.ds_id
      ∙ ap (λ (x : List ℕ). told u.message u.destination u.client u.ds_id x) m.subtopic
    where
      told : (message destination client ds_id subtopic : List ℕ) → asked.Told
      told message destination client ds_id subtopic = record { message = message; destination = destination; client = client; ds_id = ds_id; subtopic = subtopic; body = u.body; headers = u.headers }

  publish_same : (t : asked.Told) (m : ℕ) (b : Option (List ℕ)) → Match (publish_spelled t m b) (publish_spelled t m b)
  publish_same t m None = error_same L B (context_of t) no_form
  publish_same t m (Some message) = (refl, refl, λ r. acknowledged_same L B (context_of t) [] r)

  poll_call_same : (P : ℕ → ℕ → Type 0) (client : ℕ) (v w : Value) → ValuesMatch P v w → poll_call client v ≡ poll_call client w
  poll_call_same P client (leaf x) (leaf y) m = ap (λ z. poll_call client (leaf z)) m
  poll_call_same P client (leaf x) (node k) m = absurd m
  poll_call_same P client (node j) (leaf y) m = absurd m
  poll_call_same P client (node j) (node k) m = refl

  ping_same : (t : asked.Told) → Match (commands.ping t) (commands.ping t)
  ping_same t = if_match AnswersMatch (commands.is_new t.ds_id) (commands.connect t) (acknowledge_null (context_of t) []) (commands.connect t) (acknowledge_null (context_of t) [])
      (after_ask L B Connect (say_connected (context_of t)) (say_connected (context_of t)) (connected_same L B (context_of t))) (null_same L B (context_of t) [])

  module _ (g h : Graph) (i : Isomorphic g h) (t : asked.Told) (body headers : Value) (same_body : ValuesMatch (StandIn i.pairs) t.body body) (same_headers : ValuesMatch (StandIn i.pairs) t.headers headers) where
    abbrev u : asked.Told
    u = told_with t body headers

    abbrev k : Context
    k = context_of t

    told_match : ToldMatch (StandIn i.pairs) t u
    told_match = record { message = refl; destination = refl; client = refl; ds_id = refl; subtopic = refl; body = same_body; headers = same_headers }

    publish_match : (correlation : List ℕ) → Match (commands.publish g t correlation) (commands.publish h u correlation)
    publish_match correlation = λ m. (refl, L.answers.published g h i t u told_match correlation m, λ b. publish_same t m b)

    poll_match : Match (commands.poll g t) (commands.poll h u)
    poll_match =
        let one = poll_call (client_of t) (named_in (codes "AMFPoll") (pairs_of g t.headers)) in
        let other = poll_call (client_of t) (named_in (codes "AMFPoll") (pairs_of h headers)) in
        let same : one ≡ other = poll_call_same (StandIn i.pairs) (client_of t) (named_in (codes "AMFPoll") (pairs_of g t.headers)) (named_in (codes "AMFPoll") (pairs_of h headers)) (L.headers g h i t.headers headers same_headers (codes "AMFPoll")) in
        λ m. (refl, same, λ r. polled_same L B k r)

    abbrev other : Plan Answer
    other = error k causes.not_served

    abbrev from12 : ℕ → Graph → asked.Told → Plan Answer
    from12 n a b = if n == 12 then commands.disconnect b else other

    abbrev from5 : ℕ → Graph → asked.Told → Plan Answer
    from5 n a b = if n == 5 then commands.ping b else from12 n a b

    abbrev from2 : ℕ → Graph → asked.Told → Plan Answer
    from2 n a b = if n == 2 then commands.poll a b else from5 n a b

    abbrev from1 : ℕ → Graph → asked.Told → Plan Answer
    from1 n a b = if n == 1 then commands.unsubscribe b else from2 n a b

    by_number_match : (n : ℕ) → Match (commands.by_number g t n) (commands.by_number h u n)
    by_number_match n =
        if_match AnswersMatch (n == 0) (commands.subscribe t) (from1 n g t) (commands.subscribe u) (from1 n h u) (after_ask L B (Subscribe (client_of t) (topic_of t)) (say_subscribed k) (say_subscribed k) (subscribed_same L B k)) (
        if_match AnswersMatch (n == 1) (commands.unsubscribe t) (from2 n g t) (commands.unsubscribe u) (from2 n h u) (after_ask L B (Unsubscribe (client_of t) (number_in t.client)) (acknowledged k t.client) (acknowledged k t.client) (acknowledged_same L B k t.client)) (
        if_match AnswersMatch (n == 2) (commands.poll g t) (from5 n g t) (commands.poll h u) (from5 n h u) poll_match (
        if_match AnswersMatch (n == 5) (commands.ping t) (from12 n g t) (commands.ping u) (from12 n h u) (ping_same t) (
        if_match AnswersMatch (n == 12) (commands.disconnect t) (error k causes.not_served) (commands.disconnect u) (error k causes.not_served) (after_ask L B (Disconnect (client_of t)) (acknowledged k []) (acknowledged k []) (acknowledged_same L B k []))
        (error_same L B k causes.not_served)))))

    command_match : (n : ℤ) → Match (commands.command g t n) (commands.command h u n)
    command_match (pos n) = by_number_match n
    command_match (negsuc n) = error_same L B k causes.not_served

  -- Flex requests.

  module _ (services : List Entry) (lawful : AreLawful services) (g h : Graph) (i : Isomorphic g h) (whole_g : IsWhole g) (whole_h : IsWhole h) where
    abbrev Q : ℕ → ℕ → Type 0
    Q = StandIn i.pairs

    remoting_match : (t : asked.Told) (body headers : Value) (operation : List ℕ) → ValuesMatch Q t.body body → (t.body ≡ leaf graph.null) ⊎ IsReachedValue g t.body → (body ≡ leaf graph.null) ⊎ IsReachedValue h body → Match (remote.remoting services g t operation) (remote.remoting services h (told_with t body headers) operation)
    remoting_match t body headers operation m r s =
        call_match services lawful t operation (remote.arguments g t.body) (remote.arguments h body) (arguments_match g h i whole_g whole_h t.body body m r s)

    -- where the one is remoting, the other's body is reached
    asked_match : (v w : Value) → IsReachedValue g v → IsReachedValue h w → (a b : Asked) → value_view g v ≡ request a → value_view h w ≡ request b → AskedMatch Q a b → Match (flex.asked_answer services g a) (flex.asked_answer services h b)
    asked_match v w rv rw (remoting t o) (remoting u p) e f m =
        let by_body = remoting_match t u.body u.headers o (m.0).body (L.body g v t o rv e) (L.body h w u p rw f) in
        subst (λ z. Match (remote.remoting services g t o) (remote.remoting services h u z)) m.1
        (subst (λ z. Match (remote.remoting services g t o) (remote.remoting services h z o)) (told_is Q t u m.0) by_body)
    asked_match v w rv rw (remoting t o) (command u p) e f m = absurd m
    asked_match v w rv rw (remoting t o) (async u p) e f m = absurd m
    asked_match v w rv rw (command t o) (remoting u p) e f m = absurd m
    asked_match v w rv rw (command t o) (command u p) e f m =
        subst (λ z. Match (commands.command g t o) (commands.command h u z)) m.1
        (subst (λ z. Match (commands.command g t o) (commands.command h z o)) (told_is Q t u m.0) (command_match g h i t u.body u.headers (m.0).body (m.0).headers o))
    asked_match v w rv rw (command t o) (async u p) e f m = absurd m
    asked_match v w rv rw (async t o) (remoting u p) e f m = absurd m
    asked_match v w rv rw (async t o) (command u p) e f m = absurd m
    asked_match v w rv rw (async t o) (async u p) e f m =
        subst (λ z. Match (commands.publish g t o) (commands.publish h u z)) m.1
        (subst (λ z. Match (commands.publish g t o) (commands.publish h z o)) (told_is Q t u m.0) (publish_match g h i t u.body u.headers (m.0).body (m.0).headers o))

    viewed_match : (v w : Value) → IsReachedValue g v → IsReachedValue h w → (x y : Viewed) → value_view g v ≡ x → value_view h w ≡ y → ViewedMatch Q x y → Match (flex.viewed_answer services g x) (flex.viewed_answer services h y)
    viewed_match v w rv rw not_object not_object e f m = error_same L B no_context bad_message
    viewed_match v w rv rw not_served not_served e f m = error_same L B no_context bad_message
    viewed_match v w rv rw (wrong_kind a) (wrong_kind b) e f m = error_same L B no_context bad_message
    viewed_match v w rv rw (request a) (request b) e f m = asked_match v w rv rw a b e f m
    viewed_match v w rv rw not_object not_served e f m = absurd m
    viewed_match v w rv rw not_object (wrong_kind b) e f m = absurd m
    viewed_match v w rv rw not_object (request b) e f m = absurd m
    viewed_match v w rv rw not_served not_object e f m = absurd m
    viewed_match v w rv rw not_served (wrong_kind b) e f m = absurd m
    viewed_match v w rv rw not_served (request b) e f m = absurd m
    viewed_match v w rv rw (wrong_kind a) not_object e f m = absurd m
    viewed_match v w rv rw (wrong_kind a) not_served e f m = absurd m
    viewed_match v w rv rw (wrong_kind a) (request b) e f m = absurd m
    viewed_match v w rv rw (request a) not_object e f m = absurd m
    viewed_match v w rv rw (request a) not_served e f m = absurd m
    viewed_match v w rv rw (request a) (wrong_kind b) e f m = absurd m

    message_match : (a b : Option Value) → ((v : Value) → a ≡ Some v → IsReachedValue g v) → ((w : Value) → b ≡ Some w → IsReachedValue h w) → BothOr (ValuesMatch Q) a b → Match (flex.message_in services g a) (flex.message_in services h b)
    message_match None None r s m = error_same L B no_context bad_message
    message_match None (Some w) r s m = absurd m
    message_match (Some v) None r s m = absurd m
    message_match (Some v) (Some w) r s m = viewed_match v w (r v refl) (s w refl) (value_view g v) (value_view h w) refl refl (L.view g h i v w m)

    message_of_match : (f : Form) → BothOr (ValuesMatch Q) (flex.message_of f g) (flex.message_of f h)
    message_of_match form.Call = i.root
    message_of_match form.Amf3 = one_match g h i (items_of g) (items_of h) (items_match g h i g.root h.root i.root)
    message_of_match form.Plain = one_match g h i (items_of g) (items_of h) (items_match g h i g.root h.root i.root)

    flex_match : (f : Form) → Match (flex.message_in services g (flex.message_of f g)) (flex.message_in services h (flex.message_of f h))
    flex_match f = message_match (flex.message_of f g) (flex.message_of f h) (message_reached g f) (message_reached h f) (message_of_match f)

    -- Plain remoting.

    if_array_match : (R : List Value → List Value → Type 0) (a b : Option (List Value)) → BothOr R a b → BothOr AreArguments (plain.if_array g a) (plain.if_array h b)
    if_array_match R None None m = tt
    if_array_match R None (Some ys) m = absurd m
    if_array_match R (Some xs) None m = absurd m
    if_array_match R (Some xs) (Some ys) m = (whole_g, whole_h, i)

    plain_arguments : (f : Form) → BothOr AreArguments (plain.arguments f g) (plain.arguments f h)
    plain_arguments form.Call = (array_whole g whole_g, array_whole h whole_h, array_alike B g h i)
    plain_arguments form.Amf3 = if_array_match (AllZip (ValuesMatch Q)) (items_of g) (items_of h) (items_match g h i g.root h.root i.root)
    plain_arguments form.Plain = if_array_match (AllZip (ValuesMatch Q)) (items_of g) (items_of h) (items_match g h i g.root h.root i.root)

  fault_refl : (f : FaultText) → Isomorphic (fault_graph f) (fault_graph f)
  fault_refl f = B no_nodes no_nodes [] [] nothing_same (fault_node f ∷ []) (fault_node f ∷ []) 0 (omega arith) refl (λ P m at. (record { head = refl; names = ((refl, refl), ((refl, refl), ((refl, refl), tt))); values = tt }, tt))

  plain_failed : (f : Form) (x : FaultText) → AnswersMatch (plain.failed f x) (plain.failed f x)
  plain_failed f x = (refl, record { form = refl; graph = fault_refl x })

  formed_match : (f : Form) (g h : Graph) → Isomorphic g h → (found : Option Form) → AnswersMatch (plain.if_formed f g found) (plain.if_formed f h found)
  formed_match f g h i None = plain_failed f no_form
  formed_match f g h i (Some found) = (refl, record { form = refl; graph = i })

  in_amf3_match : (g h : Graph) → Isomorphic g h → PlansMatch Equals (plain.form_in_amf3 g) (plain.form_in_amf3 h)
  in_amf3_match g h i = (refl, i, λ b. refl)

  if_plain_match : (g h : Graph) → Isomorphic g h → (b : Option (List ℕ)) → PlansMatch Equals (plain.if_plain g b) (plain.if_plain h b)
  if_plain_match g h i None = in_amf3_match g h i
  if_plain_match g h i (Some b) = refl

  form_match : (f : Form) (g h : Graph) → Isomorphic g h → PlansMatch Equals (plain.form_for f g) (plain.form_for f h)
  form_match form.Plain g h i = (refl, i, λ b. if_plain_match g h i b)
  form_match form.Amf3 g h i = in_amf3_match g h i
  form_match form.Call g h i = in_amf3_match g h i

  succeeded_match : (f : Form) (g h : Graph) → Isomorphic g h → Match (plain.succeeded f g) (plain.succeeded f h)
  succeeded_match f g h i =
      then_match Equals AnswersMatch (plain.form_for f g) (plain.form_for f h) (λ x. gives (plain.if_formed f g x)) (λ x. gives (plain.if_formed f h x)) (form_match f g h i)
      (λ x y e. subst (λ z. AnswersMatch (plain.if_formed f g x) (plain.if_formed f h z)) e (formed_match f g h i x))

  plain_outcome : (f : Form) (c d : Called) → CalledMatch c d → Match (plain.outcome f c) (plain.outcome f d)
  plain_outcome f no_service no_service m = plain_failed f causes.no_service
  plain_outcome f no_service no_operation m = absurd cc
  plain_outcome f no_service (given y) m = absurd cc
  plain_outcome f no_operation no_service m = absurd cc
  plain_outcome f no_operation no_operation m = plain_failed f causes.no_operation
  plain_outcome f no_operation (given y) m = absurd cc
  plain_outcome f (given x) no_service m = absurd cc
  plain_outcome f (given x) no_operation m = absurd cc
  plain_outcome f (given (fault x)) (given (fault y)) m = subst (λ z. AnswersMatch (plain.failed f (service_fault x)) (plain.failed f (service_fault z))) m (plain_failed f (service_fault x))
  plain_outcome f (given (fault x)) (given (result h)) m = absurd m
  plain_outcome f (given (result g)) (given (fault y)) m = absurd m
  plain_outcome f (given (result g)) (given (result h)) m = succeeded_match f g h m

  module _ (services : List Entry) (lawful : AreLawful services) where
    plain_call_match : (f : Form) (t : Target) (a b : Option Graph) → BothOr AreArguments a b → Match (plain.call services f t a) (plain.call services f t b)
    plain_call_match f t None None m = plain_failed f bad_message
    plain_call_match f t None (Some b) m = absurd m
    plain_call_match f t (Some a) None m = absurd m
    plain_call_match f t (Some a) (Some b) m =
        plain_outcome f (called services t.service t.operation a) (called services t.service t.operation b) (L.services.registry services lawful t.service t.operation a b m.0 m.1 m.2)

    target_match : (f : Form) (g h : Graph) → Isomorphic g h → IsWhole g → IsWhole h → (t : Option Target) → Match (plain.plain_call services (record { form = f; graph = g }) t) (plain.plain_call services (record { form = f; graph = h }) t)
    target_match f g h i v w None = plain_failed f causes.no_service
    target_match f g h i v w (Some t) = plain_call_match f t (plain.arguments f g) (plain.arguments f h) (plain_arguments services lawful g h i v w f)

    -- a message with the target and the form of another
    graphs_match : (target response : List ℕ) (f : Form) (g h : Graph) → Isomorphic g h → IsWhole g → IsWhole h →
        Match (answer_to services (record { target = target; response = response; body = record { form = f; graph = g } })) (answer_to services (record { target = target; response = response; body = record { form = f; graph = h } }))
    graphs_match target response f g h i v w =
        if_match AnswersMatch (bytes_eq target null_uri) (flex.flex services (record { form = f; graph = g })) (plain.plain_call services (record { form = f; graph = g }) (at_last_dot target))
        (flex.flex services (record { form = f; graph = h })) (plain.plain_call services (record { form = f; graph = h }) (at_last_dot target))
        (flex_match services lawful g h i v w f) (target_match f g h i v w (at_last_dot target))

    pub answers_match : (m n : Message) → MessagesMatch m n → IsWhole m.body.graph → IsWhole n.body.graph → Match (answer_to services m) (answer_to services n)
    answers_match m n same v w =
        subst (λ z. Match (answer_to services m) (answer_to services (record { target = z; response = n.response; body = n.body }))) same.target
        (subst (λ z. Match (answer_to services m) (answer_to services (record { target = m.target; response = n.response; body = record { form = z; graph = n.body.graph } }))) same.body.form
        (graphs_match m.target n.response m.body.form m.body.graph n.body.graph same.body.graph v w))
