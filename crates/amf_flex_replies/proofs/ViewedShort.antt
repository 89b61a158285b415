-- The names of a request that was viewed are texts of its graph or empty, and so no longer than these.
use Rattle.std.proofs.Common.{◌≡◌, ℕ, zero, suc, ◌<◌, Bool, true, false, List, [], ◌∷◌, length, get_or, map, Option, Some, None, refl, subst, arith}
use Rattle.std.specs.Prelude.{ℤ, bytes_eq, if◌then◌else◌}
use Rattle.std.specs.List.{AllByRecursion}
use Rattle.std.proofs.lemmas.Option.{same_Some}
use Rattle.amf_graph.specs.Graph.{Value, leaf, node, null, undefined, boolean, integer, double, text, Traits, Head, xml_document, date, array, object, wrapper, xml, bytes, ints, uints, doubles, values, dictionary, Node, no_node, Graph, node_at}
use Rattle.amf_graph.specs.declared.value.Value.{Value as Stored}
use Rattle.amf_graph.specs.declared.value.Value.TheVariants.{Undefined, Null, Bool as Flag, Integer, Double, Text, Node as NodeRef}
use Rattle.amf_graph.specs.Arena.{Arena, StoredNode, IsFinished, IsNodeIn, IsTextId, Names, graph_of, node_content, text_at, value_content}
use Rattle.amf_graph.specs.Bounds.{IsWithinBounds, count_end}
use Rattle.amf_graph.proofs.Alls.{all_append, all_at}
use Rattle.flex_msgs.specs.declared.request.Member.{Member}
use Rattle.flex_msgs.specs.declared.request.Member.TheVariants as member
use Rattle.flex_msgs.specs.Asked.{Told, Asked, remoting, command, async, Viewed, request}
use Rattle.flex_msgs.specs.Built.{IsShort}
use Rattle.flex_msgs.specs.Classes.{remoting_class, command_class, async_class, served_class, client_name, destination_name, headers_name, message_name, correlation_name, operation_name, ds_id_name, subtopic_name}
use Rattle.flex_msgs.specs.Lookup.{last_or, value_named, sealed_pairs, members_of, pairs_by_kind, pairs_of}
use Rattle.flex_msgs.specs.Viewing.{text_or_null, text_alone, whole_number, or_wrong, common_view, served_view, kind_view, value_view}

abbrev pub ShortValue : Value → Type 0
ShortValue (leaf (text x)) = IsShort x
ShortValue _ = Unit {0}

abbrev ShortPairs : List (List ℕ × Value) → Type 0
ShortPairs = AllByRecursion (λ p. ShortValue p.1)

pub record ShortNode (a : Node) : Type 0 where
  pub names : AllByRecursion (λ p. ShortValue p.1) a.names
  pub values : AllByRecursion ShortValue a.values

either_short : (b : Bool) (v w : Value) → ShortValue v → ShortValue w → ShortValue (if b then v else w)
either_short true v w m n = m
either_short false v w m n = n

last_short : (u : Value) (x : List ℕ) (ps : List (List ℕ × Value)) → ShortValue u → ShortPairs ps → ShortValue (last_or u x ps)
last_short u x [] m h = m
last_short u x (p ∷ ps) m h = last_short (if bytes_eq p.0 x then p.1 else u) x ps (either_short (bytes_eq p.0 x) p.1 u h.0 m) h.1

sealed_short : (xs : List (List ℕ)) (vs : List Value) → AllByRecursion ShortValue vs → ShortPairs (sealed_pairs xs vs)
sealed_short [] vs h = tt
sealed_short (x ∷ xs) [] h = tt
sealed_short (x ∷ xs) (v ∷ vs) h = (h.0, sealed_short xs vs h.1)

members_short : (t : Traits) (a : Node) → ShortNode a → ShortPairs (members_of t a)
members_short t a h = all_append (λ (p : List ℕ × Value). ShortValue p.1) (sealed_pairs t.sealed a.values) a.names (sealed_short t.sealed a.values h.values) h.names

no_text : (v : Value) (x : List ℕ) → ShortValue v → text_or_null v ≡ Some x → IsShort x
no_text (leaf (text y)) x h e = subst IsShort (same_Some y x e) h
no_text (leaf null) x h e = subst IsShort (same_Some [] x e) (omega arith)
no_text (leaf undefined) x h e = cc
no_text (leaf (boolean b)) x h e = cc
no_text (leaf (integer n)) x h e = cc
no_text (leaf (double p)) x h e = cc
no_text (node i) x h e = cc

alone : (v : Value) (x : List ℕ) → ShortValue v → text_alone v ≡ Some x → IsShort x
alone (leaf (text y)) x h e = subst IsShort (same_Some y x e) h
alone (leaf null) x h e = cc
alone (leaf undefined) x h e = cc
alone (leaf (boolean b)) x h e = cc
alone (leaf (integer n)) x h e = cc
alone (leaf (double p)) x h e = cc
alone (node i) x h e = cc

either : {X : Type 0} (P : X → Type 0) (b : Bool) (x y : X) → P x → P y → P (if b then x else y)
either P true x y p q = p
either P false x y p q = q

-- what a view that is a request went on with
passes : {X : Type 0} (m : Member) (o : Option X) (next : X → Viewed) (r : Asked) → or_wrong m o next ≡ request r → (x : X) × (o ≡ Some x) × (next x ≡ request r)
passes m None next r e = absurd cc
passes m (Some x) next r e = (x, refl, e)

pub record ShortTold (t : Told) : Type 0 where
  pub message : IsShort t.message
  pub destination : IsShort t.destination
  pub client : IsShort t.client
  pub ds_id : IsShort t.ds_id
  pub subtopic : IsShort t.subtopic

abbrev pub ShortAsked : Asked → Type 0
ShortAsked (remoting t o) = ShortTold t × IsShort o
ShortAsked (command t o) = ShortTold t
ShortAsked (async t c) = ShortTold t × IsShort c

module _ (g : Graph) (nodes : (i : ℕ) → ShortNode (node_at g i)) where
  kind_short : (h : Head) (a : Node) (hs : List (List ℕ × Value)) → ShortNode a → pairs_by_kind h a ≡ Some hs → ShortPairs hs
  kind_short array a hs s e = subst ShortPairs (same_Some a.names hs e) s.names
  kind_short (object t) a hs s e = subst ShortPairs (same_Some (members_of t a) hs e) (members_short t a s)
  kind_short (xml_document x) a hs s e = cc
  kind_short (date p) a hs s e = cc
  kind_short (wrapper c) a hs s e = cc
  kind_short (xml x) a hs s e = cc
  kind_short (bytes x) a hs s e = cc
  kind_short (ints f ns) a hs s e = cc
  kind_short (uints f ns) a hs s e = cc
  kind_short (doubles f ns) a hs s e = cc
  kind_short (values f x) a hs s e = cc
  kind_short (dictionary w) a hs s e = cc

  headers_short : (v : Value) (hs : List (List ℕ × Value)) → pairs_of g v ≡ Some hs → ShortPairs hs
  headers_short (node i) hs e = kind_short (node_at g i).head (node_at g i) hs (nodes i) e
  headers_short (leaf null) hs e = subst ShortPairs (same_Some [] hs e) tt
  headers_short (leaf undefined) hs e = cc
  headers_short (leaf (boolean b)) hs e = cc
  headers_short (leaf (integer n)) hs e = cc
  headers_short (leaf (double p)) hs e = cc
  headers_short (leaf (text x)) hs e = cc

  named_short : (x : List ℕ) (ps : List (List ℕ × Value)) → ShortPairs ps → ShortValue (value_named x ps)
  named_short x ps h = last_short (leaf null) x ps tt h

  common_short : (ps : List (List ℕ × Value)) (next : Told → Viewed) (r : Asked) → ShortPairs ps → common_view g ps next ≡ request r → (t : Told) × ShortTold t × (next t ≡ request r)
  common_short ps next r h e =
      let hd = passes member.Headers (pairs_of g (value_named headers_name ps)) _ r e in
      let hs = headers_short (value_named headers_name ps) hd.0 hd.1 in
      let id = passes member.DsId (text_or_null (value_named ds_id_name hd.0)) _ r hd.2 in
      let sub = passes member.DsSubtopic (text_or_null (value_named subtopic_name hd.0)) _ r id.2 in
      let dest = passes member.Destination (text_or_null (value_named destination_name ps)) _ r sub.2 in
      let mess = passes member.MessageId (text_or_null (value_named message_name ps)) _ r dest.2 in
      let cl = passes member.ClientId (text_or_null (value_named client_name ps)) _ r mess.2 in (
        _,
        record {
          message = no_text (value_named message_name ps) mess.0 (named_short message_name ps h) mess.1;
          destination = no_text (value_named destination_name ps) dest.0 (named_short destination_name ps h) dest.1;
          client = no_text (value_named client_name ps) cl.0 (named_short client_name ps h) cl.1;
          ds_id = no_text (value_named ds_id_name hd.0) id.0 (named_short ds_id_name hd.0 hs) id.1;
          subtopic = no_text (value_named subtopic_name hd.0) sub.0 (named_short subtopic_name hd.0 hs) sub.1;
        },
        cl.2,
      )

  asked_is : (q r : Asked) → request q ≡ request r → q ≡ r
  asked_is q r e = cc

  abbrev Shorter : Asked → Viewed → Type 0
  Shorter r v = v ≡ request r → ShortAsked r

  remoting_short : (ps : List (List ℕ × Value)) (r : Asked) → ShortPairs ps → Shorter r (common_view g ps (λ t. or_wrong member.Operation (text_alone (value_named operation_name ps)) (λ o. request (remoting t o))))
  remoting_short ps r h e =
      let t = common_short ps (λ (t : Told). or_wrong member.Operation (text_alone (value_named operation_name ps)) (λ o. request (remoting t o))) r h e in
      let o = passes member.Operation (text_alone (value_named operation_name ps)) (λ (o : List ℕ). request (remoting t.0 o)) r t.2 in
      subst ShortAsked (asked_is (remoting t.0 o.0) r o.2) (t.1, alone (value_named operation_name ps) o.0 (named_short operation_name ps h) o.1)

  command_short : (ps : List (List ℕ × Value)) (r : Asked) → ShortPairs ps → Shorter r (common_view g ps (λ t. or_wrong member.Operation (whole_number (value_named operation_name ps)) (λ o. request (command t o))))
  command_short ps r h e =
      let t = common_short ps (λ (t : Told). or_wrong member.Operation (whole_number (value_named operation_name ps)) (λ o. request (command t o))) r h e in
      let o = passes member.Operation (whole_number (value_named operation_name ps)) (λ (o : ℤ). request (command t.0 o)) r t.2 in
      subst ShortAsked (asked_is (command t.0 o.0) r o.2) t.1

  async_short : (ps : List (List ℕ × Value)) (r : Asked) → ShortPairs ps → Shorter r (common_view g ps (λ t. or_wrong member.CorrelationId (text_or_null (value_named correlation_name ps)) (λ o. request (async t o))))
  async_short ps r h e =
      let t = common_short ps (λ (t : Told). or_wrong member.CorrelationId (text_or_null (value_named correlation_name ps)) (λ o. request (async t o))) r h e in
      let o = passes member.CorrelationId (text_or_null (value_named correlation_name ps)) (λ (o : List ℕ). request (async t.0 o)) r t.2 in
      subst ShortAsked (asked_is (async t.0 o.0) r o.2) (t.1, no_text (value_named correlation_name ps) o.0 (named_short correlation_name ps h) o.1)

  served_short : (x : List ℕ) (ps : List (List ℕ × Value)) (r : Asked) → ShortPairs ps → Shorter r (served_view g (served_class x) ps)
  served_short x ps r h =
      either (λ c. Shorter r (served_view g c ps)) (bytes_eq remoting_class x) (served_class remoting_class) _ (remoting_short ps r h)
      (either (λ c. Shorter r (served_view g c ps)) (bytes_eq command_class x) (served_class command_class) _ (command_short ps r h)
      (either (λ c. Shorter r (served_view g c ps)) (bytes_eq async_class x) (served_class async_class) None (async_short ps r h) (λ e. absurd cc)))

  viewed_kind : (h : Head) (a : Node) (r : Asked) → ShortNode a → kind_view g h a ≡ request r → ShortAsked r
  viewed_kind (object t) a r s e = served_short t.class (members_of t a) r (members_short t a s) e
  viewed_kind (xml_document x) a r s e = absurd cc
  viewed_kind (date p) a r s e = absurd cc
  viewed_kind array a r s e = absurd cc
  viewed_kind (wrapper c) a r s e = absurd cc
  viewed_kind (xml x) a r s e = absurd cc
  viewed_kind (bytes x) a r s e = absurd cc
  viewed_kind (ints f ns) a r s e = absurd cc
  viewed_kind (uints f ns) a r s e = absurd cc
  viewed_kind (doubles f ns) a r s e = absurd cc
  viewed_kind (values f x) a r s e = absurd cc
  viewed_kind (dictionary w) a r s e = absurd cc

  pub viewed_short : (v : Value) (r : Asked) → value_view g v ≡ request r → ShortAsked r
  viewed_short (leaf x) r e = absurd cc
  viewed_short (node i) r e = viewed_kind (node_at g i).head (node_at g i) r (nodes i) e

-- A graph within bounds has short texts alone.

value_short : (a : Arena) → AllByRecursion (λ x. length x < count_end) a.texts → (v : Stored) → Names a v → ShortValue (value_content a v)
value_short a h (Text t) n = omega (arith, all_at (λ x. length x < count_end) a.texts t.0 [] n h)
value_short a h Undefined n = tt
value_short a h Null n = tt
value_short a h (Flag b) n = tt
value_short a h (Integer k) n = tt
value_short a h (Double p) n = tt
value_short a h (NodeRef k) n = tt

names_short : (a : Arena) → AllByRecursion (λ x. length x < count_end) a.texts → (ps : List (ℕ × Stored)) → AllByRecursion (λ p. IsTextId a p.0 × Names a p.1) ps → ShortPairs (map (λ p. (text_at a p.0, value_content a p.1)) ps)
names_short a h [] n = tt
names_short a h (p ∷ ps) n = (value_short a h p.1 n.0.1, names_short a h ps n.1)

values_short : (a : Arena) → AllByRecursion (λ x. length x < count_end) a.texts → (vs : List Stored) → AllByRecursion (Names a) vs → AllByRecursion ShortValue (map (value_content a) vs)
values_short a h [] n = tt
values_short a h (v ∷ vs) n = (value_short a h v n.0, values_short a h vs n.1)

nodes_short : (a : Arena) → AllByRecursion (λ x. length x < count_end) a.texts → (ns : List StoredNode) → AllByRecursion (IsNodeIn a) ns → (i : ℕ) → ShortNode (get_or (map (node_content a) ns) i no_node)
nodes_short a h [] b i = record { names = tt; values = tt }
nodes_short a h (n ∷ ns) b zero = record { names = names_short a h n.names b.0.names; values = values_short a h n.values b.0.values }
nodes_short a h (n ∷ ns) b (suc i) = nodes_short a h ns b.1 i

pub request_short : (a : Arena) (root v : Stored) (r : Asked) → IsFinished a → IsWithinBounds a → value_view (graph_of a root) (value_content a v) ≡ request r → ShortAsked r
request_short a root v r fin bounds e = viewed_short (graph_of a root) (λ i. nodes_short a bounds.texts a.nodes fin.built.nodes i) (value_content a v) r e
