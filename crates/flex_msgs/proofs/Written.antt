-- What calls that write one after another write together.
use Rattle.std.proofs.Common.{◌≡◌, ℕ, suc, ◌+◌, ◌<◌, ◌≤◌, Bool, false, true, List, [], ◌∷◌, ◌++◌, length, map, get_or, sym, refl, ap, ◌∙◌, subst, arith, append_assoc}
use Rattle.std.specs.Prelude.{◌==◌}
use Rattle.std.specs.List.{AllByRecursion}
use Rattle.std.proofs.lemmas.List.{length-append, length-map, map-append, append-nil, get_or_append_left, get_or-append-add}
use Rattle.amf_graph.specs.declared.value.Value.{Value as Stored}
use Rattle.amf_graph.specs.declared.value.Value.TheVariants.{Null, Text, Node as NodeRef}
use Rattle.amf_graph.specs.declared.value.TextId.{TextId}
use Rattle.amf_graph.specs.declared.value.NodeId.{NodeId}
use Rattle.amf_graph.specs.Graph as graph
use Rattle.amf_graph.specs.Graph.{Node, Value, Traits}
use Rattle.amf_graph.specs.Arena.{Arena, StoredTraits, StoredNode, NodesComplete, Completes, IsTextId, Names, object, array, text_at, traits_at, traits_content, no_traits, value_content, node_content}
use Rattle.amf_graph.specs.Building.{kept_text, kept_traits, kept_node, stored_traits, closed}
use Rattle.amf_graph.specs.Grafting.{node_value}
use Rattle.amf_graph.proofs.Alls.{all_weaker, all_append}
use Rattle.amf_graph.proofs.Growth.{Grows, names_grow}
use Rattle.amf_graph.proofs.Lists.{length_pushed, cons_same}
use Rattle.flex_msgs.specs.declared.class.Class.{Class}
use Rattle.flex_msgs.specs.declared.class.Class.TheVariants.{Acknowledge, Async, Command, Error}
use Rattle.flex_msgs.specs.Classes.{class_traits, plain_traits, ds_id_name}
use Rattle.flex_msgs.specs.Messages.{client_value, text_of, headers_node}
use Rattle.flex_msgs.specs.Built.{Adds}
use Rattle.flex_msgs.specs.Writing.{Writes, WritesNames, WritesOne, AreValues, AreTexts}

nodes_front : (ns more gs : List StoredNode) → NodesComplete (ns ++ more) gs → NodesComplete ns gs
nodes_front [] more gs h = tt
nodes_front (n ∷ ns) more [] h = absurd h
nodes_front (n ∷ ns) more (g ∷ gs) h = (h.0, nodes_front ns more gs h.1)

-- what completes an arena after a call completes it before
pub earlier : (old new h : Arena) (n : ℕ) (written : Arena → List Node) → Writes old new n written → Completes new h → Completes old h
earlier old new h n written a done = record {
  finished = done.finished;
  more_texts = a.more_texts ++ done.more_texts;
  texts = done.texts ∙ ap (λ w. w ++ done.more_texts) a.texts ∙ append_assoc old.texts a.more_texts done.more_texts;
  more_traits = a.more_traits ++ done.more_traits;
  traits = done.traits ∙ ap (λ w. w ++ done.more_traits) a.traits ∙ append_assoc old.traits a.more_traits done.more_traits;
  nodes = nodes_front old.nodes a.more_nodes h.nodes (subst (λ ns. NodesComplete ns h.nodes) a.nodes done.nodes);
}

pub grows : (old new : Arena) (n : ℕ) (written : Arena → List Node) → Writes old new n written → Grows old new
grows old new n written a = record {
  texts = λ i l. (
    omega (arith, l, ap length a.texts, length-append old.texts a.more_texts),
    ap (λ w. get_or w i []) a.texts ∙ get_or_append_left old.texts a.more_texts [] i l,
  );
  traits = λ i l. (
    omega (arith, l, ap length a.traits, length-append old.traits a.more_traits),
    ap (λ w. get_or w i no_traits) a.traits ∙ get_or_append_left old.traits a.more_traits no_traits i l,
  );
  nodes = omega (arith, ap length a.nodes, length-append old.nodes a.more_nodes);
}

-- nothing at all
pub writes_none : (a : Arena) → WritesNames a a
writes_none a = record {
  more_texts = [];
  texts = sym (append-nil a.texts);
  more_traits = [];
  traits = sym (append-nil a.traits);
  more_nodes = [];
  nodes = sym (append-nil a.nodes);
  count = refl;
  closed = tt;
  content = λ h done. refl;
}

pub writes_then : (a b c : Arena) (m n : ℕ) (w x : Arena → List Node) → Writes a b m w → Writes b c n x → Writes a c (m + n) (λ h. w h ++ x h)
writes_then a b c m n w x p q = record {
  more_texts = p.more_texts ++ q.more_texts;
  texts = q.texts ∙ ap (λ z. z ++ q.more_texts) p.texts ∙ append_assoc a.texts p.more_texts q.more_texts;
  more_traits = p.more_traits ++ q.more_traits;
  traits = q.traits ∙ ap (λ z. z ++ q.more_traits) p.traits ∙ append_assoc a.traits p.more_traits q.more_traits;
  more_nodes = p.more_nodes ++ q.more_nodes;
  nodes = q.nodes ∙ ap (λ z. z ++ q.more_nodes) p.nodes ∙ append_assoc a.nodes p.more_nodes q.more_nodes;
  count = length-append p.more_nodes q.more_nodes ∙ ap (λ k. k + length q.more_nodes) p.count ∙ ap (λ k. m + k) q.count;
  closed = all_append (λ n. n.is_open ≡ false) p.more_nodes q.more_nodes p.closed q.closed;
  content = λ h done.
      map-append (node_content h) p.more_nodes q.more_nodes
      ∙ ap (λ z. z ++ map (node_content h) q.more_nodes) (p.content h (earlier b c h n x q done))
      ∙ ap (λ z. w h ++ z) (q.content h done);
}

pub writes_as : (a b : Arena) (n : ℕ) (w x : Arena → List Node) → Writes a b n w → ((h : Arena) → Completes b h → w h ≡ x h) → Writes a b n x
writes_as a b n w x p f = record {
  more_texts = p.more_texts;
  texts = p.texts;
  more_traits = p.more_traits;
  traits = p.traits;
  more_nodes = p.more_nodes;
  nodes = p.nodes;
  count = p.count;
  closed = p.closed;
  content = λ h done. p.content h done ∙ f h done;
}

-- two that write names alone
pub names_then : (a b c : Arena) → WritesNames a b → WritesNames b c → WritesNames a c
names_then a b c p q = writes_then a b c 0 0 (λ h. []) (λ h. []) p q

-- names, and then something
pub after_names : (a b c : Arena) (n : ℕ) (w : Arena → List Node) → WritesNames a b → Writes b c n w → Writes a c n w
after_names a b c n w p q =
    let r = writes_then a b c 0 n (λ h. []) w p q in
    subst (λ k. Writes a c k w) (let e : 0 + n ≡ n = omega arith in e) r

pub same_nodes : (a b : Arena) → WritesNames a b → length b.nodes ≡ length a.nodes
same_nodes a b p = omega (arith, ap length p.nodes, length-append a.nodes p.more_nodes, p.count)

pub one_there : (a b : Arena) (v : Stored) (w : Arena → Node) → WritesOne a b v w → Names b v
one_there a b v w p =
    let l : length a.nodes < length b.nodes = omega (arith, ap length p.writes.nodes, length-append a.nodes p.writes.more_nodes, p.writes.count) in
    subst (Names b) (sym p.value) l

-- Adds, from what is written.
pub adds : (a b : Arena) (v : Stored) (last : ℕ) (w : Arena → List Node) → Writes a b (suc last) w → v ≡ node_value (length a.nodes + last) → Adds a b v w
adds a b v last w p e = record {
  more_texts = p.more_texts;
  texts = p.texts;
  more_traits = p.more_traits;
  traits = p.traits;
  more_nodes = p.more_nodes;
  nodes = p.nodes;
  last = last;
  count = p.count;
  value = e;
  closed = p.closed;
  content = p.content;
}

-- What is known of values and texts stays.

pub names_later : (a b : Arena) (n : ℕ) (w : Arena → List Node) (v : Stored) → Writes a b n w → Names a v → Names b v
names_later a b n w v p h = names_grow a b (grows a b n w p) v h

pub all_later : (a b : Arena) (n : ℕ) (w : Arena → List Node) (vs : List Stored) → Writes a b n w → AllByRecursion (Names a) vs → AllByRecursion (Names b) vs
all_later a b n w vs p h = all_weaker (Names a) (Names b) vs (λ v. names_later a b n w v p) h

pub values_later : (a b : Arena) (n : ℕ) (w : Arena → List Node) (vs : List Stored) (f : Arena → List Value) → Writes a b n w → AreValues a vs f → AreValues b vs f
values_later a b n w vs f p v = record {
  names = all_later a b n w vs p v.names;
  content = λ h done. v.content h (earlier a b h n w p done);
}

pub texts_later : (a b : Arena) (n : ℕ) (w : Arena → List Node) (is : List ℕ) (xs : List (List ℕ)) → Writes a b n w → AreTexts a is xs → AreTexts b is xs
texts_later a b n w is xs p t = record {
  there = all_weaker (IsTextId a) (IsTextId b) is (λ i l. ((grows a b n w p).texts i l).0) t.there;
  content = λ h done. t.content h (earlier a b h n w p done);
}

pub texts_push : (a : Arena) (is js : List ℕ) (xs ys : List (List ℕ)) → AreTexts a is xs → AreTexts a js ys → AreTexts a (is ++ js) (xs ++ ys)
texts_push a is js xs ys p q = record {
  there = all_append (IsTextId a) is js p.there q.there;
  content = λ h done. map-append (text_at h) is js ∙ ap (λ z. z ++ map (text_at h) js) (p.content h done) ∙ ap (λ z. xs ++ z) (q.content h done);
}

-- A text that is kept.

pub text_written : (old new : Arena) (x : List ℕ) → new ≡ kept_text old x → WritesNames old new
text_written old new x e = record {
  more_texts = x ∷ [];
  texts = ap (λ (a : Arena). a.texts) e;
  more_traits = [];
  traits = ap (λ (a : Arena). a.traits) e ∙ sym (append-nil old.traits);
  more_nodes = [];
  nodes = ap (λ (a : Arena). a.nodes) e ∙ sym (append-nil old.nodes);
  count = refl;
  closed = tt;
  content = λ h done. refl;
}

pub text_known : (old new : Arena) (x : List ℕ) (i : ℕ) → new ≡ kept_text old x → i ≡ length old.texts → AreTexts new (i ∷ []) (x ∷ [])
text_known old new x i e l = record {
  there = (omega (arith, l, ap (λ (a : Arena). length a.texts) e, length_pushed old.texts x), tt);
  content = λ h done.
      let p : i ≡ length old.texts + 0 = omega (arith, l) in
      ap (λ w. w ∷ []) (ap (text_at h) p
      ∙ ap (λ w. get_or w (length old.texts + 0) []) (done.texts ∙ ap (λ (a : Arena). a.texts ++ done.more_texts) e ∙ append_assoc old.texts (x ∷ []) done.more_texts)
      ∙ get_or-append-add old.texts (x ∷ done.more_texts) 0 []);
}

pub text_value_known : (a : Arena) (i : TextId) (x : List ℕ) → AreTexts a (i.0 ∷ []) (x ∷ []) → AreValues a (Text i ∷ []) (λ h. graph.leaf (graph.text x) ∷ [])
text_value_known a i x t = record {
  names = (t.there.0, tt);
  content = λ h done. ap (λ (xs : List (List ℕ)). map (λ y. graph.leaf (graph.text y)) xs) (t.content h done);
}

-- An object behind a traits that is kept.

pub object_written : (old b mid new : Arena) (class : TextId) (sealed : List TextId) (T : Traits) (t : ℕ) (ps : List (ℕ × Stored)) (vs : List Stored)
    → WritesNames old b → AreTexts b (class.0 ∷ map (λ x. x.0) sealed) (T.class ∷ T.sealed) → mid ≡ kept_traits b (stored_traits class T.dynamic sealed) → t ≡ length b.traits → new ≡ kept_node mid (closed (object t) ps vs)
    → Writes old new 1 (λ h. record { head = graph.object T; names = map (λ p. (text_at h p.0, value_content h p.1)) ps; values = map (value_content h) vs } ∷ [])
object_written old b mid new class sealed T t ps vs w known m k n =
    after_names old b new 1 (λ h. record { head = graph.object T; names = map (λ p. (text_at h p.0, value_content h p.1)) ps; values = map (value_content h) vs } ∷ []) w step
  where
    made : new ≡ kept_node (kept_traits b (stored_traits class T.dynamic sealed)) (closed (object t) ps vs)
    made = n ∙ ap (λ (a : Arena). kept_node a (closed (object t) ps vs)) m

    before : (h : Arena) → Completes new h → Completes b h
    before h done = earlier b new h 1 (λ h. map (node_content h) (closed (object t) ps vs ∷ [])) (record {
      more_texts = [];
      texts = ap (λ (a : Arena). a.texts) made ∙ sym (append-nil b.texts);
      more_traits = stored_traits class T.dynamic sealed ∷ [];
      traits = ap (λ (a : Arena). a.traits) made;
      more_nodes = closed (object t) ps vs ∷ [];
      nodes = ap (λ (a : Arena). a.nodes) made;
      count = refl;
      closed = (refl, tt);
      content = λ h done. refl;
    }) done

    kept : (h : Arena) (done : Completes new h) → get_or h.traits t no_traits ≡ stored_traits class T.dynamic sealed
    kept h done =
        let p : t ≡ length b.traits + 0 = omega (arith, k) in
        ap (λ i. get_or h.traits i no_traits) p
        ∙ ap (λ z. get_or z (length b.traits + 0) no_traits) (done.traits ∙ ap (λ (a : Arena). a.traits ++ done.more_traits) made ∙ append_assoc b.traits (stored_traits class T.dynamic sealed ∷ []) done.more_traits)
        ∙ get_or-append-add b.traits (stored_traits class T.dynamic sealed ∷ done.more_traits) 0 no_traits

    traits_there : (h : Arena) (done : Completes new h) → traits_at h t ≡ T
    traits_there h done =
        let c = cons_same (known.content h (before h done)) in
        ap (traits_content h) (kept h done)
        ∙ ap (λ z. record { class = z; dynamic = T.dynamic; sealed = map (text_at h) (map (λ (x : TextId). x.0) sealed) }) c.0
        ∙ ap (λ z. record { class = T.class; dynamic = T.dynamic; sealed = z }) c.1

    step : Writes b new 1 (λ h. record { head = graph.object T; names = map (λ p. (text_at h p.0, value_content h p.1)) ps; values = map (value_content h) vs } ∷ [])
    step = record {
      more_texts = [];
      texts = ap (λ (a : Arena). a.texts) made ∙ sym (append-nil b.texts);
      more_traits = stored_traits class T.dynamic sealed ∷ [];
      traits = ap (λ (a : Arena). a.traits) made;
      more_nodes = closed (object t) ps vs ∷ [];
      nodes = ap (λ (a : Arena). a.nodes) made;
      count = refl;
      closed = (refl, tt);
      content = λ h done. ap (λ z. record { head = graph.object z; names = map (λ p. (text_at h p.0, value_content h p.1)) ps; values = map (value_content h) vs } ∷ []) (traits_there h done);
    }

-- The text of a client.

pub client_empty : (a : Arena) (x : List ℕ) → (length x == 0) ≡ true → AreValues a (Null ∷ []) (λ h. client_value x ∷ [])
client_empty a [] e = record { names = (tt, tt); content = λ h done. refl }
client_empty a (b ∷ x) e = absurd (let l : length (b ∷ x) ≡ 0 = grind arith in omega (arith, l))

pub client_text : (a : Arena) (v : Stored) (x : List ℕ) → (length x == 0) ≡ false → AreValues a (v ∷ []) (λ h. text_of x ∷ []) → AreValues a (v ∷ []) (λ h. client_value x ∷ [])
client_text a v [] e t = cc
client_text a v (b ∷ x) e t = t

-- A class that is written.

pub class_is : (k : Class) → record { class = (class_traits k).class; dynamic = false; sealed = (class_traits k).sealed } ≡ class_traits k
class_is Acknowledge = refl
class_is Async = refl
class_is Command = refl
class_is Error = refl

pub class_fixed : (k : Class) → (class_traits k).dynamic ≡ false
class_fixed Acknowledge = refl
class_fixed Async = refl
class_fixed Command = refl
class_fixed Error = refl

-- A traits that is kept, and a node.

pub kept_at : (b mid : Arena) (s : StoredTraits) (t : ℕ) → mid ≡ kept_traits b s → t ≡ length b.traits → (t < length mid.traits) × (get_or mid.traits t no_traits ≡ s)
kept_at b mid s t e k = (
  omega (arith, k, ap (λ (a : Arena). length a.traits) e, length_pushed b.traits s),
  ap (λ (a : Arena). get_or a.traits t no_traits) e ∙ ap (λ i. get_or (b.traits ++ s ∷ []) i no_traits) (let p : t ≡ length b.traits + 0 = omega (arith, k) in p) ∙ get_or-append-add b.traits (s ∷ []) 0 no_traits,
)

pub traits_written : (b mid : Arena) (s : StoredTraits) → mid ≡ kept_traits b s → WritesNames b mid
traits_written b mid s e = record {
  more_texts = [];
  texts = ap (λ (a : Arena). a.texts) e ∙ sym (append-nil b.texts);
  more_traits = s ∷ [];
  traits = ap (λ (a : Arena). a.traits) e;
  more_nodes = [];
  nodes = ap (λ (a : Arena). a.nodes) e ∙ sym (append-nil b.nodes);
  count = refl;
  closed = tt;
  content = λ h done. refl;
}

pub node_written : (old new : Arena) (n : StoredNode) → n.is_open ≡ false → new ≡ kept_node old n → Writes old new 1 (λ h. node_content h n ∷ [])
node_written old new n o e = record {
  more_texts = [];
  texts = ap (λ (a : Arena). a.texts) e ∙ sym (append-nil old.texts);
  more_traits = [];
  traits = ap (λ (a : Arena). a.traits) e ∙ sym (append-nil old.traits);
  more_nodes = n ∷ [];
  nodes = ap (λ (a : Arena). a.nodes) e;
  count = refl;
  closed = (o, tt);
  content = λ h done. refl;
}

-- The headers of an answer: their three texts, their traits and their node.

pub headers_written : (a b₁ b₂ b₃ mid new : Arena) (ds : List ℕ) (class name text : TextId) (t : ℕ) (v : NodeId)
    → b₁ ≡ kept_text a [] → class.0 ≡ length a.texts → b₂ ≡ kept_text b₁ ds_id_name → name.0 ≡ length b₁.texts → b₃ ≡ kept_text b₂ ds → text.0 ≡ length b₂.texts
    → mid ≡ kept_traits b₃ (stored_traits class true []) → t ≡ length b₃.traits → new ≡ kept_node mid (closed (object t) ((name.0, Text text) ∷ []) []) → v.0 ≡ length mid.nodes
    → WritesOne a new (NodeRef v) (λ h. headers_node ds)
headers_written a b₁ b₂ b₃ mid new ds class name text t v e₁ i₁ e₂ i₂ e₃ i₃ m k n l =
    record {
      writes = after_names a b₃ new 1 (λ h. headers_node ds ∷ []) w (writes_as b₃ new 1 (λ h. record { head = graph.object plain_traits; names = (text_at h name.0, value_content h (Text text)) ∷ []; values = [] } ∷ []) (λ h. headers_node ds ∷ []) made content);
      value = ap node_value (l ∙ ap (λ (z : Arena). length z.nodes) m ∙ same_nodes a b₃ w);
    }
  where
    w₁ : WritesNames a b₁
    w₁ = text_written a b₁ [] e₁

    w₂ : WritesNames b₁ b₂
    w₂ = text_written b₁ b₂ ds_id_name e₂

    w₃ : WritesNames b₂ b₃
    w₃ = text_written b₂ b₃ ds e₃

    w : WritesNames a b₃
    w = names_then a b₁ b₃ w₁ (names_then b₁ b₂ b₃ w₂ w₃)

    class_known : AreTexts b₃ (class.0 ∷ []) ([] ∷ [])
    class_known = texts_later b₁ b₃ 0 (λ h. []) (class.0 ∷ []) ([] ∷ []) (names_then b₁ b₂ b₃ w₂ w₃) (text_known a b₁ [] class.0 e₁ i₁)

    name_known : AreTexts b₃ (name.0 ∷ []) (ds_id_name ∷ [])
    name_known = texts_later b₂ b₃ 0 (λ h. []) (name.0 ∷ []) (ds_id_name ∷ []) w₃ (text_known b₁ b₂ ds_id_name name.0 e₂ i₂)

    ds_known : AreTexts b₃ (text.0 ∷ []) (ds ∷ [])
    ds_known = text_known b₂ b₃ ds text.0 e₃ i₃

    made : Writes b₃ new 1 (λ h. record { head = graph.object plain_traits; names = (text_at h name.0, value_content h (Text text)) ∷ []; values = [] } ∷ [])
    made = object_written b₃ b₃ mid new class [] plain_traits t ((name.0, Text text) ∷ []) [] (writes_none b₃) class_known m k n

    content : (h : Arena) → Completes new h → record { head = graph.object plain_traits; names = (text_at h name.0, value_content h (Text text)) ∷ []; values = [] } ∷ [] ≡ headers_node ds ∷ []
    content h done =
        let before = earlier b₃ new h 1 (λ h. record { head = graph.object plain_traits; names = (text_at h name.0, value_content h (Text text)) ∷ []; values = [] } ∷ []) made done in
        ap (λ z. record { head = graph.object plain_traits; names = (z, graph.leaf (graph.text (text_at h text.0))) ∷ []; values = [] } ∷ []) (cons_same (name_known.content h before)).0
        ∙ ap (λ z. record { head = graph.object plain_traits; names = (ds_id_name, graph.leaf (graph.text z)) ∷ []; values = [] } ∷ []) (cons_same (ds_known.content h before)).0
