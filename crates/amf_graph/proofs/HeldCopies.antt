-- Closed nodes that are read and copied.
use Rattle.std.proofs.Common.{◌≡◌, ℕ, zero, suc, ◌<◌, false, List, [], ◌∷◌, length, get_or, map, refl, sym, ap, ◌∙◌, subst, arith}
use Rattle.std.specs.List.{AllByRecursion}
use Rattle.amf_graph.specs.declared.value.Value.{Value as Stored}
use Rattle.amf_graph.specs.declared.body.Body.{Body}
use Rattle.amf_graph.specs.declared.held.Held.{Held}
use Rattle.std.proofs.lemmas.List.{length-map}
use Rattle.amf_graph.specs.Graph.{Fits}
use Rattle.amf_graph.specs.Arena.{Arena, StoredTraits, StoredHead, xml_document, date, array, object, wrapper, xml, bytes, ints, uints, doubles, values, dictionary, StoredNode, head_content, node_content, value_content, IsNodeIn}
use Rattle.amf_graph.specs.Bodies.{body_head, body_names, body_values, body_node, HasParts}
use Rattle.amf_graph.specs.Building.{no_stored}
use Rattle.amf_graph.specs.Grafting.{Renaming, copied_nodes}
use Rattle.amf_graph.specs.HaveStandIns.{HasStandIn, HasSealed, NodeHasStandIns}
use Rattle.amf_graph.specs.Held.{held_head, held_names, held_values, held_node}
use Rattle.amf_graph.specs.Renumbered.{renumbered_names, renumbered_values, renumbered_node, HasNumber, HaveNumbers}
use Rattle.amf_graph.specs.StandIns.{NodeStandsFor}

pub held_closed : (n : StoredNode) (h : Held) → n ≡ held_node n.is_open h → n.is_open ≡ false → n ≡ held_node false h
held_closed n h e c = e ∙ ap (λ o. held_node o h) c

-- what holds of all nodes and of none
pub closed_at : (ns : List StoredNode) (i : ℕ) → AllByRecursion (λ n. n.is_open ≡ false) ns → (get_or ns i no_stored).is_open ≡ false
closed_at [] i h = refl
closed_at (n ∷ ns) zero h = h.0
closed_at (n ∷ ns) (suc i) h = closed_at ns i h.1

pub at_any : (ns : List StoredNode) (i : ℕ) (d e : StoredNode) → i < length ns → get_or ns i d ≡ get_or ns i e
at_any [] i d e l = absurd (omega arith)
at_any (n ∷ ns) zero d e l = refl
at_any (n ∷ ns) (suc i) d e l = at_any ns i d e (omega arith)

pub copies_closed : (a : Arena) (r : Renaming) (is : List ℕ) → AllByRecursion (λ n. n.is_open ≡ false) a.nodes → AllByRecursion (λ n. n.is_open ≡ false) (copied_nodes a r is)
copies_closed a r [] h = tt
copies_closed a r (i ∷ is) h = (closed_at a.nodes i h, copies_closed a r is h)

-- Under other numbers.

pub numbers_names : (numbers : List ℕ) (n : StoredNode) (h : Held) → n ≡ held_node n.is_open h → HaveNumbers numbers n → AllByRecursion (λ p. HasNumber numbers p.1) (held_names h)
numbers_names numbers n h e k = subst (AllByRecursion (λ p. HasNumber numbers p.1)) (ap (λ (m : StoredNode). m.names) e) k.names

pub numbers_values : (numbers : List ℕ) (n : StoredNode) (h : Held) → n ≡ held_node n.is_open h → HaveNumbers numbers n → AllByRecursion (HasNumber numbers) (held_values h)
numbers_values numbers n h e k = subst (AllByRecursion (HasNumber numbers)) (ap (λ (m : StoredNode). m.values) e) k.values

pub body_renumbered : (f : ℕ → ℕ) (n : StoredNode) (h : Held) (b : Body) → n ≡ held_node n.is_open h → n.is_open ≡ false → body_head b ≡ held_head h → body_names b ≡ renumbered_names f (held_names h) → body_values b ≡ renumbered_values f (held_values h) → body_node false b ≡ renumbered_node f n
body_renumbered f n h b e c d x y =
    ap (λ z. record { is_open = false; head = z; names = body_names b; values = body_values b }) d
    ∙ ap (λ z. record { is_open = false; head = held_head h; names = z; values = body_values b }) x
    ∙ ap (λ z. record { is_open = false; head = held_head h; names = renumbered_names f (held_names h); values = z }) y
    ∙ ap (renumbered_node f) (sym (held_closed n h e c))

-- With other values.

pub has_sealed : (ts : List StoredTraits) (ins : List Stored) (n : StoredNode) (h : Held) → n ≡ held_node n.is_open h → NodeHasStandIns ts ins n → HasSealed ts (held_head h) (held_values h)
has_sealed ts ins n h e k = subst (λ (m : StoredNode). HasSealed ts m.head m.values) e k.sealed

pub has_names : (ts : List StoredTraits) (ins : List Stored) (n : StoredNode) (h : Held) → n ≡ held_node n.is_open h → NodeHasStandIns ts ins n → AllByRecursion (λ p. HasStandIn ins p.1) (held_names h)
has_names ts ins n h e k = subst (AllByRecursion (λ p. HasStandIn ins p.1)) (ap (λ (m : StoredNode). m.names) e) k.names

pub has_values : (ts : List StoredTraits) (ins : List Stored) (n : StoredNode) (h : Held) → n ≡ held_node n.is_open h → NodeHasStandIns ts ins n → AllByRecursion (HasStandIn ins) (held_values h)
has_values ts ins n h e k = subst (AllByRecursion (HasStandIn ins)) (ap (λ (m : StoredNode). m.values) e) k.values

pub held_stands : (ts : List StoredTraits) (ins : List Stored) (n : StoredNode) (h : Held) (copy : StoredNode) → n ≡ held_node n.is_open h → n.is_open ≡ false → NodeStandsFor ts ins (held_node false h) copy → NodeStandsFor ts ins n copy
held_stands ts ins n h copy e c s = subst (λ m. NodeStandsFor ts ins m copy) (sym (held_closed n h e c)) s

-- The parts of a closed node.

no_more : {X Y : Type 0} (f : X → Y) (xs : List X) → map f xs ≡ [] → xs ≡ []
no_more f [] e = refl
no_more f (x ∷ xs) e = cc

pub has_parts : (a : Arena) (n : StoredNode) → IsNodeIn a n → n.is_open ≡ false → HasParts n.head n.names n.values
has_parts a n h c = go n.head (h.fits c)
  where
    go : (k : StoredHead) → Fits (head_content a k) (node_content a n).names (node_content a n).values → HasParts k n.names n.values
    go (xml_document x) f = tt
    go (date p) f = tt
    go array f = tt
    go (object t) f = tt
    go (wrapper w) f = (no_more _ n.names f.0, sym (length-map n.values (value_content a)) ∙ f.1)
    go (xml x) f = tt
    go (bytes x) f = tt
    go (ints i ns) f = tt
    go (uints i ns) f = tt
    go (doubles i ns) f = tt
    go (values i x) f = no_more _ n.names f
    go (dictionary w) f = tt
