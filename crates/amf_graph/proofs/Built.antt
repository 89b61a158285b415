-- What the calls of a builder keep true.
use Rattle.std.proofs.Common.{◌≡◌, ℕ, ◌<◌, ◌≤◌, List, [], ◌∷◌, length, get_or, sym, refl, ap, subst, arith, length-append}
use Rattle.std.proofs.lemmas.List.{length-set, get_or_append_left}
use Rattle.std.specs.List.{AllByRecursion}
use Rattle.amf_wire.specs.Text.{IsText}
use Rattle.amf_graph.specs.Arena.{Arena, StoredTraits, StoredNode, no_traits, IsTraitsIn, IsNodeIn, IsBuilt}
use Rattle.amf_graph.specs.Bounds.{IsWithinBounds, NodeWithin}
use Rattle.amf_graph.specs.Building.{kept_text, kept_traits, kept_node, changed, stored_at, no_stored}
use Rattle.amf_graph.proofs.Alls.{all_weaker, all_push, all_set, all_at}
use Rattle.amf_graph.proofs.Growth.{Grows, node_grows, traits_grow}

-- as many and the same texts and traits, and the nodes that are there
grown : (a b : Arena) → a.texts ≡ b.texts → a.traits ≡ b.traits → length a.nodes ≤ length b.nodes → Grows a b
grown a b e f l = record {
  texts = λ i k. (subst (λ xs. i < length xs) e k, ap (λ xs. get_or xs i []) (sym e));
  traits = λ i k. (subst (λ xs. i < length xs) f k, ap (λ xs. get_or xs i no_traits) (sym f));
  nodes = l;
}

grows_text : (a : Arena) (x : List ℕ) → Grows a (kept_text a x)
grows_text a x = record {
  texts = λ i k. (omega (arith, length-append a.texts (x ∷ [])), get_or_append_left a.texts (x ∷ []) [] i k);
  traits = λ i k. (k, refl);
  nodes = omega arith;
}

grows_traits : (a : Arena) (t : StoredTraits) → Grows a (kept_traits a t)
grows_traits a t = record {
  texts = λ i k. (k, refl);
  traits = λ i k. (omega (arith, length-append a.traits (t ∷ [])), get_or_append_left a.traits (t ∷ []) no_traits i k);
  nodes = omega arith;
}

pub grows_node : (a : Arena) (n : StoredNode) → Grows a (kept_node a n)
grows_node a n = grown a (kept_node a n) refl refl (omega (arith, length-append a.nodes (n ∷ [])))

pub grows_changed : (a : Arena) (f : StoredNode → StoredNode) (i : ℕ) → Grows a (changed f i a)
grows_changed a f i = grown a (changed f i a) refl refl (omega (arith, length-set a.nodes i (f (stored_at a i))))

traits_stay : (a b : Arena) → Grows a b → IsBuilt a → AllByRecursion (IsTraitsIn b) a.traits
traits_stay a b g h = all_weaker (IsTraitsIn a) (IsTraitsIn b) a.traits (traits_grow a b g) h.traits

nodes_stay : (a b : Arena) → Grows a b → IsBuilt a → AllByRecursion (IsNodeIn b) a.nodes
nodes_stay a b g h = all_weaker (IsNodeIn a) (IsNodeIn b) a.nodes (node_grows a b g) h.nodes

pub built_text : (a : Arena) (x : List ℕ) → IsBuilt a → IsText x → IsBuilt (kept_text a x)
built_text a x h t = record {
  texts = all_push IsText a.texts x h.texts t;
  traits = traits_stay a (kept_text a x) (grows_text a x) h;
  nodes = nodes_stay a (kept_text a x) (grows_text a x) h;
}

pub built_traits : (a : Arena) (t : StoredTraits) → IsBuilt a → IsTraitsIn a t → IsBuilt (kept_traits a t)
built_traits a t h k = record {
  texts = h.texts;
  traits = all_push (IsTraitsIn (kept_traits a t)) a.traits t (traits_stay a (kept_traits a t) (grows_traits a t) h) (traits_grow a (kept_traits a t) (grows_traits a t) t k);
  nodes = nodes_stay a (kept_traits a t) (grows_traits a t) h;
}

pub built_node : (a : Arena) (n : StoredNode) → IsBuilt a → IsNodeIn a n → IsBuilt (kept_node a n)
built_node a n h k = record {
  texts = h.texts;
  traits = traits_stay a (kept_node a n) (grows_node a n) h;
  nodes = all_push (IsNodeIn (kept_node a n)) a.nodes n (nodes_stay a (kept_node a n) (grows_node a n) h) (node_grows a (kept_node a n) (grows_node a n) n k);
}

pub built_changed : (a : Arena) (f : StoredNode → StoredNode) (i : ℕ) → IsBuilt a → IsNodeIn a (f (stored_at a i)) → IsBuilt (changed f i a)
built_changed a f i h k = record {
  texts = h.texts;
  traits = traits_stay a (changed f i a) (grows_changed a f i) h;
  nodes = all_set (IsNodeIn (changed f i a)) a.nodes i (f (stored_at a i)) (nodes_stay a (changed f i a) (grows_changed a f i) h) (node_grows a (changed f i a) (grows_changed a f i) (f (stored_at a i)) k);
}

pub within_text : (a : Arena) (x : List ℕ) → IsWithinBounds a → length a.texts < 268435455 → length x ≤ 268435455 → IsWithinBounds (kept_text a x)
within_text a x h l m = record {
  few_texts = omega (arith, length-append a.texts (x ∷ []));
  few_traits = h.few_traits;
  few_nodes = h.few_nodes;
  texts = all_push (λ x. length x < 268435456) a.texts x h.texts (omega arith);
  traits = h.traits;
  nodes = h.nodes;
}

pub within_traits : (a : Arena) (t : StoredTraits) → IsWithinBounds a → length a.traits < 134217727 → length t.sealed ≤ 33554431 → IsWithinBounds (kept_traits a t)
within_traits a t h l m = record {
  few_texts = h.few_texts;
  few_traits = omega (arith, length-append a.traits (t ∷ []));
  few_nodes = h.few_nodes;
  texts = h.texts;
  traits = all_push (λ t. length t.sealed < 33554432) a.traits t h.traits (omega arith);
  nodes = h.nodes;
}

pub within_node : (a : Arena) (n : StoredNode) → IsWithinBounds a → length a.nodes < 268435455 → NodeWithin n → IsWithinBounds (kept_node a n)
within_node a n h l m = record {
  few_texts = h.few_texts;
  few_traits = h.few_traits;
  few_nodes = omega (arith, length-append a.nodes (n ∷ []));
  texts = h.texts;
  traits = h.traits;
  nodes = all_push NodeWithin a.nodes n h.nodes m;
}

pub within_changed : (a : Arena) (f : StoredNode → StoredNode) (i : ℕ) → IsWithinBounds a → NodeWithin (f (stored_at a i)) → IsWithinBounds (changed f i a)
within_changed a f i h m = record {
  few_texts = h.few_texts;
  few_traits = h.few_traits;
  few_nodes = omega (arith, length-set a.nodes i (f (stored_at a i)), h.few_nodes);
  texts = h.texts;
  traits = h.traits;
  nodes = all_set NodeWithin a.nodes i (f (stored_at a i)) h.nodes m;
}

-- a node that is there is one of the arena, and within bounds
pub stands : (a : Arena) (i : ℕ) → IsBuilt a → i < length a.nodes → IsNodeIn a (stored_at a i)
stands a i h l = all_at (IsNodeIn a) a.nodes i no_stored l h.nodes

pub stands_within : (a : Arena) (i : ℕ) → IsWithinBounds a → i < length a.nodes → NodeWithin (stored_at a i)
stands_within a i h l = all_at NodeWithin a.nodes i no_stored l h.nodes
