-- What is reached of a lowered graph is what lowering makes of it with integers in place of doubles.
use Rattle.std.proofs.Common.{◌≡◌, ℕ, zero, suc, Bool, true, false, if◌then◌else◌, List, [], ◌∷◌, ◌++◌, map, length, get_or, Option, Some, None, ℤ, refl, sym, ap, ◌∙◌, subst, inl, inr, IsTrue}
use Rattle.std.specs.List.{AllZip, AllByRecursion, zip}
use Rattle.std.proofs.lemmas.List.{nil_from_length}
use Rattle.amf_wire.specs.WholeNumbers.{whole_of}
use Rattle.amf_wire.proofs.WholeNumbers.{is_whole}
use Rattle.amf_graph.specs.Graph.{undefined, null, boolean, integer, double, text, Value, leaf, node, Traits, Head, xml_document, date, array, object, wrapper, xml, bytes, ints, uints, doubles, values, dictionary, Fits, Node, no_node, Graph, node_at, IsPattern, IsValue}
use Rattle.amf_graph.specs.Reached.{Holds}
use Rattle.amf_graph.proofs.Alls.{each_from}
use Rattle.amf0_spelling.specs.Lowered.{is_wrapper, wraps, LowPlain, Low, ends, low_head, sealed_names, unsealed_values, LowNode, IsNoInteger, IsLowHead}
use Rattle.amf_text.specs.Scalars.{is_small}
use Rattle.amf_text.specs.Meant.{as_integer}
use Rattle.amf_text.specs.GraphLaws.{value_with, node_with, graph_with, narrowed}

pub no_wrapper : (a : Head) → IsLowHead a → is_wrapper a ≡ false
no_wrapper (xml_document x) e = refl
no_wrapper (date p) e = refl
no_wrapper array e = refl
no_wrapper (object t) e = refl
no_wrapper (wrapper c) e = elim e [ ]
no_wrapper (xml x) e = refl
no_wrapper (bytes x) e = refl
no_wrapper (ints f ns) e = refl
no_wrapper (uints f ns) e = refl
no_wrapper (doubles f ns) e = refl
no_wrapper (values f x) e = refl
no_wrapper (dictionary f) e = refl

open_object : (t : Traits) → IsTrue t.dynamic × (t.sealed ≡ []) → object t ≡ low_head (object t)
open_object t h =
    let make : Bool → List (List ℕ) → Head = λ b s. object (record { class = t.class; dynamic = b; sealed = s }) in
    ap (λ s. make t.dynamic s) h.1 ∙ ap (λ b. make b []) h.0

head_again : (a : Head) → IsLowHead a → a ≡ low_head a
head_again (xml_document x) e = refl
head_again (date p) e = refl
head_again array e = refl
head_again (object t) e = open_object t e
head_again (wrapper c) e = refl
head_again (xml x) e = refl
head_again (bytes x) e = refl
head_again (ints f ns) e = refl
head_again (uints f ns) e = refl
head_again (doubles f ns) e = refl
head_again (values f x) e = refl
head_again (dictionary f) e = refl

none_sealed : (a : Head) → IsLowHead a → sealed_names a ≡ []
none_sealed (xml_document x) e = refl
none_sealed (date p) e = refl
none_sealed array e = refl
none_sealed (object t) e = e.1
none_sealed (wrapper c) e = refl
none_sealed (xml x) e = refl
none_sealed (bytes x) e = refl
none_sealed (ints f ns) e = refl
none_sealed (uints f ns) e = refl
none_sealed (doubles f ns) e = refl
none_sealed (values f x) e = refl
none_sealed (dictionary f) e = refl

pub node_with_at : (g : Graph) (i : ℕ) → node_at (graph_with narrowed g) i ≡ node_with narrowed (node_at g i)
node_with_at g i = go g.nodes i
  where
    go : (ns : List Node) (i : ℕ) → get_or (map (node_with narrowed) ns) i no_node ≡ node_with narrowed (get_or ns i no_node)
    go [] i = refl
    go (n ∷ ns) zero = refl
    go (n ∷ ns) (suc i) = go ns i

module _ (g : Graph) where
  -- a value of which no part is left to lower
  pub record IsLowValue (v : Value) : Type 0 where
    pub is_value : IsValue v
    pub no_integer : IsNoInteger v
    pub no_wrapper : wraps g v ≡ false

  still : (v : Value) → wraps (graph_with narrowed g) v ≡ false → LowPlain v v → Low (graph_with narrowed g) v v
  still v e l = ends 0 e l

  double_again : (p : ℕ) → IsPattern p → Low (graph_with narrowed g) (leaf (narrowed (double p))) (leaf (double p))
  double_again p h = go (whole_of p) refl
    where
      by : (n : ℤ) (t : Bool) → whole_of p ≡ Some n → Low (graph_with narrowed g) (leaf (if t then integer n else double p)) (leaf (double p))
      by n true e = ends 0 refl (p, is_whole p n h e, refl)
      by n false e = ends 0 refl refl

      go : (o : Option ℤ) → whole_of p ≡ o → Low (graph_with narrowed g) (leaf (as_integer p o)) (leaf (double p))
      go None e = ends 0 refl refl
      go (Some n) e = by n (is_small n) e

  pub value_again : (v : Value) → IsLowValue v → Low (graph_with narrowed g) (value_with narrowed v) v
  value_again (leaf undefined) h = ends 0 refl refl
  value_again (leaf null) h = ends 0 refl refl
  value_again (leaf (boolean b)) h = ends 0 refl refl
  value_again (leaf (integer n)) h = absurd h.no_integer
  value_again (leaf (double p)) h = double_again p h.is_value
  value_again (leaf (text x)) h = ends 0 refl refl
  value_again (node i) h = ends 0 (ap (λ (a : Node). is_wrapper a.head) (node_with_at g i) ∙ h.no_wrapper) refl

  values_again : (vs : List Value) → AllByRecursion IsLowValue vs → AllZip (Low (graph_with narrowed g)) (map (value_with narrowed) vs) vs
  values_again [] h = tt
  values_again (v ∷ vs) h = (value_again v h.0, values_again vs h.1)

  abbrev IsLowPair : List ℕ × Value → List ℕ × Value → Type 0
  IsLowPair p q = (q.0 ≡ p.0) × Low (graph_with narrowed g) p.1 q.1

  names_again : (ps : List (List ℕ × Value)) → AllByRecursion (λ p. IsLowValue p.1) ps → AllZip IsLowPair (map (λ p. (p.0, value_with narrowed p.1)) ps) ps
  names_again [] h = tt
  names_again (p ∷ ps) h = ((refl, value_again p.1 h.0), names_again ps h.1)

  -- an object that is lowered has no sealed values
  unsealed_again : (a : Head) (ps : List (List ℕ × Value)) (vs : List Value) → IsLowHead a → Fits a ps vs → AllByRecursion IsLowValue vs → AllZip (Low (graph_with narrowed g)) (unsealed_values a (map (value_with narrowed) vs)) vs
  unsealed_again (object t) ps vs l f h = subst (λ ws. AllZip (Low (graph_with narrowed g)) [] ws) (sym (nil_from_length vs (f.0 ∙ ap length l.1))) tt
  unsealed_again (xml_document x) ps vs l f h = values_again vs h
  unsealed_again (date p) ps vs l f h = values_again vs h
  unsealed_again array ps vs l f h = values_again vs h
  unsealed_again (wrapper c) ps vs l f h = values_again vs h
  unsealed_again (xml x) ps vs l f h = values_again vs h
  unsealed_again (bytes x) ps vs l f h = values_again vs h
  unsealed_again (ints f ns) ps vs l k h = values_again vs h
  unsealed_again (uints f ns) ps vs l k h = values_again vs h
  unsealed_again (doubles f ns) ps vs l k h = values_again vs h
  unsealed_again (values f x) ps vs l k h = values_again vs h
  unsealed_again (dictionary f) ps vs l k h = values_again vs h

  pub node_again : (a : Node) → IsLowHead a.head → Fits a.head a.names a.values → ((v : Value) → Holds a v → IsLowValue v) → LowNode (graph_with narrowed g) (node_with narrowed a) a
  node_again a l f h =
      let narrow : List ℕ × Value → List ℕ × Value = λ p. (p.0, value_with narrowed p.1) in
      record {
        head = head_again a.head l;
        names = subst (λ s. AllZip IsLowPair (zip s (map (value_with narrowed) a.values) ++ map narrow a.names) a.names) (sym (none_sealed a.head l))
            (names_again a.names (each_from (λ (p : List ℕ × Value). IsLowValue p.1) a.names (λ k p e. h p.1 (inr (k, p.0, e)))));
        values = unsealed_again a.head a.names a.values l f (each_from IsLowValue a.values (λ k v e. h v (inl (k, e))));
      }
