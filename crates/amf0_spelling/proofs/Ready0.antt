-- What a whole lowered graph within bounds gives of all that is met.
use Rattle.std.proofs.Common.{ℕ, ◌<◌, ◌^◌, length, refl, inl, inr, arith}
use Rattle.amf_graph.specs.Graph.{undefined, null, boolean, integer, double, text, Value, leaf, node, Head, xml_document, date, array, object, wrapper, xml, bytes, ints, uints, doubles, values, dictionary, Graph, node_at, IsValue, HasHeadTexts}
use Rattle.amf_graph.specs.Reached.{IsReachedValue, IsWhole}
use Rattle.amf_graph.specs.Small.{IsSmall, IsSmallValue, IsSmallHead, IsFew, count_of}
use Rattle.amf_graph.proofs.Alls.{each_from}
use Rattle.amf0_spelling.specs.Lowered.{IsNoInteger, IsLowered}
use Rattle.amf0_spelling.proofs.Found0.{GoodValue, GoodHead}
use Rattle.amf0_spelling.proofs.Lack0.{IsReady}

good_value : (v : Value) → IsValue v → IsSmallValue v → IsNoInteger v → GoodValue v
good_value (leaf undefined) h s n = tt
good_value (leaf null) h s n = tt
good_value (leaf (boolean b)) h s n = tt
good_value (leaf (integer k)) h s n = n
good_value (leaf (double p)) h s n = h
good_value (leaf (text x)) h s n = (h, omega (arith, s))
good_value (node i) h s n = tt

good_head : (a : Head) → HasHeadTexts a → IsSmallHead a → GoodHead a
good_head (xml_document x) t s = omega (arith, s)
good_head (object c) t s = t.0
good_head array t s = tt
good_head (date p) t s = tt
good_head (wrapper c) t s = tt
good_head (xml x) t s = tt
good_head (bytes x) t s = tt
good_head (ints f x) t s = tt
good_head (uints f x) t s = tt
good_head (doubles f x) t s = tt
good_head (values f x) t s = tt
good_head (dictionary f) t s = tt

few : (a : Head) (n : ℕ) → IsFew (count_of a n) → n < 2 ^ 32
few (dictionary f) n l = omega (arith, l)
few (xml_document x) n l = omega (arith, l)
few (object c) n l = omega (arith, l)
few array n l = omega (arith, l)
few (date p) n l = omega (arith, l)
few (wrapper c) n l = omega (arith, l)
few (xml x) n l = omega (arith, l)
few (bytes x) n l = omega (arith, l)
few (ints f x) n l = omega (arith, l)
few (uints f x) n l = omega (arith, l)
few (doubles f x) n l = omega (arith, l)
few (values f x) n l = omega (arith, l)

pub ready : (g : Graph) → IsWhole g → IsSmall g → IsLowered g → IsReady g
ready g w s l = record {
  there = w.there;
  root = of g.root (inl refl);
  nodes = λ i r. record {
    fits = w.fits i r;
    low = l.nodes i r;
    head = good_head (node_at g i).head (w.texts i r).head (s.nodes i r).head;
    texts = (w.texts i r).names;
    few_names = omega (arith, (s.nodes i r).few_names);
    few_values = few (node_at g i).head (length (node_at g i).values) (s.nodes i r).count;
    parts = each_from GoodValue (node_at g i).values (λ k v e. of v (inr (i, r, inl (k, e))));
    pairs = each_from (λ p. GoodValue p.1) (node_at g i).names (λ k p e. of p.1 (inr (i, r, inr (k, p.0, e))));
  };
}
  where
    of : (v : Value) → IsReachedValue g v → GoodValue v
    of v r = good_value v (w.values v r) (s.values v r) (l.values v r)
