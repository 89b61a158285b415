-- An arena that grows keeps what was there: its values name what they named, and its nodes fit as they did.
use Rattle.std.proofs.Common.{◌≡◌, ℕ, ◌<◌, ◌≤◌, Bool, true, false, List, [], ◌∷◌, length, map, get_or, sym, refl, ◌∙◌, subst, arith}
use Rattle.std.proofs.lemmas.List.{length-map}
use Rattle.amf_wire.specs.Text.{IsText}
use Rattle.amf_graph.specs.declared.value.Value.{Value as Stored}
use Rattle.amf_graph.specs.declared.value.Value.TheVariants.{Undefined, Null, Bool as Flag, Integer, Double, Text, Node as NodeRef}
use Rattle.amf_graph.specs.Graph as graph
use Rattle.amf_graph.specs.Graph.{Fits, AreMembers}
use Rattle.amf_graph.specs.Arena.{Arena, StoredTraits, StoredHead, xml_document, date, array, object, wrapper, xml, bytes, ints, uints, doubles, values, dictionary, StoredNode, no_traits, head_content, text_at, traits_content, value_content, Names, HeadNames, IsTextId, IsTraitsIn, IsNodeIn, MayFit}
use Rattle.amf_graph.proofs.Alls.{all_weaker}

-- texts and traits stay at their places, and no node is gone
pub record Grows (a b : Arena) : Type 0 where
  pub texts : (i : ℕ) → i < length a.texts → (i < length b.texts) × (text_at b i ≡ text_at a i)
  pub traits : (i : ℕ) → i < length a.traits → (i < length b.traits) × (get_or b.traits i no_traits ≡ get_or a.traits i no_traits)
  pub nodes : length a.nodes ≤ length b.nodes

abbrev pub names_content : Arena → List (ℕ × Stored) → List (List ℕ × graph.Value)
names_content a ps = map (λ p. (text_at a p.0, value_content a p.1)) ps

abbrev pub values_content : Arena → List Stored → List graph.Value
values_content a vs = map (value_content a) vs

names_empty : (a b : Arena) (ps : List (ℕ × Stored)) → names_content a ps ≡ [] → names_content b ps ≡ []
names_empty a b [] e = refl
names_empty a b (p ∷ ps) e = cc

values_empty : (a b : Arena) (vs : List Stored) → values_content a vs ≡ [] → values_content b vs ≡ []
values_empty a b [] e = refl
values_empty a b (v ∷ vs) e = cc

same_length : (a b : Arena) (vs : List Stored) → length (values_content b vs) ≡ length (values_content a vs)
same_length a b vs = length-map vs (value_content b) ∙ sym (length-map vs (value_content a))

same_sealed : (a b : Arena) (is : List ℕ) → length (map (text_at b) is) ≡ length (map (text_at a) is)
same_sealed a b is = length-map is (text_at b) ∙ sym (length-map is (text_at a))

members_stay : (a b : Arena) (dynamic : Bool) (ps : List (ℕ × Stored)) → AreMembers dynamic (names_content a ps) → AreMembers dynamic (names_content b ps)
members_stay a b true ps h = tt
members_stay a b false ps h = names_empty a b ps h

pub names_grow : (a b : Arena) → Grows a b → (v : Stored) → Names a v → Names b v
names_grow a b g Undefined h = tt
names_grow a b g Null h = tt
names_grow a b g (Flag f) h = tt
names_grow a b g (Integer n) h = h
names_grow a b g (Double p) h = h
names_grow a b g (Text t) h = (g.texts t.0 h).0
names_grow a b g (NodeRef n) h = omega (arith, g.nodes)

pub head_names_grow : (a b : Arena) → Grows a b → (h : StoredHead) → HeadNames a h → HeadNames b h
head_names_grow a b g (xml_document x) k = (g.texts x k).0
head_names_grow a b g (date p) k = tt
head_names_grow a b g array k = tt
head_names_grow a b g (object t) k = (g.traits t k).0
head_names_grow a b g (wrapper c) k = tt
head_names_grow a b g (xml x) k = (g.texts x k).0
head_names_grow a b g (bytes x) k = tt
head_names_grow a b g (ints f ns) k = tt
head_names_grow a b g (uints f ns) k = tt
head_names_grow a b g (doubles f ns) k = tt
head_names_grow a b g (values f x) k = (g.texts x k).0
head_names_grow a b g (dictionary f) k = tt

pub traits_grow : (a b : Arena) → Grows a b → (t : StoredTraits) → IsTraitsIn a t → IsTraitsIn b t
traits_grow a b g t h = record {
  class = (g.texts t.class h.class).0;
  sealed = all_weaker (IsTextId a) (IsTextId b) t.sealed (λ i k. (g.texts i k).0) h.sealed;
}

fits_object : (a b : Arena) (s : StoredTraits) (ps : List (ℕ × Stored)) (vs : List Stored) → Fits (graph.object (traits_content a s)) (names_content a ps) (values_content a vs) → Fits (graph.object (traits_content b s)) (names_content b ps) (values_content b vs)
fits_object a b s ps vs h = (same_length a b vs ∙ h.0 ∙ sym (same_sealed a b s.sealed), members_stay a b s.dynamic ps h.1)

pub fits_grow : (a b : Arena) → Grows a b → (h : StoredHead) (ps : List (ℕ × Stored)) (vs : List Stored) → HeadNames a h → Fits (head_content a h) (names_content a ps) (values_content a vs) → Fits (head_content b h) (names_content b ps) (values_content b vs)
fits_grow a b g (xml_document x) ps vs k f = (subst IsText (sym (g.texts x k).1) f.0, names_empty a b ps f.1, values_empty a b vs f.2)
fits_grow a b g (date p) ps vs k f = (f.0, names_empty a b ps f.1, values_empty a b vs f.2)
fits_grow a b g array ps vs k f = tt
fits_grow a b g (object t) ps vs k f =
    subst (λ s. Fits (graph.object (traits_content b s)) (names_content b ps) (values_content b vs)) (sym (g.traits t k).1) (fits_object a b (get_or a.traits t no_traits) ps vs f)
fits_grow a b g (wrapper c) ps vs k f = (names_empty a b ps f.0, same_length a b vs ∙ f.1)
fits_grow a b g (xml x) ps vs k f = (subst IsText (sym (g.texts x k).1) f.0, names_empty a b ps f.1, values_empty a b vs f.2)
fits_grow a b g (bytes x) ps vs k f = (f.0, names_empty a b ps f.1, values_empty a b vs f.2)
fits_grow a b g (ints i ns) ps vs k f = (f.0, names_empty a b ps f.1, values_empty a b vs f.2)
fits_grow a b g (uints i ns) ps vs k f = (f.0, names_empty a b ps f.1, values_empty a b vs f.2)
fits_grow a b g (doubles i ns) ps vs k f = (f.0, names_empty a b ps f.1, values_empty a b vs f.2)
fits_grow a b g (values i x) ps vs k f = names_empty a b ps f
fits_grow a b g (dictionary i) ps vs k f = (names_empty a b ps f.0, f.1, same_length a b vs ∙ f.2)

may_object : (a b : Arena) (s : StoredTraits) (ps : List (ℕ × Stored)) (vs : List Stored) → MayFit (graph.object (traits_content a s)) (names_content a ps) (values_content a vs) → MayFit (graph.object (traits_content b s)) (names_content b ps) (values_content b vs)
may_object a b s ps vs h = (omega (arith, same_length a b vs, h.0, same_sealed a b s.sealed), members_stay a b s.dynamic ps h.1)

pub may_grow : (a b : Arena) → Grows a b → (h : StoredHead) (ps : List (ℕ × Stored)) (vs : List Stored) → HeadNames a h → MayFit (head_content a h) (names_content a ps) (values_content a vs) → MayFit (head_content b h) (names_content b ps) (values_content b vs)
may_grow a b g (xml_document x) ps vs k f = absurd f
may_grow a b g (date p) ps vs k f = absurd f
may_grow a b g array ps vs k f = tt
may_grow a b g (object t) ps vs k f =
    subst (λ s. MayFit (graph.object (traits_content b s)) (names_content b ps) (values_content b vs)) (sym (g.traits t k).1) (may_object a b (get_or a.traits t no_traits) ps vs f)
may_grow a b g (wrapper c) ps vs k f = (names_empty a b ps f.0, omega (arith, same_length a b vs, f.1))
may_grow a b g (xml x) ps vs k f = absurd f
may_grow a b g (bytes x) ps vs k f = absurd f
may_grow a b g (ints i ns) ps vs k f = absurd f
may_grow a b g (uints i ns) ps vs k f = absurd f
may_grow a b g (doubles i ns) ps vs k f = absurd f
may_grow a b g (values i x) ps vs k f = names_empty a b ps f
may_grow a b g (dictionary i) ps vs k f = (names_empty a b ps f.0, f.1, same_length a b vs ∙ f.2)

pub node_grows : (a b : Arena) → Grows a b → (n : StoredNode) → IsNodeIn a n → IsNodeIn b n
node_grows a b g n h = record {
  head = head_names_grow a b g n.head h.head;
  names = all_weaker (λ p. IsTextId a p.0 × Names a p.1) (λ p. IsTextId b p.0 × Names b p.1) n.names (λ p k. ((g.texts p.0 k.0).0, names_grow a b g p.1 k.1)) h.names;
  values = all_weaker (Names a) (Names b) n.values (names_grow a b g) h.values;
  room = λ e. may_grow a b g n.head n.names n.values h.head (h.room e);
  fits = λ e. fits_grow a b g n.head n.names n.values h.head (h.fits e);
}
