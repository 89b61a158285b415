-- What a builder holds after a graft is well-formed.
use Rattle.std.proofs.Common.{◌≡◌, ℕ, suc, ◌+◌, ◌<◌, Bool, true, false, List, [], ◌∷◌, length, get_or, slice_get, Some, refl, sym, ap, ◌∙◌, subst, arith, inl, inr}
use Rattle.std.specs.List.{AllByRecursion}
use Rattle.std.proofs.lemmas.List.{length-map, length-append, append-nil, get_or_append_left}
use Rattle.std.proofs.lemmas.Option.{slice_get_within}
use Rattle.amf_wire.specs.Text.{IsText}
use Rattle.amf_graph.specs.declared.value.Value.{Value as Stored}
use Rattle.amf_graph.specs.declared.value.Value.TheVariants.{Undefined, Null, Bool as Flag, Integer, Double, Text, Node as NodeRef}
use Rattle.amf_graph.specs.Graph as graph
use Rattle.amf_graph.specs.Graph.{Value, Head, Fits, AreMembers}
use Rattle.amf_graph.specs.Arena.{Arena, StoredHead, xml_document, date, array, object, wrapper, xml, bytes, ints, uints, doubles, values, dictionary, StoredNode, text_at, no_traits, value_content, head_content, Names, HeadNames, IsTextId, IsTraitsIn, IsNodeIn, IsBuilt, IsFinished}
use Rattle.amf_graph.specs.Building.{stored_at, no_stored}
use Rattle.amf_graph.proofs.Alls.{all_weaker, all_append, all_map, all_at}
use Rattle.amf_graph.proofs.Built.{stands}
use Rattle.amf_graph.proofs.Growth.{Grows, names_content, values_content, traits_grow, node_grows}
use Rattle.amf_graph.proofs.PlaceOf.{place_there}
use Rattle.amf_graph.specs.Grafting.{Cut, IsCut, Reaches, at_root, UsesTraits, UsesText, of_root, of_head, of_name, of_value, of_class, of_sealed, HeadText, HoldsStored, node_value, text_value, Renaming, renaming, renamed_value, renamed_values, renamed_names, renamed_head, renamed_node, renamed_traits, copied_texts, copied_traits, copied_nodes, grafted}
use Rattle.amf_graph.specs.GraftKeeps.{GraftKeepsLaw}
use Rattle.amf_graph.specs.Bounds.{weight, IsWithinBounds}
use Rattle.amf_graph.proofs.Weights.{light, within}
use Rattle.amf_graph.proofs.Matched.{Begins, head_match, held, all_get, reached_below}

-- a kind fits the same numbers of parts
fits_same : (h : Head) (ps qs : List (List ℕ × Value)) (vs ws : List Value) → length ps ≡ length qs → length vs ≡ length ws → Fits h ps vs → Fits h qs ws
fits_same h ps qs vs ws p v f = go h f
  where
    none : {X : Type 0} (xs ys : List X) → length xs ≡ length ys → xs ≡ [] → ys ≡ []
    none xs [] e f = refl
    none xs (y ∷ ys) e f = absurd (omega (arith, e, ap length f))

    members : (dynamic : Bool) → AreMembers dynamic ps → AreMembers dynamic qs
    members true m = tt
    members false m = none ps qs p m

    go : (h : Head) → Fits h ps vs → Fits h qs ws
    go (graph.xml_document x) f = (f.0, none ps qs p f.1, none vs ws v f.2)
    go (graph.date x) f = (f.0, none ps qs p f.1, none vs ws v f.2)
    go graph.array f = tt
    go (graph.object t) f = (sym v ∙ f.0, members t.dynamic f.1)
    go (graph.wrapper c) f = (none ps qs p f.0, sym v ∙ f.1)
    go (graph.xml x) f = (f.0, none ps qs p f.1, none vs ws v f.2)
    go (graph.bytes x) f = (f.0, none ps qs p f.1, none vs ws v f.2)
    go (graph.ints i ns) f = (f.0, none ps qs p f.1, none vs ws v f.2)
    go (graph.uints i ns) f = (f.0, none ps qs p f.1, none vs ws v f.2)
    go (graph.doubles i ns) f = (f.0, none ps qs p f.1, none vs ws v f.2)
    go (graph.values i x) f = none ps qs p f
    go (graph.dictionary i) f = (none ps qs p f.0, f.1, sym v ∙ f.2)

-- what holds of each entry of a list that stands there
each_of : {X : Type 0} (Q : X → Type 0) (xs : List X) → ((k : ℕ) (x : X) → slice_get xs k ≡ Some x → Q x) → AllByRecursion Q xs
each_of Q [] h = tt
each_of Q (x ∷ xs) h = (h 0 x refl, each_of Q xs (λ k. h (suc k)))

module _ (a : Arena) (vs : List Stored) (old : Arena) (c : Cut) (exact : IsCut a vs c) (b : IsFinished a) (names : AllByRecursion (Names a) vs) (built : IsBuilt old) where
  abbrev r : Renaming
  r = renaming old c

  abbrev new : Arena
  new = grafted old a c

  there : (i : ℕ) → Reaches a vs i → IsNodeIn a (stored_at a i)
  there i w = stands a i b.built (reached_below a vs b names i w)

  used_traits : (t : ℕ) → UsesTraits a vs t → t < length a.traits
  used_traits t u = subst (HeadNames a) u.2 (there u.0 u.1).head

  traits_in : (t : ℕ) → UsesTraits a vs t → IsTraitsIn a (get_or a.traits t no_traits)
  traits_in t u = all_at (IsTraitsIn a) a.traits t no_traits (used_traits t u) b.built.traits

  head_text : (d : StoredHead) (x : ℕ) → HeadNames a d → HeadText d x → x < length a.texts
  head_text (xml_document y) x h e = subst (λ z. z < length a.texts) e h
  head_text (date p) x h e = absurd e
  head_text array x h e = absurd e
  head_text (object t) x h e = absurd e
  head_text (wrapper w) x h e = absurd e
  head_text (xml y) x h e = subst (λ z. z < length a.texts) e h
  head_text (bytes y) x h e = absurd e
  head_text (ints i ns) x h e = absurd e
  head_text (uints i ns) x h e = absurd e
  head_text (doubles i ns) x h e = absurd e
  head_text (values i y) x h e = subst (λ z. z < length a.texts) e h
  head_text (dictionary i) x h e = absurd e

  held_names : (n : StoredNode) (v : Stored) → IsNodeIn a n → HoldsStored n v → Names a v
  held_names n v h (inl p) = all_get (Names a) n.values p.0 v h.values p.1
  held_names n v h (inr p) = (all_get (λ q. IsTextId a q.0 × Names a q.1) n.names p.0 (p.1, v) h.names p.2).1

  used_text : (x : ℕ) → UsesText a vs x → x < length a.texts
  used_text x (of_root k e) = all_get (Names a) vs k (text_value x) names e
  used_text x (of_head i w e) = head_text (stored_at a i).head x (there i w).head e
  used_text x (of_name i k v w e) = (all_get (λ q. IsTextId a q.0 × Names a q.1) (stored_at a i).names k (x, v) (there i w).names e).0
  used_text x (of_value i w h) = held_names (stored_at a i) (text_value x) (there i w) h
  used_text x (of_class t u e) = subst (λ z. z < length a.texts) e (traits_in t u).class
  used_text x (of_sealed t k u e) = all_get (IsTextId a) (get_or a.traits t no_traits).sealed k x (traits_in t u).sealed e

  -- Counts, and the new numbers.

  texts_count : length new.texts ≡ length old.texts + length c.texts
  texts_count = length-append old.texts (copied_texts a c.texts) ∙ ap (λ k. length old.texts + k) (length-map c.texts (text_at a))

  traits_count : length new.traits ≡ length old.traits + length c.traits
  traits_count = length-append old.traits (copied_traits a r c.traits) ∙ ap (λ k. length old.traits + k) (length-map c.traits (λ t. renamed_traits r (get_or a.traits t no_traits)))

  nodes_count : length new.nodes ≡ length old.nodes + length c.nodes
  nodes_count = length-append old.nodes (copied_nodes a r c.nodes) ∙ ap (λ k. length old.nodes + k) (length-map c.nodes (λ i. renamed_node r (stored_at a i)))

  text_new : (x : ℕ) → UsesText a vs x → r.texts x < length new.texts
  text_new x u = let s = (exact.texts x).1 u in omega (arith, texts_count, place_there c.texts s.0 x exact.once_texts s.1, slice_get_within c.texts s.0 x s.1)

  traits_new : (t : ℕ) → UsesTraits a vs t → r.traits t < length new.traits
  traits_new t u = let s = (exact.traits t).1 u in omega (arith, traits_count, place_there c.traits s.0 t exact.once_traits s.1, slice_get_within c.traits s.0 t s.1)

  node_new : (i : ℕ) → Reaches a vs i → r.nodes i < length new.nodes
  node_new i w = let s = (exact.nodes i).1 w in omega (arith, nodes_count, place_there c.nodes s.0 i exact.once_nodes s.1, slice_get_within c.nodes s.0 i s.1)

  begins_itself : Begins new new
  begins_itself = record { more_texts = []; texts = sym (append-nil new.texts); more_traits = []; traits = sym (append-nil new.traits) }

  grows : Grows old new
  grows = record {
    texts = λ i l. (omega (arith, texts_count), get_or_append_left old.texts (copied_texts a c.texts) [] i l);
    traits = λ i l. (omega (arith, traits_count), get_or_append_left old.traits (copied_traits a r c.traits) no_traits i l);
    nodes = omega (arith, nodes_count);
  }

  value_names : (v : Stored) → Names a v → ((x : ℕ) → v ≡ text_value x → UsesText a vs x) → ((i : ℕ) → v ≡ node_value i → Reaches a vs i) → Names new (renamed_value r v)
  value_names Undefined h f g = tt
  value_names Null h f g = tt
  value_names (Flag x) h f g = tt
  value_names (Integer n) h f g = h
  value_names (Double p) h f g = h
  value_names (Text t) h f g = text_new t.0 (f t.0 refl)
  value_names (NodeRef n) h f g = node_new n.0 (g n.0 refl)

  head_names : (d : StoredHead) → ((x : ℕ) → HeadText d x → UsesText a vs x) → ((t : ℕ) → d ≡ object t → UsesTraits a vs t) → HeadNames new (renamed_head r d)
  head_names (xml_document x) f g = text_new x (f x refl)
  head_names (date p) f g = tt
  head_names array f g = tt
  head_names (object t) f g = traits_new t (g t refl)
  head_names (wrapper w) f g = tt
  head_names (xml x) f g = text_new x (f x refl)
  head_names (bytes x) f g = tt
  head_names (ints i ns) f g = tt
  head_names (uints i ns) f g = tt
  head_names (doubles i ns) f g = tt
  head_names (values i x) f g = text_new x (f x refl)
  head_names (dictionary i) f g = tt

  values_names : (ws : List Stored) → ((k : ℕ) (v : Stored) → slice_get ws k ≡ Some v → Names new (renamed_value r v)) → AllByRecursion (Names new) (renamed_values r ws)
  values_names ws h = all_map (Names new) (renamed_value r) ws (each_of (λ v. Names new (renamed_value r v)) ws h)

  pair_names : (ps : List (ℕ × Stored)) → ((k x : ℕ) (v : Stored) → slice_get ps k ≡ Some (x, v) → IsTextId new (r.texts x) × Names new (renamed_value r v)) → AllByRecursion (λ p. IsTextId new p.0 × Names new p.1) (renamed_names r ps)
  pair_names [] h = tt
  pair_names (p ∷ ps) h = (h 0 p.0 p.1 refl, pair_names ps (λ k. h (suc k)))

  held_new : (i : ℕ) (w : Reaches a vs i) (v : Stored) → HoldsStored (stored_at a i) v → Names new (renamed_value r v)
  held_new i w v h = value_names v (held_names (stored_at a i) v (there i w) h) (held a vs old new c exact begins_itself i w v h).text (held a vs old new c exact begins_itself i w v h).node

  node_in : (i : ℕ) → Reaches a vs i → IsNodeIn new (renamed_node r (stored_at a i))
  node_in i w =
      let n = stored_at a i in
      let is_closed : n.is_open ≡ false = all_at (λ n. n.is_open ≡ false) a.nodes i no_stored (reached_below a vs b names i w) b.closed in
      let same : head_content a n.head ≡ head_content new (renamed_head r n.head) = head_match a vs old new c exact begins_itself n.head (λ x e. of_head i w e) (λ t e. (i, w, e)) in
      let few_names : length (names_content a n.names) ≡ length (names_content new (renamed_names r n.names)) = length-map n.names (λ p. (text_at a p.0, value_content a p.1)) ∙ sym (length-map (renamed_names r n.names) (λ p. (text_at new p.0, value_content new p.1)) ∙ length-map n.names (λ p. (r.texts p.0, renamed_value r p.1))) in
      let few_values : length (values_content a n.values) ≡ length (values_content new (renamed_values r n.values)) = length-map n.values (value_content a) ∙ sym (length-map (renamed_values r n.values) (value_content new) ∙ length-map n.values (renamed_value r)) in
      record {
        head = head_names n.head (λ x e. of_head i w e) (λ t e. (i, w, e));
        names = pair_names n.names (λ k x v e. (text_new x (of_name i k v w e), held_new i w v (inr (k, x, e))));
        values = values_names n.values (λ k v e. held_new i w v (inl (k, e)));
        room = λ e. let z : false ≡ true = sym is_closed ∙ e in absurd cc;
        fits = λ e. subst (λ d. Fits d (names_content new (renamed_names r n.names)) (values_content new (renamed_values r n.values))) same
            (fits_same (head_content a n.head) (names_content a n.names) (names_content new (renamed_names r n.names)) (values_content a n.values) (values_content new (renamed_values r n.values)) few_names few_values ((there i w).fits is_closed));
      }

  traits_in_new : (t : ℕ) → UsesTraits a vs t → IsTraitsIn new (renamed_traits r (get_or a.traits t no_traits))
  traits_in_new t u = record {
    class = text_new (get_or a.traits t no_traits).class (of_class t u refl);
    sealed = all_map (IsTextId new) r.texts (get_or a.traits t no_traits).sealed (each_of (λ x. IsTextId new (r.texts x)) (get_or a.traits t no_traits).sealed (λ k x e. text_new x (of_sealed t k u e)));
  }

  pub grafted_built : IsBuilt new
  grafted_built = record {
    texts = all_append IsText old.texts (copied_texts a c.texts) built.texts (all_map IsText (text_at a) c.texts (each_of (λ x. IsText (text_at a x)) c.texts (λ k x e. all_at IsText a.texts x [] (used_text x ((exact.texts x).0 (k, e))) b.built.texts)));
    traits = all_append (IsTraitsIn new) old.traits (copied_traits a r c.traits) (all_weaker (IsTraitsIn old) (IsTraitsIn new) old.traits (traits_grow old new grows) built.traits)
        (all_map (IsTraitsIn new) (λ t. renamed_traits r (get_or a.traits t no_traits)) c.traits (each_of (λ t. IsTraitsIn new (renamed_traits r (get_or a.traits t no_traits))) c.traits (λ k t e. traits_in_new t ((exact.traits t).0 (k, e)))));
    nodes = all_append (IsNodeIn new) old.nodes (copied_nodes a r c.nodes) (all_weaker (IsNodeIn old) (IsNodeIn new) old.nodes (node_grows old new grows) built.nodes)
        (all_map (IsNodeIn new) (λ i. renamed_node r (stored_at a i)) c.nodes (each_of (λ i. IsNodeIn new (renamed_node r (stored_at a i))) c.nodes (λ k i e. node_in i ((exact.nodes i).0 (k, e)))));
  }

  texts_below : (k x : ℕ) → slice_get c.texts k ≡ Some x → x < length a.texts
  texts_below k x e = used_text x ((exact.texts x).0 (k, e))

  traits_below : (k t : ℕ) → slice_get c.traits k ≡ Some t → t < length a.traits
  traits_below k t e = used_traits t ((exact.traits t).0 (k, e))

  nodes_below : (k i : ℕ) → slice_get c.nodes k ≡ Some i → i < length a.nodes
  nodes_below k i e = reached_below a vs b names i ((exact.nodes i).0 (k, e))

  pub grafted_light : weight new < weight old + weight a
  grafted_light = light a old c exact.once_texts exact.once_traits exact.once_nodes texts_below traits_below nodes_below

  pub grafted_within : IsWithinBounds a → IsWithinBounds old → length new.texts < 268435456 → length new.traits < 134217728 → length new.nodes < 268435456 → IsWithinBounds new
  grafted_within = within a old c exact.once_texts exact.once_traits exact.once_nodes texts_below traits_below nodes_below

  pub copies_names : AllByRecursion (Names new) (renamed_values r vs)
  copies_names = values_names vs (λ k v e. value_names v (all_get (Names a) vs k v names e) (λ x f. of_root k (e ∙ ap (λ w. Some w) f)) (λ i f. at_root k (e ∙ ap (λ w. Some w) f)))

pub graft_keeps : GraftKeepsLaw
graft_keeps a vs old after copies b names built made =
    let c = made.cut in
    record {
      built = subst IsBuilt (sym made.arena) (grafted_built a vs old c made.exact b names built);
      light = subst (λ z. weight z < weight old + weight a) (sym made.arena) (grafted_light a vs old c made.exact b names built);
      within = subst (λ z. IsWithinBounds a → IsWithinBounds old → length z.texts < 268435456 → length z.traits < 134217728 → length z.nodes < 268435456 → IsWithinBounds z) (sym made.arena) (grafted_within a vs old c made.exact b names built);
      names = subst (λ z. AllByRecursion (Names z) copies) (sym made.arena) (subst (AllByRecursion (Names (grafted old a c))) (sym made.values) (copies_names a vs old c made.exact b names built));
    }
