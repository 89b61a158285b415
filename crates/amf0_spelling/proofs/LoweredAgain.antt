-- A lowering is its own lowering.
use Rattle.std.proofs.Common.{◌≡◌, ℕ, false, List, [], ◌∷◌, ◌++◌, refl, sym, ap, ◌∙◌, subst}
use Rattle.std.specs.List.{AllZip, zip}
use Rattle.amf_graph.specs.Graph.{undefined, null, boolean, integer, double, text, Value, leaf, node, Head, xml_document, date, array, object, wrapper, xml, bytes, ints, uints, doubles, values, dictionary, Node, Graph, node_at}
use Rattle.amf0_spelling.specs.Lowered.{is_wrapper, wraps, unwrapped_times, LowPlain, Low, ends, never_ends, low_head, sealed_names, unsealed_values, LowNode, IsLoweringOf}
use Rattle.amf0_spelling.proofs.LoweredLow.{low_at}

head_again : (a : Head) → low_head a ≡ low_head (low_head a)
head_again (xml_document x) = refl
head_again (date p) = refl
head_again array = refl
head_again (object t) = refl
head_again (wrapper c) = refl
head_again (xml x) = refl
head_again (bytes x) = refl
head_again (ints f ns) = refl
head_again (uints f ns) = refl
head_again (doubles f ns) = refl
head_again (values f x) = refl
head_again (dictionary f) = refl

wrapper_still : (a : Head) → is_wrapper (low_head a) ≡ is_wrapper a
wrapper_still (xml_document x) = refl
wrapper_still (date p) = refl
wrapper_still array = refl
wrapper_still (object t) = refl
wrapper_still (wrapper c) = refl
wrapper_still (xml x) = refl
wrapper_still (bytes x) = refl
wrapper_still (ints f ns) = refl
wrapper_still (uints f ns) = refl
wrapper_still (doubles f ns) = refl
wrapper_still (values f x) = refl
wrapper_still (dictionary f) = refl

none_sealed : (a : Head) → sealed_names (low_head a) ≡ []
none_sealed (xml_document x) = refl
none_sealed (date p) = refl
none_sealed array = refl
none_sealed (object t) = refl
none_sealed (wrapper c) = refl
none_sealed (xml x) = refl
none_sealed (bytes x) = refl
none_sealed (ints f ns) = refl
none_sealed (uints f ns) = refl
none_sealed (doubles f ns) = refl
none_sealed (values f x) = refl
none_sealed (dictionary f) = refl

module _ (g h : Graph) (z : IsLoweringOf g h) where
  leaf_still : (v w : Value) → wraps h v ≡ false → LowPlain v v → w ≡ v → Low h w w
  leaf_still v w e l same = subst (λ (x : Value). Low h x x) (sym same) (ends 0 e l)

  plain_still : (u w : Value) → wraps g u ≡ false → LowPlain u w → Low h w w
  plain_still (leaf undefined) w e l = leaf_still (leaf undefined) w refl refl l
  plain_still (leaf null) w e l = leaf_still (leaf null) w refl refl l
  plain_still (leaf (boolean b)) w e l = leaf_still (leaf (boolean b)) w refl refl l
  plain_still (leaf (integer n)) w e (p, is, l) = leaf_still (leaf (double p)) w refl refl l
  plain_still (leaf (double p)) w e l = leaf_still (leaf (double p)) w refl refl l
  plain_still (leaf (text x)) w e l = leaf_still (leaf (text x)) w refl refl l
  plain_still (node i) w e l = leaf_still (node i) w (ap is_wrapper (low_at g h i z).head ∙ wrapper_still (node_at g i).head ∙ e) refl l

  still : (v w : Value) → Low g v w → Low h w w
  still v w (ends n e l) = plain_still (unwrapped_times g n v) w e l
  still v w (never_ends all l) = leaf_still (leaf null) w refl refl l

  values_still : (xs ys : List Value) → AllZip (Low g) xs ys → AllZip (Low h) ys ys
  values_still [] [] m = tt
  values_still [] (y ∷ ys) m = absurd m
  values_still (x ∷ xs) [] m = absurd m
  values_still (x ∷ xs) (y ∷ ys) m = (still x y m.0, values_still xs ys m.1)

  names_still : (xs ys : List (List ℕ × Value)) → AllZip (λ p q. (q.0 ≡ p.0) × Low g p.1 q.1) xs ys → AllZip (λ p q. (q.0 ≡ p.0) × Low h p.1 q.1) ys ys
  names_still [] [] m = tt
  names_still [] (y ∷ ys) m = absurd m
  names_still (x ∷ xs) [] m = absurd m
  names_still (x ∷ xs) (y ∷ ys) m = ((refl, still x.1 y.1 m.0.1), names_still xs ys m.1)

  unsealed_still : (a : Head) (xs ys : List Value) → AllZip (Low g) (unsealed_values a xs) ys → AllZip (Low h) (unsealed_values (low_head a) ys) ys
  unsealed_still (object t) xs [] m = tt
  unsealed_still (object t) xs (y ∷ ys) m = absurd m
  unsealed_still (xml_document x) xs ys m = values_still xs ys m
  unsealed_still (date p) xs ys m = values_still xs ys m
  unsealed_still array xs ys m = values_still xs ys m
  unsealed_still (wrapper c) xs ys m = values_still xs ys m
  unsealed_still (xml x) xs ys m = values_still xs ys m
  unsealed_still (bytes x) xs ys m = values_still xs ys m
  unsealed_still (ints f ns) xs ys m = values_still xs ys m
  unsealed_still (uints f ns) xs ys m = values_still xs ys m
  unsealed_still (doubles f ns) xs ys m = values_still xs ys m
  unsealed_still (values f x) xs ys m = values_still xs ys m
  unsealed_still (dictionary f) xs ys m = values_still xs ys m

  node_still : (a b : Node) → LowNode g a b → LowNode h b b
  node_still a b n = record {
    head = n.head ∙ head_again a.head ∙ ap low_head (sym n.head);
    names = subst (λ (s : List (List ℕ)). AllZip (λ p q. (q.0 ≡ p.0) × Low h p.1 q.1) (zip s b.values ++ b.names) b.names) (sym (ap sealed_names n.head ∙ none_sealed a.head))
        (names_still (zip (sealed_names a.head) a.values ++ a.names) b.names n.names);
    values = subst (λ (x : Head). AllZip (Low h) (unsealed_values x b.values) b.values) (sym n.head) (unsealed_still a.head a.values b.values n.values);
  }

  nodes_still : (xs ys : List Node) → AllZip (LowNode g) xs ys → AllZip (LowNode h) ys ys
  nodes_still [] [] m = tt
  nodes_still [] (b ∷ ys) m = absurd m
  nodes_still (a ∷ xs) [] m = absurd m
  nodes_still (a ∷ xs) (b ∷ ys) m = (node_still a b m.0, nodes_still xs ys m.1)

  pub lowered_again : IsLoweringOf h h
  lowered_again = record { root = still g.root h.root z.root; nodes = nodes_still g.nodes h.nodes z.nodes }
