-- The values of a node as they are met.
use Rattle.std.proofs.Common.{◌≡◌, ℕ, zero, suc, ◌+◌, ◌*◌, ◌<◌, ◌≤◌, Bool, true, false, cond, List, [], ◌∷◌, ◌++◌, length, map, reverse, get_or, sym, refl, ap, ◌∙◌, subst, arith}
use Rattle.std.specs.List.{AllByRecursion}
use Rattle.std.proofs.Math.ListN.{get_or-map}
use Rattle.std.proofs.lemmas.List.{length-map, length-append, map-append, append-nil, reverse-append}
use Rattle.amf_graph.specs.declared.value.Value.{Value as Stored}
use Rattle.amf_graph.specs.declared.value.TextId.{TextId}
use Rattle.amf_graph.specs.declared.value.TraitsId.{TraitsId}
use Rattle.amf_graph.specs.declared.wrapped.Wrapped.{Wrapped}
use Rattle.amf_graph.specs.Graph.{Value, Node, node_at}
use Rattle.amf_graph.specs.ByName.{by_name}
use Rattle.amf_graph.specs.Order.{is_array, seconds, values_met}
use Rattle.amf_graph.specs.Arena.{Arena, StoredNode, StoredHead, head_content, array, object, dictionary, text_at, node_content, value_content, graph_of, IsFinished, IsNodeIn, Names}
use Rattle.amf_graph.specs.Bounds.{NodeWithin, IsWithinBounds, parts_of}
use Rattle.amf_graph.specs.Building.{stored_at, no_stored, closed}
use Rattle.amf_graph.specs.declared.views.NodeView.{NodeView}
use Rattle.amf_graph.specs.declared.views.NodeView.TheVariants as view
use Rattle.amf_graph.specs.Views.{named, Shows}
use Rattle.amf_graph.proofs.NameOrder.{by_name_length}
use Rattle.amf_iso.specs.Contents.{values_of, AreValues, pairs_of, ArePairs}
use denote.Ref.{Bor}

pub each_there : {X : Type 0} (P : X → Type 0) (xs : List X) (i : ℕ) (d : X) → AllByRecursion P xs → i < length xs → P (get_or xs i d)
each_there P [] i d h l = absurd (omega arith)
each_there P (x ∷ xs) zero d h l = h.0
each_there P (x ∷ xs) (suc i) d h l = each_there P xs i d h.1 (omega arith)

pub all_append : {X : Type 0} (P : X → Type 0) (xs ys : List X) → AllByRecursion P xs → AllByRecursion P ys → AllByRecursion P (xs ++ ys)
all_append P [] ys h k = k
all_append P (x ∷ xs) ys h k = (h.0, all_append P xs ys h.1 k)

pub all_reverse : {X : Type 0} (P : X → Type 0) (xs : List X) → AllByRecursion P xs → AllByRecursion P (reverse xs)
all_reverse P [] h = tt
all_reverse P (x ∷ xs) h = rw (reverse-append (x ∷ []) xs) (all_append P (reverse xs) (x ∷ []) (all_reverse P xs h.1) (h.0, tt))

pub shown : (a : Arena) (root : Stored) (i : ℕ) (n : StoredNode) → stored_at a i ≡ n → node_at (graph_of a root) i ≡ node_content a n
shown a root i n e = get_or-map (node_content a) a.nodes i no_stored ∙ ap (node_content a) e

pub node_in : (a : Arena) (i : ℕ) → IsFinished a → i < length a.nodes → IsNodeIn a (stored_at a i)
node_in a i f l = each_there (IsNodeIn a) a.nodes i no_stored f.built.nodes l

-- the values of a node are the arena's, and so are those of its pairs
pub values_in : (a : Arena) (i : ℕ) (n : StoredNode) → IsFinished a → i < length a.nodes → stored_at a i ≡ n → AreValues a n.values
values_in a i n f l e = subst (λ (m : StoredNode). AreValues a m.values) e (node_in a i f l).values

seconds_in : (a : Arena) (ps : List (TextId × Stored)) → ArePairs a ps → AreValues a (map (λ p. p.1) ps)
seconds_in a [] h = tt
seconds_in a (p ∷ ps) h = (h.0.1, seconds_in a ps h.1)

pub seconds_content : (a : Arena) (ps : List (TextId × Stored)) → values_of a (map (λ p. p.1) ps) ≡ seconds (pairs_of a ps)
seconds_content a [] = refl
seconds_content a (p ∷ ps) = ap (λ w. value_content a p.1 ∷ w) (seconds_content a ps)

pub met_array : (a : Arena) (root : Stored) (i : ℕ) (items : List Stored) (names : List (TextId × Stored)) (ps : List (TextId × Stored)) → stored_at a i ≡ closed array (named names) items → pairs_of a ps ≡ by_name (pairs_of a names) → values_of a (map (λ p. p.1) ps ++ items) ≡ values_met (node_at (graph_of a root) i)
met_array a root i items names ps e s =
    map-append (value_content a) (map (λ p. p.1) ps) items ∙ ap (λ w. w ++ values_of a items) (seconds_content a ps ∙ ap seconds s) ∙ sym (ap values_met (shown a root i (closed array (named names) items) e))

pub met_object : (a : Arena) (root : Stored) (i t : ℕ) (sealed : List Stored) (members : List (TextId × Stored)) (ps : List (TextId × Stored)) → stored_at a i ≡ closed (object t) (named members) sealed → pairs_of a ps ≡ by_name (pairs_of a members) → values_of a (sealed ++ map (λ p. p.1) ps) ≡ values_met (node_at (graph_of a root) i)
met_object a root i t sealed members ps e s =
    map-append (value_content a) sealed (map (λ p. p.1) ps) ∙ ap (λ w. values_of a sealed ++ w) (seconds_content a ps ∙ ap seconds s) ∙ sym (ap values_met (shown a root i (closed (object t) (named members) sealed) e))

pub met_values : (a : Arena) (root : Stored) (i : ℕ) (h : StoredHead) (vs : List Stored) → is_array (head_content a h) ≡ false → stored_at a i ≡ closed h [] vs → values_of a vs ≡ values_met (node_at (graph_of a root) i)
met_values a root i h vs f e =
    sym (append-nil (values_of a vs)) ∙ ap (λ b. cond b ([] ++ values_of a vs) (values_of a vs ++ [])) (sym f) ∙ sym (ap values_met (shown a root i (closed h [] vs) e))

-- the kinds that hold no values
abbrev pub NoParts : NodeView → Type 0
NoParts (view.Array x y) = ⊥
NoParts (view.Object x y z) = ⊥
NoParts (view.Wrapper x y) = ⊥
NoParts (view.Values x y z) = ⊥
NoParts (view.Dictionary x y) = ⊥
NoParts _ = Unit {0}

pub no_parts : (v : NodeView) → ((x : Bor (List Stored)) (y : Bor (List (TextId × Stored))) → v ≡ view.Array x y → ⊥) → ((x : TraitsId) (y : Bor (List Stored)) (z : Bor (List (TextId × Stored))) → v ≡ view.Object x y z → ⊥) → ((x : Wrapped) (y : Stored) → v ≡ view.Wrapper x y → ⊥) → ((x : Bool) (y : TextId) (z : Bor (List Stored)) → v ≡ view.Values x y z → ⊥) → ((x : Bool) (y : Bor (List (Stored × Stored))) → v ≡ view.Dictionary x y → ⊥) → NoParts v
no_parts (view.Array x y) a b c d e = a x y refl
no_parts (view.Object x y z) a b c d e = b x y z refl
no_parts (view.Wrapper x y) a b c d e = c x y refl
no_parts (view.Values x y z) a b c d e = d x y z refl
no_parts (view.Dictionary x y) a b c d e = e x y refl
no_parts _ a b c d e = tt

-- a node of any other kind has none
pub met_none : (a : Arena) (root : Stored) (i : ℕ) (v : NodeView) → Shows a (stored_at a i) v → NoParts v → [] ≡ values_met (node_at (graph_of a root) i)
met_none a root i (view.XmlDocument x) s n = met_values a root i _ [] refl s.1
met_none a root i (view.Xml x) s n = met_values a root i _ [] refl s.1
met_none a root i (view.Date p) s n = met_values a root i _ [] refl s
met_none a root i (view.Bytes x) s n = met_values a root i _ [] refl s
met_none a root i (view.Ints f ns) s n = met_values a root i _ [] refl s
met_none a root i (view.Uints f ns) s n = met_values a root i _ [] refl s
met_none a root i (view.Doubles f ns) s n = met_values a root i _ [] refl s
met_none a root i (view.Array x y) s n = absurd n
met_none a root i (view.Object x y z) s n = absurd n
met_none a root i (view.Wrapper x y) s n = absurd n
met_none a root i (view.Values x y z) s n = absurd n
met_none a root i (view.Dictionary x y) s n = absurd n

pub array_in : (a : Arena) (ps : List (TextId × Stored)) (vs : List Stored) → ArePairs a ps → AreValues a vs → AreValues a (map (λ p. p.1) ps ++ vs)
array_in a ps vs h k = all_append (Names a) (map (λ p. p.1) ps) vs (seconds_in a ps h) k

pub object_in : (a : Arena) (ps : List (TextId × Stored)) (vs : List Stored) → ArePairs a ps → AreValues a vs → AreValues a (vs ++ map (λ p. p.1) ps)
object_in a ps vs h k = all_append (Names a) vs (map (λ p. p.1) ps) k (seconds_in a ps h)

-- a node's values are fewer than 2^29

values_few : (n : StoredNode) → NodeWithin n → length n.names + length n.values < 536870912
values_few n w = omega (arith, w.together, half n.head (length n.values))
  where
    half : (h : StoredHead) (k : ℕ) → k ≤ 2 * parts_of h k + 1
    half (dictionary f) k = omega arith
    half _ k = omega arith

met_length : (n : Node) → length (values_met n) ≡ length n.names + length n.values
met_length n = go (is_array n.head)
  where
    second_length : length (seconds (by_name n.names)) ≡ length n.names
    second_length = length-map (by_name n.names) (λ p. p.1) ∙ by_name_length n.names

    go : (b : Bool) → length (cond b (seconds (by_name n.names) ++ n.values) (n.values ++ seconds (by_name n.names))) ≡ length n.names + length n.values
    go true = omega (arith, length-append (seconds (by_name n.names)) n.values, second_length)
    go false = omega (arith, length-append n.values (seconds (by_name n.names)), second_length)

pub met_few : (a : Arena) (root : Stored) (i : ℕ) → IsWithinBounds a → i < length a.nodes → length (values_met (node_at (graph_of a root) i)) < 536870912
met_few a root i b l =
    let n = stored_at a i in
    let content : ℕ × Stored → List ℕ × Value = λ p. (text_at a p.0, value_content a p.1) in
    subst (λ (m : Node). length (values_met m) < 536870912) (sym (shown a root i n refl))
    (omega (arith, met_length (node_content a n), length-map n.values (value_content a), length-map n.names content, values_few n (each_there NodeWithin a.nodes i no_stored b.nodes l)))
