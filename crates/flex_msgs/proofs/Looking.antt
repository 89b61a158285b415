-- Members that are looked up, one pair more, and the members of an object.
use Rattle.std.proofs.Common.{◌≡◌, ℕ, zero, suc, ◌+◌, ◌<◌, ◌≤◌, Bool, true, false, if◌then◌else◌, List, [], ◌∷◌, ◌++◌, length, map, take, get_or, Some, sym, refl, ap, ◌∙◌, subst, arith, add-one}
use Rattle.std.proofs.Math.ListN as listn
use Rattle.std.specs.Prelude.{bytes_eq}
use Rattle.std.specs.List.{AllByRecursion}
use Rattle.std.proofs.lemmas.List.{map-append, length-map}
use Rattle.amf_graph.specs.declared.value.Value.{Value as Stored}
use Rattle.amf_graph.specs.declared.value.TextId.{TextId}
use Rattle.amf_graph.specs.Graph.{Value, leaf, node, null, Head, node_at}
use Rattle.amf_graph.specs.Arena.{Arena, StoredTraits, StoredNode, IsTextId, Names, IsTraitsIn, IsNodeIn, text_at, value_content, traits_content, node_content, head_content, traits_at, graph_of, no_traits, object}
use Rattle.amf_graph.specs.Building.{closed, stored_at, no_stored}
use Rattle.amf_graph.specs.Views.{named}
use Rattle.amf_graph.proofs.Alls.{all_append}
use Rattle.flex_msgs.specs.Lookup.{last_or, value_named, sealed_pairs, members_of, pairs_of, pairs_by_kind}
use Rattle.flex_msgs.specs.KeptPairs.{pairs_content, stored_pairs, IsPairIn}
use Rattle.amf_graph.specs.Grafting.{node_value}
use Rattle.flex_msgs.specs.declared.class.Served.{Served}
use Rattle.flex_msgs.specs.Classes.{served_class}
use Rattle.flex_msgs.specs.Viewing.{value_view, kind_view, served_view}
use Rattle.flex_msgs.proofs.Partly.{one_more_named, all_taken}

last_push : (v : Value) (x : List ℕ) (ps : List (List ℕ × Value)) (p : List ℕ × Value) → last_or v x (ps ++ p ∷ []) ≡ (if bytes_eq p.0 x then p.1 else last_or v x ps)
last_push v x [] p = refl
last_push v x (q ∷ ps) p = last_push (if bytes_eq q.0 x then q.1 else v) x ps p

by_test : (t u : Bool) (v w : Value) → t ≡ u → (if t then v else w) ≡ (if u then v else w)
by_test t u v w e = ap (λ b. if b then v else w) e

module _ (a : Arena) (x : List ℕ) (ps : List (TextId × Stored)) (k : ℕ) (d : TextId × Stored) (l : k < length ps) where
  step : value_named x (pairs_content a (named (take (k + 1) ps))) ≡ (if bytes_eq (text_at a (get_or ps k d).0.0) x then value_content a (get_or ps k d).1 else value_named x (pairs_content a (named (take k ps))))
  step =
      ap (λ qs. value_named x (pairs_content a qs)) (one_more_named ps k d l)
      ∙ ap (value_named x) (map-append (λ (p : ℕ × Stored). (text_at a p.0, value_content a p.1)) (named (take k ps)) (((get_or ps k d).0.0, (get_or ps k d).1) ∷ []))
      ∙ last_push (leaf null) x (pairs_content a (named (take k ps))) (text_at a (get_or ps k d).0.0, value_content a (get_or ps k d).1)

  pub found : bytes_eq (text_at a (get_or ps k d).0.0) x ≡ true → value_content a (get_or ps k d).1 ≡ value_named x (pairs_content a (named (take (k + 1) ps)))
  found e = sym (step ∙ by_test (bytes_eq (text_at a (get_or ps k d).0.0) x) true (value_content a (get_or ps k d).1) (value_named x (pairs_content a (named (take k ps)))) e)

  pub passed : bytes_eq (text_at a (get_or ps k d).0.0) x ≡ false → value_named x (pairs_content a (named (take k ps))) ≡ value_named x (pairs_content a (named (take (k + 1) ps)))
  passed e = sym (step ∙ by_test (bytes_eq (text_at a (get_or ps k d).0.0) x) false (value_content a (get_or ps k d).1) (value_named x (pairs_content a (named (take k ps)))) e)

-- The members of an object.

abbrev pub ids : List TextId → List ℕ
ids xs = map (λ x. x.0) xs

stored_more : (xs : List TextId) (vs : List Stored) (k : ℕ) (d : TextId) (e : Stored) → length vs ≡ length xs → k < length vs → stored_pairs (ids xs) (take (suc k) vs) ≡ stored_pairs (ids xs) (take k vs) ++ ((get_or xs k d).0, get_or vs k e) ∷ []
stored_more [] [] k d e h l = absurd (omega (arith, l))
stored_more [] (v ∷ vs) k d e h l = absurd (omega (arith, h))
stored_more (x ∷ xs) [] k d e h l = absurd (omega (arith, h))
stored_more (x ∷ xs) (v ∷ vs) zero d e h l = ap (λ w. (x.0, v) ∷ w) (none xs vs)
  where
    none : (xs : List TextId) (vs : List Stored) → stored_pairs (ids xs) (take 0 vs) ≡ []
    none [] vs = refl
    none (x ∷ xs) [] = refl
    none (x ∷ xs) (v ∷ vs) = refl
stored_more (x ∷ xs) (v ∷ vs) (suc k) d e h l = ap (λ w. (x.0, v) ∷ w) (stored_more xs vs k d e (omega (arith, h)) (omega (arith, l)))

pub stored_none : (xs : List ℕ) (vs : List Stored) → stored_pairs xs (take 0 vs) ≡ []
stored_none [] vs = refl
stored_none (x ∷ xs) [] = refl
stored_none (x ∷ xs) (v ∷ vs) = refl

pub members_more : (t : StoredTraits) (xs : List TextId) (vs : List Stored) (ps new : List (TextId × Stored)) (k : ℕ) (d : TextId) (e : Stored) → t.sealed ≡ ids xs → length vs ≡ length t.sealed → k < length vs → new ≡ ps ++ (get_or xs k d, get_or vs k e) ∷ [] → named ps ≡ stored_pairs t.sealed (take k vs) → named new ≡ stored_pairs t.sealed (take (k + 1) vs)
members_more t xs vs ps new k d e s h l n i =
    let same : length vs ≡ length xs = h ∙ ap length s ∙ length-map xs (λ (x : TextId). x.0) in
    ap named n ∙ map-append (λ (p : TextId × Stored). (p.0.0, p.1)) ps ((get_or xs k d, get_or vs k e) ∷ [])
    ∙ ap (λ w. w ++ ((get_or xs k d).0, get_or vs k e) ∷ []) (i ∙ ap (λ w. stored_pairs w (take k vs)) s)
    ∙ sym (stored_more xs vs k d e same l)
    ∙ ap (λ w. stored_pairs w (take (suc k) vs)) (sym s)
    ∙ ap (λ j. stored_pairs t.sealed (take j vs)) (sym (add-one k))

pub members_all : (t : StoredTraits) (vs : List Stored) (ps new more : List (TextId × Stored)) (k : ℕ) → length vs ≤ k → new ≡ ps ++ more → named ps ≡ stored_pairs t.sealed (take k vs) → named new ≡ stored_pairs t.sealed vs ++ named more
members_all t vs ps new more k l n i =
    ap named n ∙ map-append (λ (p : TextId × Stored). (p.0.0, p.1)) ps more
    ∙ ap (λ w. w ++ named more) (i ∙ ap (stored_pairs t.sealed) (all_taken vs k l))

content_members : (a : Arena) (xs : List ℕ) (vs : List Stored) (ps : List (ℕ × Stored)) → pairs_content a (stored_pairs xs vs ++ ps) ≡ sealed_pairs (map (text_at a) xs) (map (value_content a) vs) ++ pairs_content a ps
content_members a [] vs ps = refl
content_members a (x ∷ xs) [] ps = refl
content_members a (x ∷ xs) (v ∷ vs) ps = ap (λ w. (text_at a x, value_content a v) ∷ w) (content_members a xs vs ps)

-- by content they are the members
pub members_content : (a : Arena) (t : StoredTraits) (n : StoredNode) (i : ℕ) (ms items : List (ℕ × Stored)) (vs : List Stored) → n ≡ closed (object i) ms vs → items ≡ stored_pairs t.sealed vs ++ ms → pairs_content a items ≡ members_of (traits_content a t) (node_content a n)
members_content a t n i ms items vs e h =
    ap (pairs_content a) h ∙ content_members a t.sealed vs ms ∙ ap (λ z. members_of (traits_content a t) (node_content a z)) (sym e)

stored_in : (a : Arena) (xs : List ℕ) (vs : List Stored) → AllByRecursion (IsTextId a) xs → AllByRecursion (Names a) vs → AllByRecursion (IsPairIn a) (stored_pairs xs vs)
stored_in a [] vs h k = tt
stored_in a (x ∷ xs) [] h k = tt
stored_in a (x ∷ xs) (v ∷ vs) h k = ((h.0, k.0), stored_in a xs vs h.1 k.1)

pub members_in : (a : Arena) (t : StoredTraits) (n : StoredNode) (i : ℕ) (ms items : List (ℕ × Stored)) (vs : List Stored) → n ≡ closed (object i) ms vs → items ≡ stored_pairs t.sealed vs ++ ms → IsTraitsIn a t → IsNodeIn a n → AllByRecursion (IsPairIn a) items
members_in a t n i ms items vs e h b w =
    let k : IsNodeIn a (closed (object i) ms vs) = subst (IsNodeIn a) e w in
    subst (AllByRecursion (IsPairIn a)) (sym h) (all_append (IsPairIn a) (stored_pairs t.sealed vs) ms (stored_in a t.sealed vs b.sealed k.values) k.names)

-- A node by content.

pub node_content_at : (a : Arena) (root : Stored) (i : ℕ) → node_at (graph_of a root) i ≡ node_content a (stored_at a i)
node_content_at a root i = listn.get_or-map (node_content a) a.nodes i no_stored

pub object_pairs : (a : Arena) (root : Stored) (i t : ℕ) (ms : List (ℕ × Stored)) (vs : List Stored) → stored_at a i ≡ closed (object t) ms vs → pairs_of (graph_of a root) (node i) ≡ Some (members_of (traits_at a t) (node_content a (stored_at a i)))
object_pairs a root i t ms vs e =
    let f = node_content_at a root i in
    ap (λ z. pairs_by_kind z.head z) f
    ∙ ap (λ (d : Head). pairs_by_kind d (node_content a (stored_at a i))) (ap (λ (z : StoredNode). head_content a z.head) e)

-- an object of a class that is served
pub object_view : (a : Arena) (root v : Stored) (i t : ℕ) (ms items : List (ℕ × Stored)) (vs : List Stored) (k : Served) → v ≡ node_value i → stored_at a i ≡ closed (object t) ms vs → items ≡ stored_pairs (get_or a.traits t no_traits).sealed vs ++ ms → served_class (traits_at a t).class ≡ Some k → value_view (graph_of a root) (value_content a v) ≡ served_view (graph_of a root) (Some k) (pairs_content a items)
object_view a root v i t ms items vs k r e h s =
    let g = graph_of a root in
    ap (λ (z : Stored). value_view g (value_content a z)) r
    ∙ ap (λ z. kind_view g z.head z) (node_content_at a root i)
    ∙ ap (λ (d : Head). kind_view g d (node_content a (stored_at a i))) (ap (λ (z : StoredNode). head_content a z.head) e)
    ∙ ap (λ o. served_view g o (members_of (traits_at a t) (node_content a (stored_at a i)))) s
    ∙ ap (served_view g (Some k)) (sym (members_content a (get_or a.traits t no_traits) (stored_at a i) t ms items vs e h))
