-- The texts and traits that are gathered are those that are used.
use Rattle.std.proofs.Common.{◌≡◌, ℕ, zero, suc, ◌+◌, ◌<◌, ◌≤◌, ◌⊎◌, List, [], ◌∷◌, ◌++◌, length, take, get_or, slice_get, Some, sym, refl, ap, ◌∙◌, subst, inl, inr, arith, add-one, append_assoc, append-nil}
use Rattle.std.specs.Prelude.{◌↔◌}
use Rattle.std.specs.List.{AllByRecursion, flat_map}
use Rattle.std.proofs.Math.Seq.{take-suc}
use Rattle.std.proofs.lemmas.Bool.{cases_eq}
use Rattle.std.proofs.lemmas.List.{map-append}
use Rattle.std.proofs.lemmas.Option.{same_Some}
use Rattle.amf_graph.specs.declared.value.TextId.{TextId}
use Rattle.amf_graph.specs.declared.value.Value.{Value as Stored}
use Rattle.amf_graph.specs.declared.value.Value.TheVariants.{Undefined, Null, Bool as Flag, Integer, Double, Text, Node as NodeRef}
use Rattle.amf_graph.specs.Arena.{Arena, StoredHead, xml_document, date, array, object, wrapper, xml, bytes, ints, uints, doubles, values, dictionary, StoredNode, no_traits, Names, HeadNames, IsTextId, IsTraitsIn, IsNodeIn, IsBuilt}
use Rattle.amf_graph.specs.Building.{stored_at}
use Rattle.amf_graph.specs.Order.{IsDistinct}
use Rattle.amf_graph.specs.Gather.{with_entry, with_all, text_in, texts_in, pair_texts, head_texts, node_texts, traits_texts, head_traits, texts_of_nodes, traits_of_nodes, texts_of_traits}
use Rattle.amf_graph.specs.Grafting.{StandsAt, HoldsStored, text_value, Reaches, UsesTraits, UsesText, of_root, of_head, of_name, of_value, of_class, of_sealed, HeadText}
use Rattle.amf_graph.proofs.Alls.{all_append, all_at}
use Rattle.amf_graph.proofs.Built.{stands}
use Rattle.amf_graph.proofs.Lists.{at_left, at_right, in_either, no_entry, search_for}
use Rattle.amf_graph.proofs.Walks.{distinct_push}
use Rattle.amf_graph.proofs.Placing.{entry_there, entry_absent}
use Rattle.amf_graph.specs.Views.{named, flat}
use Rattle.amf_graph.proofs.HeldParts.{entry_more}
use Rattle.amf_graph.proofs.Gathering.{entry_keeps, entry_stands, entry_from}

-- Numbers that are added one after another.

pub all_push : (is : List ℕ) (i : ℕ) (xs : List ℕ) → with_all (is ++ i ∷ []) xs ≡ with_entry i (with_all is xs)
all_push [] i xs = refl
all_push (j ∷ is) i xs = all_push is i (with_entry j xs)

pub all_more : (is : List ℕ) (k d : ℕ) (xs : List ℕ) → k < length is → with_all (take (k + 1) is) xs ≡ with_entry (get_or is k d) (with_all (take k is) xs)
all_more is k d xs l = rw (add-one, take-suc is k d l) (all_push (take k is) (get_or is k d) xs)

all_keep : (is xs : List ℕ) (k j : ℕ) → slice_get xs k ≡ Some j → slice_get (with_all is xs) k ≡ Some j
all_keep [] xs k j e = e
all_keep (i ∷ is) xs k j e = all_keep is (with_entry i xs) k j (entry_keeps i xs k j e)

all_stand : (is xs : List ℕ) (k i : ℕ) → slice_get is k ≡ Some i → StandsAt (with_all is xs) i
all_stand [] xs k i e = cc
all_stand (j ∷ is) xs zero i e = let s = subst (StandsAt (with_entry j xs)) (same_Some j i e) (entry_stands j xs) in (s.0, all_keep is (with_entry j xs) s.0 i s.1)
all_stand (j ∷ is) xs (suc k) i e = all_stand is (with_entry j xs) k i e

all_from : (is xs : List ℕ) (k j : ℕ) → slice_get (with_all is xs) k ≡ Some j → (slice_get xs k ≡ Some j) ⊎ StandsAt is j
all_from [] xs k j e = inl e
all_from (i ∷ is) xs k j e =
    elim (all_from is (with_entry i xs) k j e) [
      | inl f ↦ elim (entry_from i xs k j f) [ inl g ↦ inl g | inr g ↦ inr (0, ap (λ w. Some w) g) ]
      | inr s ↦ inr (suc s.0, s.1)
    ]

pub gathered_is : (is : List ℕ) (i : ℕ) → StandsAt (with_all is []) i ↔ StandsAt is i
gathered_is is i = (
  λ s. elim (all_from is [] s.0 i s.1) [ inl f ↦ absurd (no_entry s.0 i f) | inr t ↦ t ],
  λ s. all_stand is [] s.0 i s.1,
)

-- none of them stands twice

entry_distinct : (i : ℕ) (xs : List ℕ) → IsDistinct xs → IsDistinct (with_entry i xs)
entry_distinct i xs d =
    elim (search_for cases_eq xs i) [
      | inl p ↦ subst IsDistinct (sym (entry_there p.0 i xs d p.1)) d
      | inr a ↦ subst IsDistinct (sym (entry_absent i xs a)) (distinct_push xs i a d)
    ]

distinct_from : (is xs : List ℕ) → IsDistinct xs → IsDistinct (with_all is xs)
distinct_from [] xs d = d
distinct_from (i ∷ is) xs d = distinct_from is (with_entry i xs) (entry_distinct i xs d)

pub distinct_all : (is : List ℕ) → IsDistinct (with_all is [])
distinct_all is = distinct_from is [] (λ j k i e f. absurd (no_entry j i e))

-- Lists behind one another.

left : (xs ys : List ℕ) (i : ℕ) → StandsAt xs i → StandsAt (xs ++ ys) i
left xs ys i s = (s.0, at_left xs ys s.0 i s.1)

right : (xs ys : List ℕ) (i : ℕ) → StandsAt ys i → StandsAt (xs ++ ys) i
right xs ys i s = at_right xs ys s.0 i s.1

either : (xs ys : List ℕ) (i : ℕ) → StandsAt (xs ++ ys) i → StandsAt xs i ⊎ StandsAt ys i
either xs ys i s = in_either xs ys s.0 i s.1

flat_push : {X : Type 0} (f : X → List ℕ) (is : List X) (i : X) → flat_map f (is ++ i ∷ []) ≡ flat_map f is ++ f i
flat_push f [] i = append-nil (f i)
flat_push f (j ∷ is) i = ap (λ w. f j ++ w) (flat_push f is i) ∙ sym (append_assoc (f j) (flat_map f is) (f i))

flat_append : {X : Type 0} (f : X → List ℕ) (is js : List X) → flat_map f (is ++ js) ≡ flat_map f is ++ flat_map f js
flat_append f [] js = refl
flat_append f (i ∷ is) js = ap (λ w. f i ++ w) (flat_append f is js) ∙ sym (append_assoc (f i) (flat_map f is) (flat_map f js))

pub flat_more : {X : Type 0} (f : X → List ℕ) (is : List X) (k : ℕ) (d : X) → k < length is → flat_map f (take (k + 1) is) ≡ flat_map f (take k is) ++ f (get_or is k d)
flat_more f is k d l = rw (add-one, take-suc is k d l) (flat_push f (take k is) (get_or is k d))

flat_from : {X : Type 0} (f : X → List ℕ) (is : List X) (x : ℕ) → StandsAt (flat_map f is) x → (k : ℕ) × (i : X) × (slice_get is k ≡ Some i) × StandsAt (f i) x
flat_from f [] x s = absurd (no_entry s.0 x s.1)
flat_from f (i ∷ is) x s =
    elim (either (f i) (flat_map f is) x s) [
      | inl t ↦ (0, i, refl, t)
      | inr t ↦ let r = flat_from f is x t in (suc r.0, r.1, r.2, r.3)
    ]

flat_to : {X : Type 0} (f : X → List ℕ) (is : List X) (k : ℕ) (i : X) (x : ℕ) → slice_get is k ≡ Some i → StandsAt (f i) x → StandsAt (flat_map f is) x
flat_to f [] k i x e s = cc
flat_to f (j ∷ is) zero i x e s = left (f j) (flat_map f is) x (subst (λ z. StandsAt (f z) x) (sym (same_Some j i e)) s)
flat_to f (j ∷ is) (suc k) i x e s = right (f j) (flat_map f is) x (flat_to f is k i x e s)

-- One value, one pair, one node.

one_entry : (y k x : ℕ) → slice_get (y ∷ []) k ≡ Some x → y ≡ x
one_entry y zero x e = same_Some y x e
one_entry y (suc k) x e = absurd (no_entry k x e)

text_from : (v : Stored) (k x : ℕ) → slice_get (text_in v) k ≡ Some x → v ≡ text_value x
text_from Undefined k x e = absurd (no_entry k x e)
text_from Null k x e = absurd (no_entry k x e)
text_from (Flag b) k x e = absurd (no_entry k x e)
text_from (Integer n) k x e = absurd (no_entry k x e)
text_from (Double p) k x e = absurd (no_entry k x e)
text_from (Text t) k x e = ap text_value (one_entry t.0 k x e)
text_from (NodeRef n) k x e = absurd (no_entry k x e)

text_to : (v : Stored) (x : ℕ) → v ≡ text_value x → StandsAt (text_in v) x
text_to v x e = subst (λ w. StandsAt (text_in w) x) (sym e) (0, refl)

head_text_from : (d : StoredHead) (k x : ℕ) → slice_get (head_texts d) k ≡ Some x → HeadText d x
head_text_from (xml_document y) k x e = one_entry y k x e
head_text_from (date p) k x e = absurd (no_entry k x e)
head_text_from array k x e = absurd (no_entry k x e)
head_text_from (object t) k x e = absurd (no_entry k x e)
head_text_from (wrapper c) k x e = absurd (no_entry k x e)
head_text_from (xml y) k x e = one_entry y k x e
head_text_from (bytes y) k x e = absurd (no_entry k x e)
head_text_from (ints f ns) k x e = absurd (no_entry k x e)
head_text_from (uints f ns) k x e = absurd (no_entry k x e)
head_text_from (doubles f ns) k x e = absurd (no_entry k x e)
head_text_from (values f y) k x e = one_entry y k x e
head_text_from (dictionary f) k x e = absurd (no_entry k x e)

head_text_to : (d : StoredHead) (x : ℕ) → HeadText d x → StandsAt (head_texts d) x
head_text_to (xml_document y) x e = (0, ap (λ w. Some w) e)
head_text_to (date p) x e = absurd e
head_text_to array x e = absurd e
head_text_to (object t) x e = absurd e
head_text_to (wrapper c) x e = absurd e
head_text_to (xml y) x e = (0, ap (λ w. Some w) e)
head_text_to (bytes y) x e = absurd e
head_text_to (ints f ns) x e = absurd e
head_text_to (uints f ns) x e = absurd e
head_text_to (doubles f ns) x e = absurd e
head_text_to (values f y) x e = (0, ap (λ w. Some w) e)
head_text_to (dictionary f) x e = absurd e

head_traits_from : (d : StoredHead) (k t : ℕ) → slice_get (head_traits d) k ≡ Some t → d ≡ object t
head_traits_from (xml_document y) k t e = absurd (no_entry k t e)
head_traits_from (date p) k t e = absurd (no_entry k t e)
head_traits_from array k t e = absurd (no_entry k t e)
head_traits_from (object u) k t e = ap object (one_entry u k t e)
head_traits_from (wrapper c) k t e = absurd (no_entry k t e)
head_traits_from (xml y) k t e = absurd (no_entry k t e)
head_traits_from (bytes y) k t e = absurd (no_entry k t e)
head_traits_from (ints f ns) k t e = absurd (no_entry k t e)
head_traits_from (uints f ns) k t e = absurd (no_entry k t e)
head_traits_from (doubles f ns) k t e = absurd (no_entry k t e)
head_traits_from (values f y) k t e = absurd (no_entry k t e)
head_traits_from (dictionary f) k t e = absurd (no_entry k t e)

head_traits_to : (d : StoredHead) (t : ℕ) → d ≡ object t → StandsAt (head_traits d) t
head_traits_to d t e = subst (λ w. StandsAt (head_traits w) t) (sym e) (0, refl)

-- The nodes and traits together.

module _ (a : Arena) (vs : List Stored) (nodes : List ℕ) (exact : (i : ℕ) → StandsAt nodes i ↔ Reaches a vs i) where
  pub traits_exact : (t : ℕ) → StandsAt (with_all (traits_of_nodes a nodes) []) t ↔ UsesTraits a vs t
  traits_exact t = (
    λ s. let r = flat_from (λ i. head_traits (stored_at a i).head) nodes t ((gathered_is (traits_of_nodes a nodes) t).0 s) in
        (r.1, (exact r.1).0 (r.0, r.2), head_traits_from (stored_at a r.1).head r.3.0 t r.3.1),
    λ u. let n = (exact u.0).1 u.1 in
        (gathered_is (traits_of_nodes a nodes) t).1 (flat_to (λ i. head_traits (stored_at a i).head) nodes n.0 u.0 t n.1 (head_traits_to (stored_at a u.0).head t u.2)),
  )

  module _ (traits : List ℕ) (used : (t : ℕ) → StandsAt traits t ↔ UsesTraits a vs t) where
    abbrev pub all_texts : List ℕ
    all_texts = texts_in vs ++ (texts_of_nodes a nodes ++ texts_of_traits a traits)

    of_values : (x : ℕ) → StandsAt (texts_in vs) x → UsesText a vs x
    of_values x s = let r = flat_from text_in vs x s in of_root r.0 (r.2 ∙ ap (λ w. Some w) (text_from r.1 r.3.0 x r.3.1))

    of_node : (i x : ℕ) → Reaches a vs i → StandsAt (node_texts (stored_at a i)) x → UsesText a vs x
    of_node i x w s =
        let n = stored_at a i in
        elim (either (head_texts n.head) (texts_in n.values ++ pair_texts n.names) x s) [
          | inl t ↦ of_head i w (head_text_from n.head t.0 x t.1)
          | inr t ↦ elim (either (texts_in n.values) (pair_texts n.names) x t) [
            | inl u ↦ let r = flat_from text_in n.values x u in of_value i w (inl (r.0, r.2 ∙ ap (λ z. Some z) (text_from r.1 r.3.0 x r.3.1)))
            | inr u ↦
                let r = flat_from (λ (p : ℕ × Stored). p.0 ∷ text_in p.1) n.names x u in
                of_pair r.0 r.1 r.2 r.3.0 r.3.1
          ]
        ]
      where
        of_pair : (k : ℕ) (p : ℕ × Stored) → slice_get (stored_at a i).names k ≡ Some p → (m : ℕ) → slice_get (p.0 ∷ text_in p.1) m ≡ Some x → UsesText a vs x
        of_pair k p e zero f = of_name i k p.1 w (e ∙ ap (λ z. Some (z, p.1)) (same_Some p.0 x f))
        of_pair k p e (suc m) f = of_value i w (inr (k, p.0, e ∙ ap (λ z. Some (p.0, z)) (text_from p.1 m x f)))

    of_class_or_sealed : (t x : ℕ) → UsesTraits a vs t → StandsAt (traits_texts (get_or a.traits t no_traits)) x → UsesText a vs x
    of_class_or_sealed t x u (zero, e) = of_class t u (same_Some (get_or a.traits t no_traits).class x e)
    of_class_or_sealed t x u (suc k, e) = of_sealed t k u e

    sound : (x : ℕ) → StandsAt all_texts x → UsesText a vs x
    sound x s =
        elim (either (texts_in vs) (texts_of_nodes a nodes ++ texts_of_traits a traits) x s) [
          | inl t ↦ of_values x t
          | inr t ↦ elim (either (texts_of_nodes a nodes) (texts_of_traits a traits) x t) [
            | inl u ↦ let r = flat_from (λ i. node_texts (stored_at a i)) nodes x u in of_node r.1 x ((exact r.1).0 (r.0, r.2)) r.3
            | inr u ↦ let r = flat_from (λ t. traits_texts (get_or a.traits t no_traits)) traits x u in of_class_or_sealed r.1 x ((used r.1).0 (r.0, r.2)) r.3
          ]
        ]

    in_node : (i x : ℕ) → Reaches a vs i → StandsAt (node_texts (stored_at a i)) x → StandsAt all_texts x
    in_node i x w s =
        let n = (exact i).1 w in
        right (texts_in vs) (texts_of_nodes a nodes ++ texts_of_traits a traits) x
        (left (texts_of_nodes a nodes) (texts_of_traits a traits) x (flat_to (λ i. node_texts (stored_at a i)) nodes n.0 i x n.1 s))

    in_traits : (t x : ℕ) → UsesTraits a vs t → StandsAt (traits_texts (get_or a.traits t no_traits)) x → StandsAt all_texts x
    in_traits t x u s =
        let n = (used t).1 u in
        right (texts_in vs) (texts_of_nodes a nodes ++ texts_of_traits a traits) x
        (right (texts_of_nodes a nodes) (texts_of_traits a traits) x (flat_to (λ t. traits_texts (get_or a.traits t no_traits)) traits n.0 t x n.1 s))

    in_pairs : (n : StoredNode) (x k : ℕ) (p : ℕ × Stored) → slice_get n.names k ≡ Some p → StandsAt (p.0 ∷ text_in p.1) x → StandsAt (node_texts n) x
    in_pairs n x k p e s =
        right (head_texts n.head) (texts_in n.values ++ pair_texts n.names) x
        (right (texts_in n.values) (pair_texts n.names) x (flat_to (λ (p : ℕ × Stored). p.0 ∷ text_in p.1) n.names k p x e s))

    of_held : (n : StoredNode) (x : ℕ) → HoldsStored n (text_value x) → StandsAt (node_texts n) x
    of_held n x (inl p) =
        right (head_texts n.head) (texts_in n.values ++ pair_texts n.names) x
        (left (texts_in n.values) (pair_texts n.names) x (flat_to text_in n.values p.0 (text_value x) x p.1 (0, refl)))
    of_held n x (inr p) = in_pairs n x p.0 (p.1, text_value x) p.2 (1, refl)

    complete : (x : ℕ) → UsesText a vs x → StandsAt all_texts x
    complete x (of_root k e) = left (texts_in vs) (texts_of_nodes a nodes ++ texts_of_traits a traits) x (flat_to text_in vs k (text_value x) x e (0, refl))
    complete x (of_head i w e) = in_node i x w (left (head_texts (stored_at a i).head) (texts_in (stored_at a i).values ++ pair_texts (stored_at a i).names) x (head_text_to (stored_at a i).head x e))
    complete x (of_name i k v w e) = in_node i x w (in_pairs (stored_at a i) x k (x, v) e (0, refl))
    complete x (of_value i w h) = in_node i x w (of_held (stored_at a i) x h)
    complete x (of_class t u e) = in_traits t x u (0, ap (λ w. Some w) e)
    complete x (of_sealed t k u e) = in_traits t x u (suc k, e)

    pub texts_exact : (x : ℕ) → StandsAt (with_all all_texts []) x ↔ UsesText a vs x
    texts_exact x = (
      λ s. sound x ((gathered_is all_texts x).0 s),
      λ u. (gathered_is all_texts x).1 (complete x u),
    )

-- One more, behind what was there.

pub more_behind : {X : Type 0} (f : X → List ℕ) (is : List X) (k : ℕ) (d : X) (old now new : List ℕ) → k < length is → now ≡ old ++ flat_map f (take k is) → new ≡ now ++ f (get_or is k d) → new ≡ old ++ flat_map f (take (k + 1) is)
more_behind f is k d old now new l e g =
    g ∙ ap (λ w. w ++ f (get_or is k d)) e ∙ append_assoc old (flat_map f (take k is)) (f (get_or is k d)) ∙ ap (λ w. old ++ w) (sym (flat_more f is k d l))

named_more : (ps : List (TextId × Stored)) (k : ℕ) (d : TextId × Stored) → k < length ps → pair_texts (named (take (k + 1) ps)) ≡ pair_texts (named (take k ps)) ++ ((get_or ps k d).0.0 ∷ text_in (get_or ps k d).1)
named_more ps k d l =
    rw (add-one, take-suc ps k d l, map-append) (flat_push (λ (p : ℕ × Stored). p.0 ∷ text_in p.1) (named (take k ps)) ((get_or ps k d).0.0, (get_or ps k d).1))

pub pairs_behind : (ps : List (TextId × Stored)) (k : ℕ) (d : TextId × Stored) (old now between new : List ℕ) → k < length ps → now ≡ old ++ pair_texts (named (take k ps)) → between ≡ now ++ (get_or ps k d).0.0 ∷ [] → new ≡ between ++ text_in (get_or ps k d).1 → new ≡ old ++ pair_texts (named (take (k + 1) ps))
pairs_behind ps k d old now between new l e f g =
    let p = get_or ps k d in
    g ∙ ap (λ w. w ++ text_in p.1) (f ∙ ap (λ w. w ++ p.0.0 ∷ []) e)
    ∙ append_assoc (old ++ pair_texts (named (take k ps))) (p.0.0 ∷ []) (text_in p.1)
    ∙ append_assoc old (pair_texts (named (take k ps))) (p.0.0 ∷ text_in p.1)
    ∙ ap (λ w. old ++ w) (sym (named_more ps k d l))

entries_more : (es : List (Stored × Stored)) (k : ℕ) (d : Stored × Stored) → k < length es → texts_in (flat (take (k + 1) es)) ≡ texts_in (flat (take k es)) ++ (text_in (get_or es k d).0 ++ text_in (get_or es k d).1)
entries_more es k d l =
    rw (entry_more es k d l) (flat_append text_in (flat (take k es)) ((get_or es k d).0 ∷ (get_or es k d).1 ∷ []) ∙ ap (λ w. texts_in (flat (take k es)) ++ (text_in (get_or es k d).0 ++ w)) (append-nil (text_in (get_or es k d).1)))

pub entries_behind : (es : List (Stored × Stored)) (k : ℕ) (d : Stored × Stored) (old now between new : List ℕ) → k < length es → now ≡ old ++ texts_in (flat (take k es)) → between ≡ now ++ text_in (get_or es k d).0 → new ≡ between ++ text_in (get_or es k d).1 → new ≡ old ++ texts_in (flat (take (k + 1) es))
entries_behind es k d old now between new l e f g =
    let p = get_or es k d in
    g ∙ ap (λ w. w ++ text_in p.1) (f ∙ ap (λ w. w ++ text_in p.0) e)
    ∙ append_assoc (old ++ texts_in (flat (take k es))) (text_in p.0) (text_in p.1)
    ∙ append_assoc old (texts_in (flat (take k es))) (text_in p.0 ++ text_in p.1)
    ∙ ap (λ w. old ++ w) (sym (entries_more es k d l))

-- The numbers are ones that the arena has.

all_flat : {X : Type 0} (P : ℕ → Type 0) (f : X → List ℕ) (Q : X → Type 0) → ((x : X) → Q x → AllByRecursion P (f x)) → (xs : List X) → AllByRecursion Q xs → AllByRecursion P (flat_map f xs)
all_flat P f Q g [] h = tt
all_flat P f Q g (x ∷ xs) h = all_append P (f x) (flat_map f xs) (g x h.0) (all_flat P f Q g xs h.1)

module _ (a : Arena) where
  text_below : (v : Stored) → Names a v → AllByRecursion (IsTextId a) (text_in v)
  text_below Undefined h = tt
  text_below Null h = tt
  text_below (Flag b) h = tt
  text_below (Integer n) h = tt
  text_below (Double p) h = tt
  text_below (Text t) h = (h, tt)
  text_below (NodeRef n) h = tt

  head_text_below : (d : StoredHead) → HeadNames a d → AllByRecursion (IsTextId a) (head_texts d)
  head_text_below (xml_document y) h = (h, tt)
  head_text_below (date p) h = tt
  head_text_below array h = tt
  head_text_below (object t) h = tt
  head_text_below (wrapper c) h = tt
  head_text_below (xml y) h = (h, tt)
  head_text_below (bytes y) h = tt
  head_text_below (ints f ns) h = tt
  head_text_below (uints f ns) h = tt
  head_text_below (doubles f ns) h = tt
  head_text_below (values f y) h = (h, tt)
  head_text_below (dictionary f) h = tt

  head_traits_below : (d : StoredHead) → HeadNames a d → AllByRecursion (λ t. t < length a.traits) (head_traits d)
  head_traits_below (xml_document y) h = tt
  head_traits_below (date p) h = tt
  head_traits_below array h = tt
  head_traits_below (object t) h = (h, tt)
  head_traits_below (wrapper c) h = tt
  head_traits_below (xml y) h = tt
  head_traits_below (bytes y) h = tt
  head_traits_below (ints f ns) h = tt
  head_traits_below (uints f ns) h = tt
  head_traits_below (doubles f ns) h = tt
  head_traits_below (values f y) h = tt
  head_traits_below (dictionary f) h = tt

  node_text_below : (n : StoredNode) → IsNodeIn a n → AllByRecursion (IsTextId a) (node_texts n)
  node_text_below n h =
      all_append (IsTextId a) (head_texts n.head) (texts_in n.values ++ pair_texts n.names) (head_text_below n.head h.head)
      (all_append (IsTextId a) (texts_in n.values) (pair_texts n.names) (all_flat (IsTextId a) text_in (Names a) text_below n.values h.values)
      (all_flat (IsTextId a) (λ (p : ℕ × Stored). p.0 ∷ text_in p.1) (λ p. IsTextId a p.0 × Names a p.1) (λ p i. (i.0, text_below p.1 i.1)) n.names h.names))

  pub traits_below : (nodes : List ℕ) → IsBuilt a → AllByRecursion (λ i. i < length a.nodes) nodes → AllByRecursion (λ t. t < length a.traits) (traits_of_nodes a nodes)
  traits_below nodes b h = all_flat (λ t. t < length a.traits) (λ i. head_traits (stored_at a i).head) (λ i. i < length a.nodes) (λ i l. head_traits_below (stored_at a i).head (stands a i b l).head) nodes h

  pub texts_below : (vs : List Stored) (nodes traits : List ℕ) → IsBuilt a → AllByRecursion (Names a) vs → AllByRecursion (λ i. i < length a.nodes) nodes → AllByRecursion (λ t. t < length a.traits) traits → AllByRecursion (IsTextId a) (texts_in vs ++ (texts_of_nodes a nodes ++ texts_of_traits a traits))
  texts_below vs nodes traits b g h k =
      all_append (IsTextId a) (texts_in vs) (texts_of_nodes a nodes ++ texts_of_traits a traits) (all_flat (IsTextId a) text_in (Names a) text_below vs g)
      (all_append (IsTextId a) (texts_of_nodes a nodes) (texts_of_traits a traits)
      (all_flat (IsTextId a) (λ i. node_texts (stored_at a i)) (λ i. i < length a.nodes) (λ i l. node_text_below (stored_at a i) (stands a i b l)) nodes h)
      (all_flat (IsTextId a) (λ t. traits_texts (get_or a.traits t no_traits)) (λ t. t < length a.traits) (λ t l. let w = all_at (IsTraitsIn a) a.traits t no_traits l b.traits in (w.class, w.sealed)) traits k))

pub all_taken : (xs : List ℕ) (i : ℕ) → length xs ≤ i → take i xs ≡ xs
all_taken [] zero l = refl
all_taken [] (suc i) l = refl
all_taken (x ∷ xs) zero l = absurd (omega arith)
all_taken (x ∷ xs) (suc i) l = ap (λ w. x ∷ w) (all_taken xs i (omega arith))
