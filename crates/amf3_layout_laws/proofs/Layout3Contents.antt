-- What stands in an arena stays as it grows, and what the states of reading keep.
use Rattle.std.proofs.Common.{◌≡◌, ℕ, zero, suc, ◌+◌, ◌≤◌, ◌<◌, false, List, [], ◌∷◌, ◌++◌, length, map, set, get_or, slice_get, Some, None, refl, sym, ap, ◌∙◌, arith, subst, inl, inr, ◌⊎◌, append_assoc, length-append}
use Rattle.std.proofs.lemmas.List.{append-nil, map-append, length-set, get_or_append_left}
use Rattle.std.proofs.Math.Seq.{get_or-append_seam}
use Rattle.std.specs.List.{AllByRecursion}
use Rattle.amf_wire.specs.Text.{IsText}
use Rattle.amf_graph.specs.declared.value.Value.{Value as Stored}
use Rattle.amf_graph.specs.declared.value.Value.TheVariants.{Undefined, Null, Bool as Flag, Integer, Double, Text, Node as NodeRef}
use Rattle.amf_graph.specs.Graph.{Fits, Traits}
use Rattle.amf_graph.specs.Graph as graph
use Rattle.amf_graph.specs.Arena.{StoredTraits, StoredHead, xml_document, date, array, object, wrapper, xml, bytes, ints, uints, doubles, values, dictionary, StoredNode, Arena, text_at, traits_content, no_traits, traits_at, value_content, head_content, node_content, IsTextId, Names, HeadNames, IsTraitsIn}
use Rattle.amf_graph.specs.Building.{no_stored, stored_at, kept_text, kept_traits}
use Rattle.amf3_spelling.specs.Tables as content
use Rattle.amf_graph.specs.Order.{IsDistinct}
use Rattle.amf3_spelling.specs.KeptTables.{KeptEntry, plain, external, KeptTables, entry_content, IsEntryIn, AreTablesIn, tables_of}
use Rattle.amf3_layout_laws.specs.Layout3State.{stored_marker, State3, with_text, with_contents, with_entry, with_node, begun, changed}

pub all_append : {X : Type 0} (P : X → Type 0) (xs ys : List X) → AllByRecursion P xs → AllByRecursion P ys → AllByRecursion P (xs ++ ys)
all_append P [] ys a b = b
all_append P (x ∷ xs) ys a b = (a.0, all_append P xs ys a.1 b)

pub all_more : {X : Type 0} (P Q : X → Type 0) (xs : List X) → ((x : X) → P x → Q x) → AllByRecursion P xs → AllByRecursion Q xs
all_more P Q [] h a = tt
all_more P Q (x ∷ xs) h a = (h x a.0, all_more P Q xs h a.1)

all_set : {X : Type 0} (P : X → Type 0) (xs : List X) (i : ℕ) (y : X) → AllByRecursion P xs → P y → AllByRecursion P (set xs i y)
all_set P [] i y a b = tt
all_set P (x ∷ xs) zero y a b = (b, a.1)
all_set P (x ∷ xs) (suc i) y a b = (a.0, all_set P xs i y a.1 b)

pub all_at : {X : Type 0} (P : X → Type 0) (xs : List X) (i : ℕ) (d : X) → AllByRecursion P xs → i < length xs → P (get_or xs i d)
all_at P [] i d a lt = absurd (omega arith)
all_at P (x ∷ xs) zero d a lt = a.0
all_at P (x ∷ xs) (suc i) d a lt = all_at P xs i d a.1 (omega arith)

none_some : {X : Type 0} (x : X) → None ≡ Some x → ⊥
none_some x e = cc

some_same : {X : Type 0} (y x : X) → Some y ≡ Some x → y ≡ x
some_same y x e = cc

pub all_place : {X : Type 0} (P : X → Type 0) (xs : List X) (i : ℕ) (x : X) → AllByRecursion P xs → slice_get xs i ≡ Some x → P x
all_place P [] i x a e = absurd (none_some x e)
all_place P (y ∷ xs) zero x a e = subst P (some_same y x e) a.0
all_place P (y ∷ xs) (suc i) x a e = all_place P xs i x a.1 e

-- the texts and traits of the one stand first in the other, which has no fewer nodes
pub record Larger (a b : Arena) : Type 0 where
  pub more_texts : List (List ℕ)
  pub texts : b.texts ≡ a.texts ++ more_texts
  pub more_traits : List StoredTraits
  pub traits : b.traits ≡ a.traits ++ more_traits
  pub nodes : length a.nodes ≤ length b.nodes

pub larger_itself : (a b : Arena) → b.texts ≡ a.texts → b.traits ≡ a.traits → length a.nodes ≤ length b.nodes → Larger a b
larger_itself a b t r n = record { more_texts = []; texts = t ∙ sym (append-nil a.texts); more_traits = []; traits = r ∙ sym (append-nil a.traits); nodes = n }

pub larger_twice : (a b c : Arena) → Larger a b → Larger b c → Larger a c
larger_twice a b c l k = record {
  more_texts = l.more_texts ++ k.more_texts;
  texts = k.texts ∙ ap (λ x. x ++ k.more_texts) l.texts ∙ append_assoc a.texts l.more_texts k.more_texts;
  more_traits = l.more_traits ++ k.more_traits;
  traits = k.traits ∙ ap (λ x. x ++ k.more_traits) l.traits ∙ append_assoc a.traits l.more_traits k.more_traits;
  nodes = (let m = l.nodes in let n = k.nodes in omega arith);
}

module _ (a b : Arena) (l : Larger a b) where
  pub text_id : (i : ℕ) → IsTextId a i → IsTextId b i
  text_id i h = omega (arith, ap length l.texts, length-append a.texts l.more_texts)

  pub traits_id : (i : ℕ) → i < length a.traits → i < length b.traits
  traits_id i h = omega (arith, ap length l.traits, length-append a.traits l.more_traits)

  pub text_stays : (i : ℕ) → IsTextId a i → text_at b i ≡ text_at a i
  text_stays i h = ap (λ x. get_or x i []) l.texts ∙ get_or_append_left a.texts l.more_texts [] i h

  pub texts_stay : (ids : List ℕ) → AllByRecursion (IsTextId a) ids → map (text_at b) ids ≡ map (text_at a) ids
  texts_stay [] h = refl
  texts_stay (i ∷ ids) h = ap (λ x. x ∷ map (text_at b) ids) (text_stays i h.0) ∙ ap (λ x. text_at a i ∷ x) (texts_stay ids h.1)

  content_stays : (t : StoredTraits) → IsTraitsIn a t → traits_content b t ≡ traits_content a t
  content_stays t h = ap (λ x. let k : Traits = record { class = x; dynamic = t.dynamic; sealed = map (text_at b) t.sealed } in k) (text_stays t.class h.class) ∙ ap (λ x. let k : Traits = record { class = text_at a t.class; dynamic = t.dynamic; sealed = x } in k) (texts_stay t.sealed h.sealed)

  pub traits_stay : (i : ℕ) → AllByRecursion (IsTraitsIn a) a.traits → i < length a.traits → traits_at b i ≡ traits_at a i
  traits_stay i all h = ap (traits_content b) (ap (λ x. get_or x i no_traits) l.traits ∙ get_or_append_left a.traits l.more_traits no_traits i h) ∙ content_stays (get_or a.traits i no_traits) (all_at (IsTraitsIn a) a.traits i no_traits all h)

  pub traits_in : (t : StoredTraits) → IsTraitsIn a t → IsTraitsIn b t
  traits_in t h = record { class = text_id t.class h.class; sealed = all_more (IsTextId a) (IsTextId b) t.sealed text_id h.sealed }

  pub value_stays : (v : Stored) → Names a v → value_content b v ≡ value_content a v
  value_stays Undefined h = refl
  value_stays Null h = refl
  value_stays (Flag f) h = refl
  value_stays (Integer n) h = refl
  value_stays (Double p) h = refl
  value_stays (Text t) h = ap (λ x. graph.leaf (graph.text x)) (text_stays t.0 h)
  value_stays (NodeRef n) h = refl

  pub names_more : (v : Stored) → Names a v → Names b v
  names_more Undefined h = tt
  names_more Null h = tt
  names_more (Flag f) h = tt
  names_more (Integer n) h = h
  names_more (Double p) h = h
  names_more (Text t) h = text_id t.0 h
  names_more (NodeRef n) h = (let m = l.nodes in omega arith)

  pub values_stay : (vs : List Stored) → AllByRecursion (Names a) vs → map (value_content b) vs ≡ map (value_content a) vs
  values_stay [] h = refl
  values_stay (v ∷ vs) h = ap (λ x. x ∷ map (value_content b) vs) (value_stays v h.0) ∙ ap (λ x. value_content a v ∷ x) (values_stay vs h.1)

  pair_stays : (p : ℕ × Stored) → IsTextId a p.0 × Names a p.1 → (let q : List ℕ × graph.Value = (text_at b p.0, value_content b p.1) in q) ≡ (let q : List ℕ × graph.Value = (text_at a p.0, value_content a p.1) in q)
  pair_stays p h = ap (λ x. let q : List ℕ × graph.Value = (x, value_content b p.1) in q) (text_stays p.0 h.0) ∙ ap (λ x. let q : List ℕ × graph.Value = (text_at a p.0, x) in q) (value_stays p.1 h.1)

  pub pairs_stay : (ps : List (ℕ × Stored)) → AllByRecursion (λ p. IsTextId a p.0 × Names a p.1) ps → map {B = List ℕ × graph.Value} (λ p. (text_at b p.0, value_content b p.1)) ps ≡ map {B = List ℕ × graph.Value} (λ p. (text_at a p.0, value_content a p.1)) ps
  pairs_stay [] h = refl
  pairs_stay (p ∷ ps) h = ap (λ x. x ∷ map {B = List ℕ × graph.Value} (λ p. (text_at b p.0, value_content b p.1)) ps) (pair_stays p h.0) ∙ ap (λ x. (text_at a p.0, value_content a p.1) ∷ x) (pairs_stay ps h.1)

  pub head_stays : (h : StoredHead) → AllByRecursion (IsTraitsIn a) a.traits → HeadNames a h → head_content b h ≡ head_content a h
  head_stays (xml_document x) all h = ap graph.xml_document (text_stays x h)
  head_stays (date p) all h = refl
  head_stays array all h = refl
  head_stays (object t) all h = ap graph.object (traits_stay t all h)
  head_stays (wrapper c) all h = refl
  head_stays (xml x) all h = ap graph.xml (text_stays x h)
  head_stays (bytes x) all h = refl
  head_stays (ints f ns) all h = refl
  head_stays (uints f ns) all h = refl
  head_stays (doubles f ns) all h = refl
  head_stays (values f x) all h = ap (graph.values f) (text_stays x h)
  head_stays (dictionary f) all h = refl

  pub head_more : (h : StoredHead) → HeadNames a h → HeadNames b h
  head_more (xml_document x) h = text_id x h
  head_more (date p) h = tt
  head_more array h = tt
  head_more (object t) h = traits_id t h
  head_more (wrapper c) h = tt
  head_more (xml x) h = text_id x h
  head_more (bytes x) h = tt
  head_more (ints f ns) h = tt
  head_more (uints f ns) h = tt
  head_more (doubles f ns) h = tt
  head_more (values f x) h = text_id x h
  head_more (dictionary f) h = tt

-- a node whose numbers name entries; a closed one has the parts of its kind
pub record KeptNode (a : Arena) (n : StoredNode) : Type 0 where
  pub head : HeadNames a n.head
  pub names : AllByRecursion (λ p. IsTextId a p.0 × Names a p.1) n.names
  pub values : AllByRecursion (Names a) n.values
  pub fits : n.is_open ≡ false → Fits (head_content a n.head) (node_content a n).names (node_content a n).values

pub fits_are : (h k : graph.Head) (ps qs : List (List ℕ × graph.Value)) (vs ws : List graph.Value) → h ≡ k → ps ≡ qs → vs ≡ ws → Fits h ps vs → Fits k qs ws
fits_are h k ps qs vs ws p q r f = subst (λ x. Fits x qs ws) p (subst (λ x. Fits h x ws) q (subst (λ x. Fits h ps x) r f))

pub node_more : (a b : Arena) → Larger a b → AllByRecursion (IsTraitsIn a) a.traits → (n : StoredNode) → KeptNode a n → KeptNode b n
node_more a b l all n k = record {
  head = head_more a b l n.head k.head;
  names = all_more (λ p. IsTextId a p.0 × Names a p.1) (λ p. IsTextId b p.0 × Names b p.1) n.names (λ p h. (text_id a b l p.0 h.0, names_more a b l p.1 h.1)) k.names;
  values = all_more (Names a) (Names b) n.values (names_more a b l) k.values;
  fits = λ e. fits_are (head_content a n.head) (head_content b n.head) (node_content a n).names (node_content b n).names (node_content a n).values (node_content b n).values (sym (head_stays a b l n.head all k.head)) (sym (pairs_stay a b l n.names k.names)) (sym (values_stay a b l n.values k.values)) (k.fits e);
}

pub record Kept (a : Arena) : Type 0 where
  pub texts : AllByRecursion IsText a.texts
  pub traits : AllByRecursion (IsTraitsIn a) a.traits
  pub nodes : AllByRecursion (KeptNode a) a.nodes

abbrev pub marks_of : Arena → List ℕ → List ℕ
marks_of a ids = map (λ i. stored_marker (stored_at a i).head) ids

-- the tables are those of the arena, by place and by content
pub record Good (s : State3) : Type 0 where
  pub kept : Kept s.arena
  pub tables : AreTablesIn s.arena s.tables
  pub words : s.words ≡ (tables_of s.arena s.tables).words
  pub marks : s.marks ≡ marks_of s.arena s.tables.nodes

words_of : Arena → List ℕ → List KeptEntry → content.Words
words_of a ids es = record { texts = map (text_at a) ids; traits = map (entry_content a) es }

entry_stays : (a b : Arena) → Larger a b → AllByRecursion (IsTraitsIn a) a.traits → (e : KeptEntry) → IsEntryIn a e → entry_content b e ≡ entry_content a e
entry_stays a b l all (plain t) h = ap content.plain (traits_stay a b l t all h)
entry_stays a b l all (external t c) h = refl

entries_stay : (a b : Arena) → Larger a b → AllByRecursion (IsTraitsIn a) a.traits → (es : List KeptEntry) → AllByRecursion (IsEntryIn a) es → map (entry_content b) es ≡ map (entry_content a) es
entries_stay a b l all [] h = refl
entries_stay a b l all (e ∷ es) h = ap (λ x. x ∷ map (entry_content b) es) (entry_stays a b l all e h.0) ∙ ap (λ x. entry_content a e ∷ x) (entries_stay a b l all es h.1)

entry_more : (a b : Arena) → Larger a b → AllByRecursion (IsTraitsIn a) a.traits → (e : KeptEntry) → IsEntryIn a e → IsEntryIn b e
entry_more a b l all (plain t) h = traits_id a b l t h
entry_more a b l all (external t c) h = traits_id a b l t h

pub words_stay : (a b : Arena) (t : KeptTables) → Larger a b → AllByRecursion (IsTraitsIn a) a.traits → AreTablesIn a t → (tables_of b t).words ≡ (tables_of a t).words
words_stay a b t l all v =
    ap (λ x. let w : content.Words = record { texts = x; traits = map (entry_content b) t.traits } in w) (texts_stay a b l t.texts v.texts)
    ∙ ap (λ x. let w : content.Words = record { texts = map (text_at a) t.texts; traits = x } in w) (entries_stay a b l all t.traits v.traits)

pub tables_more : (a b : Arena) (t : KeptTables) → Larger a b → AllByRecursion (IsTraitsIn a) a.traits → AreTablesIn a t → AreTablesIn b t
tables_more a b t l all v = record {
  texts = all_more (IsTextId a) (IsTextId b) t.texts (text_id a b l) v.texts;
  traits = all_more (IsEntryIn a) (IsEntryIn b) t.traits (entry_more a b l all) v.traits;
  nodes = all_more (λ i. i < length a.nodes) (λ i. i < length b.nodes) t.nodes (λ i h. let n = l.nodes in omega arith) v.nodes;
  distinct = v.distinct;
}

-- a text in the arena
pub text_larger : (a : Arena) (x : List ℕ) → Larger a (kept_text a x)
text_larger a x = record { more_texts = x ∷ []; texts = refl; more_traits = []; traits = sym (append-nil a.traits); nodes = omega arith }

kept_with_text : (a : Arena) (x : List ℕ) → IsText x → Kept a → Kept (kept_text a x)
kept_with_text a x h k = record {
  texts = all_append IsText a.texts (x ∷ []) k.texts (h, tt);
  traits = all_more (IsTraitsIn a) (IsTraitsIn (kept_text a x)) a.traits (traits_in a (kept_text a x) (text_larger a x)) k.traits;
  nodes = all_more (KeptNode a) (KeptNode (kept_text a x)) a.nodes (node_more a (kept_text a x) (text_larger a x) k.traits) k.nodes;
}

pub good_contents : (s : State3) (x : List ℕ) → IsText x → Good s → Good (with_contents s x)
good_contents s x h g =
    let l = text_larger s.arena x in
    record { kept = kept_with_text s.arena x h g.kept; tables = tables_more s.arena (kept_text s.arena x) s.tables l g.kept.traits g.tables; words = g.words ∙ sym (words_stay s.arena (kept_text s.arena x) s.tables l g.kept.traits g.tables); marks = g.marks }

pub good_text : (s : State3) (x : List ℕ) → IsText x → Good s → Good (with_text s x)
good_text s [] h g = let c = good_contents s [] h g in record { kept = c.kept; tables = c.tables; words = c.words; marks = c.marks }
good_text s (b ∷ x) h g =
    let c = good_contents s (b ∷ x) h g in
    let i = length s.arena.texts in
    let z = kept_text s.arena (b ∷ x) in
    let there : text_at z i ≡ b ∷ x = get_or-append_seam s.arena.texts (b ∷ x) [] [] in
    let pushed : map (text_at z) (s.tables.texts ++ i ∷ []) ≡ map (text_at z) s.tables.texts ++ (b ∷ x) ∷ [] = map-append (text_at z) s.tables.texts (i ∷ []) ∙ ap (λ y. map (text_at z) s.tables.texts ++ y ∷ []) there in
    record {
      kept = c.kept;
      marks = c.marks;
      words = ap (λ w. content.add_text w (b ∷ x)) c.words ∙ ap (λ y. let w : content.Words = record { texts = y; traits = map (entry_content z) s.tables.traits } in w) (sym pushed);
      tables = record { texts = all_append (IsTextId z) s.tables.texts (i ∷ []) c.tables.texts (omega (arith, length-append s.arena.texts ((b ∷ x) ∷ [])), tt); traits = c.tables.traits; nodes = c.tables.nodes; distinct = c.tables.distinct };
    }

-- traits in the arena
pub good_entry : (s : State3) (t : StoredTraits) (e : KeptEntry) (c : content.Entry) → IsTraitsIn s.arena t → Good s → IsEntryIn (kept_traits s.arena t) e → entry_content (kept_traits s.arena t) e ≡ c → Good (with_entry s t e c)
good_entry s t e c h g inside is =
    let a = s.arena in
    let b = kept_traits a t in
    let l : Larger a b = record { more_texts = []; texts = sym (append-nil a.texts); more_traits = t ∷ []; traits = refl; nodes = omega arith } in
    let v = tables_more a b s.tables l g.kept.traits g.tables in
    let pushed : map (entry_content b) (s.tables.traits ++ e ∷ []) ≡ map (entry_content b) s.tables.traits ++ c ∷ [] = map-append (entry_content b) s.tables.traits (e ∷ []) ∙ ap (λ y. map (entry_content b) s.tables.traits ++ y ∷ []) is in
    record {
      marks = g.marks;
      kept = record { texts = g.kept.texts; traits = all_append (IsTraitsIn b) a.traits (t ∷ []) (all_more (IsTraitsIn a) (IsTraitsIn b) a.traits (traits_in a b l) g.kept.traits) (traits_in a b l t h, tt); nodes = all_more (KeptNode a) (KeptNode b) a.nodes (node_more a b l g.kept.traits) g.kept.nodes };
      tables = record { texts = v.texts; traits = all_append (IsEntryIn b) s.tables.traits (e ∷ []) v.traits (inside, tt); nodes = v.nodes; distinct = v.distinct };
      words = ap (λ w. content.add_entry w c) (g.words ∙ sym (words_stay a b s.tables l g.kept.traits g.tables)) ∙ ap (λ y. let w : content.Words = record { texts = map (text_at b) s.tables.texts; traits = y } in w) (sym pushed);
    }

-- a node in the arena and in the table
before_or_last : (xs : List ℕ) (n j x : ℕ) → slice_get (xs ++ n ∷ []) j ≡ Some x → (slice_get xs j ≡ Some x) ⊎ ((j ≡ length xs) × (x ≡ n))
before_or_last [] n zero x e = inr (refl, cc)
before_or_last [] n (suc j) x e = absurd (none x e)
  where
    none : (x : ℕ) → None ≡ Some x → ⊥
    none x e = cc
before_or_last (y ∷ xs) n zero x e = inl e
before_or_last (y ∷ xs) n (suc j) x e = later (before_or_last xs n j x e)
  where
    later : (slice_get xs j ≡ Some x) ⊎ ((j ≡ length xs) × (x ≡ n)) → (slice_get xs j ≡ Some x) ⊎ ((suc j ≡ suc (length xs)) × (x ≡ n))
    later (inl h) = inl h
    later (inr h) = inr (ap suc h.0, h.1)

pub distinct_more : (xs : List ℕ) (n : ℕ) → IsDistinct xs → AllByRecursion (λ i. i < n) xs → IsDistinct (xs ++ n ∷ [])
distinct_more xs n d below j k x e h = by (before_or_last xs n j x e) (before_or_last xs n k x h)
  where
    by : (slice_get xs j ≡ Some x) ⊎ ((j ≡ length xs) × (x ≡ n)) → (slice_get xs k ≡ Some x) ⊎ ((k ≡ length xs) × (x ≡ n)) → j ≡ k
    by (inl a) (inl b) = d j k x a b
    by (inl a) (inr b) = let lt = all_place (λ i. i < n) xs j x below a in let e = b.1 in absurd (omega arith)
    by (inr a) (inl b) = let lt = all_place (λ i. i < n) xs k x below b in let e = a.1 in absurd (omega arith)
    by (inr a) (inr b) = a.0 ∙ sym b.0

pub marks_more : (a b : Arena) (q : StoredNode) (ids : List ℕ) → b.nodes ≡ a.nodes ++ q ∷ [] → AllByRecursion (λ i. i < length a.nodes) ids → marks_of b ids ≡ marks_of a ids
marks_more a b q [] e h = refl
marks_more a b q (i ∷ ids) e h =
    ap (λ m. m ∷ marks_of b ids) (ap (λ l. stored_marker (get_or l i no_stored).head) e ∙ ap (λ (n : StoredNode). stored_marker n.head) (get_or_append_left a.nodes (q ∷ []) no_stored i h.0)) ∙ ap (λ l. stored_marker (stored_at a i).head ∷ l) (marks_more a b q ids e h.1)

pub good_node : (s : State3) (head : StoredHead) → Good s → HeadNames s.arena head → ((begun head).is_open ≡ false → Fits (head_content s.arena head) [] []) → Good (with_node s head)
good_node s head g named fits =
    let a = s.arena in
    let q = begun head in
    let i = length a.nodes in
    let b = (with_node s head).arena in
    let longer : length b.nodes ≡ i + 1 = length-append a.nodes (q ∷ []) in
    let l : Larger a b = larger_itself a b refl refl (omega arith) in
    let v = tables_more a b s.tables l g.kept.traits g.tables in
    let n : KeptNode a q = record { head = named; names = tt; values = tt; fits = fits } in
    record {
      kept = record {
        texts = g.kept.texts;
        traits = all_more (IsTraitsIn a) (IsTraitsIn b) a.traits (traits_in a b l) g.kept.traits;
        nodes = all_append (KeptNode b) a.nodes (q ∷ []) (all_more (KeptNode a) (KeptNode b) a.nodes (node_more a b l g.kept.traits) g.kept.nodes) (node_more a b l g.kept.traits q n, tt);
      };
      tables = record { texts = v.texts; traits = v.traits; nodes = all_append (λ j. j < length b.nodes) s.tables.nodes (i ∷ []) v.nodes (omega arith, tt); distinct = distinct_more s.tables.nodes i g.tables.distinct g.tables.nodes };
      words = g.words ∙ sym (words_stay a b s.tables l g.kept.traits g.tables);
      marks = ap (λ m. m ++ stored_marker head ∷ []) (g.marks ∙ sym (marks_more a b q s.tables.nodes refl g.tables.nodes))
          ∙ ap (λ (n : StoredNode). marks_of b s.tables.nodes ++ stored_marker n.head ∷ []) (sym (get_or-append_seam a.nodes q [] no_stored)) ∙ sym (map-append (λ j. stored_marker (stored_at b j).head) s.tables.nodes (i ∷ []));
    }

-- a node that is changed in its place
head_set : (ns : List StoredNode) (i j : ℕ) (r : StoredNode) → r.head ≡ (get_or ns i no_stored).head → (get_or (set ns i r) j no_stored).head ≡ (get_or ns j no_stored).head
head_set [] i j r e = refl
head_set (n ∷ ns) zero zero r e = e
head_set (n ∷ ns) zero (suc j) r e = refl
head_set (n ∷ ns) (suc i) zero r e = refl
head_set (n ∷ ns) (suc i) (suc j) r e = head_set ns i j r e

marks_set : (a b : Arena) (i : ℕ) (r : StoredNode) (ids : List ℕ) → b.nodes ≡ set a.nodes i r → r.head ≡ (stored_at a i).head → marks_of b ids ≡ marks_of a ids
marks_set a b i r [] e h = refl
marks_set a b i r (j ∷ ids) e h =
    ap (λ m. m ∷ marks_of b ids) (ap (λ l. stored_marker (get_or l j no_stored).head) e ∙ ap stored_marker (head_set a.nodes i j r h)) ∙ ap (λ l. stored_marker (stored_at a j).head ∷ l) (marks_set a b i r ids e h)

pub good_changed : (s : State3) (f : StoredNode → StoredNode) (i : ℕ) → Good s → (f (stored_at s.arena i)).head ≡ (stored_at s.arena i).head → KeptNode s.arena (f (stored_at s.arena i)) → Good (changed f i s)
good_changed s f i g same n =
    let a = s.arena in
    let r = f (stored_at a i) in
    let b = (changed f i s).arena in
    let l : Larger a b = larger_itself a b refl refl (let e = length-set a.nodes i r in omega arith) in
    record {
      kept = record {
        texts = g.kept.texts;
        traits = all_more (IsTraitsIn a) (IsTraitsIn b) a.traits (traits_in a b l) g.kept.traits;
        nodes = all_more (KeptNode a) (KeptNode b) b.nodes (node_more a b l g.kept.traits) (all_set (KeptNode a) a.nodes i r g.kept.nodes n);
      };
      tables = tables_more a b s.tables l g.kept.traits g.tables;
      words = g.words ∙ sym (words_stay a b s.tables l g.kept.traits g.tables);
      marks = g.marks ∙ sym (marks_set a b i r s.tables.nodes refl same);
    }
