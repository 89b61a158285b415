-- What an arena shows stays when texts come to it.
use Rattle.std.proofs.Common.{◌≡◌, ℕ, ◌+◌, ◌<◌, List, [], ◌∷◌, ◌++◌, length, get_or, take, map, sym, refl, ap, ◌∙◌, subst, arith}
use Rattle.std.proofs.lemmas.List.{length-append, append_assoc, append-nil, get_or_append_left, get_or_push, map_more}
use Rattle.std.specs.declared.vec.Vec.{Vec}
use Rattle.std.specs.declared.alloc.Global.{Global}
use Rattle.amf_graph.specs.declared.value.Value.{Value as Stored}
use Rattle.amf_graph.specs.declared.value.Value.TheVariants.{Text}
use Rattle.amf_graph.specs.declared.value.TextId.{TextId}
use Rattle.amf_graph.specs.Graph as graph
use Rattle.amf_graph.specs.Arena.{Arena, IsTextId, text_at}
use Rattle.amf_graph.specs.Building.{kept_text}
use Rattle.amf_text.specs.Linked.{Numbers}
use Rattle.amf_text_trees.specs.Sheets.{Entry, leaf, Pairs}
use Rattle.amf_text_pages.specs.declared.entry.Entry.{Entry as Code}
use Rattle.amf_text_pages.specs.Entries.{entry_of, pair_of}
use Rattle.amf_text_graphs.specs.Showing.{IsMore, Adds, Shows, AreShown, ShowsPair, ArePairsShown}

list_more : {X : Type 0} (xs ys zs more rest : List X) → ys ≡ xs ++ more → zs ≡ ys ++ rest → zs ≡ xs ++ (more ++ rest)
list_more xs ys zs more rest e f = f ∙ ap (λ w. w ++ rest) e ∙ append_assoc xs more rest

pub more_still : (a b c : Arena) → IsMore a b → IsMore b c → IsMore a c
more_still a b c f g = record {
  texts = (f.texts.0 ++ g.texts.0, list_more a.texts b.texts c.texts f.texts.0 g.texts.0 f.texts.1 g.texts.1);
  traits = (f.traits.0 ++ g.traits.0, list_more a.traits b.traits c.traits f.traits.0 g.traits.0 f.traits.1 g.traits.1);
}

pub more_same : (a : Arena) → IsMore a a
more_same a = record { texts = ([], sym (append-nil a.texts)); traits = ([], sym (append-nil a.traits)) }

pub adds_same : (a : Arena) → Adds a a
adds_same a = record { more = more_same a; nodes = refl }

pub adds_still : (a b c : Arena) → Adds a b → Adds b c → Adds a c
adds_still a b c f g = record { more = more_still a b c f.more g.more; nodes = g.nodes ∙ f.nodes }

pub adds_text : (a b : Arena) (x : List ℕ) → b ≡ kept_text a x → Adds a b
adds_text a b x e = record {
  more = record { texts = (x ∷ [], ap (λ (y : Arena). y.texts) e); traits = ([], ap (λ (y : Arena). y.traits) e ∙ sym (append-nil a.traits)) };
  nodes = ap (λ (y : Arena). y.nodes) e;
}

text_in : (xs more ys : List (List ℕ)) (x : List ℕ) → ys ≡ (xs ++ x ∷ []) ++ more → (length xs < length ys) × (get_or ys (length xs) [] ≡ x)
text_in xs more ys x e =
    let front = length-append xs (x ∷ []) in
    let long = length-append (xs ++ x ∷ []) more in
    let same = ap length e in
    (omega (arith, front, long, same), ap (λ w. get_or w (length xs) []) e ∙ get_or_append_left (xs ++ x ∷ []) more [] (length xs) (omega (arith, front)) ∙ get_or_push xs x [] (length xs) refl)

pub text_there : (a b c : Arena) (x : List ℕ) (n : ℕ) → b ≡ kept_text a x → n ≡ length a.texts → IsMore b c → IsTextId c n × (text_at c n ≡ x)
text_there a b c x n e f h =
    subst (λ w. (w < length c.texts) × (get_or c.texts w [] ≡ x)) (sym f) (text_in a.texts h.texts.0 c.texts x (h.texts.1 ∙ ap (λ (y : Arena). y.texts ++ h.texts.0) e))

pub text_shown : (labels : Numbers) (a b : Arena) (x : List ℕ) (t : TextId) → b ≡ kept_text a x → t.0 ≡ length a.texts → (c : Arena) → IsMore b c → Shows labels c (Text t) (leaf (graph.text x))
text_shown labels a b x t e f c h =
    let there = text_there a b c x t.0 e f h in
    record { content = ap (λ w. graph.leaf (graph.text w)) there.1; there = there.0 }

pub shown_push : (labels : Numbers) (a : Arena) (vs : List Stored) (es : List Entry) (v : Stored) (e : Entry) → AreShown labels a vs es → Shows labels a v e → AreShown labels a (vs ++ v ∷ []) (es ++ e ∷ [])
shown_push labels a [] [] v e h k = (k, tt)
shown_push labels a [] (f ∷ es) v e h k = absurd h
shown_push labels a (w ∷ vs) [] v e h k = absurd h
shown_push labels a (w ∷ vs) (f ∷ es) v e h k = (h.0, shown_push labels a vs es v e h.1 k)

pub pair_push : (labels : Numbers) (a : Arena) (ps : List (TextId × Stored)) (qs : Pairs) (p : TextId × Stored) (q : List ℕ × Entry) → ArePairsShown labels a ps qs → ShowsPair labels a p q → ArePairsShown labels a (ps ++ p ∷ []) (qs ++ q ∷ [])
pair_push labels a [] [] p q h k = (k, tt)
pair_push labels a [] (f ∷ qs) p q h k = absurd h
pair_push labels a (w ∷ ps) [] p q h k = absurd h
pair_push labels a (w ∷ ps) (f ∷ qs) p q h k = (h.0, pair_push labels a ps qs p q h.1 k)

pub one_more : {X Y : Type 0} (P : List Y → Type 0) (f : X → Y) (xs : List X) (k : ℕ) (x : X) → k < length xs → x ≡ get_or xs k x → P (map f (take k xs) ++ f x ∷ []) → P (map f (take (k + 1) xs))
one_more P f xs k x l is h = subst P (ap (λ w. map f (take k xs) ++ f w ∷ []) is ∙ sym (map_more f xs k x l)) h

pub shown_more : {X : Type 0} (labels : Numbers) (b b' : Arena) (vs : List Stored) (f : X → Entry) (xs : List X) (k : ℕ) (v : Stored) (x : X) → k < length xs → x ≡ get_or xs k x
    → ((a : Arena) → IsMore b a → AreShown labels a vs (map f (take k xs))) → IsMore b b' → ((a : Arena) → IsMore b' a → Shows labels a v (f x))
    → (a : Arena) → IsMore b' a → AreShown labels a (vs ++ v ∷ []) (map f (take (k + 1) xs))
shown_more labels b b' vs f xs k v x l is h m s a g =
    one_more (AreShown labels a (vs ++ v ∷ [])) f xs k x l is (shown_push labels a vs (map f (take k xs)) v (f x) (h a (more_still b b' a m g)) (s a g))

abbrev Pair : Type 0
Pair = Vec ℕ Global × Code

pub pairs_more : (labels : Numbers) (b c b' : Arena) (ps : List (TextId × Stored)) (qs : List Pair) (k : ℕ) (t : TextId) (v : Stored) (q : Pair) → k < length qs → q ≡ get_or qs k q
    → ((a : Arena) → IsMore b a → ArePairsShown labels a ps (map pair_of (take k qs))) → c ≡ kept_text b q.0.items → t.0 ≡ length b.texts → Adds c b' → ((a : Arena) → IsMore b' a → Shows labels a v (entry_of q.1))
    → (a : Arena) → IsMore b' a → ArePairsShown labels a (ps ++ (t, v) ∷ []) (map pair_of (take (k + 1) qs))
pairs_more labels b c b' ps qs k t v q l is h e f m s a g =
    let x = q.0.items in
    let there = text_there b c a x t.0 e f (more_still c b' a m.more g) in
    one_more (ArePairsShown labels a (ps ++ (t, v) ∷ [])) pair_of qs k q l is
    (pair_push labels a ps (map pair_of (take k qs)) (t, v) (pair_of q) (h a (more_still b b' a (more_still b c b' (adds_text b c x e).more m.more) g))
    (record { name = there.1; there = there.0; value = s a g }))
