-- A node is that of the page, by its head and its parts.
use Rattle.std.proofs.Common.{◌≡◌, ℕ, Bool, List, [], ◌∷◌, length, map, set, sym, refl, ap, ◌∙◌, subst}
use Rattle.std.proofs.Common.{Result}
use Rattle.std.specs.Result.{OnOk}
use Rattle.std.specs.List.{AllByRecursion}
use Rattle.std.specs.declared.vec.Vec.{Vec}
use Rattle.std.specs.declared.alloc.Global.{Global}
use Rattle.amf_graph.specs.declared.value.Value.{Value as Stored}
use Rattle.amf_graph.specs.declared.value.TextId.{TextId}
use Rattle.amf_graph.specs.declared.value.TraitsId.{TraitsId}
use Rattle.amf_graph.specs.declared.shape.Shape.{Shape}
use Rattle.amf_graph.specs.declared.shape.Shape.TheVariants.{Object}
use Rattle.amf_graph.specs.Graph as graph
use Rattle.amf_graph.specs.Graph.{Head, Node, object}
use Rattle.amf_graph.specs.Arena.{Arena, values, IsTextId, text_at, value_content, head_content, HeadNames}
use Rattle.amf_graph.specs.Building.{closed, kept_text, shape_head}
use Rattle.amf_graph.specs.Views.{named}
use Rattle.amf_sheet.specs.Telling.{told, with_node}
use Rattle.amf_text.specs.Linked.{Numbers}
use Rattle.amf_text.specs.WholeLaws.{IsSoundNode}
use Rattle.amf_text_trees.specs.Sheets.{Entry, Pairs, Kept, entry_among, entries_by}
use Rattle.amf_text_trees.specs.Frames.{Class, kept, simple, object_kept, traits_of, firsts, seconds}
use Rattle.amf_text_trees.specs.Pages.{value_at, name_at, node_of}
use Rattle.amf_text_pages.specs.declared.entry.Entry.{Entry as Code}
use Rattle.amf_text_pages.specs.Entries.{entry_of, pair_of}
use Rattle.amf_text_graphs.specs.Lookups.{members_of}
use Rattle.amf_text_graphs.specs.Showing.{IsMore, Adds, HasText, AreShown, ArePairsShown, AreTextsShown, ShowsClass}
use Rattle.amf_text_graphs.specs.Telling.{PartsTold, LeafTold, ShowsNode, NodeTold}
use Rattle.amf_text_graphs.specs.Objects.{ShowsHead, AreSound, ShapeTold, ObjectTold}
use Rattle.amf_text_graphs.proofs.Naming.{all_there}
use Rattle.amf_text_graphs.proofs.Showing.{more_still, text_there}
use Rattle.amf_text_graphs.proofs.Tellings.{more_node, on_ok}

values_same : (labels : Numbers) (a : Arena) (vs : List Stored) (es : List Entry) → AreShown labels a vs es → map (value_content a) vs ≡ map (value_at labels) es
values_same labels a [] [] h = refl
values_same labels a [] (e ∷ es) h = absurd h
values_same labels a (v ∷ vs) [] h = absurd h
values_same labels a (v ∷ vs) (e ∷ es) h = ap (λ w. w ∷ map (value_content a) vs) h.0.content ∙ ap (λ w. value_at labels e ∷ w) (values_same labels a vs es h.1)

values_there : (labels : Numbers) (a : Arena) (vs : List Stored) (es : List Entry) → AreShown labels a vs es → AllByRecursion (HasText a) vs
values_there labels a [] es h = tt
values_there labels a (v ∷ vs) [] h = absurd h
values_there labels a (v ∷ vs) (e ∷ es) h = (h.0.there, values_there labels a vs es h.1)

names_same : (labels : Numbers) (a : Arena) (ps : List (TextId × Stored)) (qs : Pairs) → ArePairsShown labels a ps qs → map (λ p. (text_at a p.0, value_content a p.1)) (named ps) ≡ map (name_at labels) qs
names_same labels a [] [] h = refl
names_same labels a [] (q ∷ qs) h = absurd h
names_same labels a (p ∷ ps) [] h = absurd h
names_same labels a (p ∷ ps) (q ∷ qs) h =
    let rest = map (λ r. (text_at a r.0, value_content a r.1)) (named ps) in
    ap (λ w. (w, value_content a p.1) ∷ rest) h.0.name ∙ ap (λ w. (q.0, w) ∷ rest) h.0.value.content ∙ ap (λ w. name_at labels q ∷ w) (names_same labels a ps qs h.1)

names_there : (labels : Numbers) (a : Arena) (ps : List (TextId × Stored)) (qs : Pairs) → ArePairsShown labels a ps qs → AllByRecursion (λ p. IsTextId a p.0 × HasText a p.1) (named ps)
names_there labels a [] qs h = tt
names_there labels a (p ∷ ps) [] h = absurd h
names_there labels a (p ∷ ps) (q ∷ qs) h = ((h.0.there, h.0.value.there), names_there labels a ps qs h.1)

node_shown : (labels : Numbers) (a : Arena) (s : Shape) (h : Head) (ps : List (TextId × Stored)) (vs : List Stored) (qs : Pairs) (es : List Entry) → (head_content a (shape_head s) ≡ h) × HeadNames a (shape_head s)
    → ArePairsShown labels a ps qs → AreShown labels a vs es → ShowsNode labels a (told s ps vs) (kept h qs es)
node_shown labels a s h ps vs qs es f p v =
    let stored = map (λ r. (text_at a r.0, value_content a r.1)) (named ps) in
    let node : Head → List (List ℕ × graph.Value) → List graph.Value → Node = λ x ns ws. record { head = x; names = ns; values = ws } in
    record {
      content = ap (λ w. node w stored (map (value_content a) vs)) f.0 ∙ ap (λ w. node h w (map (value_content a) vs)) (names_same labels a ps qs p) ∙ ap (node h (map (name_at labels) qs)) (values_same labels a vs es v);
      complete = refl;
      head = f.1;
      names = names_there labels a ps qs p;
      values = values_there labels a vs es v;
    }

pub parts_node : (labels : Numbers) (a b : Arena) (i : ℕ) (s : Shape) (h : Head) (qs : Pairs) (es : List Entry) → PartsTold labels a b i s qs es → ShowsHead a (shape_head s) h → NodeTold labels a b i (kept h qs es)
parts_node labels a b i s h qs es p f = record {
  more = p.more;
  node = told s p.names p.values;
  nodes = p.nodes;
  shown = λ z m. node_shown labels z s h p.names p.values qs es (f z (more_still a b z p.more m)) (p.names_shown z m) (p.values_shown z m);
}

abbrev Pair : Type 0
Pair = Vec ℕ Global × Code

pub shape_told : (labels : Numbers) (a b : Arena) (i : ℕ) (s : Shape) (ps qs : List Pair) (es fs : List Code) → ps ≡ qs → es ≡ fs → PartsTold labels a b i s (map pair_of ps) (map entry_of es)
    → ShapeTold labels a b i s (map pair_of qs) (map entry_of fs)
shape_told labels a b i s ps qs es fs e f p = λ h head.
    parts_node labels a b i s h (map pair_of qs) (map entry_of fs)
    (subst (λ w. PartsTold labels a b i s (map pair_of qs) (map entry_of w)) f (subst (λ w. PartsTold labels a b i s (map pair_of w) (map entry_of es)) e p)) head

pub leaf_node : (labels : Numbers) (a b : Arena) (i : ℕ) (h : Head) → LeafTold a b i h → NodeTold labels a b i (simple h)
leaf_node labels a b i h l = record {
  more = l.more;
  node = closed l.head [] [];
  nodes = l.nodes;
  shown = λ z m. (let s = l.shown z m in record {
    content = ap (λ w. record { head = w; names = []; values = [] }) s.0;
    complete = refl;
    head = s.1;
    names = tt;
    values = tt;
  });
}

-- behind what has been added
pub node_later : (labels : Numbers) (a b c : Arena) (i : ℕ) (k : Kept) → Adds a b → NodeTold labels b c i k → NodeTold labels a c i k
node_later labels a b c i k f n = record {
  more = more_still a b c f.more n.more;
  node = n.node;
  nodes = n.nodes ∙ ap (λ w. set w i n.node) f.nodes;
  shown = n.shown;
}

pub object_told : (labels : Numbers) (a b c d : Arena) (i : ℕ) (class : Class) (sealed : List TextId) (t : TraitsId) (ps : List (TextId × Stored)) (vs : List Stored) → Adds a b
    → ((z : Arena) → IsMore b z → ShowsClass z t.0 class.name class.dynamic sealed) → Adds b c → ((z : Arena) → IsMore c z → ArePairsShown labels z ps class.members) → d ≡ with_node i (told (Object t) ps vs) c
    → ObjectTold labels a d i class sealed vs
object_told labels a b c d i class sealed t ps vs f shows g pairs e = λ names es n v. (
    let last = more_node c d i (told (Object t) ps vs) e in
    record {
      more = more_still a c d (more_still a b c f.more g.more) last;
      node = told (Object t) ps vs;
      nodes = ap (λ (y : Arena). y.nodes) e ∙ ap (λ w. set w i (told (Object t) ps vs)) (g.nodes ∙ f.nodes);
      shown = λ z m. (
          let behind = more_still c d z last m in
          let from = more_still b c z g.more behind in
          let all = more_still a b z f.more from in
          let there = shows z from names (n z all) in
          node_shown labels z (Object t) (object (traits_of class names)) ps vs class.members es (ap object there.1, there.0) (pairs z behind) (v z all));
    })

-- a node without names

pub shape_sound : (labels : Numbers) (n : ℕ) (h : Head) (ps : List Pair) (es fs : List Code) → ps ≡ [] → es ≡ fs → IsSoundNode n (node_of labels (kept h [] (map entry_of fs))) → AreSound labels n (map pair_of ps) (map entry_of es)
shape_sound labels n h ps es fs e f s =
    (h, subst (λ w. IsSoundNode n (node_of labels (kept h (map pair_of w) (map entry_of es)))) (sym e) (subst (λ w. IsSoundNode n (node_of labels (kept h [] (map entry_of w)))) (sym f) s))

pub shape_node : (labels : Numbers) (a b : Arena) (i : ℕ) (s : Shape) (h : Head) (ps : List Pair) (es fs : List Code) → ps ≡ [] → es ≡ fs → ShowsHead a (shape_head s) h → ShapeTold labels a b i s (map pair_of ps) (map entry_of es)
    → NodeTold labels a b i (kept h [] (map entry_of fs))
shape_node labels a b i s h ps es fs e f head t =
    subst (λ w. NodeTold labels a b i (kept h [] (map entry_of w))) f (subst (λ w. NodeTold labels a b i (kept h (map pair_of w) (map entry_of es))) e (t h head))

pub values_head : (a b : Arena) (f : Bool) (x y : List ℕ) (t : TextId) → b ≡ kept_text a x → t.0 ≡ length a.texts → x ≡ y → ShowsHead b (values f t.0) (graph.values f y)
values_head a b f x y t e g same = λ z m. (let there = text_there a b z x t.0 e g m in (ap (graph.values f) (there.1 ∙ same), there.0))

pub sound_later : (labels : Numbers) (a b : Arena) (k : Kept) → Adds a b → IsSoundNode (length a.nodes) (node_of labels k) → IsSoundNode (length b.nodes) (node_of labels k)
sound_later labels a b k f s = subst (λ w. IsSoundNode (length w) (node_of labels k)) (sym f.nodes) s

-- an object whose sealed members stand with their names

first_texts : (labels : Numbers) (a : Arena) (ps : List (TextId × Stored)) (qs : Pairs) → ArePairsShown labels a ps qs → AreTextsShown a (map (λ p. p.0) ps) (map (λ q. q.0) qs)
first_texts labels a [] [] h = tt
first_texts labels a [] (q ∷ qs) h = absurd h
first_texts labels a (p ∷ ps) [] h = absurd h
first_texts labels a (p ∷ ps) (q ∷ qs) h = ((h.0.there, h.0.name), first_texts labels a ps qs h.1)

second_values : (labels : Numbers) (a : Arena) (ps : List (TextId × Stored)) (qs : Pairs) → ArePairsShown labels a ps qs → AreShown labels a (map (λ p. p.1) ps) (map (λ q. q.1) qs)
second_values labels a [] [] h = tt
second_values labels a [] (q ∷ qs) h = absurd h
second_values labels a (p ∷ ps) [] h = absurd h
second_values labels a (p ∷ ps) (q ∷ qs) h = (h.0.value, second_values labels a ps qs h.1)

pub sealed_there : (labels : Numbers) (a : Arena) (ts : List TextId) (ps : List (TextId × Stored)) (qs : Pairs) → ts ≡ map (λ p. p.0) ps → ArePairsShown labels a ps qs → AllByRecursion (IsTextId a) (map (λ t. t.0) ts)
sealed_there labels a ts ps qs e h = subst (λ w. AllByRecursion (IsTextId a) (map (λ t. t.0) w)) (sym e) (all_there a (map (λ p. p.0) ps) (map (λ q. q.0) qs) (first_texts labels a ps qs h))

pub sealed_told : (labels : Numbers) (a b c : Arena) (i : ℕ) (class : Class) (ts : List TextId) (vs : List Stored) (ps : List (TextId × Stored)) (rs qs : Pairs) → Adds a b → rs ≡ qs → ts ≡ map (λ p. p.0) ps → vs ≡ map (λ p. p.1) ps
    → ((z : Arena) → IsMore b z → ArePairsShown labels z ps rs) → ObjectTold labels b c i class ts vs → NodeTold labels a c i (object_kept class qs)
sealed_told labels a b c i class ts vs ps rs qs f same e g shows t =
    let shown : (z : Arena) → IsMore b z → ArePairsShown labels z ps qs = λ z m. subst (ArePairsShown labels z ps) same (shows z m) in
    node_later labels a b c i (object_kept class qs) f
    (t (firsts qs) (seconds qs) (λ z m. subst (λ w. AreTextsShown z w (firsts qs)) (sym e) (first_texts labels z ps qs (shown z m))) (λ z m. subst (λ w. AreShown labels z w (seconds qs)) (sym g) (second_values labels z ps qs (shown z m))))

-- and one whose sealed members stand in any order

members_same : (xs : List (Vec ℕ Global)) (qs : Pairs) → map (λ x. entry_among x.items qs) xs ≡ entries_by (map (λ x. x.items) xs) qs
members_same [] qs = refl
members_same (x ∷ xs) qs = ap (λ w. entry_among x.items qs ∷ w) (members_same xs qs)

pub order_there : (a : Arena) (ts us : List TextId) (xs : List (List ℕ)) → ts ≡ us → AreTextsShown a us xs → AllByRecursion (IsTextId a) (map (λ t. t.0) ts)
order_there a ts us xs e h = subst (λ w. AllByRecursion (IsTextId a) (map (λ t. t.0) w)) (sym e) (all_there a us xs h)

pub texts_shown : (a : Arena) (ts us : List TextId) (xs ys : List (Vec ℕ Global)) → ts ≡ us → xs ≡ ys → AreTextsShown a us (map (λ x. x.items) xs) → AreTextsShown a ts (map (λ x. x.items) ys)
texts_shown a ts us xs ys e f h = subst (λ w. AreTextsShown a w (map (λ x. x.items) ys)) (sym e) (subst (λ w. AreTextsShown a us (map (λ x. x.items) w)) f h)

pub members_shown : (labels : Numbers) (a : Arena) (vs ws : List Stored) (xs ys : List (Vec ℕ Global)) (ps qs : List Pair) → vs ≡ ws → xs ≡ ys → ps ≡ qs → AreShown labels a ws (members_of xs ps)
    → AreShown labels a vs (entries_by (map (λ x. x.items) ys) (map pair_of qs))
members_shown labels a vs ws xs ys ps qs e f g h =
    subst (AreShown labels a vs) (members_same ys (map pair_of qs))
    (subst (λ w. AreShown labels a w (members_of ys qs)) (sym e) (subst (λ w. AreShown labels a ws (members_of ys w)) g (subst (λ w. AreShown labels a ws (members_of w ps)) f h)))

-- a node without parts

pub leaf_ok : {X E : Type 0} (labels : Numbers) (a b : Arena) (i : ℕ) (k : Kept) (f : List ℕ → Head) (x y : List ℕ) (r : Result X E) → k ≡ simple (f y) → x ≡ y → OnOk r (LeafTold a b i (f x)) → OnOk r (NodeTold labels a b i k)
leaf_ok labels a b i k f x y r same e = on_ok _ _ r (λ l. subst (NodeTold labels a b i) (sym same) (leaf_node labels a b i (f y) (subst (λ w. LeafTold a b i (f w)) e l)))
