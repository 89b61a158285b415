-- A node is told once its names and values are there.
use Rattle.std.proofs.Common.{◌≡◌, ℕ, Bool, List, [], length, map, set, sym, ap, ◌∙◌}
use Rattle.std.proofs.Common.{Result, Ok, Err}
use Rattle.std.specs.Result.{OnOk}
use Rattle.std.proofs.lemmas.List.{append-nil}
use Rattle.amf_graph.specs.declared.value.Value.{Value as Stored}
use Rattle.amf_graph.specs.declared.value.TextId.{TextId}
use Rattle.amf_graph.specs.declared.shape.Shape.{Shape}
use Rattle.std.specs.declared.vec.Vec.{Vec}
use Rattle.std.specs.declared.alloc.Global.{Global}
use Rattle.amf_wire.specs.declared.pattern.Pattern.{Pattern}
use Rattle.amf_graph.specs.declared.leaf.Leaf.{Leaf}
use Rattle.amf_graph.specs.declared.leaf.Leaf.TheVariants as leaf
use Rattle.amf_graph.specs.Graph as graph
use Rattle.amf_graph.specs.Arena.{Arena, StoredNode, head_content, HeadNames}
use Rattle.amf_graph.specs.Building.{kept_text, leaf_head}
use Rattle.amf_sheet.specs.Telling.{told, told_leaf, with_node}
use Rattle.amf_text.specs.Linked.{Numbers}
use Rattle.amf_text_trees.specs.Sheets.{Entry, Pairs}
use Rattle.amf_text_graphs.specs.Showing.{IsMore, Adds, AreShown, ArePairsShown}
use Rattle.amf_text_graphs.specs.Telling.{PartsTold, LeafTold}
use Rattle.amf_text_graphs.proofs.Showing.{more_still, adds_same, adds_text, text_there}

pub more_node : (a b : Arena) (i : ℕ) (n : StoredNode) → b ≡ with_node i n a → IsMore a b
more_node a b i n e = record {
  texts = ([], ap (λ (y : Arena). y.texts) e ∙ sym (append-nil a.texts));
  traits = ([], ap (λ (y : Arena). y.traits) e ∙ sym (append-nil a.traits));
}

pub parts_told : (labels : Numbers) (a b c d : Arena) (i : ℕ) (s : Shape) (ps : List (TextId × Stored)) (vs : List Stored) (qs : Pairs) (es : List Entry) → Adds a b → Adds b c → d ≡ with_node i (told s ps vs) c
    → ((z : Arena) → IsMore b z → ArePairsShown labels z ps qs) → ((z : Arena) → IsMore c z → AreShown labels z vs es) → PartsTold labels a d i s qs es
parts_told labels a b c d i s ps vs qs es f g e p v =
    let last = more_node c d i (told s ps vs) e in
    record {
      more = more_still a c d (more_still a b c f.more g.more) last;
      names = ps;
      values = vs;
      nodes = ap (λ (y : Arena). y.nodes) e ∙ ap (λ w. set w i (told s ps vs)) (g.nodes ∙ f.nodes);
      names_shown = λ z m. p z (more_still b c z g.more (more_still c d z last m));
      values_shown = λ z m. v z (more_still c d z last m);
    }

pub on_ok : {X E : Type 0} (P Q : Type 0) (r : Result X E) → (P → Q) → OnOk r P → OnOk r Q
on_ok P Q (Ok x) f h = f h
on_ok P Q (Err e) f h = tt

pub leaf_told : (a b c : Arena) (i : ℕ) (l : Leaf) (h : graph.Head) → Adds a b → c ≡ with_node i (told_leaf l) b → ((z : Arena) → IsMore b z → (head_content z (leaf_head l) ≡ h) × HeadNames z (leaf_head l)) → LeafTold a c i h
leaf_told a b c i l h f e s =
    let last = more_node b c i (told_leaf l) e in
    record {
      more = more_still a b c f.more last;
      head = leaf_head l;
      nodes = ap (λ (y : Arena). y.nodes) e ∙ ap (λ w. set w i (told_leaf l)) f.nodes;
      shown = λ z m. s z (more_still b c z last m);
    }

pub xml_told : (a b c : Arena) (i : ℕ) (x : List ℕ) (t : TextId) → b ≡ kept_text a x → t.0 ≡ length a.texts → c ≡ with_node i (told_leaf (leaf.Xml t)) b → LeafTold a c i (graph.xml x)
xml_told a b c i x t e f g = leaf_told a b c i (leaf.Xml t) (graph.xml x) (adds_text a b x e) g (λ z m. (let there = text_there a b z x t.0 e f m in (ap graph.xml there.1, there.0)))

pub xml_document_told : (a b c : Arena) (i : ℕ) (x : List ℕ) (t : TextId) → b ≡ kept_text a x → t.0 ≡ length a.texts → c ≡ with_node i (told_leaf (leaf.XmlDocument t)) b → LeafTold a c i (graph.xml_document x)
xml_document_told a b c i x t e f g = leaf_told a b c i (leaf.XmlDocument t) (graph.xml_document x) (adds_text a b x e) g (λ z m. (let there = text_there a b z x t.0 e f m in (ap graph.xml_document there.1, there.0)))

pub doubles_told : (a c : Arena) (i : ℕ) (f : Bool) (ns : Vec Pattern Global) (xs : List ℕ) → map (λ p. p.0) ns.items ≡ xs → c ≡ with_node i (told_leaf (leaf.Doubles f ns)) a → LeafTold a c i (graph.doubles f xs)
doubles_told a c i f ns xs e g = leaf_told a a c i (leaf.Doubles f ns) (graph.doubles f xs) (adds_same a) g (λ z m. (ap (graph.doubles f) e, tt))
