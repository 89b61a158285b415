-- Heads of nodes, by content.
use Rattle.std.proofs.Common.{◌≡◌, ℕ, ◌<◌, Bool, true, false, List, [], ◌∷◌, length, map, get_or, sym, refl, ap, ◌∙◌, subst}
use Rattle.std.specs.List.{AllByRecursion}
use Rattle.std.specs.Prelude.{ℤ, nat_eq}
use Rattle.std.specs.Bool.{Decides}
use Rattle.std.proofs.Math.Bool.{beq}
use Rattle.std.specs.Cmp.Lexicographic.{told_text, pointwise}
use Rattle.std.specs.Cmp.Derive.Mapped.{pointwise-map}
use Rattle.std.specs.Cmp.Rules.{signed_items}
use Rattle.std.proofs.Common.{int_eq}
use Rattle.amf_wire.specs.declared.pattern.Pattern.{Pattern}
use Rattle.amf_graph.specs.declared.value.Value.{Value as Stored}
use Rattle.amf_graph.specs.declared.value.TextId.{TextId}
use Rattle.amf_graph.specs.declared.views.TraitsView.{TraitsView}
use Rattle.amf_graph.specs.Arena.{Arena, StoredNode, graph_of, head_content, IsTextId, IsTraitsIn, IsFinished, traits_at, text_at, traits_content, no_traits}
use Rattle.amf_graph.specs.Building.{stored_at}
use Rattle.amf_graph.specs.Graph.{Head, Node, node_at}
use Rattle.amf_graph.specs.Views.{ShowsTraits}
use Rattle.amf_tables.specs.ShownTraits.{AreTextIds, texts_at}
use Rattle.amf_iso.proofs.MetValues.{each_there, shown}
use Rattle.amf_iso.proofs.Remaining.{Remains, remains_same}

ids_are : (a : Arena) (xs : List TextId) → AreTextIds a xs → AllByRecursion (λ x. IsTextId a x.0) xs
ids_are a [] h = tt
ids_are a (x ∷ xs) h = (h.0, ids_are a xs h.1)

texts_are : (a : Arena) (xs : List TextId) → texts_at a xs ≡ map (λ x. text_at a x.0) xs
texts_are a [] = refl
texts_are a (x ∷ xs) = ap (λ w. text_at a x.0 ∷ w) (texts_are a xs)

-- texts of two graphs, gone through together
pub texts_remain : (a b : Arena) (xs ys : List TextId) → length xs ≡ length ys → AreTextIds a xs → AreTextIds b ys → Remains (λ x. IsTextId a x.0) (λ y. IsTextId b y.0) (λ x y. text_at a x.0 ≡ text_at b y.0) (texts_at a xs ≡ texts_at b ys) xs ys
texts_remain a b xs ys l p q =
    let r = remains_same (λ x. IsTextId a x.0) (λ y. IsTextId b y.0) (λ x. text_at a x.0) (λ y. text_at b y.0) xs ys l (ids_are a xs p) (ids_are b ys q) in
    record { long = r.long; left = r.left; right = r.right; onward = λ e. r.onward (sym (texts_are a xs) ∙ e ∙ texts_are b ys); back = λ z. texts_are a xs ∙ r.back z ∙ sym (texts_are b ys) }

-- the sealed names of traits are texts of the graph
pub sealed_in : (a : Arena) (t : ℕ) (v : TraitsView) → IsFinished a → t < length a.traits → ShowsTraits (get_or a.traits t no_traits) v → AreTextIds a v.sealed.now
sealed_in a t v f l s = (subst (λ w. IsTraitsIn a w) s (each_there (IsTraitsIn a) a.traits t no_traits f.built.traits l)).sealed

-- the traits that a view shows, by content
pub traits_shown : (a : Arena) (t : ℕ) (v : TraitsView) → ShowsTraits (get_or a.traits t no_traits) v → traits_at a t ≡ record { class = text_at a v.class.0; dynamic = v.dynamic; sealed = texts_at a v.sealed.now }
traits_shown a t v s = ap (traits_content a) s

pub head_shown : (a : Arena) (root : Stored) (i : ℕ) (n : StoredNode) → stored_at a i ≡ n → (node_at (graph_of a root) i).head ≡ head_content a n.head
head_shown a root i n e = ap (λ (m : Node). m.head) (shown a root i n e)

-- heads of one kind are the same where what they hold is
pub same_head : {A : Type 0} (mk : A → Head) → ((x y : A) → mk x ≡ mk y → x ≡ y) → (r : Bool) (p q : A) (h k : Head) → h ≡ mk p → k ≡ mk q → Decides r (p ≡ q) → Decides r (h ≡ k)
same_head mk inj r p q h k e f d = (λ t. e ∙ ap mk (d.0 t) ∙ sym f, λ s. d.1 (inj p q (sym e ∙ s ∙ f)))

pub same_bool : (x y : Bool) → beq x y ≡ true → x ≡ y
same_bool true true e = refl
same_bool true false e = cc
same_bool false true e = cc
same_bool false false e = refl

pub text_decides : (r : Bool) (xs ys : List ℕ) → r ≡ pointwise nat_eq xs ys → Decides r (xs ≡ ys)
text_decides true xs ys e = (λ t. told_text xs ys true e, λ s. refl)
text_decides false xs ys e = (λ t. cc, λ s. absurd (told_text xs ys false e s))

pub ints_decide : (r : Bool) (xs ys : List ℤ) → r ≡ pointwise int_eq xs ys → Decides r (xs ≡ ys)
ints_decide r xs ys e = let d = signed_items xs ys in (λ t. d.0 (sym e ∙ t), λ s. e ∙ d.1 s)

pub patterns_decide : (r : Bool) (xs ys : List Pattern) → r ≡ pointwise (λ p q. nat_eq p.0 q.0) xs ys → Decides r (map (λ p. p.0) xs ≡ map (λ p. p.0) ys)
patterns_decide r xs ys e = text_decides r (map (λ p. p.0) xs) (map (λ p. p.0) ys) (e ∙ sym (pointwise-map (λ (p : Pattern). p.0) nat_eq xs ys))
