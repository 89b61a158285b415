-- What an arena shows of a page, whatever texts and traits come to it later. A device of proofs.
use Rattle.std.specs.Prelude.{◌≡◌, ◌<◌, ℕ, Bool, length, List, [], ◌∷◌, ◌++◌}
use Rattle.amf_graph.specs.declared.value.Value.{Value as Stored}
use Rattle.amf_graph.specs.declared.value.Value.TheVariants.{Text}
use Rattle.amf_graph.specs.declared.value.TextId.{TextId}
use Rattle.amf_graph.specs.Arena.{Arena, StoredTraits, IsTextId, text_at, traits_at, value_content}
use Rattle.amf_text.specs.Linked.{Numbers}
use Rattle.amf_text_trees.specs.Sheets.{Entry, Pairs}
use Rattle.amf_text_trees.specs.Pages.{value_at}

-- texts and traits stay at their places
pub record IsMore (a b : Arena) : Type 0 where
  pub texts : (more : List (List ℕ)) × (b.texts ≡ a.texts ++ more)
  pub traits : (more : List StoredTraits) × (b.traits ≡ a.traits ++ more)

-- and so do the nodes
pub record Adds (a b : Arena) : Type 0 where
  pub more : IsMore a b
  pub nodes : b.nodes ≡ a.nodes

abbrev pub HasText : Arena → Stored → Type 0
HasText a (Text t) = IsTextId a t.0
HasText a _ = Unit {0}

pub record Shows (labels : Numbers) (a : Arena) (v : Stored) (e : Entry) : Type 0 where
  pub content : value_content a v ≡ value_at labels e
  pub there : HasText a v

abbrev pub AreShown : Numbers → Arena → List Stored → List Entry → Type 0
AreShown labels a [] [] = Unit {0}
AreShown labels a (v ∷ vs) (e ∷ es) = Shows labels a v e × AreShown labels a vs es
AreShown labels a _ _ = ⊥

pub record ShowsPair (labels : Numbers) (a : Arena) (p : TextId × Stored) (q : List ℕ × Entry) : Type 0 where
  pub name : text_at a p.0.0 ≡ q.0
  pub there : IsTextId a p.0.0
  pub value : Shows labels a p.1 q.1

abbrev pub ArePairsShown : Numbers → Arena → List (TextId × Stored) → Pairs → Type 0
ArePairsShown labels a [] [] = Unit {0}
ArePairsShown labels a (p ∷ ps) (q ∷ qs) = ShowsPair labels a p q × ArePairsShown labels a ps qs
ArePairsShown labels a _ _ = ⊥

abbrev pub AreTextsShown : Arena → List TextId → List (List ℕ) → Type 0
AreTextsShown a [] [] = Unit {0}
AreTextsShown a (t ∷ ts) (x ∷ xs) = (IsTextId a t.0 × (text_at a t.0 ≡ x)) × AreTextsShown a ts xs
AreTextsShown a _ _ = ⊥

-- these traits are there
abbrev pub ShowsClass : Arena → ℕ → List ℕ → Bool → List TextId → Type 0
ShowsClass a t class dynamic sealed =
    (xs : List (List ℕ)) → AreTextsShown a sealed xs → (t < length a.traits) × (traits_at a t ≡ record { class = class; dynamic = dynamic; sealed = xs })
