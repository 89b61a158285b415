-- The steps of a search over a stack of values.
use Rattle.std.proofs.Common.{◌≡◌, ℕ, Bool, true, false, List, [], ◌∷◌, ◌++◌, reverse, sym, refl, ap, ◌∙◌, subst}
use Rattle.std.proofs.lemmas.List.{map-append, reverse-append, reverse-reverse}
use Rattle.amf_graph.specs.declared.value.Value.{Value as Stored}
use Rattle.amf_graph.specs.declared.value.NodeId.{NodeId}
use Rattle.amf_graph.specs.declared.value.Value.TheVariants.{Node as NodeRef}
use Rattle.amf_graph.specs.Arena.{Arena, value_content}
use Rattle.amf_graph.specs.Graph.{Value, node, Graph, node_at}
use Rattle.amf_graph.specs.Order.{IsDistinct, values_met}
use Rattle.amf_iso.specs.Contents.{values_of}
use Rattle.amf0_write.specs.declared.part_lack.Search.{Search}
use Rattle.amf0_write.specs.Searched.{Searched, left_of}
use Rattle.amf0_write.proofs.SearchSteps.{past_leaf}

-- the stack, the top first
abbrev pub stacked : Arena → List Stored → List Value
stacked a ws = values_of a (reverse ws)

popped : (a : Arena) (ws : List Stored) (v : Stored) → stacked a (ws ++ v ∷ []) ≡ value_content a v ∷ stacked a ws
popped a ws v = ap (values_of a) (reverse-append ws (v ∷ []))

pushed : (a : Arena) (ws vs : List Stored) → stacked a (ws ++ reverse vs) ≡ values_of a vs ++ stacked a ws
pushed a ws vs = ap (values_of a) (reverse-append ws (reverse vs) ∙ ap (λ w. w ++ reverse ws) (reverse-reverse vs)) ∙ map-append (value_content a) vs (reverse ws)

module _ (g : Graph) (outside : ℕ) (before : List ℕ) (from : List Value) (order : List ℕ) (once : IsDistinct order) (a : Arena) where
  abbrev Going : Search → List Value → Type 0
  Going = Searched g outside before from order

  pub leaf_off : (s : Search) (all ws : List Stored) (v : Stored) → all ≡ ws ++ v ∷ [] → ((n : NodeId) → v ≡ NodeRef n → ⊥) → Going s (stacked a all) → Going s (stacked a ws)
  leaf_off s all ws v e n h = go v n (subst (Going s) (ap (stacked a) e ∙ popped a ws v) h)
    where
      go : (u : Stored) → ((n : NodeId) → u ≡ NodeRef n → ⊥) → Going s (value_content a u ∷ stacked a ws) → Going s (stacked a ws)
      go (NodeRef i) n h = absurd (n i refl)
      go _ n h = past_leaf g outside before from order once s _ (stacked a ws) h

  pub node_off : (s : Search) (all ws : List Stored) (i : NodeId) → all ≡ ws ++ NodeRef i ∷ [] → Going s (stacked a all) → Going s (node i.0 ∷ stacked a ws)
  node_off s all ws i e h = subst (Going s) (ap (stacked a) e ∙ popped a ws (NodeRef i)) h

  pub met_before : (s : Search) (b : Bool) (ws : List Stored) (i : ℕ) → b ≡ false → Going s (left_of g b i (stacked a ws)) → Going s (stacked a ws)
  met_before s b ws i e h = subst (λ c. Going s (left_of g c i (stacked a ws))) e h

  pub values_on : (s : Search) (b : Bool) (ws vs now : List Stored) (i : ℕ) → b ≡ true → now ≡ ws ++ reverse vs → values_of a vs ≡ values_met (node_at g i) → Going s (left_of g b i (stacked a ws)) → Going s (stacked a now)
  values_on s b ws vs now i e f same h =
      let k : Going s (values_met (node_at g i) ++ stacked a ws) = subst (λ c. Going s (left_of g c i (stacked a ws))) e h in
      subst (Going s) (sym (ap (stacked a) f ∙ pushed a ws vs ∙ ap (λ w. w ++ stacked a ws) same)) k
