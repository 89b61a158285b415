-- What was copied and appended is a graft, and the builder has room for it.
use Rattle.std.proofs.Common.{◌≡◌, ◌+◌, ◌<◌, ◌⊎◌, Bool, true, false, List, ◌++◌, length, sym, ap, ◌∙◌, inl, inr, arith}
use Rattle.std.specs.Prelude.{◌↔◌, IsTrue}
use Rattle.std.specs.List.{AllByRecursion}
use Rattle.std.proofs.lemmas.List.{length-append, length-map}
use Rattle.amf_graph.specs.declared.value.Value.{Value as Stored}
use Rattle.amf_graph.specs.declared.limits.TheConstants.{MAX_COUNT, MAX_TRAITS}
use Rattle.amf_graph.specs.Arena.{Arena, IsBuilt, IsFinished, Names}
use Rattle.amf_graph.specs.Bounds.{IsWithinBounds}
use Rattle.amf_graph.specs.Copying.{Plan, cut_of, renaming_of, IsBehind, copies_of, joined}
use Rattle.amf_graph.specs.GraftKeeps.{GraftKeeps}
use Rattle.amf_graph.specs.Grafting.{Renaming, IsCut, Grafted, renaming_from, renaming, renamed_value, renamed_values, copied_texts, copied_traits, copied_nodes}
use Rattle.amf_graph.proofs.KeptBuilt.{graft_keeps}

module _ (a : Arena) (vs : List Stored) (old new more : Arena) (copies : List Stored) (c : Plan) (exact : IsCut a vs (cut_of c)) (behind : IsBehind c old) (m : more ≡ copies_of a c) (n : new ≡ joined old more) (e : copies ≡ renamed_values (renaming_of c) vs) where
  same_renaming : renaming_of c ≡ renaming old (cut_of c)
  same_renaming =
      ap (λ x. renaming_from x c.first_traits c.first_node (cut_of c)) behind.texts
      ∙ ap (λ x. renaming_from (length old.texts) x c.first_node (cut_of c)) behind.traits
      ∙ ap (λ x. renaming_from (length old.texts) (length old.traits) x (cut_of c)) behind.nodes

  with_renaming : Renaming → Arena
  with_renaming r = record { texts = old.texts ++ copied_texts a c.texts.items; traits = old.traits ++ copied_traits a r c.traits.items; nodes = old.nodes ++ copied_nodes a r c.nodes.items }

  pub grafted_made : Grafted a vs old new copies
  unfolding with_renaming
  grafted_made = record {
    cut = cut_of c;
    exact = exact;
    arena = n ∙ ap (joined old) m ∙ ap with_renaming same_renaming;
    values = e ∙ ap (λ r. renamed_values r vs) same_renaming;
  }

  pub copies_count : length copies ≡ length vs
  copies_count = ap length e ∙ length-map vs (renamed_value (renaming_of c))

  pub copies_names : IsFinished a → AllByRecursion (Names a) vs → IsBuilt old → AllByRecursion (Names new) copies
  copies_names b names built = (graft_keeps a vs old new copies b names built grafted_made).names

  module _ (b : IsFinished a) (bounds : IsWithinBounds a) (names : AllByRecursion (Names a) vs) (built : IsBuilt old) (within : IsWithinBounds old) (full : Bool) (test : IsTrue full ↔ ((MAX_COUNT < c.first_text + length c.texts.items) ⊎ (MAX_TRAITS < c.first_traits + length c.traits.items) ⊎ (MAX_COUNT < c.first_node + length c.nodes.items))) (no : full ≡ false) where
    keeps : GraftKeeps a vs old new copies
    keeps = graft_keeps a vs old new copies b names built grafted_made

    none : (MAX_COUNT < c.first_text + length c.texts.items) ⊎ (MAX_TRAITS < c.first_traits + length c.traits.items) ⊎ (MAX_COUNT < c.first_node + length c.nodes.items) → ⊥
    none h = let t : full ≡ true = test.1 h in let s : true ≡ false = sym t ∙ no in cc

    texts_count : length new.texts ≡ c.first_text + length c.texts.items
    texts_count = ap (λ (z : Arena). length z.texts) (n ∙ ap (joined old) m) ∙ length-append old.texts (copied_texts a c.texts.items) ∙ ap (λ k. k + length (copied_texts a c.texts.items)) (sym behind.texts) ∙ ap (λ k. c.first_text + k) (length-map c.texts.items _)

    traits_count : length new.traits ≡ c.first_traits + length c.traits.items
    traits_count = ap (λ (z : Arena). length z.traits) (n ∙ ap (joined old) m) ∙ length-append old.traits (copied_traits a (renaming_of c) c.traits.items) ∙ ap (λ k. k + length (copied_traits a (renaming_of c) c.traits.items)) (sym behind.traits) ∙ ap (λ k. c.first_traits + k) (length-map c.traits.items _)

    nodes_count : length new.nodes ≡ c.first_node + length c.nodes.items
    nodes_count = ap (λ (z : Arena). length z.nodes) (n ∙ ap (joined old) m) ∙ length-append old.nodes (copied_nodes a (renaming_of c) c.nodes.items) ∙ ap (λ k. k + length (copied_nodes a (renaming_of c) c.nodes.items)) (sym behind.nodes) ∙ ap (λ k. c.first_node + k) (length-map c.nodes.items _)

    pub keeps_built : IsBuilt new
    keeps_built = keeps.built

    pub keeps_within : IsWithinBounds new
    keeps_within =
        let t : (MAX_COUNT < c.first_text + length c.texts.items) → ⊥ = λ l. none (inl l) in
        let u : (MAX_TRAITS < c.first_traits + length c.traits.items) → ⊥ = λ l. none (inr (inl l)) in
        let v : (MAX_COUNT < c.first_node + length c.nodes.items) → ⊥ = λ l. none (inr (inr l)) in
        keeps.within bounds within (omega (arith, t, texts_count)) (omega (arith, u, traits_count)) (omega (arith, v, nodes_count))
