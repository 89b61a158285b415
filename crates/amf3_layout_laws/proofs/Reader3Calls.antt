-- The tables and the growth of an arena where a call's clauses tell by equations what it left.
use Rattle.std.proofs.Common.{◌≡◌, ℕ, false, List, [], ◌∷◌, ◌++◌, length, set, sym, ap, ◌∙◌, subst}
use Rattle.amf_graph.specs.declared.wrapped.Wrapped.{Wrapped}
use Rattle.amf_graph.specs.Arena.{StoredTraits, StoredNode, Arena, IsBuilt}
use Rattle.amf_graph.specs.Building.{stored_at, kept_text, kept_traits, shut}
use Rattle.amf3_spelling.specs.KeptTables.{plain, external, KeptTables, AreTablesIn}
use Rattle.amf3_spelling.specs.Reads3.{Grows}
use Rattle.amf3_layout_laws.proofs.Reader3Tables.{tables_with_text, tables_with_plain, tables_with_external, tables_with_node, grows_itself, grows_changed, grows_shut}

pub tables_are : (a z : Arena) (t u : KeptTables) → AreTablesIn a t → z ≡ a → u ≡ t → AreTablesIn z u
tables_are a z t u v e f = subst (λ y. AreTablesIn y u) (sym e) (subst (λ k. AreTablesIn a k) (sym f) v)

pub grows_are : (a b y z : Arena) → Grows a b → y ≡ a → z ≡ b → Grows y z
grows_are a b y z g e f = subst (λ x. Grows x z) (sym e) (subst (λ x. Grows a x) (sym f) g)

-- a text, and its place
pub text_entered : (a z : Arena) (t u : KeptTables) (x : List ℕ) (i : ℕ) → IsBuilt a → AreTablesIn a t → z ≡ kept_text a x → i ≡ length a.texts → u ≡ record { texts = t.texts ++ i ∷ []; traits = t.traits; nodes = t.nodes } → AreTablesIn z u
text_entered a z t u x i b v e h f =
    tables_are (kept_text a x) z (record { texts = t.texts ++ length a.texts ∷ []; traits = t.traits; nodes = t.nodes }) u (tables_with_text a t x b v) e (f ∙ ap (λ j. let k : KeptTables = record { texts = t.texts ++ j ∷ []; traits = t.traits; nodes = t.nodes } in k) h)

-- traits, and their entry
pub plain_entered : (a z : Arena) (t u : KeptTables) (st : StoredTraits) (i : ℕ) → IsBuilt a → AreTablesIn a t → z ≡ kept_traits a st → i ≡ length a.traits → u ≡ record { texts = t.texts; traits = t.traits ++ plain i ∷ []; nodes = t.nodes } → AreTablesIn z u
plain_entered a z t u st i b v e h f =
    tables_are (kept_traits a st) z (record { texts = t.texts; traits = t.traits ++ plain (length a.traits) ∷ []; nodes = t.nodes }) u (tables_with_plain a t st b v) e (f ∙ ap (λ j. let k : KeptTables = record { texts = t.texts; traits = t.traits ++ plain j ∷ []; nodes = t.nodes } in k) h)

pub external_entered : (a z : Arena) (t u : KeptTables) (i j : ℕ) (c : Wrapped) → IsBuilt a → AreTablesIn a t → z ≡ kept_traits a (record { class = i; dynamic = false; sealed = [] }) → j ≡ length a.traits
    → u ≡ record { texts = t.texts; traits = t.traits ++ external j c ∷ []; nodes = t.nodes } → AreTablesIn z u
external_entered a z t u i j c b v e h f =
    tables_are (kept_traits a (record { class = i; dynamic = false; sealed = [] })) z (record { texts = t.texts; traits = t.traits ++ external (length a.traits) c ∷ []; nodes = t.nodes }) u (tables_with_external a t i c b v) e
    (f ∙ ap (λ k. let l : KeptTables = record { texts = t.texts; traits = t.traits ++ external k c ∷ []; nodes = t.nodes } in l) h)

-- a node, and its place
pub node_entered : (a z : Arena) (t u : KeptTables) (n : StoredNode) (i : ℕ) → IsBuilt a → AreTablesIn a t → z ≡ record { texts = a.texts; traits = a.traits; nodes = a.nodes ++ n ∷ [] } → i ≡ length a.nodes → u ≡ record { texts = t.texts; traits = t.traits; nodes = t.nodes ++ i ∷ [] } → AreTablesIn z u
node_entered a z t u n i b v e h f =
    tables_are (record { texts = a.texts; traits = a.traits; nodes = a.nodes ++ n ∷ [] }) z (record { texts = t.texts; traits = t.traits; nodes = t.nodes ++ length a.nodes ∷ [] }) u (tables_with_node a t n b v) e
    (f ∙ ap (λ j. let k : KeptTables = record { texts = t.texts; traits = t.traits; nodes = t.nodes ++ j ∷ [] } in k) h)

-- a node is opened at the end, changed in its place, and at last shut
pub node_opened : (a z : Arena) (q : StoredNode) → z ≡ record { texts = a.texts; traits = a.traits; nodes = a.nodes ++ q ∷ [] } → Grows (record { texts = a.texts; traits = a.traits; nodes = a.nodes ++ q ∷ [] }) z
node_opened a z q e = subst (Grows (record { texts = a.texts; traits = a.traits; nodes = a.nodes ++ q ∷ [] })) (sym e) (grows_itself (record { texts = a.texts; traits = a.traits; nodes = a.nodes ++ q ∷ [] }))

pub part_put : (a b z : Arena) (q : StoredNode) (i : ℕ) (f : StoredNode → StoredNode) → Grows (record { texts = a.texts; traits = a.traits; nodes = a.nodes ++ q ∷ [] }) b → i ≡ length a.nodes → z ≡ record { texts = b.texts; traits = b.traits; nodes = set b.nodes i (f (stored_at b i)) }
    → Grows (record { texts = a.texts; traits = a.traits; nodes = a.nodes ++ f q ∷ [] }) z
part_put a b z q i f g h e = subst (λ y. Grows (record { texts = a.texts; traits = a.traits; nodes = a.nodes ++ f q ∷ [] }) y) (sym (e ∙ ap (λ j. let c : Arena = record { texts = b.texts; traits = b.traits; nodes = set b.nodes j (f (stored_at b j)) } in c) h)) (grows_changed a q b g f)

pub node_closed : (a b z : Arena) (q : StoredNode) (i : ℕ) → Grows (record { texts = a.texts; traits = a.traits; nodes = a.nodes ++ q ∷ [] }) b → i ≡ length a.nodes → z ≡ record { texts = b.texts; traits = b.traits; nodes = set b.nodes i (shut (stored_at b i)) } → Grows a z
node_closed a b z q i g h e = subst (Grows a) (sym (e ∙ ap (λ j. let c : Arena = record { texts = b.texts; traits = b.traits; nodes = set b.nodes j (shut (stored_at b j)) } in c) h)) (grows_shut a q b g)
