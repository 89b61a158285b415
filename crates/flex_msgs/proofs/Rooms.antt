-- How much is added, and for how much there is room.
use Rattle.std.proofs.Common.{◌≡◌, ℕ, ◌+◌, ◌≤◌, ◌<◌, ◌⊎◌, false, true, List, [], ◌∷◌, ◌++◌, length, refl, sym, ap, ◌∙◌, inl, inr, arith}
use Rattle.std.specs.Prelude.{◌==◌, ◌↔◌, Result, Ok, Err, IsErrOf, IfOk, OnOk}
use Rattle.std.proofs.lemmas.List.{length-append, length-map}
use Rattle.amf_graph.specs.declared.value.Value.{Value as Stored}
use Rattle.amf_graph.specs.Grafting.{Grafted, IsTooMuch, renaming, copied_texts, copied_traits, copied_nodes}
use Rattle.amf_graph.specs.declared.build_end.BuildEnd.{BuildEnd}
use Rattle.amf_graph.specs.declared.build_end.BuildEnd.TheVariants.{Full}
use Rattle.amf_graph.specs.declared.limits.TheConstants.{MAX_COUNT, MAX_TRAITS, MAX_SEALED}
use Rattle.amf_graph.specs.Arena.{Arena, StoredTraits, StoredNode}
use Rattle.amf_graph.specs.Building.{kept_text, kept_traits, kept_node}
use Rattle.amf_graph.proofs.Lists.{length_pushed}
use Rattle.flex_msgs.specs.Built.{GrewBy, HasRoomFor, LacksRoomFor, client_texts}

pub grew_none : (a : Arena) → GrewBy a a 0 0 0
grew_none a = record { texts = omega arith; traits = omega arith; nodes = omega arith }

pub grew_text : (a b : Arena) (x : List ℕ) → b ≡ kept_text a x → GrewBy a b 1 0 0
grew_text a b x e = record {
  texts = omega (arith, ap (λ (z : Arena). length z.texts) e, length_pushed a.texts x);
  traits = omega (arith, ap (λ (z : Arena). length z.traits) e);
  nodes = omega (arith, ap (λ (z : Arena). length z.nodes) e);
}

pub grew_traits : (a b : Arena) (t : StoredTraits) → b ≡ kept_traits a t → GrewBy a b 0 1 0
grew_traits a b t e = record {
  texts = omega (arith, ap (λ (z : Arena). length z.texts) e);
  traits = omega (arith, ap (λ (z : Arena). length z.traits) e, length_pushed a.traits t);
  nodes = omega (arith, ap (λ (z : Arena). length z.nodes) e);
}

pub grew_node : (a b : Arena) (n : StoredNode) → b ≡ kept_node a n → GrewBy a b 0 0 1
grew_node a b n e = record {
  texts = omega (arith, ap (λ (z : Arena). length z.texts) e);
  traits = omega (arith, ap (λ (z : Arena). length z.traits) e);
  nodes = omega (arith, ap (λ (z : Arena). length z.nodes) e, length_pushed a.nodes n);
}

-- one after the other
pub grew_then : {a b c : Arena} {t s n u v w T S N : ℕ} → GrewBy a b t s n → GrewBy b c u v w → t + u ≡ T → s + v ≡ S → n + w ≡ N → GrewBy a c T S N
grew_then p q d e f = record { texts = omega arith; traits = omega arith; nodes = omega arith }

-- what there is room for now
pub room_now : {a : Arena} {T S N u v w : ℕ} → HasRoomFor a T S N → u ≤ T → v ≤ S → w ≤ N → HasRoomFor a u v w
room_now r d e f = record { texts = omega arith; traits = omega arith; nodes = omega arith }

-- and behind what was added
pub room_then : {a b : Arena} {T S N t s n u v w : ℕ} → HasRoomFor a T S N → GrewBy a b t s n → t + u ≤ T → s + v ≤ S → n + w ≤ N → HasRoomFor b u v w
room_then r g d e f = record { texts = omega arith; traits = omega arith; nodes = omega arith }

-- An end that is handed on.

pub handed_on : {T U : Type 0} (r : Result U BuildEnd) (e x : BuildEnd) → r ≡ Err x → x ≡ e → (IsErrOf {T = T} (Err e) Full → ⊥) → IsErrOf r Full → ⊥
handed_on r e x p q never h = never (ap (λ z. Err z) (let k : e ≡ Full = cc in k))

-- The builder's own ends.

pub text_end : {T U : Type 0} (a : Arena) (x : List ℕ) (r : Result U BuildEnd) (e k : BuildEnd) → r ≡ Err k → k ≡ e → (IsErrOf {T = T} (Err e) Full ↔ ((MAX_COUNT ≤ length a.texts) ⊎ (MAX_COUNT < length x))) → HasRoomFor a 1 0 0 → length x ≤ MAX_COUNT → IsErrOf r Full → ⊥
text_end a x r e k p q f m l h = handed_on r e k p q (λ g. elim (f.0 g) [ inl n ↦ omega arith | inr n ↦ omega arith ]) h

pub traits_end : {T U : Type 0} (a : Arena) (n : ℕ) (r : Result U BuildEnd) (e k : BuildEnd) → r ≡ Err k → k ≡ e → (IsErrOf {T = T} (Err e) Full ↔ ((MAX_TRAITS ≤ length a.traits) ⊎ (MAX_SEALED < n))) → HasRoomFor a 0 1 0 → n ≤ 13 → IsErrOf r Full → ⊥
traits_end a n r e k p q f m l h = handed_on r e k p q (λ g. elim (f.0 g) [ inl i ↦ omega arith | inr i ↦ omega arith ]) h

-- The texts of a client.

pub client_none : (x : List ℕ) → (length x == 0) ≡ true → client_texts x ≡ 0
client_none [] e = refl
client_none (b ∷ x) e = absurd (let l : length (b ∷ x) ≡ 0 = grind arith in omega (arith, l))

pub client_one : (x : List ℕ) → (length x == 0) ≡ false → client_texts x ≡ 1
client_one [] e = cc
client_one (b ∷ x) e = refl

-- Behind a graft.

pub too_much : (a : Arena) (vs : List Stored) (old : Arena) (n : ℕ) → IsTooMuch a vs old → LacksRoomFor a vs old n
too_much a vs old n t = (t.0, t.1, λ r. elim t.2 [ inl l ↦ omega arith | inr x ↦ elim x [ inl l ↦ omega arith | inr l ↦ omega arith ] ])

pub grew_graft : (a : Arena) (vs : List Stored) (old new : Arena) (copies : List Stored) (g : Grafted a vs old new copies) → GrewBy old new (length g.cut.texts) (length g.cut.traits) (length g.cut.nodes)
grew_graft a vs old new copies g = record {
  texts = ap (λ (z : Arena). length z.texts) g.arena ∙ length-append old.texts (copied_texts a g.cut.texts) ∙ ap (λ k. length old.texts + k) (length-map g.cut.texts _);
  traits = ap (λ (z : Arena). length z.traits) g.arena ∙ length-append old.traits (copied_traits a (renaming old g.cut) g.cut.traits) ∙ ap (λ k. length old.traits + k) (length-map g.cut.traits _);
  nodes = ap (λ (z : Arena). length z.nodes) g.arena ∙ length-append old.nodes (copied_nodes a (renaming old g.cut) g.cut.nodes) ∙ ap (λ k. length old.nodes + k) (length-map g.cut.nodes _);
}

pub lacks : (a : Arena) (vs : List Stored) (old between : Arena) (copies : List Stored) (n : ℕ) → Grafted a vs old between copies → (HasRoomFor between n 1 1 → ⊥) → LacksRoomFor a vs old n
lacks a vs old between copies n g never = (g.cut, g.exact, λ r. never (room_then r (grew_graft a vs old between copies g) (omega arith) (omega arith) (omega arith)))

-- Two facts of one answer.
pub both : {T E : Type 0} (r : Result T E) (P : T → Type 0) (G : Type 0) (R : T → Type 0) → IfOk r P → OnOk r G → ((v : T) → P v → G → R v) → IfOk r R
both (Ok v) P G R p g f = f v p g
both (Err e) P G R p g f = tt
