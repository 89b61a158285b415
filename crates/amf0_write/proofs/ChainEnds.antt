-- Where chains of wrappers lead after many steps.
use Rattle.std.proofs.Common.{◌≡◌, ℕ, ◌+◌, ◌-◌, ◌≤◌, ℤ, Bool, true, false, List, [], ◌∷◌, ◌++◌, length, sym, refl, ap, ◌∙◌, subst, inl, inr, arith}
use Rattle.amf_graph.specs.declared.value.NodeId.{NodeId}
use Rattle.amf_graph.specs.declared.value.Value.{Value as Stored}
use Rattle.amf_graph.specs.declared.value.Value.TheVariants.{Undefined, Null, Bool as Flag, Integer, Double, Text, Node as NodeRef}
use Rattle.amf_graph.specs.Arena.{Names, value_content}
use Rattle.amf_graph.specs.Graph.{leaf, node, null, Value, Graph}
use Rattle.amf_graph.specs.Rooted.{RootedArena, content}
use Rattle.amf0_spelling.specs.Lowered.{wraps, unwrapped_times, LowPlain, Low, ends, never_ends}
use Rattle.amf_graph.proofs.Alls.{all_push}
use Rattle.amf_graph.proofs.Lists.{no_entry, at_push, length_pushed}
use Rattle.amf0_write.specs.Chained.{AreFor}
use Rattle.amf0_spelling.proofs.Chains.{times_stays, times_plus, never_ending}

-- what wraps after so many steps wraps before
wraps_before : (g : Graph) (v : Value) (m n : ℕ) → n ≤ m → wraps g (unwrapped_times g m v) ≡ true → wraps g (unwrapped_times g n v) ≡ true
wraps_before g v m n l e = go (wraps g (unwrapped_times g n v)) refl
  where
    go : (b : Bool) → wraps g (unwrapped_times g n v) ≡ b → wraps g (unwrapped_times g n v) ≡ true
    go true f = f
    go false f =
        let at : n + (m - n) ≡ m = omega (arith, l) in
        let stays : unwrapped_times g m v ≡ unwrapped_times g n v = ap (λ k. unwrapped_times g k v) (sym at) ∙ times_plus g n (m - n) v ∙ times_stays g (m - n) (unwrapped_times g n v) f in
        let h : wraps g (unwrapped_times g n v) ≡ true = subst (λ w. wraps g w ≡ true) stays e in
        h

-- what wraps after as many steps as there are nodes wraps for ever
pub wraps_always : (g : Graph) (v : Value) (m : ℕ) → length g.nodes ≤ m → wraps g (unwrapped_times g m v) ≡ true → (n : ℕ) → wraps g (unwrapped_times g n v) ≡ true
wraps_always g v m l e = never_ending g v (λ n k. wraps_before g v m n (omega (arith, l, k)) e)

-- a value that is no node stays
pub leaf_stays : (g : RootedArena) (steps : ℕ) (v : Stored) → ((n : NodeId) → v ≡ NodeRef n → ⊥) → value_content g.arena v ≡ unwrapped_times (content g) steps (value_content g.arena v)
leaf_stays g steps Undefined h = sym (times_stays (content g) steps _ refl)
leaf_stays g steps Null h = sym (times_stays (content g) steps _ refl)
leaf_stays g steps (Flag b) h = sym (times_stays (content g) steps _ refl)
leaf_stays g steps (Integer n) h = sym (times_stays (content g) steps _ refl)
leaf_stays g steps (Double p) h = sym (times_stays (content g) steps _ refl)
leaf_stays g steps (Text t) h = sym (times_stays (content g) steps _ refl)
leaf_stays g steps (NodeRef n) h = absurd (h n refl)

-- twice as many steps
pub twice_as_far : (g : Graph) (m : ℕ) (v u w : Value) → u ≡ unwrapped_times g m v → w ≡ unwrapped_times g m u → w ≡ unwrapped_times g (m + m) v
twice_as_far g m v u w e f = f ∙ ap (unwrapped_times g m) e ∙ sym (times_plus g m m v)

-- the end of a chain that is no wrapper
pub low_end : (g : RootedArena) (steps i : ℕ) (v w : Stored) → value_content g.arena v ≡ unwrapped_times (content g) steps (node i) → wraps (content g) (value_content g.arena v) ≡ false → LowPlain (value_content g.arena v) (value_content g.arena w) → Low (content g) (node i) (value_content g.arena w)
low_end g steps i v w e n p = ends steps (subst (λ z. wraps (content g) z ≡ false) e n) (subst (λ z. LowPlain z (value_content g.arena w)) e p)

-- one that is a wrapper never comes to its end
pub low_null : (g : RootedArena) (steps i : ℕ) (v : Stored) → length g.arena.nodes ≤ steps → value_content g.arena v ≡ unwrapped_times (content g) steps (node i) → wraps (content g) (value_content g.arena v) ≡ true → (count : length (content g).nodes ≡ length g.arena.nodes) → Low (content g) (node i) (leaf null)
low_null g steps i v l e n count = never_ends (wraps_always (content g) (node i) steps (omega (arith, l, count)) (subst (λ z. wraps (content g) z ≡ true) e n)) refl

-- a value that is no integer is low
pub plain_same : (g : RootedArena) (v : Stored) → ((n : ℤ) → v ≡ Integer n → ⊥) → LowPlain (value_content g.arena v) (value_content g.arena v)
plain_same g Undefined h = refl
plain_same g Null h = refl
plain_same g (Flag b) h = refl
plain_same g (Integer n) h = absurd (h n refl)
plain_same g (Double p) h = refl
plain_same g (Text t) h = refl
plain_same g (NodeRef n) h = refl

-- Lists of such values, one more.

pub none_for : (g : RootedArena) (P : ℕ → Stored → Type 0) → AreFor g P 0 []
none_for g P = record { all = refl; names = tt; each = λ i v e. absurd (no_entry i v e) }

pub for_more : (g : RootedArena) (P : ℕ → Stored → Type 0) (n : ℕ) (vs : List Stored) (v : Stored) → AreFor g P n vs → Names g.arena v → P n v → AreFor g P (n + 1) (vs ++ v ∷ [])
for_more g P n vs v a h p = record {
  all = omega (arith, length_pushed vs v, a.all);
  names = all_push (Names g.arena) vs v a.names h;
  each = λ i w e. elim (at_push vs v i w e) [
    | inl f ↦ a.each i w f
    | inr f ↦ subst (λ z. P i z) f.1 (subst (λ k. P k v) (sym a.all ∙ sym f.0) p)
  ];
}
