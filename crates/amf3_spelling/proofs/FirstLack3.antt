-- A graph within bounds has a canonical spelling, or a first node that lacks one, and not both.
use Rattle.std.proofs.Common.{◌≡◌, ℕ, zero, suc, ◌<◌, ◌⊎◌, List, [], ◌∷◌, slice_get, Some, sym, refl, ◌∙◌, subst, inl, inr, arith}
use Rattle.std.specs.List.{AllByRecursion}
use Rattle.std.proofs.lemmas.Bool.{cases_lt}
use Rattle.std.proofs.lemmas.Option.{same_Some}
use Rattle.amf_io.specs.Field.{Field}
use Rattle.amf_wire.specs.Style.{canonical}
use Rattle.amf_graph.specs.declared.lack.LackKind.{LackKind}
use Rattle.amf_graph.specs.declared.lack.LackKind.TheVariants.{EmptyName}
use Rattle.amf_graph.specs.Graph.{AllNamed, Value, Graph, node_at}
use Rattle.amf_graph.specs.Reached.{IsWhole, IsNamed}
use Rattle.amf_graph.specs.Small.{IsSmall}
use Rattle.amf_graph.specs.Lacks.{IsFirstLack}
use Rattle.amf_graph.proofs.Alls.{each_at}
use Rattle.amf_graph.proofs.OrderExists.{order_exists}
use Rattle.amf_graph.proofs.Reaching.{reached_stands, order_reached}
use Rattle.amf_graph.proofs.Walks.{walks_fixed}
use Rattle.amf3_spelling.specs.Spells3.{IsSpelling3}
use Rattle.amf3_spelling.specs.Lacks3.{Lacks3, IsLack3}
use Rattle.amf3_spelling.specs.LawsLack3.{SpellingOrLack, SpelledLacksNothing}
use Rattle.amf3_spelling.proofs.FieldsOf.{from_spelled}
use Rattle.amf3_spelling.proofs.Exists3.{canonical_exists}
use Rattle.amf3_spelling.proofs.LacksAlike.{lack_is, lacks_alike}
use Rattle.amf3_spelling.proofs.SpelledNamed.{spelled_named}

pub named_or_not : (ps : List (List ℕ × Value)) → AllNamed ps ⊎ (AllNamed ps → ⊥)
named_or_not [] = inl tt
named_or_not (p ∷ ps) = go p.0 refl (named_or_not ps)
  where
    go : (x : List ℕ) → p.0 ≡ x → AllNamed ps ⊎ (AllNamed ps → ⊥) → AllNamed (p ∷ ps) ⊎ (AllNamed (p ∷ ps) → ⊥)
    go [] e r = inr (λ h. h.0 e)
    go (c ∷ x) e (inl n) = inl ((λ f. let d : [] ≡ c ∷ x = sym f ∙ e in cc), n)
    go (c ∷ x) e (inr n) = inr (λ h. n h.1)

module _ (g : Graph) where
  abbrev HasNames : ℕ → Type 0
  HasNames i = AllNamed (node_at g i).names

  -- the first node of a list with an empty name
  record FirstUnnamed (xs : List ℕ) : Type 0 where
    number : ℕ
    i : ℕ
    at : slice_get xs number ≡ Some i
    unnamed : HasNames i → ⊥
    before : (k j : ℕ) → k < number → slice_get xs k ≡ Some j → HasNames j

  first_unnamed : (xs : List ℕ) → AllByRecursion HasNames xs ⊎ FirstUnnamed xs
  first_unnamed [] = inl tt
  first_unnamed (x ∷ xs) = go (named_or_not (node_at g x).names) (first_unnamed xs)
    where
      earlier : (n : ℕ) → HasNames x → ((k j : ℕ) → k < n → slice_get xs k ≡ Some j → HasNames j) → (k j : ℕ) → k < suc n → slice_get (x ∷ xs) k ≡ Some j → HasNames j
      earlier n f r zero j l e = subst HasNames (same_Some x j e) f
      earlier n f r (suc k) j l e = r k j (omega arith) e

      go : HasNames x ⊎ (HasNames x → ⊥) → AllByRecursion HasNames xs ⊎ FirstUnnamed xs → AllByRecursion HasNames (x ∷ xs) ⊎ FirstUnnamed (x ∷ xs)
      go (inr n) r = inr (record { number = 0; i = x; at = refl; unnamed = n; before = λ k j l e. absurd (omega arith) })
      go (inl f) (inl r) = inl (f, r)
      go (inl f) (inr r) = inr (record { number = suc r.number; i = r.i; at = r.at; unnamed = r.unnamed; before = earlier r.number f r.before })

  first_lack : (xs : List ℕ) (f : FirstUnnamed xs) → IsFirstLack (Lacks3 g xs) f.number EmptyName
  first_lack xs f = record {
    lacks = (f.i, f.at, f.unnamed);
    least = λ m k o. elim (cases_lt m f.number) [
      | inl below ↦ absurd ((lack_is g o.0 k o.2).1 (f.before m o.0 below o.1))
      | inr above ↦ above
    ];
    first = λ k o. omega arith;
  }

  spelled_or_lacking : IsSmall g → IsWhole g → ((fs : List Field) × IsSpelling3 canonical g fs) ⊎ ((n : ℕ) × (kind : LackKind) × IsLack3 g n kind)
  spelled_or_lacking s w =
      let d = order_exists g w.there in
      elim (first_unnamed d.0) [
        | inl f ↦
            let named : IsNamed g = λ i r. let o = reached_stands g d.0 d.1 i r in each_at HasNames d.0 o.0 i f o.1 in
            let b = canonical_exists g s w named in
            let o = from_spelled canonical g b.0 b.1 in
            inl (o.0, o.1)
        | inr f ↦ inr (f.number, EmptyName, (d.0, d.1, first_lack d.0 f))
      ]

  -- a graph without empty names lacks nothing
  named_lacks_nothing : IsNamed g → (n : ℕ) (kind : LackKind) → IsLack3 g n kind → ⊥
  named_lacks_nothing named n kind (order, walk, f) = let l = f.lacks in (lack_is g l.0 kind l.2).1 (named l.0 ((order_reached g order walk l.0).1 (n, l.1)))

  one_lack : (n m : ℕ) (kind other : LackKind) → IsLack3 g n kind → IsLack3 g m other → (n ≡ m) × (kind ≡ other)
  one_lack n m kind other (xs, a, x) (ys, b, y) =
      let same : ys ≡ xs = walks_fixed b a in
      let l : Lacks3 g xs m other = subst (λ w. Lacks3 g w m other) same y.lacks in
      let k : Lacks3 g ys n kind = subst (λ w. Lacks3 g w n kind) (sym same) x.lacks in
      (omega (arith, x.least m other l, y.least n kind k), (lack_is g x.lacks.0 kind x.lacks.2).0 ∙ sym (lack_is g y.lacks.0 other y.lacks.2).0)

pub nothing_lacks : SpelledLacksNothing
nothing_lacks s g fs p = let named = spelled_named s g fs p in (named, named_lacks_nothing g named)

pub spelling_or_lack : SpellingOrLack
spelling_or_lack = record {
  either = spelled_or_lacking;
  not_both = λ g fs n kind p l. (nothing_lacks canonical g fs p).1 n kind l;
  one_lack = one_lack;
  alike = lacks_alike;
}
