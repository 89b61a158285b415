-- A graph of the kinds of AMF 0 is its own lowering.
use Rattle.std.proofs.Common.{◌≡◌, ℕ, zero, suc, Bool, true, false, List, [], ◌∷◌, ◌++◌, length, get_or, refl, sym, subst, arith}
use Rattle.std.specs.Prelude.{◌==◌}
use Rattle.std.specs.List.{AllZip, zip, list_all}
use Rattle.std.proofs.lemmas.Bool.{and_parts}
use Rattle.std.proofs.lemmas.Bool.Decides.{nat_tests}
use Rattle.amf_graph.specs.Graph.{undefined, null, boolean, integer, double, text, Value, leaf, node, Traits, Head, xml_document, date, array, object, wrapper, xml, bytes, ints, uints, doubles, values, dictionary, Node, no_node, Graph, node_at}
use Rattle.amf0_spelling.specs.Lowered.{is_wrapper, Low, ends, low_head, sealed_names, unsealed_values, LowNode, IsLoweringOf}
use Rattle.amf0_kinds.specs.Kinds.{is_value0, is_open, has_form0, is_node0, has_only_kinds0}

none : {X : Type 0} (xs : List X) → (length xs == 0) ≡ true → xs ≡ []
none [] e = refl
none (x ∷ xs) e = grind (arith, nat_tests, e)

opened : (t : Traits) → is_open t ≡ true → object t ≡ low_head (object t)
opened t e =
    let p = and_parts _ _ e in
    subst (λ (d : Bool). object t ≡ object (record { class = t.class; dynamic = d; sealed = [] })) p.0
    (subst (λ (s : List (List ℕ)). object t ≡ object (record { class = t.class; dynamic = t.dynamic; sealed = s })) (none t.sealed p.1) refl)

own_head : (h : Head) (vs : List Value) → has_form0 h vs ≡ true → h ≡ low_head h
own_head (object t) vs e = opened t (and_parts _ _ e).0
own_head (xml_document x) vs e = refl
own_head (date p) vs e = refl
own_head array vs e = refl
own_head (wrapper c) vs e = refl
own_head (xml x) vs e = refl
own_head (bytes x) vs e = refl
own_head (ints f ns) vs e = refl
own_head (uints f ns) vs e = refl
own_head (doubles f ns) vs e = refl
own_head (values f x) vs e = refl
own_head (dictionary f) vs e = refl

no_wrapper : (h : Head) (vs : List Value) → has_form0 h vs ≡ true → is_wrapper h ≡ false
no_wrapper (object t) vs e = refl
no_wrapper (xml_document x) vs e = refl
no_wrapper (date p) vs e = refl
no_wrapper array vs e = refl
no_wrapper (wrapper c) vs e = let h : false ≡ true = e in absurd cc
no_wrapper (xml x) vs e = refl
no_wrapper (bytes x) vs e = refl
no_wrapper (ints f ns) vs e = refl
no_wrapper (uints f ns) vs e = refl
no_wrapper (doubles f ns) vs e = refl
no_wrapper (values f x) vs e = refl
no_wrapper (dictionary f) vs e = refl

none_sealed : (h : Head) (vs : List Value) → has_form0 h vs ≡ true → sealed_names h ≡ []
none_sealed (object t) vs e = none t.sealed (and_parts _ _ (and_parts _ _ e).0).1
none_sealed (xml_document x) vs e = refl
none_sealed (date p) vs e = refl
none_sealed array vs e = refl
none_sealed (wrapper c) vs e = refl
none_sealed (xml x) vs e = refl
none_sealed (bytes x) vs e = refl
none_sealed (ints f ns) vs e = refl
none_sealed (uints f ns) vs e = refl
none_sealed (doubles f ns) vs e = refl
none_sealed (values f x) vs e = refl
none_sealed (dictionary f) vs e = refl

unsealed : (h : Head) (vs : List Value) → has_form0 h vs ≡ true → unsealed_values h vs ≡ vs
unsealed (object t) vs e = sym (none vs (and_parts _ _ e).1)
unsealed (xml_document x) vs e = refl
unsealed (date p) vs e = refl
unsealed array vs e = refl
unsealed (wrapper c) vs e = refl
unsealed (xml x) vs e = refl
unsealed (bytes x) vs e = refl
unsealed (ints f ns) vs e = refl
unsealed (uints f ns) vs e = refl
unsealed (doubles f ns) vs e = refl
unsealed (values f x) vs e = refl
unsealed (dictionary f) vs e = refl

at_place : (xs : List Node) (i : ℕ) → list_all is_node0 xs ≡ true → is_node0 (get_or xs i no_node) ≡ true
at_place [] i e = refl
at_place (x ∷ xs) zero e = (and_parts _ _ e).0
at_place (x ∷ xs) (suc i) e = at_place xs i (and_parts _ _ e).1

module _ (g : Graph) (all : list_all is_node0 g.nodes ≡ true) where
  own_value : (v : Value) → is_value0 v ≡ true → Low g v v
  own_value (leaf undefined) e = ends 0 refl refl
  own_value (leaf null) e = ends 0 refl refl
  own_value (leaf (boolean b)) e = ends 0 refl refl
  own_value (leaf (integer n)) e = let h : false ≡ true = e in absurd cc
  own_value (leaf (double p)) e = ends 0 refl refl
  own_value (leaf (text x)) e = ends 0 refl refl
  own_value (node i) e = ends 0 (no_wrapper (node_at g i).head (node_at g i).values (and_parts _ _ (at_place g.nodes i all)).0) refl

  own_values : (vs : List Value) → list_all is_value0 vs ≡ true → AllZip (Low g) vs vs
  own_values [] e = tt
  own_values (v ∷ vs) e = let p = and_parts _ _ e in (own_value v p.0, own_values vs p.1)

  own_names : (ps : List (List ℕ × Value)) → list_all (λ p. is_value0 p.1) ps ≡ true → AllZip (λ p q. (q.0 ≡ p.0) × Low g p.1 q.1) ps ps
  own_names [] e = tt
  own_names (p ∷ ps) e = let h = and_parts _ _ e in ((refl, own_value p.1 h.0), own_names ps h.1)

  own_node : (a : Node) → is_node0 a ≡ true → LowNode g a a
  own_node a e =
      let p = and_parts _ _ e in
      let q = and_parts _ _ p.1 in record {
        head = own_head a.head a.values p.0;
        names = subst (λ (s : List (List ℕ)). AllZip (λ p q. (q.0 ≡ p.0) × Low g p.1 q.1) (zip s a.values ++ a.names) a.names) (sym (none_sealed a.head a.values p.0)) (own_names a.names q.1);
        values = subst (λ (vs : List Value). AllZip (Low g) vs a.values) (sym (unsealed a.head a.values p.0)) (own_values a.values q.0);
      }

  own_nodes : (xs : List Node) → list_all is_node0 xs ≡ true → AllZip (LowNode g) xs xs
  own_nodes [] e = tt
  own_nodes (a ∷ xs) e = let p = and_parts _ _ e in (own_node a p.0, own_nodes xs p.1)

pub own : (g : Graph) → has_only_kinds0 g ≡ true → IsLoweringOf g g
own g e = let p = and_parts _ _ e in record { root = own_value g p.1 g.root p.0; nodes = own_nodes g p.1 g.nodes p.1 }
