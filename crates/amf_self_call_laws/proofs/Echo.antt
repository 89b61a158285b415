-- Of the echo service comes back its argument.
use Rattle.std.proofs.Common.{◌≡◌, ◌≢◌, ◌∙◌, inl, inr, ℕ, true, List, [], ◌∷◌, slice_get, ap, refl, subst, Option, Some, None}
use Rattle.std.specs.Prelude.{codes}
use Rattle.amf_wire.specs.Style.{canonical}
use Rattle.amf_graph.specs.Graph.{Value, leaf, node, Head, array, Node, Graph, node_at}
use Rattle.amf_graph.specs.Reached.{Reached, at_root, inside, Holds, IsReachedValue, IsWhole, IsNamed}
use Rattle.amf_graph.specs.Small.{IsSmall}
use Rattle.amf3_spelling.proofs.Decides3.{canonical_exist}
use Rattle.amf3_spelling.proofs.SpelledNamed.{spelled_named}
use Rattle.amf_service.specs.Meaning as meaning
use Rattle.amf_service.specs.Meaning.{given}
use Rattle.amf_service.specs.Shipped as shipped_services
use Rattle.amf_service.specs.Shipped.{shipped, unnamed, items_by_kind, items_at, items_of}
use Rattle.amf_service.proofs.Lawful.{lawful}
use Rattle.amf_client.specs.Asking.{IsAsk, is_unnamed_array, are_arguments_at}
use Rattle.amf_client.specs.Outcomes as client
use Rattle.amf_answer_plan.specs.Packets.{null_uri}
use Rattle.amf_answer_plan.specs.RespondLaws.{AreLawful}
use Rattle.amf_answer_plan.proofs.Wholes.{from_whole}
use Rattle.amf_self_call_laws.specs.Round.{HasForm, BringsResult, BringsGraph, BringsCall, from, EchoComesBack}
use Rattle.amf_self_call_laws.proofs.Packets.{value_spelled}
use Rattle.amf_self_call_laws.proofs.Rounds.{round_holds}

shipped_lawful : AreLawful shipped
shipped_lawful = (lawful.echo, (lawful.sum, (lawful.names, tt)))

no_pairs : (ps : List (List ℕ × Value)) (vs xs : List Value) → unnamed ps vs ≡ Some xs → is_unnamed_array array ps ≡ true
no_pairs [] vs xs e = refl
no_pairs (p ∷ ps) vs xs e = absurd cc

are_unnamed : (d : Head) (a : Node) (xs : List Value) → items_by_kind d a ≡ Some xs → is_unnamed_array d a.names ≡ true
are_unnamed array a xs e = no_pairs a.names a.values xs e
are_unnamed _ a xs e = absurd cc

have_items : (g : Graph) (v : Value) (xs : List Value) → items_at g v ≡ Some xs → are_arguments_at g v ≡ true
have_items g (leaf x) xs e = absurd cc
have_items g (node i) xs e = are_unnamed (node_at g i).head (node_at g i) xs e

echo_other : codes "echo.echo" ≢ null_uri
echo_other e = cc

-- The item has a spelling, as the arguments have.

module _ (args : Graph) (v : Value) (r : IsReachedValue args v) where
  node_reached : (i : ℕ) → v ≡ node i → Reached args i
  node_reached i e = by_place r
    where
      by_place : IsReachedValue args v → Reached args i
      by_place (inl root) = at_root (root ∙ e)
      by_place (inr (j, there, h)) = inside j there (subst (λ z. Holds (node_at args j) z) e h)

  reached : (i : ℕ) → Reached (from args v) i → Reached args i
  reached i (at_root e) = node_reached i e
  reached i (inside j there h) = inside j (reached j there) h

  value_reached : (u : Value) → IsReachedValue (from args v) u → IsReachedValue args u
  value_reached u (inl e) = subst (λ z. IsReachedValue args z) e r
  value_reached u (inr (j, there, h)) = inr (j, reached j there, h)

  item_small : IsSmall args → IsSmall (from args v)
  item_small s = record { few = s.few; values = λ u there. s.values u (value_reached u there); nodes = λ i there. s.nodes i (reached i there) }

  item_named : IsNamed args → IsNamed (from args v)
  item_named named i there = named i (reached i there)

item_form : (args : Graph) → IsWhole args → IsSmall args → (v : Value) → IsReachedValue args v → IsNamed args → HasForm (from args v)
item_form args whole small v r named = canonical_exist.by_content (from args v) (item_small args v r small) (from_whole args v r whole) (item_named args v r named)

ask_named : (args : Graph) (asked : List ℕ) (port : ℕ) → IsAsk port (codes "echo.echo") args asked → IsNamed args
ask_named args asked port ask = let x = value_spelled 3 (codes "echo.echo") (codes "/1") args ask.packet ask.spelled in spelled_named canonical args x.0 x.1

only_item : (ps : List (List ℕ × Value)) (vs : List Value) (v : Value) → unnamed ps vs ≡ Some (v ∷ []) → slice_get vs 0 ≡ Some v
only_item [] vs v e = ap (λ o. first_of o) e
  where
    first_of : Option (List Value) → Option Value
    first_of None = None
    first_of (Some xs) = slice_get xs 0
only_item (p ∷ ps) vs v e = absurd cc

held : (d : Head) (a : Node) (v : Value) → items_by_kind d a ≡ Some (v ∷ []) → slice_get a.values 0 ≡ Some v
held array a v e = only_item a.names a.values v e
held _ a v e = absurd cc

item_reached : (args : Graph) (v w : Value) → args.root ≡ w → items_at args w ≡ Some (v ∷ []) → IsReachedValue args v
item_reached args v (leaf x) root e = absurd cc
item_reached args v (node i) root e = inr (i, at_root root, inl (0, held (node_at args i).head (node_at args i) v e))

-- a graph that has a spelling brings its result
has_result : (g : Graph) (o : client.Outcome Graph) → HasForm g → BringsGraph g o → BringsResult g o
has_result g o form (inl (f, b)) = b
has_result g o form (inr (none, b)) = absurd (none form)

pub echo_comes_back : EchoComesBack
echo_comes_back args whole small v one r short =
    let form = item_form args whole small v (item_reached args v args.root refl one) (ask_named args r.asked r.port r.ask) in
    let b = round_holds shipped shipped_lawful (codes "echo.echo") args (record { other = echo_other; whole = whole; unnamed = have_items args args.root (v ∷ []) one }) r in
    let answer : BringsCall (given (meaning.result (from args v))) b.0 = subst (λ z. BringsCall (given (shipped_services.or_fault (shipped_services.one_of z) (λ w. meaning.result (from args w)))) b.0) one (b.1.short short) in
    (b.0, has_result (from args v) b.0 form answer, b.2)
