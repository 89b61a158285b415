-- The arguments of a call by a RemotingMessage: what is kept of them is what is said.
use Rattle.std.proofs.Common.{◌≡◌, Bool, true, false, List, [], Option, Some, None, refl, sym, subst}
use Rattle.std.specs.Bool.{then_some}
use Rattle.std.specs.List.{AllZip}
use Rattle.amf_graph.specs.declared.value.Value.{Value as Stored}
use Rattle.amf_graph.specs.declared.value.Value.TheVariants.{Undefined, Null, Bool as Flag, Integer, Double, Text, Node as NodeRef}
use Rattle.amf_graph.specs.Arena.{Arena, IsFinished, Names, graph_of, value_content}
use Rattle.amf_graph.specs.Graph as graph
use Rattle.amf_graph.specs.Graph.{Value, leaf, node, Graph}
use Rattle.amf_graph.specs.Isomorphic.{ValuesMatch, StandIn, Isomorphic}
use Rattle.amf_graph.specs.Reached.{IsWhole}
use Rattle.amf_graph.specs.Rooted.{RootedArena, content}
use Rattle.amf_graph.specs.Roots.{rooted_at}
use Rattle.amf_graph.proofs.Finished.{finished}
use Rattle.amf_graph.proofs.OrderExists.{isomorphic_refl}
use Rattle.amf_service.specs.Shipped.{items_at, items_of}
use Rattle.amf_service.proofs.Lawful.{BothOr, items_alike}
use Rattle.amf_flex_replies.specs.KeptArguments.{IsArgument, KeepsArguments}
use Rattle.amf_answer_plan.specs.Remoting.{empty_arguments, if_items, arguments}

some_none : (vs : List Value) → Some vs ≡ None → ⊥
some_none vs e = cc

pub other_argument : (g : Graph) (a : Arena) (v : Stored) (x : RootedArena) → (v ≡ Null → ⊥) → Isomorphic (rooted_at g (value_content a v)) (content x) → IsArgument g a v x
other_argument g a Null x never i = absurd (never refl)
other_argument g a Undefined x never i = i
other_argument g a (Flag b) x never i = i
other_argument g a (Integer n) x never i = i
other_argument g a (Double p) x never i = i
other_argument g a (Text t) x never i = i
other_argument g a (NodeRef n) x never i = i

-- a value that is not null is its items, where it has some
abbrev IsOther : Graph → Value → Type 0
IsOther g w = arguments g w ≡ if_items g w (items_at g w)

same_items : (g : Graph) (u w : Value) → items_at (rooted_at g u) w ≡ items_at g w
same_items g u (leaf x) = refl
same_items g u (node i) = refl

some_items : (R : List Value → List Value → Type 0) (g : Graph) (w : Value) (x : RootedArena) (o p : Option (List Value)) (vs : List Value) → BothOr R o p → p ≡ Some vs → IsWhole (rooted_at g w) → Isomorphic (rooted_at g w) (content x) → KeepsArguments (if_items g w o) (Some x)
some_items R g w x (Some us) p vs m e whole i = (whole, i)
some_items R g w x None p vs m e whole i = absurd (subst (λ z. BothOr R None z) e m)

no_items : (R : List Value → List Value → Type 0) (g : Graph) (w : Value) (o p : Option (List Value)) → BothOr R o p → p ≡ None → KeepsArguments (if_items g w o) None
no_items R g w (Some us) p m e = absurd (subst (λ z. BothOr R (Some us) z) e m)
no_items R g w None p m e = tt

module _ (g : Graph) (w : Value) (x : RootedArena) (other : IsOther g w) (i : Isomorphic (rooted_at g w) (content x)) where
  abbrev R : List Value → List Value → Type 0
  R = AllZip (ValuesMatch (StandIn i.pairs))

  alike : BothOr R (items_at g w) (items_of (content x))
  alike = subst (λ o. BothOr R o (items_of (content x))) (same_items g w w) (items_alike (rooted_at g w) (content x) i)

  other_some : (vs : List Value) → items_of (content x) ≡ Some vs → IsWhole (rooted_at g w) → KeepsArguments (arguments g w) (Some x)
  other_some vs e whole = subst (λ o. KeepsArguments o (Some x)) (sym other) (some_items R g w x (items_at g w) (items_of (content x)) vs alike e whole i)

  other_none : items_of (content x) ≡ None → KeepsArguments (arguments g w) None
  other_none e = subst (λ o. KeepsArguments o None) (sym other) (no_items R g w (items_at g w) (items_of (content x)) alike e)

module _ (a : Arena) (root : Stored) (x : RootedArena) (done : IsFinished a) (kept : IsFinished x.arena) (there : Names x.arena x.root) where
  abbrev said : Graph
  said = graph_of a root

  empty_some : content x ≡ empty_arguments → KeepsArguments (Some empty_arguments) (Some x)
  empty_some e =
      let whole = finished x.arena x.root kept there in
      (subst IsWhole e whole, subst (λ z. Isomorphic z (content x)) e (isomorphic_refl (content x) whole.there))

  empty_none : content x ≡ empty_arguments → items_of (content x) ≡ None → ⊥
  empty_none e n = some_none [] (subst (λ z. items_of z ≡ None) e n)

  pub arguments_some : (v : Stored) → Names a v → IsArgument said a v x → (vs : List Value) → items_of (content x) ≡ Some vs → KeepsArguments (arguments said (value_content a v)) (Some x)
  arguments_some Null named i vs e = empty_some i
  arguments_some Undefined named i vs e = other_some said (value_content a Undefined) x refl i vs e (finished a Undefined done named)
  arguments_some (Flag b) named i vs e = other_some said (value_content a (Flag b)) x refl i vs e (finished a (Flag b) done named)
  arguments_some (Integer n) named i vs e = other_some said (value_content a (Integer n)) x refl i vs e (finished a (Integer n) done named)
  arguments_some (Double p) named i vs e = other_some said (value_content a (Double p)) x refl i vs e (finished a (Double p) done named)
  arguments_some (Text t) named i vs e = other_some said (value_content a (Text t)) x refl i vs e (finished a (Text t) done named)
  arguments_some (NodeRef n) named i vs e = other_some said (value_content a (NodeRef n)) x refl i vs e (finished a (NodeRef n) done named)

  pub arguments_none : (v : Stored) → IsArgument said a v x → items_of (content x) ≡ None → KeepsArguments (arguments said (value_content a v)) None
  arguments_none Null i e = absurd (empty_none i e)
  arguments_none Undefined i e = other_none said (value_content a Undefined) x refl i e
  arguments_none (Flag b) i e = other_none said (value_content a (Flag b)) x refl i e
  arguments_none (Integer n) i e = other_none said (value_content a (Integer n)) x refl i e
  arguments_none (Double p) i e = other_none said (value_content a (Double p)) x refl i e
  arguments_none (Text t) i e = other_none said (value_content a (Text t)) x refl i e
  arguments_none (NodeRef n) i e = other_none said (value_content a (NodeRef n)) x refl i e

-- a value where a test holds
pub by_test : {X : Type 0} (b : Bool) (x : X) (P : Option X → Type 0) → (b ≡ true → P (Some x)) → (b ≡ false → P None) → P (then_some b x)
by_test true x P here other = here refl
by_test false x P here other = other refl
