-- A part more in a slot.
use Rattle.std.proofs.Common.{◌≡◌, Bool, true, List, [], ◌∷◌, ◌++◌, refl}
use Rattle.std.proofs.lemmas.List.{map-append}
use Rattle.amf_graph.specs.declared.value.Value.{Value as Stored}
use Rattle.amf_graph.specs.declared.value.TextId.{TextId}
use Rattle.amf_graph.specs.declared.shape.Shape.{Shape}
use Rattle.amf_graph.specs.declared.shape.Shape.TheVariants as shape
use Rattle.amf_graph.specs.Bodies.{TakesItem, TakesName, TakesEntry}
use Rattle.amf_graph.specs.Building.{more_value, more_name, more_entry, shape_head, begun}
use Rattle.amf_graph.specs.Slots.{slot_node}
use Rattle.amf_graph.proofs.Entries.{flat_push}

pub slot_item : (o : Bool) (s : Shape) (vs : List Stored) (ps : List (TextId × Stored)) (es : List (Stored × Stored)) (v : Stored) → TakesItem (slot_node o s vs ps es).head (slot_node o s vs ps es).values → slot_node o s (vs ++ v ∷ []) ps es ≡ more_value v (slot_node o s vs ps es)
slot_item o shape.Array vs ps es v h = refl
slot_item o (shape.Object t) vs ps es v h = refl
slot_item o (shape.Wrapper c) vs ps es v h = refl
slot_item o (shape.Values f x) vs ps es v h = refl
slot_item o (shape.Dictionary w) vs ps es v h = absurd h

pub slot_name : (o : Bool) (s : Shape) (vs : List Stored) (ps : List (TextId × Stored)) (es : List (Stored × Stored)) (x : TextId) (v : Stored) → TakesName (slot_node o s vs ps es).head → slot_node o s vs (ps ++ (x, v) ∷ []) es ≡ more_name x.0 v (slot_node o s vs ps es)
slot_name o shape.Array vs ps es x v h = simp map-append
slot_name o (shape.Object t) vs ps es x v h = simp map-append
slot_name o (shape.Wrapper c) vs ps es x v h = absurd h
slot_name o (shape.Values f y) vs ps es x v h = absurd h
slot_name o (shape.Dictionary w) vs ps es x v h = absurd h

pub slot_entry : (o : Bool) (s : Shape) (vs : List Stored) (ps : List (TextId × Stored)) (es : List (Stored × Stored)) (k v : Stored) → TakesEntry (slot_node o s vs ps es).head → slot_node o s vs ps (es ++ (k, v) ∷ []) ≡ more_entry k v (slot_node o s vs ps es)
slot_entry o shape.Array vs ps es k v h = absurd h
slot_entry o (shape.Object t) vs ps es k v h = absurd h
slot_entry o (shape.Wrapper c) vs ps es k v h = absurd h
slot_entry o (shape.Values f y) vs ps es k v h = absurd h
slot_entry o (shape.Dictionary w) vs ps es k v h = rw (flat_push es k v) refl

pub slot_begun : (s : Shape) → slot_node true s [] [] [] ≡ begun (shape_head s)
slot_begun shape.Array = refl
slot_begun (shape.Object t) = refl
slot_begun (shape.Wrapper c) = refl
slot_begun (shape.Values f x) = refl
slot_begun (shape.Dictionary w) = refl
