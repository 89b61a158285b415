-- The body of a call that is viewed is null or a value that its message holds.
use Rattle.std.proofs.Common.{◌≡◌, ℕ, suc, ◌⊎◌, Bool, true, false, List, [], ◌∷◌, ◌++◌, Option, Some, None, refl, sym, ap, subst, inl, inr}
use Rattle.std.specs.Prelude.{bytes_eq, slice_get, if◌then◌else◌}
use Rattle.amf_graph.specs.Graph.{Value, leaf, null, Traits, Head, object, Node, Graph}
use Rattle.amf_graph.specs.Reached.{Holds}
use Rattle.flex_msgs.specs.declared.class.Served.{Served}
use Rattle.flex_msgs.specs.declared.class.Served.TheVariants as served
use Rattle.flex_msgs.specs.declared.request.Member.{Member}
use Rattle.flex_msgs.specs.declared.request.Member.TheVariants as member
use Rattle.flex_msgs.specs.Asked.{Told, remoting, command, async, Viewed, request}
use Rattle.flex_msgs.specs.Classes.{served_class, body_name, client_name, destination_name, headers_name, message_name, correlation_name, operation_name, ds_id_name, subtopic_name}
use Rattle.flex_msgs.specs.Lookup.{last_or, value_named, sealed_pairs, members_of, pairs_of}
use Rattle.flex_msgs.specs.Viewing.{text_or_null, text_alone, whole_number, or_wrong, common_view, served_view, kind_view}

-- The value of a name is null or stands among the pairs.

abbrev Among : List (List ℕ × Value) → Value → Type 0
Among [] v = ⊥
Among (p ∷ ps) v = (p.1 ≡ v) ⊎ Among ps v

last_among : (u : Value) (x : List ℕ) (ps : List (List ℕ × Value)) → (last_or u x ps ≡ u) ⊎ Among ps (last_or u x ps)
last_among u x [] = inl refl
last_among u x (p ∷ ps) = go (bytes_eq p.0 x) (last_among p.1 x ps) (last_among u x ps)
  where
    go : (b : Bool) → (last_or p.1 x ps ≡ p.1) ⊎ Among ps (last_or p.1 x ps) → (last_or u x ps ≡ u) ⊎ Among ps (last_or u x ps) → (last_or (if b then p.1 else u) x ps ≡ u) ⊎ Among (p ∷ ps) (last_or (if b then p.1 else u) x ps)
    go true (inl e) s = inr (inl (sym e))
    go true (inr a) s = inr (inr a)
    go false r (inl e) = inl e
    go false r (inr a) = inr (inr a)

among_either : (ps qs : List (List ℕ × Value)) (v : Value) → Among (ps ++ qs) v → Among ps v ⊎ Among qs v
among_either [] qs v a = inr a
among_either (p ∷ ps) qs v (inl e) = inl (inl e)
among_either (p ∷ ps) qs v (inr a) = go (among_either ps qs v a)
  where
    go : Among ps v ⊎ Among qs v → Among (p ∷ ps) v ⊎ Among qs v
    go (inl b) = inl (inr b)
    go (inr b) = inr b

abbrev Stands : List Value → Value → Type 0
Stands vs v = (k : ℕ) × (slice_get vs k ≡ Some v)

among_sealed : (xs : List (List ℕ)) (vs : List Value) (v : Value) → Among (sealed_pairs xs vs) v → Stands vs v
among_sealed [] vs v a = absurd a
among_sealed (x ∷ xs) [] v a = absurd a
among_sealed (x ∷ xs) (u ∷ vs) v (inl e) = (0, ap Some e)
among_sealed (x ∷ xs) (u ∷ vs) v (inr a) = let s = among_sealed xs vs v a in (suc s.0, s.1)

abbrev IsNamed : List (List ℕ × Value) → Value → Type 0
IsNamed ps v = (k : ℕ) × (x : List ℕ) × (slice_get ps k ≡ Some (x, v))

among_named : (ps : List (List ℕ × Value)) (v : Value) → Among ps v → IsNamed ps v
among_named [] v a = absurd a
among_named (p ∷ ps) v (inl e) = (0, p.0, ap (λ z. Some (p.0, z)) e)
among_named (p ∷ ps) v (inr a) = let s = among_named ps v a in (suc s.0, s.1, s.2)

-- so it is null or held by the object
member_held : (t : Traits) (a : Node) (x : List ℕ) → (value_named x (members_of t a) ≡ leaf null) ⊎ Holds a (value_named x (members_of t a))
member_held t a x = go (last_among (leaf null) x (members_of t a))
  where
    v : Value
    v = value_named x (members_of t a)

    held : Among (sealed_pairs t.sealed a.values) v ⊎ Among a.names v → Holds a v
    held (inl b) = inl (among_sealed t.sealed a.values v b)
    held (inr b) = inr (among_named a.names v b)

    go : (v ≡ leaf null) ⊎ Among (members_of t a) v → (v ≡ leaf null) ⊎ Holds a v
    go (inl e) = inl e
    go (inr b) = inr (held (among_either (sealed_pairs t.sealed a.values) a.names v b))

-- The body of a call that is viewed.

abbrev HasBody : Value → Viewed → Type 0
HasBody v (request (remoting t operation)) = t.body ≡ v
HasBody v _ = Unit {0}

wrong_has : {X : Type 0} (v : Value) (m : Member) (o : Option X) (next : X → Viewed) → ((x : X) → HasBody v (next x)) → HasBody v (or_wrong m o next)
wrong_has v m None next f = tt
wrong_has v m (Some x) next f = f x

module _ (g : Graph) (ps : List (List ℕ × Value)) (next : Told → Viewed) where
  abbrev headers : Value
  headers = value_named headers_name ps

  abbrev all_told : (ds_id subtopic destination message client : List ℕ) → Told
  all_told ds_id subtopic destination message client = record { message = message; destination = destination; client = client; ds_id = ds_id; subtopic = subtopic; body = value_named body_name ps; headers = headers }

  abbrev at_client : (ds_id subtopic destination message : List ℕ) → Viewed
  at_client ds_id subtopic destination message = or_wrong member.ClientId (text_or_null (value_named client_name ps)) (λ client. next (all_told ds_id subtopic destination message client))

  abbrev at_message : (ds_id subtopic destination : List ℕ) → Viewed
  at_message ds_id subtopic destination = or_wrong member.MessageId (text_or_null (value_named message_name ps)) (at_client ds_id subtopic destination)

  abbrev at_destination : (ds_id subtopic : List ℕ) → Viewed
  at_destination ds_id subtopic = or_wrong member.Destination (text_or_null (value_named destination_name ps)) (at_message ds_id subtopic)

  abbrev at_subtopic : List (List ℕ × Value) → (ds_id : List ℕ) → Viewed
  at_subtopic hs ds_id = or_wrong member.DsSubtopic (text_or_null (value_named subtopic_name hs)) (at_destination ds_id)

  abbrev at_headers : List (List ℕ × Value) → Viewed
  at_headers hs = or_wrong member.DsId (text_or_null (value_named ds_id_name hs)) (at_subtopic hs)

  common_has : ((t : Told) → t.body ≡ value_named body_name ps → HasBody (value_named body_name ps) (next t)) → HasBody (value_named body_name ps) (common_view g ps next)
  common_has f =
      let v = value_named body_name ps in
      wrong_has v member.Headers (pairs_of g headers) at_headers (λ hs.
      wrong_has v member.DsId (text_or_null (value_named ds_id_name hs)) (at_subtopic hs) (λ ds_id.
      wrong_has v member.DsSubtopic (text_or_null (value_named subtopic_name hs)) (at_destination ds_id) (λ subtopic.
      wrong_has v member.Destination (text_or_null (value_named destination_name ps)) (at_message ds_id subtopic) (λ destination.
      wrong_has v member.MessageId (text_or_null (value_named message_name ps)) (at_client ds_id subtopic destination) (λ message.
      wrong_has v member.ClientId (text_or_null (value_named client_name ps)) (λ client. next (all_told ds_id subtopic destination message client)) (λ client.
      f (all_told ds_id subtopic destination message client) refl))))))

served_has : (g : Graph) (s : Option Served) (ps : List (List ℕ × Value)) → HasBody (value_named body_name ps) (served_view g s ps)
served_has g None ps = tt
served_has g (Some served.Remoting) ps =
    common_has g ps (λ t. or_wrong member.Operation (text_alone (value_named operation_name ps)) (λ o. request (remoting t o)))
    (λ t e. wrong_has (value_named body_name ps) member.Operation (text_alone (value_named operation_name ps)) (λ o. request (remoting t o)) (λ o. e))
served_has g (Some served.Command) ps =
    common_has g ps (λ t. or_wrong member.Operation (whole_number (value_named operation_name ps)) (λ o. request (command t o)))
    (λ t e. wrong_has (value_named body_name ps) member.Operation (whole_number (value_named operation_name ps)) (λ o. request (command t o)) (λ o. tt))
served_has g (Some served.Async) ps =
    common_has g ps (λ t. or_wrong member.CorrelationId (text_or_null (value_named correlation_name ps)) (λ o. request (async t o)))
    (λ t e. wrong_has (value_named body_name ps) member.CorrelationId (text_or_null (value_named correlation_name ps)) (λ o. request (async t o)) (λ o. tt))

pub kind_body : (g : Graph) (d : Head) (a : Node) (t : Told) (operation : List ℕ) → kind_view g d a ≡ request (remoting t operation) → (t.body ≡ leaf null) ⊎ Holds a t.body
kind_body g (object c) a t operation e =
    let same : t.body ≡ value_named body_name (members_of c a) = subst (HasBody (value_named body_name (members_of c a))) e (served_has g (served_class c.class) (members_of c a)) in
    subst (λ v. (v ≡ leaf null) ⊎ Holds a v) (sym same) (member_held c a body_name)
kind_body g _ a t operation e = absurd cc
