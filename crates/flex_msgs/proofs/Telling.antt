-- What every message has is asked for step by step.
use Rattle.std.proofs.Common.{◌≡◌, ℕ, List, Option, Some, None, refl, sym, ap, ◌∙◌}
use Rattle.amf_graph.specs.Graph.{Value, Graph}
use Rattle.flex_msgs.specs.declared.request.Member.{Member}
use Rattle.flex_msgs.specs.declared.request.Member.TheVariants as member
use Rattle.flex_msgs.specs.declared.not_a_message.NotAMessage.{NotAMessage}
use Rattle.flex_msgs.specs.declared.not_a_message.NotAMessage.TheVariants.{NotObject, NotServed, WrongKind, Memory}
use Rattle.flex_msgs.specs.declared.class.Served.{Served}
use Rattle.flex_msgs.specs.declared.class.Served.TheVariants.{Remoting, Command, Async}
use Rattle.flex_msgs.specs.Classes.{body_name, client_name, correlation_name, destination_name, headers_name, message_name, operation_name, ds_id_name, subtopic_name}
use Rattle.flex_msgs.specs.Asked.{Told, Viewed, wrong_kind, request, remoting, command, async}
use Rattle.flex_msgs.specs.Lookup.{value_named, pairs_of}
use Rattle.flex_msgs.specs.Viewing.{text_or_null, text_alone, whole_number, or_wrong, common_view, served_view, Refuses}
use Rattle.flex_msgs.specs.Wrong.{IsWrong}

module _ (g : Graph) (ps : List (List ℕ × Value)) (next : Told → Viewed) where
  pub no_headers : pairs_of g (value_named headers_name ps) ≡ None → common_view g ps next ≡ wrong_kind member.Headers
  no_headers e = rw e refl

  module _ (hs : List (List ℕ × Value)) (e : pairs_of g (value_named headers_name ps) ≡ Some hs) where
    pub no_ds_id : text_or_null (value_named ds_id_name hs) ≡ None → common_view g ps next ≡ wrong_kind member.DsId
    no_ds_id f = rw (e, f) refl

    module _ (a : List ℕ) (f : text_or_null (value_named ds_id_name hs) ≡ Some a) where
      pub no_subtopic : text_or_null (value_named subtopic_name hs) ≡ None → common_view g ps next ≡ wrong_kind member.DsSubtopic
      no_subtopic h = rw (e, f, h) refl

      module _ (b : List ℕ) (h : text_or_null (value_named subtopic_name hs) ≡ Some b) where
        pub no_destination : text_or_null (value_named destination_name ps) ≡ None → common_view g ps next ≡ wrong_kind member.Destination
        no_destination i = rw (e, f, h, i) refl

        module _ (d : List ℕ) (i : text_or_null (value_named destination_name ps) ≡ Some d) where
          pub no_message : text_or_null (value_named message_name ps) ≡ None → common_view g ps next ≡ wrong_kind member.MessageId
          no_message j = rw (e, f, h, i, j) refl

          module _ (m : List ℕ) (j : text_or_null (value_named message_name ps) ≡ Some m) where
            pub no_client : text_or_null (value_named client_name ps) ≡ None → common_view g ps next ≡ wrong_kind member.ClientId
            no_client k = rw (e, f, h, i, j, k) refl

            pub all_told : (c : List ℕ) → text_or_null (value_named client_name ps) ≡ Some c → common_view g ps next ≡ next (record { message = m; destination = d; client = c; ds_id = a; subtopic = b; body = value_named body_name ps; headers = value_named headers_name ps })
            all_told c k = rw (e, f, h, i, j, k) refl

-- a member of another kind is what is refused
pub refused : (e : NotAMessage) (m : Member) (o : Option (List ℕ)) (v : Viewed) → IsWrong e m o → (o ≡ None → v ≡ wrong_kind m) → Refuses v e
refused NotObject m o v h f = absurd h
refused NotServed m o v h f = absurd h
refused (WrongKind k) m o v h f = f h.1 ∙ ap wrong_kind (sym h.0)
refused Memory m o v h f = tt

module _ (g : Graph) (ps : List (List ℕ × Value)) where
  abbrev rest_of : Served → Told → Viewed
  rest_of Remoting t = or_wrong member.Operation (text_alone (value_named operation_name ps)) (λ o. request (remoting t o))
  rest_of Command t = or_wrong member.Operation (whole_number (value_named operation_name ps)) (λ o. request (command t o))
  rest_of Async t = or_wrong member.CorrelationId (text_or_null (value_named correlation_name ps)) (λ c. request (async t c))

  pub class_refused : (k : Served) (e : NotAMessage) → ((next : Told → Viewed) → Refuses (common_view g ps next) e) → Refuses (served_view g (Some k) ps) e
  class_refused Remoting e f = f (rest_of Remoting)
  class_refused Command e f = f (rest_of Command)
  class_refused Async e f = f (rest_of Async)

  module _ (k : Served) (is : k ≡ Async) (t : Told) (f : (next : Told → Viewed) → common_view g ps next ≡ next t) where
    pub no_correlation : text_or_null (value_named correlation_name ps) ≡ None → served_view g (Some k) ps ≡ wrong_kind member.CorrelationId
    no_correlation e = ap (λ z. served_view g (Some z) ps) is ∙ f (rest_of Async) ∙ ap (λ o. or_wrong member.CorrelationId o (λ c. request (async t c))) e

    pub correlated : (x : List ℕ) → text_or_null (value_named correlation_name ps) ≡ Some x → served_view g (Some k) ps ≡ request (async t x)
    correlated x e = ap (λ z. served_view g (Some z) ps) is ∙ f (rest_of Async) ∙ ap (λ o. or_wrong member.CorrelationId o (λ c. request (async t c))) e
