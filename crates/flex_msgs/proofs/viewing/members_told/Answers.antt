-- Each member is asked for in turn.
use Rattle.std.proofs.Common.{◌≡◌, List, ℕ, Option, Some, None, ap, sym, ◌∙◌}
use Rattle.std.specs.Option.{option_map}
use Rattle.std.proofs.lemmas.Result.{err_from_is_err_and}
use Rattle.amf_graph.specs.declared.value.Value.{Value as Stored}
use Rattle.amf_graph.specs.declared.value.TextId.{TextId}
use Rattle.amf_graph.specs.Graph.{Value}
use Rattle.amf_graph.specs.Arena.{value_content}
use Rattle.amf_graph.specs.Rooted.{content}
use Rattle.amf_graph.specs.Views.{named}
use Rattle.flex_msgs.specs.declared.request.Member.TheVariants as member
use Rattle.flex_msgs.specs.Classes.{client_name, destination_name, ds_id_name, headers_name, message_name, subtopic_name}
use Rattle.flex_msgs.specs.Lookup.{value_named, pairs_of}
use Rattle.flex_msgs.specs.KeptPairs.{pairs_content}
use Rattle.flex_msgs.specs.Viewing.{text_or_null, common_view}
use Rattle.flex_msgs.proofs.Telling.{all_told, no_destination, no_message, no_client, refused}
use Rattle.flex_msgs.proofs.viewing.members_told.Goals as goal

pub returns-clause-ok : goal.returns-clause-ok
returns-clause-ok c = λ next.
    let a = c.args.graph.now.arena in
    let g = content c.args.graph.now in
    let ps = pairs_content a (named c.args.pairs.now) in
    let hs = pairs_content a (named c.in-Some.found.items) in
    let e : pairs_of g (value_named headers_name ps) ≡ Some hs = ap (pairs_of g) (sym c.value_named-headers.ensures.value) ∙ sym c.in_ok-found.ensures.pairs ∙ ap (option_map _) c.in-Some.is in
    let f : text_or_null (value_named ds_id_name hs) ≡ Some c.in_ok-ds_id.ds_id = ap (λ (xs : List (TextId × Stored)). text_or_null (value_named ds_id_name (pairs_content a (named xs)))) (sym c.deref.ensures.value) ∙ c.in_ok-ds_id.ensures.ok in
    let h : text_or_null (value_named subtopic_name hs) ≡ Some c.in_ok-subtopic.subtopic = ap (λ (xs : List (TextId × Stored)). text_or_null (value_named subtopic_name (pairs_content a (named xs)))) (sym c.deref-2.ensures.value) ∙ c.in_ok-subtopic.ensures.ok in
    all_told g ps next hs e c.in_ok-ds_id.ds_id f c.in_ok-subtopic.subtopic h c.in_ok-destination.destination c.in_ok-destination.ensures.ok c.in_ok-message.message c.in_ok-message.ensures.ok c.in_ok-client.client c.in_ok-client.ensures.ok
    ∙ ap (λ (v : Value). next (record { message = c.in_ok-message.message; destination = c.in_ok-destination.destination; client = c.in_ok-client.client; ds_id = c.in_ok-ds_id.ds_id; subtopic = c.in_ok-subtopic.subtopic; body = v; headers = value_named headers_name ps })) (sym c.value_named-body.ensures.value)
    ∙ ap (λ (v : Value). next (record { message = c.in_ok-message.message; destination = c.in_ok-destination.destination; client = c.in_ok-client.client; ds_id = c.in_ok-ds_id.ds_id; subtopic = c.in_ok-subtopic.subtopic; body = value_content a c.value_named-body.result; headers = v })) (sym c.value_named-headers.ensures.value)

pub returns-in_err-destination-clause-err : goal.returns-in_err-destination-clause-err
returns-in_err-destination-clause-err c =
    let a = c.args.graph.now.arena in
    let g = content c.args.graph.now in
    let ps = pairs_content a (named c.args.pairs.now) in
    let hs = pairs_content a (named c.in-Some.found.items) in
    let e : pairs_of g (value_named headers_name ps) ≡ Some hs = ap (pairs_of g) (sym c.value_named-headers.ensures.value) ∙ sym c.in_ok-found.ensures.pairs ∙ ap (option_map _) c.in-Some.is in
    let f : text_or_null (value_named ds_id_name hs) ≡ Some c.in_ok-ds_id.ds_id = ap (λ (xs : List (TextId × Stored)). text_or_null (value_named ds_id_name (pairs_content a (named xs)))) (sym c.deref.ensures.value) ∙ c.in_ok-ds_id.ensures.ok in
    let h : text_or_null (value_named subtopic_name hs) ≡ Some c.in_ok-subtopic.subtopic = ap (λ (xs : List (TextId × Stored)). text_or_null (value_named subtopic_name (pairs_content a (named xs)))) (sym c.deref-2.ensures.value) ∙ c.in_ok-subtopic.ensures.ok in
    let p = err_from_is_err_and c.from_residual-in_err-destination.result c.from_residual-in_err-destination.ensures.1 in
    rw (p.1, p.2) (λ next. refused c.in_err-destination.field-0.0 member.Destination (text_or_null (value_named destination_name ps)) (common_view g ps next) c.in_err-destination.ensures.err (λ o. no_destination g ps next hs e c.in_ok-ds_id.ds_id f c.in_ok-subtopic.subtopic h o))

pub returns-in_err-message-clause-err : goal.returns-in_err-message-clause-err
returns-in_err-message-clause-err c =
    let a = c.args.graph.now.arena in
    let g = content c.args.graph.now in
    let ps = pairs_content a (named c.args.pairs.now) in
    let hs = pairs_content a (named c.in-Some.found.items) in
    let e : pairs_of g (value_named headers_name ps) ≡ Some hs = ap (pairs_of g) (sym c.value_named-headers.ensures.value) ∙ sym c.in_ok-found.ensures.pairs ∙ ap (option_map _) c.in-Some.is in
    let f : text_or_null (value_named ds_id_name hs) ≡ Some c.in_ok-ds_id.ds_id = ap (λ (xs : List (TextId × Stored)). text_or_null (value_named ds_id_name (pairs_content a (named xs)))) (sym c.deref.ensures.value) ∙ c.in_ok-ds_id.ensures.ok in
    let h : text_or_null (value_named subtopic_name hs) ≡ Some c.in_ok-subtopic.subtopic = ap (λ (xs : List (TextId × Stored)). text_or_null (value_named subtopic_name (pairs_content a (named xs)))) (sym c.deref-2.ensures.value) ∙ c.in_ok-subtopic.ensures.ok in
    let p = err_from_is_err_and c.from_residual-in_err-message.result c.from_residual-in_err-message.ensures.1 in
    rw (p.1, p.2) (λ next. refused c.in_err-message.field-0.0 member.MessageId (text_or_null (value_named message_name ps)) (common_view g ps next) c.in_err-message.ensures.err (λ o. no_message g ps next hs e c.in_ok-ds_id.ds_id f c.in_ok-subtopic.subtopic h c.in_ok-destination.destination c.in_ok-destination.ensures.ok o))

pub returns-in_err-client-clause-err : goal.returns-in_err-client-clause-err
returns-in_err-client-clause-err c =
    let a = c.args.graph.now.arena in
    let g = content c.args.graph.now in
    let ps = pairs_content a (named c.args.pairs.now) in
    let hs = pairs_content a (named c.in-Some.found.items) in
    let e : pairs_of g (value_named headers_name ps) ≡ Some hs = ap (pairs_of g) (sym c.value_named-headers.ensures.value) ∙ sym c.in_ok-found.ensures.pairs ∙ ap (option_map _) c.in-Some.is in
    let f : text_or_null (value_named ds_id_name hs) ≡ Some c.in_ok-ds_id.ds_id = ap (λ (xs : List (TextId × Stored)). text_or_null (value_named ds_id_name (pairs_content a (named xs)))) (sym c.deref.ensures.value) ∙ c.in_ok-ds_id.ensures.ok in
    let h : text_or_null (value_named subtopic_name hs) ≡ Some c.in_ok-subtopic.subtopic = ap (λ (xs : List (TextId × Stored)). text_or_null (value_named subtopic_name (pairs_content a (named xs)))) (sym c.deref-2.ensures.value) ∙ c.in_ok-subtopic.ensures.ok in
    let p = err_from_is_err_and c.from_residual-in_err-client.result c.from_residual-in_err-client.ensures.1 in
    rw (p.1, p.2) (λ next. refused c.in_err-client.field-0.0 member.ClientId (text_or_null (value_named client_name ps)) (common_view g ps next) c.in_err-client.ensures.err (λ o. no_client g ps next hs e c.in_ok-ds_id.ds_id f c.in_ok-subtopic.subtopic h c.in_ok-destination.destination c.in_ok-destination.ensures.ok c.in_ok-message.message c.in_ok-message.ensures.ok o))
