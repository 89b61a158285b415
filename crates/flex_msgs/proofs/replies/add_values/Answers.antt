-- The texts are added one after another.
use Rattle.std.proofs.Common.{[], ◌∷◌, ◌++◌, length, pos, ap, ◌∙◌}
use Rattle.amf_graph.specs.declared.value.Value.TheVariants.{Integer, Double}
use Rattle.flex_msgs.proofs.Written.{names_then, names_later, values_later}
use Rattle.flex_msgs.proofs.Answering.{values_known}
use Rattle.flex_msgs.specs.Messages.{text_of, client_value}
use Rattle.flex_msgs.proofs.replies.add_values.Goals as goal

pub returns-clause-writes : goal.returns-clause-writes
returns-clause-writes c =
    let a = c.args.builder.now in
    let b = c.add_client.new.builder in
    let d = c.add_text.new.builder in
    let e = c.add_text-2.new.builder in
    let f = c.add_text-3.new.builder in
    names_then a b f c.in_ok-client.ensures.writes (names_then b d f c.in_ok-destination.ensures.writes (names_then d e f c.in_ok-message.ensures.writes c.in_ok-correlation.ensures.writes))

pub returns-clause-values : goal.returns-clause-values
returns-clause-values c =
    let r = c.args.reply.now in
    let a = c.args.builder.now in
    let b = c.add_client.new.builder in
    let d = c.add_text.new.builder in
    let e = c.add_text-2.new.builder in
    let f = c.add_text-3.new.builder in
    let ef = c.in_ok-correlation.ensures.writes in
    let df = names_then d e f c.in_ok-message.ensures.writes ef in
    let bf = names_then b d f c.in_ok-destination.ensures.writes df in
    let af = names_then a b f c.in_ok-client.ensures.writes bf in
    values_known f r c.args.body c.in_ok-client.client c.in_ok-destination.destination c.args.headers c.in_ok-message.message c.in_ok-correlation.correlation c.stamp_of.result c.extend_from_slice.new.self.items
    (c.in_ok-extend_from_slice.ensures.items ∙ ap (λ w. w ++ (c.args.body ∷ c.in_ok-client.client ∷ c.in_ok-destination.destination ∷ c.args.headers ∷ c.in_ok-message.message ∷ Integer (pos 0) ∷ Double c.stamp_of.result ∷ c.in_ok-correlation.correlation ∷ [])) c.new-values.ensures.items)
    (names_later a f 0 (λ h. []) c.args.body af c.requires.body)
    (values_later b f 0 (λ h. []) (c.in_ok-client.client ∷ []) (λ h. client_value r.client ∷ []) bf c.in_ok-client.ensures.value)
    (values_later d f 0 (λ h. []) (c.in_ok-destination.destination ∷ []) (λ h. text_of r.destination ∷ []) df c.in_ok-destination.ensures.value)
    (names_later a f 0 (λ h. []) c.args.headers af c.requires.headers)
    (values_later e f 0 (λ h. []) (c.in_ok-message.message ∷ []) (λ h. text_of r.message ∷ []) ef c.in_ok-message.ensures.value)
    c.stamp_of.ensures.range c.stamp_of.ensures.stamp c.in_ok-correlation.ensures.value

pub returns-clause-count : goal.returns-clause-count
returns-clause-count c = ap length (c.in_ok-extend_from_slice.ensures.items ∙ ap (λ w. w ++ (c.args.body ∷ c.in_ok-client.client ∷ c.in_ok-destination.destination ∷ c.args.headers ∷ c.in_ok-message.message ∷ Integer (pos 0) ∷ Double c.stamp_of.result ∷ c.in_ok-correlation.correlation ∷ [])) c.new-values.ensures.items)
