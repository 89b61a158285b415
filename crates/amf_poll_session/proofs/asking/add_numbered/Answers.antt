-- The headers of a poll are added.
use Rattle.std.proofs.Common.{refl, ap, ◌∙◌}
use Rattle.std.specs.Prelude.{codes}
use Rattle.amf_wire.proofs.TextTest.{is_text-is}
use Rattle.amf_graph.specs.Building.{kept_text}
use Rattle.flex_msgs.specs.Classes.{ds_id_name}
use Rattle.amf_poll_session.proofs.Requests.{numbered_written}
use Rattle.amf_poll_session.proofs.asking.add_numbered.Goals as goal

pub text-requires-2 : goal.text-requires-2
text-requires-2 c = (is_text-is ds_id_name).0 refl

pub text-requires-4 : goal.text-requires-4
text-requires-4 c = (is_text-is (codes "AMFPoll")).0 refl

pub returns : goal.returns
returns c =
    numbered_written c.args.builder.now c.text.new.self c.text-2.new.self c.text-3.new.self c.text-4.new.self c.text-5.new.self c.traits.new.self c.add_object.new.builder c.args.ds_id.now c.args.number.now
    c.in_ok-class.class c.in_ok-name.name c.in_ok-text.text c.in_ok-poll.poll c.in_ok-digits.digits c.in_ok-traits.traits.0 c.in_ok-node.node
    c.in_ok-class.ensures.ok c.in_ok-class.ensures.id c.in_ok-name.ensures.ok c.in_ok-name.ensures.id (c.in_ok-text.ensures.ok ∙ ap (kept_text c.text-2.new.self) c.as_bytes.ensures) c.in_ok-text.ensures.id
    c.in_ok-poll.ensures.ok c.in_ok-poll.ensures.id (c.in_ok-digits.ensures.ok ∙ ap (kept_text c.text-4.new.self) c.as_bytes-2.ensures) c.in_ok-digits.ensures.id
    c.in_ok-traits.ensures.ok c.in_ok-traits.ensures.id c.in_ok-node.ensures.ok c.in_ok-node.ensures.id
