-- A test of each message.
use Rattle.std.proofs.Common.{◌∙◌, List, ap, rules, tests}
use Rattle.std.specs.List.{list_any}
use Rattle.std.proofs.lemmas.Iterator.{YieldsList-from_slice}
use Rattle.std.proofs.lemmas.Iterator.Search.{any_from_yields_List}
use Rattle.amf_packet.specs.declared.packet.Message.{Message as KeptMessage}
use Rattle.amf_packet.specs.Content.{message_of}
use Rattle.amf_answer_plan.specs.Packets.{is_long}
use Rattle.amf_gateway.proofs.Answering.{any_told}
use Rattle.amf_gateway.proofs.packets.has_long_uri.Goals as goal

pub returns : goal.returns
returns c =
    let ms = c.args.packet.now.messages in
    any_from_yields_List (λ (m : KeptMessage). is_long (message_of m)) _ _ c.any.result c.any.ensures.ran (YieldsList-from_slice c.as_slice-messages.result.now cc) (λ x b q k. search (rules, tests))
    ∙ ap (λ (xs : List KeptMessage). list_any (λ m. is_long (message_of m)) xs) c.as_slice-messages.ensures ∙ any_told ms
