use Rattle.std.proofs.Common.{ℕ, ◌==◌, List, [], ◌∷◌, ◌++◌, length, Some, refl, arith, if◌then◌else◌}
use Rattle.std.specs.Prelude.{codes}
use Rattle.std.specs.Fmt.{digits}
use Rattle.uuid.specs.Text.{by_index}
use Rattle.amf_graph.specs.Graph.{Graph}
use Rattle.amf_wire.specs.Style.{free, canonical}
use Rattle.amf0_spelling.specs.declared.form.Form.TheVariants.{Call}
use Rattle.amf_broker.specs.declared.reply.Reply.TheVariants.{Client, Subscribed, Published, Batch}
use Rattle.amf_packet.specs.Packet.{Packet}
use Rattle.flex_msgs.specs.Answers.{published_graph}
use Rattle.flex_msgs.specs.Messages.{text_of, null_value}
use Rattle.flex_msgs.specs.WorkedFlex.{told_by}
use Rattle.amf_answer_plan.specs.Plan.{at_end}
use Rattle.amf_answer_laws.specs.Tried as given
use Rattle.amf_answer_laws.specs.WorkedClient.{first_id, one, chat, supply, zeros, stored, synced, acknowledged}
use Rattle.amf_answer_laws.specs.WorkedClient as client
use Rattle.amf_answer_laws.specs.WorkedBytes.{asks, tells, ping_bytes, subscribe_bytes, publish_bytes, poll_bytes, ping_told, subscribe_told, publish_told, stored_bytes, poll_told, no_news_told, for_body, delivery}
use Rattle.amf_answer_laws.proofs.BytePackets.{packet_with, is_short, called, told}
use Rattle.amf_answer_laws.proofs.Computed.{tried_runs}
use Rattle.amf_answer_laws.proofs.Speller.{spells}
use Rattle.amf_answer_laws.proofs.facts.byte_rows.Goals as goal

abbrev gets : Packet → (Graph → List ℕ) → (answer : List ℕ) → given.Answers
gets packet spelled answer = record { spelled = λ how g. Some (spelled g); stored = λ message. Some stored; cut = λ bytes. at_end; unpacked = λ bytes. Some packet; packed = λ p. answer }

-- a message to store has three nodes, and its answer two
abbrev of_publish : Graph → List ℕ
of_publish g = if length g.nodes == 3 then stored_bytes else publish_told

pub returns : goal.returns
unfolding by_index digits
returns c = record {
  ping = tried_runs (gets (packet_with (codes "null") (codes "/1") Call client.ping) (λ g. ping_told) (tells (codes "1") ++ ping_told)) (for_body (asks (codes "1") ++ ping_bytes)) (supply zeros zeros (Client 1 ∷ [])) (
    called (codes "null") (codes "/1") (is_short (codes "null") refl (omega arith)) (is_short (codes "/1") refl (omega arith)) (asks (codes "1")) (λ item. refl) 2 client.ping ping_bytes refl refl,
    (
      spells 2 canonical (acknowledged null_value [] one first_id) ping_told refl,
      (told (codes "/1/onResult") (codes "null") (is_short (codes "/1/onResult") refl (omega arith)) (is_short (codes "null") refl (omega arith)) (tells (codes "1")) (λ item. refl) 2 (acknowledged null_value [] one first_id) ping_told refl refl, tt),
    ),
  );
  subscribe = tried_runs (gets (packet_with (codes "null") (codes "/2") Call client.subscribe) (λ g. subscribe_told) (tells (codes "2") ++ subscribe_told)) (for_body (asks (codes "2") ++ subscribe_bytes)) (supply zeros zeros (Subscribed 1 ∷ [])) (
    called (codes "null") (codes "/2") (is_short (codes "null") refl (omega arith)) (is_short (codes "/2") refl (omega arith)) (asks (codes "2")) (λ item. refl) 2 client.subscribe subscribe_bytes refl refl,
    (
      spells 2 canonical (acknowledged (text_of one) chat one (codes "m2")) subscribe_told refl,
      (told (codes "/2/onResult") (codes "null") (is_short (codes "/2/onResult") refl (omega arith)) (is_short (codes "null") refl (omega arith)) (tells (codes "2")) (λ item. refl) 2 (acknowledged (text_of one) chat one (codes "m2")) subscribe_told refl refl, tt),
    ),
  );
  publish = tried_runs (gets (packet_with (codes "null") (codes "/3") Call client.publish) of_publish (tells (codes "3") ++ publish_told)) (for_body (asks (codes "3") ++ publish_bytes)) (supply zeros zeros (Published 1 [] ∷ [])) (
    called (codes "null") (codes "/3") (is_short (codes "null") refl (omega arith)) (is_short (codes "/3") refl (omega arith)) (asks (codes "3")) (λ item. refl) 2 client.publish publish_bytes refl refl,
    (
      spells 2 canonical (published_graph client.publish (told_by (codes "m3") chat one (text_of (codes "hi"))) [] 0) stored_bytes refl,
      (
        spells 2 canonical (acknowledged null_value chat one (codes "m3")) publish_told refl,
        (told (codes "/3/onResult") (codes "null") (is_short (codes "/3/onResult") refl (omega arith)) (is_short (codes "null") refl (omega arith)) (tells (codes "3")) (λ item. refl) 2 (acknowledged null_value chat one (codes "m3")) publish_told refl refl, tt),
      ),
    ),
  );
  poll = tried_runs (gets (packet_with (codes "null") (codes "/4") Call (client.poll (codes "m4"))) (λ g. poll_told) (tells (codes "4") ++ poll_told)) (for_body (asks (codes "4") ++ poll_bytes (codes "m4"))) (supply zeros zeros (Batch (delivery ∷ []) [] ∷ [])) (
    called (codes "null") (codes "/4") (is_short (codes "null") refl (omega arith)) (is_short (codes "/4") refl (omega arith)) (asks (codes "4")) (λ item. refl) 2 (client.poll (codes "m4")) (poll_bytes (codes "m4")) refl refl,
    (
      (spells 2 free stored stored_bytes refl, refl),
      (
        spells 4 canonical synced poll_told refl,
        (told (codes "/4/onResult") (codes "null") (is_short (codes "/4/onResult") refl (omega arith)) (is_short (codes "null") refl (omega arith)) (tells (codes "4")) (λ item. refl) 4 synced poll_told refl refl, tt),
      ),
    ),
  );
  poll_again = tried_runs (gets (packet_with (codes "null") (codes "/5") Call (client.poll (codes "m5"))) (λ g. no_news_told) (tells (codes "5") ++ no_news_told)) (for_body (asks (codes "5") ++ poll_bytes (codes "m5"))) (supply zeros zeros (Batch [] [] ∷ [])) (
    called (codes "null") (codes "/5") (is_short (codes "null") refl (omega arith)) (is_short (codes "/5") refl (omega arith)) (asks (codes "5")) (λ item. refl) 2 (client.poll (codes "m5")) (poll_bytes (codes "m5")) refl refl,
    (
      spells 2 canonical (acknowledged null_value [] one (codes "m5")) no_news_told refl,
      (told (codes "/5/onResult") (codes "null") (is_short (codes "/5/onResult") refl (omega arith)) (is_short (codes "null") refl (omega arith)) (tells (codes "5")) (λ item. refl) 2 (acknowledged null_value [] one (codes "m5")) no_news_told refl refl, tt),
    ),
  );
}
