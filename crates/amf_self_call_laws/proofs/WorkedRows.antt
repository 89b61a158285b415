-- The worked rounds.
use Rattle.std.proofs.Common.{◌≡◌, ◌∙◌, ℕ, ◌<◌, ◌≤◌, false, true, List, [], ◌∷◌, ◌++◌, length, ap, refl, sym, subst, arith, length-append, Some}
use Rattle.std.specs.Prelude.{codes, decimal}
use Rattle.std.specs.Fmt.{digits}
use Rattle.std.specs.Int.Count.{count_leading_zeros}
use Rattle.std.proofs.lemmas.List.{append-nil}
use Rattle.amf_io.specs.Field.{Field, flat}
use Rattle.amf_wire.specs.Style.{canonical}
use Rattle.amf_wire.proofs.TextTest.{is_text-is}
use Rattle.amf_graph.specs.Graph.{Graph}
use Rattle.amf_graph.specs.Reached.{IsWhole}
use Rattle.amf3_spelling.specs.Spells3.{Spelled3}
use Rattle.amf_packet.specs.Packet.{SpelledPacket}
use Rattle.amf_service.specs.Shipped.{shipped}
use Rattle.amf_http.specs.Response.{response}
use Rattle.amf_http.specs.Table.{body_limit}
use Rattle.amf_client.specs.Asking.{head_with, packet_with, IsAsk}
use Rattle.amf_client.specs.Meant.{Means}
use Rattle.amf_client.specs.Outcomes.{Outcome, fault, result, answered}
use Rattle.amf_client.specs.Rows.{two_and_three, sum_call}
use Rattle.amf_client.proofs.AskLemmas.{packet_spelled}
use Rattle.amf_client.proofs.RowLemmas.{sum_asked}
use Rattle.amf_answer_plan.specs.Causes.{no_service}
use Rattle.amf_answer_plan.specs.Packets.{answer_to}
use Rattle.amf_answer_plan.specs.Runs.{IsPacked}
use Rattle.amf_answer_laws.proofs.BytePackets.{is_short, told}
use Rattle.amf_answer_laws.proofs.Speller.{spells}
use Rattle.amf_answer_laws.proofs.WholeTest.{whole_by}
use Rattle.amf_self_call_laws.specs.Round.{HasForm, reply_packet, HasResult}
use Rattle.amf_self_call_laws.specs.WorkedRounds.{nobody_call, five, sum_reply, nobody_reply, WorkedRounds}
use Rattle.amf_self_call_laws.proofs.Answered as answers
use Rattle.amf_self_call_laws.proofs.Answered.{AnswersWith, replies_with, short_told, reply_match}
use Rattle.amf_self_call_laws.proofs.Comes.{means_result, means_fault}
use Rattle.amf_self_call_laws.proofs.Packets.{message_of}
use Rattle.amf_self_call_laws.proofs.Read.{answer_begins}
use Rattle.amf_self_call_laws.proofs.Replied.{packed_itself}
use Rattle.amf_self_call_laws.proofs.Rounds.{results}
use Rattle.amf_self_call_laws.proofs.ShortFault.{value_bytes, the_fault, value_spelled}

abbrev argument_bytes : List ℕ
argument_bytes = 9 ∷ 5 ∷ 1 ∷ 4 ∷ 2 ∷ 4 ∷ 3 ∷ []

arguments_spelled : Spelled3 canonical two_and_three argument_bytes
arguments_spelled = spells 1 canonical two_and_three argument_bytes refl

arguments_whole : IsWhole two_and_three
arguments_whole = whole_by two_and_three refl

-- The calls.

abbrev nobody_packet : List ℕ
nobody_packet = packet_with (0 ∷ 9 ∷ []) (codes "nobody.op") argument_bytes

nobody_spelled : (item : List Field) → argument_bytes ≡ flat item → nobody_packet ≡ packet_with (0 ∷ 9 ∷ []) (codes "nobody.op") (flat item)
nobody_spelled item e = ap (packet_with (0 ∷ 9 ∷ []) (codes "nobody.op")) e

whole_call : nobody_call ≡ head_with (decimal 1) (decimal (length nobody_packet)) ++ nobody_packet
unfolding digits
whole_call = refl

nobody_asked : IsAsk 1 (codes "nobody.op") two_and_three nobody_call
nobody_asked =
    let x = arguments_spelled in
    record {
      packet = nobody_packet;
      spelled = packet_spelled (codes "nobody.op") two_and_three x.0 nobody_packet ((is_text-is (codes "nobody.op")).0 refl) (omega arith) x.1 (nobody_spelled x.0 x.2);
      whole = whole_call;
    }

short : (call packet head : List ℕ) → length call < 1000 → call ≡ head ++ packet → length packet ≤ body_limit
short call packet head few e = omega (arith, ap length e, length-append head packet, few)

-- The replies.

abbrev five_bytes : List ℕ
five_bytes = 0x05 ∷ 0x40 ∷ 0x14 ∷ 0 ∷ 0 ∷ 0 ∷ 0 ∷ 0 ∷ 0 ∷ []

abbrev five_form : HasForm five
five_form = (five_bytes, spells 0 canonical five five_bytes refl)

abbrev front : List ℕ → List ℕ
front target = 0 ∷ 3 ∷ 0 ∷ 0 ∷ 0 ∷ 1 ∷ 0 ∷ 11 ∷ target ++ 0 ∷ 4 ∷ codes "null" ++ 255 ∷ 255 ∷ 255 ∷ 255 ∷ 17 ∷ []

sum_packed : IsPacked (reply_packet true five) sum_reply
sum_packed = told (codes "/1/onResult") (codes "null") (is_short (codes "/1/onResult") refl (omega arith)) (is_short (codes "null") refl (omega arith)) (front (codes "/1/onResult")) (λ item. refl) 0 five five_bytes refl refl

fault_bytes_are : (item : List Field) → value_bytes ≡ flat item → flat (answers.fields_of (codes "/1/onStatus") item) ≡ nobody_reply
fault_bytes_are item e = ap (λ l. front (codes "/1/onStatus") ++ l) (ap flat (append-nil item) ∙ sym e)

nobody_reply_spelled : SpelledPacket canonical (reply_packet false the_fault) nobody_reply
nobody_reply_spelled =
    let x = value_spelled in
    subst (λ b. SpelledPacket canonical (reply_packet false the_fault) b) (fault_bytes_are x.0 x.2)
    (answers.packet_spelled (codes "/1/onStatus") (codes "null") (is_short (codes "/1/onStatus") refl (omega arith)) (is_short (codes "null") refl (omega arith)) the_fault x.0 x.1)

nobody_packed : IsPacked (reply_packet false the_fault) nobody_reply
nobody_packed = (reply_packet false the_fault, reply_match false the_fault (value_bytes, value_spelled), nobody_reply_spelled)

-- What is answered.

sum_answers : AnswersWith shipped (answer_to shipped (message_of (codes "sum.sum") (codes "/1") two_and_three)) (response 200 sum_reply false)
unfolding count_leading_zeros
sum_answers k s = (Some five_bytes, five_form.1, replies_with shipped true five sum_reply sum_packed k s)

nobody_answers : AnswersWith shipped (answer_to shipped (message_of (codes "nobody.op") (codes "/1") two_and_three)) (response 200 nobody_reply false)
nobody_answers k s = replies_with shipped false the_fault nobody_reply nobody_packed k s

-- What is read.

reads : (reply : List ℕ) (o : Outcome Graph) → length reply ≤ body_limit → Means reply o → HasResult (response 200 reply false) o
reads reply o fits means = results (response 200 reply false) o (answered reply (answer_begins reply (omega (arith, fits))) means)

pub rows : WorkedRounds
rows = record {
  sum_asked = sum_asked;
  sum_answered = short_told shipped (codes "sum.sum") two_and_three arguments_whole 1 (omega arith) sum_call sum_asked (omega arith) (response 200 sum_reply false) sum_answers (short sum_call sum_asked.packet (head_with (decimal 1) (decimal (length sum_asked.packet))) (omega arith) sum_asked.whole);
  sum_read = reads sum_reply (result five) (omega arith) (means_result five five_form sum_reply (packed_itself (codes "/1/onResult") (codes "null") five sum_reply 3 sum_packed));
  nobody_asked = nobody_asked;
  nobody_answered = short_told shipped (codes "nobody.op") two_and_three arguments_whole 1 (omega arith) nobody_call nobody_asked (omega arith) (response 200 nobody_reply false) nobody_answers (short nobody_call nobody_asked.packet (head_with (decimal 1) (decimal (length nobody_asked.packet))) (omega arith) nobody_asked.whole);
  nobody_read = reads nobody_reply (fault no_service.code no_service.text) (omega arith) (means_fault no_service nobody_reply nobody_reply_spelled);
}
