-- The reply that there is no such service is short.
use Rattle.std.proofs.Common.{◌≡◌, ◌∙◌, ℕ, suc, ◌+◌, ◌≤◌, false, List, [], ◌∷◌, ◌++◌, length, ap, refl, subst, arith, length-append, Option, Some, None}
use Rattle.std.specs.Prelude.{codes}
use Rattle.amf_io.specs.Field.{Field, flat}
use Rattle.amf_io.proofs.Paths.{flat-append}
use Rattle.amf_wire.specs.Style.{canonical}
use Rattle.amf_graph.specs.Graph.{Value, node, Head, object, Graph}
use Rattle.amf3_spelling.specs.Segments3.{Lifted, segments_of}
use Rattle.amf3_spelling.specs.Headers3.{HeaderBy}
use Rattle.amf3_spelling.specs.Spells3.{SpellsIn, Spelled3}
use Rattle.amf3_spelling.specs.Tables.{Tables, no_tables, add_node}
use Rattle.amf3_spelling.proofs.Build.{Built, both, lifted, a_node, absent_nil}
use Rattle.amf3_spelling.proofs.Decides3.{canonical_is_alone}
use Rattle.amf0_spelling.specs.declared.form.Form.TheVariants.{Amf3}
use Rattle.amf0_spelling.specs.Segments0.{Short}
use Rattle.amf_packet.specs.Packet.{Message, Beside, Each, BodyBy, LengthBy, HeaderBy as HeaderOf, MessageBy, VersionBy, CountBy, ListBy, SpelledPacket}
use Rattle.flex_msgs.specs.Classes.{plain_traits}
use Rattle.amf_client.specs.Table.{body_limit}
use Rattle.amf_answer_plan.specs.Causes.{no_service}
use Rattle.amf_answer_plan.specs.Packets.{message_back}
use Rattle.amf_answer_plan.specs.PlainCalls.{fault_node, fault_graph}
use Rattle.amf_answer_plan.specs.Replies.{in_amf3}
use Rattle.amf_answer_laws.proofs.Speller.{and_then, less, no_empty, the_header, a_value, all_segments}
use Rattle.amf_self_call_laws.specs.Round.{reply_packet}

-- The bytes of the fault.

abbrev pub value_bytes : List ℕ
value_bytes =
    0x0A ∷ 0x0B ∷ 0x01 ∷ 0x09 ∷ codes "code" ++ 0x06 ∷ 0x21 ∷ codes "Client.NoService" ++ 0x17 ∷ codes "description" ++ 0x06 ∷ 0x1F ∷ codes "no such service" ++ 0x0B ∷ codes "level" ++ 0x06 ∷ 0x0B ∷ codes "error" ++ 0x01 ∷ []

abbrev pub the_fault : Graph
the_fault = fault_graph no_service

abbrev names : List (List ℕ × Value)
names = (fault_node no_service).names

abbrev its_head : Head
its_head = object plain_traits

abbrev tables : Tables
tables = add_node no_tables 0

abbrev built : Option (Built (SpellsIn 1 canonical the_fault (node 0)) no_tables)
built =
    and_then (the_header canonical its_head [] tables.words) (λ h.
    and_then (less h.number 128) (λ few.
    let front : Built (Lifted (HeaderBy canonical its_head [] h.number)) tables = lifted (HeaderBy canonical its_head [] h.number) tables h.built in
    and_then (all_segments (SpellsIn 0 canonical the_fault) (a_value 0 canonical the_fault) canonical (segments_of its_head names []) front.after) (λ b.
    Some (a_node 0 canonical the_fault 0 no_tables names h.number (omega arith) (absent_nil 0) (refl, tt) refl refl (no_empty _ _, (no_empty _ _, (no_empty _ _, tt))) few (both _ _ tables front b)))))

abbrev bytes_of : Option (Built (SpellsIn 1 canonical the_fault (node 0)) no_tables) → Option (List ℕ)
bytes_of None = None
bytes_of (Some x) = Some (flat x.fields)

spelled_by : (o : Option (Built (SpellsIn 1 canonical the_fault (node 0)) no_tables)) (b : List ℕ) → bytes_of o ≡ Some b → Spelled3 canonical the_fault b
spelled_by None b e = absurd cc
spelled_by (Some x) b e = let same : flat x.fields ≡ b = cc in subst (λ z. Spelled3 canonical the_fault z) same (x.fields, (x.after, (1, x.spelled)), refl)

pub value_spelled : Spelled3 canonical the_fault value_bytes
value_spelled = spelled_by built value_bytes refl

-- How many bytes the parts of the packet have.

abbrev Sized : (List Field → Type 0) → ℕ → Type 0
Sized P n = (fs : List Field) → P fs → length (flat fs) ≡ n

both_sized : (P Q : List Field → Type 0) (n m : ℕ) → Sized P n → Sized Q m → Sized (Beside P Q) (n + m)
both_sized P Q n m p q fs (f, b, e, x, y) = ap (λ l. length (flat l)) e ∙ ap length (flat-append f b) ∙ omega (arith, length-append (flat f) (flat b), p f x, q b y)

none_sized : {X : Type 0} (P : X → List Field → Type 0) → Sized (Each P []) 0
none_sized P fs e = ap (λ l. length (flat l)) e

version_sized : Sized (VersionBy 3) 2
version_sized fs x = ap (λ l. length (flat l)) x.1

count_sized : (n : ℕ) → Sized (CountBy n) 2
count_sized n fs x = ap (λ l. length (flat l)) x.1

target_sized : Sized (Short (codes "/1/onStatus")) 13
target_sized fs x = ap (λ l. length (flat l)) x.2

response_sized : Sized (Short (codes "null")) 6
response_sized fs x = ap (λ l. length (flat l)) x.2

length_sized : Sized (LengthBy canonical) 4
length_sized fs (n, l, o, e) = ap (λ l. length (flat l)) e

body_sized : Sized (BodyBy canonical Amf3 the_fault) (1 + length value_bytes)
body_sized fs (item, e, s) = ap (λ l. length (flat l)) e ∙ ap (λ l. suc (length l)) (canonical_is_alone the_fault (flat item) value_bytes (item, s, refl) value_spelled)

abbrev the_message : Message
the_message = message_back (codes "/1") (in_amf3 false the_fault)

abbrev ValueBy : List Field → Type 0
ValueBy = Beside (LengthBy canonical) (BodyBy canonical Amf3 the_fault)

message_sized : Sized (MessageBy canonical the_message) (13 + (6 + (4 + (1 + length value_bytes))))
message_sized =
    both_sized (Short (codes "/1/onStatus")) (Beside (Short (codes "null")) ValueBy) 13 (6 + (4 + (1 + length value_bytes))) target_sized
    (both_sized (Short (codes "null")) ValueBy 6 (4 + (1 + length value_bytes)) response_sized
    (both_sized (LengthBy canonical) (BodyBy canonical Amf3 the_fault) 4 (1 + length value_bytes) length_sized body_sized))

abbrev message_size : ℕ
message_size = 13 + (6 + (4 + (1 + length value_bytes)))

pub short_fault : (b : List ℕ) → SpelledPacket canonical (reply_packet false (fault_graph no_service)) b → length b ≤ body_limit
short_fault b (fs, p, e) =
    let whole : length (flat fs) ≡ 2 + ((2 + 0) + (2 + (message_size + 0))) =
    both_sized (VersionBy 3) (Beside (ListBy (HeaderOf canonical) []) (ListBy (MessageBy canonical) (the_message ∷ []))) 2 ((2 + 0) + (2 + (message_size + 0))) version_sized
    (both_sized (ListBy (HeaderOf canonical) []) (ListBy (MessageBy canonical) (the_message ∷ [])) (2 + 0) (2 + (message_size + 0))
    (both_sized (CountBy 0) (Each (HeaderOf canonical) []) 2 0 (count_sized 0) (none_sized (HeaderOf canonical)))
    (both_sized (CountBy 1) (Each (MessageBy canonical) (the_message ∷ [])) 2 (message_size + 0) (count_sized 1)
    (both_sized (MessageBy canonical the_message) (Each (MessageBy canonical) []) message_size 0 message_sized (none_sized (MessageBy canonical))))) fs p in
    omega (arith, whole, ap length e)
