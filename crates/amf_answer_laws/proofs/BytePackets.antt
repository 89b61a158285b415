-- Packets of version 3 with one message, put together from the bytes of its value.
use Rattle.std.proofs.Common.{◌≡◌, ℕ, ◌<◌, ◌^◌, true, false, List, [], ◌∷◌, ◌++◌, length, append-nil, Some, refl, sym, ap, ◌∙◌, arith}
use Rattle.std.specs.Int.{to_be_bytes, w16, w32}
use Rattle.amf_io.specs.Field.{Field, flat, field, contents, text_kind, u16_kind, u32_kind, no_refusal}
use Rattle.amf_wire.specs.Style.{Style, free, canonical}
use Rattle.amf_wire.specs.Text.{is_text}
use Rattle.amf_wire.proofs.TextTest.{is_text-is}
use Rattle.amf_graph.specs.Graph.{Graph}
use Rattle.amf3_spelling.proofs.Decides3.{same_bytes_isomorphic}
use Rattle.amf0_spelling.specs.declared.form.Form.{Form}
use Rattle.amf0_spelling.specs.declared.form.Form.TheVariants.{Call, Amf3}
use Rattle.amf0_spelling.specs.Segments0.{Short, marker0_field}
use Rattle.amf0_spelling.specs.Tables0.{no_tables0}
use Rattle.amf_packet.specs.Packet.{Message, Packet, Beside, BodyBy, LengthBy, HeaderBy, MessageBy, ListBy, VersionBy, SpellsPacket, SpelledPacket, version_refusal, call_fields}
use Rattle.amf_answer_plan.specs.Runs.{IsUnpacked, IsPacked}
use Rattle.amf_answer_laws.proofs.Speller.{bytes_by, spells}
use Rattle.amf_answer_laws.proofs.WholeTest.{a_whole_graph, is_there, whole_by}

abbrev pub short_fields : List ℕ → List Field
short_fields x = field (u16_kind no_refusal) (to_be_bytes w16 (length x)) ∷ contents text_kind x

abbrev pub version_fields : List Field
version_fields = field (u16_kind version_refusal) (to_be_bytes w16 3) ∷ []

abbrev pub count_fields : ℕ → List Field
count_fields n = field (u16_kind no_refusal) (to_be_bytes w16 n) ∷ []

abbrev pub length_fields : List Field
length_fields = field (u32_kind no_refusal) (to_be_bytes w32 0xFFFFFFFF) ∷ []

abbrev pub message_fields : (target response : List ℕ) → List Field → List Field
message_fields target response fs = short_fields target ++ (short_fields response ++ (length_fields ++ fs))

abbrev pub packet_fields : (target response : List ℕ) → List Field → List Field
packet_fields target response fs = version_fields ++ ((count_fields 0 ++ []) ++ (count_fields 1 ++ (message_fields target response fs ++ [])))

abbrev pub packet_with : (target response : List ℕ) → Form → Graph → Packet
packet_with target response form g = record { version = 3; headers = []; messages = record { target = target; response = response; body = record { form = form; graph = g } } ∷ [] }

beside : (P Q : List Field → Type 0) (front back : List Field) → P front → Q back → Beside P Q (front ++ back)
beside P Q front back p q = (front, back, refl, p, q)

length_is : (s : Style) → LengthBy s length_fields
length_is free = (0xFFFFFFFF, omega arith, tt, refl)
length_is canonical = (0xFFFFFFFF, omega arith, refl, refl)

one : (P : Message → List Field → Type 0) (x : Message) (fs : List Field) → P x fs → ListBy P (x ∷ []) (count_fields 1 ++ (fs ++ []))
one P x fs p = (count_fields 1, fs ++ [], refl, (omega arith, refl), (fs, [], refl, p, refl))

none : (s : Style) → ListBy (HeaderBy s) [] (count_fields 0 ++ [])
none s = (count_fields 0, [], refl, (omega arith, refl), refl)

packet_spelled : (s : Style) (target response : List ℕ) → Short target (short_fields target) → Short response (short_fields response) → (form : Form) (g : Graph) (fs : List Field) → BodyBy s form g fs → SpellsPacket s (packet_with target response form g) (packet_fields target response fs)
packet_spelled s target response t r form g fs b =
    beside (VersionBy 3) (Beside (ListBy (HeaderBy s) []) (ListBy (MessageBy s) (packet_with target response form g).messages)) version_fields ((count_fields 0 ++ []) ++ (count_fields 1 ++ (message_fields target response fs ++ []))) (refl, refl)
    (beside (ListBy (HeaderBy s) []) (ListBy (MessageBy s) (packet_with target response form g).messages) (count_fields 0 ++ []) (count_fields 1 ++ (message_fields target response fs ++ [])) (none s)
    (one (MessageBy s) (record { target = target; response = response; body = record { form = form; graph = g } }) (message_fields target response fs)
    (beside (Short target) _ (short_fields target) (short_fields response ++ (length_fields ++ fs)) t
    (beside (Short response) _ (short_fields response) (length_fields ++ fs) r
    (beside (LengthBy s) (BodyBy s form g) length_fields fs (length_is s) b)))))

-- a short text by its tests
pub is_short : (x : List ℕ) → is_text x ≡ true → length x < 2 ^ 16 → Short x (short_fields x)
is_short x e l = ((is_text-is x).0 e, l, refl)

-- a call by the bytes of its item
pub called : (target response : List ℕ) → Short target (short_fields target) → Short response (short_fields response) → (front : List ℕ) → ((item : List Field) → flat (packet_fields target response (call_fields ++ item)) ≡ front ++ flat (item ++ [])) →
    (n : ℕ) (g : Graph) (b : List ℕ) → bytes_by n free g ≡ Some b → is_there (a_whole_graph g) ≡ true → IsUnpacked (packet_with target response Call g) (front ++ b)
called target response t r front f n g b e w =
    let x = spells n free g b e in
    let item = x.0 in
    let spelled : SpelledPacket free (packet_with target response Call g) (front ++ b) = (
      packet_fields target response (call_fields ++ item),
      packet_spelled free target response t r Call g (call_fields ++ item) (item, refl, x.1),
      ap (λ z. front ++ z) (x.2 ∙ sym (ap flat (append-nil item))) ∙ sym (f item),
    ) in
    (spelled, record { messages = (whole_by g w, tt) })

-- an answer by the bytes of its value
pub told : (target response : List ℕ) → Short target (short_fields target) → Short response (short_fields response) → (front : List ℕ) → ((item : List Field) → flat (packet_fields target response (marker0_field false no_tables0 0x11 ∷ item)) ≡ front ++ flat (item ++ [])) →
    (n : ℕ) (g : Graph) (b : List ℕ) → bytes_by n canonical g ≡ Some b → bytes_by n free g ≡ Some b → IsPacked (packet_with target response Amf3 g) (front ++ b)
told target response t r front f n g b e d =
    let x = spells n canonical g b e in
    let y = spells n free g b d in
    let item = x.0 in (
      packet_with target response Amf3 g,
      record { version = refl; headers = tt; messages = (record { target = refl; response = refl; body = record { form = refl; graph = same_bytes_isomorphic g g b y y } }, tt) },
      (
        packet_fields target response (marker0_field false no_tables0 0x11 ∷ item),
        packet_spelled canonical target response t r Amf3 g (marker0_field false no_tables0 0x11 ∷ item) (item, refl, x.1),
        ap (λ z. front ++ z) (x.2 ∙ sym (ap flat (append-nil item))) ∙ sym (f item),
      ),
    )
