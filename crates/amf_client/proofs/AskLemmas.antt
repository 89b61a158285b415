-- The bytes of a call are the canonical spelling of its packet.
use Rattle.std.proofs.Common.{◌≡◌, ◌∙◌, ℕ, ◌<◌, ◌^◌, List, [], ◌∷◌, ◌++◌, length, ap, sym, refl, append_assoc, arith}
use Rattle.std.specs.Prelude.{codes, false}
use Rattle.std.specs.Int.{to_be_bytes, w16, w32}
use Rattle.std.proofs.lemmas.List.{append-nil}
use Rattle.amf_io.specs.Field.{Field, Kind, flat, field, contents, text_kind, u16_kind, u32_kind, no_refusal}
use Rattle.amf_io.proofs.Paths.{flat-append}
use Rattle.amf_wire.specs.Style.{canonical}
use Rattle.amf_wire.specs.Text.{IsText}
use Rattle.amf_wire.proofs.TextTest.{is_text-is}
use Rattle.amf_graph.specs.Graph.{Graph}
use Rattle.amf3_spelling.specs.Spells3.{IsSpelling3}
use Rattle.amf0_spelling.specs.Segments0.{Short, marker0_field}
use Rattle.amf0_spelling.specs.Tables0.{no_tables0}
use Rattle.amf_packet.specs.Packet.{SpelledPacket, version_refusal}
use Rattle.amf_client.specs.Asking.{call_packet, packet_with}

flat_contents : (kind : ℕ → Kind) (x : List ℕ) → flat (contents kind x) ≡ x
flat_contents kind [] = refl
flat_contents kind (b ∷ x) = append-nil (b ∷ x)

abbrev two : ℕ → Field
two n = field (u16_kind no_refusal) (to_be_bytes w16 n)

abbrev short_fields : List ℕ → List Field
short_fields x = two (length x) ∷ contents text_kind x

response_is : Short (codes "/1") (short_fields (codes "/1"))
response_is = ((is_text-is (codes "/1")).0 refl, omega arith, refl)

-- behind the target: the response, the length and the value
abbrev behind : List Field → List Field
behind item = short_fields (codes "/1") ++ (field (u32_kind no_refusal) (to_be_bytes w32 0xFFFFFFFF) ∷ marker0_field false no_tables0 0x11 ∷ item)

abbrev message_fields : List ℕ → List Field → List Field
message_fields target item = short_fields target ++ behind item

abbrev all_fields : List ℕ → List Field → List Field
all_fields target item = field (u16_kind version_refusal) (to_be_bytes w16 3) ∷ two 0 ∷ two 1 ∷ message_fields target item

flat_message : (target : List ℕ) (item : List Field) → flat (message_fields target item) ≡ to_be_bytes w16 (length target) ++ (target ++ flat (behind item))
flat_message target item =
    flat-append (short_fields target) (behind item)
    ∙ ap (λ l. (to_be_bytes w16 (length target) ++ l) ++ flat (behind item)) (flat_contents text_kind target)
    ∙ append_assoc (to_be_bytes w16 (length target)) target (flat (behind item))

pub packet_spelled : (target : List ℕ) (g : Graph) (item : List Field) (bytes : List ℕ) → IsText target → length target < 2 ^ 16 → IsSpelling3 canonical g item
    → bytes ≡ packet_with (to_be_bytes w16 (length target)) target (flat item) → SpelledPacket canonical (call_packet target g) bytes
packet_spelled target g item bytes text short spelled is =
    let m = message_fields target item in (
      all_fields target item,
      (
        field (u16_kind version_refusal) (to_be_bytes w16 3) ∷ [],
        two 0 ∷ two 1 ∷ m,
        refl,
        (refl, refl),
        (
          two 0 ∷ [],
          two 1 ∷ m,
          refl,
          (two 0 ∷ [], [], refl, (omega arith, refl), refl),
          (
            two 1 ∷ [],
            m,
            refl,
            (omega arith, refl),
            (
              m,
              [],
              sym (append-nil m),
              (
                short_fields target,
                behind item,
                refl,
                (text, short, refl),
                (
                  short_fields (codes "/1"),
                  field (u32_kind no_refusal) (to_be_bytes w32 0xFFFFFFFF) ∷ marker0_field false no_tables0 0x11 ∷ item,
                  refl,
                  response_is,
                  (
                    field (u32_kind no_refusal) (to_be_bytes w32 0xFFFFFFFF) ∷ [],
                    marker0_field false no_tables0 0x11 ∷ item,
                    refl,
                    (0xFFFFFFFF, omega arith, refl, refl),
                    (item, refl, spelled),
                  ),
                ),
              ),
              refl,
            ),
          ),
        ),
      ),
      is ∙ sym (ap (λ l. 0 ∷ 3 ∷ 0 ∷ 0 ∷ 0 ∷ 1 ∷ l) (flat_message target item)),
    )

-- the arguments stand behind what comes before them
pub packet_more : (size target args : List ℕ) → packet_with size target [] ++ args ≡ packet_with size target args
packet_more size target args =
    ap (λ l. 0 ∷ 3 ∷ 0 ∷ 0 ∷ 0 ∷ 1 ∷ l) (append_assoc size (target ++ (0 ∷ 2 ∷ 47 ∷ 49 ∷ 255 ∷ 255 ∷ 255 ∷ 255 ∷ 17 ∷ [])) args ∙ ap (λ l. size ++ l) (append_assoc target (0 ∷ 2 ∷ 47 ∷ 49 ∷ 255 ∷ 255 ∷ 255 ∷ 255 ∷ 17 ∷ []) args))

-- the bytes of a request, a piece at a time
pub pieces : (lines media size digits end packet e0 e1 e2 e3 e4 e5 e6 : List ℕ) → e0 ≡ lines → e1 ≡ e0 ++ media → e2 ≡ e1 ++ size → e3 ≡ e2 ++ digits → e4 ≡ e3 ++ end → e5 ≡ e4 ++ end → e6 ≡ e5 ++ packet
    → e6 ≡ (((lines ++ media) ++ ((size ++ digits) ++ end)) ++ end) ++ packet
pieces lines media size digits end packet e0 e1 e2 e3 e4 e5 e6 i0 i1 i2 i3 i4 i5 i6 =
    let two : e1 ≡ lines ++ media = i1 ∙ ap (λ l. l ++ media) i0 in
    let four : e3 ≡ ((lines ++ media) ++ size) ++ digits = i3 ∙ ap (λ l. l ++ digits) (i2 ∙ ap (λ l. l ++ size) two) in
    let five : e4 ≡ (lines ++ media) ++ ((size ++ digits) ++ end) =
    i4 ∙ ap (λ l. l ++ end) (four ∙ append_assoc (lines ++ media) size digits) ∙ append_assoc (lines ++ media) (size ++ digits) end in
    i6 ∙ ap (λ l. l ++ packet) (i5 ∙ ap (λ l. l ++ end) five)
