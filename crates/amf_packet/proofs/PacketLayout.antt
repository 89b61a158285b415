-- The layouts of packets, and of their parts, are those of what is accepted.
use Rattle.std.proofs.Common.{◌≡◌, ℕ, zero, suc, ◌<◌, ◌^◌, Bool, true, false, if◌then◌else◌, List, [], ◌∷◌, ◌++◌, length, slice_index, Option, Some, None, refl, sym, ap, ◌∙◌, subst, arith}
use Rattle.std.proofs.lemmas.Nat.{from_be_bytes-to_be_bytes_2, be_bytes_2}
use Rattle.std.specs.Int.{from_be_bytes, to_be_bytes, w16, w32}
use Rattle.amf_wire.specs.Style.{free}
use Rattle.amf_wire.specs.Text.{IsText}
use Rattle.amf_io.specs.declared.reason.Reason.{Reason}
use Rattle.amf_io.specs.declared.reason.Reason.TheVariants.{BadVersion}
use Rattle.amf_io.specs.Field.{Kind, Field, flat, field, whole, contents, raw_kind, text_kind, u16_kind, u32_kind, no_refusal, AreBytes}
use Rattle.amf_io.specs.Layout.{Layout, want, Runs, IsLayout}
use Rattle.amf_io.proofs.Ables.{able_give}
use Rattle.amf_io.proofs.Bytes.{bytes_front, bytes_back}
use Rattle.amf_io.proofs.Combine.{Both, both, Times, nothing, mapped, Headed, headed_layout}
use Rattle.amf_io.proofs.Paths.{extends_same}
use Rattle.amf_io.proofs.Whole.{whole_fixed}
use Rattle.amf_graph.specs.Graph.{Graph}
use Rattle.amf3_layout_laws.specs.Layout3Words.{chunk}
use Rattle.amf3_spelling.proofs.Clean.{contents_clean, text_field}
use Rattle.amf3_layout_laws.proofs.Layout3Fills.{Filled, text_filled, raw_filled, able_field, able_chunk}
use Rattle.amf3_layout_laws.proofs.Layout3Parts.{chunk_runs}
use Rattle.amf3_layout_laws.proofs.Layout3SoundOpenings.{all_below, Chunk, chunk_taken}
use Rattle.amf3_layout_laws.proofs.Layout3SoundTexts.{taken, texts_are}
use Rattle.amf0_spelling.specs.declared.form.Form.{Form}
use Rattle.amf0_spelling.specs.declared.form.Form.TheVariants.{Call, Amf3, Plain}
use Rattle.amf0_spelling.specs.Form.{IsForm}
use Rattle.amf0_spelling.specs.Segments0.{Short}
use Rattle.amf0_spelling.specs.Values0.{IsValue0}
use Rattle.amf0_spelling.specs.Spells0.{Spells0}
use Rattle.amf0_spelling.specs.Tables0.{Tables0, no_tables0}
use Rattle.amf0_layout_laws.specs.Layout0.{ValueRead0, value0_layout}
use Rattle.amf0_spelling.proofs.Forms0.{forms}
use Rattle.amf0_layout_laws.proofs.Layout0Format.{values0_is_layout}
use Rattle.amf0_layout_laws.proofs.Layout0SoundParts.{u32_is, empty_text}
use Rattle.amf_packet.specs.Packet.{Body, Header, Message, Each, call_fields, CallBy, FormBy, BodyBy, LengthBy, MustBy, HeaderBy, MessageBy, is_version, version_refusal, VersionBy, ListBy, IsPacketReading}
use Rattle.amf_packet.specs.LayoutPacket.{BareLayout, done, and_then, name_layout, must_layout, length_layout, no_state0, body_layout, header_layout, message_layout, version_layout, times, list_layout, packet_layout}
use Rattle.amf3_spelling.proofs.Lighter3.{flat_bytes, bytes_joined, bytes3}
use Rattle.amf_packet.proofs.CallItems.{CallItem, call_item, call_runs}

-- the same lists, of bytes
pub layout_as : {X : Type 0} (t : ℕ → Layout X) (P Q : List Field → Type 0) → IsLayout t P → ((fs : List Field) → AreBytes (flat fs) → P fs → Q fs) → ((fs : List Field) → Q fs → P fs) → IsLayout t Q
layout_as t P Q a to from = record { sound = λ n fs x b r. to fs b (a.sound n fs x b r); complete = λ n fs q lt. a.complete n fs (from fs q) lt; grows = a.grows; able = a.able }

-- One field.

-- bytes that are a field of the kind
pub record OneField (k : Kind) (fs : List Field) : Type 0 where
  pub bytes : List ℕ
  pub only : fs ≡ field k bytes ∷ []
  pub is_whole : whole k.size bytes ≡ Some (length bytes)
  pub clean : k.refusal bytes ≡ None

field_sound : (k : Kind) (fs : List Field) (x : Unit {0}) → Runs (want k (λ b. done)) fs x → OneField k fs
field_sound k [] x r = absurd cc
field_sound k (f ∷ []) x r = record { bytes = f.bytes; only = ap (λ g. g ∷ []) (taken k f r.0); is_whole = r.0.is_whole; clean = r.0.clean }
field_sound k (f ∷ g ∷ fs) x r = absurd r.1

pub field_layout : (k : Kind) → Filled k → IsLayout (λ n. want k (λ b. done)) (OneField k)
field_layout k fill = record {
  sound = λ n fs x b r. field_sound k fs x r;
  complete = λ n fs p lt. (tt, subst (λ l. Runs (want k (λ b. done)) l tt) (sym p.only) (record { is_kind = refl; is_whole = p.is_whole; clean = p.clean }, refl));
  grows = λ n m le. (refl, λ b. refl);
  able = λ n. able_field n k (λ b. done) fill (λ b w c. able_give n tt);
}

only_bytes : (k : Kind) (fs : List Field) (p : OneField k fs) → AreBytes (flat fs) → AreBytes p.bytes
only_bytes k fs p b = bytes_front p.bytes [] (subst (λ l. AreBytes (flat l)) p.only b)

one_byte : (b : List ℕ) → length b ≡ 1 → b ≡ slice_index b 0 ∷ []
one_byte [] e = absurd (omega arith)
one_byte (x ∷ []) e = refl
one_byte (x ∷ y ∷ b) e = absurd (omega arith)

-- the flag of a header
abbrev MustRead : List Field → Type 0
MustRead fs = (must : Bool) × MustBy free must fs

flag_is : (m : ℕ) (fs : List Field) → m < 256 → fs ≡ field (raw_kind 1) (m ∷ []) ∷ [] → MustRead fs
flag_is zero fs l e = (false, (0, (refl, l, tt), e))
flag_is (suc m) fs l e = (true, (suc m, (omega arith, l, tt), e))

must_read : (fs : List Field) → AreBytes (flat fs) → OneField (raw_kind 1) fs → MustRead fs
must_read fs b p =
    let one = one_byte p.bytes (sym (whole_fixed 1 p.bytes (length p.bytes) p.is_whole)) in
    let small : slice_index p.bytes 0 < 256 = (subst AreBytes one (only_bytes (raw_kind 1) fs p b)).0 in
    flag_is (slice_index p.bytes 0) fs small (p.only ∙ ap (λ l. field (raw_kind 1) l ∷ []) one)

must_is_layout : IsLayout (λ n. must_layout) MustRead
must_is_layout = layout_as (λ n. must_layout) (OneField (raw_kind 1)) MustRead (field_layout (raw_kind 1) (raw_filled 0)) must_read
    (λ fs p. record { bytes = p.1.0 ∷ []; only = p.1.2; is_whole = refl; clean = refl })

-- a length
u32_filled : Filled (u32_kind no_refusal)
u32_filled = record { bytes = 0 ∷ 0 ∷ 0 ∷ 0 ∷ []; is_whole = refl; clean = refl; are_bytes = (omega arith, (omega arith, (omega arith, (omega arith, tt)))) }

length_read : (fs : List Field) → AreBytes (flat fs) → OneField (u32_kind no_refusal) fs → LengthBy free fs
length_read fs b p =
    let h = u32_is (field (u32_kind no_refusal) p.bytes) (record { is_kind = refl; is_whole = p.is_whole; clean = p.clean }) (only_bytes (u32_kind no_refusal) fs p b) in
    (from_be_bytes w32 p.bytes, h.1, tt, p.only ∙ ap (λ f. f ∷ []) h.0)

length_is_layout : IsLayout (λ n. length_layout) (LengthBy free)
length_is_layout = layout_as (λ n. length_layout) (OneField (u32_kind no_refusal)) (LengthBy free) (field_layout (u32_kind no_refusal) u32_filled) length_read
    (λ fs p. record { bytes = to_be_bytes w32 p.0; only = p.3; is_whole = refl; clean = refl })

-- a version
pub u16_is : (refusal : ℕ → Option Reason) (b : List ℕ) → length b ≡ 2 → AreBytes b → (to_be_bytes w16 (from_be_bytes w16 b) ≡ b) × (from_be_bytes w16 b < 2 ^ 16)
u16_is refusal b long h =
    let fits = all_below b h in
    (be_bytes_2 b (from_be_bytes w16 b) long fits refl, (let p = fits 0 in let q = fits 1 in omega (arith, p, q)))

known_version : (v : ℕ) (t : Bool) → is_version v ≡ t → (if t then None else Some BadVersion) ≡ None → is_version v ≡ true
known_version v true e c = e
known_version v false e c = absurd (let h : ◌≡◌ {A = Option Reason} (Some BadVersion) None = c in cc)

version_small : (v : ℕ) → is_version v ≡ true → v < 2 ^ 16
version_small v e = grind arith

abbrev VersionRead : List Field → Type 0
VersionRead fs = (v : ℕ) × VersionBy v fs

version_filled : Filled (u16_kind version_refusal)
version_filled = record { bytes = 0 ∷ 0 ∷ []; is_whole = refl; clean = refl; are_bytes = (omega arith, (omega arith, tt)) }

version_read : (fs : List Field) → AreBytes (flat fs) → OneField (u16_kind version_refusal) fs → VersionRead fs
version_read fs b p =
    let v = from_be_bytes w16 p.bytes in
    let h = u16_is version_refusal p.bytes (sym (whole_fixed 2 p.bytes (length p.bytes) p.is_whole)) (only_bytes (u16_kind version_refusal) fs p b) in
    (v, (known_version v (is_version v) refl p.clean, p.only ∙ ap (λ l. field (u16_kind version_refusal) l ∷ []) (sym h.0)))

version_taken : (fs : List Field) → VersionRead fs → OneField (u16_kind version_refusal) fs
version_taken fs p = record {
  bytes = to_be_bytes w16 p.0;
  only = p.1.1;
  is_whole = refl;
  clean = ap version_refusal (from_be_bytes-to_be_bytes_2 p.0 (version_small p.0 p.1.0)) ∙ ap (λ (t : Bool). if t then None else Some BadVersion) p.1.0;
}

version_is_layout : IsLayout (λ n. version_layout) VersionRead
version_is_layout = layout_as (λ n. version_layout) (OneField (u16_kind version_refusal)) VersionRead (field_layout (u16_kind version_refusal) version_filled) version_read version_taken

-- A name.

abbrev NameRead : List Field → Type 0
NameRead fs = (x : List ℕ) × Short x fs

abbrev name_behind : List ℕ → BareLayout
name_behind b = chunk text_kind (from_be_bytes w16 b) (λ x. done)

name_sound : (fs : List Field) (x : Unit {0}) → AreBytes (flat fs) → Runs name_layout fs x → NameRead fs
name_sound [] x b r = absurd cc
name_sound (f ∷ fs) x b r =
    let h = u16_is no_refusal f.bytes (sym (whole_fixed 2 f.bytes (length f.bytes) r.0.is_whole)) (bytes_front f.bytes (flat fs) b) in
    let k : Chunk text_kind IsText (from_be_bytes w16 f.bytes) (λ y. tt) fs x = chunk_taken text_kind IsText (from_be_bytes w16 f.bytes) (λ y. tt) fs x (λ n. refl) empty_text (λ n y e c. texts_are.texts n y c) (bytes_back f.bytes (flat fs) b) r.1 in
    let start : f ≡ field (u16_kind no_refusal) (to_be_bytes w16 (length k.bytes)) = taken (u16_kind no_refusal) f r.0 ∙ ap (field (u16_kind no_refusal)) (sym h.0 ∙ ap (to_be_bytes w16) (sym k.long)) in
    (k.bytes, (k.good, (let l = k.long in let m = h.1 in omega (arith, l, m)), ap (λ g. g ∷ fs) start ∙ ap (λ l. field (u16_kind no_refusal) (to_be_bytes w16 (length k.bytes)) ∷ l) k.fields))

name_runs : (x : List ℕ) (fs : List Field) → Short x fs → Runs name_layout fs tt
name_runs x fs h =
    subst (λ l. Runs name_layout l tt) (sym h.2) (
      record { is_kind = refl; is_whole = refl; clean = refl },
      subst (λ n. Runs (chunk text_kind n (λ y. done)) (contents text_kind x) tt) (sym (from_be_bytes-to_be_bytes_2 (length x) h.1)) (chunk_runs text_kind x (λ y. tt) (contents_clean text_kind x (text_field x h.0))),
    )

u16_filled : Filled (u16_kind no_refusal)
u16_filled = record { bytes = 0 ∷ 0 ∷ []; is_whole = refl; clean = refl; are_bytes = (omega arith, (omega arith, tt)) }

pub name_is_layout : IsLayout (λ n. name_layout) NameRead
name_is_layout = record {
  sound = λ n fs x b r. name_sound fs x b r;
  complete = λ n fs p lt. (tt, name_runs p.0 fs p.1);
  grows = λ n m le. extends_same name_layout;
  able = λ n. able_field n (u16_kind no_refusal) name_behind u16_filled (λ b w c. able_chunk n text_kind (from_be_bytes w16 b) (λ x. tt) (λ j e. text_filled j));
}

-- A value.

abbrev BodyRead : List Field → Type 0
BodyRead fs = (b : Body) × BodyBy free b.form b.graph fs

spelled_body : (g : Graph) (t : Tables0) (fs : List Field) → Spells0 free g g.root no_tables0 fs t → (form : Form) → IsForm form t.switched (flat fs) → BodyRead fs
spelled_body g t fs s Call f =
    let c : CallItem g.nodes g.root g.root fs = call_item g.nodes g.root g.root fs t s f in
    (record { form = Call; graph = record { nodes = g.nodes; root = c.item } }, (c.rest, c.fields, c.spelled c.item))
spelled_body g t fs s Amf3 f = (record { form = Amf3; graph = g }, (t, s, f))
spelled_body g t fs s Plain f = (record { form = Plain; graph = g }, (t, s, f))

body_read : (fs : List Field) → AreBytes (flat fs) → IsValue0 fs → BodyRead fs
body_read fs b p =
    let s = p in
    let f = forms.some_form s.1.0.switched (flat fs) in
    spelled_body s.0 s.1.0 fs s.1.1 f.0 f.1

call_bytes : (g : Graph) (fs : List Field) → CallBy free g fs → AreBytes (flat fs)
call_bytes g fs (item, e, (t, s)) = subst (λ l. AreBytes (flat l)) (sym e) (flat_bytes (call_fields ++ item) (bytes_joined call_fields item ((omega arith, tt), ((omega arith, (omega arith, (omega arith, (omega arith, tt)))), ((omega arith, tt), tt))) (bytes3 free g g.root _ item t s)))

form_value : (g : Graph) (form : Form) (fs : List Field) → FormBy form g fs → IsValue0 fs
form_value g form fs (t, s, f) = (g, (t, s))

call_value : (g : Graph) (fs : List Field) → CallBy free g fs → IsValue0 fs
call_value g fs c =
    let n = suc (length (flat fs)) in
    let r : (y : ValueRead0) × Runs (value0_layout n false no_state0) fs y = subst (λ l. (y : ValueRead0) × Runs (value0_layout n false no_state0) l y) (sym c.1) (call_runs n g c.0 c.2 (subst (λ (l : List Field). length (flat l) < n) c.1 (omega arith))) in
    values0_is_layout.sound n fs r.0 (call_bytes g fs c) r.1

body_value : (form : Form) (g : Graph) (fs : List Field) → BodyBy free form g fs → IsValue0 fs
body_value Call g fs p = call_value g fs p
body_value Amf3 g fs p = form_value g Amf3 fs p
body_value Plain g fs p = form_value g Plain fs p

pub body_is_layout : IsLayout body_layout BodyRead
body_is_layout = layout_as body_layout IsValue0 BodyRead (mapped (λ n. value0_layout n false no_state0) IsValue0 (λ x. tt) values0_is_layout) body_read (λ fs p. body_value p.0.form p.0.graph fs p.1)

-- Headers and messages.

both_parts : (t u : ℕ → BareLayout) (P Q : List Field → Type 0) → IsLayout t P → IsLayout u Q → IsLayout (λ n. and_then (t n) (u n)) (Both P Q)
both_parts t u P Q a b = both t (λ n x. u n) P Q a (λ x. b)

abbrev HeaderRead : List Field → Type 0
HeaderRead fs = (h : Header) × HeaderBy free h fs

abbrev MessageRead : List Field → Type 0
MessageRead fs = (m : Message) × MessageBy free m fs

pub header_is_layout : IsLayout header_layout HeaderRead
header_is_layout = layout_as header_layout (Both NameRead (Both MustRead (Both (LengthBy free) BodyRead))) HeaderRead
    (both_parts (λ n. name_layout) (λ n. and_then must_layout (and_then length_layout (body_layout n))) NameRead (Both MustRead (Both (LengthBy free) BodyRead)) name_is_layout
    (both_parts (λ n. must_layout) (λ n. and_then length_layout (body_layout n)) MustRead (Both (LengthBy free) BodyRead) must_is_layout
    (both_parts (λ n. length_layout) body_layout (LengthBy free) BodyRead length_is_layout body_is_layout)))
    (λ fs b p. let m = p.second in let l = m.second in (
      record { name = p.first.0; must = m.first.0; body = l.second.0 },
      (p.front, p.back, p.parts, p.first.1, (m.front, m.back, m.parts, m.first.1, (l.front, l.back, l.parts, l.first, l.second.1))),
    ))
    (λ fs (h, (front, back, parts, first, (f2, b2, p2, m, (f3, b3, p3, l, v)))). record {
      front = front;
      back = back;
      parts = parts;
      first = (h.name, first);
      second = record { front = f2; back = b2; parts = p2; first = (h.must, m); second = record { front = f3; back = b3; parts = p3; first = l; second = (h.body, v) } };
    })

pub message_is_layout : IsLayout message_layout MessageRead
message_is_layout = layout_as message_layout (Both NameRead (Both NameRead (Both (LengthBy free) BodyRead))) MessageRead
    (both_parts (λ n. name_layout) (λ n. and_then name_layout (and_then length_layout (body_layout n))) NameRead (Both NameRead (Both (LengthBy free) BodyRead)) name_is_layout
    (both_parts (λ n. name_layout) (λ n. and_then length_layout (body_layout n)) NameRead (Both (LengthBy free) BodyRead) name_is_layout
    (both_parts (λ n. length_layout) body_layout (LengthBy free) BodyRead length_is_layout body_is_layout)))
    (λ fs b p. let m = p.second in let l = m.second in (
      record { target = p.first.0; response = m.first.0; body = l.second.0 },
      (p.front, p.back, p.parts, p.first.1, (m.front, m.back, m.parts, m.first.1, (l.front, l.back, l.parts, l.first, l.second.1))),
    ))
    (λ fs (h, (front, back, parts, first, (f2, b2, p2, m, (f3, b3, p3, l, v)))). record {
      front = front;
      back = back;
      parts = parts;
      first = (h.target, first);
      second = record { front = f2; back = b2; parts = p2; first = (h.response, m); second = record { front = f3; back = b3; parts = p3; first = l; second = (h.body, v) } };
    })

-- Lists.

module _ {X : Type 0} (P : X → List Field → Type 0) where
  abbrev OneRead : List Field → Type 0
  OneRead fs = (x : X) × P x fs

  abbrev ListRead : List Field → Type 0
  ListRead fs = (xs : List X) × ListBy P xs fs

  each_read : (k : ℕ) (fs : List Field) → Times k OneRead fs → (xs : List X) × (length xs ≡ k) × Each P xs fs
  each_read zero fs e = ([], refl, e)
  each_read (suc k) fs b =
      let r = each_read k b.back b.second in
      (b.first.0 ∷ r.0, ap suc r.1, (b.front, b.back, b.parts, b.first.1, r.2))

  each_taken : (xs : List X) (fs : List Field) → Each P xs fs → Times (length xs) OneRead fs
  each_taken [] fs e = e
  each_taken (x ∷ xs) fs (front, back, parts, first, second) = record { front = front; back = back; parts = parts; first = (x, first); second = each_taken xs back second }

  module _ (t : ℕ → BareLayout) (a : IsLayout t OneRead) where
    times_is_layout : (k : ℕ) → IsLayout (λ n. times k (t n)) (Times k OneRead)
    times_is_layout zero = nothing tt
    times_is_layout (suc k) = both_parts t (λ n. times k (t n)) OneRead (Times k OneRead) a (times_is_layout k)

    abbrev Counted : List ℕ → List Field → Type 0
    Counted b = Times (from_be_bytes w16 b) OneRead

    list_read : (fs : List Field) → AreBytes (flat fs) → Headed (u16_kind no_refusal) Counted fs → ListRead fs
    list_read fs b p =
        let all : AreBytes (p.head.bytes ++ flat p.rest) = subst (λ l. AreBytes (flat l)) p.parts b in
        let h = u16_is no_refusal p.head.bytes (sym (whole_fixed 2 p.head.bytes (length p.head.bytes) p.takes.is_whole)) (bytes_front p.head.bytes (flat p.rest) all) in
        let r = each_read (from_be_bytes w16 p.head.bytes) p.rest p.more in (
          r.0,
          (
            p.head ∷ [],
            p.rest,
            p.parts,
            (
              (let l = r.1 in let m = h.1 in omega (arith, l, m)),
              ap (λ f. f ∷ []) (taken (u16_kind no_refusal) p.head p.takes ∙ ap (field (u16_kind no_refusal)) (sym h.0 ∙ ap (to_be_bytes w16) (sym r.1))),
            ),
            r.2,
          ),
        )

    list_taken : (fs : List Field) → ListRead fs → Headed (u16_kind no_refusal) Counted fs
    list_taken fs (xs, (front, back, parts, (few, only), each)) = record {
      head = field (u16_kind no_refusal) (to_be_bytes w16 (length xs));
      rest = back;
      parts = parts ∙ ap (λ l. l ++ back) only;
      takes = record { is_kind = refl; is_whole = refl; clean = refl };
      more = subst (λ k. Times k OneRead back) (sym (from_be_bytes-to_be_bytes_2 (length xs) few)) (each_taken xs back each);
    }

    pub list_is_layout : IsLayout (λ n. list_layout (t n)) ListRead
    list_is_layout = layout_as (λ n. list_layout (t n)) (Headed (u16_kind no_refusal) Counted) ListRead
        (headed_layout (u16_kind no_refusal) (λ n b. times (from_be_bytes w16 b) (t n)) Counted (field (u16_kind no_refusal) (0 ∷ 0 ∷ [])) (record { is_kind = refl; is_whole = refl; clean = refl }) (omega arith, (omega arith, tt)) (λ b. times_is_layout (from_be_bytes w16 b)))
        list_read list_taken

-- Packets.

abbrev HeadersRead : List Field → Type 0
HeadersRead fs = (hs : List Header) × ListBy (HeaderBy free) hs fs

abbrev MessagesRead : List Field → Type 0
MessagesRead fs = (ms : List Message) × ListBy (MessageBy free) ms fs

pub packet_is_layout : IsLayout packet_layout IsPacketReading
packet_is_layout = layout_as packet_layout (Both VersionRead (Both HeadersRead MessagesRead)) IsPacketReading
    (both_parts (λ n. version_layout) (λ n. and_then (list_layout (header_layout n)) (list_layout (message_layout n))) VersionRead (Both HeadersRead MessagesRead) version_is_layout
    (both_parts (λ n. list_layout (header_layout n)) (λ n. list_layout (message_layout n)) HeadersRead MessagesRead (list_is_layout (HeaderBy free) header_layout header_is_layout) (list_is_layout (MessageBy free) message_layout message_is_layout)))
    (λ fs b p. let m = p.second in (
      record { version = p.first.0; headers = m.first.0; messages = m.second.0 },
      (p.front, p.back, p.parts, p.first.1, (m.front, m.back, m.parts, m.first.1, m.second.1)),
    ))
    (λ fs (p, (front, back, parts, first, (f2, b2, p2, hs, ms))). record {
      front = front;
      back = back;
      parts = parts;
      first = (p.version, first);
      second = record { front = f2; back = b2; parts = p2; first = (p.headers, hs); second = (p.messages, ms) };
    })
