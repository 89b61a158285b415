-- A packet that fields spell can be read back from its text, where its graphs can be so.
use Rattle.std.proofs.Common.{◌≡◌, ℕ, ◌<◌, ◌≤◌, ◌^◌, ◌⊎◌, ◌||◌, ◌==◌, suc, Bool, true, false, List, [], ◌∷◌, length, map, refl, sym, ap, subst, inl, inr, arith}
use Rattle.std.specs.List.{AllByRecursion}
use Rattle.std.proofs.lemmas.Bool.{eqb-true}
use Rattle.amf_io.specs.Field.{Field}
use Rattle.amf_wire.specs.Style.{Style, free}
use Rattle.amf_wire.specs.Text.{IsText}
use Rattle.amf_packet.specs.Packet.{Header, Message, Packet, HeaderBy, MessageBy, Each, is_version, SpelledPacket}
use Rattle.amf_text.specs.DocumentLaws.{IsFew}
use Rattle.amf_text.specs.Tellable.{IsShortText, IsTellableHeader, IsTellableMessage}
use Rattle.amf_json.specs.JsonTexts.{header_told, message_told}
use Rattle.amf_json.specs.Ready.{IsReadyPacket}
use Rattle.amf_json.specs.TextParts.{AreReadyHeaders, AreReadyMessages}

short : (x : List ℕ) → IsText x → length x < 2 ^ 16 → IsShortText x
short x t l = (t, omega (arith, l))

few : (n : ℕ) → n < 2 ^ 16 → n ≤ 65535
few n l = omega (arith, l)

version_known : (v : ℕ) → is_version v ≡ true → (v ≡ 0) ⊎ ((v ≡ 1) ⊎ (v ≡ 3))
version_known v e = known (v == 0) (v == 1) (v == 3) refl refl refl e
  where
    known : (a b c : Bool) → (v == 0) ≡ a → (v == 1) ≡ b → (v == 3) ≡ c → (a || (b || c)) ≡ true → (v ≡ 0) ⊎ ((v ≡ 1) ⊎ (v ≡ 3))
    known true b c f g h e = inl (eqb-true v 0 f)
    known false true c f g h e = inr (inl (eqb-true v 1 g))
    known false false true f g h e = inr (inr (eqb-true v 3 h))
    known false false false f g h e = cc

mapped_size : {X Y : Type 0} (f : X → Y) (xs : List X) → length (map f xs) ≡ length xs
mapped_size f [] = refl
mapped_size f (x ∷ xs) = ap (λ n. suc n) (mapped_size f xs)

headers_ready : (s : Style) (hs : List Header) (fs : List Field) → Each (HeaderBy s) hs fs → AreReadyHeaders hs → AllByRecursion IsTellableHeader (map header_told hs) × AllByRecursion (λ h. IsFew h.graph) (map header_told hs)
headers_ready s [] fs e r = (tt, tt)
headers_ready s (h ∷ hs) fs (front, back, e, (f, g, i, (text, fits, name), z), more) r =
    let rest = headers_ready s hs back more r.1 in
    ((record { name = short h.name text fits; whole = r.0.0 }, rest.0), (r.0.1, rest.1))

messages_ready : (s : Style) (ms : List Message) (fs : List Field) → Each (MessageBy s) ms fs → AreReadyMessages ms → AllByRecursion IsTellableMessage (map message_told ms) × AllByRecursion (λ m. IsFew m.graph) (map message_told ms)
messages_ready s [] fs e r = (tt, tt)
messages_ready s (m ∷ ms) fs (front, back, e, (f, g, i, (target, a, b), (k, l, n, (response, c, d), z)), more) r =
    let rest = messages_ready s ms back more r.1 in
    ((record { target = short m.target target a; response = short m.response response c; whole = r.0.0 }, rest.0), (r.0.1, rest.1))

pub spelled_ready : (p : Packet) (bytes : List ℕ) → SpelledPacket free p bytes → AreReadyHeaders p.headers → AreReadyMessages p.messages → IsReadyPacket p
spelled_ready p bytes (fs, (front, back, e, (version, v), (f, g, i, (k, l, n, count, hs), (o, q, r, counted, ms))), is) h m =
    let x = headers_ready free p.headers l hs h in
    let y = messages_ready free p.messages q ms m in (
      record {
        version_is = version_known p.version version;
        few_headers = subst (λ n. n ≤ 65535) (sym (mapped_size header_told p.headers)) (few (length p.headers) count.0);
        few_messages = subst (λ n. n ≤ 65535) (sym (mapped_size message_told p.messages)) (few (length p.messages) counted.0);
        header_parts = x.0;
        message_parts = y.0;
      },
      (x.1, y.1),
    )
