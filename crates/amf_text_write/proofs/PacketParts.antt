-- The text of a packet, part by part.
use Rattle.std.proofs.Common.{◌≡◌, ℕ, Bool, List, [], ◌∷◌, ◌++◌, refl, sym, ap, ap₂, ◌∙◌, subst, append_assoc, append-nil}
use Rattle.std.specs.List.{AllZip}
use Rattle.std.specs.Prelude.{codes, decimal}
use Rattle.json.specs.Token.{Token, begin_object, end_object, begin_array, end_array, key, string, number}
use Rattle.json.specs.Json.{Json}
use Rattle.json.specs.Tree.{json_tokens}
use Rattle.amf_graph.specs.Graph.{Graph}
use Rattle.amf_graph.specs.Rooted.{RootedArena, content}
use Rattle.amf_text.specs.Documents as document
use Rattle.amf_text.specs.Documents.{Header, Message, packet}
use Rattle.amf_text.specs.Texts.{header_json, message_json, packet_json, IsHeaderJson, IsMessageJson}
use Rattle.amf_text.specs.Told as told
use Rattle.amf_text.proofs.ExactDigits.{digits_exist}
use Rattle.amf_text_write.specs.declared.layout.Layout.{Layout}
use Rattle.amf_text_write.specs.declared.packets.PacketForm.{PacketForm}
use Rattle.amf_text_write.specs.declared.way.Way.{Way}
use Rattle.amf_text_write.specs.Laid.{Shown, with_more, bytes_of}
use Rattle.amf_text_write.specs.PacketTexts.{form_of, header_of, message_of, blank, headers_front, messages_front, AreHeaderTexts, AreMessageTexts, IsPacketText, header_tokens, message_tokens}
use Rattle.amf_text_write.specs.Parts.{each_json}
use Rattle.amf_text_write.specs.Plans.{IsPlannedWay, way_by}
use Rattle.amf_text_write.specs.Tells.{Tells}
use Rattle.amf_text_write.specs.Ways.{graph_in, IsWayOf}
use Rattle.amf_text_write.proofs.Documented.{document_text}
use Rattle.amf_text_write.proofs.Jsons.{listed_told}
use Rattle.amf_text_write.proofs.Planned.{planned_way}
use Rattle.amf_text_write.proofs.Telling.{exactly, tells_then}
use Rattle.amf_text_write.proofs.WholeTexts.{way_with}

zip_more : {X Y : Type 0} (R : X → Y → Type 0) (xs : List X) (x : X) (ys : List Y) (y : Y) → AllZip R xs ys → R x y → AllZip R (xs ++ x ∷ []) (ys ++ y ∷ [])
zip_more R [] x [] y all r = (r, tt)
zip_more R [] x (z ∷ ys) y all r = absurd all
zip_more R (z ∷ xs) x [] y all r = absurd all
zip_more R (z ∷ xs) x (u ∷ ys) y all r = (all.0, zip_more R xs x ys y all.1 r)

each_more : (js : List Json) (j : Json) → each_json (js ++ j ∷ []) ≡ each_json js ++ json_tokens j
each_more [] j = append-nil (json_tokens j)
each_more (k ∷ js) j = ap (λ l. json_tokens k ++ l) (each_more js j) ∙ sym (append_assoc (json_tokens k) (each_json js) (json_tokens j))

-- one more behind others
told_more : (front : List Token) (js : List Json) (j : Json) (a b c : Shown) → Tells (front ++ each_json js) a b → Tells (json_tokens j) b c → Tells (front ++ each_json (js ++ j ∷ [])) a c
told_more front js j a b c x y =
    subst (λ ts. Tells ts a c) (append_assoc front (each_json js) (json_tokens j) ∙ ap (λ l. front ++ l) (sym (each_more js j)))
    (tells_then (front ++ each_json js) (json_tokens j) a b c x y)

pub headers_begun : (layout : Layout) (s : Shown) → s ≡ with_more (blank layout) headers_front → AreHeaderTexts layout [] s
headers_begun layout s e = record { digits = digits_exist.0; are_digits = digits_exist.1; jsons = []; are_jsons = tt; tells = exactly headers_front (blank layout) s e }

pub header_added : (name : List ℕ) (must : Bool) (form : PacketForm) (k : Way) (g : RootedArena) (old new : Shown) → IsPlannedWay k → k.graph.now ≡ g → k.bare ≡ document.is_bare (form_of form)
    → ((w : told.Way) → IsWayOf k w → Tells (header_tokens (header_of name must form (graph_in k)) w) old new)
    → (layout : Layout) (headers : List (Header Graph)) → AreHeaderTexts layout headers old → AreHeaderTexts layout (headers ++ header_of name must form (content g) ∷ []) new
header_added name must form k g old new p same bare tells layout headers r =
    let d = r.digits in
    let w = way_by k d in
    let h = header_of name must form (graph_in k) in
    let j = header_json w h in
    subst (λ (a : RootedArena). AreHeaderTexts layout (headers ++ header_of name must form (content a) ∷ []) new) same
    (record {
      digits = d;
      are_digits = r.are_digits;
      jsons = r.jsons ++ j ∷ [];
      are_jsons = zip_more (IsHeaderJson d) headers h r.jsons j r.are_jsons (w, way_with k d (document.is_bare (form_of form)) p bare, refl);
      tells = told_more headers_front r.jsons j (blank layout) old new r.tells (tells w (planned_way k d p r.are_digits));
    })

pub headers_ended : (layout : Layout) (headers : List (Header Graph)) (s t : Shown) → AreHeaderTexts layout headers s → t ≡ with_more s messages_front → AreMessageTexts layout headers [] t
headers_ended layout headers s t r e = record {
  digits = r.digits;
  are_digits = r.are_digits;
  header_jsons = r.jsons;
  message_jsons = [];
  are_headers = r.are_jsons;
  are_messages = tt;
  tells = subst (λ ts. Tells ts (blank layout) t) (sym (append-nil ((headers_front ++ each_json r.jsons) ++ messages_front)))
      (tells_then (headers_front ++ each_json r.jsons) messages_front (blank layout) s t r.tells (exactly messages_front s t e));
}

pub message_added : (target response : List ℕ) (form : PacketForm) (k : Way) (g : RootedArena) (old new : Shown) → IsPlannedWay k → k.graph.now ≡ g → k.bare ≡ document.is_bare (form_of form)
    → ((w : told.Way) → IsWayOf k w → Tells (message_tokens (message_of target response form (graph_in k)) w) old new)
    → (layout : Layout) (headers : List (Header Graph)) (messages : List (Message Graph)) → AreMessageTexts layout headers messages old → AreMessageTexts layout headers (messages ++ message_of target response form (content g) ∷ []) new
message_added target response form k g old new p same bare tells layout headers messages r =
    let d = r.digits in
    let w = way_by k d in
    let m = message_of target response form (graph_in k) in
    let j = message_json w m in
    subst (λ (a : RootedArena). AreMessageTexts layout headers (messages ++ message_of target response form (content a) ∷ []) new) same
    (record {
      digits = d;
      are_digits = r.are_digits;
      header_jsons = r.header_jsons;
      message_jsons = r.message_jsons ++ j ∷ [];
      are_headers = r.are_headers;
      are_messages = zip_more (IsMessageJson d) messages m r.message_jsons j r.are_messages (w, way_with k d (document.is_bare (form_of form)) p bare, refl);
      tells = told_more ((headers_front ++ each_json r.header_jsons) ++ messages_front) r.message_jsons j (blank layout) old new r.tells (tells w (planned_way k d p r.are_digits));
    })

-- what stands behind the messages
abbrev pub packet_end : ℕ → List Token
packet_end version = end_array ∷ key (codes "version") ∷ number (decimal version) ∷ end_object ∷ []

packet_told : (version : ℕ) (hs ms : List Json) → (((headers_front ++ each_json hs) ++ messages_front) ++ each_json ms) ++ packet_end version ≡ json_tokens (packet_json version hs ms)
packet_told version hs ms =
    let h = each_json hs in
    let m = each_json ms in
    let last = packet_end version in
    let behind = key (codes "version") ∷ number (decimal version) ∷ end_object ∷ [] in
    append_assoc ((headers_front ++ h) ++ messages_front) m last
    ∙ append_assoc (headers_front ++ h) messages_front (m ++ last)
    ∙ append_assoc headers_front h (messages_front ++ (m ++ last))
    ∙ ap (λ l. headers_front ++ (h ++ (end_array ∷ key (codes "messages") ∷ begin_array ∷ l))) (sym (append_assoc m (end_array ∷ []) behind))
    ∙ ap (λ l. headers_front ++ l) (sym (append_assoc h (end_array ∷ []) (key (codes "messages") ∷ begin_array ∷ ((m ++ end_array ∷ []) ++ behind))))
    ∙ ap₂ (λ a b. begin_object ∷ key (codes "amf") ∷ string (codes "packet") ∷ key (codes "headers") ∷ (a ++ (key (codes "messages") ∷ (b ++ behind)))) (sym (listed_told hs)) (sym (listed_told ms))

pub packet_whole : (version : ℕ) (s t : Shown) (bytes : List ℕ) → t ≡ with_more s (packet_end version) → bytes ≡ bytes_of t → IsPacketText version s bytes
packet_whole version s t bytes e is = λ layout headers messages r.
    let front = ((headers_front ++ each_json r.header_jsons) ++ messages_front) ++ each_json r.message_jsons in
    document_text layout (packet version headers messages) r.digits (packet_json version r.header_jsons r.message_jsons) t bytes r.are_digits
    (record { header_jsons = r.header_jsons; message_jsons = r.message_jsons; are_headers = r.are_headers; are_messages = r.are_messages; is_json = refl })
    (subst (λ ts. Tells ts (blank layout) t) (packet_told version r.header_jsons r.message_jsons) (tells_then front (packet_end version) (blank layout) s t r.tells (exactly (packet_end version) s t e))) is
