-- A document is of one format and one content.
use Rattle.std.proofs.Common.{◌≡◌, subst, Bool, List, [], ◌∷◌, map, refl, sym, ap, ap₂, ◌∙◌}
use Rattle.amf_graph.specs.Graph.{Graph}
use Rattle.amf0_spelling.specs.declared.form.Form.{Form}
use Rattle.amf0_spelling.specs.declared.form.Form.TheVariants as form
use Rattle.amf_packet.specs.Packet.{Header, Message}
use Rattle.amf_sol.specs.declared.sol_version.SolVersion.{SolVersion}
use Rattle.amf_sol.specs.declared.sol_version.SolVersion.TheVariants as version
use Rattle.amf_text.specs.Documents.{plain, amf3, call, FileVersion, file0, file3, Document, value3, value0}
use Rattle.amf_text.specs.Documents as text
use Rattle.amf_text.specs.Tellable.{DocumentsMatch}
use Rattle.amf_json.specs.JsonTexts.{form_told, header_told, message_told, version_told}
use Rattle.amf_commands.specs.declared.format.Format.{Format}
use Rattle.amf_commands.specs.declared.format.Format.TheVariants.{Amf3, Amf0, Packet, Sol}
use Rattle.amf_commands.specs.Content.{Content, value, packet, file}
use Rattle.amf_bytes.specs.Meanings.{IsDocumentOf}

form_back : text.Form → Form
form_back call = form.Call
form_back amf3 = form.Amf3
form_back plain = form.Plain

form_again : (f : Form) → form_back (form_told f) ≡ f
unfolding form_back
form_again form.Call = refl
form_again form.Amf3 = refl
form_again form.Plain = refl

header_back : text.Header Graph → Header
header_back h = record { name = h.name; must = h.must; body = record { form = form_back h.form; graph = h.graph } }

message_back : text.Message Graph → Message
message_back m = record { target = m.target; response = m.response; body = record { form = form_back m.form; graph = m.graph } }

header_again : (h : Header) → header_back (header_told h) ≡ h
unfolding header_back
header_again h = ap (λ f. record { name = h.name; must = h.must; body = record { form = f; graph = h.body.graph } }) (form_again h.body.form)

message_again : (m : Message) → message_back (message_told m) ≡ m
unfolding message_back
message_again m = ap (λ f. record { target = m.target; response = m.response; body = record { form = f; graph = m.body.graph } }) (form_again m.body.form)

headers_again : (hs : List Header) → map header_back (map header_told hs) ≡ hs
headers_again [] = refl
headers_again (h ∷ hs) = ap₂ (λ x xs. x ∷ xs) (header_again h) (headers_again hs)

messages_again : (ms : List Message) → map message_back (map message_told ms) ≡ ms
messages_again [] = refl
messages_again (m ∷ ms) = ap₂ (λ x xs. x ∷ xs) (message_again m) (messages_again ms)

version_back : FileVersion → SolVersion
version_back file0 = version.Amf0
version_back file3 = version.Amf3

version_again : (v : SolVersion) → version_back (version_told v) ≡ v
unfolding version_back
version_again version.Amf0 = refl
version_again version.Amf3 = refl

format_back : Document Graph → Format
format_back (value3 g) = Amf3
format_back (value0 g) = Amf0
format_back (text.file name v g) = Sol
format_back (text.packet v hs ms) = Packet

content_back : Document Graph → Content
content_back (value3 g) = value g
content_back (value0 g) = value g
content_back (text.file name v g) = file (record { name = name; version = version_back v; holder = g })
content_back (text.packet v hs ms) = packet (record { version = v; headers = map header_back hs; messages = map message_back ms })

format_is : (f : Format) (c : Content) (d : Document Graph) → IsDocumentOf f c d → format_back d ≡ f
unfolding format_back
format_is Amf3 (value g) d is = ap format_back is
format_is Amf0 (value g) d is = ap format_back is
format_is Packet (packet p) d is = ap format_back is
format_is Sol (file o) d is = ap format_back is
format_is _ _ d is = absurd is

content_is : (f : Format) (c : Content) (d : Document Graph) → IsDocumentOf f c d → content_back d ≡ c
unfolding content_back
content_is Amf3 (value g) d is = ap content_back is
content_is Amf0 (value g) d is = ap content_back is
content_is Packet (packet p) d is = ap content_back is ∙ ap₂ (λ hs ms. packet (record { version = p.version; headers = hs; messages = ms })) (headers_again p.headers) (messages_again p.messages)
content_is Sol (file o) d is = ap content_back is ∙ ap (λ v. file (record { name = o.name; version = v; holder = o.holder })) (version_again o.version)
content_is _ _ d is = absurd is

pub one_format : (f g : Format) (c e : Content) (d : Document Graph) → IsDocumentOf f c d → IsDocumentOf g e d → f ≡ g
one_format f g c e d is also = sym (format_is f c d is) ∙ format_is g e d also

pub one_content : (f g : Format) (c e : Content) (d : Document Graph) → IsDocumentOf f c d → IsDocumentOf g e d → c ≡ e
one_content f g c e d is also = sym (content_is f c d is) ∙ content_is g e d also

-- and each document is of one

form_told_again : (f : text.Form) → form_told (form_back f) ≡ f
unfolding form_back
form_told_again call = refl
form_told_again amf3 = refl
form_told_again plain = refl

header_told_again : (h : text.Header Graph) → header_told (header_back h) ≡ h
unfolding header_back
header_told_again h = ap (λ f. record { name = h.name; must = h.must; form = f; graph = h.graph }) (form_told_again h.form)

message_told_again : (m : text.Message Graph) → message_told (message_back m) ≡ m
unfolding message_back
message_told_again m = ap (λ f. record { target = m.target; response = m.response; form = f; graph = m.graph }) (form_told_again m.form)

all_headers_told : (hs : List (text.Header Graph)) → map header_told (map header_back hs) ≡ hs
all_headers_told [] = refl
all_headers_told (h ∷ hs) = ap₂ (λ x xs. x ∷ xs) (header_told_again h) (all_headers_told hs)

all_messages_told : (ms : List (text.Message Graph)) → map message_told (map message_back ms) ≡ ms
all_messages_told [] = refl
all_messages_told (m ∷ ms) = ap₂ (λ x xs. x ∷ xs) (message_told_again m) (all_messages_told ms)

version_told_again : (v : FileVersion) → version_told (version_back v) ≡ v
unfolding version_back
version_told_again file0 = refl
version_told_again file3 = refl

is_document : (d : Document Graph) → IsDocumentOf (format_back d) (content_back d) d
unfolding format_back content_back
is_document (value3 g) = refl
is_document (value0 g) = refl
is_document (text.file name v g) = ap (λ w. text.file name w g) (sym (version_told_again v))
is_document (text.packet v hs ms) = ap₂ (λ xs ys. text.packet v xs ys) (sym (all_headers_told hs)) (sym (all_messages_told ms))

match_format : (R : Bool → Graph → Graph → Type 0) (a d : Document Graph) → DocumentsMatch R a d → format_back a ≡ format_back d
unfolding format_back
match_format R (value3 g) (value3 h) m = refl
match_format R (value0 g) (value0 h) m = refl
match_format R (text.file name v g) (text.file other w h) m = refl
match_format R (text.packet v hs ms) (text.packet w ks ns) m = refl
match_format R (value3 g) _ m = absurd m
match_format R (value0 g) _ m = absurd m
match_format R (text.file name v g) _ m = absurd m
match_format R (text.packet v hs ms) _ m = absurd m

-- a document that matches one of a format is of it too
pub meant_content : (R : Bool → Graph → Graph → Type 0) (f : Format) (c : Content) (a d : Document Graph) → IsDocumentOf f c a → DocumentsMatch R a d → (e : Content) × IsDocumentOf f e d
meant_content R f c a d is m = (content_back d, subst (λ g. IsDocumentOf g (content_back d) d) (sym (match_format R a d m) ∙ format_is f c a is) (is_document d))
