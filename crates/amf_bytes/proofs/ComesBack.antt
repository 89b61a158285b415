-- What the text of a content means is the content in the kinds that its format has, but for the numbers of its nodes, once it is lowered again.
use Rattle.std.proofs.Common.{◌≡◌, true, List, [], ◌∷◌, map, refl, subst}
use Rattle.std.specs.List.{AllZip}
use Rattle.amf_graph.specs.Graph.{Graph}
use Rattle.amf_graph.specs.Isomorphic.{Isomorphic}
use Rattle.amf0_spelling.specs.declared.form.Form.{Form}
use Rattle.amf0_spelling.specs.declared.form.Form.TheVariants as form
use Rattle.amf0_spelling.specs.Lowered.{IsLoweringOf}
use Rattle.amf0_spelling.proofs.LoweredLow.{lowering_is_lowered}
use Rattle.amf_packet.specs.Packet.{Header, Message, Packet as PacketOf}
use Rattle.amf_listings.specs.SamePacket.{HeadersMatch, MessagesMatch, IsFittedGraph, IsLoweredPacket, SamePacket}
use Rattle.amf_listings.specs.SameFile.{IsFittedHolder, IsLoweredFile, SameFile}
use Rattle.amf_sol.specs.SharedObject.{Shared}
use Rattle.amf_sol.specs.declared.sol_version.SolVersion.{SolVersion}
use Rattle.amf_sol.specs.declared.sol_version.SolVersion.TheVariants as version
use Rattle.amf_text.specs.Documents.{is_bare, is_bare_file}
use Rattle.amf_text.specs.Tellable.{HeadersMatch as HeadersTold, MessagesMatch as MessagesTold, DocumentsMatch}
use Rattle.amf_text_laws.specs.ThereAndBack.{LowersTo, ComesBack}
use Rattle.amf_json.specs.JsonTexts.{form_told, header_told, message_told, packet_document, version_told, file_document}

-- the graph in the kinds that the form has, which is the one that was told
record Again (Fits : Graph → Graph → Type 0) (x h : Graph) : Type 0 where
  pub graph : Graph
  pub fits : Fits h graph
  pub same : Isomorphic x graph

lowered_again : (x h : Graph) → LowersTo x h → Again IsLoweringOf x h
lowered_again x h (low, is, same) = record { graph = low; fits = is; same = same }

as_it_is : (x h : Graph) → Isomorphic x h → Again (λ g fit. fit ≡ g) x h
as_it_is x h same = record { graph = h; fits = refl; same = same }

body_again : (f : Form) (g x h : Graph) → IsFittedGraph f g x → ComesBack (is_bare (form_told f)) x h → Again (IsFittedGraph f) x h
body_again form.Call g x h is back = as_it_is x h back
body_again form.Amf3 g x h is back = as_it_is x h back
body_again form.Plain g x h is back = lowered_again x h (back (lowering_is_lowered g x is))

holder_again : (v : SolVersion) (g x h : Graph) → IsFittedHolder v g x → ComesBack (is_bare_file (version_told v)) x h → Again (IsFittedHolder v) x h
holder_again version.Amf0 g x h is back = lowered_again x h (back (lowering_is_lowered g x is))
holder_again version.Amf3 g x h is back = as_it_is x h back

form_back : (f k : Form) → form_told f ≡ form_told k → f ≡ k
form_back form.Call form.Call e = refl
form_back form.Amf3 form.Amf3 e = refl
form_back form.Plain form.Plain e = refl
form_back form.Call form.Amf3 e = cc
form_back form.Call form.Plain e = cc
form_back form.Amf3 form.Call e = cc
form_back form.Amf3 form.Plain e = cc
form_back form.Plain form.Call e = cc
form_back form.Plain form.Amf3 e = cc

version_back : (v w : SolVersion) → version_told v ≡ version_told w → v ≡ w
version_back version.Amf0 version.Amf0 e = refl
version_back version.Amf3 version.Amf3 e = refl
version_back version.Amf0 version.Amf3 e = cc
version_back version.Amf3 version.Amf0 e = cc

-- of a list of headers, or of messages
record ListAgain {X : Type 0} (Fits Same : X → X → Type 0) (xs hs : List X) : Type 0 where
  pub all : List X
  pub fits : AllZip Fits hs all
  pub same : AllZip Same xs all

one_header : (p x h : Header) → HeadersMatch IsFittedGraph p x → HeadersTold ComesBack (header_told x) (header_told h) → (k : Header) × HeadersMatch IsFittedGraph h k × HeadersMatch (λ f. Isomorphic) x k
one_header p x h (name, must, (forms, is)) told =
    let f : x.body.form ≡ h.body.form = form_back x.body.form h.body.form told.form in
    let a = body_again x.body.form p.body.graph x.body.graph h.body.graph (subst (λ k. IsFittedGraph k p.body.graph x.body.graph) forms is) told.graph in (
      record { name = h.name; must = h.must; body = record { form = h.body.form; graph = a.graph } },
      (refl, refl, (refl, subst (λ k. IsFittedGraph k h.body.graph a.graph) f a.fits)),
      (told.name, told.must, (f, a.same)),
    )

one_message : (p x h : Message) → MessagesMatch IsFittedGraph p x → MessagesTold ComesBack (message_told x) (message_told h) → (k : Message) × MessagesMatch IsFittedGraph h k × MessagesMatch (λ f. Isomorphic) x k
one_message p x h (target, response, (forms, is)) told =
    let f : x.body.form ≡ h.body.form = form_back x.body.form h.body.form told.form in
    let a = body_again x.body.form p.body.graph x.body.graph h.body.graph (subst (λ k. IsFittedGraph k p.body.graph x.body.graph) forms is) told.graph in (
      record { target = h.target; response = h.response; body = record { form = h.body.form; graph = a.graph } },
      (refl, refl, (refl, subst (λ k. IsFittedGraph k h.body.graph a.graph) f a.fits)),
      (told.target, told.response, (f, a.same)),
    )

headers_again : (ps xs hs : List Header) → AllZip (HeadersMatch IsFittedGraph) ps xs → AllZip (HeadersTold ComesBack) (map header_told xs) (map header_told hs) → ListAgain (HeadersMatch IsFittedGraph) (HeadersMatch (λ f. Isomorphic)) xs hs
headers_again ps [] [] z told = record { all = []; fits = tt; same = tt }
headers_again ps [] (h ∷ hs) z told = absurd told
headers_again ps (x ∷ xs) [] z told = absurd told
headers_again [] (x ∷ xs) (h ∷ hs) z told = absurd z
headers_again (p ∷ ps) (x ∷ xs) (h ∷ hs) z told =
    let k = one_header p x h z.0 told.0 in
    let ks = headers_again ps xs hs z.1 told.1 in
    record { all = k.0 ∷ ks.all; fits = (k.1, ks.fits); same = (k.2, ks.same) }

messages_again : (ps xs hs : List Message) → AllZip (MessagesMatch IsFittedGraph) ps xs → AllZip (MessagesTold ComesBack) (map message_told xs) (map message_told hs) → ListAgain (MessagesMatch IsFittedGraph) (MessagesMatch (λ f. Isomorphic)) xs hs
messages_again ps [] [] z told = record { all = []; fits = tt; same = tt }
messages_again ps [] (h ∷ hs) z told = absurd told
messages_again ps (x ∷ xs) [] z told = absurd told
messages_again [] (x ∷ xs) (h ∷ hs) z told = absurd z
messages_again (p ∷ ps) (x ∷ xs) (h ∷ hs) z told =
    let k = one_message p x h z.0 told.0 in
    let ks = messages_again ps xs hs z.1 told.1 in
    record { all = k.0 ∷ ks.all; fits = (k.1, ks.fits); same = (k.2, ks.same) }

pub graph_again : (g x h : Graph) → IsLoweringOf g x → ComesBack true x h → (mid : Graph) × IsLoweringOf h mid × Isomorphic x mid
graph_again g x h is back = back (lowering_is_lowered g x is)

pub packet_again : (p x h : PacketOf) → IsLoweredPacket p x → DocumentsMatch ComesBack (packet_document x) (packet_document h) → (mid : PacketOf) × IsLoweredPacket h mid × SamePacket x mid
packet_again p x h is told =
    let hs = headers_again p.headers x.headers h.headers is.headers told.1 in
    let ms = messages_again p.messages x.messages h.messages is.messages told.2 in (
      record { version = h.version; headers = hs.all; messages = ms.all },
      record { version = refl; headers = hs.fits; messages = ms.fits },
      record { version = told.0; headers = hs.same; messages = ms.same },
    )

pub file_again : (o x h : Shared) → IsLoweredFile o x → DocumentsMatch ComesBack (file_document x) (file_document h) → (mid : Shared) × IsLoweredFile h mid × SameFile x mid
file_again o x h is told =
    let v : x.version ≡ h.version = version_back x.version h.version told.1 in
    let a = holder_again x.version o.holder x.holder h.holder (subst (λ k. IsFittedHolder k o.holder x.holder) is.version is.holder) told.2 in (
      record { name = h.name; version = h.version; holder = a.graph },
      record { name = refl; version = refl; holder = subst (λ k. IsFittedHolder k h.holder a.graph) v a.fits },
      record { name = told.0; version = v; holder = a.same },
    )
