-- The headers and messages of a packet that are told one after another.
use Rattle.std.proofs.Common.{◌≡◌, ℕ, zero, suc, ◌+◌, ◌<◌, ◌≤◌, List, [], ◌∷◌, ◌++◌, length, map, take, get_or, refl, sym, ap, ◌∙◌, subst, arith, Bool, Result}
use Rattle.std.specs.List.{AllByRecursion, AllZip}
use Rattle.std.proofs.lemmas.List.{map_more, map-append, take_all}
use Rattle.amf_wire.specs.Text.{IsText}
use Rattle.amf_graph.specs.Graph.{Graph}
use Rattle.amf_graph.proofs.Zipping.{zip_append}
use Rattle.amf_packet.specs.Packet.{Body, Header, Message, Packet}
use Rattle.amf_packet.specs.WriteParts.{header_texts, message_texts}
use Rattle.amf_listings.specs.SamePacket.{HeadersMatch, MessagesMatch, IsFittedGraph}
use Rattle.amf_text.specs.Documents as text
use Rattle.amf_text.specs.Tellable.{IsTellableHeader, IsTellableMessage}
use Rattle.amf_text_write.specs.declared.layout.Layout.{Layout}
use Rattle.amf_text_write.specs.declared.packets.PacketForm.{PacketForm}
use Rattle.amf_text_write.specs.Laid.{Shown}
use Rattle.amf_text_write.specs.PacketTexts.{form_of, header_of, message_of, AreHeaderTexts, AreMessageTexts, AddsHeader, AddsMessage}
use Rattle.amf_json.specs.JsonTexts.{form_told, header_told, message_told}
use Rattle.amf_json.specs.Ready.{IsReadyPacket}
use Rattle.amf_json.specs.TextParts.{TellHeaders, TellMessages, TellsHeader, TellsMessage}
use Rattle.amf_json.proofs.Results.{on_ok}

-- one more of a list that is kept
module _ {K X : Type 0} (view : K → X) (ks : List K) (i : ℕ) (k : K) (lt : i < length ks) (is : k ≡ get_or ks i k) where
  pub one_more : map view (take i ks) ++ view k ∷ [] ≡ map view (take (i + 1) ks)
  one_more = sym (map_more view ks i k lt ∙ ap (λ z. map view (take i ks) ++ view z ∷ []) (sym is))

pub all_taken : {K X : Type 0} (view : K → X) (P : List X → Type 0) (ks : List K) (i : ℕ) → length ks ≤ i → P (map view (take i ks)) → P (map view ks)
all_taken view P ks i le h = subst (λ zs. P (map view zs)) (take_all i ks le) h

pub headers_told : (layout : Layout) (hs fits : List Header) (h fit : Header) (s : Shown) → AllZip (HeadersMatch IsFittedGraph) hs fits → HeadersMatch IsFittedGraph h fit
    → AreHeaderTexts layout (map header_told fits ++ header_told fit ∷ []) s → TellHeaders layout (hs ++ h ∷ []) s
headers_told layout hs fits h fit s z m t = (
  fits ++ fit ∷ [],
  zip_append (HeadersMatch IsFittedGraph) hs fits (h ∷ []) (fit ∷ []) z (m, tt),
  subst (λ l. AreHeaderTexts layout l s) (sym (map-append header_told fits (fit ∷ []))) t,
)

pub messages_told : (layout : Layout) (headers : List (text.Header Graph)) (ms fits : List Message) (m fit : Message) (s : Shown) → AllZip (MessagesMatch IsFittedGraph) ms fits → MessagesMatch IsFittedGraph m fit
    → AreMessageTexts layout headers (map message_told fits ++ message_told fit ∷ []) s → TellMessages layout headers (ms ++ m ∷ []) s
messages_told layout headers ms fits m fit s z n t = (
  fits ++ fit ∷ [],
  zip_append (MessagesMatch IsFittedGraph) ms fits (m ∷ []) (fit ∷ []) z (n, tt),
  subst (λ l. AreMessageTexts layout headers l s) (sym (map-append message_told fits (fit ∷ []))) t,
)

-- the texts of a packet that can be told

header_names : (hs : List Header) → AllByRecursion IsTellableHeader (map header_told hs) → AllByRecursion (AllByRecursion IsText) (header_texts hs)
header_names [] a = tt
header_names (h ∷ hs) a = ((a.0.name.0, tt), header_names hs a.1)

message_names : (ms : List Message) → AllByRecursion IsTellableMessage (map message_told ms) → AllByRecursion (AllByRecursion IsText) (message_texts ms)
message_names [] a = tt
message_names (m ∷ ms) a = ((a.0.target.0, (a.0.response.0, tt)), message_names ms a.1)

pub have_header_texts : (p : Packet) → IsReadyPacket p → AllByRecursion (AllByRecursion IsText) (header_texts p.headers)
have_header_texts p r = header_names p.headers r.0.header_parts

pub have_message_texts : (p : Packet) → IsReadyPacket p → AllByRecursion (AllByRecursion IsText) (message_texts p.messages)
have_message_texts p r = message_names p.messages r.0.message_parts

-- of one of them
texts_among : {K X : Type 0} (texts : X → List (List ℕ)) (view : K → X) (ks : List K) (i : ℕ) (d : K) → i < length ks → AllByRecursion (AllByRecursion IsText) (map texts (map view ks)) → AllByRecursion IsText (texts (view (get_or ks i d)))
texts_among texts view [] i d lt a = absurd (omega (arith, lt))
texts_among texts view (k ∷ ks) zero d lt a = a.0
texts_among texts view (k ∷ ks) (suc i) d lt a = texts_among texts view ks i d (omega (arith, lt)) a.1

pub texts_at : {K X : Type 0} (texts : X → List (List ℕ)) (view : K → X) (ks : List K) (i : ℕ) (k : K) → i < length ks → k ≡ get_or ks i k → AllByRecursion (AllByRecursion IsText) (map texts (map view ks)) → AllByRecursion IsText (texts (view k))
texts_at texts view ks i k lt is a = subst (λ z. AllByRecursion IsText (texts (view z))) (sym is) (texts_among texts view ks i k lt a)

-- One more, of which this was told.

pub adds_header : {E : Type 0} (r : Result (Unit {0}) E) (h : Header) (told : text.Header Graph) (old new : Shown) → (fit : Header) → HeadersMatch IsFittedGraph h fit → told ≡ header_told fit → AddsHeader told r old new → TellsHeader h r old new
adds_header r h told old new fit m e adds = λ layout hs (fits, z, t).
    on_ok (AreHeaderTexts layout (map header_told fits ++ told ∷ []) new) (TellHeaders layout (hs ++ h ∷ []) new) r
    (λ a. headers_told layout hs fits h fit new z m (subst (λ x. AreHeaderTexts layout (map header_told fits ++ x ∷ []) new) e a)) (adds layout (map header_told fits) t)

pub adds_message : {E : Type 0} (r : Result (Unit {0}) E) (m : Message) (told : text.Message Graph) (old new : Shown) → (fit : Message) → MessagesMatch IsFittedGraph m fit → told ≡ message_told fit → AddsMessage told r old new → TellsMessage m r old new
adds_message r m told old new fit n e adds = λ layout headers ms (fits, z, t).
    on_ok (AreMessageTexts layout headers (map message_told fits ++ told ∷ []) new) (TellMessages layout headers (ms ++ m ∷ []) new) r
    (λ a. messages_told layout headers ms fits m fit new z n (subst (λ x. AreMessageTexts layout headers (map message_told fits ++ x ∷ []) new) e a)) (adds layout headers (map message_told fits) t)

abbrev header_by : List ℕ → Bool → text.Form → Graph → text.Header Graph
header_by name must form g = record { name = name; must = must; form = form; graph = g }

abbrev message_by : List ℕ → List ℕ → text.Form → Graph → text.Message Graph
message_by target response form g = record { target = target; response = response; form = form; graph = g }

-- One more, whose body is this, and whose fitted graph was told.

pub header_added : {E : Type 0} (r : Result (Unit {0}) E) (h : Header) (name : List ℕ) (form : PacketForm) (fit : Graph) (old new : Shown) (body : Body) → name ≡ h.name → h.body ≡ body → form_of form ≡ form_told body.form
    → IsFittedGraph body.form body.graph fit → AddsHeader (header_of name h.must form fit) r old new → TellsHeader h r old new
header_added r h name form fit old new body n e f m adds =
    let fitted : Header = record { name = h.name; must = h.must; body = record { form = h.body.form; graph = fit } } in
    let same : form_of form ≡ form_told h.body.form = f ∙ ap (λ (b : Body). form_told b.form) (sym e) in
    adds_header r h (header_of name h.must form fit) old new fitted (refl, refl, (refl, subst (λ (b : Body). IsFittedGraph b.form b.graph fit) (sym e) m)) (header_is name h.name h.must (form_of form) (form_told h.body.form) fit n same) adds
  where
    header_is : (x y : List ℕ) (must : Bool) (a b : text.Form) (g : Graph) → x ≡ y → a ≡ b → header_by x must a g ≡ header_by y must b g
    header_is x y must a b g e f = cc

pub message_added : {E : Type 0} (r : Result (Unit {0}) E) (m : Message) (target response : List ℕ) (form : PacketForm) (fit : Graph) (old new : Shown) (body : Body) → target ≡ m.target → response ≡ m.response → m.body ≡ body
    → form_of form ≡ form_told body.form → IsFittedGraph body.form body.graph fit → AddsMessage (message_of target response form fit) r old new → TellsMessage m r old new
message_added r m target response form fit old new body t n e f i adds =
    let fitted : Message = record { target = m.target; response = m.response; body = record { form = m.body.form; graph = fit } } in
    let same : form_of form ≡ form_told m.body.form = f ∙ ap (λ (b : Body). form_told b.form) (sym e) in
    adds_message r m (message_of target response form fit) old new fitted (refl, refl, (refl, subst (λ (b : Body). IsFittedGraph b.form b.graph fit) (sym e) i)) (message_is target m.target response m.response (form_of form) (form_told m.body.form) fit t n same) adds
  where
    message_is : (x y u v : List ℕ) (a b : text.Form) (g : Graph) → x ≡ y → u ≡ v → a ≡ b → message_by x u a g ≡ message_by y v b g
    message_is x y u v a b g e d f = cc
