-- The bytes of a packet by those of the values of its messages.
use Rattle.std.proofs.Common.{◌≡◌, ◌∙◌, ℕ, ◌+◌, ◌<◌, ◌≤◌, List, [], ◌∷◌, ◌++◌, length, take, get_or, Some, refl, sym, ap, subst}
use Rattle.std.specs.List.{AllByRecursion, AllZip}
use Rattle.std.proofs.lemmas.List.{take_more, take_all}
use Rattle.std.proofs.lemmas.Option.{slice_get-get_or}
use Rattle.std.proofs.lemmas.Slice.Zip.{AllZip-long}
use Rattle.amf_io.specs.Field.{flat}
use Rattle.amf_wire.specs.Style.{canonical}
use Rattle.amf_graph.proofs.Alls.{each_at}
use Rattle.amf0_spelling.specs.Segments0.{Short}
use Rattle.amf_packet.specs.declared.write_spelled.SpelledMessage.{SpelledMessage}
use Rattle.amf_packet.specs.Packet.{Body, Message, Packet, BodyBy, LengthBy, SizedBy, HeaderBy, MessageBy, Beside, Each, CountBy, ListBy, VersionBy, SpelledPacket}
use Rattle.amf_packet.specs.SpelledBodies.{IsBodySpelling, IsSpelledMessage, IsSpelledAs, HasFitUris}
use Rattle.amf_packet.specs.WriteParts.{Appends}
use Rattle.amf_packet.proofs.WriteJoins.{appends_then, each_none, each_next, list_written}

-- what was appended to nothing
pub body_spelled : (b : Body) (old bytes : List ℕ) → old ≡ [] → Appends (BodyBy canonical b.form b.graph) old bytes → IsBodySpelling b bytes
body_spelled b old bytes e w = (w.0, w.1, w.2 ∙ ap (λ x. x ++ flat w.0) e)

-- a value behind its length
pub sized_spelled : (b : Body) (bytes x y z : List ℕ) → Appends (LengthBy canonical) x y → z ≡ y ++ bytes → IsBodySpelling b bytes → Appends (SizedBy canonical b) x z
sized_spelled b bytes x y z size e s = appends_then (LengthBy canonical) (BodyBy canonical b.form b.graph) x y z size (s.0, s.1, e ∙ ap (λ w. y ++ w) s.2)

-- the URIs of a message, and its value
pub message_spelled : (m : Message) (k : SpelledMessage) (x y z w : List ℕ) → IsSpelledMessage m k → Appends (Short k.target) x y → Appends (Short k.response) y z → ((b : Body) → IsBodySpelling b k.body → Appends (SizedBy canonical b) z w) → Appends (MessageBy canonical m) x w
message_spelled m k x y z w s target response sized =
    appends_then (Short m.target) (Beside (Short m.response) (SizedBy canonical m.body)) x y w (subst (λ t. Appends (Short t) x y) (sym s.target) target)
    (appends_then (Short m.response) (SizedBy canonical m.body) y z w (subst (λ t. Appends (Short t) y z) (sym s.response) response) (sized m.body s.body))

-- the last of two lists that go together
zip_split : {X Y : Type 0} (R : X → Y → Type 0) (ms : List X) (ks : List Y) (k : Y) → AllZip R ms (ks ++ k ∷ []) → (front : List X) × (m : X) × (ms ≡ front ++ m ∷ []) × AllZip R front ks × R m k
zip_split R [] [] k z = absurd z
zip_split R [] (x ∷ ks) k z = absurd z
zip_split R (m ∷ []) [] k z = ([], m, refl, tt, z.0)
zip_split R (m ∷ n ∷ ms) [] k z = absurd z.1
zip_split R (m ∷ ms) (x ∷ ks) k z = let s = zip_split R ms ks k z.1 in (m ∷ s.0, s.1, ap (λ l. m ∷ l) s.2, (z.0, s.3), s.4)

zip_none : {X Y : Type 0} (R : X → Y → Type 0) (ms : List X) → AllZip R ms [] → ms ≡ []
zip_none R [] z = refl
zip_none R (m ∷ ms) z = absurd z

-- all messages that these are the spelled ones of were appended
abbrev pub AppendsAll : List SpelledMessage → List ℕ → List ℕ → Type 0
AppendsAll ks old new = (ms : List Message) → AllZip IsSpelledMessage ms ks → Appends (Each (MessageBy canonical) ms) old new

pub all_none : (a : List ℕ) → AppendsAll [] a a
all_none a ms z = subst (λ xs. Appends (Each (MessageBy canonical) xs) a a) (sym (zip_none IsSpelledMessage ms z)) (each_none (MessageBy canonical) a)

module _ (ks : List SpelledMessage) (i : ℕ) (k : SpelledMessage) (lt : i < length ks) (is : k ≡ get_or ks i k) where
  pub fit_at : AllByRecursion HasFitUris ks → HasFitUris k
  fit_at h = each_at HasFitUris ks i k h (slice_get-get_or ks i k lt ∙ ap (λ z. Some z) (sym is))

  one_more : take (i + 1) ks ≡ take i ks ++ k ∷ []
  one_more = take_more ks i k lt ∙ ap (λ z. take i ks ++ z ∷ []) (sym is)

  pub all_next : (a b c : List ℕ) → AppendsAll (take i ks) a b → ((m : Message) → IsSpelledMessage m k → Appends (MessageBy canonical m) b c) → AppendsAll (take (i + 1) ks) a c
  all_next a b c so next ms z =
      let s = zip_split IsSpelledMessage ms (take i ks) k (subst (λ xs. AllZip IsSpelledMessage ms xs) one_more z) in
      each_next (MessageBy canonical) s.0 ms s.1 a b c s.2 (so s.0 s.3) (next s.1 s.4)

-- behind their count all messages
pub all_spelled : (ks : List SpelledMessage) (n i : ℕ) (a b c : List ℕ) → n ≡ length ks → length ks ≤ i → Appends (CountBy n) a b → AppendsAll (take i ks) b c → (ms : List Message) → AllZip IsSpelledMessage ms ks → Appends (ListBy (MessageBy canonical) ms) a c
all_spelled ks n i a b c e le count so ms z =
    list_written (MessageBy canonical) ms ms n a b c (e ∙ AllZip-long IsSpelledMessage ms ks z) refl count (so ms (subst (λ xs. AllZip IsSpelledMessage ms xs) (sym (take_all i ks le)) z))

-- the parts of a packet without headers
pub packet_spelled : (p : Packet) (v : ℕ) (ks : List SpelledMessage) (a b c d : List ℕ) → a ≡ [] → IsSpelledAs p v ks → Appends (VersionBy v) a b → Appends (CountBy 0) b c →
    ((ms : List Message) → AllZip IsSpelledMessage ms ks → Appends (ListBy (MessageBy canonical) ms) c d) → SpelledPacket canonical p d
packet_spelled p v ks a b c d e s version count messages =
    let front = subst (λ z. Appends (VersionBy z) a b) (sym s.version) version in
    let none = list_written (HeaderBy canonical) [] [] 0 b c c refl refl count (each_none (HeaderBy canonical) c) in
    let headers = subst (λ hs. Appends (ListBy (HeaderBy canonical) hs) b c) (sym s.no_headers) none in
    let all = appends_then (VersionBy p.version) (Beside (ListBy (HeaderBy canonical) p.headers) (ListBy (MessageBy canonical) p.messages)) a b d front
    (appends_then (ListBy (HeaderBy canonical) p.headers) (ListBy (MessageBy canonical) p.messages) b c d headers (messages p.messages s.messages)) in
    (all.0, all.1, all.2 ∙ ap (λ x. x ++ flat all.0) e)
