-- The listing of a packet: this project's own form.
use Rattle.std.specs.Prelude.{◌≡◌, ℕ, Bool, cond, List, [], ◌∷◌, ◌++◌, codes, decimal}
use Rattle.amf0_spelling.specs.declared.form.Form.{Form}
use Rattle.amf0_spelling.specs.declared.form.Form.TheVariants.{Call, Amf3, Plain}
use Rattle.amf_packet.specs.Packet.{Body, Header, Message, Packet}
use Rattle.amf_show.specs.Shown.{line_feed, shown_text}
use Rattle.amf_show.specs.Listing.{IsListing}

-- a form by its name
abbrev pub form_name : Form → List ℕ
form_name Call = codes "call"
form_name Amf3 = codes "amf3"
form_name Plain = codes "plain"

abbrev pub shown_must : Bool → List ℕ
shown_must must = cond must (codes "1") (codes "0")

-- the line of a header: its name, and whether it must be understood
unfoldable pub header_line : Header → List ℕ
header_line h = codes "header " ++ shown_text h.name ++ codes " " ++ shown_must h.must ++ line_feed

-- the line of a message: target, response, and the form of its value
unfoldable pub message_line : Message → List ℕ
message_line m = codes "message " ++ shown_text m.target ++ codes " " ++ shown_text m.response ++ codes " " ++ form_name m.body.form ++ line_feed

-- the line of each, and behind it the listing of its graph
abbrev pub AreListed : {X : Type 0} → (X → List ℕ) → (X → Body) → List X → List ℕ → Type 0
AreListed line body [] b = b ≡ []
AreListed line body (x ∷ xs) b = (listing : List ℕ) × (rest : List ℕ) × IsListing (body x).graph listing × AreListed line body xs rest × (b ≡ line x ++ listing ++ rest)

abbrev pub AreHeaders : List Header → List ℕ → Type 0
AreHeaders = AreListed header_line (λ h. h.body)

abbrev pub AreMessages : List Message → List ℕ → Type 0
AreMessages = AreListed message_line (λ m. m.body)

-- the first line of a packet: its version
unfoldable pub packet_line : ℕ → List ℕ
packet_line version = codes "packet " ++ decimal version ++ line_feed

-- the listing of a packet: its version, its headers, its messages
abbrev pub IsPacketListing : Packet → List ℕ → Type 0
IsPacketListing p b = (headers : List ℕ) × (messages : List ℕ) × AreHeaders p.headers headers × AreMessages p.messages messages × (b ≡ packet_line p.version ++ headers ++ messages)

-- what was there, and then the listing
abbrev pub AppendsPacketListing : Packet → List ℕ → List ℕ → Type 0
AppendsPacketListing p before after = (b : List ℕ) × IsPacketListing p b × (after ≡ before ++ b)
