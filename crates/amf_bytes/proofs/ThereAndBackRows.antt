-- There and back: the bytes of the text of a content are those of the content.
use Rattle.std.proofs.Common.{◌≡◌, ◌≤◌, ℕ, List, length, refl, sym, subst}
use Rattle.std.specs.Prelude.{◌↔◌}
use Rattle.amf_graph.specs.declared.lack.Lack.{Lack}
use Rattle.amf_graph.specs.Graph.{Graph}
use Rattle.amf_listings.proofs.PacketLawRows.{packet_laws}
use Rattle.amf_packet.specs.Packet.{Packet as PacketOf}
use Rattle.amf_sol.specs.SharedObject.{Shared, HasHolder}
use Rattle.amf_text.specs.Documents.{Document, value3, value0}
use Rattle.amf_text.specs.Refused.{text_limit}
use Rattle.amf_text.specs.GraphLaws.{ReadsAs}
use Rattle.amf_text.specs.Tellable.{DocumentsMatch, IsTellable}
use Rattle.amf_text.proofs.WholeDocuments.{whole_laws}
use Rattle.amf0_spelling.proofs.LoweredAgain.{lowered_again}
use Rattle.amf_text_laws.specs.ThereAndBack.{ComesBack}
use Rattle.amf_text_laws.proofs.ThereAndBack.{there_and_back}
use Rattle.amf_text_write.specs.declared.layout.Layout.{Layout}
use Rattle.amf_text_write.specs.declared.values.ValueForm.TheVariants as form
use Rattle.amf_text_write.specs.ValueTexts.{layout_of}
use Rattle.amf_json.specs.JsonTexts.{packet_document, file_document}
use Rattle.amf_json.proofs.FittedInputs.{value_ready, packet_ready, file_ready, holder_fitted, is_holder}
use Rattle.amf_commands.specs.declared.format.Format.{Format}
use Rattle.amf_commands.specs.declared.format.Format.TheVariants.{Amf3, Amf0, Packet, Sol}
use Rattle.amf_commands.specs.Content.{Content, value, packet, file}
use Rattle.amf_wire.specs.Style.{free}
use Rattle.amf_commands.specs.Formats.{Spelled, IsFitted, IsAlike, IsWritten, IsUnwritten}
use Rattle.amf_commands.specs.Run.{IsInputOf, IsJson, IsConverted, IsUnconverted}
use Rattle.amf_commands.specs.Told.{IsReadyContent, Tells, IsMeant, IsTold}
use Rattle.amf_commands.proofs.Formats.{SameContent, content_sym, decides_alike, fits_alike, forgotten, lacks_too, same_bytes, file_again as file_fits_again}
use Rattle.amf_commands.proofs.Spelled.{same_input, spells_free}
use Rattle.amf_bytes.specs.Meanings.{IsDocumentOf, MeansContent, IsTextBytes, LacksBytes}
use Rattle.amf_bytes.specs.ThereAndBack.{ThereAndBack}
use Rattle.amf_bytes.proofs.ComesBack.{graph_again, packet_again, file_again}
use Rattle.amf_bytes.proofs.Documents.{meant_content}
use Rattle.amf_bytes.proofs.MeantBytes.{alike_itself}
use Rattle.amf_bytes.proofs.Ready.{same_itself}

-- what is meant has such a content in the kinds of its format as was told
record Back (f : Format) (fit e : Content) : Type 0 where
  mid : Content
  fits : IsFitted f e mid
  same : SameContent fit mid

abbrev Comes : Format → Content → Format → Content → Type 0
Comes f fit g e = (f ≡ g) × Back f fit e

back3 : (x : Graph) (g : Format) (e : Content) (d : Document Graph) → IsDocumentOf g e d → DocumentsMatch ComesBack (value3 x) d → Comes Amf3 (value x) g e
back3 x Amf3 (value y) d is t = (refl, record { mid = value y; fits = refl; same = subst (DocumentsMatch ComesBack (value3 x)) is t })
back3 x Amf0 (value y) d is t = absurd (subst (DocumentsMatch ComesBack (value3 x)) is t)
back3 x Packet (packet q) d is t = absurd (subst (DocumentsMatch ComesBack (value3 x)) is t)
back3 x Sol (file o) d is t = absurd (subst (DocumentsMatch ComesBack (value3 x)) is t)
back3 x _ _ d is t = absurd is

back0 : (h x : Graph) → IsFitted Amf0 (value h) (value x) → (g : Format) (e : Content) (d : Document Graph) → IsDocumentOf g e d → DocumentsMatch ComesBack (value0 x) d → Comes Amf0 (value x) g e
back0 h x low Amf0 (value y) d is t = let a = graph_again h x y low (subst (DocumentsMatch ComesBack (value0 x)) is t) in (refl, record { mid = value a.0; fits = a.1; same = a.2 })
back0 h x low Amf3 (value y) d is t = absurd (subst (DocumentsMatch ComesBack (value0 x)) is t)
back0 h x low Packet (packet q) d is t = absurd (subst (DocumentsMatch ComesBack (value0 x)) is t)
back0 h x low Sol (file o) d is t = absurd (subst (DocumentsMatch ComesBack (value0 x)) is t)
back0 h x low _ _ d is t = absurd is

back_packet : (p x : PacketOf) → IsFitted Packet (packet p) (packet x) → (g : Format) (e : Content) (d : Document Graph) → IsDocumentOf g e d → DocumentsMatch ComesBack (packet_document x) d → Comes Packet (packet x) g e
back_packet p x low Packet (packet q) d is t = let a = packet_again p x q low (subst (DocumentsMatch ComesBack (packet_document x)) is t) in (refl, record { mid = packet a.0; fits = a.1; same = a.2 })
back_packet p x low Amf3 (value y) d is t = absurd (subst (DocumentsMatch ComesBack (packet_document x)) is t)
back_packet p x low Amf0 (value y) d is t = absurd (subst (DocumentsMatch ComesBack (packet_document x)) is t)
back_packet p x low Sol (file o) d is t = absurd (subst (DocumentsMatch ComesBack (packet_document x)) is t)
back_packet p x low _ _ d is t = absurd is

back_file : (o x : Shared) → IsFitted Sol (file o) (file x) → (g : Format) (e : Content) (d : Document Graph) → IsDocumentOf g e d → DocumentsMatch ComesBack (file_document x) d → Comes Sol (file x) g e
back_file o x low Sol (file k) d is t = let a = file_again o x k low (subst (DocumentsMatch ComesBack (file_document x)) is t) in (refl, record { mid = file a.0; fits = a.1; same = a.2 })
back_file o x low Amf3 (value y) d is t = absurd (subst (DocumentsMatch ComesBack (file_document x)) is t)
back_file o x low Amf0 (value y) d is t = absurd (subst (DocumentsMatch ComesBack (file_document x)) is t)
back_file o x low Packet (packet q) d is t = absurd (subst (DocumentsMatch ComesBack (file_document x)) is t)
back_file o x low _ _ d is t = absurd is

comes : (layout : Layout) (f g : Format) (c fit e : Content) (text : List ℕ) → IsReadyContent f c → IsFitted f c fit → Tells layout f fit text → MeansContent g e text → Comes f fit g e
comes layout Amf3 g (value h) (value x) e text ready is tells m =
    let r = value_ready form.Amf3 h x ready is in
    back3 x g e m.0 m.2 (there_and_back.document (layout_of layout) (value3 x) m.0 text r.0 r.1 tells m.1.means)
comes layout Amf0 g (value h) (value x) e text ready is tells m =
    let r = value_ready form.Amf0 h x ready is in
    back0 h x is g e m.0 m.2 (there_and_back.document (layout_of layout) (value0 x) m.0 text r.0 r.1 tells m.1.means)
comes layout Packet g (packet p) (packet x) e text ready is tells m =
    let r = packet_ready p x ready is in
    back_packet p x is g e m.0 m.2 (there_and_back.document (layout_of layout) (packet_document x) m.0 text r.0 r.1 tells m.1.means)
comes layout Sol g (file o) (file x) e text ready is tells m =
    let r = file_ready o x ready is in
    back_file o x is g e m.0 m.2 (there_and_back.document (layout_of layout) (file_document x) m.0 text r.0 r.1 tells m.1.means)
comes layout Amf3 g (value h) _ e text ready is tells m = absurd is
comes layout Amf0 g (value h) _ e text ready is tells m = absurd is
comes layout Packet g (packet p) _ e text ready is tells m = absurd is
comes layout Sol g (file o) _ e text ready is tells m = absurd is
comes layout _ g _ _ e text ready is tells m = absurd ready

-- fitted contents that are the same are alike

has_holder : (o : Shared) → IsTellable (file_document o) → HasHolder o.holder
has_holder o t = (t.2, is_holder o.holder t.2 t.1 t.3)

fitted_alike : (f : Format) (c fit mid : Content) → IsReadyContent f c → IsFitted f c fit → SameContent fit mid → IsAlike f fit mid
fitted_alike Amf3 (value h) (value x) (value y) ready is same = same
fitted_alike Amf0 (value h) (value x) (value y) ready is same = same
fitted_alike Packet (packet p) (packet x) (packet y) ready is same = (x, packet_laws.again p x is, same)
fitted_alike Sol (file o) (file x) (file y) ready is same = (has_holder x (file_ready o x ready is).0, x, file_fits_again o x is, same)
fitted_alike Amf3 (value h) (value x) _ ready is same = absurd same
fitted_alike Amf0 (value h) (value x) _ ready is same = absurd same
fitted_alike Packet (packet p) (packet x) _ ready is same = absurd same
fitted_alike Sol (file o) (file x) _ ready is same = absurd same
fitted_alike Amf3 (value h) _ _ ready is same = absurd is
fitted_alike Amf0 (value h) _ _ ready is same = absurd is
fitted_alike Packet (packet p) _ _ ready is same = absurd is
fitted_alike Sol (file o) _ _ ready is same = absurd is
fitted_alike _ _ _ _ ready is same = absurd ready

-- what a text means can be told, so its fitted content is alike too
meant_alike : (f : Format) (e mid fit : Content) (d : Document Graph) → IsDocumentOf f e d → IsTellable d → IsFitted f e mid → SameContent mid fit → IsAlike f mid fit
meant_alike Amf3 (value h) (value x) (value y) d of t is same = same
meant_alike Amf0 (value h) (value x) (value y) d of t is same = same
meant_alike Packet (packet p) (packet x) (packet y) d of t is same = (x, packet_laws.again p x is, same)
meant_alike Sol (file o) (file x) (file y) d of t is same = (holder_fitted o.version o.holder x.holder is.holder (has_holder o (subst IsTellable of t)), x, file_fits_again o x is, same)
meant_alike Amf3 (value h) (value x) _ d of t is same = absurd same
meant_alike Amf0 (value h) (value x) _ d of t is same = absurd same
meant_alike Packet (packet p) (packet x) _ d of t is same = absurd same
meant_alike Sol (file o) (file x) _ d of t is same = absurd same
meant_alike Amf3 (value h) _ _ d of t is same = absurd is
meant_alike Amf0 (value h) _ _ d of t is same = absurd is
meant_alike Packet (packet p) _ _ d of t is same = absurd is
meant_alike Sol (file o) _ _ d of t is same = absurd is
meant_alike _ _ _ _ d of t is same = absurd of

-- a content that is ready is the same as itself
ready_itself : (f : Format) (c : Content) → IsReadyContent f c → SameContent c c
ready_itself Amf3 (value h) r = same_itself Amf3 (value h) (value3 h) refl r.0
ready_itself Amf0 (value h) r = same_itself Amf0 (value h) (value0 h) refl r.0
ready_itself Packet (packet p) r = same_itself Packet (packet p) (packet_document p) refl r.0
ready_itself Sol (file o) r = same_itself Sol (file o) (file_document o) refl r.0
ready_itself _ _ r = absurd r

-- what is fitted is so already
again : (f : Format) (c fit : Content) → IsFitted f c fit → IsFitted f fit fit
again Amf3 (value h) (value x) d = refl
again Amf0 (value h) (value x) d = lowered_again h x d
again Packet (packet p) (packet x) d = packet_laws.again p x d
again Sol (file o) (file x) d = file_fits_again o x d
again _ _ _ d = absurd d

-- what is meant is a content of the format that was told
meaning : (f : Format) (fit : Content) (text : List ℕ) → length text ≤ text_limit → IsMeant f fit text → (e : Content) × MeansContent f e text
meaning Amf3 (value x) text short (d, m, z) = let e = meant_content ReadsAs Amf3 (value x) (value3 x) d refl z in (e.0, (d, record { within = short; means = m }, e.1))
meaning Amf0 (value x) text short (d, m, z) = let e = meant_content ReadsAs Amf0 (value x) (value0 x) d refl z in (e.0, (d, record { within = short; means = m }, e.1))
meaning Packet (packet x) text short (d, m, z) = let e = meant_content ReadsAs Packet (packet x) (packet_document x) d refl z in (e.0, (d, record { within = short; means = m }, e.1))
meaning Sol (file x) text short (d, m, z) = let e = meant_content ReadsAs Sol (file x) (file_document x) d refl z in (e.0, (d, record { within = short; means = m }, e.1))
meaning _ _ text short m = absurd m

module _ (layout : Layout) (f : Format) (c fit : Content) (text : List ℕ) (ready : IsReadyContent f c) (is : IsFitted f c fit) (tells : Tells layout f fit text) where
  module _ (e : Content) (m : MeansContent f e text) where
    b : Back f fit e
    b = (comes layout f f c fit e text ready is tells m).1

    to_canon : (bytes : List ℕ) → IsWritten f e bytes → IsWritten f c bytes
    to_canon bytes (one, of, s) =
        (fit, is, (decides_alike f e e one b.mid (alike_itself text f e m) of b.fits bytes s fit).0 (fitted_alike f c fit b.mid ready is b.same))

    to_bytes : (bytes : List ℕ) → IsWritten f c bytes → IsWritten f e bytes
    to_bytes bytes (one, of, s) =
        (b.mid, b.fits, (decides_alike f c c one fit (ready_itself f c ready) of is bytes s b.mid).0 (meant_alike f e b.mid fit m.0 m.2 (whole_laws.tellable text m.0 m.1.means) b.fits (content_sym fit b.mid b.same)))

    lack_to_canon : (number : ℕ) (l : Lack) → IsUnwritten f e number l → IsUnwritten f c number l
    lack_to_canon number l (one, of, k) =
        let here = lacks_too f e e one b.mid (alike_itself text f e m) of b.fits number l k in
        (fit, is, lacks_too f b.mid fit b.mid fit (content_sym fit b.mid b.same) (again f e b.mid b.fits) (again f c fit is) number l here)

    lack_to_bytes : (number : ℕ) (l : Lack) → IsUnwritten f c number l → IsUnwritten f e number l
    lack_to_bytes number l (one, of, k) =
        let here = lacks_too f c c one fit (ready_itself f c ready) of is number l k in
        (b.mid, b.fits, lacks_too f fit b.mid fit b.mid b.same (again f c fit is) (again f e b.mid b.fits) number l here)

-- of any text of a content
module _ (layout : Layout) (f : Format) (c : Content) (text : List ℕ) (told : IsTold layout f c text) (short : length text ≤ text_limit) where
  of_format : (g : Format) (e : Content) → MeansContent g e text → f ≡ g
  of_format g e m = (comes layout f g c told.1 e text told.0 told.2 told.3 m).0

  bytes_alike : (bytes : List ℕ) → IsTextBytes text bytes ↔ IsWritten f c bytes
  bytes_alike bytes = (
    λ b. (let same : b.0 ≡ f = sym (of_format b.0 b.1 b.2) in
        to_canon layout f c told.1 text told.0 told.2 told.3 b.1 (subst (λ g. MeansContent g b.1 text) same b.2) bytes (subst (λ g. IsWritten g b.1 bytes) same b.3)),
    λ w. (let e = meaning f told.1 text short told.4 in (f, e.0, e.1, to_bytes layout f c told.1 text told.0 told.2 told.3 e.0 e.1 bytes w)),
  )

  lacks_alike : (number : ℕ) (l : Lack) → LacksBytes text number l ↔ IsUnwritten f c number l
  lacks_alike number l = (
    λ b. (let same : b.0 ≡ f = sym (of_format b.0 b.1 b.2) in
        lack_to_canon layout f c told.1 text told.0 told.2 told.3 b.1 (subst (λ g. MeansContent g b.1 text) same b.2) number l (subst (λ g. IsUnwritten g b.1 number l) same b.3)),
    λ w. (let e = meaning f told.1 text short told.4 in (f, e.0, e.1, lack_to_bytes layout f c told.1 text told.0 told.2 told.3 e.0 e.1 number l w)),
  )

-- a content that is ready has one spelling with each that the same input spells
module _ (f : Format) (c d : Content) (ready : IsReadyContent f c) (same : SameContent d c) (fit : Content) (is : IsFitted f c fit) where
  itself : IsAlike f fit fit
  itself = fitted_alike f c fit fit ready is (fits_alike f c c fit fit (ready_itself f c ready) is is)

  written_too : (bytes : List ℕ) → IsWritten f d bytes → IsWritten f c bytes
  written_too bytes (other, also, s) = (fit, is, (decides_alike f d c other fit same also is bytes s fit).0 itself)

  unwritten_too : (number : ℕ) (l : Lack) → IsUnwritten f d number l → IsUnwritten f c number l
  unwritten_too number l (other, also, k) = (fit, is, lacks_too f d c other fit same also is number l k)

-- of the text of an input
module _ (f : Format) (layout : Layout) (input text : List ℕ) (c : Content) (of : IsInputOf f c input) (told : IsTold layout f c text) (short : length text ≤ text_limit) where
  from_canon : (bytes : List ℕ) → IsConverted f f input bytes → IsTextBytes text bytes
  from_canon bytes (k, j, w) = (bytes_alike layout f c text told short bytes).1 (written_too f c k told.0 (same_input f k c input j of) told.1 told.2 bytes w)

  input_bytes : (bytes : List ℕ) → IsTextBytes text bytes ↔ IsConverted f f input bytes
  input_bytes bytes = (λ b. (c, of, (bytes_alike layout f c text told short bytes).0 b), λ w. from_canon bytes w)

  lack_from_canon : (number : ℕ) (l : Lack) → IsUnconverted f f input number l → LacksBytes text number l
  lack_from_canon number l (k, j, w) = (lacks_alike layout f c text told short number l).1 (unwritten_too f c k told.0 (same_input f k c input j of) told.1 told.2 number l w)

  input_lacks : (number : ℕ) (l : Lack) → LacksBytes text number l ↔ IsUnconverted f f input number l
  input_lacks number l = (λ b. (c, of, (lacks_alike layout f c text told short number l).0 b), λ w. lack_from_canon number l w)

-- canonical bytes are the canonical spelling of each content that they spell
canonical_again : (f : Format) (c d fit : Content) (bytes : List ℕ) → IsWritten f c bytes → IsReadyContent f d → Spelled f free d bytes → IsFitted f d fit → IsWritten f d bytes
canonical_again f c d fit bytes (one, of, s) ready spelled is =
    let here : IsFitted f one one = again f c one of in
    let same : SameContent one d = same_bytes f one d bytes (forgotten f one bytes here s) spelled in
    written_too f d one ready same fit is bytes (one, here, s)

told_again : (f : Format) (c : Content) (bytes : List ℕ) → IsWritten f c bytes → (layout : Layout) (other : List ℕ) → IsJson f layout bytes other → length other ≤ text_limit → IsTextBytes other bytes
told_again f c bytes w layout other (d, of, told) short =
    from_canon f layout bytes other d of told short bytes (d, of, canonical_again f c d told.1 bytes w told.0 (spells_free f d bytes of) told.2)

pub text_there_and_back : ThereAndBack
text_there_and_back text = record {
  bytes = λ f layout input json short bytes. input_bytes f layout input text json.0 json.1 json.2 short bytes;
  lacks = λ f layout input json short number l. input_lacks f layout input text json.0 json.1 json.2 short number l;
  again = λ f c bytes m w layout other json short. told_again f c bytes w layout other json short;
}
