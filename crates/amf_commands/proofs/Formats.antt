-- What holds of each format.
use Rattle.std.proofs.Common.{◌≡◌, ℕ, List, Result, Ok, Err, IfOk, refl, sym, ◌∙◌, subst}
use Rattle.std.specs.Prelude.{◌↔◌}
use Rattle.amf_wire.specs.Style.{free, canonical}
use Rattle.amf_graph.specs.declared.lack.Lack.{Lack}
use Rattle.amf_graph.specs.Graph.{Graph}
use Rattle.amf_graph.specs.Isomorphic.{Isomorphic}
use Rattle.amf_graph.proofs.Isomorphisms.{isomorphic_sym, isomorphic_trans}
use Rattle.amf3_spelling.specs.Lacks3.{IsLack3}
use Rattle.amf3_spelling.specs.Spells3.{Spelled3}
use Rattle.amf3_spelling.proofs.Decides3.{canonical_decides, canonical_is_alone, same_bytes_isomorphic}
use Rattle.amf3_spelling.proofs.Forget.{forget3}
use Rattle.amf3_spelling.proofs.FirstLack3.{spelling_or_lack}
use Rattle.amf0_spelling.proofs.Decides0.{alone0, canonical_decides0, same_bytes_isomorphic0}
use Rattle.amf0_spelling.proofs.Forget0.{forget_spelled0}
use Rattle.amf0_spelling.proofs.LackTwice0.{spelling_or_lack0}
use Rattle.amf0_spelling.proofs.Low.{lowered_alike}
use Rattle.amf_listings.specs.SamePacket.{SamePacket}
use Rattle.amf_listings.proofs.PacketLawRows.{packet_laws}
use Rattle.amf_listings.proofs.PacketLowerings.{same_sym, same_trans}
use Rattle.amf0_spelling.proofs.LoweredAgain.{lowered_again}
use Rattle.amf_sol.specs.SharedObject.{Shared}
use Rattle.amf_sol.specs.declared.sol_version.SolVersion.{SolVersion}
use Rattle.amf_sol.specs.declared.sol_version.SolVersion.TheVariants as version
use Rattle.amf_listings.specs.SameFile.{SameFile, IsFittedHolder, IsLoweredFile}
use Rattle.amf_listings.proofs.FileLawRows.{file_laws}
use Rattle.amf_commands.specs.declared.format.Format.{Format}
use Rattle.amf_commands.specs.declared.format.Format.TheVariants.{Amf3, Amf0, Packet, Sol}
use Rattle.amf_commands.specs.Content.{Content, value, packet, file}
use Rattle.amf_commands.specs.Formats.{Spelled, IsFitted, IsAlike, IsLackIn, IsWritten, IsUnwritten}

-- the same content but for the numbers of its nodes
abbrev pub SameContent : Content → Content → Type 0
SameContent (value g) (value h) = Isomorphic g h
SameContent (packet p) (packet q) = SamePacket p q
SameContent (file o) (file k) = SameFile o k
SameContent _ _ = ⊥

file_sym : (o k : Shared) → SameFile o k → SameFile k o
file_sym o k m = record { name = sym m.name; version = sym m.version; holder = isomorphic_sym o.holder k.holder m.holder }

file_trans : (o k q : Shared) → SameFile o k → SameFile k q → SameFile o q
file_trans o k q m n = record { name = m.name ∙ n.name; version = m.version ∙ n.version; holder = isomorphic_trans o.holder k.holder q.holder m.holder n.holder }

holder_again : (v : SolVersion) (g y : Graph) → IsFittedHolder v g y → IsFittedHolder v y y
holder_again version.Amf0 g y is = lowered_again g y is
holder_again version.Amf3 g y is = refl

-- a lowering of a file is its own
pub file_again : (o low : Shared) → IsLoweredFile o low → IsLoweredFile low low
file_again o low m = record { name = refl; version = refl; holder = subst (λ v. IsFittedHolder v low.holder low.holder) m.version (holder_again o.version o.holder low.holder m.holder) }

pub content_sym : (c d : Content) → SameContent c d → SameContent d c
content_sym (value g) (value h) i = isomorphic_sym g h i
content_sym (packet p) (packet q) i = same_sym p q i
content_sym (file o) (file k) i = file_sym o k i
content_sym _ _ i = absurd i

-- what is fitted is so already
fits_again : (f : Format) (c fit : Content) → IsFitted f c fit → IsFitted f fit fit
fits_again Amf3 (value g) (value x) d = refl
fits_again Amf0 (value g) (value x) d = lowered_again g x d
fits_again Packet (packet p) (packet x) d = packet_laws.again p x d
fits_again Sol (file o) (file x) d = file_again o x d
fits_again _ _ _ d = absurd d

-- a canonical spelling of what is fitted is a spelling
pub forgotten : (f : Format) (c : Content) (b : List ℕ) → IsFitted f c c → Spelled f canonical c b → Spelled f free c b
forgotten Amf3 (value g) b d (fs, (t, z), e) = (fs, (t, forget3 canonical g g.root _ fs t z), e)
forgotten Amf0 (value g) b d s = forget_spelled0 canonical g b s
forgotten Packet (packet p) b d s = packet_laws.forget p p b s d
forgotten Sol (file o) b d s = file_laws.forget o o b s d
forgotten _ _ b d s = absurd d

-- two contents that the same bytes spell are the same
pub same_bytes : (f : Format) (c d : Content) (b : List ℕ) → Spelled f free c b → Spelled f free d b → SameContent c d
same_bytes Amf3 (value g) (value h) b s r = same_bytes_isomorphic g h b s r
same_bytes Amf0 (value g) (value h) b s r = same_bytes_isomorphic0 g h b s r
same_bytes Packet (packet p) (packet q) b s r = packet_laws.same_bytes p q b s r
same_bytes Sol (file o) (file k) b s r = file_laws.same_bytes o k b s r
same_bytes Amf3 (value g) _ b s r = absurd r.1
same_bytes Amf0 (value g) _ b s r = absurd r.1
same_bytes Packet (packet p) _ b s r = absurd r.1
same_bytes Sol (file o) _ b s r = absurd r.1
same_bytes _ _ _ b s r = absurd s.1

-- no content has two canonical spellings
pub alone : (f : Format) (c : Content) (b d : List ℕ) → Spelled f canonical c b → Spelled f canonical c d → b ≡ d
alone Amf3 (value g) b d s r = canonical_is_alone g b d s r
alone Amf0 (value g) b d s r = alone0.bytes g b d s r
alone Packet (packet p) b d s r = packet_laws.alone p b d s r
alone Sol (file o) b d s r = file_laws.alone o b d s r
alone _ _ b d s r = absurd s.1

-- canonical bytes of what is fitted are so for exactly the contents that are alike
pub every : (f : Format) (c : Content) (b : List ℕ) → IsFitted f c c → Spelled f canonical c b → (other : Content) → IsAlike f other c ↔ Spelled f canonical other b
every Amf3 (value g) b d s (value h) = canonical_decides.every g b s h
every Amf0 (value g) b d s (value h) = canonical_decides0.every g b s h
every Packet (packet p) b d s (packet q) = packet_laws.every p p b s d q
every Sol (file o) b d s (file q) = file_laws.every o o b s d q
every Amf3 (value g) b d s _ = ((λ i. absurd i), (λ t. absurd t.1))
every Amf0 (value g) b d s _ = ((λ i. absurd i), (λ t. absurd t.1))
every Packet (packet p) b d s _ = ((λ i. absurd i), (λ t. absurd t.1))
every Sol (file o) b d s _ = ((λ i. absurd i), (λ t. absurd t.1))
every _ _ b d s other = absurd d

-- the same contents are the same in the kinds that a format has
pub fits_alike : (f : Format) (c d fit other : Content) → SameContent c d → IsFitted f c fit → IsFitted f d other → SameContent fit other
fits_alike Amf3 (value g) (value h) (value x) (value y) i d e = subst (λ (w : Graph). Isomorphic w y) (sym d) (subst (λ (w : Graph). Isomorphic g w) (sym e) i)
fits_alike Amf0 (value g) (value h) (value x) (value y) i d e = lowered_alike g h x y i d e
fits_alike Packet (packet p) (packet q) (packet x) (packet y) i d e = packet_laws.lowered_alike p q x y i d e
fits_alike Sol (file o) (file k) (file x) (file y) i d e = file_laws.lowered_alike o k x y i d e
fits_alike Amf3 (value g) (value h) (value x) _ i d e = absurd e
fits_alike Amf0 (value g) (value h) (value x) _ i d e = absurd e
fits_alike Packet (packet p) (packet q) (packet x) _ i d e = absurd e
fits_alike Sol (file o) (file k) (file x) _ i d e = absurd e
fits_alike Amf3 (value g) (value h) _ _ i d e = absurd d
fits_alike Amf0 (value g) (value h) _ _ i d e = absurd d
fits_alike Packet (packet p) (packet q) _ _ i d e = absurd d
fits_alike Sol (file o) (file k) _ _ i d e = absurd d
fits_alike Amf3 (value g) _ _ _ i d e = absurd i
fits_alike Amf0 (value g) _ _ _ i d e = absurd i
fits_alike Packet (packet p) _ _ _ i d e = absurd i
fits_alike Sol (file o) _ _ _ i d e = absurd i
fits_alike _ _ _ _ _ i d e = absurd d

-- what is alike to the one is alike to the other
alike_over : (f : Format) (fit other k : Content) → SameContent other fit → IsAlike f k other → IsAlike f k fit
alike_over Amf3 (value g) (value h) (value k) i a = isomorphic_trans k h g a i
alike_over Amf0 (value g) (value h) (value k) i a = isomorphic_trans k h g a i
alike_over Packet (packet g) (packet h) (packet k) i (low, is, same) = (low, is, same_trans low h g same i)
alike_over Sol (file g) (file h) (file k) i (has, low, is, same) = (has, low, is, file_trans low h g same i)
alike_over _ (value g) (packet h) _ i a = absurd i
alike_over _ (value g) (file h) _ i a = absurd i
alike_over _ (packet g) (value h) _ i a = absurd i
alike_over _ (packet g) (file h) _ i a = absurd i
alike_over _ (file g) (value h) _ i a = absurd i
alike_over _ (file g) (packet h) _ i a = absurd i
alike_over _ _ _ (value k) i a = absurd a
alike_over _ _ _ (packet k) i a = absurd a
alike_over _ _ _ (file k) i a = absurd a

-- a fitted content that is the same, and has a canonical spelling, is alike
fitted_alike : (f : Format) (d other fit : Content) (b : List ℕ) → IsFitted f d other → Spelled f canonical other b → SameContent other fit → IsAlike f other fit
fitted_alike Amf3 (value d) (value h) (value g) b e s i = i
fitted_alike Amf0 (value d) (value h) (value g) b e s i = i
fitted_alike Packet (packet d) (packet h) (packet g) b e s i = (h, packet_laws.again d h e, i)
fitted_alike Sol (file d) (file h) (file g) b e s i = (file_laws.holder h b s, h, file_again d h e, i)
fitted_alike Amf3 (value d) (value h) _ b e s i = absurd i
fitted_alike Amf0 (value d) (value h) _ b e s i = absurd i
fitted_alike Packet (packet d) (packet h) _ b e s i = absurd i
fitted_alike Sol (file d) (file h) _ b e s i = absurd i
fitted_alike _ _ _ _ b e s i = absurd e

-- a content has a canonical spelling or a lack, and not both
not_both : (f : Format) (c : Content) (b : List ℕ) (number : ℕ) (l : Lack) → Spelled f canonical c b → IsLackIn f c number l → ⊥
not_both Amf3 (value g) b number l (fs, p, e) k = spelling_or_lack.not_both g fs l.node l.kind p k.1
not_both Amf0 (value g) b number l (fs, p, e) k = spelling_or_lack0.not_both g fs l.node l.kind p k.1
not_both Packet (packet p) b number l s k = packet_laws.not_both p b number l.node l.kind s k
not_both Sol (file o) b number l s k = file_laws.not_both o b l.node l.kind s k.1
not_both _ _ b number l s k = absurd k

-- the same fitted contents have the same lack
lacks_over : (f : Format) (fit other : Content) → IsFitted f fit fit → IsFitted f other other → SameContent fit other → (number : ℕ) (l : Lack) → IsLackIn f fit number l → IsLackIn f other number l
lacks_over Amf3 (value x) (value y) d e i number l k = (k.0, spelling_or_lack.alike x y i l.node l.kind k.1)
lacks_over Amf0 (value x) (value y) d e i number l k = (k.0, spelling_or_lack0.alike x y i l.node l.kind k.1)
lacks_over Packet (packet x) (packet y) d e i number l k = packet_laws.lacks_alike x y x y i d e number l.node l.kind k
lacks_over Sol (file x) (file y) d e i number l k = (k.0, file_laws.lacks_alike x y i d e l.node l.kind k.1)
lacks_over Amf3 (value x) _ d e i number l k = absurd i
lacks_over Amf0 (value x) _ d e i number l k = absurd i
lacks_over Packet (packet x) _ d e i number l k = absurd i
lacks_over Sol (file x) _ d e i number l k = absurd i
lacks_over _ _ _ d e i number l k = absurd k

-- the same contents have the same lack
pub lacks_too : (f : Format) (c d fit other : Content) → SameContent c d → IsFitted f c fit → IsFitted f d other → (number : ℕ) (l : Lack) → IsLackIn f fit number l → IsLackIn f other number l
lacks_too f c d fit other i a b = lacks_over f fit other (fits_again f c fit a) (fits_again f d other b) (fits_alike f c d fit other i a b)

-- what the bytes are of one content they are of each that the same input spells
module _ (f : Format) (c d fit other : Content) (same : SameContent c d) (is : IsFitted f c fit) (also : IsFitted f d other) where
  alike : SameContent fit other
  alike = fits_alike f c d fit other same is also

  pub decides_alike : (b : List ℕ) → Spelled f canonical fit b → (k : Content) → IsAlike f k other ↔ Spelled f canonical k b
  decides_alike b s k =
      let e = every f fit b (fits_again f c fit is) s k in (
        λ i. e.0 (alike_over f fit other k (content_sym fit other alike) i),
        λ t. alike_over f other fit k alike (e.1 t),
      )

  pub not_both_alike : (b : List ℕ) (number : ℕ) (l : Lack) → Spelled f canonical fit b → IsLackIn f other number l → ⊥
  not_both_alike b number l s k = not_both f fit b number l s (lacks_too f d c other fit (content_sym c d same) also is number l k)

-- canonical bytes are the canonical spelling of each content that they spell
pub written_again : (f : Format) (c d : Content) (b out : List ℕ) → IsWritten f c b → Spelled f free d b → IsWritten f d out → out ≡ b
written_again f c d b out (fit, is, s) r (other, also, t) =
    let again = fits_again f c fit is in
    let here : SameContent fit d = same_bytes f fit d b (forgotten f fit b again s) r in
    let still : SameContent fit other = fits_alike f fit d fit other here again also in
    alone f other out b t ((every f fit b again s other).0 (fitted_alike f d other fit out also t (content_sym fit other still)))

-- AMF 3 has all kinds
pub as_written : {X E : Type 0} (items : X → List ℕ) (f : Format) (g : Graph) (r : Result X E) → f ≡ Amf3 → IfOk r (λ v. Spelled3 canonical g (items v)) → IfOk r (λ v. IsWritten f (value g) (items v))
as_written items f g (Err e) is h = tt
as_written items Amf3 g (Ok v) is h = (value g, refl, h)
as_written items Amf0 g (Ok v) is h = absurd cc
as_written items Packet g (Ok v) is h = absurd cc
as_written items Sol g (Ok v) is h = absurd cc

pub as_unwritten : (f : Format) (g : Graph) (l : Lack) → f ≡ Amf3 → IsLack3 g l.node l.kind → IsUnwritten f (value g) 0 l
as_unwritten Amf3 g l is h = (value g, refl, (refl, h))
as_unwritten Amf0 g l is h = absurd cc
as_unwritten Packet g l is h = absurd cc
as_unwritten Sol g l is h = absurd cc
