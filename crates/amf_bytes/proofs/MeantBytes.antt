-- What bytes of a text are for one of its meanings they are for each.
use Rattle.std.proofs.Common.{◌≡◌, ℕ, List, sym, subst}
use Rattle.std.specs.Prelude.{◌↔◌}
use Rattle.amf_wire.specs.Style.{canonical}
use Rattle.amf_graph.specs.declared.lack.Lack.{Lack}
use Rattle.amf_text.specs.Scalars.{read_number}
use Rattle.amf_text.proofs.OneMeaning.{one_meaning}
use Rattle.amf_text.proofs.WholeDocuments.{whole_laws}
use Rattle.amf_commands.specs.declared.format.Format.{Format}
use Rattle.amf_commands.specs.Content.{Content}
use Rattle.amf_commands.specs.Formats.{Spelled, IsFitted, IsAlike, IsLackIn}
use Rattle.amf_commands.proofs.Formats.{SameContent, decides_alike, lacks_too}
use Rattle.amf_bytes.specs.Meanings.{IsDocumentOf, MeansContent, IsTextBytes, DecidesBytes, LacksBytes, LacksBytesEver}
use Rattle.amf_bytes.proofs.Documents.{one_format, one_content}
use Rattle.amf_bytes.proofs.Ready.{same_itself}

module _ (text : List ℕ) (f g : Format) (c e : Content) (m : MeansContent f c text) (n : MeansContent g e text) where
  same_document : n.0 ≡ m.0
  same_document = one_meaning.one read_number text n.0 m.0 n.1.means m.1.means

  pub same_format : f ≡ g
  same_format = one_format f g c e m.0 m.2 (subst (IsDocumentOf g e) same_document n.2)

  pub same_content : c ≡ e
  same_content = one_content f g c e m.0 m.2 (subst (IsDocumentOf g e) same_document n.2)

pub alike_itself : (text : List ℕ) (f : Format) (c : Content) → MeansContent f c text → SameContent c c
alike_itself text f c m = same_itself f c m.0 m.2 (whole_laws.tellable text m.0 m.1.means)

pub decides : (text bytes : List ℕ) → IsTextBytes text bytes → DecidesBytes text bytes
decides text bytes (f, c, m, (fit, is, s)) = λ g e other k n also.
    let formats : f ≡ g = same_format text f g c e m n in
    let contents : c ≡ e = same_content text f g c e m n in
    let here : IsFitted f c other = subst (λ x. IsFitted f x other) (sym contents) (subst (λ x. IsFitted x e other) (sym formats) also) in
    subst (λ x. IsAlike x k other ↔ Spelled x canonical k bytes) formats (decides_alike f c c fit other (alike_itself text f c m) is here bytes s k)

pub lacks_ever : (text : List ℕ) (number : ℕ) (l : Lack) → LacksBytes text number l → LacksBytesEver text number l
lacks_ever text number l (f, c, m, (fit, is, k)) = λ g e other n also.
    let formats : f ≡ g = same_format text f g c e m n in
    let contents : c ≡ e = same_content text f g c e m n in
    let here : IsFitted f c other = subst (λ x. IsFitted f x other) (sym contents) (subst (λ x. IsFitted x e other) (sym formats) also) in
    subst (λ x. IsLackIn x other number l) formats (lacks_too f c c fit other (alike_itself text f c m) is here number l k)
