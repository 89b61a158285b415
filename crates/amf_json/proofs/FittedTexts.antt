-- The text of what is fitted is that of the input.
use Rattle.std.proofs.Common.{◌≡◌, ℕ, List, map, refl, sym, ap, subst}
use Rattle.std.specs.List.{AllZip}
use Rattle.amf_graph.specs.Graph.{Graph}
use Rattle.amf0_spelling.specs.Lowered.{IsLoweringOf}
use Rattle.amf_packet.specs.Packet.{Header, Message, Packet}
use Rattle.amf_sol.specs.declared.sol_version.SolVersion.TheVariants as version
use Rattle.amf_sol.specs.SharedObject.{Shared, HasHolder}
use Rattle.amf_listings.specs.SamePacket.{HeadersMatch, MessagesMatch, IsFittedGraph}
use Rattle.amf_listings.specs.SameFile.{IsFittedHolder}
use Rattle.amf_text.specs.Documents.{file, packet}
use Rattle.amf_text.specs.Texts.{IsDocumentText}
use Rattle.amf_text_write.specs.declared.files.FileVersion.{FileVersion}
use Rattle.amf_text_write.specs.declared.files.FileVersion.TheVariants as told
use Rattle.amf_text_write.specs.declared.layout.Layout.{Layout}
use Rattle.amf_text_write.specs.declared.values.ValueForm.{ValueForm}
use Rattle.amf_text_write.specs.declared.values.ValueForm.TheVariants as value
use Rattle.amf_text_write.specs.ValueTexts.{layout_of, HasNodeRoot, IsValueText, IsFileText, version_of}
use Rattle.amf_json.specs.JsonTexts.{header_told, message_told, version_told, IsValueJson, IsPacketJson, IsFileJson}

pub told_amf3 : (layout : Layout) (form : ValueForm) (g : Graph) (text : List ℕ) → form ≡ value.Amf3 → IsValueText layout value.Amf3 g text → IsValueJson layout form g text
told_amf3 layout form g text e t = subst (λ f. IsValueJson layout f g text) (sym e) (g, refl, t)

pub told_amf0 : (layout : Layout) (form : ValueForm) (g low : Graph) (text : List ℕ) → form ≡ value.Amf0 → IsLoweringOf g low → IsValueText layout value.Amf0 low text → IsValueJson layout form g text
told_amf0 layout form g low text e l t = subst (λ f. IsValueJson layout f g text) (sym e) (low, l, t)

pub has_root : (g : Graph) → HasHolder g → HasNodeRoot g
has_root g h = (h.0, h.1.pairs.root)

-- A file, whose fitted graph was told.

told_file : (layout : Layout) (o : Shared) (name : List ℕ) (version : FileVersion) (fit : Graph) (text : List ℕ) → version_of version ≡ version_told o.version → name ≡ o.name → IsFittedHolder o.version o.holder fit
    → IsFileText layout name version fit text → IsFileJson layout o text
told_file layout o name version fit text e n f t = (
  record { name = o.name; version = o.version; holder = fit },
  record { name = refl; version = refl; holder = f },
  subst (λ v. IsDocumentText (layout_of layout) (file o.name v fit) text) e (subst (λ x. IsFileText layout x version fit text) n t),
)

pub told_file3 : (layout : Layout) (o : Shared) (name : List ℕ) (fit : Graph) (text : List ℕ) → o.version ≡ version.Amf3 → name ≡ o.name → fit ≡ o.holder → IsFileText layout name told.Amf3 fit text → IsFileJson layout o text
told_file3 layout o name fit text e n f t = told_file layout o name told.Amf3 fit text (sym (ap version_told e)) n (subst (λ v. IsFittedHolder v o.holder fit) (sym e) f) t

pub told_file0 : (layout : Layout) (o : Shared) (name : List ℕ) (fit : Graph) (text : List ℕ) → o.version ≡ version.Amf0 → name ≡ o.name → IsLoweringOf o.holder fit → IsFileText layout name told.Amf0 fit text → IsFileJson layout o text
told_file0 layout o name fit text e n f t = told_file layout o name told.Amf0 fit text (sym (ap version_told e)) n (subst (λ v. IsFittedHolder v o.holder fit) (sym e) f) t

-- A packet, whose fitted headers and messages were told.
pub packet_told : (layout : Layout) (p : Packet) (hs : List Header) (ms : List Message) (text : List ℕ) → AllZip (HeadersMatch IsFittedGraph) p.headers hs → AllZip (MessagesMatch IsFittedGraph) p.messages ms
    → IsDocumentText (layout_of layout) (packet p.version (map header_told hs) (map message_told ms)) text → IsPacketJson layout p text
packet_told layout p hs ms text a b t = (record { version = p.version; headers = hs; messages = ms }, record { version = refl; headers = a; messages = b }, t)
