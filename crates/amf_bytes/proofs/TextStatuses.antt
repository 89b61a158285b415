-- Each input has one end, but that a read or a write may fail, and memory may run out.
use Rattle.std.proofs.Common.{ℕ, List}
use Rattle.amf_graph.specs.declared.lack.Lack.{Lack}
use Rattle.amf_graph.specs.Graph.{Graph}
use Rattle.amf_text.specs.declared.reason.TextReason.{TextReason}
use Rattle.amf_text.specs.Scalars.{read_number}
use Rattle.amf_text.specs.Documents.{Document}
use Rattle.amf_text.specs.Refused.{IsTextAccepted, IsTextRefused}
use Rattle.amf_text_laws.proofs.Verdicts.{one_verdict}
use Rattle.amf_commands.proofs.Formats.{not_both_alike}
use Rattle.amf_bytes.specs.Meanings.{IsTextBytes, LacksBytes}
use Rattle.amf_bytes.proofs.MeantBytes.{alike_itself, lacks_ever}

-- what is accepted is not refused
pub never_refused : (input : List ℕ) (d : Document Graph) (reason : TextReason) (at : ℕ) → IsTextAccepted read_number input d → IsTextRefused read_number input reason at → ⊥
never_refused input d reason at a r = one_verdict.never_both read_number input d reason at a r

pub made_not_refused : (input bytes : List ℕ) (reason : TextReason) (at : ℕ) → IsTextBytes input bytes → IsTextRefused read_number input reason at → ⊥
made_not_refused input bytes reason at b r = never_refused input b.2.0 reason at b.2.1 r

pub lacking_not_refused : (input : List ℕ) (number : ℕ) (l : Lack) (reason : TextReason) (at : ℕ) → LacksBytes input number l → IsTextRefused read_number input reason at → ⊥
lacking_not_refused input number l reason at k r = never_refused input k.2.0 reason at k.2.1 r

-- a text has bytes or a lack, and not both
pub made_not_lacking : (input bytes : List ℕ) (number : ℕ) (l : Lack) → IsTextBytes input bytes → LacksBytes input number l → ⊥
made_not_lacking input bytes number l (f, c, m, (fit, is, s)) k = not_both_alike f c c fit fit (alike_itself input f c m) is is bytes number l s (lacks_ever input number l k f c fit m is)
