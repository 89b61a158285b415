-- What is not asked for begins no text that means something.
use Rattle.std.proofs.Common.{◌≡◌, List, [], ◌∷◌, ◌++◌, None, Some, sym, ap, ◌∙◌}
use Rattle.std.specs.Prelude.{option_and_then}
use Rattle.json.specs.Token.{Token}
use Rattle.amf_text.specs.Scalars.{Reads}
use Rattle.amf_text.specs.Documents.{Document}
use Rattle.amf_text.specs.Accepted.{Part}
use Rattle.amf_text.specs.Asks.{Goal, start, goals_step, left_after, asked}
use Rattle.amf_text.specs.AskLaws.{IsWhole, Begins, FaultLaws, FaultLawsHold}
use Rattle.amf_text.proofs.Goals.{no_answer, and_then_is, after_both}
use Rattle.amf_text.proofs.CompleteDocuments.{document_done}

module _ (reads : Reads) where
  nothing_left : (ts : List Token) (d : Document Part) → IsWhole reads ts d → asked reads ts ≡ Some []
  nothing_left ts d w = ap (left_after reads (start ∷ [])) w.same ∙ document_done reads w.json d w.meant

  asks : (ts : List Token) → Begins reads ts → (gs : List Goal) × (asked reads ts ≡ Some gs)
  asks ts b =
      let h = and_then_is (λ hs. left_after reads hs b.0) (asked reads ts) [] (sym (after_both reads ts b.0 (start ∷ [])) ∙ nothing_left (ts ++ b.0) b.1 b.2) in
      (h.0, h.1)

  first_fault : (ts : List Token) (t : Token) (gs : List Goal) → asked reads ts ≡ Some gs → goals_step reads gs t ≡ None → Begins reads (ts ++ t ∷ []) → ⊥
  first_fault ts t gs e n b =
      let h = asks (ts ++ t ∷ []) b in
      let is = after_both reads ts (t ∷ []) (start ∷ []) ∙ ap (option_and_then (λ hs. left_after reads hs (t ∷ []))) e ∙ ap (option_and_then (λ hs. left_after reads hs [])) n in
      no_answer h.0 (sym is ∙ h.1)

  laws : FaultLaws reads
  laws = record { nothing_left = nothing_left; asks = asks; first_fault = first_fault }

pub fault_laws : FaultLawsHold
fault_laws reads = laws reads
