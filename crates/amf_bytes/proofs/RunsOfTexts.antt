-- What was made of the text that was taken was made of the input.
use Rattle.std.proofs.Common.{◌≡◌, ℕ, ◌<◌, ◌≤◌, List, [], length, take, fold, Result, Ok, Err, ap, ◌∙◌, subst, arith}
use Rattle.std.specs.declared.vec.Vec.{Vec}
use Rattle.std.specs.declared.alloc.Global.{Global}
use Rattle.amf_text.specs.declared.reason.TextReason.{TextReason}
use Rattle.amf_text.specs.Scalars.{read_number}
use Rattle.amf_text.specs.Refused.{IsTextRefused, too_large, within, next_position, text_limit}
use Rattle.amf_text_read.specs.declared.verdict.Refusal.{Refusal}
use Rattle.amf_text_read.specs.TextVerdicts.{IsRefusedSo}
use Rattle.amf_bytes.specs.declared.ending.BytesEnd.{BytesEnd}
use Rattle.amf_bytes.specs.declared.ending.BytesEnd.TheVariants.{Refused, ReadFault, WriteFault, NoForm, Memory}
use Rattle.amf_bytes.specs.Meanings.{MeansContent}
use Rattle.amf_bytes.specs.TextRuns.{RunsText}
use Rattle.amf_bytes.specs.TextSteps.{IsTextOf, whole, longer, MakesBytes, OutputText}
use Rattle.amf_bytes.proofs.MeantBytes.{lacks_ever}
use Rattle.amf_commands.specs.declared.format.Format.{Format}
use Rattle.amf_commands.specs.Content.{Content}

not_within : (n : ℕ) → n ≤ text_limit → text_limit < n → ⊥
not_within n a b = omega (arith, a, b)

-- of a text that is too long only the front counts
module _ (input text : List ℕ) (long : text_limit < length input) (longest : text_limit < length text) (same : take text_limit text ≡ take text_limit input) where
  means_nothing : (f : Format) (c : Content) → MeansContent f c text → ⊥
  means_nothing f c m = not_within (length text) m.1.within longest

  refused_there : (reason : TextReason) (at : ℕ) → IsTextRefused read_number text reason at → IsTextRefused read_number input reason at × (take at text ≡ take at input)
  refused_there reason at (too_large l) = (too_large long, same)
  refused_there reason at (within l r) = absurd (not_within (length text) l longest)

  refused_longer : (f : Refusal) → IsRefusedSo text f → IsRefusedSo input f
  refused_longer f r =
      let t = refused_there f.reason f.at r.why in
      record {
        why = t.0;
        line = r.line ∙ ap (λ l. (fold next_position (record { line = 1; column = 1 }) l).line) t.1;
        column = r.column ∙ ap (λ l. (fold next_position (record { line = 1; column = 1 }) l).column) t.1;
      }

  of_longer : (rest : List ℕ) (r : Result (Vec ℕ Global) BytesEnd) → MakesBytes text r → OutputText input rest r
  of_longer rest (Ok bytes) m = absurd (means_nothing m.0 m.1 m.2)
  of_longer rest (Err (Refused f)) m = refused_longer f m
  of_longer rest (Err ReadFault) m = absurd m
  of_longer rest (Err WriteFault) m = absurd m
  of_longer rest (Err (NoForm number l)) m = absurd (means_nothing m.0 m.1 m.2)
  of_longer rest (Err Memory) m = tt

of_whole : (input rest : List ℕ) (r : Result (Vec ℕ Global) BytesEnd) → rest ≡ [] → MakesBytes input r → OutputText input rest r
of_whole input rest (Ok bytes) e m = (m, e)
of_whole input rest (Err (Refused f)) e m = m
of_whole input rest (Err ReadFault) e m = absurd m
of_whole input rest (Err WriteFault) e m = absurd m
of_whole input rest (Err (NoForm number l)) e m = (m, e)
of_whole input rest (Err Memory) e m = tt

pub of_text : (input rest text : List ℕ) (r : Result (Vec ℕ Global) BytesEnd) → IsTextOf input rest text → MakesBytes text r → OutputText input rest r
of_text input rest text r (whole is all) m = of_whole input rest r all (subst (λ t. MakesBytes t r) is m)
of_text input rest text r (longer long longest same) m = of_longer input text long longest same rest r m

-- an end before the output is that of the run
pub end_runs : (input rest : List ℕ) (told : Type 0) (held now : List ℕ) (e : BytesEnd) → OutputText input rest (Err e) → RunsText {T = Unit {0}} input rest told held now (Err e)
end_runs input rest told held now (Refused f) m = m
end_runs input rest told held now ReadFault m = m
end_runs input rest told held now WriteFault m = absurd m
end_runs input rest told held now (NoForm number l) m = record { lacking = m.0; every = lacks_ever input number l m.0; all_read = m.1 }
end_runs input rest told held now Memory m = tt
