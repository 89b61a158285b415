-- What the verdict on the input says of the end of a job on media.
use Rattle.std.proofs.Common.{◌≡◌, ◌⊎◌, inl, inr, ℕ, List, ◌++◌, length, sym, subst}
use Rattle.amf_io.specs.declared.ends.Refusal.{Refusal}
use Rattle.amf_io.specs.declared.reason.Reason.{Reason}
use Rattle.amf_io.specs.Repeated.{IsAcceptedToEnd}
use Rattle.amf_io.specs.Verdict.{IsRefused}
use Rattle.amf_graph.specs.declared.lack.Lack.{Lack}
use Rattle.flv_meta.specs.Fields.{IsFileReading}
use Rattle.flv_meta.specs.MetadataAnswer.{LacksMetadata, IsTooLong}
use Rattle.flv_meta.specs.declared.flv_job.FlvJob.{FlvJob}
use Rattle.flv_meta.specs.declared.flv_job.FlvJob.TheVariants as job
use Rattle.amf_media.specs.declared.ending.MediaEnd.TheVariants.{Done, Refused, WriteFault, NoForm, LongData}
use Rattle.amf_media.specs.FlvValues.{IsValueThere}
use Rattle.amf_media.specs.FlvOutput.{show, drop as dropping, set}
use Rattle.amf_media.specs.FlvRuns.{most, Runs, SetRuns, behind_value, at_value}
use Rattle.amf_media.specs.Verdicts.{on_file, IsSetAccepted, IsSetRefused, value_refused, file_refused, IsAcceptedBy, IsRefusedBy, HasRefusedValue, HasFormlessValue}
use Rattle.amf_media.proofs.FlvVerdicts.{accepted_files, done_not_refused}
use Rattle.amf_media.proofs.SetVerdicts.{begun_not_refused, one_front, there_not_lacking, there_not_long, there_not_refused}

-- a file behind one front of the input is that behind another

file_accepted : (input value front later : List ℕ) → input ≡ front ++ later → IsValueThere value front → IsSetAccepted input → IsAcceptedToEnd IsFileReading (length front) most later
file_accepted input value front later e v a =
    let same = one_front input value front later a.value a.front a.later e v a.parts a.there in
    subst (λ (l : List ℕ). IsAcceptedToEnd IsFileReading (length front) most l) (sym same.1) (subst (λ (s : List ℕ). IsAcceptedToEnd IsFileReading (length s) most a.later) (sym same.0) a.accepted)

file_judged : (input value front later other start rest : List ℕ) (reason : Reason) (at : ℕ) → input ≡ front ++ later → IsValueThere value front → input ≡ start ++ rest → IsValueThere other start
    → IsRefused IsFileReading (length start) most rest reason at → IsRefused IsFileReading (length front) most later reason at
file_judged input value front later other start rest reason at e v d w q =
    let same = one_front input value front later other start rest e v d w in
    subst (λ (l : List ℕ). IsRefused IsFileReading (length front) most l reason at) (sym same.1) (subst (λ (s : List ℕ). IsRefused IsFileReading (length s) most rest reason at) (sym same.0) q)

-- a value that has no form cannot be set
formless : (input value front later : List ℕ) → input ≡ front ++ later → IsValueThere value front → HasFormlessValue (on_file job.Set) input → ⊥
formless input value front later e v (inl (l, x)) = there_not_lacking input value front later l x e v
formless input value front later e v (inr x) = there_not_long input value front later x e v

module _ (input rest : List ℕ) (told : Type 0) (held now : List ℕ) where
  -- what is accepted

  set_accepted : (f : Refusal) → SetRuns input rest told held now (Refused f) → IsSetAccepted input → ⊥
  set_accepted f (behind_value value front later v e runs) a =
      let shows : set value ≡ show = (accepted_files (set value) (length front) later rest runs.bytes f (file_accepted input value front later e v a) runs.ends).0 in
      absurd cc
  set_accepted f (at_value ends kept within) a = there_not_refused input a.value a.front a.later f.reason f.at a.parts a.there ends

  pub accepted_stops : (j : FlvJob) (f : Refusal) → Runs j input rest told held now (Refused f) → IsAcceptedBy (on_file j) input → HasRefusedValue (on_file j) input
  accepted_stops job.Show f r a = (f, r.bytes, (accepted_files show 0 input rest r.bytes f a r.ends).1)
  accepted_stops job.Drop f r a = let shows : dropping ≡ show = (accepted_files dropping 0 input rest r.bytes f a r.ends).0 in absurd cc
  accepted_stops job.Set f r a = set_accepted f r a

  set_lacking : (l : Lack) → SetRuns input rest told held now (NoForm l) → IsSetAccepted input → ⊥
  set_lacking l (behind_value value front later v e runs) a = runs.ends
  set_lacking l (at_value ends kept within) a = there_not_lacking input a.value a.front a.later l ends a.parts a.there

  pub accepted_has_form : (j : FlvJob) (l : Lack) → Runs j input rest told held now (NoForm l) → IsAcceptedBy (on_file j) input → ⊥
  accepted_has_form job.Show l r a = r.ends
  accepted_has_form job.Drop l r a = r.ends
  accepted_has_form job.Set l r a = set_lacking l r a

  set_long : SetRuns input rest told held now LongData → IsSetAccepted input → ⊥
  set_long (behind_value value front later v e runs) a = runs.ends
  set_long (at_value ends kept within) a = there_not_long input a.value a.front a.later ends a.parts a.there

  pub accepted_fits : (j : FlvJob) → Runs j input rest told held now LongData → IsAcceptedBy (on_file j) input → ⊥
  accepted_fits job.Show r a = r.ends
  accepted_fits job.Drop r a = r.ends
  accepted_fits job.Set r a = set_long r a

  -- what is refused

  set_done : (reason : Reason) (at : ℕ) → SetRuns input rest told held now Done → IsSetRefused input reason at → ⊥
  set_done reason at (behind_value value front later v e runs) (value_refused q) = there_not_refused input value front later reason at e v q
  set_done reason at (behind_value value front later v e runs) (file_refused other start more w d q) =
      done_not_refused (set value) (length front) later rest runs.bytes reason at runs.ends (file_judged input value front later other start more reason at e v d w q)
  set_done reason at (at_value ends kept within) q = ends

  pub refused_not_done : (j : FlvJob) (reason : Reason) (at : ℕ) → Runs j input rest told held now Done → IsRefusedBy (on_file j) input reason at → ⊥
  refused_not_done job.Show reason at r q = done_not_refused show 0 input rest r.bytes reason at r.ends q
  refused_not_done job.Drop reason at r q = done_not_refused dropping 0 input rest r.bytes reason at r.ends q
  refused_not_done job.Set reason at r q = set_done reason at r q

  set_refused_lacking : (reason : Reason) (at : ℕ) (l : Lack) → SetRuns input rest told held now (NoForm l) → IsSetRefused input reason at → ⊥
  set_refused_lacking reason at l (behind_value value front later v e runs) q = runs.ends
  set_refused_lacking reason at l (at_value ends kept within) (value_refused q) = begun_not_refused (λ g. LacksMetadata g l) input reason at ends q
  set_refused_lacking reason at l (at_value ends kept within) (file_refused other start more w d q) = there_not_lacking input other start more l ends d w

  pub refused_has_form : (j : FlvJob) (reason : Reason) (at : ℕ) (l : Lack) → Runs j input rest told held now (NoForm l) → IsRefusedBy (on_file j) input reason at → ⊥
  refused_has_form job.Show reason at l r q = r.ends
  refused_has_form job.Drop reason at l r q = r.ends
  refused_has_form job.Set reason at l r q = set_refused_lacking reason at l r q

  set_refused_long : (reason : Reason) (at : ℕ) → SetRuns input rest told held now LongData → IsSetRefused input reason at → ⊥
  set_refused_long reason at (behind_value value front later v e runs) q = runs.ends
  set_refused_long reason at (at_value ends kept within) (value_refused q) = begun_not_refused IsTooLong input reason at ends q
  set_refused_long reason at (at_value ends kept within) (file_refused other start more w d q) = there_not_long input other start more ends d w

  pub refused_fits : (j : FlvJob) (reason : Reason) (at : ℕ) → Runs j input rest told held now LongData → IsRefusedBy (on_file j) input reason at → ⊥
  refused_fits job.Show reason at r q = r.ends
  refused_fits job.Drop reason at r q = r.ends
  refused_fits job.Set reason at r q = set_refused_long reason at r q

  -- what has no form

  set_formless_done : SetRuns input rest told held now Done → HasFormlessValue (on_file job.Set) input → ⊥
  set_formless_done (behind_value value front later v e runs) x = formless input value front later e v x
  set_formless_done (at_value ends kept within) x = ends

  pub formless_not_done : (j : FlvJob) → Runs j input rest told held now Done → HasFormlessValue (on_file j) input → ⊥
  formless_not_done job.Show r x = x
  formless_not_done job.Drop r x = x
  formless_not_done job.Set r x = set_formless_done r x

  set_formless_written : SetRuns input rest told held now WriteFault → HasFormlessValue (on_file job.Set) input → ⊥
  set_formless_written (behind_value value front later v e runs) x = formless input value front later e v x
  set_formless_written (at_value ends kept within) x = ends

  pub formless_not_written : (j : FlvJob) → Runs j input rest told held now WriteFault → HasFormlessValue (on_file j) input → ⊥
  formless_not_written job.Show r x = x
  formless_not_written job.Drop r x = x
  formless_not_written job.Set r x = set_formless_written r x

  set_formless_refused : (f : Refusal) → SetRuns input rest told held now (Refused f) → HasFormlessValue (on_file job.Set) input → ⊥
  set_formless_refused f (behind_value value front later v e runs) x = formless input value front later e v x
  set_formless_refused f (at_value ends kept within) (inl (l, x)) = begun_not_refused (λ g. LacksMetadata g l) input f.reason f.at x ends
  set_formless_refused f (at_value ends kept within) (inr x) = begun_not_refused IsTooLong input f.reason f.at x ends

  pub formless_not_refused : (j : FlvJob) (f : Refusal) → Runs j input rest told held now (Refused f) → HasFormlessValue (on_file j) input → ⊥
  formless_not_refused job.Show f r x = x
  formless_not_refused job.Drop f r x = x
  formless_not_refused job.Set f r x = set_formless_refused f r x
