-- A job on a file ends by the verdict on it.
use Rattle.std.proofs.Common.{◌≡◌, ℕ, ◌+◌, false, List, [], ◌++◌, ◌⊎◌, length, refl, sym, ap, ◌∙◌, arith, inl, inr, length-append}
use Rattle.std.proofs.lemmas.List.{append-nil}
use Rattle.amf_io.specs.declared.ends.Refusal.{Refusal}
use Rattle.amf_io.specs.Field.{flat}
use Rattle.amf_io.specs.Repeated.{IsAcceptedToEnd}
use Rattle.amf_io.specs.declared.reason.Reason.{Reason}
use Rattle.amf_io.specs.Verdict.{IsAccepted, IsRefused}
use Rattle.amf_io.proofs.Inputs.{not_refused}
use Rattle.amf_graph.specs.Building.{no_arena}
use Rattle.amf0_spelling.specs.KeptTables0.{no_kept_tables0}
use Rattle.amf0_spelling.specs.Values0.{IsValue0}
use Rattle.amf0_layout_laws.specs.Layout0.{value0_layout}
use Rattle.amf0_layout_laws.specs.Layout0State.{state0_of}
use Rattle.amf0_layout_laws.proofs.Layout0Format.{values0_is_layout}
use Rattle.flv_meta.specs.File.{value_bytes}
use Rattle.flv_meta.specs.Fields.{file_fields, IsFileReading}
use Rattle.flv_meta.specs.MetadataAnswer.{value_place}
use Rattle.flv_meta.proofs.FileVerdicts.{files_judged_once}
use Rattle.flv_meta.proofs.Tags.{file_flat}
use Rattle.amf_media.specs.FlvOutput.{Work, show}
use Rattle.amf_media.specs.FlvRuns.{most, StopsAt, StopsAtValue, in_file, in_value, IsWhole}
use Rattle.amf_media.specs.FlvLaws.{RefusedFiles, AcceptedFiles, SpelledValues}

whole_accepted : (w : Work) (base : ℕ) (later rest bytes : List ℕ) → IsWhole w base later rest bytes → IsAcceptedToEnd IsFileReading base most later
whole_accepted w base later rest bytes h =
    let parts : later ≡ flat (file_fields h.file) ++ [] = h.parts ∙ sym (file_flat h.file) ∙ sym (append-nil (flat (file_fields h.file))) in
    record {
      fields = file_fields h.file;
      accepted = (h.file, h.is_file, refl);
      parts = parts;
      place = ap (λ l. base + length l) (h.parts ∙ sym (file_flat h.file));
      within = h.within;
    }

pub done_not_refused : (w : Work) (base : ℕ) (later rest bytes : List ℕ) (reason : Reason) (at : ℕ) → IsWhole w base later rest bytes → IsRefused IsFileReading base most later reason at → ⊥
done_not_refused w base later rest bytes reason at h x = (files_judged_once base most later).not_both (whole_accepted w base later rest bytes h) reason at x

pub refused_files : RefusedFiles
refused_files w base at later reason x = record {
  not_done = λ rest bytes h. done_not_refused w base later rest bytes reason at h x;
  by_verdict = λ rest bytes f h. by rest bytes f h;
}
  where
    by : (rest bytes : List ℕ) (f : Refusal) → StopsAt w base later f bytes → ((f.reason ≡ reason) × (f.at ≡ at)) ⊎ ((w ≡ show) × StopsAtValue base later f bytes)
    by rest bytes f (in_file r g) = inl ((files_judged_once base most later).one_refusal f.reason reason f.at at r x)
    by rest bytes f (in_value shows s) = inr (shows, s)

pub accepted_files : AcceptedFiles
accepted_files w base later rest bytes f a (in_file r g) = absurd ((files_judged_once base most later).not_both a f.reason f.at r)
accepted_files w base later rest bytes f a (in_value shows s) = (shows, s)

pub spelled_values : SpelledValues
spelled_values t g at f is s x =
    let p : IsValue0 s.fields = (g, s.spelled) in
    let n : length (value_bytes t) ≡ length (flat s.fields) + length s.rest = ap length s.parts ∙ length-append (flat s.fields) s.rest in
    let base = value_place at in
    let limit = value_place at + length (value_bytes t) in
    let a : IsAccepted IsValue0 base limit (value_bytes t) (base + length (flat s.fields)) s.rest = record { fields = s.fields; accepted = p; parts = s.parts; place = refl; within = omega arith } in
    not_refused (λ m. value0_layout m false (state0_of no_arena no_kept_tables0)) IsValue0 values0_is_layout base limit (base + length (flat s.fields)) f.at f.reason (value_bytes t) s.rest a x
