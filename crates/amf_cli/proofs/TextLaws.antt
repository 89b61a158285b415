-- Of the end of a run of `bytes`: what its status says.
use Rattle.std.proofs.Common.{◌≡◌, ◌≢◌, ◌⊎◌, inl, inr, ℕ, ◌≤◌, List, Result, Ok, Err, refl, arith}
use Rattle.amf_io.specs.Outside.{Rose}
use Rattle.amf_graph.specs.declared.lack.Lack.{Lack}
use Rattle.amf_graph.specs.Graph.{Graph}
use Rattle.amf_text.specs.declared.reason.TextReason.{TextReason}
use Rattle.amf_text.specs.Scalars.{read_number}
use Rattle.amf_text.specs.Documents.{Document}
use Rattle.amf_text.specs.Refused.{IsTextAccepted, IsTextRefused}
use Rattle.amf_bytes.specs.declared.ending.BytesEnd.{BytesEnd}
use Rattle.amf_bytes.specs.declared.ending.BytesEnd.TheVariants as text
use Rattle.amf_bytes.specs.Meanings.{IsTextBytes, LacksBytes}
use Rattle.amf_bytes.specs.TextRuns.{CountsTextReads, CountsTextWrites, IsTextUntouched, RunsText}
use Rattle.amf_bytes.proofs.TextStatuses.{never_refused, made_not_refused, lacking_not_refused, made_not_lacking}
use Rattle.amf_cli.specs.BytesEnds.{text_status}

abbrev pub TextEnd : Type 0
TextEnd = Result (Unit {0}) BytesEnd

pub text_within_7 : (x : TextEnd) → text_status x ≤ 7
text_within_7 (Ok u) = omega arith
text_within_7 (Err (text.Refused f)) = omega arith
text_within_7 (Err text.ReadFault) = omega arith
text_within_7 (Err text.WriteFault) = omega arith
text_within_7 (Err text.Memory) = omega arith
text_within_7 (Err (text.NoForm v l)) = omega arith

pub text_not_2 : (x : TextEnd) → text_status x ≡ 2 → ⊥
text_not_2 (Ok u) h = omega arith
text_not_2 (Err (text.Refused f)) h = omega arith
text_not_2 (Err text.ReadFault) h = omega arith
text_not_2 (Err text.WriteFault) h = omega arith
text_not_2 (Err text.Memory) h = omega arith
text_not_2 (Err (text.NoForm v l)) h = omega arith

pub text_not_6 : (x : TextEnd) → text_status x ≡ 6 → ⊥
text_not_6 (Ok u) h = omega arith
text_not_6 (Err (text.Refused f)) h = omega arith
text_not_6 (Err text.ReadFault) h = omega arith
text_not_6 (Err text.WriteFault) h = omega arith
text_not_6 (Err text.Memory) h = omega arith
text_not_6 (Err (text.NoForm v l)) h = omega arith

pub text_reads_steady : (x : TextEnd) (before now : ℕ) → text_status x ≢ 3 → CountsTextReads before now x → now ≡ before
text_reads_steady (Ok u) before now three c = c
text_reads_steady (Err (text.Refused f)) before now three c = c
text_reads_steady (Err text.ReadFault) before now three c = absurd (three refl)
text_reads_steady (Err text.WriteFault) before now three c = c
text_reads_steady (Err text.Memory) before now three c = c
text_reads_steady (Err (text.NoForm v l)) before now three c = c

pub text_writes_steady : (x : TextEnd) (before now : ℕ) → text_status x ≢ 4 → CountsTextWrites before now x → now ≡ before
text_writes_steady (Ok u) before now four c = c
text_writes_steady (Err (text.Refused f)) before now four c = c
text_writes_steady (Err text.ReadFault) before now four c = c
text_writes_steady (Err text.WriteFault) before now four c = absurd (four refl)
text_writes_steady (Err text.Memory) before now four c = c
text_writes_steady (Err (text.NoForm v l)) before now four c = c

pub text_reads_rose : (x : TextEnd) (before now : ℕ) → text_status x ≡ 3 → CountsTextReads before now x → Rose before now
text_reads_rose (Ok u) before now h c = absurd (omega arith)
text_reads_rose (Err (text.Refused f)) before now h c = absurd (omega arith)
text_reads_rose (Err text.ReadFault) before now h c = c.1
text_reads_rose (Err text.WriteFault) before now h c = absurd (omega arith)
text_reads_rose (Err text.Memory) before now h c = absurd (omega arith)
text_reads_rose (Err (text.NoForm v l)) before now h c = absurd (omega arith)

pub text_writes_rose : (x : TextEnd) (before now : ℕ) → text_status x ≡ 4 → CountsTextWrites before now x → Rose before now
text_writes_rose (Ok u) before now h c = absurd (omega arith)
text_writes_rose (Err (text.Refused f)) before now h c = absurd (omega arith)
text_writes_rose (Err text.ReadFault) before now h c = absurd (omega arith)
text_writes_rose (Err text.WriteFault) before now h c = c.1
text_writes_rose (Err text.Memory) before now h c = absurd (omega arith)
text_writes_rose (Err (text.NoForm v l)) before now h c = absurd (omega arith)

-- but where it was written, nothing was asked of the output
pub text_kept : {S : Type 0} (a b : S) (x : TextEnd) → text_status x ≢ 0 → text_status x ≢ 4 → IsTextUntouched a b x → b ≡ a
text_kept a b (Ok u) zero four k = absurd (zero refl)
text_kept a b (Err (text.Refused f)) zero four k = k
text_kept a b (Err text.ReadFault) zero four k = k
text_kept a b (Err text.WriteFault) zero four k = absurd (four refl)
text_kept a b (Err text.Memory) zero four k = k
text_kept a b (Err (text.NoForm v l)) zero four k = k

pub not_0_or_4 : (n : ℕ) → (n ≡ 1) ⊎ (n ≡ 2) ⊎ (n ≡ 3) ⊎ (7 ≤ n) → (n ≢ 0) × (n ≢ 4)
not_0_or_4 n (inl h) = (λ k. absurd (omega (arith, h, k)), λ k. absurd (omega (arith, h, k)))
not_0_or_4 n (inr (inl h)) = (λ k. absurd (omega (arith, h, k)), λ k. absurd (omega (arith, h, k)))
not_0_or_4 n (inr (inr (inl h))) = (λ k. absurd (omega (arith, h, k)), λ k. absurd (omega (arith, h, k)))
not_0_or_4 n (inr (inr (inr h))) = (λ k. absurd (omega (arith, h, k)), λ k. absurd (omega (arith, h, k)))

pub five_is_none : (n : ℕ) → n ≡ 5 → (n ≢ 0) × (n ≢ 4)
five_is_none n h = (λ k. absurd (omega (arith, h, k)), λ k. absurd (omega (arith, h, k)))

-- each input has one end, but for reads and writes that fail and for memory

module _ (input rest : List ℕ) (told : Type 0) (held now : List ℕ) where
  pub accepted_text : (x : TextEnd) (d : Document Graph) → RunsText input rest told held now x → IsTextAccepted read_number input d
      → (text_status x ≡ 0) ⊎ (text_status x ≡ 3) ⊎ (text_status x ≡ 4) ⊎ (text_status x ≡ 5) ⊎ (text_status x ≡ 7)
  accepted_text (Ok u) d r a = inl refl
  accepted_text (Err (text.Refused f)) d r a = absurd (never_refused input d f.reason f.at a r.why)
  accepted_text (Err text.ReadFault) d r a = inr (inl refl)
  accepted_text (Err text.WriteFault) d r a = inr (inr (inl refl))
  accepted_text (Err text.Memory) d r a = inr (inr (inr (inl refl)))
  accepted_text (Err (text.NoForm v l)) d r a = inr (inr (inr (inr refl)))

  pub refused_text : (x : TextEnd) (reason : TextReason) (at : ℕ) → RunsText input rest told held now x → IsTextRefused read_number input reason at
      → (text_status x ≡ 1) ⊎ (text_status x ≡ 3) ⊎ (text_status x ≡ 5)
  refused_text (Ok u) reason at r q = absurd (made_not_refused input r.bytes reason at r.made q)
  refused_text (Err (text.Refused f)) reason at r q = inl refl
  refused_text (Err text.ReadFault) reason at r q = inr (inl refl)
  refused_text (Err text.WriteFault) reason at r q = absurd (made_not_refused input r.bytes reason at r.made q)
  refused_text (Err text.Memory) reason at r q = inr (inr refl)
  refused_text (Err (text.NoForm v l)) reason at r q = absurd (lacking_not_refused input v l reason at r.lacking q)

  pub formed_text : (x : TextEnd) (bytes : List ℕ) → RunsText input rest told held now x → IsTextBytes input bytes
      → (text_status x ≡ 0) ⊎ (text_status x ≡ 3) ⊎ (text_status x ≡ 4) ⊎ (text_status x ≡ 5)
  formed_text (Ok u) bytes r m = inl refl
  formed_text (Err (text.Refused f)) bytes r m = absurd (made_not_refused input bytes f.reason f.at m r.why)
  formed_text (Err text.ReadFault) bytes r m = inr (inl refl)
  formed_text (Err text.WriteFault) bytes r m = inr (inr (inl refl))
  formed_text (Err text.Memory) bytes r m = inr (inr (inr refl))
  formed_text (Err (text.NoForm v l)) bytes r m = absurd (made_not_lacking input bytes v l m r.lacking)

  pub lacking_text : (x : TextEnd) (number : ℕ) (l : Lack) → RunsText input rest told held now x → LacksBytes input number l
      → (text_status x ≡ 3) ⊎ (text_status x ≡ 5) ⊎ (text_status x ≡ 7)
  lacking_text (Ok u) number l r k = absurd (made_not_lacking input r.bytes number l r.made k)
  lacking_text (Err (text.Refused f)) number l r k = absurd (lacking_not_refused input number l f.reason f.at k r.why)
  lacking_text (Err text.ReadFault) number l r k = inl refl
  lacking_text (Err text.WriteFault) number l r k = absurd (made_not_lacking input r.bytes number l r.made k)
  lacking_text (Err text.Memory) number l r k = inr (inl refl)
  lacking_text (Err (text.NoForm v j)) number l r k = inr (inr refl)
