-- What waits at the end is written, and what the cursor left is what the source has left.
use Rattle.std.proofs.Common.{◌≡◌, ℕ, ◌≤◌, true, false, List, [], ◌∷◌, ◌++◌, take, drop, Result, Ok, Err, refl, sym, ap, ◌∙◌, arith, subst, append_assoc}
use Rattle.std.specs.Result.{IsErrAnd}
use Rattle.amf_io.specs.declared.window.Window.{Window}
use Rattle.amf_io.specs.declared.cursor.Cursor.{Cursor}
use Rattle.amf_io.specs.Cursor.{source_of, ahead, unread}
use Rattle.amf_io.specs.ReadEnds.{Counts, IsFaultedAt}
use Rattle.rtmp_chunks.specs.Chunk.{Message, Unfinished}
use Rattle.amf_io.specs.Written.{WritesFront}
use Rattle.rtmp_rechunk.specs.declared.pass_end.PassEnd.{PassEnd}
use Rattle.rtmp_rechunk.specs.declared.pass_end.PassEnd.TheVariants.{Refused, ReadFault, WriteFault, Memory}
use Rattle.rtmp_rechunk.specs.Pass.{of_all, Passes, WroteAll, WroteSome, CountsReads, CountsWrites}
use Rattle.rtmp_rechunk.specs.Ends.{reading}
use Rattle.rtmp_rechunk.specs.Reads.{PutAll, PutSome, lost}
use Rattle.rtmp_rechunk.proofs.Places.{may_give_front, may_give_before}

none_left : (front rest : List ℕ) → front ++ rest ≡ [] → rest ≡ []
none_left [] rest e = e
none_left (x ∷ front) rest e = cc

pub counted : (before now : ℕ) (r : Result (Unit {0}) PassEnd) → Counts before now (reading r) → CountsReads before now r
counted before now (Ok u) k = k
counted before now (Err (Refused f)) k = k
counted before now (Err ReadFault) k = k
counted before now (Err WriteFault) k = omega (arith, k)
counted before now (Err Memory) k = k

pub none_read : (n : ℕ) (r : Result (Unit {0}) PassEnd) → IsErrAnd r (λ e. e ≡ Memory) → CountsReads n n r
none_read n (Ok u) h = absurd h
none_read n (Err e) h = subst (λ w. CountsReads {T = Unit {0}} n n (Err w)) (sym h) refl

module _ (Begins : List ℕ → List ℕ → Type 0) (Says : Message → List ℕ → Type 0) (Ends : List Unfinished → List ℕ → Type 0) (input : List ℕ) where
  pub source_left : {S : Type 0} (left : S → List ℕ) (c : Cursor S Window) (All Part : List ℕ → Type 0) (r : Result (Unit {0}) PassEnd) → IsFaultedAt (ahead c) (reading r) → Passes Begins Says Ends input (unread left c) All Part r → Passes Begins Says Ends input (left (source_of c).now) All Part r
  source_left left c All Part (Ok u) n (out, o, a, e) = (out, o, a, none_left (take (ahead c) (drop c.window.start c.window.buffer.items)) (left (source_of c).now) e)
  source_left left c All Part (Err (Refused f)) n k = k
  source_left left c All Part (Err ReadFault) n k =
      let same : unread left c ≡ left (source_of c).now = ap (λ k. take k (drop c.window.start c.window.buffer.items) ++ left c.source.now) n in
      subst (λ l. Passes {T = Unit {0}} Begins Says Ends input l All Part (Err ReadFault)) same k
  source_left left c All Part (Err WriteFault) n k = k
  source_left left c All Part (Err Memory) n k = k

  module _ (rest held : List ℕ) (told : Type 0) (now : List ℕ) (waiting : List ℕ) where
    -- nothing more is written
    pub lost_passes : (r : Result (Unit {0}) PassEnd) → lost r ≡ true → Passes Begins Says Ends input rest (PutAll told held now waiting) (PutSome told held now) r → Passes Begins Says Ends input rest (WroteAll told held now) (WroteSome told held now) r
    lost_passes (Ok u) e k = absurd cc
    lost_passes (Err (Refused f)) e k = absurd cc
    lost_passes (Err ReadFault) e k = absurd cc
    lost_passes (Err WriteFault) e (out, m, p) = (out, m, λ t. let q = p t in record { front = q.1.front; rest = q.0; parts = q.1.parts; added = q.1.added })
    lost_passes (Err Memory) e (out, m, p) = (out, m, λ t. let q = p t in record { front = q.1.front; rest = q.0; parts = q.1.parts; added = q.1.added })

    module _ (more : Type 0) (go : more → told) (next : List ℕ) where
      wrote_all : (out : List ℕ) → (more → next ≡ now ++ waiting) → PutAll told held now waiting out → WroteAll more held next out
      wrote_all out e k t =
          let p = k (go t) in
          e t ∙ ap (λ l. l ++ waiting) p.added ∙ append_assoc held p.front waiting ∙ ap (λ l. held ++ l) (sym p.parts)

      wrote_some : (out : List ℕ) → (more → WritesFront now next waiting) → PutAll told held now waiting out → WroteSome more held next out
      wrote_some out e k t =
          let p = k (go t) in
          let w = e t in
          record {
            front = p.front ++ w.front;
            rest = w.rest;
            parts = p.parts ∙ ap (λ l. p.front ++ l) w.parts ∙ sym (append_assoc p.front w.front w.rest);
            added = w.added ∙ ap (λ l. l ++ w.front) p.added ∙ append_assoc held p.front w.front;
          }

      -- what waits is written
      pub wrote_passes : (r : Result (Unit {0}) PassEnd) → lost r ≡ false → (more → next ≡ now ++ waiting) → Passes Begins Says Ends input rest (PutAll told held now waiting) (PutSome told held now) r → Passes Begins Says Ends input rest (WroteAll more held next) (WroteSome more held next) r
      wrote_passes (Ok u) l e (out, o, a, n) = (out, o, wrote_all out e a, n)
      wrote_passes (Err (Refused f)) l e (out, v, g, a) = (out, v, g, wrote_all out e a)
      wrote_passes (Err ReadFault) l e (out, v, g, a) = (out, v, g, wrote_all out e a)
      wrote_passes (Err WriteFault) l e k = absurd cc
      wrote_passes (Err Memory) l e k = absurd cc

      -- or a front of it
      pub failed_passes : (r : Result (Unit {0}) PassEnd) → lost r ≡ false → (more → WritesFront now next waiting) → Passes Begins Says Ends input rest (PutAll told held now waiting) (PutSome told held now) r
          → Passes {T = Unit {0}} Begins Says Ends input rest (WroteAll more held next) (WroteSome more held next) (Err WriteFault)
      failed_passes (Ok u) l e (out, o, a, n) = (out, of_all o, wrote_some out e a)
      failed_passes (Err (Refused f)) l e (out, v, g, a) = (out, may_give_before Begins Says Ends input out f.reason f.at v g, wrote_some out e a)
      failed_passes (Err ReadFault) l e (out, v, g, a) = (out, may_give_front Begins Says Ends input rest out v g, wrote_some out e a)
      failed_passes (Err WriteFault) l e k = absurd cc
      failed_passes (Err Memory) l e k = absurd cc

pub reads_counted : (before now : ℕ) (r : Result (Unit {0}) PassEnd) → lost r ≡ false → CountsReads before now r → before ≤ now
reads_counted before now (Ok u) l k = omega (arith, k)
reads_counted before now (Err (Refused f)) l k = omega (arith, k)
reads_counted before now (Err ReadFault) l k = k.0
reads_counted before now (Err WriteFault) l k = absurd cc
reads_counted before now (Err Memory) l k = absurd cc

pub none_counted : (before now : ℕ) (r : Result (Unit {0}) PassEnd) → lost r ≡ false → CountsWrites before now r → now ≡ before
none_counted before now (Ok u) l k = k
none_counted before now (Err (Refused f)) l k = k
none_counted before now (Err ReadFault) l k = k
none_counted before now (Err WriteFault) l k = absurd cc
none_counted before now (Err Memory) l k = absurd cc

pub still_counted : (before now : ℕ) (r : Result (Unit {0}) PassEnd) → lost r ≡ false → now ≡ before → CountsWrites before now r
still_counted before now (Ok u) l k = k
still_counted before now (Err (Refused f)) l k = k
still_counted before now (Err ReadFault) l k = k
still_counted before now (Err WriteFault) l k = absurd cc
still_counted before now (Err Memory) l k = absurd cc
