-- How a cursor goes on from step to step.
use Rattle.std.proofs.Common.{◌≡◌, ℕ, ◌+◌, ◌≤◌, List, Ok, Err, refl, sym, ◌∙◌, subst, inl, inr, arith}
use Rattle.amf_io.specs.declared.window.Window.{Window}
use Rattle.amf_io.specs.declared.cursor.Cursor.{Cursor}
use Rattle.amf_io.specs.Cursor.{source_of, place, bound, ahead, unread}
use Rattle.amf_io.specs.ReadEnds.{GoesBy}
use Rattle.amf_io.specs.declared.ends.ReadEnd.{ReadEnd}
use Rattle.amf_io.specs.declared.ends.ReadEnd.TheVariants as reader
use Rattle.amf_io.specs.Stretch.{stretch, between}
use Rattle.flv_meta.specs.declared.flv_job.FlvJob.{FlvJob}
use Rattle.amf_media.specs.declared.ending.MediaEnd.{MediaEnd}
use Rattle.amf_media.specs.declared.ending.MediaEnd.TheVariants.{Done, Refused, ReadFault, WriteFault, NoForm, LongData, Memory}
use Rattle.amf_media.specs.Ends.{end_of}
use Rattle.amf_media.specs.FlvRuns.{CountsReads, IsFileEnd}
use Rattle.amf_media.specs.FlvSteps.{Moves, GoesOn, EndsTags, ClosesBy}
use Rattle.amf_media.specs.Written.{IsPutEnd}
use Rattle.amf_media.proofs.FlvTags.{on_then_on, on_then_ends}

module _ {S : Type 0} (tells : S → Type 0) (left : S → List ℕ) (faults : S → ℕ) where
  pub moves_none : (c : Cursor S Window) → place c + ahead c ≤ bound c + 1 → Moves tells left faults c c Done
  moves_none c le = record { told = λ t. t; same_source = refl; same_bound = refl; one_past = le; cause = refl; none_ahead = λ e. cc; total = λ t. refl }

  pub moves_on : (c d e : Cursor S Window) (end : MediaEnd) → Moves tells left faults c d Done → Moves tells left faults d e end → Moves tells left faults c e end
  moves_on c d e end g h = record {
    told = λ t. h.told (g.told t);
    same_source = h.same_source ∙ g.same_source;
    same_bound = h.same_bound ∙ g.same_bound;
    one_past = h.one_past;
    cause = subst (λ n. CountsReads n (faults (source_of e).now) end) g.cause h.cause;
    none_ahead = h.none_ahead;
    total = λ t. h.total (g.told t) ∙ g.total t;
  }

  pub on_more : (j : FlvJob) (c d e : Cursor S Window) (m : Moves tells left faults c d Done) (told_now told_mid : Type 0) (back : told_now → told_mid) (held half now waiting waited waits : List ℕ)
      → GoesOn j (between tells left c d) told_mid held half waiting waited → GoesOn j (between tells left d e) told_now half now waited waits → GoesOn j (between tells left c e) told_now held now waiting waits
  on_more j c d e m told_now told_mid back held half now waiting waited waits g h =
      on_then_on j (tells (source_of c).now) (tells (source_of d).now) m.told (unread left c) (unread left d) (unread left e) (place c) (place d) (place e) (bound c) told_now told_mid back held half now waiting waited waits g
      (subst (λ n. GoesOn j (stretch (tells (source_of d).now) (unread left d) (unread left e) (place d) (place e) n) told_now half now waited waits) m.same_bound h)

  pub ends_more : (j : FlvJob) (c d e : Cursor S Window) (m : Moves tells left faults c d Done) (told_now told_mid : Type 0) (back : told_now → told_mid) (held half now waiting waited waits : List ℕ) (end : MediaEnd)
      → GoesOn j (between tells left c d) told_mid held half waiting waited → EndsTags j (between tells left d e) told_now half now waited waits end → EndsTags j (between tells left c e) told_now held now waiting waits end
  ends_more j c d e m told_now told_mid back held half now waiting waited waits end g h =
      on_then_ends j (tells (source_of c).now) (tells (source_of d).now) m.told (unread left c) (unread left d) (unread left e) (place c) (place d) (place e) (bound c) told_now told_mid back held half now waiting waited waits end g
      (subst (λ n. EndsTags j (stretch (tells (source_of d).now) (unread left d) (unread left e) (place d) (place e) n) told_now half now waited waits end) m.same_bound h)

  pub moves_of : {X : Type 0} (c d : Cursor S Window) (x : X) → GoesBy tells left faults c d (Ok x) → Moves tells left faults c d Done
  moves_of c d x g = record { told = g.told; same_source = g.same_source; same_bound = g.same_bound; one_past = g.one_past; cause = g.cause; none_ahead = λ e. absurd cc; total = g.total }

  pub moves_ends : {X : Type 0} (c d : Cursor S Window) (e : ReadEnd) → GoesBy {X = X} tells left faults c d (Err e) → Moves tells left faults c d (end_of e)
  moves_ends c d (reader.Refused f) g = record { told = g.told; same_source = g.same_source; same_bound = g.same_bound; one_past = g.one_past; cause = g.cause; none_ahead = λ e. absurd cc; total = g.total }
  moves_ends c d reader.ReadFault g = record { told = g.told; same_source = g.same_source; same_bound = g.same_bound; one_past = g.one_past; cause = g.cause; none_ahead = λ e. g.none_ahead; total = g.total }
  moves_ends c d reader.Memory g = record { told = g.told; same_source = g.same_source; same_bound = g.same_bound; one_past = g.one_past; cause = g.cause; none_ahead = λ e. absurd cc; total = g.total }

  -- the same way, and another end of which no read is the cause
  ends_as : (c d : Cursor S Window) (e : MediaEnd) → Moves tells left faults c d Done → CountsReads (faults (source_of c).now) (faults (source_of d).now) e → (e ≡ ReadFault → ⊥) → Moves tells left faults c d e
  ends_as c d e m k never = record { told = m.told; same_source = m.same_source; same_bound = m.same_bound; one_past = m.one_past; cause = k; none_ahead = λ h. absurd (never h); total = m.total }

  pub moves_unput : (c d : Cursor S Window) (e : MediaEnd) → Moves tells left faults c d Done → IsPutEnd {T = Unit {0}} (Err e) → Moves tells left faults c d e
  moves_unput c d WriteFault m o = ends_as c d WriteFault m (let k = m.cause in omega arith) (λ h. cc)
  moves_unput c d Memory m o = ends_as c d Memory m m.cause (λ h. cc)
  moves_unput c d Done m o = absurd o
  moves_unput c d (Refused f) m o = absurd o
  moves_unput c d ReadFault m o = absurd o
  moves_unput c d (NoForm l) m o = absurd o
  moves_unput c d LongData m o = absurd o

  -- the value was read, and it has no tag
  abbrev pub IsStop : MediaEnd → Type 0
  IsStop Memory = Unit {0}
  IsStop (NoForm l) = Unit {0}
  IsStop LongData = Unit {0}
  IsStop _ = ⊥

  pub moves_stopped : {X : Type 0} (c d : Cursor S Window) (e : MediaEnd) (x : X) → GoesBy tells left faults c d (Ok x) → IsStop e → Moves tells left faults c d e
  moves_stopped c d Memory x g s = ends_as c d Memory (moves_of c d x g) g.cause (λ h. cc)
  moves_stopped c d (NoForm l) x g s = ends_as c d (NoForm l) (moves_of c d x g) g.cause (λ h. cc)
  moves_stopped c d LongData x g s = ends_as c d LongData (moves_of c d x g) g.cause (λ h. cc)
  moves_stopped c d Done x g s = absurd s
  moves_stopped c d (Refused f) x g s = absurd s
  moves_stopped c d ReadFault x g s = absurd s
  moves_stopped c d WriteFault x g s = absurd s

  -- a write failed behind it
  faulted_behind : (c d : Cursor S Window) (e : MediaEnd) → Moves tells left faults c d e → faults (source_of c).now ≤ faults (source_of d).now → Moves tells left faults c d WriteFault
  faulted_behind c d e m k = record { told = m.told; same_source = m.same_source; same_bound = m.same_bound; one_past = m.one_past; cause = k; none_ahead = λ h. absurd cc; total = m.total }

  pub moves_closed : (c d : Cursor S Window) (told : Type 0) (held now waits : List ℕ) (before counts : ℕ) (e result : MediaEnd) → IsFileEnd e → Moves tells left faults c d e → ClosesBy e result told held now waits before counts → Moves tells left faults c d result
  moves_closed c d told held now waits before counts Done result o m (inl x) = subst (λ r. Moves tells left faults c d r) (sym x.0) m
  moves_closed c d told held now waits before counts Done result o m (inr x) = subst (λ r. Moves tells left faults c d r) (sym x.0) (faulted_behind c d Done m (let k = m.cause in omega arith))
  moves_closed c d told held now waits before counts (Refused f) result o m (inl x) = subst (λ r. Moves tells left faults c d r) (sym x.0) m
  moves_closed c d told held now waits before counts (Refused f) result o m (inr x) = subst (λ r. Moves tells left faults c d r) (sym x.0) (faulted_behind c d (Refused f) m (let k = m.cause in omega arith))
  moves_closed c d told held now waits before counts ReadFault result o m (inl x) = subst (λ r. Moves tells left faults c d r) (sym x.0) m
  moves_closed c d told held now waits before counts ReadFault result o m (inr x) = subst (λ r. Moves tells left faults c d r) (sym x.0) (faulted_behind c d ReadFault m m.cause.0)
  moves_closed c d told held now waits before counts WriteFault result o m x = subst (λ r. Moves tells left faults c d r) (sym x.0) m
  moves_closed c d told held now waits before counts Memory result o m x = subst (λ r. Moves tells left faults c d r) (sym x.0) m
  moves_closed c d told held now waits before counts (NoForm l) result o m x = absurd o
  moves_closed c d told held now waits before counts LongData result o m x = absurd o
