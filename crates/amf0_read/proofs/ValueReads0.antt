-- What is answered behind what was read first.
use Rattle.std.proofs.Common.{ℕ, List, refl, Result, Ok, Err, OnOk}
use Rattle.amf_io.specs.declared.window.Window.{Window}
use Rattle.amf_io.specs.declared.cursor.Cursor.{Cursor}
use Rattle.amf_io.specs.declared.ends.ReadEnd.{ReadEnd}
use Rattle.amf_io.specs.Layout.{Layout, give}
use Rattle.amf_io.specs.ReadEnds.{GoesBy}
use Rattle.amf_io.specs.CursorReads.{Answers, Leads}
use Rattle.amf_io.proofs.CursorReads.{leads_answers, leads_on, leads_end}
use Rattle.amf_graph.specs.Arena.{Arena}
use Rattle.amf0_spelling.specs.KeptTables0.{KeptTables0}
use Rattle.amf0_read.specs.Ready0.{StillReady0}
use Rattle.amf0_read.proofs.Stack0.{ready_twice}

module _ {S : Type 0} (tells : S → Type 0) (left : S → List ℕ) (faults : S → ℕ) where
  pub led_answers : {X Z Y : Type 0} (view : Z → Y) (t u : Layout Y) (c d e : Cursor S Window) (x : X) (r : Result Z ReadEnd) → GoesBy tells left faults c d (Ok x) → Leads tells left t u c d → Answers tells left view u d e r → Answers tells left view t c e r
  led_answers view t u c d e x (Ok z) g l a = leads_answers tells left faults view t (view z) c e z refl (leads_on tells left faults t u (give (view z)) c d e x g l (record { fields = a.fields; path = a.runs; bytes = a.bytes; taken = a.taken; within = a.within; parts = a.parts }))
  led_answers view t u c d e x (Err end) g l a = leads_end tells left faults t u c d e x end g l a

pub ready_on : {S X : Type 0} (o p q : ℕ) (a b b1 : Arena) (u u1 : KeptTables0) (c d e : Cursor S Window) (r : Result X ReadEnd) → StillReady0 p o a b u c d → OnOk r (StillReady0 q p b b1 u1 d e) → OnOk r (StillReady0 q o a b1 u1 c e)
ready_on o p q a b b1 u u1 c d e (Ok x) h k = ready_twice o p q a b b1 u u1 c d e h k
ready_on o p q a b b1 u u1 c d e (Err end) h k = tt
