-- Texts that stand behind their length.
use Rattle.std.proofs.Common.{◌≡◌, ℕ, ◌+◌, ◌≤◌, ◌<◌, true, inl, inr, List, [], ◌∷◌, length, length-append, refl, sym, ap, ◌∙◌, subst, arith, Result, Ok, Err, OnOk, IfOk}
use Rattle.std.specs.List.{AllByRecursion}
use Rattle.amf_io.specs.declared.window.Window.{Window}
use Rattle.amf_io.specs.declared.cursor.Cursor.{Cursor}
use Rattle.amf_io.specs.declared.ends.ReadEnd.{ReadEnd}
use Rattle.amf_io.specs.Cursor.{place, bound}
use Rattle.amf_io.specs.Field.{text_kind}
use Rattle.amf_io.specs.Layout.{give}
use Rattle.amf_io.specs.ReadEnds.{IsPlaced, GoesBy}
use Rattle.amf_io.specs.CursorReads.{Answers}
use Rattle.amf_graph.specs.declared.value.TextId.{TextId}
use Rattle.amf_graph.specs.Graph as graph
use Rattle.amf_graph.specs.Arena.{Arena, StoredNode, IsBuilt, IsTextId, text_at, head_content}
use Rattle.amf_graph.specs.Building.{kept_text, stored_at}
use Rattle.amf3_spelling.specs.Reads3.{Grows}
use Rattle.amf3_layout_laws.proofs.Reader3Tables.{tables_after_text, grows_text}
use Rattle.amf3_layout_laws.proofs.Reader3Calls.{tables_are, grows_are}
use Rattle.amf3_spelling.specs.KeptTables.{AreTablesIn}
use Rattle.amf3_layout_laws.specs.Layout3Words.{chunk}
use Rattle.amf0_spelling.specs.KeptTables0.{KeptTables0, AreTables0In}
use Rattle.amf0_layout_laws.specs.Layout0.{TextRead0, new_text0}
use Rattle.amf0_layout_laws.specs.Layout0State.{State0, state0_of}
use Rattle.amf_wire_fields.specs.KeptText.{KeptText}
use Rattle.amf_wire_fields.proofs.LayoutBinds.{chunk_reads, chunk_ends}
use Rattle.amf3_read.specs.declared.opening.Parts.TheVariants as parts
use Rattle.amf3_read.specs.Filling.{IsOpened}
use Rattle.amf_wire_fields.specs.Room.{left_of}
use Rattle.amf3_read.proofs.TextReads.{new_text_there}
use Rattle.amf3_read.proofs.PartPut.{stays, same_head}
use Rattle.amf3_read.proofs.GoesOn.{suits_name}
use Rattle.amf0_read.specs.declared.frame.Todo.TheVariants.{Pairs}
use Rattle.amf0_read.specs.declared.frame.Role.TheVariants.{Named}
use Rattle.amf0_spelling.specs.declared.marker.Marker0.{Marker0}
use Rattle.amf0_read.specs.declared.fill.Step.TheVariants as step
use Rattle.amf0_read.specs.Frames0.{Lacks, LacksFor, StepHolds}
use Rattle.amf0_read.specs.Ready0.{Ready0, StillReady0, text_read}
use Rattle.amf0_read.proofs.Stack0.{are_tables}
use Rattle.amf0_read.proofs.States0.{text_state}

-- the text that was kept is the one of the layout
pub text_is : (a z : Arena) (t : KeptTables0) (x : TextId) → IsBuilt a → AreTablesIn a t.amf3 → KeptText a z x.0 → text_read z t x ≡ new_text0 (state0_of a t) (text_at z x.0)
text_is a z t x b v k =
    let c = text_at z x.0 in
    ap (λ (s : State0). let y : TextRead0 = record { id = x.0; bytes = c; state = s } in y) (text_state a z t c b v k.kept)
    ∙ ap (λ i. let y : TextRead0 = record { id = i; bytes = c; state = (new_text0 (state0_of a t) c).state } in y) k.place

module _ {S : Type 0} (tells : S → Type 0) (left : S → List ℕ) (faults : S → ℕ) (a z : Arena) (t : KeptTables0) (b : IsBuilt a) (v : AreTablesIn a t.amf3) (size : ℕ) (c d : Cursor S Window) where
  pub text_reads : (r : Result TextId ReadEnd) → GoesBy tells left faults c d r → Answers tells left (λ (x : TextId). text_at z x.0) (chunk text_kind size (λ y. give y)) c d r → IfOk r (λ x. KeptText a z x.0) → OnOk r (IsPlaced d)
      → Answers tells left (text_read z t) (chunk text_kind size (λ y. give (new_text0 (state0_of a t) y))) c d r
  text_reads (Ok x) g h k p = chunk_reads tells left faults (λ (x : TextId). text_at z x.0) (text_read z t) text_kind size (new_text0 (state0_of a t)) c d x x g h p (text_is a z t x b v k)
  text_reads (Err e) g h k p = chunk_ends tells left faults text_kind size (new_text0 (state0_of a t)) c d e h

-- What the text leaves.
pub text_tables : (a z : Arena) (t : KeptTables0) (i : ℕ) → IsBuilt a → AreTables0In a t → KeptText a z i → AreTables0In z t
text_tables a z t i b v k =
    let c = text_at z i in
    record {
      amf3 = tables_are (kept_text a c) z t.amf3 t.amf3 (tables_after_text a t.amf3 c b v.amf3) k.kept refl;
      nodes = subst (λ (y : Arena). AllByRecursion (λ j. j < length y.nodes) t.nodes) (sym k.kept) v.nodes;
      distinct = v.distinct;
    }

pub text_grows : (a z : Arena) (i : ℕ) → KeptText a z i → Grows a z
text_grows a z i k = let c = text_at z i in grows_are a (kept_text a c) a z (grows_text a c) refl k.kept

pub text_there : (a z : Arena) (i : ℕ) → KeptText a z i → IsTextId z i
text_there a z i k = new_text_there a z (text_at z i) i k.kept k.place

pub text_more : (a z : Arena) (i : ℕ) → KeptText a z i → length z.texts ≡ length a.texts + 1
text_more a z i k = let c = text_at z i in ap (λ (y : Arena). length y.texts) k.kept ∙ length-append a.texts (c ∷ [])

-- a name and a marker were read
pub name_still_ready : {S : Type 0} (a z : Arena) (t : KeptTables0) (i : ℕ) (c d e : Cursor S Window) → Ready0 0 a t c → IsBuilt z → KeptText a z i → place c + 2 ≤ place d → place d < place e → bound e ≡ bound c → IsPlaced e → StillReady0 1 0 a z t c e
name_still_ready a z t i c d e r built k two more same p =
    let within = p.within in
    let left : left_of e + 3 ≤ left_of c = omega arith in
    record {
      built = built;
      tables = text_tables a z t i r.amf3.built (are_tables 0 a t c r) k;
      placed = p;
      texts = omega (arith, text_more a z i k);
      traits = omega (arith, ap (λ (y : Arena). length y.traits) k.kept);
      nodes = omega (arith, ap (λ (y : Arena). length y.nodes) k.kept);
    }

-- what the node lacks is as it was
pub name_waits : (a z : Arena) (i left : ℕ) (x : TextId) (m : Marker0) → IsOpened a i left → IsBuilt a → KeptText a z x.0 → Lacks (head_content a (stored_at a i).head) (stored_at a i) Pairs → StepHolds a z i (step.Wait (Named x) m)
name_waits a z i left x m o b k s =
    let g = text_grows a z x.0 k in
    let still : Lacks (head_content z (stored_at z i).head) (stored_at z i) Pairs = subst (λ h. Lacks h (stored_at z i) Pairs) (sym (same_head i left a z o g b)) (subst (λ n. Lacks (head_content a (stored_at a i).head) n Pairs) (sym (stays i left a z o g)) s) in
    (g, text_there a z x.0 k, by (head_content z (stored_at z i).head) (stored_at z i) still)
  where
    by : (h : graph.Head) (n : StoredNode) → Lacks h n Pairs → LacksFor h n (Named x)
    by h n (inl w) = inl (suits_name h n (parts.Array 0) x refl w)
    by h n (inr w) = inr (suits_name h n (parts.Object 0 true) x refl w)

-- a text that is a value
pub text_still_ready : {S : Type 0} (a z : Arena) (t : KeptTables0) (i : ℕ) (c d : Cursor S Window) → Ready0 1 a t c → IsBuilt z → KeptText a z i → IsPlaced d → left_of d ≤ left_of c → StillReady0 0 1 a z t c d
text_still_ready a z t i c d r built k p less = record {
  built = built;
  tables = text_tables a z t i r.amf3.built (are_tables 1 a t c r) k;
  placed = p;
  texts = omega (arith, text_more a z i k);
  traits = omega (arith, ap (λ (y : Arena). length y.traits) k.kept);
  nodes = omega (arith, ap (λ (y : Arena). length y.nodes) k.kept);
}
