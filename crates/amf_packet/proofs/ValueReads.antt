-- What is read of a value is what the layout of a body gives.
use Rattle.std.proofs.Common.{◌≡◌, ℕ, ◌+◌, ◌-◌, ◌<◌, ◌≤◌, false, List, refl, sym, ap, ◌∙◌, subst, arith, Result, Ok, Err}
use Rattle.std.specs.List.{AllByRecursion}
use Rattle.amf_io.specs.declared.window.Window.{Window}
use Rattle.amf_io.specs.declared.cursor.Cursor.{Cursor}
use Rattle.amf_io.specs.declared.ends.ReadEnd.{ReadEnd}
use Rattle.amf_io.specs.Cursor.{source_of, place, bound, unread}
use Rattle.amf_io.specs.ReadEnds.{IsPlaced, GoesBy}
use Rattle.amf_io.specs.CursorReads.{Ends}
use Rattle.amf_io.specs.Field.{Field, flat, AreBytes}
use Rattle.amf_io.proofs.CursorReads.{end_reads}
use Rattle.amf_wire.specs.Style.{free}
use Rattle.amf_graph.specs.Arena.{Arena, Names}
use Rattle.amf_graph.specs.Bounds.{weight}
use Rattle.amf_graph.specs.Building.{no_arena}
use Rattle.amf_graph.specs.Rooted.{RootedArena}
use Rattle.amf_graph.specs.declared.value.Value.{Value as Stored}
use Rattle.amf0_spelling.specs.declared.form.Form.{Form}
use Rattle.amf0_spelling.specs.declared.form.Form.TheVariants as form
use Rattle.amf0_spelling.specs.KeptTables0.{KeptTables0, no_kept_tables0}
use Rattle.amf0_spelling.specs.Reads0.{IsReading0}
use Rattle.amf0_spelling.specs.Values0.{IsValue0}
use Rattle.amf0_spelling.specs.Tables0.{no_tables0}
use Rattle.amf0_layout_laws.specs.Layout0.{value0_layout}
use Rattle.amf0_layout_laws.proofs.Layout0Format.{values0_is_layout, answered0}
use Rattle.amf0_read.specs.declared.formed.Read0.{Read0}
use Rattle.amf0_read.specs.Answer0.{IsReadWith, Answers0}
use Rattle.amf_io.specs.Stretch.{AnswersOf, between}
use Rattle.amf_wire_fields.specs.Room.{Raises, left_of}
use Rattle.amf_packet.specs.declared.body.Body.{Body}
use Rattle.amf_packet.specs.declared.body.Body.TheVariants.{Call, Amf3, Plain}
use Rattle.amf_packet.specs.Content.{body_of}
use Rattle.amf_packet.specs.Items.{IsCallOf, IsBodyOf}
use Rattle.amf_packet.specs.Packet.{BodyBy}
use Rattle.amf_packet.specs.PacketAnswer.{body_weight}
use Rattle.amf_packet.specs.LayoutPacket.{done, no_state0, body_layout}
use Rattle.amf_packet.specs.ReadParts.{Took}
use Rattle.amf0_spelling.proofs.Bytes0.{bytes0}
use Rattle.amf_packet.proofs.ReadValues.{all_closed, has_item, body_spelled}
use Rattle.amf_packet.proofs.Taken.{took_of}
use Rattle.amf_io.proofs.VerdictLayouts.{taken_done, ended_ends}

value_bytes : (fs : List Field) → IsValue0 fs → AreBytes (flat fs)
value_bytes fs (g, (t, spelled)) = bytes0 free g g.root no_tables0 fs t spelled

-- how large the graph of a body is
pub body_weighs : (g : RootedArena) (f : Form) (body : Body) → IsBodyOf g f body → body_weight body ≡ weight g.arena
body_weighs g form.Call (Call h) i = ap weight i.0
body_weighs g form.Call (Amf3 h) i = absurd i
body_weighs g form.Call (Plain h) i = absurd i
body_weighs g form.Amf3 (Call h) i = absurd i
body_weighs g form.Amf3 (Amf3 h) i = ap (λ (z : RootedArena). weight z.arena) i
body_weighs g form.Amf3 (Plain h) i = absurd i
body_weighs g form.Plain (Call h) i = absurd i
body_weighs g form.Plain (Amf3 h) i = absurd i
body_weighs g form.Plain (Plain h) i = ap (λ (z : RootedArena). weight z.arena) i

-- with what was raised from nothing
pub raised_weight : (a b : Arena) (g : RootedArena) (f : Form) (body : Body) (at end : ℕ) → a ≡ no_arena → at ≤ end → Raises a b (end - at) → g.arena ≡ b → IsBodyOf g f body → at + body_weight body ≤ end
raised_weight a b g f body at end e le r is i =
    let one : weight a ≡ 1 = ap weight e in
    let w : body_weight body ≡ weight b = body_weighs g f body i ∙ ap weight is in
    let h = r.heavier in
    omega (arith, one, w, h, le)

module _ {S : Type 0} (tells : S → Type 0) (left : S → List ℕ) (faults : S → ℕ) (c d : Cursor S Window) where
  -- from a builder and tables that are new
  abbrev pub Answered : Arena → KeptTables0 → Result Read0 ReadEnd → Type 0
  Answered b u r = AnswersOf (λ x fs. IsReadWith no_arena no_kept_tables0 fs b u x) (IsReading0 no_arena no_kept_tables0) (between tells left c d) r

  pub from_new : (a b : Arena) (t u : KeptTables0) (r : Result Read0 ReadEnd) → a ≡ no_arena → t ≡ no_kept_tables0 → Answers0 a b t u (between tells left c d) r → Answered b u r
  from_new a b t u r e h w =
      subst (λ x. AnswersOf (λ y fs. IsReadWith x no_kept_tables0 fs b u y) (IsReading0 x no_kept_tables0) (between tells left c d) r) e
      (subst (λ x. AnswersOf (λ y fs. IsReadWith a x fs b u y) (IsReading0 a x) (between tells left c d) r) h w)

  -- what is needed of the graph
  pub names_root : (b : Arena) (u : KeptTables0) (x : Read0) → Answered b u (Ok x) → Names b x.value
  names_root b u x a = a.read.read.value

  pub closed_nodes : (b : Arena) (u : KeptTables0) (x : Read0) → Answered b u (Ok x) → AllByRecursion (λ n. n.is_open ≡ false) b.nodes
  closed_nodes b u x a = all_closed b a.read.read.grows

  pub call_has_item : (b : Arena) (u : KeptTables0) (x : Read0) (g : RootedArena) → Answered b u (Ok x) → g ≡ record { arena = b; root = x.value } → x.form ≡ form.Call → (item : Stored) × IsCallOf g item
  call_has_item b u x g a is e = subst (λ (z : RootedArena). (item : Stored) × IsCallOf z item) (sym is) (has_item b u x a.fields a.read e)

  pub value_placed : {X : Type 0} (b : Arena) (u : KeptTables0) (x : Read0) (z : X) → Answered b u (Ok x) → GoesBy tells left faults c d (Ok z) → IsPlaced d
  value_placed b u x z a g = record { within = subst (λ n. place d ≤ n) (sym g.same_bound) a.within; one_past = g.one_past }

  pub value_stays : (b : Arena) (u : KeptTables0) (x : Read0) → Answered b u (Ok x) → place c ≤ place d
  value_stays b u x a = let t = a.taken in omega arith

  -- a value
  pub value_took : (b : Arena) (u : KeptTables0) (x : Read0) (g : RootedArena) (body : Body) → place c ≤ bound c → Answered b u (Ok x) → g ≡ record { arena = b; root = x.value } → IsBodyOf g x.form body → (n : ℕ) → left_of c < n → Took tells left (body_layout n) tt (BodyBy free (body_of body).form (body_of body).graph) c d
  value_took b u x g body le a is i n lt =
      let k = taken_done (λ m. value0_layout m false no_state0) IsValue0 values0_is_layout value_bytes (place c) (bound c) le {X = Read0} (λ y fs. IsReadWith no_arena no_kept_tables0 fs b u y) (tells (source_of c).now) (unread left c) (unread left d) (place d) n x lt (answered0 (λ y fs. IsReadWith no_arena no_kept_tables0 fs b u y) (between tells left c d) (Ok x) a) in
      took_of tells left faults {X = Unit {0}} (λ y. k.0) (value0_layout n false no_state0) tt (λ y. done) (BodyBy free (body_of body).form (body_of body).graph) c d tt refl k.1
      (body_spelled b u x k.1.fields k.2 body (subst (λ (z : RootedArena). IsBodyOf z x.form body) is i))

  -- an end
  pub value_ended : (b : Arena) (u : KeptTables0) (e : ReadEnd) → place c ≤ bound c → Answered b u (Err e) → (n : ℕ) → left_of c < n → Ends tells left (body_layout n) c d e
  value_ended b u e le a n lt =
      end_reads tells left faults (value0_layout n false no_state0) (λ y. done) c d e
      (ended_ends (λ m. value0_layout m false no_state0) IsValue0 values0_is_layout value_bytes (place c) (bound c) le {X = Read0} (λ y fs. IsReadWith no_arena no_kept_tables0 fs b u y) (tells (source_of c).now) (unread left c) (unread left d) (place d) n lt e (answered0 (λ y fs. IsReadWith no_arena no_kept_tables0 fs b u y) (between tells left c d) (Err e) a))
