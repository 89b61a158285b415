-- How what was read of the parts of a packet is joined.
use Rattle.std.proofs.Common.{◌≡◌, ℕ, suc, ◌+◌, ◌<◌, ◌≤◌, List, [], ◌∷◌, ◌++◌, length, refl, sym, ap, ◌∙◌, subst, arith, append_assoc, length-append, Ok, Err}
use Rattle.std.proofs.lemmas.List.{append-nil}
use Rattle.amf_io.specs.declared.window.Window.{Window}
use Rattle.amf_io.specs.declared.cursor.Cursor.{Cursor}
use Rattle.amf_io.specs.declared.ends.ReadEnd.{ReadEnd}
use Rattle.amf_io.specs.Cursor.{place, bound, unread}
use Rattle.amf_io.specs.ReadEnds.{IsPlaced, GoesBy}
use Rattle.amf_io.specs.CursorReads.{Answers, Ends}
use Rattle.amf_io.specs.Field.{Field, flat}
use Rattle.amf_io.specs.Layout.{Layout, give, bind, Path}
use Rattle.amf_io.proofs.Ables.{bytes_flat}
use Rattle.amf_io.proofs.CursorReads.{goes_nowhere, goes_then, then_reads, leads_end, end_reads}
use Rattle.amf_io.proofs.Paths.{runs_bind, path_join, path_bind, flat-append}
use Rattle.amf_wire_fields.specs.Room.{left_of}
use Rattle.amf_packet.specs.Packet.{Beside, Each}
use Rattle.amf_packet.specs.LayoutPacket.{BareLayout, times}
use Rattle.amf_packet.specs.ReadParts.{Took, ListSo}

module _ {S : Type 0} (tells : S → Type 0) (left : S → List ℕ) (faults : S → ℕ) where
  -- one after the other
  pub took_then : {X Y Z : Type 0} (t : Layout Y) (next : Y → Layout Z) (y : Y) (z : Z) (P Q : List Field → Type 0) (c d e : Cursor S Window) (x : X) → GoesBy tells left faults c d (Ok x) → Took tells left t y P c d → Took tells left (next y) z Q d e → Took tells left (bind t next) z (Beside P Q) c e
  took_then t next y z P Q c d e x g (a, p) (b, q) = (
    record {
      fields = a.fields ++ b.fields;
      runs = runs_bind t next a.fields b.fields y (give z) a.runs b.runs;
      bytes = bytes_flat a.fields b.fields a.bytes b.bytes;
      taken = let u = a.taken in let v = b.taken in omega (arith, ap length (flat-append a.fields b.fields), length-append (flat a.fields) (flat b.fields));
      within = subst (λ n. place e ≤ n) g.same_bound b.within;
      parts = λ s.
          a.parts s ∙ ap (λ l. flat a.fields ++ l) (b.parts (g.told s)) ∙ sym (append_assoc (flat a.fields) (flat b.fields) (unread left e)) ∙ ap (λ l. l ++ unread left e) (sym (flat-append a.fields b.fields));
    },
    (a.fields, b.fields, refl, p, q),
  )

  -- an end behind what was taken
  pub took_end : {X Y Z : Type 0} (t : Layout Y) (next : Y → Layout Z) (y : Y) (P : List Field → Type 0) (c d e : Cursor S Window) (x : X) (end : ReadEnd) → GoesBy tells left faults c d (Ok x) → Took tells left t y P c d → Ends tells left (next y) d e end → Ends tells left (bind t next) c e end
  took_end {X} {Y} {Z} t next y P c d e x end g a b = then_reads tells left faults {X = Y} {Y = Y} {Z = Z} {W = Z} (λ u. u) (λ u. u) t next c d e y (Err end) (record { told = g.told; same_source = g.same_source; same_bound = g.same_bound; one_past = g.one_past; cause = g.cause; none_ahead = tt; total = g.total }) a.0 b

  -- what was taken leaves no more than there was
  pub took_less : {Y : Type 0} (t : Layout Y) (y : Y) (P : List Field → Type 0) (c d : Cursor S Window) → bound d ≡ bound c → Took tells left t y P c d → left_of d ≤ left_of c
  took_less t y P c d same (a, p) = let u = a.taken in omega (arith, same)

  -- it is placed where it ends
  pub took_placed : {X Y : Type 0} (t : Layout Y) (y : Y) (P : List Field → Type 0) (c d : Cursor S Window) (x : X) → GoesBy tells left faults c d (Ok x) → Took tells left t y P c d → IsPlaced d
  took_placed t y P c d x g (a, p) = record { within = subst (λ n. place d ≤ n) (sym g.same_bound) a.within; one_past = g.one_past }

  -- what a reader answered, of which the fields are known
  pub took_of : {X Y Z : Type 0} (view : X → Y) (t : Layout Y) (z : Z) (f : Y → Layout Z) (P : List Field → Type 0) (c d : Cursor S Window) (x : X) → f (view x) ≡ give z → (a : Answers tells left view t c d (Ok x)) → P a.fields → Took tells left (bind t f) z P c d
  took_of view t z f P c d x e a p = (
    record {
      fields = a.fields;
      runs = subst (λ u. Path (bind t f) a.fields u) e (path_bind t (give (view x)) f a.fields a.runs);
      bytes = a.bytes;
      taken = a.taken;
      within = a.within;
      parts = a.parts;
    },
    p,
  )

  -- Lists.

  each_push : {X : Type 0} (P : X → List Field → Type 0) (xs : List X) (fs gs : List Field) (x : X) → Each P xs fs → P x gs → Each P (xs ++ x ∷ []) (fs ++ gs)
  each_push P [] fs gs x e p = (gs, [], ap (λ l. l ++ gs) e ∙ sym (append-nil gs), p, refl)
  each_push P (y ∷ xs) fs gs x (front, back, parts, first, second) p = (front, back ++ gs, ap (λ l. l ++ gs) parts ∙ append_assoc front back gs, first, each_push P xs back gs x second p)

  module _ {X : Type 0} (P : X → List Field → Type 0) (heavy : X → ℕ) (t : ℕ → BareLayout) (count : ℕ) where
    -- nothing was read
    pub list_none : (c : Cursor S Window) → IsPlaced c → ListSo tells left faults P heavy t count count [] 0 c c
    list_none c p = record {
      goes = goes_nowhere tells left faults c tt p;
      placed = p;
      leads = λ n lt. (record { fields = []; path = refl; bytes = tt; taken = omega arith; within = p.within; parts = λ s. refl }, refl);
      size = omega arith;
      weighs = omega arith;
    }

    -- one more was read
    pub list_more : (more : ℕ) (xs : List X) (w : ℕ) (c d e : Cursor S Window) (x : X) → ListSo tells left faults P heavy t count (suc more) xs w c d → GoesBy tells left faults d e (Ok x) → IsPlaced e → ((n : ℕ) → left_of d < n → Took tells left (t n) tt (P x) d e) → place d + heavy x ≤ place e
        → ListSo tells left faults P heavy t count more (xs ++ x ∷ []) (w + heavy x) c e
    list_more more xs w c d e x l g p a h = record {
      goes = goes_then tells left faults c d e tt (Ok tt) l.goes (record { told = g.told; same_source = g.same_source; same_bound = g.same_bound; one_past = g.one_past; cause = g.cause; none_ahead = tt; total = g.total });
      placed = p;
      leads = λ n lt.
          let m = l.leads n lt in
          let b = a n (let same = l.goes.same_bound in let u = m.0.taken in omega (arith, same, u, lt)) in
          let fs = m.0.fields in
          let gs = b.0.fields in (
            record {
              fields = fs ++ gs;
              path = path_join (times count (t n)) (times (suc more) (t n)) (times more (t n)) fs gs m.0.path (path_bind (t n) (give tt) (λ y. times more (t n)) gs b.0.runs);
              bytes = bytes_flat fs gs m.0.bytes b.0.bytes;
              taken = let u = m.0.taken in let v = b.0.taken in omega (arith, ap length (flat-append fs gs), length-append (flat fs) (flat gs));
              within = subst (λ k. place e ≤ k) l.goes.same_bound b.0.within;
              parts = λ s. m.0.parts s ∙ ap (λ k. flat fs ++ k) (b.0.parts (l.goes.told s)) ∙ sym (append_assoc (flat fs) (flat gs) (unread left e)) ∙ ap (λ k. k ++ unread left e) (sym (flat-append fs gs));
            },
            each_push P xs fs gs x m.1 b.1,
          );
      size = let s = l.size in omega (arith, s, length-append xs (x ∷ []));
      weighs = let s = l.weighs in omega (arith, s, h);
    }

    -- reading one more ends
    pub list_end : (more : ℕ) (xs : List X) (w : ℕ) (c d e : Cursor S Window) (end : ReadEnd) → ListSo tells left faults P heavy t count (suc more) xs w c d → ((n : ℕ) → left_of d < n → Ends tells left (t n) d e end) → (n : ℕ) → left_of c < n → Ends tells left (times count (t n)) c e end
    list_end more xs w c d e end l h n lt =
        let m = l.leads n lt in
        leads_end tells left faults {X = Unit {0}} (times count (t n)) (times (suc more) (t n)) c d e tt end l.goes m.0
        (end_reads tells left faults (t n) (λ y. times more (t n)) d e end (h n (let same = l.goes.same_bound in let u = m.0.taken in omega (arith, same, u, lt))))

    -- all were read
    pub list_all : (xs : List X) (w : ℕ) (c d : Cursor S Window) → ListSo tells left faults P heavy t count 0 xs w c d → (n : ℕ) → left_of c < n → Took tells left (times count (t n)) tt (Each P xs) c d
    list_all xs w c d l n lt =
        let m = l.leads n lt in
        (record { fields = m.0.fields; runs = m.0.path; bytes = m.0.bytes; taken = m.0.taken; within = m.0.within; parts = m.0.parts }, m.1)
