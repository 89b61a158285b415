-- How the readers of a packet's parts are joined.
use Rattle.std.proofs.Common.{◌≡◌, ℕ, suc, ◌-◌, ◌<◌, ◌≤◌, List, [], ◌∷◌, length, map, refl, sym, ap, subst, arith, Result, Ok, Err}
use Rattle.std.specs.Result.{IsErrAnd}
use Rattle.amf_io.specs.declared.window.Window.{Window}
use Rattle.amf_io.specs.declared.cursor.Cursor.{Cursor}
use Rattle.amf_io.specs.declared.ends.ReadEnd.{ReadEnd}
use Rattle.amf_io.specs.Cursor.{source_of, place, bound, unread}
use Rattle.amf_io.specs.ReadEnds.{GoesBy}
use Rattle.amf_io.specs.CursorReads.{Ends}
use Rattle.amf_io.specs.Field.{Field}
use Rattle.amf_io.proofs.CursorReads.{end_reads, goes_end}
use Rattle.amf_wire.specs.Style.{free}
use Rattle.amf_wire_fields.specs.Room.{left_of}
use Rattle.amf_wire_fields.proofs.LayoutVerdicts.{answers_taken, answers_ended}
use Rattle.amf_packet.specs.declared.packet.Header.{Header as KeptHeader}
use Rattle.amf_packet.specs.declared.packet.Message.{Message as KeptMessage}
use Rattle.amf_packet.specs.declared.packet.Packet.{Packet as KeptPacket}
use Rattle.amf_packet.specs.Content.{header_of, message_of, packet_of}
use Rattle.amf_packet.specs.Packet.{Beside, Each, HeaderBy, MessageBy, VersionBy, CountBy, ListBy, SpellsPacket, IsPacketReading}
use Rattle.amf_packet.specs.PacketAnswer.{AnswersPacket}
use Rattle.amf_packet.specs.LayoutPacket.{BareLayout, and_then, header_layout, message_layout, version_layout, times, list_layout, packet_layout}
use Rattle.amf_packet.specs.ReadParts.{Took, ReadsFueled, count_layout, ListSo}
use Rattle.amf_packet.proofs.PacketLayout.{packet_is_layout}
use Rattle.amf_packet.proofs.Taken.{took_then, took_end, took_less, list_end, list_all}

each_mapped : {X Y : Type 0} (P : Y → List Field → Type 0) (f : X → Y) (xs : List X) (fs : List Field) → Each (λ x. P (f x)) xs fs → Each P (map f xs) fs
each_mapped P f [] fs e = e
each_mapped P f (x ∷ xs) fs (front, back, parts, p, q) = (front, back, parts, p, each_mapped P f xs back q)

map_length : {X Y : Type 0} (f : X → Y) (xs : List X) → length (map f xs) ≡ length xs
map_length f [] = refl
map_length f (x ∷ xs) = ap suc (map_length f xs)

list_mapped : {X Y : Type 0} (P : Y → List Field → Type 0) (f : X → Y) (xs : List X) (fs : List Field) → ListBy (λ x. P (f x)) xs fs → ListBy P (map f xs) fs
list_mapped P f xs fs (front, back, parts, p, q) = (front, back, parts, subst (λ n. CountBy n front) (sym (map_length f xs)) p, each_mapped P f xs back q)

abbrev pub KeptHeaders : List KeptHeader → List Field → Type 0
KeptHeaders hs = ListBy (λ h. HeaderBy free (header_of h)) hs

abbrev pub KeptMessages : List KeptMessage → List Field → Type 0
KeptMessages ms = ListBy (λ m. MessageBy free (message_of m)) ms

module _ {S : Type 0} (tells : S → Type 0) (left : S → List ℕ) (faults : S → ℕ) where
  -- an error that is passed on
  pub fueled_passed : {X : Type 0} (P : X → List Field → Type 0) (t : ℕ → BareLayout) (c d : Cursor S Window) (r : Result X ReadEnd) (e : ReadEnd) → IsErrAnd r (λ x. x ≡ e) → ((n : ℕ) → left_of c < n → Ends tells left (t n) c d e) → ReadsFueled tells left P t c d r
  fueled_passed P t c d (Ok x) e h a n lt = absurd h
  fueled_passed P t c d (Err x) e h a n lt = subst (Ends tells left (t n) c d) (sym h) (a n lt)

  -- the cursor of a reader whose error is passed on
  pub goes_passed : {X Z : Type 0} (c d : Cursor S Window) (r : Result Z ReadEnd) (e : ReadEnd) → IsErrAnd r (λ x. x ≡ e) → GoesBy {X = X} tells left faults c d (Err e) → GoesBy {X = Z} tells left faults c d r
  goes_passed c d (Ok x) e h a = absurd h
  goes_passed {Z = Z} c d (Err x) e h a = subst (λ z. GoesBy {X = Z} tells left faults c d (Err z)) (sym h) (goes_end tells left faults c d e a)

  -- a part, and then another
  pub reads_then : {X Z : Type 0} (P : List Field → Type 0) (Q : Z → List Field → Type 0) (t : BareLayout) (u : ℕ → BareLayout) (c d e : Cursor S Window) (x : X) (r : Result Z ReadEnd) → GoesBy tells left faults c d (Ok x) → Took tells left t tt P c d → ReadsFueled tells left Q u d e r → ReadsFueled tells left (λ z. Beside P (Q z)) (λ n. and_then t (u n)) c e r
  reads_then P Q t u c d e x (Ok z) g a b n lt = took_then tells left faults t (λ y. u n) tt tt P (Q z) c d e x g a (b n (let l = took_less tells left faults t tt P c d g.same_bound a in omega arith))
  reads_then P Q t u c d e x (Err end) g a b n lt = took_end tells left faults t (λ y. u n) tt P c d e x end g a (b n (let l = took_less tells left faults t tt P c d g.same_bound a in omega arith))

  -- a part, and then another that ends inside
  pub reads_end : {X : Type 0} (P : List Field → Type 0) (t v : BareLayout) (u : ℕ → BareLayout) (c d e : Cursor S Window) (x : X) (end : ReadEnd) → GoesBy tells left faults c d (Ok x) → Took tells left t tt P c d → Ends tells left v d e end → (n : ℕ) → left_of c < n → Ends tells left (and_then t (and_then v (u n))) c e end
  reads_end P t v u c d e x end g a b n lt = took_end tells left faults t (λ y. and_then v (u n)) tt P c d e x end g a (end_reads tells left faults v (λ y. u n) d e end b)

  -- two parts, and then another
  pub reads_three : {X Y Z : Type 0} (P Q : List Field → Type 0) (R : Z → List Field → Type 0) (t v : BareLayout) (u : ℕ → BareLayout) (c d e f : Cursor S Window) (x : X) (y : Y) (r : Result Z ReadEnd) → GoesBy tells left faults c d (Ok x) → Took tells left t tt P c d → GoesBy tells left faults d e (Ok y) → Took tells left v tt Q d e → ReadsFueled tells left R u e f r
      → ReadsFueled tells left (λ z. Beside P (Beside Q (R z))) (λ n. and_then t (and_then v (u n))) c f r
  reads_three P Q R t v u c d e f x y r g a h b l = reads_then P (λ z. Beside Q (R z)) t (λ n. and_then v (u n)) c d f x r g a (reads_then Q R v u d e f y r h b l)

  -- Lists.

  pub count_end : (t : ℕ → BareLayout) (c d : Cursor S Window) (end : ReadEnd) → Ends tells left count_layout c d end → (n : ℕ) → left_of c < n → Ends tells left (list_layout (t n)) c d end
  count_end t c d end a n lt = end_reads tells left faults count_layout (λ k. times k (t n)) c d end a

  module _ {X : Type 0} (P : X → List Field → Type 0) (heavy : X → ℕ) (t : ℕ → BareLayout) (count : ℕ) (c d : Cursor S Window) (g : GoesBy tells left faults c d (Ok count)) (a : Took tells left count_layout count (CountBy count) c d) where
    less : left_of d ≤ left_of c
    less = took_less tells left faults count_layout count (CountBy count) c d g.same_bound a

    -- an item ends inside
    pub item_end : (k : ℕ) (xs : List X) (w : ℕ) (e f : Cursor S Window) (end : ReadEnd) → k < count → ListSo tells left faults P heavy t count (count - k) xs w d e → ((n : ℕ) → left_of e < n → Ends tells left (t n) e f end) → (n : ℕ) → left_of c < n → Ends tells left (list_layout (t n)) c f end
    item_end k xs w e f end lt l h n fuel =
        let more : count - k ≡ suc (count - suc k) = omega arith in
        took_end tells left faults count_layout (λ j. times j (t n)) count (CountBy count) c d f count end g a
        (list_end tells left faults P heavy t count (count - suc k) xs w d e f end (subst (λ j. ListSo tells left faults P heavy t count j xs w d e) more l) h n (let s = less in omega arith))

    -- all items were read
    pub list_took : (xs : List X) (w : ℕ) (e : Cursor S Window) → ListSo tells left faults P heavy t count 0 xs w d e → (n : ℕ) → left_of c < n → Took tells left (list_layout (t n)) tt (ListBy P xs) c e
    list_took xs w e l n fuel =
        let same : count ≡ length xs = let s = l.size in omega arith in
        subst (λ j. Took tells left (list_layout (t n)) tt (Beside (CountBy j) (Each P xs)) c e) same
        (took_then tells left faults count_layout (λ j. times j (t n)) count tt (CountBy count) (Each P xs) c d e count g a (list_all tells left faults P heavy t count xs w d e l n (let s = less in omega arith)))

  -- Packets.

  -- version and headers, and then the messages, all with fuel
  pub versioned : (c d e f : Cursor S Window) (v : ℕ) (hs : List KeptHeader) (r : Result (List KeptMessage) ReadEnd) → GoesBy tells left faults c d (Ok v) → Took tells left version_layout tt (VersionBy v) c d → GoesBy tells left faults d e (Ok hs) → ReadsFueled tells left KeptHeaders (λ n. list_layout (header_layout n)) d e (Ok hs) → ReadsFueled tells left KeptMessages (λ n. list_layout (message_layout n)) e f r
      → ReadsFueled tells left (λ ms. Beside (VersionBy v) (Beside (KeptHeaders hs) (KeptMessages ms))) packet_layout c f r
  versioned c d e f v hs (Ok ms) g a h b k n lt =
      let less = took_less tells left faults version_layout tt (VersionBy v) c d g.same_bound a in
      let hb = b n (omega arith) in
      let fewer = took_less tells left faults (list_layout (header_layout n)) tt (KeptHeaders hs) d e h.same_bound hb in
      took_then tells left faults version_layout (λ y. and_then (list_layout (header_layout n)) (list_layout (message_layout n))) tt tt (VersionBy v) (Beside (KeptHeaders hs) (KeptMessages ms)) c d f v g a
      (took_then tells left faults (list_layout (header_layout n)) (λ y. list_layout (message_layout n)) tt tt (KeptHeaders hs) (KeptMessages ms) d e f hs h hb (k n (omega arith)))
  versioned c d e f v hs (Err end) g a h b k n lt =
      let less = took_less tells left faults version_layout tt (VersionBy v) c d g.same_bound a in
      let hb = b n (omega arith) in
      let fewer = took_less tells left faults (list_layout (header_layout n)) tt (KeptHeaders hs) d e h.same_bound hb in
      took_end tells left faults version_layout (λ y. and_then (list_layout (header_layout n)) (list_layout (message_layout n))) tt (VersionBy v) c d f v end g a
      (took_end tells left faults (list_layout (header_layout n)) (λ y. list_layout (message_layout n)) tt (KeptHeaders hs) d e f hs end h hb (k n (omega arith)))

  -- it ends inside the headers
  pub headed_end : (c d e : Cursor S Window) (v : ℕ) (end : ReadEnd) → GoesBy tells left faults c d (Ok v) → Took tells left version_layout tt (VersionBy v) c d → ((n : ℕ) → left_of d < n → Ends tells left (list_layout (header_layout n)) d e end) → (n : ℕ) → left_of c < n → Ends tells left (packet_layout n) c e end
  headed_end c d e v end g a k n lt =
      let less = took_less tells left faults version_layout tt (VersionBy v) c d g.same_bound a in
      took_end tells left faults version_layout (λ y. and_then (list_layout (header_layout n)) (list_layout (message_layout n))) tt (VersionBy v) c d e v end g a
      (end_reads tells left faults (list_layout (header_layout n)) (λ y. list_layout (message_layout n)) d e end (k n (omega arith)))

  -- the fields spell the packet
  pub packet_spelled : (p : KeptPacket) (fs : List Field) → Beside (VersionBy p.version) (Beside (KeptHeaders p.headers) (KeptMessages p.messages)) fs → SpellsPacket free (packet_of p) fs
  packet_spelled p fs (front, back, parts, v, (f2, b2, p2, hs, ms)) = (front, back, parts, v, (f2, b2, p2, list_mapped (HeaderBy free) header_of p.headers f2 hs, list_mapped (MessageBy free) message_of p.messages b2 ms))

  -- what is answered by the layout is the verdict
  pub packet_answered : (c d : Cursor S Window) (p : KeptPacket) → ReadsFueled tells left (λ ms. Beside (VersionBy p.version) (Beside (KeptHeaders p.headers) (KeptMessages ms))) packet_layout c d (Ok p.messages) → AnswersPacket tells left c d (Ok p)
  packet_answered c d p a =
      let n = suc (left_of c) in
      let b = a n (omega arith) in
      answers_taken {X = KeptPacket} packet_layout IsPacketReading packet_is_layout (λ q fs. SpellsPacket free (packet_of q) fs) (tells (source_of c).now) (unread left c) (unread left d) (place c) (place d) (bound c) n p tt b.0 (packet_spelled p b.0.fields b.1)

  pub packet_ended : (c d : Cursor S Window) (r : Result KeptPacket ReadEnd) (e : ReadEnd) → place c ≤ bound c → IsErrAnd r (λ x. x ≡ e) → ((n : ℕ) → left_of c < n → Ends tells left (packet_layout n) c d e) → AnswersPacket tells left c d r
  packet_ended c d (Ok p) e le h a = absurd h
  packet_ended c d (Err x) e le h a =
      let n = suc (left_of c) in
      answers_ended {X = KeptPacket} packet_layout IsPacketReading packet_is_layout (λ q fs. SpellsPacket free (packet_of q) fs) (tells (source_of c).now) (unread left c) (unread left d) (place c) (place d) (bound c) n le (omega arith) x
      (subst (Ends tells left (packet_layout n) c d) (sym h) (a n (omega arith)))
