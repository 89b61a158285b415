-- How the reading of a whole input ends.
use Rattle.std.proofs.Common.{◌≡◌, ◌≢◌, ℕ, ◌≤◌, List, [], ◌∷◌, ◌++◌, ◌+◌, length, length-append, append_assoc, take, drop, Result, Ok, Err, false, refl, sym, ap, ◌∙◌, subst, arith, inl, inr}
use Rattle.std.specs.List.{AllByRecursion}
use Rattle.std.proofs.lemmas.List.{append-nil, length-take}
use Rattle.amf_io.specs.declared.window.Window.{Window}
use Rattle.amf_io.specs.declared.cursor.Cursor.{Cursor}
use Rattle.amf_io.specs.Cursor.{source_of, ahead, unread}
use Rattle.amf_io.specs.Cursor as cursors
use Rattle.amf_io.specs.Outside.{Rose}
use Rattle.amf_io.specs.ReadEnds.{CountsEnd, IsFaultedEnd, GoesBy}
use Rattle.amf_io.specs.Field.{Field, flat}
use Rattle.amf_io.specs.declared.reason.Reason.{Reason}
use Rattle.amf_io.specs.Verdict.{IsRefused, IsCutOff, IsInputRefused, refused, trailing}
use Rattle.amf_io.proofs.Paths.{flat-append}
use Rattle.amf_io.specs.declared.ends.ReadEnd.{ReadEnd}
use Rattle.amf_io.specs.declared.ends.ReadEnd.TheVariants.{Refused, ReadFault, Memory}
use Rattle.amf_graph.specs.declared.value.Value.{Value}
use Rattle.amf_graph.specs.Graph.{Graph}
use Rattle.amf_graph.specs.Arena.{Arena, graph_of, IsFinished}
use Rattle.amf_graph.specs.Rooted.{RootedArena, content}
use Rattle.amf_graph.proofs.FinishedSmall.{completes_itself}
use Rattle.amf_graph.specs.Building.{no_arena}
use Rattle.amf3_spelling.specs.KeptTables.{KeptTables, no_kept_tables, tables_of}
use Rattle.amf3_spelling.specs.Reads3.{Grows, IsRead3, IsReading3}
use Rattle.amf3_spelling.specs.Values3.{IsValue3}
use Rattle.amf3_layout_laws.proofs.Values3Layout.{no_arena_built, values3_is_layout, reading_is_value, answered3}
use Rattle.amf0_layout_laws.proofs.Layout0Format.{reading_is_value0, answered0}
use Rattle.amf3_layout_laws.specs.Layout3State.{no_state}
use Rattle.amf3_layout_laws.specs.Layout3.{value_layout}
use Rattle.amf_io.specs.Stretch.{IsTaken, IsInterrupted, AnswersOf, stretch}
use Rattle.amf3_read.specs.Answer.{Answers3}
use Rattle.amf0_spelling.specs.KeptTables0.{KeptTables0, no_kept_tables0, tables0_of}
use Rattle.amf0_spelling.specs.Reads0.{IsReading0}
use Rattle.amf0_read.specs.Answer0.{IsReadWith}
use Rattle.amf0_read.specs.declared.formed.Read0.{Read0}
use Rattle.amf_wire.specs.Style.{free}
use Rattle.amf_packet.specs.declared.packet.Packet.{Packet as KeptPacket}
use Rattle.amf_packet.specs.Content.{packet_of}
use Rattle.amf_packet.specs.Packet.{SpellsPacket, IsPacketReading}
use Rattle.amf_sol.specs.FileAnswer.{IsFileTaken, AnswersFile}
use Rattle.amf_sol.specs.FileVerdict.{HasItsLength, IsFileRefused}
use Rattle.amf_sol.specs.SharedObject.{IsFileReading}
use Rattle.amf_sol.specs.StoredFile.{StoredFile, shared}
use Rattle.amf_graph.specs.declared.lack.Lack.{Lack}
use Rattle.amf_commands.specs.declared.run_end.RunEnd.{RunEnd}
use Rattle.amf_commands.specs.declared.run_end.RunEnd.TheVariants as run
use Rattle.amf3_read.specs.Pairs.{Pair}
use Rattle.amf_commands.specs.declared.format.Format.{Format}
use Rattle.amf_commands.specs.declared.format.Format.TheVariants.{Amf3, Amf0, Packet, Sol}
use Rattle.amf_commands.specs.declared.content.Content.{Content as KeptContent}
use Rattle.amf_commands.specs.Content.{Content, value, packet, file, content_of}
use Rattle.amf_commands.specs.Formats.{GivesLength, IsContent}
use Rattle.amf_commands.specs.Input.{most, Input, one, two, IsRefusedAs}
use Rattle.amf_commands.specs.Run.{IsInputOf, ArePairIn, CountsReads, IsHidden, IsReadEnd, NeverLacks, ReadsInput}
use Rattle.amf_commands.specs.ReadContent.{IsReadOne, AnswersOne, AnswersEnd, mapped}
use Rattle.amf_commands.specs.Lines.{end_of}
use Rattle.amf3_read.proofs.Pairs.{first_refused, first_cut, second_refused, second_cut}
use Rattle.amf_commands.proofs.Spelled.{layouts}

abbrev pub of_value : RootedArena → Content
of_value g = value (content g)

-- how the reader of a whole input ends, where P tells what it makes of an accepted one
abbrev pub AnswersInput : {X : Type 0} → Input → (X → Type 0) → List ℕ → List ℕ → Result X ReadEnd → Type 0
AnswersInput i P input rest (Ok x) = P x × (rest ≡ [])
AnswersInput i P input rest (Err (Refused f)) = IsRefusedAs i input f.reason f.at
AnswersInput i P input rest (Err ReadFault) = IsHidden i input rest
AnswersInput i P input rest (Err Memory) = Unit {0}

-- where nothing is read ahead, what is unread is what the source has left
pub none_unread : {S : Type 0} (left : S → List ℕ) (c : Cursor S Window) → ahead c ≡ 0 → unread left c ≡ left (source_of c).now
none_unread left c e = ap (λ k. take k (drop c.window.start c.window.buffer.items) ++ left c.source.now) e

pub none_after_fault : (n : ℕ) (e : ReadEnd) → IsFaultedEnd n e → e ≡ ReadFault → n ≡ 0
none_after_fault n (Refused f) h e = absurd cc
none_after_fault n ReadFault h e = h
none_after_fault n Memory h e = absurd cc

-- what is unread is what was read ahead, and what the source has left
pub unread_within : {S : Type 0} (left : S → List ℕ) (c : Cursor S Window) → length (unread left c) ≤ ahead c + length (left (source_of c).now)
unread_within left c =
    let waits = take (ahead c) (drop c.window.start c.window.buffer.items) in
    omega (arith, length-append waits (left c.source.now), length-take (ahead c) (drop c.window.start c.window.buffer.items))

pub none_left : (front rest : List ℕ) → front ++ rest ≡ [] → rest ≡ []
none_left [] rest e = e
none_left (x ∷ front) rest e = cc

-- no more than one byte past the most was taken
pub taken_whole : (at end next behind ahead rest limit bound : ℕ) → at ≡ 0 → limit ≡ most → bound ≡ limit → end + behind ≡ at + next → end + ahead ≤ bound + 1 → behind ≤ ahead + rest → next ≤ rest + (most + 1)
taken_whole at end next behind ahead rest limit bound z l b total past within = omega arith

-- what is answered, from nothing up to the most
pub from_nothing : (told : Type 0) (a b : Arena) (t u : KeptTables) (input rest : List ℕ) (at place limit : ℕ) (r : Result Value ReadEnd) → a ≡ no_arena → t ≡ no_kept_tables → limit ≡ most
    → Answers3 a b t u (stretch told input rest at place limit) r → Answers3 no_arena b no_kept_tables u (stretch told input rest at place most) r
from_nothing told a b t u input rest at place limit r e h m w =
    subst (λ x. Answers3 x b no_kept_tables u (stretch told input rest at place most) r) e
    (subst (λ x. Answers3 a b x u (stretch told input rest at place most) r) h
    (subst (λ x. Answers3 a b t u (stretch told input rest at place x) r) m w))

-- what was read from nothing: all nodes of it are new, and closed

pub all_closed : (b : Arena) → Grows no_arena b → AllByRecursion (λ n. n.is_open ≡ false) b.nodes
all_closed b g = subst (λ ns. AllByRecursion (λ n. n.is_open ≡ false) ns) (sym g.nodes) g.closed

pub one_read : (told : Type 0) (b : Arena) (u : KeptTables) (v : Value) (input rest : List ℕ) (at place : ℕ) → IsTaken (λ fs. IsRead3 no_arena no_kept_tables fs b u v) (IsReading3 no_arena no_kept_tables) (stretch told input rest at place most) → IsReadOne Amf3 told (value (graph_of b v)) input rest at place
one_read told b u v input rest at place r =
    let finished : IsFinished b = record { built = r.read.built no_arena_built; closed = all_closed b r.read.grows } in
    record { fields = r.fields; read = (tables_of b u, r.read.spelled b (completes_itself b finished)); accepted = reading_is_value r.fields r.accepted; parts = r.parts; taken = r.taken; within = r.within }

pub one_ends : (told : Type 0) (b : Arena) (u : KeptTables) (input rest : List ℕ) (at place : ℕ) (e : ReadEnd) → Answers3 no_arena b no_kept_tables u (stretch told input rest at place most) (Err e) → AnswersOne of_value Amf3 told input rest at place (Err e)
one_ends told b u input rest at place (Refused f) h = answered3 (λ v fs. IsRead3 no_arena no_kept_tables fs b u v) (stretch told input rest at place most) (Err (Refused f)) h
one_ends told b u input rest at place ReadFault h = answered3 (λ v fs. IsRead3 no_arena no_kept_tables fs b u v) (stretch told input rest at place most) (Err ReadFault) h
one_ends told b u input rest at place Memory h = tt

-- the same of AMF 0
pub from_nothing0 : (told : Type 0) (a b : Arena) (t u : KeptTables0) (input rest : List ℕ) (at place limit : ℕ) (r : Result Read0 ReadEnd) → a ≡ no_arena → t ≡ no_kept_tables0 → limit ≡ most
    → AnswersOf (λ x fs. IsReadWith a t fs b u x) (IsReading0 a t) (stretch told input rest at place limit) r → AnswersOf (λ x fs. IsReadWith no_arena no_kept_tables0 fs b u x) (IsReading0 no_arena no_kept_tables0) (stretch told input rest at place most) r
from_nothing0 told a b t u input rest at place limit r e h m w =
    subst (λ x. AnswersOf (λ y fs. IsReadWith x no_kept_tables0 fs b u y) (IsReading0 x no_kept_tables0) (stretch told input rest at place most) r) e
    (subst (λ x. AnswersOf (λ y fs. IsReadWith a x fs b u y) (IsReading0 a x) (stretch told input rest at place most) r) h
    (subst (λ x. AnswersOf (λ y fs. IsReadWith a t fs b u y) (IsReading0 a t) (stretch told input rest at place x) r) m w))

pub one_read0 : (told : Type 0) (b : Arena) (u : KeptTables0) (x : Read0) (input rest : List ℕ) (at place : ℕ) → IsTaken (λ fs. IsReadWith no_arena no_kept_tables0 fs b u x) (IsReading0 no_arena no_kept_tables0) (stretch told input rest at place most) → IsReadOne Amf0 told (value (graph_of b x.value)) input rest at place
one_read0 told b u x input rest at place r =
    let read = r.read.read in
    let finished : IsFinished b = record { built = read.built no_arena_built; closed = all_closed b read.grows } in
    record { fields = r.fields; read = (tables0_of b u, read.spelled b (completes_itself b finished)); accepted = reading_is_value0 r.fields r.accepted; parts = r.parts; taken = r.taken; within = r.within }

pub one_ends0 : (told : Type 0) (b : Arena) (u : KeptTables0) (input rest : List ℕ) (at place : ℕ) (e : ReadEnd) → AnswersOf (λ x fs. IsReadWith no_arena no_kept_tables0 fs b u x) (IsReading0 no_arena no_kept_tables0) (stretch told input rest at place most) (Err e) → AnswersOne of_value Amf0 told input rest at place (Err e)
one_ends0 told b u input rest at place (Refused f) h = answered0 (λ x fs. IsReadWith no_arena no_kept_tables0 fs b u x) (stretch told input rest at place most) (Err (Refused f)) h
one_ends0 told b u input rest at place ReadFault h = answered0 (λ x fs. IsReadWith no_arena no_kept_tables0 fs b u x) (stretch told input rest at place most) (Err ReadFault) h
one_ends0 told b u input rest at place Memory h = tt

-- where a source tells at the start, what a later reader says where it tells then holds
pub read_told : {more : Type 0} (f : Format) (told : Type 0) (g : Content) (input rest : List ℕ) (at place : ℕ) → (told → more) → IsReadOne f more g input rest at place → IsReadOne f told g input rest at place
read_told f told g input rest at place go r = record { fields = r.fields; read = r.read; accepted = r.accepted; parts = λ t. r.parts (go t); taken = r.taken; within = r.within }

pub ends_told : {more : Type 0} (f : Format) (told : Type 0) (input rest : List ℕ) (at place : ℕ) (e : ReadEnd) → (told → more) → AnswersOne of_value f more input rest at place (Err e) → AnswersOne of_value f told input rest at place (Err e)
ends_told f told input rest at place (Refused e) go h = λ t. h (go t)
ends_told f told input rest at place ReadFault go h = λ t. h (go t)
ends_told f told input rest at place Memory go h = tt

-- The one content of an input.

-- but for a file, the verdict is that of any list of fields, and no length is given
refused_as : (f : Format) → f ≢ Sol → (input : List ℕ) (reason : Reason) (at : ℕ) → IsInputRefused (IsContent f) most input reason at → IsRefusedAs (one f) input reason at
refused_as Amf3 n input reason at x = x
refused_as Amf0 n input reason at x = x
refused_as Packet n input reason at x = x
refused_as Sol n input reason at x = absurd (n refl)

gives_none : (f : Format) → f ≢ Sol → (input : List ℕ) → GivesLength f input
gives_none Amf3 n input = tt
gives_none Amf0 n input = tt
gives_none Packet n input = tt
gives_none Sol n input = absurd (n refl)

pub whole_ends : {X : Type 0} (f : Format) → f ≢ Sol → (Q : X → Type 0) (told : Type 0) (input rest : List ℕ) (place : ℕ) (e : ReadEnd) → told → AnswersOne content_of f told input rest 0 place (Err e) → AnswersInput (one f) Q input rest (Err e)
whole_ends f n Q told input rest place (Refused e) y h = refused_as f n input e.reason e.at (refused (h y))
whole_ends f n Q told input rest place ReadFault y h =
    let i = h y in
    let w = i.within in
    record { given = i.given; parts = i.parts; unsettled = record { within = omega arith; waits = inl (i.stop, i.cut_off) } }
whole_ends f n Q told input rest place Memory y h = tt

-- nothing follows it
pub whole_read : (f : Format) → f ≢ Sol → (told : Type 0) (g : Content) (input mid : List ℕ) (place : ℕ) → told → mid ≡ [] → IsReadOne f told g input mid 0 place → IsInputOf f g input
whole_read f none told g input mid place y e r =
    let all : input ≡ flat r.fields = r.parts y ∙ ap (λ m. flat r.fields ++ m) e ∙ append-nil (flat r.fields) in
    record { fields = r.fields; spelled = r.read; its_length = gives_none f none input; parts = all; within = let t = r.taken in let w = r.within in let n : length input ≡ length (flat r.fields) = ap length all in omega arith }

-- it ends, or bytes follow it, or a read fails behind it
pub whole_end_ends : {X : Type 0} (f : Format) → f ≢ Sol → (Q : X → Type 0) (told : Type 0) (g : Content) (input mid rest : List ℕ) (place : ℕ) (e : ReadEnd) → told → IsReadOne f told g input mid 0 place → AnswersEnd {T = Unit {0}} mid rest place (Err e) → AnswersInput (one f) Q input rest (Err e)
whole_end_ends f n Q told g input mid rest place (Refused e) y r (why, at, more) =
    refused_as f n input e.reason e.at (trailing why mid more (record { fields = r.fields; accepted = r.accepted; parts = r.parts y; place = at ∙ r.taken; within = let w = r.within in omega arith }))
whole_end_ends f n Q told g input mid rest place ReadFault y r same =
    let fits : length (flat r.fields) ≤ most = let t = r.taken in let w = r.within in omega arith in
    record {
      given = flat r.fields;
      parts = r.parts y ∙ ap (λ l. flat r.fields ++ l) (sym same);
      unsettled = record {
        within = fits;
        waits = inr (record { fields = r.fields; accepted = r.accepted; parts = sym (append-nil (flat r.fields)); place = omega arith; within = fits });
      };
    }
whole_end_ends f n Q told g input mid rest place Memory y r h = absurd h

-- The one file of an input.

pub file_ends : {X : Type 0} (Q : X → Type 0) (told : Type 0) (input rest : List ℕ) (at place limit : ℕ) (e : ReadEnd) → told → at ≡ 0 → limit ≡ most → AnswersFile (stretch told input rest at place limit) (Err e) → AnswersInput (one Sol) Q input rest (Err e)
file_ends Q told input rest at place limit (Refused f) y a l h = subst (λ n. IsFileRefused n most input f.reason f.at) a (subst (λ n. IsFileRefused at n input f.reason f.at) l (h y))
file_ends Q told input rest at place limit ReadFault y a l h =
    let i = h y in
    let w = i.within in
    record { given = i.given; parts = i.parts; unsettled = record { within = omega (arith, a, l, w); waits = inl (i.stop, subst (λ n. IsCutOff IsFileReading n i.given i.stop) a i.cut_off) } }
file_ends Q told input rest at place limit Memory y a l h = tt

-- it is all of the input
pub file_read : (told : Type 0) (o : StoredFile) (input rest : List ℕ) (at place limit : ℕ) → told → at ≡ 0 → limit ≡ most → IsFileTaken o (stretch told input rest at place limit) → IsInputOf Sol (file (shared o)) input
file_read told o input rest at place limit y a l r =
    let parts = r.parts y in
    let taken = r.taken in
    let within = r.within in
    record { fields = r.fields; spelled = r.spelled; its_length = subst HasItsLength (sym parts) r.its_length; parts = parts; within = omega (arith, a, l, taken, within, ap length parts) }

-- The two values of an input.

-- some fields are accepted
null_fields : (fs : List Field) × IsValue3 fs
null_fields =
    let r = values3_is_layout in
    let a = r.able 1 [] (value_layout 1 no_state) refl (omega arith) in
    (a.more, r.sound 1 a.more a.value a.bytes a.runs)

pub pair_first_ends : {X : Type 0} (Q : X → Type 0) (told : Type 0) (input rest : List ℕ) (place : ℕ) (e : ReadEnd) → told → AnswersOne of_value Amf3 told input rest 0 place (Err e) → AnswersInput two Q input rest (Err e)
pair_first_ends Q told input rest place (Refused f) y h = refused (first_refused layouts IsValue3 values3_is_layout most f.at f.reason input null_fields.0 null_fields.1 (h y))
pair_first_ends Q told input rest place ReadFault y h =
    let i = h y in
    let w = i.within in
    record { given = i.given; parts = i.parts; unsettled = record { within = omega arith; waits = inl (i.stop, first_cut layouts IsValue3 values3_is_layout i.stop i.given null_fields.0 null_fields.1 i.cut_off) } }
pair_first_ends Q told input rest place Memory y h = tt

pub pair_second_ends : {X : Type 0} (Q : X → Type 0) (told : Type 0) (g : Graph) (input mid rest : List ℕ) (between place : ℕ) (e : ReadEnd) → told → IsReadOne Amf3 told (value g) input mid 0 between → AnswersOne of_value Amf3 told mid rest between place (Err e) → AnswersInput two Q input rest (Err e)
pair_second_ends Q told g input mid rest between place (Refused f) y r h =
    let fs = r.fields in
    let w = r.within in
    let t : between ≡ length (flat fs) = let k = r.taken in omega arith in
    refused (subst (λ l. IsRefused (Pair IsValue3) 0 most l f.reason f.at) (sym (r.parts y))
    (second_refused layouts IsValue3 values3_is_layout fs most f.at f.reason mid r.accepted (omega arith) (subst (λ k. IsRefused IsValue3 k most mid f.reason f.at) t (h y))))
pair_second_ends Q told g input mid rest between place ReadFault y r h =
    let fs = r.fields in
    let i = h y in
    let w = i.within in
    let t : between ≡ length (flat fs) = let k = r.taken in omega arith in
    record {
      given = flat fs ++ i.given;
      parts = r.parts y ∙ ap (λ l. flat fs ++ l) i.parts ∙ sym (append_assoc (flat fs) i.given rest);
      unsettled = record {
        within = omega (arith, length-append (flat fs) i.given);
        waits = inl (i.stop, second_cut layouts IsValue3 values3_is_layout fs i.stop i.given r.accepted (subst (λ k. IsCutOff IsValue3 k i.given i.stop) t i.cut_off));
      };
    }
pair_second_ends Q told g input mid rest between place Memory y r h = tt

-- both were read
both_parts : (fs gs : List Field) (input mid last : List ℕ) → input ≡ flat fs ++ mid → mid ≡ flat gs ++ last → input ≡ flat (fs ++ gs) ++ last
both_parts fs gs input mid last e d = e ∙ ap (λ l. flat fs ++ l) d ∙ sym (append_assoc (flat fs) (flat gs) last) ∙ ap (λ l. l ++ last) (sym (flat-append fs gs))

both_length : (fs gs : List Field) → length (flat (fs ++ gs)) ≡ length (flat fs) + length (flat gs)
both_length fs gs = ap length (flat-append fs gs) ∙ length-append (flat fs) (flat gs)

pub pair_read : (told : Type 0) (g h : Graph) (input mid rest : List ℕ) (between place : ℕ) → told → rest ≡ [] → IsReadOne Amf3 told (value g) input mid 0 between → IsReadOne Amf3 told (value h) mid rest between place → ArePairIn g h input
pair_read told g h input mid rest between place y e r s =
    let all : input ≡ flat r.fields ++ flat s.fields = r.parts y ∙ ap (λ l. flat r.fields ++ l) (s.parts y ∙ ap (λ m. flat s.fields ++ m) e ∙ append-nil (flat s.fields)) in
    record {
      front = r.fields;
      back = s.fields;
      first = r.read;
      second = s.read;
      parts = all;
      within = let t = r.taken in let u = s.taken in let w = s.within in omega (arith, ap length all, length-append (flat r.fields) (flat s.fields));
    }

pub pair_end_ends : {X : Type 0} (Q : X → Type 0) (told : Type 0) (g h : Graph) (input mid last rest : List ℕ) (between place : ℕ) (e : ReadEnd) → told → IsReadOne Amf3 told (value g) input mid 0 between → IsReadOne Amf3 told (value h) mid last between place
    → AnswersEnd {T = Unit {0}} last rest place (Err e) → AnswersInput two Q input rest (Err e)
pair_end_ends Q told g h input mid last rest between place (Refused f) y r s (why, at, more) =
    trailing why last more (record {
      fields = r.fields ++ s.fields;
      accepted = record { front = r.fields; back = s.fields; parts = refl; first = r.accepted; second = s.accepted };
      parts = both_parts r.fields s.fields input mid last (r.parts y) (s.parts y);
      place = let t = r.taken in let u = s.taken in omega (arith, at, both_length r.fields s.fields);
      within = let w = s.within in omega (arith, at);
    })
pair_end_ends Q told g h input mid last rest between place ReadFault y r s same =
    let fs = r.fields ++ s.fields in
    let fits : length (flat fs) ≤ most = let t = r.taken in let u = s.taken in let w = s.within in omega (arith, both_length r.fields s.fields) in
    record {
      given = flat fs;
      parts = both_parts r.fields s.fields input mid last (r.parts y) (s.parts y) ∙ ap (λ l. flat fs ++ l) (sym same);
      unsettled = record {
        within = fits;
        waits = inr (record {
          fields = fs;
          accepted = record { front = r.fields; back = s.fields; parts = refl; first = r.accepted; second = s.accepted };
          parts = sym (append-nil (flat fs));
          place = omega arith;
          within = fits;
        });
      };
    }
pair_end_ends Q told g h input mid last rest between place Memory y r s none = absurd none

-- what was taken by a reader that went on from the start
pub taken_by : {S X : Type 0} (tells : S → Type 0) (left : S → List ℕ) (faults : S → ℕ) (old new : Cursor S Window) (r : Result X ReadEnd) → cursors.place old ≡ 0 → cursors.bound old ≡ most → GoesBy tells left faults old new r → tells (source_of old).now
    → length (unread left old) ≤ length (left (source_of new).now) + (most + 1)
taken_by tells left faults old new r z l g told =
    taken_whole (cursors.place old) (cursors.place new) (length (unread left old)) (length (unread left new)) (ahead new) (length (left (source_of new).now)) (cursors.bound old) (cursors.bound new) z l g.same_bound (g.total told) g.one_past (unread_within left new)

-- and by one that went on behind it
pub taken_behind : {S X Y : Type 0} (tells : S → Type 0) (left : S → List ℕ) (faults : S → ℕ) (old mid new : Cursor S Window) (r : Result X ReadEnd) (s : Result Y ReadEnd) → cursors.place old ≡ 0 → cursors.bound old ≡ most → GoesBy tells left faults old mid r → GoesBy tells left faults mid new s → tells (source_of old).now
    → length (unread left old) ≤ length (left (source_of new).now) + (most + 1)
taken_behind tells left faults old mid new r s z l g h told =
    taken_whole (cursors.place old) (cursors.place new) (length (unread left old)) (length (unread left new)) (ahead new) (length (left (source_of new).now)) (cursors.bound old) (cursors.bound new) z l (h.same_bound ∙ g.same_bound) (h.total (g.told told) ∙ g.total told) h.one_past (unread_within left new)

pub taken_last : {S X Y Z : Type 0} (tells : S → Type 0) (left : S → List ℕ) (faults : S → ℕ) (old mid next new : Cursor S Window) (r : Result X ReadEnd) (s : Result Y ReadEnd) (t : Result Z ReadEnd) → cursors.place old ≡ 0 → cursors.bound old ≡ most
    → GoesBy tells left faults old mid r → GoesBy tells left faults mid next s → GoesBy tells left faults next new t → tells (source_of old).now → length (unread left old) ≤ length (left (source_of new).now) + (most + 1)
taken_last tells left faults old mid next new r s t z l g h k told =
    taken_whole (cursors.place old) (cursors.place new) (length (unread left old)) (length (unread left new)) (ahead new) (length (left (source_of new).now)) (cursors.bound old) (cursors.bound new) z l (k.same_bound ∙ h.same_bound ∙ g.same_bound) (k.total (h.told (g.told told)) ∙ h.total (g.told told) ∙ g.total told) k.one_past (unread_within left new)

-- where a read failed, what is unread is what the source has left
pub left_behind : {S X : Type 0} (tells : S → Type 0) (left : S → List ℕ) (faults : S → ℕ) (old new : Cursor S Window) (e : ReadEnd) → GoesBy {X = X} tells left faults old new (Err e) → e ≡ ReadFault → unread left new ≡ left (source_of new).now
left_behind tells left faults old new e g h = none_unread left new (none_after_fault (ahead new) e g.none_ahead h)

-- where nothing is unread, the source has nothing left
pub nothing_left : {S : Type 0} (left : S → List ℕ) (c : Cursor S Window) → unread left c ≡ [] → left (source_of c).now ≡ []
nothing_left left c e = none_left (take (ahead c) (drop c.window.start c.window.buffer.items)) (left (source_of c).now) e

-- an end of the reader is that of the run
pub end_of_input : {X Y : Type 0} (i : Input) (P : X → Type 0) (Q : Y → Type 0) (input rest left : List ℕ) (e : ReadEnd) → AnswersInput i P input rest (Err e) → (e ≡ ReadFault → rest ≡ left) → ReadsInput i NeverLacks Q input left (Err (end_of e))
end_of_input i P Q input rest left (Refused f) h k = h
end_of_input i P Q input rest left ReadFault h k = subst (λ s. IsHidden i input s) (k refl) h
end_of_input i P Q input rest left Memory h k = tt

-- it is one that a reader has
pub end_is_read : (X : Type 0) (e : ReadEnd) → IsReadEnd {T = X} (Err (end_of e))
end_is_read X (Refused f) = tt
end_is_read X ReadFault = tt
end_is_read X Memory = tt

-- and its faults are counted, behind parts without one
pub end_counts : (X : Type 0) (e : ReadEnd) (m n k l : ℕ) → n ≡ m → k ≡ n → CountsEnd k l e → CountsReads {T = X} m l (Err (end_of e))
end_counts X (Refused f) m n k l p q r = r ∙ q ∙ p
end_counts X ReadFault m n k l p q r = subst (λ z. (z ≤ l) × Rose z l) (q ∙ p) r
end_counts X Memory m n k l p q r = r ∙ q ∙ p

-- and that of what is made of the input
pub end_goes_on : {X Y : Type 0} (i : Input) (L : ℕ → Lack → Type 0) (P : X → Type 0) (Q : Y → Type 0) (input left : List ℕ) (e : RunEnd) → ReadsInput i NeverLacks P input left (Err e) → ReadsInput i L Q input left (Err e)
end_goes_on i L P Q input left (run.Refused f) h = h
end_goes_on i L P Q input left run.ReadFault h = h
end_goes_on i L P Q input left run.Usage h = h
end_goes_on i L P Q input left run.WriteFault h = h
end_goes_on i L P Q input left run.NoMemory h = tt
end_goes_on i L P Q input left run.FrontFault h = h
end_goes_on i L P Q input left (run.NoForm v l) h = absurd h.0

-- what was read is so as a content
pub answers_mapped : {X : Type 0} (f g : Format) (view : X → KeptContent) (look : X → Content) (told : Type 0) (input rest : List ℕ) (at place : ℕ) (r : Result X ReadEnd) → f ≡ g → ((x : X) → content_of (view x) ≡ look x) → AnswersOne look g told input rest at place r → AnswersOne content_of f told input rest at place (mapped view r)
answers_mapped f g view look told input rest at place (Ok x) e same h = subst (λ k. IsReadOne k told (content_of (view x)) input rest at place) (sym e) (subst (λ c. IsReadOne g told c input rest at place) (sym (same x)) h)
answers_mapped f g view look told input rest at place (Err (Refused r)) e same h = subst (λ k. told → IsRefused (IsContent k) at most input r.reason r.at) (sym e) h
answers_mapped f g view look told input rest at place (Err ReadFault) e same h = subst (λ k. told → IsInterrupted (IsContent k) input rest at most) (sym e) h
answers_mapped f g view look told input rest at place (Err Memory) e same h = tt

pub goes_mapped : {S X : Type 0} (view : X → KeptContent) (tells : S → Type 0) (left : S → List ℕ) (faults : S → ℕ) (old new : Cursor S Window) (r : Result X ReadEnd) → GoesBy tells left faults old new r → GoesBy tells left faults old new (mapped view r)
goes_mapped view tells left faults old new (Ok x) g = record { told = g.told; same_source = g.same_source; same_bound = g.same_bound; one_past = g.one_past; cause = g.cause; none_ahead = g.none_ahead; total = g.total }
goes_mapped view tells left faults old new (Err e) g = record { told = g.told; same_source = g.same_source; same_bound = g.same_bound; one_past = g.one_past; cause = g.cause; none_ahead = g.none_ahead; total = g.total }

-- a packet, up to the most
pub packet_answers : (told : Type 0) (input rest : List ℕ) (at place limit : ℕ) (r : Result KeptPacket ReadEnd) → limit ≡ most → AnswersOf (λ p fs. SpellsPacket free (packet_of p) fs) IsPacketReading (stretch told input rest at place limit) r → AnswersOne (λ p. packet (packet_of p)) Packet told input rest at place r
packet_answers told input rest at place limit (Ok x) m h = subst (λ n. IsTaken (SpellsPacket free (packet_of x)) IsPacketReading (stretch told input rest at place n)) m h
packet_answers told input rest at place limit (Err (Refused f)) m h = subst (λ n. told → IsRefused IsPacketReading at n input f.reason f.at) m h
packet_answers told input rest at place limit (Err ReadFault) m h = subst (λ n. told → IsInterrupted IsPacketReading input rest at n) m h
packet_answers told input rest at place limit (Err Memory) m h = tt
