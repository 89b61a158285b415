-- Messages that are taken one after another, and what is put for them.
use Rattle.std.proofs.Common.{◌≡◌, ℕ, ◌-◌, ◌≤◌, ◌<◌, List, [], ◌∷◌, ◌++◌, length, take, Option, Some, None, Result, Ok, Err, refl, sym, ap, ◌∙◌, arith, subst, append_assoc}
use Rattle.std.specs.Result.{IsErrAnd}
use Rattle.std.proofs.lemmas.List.{append-nil}
use Rattle.amf_io.specs.declared.window.Window.{Window}
use Rattle.amf_io.specs.declared.cursor.Cursor.{Cursor}
use Rattle.amf_io.specs.declared.ends.ReadEnd.{ReadEnd}
use Rattle.amf_io.specs.declared.ends.ReadEnd.TheVariants as reader
use Rattle.amf_io.specs.Cursor.{source_of, place, bound, unread}
use Rattle.amf_io.specs.Field.{AreBytes, Field, flat}
use Rattle.amf_io.specs.Layout.{Layout, give, want, Runs}
use Rattle.amf_io.specs.LayoutAnswer.{DoneBy, EndsBy}
use Rattle.amf_io.specs.ReadEnds.{GoesBy}
use Rattle.amf_io.specs.Stretch.{Stretch, stretch, between}
use Rattle.amf_io.proofs.Ables.{path_some}
use Rattle.amf_io.proofs.CursorReads.{goes_end, goes_spent}
use Rattle.rtmp_chunks.specs.Chunk.{Message, basic_kind, format_of, id_of}
use Rattle.rtmp_chunks.specs.Machine.{State, chunk_layout, refused_in, behind_basic}
use Rattle.rtmp_chunks.specs.Reader.{LeadsOn, Gives, EndsIn, AnswersNext}
use Rattle.rtmp_chunks.specs.Calls.{settled, Calls}
use Rattle.amf_io.specs.Written.{WritesFront}
use Rattle.rtmp_rechunk.specs.Written.{Put}
use Rattle.rtmp_rechunk.specs.declared.pass_end.PassEnd.{PassEnd}
use Rattle.rtmp_rechunk.specs.declared.pass_end.PassEnd.TheVariants.{Refused, ReadFault, WriteFault, Memory}
use Rattle.rtmp_rechunk.specs.Pass.{AreSaid, CountsWrites}
use Rattle.rtmp_rechunk.specs.Ends.{end_of, reading}
use Rattle.rtmp_rechunk.specs.Reads.{Puts, PutsSome, Hands, Taken, Takes, SoFar}

-- What is put behind what was put.

pub handed_all : (before held now old mid waits all b : List ℕ) → mid ≡ old ++ b → Put held now mid waits → Put before held all old → Put before now (all ++ b) waits
handed_all before held now old mid waits all b e q p = record {
  front = p.front ++ q.front;
  parts = ap (λ l. l ++ b) p.parts ∙ append_assoc p.front old b ∙ ap (λ l. p.front ++ l) (sym e ∙ q.parts) ∙ sym (append_assoc p.front q.front waits);
  added = q.added ∙ ap (λ l. l ++ q.front) p.added ∙ append_assoc before p.front q.front;
}

pub handed_some : (before held now old mid all b : List ℕ) → mid ≡ old ++ b → WritesFront held now mid → Put before held all old → (rest : List ℕ) × Put before now (all ++ b) rest
handed_some before held now old mid all b e w p = (w.rest, handed_all before held now old mid w.rest all b e (record { front = w.front; parts = w.parts; added = w.added }) p)

puts_then : (told more : Type 0) (go : more → told) (held mid now old waiting waits a b : List ℕ) → Puts told held mid old waiting a → Puts more mid now waiting waits b → Puts more held now old waits (a ++ b)
puts_then told more go held mid now old waiting waits a b f k = λ t before all p. subst (λ z. Put before now z waits) (append_assoc all a b) (k t before (all ++ a) (f (go t) before all p))

puts_some : (told more : Type 0) (go : more → told) (held mid now old waiting a b : List ℕ) → Puts told held mid old waiting a → PutsSome more mid now waiting b → PutsSome more held now old (a ++ b)
puts_some told more go held mid now old waiting a b f k = λ t before all p.
    let q = k t before (all ++ a) (f (go t) before all p) in
    (q.0, subst (λ z. Put before now z q.0) (append_assoc all a b) q.1)

pub puts_none : (told : Type 0) (held waits : List ℕ) → Puts told held held waits waits []
puts_none told held waits = λ t before all p. subst (λ z. Put before held z waits) (sym (append-nil all)) p

-- A source that tells.

done_told : {Y : Type 0} (told : Type 0) (x : told) (t : Layout Y) (y : Y) (input rest : List ℕ) (at place limit : ℕ) → DoneBy told t y input rest at place limit → DoneBy (Unit {0}) t y input rest at place limit
done_told told x t y input rest at place limit d = record { fields = d.fields; runs = d.runs; bytes = d.bytes; taken = d.taken; within = d.within; parts = λ u. d.parts x }

ends_told : {Y : Type 0} (told : Type 0) (x : told) (t : Layout Y) (input rest : List ℕ) (at limit : ℕ) (e : ReadEnd) → EndsBy told t input rest at limit e → EndsBy (Unit {0}) t input rest at limit e
ends_told told x t input rest at limit (reader.Refused f) h = λ u. h x
ends_told told x t input rest at limit reader.ReadFault h = λ u. h x
ends_told told x t input rest at limit reader.Memory h = tt

module _ (told : Type 0) (x : told) (n : ℕ) (s : State) (input : List ℕ) (at limit : ℕ) where
  leads_told : (t : State) (rest : List ℕ) (place : ℕ) → LeadsOn n s t (stretch told input rest at place limit) → LeadsOn n s t (stretch (Unit {0}) input rest at place limit)
  leads_told t rest place l = record { done = done_told told x _ t input rest at place limit l.done; none = l.none }

  gives_told : (t : State) (m : Message) (rest : List ℕ) (place : ℕ) → Gives n s t m (stretch told input rest at place limit) → Gives n s t m (stretch (Unit {0}) input rest at place limit)
  gives_told t m rest place g = record {
    before = g.before;
    mid = g.mid;
    between = g.between;
    leads = leads_told g.before g.mid g.between g.leads;
    done = done_told told x (chunk_layout g.before) t g.mid rest g.between place limit g.done;
    one = g.one;
  }

  stops_told : (rest : List ℕ) (place : ℕ) (e : ReadEnd) → EndsIn n s (stretch told input rest at place limit) e → EndsIn n s (stretch (Unit {0}) input rest at place limit) e
  stops_told rest place e h = record {
    before = h.before;
    mid = h.mid;
    between = h.between;
    leads = leads_told h.before h.mid h.between h.leads;
    ends = ends_told told x (chunk_layout h.before) h.mid rest h.between limit e h.ends;
    some = λ i u. h.some i x;
  }

module _ {S M : Type 0} (tells : S → Type 0) (left : S → List ℕ) (faults : S → ℕ) (view : M → Message) (s t : State) (c d e : Cursor S Window) (goes : GoesBy {X = Unit {0}} tells left faults c d (Ok tt)) (x : tells (source_of c).now) where
  pub next_some : (m : M) → AnswersNext view s t (between tells left d e) (Ok (Some m)) → AnswersNext (λ (m : Message). m) s t (stretch (Unit {0}) (unread left d) (unread left e) (place d) (place e) (bound c)) (Ok (Some (view m)))
  next_some m (n, g) = subst (λ k. AnswersNext (λ (m : Message). m) s t (stretch (Unit {0}) (unread left d) (unread left e) (place d) (place e) k) (Ok (Some (view m)))) goes.same_bound
      (n, gives_told (tells (source_of d).now) (goes.told x) n s (unread left d) (place d) (bound d) t (view m) (unread left e) (place e) g)

  pub next_none : AnswersNext view s t (between tells left d e) (Ok None) → AnswersNext (λ (m : Message). m) s t (stretch (Unit {0}) (unread left d) (unread left e) (place d) (place e) (bound c)) (Ok None)
  next_none (n, l, over) = subst (λ k. AnswersNext (λ (m : Message). m) s t (stretch (Unit {0}) (unread left d) (unread left e) (place d) (place e) k) (Ok None)) goes.same_bound
      (n, leads_told (tells (source_of d).now) (goes.told x) n s (unread left d) (place d) (bound d) t (unread left e) (place e) l, λ u. over (goes.told x))

  pub next_ends : (y : ReadEnd) → AnswersNext view s t (between tells left d e) (Err y) → AnswersNext (λ (m : Message). m) s t (stretch (Unit {0}) (unread left d) (unread left e) (place d) (place e) (bound c)) (Err y)
  next_ends y (n, h) = subst (λ k. AnswersNext (λ (m : Message). m) s t (stretch (Unit {0}) (unread left d) (unread left e) (place d) (place e) k) (Err y)) goes.same_bound
      (n, stops_told (tells (source_of d).now) (goes.told x) n s (unread left d) (place d) (bound d) (unread left e) (place e) y h)

-- A message takes a byte, and ends within the limit.

chunk_some : (s t : State) (fs : List Field) → Runs (chunk_layout s) fs t → 1 ≤ length (flat fs)
chunk_some s t [] r = let clash : want (basic_kind (λ format id. refused_in (s.slots id) format)) (λ b. behind_basic (format_of b) (id_of b) (s.slots (id_of b)) s) ≡ give t = r in absurd cc
chunk_some s t (f ∷ fs) r = path_some (chunk_layout s) (give t) f fs r

pub message_moves : {M : Type 0} (view : M → Message) (s t : State) (x : Stretch) (m : M) → AnswersNext view s t x (Ok (Some m)) → x.at < x.place
message_moves view s t x m (n, g) =
    let p = g.leads.done.taken in
    let q = g.done.taken in
    let r = chunk_some g.before t g.done.fields g.done.runs in
    omega (arith, p, q, r)

pub message_within : {M : Type 0} (view : M → Message) (s t : State) (x : Stretch) (m : M) → AnswersNext view s t x (Ok (Some m)) → x.place ≤ x.limit
message_within view s t x m (n, g) = g.done.within

-- One message more.

said_more : (Says : Message → List ℕ → Type 0) (ms : List Message) (out : List ℕ) (m : Message) (b : List ℕ) → AreSaid Says ms out → Says m b → AreSaid Says (ms ++ m ∷ []) (out ++ b)
said_more Says [] out m b e h = (b, [], h, refl, ap (λ l. l ++ b) e ∙ sym (append-nil b))
said_more Says (n ∷ ms) out m b (first, more, k, rest, e) h = (first, more ++ b, k, said_more Says ms more m b rest h, ap (λ l. l ++ b) e ∙ append_assoc first more b)

pub none_so_far : (Says : Message → List ℕ → Type 0) (s : State) (input : List ℕ) (at limit : ℕ) (All : List ℕ → Type 0) → All [] → SoFar Says s s input input at at limit All
none_so_far Says s input at limit All p = record { messages = []; later = []; said = refl; put = p; next = λ r more t rest place c. c }

module _ (Says : Message → List ℕ → Type 0) (s u : State) (input mid : List ℕ) (at between limit : ℕ) (All : List ℕ → Type 0) (f : SoFar Says s u input mid at between limit All) where
  pub one_so_far : (v : State) (rest : List ℕ) (place : ℕ) (m : Message) (b : List ℕ) (More : List ℕ → Type 0) → Says m b → AnswersNext (λ (m : Message). m) u v (stretch (Unit {0}) mid rest between place limit) (Ok (Some m)) → ((l : List ℕ) → All l → More (l ++ b))
      → SoFar Says s (settled v) input rest at place limit More
  one_so_far v rest place m b More h a move = record {
    messages = f.messages ++ m ∷ [];
    later = f.later ++ b;
    said = said_more Says f.messages f.later m b f.said h;
    put = move f.later f.put;
    next = λ r more t last end c. subst (λ l. Calls r l s t (stretch (Unit {0}) input last at end limit)) (sym (append_assoc f.messages (m ∷ []) more)) (f.next r (m ∷ more) t last end (v, rest, place, a, c));
  }

  pub taken : (r : Result (Option Message) ReadEnd) (t : State) (rest : List ℕ) (place : ℕ) → AnswersNext (λ (m : Message). m) u t (stretch (Unit {0}) mid rest between place limit) r → Taken Says r s t (stretch (Unit {0}) input rest at place limit) All
  taken r t rest place a = record {
    messages = f.messages;
    later = f.later;
    said = f.said;
    calls = subst (λ l. Calls r l s t (stretch (Unit {0}) input rest at place limit)) (append-nil f.messages) (f.next r [] t rest place a);
    put = f.put;
  }

-- The reader might fail at any place between messages.
fault_here : (s : State) (input : List ℕ) (at limit : ℕ) → at ≤ limit → AnswersNext (λ (m : Message). m) s s (stretch (Unit {0}) input input at at limit) (Err reader.ReadFault)
fault_here s input at limit le = (
  0,
  record {
    before = s;
    mid = input;
    between = at;
    leads = record { done = record { fields = []; runs = refl; bytes = tt; taken = omega arith; within = le; parts = λ u. refl }; none = refl };
    ends = λ u. record { given = []; stop = at; parts = refl; within = omega (arith, le); outcome = refl; bytes = nothing at };
    some = λ i. absurd i;
  },
)
  where
    nothing : (k : ℕ) → AreBytes (take (k - k) [])
    nothing k = subst (λ j. AreBytes (take j [])) (let z : 0 ≡ k - k = omega arith in z) tt

-- The ends.

pub took_end : (Says : Message → List ℕ → Type 0) (s t : State) (x : Stretch) (All Part : List ℕ → Type 0) (e : ReadEnd) (r : Result (Unit {0}) PassEnd) → IsErrAnd r (λ z. z ≡ end_of e) → Taken Says (Err e) s t x All → Takes {T = Unit {0}} Says s t x All Part (Err Memory) → Takes Says s t x All Part r
took_end Says s t x All Part e (Ok u) h k m = absurd h
took_end Says s t x All Part (reader.Refused f) (Err z) h k m = subst (λ w. Takes {T = Unit {0}} Says s t x All Part (Err w)) (sym h) k
took_end Says s t x All Part reader.ReadFault (Err z) h k m = subst (λ w. Takes {T = Unit {0}} Says s t x All Part (Err w)) (sym h) k
took_end Says s t x All Part reader.Memory (Err z) h k m = subst (λ w. Takes {T = Unit {0}} Says s t x All Part (Err w)) (sym h) m

pub counts_spent : (before now : ℕ) (r : Result (Unit {0}) PassEnd) → IsErrAnd r (λ e. e ≡ Memory) → now ≡ before → CountsWrites before now r
counts_spent before now (Ok u) h p = absurd h
counts_spent before now (Err e) h p = subst (λ w. CountsWrites {T = Unit {0}} before now (Err w)) (sym h) p

pub counts_memory : (n : ℕ) (r : Result (Unit {0}) PassEnd) → IsErrAnd r (λ e. e ≡ Memory) → CountsWrites n n r
counts_memory n (Ok u) h = absurd h
counts_memory n (Err e) h = subst (λ w. CountsWrites {T = Unit {0}} n n (Err w)) (sym h) refl

pub counts_end : (before now : ℕ) (e : ReadEnd) (r : Result (Unit {0}) PassEnd) → IsErrAnd r (λ z. z ≡ end_of e) → now ≡ before → CountsWrites before now r
counts_end before now e (Ok u) h k = absurd h
counts_end before now (reader.Refused f) (Err z) h k = subst (λ w. CountsWrites {T = Unit {0}} before now (Err w)) (sym h) k
counts_end before now reader.ReadFault (Err z) h k = subst (λ w. CountsWrites {T = Unit {0}} before now (Err w)) (sym h) k
counts_end before now reader.Memory (Err z) h k = subst (λ w. CountsWrites {T = Unit {0}} before now (Err w)) (sym h) k

-- Behind an end nothing is said of the reader.
any_state : (e : Result (Option Message) ReadEnd) (ms : List Message) (s t u : State) (x : Stretch) → IsErrAnd e (λ y. Unit {0}) → Calls e ms s t x → Calls e ms s u x
any_state (Ok o) ms s t u x h c = absurd h
any_state (Err y) [] s t u x h c = c
any_state (Err y) (m ∷ ms) s t u x h (v, mid, between, a, c) = (v, mid, between, a, any_state (Err y) ms (settled v) t u (stretch x.told mid x.rest between x.place x.limit) h c)

-- A write that failed behind a message.
module _ (Says : Message → List ℕ → Type 0) (s u v t : State) (input mid rest : List ℕ) (at between place limit : ℕ) (m : Message) (a : AnswersNext (λ (m : Message). m) u v (stretch (Unit {0}) mid rest between place limit) (Ok (Some m))) (told more : Type 0) (go : more → told) (held now next old waiting : List ℕ) (f : SoFar Says s u input mid at between limit (Puts told held now old waiting)) (b : List ℕ) (h : Says m b) where
  pub behind_message : (waits : List ℕ) → Puts more now next waiting waits b → SoFar Says s (settled v) input rest at place limit (Puts more held next old waits)
  behind_message waits k = one_so_far Says s u input mid at between limit (Puts told held now old waiting) f v rest place m b (Puts more held next old waits) h a (λ l p. puts_then told more go held now next old waiting waits l b p k)

  pub write_failed : (All : List ℕ → Type 0) (last : List ℕ) (end : ℕ) → PutsSome more now next waiting b → Takes {T = Unit {0}} Says s t (stretch (Unit {0}) input last at end limit) All (PutsSome more held next old) (Err WriteFault)
  write_failed All last end k =
      let w = one_so_far Says s u input mid at between limit (Puts told held now old waiting) f v rest place m b (PutsSome more held next old) h a (λ l p. puts_some told more go held now next old waiting l b p k) in
      let z = taken Says s (settled v) input rest at place limit (PutsSome more held next old) w (Err reader.ReadFault) (settled v) rest place (fault_here (settled v) rest place limit (message_within (λ (m : Message). m) u v (stretch (Unit {0}) mid rest between place limit) m a)) in
      (rest, place, record { messages = z.messages; later = z.later; said = z.said; calls = any_state (Err reader.ReadFault) z.messages s (settled v) t (stretch (Unit {0}) input rest at place limit) tt z.calls; put = z.put })

-- Memory ran out behind the messages that were taken.

pub placed_within : (place bound limit : ℕ) → place ≤ bound → bound ≡ limit → place ≤ limit
placed_within place bound limit le e = omega arith

pub some_none : (told : Type 0) (held waits : List ℕ) → PutsSome told held held waits []
some_none told held waits = λ t before all p. (waits, puts_none told held waits t before all p)

module _ (Says : Message → List ℕ → Type 0) (s u t : State) (input mid : List ℕ) (at between limit : ℕ) (told more : Type 0) (go : more → told) (held now next old waiting : List ℕ) (f : SoFar Says s u input mid at between limit (Puts told held now old waiting)) where
  pub spent_behind : (All : List ℕ → Type 0) (last : List ℕ) (end : ℕ) → between ≤ limit → PutsSome more now next waiting [] → Takes {T = Unit {0}} Says s t (stretch (Unit {0}) input last at end limit) All (PutsSome more held next old) (Err Memory)
  spent_behind All last end le k =
      let z = taken Says s u input mid at between limit (Puts told held now old waiting) f (Err reader.ReadFault) u mid between (fault_here u mid between limit le) in (
        mid,
        between,
        record {
          messages = z.messages;
          later = z.later;
          said = z.said;
          calls = any_state (Err reader.ReadFault) z.messages s u t (stretch (Unit {0}) input mid at between limit) tt z.calls;
          put = subst (λ l. PutsSome more held next old l) (append-nil z.later) (puts_some told more go held now next old waiting z.later [] z.put k);
        },
      )

-- How an end is passed on.

reading_end : (e : ReadEnd) → reading {T = Unit {0}} (Err (end_of e)) ≡ Err e
reading_end (reader.Refused f) = refl
reading_end reader.ReadFault = refl
reading_end reader.Memory = refl

module _ {S : Type 0} (tells : S → Type 0) (left : S → List ℕ) (faults : S → ℕ) (c d : Cursor S Window) where
  pub ended_goes : {X : Type 0} (e : ReadEnd) (r : Result (Unit {0}) PassEnd) → IsErrAnd r (λ z. z ≡ end_of e) → GoesBy {X = X} tells left faults c d (Err e) → GoesBy {X = Unit {0}} tells left faults c d (reading r)
  ended_goes e (Ok u) h k = absurd h
  ended_goes e (Err z) h k = subst (λ w. GoesBy {X = Unit {0}} tells left faults c d (reading {T = Unit {0}} (Err w))) (sym h)
      (subst (λ w. GoesBy {X = Unit {0}} tells left faults c d w) (sym (reading_end e)) (goes_end tells left faults c d e k))

  pub passed_goes : (e : PassEnd) (r : Result (Unit {0}) PassEnd) → IsErrAnd r (λ z. z ≡ e) → GoesBy {X = Unit {0}} tells left faults c d (reading {T = Unit {0}} (Err e)) → GoesBy {X = Unit {0}} tells left faults c d (reading r)
  passed_goes e (Ok u) h g = absurd h
  passed_goes e (Err z) h g = subst (λ w. GoesBy {X = Unit {0}} tells left faults c d (reading {T = Unit {0}} (Err w))) (sym h) g

  pub spent_goes : (r : Result (Unit {0}) PassEnd) → IsErrAnd r (λ z. z ≡ Memory) → GoesBy {X = Unit {0}} tells left faults c d (Ok tt) → GoesBy {X = Unit {0}} tells left faults c d (reading r)
  spent_goes (Ok u) h g = absurd h
  spent_goes (Err z) h g = subst (λ w. GoesBy {X = Unit {0}} tells left faults c d (reading {T = Unit {0}} (Err w))) (sym h) (goes_spent tells left faults c d tt g)

  pub handed_goes : (Says All Part : List ℕ → Type 0) (e : PassEnd) (r : Result (Unit {0}) PassEnd) → IsErrAnd r (λ z. z ≡ e) → Hands {T = Unit {0}} Says All Part (Err e) → GoesBy {X = Unit {0}} tells left faults c d (Ok tt) → GoesBy {X = Unit {0}} tells left faults c d (reading r)
  handed_goes Says All Part e (Ok u) h k g = absurd h
  handed_goes Says All Part (Refused f) (Err z) h k g = absurd k
  handed_goes Says All Part ReadFault (Err z) h k g = absurd k
  handed_goes Says All Part WriteFault (Err z) h k g = subst (λ w. GoesBy {X = Unit {0}} tells left faults c d (reading {T = Unit {0}} (Err w))) (sym h) g
  handed_goes Says All Part Memory (Err z) h k g = subst (λ w. GoesBy {X = Unit {0}} tells left faults c d (reading {T = Unit {0}} (Err w))) (sym h) (goes_spent tells left faults c d tt g)

pub handed_takes : (Says All Part : List ℕ → Type 0) (Each : Message → List ℕ → Type 0) (s t : State) (x : Stretch) (Whole Front : List ℕ → Type 0) (e : PassEnd) (r : Result (Unit {0}) PassEnd) → IsErrAnd r (λ z. z ≡ e) → Hands {T = Unit {0}} Says All Part (Err e)
    → ((b : List ℕ) → Says b → Part b → Takes {T = Unit {0}} Each s t x Whole Front (Err WriteFault)) → (Part [] → Takes {T = Unit {0}} Each s t x Whole Front (Err Memory)) → Takes Each s t x Whole Front r
handed_takes Says All Part Each s t x Whole Front e (Ok u) h k w n = absurd h
handed_takes Says All Part Each s t x Whole Front (Refused f) (Err z) h k w n = absurd k
handed_takes Says All Part Each s t x Whole Front ReadFault (Err z) h k w n = absurd k
handed_takes Says All Part Each s t x Whole Front WriteFault (Err z) h k w n = subst (λ y. Takes {T = Unit {0}} Each s t x Whole Front (Err y)) (sym h) (w k.0 k.1 k.2)
handed_takes Says All Part Each s t x Whole Front Memory (Err z) h k w n = subst (λ y. Takes {T = Unit {0}} Each s t x Whole Front (Err y)) (sym h) (n k)

pub handed_none : (Says All Part : List ℕ → Type 0) (r : Result (Unit {0}) PassEnd) → IsErrAnd r (λ z. z ≡ Memory) → Part [] → Hands Says All Part r
handed_none Says All Part (Ok u) h p = absurd h
handed_none Says All Part (Err z) h p = subst (λ w. Hands {T = Unit {0}} Says All Part (Err w)) (sym h) p

pub counts_then : (before mid now : ℕ) (e : PassEnd) (r : Result (Unit {0}) PassEnd) → IsErrAnd r (λ z. z ≡ e) → mid ≡ before → CountsWrites {T = Unit {0}} mid now (Err e) → CountsWrites before now r
counts_then before mid now e (Ok u) h p k = absurd h
counts_then before mid now e (Err z) h p k = subst (λ w. CountsWrites {T = Unit {0}} before now (Err w)) (sym h) (subst (λ n. CountsWrites {T = Unit {0}} n now (Err e)) p k)
