-- The reader of messages goes from chunk to chunk.
use Rattle.std.proofs.Common.{◌≡◌, ℕ, suc, ◌<◌, List, [], ◌∷◌, ◌++◌, length, take, ◌-◌, refl, sym, ap, ◌∙◌, arith, subst, Result, Ok, Err, Option, Bool, true, false, IsTrue}
use Rattle.std.specs.Result.{IsErrAnd}
use Rattle.amf_io.specs.declared.window.Window.{Window}
use Rattle.amf_io.specs.declared.cursor.Cursor.{Cursor}
use Rattle.amf_io.specs.declared.ends.ReadEnd.{ReadEnd}
use Rattle.amf_io.specs.declared.ends.ReadEnd.TheVariants.{ReadFault}
use Rattle.amf_io.specs.Cursor.{source_of, place, bound, unread}
use Rattle.amf_io.specs.Field.{flat, AreBytes}
use Rattle.amf_io.specs.LayoutAnswer.{DoneBy, EndsBy}
use Rattle.amf_io.specs.ReadEnds.{GoesBy, IsPlaced}
use Rattle.amf_io.specs.CursorReads.{Ends}
use Rattle.amf_io.specs.Stretch.{between}
use Rattle.rtmp_chunks.specs.Chunk.{Message}
use Rattle.rtmp_chunks.specs.declared.parts.Slot.{Slot as HeldSlot}
use Rattle.rtmp_chunks.specs.Machine.{State, start, chunk_layout}
use Rattle.rtmp_chunks.specs.Table.{state_seen}
use Rattle.rtmp_chunks.specs.Reader.{LeadsOn, Gives, EndsIn, AnswersNext}
use Rattle.rtmp_chunks.proofs.ChunkReads.{same_state}
use Rattle.rtmp_chunks.proofs.Tables.{past}
use Rattle.rtmp_chunks.proofs.Nexts.{leads_further, gives_one, ends_inside}

-- the first state is held
pub no_chunks : (size : ℕ) (slots : List HeldSlot) → size ≡ 128 → slots ≡ [] → state_seen size slots [] ≡ start
no_chunks size slots p q = same_state (state_seen size slots []) start p (λ j. past slots j (omega (arith, ap length q))) refl

-- no chunk yet
pub leads_none : {S : Type 0} (tells : S → Type 0) (left : S → List ℕ) (c : Cursor S Window) (s : State) → IsPlaced c → (n : ℕ) × LeadsOn n s s (between tells left c c)
leads_none tells left c s p = (0, record { done = record { fields = []; runs = refl; bytes = tt; taken = omega arith; within = p.within; parts = λ t. refl }; none = refl })

module _ {S M : Type 0} (tells : S → Type 0) (left : S → List ℕ) (faults : S → ℕ) (view : M → Message) (s t : State) (c d : Cursor S Window) (n : ℕ) (l : LeadsOn n s t (between tells left c d)) {X : Type 0} (x : X) (goes : GoesBy tells left faults c d (Ok x)) where
  -- a look changes no place
  pub looked : (e : Cursor S Window) → place e ≡ place d → bound e ≡ bound d → (tells (source_of d).now → unread left e ≡ unread left d) → LeadsOn n s t (between tells left c e)
  looked e p b same = record {
    done = record {
      fields = l.done.fields;
      runs = l.done.runs;
      bytes = l.done.bytes;
      taken = p ∙ l.done.taken;
      within = (let w = l.done.within in omega (arith, p, w));
      parts = λ h. l.done.parts h ∙ ap (λ r. flat l.done.fields ++ r) (sym (same (goes.told h)));
    };
    none = l.none;
  }

  at_bound : (e : Cursor S Window) (y : ReadEnd) → Ends tells left (chunk_layout t) d e y → EndsBy (tells (source_of d).now) (chunk_layout t) (unread left d) (unread left e) (place d) (bound c) y
  at_bound e y a = subst (λ k. EndsBy (tells (source_of d).now) (chunk_layout t) (unread left d) (unread left e) (place d) k y) goes.same_bound a

  -- it ends inside a chunk, of which a byte was left
  pub chunk_failed : (e : Cursor S Window) (u : State) (r : Result (Option M) ReadEnd) (y : ReadEnd) → IsErrAnd r (λ z. z ≡ y) → (tells (source_of c).now → 0 < length (unread left d)) → Ends tells left (chunk_layout t) d e y → AnswersNext view s u (between tells left c e) r
  chunk_failed e u (Ok z) y h some a = absurd h
  chunk_failed e u (Err z) y h some a = subst (λ w. (n : ℕ) × EndsIn n s (between tells left c e) w) (sym h)
      (n, ends_inside (tells (source_of c).now) (tells (source_of d).now) goes.told n s t (unread left c) (unread left d) (place c) (place d) (bound c) l (unread left e) (place e) y (λ i told. some told) (at_bound e y a))

  -- a read failed before a chunk
  pub look_failed : (e : Cursor S Window) (u : State) (r : Result (Option M) ReadEnd) (y : ReadEnd) → IsErrAnd r (λ z. z ≡ y) → y ≡ ReadFault → (tells (source_of d).now → unread left e ≡ unread left d) → AnswersNext view s u (between tells left c e) r
  look_failed e u (Ok z) y h f same = absurd h
  look_failed e u (Err z) y h f same = subst (λ w. (n : ℕ) × EndsIn n s (between tells left c e) w) (sym f ∙ sym h) (
    n,
    ends_inside (tells (source_of c).now) (tells (source_of d).now) goes.told n s t (unread left c) (unread left d) (place c) (place d) (bound c) l (unread left e) (place e) ReadFault (λ i told. absurd i)
        (λ told. record { given = []; stop = place d; parts = sym (same told); within = (let w = l.done.within in omega (arith, w)); outcome = refl; bytes = nothing (place d) }),
  )
    where
      nothing : (k : ℕ) → AreBytes (take (k - k) [])
      nothing k = subst (λ j. AreBytes (take j [])) (let z : 0 ≡ k - k = omega arith in z) tt

  over_bound : (e : Cursor S Window) (u : State) → DoneBy (tells (source_of d).now) (chunk_layout t) u (unread left d) (unread left e) (place d) (place e) (bound d) → DoneBy (tells (source_of d).now) (chunk_layout t) u (unread left d) (unread left e) (place d) (place e) (bound c)
  over_bound e u a = subst (λ k. DoneBy (tells (source_of d).now) (chunk_layout t) u (unread left d) (unread left e) (place d) (place e) k) goes.same_bound a

  pub message_came : (e : Cursor S Window) (u : State) (m : Message) → DoneBy (tells (source_of d).now) (chunk_layout t) u (unread left d) (unread left e) (place d) (place e) (bound d) → u.messages ≡ t.messages ++ m ∷ [] → (n : ℕ) × Gives n s u m (between tells left c e)
  message_came e u m a one = (n, gives_one (tells (source_of c).now) (tells (source_of d).now) goes.told n s t (unread left c) (unread left d) (place c) (place d) (bound c) l u m (unread left e) (place e) (over_bound e u a) one)

  pub chunk_passed : (e : Cursor S Window) (u : State) → DoneBy (tells (source_of d).now) (chunk_layout t) u (unread left d) (unread left e) (place d) (place e) (bound d) → u.messages ≡ t.messages → (n : ℕ) × LeadsOn n s u (between tells left c e)
  chunk_passed e u a same = (suc n, leads_further (tells (source_of c).now) (tells (source_of d).now) goes.told n s t (unread left c) (unread left d) (place c) (place d) (bound c) l u (unread left e) (place e) (over_bound e u a) same)

-- a byte is left where the input is not over
pub some_left : (over : Bool) (l : List ℕ) → over ≡ false → (l ≡ [] → IsTrue over) → 0 < length l
some_left over [] e h = let clash : true ≡ false = sym (h refl) ∙ e in absurd cc
some_left over (b ∷ l) e h = omega arith
