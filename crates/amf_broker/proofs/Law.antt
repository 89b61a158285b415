-- The law of delivery, by induction over the history.
use Rattle.std.proofs.Common.{◌≡◌, ℕ, ◌+◌, ◌≤◌, true, false, List, [], ◌∷◌, ◌++◌, length, refl, sym, ◌∙◌, ap, subst, arith, append_assoc, ◌⊎◌, inl, inr}
use Rattle.std.specs.Prelude.{◌||◌, ◌==◌, ◌≢◌, filter_map, Option, Some, None, if◌then◌else◌}
use Rattle.std.specs.List.{cons_option}
use Rattle.std.proofs.lemmas.List.{append-nil}
use Rattle.amf_broker.specs.declared.topic.Topic.{Topic}
use Rattle.amf_broker.specs.declared.call.Call.{Call}
use Rattle.amf_broker.specs.declared.call.Call.TheVariants.{Connect, Subscribe, Unsubscribe, Publish, Poll, PollNumbered, Disconnect}
use Rattle.amf_broker.specs.declared.reply.Reply.{Reply}
use Rattle.amf_broker.specs.declared.reply.Answer.{Answer}
use Rattle.amf_broker.specs.declared.reply.Reply.TheVariants.{Subscribed}
use Rattle.amf_broker.specs.State.{State, Board, first}
use Rattle.amf_broker.specs.Machine.{answer_to, after, served, refusal, unless, sighted, named_by, found, later, expired_at, last_of, same_batch, next_batch}
use Rattle.amf_broker.specs.History.{Entry, state_after, IsAnsweredFrom, Leaves, then_entry}
use Rattle.amf_broker.specs.Delivery.{Message, is_in, handed_to, published_to, says_bye, ends, ended_by, left_by, has_left, while_live, due, got, rest, IsPrefix, Begins, DeliveryHolds}
use Rattle.amf_broker.proofs.Clients.{waiting, waiting-same, same-seen}
use Rattle.amf_broker.proofs.Leavers.{Left, done-leave, live-leave, idle-leave, next-leave, destinations-leave}
use Rattle.amf_broker.proofs.Refusals.{AllQuiet, quiet-refusal, connected-served}
use Rattle.amf_broker.proofs.Steps.{Idle, idle-served, next-served, Done, Stays, Departs, done-served, Live, LiveStep, live-served, named-begun}

-- Replies, refused or served.

done-unless : (n k : ℕ) (b : Board) (c : Call) (o : Option Reply) → AllQuiet o → Done n k b
    → let a = unless o b (served b c) in Stays n k c a.0 b a.1 ⊎ Departs n k c a.0 b a.1
done-unless n k b c None q d = done-served n k b c d
done-unless n k b c (Some r) q d = inl (record { left = q.leaves k c; done = d; moves = ap (λ m. m ++ waiting n k b.clients) (q.hands n) })

live-unless : (n k : ℕ) (t : Topic) (b : Board) (c : Call) (o : Option Reply) → AllQuiet o → Live n k t b
    → let a = unless o b (served b c) in LiveStep n k t c a.0 b a.1
live-unless n k t b c None q l = live-served n k t b c l
live-unless n k t b c (Some r) q l = inl (record {
  ended = q.ends n k c;
  left = q.leaves k c;
  live = l;
  moves = ap (λ m. m ++ waiting n k b.clients) (q.hands n) ∙ (sym (append-nil (waiting n k b.clients)) ∙ ap (λ o. waiting n k b.clients ++ cons_option o []) (sym (q.publishes t c)));
})

-- Answers: those that expire leave, the reply follows, and the client that was named is seen.

-- its messages move from what waits to what it got
record StaysOn (n k : ℕ) (c : Call) (a : Answer) (s t : Board) : Type 0 where
  left : left_by k c a ≡ false
  done : Done n k t
  moves : handed_to n a.reply ++ waiting n k t.clients ≡ waiting n k s.clients

-- its client leaves
record DepartsOn (n k : ℕ) (c : Call) (a : Answer) (t : Board) : Type 0 where
  left : left_by k c a ≡ true
  done : Done n k t
  hands : handed_to n a.reply ≡ []
  waits : waiting n k t.clients ≡ []

-- it stays live: what is published to its topic comes behind what waits
record GoesOn (n k : ℕ) (t : Topic) (c : Call) (a : Answer) (s s' : Board) : Type 0 where
  ended : ended_by n k c a ≡ false
  left : left_by k c a ≡ false
  live : Live n k t s'
  moves : handed_to n a.reply ++ waiting n k s'.clients ≡ waiting n k s.clients ++ cons_option (published_to t c a.reply) []

abbrev DoneOn : ℕ → ℕ → Call → Answer → Board → Board → Type 0
DoneOn n k c a s t = StaysOn n k c a s t ⊎ DepartsOn n k c a t

abbrev LiveOn : ℕ → ℕ → Topic → Call → Answer → Board → Board → Type 0
LiveOn n k t c a s s' = GoesOn n k t c a s s' ⊎ ((ended_by n k c a ≡ true) × DoneOn n k c a s s')

-- the client that was named is seen: nothing moves by that
waiting-sighted : (n k : ℕ) (o : Option ℕ) (b : Board) → waiting n k (sighted o b).clients ≡ waiting n k b.clients
waiting-sighted n k None b = refl
waiting-sighted n k (Some j) b = waiting-same n k _ _ (same-seen j b.moment b.clients)

idle-sighted : (n : ℕ) (P : ℕ → Type 0) (o : Option ℕ) (b : Board) → Idle n P b.clients b.subs → Idle n P (sighted o b).clients (sighted o b).subs
idle-sighted n P None b i = i
idle-sighted n P (Some j) b i = record { none = i.none; quiet = λ x p. waiting-same n x _ _ (same-seen j b.moment b.clients) ∙ i.quiet x p }

next-sighted : (o : Option ℕ) (b : Board) → (sighted o b).next_sub ≡ b.next_sub
next-sighted None b = refl
next-sighted (Some j) b = refl

done-sighted : (n k : ℕ) (o : Option ℕ) (b : Board) → Done n k b → Done n k (sighted o b)
done-sighted n k None b d = d
done-sighted n k (Some j) b d = record { old = d.old; idle = idle-sighted n (λ i. i ≢ k) (Some j) b d.idle }

live-sighted : (n k : ℕ) (t : Topic) (o : Option ℕ) (b : Board) → Live n k t b → Live n k t (sighted o b)
live-sighted n k t None b l = l
live-sighted n k t (Some j) b l =
    let same = same-seen j b.moment b.clients in
    record { old = l.old; one = l.one; connected = same.here k ∙ l.connected; quiet = λ i o. waiting-same n i _ _ same ∙ l.quiet i o }

append-empty : (xs ys : List Message) → xs ++ ys ≡ [] → (xs ≡ []) × (ys ≡ [])
append-empty [] ys e = (refl, e)
append-empty (x ∷ xs) ys e = cc

-- the client expired, so that the reply hands nothing to the subscription
expired-on : (n k : ℕ) (c : Call) (o : Option ℕ) (ks : List ℕ) (r : Reply) (b f t : Board) → Left n k ks b f → Stays n k c r f t ⊎ Departs n k c r f t → DepartsOn n k c (record { reply = r; expired = ks }) (sighted o t)
expired-on n k c o ks r b f t l step =
    let left : left_by k c (record { reply = r; expired = ks }) ≡ true = ap (λ x. x || says_bye k c r) l.among in
    elim step [
      | inl s ↦
          let none = append-empty (handed_to n r) (waiting n k t.clients) (s.moves ∙ l.waits) in
          record { left = left; done = done-sighted n k o t s.done; hands = none.0; waits = waiting-sighted n k o t ∙ none.1 }
      | inr p ↦ record { left = left; done = done-sighted n k o t p.done; hands = p.hands; waits = waiting-sighted n k o t ∙ p.waits }
    ]

done-on : (n k : ℕ) (c : Call) (o : Option ℕ) (ks : List ℕ) (r : Reply) (b f t : Board) → is_in k ks ≡ false → waiting n k f.clients ≡ waiting n k b.clients → Stays n k c r f t ⊎ Departs n k c r f t → DoneOn n k c (record { reply = r; expired = ks }) b (sighted o t)
done-on n k c o ks r b f t apart waits step = elim step [
  | inl s ↦ inl (record {
    left = ap (λ x. x || says_bye k c r) apart ∙ s.left;
    done = done-sighted n k o t s.done;
    moves = ap (λ m. handed_to n r ++ m) (waiting-sighted n k o t) ∙ (s.moves ∙ waits);
  })
  | inr p ↦ inr (record {
    left = ap (λ x. x || says_bye k c r) apart ∙ p.left;
    done = done-sighted n k o t p.done;
    hands = p.hands;
    waits = waiting-sighted n k o t ∙ p.waits;
  })
]

live-on : (n k : ℕ) (t : Topic) (c : Call) (o : Option ℕ) (ks : List ℕ) (r : Reply) (b f s : Board) → is_in k ks ≡ false → waiting n k f.clients ≡ waiting n k b.clients → LiveStep n k t c r f s → LiveOn n k t c (record { reply = r; expired = ks }) b (sighted o s)
live-on n k t c o ks r b f s apart waits step = elim step [
  | inl g ↦ inl (record {
    ended = ap (λ x. x || ends n k c r) apart ∙ g.ended;
    left = ap (λ x. x || says_bye k c r) apart ∙ g.left;
    live = live-sighted n k t o s g.live;
    moves = ap (λ m. handed_to n r ++ m) (waiting-sighted n k o s) ∙ (g.moves ∙ ap (λ m. m ++ cons_option (published_to t c r) []) waits);
  })
  | inr e ↦ inr (ap (λ x. x || ends n k c r) apart ∙ e.0, done-on n k c o ks r b f s apart waits e.1)
]

done-moment : (n k m : ℕ) (b : Board) → Done n k b → Done n k (record b { moment = m })
done-moment n k m b d = record { old = d.old; idle = record { none = d.idle.none; quiet = d.idle.quiet } }

live-moment : (n k : ℕ) (t : Topic) (m : ℕ) (b : Board) → Live n k t b → Live n k t (record b { moment = m })
live-moment n k t m b l = record { old = l.old; one = l.one; connected = l.connected; quiet = l.quiet }

done-step : (n k : ℕ) (s : State) (at : ℕ) (c : Call) → Done n k s.board → DoneOn n k c (answer_to s at c) s.board (after s at c).board
unfolding answer_to after
done-step n k s at c d =
    let ks = expired_at at s.board in
    let f = found at s.board in
    let o = refusal f c in
    let t = (unless o f (served f c)).1 in
    let r = (unless o f (served f c)).0 in
    elim (done-leave n k ks (record s.board { moment = later s.board.moment at }) (done-moment n k _ s.board d)) [
      | inl kept ↦ done-on n k c (named_by c) ks r s.board f t kept.apart kept.waits (done-unless n k f c o (quiet-refusal f c) kept.is)
      | inr gone ↦ inr (expired-on n k c (named_by c) ks r _ f t gone (done-unless n k f c o (quiet-refusal f c) gone.done))
    ]

live-step : (n k : ℕ) (t : Topic) (s : State) (at : ℕ) (c : Call) → Live n k t s.board → LiveOn n k t c (answer_to s at c) s.board (after s at c).board
unfolding answer_to after
live-step n k t s at c l =
    let ks = expired_at at s.board in
    let f = found at s.board in
    let o = refusal f c in
    let u = (unless o f (served f c)).1 in
    let r = (unless o f (served f c)).0 in
    elim (live-leave n k t ks (record s.board { moment = later s.board.moment at }) (live-moment n k t _ s.board l)) [
      | inl kept ↦ live-on n k t c (named_by c) ks r s.board f u kept.apart kept.waits (live-unless n k t f c o (quiet-refusal f c) kept.is)
      | inr gone ↦ inr (
        ap (λ x. x || ends n k c r) gone.among,
        inr (expired-on n k c (named_by c) ks r _ f u gone (done-unless n k f c o (quiet-refusal f c) gone.done)),
      )
    ]

-- Before a subscription begins, nothing of it is anywhere.

abbrev Anywhere : ℕ → Type 0
Anywhere j = Unit {0}

abbrev Unborn : ℕ → Board → Type 0
Unborn n b = Idle n Anywhere b.clients b.subs

hands-served : (n : ℕ) (b : Board) (c : Call) → Unborn n b → handed_to n (served b c).0 ≡ []
hands-served n b Connect i = refl
hands-served n b (Subscribe k t) i = refl
hands-served n b (Unsubscribe k sub) i = refl
hands-served n b (Publish k t message) i = refl
hands-served n b (Poll k) i = i.quiet k tt
hands-served n b (PollNumbered k number) i = elim (number == last_of k b.clients)
    as (λ again. handed_to n (if again then same_batch b k number else next_batch b k number).0 ≡ []) [
      | true ↦ refl
      | false ↦ i.quiet k tt
    ]
hands-served n b (Disconnect k) i = refl

next-answer : (b : Board) (c : Call) (o : Option Reply) → b.next_sub ≤ (unless o b (served b c)).1.next_sub
next-answer b c None = next-served b c
next-answer b c (Some r) = omega arith

pub next-step : (s : State) (at : ℕ) (c : Call) → s.board.next_sub ≤ (after s at c).board.next_sub
unfolding after
next-step s at c =
    let f = found at s.board in
    let left = next-leave (expired_at at s.board) (record s.board { moment = later s.board.moment at }) in
    let answered = next-answer f c (refusal f c) in
    let seen = next-sighted (named_by c) (unless (refusal f c) f (served f c)).1 in
    omega arith

next-run : (s : State) (es : List Entry) → s.board.next_sub ≤ (state_after s es).board.next_sub
next-run s [] = omega arith
next-run s (e ∷ es) = let one = next-step s e.moment e.call in let more = next-run (after s e.moment e.call) es in omega arith

unborn-answer : (n : ℕ) (b : Board) (c : Call) (o : Option Reply) → AllQuiet o → Unborn n b
    → let a = unless o b (served b c) in a.1.next_sub ≤ n → (handed_to n a.0 ≡ []) × Unborn n a.1
unborn-answer n b c None q i below = (hands-served n b c i, idle-served n Anywhere b c (inl below) i)
unborn-answer n b c (Some r) q i below = (q.hands n, i)

unborn-step : (n : ℕ) (s : State) (at : ℕ) (c : Call) → Unborn n s.board → (after s at c).board.next_sub ≤ n → (handed_to n (answer_to s at c).reply ≡ []) × Unborn n (after s at c).board
unfolding answer_to after
unborn-step n s at c i below =
    let f = found at s.board in
    let last = next-sighted (named_by c) (unless (refusal f c) f (served f c)).1 in
    let here = idle-leave n Anywhere (expired_at at s.board) (record s.board { moment = later s.board.moment at }) i in
    let one = unborn-answer n f c (refusal f c) (quiet-refusal f c) here (omega arith) in
    (one.0, idle-sighted n Anywhere (named_by c) (unless (refusal f c) f (served f c)).1 one.1)

unborn-run : (n : ℕ) (es : List Entry) (s : State) → Unborn n s.board → (state_after s es).board.next_sub ≤ n → IsAnsweredFrom s es → (got n es ≡ []) × Unborn n (state_after s es).board
unborn-run n [] s i below a = (refl, i)
unborn-run n (e ∷ es) s i below a =
    let grows = next-run (after s e.moment e.call) es in
    let one = unborn-step n s e.moment e.call i (omega arith) in
    let more = unborn-run n es (after s e.moment e.call) one.1 below a.1 in
    (ap (λ m. m ++ got n es) (ap (λ (x : Answer). handed_to n x.reply) a.0 ∙ one.0) ∙ more.0, more.1)

-- The entry that begins it.

began-answer : (n k : ℕ) (t : Topic) (b : Board) (o : Option Reply) → refusal b (Subscribe k t) ≡ o → AllQuiet o
    → Subscribed n ≡ (unless o b (served b (Subscribe k t))).0 → b.next_sub ≡ n
began-answer n k t b None is q e = cc
began-answer n k t b (Some r) is q e = absurd (q.begins n (sym e))

unrefused : (n k : ℕ) (t : Topic) (b : Board) (o : Option Reply) → refusal b (Subscribe k t) ≡ o → AllQuiet o
    → Subscribed n ≡ (unless o b (served b (Subscribe k t))).0 → refusal b (Subscribe k t) ≡ None
unrefused n k t b None is q e = is
unrefused n k t b (Some r) is q e = absurd (q.begins n (sym e))

pub began-number : (n k : ℕ) (t : Topic) (s : State) (at : ℕ) → Subscribed n ≡ (answer_to s at (Subscribe k t)).reply → s.board.next_sub ≡ n
unfolding answer_to
began-number n k t s at e =
    let f = found at s.board in
    let first = next-leave (expired_at at s.board) (record s.board { moment = later s.board.moment at }) in
    sym first ∙ began-answer n k t f (refusal f (Subscribe k t)) refl (quiet-refusal f (Subscribe k t)) e

live-begun : (n k : ℕ) (t : Topic) (s : State) (at : ℕ) → Subscribed n ≡ (answer_to s at (Subscribe k t)).reply → Unborn n s.board → Live n k t (after s at (Subscribe k t)).board
unfolding answer_to after
live-begun n k t s at e i =
    let f = found at s.board in
    let here = idle-leave n Anywhere (expired_at at s.board) (record s.board { moment = later s.board.moment at }) i in
    let is = unrefused n k t f (refusal f (Subscribe k t)) refl (quiet-refusal f (Subscribe k t)) e in
    let number = began-answer n k t f (refusal f (Subscribe k t)) refl (quiet-refusal f (Subscribe k t)) e in
    let l : Live n k t (served f (Subscribe k t)).1 = record {
      old = omega arith;
      one = named-begun n _ f.subs number here.none ∙ ap (λ m. (record { id = m; client = k; topic = t }) ∷ []) number;
      connected = connected-served f k _ is;
      quiet = λ j o. here.quiet j tt;
    } in
    rw is (live-sighted n k t (Some k) (served f (Subscribe k t)).1 l)

begun-silent : (n k : ℕ) (t : Topic) (s : State) (at : ℕ) → Subscribed n ≡ (answer_to s at (Subscribe k t)).reply → Unborn n s.board → waiting n k (after s at (Subscribe k t)).board.clients ≡ []
unfolding answer_to after
begun-silent n k t s at e i =
    let f = found at s.board in
    let here = idle-leave n Anywhere (expired_at at s.board) (record s.board { moment = later s.board.moment at }) i in
    let is = unrefused n k t f (refusal f (Subscribe k t)) refl (quiet-refusal f (Subscribe k t)) e in
    rw is (waiting-sighted n k (Some k) (served f (Subscribe k t)).1 ∙ here.quiet k tt)

-- Runs of entries.

-- from a state where these messages wait, what was got and what rests are these and then what was due
record Ran (n k : ℕ) (es : List Entry) (later : State) (messages : List Message) : Type 0 where
  connected : has_left k es ≡ false → got n es ++ waiting n k later.board.clients ≡ messages
  prefix : IsPrefix (got n es) messages

-- one entry more before a run
ran-more : (n k : ℕ) (e : Entry) (es : List Entry) (later : State) (before after : List Message) → left_by k e.call e.answer ≡ false → handed_to n e.answer.reply ++ after ≡ before → Ran n k es later after → Ran n k (e ∷ es) later before
ran-more n k e es later before after stays moves ih = record {
  connected = λ h.
      let stayed : has_left k es ≡ false = ap (λ b. b || has_left k es) (sym stays) ∙ h in
      append_assoc (handed_to n e.answer.reply) (got n es) (waiting n k later.board.clients) ∙ (ap (λ m. handed_to n e.answer.reply ++ m) (ih.connected stayed) ∙ moves);
  prefix = (ih.prefix.0, append_assoc (handed_to n e.answer.reply) (got n es) ih.prefix.0 ∙ (ap (λ m. handed_to n e.answer.reply ++ m) ih.prefix.1 ∙ moves));
}

-- an entry by which the client leaves
ran-left : (n k : ℕ) (e : Entry) (es : List Entry) (later : State) (before after : List Message) → left_by k e.call e.answer ≡ true → handed_to n e.answer.reply ≡ [] → after ≡ [] → Ran n k es later after → Ran n k (e ∷ es) later before
ran-left n k e es later before after leaves hands empty ih =
    let nothing : got n es ≡ [] = (append-empty (got n es) ih.prefix.0 (ih.prefix.1 ∙ empty)).0 in
    let all : got n (e ∷ es) ≡ [] = ap (λ m. m ++ got n es) hands ∙ nothing in
    record {
      connected = λ h. let never : true ≡ false = ap (λ b. b || has_left k es) (sym leaves) ∙ h in absurd (cc);
      prefix = (before, ap (λ m. m ++ before) all);
    }

done-run : (n k : ℕ) (es : List Entry) (s : State) → Done n k s.board → IsAnsweredFrom s es → Ran n k es (state_after s es) (waiting n k s.board.clients)
done-run n k [] s d a = record { connected = λ _. refl; prefix = (waiting n k s.board.clients, refl) }
done-run n k (e ∷ es) s d a =
    elim (subst (λ (x : Answer). DoneOn n k e.call x s.board (after s e.moment e.call).board) (sym a.0) (done-step n k s e.moment e.call d)) [
      | inl h ↦ ran-more n k e es _ _ _ h.left h.moves (done-run n k es (after s e.moment e.call) h.done a.1)
      | inr h ↦ ran-left n k e es _ _ _ h.left h.hands h.waits (done-run n k es (after s e.moment e.call) h.done a.1)
    ]

cons_option-append : (o : Option Message) (xs : List Message) → cons_option o [] ++ xs ≡ cons_option o xs
cons_option-append None xs = refl
cons_option-append (Some x) xs = refl

-- what is due from an entry on that leaves the subscription live, and from one that ends it
due-more : (n k : ℕ) (t : Topic) (e : Entry) (es : List Entry) → ended_by n k e.call e.answer ≡ false → due n k t (e ∷ es) ≡ cons_option (published_to t e.call e.answer.reply) (due n k t es)
due-more n k t e es live = ap (λ b. filter_map (λ (x : Entry). published_to t x.call x.answer.reply) (if b then [] else e ∷ while_live n k es)) live

due-ended : (n k : ℕ) (t : Topic) (e : Entry) (es : List Entry) → ended_by n k e.call e.answer ≡ true → due n k t (e ∷ es) ≡ []
due-ended n k t e es ended = ap (λ b. filter_map (λ (x : Entry). published_to t x.call x.answer.reply) (if b then [] else e ∷ while_live n k es)) ended

live-run : (n k : ℕ) (t : Topic) (es : List Entry) (s : State) → Live n k t s.board → IsAnsweredFrom s es → Ran n k es (state_after s es) (waiting n k s.board.clients ++ due n k t es)
live-run n k t [] s l a = record { connected = λ _. sym (append-nil _); prefix = (waiting n k s.board.clients, sym (append-nil _)) }
live-run n k t (e ∷ es) s l a =
    elim (subst (λ (x : Answer). LiveOn n k t e.call x s.board (after s e.moment e.call).board) (sym a.0) (live-step n k t s e.moment e.call l)) [
      | inl g ↦
          let w = waiting n k s.board.clients in
          let new = cons_option (published_to t e.call e.answer.reply) [] in
          let moved = sym (append_assoc (handed_to n e.answer.reply) (waiting n k (after s e.moment e.call).board.clients) (due n k t es)) ∙ (ap (λ m. m ++ due n k t es) g.moves ∙ (append_assoc w new (due n k t es) ∙ ap (λ m. w ++ m) (cons_option-append (published_to t e.call e.answer.reply) (due n k t es) ∙ sym (due-more n k t e es g.ended)))) in
          ran-more n k e es _ _ _ g.left moved (live-run n k t es (after s e.moment e.call) g.live a.1)
      | inr h ↦
          let all : waiting n k s.board.clients ++ due n k t (e ∷ es) ≡ waiting n k s.board.clients = ap (λ m. waiting n k s.board.clients ++ m) (due-ended n k t e es h.0) ∙ append-nil _ in
          subst (λ (m : List Message). Ran n k (e ∷ es) (state_after (after s e.moment e.call) es) m) (sym all)
          (elim h.1 [
            | inl p ↦ ran-more n k e es _ _ _ p.left p.moves (done-run n k es (after s e.moment e.call) p.done a.1)
            | inr p ↦ ran-left n k e es _ _ _ p.left p.hands p.waits (done-run n k es (after s e.moment e.call) p.done a.1)
          ])
    ]

-- Whole histories.

pub state_after-append : (s : State) (xs ys : List Entry) → state_after s (xs ++ ys) ≡ state_after (state_after s xs) ys
state_after-append s [] ys = refl
state_after-append s (x ∷ xs) ys = state_after-append (after s x.moment x.call) xs ys

pub answered-parts : (s : State) (xs ys : List Entry) → IsAnsweredFrom s (xs ++ ys) → IsAnsweredFrom s xs × IsAnsweredFrom (state_after s xs) ys
answered-parts s [] ys a = (tt, a)
answered-parts s (x ∷ xs) ys a = let more = answered-parts (after s x.moment x.call) xs ys a.1 in ((a.0, more.0), more.1)

pub answered-append : (s : State) (xs ys : List Entry) → IsAnsweredFrom s xs → IsAnsweredFrom (state_after s xs) ys → IsAnsweredFrom s (xs ++ ys)
answered-append s [] ys a b = b
answered-append s (x ∷ xs) ys a b = (a.0, answered-append (after s x.moment x.call) xs ys a.1 b)

got-append : (n : ℕ) (xs ys : List Entry) → got n (xs ++ ys) ≡ got n xs ++ got n ys
got-append n [] ys = refl
got-append n (x ∷ xs) ys = ap (λ m. handed_to n x.answer.reply ++ m) (got-append n xs ys) ∙ sym (append_assoc (handed_to n x.answer.reply) (got n xs) (got n ys))

unborn-first : (n : ℕ) (names : List (List ℕ)) → Unborn n (first names).board
unfolding first
unborn-first n names = record { none = refl; quiet = λ j _. refl }

delivered-from : (names : List (List ℕ)) (earlier since : List Entry) (e : Entry) (sub client : ℕ) (topic : Topic)
    → Begins e sub client topic → IsAnsweredFrom (first names) (earlier ++ (e ∷ since))
    → Ran sub client since (state_after (first names) (earlier ++ (e ∷ since))) (due sub client topic since) × (got sub (earlier ++ (e ∷ since)) ≡ got sub since)
delivered-from names earlier since e sub client topic begins a =
    let start = first names in
    let parts = answered-parts start earlier (e ∷ since) a in
    let s = state_after start earlier in
    let named : Subscribed sub ≡ (answer_to s e.moment (Subscribe client topic)).reply = sym begins.1 ∙ (ap (λ (x : Answer). x.reply) parts.1.0 ∙ ap (λ c. (answer_to s e.moment c).reply) begins.0) in
    let number = began-number sub client topic s e.moment named in
    let before = unborn-run sub earlier start (unborn-first sub names) (omega arith) parts.0 in
    let l = live-begun sub client topic s e.moment named before.1 in
    let more : IsAnsweredFrom (after s e.moment (Subscribe client topic)) since = subst (λ (c : Call). IsAnsweredFrom (after s e.moment c) since) begins.0 parts.1.1 in
    let ran = live-run sub client topic since (after s e.moment (Subscribe client topic)) l more in
    let silent : waiting sub client (after s e.moment (Subscribe client topic)).board.clients ≡ [] = begun-silent sub client topic s e.moment named before.1 in
    let here : Ran sub client since (state_after (after s e.moment (Subscribe client topic)) since) (due sub client topic since) = subst (λ (m : List Message). Ran sub client since (state_after (after s e.moment (Subscribe client topic)) since) (m ++ due sub client topic since)) silent ran in
    let nothing : handed_to sub e.answer.reply ≡ [] = ap (handed_to sub) begins.1 in (
      rw (state_after-append start earlier (e ∷ since)) (subst (λ (c : Call). Ran sub client since (state_after (after s e.moment c) since) (due sub client topic since)) (sym begins.0) here),
      got-append sub earlier (e ∷ since) ∙ (ap (λ m. m ++ (handed_to sub e.answer.reply ++ got sub since)) before.0 ∙ ap (λ m. m ++ got sub since) nothing),
    )

pub delivered : DeliveryHolds
delivered history s leaves earlier since e sub client topic begins is =
    let a = subst (λ (h : List Entry). IsAnsweredFrom (first s.board.destinations) h) is leaves.legal in
    let ran = delivered-from s.board.destinations earlier since e sub client topic begins a in
    let state : state_after (first s.board.destinations) (earlier ++ (e ∷ since)) ≡ s = ap (state_after (first s.board.destinations)) (sym is) ∙ leaves.state in
    let all : got sub history ≡ got sub since = ap (got sub) is ∙ ran.1 in
    record {
      connected = λ h. ap (λ m. m ++ rest sub client s) all ∙ (ap (λ (t : State). got sub since ++ rest sub client t) (sym state) ∙ ran.0.connected h);
      gone = λ h. (ran.0.prefix.0, ap (λ m. m ++ ran.0.prefix.0) all ∙ ran.0.prefix.1);
    }

-- A history goes on by the machine's answer.

destinations-served : (b : Board) (c : Call) → (served b c).1.destinations ≡ b.destinations
destinations-served b Connect = refl
destinations-served b (Subscribe k t) = refl
destinations-served b (Unsubscribe k sub) = refl
destinations-served b (Publish k t message) = refl
destinations-served b (Poll k) = refl
destinations-served b (PollNumbered k number) = elim (number == last_of k b.clients)
    as (λ again. (if again then same_batch b k number else next_batch b k number).1.destinations ≡ b.destinations) [
      | true ↦ refl
      | false ↦ refl
    ]
destinations-served b (Disconnect k) = refl

destinations-answer : (b : Board) (c : Call) (o : Option Reply) → (unless o b (served b c)).1.destinations ≡ b.destinations
destinations-answer b c None = destinations-served b c
destinations-answer b c (Some r) = refl

destinations-sighted : (o : Option ℕ) (b : Board) → (sighted o b).destinations ≡ b.destinations
destinations-sighted None b = refl
destinations-sighted (Some k) b = refl

pub destinations-after : (s : State) (at : ℕ) (c : Call) → (after s at c).board.destinations ≡ s.board.destinations
unfolding after
destinations-after s at c =
    let f = found at s.board in
    destinations-sighted (named_by c) (unless (refusal f c) f (served f c)).1 ∙ (destinations-answer f c (refusal f c) ∙ destinations-leave (expired_at at s.board) (record s.board { moment = later s.board.moment at }))

pub leaves-then : (history : List Entry) (s : State) (by at : ℕ) (c : Call) → Leaves history s → Leaves (then_entry history by at c (answer_to s at c)) (after s at c)
leaves-then history s by at c l =
    let e : Entry = record { caller = by; moment = at; call = c; answer = answer_to s at c } in
    let here = first s.board.destinations in
    let next : IsAnsweredFrom s (e ∷ []) = (refl, tt) in
    let legal = answered-append here history (e ∷ []) l.legal (subst (λ (t : State). IsAnsweredFrom t (e ∷ [])) (sym l.state) next) in
    let state = state_after-append here history (e ∷ []) ∙ ap (λ (t : State). after t at c) l.state in
    record {
      legal = rw (destinations-after s at c) legal;
      state = ap (λ names. state_after (first names) (then_entry history by at c (answer_to s at c))) (destinations-after s at c) ∙ state;
    }

pub counts : (s : State) (at : ℕ) (c : Call) → (after s at c).calls ≡ s.calls + 1
unfolding after
counts s at c = refl

-- every entry is counted
counted-run : (es : List Entry) (s : State) → (state_after s es).calls ≡ s.calls + length es
counted-run [] s = omega arith
counted-run (e ∷ es) s = let one = counts s e.moment e.call in let more = counted-run es (after s e.moment e.call) in omega arith

pub calls-length : (history : List Entry) (s : State) → Leaves history s → s.calls ≡ length history
unfolding first
calls-length history s l = let run = counted-run history (first s.board.destinations) in let same = ap (λ (t : State). t.calls) l.state in omega arith

pub leaves-first : (names : List (List ℕ)) → Leaves [] (first names)
unfolding first
leaves-first names = record { legal = tt; state = refl }
