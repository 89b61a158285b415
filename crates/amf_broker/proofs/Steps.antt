-- What one answer of the machine does to one subscription.
use Rattle.std.proofs.Common.{◌≡◌, ℕ, ◌<◌, ◌≤◌, Bool, true, false, not, List, [], ◌∷◌, ◌++◌, refl, sym, ◌∙◌, ap, arith, ◌⊎◌, inl, inr}
use Rattle.std.specs.Prelude.{◌==◌, filter, Some, None, is_some, ◌≢◌, if◌then◌else◌}
use Rattle.std.specs.List.{cons_option}
use Rattle.std.proofs.lemmas.List.{append-nil}
use Rattle.std.proofs.lemmas.Bool.{eq-eqb}
use Rattle.std.proofs.lemmas.Bool.Decides.{nat_tests, eqb_tells}
use Rattle.amf_broker.specs.declared.topic.Topic.{Topic}
use Rattle.amf_broker.specs.declared.call.Call.{Call}
use Rattle.amf_broker.specs.declared.call.Call.TheVariants.{Connect, Subscribe, Unsubscribe, Publish, Poll, PollNumbered, Disconnect}
use Rattle.amf_broker.specs.declared.reply.Reply.{Reply}
use Rattle.amf_broker.specs.State.{Board, Connection, Subscription}
use Rattle.amf_broker.specs.Machine.{is_connected, at_client, queue_of, queue_in, emptied, subscribers, is_same_topic, served, last_of, same_batch, next_batch}
use Rattle.amf_broker.specs.Delivery.{messages_for, handed_to, published_to, ends, says_bye}
use Rattle.amf_broker.proofs.Clients.{waiting, same-kept, waiting-same, connected-at, connected-new, queue_of-new, queue_of-emptied, queue_of-gone, client_at-stays, queue_of-other}
use Rattle.amf_broker.proofs.Spreads.{named, filter-swap, connected-spread, spread-other, spread-named}

-- nothing waits for the subscription at client j
pub silent-emptied : (n j k : ℕ) (cs : List Connection) → waiting n j cs ≡ [] → waiting n j (at_client k emptied cs) ≡ []
silent-emptied n j k cs silent = elim (eqb_tells j k) [
  | inl same ↦ rw same.1 (ap (messages_for n) (queue_of-emptied k cs))
  | inr other ↦ ap (messages_for n) (queue_of-other j k emptied cs other.1 (λ c. refl)) ∙ silent
]

pub silent-gone : (n j k : ℕ) (cs : List Connection) → waiting n j cs ≡ [] → waiting n j (filter (λ c. not (c.id == k)) cs) ≡ []
silent-gone n j k cs silent = elim (eqb_tells j k) [
  | inl same ↦ rw same.1 (ap (messages_for n) (queue_of-gone k cs))
  | inr other ↦ ap (λ c. messages_for n (queue_in c)) (client_at-stays j k cs other.1) ∙ silent
]

pub named-new : (n : ℕ) (u : Subscription) (subs : List Subscription) → u.id ≢ n → named n (subs ++ (u ∷ [])) ≡ named n subs
named-new n u [] other = grind (arith, nat_tests)
named-new n u (v ∷ subs) other = let ih = named-new n u subs other in grind (arith, nat_tests, ih)

pub named-begun : (n : ℕ) (u : Subscription) (subs : List Subscription) → u.id ≡ n → named n subs ≡ [] → named n (subs ++ (u ∷ [])) ≡ u ∷ []
named-begun n u [] own none = grind (arith, nat_tests)
named-begun n u (v ∷ subs) own none = let ih = named-begun n u subs own in grind (arith, nat_tests, ih)

pub named-ended : (n : ℕ) (subs : List Subscription) → named n (filter (λ u. not (u.id == n)) subs) ≡ []
named-ended n [] = refl
named-ended n (u ∷ subs) = let ih = named-ended n subs in grind (arith, nat_tests, ih)

pub named-stays : (n m : ℕ) (subs : List Subscription) → m ≢ n → named n (filter (λ u. not (u.id == m)) subs) ≡ named n subs
named-stays n m [] other = refl
named-stays n m (u ∷ subs) other = let ih = named-stays n m subs other in grind (arith, nat_tests, ih)

-- a part of the live subscriptions, where none or one has the number
pub named-none : (n : ℕ) (p : Subscription → Bool) (subs : List Subscription) → named n subs ≡ [] → named n (filter p subs) ≡ []
named-none n p subs none = filter-swap (λ u. u.id == n) p subs ∙ ap (filter p) none

pub named-one : (n : ℕ) (p : Subscription → Bool) (subs : List Subscription) (u : Subscription) → named n subs ≡ u ∷ [] → named n (filter p subs) ≡ (if p u then u ∷ [] else [])
named-one n p subs u one = filter-swap (λ v. v.id == n) p subs ∙ ap (filter p) one

-- The subscription is not live, and nothing waits for it at the clients of P.
pub record Idle (n : ℕ) (P : ℕ → Type 0) (cs : List Connection) (subs : List Subscription) : Type 0 where
  pub none : named n subs ≡ []
  pub quiet : (j : ℕ) → P j → waiting n j cs ≡ []

-- the next number stays at or below n, or was above it already
abbrev pub Elsewhere : ℕ → Board → Board → Type 0
Elsewhere n s t = (t.next_sub ≤ n) ⊎ (n < s.next_sub)

pub idle-served : (n : ℕ) (P : ℕ → Type 0) (s : Board) (c : Call) → Elsewhere n s (served s c).1 → Idle n P s.clients s.subs → Idle n P (served s c).1.clients (served s c).1.subs
idle-served n P s Connect e i = record { none = i.none; quiet = λ j p. ap (messages_for n) (queue_of-new j s.next_client s.moment s.clients) ∙ i.quiet j p }
idle-served n P s (Subscribe k t) e i =
    let other : s.next_sub ≢ n = elim e [ inl h ↦ omega arith | inr h ↦ omega arith ] in
    record { none = named-new n _ s.subs other ∙ i.none; quiet = i.quiet }
idle-served n P s (Unsubscribe k sub) e i = record { none = named-none n _ s.subs i.none; quiet = i.quiet }
idle-served n P s (Publish k t message) e i =
    let to = spread-other n s.next_message message (subscribers t s.subs) s.clients (named-none n _ s.subs i.none) in
    record { none = named-none n _ s.subs i.none; quiet = λ j p. to.waits j ∙ i.quiet j p }
idle-served n P s (Poll k) e i = record { none = i.none; quiet = λ j p. silent-emptied n j k s.clients (i.quiet j p) }
idle-served n P s (PollNumbered k number) e i = elim (number == last_of k s.clients)
    as (λ again. Idle n P (if again then same_batch s k number else next_batch s k number).1.clients (if again then same_batch s k number else next_batch s k number).1.subs) [
      | true ↦ i
      | false ↦ record { none = i.none; quiet = λ j p. waiting-same n j _ _ (same-kept k number s.clients) ∙ silent-emptied n j k s.clients (i.quiet j p) }
    ]
idle-served n P s (Disconnect k) e i = record { none = named-none n _ s.subs i.none; quiet = λ j p. silent-gone n j k s.clients (i.quiet j p) }

-- a poll of client j, where nothing waits for the subscription but at client k
pub poll-moves : (n k j : ℕ) (cs : List Connection) → ((i : ℕ) → i ≢ k → waiting n i cs ≡ []) → messages_for n (queue_of j cs) ++ waiting n k (at_client j emptied cs) ≡ waiting n k cs
poll-moves n k j cs quiet = elim (eqb_tells j k) [
  | inl same ↦ rw same.1 (ap (λ m. waiting n k cs ++ m) (ap (messages_for n) (queue_of-emptied k cs)) ∙ append-nil (waiting n k cs))
  | inr other ↦ ap (λ m. m ++ waiting n k (at_client j emptied cs)) (quiet j other.1) ∙ ap (messages_for n) (queue_of-other k j emptied cs (λ e. other.1 (sym e)) (λ c. refl))
]

pub next-served : (s : Board) (c : Call) → s.next_sub ≤ (served s c).1.next_sub
next-served s Connect = omega arith
next-served s (Subscribe k t) = omega arith
next-served s (Unsubscribe k sub) = omega arith
next-served s (Publish k t message) = omega arith
next-served s (Poll k) = omega arith
next-served s (PollNumbered k number) = elim (number == last_of k s.clients)
    as (λ again. s.next_sub ≤ (if again then same_batch s k number else next_batch s k number).1.next_sub) [
      | true ↦ omega arith
      | false ↦ omega arith
    ]
next-served s (Disconnect k) = omega arith

-- A subscription of client k that has ended.
pub record Done (n k : ℕ) (s : Board) : Type 0 where
  pub old : n < s.next_sub
  pub idle : Idle n (λ j. j ≢ k) s.clients s.subs

-- its messages move from what waits to what it got
pub record Stays (n k : ℕ) (c : Call) (r : Reply) (s t : Board) : Type 0 where
  pub left : says_bye k c r ≡ false
  pub done : Done n k t
  pub moves : handed_to n r ++ waiting n k t.clients ≡ waiting n k s.clients

-- its client disconnects
pub record Departs (n k : ℕ) (c : Call) (r : Reply) (s t : Board) : Type 0 where
  pub left : says_bye k c r ≡ true
  pub done : Done n k t
  pub hands : handed_to n r ≡ []
  pub waits : waiting n k t.clients ≡ []

done-after : (n k : ℕ) (s : Board) (c : Call) → Done n k s → Done n k (served s c).1
done-after n k s c d =
    let grows = next-served s c in
    let old = d.old in
    record { old = omega arith; idle = idle-served n (λ j. j ≢ k) s c (inr old) d.idle }

pub done-served : (n k : ℕ) (s : Board) (c : Call) → Done n k s → Stays n k c (served s c).0 s (served s c).1 ⊎ Departs n k c (served s c).0 s (served s c).1
done-served n k s Connect d = inl (record { left = refl; done = done-after n k s Connect d; moves = ap (messages_for n) (queue_of-new k s.next_client s.moment s.clients) })
done-served n k s (Subscribe j t) d = inl (record { left = refl; done = done-after n k s (Subscribe j t) d; moves = refl })
done-served n k s (Unsubscribe j sub) d = inl (record { left = refl; done = done-after n k s (Unsubscribe j sub) d; moves = refl })
done-served n k s (Publish j t message) d =
    inl (record {
      left = refl;
      done = done-after n k s (Publish j t message) d;
      moves = (spread-other n s.next_message message (subscribers t s.subs) s.clients (named-none n _ s.subs d.idle.none)).waits k;
    })
done-served n k s (Poll j) d = inl (record { left = refl; done = done-after n k s (Poll j) d; moves = poll-moves n k j s.clients d.idle.quiet })
done-served n k s (PollNumbered j number) d = inl (record {
  left = elim (number == last_of j s.clients)
      as (λ again. says_bye k (PollNumbered j number) (if again then same_batch s j number else next_batch s j number).0 ≡ false) [
        | true ↦ refl
        | false ↦ refl
      ];
  done = done-after n k s (PollNumbered j number) d;
  moves = elim (number == last_of j s.clients)
      as (λ again. handed_to n (if again then same_batch s j number else next_batch s j number).0 ++ waiting n k (if again then same_batch s j number else next_batch s j number).1.clients ≡ waiting n k s.clients) [
        | true ↦ refl
        | false ↦ ap (λ m. messages_for n (queue_of j s.clients) ++ m) (waiting-same n k _ _ (same-kept j number s.clients)) ∙ poll-moves n k j s.clients d.idle.quiet
      ];
})
done-served n k s (Disconnect j) d = elim (eqb_tells j k) [
  | inl same ↦ inr (record {
    left = same.0;
    done = done-after n k s (Disconnect j) d;
    hands = refl;
    waits = rw same.1 (ap (messages_for n) (queue_of-gone k s.clients));
  })
  | inr other ↦ inl (record {
    left = other.0;
    done = done-after n k s (Disconnect j) d;
    moves = ap (λ c. messages_for n (queue_in c)) (client_at-stays k j s.clients (λ e. other.1 (sym e)));
  })
]

-- A live subscription.
pub record Live (n k : ℕ) (t : Topic) (s : Board) : Type 0 where
  pub old : n < s.next_sub
  pub one : named n s.subs ≡ (record { id = n; client = k; topic = t }) ∷ []
  pub connected : is_connected k s.clients ≡ true
  pub quiet : (j : ℕ) → j ≢ k → waiting n j s.clients ≡ []

-- it stays live: what is published to its topic comes behind what waits
pub record GoesBy (n k : ℕ) (t : Topic) (c : Call) (r : Reply) (s s' : Board) : Type 0 where
  pub ended : ends n k c r ≡ false
  pub left : says_bye k c r ≡ false
  pub live : Live n k t s'
  pub moves : handed_to n r ++ waiting n k s'.clients ≡ waiting n k s.clients ++ cons_option (published_to t c r) []

-- it ends: what waits stays, or is gone with its client
abbrev pub Ends : ℕ → ℕ → Call → Reply → Board → Board → Type 0
Ends n k c r s s' = (ends n k c r ≡ true) × (Stays n k c r s s' ⊎ Departs n k c r s s')

abbrev pub LiveStep : ℕ → ℕ → Topic → Call → Reply → Board → Board → Type 0
LiveStep n k t c r s s' = GoesBy n k t c r s s' ⊎ Ends n k c r s s'

-- the publish of a topic that is the subscription's, and of one that is not
live-published : (n k : ℕ) (t at : Topic) (j : ℕ) (message : List ℕ) (s : Board) → Live n k t s → (b : Bool) → is_same_topic t at ≡ b
    → LiveStep n k t (Publish j at message) (served s (Publish j at message)).0 s (served s (Publish j at message)).1
live-published n k t at j message s l false is =
    let none : named n (subscribers at s.subs) ≡ [] = named-one n (λ u. is_same_topic u.topic at) s.subs _ l.one ∙ ap (λ b. if b then (record { id = n; client = k; topic = t }) ∷ [] else []) is in
    let to = spread-other n s.next_message message (subscribers at s.subs) s.clients none in
    let nothing : published_to t (Publish j at message) (served s (Publish j at message)).0 ≡ None = rw is refl in
    inl (record {
      ended = to.still;
      left = refl;
      live = record {
        old = l.old;
        one = named-one n _ s.subs _ l.one ∙ ap (λ b. if not b then (record { id = n; client = k; topic = t }) ∷ [] else []) to.still;
        connected = connected-spread k s.next_message message (subscribers at s.subs) s.clients ∙ l.connected;
        quiet = λ i o. to.waits i ∙ l.quiet i o;
      };
      moves = to.waits k ∙ (sym (append-nil _) ∙ ap (λ o. waiting n k s.clients ++ cons_option o []) (sym nothing));
    })
live-published n k t at j message s l true is =
    let one : named n (subscribers at s.subs) ≡ (record { id = n; client = k; topic = t }) ∷ [] = named-one n (λ u. is_same_topic u.topic at) s.subs _ l.one ∙ ap (λ b. if b then (record { id = n; client = k; topic = t }) ∷ [] else []) is in
    let something : published_to t (Publish j at message) (served s (Publish j at message)).0 ≡ Some (record { number = s.next_message; bytes = message }) = rw is refl in
    elim (spread-named n s.next_message message (subscribers at s.subs) (record { id = n; client = k; topic = t }) s.clients refl one l.connected) [
      | inl over ↦ inr (
        over.over,
        inl (record {
          left = refl;
          done = record {
            old = l.old;
            idle = record {
              none = named-one n _ s.subs _ l.one ∙ ap (λ b. if not b then (record { id = n; client = k; topic = t }) ∷ [] else []) over.over;
              quiet = λ i o. over.waits i ∙ l.quiet i o;
            };
          };
          moves = over.waits k;
        }),
      )
      | inr to ↦ inl (record {
        ended = to.live;
        left = refl;
        live = record {
          old = l.old;
          one = named-one n _ s.subs _ l.one ∙ ap (λ b. if not b then (record { id = n; client = k; topic = t }) ∷ [] else []) to.live;
          connected = connected-spread k s.next_message message (subscribers at s.subs) s.clients ∙ l.connected;
          quiet = λ i o. to.others i o ∙ l.quiet i o;
        };
        moves = to.waits ∙ ap (λ o. waiting n k s.clients ++ cons_option o []) (sym something);
      })
    ]

pub live-served : (n k : ℕ) (t : Topic) (s : Board) (c : Call) → Live n k t s → LiveStep n k t c (served s c).0 s (served s c).1
live-served n k t s Connect l = inl (record {
  ended = refl;
  left = refl;
  live = record {
    old = l.old;
    one = l.one;
    connected = connected-new k _ s.clients l.connected;
    quiet = λ j o. ap (messages_for n) (queue_of-new j s.next_client s.moment s.clients) ∙ l.quiet j o;
  };
  moves = ap (messages_for n) (queue_of-new k s.next_client s.moment s.clients) ∙ sym (append-nil _);
})
live-served n k t s (Subscribe j at) l =
    let old = l.old in
    let other : s.next_sub ≢ n = omega arith in
    inl (record {
      ended = refl;
      left = refl;
      live = record { old = omega arith; one = named-new n _ s.subs other ∙ l.one; connected = l.connected; quiet = l.quiet };
      moves = sym (append-nil _);
    })
live-served n k t s (Unsubscribe j sub) l = elim (eqb_tells sub n) [
  | inl same ↦ inr (
    same.0,
    inl (record {
      left = refl;
      done = record { old = l.old; idle = record { none = rw same.1 (named-ended n s.subs); quiet = l.quiet } };
      moves = refl;
    }),
  )
  | inr other ↦ inl (record {
    ended = other.0;
    left = refl;
    live = record { old = l.old; one = named-stays n sub s.subs other.1 ∙ l.one; connected = l.connected; quiet = l.quiet };
    moves = sym (append-nil _);
  })
]
live-served n k t s (Publish j at message) l = live-published n k t at j message s l (is_same_topic t at) refl
live-served n k t s (Poll j) l = inl (record {
  ended = refl;
  left = refl;
  live = record {
    old = l.old;
    one = l.one;
    connected = connected-at k j emptied s.clients (λ c. refl) ∙ l.connected;
    quiet = λ i o. silent-emptied n i j s.clients (l.quiet i o);
  };
  moves = poll-moves n k j s.clients l.quiet ∙ sym (append-nil _);
})
live-served n k t s (PollNumbered j number) l = elim (number == last_of j s.clients)
    as (λ again. LiveStep n k t (PollNumbered j number) (if again then same_batch s j number else next_batch s j number).0 s (if again then same_batch s j number else next_batch s j number).1) [
      | true ↦ inl (record { ended = refl; left = refl; live = l; moves = sym (append-nil _) })
      | false ↦
          let same = same-kept j number s.clients in
          inl (record {
            ended = refl;
            left = refl;
            live = record {
              old = l.old;
              one = l.one;
              connected = same.here k ∙ (connected-at k j emptied s.clients (λ c. refl) ∙ l.connected);
              quiet = λ i o. waiting-same n i _ _ same ∙ silent-emptied n i j s.clients (l.quiet i o);
            };
            moves = ap (λ m. messages_for n (queue_of j s.clients) ++ m) (waiting-same n k _ _ same) ∙ (poll-moves n k j s.clients l.quiet ∙ sym (append-nil _));
          })
    ]
live-served n k t s (Disconnect j) l = elim (eqb_tells j k) [
  | inl same ↦ inr (
    same.0,
    inr (record {
      left = same.0;
      done = record {
        old = l.old;
        idle = record {
          none = named-one n _ s.subs _ l.one ∙ ap (λ b. if not b then (record { id = n; client = k; topic = t }) ∷ [] else []) (eq-eqb k j (sym same.1));
          quiet = λ i o. silent-gone n i j s.clients (l.quiet i o);
        };
      };
      hands = refl;
      waits = rw same.1 (ap (messages_for n) (queue_of-gone k s.clients));
    }),
  )
  | inr other ↦
      let apart : k ≢ j = λ e. other.1 (sym e) in
      let differs : (k == j) ≡ false = grind (arith, nat_tests, apart) in
      inl (record {
        ended = other.0;
        left = other.0;
        live = record {
          old = l.old;
          one = named-one n _ s.subs _ l.one ∙ ap (λ b. if not b then (record { id = n; client = k; topic = t }) ∷ [] else []) differs;
          connected = ap is_some (client_at-stays k j s.clients apart) ∙ l.connected;
          quiet = λ i o. silent-gone n i j s.clients (l.quiet i o);
        };
        moves = ap (λ c. messages_for n (queue_in c)) (client_at-stays k j s.clients apart) ∙ sym (append-nil _);
      })
]
