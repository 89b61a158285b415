-- What a publish does to one subscription.
use Rattle.std.proofs.Common.{◌≡◌, ℕ, Bool, true, false, List, [], ◌∷◌, ◌++◌, refl, sym, ◌∙◌, ap, subst, arith, ◌⊎◌, inl, inr}
use Rattle.std.specs.Prelude.{◌==◌, filter, ◌≢◌, if◌then◌else◌}
use Rattle.std.specs.List.{list_any}
use Rattle.std.proofs.lemmas.Bool.Decides.{nat_tests, eqb_tells}
use Rattle.amf_broker.specs.State.{Connection, Subscription}
use Rattle.amf_broker.specs.Machine.{is_connected, at_client, queue_of, with_delivery, with_ended, spread, Spread, ended_first, is_full}
use Rattle.amf_broker.specs.Delivery.{messages_for}
use Rattle.amf_broker.proofs.Clients.{waiting, connected-at, queue_of-at, queue_of-delivery, queue_of-other, messages_for-own, waiting-other}

-- the live subscriptions of this number
abbrev pub named : ℕ → List Subscription → List Subscription
named n subs = filter (λ u. u.id == n) subs

-- whether the subscription is among those that ended
abbrev pub is_among : ℕ → List ℕ → Bool
is_among n ended = list_any (λ s. s == n) ended

-- two filters may change places
pub filter-swap : {X : Type 0} (p q : X → Bool) (xs : List X) → filter p (filter q xs) ≡ filter q (filter p xs)
filter-swap p q [] = refl
filter-swap p q (x ∷ xs) = let ih = filter-swap p q xs in grind (arith, ih)

pub waiting-ended : (n j k sub : ℕ) (cs : List Connection) → waiting n j (at_client k (with_ended sub) cs) ≡ waiting n j cs
waiting-ended n j k sub cs = ap (messages_for n) (queue_of-at j k (with_ended sub) cs (λ c. (refl, refl)))

pub connected-spread : (j number : ℕ) (message : List ℕ) (us : List Subscription) (cs : List Connection) → is_connected j (spread number message us cs).clients ≡ is_connected j cs
connected-spread j number message [] cs = refl
connected-spread j number message (u ∷ us) cs = elim (is_full u.client cs)
    as (λ full. is_connected j (if full then ended_first u.id (spread number message us (at_client u.client (with_ended u.id) cs)) else spread number message us (at_client u.client (with_delivery (record { sub = u.id; number = number; message = message })) cs)).clients ≡ is_connected j cs) [
      | true ↦ connected-spread j number message us (at_client u.client (with_ended u.id) cs) ∙ connected-at j u.client (with_ended u.id) cs (λ c. refl)
      | false ↦ connected-spread j number message us (at_client u.client (with_delivery (record { sub = u.id; number = number; message = message })) cs) ∙ connected-at j u.client (with_delivery (record { sub = u.id; number = number; message = message })) cs (λ c. refl)
    ]

-- a publish that reaches no subscription of this number leaves it as it is
pub record Untouched (n : ℕ) (cs : List Connection) (to : Spread) : Type 0 where
  pub still : is_among n to.ended ≡ false
  pub waits : (j : ℕ) → waiting n j to.clients ≡ waiting n j cs

pub spread-other : (n number : ℕ) (message : List ℕ) (us : List Subscription) (cs : List Connection) → named n us ≡ [] → Untouched n cs (spread number message us cs)
spread-other n number message [] cs none = record { still = refl; waits = λ j. refl }
spread-other n number message (u ∷ us) cs none = elim (eqb_tells u.id n) [
  | inl same ↦ cc
  | inr other ↦
      let rest : named n us ≡ [] = cc in
      elim (is_full u.client cs)
      as (λ full. Untouched n cs (if full then ended_first u.id (spread number message us (at_client u.client (with_ended u.id) cs)) else spread number message us (at_client u.client (with_delivery (record { sub = u.id; number = number; message = message })) cs))) [
        | true ↦ let ih = spread-other n number message us (at_client u.client (with_ended u.id) cs) rest in
            record { still = grind (arith, ih.still, other); waits = λ j. ih.waits j ∙ waiting-ended n j u.client u.id cs }
        | false ↦ let ih = spread-other n number message us (at_client u.client (with_delivery (record { sub = u.id; number = number; message = message })) cs) rest in
            record { still = ih.still; waits = λ j. ih.waits j ∙ waiting-other n j u.client (record { sub = u.id; number = number; message = message }) cs other.1 }
      ]
]

-- a publish that reaches the subscription either ends it or queues one delivery for it
pub record Reached (n client number : ℕ) (message : List ℕ) (cs : List Connection) (to : Spread) : Type 0 where
  pub live : is_among n to.ended ≡ false
  pub waits : waiting n client to.clients ≡ waiting n client cs ++ ((record { number = number; bytes = message }) ∷ [])
  pub others : (j : ℕ) → j ≢ client → waiting n j to.clients ≡ waiting n j cs

pub record Overflowed (n : ℕ) (cs : List Connection) (to : Spread) : Type 0 where
  pub over : is_among n to.ended ≡ true
  pub waits : (j : ℕ) → waiting n j to.clients ≡ waiting n j cs

pub spread-named : (n number : ℕ) (message : List ℕ) (us : List Subscription) (u : Subscription) (cs : List Connection)
    → u.id ≡ n → named n us ≡ u ∷ [] → is_connected u.client cs ≡ true
    → Overflowed n cs (spread number message us cs) ⊎ Reached n u.client number message cs (spread number message us cs)
spread-named n number message [] u cs own one connected = cc
spread-named n number message (v ∷ us) u cs own one connected = elim (eqb_tells v.id n) [
  | inl same ↦
      let here : v ≡ u = cc in
      let rest : named n us ≡ [] = cc in
      subst (λ (w : Subscription). Overflowed n cs (spread number message (w ∷ us) cs) ⊎ Reached n u.client number message cs (spread number message (w ∷ us) cs)) (sym here)
      (elim (is_full u.client cs)
      as (λ full. Overflowed n cs (if full then ended_first u.id (spread number message us (at_client u.client (with_ended u.id) cs)) else spread number message us (at_client u.client (with_delivery (record { sub = u.id; number = number; message = message })) cs))
      ⊎ Reached n u.client number message cs (if full then ended_first u.id (spread number message us (at_client u.client (with_ended u.id) cs)) else spread number message us (at_client u.client (with_delivery (record { sub = u.id; number = number; message = message })) cs))) [
        | true ↦ let later = spread-other n number message us (at_client u.client (with_ended u.id) cs) rest in
            inl (record { over = grind (arith, nat_tests, own); waits = λ j. later.waits j ∙ waiting-ended n j u.client u.id cs })
        | false ↦ let later = spread-other n number message us (at_client u.client (with_delivery (record { sub = u.id; number = number; message = message })) cs) rest in
            inr (record {
              live = later.still;
              waits = later.waits u.client ∙ (ap (messages_for n) (queue_of-delivery u.client (record { sub = u.id; number = number; message = message }) cs connected) ∙ messages_for-own n (record { sub = u.id; number = number; message = message }) (queue_of u.client cs) own);
              others = λ j other. later.waits j ∙ ap (messages_for n) (queue_of-other j u.client (with_delivery (record { sub = u.id; number = number; message = message })) cs other (λ c. refl));
            })
      ])
  | inr other ↦
      let rest : named n us ≡ u ∷ [] = cc in
      elim (is_full v.client cs)
      as (λ full. Overflowed n cs (if full then ended_first v.id (spread number message us (at_client v.client (with_ended v.id) cs)) else spread number message us (at_client v.client (with_delivery (record { sub = v.id; number = number; message = message })) cs))
      ⊎ Reached n u.client number message cs (if full then ended_first v.id (spread number message us (at_client v.client (with_ended v.id) cs)) else spread number message us (at_client v.client (with_delivery (record { sub = v.id; number = number; message = message })) cs))) [
        | true ↦ elim (spread-named n number message us u (at_client v.client (with_ended v.id) cs) own rest (connected-at u.client v.client (with_ended v.id) cs (λ c. refl) ∙ connected)) [
          | inl h ↦ inl (record { over = grind (arith, h.over, other); waits = λ j. h.waits j ∙ waiting-ended n j v.client v.id cs })
          | inr h ↦ inr (record {
            live = grind (arith, h.live, other);
            waits = h.waits ∙ ap (λ m. m ++ ((record { number = number; bytes = message }) ∷ [])) (waiting-ended n u.client v.client v.id cs);
            others = λ j o. h.others j o ∙ waiting-ended n j v.client v.id cs;
          })
        ]
        | false ↦ elim (spread-named n number message us u (at_client v.client (with_delivery (record { sub = v.id; number = number; message = message })) cs) own rest (connected-at u.client v.client (with_delivery (record { sub = v.id; number = number; message = message })) cs (λ c. refl) ∙ connected)) [
          | inl h ↦ inl (record { over = h.over; waits = λ j. h.waits j ∙ waiting-other n j v.client (record { sub = v.id; number = number; message = message }) cs other.1 })
          | inr h ↦ inr (record {
            live = h.live;
            waits = h.waits ∙ ap (λ m. m ++ ((record { number = number; bytes = message }) ∷ [])) (waiting-other n u.client v.client (record { sub = v.id; number = number; message = message }) cs other.1);
            others = λ j o. h.others j o ∙ waiting-other n j v.client (record { sub = v.id; number = number; message = message }) cs other.1;
          })
        ]
      ]
]
