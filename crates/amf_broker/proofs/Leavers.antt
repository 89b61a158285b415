-- Clients that leave one after another.
use Rattle.std.proofs.Common.{◌≡◌, ℕ, Bool, true, false, not, List, [], ◌∷◌, length, refl, sym, ◌∙◌, ap, arith, ◌⊎◌, inl, inr}
use Rattle.std.specs.Prelude.{◌==◌, ◌&&◌, ◌||◌, filter, count_by}
use Rattle.std.specs.List.{list_any}
use Rattle.std.proofs.lemmas.Bool.Decides.{nat_tests, eqb_tells}
use Rattle.std.proofs.lemmas.List.{append-nil}
use Rattle.std.proofs.lemmas.List.Sums.{length-filter}
use Rattle.amf_broker.specs.declared.topic.Topic.{Topic}
use Rattle.amf_broker.specs.declared.call.Call.TheVariants.{Disconnect}
use Rattle.amf_broker.specs.State.{Board, Connection, Subscription}
use Rattle.amf_broker.specs.Machine.{client_at, is_connected, subs_of, places_of, without, without_all, advanced, subscribers}
use Rattle.amf_broker.specs.Moments.{stays, clients_left, subs_left, is_reached}
use Rattle.amf_broker.specs.Delivery.{is_in}
use Rattle.amf_broker.proofs.Clients.{waiting}
use Rattle.amf_broker.proofs.Steps.{Done, Live, done-served, live-served, Idle, named-none, silent-gone}

-- All at once.

clients-cons : (k : ℕ) (ks : List ℕ) (cs : List Connection) → clients_left ks (filter (λ c. not (c.id == k)) cs) ≡ clients_left (k ∷ ks) cs
clients-cons k ks [] = refl
clients-cons k ks (c ∷ cs) = let ih = clients-cons k ks cs in grind (arith, nat_tests, ih)

subs-cons : (k : ℕ) (ks : List ℕ) (us : List Subscription) → subs_left ks (filter (λ u. not (u.client == k)) us) ≡ subs_left (k ∷ ks) us
subs-cons k ks [] = refl
subs-cons k ks (u ∷ us) = let ih = subs-cons k ks us in grind (arith, nat_tests, ih)

pub none-clients : (cs : List Connection) → clients_left [] cs ≡ cs
none-clients [] = refl
none-clients (c ∷ cs) = ap (λ m. c ∷ m) (none-clients cs)

pub none-subs : (us : List Subscription) → subs_left [] us ≡ us
none-subs [] = refl
none-subs (u ∷ us) = ap (λ m. u ∷ m) (none-subs us)

pub nobody-left : (ks : List ℕ) (cs : List Connection) (us : List Subscription) → ks ≡ [] → (cs ≡ clients_left ks cs) × (us ≡ subs_left ks us)
nobody-left ks cs us none = rw none (sym (none-clients cs), sym (none-subs us))

pub empty-none : (ks : List ℕ) → (length ks == 0) ≡ true → ks ≡ []
empty-none [] e = refl
empty-none (k ∷ ks) e = grind (arith, nat_tests, e)

pub without_all-is : (ks : List ℕ) (b : Board) → without_all ks b ≡ record b { clients = clients_left ks b.clients; subs = subs_left ks b.subs }
without_all-is [] b = rw (none-clients b.clients, none-subs b.subs) refl
without_all-is (k ∷ ks) b = without_all-is ks (without k b) ∙ rw (clients-cons k ks b.clients, subs-cons k ks b.subs) refl

-- one client leaves
pub one-left : (k : ℕ) (b : Board) → record b { clients = clients_left (k ∷ []) b.clients; subs = subs_left (k ∷ []) b.subs } ≡ without k b
one-left k b = sym (without_all-is (k ∷ []) b)

pub advanced-is : (m : ℕ) (ks : List ℕ) (b : Board) → advanced m ks b ≡ record b { moment = m; clients = clients_left ks b.clients; subs = subs_left ks b.subs }
advanced-is m ks b = without_all-is ks (record b { moment = m })

-- What is left of one client.

pub connected-left : (j : ℕ) (ks : List ℕ) (cs : List Connection) → is_connected j (clients_left ks cs) ≡ (stays ks j && is_connected j cs)
connected-left j ks [] = grind (arith, nat_tests)
connected-left j ks (c ∷ cs) = let ih = connected-left j ks cs in grind (arith, nat_tests, ih)

pub stays-connected : (j : ℕ) (ks : List ℕ) (cs : List Connection) → is_connected j (clients_left ks cs) ≡ true → stays ks j ≡ true
stays-connected j ks cs here = both (stays ks j) (is_connected j cs) (sym (connected-left j ks cs) ∙ here)
  where
    both : (a b : Bool) → (a && b) ≡ true → a ≡ true
    both true b e = refl
    both false b e = e

pub client-left : (j : ℕ) (ks : List ℕ) (cs : List Connection) → stays ks j ≡ true → client_at j (clients_left ks cs) ≡ client_at j cs
client-left j ks [] stay = refl
client-left j ks (c ∷ cs) stay =
    let ih = client-left j ks cs stay in
    elim (eqb_tells c.id j) [
      | inl same ↦ let here : stays ks c.id ≡ true = rw same.1 stay in grind (arith, nat_tests, ih, here)
      | inr other ↦ let there = other.0 in grind (arith, nat_tests, ih, there)
    ]

-- what is true of one subscription of a client that stays is true of it afterwards
pub subs-left : (j : ℕ) (ks : List ℕ) (us : List Subscription) → stays ks j ≡ true → subs_of j (subs_left ks us) ≡ subs_of j us
subs-left j ks [] stay = refl
subs-left j ks (u ∷ us) stay =
    let ih = subs-left j ks us stay in
    elim (eqb_tells u.client j) [
      | inl same ↦ let here : stays ks u.client ≡ true = rw same.1 stay in grind (arith, nat_tests, ih, here)
      | inr other ↦ let there = other.0 in grind (arith, nat_tests, ih, there)
    ]

pub any-left : (j sub : ℕ) (ks : List ℕ) (us : List Subscription) → stays ks j ≡ true → list_any (λ u. u.id == sub && u.client == j) (subs_left ks us) ≡ list_any (λ u. u.id == sub && u.client == j) us
any-left j sub ks [] stay = refl
any-left j sub ks (u ∷ us) stay =
    let ih = any-left j sub ks us stay in
    elim (eqb_tells u.client j) [
      | inl same ↦ let here : stays ks u.client ≡ true = rw same.1 stay in grind (arith, nat_tests, ih, here)
      | inr other ↦ let there = other.0 in grind (arith, nat_tests, ih, there)
    ]

pub reached-is : (ks : List ℕ) (t : Topic) (us : List Subscription) → filter (is_reached ks t) us ≡ subscribers t (subs_left ks us)
reached-is ks t [] = refl
reached-is ks t (u ∷ us) = let ih = reached-is ks t us in grind (arith, ih)

pub length-left : (ks : List ℕ) (cs : List Connection) → count_by (λ c. stays ks c.id) cs ≡ length (clients_left ks cs)
length-left ks cs = sym (length-filter (λ (c : Connection). stays ks c.id) cs)

pub places-left : (j m : ℕ) (ks : List ℕ) (b : Board) → is_connected j (advanced m ks b).clients ≡ true → places_of j (advanced m ks b) ≡ places_of j b
places-left j m ks b here =
    let at = rw (advanced-is m ks b) at here in
    let stay = stays-connected j ks b.clients at in
    rw (advanced-is m ks b, subs-left j ks b.subs stay, client-left j ks b.clients stay) refl

-- The subscription of a client, over those that leave.

-- it stays as it is, or its client is among those that leave
pub record Left (n k : ℕ) (ks : List ℕ) (b t : Board) : Type 0 where
  pub among : is_in k ks ≡ true
  pub done : Done n k t
  pub waits : waiting n k t.clients ≡ []

pub record Stayed (P : Board → Type 0) (n k : ℕ) (ks : List ℕ) (b t : Board) : Type 0 where
  pub apart : is_in k ks ≡ false
  pub is : P t
  pub waits : waiting n k t.clients ≡ waiting n k b.clients

pub done-leave : (n k : ℕ) (ks : List ℕ) (b : Board) → Done n k b → Stayed (Done n k) n k ks b (without_all ks b) ⊎ Left n k ks b (without_all ks b)
done-leave n k [] b d = inl (record { apart = refl; is = d; waits = refl })
done-leave n k (j ∷ ks) b d = elim (done-served n k b (Disconnect j) d) [
  | inl stay ↦ elim (done-leave n k ks (without j b) stay.done) [
    | inl more ↦ inl (record { apart = ap (λ x. x || is_in k ks) stay.left ∙ more.apart; is = more.is; waits = more.waits ∙ stay.moves })
    | inr more ↦ inr (record { among = ap (λ x. x || is_in k ks) stay.left ∙ more.among; done = more.done; waits = more.waits })
  ]
  | inr part ↦
      let all : is_in k (j ∷ ks) ≡ true = ap (λ x. x || is_in k ks) part.left in
      elim (done-leave n k ks (without j b) part.done) [
        | inl more ↦ inr (record { among = all; done = more.is; waits = more.waits ∙ part.waits })
        | inr more ↦ inr (record { among = all; done = more.done; waits = more.waits })
      ]
]

pub live-leave : (n k : ℕ) (t : Topic) (ks : List ℕ) (b : Board) → Live n k t b → Stayed (Live n k t) n k ks b (without_all ks b) ⊎ Left n k ks b (without_all ks b)
live-leave n k t [] b l = inl (record { apart = refl; is = l; waits = refl })
live-leave n k t (j ∷ ks) b l = elim (live-served n k t b (Disconnect j) l) [
  | inl goes ↦ elim (live-leave n k t ks (without j b) goes.live) [
    | inl more ↦ inl (record { apart = ap (λ x. x || is_in k ks) goes.left ∙ more.apart; is = more.is; waits = more.waits ∙ (goes.moves ∙ append-nil (waiting n k b.clients)) })
    | inr more ↦ inr (record { among = ap (λ x. x || is_in k ks) goes.left ∙ more.among; done = more.done; waits = more.waits })
  ]
  | inr end ↦ elim end.1 [
    | inl stay ↦ let never : true ≡ false = sym end.0 ∙ stay.left in absurd (cc)
    | inr part ↦
        let all : is_in k (j ∷ ks) ≡ true = ap (λ x. x || is_in k ks) part.left in
        elim (done-leave n k ks (without j b) part.done) [
          | inl more ↦ inr (record { among = all; done = more.is; waits = more.waits ∙ part.waits })
          | inr more ↦ inr (record { among = all; done = more.done; waits = more.waits })
        ]
  ]
]

pub idle-leave : (n : ℕ) (P : ℕ → Type 0) (ks : List ℕ) (b : Board) → Idle n P b.clients b.subs → Idle n P (without_all ks b).clients (without_all ks b).subs
idle-leave n P [] b i = i
idle-leave n P (j ∷ ks) b i = idle-leave n P ks (without j b) (record { none = named-none n _ b.subs i.none; quiet = λ i' p. silent-gone n i' j b.clients (i.quiet i' p) })

pub next-leave : (ks : List ℕ) (b : Board) → (without_all ks b).next_sub ≡ b.next_sub
next-leave [] b = refl
next-leave (k ∷ ks) b = next-leave ks (without k b)

pub destinations-leave : (ks : List ℕ) (b : Board) → (without_all ks b).destinations ≡ b.destinations
destinations-leave [] b = refl
destinations-leave (k ∷ ks) b = destinations-leave ks (without k b)
