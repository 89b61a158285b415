-- Histories one entry longer, and beginnings of one history.
use Rattle.std.proofs.Common.{◌≡◌, ◌≢◌, ℕ, ◌+◌, ◌-◌, ◌<◌, ◌≤◌, ◌^◌, min, List, [], ◌∷◌, ◌++◌, length, sym, ap, refl, subst, ◌∙◌, arith, append_assoc, append-nil, length-append}
use Rattle.std.proofs.lemmas.List.Sums.{sum_by_push, sum_by-cons}
use Rattle.amf_broker.specs.State.{State, first}
use Rattle.amf_broker.specs.Machine.{after, answer_to}
use Rattle.amf_broker.specs.declared.call.Call.{Call}
use Rattle.amf_broker.specs.declared.reply.Answer.{Answer}
use Rattle.amf_broker.specs.declared.reply.Reply.{Reply}
use Rattle.amf_broker.specs.declared.reply.Reply.TheVariants.{Published}
use Rattle.amf_broker.specs.History.{Entry, state_after, IsAnsweredFrom, IsLegal, Leaves, then_entry}
use Rattle.amf_broker.proofs.Law.{state_after-append, answered-append, answered-parts, counts, destinations-after, delivered}
use Rattle.amf_desk.specs.Histories.{entry, state_of, NoneBy, AllBelow, publishes, published_in, hands_out, delivered_in, counted_after, Later, Begins}
use Rattle.amf_desk.specs.Passes.{Explains}

pub state-snoc : (s : State) (xs : List Entry) (e : Entry) → state_after s (xs ++ e ∷ []) ≡ after (state_after s xs) e.moment e.call
state-snoc s xs e = state_after-append s xs (e ∷ [])

pub legal-snoc : (s : State) (xs : List Entry) (e : Entry) → IsAnsweredFrom s xs → e.answer ≡ answer_to (state_after s xs) e.moment e.call → IsAnsweredFrom s (xs ++ e ∷ [])
legal-snoc s xs e h p = answered-append s xs (e ∷ []) h (p, tt)

state_after-calls : (s : State) (xs : List Entry) → (state_after s xs).calls ≡ s.calls + length xs
state_after-calls s [] = omega arith
state_after-calls s (x ∷ xs) = let r = state_after-calls (after s x.moment x.call) xs in let c = counts s x.moment x.call in omega arith

-- the broker has answered as many calls as the history has entries
pub state_calls : (destinations : List (List ℕ)) (log : List Entry) → (state_of destinations log).calls ≡ length log
unfolding first
state_calls destinations log = let n = state_after-calls (first destinations) log in omega arith

state_after-destinations : (s : State) (xs : List Entry) → (state_after s xs).board.destinations ≡ s.board.destinations
state_after-destinations s [] = refl
state_after-destinations s (x ∷ xs) = state_after-destinations (after s x.moment x.call) xs ∙ destinations-after s x.moment x.call

first-destinations : (destinations : List (List ℕ)) → (first destinations).board.destinations ≡ destinations
unfolding first
first-destinations destinations = refl

leaves : (destinations : List (List ℕ)) (log : List Entry) → IsLegal destinations log → Leaves log (state_of destinations log)
leaves destinations log legal =
    let same : (state_of destinations log).board.destinations ≡ destinations = state_after-destinations (first destinations) log ∙ first-destinations destinations in record {
      legal = subst (λ (names : List (List ℕ)). IsLegal names log) (sym same) legal;
      state = ap (λ (names : List (List ℕ)). state_of names log) same;
    }

-- over a legal history each subscription got what was due to it
pub explained : (destinations : List (List ℕ)) (log : List Entry) → IsLegal destinations log → Explains destinations log
explained destinations log legal = record { legal = legal; delivered = delivered log (state_of destinations log) (leaves destinations log legal) }

published-snoc : (xs : List Entry) (e : Entry) → published_in (xs ++ e ∷ []) ≡ published_in xs + publishes e.answer.reply
published-snoc xs e = sum_by_push (λ (x : Entry). publishes x.answer.reply) xs e

delivered-snoc : (xs : List Entry) (e : Entry) → delivered_in (xs ++ e ∷ []) ≡ delivered_in xs + hands_out e.answer.reply
delivered-snoc xs e = sum_by_push (λ (x : Entry). hands_out x.answer.reply) xs e

one_published : (reply : Reply) → publishes reply ≤ 1
one_published (Published number ended) = omega arith
one_published _ = omega arith

-- no more messages are published than calls are answered
pub published_few : (xs : List Entry) → published_in xs ≤ length xs
published_few [] = omega arith
published_few (x ∷ xs) = let r = published_few xs in let one = one_published x.answer.reply in omega (arith, sum_by-cons (λ (e : Entry). publishes e.answer.reply) x xs)

pub below-snoc : (n : ℕ) (xs : List Entry) (e : Entry) → AllBelow n xs → e.caller < n → AllBelow n (xs ++ e ∷ [])
below-snoc n [] e h p = (p, tt)
below-snoc n (x ∷ xs) e h p = (h.0, below-snoc n xs e h.1 p)

pub below_wider : (n m : ℕ) (xs : List Entry) → n ≤ m → AllBelow n xs → AllBelow m xs
below_wider n m [] le h = tt
below_wider n m (x ∷ xs) le h = let a = h.0 in (omega arith, below_wider n m xs le h.1)

pub none_above : (n k : ℕ) (xs : List Entry) → n ≤ k → AllBelow n xs → NoneBy k xs
none_above n k [] le h = tt
none_above n k (x ∷ xs) le h = let a = h.0 in (omega arith, none_above n k xs le h.1)

none-snoc : (n : ℕ) (xs : List Entry) (e : Entry) → NoneBy n xs → e.caller ≢ n → NoneBy n (xs ++ e ∷ [])
none-snoc n [] e h p = (p, tt)
none-snoc n (x ∷ xs) e h p = (h.0, none-snoc n xs e h.1 p)

pub none-append : (n : ℕ) (xs ys : List Entry) → NoneBy n xs → NoneBy n ys → NoneBy n (xs ++ ys)
none-append n [] ys h p = p
none-append n (x ∷ xs) ys h p = (h.0, none-append n xs ys h.1 p)

none_back : (n : ℕ) (xs ys : List Entry) → NoneBy n (xs ++ ys) → NoneBy n ys
none_back n [] ys h = h
none_back n (x ∷ xs) ys h = none_back n xs ys h.1

pub later_self : (n : ℕ) (xs : List Entry) → Later n xs xs
later_self n xs = ([], sym (append-nil xs), tt)

pub later-snoc : (n : ℕ) (xs zs : List Entry) (e : Entry) → e.caller ≢ n → Later n xs zs → Later n xs (zs ++ e ∷ [])
later-snoc n xs zs e other l = (l.0 ++ e ∷ [], ap (λ ys. ys ++ e ∷ []) l.1 ∙ append_assoc xs l.0 (e ∷ []), none-snoc n l.0 e l.2 other)

pub begins-snoc : (xs zs : List Entry) (e : Entry) → Begins xs zs → Begins xs (zs ++ e ∷ [])
begins-snoc xs zs e b = (b.0 ++ e ∷ [], ap (λ ys. ys ++ e ∷ []) b.1 ∙ append_assoc xs b.0 (e ∷ []))

-- of two beginnings of one history the shorter begins the longer
begins_longer : (xs ys r q : List Entry) → xs ++ r ≡ ys ++ q → length xs ≤ length ys → Begins xs ys
begins_longer [] ys r q e le = (ys, refl)
begins_longer (x ∷ xs) [] r q e le = absurd (omega arith)
begins_longer (x ∷ xs) (y ∷ ys) r q e le = let t : xs ++ r ≡ ys ++ q = cc in let h : x ≡ y = cc in let b = begins_longer xs ys r q t (omega arith) in (b.0, λ k. sym h k ∷ b.1 k)

-- and what follows the longer follows the shorter
none_longer : (n : ℕ) (xs ys r q : List Entry) → xs ++ r ≡ ys ++ q → length xs ≤ length ys → NoneBy n r → NoneBy n q
none_longer n [] ys r q e le h = none_back n ys q (subst (NoneBy n) e h)
none_longer n (x ∷ xs) [] r q e le h = absurd (omega arith)
none_longer n (x ∷ xs) (y ∷ ys) r q e le h = let t : xs ++ r ≡ ys ++ q = cc in none_longer n xs ys r q t (omega arith) h

pub begins_both : (xs ys log : List Entry) → Begins xs log → Begins ys log → length xs ≤ length ys → Begins xs ys
begins_both xs ys log a b le = begins_longer xs ys a.0 b.0 (sym a.1 ∙ b.1) le

pub later_further : (n : ℕ) (xs ys log : List Entry) → Later n xs log → Begins ys log → length xs ≤ length ys → Later n ys log
later_further n xs ys log a b le = (b.0, b.1, none_longer n xs ys a.0 b.0 (sym a.1 ∙ b.1) le a.2)

pub later_trans : (n : ℕ) (xs ys zs : List Entry) → Later n xs ys → Later n ys zs → Later n xs zs
later_trans n xs ys zs a b = (a.0 ++ b.0, b.1 ∙ (ap (λ l. l ++ b.0) a.1 ∙ append_assoc xs a.0 b.0), none-append n a.0 b.0 a.2 b.2)

pub legal_begins : (s : State) (xs zs : List Entry) → Begins xs zs → IsAnsweredFrom s zs → IsAnsweredFrom s xs
legal_begins s xs zs b h = (answered-parts s xs b.0 (subst (IsAnsweredFrom s) b.1 h)).0

below_back : (n : ℕ) (xs ys : List Entry) → AllBelow n (xs ++ ys) → AllBelow n xs
below_back n [] ys h = tt
below_back n (x ∷ xs) ys h = (h.0, below_back n xs ys h.1)

pub below_begins : (n : ℕ) (xs zs : List Entry) → Begins xs zs → AllBelow n zs → AllBelow n xs
below_begins n xs zs b h = below_back n xs b.0 (subst (AllBelow n) b.1 h)

pub below_rest : (n : ℕ) (xs ys : List Entry) → AllBelow n (xs ++ ys) → AllBelow n ys
below_rest n [] ys h = h
below_rest n (x ∷ xs) ys h = below_rest n xs ys h.1

pub begins_length : (xs zs : List Entry) → Begins xs zs → length xs ≤ length zs
begins_length xs zs b = omega (arith, ap length b.1, length-append xs b.0)

-- the broker and its counts after one more entry
pub counted_next : (destinations : List (List ℕ)) (log : List Entry) (by moment : ℕ) (call : Call) (answer : Answer) (s : State) (n m : ℕ) → answer ≡ answer_to (state_of destinations log) moment call
    → s ≡ after (state_of destinations log) moment call → n ≡ min (min (published_in log) (2 ^ 64 - 1) + publishes answer.reply) (2 ^ 64 - 1) → m ≡ min (min (delivered_in log) (2 ^ 64 - 1) + hands_out answer.reply) (2 ^ 64 - 1)
    → record { broker = s; published = n; delivered = m } ≡ counted_after destinations (then_entry log by moment call answer)
counted_next destinations log by moment call answer s n m is s_is n_is m_is =
    let e : Entry = entry by moment call answer in let p = published-snoc log e in let d = delivered-snoc log e in
    let s' : s ≡ state_of destinations (log ++ e ∷ []) = s_is ∙ sym (state-snoc (first destinations) log e) in
    let n' : n ≡ min (published_in (log ++ e ∷ [])) (2 ^ 64 - 1) = omega arith in
    let m' : m ≡ min (delivered_in (log ++ e ∷ [])) (2 ^ 64 - 1) = omega arith in
    (λ i. record { broker = s' i; published = n' i; delivered = m' i })
