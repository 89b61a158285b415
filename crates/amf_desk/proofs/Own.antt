-- What a caller's own entries and what it has seen become by a call, a join and a close.
use Rattle.std.proofs.Common.{◌≡◌, ◌≢◌, ℕ, ◌+◌, ◌^◌, ◌≤◌, ⊎_elim, Bool, List, [], ◌∷◌, ◌++◌, length, sym, refl, ap, ◌∙◌, subst, arith, append_assoc, append-nil, length-append, eq-eqb, ne_eqb, if◌then◌else◌}
use mathlib.Core.Logic.{dite}
use native.Mathlib.Decide.{ℕ_discrete}
use Rattle.amf_broker.specs.declared.call.Call.{Call}
use Rattle.amf_broker.specs.declared.reply.Answer.{Answer}
use Rattle.amf_broker.specs.History.{Entry, then_entry}
use Rattle.amf_desk.specs.declared.closed.Closed.{Closed}
use Rattle.amf_desk.specs.Histories.{entry, NoneBy, Begins, own}
use Rattle.amf_desk.specs.Passes.{Held, Called, Looked, JoinedTo, ClosedAs}

pub own_here : (n : ℕ) (e : Entry) (es : List Entry) → e.caller ≡ n → own n (e ∷ es) ≡ e ∷ own n es
own_here n e es is = ap (λ (b : Bool). if b then (e ∷ own n es) else own n es) (eq-eqb e.caller n is)

pub own_other : (n : ℕ) (e : Entry) (es : List Entry) → e.caller ≢ n → own n (e ∷ es) ≡ own n es
own_other n e es not = ap (λ (b : Bool). if b then (e ∷ own n es) else own n es) (ne_eqb e.caller n not)

pub own-append : (n : ℕ) (xs ys : List Entry) → own n (xs ++ ys) ≡ own n xs ++ own n ys
own-append n [] ys = refl
own-append n (x ∷ xs) ys = dite (ℕ_discrete x.caller n)
    (λ is. own_here n x (xs ++ ys) is ∙ (ap (λ l. x ∷ l) (own-append n xs ys) ∙ sym (ap (λ l. l ++ own n ys) (own_here n x xs is))))
    (λ not. own_other n x (xs ++ ys) not ∙ (own-append n xs ys ∙ sym (ap (λ l. l ++ own n ys) (own_other n x xs not))))

pub own_none : (n : ℕ) (xs : List Entry) → NoneBy n xs → own n xs ≡ []
own_none n [] h = refl
own_none n (x ∷ xs) h = own_other n x xs h.0 ∙ own_none n xs h.1

pub called_own : (p q : Held) (moment : ℕ) (call : Call) (answer : Answer) → Called p moment call answer q → own p.number q.seen ≡ then_entry (own p.number p.seen) p.number moment call answer
called_own p q moment call answer h = let n : ℕ = p.number in let e : Entry = entry n moment call answer in
    ap (own n) h.seen ∙ (own-append n (p.seen ++ h.between) (e ∷ [])
    ∙ ((λ i. (own-append n p.seen h.between ∙ (ap (λ l. own n p.seen ++ l) (own_none n h.between h.others) ∙ append-nil (own n p.seen))) i ++ own_here n e [] refl i)))

pub looked_own : (p q : Held) → Looked p q → own p.number q.seen ≡ own p.number p.seen
looked_own p q h = let n : ℕ = p.number in ap (own n) h.later.1 ∙ (own-append n p.seen h.later.0 ∙ (ap (λ l. own n p.seen ++ l) (own_none n h.later.0 h.later.2) ∙ append-nil (own n p.seen)))

pub begins_self : (xs : List Entry) → Begins xs xs
begins_self xs = ([], sym (append-nil xs))

pub begins_trans : (xs ys zs : List Entry) → Begins xs ys → Begins ys zs → Begins xs zs
begins_trans xs ys zs a b = (a.0 ++ b.0, b.1 ∙ (ap (λ l. l ++ b.0) a.1 ∙ append_assoc xs a.0 b.0))

pub called_begins : (p q : Held) (moment : ℕ) (call : Call) (answer : Answer) → Called p moment call answer q → Begins p.seen q.seen
called_begins p q moment call answer h = (h.between ++ entry p.number moment call answer ∷ [], h.seen ∙ append_assoc p.seen h.between (entry p.number moment call answer ∷ []))

pub looked_begins : (p q : Held) → Looked p q → Begins p.seen q.seen
looked_begins p q h = (h.later.0, h.later.1)

pub joined_begins : (p f q : Held) → JoinedTo p f q → Begins p.seen q.seen × Begins f.seen q.seen
joined_begins p f q h = ⊎_elim
    (λ (z : Begins p.seen f.seen × (q.seen ≡ f.seen)). (subst (Begins p.seen) (sym z.1) z.0, subst (Begins f.seen) (sym z.1) (begins_self f.seen)))
    (λ (z : Begins f.seen p.seen × (q.seen ≡ p.seen)). (subst (Begins p.seen) (sym z.1) (begins_self p.seen), subst (Begins f.seen) (sym z.1) z.0)) h.seen

-- a history that goes on from another goes on from its own entries too
pub own_begins : (n : ℕ) (xs ys : List Entry) → Begins xs ys → Begins (own n xs) (own n ys)
own_begins n xs ys b = (own n b.0, ap (own n) b.1 ∙ own-append n xs b.0)

no_more : (xs : List Entry) → length xs ≤ 0 → xs ≡ []
no_more [] few = refl
no_more (x ∷ xs) few = absurd (omega arith)

-- where the closing pass has all calls that were not made, it has seen the whole history
pub closed_whole : (p : Held) (told : Closed) (c : ClosedAs p told) → length p.seen + p.budget ≡ 2 ^ 62 → c.history ≡ p.seen
closed_whole p told c whole =
    let rest : List Entry = c.later.0 in let room = c.room in
    let few : length rest ≤ 0 = omega (arith, ap length c.later.1, length-append p.seen rest) in
    c.later.1 ∙ (ap (λ l. p.seen ++ l) (no_more rest few) ∙ append-nil p.seen)
