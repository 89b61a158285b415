-- Lists of answers, of requests and of calls that grow at their end.
use Rattle.std.proofs.Common.{◌≡◌, ℕ, ◌+◌, ◌≤◌, zero, suc, false, List, [], ◌∷◌, ◌++◌, Some, refl, ◌∙◌, ap, subst, arith}
use Rattle.std.specs.Prelude.{slice_get, ◌==◌}
use Rattle.amf_broker.specs.declared.reply.Delivery.{Delivery}
use Rattle.amf_broker.specs.declared.reply.Answer.{Answer as Told}
use Rattle.amf_broker.specs.History.{Entry}
use Rattle.amf_broker.specs.Delivery.{handed_to}
use Rattle.amf_once.specs.Taking.{Said, fresh, repeated, other, says}
use Rattle.amf_once.specs.Hearing.{Below, AllSay}
use Rattle.amf_once.specs.Owners.{polls, OnlyPolls}
use Rattle.amf_once.specs.Course.{fresh_or, fresh_of}

-- each number is at most n
abbrev pub AtMost : ℕ → List ℕ → Type 0
AtMost n [] = Unit {0}
AtMost n (k ∷ ks) = (k ≤ n) × AtMost n ks

pub at_most_more : (n : ℕ) (ks : List ℕ) (k : ℕ) → AtMost n ks → k ≤ n → AtMost n (ks ++ (k ∷ []))
at_most_more n [] k all le = (le, tt)
at_most_more n (j ∷ ks) k all le = (all.0, at_most_more n ks k all.1 le)

pub at_most_suc : (n : ℕ) (ks : List ℕ) → AtMost n ks → AtMost (n + 1) ks
at_most_suc n [] all = tt
at_most_suc n (j ∷ ks) all = (let le = all.0 in omega arith, at_most_suc n ks all.1)

pub at_most_item : (n : ℕ) (ks : List ℕ) (at k : ℕ) → AtMost n ks → slice_get ks at ≡ Some k → k ≤ n
at_most_item n [] at k all e = absurd (cc)
at_most_item n (j ∷ ks) zero k all e = let same : j ≡ k = cc in subst (λ z. z ≤ n) same all.0
at_most_item n (j ∷ ks) (suc at) k all e = at_most_item n ks at k all.1 e

pub all_more : (P : Said → Type 0) (rs : List Told) (r : Told) → AllSay P rs → P (says r.reply) → AllSay P (rs ++ (r ∷ []))
all_more P [] r all p = (p, tt)
all_more P (q ∷ rs) r all p = (all.0, all_more P rs r all.1 p)

pub all_item : (P : Said → Type 0) (rs : List Told) (at : ℕ) (r : Told) → AllSay P rs → slice_get rs at ≡ Some r → P (says r.reply)
all_item P [] at r all e = absurd (cc)
all_item P (q ∷ rs) zero r all e = let same : q ≡ r = cc in subst (λ z. P (says z.reply)) same all.0
all_item P (q ∷ rs) (suc at) r all e = all_item P rs at r all.1 e

pub all_weaken : (P Q : Said → Type 0) (rs : List Told) → ((x : Said) → P x → Q x) → AllSay P rs → AllSay Q rs
all_weaken P Q [] f all = tt
all_weaken P Q (r ∷ rs) f all = (f (says r.reply) all.0, all_weaken P Q rs f all.1)

-- no fresh answer of a number that all are below
fresh_below : (n : ℕ) (x : Said) (more : List Delivery) → Below n x → fresh_or n x more ≡ more
fresh_below n (fresh k ds) more b = let ne : (k == n) ≡ false = grind arith in rw ne refl
fresh_below n (repeated k ds) more b = refl
fresh_below n other more b = refl

pub fresh_behind : (n : ℕ) (rs : List Told) (r : Told) → AllSay (Below n) rs → fresh_of n (rs ++ (r ∷ [])) ≡ fresh_or n (says r.reply) []
fresh_behind n [] r all = refl
fresh_behind n (q ∷ rs) r all = fresh_below n (says q.reply) (fresh_of n (rs ++ (r ∷ []))) all.0 ∙ fresh_behind n rs r all.1

pub none_fresh : (n : ℕ) (rs : List Told) → AllSay (Below n) rs → fresh_of n rs ≡ []
none_fresh n [] all = refl
none_fresh n (q ∷ rs) all = fresh_below n (says q.reply) (fresh_of n rs) all.0 ∙ none_fresh n rs all.1

pub fresh_stays : (n : ℕ) (rs : List Told) (r : Told) → fresh_or n (says r.reply) [] ≡ [] → fresh_of n (rs ++ (r ∷ [])) ≡ fresh_of n rs
fresh_stays n [] r e = e
fresh_stays n (q ∷ rs) r e = ap (fresh_or n (says q.reply)) (fresh_stays n rs r e)

pub others_before : (sub : ℕ) (cs : List Entry) (c : Entry) → OnlyPolls sub 1 (cs ++ (c ∷ [])) → OnlyPolls sub 1 cs
others_before sub [] c all = tt
others_before sub (d ∷ cs) c all = (all.0, others_before sub cs c all.1)

pub others_last : (sub : ℕ) (cs : List Entry) (c : Entry) → OnlyPolls sub 1 (cs ++ (c ∷ [])) → polls 1 c.call ≡ false → handed_to sub c.answer.reply ≡ []
others_last sub [] c all e = all.0 e
others_last sub (d ∷ cs) c all e = others_last sub cs c all.1 e
