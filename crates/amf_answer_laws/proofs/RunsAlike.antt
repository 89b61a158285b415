-- Matched plans, run from one supply, do the same.
use Rattle.std.proofs.Common.{◌≡◌, ℕ, ◌+◌, ◌<◌, Bool, List, [], ◌∷◌, ◌++◌, length, Option, Some, None, refl, sym, ap, ◌∙◌, subst, arith, inl, inr, append_assoc, length-append}
use Rattle.amf_broker.specs.declared.call.Call.{Call}
use Rattle.amf_graph.specs.Graph.{Graph}
use Rattle.amf_graph.specs.Isomorphic.{Isomorphic}
use Rattle.http_link.specs.Head.{IsHead}
use Rattle.amf_http.specs.Request.{IsRefused, too_long, bad_head, BeginsWithRequest}
use Rattle.amf_packet.specs.Packet.{Packet}
use Rattle.amf_packet.specs.Alike.{PacketsMatch}
use Rattle.amf_answer_plan.specs.Plan.{Spelling, lowered, whole, Cut, at_end, cut_short, turned_away, request, Plan, gives, takes_moment, takes_word, calls, spells, reads, cuts, unpacks, packs, writes}
use Rattle.amf_answer_plan.specs.Begun.{Begun}
use Rattle.amf_answer_plan.specs.RespondLaws.{IsBeginning}
use Rattle.amf_answer_plan.specs.Runs.{IsSpelling, IsWholePacket, IsUnpacked, IsStored, IsCut, Finds, Supply, Done, nothing, and_call, and_answer, Outcome, gave, ran_out, Takes, Runs}
use Rattle.amf_answer_laws.proofs.Laws.{Laws}
use Rattle.amf_answer_laws.proofs.MatchedPlans.{PlansMatch}
use Rattle.amf_answer_laws.proofs.PackedAlike.{packed_same}

-- both are there and related, or neither is
abbrev pub BothOr : {X : Type 0} → (X → X → Type 0) → Option X → Option X → Type 0
BothOr R None None = Unit {0}
BothOr R (Some x) (Some y) = R x y
BothOr R _ _ = ⊥

abbrev pub OutcomesMatch : {X Y : Type 0} → (X → Y → Type 0) → Outcome X → Outcome Y → Type 0
OutcomesMatch R (gave x s) (gave y t) = R x y × (s ≡ t)
OutcomesMatch R ran_out ran_out = Unit {0}
OutcomesMatch R _ _ = ⊥

abbrev pub Same : {X Y : Type 0} → (X → Y → Type 0) → Done → Outcome X → Done → Outcome Y → Type 0
Same R d o e r = (d ≡ e) × OutcomesMatch R o r

-- the first of one list, taken twice
pub taken_alike : {A : Type 0} (xs : List A) (out also : Type 0) (some other : A → List A → Type 0) (S : Type 0) → (out → also → S) → ((x : A) (ys : List A) → some x ys → other x ys → S) → Takes xs out some → Takes xs also other → S
taken_alike [] out also some other S f g a b = f a b
taken_alike (x ∷ xs) out also some other S f g a b = g x xs a b

-- a head has bytes
head_some : (head bytes rest : List ℕ) → IsHead head → bytes ≡ head ++ rest → 0 < length bytes
head_some head bytes rest is parts =
    let four : length head ≡ length is.ends.before + 4 = ap length is.ends.parts ∙ length-append is.ends.before (13 ∷ 10 ∷ 13 ∷ 10 ∷ []) in
    omega (arith, four, ap length parts, length-append head rest)

refused_some : (bytes : List ℕ) (status : ℕ) → IsRefused bytes status → 0 < length bytes
refused_some bytes status (too_long e long) = omega (arith, long.there)
refused_some bytes status (bad_head head rest is parts refused) = head_some head bytes rest is parts

begun_some : (bytes body : List ℕ) (close : Bool) (rest : List ℕ) → BeginsWithRequest bytes body close rest → 0 < length bytes
begun_some bytes body close rest b = head_some b.head bytes (body ++ rest) b.is_head (b.parts ∙ append_assoc b.head body rest)

no_bytes : (bytes : List ℕ) → bytes ≡ [] → 0 < length bytes → ⊥
no_bytes bytes e some = omega (arith, ap length e)

abbrev pub AreSame : Packet → Packet → Type 0
AreSame p q = PacketsMatch p q × IsWholePacket p × IsWholePacket q

pub either : {A X Y : Type 0} (Q : A → A → Type 0) (R : X → Y → Type 0) (p : Option A → Plan X) (q : Option A → Plan Y) (x y : Option A) → BothOr Q x y → PlansMatch R (p None) (q None) → ((a b : A) → Q a b → PlansMatch R (p (Some a)) (q (Some b))) → PlansMatch R (p x) (q y)
either Q R p q None None m n f = n
either Q R p q None (Some y) m n f = absurd m
either Q R p q (Some x) None m n f = absurd m
either Q R p q (Some x) (Some y) m n f = f x y m

module _ (L : Laws) where
  requests_same : (bytes body other : List ℕ) (close also : Bool) (rest more : List ℕ) → BeginsWithRequest bytes body close rest → BeginsWithRequest bytes other also more → request body close rest ≡ request other also more
  requests_same bytes body other close also rest more a b =
      let e = L.one_request bytes body other close also rest more a b in
      ap (λ x. request x close rest) e.0 ∙ ap (λ x. request other x rest) e.1 ∙ ap (λ x. request other also x) e.2

  cuts_same : (bytes : List ℕ) (c d : Cut) → IsCut bytes c → IsCut bytes d → c ≡ d
  cuts_same bytes at_end at_end a b = refl
  cuts_same bytes at_end cut_short a b = absurd (no_bytes bytes a b.0)
  cuts_same bytes at_end (turned_away n) a b = absurd (no_bytes bytes a (refused_some bytes n b))
  cuts_same bytes at_end (request body close rest) a b = absurd (no_bytes bytes a (begun_some bytes body close rest b))
  cuts_same bytes cut_short at_end a b = absurd (no_bytes bytes b a.0)
  cuts_same bytes cut_short cut_short a b = refl
  cuts_same bytes cut_short (turned_away n) a b = absurd (a.1.not_refused n b)
  cuts_same bytes cut_short (request body close rest) a b = absurd (a.1.not_whole body close rest b)
  cuts_same bytes (turned_away n) at_end a b = absurd (no_bytes bytes b (refused_some bytes n a))
  cuts_same bytes (turned_away n) cut_short a b = absurd (b.1.not_refused n a)
  cuts_same bytes (turned_away n) (turned_away k) a b = ap turned_away (L.one_status bytes n k a b)
  cuts_same bytes (turned_away n) (request body close rest) a b = absurd (L.not_both bytes body close rest n b a)
  cuts_same bytes (request body close rest) at_end a b = absurd (no_bytes bytes b (begun_some bytes body close rest a))
  cuts_same bytes (request body close rest) cut_short a b = absurd (b.1.not_whole body close rest a)
  cuts_same bytes (request body close rest) (turned_away n) a b = absurd (L.not_both bytes body close rest n a b)
  cuts_same bytes (request body close rest) (request other also more) a b = requests_same bytes body other close also rest more a b

  pub spelled_alike : (k : Spelling) (g h : Graph) → Isomorphic g h → (b : List ℕ) → IsSpelling k g b → IsSpelling k h b
  spelled_alike whole g h i b s = L.alike3 g h i b s
  spelled_alike lowered g h i b s = (s.0, s.1, L.across h g s.0 (L.back g h i) s.2, s.3, s.4)

  spelled_alone : (k : Spelling) (g : Graph) (b c : List ℕ) → IsSpelling k g b → IsSpelling k g c → b ≡ c
  spelled_alone whole g b c s t = L.alone3 g b c s t
  spelled_alone lowered g b c s t =
      let same = L.across s.0 g t.0 (L.back g s.0 s.2) t.2 in
      let low = L.lowered_alike s.0 t.0 s.1 t.1 same s.3 t.3 in
      L.alone0.bytes t.1 b c (L.alike0.bytes s.1 t.1 low b s.4) t.4

  found_same : (k : Spelling) (g h : Graph) → Isomorphic g h → (b c : Option (List ℕ)) → Finds (IsSpelling k g) b → Finds (IsSpelling k h) c → b ≡ c
  found_same k g h i None None a b = refl
  found_same k g h i None (Some c) a b = absurd (a c (spelled_alike k h g (L.back g h i) c b))
  found_same k g h i (Some b) None a c = absurd (c b (spelled_alike k g h i b a))
  found_same k g h i (Some b) (Some c) a d = ap Some (spelled_alone k h b c (spelled_alike k g h i b a) d)

  pub stored_alike : (b : List ℕ) (x y : Option Graph) → Finds (λ g. IsStored g b) x → Finds (λ g. IsStored g b) y → BothOr Isomorphic x y
  stored_alike b None None s t = tt
  stored_alike b None (Some y) s t = absurd (s y t)
  stored_alike b (Some x) None s t = absurd (t x s)
  stored_alike b (Some x) (Some y) s t = L.bytes3 x y b s.0 t.0

  pub unpacked_alike : (b : List ℕ) (x y : Option Packet) → Finds (λ p. IsUnpacked p b) x → Finds (λ p. IsUnpacked p b) y → BothOr AreSame x y
  unpacked_alike b None None s t = tt
  unpacked_alike b None (Some y) s t = absurd (s y t)
  unpacked_alike b (Some x) None s t = absurd (t x s)
  unpacked_alike b (Some x) (Some y) s t = (L.packets x y b s.0 t.0, s.1, t.1)

  at_both_ends : {X Y : Type 0} (R : X → Y → Type 0) (d e : Done) (o : Outcome X) (r : Outcome Y) (o' : Outcome X) (r' : Outcome Y) → OutcomesMatch R o' r' → (d ≡ nothing) × (o ≡ o') → (e ≡ nothing) × (r ≡ r') → Same R d o e r
  at_both_ends R d e o r o' r' m a b = (a.0 ∙ sym b.0, subst (λ x. OutcomesMatch R x r) (sym a.1) (subst (λ y. OutcomesMatch R o' y) (sym b.1) m))

  pub runs_alike : {X Y : Type 0} (R : X → Y → Type 0) (p : Plan X) (q : Plan Y) → PlansMatch R p q → (s : Supply) (d e : Done) (o : Outcome X) (r : Outcome Y) → Runs p s d o → Runs q s e r → Same R d o e r
  runs_alike R (gives x) (gives y) m s d e o r a b = at_both_ends R d e o r (gave x s) (gave y s) (m, refl) a b
  runs_alike R (takes_moment p) (takes_moment q) m s d e o r a b =
      taken_alike s.moments _ _ _ _ (Same R d o e r) (at_both_ends R d e o r ran_out ran_out tt)
      (λ x xs f g. runs_alike R (p x) (q x) (m x) (record s { moments = xs }) d e o r f g) a b
  runs_alike R (takes_word p) (takes_word q) m s d e o r a b =
      taken_alike s.words _ _ _ _ (Same R d o e r) (at_both_ends R d e o r ran_out ran_out tt)
      (λ x xs f g. runs_alike R (p x) (q x) (m x) (record s { words = xs }) d e o r f g) a b
  runs_alike R (calls n c p) (calls k c' q) m s d e o r a b =
      taken_alike s.replies _ _ _ _ (Same R d o e r) (at_both_ends R d e o r ran_out ran_out tt)
      (λ x xs f g.
      let same = runs_alike R (p x) (q x) (m.2 x) (record s { replies = xs }) f.0 g.0 o r f.1 g.1 in
      (f.2 ∙ ap (λ z. and_call z c f.0) m.0 ∙ ap (λ z. and_call k z f.0) m.1 ∙ ap (and_call k c') same.0 ∙ sym g.2, same.1)) a b
  runs_alike R (spells k g p) (spells l h q) m s d e o r a b =
      let same : a.0 ≡ b.0 = found_same l g h m.1 a.0 b.0 (subst (λ z. Finds (IsSpelling z g) a.0) m.0 a.1) b.1 in
      runs_alike R (p a.0) (q b.0) (subst (λ z. PlansMatch R (p a.0) (q z)) same (m.2 a.0)) s d e o r a.2 b.2
  runs_alike R (reads x p) (reads y q) m s d e o r a b =
      let same : BothOr Isomorphic a.0 b.0 = stored_alike y a.0 b.0 (subst (λ z. Finds (λ g. IsStored g z) a.0) m.0 a.1) b.1 in
      runs_alike R (p a.0) (q b.0) (either Isomorphic R p q a.0 b.0 same m.1 m.2) s d e o r a.2 b.2
  runs_alike R (cuts x p) (cuts y q) m s d e o r a b =
      let same : a.0 ≡ b.0 = cuts_same y a.0 b.0 (subst (λ z. IsCut z a.0) m.0 a.1) b.1 in
      runs_alike R (p a.0) (q b.0) (subst (λ z. PlansMatch R (p a.0) (q z)) same (m.1 a.0)) s d e o r a.2 b.2
  runs_alike R (unpacks x p) (unpacks y q) m s d e o r a b =
      let same : BothOr AreSame a.0 b.0 = unpacked_alike y a.0 b.0 (subst (λ z. Finds (λ p. IsUnpacked p z) a.0) m.0 a.1) b.1 in
      runs_alike R (p a.0) (q b.0) (either AreSame R p q a.0 b.0 same m.1 (λ x y w. m.2 x y w.0 w.1 w.2)) s d e o r a.2 b.2
  runs_alike R (packs x p) (packs y q) m s d e o r a b =
      let same : a.0 ≡ b.0 = packed_same L x y m.0 a.0 b.0 a.1 b.1 in
      runs_alike R (p a.0) (q b.0) (subst (λ z. PlansMatch R (p a.0) (q z)) same (m.1 a.0)) s d e o r a.2 b.2
  runs_alike R (writes x p) (writes y q) m s d e o r a b =
      let same = runs_alike R p q m.1 s a.0 b.0 o r a.1 b.1 in
      (a.2 ∙ ap (λ z. and_answer z a.0) m.0 ∙ ap (and_answer y) same.0 ∙ sym b.2, same.1)
  runs_alike R _ _ m s d e o r a b = absurd m

-- What was done of a plan is a beginning of what a matched one does.

abbrev pub Starts : Done → Done → Type 0
Starts d e = IsBeginning d.calls e.calls × IsBeginning d.answers e.answers

nothing_starts : (d e : Done) → d ≡ nothing → Starts d e
nothing_starts d e h = subst (λ z. Starts z e) (sym h) ((e.calls, refl), (e.answers, refl))

call_starts : (n k : ℕ) (c c' : Call) (before after d e : Done) → n ≡ k → c ≡ c' → Starts before after → d ≡ and_call n c before → e ≡ and_call k c' after → Starts d e
call_starts n k c c' before after d e same_moment same_call st hd he =
    let rest = st.0.0 in
    let calls : ◌≡◌ {A = List (ℕ × Call)} ((k, c') ∷ after.calls) ((n, c) ∷ (before.calls ++ rest)) =
    ap (λ (z : List (ℕ × Call)). (k, c') ∷ z) st.0.1 ∙ ap (λ (z : ℕ). (z, c') ∷ (before.calls ++ rest)) (sym same_moment) ∙ ap (λ (z : Call). (n, z) ∷ (before.calls ++ rest)) (sym same_call) in
    subst (λ z. Starts z e) (sym hd) (subst (λ z. Starts (and_call n c before) z) (sym he) ((rest, calls), st.1))

answer_starts : (x y : List ℕ) (before after d e : Done) → x ≡ y → Starts before after → d ≡ and_answer x before → e ≡ and_answer y after → Starts d e
answer_starts x y before after d e same st hd he =
    let rest = st.1.0 in
    let answers : ◌≡◌ {A = List (List ℕ)} (y ∷ after.answers) (x ∷ (before.answers ++ rest)) =
    ap (λ (z : List (List ℕ)). y ∷ z) st.1.1 ∙ ap (λ (z : List ℕ). z ∷ (before.answers ++ rest)) (sym same) in
    subst (λ z. Starts z e) (sym hd) (subst (λ z. Starts (and_answer x before) z) (sym he) (st.0, (rest, answers)))

module _ (L : Laws) where
  pub begun_alike : {X Y : Type 0} (R : X → Y → Type 0) (p : Plan X) (q : Plan Y) → PlansMatch R p q → (s : Supply) (d e : Done) (r : Outcome Y) → Begun p s d → Runs q s e r → Starts d e
  begun_alike R (gives x) (gives y) m s d e r a b = nothing_starts d e a
  begun_alike R (takes_moment p) (takes_moment q) m s d e r (inl a) b = nothing_starts d e a
  begun_alike R (takes_moment p) (takes_moment q) m s d e r (inr a) b =
      taken_alike s.moments _ _ _ _ (Starts d e) (λ z w. absurd z) (λ x xs f g. begun_alike R (p x) (q x) (m x) (record s { moments = xs }) d e r f g) a b
  begun_alike R (takes_word p) (takes_word q) m s d e r (inl a) b = nothing_starts d e a
  begun_alike R (takes_word p) (takes_word q) m s d e r (inr a) b =
      taken_alike s.words _ _ _ _ (Starts d e) (λ z w. absurd z) (λ x xs f g. begun_alike R (p x) (q x) (m x) (record s { words = xs }) d e r f g) a b
  begun_alike R (calls n c p) (calls k c' q) m s d e r (inl a) b = nothing_starts d e a
  begun_alike R (calls n c p) (calls k c' q) m s d e r (inr a) b =
      taken_alike s.replies _ _ _ _ (Starts d e) (λ z w. absurd z)
      (λ x xs f g. call_starts n k c c' f.0 g.0 d e m.0 m.1 (begun_alike R (p x) (q x) (m.2 x) (record s { replies = xs }) f.0 g.0 r f.1 g.1) f.2 g.2) a b
  begun_alike R (spells k g p) (spells l h q) m s d e r (inl a) b = nothing_starts d e a
  begun_alike R (spells k g p) (spells l h q) m s d e r (inr a) b =
      let same : a.0 ≡ b.0 = found_same L l g h m.1 a.0 b.0 (subst (λ z. Finds (IsSpelling z g) a.0) m.0 a.1) b.1 in
      begun_alike R (p a.0) (q b.0) (subst (λ z. PlansMatch R (p a.0) (q z)) same (m.2 a.0)) s d e r a.2 b.2
  begun_alike R (reads x p) (reads y q) m s d e r (inl a) b = nothing_starts d e a
  begun_alike R (reads x p) (reads y q) m s d e r (inr a) b =
      let same : BothOr Isomorphic a.0 b.0 = stored_alike L y a.0 b.0 (subst (λ z. Finds (λ g. IsStored g z) a.0) m.0 a.1) b.1 in
      begun_alike R (p a.0) (q b.0) (either Isomorphic R p q a.0 b.0 same m.1 m.2) s d e r a.2 b.2
  begun_alike R (cuts x p) (cuts y q) m s d e r (inl a) b = nothing_starts d e a
  begun_alike R (cuts x p) (cuts y q) m s d e r (inr a) b =
      let same : a.0 ≡ b.0 = cuts_same L y a.0 b.0 (subst (λ z. IsCut z a.0) m.0 a.1) b.1 in
      begun_alike R (p a.0) (q b.0) (subst (λ z. PlansMatch R (p a.0) (q z)) same (m.1 a.0)) s d e r a.2 b.2
  begun_alike R (unpacks x p) (unpacks y q) m s d e r (inl a) b = nothing_starts d e a
  begun_alike R (unpacks x p) (unpacks y q) m s d e r (inr a) b =
      let same : BothOr AreSame a.0 b.0 = unpacked_alike L y a.0 b.0 (subst (λ z. Finds (λ p. IsUnpacked p z) a.0) m.0 a.1) b.1 in
      begun_alike R (p a.0) (q b.0) (either AreSame R p q a.0 b.0 same m.1 (λ x y w. m.2 x y w.0 w.1 w.2)) s d e r a.2 b.2
  begun_alike R (packs x p) (packs y q) m s d e r (inl a) b = nothing_starts d e a
  begun_alike R (packs x p) (packs y q) m s d e r (inr a) b =
      let same : a.0 ≡ b.0 = packed_same L x y m.0 a.0 b.0 a.1 b.1 in
      begun_alike R (p a.0) (q b.0) (subst (λ z. PlansMatch R (p a.0) (q z)) same (m.1 a.0)) s d e r a.2 b.2
  begun_alike R (writes x p) (writes y q) m s d e r (inl a) b = nothing_starts d e a
  begun_alike R (writes x p) (writes y q) m s d e r (inr a) b = answer_starts x y a.0 b.0 d e m.0 (begun_alike R p q m.1 s a.0 b.0 r a.1 b.1) a.2 b.2
  begun_alike R _ _ m s d e r a b = absurd m
