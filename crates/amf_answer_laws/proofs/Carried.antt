-- What comes of a plan comes of each that is matched with it, and so does what was begun.
use Rattle.std.proofs.Common.{◌≡◌, ℕ, List, [], ◌∷◌, Option, Some, None, refl, sym, ap, ◌∙◌, subst, inl, inr}
use Rattle.amf_graph.specs.Graph.{Graph}
use Rattle.amf_graph.specs.Isomorphic.{Isomorphic}
use Rattle.amf_packet.specs.Packet.{Packet}
use Rattle.amf_broker.specs.declared.call.Call.{Call}
use Rattle.amf_packet.specs.Alike.{PacketsMatch}
use Rattle.amf_answer_plan.specs.Begun.{Begun}
use Rattle.amf_answer_plan.specs.Plan.{Spelling, Plan, gives, takes_moment, takes_word, calls, spells, reads, cuts, unpacks, packs, writes}
use Rattle.amf_answer_plan.specs.Runs.{IsSpelling, IsUnpacked, IsPacked, IsStored, IsCut, Finds, Supply, Done, nothing, and_call, and_answer, Outcome, gave, ran_out, Takes, Runs}
use Rattle.amf_answer_plan.proofs.Composed.{taken_as}
use Rattle.amf_answer_laws.proofs.Laws.{Laws}
use Rattle.amf_answer_laws.proofs.MatchedPlans.{PlansMatch}
use Rattle.amf_answer_laws.proofs.PackedAlike.{packets_back, packets_across}
use Rattle.amf_answer_laws.proofs.RunsAlike.{AreSame, OutcomesMatch, either, spelled_alike, stored_alike, unpacked_alike}

-- the first is taken of the same list, and something is made of it
taken_over : {A Z : Type 0} (xs : List A) (out : Type 0) (some : A → List A → Type 0) (also Q : Z → Type 0) (other : Z → A → List A → Type 0)
    → (out → (z : Z) × also z × Q z) → ((x : A) (ys : List A) → some x ys → (z : Z) × other z x ys × Q z)
    → Takes xs out some → (z : Z) × Takes xs (also z) (other z) × Q z
taken_over [] out some also Q other f g a = f a
taken_over (x ∷ xs) out some also Q other f g a = g x xs a

same_call : (n k : ℕ) (c e : Call) (later d : Done) → n ≡ k → c ≡ e → d ≡ and_call n c later → d ≡ and_call k e later
same_call n k c e later d i j h = h ∙ ap (λ z. and_call z c later) i ∙ ap (λ z. and_call k z later) j

-- what a plan comes to, and what matches it
abbrev Comes : {X Y : Type 0} → (X → Y → Type 0) → Plan Y → Supply → Done → Outcome X → Type 0
Comes {X} {Y} R q s d o = (r : Outcome Y) × Runs q s d r × OutcomesMatch R o r

at_end : {X Y : Type 0} (R : X → Y → Type 0) (d : Done) (o : Outcome X) → (d ≡ nothing) × (o ≡ ran_out) → (r : Outcome Y) × ((d ≡ nothing) × (r ≡ ran_out)) × OutcomesMatch R o r
at_end R d o a = (ran_out, (a.0, refl), subst (λ z. OutcomesMatch R z ran_out) (sym a.1) tt)

module _ (L : Laws) where
  found_over : (k l : Spelling) (g h : Graph) → k ≡ l → Isomorphic g h → (b : Option (List ℕ)) → Finds (IsSpelling k g) b → Finds (IsSpelling l h) b
  found_over k l g h e i None f = λ x s. f x (subst (λ z. IsSpelling z g x) (sym e) (spelled_alike L l h g (L.back g h i) x s))
  found_over k l g h e i (Some b) f = subst (λ z. IsSpelling z h b) e (spelled_alike L k g h i b f)

  packed_over : (x y : Packet) → PacketsMatch x y → (b : List ℕ) → IsPacked x b → IsPacked y b
  packed_over x y m b (same, match, spelled) = (same, packets_across L y x same (packets_back L x y m) match, spelled)

  pub runs_over : {X Y : Type 0} (R : X → Y → Type 0) (p : Plan X) (q : Plan Y) → PlansMatch R p q → (s : Supply) (d : Done) (o : Outcome X) → Runs p s d o → Comes R q s d o
  runs_over R (gives x) (gives y) m s d o a = (gave y s, (a.0, refl), subst (λ z. OutcomesMatch R z (gave y s)) (sym a.1) (m, refl))
  runs_over R (takes_moment p) (takes_moment q) m s d o a =
      taken_over s.moments _ _ _ _ _ (at_end R d o) (λ x xs z. runs_over R (p x) (q x) (m x) (record s { moments = xs }) d o z) a
  runs_over R (takes_word p) (takes_word q) m s d o a =
      taken_over s.words _ _ _ _ _ (at_end R d o) (λ x xs z. runs_over R (p x) (q x) (m x) (record s { words = xs }) d o z) a
  runs_over R (calls n c p) (calls k e q) m s d o a =
      taken_over s.replies _ _ _ _ _ (at_end R d o)
      (λ x xs z. let r = runs_over R (p x) (q x) (m.2 x) (record s { replies = xs }) z.0 o z.1 in (r.0, (z.0, r.1, same_call n k c e z.0 d m.0 m.1 z.2), r.2)) a
  runs_over R (spells k g p) (spells l h q) m s d o a =
      let r = runs_over R (p a.0) (q a.0) (m.2 a.0) s d o a.2 in
      (r.0, (a.0, found_over k l g h m.0 m.1 a.0 a.1, r.1), r.2)
  runs_over R (reads x p) (reads y q) m s d o a =
      let r = runs_over R (p a.0) (q a.0) (either Isomorphic R p q a.0 a.0 (stored_alike L x a.0 a.0 a.1 a.1) m.1 m.2) s d o a.2 in
      (r.0, (a.0, subst (λ z. Finds (λ g. IsStored g z) a.0) m.0 a.1, r.1), r.2)
  runs_over R (cuts x p) (cuts y q) m s d o a =
      let r = runs_over R (p a.0) (q a.0) (m.1 a.0) s d o a.2 in
      (r.0, (a.0, subst (λ z. IsCut z a.0) m.0 a.1, r.1), r.2)
  runs_over R (unpacks x p) (unpacks y q) m s d o a =
      let r = runs_over R (p a.0) (q a.0) (either AreSame R p q a.0 a.0 (unpacked_alike L x a.0 a.0 a.1 a.1) m.1 (λ g h w. m.2 g h w.0 w.1 w.2)) s d o a.2 in
      (r.0, (a.0, subst (λ z. Finds (λ g. IsUnpacked g z) a.0) m.0 a.1, r.1), r.2)
  runs_over R (packs x p) (packs y q) m s d o a =
      let r = runs_over R (p a.0) (q a.0) (m.1 a.0) s d o a.2 in
      (r.0, (a.0, packed_over x y m.0 a.0 a.1, r.1), r.2)
  runs_over R (writes x p) (writes y q) m s d o a =
      let r = runs_over R p q m.1 s a.0 o a.1 in
      (r.0, (a.0, r.1, a.2 ∙ ap (λ z. and_answer z a.0) m.0), r.2)
  runs_over R _ _ m s d o a = absurd m

  pub begun_over : {X Y : Type 0} (R : X → Y → Type 0) (p : Plan X) (q : Plan Y) → PlansMatch R p q → (s : Supply) (d : Done) → Begun p s d → Begun q s d
  begun_over R (gives x) (gives y) m s d a = a
  begun_over R (takes_moment p) (takes_moment q) m s d (inl a) = inl a
  begun_over R (takes_moment p) (takes_moment q) m s d (inr a) = inr (taken_as s.moments _ _ _ _ (λ z. z) (λ x xs z. begun_over R (p x) (q x) (m x) (record s { moments = xs }) d z) a)
  begun_over R (takes_word p) (takes_word q) m s d (inl a) = inl a
  begun_over R (takes_word p) (takes_word q) m s d (inr a) = inr (taken_as s.words _ _ _ _ (λ z. z) (λ x xs z. begun_over R (p x) (q x) (m x) (record s { words = xs }) d z) a)
  begun_over R (calls n c p) (calls k e q) m s d (inl a) = inl a
  begun_over R (calls n c p) (calls k e q) m s d (inr a) =
      inr (taken_as s.replies _ _ _ _ (λ z. z) (λ x xs z. (z.0, begun_over R (p x) (q x) (m.2 x) (record s { replies = xs }) z.0 z.1, same_call n k c e z.0 d m.0 m.1 z.2)) a)
  begun_over R (spells k g p) (spells l h q) m s d (inl a) = inl a
  begun_over R (spells k g p) (spells l h q) m s d (inr a) = inr (a.0, found_over k l g h m.0 m.1 a.0 a.1, begun_over R (p a.0) (q a.0) (m.2 a.0) s d a.2)
  begun_over R (reads x p) (reads y q) m s d (inl a) = inl a
  begun_over R (reads x p) (reads y q) m s d (inr a) =
      inr (a.0, subst (λ z. Finds (λ g. IsStored g z) a.0) m.0 a.1, begun_over R (p a.0) (q a.0) (either Isomorphic R p q a.0 a.0 (stored_alike L x a.0 a.0 a.1 a.1) m.1 m.2) s d a.2)
  begun_over R (cuts x p) (cuts y q) m s d (inl a) = inl a
  begun_over R (cuts x p) (cuts y q) m s d (inr a) = inr (a.0, subst (λ z. IsCut z a.0) m.0 a.1, begun_over R (p a.0) (q a.0) (m.1 a.0) s d a.2)
  begun_over R (unpacks x p) (unpacks y q) m s d (inl a) = inl a
  begun_over R (unpacks x p) (unpacks y q) m s d (inr a) =
      inr (a.0, subst (λ z. Finds (λ g. IsUnpacked g z) a.0) m.0 a.1, begun_over R (p a.0) (q a.0) (either AreSame R p q a.0 a.0 (unpacked_alike L x a.0 a.0 a.1 a.1) m.1 (λ g h w. m.2 g h w.0 w.1 w.2)) s d a.2)
  begun_over R (packs x p) (packs y q) m s d (inl a) = inl a
  begun_over R (packs x p) (packs y q) m s d (inr a) = inr (a.0, packed_over x y m.0 a.0 a.1, begun_over R (p a.0) (q a.0) (m.1 a.0) s d a.2)
  begun_over R (writes x p) (writes y q) m s d (inl a) = inl a
  begun_over R (writes x p) (writes y q) m s d (inr a) = inr (a.0, begun_over R p q m.1 s a.0 a.1, a.2 ∙ ap (λ z. and_answer z a.0) m.0)
  begun_over R _ _ m s d a = absurd m
