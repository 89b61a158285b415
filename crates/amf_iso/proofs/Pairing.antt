-- A walk over two graphs meets two nodes.
use Rattle.std.proofs.Common.{◌≡◌, ℕ, zero, suc, ◌<◌, ◌≤◌, ◌⊎◌, List, [], ◌∷◌, ◌++◌, length, map, set, slice_get, Option, Some, None, sym, refl, ap, ◌∙◌, subst, inl, inr, arith}
use Rattle.std.specs.Prelude.{Bool, true, false, replicate}
use Rattle.std.specs.Bool.{Decides}
use Rattle.std.proofs.lemmas.Bool.{cases_eq}
use Rattle.std.proofs.lemmas.List.{length-set, length-replicate, get_or-replicate}
use Rattle.std.proofs.lemmas.Option.{same_Some, slice_get_within, get_or_from_slice_get}
use Rattle.amf_graph.specs.Arena.{Arena}
use Rattle.amf_graph.specs.Isomorphic.{StandIn}
use Rattle.amf_graph.proofs.Lists.{at_left, at_end, at_push}
use Rattle.amf_iso.specs.declared.walk.Walk.{Walk}
use Rattle.amf_iso.specs.Joined.{AreJoined}
use Rattle.amf_iso.specs.Walking.{met, somes, IsSound, Met, ArePartners}
use Rattle.amf_iso.proofs.Numbers.{set_at, set_elsewhere, no_number}

somes_set : (os : List (Option ℕ)) (i j : ℕ) → slice_get os i ≡ Some None → somes (set os i (Some j)) ≡ suc (somes os)
somes_set [] i j e = cc
somes_set (None ∷ os) zero j e = refl
somes_set (Some k ∷ os) zero j e = cc
somes_set (None ∷ os) (suc i) j e = somes_set os i j e
somes_set (Some k ∷ os) (suc i) j e = ap suc (somes_set os i j e)

pub somes_few : (os : List (Option ℕ)) → somes os ≤ length os
somes_few [] = omega arith
somes_few (None ∷ os) = let r = somes_few os in omega arith
somes_few (Some k ∷ os) = let r = somes_few os in omega arith

pub somes_none : (n : ℕ) → somes (replicate n None) ≡ 0
somes_none zero = refl
somes_none (suc n) = somes_none n

no_mark : (n j : ℕ) → slice_get (replicate n false) j ≡ Some true → ⊥
no_mark n j e =
    let within : j < n = subst (λ w. j < w) (length-replicate n false) (slice_get_within (replicate n false) j true e) in
    let same : false ≡ true = sym (get_or-replicate n j false false within) ∙ get_or_from_slice_get (replicate n false) j true false e in
    cc

pub nowhere : (ps : List (ℕ × ℕ)) (k : ℕ) (p : ℕ × ℕ) → ps ≡ [] → slice_get ps k ≡ Some p → ⊥
nowhere [] k p n e = cc
nowhere (q ∷ ps) k p n e = cc

pub not_some : (o : Option ℕ) → ((k : ℕ) → o ≡ Some k → ⊥) → o ≡ None
not_some None n = refl
not_some (Some k) n = absurd (n k refl)

module _ (a b : Arena) where
  -- before the first pair
  pub begun : (w : Walk) → AreJoined a b w.texts → w.pairs.items ≡ [] → w.partners.items ≡ replicate (length a.nodes) None → w.taken.items ≡ replicate (length b.nodes) false → IsSound a b w
  begun w j e p t =
      let nil : met w ≡ [] = ap (λ ps. map (λ p. (p.0.0, p.1.0)) ps) e in
      let none : (k l : ℕ) → StandIn (met w) k l → ⊥ = λ k l s. nowhere (met w) s.0 (k, l) nil s.1 in
      record {
        known = j;
        places = ap length p ∙ length-replicate (length a.nodes) None;
        marks = ap length t ∙ length-replicate (length b.nodes) false;
        few = ap length e ∙ sym (ap somes p ∙ somes_none (length a.nodes));
        partner = λ k l s. absurd (none k l s);
        paired = λ k l s. absurd (no_number (length a.nodes) l k (sym (ap (λ os. slice_get os k) p) ∙ s));
        marked = λ k l s. absurd (none k l s);
        met_by = λ l s. absurd (no_mark (length b.nodes) l (sym (ap (λ os. slice_get os l) t) ∙ s));
        right = λ k l m s r. absurd (none k m s);
      }

  -- a node that has a partner
  pub known_partner : (w : Walk) (i j p : ℕ) (r : Bool) → IsSound a b w → slice_get w.partners.items i ≡ Some (Some p) → Decides r (p ≡ j) → Met a b w w (ArePartners i j) r
  known_partner w i j p r s e d = record {
    sound = s;
    grown = λ k q f. f;
    alike = λ t. subst (λ n. StandIn (met w) i n) (d.0 t) (s.paired i p e);
    forced = λ pairs o h z. (d.1 (o.left i p j (h i p (s.paired i p e)) z), h);
  }

  -- a node without one, and one that is another's partner
  pub taken_already : (w : Walk) (i j : ℕ) → IsSound a b w → slice_get w.partners.items i ≡ Some None → slice_get w.taken.items j ≡ Some true → Met a b w w (ArePartners i j) false
  taken_already w i j s e f = record {
    sound = s;
    grown = λ k q g. g;
    alike = λ t. absurd (let no : false ≡ true = t in cc);
    forced = λ pairs o h z.
        let m = s.met_by j f in
        let same : m.0 ≡ i = o.right m.0 i j (h m.0 j m.1) z in
        let at : slice_get w.partners.items i ≡ Some (Some j) = subst (λ n. slice_get w.partners.items n ≡ Some (Some j)) same (s.partner m.0 j m.1) in
        let no : Some None ≡ Some (Some j) = sym e ∙ at in
        cc;
  }

  module _ (old new : Walk) (i j : ℕ) (s : IsSound a b old) (free : slice_get old.partners.items i ≡ Some None) (left : slice_get old.taken.items j ≡ Some false)
      (pairs : met new ≡ met old ++ (i, j) ∷ []) (long : length new.pairs.items ≡ suc (length old.pairs.items)) (partners : new.partners.items ≡ set old.partners.items i (Some j)) (taken : new.taken.items ≡ set old.taken.items j true) (texts : new.texts ≡ old.texts) where
    which : (m n : ℕ) → StandIn (met new) m n → StandIn (met old) m n ⊎ ((i ≡ m) × (j ≡ n))
    which m n t =
        elim (at_push (met old) (i, j) t.0 (m, n) (subst (λ ps. slice_get ps t.0 ≡ Some (m, n)) pairs t.1)) [
          | inl p ↦ inl (t.0, p)
          | inr p ↦ inr (ap (λ (x : ℕ × ℕ). x.0) p.1, ap (λ (x : ℕ × ℕ). x.1) p.1)
        ]

    there : StandIn (met new) i j
    there = (length (met old), subst (λ ps. slice_get ps (length (met old)) ≡ Some (i, j)) (sym pairs) (at_end (met old) (i, j)))

    stays : (k : ℕ) (p : ℕ × ℕ) → slice_get (met old) k ≡ Some p → slice_get (met new) k ≡ Some p
    stays k p e = subst (λ ps. slice_get ps k ≡ Some p) (sym pairs) (at_left (met old) ((i, j) ∷ []) k p e)

    not_i : (m n : ℕ) → StandIn (met old) m n → m ≡ i → ⊥
    not_i m n t e = let no : Some None ≡ Some (Some n) = sym free ∙ subst (λ k. slice_get old.partners.items k ≡ Some (Some n)) e (s.partner m n t) in cc

    not_j : (m n : ℕ) → StandIn (met old) m n → n ≡ j → ⊥
    not_j m n t e = let no : Some false ≡ Some true = sym left ∙ subst (λ k. slice_get old.taken.items k ≡ Some true) e (s.marked m n t) in cc

    partner_at : (m : ℕ) → slice_get new.partners.items m ≡ slice_get (set old.partners.items i (Some j)) m
    partner_at m = ap (λ os. slice_get os m) partners

    mark_at : (n : ℕ) → slice_get new.taken.items n ≡ slice_get (set old.taken.items j true) n
    mark_at n = ap (λ os. slice_get os n) taken

    partner : (m n : ℕ) → StandIn (met new) m n → slice_get new.partners.items m ≡ Some (Some n)
    partner m n t =
        elim (which m n t) [
          | inl p ↦ partner_at m ∙ set_elsewhere old.partners.items i m (Some j) (not_i m n p) ∙ s.partner m n p
          | inr p ↦ subst (λ k. slice_get new.partners.items k ≡ Some (Some n)) p.0 (partner_at i ∙ set_at old.partners.items i None (Some j) free ∙ ap (λ k. Some (Some k)) p.1)
        ]

    paired : (m n : ℕ) → slice_get new.partners.items m ≡ Some (Some n) → StandIn (met new) m n
    paired m n e =
        elim (cases_eq m i) [
          | inl p ↦
              let at : slice_get new.partners.items m ≡ Some (Some j) = subst (λ k. slice_get new.partners.items k ≡ Some (Some j)) (sym p) (partner_at i ∙ set_at old.partners.items i None (Some j) free) in
              let same : j ≡ n = same_Some j n (same_Some (Some j) (Some n) (sym at ∙ e)) in
              subst (λ k. StandIn (met new) k n) (sym p) (subst (λ k. StandIn (met new) i k) same there)
          | inr o ↦ let t = s.paired m n (sym (set_elsewhere old.partners.items i m (Some j) o) ∙ sym (partner_at m) ∙ e) in (t.0, stays t.0 (m, n) t.1)
        ]

    marked : (m n : ℕ) → StandIn (met new) m n → slice_get new.taken.items n ≡ Some true
    marked m n t =
        elim (which m n t) [
          | inl p ↦ mark_at n ∙ set_elsewhere old.taken.items j n true (not_j m n p) ∙ s.marked m n p
          | inr p ↦ subst (λ k. slice_get new.taken.items k ≡ Some true) p.1 (mark_at j ∙ set_at old.taken.items j false true left)
        ]

    met_by : (n : ℕ) → slice_get new.taken.items n ≡ Some true → (m : ℕ) × StandIn (met new) m n
    met_by n e =
        elim (cases_eq n j) [
          | inl p ↦ (i, subst (λ k. StandIn (met new) i k) (sym p) there)
          | inr o ↦ let t = s.met_by n (sym (set_elsewhere old.taken.items j n true o) ∙ sym (mark_at n) ∙ e) in (t.0, (t.1.0, stays t.1.0 (t.0, n) t.1.1))
        ]

    right : (m n k : ℕ) → StandIn (met new) m k → StandIn (met new) n k → m ≡ n
    right m n k t u =
        elim (which m k t) [
          | inl p ↦ elim (which n k u) [ inl q ↦ s.right m n k p q | inr q ↦ absurd (not_j m k p (sym q.1)) ]
          | inr p ↦ elim (which n k u) [ inl q ↦ absurd (not_j n k q (sym p.1)) | inr q ↦ sym p.0 ∙ q.0 ]
        ]

    -- two nodes without partners
    pub new_partners : Met a b old new (ArePartners i j) true
    new_partners = record {
      sound = record {
        known = subst (λ t. AreJoined a b t) (sym texts) s.known;
        places = ap length partners ∙ length-set old.partners.items i (Some j) ∙ s.places;
        marks = ap length taken ∙ length-set old.taken.items j true ∙ s.marks;
        few = long ∙ ap suc s.few ∙ sym (ap somes partners ∙ somes_set old.partners.items i j free);
        partner = partner;
        paired = paired;
        marked = marked;
        met_by = met_by;
        right = right;
      };
      grown = stays;
      alike = λ t. there;
      forced = λ list o h z. (refl, λ m n t. elim (which m n t) [ inl p ↦ h m n p | inr p ↦ subst (λ k. StandIn list k n) p.0 (subst (λ k. StandIn list i k) p.1 z) ]);
    }
