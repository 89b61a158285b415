-- Bytes behind bytes: the pairs of a file, one after the other.
use Rattle.std.proofs.Common.{◌≡◌, ℕ, List, [], ◌∷◌, ◌++◌, refl, sym, ap, ◌∙◌, subst, append_assoc, append-nil}
use Rattle.amf_io.specs.Field.{Field, flat}
use Rattle.amf_io.proofs.Paths.{flat-append}
use Rattle.amf_graph.specs.Graph.{Value}
use Rattle.amf3_spelling.specs.Then.{Then}
use Rattle.amf_sol.specs.SharedObject.{PairsBy}
use Rattle.amf_sol.specs.FileParts.{AppendsBy, Pair}

-- one spelling and then another
pub then_appends : {S : Type 0} (A B : S → List Field → S → Type 0) (t u v : S) (a b c : List ℕ) → AppendsBy A t u a b → AppendsBy B u v b c → AppendsBy (Then A B) t v a c
then_appends A B t u v a b c (fs, p, e) (gs, q, f) = (
  fs ++ gs,
  record { front = fs; back = gs; mid = u; joined = refl; first = p; second = q },
  f ∙ ap (λ w. w ++ flat gs) e ∙ append_assoc a (flat fs) (flat gs) ∙ ap (λ w. a ++ w) (sym (flat-append fs gs)),
)

module _ {S : Type 0} (N : List ℕ → S → List Field → S → Type 0) (R : Value → S → List Field → S → Type 0) where
  -- a pair behind pairs
  pairs_push : (ps : List (List ℕ × Value)) (x : List ℕ) (v : Value) (t u t' : S) (fs gs : List Field) → PairsBy N R ps t fs u → Pair (N x) (R v) u gs t' → PairsBy N R (ps ++ (x, v) ∷ []) t (fs ++ gs) t'
  pairs_push [] x v t u t' fs gs (e, same) z =
      let y = z.second in
      record {
        front = z.front;
        back = z.back;
        mid = z.mid;
        joined = ap (λ w. w ++ gs) e ∙ z.joined;
        first = subst (λ w. N x w z.front z.mid) same z.first;
        second = record {
          front = y.front;
          back = y.back;
          mid = y.mid;
          joined = y.joined;
          first = y.first;
          second = record { front = y.back; back = []; mid = t'; joined = sym (append-nil y.back); first = y.second; second = (refl, refl) };
        };
      }
  pairs_push (p ∷ ps) x v t u t' fs gs z q =
      let y = z.second in
      let w = y.second in
      record {
        front = z.front;
        back = z.back ++ gs;
        mid = z.mid;
        joined = ap (λ k. k ++ gs) z.joined ∙ append_assoc z.front z.back gs;
        first = z.first;
        second = record {
          front = y.front;
          back = y.back ++ gs;
          mid = y.mid;
          joined = ap (λ k. k ++ gs) y.joined ∙ append_assoc y.front y.back gs;
          first = y.first;
          second = record {
            front = w.front;
            back = w.back ++ gs;
            mid = w.mid;
            joined = ap (λ k. k ++ gs) w.joined ∙ append_assoc w.front w.back gs;
            first = w.first;
            second = pairs_push ps x v w.mid u t' w.back gs w.second q;
          };
        };
      }

  pub no_pairs_yet : (t : S) (a : List ℕ) → AppendsBy (PairsBy N R []) t t a a
  no_pairs_yet t a = ([], (refl, refl), sym (append-nil a))

  pub pair_appended : (ps qs : List (List ℕ × Value)) (x : List ℕ) (v : Value) (t u t' : S) (a b c : List ℕ) → qs ≡ ps ++ (x, v) ∷ [] → AppendsBy (PairsBy N R ps) t u a b → AppendsBy (Pair (N x) (R v)) u t' b c → AppendsBy (PairsBy N R qs) t t' a c
  pair_appended ps qs x v t u t' a b c same (fs, p, e) (gs, q, f) = (
    fs ++ gs,
    subst (λ w. PairsBy N R w t (fs ++ gs) t') (sym same) (pairs_push ps x v t u t' fs gs p q),
    f ∙ ap (λ w. w ++ flat gs) e ∙ append_assoc a (flat fs) (flat gs) ∙ ap (λ w. a ++ w) (sym (flat-append fs gs)),
  )
