-- Steps of the walk, one after another.
use Rattle.std.proofs.Common.{◌≡◌, ℕ, zero, suc, ◌<◌, Bool, true, false, List, [], ◌++◌, length, refl, sym, ap, ◌∙◌, subst, append_assoc, append-nil, arith}
use Rattle.std.specs.Prelude.{Result, Ok, Err, OnOk, ◌==◌, ◌||◌, if◌then◌else◌}
use Rattle.std.proofs.lemmas.List.{length-append}
use Rattle.json.specs.Token.{Token}
use Rattle.amf_graph.specs.Graph.{Graph, Leaf, leaf, node, node_at}
use Rattle.amf_text.specs.Told.{Way, told, told_leaf, told_node, called, in_table}
use Rattle.amf_text_write.specs.declared.waiting.Piece.{Piece}
use Rattle.amf_text_write.specs.declared.way.Way.{Way as Code}
use Rattle.amf_text_write.specs.Laid.{Shown}
use Rattle.amf_text_write.specs.Opening.{Opens}
use Rattle.amf_text_write.specs.Tells.{Tells}
use Rattle.amf_text_write.specs.Walk.{Leads, left_in, alone, Steps}
use Rattle.amf_text_write.specs.Ways.{arena_in, graph_in, IsWayOf}
use Rattle.amf_text_write.proofs.Bools.{eq_false}
use Rattle.amf_text_write.proofs.Telling.{exactly, tells_then, more_none}

pub leads_same : (ts : List Token) (s : Shown) → Leads ts ts s s
leads_same ts s = record { front = []; parts = refl; tells = exactly [] s s (more_none s) }

pub leads_then : (x y z : List Token) (a b c : Shown) → Leads x y a b → Leads y z b c → Leads x z a c
leads_then x y z a b c p q = record {
  front = p.front ++ q.front;
  parts = p.parts ∙ ap (λ l. p.front ++ l) q.parts ∙ sym (append_assoc p.front q.front z);
  tells = tells_then p.front q.front a b c p.tells q.tells;
}

pub leads_from : (x y z : List Token) (a b : Shown) → x ≡ y → Leads y z a b → Leads x z a b
leads_from x y z a b e p = subst (λ l. Leads l z a b) (sym e) p

-- all was told
pub leads_end : (x : List Token) (a b : Shown) → Leads x [] a b → Tells x a b
leads_end x a b p = subst (λ l. Tells l a b) (sym (p.parts ∙ append-nil p.front)) p.tells

-- what holds in each way
pub on_ok_told : {T E : Type 0} (r : Result T E) (A P : Way → Type 0) → ((w : Way) → A w → OnOk r (P w)) → OnOk r ((w : Way) → A w → P w)
on_ok_told (Ok v) A P f = f
on_ok_told (Err e) A P f = tt

module _ (c : Code) where
  -- a piece that was told as a whole
  pub steps_whole : (ts : Way → List Token) (old : List Piece) (s t : Shown) → 0 < length (ts alone) → ((w : Way) → IsWayOf c w → Tells (ts w) s t) → Steps c ts old old s t
  steps_whole ts old s t some tells = record {
    leads = λ w is. record { front = ts w; parts = refl; tells = tells w is };
    fewer = omega (arith, length-append (ts alone) (left_in c old alone), some);
    pieces = λ all. all;
  }

  -- the front of a node
  pub steps_front : (ts us : Way → List Token) (old new : List Piece) (s t : Shown) → us alone ≡ ts alone → ((w : Way) → IsWayOf c w → us w ≡ ts w) → Opens (graph_in c) (arena_in c) us old new s t → Steps c ts old new s t
  steps_front ts us old new s t own same o = record {
    leads = λ w is. record { front = o.front w; parts = ap (λ l. l ++ left_in c old w) (sym (same w is)) ∙ o.parts w; tells = o.tells w is.digits };
    fewer =
        let lengths = ap length (ap (λ l. l ++ left_in c old alone) (sym own) ∙ o.parts alone) ∙ length-append (o.front alone) (left_in c new alone) in
        omega (arith, lengths, o.some alone);
    pieces = o.pieces;
  }

pub told_as_leaf : (w : Way) (g : Graph) (n : ℕ) (x : Leaf) → told w g n (leaf x) ≡ told_leaf w x
unfolding told
told_as_leaf w g n x = refl

no_levels : (n : ℕ) (b : Bool) → b ≡ ((suc n == 0) || b)
no_levels n b = ap (λ t. t || b) (sym (eq_false (suc n) 0 (λ x. omega (arith, x))))

pub told_called : (w : Way) (g : Graph) (n i : ℕ) → ((n == 0) || in_table w i) ≡ true → told w g n (node i) ≡ called w i
unfolding told
told_called w g zero i e = refl
told_called w g (suc n) i e = ap (λ t. if t then called w i else told_node w (told w g n) (node_at g i)) (no_levels n (in_table w i) ∙ e)

pub not_called : (w : Way) (n i : ℕ) → 0 < n → ((n == 0) || in_table w i) ≡ false → in_table w i ≡ false
not_called w zero i l e = absurd (omega (arith, l))
not_called w (suc n) i l e = no_levels n (in_table w i) ∙ e

pub told_in_place : (w : Way) (g : Graph) (n m i : ℕ) → n ≡ suc m → in_table w i ≡ false → told_node w (told w g m) (node_at g i) ≡ told w g n (node i)
unfolding told
told_in_place w g n m i e f = sym (ap (λ k. told w g k (node i)) e ∙ ap (λ t. if t then called w i else told_node w (told w g m) (node_at g i)) f)

-- a node, its front and then all that waits
pub tree_told : (c : Code) (ts : Way → List Token) (old new : List Piece) (s m t : Shown) (w : Way) → IsWayOf c w → old ≡ [] → Opens (graph_in c) (arena_in c) ts old new s m → Tells (left_in c new w) m t → Tells (ts w) s t
tree_told c ts old new s m t w is e o p =
    let whole : ts w ≡ o.front w ++ left_in c new w = sym (append-nil (ts w)) ∙ ap (λ l. ts w ++ left_in c l w) (sym e) ∙ o.parts w in
    subst (λ us. Tells us s t) (sym whole) (tells_then (o.front w) (left_in c new w) s m t (o.tells w is.digits) p)
