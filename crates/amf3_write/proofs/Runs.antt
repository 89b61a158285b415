-- Runs that are put onto a stack and taken off it.
use Rattle.std.proofs.Common.{◌≡◌, ℕ, ◌+◌, ◌*◌, List, [], ◌∷◌, ◌++◌, length, reverse, Option, sym, refl, ap, ◌∙◌, subst, arith, append_assoc, append-nil}
use Rattle.std.proofs.lemmas.List.{reverse-append}
use Rattle.amf_graph.specs.declared.value.Value.{Value as Stored}
use Rattle.amf_graph.specs.declared.value.NodeId.{NodeId}
use Rattle.amf_graph.specs.Graph.{Value, Graph, node}
use Rattle.amf_graph.specs.declared.value.TextId.{TextId}
use Rattle.amf_graph.specs.Arena.{Arena, text_at, value_content}
use Rattle.amf_graph.specs.Views.{flat}
use Rattle.amf3_spelling.specs.ByteSpelling.{Segment, step, value, word, values_then, pairs_then}
use Rattle.amf_iso.specs.Contents.{pairs_of, ArePairs}
use Rattle.amf3_write.specs.declared.unwritten.Unwritten.{Unwritten}
use Rattle.amf3_write.specs.Unwritten.{run_segments, next_segments, segments_left, IsRunOf, AreRunsOf, AreStoredPairs, run_turns, turns_left}
use Rattle.amf3_write.proofs.NamedPairs.{all_push}
use Rattle.amf3_write.specs.declared.output.Output.{Output}
use Rattle.amf3_write.specs.Writes.{Leads, WritesStep}
use Rattle.amf3_write.proofs.Leading.{leads_then, leads_from, leads_to, leads_step}

pub segments_push : (a : Arena) (runs : List Unwritten) (run : Unwritten) → segments_left a (runs ++ run ∷ []) ≡ run_segments a run ++ segments_left a runs
segments_push a [] run = sym (append-nil (run_segments a run))
segments_push a (r ∷ runs) run = ap (λ w. w ++ run_segments a r) (segments_push a runs run) ∙ append_assoc (run_segments a run) (segments_left a runs) (run_segments a r)

pub turns_push : (runs : List Unwritten) (run : Unwritten) → turns_left (runs ++ run ∷ []) ≡ run_turns run + turns_left runs
turns_push [] run = refl
turns_push (r ∷ runs) run = omega (arith, turns_push runs run)

pub segments_pushed : (a : Arena) (runs now : List Unwritten) (run : Unwritten) → now ≡ runs ++ run ∷ [] → segments_left a now ≡ run_segments a run ++ segments_left a runs
segments_pushed a runs now run e = ap (segments_left a) e ∙ segments_push a runs run

pub turns_pushed : (runs now : List Unwritten) (run : Unwritten) → now ≡ runs ++ run ∷ [] → turns_left now ≡ run_turns run + turns_left runs
turns_pushed runs now run e = ap turns_left e ∙ turns_push runs run

pub values_joined : (vs : List Value) (ps : List Segment) → values_then vs [] ++ ps ≡ values_then vs ps
values_joined [] ps = refl
values_joined (v ∷ vs) ps = ap (λ w. value v ∷ w) (values_joined vs ps)

pub pairs_joined : (w : List (List ℕ × Value)) (ps : List Segment) → pairs_then w [] ++ ps ≡ pairs_then w ps
pairs_joined [] ps = refl
pairs_joined (p ∷ w) ps = ap (λ z. step (word p.0) ∷ value p.1 ∷ z) (pairs_joined w ps)

-- one run before another, as one list of segments
pub values_before : (vs : List Value) (ps old mid now : List Segment) → mid ≡ ps ++ old → now ≡ values_then vs [] ++ mid → values_then vs ps ++ old ≡ now
values_before vs ps old mid now e f = ap (λ w. w ++ old) (sym (values_joined vs ps)) ∙ append_assoc (values_then vs []) ps old ∙ ap (λ w. values_then vs [] ++ w) (sym e) ∙ sym f

pub pairs_before : (ws : List (List ℕ × Value)) (ps old mid now : List Segment) → mid ≡ ps ++ old → now ≡ pairs_then ws [] ++ mid → pairs_then ws ps ++ old ≡ now
pairs_before ws ps old mid now e f = ap (λ w. w ++ old) (sym (pairs_joined ws ps)) ∙ append_assoc (pairs_then ws []) ps old ∙ ap (λ w. pairs_then ws [] ++ w) (sym e) ∙ sym f

-- the last of pairs in reverse is the first
pub pairs_popped : (a : Arena) (all rest : List (TextId × Stored)) (p : TextId × Stored) → all ≡ rest ++ p ∷ [] → pairs_then (pairs_of a (reverse all)) [] ≡ step (word (text_at a p.0.0)) ∷ value (value_content a p.1) ∷ pairs_then (pairs_of a (reverse rest)) []
pairs_popped a all rest p e = ap (λ w. pairs_then (pairs_of a w) []) (ap reverse e ∙ reverse-append rest (p ∷ []))

pub stored_pairs : (a : Arena) (ps : List (TextId × Stored)) → ArePairs a ps → AreStoredPairs a ps
stored_pairs a [] h = tt
stored_pairs a (p ∷ ps) h = (h.0, stored_pairs a ps h.1)

pub flat_length : (es : List (Stored × Stored)) → length (flat es) ≡ 2 * length es
flat_length [] = refl
flat_length (e ∷ es) = omega (arith, flat_length es)

pub runs_pushed : (a : Arena) (runs now : List Unwritten) (run : Unwritten) → now ≡ runs ++ run ∷ [] → AreRunsOf a runs → IsRunOf a run → AreRunsOf a now
runs_pushed a runs now run e h k = subst (λ w. AreRunsOf a w) (sym e) (all_push (IsRunOf a) runs run h k)

-- What is written of a run, up to a node that is new.

module _ (g : Graph) (whole ps old new : List Segment) (next : Option NodeId) where
  -- the value at its front
  pub value_on : (v : Value) (o m n : Output) → old ≡ value v ∷ new → Leads g whole (old ++ ps) o m → ((qs : List Segment) → Leads g (value v ∷ qs) (next_segments next ++ qs) m n) → Leads g whole (next_segments next ++ (new ++ ps)) o n
  value_on v o m n e h k = leads_then g whole (value v ∷ (new ++ ps)) (next_segments next ++ (new ++ ps)) o m n (leads_to g whole (old ++ ps) (value v ∷ (new ++ ps)) o m (ap (λ w. w ++ ps) e) h) (k (new ++ ps))

  -- the pair at its front
  pub pair_on : (x : List ℕ) (v : Value) (o m n r : Output) → old ≡ step (word x) ∷ value v ∷ new → Leads g whole (old ++ ps) o m → WritesStep (word x) m n → ((qs : List Segment) → Leads g (value v ∷ qs) (next_segments next ++ qs) n r) → Leads g whole (next_segments next ++ (new ++ ps)) o r
  pair_on x v o m n r e h s k =
      let named = leads_then g whole (step (word x) ∷ value v ∷ (new ++ ps)) (value v ∷ (new ++ ps)) o m n (leads_to g whole (old ++ ps) (step (word x) ∷ value v ∷ (new ++ ps)) o m (ap (λ w. w ++ ps) e) h) (leads_step g (word x) (value v ∷ (new ++ ps)) m n s) in
      leads_then g whole (value v ∷ (new ++ ps)) (next_segments next ++ (new ++ ps)) o n r named (k (new ++ ps))

-- a node that is new, with what is behind it put back onto the stack
pub put_back : (g : Graph) (a : Arena) (whole : List Segment) (runs now : List Unwritten) (run : Unwritten) (n : NodeId) (o m : Output) → now ≡ runs ++ run ∷ [] → Leads g whole (value (node n.0) ∷ (run_segments a run ++ segments_left a runs)) o m → Leads g whole (value (node n.0) ∷ segments_left a now) o m
put_back g a whole runs now run n o m e h = leads_to g whole (value (node n.0) ∷ (run_segments a run ++ segments_left a runs)) (value (node n.0) ∷ segments_left a now) o m (ap (λ w. value (node n.0) ∷ w) (sym (segments_pushed a runs now run e))) h

-- one run taken off the stack, and written up to its next node that is new
pub turned : (g : Graph) (a : Arena) (whole : List Segment) (runs all left : List Unwritten) (top : Unwritten) (next : Option NodeId) (o m n : Output) → all ≡ runs ++ top ∷ [] → Leads g whole (segments_left a all) o m
    → Leads g (run_segments a top ++ segments_left a runs) (next_segments next ++ segments_left a left) m n → Leads g whole (next_segments next ++ segments_left a left) o n
turned g a whole runs all left top next o m n e h k =
    let behind = next_segments next ++ segments_left a left in
    leads_then g whole (segments_left a all) behind o m n h (leads_from g (segments_left a all) (run_segments a top ++ segments_left a runs) behind m n (segments_pushed a runs all top e) k)

-- values of which none is left
pub all_written : (g : Graph) (a : Arena) (whole : List Segment) (left : List Value) (runs now : List Unwritten) (o m : Output) → left ≡ [] → now ≡ runs → Leads g whole (values_then left [] ++ segments_left a runs) o m → Leads g whole (segments_left a now) o m
all_written g a whole left runs now o m e s h = leads_to g whole (values_then left [] ++ segments_left a runs) (segments_left a now) o m (ap (λ w. values_then w [] ++ segments_left a runs) e ∙ ap (segments_left a) (sym s)) h

-- pairs of which none is left, and the empty name behind them
pub ended : (g : Graph) (a : Arena) (whole : List Segment) (left : List (List ℕ × Value)) (runs now : List Unwritten) (o m n : Output) → left ≡ [] → now ≡ runs → Leads g whole (pairs_then left [] ++ segments_left a runs) o m → WritesStep (word []) m n → Leads g whole (segments_left a now) o n
ended g a whole left runs now o m n e s h k =
    let old = segments_left a runs in
    leads_to g whole old (segments_left a now) o n (ap (segments_left a) (sym s))
    (leads_then g whole (step (word []) ∷ old) old o m n (leads_to g whole (pairs_then left [] ++ old) (step (word []) ∷ old) o m (ap (λ w. pairs_then w [] ++ old) e) h) (leads_step g (word []) old m n k))
