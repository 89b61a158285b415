-- Runs that are put onto a stack and taken off it, and that the turns of the writer come to an end.
use Rattle.std.proofs.Common.{◌≡◌, ℕ, ◌+◌, ◌*◌, ◌<◌, ◌≤◌, List, [], ◌∷◌, ◌++◌, length, reverse, Option, sym, refl, ap, ◌∙◌, subst, inl, inr, arith, append_assoc, append-nil, OnOk, IfOk}
use Rattle.std.specs.Prelude.{Result, Ok, Err}
use Rattle.std.specs.Result.{IsErrAnd, IsErrOf}
use Rattle.std.specs.List.{AllByRecursion}
use Rattle.std.proofs.lemmas.List.{reverse-append}
use Rattle.amf_graph.specs.declared.value.NodeId.{NodeId}
use Rattle.amf_graph.specs.declared.value.TextId.{TextId}
use Rattle.amf_graph.specs.declared.value.Value.{Value as Stored}
use Rattle.amf_graph.specs.Graph.{Graph, Value, node}
use Rattle.amf_graph.specs.Arena.{Arena, text_at, value_content}
use Rattle.amf_graph.specs.Order.{Absent}
use Rattle.amf_graph.specs.Rooted.{RootedArena}
use Rattle.amf_graph.proofs.Counting.{missing, missing_push}
use Rattle.amf_graph.proofs.Walks.{each_left, each_right}
use Rattle.amf_iso.specs.Contents.{values_of, pairs_of}
use Rattle.amf0_write.specs.declared.output.Output.{Output}
use Rattle.amf0_write.specs.declared.stop.Stop.{Stop}
use Rattle.amf0_write.specs.declared.stop.Stop.TheVariants.{Lack}
use Rattle.amf0_write.specs.declared.unwritten.Unwritten.{Unwritten}
use Rattle.amf0_write.specs.Unwritten0.{run_segments, next_segments, segments_left, IsRunOf, AreRunsOf, run_turns, turns_left, opened_turns, Falls, TurnsFall}
use Rattle.amf0_write.specs.Writes0.{Segment, name, value, values_then, pairs_then, tables_of, done_of, Leads, Stops}
use Rattle.amf0_write.proofs.Leading0.{leads_then, leads_from, leads_to, stops_behind, same_done}

pub on_ok : {T E P Q : Type 0} (r : Result T E) → (P → Q) → OnOk r P → OnOk r Q
on_ok (Ok v) f h = f h
on_ok (Err e) f h = tt

pub if_ok : {T E : Type 0} {P Q : T → Type 0} (r : Result T E) → ((v : T) → P v → Q v) → IfOk r P → IfOk r Q
if_ok (Ok v) f h = f v h
if_ok (Err e) f h = tt

pub each_append : {X : Type 0} (P : X → Type 0) (xs ys : List X) → AllByRecursion P xs → AllByRecursion P ys → AllByRecursion P (xs ++ ys)
each_append P [] ys h k = k
each_append P (x ∷ xs) ys h k = (h.0, each_append P xs ys h.1 k)

pub all_reverse : {X : Type 0} (P : X → Type 0) (xs : List X) → AllByRecursion P xs → AllByRecursion P (reverse xs)
all_reverse P [] h = tt
all_reverse P (x ∷ xs) h = rw (reverse-append (x ∷ []) xs) (each_append P (reverse xs) (x ∷ []) (all_reverse P xs h.1) (h.0, tt))

pub rest_of : {X : Type 0} (P : X → Type 0) (all ws : List X) (v : X) → all ≡ ws ++ v ∷ [] → AllByRecursion P all → AllByRecursion P ws
rest_of P all ws v e h = each_left P ws (v ∷ []) (subst (λ w. AllByRecursion P w) e h)

pub top_of : {X : Type 0} (P : X → Type 0) (all ws : List X) (v : X) → all ≡ ws ++ v ∷ [] → AllByRecursion P all → P v
top_of P all ws v e h = (each_right P ws (v ∷ []) (subst (λ w. AllByRecursion P w) e h)).0

segments_push : (a : Arena) (runs : List Unwritten) (run : Unwritten) → segments_left a (runs ++ run ∷ []) ≡ run_segments a run ++ segments_left a runs
segments_push a [] run = sym (append-nil (run_segments a run))
segments_push a (r ∷ runs) run = ap (λ w. w ++ run_segments a r) (segments_push a runs run) ∙ append_assoc (run_segments a run) (segments_left a runs) (run_segments a r)

turns_push : (runs : List Unwritten) (run : Unwritten) → turns_left (runs ++ run ∷ []) ≡ run_turns run + turns_left runs
turns_push [] run = refl
turns_push (r ∷ runs) run = omega (arith, turns_push runs run)

pub segments_pushed : (a : Arena) (runs now : List Unwritten) (run : Unwritten) → now ≡ runs ++ run ∷ [] → segments_left a now ≡ run_segments a run ++ segments_left a runs
segments_pushed a runs now run e = ap (segments_left a) e ∙ segments_push a runs run

pub turns_pushed : (runs now : List Unwritten) (run : Unwritten) → now ≡ runs ++ run ∷ [] → turns_left now ≡ run_turns run + turns_left runs
turns_pushed runs now run e = ap turns_left e ∙ turns_push runs run

-- the last of pairs in reverse is the first
pub pairs_popped : (a : Arena) (all rest : List (TextId × Stored)) (p : TextId × Stored) → all ≡ rest ++ p ∷ [] → pairs_then (pairs_of a (reverse all)) ≡ name (text_at a p.0.0) ∷ value (value_content a p.1) ∷ pairs_then (pairs_of a (reverse rest))
pairs_popped a all rest p e = ap (λ w. pairs_then (pairs_of a w)) (ap reverse e ∙ reverse-append rest (p ∷ []))

pub values_popped : (a : Arena) (all rest : List Stored) (v : Stored) → all ≡ rest ++ v ∷ [] → values_then (values_of a (reverse all)) ≡ value (value_content a v) ∷ values_then (values_of a (reverse rest))
values_popped a all rest v e = ap (λ w. values_then (values_of a w)) (ap reverse e ∙ reverse-append rest (v ∷ []))

pub runs_pushed : (g : RootedArena) (runs now : List Unwritten) (run : Unwritten) → now ≡ runs ++ run ∷ [] → AreRunsOf g runs → IsRunOf g run → AreRunsOf g now
runs_pushed g runs now run e h k = subst (λ w. AreRunsOf g w) (sym e) (each_append (IsRunOf g) runs (run ∷ []) h (k, tt))

-- What is written of a run, up to a node that is new.

module _ (g : Graph) (whole ps old new : List Segment) where
  -- the name at its front
  pub name_on : (x : List ℕ) (v : Value) (o m n : Output) → old ≡ name x ∷ value v ∷ new → Leads g whole (old ++ ps) o m → ((qs : List Segment) → Leads g (name x ∷ qs) qs m n) → Leads g whole ((value v ∷ new) ++ ps) o n
  name_on x v o m n e h k = leads_then g whole (name x ∷ value v ∷ (new ++ ps)) (value v ∷ (new ++ ps)) o m n (leads_to g whole (old ++ ps) (name x ∷ value v ∷ (new ++ ps)) o m (ap (λ w. w ++ ps) e) h) (k (value v ∷ (new ++ ps)))

  -- the value at its front
  pub value_on : (v : Value) (next : Option NodeId) (o m n : Output) → old ≡ value v ∷ new → Leads g whole (old ++ ps) o m → ((qs : List Segment) → Leads g (value v ∷ qs) (next_segments next ++ qs) m n) → Leads g whole (next_segments next ++ (new ++ ps)) o n
  value_on v next o m n e h k = leads_then g whole (value v ∷ (new ++ ps)) (next_segments next ++ (new ++ ps)) o m n (leads_to g whole (old ++ ps) (value v ∷ (new ++ ps)) o m (ap (λ w. w ++ ps) e) h) (k (new ++ ps))

  -- the value at its front, where a writer stops
  pub value_stops : (v : Value) (o m : Output) → old ≡ value v ∷ new → Leads g whole (old ++ ps) o m → ((qs : List Segment) → Stops g (value v ∷ qs) m) → Stops g whole o
  value_stops v o m e h k = stops_behind g whole (value v ∷ (new ++ ps)) o m (leads_to g whole (old ++ ps) (value v ∷ (new ++ ps)) o m (ap (λ w. w ++ ps) e) h) (k (new ++ ps))

-- a node that is new, with what is behind it put back onto the stack
pub put_back : (g : Graph) (a : Arena) (whole : List Segment) (runs now : List Unwritten) (run : Unwritten) (n : NodeId) (o m : Output) → now ≡ runs ++ run ∷ [] → Leads g whole (value (node n.0) ∷ (run_segments a run ++ segments_left a runs)) o m → Leads g whole (value (node n.0) ∷ segments_left a now) o m
put_back g a whole runs now run n o m e h = leads_to g whole (value (node n.0) ∷ (run_segments a run ++ segments_left a runs)) (value (node n.0) ∷ segments_left a now) o m (ap (λ w. value (node n.0) ∷ w) (sym (segments_pushed a runs now run e))) h

-- one run taken off the stack, and written up to its next node that is new
pub turned : (g : Graph) (a : Arena) (whole : List Segment) (runs all left : List Unwritten) (top : Unwritten) (next : Option NodeId) (o m n : Output) → all ≡ runs ++ top ∷ [] → Leads g whole (segments_left a all) o m
    → Leads g (run_segments a top ++ segments_left a runs) (next_segments next ++ segments_left a left) m n → Leads g whole (next_segments next ++ segments_left a left) o n
turned g a whole runs all left top next o m n e h k =
    let behind = next_segments next ++ segments_left a left in
    leads_then g whole (segments_left a all) behind o m n h (leads_from g (segments_left a all) (run_segments a top ++ segments_left a runs) behind m n (segments_pushed a runs all top e) k)

-- one run taken off the stack, in which the writer stops
pub turn_stops : (g : Graph) (a : Arena) (whole : List Segment) (runs all : List Unwritten) (top : Unwritten) (o m : Output) → all ≡ runs ++ top ∷ [] → Leads g whole (segments_left a all) o m → Stops g (run_segments a top ++ segments_left a runs) m → Stops g whole o
turn_stops g a whole runs all top o m e h s = stops_behind g whole (run_segments a top ++ segments_left a runs) o m (leads_to g whole (segments_left a all) (run_segments a top ++ segments_left a runs) o m (segments_pushed a runs all top e) h) s

pub falls_less : (n : ℕ) (old new : List ℕ) (before after : ℕ) → Falls n old new before after → missing n new * 1073741824 + after ≤ missing n old * 1073741824 + before
falls_less n old new before after (inl (e, l)) = omega (arith, ap (missing n) e, l)
falls_less n old new before after (inr (i, l, absent, e, t)) = omega (arith, missing_push n i old l absent, ap (missing n) e, t)

-- a node that is new is entered, and what is opened of it adds no more turns
pub falls_entered : (g : RootedArena) (waiting left : List Unwritten) (i : ℕ) (o m n : Output) → i < length g.arena.nodes → Absent (done_of o) i → done_of m ≡ done_of o ++ i ∷ [] → tables_of n ≡ tables_of m → turns_left left ≤ turns_left waiting + opened_turns → TurnsFall g waiting left o n
falls_entered g waiting left i o m n there absent entered same turns = inr (i, there, absent, same_done m n same ∙ entered, omega (arith, turns))

-- the end that is handed on is the one that came
pub same_stop : {T S : Type 0} (r : Result T Stop) (x : Stop) → IsErrAnd r (λ e. e ≡ x) → IsErrOf r Lack → IsErrOf {T = S} (Err x) Lack
same_stop (Ok v) x h k = absurd h
same_stop (Err e) x h k = cc
