-- What is written whole meets nodes that lack nothing, so what stops behind it stops at the first node that lacks a spelling.
use Rattle.std.proofs.Common.{◌≡◌, ℕ, zero, suc, ◌<◌, ◌≤◌, ◌≢◌, List, [], ◌∷◌, ◌++◌, length, slice_get, Some, sym, ap, ◌∙◌, subst, inl, inr, arith, append_assoc}
use Rattle.std.proofs.lemmas.Bool.{cases_lt}
use Rattle.std.proofs.lemmas.Option.{same_Some}
use Rattle.amf_wire.specs.Style.{canonical}
use Rattle.amf_graph.specs.declared.lack.LackKind.{LackKind}
use Rattle.amf_graph.specs.declared.lack.LackKind.TheVariants.{EmptyName}
use Rattle.amf_graph.specs.Graph.{AllNamed, Value, leaf, node, Graph, node_at}
use Rattle.amf_graph.specs.Reached.{IsWhole}
use Rattle.amf_graph.specs.Lacks.{IsFirstLack}
use Rattle.amf_graph.specs.Order.{Absent, values_met, Walks, past, again, first}
use Rattle.amf_graph.proofs.Lists.{at_end, length_pushed}
use Rattle.amf_graph.proofs.NameOrder.{by_name_all_back}
use Rattle.amf_graph.proofs.OrderExists.{order_exists}
use Rattle.amf_graph.proofs.Walks.{walk_stays}
use Rattle.amf3_spelling.specs.Tables.{Tables, add_node}
use Rattle.amf3_spelling.specs.Refusals3.{leaf_marker}
use Rattle.amf3_spelling.specs.Lacks3.{IsLack3}
use Rattle.amf3_spelling.specs.Lacking3.{LacksFrom, Lacking3}
use Rattle.amf3_spelling.specs.ByteSpelling.{Spelling, Segment, step, value, byte, segments_of, leaf_segments, Segments, Placed, Begun, ValueBy, NodeIn, Spells}
use Rattle.amf3_spelling.proofs.Stays3.{Keeps, keeps_step, keeps_spells}
use Rattle.amf3_spelling.proofs.Ordered3.{segment_values, met, segments_met, leaf_none}
use Rattle.amf3_spelling.proofs.LacksAlike.{lack_is}

module _ (g : Graph) where
  abbrev FirstFrom : ℕ → List ℕ → ℕ → LackKind → Type 0
  FirstFrom start all = IsFirstLack (LacksFrom start g all)

  -- the nodes at these places have names
  abbrev NamedBetween : ℕ → ℕ → List ℕ → Type 0
  NamedBetween start end all = (k i : ℕ) → start ≤ k → k < end → slice_get all k ≡ Some i → AllNamed (node_at g i).names

  first_from : (start end : ℕ) (all : List ℕ) (number : ℕ) (kind : LackKind) → start ≤ end → NamedBetween start end all → FirstFrom end all number kind → FirstFrom start all number kind
  first_from start end all number kind l named f = record {
    lacks = (omega (arith, l, f.lacks.0), f.lacks.1);
    least = λ m k o. elim (cases_lt m end) [
      | inl below ↦ absurd ((lack_is g o.1.0 k o.1.2).1 (named m o.1.0 o.0 below o.1.1))
      | inr above ↦ f.least m k (above, o.1)
    ];
    first = λ k o. f.first k (f.lacks.0, o.1);
  }

  -- the walk goes over what is written, meets nodes with names there, and goes on from the tables behind
  record Over (done behind : List ℕ) (ws : List Value) (all : List ℕ) : Type 0 where
    longer : length done ≤ length behind
    named : NamedBetween (length done) (length behind) all
    on : Walks g behind ws all

  over_none : (t t' : Tables) (ws : List Value) (all : List ℕ) → t'.done ≡ t.done → Walks g t.done ws all → Over t.done t'.done ws all
  over_none t t' ws all e w = record { longer = omega (arith, ap length e); named = λ k i l m. absurd (omega (arith, ap length e)); on = subst (λ x. Walks g x ws all) (sym e) w }

  over_both : (done mid behind : List ℕ) (vs ws : List Value) (all : List ℕ) → Over done mid vs all → Over mid behind ws all → Over done behind ws all
  over_both done mid behind vs ws all o n = record {
    longer = omega (arith, o.longer, n.longer);
    named = λ k i l m e. elim (cases_lt k (length mid)) [ inl below ↦ o.named k i l below e | inr above ↦ n.named k i above m e ];
    on = n.on;
  }

  abbrev Follows : Spelling Tables → List Value → Type 0
  Follows A vs = (t : Tables) (b : List ℕ) (t' : Tables) → t.nodes ≡ t.done → A t b t' → (ws : List Value) (all : List ℕ) → Walks g t.done (vs ++ ws) all → Over t.done t'.done ws all

  follows_segments : (R : Value → Spelling Tables) → ((v : Value) → Keeps g (R v)) → ((v : Value) → Follows (R v) (v ∷ [])) → (ps : List Segment) → Follows (Segments R canonical ps) (segment_values ps)
  follows_segments R q f [] t b t' e p ws all w = over_none t t' ws all (ap (λ (x : Tables). x.done) p.1) w
  follows_segments R q f (step x ∷ ps) t b t' e p ws all w =
      let kept = keeps_step g canonical x t p.front p.mid p.first in
      let same : p.mid.done ≡ t.done = ap (λ (x : Tables). x.done) p.first.2 in
      let o = follows_segments R q f ps p.mid p.back t' (kept.level e) p.second ws all (subst (λ x. Walks g x (segment_values ps ++ ws) all) (sym same) w) in
      subst (λ x. Over x t'.done ws all) same o
  follows_segments R q f (value v ∷ ps) t b t' e p ws all w =
      let kept = q v t p.front p.mid p.first in
      let o = f v t p.front p.mid e p.first (segment_values ps ++ ws) all w in
      let n = follows_segments R q f ps p.mid p.back t' (kept.level e) p.second ws all o.on in
      over_both t.done p.mid.done t'.done (segment_values ps ++ ws) ws all o n

  follows_placed : (i : ℕ) → Follows (Placed canonical i) (node i ∷ [])
  follows_placed i t b t' e p ws all (again j m q w) = over_none t t' ws all (ap (λ (x : Tables). x.done) p.same) w
  follows_placed i t b t' e p ws all (first j l new w) = absurd (new p.place (ap (λ x. slice_get x p.place) (sym e) ∙ p.here))

  -- a node with names that is met now
  over_node : (i : ℕ) (done behind : List ℕ) (ws vs : List Value) (all : List ℕ) → AllNamed (node_at g i).names → Walks g (done ++ i ∷ []) vs all → Over (done ++ i ∷ []) behind ws all → Over done behind ws all
  over_node i done behind ws vs all named w o = record {
    longer = omega (arith, o.longer, length_pushed done i);
    named = λ k j l m e. elim (cases_lt (length done) k) [
      | inl above ↦ o.named k j (omega (arith, length_pushed done i, above)) m e
      | inr below ↦
          let at : length done ≡ k = omega (arith, l, below) in
          let here : slice_get all (length done) ≡ Some i = walk_stays w (length done) i (at_end done i) in
          subst (λ n. AllNamed (node_at g n).names) (same_Some i j (sym here ∙ ap (λ n. slice_get all n) at ∙ e)) named
    ];
    on = o.on;
  }

  follows_begun : (R : Value → Spelling Tables) → ((v : Value) → Keeps g (R v)) → ((v : Value) → Follows (R v) (v ∷ [])) → (i : ℕ) → Follows (Begun R canonical g i) (node i ∷ [])
  follows_begun R q f i t b t' e p ws all (again j m h w) = absurd (p.new m h)
  follows_begun R q f i t b t' e p ws all (first j there new w) =
      let a = node_at g i in
      let meets : segment_values (segments_of a.head p.wire a.values) ≡ values_met a = segments_met a.head p.wire a.values p.fits ∙ ap (λ x. met a.head x a.values) p.in_order in
      let o = follows_segments R q f (segments_of a.head p.wire a.values) (add_node t i) b t' (ap (λ x. x ++ i ∷ []) e) p.body ws all (subst (λ x. Walks g (t.done ++ i ∷ []) (x ++ ws) all) (sym meets) w) in
      over_node i t.done t'.done ws (values_met a ++ ws) all (by_name_all_back (λ p. p.0 ≢ []) a.names (subst (λ x. AllNamed x) p.in_order p.named)) w o

  follows_value : (N : ℕ → Spelling Tables) → ((i : ℕ) → Follows (N i) (node i ∷ [])) → (v : Value) → Follows (ValueBy N canonical g v) (v ∷ [])
  follows_value N f (leaf x) t b t' e p ws all (past y w) =
      follows_segments (λ v t b t'. ⊥) (λ v t b t' e. absurd e) (λ v t b t' d e. absurd e) (step (byte (leaf_marker x)) ∷ leaf_segments x) t b t' e p.1 ws all
      (subst (λ y. Walks g t.done (y ++ ws) all) (sym (leaf_none x)) w)
  follows_value N f (node i) t b t' e p ws all w = f i t p.0 t' e p.2 ws all w

  follows_node : (n i : ℕ) → Follows (NodeIn n canonical g i) (node i ∷ [])
  follows_node zero i t b t' e p ws all w = follows_placed i t b t' e p ws all w
  follows_node (suc n) i t b t' e (inl p) ws all w = follows_placed i t b t' e p ws all w
  follows_node (suc n) i t b t' e (inr p) ws all w = follows_begun (Spells n canonical g) (keeps_spells g canonical n) (follows_value (NodeIn n canonical g) (follows_node n)) i t b t' e p ws all w

  -- segments that are written whole, and values behind them that stop
  pub stops_behind : (n : ℕ) (ps : List Segment) (t : Tables) (b : List ℕ) (t' : Tables) → t.nodes ≡ t.done → Segments (Spells n canonical g) canonical ps t b t'
      → (vs : List Value) (number : ℕ) (kind : LackKind) → Lacking3 g vs t'.done number kind → Lacking3 g (segment_values ps ++ vs) t.done number kind
  stops_behind n ps t b t' even p vs number kind h = record { stops = stops }
    where
      stops : (ws : List Value) (all : List ℕ) → Walks g t.done ((segment_values ps ++ vs) ++ ws) all → FirstFrom (length t.done) all number kind
      stops ws all w =
          let o = follows_segments (Spells n canonical g) (keeps_spells g canonical n) (follows_value (NodeIn n canonical g) (follows_node n)) ps t b t' even p (vs ++ ws) all
          (subst (λ x. Walks g t.done x all) (append_assoc (segment_values ps) vs ws) w) in
          first_from (length t.done) (length t'.done) all number kind o.longer o.named (h.stops ws all o.on)

  -- values that stop, whatever values stand behind them
  pub stops_before : (vs us : List Value) (met : List ℕ) (number : ℕ) (kind : LackKind) → Lacking3 g vs met number kind → Lacking3 g (vs ++ us) met number kind
  stops_before vs us met number kind h = record { stops = λ ws all w. h.stops (us ++ ws) all (subst (λ x. Walks g met x all) (append_assoc vs us ws) w) }

  -- a node that is not met yet and has an empty name
  pub stops_unnamed : (i : ℕ) (met : List ℕ) → Absent met i → (AllNamed (node_at g i).names → ⊥) → Lacking3 g (node i ∷ []) met (length met) EmptyName
  stops_unnamed i met new h = record { stops = stops }
    where
      stops : (ws : List Value) (all : List ℕ) → Walks g met (node i ∷ ws) all → FirstFrom (length met) all (length met) EmptyName
      stops ws all (again j m q w) = absurd (new m q)
      stops ws all (first j l n w) = record { lacks = (omega arith, (i, walk_stays w (length met) i (at_end met i), h)); least = λ m k o. o.0; first = λ k o. omega arith }

  -- a node that is not met yet and lacks nothing, whose values stop
  pub stops_inside : (i : ℕ) (met : List ℕ) (number : ℕ) (kind : LackKind) → Absent met i → AllNamed (node_at g i).names
      → Lacking3 g (values_met (node_at g i)) (met ++ i ∷ []) number kind → Lacking3 g (node i ∷ []) met number kind
  stops_inside i met number kind new named h = record { stops = stops }
    where
      stops : (ws : List Value) (all : List ℕ) → Walks g met (node i ∷ ws) all → FirstFrom (length met) all number kind
      stops ws all (again j m q w) = absurd (new m q)
      stops ws all (first j l n w) =
          let o = over_node i met (met ++ i ∷ []) (values_met (node_at g i) ++ ws) (values_met (node_at g i) ++ ws) all named w (record { longer = omega arith; named = λ k j a b e. absurd (omega (arith, a, b)); on = w }) in
          first_from (length met) (length (met ++ i ∷ [])) all number kind o.longer o.named (h.stops ws all w)

  -- the root stops: the graph has this first lack
  pub lack_of_root : IsWhole g → (number : ℕ) (kind : LackKind) → Lacking3 g (g.root ∷ []) [] number kind → IsLack3 g number kind
  lack_of_root whole number kind h =
      let d = order_exists g whole.there in
      let o = h.stops [] d.0 d.1 in
      (d.0, d.1, record { lacks = o.lacks.1; least = λ m k l. o.least m k (omega arith, l); first = λ k l. o.first k (omega arith, l) })
