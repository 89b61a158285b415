-- From segments that were to be written to those that are left, step by step.
use Rattle.std.proofs.Common.{◌≡◌, ℕ, zero, suc, ◌+◌, ◌*◌, ◌<◌, ◌≤◌, List, [], ◌∷◌, ◌++◌, length, slice_get, Some, sym, refl, ap, ◌∙◌, subst, inl, inr, arith, append_assoc, append-nil}
use Rattle.amf_wire.specs.Style.{canonical}
use Rattle.amf_wire.specs.U29.{IsU29}
use Rattle.amf_graph.specs.declared.lack.Lack.{Lack}
use Rattle.amf_graph.specs.declared.lack.LackKind.TheVariants.{EmptyName}
use Rattle.amf_graph.specs.Graph.{Leaf, leaf, node, IsLeaf, Value, Node, Graph, node_at, AllNamed, Fits}
use Rattle.amf_graph.specs.ByName.{by_name}
use Rattle.amf_graph.specs.Order.{Absent, values_met, Walks, over, past, again, first}
use Rattle.amf_graph.proofs.Lists.{at_left, at_end, length_pushed}
use Rattle.amf_graph.proofs.NameOrder.{by_name_again, by_name_all, by_name_length}
use Rattle.amf3_spelling.specs.Tables.{Tables, with_words, add_node}
use Rattle.amf3_spelling.specs.Refusals3.{marker, leaf_marker}
use Rattle.amf3_spelling.specs.ByteSpelling.{Step, byte, number, Segment, step, value, leaf_segments, segments_of, Segments, Placed, Begun, NodeIn, Spells}
use Rattle.amf3_spelling.proofs.BytesOf.{fits_too}
use Rattle.amf3_spelling.proofs.Ordered3.{segments_met}
use Rattle.amf3_spelling.proofs.Ordered3 as ordered
use Rattle.amf3_write.specs.declared.output.Output.{Output}
use Rattle.amf3_write.specs.Contents.{node_segments, segment_values}
use Rattle.amf3_write.specs.Writes.{WritesStep, WritesSteps, WritesValue, IsCanonical, Leads, Stops}

-- Heights.

abbrev Below : (Value → Tables → List ℕ → Tables → Type 0) → (Value → Tables → List ℕ → Tables → Type 0) → Type 0
Below R S = (v : Value) (t : Tables) (b : List ℕ) (t' : Tables) → R v t b t' → S v t b t'

segments_more : (R S : Value → Tables → List ℕ → Tables → Type 0) → Below R S → (ps : List Segment) (t : Tables) (b : List ℕ) (t' : Tables) → Segments R canonical ps t b t' → Segments S canonical ps t b t'
segments_more R S f [] t b t' h = h
segments_more R S f (step x ∷ ps) t b t' h = record { front = h.front; back = h.back; mid = h.mid; joined = h.joined; first = h.first; second = segments_more R S f ps h.mid h.back t' h.second }
segments_more R S f (value v ∷ ps) t b t' h = record { front = h.front; back = h.back; mid = h.mid; joined = h.joined; first = f v t h.front h.mid h.first; second = segments_more R S f ps h.mid h.back t' h.second }

module _ (g : Graph) where
  abbrev At : ℕ → Value → Tables → List ℕ → Tables → Type 0
  At d = Spells d canonical g

  value_more : (d e : ℕ) → ((i : ℕ) (t : Tables) (b : List ℕ) (t' : Tables) → NodeIn d canonical g i t b t' → NodeIn e canonical g i t b t') → Below (At d) (At e)
  value_more d e f (leaf x) t b t' h = h
  value_more d e f (node i) t b t' h = (h.0, h.1, f i t h.0 t' h.2)

  node_more : (d k i : ℕ) (t : Tables) (b : List ℕ) (t' : Tables) → NodeIn d canonical g i t b t' → NodeIn (d + k) canonical g i t b t'
  node_more zero k i t b t' h = go (0 + k)
    where
      go : (n : ℕ) → NodeIn n canonical g i t b t'
      go zero = h
      go (suc n) = inl h
  node_more (suc d) k i t b t' h = subst (λ n. NodeIn n canonical g i t b t') (more d k) (go (value_more d (d + k) (node_more d k)) h)
    where
      more : (d k : ℕ) → suc (d + k) ≡ suc d + k
      more d k = omega arith

      go : Below (At d) (At (d + k)) → NodeIn (suc d) canonical g i t b t' → NodeIn (suc (d + k)) canonical g i t b t'
      go f (inl p) = inl p
      go f (inr p) = inr (record {
        exists = p.exists;
        new = p.new;
        wire = p.wire;
        sorted = p.sorted;
        in_order = p.in_order;
        named = p.named;
        fits = p.fits;
        body = segments_more (At d) (At (d + k)) f (segments_of (node_at g i).head p.wire (node_at g i).values) (add_node t i) b t' p.body;
      })

  higher : (d k : ℕ) → Below (At d) (At (d + k))
  higher d k = value_more d (d + k) (node_more d k)

  -- values of any heights are values of one height
  one_height : (ps : List Segment) (t : Tables) (b : List ℕ) (t' : Tables) → Segments (IsCanonical g) canonical ps t b t' → (d : ℕ) × Segments (At d) canonical ps t b t'
  one_height [] t b t' h = (0, h)
  one_height (step x ∷ ps) t b t' h = let o = one_height ps h.mid h.back t' h.second in (o.0, record { front = h.front; back = h.back; mid = h.mid; joined = h.joined; first = h.first; second = o.1 })
  one_height (value v ∷ ps) t b t' h =
      let o = one_height ps h.mid h.back t' h.second in
      let d : ℕ = h.first.0 in
      let e : o.0 + d ≡ d + o.0 = omega arith in (
        d + o.0,
        record {
          front = h.front;
          back = h.back;
          mid = h.mid;
          joined = h.joined;
          first = higher d o.0 v t h.front h.mid h.first.1;
          second = subst (λ n. Segments (At n) canonical ps h.mid h.back t') e (segments_more (At o.0) (At (o.0 + d)) (higher o.0 d) ps h.mid h.back t' o.1);
        },
      )

-- Segments in two runs.

pub record Split (R : Value → Tables → List ℕ → Tables → Type 0) (ps qs : List Segment) (t : Tables) (b : List ℕ) (t' : Tables) : Type 0 where
  pub front : List ℕ
  pub back : List ℕ
  pub mid : Tables
  pub joined : b ≡ front ++ back
  pub first : Segments R canonical ps t front mid
  pub second : Segments R canonical qs mid back t'

module _ (R : Value → Tables → List ℕ → Tables → Type 0) where
  segments_split : (ps qs : List Segment) (t : Tables) (b : List ℕ) (t' : Tables) → Segments R canonical (ps ++ qs) t b t' → Split R ps qs t b t'
  segments_split [] qs t b t' h = record { front = []; back = b; mid = t; joined = refl; first = (refl, refl); second = h }
  segments_split (step x ∷ ps) qs t b t' h =
      let o = segments_split ps qs h.mid h.back t' h.second in record {
        front = h.front ++ o.front;
        back = o.back;
        mid = o.mid;
        joined = h.joined ∙ ap (λ w. h.front ++ w) o.joined ∙ sym (append_assoc h.front o.front o.back);
        first = record { front = h.front; back = o.front; mid = h.mid; joined = refl; first = h.first; second = o.first };
        second = o.second;
      }
  segments_split (value v ∷ ps) qs t b t' h =
      let o = segments_split ps qs h.mid h.back t' h.second in record {
        front = h.front ++ o.front;
        back = o.back;
        mid = o.mid;
        joined = h.joined ∙ ap (λ w. h.front ++ w) o.joined ∙ sym (append_assoc h.front o.front o.back);
        first = record { front = h.front; back = o.front; mid = h.mid; joined = refl; first = h.first; second = o.first };
        second = o.second;
      }

  -- steps alone, and then segments
  steps_then : (ps qs : List Segment) (t u t' : Tables) (b c : List ℕ) → Segments (λ v t b t'. ⊥) canonical ps t b u → Segments R canonical qs u c t' → Segments R canonical (ps ++ qs) t (b ++ c) t'
  steps_then [] qs t u t' b c h k = subst (λ z. Segments R canonical qs t z t') (sym (ap (λ z. z ++ c) h.0)) (subst (λ z. Segments R canonical qs z c t') h.1 k)
  steps_then (step x ∷ ps) qs t u t' b c h k = record {
    front = h.front;
    back = h.back ++ c;
    mid = h.mid;
    joined = ap (λ z. z ++ c) h.joined ∙ append_assoc h.front h.back c;
    first = h.first;
    second = steps_then ps qs h.mid u t' h.back c h.second k;
  }
  steps_then (value v ∷ ps) qs t u t' b c h k = absurd h.first

-- steps enter no node, and have no values
steps_done : (ps : List Segment) (t : Tables) (b : List ℕ) (t' : Tables) → Segments (λ v t b t'. ⊥) canonical ps t b t' → t'.done ≡ t.done
steps_done [] t b t' h = ap (λ (w : Tables). w.done) h.1
steps_done (step x ∷ ps) t b t' h = steps_done ps h.mid h.back t' h.second ∙ ap (λ (w : Tables). w.done) h.first.2
steps_done (value v ∷ ps) t b t' h = absurd h.first

steps_none : (ps qs : List Segment) (t : Tables) (b : List ℕ) (t' : Tables) → Segments (λ v t b t'. ⊥) canonical ps t b t' → segment_values (ps ++ qs) ≡ segment_values qs
steps_none [] qs t b t' h = refl
steps_none (step x ∷ ps) qs t b t' h = steps_none ps qs h.mid h.back t' h.second
steps_none (value v ∷ ps) qs t b t' h = absurd h.first

pub values_append : (ps qs : List Segment) → segment_values (ps ++ qs) ≡ segment_values ps ++ segment_values qs
values_append [] qs = refl
values_append (step x ∷ ps) qs = values_append ps qs
values_append (value v ∷ ps) qs = ap (λ w. v ∷ w) (values_append ps qs)

same_values : (ps : List Segment) → segment_values ps ≡ ordered.segment_values ps
same_values [] = refl
same_values (step x ∷ ps) = same_values ps
same_values (value v ∷ ps) = ap (λ w. v ∷ w) (same_values ps)

node_values : (g : Graph) (i : ℕ) (ps : List Segment) → Fits (node_at g i).head (by_name (node_at g i).names) (node_at g i).values → segment_values (node_segments (node_at g i) ++ ps) ≡ values_met (node_at g i) ++ segment_values ps
node_values g i ps f = values_append (node_segments (node_at g i)) ps ∙ ap (λ w. w ++ segment_values ps) (same_values (node_segments (node_at g i)) ∙ segments_met (node_at g i).head (by_name (node_at g i).names) (node_at g i).values f)

-- A walk, one value on.

past_leaf : {g : Graph} {met all : List ℕ} {x : Leaf} {vs : List Value} → Walks g met (leaf x ∷ vs) all → Walks g met vs all
past_leaf (past x w) = w

met_again : {g : Graph} {met all : List ℕ} {i : ℕ} {vs : List Value} (k : ℕ) → slice_get met k ≡ Some i → Walks g met (node i ∷ vs) all → Walks g met vs all
met_again k e (again i l f w) = w
met_again k e (first i l n w) = absurd (n k e)

met_first : {g : Graph} {met all : List ℕ} {i : ℕ} {vs : List Value} → Absent met i → Walks g met (node i ∷ vs) all → Walks g (met ++ i ∷ []) (values_met (node_at g i) ++ vs) all
met_first n (again i l f w) = absurd (n l f)
met_first n (first i l m w) = w

pub walk_stays : {g : Graph} {xs ys : List ℕ} {vs : List Value} → Walks g xs vs ys → (k i : ℕ) → slice_get xs k ≡ Some i → slice_get ys k ≡ Some i
walk_stays over k i e = e
walk_stays (past x a) k i e = walk_stays a k i e
walk_stays (again j l f a) k i e = walk_stays a k i e
walk_stays {xs = xs} (first j l n a) k i e = walk_stays a k i (at_left xs (j ∷ []) k i e)

-- What leads from segments to segments.

later_same : (xs ys : List ℕ) → ys ≡ xs → length xs ≤ length ys
later_same xs ys e = omega (arith, ap length e)

module _ (g : Graph) where
  abbrev Done : List Segment → Tables → List ℕ → Tables → Type 0
  Done ps = Segments (IsCanonical g) canonical ps

  pub leads_same : (ps qs : List Segment) (o : Output) → ps ≡ qs → Leads g ps qs o o
  leads_same ps qs o e = record {
    bytes = [];
    appended = sym (append-nil o.bytes.items);
    completes = λ more t h. subst (λ w. Done w o.tables more t) (sym e) h;
    walks = λ all w. subst (λ z. Walks g o.tables.done (segment_values z) all) e w;
    later = omega arith;
  }

  pub leads_then : (ps qs rs : List Segment) (o m n : Output) → Leads g ps qs o m → Leads g qs rs m n → Leads g ps rs o n
  leads_then ps qs rs o m n h k = record {
    bytes = h.bytes ++ k.bytes;
    appended = k.appended ∙ ap (λ w. w ++ k.bytes) h.appended ∙ append_assoc o.bytes.items h.bytes k.bytes;
    completes = λ more t d. subst (λ w. Done ps o.tables w t) (sym (append_assoc h.bytes k.bytes more)) (h.completes (k.bytes ++ more) t (k.completes more t d));
    walks = λ all w. k.walks all (h.walks all w);
    later = omega (arith, h.later, k.later);
  }

  pub leads_from : (ps qs rs : List Segment) (o m : Output) → ps ≡ qs → Leads g qs rs o m → Leads g ps rs o m
  leads_from ps qs rs o m e h = subst (λ w. Leads g w rs o m) (sym e) h

  pub leads_to : (ps qs rs : List Segment) (o m : Output) → qs ≡ rs → Leads g ps qs o m → Leads g ps rs o m
  leads_to ps qs rs o m e h = subst (λ w. Leads g ps w o m) e h

  pub leads_steps : (xs ps : List Segment) (o m : Output) → WritesSteps xs o m → Leads g (xs ++ ps) ps o m
  leads_steps xs ps o m h =
      let same = steps_done xs o.tables h.bytes m.tables h.spelled in record {
        bytes = h.bytes;
        appended = h.appended;
        completes = λ more t d. steps_then (IsCanonical g) xs ps o.tables m.tables t h.bytes more h.spelled d;
        walks = λ all w. subst (λ z. Walks g z (segment_values ps) all) (sym same) (subst (λ z. Walks g o.tables.done z all) (steps_none xs ps o.tables h.bytes m.tables h.spelled) w);
        later = later_same o.tables.done m.tables.done same;
      }

  pub leads_step : (x : Step) (ps : List Segment) (o m : Output) → WritesStep x o m → Leads g (step x ∷ ps) ps o m
  leads_step x ps o m h =
      let same : m.tables.done ≡ o.tables.done = ap (λ (w : Tables). w.done) h.spelled.2 in record {
        bytes = h.bytes;
        appended = h.appended;
        completes = λ more t d. record { front = h.bytes; back = more; mid = m.tables; joined = refl; first = h.spelled; second = d };
        walks = λ all w. subst (λ z. Walks g z (segment_values ps) all) (sym same) w;
        later = later_same o.tables.done m.tables.done same;
      }

  pub leads_leaf : (x : Leaf) (ps : List Segment) (o m : Output) → IsLeaf x → WritesSteps (step (byte (leaf_marker x)) ∷ leaf_segments x) o m → Leads g (value (leaf x) ∷ ps) ps o m
  leads_leaf x ps o m l h =
      let same = steps_done (step (byte (leaf_marker x)) ∷ leaf_segments x) o.tables h.bytes m.tables h.spelled in record {
        bytes = h.bytes;
        appended = h.appended;
        completes = λ more t d. record { front = h.bytes; back = more; mid = m.tables; joined = refl; first = (0, (l, h.spelled)); second = d };
        walks = λ all w. subst (λ z. Walks g z (segment_values ps) all) (sym same) (past_leaf w);
        later = later_same o.tables.done m.tables.done same;
      }

  byte_done : (n : ℕ) (o m : Output) → WritesStep (byte n) o m → m.tables ≡ o.tables
  byte_done n o m h = h.spelled.2 ∙ ap (λ w. with_words o.tables w) h.spelled.1.1

  -- the marker of a node, and what stands behind it
  behind_marker : (o p n : Output) (m : ℕ) (more : List ℕ) → WritesStep (byte m) o p → n.bytes.items ≡ p.bytes.items ++ more → n.bytes.items ≡ o.bytes.items ++ m ∷ more
  behind_marker o p n m more h e = e ∙ ap (λ w. w ++ more) (h.appended ∙ ap (λ w. o.bytes.items ++ w) h.spelled.1.0) ∙ append_assoc o.bytes.items (m ∷ []) more

  -- a node by its place
  pub leads_placed : (i j m place : ℕ) (ps : List Segment) (o p n : Output) → o.tables.done ≡ o.tables.nodes → slice_get o.tables.nodes place ≡ Some i → m ≡ marker (node_at g i).head → j ≡ 2 * place → WritesStep (byte m) o p → WritesStep (number j) p n → Leads g (value (node i) ∷ ps) ps o n
  leads_placed i j m place ps o p n even at e f h k =
      let same : n.tables ≡ o.tables = k.spelled.2 ∙ ap (λ w. with_words p.tables w) k.spelled.1.1 ∙ byte_done m o p h in
      let done : n.tables.done ≡ o.tables.done = ap (λ (w : Tables). w.done) same in
      let there : Placed canonical i o.tables k.bytes n.tables = record { place = place; here = at; spelled = subst (λ w. IsU29 canonical w k.bytes) f k.spelled.1.0; same = same } in record {
        bytes = m ∷ k.bytes;
        appended = behind_marker o p n m k.bytes h k.appended;
        completes = λ more t d. record { front = m ∷ k.bytes; back = more; mid = n.tables; joined = refl; first = (0, (k.bytes, ap (λ w. w ∷ k.bytes) e, there)); second = d };
        walks = λ all w. subst (λ z. Walks g z (segment_values ps) all) (sym done) (met_again place (subst (λ z. slice_get z place ≡ Some i) (sym even) at) w);
        later = later_same o.tables.done n.tables.done done;
      }

  -- a node that is not in the table: behind its marker its segments are left
  pub leads_new : (i m : ℕ) (ps : List Segment) (o p n : Output) → i < length g.nodes → Absent o.tables.nodes i → o.tables.done ≡ o.tables.nodes → AllNamed (node_at g i).names → Fits (node_at g i).head (node_at g i).names (node_at g i).values
      → m ≡ marker (node_at g i).head → WritesStep (byte m) o p → n.tables ≡ add_node p.tables i → n.bytes.items ≡ p.bytes.items → Leads g (value (node i) ∷ ps) (node_segments (node_at g i) ++ ps) o n
  leads_new i m ps o p n l new even named fits e h t b =
      let x : Node = node_at g i in
      let begun : n.tables ≡ add_node o.tables i = t ∙ ap (λ (w : Tables). add_node w i) (byte_done m o p h) in
      let done : n.tables.done ≡ o.tables.done ++ i ∷ [] = ap (λ (w : Tables). w.done) begun in
      let fresh : Absent o.tables.done i = subst (λ w. Absent w i) (sym even) new in
      let fit : Fits x.head (by_name x.names) x.values = fits_too x.head x.names (by_name x.names) x.values x.values (sym (by_name_length x.names)) refl fits in record {
        bytes = m ∷ [];
        appended = behind_marker o p n m [] h (b ∙ sym (append-nil p.bytes.items));
        completes = λ more u d.
            let s = segments_split (IsCanonical g) (node_segments x) ps n.tables more u d in
            let k = one_height g (node_segments x) n.tables s.front s.mid s.first in
            let inline : Begun (Spells k.0 canonical g) canonical g i o.tables s.front s.mid = record {
              exists = l;
              new = fresh;
              wire = by_name x.names;
              sorted = by_name_again x.names;
              in_order = refl;
              named = by_name_all (λ p. p.0 ≡ [] → ⊥) x.names named;
              fits = fit;
              body = subst (λ w. Segments (Spells k.0 canonical g) canonical (node_segments x) w s.front s.mid) begun k.1;
            } in record { front = m ∷ s.front; back = s.back; mid = s.mid; joined = ap (λ w. m ∷ w) s.joined; first = (suc k.0, (s.front, ap (λ w. w ∷ s.front) e, inr inline)); second = s.second };
        walks = λ all w. subst (λ z. Walks g z (segment_values (node_segments x ++ ps)) all) (sym done) (subst (λ z. Walks g (o.tables.done ++ i ∷ []) z all) (sym (node_values g i ps fit)) (met_first fresh w));
        later = omega (arith, ap length done, length_pushed o.tables.done i);
      }

  -- the end of all
  pub written_value : (v : Value) (o m : Output) → Leads g (value v ∷ []) [] o m → WritesValue g v o m
  written_value v o m h =
      let s = h.completes [] m.tables (refl, refl) in
      let e : s.front ≡ h.bytes = sym (append-nil s.front) ∙ ap (λ w. s.front ++ w) (sym s.second.0) ∙ sym s.joined ∙ append-nil h.bytes in
      record { bytes = h.bytes; spelled = subst (λ w. IsCanonical g v o.tables w m.tables) e (subst (λ w. IsCanonical g v o.tables s.front w) (sym s.second.1) s.first); appended = h.appended }

  -- Where a writer stops.

  pub stops_behind : (ps qs : List Segment) (o m : Output) (l : Lack) → Leads g ps qs o m → Stops g qs m l → Stops g ps o l
  stops_behind ps qs o m l h s = record { node = s.node; unnamed = s.unnamed; kind = s.kind; later = omega (arith, h.later, s.later); place = λ all w. s.place all (h.walks all w) }

  pub stops_unnamed : (i : ℕ) (ps : List Segment) (o : Output) (l : Lack) → Absent o.tables.nodes i → o.tables.done ≡ o.tables.nodes → (AllNamed (node_at g i).names → ⊥) → l ≡ record { kind = EmptyName; node = length o.tables.nodes } → Stops g (value (node i) ∷ ps) o l
  stops_unnamed i ps o l new even h e =
      let done = o.tables.done in
      let at : l.node ≡ length done = ap (λ (k : Lack). k.node) e ∙ ap length (sym even) in record {
        node = i;
        unnamed = h;
        kind = ap (λ (k : Lack). k.kind) e;
        later = omega (arith, at);
        place = λ all w. subst (λ k. slice_get all k ≡ Some i) (sym at) (walk_stays (met_first (subst (λ z. Absent z i) (sym even) new) w) (length done) i (at_end done i));
      }
