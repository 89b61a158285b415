-- How the parts of a pair are joined: its name, its value and its end, and then it is put into the holder.
use Rattle.std.proofs.Common.{◌≡◌, ℕ, ◌+◌, ◌≤◌, ◌<◌, false, List, [], ◌∷◌, length, sym, ap, ◌∙◌, arith, Result, Ok, Err}
use Rattle.std.specs.List.{AllByRecursion}
use Rattle.amf_io.specs.declared.window.Window.{Window}
use Rattle.amf_io.specs.declared.cursor.Cursor.{Cursor}
use Rattle.amf_io.specs.declared.ends.ReadEnd.{ReadEnd}
use Rattle.amf_io.specs.Cursor.{place, bound}
use Rattle.amf_io.specs.ReadEnds.{IsPlaced, GoesBy}
use Rattle.amf_io.specs.CursorReads.{Answers, Ends}
use Rattle.amf_io.specs.Layout.{give, bind}
use Rattle.amf_io.proofs.CursorReads.{gives, then_reads, end_reads}
use Rattle.amf_graph.specs.declared.value.Value.{Value as Stored}
use Rattle.amf_graph.specs.declared.value.TextId.{TextId}
use Rattle.amf_graph.specs.declared.part.Part.TheVariants.{Named}
use Rattle.amf_graph.specs.Arena.{Arena, IsBuilt, IsTextId, Names}
use Rattle.amf_graph.specs.Building.{changed, more_name, more_part}
use Rattle.amf3_spelling.specs.KeptTables.{KeptTables}
use Rattle.amf3_spelling.specs.Reads3.{Grows}
use Rattle.amf3_layout_laws.specs.Layout3State.{State3, state_of}
use Rattle.amf3_layout_laws.specs.Layout3Words.{text_layout}
use Rattle.amf3_layout_laws.specs.Layout3.{read, value_layout}
use Rattle.amf3_layout_laws.proofs.Layout3Reads.{reads}
use Rattle.amf3_layout_laws.proofs.Reader3Tables.{grows_twice, text_id_after_growth}
use Rattle.amf3_layout_laws.proofs.Reader3States.{more_name_state}
use Rattle.amf0_spelling.specs.KeptTables0.{KeptTables0}
use Rattle.amf0_layout_laws.specs.Layout0.{read0, short_layout, value0_layout}
use Rattle.amf0_layout_laws.specs.Layout0State.{State0, state0_of, in_amf3}
use Rattle.amf0_layout_laws.proofs.Layout0Format.{reads0}
use Rattle.amf_wire_fields.specs.KeptText.{KeptText}
use Rattle.amf_wire_fields.specs.Room.{left_of}
use Rattle.amf3_read.specs.Ready.{Ready, Continues, text_read}
use Rattle.amf0_read.specs.Ready0 as ready0
use Rattle.amf0_read.specs.Ready0.{Ready0, StillReady0}
use Rattle.amf0_read.proofs.TextReads0.{text_grows, text_there, text_tables, text_more}
use Rattle.amf_sol.specs.declared.sol_version.SolVersion.TheVariants.{Amf0, Amf3}
use Rattle.amf_sol.specs.FileLayout.{FileState, file, with_pair, behind_pair, pair_by}
use Rattle.amf_sol.specs.FileReading.{end_layout, tables3, IsOpenHolder}
use Rattle.amf_sol.proofs.HolderPut.{holder_more, holder_built, holder_tables, holder_nodes, holder_texts, holder_traits}

-- the state behind the member that was put
put_state : (x : ℕ) (v : Stored) (a : Arena) (t : KeptTables0) → with_pair x v (state0_of a t) ≡ state0_of (changed (more_name x v) 0 a) t
put_state x v a t = ap (λ (z : State3). let s : State0 = record { amf3 = z; nodes = t.nodes; switched = t.switched } in s) (sym (more_name_state x v 0 a t.amf3))

pub file_put : (x : TextId) (v : Stored) (a b : Arena) (t : KeptTables0) → b ≡ changed (more_part (Named x v)) 0 a → with_pair x.0 v (state0_of a t) ≡ state0_of b t
file_put x v a b t is = put_state x.0 v a t ∙ ap (λ z. state0_of z t) (sym is)

all_below : (n m : ℕ) (xs : List ℕ) → n ≤ m → AllByRecursion (λ i. i < n) xs → AllByRecursion (λ i. i < m) xs
all_below n m [] le h = tt
all_below n m (x ∷ xs) le h = (let y = h.0 in omega arith, all_below n m xs le h.1)

module _ {S : Type 0} (tells : S → Type 0) (left : S → List ℕ) (faults : S → ℕ) where
  abbrev itself : FileState → FileState
  itself f = f

  abbrev done : Unit {0} → Unit {0}
  done u = u

  -- AMF 0

  module _ (a : Arena) (t : KeptTables0) (n : ℕ) (name : List ℕ) (c : Cursor S Window) where
    abbrev s0 : State0
    s0 = state0_of a t

    pub name0_ended : (d : Cursor S Window) (end : ReadEnd) → Ends tells left (short_layout s0) c d end → Ends tells left (pair_by Amf0 n name s0) c d end
    name0_ended d end h = end_reads tells left faults (short_layout s0) (λ x. bind (value0_layout n false x.state) (λ v. behind_pair Amf0 name (with_pair x.id v.value v.state))) c d end h

    module _ (b : Arena) (x : TextId) (d : Cursor S Window) (gn : GoesBy tells left faults c d (Ok x)) (an : Answers tells left (λ (y : TextId). ready0.text_read b t y) (short_layout s0) c d (Ok x)) where
      behind_name0 : {Z : Type 0} (view : Z → FileState) (e : Cursor S Window) (r : Result Z ReadEnd) → Answers tells left view (bind (value0_layout n false (state0_of b t)) (λ v. behind_pair Amf0 name (with_pair x.0 v.value v.state))) d e r → Answers tells left view (pair_by Amf0 n name s0) c e r
      behind_name0 view e r h = then_reads tells left faults (λ (y : TextId). ready0.text_read b t y) view (short_layout s0) (λ x. bind (value0_layout n false x.state) (λ v. behind_pair Amf0 name (with_pair x.id v.value v.state))) c d e x r gn an h

      pub value0_ended : (e : Cursor S Window) (end : ReadEnd) → Ends tells left (value0_layout n false (state0_of b t)) d e end → Ends tells left (pair_by Amf0 n name s0) c e end
      value0_ended e end h = behind_name0 itself e (Err end) (end_reads tells left faults (value0_layout n false (state0_of b t)) (λ v. behind_pair Amf0 name (with_pair x.0 v.value v.state)) d e end h)

      module _ (b2 : Arena) (u : KeptTables0) (v : Stored) (e : Cursor S Window) (gv : GoesBy tells left faults d e (Ok v)) (av : Answers tells left (λ (w : Stored). read0 w (state0_of b2 u)) (value0_layout n false (state0_of b t)) d e (Ok v)) where
        behind_value0 : {Z : Type 0} (view : Z → FileState) (f : Cursor S Window) (r : Result Z ReadEnd) → Answers tells left view (behind_pair Amf0 name (with_pair x.0 v (state0_of b2 u))) e f r → Answers tells left view (pair_by Amf0 n name s0) c f r
        behind_value0 view f r h = behind_name0 view f r (then_reads tells left faults (λ (w : Stored). read0 w (state0_of b2 u)) view (value0_layout n false (state0_of b t)) (λ v. behind_pair Amf0 name (with_pair x.0 v.value v.state)) d e f v r gv av h)

        pub end0_ended : (f : Cursor S Window) (end : ReadEnd) → Ends tells left end_layout e f end → Ends tells left (pair_by Amf0 n name s0) c f end
        end0_ended f end h = behind_value0 itself f (Err end) (end_reads tells left faults end_layout (λ z. give (file Amf0 name (with_pair x.0 v (state0_of b2 u)))) e f end h)

        pub pair0_read : (f : Cursor S Window) (b3 : Arena) → GoesBy {X = Unit {0}} tells left faults e f (Ok tt) → Answers tells left done end_layout e f (Ok tt) → IsPlaced f → b3 ≡ changed (more_part (Named x v)) 0 b2 → Answers tells left (λ (z : Unit {0}). file Amf0 name (state0_of b3 u)) (pair_by Amf0 n name s0) c f (Ok tt)
        pair0_read f b3 ge ae p is =
            behind_value0 (λ (z : Unit {0}). file Amf0 name (state0_of b3 u)) f (Ok tt) (then_reads tells left faults done (λ (z : Unit {0}). file Amf0 name (state0_of b3 u)) end_layout (λ z. give (file Amf0 name (with_pair x.0 v (state0_of b2 u)))) e f f tt (Ok tt) ge ae
            (gives tells left faults (λ (z : Unit {0}). file Amf0 name (state0_of b3 u)) f tt (file Amf0 name (with_pair x.0 v (state0_of b2 u))) p (ap (file Amf0 name) (sym (file_put x v b2 b3 u is)))))

  -- AMF 3

  module _ (a : Arena) (t : KeptTables) (n : ℕ) (name : List ℕ) (c : Cursor S Window) where
    abbrev s3 : State0
    s3 = state0_of a (tables3 t)

    pub name3_ended : (d : Cursor S Window) (end : ReadEnd) → Ends tells left (text_layout (state_of a t)) c d end → Ends tells left (pair_by Amf3 n name s3) c d end
    name3_ended d end h = end_reads tells left faults (text_layout (state_of a t)) (λ x. bind (value_layout n x.state) (λ v. behind_pair Amf3 name (with_pair x.id v.value (in_amf3 s3 v.state)))) c d end h

    module _ (b : Arena) (t1 : KeptTables) (x : TextId) (d : Cursor S Window) (gn : GoesBy tells left faults c d (Ok x)) (an : Answers tells left (λ (y : TextId). text_read b t1 y) (text_layout (state_of a t)) c d (Ok x)) where
      behind_name3 : {Z : Type 0} (view : Z → FileState) (e : Cursor S Window) (r : Result Z ReadEnd) → Answers tells left view (bind (value_layout n (state_of b t1)) (λ v. behind_pair Amf3 name (with_pair x.0 v.value (in_amf3 s3 v.state)))) d e r → Answers tells left view (pair_by Amf3 n name s3) c e r
      behind_name3 view e r h = then_reads tells left faults (λ (y : TextId). text_read b t1 y) view (text_layout (state_of a t)) (λ x. bind (value_layout n x.state) (λ v. behind_pair Amf3 name (with_pair x.id v.value (in_amf3 s3 v.state)))) c d e x r gn an h

      pub value3_ended : (e : Cursor S Window) (end : ReadEnd) → Ends tells left (value_layout n (state_of b t1)) d e end → Ends tells left (pair_by Amf3 n name s3) c e end
      value3_ended e end h = behind_name3 itself e (Err end) (end_reads tells left faults (value_layout n (state_of b t1)) (λ v. behind_pair Amf3 name (with_pair x.0 v.value (in_amf3 s3 v.state))) d e end h)

      module _ (b2 : Arena) (u : KeptTables) (v : Stored) (e : Cursor S Window) (gv : GoesBy tells left faults d e (Ok v)) (av : Answers tells left (λ (w : Stored). read w (state_of b2 u)) (value_layout n (state_of b t1)) d e (Ok v)) where
        behind_value3 : {Z : Type 0} (view : Z → FileState) (f : Cursor S Window) (r : Result Z ReadEnd) → Answers tells left view (behind_pair Amf3 name (with_pair x.0 v (state0_of b2 (tables3 u)))) e f r → Answers tells left view (pair_by Amf3 n name s3) c f r
        behind_value3 view f r h = behind_name3 view f r (then_reads tells left faults (λ (w : Stored). read w (state_of b2 u)) view (value_layout n (state_of b t1)) (λ v. behind_pair Amf3 name (with_pair x.0 v.value (in_amf3 s3 v.state))) d e f v r gv av h)

        pub end3_ended : (f : Cursor S Window) (end : ReadEnd) → Ends tells left end_layout e f end → Ends tells left (pair_by Amf3 n name s3) c f end
        end3_ended f end h = behind_value3 itself f (Err end) (end_reads tells left faults end_layout (λ z. give (file Amf3 name (with_pair x.0 v (state0_of b2 (tables3 u))))) e f end h)

        pub pair3_read : (f : Cursor S Window) (b3 : Arena) → GoesBy {X = Unit {0}} tells left faults e f (Ok tt) → Answers tells left done end_layout e f (Ok tt) → IsPlaced f → b3 ≡ changed (more_part (Named x v)) 0 b2 → Answers tells left (λ (z : Unit {0}). file Amf3 name (state0_of b3 (tables3 u))) (pair_by Amf3 n name s3) c f (Ok tt)
        pair3_read f b3 ge ae p is =
            behind_value3 (λ (z : Unit {0}). file Amf3 name (state0_of b3 (tables3 u))) f (Ok tt) (then_reads tells left faults done (λ (z : Unit {0}). file Amf3 name (state0_of b3 (tables3 u))) end_layout (λ z. give (file Amf3 name (with_pair x.0 v (state0_of b2 (tables3 u))))) e f f tt (Ok tt) ge ae
            (gives tells left faults (λ (z : Unit {0}). file Amf3 name (state0_of b3 (tables3 u))) f tt (file Amf3 name (with_pair x.0 v (state0_of b2 (tables3 u)))) p (ap (file Amf3 name) (sym (file_put x v b2 b3 (tables3 u) is)))))

-- What holds of the arena.

-- behind a name of AMF 0
pub name0_ready : {S : Type 0} (a b : Arena) (t : KeptTables0) (i : ℕ) (c d : Cursor S Window) → Ready0 0 a t c → IsBuilt b → KeptText a b i → place c + 2 ≤ place d → bound d ≡ bound c → IsPlaced d → Ready0 0 b t d
name0_ready a b t i c d r built k two same p =
    let within = p.within in
    let less : left_of d + 2 ≤ left_of c = omega arith in
    let v = text_tables a b t i r.amf3.built (record { amf3 = r.amf3.tables; nodes = r.nodes; distinct = r.distinct }) k in
    let texts = r.amf3.few_texts in
    let traits = r.amf3.few_traits in
    let nodes = r.amf3.few_nodes in
    record {
      amf3 = record {
        built = built;
        tables = v.amf3;
        placed = p;
        few_texts = omega (arith, text_more a b i k);
        few_traits = omega (arith, ap (λ (y : Arena). length y.traits) k.kept);
        few_nodes = omega (arith, ap (λ (y : Arena). length y.nodes) k.kept);
      };
      nodes = v.nodes;
      distinct = v.distinct;
    }

-- behind a pair of AMF 0
module _ {S : Type 0} (tells : S → Type 0) (left : S → List ℕ) (faults : S → ℕ) (a b b2 : Arena) (t u : KeptTables0) (x : TextId) (v : Stored) (c d e : Cursor S Window)
    (r : Ready0 0 a t c) (h : IsOpenHolder a (left_of c)) (k : KeptText a b x.0) (rb : Ready0 0 b t d) (two : place c + 2 ≤ place d) (same : bound d ≡ bound c)
    (av : (n : ℕ) → left_of d < n → Answers tells left (λ (w : Stored). read0 w (state0_of b2 u)) (value0_layout n false (state0_of b t)) d e (Ok v)) (kept : StillReady0 0 0 b b2 u d e) (also : bound e ≡ bound d) where
  value0_is : Grows b b2 × Names b2 v
  value0_is =
      let n = left_of d + 1 in
      let y = av n (omega arith) in
      let z = reads0 n b t y.fields (read0 v (state0_of b2 u)) rb.amf3.built (record { amf3 = rb.amf3.tables; nodes = rb.nodes; distinct = rb.distinct }) y.bytes y.runs in
      (z.grows, z.value)

  pub pair0_grows : Grows a b2
  pair0_grows = grows_twice a b b2 (text_grows a b x.0 k) value0_is.0

  pub pair0_text : IsTextId b2 x.0
  pair0_text = text_id_after_growth b b2 value0_is.0 x.0 (text_there a b x.0 k)

  pub pair0_names : Names b2 v
  pair0_names = value0_is.1

  less0 : left_of e ≤ left_of d
  less0 = let y = av (left_of d + 1) (omega arith) in let z = y.taken in omega arith

  module _ (f : Cursor S Window) (b3 : Arena) (is : b3 ≡ changed (more_part (Named x v)) 0 b2) (p : IsPlaced f) (one : place e < place f) (like : bound f ≡ bound e) where
    left_less : left_of f + 1 ≤ left_of e
    left_less = let w = p.within in omega arith

    pub pair0_ready : Ready0 0 b3 u f
    pair0_ready =
        let g = pair0_grows in
        let texts = rb.amf3.few_texts in
        let traits = rb.amf3.few_traits in
        let nodes = rb.amf3.few_nodes in
        let kx = kept.texts in
        let ky = kept.traits in
        let kz = kept.nodes in
        let l = left_less in
        let st = holder_texts a b2 (left_of c) h g r.amf3.built x v b3 is in
        let sr = holder_traits a b2 (left_of c) h g r.amf3.built x v b3 is in
        let sn = holder_nodes a b2 (left_of c) h g r.amf3.built x v b3 is in
        record {
          amf3 = record {
            built = holder_built a b2 (left_of c) h g r.amf3.built x v b3 is kept.built pair0_text pair0_names;
            tables = holder_tables a b2 (left_of c) h g r.amf3.built x v b3 is u.amf3 kept.built kept.tables.amf3;
            placed = p;
            few_texts = omega arith;
            few_traits = omega arith;
            few_nodes = omega arith;
          };
          nodes = all_below (length b2.nodes) (length b3.nodes) u.nodes (omega arith) kept.tables.nodes;
          distinct = kept.tables.distinct;
        }

    pub pair0_holder : IsOpenHolder b3 (left_of f)
    pair0_holder = let l = left_less in let m = less0 in holder_more a b2 (left_of c) h pair0_grows r.amf3.built x v b3 is (left_of f) (omega arith)

-- behind a pair of AMF 3
module _ {S : Type 0} (tells : S → Type 0) (left : S → List ℕ) (faults : S → ℕ) (a b b2 : Arena) (t t1 u : KeptTables) (x : TextId) (v : Stored) (c d e : Cursor S Window)
    (r : Ready 0 a t c) (h : IsOpenHolder a (left_of c)) (k : Continues 0 a b t1 c d) (there : IsTextId b x.0)
    (av : (n : ℕ) → left_of d < n → Answers tells left (λ (w : Stored). read w (state_of b2 u)) (value_layout n (state_of b t1)) d e (Ok v)) (kept : Continues 0 b b2 u d e) where
  pub pair3_grows : Grows a b2
  pair3_grows = grows_twice a b b2 k.grows kept.grows

  pub pair3_text : IsTextId b2 x.0
  pair3_text = text_id_after_growth b b2 kept.grows x.0 there

  pub pair3_names : Names b2 v
  pair3_names =
      let n = left_of d + 1 in
      let y = av n (omega arith) in
      (reads n b t1 y.fields (read v (state_of b2 u)) k.built k.tables y.bytes y.runs).value

  module _ (f : Cursor S Window) (b3 : Arena) (is : b3 ≡ changed (more_part (Named x v)) 0 b2) (p : IsPlaced f) (one : place e < place f) (like : bound f ≡ bound e) (lessd : left_of d ≤ left_of c) (lesse : left_of e ≤ left_of d) where
    left3_less : left_of f + 1 ≤ left_of e
    left3_less = let w = p.within in omega arith

    pub pair3_ready : Ready 0 b3 u f
    pair3_ready =
        let g = pair3_grows in
        let texts = r.few_texts in
        let traits = r.few_traits in
        let nodes = r.few_nodes in
        let kx = k.texts in
        let ky = k.traits in
        let kz = k.nodes in
        let kx2 = kept.texts in
        let ky2 = kept.traits in
        let kz2 = kept.nodes in
        let l = left3_less in
        let st = holder_texts a b2 (left_of c) h g r.built x v b3 is in
        let sr = holder_traits a b2 (left_of c) h g r.built x v b3 is in
        let sn = holder_nodes a b2 (left_of c) h g r.built x v b3 is in
        record {
          built = holder_built a b2 (left_of c) h g r.built x v b3 is kept.built pair3_text pair3_names;
          tables = holder_tables a b2 (left_of c) h g r.built x v b3 is u kept.built kept.tables;
          placed = p;
          few_texts = omega arith;
          few_traits = omega arith;
          few_nodes = omega arith;
        }

    pub pair3_holder : IsOpenHolder b3 (left_of f)
    pair3_holder = let l = left3_less in holder_more a b2 (left_of c) h pair3_grows r.built x v b3 is (left_of f) (omega arith)
