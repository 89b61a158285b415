-- What is read behind the header of each kind of node is spelled so.
use Rattle.std.proofs.Common.{◌≡◌, ℕ, suc, ◌+◌, ◌*◌, ◌/◌, ◌%◌, ◌^◌, ◌<◌, Bool, true, false, cond, eqb, not, List, [], ◌∷◌, ◌++◌, length, map, slice_index, refl, sym, ap, ◌∙◌, arith, subst, inl, inr, ◌⊎◌, length-append, nat_lt}
use Rattle.std.specs.Prelude.{FitsSigned}
use Rattle.std.proofs.lemmas.List.{append-nil, nil_from_length}
use Rattle.std.proofs.lemmas.Int.{of_z-to_z}
use Rattle.std.proofs.Math.Seq.{get_or-append_seam}
use Rattle.std.specs.List.{AllByRecursion}
use Rattle.std.specs.Int.{from_be_bytes, w32, w64, cast_signed}
use Rattle.amf_wire.specs.Style.{free}
use Rattle.amf_wire.specs.Text.{IsText}
use Rattle.amf_wire.proofs.TextTest.{is_text-is}
use Rattle.amf_io.specs.Field.{Field, AreBytes, raw_kind, text_kind, contents, flat}
use Rattle.amf_io.specs.Layout.{Layout, give, bind, Takes, Path, Runs}
use Rattle.amf_io.proofs.Bytes.{bytes_front, bytes_back}
use Rattle.amf_io.proofs.Paths.{bind_runs}
use Rattle.amf_io.proofs.Ables.{bytes_parts}
use Rattle.amf_graph.specs.Graph.{Value, Head, Fits, IsPattern, Traits, AreMembers}
use Rattle.amf_graph.specs.Graph as graph
use Rattle.amf_graph.specs.Arena.{Arena, StoredHead, text_at, head_content, HeadNames}
use Rattle.amf_graph.specs.Arena as arena
use Rattle.amf3_spelling.specs.Tables.{Entry, plain, external, Words, Tables, with_words}
use Rattle.amf3_spelling.specs.Then.{Spelling, Then}
use Rattle.amf3_spelling.specs.Refusals3.{text_header_refusal}
use Rattle.amf3_spelling.specs.Words3.{TraitsBy}
use Rattle.amf3_spelling.specs.Segments3.{Segment, flag, four, word, Lifted, Segments, segments_of, values_then, fours, signed_fours, eights}
use Rattle.amf3_spelling.specs.Headers3.{HeaderBy}
use Rattle.amf_graph.specs.declared.kind.NodeKind.{NodeKind}
use Rattle.amf_graph.specs.declared.kind.NodeKind.TheVariants as kind
use Rattle.amf3_spelling.specs.Markers3.{node_marker}
use Rattle.amf3_layout_laws.specs.Layout3State.{State3, stored_marker, takes_parts, with_contents}
use Rattle.amf3_layout_laws.specs.Layout3Words.{chunk, TextRead, text_layout, Outline, sealed_of, dynamic_of}
use Rattle.amf3_layout_laws.specs.Layout3.{flag_layout, four_layout, eight_layout, many, whole_node, opening}
use Rattle.amf3_layout_laws.proofs.Layout3Parts.{behind}
use Rattle.amf3_layout_laws.proofs.Layout3Contents.{Larger, larger_itself, Good, good_contents}
use Rattle.amf3_layout_laws.proofs.Layout3SoundTexts.{give_is, TextSound, texts_are, text_sound}
use Rattle.amf3_layout_laws.proofs.Layout3SoundTraits.{IsHeadOf, TraitsSound, traits_sound}
use Rattle.amf3_layout_laws.proofs.Layout3SoundOpenings.{Chunk, chunk_taken, eight_is, flag_built, Numbers, fours_sound, eights_sound}

abbrev pub total : Outline → ℕ
total o = cond o.twins (2 * o.count) o.count

abbrev pub Behind : (Value → Spelling Tables) → Head → List (List ℕ × Value) → List Value → ℕ → Spelling Tables
Behind R h qs vs n = Then (Lifted (HeaderBy free h vs n)) (Segments R free (segments_of h qs vs))

pub record OpenSound (R : Value → Spelling Tables) (f : NodeKind) (n : ℕ) (s : State3) (fs : List Field) (o : Outline) : Type 0 where
  pub good : Good o.state
  pub larger : Larger s.arena o.state.arena
  pub nodes : o.state.arena.nodes ≡ s.arena.nodes
  pub node_table : o.state.tables.nodes ≡ s.tables.nodes
  pub named : HeadNames o.state.arena o.head
  pub mark : stored_marker o.head ≡ node_marker f
  pub once : (o.first ≡ false) ⊎ (o.last ≡ false)
  pub leaf : takes_parts o.head ≡ false → Fits (head_content o.state.arena o.head) [] [] × (o ≡ whole_node o.state o.head)
  pub fits : (qs : List (List ℕ × Value)) (vs : List Value) → length vs ≡ total o → (o.first ≡ false → o.last ≡ false → qs ≡ []) → Fits (head_content o.state.arena o.head) qs vs
  pub spelled : (t u : Tables) (qs : List (List ℕ × Value)) (vs : List Value) (back : List Field) → t.words ≡ s.words → length vs ≡ total o → Segments R free (behind o.first o.last qs vs) (with_words t o.state.words) back u
      → Behind R (head_content o.state.arena o.head) qs vs n t (fs ++ back) u

module _ (R : Value → Spelling Tables) (n : ℕ) (s : State3) (g : Good s) where
  -- a node without pairs and values
  whole_open : (f : NodeKind) (fs : List Field) (z : State3) (head : StoredHead) (h : Head) → Good z → Larger s.arena z.arena → z.arena.nodes ≡ s.arena.nodes → z.tables.nodes ≡ s.tables.nodes → z.words ≡ s.words → h ≡ head_content z.arena head → HeadNames z.arena head → stored_marker head ≡ node_marker f
      → Fits h [] [] → ((w : Words) → HeaderBy free h [] n w [] w) → ((qs : List (List ℕ × Value)) (t u : Tables) (back : List Field) → (back ≡ []) × (u ≡ t) → Segments R free (segments_of h qs []) t (fs ++ back) u) → OpenSound R f n s fs (whole_node z head)
  whole_open f fs z head h good larger nodes table words is named mark fits header parts = record {
    good = good;
    larger = larger;
    nodes = nodes;
    node_table = table;
    named = named;
    mark = mark;
    once = inl refl;
    leaf = λ e. (subst (λ k. Fits k [] []) is fits, refl);
    fits = λ qs vs count none. subst (λ l. Fits (head_content z.arena head) l vs) (sym (none refl refl)) (subst (λ l. Fits (head_content z.arena head) [] l) (sym (nil_from_length vs count)) (subst (λ k. Fits k [] []) is fits));
    spelled = λ t u qs vs back same count p.
        let none : vs ≡ [] = nil_from_length vs count in
        let q : Segments R free [] (with_words t z.words) back u = subst (λ l. Segments R free (values_then l []) (with_words t z.words) back u) none p in
        let header' : HeaderBy free h [] n t.words [] z.words = subst (λ w. HeaderBy free h [] n w [] z.words) (words ∙ sym same) (header z.words) in
        let all : Behind R h qs [] n t (fs ++ back) u = record { front = []; back = fs ++ back; mid = with_words t z.words; joined = refl; first = (z.words, header', refl); second = parts qs (with_words t z.words) u back q } in
        subst (λ k. Behind R k qs vs n t (fs ++ back) u) is (subst (λ l. Behind R h qs l n t (fs ++ back) u) (sym none) all);
  }

  itself : Larger s.arena s.arena
  itself = larger_itself s.arena s.arena refl refl (omega arith)

  contents_larger : (x : List ℕ) → Larger s.arena (with_contents s x).arena
  contents_larger x = record { more_texts = x ∷ []; texts = refl; more_traits = []; traits = sym (append-nil s.arena.traits); nodes = omega arith }

  text_chunk : (fs : List Field) (o : Outline) (f : List ℕ → Outline) → AreBytes (flat fs) → Runs (chunk text_kind (n / 2) (λ y. give (f y))) fs o → Chunk text_kind IsText (n / 2) f fs o
  text_chunk fs o f b r = chunk_taken text_kind IsText (n / 2) f fs o texts_are.sizes ((is_text-is []).0 refl) (λ k y _ c. texts_are.texts k y c) b r

  fits_signed : (k : ℕ) → k < 2 ^ 32 → FitsSigned w32 (cast_signed w32 k)
  fits_signed k h = by k h (nat_lt k 2147483648) refl
    where
      by : (k : ℕ) → k < 2 ^ 32 → (b : Bool) → nat_lt k 2147483648 ≡ b → FitsSigned w32 (cast_signed w32 k)
      by k h true e = grind arith
      by k h false e = grind arith

  signed_all : (ns : List ℕ) → AllByRecursion (λ k. k < 2 ^ 32) ns → AllByRecursion (FitsSigned w32) (map (cast_signed w32) ns)
  signed_all [] h = tt
  signed_all (k ∷ ns) h = (fits_signed k h.0, signed_all ns h.1)

  signed_same : (ns : List ℕ) → AllByRecursion (λ k. k < 2 ^ 32) ns → signed_fours (map (cast_signed w32) ns) ≡ fours ns
  signed_same [] h = refl
  signed_same (k ∷ ns) h = ap (λ m. four m ∷ signed_fours (map (cast_signed w32) ns)) (of_z-to_z w32 k h.0) ∙ ap (λ l. four k ∷ l) (signed_same ns h.1)

  signed_count : (ns : List ℕ) → length (map (cast_signed w32) ns) ≡ length ns
  signed_count [] = refl
  signed_count (k ∷ ns) = ap suc (signed_count ns)

  module _ (odd : n ≡ 2 * (n / 2) + 1) where
    text_node : (f : NodeKind) (head : ℕ → StoredHead) (h : List ℕ → Head) → ((a : Arena) (i : ℕ) → head_content a (head i) ≡ h (text_at a i)) → ((a : Arena) (i : ℕ) → i < length a.texts → HeadNames a (head i)) → ((i : ℕ) → stored_marker (head i) ≡ node_marker f)
        → ((x : List ℕ) → IsText x → Fits (h x) [] []) → ((x : List ℕ) (w : Words) → n ≡ 2 * length x + 1 → HeaderBy free (h x) [] n w [] w)
        → ((x : List ℕ) (fs : List Field) (qs : List (List ℕ × Value)) (t u : Tables) (back : List Field) → fs ≡ contents text_kind x → (back ≡ []) × (u ≡ t) → Segments R free (segments_of (h x) qs []) t (fs ++ back) u)
        → (fs : List Field) (o : Outline) → AreBytes (flat fs) → Runs (chunk text_kind (n / 2) (λ x. give (whole_node (with_contents s x) (head (length s.arena.texts))))) fs o → OpenSound R f n s fs o
    text_node f head h content names mark fits header parts fs o b r =
        let i = length s.arena.texts in
        let c = text_chunk fs o (λ x. whole_node (with_contents s x) (head i)) b r in
        let x = c.bytes in
        let z = with_contents s x in
        let there : text_at z.arena i ≡ x = get_or-append_seam s.arena.texts x [] [] in
        subst (λ y. OpenSound R f n s fs y) c.is
        (whole_open f fs z (head i) (h x) (good_contents s x c.good g) (contents_larger x) refl refl refl (ap h (sym there) ∙ sym (content z.arena i)) (names z.arena i (omega (arith, length-append s.arena.texts (x ∷ [])))) (mark i) (fits x c.good)
        (λ w. header x w (odd ∙ ap (λ k. 2 * k + 1) (sym c.long))) (λ qs t u back q. parts x fs qs t u back c.fields q))

    -- a flag, and what is read behind it
    pub record FlagRead (l : Bool → Layout Outline) (fs : List Field) (o : Outline) : Type 0 where
      pub byte : Field
      pub rest : List Field
      pub fields : fs ≡ byte ∷ rest
      pub takes : Takes (raw_kind 1) byte
      pub bytes : AreBytes byte.bytes
      pub bytes_rest : AreBytes (flat rest)
      pub runs : Runs (l (not (eqb (slice_index byte.bytes 0) 0))) rest o

    flag_read : (l : Bool → Layout Outline) (fs : List Field) (o : Outline) → AreBytes (flat fs) → Runs (bind flag_layout l) fs o → FlagRead l fs o
    flag_read l [] o b r = absurd cc
    flag_read l (f ∷ fs) o b r = record { byte = f; rest = fs; fields = refl; takes = r.0; bytes = bytes_front f.bytes (flat fs) b; bytes_rest = bytes_back f.bytes (flat fs) b; runs = r.1 }

    numbers_open : (f : NodeKind) (l : Layout ℕ) (ps : List ℕ → List Segment) (P : ℕ → Type 0) (head : Bool → List ℕ → StoredHead) (h : Bool → List ℕ → Head) → ((k : ℕ) (fs : List Field) (ns : List ℕ) → AreBytes (flat fs) → Runs (many k l) fs ns → Numbers R ps P k fs ns)
        → ((a : Arena) (b : Bool) (ns : List ℕ) → head_content a (head b ns) ≡ h b ns) → ((a : Arena) (b : Bool) (ns : List ℕ) → HeadNames a (head b ns)) → ((b : Bool) (ns : List ℕ) → stored_marker (head b ns) ≡ node_marker f)
        → ((b : Bool) (ns : List ℕ) → AllByRecursion P ns → Fits (h b ns) [] []) → ((b : Bool) (ns : List ℕ) (w : Words) → n ≡ 2 * length ns + 1 → HeaderBy free (h b ns) [] n w [] w)
        → ((b : Bool) (ns : List ℕ) (qs : List (List ℕ × Value)) (t u : Tables) (fs : List Field) → AllByRecursion P ns → Segments R free (flag b ∷ ps ns) t fs u → Segments R free (segments_of (h b ns) qs []) t fs u)
        → (fs : List Field) (o : Outline) → AreBytes (flat fs) → Runs (bind flag_layout (λ b. bind (many (n / 2) l) (λ ns. give (whole_node s (head b ns))))) fs o → OpenSound R f n s fs o
    numbers_open f l ps P head h sound content names mark fits header parts fs o b r =
        let c = flag_read (λ b. bind (many (n / 2) l) (λ ns. give (whole_node s (head b ns)))) fs o b r in
        let v = not (eqb (slice_index c.byte.bytes 0) 0) in
        let d = bind_runs (many (n / 2) l) (λ ns. give (whole_node s (head v ns))) c.rest o c.runs in
        let db = bytes_parts c.rest d.front d.back d.parts c.bytes_rest in
        last c.byte c.rest c.fields c.takes c.bytes d.value d.front d.back d.parts (sound (n / 2) d.front d.value db.0 d.first) d.second
      where
        last : (e : Field) (rest : List Field) → fs ≡ e ∷ rest → Takes (raw_kind 1) e → AreBytes e.bytes → (ns : List ℕ) (front back : List Field) → rest ≡ front ++ back → Numbers R ps P (n / 2) front ns
            → Path (give (whole_node s (head (not (eqb (slice_index e.bytes 0) 0)) ns))) back (give o) → OpenSound R f n s fs o
        last e rest joined k eb ns front [] parted m p =
            let v = not (eqb (slice_index e.bytes 0) 0) in
            let all : fs ≡ e ∷ front = joined ∙ ap (λ l. e ∷ l) (parted ∙ append-nil front) in
            subst (λ y. OpenSound R f n s fs y) (give_is (whole_node s (head v ns)) o p) (subst (λ l. OpenSound R f n s l (whole_node s (head v ns))) (sym all)
            (whole_open f (e ∷ front) s (head v ns) (h v ns) g itself refl refl refl (sym (content s.arena v ns)) (names s.arena v ns) (mark v ns) (fits v ns m.all) (λ w. header v ns w (odd ∙ ap (λ k. 2 * k + 1) (sym m.count)))
            (λ qs t u back q. parts v ns qs t u (e ∷ (front ++ back)) m.all (flag_built R (ps ns) e (front ++ back) t u k eb (m.built t u back q)))))
        last e rest joined k eb ns front (x ∷ back) parted m p = absurd p

    -- objects and wrappers
    object_open : (f : NodeKind) → node_marker f ≡ 0x0A → (fs : List Field) (o : Outline) → TraitsSound n s fs o → OpenSound R f n s fs o
    object_open f marked fs o t = by_head o.head refl t.entry refl t.head
      where
        counted : (e : Entry) → t.entry ≡ e → total o ≡ sealed_of e
        counted e i = ap (λ b. cond b (2 * o.count) o.count) t.twins ∙ t.count ∙ ap sealed_of i

        members : (d : Bool) (qs : List (List ℕ × Value)) → o.last ≡ d → (o.first ≡ false → o.last ≡ false → qs ≡ []) → AreMembers d qs
        members true qs e none = tt
        members false qs e none = none t.first e

        of_traits : (h : Head) (e : Entry) → t.entry ≡ e → head_content o.state.arena o.head ≡ h → ((qs : List (List ℕ × Value)) (vs : List Value) (w w' : Words) (fs : List Field) → TraitsBy free e n w fs w' → HeaderBy free h vs n w fs w')
            → ((qs : List (List ℕ × Value)) (vs : List Value) → behind false (dynamic_of e) qs vs ≡ segments_of h qs vs) → ((qs : List (List ℕ × Value)) (vs : List Value) → length vs ≡ sealed_of e → AreMembers (dynamic_of e) qs → Fits h qs vs)
            → HeadNames o.state.arena o.head → stored_marker o.head ≡ 0x0A → takes_parts o.head ≡ true → OpenSound R f n s fs o
        of_traits h e i is header lay fits named mark takes = record {
          good = t.good;
          larger = t.larger;
          nodes = t.nodes;
          node_table = t.node_table;
          named = named;
          mark = mark ∙ sym marked;
          once = inl t.first;
          leaf = λ k. absurd (true_false (takes_parts o.head) takes k);
          fits = λ qs vs count none. subst (λ k. Fits k qs vs) (sym is) (fits qs vs (count ∙ counted e i) (members (dynamic_of e) qs (t.last ∙ ap dynamic_of i) none));
          spelled = λ w u qs vs back same count p.
              let q : Segments R free (segments_of h qs vs) (with_words w o.state.words) back u =
              subst (λ l. Segments R free l (with_words w o.state.words) back u) (ap (λ b. behind b o.last qs vs) t.first ∙ ap (λ b. behind false b qs vs) (t.last ∙ ap dynamic_of i) ∙ lay qs vs) p in
              let by : TraitsBy free e n w.words fs o.state.words = subst (λ v. TraitsBy free e n v fs o.state.words) (sym same) (subst (λ k. TraitsBy free k n s.words fs o.state.words) i t.spelled) in
              let all : Behind R h qs vs n w (fs ++ back) u = record { front = fs; back = back; mid = with_words w o.state.words; joined = refl; first = (o.state.words, header qs vs w.words o.state.words fs by, refl); second = q } in
              subst (λ k. Behind R k qs vs n w (fs ++ back) u) (sym is) all;
        }
          where
            true_false : (b : Bool) → b ≡ true → b ≡ false → ⊥
            true_false b p q = cc

        by_head : (h : StoredHead) → o.head ≡ h → (e : Entry) → t.entry ≡ e → IsHeadOf o.state.arena h e → OpenSound R f n s fs o
        by_head (arena.object k) i (plain c) j q =
            of_traits (graph.object c) (plain c) j (ap (head_content o.state.arena) i ∙ ap graph.object q.1) (λ qs vs w w' fs p. p) (λ qs vs. refl) (λ qs vs c m. (c, m)) (subst (HeadNames o.state.arena) (sym i) q.0) (ap stored_marker i) (ap takes_parts i)
        by_head (arena.wrapper c) i (external d) j q =
            of_traits (graph.wrapper d) (external d) j (ap (head_content o.state.arena) i ∙ ap graph.wrapper q) (λ qs vs w w' fs p. p) (λ qs vs. refl) (λ qs vs c m. (m, c)) (subst (HeadNames o.state.arena) (sym i) tt) (ap stored_marker i) (ap takes_parts i)
        by_head h i e j q = absurd q

    -- vectors of values, and dictionaries
    abbrev of_values : Bool → TextRead → Outline
    of_values f x = record { head = arena.values f x.id; count = n / 2; twins = false; first = false; last = false; state = x.state }

    values_open : (fs : List Field) (o : Outline) → AreBytes (flat fs) → Runs (bind flag_layout (λ f. bind (text_layout s) (λ x. give (of_values f x)))) fs o → OpenSound R kind.Values n s fs o
    values_open fs o b r =
        let c = flag_read (λ f. bind (text_layout s) (λ x. give (of_values f x))) fs o b r in
        let v = not (eqb (slice_index c.byte.bytes 0) 0) in
        let d = bind_runs (text_layout s) (λ x. give (of_values v x)) c.rest o c.runs in
        let db = bytes_parts c.rest d.front d.back d.parts c.bytes_rest in
        last c.byte c.rest c.fields c.takes c.bytes d.value d.front d.back d.parts (text_sound s g d.front d.value db.0 d.first) d.second
      where
        last : (e : Field) (rest : List Field) → fs ≡ e ∷ rest → Takes (raw_kind 1) e → AreBytes e.bytes → (x : TextRead) (front back : List Field) → rest ≡ front ++ back → TextSound (text_header_refusal (length s.words.texts)) text_kind s front x
            → Path (give (of_values (not (eqb (slice_index e.bytes 0) 0)) x)) back (give o) → OpenSound R kind.Values n s fs o
        last e rest joined k eb x front [] parted one p =
            let v = not (eqb (slice_index e.bytes 0) 0) in
            let all : fs ≡ e ∷ front = joined ∙ ap (λ l. e ∷ l) (parted ∙ append-nil front) in
            subst (λ y. OpenSound R kind.Values n s fs y) (give_is (of_values v x) o p) (subst (λ l. OpenSound R kind.Values n s l (of_values v x)) (sym all) (record {
              good = one.good;
              larger = one.larger;
              nodes = one.nodes;
              node_table = one.node_table;
              named = one.id;
              mark = refl;
              once = inl refl;
              leaf = λ z. absurd cc;
              fits = λ qs vs c h. h refl refl;
              spelled = λ t u qs vs back same count q.
                  let inside : Segments R free (flag v ∷ word x.bytes ∷ values_then vs []) (with_words t s.words) (e ∷ (front ++ back)) u =
                  flag_built R (word x.bytes ∷ values_then vs []) e (front ++ back) (with_words t s.words) u k eb (record { front = front; back = back; mid = with_words t x.state.words; joined = refl; first = (x.state.words, one.spelled, refl); second = q }) in
                  let every : Behind R (graph.values v x.bytes) qs vs n t (e ∷ (front ++ back)) u =
                  record { front = []; back = e ∷ (front ++ back); mid = with_words t s.words; joined = refl; first = (s.words, (odd ∙ ap (λ k. 2 * k + 1) (sym count), (refl, sym same)), refl); second = inside } in
                  subst (λ y. Behind R (graph.values v y) qs vs n t (e ∷ (front ++ back)) u) (sym one.there) every;
            }))
        last e rest joined k eb x front (y ∷ back) parted one p = absurd p

    abbrev of_entries : Bool → Outline
    of_entries f = record { head = arena.dictionary f; count = n / 2; twins = true; first = false; last = false; state = s }

    entries_open : (fs : List Field) (o : Outline) → AreBytes (flat fs) → Runs (bind flag_layout (λ f. give (of_entries f))) fs o → OpenSound R kind.Dictionary n s fs o
    entries_open [] o b r = absurd cc
    entries_open (e ∷ []) o b r =
        let v = not (eqb (slice_index e.bytes 0) 0) in
        subst (λ y. OpenSound R kind.Dictionary n s (e ∷ []) y) (give_is (of_entries v) o r.1) (record {
          good = g;
          larger = itself;
          nodes = refl;
          node_table = refl;
          named = tt;
          mark = refl;
          once = inl refl;
          leaf = λ z. absurd cc;
          fits = λ qs vs c h. (h refl refl, n / 2, c);
          spelled = λ t u qs vs back same count q. record {
            front = [];
            back = e ∷ back;
            mid = with_words t s.words;
            joined = refl;
            first = (s.words, (n / 2, count, (odd, (refl, sym same))), refl);
            second = flag_built R (values_then vs []) e back (with_words t s.words) u r.0 (bytes_front e.bytes [] b) q;
          };
        })
    entries_open (e ∷ f ∷ fs) o b r = absurd r.1

pub open_sound : (R : Value → Spelling Tables) (f : NodeKind) (n : ℕ) (s : State3) → Good s → n ≡ 2 * (n / 2) + 1 → eqb (n % 2) 0 ≡ false → (node_marker f ≡ 0x0A → eqb (n % 4) 1 ≡ true → n / 4 < length s.words.traits) → (fs : List Field) (o : Outline) → AreBytes (flat fs) → Runs (opening f n s) fs o → OpenSound R f n s fs o
open_sound R kind.XmlDocument n s g odd test place fs o b r =
    text_node R n s g odd kind.XmlDocument arena.xml_document graph.xml_document (λ a i. refl) (λ a i h. h) (λ i. refl) (λ x h. (h, refl, refl)) (λ x w e. (e, (refl, refl))) (λ x fs qs t u back e q. record { front = fs; back = back; mid = t; joined = refl; first = (e, refl); second = q }) fs o b r
open_sound R kind.Xml n s g odd test place fs o b r =
    text_node R n s g odd kind.Xml arena.xml graph.xml (λ a i. refl) (λ a i h. h) (λ i. refl) (λ x h. (h, refl, refl)) (λ x w e. (e, (refl, refl))) (λ x fs qs t u back e q. record { front = fs; back = back; mid = t; joined = refl; first = (e, refl); second = q }) fs o b r
open_sound R kind.Date n s g odd test place [] o b r = absurd cc
open_sound R kind.Date n s g odd test place (f ∷ []) o b r =
    let p = from_be_bytes w64 f.bytes in
    let i = eight_is f r.0 (bytes_front f.bytes [] b) in
    subst (λ y. OpenSound R kind.Date n s (f ∷ []) y) (give_is (whole_node s (arena.date p)) o r.1)
    (whole_open R n s g kind.Date (f ∷ []) s (arena.date p) (graph.date p) g (itself R n s g) refl refl refl refl tt refl (i.1, refl, refl) (λ w. (n / 2, tt, (odd, (refl, refl))))
    (λ qs t u back q. record { front = f ∷ []; back = back; mid = t; joined = refl; first = (ap (λ h. h ∷ []) i.0, refl); second = q }))
open_sound R kind.Date n s g odd test place (f ∷ h ∷ fs) o b r = absurd r.1
open_sound R kind.Array n s g odd test place [] o b r =
    subst (λ y. OpenSound R kind.Array n s [] y) (give_is (let k : Outline = record { head = arena.array; count = n / 2; twins = false; first = true; last = false; state = s } in k) o r) (record {
      good = g;
      larger = itself R n s g;
      nodes = refl;
      node_table = refl;
      named = tt;
      mark = refl;
      once = inr refl;
      leaf = λ e. absurd cc;
      fits = λ qs vs c h. tt;
      spelled = λ t u qs vs back same count p. record { front = []; back = back; mid = with_words t s.words; joined = refl; first = (s.words, (odd ∙ ap (λ k. 2 * k + 1) (sym count), (refl, sym same)), refl); second = p };
    })
open_sound R kind.Array n s g odd test place (f ∷ fs) o b r = absurd r
open_sound R kind.Object n s g odd test place fs o b r = object_open R n s g odd kind.Object refl fs o (traits_sound n s g test (place refl) fs o b r)
open_sound R kind.Wrapper n s g odd test place fs o b r = object_open R n s g odd kind.Wrapper refl fs o (traits_sound n s g test (place refl) fs o b r)
open_sound R kind.Bytes n s g odd test place fs o b r =
    let c = chunk_taken raw_kind AreBytes (n / 2) (λ x. whole_node s (arena.bytes x)) fs o (λ n. refl) tt (λ k y h _. h) b r in
    let x = c.bytes in
    subst (λ y. OpenSound R kind.Bytes n s fs y) c.is
    (whole_open R n s g kind.Bytes fs s (arena.bytes x) (graph.bytes x) g (itself R n s g) refl refl refl refl tt refl (c.good, refl, refl) (λ w. (odd ∙ ap (λ k. 2 * k + 1) (sym c.long), (refl, refl)))
    (λ qs t u back q. record { front = fs; back = back; mid = t; joined = refl; first = (c.fields, refl); second = q }))
open_sound R kind.Ints n s g odd test place fs o b r =
    numbers_open R n s g odd kind.Ints four_layout fours (λ k. k < 2 ^ 32) (λ f ns. arena.ints f (map (cast_signed w32) ns)) (λ f ns. graph.ints f (map (cast_signed w32) ns)) (fours_sound R) (λ a f ns. refl) (λ a f ns. tt) (λ f ns. refl) (λ f ns h. (signed_all R n s g ns h, refl, refl))
    (λ f ns w e. (e ∙ ap (λ k. 2 * k + 1) (sym (signed_count R n s g ns)), (refl, refl))) (λ f ns qs t u fs h p. subst (λ l. Segments R free (flag f ∷ l) t fs u) (sym (signed_same R n s g ns h)) p) fs o b r
open_sound R kind.Uints n s g odd test place fs o b r =
    numbers_open R n s g odd kind.Uints four_layout fours (λ k. k < 2 ^ 32) arena.uints graph.uints (fours_sound R) (λ a f ns. refl) (λ a f ns. tt) (λ f ns. refl) (λ f ns h. (h, refl, refl)) (λ f ns w e. (e, (refl, refl))) (λ f ns qs t u fs h p. p) fs o b r
open_sound R kind.Doubles n s g odd test place fs o b r =
    numbers_open R n s g odd kind.Doubles eight_layout eights IsPattern arena.doubles graph.doubles (eights_sound R) (λ a f ns. refl) (λ a f ns. tt) (λ f ns. refl) (λ f ns h. (h, refl, refl)) (λ f ns w e. (e, (refl, refl))) (λ f ns qs t u fs h p. p) fs o b r
open_sound R kind.Values n s g odd test place fs o b r = values_open R n s g odd fs o b r
open_sound R kind.Dictionary n s g odd test place fs o b r = entries_open R n s g odd fs o b r
