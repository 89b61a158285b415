-- Texts and traits that are read are spelled so.
use Rattle.std.proofs.Common.{◌≡◌, ℕ, zero, suc, ◌+◌, ◌*◌, ◌/◌, ◌%◌, ◌<◌, Bool, true, false, cond, eqb, leb, ◌&&◌, List, [], ◌∷◌, ◌++◌, length, map, get_or, Option, Some, None, refl, sym, ap, ◌∙◌, arith, subst, length-append}
use Rattle.std.proofs.lemmas.Bool.{eqb-true, eqb-false}
use Rattle.std.proofs.lemmas.List.{append-nil, length-map}
use Rattle.std.proofs.lemmas.Option.{slice_get-get_or}
use Rattle.std.proofs.Math.Seq.{get_or-append_seam}
use Rattle.std.specs.List.{AllByRecursion}
use Rattle.amf_wire.specs.Style.{free}
use Rattle.amf_wire.specs.U29.{SpellsU29, IsU29, u29_value}
use Rattle.amf_wire.specs.Text.{IsText, is_text}
use Rattle.amf_wire.proofs.TextTest.{is_text-is}
use Rattle.amf_wire.proofs.U29Fields.{one_field_spells}
use Rattle.amf_io.specs.declared.reason.Reason.{Reason}
use Rattle.amf_io.specs.declared.reason.Reason.TheVariants.{BadText, BadTextIndex}
use Rattle.amf_io.specs.Field.{Kind, Field, field, fixed, u29, whole, AreBytes, u29_kind, text_kind, flat}
use Rattle.amf_io.specs.Layout.{give, bind, Takes, Path, Runs}
use Rattle.amf_io.proofs.Whole.{whole_fixed}
use Rattle.amf_io.proofs.Bytes.{bytes_front}
use Rattle.amf_io.proofs.Paths.{bind_runs}
use Rattle.amf_io.proofs.Ables.{bytes_parts}
use Rattle.amf_graph.specs.Arena.{Arena, text_at, IsTextId}
use Rattle.amf3_spelling.specs.Tables as content
use Rattle.amf3_spelling.specs.Refusals3.{text_header_refusal}
use Rattle.amf3_spelling.specs.Words3.{TextBy, Text, Texts}
use Rattle.amf3_spelling.specs.Words3 as words
use Rattle.amf3_layout_laws.specs.Layout3State.{State3, with_text}
use Rattle.amf3_layout_laws.specs.Layout3Words.{chunk, TextRead, known_text, new_text, text_by, text_layout, TextsRead, more_text, texts_layout}
use Rattle.amf3_layout_laws.proofs.Layout3Contents.{Larger, larger_itself, larger_twice, text_id, text_stays, all_at, Good, good_text}

all_below : (bytes : List ℕ) → AreBytes bytes → (i : ℕ) → get_or bytes i 0 < 256
all_below [] b i = omega arith
all_below (x ∷ bytes) b zero = b.0
all_below (x ∷ bytes) b (suc i) = all_below bytes b.1 i

-- a field that was taken is a field of its kind
pub taken : (k : Kind) (f : Field) → Takes k f → f ≡ field k f.bytes
taken k f t = ap (λ j. field j f.bytes) t.is_kind

pub spelled_number : (b : List ℕ) → AreBytes b → whole u29 b ≡ Some (length b) → SpellsU29 (u29_value b) b
spelled_number b h w = one_field_spells b (all_below b h) w

pub is_number : (n : ℕ) (b : List ℕ) → AreBytes b → whole u29 b ≡ Some (length b) → u29_value b ≡ n → IsU29 free n b
is_number n b h w e = record { spelled = subst (λ k. SpellsU29 k b) e (spelled_number b h w); shortest = tt }

pub give_is : {X : Type 0} (x y : X) → give x ≡ give y → x ≡ y
give_is x y e = cc

pub even_is : (h : ℕ) → eqb (h % 2) 0 ≡ true → h ≡ 2 * (h / 2)
even_is h e = let d = eqb-true (h % 2) 0 e in omega arith

pub odd_is : (h : ℕ) → eqb (h % 2) 0 ≡ false → h ≡ 2 * (h / 2) + 1
odd_is h e = let d = eqb-false (h % 2) 0 e in omega arith

pub record TextSound (refusal : ℕ → Option Reason) (contents : ℕ → Kind) (s : State3) (fs : List Field) (x : TextRead) : Type 0 where
  pub good : Good x.state
  pub larger : Larger s.arena x.state.arena
  pub nodes : x.state.arena.nodes ≡ s.arena.nodes
  pub node_table : x.state.tables.nodes ≡ s.tables.nodes
  pub is_text : IsText x.bytes
  pub id : IsTextId x.state.arena x.id
  pub there : text_at x.state.arena x.id ≡ x.bytes
  pub spelled : TextBy free (u29_kind refusal) contents x.bytes s.words fs x.state.words

text_of_map : (a : Arena) (ids : List ℕ) (k : ℕ) → k < length ids → get_or (map (text_at a) ids) k [] ≡ text_at a (get_or ids k 0)
text_of_map a [] k lt = absurd (omega arith)
text_of_map a (i ∷ ids) zero lt = refl
text_of_map a (i ∷ ids) (suc k) lt = text_of_map a ids k (omega arith)

-- contents of a kind whose fields are texts of the length that is asked for
pub record AreTexts (contents : ℕ → Kind) : Type 0 where
  pub sizes : (n : ℕ) → (contents n).size ≡ fixed n
  pub texts : (n : ℕ) (b : List ℕ) → (contents n).refusal b ≡ None → IsText b

module _ (refusal : ℕ → Option Reason) (contents : ℕ → Kind) (s : State3) (g : Good s) (texts : AreTexts contents) (index : (h : ℕ) → eqb (h % 2) 0 ≡ true → refusal h ≡ None → h / 2 < length s.words.texts) where
  new_sound : (x : List ℕ) (fs : List Field) → IsText x → TextBy free (u29_kind refusal) contents x s.words fs (with_text s x).words → TextSound refusal contents s fs (new_text s x)
  new_sound x fs is spelled = record {
    good = good_text s x is g;
    larger = record { more_texts = x ∷ []; texts = refl; more_traits = []; traits = sym (append-nil s.arena.traits); nodes = omega arith };
    nodes = refl;
    node_table = refl;
    is_text = is;
    id = omega (arith, length-append s.arena.texts (x ∷ []));
    there = get_or-append_seam s.arena.texts x [] [];
    spelled = spelled;
  }

  chunk_sound : (f : Field) → Takes (u29_kind refusal) f → AreBytes f.bytes → (k : ℕ) → u29_value f.bytes ≡ 2 * k + 1 → (fs : List Field) (x : TextRead) → Runs (chunk contents k (λ y. give (new_text s y))) fs x → TextSound refusal contents s (f ∷ fs) x
  chunk_sound f t b zero e [] x r =
      subst (λ y. TextSound refusal contents s (f ∷ []) y) (give_is (new_text s []) x r)
      (new_sound [] (f ∷ []) ((is_text-is []).0 refl) (words.empty refl f.bytes (is_number 1 f.bytes b t.is_whole e) (ap (λ h. h ∷ []) (taken (u29_kind refusal) f t)) refl))
  chunk_sound f t b zero e (h ∷ fs) x r = absurd r
  chunk_sound f t b (suc k) e [] x r = absurd cc
  chunk_sound f t b (suc k) e (h ∷ []) x r =
      let long : suc k ≡ length h.bytes = whole_fixed (suc k) h.bytes (length h.bytes) (subst (λ z. whole z h.bytes ≡ Some (length h.bytes)) (texts.sizes (suc k)) r.0.is_whole) in
      let is = texts.texts (suc k) h.bytes r.0.clean in
      subst (λ y. TextSound refusal contents s (f ∷ h ∷ []) y) (give_is (new_text s h.bytes) x r.1) (by_bytes h.bytes refl long is)
    where
      by_bytes : (y : List ℕ) → h.bytes ≡ y → suc k ≡ length h.bytes → IsText h.bytes → TextSound refusal contents s (f ∷ h ∷ []) (new_text s h.bytes)
      by_bytes [] q long is = absurd (let z : length h.bytes ≡ 0 = ap length q in omega arith)
      by_bytes (c ∷ y) q long is =
          new_sound h.bytes (f ∷ h ∷ []) is
          (subst (λ z. TextBy free (u29_kind refusal) contents z s.words (f ∷ h ∷ []) (with_text s z).words) (sym q)
          (words.whole (λ z. cc) (subst IsText q is) tt f.bytes (is_number (2 * length (c ∷ y) + 1) f.bytes b t.is_whole (e ∙ ap (λ n. 2 * n + 1) (long ∙ ap length q)))
          (ap (λ z. z ∷ h ∷ []) (taken (u29_kind refusal) f t) ∙ ap (λ z. field (u29_kind refusal) f.bytes ∷ z ∷ []) (taken (contents (suc k)) h r.0 ∙ ap (λ n. field (contents n) h.bytes) (long ∙ ap length q) ∙ ap (λ z. field (contents (length (c ∷ y))) z) q)) refl))
  chunk_sound f t b (suc k) e (h ∷ i ∷ fs) x r = absurd r.1

  header_sound : (f : Field) → Takes (u29_kind refusal) f → AreBytes f.bytes → (even : Bool) → eqb (u29_value f.bytes % 2) 0 ≡ even → (fs : List Field) (x : TextRead)
      → Runs (cond even (give (known_text s (u29_value f.bytes / 2))) (chunk contents (u29_value f.bytes / 2) (λ y. give (new_text s y)))) fs x → TextSound refusal contents s (f ∷ fs) x
  header_sound f t b true e [] x r =
      let h = u29_value f.bytes in
      let k = h / 2 in
      let lt = index h e t.clean in
      let ids = s.tables.texts in
      let same : s.words.texts ≡ map (text_at s.arena) ids = ap (λ (w : content.Words). w.texts) g.words in
      let below : k < length ids = omega (arith, ap length same, length-map ids (text_at s.arena)) in
      let id = get_or ids k 0 in
      let there : text_at s.arena id ≡ get_or s.words.texts k [] = sym (ap (λ l. get_or l k []) same ∙ text_of_map s.arena ids k below) in
      let good_id : IsTextId s.arena id = all_at (IsTextId s.arena) ids k 0 g.tables.texts below in
      subst (λ y. TextSound refusal contents s (f ∷ []) y) (give_is (known_text s k) x r) (record {
        good = g;
        larger = larger_itself s.arena s.arena refl refl (omega arith);
        nodes = refl;
        node_table = refl;
        is_text = subst IsText there (all_at IsText s.arena.texts id [] g.kept.texts good_id);
        id = good_id;
        there = there;
        spelled = words.placed tt k (slice_get-get_or s.words.texts k [] lt) tt f.bytes (is_number (2 * k) f.bytes b t.is_whole (even_is h e)) (ap (λ z. z ∷ []) (taken (u29_kind refusal) f t)) refl;
      })
  header_sound f t b true e (h ∷ fs) x r = absurd r
  header_sound f t b false e fs x r = chunk_sound f t b (u29_value f.bytes / 2) (odd_is (u29_value f.bytes) e) fs x r

  pub text_by_sound : (fs : List Field) (x : TextRead) → AreBytes (flat fs) → Runs (text_by (u29_kind refusal) contents s) fs x → TextSound refusal contents s fs x
  text_by_sound [] x b r = absurd cc
  text_by_sound (f ∷ fs) x b r = header_sound f r.0 (bytes_front f.bytes (flat fs) b) (eqb (u29_value f.bytes % 2) 0) refl fs x r.1

text_index : (texts h : ℕ) → eqb (h % 2) 0 ≡ true → text_header_refusal texts h ≡ None → h / 2 < texts
text_index texts h e ok = go (leb texts (h / 2)) refl (ap (λ t. cond (t && leb texts (h / 2)) (Some BadTextIndex) None) (sym e) ∙ ok)
  where
    below : (a b : ℕ) → leb a b ≡ false → b < a
    below a b e = grind arith

    go : (t : Bool) → leb texts (h / 2) ≡ t → cond t (Some BadTextIndex) None ≡ None → h / 2 < texts
    go true e f = absurd cc
    go false e f = below texts (h / 2) e

pub texts_are : AreTexts text_kind
texts_are = record { sizes = λ n. refl; texts = λ n b c. judged b (is_text b) refl c }
  where
    judged : (b : List ℕ) (t : Bool) → is_text b ≡ t → cond t None (Some BadText) ≡ None → IsText b
    judged b true e c = (is_text-is b).0 e
    judged b false e c = absurd cc

pub text_sound : (s : State3) → Good s → (fs : List Field) (x : TextRead) → AreBytes (flat fs) → Runs (text_layout s) fs x → TextSound (text_header_refusal (length s.words.texts)) text_kind s fs x
text_sound s g fs x b r = text_by_sound (text_header_refusal (length s.words.texts)) text_kind s g texts_are (text_index (length s.words.texts)) fs x b r

-- texts one after the other
pub record TextsSound (s : State3) (k : ℕ) (fs : List Field) (x : TextsRead) : Type 0 where
  pub good : Good x.state
  pub larger : Larger s.arena x.state.arena
  pub nodes : x.state.arena.nodes ≡ s.arena.nodes
  pub node_table : x.state.tables.nodes ≡ s.tables.nodes
  pub count : length x.texts ≡ k
  pub ids : AllByRecursion (IsTextId x.state.arena) x.ids
  pub there : map (text_at x.state.arena) x.ids ≡ x.texts
  pub spelled : Texts free x.texts s.words fs x.state.words

pub texts_sound : (k : ℕ) (s : State3) → Good s → (fs : List Field) (x : TextsRead) → AreBytes (flat fs) → Runs (texts_layout k s) fs x → TextsSound s k fs x
texts_sound zero s g [] x b r =
    subst (λ y. TextsSound s 0 [] y) (give_is (record { ids = []; texts = []; state = s }) x r) (record { good = g; larger = larger_itself s.arena s.arena refl refl (omega arith); nodes = refl; node_table = refl; count = refl; ids = tt; there = refl; spelled = (refl, refl) })
texts_sound zero s g (f ∷ fs) x b r = absurd r
texts_sound (suc k) s g fs x b r =
    let a = bind_runs (text_layout s) (λ y. bind (texts_layout k y.state) (λ ys. give (more_text y ys))) fs x r in
    let ab = bytes_parts fs a.front a.back a.parts b in
    let one = text_sound s g a.front a.value ab.0 a.first in
    let c = bind_runs (texts_layout k a.value.state) (λ ys. give (more_text a.value ys)) a.back x a.second in
    let cb = bytes_parts a.back c.front c.back c.parts ab.1 in
    let more = texts_sound k a.value.state one.good c.front c.value cb.0 c.first in
    last a.value a.front a.back c.value c.front c.back a.parts c.parts one more c.second
  where
    last : (y : TextRead) (front back : List Field) (ys : TextsRead) (mid end : List Field) → fs ≡ front ++ back → back ≡ mid ++ end → TextSound (text_header_refusal (length s.words.texts)) text_kind s front y → TextsSound y.state k mid ys → Path (give (more_text y ys)) end (give x) → TextsSound s (suc k) fs x
    last y front back ys mid [] e h one more p =
        let same : back ≡ mid = h ∙ append-nil mid in
        subst (λ z. TextsSound s (suc k) fs z) (give_is (more_text y ys) x p) (record {
          good = more.good;
          larger = larger_twice s.arena y.state.arena ys.state.arena one.larger more.larger;
          nodes = more.nodes ∙ one.nodes;
          node_table = more.node_table ∙ one.node_table;
          count = ap suc more.count;
          ids = (text_id y.state.arena ys.state.arena more.larger y.id one.id, more.ids);
          there = ap (λ t. t ∷ map (text_at ys.state.arena) ys.ids) (text_stays y.state.arena ys.state.arena more.larger y.id one.id ∙ one.there) ∙ ap (λ l. y.bytes ∷ l) more.there;
          spelled = record { front = front; back = mid; mid = y.state.words; joined = e ∙ ap (λ l. front ++ l) same; first = one.spelled; second = more.spelled };
        })
    last y front back ys mid (f ∷ end) e h one more p = absurd p
