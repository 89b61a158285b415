-- What a writer's table of traits keeps, against the entries that it stands for.
use Rattle.std.specs.Prelude.{◌≡◌, ◌≢◌, ℕ, zero, suc, ◌+◌, ◌<◌, ◌≤◌, List, [], ◌∷◌, ◌++◌, length, map, slice_get, get_or, Option, Some, None, Result, Ok, Err, IfSome, IfNone, IfOk, OnOk, OnErr, MatchOption}
use Rattle.std.specs.List.{AllByRecursion}
use Rattle.std.proofs.Common.{refl, ap, sym, subst, ◌∙◌, arith, below_more}
use Rattle.std.proofs.lemmas.List.{map-append, length-map}
use Rattle.std.proofs.lemmas.Option.{same_Some, slice_get_read, slice_get_within}
use Rattle.amf_graph.proofs.Alls.{each_at, all_push}
use Rattle.amf_graph.proofs.Matched.{map_get}
use Rattle.amf_graph.specs.Graph.{Traits}
use Rattle.amf_graph.specs.declared.wrapped.Wrapped.{Wrapped}
use Rattle.amf_graph.specs.Order.{Absent}
use Rattle.amf3_spelling.specs.Tables.{Entry, plain, external, Tables, with_words, add_text, add_entry}
use Rattle.amf3_spelling.specs.Words3.{NoPlaceBelow}
use Rattle.amf_tables.specs.FirstPlace.{IsFirstPlace}
use Rattle.amf_tables.specs.TextCodes.{text_of, IsCodeOf, IsUncoded, AreCodesOf, HasUncoded}
use Rattle.amf_tables.specs.WrittenParts.{Written, coded, copied, wrapped, entry_of, IsWritten, IsNoCopy, IsWrittenFor, IsUnwritten, IsPushed}
use Rattle.amf_tables.specs.SpelledNodes.{Spelled}
use Rattle.amf_tables.specs.TableParts.{written_tables}
use Rattle.amf_tables.specs.TextPlaces.{IsEntered}
use Rattle.amf_tables.specs.declared.text_place.TextPlace.{TextPlace}
use Rattle.amf_tables.specs.declared.text_place.TextPlace.TheVariants.{Old, New}
use Rattle.amf_tables.proofs.TextCodes.{named, is_code, uncoded_named, same_code, same_codes, text_stays, code_stays, texts_stay, codes_stay}

-- Where one thing alone gives x, its first place is that of x.

abbrev IsOnly : {W X : Type 0} → (W → X) → List W → X → W → Type 0
IsOnly {W = W} f ws x w = (j : ℕ) (v : W) → slice_get ws j ≡ Some v → f v ≡ x → v ≡ w

given_at : {W X : Type 0} (f : W → X) (ws : List W) (j : ℕ) (x : X) → slice_get (map f ws) j ≡ Some x → (v : W) × (slice_get ws j ≡ Some v) × (f v ≡ x)
given_at f [] j x e = cc
given_at f (w ∷ ws) zero x e = (w, refl, same_Some (f w) x e)
given_at f (w ∷ ws) (suc j) x e = given_at f ws j x e

first_of : {W X : Type 0} (f : W → X) (ws : List W) (x : X) (w : W) (k : ℕ) → IsOnly f ws x w → f w ≡ x → IsFirstPlace ws w k → IsFirstPlace (map f ws) x k
first_of f ws x w k only s first = (
  map_get f ws k w first.0 ∙ ap (λ y. Some y) s,
  λ j before e. let g = given_at f ws j x e in first.1 j before (subst (λ y. slice_get ws j ≡ Some y) (only j g.0 g.1 g.2) g.1),
)

absent_of : {W X : Type 0} (f : W → X) (ws : List W) (x : X) (w : W) → IsOnly f ws x w → Absent ws w → Absent (map f ws) x
absent_of f ws x w only none j e = let g = given_at f ws j x e in none j (subst (λ y. slice_get ws j ≡ Some y) (only j g.0 g.1 g.2) g.1)

-- Traits by codes.

plain_same : (t u : Traits) → plain t ≡ plain u → t ≡ u
plain_same t u e = cc

-- traits one of whose texts has no code
pub class_unwritten : (texts : List (List ℕ)) (t : Traits) → IsUncoded texts t.class → IsUnwritten texts (plain t)
class_unwritten texts t none (coded c d s) for = none c (subst (λ w. IsCodeOf texts w c) (ap (λ (t : Traits). t.class) (plain_same _ t for.same)) for.codes.0)
class_unwritten texts t none (copied u) for = absurd for.own
class_unwritten texts t none (wrapped c) for = let h = for.same in cc

pub sealed_unwritten : (texts : List (List ℕ)) (t : Traits) → HasUncoded texts t.sealed → IsUnwritten texts (plain t)
sealed_unwritten texts t none (coded c d s) for = uncoded_named texts s for.codes.1 (subst (HasUncoded texts) (sym (ap (λ (t : Traits). t.sealed) (plain_same _ t for.same))) none)
sealed_unwritten texts t none (copied u) for = absurd for.own
sealed_unwritten texts t none (wrapped c) for = let h = for.same in cc

-- traits whose texts have codes
pub written_for : (texts : List (List ℕ)) (t : Traits) (c : ℕ) (s : List ℕ) → IsCodeOf texts t.class c → AreCodesOf texts t.sealed s → IsWrittenFor texts (plain t) (coded c t.dynamic s)
written_for texts t c s class sealed = record {
  same = ap (λ (w : List ℕ). plain (record { class = w; dynamic = t.dynamic; sealed = map (text_of texts) s })) (named texts t.class c class)
      ∙ ap (λ (w : List (List ℕ)). plain (record { class = t.class; dynamic = t.dynamic; sealed = w })) sealed.named;
  codes = (is_code texts t.class c class, sealed.codes);
  own = tt;
}

same_written : (texts : List (List ℕ)) (v w : Written) → IsWritten texts v → IsNoCopy v → IsWritten texts w → IsNoCopy w → entry_of texts v ≡ entry_of texts w → v ≡ w
same_written texts (coded c d s) (coded c' d' s') a n b m e =
    let t = plain_same _ _ e in
    let class = same_code texts c c' a.0 b.0 (ap (λ (t : Traits). t.class) t) in
    let flag : d ≡ d' = ap (λ (t : Traits). t.dynamic) t in
    let sealed = same_codes texts s s' a.1 b.1 (ap (λ (t : Traits). t.sealed) t) in
    cc
same_written texts (coded c d s) (copied t) a n b m e = absurd m
same_written texts (coded c d s) (wrapped w) a n b m e = cc
same_written texts (copied t) w a n b m e = absurd n
same_written texts (wrapped c) (coded c' d s) a n b m e = cc
same_written texts (wrapped c) (copied t) a n b m e = absurd m
same_written texts (wrapped c) (wrapped w) a n b m e = cc

coded_only : (texts : List (List ℕ)) (ws : List Written) (e : Entry) (w : Written) → AllByRecursion (IsWritten texts) ws → AllByRecursion IsNoCopy ws → IsWrittenFor texts e w → IsOnly (entry_of texts) ws e w
coded_only texts ws e w codes own for j v at s = same_written texts v w (each_at (IsWritten texts) ws j v codes at) (each_at IsNoCopy ws j v own at) for.codes for.own (s ∙ sym for.same)

pub first_coded : (texts : List (List ℕ)) (ws : List Written) (e : Entry) (w : Written) (k : ℕ) → AllByRecursion (IsWritten texts) ws → AllByRecursion IsNoCopy ws → IsWrittenFor texts e w → IsFirstPlace ws w k → IsFirstPlace (map (entry_of texts) ws) e k
first_coded texts ws e w k codes own for = first_of (entry_of texts) ws e w k (coded_only texts ws e w codes own for) for.same

pub absent_coded : (texts : List (List ℕ)) (ws : List Written) (e : Entry) (w : Written) → AllByRecursion (IsWritten texts) ws → AllByRecursion IsNoCopy ws → IsWrittenFor texts e w → Absent ws w → Absent (map (entry_of texts) ws) e
absent_coded texts ws e w codes own for = absent_of (entry_of texts) ws e w (coded_only texts ws e w codes own for)

-- what no codes stand for is not there
pub absent_unwritten : (texts : List (List ℕ)) (ws : List Written) (e : Entry) → AllByRecursion (IsWritten texts) ws → AllByRecursion IsNoCopy ws → IsUnwritten texts e → Absent (map (entry_of texts) ws) e
absent_unwritten texts ws e codes own none j f =
    let g = given_at (entry_of texts) ws j e f in
    none g.0 (record { same = g.2; codes = each_at (IsWritten texts) ws j g.0 codes g.1; own = each_at IsNoCopy ws j g.0 own g.1 })

-- Externalizable classes.

wrapped_alone : (texts : List (List ℕ)) (v : Written) (c : Wrapped) → entry_of texts v ≡ external c → v ≡ wrapped c
wrapped_alone texts (coded k d s) c e = cc
wrapped_alone texts (copied t) c e = cc
wrapped_alone texts (wrapped w) c e = cc

pub first_wrapped : (texts : List (List ℕ)) (ws : List Written) (c : Wrapped) (k : ℕ) → IsFirstPlace ws (wrapped c) k → IsFirstPlace (map (entry_of texts) ws) (external c) k
first_wrapped texts ws c k = first_of (entry_of texts) ws (external c) (wrapped c) k (λ j v at. wrapped_alone texts v c) refl

pub absent_wrapped : (texts : List (List ℕ)) (ws : List Written) (c : Wrapped) → Absent ws (wrapped c) → Absent (map (entry_of texts) ws) (external c)
absent_wrapped texts ws c = absent_of (entry_of texts) ws (external c) (wrapped c) (λ j v at. wrapped_alone texts v c)

-- One text more behind all.

entry_stays : (texts : List (List ℕ)) (z : List ℕ) (w : Written) → IsWritten texts w → entry_of (texts ++ z ∷ []) w ≡ entry_of texts w
entry_stays texts z (coded c d s) a =
    ap (λ (w : List ℕ). plain (record { class = w; dynamic = d; sealed = map (text_of (texts ++ z ∷ [])) s })) (text_stays texts z c a.0)
    ∙ ap (λ (w : List (List ℕ)). plain (record { class = text_of texts c; dynamic = d; sealed = w })) (texts_stay texts z s a.1)
entry_stays texts z (copied t) a = refl
entry_stays texts z (wrapped c) a = refl

written_stays : (texts : List (List ℕ)) (z : List ℕ) (w : Written) → IsWritten texts w → IsWritten (texts ++ z ∷ []) w
written_stays texts z (coded c d s) a = (code_stays texts z c a.0, codes_stay texts z s a.1)
written_stays texts z (copied t) a = tt
written_stays texts z (wrapped c) a = tt

pub entries_stay : (texts : List (List ℕ)) (z : List ℕ) (ws : List Written) → AllByRecursion (IsWritten texts) ws → map (entry_of (texts ++ z ∷ [])) ws ≡ map (entry_of texts) ws
entries_stay texts z [] all = refl
entries_stay texts z (w ∷ ws) all =
    let first = entry_stays texts z w all.0 in
    let rest = entries_stay texts z ws all.1 in
    cc

pub all_stay : (texts : List (List ℕ)) (z : List ℕ) (ws : List Written) → AllByRecursion (IsWritten texts) ws → AllByRecursion (IsWritten (texts ++ z ∷ [])) ws
all_stay texts z [] all = tt
all_stay texts z (w ∷ ws) all = (written_stays texts z w all.0, all_stay texts z ws all.1)

-- One entry more behind all.

pub pushed_entries : (texts : List (List ℕ)) (old : List Written) (e : Entry) (new : List Written) → IsPushed texts old e new → map (entry_of texts) new ≡ map (entry_of texts) old ++ e ∷ []
pushed_entries texts old e new p = ap (map (entry_of texts)) p.1 ∙ map-append (entry_of texts) old (p.0 ∷ []) ∙ ap (λ w. map (entry_of texts) old ++ w ∷ []) p.2

pub pushed_written : (texts : List (List ℕ)) (old : List Written) (e : Entry) (new : List Written) → AllByRecursion (IsWritten texts) old → IsPushed texts old e new → AllByRecursion (IsWritten texts) new
pushed_written texts old e new all p = subst (AllByRecursion (IsWritten texts)) (sym p.1) (all_push (IsWritten texts) old p.0 all p.3)

pub wrapped_pushed : (texts : List (List ℕ)) (old : List Written) (c : Wrapped) (new : List Written) → new ≡ old ++ wrapped c ∷ [] → IsPushed texts old (external c) new
wrapped_pushed texts old c new e = (wrapped c, e, refl, tt)

pub coded_pushed : (texts : List (List ℕ)) (old : List Written) (e : Entry) (w : Written) (new : List Written) → IsWrittenFor texts e w → new ≡ old ++ w ∷ [] → IsPushed texts old e new
coded_pushed texts old e w new for s = (w, s, for.same, for.codes)

pub copied_pushed : (texts : List (List ℕ)) (old : List Written) (t : Traits) (w : Written) (new : List Written) → w ≡ copied t → new ≡ old ++ w ∷ [] → IsPushed texts old (plain t) new
copied_pushed texts old t w new same s = (copied t, s ∙ ap (λ v. old ++ v ∷ []) same, refl, tt)

-- What a look-up gives, over the texts.

pub found_coded : (texts : List (List ℕ)) (ws : List Written) (e : Entry) (w : Written) (r : Option ℕ) → AllByRecursion (IsWritten texts) ws → AllByRecursion IsNoCopy ws → IsWrittenFor texts e w → IfSome r (IsFirstPlace ws w) → IfSome r (IsFirstPlace (map (entry_of texts) ws) e)
found_coded texts ws e w (Some k) codes own for h = first_coded texts ws e w k codes own for h
found_coded texts ws e w None codes own for h = h

pub missed_coded : (texts : List (List ℕ)) (ws : List Written) (e : Entry) (w : Written) (r : Option ℕ) → AllByRecursion (IsWritten texts) ws → AllByRecursion IsNoCopy ws → IsWrittenFor texts e w → IfNone r (Absent ws w) → IfNone r (Absent (map (entry_of texts) ws) e)
missed_coded texts ws e w (Some k) codes own for h = h
missed_coded texts ws e w None codes own for h = absent_coded texts ws e w codes own for h

pub found_wrapped : (texts : List (List ℕ)) (ws : List Written) (c : Wrapped) (r : Option ℕ) → IfSome r (IsFirstPlace ws (wrapped c)) → IfSome r (IsFirstPlace (map (entry_of texts) ws) (external c))
found_wrapped texts ws c (Some k) h = first_wrapped texts ws c k h
found_wrapped texts ws c None h = h

pub missed_wrapped : (texts : List (List ℕ)) (ws : List Written) (c : Wrapped) (r : Option ℕ) → IfNone r (Absent ws (wrapped c)) → IfNone r (Absent (map (entry_of texts) ws) (external c))
missed_wrapped texts ws c (Some k) h = h
missed_wrapped texts ws c None h = absent_wrapped texts ws c h

-- The texts grow behind, or stay.

pub written_again : (texts : List (List ℕ)) (x : List ℕ) (new : List (List ℕ)) (found : TextPlace) (ws : List Written) → IsEntered texts x new found → AllByRecursion (IsWritten texts) ws → AllByRecursion (IsWritten new) ws
written_again texts x new (Old k) ws h all = subst (λ w. AllByRecursion (IsWritten w) ws) (sym h.1) all
written_again texts x new (New k) ws h all = subst (λ w. AllByRecursion (IsWritten w) ws) (sym h.2) (all_stay texts x ws all)

pub entries_again : (texts : List (List ℕ)) (x : List ℕ) (new : List (List ℕ)) (found : TextPlace) (ws : List Written) → IsEntered texts x new found → AllByRecursion (IsWritten texts) ws → map (entry_of new) ws ≡ map (entry_of texts) ws
entries_again texts x new (Old k) ws h all = ap (λ w. map (entry_of w) ws) h.1
entries_again texts x new (New k) ws h all = ap (λ w. map (entry_of w) ws) h.2 ∙ entries_stay texts x ws all

-- What calls leave behind, as they end.

pub none_of : {X : Type 0} (A : Type 0) (B : X → Type 0) (r : Option X) → r ≡ None → MatchOption r A B → A
none_of A B (Some x) e h = cc
none_of A B None e h = h

pub some_of : {X : Type 0} (A : Type 0) (B : X → Type 0) (r : Option X) (x : X) → r ≡ Some x → MatchOption r A B → B x
some_of A B (Some y) x e h = subst B (same_Some y x e) h
some_of A B None x e h = cc

pub coded_on : {T E : Type 0} (r : Result T E) (texts : List (List ℕ)) (old : List Written) (e : Entry) (w : Written) (new : List Written) → IsWrittenFor texts e w → OnOk r (new ≡ old ++ w ∷ []) → OnOk r (IsPushed texts old e new)
coded_on (Ok v) texts old e w new for h = coded_pushed texts old e w new for h
coded_on (Err x) texts old e w new for h = tt

pub copied_on : {T E : Type 0} (r : Result T E) (texts : List (List ℕ)) (old : List Written) (t : Traits) (w : Written) (new : List Written) → w ≡ copied t → OnOk r (new ≡ old ++ w ∷ []) → OnOk r (IsPushed texts old (plain t) new)
copied_on (Ok v) texts old t w new same h = copied_pushed texts old t w new same h
copied_on (Err x) texts old t w new same h = tt

pub wrapped_on : {T E : Type 0} (r : Result T E) (texts : List (List ℕ)) (old : List Written) (c : Wrapped) (new : List Written) → OnOk r (new ≡ old ++ wrapped c ∷ []) → OnOk r (IsPushed texts old (external c) new)
wrapped_on (Ok v) texts old c new h = wrapped_pushed texts old c new h
wrapped_on (Err x) texts old c new h = tt

-- A text entered behind all.

pub written_grown : {T E : Type 0} (r : Result T E) (texts : List (List ℕ)) (x : List ℕ) (new : List (List ℕ)) (ws : List Written) → OnOk r (new ≡ texts ++ x ∷ []) → OnErr r (new ≡ texts) → AllByRecursion (IsWritten texts) ws → AllByRecursion (IsWritten new) ws
written_grown (Ok v) texts x new ws h k all = subst (λ w. AllByRecursion (IsWritten w) ws) (sym h) (all_stay texts x ws all)
written_grown (Err e) texts x new ws h k all = subst (λ w. AllByRecursion (IsWritten w) ws) (sym k) all

pub text_added : {T E : Type 0} (r : Result T E) (texts : List (List ℕ)) (x : List ℕ) (new : List (List ℕ)) (ws : List Written) (nodes : Spelled) (old : Tables) → OnOk r (new ≡ texts ++ x ∷ []) → AllByRecursion (IsWritten texts) ws → written_tables texts ws nodes ≡ old → OnOk r (written_tables new ws nodes ≡ with_words old (add_text old.words x))
text_added (Ok v) texts x new ws nodes old h all is =
    subst (λ (t : Tables). written_tables new ws nodes ≡ with_words t (add_text t.words x)) is
    (ap (λ (w : List (List ℕ)). written_tables w ws nodes) h ∙ ap (λ (es : List Entry). with_words (written_tables texts ws nodes) (record { texts = texts ++ x ∷ []; traits = es })) (entries_stay texts x ws all))
text_added (Err e) texts x new ws nodes old h all is = tt

pub text_as_before : {T E : Type 0} (r : Result T E) (texts new : List (List ℕ)) (ws : List Written) (nodes : Spelled) (old : Tables) → OnErr r (new ≡ texts) → written_tables texts ws nodes ≡ old → OnErr r (written_tables new ws nodes ≡ old)
text_as_before (Ok v) texts new ws nodes old h is = tt
text_as_before (Err e) texts new ws nodes old h is = ap (λ (w : List (List ℕ)). written_tables w ws nodes) h ∙ is

-- A text looked up, and entered where it is new.

pub written_found : {E : Type 0} (r : Result TextPlace E) (texts : List (List ℕ)) (x : List ℕ) (new : List (List ℕ)) (ws : List Written) → IfOk r (IsEntered texts x new) → OnErr r (new ≡ texts) → AllByRecursion (IsWritten texts) ws → AllByRecursion (IsWritten new) ws
written_found (Ok p) texts x new ws h k all = written_again texts x new p ws h all
written_found (Err e) texts x new ws h k all = subst (λ w. AllByRecursion (IsWritten w) ws) (sym k) all

entries_found : {E : Type 0} (r : Result TextPlace E) (texts : List (List ℕ)) (x : List ℕ) (new : List (List ℕ)) (ws : List Written) → IfOk r (IsEntered texts x new) → OnErr r (new ≡ texts) → AllByRecursion (IsWritten texts) ws → map (entry_of new) ws ≡ map (entry_of texts) ws
entries_found (Ok p) texts x new ws h k all = entries_again texts x new p ws h all
entries_found (Err e) texts x new ws h k all = ap (λ w. map (entry_of w) ws) k

pub rest_found : {E : Type 0} (r : Result TextPlace E) (texts : List (List ℕ)) (x : List ℕ) (new : List (List ℕ)) (ws : List Written) (nodes : Spelled) (old : Tables) → IfOk r (IsEntered texts x new) → OnErr r (new ≡ texts) → AllByRecursion (IsWritten texts) ws → written_tables texts ws nodes ≡ old → written_tables new ws nodes ≡ with_words old (record { texts = new; traits = old.words.traits })
rest_found r texts x new ws nodes old h k all is =
    subst (λ (t : Tables). written_tables new ws nodes ≡ with_words t (record { texts = new; traits = t.words.traits })) is
    (ap (λ (es : List Entry). with_words (written_tables texts ws nodes) (record { texts = new; traits = es })) (entries_found r texts x new ws h k all))

-- An entry pushed.

pub written_pushed : {T E : Type 0} (r : Result T E) (texts : List (List ℕ)) (ws : List Written) (e : Entry) (new : List Written) → OnOk r (IsPushed texts ws e new) → OnErr r (new ≡ ws) → AllByRecursion (IsWritten texts) ws → AllByRecursion (IsWritten texts) new
written_pushed (Ok v) texts ws e new h k all = pushed_written texts ws e new all h
written_pushed (Err x) texts ws e new h k all = subst (AllByRecursion (IsWritten texts)) (sym k) all

pub entry_added : {T E : Type 0} (r : Result T E) (texts : List (List ℕ)) (ws : List Written) (e : Entry) (new : List Written) (nodes : Spelled) (old : Tables) → OnOk r (IsPushed texts ws e new) → written_tables texts ws nodes ≡ old → OnOk r (written_tables texts new nodes ≡ with_words old (add_entry old.words e))
entry_added (Ok v) texts ws e new nodes old h is =
    subst (λ (t : Tables). written_tables texts new nodes ≡ with_words t (add_entry t.words e)) is
    (ap (λ (es : List Entry). with_words (written_tables texts ws nodes) (record { texts = texts; traits = es })) (pushed_entries texts ws e new h))
entry_added (Err x) texts ws e new nodes old h is = tt

pub entries_as_before : {T E : Type 0} (r : Result T E) (texts : List (List ℕ)) (ws new : List Written) (nodes : Spelled) (old : Tables) → OnErr r (new ≡ ws) → written_tables texts ws nodes ≡ old → OnErr r (written_tables texts new nodes ≡ old)
entries_as_before (Ok v) texts ws new nodes old h is = tt
entries_as_before (Err e) texts ws new nodes old h is = ap (λ (w : List Written). written_tables texts w nodes) h ∙ is

-- Traits by their bytes, entry after entry.

entry_read : (texts : List (List ℕ)) (ws : List Written) (i : ℕ) (w : Written) → i < length ws → w ≡ get_or ws i w → slice_get (map (entry_of texts) ws) i ≡ Some (entry_of texts w)
entry_read texts ws i w within is = map_get (entry_of texts) ws i w (slice_get_read ws (length ws) i w refl within is)

pub plain_here : (texts : List (List ℕ)) (ws : List Written) (e : Entry) (i : ℕ) (w : Written) → i < length ws → w ≡ get_or ws i w → entry_of texts w ≡ e → NoPlaceBelow i (map (entry_of texts) ws) e → IsFirstPlace (map (entry_of texts) ws) e i
plain_here texts ws e i w within is same below = (entry_read texts ws i w within is ∙ ap (λ y. Some y) same, below)

pub plain_not_here : (texts : List (List ℕ)) (ws : List Written) (e : Entry) (i : ℕ) (w : Written) → i < length ws → w ≡ get_or ws i w → entry_of texts w ≢ e → NoPlaceBelow i (map (entry_of texts) ws) e → NoPlaceBelow (i + 1) (map (entry_of texts) ws) e
plain_not_here texts ws e i w within is other below = below_more (λ k. slice_get (map (entry_of texts) ws) k ≢ Some e) i below (λ d. other (same_Some (entry_of texts w) e (sym (entry_read texts ws i w within is) ∙ d)))

pub plain_nowhere : (texts : List (List ℕ)) (ws : List Written) (e : Entry) (i : ℕ) → length ws ≤ i → NoPlaceBelow i (map (entry_of texts) ws) e → Absent (map (entry_of texts) ws) e
plain_nowhere texts ws e i past below k d =
    let within = slice_get_within (map (entry_of texts) ws) k e d in
    let long = length-map ws (entry_of texts) in
    below k (omega arith) d
