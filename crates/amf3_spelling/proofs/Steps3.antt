-- What holds of a step that names no node.
use Rattle.std.proofs.Common.{◌≡◌, ℕ, suc, ◌+◌, ◌*◌, ◌<◌, ◌≤◌, ◌≢◌, ◌⊎◌, Bool, true, false, cond, List, [], ◌∷◌, ◌++◌, length, slice_get, sym, refl, ap, ◌∙◌, subst, inl, inr, arith, append_assoc}
use Rattle.std.proofs.lemmas.Option.{same_Some}
use Rattle.std.proofs.lemmas.Bool.{cases_lt, cases_eq, cases_order}
use Rattle.std.specs.List.{AllByRecursion}
use Rattle.amf_wire.specs.Style.{Style, canonical}
use Rattle.amf_wire.specs.U29.{IsU29}
use Rattle.amf_wire.specs.Text.{IsText}
use Rattle.amf_wire.proofs.TextTest.{is_text-is}
use Rattle.amf_graph.specs.declared.wrapped.Wrapped.{Wrapped}
use Rattle.amf_graph.specs.declared.wrapped.Wrapped.TheVariants.{ArrayCollection, ArrayList, ObjectProxy}
use Rattle.amf_graph.specs.Graph.{Traits, class_name}
use Rattle.amf_graph.specs.Small.{IsShort}
use Rattle.amf_graph.proofs.Lists.{cons_same, moved, split_same, not_empty, search_for, same_list}
use Rattle.amf3_spelling.specs.Tables.{Entry, plain, external, Words, add_text, add_entry}
use Rattle.amf3_spelling.specs.Words3.{NoPlaceBelow, EntryNumber}
use Rattle.amf3_spelling.proofs.ByteSpelling.{Text, empty, whole, placed, Texts, entry_texts, TraitsOf, given, indexed, Step, byte, number, unused, flag, raw, word, traits, StepOf}
use Rattle.amf3_spelling.proofs.Numbers3.{number_same, number_fixed, number_bound, number_found}

class_same : (c d : Wrapped) → class_name c ≡ class_name d → c ≡ d
class_same ArrayCollection ArrayCollection e = refl
class_same ArrayCollection ArrayList e = absurd (omega (arith, ap length e))
class_same ArrayCollection ObjectProxy e = absurd (omega (arith, ap length e))
class_same ArrayList ArrayCollection e = absurd (omega (arith, ap length e))
class_same ArrayList ArrayList e = refl
class_same ArrayList ObjectProxy e = absurd (omega (arith, ap length e))
class_same ObjectProxy ArrayCollection e = absurd (omega (arith, ap length e))
class_same ObjectProxy ArrayList e = absurd (omega (arith, ap length e))
class_same ObjectProxy ObjectProxy e = refl

-- the bytes of two spellings of one input, the first parts of each
pub moved_two : (b f k c f' k' r q : List ℕ) → b ≡ f ++ k → c ≡ f' ++ k' → b ++ r ≡ c ++ q → f ++ (k ++ r) ≡ f' ++ (k' ++ q)
moved_two b f k c f' k' r q e g h = sym (append_assoc f k r) ∙ moved b (f ++ k) c (f' ++ k') r q e g h ∙ append_assoc f' k' q

pub text_same : {s z : Style} (x y : List ℕ) (w w' u' : Words) (b c r q : List ℕ) → Text s x w b w' → Text z y w c u' → b ++ r ≡ c ++ q → (x ≡ y) × (r ≡ q) × (w' ≡ u')
text_same x y w w' u' b c r q (empty n m e) (empty k l f) h = let p = number_same 1 1 b c r q m l h in (n ∙ sym k, p.1, e ∙ sym f)
text_same x y w w' u' b c r q (empty n m e) (whole k tx a hd l f g) h =
    let p = number_same 1 (2 * length y + 1) b hd r (y ++ q) m l (h ∙ ap (λ w. w ++ q) f ∙ append_assoc hd y q) in
    let z = not_empty y k in
    absurd (omega arith)
text_same x y w w' u' b c r q (empty n m e) (placed k i a o l f) h = let p = number_same 1 (2 * i) b c r q m l h in absurd (omega arith)
text_same x y w w' u' b c r q (whole k tx a hd l f g) (empty n m e) h =
    let p = number_same (2 * length x + 1) 1 hd c (x ++ r) q l m (sym (append_assoc hd x r) ∙ sym (ap (λ w. w ++ r) f) ∙ h) in
    let z = not_empty x k in
    absurd (omega arith)
text_same x y w w' u' b c r q (whole k tx a hd l f g) (whole k' tx' a' hd' l' f' g') h =
    let p = number_same (2 * length x + 1) (2 * length y + 1) hd hd' (x ++ r) (y ++ q) l l' (moved_two b hd x c hd' y r q f f' h) in
    let d = split_same x y r q (omega arith) p.1 in
    (d.0, d.1, g ∙ ap (λ v. add_text w v) d.0 ∙ sym g')
text_same x y w w' u' b c r q (whole k tx a hd l f g) (placed k' i a' o m e) h =
    let p = number_same (2 * length x + 1) (2 * i) hd c (x ++ r) q l m (sym (append_assoc hd x r) ∙ sym (ap (λ w. w ++ r) f) ∙ h) in absurd (omega arith)
text_same x y w w' u' b c r q (placed k i a o l g) (empty n m e) h = let p = number_same (2 * i) 1 b c r q l m h in absurd (omega arith)
text_same x y w w' u' b c r q (placed k' i a' o m e) (whole k tx a hd l f g) h =
    let p = number_same (2 * i) (2 * length y + 1) b hd r (y ++ q) m l (h ∙ ap (λ w. w ++ q) f ∙ append_assoc hd y q) in absurd (omega arith)
text_same x y w w' u' b c r q (placed k i a o l g) (placed k' i' a' o' l' g') h =
    let p = number_same (2 * i) (2 * i') b c r q l l' h in
    let same : i ≡ i' = omega arith in
    (same_Some x y (sym a ∙ ap (λ v. slice_get w.texts v) same ∙ a'), p.1, g ∙ sym g')

pub texts_same : (s z : Style) (xs ys : List (List ℕ)) (w w' u' : Words) (b c r q : List ℕ) → length xs ≡ length ys → Texts s xs w b w' → Texts z ys w c u' → b ++ r ≡ c ++ q → (xs ≡ ys) × (r ≡ q) × (w' ≡ u')
texts_same s z [] [] w w' u' b c r q l x y h = (refl, moved b [] c [] r q x.0 y.0 h, x.1 ∙ sym y.1)
texts_same s z [] (y ∷ ys) w w' u' b c r q l e f h = absurd (omega arith)
texts_same s z (x ∷ xs) [] w w' u' b c r q l e f h = absurd (omega arith)
texts_same s z (x ∷ xs) (y ∷ ys) w w' u' b c r q l e f h =
    let o = text_same x y w e.mid f.mid e.front f.front (e.back ++ r) (f.back ++ q) e.first f.first (moved_two b e.front e.back c f.front f.back r q e.joined f.joined h) in
    let n = texts_same s z xs ys e.mid w' u' e.back f.back r q (omega arith) e.second (subst (λ v. Texts z ys v f.back u') (sym o.2) f.second) o.1 in
    (ap (λ v. v ∷ xs) o.0 ∙ ap (λ v. y ∷ v) n.0, n.1, n.2)

entry_low : (s : Style) (e : Entry) (n : ℕ) → EntryNumber s e n → (m : ℕ) × (n ≡ 4 * m + 3)
entry_low s (plain t) n h = (4 * length t.sealed + 2 * cond t.dynamic 1 0, omega arith)
entry_low s (external c) n h = (2 * h.0 + 1, omega arith)

dynamic_same : (f f' : Bool) (a a' : ℕ) → 16 * a + (8 * cond f 1 0 + 3) ≡ 16 * a' + (8 * cond f' 1 0 + 3) → (f ≡ f') × (a ≡ a')
dynamic_same true true a a' h = (refl, omega arith)
dynamic_same true false a a' h = absurd (omega arith)
dynamic_same false true a a' h = absurd (omega arith)
dynamic_same false false a a' h = (refl, omega arith)

entry_same : (s z : Style) (e f : Entry) (n m : ℕ) (w w' u' : Words) (b c r q : List ℕ) → EntryNumber s e n → EntryNumber z f m → n ≡ m → Texts s (entry_texts e) w b w' → Texts z (entry_texts f) w c u' → b ++ r ≡ c ++ q → (e ≡ f) × (r ≡ q) × (w' ≡ u')
entry_same s z (plain t) (plain u) n m w w' u' b c r q i j l x y h =
    let d : (t.dynamic ≡ u.dynamic) × (length t.sealed ≡ length u.sealed) = dynamic_same t.dynamic u.dynamic (length t.sealed) (length u.sealed) (sym i ∙ l ∙ j) in
    let o = texts_same s z (t.class ∷ t.sealed) (u.class ∷ u.sealed) w w' u' b c r q (ap suc d.1) x y h in
    let p = cons_same o.0 in
    (ap (λ v. plain (record { class = v; dynamic = t.dynamic; sealed = t.sealed })) p.0 ∙ ap (λ v. plain (record { class = u.class; dynamic = v; sealed = t.sealed })) d.0 ∙ ap (λ v. plain (record { class = u.class; dynamic = u.dynamic; sealed = v })) p.1, o.1, o.2)
entry_same s z (plain t) (external c') n m w w' u' b c r q i j l x y h = absurd (omega arith)
entry_same s z (external c') (plain t) n m w w' u' b c r q i j l x y h = absurd (omega arith)
entry_same s z (external a) (external a') n m w w' u' b c r q i j l x y h =
    let o = texts_same s z (class_name a ∷ []) (class_name a' ∷ []) w w' u' b c r q refl x y h in
    (ap external (class_same a a' (cons_same o.0).0), o.1, o.2)

pub traits_same : (s z : Style) (e f : Entry) (w w' u' : Words) (b c r q : List ℕ) → TraitsOf s e w b w' → TraitsOf z f w c u' → b ++ r ≡ c ++ q → (e ≡ f) × (r ≡ q) × (w' ≡ u')
traits_same s z e f w w' u' b c r q (given o n hd rest u k a x j g) (given o' n' hd' rest' v k' a' x' j' g') h =
    let p = number_same n n' hd hd' (rest ++ r) (rest' ++ q) a a' (moved_two b hd rest c hd' rest' r q j j' h) in
    let d = entry_same s z e f n n' w u v rest rest' r q k k' p.0 x x' p.1 in
    (d.0, d.1, g ∙ ap (λ y. add_entry y e) d.2 ∙ ap (λ y. add_entry v y) d.0 ∙ sym g')
traits_same s z e f w w' u' b c r q (given o n hd rest u k a x j g) (indexed i here o' l g') h =
    let d = entry_low s e n k in
    let p = number_same n (4 * i + 1) hd c (rest ++ r) q a l (sym (append_assoc hd rest r) ∙ sym (ap (λ w. w ++ r) j) ∙ h) in
    absurd (omega arith)
traits_same s z e f w w' u' b c r q (indexed i here o' l g') (given o n hd rest u k a x j g) h =
    let d = entry_low z f n k in
    let p = number_same (4 * i + 1) n b hd r (rest ++ q) l a (h ∙ ap (λ w. w ++ q) j ∙ append_assoc hd rest q) in
    absurd (omega arith)
traits_same s z e f w w' u' b c r q (indexed i here o l g) (indexed i' here' o' l' g') h =
    let p = number_same (4 * i + 1) (4 * i' + 1) b c r q l l' h in
    let same : i ≡ i' = omega arith in
    (same_Some e f (sym here ∙ ap (λ v. slice_get w.traits v) same ∙ here'), p.1, g ∙ sym g')

-- two steps that can be compared place by place
abbrev pub SameKind : Step → Step → Type 0
SameKind (byte n) (byte m) = Unit {0}
SameKind (number n) (number m) = Unit {0}
SameKind unused unused = Unit {0}
SameKind (flag f) (flag g) = Unit {0}
SameKind (raw x) (raw y) = length x ≡ length y
SameKind (word x) (word y) = Unit {0}
SameKind (traits e) (traits f) = Unit {0}
SameKind _ _ = ⊥

flag_same : (f g : Bool) (m n : ℕ) → cond f (0 < m) (m ≡ 0) → cond g (0 < n) (n ≡ 0) → m ≡ n → f ≡ g
flag_same true true m n a b e = refl
flag_same true false m n a b e = absurd (omega arith)
flag_same false true m n a b e = absurd (omega arith)
flag_same false false m n a b e = refl

pub step_same : (s z : Style) (x y : Step) → SameKind x y → (w w' u' : Words) (b c r q : List ℕ) → StepOf s x w b w' → StepOf z y w c u' → b ++ r ≡ c ++ q → (x ≡ y) × (r ≡ q) × (w' ≡ u')
step_same s z (byte n) (byte m) k w w' u' b c r q x y h = let p = cons_same (moved b (n ∷ []) c (m ∷ []) r q x.0 y.0 h) in (ap byte p.0, p.1, x.1 ∙ sym y.1)
step_same s z (number n) (number m) k w w' u' b c r q x y h = let p = number_same n m b c r q x.0 y.0 h in (ap number p.0, p.1, x.1 ∙ sym y.1)
step_same s z unused unused k w w' u' b c r q x y h = let p = number_same (2 * x.0.0 + 1) (2 * y.0.0 + 1) b c r q x.0.1 y.0.1 h in (refl, p.1, x.1 ∙ sym y.1)
step_same s z (flag f) (flag g) k w w' u' b c r q x y h = let p = cons_same (moved b (x.0.0 ∷ []) c (y.0.0 ∷ []) r q x.0.1 y.0.1 h) in (ap flag (flag_same f g x.0.0 y.0.0 x.0.2.0 y.0.2.0 p.0), p.1, x.1 ∙ sym y.1)
step_same s z (raw i) (raw j) k w w' u' b c r q x y h = let p = split_same i j r q k (moved b i c j r q x.0 y.0 h) in (ap raw p.0, p.1, x.1 ∙ sym y.1)
step_same s z (word i) (word j) k w w' u' b c r q x y h = let p = text_same i j w w' u' b c r q x y h in (ap word p.0, p.1, p.2)
step_same s z (traits e) (traits f) k w w' u' b c r q x y h = let p = traits_same s z e f w w' u' b c r q x y h in (ap traits p.0, p.1, p.2)
step_same s z _ _ k w w' u' b c r q x y h = elim k [ ]

pub text_fixed : (x : List ℕ) (w w' u' : Words) (b c : List ℕ) → Text canonical x w b w' → Text canonical x w c u' → (b ≡ c) × (w' ≡ u')
text_fixed x w w' u' b c (empty e n o) (empty f m p) = (number_fixed 1 b c n m, o ∙ sym p)
text_fixed x w w' u' b c (empty e n o) (whole f tx a hd m h p) = absurd (f e)
text_fixed x w w' u' b c (empty e n o) (placed f k a first m p) = absurd (f e)
text_fixed x w w' u' b c (whole f tx a hd m h p) (empty e n o) = absurd (f e)
text_fixed x w w' u' b c (whole f tx a hd m h p) (whole f' tx' a' hd' m' h' p') = (h ∙ ap (λ w. w ++ x) (number_fixed (2 * length x + 1) hd hd' m m') ∙ sym h', p ∙ sym p')
text_fixed x w w' u' b c (whole f tx a hd m h p) (placed e k b' first n q) = let l = number_bound canonical (2 * k) c n in absurd (a k (omega arith) b')
text_fixed x w w' u' b c (placed f k a first m p) (empty e n o) = absurd (f e)
text_fixed x w w' u' b c (placed e k b' first n q) (whole f tx a hd m h p) = let l = number_bound canonical (2 * k) b n in absurd (a k (omega arith) b')
text_fixed x w w' u' b c (placed e k a first n q) (placed e' k' a' first' n' q') =
    elim (cases_order k k') [
      | inl same ↦ (number_fixed (2 * k) b c n (subst (λ v. IsU29 canonical (2 * v) c) (sym same) n'), q ∙ sym q')
      | inr (inl below) ↦ absurd (first' k below a)
      | inr (inr above) ↦ absurd (first k' above a')
    ]

pub texts_fixed : (xs : List (List ℕ)) (w w' u' : Words) (b c : List ℕ) → Texts canonical xs w b w' → Texts canonical xs w c u' → (b ≡ c) × (w' ≡ u')
texts_fixed [] w w' u' b c x y = (x.0 ∙ sym y.0, x.1 ∙ sym y.1)
texts_fixed (x ∷ xs) w w' u' b c e f =
    let o = text_fixed x w e.mid f.mid e.front f.front e.first f.first in
    let n = texts_fixed xs e.mid w' u' e.back f.back e.second (subst (λ v. Texts canonical xs v f.back u') (sym o.1) f.second) in
    (e.joined ∙ ap (λ v. v ++ e.back) o.0 ∙ ap (λ v. f.front ++ v) n.0 ∙ sym f.joined, n.1)

entry_fixed : (e : Entry) (n m : ℕ) → EntryNumber canonical e n → EntryNumber canonical e m → n ≡ m
entry_fixed (plain t) n m i j = i ∙ sym j
entry_fixed (external c) n m i j = omega arith

pub traits_fixed : (e : Entry) (w w' u' : Words) (b c : List ℕ) → TraitsOf canonical e w b w' → TraitsOf canonical e w c u' → (b ≡ c) × (w' ≡ u')
traits_fixed e w w' u' b c (given o n hd rest u k a x j g) (given o' n' hd' rest' v k' a' x' j' g') =
    let p = number_fixed n hd hd' a (subst (λ y. IsU29 canonical y hd') (entry_fixed e n' n k' k) a') in
    let d = texts_fixed (entry_texts e) w u v rest rest' x x' in
    (j ∙ ap (λ y. y ++ rest) p ∙ ap (λ y. hd' ++ y) d.0 ∙ sym j', g ∙ ap (λ y. add_entry y e) d.1 ∙ sym g')
traits_fixed e w w' u' b c (given o n hd rest u k a x j g) (indexed i here first l q) = let m = number_bound canonical (4 * i + 1) c l in absurd (o i (omega arith) here)
traits_fixed e w w' u' b c (indexed i here first l q) (given o n hd rest u k a x j g) = let m = number_bound canonical (4 * i + 1) b l in absurd (o i (omega arith) here)
traits_fixed e w w' u' b c (indexed i here first l q) (indexed i' here' first' l' q') =
    elim (cases_order i i') [
      | inl same ↦ (number_fixed (4 * i + 1) b c l (subst (λ v. IsU29 canonical (4 * v + 1) c) (sym same) l'), q ∙ sym q')
      | inr (inl below) ↦ absurd (first' i below here)
      | inr (inr above) ↦ absurd (first i' above here')
    ]

flag_fixed : (f : Bool) (m n : ℕ) → cond f (0 < m) (m ≡ 0) → cond f (0 < n) (n ≡ 0) → m < 2 → n < 2 → m ≡ n
flag_fixed true m n a b i j = omega arith
flag_fixed false m n a b i j = omega arith

pub step_fixed : (x : Step) (w w' u' : Words) (b c : List ℕ) → StepOf canonical x w b w' → StepOf canonical x w c u' → (b ≡ c) × (w' ≡ u')
step_fixed (byte n) w w' u' b c x y = (x.0 ∙ sym y.0, x.1 ∙ sym y.1)
step_fixed (number n) w w' u' b c x y = (number_fixed n b c x.0 y.0, x.1 ∙ sym y.1)
step_fixed unused w w' u' b c x y = (number_fixed (2 * x.0.0 + 1) b c x.0.1 (subst (λ v. IsU29 canonical (2 * v + 1) c) (y.0.2 ∙ sym x.0.2) y.0.1), x.1 ∙ sym y.1)
step_fixed (flag f) w w' u' b c x y = (x.0.1 ∙ ap (λ v. v ∷ []) (flag_fixed f x.0.0 y.0.0 x.0.2.0 y.0.2.0 x.0.2.2 y.0.2.2) ∙ sym y.0.1, x.1 ∙ sym y.1)
step_fixed (raw i) w w' u' b c x y = (x.0 ∙ sym y.0, x.1 ∙ sym y.1)
step_fixed (word i) w w' u' b c x y = text_fixed i w w' u' b c x y
step_fixed (traits e) w w' u' b c x y = traits_fixed e w w' u' b c x y

abbrev pub AllShort : List (List ℕ) → Type 0
AllShort = AllByRecursion (λ x. IsText x × IsShort x)

abbrev pub ShortEntry : Entry → Type 0
ShortEntry (plain t) = AllShort (t.class ∷ t.sealed) × (length t.sealed < 33554432)
ShortEntry (external c) = Unit {0}

-- within the bounds of the format
abbrev pub Small : Step → Type 0
Small (byte n) = Unit {0}
Small (number n) = n < 536870912
Small unused = Unit {0}
Small (flag f) = Unit {0}
Small (raw x) = Unit {0}
Small (word x) = IsText x × (length x < 268435456)
Small (traits e) = ShortEntry e

same_bool : (a b : Bool) → (a ≡ b) ⊎ (a ≡ b → ⊥)
same_bool true true = inl refl
same_bool true false = inr (λ e. cc)
same_bool false true = inr (λ e. cc)
same_bool false false = inl refl

pub same_text : (x y : List ℕ) → (x ≡ y) ⊎ (x ≡ y → ⊥)
same_text = same_list cases_eq

same_entry : (e f : Entry) → (e ≡ f) ⊎ (e ≡ f → ⊥)
same_entry (plain t) (plain u) = go (same_text t.class u.class) (same_bool t.dynamic u.dynamic) (same_list same_text t.sealed u.sealed)
  where
    go : (t.class ≡ u.class) ⊎ (t.class ≡ u.class → ⊥) → (t.dynamic ≡ u.dynamic) ⊎ (t.dynamic ≡ u.dynamic → ⊥) → (t.sealed ≡ u.sealed) ⊎ (t.sealed ≡ u.sealed → ⊥) → (plain t ≡ plain u) ⊎ (plain t ≡ plain u → ⊥)
    go (inl a) (inl b) (inl c) = inl (ap (λ v. plain (record { class = v; dynamic = t.dynamic; sealed = t.sealed })) a ∙ ap (λ v. plain (record { class = u.class; dynamic = v; sealed = t.sealed })) b ∙ ap (λ v. plain (record { class = u.class; dynamic = u.dynamic; sealed = v })) c)
    go (inr n) b c = inr (λ h. let e : t ≡ u = cc in n (ap (λ (v : Traits). v.class) e))
    go (inl a) (inr n) c = inr (λ h. let e : t ≡ u = cc in n (ap (λ (v : Traits). v.dynamic) e))
    go (inl a) (inl b) (inr n) = inr (λ h. let e : t ≡ u = cc in n (ap (λ (v : Traits). v.sealed) e))
same_entry (plain t) (external c) = inr (λ e. cc)
same_entry (external c) (plain t) = inr (λ e. cc)
same_entry (external c) (external c') = elim (same_text (class_name c) (class_name c')) [ inl e ↦ inl (ap external (class_same c c' e)) | inr n ↦ inr (λ h. let e : c ≡ c' = cc in n (ap class_name e)) ]

text_whole : (x : List ℕ) (w : Words) → IsText x → x ≢ [] → length x < 268435456 → NoPlaceBelow 268435456 w.texts x → (b : List ℕ) × (w' : Words) × Text canonical x w b w'
text_whole x w tx e l a = let n = number_found (2 * length x + 1) (omega arith) in (n.0 ++ x, add_text w x, whole e tx a n.0 n.1 refl refl)

pub text_found : (x : List ℕ) → IsText x → length x < 268435456 → (w : Words) → (b : List ℕ) × (w' : Words) × Text canonical x w b w'
text_found [] tx l w = let n = number_found 1 (omega arith) in (n.0, w, empty refl n.1 refl)
text_found (c ∷ x) tx l w =
    elim (search_for same_text w.texts (c ∷ x)) [
      | inl p ↦ elim (cases_lt p.0 268435456) [
        | inl below ↦ let n = number_found (2 * p.0) (omega arith) in (n.0, w, placed (λ e. cc) p.0 p.1 p.2 n.1 refl)
        | inr above ↦ text_whole (c ∷ x) w tx (λ e. cc) l (λ k m. p.2 k (omega arith))
      ]
      | inr a ↦ text_whole (c ∷ x) w tx (λ e. cc) l (λ k m. a k)
    ]

texts_found : (xs : List (List ℕ)) → AllShort xs → (w : Words) → (b : List ℕ) × (w' : Words) × Texts canonical xs w b w'
texts_found [] h w = ([], w, (refl, refl))
texts_found (x ∷ xs) h w =
    let o = text_found x h.0.0 h.0.1 w in
    let n = texts_found xs h.1 o.1 in
    (o.0 ++ n.0, n.1, record { front = o.0; back = n.0; mid = o.1; joined = refl; first = o.2; second = n.2 })

entry_found : (e : Entry) → ShortEntry e → (n : ℕ) × EntryNumber canonical e n × (n < 536870912)
entry_found (plain t) h = (16 * length t.sealed + (8 * cond t.dynamic 1 0 + 3), refl, let d = low t.dynamic in omega arith)
  where
    low : (f : Bool) → cond f 1 0 ≤ 1
    low true = omega arith
    low false = omega arith
entry_found (external c) h = (7, (0, omega arith, refl), omega arith)

pub class_text : (c : Wrapped) → IsText (class_name c)
class_text ArrayCollection = (is_text-is (class_name ArrayCollection)).0 refl
class_text ArrayList = (is_text-is (class_name ArrayList)).0 refl
class_text ObjectProxy = (is_text-is (class_name ObjectProxy)).0 refl

pub class_short : (c : Wrapped) → IsShort (class_name c)
class_short ArrayCollection = omega arith
class_short ArrayList = omega arith
class_short ObjectProxy = omega arith

entry_short : (e : Entry) → ShortEntry e → AllShort (entry_texts e)
entry_short (plain t) h = h.0
entry_short (external c) h = ((class_text c, class_short c), tt)

traits_given : (e : Entry) → ShortEntry e → (w : Words) → NoPlaceBelow 134217728 w.traits e → (b : List ℕ) × (w' : Words) × TraitsOf canonical e w b w'
traits_given e h w a =
    let m = entry_found e h in
    let n = number_found m.0 m.2 in
    let x = texts_found (entry_texts e) (entry_short e h) w in
    (n.0 ++ x.0, add_entry x.1 e, given a m.0 n.0 x.0 x.1 m.1 n.1 x.2 refl refl)

traits_found : (e : Entry) → ShortEntry e → (w : Words) → (b : List ℕ) × (w' : Words) × TraitsOf canonical e w b w'
traits_found e h w =
    elim (search_for same_entry w.traits e) [
      | inl p ↦ elim (cases_lt p.0 134217728) [
        | inl below ↦ let n = number_found (4 * p.0 + 1) (omega arith) in (n.0, w, indexed p.0 p.1 p.2 n.1 refl)
        | inr above ↦ traits_given e h w (λ k m. p.2 k (omega arith))
      ]
      | inr a ↦ traits_given e h w (λ k m. a k)
    ]

pub step_found : (x : Step) → Small x → (w : Words) → (b : List ℕ) × (w' : Words) × StepOf canonical x w b w'
step_found (byte n) h w = (n ∷ [], w, (refl, refl))
step_found (number n) h w = let o = number_found n h in (o.0, w, (o.1, refl))
step_found unused h w = let o = number_found 1 (omega arith) in (o.0, w, ((0, o.1, refl), refl))
step_found (flag true) h w = (1 ∷ [], w, ((1, refl, (omega arith, omega arith, omega arith)), refl))
step_found (flag false) h w = (0 ∷ [], w, ((0, refl, (refl, omega arith, omega arith)), refl))
step_found (raw x) h w = (x, w, (refl, refl))
step_found (word x) h w = text_found x h.0 h.1 w
step_found (traits e) h w = traits_found e h w
