-- Deliveries in order of message numbers.
use Rattle.std.proofs.Common.{◌≡◌, ℕ, suc, ◌+◌, Bool, true, false, List, [], ◌∷◌, ◌++◌, length, take, drop, refl, sym, ◌∙◌, ap, arith}
use Rattle.std.specs.Prelude.{◌==◌, nat_le, nat_lt, filter, map, if◌then◌else◌}
use Rattle.std.specs.List.{list_all, position_or_len}
use Rattle.std.proofs.lemmas.Bool.Decides.{nat_tests}
use Rattle.std.proofs.lemmas.List.{append-nil}
use Rattle.std.proofs.lemmas.Grind.{flat_map-append}
use Rattle.amf_broker.specs.declared.reply.Delivery.{Delivery}
use Rattle.amf_broker.specs.Delivery.{Message}
use Rattle.amf_broker.specs.Lines.{TopicLog, Span, covered, spans_of, gathered, waits, put, put_all}

-- no delivery of these is of a later message
abbrev pub none_later : ℕ → List Delivery → Bool
none_later n ds = list_all (λ d. nat_le d.number n) ds

-- each is of an earlier message
abbrev pub all_before : ℕ → List Delivery → Bool
all_before n ds = list_all (λ d. nat_lt d.number n) ds

pub put-last : (d : Delivery) (es : List Delivery) → none_later d.number es ≡ true → put d es ≡ es ++ (d ∷ [])
put-last d [] all = refl
put-last d (e ∷ es) all = let ih = put-last d es in grind (arith, nat_tests, ih, all)

pub put-before : (e d : Delivery) (es : List Delivery) → nat_lt e.number d.number ≡ true → put e (es ++ (d ∷ [])) ≡ put e es ++ (d ∷ [])
put-before e d [] less = grind (arith, nat_tests, less)
put-before e d (x ∷ es) less = let ih = put-before e d es less in grind (arith, nat_tests, ih, less)

pub none_later-put : (n : ℕ) (d : Delivery) (es : List Delivery) → nat_le d.number n ≡ true → none_later n es ≡ true → none_later n (put d es) ≡ true
none_later-put n d [] one all = grind (arith, nat_tests, one)
none_later-put n d (e ∷ es) one all = let ih = none_later-put n d es one in grind (arith, nat_tests, ih, one, all)

pub none_later-all : (n : ℕ) (ds es : List Delivery) → none_later n ds ≡ true → none_later n es ≡ true → none_later n (put_all ds es) ≡ true
none_later-all n [] es first all = all
none_later-all n (d ∷ ds) es first all =
    let one : nat_le d.number n ≡ true = grind (arith, nat_tests, first) in
    let more : none_later n ds ≡ true = grind (arith, nat_tests, first) in
    none_later-all n ds (put d es) more (none_later-put n d es one all)

pub put_all-append : (ds ms es : List Delivery) → put_all (ds ++ ms) es ≡ put_all ms (put_all ds es)
put_all-append [] ms es = refl
put_all-append (d ∷ ds) ms es = put_all-append ds ms (put d es)

pub put_all_more : (ds es : List Delivery) (d : Delivery) → put_all (ds ++ (d ∷ [])) es ≡ put d (put_all ds es)
put_all_more ds es d = put_all-append ds (d ∷ []) es

-- later deliveries do not pass the last one
pub put_all-before : (ms es : List Delivery) (d : Delivery) → all_before d.number ms ≡ true → put_all ms (es ++ (d ∷ [])) ≡ put_all ms es ++ (d ∷ [])
put_all-before [] es d all = refl
put_all-before (m ∷ ms) es d all =
    let one : nat_lt m.number d.number ≡ true = grind (arith, nat_tests, all) in
    let more : all_before d.number ms ≡ true = grind (arith, nat_tests, all) in
    ap (put_all ms) (put-before m d es one) ∙ put_all-before ms (put m es) d more

-- a delivery of the latest message comes last, wherever it was gathered, if what was gathered after it is of earlier ones
pub put_all-latest : (ds ms : List Delivery) (d : Delivery) → none_later d.number ds ≡ true → all_before d.number ms ≡ true
    → put_all (ds ++ (d ∷ ms)) [] ≡ put_all (ds ++ ms) [] ++ (d ∷ [])
put_all-latest ds ms d before after =
    let last = put-last d (put_all ds []) (none_later-all d.number ds [] before refl) in
    put_all-append ds (d ∷ ms) [] ∙ (ap (put_all ms) last ∙ (put_all-before ms (put_all ds []) d after ∙ ap (λ q. q ++ (d ∷ [])) (sym (put_all-append ds ms []))))

put-length : (d : Delivery) (es : List Delivery) → length (put d es) ≡ length es + 1
put-length d [] = refl
put-length d (e ∷ es) = let ih = put-length d es in grind (arith, nat_tests, ih)

pub put_all-length : (ds es : List Delivery) → length (put_all ds es) ≡ length ds + length es
put_all-length [] es = omega arith
put_all-length (d ∷ ds) es = let ih = put_all-length ds (put d es) in let one = put-length d es in omega arith

-- A delivery that is put at its place.

abbrev pub place_among : Delivery → List Delivery → ℕ
place_among d es = position_or_len (λ e. nat_lt d.number e.number) es

take-suc : (e : Delivery) (es : List Delivery) (n : ℕ) → take (1 + n) (e ∷ es) ≡ e ∷ take n es
take-suc e es n = let s : 1 + n ≡ suc n = omega arith in rw s refl

drop-suc : (e : Delivery) (es : List Delivery) (n : ℕ) → drop (1 + n) (e ∷ es) ≡ drop n es
drop-suc e es n = let s : 1 + n ≡ suc n = omega arith in rw s refl

pub put-at : (d : Delivery) (es : List Delivery) → take (place_among d es) es ++ (d ∷ drop (place_among d es) es) ≡ put d es
put-at d [] = refl
put-at d (e ∷ es) = step (nat_lt d.number e.number) refl (put-at d es)
  where
    step : (b : Bool) → nat_lt d.number e.number ≡ b → take (place_among d es) es ++ (d ∷ drop (place_among d es) es) ≡ put d es
        → take (place_among d (e ∷ es)) (e ∷ es) ++ (d ∷ drop (place_among d (e ∷ es)) (e ∷ es)) ≡ (if b then d ∷ e ∷ es else e ∷ put d es)
    step true less ih = grind (arith, less)
    step false less ih =
        let one = take-suc e es (place_among d es) in
        let two = drop-suc e es (place_among d es) in
        grind (arith, less, one, two, ih)

-- What the places so far give is put among the others.

pub waits-more : (logs : List TopicLog) (us : List Span) (u : Span) (k : ℕ) → waits logs (us ++ (u ∷ [])) k ≡ (if u.client == k then put_all (covered logs u) (waits logs us k) else waits logs us k)
waits-more logs us u k =
    ap (λ ds. put_all ds []) (ap (gathered logs) (spans-more us) ∙ flat_map-append (covered logs) (spans_of k us) (if u.client == k then u ∷ [] else []))
    ∙ (put_all-append (gathered logs (spans_of k us)) (gathered logs (if u.client == k then u ∷ [] else [])) []
    ∙ elim (u.client == k) as (λ b. put_all (gathered logs (if b then u ∷ [] else [])) (waits logs us k) ≡ (if b then put_all (covered logs u) (waits logs us k) else waits logs us k)) [
      | true ↦ ap (λ ds. put_all ds (waits logs us k)) (append-nil (covered logs u))
      | false ↦ refl
    ])
  where
    spans-more : (vs : List Span) → spans_of k (vs ++ (u ∷ [])) ≡ spans_of k vs ++ (if u.client == k then u ∷ [] else [])
    spans-more [] = refl
    spans-more (v ∷ vs) = elim (v.client == k) as (λ b. (if b then v ∷ spans_of k (vs ++ (u ∷ [])) else spans_of k (vs ++ (u ∷ []))) ≡ (if b then v ∷ spans_of k vs else spans_of k vs) ++ (if u.client == k then u ∷ [] else [])) [
      | true ↦ ap (λ m. v ∷ m) (spans-more vs)
      | false ↦ spans-more vs
    ]

-- The messages so far that pass a test are put among the others.

module _ (p : Message → Bool) (f : Message → Delivery) (m : Message) where
  given-more : (ms : List Message) → map f (filter p (ms ++ (m ∷ []))) ≡ map f (filter p ms) ++ (if p m then f m ∷ [] else [])
  given-more [] = elim (p m) as (λ b. map f (if b then m ∷ [] else []) ≡ (if b then f m ∷ [] else [])) [ true ↦ refl | false ↦ refl ]
  given-more (x ∷ ms) = elim (p x) as (λ b. map f (if b then x ∷ filter p (ms ++ (m ∷ [])) else filter p (ms ++ (m ∷ []))) ≡ map f (if b then x ∷ filter p ms else filter p ms) ++ (if p m then f m ∷ [] else [])) [
    | true ↦ ap (λ ds. f x ∷ ds) (given-more ms)
    | false ↦ given-more ms
  ]

  pub covered-next : (ms : List Message) (q now new : List Delivery) (b : Bool) → p m ≡ b → now ≡ put_all (map f (filter p ms)) q → new ≡ (if b then put (f m) now else now) → new ≡ put_all (map f (filter p (ms ++ (m ∷ [])))) q
  covered-next ms q now new b is before after =
      let so = put_all (map f (filter p ms)) q in
      after
      ∙ (ap (λ x. if b then put (f m) x else x) before
      ∙ (ap (λ b. if b then put (f m) so else so) (sym is)
      ∙ (elim (p m) as (λ b. (if b then put (f m) so else so) ≡ put_all (if b then f m ∷ [] else []) so) [ true ↦ refl | false ↦ refl ]
      ∙ (sym (put_all-append (map f (filter p ms)) (if p m then f m ∷ [] else []) q) ∙ ap (λ ds. put_all ds q) (sym (given-more ms))))))
