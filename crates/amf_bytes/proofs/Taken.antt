-- How the bytes of a text are taken.
use Rattle.std.proofs.Common.{◌≡◌, ℕ, ◌+◌, ◌<◌, ◌≤◌, List, [], ◌∷◌, ◌++◌, length, length-append, take, drop, Bool, true, false, Result, Ok, Err, IfOk, IfErr, refl, sym, ap, ◌∙◌, subst, arith}
use Rattle.std.proofs.lemmas.List.{append-nil, length-take, take_at, take-append-drop}
use Rattle.amf_io.specs.Outside.{Rose}
use Rattle.amf_io.specs.Cursor.{source_of, place, bound, ahead, unread, Counts, EndsByFault, IsFaultedAt, Appends, AppendsFewer, GivesBytes, GivesEnd}
use Rattle.amf_io.specs.declared.cursor.Cursor.{Cursor}
use Rattle.amf_io.specs.declared.window.Window.{Window}
use Rattle.amf_io.specs.declared.ends.CursorEnd.{CursorEnd}
use Rattle.amf_io.specs.declared.ends.CursorEnd.TheVariants.{Ended, TooLarge, ReadFault, Memory}
use Rattle.std.specs.declared.vec.Vec.{Vec}
use Rattle.std.specs.declared.alloc.Global.{Global}
use Rattle.amf_text.specs.Refused.{text_limit}
use Rattle.amf_bytes.specs.declared.ending.BytesEnd.{BytesEnd}
use Rattle.amf_bytes.specs.declared.ending.BytesEnd.TheVariants.{Memory as NoMemory}
use Rattle.amf_bytes.specs.TextRuns.{IsTextHidden}
use Rattle.amf_bytes.specs.TextSteps.{IsTextOf, whole, longer, TakesText}

-- what a cursor has unread

unread_within : {S : Type 0} (left : S → List ℕ) (c : Cursor S Window) → length (unread left c) ≤ ahead c + length (left (source_of c).now)
unread_within left c =
    let held = drop c.window.start c.window.buffer.items in
    let n = length-append (take (ahead c) held) (left (source_of c).now) in
    let few : length (take (ahead c) held) ≤ ahead c = omega (arith, length-take (ahead c) held) in
    omega (arith, n, few)

pub taken : {S : Type 0} (left : S → List ℕ) (old new : Cursor S Window) → place old ≡ 0 → bound new ≡ text_limit → place new + length (unread left new) ≡ place old + length (unread left old)
    → place new + ahead new ≤ bound new + 1 → length (unread left old) ≤ length (left (source_of new).now) + (text_limit + 1)
taken left old new start limit total past = let w = unread_within left new in omega (arith, start, limit, total, past, w)

nothing_before : (xs ys : List ℕ) → xs ++ ys ≡ [] → ys ≡ []
nothing_before [] ys e = e
nothing_before (x ∷ xs) ys e = cc

pub nothing_left : {S : Type 0} (left : S → List ℕ) (c : Cursor S Window) → unread left c ≡ [] → left (source_of c).now ≡ []
nothing_left left c e = nothing_before (take (ahead c) (drop c.window.start c.window.buffer.items)) (left (source_of c).now) e

none_taken : (n : ℕ) (held : List ℕ) → n ≡ 0 → take n held ≡ []
none_taken n held e = ap (λ k. take k held) e

pub left_behind : {S : Type 0} (left : S → List ℕ) (c : Cursor S Window) → ahead c ≡ 0 → unread left c ≡ left (source_of c).now
left_behind left c e = ap (λ l. l ++ left (source_of c).now) (none_taken (ahead c) (drop c.window.start c.window.buffer.items) e)

-- an end by a fault

pub fault_counts : (r : Result Bool CursorEnd) (e : CursorEnd) (before now : ℕ) → r ≡ Err e → EndsByFault r → Counts before now r → (before ≤ now) × Rose before now
fault_counts (Ok b) e before now is f c = absurd cc
fault_counts (Err Ended) e before now is f c = absurd f
fault_counts (Err TooLarge) e before now is f c = absurd f
fault_counts (Err ReadFault) e before now is f c = c
fault_counts (Err Memory) e before now is f c = absurd f

-- what was taken

nothing_dropped : (n : ℕ) (l : List ℕ) → drop n l ≡ [] → take n l ≡ l
nothing_dropped n l e = sym (append-nil (take n l)) ∙ ap (λ k. take n l ++ k) (sym e) ∙ take-append-drop n l

pub all_taken : (input mid text rest : List ℕ) (start : List ℕ) → start ≡ [] → Appends input mid start text text_limit → mid ≡ [] → rest ≡ [] → IsTextOf input rest text
all_taken input mid text rest start none a e r = whole (a.appended ∙ ap (λ l. l ++ take text_limit input) none ∙ nothing_dropped text_limit input (sym a.gone ∙ e)) r

pub ended_taken : (input mid text rest start : List ℕ) → start ≡ [] → AppendsFewer input mid start text 0 text_limit text_limit → mid ≡ [] → rest ≡ [] → IsTextOf input rest text
ended_taken input mid text rest start none a e r = whole (a.appended ∙ ap (λ l. l ++ a.front) none ∙ sym (append-nil a.front) ∙ ap (λ l. a.front ++ l) (sym e) ∙ sym a.parted) r

some_behind : (n : ℕ) (l : List ℕ) → n ≤ length l → (drop n l ≡ [] → ⊥) → n < length l
some_behind n l there some = by_size (drop n l) refl some
  where
    by_size : (d : List ℕ) → drop n l ≡ d → (d ≡ [] → ⊥) → n < length l
    by_size [] e none = absurd (none refl)
    by_size (x ∷ d) e none =
        let k = ap length (sym (take-append-drop n l) ∙ ap (λ r. take n l ++ r) e) in
        let m = length-append (take n l) (x ∷ d) in
        let t = length-take n l in
        omega (arith, k, m, t, there)

one_more : (n m : ℕ) → n ≡ m → m < n + 1
one_more n m e = omega (arith, e)

taken_size : (n : ℕ) (l : List ℕ) → n ≤ length l → length (take n l) ≡ n
taken_size n l there = omega (arith, length-take n l, there)

pub longer_taken : (input mid text longest rest start : List ℕ) → start ≡ [] → Appends input mid start text text_limit → (mid ≡ [] → ⊥) → longest ≡ text ++ 0 ∷ [] → IsTextOf input rest longest
longer_taken input mid text longest rest start none a some e =
    let is : text ≡ take text_limit input = a.appended ∙ ap (λ l. l ++ take text_limit input) none in
    let size : length text ≡ text_limit = ap length is ∙ taken_size text_limit input a.there in
    longer
    (some_behind text_limit input a.there (λ d. some (a.gone ∙ d)))
    (let n : length longest ≡ length text + 1 = ap length e ∙ length-append text (0 ∷ []) in omega (arith, n, size))
    (ap (take text_limit) e ∙ take_at text (0 ∷ []) text_limit size ∙ is)

pub hidden_front : (input mid text rest start : List ℕ) → AppendsFewer input mid start text 0 text_limit text_limit → mid ≡ rest → IsTextHidden input rest
hidden_front input mid text rest start a e = record { given = a.front; parts = a.parted ∙ ap (λ l. a.front ++ l) e; within = (let w = a.within in omega (arith, w)) }

pub hidden_end : (input mid text rest start : List ℕ) → Appends input mid start text text_limit → mid ≡ rest → IsTextHidden input rest
hidden_end input mid text rest start a e = record {
  given = take text_limit input;
  parts = sym (take-append-drop text_limit input) ∙ ap (λ l. take text_limit input ++ l) (sym a.gone ∙ e);
  within = omega (arith, length-take text_limit input);
}

-- The same by how the cursor answered.
module _ (input : List ℕ) (at limit : ℕ) (starts : at ≡ 0) (is : limit ≡ text_limit) (before : List ℕ) (none : before ≡ []) where
  here : (mid text : List ℕ) → AppendsFewer input mid before text at limit text_limit → AppendsFewer input mid before text 0 text_limit text_limit
  here mid text a = subst (λ n. AppendsFewer input mid before text 0 n text_limit) is (subst (λ n. AppendsFewer input mid before text n limit text_limit) starts a)

  pub whole_by : (mid text last rest : List ℕ) (b : Bool) → Appends input mid before text text_limit → GivesEnd mid last (Ok b) → b ≡ true → (last ≡ [] → rest ≡ []) → IsTextOf input rest text
  whole_by mid text last rest b a e ends k =
      let none_left : mid ≡ [] = e.1.0 ends in
      all_taken input mid text rest before none a none_left (k (e.0 ∙ none_left))

  pub longer_by : (mid text last rest : List ℕ) (b : Bool) (r : Result (Vec ℕ Global) BytesEnd) → Appends input mid before text text_limit → GivesEnd mid last (Ok b) → b ≡ false
      → IfOk r (λ longest. longest.items ≡ text ++ 0 ∷ []) → IfErr r (λ end. end ≡ NoMemory) → TakesText input rest r
  longer_by mid text last rest b (Ok longest) a e goes more memory = longer_taken input mid text longest.items rest before none a (λ nothing. let ends : b ≡ true = e.1.1 nothing in let clash : true ≡ false = sym ends ∙ goes in cc) more
  longer_by mid text last rest b (Err end) a e goes more memory = subst (λ x. TakesText input rest (Err x)) (sym memory) tt

  pub hidden_by : (mid text last rest : List ℕ) (end : CursorEnd) → Appends input mid before text text_limit → EndsByFault {T = Bool} (Err end) → GivesEnd mid last (Err end) → (end ≡ ReadFault → last ≡ rest) → IsTextHidden input rest
  hidden_by mid text last rest ReadFault a f e k = hidden_end input mid text rest before a (sym e ∙ k refl)
  hidden_by mid text last rest Ended a f e k = absurd f
  hidden_by mid text last rest TooLarge a f e k = absurd f
  hidden_by mid text last rest Memory a f e k = absurd f

  pub ended_by : (mid text rest : List ℕ) (end : CursorEnd) → end ≡ Ended → GivesBytes input mid before text at limit text_limit (Err end) → (mid ≡ [] → rest ≡ []) → IsTextOf input rest text
  ended_by mid text rest Ended e a k = ended_taken input mid text rest before none (here mid text a.0) a.1 (k a.1)
  ended_by mid text rest TooLarge e a k = absurd cc
  ended_by mid text rest ReadFault e a k = absurd cc
  ended_by mid text rest Memory e a k = absurd cc

  pub too_large_by : (P : Type 0) (mid text : List ℕ) (end : CursorEnd) → end ≡ TooLarge → GivesBytes input mid before text at limit text_limit (Err end) → P
  too_large_by P mid text TooLarge e a = let few = a.0.fewer in let full = a.1 in absurd (omega (arith, few, full, starts, is))
  too_large_by P mid text Ended e a = absurd cc
  too_large_by P mid text ReadFault e a = absurd cc
  too_large_by P mid text Memory e a = absurd cc

  pub fault_by : (mid text rest : List ℕ) (end : CursorEnd) → end ≡ ReadFault → GivesBytes input mid before text at limit text_limit (Err end) → mid ≡ rest → IsTextHidden input rest
  fault_by mid text rest ReadFault e a k = hidden_front input mid text rest before (here mid text a) k
  fault_by mid text rest Ended e a k = absurd cc
  fault_by mid text rest TooLarge e a k = absurd cc
  fault_by mid text rest Memory e a k = absurd cc

-- a failed read leaves nothing ahead
pub none_ahead_after : (T : Type 0) (n : ℕ) (end : CursorEnd) → IsFaultedAt {T = T} n (Err end) → end ≡ ReadFault → n ≡ 0
none_ahead_after T n ReadFault f e = f
none_ahead_after T n Ended f e = absurd cc
none_ahead_after T n TooLarge f e = absurd cc
none_ahead_after T n Memory f e = absurd cc
