-- The tokens of a text are those of its scan, up to one that is none or is cut off.
use Rattle.std.proofs.Common.{◌≡◌, ℕ, suc, ◌<◌, ◌≤◌, Bool, true, false, ◌||◌, not, List, [], ◌∷◌, map, refl, sym, ap, ◌∙◌, arith}
use Rattle.std.proofs.lemmas.Bool.{false≢true}
use Rattle.json.specs.Token.{Token, begin_object, end_object, begin_array, end_array, key, string, number, boolean, null, bad}
use Rattle.json.specs.Lex.{Lexeme, token, comma, colon, Place, fresh, after_value, after_comma, after_key, begins_colon, may_begin, may_close, punctuate}
use Rattle.json.specs.Lex as lex
use Rattle.amf_text.specs.Scan.{fault, Scan, stopped, more, if_allowed, place_token, last_token, seconds, is_last, scan_from}
use Rattle.amf_text_read.specs.Scanned.{is_bad, is_cut, whole_tokens, stops_early, opens, last_opens, last_place, is_comma, behind_comma, StopsSo, so_ended, so_comma, so_inside, so_fault, is_ended}

or_true : (b : Bool) → (b || true) ≡ true
or_true true = refl
or_true false = refl

abbrev tokens_in : Scan → List Token
tokens_in s = map (λ p. p.1) s.tokens

-- what stands before lexemes, by the tokens and the lexeme before them
abbrev Fits : Place → Bool → Bool → List (ℕ × Lexeme) → Type 0
Fits fresh o c ls = o ≡ true
Fits after_value o c ls = (o ≡ false) × (c ≡ false)
Fits after_comma o c [] = ⊥
Fits after_comma o c (l ∷ ls) = c ≡ true
Fits after_key o c ls = (begins_colon (seconds ls) ≡ true) × (o ≡ true)

abbrev pub is_token_lexeme : Lexeme → Bool
is_token_lexeme (token t) = true
is_token_lexeme l = false

-- the last of them is a token
abbrev pub ends_by_token : List (ℕ × Lexeme) → Bool
ends_by_token [] = true
ends_by_token (l ∷ []) = is_token_lexeme l.1
ends_by_token (l ∷ m ∷ ls) = ends_by_token (m ∷ ls)

-- places rise, from one on, to the end
abbrev pub RiseFrom : ℕ → ℕ → List (ℕ × Lexeme) → Type 0
RiseFrom n end [] = Unit {0}
RiseFrom n end (l ∷ ls) = (n ≤ l.0) × (l.0 < end) × RiseFrom (suc l.0) end ls

pub record Scanned (cut o b c : Bool) (d end : ℕ) (ls : List (ℕ × Lexeme)) (s : Scan) (ts : List Token) : Type 0 where
  pub tokens : tokens_in s ≡ whole_tokens cut ts
  pub early : stops_early cut ts ≡ not (is_ended s.stop)
  pub kind : StopsSo cut (last_place d ls) (last_opens o (tokens_in s) || behind_comma b c ls) end s.stop

bad_whole : (cut : Bool) (ts : List Token) → whole_tokens cut (bad ∷ ts) ≡ []
bad_whole true [] = refl
bad_whole false [] = refl
bad_whole cut (t ∷ ts) = refl

bad_early : (cut : Bool) (ts : List Token) → stops_early cut (bad ∷ ts) ≡ true
bad_early true [] = refl
bad_early false [] = refl
bad_early cut (t ∷ ts) = refl

at_fault : (cut o b c : Bool) (d end n : ℕ) (ls : List (ℕ × Lexeme)) → n < end → (cut ≡ true → n ≡ last_place d ls → (o || behind_comma b c ls) ≡ false)
    → Scanned cut o b c d end ls (stopped (fault n)) (bad ∷ [])
at_fault cut o b c d end n ls h f = record { tokens = sym (bad_whole cut []); early = bad_early cut []; kind = so_fault n f h }

-- Some token follows.

not_cut : (ts : List Token) → is_cut false ts ≡ false
not_cut [] = refl
not_cut (t ∷ ts) = refl

allowed_more : (cut a : Bool) (t : Token) (k : Place → List Token) (next : Place) → is_cut cut (lex.if_allowed a t k next) ≡ false
allowed_more cut true t k next = refl
allowed_more cut false t k next = refl

token_more : (cut : Bool) (p : Place) (t : Token) (b : Bool) (k : Place → List Token) → is_cut cut (lex.place_token p t b k) ≡ false
token_more cut p begin_object b k = allowed_more cut (may_begin p) begin_object k fresh
token_more cut p end_object b k = allowed_more cut (may_close p) end_object k after_value
token_more cut p begin_array b k = allowed_more cut (may_begin p) begin_array k fresh
token_more cut p end_array b k = allowed_more cut (may_close p) end_array k after_value
token_more cut p (key s) b k = refl
token_more cut p (string s) true k = allowed_more cut (may_begin p) (key s) k after_key
token_more cut p (string s) false k = allowed_more cut (may_begin p) (string s) k after_value
token_more cut p (number s) b k = allowed_more cut (may_begin p) (number s) k after_value
token_more cut p (boolean x) b k = allowed_more cut (may_begin p) (boolean x) k after_value
token_more cut p null b k = allowed_more cut (may_begin p) null k after_value
token_more cut p bad b k = refl

comma_more : (cut : Bool) (ls : List (ℕ × Lexeme)) → is_cut cut (punctuate after_comma (seconds ls)) ≡ false
unfolding punctuate
comma_more cut [] = refl
comma_more cut ((n, token t) ∷ ls) = token_more cut after_comma t (begins_colon (seconds ls)) (λ next. punctuate next (seconds ls))
comma_more cut ((n, comma) ∷ ls) = refl
comma_more cut ((n, colon) ∷ ls) = refl

-- of these the last is a token, where the text ends inside it
abbrev Whole : Bool → List (ℕ × Lexeme) → Type 0
Whole cut ls = cut ≡ true → ends_by_token ls ≡ true

tail_whole : (cut : Bool) (l : ℕ × Lexeme) (ls : List (ℕ × Lexeme)) → Whole cut (l ∷ ls) → Whole cut ls
tail_whole cut l [] w = λ e. refl
tail_whole cut l (m ∷ ls) w = w

mark_last : (cut : Bool) (n : ℕ) (l : Lexeme) (ls : List (ℕ × Lexeme)) → is_token_lexeme l ≡ false → Whole cut ((n, l) ∷ ls) → is_last cut ls ≡ false
mark_last true n l [] h w = absurd (false≢true (sym h ∙ w refl))
mark_last false n l [] h w = refl
mark_last cut n l (m ∷ ls) h w = refl

follows : (cut : Bool) (p : Place) (ls : List (ℕ × Lexeme)) → Whole cut ls → is_last cut ls ≡ false → is_cut cut (punctuate p (seconds ls)) ≡ false
unfolding punctuate
follows cut fresh [] w h = h
follows cut after_value [] w h = h
follows cut after_comma [] w h = refl
follows cut after_key [] w h = refl
follows cut p ((n, token t) ∷ ls) w h = token_more cut p t (begins_colon (seconds ls)) (λ next. punctuate next (seconds ls))
follows cut fresh ((n, comma) ∷ ls) w h = refl
follows cut after_value ((n, comma) ∷ ls) w h = comma_more cut ls
follows cut after_comma ((n, comma) ∷ ls) w h = refl
follows cut after_key ((n, comma) ∷ ls) w h = refl
follows cut fresh ((n, colon) ∷ ls) w h = refl
follows cut after_value ((n, colon) ∷ ls) w h = refl
follows cut after_comma ((n, colon) ∷ ls) w h = refl
follows cut after_key ((n, colon) ∷ ls) w h = follows cut fresh ls (tail_whole cut (n, colon) ls w) (mark_last cut n colon ls refl w)

-- A fault before the last lexeme.

last_past : (n m end : ℕ) (ls : List (ℕ × Lexeme)) → n < m → RiseFrom (suc m) end ls → n < last_place m ls
last_past n m end [] h r = h
last_past n m end (l ∷ ls) h r = last_past n l.0 end ls (let f = r.0 in omega (arith, f, h)) r.2

not_last : (cut : Bool) (n end : ℕ) (ls : List (ℕ × Lexeme)) → is_last cut ls ≡ false → RiseFrom (suc n) end ls → cut ≡ true → n ≡ last_place n ls → ⊥
not_last cut n end [] h r e same = false≢true (sym h ∙ e)
not_last cut n end (l ∷ ls) h r e same = let f = r.0 in let past = last_past n l.0 end ls (omega (arith, f)) r.2 in omega (arith, past, same)

-- One token, and those behind it.

more_tokens : (cut : Bool) (t : Token) (us : List Token) → is_bad t ≡ false → is_cut cut us ≡ false → whole_tokens cut (t ∷ us) ≡ t ∷ whole_tokens cut us
more_tokens cut t us g h = rw h (rw g refl)

more_early : (cut : Bool) (t : Token) (us : List Token) → is_bad t ≡ false → is_cut cut us ≡ false → stops_early cut (t ∷ us) ≡ stops_early cut us
more_early cut t us g h = rw h (rw g refl)

one_more : (cut o b c : Bool) (d end n : ℕ) (l : Lexeme) (t : Token) (ls : List (ℕ × Lexeme)) (s : Scan) (us : List Token) → is_bad t ≡ false → is_comma l ≡ false → is_cut cut us ≡ false
    → Scanned cut (opens t) c false n end ls s us → Scanned cut o b c d end ((n, l) ∷ ls) (more n t s) (t ∷ us)
one_more cut o b c d end n l t ls s us g m h r = record {
  tokens = ap (λ ts. t ∷ ts) r.tokens ∙ sym (more_tokens cut t us g h);
  early = more_early cut t us g h ∙ r.early;
  kind = rw m r.kind;
}

-- a token that may stand there, or not
one_allowed : (cut o b c : Bool) (d end n : ℕ) (l : Lexeme) (a : Bool) (t : Token) (ls : List (ℕ × Lexeme)) (k : Place → Scan) (us : Place → List Token) (next : Place)
    → is_bad t ≡ false → is_comma l ≡ false → n < end → (cut ≡ true → n ≡ last_place n ls → ⊥) → is_cut cut (us next) ≡ false
    → Scanned cut (opens t) c false n end ls (k next) (us next) → Scanned cut o b c d end ((n, l) ∷ ls) (if_allowed a n t k next) (lex.if_allowed a t us next)
one_allowed cut o b c d end n l true t ls k us next g m less f h r = one_more cut o b c d end n l t ls (k next) (us next) g m h r
one_allowed cut o b c d end n l false t ls k us next g m less f h r = at_fault cut o b c d end n ((n, l) ∷ ls) less (λ e same. absurd (f e same))

-- Behind lexemes, in the places that fit.

abbrev Rest : Bool → Bool → Bool → ℕ → ℕ → List (ℕ × Lexeme) → Place → Type 0
Rest cut o c n end ls p = Scanned cut o c false n end ls (scan_from cut p ls) (punctuate p (seconds ls))

-- The last lexeme, where the text ends inside it.

abbrev IsOne : List Token → Type 0
IsOne ts = (u : Token) × (ts ≡ u ∷ [])

one_if : (a : Bool) (t : Token) (k : Place → List Token) (next : Place) → k next ≡ [] → IsOne (lex.if_allowed a t k next)
one_if true t k next e = (t, ap (λ ts. t ∷ ts) e)
one_if false t k next e = (bad, refl)

one_token : (p : Place) (t : Token) (k : Place → List Token) → k fresh ≡ [] → k after_value ≡ [] → IsOne (lex.place_token p t false k)
one_token p begin_object k f v = one_if (may_begin p) begin_object k fresh f
one_token p end_object k f v = one_if (may_close p) end_object k after_value v
one_token p begin_array k f v = one_if (may_begin p) begin_array k fresh f
one_token p end_array k f v = one_if (may_close p) end_array k after_value v
one_token p (key s) k f v = (bad, refl)
one_token p (string s) k f v = one_if (may_begin p) (string s) k after_value v
one_token p (number s) k f v = one_if (may_begin p) (number s) k after_value v
one_token p (boolean x) k f v = one_if (may_begin p) (boolean x) k after_value v
one_token p null k f v = one_if (may_begin p) null k after_value v
one_token p bad k f v = (bad, refl)

none_fresh : punctuate fresh [] ≡ []
unfolding punctuate
none_fresh = refl

none_value : punctuate after_value [] ≡ []
unfolding punctuate
none_value = refl

cut_place : (p : Place) (o b c : Bool) (end n : ℕ) (t : Token) → Fits p o c ((n, token t) ∷ []) → n < end
    → StopsSo true n (o || behind_comma b c ((n, token t) ∷ [])) end (last_token p n).stop
cut_place fresh o b c end n t f h = so_inside n refl refl (rw f refl) h
cut_place after_comma o b c end n t f h = so_inside n refl refl (rw f (or_true o)) h
cut_place after_value o b c end n t f h = so_fault n (λ _ _. rw f.0 f.1) h
cut_place after_key o b c end n t f h = absurd (false≢true f.0)

no_tokens : (p : Place) (n : ℕ) → (last_token p n).tokens ≡ []
no_tokens fresh n = refl
no_tokens after_value n = refl
no_tokens after_comma n = refl
no_tokens after_key n = refl

no_end : (p : Place) (n : ℕ) → is_ended (last_token p n).stop ≡ false
no_end fresh n = refl
no_end after_value n = refl
no_end after_comma n = refl
no_end after_key n = refl

cut_token : (p : Place) (o b c : Bool) (d end n : ℕ) (t u : Token) → Fits p o c ((n, token t) ∷ []) → n < end → Scanned true o b c d end ((n, token t) ∷ []) (last_token p n) (u ∷ [])
cut_token p o b c d end n t u f h = record {
  tokens = ap (λ ts. map (λ q. q.1) ts) (no_tokens p n);
  early = sym (ap not (no_end p n));
  kind = rw (no_tokens p n) (cut_place p o b c end n t f h);
}

cut_last : (p : Place) (o b c : Bool) (d end n : ℕ) (t : Token) → Fits p o c ((n, token t) ∷ []) → n < end
    → Scanned true o b c d end ((n, token t) ∷ []) (scan_from true p ((n, token t) ∷ [])) (punctuate p (token t ∷ []))
unfolding scan_from punctuate
cut_last p o b c d end n t f h =
    let u = one_token p t (λ next. punctuate next []) none_fresh none_value in
    rw u.1 (cut_token p o b c d end n t u.0 f h)

-- Any other token.

token_scanned : (cut o b c : Bool) (p : Place) (d end n : ℕ) (t : Token) (ls : List (ℕ × Lexeme)) (bc : Bool) → n < end → (cut ≡ true → n ≡ last_place n ls → ⊥)
    → ((q : Place) → is_cut cut (punctuate q (seconds ls)) ≡ false)
    → Rest cut true c n end ls fresh → Rest cut false c n end ls after_value → (bc ≡ true → Rest cut true c n end ls after_key)
    → Scanned cut o b c d end ((n, token t) ∷ ls) (place_token p n t bc (λ next. scan_from cut next ls)) (lex.place_token p t bc (λ next. punctuate next (seconds ls)))
token_scanned cut o b c p d end n begin_object ls bc less f m r v k =
    one_allowed cut o b c d end n (token begin_object) (may_begin p) begin_object ls (λ next. scan_from cut next ls) (λ next. punctuate next (seconds ls)) fresh refl refl less f (m fresh) r
token_scanned cut o b c p d end n end_object ls bc less f m r v k =
    one_allowed cut o b c d end n (token end_object) (may_close p) end_object ls (λ next. scan_from cut next ls) (λ next. punctuate next (seconds ls)) after_value refl refl less f (m after_value) v
token_scanned cut o b c p d end n begin_array ls bc less f m r v k =
    one_allowed cut o b c d end n (token begin_array) (may_begin p) begin_array ls (λ next. scan_from cut next ls) (λ next. punctuate next (seconds ls)) fresh refl refl less f (m fresh) r
token_scanned cut o b c p d end n end_array ls bc less f m r v k =
    one_allowed cut o b c d end n (token end_array) (may_close p) end_array ls (λ next. scan_from cut next ls) (λ next. punctuate next (seconds ls)) after_value refl refl less f (m after_value) v
token_scanned cut o b c p d end n (key s) ls bc less f m r v k = at_fault cut o b c d end n ((n, token (key s)) ∷ ls) less (λ e same. absurd (f e same))
token_scanned cut o b c p d end n (string s) ls true less f m r v k =
    one_allowed cut o b c d end n (token (string s)) (may_begin p) (key s) ls (λ next. scan_from cut next ls) (λ next. punctuate next (seconds ls)) after_key refl refl less f (m after_key) (k refl)
token_scanned cut o b c p d end n (string s) ls false less f m r v k =
    one_allowed cut o b c d end n (token (string s)) (may_begin p) (string s) ls (λ next. scan_from cut next ls) (λ next. punctuate next (seconds ls)) after_value refl refl less f (m after_value) v
token_scanned cut o b c p d end n (number s) ls bc less f m r v k =
    one_allowed cut o b c d end n (token (number s)) (may_begin p) (number s) ls (λ next. scan_from cut next ls) (λ next. punctuate next (seconds ls)) after_value refl refl less f (m after_value) v
token_scanned cut o b c p d end n (boolean x) ls bc less f m r v k =
    one_allowed cut o b c d end n (token (boolean x)) (may_begin p) (boolean x) ls (λ next. scan_from cut next ls) (λ next. punctuate next (seconds ls)) after_value refl refl less f (m after_value) v
token_scanned cut o b c p d end n null ls bc less f m r v k =
    one_allowed cut o b c d end n (token null) (may_begin p) null ls (λ next. scan_from cut next ls) (λ next. punctuate next (seconds ls)) after_value refl refl less f (m after_value) v
token_scanned cut o b c p d end n bad ls bc less f m r v k = at_fault cut o b c d end n ((n, token bad) ∷ ls) less (λ e same. absurd (f e same))

token_or_last : (cut o b c : Bool) (p : Place) (d end n : ℕ) (t : Token) (ls : List (ℕ × Lexeme)) → Fits p o c ((n, token t) ∷ ls) → n < end → RiseFrom (suc n) end ls → Whole cut ls
    → Rest cut true c n end ls fresh → Rest cut false c n end ls after_value → (begins_colon (seconds ls) ≡ true → Rest cut true c n end ls after_key)
    → Scanned cut o b c d end ((n, token t) ∷ ls) (scan_from cut p ((n, token t) ∷ ls)) (punctuate p (token t ∷ seconds ls))
unfolding scan_from punctuate
token_or_last true o b c p d end n t [] f less r w x v k = cut_last p o b c d end n t f less
token_or_last false o b c p d end n t [] f less r w x v k =
    token_scanned false o b c p d end n t [] false less (λ e _. false≢true e) (λ q. not_cut (punctuate q [])) x v (λ e. absurd (false≢true e))
token_or_last cut o b c p d end n t (l ∷ ls) f less r w x v k =
    token_scanned cut o b c p d end n t (l ∷ ls) (begins_colon (seconds (l ∷ ls))) less (not_last cut n end (l ∷ ls) refl r) (λ q. follows cut q (l ∷ ls) w refl) x v k

-- A comma and a colon.

mark_fault : (cut o b c : Bool) (d end n : ℕ) (l : Lexeme) (ls : List (ℕ × Lexeme)) → is_token_lexeme l ≡ false → n < end → RiseFrom (suc n) end ls → Whole cut ((n, l) ∷ ls)
    → Scanned cut o b c d end ((n, l) ∷ ls) (stopped (fault n)) (bad ∷ [])
mark_fault cut o b c d end n l ls h less r w = at_fault cut o b c d end n ((n, l) ∷ ls) less (λ e same. absurd (not_last cut n end ls (mark_last cut n l ls h w) r e same))

pub scanned : (cut o b c : Bool) (p : Place) (d from end : ℕ) (ls : List (ℕ × Lexeme)) → Fits p o c ls → RiseFrom from end ls → Whole cut ls
    → Scanned cut o b c d end ls (scan_from cut p ls) (punctuate p (seconds ls))
unfolding scan_from punctuate
scanned cut o b c fresh d from end [] f r w = record { tokens = refl; early = refl; kind = so_ended }
scanned cut o b c after_value d from end [] f r w = record { tokens = refl; early = refl; kind = so_ended }
scanned cut o b c after_comma d from end [] f r w = absurd f
scanned cut o b c after_key d from end [] f r w = absurd (false≢true f.0)
scanned cut o b c p d from end ((n, token t) ∷ ls) f r w =
    let w1 = tail_whole cut (n, token t) ls w in
    token_or_last cut o b c p d end n t ls f r.1 r.2 w1
    (scanned cut true c false fresh n (suc n) end ls refl r.2 w1)
    (scanned cut false c false after_value n (suc n) end ls (refl, refl) r.2 w1)
    (λ e. scanned cut true c false after_key n (suc n) end ls (e, refl) r.2 w1)
scanned cut o b c fresh d from end ((n, comma) ∷ ls) f r w = mark_fault cut o b c d end n comma ls refl r.1 r.2 w
scanned cut o b c after_comma d from end ((n, comma) ∷ ls) f r w = mark_fault cut o b c d end n comma ls refl r.1 r.2 w
scanned cut o b c after_key d from end ((n, comma) ∷ ls) f r w = absurd (false≢true f.0)
scanned cut o b c after_value d from end ((n, comma) ∷ []) f r w = record { tokens = sym (bad_whole cut []); early = bad_early cut []; kind = so_comma n refl }
scanned cut o b c after_value d from end ((n, comma) ∷ l ∷ ls) f r w =
    let s = scanned cut o c true after_comma n (suc n) end (l ∷ ls) refl r.2 w in
    record { tokens = s.tokens; early = s.early; kind = s.kind }
scanned cut o b c fresh d from end ((n, colon) ∷ ls) f r w = mark_fault cut o b c d end n colon ls refl r.1 r.2 w
scanned cut o b c after_value d from end ((n, colon) ∷ ls) f r w = mark_fault cut o b c d end n colon ls refl r.1 r.2 w
scanned cut o b c after_comma d from end ((n, colon) ∷ ls) f r w = mark_fault cut o b c d end n colon ls refl r.1 r.2 w
scanned cut o b c after_key d from end ((n, colon) ∷ ls) f r w =
    let s = scanned cut o c false fresh n (suc n) end ls f.1 r.2 (tail_whole cut (n, colon) ls w) in
    record { tokens = s.tokens; early = s.early; kind = s.kind }
