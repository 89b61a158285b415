-- A walk over words, at a command of plain options.
use Rattle.std.proofs.Common.{◌≡◌, ◌∙◌, ◌&&◌, ◌||◌, ◌++◌, ◌+◌, ◌⊎◌, inl, inr, ℕ, Bool, cond, true, false, suc, refl, sym, ap, List, [], ◌∷◌, map, Option, Some, None, arith, true≢false, append-nil}
use Rattle.std.specs.List.{list_any, fold, position_or_len}
use Rattle.std.specs.Prelude.{is_some, ◌==◌, unwrap_or, if◌then◌else◌}
use Rattle.std.specs.Str.{bytes_eq}
use Rattle.std.proofs.lemmas.List.{map-append}
use Rattle.std.proofs.lemmas.Slice.Eq.{bytes_eq-Decides}
use Rattle.clap.specs.Faults.{react_fault, settle_fault, turn_fault, use_fault, walk_fault}
use Rattle.clap.specs.Kinds.{Kinds, or_else}
use Rattle.clap.specs.Lexer.{long_of, short_of, name_and_value}
use Rattle.clap.specs.Walk.{Held, Row, Rule, Walk, idle, option, arg_by_id, arg_by_index, arg_by_long, at_row, has_row, nothing_held, reacted, settled, used, walk, walk_from, walked}
use Rattle.clap.specs.declared.builder.value_parser.Reading.TheVariants as reading
use Rattle.clap.specs.declared.error.kind.ErrorKind.TheVariants as kind
use Rattle.clap.specs.declared.parser.matches.ValueSource.TheVariants.{CommandLine}
use Rattle.clap.proofs.SimpleLemmas.{is_false}
use Rattle.amf_options.specs.Words.{Text, Given, is_among, names, begins_with_hyphen, is_name}
use Rattle.amf_options.proofs.Shapes.{option_rule, rules, shape, none_indexed}

abbrev pub row : Text × Text → Row
row o = record { id = o.0; values = o.1 ∷ []; count = None; source = Some CommandLine; reading = reading.AsWritten }

abbrev pub rows_for : Given → List Row
rows_for g = map row g

abbrev pub pending : Option (Text × Text) → Option (Text × List Text)
pending None = None
pending (Some o) = Some (o.0, o.1 ∷ [])

abbrev pub held : Given → Option (Text × Text) → Held
held g p = record { rows = rows_for g; pending = pending p; skip = 0 }

-- between two options, of which the last may not have been used yet
abbrev pub at : Given → Option (Text × Text) → Walk
at g p = record { held = held g p; waiting = idle; position = 1; is_trailing = false; stopped = None }

-- after `--x`
abbrev pub needs : Given → Text → Walk
needs g x = record { held = record { rows = rows_for g; pending = Some (x, []); skip = 0 }; waiting = option x; position = 1; is_trailing = false; stopped = None }

-- ---- the arguments of the command

known_go : (y x : Text) (b rest : Bool) (found : Option Rule) → bytes_eq y x ≡ b → (b || rest) ≡ true → (rest ≡ true → found ≡ Some (option_rule x))
    → cond (b || false) (Some (option_rule y)) found ≡ Some (option_rule x)
known_go y x true rest found e h ih = ap (λ (z : Text). Some (option_rule z)) ((bytes_eq-Decides y x).0 e)
known_go y x false rest found e h ih = ih h

pub known_long : (xs : List Text) (x : Text) → is_among xs x ≡ true → arg_by_long (rules xs) x ≡ Some (option_rule x)
known_long [] x h = absurd (true≢false (sym h))
known_long (y ∷ ys) x h = known_go y x (bytes_eq y x) (is_among ys x) (arg_by_long (rules ys) x) refl h (known_long ys x)

known_id_go : (y x : Text) (b rest : Bool) (found : Option Rule) → bytes_eq y x ≡ b → (b || rest) ≡ true → (rest ≡ true → found ≡ Some (option_rule x))
    → cond b (Some (option_rule y)) found ≡ Some (option_rule x)
known_id_go y x true rest found e h ih = ap (λ (z : Text). Some (option_rule z)) ((bytes_eq-Decides y x).0 e)
known_id_go y x false rest found e h ih = ih h

pub known_id : (xs : List Text) (x : Text) → is_among xs x ≡ true → arg_by_id (rules xs) x ≡ Some (option_rule x)
known_id [] x h = absurd (true≢false (sym h))
known_id (y ∷ ys) x h = known_id_go y x (bytes_eq y x) (is_among ys x) (arg_by_id (rules ys) x) refl h (known_id ys x)

unknown_go : (y : Text) (b rest : Bool) (found : Option Rule) → (b || rest) ≡ false → (rest ≡ false → found ≡ None) → cond (b || false) (Some (option_rule y)) found ≡ None
unknown_go y true rest found h ih = absurd (true≢false h)
unknown_go y false rest found h ih = ih h

pub unknown_long : (xs : List Text) (x : Text) → is_among xs x ≡ false → arg_by_long (rules xs) x ≡ None
unknown_long [] x h = refl
unknown_long (y ∷ ys) x h = unknown_go y (bytes_eq y x) (is_among ys x) (arg_by_long (rules ys) x) h (unknown_long ys x)

-- ---- one use

pub has_row_for : (g : Given) (x : Text) → has_row x (rows_for g) ≡ is_among (names g) x
has_row_for [] x = refl
has_row_for (o ∷ g) x = ap (λ b. bytes_eq o.0 x || b) (has_row_for g x)

row_go : (b rest : Bool) (r : Row) (change : Row → List Row) (rs gone missing : List Row) → (b || rest) ≡ false → (rest ≡ false → gone ≡ rs ++ missing)
    → cond b (change r ++ rs) (r ∷ gone) ≡ (r ∷ rs) ++ missing
row_go true rest r change rs gone missing h ih = absurd (true≢false h)
row_go false rest r change rs gone missing h ih = ap (λ (t : List Row). r ∷ t) (ih h)

no_row_for : (g : Given) (x : Text) (change : Row → List Row) (missing : List Row) → is_among (names g) x ≡ false → at_row x change missing (rows_for g) ≡ rows_for g ++ missing
no_row_for [] x change missing h = refl
no_row_for (o ∷ g) x change missing h =
    row_go (bytes_eq o.0 x) (is_among (names g) x) (row o) change (rows_for g) (at_row x change missing (rows_for g)) missing h (no_row_for g x change missing)

-- a name that is new gets a row at the end
pub added : (g : Given) (o : Text × Text) → is_among (names g) o.0 ≡ false → used (option_rule o.0) (o.1 ∷ []) (rows_for g) ≡ rows_for (g ++ o ∷ [])
added g o h =
    ap (λ (rs : List Row). Rattle.clap.specs.Walk.with_values o.0 reading.AsWritten CommandLine (o.1 ∷ []) rs) (no_row_for g o.0 (λ _. []) [] h ∙ append-nil (rows_for g))
    ∙ no_row_for g o.0 (Rattle.clap.specs.Walk.more_values CommandLine (o.1 ∷ [])) (row o ∷ []) h ∙ sym (map-append row g (o ∷ []))

pub use_fresh : (g : Given) (o : Text × Text) → is_among (names g) o.0 ≡ false → use_fault false (option_rule o.0) (o.1 ∷ []) (rows_for g) ≡ []
use_fresh g o h = ap (λ b. or_else (if b && true then kind.ArgumentConflict ∷ [] else []) []) (has_row_for g o.0 ∙ h)

pub use_again : (g : Given) (o : Text × Text) → is_among (names g) o.0 ≡ true → use_fault false (option_rule o.0) (o.1 ∷ []) (rows_for g) ≡ kind.ArgumentConflict ∷ []
use_again g o h = ap (λ b. or_else (if b && true then kind.ArgumentConflict ∷ [] else []) []) (has_row_for g o.0 ∙ h)

-- ---- what a word is

pub record IsPlain (w : Text) : Type 0 where
  pub long : long_of w ≡ None
  pub short : short_of w ≡ None
  pub other : bytes_eq w (45 ∷ 45 ∷ []) ≡ false

pub plain_word_is : (w : Text) → begins_with_hyphen w ≡ false → IsPlain w
plain_word_is [] h = record { long = refl; short = refl; other = refl }
plain_word_is (b ∷ bs) h = record { long = rw h refl; short = rw h refl; other = rw h refl }

-- `--` has no long name
pub long_is_other : (w : Text) (p : Text × Option Text) → long_of w ≡ Some p → bytes_eq w (45 ∷ 45 ∷ []) ≡ false
long_is_other w p h = go (bytes_eq w (45 ∷ 45 ∷ [])) refl
  where
    go : (b : Bool) → bytes_eq w (45 ∷ 45 ∷ []) ≡ b → b ≡ false
    go false e = refl
    go true e = absurd (true≢false (sym (ap is_some (sym (ap long_of ((bytes_eq-Decides w (45 ∷ 45 ∷ [])).0 e)) ∙ h))))

-- ---- turns

or_nil : (k : Kinds) → or_else k [] ≡ k
or_nil [] = refl
or_nil (x ∷ xs) = refl

or_assoc : (a b d : Kinds) → or_else (or_else a b) d ≡ or_else a (or_else b d)
or_assoc [] b d = refl
or_assoc (k ∷ ks) b d = refl

-- all that a walk from here fails by, but for the last checks; and its rows
abbrev pub out : Text → List Text → Walk → List Text → Kinds
out n xs w words = or_else (walk_fault (shape n xs) [] w words) (settle_fault (rules xs) false (fold (walked (rules xs) []) w words).held)

abbrev pub end : List Text → Walk → List Text → List Row
end xs w words = (settled (rules xs) (fold (walked (rules xs) []) w words).held).rows

pub out_next : (n : Text) (xs : List Text) (w : Walk) (word : Text) (rest : List Text)
    → out n xs w (word ∷ rest) ≡ or_else (turn_fault (shape n xs) [] w word) (out n xs (walked (rules xs) [] w word) rest)
unfolding walk_fault
out_next n xs w word rest = or_assoc (turn_fault (shape n xs) [] w word) (walk_fault (shape n xs) [] (walked (rules xs) [] w word) rest)
    (settle_fault (rules xs) false (fold (walked (rules xs) []) w (word ∷ rest)).held)

module _ (n : Text) (xs : List Text) (g : Given) (p : Option (Text × Text)) (w x v : Text) (is : long_of w ≡ Some (x, Some v)) (known : arg_by_long (rules xs) x ≡ Some (option_rule x)) where
  pub turn_value : turn_fault (shape n xs) [] (at g p) w ≡ react_fault (rules xs) false (option_rule x) (v ∷ []) (held g p)
  turn_value = rw (long_is_other w _ is, is, known) (or_nil _)

  pub walked_value : walked (rules xs) [] (at g p) w ≡ record (at g p) { held = reacted (rules xs) (option_rule x) (v ∷ []) (held g p) }
  unfolding walked
  walked_value = rw (long_is_other w _ is, is, known) refl

module _ (n : Text) (xs : List Text) (g : Given) (p : Option (Text × Text)) (w x : Text) (is : long_of w ≡ Some (x, None)) (known : arg_by_long (rules xs) x ≡ Some (option_rule x)) where
  pub turn_name : turn_fault (shape n xs) [] (at g p) w ≡ settle_fault (rules xs) false (held g p)
  turn_name = rw (long_is_other w _ is, is, known) (or_nil _)

  pub walked_name : walked (rules xs) [] (at g p) w ≡ record { held = record (settled (rules xs) (held g p)) { pending = Some (x, []) }; waiting = option x; position = 1; is_trailing = false; stopped = None }
  unfolding walked
  walked_name = rw (long_is_other w _ is, is, known) refl

pub turn_unknown : (n : Text) (xs : List Text) (g : Given) (p : Option (Text × Text)) (w x : Text) (v : Option Text) → long_of w ≡ Some (x, v) → arg_by_long (rules xs) x ≡ None
    → turn_fault (shape n xs) [] (at g p) w ≡ kind.UnknownArgument ∷ []
turn_unknown n xs g p w x v is unknown = rw (long_is_other w _ is, is, unknown) refl

pub turn_stray : (n : Text) (xs : List Text) (g : Given) (p : Option (Text × Text)) (w : Text) → IsPlain w → turn_fault (shape n xs) [] (at g p) w ≡ kind.UnknownArgument ∷ []
turn_stray n xs g p w is = rw (is.other, is.long, is.short, none_indexed 1 xs) refl

-- ---- after `--x`

module _ (n : Text) (xs : List Text) (g : Given) (x : Text) (known : arg_by_id (rules xs) x ≡ Some (option_rule x)) where
  -- nothing came after it
  pub needs_settles : settle_fault (rules xs) false (needs g x).held ≡ kind.InvalidValue ∷ []
  needs_settles = rw known refl

  pub turn_needs_value : (w : Text) → IsPlain w → turn_fault (shape n xs) [] (needs g x) w ≡ []
  turn_needs_value w is = rw (is.other, is.long, is.short) refl

  same_x : bytes_eq x x ≡ true
  same_x = (bytes_eq-Decides x x).1 refl

  pub walked_needs_value : (w : Text) → IsPlain w → walked (rules xs) [] (needs g x) w ≡ at g (Some (x, w))
  unfolding walked
  walked_needs_value w is = rw (is.other, is.long, is.short, known, same_x) refl

  -- a word that begins with `--`
  pub turn_needs_flag : (w y : Text) (v : Option Text) → long_of w ≡ Some (y, v) → (a : Option Rule) → arg_by_long (rules xs) y ≡ a → (a ≡ None) ⊎ (a ≡ Some (option_rule y))
      → turn_fault (shape n xs) [] (needs g x) w ≡ [] → ⊥
  turn_needs_flag w y v is a found (inl none) h =
      let other = long_is_other w _ is in
      let unknown : arg_by_long (rules xs) y ≡ None = found ∙ none in
      let some : turn_fault (shape n xs) [] (needs g x) w ≡ kind.UnknownArgument ∷ [] = rw (other, is, unknown) refl in
      true≢false (ap Rattle.clap.specs.Walk.is_empty (sym h ∙ some))
  turn_needs_flag w y (Some v) is a found (inr one) h =
      let other = long_is_other w _ is in
      let named : arg_by_long (rules xs) y ≡ Some (option_rule y) = found ∙ one in
      let some : turn_fault (shape n xs) [] (needs g x) w ≡ kind.InvalidValue ∷ [] = rw (other, is, named, known) refl in
      true≢false (ap Rattle.clap.specs.Walk.is_empty (sym h ∙ some))
  turn_needs_flag w y None is a found (inr one) h =
      let other = long_is_other w _ is in
      let named : arg_by_long (rules xs) y ≡ Some (option_rule y) = found ∙ one in
      let some : turn_fault (shape n xs) [] (needs g x) w ≡ kind.InvalidValue ∷ [] = rw (other, is, named, known) refl in
      true≢false (ap Rattle.clap.specs.Walk.is_empty (sym h ∙ some))

-- ---- the texts of words

-- `--x`, or `--x=v`
abbrev pub joined : Text → Option Text → Text
joined x None = x
joined x (Some v) = x ++ 61 ∷ v

abbrev Cut : Type 0
Cut = Text × Option Text

abbrev cut_step : Bool → ℕ → Text → Cut → Cut
cut_step r b bs p = cond r ([], Some bs) (b ∷ p.0, p.1)

abbrev cut : Text → Cut
cut [] = ([], None)
cut (b ∷ bs) = cut_step (b == 61) b bs (cut bs)

cut_is : (t : Text) → name_and_value t ≡ cut t
cut_is [] = refl
cut_is (b ∷ bs) = go (b == 61) refl (cut_is bs)
  where
    go : (r : Bool) → (b == 61) ≡ r → name_and_value bs ≡ cut bs → name_and_value (b ∷ bs) ≡ cut_step r b bs (cut bs)
    go true e ih = rw e refl
    go false e ih =
        let n : ℕ = position_or_len (λ x. x == 61) bs in
        let one : 1 + position_or_len (λ x. x == 61) bs ≡ suc (position_or_len (λ x. x == 61) bs) = omega arith in
        let two : (1 + position_or_len (λ x. x == 61) bs) + 1 ≡ suc (position_or_len (λ x. x == 61) bs + 1) = omega arith in
        rw (e, two, one) (ap (cut_step false b bs) ih)

more_joined : (b : ℕ) (y : Text) (u : Option Text) → b ∷ joined y u ≡ joined (b ∷ y) u
more_joined b y None = refl
more_joined b y (Some u) = refl

joined_step : (b : ℕ) (bs : Text) (r : Bool) (q p : Cut) → (b == 61) ≡ r → bs ≡ joined q.0 q.1 → cut_step r b bs q ≡ p → b ∷ bs ≡ joined p.0 p.1
joined_step b bs true q p e ih h = ap (λ (c : ℕ). c ∷ bs) (Rattle.std.proofs.lemmas.Bool.eqb-true b 61 e) ∙ ap (λ (c : Cut). joined c.0 c.1) h
joined_step b bs false q p e ih h = ap (λ (t : Text). b ∷ t) ih ∙ more_joined b q.0 q.1 ∙ ap (λ (c : Cut). joined c.0 c.1) h

joined_cut : (t : Text) (p : Cut) → cut t ≡ p → t ≡ joined p.0 p.1
joined_cut [] p h = ap (λ (c : Cut). joined c.0 c.1) h
joined_cut (b ∷ bs) p h = joined_step b bs (b == 61) (cut bs) p refl (joined_cut bs (cut bs) refl) h

cut_go : (b : ℕ) (bs : Text) (v : Option Text) (r rest : Bool) (q : Cut) → (r || rest) ≡ false → (rest ≡ false → q ≡ (bs, v)) → cut_step r b (joined bs v) q ≡ (b ∷ bs, v)
cut_go b bs v true rest q h ih = absurd (true≢false h)
cut_go b bs v false rest q h ih = ap (λ (p : Cut). (b ∷ p.0, p.1)) (ih h)

cut_joined : (x : Text) (v : Option Text) → list_any (λ b. b == 61) x ≡ false → cut (joined x v) ≡ (x, v)
cut_joined [] None h = refl
cut_joined [] (Some v) h = refl
cut_joined (b ∷ bs) None h = cut_go b bs None (b == 61) (list_any (λ c. c == 61) bs) (cut bs) h (cut_joined bs None)
cut_joined (b ∷ bs) (Some v) h = cut_go b bs (Some v) (b == 61) (list_any (λ c. c == 61) bs) (cut (joined bs (Some v))) h (cut_joined bs (Some v))

-- the word of an option is read as that option
pub long_of_joined : (x : Text) (v : Option Text) → is_name x ≡ true → long_of (45 ∷ 45 ∷ joined x v) ≡ Some (x, v)
long_of_joined [] v h = absurd (true≢false (sym h))
long_of_joined (b ∷ bs) None h = ap (λ (c : Cut). Some c) (cut_is (b ∷ bs) ∙ cut_joined (b ∷ bs) None (is_false _ h))
long_of_joined (b ∷ bs) (Some v) h = ap (λ (c : Cut). Some c) (cut_is ((b ∷ bs) ++ 61 ∷ v) ∙ cut_joined (b ∷ bs) (Some v) (is_false _ h))

-- and only that word is
hyphen_step : (b : ℕ) (r : Bool) → (b == 45) ≡ r → r ≡ true → b ≡ 45
hyphen_step b r e h = Rattle.std.proofs.lemmas.Bool.eqb-true b 45 (e ∙ h)

some_of : {X : Type 0} (p q : X) → Some p ≡ Some q → p ≡ q
some_of p q h = ap (λ o. unwrap_or o p) h

pub joined_of_long : (w : Text) (p : Cut) → long_of w ≡ Some p → w ≡ 45 ∷ 45 ∷ joined p.0 p.1
joined_of_long [] p h = absurd (true≢false (sym (ap is_some h)))
joined_of_long (a ∷ []) p h = go (a == 45) refl
  where
    go : (r : Bool) → (a == 45) ≡ r → (a ∷ []) ≡ 45 ∷ 45 ∷ joined p.0 p.1
    go true e = absurd (true≢false (sym (ap is_some (rw e at h))))
    go false e = absurd (true≢false (sym (ap is_some (rw e at h))))
joined_of_long (a ∷ b ∷ []) p h = go (a == 45) (b == 45) refl refl
  where
    go : (r s : Bool) → (a == 45) ≡ r → (b == 45) ≡ s → (a ∷ b ∷ []) ≡ 45 ∷ 45 ∷ joined p.0 p.1
    go true true e f = absurd (true≢false (sym (ap is_some (rw (e, f) at h))))
    go true false e f = absurd (true≢false (sym (ap is_some (rw (e, f) at h))))
    go false s e f = absurd (true≢false (sym (ap is_some (rw e at h))))
joined_of_long (a ∷ b ∷ c ∷ cs) p h = go (a == 45) (b == 45) refl refl
  where
    go : (r s : Bool) → (a == 45) ≡ r → (b == 45) ≡ s → (a ∷ b ∷ c ∷ cs) ≡ 45 ∷ 45 ∷ joined p.0 p.1
    go true true e f =
        let k : Some (name_and_value (c ∷ cs)) ≡ Some p = rw (e, f) at h in
        let t : c ∷ cs ≡ joined p.0 p.1 = joined_cut (c ∷ cs) p (sym (cut_is (c ∷ cs)) ∙ some_of _ _ k) in
        rw (hyphen_step a true e refl, hyphen_step b true f refl, t) refl
    go true false e f = absurd (true≢false (sym (ap is_some (rw (e, f) at h))))
    go false s e f = absurd (true≢false (sym (ap is_some (rw e at h))))
