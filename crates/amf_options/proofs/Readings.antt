-- A walk passes exactly at the words that give options, each at most once.
use Rattle.std.proofs.Common.{◌≡◌, ◌∙◌, ◌&&◌, ◌||◌, ◌++◌, ◌⊎◌, inl, inr, Bool, true, false, refl, sym, ap, ap₂, subst, List, [], ◌∷◌, Option, Some, None, true≢false, append-nil, append_assoc}
use Rattle.std.specs.List.{list_all}
use Rattle.std.specs.Prelude.{◌==◌}
use Rattle.std.specs.Str.{bytes_eq}
use Rattle.std.proofs.lemmas.List.{map-append}
use Rattle.std.proofs.lemmas.Slice.Eq.{bytes_eq-Decides}
use Rattle.clap.specs.Faults.{settle_fault, turn_fault, use_fault, walk_fault}
use Rattle.clap.specs.Kinds.{Kinds, or_else}
use Rattle.clap.specs.Lexer.{long_of, name_and_value}
use Rattle.clap.specs.Walk.{Row, Walk, arg_by_long, is_empty, settled, used, walked}
use Rattle.clap.proofs.SimpleLemmas.{is_false}
use Rattle.clap.proofs.WalkLemmas.{both}
use Rattle.clap.specs.declared.error.kind.ErrorKind.TheVariants as kind
use Rattle.clap.specs.declared.error.kind.ErrorKind.{ErrorKind}
use Rattle.amf_options.specs.Words.{Text, Given, Gives, AreOnce, is_among, is_fit, names, begins_with_hyphen, is_name}
use Rattle.amf_options.proofs.Shapes.{option_rule, rules, shape}
use Rattle.amf_options.proofs.Walks.{added, at, end, held, joined, joined_of_long, known_id, known_long, long_of_joined, needs, needs_settles, out, out_next, plain_word_is, rows_for, turn_name, turn_needs_flag, turn_needs_value, turn_stray, turn_unknown, turn_value, unknown_long, use_again, use_fresh, walked_name, walked_needs_value, walked_value}

abbrev Cut : Type 0
Cut = Text × Option Text

bool_cases : (b : Bool) → (b ≡ true) ⊎ (b ≡ false)
bool_cases true = inl refl
bool_cases false = inr refl

nonempty : (k : ErrorKind) (a rest : Kinds) → a ≡ k ∷ [] → or_else a rest ≡ k ∷ []
nonempty k a rest h = ap (λ (t : Kinds). or_else t rest) h

full : (k : ErrorKind) (a : Kinds) → a ≡ k ∷ [] → a ≡ [] → ⊥
full k a h e = true≢false (ap is_empty (sym e ∙ h))

pub classes : (w : Text) → is_fit w ≡ true → (begins_with_hyphen w ≡ false) ⊎ ((p : Cut) × (long_of w ≡ Some p))
classes [] h = inl refl
classes (a ∷ []) h = inl (is_false _ h)
classes (a ∷ b ∷ []) h = inl (is_false _ h)
classes (a ∷ b ∷ c ∷ cs) h = go (a == 45) (b == 45) refl refl
  where
    go : (r s : Bool) → (a == 45) ≡ r → (b == 45) ≡ s → (begins_with_hyphen (a ∷ b ∷ c ∷ cs) ≡ false) ⊎ ((p : Cut) × (long_of (a ∷ b ∷ c ∷ cs) ≡ Some p))
    go true true e f = inr (name_and_value (c ∷ cs), rw (e, f) refl)
    go true false e f = absurd (true≢false (sym (rw (e, f) at h)))
    go false s e f = inl e

module _ (n : Text) (xs : List Text) where
  -- ---- an option whose use is still to come

  module _ (g : Given) (o : Text × Text) (known : is_among xs o.0 ≡ true) where
    settle_use : settle_fault (rules xs) false (held g (Some o)) ≡ use_fault false (option_rule o.0) (o.1 ∷ []) (rows_for g)
    settle_use = rw (known_id xs o.0 known) refl

    settled_use : (settled (rules xs) (held g (Some o))).rows ≡ used (option_rule o.0) (o.1 ∷ []) (rows_for g)
    settled_use = rw (known_id xs o.0 known) refl

    module _ (fresh : is_among (names g) o.0 ≡ false) where
      settle_none : settle_fault (rules xs) false (held g (Some o)) ≡ []
      settle_none = settle_use ∙ use_fresh g o fresh

      settled_rows_are : (settled (rules xs) (held g (Some o))).rows ≡ rows_for (g ++ o ∷ [])
      settled_rows_are = settled_use ∙ added g o fresh

      -- the words go on as if it had been used
      pub moved : (words : List Text) → list_all is_fit words ≡ true
          → (out n xs (at g (Some o)) words ≡ out n xs (at (g ++ o ∷ []) None) words)
          × (out n xs (at (g ++ o ∷ []) None) words ≡ [] → end xs (at g (Some o)) words ≡ end xs (at (g ++ o ∷ []) None) words)
      unfolding walk_fault
      moved [] fit = (settle_none, λ _. settled_rows_are)
      moved (w ∷ ws) fit = elim (classes w (both _ _ fit).0) [
        | inl plain ↦ refused kind.UnknownArgument (turn_stray n xs g (Some o) w (plain_word_is w plain)) (turn_stray n xs (g ++ o ∷ []) None w (plain_word_is w plain))
        | inr long ↦ named long.0.0 long.0.1 long.1 (bool_cases (is_among xs long.0.0))
      ]
        where
          refused : (k : ErrorKind) → turn_fault (shape n xs) [] (at g (Some o)) w ≡ k ∷ [] → turn_fault (shape n xs) [] (at (g ++ o ∷ []) None) w ≡ k ∷ []
              → (out n xs (at g (Some o)) (w ∷ ws) ≡ out n xs (at (g ++ o ∷ []) None) (w ∷ ws))
              × (out n xs (at (g ++ o ∷ []) None) (w ∷ ws) ≡ [] → end xs (at g (Some o)) (w ∷ ws) ≡ end xs (at (g ++ o ∷ []) None) (w ∷ ws))
          refused k a b =
              let left = out_next n xs (at g (Some o)) w ws ∙ nonempty k _ (out n xs (walked (rules xs) [] (at g (Some o)) w) ws) a in
              let right = out_next n xs (at (g ++ o ∷ []) None) w ws ∙ nonempty k _ (out n xs (walked (rules xs) [] (at (g ++ o ∷ []) None) w) ws) b in
              (left ∙ sym right, λ e. absurd (full k _ right e))

          alike : turn_fault (shape n xs) [] (at g (Some o)) w ≡ turn_fault (shape n xs) [] (at (g ++ o ∷ []) None) w
              → walked (rules xs) [] (at g (Some o)) w ≡ walked (rules xs) [] (at (g ++ o ∷ []) None) w
              → (out n xs (at g (Some o)) (w ∷ ws) ≡ out n xs (at (g ++ o ∷ []) None) (w ∷ ws))
              × (out n xs (at (g ++ o ∷ []) None) (w ∷ ws) ≡ [] → end xs (at g (Some o)) (w ∷ ws) ≡ end xs (at (g ++ o ∷ []) None) (w ∷ ws))
          alike a b = (
            out_next n xs (at g (Some o)) w ws ∙ ap₂ (λ (t : Kinds) (v : Walk). or_else t (out n xs v ws)) a b ∙ sym (out_next n xs (at (g ++ o ∷ []) None) w ws),
            λ _. ap (λ (v : Walk). end xs v ws) b,
          )

          named : (x : Text) (v : Option Text) → long_of w ≡ Some (x, v) → (is_among xs x ≡ true) ⊎ (is_among xs x ≡ false)
              → (out n xs (at g (Some o)) (w ∷ ws) ≡ out n xs (at (g ++ o ∷ []) None) (w ∷ ws))
              × (out n xs (at (g ++ o ∷ []) None) (w ∷ ws) ≡ [] → end xs (at g (Some o)) (w ∷ ws) ≡ end xs (at (g ++ o ∷ []) None) (w ∷ ws))
          named x v is (inr not_one) =
              refused kind.UnknownArgument (turn_unknown n xs g (Some o) w x v is (unknown_long xs x not_one)) (turn_unknown n xs (g ++ o ∷ []) None w x v is (unknown_long xs x not_one))
          named x (Some v) is (inl one) =
              let k = known_long xs x one in
              alike (turn_value n xs g (Some o) w x v is k
              ∙ ap₂ (λ (t : Kinds) (rs : List Row). or_else t (use_fault false (option_rule x) (v ∷ []) rs)) settle_none settled_rows_are
              ∙ sym (turn_value n xs (g ++ o ∷ []) None w x v is k))
              (walked_value n xs g (Some o) w x v is k
              ∙ ap (λ (rs : List Row). record (at g None) { held = record (held g None) { rows = used (option_rule x) (v ∷ []) rs } }) settled_rows_are
              ∙ sym (walked_value n xs (g ++ o ∷ []) None w x v is k))
          named x None is (inl one) =
              let k = known_long xs x one in
              alike (turn_name n xs g (Some o) w x is k ∙ settle_none ∙ sym (turn_name n xs (g ++ o ∷ []) None w x is k))
              (walked_name n xs g (Some o) w x is k
              ∙ ap (λ (rs : List Row). record (needs g x) { held = record { rows = rs; pending = Some (x, []); skip = 0 } }) settled_rows_are
              ∙ sym (walked_name n xs (g ++ o ∷ []) None w x is k))

    -- a second use fails, whatever follows
    pub fails_again : is_among (names g) o.0 ≡ true → (words : List Text) → list_all is_fit words ≡ true → out n xs (at g (Some o)) words ≡ [] → ⊥
    unfolding walk_fault
    fails_again again [] fit e = full kind.ArgumentConflict _ (settle_use ∙ use_again g o again) e
    fails_again again (w ∷ ws) fit e = elim (classes w (both _ _ fit).0) [
      | inl plain ↦ refused kind.UnknownArgument (turn_stray n xs g (Some o) w (plain_word_is w plain))
      | inr long ↦ named long.0.0 long.0.1 long.1 (bool_cases (is_among xs long.0.0))
    ]
      where
        refused : (k : ErrorKind) → turn_fault (shape n xs) [] (at g (Some o)) w ≡ k ∷ [] → ⊥
        refused k a = full k _ (out_next n xs (at g (Some o)) w ws ∙ nonempty k _ (out n xs (walked (rules xs) [] (at g (Some o)) w) ws) a) e

        named : (x : Text) (v : Option Text) → long_of w ≡ Some (x, v) → (is_among xs x ≡ true) ⊎ (is_among xs x ≡ false) → ⊥
        named x v is (inr not_one) = refused kind.UnknownArgument (turn_unknown n xs g (Some o) w x v is (unknown_long xs x not_one))
        named x (Some v) is (inl one) =
            refused kind.ArgumentConflict (turn_value n xs g (Some o) w x v is (known_long xs x one)
            ∙ nonempty kind.ArgumentConflict _ (use_fault false (option_rule x) (v ∷ []) (settled (rules xs) (held g (Some o))).rows) (settle_use ∙ use_again g o again))
        named x None is (inl one) = refused kind.ArgumentConflict (turn_name n xs g (Some o) w x is (known_long xs x one) ∙ settle_use ∙ use_again g o again)

  -- ---- the words of one option

  module _ (g : Given) (o : Text × Text) (known : is_among xs o.0 ≡ true) (w : Text) (rest : List Text) (is : long_of w ≡ Some (o.0, Some o.1)) where
    value_turn : turn_fault (shape n xs) [] (at g None) w ≡ use_fault false (option_rule o.0) (o.1 ∷ []) (rows_for g)
    value_turn = turn_value n xs g None w o.0 o.1 is (known_long xs o.0 known)

    value_again : is_among (names g) o.0 ≡ true → out n xs (at g None) (w ∷ rest) ≡ [] → ⊥
    value_again again e =
        full kind.ArgumentConflict _ (out_next n xs (at g None) w rest ∙ nonempty kind.ArgumentConflict _ (out n xs (walked (rules xs) [] (at g None) w) rest) (value_turn ∙ use_again g o again)) e

    module _ (fresh : is_among (names g) o.0 ≡ false) where
      value_walked : walked (rules xs) [] (at g None) w ≡ at (g ++ o ∷ []) None
      value_walked = walked_value n xs g None w o.0 o.1 is (known_long xs o.0 known)
          ∙ ap (λ (rs : List Row). record (at g None) { held = record (held g None) { rows = rs } }) (added g o fresh)

      value_out : out n xs (at g None) (w ∷ rest) ≡ out n xs (at (g ++ o ∷ []) None) rest
      value_out = out_next n xs (at g None) w rest ∙ ap₂ (λ (t : Kinds) (v : Walk). or_else t (out n xs v rest)) (value_turn ∙ use_fresh g o fresh) value_walked

      value_end : end xs (at g None) (w ∷ rest) ≡ end xs (at (g ++ o ∷ []) None) rest
      value_end = ap (λ (v : Walk). end xs v rest) value_walked

  module _ (g : Given) (x : Text) (known : is_among xs x ≡ true) (w : Text) (is : long_of w ≡ Some (x, None)) where
    name_walked : walked (rules xs) [] (at g None) w ≡ needs g x
    name_walked = walked_name n xs g None w x is (known_long xs x known)

    name_out : (rest : List Text) → out n xs (at g None) (w ∷ rest) ≡ out n xs (needs g x) rest
    name_out rest = out_next n xs (at g None) w rest
        ∙ ap₂ (λ (t : Kinds) (v : Walk). or_else t (out n xs v rest)) (turn_name n xs g None w x is (known_long xs x known)) name_walked

    pair_out : (v : Text) (rest : List Text) → begins_with_hyphen v ≡ false → out n xs (at g None) (w ∷ v ∷ rest) ≡ out n xs (at g (Some (x, v))) rest
    pair_out v rest plain = name_out (v ∷ rest) ∙ out_next n xs (needs g x) v rest
        ∙ ap₂ (λ (t : Kinds) (u : Walk). or_else t (out n xs u rest)) (turn_needs_value n xs g x (known_id xs x known) v (plain_word_is v plain)) (walked_needs_value n xs g x (known_id xs x known) v (plain_word_is v plain))

    pair_end : (v : Text) (rest : List Text) → begins_with_hyphen v ≡ false → end xs (at g None) (w ∷ v ∷ rest) ≡ end xs (at g (Some (x, v))) rest
    pair_end v rest plain = ap (λ (u : Walk). end xs u (v ∷ rest)) name_walked ∙ ap (λ (u : Walk). end xs u rest) (walked_needs_value n xs g x (known_id xs x known) v (plain_word_is v plain))

    alone_fails : out n xs (at g None) (w ∷ []) ≡ [] → ⊥
    unfolding walk_fault
    alone_fails e = full kind.InvalidValue _ (needs_settles n xs g x (known_id xs x known)) (sym (name_out []) ∙ e)

    flag_fails : (v : Text) (rest : List Text) (p : Cut) → long_of v ≡ Some p → out n xs (at g None) (w ∷ v ∷ rest) ≡ [] → ⊥
    flag_fails v rest p long e =
        let all : or_else (turn_fault (shape n xs) [] (needs g x) v) (out n xs (walked (rules xs) [] (needs g x) v) rest) ≡ [] = sym (out_next n xs (needs g x) v rest) ∙ (sym (name_out (v ∷ rest)) ∙ e) in
        turn_needs_flag n xs g x (known_id xs x known) v p.0 p.1 long (arg_by_long (rules xs) p.0) refl (found (bool_cases (is_among xs p.0)))
        (first_none (turn_fault (shape n xs) [] (needs g x) v) _ all)
      where
        found : (is_among xs p.0 ≡ true) ⊎ (is_among xs p.0 ≡ false) → (arg_by_long (rules xs) p.0 ≡ None) ⊎ (arg_by_long (rules xs) p.0 ≡ Some (option_rule p.0))
        found (inl k) = inr (known_long xs p.0 k)
        found (inr k) = inl (unknown_long xs p.0 k)

        first_none : (a b : Kinds) → or_else a b ≡ [] → a ≡ []
        first_none [] b h = refl
        first_none (k ∷ ks) b h = h

  -- ---- lists of words

  names_more : (g : Given) (o : Text × Text) → names (g ++ o ∷ []) ≡ names g ++ o.0 ∷ []
  names_more g o = map-append (λ (p : Text × Text). p.0) g (o ∷ [])

  name_go : (y x : Text) (b rest : Bool) → bytes_eq y x ≡ b → (b || rest) ≡ true → is_name y ≡ true → (rest ≡ true → is_name x ≡ true) → is_name x ≡ true
  name_go y x true rest e k good ih = ap is_name (sym ((bytes_eq-Decides y x).0 e)) ∙ good
  name_go y x false rest e k good ih = ih k

  name_of : (ys : List Text) → list_all is_name ys ≡ true → (x : Text) → is_among ys x ≡ true → is_name x ≡ true
  name_of [] h x k = absurd (true≢false (sym k))
  name_of (y ∷ ys) h x k = name_go y x (bytes_eq y x) (is_among ys x) refl k (both _ _ h).0 (name_of ys (both _ _ h).1 x)

  -- what the words give is what the walk finds
  pub passes : list_all is_name xs ≡ true → (h : Given) (words : List Text) (g : Given) → list_all is_fit words ≡ true → Gives words h → AreOnce xs (names g) (names h)
      → (out n xs (at g None) words ≡ []) × (end xs (at g None) words ≡ rows_for (g ++ h))
  unfolding walk_fault
  passes good [] words g fit is once = (ap (out n xs (at g None)) is, ap (end xs (at g None)) is ∙ ap rows_for (sym (append-nil g)))
  passes good (o ∷ h) words g fit (rest, more, how) (known, fresh, once) = elim how [
    | inl joint ↦
        let read = long_of_joined o.0 (Some o.1) (name_of xs good o.0 known) in
        let fit_all : list_all is_fit ((45 ∷ 45 ∷ (o.0 ++ 61 ∷ o.1)) ∷ rest) ≡ true = subst (λ (ws : List Text). list_all is_fit ws ≡ true) joint fit in
        let next = passes good h rest (g ++ o ∷ []) (both _ _ fit_all).1 more once_next in (
          ap (out n xs (at g None)) joint ∙ value_out g o known (45 ∷ 45 ∷ joined o.0 (Some o.1)) rest read fresh ∙ next.0,
          ap (end xs (at g None)) joint ∙ value_end g o known (45 ∷ 45 ∷ joined o.0 (Some o.1)) rest read fresh ∙ next.1 ∙ ap rows_for (append_assoc g (o ∷ []) h),
        )
    | inr apart ↦
        let read = long_of_joined o.0 None (name_of xs good o.0 known) in
        let fit_all : list_all is_fit ((45 ∷ 45 ∷ o.0) ∷ o.1 ∷ rest) ≡ true = subst (λ (ws : List Text). list_all is_fit ws ≡ true) apart.0 fit in
        let fit_rest = (both _ _ (both _ _ fit_all).1).1 in
        let next = passes good h rest (g ++ o ∷ []) fit_rest more once_next in
        let move = moved g o known fresh rest fit_rest in (
          ap (out n xs (at g None)) apart.0 ∙ pair_out g o.0 known (45 ∷ 45 ∷ o.0) read o.1 rest apart.1 ∙ move.0 ∙ next.0,
          ap (end xs (at g None)) apart.0 ∙ pair_end g o.0 known (45 ∷ 45 ∷ o.0) read o.1 rest apart.1 ∙ move.1 next.0 ∙ next.1 ∙ ap rows_for (append_assoc g (o ∷ []) h),
        )
  ]
    where
      once_next : AreOnce xs (names (g ++ o ∷ [])) (names h)
      once_next = subst (λ (b : List Text). AreOnce xs b (names h)) (sym (names_more g o)) once

  abbrev Found : List Text → Given → Type 0
  Found words g = (h : Given) × Gives words h × AreOnce xs (names g) (names h)

  more : (words : List Text) (g : Given) (o : Text × Text) (rest : List Text) → is_among xs o.0 ≡ true → is_among (names g) o.0 ≡ false
      → ((words ≡ (45 ∷ 45 ∷ (o.0 ++ 61 ∷ o.1)) ∷ rest) ⊎ ((words ≡ (45 ∷ 45 ∷ o.0) ∷ o.1 ∷ rest) × (begins_with_hyphen o.1 ≡ false)))
      → Found rest (g ++ o ∷ []) → Found words g
  more words g o rest known fresh how f = (o ∷ f.0, (rest, f.1, how), (known, fresh, subst (λ (b : List Text). AreOnce xs b (names f.0)) (names_more g o) f.2))

  -- the rest gives something after each g that it passes at
  abbrev Finds : List Text → Type 0
  Finds words = (g : Given) → list_all is_fit words ≡ true → out n xs (at g None) words ≡ [] → Found words g

  pair_finds : (w v : Text) (rest : List Text) (g : Given) (x : Text) → list_all is_fit (v ∷ rest) ≡ true → out n xs (at g None) (w ∷ v ∷ rest) ≡ [] → Finds rest
      → long_of w ≡ Some (x, None) → is_among xs x ≡ true → Found (w ∷ v ∷ rest) g
  pair_finds w v rest g x fit e ih is known = elim (classes v (both _ _ fit).0) [
    | inr long ↦ absurd (flag_fails g x known w is v rest long.0 long.1 e)
    | inl plain ↦ go plain (bool_cases (is_among (names g) x))
  ]
    where
      go : begins_with_hyphen v ≡ false → (is_among (names g) x ≡ true) ⊎ (is_among (names g) x ≡ false) → Found (w ∷ v ∷ rest) g
      go plain (inl again) = absurd (fails_again g (x, v) known again rest (both _ _ fit).1 (sym (pair_out g x known w is v rest plain) ∙ e))
      go plain (inr fresh) =
          let word : w ≡ 45 ∷ 45 ∷ x = joined_of_long w (x, None) is in
          let rest_out : out n xs (at (g ++ (x, v) ∷ []) None) rest ≡ [] = sym (moved g (x, v) known fresh rest (both _ _ fit).1).0 ∙ (sym (pair_out g x known w is v rest plain) ∙ e) in
          more (w ∷ v ∷ rest) g (x, v) rest known fresh (inr (ap (λ (t : Text). t ∷ v ∷ rest) word, plain)) (ih (g ++ (x, v) ∷ []) (both _ _ fit).1 rest_out)

  word_finds : (w : Text) (ws : List Text) (g : Given) → list_all is_fit (w ∷ ws) ≡ true → out n xs (at g None) (w ∷ ws) ≡ [] → Finds ws
      → ((x : Text) → long_of w ≡ Some (x, None) → is_among xs x ≡ true → Found (w ∷ ws) g) → Found (w ∷ ws) g
  word_finds w ws g fit e ih pair = elim (classes w (both _ _ fit).0) [
    | inl plain ↦ refused kind.UnknownArgument (turn_stray n xs g None w (plain_word_is w plain))
    | inr long ↦ named long.0.0 long.0.1 long.1 (bool_cases (is_among xs long.0.0))
  ]
    where
      refused : (k : ErrorKind) → turn_fault (shape n xs) [] (at g None) w ≡ k ∷ [] → Found (w ∷ ws) g
      refused k a = absurd (full k _ (out_next n xs (at g None) w ws ∙ nonempty k _ (out n xs (walked (rules xs) [] (at g None) w) ws) a) e)

      once : (x v : Text) → long_of w ≡ Some (x, Some v) → is_among xs x ≡ true → (is_among (names g) x ≡ true) ⊎ (is_among (names g) x ≡ false) → Found (w ∷ ws) g
      once x v is one (inl again) = absurd (value_again g (x, v) one w ws is again e)
      once x v is one (inr fresh) =
          more (w ∷ ws) g (x, v) ws one fresh (inl (ap (λ (t : Text). t ∷ ws) (joined_of_long w (x, Some v) is)))
          (ih (g ++ (x, v) ∷ []) (both _ _ fit).1 (sym (value_out g (x, v) one w ws is fresh) ∙ e))

      named : (x : Text) (v : Option Text) → long_of w ≡ Some (x, v) → (is_among xs x ≡ true) ⊎ (is_among xs x ≡ false) → Found (w ∷ ws) g
      named x v is (inr not_one) = refused kind.UnknownArgument (turn_unknown n xs g None w x v is (unknown_long xs x not_one))
      named x None is (inl one) = pair x is one
      named x (Some v) is (inl one) = once x v is one (bool_cases (is_among (names g) x))

  -- where the walk passes, the words give something
  pub finds : (words : List Text) (g : Given) → list_all is_fit words ≡ true → out n xs (at g None) words ≡ [] → Found words g
  finds [] g fit e = ([], refl, tt)
  finds (w ∷ []) g fit e =
      word_finds w [] g fit e (λ g1 f1 e1. ([], refl, tt)) (λ x is known. absurd (alone_fails g x known w is e))
  finds (w ∷ v ∷ rest) g fit e =
      word_finds w (v ∷ rest) g fit e (λ g1 f1 e1. finds (v ∷ rest) g1 f1 e1)
      (λ x is known. pair_finds w v rest g x (both _ _ fit).1 e (λ g1 f1 e1. finds rest g1 f1 e1) is known)

  plain_fit : (v : Text) → begins_with_hyphen v ≡ false → is_fit v ≡ true
  plain_fit [] h = refl
  plain_fit (a ∷ []) h = rw h refl
  plain_fit (a ∷ b ∷ []) h = rw h refl
  plain_fit (a ∷ b ∷ c ∷ cs) h = rw h refl

  joined_fit : (x rest : Text) → is_name x ≡ true → is_fit (45 ∷ 45 ∷ (x ++ rest)) ≡ true
  joined_fit [] rest h = absurd (true≢false (sym h))
  joined_fit (b ∷ bs) rest h = refl

  name_fit : (x : Text) → is_name x ≡ true → is_fit (45 ∷ 45 ∷ x) ≡ true
  name_fit [] h = absurd (true≢false (sym h))
  name_fit (b ∷ bs) h = refl

  fit_more : (w : Text) (ws : List Text) → is_fit w ≡ true → list_all is_fit ws ≡ true → list_all is_fit (w ∷ ws) ≡ true
  fit_more w ws a b = ap (λ r. r && list_all is_fit ws) a ∙ b

  -- words that give options are fit
  pub gives_fit : list_all is_name xs ≡ true → (h : Given) (words before : List Text) → Gives words h → AreOnce xs before (names h) → list_all is_fit words ≡ true
  gives_fit good [] words before is once = ap (list_all is_fit) is
  gives_fit good (o ∷ h) words before (rest, more, how) (known, fresh, once) =
      let name = name_of xs good o.0 known in
      let ih = gives_fit good h rest (before ++ o.0 ∷ []) more once in
      elim how [
        | inl joint ↦ ap (list_all is_fit) joint ∙ fit_more (45 ∷ 45 ∷ (o.0 ++ 61 ∷ o.1)) rest (joined_fit o.0 (61 ∷ o.1) name) ih
        | inr apart ↦ ap (list_all is_fit) apart.0 ∙ fit_more (45 ∷ 45 ∷ o.0) (o.1 ∷ rest) (name_fit o.0 name) (fit_more o.1 rest (plain_fit o.1 apart.1) ih)
      ]
