-- A command of plain options, as it is built.
use Rattle.std.proofs.Common.{◌≡◌, ◌∙◌, ◌&&◌, ◌||◌, ℕ, Bool, cond, true, false, refl, ap, ap₂, List, [], ◌∷◌, map, Option, Some, None}
use Rattle.std.specs.List.{list_all, list_any, find, fold}
use Rattle.std.specs.Prelude.{is_some, ◌==◌}
use Rattle.std.specs.Str.{bytes_eq}
use Rattle.clap.specs.Faults.{check_fault, default_fault, defaults_fault, fault_of, level_fault, entered_fault, is_simple_and_free, walk_fault, settle_fault}
use Rattle.clap.specs.Kinds.{Kinds, or_else}
use Rattle.clap.specs.Simple.{App, Shape, built, entered, filled_from, is_simple, matches_of, new_app, new_rule, new_shape, subcommand_of}
use Rattle.clap.specs.Walk.{Held, Row, Rule, Walk, arg_by_id, arg_by_index, arg_by_long, arg_by_short, finished, nothing_held, settled, walk, walk_from, with_default, is_early_multiple}
use Rattle.clap.specs.declared.builder.action.ArgAction.TheVariants.{Set}
use Rattle.clap.specs.declared.builder.value_parser.ValueParser.TheVariants as vp
use Rattle.amf_options.specs.Words.{Text}

-- `Arg::new(x).long(x)`
abbrev pub raw_rule : Text → Rule
raw_rule x = record (new_rule x) { long = Some x }

-- the same as it is built
abbrev pub option_rule : Text → Rule
option_rule x = record (new_rule x) {
  long = Some x;
  action = Some Set;
  range = Some (record { start_inclusive = 1; end_inclusive = 1 });
  parser = Some vp.String;
}

abbrev pub raw_shape : Text → List Text → Shape
raw_shape name xs = record (new_shape name) {
  rules = map raw_rule xs;
  no_binary_name = true;
  disable_help_flag = true;
  disable_version_flag = true;
}

abbrev pub raw_app : Text → List Text → App
raw_app name xs = record { top = raw_shape name xs; subs = [] }

abbrev pub rules : List Text → List Rule
rules xs = map option_rule xs

abbrev pub shape : Text → List Text → Shape
shape name xs = record (raw_shape name xs) {
  rules = rules xs;
  disable_help_subcommand = true;
  is_built = true;
}

abbrev pub app : Text → List Text → App
app name xs = record { top = shape name xs; subs = [] }

filled_rules : (xs : List Text) → filled_from 1 (map raw_rule xs) ≡ rules xs
filled_rules [] = refl
filled_rules (x ∷ xs) = ap (λ (rs : List Rule). option_rule x ∷ rs) (filled_rules xs)

pub built_app : (name : Text) (xs : List Text) → built (raw_app name xs) ≡ app name xs
built_app name xs = ap (λ (rs : List Rule). record { top = record (shape name xs) { rules = rs }; subs = [] }) (filled_rules xs)

all_simple_raw : (xs : List Text) → list_all (λ (a : Rule). a.is_simple) (map raw_rule xs) ≡ true
all_simple_raw [] = refl
all_simple_raw (x ∷ xs) = all_simple_raw xs

all_simple : (xs : List Text) → list_all (λ (a : Rule). a.is_simple) (rules xs) ≡ true
all_simple [] = refl
all_simple (x ∷ xs) = all_simple xs

all_free : (xs : List Text) → list_all (λ (a : Rule). a.is_free) (rules xs) ≡ true
all_free [] = refl
all_free (x ∷ xs) = all_free xs

none_early : (n : ℕ) (xs : List Text) → list_any (is_early_multiple n) (rules xs) ≡ false
none_early n [] = refl
none_early n (x ∷ xs) = none_early n xs

pub none_indexed : (i : ℕ) (xs : List Text) → arg_by_index (rules xs) i ≡ None
none_indexed i [] = refl
none_indexed i (x ∷ xs) = none_indexed i xs

none_required : (rows : List Row) (xs : List Text) → list_any (λ (a : Rule). a.required && Rattle.std.specs.Prelude.not (Rattle.clap.specs.Takes.is_given a.id rows)) (rules xs) ≡ false
none_required rows [] = refl
none_required rows (x ∷ xs) = none_required rows xs

no_default : (rows : List Row) (x : Text) → with_default rows (option_rule x) ≡ rows
no_default rows x = go (Rattle.clap.specs.Walk.has_row x rows)
  where
    go : (b : Bool) → cond b rows rows ≡ rows
    go true = refl
    go false = refl

pub no_default_fault : (rows : List Row) (xs : List Text) → defaults_fault rows (rules xs) ≡ []
unfolding defaults_fault
no_default_fault rows [] = refl
no_default_fault rows (x ∷ xs) =
    let one : default_fault rows (option_rule x) ≡ [] = go (Rattle.clap.specs.Walk.has_row x rows) in
    ap₂ (λ (k : Kinds) (r : List Row). or_else k (defaults_fault r (rules xs))) one (no_default rows x) ∙ no_default_fault rows xs
  where
    go : (b : Bool) → cond (b || true) [] (Rattle.clap.specs.Faults.given_default_fault (option_rule x) []) ≡ []
    go true = refl
    go false = refl

pub all_finished : (xs : List Text) (rows : List Row) → fold with_default rows (rules xs) ≡ rows
all_finished [] rows = refl
all_finished (x ∷ xs) rows = ap (λ (r : List Row). fold with_default r (rules xs)) (no_default rows x) ∙ all_finished xs rows

abbrev passes : Bool → App → Bool
passes b a = (b && (Rattle.clap.specs.Simple.is_ready a.top && list_all Rattle.clap.specs.Simple.is_ready_leaf a.subs)) && Rattle.clap.specs.Faults.is_free_app a

buildable : (name : Text) (xs : List Text) → Rattle.clap.specs.Simple.is_buildable (raw_app name xs) ≡ true
buildable name xs = rw (all_simple_raw xs) refl

ready : (name : Text) (xs : List Text) → passes true (app name xs) ≡ true
ready name xs = rw (all_simple xs, none_early (Rattle.std.specs.Prelude.count_by (λ (a : Rule). is_some a.index) (rules xs)) xs, all_free xs) refl

pub simple_and_free : (name : Text) (xs : List Text) → is_simple_and_free (raw_app name xs) ≡ true
simple_and_free name xs =
    ap (passes (Rattle.clap.specs.Simple.is_buildable (raw_app name xs))) (built_app name xs)
    ∙ ap (λ b. passes b (app name xs)) (buildable name xs) ∙ ready name xs

pub simple : (name : Text) (xs : List Text) → is_simple (raw_app name xs) ≡ true
simple name xs = (Rattle.clap.proofs.WalkLemmas.both _ _ (simple_and_free name xs)).0

or_nil : (k : Kinds) → or_else k [] ≡ k
or_nil [] = refl
or_nil (x ∷ xs) = refl

no_check : (name : Text) (xs : List Text) (rows : List Row) → check_fault (shape name xs) rows false ≡ []
no_check name xs rows = rw (none_required rows xs) refl

module _ (name : Text) (xs words : List Text) where
  abbrev pub last_held : Held
  last_held = (walk (rules xs) [] nothing_held words).held

  abbrev pub walk_kinds : Kinds
  walk_kinds = walk_fault (shape name xs) [] (walk_from nothing_held) words

  abbrev pub last_kinds : Kinds
  last_kinds = settle_fault (rules xs) false last_held

  stop_is : (s : Option (Text × List Text))
      → level_fault (shape name xs) [] nothing_held words (is_some (entered (app name xs) s)) (entered_fault (app name xs) s)
      ≡ level_fault (shape name xs) [] nothing_held words false []
  stop_is None = refl
  stop_is (Some p) = refl

  -- the kinds of error are those of the walk, and of the use that is still to come at its end
  pub fault_is : fault_of (raw_app name xs) words ≡ or_else walk_kinds last_kinds
  fault_is =
      ap (λ (a : App). Rattle.clap.specs.Faults.built_fault a nothing_held words) (built_app name xs)
      ∙ stop_is (walk (rules xs) [] nothing_held words).stopped
      ∙ ap₂ (λ (d e : Kinds). or_else walk_kinds (or_else last_kinds (or_else d e)))
      (no_default_fault (settled (rules xs) last_held).rows xs) (no_check name xs (finished (rules xs) last_held))
      ∙ ap (or_else walk_kinds) (or_nil last_kinds)

  pub matches_are : matches_of (raw_app name xs) words ≡ (settled (rules xs) last_held).rows
  matches_are =
      ap (λ (a : App). Rattle.clap.specs.Walk.rows_after a.top.rules (Rattle.clap.specs.Simple.names_of a) words) (built_app name xs)
      ∙ all_finished xs (settled (rules xs) last_held).rows
