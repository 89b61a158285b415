-- What a parse by a command of plain options says of the words.
use Rattle.std.proofs.Common.{◌≡◌, ◌∙◌, ◌++◌, ◌<◌, ◌≤◌, ◌+◌, ℕ, Bool, cond, true, false, zero, suc, refl, sym, ap, ap₂, subst, List, [], ◌∷◌, map, take, length, Option, Some, None, arith}
use Rattle.std.specs.Prelude.{option_map, slice_get, option_and_then}
use Rattle.std.specs.List.{list_all, find, slice_index_or}
use Rattle.std.specs.Str.{bytes_eq}
use Rattle.std.specs.Borrow.{Bor}
use Rattle.std.proofs.lemmas.List.{map-append, take_more}
use Rattle.clap.specs.Faults.{fault_of}
use Rattle.clap.specs.Kinds.{Kinds, HasKind}
use Rattle.clap.specs.Matches.{found_of}
use Rattle.clap.specs.Simple.{App, matches_of, with_rule}
use Rattle.clap.specs.Values.{kind_of}
use Rattle.clap.specs.Walk.{Row, Rule, first_of, rows_of}
use Rattle.clap.proofs.WalkLemmas.{first_value-rows}
use Rattle.clap.specs.declared.error.Error.{Error}
use Rattle.clap.specs.declared.error.kind.ErrorKind.TheVariants as kind
use Rattle.clap.specs.declared.parser.matches.ArgMatches.{ArgMatches}
use Rattle.amf_options.specs.Words.{Text, Given, HasOptions, is_fit, is_name, texts, value_of}
use Rattle.amf_options.specs.Told.{Tells}
use Rattle.amf_options.proofs.Shapes.{fault_is, matches_are, raw_app, raw_rule}
use Rattle.amf_options.proofs.Walks.{row, rows_for}
use Rattle.amf_options.proofs.Readings.{finds, gives_fit, passes}

value_go : (b : Bool) (o : Text × Text) (found : Option Row) (rest : Option (Text × Text)) → option_and_then (λ (r : Row). slice_get r.values 0) found ≡ option_map (λ (p : Text × Text). p.1) rest
    → option_and_then (λ (r : Row). slice_get r.values 0) (cond b (Some (row o)) found) ≡ option_map (λ (p : Text × Text). p.1) (cond b (Some o) rest)
value_go true o found rest ih = refl
value_go false o found rest ih = ih

pub first_is_value : (h : Given) (x : Text) → first_of x (rows_for h) ≡ value_of h x
first_is_value [] x = refl
first_is_value (o ∷ h) x = value_go (bytes_eq o.0 x) o (find (λ (r : Row). bytes_eq r.id x) (rows_for h)) (find (λ (p : Text × Text). bytes_eq p.0 x) h) (first_is_value h x)

module _ (n : Text) (xs words : List Text) (good : list_all is_name xs ≡ true) where
  -- words with options have no fault
  pub no_fault : list_all is_fit words ≡ true → (h : Given) → HasOptions xs words h → fault_of (raw_app n xs) words ≡ []
  no_fault fit h has = fault_is n xs words ∙ (passes n xs good h words [] fit has.0 has.1).0

  pub tells : list_all is_fit words ≡ true → (m : ArgMatches) → fault_of (raw_app n xs) words ≡ [] → rows_of (found_of m) ≡ matches_of (raw_app n xs) words → Tells xs words (Some m)
  tells fit m none rows =
      let f = finds n xs words [] fit (sym (fault_is n xs words) ∙ none) in
      ((f.0, (f.1, f.2)), λ h has x. first_value-rows (found_of m) x ∙ ap (first_of x) (rows ∙ matches_are n xs words ∙ (passes n xs good h words [] fit has.0 has.1).1) ∙ first_is_value h x)

  pub unfit_gives_none : list_all is_fit words ≡ false → (h : Given) → HasOptions xs words h → ⊥
  unfit_gives_none bad h has = Rattle.std.proofs.Common.true≢false (sym (gives_fit n xs good h words [] has.0 has.1) ∙ bad)

  pub fault_gives_none : list_all is_fit words ≡ true → (e : Error) → HasKind (fault_of (raw_app n xs) words) e → (kind_of e ≡ kind.OutOfMemory → ⊥) → (h : Given) → HasOptions xs words h → ⊥
  fault_gives_none fit e has other h gives = elim (subst (λ (k : Kinds). HasKind k e) (no_fault fit h gives) has) [
    | Rattle.std.proofs.Common.inl memory ↦ other memory
    | Rattle.std.proofs.Common.inr among ↦ among
  ]

-- ---- the loop that adds the options

pub one_more : (n : Text) (options : List (Bor Text)) (i : ℕ) (d : Bor Text) (before after : App) (rule : Rule) → i < length options → before ≡ raw_app n (texts (take i options))
    → rule ≡ raw_rule (slice_index_or options i d).now → after ≡ with_rule before rule → after ≡ raw_app n (texts (take (i + 1) options))
one_more n options i d before after rule lt is rule_is step =
    step ∙ ap₂ with_rule is rule_is
    ∙ ap (λ (rs : List Rule). record (raw_app n []) { top = record (raw_app n []).top { rules = rs } }) (sym (map-append raw_rule (texts (take i options)) ((slice_index_or options i d).now ∷ [])))
    ∙ ap (raw_app n) (sym (map-append (λ (s : Bor Text). s.now) (take i options) (slice_index_or options i d ∷ [])) ∙ ap texts (sym (take_more options i d lt)))
