-- The lines of a head's fields, each value behind a space, as the grammar prints them.
use Rattle.std.proofs.Common.{◌≡◌, ◌∙◌, ℕ, Bool, true, List, [], ◌∷◌, ◌++◌, map, ap, refl, append_assoc}
use Rattle.std.specs.List.{All, AllByRecursion, list_all, flat_map}
use Rattle.std.proofs.lemmas.List.Elements.{All-from_recursion}
use Rattle.std.proofs.lemmas.List.Sums.{AllPass-from_list_all}
use Rattle.httparse.specs.Grammar.{Field, IsField, IsToken, AllPass, crlf, is_value_byte, print_end, print_field, print_section}
use Rattle.amf_self_call_laws.proofs.Lines.{lines_of}

abbrev pub field_of : List ℕ × List ℕ → Field
field_of p = record { name = p.0; raw = 32 ∷ p.1; end = crlf }

abbrev pub field_text : List ℕ × List ℕ → List ℕ
field_text p = p.0 ++ (58 ∷ 32 ∷ p.1)

pub section_lines : (ps : List (List ℕ × List ℕ)) → print_section (map field_of ps) crlf ≡ lines_of (map field_text ps)
section_lines [] = refl
section_lines (p ∷ ps) =
    append_assoc (print_field (field_of p)) (flat_map print_field (map field_of ps)) (print_end crlf)
    ∙ ap (λ (l : List ℕ). print_field (field_of p) ++ l) (section_lines ps)
    ∙ append_assoc (field_text p) (13 ∷ 10 ∷ []) (lines_of (map field_text ps))

pub passing : (test : ℕ → Bool) (xs : List ℕ) → list_all test xs ≡ true → AllPass test xs
passing = AllPass-from_list_all {X = ℕ}

-- a name that is a token, and a value without control bytes
abbrev pub IsGood : List ℕ × List ℕ → Type 0
IsGood p = IsToken p.0 × (list_all is_value_byte p.1 ≡ true)

good_fields : (ps : List (List ℕ × List ℕ)) → AllByRecursion IsGood ps → AllByRecursion IsField (map field_of ps)
good_fields [] a = tt
good_fields (p ∷ ps) a = (record { name = a.0.0; raw = passing is_value_byte (32 ∷ p.1) a.0.1 }, good_fields ps a.1)

pub all_fields : (ps : List (List ℕ × List ℕ)) → AllByRecursion IsGood ps → All IsField (map field_of ps)
all_fields ps a = All-from_recursion IsField (map field_of ps) (good_fields ps a)
