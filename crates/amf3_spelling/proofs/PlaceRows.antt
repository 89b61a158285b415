-- A text that is in the table twice.
use Rattle.std.proofs.Common.{◌≡◌, ◌≢◌, ℕ, ◌*◌, ◌<◌, [], ◌∷◌, ◌++◌, refl, ap, sym, ◌∙◌, arith}
use Rattle.std.proofs.lemmas.List.{append-nil}
use Rattle.amf_io.specs.Field.{field, flat}
use Rattle.amf_wire.specs.Style.{free, canonical}
use Rattle.amf_wire.specs.U29.{u29_value}
use Rattle.amf_wire.proofs.Shortest.{small}
use Rattle.amf_wire.proofs.U29Fields.{one_field}
use Rattle.amf3_spelling.specs.Tables.{Words}
use Rattle.amf3_spelling.specs.Refusals3.{text_header_kind}
use Rattle.amf3_spelling.specs.Words3.{Text, empty, whole, placed, NoPlaceBelow}
use Rattle.amf3_spelling.specs.WorkedRows3.{foo, foo_twice}

pub second_place : Text free foo foo_twice (field (text_header_kind 2) (2 ∷ []) ∷ []) foo_twice
second_place = placed tt 1 refl tt (2 ∷ []) (small free 2 (omega arith)) refl refl

named_before : (bound : ℕ) → 0 < bound → NoPlaceBelow bound (foo ∷ foo ∷ []) foo → ⊥
named_before bound l u = u 0 l refl

foo_is : foo ≢ []
foo_is e = cc

pub not_canonical : (w : Words) → Text canonical foo foo_twice (field (text_header_kind 2) (2 ∷ []) ∷ []) w → ⊥
not_canonical w (empty e h u f a) = foo_is e
not_canonical w (whole e i o h u f a) = named_before 268435456 (omega arith) o
not_canonical w (placed e k i o h u f a) =
    let g : h ++ [] ≡ 2 ∷ [] = sym (ap flat f) in
    let n : 2 * k ≡ 2 = sym (one_field u.spelled).value ∙ ap u29_value (sym (append-nil h) ∙ g) in
    named_before k (omega (arith, n)) o
