use Rattle.std.proofs.Common.{◌≡◌, ◌<◌, length, slice_get, map, Some, refl, sym, ap, ◌∙◌, subst}
use Rattle.std.proofs.lemmas.Option.{slice_get_read}
use Rattle.amf_tables.specs.ContentHash.{written_hash}
use Rattle.amf_tables.proofs.HashedPlaces.{absent_by_hash, first_by_hash, within_by_hash}
use Rattle.amf_tables.proofs.traits_table.TraitsTable.place_by_hash.Goals as goal

pub returns-in_err-place-clause-none : goal.returns-in_err-place-clause-none
returns-in_err-place-clause-none c =
    let f = written_hash c.self.inside.start in
    let xs = c.self.inside.entries.items in
    rw (c.from_residual.ensures, ← c.self.view_is) (absent_by_hash f xs c.args.entry.now c.hash.result c.hash.ensures (c.in_err-place.ensures (map f xs) c.self.invariant.1))

pub index-requires : goal.index-requires
index-requires c =
    let f = written_hash c.self.inside.start in
    let xs = c.self.inside.entries.items in
    subst (λ n. c.in_ok-place.place < n) (sym c.self.inside.entries.ok.0) (within_by_hash f xs c.hash.result c.in_ok-place.place (c.in_ok-place.ensures (map f xs) c.self.invariant.1))

pub returns-then-is_same-clause-first : goal.returns-then-is_same-clause-first
returns-then-is_same-clause-first c =
    let f = written_hash c.self.inside.start in
    let xs = c.self.inside.entries.items in
    let k = c.in_ok-place.place in
    let first = c.in_ok-place.ensures (map f xs) c.self.invariant.1 in
    let read : slice_get xs k ≡ Some c.index.result.now = slice_get_read xs (length xs) k c.index.result.now refl (within_by_hash f xs c.hash.result k first) c.index.ensures in
    let there : c.index.result.now ≡ c.args.entry.now = c.if-is_same.ensures.0 refl in
    rw (← c.self.view_is) (first_by_hash f xs c.args.entry.now c.hash.result k c.hash.ensures first (read ∙ ap (λ w. Some w) there))
