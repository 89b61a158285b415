use Rattle.std.proofs.Common.{refl, sym, ap, subst}
use Rattle.amf_graph.specs.Arena.{StoredTraits, traits_content}
use Rattle.amf3_spelling.specs.ByteSpelling.{traits}
use Rattle.amf3_spelling.specs.Tables.{Tables, plain}
use Rattle.amf_tables.specs.ShownTraits.{shown_entry}
use Rattle.amf3_spelling.specs.Words3.{NoPlaceBelow}
use Rattle.amf3_write.specs.Writes.{WritesStep}
use Rattle.amf3_write.proofs.Ready.{writes_from}
use Rattle.amf3_write.proofs.Wrote.{on_ok, wrote_entry_place}
use Rattle.amf3_write.proofs.output.Output.traits.Goals as goal

pub traits_inline-requires-clause-unnamed : goal.traits_inline-requires-clause-unnamed
traits_inline-requires-clause-unnamed c =
    subst (λ (t : Tables). NoPlaceBelow 134217728 t.words.traits (shown_entry c.args.graph.now.arena c.traits.result)) (sym c.place_of_traits.ensures.tables)
    (subst (λ (x : StoredTraits). NoPlaceBelow 134217728 c.args.self.now.tables.words.traits (plain (traits_content c.args.graph.now.arena x))) c.traits.ensures c.in-None.ensures.none)

pub returns-in-Some-clause-ok : goal.returns-in-Some-clause-ok
returns-in-Some-clause-ok c =
    on_ok c.number.result (λ h. wrote_entry_place _ c.args.self.now c.number.new.self _ c.in-Some.place c.in-Some.ensures.first refl
    (writes_from _ c.args.self.now c.place_of_traits.new.self c.number.new.self c.place_of_traits.ensures.tables (ap (λ v. v.items) c.place_of_traits.ensures.bytes) h)) c.number.ensures.ok

pub returns-in-None-clause-ok : goal.returns-in-None-clause-ok
returns-in-None-clause-ok c =
    let m = c.place_of_traits.new.self in
    on_ok c.traits_inline.result (λ h. writes_from _ c.args.self.now m c.traits_inline.new.self c.place_of_traits.ensures.tables (ap (λ v. v.items) c.place_of_traits.ensures.bytes)
    (subst (λ (x : StoredTraits). WritesStep (traits (plain (traits_content c.args.graph.now.arena x))) m c.traits_inline.new.self) (sym c.traits.ensures) h)) c.traits_inline.ensures.ok
