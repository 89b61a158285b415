use Rattle.std.proofs.Common.{◌≢◌, ◌<◌, ℕ, List, [], length, rules, sym, ap, subst}
use Rattle.amf_wire.specs.Text.{IsText}
use Rattle.amf_graph.specs.Arena.{text_at}
use Rattle.amf3_spelling.specs.ByteSpelling.{word}
use Rattle.amf_tables.specs.FirstPlace.{IsFirstPlace}
use Rattle.amf3_spelling.specs.Tables.{Tables}
use Rattle.amf_iso.proofs.NamedPairs.{text_there, text_short}
use Rattle.amf3_write.specs.Writes.{WritesStep}
use Rattle.amf3_write.proofs.Ready.{old_tables, new_tables, wrote_new, writes_from}
use Rattle.amf3_write.proofs.Wrote.{on_ok}
use Rattle.amf3_write.proofs.output.Output.text_of.Goals as goal

pub text_at-requires-clause-first : goal.text_at-requires-clause-first
text_at-requires-clause-first c =
    let x = text_at c.args.graph.now.arena c.args.text.0 in
    let found = old_tables c.args.self.now.tables c.place_or_add_text.new.self.tables x c.in_ok-found.found c.in-Old.place c.in-Old.is c.in_ok-found.ensures.ok c.in_ok-found.ensures.rest in
    subst (λ (t : Tables). IsFirstPlace t.words.texts c.text-bytes.result.now c.in-Old.place) (sym found.1) (subst (λ y. IsFirstPlace c.args.self.now.tables.words.texts y c.in-Old.place) (sym c.text-bytes.ensures) found.0)

pub returns-in-Old-clause-ok : goal.returns-in-Old-clause-ok
returns-in-Old-clause-ok c =
    let x = text_at c.args.graph.now.arena c.args.text.0 in
    let m = c.place_or_add_text.new.self in
    let found = old_tables c.args.self.now.tables m.tables x c.in_ok-found.found c.in-Old.place c.in-Old.is c.in_ok-found.ensures.ok c.in_ok-found.ensures.rest in
    on_ok c.text_at.result (λ h. subst (λ y. WritesStep (word y) c.args.self.now c.text_at.new.self) c.text-bytes.ensures (writes_from _ c.args.self.now m c.text_at.new.self found.1 (ap (λ v. v.items) c.in_ok-found.ensures.bytes) h)) c.text_at.ensures.ok

pub returns-in-New-clause-ok : goal.returns-in-New-clause-ok
returns-in-New-clause-ok c =
    let a = c.args.graph.now.arena in
    let x = text_at a c.args.text.0 in
    let y = c.text-bytes.result.now in
    let o = c.args.self.now in
    let m = c.place_or_add_text.new.self in
    let new = new_tables o.tables m.tables x c.in_ok-found.found _ c.in-New.is c.in_ok-found.ensures.ok c.in_ok-found.ensures.rest in
    let there : IsText x = text_there a c.args.text.0 c.is_finished.ensures.finished c.requires.id in
    let filled : y ≢ [] = search rules in
    let named : x ≢ [] = subst (λ z. z ≢ []) c.text-bytes.ensures filled in
    on_ok c.counted.result (λ h. wrote_new x o m c.counted.new.self there named new.0 new.1 (ap (λ v. v.items) c.in_ok-found.ensures.bytes) (rw (← c.text-bytes.ensures) h)) c.counted.ensures.ok

pub returns-in-Old-clause-ready : goal.returns-in-Old-clause-ready
returns-in-Old-clause-ready c = on_ok c.text_at.result (λ h. c.text_at.ensures.ready c.args.graph.now.arena c.in_ok-found.ensures.ready) c.text_at.ensures.ok

pub returns-then-is_empty-clause-text : goal.returns-then-is_empty-clause-text
returns-then-is_empty-clause-text c = text_there c.args.graph.now.arena c.args.text.0 c.is_finished.ensures.finished c.requires.id

pub returns-in_err-found-clause-text : goal.returns-in_err-found-clause-text
returns-in_err-found-clause-text c = text_there c.args.graph.now.arena c.args.text.0 c.is_finished.ensures.finished c.requires.id

pub returns-in-Old-clause-text : goal.returns-in-Old-clause-text
returns-in-Old-clause-text c = text_there c.args.graph.now.arena c.args.text.0 c.is_finished.ensures.finished c.requires.id

pub returns-in-New-clause-text : goal.returns-in-New-clause-text
returns-in-New-clause-text c = text_there c.args.graph.now.arena c.args.text.0 c.is_finished.ensures.finished c.requires.id

pub text_at-requires-clause-is_text : goal.text_at-requires-clause-is_text
text_at-requires-clause-is_text c = subst IsText (sym c.text-bytes.ensures) (text_there c.args.graph.now.arena c.args.text.0 c.is_finished.ensures.finished c.requires.id)

pub text_at-requires-clause-short : goal.text_at-requires-clause-short
text_at-requires-clause-short c = subst (λ (x : List ℕ). length x < 268435456) (sym c.text-bytes.ensures) (text_short c.args.graph.now.arena c.args.text.0 c.is_finished.ensures.bounds c.requires.id)

pub counted-requires : goal.counted-requires
counted-requires c = subst (λ (x : List ℕ). length x < 268435456) (sym c.text-bytes.ensures) (text_short c.args.graph.now.arena c.args.text.0 c.is_finished.ensures.bounds c.requires.id)
