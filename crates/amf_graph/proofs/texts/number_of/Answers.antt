-- A content is looked for along the numbers of its hash.
use Rattle.std.proofs.Common.{◌≡◌, ◌-◌, ◌∙◌, [], length, true, Some, sym, ap, arith, bytes_eq}
use Rattle.std.proofs.lemmas.Bool.{false≢true}
use Rattle.std.proofs.lemmas.List.{length-map}
use Rattle.std.proofs.lemmas.Option.{slice_get-get_or}
use Rattle.std.proofs.lemmas.Slice.Eq.{bytes_eq-Decides}
use Rattle.amf_graph.specs.KeptTexts.{text_hash}
use Rattle.amf_graph.proofs.Contents.{sought_first, sought_next, sought_nowhere}
use Rattle.amf_graph.proofs.texts.number_of.Goals as goal

pub loop-link-init : goal.loop-link-init
loop-link-init c = sought_first c.args.keys c.args.contents.now c.args.chains.now c.args.bytes.now c.args.hash c.first-link.result c.requires.hashes c.requires.hash c.first-link.ensures

pub get-requires : goal.get-requires
get-requires c = let w = c.loop-link.invariant.within in omega arith

pub returns-then-eq : goal.returns-then-eq
returns-then-eq c =
    let w = c.loop-link.invariant.within in
    let same : bytes_eq c.get.result.now c.args.bytes.now ≡ true = sym c.eq.ensures ∙ c.if-eq.true in
    slice_get-get_or c.args.contents.now (c.loop-link.link - 1) [] (omega arith) ∙ ap (λ w. Some w) (sym c.get.ensures ∙ (bytes_eq-Decides c.get.result.now c.args.bytes.now).0 same)

pub next-link-requires-clause-there : goal.next-link-requires-clause-there
next-link-requires-clause-there c =
    let w = c.loop-link.invariant.within in
    let many : length c.args.chains.now ≡ length c.args.contents.now = ap length c.requires.hashes ∙ length-map c.args.contents.now (text_hash c.args.keys) in
    omega (arith, many)

pub loop-link-preserved : goal.loop-link-preserved
loop-link-preserved c =
    sought_next c.args.keys c.args.contents.now c.args.chains.now c.args.bytes.now c.loop-link.link c.next-link.result c.requires.hashes (omega arith)
    (λ e. false≢true (sym (sym c.eq.ensures ∙ c.if-eq.false) ∙ (bytes_eq-Decides c.get.result.now c.args.bytes.now).1 (c.get.ensures ∙ e)))
    c.next-link.ensures c.loop-link.invariant

pub returns : goal.returns
returns c = sought_nowhere c.args.keys c.args.contents.now c.args.bytes.now c.loop-link.link (omega arith) c.loop-link.invariant
