-- A refusal is told with the tag's place.
use Rattle.std.proofs.Common.{◌+◌, ◌∙◌, length, refl, arith}
use Rattle.amf_io.specs.Verdict.{IsRefused}
use Rattle.amf0_spelling.specs.Values0.{IsValue0}
use Rattle.flv_meta.proofs.MetadataReads.{place_fits, refusal_told}
use Rattle.flv_meta.proofs.meta_read.metadata_keyed.Goals as goal

pub overflow_add-start : goal.overflow_add-start
overflow_add-start c =
    let q = c.requires in
    let f = c.in-Err-Refused.refusal in
    let part = c.in-Some.bytes.now in
    let p = c.in-Some.ensures q.tag q.is_tag (c.as_slice.ensures ∙ q.bytes) in
    let x : IsRefused IsValue0 0 (length part) part f.reason f.at = rw c.in-Err-Refused.field-0-is at c.in-Err-Refused.ensures in
    let fits = place_fits q.tag q.is_tag c.args.tag.now.bytes q.bytes c.args.tag.now.at f.at f.reason part p.0 p.1 q.within x in
    omega (arith, fits)

pub overflow_add-at : goal.overflow_add-at
overflow_add-at c =
    let q = c.requires in
    let f = c.in-Err-Refused.refusal in
    let part = c.in-Some.bytes.now in
    let p = c.in-Some.ensures q.tag q.is_tag (c.as_slice.ensures ∙ q.bytes) in
    let x : IsRefused IsValue0 0 (length part) part f.reason f.at = rw c.in-Err-Refused.field-0-is at c.in-Err-Refused.ensures in
    let fits = place_fits q.tag q.is_tag c.args.tag.now.bytes q.bytes c.args.tag.now.at f.at f.reason part p.0 p.1 q.within x in
    omega (arith, fits)

pub returns-in-Err-Refused : goal.returns-in-Err-Refused
returns-in-Err-Refused c = λ t h e.
    let f = c.in-Err-Refused.refusal in
    let part = c.in-Some.bytes.now in
    let p = c.in-Some.ensures t h (c.as_slice.ensures ∙ e) in
    let x : IsRefused IsValue0 0 (length part) part f.reason f.at = rw c.in-Err-Refused.field-0-is at c.in-Err-Refused.ensures in
    refusal_told t c.args.tag.now.at part f.reason f.at (c.args.tag.now.at + 24 + f.at) p.0 p.1 refl x
