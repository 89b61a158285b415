-- The first chunk, and the others behind it.
use Rattle.std.proofs.Common.{◌≡◌, ◌++◌, ◌∙◌, ◌≤◌, ap, length, take, drop, arith, append_assoc}
use Rattle.std.proofs.lemmas.List.{length-drop}
use Rattle.rtmp_chunks.specs.Push.{basic_header, extended_field, message_header, later_chunks}
use Rattle.rtmp_chunks.specs.Table.{message_seen}
use Rattle.rtmp_chunks.proofs.chunker.write.Goals as goal

pub returns : goal.returns
returns c =
    let m = message_seen c.args.m.now in
    let n = c.args.size in
    let bytes = c.args.m.now.bytes in
    let B = basic_header 3 m.id in
    let E = extended_field m.time in
    let r : c.cut.result.1.now ≡ drop n bytes = c.cut.ensures.rest ∙ ap (λ l. drop n l) c.as_slice.ensures in
    let p : c.cut.result.0.now ≡ take n bytes = c.cut.ensures.front ∙ ap (λ l. take n l) c.as_slice.ensures in
    let le : length c.cut.result.1.now ≤ length bytes = omega (arith, ap length r, length-drop n bytes) in
    c.in_ok-push_rest.ensures (length bytes) le
    ∙ ap (λ l. c.push_first.new.out.items ++ later_chunks (length bytes) n B E l) r
    ∙ ap (λ l. l ++ later_chunks (length bytes) n B E (drop n bytes)) (c.in_ok-push_first.ensures ∙ ap (λ q. c.args.out.now.items ++ (basic_header 0 m.id ++ (message_header m ++ (E ++ q)))) p)
    ∙ append_assoc c.args.out.now.items (basic_header 0 m.id ++ (message_header m ++ (E ++ take n bytes))) (later_chunks (length bytes) n B E (drop n bytes))
