use Rattle.std.proofs.Common.{◌≡◌, ◌+◌, ◌*◌, ◌<◌, ◌∷◌, length, take, set, get_or, sym, ap, ◌∙◌, arith}
use Rattle.std.specs.List.{flat_map}
use Rattle.std.proofs.lemmas.List.{take_all, length-set}
use Rattle.amf_show.specs.Shown.{hex_byte, shown_double}
use Rattle.amf_show.proofs.Hexes.{digits_step}
use Rattle.amf_show.proofs.numbers.double_word.Goals as goal

pub loop-place-preserved : goal.loop-place-preserved
loop-place-preserved c =
    let bytes = c.to_be_bytes-bytes.result in
    let word = c.loop-place.word in
    let i = c.loop-place.place in
    let p = c.hex_pair-pair.result in
    let within : i < length bytes = omega (arith, ap length c.to_be_bytes-bytes.ensures) in
    record {
      room = length-set (set word (2 * i + 1) (get_or p 0 0)) (2 * i + 2) (get_or p 1 0) ∙ length-set word (2 * i + 1) (get_or p 0 0) ∙ c.loop-place.invariant.room;
      digits = digits_step 0x64 bytes word p i within (omega (arith, c.loop-place.invariant.room)) c.hex_pair-pair.ensures c.loop-place.invariant.digits;
    }

pub returns : goal.returns
unfolding shown_double
returns c =
    let bytes = c.to_be_bytes-bytes.result in
    let word = c.loop-place.word in
    let whole : take 17 word ≡ word = take_all 17 word (omega (arith, c.loop-place.invariant.room)) in
    let all : take 8 bytes ≡ bytes = take_all 8 bytes (omega (arith, ap length c.to_be_bytes-bytes.ensures)) in
    let at : c.loop-place.place ≡ 8 = omega arith in
    sym whole ∙ ap (λ n. take (2 * n + 1) word) (sym at) ∙ c.loop-place.invariant.digits
    ∙ ap (λ n. 0x64 ∷ flat_map hex_byte (take n bytes)) at ∙ ap (λ w. 0x64 ∷ flat_map hex_byte w) (all ∙ c.to_be_bytes-bytes.ensures)
