use Rattle.std.proofs.Common.{◌≡◌, ◌+◌, ◌*◌, ◌∷◌, length, take}
use Rattle.std.specs.List.{flat_map}
use Rattle.amf_show.specs.Shown.{hex_byte}
use Rattle.amf_show.proofs.numbers.double_word.Given as goal

abbrev pub invariant-loop-place : goal.invariant-loop-place
invariant-loop-place l = record {
  room : length l.word ≡ 17;
  digits : take (2 * l.place + 1) l.word ≡ 0x64 ∷ flat_map hex_byte (take l.place l.bytes);
}
