use Rattle.std.proofs.Common.{◌≡◌, length, take}
use Rattle.amf_show.proofs.piece.filled.Given as goal

abbrev pub invariant-loop-place : goal.invariant-loop-place
invariant-loop-place l = record {
  room : length l.bytes ≡ 32;
  copied : take l.place l.bytes ≡ take l.place l.text;
}
