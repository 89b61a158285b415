-- Worked outputs of a chunk stream that is written again.
use Rattle.std.specs.Prelude.{◌≡◌, [], ◌∷◌, ◌++◌, replicate}
use Rattle.rtmp_chunks.specs.Worked.{message}
use Rattle.rtmp_chunks.specs.Push.{pushed_all}
use Rattle.rtmp_chunks.specs.Rechunk.{size_messages, others}

pub record RechunkRows : Type 0 where
  -- in larger chunks: the message that sets the size, and the message in one chunk
  pub larger : pushed_all 128 (size_messages 256 ++ others (message 4 8 1 10 (replicate 129 0xAA) ∷ [])) ≡ 2 ∷ 0 ∷ 0 ∷ 0 ∷ 0 ∷ 0 ∷ 4 ∷ 1 ∷ 0 ∷ 0 ∷ 0 ∷ 0 ∷ 0 ∷ 0 ∷ 1 ∷ 0 ∷ 4 ∷ 0 ∷ 0 ∷ 0x0A ∷ 0 ∷ 0 ∷ 0x81 ∷ 8 ∷ 1 ∷ 0 ∷ 0 ∷ 0 ∷ replicate 129 0xAA
  -- in chunks of the size that stands anyway
  pub same : size_messages 128 ≡ []
  -- sizes that the input sets do not go on
  pub its_own : others (message 2 1 0 0 (0 ∷ 0 ∷ 1 ∷ 0 ∷ []) ∷ message 3 9 1 0 [] ∷ []) ≡ message 3 9 1 0 [] ∷ []
