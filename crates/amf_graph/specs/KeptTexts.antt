-- Texts as they are kept: by the numbers of their contents, and these by their hashes. A device of proofs.
use Rattle.std.specs.Prelude.{◌≡◌, ℕ, ◌-◌, ◌<◌, ◌^◌, List, [], length, map, get_or, bit_and}
use Rattle.std.specs.List.{AllByRecursion}
use Rattle.std.specs.Hash.FoldHasher.{write, finish}
use Rattle.amf_graph.specs.declared.text_keys.TextKeys.{TextKeys}
use Rattle.amf_graph.specs.TextNumbers.{contents_of}

abbrev pub content_at : List (List ℕ) → ℕ → List ℕ
content_at cs n = get_or cs n []

-- the hash of a text: 32 bits
abbrev pub text_hash : TextKeys → List ℕ → ℕ
text_hash keys x = bit_and (finish (write (write keys.start x) keys.end)) (2 ^ 32 - 1)

pub record AreTexts (keys : TextKeys) (cs : List (List ℕ)) (hs ns : List ℕ) : Type 0 where
  pub contents : cs ≡ contents_of (map (content_at cs) ns)
  pub hashes : hs ≡ map (text_hash keys) cs
  pub numbers : AllByRecursion (λ n. n < length cs) ns
