-- A text that a builder kept. A device of proofs.
use Rattle.std.specs.Prelude.{◌≡◌, ℕ, length}
use Rattle.amf_graph.specs.Arena.{Arena, text_at}
use Rattle.amf_graph.specs.Building.{kept_text}

-- a text was kept at this place, the last
pub record KeptText (old new : Arena) (i : ℕ) : Type 0 where
  pub place : i ≡ length old.texts
  pub kept : new ≡ kept_text old (text_at new i)
