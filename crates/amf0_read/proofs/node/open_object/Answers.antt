use Rattle.std.proofs.Common.{◌≡◌, ℕ, ◌+◌, ◌<◌, ◌≤◌, ◌^◌, ◌⊎◌, inl, inr, length, refl, arith}
use Rattle.amf0_read.proofs.node.open_object.Goals as goal

room : (n m : ℕ) → n + 1 < 2 ^ 27 → m ≡ 0 → (134217727 ≤ n) ⊎ (33554431 < m) → ⊥
room n m lt none (inl h) = omega arith
room n m lt none (inr h) = omega arith

pub kept-requires : goal.kept-requires
kept-requires c = λ e. room (length c.args.builder.now.traits) 0 c.requires.few_traits refl (c.traits.ensures.full.0 e)
