-- Plans that take the same steps over graphs that are the same but for the numbers of their nodes.
use Rattle.std.proofs.Common.{◌≡◌, ℕ, List, Option, Some, None}
use Rattle.amf_broker.specs.declared.reply.Reply.{Reply}
use Rattle.amf_graph.specs.Graph.{Graph}
use Rattle.amf_graph.specs.Isomorphic.{Isomorphic}
use Rattle.amf_packet.specs.Packet.{Packet}
use Rattle.amf_packet.specs.Alike.{PacketsMatch}
use Rattle.amf_answer_plan.specs.Plan.{Cut, Plan, gives, takes_moment, takes_word, calls, spells, reads, cuts, unpacks, packs, writes, ◌>>=◌}
use Rattle.amf_answer_plan.specs.Runs.{IsWholePacket}

-- the same value
abbrev pub Equals : {X : Type 0} → X → X → Type 0
Equals x y = x ≡ y

-- R relates what they give
abbrev pub PlansMatch : {X Y : Type 0} → (X → Y → Type 0) → Plan X → Plan Y → Type 0
PlansMatch R (gives x) (gives y) = R x y
PlansMatch R (takes_moment p) (takes_moment q) = (m : ℕ) → PlansMatch R (p m) (q m)
PlansMatch R (takes_word p) (takes_word q) = (w : ℕ) → PlansMatch R (p w) (q w)
PlansMatch R (calls m c p) (calls n d q) = (m ≡ n) × (c ≡ d) × ((r : Reply) → PlansMatch R (p r) (q r))
PlansMatch R (spells k g p) (spells l h q) = (k ≡ l) × Isomorphic g h × ((b : Option (List ℕ)) → PlansMatch R (p b) (q b))
PlansMatch R (reads b p) (reads c q) = (b ≡ c) × PlansMatch R (p None) (q None) × ((g h : Graph) → Isomorphic g h → PlansMatch R (p (Some g)) (q (Some h)))
PlansMatch R (cuts b p) (cuts c q) = (b ≡ c) × ((x : Cut) → PlansMatch R (p x) (q x))
PlansMatch R (unpacks b p) (unpacks c q) = (b ≡ c) × PlansMatch R (p None) (q None) × ((x y : Packet) → PacketsMatch x y → IsWholePacket x → IsWholePacket y → PlansMatch R (p (Some x)) (q (Some y)))
PlansMatch R (packs x p) (packs y q) = PacketsMatch x y × ((b : List ℕ) → PlansMatch R (p b) (q b))
PlansMatch R (writes b p) (writes c q) = (b ≡ c) × PlansMatch R p q
PlansMatch R _ _ = ⊥

-- one plan and then another
pub then_match : {X Y Z W : Type 0} (R : X → Y → Type 0) (S : Z → W → Type 0) (p : Plan X) (q : Plan Y) (f : X → Plan Z) (g : Y → Plan W) → PlansMatch R p q → ((x : X) (y : Y) → R x y → PlansMatch S (f x) (g y)) → PlansMatch S (◌>>=◌ p f) (◌>>=◌ q g)
then_match R S (gives x) (gives y) f g m n = n x y m
then_match R S (takes_moment p) (takes_moment q) f g m n = λ x. then_match R S (p x) (q x) f g (m x) n
then_match R S (takes_word p) (takes_word q) f g m n = λ x. then_match R S (p x) (q x) f g (m x) n
then_match R S (calls a c p) (calls b d q) f g m n = (m.0, m.1, λ r. then_match R S (p r) (q r) f g (m.2 r) n)
then_match R S (spells k x p) (spells l y q) f g m n = (m.0, m.1, λ b. then_match R S (p b) (q b) f g (m.2 b) n)
then_match R S (reads b p) (reads c q) f g m n = (m.0, then_match R S (p None) (q None) f g m.1 n, λ x y i. then_match R S (p (Some x)) (q (Some y)) f g (m.2 x y i) n)
then_match R S (cuts b p) (cuts c q) f g m n = (m.0, λ x. then_match R S (p x) (q x) f g (m.1 x) n)
then_match R S (unpacks b p) (unpacks c q) f g m n = (m.0, then_match R S (p None) (q None) f g m.1 n, λ x y i w v. then_match R S (p (Some x)) (q (Some y)) f g (m.2 x y i w v) n)
then_match R S (packs x p) (packs y q) f g m n = (m.0, λ b. then_match R S (p b) (q b) f g (m.1 b) n)
then_match R S (writes b p) (writes c q) f g m n = (m.0, then_match R S p q f g m.1 n)
then_match R S _ _ f g m n = absurd m
