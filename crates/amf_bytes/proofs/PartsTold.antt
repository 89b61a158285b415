-- The same parts make the same header, or message.
use Rattle.std.proofs.Common.{◌≡◌, ℕ, Bool, List, ap, ◌∙◌}
use Rattle.amf_graph.specs.Graph.{Graph}
use Rattle.amf_text.specs.Documents.{Form, Header, Message}

abbrev header : List ℕ → Bool → Form → Graph → Header Graph
header name must form graph = record { name = name; must = must; form = form; graph = graph }

abbrev message : List ℕ → List ℕ → Form → Graph → Message Graph
message target response form graph = record { target = target; response = response; form = form; graph = graph }

pub same_header : (x y : List ℕ) (must : Bool) (f k : Form) (g h : Graph) → x ≡ y → f ≡ k → g ≡ h → header x must f g ≡ header y must k h
same_header x y must f k g h name form graph = ap (λ n. header n must f g) name ∙ ap (λ l. header y must l g) form ∙ ap (header y must k) graph

pub same_message : (x y v w : List ℕ) (f k : Form) (g h : Graph) → x ≡ y → v ≡ w → f ≡ k → g ≡ h → message x v f g ≡ message y w k h
same_message x y v w f k g h target response form graph =
    ap (λ n. message n v f g) target ∙ ap (λ n. message y n f g) response ∙ ap (λ l. message y w l g) form ∙ ap (message y w k) graph
