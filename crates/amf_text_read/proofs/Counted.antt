-- Headers and messages, of which so many may still come.
use Rattle.std.proofs.Common.{◌≡◌, ℕ, zero, suc, ◌-◌, ◌<◌, List, [], ◌∷◌, ◌++◌, Option, Some, None, option_map, refl, ap, ◌∙◌, arith}
use Rattle.json.specs.Token.{begin_object}
use Rattle.amf_text.specs.Scalars.{read_number}
use Rattle.amf_text.specs.Asks.{step, goals_step}
use Rattle.amf_text_read.specs.Goals.{Held, goals_of}
use Rattle.amf_text_read.specs.declared.goal.Key.TheVariants as word
use Rattle.amf_text_read.specs.declared.goal.Goal.{Goal}
use Rattle.amf_text_read.specs.declared.goal.Goal.TheVariants as goal

abbrev pub header : List Goal
header = goal.KeyIs word.Form ∷ goal.FormWord ∷ goal.KeyIs word.Must ∷ goal.Flag ∷ goal.KeyIs word.Name ∷ goal.ShortText ∷ goal.TableOr word.Root ∷ goal.Value ∷ goal.Close ∷ []

abbrev pub message : List Goal
message = goal.KeyIs word.Form ∷ goal.FormWord ∷ goal.TableOr word.Response ∷ goal.ShortText ∷ goal.KeyIs word.Root ∷ goal.Value ∷ goal.KeyIs word.Target ∷ goal.ShortText ∷ goal.Close ∷ []

pub headers_met : (n m : ℕ) (r : Option (List Goal)) → m ≡ n - 1 → (n ≡ 0 → r ≡ None) → (0 < n → r ≡ Some (header ++ goal.MoreHeaders m ∷ [])) → (h : Held) (gs : List Goal)
    → option_map (λ ns. goals_of h (ns ++ gs)) r ≡ goals_step read_number (goals_of h (goal.MoreHeaders n ∷ gs)) begin_object
unfolding step
headers_met zero m r e none some h gs = ap (option_map (λ ns. goals_of h (ns ++ gs))) (none refl)
headers_met (suc k) m r e none some h gs =
    let f : m ≡ k = omega arith in
    ap (option_map (λ ns. goals_of h (ns ++ gs))) (some (omega arith)) ∙ ap (λ w. goals_step read_number (goals_of h (goal.MoreHeaders (suc w) ∷ gs)) begin_object) f

pub messages_met : (n m : ℕ) (r : Option (List Goal)) → m ≡ n - 1 → (n ≡ 0 → r ≡ None) → (0 < n → r ≡ Some (message ++ goal.MoreMessages m ∷ [])) → (h : Held) (gs : List Goal)
    → option_map (λ ns. goals_of h (ns ++ gs)) r ≡ goals_step read_number (goals_of h (goal.MoreMessages n ∷ gs)) begin_object
unfolding step
messages_met zero m r e none some h gs = ap (option_map (λ ns. goals_of h (ns ++ gs))) (none refl)
messages_met (suc k) m r e none some h gs =
    let f : m ≡ k = omega arith in
    ap (option_map (λ ns. goals_of h (ns ++ gs))) (some (omega arith)) ∙ ap (λ w. goals_step read_number (goals_of h (goal.MoreMessages (suc w) ∷ gs)) begin_object) f
