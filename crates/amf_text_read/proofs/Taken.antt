-- What a token by which a goal is met says of the lists.
use Rattle.std.proofs.Common.{◌≡◌, ℕ, Bool, true, false, List, [], ◌∷◌, ◌++◌, Option, Some, None, refl}
use Rattle.std.specs.Prelude.{not, option_and_then}
use Rattle.json.specs.Token.{Token, begin_object, end_object, begin_array, end_array, key, string, number, boolean, null, bad}
use Rattle.amf_text.specs.Told.{stands_in}
use Rattle.amf_text.specs.Scalars.{read_number}
use Rattle.amf_text.specs.Meant.{without}
use Rattle.amf_text.specs.Asks.{step, if_it, left_step, goals_step}
use Rattle.amf_text.specs.Asks as asks
use Rattle.amf_text_read.specs.Goals.{Held, goal_of}
use Rattle.amf_text_read.specs.Lists.{MayTake}
use Rattle.amf_text_read.specs.declared.goal.Goal.{Goal}
use Rattle.amf_text_read.specs.declared.goal.Goal.TheVariants as goal

met_not : (b : Bool) (gs hs : List asks.Goal) → if_it (not b) gs ≡ Some hs → b ≡ false
met_not false gs hs e = refl
met_not true gs hs e = absurd cc

met_is : (b : Bool) (gs hs : List asks.Goal) → if_it b gs ≡ Some hs → b ≡ true
met_is true gs hs e = refl
met_is false gs hs e = absurd cc

left_met : (names : List (List ℕ)) (k : List ℕ) (hs : List asks.Goal) → left_step names (key k) ≡ Some hs → stands_in names k ≡ true
left_met [] k hs e = absurd cc
left_met (x ∷ xs) k hs e = met_is (stands_in (x ∷ xs) k) (asks.value ∷ asks.left (without k (x ∷ xs)) ∷ []) hs e

row_take : (h : Held) (t : Token) (hs : List asks.Goal) → step read_number (asks.row_keys h.labels.at) t ≡ Some hs → MayTake h goal.RowKeys t
unfolding step
row_take h (key k) hs e = met_not (stands_in h.labels.at k) (asks.node ∷ asks.row_keys (k ∷ h.labels.at) ∷ []) hs e
row_take h begin_object hs e = tt
row_take h end_object hs e = tt
row_take h begin_array hs e = tt
row_take h end_array hs e = tt
row_take h (string s) hs e = tt
row_take h (number s) hs e = tt
row_take h (boolean b) hs e = tt
row_take h null hs e = tt
row_take h bad hs e = tt

left_take : (h : Held) (t : Token) (hs : List asks.Goal) → step read_number (asks.left h.names.at.left) t ≡ Some hs → MayTake h goal.Left t
unfolding step
left_take h (key k) hs e = left_met h.names.at.left k hs e
left_take h begin_object hs e = tt
left_take h end_object hs e = tt
left_take h begin_array hs e = tt
left_take h end_array hs e = tt
left_take h (string s) hs e = tt
left_take h (number s) hs e = tt
left_take h (boolean b) hs e = tt
left_take h null hs e = tt
left_take h bad hs e = tt

name_take : (h : Held) (t : Token) (hs : List asks.Goal) → step read_number (asks.more_names h.names.at.told) t ≡ Some hs → MayTake h goal.MoreNames t
unfolding step
name_take h (string s) hs e = met_not (stands_in h.names.at.told s) (asks.more_names (h.names.at.told ++ s ∷ []) ∷ []) hs e
name_take h begin_object hs e = tt
name_take h end_object hs e = tt
name_take h begin_array hs e = tt
name_take h end_array hs e = tt
name_take h (key k) hs e = tt
name_take h (number s) hs e = tt
name_take h (boolean b) hs e = tt
name_take h null hs e = tt
name_take h bad hs e = tt

may_step : (h : Held) (g : Goal) (t : Token) (hs : List asks.Goal) → step read_number (goal_of h g) t ≡ Some hs → MayTake h g t
may_step h goal.RowKeys t hs e = row_take h t hs e
may_step h goal.Left t hs e = left_take h t hs e
may_step h goal.MoreNames t hs e = name_take h t hs e
may_step h _ t hs e = tt

met_some : (o : Option (List asks.Goal)) (gs all : List asks.Goal) → option_and_then (λ hs. Some (hs ++ gs)) o ≡ Some all → (hs : List asks.Goal) × (o ≡ Some hs)
met_some None gs all e = absurd cc
met_some (Some hs) gs all e = (hs, refl)

-- a goal that is met by a token
pub may_take : (h : Held) (g : Goal) (t : Token) (gs : List asks.Goal) (all : List asks.Goal) → goals_step read_number (goal_of h g ∷ gs) t ≡ Some all → MayTake h g t
may_take h g t gs all e = let m = met_some (step read_number (goal_of h g) t) gs all e in may_step h g t m.0 m.1
