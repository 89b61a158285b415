-- A backend's reply by its bytes: what the bytes of a connection begin with, or are (RFC 9112, sections 4 and 6.3).
use Rattle.std.specs.Prelude.{◌≡◌, ℕ, ◌<◌, ◌==◌, ◌||◌, ◌&&◌, not, Bool, true, List, [], ◌∷◌, ◌++◌, length, Option, Some, None, if◌then◌else◌, nat_lt, codes, map}
use Rattle.httparse.specs.Grammar.{ResponseHead, ReadsResponse, status_code}
use Rattle.httparse.specs.Spans.{name_and_value}
use Rattle.http_link.specs.Fields.{Fields, values, has, is_plain, is_one_number, body_size}
use Rattle.http_link.specs.Head.{IsHead, HeadIsTooLong}

-- the most bytes of a body
abbrev pub body_limit : ℕ
body_limit = 16000000

-- how many bytes of body follow a head: so many, or all up to the end of the connection
pub data Framing : Type 0 where
  sized : (size : ℕ) → Framing
  to_end : Framing

-- no content has an interim reply, nor one with the status 204 or 304, whatever its fields say (RFC 9112, section 6.3)
abbrev pub has_no_content : ℕ → Bool
has_no_content code = (nat_lt 99 code && nat_lt code 200) || (code == 204) || (code == 304)

-- what follows a head; an interim reply counts as the reply, since none may answer HTTP/1.0 (RFC 9110, section 15.2)
abbrev pub framing_of : ℕ → Fields → Framing
framing_of code fields = if has_no_content code then sized 0 else (if has (codes "content-length") fields then sized (body_size fields) else to_end)

-- why a head is refused, whatever its status: a coding that is not served; lengths that are not one number, or one that is too large
abbrev pub refusal_of : Fields → Option ℕ
refusal_of fields =
    if has (codes "transfer-encoding") fields || not (is_plain fields) then Some 2 else (
    if has (codes "content-length") fields && (not (is_one_number (values (codes "content-length") fields)) || nat_lt body_limit (body_size fields)) then Some 3 else
    None)

abbrev pub fields_of : ResponseHead → Fields
fields_of h = map name_and_value h.fields

-- the head is one whole head of the grammar, with these parts
pub record Spells (head : List ℕ) (parts : ResponseHead) : Type 0 where
  pub reads : ReadsResponse head parts []

-- the head is refused by this number
pub data IsHeadRefused (head : List ℕ) (number : ℕ) : Type 0 where
  no_head : number ≡ 1 → ((parts : ResponseHead) → Spells head parts → ⊥) → IsHeadRefused head number
  by_fields : (parts : ResponseHead) → Spells head parts → refusal_of (fields_of parts) ≡ Some number → IsHeadRefused head number

-- nothing refuses the head; such a body belongs to it, and it has this status code
pub record IsHeadAccepted (head : List ℕ) (framing : Framing) (code : ℕ) : Type 0 where
  pub parts : ResponseHead
  pub spells : Spells head parts
  pub accepted : refusal_of (fields_of parts) ≡ None
  pub framing_is : framing ≡ framing_of (status_code parts) (fields_of parts)
  pub code_is : code ≡ status_code parts

-- the bytes begin with a head that is refused by this number
pub data IsRefused (bytes : List ℕ) (number : ℕ) : Type 0 where
  too_long : number ≡ 1 → HeadIsTooLong bytes → IsRefused bytes number
  bad_head : (head rest : List ℕ) → IsHead head → bytes ≡ head ++ rest → IsHeadRefused head number → IsRefused bytes number

-- the bytes begin with a head whose body has a size, with this body of that size
pub record BeginsWithReply (bytes : List ℕ) (code : ℕ) (body : List ℕ) : Type 0 where
  pub head : List ℕ
  pub rest : List ℕ
  pub is_head : IsHead head
  pub accepted : IsHeadAccepted head (sized (length body)) code
  pub parts : bytes ≡ head ++ (body ++ rest)

-- the bytes begin with a head whose body goes to the end, and this follows it so far
pub record GoesToEnd (bytes : List ℕ) (code : ℕ) (body : List ℕ) : Type 0 where
  pub head : List ℕ
  pub is_head : IsHead head
  pub accepted : IsHeadAccepted head to_end code
  pub parts : bytes ≡ head ++ body

-- what follows decides: nothing is refused, no reply of a known size is whole, and what goes to the end is not too long yet
pub record IsUndecided (bytes : List ℕ) : Type 0 where
  pub not_refused : (number : ℕ) → IsRefused bytes number → ⊥
  pub not_whole : (code : ℕ) (body : List ℕ) → BeginsWithReply bytes code body → ⊥
  pub not_longer : (code : ℕ) (body : List ℕ) → GoesToEnd bytes code body → body_limit < length body → ⊥

-- and the end of the bytes is no end of a reply
pub record IsCut (bytes : List ℕ) : Type 0 where
  pub undecided : IsUndecided bytes
  pub not_ended : (code : ℕ) (body : List ℕ) → GoesToEnd bytes code body → ⊥
