-- An answer of the gateway is one reply.
use Rattle.std.proofs.Common.{◌≡◌, ◌∙◌, ℕ, ◌<◌, ◌≤◌, ◌^◌, Bool, true, false, List, [], ◌∷◌, ◌++◌, length, ap, refl, sym, append_assoc, arith, length-append, Option, Some, None}
use Rattle.std.specs.Prelude.{decimal, codes, ◌||◌, not, nat_lt, if◌then◌else◌}
use Rattle.std.specs.Str.Parse.{digits_value}
use Rattle.std.proofs.lemmas.Bool.Decides.{nat_tests}
use Rattle.std.proofs.lemmas.List.{append-nil}
use Rattle.httparse.specs.Grammar.{trim_ows}
use Rattle.http_link.specs.Fields.{Fields, is_number, body_size}
use Rattle.http_link.specs.Sent.{line}
use Rattle.amf_http.specs.Response.{response}
use Rattle.amf_client.specs.Reply.{Spells, IsHeadAccepted, by_table, BeginsWithReply, IsRefused, bad_head}
use Rattle.amf_client.specs.Table.{body_limit, refusal_of, refusal, fields_of}
use Rattle.amf_self_call_laws.proofs.Digits.{AreDigits, digits_trimmed, digits_number, decimal_digits, decimal_some, decimal_value, decimal_short}
use Rattle.amf_self_call_laws.proofs.Lines.{lines_of, line_then}
use Rattle.amf_self_call_laws.proofs.ReplyHeads.{reply_lines, reply_parts, reply_head, reply_reads, long_lines, long_parts, long_head, long_reads}

-- What the table says of the head of an answer.

abbrev read_fields : List ℕ → List ℕ → Fields
read_fields media n = (codes "Content-Type", media) ∷ (codes "Content-Length", n) ∷ []

media : trim_ows (32 ∷ codes "application/x-amf") ≡ codes "application/x-amf"
unfolding trim_ows
media = refl

abbrev long_number : Bool → Option ℕ
long_number wrong = if wrong then Some 3 else None

judged : (m n : List ℕ) → refusal_of (read_fields m n) ≡ long_number (not (is_number n) || nat_lt body_limit (digits_value 10 n))
judged m n = refl

module _ (size : List ℕ) (d : AreDigits size) where
  fields_are : fields_of (reply_parts size) ≡ read_fields (codes "application/x-amf") size
  fields_are = ap (λ m. read_fields m (trim_ows (32 ∷ size))) media ∙ ap (λ n. read_fields (codes "application/x-amf") n) (digits_trimmed size d)

  reply_judged : 0 < length size → refusal (reply_parts size) ≡ long_number (nat_lt body_limit (digits_value 10 size))
  reply_judged some =
      ap refusal_of fields_are ∙ judged (codes "application/x-amf") size
      ∙ ap (λ z. long_number (not z || nat_lt body_limit (digits_value 10 size))) (digits_number size d some)

  reply_accepted : 0 < length size → digits_value 10 size ≤ body_limit → refusal (reply_parts size) ≡ None
  reply_accepted some fits = reply_judged some ∙ ap long_number short
    where
      short : nat_lt body_limit (digits_value 10 size) ≡ false
      short = grind (arith, nat_tests, fits)

  reply_refused : 0 < length size → body_limit < digits_value 10 size → refusal (reply_parts size) ≡ Some 3
  reply_refused some long = reply_judged some ∙ ap long_number over
    where
      over : nat_lt body_limit (digits_value 10 size) ≡ true
      over = grind (arith, nat_tests, long)

  reply_size : body_size (fields_of (reply_parts size)) ≡ digits_value 10 size
  reply_size = ap body_size fields_are

four_lines : (a b c : List ℕ) → line a ++ line b ++ line c ++ line [] ≡ lines_of (a ∷ b ∷ c ∷ [])
four_lines a b c =
    append_assoc (line a ++ line b) (line c) (line [])
    ∙ ap (λ (l : List ℕ). line a ++ line b ++ l) (line_then c (line []))
    ∙ append_assoc (line a) (line b) (lines_of (c ∷ []))
    ∙ ap (λ (l : List ℕ). line a ++ l) (line_then b (lines_of (c ∷ [])))
    ∙ line_then a (lines_of (b ∷ c ∷ []))

-- An answer that was served.

served_as : (a b c body : List ℕ) → line a ++ line b ++ line c ++ [] ++ line [] ++ body ≡ lines_of (a ∷ b ∷ c ∷ []) ++ body
served_as a b c body =
    ap (λ (l : List ℕ). l ++ line [] ++ body) (append-nil (line a ++ line b ++ line c))
    ∙ ap (λ (l : List ℕ). l ++ body) (four_lines a b c)

served_is : (body : List ℕ) → response 200 body false ≡ lines_of (reply_lines (decimal (length body))) ++ body
served_is body = served_as (codes "HTTP/1.1 200 OK") (codes "Content-Type: application/x-amf") (codes "Content-Length: " ++ decimal (length body)) body

module _ (body : List ℕ) (fits : length body < 2 ^ 64) where
  spells : Spells (lines_of (reply_lines (decimal (length body)))) (reply_parts (decimal (length body)))
  spells = record { reads = reply_reads (decimal (length body)) (decimal_digits (length body) fits) }

  accepted : length body ≤ body_limit → IsHeadAccepted (lines_of (reply_lines (decimal (length body)))) (length body) 200
  accepted short =
      let d = decimal_digits (length body) fits in
      let value = decimal_value (length body) fits in
      record {
        parts = reply_parts (decimal (length body));
        spells = spells;
        accepted = reply_accepted (decimal (length body)) d (decimal_some (length body) fits) (omega (arith, value, short));
        size_is = sym (reply_size (decimal (length body)) d ∙ value);
        code_is = refl;
      }

  begins : length body ≤ body_limit → BeginsWithReply (response 200 body false) body 200 []
  begins short = record {
    head = lines_of (reply_lines (decimal (length body)));
    is_head = reply_head (decimal (length body)) (decimal_digits (length body) fits) (decimal_short (length body) fits);
    accepted = accepted short;
    parts = served_is body ∙ sym (append-nil (lines_of (reply_lines (decimal (length body))) ++ body));
  }

  pub answer_refused : body_limit < length body → IsRefused (response 200 body false) 3
  answer_refused long =
      let d = decimal_digits (length body) fits in
      let value = decimal_value (length body) fits in
      bad_head (lines_of (reply_lines (decimal (length body)))) body
      (reply_head (decimal (length body)) d (decimal_short (length body) fits))
      (served_is body)
      (by_table (reply_parts (decimal (length body))) spells
      (reply_refused (decimal (length body)) d (decimal_some (length body) fits) (omega (arith, value, long))))

pub answer_begins : (body : List ℕ) → length body ≤ body_limit → BeginsWithReply (response 200 body false) body 200 []
answer_begins body short = begins body (omega (arith, short)) short

pub answer_longer : (body : List ℕ) → length body ≤ length (response 200 body false)
answer_longer body = omega (arith, ap length (served_is body), length-append (lines_of (reply_lines (decimal (length body)))) body)

-- The answer to a request that is too long.

long_is : response 413 [] true ≡ lines_of long_lines
long_is = refl

long_accepted : IsHeadAccepted (lines_of long_lines) 0 413
unfolding trim_ows
long_accepted = record { parts = long_parts; spells = record { reads = long_reads }; accepted = refl; size_is = refl; code_is = refl }

pub answer_too_large : BeginsWithReply (response 413 [] true) [] 413 []
answer_too_large = record { head = lines_of long_lines; is_head = long_head; accepted = long_accepted; parts = refl }
