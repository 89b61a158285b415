-- The head of a call is one request head of the grammar, and what the gateway's table says of it.
use Rattle.std.proofs.Common.{◌≡◌, ◌∙◌, ℕ, ◌<◌, ◌≤◌, Bool, true, false, List, [], ◌∷◌, ◌++◌, length, map, ap, refl, sym, arith, length-append, Option, Some, None}
use Rattle.std.specs.Prelude.{codes, if◌then◌else◌, nat_lt, not}
use Rattle.std.specs.List.{AllByRecursion}
use Rattle.std.specs.Str.{IsUtf8}
use Rattle.std.specs.Str.Parse.{digits_value}
use lib.Utf8.{encode}
use Rattle.std.proofs.lemmas.List.{append-nil}
use Rattle.std.proofs.lemmas.Bool.Decides.{nat_tests}
use Rattle.httparse.specs.Grammar.{RequestHead, IsToken, IsRequestHead, crlf, is_token_byte, is_uri_byte, print_request, trim_ows}
use Rattle.http_link.specs.Fields.{Fields, is_number, body_size}
use Rattle.http_link.specs.Head.{IsHead}
use Rattle.amf_http.specs.Request.{Spells}
use Rattle.amf_http.specs.Table.{body_limit, refusal_of, refusal, closes_of, closes, fields_of}
use Rattle.amf_self_call_laws.proofs.Digits.{AreDigits, digits_trimmed, digits_clear, digits_value_bytes, digits_number}
use Rattle.amf_self_call_laws.proofs.Lines.{lines_of, AreLines, lines_head}
use Rattle.amf_self_call_laws.proofs.Sections.{field_of, field_text, section_lines, passing, IsGood, all_fields}

abbrev pub request_fields : List ℕ → List ℕ → List (List ℕ × List ℕ)
request_fields port size = (codes "Host", codes "127.0.0.1:" ++ port) ∷ (codes "Content-Type", codes "application/x-amf") ∷ (codes "Content-Length", size) ∷ []

abbrev pub request_lines : List ℕ → List ℕ → List (List ℕ)
request_lines port size = codes "POST /amf HTTP/1.1" ∷ map field_text (request_fields port size)

abbrev pub request_parts : List ℕ → List ℕ → RequestHead
request_parts port size = record { blank = []; method = codes "POST"; target = codes "/amf"; minor = 1; line_end = crlf; fields = map field_of (request_fields port size); last = crlf }

module _ (port size : List ℕ) (p : AreDigits port) (d : AreDigits size) where
  are_lines : AreLines (request_lines port size)
  are_lines = (refl, (digits_clear port p, (refl, (digits_clear size d, tt))))

  host : List ℕ
  host = field_text (codes "Host", codes "127.0.0.1:" ++ port)

  pub request_head : length port ≤ 20 → length size ≤ 20 → IsHead (lines_of (request_lines port size))
  request_head a b = lines_head (codes "POST /amf HTTP/1.1") (map field_text (request_fields port size)) are_lines short
    where
      short : length (lines_of (request_lines port size)) ≤ 8192
      short = simp length-append (omega (arith, a, b))

  -- The head in the grammar.

  host_name : IsToken (codes "Host")
  unfolding is_token_byte
  host_name = (omega arith, passing is_token_byte (codes "Host") refl)

  type_name : IsToken (codes "Content-Type")
  unfolding is_token_byte
  type_name = (omega arith, passing is_token_byte (codes "Content-Type") refl)

  size_name : IsToken (codes "Content-Length")
  unfolding is_token_byte
  size_name = (omega arith, passing is_token_byte (codes "Content-Length") refl)

  method_name : IsToken (codes "POST")
  unfolding is_token_byte
  method_name = (omega arith, passing is_token_byte (codes "POST") refl)

  good : AllByRecursion IsGood (request_fields port size)
  good = ((host_name, digits_value_bytes port p), ((type_name, refl), ((size_name, digits_value_bytes size d), tt)))

  target_text : IsUtf8 (codes "/amf")
  unfolding encode
  target_text = (codes "/amf", (refl, refl))

  parts_valid : IsRequestHead (request_parts port size)
  parts_valid = record {
    method = method_name;
    target = (omega arith, passing is_uri_byte (codes "/amf") refl);
    target_text = target_text;
    minor = omega arith;
    fields = all_fields (request_fields port size) good;
  }

  printed : lines_of (request_lines port size) ≡ print_request (request_parts port size)
  unfolding print_request
  printed = ap (λ (l : List ℕ). codes "POST /amf HTTP/1.1" ++ (13 ∷ 10 ∷ l)) (sym (section_lines (request_fields port size)))

  pub request_spells : Spells (lines_of (request_lines port size)) (request_parts port size)
  request_spells = record { reads = (parts_valid, printed ∙ sym (append-nil (print_request (request_parts port size)))) }

  -- What the table says.

  abbrev read_fields : List ℕ → List ℕ → List ℕ → Fields
  read_fields host media n = (codes "Host", host) ∷ (codes "Content-Type", media) ∷ (codes "Content-Length", n) ∷ []

  media : trim_ows (32 ∷ codes "application/x-amf") ≡ codes "application/x-amf"
  unfolding trim_ows
  media = refl

  fields_are : fields_of (request_parts port size) ≡ read_fields (trim_ows (32 ∷ (codes "127.0.0.1:" ++ port))) (codes "application/x-amf") size
  fields_are =
      let h = trim_ows (32 ∷ (codes "127.0.0.1:" ++ port)) in
      ap (λ m. read_fields h m (trim_ows (32 ∷ size))) media ∙ ap (λ n. read_fields h (codes "application/x-amf") n) (digits_trimmed size d)

  abbrev long_status : Bool → Option ℕ
  long_status long = if long then Some 413 else None

  abbrev size_status : Bool → Bool → Option ℕ
  size_status number long = if not number then Some 400 else long_status long

  judged : (h : List ℕ) → refusal_of (codes "POST") (codes "/amf") 1 (read_fields h (codes "application/x-amf") size) ≡ size_status (is_number size) (nat_lt body_limit (digits_value 10 size))
  unfolding trim_ows
  judged h = refl

  request_judged : 0 < length size → refusal (request_parts port size) ≡ long_status (nat_lt body_limit (digits_value 10 size))
  request_judged some =
      ap (refusal_of (codes "POST") (codes "/amf") 1) fields_are
      ∙ judged (trim_ows (32 ∷ (codes "127.0.0.1:" ++ port)))
      ∙ ap (λ z. size_status z (nat_lt body_limit (digits_value 10 size))) (digits_number size d some)

  pub request_accepted : 0 < length size → digits_value 10 size ≤ body_limit → refusal (request_parts port size) ≡ None
  request_accepted some fits = request_judged some ∙ ap long_status short
    where
      short : nat_lt body_limit (digits_value 10 size) ≡ false
      short = grind (arith, nat_tests, fits)

  pub request_refused : 0 < length size → body_limit < digits_value 10 size → refusal (request_parts port size) ≡ Some 413
  request_refused some long = request_judged some ∙ ap long_status over
    where
      over : nat_lt body_limit (digits_value 10 size) ≡ true
      over = grind (arith, nat_tests, long)

  pub request_size : body_size (fields_of (request_parts port size)) ≡ digits_value 10 size
  request_size = ap body_size fields_are

  pub request_stays : closes (request_parts port size) ≡ false
  request_stays = ap (closes_of 1) fields_are
