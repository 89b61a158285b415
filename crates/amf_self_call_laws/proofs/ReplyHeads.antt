-- The heads of the gateway's answers are response heads of the grammar.
use Rattle.std.proofs.Common.{◌≡◌, ◌∙◌, ℕ, ◌≤◌, List, [], ◌∷◌, ◌++◌, length, map, ap, refl, sym, arith, length-append, Some}
use Rattle.std.specs.Prelude.{codes}
use Rattle.std.proofs.lemmas.List.{append-nil}
use Rattle.httparse.specs.Grammar.{ResponseHead, IsToken, IsResponseHead, ReadsResponse, crlf, is_token_byte, is_value_byte, print_response}
use Rattle.std.specs.Char.{is_ascii_digit}
use Rattle.http_link.specs.Head.{IsHead}
use Rattle.amf_self_call_laws.proofs.Digits.{AreDigits, digits_clear, digits_value_bytes}
use Rattle.amf_self_call_laws.proofs.Lines.{lines_of, lines_head}
use Rattle.amf_self_call_laws.proofs.Sections.{field_of, field_text, section_lines, passing, all_fields}

-- of a call that was served
abbrev pub reply_fields : List ℕ → List (List ℕ × List ℕ)
reply_fields size = (codes "Content-Type", codes "application/x-amf") ∷ (codes "Content-Length", size) ∷ []

abbrev pub reply_lines : List ℕ → List (List ℕ)
reply_lines size = codes "HTTP/1.1 200 OK" ∷ map field_text (reply_fields size)

abbrev pub reply_parts : List ℕ → ResponseHead
reply_parts size = record { blank = []; minor = 1; digits = codes "200"; reason = Some (codes "OK"); line_end = crlf; fields = map field_of (reply_fields size); last = crlf }

-- of one that is too long
abbrev pub long_fields : List (List ℕ × List ℕ)
long_fields = (codes "Content-Length", codes "0") ∷ (codes "Connection", codes "close") ∷ []

abbrev pub long_lines : List (List ℕ)
long_lines = codes "HTTP/1.1 413 Content Too Large" ∷ map field_text long_fields

abbrev pub long_parts : ResponseHead
long_parts = record { blank = []; minor = 1; digits = codes "413"; reason = Some (codes "Content Too Large"); line_end = crlf; fields = map field_of long_fields; last = crlf }

type_name : IsToken (codes "Content-Type")
unfolding is_token_byte
type_name = (omega arith, passing is_token_byte (codes "Content-Type") refl)

size_name : IsToken (codes "Content-Length")
unfolding is_token_byte
size_name = (omega arith, passing is_token_byte (codes "Content-Length") refl)

link_name : IsToken (codes "Connection")
unfolding is_token_byte
link_name = (omega arith, passing is_token_byte (codes "Connection") refl)

pub long_head : IsHead (lines_of long_lines)
long_head = lines_head (codes "HTTP/1.1 413 Content Too Large") (map field_text long_fields) (refl, (refl, (refl, tt))) (omega arith)

long_valid : IsResponseHead long_parts
long_valid = record {
  minor = omega arith;
  digits = (refl, passing is_ascii_digit (codes "413") refl);
  reason = passing is_value_byte (codes "Content Too Large") refl;
  fields = all_fields long_fields ((size_name, refl), ((link_name, refl), tt));
}

long_printed : lines_of long_lines ≡ print_response long_parts
unfolding print_response
long_printed = refl

pub long_reads : ReadsResponse (lines_of long_lines) long_parts []
long_reads = (long_valid, long_printed ∙ sym (append-nil (print_response long_parts)))

module _ (size : List ℕ) (d : AreDigits size) where
  pub reply_head : length size ≤ 20 → IsHead (lines_of (reply_lines size))
  reply_head b = lines_head (codes "HTTP/1.1 200 OK") (map field_text (reply_fields size)) (refl, (refl, (digits_clear size d, tt))) short
    where
      short : length (lines_of (reply_lines size)) ≤ 8192
      short = simp length-append (omega (arith, b))

  reply_valid : IsResponseHead (reply_parts size)
  reply_valid = record {
    minor = omega arith;
    digits = (refl, passing is_ascii_digit (codes "200") refl);
    reason = passing is_value_byte (codes "OK") refl;
    fields = all_fields (reply_fields size) ((type_name, refl), ((size_name, digits_value_bytes size d), tt));
  }

  reply_printed : lines_of (reply_lines size) ≡ print_response (reply_parts size)
  unfolding print_response
  reply_printed = ap (λ (l : List ℕ). codes "HTTP/1.1 200 OK" ++ (13 ∷ 10 ∷ l)) (sym (section_lines (reply_fields size)))

  pub reply_reads : ReadsResponse (lines_of (reply_lines size)) (reply_parts size) []
  reply_reads = (reply_valid, reply_printed ∙ sym (append-nil (print_response (reply_parts size))))
