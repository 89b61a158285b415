-- The bytes of a call are one request.
use Rattle.std.proofs.Common.{◌≡◌, ◌∙◌, ℕ, ◌<◌, ◌≤◌, ◌^◌, false, List, [], ◌∷◌, ◌++◌, length, ap, sym, append_assoc, arith, length-append}
use Rattle.std.specs.Prelude.{decimal, codes}
use Rattle.std.proofs.lemmas.List.{append-nil}
use Rattle.http_link.specs.Sent.{line}
use Rattle.amf_http.specs.Request.{IsHeadAccepted, by_table, BeginsWithRequest, IsRefused, bad_head}
use Rattle.amf_http.specs.Table.{body_limit}
use Rattle.amf_packet.specs.Packet.{Packet}
use Rattle.amf_client.specs.Asking.{head_with, IsRequest}
use Rattle.amf_self_call_laws.proofs.Digits.{decimal_digits, decimal_some, decimal_value, decimal_short}
use Rattle.amf_self_call_laws.proofs.Lines.{lines_of, line_then}
use Rattle.amf_self_call_laws.proofs.RequestHeads.{request_lines, request_parts, request_head, request_spells, request_accepted, request_refused, request_size, request_stays}

five_lines : (a b c d : List ℕ) → line a ++ line b ++ line c ++ line d ++ line [] ≡ lines_of (a ∷ b ∷ c ∷ d ∷ [])
five_lines a b c d =
    append_assoc (line a ++ line b ++ line c) (line d) (line [])
    ∙ ap (λ (l : List ℕ). line a ++ line b ++ line c ++ l) (line_then d (line []))
    ∙ append_assoc (line a ++ line b) (line c) (lines_of (d ∷ []))
    ∙ ap (λ (l : List ℕ). line a ++ line b ++ l) (line_then c (lines_of (d ∷ [])))
    ∙ append_assoc (line a) (line b) (lines_of (c ∷ d ∷ []))
    ∙ ap (λ (l : List ℕ). line a ++ l) (line_then b (lines_of (c ∷ d ∷ [])))
    ∙ line_then a (lines_of (b ∷ c ∷ d ∷ []))

head_lines : (port size : List ℕ) → head_with port size ≡ lines_of (request_lines port size)
head_lines port size = five_lines (codes "POST /amf HTTP/1.1") (codes "Host: 127.0.0.1:" ++ port) (codes "Content-Type: application/x-amf") (codes "Content-Length: " ++ size)

module _ (port : ℕ) (low : port < 2 ^ 16) (p : Packet) (bytes : List ℕ) (ask : IsRequest port p bytes) (fits : length bytes < 2 ^ 64) where
  size_fits : length ask.packet < 2 ^ 64
  size_fits = omega (arith, fits, ap length ask.whole, length-append (head_with (decimal port) (decimal (length ask.packet))) ask.packet)

  port_fits : port < 2 ^ 64
  port_fits = omega (arith, low)

  parts : bytes ≡ lines_of (request_lines (decimal port) (decimal (length ask.packet))) ++ ask.packet
  parts = ask.whole ∙ ap (λ (l : List ℕ). l ++ ask.packet) (head_lines (decimal port) (decimal (length ask.packet)))

  accepted : length ask.packet ≤ body_limit → IsHeadAccepted (lines_of (request_lines (decimal port) (decimal (length ask.packet)))) (length ask.packet) false
  accepted short =
      let size : List ℕ = decimal (length ask.packet) in
      let d = decimal_digits (length ask.packet) size_fits in
      let port_d = decimal_digits port port_fits in
      let value = decimal_value (length ask.packet) size_fits in
      record {
        parts = request_parts (decimal port) size;
        spells = request_spells (decimal port) size port_d d;
        accepted = request_accepted (decimal port) size port_d d (decimal_some (length ask.packet) size_fits) (omega (arith, value, short));
        size_is = sym (request_size (decimal port) size port_d d ∙ value);
        close_is = sym (request_stays (decimal port) size port_d d);
      }

  pub ask_begins : length ask.packet ≤ body_limit → BeginsWithRequest bytes ask.packet false []
  ask_begins short = record {
    head = lines_of (request_lines (decimal port) (decimal (length ask.packet)));
    is_head = request_head (decimal port) (decimal (length ask.packet)) (decimal_digits port port_fits) (decimal_digits (length ask.packet) size_fits) (decimal_short port port_fits) (decimal_short (length ask.packet) size_fits);
    accepted = accepted short;
    parts = parts ∙ sym (append-nil (lines_of (request_lines (decimal port) (decimal (length ask.packet))) ++ ask.packet));
  }

  pub ask_refused : body_limit < length ask.packet → IsRefused bytes 413
  ask_refused long =
      let size : List ℕ = decimal (length ask.packet) in
      let d = decimal_digits (length ask.packet) size_fits in
      let port_d = decimal_digits port port_fits in
      let value = decimal_value (length ask.packet) size_fits in
      bad_head (lines_of (request_lines (decimal port) size)) ask.packet
      (request_head (decimal port) size port_d d (decimal_short port port_fits) (decimal_short (length ask.packet) size_fits))
      parts
      (by_table (request_parts (decimal port) size) (request_spells (decimal port) size port_d d)
      (request_refused (decimal port) size port_d d (decimal_some (length ask.packet) size_fits) (omega (arith, value, long))))
